-- What holds of each action that comes holds of all that a replica holds and says through a turn.
use Rattle.std.proofs.Common.{◌≡◌, ℕ, zero, suc, ◌-◌, Bool, not, List, [], ◌∷◌, ◌++◌, fold, find, flat_map, Some, None, refl, sym, ◌∙◌, subst, option_map, if◌then◌else◌}
use Rattle.std.specs.Prelude.{◌==◌, nat_le}
use Rattle.std.specs.Option.{option_to_list}
use Rattle.std.proofs.lemmas.Bool.{cond_both}
use Rattle.cg_base.specs.declared.action_id.ActionId.{ActionId}
use Rattle.cg_base.specs.Cuts.{index_in}
use Rattle.cg_base.specs.Ids.{same_id, id_before}
use Rattle.cg_base.specs.Lists.{at_place, Each}
use Rattle.cg_base.specs.EachLaws.{Each-append, Each-filter, Each-front}
use Rattle.cg_action.specs.declared.action.Action.{Action}
use Rattle.cg_action.specs.declared.action.Kind.{Kind}
use Rattle.cg_queue.specs.Queue.{QueueView, Marks, Gaps, with_red, placed_red}
use Rattle.cg_queue.specs.declared.mark.Mark.TheVariants.{Placed, Known}
use Rattle.cg_plan.specs.declared.parts.Item.{Item}
use Rattle.cg_plan.specs.declared.parts.Item.TheVariants.{Green, Red}
use Rattle.cg_plan.specs.Items.{items_of}
use Rattle.cg_wire.specs.declared.message.Msg.{Msg}
use Rattle.cg_wire.specs.declared.message.Msg.TheVariants.{Action as ActionMsg, State as StateMsg, GreenItem, RedItem, Cpc}
use Rattle.cg_client.specs.Replica.{Held}
use Rattle.cg_client.specs.Turn.{Turn}
use Rattle.cg_client.specs.Marks.{after_first, marked, place_green}
use Rattle.cg_client.specs.Requests.{create, create_kept, empty_buffer, next_action}
use Rattle.cg_client.specs.Summary.{redden, forget_own, own_to_red}
use Rattle.cg_states.specs.ExchangeActions.{message_of, messages_in_part}
use Rattle.cg_model.specs.Recorded.{OfMessage}
use Rattle.cg_model.specs.FactsBooks.{HoldsFine}
use Rattle.cg_model.specs.Talk.{action_in}
use Rattle.cg_agree_lemmas.specs.TurnRows.{IsRule}

module _ (Fine : Action → Type 0) where
  -- all that is held is fine, and all that is said
  pub record AllFine (t : Turn) : Type 0 where
    pub held : HoldsFine Fine t.replica.held
    pub sent : Each (OfMessage Fine) t.sent

  -- ---- lists

  pub each-with_red : (reds : List Action) (a : Action) → Fine a → Each Fine reds → Each Fine (with_red reds a)
  each-with_red [] a fine each = (fine, tt)
  each-with_red (x ∷ reds) a fine each =
      cond_both (id_before a.id x.id) (a ∷ x ∷ reds) (x ∷ with_red reds a) (Each Fine) (λ y. (fine, each)) (λ n. (each.0, each-with_red reds a fine each.1))

  pub each-after : (own : List Action) (id : ActionId) → Each Fine own → Each Fine (after_first own id)
  each-after [] id each = tt
  each-after (x ∷ own) id each = cond_both (same_id x.id id) own (x ∷ own) (Each Fine) (λ y. each.1) (λ n. each)

  each-find : (p : Action → Bool) (make : Action → Msg) (xs : List Action) → ((a : Action) → Fine a → OfMessage Fine (make a)) → Each Fine xs → Each (OfMessage Fine) (option_to_list (option_map make (find p xs)))
  each-find p make [] of each = tt
  each-find p make (x ∷ xs) of each =
      cond_both (p x) (Some x) (find p xs) (λ o. Each (OfMessage Fine) (option_to_list (option_map make o))) (λ y. (of x each.0, tt)) (λ n. each-find p make xs of each.1)

  each-place : (place n : ℕ) (xs : List Action) → Each Fine xs → Each (OfMessage Fine) (option_to_list (option_map (GreenItem place) (at_place xs n)))
  each-place place zero xs each = tt
  each-place place (suc n) [] each = tt
  each-place place (suc zero) (x ∷ xs) each = (each.0, tt)
  each-place place (suc (suc n)) (x ∷ xs) each = each-place place (suc n) xs each.1

  item-fine : (q : QueueView) (item : Item) → Each Fine q.greens → Each Fine q.reds → Each (OfMessage Fine) (option_to_list (message_of q item))
  item-fine q (Green place) greens reds = each-place place (place - q.white) q.greens greens
  item-fine q (Red id) greens reds = each-find (λ a. same_id a.id id) RedItem (q.greens ++ q.reds) (λ a fine. fine) (Each-append Fine q.greens q.reds greens reds)

  items-fine : (q : QueueView) (items : List Item) → Each Fine q.greens → Each Fine q.reds → Each (OfMessage Fine) (flat_map (λ item. option_to_list (message_of q item)) items)
  items-fine q [] greens reds = tt
  items-fine q (item ∷ items) greens reds =
      Each-append (OfMessage Fine) (option_to_list (message_of q item)) (flat_map (λ item. option_to_list (message_of q item)) items)
      (item-fine q item greens reds) (items-fine q items greens reds)

  no-action : (m : Msg) → action_in m ≡ None → OfMessage Fine m
  no-action (StateMsg s) e = tt
  no-action (Cpc id conf) e = tt
  no-action (ActionMsg a) e = absurd (let clash : Some a ≡ None = e in cc)
  no-action (GreenItem at a) e = absurd (let clash : Some a ≡ None = e in cc)
  no-action (RedItem a) e = absurd (let clash : Some a ≡ None = e in cc)

  -- ---- own actions become red

  known-fine : (h : Held) (a : Action) → Fine a → HoldsFine Fine h → HoldsFine Fine (record h { queue = placed_red h.queue a; own = after_first h.own a.id })
  known-fine h a fine is = record { greens = is.greens; reds = each-with_red h.queue.reds a fine is.reds; own = each-after h.own a.id is.own }

  redden-fine : (t : Turn) (a : Action) → Fine a → HoldsFine Fine t.replica.held → HoldsFine Fine (redden t a).replica.held
  redden-fine t a fine is =
      let q = t.replica.held.queue in
      let cut = index_in q.red_cut a.id.creator in
      cond_both (nat_le a.id.index cut) (Marks Known q) (if a.id.index == suc cut then Marks Placed (placed_red q a) else Gaps cut) (λ m. HoldsFine Fine (marked t a m).replica.held)
      (λ y. record { greens = is.greens; reds = is.reds; own = is.own })
      (λ n. cond_both (a.id.index == suc cut) (Marks Placed (placed_red q a)) (Gaps cut) (λ m. HoldsFine Fine (marked t a m).replica.held)
      (λ y. known-fine t.replica.held a fine is)
      (λ n. is))

  reddens-fine : (list : List Action) (t : Turn) → Each Fine list → HoldsFine Fine t.replica.held → HoldsFine Fine (fold redden t list).replica.held
  reddens-fine [] t each is = is
  reddens-fine (a ∷ list) t each is = reddens-fine list (redden t a) each.1 (redden-fine t a each.0 is)

  reddens-sent : (list : List Action) (t : Turn) → (fold redden t list).sent ≡ t.sent
  reddens-sent [] t = refl
  reddens-sent (a ∷ list) t = reddens-sent list (redden t a) ∙ one where
    one : (redden t a).sent ≡ t.sent
    one =
        let q = t.replica.held.queue in
        let cut = index_in q.red_cut a.id.creator in
        cond_both (nat_le a.id.index cut) (Marks Known q) (if a.id.index == suc cut then Marks Placed (placed_red q a) else Gaps cut) (λ m. (marked t a m).sent ≡ t.sent)
        (λ y. refl) (λ n. cond_both (a.id.index == suc cut) (Marks Placed (placed_red q a)) (Gaps cut) (λ m. (marked t a m).sent ≡ t.sent) (λ y. refl) (λ n. refl))

  pub own-fine : (t : Turn) → HoldsFine Fine t.replica.held → HoldsFine Fine (own_to_red t).replica.held
  unfolding own_to_red
  own-fine t is = reddens-fine t.replica.held.own (forget_own t) is.own (record { greens = is.greens; reds = is.reds; own = tt })

  own-sent : (t : Turn) → (own_to_red t).sent ≡ t.sent
  unfolding own_to_red
  own-sent t = reddens-sent t.replica.held.own (forget_own t)

  -- ---- each change

  pub fine-rule : IsRule AllFine Fine
  unfolding place_green
  fine-rule = record {
    greens = λ t p. p.held.greens;
    reds = λ t p. p.held.reds;
    goes = λ t state apart p. record { held = p.held; sent = p.sent };
    leaves = λ t p. record { held = record { greens = p.held.greens; reds = p.held.reds; own = p.held.own }; sent = p.sent };
    says = λ t m none p. record { held = p.held; sent = Each-append (OfMessage Fine) t.sent (m ∷ []) p.sent (no-action m none, tt) };
    part = λ t part p. record {
      held = p.held;
      sent = (let q = t.replica.held.queue in Each-append (OfMessage Fine) t.sent (messages_in_part q part) p.sent (items-fine q (items_of part) p.held.greens p.held.reds));
    };
    values = λ t yellow valid prim index v p. record { held = record { greens = p.held.greens; reds = p.held.reds; own = p.held.own }; sent = p.sent };
    known = λ t a fine next made p. record { held = known-fine t.replica.held a fine p.held; sent = p.sent };
    green = λ t a fine next made p. record {
      held = record {
        greens = Each-append Fine t.replica.held.queue.greens (a ∷ []) p.held.greens (fine, tt);
        reds = Each-filter Fine (λ x. not (same_id x.id a.id)) t.replica.held.queue.reds p.held.reds;
        own = each-after t.replica.held.own a.id p.held.own;
      };
      sent = p.sent;
    };
    own_red = λ t p. record { held = own-fine t p.held; sent = subst (Each (OfMessage Fine)) (sym (own-sent t)) p.sent };
  }

  -- ---- requests, where each action that is made is fine

  each-last : (xs : List Action) (y : Action) → Each Fine (xs ++ y ∷ []) → Fine y
  each-last [] y each = each.0
  each-last (x ∷ xs) y each = each-last xs y each.1

  pub create-fine : (t : Turn) (kind : Kind) → Each Fine (create t kind).made → AllFine t → AllFine (create t kind)
  unfolding create
  create-fine t kind made is =
      let a = next_action t.replica.held kind in
      let fine = each-last t.made a made in
      record {
        held = record { greens = is.held.greens; reds = is.held.reds; own = Each-append Fine t.replica.held.own (a ∷ []) is.held.own (fine, tt) };
        sent = Each-append (OfMessage Fine) t.sent (ActionMsg a ∷ []) is.sent (fine, tt);
      }

  made-first : (list : List Kind) (t : Turn) → Each Fine (fold create t list).made → Each Fine t.made
  unfolding create
  made-first [] t made = made
  made-first (kind ∷ list) t made = Each-front Fine t.made (next_action t.replica.held kind ∷ []) (made-first list (create t kind) made)

  creates-fine : (list : List Kind) (t : Turn) → Each Fine (fold create t list).made → AllFine t → AllFine (fold create t list)
  creates-fine [] t made is = is
  creates-fine (kind ∷ list) t made is = creates-fine list (create t kind) made (create-fine t kind (made-first list (create t kind) made) is)

  pub kept-fine : (t : Turn) → Each Fine (create_kept t).made → AllFine t → AllFine (create_kept t)
  unfolding create_kept
  kept-fine t made is =
      creates-fine t.replica.held.buffered (empty_buffer t) made
      (record { held = record { greens = is.held.greens; reds = is.held.reds; own = is.held.own }; sent = is.sent })

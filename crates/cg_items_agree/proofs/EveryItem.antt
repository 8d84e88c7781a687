-- What the items of every run agree on that ask for the relaxed database.
use Rattle.std.proofs.Common.{◌≡◌, ℕ, true, false, List, [], ◌∷◌, ◌++◌, Option, Some, None, is_none, is_some, refl, sym, ap, ◌∙◌, subst}
use Rattle.std.specs.Option.{option_map_or}
use Rattle.std.proofs.lemmas.Option.{none-some}
use Rattle.cg_action.specs.declared.action.Action.{Action}
use Rattle.cg_queue.specs.Queue.{names_of}
use Rattle.cg_group.specs.declared.reason.Reason.{Reason}
use Rattle.cg_group.specs.State.{is_up}
use Rattle.cg_group.specs.Refusals.{not_up}
use Rattle.cg_client.specs.Replica.{Replica}
use Rattle.cg_model.specs.World.{World, no_world}
use Rattle.cg_model.specs.Admission.{unknown}
use Rattle.cg_model.specs.Run.{Step, IsRunFrom, world_after}
use Rattle.cg_model.specs.Shown.{made_action}
use Rattle.cg_model.specs.Making.{AlwaysMadeInBook}
use Rattle.cg_model.specs.Standing.{AlwaysStands}
use Rattle.cg_model.specs.Telling.{EveryRunTells}
use Rattle.cg_agree_lemmas.specs.MadeAlone.{IsRunning, is-running}
use Rattle.cg_agree_lemmas.specs.UnorderedKept.{first-none, refused-not}
use Rattle.cg_relaxed.specs.declared.cell.Cell.{Cell}
use Rattle.cg_relaxed.specs.Cells.{cell_of}
use Rattle.cg_relaxed.specs.Laws.{OrderDoesNotMatter}
use Rattle.cg_made_rows.specs.declared.relaxed_event.RelaxedEvent.{RelaxedEvent}
use Rattle.cg_made_rows.specs.declared.relaxed_event.RelaxedEvent.TheVariants.{One, Both}
use Rattle.cg_made_rows.specs.declared.relaxed_line.RelaxedLine.TheVariants.{One as ShownOne, Both as ShownBoth}
use Rattle.cg_items.specs.declared.companion.Companion.{Companion}
use Rattle.cg_items.specs.declared.companion.Companion.TheVariants.{Alone, Followers, Relaxed, Sessions, Comparing, Imaging}
use Rattle.cg_items.specs.declared.companion.Further.TheVariants as further
use Rattle.cg_items.specs.AfterItems.{ItemAfter, world_behind}
use Rattle.cg_items.specs.Companion.{further_refusal}
use Rattle.cg_items.specs.Items.{Item, steps_of}
use Rattle.cg_items.specs.Kept.{AreNoted, kept_behind}
use Rattle.cg_items.specs.OfRun.{AreOfRun}
use Rattle.cg_items.specs.Refused.{Refused, OfFurther}
use Rattle.cg_items.specs.RelaxedAgree.{KnowSame, RelaxedAgree, known_by, relaxed_due, relaxed_event_of, relaxed_shown}
use Rattle.cg_items.specs.Relaxing.{known_cut, relaxed_lines, relaxed_refusal, unknown_or_down}
use Rattle.cg_items_agree.specs.EveryRelaxed.{RelaxedOfEveryRunAgree}
use Rattle.cg_items_agree.proofs.NotedItems.{IsNotedIn, is_relaxed, kept-rows, kind-kept, noted-at, others-ask, others-noted, others-refuse, relaxed-noted, relaxed-taken, shown-alone, shown_of}
use Rattle.cg_items_agree.proofs.KnownActions.{Knows, knows}
use Rattle.cg_items_agree.proofs.KnownCells.{both-cell, one-cell}
use Rattle.cg_items_agree.proofs.KnownNames.{same-times}
use Rattle.cg_items_agree.proofs.MadeNames.{own-later}
use Rattle.cg_items_agree.proofs.MadeRows.{rows_of}
use Rattle.cg_items_agree.proofs.RelaxedRun.{IsBeside, beside-run}
use Rattle.cg_items_agree.proofs.SameCells.{same-cells}
use Rattle.cg_items.specs.ItemLaws.{steps-append}
use Rattle.cg_model.specs.RunLaws.{front-run}

module _ (stand : AlwaysStands) (tell : EveryRunTells) (book : AlwaysMadeInBook) (order : OrderDoesNotMatter) where
  -- ---- behind the steps of a run

  module _ (steps : List Step) (run : IsRunFrom no_world steps) where
    abbrev w : World
    w = world_after no_world steps

    beside : IsBeside steps
    beside = beside-run stand tell book steps run

    -- a replica that is asked is up
    asked-up : (p : ℕ) → unknown_or_down w p ≡ None → IsRunning w p
    asked-up p admitted =
        let stands = stand.beside _ w beside.reached in
        let second = (first-none (unknown w p) (not_up w.group p ∷ []) (ap is_none admitted)).1 in
        let up : is_up w.group p ≡ true = refused-not (is_up w.group p) _ (first-none (not_up w.group p) [] second).0 in
        is-running w p (ap is_some (stands.same.running p) ∙ stands.facts.net.phase_sound.up p ∙ ap (λ g. is_up g p) (sym stands.same.group) ∙ up)

    known : (p : ℕ) → unknown_or_down w p ≡ None → Knows steps p (known_cut w p)
    known p admitted =
        let is = asked-up p admitted in
        subst (Knows steps p) (sym (ap (λ (o : Option Replica). option_map_or (λ r. r.held.queue.red_cut) o []) is.is))
        (knows stand tell steps run beside p is.replica is.is)

    one-asked : (p : ℕ) (key : List ℕ) → relaxed_refusal w (One p key) ≡ None → unknown_or_down w p ≡ None
    unfolding relaxed_refusal
    one-asked p key admitted = admitted

    both-asked : (p q : ℕ) (key : List ℕ) → relaxed_refusal w (Both p q key) ≡ None →
        (unknown_or_down w p ≡ None) × (unknown_or_down w q ≡ None)
    unfolding relaxed_refusal
    both-asked p q key admitted =
        let first = first-none (unknown_or_down w p) (unknown_or_down w q ∷ []) (ap is_none admitted) in
        (first.0, (first-none (unknown_or_down w q) [] first.1).0)

    -- what is shown is due
    lines-due : (e : RelaxedEvent) → relaxed_refusal w e ≡ None →
        relaxed_lines w (rows_of [] steps) e ≡ relaxed_due steps (Some e)
    unfolding relaxed_lines
    lines-due (One p key) admitted =
        ap (λ (c : Cell). ShownOne p c ∷ []) (one-cell order steps beside key p (known_cut w p) (known p (one-asked p key admitted)))
    lines-due (Both p q key) admitted =
        let asked = both-asked p q key admitted in
        ap (λ (c : Cell). ShownBoth p q c ∷ []) (both-cell order steps beside key p q (known_cut w p) (known_cut w q) (known p asked.0) (known q asked.1))

  -- two that know the same have the same cell
  same-cell : (a b : List Step) (run : IsRunFrom no_world a) (also : IsRunFrom no_world (a ++ b)) (p q : ℕ) (key : List ℕ) →
      relaxed_refusal (world_after no_world a) (One p key) ≡ None → relaxed_refusal (world_after no_world (a ++ b)) (One q key) ≡ None →
      KnowSame (known_by a p) (known_by (a ++ b) q) → cell_of (known_by (a ++ b) q) key ≡ cell_of (known_by a p) key
  same-cell a b run also p q key one other same =
      let first = known a run p (one-asked a run p key one) in
      let second = known (a ++ b) also q (one-asked (a ++ b) also q key other) in
      same-cells (made_action (a ++ b)) order key [] (known_by (a ++ b) q) (known_by a p) second.own (own-later a b (known_by a p) first.own)
      (λ id. same-times id (names_of (known_by (a ++ b) q)) (names_of (known_by a p)) (second.names.once id) (first.names.once id) (sym (same id)))

  -- ---- where made actions are kept

  module _ (items : List Item) (run : IsRunFrom no_world (steps_of items)) (noted : AreNoted no_world (Relaxed []) 0 items) where
    steps-split : (earlier : List Item) (i : Item) (after : ItemAfter items earlier i) →
        IsRunFrom no_world (steps_of earlier ++ steps_of (i ∷ after.0))
    steps-split earlier i after =
        subst (IsRunFrom no_world) (steps-append earlier (i ∷ after.0)) (subst (λ (all : List Item). IsRunFrom no_world (steps_of all)) after.1 run)

    run-before : (earlier : List Item) (i : Item) → ItemAfter items earlier i → IsRunFrom no_world (steps_of earlier)
    run-before earlier i after = front-run no_world (steps_of earlier) (steps_of (i ∷ after.0)) (steps-split earlier i after)

    noted-in : (earlier : List Item) (i : Item) → ItemAfter items earlier i →
        IsNotedIn (world_behind earlier) (Relaxed (rows_of [] (steps_of earlier))) i
    noted-in earlier i after =
        subst (λ (c : Companion). IsNotedIn (world_behind earlier) c i) (kept-rows no_world [] earlier)
        (noted-at no_world (Relaxed []) 0 earlier i after.0 (subst (AreNoted no_world (Relaxed []) 0) after.1 noted))

    admitted-in : (earlier : List Item) (i : Item) (e : RelaxedEvent) → ItemAfter items earlier i →
        relaxed_event_of i ≡ Some e → relaxed_refusal (world_behind earlier) e ≡ None
    admitted-in earlier i e after is =
        relaxed-taken (world_behind earlier) (rows_of [] (steps_of earlier)) i.further i.step e (noted-in earlier i after).taken is

    lines-in : (earlier : List Item) (i : Item) → ItemAfter items earlier i →
        relaxed_shown (i ∷ []) ≡ relaxed_due (steps_of earlier) (relaxed_event_of i)
    lines-in earlier i after =
        let is = noted-in earlier i after in
        shown-alone i _ is.lines ∙ relaxed-noted (world_behind earlier) (rows_of [] (steps_of earlier)) i.further i.step is.taken ∙ at (relaxed_event_of i) refl where
          at : (o : Option RelaxedEvent) → relaxed_event_of i ≡ o →
              shown_of (world_behind earlier) (rows_of [] (steps_of earlier)) o ≡ relaxed_due (steps_of earlier) o
          at None e = refl
          at (Some x) e = lines-due (steps_of earlier) (run-before earlier i after) x (admitted-in earlier i x after e)

    same-in : (earlier between : List Item) (i j : Item) (p q : ℕ) (key : List ℕ) → ItemAfter items earlier i →
        ItemAfter items (earlier ++ i ∷ between) j →
        relaxed_event_of i ≡ Some (One p key) → relaxed_event_of j ≡ Some (One q key) →
        KnowSame (known_by (steps_of earlier) p) (known_by (steps_of (earlier ++ i ∷ between)) q) →
        (c : Cell) × (relaxed_shown (i ∷ []) ≡ ShownOne p c ∷ []) × (relaxed_shown (j ∷ []) ≡ ShownOne q c ∷ [])
    same-in earlier between i j p q key after also one other same =
        let now = earlier ++ i ∷ between in
        let a = steps_of earlier in
        let b = steps_of (i ∷ between) in
        let joined : steps_of now ≡ a ++ b = steps-append earlier (i ∷ between) in
        let cells : cell_of (known_by (steps_of now) q) key ≡ cell_of (known_by a p) key =
        subst (λ (s : List Step). IsRunFrom no_world s → relaxed_refusal (world_after no_world s) (One q key) ≡ None → KnowSame (known_by a p) (known_by s q) → cell_of (known_by s q) key ≡ cell_of (known_by a p) key) (sym joined)
        (λ late admitted knows_same. same-cell a b (run-before earlier i after) late p q key (admitted-in earlier i (One p key) after one) admitted knows_same)
        (run-before now j also) (admitted-in now j (One q key) also other) same in (
          cell_of (known_by a p) key,
          lines-in earlier i after ∙ ap (relaxed_due a) one,
          lines-in now j also ∙ ap (relaxed_due (steps_of now)) other ∙ ap (λ (c : Cell). ShownOne q c ∷ []) cells,
        )

    relaxed-of : (refused : Option Refused) →
        ((e : RelaxedEvent) (reason : Reason) → refused ≡ Some (OfFurther (further.Relaxed e) reason) → further_refusal (world_behind items) (kept_behind no_world (Relaxed []) items) (further.Relaxed e) ≡ Some reason) →
        RelaxedAgree items refused
    relaxed-of refused told = record {
      lines = lines-in;
      same = same-in;
      admitted = admitted-in;
      reason = λ e reason is.
          ap (λ (c : Companion). further_refusal (world_behind items) c (further.Relaxed e)) (sym (kept-rows no_world [] items)) ∙ told e reason is;
    }

  -- ---- where something else is kept

  module _ (c : Companion) (items : List Item) (other : is_relaxed c ≡ false) (noted : AreNoted no_world c 0 items) where
    kept-other : (earlier : List Item) → is_relaxed (kept_behind no_world c earlier) ≡ false
    kept-other earlier = kind-kept no_world c earlier ∙ other

    other-in : (earlier : List Item) (i : Item) → ItemAfter items earlier i →
        IsNotedIn (world_behind earlier) (kept_behind no_world c earlier) i
    other-in earlier i after = noted-at no_world c 0 earlier i after.0 (subst (AreNoted no_world c 0) after.1 noted)

    nothing-asked : (earlier : List Item) (i : Item) → ItemAfter items earlier i → relaxed_event_of i ≡ None
    nothing-asked earlier i after = others-ask (world_behind earlier) (kept_behind no_world c earlier) i.further i.step (kept-other earlier) (other-in earlier i after).taken

    never : (earlier : List Item) (i : Item) (e : RelaxedEvent) → ItemAfter items earlier i →
        relaxed_event_of i ≡ Some e → ⊥
    never earlier i e after is = none-some e (sym (nothing-asked earlier i after) ∙ is)

    others-of : (refused : Option Refused) →
        ((e : RelaxedEvent) (reason : Reason) → refused ≡ Some (OfFurther (further.Relaxed e) reason) → further_refusal (world_behind items) (kept_behind no_world c items) (further.Relaxed e) ≡ Some reason) →
        RelaxedAgree items refused
    others-of refused told = record {
      lines = λ earlier i after.
          shown-alone i _ (other-in earlier i after).lines
          ∙ others-noted (world_behind earlier) (kept_behind no_world c earlier) i.further i.step (kept-other earlier)
          ∙ sym (ap (relaxed_due (steps_of earlier)) (nothing-asked earlier i after));
      same = λ earlier between i j p q key after also one two same. absurd (never earlier i (One p key) after one);
      admitted = λ earlier i e after is. absurd (never earlier i e after is);
      reason = λ e reason is. absurd (none-some reason (sym (others-refuse (world_behind items) (kept_behind no_world c items) e (kept-other items)) ∙ told e reason is));
    }

  pub relaxed-agree : RelaxedOfEveryRunAgree
  relaxed-agree Alone items refused is = others-of Alone items refl is.noted refused (λ e reason told. is.told (further.Relaxed e) reason told)
  relaxed-agree (Followers fs) items refused is = others-of (Followers fs) items refl is.noted refused (λ e reason told. is.told (further.Relaxed e) reason told)
  relaxed-agree (Sessions ss) items refused is = others-of (Sessions ss) items refl is.noted refused (λ e reason told. is.told (further.Relaxed e) reason told)
  relaxed-agree Comparing items refused is = others-of Comparing items refl is.noted refused (λ e reason told. is.told (further.Relaxed e) reason told)
  relaxed-agree (Imaging replica) items refused is = others-of (Imaging replica) items refl is.noted refused (λ e reason told. is.told (further.Relaxed e) reason told)
  relaxed-agree (Relaxed rows) items refused is =
      subst (λ (rows : List (List Action)). AreOfRun (Relaxed rows) items refused → RelaxedAgree items refused) (sym is.first)
      (λ of. relaxed-of items of.run of.noted refused (λ e reason told. of.told (further.Relaxed e) reason told)) is

-- A gathering in small steps, first half: each message of each regular member gets a place, one after another.
use Rattle.std.proofs.Common.{◌≡◌, ℕ, suc, ◌≤◌, true, false, not, List, [], ◌∷◌, Option, Some, None, map, fold, flat_map, length, refl, sym, ap, ap₂, ◌∙◌, eq-eqb, subst, is_some, is_none, arith}
use Rattle.std.specs.Prelude.{◌==◌}
use Rattle.std.specs.Option.{option_map_or}
use Rattle.std.proofs.lemmas.Bool.{ne_eqb, not-true, or_right}
use Rattle.cg_base.specs.Lists.{first_some}
use Rattle.cg_base.specs.Sets.{has}
use Rattle.cg_wire.specs.declared.message.Msg.{Msg}
use Rattle.cg_group.specs.declared.phase.Phase.TheVariants.{Down}
use Rattle.cg_group.specs.declared.reason.Reason.{Reason}
use Rattle.cg_group.specs.declared.reason.Reason.TheVariants.{NotUp, NotRegular, NothingToOrder}
use Rattle.cg_group.specs.State.{Standing, GroupState, standing_of, configuration, regular_in, is_regular, unordered_of, set_standing, set_configuration}
use Rattle.cg_group.specs.Events.{order, order_from, order_all, with_message}
use Rattle.cg_group.specs.Refusals.{refuse, not_up, not_regular, nothing_to_order, order_refusal}
use Rattle.cg_group.specs.LookupLaws.{standing_of-set, put-other, put-same as put-here}
use Rattle.cg_model.specs.World.{World}
use Rattle.cg_model.specs.Small.{Small, Orders}
use Rattle.cg_model.specs.Smalls.{may_make}
use Rattle.cg_model.specs.FactsLists.{IsRising}
use Rattle.cg_agree_lemmas.specs.GroupTurn.{standing-id}
use Rattle.cg_agree_lemmas.specs.SmallWorlds.{grouped, small_in, may_in, played_in, MayIn, played-append, may-append}

-- ---- orders

-- a member that is regular and has these messages waiting
pub record Waits (g : GroupState Msg) (p : ℕ) (list : List Msg) : Type 0 where
  pub standing : Standing Msg
  pub is : standing_of g p ≡ Some standing
  pub regular : (regular_in standing.phase == 0) ≡ false
  pub waiting : standing.unordered ≡ list

-- its oldest message gets a place
pub ordered-waits : (g : GroupState Msg) (p : ℕ) (m : Msg) (list : List Msg) → Waits g p (m ∷ list) → Waits (order g p) p list
unfolding order order_from standing_of set_configuration set_standing
ordered-waits g p m list is =
    let s = is.standing in
    let new : Standing Msg = record s { unordered = list } in
    let conf = regular_in s.phase in
    let h = set_configuration (set_standing g new) conf (with_message (configuration g conf) s.id m) in
    let chosen : option_map_or (λ s. order_from g s s.unordered) (standing_of g p) g ≡ h =
    ap (λ (o : Option (Standing Msg)). option_map_or (λ s. order_from g s s.unordered) o g) is.is ∙ ap (order_from g s) is.waiting in
    let id = standing-id g p s is.is in
    subst (λ x. Waits x p list) (sym chosen) record {
      standing = new;
      is = ap (standing_of (set_standing g new)) (sym id) ∙ standing_of-set g new s.id ∙ put-here (standing_of g) s.id (Some new);
      regular = is.regular;
      waiting = refl;
    }

-- and nothing is changed of another
pub ordered-others : (g : GroupState Msg) (p q : ℕ) → (q ≡ p → ⊥) → standing_of (order g p) q ≡ standing_of g q
unfolding order order_from standing_of set_configuration set_standing
ordered-others g p q apart = at (standing_of g p) refl where
  from : (s : Standing Msg) → standing_of g p ≡ Some s → (list : List Msg) → standing_of (order_from g s list) q ≡ standing_of g q
  from s e [] = refl
  from s e (m ∷ rest) = standing_of-set g (record s { unordered = rest }) q
      ∙ put-other (standing_of g) s.id (Some (record s { unordered = rest })) q (λ same. apart (same ∙ standing-id g p s e))

  at : (o : Option (Standing Msg)) → standing_of g p ≡ o → standing_of (option_map_or (λ s. order_from g s s.unordered) o g) q ≡ standing_of g q
  at None e = refl
  at (Some s) e = from s e s.unordered

may-order : (w : World) (h : GroupState Msg) (p : ℕ) (m : Msg) (list : List Msg) → Waits h p (m ∷ list) → may_in (grouped w h) (Orders p) ≡ true
unfolding may_in may_make order_refusal
may-order w h p m list is =
    let up : not_up h p ≡ None = ap (λ (o : Option (Standing Msg)). refuse (not (is_some o)) (NotUp p)) is.is in
    let regular : not_regular h p ≡ None =
    ap (λ (o : Option (Standing Msg)). refuse (not (not (regular_in (option_map_or (λ s. s.phase) o Down) == 0))) (NotRegular p)) is.is ∙ ap (λ b. refuse (not (not b)) (NotRegular p)) is.regular in
    let some : nothing_to_order h p ≡ None =
    ap (λ (o : Option (Standing Msg)). refuse (length (option_map_or (λ s. s.unordered) o []) == 0) (NothingToOrder p)) is.is
    ∙ ap (λ (list : List Msg). refuse (length list == 0) (NothingToOrder p)) is.waiting
    ∙ ap (λ b. refuse b (NothingToOrder p)) (ne_eqb (length (m ∷ list)) 0 (λ e. (let clash : suc (length list) ≡ 0 = e in cc))) in
    ap₂ (λ a (b : List (Option Reason)). is_none (first_some (a ∷ b))) up (ap₂ (λ a b. a ∷ b ∷ []) regular some)

-- all of one member's
pub orders-one : (w : World) (list : List Msg) (h : GroupState Msg) (p : ℕ) → Waits h p list →
    MayIn (grouped w h) (map (λ (m : Msg). Orders p) list) × (played_in (grouped w h) (map (λ (m : Msg). Orders p) list) ≡ grouped w (fold (λ g (m : Msg). order g p) h list))
unfolding small_in
orders-one w [] h p is = (tt, refl)
orders-one w (m ∷ list) h p is =
    let rest = orders-one w list (order h p) p (ordered-waits h p m list is) in
    ((may-order w h p m list is, rest.0), rest.1)

orders-others : (list : List Msg) (h : GroupState Msg) (p q : ℕ) → (q ≡ p → ⊥) → standing_of (fold (λ g (m : Msg). order g p) h list) q ≡ standing_of h q
orders-others [] h p q apart = refl
orders-others (m ∷ list) h p q apart = orders-others list (order h p) p q apart ∙ ordered-others h p q apart

-- those of all
abbrev pub orders_of : GroupState Msg → List ℕ → List Small
orders_of g ps = flat_map (λ p. map (λ (m : Msg). Orders p) (unordered_of g p)) ps

pub orders-all : (w : World) (g : GroupState Msg) (ps : List ℕ) (low : ℕ) → IsRising low ps → ((p : ℕ) → has ps p ≡ true → is_regular g p ≡ true) → (h : GroupState Msg) →
    ((q : ℕ) → low ≤ q → standing_of h q ≡ standing_of g q) →
    MayIn (grouped w h) (orders_of g ps) × (played_in (grouped w h) (orders_of g ps) ≡ grouped w (fold order_all h ps))
unfolding order_all
orders-all w g [] low rise regular h same = (tt, refl)
orders-all w g (p ∷ ps) low rise regular h same =
    let here : standing_of h p ≡ standing_of g p = same p rise.0 in
    let stands = waits-of p (regular p (has-first p ps)) in
    let list = unordered_of g p in
    let waits : Waits h p list = record { standing = stands.standing; is = here ∙ stands.is; regular = stands.regular; waiting = stands.waiting } in
    let one = orders-one w list h p waits in
    let steps = map (λ (m : Msg). Orders p) list in
    let after = fold (λ g (m : Msg). order g p) h list in
    let listed : list ≡ unordered_of h p = sym (ap (λ (o : Option (Standing Msg)). option_map_or (λ s. s.unordered) o []) here) in
    let rest = orders-all w g ps (suc p) rise.1 (λ q there. regular q (or_right (p == q) (has ps q) there)) after
    (λ q above. orders-others list h p q (λ e. (let is : q ≡ p = e in omega arith)) ∙ same q (let first : low ≤ p = rise.0 in omega arith)) in (
      may-append (grouped w h) steps (orders_of g ps) one.0 (subst (λ x. MayIn x (orders_of g ps)) (sym one.1) rest.0),
      played-append (grouped w h) steps (orders_of g ps) ∙ ap (λ x. played_in x (orders_of g ps)) one.1 ∙ rest.1
          ∙ ap (λ (list : List Msg). grouped w (fold order_all (fold (λ g (m : Msg). order g p) h list) ps)) listed,
    ) where
      has-first : (p : ℕ) (ps : List ℕ) → has (p ∷ ps) p ≡ true
      has-first p ps = rw (eq-eqb p p refl) refl

      waits-of : (p : ℕ) → is_regular g p ≡ true → Waits g p (unordered_of g p)
      waits-of p regular = at (standing_of g p) refl where
        at : (o : Option (Standing Msg)) → standing_of g p ≡ o → Waits g p (unordered_of g p)
        at None e = absurd (let clash : false ≡ true = sym (ap (λ (o : Option (Standing Msg)). not (regular_in (option_map_or (λ s. s.phase) o Down) == 0)) e) ∙ regular in cc)
        at (Some s) e = record {
          standing = s;
          is = e;
          regular = not-true (regular_in s.phase == 0) (sym (ap (λ (o : Option (Standing Msg)). not (regular_in (option_map_or (λ s. s.phase) o Down) == 0)) e) ∙ regular);
          waiting = sym (ap (λ (o : Option (Standing Msg)). option_map_or (λ s. s.unordered) o []) e);
        }

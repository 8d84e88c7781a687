-- What a receipt and a message make of a configuration: it has grown by what one member did.
use Rattle.std.proofs.Common.{◌≡◌, ℕ, suc, ◌<◌, ◌≤◌, Bool, true, false, cond, ◌&&◌, ◌||◌, List, [], ◌∷◌, ◌++◌, length, Option, Some, None, refl, sym, ap, subst, ◌∙◌, arith, eqb-true, ⊎_elim, option_map, append-nil, length-append, is_some}
use Rattle.std.specs.Prelude.{◌==◌}
use Rattle.std.specs.Option.{option_map_or}
use Rattle.std.proofs.lemmas.Bool.{cases_Bool, cond-true, cond-false, ne_eqb, and_left, and_right, or_left, cases_lt, false_from_ne_true}
use Rattle.cg_base.specs.Lists.{at_place}
use Rattle.cg_base.specs.Sets.{has, with_member}
use Rattle.cg_base.specs.SetLaws.{has-with_member}
use Rattle.cg_group.specs.State.{Sent, Configuration, has_received}
use Rattle.cg_group.specs.Events.{with_receipt, with_message}
use Rattle.cg_group.specs.PlaceLaws.{at_place-append, at_place-within, at_place-last}
use Rattle.cg_group.specs.LookupLaws.{eqb_comm, at_place-changed, length-changed_at}
use Rattle.cg_base.specs.BoolLaws.{or_false}
use Rattle.cg_base.specs.ListLaws.{at_place-past}

and_true : (a b : Bool) → b ≡ true → (a && b) ≡ a
and_true true b e = e
and_true false b e = refl

-- who has received a place, with one more
has-more : (o : Option (List ℕ)) (p q : ℕ) → is_some o ≡ true →
    option_map_or (λ set. has set q) (option_map (λ set. with_member set p) o) false ≡
    (option_map_or (λ set. has set q) o false || (p == q))
has-more None p q e = absurd (let clash : false ≡ true = e in cc)
has-more (Some set) p q e = has-with_member set p q

module _ {M : Type 0} where
  -- the configuration of one number has grown, by what one regular member did
  pub record Grows (p : ℕ) (C D : Configuration M) : Type 0 where
    pub members : D.members ≡ C.members
    pub rest : List (Sent M)
    pub ordered : D.ordered ≡ C.ordered ++ rest
    pub kept : (q place : ℕ) → has_received C q place ≡ true → has_received D q place ≡ true
    pub others : (q place : ℕ) → (q ≡ p → ⊥) → has_received D q place ≡ has_received C q place
    pub bounded : (q place : ℕ) → has_received D q place ≡ true → place ≤ length D.ordered

  -- one more receipt
  pub has_received-receipt : (C : Configuration M) (p place q at : ℕ) → 0 < place → place ≤ length C.received →
      has_received (with_receipt C p place) q at ≡ (has_received C q at || ((p == q) && (place == at)))
  unfolding has_received with_receipt
  has_received-receipt C p place q at pos le =
      let got : Option (List ℕ) → Bool = λ o. option_map_or (λ set. has set q) o false in
      ap got (at_place-changed (λ set. with_member set p) C.received place at)
      ∙ ⊎_elim
      (λ y.
      let same = eqb-true at place y in
      let w = at_place-within C.received
      at (subst (λ z. 0 < z) (sym same) pos) (subst (λ z. z ≤ length C.received) (sym same) le) in
      ap got (cond-true (at == place) (option_map (λ set. with_member set p) (at_place C.received at))
      (at_place C.received at) y)
      ∙ has-more (at_place C.received at) p q (ap is_some w.1)
      ∙ ap (λ b. got (at_place C.received at) || b) (sym (and_true (p == q) (place == at) (eqb_comm place at ∙ y))))
      (λ n.
      ap got (cond-false (at == place) (option_map (λ set. with_member set p) (at_place C.received at))
      (at_place C.received at) n)
      ∙ sym (ap (λ b. got (at_place C.received at) || b) (and_right (p == q) (place == at) (eqb_comm place at ∙ n))
      ∙ or_false (got (at_place C.received at))))
      (cases_Bool (at == place))

  pub ordered-receipt : (C : Configuration M) (p place : ℕ) → (with_receipt C p place).ordered ≡ C.ordered
  unfolding with_receipt
  ordered-receipt C p place = refl

  pub level-receipt : (C : Configuration M) (p place : ℕ) → length (with_receipt C p place).received ≡ length C.received
  unfolding with_receipt
  level-receipt C p place = length-changed_at (λ set. with_member set p) C.received place

  -- who has received a place has it within the configuration
  pub received-within : (C : Configuration M) (q at : ℕ) → length C.received ≡ length C.ordered →
      has_received C q at ≡ true → at ≤ length C.ordered
  unfolding has_received
  received-within C q at level got = ⊎_elim
      (λ (past : length C.received < at). absurd (let clash : false ≡
      true = sym (ap (λ o. option_map_or (λ set. has set q) o false) (at_place-past C.received at past)) ∙ got in
      cc))
      (λ (within : at ≤ length C.received). subst (λ z. at ≤ z) level within) (cases_lt (length C.received) at)

  -- with one more receipt a configuration has grown
  pub Grows-receipt : (C : Configuration M) (p place : ℕ) → 0 < place → place ≤ length C.ordered →
      length C.received ≡ length C.ordered → Grows p C (with_receipt C p place)
  unfolding with_receipt
  Grows-receipt C p place pos le level =
      let says : (q at : ℕ) → has_received (with_receipt C p place) q at ≡
      (has_received C q at || ((p == q) && (place == at))) =
      λ q at. has_received-receipt C p place q at pos (subst (λ z. place ≤ z) (sym level) le) in
      record {
        members = refl;
        rest = [];
        ordered = sym (append-nil C.ordered);
        kept = λ q at got. says q at ∙ or_left (has_received C q at) ((p == q) && (place == at)) got;
        others = λ q at ne. says q at ∙ ap (λ z. has_received C q at
            || z) (and_left (p == q) (place == at) (ne_eqb p q (λ e. ne (sym e)))) ∙ or_false (has_received C q at);
        bounded = λ q at got. received-within (with_receipt C p place) q at (level-receipt C p place ∙ level) got;
      }

  -- one more message, received by its sender
  pub has_received-message : (C : Configuration M) (p : ℕ) (m : M) (q at : ℕ) → at ≤ length C.received →
      has_received (with_message C p m) q at ≡ has_received C q at
  unfolding has_received with_message
  has_received-message C p m q at le =
      ap (λ o. option_map_or (λ set. has set q) o false) (at_place-append C.received ((p ∷ []) ∷ []) at le)

  pub has_received-last : (C : Configuration M) (p : ℕ) (m : M) (q at : ℕ) → length C.received < at →
      has_received (with_message C p m) q at ≡ ((at == suc (length C.received)) && (p == q))
  unfolding has_received with_message
  has_received-last C p m q at past =
      ap (λ o. option_map_or (λ set. has set q) o false) (at_place-last C.received (p ∷ []) at past)
      ∙ by_test (at == suc (length C.received))
    where
      by_test : (b : Bool) → option_map_or (λ set. has set q) (cond b (Some (p ∷ [])) None) false ≡ (b && (p == q))
      by_test true = or_false (p == q)
      by_test false = refl

  pub level-message : (C : Configuration M) (p : ℕ) (m : M) → length C.received ≡ length C.ordered →
      length (with_message C p m).received ≡ length (with_message C p m).ordered
  unfolding with_message
  level-message C p m level =
      let a = length-append C.received ((p ∷ []) ∷ []) in
      let b = length-append C.ordered (record { from = p; message = m } ∷ []) in
      omega arith

  members-message : (C : Configuration M) (p : ℕ) (m : M) → (with_message C p m).members ≡ C.members
  unfolding with_message
  members-message C p m = refl

  pub ordered-message : (C : Configuration M) (p : ℕ) (m : M) →
      (with_message C p m).ordered ≡ C.ordered ++ record { from = p; message = m } ∷ []
  unfolding with_message
  ordered-message C p m = refl

  -- with one more message a configuration has grown
  pub Grows-message : (C : Configuration M) (p : ℕ) (m : M) → length C.received ≡ length C.ordered →
      Grows p C (with_message C p m)
  Grows-message C p m level = record {
    members = members-message C p m;
    rest = record { from = p; message = m } ∷ [];
    ordered = ordered-message C p m;
    kept = λ q at got.
        let le : at ≤ length C.ordered = received-within C q at level got in
        has_received-message C p m q at (subst (λ z. at ≤ z) (sym level) le) ∙ got;
    others = λ q at ne. ⊎_elim
        (λ (past : length C.received < at). has_received-last C p m q at past
        ∙ and_right (at == suc (length C.received)) (p == q) (ne_eqb p q (λ e. ne (sym e)))
        ∙ sym (false_from_ne_true (has_received C q at)
        (λ got. (let le = received-within C q at level got in omega arith))))
        (λ (within : at ≤ length C.received). has_received-message C p m q at within)
        (cases_lt (length C.received) at);
    bounded = λ q at got. received-within (with_message C p m) q at (level-message C p m level) got;
  }

-- What a call that isn't refused may rely on.
use Rattle.std.proofs.Common.{◌≡◌, ℕ, ◌<◌, ◌≤◌, ◌⊎◌, Bool, true, false, ◌&&◌, not, List, [], ◌∷◌, Option, Some, None, refl, sym, ap, ◌∙◌, arith, eq-eqb, eqb-true, inl, inr, ⊎_elim, fold, map, find, max, is_some}
use Rattle.std.specs.Prelude.{◌==◌}
use Rattle.std.proofs.lemmas.Bool.{cases_Bool, cond-false, eqb-false, and_from, or_cases, or_left, or_right, not_from_false, not-false, not-true, cases_lt}
use Rattle.cg_base.specs.Lists.{first_some, Each}
use Rattle.cg_base.specs.Sets.{has, same_set, is_within}
use Rattle.cg_group.specs.declared.reason.Reason.{Reason}
use Rattle.cg_group.specs.State.{Standing, GroupState, standing_of, phase_of, delivered_to, regular_in, is_up, is_regular}
use Rattle.cg_group.specs.Refusals.{any_of, not_up, not_regular, not_one_configuration, still_regular, not_together, is_together, left_together}
use Rattle.cg_group.specs.Events.{furthest}
use Rattle.cg_base.specs.EachLaws.{Each-at, Each-has}
use Rattle.cg_group.specs.RefusalLaws.{refuse_none}
use Rattle.cg_base.specs.MemberLaws.{list_any_in}
use Rattle.cg_base.specs.OptionLaws.{option_map_none, first_none}
use Rattle.cg_base.specs.FindLaws.{none_found}

first_none_each : {X : Type 0} (test : ℕ → Option X) (set : List ℕ) → first_some (map test set) ≡ None → Each (λ q. test q ≡ None) set
first_none_each test [] e = tt
first_none_each test (p ∷ set) e = let both = first_none (test p) (map test set) e in (both.0, first_none_each test set both.1)

pub any_none : (test : ℕ → Option Reason) (set : List ℕ) → any_of test set ≡ None → (q : ℕ) → has set q ≡ true → test q ≡ None
any_none test set e q m = Each-at (λ q. test q ≡ None) set q (first_none_each test set e) m

-- the greatest of some numbers is at least each, and one of them or the first
greatest_from : (f : ℕ → ℕ) (set : List ℕ) (a : ℕ) →
    (a ≤ fold max a (map f set)) × ((q : ℕ) → has set q ≡ true → f q ≤ fold max a (map f set)) ×
    ((fold max a (map f set) ≡ a) ⊎ ((q : ℕ) × (has set q ≡ true) × (fold max a (map f set) ≡ f q)))
greatest_from f [] a = (omega arith, (λ q m. absurd (let clash : false ≡ true = m in cc)), inl refl)
greatest_from f (p ∷ set) a =
    let rest = greatest_from f set (max a (f p)) in (
      (let le = rest.0 in omega arith),
      (λ q m. ⊎_elim (λ here. let e = ap f (eqb-true p q here) in let le = rest.0 in omega arith) (λ there. rest.1 q there) (or_cases (p == q) (has set q) m)),
      ⊎_elim
          (λ e. ⊎_elim
          (λ (lt : a < f p). inr (p, or_here p, e ∙ (let m : max a (f p) ≡ f p = omega arith in m)))
          (λ (ge : f p ≤ a). inl (e ∙ (let m : max a (f p) ≡ a = omega arith in m))) (cases_lt a (f p)))
          (λ w. inr (w.0, or_right (p == w.0) (has set w.0) w.1, w.2)) rest.2,
    )
  where
    or_here : (p : ℕ) → has (p ∷ set) p ≡ true
    or_here p = or_left (p == p) (has set p) (eq-eqb p p refl)

is_within-more : (t : List ℕ) (s : List ℕ) → Each (λ q. has t q ≡ true) s → is_within s t ≡ true
is_within-more t [] e = refl
is_within-more t (p ∷ s) e = and_from (has t p) (is_within s t) e.0 (is_within-more t s e.1)

pub same_set_refl : (s : List ℕ) → same_set s s ≡ true
same_set_refl s = let w = is_within-more s s (Each-has s) in and_from (is_within s s) (is_within s s) w w

module _ {M : Type 0} where
  pub up_standing : (g : GroupState M) (p : ℕ) → not_up g p ≡ None → (s : Standing M) × (standing_of g p ≡ Some s)
  up_standing g p e = by_option (standing_of g p) refl (not-false (is_up g p) (refuse_none (not (is_up g p)) (Reason.NotUp p) e))
    where
      by_option : (o : Option (Standing M)) → standing_of g p ≡ o → is_some (standing_of g p) ≡ true → (s : Standing M) × (standing_of g p ≡ Some s)
      by_option None e y = absurd (let clash : false ≡ true = sym (ap is_some e) ∙ y in cc)
      by_option (Some s) e y = (s, e)

  pub regular_home : (g : GroupState M) (p : ℕ) → not_regular g p ≡ None → 0 < regular_in (phase_of g p)
  regular_home g p e =
      let ne : (regular_in (phase_of g p) ≡ 0 → ⊥) = eqb-false (regular_in (phase_of g p)) 0 (not-true (regular_in (phase_of g p) == 0) (not-false (is_regular g p) (refuse_none (not (is_regular g p)) (Reason.NotRegular p) e))) in
      omega arith

  pub not_regular_now : (g : GroupState M) (p : ℕ) → still_regular g p ≡ None → regular_in (phase_of g p) ≡ 0
  not_regular_now g p e = eqb-true (regular_in (phase_of g p)) 0 (not-false (regular_in (phase_of g p) == 0) (refuse_none (is_regular g p) (Reason.StillRegular p) e))

  pub one_configuration : (g : GroupState M) (set : List ℕ) → not_one_configuration g set ≡ None → (p q : ℕ) → has set p ≡ true → has set q ≡ true →
      regular_in (phase_of g p) ≡ regular_in (phase_of g q)
  one_configuration g [] e p q m n = absurd (let clash : false ≡ true = m in cc)
  one_configuration g (r ∷ set) e p q m n = alike p m ∙ sym (alike q n)
    where
      each : Each (λ q. not (regular_in (phase_of g q) == regular_in (phase_of g r)) ≡ false) set
      each = none_found (λ q. not (regular_in (phase_of g q) == regular_in (phase_of g r))) set
          (option_map_none Reason.NotOneConfiguration (find (λ q. not (regular_in (phase_of g q) == regular_in (phase_of g r))) set) e)

      alike : (p : ℕ) → has (r ∷ set) p ≡ true → regular_in (phase_of g p) ≡ regular_in (phase_of g r)
      alike p m = ⊎_elim (λ here. ap (λ z. regular_in (phase_of g z)) (sym (eqb-true r p here)))
          (λ there. eqb-true (regular_in (phase_of g p)) (regular_in (phase_of g r))
          (not-false (regular_in (phase_of g p) == regular_in (phase_of g r)) (Each-at (λ q. not (regular_in (phase_of g q) == regular_in (phase_of g r)) ≡ false) set p each there)))
          (or_cases (r == p) (has set p) m)

  found_in : (replicas : List (Standing M)) (q : ℕ) (s : Standing M) → find (λ s. s.id == q) replicas ≡ Some s → has (map (λ s. s.id) replicas) q ≡ true
  found_in [] q s e = absurd cc
  found_in (x ∷ replicas) q s e = ⊎_elim
      (λ y. or_left (x.id == q) (has (map (λ s. s.id) replicas) q) y)
      (λ n. or_right (x.id == q) (has (map (λ s. s.id) replicas) q) (found_in replicas q s (sym (cond-false (x.id == q) (Some x) (find (λ s. s.id == q) replicas) n) ∙ e)))
      (cases_Bool (x.id == q))

  -- whoever parted together with one that is merged is merged too, or has left
  pub all_together : (g : GroupState M) (set left : List ℕ) → not_together g set left ≡ None → (p q : ℕ) (s : Standing M) → has set p ≡ true → standing_of g q ≡ Some s →
      left_together (phase_of g p) (phase_of g q) ≡ true → has set q ≡ false → has left q ≡ false → ⊥
  unfolding standing_of
  all_together g set left e p q s m up same out stays =
      let test : ℕ → Bool = λ q. is_together g set q && not (has set q) && not (has left q) in
      let none : test q ≡ false =
      Each-at (λ q. test q ≡ false) (map (λ s. s.id) g.replicas) q
      (none_found test (map (λ s. s.id) g.replicas) (option_map_none Reason.NotTogether (find test (map (λ s. s.id) g.replicas)) e)) (found_in g.replicas q s up) in
      let some : test q ≡ true =
      and_from (is_together g set q && not (has set q)) (not (has left q))
      (and_from (is_together g set q) (not (has set q)) (list_any_in (λ p. left_together (phase_of g p) (phase_of g q)) set p m same) (not_from_false (has set q) out))
      (not_from_false (has left q) stays) in
      let clash : true ≡ false = sym some ∙ none in cc

  pub furthest_is : (g : GroupState M) (set : List ℕ) →
      ((q : ℕ) → has set q ≡ true → delivered_to g q ≤ furthest g set) × ((furthest g set ≡ 0) ⊎ ((q : ℕ) × (has set q ≡ true) × (furthest g set ≡ delivered_to g q)))
  furthest_is g set = let w = greatest_from (delivered_to g) set 0 in (w.1, w.2)

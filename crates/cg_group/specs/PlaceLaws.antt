-- The messages at places of a configuration, and what more messages and receipts do to them.
use Rattle.std.proofs.Common.{◌≡◌, ℕ, zero, suc, ◌+◌, ◌-◌, ◌<◌, ◌≤◌, Bool, true, false, cond, List, [], ◌∷◌, ◌++◌, filter, length, Some, None, refl, sym, ap, ap₂, ◌∙◌, arith, append-nil, IsTrue, ⊎_elim, subst, eq-eqb}
use Rattle.std.specs.Prelude.{◌==◌}
use Rattle.std.specs.List.{list_any, list_all, prefix_len}
use Rattle.std.specs.Option.{option_map_or}
use Rattle.std.proofs.lemmas.List.{length-append}
use Rattle.std.proofs.lemmas.List.Elements.{filter-append}
use Rattle.std.proofs.lemmas.List.Concat.{flat_map-append}
use Rattle.std.proofs.lemmas.List.Sums.{prefix_len-le-length}
use Rattle.std.proofs.lemmas.Bool.{cond_both, false_from_ne_true, cases_eq, cond-true, cond-false, ne_eqb}
use Rattle.cg_base.specs.Lists.{count_up, above_up_to, at_place, Each}
use Rattle.cg_base.specs.Sets.{has}
use Rattle.cg_group.specs.declared.delivery.Delivery.TheVariants.{Message}
use Rattle.cg_group.specs.State.{Configuration, Sent, has_received}
use Rattle.cg_group.specs.Ready.{all_received, ready_in}
use Rattle.cg_group.specs.Events.{delivery_at, deliveries_at, transitional_places}
use Rattle.cg_base.specs.EachLaws.{Each-weaker, Each-filter, Each-above, flat_map_same, filter_same, filter_none, list_any_same, list_all_kept_by, list_any_nowhere, Each-all, Each-has, Each-at, Each-list_all, above_up_to-add}
use Rattle.cg_base.specs.ListLaws.{length-count_up}

-- the elements of a front of those that pass do pass
ready_passes : (t : ℕ → Bool) (from n k place : ℕ) → k ≤ prefix_len t (count_up from n) → from ≤ place →
    place < from + k → t place ≡ true
ready_passes t from zero k place h a b = absurd (omega arith)
ready_passes t from (suc n) zero place h a b = absurd (omega arith)
ready_passes t from (suc n) (suc k) place h a b =
    cond_both (t from) (1 + prefix_len t (count_up (suc from) n)) 0 (λ z. suc k ≤ z → t place ≡ true)
    (λ yes le. ⊎_elim (λ same. subst (λ z. t z ≡ true) same yes) (λ other. ready_passes t (suc from) n k
    place (omega arith) (omega arith) (omega arith)) (cases_eq from place))
    (λ no le. absurd (omega arith)) h

module _ {X : Type 0} where
  -- a place of the front of a list
  pub at_place-append : (xs ys : List X) (place : ℕ) → place ≤ length xs → at_place (xs ++ ys) place ≡ at_place xs place
  at_place-append xs ys zero h = refl
  at_place-append [] ys (suc n) h = absurd (omega arith)
  at_place-append (x ∷ xs) ys (suc zero) h = refl
  at_place-append (x ∷ xs) ys (suc (suc n)) h = at_place-append xs ys (suc n) (omega arith)

  -- a place within the list has an element
  pub at_place-within : (xs : List X) (place : ℕ) → 0 < place → place ≤ length xs →
      (x : X) × (at_place xs place ≡ Some x)
  at_place-within xs zero p h = absurd (omega arith)
  at_place-within [] (suc n) p h = absurd (omega arith)
  at_place-within (x ∷ xs) (suc zero) p h = (x, refl)
  at_place-within (x ∷ xs) (suc (suc n)) p h = at_place-within xs (suc n) (omega arith) (omega arith)

  -- past the end of a list, with one more element
  pub at_place-last : (xs : List X) (x : X) (place : ℕ) → length xs < place →
      at_place (xs ++ x ∷ []) place ≡ cond (place == suc (length xs)) (Some x) None
  at_place-last xs x zero h = absurd (omega arith)
  at_place-last [] x (suc zero) h = sym (cond-true (1 == 1) (Some x) None (eq-eqb 1 1 refl))
  at_place-last [] x (suc (suc n)) h =
      sym (cond-false (suc (suc n) == 1) (Some x) None (ne_eqb (suc (suc n)) 1 (λ e. omega arith)))
  at_place-last (y ∷ xs) x (suc zero) h = absurd (omega arith)
  at_place-last (y ∷ xs) x (suc (suc n)) h = at_place-last xs x (suc n) (omega arith)
      ∙ ap (λ b. cond b (Some x) None) (⊎_elim (λ e. eq-eqb (suc n) (suc (length xs)) e
      ∙ sym (eq-eqb (suc (suc n)) (suc (suc (length xs))) (omega arith)))
      (λ ne. ne_eqb (suc n) (suc (length xs)) ne
      ∙ sym (ne_eqb (suc (suc n)) (suc (suc (length xs))) (λ e. ne (omega arith))))
      (cases_eq (suc n) (suc (length xs))))

module _ {M : Type 0} where
  -- more messages don't change what stands at the places before them
  pub deliveries_at-more : (C D : Configuration M) (rest : List (Sent M)) →
      D.ordered ≡ C.ordered ++ rest → (places : List ℕ) →
      Each (λ place. place ≤ length C.ordered) places → deliveries_at D places ≡ deliveries_at C places
  unfolding delivery_at
  deliveries_at-more C D rest e places h =
      flat_map_same (delivery_at D) (delivery_at C) places
      (Each-weaker (λ place. place ≤ length C.ordered) (λ place. delivery_at D place ≡ delivery_at C place)
      (λ place le. ap (λ o. option_map_or (λ (s : Sent M). Message place s.from s.message ∷ []) o [])
      (ap (λ xs. at_place xs place) e ∙ at_place-append C.ordered rest place le)) places h)

  -- the places from one to another one, in two parts
  pub deliveries_at-add : (C : Configuration M) (low mid high : ℕ) → low ≤ mid → mid ≤ high →
      deliveries_at C (above_up_to low high) ≡ deliveries_at C (above_up_to low mid)
      ++ deliveries_at C (above_up_to mid high)
  deliveries_at-add C low mid high h k =
      rw (above_up_to-add low mid high h k)
      (flat_map-append (delivery_at C) (above_up_to low mid) (above_up_to mid high))

  -- as many messages as places, where there are so many
  length-deliveries_count : (C : Configuration M) (from n : ℕ) → 0 < from → from + n ≤ suc (length C.ordered) →
      length (deliveries_at C (count_up from n)) ≡ n
  unfolding delivery_at
  length-deliveries_count C from zero p h = refl
  length-deliveries_count C from (suc n) p h =
      let (s, e) = at_place-within C.ordered from p (omega arith) in
      let rest = length-deliveries_count C (suc from) n (omega arith) (omega arith) in
      rw (e, length-append, rest) (omega arith)

  pub length-deliveries_at : (C : Configuration M) (low high : ℕ) → low ≤ high → high ≤ length C.ordered →
      length (deliveries_at C (above_up_to low high)) ≡ high - low
  length-deliveries_at C low high h k = length-deliveries_count C (suc low) (high - low) (omega arith) (omega arith)

  -- the places that some of a set has received, when more messages and receipts of others have come
  pub transitional_places-more : (C D : Configuration M) (rest : List (Sent M)) (set : List ℕ) (k : ℕ) →
      D.ordered ≡ C.ordered ++ rest →
      ((q place : ℕ) → IsTrue (has set q) → has_received D q place ≡ has_received C q place) →
      ((q place : ℕ) → has_received C q place ≡ true → place ≤ length C.ordered) → k ≤ length C.ordered →
      transitional_places D set k ≡ transitional_places C set k
  unfolding transitional_places
  transitional_places-more C D rest set k e same bounded h =
      let n = length C.ordered in
      let inD : ℕ → Bool = λ place. list_any (λ q. has_received D q place) set in
      let inC : ℕ → Bool = λ place. list_any (λ q. has_received C q place) set in
      let tests : (place : ℕ) → inD place ≡ inC place = λ place.
      list_any_same (λ q. has_received D q place) (λ q. has_received C q place) set
      (Each-weaker (λ q. has set q ≡ true) (λ q. has_received D q place ≡
      has_received C q place) (λ q in_set. same q place in_set) set (Each-has set)) in
      let past : (place : ℕ) → n < place → inD place ≡ false = λ place gt.
      tests place ∙ list_any_nowhere (λ q. has_received C q place) set
      (Each-all (λ q. has_received C q place ≡
      false) (λ q. false_from_ne_true (has_received C q place) (λ got. let le : place ≤ n = bounded q place got in
      omega arith)) set) in
      let more : length D.ordered ≡ n + length rest = ap length e ∙ length-append C.ordered rest in
      let parts : above_up_to k (length D.ordered) ≡ above_up_to k n ++ above_up_to n (n + length rest) =
      ap (above_up_to k) more ∙ above_up_to-add k n (n + length rest) h (omega arith) in
      let front : filter inD (above_up_to k n) ≡ filter inC (above_up_to k n) =
      filter_same inD inC (above_up_to k n) (Each-all (λ place. inD place ≡ inC place) tests (above_up_to k n)) in
      let back : filter inD (above_up_to n (n + length rest)) ≡ [] =
      filter_none inD (above_up_to n (n + length rest))
      (Each-weaker (λ place. (n < place) × (place ≤ n + length rest)) (λ place. inD place ≡
      false) (λ place b. past place b.0) (above_up_to n (n + length rest)) (Each-above n (n + length rest))) in
      ap (filter inD) parts ∙ filter-append inD (above_up_to k n) (above_up_to n (n + length rest))
      ∙ ap₂ ◌++◌ front back ∙ append-nil (filter inC (above_up_to k n))

  -- these places are within the configuration, and after the given one
  pub Each-transitional : (C : Configuration M) (set : List ℕ) (k : ℕ) →
      Each (λ place. (k < place) × (place ≤ length C.ordered)) (transitional_places C set k)
  unfolding transitional_places
  Each-transitional C set k =
      Each-filter (λ place. (k < place) × (place ≤ length C.ordered)) (λ place. list_any (λ q. has_received C q place)
      set) (above_up_to k (length C.ordered)) (Each-above k (length C.ordered))

  -- what all have received stays so
  pub all_received-kept : (C D : Configuration M) → D.members ≡ C.members →
      ((q place : ℕ) → has_received C q place ≡ true → has_received D q place ≡ true) → (place : ℕ) →
      all_received C place ≡ true → all_received D place ≡ true
  unfolding all_received
  all_received-kept C D e kept place h =
      subst (λ ms. list_all (λ q. has_received D q place) ms ≡ true) (sym e)
      (list_all_kept_by (λ q. has_received C q place) (λ q. has_received D q place) (λ q. kept q place) C.members h)

  -- each member has received what all have
  pub all_received-at : (C : Configuration M) (q place : ℕ) → all_received C place ≡ true → has C.members q ≡ true →
      has_received C q place ≡ true
  unfolding all_received
  all_received-at C q place h m = Each-at (λ q. has_received C q place ≡ true) C.members
      q (Each-list_all (λ q. has_received C q place) C.members h) m

  pub ready-all_received : (C : Configuration M) (d k place : ℕ) → k ≤ ready_in C d → d < place → place ≤ d + k →
      all_received C place ≡ true
  unfolding ready_in
  ready-all_received C d k place h a b =
      ready_passes (all_received C) (suc d) (length C.ordered - d) k place h a (omega arith)

  pub ready_in-within : (C : Configuration M) (d : ℕ) → ready_in C d ≤ length C.ordered - d
  unfolding ready_in
  ready_in-within C d =
      let le : prefix_len (all_received C) (count_up (suc d) (length C.ordered - d)) ≤
      length (count_up (suc d) (length C.ordered - d)) =
      prefix_len-le-length (all_received C) (count_up (suc d) (length C.ordered - d)) in
      rw length-count_up at le

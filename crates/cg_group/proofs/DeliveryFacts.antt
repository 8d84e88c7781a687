-- Deliveries that are put one behind another.
use Rattle.std.proofs.Common.{Bool, false, not, filter, find, Some, if◌then◌else◌, ⊎_elim, ◌≡◌, ℕ, zero, suc, ◌<◌, ◌≤◌, List, [], ◌∷◌, ◌++◌, refl, sym, ap, ◌∙◌, append_assoc}
use Rattle.std.specs.Prelude.{◌==◌}
use Rattle.std.specs.Option.{option_map}
use Rattle.std.proofs.lemmas.List.{append-nil}
use Rattle.std.proofs.lemmas.Bool.{cases_Bool, cond-true, cond-false, eq-eqb}
use Rattle.cg_base.specs.Lists.{above_up_to}
use Rattle.cg_base.specs.Sets.{least}
use Rattle.cg_group.specs.declared.reason.Reason.TheVariants.{NotOneConfiguration}
use Rattle.cg_group.specs.Refusals.{not_one_configuration}
use Rattle.cg_group.specs.declared.delivery.Delivery.{Delivery}
use Rattle.cg_group.specs.State.{Configuration, GroupState, no_configuration, phase_of, regular_in}
use Rattle.cg_group.specs.Events.{delivery_at, deliveries_at}
use Rattle.cg_group.proofs.LogFacts.{above_up_to-next, above_up_to-none}

module _ {M : Type 0} where
  -- the next place is put
  pub deliveries-next : (c : Configuration M) (out next whole : List (Delivery M)) (place to : ℕ) → place < to → next ≡ out ++ delivery_at c (suc place) →
      out ++ deliveries_at c (above_up_to place to) ≡ whole → next ++ deliveries_at c (above_up_to (suc place) to) ≡ whole
  deliveries-next c out next whole place to lt put before =
      ap (λ z. z ++ deliveries_at c (above_up_to (suc place) to)) put
      ∙ append_assoc out (delivery_at c (suc place)) (deliveries_at c (above_up_to (suc place) to))
      ∙ ap (λ places. out ++ deliveries_at c places) (sym (above_up_to-next place to lt)) ∙ before

  delivery-nowhere : (place : ℕ) → delivery_at (no_configuration {M = M}) place ≡ []
  unfolding delivery_at
  delivery-nowhere zero = refl
  delivery-nowhere (suc n) = refl

  -- no configuration has a message
  pub deliveries-nowhere : (places : List ℕ) → deliveries_at (no_configuration {M = M}) places ≡ []
  deliveries-nowhere [] = refl
  deliveries-nowhere (place ∷ places) = rw (delivery-nowhere place) (deliveries-nowhere places)

  -- the next place is put, where it passes the test
  pub later-next : (c : Configuration M) (test : ℕ → Bool) (out next whole : List (Delivery M)) (place to : ℕ) → place < to →
      next ≡ out ++ (if test (suc place) then delivery_at c (suc place) else []) →
      out ++ deliveries_at c (filter test (above_up_to place to)) ≡ whole → next ++ deliveries_at c (filter test (above_up_to (suc place) to)) ≡ whole
  later-next c test out next whole place to lt put before =
      let rest = above_up_to (suc place) to in
      ⊎_elim
      (λ y.
      ap (λ z. z ++ deliveries_at c (filter test rest)) (put ∙ ap (λ z. out ++ z) (cond-true (test (suc place)) (delivery_at c (suc place)) [] y))
      ∙ append_assoc out (delivery_at c (suc place)) (deliveries_at c (filter test rest))
      ∙ sym (ap (λ places. out ++ deliveries_at c places) (ap (filter test) (above_up_to-next place to lt) ∙ cond-true (test (suc place)) (suc place ∷ filter test rest) (filter test rest) y))
      ∙ before)
      (λ n.
      ap (λ z. z ++ deliveries_at c (filter test rest)) (put ∙ ap (λ z. out ++ z) (cond-false (test (suc place)) (delivery_at c (suc place)) [] n) ∙ append-nil out)
      ∙ sym (ap (λ places. out ++ deliveries_at c places) (ap (filter test) (above_up_to-next place to lt) ∙ cond-false (test (suc place)) (suc place ∷ filter test rest) (filter test rest) n))
      ∙ before)
      (cases_Bool (test (suc place)))

  pub later-end : (c : Configuration M) (test : ℕ → Bool) (out whole : List (Delivery M)) (place to : ℕ) → to ≤ place →
      out ++ deliveries_at c (filter test (above_up_to place to)) ≡ whole → out ≡ whole
  later-end c test out whole place to le before =
      sym (append-nil out) ∙ sym (ap (λ places. out ++ deliveries_at c (filter test places)) (above_up_to-none place to le)) ∙ before

  -- three parts behind nothing
  pub three_parts : (start one two three a b : List (Delivery M)) (x : Delivery M) → start ≡ [] → one ≡ start ++ a → two ≡ one ++ x ∷ [] → three ≡ two ++ b → three ≡ a ++ x ∷ b
  three_parts start one two three a b x s o t r =
      r ∙ ap (λ z. z ++ b) (t ∙ ap (λ z. z ++ x ∷ []) (o ∙ ap (λ z. z ++ a) s)) ∙ append_assoc a (x ∷ []) b

  -- the lowest of the set isn't in another configuration
  pub one_found : (g : GroupState M) (set : List ℕ) (p : ℕ) → Some p ≡ least set →
      not_one_configuration g set ≡ option_map NotOneConfiguration (find (λ q. not (regular_in (phase_of g q) == regular_in (phase_of g p))) set)
  one_found g [] p e = absurd (cc)
  one_found g (r ∷ set) p e =
      let same : r ≡ p = cc in
      let test : ℕ → ℕ → Bool = λ k q. not (regular_in (phase_of g q) == regular_in (phase_of g k)) in
      let passes : test p r ≡ false = rw (eq-eqb (regular_in (phase_of g r)) (regular_in (phase_of g p)) (ap (λ z. regular_in (phase_of g z)) same)) refl in
      ap (λ z. option_map NotOneConfiguration (find (test z) set)) same
      ∙ sym (ap (option_map NotOneConfiguration) (cond-false (test p r) (Some r) (find (test p) set) passes))

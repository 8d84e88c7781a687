-- Lists in which each element has a key: what is found behind a change, and behind one more.
use Rattle.std.proofs.Common.{◌≡◌, ℕ, Bool, true, false, cond, List, [], ◌∷◌, ◌++◌, Option, Some, None, map, find, refl, sym, ap, ◌∙◌, ⊎_elim, eq-eqb, option_map, if◌then◌else◌}
use Rattle.std.specs.Prelude.{◌==◌}
use Rattle.std.proofs.lemmas.Bool.{cases_eq, cases_Bool, cond-true, cond-false, ne_eqb}
use Rattle.cg_group.specs.LookupLaws.{same_both, at-cond}

module _ {X : Type 0} (key : X → ℕ) where
  abbrev pub found : List X → ℕ → Option X
  found xs q = find (λ x. key x == q) xs

  abbrev pub changed : (X → X) → ℕ → List X → List X
  changed f p xs = map (λ x. if key x == p then f x else x) xs

  -- a change that keeps the key
  pub key-changed : (f : X → X) → ((x : X) → key (f x) ≡ key x) → (p : ℕ) (x : X) → key (if key x == p then f x else x) ≡ key x
  key-changed f keeps p x = at-cond key (key x == p) (f x) x ∙ ap (λ n. cond (key x == p) n (key x)) (keeps x) ∙ same_both (key x == p) (key x)

  pub found-changed : (f : X → X) → ((x : X) → key (f x) ≡ key x) → (p : ℕ) (xs : List X) (q : ℕ) →
      found (changed f p xs) q ≡ cond (q == p) (option_map f (found xs q)) (found xs q)
  found-changed f keeps p [] q = sym (same_both (q == p) None)
  found-changed f keeps p (x ∷ xs) q = ⊎_elim
      (λ same.
      let here : (key x == q) ≡ true = eq-eqb (key x) q same in
      let there : (key (if key x == p then f x else x) == q) ≡ true = ap (λ n. n == q) (key-changed f keeps p x) ∙ here in
      let which : (key x == p) ≡ (q == p) = ap (λ n. n == p) same in
      rw (there, here, which) (at-cond (λ y. Some y) (q == p) (f x) x))
      (λ other.
      let here : (key x == q) ≡ false = ne_eqb (key x) q other in
      let there : (key (if key x == p then f x else x) == q) ≡ false = ap (λ n. n == q) (key-changed f keeps p x) ∙ here in
      rw (there, here) (found-changed f keeps p xs q))
      (cases_eq (key x) q)

module _ {X : Type 0} where
  -- what is found in two lists
  pub find-none : (t : X → Bool) (xs ys : List X) → find t xs ≡ None → find t (xs ++ ys) ≡ find t ys
  find-none t [] ys e = refl
  find-none t (y ∷ xs) ys e = ⊎_elim
      (λ yes. absurd (let clash : Some y ≡ None = sym (cond-true (t y) (Some y) (find t xs) yes) ∙ e in cc))
      (λ no. rw no (find-none t xs ys (sym (cond-false (t y) (Some y) (find t xs) no) ∙ e)))
      (cases_Bool (t y))

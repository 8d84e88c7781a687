-- What is made behind a step, and what is looked up in it.
use Rattle.std.proofs.Common.{◌≡◌, ℕ, zero, suc, ◌+◌, ◌<◌, ◌≤◌, ◌≢◌, cond, true, false, ◌&&◌, nat_lt, List, [], ◌∷◌, ◌++◌, length, Option, Some, None, Contains, is_some, IfSome, slice_get, refl, sym, ap, ◌∙◌, subst, inl, inr, arith, eq-eqb}
use Rattle.std.specs.Prelude.{◌==◌, nat_le}
use Rattle.std.proofs.lemmas.Bool.{cases_eq, cases_lt, cond-true, cond-false, ne_eqb, lt-ltb, le-leb, lt-leb}
use Rattle.std.proofs.lemmas.List.{length-append}
use Rattle.std.proofs.lemmas.List.Elements.{filter-append}
use Rattle.cg_base.specs.EachLaws.{Each-weaker, Each-append, Each-filter, Each-get}
use Rattle.cg_base.specs.declared.action_id.ActionId.{ActionId}
use Rattle.cg_base.specs.Ids.{same_id}
use Rattle.cg_base.specs.IdLaws.{same_id-true, same_id-false}
use Rattle.cg_base.specs.Cuts.{index_in}
use Rattle.cg_action.specs.declared.action.Action.{Action}
use Rattle.cg_model.specs.World.{World}
use Rattle.cg_model.specs.Show.{Moved}
use Rattle.cg_model.specs.Chronicle.{Chronicle}
use Rattle.cg_model.specs.Making.{newly_made, made_by, AreNextOf, IsMade}
use Rattle.cg_world.specs.Led.{AreMade, IsLedWith, IsInBook}
use Rattle.cg_world.specs.MadeActions.{action_at, made_named}
use Rattle.cg_model.specs.MadeRowLaws.{next-append}

-- ---- all that was made, behind a step

own-append : (p : ℕ) (made list : List Action) → made_by p (made ++ list) ≡ made_by p made ++ made_by p list
own-append p made list = filter-append (λ (a : Action). a.id.creator == p) made list

pub made-on : (c d : Chronicle) (w : World) (m : Moved) (made : List Action) → AreMade c w made → IsMade c d w m → AreMade d m.world (made ++ newly_made m)
made-on c d w m made are is =
    let list = newly_made m in
    record {
      count = λ p.
          ap length (own-append p made list) ∙ length-append (made_by p made) (made_by p list)
          ∙ ap (λ n. n + length (made_by p list)) (are.count p) ∙ sym (is.count p);
      numbered = λ p. subst (AreNextOf p 0) (sym (own-append p made list))
          (next-append p 0 (index_in w.made p) (made_by p made) (made_by p list) (are.numbered p) (let all = are.count p in omega arith) (is.next p));
      booked = Each-append (Contains d.book) made list (Each-weaker (Contains c.book) (Contains d.book) is.stays made are.booked) is.booked;
    }

-- ---- what is looked up

there-is : (xs : List Action) (k : ℕ) → k < length xs → is_some (slice_get xs k) ≡ true
there-is [] k less = absurd (omega arith)
there-is (x ∷ xs) zero less = refl
there-is (x ∷ xs) (suc k) less = there-is xs k (omega arith)

there-none : (xs : List Action) (k : ℕ) → length xs ≤ k → is_some (slice_get xs k) ≡ false
there-none [] k le = refl
there-none (x ∷ xs) zero le = absurd (omega arith)
there-none (x ∷ xs) (suc k) le = there-none xs k (omega arith)

there-some : (xs : List Action) (k : ℕ) → is_some (slice_get xs k) ≡ nat_le (suc k) (length xs)
there-some xs k = elim (cases_lt k (length xs)) [
  | inl less ↦ there-is xs k less ∙ sym (le-leb (suc k) (length xs) (omega arith))
  | inr le ↦ there-none xs k le ∙ sym (lt-leb (suc k) (length xs) (omega arith))
]

abbrev named : ℕ → ℕ → ActionId
named p n = record { creator = p; index = n }

there-named : (p n i : ℕ) (xs : List Action) (k : ℕ) → AreNextOf p n xs → i ≡ suc (n + k) → IfSome (slice_get xs k) (λ a. a.id ≡ named p i)
there-named p n i [] k next at = tt
there-named p n i (x ∷ xs) zero next at = next.0 ∙ ap (named p) (let this : suc n ≡ i = omega arith in this)
there-named p n i (x ∷ xs) (suc k) next at = there-named p (suc n) i xs k next.1 (omega arith)

-- ---- the first of a name

-- it is among those of its creator
find-own : (id : ActionId) (made : List Action) → made_named made id ≡ made_named (made_by id.creator made) id
find-own id [] = refl
find-own id (a ∷ made) = elim (cases_eq a.id.creator id.creator) [
  | inl mine ↦
      ap (cond (same_id a.id id) (Some a)) (find-own id made)
      ∙ sym (ap (λ (own : List Action). made_named own id)
      (cond-true (a.id.creator == id.creator) (a ∷ made_by id.creator made) (made_by id.creator made) (eq-eqb a.id.creator id.creator mine)))
  | inr other ↦
      cond-false (same_id a.id id) (Some a) (made_named made id) (same_id-false a.id id (inl other)) ∙ find-own id made
      ∙ sym (ap (λ (own : List Action). made_named own id)
      (cond-false (a.id.creator == id.creator) (a ∷ made_by id.creator made) (made_by id.creator made) (ne_eqb a.id.creator id.creator other)))
]

-- where they are numbered, it is the one in that place
find-next : (p n i : ℕ) (row : List Action) (k : ℕ) → AreNextOf p n row → i ≡ suc (n + k) → made_named row (named p i) ≡ slice_get row k
find-next p n i [] k next at = refl
find-next p n i (a ∷ row) zero next at =
    cond-true (same_id a.id (named p i)) (Some a) (made_named row (named p i))
    (same_id-true a.id (named p i) (ap (λ (x : ActionId). x.creator) next.0)
    (ap (λ (x : ActionId). x.index) next.0 ∙ (let this : suc n ≡ i = omega arith in this)))
find-next p n i (a ∷ row) (suc k) next at =
    let apart : a.id.index ≢ i = λ e. let own = ap (λ (x : ActionId). x.index) next.0 in absurd (omega arith) in
    cond-false (same_id a.id (named p i)) (Some a) (made_named row (named p i)) (same_id-false a.id (named p i) (inr apart))
    ∙ find-next p (suc n) i row k next.1 (omega arith)

find-zero : (p n : ℕ) (row : List Action) → AreNextOf p n row → made_named row (named p 0) ≡ None
find-zero p n [] next = refl
find-zero p n (a ∷ row) next =
    let apart : a.id.index ≢ 0 = λ e. let own = ap (λ (x : ActionId). x.index) next.0 in absurd (omega arith) in
    cond-false (same_id a.id (named p 0)) (Some a) (made_named row (named p 0)) (same_id-false a.id (named p 0) (inr apart))
    ∙ find-zero p (suc n) row next.1

module _ (w : World) (made : List Action) (led : IsLedWith w made) where
  pub found-named : (id : ActionId) → action_at made id ≡ made_named made id
  found-named id = at id.index ∙ sym (find-own id made) where
    row : List Action
    row = made_by id.creator made

    at : (n : ℕ) → action_at made (named id.creator n) ≡ made_named row (named id.creator n)
    at zero = sym (find-zero id.creator 0 row (led.all.numbered id.creator))
    at (suc n) = sym (find-next id.creator 0 (suc n) row n (led.all.numbered id.creator) (omega arith))

  pub found-some : (id : ActionId) → is_some (action_at made id) ≡ (nat_lt 0 id.index && nat_le id.index (index_in w.made id.creator))
  found-some id = at id.index where
    at : (n : ℕ) → is_some (action_at made (named id.creator n)) ≡ (nat_lt 0 n && nat_le n (index_in w.made id.creator))
    at zero = refl
    at (suc n) =
        there-some (made_by id.creator made) n ∙ ap (nat_le (suc n)) (led.all.count id.creator)
        ∙ sym (ap (λ b. b && nat_le (suc n) (index_in w.made id.creator)) (lt-ltb 0 (suc n) (omega arith)))

  pub found-booked : (id : ActionId) → IfSome (action_at made id) (λ a. (a.id ≡ id) × IsInBook w a)
  found-booked id = at id.index where
    both : (n : ℕ) (o : Option Action) → IfSome o (λ a. a.id ≡ named id.creator n) → IfSome o (Contains led.chronicle.book) → IfSome o (λ a. (a.id ≡ named id.creator n) × IsInBook w a)
    both n None name there = tt
    both n (Some a) name there = (name, record { chronicle = led.chronicle; reached = led.reached; booked = there })

    at : (n : ℕ) → IfSome (action_at made (named id.creator n)) (λ a. (a.id ≡ named id.creator n) × IsInBook w a)
    at zero = tt
    at (suc n) =
        both (suc n) (slice_get (made_by id.creator made) n)
        (there-named id.creator 0 (suc n) (made_by id.creator made) n (led.all.numbered id.creator) (omega arith))
        (Each-get (Contains led.chronicle.book) (made_by id.creator made) n
        (Each-filter (Contains led.chronicle.book) (λ a. a.id.creator == id.creator) made led.all.booked))

-- What the known actions of each creator make: of one that knows more it is what it was, with what else is known.
use Rattle.std.proofs.Common.{◌≡◌, ℕ, zero, suc, ◌+◌, ◌-◌, ◌<◌, ◌≤◌, List, [], ◌∷◌, ◌++◌, map, fold, max, inl, inr, sym, ap, ◌∙◌, arith}
use Rattle.std.specs.Prelude.{Option, None, ℤ, pos, ◌+ℤ◌}
use Rattle.std.proofs.lemmas.Int.{ints}
use Rattle.std.proofs.lemmas.Bool.{cases_lt}
use Rattle.std.proofs.lemmas.List.{map-append}
use Rattle.std.proofs.lemmas.List.Sums.{fold-append, fold_push}
use Rattle.cg_base.specs.declared.action_id.ActionId.{ActionId}
use Rattle.cg_base.specs.Lists.{count_up}
use Rattle.cg_action.specs.declared.action.Action.{Action}
use Rattle.cg_relaxed.specs.declared.write.Stamp.{Stamp}
use Rattle.cg_relaxed.specs.declared.write.Write.{Write}
use Rattle.cg_relaxed.specs.Writes.{later, added, written}
use Rattle.cg_relaxed.specs.Cells.{sum_of, last_write}
use Rattle.cg_relaxed.specs.Relaxed.{first_of}
use Rattle.cg_relaxed.proofs.Later.{later-none, later-assoc, later-again, later-itself, Of, Of-more, Of-later, IsOfAction, written-by}

-- ---- lists of actions

-- the last write of more actions
last-from : (key : List ℕ) (w : Option Write) (actions : List Action) →
    fold (λ v a. later v (written key a)) w actions ≡ later w (last_write key actions)
last-from key w [] = sym (later-none w)
last-from key w (a ∷ actions) =
    last-from key (later w (written key a)) actions ∙ later-assoc w (written key a) (last_write key actions)
    ∙ ap (λ v. later w v) (sym (last-from key (written key a) actions))

pub last-append : (key : List ℕ) (one other : List Action) →
    last_write key (one ++ other) ≡ later (last_write key one) (last_write key other)
last-append key one other =
    fold-append (λ v a. later v (written key a)) None one other ∙ last-from key (last_write key one) other

sum-from : (key : List ℕ) (n : ℤ) (actions : List Action) →
    fold (λ m a. m +ℤ added key a) n actions ≡ n +ℤ sum_of key actions
sum-from key n [] = omega (arith, ints)
sum-from key n (a ∷ actions) =
    let here = sum-from key (n +ℤ added key a) actions in
    let there = sum-from key (pos 0 +ℤ added key a) actions in
    omega (arith, ints)

pub sum-append : (key : List ℕ) (one other : List Action) →
    sum_of key (one ++ other) ≡ sum_of key one +ℤ sum_of key other
sum-append key one other =
    fold-append (λ m a. m +ℤ added key a) (pos 0) one other ∙ sum-from key (sum_of key one) other

-- two actions that follow each other may change places where their writes may
pub swapped-writes : (key : List ℕ) (front back : List Action) (a b : Action) →
    later (written key a) (written key b) ≡ later (written key b) (written key a) →
    last_write key (front ++ a ∷ b ∷ back) ≡ last_write key (front ++ b ∷ a ∷ back)
swapped-writes key front back a b same =
    let f = λ (v : Option Write) (x : Action). later v (written key x) in
    let w = last_write key front in
    let swapped : later (later w (written key a)) (written key b) ≡ later (later w (written key b)) (written key a) =
    later-assoc w (written key a) (written key b) ∙ ap (λ v. later w v) same ∙ sym (later-assoc w (written key b) (written key a)) in
    fold-append f None front (a ∷ b ∷ back) ∙ ap (λ v. fold f v back) swapped ∙ sym (fold-append f None front (b ∷ a ∷ back))

pub swapped-sums : (key : List ℕ) (front back : List Action) (a b : Action) →
    sum_of key (front ++ a ∷ b ∷ back) ≡ sum_of key (front ++ b ∷ a ∷ back)
swapped-sums key front back a b =
    let f = λ (m : ℤ) (x : Action). m +ℤ added key x in
    let n = sum_of key front in
    let swapped : (n +ℤ added key a) +ℤ added key b ≡ (n +ℤ added key b) +ℤ added key a = omega (arith, ints) in
    fold-append f (pos 0) front (a ∷ b ∷ back) ∙ ap (λ m. fold f m back) swapped ∙ sym (fold-append f (pos 0) front (b ∷ a ∷ back))

-- ---- the first actions of a creator

abbrev pub name : ℕ → ℕ → ActionId
name p index = record { creator = p; index = index }

count-more : (from n : ℕ) → count_up from (suc n) ≡ count_up from n ++ (from + n) ∷ []
count-more from zero = let none : from ≡ from + zero = omega arith in ap (λ k. k ∷ []) none
count-more from (suc n) =
    let last : suc from + n ≡ from + suc n = omega arith in
    ap (λ ks. from ∷ ks) (count-more (suc from) n ∙ ap (λ k. count_up (suc from) n ++ k ∷ []) last)

first-more : (made : ActionId → Action) (p n : ℕ) → first_of made p (suc n) ≡ first_of made p n ++ made (name p (suc n)) ∷ []
first-more made p n =
    let last : 1 + n ≡ suc n = omega arith in
    ap (λ ks. map (λ index. made (name p index)) ks) (count-more 1 n ∙ ap (λ k. count_up 1 n ++ k ∷ []) last)
    ∙ map-append (λ index. made (name p index)) (count_up 1 n) (suc n ∷ [])

pub last-more : (key : List ℕ) (made : ActionId → Action) (p n : ℕ) →
    last_write key (first_of made p (suc n)) ≡ later (last_write key (first_of made p n)) (written key (made (name p (suc n))))
last-more key made p n =
    ap (λ actions. last_write key actions) (first-more made p n)
    ∙ fold_push (λ v a. later v (written key a)) None (first_of made p n) (made (name p (suc n)))

pub sum-more : (key : List ℕ) (made : ActionId → Action) (p n : ℕ) →
    sum_of key (first_of made p (suc n)) ≡ sum_of key (first_of made p n) +ℤ added key (made (name p (suc n)))
sum-more key made p n =
    ap (λ actions. sum_of key actions) (first-more made p n)
    ∙ fold_push (λ m a. m +ℤ added key a) (pos 0) (first_of made p n) (made (name p (suc n)))

-- what fewer of them write is in what more of them write
fewer : (key : List ℕ) (made : ActionId → Action) (p m k : ℕ) →
    later (last_write key (first_of made p m)) (last_write key (first_of made p (m + k))) ≡ last_write key (first_of made p (m + k))
fewer key made p m zero =
    let few = last_write key (first_of made p m) in
    let none : m + zero ≡ m = omega arith in
    ap (λ n. later few (last_write key (first_of made p n))) none ∙ later-itself few
    ∙ ap (λ n. last_write key (first_of made p n)) (sym none)
fewer key made p m (suc k) =
    let few = last_write key (first_of made p m) in
    let most = last_write key (first_of made p (m + k)) in
    let next = written key (made (name p (suc (m + k)))) in
    let one : m + suc k ≡ suc (m + k) = omega arith in
    let more : last_write key (first_of made p (m + suc k)) ≡ later most next =
    ap (λ n. last_write key (first_of made p n)) one ∙ last-more key made p (m + k) in
    ap (λ w. later few w) more ∙ sym (later-assoc few most next) ∙ ap (λ w. later w next) (fewer key made p m k) ∙ sym more

pub last-of-two : (key : List ℕ) (made : ActionId → Action) (p m n : ℕ) →
    later (last_write key (first_of made p m)) (last_write key (first_of made p n)) ≡ last_write key (first_of made p (max m n))
last-of-two key made p m n = elim (cases_lt n m) [
  | inl less ↦
      let few = last_write key (first_of made p n) in
      let most = last_write key (first_of made p m) in
      let in_most : later few most ≡ most = up-to n m (omega arith) in
      let greatest : m ≡ max m n = omega arith in
      ap (λ w. later w few) (sym in_most) ∙ later-again few most ∙ in_most
      ∙ ap (λ k. last_write key (first_of made p k)) greatest
  | inr at_most ↦
      let greatest : n ≡ max m n = omega arith in
      up-to m n at_most ∙ ap (λ k. last_write key (first_of made p k)) greatest
]
  where
    up-to : (i j : ℕ) → i ≤ j →
        later (last_write key (first_of made p i)) (last_write key (first_of made p j)) ≡ last_write key (first_of made p j)
    up-to i j at_most =
        let sum : i + (j - i) ≡ j = omega arith in
        ap (λ k. later (last_write key (first_of made p i)) (last_write key (first_of made p k))) (sym sum)
        ∙ fewer key made p i (j - i) ∙ ap (λ k. last_write key (first_of made p k)) sum

-- these actions stand under their names
abbrev pub StandsUpTo : (ActionId → Action) → ℕ → ℕ → Type 0
StandsUpTo made p n = (index : ℕ) → 0 < index → index < suc n → (made (name p index)).id ≡ name p index

-- the stamp's creator
abbrev pub IsBy : ℕ → Stamp → Type 0
IsBy p s = s.creator ≡ p

pub last-by : (key : List ℕ) (made : ActionId → Action) (p n : ℕ) → StandsUpTo made p n → Of (IsBy p) (last_write key (first_of made p n))
last-by key made p zero stands = tt
last-by key made p (suc n) stands =
    let a = made (name p (suc n)) in
    let own : a.id ≡ name p (suc n) = stands (suc n) (omega arith) (omega arith) in
    let before = last-by key made p n (λ index some small. stands index some (omega arith)) in
    let next : Of (IsBy p) (written key a) =
    Of-more (IsOfAction a.id.index a.id.creator) (IsBy p) (written key a) (λ s is. is.of_creator ∙ ap (λ id. id.creator) own)
    (written-by key a) in
    rw (last-more key made p n) (Of-later (IsBy p) (last_write key (first_of made p n)) (written key a) before next)

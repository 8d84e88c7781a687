-- Numbers of which each is at least the one before.
use Rattle.std.proofs.Common.{◌≡◌, ℕ, ◌<◌, ◌≤◌, List, [], ◌∷◌, ◌++◌, fold, refl, arith}

-- the last of these numbers, behind those before
abbrev pub last_from : ℕ → List ℕ → ℕ
last_from n ns = fold (λ before n. n) n ns

-- each is at least the one before
abbrev pub Rises : ℕ → List ℕ → Type 0
Rises n [] = Unit {0}
Rises n (m ∷ ms) = (n ≤ m) × Rises m ms

pub rises-append : (n : ℕ) (a b : List ℕ) → Rises n a → Rises (last_from n a) b → Rises n (a ++ b)
rises-append n [] b p q = q
rises-append n (m ∷ a) b p q = (p.0, rises-append m a b p.1 q)

pub last-append : (n : ℕ) (a b : List ℕ) → last_from n (a ++ b) ≡ last_from (last_from n a) b
last-append n [] b = refl
last-append n (m ∷ a) b = last-append m a b

-- what rises is at each place at most what it is at a later one
pub rises-least : (n : ℕ) (ms : List ℕ) → Rises n ms → n ≤ last_from n ms
rises-least n [] r = omega arith
rises-least n (m ∷ ms) r = let more = rises-least m ms r.1 in omega (arith, r.0, more)

rises-behind : (n : ℕ) (before after : List ℕ) → Rises n (before ++ after) → Rises (last_from n before) after
rises-behind n [] after r = r
rises-behind n (m ∷ before) after r = rises-behind m before after r.1

rises-front : (n : ℕ) (before after : List ℕ) → Rises n (before ++ after) → Rises n before
rises-front n [] after r = tt
rises-front n (m ∷ before) after r = (r.0, rises-front m before after r.1)

pub never-falls : (start : ℕ) (before between after : List ℕ) (n m : ℕ) →
    Rises start (before ++ n ∷ (between ++ m ∷ after)) → n ≤ m
never-falls start before between after n m r =
    let here = rises-behind start before (n ∷ (between ++ m ∷ after)) r in
    let there = rises-behind n between (m ∷ after) here.1 in
    let least = rises-least n between (rises-front n between (m ∷ after) here.1) in
    omega (arith, there.0, least)

-- each is above the one before
abbrev pub Ascends : ℕ → List ℕ → Type 0
Ascends low [] = Unit {0}
Ascends low (n ∷ ns) = (low < n) × Ascends n ns

-- Actions of one creator with indexes that count up.
use Rattle.std.proofs.Common.{◌≡◌, ℕ, zero, suc, ◌+◌, ◌-◌, ◌≢◌, List, [], ◌∷◌, ◌++◌, length, drop, Bool, refl, sym, ap, ◌∙◌, arith, inl, inr}
use Rattle.std.proofs.lemmas.Bool.{cases_eq, eq-eqb, ne_eqb}
use Rattle.cg_action.specs.declared.action.Action.{Action}
use Rattle.cg_queue.specs.declared.red.Red.{Red}
use Rattle.cg_queue.specs.Lanes.{marked_at}
use Rattle.cg_queue.specs.Body.{Stretch, Follows, positions_of, actions_in}

-- ---- reds

pub Stretch-more : (c from : ℕ) (reds : List Red) (r : Red) → Stretch c from reds → r.action.id.creator ≡ c → r.action.id.index ≡ from + length reds → Stretch c from (reds ++ r ∷ [])
Stretch-more c from [] r stretch creator index = (creator, (let none : from + 0 ≡ from = omega arith in index ∙ none), tt)
Stretch-more c from (x ∷ reds) r stretch creator index =
    let next : from + suc (length reds) ≡ suc from + length reds = omega arith in
    (stretch.0, stretch.1, Stretch-more c (suc from) reds r stretch.2 creator (index ∙ next))

pub Stretch-less : (c from : ℕ) (reds : List Red) → Stretch c from reds → Stretch c (suc from) (drop 1 reds)
Stretch-less c from [] stretch = tt
Stretch-less c from (r ∷ reds) stretch = stretch.2

pub Stretch-marked : (c from : ℕ) (reds : List Red) (i : ℕ) (flag : Bool) → Stretch c from reds → Stretch c from (marked_at reds i flag)
Stretch-marked c from [] i flag stretch = tt
Stretch-marked c from (r ∷ reds) zero flag stretch = stretch
Stretch-marked c from (r ∷ reds) (suc i) flag stretch = (stretch.0, stretch.1, Stretch-marked c (suc from) reds i flag stretch.2)

pub length-marked : (reds : List Red) (i : ℕ) (flag : Bool) → length (marked_at reds i flag) ≡ length reds
length-marked [] i flag = refl
length-marked (r ∷ reds) zero flag = refl
length-marked (r ∷ reds) (suc i) flag = ap suc (length-marked reds i flag)

pub actions_in-marked : (reds : List Red) (i : ℕ) (flag : Bool) → actions_in (marked_at reds i flag) ≡ actions_in reds
actions_in-marked [] i flag = refl
actions_in-marked (r ∷ reds) zero flag = refl
actions_in-marked (r ∷ reds) (suc i) flag = ap (λ xs. r.action ∷ xs) (actions_in-marked reds i flag)

pub marked-last : (reds : List Red) (a : Action) (f g : Bool) → marked_at (reds ++ record { action = a; is_yellow = f } ∷ []) (length reds) g ≡ reds ++ record { action = a; is_yellow = g } ∷ []
marked-last [] a f g = refl
marked-last (r ∷ reds) a f g = ap (λ xs. r ∷ xs) (marked-last reds a f g)

pub length-less : (reds : List Red) → length (drop 1 reds) ≡ length reds - 1
length-less [] = refl
length-less (r ∷ reds) = let one : suc (length reds) - 1 ≡ length reds = omega arith in sym one

-- ---- greens

pub Follows-more : (c from last : ℕ) (greens : List Action) (a : Action) → Follows c from last greens → a.id.creator ≡ c → a.id.index ≡ suc last → Follows c from (suc last) (greens ++ a ∷ [])
Follows-more c from last [] a follows creator index = rw (eq-eqb a.id.creator c creator) (index ∙ sym follows, ap suc follows)
Follows-more c from last (x ∷ greens) a follows creator index = elim (cases_eq x.id.creator c) [
  | inl same ↦
      let here = rw (eq-eqb x.id.creator c same) at follows in
      rw (eq-eqb x.id.creator c same) (here.0, Follows-more c (suc from) last greens a here.1 creator index)
  | inr apart ↦
      let here = rw (ne_eqb x.id.creator c apart) at follows in
      rw (ne_eqb x.id.creator c apart) (Follows-more c from last greens a here creator index)
]

pub Follows-others : (c from last : ℕ) (greens : List Action) (a : Action) → Follows c from last greens → a.id.creator ≢ c → Follows c from last (greens ++ a ∷ [])
Follows-others c from last [] a follows apart = rw (ne_eqb a.id.creator c apart) follows
Follows-others c from last (x ∷ greens) a follows other = elim (cases_eq x.id.creator c) [
  | inl same ↦
      let here = rw (eq-eqb x.id.creator c same) at follows in
      rw (eq-eqb x.id.creator c same) (here.0, Follows-others c (suc from) last greens a here.1 other)
  | inr apart ↦
      let here = rw (ne_eqb x.id.creator c apart) at follows in
      rw (ne_eqb x.id.creator c apart) (Follows-others c from last greens a here other)
]

pub positions_of-more : (c position : ℕ) (greens : List Action) (a : Action) → a.id.creator ≡ c → positions_of c position (greens ++ a ∷ []) ≡ positions_of c position greens ++ (position + length greens) ∷ []
positions_of-more c position [] a creator = rw (eq-eqb a.id.creator c creator) (let none : position ≡ position + 0 = omega arith in ap (λ n. n ∷ []) none)
positions_of-more c position (x ∷ greens) a creator =
    let next : suc position + length greens ≡ position + suc (length greens) = omega arith in
    let rest = positions_of-more c (suc position) greens a creator ∙ ap (λ n. positions_of c (suc position) greens ++ n ∷ []) next in
    elim (cases_eq x.id.creator c) [
      | inl same ↦ rw (eq-eqb x.id.creator c same) (ap (λ xs. position ∷ xs) rest)
      | inr apart ↦ rw (ne_eqb x.id.creator c apart) rest
    ]

pub positions_of-others : (c position : ℕ) (greens : List Action) (a : Action) → a.id.creator ≢ c → positions_of c position (greens ++ a ∷ []) ≡ positions_of c position greens
positions_of-others c position [] a other = rw (ne_eqb a.id.creator c other)
positions_of-others c position (x ∷ greens) a other =
    let rest = positions_of-others c (suc position) greens a other in
    elim (cases_eq x.id.creator c) [
      | inl same ↦ rw (eq-eqb x.id.creator c same) (ap (λ xs. position ∷ xs) rest)
      | inr apart ↦ rw (ne_eqb x.id.creator c apart) rest
    ]

-- Rows at places, and lists at their ends.
use Rattle.std.proofs.Common.{◌≡◌, ℕ, zero, suc, ◌-◌, ◌<◌, ◌≤◌, ◌≢◌, List, [], ◌∷◌, ◌++◌, map, filter, length, take, fold, set, get_or, Bool, true, refl, sym, ap, ◌∙◌, arith, inl, inr}
use Rattle.std.proofs.lemmas.Bool.{cases_eq, cases_Bool, eq-eqb, ne_eqb}
use Rattle.cg_queue.specs.declared.red.Red.{Red}
use Rattle.cg_queue.specs.Lanes.{lane_at, with_lane, front_of, marked_at}

module _ {R X : Type 0} (items : R → List X) where
  pub lane_at-behind : (rows : List R) (k : ℕ) → length rows ≤ k → lane_at items rows k ≡ []
  lane_at-behind [] k le = refl
  lane_at-behind (row ∷ rows) zero le = absurd (omega arith)
  lane_at-behind (row ∷ rows) (suc k) le = lane_at-behind rows k (omega arith)

  pub lane_at-get : (rows : List R) (k : ℕ) (row : R) → k < length rows → lane_at items rows k ≡ items (get_or rows k row)
  lane_at-get [] k row lt = absurd (omega arith)
  lane_at-get (r ∷ rows) zero row lt = refl
  lane_at-get (r ∷ rows) (suc k) row lt = lane_at-get rows k row (omega arith)

  lane_at-set_same : (rows : List R) (slot : ℕ) (row : R) → slot < length rows → lane_at items (set rows slot row) slot ≡ items row
  lane_at-set_same [] slot row lt = absurd (omega arith)
  lane_at-set_same (r ∷ rows) zero row lt = refl
  lane_at-set_same (r ∷ rows) (suc slot) row lt = lane_at-set_same rows slot row (omega arith)

  lane_at-set_other : (rows : List R) (slot : ℕ) (row : R) (k : ℕ) → k ≢ slot → lane_at items (set rows slot row) k ≡ lane_at items rows k
  lane_at-set_other [] slot row k apart = refl
  lane_at-set_other (r ∷ rows) zero row zero apart = absurd (apart refl)
  lane_at-set_other (r ∷ rows) zero row (suc k) apart = refl
  lane_at-set_other (r ∷ rows) (suc slot) row zero apart = refl
  lane_at-set_other (r ∷ rows) (suc slot) row (suc k) apart = lane_at-set_other rows slot row k (λ e. apart (ap suc e))

  lane_at-set : (rows : List R) (slot : ℕ) (row : R) (k : ℕ) → slot < length rows → lane_at items (set rows slot row) k ≡ with_lane (lane_at items rows) slot (items row) k
  lane_at-set rows slot row k lt = elim (cases_eq k slot) [
    | inl same ↦ rw (eq-eqb k slot same) (ap (lane_at items (set rows slot row)) same ∙ lane_at-set_same rows slot row lt)
    | inr apart ↦ rw (ne_eqb k slot apart) (lane_at-set_other rows slot row k apart)
  ]

  pub lane_at-append : (rows : List R) (row : R) (k : ℕ) → items row ≡ [] → lane_at items (rows ++ row ∷ []) k ≡ lane_at items rows k
  lane_at-append [] row zero none = none
  lane_at-append [] row (suc k) none = refl
  lane_at-append (r ∷ rows) row zero none = refl
  lane_at-append (r ∷ rows) row (suc k) none = lane_at-append rows row k none

  -- a row that is written, or left
  pub lanes-set : (rows : List R) (slot : ℕ) (row : R) (xs : List X) → slot < length rows → items row ≡ xs → lane_at items (set rows slot row) ≡ with_lane (lane_at items rows) slot xs
  lanes-set rows slot row xs lt is = λ i k. (lane_at-set rows slot row k lt ∙ ap (λ ys. with_lane (lane_at items rows) slot ys k) is) i

  pub lanes-left : (rows : List R) (slot : ℕ) (xs : List X) → xs ≡ lane_at items rows slot → lane_at items rows ≡ with_lane (lane_at items rows) slot xs
  lanes-left rows slot xs own = λ i k. left k i
    where
      left : (k : ℕ) → lane_at items rows k ≡ with_lane (lane_at items rows) slot xs k
      left k = elim (cases_eq k slot) [
        | inl same ↦ rw (eq-eqb k slot same) (ap (lane_at items rows) same ∙ sym own)
        | inr apart ↦ rw (ne_eqb k slot apart)
      ]

  pub lanes-same : (rows others : List R) → ((k : ℕ) → lane_at items rows k ≡ lane_at items others k) → lane_at items rows ≡ lane_at items others
  lanes-same rows others same = λ i k. same k i

-- the flag of one that stands there is written
pub marked-set : (reds : List Red) (i : ℕ) (r : Red) (flag : Bool) → r ≡ get_or reds i r → set reds i (record r { is_yellow = flag }) ≡ marked_at reds i flag
marked-set [] i r flag there = refl
marked-set (x ∷ reds) zero r flag there = let put : Red → List Red = λ y. record y { is_yellow = flag } ∷ reds in ap put there
marked-set (x ∷ reds) (suc i) r flag there = ap (λ xs. x ∷ xs) (marked-set reds i r flag there)

pub marked-behind : (reds : List Red) (i : ℕ) (flag : Bool) → length reds ≤ i → marked_at reds i flag ≡ reds
marked-behind [] i flag le = refl
marked-behind (r ∷ reds) zero flag le = absurd (omega arith)
marked-behind (r ∷ reds) (suc i) flag le = ap (λ xs. r ∷ xs) (marked-behind reds i flag (omega arith))

module _ {X : Type 0} (lanes : ℕ → List X) (slot : ℕ) (row : List X) where
  pub with_lane-same : (k : ℕ) → k ≡ slot → with_lane lanes slot row k ≡ row
  with_lane-same k same = rw (eq-eqb k slot same)

  pub with_lane-other : (k : ℕ) → k ≢ slot → with_lane lanes slot row k ≡ lanes k
  with_lane-other k apart = rw (ne_eqb k slot apart)

pub same_lanes : {X : Type 0} (f g : ℕ → List X) → ((k : ℕ) → f k ≡ g k) → f ≡ g
same_lanes f g same = λ i k. same k i

pub front_of-append : {X : Type 0} (xs : List X) (x : X) → front_of (xs ++ x ∷ []) ≡ xs
front_of-append [] x = refl
front_of-append (y ∷ []) x = refl
front_of-append (y ∷ z ∷ xs) x = ap (λ ys. y ∷ ys) (front_of-append (z ∷ xs) x)

-- as `pop` says it
pub front_of-take : {X : Type 0} (xs : List X) (count : ℕ) → count ≡ length xs → take (count - 1) xs ≡ front_of xs
front_of-take xs count all = (let last : count - 1 ≡ length xs - 1 = omega arith in ap (λ n. take n xs) last) ∙ front xs
  where
    front : {X : Type 0} (xs : List X) → take (length xs - 1) xs ≡ front_of xs
    front [] = refl
    front (x ∷ []) = refl
    front (x ∷ y ∷ xs) = let one : suc (suc (length xs)) - 1 ≡ suc (suc (length xs) - 1) = omega arith in ap (λ n. take n (x ∷ y ∷ xs)) one ∙ ap (λ ys. x ∷ ys) (front (y ∷ xs))

pub append-nothing : {X : Type 0} (xs : List X) → xs ++ [] ≡ xs
append-nothing [] = refl
append-nothing (x ∷ xs) = ap (λ ys. x ∷ ys) (append-nothing xs)

-- the last thing of a row taken away again
pub lanes-undone : {X : Type 0} (lanes : ℕ → List X) (slot : ℕ) (x : X)
    → with_lane (with_lane lanes slot (lanes slot ++ x ∷ [])) slot (front_of (with_lane lanes slot (lanes slot ++ x ∷ []) slot)) ≡ lanes
lanes-undone lanes slot x = same_lanes _ _ (λ k. elim (cases_eq k slot) [
  | inl same ↦ with_lane-same (with_lane lanes slot (lanes slot ++ x ∷ [])) slot (front_of (with_lane lanes slot (lanes slot ++ x ∷ []) slot)) k same
      ∙ ap front_of (with_lane-same lanes slot (lanes slot ++ x ∷ []) slot refl) ∙ front_of-append (lanes slot) x ∙ ap lanes (sym same)
  | inr apart ↦ with_lane-other (with_lane lanes slot (lanes slot ++ x ∷ [])) slot (front_of (with_lane lanes slot (lanes slot ++ x ∷ []) slot)) k apart
      ∙ with_lane-other lanes slot (lanes slot ++ x ∷ []) k apart
])

-- one more of a list, taken from the front
pub fold-more : {A B : Type 0} (f : A → B → A) (a : A) (xs : List B) (i : ℕ) (d : B) → i < length xs → fold f a (take (suc i) xs) ≡ f (fold f a (take i xs)) (get_or xs i d)
fold-more f a [] i d lt = absurd (omega arith)
fold-more f a (x ∷ xs) zero d lt = refl
fold-more f a (x ∷ xs) (suc i) d lt = fold-more f (f a x) xs i d (omega arith)

pub filter-more : {X : Type 0} (test : X → Bool) (xs : List X) (x : X) → test x ≡ true → filter test (xs ++ x ∷ []) ≡ filter test xs ++ x ∷ []
filter-more test [] x passes = rw passes
filter-more test (y ∷ xs) x passes = elim (cases_Bool (test y)) [
  | inl keeps ↦ rw keeps (ap (λ ys. y ∷ ys) (filter-more test xs x passes))
  | inr fails ↦ rw fails (filter-more test xs x passes)
]

pub filter-twice : {X : Type 0} (test : X → Bool) (xs : List X) → filter test (filter test xs) ≡ filter test xs
filter-twice test [] = refl
filter-twice test (x ∷ xs) = elim (cases_Bool (test x)) [
  | inl passes ↦ rw (passes, passes) (ap (λ ys. x ∷ ys) (filter-twice test xs))
  | inr fails ↦ rw fails (filter-twice test xs)
]

pub same_length : {X Y : Type 0} (f : X → Y) (xs ys : List X) → map f xs ≡ map f ys → length xs ≡ length ys
same_length {X} {Y} f xs ys same = sym (long xs) ∙ ap length same ∙ long ys
  where
    long : (zs : List X) → length (map f zs) ≡ length zs
    long [] = refl
    long (z ∷ zs) = ap suc (long zs)

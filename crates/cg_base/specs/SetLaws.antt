-- What is in a set that is made from others, and that it is a set.
use Rattle.std.proofs.Common.{◌≡◌, ◌≢◌, ℕ, zero, suc, ◌+◌, ◌<◌, ◌≤◌, ◌||◌, ◌&&◌, List, [], ◌∷◌, length, filter, Bool, not, true, false, eqb, refl, sym, ap, subst, ◌∙◌, arith, inl, inr, Some}
use Rattle.std.specs.List.{list_all}
use Rattle.std.proofs.lemmas.Bool.{cases_eq, cases_order, cases_Bool, eq-eqb, ne_eqb, lt-ltb, le-ltb, eqb-true, and_parts, and_from, or_cases, or_left, or_right}
use Rattle.cg_base.specs.Lists.{count_up}
use Rattle.cg_base.specs.Sets.{IsId, IsSet, Ascends, has, with_member, without_member, union, common, without, least, is_within}
use Rattle.cg_base.specs.Replicas.{every_replica}
use Rattle.cg_base.specs.BoolLaws.{and_false, or_assoc, or_comm}

-- ---- ascending lists

pub Ascends-below : (set : List ℕ) (low lower : ℕ) → lower ≤ low → Ascends low set → Ascends lower set
Ascends-below [] low lower le ascends = tt
Ascends-below (p ∷ set) low lower le ascends =
    let above : low ≤ p = ascends.0 in (omega arith, ascends.1, ascends.2)

-- a member is one of the identifiers, and not below the first
pub has-within : (set : List ℕ) (low p : ℕ) → Ascends low set → has set p ≡ true → (low ≤ p) × (p ≤ 32)
has-within [] low p ascends h = absurd (cc)
has-within (q ∷ set) low p ascends h =
    let above : low ≤ q = ascends.0 in
    elim (cases_eq q p) [
      | inl same ↦ let high : q ≤ 32 = ascends.1 in (omega arith, omega arith)
      | inr apart ↦
          let later : has set p ≡ true = rw (ne_eqb q p apart) at h in
          let rest : (suc q ≤ p) × (p ≤ 32) = has-within set (suc q) p ascends.2 later in
          (omega arith, rest.1)
    ]

-- ---- one more member

or_again : (a b : Bool) → (a || b) ≡ ((a || b) || a)
or_again true b = refl
or_again false true = refl
or_again false false = refl

pub with_member-same : (q : ℕ) (set : List ℕ) (p : ℕ) → p ≡ q → with_member (q ∷ set) p ≡ q ∷ set
with_member-same q set p same = rw (eq-eqb p q same)

pub with_member-front : (q : ℕ) (set : List ℕ) (p : ℕ) → p < q → with_member (q ∷ set) p ≡ p ∷ q ∷ set
with_member-front q set p lt = rw (ne_eqb p q (λ e. omega arith), lt-ltb p q lt)

pub with_member-later : (q : ℕ) (set : List ℕ) (p : ℕ) → q < p → with_member (q ∷ set) p ≡ q ∷ with_member set p
with_member-later q set p lt = rw (ne_eqb p q (λ e. omega arith), le-ltb p q (omega arith))

pub has-with_member : (set : List ℕ) (p k : ℕ) → has (with_member set p) k ≡ (has set k || eqb p k)
has-with_member [] p k = or_comm (eqb p k) false
has-with_member (q ∷ set) p k = elim (cases_order p q) [
  | inl same ↦ rw (with_member-same q set p same) (or_again (eqb q k) (has set k)
      ∙ ap (λ n. (eqb q k || has set k) || eqb n k) (sym same))
  | inr other ↦ elim other [
    | inl front ↦ rw (with_member-front q set p front) (or_comm (eqb p k) (eqb q k || has set k))
    | inr later ↦ rw (with_member-later q set p later) (ap (λ b. eqb q k || b) (has-with_member set p k)
        ∙ sym (or_assoc (eqb q k) (has set k) (eqb p k)))
  ]
]

pub Ascends-with_member : (set : List ℕ) (low p : ℕ) → low ≤ p → p ≤ 32 → Ascends low set →
    Ascends low (with_member set p)
Ascends-with_member [] low p le high ascends = (le, high, tt)
Ascends-with_member (q ∷ set) low p le high ascends = elim (cases_order p q) [
  | inl same ↦ rw (with_member-same q set p same) ascends
  | inr other ↦ elim other [
    | inl front ↦ rw (with_member-front q set p front) (le, high, (front, ascends.1, ascends.2))
    | inr later ↦ rw (with_member-later q set p later) (
      ascends.0,
      ascends.1,
      Ascends-with_member set (suc q) p later high ascends.2,
    )
  ]
]

-- ---- members that pass a test

pub filter-keeps : {X : Type 0} (test : X → Bool) (x : X) (xs : List X) → test x ≡ true →
    filter test (x ∷ xs) ≡ x ∷ filter test xs
filter-keeps test x xs passes = rw passes

pub filter-drops : {X : Type 0} (test : X → Bool) (x : X) (xs : List X) → test x ≡ false →
    filter test (x ∷ xs) ≡ filter test xs
filter-drops test x xs fails = rw fails

has-filter_first : (q k : ℕ) (a : Bool) (test : ℕ → Bool) → test q ≡ false → (a && test k) ≡ ((eqb q k || a) && test k)
has-filter_first q k a test fails = elim (cases_eq q k) [
  | inl same ↦ let here : test k ≡ false = rw same at fails in rw here (and_false a ∙ sym (and_false (eqb q k || a)))
  | inr apart ↦ rw (ne_eqb q k apart)
]

has-filter_kept : (q k : ℕ) (a : Bool) (test : ℕ → Bool) → test q ≡ true →
    (eqb q k || (a && test k)) ≡ ((eqb q k || a) && test k)
has-filter_kept q k a test passes = elim (cases_eq q k) [
  | inl same ↦ let here : test k ≡ true = rw same at passes in rw (here, eq-eqb q k same)
  | inr apart ↦ rw (ne_eqb q k apart)
]

pub has-filter : (test : ℕ → Bool) (set : List ℕ) (k : ℕ) → has (filter test set) k ≡ (has set k && test k)
has-filter test [] k = refl
has-filter test (q ∷ set) k = elim (cases_Bool (test q)) [
  | inl passes ↦ rw (filter-keeps test q set passes) (ap (λ b. eqb q k || b) (has-filter test set k)
      ∙ has-filter_kept q k (has set k) test passes)
  | inr fails ↦ rw (filter-drops test q set fails) (has-filter test set k ∙ has-filter_first q k (has set k) test fails)
]

pub Ascends-filter : (test : ℕ → Bool) (set : List ℕ) (low : ℕ) → Ascends low set → Ascends low (filter test set)
Ascends-filter test [] low ascends = tt
Ascends-filter test (q ∷ set) low ascends = elim (cases_Bool (test q)) [
  | inl passes ↦ rw (filter-keeps test q set passes) (ascends.0, ascends.1, Ascends-filter test set (suc q) ascends.2)
  | inr fails ↦ rw (filter-drops test q set fails)
      (Ascends-below (filter test set) (suc q) low (let le : low ≤ q = ascends.0 in
      omega arith) (Ascends-filter test set (suc q) ascends.2))
]

-- ---- two sets

pub has-union : (s t : List ℕ) (k : ℕ) → has (union s t) k ≡ (has s k || has t k)
has-union s [] k = or_comm false (has s k)
has-union s (p ∷ t) k = has-union (with_member s p) t k ∙ ap (λ b. b || has t k) (has-with_member s p k)
    ∙ or_assoc (has s k) (eqb p k) (has t k)

pub Ascends-union : (s t : List ℕ) (low : ℕ) → 1 ≤ low → Ascends 1 s → Ascends low t → Ascends 1 (union s t)
Ascends-union s [] low one ascends others = ascends
Ascends-union s (p ∷ t) low one ascends others =
    let above : low ≤ p = others.0 in
    Ascends-union (with_member s p) t (suc p) (omega arith) (Ascends-with_member s 1 p (omega arith)
    others.1 ascends) others.2

pub has-common : (s t : List ℕ) (k : ℕ) → has (common s t) k ≡ (has s k && has t k)
has-common s t k = has-filter (has t) s k

pub has-without : (s t : List ℕ) (k : ℕ) → has (without s t) k ≡ (has s k && not (has t k))
has-without s t k = has-filter (λ p. not (has t p)) s k

pub has-without_member : (set : List ℕ) (p k : ℕ) → has (without_member set p) k ≡ (has set k && not (eqb k p))
has-without_member set p k = has-filter (λ q. not (eqb q p)) set k

-- the least member taken away leaves the others
pub without_member-least : (p : ℕ) (set : List ℕ) (low : ℕ) → Ascends low (p ∷ set) → without_member (p ∷ set) p ≡ set
without_member-least p set low ascends =
    filter-drops (λ q. not (eqb q p)) p set (ap not (eq-eqb p p refl))
    ∙ filter-all p set (suc p) (omega arith) ascends.2
  where
    filter-all : (p : ℕ) (set : List ℕ) (low : ℕ) → p < low → Ascends low set → filter (λ q. not (eqb q p)) set ≡ set
    filter-all p [] low lt ascends = refl
    filter-all p (q ∷ set) low lt ascends =
        let above : low ≤ q = ascends.0 in
        filter-keeps (λ q. not (eqb q p)) q set (ap not (ne_eqb q p (λ e. omega arith)))
        ∙ ap (λ s. q ∷ s) (filter-all p set (suc q) (omega arith) ascends.2)

-- a set is its least member and the others
pub least-first : (set : List ℕ) (low p : ℕ) → Ascends low set → Some p ≡ least set → set ≡ p ∷ without_member set p
least-first [] low p ascends first = absurd (cc)
least-first (q ∷ set) low p ascends first =
    let same : p ≡ q = cc in
    let P : ℕ → Type 0 = λ x. q ∷ set ≡ x ∷ without_member (q ∷ set) x in
    subst P (sym same) (ap (λ s. q ∷ s) (sym (without_member-least q set low ascends)))

-- no set has more members than there are identifiers
pub length-Ascends : (set : List ℕ) (low : ℕ) → low ≤ 33 → Ascends low set → length set + low ≤ 33
length-Ascends [] low small ascends = omega arith
length-Ascends (p ∷ set) low small ascends =
    let above : low ≤ p = ascends.0 in
    let high : p ≤ 32 = ascends.1 in
    let rest : length set + suc p ≤ 33 = length-Ascends set (suc p) (omega arith) ascends.2 in
    omega arith

pub length-IsSet : (set : List ℕ) → IsSet set → length set ≤ 32
length-IsSet set is_set = let most : length set + 1 ≤ 33 =
    length-Ascends set 1 (omega arith) is_set.ascends in omega arith

-- ---- one set within another

pub is_within-has : (s t : List ℕ) (p : ℕ) → is_within s t ≡ true → has s p ≡ true → has t p ≡ true
is_within-has [] t p within here = absurd (cc)
is_within-has (q ∷ s) t p within here =
    let parts = and_parts (has t q) (is_within s t) within in
    elim (or_cases (eqb q p) (has s p) here) [
      | inl same ↦ let e : q ≡ p = eqb-true q p same in rw e at parts.0
      | inr later ↦ is_within-has s t p parts.1 later
    ]

pub is_within-from : (s t : List ℕ) → ((p : ℕ) → has s p ≡ true → has t p ≡ true) → is_within s t ≡ true
is_within-from [] t each = refl
is_within-from (q ∷ s) t each =
    and_from (has t q) (is_within s t) (each q (or_left (eqb q q) (has s q) (eq-eqb q q refl)))
    (is_within-from s t (λ p here. each p (or_right (eqb q p) (has s p) here)))

-- ---- all replicas

-- what holds of all replicas holds of each
pub each-replica : (test : ℕ → Bool) (p : ℕ) → list_all test every_replica ≡ true → IsId p → test p ≡ true
unfolding every_replica
each-replica test p each id = at-count 32 1 each id.0 (let high : p ≤ 32 = id.1 in omega arith) where
  above : {m : ℕ} → m ≢ p → m ≤ p → suc m ≤ p
  above {m} apart low = elim (cases_order m p) [
    | inl same ↦ absurd (apart same)
    | inr other ↦ elim other [ inl lt ↦ lt | inr gt ↦ absurd (omega arith) ]
  ]

  at-count : (n from : ℕ) → list_all test (count_up from n) ≡ true → from ≤ p → p < from + n → test p ≡ true
  at-count zero from each low high = absurd (omega arith)
  at-count (suc n) from each low high =
      let parts = and_parts (test from) (list_all test (count_up (suc from) n)) each in
      elim (cases_eq from p) [
        | inl same ↦ ap test (sym same) ∙ parts.0
        | inr apart ↦ at-count n (suc from) parts.1 (above apart low) (omega arith)
      ]

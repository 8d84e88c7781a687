-- The followers that were made, after one was taken out or has come.
use Rattle.std.proofs.Common.{◌≡◌, ℕ, zero, suc, ◌<◌, ◌≤◌, cond, List, [], ◌∷◌, ◌+◌, length, Some, None, refl, sym, ap, subst, ◌∙◌, arith, eqb-true, position, one-add, get_or, inl, inr, ⊎_elim, nat_lt}
use Rattle.std.specs.Prelude.{◌==◌}
use Rattle.std.specs.List.{insert, remove, prefix_len, position_or_len, slice_get}
use Rattle.std.proofs.lemmas.List.Quantifiers.{position-Some}
use Rattle.std.proofs.lemmas.List.Folds.{find_at}
use Rattle.std.proofs.lemmas.List.Sums.{position_or_len_is}
use Rattle.std.proofs.lemmas.Option.{slice_get-get_or, slice_get_past}
use Rattle.std.proofs.lemmas.Bool.{cases_order, cases_lt, cond-true, cond-false, eq-eqb, ne_eqb, lt-ltb, le-ltb}
use Rattle.cg_follower_list.specs.Life.{Follower}
use Rattle.cg_follower_list.specs.Followers.{follower_at, with_follower}
use Rattle.cg_follower_list.specs.Turning.{Ascending, AreListed}

-- ---- where a follower stands

found_there : (fs : List Follower) (f i : ℕ) (d : Follower) → position (λ s. s.id == f) fs ≡ Some i →
    (i < length fs) × ((get_or fs i d).id ≡ f) × (follower_at fs f ≡ Some (get_or fs i d))
found_there fs f i d e =
    let w = position-Some (λ (s : Follower). s.id == f) fs i d e in
    let place : position_or_len (λ s. s.id == f) fs ≡ i =
    position_or_len_is (λ (s : Follower). s.id == f) fs i d (omega (arith, w.0)) w.2 (λ lt. w.1) in
    (w.0, eqb-true (get_or fs i d).id f w.1, find_at (λ (s : Follower). s.id == f) fs ∙ ap (slice_get fs) place ∙ slice_get-get_or fs i d w.0)

pub found_nowhere : (fs : List Follower) (f : ℕ) → position (λ s. s.id == f) fs ≡ None → follower_at fs f ≡ None
found_nowhere fs f e =
    find_at (λ (s : Follower). s.id == f) fs ∙ slice_get_past fs (position_or_len (λ s. s.id == f) fs)
    (le_from_test (position_or_len (λ s. s.id == f) fs) (length fs) e)
  where
    le_from_test : (k n : ℕ) → cond (nat_lt k n) (Some k) None ≡ None → n ≤ k
    le_from_test k n e = ⊎_elim
        (λ (lt : k < n). absurd (let clash : Some k ≡ None = sym (cond-true (nat_lt k n) (Some k) None (lt-ltb k n lt)) ∙ e in cc)) (λ le. le) (cases_lt k n)

-- ---- a follower comes

with_follower-same : (s : Follower) (fs : List Follower) (new : Follower) → s.id ≡ new.id → with_follower (s ∷ fs) new ≡ new ∷ fs
with_follower-same s fs new same = rw (eq-eqb s.id new.id same)

with_follower-front : (s : Follower) (fs : List Follower) (new : Follower) → new.id < s.id → with_follower (s ∷ fs) new ≡ new ∷ s ∷ fs
with_follower-front s fs new lt = rw (ne_eqb s.id new.id (λ e. omega arith), lt-ltb new.id s.id lt)

with_follower-later : (s : Follower) (fs : List Follower) (new : Follower) → s.id < new.id → with_follower (s ∷ fs) new ≡ s ∷ with_follower fs new
with_follower-later s fs new lt = rw (ne_eqb s.id new.id (λ e. omega arith), le-ltb new.id s.id (omega arith))

ascends-with : (fs : List Follower) (low : ℕ) (new : Follower) → low ≤ new.id → Ascending low fs → Ascending low (with_follower fs new)
ascends-with [] low new le are = (le, tt)
ascends-with (s ∷ fs) low new le are = elim (cases_order new.id s.id) [
  | inl same ↦ subst (Ascending low) (sym (with_follower-same s fs new (sym same))) (le, subst (λ n. Ascending (suc n) fs) (sym same) are.1)
  | inr other ↦ elim other [
    | inl front ↦ subst (Ascending low) (sym (with_follower-front s fs new front)) (le, (front, are.1))
    | inr later ↦ subst (Ascending low) (sym (with_follower-later s fs new later)) (are.0, ascends-with fs (suc s.id) new (omega arith) are.1)
  ]
]

-- a follower of a number of which there is none stands behind all those below it
pub insert-with : (fs : List Follower) (new : Follower) → follower_at fs new.id ≡ None →
    insert fs (prefix_len (λ s. nat_lt s.id new.id) fs) new ≡ with_follower fs new
insert-with [] new away = refl
insert-with (s ∷ fs) new away = elim (cases_order new.id s.id) [
  | inl same ↦ absurd (let clash : Some s ≡ None = sym (cond-true (s.id == new.id) (Some s) (follower_at fs new.id) (eq-eqb s.id new.id (sym same))) ∙ away in cc)
  | inr other ↦ elim other [
    | inl front ↦ ap (λ n. insert (s ∷ fs) n new) (cond-false (nat_lt s.id new.id) (1 + prefix_len (λ s. nat_lt s.id new.id) fs) 0 (le-ltb s.id new.id (omega arith)))
        ∙ sym (with_follower-front s fs new front)
    | inr later ↦
        let rest : follower_at fs new.id ≡ None = sym (cond-false (s.id == new.id) (Some s) (follower_at fs new.id) (ne_eqb s.id new.id (λ e. omega arith))) ∙ away in
        ap (λ n. insert (s ∷ fs) n new) (cond-true (nat_lt s.id new.id) (1 + prefix_len (λ s. nat_lt s.id new.id) fs) 0 (lt-ltb s.id new.id later) ∙ one-add (prefix_len (λ s. nat_lt s.id new.id) fs))
        ∙ ap (λ z. s ∷ z) (insert-with fs new rest) ∙ sym (with_follower-later s fs new later)
  ]
]

pub listed-with : (fs : List Follower) (new : Follower) → AreListed fs → AreListed (with_follower fs new)
listed-with fs new are = record { ascends = ascends-with fs 0 new (omega arith) are.ascends }

-- ---- a follower is taken out

lower : (fs : List Follower) (low more : ℕ) → low ≤ more → Ascending more fs → Ascending low fs
lower [] low more le are = tt
lower (s ∷ fs) low more le are = let above : more ≤ s.id = are.0 in (omega arith, are.1)

id_within : (fs : List Follower) (low i : ℕ) (d : Follower) → Ascending low fs → i < length fs → low ≤ (get_or fs i d).id
id_within [] low i d are lt = absurd (omega arith)
id_within (s ∷ fs) low zero d are lt = are.0
id_within (s ∷ fs) low (suc i) d are lt =
    let above : low ≤ s.id = are.0 in
    let later : suc s.id ≤ (get_or fs i d).id = id_within fs (suc s.id) i d are.1 (omega arith) in omega arith

ascends-remove : (fs : List Follower) (low i : ℕ) → Ascending low fs → i < length fs → Ascending low (remove fs i)
ascends-remove [] low i are lt = absurd (omega arith)
ascends-remove (s ∷ fs) low zero are lt = let above : low ≤ s.id = are.0 in lower fs low (suc s.id) (omega arith) are.1
ascends-remove (s ∷ fs) low (suc i) are lt = (are.0, ascends-remove fs (suc s.id) i are.1 (omega arith))

none_below : (fs : List Follower) (low f : ℕ) → Ascending low fs → f < low → follower_at fs f ≡ None
none_below [] low f are lt = refl
none_below (s ∷ fs) low f are lt =
    let above : low ≤ s.id = are.0 in
    cond-false (s.id == f) (Some s) (follower_at fs f) (ne_eqb s.id f (λ e. omega arith)) ∙ none_below fs (suc s.id) f are.1 (omega arith)

away-remove : (fs : List Follower) (low f i : ℕ) (d : Follower) → Ascending low fs → i < length fs → (get_or fs i d).id ≡ f →
    follower_at (remove fs i) f ≡ None
away-remove [] low f i d are lt e = absurd (omega arith)
away-remove (s ∷ fs) low f zero d are lt e = none_below fs (suc s.id) f are.1 (omega (arith, e))
away-remove (s ∷ fs) low f (suc i) d are lt e =
    let within : i < length fs = omega arith in
    let later : suc s.id ≤ (get_or fs i d).id = id_within fs (suc s.id) i d are.1 within in
    cond-false (s.id == f) (Some s) (follower_at (remove fs i) f) (ne_eqb s.id f (λ q. omega (arith, e)))
    ∙ away-remove fs (suc s.id) f i d are.1 within e

before_all : (fs : List Follower) (low : ℕ) (t : Follower) → Ascending low fs → t.id < low → with_follower fs t ≡ t ∷ fs
before_all [] low t are lt = refl
before_all (s ∷ fs) low t are lt = let above : low ≤ s.id = are.0 in with_follower-front s fs t (omega arith)

-- a follower comes to the place from which it was taken
with-remove : (fs : List Follower) (low i : ℕ) (t d : Follower) → Ascending low fs → i < length fs → (get_or fs i d).id ≡ t.id →
    with_follower (remove fs i) t ≡ with_follower fs t
with-remove [] low i t d are lt e = absurd (omega arith)
with-remove (s ∷ fs) low zero t d are lt e = before_all fs (suc s.id) t are.1 (omega arith) ∙ sym (with_follower-same s fs t e)
with-remove (s ∷ fs) low (suc i) t d are lt e =
    let within : i < length fs = omega arith in
    let later : suc s.id ≤ (get_or fs i d).id = id_within fs (suc s.id) i d are.1 within in
    with_follower-later s (remove fs i) t (omega arith) ∙ ap (λ z. s ∷ z) (with-remove fs (suc s.id) i t d are.1 within e)
    ∙ sym (with_follower-later s fs t (omega arith))

pub record IsTakenOut (fs : List Follower) (f i : ℕ) (d : Follower) : Type 0 where
  pub found : follower_at fs f ≡ Some (get_or fs i d)
  pub number : (get_or fs i d).id ≡ f
  pub again : (t : Follower) → t.id ≡ f → with_follower (remove fs i) t ≡ with_follower fs t
  pub away : follower_at (remove fs i) f ≡ None
  pub listed : AreListed (remove fs i)

pub taken_out : (fs : List Follower) (f i : ℕ) (d : Follower) → AreListed fs → position (λ s. s.id == f) fs ≡ Some i → IsTakenOut fs f i d
taken_out fs f i d are at =
    let w = found_there fs f i d at in
    record {
      found = w.2;
      number = w.1;
      again = λ t same. with-remove fs 0 i t d are.ascends w.0 (w.1 ∙ sym same);
      away = away-remove fs 0 f i d are.ascends w.0 w.1;
      listed = record { ascends = ascends-remove fs 0 i are.ascends w.0 };
    }

-- Snapshots and their copies: one a joiner, also where those of a giver or of a joiner end, and where one more comes.
use Rattle.std.proofs.Common.{◌≡◌, ℕ, suc, ◌≤◌, Bool, true, false, cond, not, List, [], ◌∷◌, map, filter, length, refl, sym, ap, subst, ◌∙◌, ⊎_elim, arith, eqb-true}
use Rattle.std.specs.Prelude.{◌==◌}
use Rattle.std.proofs.lemmas.Bool.{cases_Bool, cases_eq, cond-true, cond-false, ne_eqb}
use Rattle.cg_base.specs.ListLaws.{length-filter}
use Rattle.cg_group.specs.LookupLaws.{at-cond}
use Rattle.cg_model.specs.World.{TransferState}
use Rattle.cg_model.specs.Chronicle.{Copy, Chronicle}
use Rattle.cg_model.specs.Looks.{snapshots_for, copies_for}

module _ {X : Type 0} (giver joiner : X → ℕ) where
  -- those of one joiner, without those of one giver
  without-giver : (j p : ℕ) (xs : List X) → map giver (filter (λ x. joiner x == j) (filter (λ x. not (giver x == p)) xs)) ≡ filter (λ g. not (g == p)) (map giver (filter (λ x. joiner x == j) xs))
  without-giver j p [] = refl
  without-giver j p (x ∷ xs) =
      ap (map giver) (at-cond (filter (λ x. joiner x == j)) (not (giver x == p)) (x ∷ filter (λ x. not (giver x == p)) xs) (filter (λ x. not (giver x == p)) xs))
      ∙ by (joiner x == j) (giver x == p) refl (filter (λ x. joiner x == j) (filter (λ x. not (giver x == p)) xs)) (filter (λ x. joiner x == j) xs) (without-giver j p xs) where
        by : (b g : Bool) → (giver x == p) ≡ g → (more less : List X) → map giver more ≡ filter (λ g. not (g == p)) (map giver less) →
            map giver (cond (not g) (cond b (x ∷ more) more) more) ≡ filter (λ g. not (g == p)) (map giver (cond b (x ∷ less) less))
        by true true is more less e = e ∙ sym (cond-false (not (giver x == p)) (giver x ∷ filter (λ g. not (g == p)) (map giver less)) (filter (λ g. not (g == p)) (map giver less)) (ap not is))
        by true false is more less e = ap (λ zs. giver x ∷ zs) e ∙ sym (cond-true (not (giver x == p)) (giver x ∷ filter (λ g. not (g == p)) (map giver less)) (filter (λ g. not (g == p)) (map giver less)) (ap not is))
        by false true is more less e = e
        by false false is more less e = e

  -- without those of one joiner none of it is left, and all of the others
  pub without-own : (j : ℕ) (xs : List X) → filter (λ x. joiner x == j) (filter (λ x. not (joiner x == j)) xs) ≡ []
  without-own j [] = refl
  without-own j (x ∷ xs) = ⊎_elim (λ y. rw y (without-own j xs)) (λ n. rw n (rw n (without-own j xs))) (cases_Bool (joiner x == j))

  without-other : (j k : ℕ) → (j ≡ k → ⊥) → (xs : List X) → filter (λ x. joiner x == j) (filter (λ x. not (joiner x == k)) xs) ≡ filter (λ x. joiner x == j) xs
  without-other j k other [] = refl
  without-other j k other (x ∷ xs) = ⊎_elim
      (λ y.
      let isnt : (joiner x == j) ≡ false = ne_eqb (joiner x) j (λ e. other (sym e ∙ eqb-true (joiner x) k y)) in
      rw (y, isnt) (without-other j k other xs))
      (λ n. rw n (ap (λ zs. cond (joiner x == j) (x ∷ zs) zs) (without-other j k other xs)))
      (cases_Bool (joiner x == k))

pub length-mapped : {X Y : Type 0} (f : X → Y) (xs : List X) → length (map f xs) ≡ length xs
length-mapped f [] = refl
length-mapped f (x ∷ xs) = ap suc (length-mapped f xs)

-- one snapshot a joiner, with its copy
pub record OneSnapshotEach (c : Chronicle) : Type 0 where
  pub copied : (joiner : ℕ) → map (λ x. x.giver) (copies_for c joiner) ≡ map (λ s. s.giver) (snapshots_for c.world joiner)
  pub once : (joiner : ℕ) → length (snapshots_for c.world joiner) ≤ 1

pub given-same : (c d : Chronicle) → d.copies ≡ c.copies → d.world.snapshots ≡ c.world.snapshots → OneSnapshotEach c → OneSnapshotEach d
given-same c d copies snapshots old = record {
  copied = λ j. ap (λ xs. map (λ (x : Copy). x.giver) (filter (λ x. x.joiner == j) xs)) copies ∙ old.copied j ∙ ap (λ xs. map (λ (s : TransferState). s.giver) (filter (λ s. s.joiner == j) xs)) (sym snapshots);
  once = λ j. subst (λ xs. length (filter (λ (s : TransferState). s.joiner == j) xs) ≤ 1) (sym snapshots) (old.once j);
}

-- those of one giver end
pub given-crashed : (c d : Chronicle) (p : ℕ) → d.copies ≡ filter (λ x. not (x.giver == p)) c.copies → d.world.snapshots ≡ filter (λ s. not (s.giver == p)) c.world.snapshots → OneSnapshotEach c → OneSnapshotEach d
given-crashed c d p copies snapshots old = record {
  copied = λ j. ap (λ xs. map (λ (x : Copy). x.giver) (filter (λ x. x.joiner == j) xs)) copies ∙ without-giver (λ (x : Copy). x.giver) (λ x. x.joiner) j p c.copies
      ∙ ap (filter (λ g. not (g == p))) (old.copied j) ∙ sym (left j);
  once = λ j.
      let long = length-mapped (λ (s : TransferState). s.giver) (snapshots_for d.world j) in
      let shorter = length-filter (λ g. not (g == p)) (map (λ (s : TransferState). s.giver) (snapshots_for c.world j)) in
      let was = length-mapped (λ (s : TransferState). s.giver) (snapshots_for c.world j) in
      let one = old.once j in
      let same = ap length (left j) in
      omega arith;
} where
  left : (j : ℕ) → map (λ s. s.giver) (snapshots_for d.world j) ≡ filter (λ g. not (g == p)) (map (λ s. s.giver) (snapshots_for c.world j))
  left j = ap (λ xs. map (λ (s : TransferState). s.giver) (filter (λ s. s.joiner == j) xs)) snapshots ∙ without-giver (λ (s : TransferState). s.giver) (λ s. s.joiner) j p c.world.snapshots

-- those of one joiner end
pub given-joined : (c d : Chronicle) (k : ℕ) → d.copies ≡ filter (λ x. not (x.joiner == k)) c.copies → d.world.snapshots ≡ filter (λ s. not (s.joiner == k)) c.world.snapshots → OneSnapshotEach c → OneSnapshotEach d
given-joined c d k copies snapshots old = record {
  copied = λ j. ap (map (λ (x : Copy). x.giver)) (ap (filter (λ x. x.joiner == j)) copies) ∙ ⊎_elim
      (λ same. subst (λ j. map (λ (x : Copy). x.giver) (filter (λ x. x.joiner == j) (filter (λ x. not (x.joiner == k)) c.copies)) ≡ map (λ (s : TransferState). s.giver) (snapshots_for d.world j)) (sym same)
      (ap (map (λ (x : Copy). x.giver)) (without-own (λ (x : Copy). x.giver) (λ x. x.joiner) k c.copies) ∙ sym (ap (map (λ (s : TransferState). s.giver)) none)))
      (λ other. ap (map (λ (x : Copy). x.giver)) (without-other (λ (x : Copy). x.giver) (λ x. x.joiner) j k other c.copies) ∙ old.copied j ∙ sym (ap (map (λ (s : TransferState). s.giver)) (rest j other)))
      (cases_eq j k);
  once = λ j. ⊎_elim (λ same. subst (λ j. length (snapshots_for d.world j) ≤ 1) (sym same) (subst (λ xs. length xs ≤ 1) (sym none) (omega arith)))
      (λ other. subst (λ xs. length xs ≤ 1) (sym (rest j other)) (old.once j)) (cases_eq j k);
} where
  none : snapshots_for d.world k ≡ []
  none = ap (filter (λ (s : TransferState). s.joiner == k)) snapshots ∙ without-own (λ (s : TransferState). s.giver) (λ s. s.joiner) k c.world.snapshots

  rest : (j : ℕ) → (j ≡ k → ⊥) → snapshots_for d.world j ≡ snapshots_for c.world j
  rest j other = ap (filter (λ (s : TransferState). s.joiner == j)) snapshots ∙ without-other (λ (s : TransferState). s.giver) (λ s. s.joiner) j k other c.world.snapshots

-- one more comes, where there was none for its joiner
pub given-more : (c d : Chronicle) (x : Copy) (s : TransferState) → x.joiner ≡ s.joiner → x.giver ≡ s.giver → (copies_for c s.joiner ≡ []) → (snapshots_for c.world s.joiner ≡ []) →
    d.copies ≡ x ∷ c.copies → d.world.snapshots ≡ s ∷ c.world.snapshots → OneSnapshotEach c → OneSnapshotEach d
given-more c d x s joiner giver no_copy no_snapshot copies snapshots old = record {
  copied = λ j. ap (λ xs. map (λ (y : Copy). y.giver) (filter (λ y. y.joiner == j) xs)) copies ∙ ⊎_elim (λ y. here j y) (λ n. there j n) (cases_Bool (s.joiner == j))
      ∙ sym (ap (λ xs. map (λ (y : TransferState). y.giver) (filter (λ y. y.joiner == j) xs)) snapshots);
  once = λ j. subst (λ xs. length (filter (λ (y : TransferState). y.joiner == j) xs) ≤ 1) (sym snapshots) (⊎_elim
      (λ y. subst (λ xs. length xs ≤ 1) (sym (cond-true (s.joiner == j) (s ∷ snapshots_for c.world j) (snapshots_for c.world j) y ∙ ap (λ zs. s ∷ zs) (none j y))) (omega arith))
      (λ n. subst (λ xs. length xs ≤ 1) (sym (cond-false (s.joiner == j) (s ∷ snapshots_for c.world j) (snapshots_for c.world j) n)) (old.once j)) (cases_Bool (s.joiner == j)));
} where
  none : (j : ℕ) → (s.joiner == j) ≡ true → snapshots_for c.world j ≡ []
  none j y = ap (snapshots_for c.world) (sym (eqb-true s.joiner j y)) ∙ no_snapshot

  here : (j : ℕ) → (s.joiner == j) ≡ true → map (λ y. y.giver) (filter (λ y. y.joiner == j) (x ∷ c.copies)) ≡ map (λ y. y.giver) (filter (λ y. y.joiner == j) (s ∷ c.world.snapshots))
  here j y =
      let own : (x.joiner == j) ≡ true = ap (λ k. k == j) joiner ∙ y in
      let left : copies_for c j ≡ [] = ap (copies_for c) (sym (eqb-true s.joiner j y)) ∙ no_copy in
      ap (map (λ (z : Copy). z.giver)) (cond-true (x.joiner == j) (x ∷ copies_for c j) (copies_for c j) own ∙ ap (λ zs. x ∷ zs) left)
      ∙ ap (λ g. g ∷ []) giver ∙ sym (ap (map (λ (z : TransferState). z.giver)) (cond-true (s.joiner == j) (s ∷ snapshots_for c.world j) (snapshots_for c.world j) y ∙ ap (λ zs. s ∷ zs) (none j y)))

  there : (j : ℕ) → (s.joiner == j) ≡ false → map (λ y. y.giver) (filter (λ y. y.joiner == j) (x ∷ c.copies)) ≡ map (λ y. y.giver) (filter (λ y. y.joiner == j) (s ∷ c.world.snapshots))
  there j n =
      let other : (x.joiner == j) ≡ false = ap (λ k. k == j) joiner ∙ n in
      ap (map (λ (z : Copy). z.giver)) (cond-false (x.joiner == j) (x ∷ copies_for c j) (copies_for c j) other) ∙ old.copied j
      ∙ sym (ap (map (λ (z : TransferState). z.giver)) (cond-false (s.joiner == j) (s ∷ snapshots_for c.world j) (snapshots_for c.world j) n))

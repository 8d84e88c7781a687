-- Each block of a generated schedule goes on from a world in which all stand in their cells, and leads to one.
use Rattle.std.proofs.Common.{◌≡◌, ℕ, ◌+◌, ◌/◌, ◌%◌, ◌^◌, ◌≤◌, ◌<◌, Bool, true, false, ◌||◌, cond, List, [], ◌∷◌, length, Option, Some, None, refl, sym, ap, subst, ◌∙◌, ⊎_elim, eqb-true, eq-eqb, arith, nat_lt, if◌then◌else◌, ◌⊎◌}
use Rattle.std.specs.Prelude.{◌==◌}
use Rattle.std.proofs.Math.Nat.{mod-eq_of_lt, mod_self}
use Rattle.std.proofs.lemmas.Nat.{mod_below}
use Rattle.std.proofs.lemmas.Bool.{eqb-false, cond_both, cond-true, cond-false, cases_Bool, cases_lt, and_left, and_right, or_cases, or_left, false_from_ne_true}
use Rattle.cg_base.specs.Sets.{Ascends, has, is_within, same_set, without_member, union}
use Rattle.cg_base.specs.SetLaws.{has-within, has-union, Ascends-union, is_within-has}
use Rattle.cg_group.specs.declared.phase.Phase.{Phase}
use Rattle.cg_group.specs.declared.phase.Phase.TheVariants.{Down, Alone, Regular, Transitional}
use Rattle.cg_group.specs.State.{regular_in}
use Rattle.cg_group.specs.Refusals.{left_together}
use Rattle.cg_group.specs.LookupLaws.{put, put-same, put-other}
use Rattle.cg_schedule.specs.declared.event.Event.{Event}
use Rattle.cg_schedule.specs.declared.event.Event.TheVariants.{Split, Merge, Recover, Gather, Stop}
use Rattle.cg_gen.specs.Generated.{Drawing, next_number, draw, draw_from_one, ◌>>=◌, done, with_cell, cell_at, cell_of, increment, set_and_get, weak_get, passes, Block, line_alone, parting, in_one, joining, parting_or_joining, regrouping, restarted, restarting, asking, block_of, block}
use Rattle.cg_model.specs.Schedules.{Run, play}
use Rattle.cg_model.specs.PhaseLaws.{phase_at, all_at}
use Rattle.cg_laws.proofs.Steps.{Fine, fine-same, request-fine, weak-fine, gather-fine, split-fine, merge-fine, stop-fine, recover-fine, passes-fine}
use Rattle.cg_laws.proofs.Cells.{IsIn, IsApart, not-both, flipped, something, IsCell, CellsFit, moved, moved-here, moved-other, with_cell-fits, at-cell, apart-at, again-fits, cell-new, rest-fits, AreHalves, parted-cell}

-- ---- phases

-- who is regular isn't in a parting
none-together : (phase : Phase) (conf : ℕ) → left_together phase (Regular conf) ≡ false
none-together Down conf = refl
none-together Alone conf = refl
none-together (Regular at) conf = refl
none-together (Transitional at set) conf = refl

nor-down : (phase : Phase) → left_together phase Down ≡ false
nor-down Down = refl
nor-down Alone = refl
nor-down (Regular at) = refl
nor-down (Transitional at set) = refl

-- two sets of which the first has a member that the second lacks
other-sets : (s t : List ℕ) (p : ℕ) → has s p ≡ true → has t p ≡ false → same_set s t ≡ false
other-sets s t p here other = and_left (is_within s t) (is_within t s) (false_from_ne_true (is_within s t) (λ within. not-both (has t p) (is_within-has s t p within here) other))

-- all of these are regular, each in its configuration
abbrev pub regular_at : List ℕ → (ℕ → ℕ) → ℕ → Option Phase
regular_at all conf_of p = if has all p then Some (Regular (conf_of p)) else None

regular-here : (all : List ℕ) (conf_of : ℕ → ℕ) (p : ℕ) → has all p ≡ true → regular_at all conf_of p ≡ Some (Regular (conf_of p))
regular-here all conf_of p here = cond-true (has all p) (Some (Regular (conf_of p))) None here

nobody-parts : (all : List ℕ) (conf_of : ℕ → ℕ) (phase : Phase) (p : ℕ) → left_together phase (phase_at (regular_at all conf_of p)) ≡ false
nobody-parts all conf_of phase p =
    cond_both (has all p) (Some (Regular (conf_of p))) None (λ o. left_together phase (phase_at o) ≡ false) (λ y. none-together phase (conf_of p)) (λ n. nor-down phase)

-- who stands so, where the other stands as before, isn't in a parting with it
stand-apart : (all : List ℕ) (conf_of : ℕ → ℕ) (x y : Option Phase) (q : ℕ) → y ≡ regular_at all conf_of q → left_together (phase_at x) (phase_at y) ≡ false
stand-apart all conf_of x y q e = subst (λ o. left_together (phase_at x) (phase_at o) ≡ false) (sym e) (nobody-parts all conf_of (phase_at x) q)

-- two halves of a configuration have parted from one another
halves-apart : (conf : ℕ) (first second : List ℕ) (x y : Option Phase) → x ≡ Some (Transitional conf first) → y ≡ Some (Transitional conf second) → same_set first second ≡ false →
    left_together (phase_at x) (phase_at y) ≡ false
halves-apart conf first second x y here there other =
    subst (λ o. left_together (phase_at o) (phase_at y) ≡ false) (sym here) (subst (λ o. left_together (Transitional conf first) (phase_at o) ≡ false) (sym there) (and_right (conf == conf) (same_set first second) other))

all-here : (set : List ℕ) (phase : Option Phase) (at : ℕ → Option Phase) (p : ℕ) → has set p ≡ true → all_at set phase at p ≡ phase
all-here set phase at p here = cond-true (has set p) phase (at p) here

all-other : (set : List ℕ) (phase : Option Phase) (at : ℕ → Option Phase) (p : ℕ) → has set p ≡ false → all_at set phase at p ≡ at p
all-other set phase at p other = cond-false (has set p) phase (at p) other

-- behind a merge all are regular, where they were outside of its set
all-regular : (all set : List ℕ) (conf : ℕ) (at : ℕ → Option Phase) (conf_of : ℕ → ℕ) → IsIn set all → (p : ℕ) → (has set p ≡ false → at p ≡ regular_at all conf_of p) →
    all_at set (Some (Regular conf)) at p ≡ regular_at all (moved set conf conf_of) p
all-regular all set conf at conf_of within p same = ⊎_elim
    (λ y. all-here set (Some (Regular conf)) at p y ∙ ap (λ n. Some (Regular n)) (sym (moved-here set conf conf_of p y)) ∙ sym (regular-here all (moved set conf conf_of) p (within p y)))
    (λ n. all-other set (Some (Regular conf)) at p n ∙ same n ∙ ap (λ k. cond (has all p) (Some (Regular k)) None) (sym (moved-other set conf conf_of p n)))
    (cases_Bool (has set p))

-- ---- between blocks

pub record Between (all : List ℕ) (cells : List (List ℕ)) (run : Run) : Type 0 where
  pub conf_of : ℕ → ℕ
  pub fine : Fine (has all) (regular_at all conf_of) run
  pub fit : CellsFit all conf_of cells

-- no event is refused up to the end of a block, behind which all stand in these cells
abbrev pub GoesOn : List ℕ → Run → List Event → List (List ℕ) → Type 0
GoesOn all run [] cells = Between all cells run
GoesOn all run (e ∷ events) cells = (run.refused ≡ None) × GoesOn all (play run e) events cells

abbrev pub BlockGoes : List ℕ → Run → Block → Type 0
BlockGoes all run b = GoesOn all run (b.first ∷ b.others) b.cells

-- ---- draws

pub drawn-below : (m x : ℕ) → 0 < m → (draw m x).0 < m
unfolding draw
drawn-below m x some = mod_below (next_number x / 2 ^ 33) m some

-- who is in one of two sets that have parted
parted-as : (b a : Bool) (phase1 phase2 : Phase) (old : Option Phase) → regular_in phase1 ≡ 0 → regular_in phase2 ≡ 0 → (a ≡ true) ⊎ (b ≡ true) →
    (phase : Phase) × (cond b (Some phase2) (cond a (Some phase1) old) ≡ Some phase) × (regular_in phase ≡ 0)
parted-as true a phase1 phase2 old out1 out2 some = (phase2, refl, out2)
parted-as false true phase1 phase2 old out1 out2 some = (phase1, refl, out1)
parted-as false false phase1 phase2 old out1 out2 some = absurd (⊎_elim (λ e. (let clash : false ≡ true = e in cc)) (λ e. (let clash : false ≡ true = e in cc)) some)

module _ (all : List ℕ) (are_all : Ascends 1 all) (cells : List (List ℕ)) (run : Run) (before : Between all cells run) where
  -- ---- partings

  -- a cell parts and comes together again
  whole-goes : (i : ℕ) → i < length cells → BlockGoes all run (record { first = Split (cell_at cells i); others = Merge (cell_at cells i) ∷ []; cells = cells })
  whole-goes i less =
      let cell = cell_at cells i in
      let conf_of = before.conf_of in
      let is = at-cell (IsCell all conf_of) cells i less before.fit.each in
      let at : ℕ → Option Phase = regular_at all conf_of in
      let phase = Transitional is.conf cell in
      let at1 : ℕ → Option Phase = all_at cell (Some phase) at in
      let run1 = play run (Split cell) in
      let fine1 : Fine (has all) at1 run1 =
      split-fine (has all) at run before.fine cell is.conf is.first is.ascends is.above is.some is.within
      (λ p here. regular-here all conf_of p (is.within p here) ∙ ap (λ n. Some (Regular n)) (is.same p here)) in
      let merged = merge-fine (has all) at1 run1 fine1 cell is.first is.some is.within
      (λ p here. (phase, all-here cell (Some phase) at p here, refl))
      (λ p q here other. stand-apart all conf_of (at1 p) (at1 q) q (all-other cell (Some phase) at q other)) in
      let conf = merged.0 in (
        before.fine.free,
        (
          fine1.free,
          record {
            conf_of = moved cell conf conf_of;
            fine = fine-same (has all) (has all) (all_at cell (Some (Regular conf)) at1) (regular_at all (moved cell conf conf_of)) (play run1 (Merge cell)) (λ p e. e)
                (λ p. all-regular all cell conf at1 conf_of is.within p (λ other. all-other cell (Some phase) at p other)) merged.2;
            fit = again-fits all conf_of (moved cell conf conf_of) cells i less (λ p other. moved-other cell conf conf_of p other)
                (cell-new all conf_of cell is.first conf is.ascends is.some is.within merged.1) before.fit;
          },
        ),
      )

  -- its halves part, and each comes together
  halves-go : (i : ℕ) (first second : List ℕ) → i < length cells → AreHalves (cell_at cells i) first second → (length first == 0) ≡ false → (length second == 0) ≡ false →
      BlockGoes all run (record { first = Split first; others = Split second ∷ Merge first ∷ Merge second ∷ []; cells = with_cell (with_cell cells first) second })
  halves-go i first second less are some_first some_second =
      let conf_of = before.conf_of in
      let is = at-cell (IsCell all conf_of) cells i less before.fit.each in
      let f = something first some_first in
      let s = something second some_second in
      let in_first : IsIn first all = λ p here. is.within p (are.first_in p here) in
      let in_second : IsIn second all = λ p here. is.within p (are.second_in p here) in
      let back = flipped first second are.apart in
      let at : ℕ → Option Phase = regular_at all conf_of in
      let phase1 = Transitional is.conf first in
      let phase2 = Transitional is.conf second in
      let at1 : ℕ → Option Phase = all_at first (Some phase1) at in
      let at2 : ℕ → Option Phase = all_at second (Some phase2) at1 in
      let regular : (p : ℕ) → has (cell_at cells i) p ≡ true → at p ≡ Some (Regular is.conf) =
      λ p here. regular-here all conf_of p (is.within p here) ∙ ap (λ n. Some (Regular n)) (is.same p here) in
      let run1 = play run (Split first) in
      let fine1 : Fine (has all) at1 run1 =
      split-fine (has all) at run before.fine first is.conf f.0 are.first_ascends is.above f.1 in_first (λ p here. regular p (are.first_in p here)) in
      let run2 = play run1 (Split second) in
      let fine2 : Fine (has all) at2 run2 =
      split-fine (has all) at1 run1 fine1 second is.conf s.0 are.second_ascends is.above s.1 in_second
      (λ p here. all-other first (Some phase1) at p (back p here) ∙ regular p (are.second_in p here)) in
      let here1 : (p : ℕ) → has first p ≡ true → at2 p ≡ Some phase1 =
      λ p here. all-other second (Some phase2) at1 p (are.apart p here) ∙ all-here first (Some phase1) at p here in
      let merged1 = merge-fine (has all) at2 run2 fine2 first f.0 f.1 in_first (λ p here. (phase1, here1 p here, refl))
      (λ p q here other. ⊎_elim
      (λ y. halves-apart is.conf first second (at2 p) (at2 q) (here1 p here) (all-here second (Some phase2) at1 q y) (other-sets first second f.0 f.1 (are.apart f.0 f.1)))
      (λ n. stand-apart all conf_of (at2 p) (at2 q) q (all-other second (Some phase2) at1 q n ∙ all-other first (Some phase1) at q other))
      (cases_Bool (has second q))) in
      let conf1 = merged1.0 in
      let at3 : ℕ → Option Phase = all_at first (Some (Regular conf1)) at2 in
      let run3 = play run2 (Merge first) in
      let conf_of1 : ℕ → ℕ = moved first conf1 conf_of in
      let between : (p : ℕ) → has second p ≡ false → at3 p ≡ regular_at all conf_of1 p =
      λ p other. all-regular all first conf1 at2 conf_of in_first p (λ out. all-other second (Some phase2) at1 p other ∙ all-other first (Some phase1) at p out) in
      let here2 : (p : ℕ) → has second p ≡ true → at3 p ≡ Some phase2 =
      λ p here. all-other first (Some (Regular conf1)) at2 p (back p here) ∙ all-here second (Some phase2) at1 p here in
      let merged2 = merge-fine (has all) at3 run3 merged1.2 second s.0 s.1 in_second (λ p here. (phase2, here2 p here, refl))
      (λ p q here other. stand-apart all conf_of1 (at3 p) (at3 q) q (between q other)) in
      let conf2 = merged2.0 in
      let conf_of2 : ℕ → ℕ = moved second conf2 conf_of1 in (
        before.fine.free,
        (
          fine1.free,
          (
            fine2.free,
            (
              merged1.2.free,
              record {
                conf_of = conf_of2;
                fine = fine-same (has all) (has all) (all_at second (Some (Regular conf2)) at3) (regular_at all conf_of2) (play run3 (Merge second)) (λ p e. e)
                    (λ p. all-regular all second conf2 at3 conf_of1 in_second p (between p)) merged2.2;
                fit = with_cell-fits all conf_of1 conf_of2 (with_cell cells first) second (λ p other. moved-other second conf2 conf_of1 p other)
                    (cell-new all conf_of1 second s.0 conf2 are.second_ascends s.1 in_second merged2.1)
                    (with_cell-fits all conf_of conf_of1 cells first (λ p other. moved-other first conf1 conf_of p other)
                    (cell-new all conf_of first f.0 conf1 are.first_ascends f.1 in_first merged1.1) before.fit);
              },
            ),
          ),
        ),
      )

  parting-goes : (i : ℕ) → i < length cells → (x : ℕ) → BlockGoes all run (parting cells i x).0
  parting-goes i less x =
      let is = at-cell (IsCell all before.conf_of) cells i less before.fit.each in
      let parts = parted-cell cells i x is.ascends in
      let first = parts.0 in
      let second = parts.1 in
      let cell = cell_at cells i in
      subst (BlockGoes all run) (sym parts.3)
      (cond_both (length first == 0 || length second == 0) (record { first = Split cell; others = Merge cell ∷ []; cells = cells })
      (record { first = Split first; others = Split second ∷ Merge first ∷ Merge second ∷ []; cells = with_cell (with_cell cells first) second }) (BlockGoes all run)
      (λ y. whole-goes i less)
      (λ n. halves-go i first second less parts.2 (or_first (length first == 0) (length second == 0) n) (or_second (length first == 0) (length second == 0) n)))
    where
      or_first : (a b : Bool) → (a || b) ≡ false → a ≡ false
      or_first true b e = e
      or_first false b e = refl

      or_second : (a b : Bool) → (a || b) ≡ false → b ≡ false
      or_second true b e = absurd (let clash : true ≡ false = e in cc)
      or_second false b e = e

  -- ---- joinings

  next-other : (i : ℕ) → i < length cells → (length cells == 1) ≡ false → (((i + 1) % length cells) < length cells) × (i ≡ (i + 1) % length cells → ⊥)
  next-other i less several =
      let n = length cells in
      let other : n ≡ 1 → ⊥ = eqb-false n 1 several in (
        mod_below (i + 1) n (omega (arith, less)),
        ⊎_elim
            (λ (within : i + 1 < n). λ e. (let is : (i + 1) % n ≡ i + 1 = mod-eq_of_lt within in omega (arith, e, is)))
            (λ (last : n ≤ i + 1). λ e. (
            let whole : i + 1 ≡ n = omega (arith, last, less) in
            let is : (i + 1) % n ≡ 0 = ap (λ k. k % n) whole ∙ mod_self n in
            other (omega (arith, whole, is, e))))
            (cases_lt (i + 1) n),
      )

  one-goes : (i k : ℕ) → i < length cells → k < length cells → (i ≡ k → ⊥) → BlockGoes all run (in_one cells (cell_at cells i) (cell_at cells k))
  one-goes i k li lk other =
      let a = cell_at cells i in
      let b = cell_at cells k in
      let u = union a b in
      let conf_of = before.conf_of in
      let is_a = at-cell (IsCell all conf_of) cells i li before.fit.each in
      let is_b = at-cell (IsCell all conf_of) cells k lk before.fit.each in
      let back : IsApart b a = apart-at cells k i lk li (λ e. other (sym e)) before.fit.apart in
      let at : ℕ → Option Phase = regular_at all conf_of in
      let phase1 = Transitional is_a.conf a in
      let phase2 = Transitional is_b.conf b in
      let at1 : ℕ → Option Phase = all_at a (Some phase1) at in
      let at2 : ℕ → Option Phase = all_at b (Some phase2) at1 in
      let run1 = play run (Split a) in
      let fine1 : Fine (has all) at1 run1 =
      split-fine (has all) at run before.fine a is_a.conf is_a.first is_a.ascends is_a.above is_a.some is_a.within
      (λ p here. regular-here all conf_of p (is_a.within p here) ∙ ap (λ n. Some (Regular n)) (is_a.same p here)) in
      let run2 = play run1 (Split b) in
      let fine2 : Fine (has all) at2 run2 =
      split-fine (has all) at1 run1 fine1 b is_b.conf is_b.first is_b.ascends is_b.above is_b.some is_b.within
      (λ p here. all-other a (Some phase1) at p (back p here) ∙ regular-here all conf_of p (is_b.within p here) ∙ ap (λ n. Some (Regular n)) (is_b.same p here)) in
      let either : (p : ℕ) → has u p ≡ true → (has a p ≡ true) ⊎ (has b p ≡ true) = λ p here. or_cases (has a p) (has b p) (sym (has-union a b p) ∙ here) in
      let neither : (p : ℕ) → has u p ≡ false → at2 p ≡ at p =
      λ p out. (let none = or_none (has a p) (has b p) (sym (has-union a b p) ∙ out) in all-other b (Some phase2) at1 p none.1 ∙ all-other a (Some phase1) at p none.0) in
      let within : IsIn u all = λ p here. ⊎_elim (λ y. is_a.within p y) (λ y. is_b.within p y) (either p here) in
      let some : has u is_a.first ≡ true = has-union a b is_a.first ∙ or_left (has a is_a.first) (has b is_a.first) is_a.some in
      let phases : (p : ℕ) → has u p ≡ true → (phase : Phase) × (at2 p ≡ Some phase) × (regular_in phase ≡ 0) =
      λ p here. parted-as (has b p) (has a p) phase1 phase2 (at p) refl refl (either p here) in
      let merged = merge-fine (has all) at2 run2 fine2 u is_a.first some within phases
      (λ p q here out. stand-apart all conf_of (at2 p) (at2 q) q (neither q out)) in
      let conf = merged.0 in (
        before.fine.free,
        (
          fine1.free,
          (
            fine2.free,
            record {
              conf_of = moved u conf conf_of;
              fine = fine-same (has all) (has all) (all_at u (Some (Regular conf)) at2) (regular_at all (moved u conf conf_of)) (play run2 (Merge u)) (λ p e. e)
                  (λ p. all-regular all u conf at2 conf_of within p (neither p)) merged.2;
              fit = with_cell-fits all conf_of (moved u conf conf_of) cells u (λ p out. moved-other u conf conf_of p out)
                  (cell-new all conf_of u is_a.first conf (Ascends-union a b 1 (omega arith) is_a.ascends is_b.ascends) some within merged.1) before.fit;
            },
          ),
        ),
      )
    where
      or_none : (a b : Bool) → (a || b) ≡ false → (a ≡ false) × (b ≡ false)
      or_none true b e = absurd (let clash : true ≡ false = e in cc)
      or_none false b e = (refl, e)

  joining-goes : (length cells == 1) ≡ false → (x : ℕ) → BlockGoes all run (joining cells x).0
  unfolding joining
  joining-goes several x =
      let i = (draw (length cells) x).0 in
      let less = drawn-below (length cells) x before.fit.some in
      let next = next-other i less several in
      one-goes i ((i + 1) % length cells) less next.0 next.1

  regrouping-goes : (x : ℕ) → BlockGoes all run (regrouping cells x).0
  unfolding regrouping
  regrouping-goes x =
      cond_both (length cells == 1) (parting cells 0) (draw 3 >>= parting_or_joining cells) (λ (d : Drawing Block). BlockGoes all run (d x).0)
      (λ y. parting-goes 0 before.fit.some x)
      (λ several. (let n = (draw 3 x).0 in let y = (draw 3 x).1 in
      cond_both (n == 0) (draw (length cells) >>= parting cells) (joining cells) (λ (d : Drawing Block). BlockGoes all run (d y).0)
      (λ z. parting-goes (draw (length cells) y).0 (drawn-below (length cells) y before.fit.some) (draw (length cells) y).1) (λ z. joining-goes several y)))

  -- ---- a replica that crashes and comes back

  restarted-goes : (p : ℕ) → has all p ≡ true → BlockGoes all run (restarted cells p)
  restarted-goes p here =
      let conf_of = before.conf_of in
      let at : ℕ → Option Phase = regular_at all conf_of in
      let at1 : ℕ → Option Phase = put at p None in
      let at2 : ℕ → Option Phase = put at1 p (Some Alone) in
      let alone = p ∷ [] in
      let run1 = play run (Stop p 0 []) in
      let fine1 : Fine (has all) at1 run1 = stop-fine (has all) at run before.fine p (Regular (conf_of p)) here (regular-here all conf_of p here) in
      let run2 = play run1 (Recover p) in
      let fine2 : Fine (has all) at2 run2 = recover-fine (has all) at1 run1 fine1 p here (put-same at p None) in
      let is : (q : ℕ) → has alone q ≡ true → p ≡ q = λ q member. ⊎_elim (λ y. eqb-true p q y) (λ n. absurd (let clash : false ≡ true = n in cc)) (or_cases (p == q) false member) in
      let other : (q : ℕ) → has alone q ≡ false → (q ≡ p → ⊥) =
      λ q out e. not-both (p == q) (eq-eqb p q (sym e)) (⊎_elim (λ y. absurd (not-both (has alone q) (ap (λ b. b || false) y) out)) (λ n. n) (cases_Bool (p == q))) in
      let before2 : (q : ℕ) → has alone q ≡ false → at2 q ≡ at q =
      λ q out. put-other at1 p (Some Alone) q (other q out) ∙ put-other at p None q (other q out) in
      let within : IsIn alone all = λ q member. subst (λ k. has all k ≡ true) (is q member) here in
      let some : has alone p ≡ true = ap (λ b. b || false) (eq-eqb p p refl) in
      let merged = merge-fine (has all) at2 run2 fine2 alone p some within
      (λ q member. (Alone, subst (λ k. at2 k ≡ Some Alone) (is q member) (put-same at1 p (Some Alone)), refl))
      (λ q r member out. stand-apart all conf_of (at2 q) (at2 r) r (before2 r out)) in
      let conf = merged.0 in
      let id : (1 ≤ p) × (p ≤ 32) = has-within all 1 p are_all here in (
        before.fine.free,
        (
          fine1.free,
          (
            fine2.free,
            record {
              conf_of = moved alone conf conf_of;
              fine = fine-same (has all) (has all) (all_at alone (Some (Regular conf)) at2) (regular_at all (moved alone conf conf_of)) (play run2 (Merge alone)) (λ q e. e)
                  (λ q. all-regular all alone conf at2 conf_of within q (before2 q)) merged.2;
              fit = with_cell-fits all conf_of (moved alone conf conf_of) (with_cell cells (without_member (cell_of cells p) p)) alone (λ q out. moved-other alone conf conf_of q out)
                  (cell-new all conf_of alone p conf (id.0, id.1, tt) some within merged.1) (rest-fits all conf_of cells p before.fit);
            },
          ),
        ),
      )

  restarting-goes : (replicas : ℕ) → ((x : ℕ) → has all (draw_from_one replicas x).0 ≡ true) → (x : ℕ) → BlockGoes all run (restarting replicas cells x).0
  unfolding restarting
  restarting-goes replicas one x = restarted-goes (draw_from_one replicas x).0 (one x)

  -- ---- lines alone

  alone-goes : (e : Event) → Fine (has all) (regular_at all before.conf_of) (play run e) → BlockGoes all run (line_alone cells e)
  alone-goes e fine = (before.fine.free, record { conf_of = before.conf_of; fine = fine; fit = before.fit })

  -- what is drawn may be played
  abbrev MayPlay : Drawing Event → Type 0
  MayPlay drawing = (x : ℕ) → Fine (has all) (regular_at all before.conf_of) (play run (drawing x).0)

  module _ (replicas : ℕ) (one : (x : ℕ) → has all (draw_from_one replicas x).0 ≡ true) where
    increment-goes : MayPlay (increment replicas)
    unfolding increment
    increment-goes x =
        let p = (draw_from_one replicas x).0 in
        request-fine (has all) (regular_at all before.conf_of) run before.fine p _ None (Regular (before.conf_of p)) (one x) (regular-here all before.conf_of p (one x))

    set_and_get-goes : MayPlay (set_and_get replicas)
    unfolding set_and_get
    set_and_get-goes x =
        let p = (draw_from_one replicas x).0 in
        request-fine (has all) (regular_at all before.conf_of) run before.fine p _ (Some _) (Regular (before.conf_of p)) (one x) (regular-here all before.conf_of p (one x))

    weak_get-goes : MayPlay (weak_get replicas)
    unfolding weak_get
    weak_get-goes x =
        let p = (draw_from_one replicas x).0 in
        weak-fine (has all) (regular_at all before.conf_of) run before.fine p _ (Regular (before.conf_of p)) (one x) (regular-here all before.conf_of p (one x))

    passes-go : MayPlay passes
    unfolding passes
    passes-go x = passes-fine (has all) (regular_at all before.conf_of) (draw_from_one 6 x).0 run before.fine

    asking-goes : (b : ℕ) → MayPlay (asking replicas b)
    unfolding asking
    asking-goes b =
        cond_both (nat_lt b 4) (increment replicas) (if b == 4 then set_and_get replicas else if b == 5 then weak_get replicas else passes) MayPlay
        (λ y. increment-goes)
        (λ n. cond_both (b == 4) (set_and_get replicas) (if b == 5 then weak_get replicas else passes) MayPlay
        (λ y. set_and_get-goes) (λ m. cond_both (b == 5) (weak_get replicas) passes MayPlay (λ y. weak_get-goes) (λ k. passes-go)))

    -- ---- any block

    block_of-goes : (left b x : ℕ) → BlockGoes all run (block_of replicas left cells b x).0
    block_of-goes left b x =
        let gathered : Drawing Block = done (line_alone cells Gather) in
        let asked : Drawing Block = asking replicas b >>= (λ event. done (line_alone cells event)) in
        let changed : Drawing Block = if b == 8 then regrouping cells else restarting replicas cells in
        let Goes : Drawing Block → Type 0 = λ d. BlockGoes all run (d x).0 in
        cond_both (nat_lt b 8) asked (if nat_lt left 4 then gathered else changed) Goes
        (λ y. alone-goes (asking replicas b x).0 (asking-goes b x))
        (λ n. cond_both (nat_lt left 4) gathered changed Goes
        (λ y. alone-goes Gather (gather-fine (has all) (regular_at all before.conf_of) run before.fine))
        (λ m. cond_both (b == 8) (regrouping cells) (restarting replicas cells) Goes (λ y. regrouping-goes x) (λ k. restarting-goes replicas one x)))

    pub block-goes : (left x : ℕ) → BlockGoes all run (block replicas left cells x).0
    unfolding block
    block-goes left x = block_of-goes left (draw 10 x).0 (draw 10 x).1

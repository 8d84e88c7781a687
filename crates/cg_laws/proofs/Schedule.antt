-- A whole schedule: from its start on no event of it is refused.
use Rattle.std.proofs.Common.{◌≡◌, ℕ, zero, suc, ◌+◌, ◌≤◌, true, List, [], ◌∷◌, fold, Option, Some, None, refl, sym, ap, ap₂, ◌∙◌, ⊎_elim, arith}
use Rattle.std.proofs.lemmas.Bool.{cases_Bool, cond-true, cond-false}
use Rattle.cg_base.specs.Lists.{count_up}
use Rattle.cg_base.specs.Sets.{Ascends, has}
use Rattle.cg_base.specs.Weights.{each_once}
use Rattle.cg_base.specs.MemberLaws.{has_count_up}
use Rattle.cg_group.specs.declared.phase.Phase.{Phase}
use Rattle.cg_group.specs.declared.phase.Phase.TheVariants.{Alone, Regular}
use Rattle.cg_group.specs.Refusals.{left_together}
use Rattle.cg_schedule.specs.declared.event.Event.{Event}
use Rattle.cg_schedule.specs.declared.event.Event.TheVariants.{Start, Merge}
use Rattle.cg_gen.specs.Generated.{draw, draw_from_one, GeneratorState, line_with, events_left, at_the_start, generated}
use Rattle.cg_laws.specs.Admitted.{GeneratedAreAdmitted}
use Rattle.cg_model.specs.PhaseLaws.{phase_at, all_at}
use Rattle.cg_model.specs.Schedules.{Run, no_run, play, run_of}
use Rattle.cg_laws.proofs.Steps.{Fine, fine-same, merge-fine, start-fine}
use Rattle.cg_laws.proofs.Blocks.{regular_at, GoesOn, drawn-below, block-goes}

-- ---- all replicas

pub Ascends-count_up : (n from : ℕ) → from + n ≤ 33 → Ascends from (count_up from n)
Ascends-count_up zero from high = tt
Ascends-count_up (suc n) from high = (omega arith, omega (arith, high), Ascends-count_up n (suc from) (omega (arith, high)))

-- a replica that was drawn is one of all
drawn-one : (replicas x : ℕ) → 1 ≤ replicas → has (count_up 1 replicas) (draw_from_one replicas x).0 ≡ true
drawn-one replicas x some =
    let below = drawn-below replicas x some in
    has_count_up 1 replicas (1 + (draw replicas x).0) (omega arith) (omega (arith, below))

-- ---- lines

module _ (replicas : ℕ) (some : 1 ≤ replicas) (high : replicas ≤ 32) where
  abbrev all : List ℕ
  all = count_up 1 replicas

  ascends : Ascends 1 all
  ascends = Ascends-count_up replicas 1 (omega (arith, high))

  so-far : (run : Run) (waiting : List Event) (cells : List (List ℕ)) → GoesOn all run waiting cells → run.refused ≡ None
  so-far run [] cells goes = goes.fine.free
  so-far run (e ∷ waiting) cells goes = goes.0

  -- the refusal behind so many lines, none of which is refused
  abbrev LeftGo : ℕ → Type 0
  LeftGo left = (state : GeneratorState) (run : Run) → GoesOn all run state.waiting state.cells → (fold play run (events_left replicas left state)).refused ≡ None

  line-goes : (left number : ℕ) (cells : List (List ℕ)) (waiting : List Event) (run : Run) → LeftGo (suc left) → GoesOn all run waiting cells →
      (fold play (play run (line_with replicas (suc left) number cells waiting).0) (events_left replicas (suc left) (line_with replicas (suc left) number cells waiting).1)).refused ≡ None
  line-goes left number cells [] run rest between =
      let next : Event × GeneratorState = line_with replicas (suc left) number cells [] in
      rest next.1 (play run next.0) (block-goes all ascends cells run between replicas (λ x. drawn-one replicas x some) (suc left) number).1
  line-goes left number cells (e ∷ waiting) run rest on = rest (line_with replicas (suc left) number cells (e ∷ waiting)).1 (play run e) on.1

  -- the lines that are left
  left-goes : (left : ℕ) → LeftGo left
  unfolding events_left
  left-goes zero state run goes = so-far run state.waiting state.cells goes
  left-goes (suc zero) state run goes = so-far run state.waiting state.cells goes
  left-goes (suc (suc left)) state run goes = line-goes left state.number state.cells state.waiting run (left-goes (suc left)) goes

  -- ---- the start

  starts : (seed : ℕ) → GoesOn all no_run (at_the_start seed all).waiting (all ∷ [])
  starts seed =
      let one : has all 1 ≡ true = has_count_up 1 replicas 1 (omega arith) (omega (arith, some)) in
      let at : ℕ → Option Phase = all_at all (Some Alone) (λ q. None) in
      let run = play no_run (Start (each_once all)) in
      let fine : Fine (has all) at run = start-fine all 1 one in
      let merged = merge-fine (has all) at run fine all 1 one (λ p here. here)
      (λ p here. (Alone, cond-true (has all p) (Some Alone) None here, refl))
      (λ p q here other. ap₂ left_together (ap phase_at (cond-true (has all p) (Some Alone) None here)) (ap phase_at (cond-false (has all q) (Some Alone) None other))) in
      let conf = merged.0 in
      let same : (p : ℕ) → all_at all (Some (Regular conf)) at p ≡ regular_at all (λ q. conf) p =
      λ p. ⊎_elim
      (λ y. cond-true (has all p) (Some (Regular conf)) (at p) y ∙ sym (cond-true (has all p) (Some (Regular conf)) None y))
      (λ n. cond-false (has all p) (Some (Regular conf)) (at p) n ∙ cond-false (has all p) (Some Alone) None n ∙ sym (cond-false (has all p) (Some (Regular conf)) None n))
      (cases_Bool (has all p)) in (
        refl,
        (
          fine.free,
          record {
            conf_of = λ p. conf;
            fine = fine-same (has all) (has all) (all_at all (Some (Regular conf)) at) (regular_at all (λ q. conf)) (play run (Merge all)) (λ p e. e) same merged.2;
            fit = record {
              each = (record { ascends = ascends; first = 1; some = one; within = λ p here. here; conf = conf; above = merged.1; same = λ p here. refl }, tt);
              apart = (tt, tt);
              some = omega arith;
            };
          },
        ),
      )

  schedule-goes : (seed lines : ℕ) → (run_of (generated seed replicas lines)).refused ≡ None
  schedule-goes seed lines = left-goes lines (at_the_start seed all) no_run (starts seed)

pub generated-are-admitted : GeneratedAreAdmitted
generated-are-admitted seed replicas lines is_id = schedule-goes replicas is_id.0 is_id.1 seed lines

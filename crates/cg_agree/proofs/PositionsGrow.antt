-- What a run has shown of how far each replica came never falls, and moves only where an event moves the replica.
use Rattle.std.proofs.Common.{◌⊎◌, ◌≡◌, ℕ, ◌≤◌, false, List, [], ◌∷◌, fold, Option, Some, None, refl, sym, ap, ◌∙◌, subst, inl, inr, arith, eqb-true, option_map, option_and_then}
use Rattle.std.specs.Prelude.{◌==◌}
use Rattle.std.specs.Option.{option_map_or, option_or}
use Rattle.std.proofs.lemmas.Bool.{cases_Bool, cond-true, cond-false}
use Rattle.std.proofs.lemmas.List.Sums.{fold-append}
use Rattle.cg_base.specs.Lists.{Each}
use Rattle.cg_queue.specs.Queue.{green_count}
use Rattle.cg_group.specs.State.{phase_of}
use Rattle.cg_client.specs.Replica.{Replica}
use Rattle.cg_report.specs.declared.line.Line.{Line}
use Rattle.cg_report.specs.declared.line.UpLine.{UpLine}
use Rattle.cg_model.specs.World.{NodeState, Up, Down, Node, World, no_world, running, node_of, replica_of}
use Rattle.cg_model.specs.Show.{Moved, up_line}
use Rattle.cg_model.specs.Run.{Step, IsRunFrom, world_after}
use Rattle.cg_model.specs.Shown.{lines_in, last_up, position_of}
use Rattle.cg_model.specs.Telling.{last_of}
use Rattle.cg_model.specs.Agreement.{through, may_move}
use Rattle.cg_model.specs.Chronicle.{Chronicle, no_chronicle}
use Rattle.cg_model.specs.Noting.{chronicle_step, chronicle_after}
use Rattle.cg_model.specs.Played.{AlwaysHolds}
use Rattle.cg_agree.proofs.CountsGrow.{count_at, CountGrows, event-counts}
use Rattle.cg_agree.proofs.LinesShown.{lines-each, position-shown}
use Rattle.cg_agree.proofs.RunForward.{IsStepOf, of-run}
use Rattle.cg_agree.proofs.TellsRun.{HasTold, told-on, nothing-told}
use Rattle.cg_model.specs.ShowLaws.{lines-last}
use Rattle.cg_model.specs.Attempts.{held_in}

-- ---- a replica that isn't up is shown no more

abbrev IsDownLine : ℕ → Line → Type 0
IsDownLine p l = l.id ≡ p → l.up ≡ None

last-still : (p : ℕ) (lines : List Line) (o : Option UpLine) → Each (IsDownLine p) lines → fold (last_of p) o lines ≡ o
last-still p [] o each = refl
last-still p (l ∷ lines) o each =
    ap (λ x. fold (last_of p) x lines) (elim (cases_Bool (l.id == p)) [
      | inl here ↦ cond-true (l.id == p) (option_or l.up o) o here ∙ ap (λ (u : Option UpLine). option_or u o) (each.0 (eqb-true l.id p here))
      | inr other ↦ cond-false (l.id == p) (option_or l.up o) o other
    ]) ∙ last-still p lines o each.1

module _ (earlier : List Step) (c : Chronicle) (w : World) (s : Step) (step : IsStepOf c w s) where
  pub down-still : (p : ℕ) → replica_of s.world p ≡ None → last_up p (through earlier s) ≡ last_up p earlier
  down-still p down =
      ap (fold (last_of p) None) (lines-last earlier s) ∙ fold-append (last_of p) None (lines_in earlier) s.entry.lines
      ∙ last-still p s.entry.lines (last_up p earlier) (lines-each (IsDownLine p) c w s step node)
    where
      node : (x : Node) → node_of s.world x.id ≡ Some x → x.id ≡ p → option_map (up_line (phase_of s.world.group x.id)) (running x.life) ≡ None
      node x found same =
          let none : running x.life ≡ None = sym (ap (λ (o : Option Node). option_and_then (λ s. running s.life) o) found) ∙ ap (replica_of s.world) same ∙ down in
          ap (option_map (up_line (phase_of s.world.group x.id))) none

  -- behind the step a replica is up, or what was shown of it is as it was
  pub up-or-still : (p : ℕ) → ((r : Replica) × (replica_of s.world p ≡ Some r)) ⊎ (last_up p (through earlier s) ≡ last_up p earlier)
  up-or-still p = at (replica_of s.world p) refl where
    at : (o : Option Replica) → replica_of s.world p ≡ o → ((r : Replica) × (replica_of s.world p ≡ Some r)) ⊎ (last_up p (through earlier s) ≡ last_up p earlier)
    at None e = inr (down-still p e)
    at (Some r) e = inl (r, e)

-- ---- counts

pub count-running : (w : World) (p : ℕ) (r : Replica) → replica_of w p ≡ Some r → count_at (node_of w p) ≡ green_count r.held.queue
count-running w p r runs = at (node_of w p) runs where
  life : (l : NodeState) → running l ≡ Some r → green_count (held_in l).queue ≡ green_count r.held.queue
  life (Up x disk) is = ap (λ (o : Option Replica). green_count (option_map_or (λ y. y) o x).held.queue) is
  life (Down disk green) is = absurd (let clash : None ≡ Some r = is in cc)

  at : (o : Option Node) → option_and_then (λ s. running s.life) o ≡ Some r → count_at o ≡ green_count r.held.queue
  at None is = absurd (let clash : None ≡ Some r = is in cc)
  at (Some s) is = life s.life is

-- what was shown, and no replica has fewer greens than was shown of it
pub record IsPlaced (earlier : List Step) (c : Chronicle) (w : World) : Type 0 where
  pub told : HasTold earlier c w
  pub placed : (p : ℕ) → position_of p earlier ≤ count_at (node_of w p)

-- of a step, from before it to behind it
pub record Moves (earlier : List Step) (s : Step) (p : ℕ) : Type 0 where
  pub more : position_of p earlier ≤ position_of p (through earlier s)
  pub still : may_move s.event p ≡ false → position_of p (through earlier s) ≡ position_of p earlier
  pub placed : position_of p (through earlier s) ≤ count_at (node_of s.world p)

pub step-moves : (earlier : List Step) (c : Chronicle) (w : World) (s : Step) → IsStepOf c w s → IsPlaced earlier c w → (p : ℕ) → Moves earlier s p
step-moves earlier c w s step is p = elim (up-or-still earlier c w s step p) [
  | inr still ↦
      let same : position_of p (through earlier s) ≡ position_of p earlier = ap (λ (o : Option UpLine). option_map_or (λ up. up.view.green_count) o 0) still in
      let had = low in
      let rises = more in
      record { more = omega arith; still = λ idle. same; placed = omega arith }
  | inl up ↦
      let r = up.0 in
      let now = told-on earlier c w s step is.told in
      let place : position_of p (through earlier s) ≡ green_count r.held.queue = position-shown (through earlier s) s.world now.lines p r up.1 in
      let count : count_at (node_of s.world p) ≡ green_count r.held.queue = count-running s.world p r up.1 in
      let had = low in
      let rises = more in
      record {
        more = omega arith;
        still = λ idle. elim (grows.up idle r up.1) [
          | inl none ↦ (let same = grows.still idle in omega arith)
          | inr was ↦
              let x = was.0 in
              let before : position_of p earlier ≡ green_count x.held.queue = position-shown earlier w is.told.lines p x was.1 in
              let held : count_at (node_of w p) ≡ green_count x.held.queue = count-running w p x was.1 in
              let same = grows.still idle in
              omega arith
        ];
        placed = omega arith;
      }
] where
  grows : CountGrows (may_move s.event p) (node_of w p) (node_of s.world p)
  grows = subst (λ (m : Moved). CountGrows (may_move s.event p) (node_of w p) (node_of m.world p)) (sym step.moved) (event-counts c w step.before s.event step.may step.admitted p)

  low : position_of p earlier ≤ count_at (node_of w p)
  low = is.placed p

  more : count_at (node_of w p) ≤ count_at (node_of s.world p)
  more = grows.more

pub placed-on : (earlier : List Step) (c : Chronicle) (w : World) (s : Step) → IsStepOf c w s → IsPlaced earlier c w → IsPlaced (through earlier s) (chronicle_step c w s.event) s.world
placed-on earlier c w s step is = record { told = told-on earlier c w s step is.told; placed = λ p. (step-moves earlier c w s step is p).placed }

pub is-placed : AlwaysHolds → (earlier : List Step) → IsRunFrom no_world earlier → IsPlaced earlier (chronicle_after no_chronicle no_world earlier) (world_after no_world earlier)
is-placed always earlier run = of-run always IsPlaced placed-on (record { told = nothing-told; placed = λ p. (let none : 0 ≤ 0 = omega arith in none) }) earlier run

-- A step of a run.
pub moves : AlwaysHolds → (earlier : List Step) (s : Step) → IsRunFrom no_world earlier → IsStepOf (chronicle_after no_chronicle no_world earlier) (world_after no_world earlier) s → (p : ℕ) → Moves earlier s p
moves always earlier s run step p = step-moves earlier (chronicle_after no_chronicle no_world earlier) (world_after no_world earlier) s step (is-placed always earlier run) p

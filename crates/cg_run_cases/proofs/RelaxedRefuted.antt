-- For what a run agrees on that asks for the relaxed database, small transcripts that don't.
use Rattle.std.specs.Prelude.{◌≡◌, ℕ, false, List, [], ◌∷◌, Option, Some, None, map, codes, ℤ, pos}
use Rattle.std.proofs.Common.{refl, ap}
use Rattle.cg_action.specs.declared.value.Value.{Value}
use Rattle.cg_action.specs.declared.value.Value.TheVariants.{Int}
use Rattle.cg_action.specs.declared.command.Cmd.{Cmd}
use Rattle.cg_action.specs.declared.command.Cmd.TheVariants.{Put, Inc}
use Rattle.cg_action.specs.declared.action.Kind.TheVariants.{Update}
use Rattle.cg_report.specs.NoEntry.{no_entry}
use Rattle.cg_report.specs.declared.line.Line.{Line}
use Rattle.cg_report.specs.declared.line.StateName.TheVariants.{NonPrim}
use Rattle.cg_report.specs.declared.line.ShownPhase.TheVariants.{Alone}
use Rattle.cg_schedule.specs.declared.event.Event.TheVariants.{Gather}
use Rattle.cg_model.specs.World.{no_world}
use Rattle.cg_relaxed.specs.declared.cell.Cell.{Cell}
use Rattle.cg_items.specs.declared.companion.Further.TheVariants as further
use Rattle.cg_items.specs.declared.companion.FurtherLine.TheVariants as line
use Rattle.cg_made_rows.specs.declared.relaxed_event.RelaxedEvent.{RelaxedEvent}
use Rattle.cg_made_rows.specs.declared.relaxed_event.RelaxedEvent.TheVariants.{One, Both}
use Rattle.cg_made_rows.specs.declared.relaxed_line.RelaxedLine.{RelaxedLine}
use Rattle.cg_made_rows.specs.declared.relaxed_line.RelaxedLine.TheVariants.{One as ShownOne, Both as ShownBoth}
use Rattle.cg_items.specs.Items.{Item}
use Rattle.cg_items.specs.Refused.{Refused}
use Rattle.cg_items.specs.RelaxedAgree.{RelaxedAgree}
use Rattle.cg_run_cases.specs.Computing.{cases_compute}

abbrev asking : ℕ → RelaxedEvent → RelaxedLine → Item
asking n e l = record { number = n; further = Some (further.Relaxed e); step = None; lines = map line.Relaxed (l ∷ []) }

abbrev cell : Option Value → ℤ → Cell
cell value sum = record { value = value; sum = sum }

-- what the first of these lines shows
abbrev first_cell : List RelaxedLine → Cell
first_cell [] = cell None (pos 0)
first_cell (ShownOne p c ∷ lines) = c
first_cell (ShownBoth p q c ∷ lines) = c

-- a line of a replica that has this action red
abbrev line_of : ℕ → Line
line_of p = record {
  id = p;
  up = Some record {
    state = NonPrim;
    phase = Alone;
    view = record {
      green_count = 0;
      white_count = 0;
      prim = record { index = 0; conf = 0; set = [] };
      attempt_index = 0;
      vulnerable = None;
      yellow = record { valid = false; list = [] };
      reds = record { creator = 1; index = 1 } ∷ [];
      own = [];
      left = [];
      buffered = 0;
    };
  };
}

-- an action of replica 1 that it and replica 2 know
abbrev known : List Cmd → Item
known cmds =
    let entry = record no_entry { made = record { id = record { creator = 1; index = 1 }; kind = Update cmds None } ∷ []; lines = line_of 1 ∷ line_of 2 ∷ [] } in
    record { number = 1; further = None; step = Some record { event = Gather; entry = entry; world = no_world }; lines = [] }

abbrev adds_five : Item
adds_five = known (Inc (codes "a") (pos 5) ∷ [])

-- a join that adds the sums of both
adding_up : (refused : Option Refused) → RelaxedAgree (adds_five ∷ asking 2 (Both 1 2 (codes "a")) (ShownBoth 1 2 (cell None (pos 10))) ∷ []) refused → ⊥
unfolding cases_compute
adding_up refused agrees =
    let wrong : ShownBoth 1 2 (cell None (pos 10)) ∷ [] ≡ ShownBoth 1 2 (cell None (pos 5)) ∷ [] = agrees.lines (adds_five ∷ []) (asking 2 (Both 1 2 (codes "a")) (ShownBoth 1 2 (cell None (pos 10)))) ([], refl) in
    let sums : pos 10 ≡ pos 5 = ap (λ lines. (first_cell lines).sum) wrong in
    cc

-- red actions that don't count
greens_alone : (refused : Option Refused) → RelaxedAgree (adds_five ∷ asking 2 (One 2 (codes "a")) (ShownOne 2 (cell None (pos 0))) ∷ []) refused → ⊥
unfolding cases_compute
greens_alone refused agrees =
    let wrong : ShownOne 2 (cell None (pos 0)) ∷ [] ≡ ShownOne 2 (cell None (pos 5)) ∷ [] = agrees.lines (adds_five ∷ []) (asking 2 (One 2 (codes "a")) (ShownOne 2 (cell None (pos 0)))) ([], refl) in
    let sums : pos 0 ≡ pos 5 = ap (λ lines. (first_cell lines).sum) wrong in
    cc

-- the first of two writes that wins
abbrev writes_twice : Item
writes_twice = known (Put (codes "b") (Int (pos 1)) ∷ Put (codes "b") (Int (pos 2)) ∷ [])

earlier_write : (refused : Option Refused) → RelaxedAgree (writes_twice ∷ asking 2 (One 1 (codes "b")) (ShownOne 1 (cell (Some (Int (pos 1))) (pos 0))) ∷ []) refused → ⊥
unfolding cases_compute
earlier_write refused agrees =
    let wrong : ShownOne 1 (cell (Some (Int (pos 1))) (pos 0)) ∷ [] ≡ ShownOne 1 (cell (Some (Int (pos 2))) (pos 0)) ∷ [] = agrees.lines (writes_twice ∷ []) (asking 2 (One 1 (codes "b")) (ShownOne 1 (cell (Some (Int (pos 1))) (pos 0)))) ([], refl) in
    let values : Some (Int (pos 1)) ≡ Some (Int (pos 2)) = ap (λ lines. (first_cell lines).value) wrong in
    cc

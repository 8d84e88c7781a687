use Rattle.std.proofs.Common.{◌≡◌, ◌-◌, length}
use Rattle.cg_outcome.specs.Inspection.{Gathers}
use Rattle.cg_run.proofs.inspecting.inspect_input.Given as goal

-- what was taken so far, and nothing was put
abbrev pub invariant-loop-buffer : goal.invariant-loop-buffer
invariant-loop-buffer g l =
    Gathers (g.S.Source.view l.fn.input) (g.S.Source.view l.input) l.bytes.items
    × (g.K.Sink.view l.output ≡ g.K.Sink.view l.fn.output)

abbrev pub decreases-loop-buffer : goal.decreases-loop-buffer
decreases-loop-buffer g l = 8388609 - length l.bytes.items

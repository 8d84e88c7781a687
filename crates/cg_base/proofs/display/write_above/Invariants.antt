use Rattle.std.proofs.Common.{◌∷◌, ◌≤◌, ◌+◌, ◌-◌}
use Rattle.std.specs.List.{flat_map}
use Rattle.std.specs.Fmt.{HasWritten, IsPlainFormatter}
use Rattle.cg_base.specs.IdRuns.{names_above}
use Rattle.cg_base.specs.Text.{id_text}
use Rattle.cg_base.proofs.display.write_above.Given as goal

abbrev pub invariant-loop-before : goal.invariant-loop-before
invariant-loop-before g l =
    (l.first ≤ l.before) × (l.before ≤ l.first + (l.last - l.first))
    × (IsPlainFormatter l.initial.f → HasWritten g.W.Write.write_str_gives l.initial.f (flat_map (λ y. 44 ∷ id_text y) (names_above l.first l.before l.creator)) l.f)

use Rattle.std.proofs.Common.{◌∷◌, take}
use Rattle.std.specs.List.{flat_map}
use Rattle.std.specs.Fmt.{HasWritten, IsPlainFormatter}
use Rattle.cg_base.specs.IdRuns.{ids_of}
use Rattle.cg_base.specs.Text.{id_text, with_commas}
use Rattle.cg_base.proofs.display.write_runs.Given as goal

abbrev pub invariant-loop-run : goal.invariant-loop-run
invariant-loop-run g l =
    IsPlainFormatter l.initial.f → HasWritten g.W.Write.write_str_gives l.initial.f (flat_map (λ run. 44 ∷ with_commas id_text (ids_of run)) (take l.run-index l.others)) l.f

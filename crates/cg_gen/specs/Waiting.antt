-- The lines of a block that wait, as the code keeps them.
use Rattle.std.specs.Prelude.{List, [], ◌∷◌}
use Rattle.cg_base.specs.Sets.{with_member}
use Rattle.cg_base.specs.Weights.{each_once}
use Rattle.cg_schedule.specs.declared.event.Event.{Event}
use Rattle.cg_schedule.specs.declared.event.Event.TheVariants as event
use Rattle.cg_gen.specs.declared.block_lines.BlockLines.{BlockLines}
use Rattle.cg_gen.specs.declared.block_lines.BlockLines.TheVariants.{Nothing, Start, Merge, MergeBoth, SplitThenMerge, SplitThenBoth, Recover}

abbrev pub waiting_lines : BlockLines → List Event
waiting_lines Nothing = []
waiting_lines (Start all) = event.Start (each_once all) ∷ event.Merge all ∷ []
waiting_lines (Merge set) = event.Merge set ∷ []
waiting_lines (MergeBoth first second) = event.Merge first ∷ event.Merge second ∷ []
waiting_lines (SplitThenMerge set all) = event.Split set ∷ event.Merge all ∷ []
waiting_lines (SplitThenBoth first second) = event.Split second ∷ event.Merge first ∷ event.Merge second ∷ []
waiting_lines (Recover p) = event.Recover p ∷ event.Merge (with_member [] p) ∷ []

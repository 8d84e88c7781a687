-- What has to unfold besides for the cases here.
use Rattle.std.specs.Prelude.{⊤}
use Rattle.cg_base.specs.Slots.{held_from, held, array_of}
use Rattle.cg_model.specs.Computing.{schedules_compute}
use Rattle.cg_model.specs.Turns.{turns_of}
use Rattle.cg_model.specs.Small.{small_step}
use Rattle.cg_model.specs.Smalls.{may_make, smalls_in}

unfoldable pub cases_compute : ⊤
unfolding schedules_compute held_from held array_of turns_of small_step may_make smalls_in
cases_compute = tt

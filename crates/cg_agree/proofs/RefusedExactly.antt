-- An event is refused exactly where one of its tests gives a reason: each event that made a step was admitted, and the one that ended the
-- run has the first reason.
use Rattle.std.proofs.Common.{◌≡◌, List, Option, Some, subst}
use Rattle.cg_model.specs.World.{no_world}
use Rattle.cg_model.specs.Admission.{first_refusal}
use Rattle.cg_model.specs.Run.{Step, Refusal, IsRunFrom, world_after}
use Rattle.cg_model.specs.Agreement.{RefusedExactly}
use Rattle.cg_model.specs.EveryRun.{IsRefused}
use Rattle.cg_agree.proofs.RunPrefix.{made-there}

pub refused-exactly : (steps : List Step) (refused : Option Refusal) → IsRunFrom no_world steps → IsRefused (world_after no_world steps) refused → RefusedExactly steps refused
refused-exactly steps refused run is = record { admitted = λ earlier s comes. (made-there no_world earlier s comes.0 (subst (IsRunFrom no_world) comes.1 run)).admitted; reason = reason } where
  reason : (r : Refusal) → refused ≡ Some r → first_refusal (world_after no_world steps) r.event ≡ Some r.reason
  reason r e = subst (IsRefused (world_after no_world steps)) e is

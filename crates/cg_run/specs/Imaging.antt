-- What putting the image of a replica's disk comes to.
use Rattle.std.specs.Prelude.{ℕ, List, Some}
use Rattle.cg_io.specs.Outside.{SinkView}
use Rattle.cg_model.specs.World.{World}
use Rattle.cg_outcome.specs.declared.status.Status.{Status}
use Rattle.cg_outcome.specs.declared.status.Status.TheVariants as status
use Rattle.cg_outcome.specs.Putting.{StopsWith}
use Rattle.cg_outcome.specs.Taking.{IsImageAt}

-- the image of the replica's disk in this world was put, where it has begun there
pub record PutsImage (p : ℕ) (w : World) (from to : SinkView) (st : Status) : Type 0 where
  pub image : List ℕ
  pub is : IsImageAt st p w image
  pub ends : StopsWith image (Some status.Done) from to st

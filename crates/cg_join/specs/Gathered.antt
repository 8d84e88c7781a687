-- What the parts of a snapshot bring, put together.
use Rattle.std.specs.Prelude.{[], ◌∷◌, ◌++◌, Some, None, IfSome}
use Rattle.cg_action.specs.ActionLimits.{IsAction}
use Rattle.cg_db.specs.Limits.{AreEntries}
use Rattle.cg_db.specs.Map.{put}
use Rattle.cg_base.specs.Lists.{Each}
use Rattle.cg_join.specs.declared.gather.Gathered.{Gathered}
use Rattle.cg_join.specs.declared.piece.PieceContent.{PieceContent}
use Rattle.cg_join.specs.declared.piece.PieceContent.TheVariants.{Start, Green, Entry, End}
use Rattle.cg_join.specs.Limits.{IsHead}

abbrev pub nothing : Gathered
nothing = record { head = None; greens = []; db = [] }

abbrev pub with_part : Gathered → PieceContent → Gathered
with_part g (Start head) = record g { head = Some head }
with_part g (Green action) = record g { greens = g.greens ++ action ∷ [] }
with_part g (Entry entry) = record g { db = put g.db entry.key entry.value }
with_part g End = g

-- all of it is within the limits
pub record IsGathered (g : Gathered) : Type 0 where
  pub head : IfSome g.head IsHead
  pub greens : Each IsAction g.greens
  pub db : AreEntries g.db

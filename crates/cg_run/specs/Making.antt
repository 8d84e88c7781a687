-- What an action that a step shows as made adds to the rows.
use Rattle.std.specs.Prelude.{List}
use Rattle.cg_action.specs.declared.action.Action.{Action}
use Rattle.cg_report.specs.declared.entry.Made.{Made}
use Rattle.cg_model.specs.World.{World}
use Rattle.cg_model.specs.Making.{made_as}
use Rattle.cg_made_rows.specs.Rows.{with_made}

abbrev pub with_made_in : World → List (List Action) → Made → List (List Action)
with_made_in w rows m = with_made rows m.id.creator (made_as w m)

-- What actions make of a database, one list behind the other.
use Rattle.std.proofs.Common.{◌≡◌, List, ◌++◌}
use Rattle.std.proofs.lemmas.List.Sums.{fold-append}
use Rattle.cg_action.specs.declared.action.Action.{Action}
use Rattle.cg_action.specs.declared.entry.DbEntry.{DbEntry}
use Rattle.cg_db.specs.Apply.{apply, fold_actions_from}

-- the database behind two lists of actions
pub fold_actions_from-append : (db : List DbEntry) (first next : List Action) → fold_actions_from db (first ++ next) ≡ fold_actions_from
    (fold_actions_from db first) next
fold_actions_from-append db first next = fold-append (λ (d : List DbEntry) (a : Action). (apply d a).db) db first next

-- When a run is linearizable, as Herlihy and Wing define it. An operation is an action: a transaction of up to 16 commands and a query, a join
-- or a leave. It is invoked in the step that shows it as made, and responded to in the step with its reply, where one is given. A client asks
-- in that step or before (a request that waits is made later, and a struck one is shown as made at the recovery), so what was over before
-- another operation was asked for is over here before that one is invoked.
use Rattle.std.specs.Prelude.{◌≡◌, List, [], ◌∷◌, ◌++◌, Contains, map, option_map}
use Rattle.cg_base.specs.declared.action_id.ActionId.{ActionId}
use Rattle.cg_action.specs.declared.action.Action.{Action}
use Rattle.cg_action.specs.declared.entry.DbEntry.{DbEntry}
use Rattle.cg_db.specs.Apply.{apply}
use Rattle.cg_db.specs.Find.{answer, query_of}
use Rattle.cg_queue.specs.Queue.{names_of}
use Rattle.cg_report.specs.declared.entry.Reply.{Reply}
use Rattle.cg_model.specs.Run.{Step}
use Rattle.cg_model.specs.Shown.{made_names, made_from, made_actions, order_of}
use Rattle.cg_model.specs.Agreement.{ComesAfter, through}
use Rattle.cg_model.specs.Fronts.{Front}

-- no name stands in the list twice
abbrev pub AllDiffer : List ActionId → Type 0
AllDiffer [] = Unit {0}
AllDiffer (id ∷ list) = (Contains list id → ⊥) × AllDiffer list

-- the first name stands in the list before the second
abbrev pub StandsBefore : List ActionId → ActionId → ActionId → Type 0
StandsBefore list a b = (before between after : List ActionId) × (list ≡ before ++ a ∷ (between ++ b ∷ after))

-- the names to which the step responds
abbrev pub replied_in : Step → List ActionId
replied_in s = map (λ r. r.id) s.entry.replies

-- the first operation is over before the second begins: in some step it is responded to, and up to that step the second isn't invoked
abbrev pub IsOverBefore : List Step → ActionId → ActionId → Type 0
IsOverBefore steps a b =
    (earlier : List Step) × (s : Step) × ComesAfter steps earlier s × Contains (replied_in s) a
    × (Contains (made_names (through earlier s)) b → ⊥)

-- The sequential object: one database, alone, that takes one action after another. To each it responds with what the action did and,
-- behind it, the answer to its query.
abbrev pub responses : List DbEntry → List Action → List Reply
responses db [] = []
responses db (a ∷ actions) =
    let applied = apply db a in
    record { id = a.id; effect = applied.effect; answer = option_map (answer applied.db) (query_of a.kind) }
    ∷ responses applied.db actions

-- A sequential history stands for the run: its operations were invoked as they stand in it, and none stands in it twice; each response of the
-- run is the one that the object gives in it, so all that were responded to stand in it; and what was over before another began stands before
-- it, so that nothing is responded to before it is invoked. An operation without a response may stand in it or not.
pub record Linearizes (steps : List Step) (history : List Action) : Type 0 where
  pub invoked : (a : Action) → Contains history a → Contains (made_from [] steps) a
  pub distinct : AllDiffer (names_of history)
  pub legal : (s : Step) (r : Reply) → Contains steps s → Contains s.entry.replies r → Contains (responses [] history) r
  pub real_time : (a b : ActionId) → IsOverBefore steps a b → Contains (names_of history) b →
      StandsBefore (names_of history) a b

-- Some sequential history stands for the run.
abbrev pub Linearizable : List Step → Type 0
Linearizable steps = (history : List Action) × Linearizes steps history

-- the actions of the global order, as they were made
abbrev pub history_of : List Step → List Action
history_of steps = made_actions steps (order_of steps)

-- The global order itself is that history, behind each step of the run; and the one behind each later step begins with it, so that what was
-- decided stays, whatever comes.
abbrev pub StronglyLinearizable : List Step → Type 0
StronglyLinearizable steps =
    (earlier between later : List Step) → steps ≡ earlier ++ (between ++ later) →
    Linearizes earlier (history_of earlier) × Front (history_of earlier) (history_of (earlier ++ between))

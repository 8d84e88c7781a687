-- Sessions in a world: which of their events are admitted, and what they do.
use Rattle.std.specs.Prelude.{ℕ, not, List, [], ◌∷◌, Option, Some, None, fold, map}
use Rattle.std.specs.Option.{option_map_or}
use Rattle.cg_base.specs.Lists.{first_some}
use Rattle.cg_action.specs.declared.query.Query.{Query}
use Rattle.cg_queue.specs.Queue.{green_count}
use Rattle.cg_group.specs.declared.reason.Reason.{Reason}
use Rattle.cg_group.specs.declared.reason.Reason.TheVariants.{NotCreating}
use Rattle.cg_group.specs.Refusals.{refuse}
use Rattle.cg_client.specs.Replica.{Replica}
use Rattle.cg_client.specs.Queries.{weak_answer}
use Rattle.cg_schedule.specs.declared.event.Event.{Event}
use Rattle.cg_schedule.specs.declared.event.Event.TheVariants.{Request}
use Rattle.cg_model.specs.World.{World, replica_of}
use Rattle.cg_model.specs.Admission.{takes_part}
use Rattle.cg_model.specs.Places.{creates, place_of}
use Rattle.cg_model.specs.Run.{Step}
use Rattle.cg_session.specs.declared.event.SessionEvent.{SessionEvent}
use Rattle.cg_session.specs.declared.event.SessionEvent.TheVariants.{Begin, Write, Weak}
use Rattle.cg_session.specs.Token.{Token, read}
use Rattle.cg_session_list.specs.declared.session.Session.{Session}
use Rattle.cg_session_list.specs.Sessions.{SessionsNoted, sessions_unchanged, token_of, unknown_session, session_used, opened, read_as, own_by, with_reply}

-- ---- which events are admitted

-- the replica would keep a request, and not create it at once
abbrev pub not_creating : World → ℕ → Option Reason
not_creating w p = refuse (not (creates w p)) (NotCreating p)

abbrev pub sessions_refusal : World → List Session → SessionEvent → Option Reason
sessions_refusal w sessions (Begin s) = session_used sessions s
sessions_refusal w sessions (Write s p cmds query) =
    first_some (unknown_session sessions s ∷ takes_part w p ∷ not_creating w p ∷ [])
sessions_refusal w sessions (Weak s p query) = first_some (unknown_session sessions s ∷ takes_part w p ∷ [])

-- ---- what they do

-- a write is a request
abbrev pub request_of : SessionEvent → Option Event
request_of (Write s p cmds query) = Some (Request p cmds query)
request_of other = None

-- a replica is read
abbrev pub read_of : List Session → ℕ → Query → Replica → Token → SessionsNoted
read_of sessions s query r token =
    let pos = green_count r.held.queue in read_as sessions s (weak_answer r.held query) pos (read token pos)

-- a session is opened, or reads
abbrev pub sessions_act : World → List Session → SessionEvent → SessionsNoted
sessions_act w sessions (Begin s) = sessions_unchanged (opened sessions s)
sessions_act w sessions (Weak s p query) =
    option_map_or (λ r. option_map_or (read_of sessions s query r) (token_of sessions s) (sessions_unchanged sessions))
    (replica_of w p) (sessions_unchanged sessions)
sessions_act w sessions other = sessions_unchanged sessions

-- ---- behind a step of the world

-- a write owns what its step shows as made: nothing, where it was struck
abbrev pub with_written : Option SessionEvent → Step → SessionsNoted → SessionsNoted
with_written (Some (Write s p cmds query)) step n = fold (own_by s) n (map (λ m. m.id) step.entry.made)
with_written other step n = n

-- first what was written, then the replies in their order, each with its action's place
abbrev pub sessions_follow : List Session → Option SessionEvent → Step → SessionsNoted
sessions_follow sessions asked step =
    fold (λ n id. with_reply n id (place_of step.world.order id)) (with_written asked step (sessions_unchanged sessions))
    (map (λ r. r.id) step.entry.replies)

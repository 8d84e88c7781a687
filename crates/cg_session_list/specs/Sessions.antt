-- The open sessions: what each has seen, and what writes, reads and replies make of them.
use Rattle.std.specs.Prelude.{ℕ, ◌==◌, not, List, [], ◌∷◌, ◌++◌, Option, Result, Ok, Err, find, filter, map, is_some, option_map, if◌then◌else◌}
use Rattle.cg_base.specs.declared.action_id.ActionId.{ActionId}
use Rattle.cg_action.specs.declared.answer.Answer.{Answer}
use Rattle.cg_group.specs.declared.reason.Reason.{Reason}
use Rattle.cg_group.specs.declared.reason.Reason.TheVariants.{UnknownSession, SessionUsed}
use Rattle.cg_group.specs.Refusals.{refuse}
use Rattle.cg_session.specs.declared.token.BehindErr.{BehindErr}
use Rattle.cg_session.specs.Token.{Token, new_token, wrote, raises, replied}
use Rattle.cg_session_list.specs.declared.session.Session.{Session}
use Rattle.cg_session_list.specs.declared.session_line.SessionLine.{SessionLine}
use Rattle.cg_session_list.specs.declared.session_line.SessionLine.TheVariants.{Wrote, At, Behind, Answered}

-- what an event has come to: the sessions from there on, and their lines
pub record SessionsNoted : Type 0 where
  pub sessions : List Session
  pub lines : List SessionLine

abbrev pub sessions_unchanged : List Session → SessionsNoted
sessions_unchanged sessions = record { sessions = sessions; lines = [] }

-- the token of a session, where it is open
abbrev pub token_of : List Session → ℕ → Option Token
token_of sessions s = option_map (λ o. o.token) (find (λ o. o.id == s) sessions)

-- the session with a change of its token
abbrev pub changed : (Token → Token) → Session → Session
changed change o = record o { token = change o.token }

-- the sessions, with a change of the token of one of them
abbrev pub changing : ℕ → (Token → Token) → List Session → List Session
changing s change sessions = map (λ o. if o.id == s then changed change o else o) sessions

-- the session isn't open
abbrev pub unknown_session : List Session → ℕ → Option Reason
unknown_session sessions s = refuse (not (is_some (token_of sessions s))) (UnknownSession s)

-- the session is open
abbrev pub session_used : List Session → ℕ → Option Reason
session_used sessions s = refuse (is_some (token_of sessions s)) (SessionUsed s)

-- a session is opened
abbrev pub opened : List Session → ℕ → List Session
opened sessions s = sessions ++ record { id = s; token = new_token } ∷ []

-- a replica is read, at its position, unless it is behind what the session has seen
abbrev pub read_as : List Session → ℕ → Answer → ℕ → Result Token BehindErr → SessionsNoted
read_as sessions s answer pos (Ok token) =
    record { sessions = changing s (λ old. token) sessions; lines = Answered s answer pos ∷ [] }
read_as sessions s answer pos (Err b) = record { sessions = sessions; lines = Behind s b.have b.want ∷ [] }

-- the session wrote an action
abbrev pub own_by : ℕ → SessionsNoted → ActionId → SessionsNoted
own_by s n id =
    record { sessions = changing s (λ t. wrote t id) n.sessions; lines = n.lines ++ Wrote s id ∷ [] }

-- the reply to an action at this place raises the token of the session that wrote it
abbrev pub with_reply : SessionsNoted → ActionId → ℕ → SessionsNoted
with_reply n id place = record {
  sessions = map (changed (λ t. replied t id place)) n.sessions;
  lines = n.lines ++ map (λ o. At o.id place) (filter (λ o. raises o.token id place) n.sessions);
}

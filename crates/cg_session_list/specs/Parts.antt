-- What a session's reads and replies come to.
use Rattle.std.specs.Prelude.{ℕ, List, [], ◌∷◌, Result, Ok, Err, if◌then◌else◌}
use Rattle.std.specs.Option.{option_map_or}
use Rattle.cg_base.specs.declared.action_id.ActionId.{ActionId}
use Rattle.cg_action.specs.declared.answer.Answer.{Answer}
use Rattle.cg_session.specs.declared.token.BehindErr.{BehindErr}
use Rattle.cg_session.specs.Token.{Token, raises, read}
use Rattle.cg_session_list.specs.declared.session.Session.{Session}
use Rattle.cg_session_list.specs.declared.session_line.SessionLine.{SessionLine}
use Rattle.cg_session_list.specs.declared.session_line.SessionLine.TheVariants.{At, Behind, Answered}
use Rattle.cg_session_list.specs.Sessions.{SessionsNoted, sessions_unchanged, token_of, read_as}

abbrev pub noted : List Session → List SessionLine → SessionsNoted
noted sessions lines = record { sessions = sessions; lines = lines }

-- the line that tells of the read
abbrev pub read_line : ℕ → Answer → ℕ → Result Token BehindErr → SessionLine
read_line s answer pos (Ok token) = Answered s answer pos
read_line s answer pos (Err b) = Behind s b.have b.want

-- what the session has seen behind it
abbrev pub after_read : Token → Result Token BehindErr → Token
after_read old (Ok token) = token
after_read old (Err b) = old

-- the session reads the replica; nothing comes of it where the session isn't open
abbrev pub reads : List Session → ℕ → Answer → ℕ → SessionsNoted
reads sessions s answer pos =
    option_map_or (λ t. read_as sessions s answer pos (read t pos)) (token_of sessions s) (sessions_unchanged sessions)

-- what is told to a session of the reply to an action at this place
abbrev pub told_to : Session → ActionId → ℕ → List SessionLine
told_to o id place = if raises o.token id place then At o.id place ∷ [] else []

-- The commands and queries of a line.
use Rattle.std.specs.Prelude.{ℕ, zero, suc, Bool, ◌||◌, List, [], ◌∷◌, ◌++◌, Option, Some, None, Ok, Err, codes, if◌then◌else◌}
use Rattle.cg_text.specs.Order.{same_text}
use Rattle.cg_action.specs.declared.command.Cmd.{Cmd}
use Rattle.cg_action.specs.declared.command.Cmd.TheVariants.{Put, Del, Inc, Cas, Move, Need}
use Rattle.cg_action.specs.declared.query.Query.{Query}
use Rattle.cg_action.specs.declared.query.Query.TheVariants.{Get, Keys, Count}
use Rattle.cg_schedule.specs.declared.fault.LineFault.{LineFault}
use Rattle.cg_schedule.specs.Fault.{extra_part, bad_command, bad_list}
use Rattle.cg_schedule.specs.Reading.{Reading, go_on, ◌>>=◌, done, lifted, token_part}
use Rattle.cg_schedule.specs.Part.{integer_part, amount_part, text_part, value_part, want_part}

-- a key, and the front of one
abbrev pub key_part : Reading (List ℕ)
key_part = text_part 1 64

abbrev pub prefix_part : Reading (List ℕ)
prefix_part = text_part 0 64

-- the commands behind their words
unfoldable pub put_reading : Reading Cmd
put_reading = do
  key ← key_part
  value ← value_part
  done (Put key value)

unfoldable pub del_reading : Reading Cmd
del_reading = key_part >>= λ key. done (Del key)

unfoldable pub inc_reading : Reading Cmd
inc_reading = do
  key ← key_part
  by ← integer_part
  done (Inc key by)

unfoldable pub cas_reading : Reading Cmd
cas_reading = do
  key ← key_part
  want ← want_part
  value ← value_part
  done (Cas key want value)

unfoldable pub move_reading : Reading Cmd
move_reading = do
  source ← key_part
  target ← key_part
  amount ← amount_part
  done (Move source target amount)

unfoldable pub need_reading : Reading Cmd
need_reading = do
  key ← key_part
  want ← want_part
  done (Need key want)

-- a command, of which the word was read
unfoldable pub command_of : List ℕ → Reading Cmd
command_of word =
    if same_text word (codes "put") then put_reading
    else if same_text word (codes "del") then del_reading
    else if same_text word (codes "inc") then inc_reading
    else if same_text word (codes "cas") then cas_reading
    else if same_text word (codes "move") then move_reading
    else if same_text word (codes "need") then need_reading
    else lifted (Err bad_command)

-- the word is a command's
abbrev pub is_command_word : List ℕ → Bool
is_command_word word =
    same_text word (codes "put") || same_text word (codes "del") || same_text word (codes "inc")
    || same_text word (codes "cas") || same_text word (codes "move") || same_text word (codes "need")

-- a query, of which the word was read
unfoldable pub query_of : List ℕ → Reading Query
query_of word =
    if same_text word (codes "get") then (key_part >>= λ key. done (Get key))
    else if same_text word (codes "keys") then (prefix_part >>= λ prefix. done (Keys prefix))
    else if same_text word (codes "count") then done Count
    else lifted (Err bad_command)

unfoldable pub query_reading : Reading Query
query_reading = token_part >>= query_of

-- commands, and the query behind them
abbrev pub Update : Type 0
Update = List Cmd × Option Query

-- the query behind the commands, with which the line ends
unfoldable pub with_query : List Cmd → Reading Update
with_query cmds = query_reading >>= λ query. done (cmds, Some query)

abbrev pub is_semicolon : List ℕ → Bool
is_semicolon token = same_text token (codes ";")

abbrev pub is_question_mark : List ℕ → Bool
is_question_mark token = same_text token (codes "?")

-- behind commands stands the end, a question mark with a query, or a semicolon with a further command
abbrev pub behind_commands : (List ℕ → Reading Update) → List Cmd → Reading Update
behind_commands further cmds [] = Ok ((cmds, None), [])
behind_commands further cmds (token ∷ left) =
    if is_question_mark token then with_query cmds left
    else if is_semicolon token then go_on (token_part left) further
    else Err extra_part

-- the fault of a word that stands where no further command may stand
abbrev pub one_too_many : List ℕ → LineFault
one_too_many word = if is_command_word word then bad_list else bad_command

-- commands, at most so many, of which the first word was read, behind those that were taken
unfoldable pub commands : ℕ → List Cmd → List ℕ → Reading Update
commands zero taken word left = Err (one_too_many word)
commands (suc n) taken word left =
    go_on (command_of word left) (λ cmd. behind_commands (commands n (taken ++ cmd ∷ [])) (taken ++ cmd ∷ []))

-- what a request asks, of which the first token was read: a query alone, or commands with or without one
unfoldable pub update_of : List ℕ → Reading Update
update_of token = if is_question_mark token then with_query [] else commands 16 [] token

unfoldable pub update_reading : Reading Update
update_reading = token_part >>= update_of

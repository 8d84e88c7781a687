-- How actions are read, field by field from the left.
use Rattle.std.specs.Prelude.{ℕ, ◌==◌, nat_lt, nat_le, Bool, true, false, ◌&&◌, List, length, ℤ, pos, negsuc, Option, Some, None, if◌then◌else◌}
use Rattle.cg_base.specs.declared.limits.TheConstants.{NUMBER_LIMIT}
use Rattle.cg_codec.specs.Reading.{Reading, ◌>>=◌, done, only, take_u64, take_i64, take_text, take_optional, take_list, byte_between}
use Rattle.cg_base.specs.declared.action_id.ActionId.{ActionId}
use Rattle.cg_action.specs.declared.value.Value.{Value}
use Rattle.cg_action.specs.declared.value.Value.TheVariants.{Text, Int}
use Rattle.cg_action.specs.declared.command.Cmd.{Cmd}
use Rattle.cg_action.specs.declared.command.Cmd.TheVariants.{Put, Del, Inc, Cas, Move, Need}
use Rattle.cg_action.specs.declared.query.Query.{Query}
use Rattle.cg_action.specs.declared.query.Query.TheVariants.{Get, Keys, Count}
use Rattle.cg_action.specs.declared.action.Kind.{Kind}
use Rattle.cg_action.specs.declared.action.Kind.TheVariants.{Update, Join, Leave}
use Rattle.cg_action.specs.declared.action.Action.{Action}
use Rattle.cg_action.specs.Limits.{does_something}

-- a number of at least low, below 2 ^ 63
abbrev pub is_number : ℕ → ℕ → Bool
is_number low n = nat_le low n && nat_lt n NUMBER_LIMIT

unfoldable pub number_from : ℕ → Reading ℕ
number_from low left = only (is_number low) take_u64 left

-- a name of an action
unfoldable pub id_reading : Reading ActionId
id_reading = do
  creator ← byte_between 1 32
  index ← number_from 1
  done (record { creator = creator; index = index })

-- a key has a first byte
abbrev pub is_key : List ℕ → Bool
is_key t = nat_lt 0 (length t)

unfoldable pub key_reading : Reading (List ℕ)
key_reading left = only is_key (take_text 64) left

-- a value behind its tag
unfoldable pub value_of_tag : ℕ → Reading Value
value_of_tag tag =
    if tag == 1 then (take_text 1024 >>= λ t. done (Text t))
    else (take_i64 >>= λ n. done (Int n))

unfoldable pub value_reading : Reading Value
value_reading = byte_between 1 2 >>= value_of_tag

-- a value behind its tag, or 0 for none
unfoldable pub want_of_tag : ℕ → Reading (Option Value)
want_of_tag tag =
    if tag == 0 then done None
    else (value_of_tag tag >>= λ v. done (Some v))

unfoldable pub want_reading : Reading (Option Value)
want_reading = byte_between 0 2 >>= want_of_tag

-- an amount to be moved is 0 or more
abbrev pub is_amount : ℤ → Bool
is_amount (pos n) = true
is_amount (negsuc n) = false

unfoldable pub amount_reading : Reading ℤ
amount_reading left = only is_amount take_i64 left

-- the commands behind their tags
unfoldable pub put_reading : Reading Cmd
put_reading = do
  key ← key_reading
  value ← value_reading
  done (Put key value)

unfoldable pub del_reading : Reading Cmd
del_reading = key_reading >>= λ key. done (Del key)

unfoldable pub inc_reading : Reading Cmd
inc_reading = do
  key ← key_reading
  by ← take_i64
  done (Inc key by)

unfoldable pub cas_reading : Reading Cmd
cas_reading = do
  key ← key_reading
  want ← want_reading
  value ← value_reading
  done (Cas key want value)

unfoldable pub move_reading : Reading Cmd
move_reading = do
  source ← key_reading
  target ← key_reading
  amount ← amount_reading
  done (Move source target amount)

unfoldable pub need_reading : Reading Cmd
need_reading = do
  key ← key_reading
  want ← want_reading
  done (Need key want)

unfoldable pub command_of_tag : ℕ → Reading Cmd
command_of_tag tag =
    if tag == 1 then put_reading
    else if tag == 2 then del_reading
    else if tag == 3 then inc_reading
    else if tag == 4 then cas_reading
    else if tag == 5 then move_reading
    else need_reading

unfoldable pub command_reading : Reading Cmd
command_reading = byte_between 1 6 >>= command_of_tag

unfoldable pub query_of_tag : ℕ → Reading Query
query_of_tag tag =
    if tag == 1 then (key_reading >>= λ key. done (Get key))
    else if tag == 2 then (take_text 64 >>= λ prefix. done (Keys prefix))
    else done Count

unfoldable pub query_reading : Reading Query
query_reading = byte_between 1 3 >>= query_of_tag

-- at most 16 commands
unfoldable pub commands_reading : Reading (List Cmd)
commands_reading = take_list 16 (λ _. command_reading)

-- a query or none, behind these commands
unfoldable pub query_behind : List Cmd → Reading (Option Query)
query_behind cmds left = only (does_something cmds) (take_optional query_reading) left

-- what an action does, behind its tag
unfoldable pub update_reading : Reading Kind
update_reading = do
  cmds ← commands_reading
  query ← query_behind cmds
  done (Update cmds query)

unfoldable pub heavy_join_reading : Reading Kind
heavy_join_reading = do
  joiner ← byte_between 1 32
  weight ← byte_between 2 255
  done (Join joiner weight)

unfoldable pub kind_of_tag : ℕ → Reading Kind
kind_of_tag tag =
    if tag == 1 then update_reading
    else if tag == 2 then (byte_between 1 32 >>= λ joiner. done (Join joiner 1))
    else if tag == 3 then (byte_between 1 32 >>= λ server. done (Leave server))
    else heavy_join_reading

unfoldable pub kind_reading : Reading Kind
kind_reading = byte_between 1 4 >>= kind_of_tag

unfoldable pub action_reading : Reading Action
action_reading = do
  id ← id_reading
  green_line ← number_from 0
  kind ← kind_reading
  done (record { id = id; green_line = green_line; kind = kind })

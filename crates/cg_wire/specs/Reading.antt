-- How messages are read, field by field from the left.
use Rattle.std.specs.Prelude.{ℕ, ◌==◌, List, Option, Some, None, Result, Ok, Err, if◌then◌else◌}
use Rattle.cg_codec.specs.declared.fault.CodecFault.{CodecFault}
use Rattle.cg_codec.specs.Reading.{Reading, ◌>>=◌, done, whole, byte_between}
use Rattle.cg_action.specs.Reading.{action_reading}
use Rattle.cg_records.specs.Reading.{take_number, take_id_above, take_set, take_cut, take_prim, take_maybe_vulnerable, take_yellow}
use Rattle.cg_knowledge.specs.declared.summary.Summary.{Summary}
use Rattle.cg_wire.specs.declared.message.Msg.{Msg}
use Rattle.cg_wire.specs.declared.message.Msg.TheVariants.{Action, State, GreenItem, RedItem, Cpc}

-- a summary
unfoldable pub summary_reading : Reading Summary
summary_reading = do
  id ← take_id_above 0
  conf ← take_number
  prim ← take_prim
  attempt_index ← take_number
  vulnerable ← take_maybe_vulnerable
  yellow ← take_yellow
  green_count ← take_number
  green_cut ← take_cut
  red_cut ← take_cut
  left ← take_set
  done (record {
    id = id;
    conf = conf;
    prim = prim;
    attempt_index = attempt_index;
    vulnerable = vulnerable;
    yellow = yellow;
    green_count = green_count;
    green_cut = green_cut;
    red_cut = red_cut;
    left = left;
  })

-- an item of a plan, behind its tag
unfoldable pub green_item_reading : Reading Msg
green_item_reading = do
  at ← take_number
  action ← action_reading
  done (GreenItem at action)

unfoldable pub red_item_reading : Reading Msg
red_item_reading = action_reading >>= λ action. done (RedItem action)

unfoldable pub item_of_tag : ℕ → Reading Msg
item_of_tag tag = if tag == 1 then green_item_reading else red_item_reading

unfoldable pub item_reading : Reading Msg
item_reading = byte_between 1 2 >>= item_of_tag

-- a message of each kind, behind its tag
unfoldable pub action_msg_reading : Reading Msg
action_msg_reading = action_reading >>= λ action. done (Action action)

unfoldable pub state_reading : Reading Msg
state_reading = summary_reading >>= λ s. done (State s)

unfoldable pub cpc_reading : Reading Msg
cpc_reading = do
  id ← take_id_above 0
  conf ← take_number
  done (Cpc id conf)

unfoldable pub msg_of_tag : ℕ → Reading Msg
msg_of_tag tag =
    if tag == 1 then action_msg_reading
    else if tag == 2 then state_reading
    else if tag == 3 then item_reading
    else cpc_reading

-- a message
unfoldable pub msg_reading : Reading Msg
msg_reading = byte_between 1 4 >>= msg_of_tag

-- the message that was read, if one was
abbrev pub read_of : Result Msg CodecFault → Option Msg
read_of (Ok m) = Some m
read_of (Err fault) = None

-- the message that all of the bytes spell, if they spell one
unfoldable pub message_in : List ℕ → Option Msg
message_in bytes = read_of (whole msg_reading bytes)

-- How messages are spelled in bytes.
use Rattle.std.specs.Prelude.{ℕ, List, ◌++◌}
use Rattle.cg_codec.specs.Fields.{byte, number64, optional}
use Rattle.cg_action.specs.Bytes.{spelled_action}
use Rattle.cg_records.specs.Bytes.{spelled_set, spelled_cut, spelled_prim, spelled_vulnerable, spelled_yellow}
use Rattle.cg_knowledge.specs.declared.summary.Summary.{Summary}
use Rattle.cg_wire.specs.declared.message.Msg.{Msg}
use Rattle.cg_wire.specs.declared.message.Msg.TheVariants.{Action, State, GreenItem, RedItem, Cpc}

-- a summary: the member and the configuration, the last primary component, the attempt index, the vulnerable record, the
-- yellow list, the green count, the green and the red cut, and the servers that left
unfoldable pub spelled_summary : Summary → List ℕ
spelled_summary s =
    byte s.id ++ (number64 s.conf ++ (spelled_prim s.prim
    ++ (number64 s.attempt_index ++ (optional spelled_vulnerable s.vulnerable
    ++ (spelled_yellow s.yellow ++ (number64 s.green_count
    ++ (spelled_cut s.green_cut ++ (spelled_cut s.red_cut ++ spelled_set s.left))))))))

-- a message: a tag for its kind, and what it says. An item of a plan has a second tag: 1 for green, 2 for red
unfoldable pub spelled_msg : Msg → List ℕ
spelled_msg (Action action) = byte 1 ++ spelled_action action
spelled_msg (State s) = byte 2 ++ spelled_summary s
spelled_msg (GreenItem at action) = byte 3 ++ (byte 1 ++ (number64 at ++ spelled_action action))
spelled_msg (RedItem action) = byte 3 ++ (byte 2 ++ spelled_action action)
spelled_msg (Cpc id conf) = byte 4 ++ (byte id ++ number64 conf)

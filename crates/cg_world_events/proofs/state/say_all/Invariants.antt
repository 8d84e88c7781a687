use Rattle.std.proofs.Common.{◌≡◌}
use Rattle.std.specs.Vec.Iter.{into_iter_items}
use Rattle.cg_group.specs.Events.{send_all}
use Rattle.cg_world_events.proofs.state.say_all.Given as goal

-- the messages that are left give what all gave
abbrev pub invariant-loop-encoded : goal.invariant-loop-encoded
invariant-loop-encoded l = send_all l.group l.p (into_iter_items l.encoded-iterator) ≡ send_all l.fn.group l.fn.p l.fn.sent

use Rattle.std.proofs.Common.{◌≡◌, ◌-◌, []}
use Rattle.cg_codec.specs.Reading.{take_items}
use Rattle.cg_codec.specs.Taking.{unread_of}
use Rattle.cg_action.specs.Reading.{action_reading}
use Rattle.cg_disk_records.proofs.lists.take_actions.Given as goal

-- what is left to read, behind what was taken, is what was there at first
abbrev pub invariant-loop : goal.invariant-loop
invariant-loop l = take_items (λ _. action_reading) (l.count - l.counter) l.actions (unread_of l.after) ≡ take_items (λ _. action_reading) l.count [] (unread_of l.initial.after)

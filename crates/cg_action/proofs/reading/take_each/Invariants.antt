use Rattle.std.proofs.Common.{◌≡◌, ◌-◌, []}
use Rattle.cg_codec.specs.Reading.{take_items}
use Rattle.cg_codec.specs.Taking.{unread_of}
use Rattle.cg_action.specs.Reading.{command_reading}
use Rattle.cg_action.proofs.reading.take_each.Given as goal

-- the commands that are left, behind those that were taken, are what was there at first
abbrev pub invariant-loop : goal.invariant-loop
invariant-loop l = take_items (λ _. command_reading) (l.count - l.counter) l.cmds (unread_of l.after) ≡ take_items (λ _. command_reading) l.count [] (unread_of l.initial.after)

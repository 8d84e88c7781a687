use Rattle.std.proofs.Common.{◌≡◌, ◌-◌, []}
use Rattle.cg_schedule.specs.Command.{commands}
use Rattle.cg_schedule.proofs.command.take_commands.Given as goal

-- the commands that are left, behind those that were taken, are what was there at first
abbrev pub invariant-loop : goal.invariant-loop
invariant-loop l = commands (16 - l.counter) l.cmds l.word l.words ≡ commands 16 [] l.fn.first l.fn.words

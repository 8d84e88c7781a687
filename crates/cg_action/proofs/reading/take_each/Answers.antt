use Rattle.std.proofs.Common.{◌≡◌, rules}
use Rattle.cg_codec.specs.Taking.{unread_of}
use Rattle.cg_codec.specs.ItemLaws.{items_go_on, items_end, items_stop_unless}
use Rattle.cg_action.specs.Reading.{command_reading}
use Rattle.cg_action.proofs.reading.take_each.Goals as goal

pub returns-in_err-take_command : goal.returns-in_err-take_command
returns-in_err-take_command c =
    let stop = items_stop_unless (λ _. command_reading) c.args.count c.loop.counter c.loop.cmds (unread_of c.loop.after) c.in_err-take_command.field-0.0 _ c.loop-test.true c.in_err-take_command.ensures.0 c.loop.invariant in
    search rules

pub loop-preserved : goal.loop-preserved
loop-preserved c =
    let e : c.push.new.self ≡ _ = c.in_ok-push.ensures.ok in
    rw e (items_go_on (λ _. command_reading) c.args.count c.loop.counter c.loop.cmds (unread_of c.loop.after) _ c.in_ok-take_command.field-0 _ c.loop-test.true c.in_ok-take_command.ensures c.loop.invariant)

pub returns : goal.returns
returns c =
    let whole = items_end (λ _. command_reading) c.args.count c.loop.counter c.loop.cmds (unread_of c.loop.after) _ c.loop-test.false c.loop.invariant in
    search rules

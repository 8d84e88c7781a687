use Rattle.std.proofs.Common.{◌≡◌, sym, rules, true, false}
use Rattle.cg_schedule.specs.Command.{is_question_mark, is_semicolon, with_query, commands}
use Rattle.cg_schedule.proofs.CommandSteps.{commands-none, commands-stop, commands-read, TakesWithMemory-same}
use Rattle.cg_schedule.proofs.command.take_commands.Goals as goal

pub returns-in_err-take_command : goal.returns-in_err-take_command
returns-in_err-take_command c =
    let stop = commands-stop 16 c.loop.counter c.loop.cmds c.loop.word.now c.loop.words _ c.in_err-take_command.field-0.0 c.loop-test.true c.in_err-take_command.ensures c.loop.invariant in
    search rules

pub returns-in_default : goal.returns-in_default
returns-in_default c =
    let read = commands-read 16 c.loop.counter c.loop.cmds c.push.new.self c.loop.word.now c.in_ok-take_command.field-0 c.loop.words c.take_command.new.words _ c.loop-test.true c.in_ok-take_command.ensures c.in_ok-push.ensures.ok c.loop.invariant in
    rw c.in_default.ensures.1 (sym (rw (c.in_default.ensures.0) at read))

pub returns-then-is_question_mark : goal.returns-then-is_question_mark
returns-then-is_question_mark c =
    let read = commands-read 16 c.loop.counter c.loop.cmds c.push.new.self c.loop.word.now c.in_ok-take_command.field-0 c.loop.words c.take_command.new.words _ c.loop-test.true c.in_ok-take_command.ensures c.in_ok-push.ensures.ok c.loop.invariant in
    let mark : is_question_mark c.in-Some.joint.now ≡ true = search rules in
    let asks = rw (c.in-Some.ensures, mark) at read in
    TakesWithMemory-same (with_query c.push.new.self) (commands 16 _ c.args.first.now) c.next.new.self c.args.words.now c.with_query.new.words c.with_query.result asks c.with_query.ensures

pub returns-then-not-is_semicolon : goal.returns-then-not-is_semicolon
returns-then-not-is_semicolon c =
    let read = commands-read 16 c.loop.counter c.loop.cmds c.push.new.self c.loop.word.now c.in_ok-take_command.field-0 c.loop.words c.take_command.new.words _ c.loop-test.true c.in_ok-take_command.ensures c.in_ok-push.ensures.ok c.loop.invariant in
    let no_mark : is_question_mark c.in-Some.joint.now ≡ false = search rules in
    let no_semicolon : is_semicolon c.in-Some.joint.now ≡ false = search rules in
    λ sure. sym (rw (c.in-Some.ensures, no_mark, no_semicolon) at read)

pub returns-in_err-word : goal.returns-in_err-word
returns-in_err-word c =
    let read = commands-read 16 c.loop.counter c.loop.cmds c.push.new.self c.loop.word.now c.in_ok-take_command.field-0 c.loop.words c.take_command.new.words _ c.loop-test.true c.in_ok-take_command.ensures c.in_ok-push.ensures.ok c.loop.invariant in
    let no_mark : is_question_mark c.in-Some.joint.now ≡ false = search rules in
    let semicolon : is_semicolon c.in-Some.joint.now ≡ true = search rules in
    let stop = sym (rw (c.in-Some.ensures, no_mark, semicolon, c.in_err-word.ensures) at read) in
    search rules

pub loop-preserved : goal.loop-preserved
loop-preserved c =
    let read = commands-read 16 c.loop.counter c.loop.cmds c.push.new.self c.loop.word.now c.in_ok-take_command.field-0 c.loop.words c.take_command.new.words _ c.loop-test.true c.in_ok-take_command.ensures c.in_ok-push.ensures.ok c.loop.invariant in
    let no_mark : is_question_mark c.in-Some.joint.now ≡ false = search rules in
    let semicolon : is_semicolon c.in-Some.joint.now ≡ true = search rules in
    rw (c.in-Some.ensures, no_mark, semicolon, c.in_ok-word.ensures) at read

pub returns : goal.returns
returns c = λ sure. rw c.one_too_many.ensures (commands-none 16 c.loop.counter c.loop.cmds c.loop.word.now c.loop.words _ c.loop-test.false c.loop.invariant)

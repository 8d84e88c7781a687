use Rattle.std.proofs.Common.{◌≡◌, rules}
use Rattle.cg_codec.specs.Taking.{unread_of}
use Rattle.cg_codec.specs.ItemLaws.{items_go_on, items_end, items_stop_unless}
use Rattle.cg_action.specs.Reading.{action_reading}
use Rattle.cg_disk_records.specs.Reading.{actions_reading}
use Rattle.cg_disk_records.proofs.lists.take_actions.Goals as goal

pub returns-in_err-take_action : goal.returns-in_err-take_action
unfolding actions_reading
returns-in_err-take_action c =
    let stop = items_stop_unless (λ _. action_reading) c.in_ok-count.count c.loop.counter c.loop.actions (unread_of c.loop.after) c.in_err-take_action.field-0.0 _ c.loop-test.true c.in_err-take_action.ensures.0 c.loop.invariant in
    search rules

pub loop-preserved : goal.loop-preserved
loop-preserved c =
    let e : c.push.new.self ≡ _ = c.in_ok-push.ensures.ok in
    rw e (items_go_on (λ _. action_reading) c.in_ok-count.count c.loop.counter c.loop.actions (unread_of c.loop.after) _ c.in_ok-take_action.field-0 _ c.loop-test.true c.in_ok-take_action.ensures c.loop.invariant)

pub returns : goal.returns
unfolding actions_reading
returns c =
    let whole = items_end (λ _. action_reading) c.in_ok-count.count c.loop.counter c.loop.actions (unread_of c.loop.after) _ c.loop-test.false c.loop.invariant in
    rw (c.in_ok-count.ensures, whole) search rules

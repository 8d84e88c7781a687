use Rattle.std.proofs.Common.{◌+◌, ◌++◌, length, flat_map}
use Rattle.cg_codec.specs.Fields.{number32}
use Rattle.cg_action.specs.ActionLimits.{IsAction}
use Rattle.cg_action.specs.Bytes.{spelled_action}
use Rattle.cg_base.specs.TextLaws.{grown_twice}
use Rattle.cg_disk_records.proofs.Steps.{front_after}
use Rattle.cg_disk_records.proofs.lists.write_actions.Goals as goal
use Rattle.cg_base.specs.EachLaws.{Each-rest, Each-front}

pub write_each-requires : goal.write_each-requires
write_each-requires c = Each-front IsAction c.args.first.now c.args.others.now c.requires.each

pub write_each-requires-2 : goal.write_each-requires-2
write_each-requires-2 c = Each-rest IsAction c.args.first.now c.args.others.now c.requires.each

pub returns-clause-err : goal.returns-clause-err
returns-clause-err c =
    let before = c.args.out.now.items in
    let number = number32 (length c.args.first.now + length c.args.others.now) in
    let some = flat_map spelled_action c.args.first.now in
    let two = c.write_each.new.out.items in
    front_after c.write_each-2.result before (number ++ some) two c.write_each-2.new.out.items (grown_twice before number c.put_u32.new.out.items some two c.in_ok-put_u32.ensures.ok c.in_ok-write_each.ensures.ok) c.write_each-2.ensures.err

use Rattle.cg_image.proofs.Filling.{first_unarmed, second_unarmed, filled}
use Rattle.cg_image.proofs.taking.fill.Goals as goal

pub write_side-requires-2-clause-unarmed : goal.write_side-requires-2-clause-unarmed
write_side-requires-2-clause-unarmed g c =
    let view = g.D.Disk.view in
    first_unarmed (view c.args.disk.now) (view c.write_side.new.disk) (view c.write_side.new.disk) c.args.a.now c.args.b.now c.requires c.in_ok-write_side.ensures.done

pub sync_sides-requires-clause-unarmed : goal.sync_sides-requires-clause-unarmed
sync_sides-requires-clause-unarmed g c =
    let view = g.D.Disk.view in
    second_unarmed (view c.args.disk.now) (view c.write_side.new.disk) (view c.write_side-2.new.disk) c.args.a.now c.args.b.now
    c.requires c.in_ok-write_side.ensures.done c.in_ok-write_side-2.ensures.done

pub returns : goal.returns
returns g c =
    let view = g.D.Disk.view in
    filled (view c.args.disk.now) (view c.write_side.new.disk) (view c.write_side-2.new.disk) c.args.a.now c.args.b.now
    c.requires c.in_ok-write_side.ensures.done c.in_ok-write_side-2.ensures.done (view c.sync_sides.new.disk)
    c.in_ok-write_side.ensures.reads c.in_ok-write_side-2.ensures.reads c.sync_sides.ensures.reads c.sync_sides.ensures.rest c.sync_sides.ensures.done

use Rattle.cg_journal.proofs.Opening.{format_failed, format_synced}
use Rattle.cg_journal.proofs.format.put_fronts.Goals as goal

pub returns-in-Err : goal.returns-in-Err
returns-in-Err g c = format_failed (Unit {0}) (g.D.Disk.view c.args.disk.now) (g.D.Disk.view c.write_at.new.self) c.args.front.now (g.met.D.Disk.is_view c.write_at.new.self) c.in-Err.fault c.in-Err.ensures.ends

pub returns-in-Ok-write_at : goal.returns-in-Ok-write_at
returns-in-Ok-write_at g c =
    format_synced c.args.front.now (g.D.Disk.view c.args.disk.now) (g.D.Disk.view c.write_at.new.self) (g.D.Disk.view c.write_at-in-Ok.new.self) (g.D.Disk.view c.sync.new.self)
    (g.met.D.Disk.is_view c.write_at.new.self) (g.met.D.Disk.is_view c.write_at-in-Ok.new.self) (g.met.D.Disk.is_view c.sync.new.self)
    c.in-Ok.ensures.ends c.in-Ok.ensures.written c.in-Ok-write_at.ensures.ends c.in-Ok-write_at.ensures.written c.sync.ensures.looks c.sync.result c.sync.ensures.durable c.sync.ensures.ends c.sync.ensures.no_memory

use Rattle.cg_journal.proofs.Putting.{put_failed, put_synced}
use Rattle.cg_journal.proofs.put.put.Goals as goal

pub returns-in-Ok-clause-puts : goal.returns-in-Ok-clause-puts
returns-in-Ok-clause-puts g c =
    let old = g.D.Disk.view c.args.disk.now in
    let mid = g.D.Disk.view c.write_at.new.self in
    let new = g.D.Disk.view c.sync.new.self in
    put_synced c.args.side c.args.offset c.args.bytes.now old mid c.requires.rest (g.met.D.Disk.is_view c.write_at.new.self) c.write_at.ensures.crash new (g.met.D.Disk.is_view c.sync.new.self)
    c.in-Ok.ensures.written c.in-Ok.ensures.ends c.sync.ensures.looks c.sync.ensures.images c.sync.result c.in-Ok.ensures.short c.sync.ensures.durable c.sync.ensures.ends c.sync.ensures.no_memory

pub returns-in-Err-clause-puts : goal.returns-in-Err-clause-puts
returns-in-Err-clause-puts g c =
    let old = g.D.Disk.view c.args.disk.now in
    let mid = g.D.Disk.view c.write_at.new.self in
    put_failed c.args.side c.args.offset c.args.bytes.now old mid c.requires.rest (g.met.D.Disk.is_view c.write_at.new.self) c.write_at.ensures.crash (Unit {0}) c.in-Err.fault c.write_at.ensures.images c.in-Err.ensures.ends

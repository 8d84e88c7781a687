use Rattle.cg_disk.specs.State.{wrote}
use Rattle.cg_journal.specs.Records.{header}
use Rattle.cg_journal.proofs.Heading.{ends_later, heading, header_failed, header_moments, heads_from, heads_moments}
use Rattle.cg_journal.proofs.migrate.head.Goals as goal

pub returns-in-Ok-clause-heads : goal.returns-in-Ok-clause-heads
returns-in-Ok-clause-heads g c =
    let old = g.D.Disk.view c.args.disk.now in
    let mid = g.D.Disk.view c.write_at.new.self in
    let new = g.D.Disk.view c.put_behind.new.disk in
    heads_from c.args.side c.args.bytes.now old mid c.requires.rest c.requires.long c.requires.shut (g.met.D.Disk.is_view c.write_at.new.self) c.write_at.ensures.crash c.write_at.ensures.images
    new c.in-Ok.ensures.written c.in-Ok.ensures.ends c.put_behind.result
    (c.put_behind.ensures.behind old.reads (heading c.args.side c.args.bytes.now old mid c.requires.rest c.requires.long c.requires.shut (g.met.D.Disk.is_view c.write_at.new.self) c.write_at.ensures.crash c.write_at.ensures.images))

pub returns-in-Ok-clause-moments : goal.returns-in-Ok-clause-moments
returns-in-Ok-clause-moments g c =
    let old = g.D.Disk.view c.args.disk.now in
    let mid = g.D.Disk.view c.write_at.new.self in
    let new = g.D.Disk.view c.put_behind.new.disk in
    heads_moments c.args.side c.args.bytes.now old mid c.requires.rest c.requires.long c.requires.shut (g.met.D.Disk.is_view c.write_at.new.self) c.write_at.ensures.crash c.write_at.ensures.images
    new c.in-Ok.ensures.written c.in-Ok.ensures.ends (g.met.D.Disk.is_view c.args.disk.now) c.write_at.ensures.elapses
    (c.put_behind.ensures.moments old.reads (heading c.args.side c.args.bytes.now old mid c.requires.rest c.requires.long c.requires.shut (g.met.D.Disk.is_view c.write_at.new.self) c.write_at.ensures.crash c.write_at.ensures.images))

pub returns-in-Err-clause-heads : goal.returns-in-Err-clause-heads
returns-in-Err-clause-heads g c =
    let old = g.D.Disk.view c.args.disk.now in
    let mid = g.D.Disk.view c.write_at.new.self in
    header_failed c.args.side c.args.bytes.now old mid c.requires.rest c.requires.long c.requires.shut (g.met.D.Disk.is_view c.write_at.new.self) c.write_at.ensures.crash c.write_at.ensures.images
    (Unit {0}) c.in-Err.fault c.in-Err.ensures.ends

pub returns-in-Err-clause-moments : goal.returns-in-Err-clause-moments
returns-in-Err-clause-moments g c =
    let old = g.D.Disk.view c.args.disk.now in
    let mid = g.D.Disk.view c.write_at.new.self in
    header_moments c.args.side c.args.bytes.now old mid c.requires.rest c.requires.long c.requires.shut (g.met.D.Disk.is_view c.write_at.new.self) c.write_at.ensures.crash c.write_at.ensures.images
    (g.met.D.Disk.is_view c.args.disk.now) c.write_at.ensures.elapses (ends_later (wrote c.args.side 0 header) (wrote c.args.side 0 header) old mid c.write_at.result c.write_at.ensures.ends)

use Rattle.std.proofs.Common.{Err, subst, arith}
use Rattle.cg_disk.specs.Calls as calls
use Rattle.cg_disk.specs.State.{looked, synced, wrote}
use Rattle.cg_journal.proofs.Heading.{ends_later, write_failed, write_moments, torn_behind, behind_synced, synced_moments, kept_done, kept_err, kept_moments}
use Rattle.cg_journal.proofs.migrate.put_behind.Goals as goal

pub returns-in-Ok-clause-behind : goal.returns-in-Ok-clause-behind
returns-in-Ok-clause-behind g c = λ base heading.
    let old = g.D.Disk.view c.args.disk.now in
    let mid = g.D.Disk.view c.write_at.new.self in
    let new = g.D.Disk.view c.sync.new.self in
    behind_synced c.args.side c.args.bytes.now base old heading mid new (g.met.D.Disk.is_view c.write_at.new.self) (g.met.D.Disk.is_view c.sync.new.self)
    c.write_at.ensures.crash c.in-Ok.ensures.written c.in-Ok.ensures.ends c.sync.ensures.looks c.sync.ensures.images c.sync.result c.in-Ok.ensures.short c.sync.ensures.durable c.sync.ensures.ends c.sync.ensures.no_memory

pub returns-in-Ok-clause-moments : goal.returns-in-Ok-clause-moments
returns-in-Ok-clause-moments g c = λ base heading.
    let old = g.D.Disk.view c.args.disk.now in
    let mid = g.D.Disk.view c.write_at.new.self in
    let new = g.D.Disk.view c.sync.new.self in
    synced_moments c.args.side c.args.bytes.now base old heading mid new
    (write_moments c.args.side c.args.bytes.now base old heading mid (g.met.D.Disk.is_view c.args.disk.now) c.write_at.ensures.crash c.write_at.ensures.elapses (omega (arith, c.in-Ok.ensures.ends.time)))
    (torn_behind c.args.side c.args.bytes.now base old heading mid c.write_at.ensures.crash) c.sync.ensures.looks (ends_later synced looked mid new c.sync.result c.sync.ensures.ends)

pub returns-in-Ok-sync-clause-behind : goal.returns-in-Ok-sync-clause-behind
returns-in-Ok-sync-clause-behind g c = λ base heading.
    let old = g.D.Disk.view c.args.disk.now in
    let mid = g.D.Disk.view c.write_at.new.self in
    let new = g.D.Disk.view c.sync-in-Err-NoMemory.new.self in
    kept_done c.args.side c.args.bytes.now base old heading mid new (g.met.D.Disk.is_view c.write_at.new.self) (g.met.D.Disk.is_view c.sync-in-Err-NoMemory.new.self)
    (subst (λ f. calls.Ends {T = Unit {0}} (wrote c.args.side 9 c.args.bytes.now) (wrote c.args.side 9 c.args.bytes.now) old mid (Err f)) c.in-Err-NoMemory.field-0-is c.in-Err-NoMemory.ensures.ends) c.sync-in-Err-NoMemory.ensures.looks c.sync-in-Err-NoMemory.ensures.images (Unit {0}) c.in-Ok-sync.ensures.durable c.in-Ok-sync.ensures.ends

pub returns-in-Ok-sync-clause-moments : goal.returns-in-Ok-sync-clause-moments
returns-in-Ok-sync-clause-moments g c = λ base heading.
    let old = g.D.Disk.view c.args.disk.now in
    let mid = g.D.Disk.view c.write_at.new.self in
    let new = g.D.Disk.view c.sync-in-Err-NoMemory.new.self in
    kept_moments c.args.side c.args.bytes.now base old heading mid new (g.met.D.Disk.is_view c.write_at.new.self) (g.met.D.Disk.is_view c.sync-in-Err-NoMemory.new.self)
    (subst (λ f. calls.Ends {T = Unit {0}} (wrote c.args.side 9 c.args.bytes.now) (wrote c.args.side 9 c.args.bytes.now) old mid (Err f)) c.in-Err-NoMemory.field-0-is c.in-Err-NoMemory.ensures.ends) c.sync-in-Err-NoMemory.ensures.looks c.sync-in-Err-NoMemory.ensures.images (g.met.D.Disk.is_view c.args.disk.now) (omega (arith, c.in-Ok-sync.ensures.ends.time))

pub returns-in-Err-clause-behind : goal.returns-in-Err-clause-behind
returns-in-Err-clause-behind g c = λ base heading.
    let old = g.D.Disk.view c.args.disk.now in
    let mid = g.D.Disk.view c.write_at.new.self in
    let new = g.D.Disk.view c.sync-in-Err-NoMemory.new.self in
    kept_err c.args.side c.args.bytes.now base old heading mid new (g.met.D.Disk.is_view c.write_at.new.self) (g.met.D.Disk.is_view c.sync-in-Err-NoMemory.new.self)
    (subst (λ f. calls.Ends {T = Unit {0}} (wrote c.args.side 9 c.args.bytes.now) (wrote c.args.side 9 c.args.bytes.now) old mid (Err f)) c.in-Err-NoMemory.field-0-is c.in-Err-NoMemory.ensures.ends) c.sync-in-Err-NoMemory.ensures.looks c.sync-in-Err-NoMemory.ensures.images (Unit {0}) c.in-Err.fault c.in-Err.ensures.ends c.in-Err.ensures.no_memory

pub returns-in-Err-clause-moments : goal.returns-in-Err-clause-moments
returns-in-Err-clause-moments g c = λ base heading.
    let old = g.D.Disk.view c.args.disk.now in
    let mid = g.D.Disk.view c.write_at.new.self in
    let new = g.D.Disk.view c.sync-in-Err-NoMemory.new.self in
    kept_moments c.args.side c.args.bytes.now base old heading mid new (g.met.D.Disk.is_view c.write_at.new.self) (g.met.D.Disk.is_view c.sync-in-Err-NoMemory.new.self)
    (subst (λ f. calls.Ends {T = Unit {0}} (wrote c.args.side 9 c.args.bytes.now) (wrote c.args.side 9 c.args.bytes.now) old mid (Err f)) c.in-Err-NoMemory.field-0-is c.in-Err-NoMemory.ensures.ends) c.sync-in-Err-NoMemory.ensures.looks c.sync-in-Err-NoMemory.ensures.images (g.met.D.Disk.is_view c.args.disk.now) (ends_later synced looked mid new c.sync-in-Err-NoMemory.result c.sync-in-Err-NoMemory.ensures.ends)

pub returns-in-Err-Failed-clause-behind : goal.returns-in-Err-Failed-clause-behind
returns-in-Err-Failed-clause-behind g c = λ base heading.
    let old = g.D.Disk.view c.args.disk.now in
    let mid = g.D.Disk.view c.write_at.new.self in
    write_failed c.args.side c.args.bytes.now base old heading mid c.write_at.ensures.crash c.write_at.ensures.images
    (subst (λ f. calls.Ends {T = Unit {0}} (wrote c.args.side 9 c.args.bytes.now) (wrote c.args.side 9 c.args.bytes.now) old mid (Err f)) c.in-Err-Failed.field-0-is c.in-Err-Failed.ensures.ends)

pub returns-in-Err-Failed-clause-moments : goal.returns-in-Err-Failed-clause-moments
returns-in-Err-Failed-clause-moments g c = λ base heading.
    let old = g.D.Disk.view c.args.disk.now in
    let mid = g.D.Disk.view c.write_at.new.self in
    write_moments c.args.side c.args.bytes.now base old heading mid (g.met.D.Disk.is_view c.args.disk.now) c.write_at.ensures.crash c.write_at.ensures.elapses
    (ends_later (wrote c.args.side 9 c.args.bytes.now) (wrote c.args.side 9 c.args.bytes.now) old mid c.write_at.result c.write_at.ensures.ends)

use Rattle.std.proofs.Common.{◌-◌, length, Err, subst}
use Rattle.std.specs.Option.{option_map}
use Rattle.cg_disk.specs.Writes.{TornSide}
use Rattle.cg_journal.specs.Records.{records, added}
use Rattle.cg_journal.specs.Put.{IsPut, Puts}
use Rattle.cg_journal.specs.Adds.{IsEither}
use Rattle.cg_journal.proofs.AddSteps.{add_failed, add_done, first_either, second_either}
use Rattle.cg_journal.proofs.add.add.Goals as goal
use Rattle.cg_journal.specs.ViewLaws.{chained, weakened}

pub returns-in-Ok-clause-adds : goal.returns-in-Ok-clause-adds
returns-in-Ok-clause-adds g c = λ bodies body has is short.
    let old = g.D.Disk.view c.args.disk.now in
    let mid = g.D.Disk.view c.put.new.disk in
    let first = subst (λ l. IsPut c.args.side c.args.end l old mid) is c.in-Ok.ensures.puts in
    add_done c.args.side c.args.end bodies body short old has mid first (g.met.D.Disk.is_view c.put.new.disk) (g.D.Disk.view c.put-in-Ok.new.disk) c.put-in-Ok.result c.put-in-Ok.ensures.puts

pub returns-in-Ok-clause-moments : goal.returns-in-Ok-clause-moments
returns-in-Ok-clause-moments g c = λ bodies body has is short.
    let side = c.args.side in
    let end = c.args.end in
    let old = g.D.Disk.view c.args.disk.now in
    let mid = g.D.Disk.view c.put.new.disk in
    let new = g.D.Disk.view c.put-in-Ok.new.disk in
    let P = IsEither (records old.reads) (option_map (added side body) (records old.reads)) in
    let first = subst (λ l. IsPut side end l old mid) is c.in-Ok.ensures.puts in
    let run = weakened old mid (TornSide side end (length c.args.bytes.now) old.reads) P c.put.ensures.moments
    (λ x torn. first_either side end bodies body short old has x (subst (λ l. TornSide side end (length l) old.reads x) is torn)) in
    chained old mid new P (TornSide side (end - 1) 1 mid.reads) run c.put-in-Ok.ensures.moments
    (second_either side end bodies body short old has mid first (g.met.D.Disk.is_view c.put.new.disk))

pub returns-in-Err-clause-adds : goal.returns-in-Err-clause-adds
returns-in-Err-clause-adds g c = λ bodies body has is short.
    let old = g.D.Disk.view c.args.disk.now in
    let mid = g.D.Disk.view c.put.new.disk in
    add_failed c.args.side c.args.end bodies body short old has mid (Unit {0}) c.in-Err.fault (subst (λ l. Puts {T = Unit {0}} c.args.side c.args.end l old mid (Err c.in-Err.fault)) is c.in-Err.ensures.puts)

pub returns-in-Err-clause-moments : goal.returns-in-Err-clause-moments
returns-in-Err-clause-moments g c = λ bodies body has is short.
    let side = c.args.side in
    let end = c.args.end in
    let old = g.D.Disk.view c.args.disk.now in
    let P = IsEither (records old.reads) (option_map (added side body) (records old.reads)) in
    weakened old (g.D.Disk.view c.put.new.disk) (TornSide side end (length c.args.bytes.now) old.reads) P c.put.ensures.moments
    (λ x torn. first_either side end bodies body short old has x (subst (λ l. TornSide side end (length l) old.reads x) is torn))

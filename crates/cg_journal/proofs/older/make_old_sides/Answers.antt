use Rattle.std.proofs.Common.{[], ◌∷◌, ◌++◌, Err, subst}
use Rattle.cg_disk.specs.declared.disk.Side.TheVariants.{A}
use Rattle.cg_journal.specs.Found.{old_header}
use Rattle.cg_journal.specs.Put.{IsPut, Puts}
use Rattle.cg_journal.proofs.Making.{fronts_failed, record_failed, makes}
use Rattle.cg_journal.proofs.older.make_old_sides.Goals as goal

pub returns-in-Ok-put : goal.returns-in-Ok-put
returns-in-Ok-put g c = λ body is short.
    let m1 = g.D.Disk.view c.put_fronts.new.disk in
    let m2 = g.D.Disk.view c.put.new.disk in
    makes body short (g.D.Disk.view c.args.disk.now) m1 c.in-Ok.ensures m2 (subst (λ l. IsPut A 9 l m1 m2) is c.in-Ok-put.ensures.puts) (g.D.Disk.view c.put-in-Ok-put.new.disk) c.put-in-Ok-put.result c.put-in-Ok-put.ensures.puts

pub returns-in-Err-put : goal.returns-in-Err-put
returns-in-Err-put g c = λ body is short.
    let m1 = g.D.Disk.view c.put_fronts.new.disk in
    let m2 = g.D.Disk.view c.put.new.disk in
    record_failed body short (g.D.Disk.view c.args.disk.now) m1 c.in-Ok.ensures m2 (Unit {0}) c.in-Err-put.fault (subst (λ l. Puts {T = Unit {0}} A 9 l m1 m2 (Err c.in-Err-put.fault)) is c.in-Err-put.ensures.puts)

pub returns-in-Err : goal.returns-in-Err
returns-in-Err g c = λ body is short. fronts_failed body short (g.D.Disk.view c.args.disk.now) (g.D.Disk.view c.put_fronts.new.disk) (Unit {0}) (old_header ++ 0 ∷ []) c.in-Err.fault c.in-Err.ensures

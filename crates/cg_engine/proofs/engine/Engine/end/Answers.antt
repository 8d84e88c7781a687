use Rattle.cg_disk_records.specs.Commit.{commits}
use Rattle.cg_engine.specs.Seen.{turn_of}
use Rattle.cg_engine.proofs.engine.Engine.end.Goals as goal

pub returns-in-Err : goal.returns-in-Err
returns-in-Err g c = λ u stands.
    let t = turn_of c.args.replica c.args.draft in
    c.refuse.ensures u t (commits u.content t) stands

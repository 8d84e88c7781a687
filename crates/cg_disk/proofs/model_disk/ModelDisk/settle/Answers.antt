use Rattle.std.proofs.Common.{rules, refl}
use Rattle.cg_disk.specs.Past.{SyncPoint}
use Rattle.cg_disk.proofs.model_disk.ModelDisk.settle.Goals as goal

pub returns-clause-settles : goal.returns-clause-settles
returns-clause-settles c =
    let m = c.args.self.now in
    let point : SyncPoint = record { call = m.calls; a = m.a.unsynced.items; b = m.b.unsynced.items } in
    record {
      bytes_a = search rules;
      bytes_b = search rules;
      writes_a = search rules;
      writes_b = search rules;
      begun = search rules;
      past = record {
        point = point;
        more = c.with.ensures;
        call = refl;
        a = refl;
        b = refl;
      };
    }

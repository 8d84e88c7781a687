use Rattle.std.proofs.Common.{arith, inr, ap}
use Rattle.cg_disk.specs.Armed.{strike_of}
use Rattle.cg_disk.proofs.Strikes.{failure_hit}
use Rattle.cg_disk.proofs.model_disk.ModelDisk.count.Goals as goal

pub returns-in-Failure-eq0 : goal.returns-in-Failure-eq0
returns-in-Failure-eq0 c =
    let s = c.settle.ensures.settles in
    inr (record {
      settles = record {
        bytes_a = s.bytes_a;
        bytes_b = s.bytes_b;
        writes_a = s.writes_a;
        writes_b = s.writes_b;
        begun = s.begun;
        past = record { point = s.past.point; more = s.past.more; call = s.past.call; a = s.past.a; b = s.past.b };
      };
      calls = omega (arith, c.settle.ensures.calls);
      faults = omega (arith, c.settle.ensures.faults);
      struck = failure_hit c.args.self.now.calls c.settle.new.self.calls c.args.self.now.armed (cc) (omega (arith, c.settle.ensures.calls));
      strike = ap (strike_of c.settle.new.self.calls) c.settle.ensures.armed;
    })

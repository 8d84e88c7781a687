use Rattle.std.proofs.Common.{subst, arith}
use Rattle.cg_records.specs.Limits.{IsStable}
use Rattle.cg_disk_records.proofs.writing.within_limits.Goals as goal

pub returns-clause-within : goal.returns-clause-within
returns-clause-within c =
    let short = c.in_ok-are_short.ensures in
    let held = c.holds.ensures in
    record {
      id = held.id;
      stable = subst IsStable c.in_ok-stable.ensures.value c.in_ok-stable.ensures.limits;
      queue = record {
        count = omega (arith, held.count);
        green_cut = held.green_cut;
        red_cut = held.red_cut;
        greens = record { short = short.greens; each = held.kept.greens };
        reds = record { short = short.reds; each = held.kept.reds };
      };
      members = record { servers = held.servers; lines = held.lines; left = held.left };
      short = short.db;
      entries = held.entries;
      ascends = held.ascends;
      own = record { short = short.own; each = held.own };
    }

-- Runs of device calls, one behind the other.
use Rattle.std.proofs.Common.{◌≡◌, ℕ, ◌+◌, ◌≤◌, refl, sym, ◌∙◌, arith}
use Rattle.cg_disk.specs.View.{DiskView, IsView, LeavesOnly}
use Rattle.cg_journal.specs.Strikes.{IsUnstruck}
use Rattle.cg_journal.specs.ViewLaws.{ahead_of, chained, still_armed, struck_more, unstruck_more}
use Rattle.cg_store.specs.Formats.{Standing, StandsForState}
use Rattle.cg_store.specs.Migrating.{IsCutOpening}
use Rattle.cg_store.specs.Settling.{IsLostSettling, IsUnsettled}

-- no call
pub nothing_struck : (d : DiskView) → IsView d → IsUnstruck d d
nothing_struck d is = record { faults = refl; stays = refl; ahead = ahead_of d is }

-- of an opening the calls behind some more
pub lost_more : (id earlier later calls : ℕ) (s : Standing) (old mid new : DiskView) → IsUnstruck old mid → mid.time ≡ old.time + calls → later ≡ earlier + calls →
    LeavesOnly old mid (StandsForState id s.on.content) → IsLostSettling id later s mid new → IsLostSettling id earlier s old new
lost_more id earlier later calls s old mid new first time both run lost = record {
  call = lost.call;
  struck = struck_more old mid new first (omega (arith, time)) lost.struck;
  time = omega (arith, lost.time, time, both);
  within = lost.within;
  images = lost.images;
  reads = lost.reads;
  told = λ d e before after.
      let next = still_armed old mid first d before in
      let cut : IsCutOpening id s lost.call next.0 e = lost.told next.0 e next.1 after in
      record { strike = cut.strike; armed = sym next.2 ∙ cut.armed; fills = cut.fills };
  moments = chained old mid new (StandsForState id s.on.content) (StandsForState id s.on.content) run lost.moments (λ c is. is);
}

pub unsettled_more : (id calls more all : ℕ) (s : Standing) (old mid new : DiskView) → IsUnstruck old mid → mid.time ≡ old.time + calls → calls + more ≤ all →
    LeavesOnly old mid (StandsForState id s.on.content) → IsUnsettled id more s mid new → IsUnsettled id all s old new
unsettled_more id calls more all s old mid new first time le run is = record {
  stands = is.stands;
  time = omega (arith, is.time, time, le);
  unstruck = unstruck_more old mid new first is.unstruck;
  moments = chained old mid new (StandsForState id s.on.content) (StandsForState id s.on.content) run is.moments (λ c x. x);
}

-- How a run of device calls goes on.
use Rattle.std.proofs.Common.{◌≡◌, inl, inr, ⊎_elim, ℕ, ◌≤◌, ◌<◌, Option, Some, None, IfSome, refl, arith, List}
use Rattle.std.specs.Option.{option_map}
use Rattle.cg_disk.specs.Sides.{Image, bytes_of}
use Rattle.cg_disk.specs.Writes.{Torn, TornSide}
use Rattle.cg_disk.specs.State.{DiskState, DiskStrike, Blow, blow_at}
use Rattle.cg_disk.specs.View.{DiskView, IsView, LeavesOnly}
use Rattle.cg_disk.specs.Calls.{Elapses}
use Rattle.cg_disk.specs.declared.disk.Side.{Side}
use Rattle.std.proofs.lemmas.Bool.Decides.{nat_tests}
use Rattle.cg_journal.specs.Strikes.{strike_of}

-- one call more, after which a crash leaves what has P
pub goes_on : (old mid new : DiskView) (P : Image → Type 0) → LeavesOnly old mid P → Elapses mid new → mid.time ≤ new.time → ((c : Image) → new.may_leave c → P c) → LeavesOnly old new P
goes_on old mid new P so_far time later here = record {
  later = omega (arith, so_far.later);
  each = λ c left. ⊎_elim (so_far.each c) (here c) (time.nothing_else old.time c so_far.later left);
  before = λ t c le left. ⊎_elim (so_far.before t c le) (λ now. inr (here c now)) (time.nothing_else t c (omega (arith, le, so_far.later)) left);
}

-- nothing torn
pub torn_same : (offset count : ℕ) (bytes : List ℕ) → Torn offset count bytes bytes
torn_same offset count bytes = record { before = refl; after = refl; no_shorter = omega arith; no_longer = omega arith }

pub torn_side_same : (side : Side) (offset count : ℕ) (image : Image) → TornSide side offset count image image
torn_side_same side offset count image = record { torn = torn_same offset count (bytes_of side image); other = refl }

-- a strike that is hit is armed at that call
pub armed_at : (armed : Option DiskStrike) (n : ℕ) (blow : Blow) → blow_at armed n ≡ Some blow → (strike : DiskStrike) × (armed ≡ Some strike) × (strike.call ≡ n) × (strike.blow ≡ blow)
armed_at None n blow hit = cc
armed_at (Some strike) n blow hit = (strike, refl, grind (arith, nat_tests), grind (arith, nat_tests))

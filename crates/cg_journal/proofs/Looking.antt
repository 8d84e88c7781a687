-- Runs of calls that only look, or sync.
use Rattle.std.proofs.Common.{◌≡◌, ◌≤◌, Option, Some, None, refl, ◌∙◌, ap, arith}
use Rattle.std.specs.Option.{option_map}
use Rattle.cg_disk.specs.State.{DiskState}
use Rattle.cg_disk.specs.View.{DiskView, IsView}
use Rattle.cg_disk.specs.Calls as calls
use Rattle.cg_journal.specs.Strikes.{IsUnstruck, IsStruck}
use Rattle.cg_journal.specs.Reads.{IsReadOnly, IsReadStruck}
use Rattle.cg_journal.proofs.Moments.{goes_on, armed_at}
use Rattle.cg_journal.specs.ViewLaws.{ahead_of, started}

-- a call that isn't struck and leaves the strike as it is
pub passes_unstruck : (done : DiskState → DiskState) → ((s : DiskState) → (done s).strike ≡ s.strike) → (old new : DiskView) → IsView new → calls.Passes done old new → IsUnstruck old new
passes_unstruck done keeps old new is passes = record {
  faults = passes.faults;
  stays = ap (option_map (λ (s : DiskState). s.strike)) passes.state ∙ stays old.state;
  ahead = ahead_of new is;
}
  where
    stays : (state : Option DiskState) → option_map (λ (s : DiskState). s.strike) (option_map done state) ≡ option_map (λ (s : DiskState). s.strike) state
    stays None = refl
    stays (Some s) = ap Some (keeps s)

pub unchanged_unstruck : (old new : DiskView) → IsView new → calls.IsUnchanged old new → IsUnstruck old new
unchanged_unstruck old new is same = record { faults = same.faults; stays = ap (option_map (λ (s : DiskState). s.strike)) same.state; ahead = ahead_of new is }

-- a call that is struck
pub fails_struck : (cut : DiskState → DiskState) (old new : DiskView) → calls.Fails cut old new → IsStruck old new
fails_struck cut old new fails = record {
  faults = fails.faults;
  later = omega (arith, fails.time);
  reached = λ s is.
      let told = fails.told s is in
      let armed = armed_at s.strike new.time told.2.blow told.2.struck in
      (armed.0, armed.1, armed.2);
}

module _ (old new : DiskView) (is_old : IsView old) (is_new : IsView new) (looks : calls.Looks old new) where
  read_only : old.time ≤ new.time → IsReadOnly old new
  read_only later = record {
    reads = looks.reads;
    images = looks.images;
    moments = goes_on old old new old.may_leave (started old old.may_leave is_old (λ c left. left)) looks.elapses later looks.images;
  }

  struck_look : (cut : DiskState → DiskState) → calls.Fails cut old new → calls.HasImages new → IsReadStruck 1 old new
  struck_look cut fails has = record { has = has; only = read_only (omega (arith, fails.time)); time = omega (arith, fails.time); struck = fails_struck cut old new fails }

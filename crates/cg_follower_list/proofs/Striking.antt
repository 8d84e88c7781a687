-- What is armed on a follower's disk, and what a strike inside a feed leaves.
use Rattle.std.proofs.Common.{◌≡◌, ℕ, ◌-◌, ◌≤◌, true, false, List, [], ◌∷◌, Option, Some, refl, sym, ap, subst, ◌∙◌, arith}
use Rattle.std.proofs.lemmas.Bool.Decides.{nat_tests}
use Rattle.std.specs.Prelude.{nat_le, nat_lt, unwrap_or, option_map, option_and_then, if◌then◌else◌}
use Rattle.cg_disk_records.specs.Crash.{is_committed}
use Rattle.cg_disk.specs.Crashes.{IsCrashed}
use Rattle.cg_disk.specs.Sides.{Image}
use Rattle.cg_disk.specs.State.{Blow, Fails, Stops, DiskStrike, DiskState, left_by}
use Rattle.cg_disk.specs.View.{DiskView, IsAtRest}
use Rattle.cg_journal.specs.Adds.{gate_stands}
use Rattle.cg_follow.specs.Feeding.{IsLost}
use Rattle.cg_follow.specs.Followed.{Followed}
use Rattle.cg_follow.specs.Stands.{Stands}
use Rattle.cg_follower_list.specs.Disks.{fault_with, strike_from, armed_on, standing}
use Rattle.cg_follower_list.specs.Followers.{after_calls}
use Rattle.cg_follower_list.specs.Life.{Fallen}

-- ---- the gate of an event's commit is that of a feed, whose calls are four

early_commit : (call : ℕ) (blow : Blow) (fill : List ℕ) → call ≤ 4 →
    is_committed (record { call = call; fault = fault_with fill blow }) ≡ gate_stands blow call fill
early_commit call Fails fill le = refl
early_commit call Stops [] le = let four : nat_lt 4 call ≡ false = grind (arith, nat_tests) in rw four refl
early_commit call Stops (byte ∷ fill) le = let four : nat_lt 4 call ≡ false = grind (arith, nat_tests) in rw four refl

-- ---- a feed

-- what a strike of it leaves
abbrev struck_in : Blow → ℕ → List ℕ → Followed → Followed → Followed
struck_in blow call fill before after = if gate_stands blow call fill then after else before

pub record IsStruckSo (fill : List ℕ) (before after : Followed) (old : DiskView) (e : DiskState) : Type 0 where
  pub left : Followed
  pub stands : Stands (left_by e fill) left
  pub is : Fallen left ≡ after_calls (armed_on old fill) before after

falls_so : (call : ℕ) (blow : Blow) (fill : List ℕ) (before after : Followed) → call ≤ 4 →
    Fallen (struck_in blow call fill before after) ≡ after_calls (Some (record { call = call; fault = fault_with fill blow })) before after
falls_so call blow fill before after le =
    let within : nat_le call 4 ≡ true = grind (arith, nat_tests) in
    rw (within, early_commit call blow fill le) refl

pub loses : (old new : DiskView) (s e : DiskState) (fill : List ℕ) (before after : Followed) → IsLost before after old new →
    old.state ≡ Some s → new.state ≡ Some e → IsStruckSo fill before after old e
loses old new s e fill before after is told behind =
    let cut = is.told s e told behind in
    let k = cut.strike in
    let reached = is.struck.reached s told in
    let both : Some k ≡ Some reached.0 = sym cut.armed ∙ reached.1 in
    let one : k ≡ reached.0 = cc in
    let at : k.call ≡ new.time = ap (λ (x : DiskStrike). x.call) one ∙ reached.2 in
    let ahead : k.call - old.time ≡ is.call = omega (arith, is.time) in
    let armed : armed_on old fill ≡ Some (record { call = is.call; fault = fault_with fill k.blow }) =
    ap (λ (o : Option DiskState). option_and_then (option_map (strike_from old.time fill)) (option_map (λ (x : DiskState). x.strike) o)) told
    ∙ ap (option_map (strike_from old.time fill)) cut.armed
    ∙ (λ i. Some (record { call = ahead i; fault = fault_with fill k.blow })) in
    record {
      left = struck_in k.blow is.call fill before after;
      stands = cut.fills fill;
      is = falls_so is.call k.blow fill before after is.within.1 ∙ sym (ap (λ o. after_calls o before after) armed);
    }

-- ---- a crash

-- what a disk stands for
standing-is : (image : Image) (f : Followed) → Stands image f → standing image ≡ f
standing-is image f stands = ap (λ found. unwrap_or found (record { cursor = 0; db = [] })) stands

-- two followers for which one disk stands are one
pub one-follower : (image : Image) (f g : Followed) → Stands image f → Stands image g → f ≡ g
one-follower image f g first second = sym (standing-is image f first) ∙ standing-is image g second

-- with nothing unsynced it leaves what a read gave
pub left-at-rest : (old new : DiskView) (fill : List ℕ) (f : Followed) → Stands old.reads f → IsAtRest old → IsCrashed fill old new →
    Stands new.reads f
left-at-rest old new fill f stands rest crashed = subst (λ c. Stands c f) (sym (rest.only new.reads crashed.image)) stands

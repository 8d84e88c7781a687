-- What composes of two calls, and what may be left said less exactly.
use Rattle.std.proofs.Common.{◌≡◌, ◌≤◌, ◌<◌, inl, inr, ⊎_elim, Option, Some, None, IfSome, refl, sym, ◌∙◌, ap, arith}
use Rattle.std.specs.Option.{option_map}
use Rattle.cg_disk.specs.Sides.{Image}
use Rattle.cg_disk.specs.State.{DiskState, DiskStrike}
use Rattle.cg_disk.specs.View.{DiskView, IsView, LeavesOnly}
use Rattle.cg_journal.specs.Strikes.{IsUnstruck, IsStruck, strike_of}

-- a weaker fact
pub weakened : (old new : DiskView) (P Q : Image → Type 0) → LeavesOnly old new P →
    ((c : Image) → P c → Q c) → LeavesOnly old new Q
weakened old new P Q run weaker = record {
  later = run.later;
  each = λ c left. weaker c (run.each c left);
  before = λ t c le left. ⊎_elim (λ past. inl past) (λ p. inr (weaker c p)) (run.before t c le left);
}

-- a state whose strike is told
pub some_state : (state : Option DiskState) (strike : Option DiskStrike) →
    option_map (λ (x : DiskState). x.strike) state ≡ Some strike →
    (s : DiskState) × (state ≡ Some s) × (s.strike ≡ strike)
some_state None strike is = cc
some_state (Some s) strike is = (s, refl, cc)

-- runs without a strike, one behind the other
pub unstruck_more : (old mid new : DiskView) → IsUnstruck old mid → IsUnstruck mid new → IsUnstruck old new
unstruck_more old mid new first second =
    record { faults = second.faults ∙ first.faults; stays = second.stays ∙ first.stays; ahead = second.ahead }

-- a strike that is told is still to come
pub ahead_of : (d : DiskView) → IsView d → IfSome (strike_of d) (λ strike. IfSome strike (λ s. d.time < s.call))
ahead_of d is = told d.state is.ahead
  where
    told : (state : Option DiskState) → IfSome state (λ s. IfSome s.strike (λ strike. d.time < strike.call)) →
        IfSome (option_map (λ (s : DiskState). s.strike) state) (λ strike. IfSome strike (λ s. d.time < s.call))
    told None ahead = tt
    told (Some s) ahead = ahead

-- the strike that is armed behind calls that weren't struck
pub still_armed : (old mid : DiskView) → IsUnstruck old mid → (d : DiskState) → old.state ≡ Some d →
    (s : DiskState) × (mid.state ≡ Some s) × (s.strike ≡ d.strike)
still_armed old mid first d is =
    some_state mid.state d.strike (first.stays ∙ ap (option_map (λ (x : DiskState). x.strike)) is)

-- a struck run behind one that wasn't
pub struck_more : (old mid new : DiskView) → IsUnstruck old mid → old.time ≤ mid.time → IsStruck mid new →
    IsStruck old new
struck_more old mid new first later second = record {
  faults = omega (arith, first.faults, second.faults);
  later = omega (arith, second.later);
  reached = λ s is.
      let next = still_armed old mid first s is in
      let found = second.reached next.0 next.1 in
      (found.0, sym next.2 ∙ found.1, found.2);
}

-- before the first call
pub started : (d : DiskView) (P : Image → Type 0) → IsView d → ((c : Image) → d.may_leave c → P c) → LeavesOnly d d P
started d P is here = record {
  later = omega arith;
  each = λ c left. here c (is.only_now c left);
  before = λ t c le left. inl left;
}

-- two runs, one behind the other
pub chained : (old mid new : DiskView) (P Q : Image → Type 0) → LeavesOnly old mid P → LeavesOnly mid new Q →
    ((c : Image) → Q c → P c) → LeavesOnly old new P
chained old mid new P Q first second weaker = record {
  later = omega (arith, first.later, second.later);
  each = λ c left. ⊎_elim (first.each c) (weaker c) (second.before old.time c first.later left);
  before = λ t c le left. ⊎_elim (first.before t c le) (λ q. inr (weaker c q)) (second.before t c (omega (arith, le, first.later)) left);
}

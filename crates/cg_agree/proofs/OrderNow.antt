-- The spine of levels and one order behind each small step, and what a small step leaves of counts and of what can become green. They ask
-- for the facts before the step, and for those about members of primary components behind it.
use Rattle.std.proofs.Common.{◌≡◌, ℕ, ◌≤◌, true}
use Rattle.cg_model.specs.Chronicle.{Chronicle}
use Rattle.cg_model.specs.Fronts.{Front}
use Rattle.cg_model.specs.Looks.{top_of}
use Rattle.cg_model.specs.Levels.{reached_at, reach_at, is_frozen}
use Rattle.cg_model.specs.FactsGreens.{PrimaryGreens, InstalledCount, Spine, OneOrder}
use Rattle.cg_model.specs.Facts.{Invariant}
use Rattle.cg_model.specs.Played.{AtRest}
use Rattle.cg_model.specs.Small.{Small, small_step}
use Rattle.cg_model.specs.Smalls.{may_make}
use Rattle.cg_agree.proofs.FactsKept.{attempt-now}
use Rattle.cg_agree.proofs.OneOrderKept.{one_order-now}
use Rattle.cg_agree.proofs.ReachedGrows.{reached-grows, reach-still}
use Rattle.cg_agree.proofs.SpineNow.{spine-now}

module _ (c : Chronicle) (s : Small) (i : Invariant c) (may : may_make c s ≡ true) (rest : AtRest c s) where
  -- how far some member of a level really came never falls
  pub lists-reached : (level : ℕ) → level ≤ top_of c → reached_at c level ≤ reached_at (small_step c s) level
  lists-reached = reached-grows c s i may rest i.attempt.left_out

  module _ (counts : InstalledCount (small_step c s)) where
    -- and what can become green at a frozen level is never more
    pub lists-reach : (level : ℕ) → level ≤ top_of c → is_frozen (small_step c s) level ≡ true → Front (reach_at (small_step c s) level) (reach_at c level)
    lists-reach = reach-still c s i may rest i.attempt.left_out (attempt-now c s i may rest).levels_stand counts

    pub spine-behind : Spine (small_step c s)
    spine-behind = spine-now c s i may rest i.attempt.left_out (attempt-now c s i may rest).levels_stand counts

    pub one_order-behind : PrimaryGreens (small_step c s) → OneOrder (small_step c s)
    one_order-behind primary = one_order-now c s i may rest (record { left_out = i.attempt.left_out; yellow_valid = i.attempt.yellow_valid; primary_greens = primary; installed_count = counts })

-- What a new replica holds has a checkpoint.
use Rattle.std.proofs.Common.{◌≡◌, ℕ, ◌-◌, ◌≤◌, List, [], drop, max, subst, arith}
use Rattle.cg_base.specs.declared.weighted.Weighted.{Weighted}
use Rattle.cg_client.specs.Replica.{fresh_held}
use Rattle.cg_client.specs.Whitening.{line_of}
use Rattle.cg_disk_records.specs.Stored.{stored_of, whiten}
use Rattle.cg_disk_records.specs.Agreeing.{Agrees}
use Rattle.cg_disk_records.specs.Always.{AlwaysHolds, AlwaysCounts, AlwaysSettled}

module _ (holds : AlwaysHolds) (counts : AlwaysCounts) (settled : AlwaysSettled) (id : ℕ) (set : List Weighted) where
  -- there is nothing to discard
  none_white : whiten (fresh_held id set) ≡ fresh_held id set
  unfolding whiten
  none_white =
      let h = fresh_held id set in
      let line : line_of h ≤ 0 = counts.line h (holds.fresh id set) in
      let zero_line : max 0 (line_of h) ≡ 0 = omega arith in
      let q = h.queue in
      λ i. record h { queue = record q { white = zero_line i; greens = drop (zero_line i - 0) [] } }

  pub fresh_agrees : Agrees (stored_of (fresh_held id set))
  fresh_agrees = subst (λ h. Agrees (stored_of h)) none_white (settled (fresh_held id set) (holds.fresh id set))

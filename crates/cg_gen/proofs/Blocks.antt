-- How a block of one line begins.
use Rattle.std.proofs.Common.{◌≡◌, ℕ, nat_lt, true, false, List, [], refl}
use Rattle.cg_schedule.specs.declared.event.Event.{Event}
use Rattle.cg_schedule.specs.declared.event.Event.TheVariants.{Gather}
use Rattle.cg_gen.specs.Generated.{draw, asking, block, begun}

module _ (replicas left x : ℕ) (cells : List (List ℕ)) (kind behind : ℕ) (is_drawn : kind ≡ (draw 10 x).0) (is_behind : behind ≡ (draw 10 x).1) where
  pub begun_asking : nat_lt kind 8 ≡ true → (event : Event) (after : ℕ) → asking replicas kind behind ≡ (event, after)
      → begun (block replicas left cells x) ≡ (event, record { number = after; cells = cells; waiting = [] })
  unfolding block
  begun_asking test event after asked = rw (← is_drawn, ← is_behind, test, asked) refl

  pub begun_gathering : nat_lt kind 8 ≡ false → nat_lt left 4 ≡ true
      → begun (block replicas left cells x) ≡ (Gather, record { number = behind; cells = cells; waiting = [] })
  unfolding block
  begun_gathering test few = rw (← is_drawn, ← is_behind, test, few) refl

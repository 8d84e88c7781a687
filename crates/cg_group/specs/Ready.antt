-- Which places may be delivered.
use Rattle.std.specs.Prelude.{ℕ, Bool, length}
use Rattle.std.specs.List.{list_all, prefix_len}
use Rattle.cg_base.specs.Lists.{above_up_to}
use Rattle.cg_group.specs.State.{Configuration, GroupState, home, has_received, delivered_to}

module _ {M : Type 0} where
  -- every member of the configuration, up or down, has received the place
  unfoldable pub all_received : Configuration M → ℕ → Bool
  all_received c place = list_all (λ q. has_received c q place) c.members

  -- how many places in a row after the last delivered one every member has received
  unfoldable pub ready_in : Configuration M → ℕ → ℕ
  ready_in c delivered = prefix_len (all_received c) (above_up_to delivered (length c.ordered))

  -- how many places may be delivered to a replica next
  abbrev pub ready : GroupState M → ℕ → ℕ
  ready g p = ready_in (home g p) (delivered_to g p)

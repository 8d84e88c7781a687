-- What a relaxed value keeps, as lists: the sums, each of a key and a creator, and the last writes of keys.
use Rattle.std.specs.Prelude.{ℕ, ◌==◌, nat_lt, ◌^◌, ◌*◌, Bool, not, ◌&&◌, List, Option, Some, None, ℤ, pos, ◌+ℤ◌, ◌≤ℤ◌, if◌then◌else◌}
use Rattle.std.specs.Option.{unwrap_or, option_or}
use Rattle.std.specs.Map.{lookup}
use Rattle.cg_base.specs.declared.action_id.ActionId.{ActionId}
use Rattle.cg_base.specs.Cuts.{index_in}
use Rattle.cg_text.specs.Order.{same_text}
use Rattle.cg_relaxed.specs.declared.sum_key.SumKey.{SumKey}
use Rattle.cg_relaxed.specs.declared.write.Write.{Write}
use Rattle.cg_relaxed.specs.Writes.{later}
use Rattle.cg_relaxed.specs.Relaxed.{RelaxedView, AreFew}

pub record RelaxedState : Type 0 where
  pub known : List ActionId
  pub sums : List (SumKey × ℤ)
  pub writes : List (List ℕ × Write)

abbrev pub part : List ℕ → ℕ → SumKey
part key p = record { creator = p; key = key }

-- one creator's part in the sum of one key
abbrev pub same_part : SumKey → SumKey → Bool
same_part a b = (a.creator == b.creator) && same_text a.key b.key

-- a sum that isn't kept is 0
abbrev pub sum_at : List (SumKey × ℤ) → List ℕ → ℕ → ℤ
sum_at sums key p = unwrap_or (lookup (same_part (part key p)) sums) (pos 0)

abbrev pub write_at : List (List ℕ × Write) → List ℕ → Option Write
write_at writes key = lookup (same_text key) writes

-- whether the first cut knows less of a creator than the other
abbrev pub knows_less : List ActionId → List ActionId → ℕ → Bool
knows_less cut other p = nat_lt (index_in cut p) (index_in other p)

-- of what two know together, the sum of the one that knows more of the creator
abbrev pub sum_of_both : List (SumKey × ℤ) → List ActionId → List (SumKey × ℤ) → List ActionId → List ℕ → ℕ → ℤ
sum_of_both sums known other_sums other_known key p =
    if knows_less known other_known p then sum_at other_sums key p else sum_at sums key p

-- whether the sums of a creator are asked for: those of whom less is known, or all others
abbrev pub is_wanted : Bool → List ActionId → List ActionId → ℕ → Bool
is_wanted less cut other p = if less then knows_less cut other p else not (knows_less cut other p)

-- the sums with those of certain creators taken over from others
abbrev pub taken_over : (ℕ → Bool) → List (SumKey × ℤ) → List (SumKey × ℤ) → SumKey → Option ℤ
taken_over test from sums q =
    if test q.creator then option_or (lookup (same_part q) from) (lookup (same_part q) sums)
    else lookup (same_part q) sums

-- a register that is merged from two, where the one is written
abbrev pub merged : Option Write → Option Write → Option Write → Option Write
merged None other old = old
merged (Some w) other old = later other (Some w)

-- what is seen of it: the calls of a relaxed value speak of this
abbrev pub seen : RelaxedState → RelaxedView
seen k = record { known = k.known; sums = sum_at k.sums; registers = write_at k.writes }

-- ---- why no sum leaves an i128

-- the number lies no further from 0
pub record IsWithin (bound : ℕ) (n : ℤ) : Type 0 where
  pub above : pos 0 ≤ℤ (n +ℤ pos bound)
  pub below : n ≤ℤ pos bound

-- An action has at most 16 commands, each of which adds less than 2 ^ 63, and a creator has fewer than 2 ^ 40 of them.
pub record AreSmall (known : List ActionId) (kept : List (SumKey × ℤ)) : Type 0 where
  pub few : AreFew known
  pub sums : (key : List ℕ) (p : ℕ) → IsWithin (index_in known p * 2 ^ 67) (sum_at kept key p)

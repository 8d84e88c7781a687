-- Vulnerable records: which are cleared, and what becomes of those that stay.
use Rattle.std.specs.Prelude.{ℕ, ◌+◌, ◌==◌, nat_le, Bool, false, not, ◌&&◌, ◌||◌, List, [], Option, Some, None, fold, if◌then◌else◌}
use Rattle.std.specs.Option.{option_map_or}
use Rattle.std.specs.List.{list_any}
use Rattle.cg_base.specs.Sets.{has, union, same_set}
use Rattle.cg_records.specs.declared.vulnerable.Vulnerable.{Vulnerable}
use Rattle.cg_knowledge.specs.declared.summary.Summary.{Summary}
use Rattle.cg_knowledge.specs.Primary.{newest_index, known_primary}

-- the member is vulnerable for the attempt of that configuration
abbrev pub is_vulnerable_for : ℕ → Summary → Bool
is_vulnerable_for attempt s = option_map_or (λ v. v.attempt == attempt) s.vulnerable false

-- the bits with those of the member, where it is vulnerable for the attempt
abbrev pub with_bits : ℕ → List ℕ → Summary → List ℕ
with_bits attempt bits s = option_map_or (λ v. if v.attempt == attempt then union bits v.bits
    else bits) s.vulnerable bits

-- the bits of all members that are vulnerable for the attempt
unfoldable pub all_bits : List Summary → ℕ → List ℕ
all_bits summaries attempt = fold (with_bits attempt) [] summaries

-- two later primary components are known
unfoldable pub is_long_past : List Summary → Vulnerable → Bool
is_long_past summaries v = nat_le (v.from + 2) (newest_index summaries)

-- another attempt from the same index was installed
unfoldable pub is_overtaken : List Summary → Vulnerable → Bool
is_overtaken summaries v = (newest_index summaries == v.from + 1) && not ((known_primary summaries).conf == v.attempt)

-- a member of the attempt is here without a record of it
unfoldable pub is_ended_by_one : List Summary → Vulnerable → Bool
is_ended_by_one summaries v = list_any (λ s. has v.set s.id && not (is_vulnerable_for v.attempt s)) summaries

-- each member of the attempt is known to have ended it
unfoldable pub is_ended_by_all : List Summary → Vulnerable → Bool
is_ended_by_all summaries v = same_set (all_bits summaries v.attempt) v.set

-- the record is cleared
unfoldable pub is_cleared : List Summary → Vulnerable → Bool
is_cleared summaries v = is_long_past summaries v
    || (is_overtaken summaries v || (is_ended_by_one summaries v || is_ended_by_all summaries v))

-- what becomes of a record: it is cleared, or it gets the bits of all members
abbrev pub decided : List Summary → Option Vulnerable → Option Vulnerable
decided summaries None = None
decided summaries (Some v) = if is_cleared summaries v then None
    else Some (record v { bits = all_bits summaries v.attempt })

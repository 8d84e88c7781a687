-- Who is in an exchange. The summaries are those of all its members, in any order.
use Rattle.std.specs.Prelude.{ℕ, nat_lt, ◌==◌, ◌&&◌, ◌||◌, Bool, List, [], Option, Some, None, fold, if◌then◌else◌}
use Rattle.std.specs.Option.{option_map_or}
use Rattle.cg_base.specs.Sets.{with_member, common, without}
use Rattle.cg_knowledge.specs.declared.summary.Summary.{Summary}

-- the members of the exchange
unfoldable pub senders : List Summary → List ℕ
senders summaries = fold (λ set s. with_member set s.id) [] summaries

-- the first has more greens, or as many and the lower identifier
abbrev pub leads : Summary → Summary → Bool
leads s t = nat_lt t.green_count s.green_count || ((s.green_count == t.green_count) && nat_lt s.id t.id)

-- the one of the two that leads
abbrev pub leader : Option Summary → Summary → Option Summary
leader None s = Some s
leader (Some best) s = if leads s best then Some s else Some best

-- the most updated member: it has the most greens, and among equals the lowest identifier
unfoldable pub most_updated : List Summary → Option Summary
most_updated summaries = fold leader None summaries

-- the one of the two with the lower identifier
abbrev pub lower : Option Summary → Summary → Option Summary
lower None s = Some s
lower (Some low) s = if nat_lt s.id low.id then Some s else Some low

-- the member with the lowest identifier
unfoldable pub lowest : List Summary → Option Summary
lowest summaries = fold lower None summaries

-- the members that have left, as the most updated member knows
unfoldable pub gone : List Summary → List ℕ
gone summaries = option_map_or (λ s. common (senders summaries) s.left) (most_updated summaries) []

-- the members that remain
unfoldable pub remaining : List Summary → List ℕ
remaining summaries = without (senders summaries) (gone summaries)

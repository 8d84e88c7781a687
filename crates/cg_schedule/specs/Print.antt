-- The line that spells an event.
use Rattle.std.specs.Prelude.{ℕ, ◌+◌, ◌/◌, ◌%◌, nat_lt, List, [], ◌∷◌, ◌++◌, codes, decimal, flat_map, if◌then◌else◌}
use Rattle.cg_base.specs.Ascii.{ZERO}
use Rattle.cg_base.specs.declared.weighted.Weighted.{Weighted}
use Rattle.cg_base.specs.Text.{weighted_text}
use Rattle.cg_action.specs.Print.{query_text, update_text}
use Rattle.cg_schedule.specs.declared.event.Event.{Event}
use Rattle.cg_schedule.specs.declared.event.Event.TheVariants.{Start, Split, Merge, Request, Weak, Dirty, Order, Recover, RecoverStopped, Downgrade, Show, ShowOrder, Gather, End, Receive, Deliver, Rounds, Stop, Fail, Join, Leave, Transfer}

-- a part behind a blank
abbrev pub id_behind : ℕ → List ℕ
id_behind p = codes " " ++ decimal p

abbrev pub member_behind : Weighted → List ℕ
member_behind m = codes " " ++ weighted_text m.id m.weight

-- the digit of a number below 16
abbrev pub hex_glyph : ℕ → ℕ
hex_glyph n = if nat_lt n 10 then ZERO + n else 87 + n

-- a byte in two digits
abbrev pub hex_text : ℕ → List ℕ
hex_text byte = hex_glyph (byte / 16) ∷ hex_glyph (byte % 16) ∷ []

-- bytes in hexadecimal digits, a hyphen for none
abbrev pub fill_text : List ℕ → List ℕ
fill_text [] = codes "-"
fill_text (byte ∷ bytes) = flat_map hex_text (byte ∷ bytes)

-- the line of an event
abbrev pub line_of : Event → List ℕ
line_of (Start set) = codes "start" ++ flat_map member_behind set
line_of (Split set) = codes "split" ++ flat_map id_behind set
line_of (Merge set) = codes "merge" ++ flat_map id_behind set
line_of (Request p cmds query) = codes "request " ++ decimal p ++ codes " " ++ update_text cmds query
line_of (Weak p query) = codes "weak " ++ decimal p ++ codes " " ++ query_text query
line_of (Dirty p query) = codes "dirty " ++ decimal p ++ codes " " ++ query_text query
line_of (Order p) = codes "order " ++ decimal p
line_of (Recover p) = codes "recover " ++ decimal p
line_of (RecoverStopped p call fill) =
    codes "recover " ++ decimal p ++ codes " " ++ decimal call ++ codes " " ++ fill_text fill
line_of (Downgrade p) = codes "downgrade " ++ decimal p
line_of (Show p) = codes "show " ++ decimal p
line_of ShowOrder = codes "show order"
line_of Gather = codes "gather"
line_of End = codes "end"
line_of (Receive p place) = codes "receive " ++ decimal p ++ codes " " ++ decimal place
line_of (Deliver p count) = codes "deliver " ++ decimal p ++ codes " " ++ decimal count
line_of (Rounds count) = codes "rounds " ++ decimal count
line_of (Stop p call fill) = codes "stop " ++ decimal p ++ codes " " ++ decimal call ++ codes " " ++ fill_text fill
line_of (Fail p call) = codes "fail " ++ decimal p ++ codes " " ++ decimal call
line_of (Join p joiner weight) = codes "join " ++ decimal p ++ codes " " ++ weighted_text joiner weight
line_of (Leave p server) = codes "leave " ++ decimal p ++ codes " " ++ decimal server
line_of (Transfer p joiner pieces) =
    codes "transfer " ++ decimal p ++ codes " " ++ decimal joiner ++ codes " " ++ decimal pieces

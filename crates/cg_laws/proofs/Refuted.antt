-- What the laws of reports tell apart, and a number that they don't admit: a definition that let one of these pass would
-- say too little.
use Rattle.std.proofs.Common.{◌≡◌, ℕ, ◌+◌, ◌^◌, List, [], ◌∷◌, ap, arith}
use Rattle.cg_report.specs.NoEntry.{no_entry}
use Rattle.cg_report.specs.declared.entry.Entry.{Entry}
use Rattle.cg_report.specs.declared.entry.Placed.{Placed}
use Rattle.cg_short.specs.Short.{IsShortEntry}
use Rattle.cg_laws.specs.Told.{IsTranscript, trimmed}

-- an entry with the first action of a creator at a place
abbrev placing : ℕ → ℕ → Entry
placing place creator = record no_entry { orders = record { place = place; id = record { creator = creator; index = 1 } } ∷ [] }

abbrev creator_of : List Placed → ℕ
creator_of [] = 0
creator_of (o ∷ os) = o.id.creator

abbrev first_creator : List Entry → ℕ
first_creator [] = 0
first_creator (e ∷ es) = creator_of e.orders

abbrev count : List Entry → ℕ
count [] = 0
count (e ∷ es) = 1 + count es

-- a place of 65 digits
too_long : IsShortEntry (placing (10 ^ 64) 1) → ⊥
too_long short = omega (arith, short.orders.0.0)

too_long_later : IsTranscript (no_entry ∷ placing (10 ^ 64) 1 ∷ []) → ⊥
too_long_later is = too_long is.each.1.0

-- another creator's action is shown
another_creator : trimmed (placing 1 1 ∷ []) ≡ trimmed (placing 1 2 ∷ []) → ⊥
another_creator same = let creators : 1 ≡ 2 = ap first_creator same in omega (arith, creators)

-- it is shown one step later
later_step : trimmed (placing 1 1 ∷ []) ≡ trimmed (no_entry ∷ placing 1 1 ∷ []) → ⊥
later_step same = let counts : 1 ≡ 2 = ap count same in omega (arith, counts)

-- nothing is shown
nothing_shown : trimmed (placing 1 1 ∷ []) ≡ trimmed (no_entry ∷ no_entry ∷ []) → ⊥
nothing_shown same = let counts : 1 ≡ 0 = ap count same in omega (arith, counts)

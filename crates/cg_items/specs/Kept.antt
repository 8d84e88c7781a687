-- What a command keeps beside the world, behind the items of a run.
use Rattle.std.specs.Prelude.{◌≡◌, ◌<◌, ℕ, suc, true, List, [], ◌∷◌, Option, Some, None, IfSome, option_map}
use Rattle.std.specs.Option.{option_map_or}
use Rattle.cg_model.specs.World.{World}
use Rattle.cg_model.specs.Run.{Step, step_limit}
use Rattle.cg_items.specs.declared.companion.Companion.{Companion}
use Rattle.cg_items.specs.declared.companion.Further.{Further}
use Rattle.cg_items.specs.Companion.{Noted, acts, event_of, follows, further_refusal, is_own, nothing_noted}
use Rattle.cg_items.specs.Items.{Item}

-- what an item has come to beside the world
abbrev pub noted_by : World → Companion → Option Further → Option Step → Noted
noted_by w c asked (Some s) = follows c asked s
noted_by w c (Some e) None = acts w c e
noted_by w c None None = nothing_noted c

-- the world behind an item
abbrev pub next_world : World → Option Step → World
next_world w step = option_map_or (λ s. s.world) step w

-- what is kept behind these items
abbrev pub kept_behind : World → Companion → List Item → Companion
kept_behind w c [] = c
kept_behind w c (i ∷ items) = kept_behind (next_world w i.step) (noted_by w c i.further i.step).companion items

-- a further event is one of the command's own, is admitted, and makes the step of the event for which it stands
abbrev pub IsTaken : World → Companion → Option Step → Further → Type 0
IsTaken w c step e =
    (is_own c e ≡ true) × (further_refusal w c e ≡ None) × (option_map (λ s. s.event) step ≡ event_of e)

-- Each item has the next number, its further event, where it was one, is taken so, and its further lines are those that have
-- come of it beside the world.
abbrev pub AreNoted : World → Companion → ℕ → List Item → Type 0
AreNoted w c count [] = Unit {0}
AreNoted w c count (i ∷ items) =
    (i.number ≡ suc count) × (count < step_limit) × IfSome i.further (IsTaken w c i.step)
    × (i.lines ≡ (noted_by w c i.further i.step).lines)
    × AreNoted (next_world w i.step) (noted_by w c i.further i.step).companion (suc count) items

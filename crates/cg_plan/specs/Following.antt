-- How a plan is followed: what comes of items, and what is answered.
use Rattle.std.specs.Prelude.{◌≡◌, ℕ, ◌+◌, true, false, List, Result, MatchResult, fold, if◌then◌else◌}
use Rattle.std.specs.Option.{option_map}
use Rattle.cg_plan.specs.declared.parts.Item.{Item}
use Rattle.cg_plan.specs.declared.parts.SentPart.{SentPart}
use Rattle.cg_plan.specs.declared.parts.SentItem.{SentItem}
use Rattle.cg_plan.specs.declared.parts.Other.{Other}
use Rattle.cg_plan.specs.Progress.{PlanProgress, next_item, is_wanted}

-- a plan of which no item was accepted
abbrev pub begun : List SentPart → PlanProgress
begun turns = record { turns = turns; accepted = 0 }

-- the plan when an item came
abbrev pub after_item : PlanProgress → ℕ → Item → PlanProgress
after_item p from item = if is_wanted (next_item p) from item then record p { accepted = p.accepted + 1 } else p

-- the answer to an item: it is the wanted one, or the wanted item is told
abbrev pub Answers : PlanProgress → ℕ → Item → Result (Unit {0}) Other → Type 0
Answers p from item result =
    MatchResult result (λ _. is_wanted (next_item p) from item ≡ true)
    (λ other. (is_wanted (next_item p) from item ≡ false) × (other.want ≡ option_map (λ s. s.item) (next_item p)))

-- the plan when these items came, one after the other
abbrev pub after_items : PlanProgress → List SentItem → PlanProgress
after_items p sents = fold (λ q s. after_item q s.sender s.item) p sents

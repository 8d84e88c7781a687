-- Where in a plan a replica is: at a part, behind some of its items.
use Rattle.std.specs.Prelude.{◌≡◌, ℕ, ◌+◌, ◌<◌, ◌≤◌, List, [], ◌∷◌, length, take, drop}
use Rattle.cg_plan.specs.declared.parts.SentPart.{SentPart}
use Rattle.cg_plan.specs.Parts.{IsFilled, size_of}
use Rattle.cg_plan.specs.Items.{items_of_plan}

-- each part has an item
abbrev pub AreFilled : List SentPart → Type 0
AreFilled [] = Unit {0}
AreFilled (turn ∷ turns) = IsFilled turn.part × AreFilled turns

-- of the first of these parts not all items were made
abbrev pub MadeFew : ℕ → List SentPart → Type 0
MadeFew made [] = made ≡ 0
MadeFew made (turn ∷ turns) = made < size_of turn.part

-- a place in a plan
pub record IsPlace (turns : List SentPart) (current made : ℕ) : Type 0 where
  pub filled : AreFilled turns
  pub within : current ≤ length turns
  pub few : MadeFew made (drop current turns)

-- how many items come before a place
unfoldable pub items_before : List SentPart → ℕ → ℕ → ℕ
items_before turns current made = length (items_of_plan (take current turns)) + made

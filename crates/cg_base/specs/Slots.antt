-- How sets, weights and cuts lie in slots, one for each replica. A slot that holds 0 is empty.
use Rattle.std.specs.Prelude.{◌≡◌, ℕ, zero, suc, ◌-◌, ◌^◌, ◌<◌, ◌==◌, List, [], ◌∷◌, length, map, bit_or, slice_index, if◌then◌else◌}
use Rattle.std.specs.Int.{bit_at}
use Rattle.cg_base.specs.declared.action_id.ActionId.{ActionId}
use Rattle.cg_base.specs.declared.weighted.Weighted.{Weighted}
use Rattle.cg_base.specs.Replicas.{every_replica}

-- what the slots of `count` replicas from `first` on hold, ascending
unfoldable pub held_from : {X : Type 0} → (ℕ → ℕ → X) → (ℕ → ℕ) → ℕ → ℕ → List X
held_from make slot zero first = []
held_from make slot (suc count) first =
    if slot first == 0 then held_from make slot count (suc first)
    else make first (slot first) ∷ held_from make slot count (suc first)

-- what all slots hold
unfoldable pub held : {X : Type 0} → (ℕ → ℕ → X) → (ℕ → ℕ) → List X
held make slot = held_from make slot 32 1

-- a replica's slot in a word of 32 bits, and in an array of 32
abbrev pub bit_slot : ℕ → ℕ → ℕ
bit_slot word p = bit_at word (p - 1)

abbrev pub array_slot : List ℕ → ℕ → ℕ
array_slot slots p = slice_index slots (p - 1)

-- the array has a slot for each replica, and each holds less than the limit
pub record IsArray (slots : List ℕ) (limit : ℕ) : Type 0 where
  pub long : length slots ≡ 32
  pub small : (k : ℕ) → slice_index slots k < limit

-- what a filled slot stands for
abbrev pub member : ℕ → ℕ → ℕ
member p bit = p

abbrev pub weighted : ℕ → ℕ → Weighted
weighted p weight = record { id = p; weight = weight }

abbrev pub top : ℕ → ℕ → ActionId
top p index = record { creator = p; index = index }

-- the word of a list of members
abbrev pub word_of : List ℕ → ℕ
word_of [] = 0
word_of (p ∷ set) = bit_or (word_of set) (2 ^ (p - 1))

-- the array whose slots hold these numbers
unfoldable pub array_of : (ℕ → ℕ) → List ℕ
array_of slot = map slot every_replica

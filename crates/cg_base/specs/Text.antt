-- How plain values are printed, and how bytes fall into pieces.
use Rattle.std.specs.Prelude.{ℕ, ◌==◌, Bool, true, false, List, [], ◌∷◌, ◌++◌, decimal, codes, if◌then◌else◌}
use Rattle.std.specs.List.{slice_split, flat_map}
use Rattle.cg_base.specs.declared.action_id.ActionId.{ActionId}
use Rattle.cg_base.specs.declared.weighted.Weighted.{Weighted}

-- the texts of the things, with a comma between two
abbrev pub with_commas : {A : Type 0} → (A → List ℕ) → List A → List ℕ
with_commas text [] = []
with_commas text (x ∷ xs) = text x ++ flat_map (λ y. codes "," ++ text y) xs

-- a set, as `{1,2}`
abbrev pub set_text : List ℕ → List ℕ
set_text set = codes "{" ++ with_commas decimal set ++ codes "}"

-- an identifier with its weight, as `1*3`, and as `1` where the weight is 1
abbrev pub weighted_text : ℕ → ℕ → List ℕ
weighted_text p weight = decimal p ++ (if weight == 1 then [] else codes "*" ++ decimal weight)

-- a set with weights, as `{1*3,2}`
abbrev pub weight_set_text : List Weighted → List ℕ
weight_set_text set = codes "{" ++ with_commas (λ m. weighted_text m.id m.weight) set ++ codes "}"

-- an identifier of an action, as `1:4`
abbrev pub id_text : ActionId → List ℕ
id_text id = decimal id.creator ++ (codes ":" ++ decimal id.index)

-- identifiers, as `[1:1,2:1]`
abbrev pub id_list_text : List ActionId → List ℕ
id_list_text ids = codes "[" ++ with_commas id_text ids ++ codes "]"

-- the pieces of the bytes between separators, of which there is one more than separators
abbrev pub pieces_of : ℕ → List ℕ → List (List ℕ)
pieces_of separator bytes = slice_split (λ b. b == separator) bytes

abbrev pub is_nil : {A : Type 0} → List A → Bool
is_nil [] = true
is_nil (x ∷ xs) = false

-- Cuts. A cut names the last action of each creator that has one, by creator.
use Rattle.std.specs.Prelude.{ℕ, max, ◌==◌, nat_lt, List, [], ◌∷◌, map, if◌then◌else◌}
use Rattle.cg_base.specs.declared.action_id.ActionId.{ActionId}

-- the index of a creator's last action, 0 where it has none
abbrev pub index_in : List ActionId → ℕ → ℕ
index_in [] p = 0
index_in (top ∷ cut) p = if top.creator == p then top.index else index_in cut p

-- the cut with that action in it
abbrev pub with_top : List ActionId → ActionId → List ActionId
with_top [] id = id ∷ []
with_top (top ∷ cut) id =
    if top.creator == id.creator then record top { index = max top.index id.index } ∷ cut
    else if nat_lt id.creator top.creator then id ∷ top ∷ cut
    else top ∷ with_top cut id

-- the cut raised to that action. Index 0 names none, and raises nothing
abbrev pub raise : List ActionId → ActionId → List ActionId
raise cut id = if id.index == 0 then cut else with_top cut id

-- the creators that have an action in the cut
abbrev pub creators_in : List ActionId → List ℕ
creators_in cut = map (λ top. top.creator) cut

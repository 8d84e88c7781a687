-- How records are spelled in bytes.
use Rattle.std.specs.Prelude.{ℕ, List, ◌++◌}
use Rattle.cg_base.specs.declared.action_id.ActionId.{ActionId}
use Rattle.cg_base.specs.declared.weighted.Weighted.{Weighted}
use Rattle.cg_codec.specs.Fields.{byte, number64, truth, list, optional, spelled_id}
use Rattle.cg_records.specs.declared.primary.Primary.{Primary}
use Rattle.cg_records.specs.declared.vulnerable.Vulnerable.{Vulnerable}
use Rattle.cg_records.specs.declared.yellow.Yellow.{Yellow}
use Rattle.cg_records.specs.declared.stable.Stable.{Stable}

-- a set: how many members it has, and these, ascending
unfoldable pub spelled_set : List ℕ → List ℕ
spelled_set set = list byte set

-- names of actions, in order
unfoldable pub spelled_names : List ActionId → List ℕ
spelled_names ids = list spelled_id ids

-- a cut: each creator that has an action, ascending, with the index of its last one
unfoldable pub spelled_cut : List ActionId → List ℕ
spelled_cut cut = list spelled_id cut

-- a member of a set with its weight
unfoldable pub spelled_weighted : Weighted → List ℕ
spelled_weighted m = byte m.id ++ byte m.weight

-- a set with weights
unfoldable pub spelled_weight_set : List Weighted → List ℕ
spelled_weight_set set = list spelled_weighted set

-- a primary component: its index, its configuration, and its members with their weights
unfoldable pub spelled_prim : Primary → List ℕ
spelled_prim p = number64 p.index ++ (number64 p.conf ++ spelled_weight_set p.set)

-- a vulnerable record: the configuration of its attempt, the index it was made from, its set and its bits
unfoldable pub spelled_vulnerable : Vulnerable → List ℕ
spelled_vulnerable v = number64 v.attempt ++ (number64 v.from ++ (spelled_set v.set ++ spelled_set v.bits))

-- a yellow list, behind its status
unfoldable pub spelled_yellow : Yellow → List ℕ
spelled_yellow y = truth y.valid ++ spelled_names y.list

-- what a replica keeps beside its actions
unfoldable pub spelled_stable : Stable → List ℕ
spelled_stable s =
    spelled_prim s.prim ++ (number64 s.attempt_index
    ++ (optional spelled_vulnerable s.vulnerable ++ (spelled_yellow s.yellow ++ number64 s.created)))

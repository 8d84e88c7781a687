-- How records are read from the left.
use Rattle.std.specs.Prelude.{ℕ, ◌-◌, nat_lt, nat_le, ◌&&◌, List, Option, fold}
use Rattle.cg_base.specs.declared.limits.TheConstants.{LIST_LIMIT, NUMBER_LIMIT}
use Rattle.cg_base.specs.declared.action_id.ActionId.{ActionId}
use Rattle.cg_base.specs.declared.weighted.Weighted.{Weighted}
use Rattle.cg_base.specs.Weights.{ids}
use Rattle.cg_base.specs.Cuts.{creators_in}
use Rattle.cg_codec.specs.Reading.{Reading, ◌>>=◌, done, only, take_u8, take_u64, take_truth, take_optional, take_list}
use Rattle.cg_records.specs.declared.primary.Primary.{Primary}
use Rattle.cg_records.specs.declared.vulnerable.Vulnerable.{Vulnerable}
use Rattle.cg_records.specs.declared.yellow.Yellow.{Yellow}
use Rattle.cg_records.specs.declared.stable.Stable.{Stable}

-- a number below 2 ^ 63
unfoldable pub take_number : Reading ℕ
take_number left = only (λ n. nat_lt n NUMBER_LIMIT) take_u64 left

-- the index of an action
unfoldable pub take_index : Reading ℕ
take_index left = only (λ n. nat_lt 0 n && nat_lt n NUMBER_LIMIT) take_u64 left

-- an identifier of a replica that is above the given one
unfoldable pub take_id_above : ℕ → Reading ℕ
take_id_above last left = only (λ id. nat_lt last id && nat_le id 32) take_u8 left

-- the last of these identifiers, 0 where there is none
abbrev pub last_of : List ℕ → ℕ
last_of set = fold (λ _ id. id) 0 set

-- a set: each member is above the one before
unfoldable pub take_set : Reading (List ℕ)
take_set left = take_list 32 (λ taken. take_id_above (last_of taken)) left

-- a weight
unfoldable pub take_weight : Reading ℕ
take_weight left = only (nat_lt 0) take_u8 left

-- a member with its weight
unfoldable pub take_weighted_above : ℕ → Reading Weighted
take_weighted_above last left =
    (take_id_above last >>= λ id. take_weight >>= λ weight. done (record { id = id; weight = weight })) left

-- a set with weights
unfoldable pub take_weight_set : Reading (List Weighted)
take_weight_set left = take_list 32 (λ taken. take_weighted_above (last_of (ids taken))) left

-- the name of an action, of a creator above the given one
unfoldable pub take_name_above : ℕ → Reading ActionId
take_name_above last left =
    (take_id_above last >>= λ creator. take_index >>= λ index. done (record { creator = creator; index = index })) left

-- a cut
unfoldable pub take_cut : Reading (List ActionId)
take_cut left = take_list 32 (λ taken. take_name_above (last_of (creators_in taken))) left

-- names of actions, in any order
unfoldable pub take_names : Reading (List ActionId)
take_names left = take_list (LIST_LIMIT - 1) (λ _. take_name_above 0) left

-- a primary component
unfoldable pub take_prim : Reading Primary
take_prim left =
    (take_number >>= λ index. take_number >>= λ conf. take_weight_set >>= λ set.
    done (record { index = index; conf = conf; set = set })) left

-- a vulnerable record
unfoldable pub take_vulnerable : Reading Vulnerable
take_vulnerable left =
    (take_number >>= λ attempt. take_number >>= λ from. take_set >>= λ set. take_set >>= λ bits.
    done (record { attempt = attempt; from = from; set = set; bits = bits })) left

-- a vulnerable record, if there is one
unfoldable pub take_maybe_vulnerable : Reading (Option Vulnerable)
take_maybe_vulnerable left = take_optional take_vulnerable left

-- a yellow list
unfoldable pub take_yellow : Reading Yellow
take_yellow left = (take_truth >>= λ valid. take_names >>= λ list. done (record { valid = valid; list = list })) left

-- what a replica keeps beside its actions
unfoldable pub take_stable : Reading Stable
take_stable left =
    (take_prim >>= λ prim. take_number >>= λ attempt_index. take_maybe_vulnerable >>= λ vulnerable. take_yellow >>=
    λ yellow. take_number >>= λ created.
    done (record {
      prim = prim;
      attempt_index = attempt_index;
      vulnerable = vulnerable;
      yellow = yellow;
      created = created;
    })) left

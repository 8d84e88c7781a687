-- What commands ask of a world beside what its steps show: whether a replica creates requests, and places in the order.
use Rattle.std.specs.Prelude.{ℕ, suc, Bool, false, List, [], ◌∷◌, if◌then◌else◌}
use Rattle.std.specs.Option.{option_map_or}
use Rattle.cg_base.specs.declared.action_id.ActionId.{ActionId}
use Rattle.cg_base.specs.Ids.{same_id}
use Rattle.cg_client.specs.Requests.{is_creating}
use Rattle.cg_model.specs.World.{World, replica_of}

-- the replica is up, and creates a request at once
abbrev pub creates : World → ℕ → Bool
creates w p = option_map_or (λ r. is_creating r.state) (replica_of w p) false

-- the place of a name in the order, counted from 1; behind all others, where it doesn't stand there
abbrev pub place_of : List ActionId → ActionId → ℕ
place_of [] id = 1
place_of (next ∷ order) id = if same_id next id then 1 else suc (place_of order id)

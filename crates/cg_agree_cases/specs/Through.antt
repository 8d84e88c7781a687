-- What a test goes through: where there is a value, all replicas, all configurations, all cores.
use Rattle.std.specs.Prelude.{ℕ, Bool, true, false, ◌&&◌, List, Option, Some, None, map, length}
use Rattle.std.specs.List.{list_all}
use Rattle.cg_base.specs.Lists.{count_up, above_up_to}
use Rattle.cg_action.specs.declared.action.Action.{Action}
use Rattle.cg_client.specs.Replica.{Held}
use Rattle.cg_model.specs.World.{replica_of}
use Rattle.cg_model.specs.Step.{joiner_replica}
use Rattle.cg_model.specs.Chronicle.{Chronicle}
use Rattle.cg_model.specs.Looks.{greens_of, stood_of, disk_held, copied_for, ordered_in}

module _ {X : Type 0} where
  -- it holds of the value, if there is one
  abbrev pub if_some : Option X → (X → Bool) → Bool
  if_some None test = true
  if_some (Some x) test = test x

  -- there is a value, and it holds of it
  abbrev pub is_some_with : Option X → (X → Bool) → Bool
  is_some_with None test = false
  is_some_with (Some x) test = test x

-- the replicas that have begun, the configurations that were made, and the places of one
abbrev pub replicas_of : Chronicle → List ℕ
replicas_of c = map (λ s. s.id) c.world.nodes

abbrev pub confs_of : Chronicle → List ℕ
confs_of c = count_up 1 (length c.world.group.configurations)

abbrev pub places_of : Chronicle → ℕ → List ℕ
places_of c conf = above_up_to 0 (length (ordered_in c conf))

abbrev pub for_replicas : Chronicle → (ℕ → Bool) → Bool
for_replicas c test = list_all test (replicas_of c)

abbrev pub for_confs : Chronicle → (ℕ → Bool) → Bool
for_confs c test = list_all test (confs_of c)

-- of each configuration and each replica
abbrev pub for_both : Chronicle → (ℕ → ℕ → Bool) → Bool
for_both c test = for_confs c (λ conf. for_replicas c (test conf))

-- of what each replica has in memory, what each has on its disk, and what each snapshot makes of its joiner
abbrev pub for_cores : Chronicle → (Held → List Action → Bool) → Bool
for_cores c test =
    for_replicas c (λ p. if_some (replica_of c.world p) (λ r. test r.held (greens_of c p))
    && if_some (disk_held c.world p) (λ h. test h (stood_of c p)))
    && list_all (λ s. test (joiner_replica s.joiner s.content).held (copied_for c s.joiner)) c.world.snapshots

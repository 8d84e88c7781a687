-- Tests of the facts about greens.
use Rattle.std.specs.Prelude.{ℕ, suc, ◌+◌, ◌==◌, nat_le, Bool, true, ◌&&◌, List, ◌++◌, take, length}
use Rattle.std.specs.List.{list_all}
use Rattle.cg_base.specs.declared.action_id.ActionId.{ActionId}
use Rattle.cg_base.specs.Lists.{count_up}
use Rattle.cg_base.specs.Sets.{has}
use Rattle.cg_action.specs.declared.action.Action.{Action}
use Rattle.cg_queue.specs.Queue.{names_of}
use Rattle.cg_knowledge.specs.declared.summary.Summary.{Summary}
use Rattle.cg_group.specs.State.{delivered_to, phase_of}
use Rattle.cg_client.specs.Replica.{Held, State, RegPrim, TransPrim, Replica}
use Rattle.cg_model.specs.World.{replica_of}
use Rattle.cg_model.specs.Chronicle.{Attempt, Chronicle}
use Rattle.cg_model.specs.Looks.{greens_of, conf_at, ordered_in, received_by_all, attempt_of, attempt_at, top_of, installation}
use Rattle.cg_model.specs.Talk.{acts_in}
use Rattle.cg_model.specs.Levels.{line_at, count_in, reached_at, reach_at, is_frozen, is_evidence, names_with}
use Rattle.cg_model.specs.FactsReplica.{has_installed, is_primary}
use Rattle.cg_model.specs.Smalls.{implies}
use Rattle.cg_agree_cases.specs.Same.{same_actions, front_actions, front_ids}
use Rattle.cg_agree_cases.specs.Through.{if_some, for_replicas, for_both, for_cores}

abbrev pub begins_with : Chronicle → Bool
begins_with c = for_cores c (λ h greens. front_actions (installation (attempt_at c h.prim.index)) greens)

abbrev is_handed_green : Chronicle → ℕ → Attempt → State → Bool
is_handed_green c p a RegPrim =
    same_actions (greens_of c p) (installation a ++ acts_in (take (delivered_to c.world.group p) (ordered_in c a.conf)))
is_handed_green c p a _ = true

abbrev is_on_line : Chronicle → ℕ → Replica → Bool
is_on_line c p r =
    let a = attempt_at c r.held.prim.index in
    (a.conf == conf_at (phase_of c.world.group p)) && has a.set p && is_handed_green c p a r.state

abbrev pub primary_greens : Chronicle → Bool
primary_greens c =
    for_replicas c (λ p. if_some (replica_of c.world p) (λ r. implies (is_primary r.state) (is_on_line c p r)))

abbrev pub installed_count : Chronicle → Bool
installed_count c =
    for_both c (λ conf p. if_some (attempt_of c conf) (λ a. implies (has_installed a p)
    (nat_le (length (installation a)) (count_in c a p)
    && nat_le (count_in c a p) (length (installation a)
    + length (acts_in (take (received_by_all c conf) (ordered_in c conf)))))))

abbrev pub spine : Chronicle → Bool
spine c = list_all (λ level. front_actions (reach_at c level) (installation (attempt_at c (suc level)))
    && is_frozen c level) (count_up 0 (top_of c))

abbrev pub one_order : Chronicle → Bool
one_order c = for_cores c (λ h greens. front_actions greens (line_at c (top_of c))
    && nat_le (length greens) (reached_at c (top_of c)))

abbrev covers_level : Chronicle → ℕ → List ActionId → Bool
covers_level c level ids = is_frozen c level && front_ids (names_of (reach_at c level)) ids

abbrev covers_as_yellow : Chronicle → Held → List Action → State → Bool
covers_as_yellow c h greens TransPrim = covers_level c h.prim.index (names_of greens ++ h.queue.yellow)
covers_as_yellow c h greens _ = true

abbrev pub trans_coverage : Chronicle → Bool
trans_coverage c =
    for_replicas c (λ p. if_some (replica_of c.world p) (λ r. covers_as_yellow c r.held (greens_of c p) r.state))

abbrev covers : Chronicle → List ActionId → Bool
covers c ids = covers_level c (top_of c) ids

abbrev is_covering : Chronicle → Held → List Action → Bool
is_covering c h greens =
    implies (is_evidence c h.id h.prim.index h.yellow_valid h.vulnerable) (covers
    c (names_with greens h.yellow_valid h.queue.yellow))

abbrev is_covering_as_told : Chronicle → Summary → List Action → Bool
is_covering_as_told c s greens =
    implies (is_evidence c s.id s.prim.index s.yellow.valid s.vulnerable) (covers
    c (names_with greens s.yellow.valid s.yellow.list))

abbrev pub coverage : Chronicle → Bool
coverage c =
    for_cores c (is_covering c) && list_all (λ t. is_covering_as_told c t.summary t.greens) c.told
    && list_all (λ a. implies (a.from == top_of c) (covers c (names_of (a.greens ++ a.yellow)))) c.attempts

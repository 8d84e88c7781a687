-- Tests of the facts about attempts.
use Rattle.std.specs.Prelude.{ℕ, suc, ◌==◌, nat_lt, nat_le, Bool, true, not, ◌&&◌, ◌||◌, List, [], ◌∷◌, Option, Some, None, is_none, find, filter_map, length}
use Rattle.std.specs.List.{list_all}
use Rattle.cg_base.specs.Calls.{same_ids}
use Rattle.cg_base.specs.Lists.{at_place, count_up}
use Rattle.cg_base.specs.Sets.{has, is_within}
use Rattle.cg_base.specs.Text.{is_nil}
use Rattle.cg_action.specs.declared.action.Action.{Action}
use Rattle.cg_queue.specs.Queue.{names_of}
use Rattle.cg_records.specs.contracts.primary.PrimaryPartialEq.TheImpl.{ghosts as primary}
use Rattle.cg_records.specs.declared.vulnerable.Vulnerable.{Vulnerable}
use Rattle.cg_vote.specs.Quorum.{is_quorum}
use Rattle.cg_knowledge.specs.declared.summary.Summary.{Summary}
use Rattle.cg_knowledge.specs.Summaries.{remaining}
use Rattle.cg_knowledge.specs.Primary.{newest_index}
use Rattle.cg_knowledge.specs.Yellow.{common_yellow}
use Rattle.cg_knowledge.specs.Verdict.{decides}
use Rattle.cg_group.specs.State.{phase_of}
use Rattle.cg_client.specs.Replica.{Held, State}
use Rattle.cg_client.specs.Install.{valid_yellow}
use Rattle.cg_client.specs.Queries.{plain_reds}
use Rattle.cg_model.specs.World.{replica_of}
use Rattle.cg_model.specs.Chronicle.{Attempt, Chronicle}
use Rattle.cg_model.specs.Looks.{greens_of, core_of, is_in, is_regular_in, conf_at, members_in, said_in, received_by_all, attempt_of, top_of, left_count}
use Rattle.cg_model.specs.Talk.{is_ended, announcer_in, act_in}
use Rattle.cg_model.specs.Levels.{prim_at, announced_at, is_installed, is_dead}
use Rattle.cg_model.specs.FactsTalk.{whole_talk}
use Rattle.cg_model.specs.FactsReplica.{has_installed, is_attempting}
use Rattle.cg_model.specs.FactsExchange.{best_told}
use Rattle.cg_model.specs.FactsAttempts.{red_names, entered_in, installed_in, is_no, is_without}
use Rattle.cg_model.specs.Smalls.{implies}
use Rattle.cg_agree_cases.specs.Same.{same_actions, same_numbers}
use Rattle.cg_agree_cases.specs.Through.{if_some, is_some_with, for_replicas, for_confs, for_both, for_cores}
use Rattle.cg_agree_cases.specs.TestsExchange.{has_record}

abbrev are_parts : Chronicle → List Summary → Attempt → Bool
are_parts c heard a =
    (a.from == newest_index heard) && same_numbers a.set (remaining heard)
    && is_some_with (best_told c a.conf heard) (λ best. same_actions a.greens best.greens)
    && same_ids (names_of a.yellow) (common_yellow heard).list && same_ids (names_of a.reds) (red_names heard)

abbrev is_attempt : Chronicle → ℕ → Attempt → Bool
is_attempt c conf a =
    let t = whole_talk c conf in
    is_ended (members_in c conf) t && decides t.heard && are_parts c t.heard a && is_within a.entered a.set
    && is_within a.installed a.entered
    && nat_le a.from (top_of c) && is_quorum (prim_at c a.from).set a.set

abbrev pub attempt_shape : Chronicle → Bool
attempt_shape c = for_confs c (λ conf. if_some (attempt_of c conf) (is_attempt c conf))

abbrev holds_parts : Held → List Action → Attempt → Bool
holds_parts h greens a = same_actions greens a.greens && same_actions (valid_yellow h) a.yellow
    && same_actions (plain_reds h.queue) a.reds

abbrev pub attempt_list : Chronicle → Bool
attempt_list c =
    for_replicas c (λ p. if_some (replica_of c.world p) (λ r. implies (is_attempting r.state)
    (is_some_with (attempt_of c (conf_at (phase_of c.world.group p))) (holds_parts r.held (greens_of c p)))))

abbrev pub yellow_valid : Chronicle → Bool
yellow_valid c =
    for_replicas
    c (λ p. if_some (replica_of c.world p) (λ r. implies (is_attempting r.state
    && not r.held.yellow_valid) (is_nil r.held.queue.yellow)))

abbrev pub left_out : Chronicle → Bool
left_out c =
    for_both c (λ conf p. implies (is_in c conf p)
    (if_some (attempt_of c conf) (λ a. is_none (find (λ l. l.member == p) a.left))))

-- the level was opened by an attempt from the one before it
abbrev is_opened : Chronicle → ℕ → Bool
is_opened c level =
    is_some_with (at_place c.levels level)
    (λ conf. is_some_with (attempt_of c conf) (λ a. (suc a.from == level) && is_installed a))

-- an attempt that was installed has opened the next level
abbrev opens : Chronicle → ℕ → Attempt → Bool
opens c conf a = implies (is_installed a) (is_some_with (at_place c.levels (suc a.from)) (λ k. k == conf))

abbrev pub levels_stand : Chronicle → Bool
levels_stand c =
    list_all (is_opened c) (count_up 1 (top_of c)) && for_confs c (λ conf. if_some (attempt_of c conf) (opens c conf))
    && for_cores c (λ h greens. nat_le h.prim.index (top_of c) && primary.eq h.prim (prim_at c h.prim.index))

abbrev pub announced_entered : Chronicle → Bool
announced_entered c = for_both c (λ conf p. is_nil (filter_map announcer_in (said_in c conf p)) || entered_in c conf p)

abbrev pub installed_announced : Chronicle → Bool
installed_announced c =
    for_both c (λ conf p. implies (installed_in c conf) (if_some (attempt_of c conf) (λ a. implies (has a.set p)
    (nat_lt 0 (announced_at c conf p) && nat_le (announced_at c conf p) (received_by_all c conf)))))

abbrev pub act_installed : Chronicle → Bool
act_installed c =
    for_both c (λ conf p. implies (decides (whole_talk c conf).heard) (is_nil (filter_map act_in (said_in c conf p))
    || installed_in c conf))

abbrev pub record_of_attempt : Chronicle → Bool
record_of_attempt c = for_cores c (λ h greens. has_record c h.id h.prim.index h.vulnerable)

abbrev is_past : Chronicle → ℕ → Attempt → Bool
is_past c p a =
    if_some (core_of c p) (λ h. implies (has_installed a p) (nat_lt a.from h.prim.index))
    && nat_le (left_count a p) (length (greens_of c p))

abbrev pub installed_index : Chronicle → Bool
installed_index c = for_both c (λ conf p. if_some (attempt_of c conf) (is_past c p))

abbrev is_witnessed : Chronicle → Attempt → ℕ → ℕ → ℕ → Bool
is_witnessed c a count index p = not (is_in c a.conf p) && nat_le (left_count a p) count
    && implies (has_installed a p) (nat_lt a.from index)

abbrev are_witnessed : Chronicle → ℕ → ℕ → List ℕ → Option Vulnerable → Bool
are_witnessed c count index but None = true
are_witnessed c count index but (Some v) =
    list_all (λ p. has but p || is_some_with (attempt_of c v.attempt) (λ a. is_witnessed c a count index p)) v.bits

abbrev pub bits_witness : Chronicle → Bool
bits_witness c =
    for_cores c (λ h greens. are_witnessed c (length greens) h.prim.index (h.id ∷ []) h.vulnerable)
    && list_all (λ t. are_witnessed c (length t.greens) t.summary.prim.index [] t.summary.vulnerable) c.told

-- a member, a summary and a state show that the attempt is over
abbrev is_over_by : Chronicle → ℕ → Attempt → Bool
is_over_by c p a =
    implies (not (is_regular_in c a.conf p))
    (if_some (core_of c p) (λ h. implies (is_without a p h.prim.index h.vulnerable) (is_dead c a)))

abbrev is_over_as_told : Chronicle → Summary → Attempt → Bool
is_over_as_told c s a = implies (nat_lt a.conf s.conf && is_without a s.id s.prim.index s.vulnerable) (is_dead c a)

abbrev is_cut_short : Chronicle → ℕ → State → Bool
is_cut_short c p state =
    implies (is_no state) (is_some_with (attempt_of c (conf_at (phase_of c.world.group p))) (is_dead c))

abbrev pub dead_evidence : Chronicle → Bool
dead_evidence c =
    for_replicas c (λ p. list_all (is_over_by c p) c.attempts
    && if_some (replica_of c.world p) (λ r. is_cut_short c p r.state))
    && list_all (λ t. list_all (is_over_as_told c t.summary) c.attempts) c.told

abbrev pub one_attempt : Chronicle → Bool
one_attempt c =
    list_all (λ a. list_all (λ b. implies (nat_lt a.conf b.conf && (a.from == b.from)) (is_dead c a)) c.attempts)
    c.attempts

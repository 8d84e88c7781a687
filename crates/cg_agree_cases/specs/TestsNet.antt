-- Tests of the facts about the group.
use Rattle.std.specs.Prelude.{ℕ, ◌-◌, ◌==◌, nat_lt, nat_le, Bool, true, not, ◌&&◌, ◌||◌, ◌++◌, map, length, is_some}
use Rattle.std.specs.List.{list_all}
use Rattle.std.specs.Bool.{beq}
use Rattle.cg_base.specs.Lists.{above_up_to}
use Rattle.cg_base.specs.Text.{is_nil}
use Rattle.cg_members.specs.Servers.{members_of, was_ever}
use Rattle.cg_group.specs.declared.phase.Phase.{Phase}
use Rattle.cg_group.specs.declared.phase.Phase.TheVariants.{Regular, Transitional}
use Rattle.cg_group.specs.State.{phase_of, is_up, is_regular, delivered_to, unordered_of, has_received}
use Rattle.cg_group.specs.Refusals.{sender_at}
use Rattle.cg_model.specs.World.{has_begun, replica_of}
use Rattle.cg_model.specs.Chronicle.{Chronicle}
use Rattle.cg_model.specs.Looks.{stood_of, disk_held, snapshots_for, copies_for, told_in, is_regular_in, is_in, conf_of, ordered_in, members_in, is_member, received_by_all}
use Rattle.cg_model.specs.Smalls.{implies}
use Rattle.cg_agree_cases.specs.Same.{same_numbers}
use Rattle.cg_agree_cases.specs.Through.{is_some_with, replicas_of, places_of, for_replicas, for_confs, for_both}

abbrev is_phase : Chronicle → ℕ → ℕ → Phase → Bool
is_phase c p delivered (Regular conf) = is_member c conf p && nat_le delivered (length (ordered_in c conf))
is_phase c p delivered (Transitional conf set) = is_member c conf p
is_phase c p delivered _ = true

abbrev pub phase_sound : Chronicle → Bool
phase_sound c =
    for_replicas c (λ p. is_phase c p (delivered_to c.world.group p) (phase_of c.world.group p)
    && beq (is_some (replica_of c.world p)) (is_up c.world.group p))

abbrev pub receipts_inside : Chronicle → Bool
receipts_inside c =
    for_confs c (λ conf. (let k = conf_of c conf in
    (length k.received == length k.ordered) && list_all (λ set. list_all (is_member c conf) set) k.received
    && list_all (λ place. has_received k (sender_at k place) place) (places_of c conf)))

abbrev pub sender_closed : Chronicle → Bool
sender_closed c =
    for_both c (λ conf p. (let k = conf_of c conf in
    list_all (λ place. implies (has_received k p place)
    (list_all (λ earlier. implies (sender_at k earlier == sender_at k place) (has_received k p earlier))
    (above_up_to 0 (place - 1))))
    (places_of c conf)))

abbrev pub handed_received : Chronicle → Bool
handed_received c =
    for_both c (λ conf p. implies (is_regular_in c conf p)
    (nat_le (delivered_to c.world.group p) (received_by_all c conf)))

abbrev pub unordered_regular : Chronicle → Bool
unordered_regular c = for_replicas c (λ p. is_regular c.world.group p || is_nil (unordered_of c.world.group p))

abbrev pub members_begun : Chronicle → Bool
members_begun c =
    for_confs c (λ conf. list_all (has_begun c.world) (members_in c conf))
    && for_replicas c (λ p. was_ever (members_of c.start (stood_of c p)) p)
    && list_all (λ t. was_ever (members_of c.start t.greens) t.summary.id) c.told

abbrev pub past_left : Chronicle → Bool
past_left c =
    for_both c (λ conf p. implies (is_some (told_in c conf p))
    (is_member c conf p && for_confs c (λ earlier. implies (nat_lt earlier conf) (not (is_in c earlier p)))))

-- each joiner has one snapshot at most, and with it the greens that its giver had
abbrev is_copied : Chronicle → ℕ → Bool
is_copied c joiner =
    let snapshots = snapshots_for c.world joiner in
    same_numbers (map (λ x. x.giver) (copies_for c joiner)) (map (λ s. s.giver) snapshots)
    && nat_le (length snapshots) 1

-- there is nothing but the world
abbrev is_untold : Chronicle → Bool
is_untold c =
    is_nil c.start && is_nil c.pasts && is_nil c.told && is_nil c.attempts && is_nil c.levels
    && is_nil c.copies && is_nil c.book
    && is_nil c.world.group.configurations && is_nil c.world.group.replicas
    && is_nil c.world.snapshots && is_nil c.world.order

abbrev pub hosted : Chronicle → Bool
hosted c =
    same_numbers (map (λ x. x.id) c.pasts) (replicas_of c)
    && for_replicas c (λ p. is_some_with (disk_held c.world p) (λ h. h.id == p))
    && list_all (is_copied c) (map (λ x. x.joiner) c.copies ++ map (λ s. s.joiner) c.world.snapshots)
    && implies (is_nil c.world.nodes) (is_untold c)

abbrev pub receipts_fixed : Chronicle → Chronicle → Bool
receipts_fixed c d =
    for_both c (λ conf p. implies (nat_lt 0 (length (ordered_in c conf)) && not (is_regular_in c conf p))
    (not (is_regular_in d conf p)
    && list_all (λ place. beq (has_received (conf_of d conf) p place) (has_received (conf_of c conf) p
    place)) (places_of d conf)))

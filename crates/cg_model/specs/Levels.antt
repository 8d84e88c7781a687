-- Levels: what can still become green in each primary component, and what the evidence for it is.
use Rattle.std.specs.Prelude.{ℕ, suc, ◌+◌, ◌==◌, nat_lt, Bool, false, not, ◌&&◌, ◌||◌, List, [], ◌∷◌, ◌++◌, Option, map, take, length, is_some, if◌then◌else◌}
use Rattle.std.specs.Option.{option_map_or}
use Rattle.std.specs.List.{list_any, list_all}
use Rattle.cg_base.specs.declared.action_id.ActionId.{ActionId}
use Rattle.cg_base.specs.Lists.{greatest}
use Rattle.cg_base.specs.Sets.{has}
use Rattle.cg_action.specs.declared.action.Action.{Action}
use Rattle.cg_members.specs.Servers.{members_of}
use Rattle.cg_queue.specs.Queue.{names_of}
use Rattle.cg_records.specs.declared.primary.Primary.{Primary}
use Rattle.cg_records.specs.declared.vulnerable.Vulnerable.{Vulnerable}
use Rattle.cg_wire.specs.declared.message.Msg.{Msg}
use Rattle.cg_group.specs.State.{Sent, has_received}
use Rattle.cg_client.specs.Install.{weighted}
use Rattle.cg_model.specs.Chronicle.{Attempt, Chronicle}
use Rattle.cg_model.specs.Looks.{greens_of, is_regular_in, is_in, conf_of, members_in, ordered_in, received_outside, top_of, attempt_at, installation, left_count}
use Rattle.cg_model.specs.Talk.{announcer_in, acts_in}

-- the primary component of a level
abbrev pub prim_of : Chronicle → ℕ → Attempt → Primary
prim_of c level a = record { index = level; conf = a.conf; set = weighted (members_of c.start a.greens) a.set }

abbrev pub prim_at : Chronicle → ℕ → Primary
prim_at c level = if level == 0 then record { index = 0; conf = 0; set = c.start }
    else prim_of c level (attempt_at c level)

-- what the members of a level mark green there one after another: the installation, and then the configuration's actions
abbrev pub line_at : Chronicle → ℕ → List Action
line_at c level = let a = attempt_at c level in installation a ++ acts_in (ordered_in c a.conf)

-- the green count that a member has, or had as it left
abbrev pub count_in : Chronicle → Attempt → ℕ → ℕ
count_in c a p = if is_in c a.conf p then length (greens_of c p) else left_count a p

-- the greatest green count that a member really had in the level's configuration
abbrev pub reached_in : Chronicle → Attempt → ℕ
reached_in c a = greatest (map (count_in c a) a.installed)

abbrev pub reached_at : Chronicle → ℕ → ℕ
reached_at c level = reached_in c (attempt_at c level)

-- a member is regular in the configuration still
abbrev pub is_live : Chronicle → Attempt → Bool
is_live c a = list_any (is_regular_in c a.conf) a.set

-- how far a member can still mark green in the level's configuration, one that installs it late included
abbrev pub bound_in : Chronicle → Attempt → ℕ
bound_in c a =
    if is_live c a then length (installation a)
    + length (acts_in (take (received_outside c a.conf) (ordered_in c a.conf)))
    else reached_in c a

abbrev pub bound_at : Chronicle → ℕ → ℕ
bound_at c level = bound_in c (attempt_at c level)

-- all that is or can still become green in the level's configuration
abbrev pub reach_at : Chronicle → ℕ → List Action
reach_at c level = take (bound_at c level) (line_at c level)

-- a member isn't regular there any more, so that it can't reach further than that member has received
abbrev pub is_frozen_in : Chronicle → ℕ → Bool
is_frozen_in c conf = not (list_all (is_regular_in c conf) (members_in c conf))

abbrev pub is_frozen : Chronicle → ℕ → Bool
is_frozen c level = (level == 0) || is_frozen_in c (attempt_at c level).conf

-- ---- attempts that are over

-- the place of a member's announcement, 0 where it has none
abbrev pub announced_from : ℕ → List (Sent Msg) → ℕ → ℕ
announced_from place [] p = 0
announced_from place (s ∷ ordered) p = if (s.from == p) && is_some (announcer_in s.message) then suc place
    else announced_from (suc place) ordered p

abbrev pub announced_at : Chronicle → ℕ → ℕ → ℕ
announced_at c conf p = announced_from 0 (ordered_in c conf) p

-- the member has received no announcement of that one
abbrev pub lacks_announcement : Chronicle → ℕ → ℕ → ℕ → Bool
lacks_announcement c conf p q = let place = announced_at c conf q in
    (place == 0) || not (has_received (conf_of c conf) p place)

-- the member isn't regular there, and lacks an announcement
abbrev pub is_out_lacking : Chronicle → Attempt → ℕ → Bool
is_out_lacking c a p = not (is_regular_in c a.conf p) && list_any (lacks_announcement c a.conf p) a.set

abbrev pub is_installed : Attempt → Bool
is_installed a = nat_lt 0 (length a.installed)

-- nobody has installed the attempt, and nobody can any more
abbrev pub is_dead : Chronicle → Attempt → Bool
is_dead c a = not (is_installed a) && (list_any (is_out_lacking c a) a.set || not (is_live c a))

-- ---- evidence

abbrev pub is_record_of : ℕ → Option Vulnerable → Bool
is_record_of conf v = option_map_or (λ r. r.attempt == conf) v false

-- who knows what the newest primary component may have made green: it is of that index, and its yellow list is valid, or it
-- was a member and has no record of the attempt any more
abbrev pub is_evidence : Chronicle → ℕ → ℕ → Bool → Option Vulnerable → Bool
is_evidence c p index yellow_valid v =
    let a = attempt_at c (top_of c) in
    (index == top_of c) && (yellow_valid || (has a.set p && not (is_record_of a.conf v)))

-- the names of greens, and of the yellow actions where these count
abbrev pub names_with : List Action → Bool → List ActionId → List ActionId
names_with greens yellow_valid yellow = names_of greens ++ (if yellow_valid then yellow else [])

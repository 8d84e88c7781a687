-- The servers, their lines and weights, and those that have left.
use Rattle.std.specs.Prelude.{ℕ, suc, max, min, ◌==◌, nat_lt, Bool, not, ◌||◌, List, [], ◌∷◌, Option, map, filter, if◌then◌else◌}
use Rattle.std.specs.List.{list_any}
use Rattle.cg_base.specs.declared.weighted.Weighted.{Weighted}
use Rattle.cg_base.specs.Sets.{has, with_member}
use Rattle.cg_base.specs.Lists.{least_of}
use Rattle.cg_action.specs.declared.action.Kind.{Kind}
use Rattle.cg_action.specs.declared.action.Kind.TheVariants.{Update, Join, Leave}
use Rattle.cg_action.specs.declared.action.Action.{Action}
use Rattle.cg_members.specs.declared.server.Server.{Server}
use Rattle.cg_members.specs.Members.{Members}

-- ---- servers

-- the replica is one of the servers
abbrev pub is_among : List Server → ℕ → Bool
is_among servers p = list_any (λ s. s.id == p) servers

-- the weight of a server, 0 where it is none
abbrev pub weight_of : List Server → ℕ → ℕ
weight_of [] p = 0
weight_of (s ∷ servers) p = if s.id == p then s.weight else weight_of servers p

-- a server of the start, with line 0
abbrev pub first_line : Weighted → Server
first_line m = record { id = m.id; line = 0; weight = m.weight }

-- the servers with this one among them, in place of one that has its name
abbrev pub with_server : List Server → Server → List Server
with_server [] new = new ∷ []
with_server (s ∷ servers) new =
    if new.id == s.id then new ∷ servers else if nat_lt new.id s.id then new ∷ s ∷ servers
    else s ∷ with_server servers new

-- the servers without the replica
abbrev pub without_server : List Server → ℕ → List Server
without_server servers p = filter (λ s. not (s.id == p)) servers

-- a server is known to have reached a green count
abbrev pub with_line : ℕ → ℕ → Server → Server
with_line p line s = if s.id == p then record s { line = max s.line line } else s

-- ---- members

-- at the start: the given servers, each with line 0
abbrev pub starting : List Weighted → Members
starting set = record { servers = map first_line set; left = [] }

-- the replica is a server
abbrev pub is_server : Members → ℕ → Bool
is_server m p = is_among m.servers p

-- the replica is or was a server
abbrev pub was_ever : Members → ℕ → Bool
was_ever m p = is_server m p || has m.left p

-- a join that has become green: a replica that neither is nor was a server becomes one, with its place as its line
abbrev pub with_joiner : Members → ℕ → ℕ → ℕ → Members
with_joiner m p weight place =
    if was_ever m p then m
    else record m { servers = with_server m.servers (record { id = p; line = place; weight = weight }) }

-- a leave that has become green: a server becomes one that has left
abbrev pub departed : Members → ℕ → Members
departed m p = if is_server m p then record { servers = without_server m.servers p; left = with_member m.left p } else m

-- the servers with one line raised
abbrev pub raise_line : Members → ℕ → ℕ → Members
raise_line m p line = record m { servers = map (with_line p line) m.servers }

-- the join or leave of an action
abbrev pub after_kind : Members → ℕ → Kind → Members
after_kind m place (Update cmds query) = m
after_kind m place (Join joiner weight) = with_joiner m joiner weight place
after_kind m place (Leave server) = departed m server

-- after an action has become green at a place
abbrev pub after_green : Members → ℕ → Action → Members
after_green m place action = raise_line (after_kind m place action.kind) action.id.creator (min action.green_line place)

-- after actions have become green at places in a row
abbrev pub after_greens : Members → ℕ → List Action → Members
after_greens m place [] = m
after_greens m place (action ∷ actions) = after_greens (after_green m place action) (suc place) actions

-- the members that a list of green actions makes of those of the start
abbrev pub members_of : List Weighted → List Action → Members
members_of set greens = after_greens (starting set) 1 greens

-- the greens that every server is known to have: the least line, if there is a server
abbrev pub white_line : Members → Option ℕ
white_line m = least_of (map (λ s. s.line) m.servers)

-- The lines of servers stay within the limits.
use Rattle.std.specs.Prelude.{◌≤◌, ◌<◌, ◌^◌, ◌==◌, nat_lt, min, not, ℕ, Bool, true, false, List, [], ◌∷◌, map, if◌then◌else◌}
use Rattle.std.proofs.Common.{arith}
use Rattle.cg_base.specs.declared.weighted.Weighted.{Weighted}
use Rattle.cg_action.specs.declared.action.Action.{Action}
use Rattle.cg_action.specs.declared.action.Kind.{Kind}
use Rattle.cg_action.specs.declared.action.Kind.TheVariants.{Update, Join, Leave}
use Rattle.cg_members.specs.declared.server.Server.{Server}
use Rattle.cg_members.specs.Members.{Members}
use Rattle.cg_members.specs.Servers.{first_line, with_server, with_line, was_ever, is_server, after_kind, after_green}
use Rattle.cg_base.specs.Lists.{Each}
use Rattle.cg_records.specs.Limits.{IsNumber}
use Rattle.cg_client.proofs.Keeping.{Each-filter}

-- each line has bytes
abbrev pub Lined : List Server → Type 0
Lined servers = Each (λ server. IsNumber server.line) servers

lined_if : (b : Bool) (s t : List Server) → Lined s → Lined t → Lined (if b then s else t)
lined_if true s t ks kt = ks
lined_if false s t ks kt = kt

members_if : (b : Bool) (m n : Members) → Lined m.servers → Lined n.servers → Lined (if b then m else n).servers
members_if true m n km kn = km
members_if false m n km kn = kn

pub start-lined : (set : List Weighted) → Lined (map first_line set)
start-lined [] = tt
start-lined (m ∷ set) = (omega arith, start-lined set)

with_server-lined : (servers : List Server) (new : Server) → IsNumber new.line → Lined servers → Lined (with_server servers new)
with_server-lined [] new small all = (small, tt)
with_server-lined (s ∷ servers) new small all =
    lined_if (new.id == s.id) _ _ (small, all.1)
    (lined_if (nat_lt new.id s.id) _ _ (small, all) (all.0, with_server-lined servers new small all.1))

number_if : (b : Bool) (s t : Server) → IsNumber s.line → IsNumber t.line → IsNumber (if b then s else t).line
number_if true s t ks kt = ks
number_if false s t ks kt = kt

with_line-lined : (p line : ℕ) (servers : List Server) → IsNumber line → Lined servers → Lined (map (with_line p line) servers)
with_line-lined p line [] small all = tt
with_line-lined p line (s ∷ servers) small all =
    let own : s.line < 2 ^ 63 = all.0 in
    (number_if (s.id == p) _ _ (omega arith) own, with_line-lined p line servers small all.1)

kind-lined : (m : Members) (place : ℕ) (kind : Kind) → IsNumber place → Lined m.servers → Lined (after_kind m place kind).servers
kind-lined m place (Update cmds query) small all = all
kind-lined m place (Join joiner weight) small all =
    members_if (was_ever m joiner) _ _ all (with_server-lined m.servers (record { id = joiner; line = place; weight = weight }) small all)
kind-lined m place (Leave server) small all =
    members_if (is_server m server) _ _ (Each-filter (λ s. not (s.id == server)) (λ s. IsNumber s.line) m.servers all) all

pub green-lined : (m : Members) (place : ℕ) (a : Action) → place ≤ 2 ^ 62 → Lined m.servers → Lined (after_green m place a).servers
green-lined m place a few all =
    let small : place < 2 ^ 63 = omega arith in
    with_line-lined a.id.creator (min a.green_line place) (after_kind m place a.kind).servers (omega arith) (kind-lined m place a.kind small all)

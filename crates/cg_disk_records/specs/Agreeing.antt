-- Whether the parts of a checkpoint agree.
use Rattle.std.specs.Prelude.{◌≡◌, ℕ, ◌-◌, ◌==◌, nat_eq, nat_le, Bool, true, not, ◌&&◌, List, [], ◌∷◌, length, map, filter, fold, sum_by, IsTrue}
use Rattle.std.specs.List.{list_all}
use Rattle.std.specs.Cmp.Lexicographic.{pointwise}
use Rattle.cg_base.specs.Ids.{id_before}
use Rattle.cg_base.specs.Cuts.{index_in, raise}
use Rattle.cg_base.specs.Lists.{above_up_to}
use Rattle.cg_base.specs.Sets.{has}
use Rattle.cg_base.specs.Replicas.{every_replica}
use Rattle.cg_action.specs.declared.action.Action.{Action}
use Rattle.cg_members.specs.declared.server.Server.{Server}
use Rattle.cg_queue.specs.Queue.{QueueView, green_count, names_of}
use Rattle.cg_client.specs.Replica.{created}
use Rattle.cg_disk_records.specs.Stored.{Stored}
use Rattle.cg_disk_records.specs.Following.{are_yellow}

-- the indexes of a creator's actions, in the order of the list
abbrev pub indexes_of : List Action → ℕ → List ℕ
indexes_of actions p = map (λ a. a.id.index) (filter (λ a. a.id.creator == p) actions)

-- the numbers count up, the last one as given
abbrev pub count_to : ℕ → List ℕ → Bool
count_to last ns = pointwise nat_eq ns (above_up_to (last - length ns) last)

-- each creator's kept greens count up to its green cut, and its reds from there to its red cut
abbrev pub counts_up : QueueView → ℕ → Bool
counts_up q p =
    count_to (index_in q.green_cut p) (indexes_of q.greens p)
    && pointwise nat_eq (indexes_of q.reds p) (above_up_to (index_in q.green_cut p) (index_in q.red_cut p))

-- the actions stand by name
abbrev pub is_by_name : List Action → Bool
is_by_name [] = true
is_by_name (a ∷ []) = true
is_by_name (a ∷ b ∷ rest) = id_before a.id b.id && is_by_name (b ∷ rest)

-- the own actions are the replica's, and count up from its red cut
abbrev pub are_own : Stored → Bool
are_own s =
    list_all (λ a. a.id.creator == s.id) s.own
    && pointwise nat_eq (map (λ a. a.id.index) s.own) (above_up_to (index_in s.queue.red_cut s.id) (created s))

-- a server's line is at most the green count, and it hasn't left
abbrev pub is_present : ℕ → List ℕ → Server → Bool
is_present count left x = nat_le x.line count && not (has left x.id)

-- the parts of a checkpoint agree
pub record Agrees (s : Stored) : Type 0 where
  pub members : IsTrue (list_all (is_present (green_count s.queue) s.members.left) s.members.servers)
  pub count : sum_by (λ top. top.index) s.queue.green_cut ≡ green_count s.queue
  pub each : IsTrue (list_all (counts_up s.queue) every_replica)
  pub red_cut : s.queue.red_cut ≡ fold raise s.queue.green_cut (names_of s.queue.reds)
  pub by_name : IsTrue (is_by_name s.queue.reds)
  pub yellow : IsTrue (are_yellow s.queue s.queue.yellow)
  pub own : IsTrue (are_own s)
  pub buffered : s.buffered ≡ []
  pub owed : s.owed ≡ []

-- What holds of what a replica holds, whatever comes to it: its actions go on one behind another.
use Rattle.std.specs.Prelude.{◌≡◌, ℕ, suc, ◌+◌, ◌≤◌, ◌==◌, Bool, true, ◌&&◌, List, [], ◌∷◌, fold, length, sum_by, IsTrue}
use Rattle.std.specs.List.{list_all}
use Rattle.cg_base.specs.declared.action_id.ActionId.{ActionId}
use Rattle.cg_base.specs.Cuts.{index_in, raise}
use Rattle.cg_base.specs.Ids.{id_before}
use Rattle.cg_members.specs.Laws.{AreApart}
use Rattle.cg_queue.specs.Queue.{green_count, names_of}
use Rattle.cg_client.specs.Replica.{Held}
use Rattle.cg_disk_records.specs.Following.{are_yellow}
use Rattle.cg_disk_records.specs.Agreeing.{indexes_of}

-- each of these names is the next of its creator, behind a cut
abbrev pub run_on : List ActionId → List ActionId → Bool
run_on cut [] = true
run_on cut (id ∷ ids) = (id.index == suc (index_in cut id.creator)) && run_on (raise cut id) ids

-- the cut behind these names
abbrev pub cut_behind : List ActionId → List ActionId → List ActionId
cut_behind cut ids = fold raise cut ids

-- each name comes before the next
abbrev pub ascend : List ActionId → Bool
ascend [] = true
ascend (id ∷ []) = true
ascend (id ∷ next ∷ ids) = id_before id next && ascend (next ∷ ids)

-- the creators of a cut ascend, from this number on
abbrev pub Rising : ℕ → List ActionId → Type 0
Rising low [] = Unit {0}
Rising low (top ∷ cut) = (low ≤ top.creator) × Rising (suc top.creator) cut

-- the numbers count up to the last one, and 0 isn't among them
abbrev pub CountsTo : ℕ → List ℕ → Type 0
CountsTo last [] = Unit {0}
CountsTo last (n ∷ ns) = (1 ≤ n) × (n + length ns ≡ last) × CountsTo last ns

-- each creator's kept greens count up to the green cut, which counts all greens; the reds go on from there, by name, and
-- lead to the red cut; the own actions go on behind that; the yellow names are those of reds, each once; and no server has
-- left or has a line above the greens
pub record Holds (h : Held) : Type 0 where
  pub rising : Rising 0 h.queue.green_cut
  pub greens : (p : ℕ) → CountsTo (index_in h.queue.green_cut p) (indexes_of h.queue.greens p)
  pub count : sum_by (λ top. top.index) h.queue.green_cut ≡ green_count h.queue
  pub red_cut : h.queue.red_cut ≡ cut_behind h.queue.green_cut (names_of h.queue.reds)
  pub reds : IsTrue (run_on h.queue.green_cut (names_of h.queue.reds))
  pub by_name : IsTrue (ascend (names_of h.queue.reds))
  pub own : IsTrue (run_on h.queue.red_cut (names_of h.own))
  pub mine : IsTrue (list_all (λ a. a.id.creator == h.id) h.own)
  pub yellow : IsTrue (are_yellow h.queue h.queue.yellow)
  pub members : AreApart h.members (green_count h.queue)

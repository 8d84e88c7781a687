-- What the parts of a checkpoint stand for, and which do.
use Rattle.std.specs.Prelude.{◌≡◌, ℕ, suc, ◌==◌, nat_eq, nat_lt, nat_le, Bool, true, ◌&&◌, List, [], ◌∷◌, map, fold, sum_by, Option, Some, None, option_and_then, Result, Ok, Err, if◌then◌else◌}
use Rattle.std.specs.List.{list_all}
use Rattle.std.specs.Cmp.Lexicographic.{pointwise}
use Rattle.cg_base.specs.declared.action_id.ActionId.{ActionId}
use Rattle.cg_base.specs.Ids.{id_before}
use Rattle.cg_base.specs.Cuts.{index_in, raise}
use Rattle.cg_base.specs.Lists.{above_up_to}
use Rattle.cg_base.specs.Replicas.{every_replica}
use Rattle.cg_codec.specs.declared.fault.CodecFault.{CodecFault}
use Rattle.cg_codec.specs.Reading.{whole}
use Rattle.cg_action.specs.declared.action.Action.{Action}
use Rattle.cg_queue.specs.Distinct.{is_distinct}
use Rattle.cg_queue.specs.Queue.{QueueView, green_count, names_of}
use Rattle.cg_client.specs.Replica.{created}
use Rattle.cg_disk_records.specs.declared.change.Change.{Change}
use Rattle.cg_disk_records.specs.declared.checkpoint.Checkpoint.{Checkpoint}
use Rattle.cg_disk_records.specs.Stored.{Stored}
use Rattle.cg_disk_records.specs.Reading.{change_reading, checkpoint_reading}
use Rattle.cg_disk_records.specs.Agreeing.{Agrees, indexes_of, count_to, is_present, counts_up, is_by_name, are_own}

-- how far actions are known: the green cut, and the reds behind it
abbrev pub red_cut_of : Checkpoint → List ActionId
red_cut_of p = fold raise p.reached.cut (names_of p.kept.reds)

abbrev pub queue_in : Checkpoint → QueueView
queue_in p =
    record {
      white = p.reached.white;
      greens = p.kept.greens;
      green_cut = p.reached.cut;
      red_cut = red_cut_of p;
      reds = p.kept.reds;
      yellow = p.stable.yellow.list;
    }

-- what stands on the disk of a replica whose checkpoint has these parts
abbrev pub stored_in : ℕ → Checkpoint → Stored
stored_in id p =
    record {
      id = id;
      queue = queue_in p;
      yellow_valid = p.stable.yellow.valid;
      own = p.kept.own;
      db = p.db;
      members = p.reached.members;
      prim = p.stable.prim;
      attempt_index = p.stable.attempt_index;
      vulnerable = p.stable.vulnerable;
      buffered = [];
      owed = [];
    }

-- the index that a creator's actions have reached behind this one: another creator's is passed over, and its own has to be
-- the next one, no further than to the last
abbrev pub next_index : Action → ℕ → ℕ → ℕ → Option ℕ
next_index a id at high = if a.id.creator == id
    then (if nat_lt at high && (a.id.index == suc at) then Some (suc at) else None) else Some at

-- a creator's greens count up to its index in the cut; its reds from that in the one cut to that in the other
abbrev pub greens_count : List Action → List ActionId → ℕ → Bool
greens_count greens cut p = count_to (index_in cut p) (indexes_of greens p)

abbrev pub reds_count : List Action → List ActionId → List ActionId → ℕ → Bool
reds_count reds from to p = pointwise nat_eq (indexes_of reds p) (above_up_to (index_in from p) (index_in to p))

-- own actions behind an index and up to another
abbrev pub are_own_between : ℕ → List Action → ℕ → ℕ → Bool
are_own_between id own low high = list_all (λ a. a.id.creator == id) own
    && pointwise nat_eq (map (λ a. a.id.index) own) (above_up_to low high)

-- the name comes before that of the first action, if there is one
abbrev pub is_before_first : ActionId → List Action → Bool
is_before_first id [] = true
is_before_first id (a ∷ rest) = id_before id a.id

-- the parts are those of a checkpoint of this replica: its greens are as many, and the last action that it created is the
-- one, that it tells; and they agree
pub record Fits (id : ℕ) (p : Checkpoint) : Type 0 where
  pub count : p.reached.count ≡ green_count (queue_in p)
  pub created : p.stable.created ≡ created (stored_in id p)
  pub agrees : Agrees (stored_in id p)

-- the same as a test: of the greens and the members, of each creator's actions, and of the names. A name is red where it is
-- behind the green cut and not behind the red one
abbrev pub is_between : List ActionId → List ActionId → ActionId → Bool
is_between low high id = nat_lt (index_in low id.creator) id.index && nat_le id.index (index_in high id.creator)

abbrev pub is_between_cuts : Checkpoint → ActionId → Bool
is_between_cuts p id = is_between p.reached.cut (red_cut_of p) id

abbrev pub greens_agree : Checkpoint → Bool
greens_agree p =
    (p.reached.count == green_count (queue_in p))
    && ((sum_by (λ top. top.index) p.reached.cut == p.reached.count)
    && list_all (is_present p.reached.count p.reached.members.left) p.reached.members.servers)

abbrev pub yellow_agrees : Checkpoint → Bool
yellow_agrees p = is_distinct p.stable.yellow.list && list_all (is_between_cuts p) p.stable.yellow.list

abbrev pub names_agree : ℕ → Checkpoint → Bool
names_agree id p = (p.stable.created == created (stored_in id p))
    && (is_by_name p.kept.reds && (yellow_agrees p && are_own (stored_in id p)))

unfoldable pub do_agree : ℕ → Checkpoint → Bool
do_agree id p = greens_agree p && (list_all (counts_up (queue_in p)) every_replica && names_agree id p)

-- the parts, where they are those of a checkpoint of this replica
abbrev pub checkpoint_of : ℕ → Checkpoint → Option Checkpoint
checkpoint_of id p = if do_agree id p then Some p else None

-- ---- what bytes give

abbrev pub read_value : {X : Type 0} → Result X CodecFault → Option X
read_value (Ok x) = Some x
read_value (Err fault) = None

-- the change that all of the bytes spell, if they spell one
unfoldable pub change_in : List ℕ → Option Change
change_in bytes = read_value (whole change_reading bytes)

-- the state of a checkpoint, and its generation
pub record Saved : Type 0 where
  pub generation : ℕ
  pub content : Stored

abbrev pub saved_in : ℕ → Checkpoint → Saved
saved_in id p = record { generation = p.generation; content = stored_in id p }

-- the parts are those of a checkpoint of this replica where they agree
abbrev pub saved_of : ℕ → Checkpoint → Option Saved
saved_of id p = if do_agree id p then Some (saved_in id p) else None

-- the checkpoint of this replica that all of the bytes are, if they are one
unfoldable pub checkpoint_in : ℕ → List ℕ → Option Saved
checkpoint_in id bytes = option_and_then (saved_of id) (read_value (whole checkpoint_reading bytes))

-- the number is the generation of the checkpoint that the bytes are; where they are none of any replica it says nothing
abbrev pub HasGeneration : List ℕ → Option ℕ → Type 0
HasGeneration bytes number = (id : ℕ) (s : Saved) → checkpoint_in id bytes ≡ Some s → number ≡ Some s.generation

-- A snapshot: what a replica has green, as the parts of its pieces; and what a joiner becomes.
use Rattle.std.specs.Prelude.{ℕ, ◌-◌, false, List, [], ◌∷◌, ◌++◌, length, map, slice_get, Option, None}
use Rattle.std.specs.Option.{option_map}
use Rattle.cg_action.specs.declared.action.Action.{Action}
use Rattle.cg_action.specs.declared.entry.DbEntry.{DbEntry}
use Rattle.cg_client.specs.Replica.{Held}
use Rattle.cg_disk_records.specs.Checkpoint.{reached_of}
use Rattle.cg_join.specs.declared.name.SnapshotName.{SnapshotName}
use Rattle.cg_join.specs.declared.piece.SnapshotHead.{SnapshotHead}
use Rattle.cg_join.specs.declared.piece.PieceContent.{PieceContent}
use Rattle.cg_join.specs.declared.piece.PieceContent.TheVariants.{Start, Green, Entry, End}
use Rattle.cg_join.specs.declared.piece.Piece.{Piece}
use Rattle.cg_join.specs.Bytes.{spelled_piece}

abbrev pub head_of : Held → SnapshotHead
head_of h = record { prim = h.prim; attempt_index = h.attempt_index; reached = reached_of h }

-- the head, the kept greens in their order, the entries ascending, the end
abbrev pub parts_of : Held → List PieceContent
parts_of h = Start (head_of h) ∷ (map Green h.queue.greens ++ (map Entry h.db ++ End ∷ []))

-- one part more
abbrev pub with_green_part : List PieceContent → Action → List PieceContent
with_green_part parts a = parts ++ Green a ∷ []

abbrev pub with_entry_part : List PieceContent → DbEntry → List PieceContent
with_entry_part parts e = parts ++ Entry e ∷ []

-- a snapshot with its name
pub record Snapshot : Type 0 where
  pub name : SnapshotName
  pub parts : List PieceContent

abbrev pub piece_at : Snapshot → ℕ → PieceContent → Piece
piece_at s n part = record { label = record { name = s.name; number = n; count = length s.parts }; part = part }

-- the bytes of a piece, counted from 1
abbrev pub bytes_at : Snapshot → ℕ → Option (List ℕ)
bytes_at s n = option_map (λ part. spelled_piece (piece_at s n part)) (slice_get s.parts (n - 1))

-- ---- the replica that joins

-- what a joiner holds, of what the parts bring
abbrev pub joined_from : ℕ → SnapshotHead → List Action → List DbEntry → Held
joined_from id head greens db =
    record {
      id = id;
      queue = record {
        white = head.reached.white;
        greens = greens;
        green_cut = head.reached.cut;
        red_cut = head.reached.cut;
        reds = [];
        yellow = [];
      };
      yellow_valid = false;
      own = [];
      db = db;
      members = head.reached.members;
      prim = head.prim;
      attempt_index = head.attempt_index;
      vulnerable = None;
      buffered = [];
      owed = [];
    }

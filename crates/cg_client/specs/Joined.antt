-- What a joiner holds at first, and in how many pieces it is handed over.
use Rattle.std.specs.Prelude.{ℕ, ◌+◌, false, [], length, None}
use Rattle.cg_queue.specs.Queue.{QueueView}
use Rattle.cg_client.specs.Replica.{Held}

-- the actions that it knows: the greens of its representative
abbrev pub joined_queue : QueueView → QueueView
joined_queue q = record q { red_cut = q.green_cut; reds = []; yellow = [] }

-- what its representative has green and knows of primary components
abbrev pub joiner_content : ℕ → Held → Held
joiner_content id h = record h {
  id = id;
  queue = joined_queue h.queue;
  yellow_valid = false;
  own = [];
  vulnerable = None;
  buffered = [];
  owed = [];
}

-- the pieces of a snapshot: the head, the kept greens, the entries, the end
abbrev pub piece_count : Held → ℕ
piece_count h = 2 + length h.queue.greens + length h.db

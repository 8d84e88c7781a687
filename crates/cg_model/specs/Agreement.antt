-- What the steps of a run agree on.
use Rattle.std.specs.Prelude.{◌≡◌, ℕ, suc, ◌==◌, ◌<◌, ◌≤◌, ◌↔◌, ◌⊎◌, Bool, true, false, not, ◌&&◌, ◌||◌, List, [], ◌∷◌, ◌++◌, Option, Some, None, Contains, IsTrue, length, map, filter, take, drop, option_map}
use Rattle.std.specs.List.{list_any}
use Rattle.std.specs.Option.{option_map_or}
use Rattle.cg_base.specs.declared.action_id.ActionId.{ActionId}
use Rattle.cg_base.specs.Ids.{has_name}
use Rattle.cg_base.specs.Lists.{count_up, greatest}
use Rattle.cg_base.specs.Sets.{has}
use Rattle.cg_action.specs.declared.action.Action.{Action}
use Rattle.cg_action.specs.declared.query.Query.{Query}
use Rattle.cg_action.specs.declared.entry.DbEntry.{DbEntry}
use Rattle.cg_db.specs.Apply.{apply, fold_actions}
use Rattle.cg_db.specs.Find.{answer, query_of}
use Rattle.cg_members.specs.Servers.{members_of, is_server}
use Rattle.cg_schedule.specs.declared.event.Event.{Event}
use Rattle.cg_schedule.specs.declared.event.Event.TheVariants.{Split, Merge, Weak, Dirty, Deliver, Recover, RecoverStopped, Transfer}
use Rattle.cg_report.specs.declared.entry.Reply.{Reply}
use Rattle.cg_report.specs.declared.entry.Shown.TheVariants.{Weak as ShownWeak, Dirty as ShownDirty, Greens, Database, All}
use Rattle.cg_report.specs.declared.line.Line.{Line}
use Rattle.cg_report.specs.declared.line.StateName.TheVariants.{RegPrim, TransPrim}
use Rattle.cg_report.specs.declared.line.UpLine.{UpLine}
use Rattle.cg_disk_records.specs.Crash.{Disk}
use Rattle.cg_model.specs.World.{Down, no_world, has_begun, life_of, replica_of}
use Rattle.cg_client.specs.Replica.{Replica}
use Rattle.cg_queue.specs.Queue.{QueueView, green_count, names_of}
use Rattle.cg_model.specs.Admission.{first_refusal}
use Rattle.cg_model.specs.Show.{beyond}
use Rattle.cg_model.specs.Run.{Step, Refusal, world_after}
use Rattle.cg_model.specs.Shown.{order_lines, order_of, made_names, last_up, all_up_lines, position_of, white_of, made_action, made_actions, ordered_actions, start_of}
use Rattle.cg_model.specs.Quiet.{is_quiet, IsSettled}

-- the step comes in the run behind the earlier steps
abbrev pub ComesAfter : List Step → List Step → Step → Type 0
ComesAfter steps earlier s = (later : List Step) × (steps ≡ earlier ++ s ∷ later)

-- the steps up to this one, and it
abbrev pub through : List Step → Step → List Step
through earlier s = earlier ++ s ∷ []

-- One order grows: its places are numbered from 1, and each is printed in the first step in which a replica reaches it.
pub record OrderGrows (steps : List Step) : Type 0 where
  pub numbered : map (λ o. o.place) (order_lines steps) ≡ count_up 1 (length (order_lines steps))
  pub in_time : (earlier later : List Step) → steps ≡ earlier ++ later →
      length (order_of earlier) ≡ greatest (map (λ up. up.view.green_count) (all_up_lines earlier))
  pub shown : (earlier : List Step) (s : Step) (list : List ActionId) → ComesAfter steps earlier s →
      Contains s.entry.shown (All list) → list ≡ order_of (through earlier s)

-- the event hands something to the replica, recovers it, or finishes its transfer
abbrev pub may_move : Event → ℕ → Bool
may_move (Deliver q count) p = q == p
may_move (Split set) p = has set p
may_move (Merge set) p = has set p
may_move (Recover q) p = q == p
may_move (RecoverStopped q call fill) p = q == p
may_move (Transfer q joiner pieces) p = joiner == p
may_move other p = false

-- the replica is a server, as the order says up to the position of another one
abbrev pub is_server_at : List Step → ℕ → ℕ → Bool
is_server_at steps p q = is_server (members_of (start_of steps) (ordered_actions steps (position_of p steps))) q

-- what is green reaches so far in the order, and the greens that are kept are the order's behind the white count
abbrev pub Reaches : QueueView → List ActionId → Type 0
Reaches q order = (green_count q ≤ length order) × (names_of q.greens ≡ drop q.white (take (green_count q) order))

-- an order, and behind it the names that the recovery of a replica that is down will show: it has its disk, and the names that
-- the event made green in which it went down
abbrev pub order_recovered : List ActionId → Disk → List ActionId → List ActionId
order_recovered order disk green = order ++ beyond order green (green_count disk.content.queue)

-- Each replica's greens, shown or not, are a prefix of the order that never shrinks, and no server's white count is above
-- the prefix of another server that has begun. Those on the disk of a replica that is down are a front of the order, or all
-- of it and behind that the names that its recovery will show; and they are no fewer than its last line showed.
pub record Prefix (steps : List Step) : Type 0 where
  pub never_falls : (earlier : List Step) (s : Step) (p : ℕ) → ComesAfter steps earlier s →
      position_of p earlier ≤ position_of p (through earlier s)
  pub moves_only : (earlier : List Step) (s : Step) (p : ℕ) → ComesAfter steps earlier s →
      may_move s.event p ≡ false → position_of p (through earlier s) ≡ position_of p earlier
  pub shown : (earlier : List Step) (s : Step) (p : ℕ) (list : List ActionId) → ComesAfter steps earlier s →
      Contains s.entry.shown (Greens p list) →
      (let now = through earlier s in list ≡ drop (white_of p now) (take (position_of p now) (order_of now)))
  pub held : (earlier : List Step) (s : Step) (p : ℕ) (r : Replica) → ComesAfter steps earlier s →
      replica_of s.world p ≡ Some r →
      Reaches r.held.queue (order_of (through earlier s))
      × (position_of p (through earlier s) ≡ green_count r.held.queue)
  pub down : (earlier : List Step) (s : Step) (p : ℕ) (disk : Disk) (green : List ActionId) →
      ComesAfter steps earlier s →
      life_of s.world p ≡ Some (Down disk green) →
      Reaches disk.content.queue (order_recovered (order_of (through earlier s)) disk green)
      × (position_of p (through earlier s) ≤ green_count disk.content.queue)
  pub white : (earlier : List Step) (s : Step) (p q : ℕ) → ComesAfter steps earlier s →
      IsTrue (is_server_at (through earlier s) p q) →
      IsTrue (has_begun s.world q) → white_of p (through earlier s) ≤ position_of q (through earlier s)

-- Each creator's actions stand in the order as 1, 2, 3 and so on, and none before it was made.
pub record CreatorOrder (steps : List Step) : Type 0 where
  pub numbered : (p : ℕ) →
      (let own = filter (λ id. id.creator == p) (order_of steps) in map (λ id. id.index) own ≡ count_up 1 (length own))
  pub made_before : (earlier : List Step) (s : Step) (id : ActionId) → ComesAfter steps earlier s →
      Contains (order_of (through earlier s)) id → Contains (made_names (through earlier s)) id

-- the replica is shown as down in the step
abbrev pub is_down_in : ℕ → Step → Bool
is_down_in p s = list_any (λ l. (l.id == p) && option_map_or (λ up. false) l.up true) s.entry.lines

-- the event recovers the replica
abbrev pub is_recovery_of : ℕ → Event → Bool
is_recovery_of p (Recover q) = q == p
is_recovery_of p (RecoverStopped q call fill) = q == p
is_recovery_of p other = false

-- the step shows the action as made, and not at a recovery of its creator
abbrev pub is_created_in : ActionId → Step → Bool
is_created_in id s = has_name (map (λ m. m.id) s.entry.made) id && not (is_recovery_of id.creator s.event)

-- the action's creator hasn't crashed since it created it
abbrev pub lives_since : ActionId → List Step → Bool
lives_since id [] = false
lives_since id (s ∷ steps) =
    (is_created_in id s && not (list_any (is_down_in id.creator) steps)) || lives_since id steps

-- a reply to the action at this place is due in the step: its creator passes the place, and hasn't crashed since it created the action
abbrev pub IsDue : List Step → Step → ActionId → ℕ → Type 0
IsDue earlier s id place =
    ((position_of id.creator earlier < place) × (place ≤ position_of id.creator (through earlier s)))
    × IsTrue (lives_since id (through earlier s))

-- Every answer is that of a prefix of the order: a database, shown or not, is the fold of its replica's prefix, and a weak answer is read
-- from it; so is the database on the disk of a replica that is down, of what the disk has of the order and of the names behind it; a reply
-- is read from the fold up to its own request, and is given once, in the step in which its creator passes the request's place without
-- having crashed since the request, and in no other.
pub record FoldAnswers (steps : List Step) : Type 0 where
  pub database : (earlier : List Step) (s : Step) (p : ℕ) (entries : List DbEntry) → ComesAfter steps earlier s →
      Contains s.entry.shown (Database p entries) →
      (let now = through earlier s in entries ≡ fold_actions (ordered_actions now (position_of p now)))
  pub held : (earlier : List Step) (s : Step) (p : ℕ) (r : Replica) → ComesAfter steps earlier s →
      replica_of s.world p ≡ Some r →
      r.held.db ≡ fold_actions (ordered_actions (through earlier s) (green_count r.held.queue))
  pub kept : (earlier : List Step) (s : Step) (p : ℕ) (r : Replica) → ComesAfter steps earlier s →
      replica_of s.world p ≡ Some r →
      r.held.queue.greens ≡ drop r.held.queue.white (ordered_actions (through earlier s) (green_count r.held.queue))
  pub down : (earlier : List Step) (s : Step) (p : ℕ) (disk : Disk) (green : List ActionId) →
      ComesAfter steps earlier s →
      life_of s.world p ≡ Some (Down disk green) →
      (let now = through earlier s in
      disk.content.db ≡
      fold_actions (made_actions
      now (take (green_count disk.content.queue) (order_recovered (order_of now) disk green))))
  pub weak : (earlier : List Step) (s : Step) (p : ℕ) (q : Query) → ComesAfter steps earlier s → s.event ≡ Weak p q →
      (let now = through earlier s in
      s.entry.shown ≡ ShownWeak p (answer (fold_actions (ordered_actions now (position_of p now))) q) ∷ [])
  pub reply : (earlier : List Step) (s : Step) (r : Reply) → ComesAfter steps earlier s → Contains s.entry.replies r →
      (let now = through earlier s in
      (before after : List ActionId) × (a : Action) × (order_of now ≡ before ++ r.id ∷ after)
      × (made_action now r.id ≡ Some a)
      × (let applied = apply (fold_actions (made_actions now before)) a in
      (r.effect ≡ applied.effect) × (r.answer ≡ option_map (answer applied.db) (query_of a.kind))))
  pub when : (earlier : List Step) (s : Step) (before after : List ActionId) (id : ActionId) →
      ComesAfter steps earlier s →
      order_of (through earlier s) ≡ before ++ id ∷ after →
      Contains (map (λ r. r.id) s.entry.replies) id ↔ IsDue earlier s id (suc (length before))
  pub once : (s : Step) (before between after : List Reply) (r again : Reply) → Contains steps s →
      s.entry.replies ≡ before ++ r ∷ (between ++ again ∷ after) → r.id ≡ again.id → ⊥

-- the actions that a replica knows, as its line shows them: its prefix of the order, then the yellow ones, then the other reds
abbrev pub known_actions : List Step → UpLine → List Action
known_actions steps up = ordered_actions steps up.view.green_count
    ++ made_actions steps (up.view.yellow.list ++ up.view.reds)

-- A dirty answer is read from the replica's prefix, then its yellow list, then its reds.
abbrev pub DirtyAnswers : List Step → Type 0
DirtyAnswers steps =
    (earlier : List Step) (s : Step) (p : ℕ) (q : Query) (up : UpLine) →
    ComesAfter steps earlier s → s.event ≡ Dirty p q →
    last_up p (through earlier s) ≡ Some up →
    s.entry.shown ≡ ShownDirty p (answer (fold_actions (known_actions (through earlier s) up)) q) ∷ []

-- No primary index names two components, and only members of one make the order longer, or a recovery does.
pub record OnePrimary (steps : List Step) : Type 0 where
  pub one : (a b : UpLine) → Contains (all_up_lines steps) a → Contains (all_up_lines steps) b →
      a.view.prim.index ≡ b.view.prim.index →
      (a.view.prim.conf ≡ b.view.prim.conf) × (a.view.prim.set ≡ b.view.prim.set)
  pub longer : (earlier : List Step) (s : Step) (l : Line) (up : UpLine) → ComesAfter steps earlier s →
      length (order_of earlier) < length (order_of (through earlier s)) → Contains s.entry.lines l → l.up ≡ Some up →
      length (order_of earlier) < up.view.green_count →
      ((up.state ≡ RegPrim) ⊎ (up.state ≡ TransPrim)) ⊎ IsTrue (is_recovery_of l.id s.event)

-- A configuration that is quiet is settled.
abbrev pub QuietSettles : List Step → Type 0
QuietSettles steps =
    (s : Step) (conf : ℕ) → Contains steps s → 0 < conf → conf ≤ length s.world.group.configurations →
    IsTrue (is_quiet s.world conf) → IsSettled s.world conf

-- A made action stands on each later line of its creator: own, red, yellow, or in the prefix of the order.
abbrev pub MadeStays : List Step → Type 0
MadeStays steps =
    (earlier : List Step) (s : Step) (id : ActionId) (up : UpLine) → ComesAfter steps earlier s →
    Contains (made_names (through earlier s)) id →
    last_up id.creator (through earlier s) ≡ Some up →
    Contains (up.view.own ++ up.view.reds ++ up.view.yellow.list
    ++ take up.view.green_count (order_of (through earlier s))) id

-- An event is refused exactly where a test of it gives a reason, and with the first one: no test of an event that made a
-- step does, and the event that ended the run by a refusal has that reason.
pub record RefusedExactly (steps : List Step) (refused : Option Refusal) : Type 0 where
  pub admitted : (earlier : List Step) (s : Step) → ComesAfter steps earlier s →
      first_refusal (world_after no_world earlier) s.event ≡ None
  pub reason : (r : Refusal) → refused ≡ Some r → first_refusal (world_after no_world steps) r.event ≡ Some r.reason

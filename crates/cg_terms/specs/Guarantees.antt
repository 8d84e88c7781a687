-- What a run guarantees to its clients beside that it is linearizable: what is acknowledged stays, once, and no two parts of the network
-- go ways of their own.
use Rattle.std.specs.Prelude.{◌≡◌, ℕ, ◌≤◌, ◌⊎◌, List, [], ◌∷◌, ◌++◌, Some, Contains, IsTrue, flat_map, length, take}
use Rattle.cg_base.specs.declared.action_id.ActionId.{ActionId}
use Rattle.cg_action.specs.declared.query.Query.{Query}
use Rattle.cg_db.specs.Apply.{fold_actions}
use Rattle.cg_db.specs.Find.{answer}
use Rattle.cg_schedule.specs.declared.event.Event.TheVariants.{Weak}
use Rattle.cg_report.specs.declared.entry.Shown.TheVariants.{Weak as ShownWeak}
use Rattle.cg_report.specs.declared.line.Line.{Line}
use Rattle.cg_report.specs.declared.line.StateName.{StateName}
use Rattle.cg_report.specs.declared.line.StateName.TheVariants.{RegPrim, TransPrim}
use Rattle.cg_report.specs.declared.line.UpLine.{UpLine}
use Rattle.cg_client.specs.Replica.{Replica}
use Rattle.cg_queue.specs.Queue.{green_count}
use Rattle.cg_model.specs.World.{replica_of}
use Rattle.cg_model.specs.Run.{Step}
use Rattle.cg_model.specs.Shown.{order_of, ordered_actions, position_of, all_up_lines}
use Rattle.cg_model.specs.Agreement.{ComesAfter, through, is_recovery_of}
use Rattle.cg_terms.specs.Linearizable.{AllDiffer, replied_in}

-- the actions that a replica has shown as applied: the order up to the replica's position
abbrev pub shown_by : ℕ → List Step → List ActionId
shown_by p steps = take (position_of p steps) (order_of steps)

-- the replica's database is what the first actions of the run's order make, as many as it has applied
abbrev pub IsPrefixState : List Step → Replica → Type 0
IsPrefixState steps r =
    let applied = green_count r.held.queue in (applied ≤ length (order_of steps))
    × (r.held.db ≡ fold_actions (ordered_actions steps applied))

-- What was acknowledged isn't lost: the replica that gives the reply has applied the action; what a replica has shown as applied it
-- shows as applied ever after, whichever replicas crash, one or all; and whenever it is up its database has it.
pub record Durable (steps : List Step) : Type 0 where
  pub acknowledged : (earlier : List Step) (s : Step) (id : ActionId) → ComesAfter steps earlier s →
      Contains (replied_in s) id → Contains (shown_by id.creator (through earlier s)) id
  pub kept : (earlier between later : List Step) (p : ℕ) (id : ActionId) → steps ≡ earlier ++ (between ++ later) →
      Contains (shown_by p earlier) id → Contains (shown_by p (earlier ++ between)) id
  pub applied : (earlier : List Step) (s : Step) (p : ℕ) (r : Replica) (id : ActionId) → ComesAfter steps earlier s →
      replica_of s.world p ≡ Some r →
      Contains (shown_by p (through earlier s)) id →
      Contains (take (green_count r.held.queue) (order_of steps)) id × IsPrefixState steps r

-- No action stands in the order twice, none is replied to twice, and the database of each replica that is up is the fold in which
-- each of its actions counts once.
pub record ExactlyOnce (steps : List Step) : Type 0 where
  pub ordered : AllDiffer (order_of steps)
  pub replied : AllDiffer (flat_map replied_in steps)
  pub applied : (s : Step) (p : ℕ) (r : Replica) → Contains steps s →
      replica_of s.world p ≡ Some r → IsPrefixState steps r

-- A weak answer is read from a prefix of the order; the prefix that a replica reads from never becomes shorter, through its crashes too;
-- and it has the actions that this replica has replied to. Of dirty answers nothing is said here.
pub record PrefixReads (steps : List Step) : Type 0 where
  pub prefix : (earlier : List Step) (s : Step) (p : ℕ) (q : Query) → ComesAfter steps earlier s → s.event ≡ Weak p q →
      (let read = position_of p (through earlier s) in
      (read ≤ length (order_of steps))
      × (s.entry.shown ≡ ShownWeak p (answer (fold_actions (ordered_actions steps read)) q) ∷ []))
  pub monotonic : (earlier between later : List Step) (p : ℕ) → steps ≡ earlier ++ (between ++ later) →
      position_of p earlier ≤ position_of p (earlier ++ between)
  pub own_writes : (earlier between later : List Step) (s : Step) (id : ActionId) →
      steps ≡ earlier ++ s ∷ (between ++ later) →
      Contains (replied_in s) id → Contains (shown_by id.creator (earlier ++ s ∷ between)) id

-- the state of a member of a primary component
abbrev pub IsPrimary : StateName → Type 0
IsPrimary state = (state ≡ RegPrim) ⊎ (state ≡ TransPrim)

-- Primary components are numbered, and no number names two of them; outside of one no replica reaches a place of the order that wasn't
-- reached before the step, unless it recovers what a member had reached as it was struck; and all databases, in every component, are
-- those of prefixes of one order: of two of them one is behind the other, never beside it. That of two components the older one makes the
-- order no longer isn't said.
pub record NoSplitBrain (steps : List Step) : Type 0 where
  pub one : (a b : UpLine) → Contains (all_up_lines steps) a → Contains (all_up_lines steps) b →
      a.view.prim.index ≡ b.view.prim.index →
      (a.view.prim.conf ≡ b.view.prim.conf) × (a.view.prim.set ≡ b.view.prim.set)
  pub outside : (earlier : List Step) (s : Step) (l : Line) (up : UpLine) → ComesAfter steps earlier s →
      Contains s.entry.lines l → l.up ≡ Some up →
      (IsPrimary up.state → ⊥) → (IsTrue (is_recovery_of l.id s.event) → ⊥) →
      up.view.green_count ≤ length (order_of earlier)
  pub together : (s : Step) (p : ℕ) (r : Replica) → Contains steps s →
      replica_of s.world p ≡ Some r → IsPrefixState steps r

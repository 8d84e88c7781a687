-- In each step of a run the database of a replica that is up is the fold of its prefix of the order.
use Rattle.std.proofs.Common.{◌≡◌, ℕ, ◌+◌, List, length, drop, Option, Some, IfSome, sym, ap, ◌∙◌, subst}
use Rattle.cg_base.specs.ListLaws.{length-dropped}
use Rattle.cg_db.specs.Apply.{fold_actions}
use Rattle.cg_queue.specs.Queue.{names_of, green_count}
use Rattle.cg_client.specs.Replica.{Replica}
use Rattle.cg_model.specs.World.{World, no_world, replica_of}
use Rattle.cg_model.specs.Chronicle.{Chronicle}
use Rattle.cg_model.specs.Fronts.{Front}
use Rattle.cg_model.specs.Looks.{greens_of}
use Rattle.cg_model.specs.FactsReplica.{AreBooked, IsCore}
use Rattle.cg_model.specs.Played.{AlwaysHolds}
use Rattle.cg_model.specs.Run.{Step, IsRunFrom}
use Rattle.cg_model.specs.Shown.{order_of, ordered_actions}
use Rattle.cg_model.specs.Agreement.{ComesAfter, through}
use Rattle.cg_agree.proofs.RunSteps.{step-of, StandsFor, stands-for}
use Rattle.cg_agree.proofs.ShownActions.{ordered-shown}
use Rattle.cg_model.specs.RunLaws.{world_of, chronicle_of}

-- the greens of a replica that is up are a front of the order, and what they make is what it holds
pub record IsInOrder (steps : List Step) (p : ℕ) (r : Replica) : Type 0 where
  pub core : IsCore (chronicle_of steps) r.held (greens_of (chronicle_of steps) p)
  pub front : Front (names_of (greens_of (chronicle_of steps) p)) (order_of steps)
  pub booked : AreBooked (chronicle_of steps) (greens_of (chronicle_of steps) p)
  pub count : green_count r.held.queue ≡ length (greens_of (chronicle_of steps) p)

module _ (steps : List Step) (f : StandsFor steps) (p : ℕ) (r : Replica) (runs : replica_of (world_of steps) p ≡ Some r) where
  abbrev c : Chronicle
  c = chronicle_of steps

  pub in-order : IsInOrder steps p r
  in-order =
      let here : replica_of c.world p ≡ Some r = sym (f.stands.same.running p) ∙ runs in
      let greens = greens_of c p in
      let core : IsCore c r.held greens = subst (λ (o : Option Replica). IfSome o (λ r. IsCore c r.held greens)) here (f.stands.facts.replica.cores.memory p) in
      let front : Front (names_of greens) (world_of steps).order =
      subst (λ (o : Option Replica). IfSome o (λ r. Front (names_of greens) (world_of steps).order)) runs (f.stands.rests.order_book.up p) in
      record {
        core = core;
        front = subst (Front (names_of greens)) (sym f.tells.order) front;
        booked = f.stands.facts.replica.made_once.in_greens p;
        count = ap (λ xs. r.held.queue.white + length xs) core.made_of.kept ∙ length-dropped r.held.queue.white greens core.made_of.white;
      }

  -- its prefix of the order is its greens
  pub own-prefix : ordered_actions steps (green_count r.held.queue) ≡ greens_of c p
  own-prefix = (let is = in-order in ap (ordered_actions steps) is.count ∙ ordered-shown steps f (greens_of c p) is.front is.booked)

  pub own-fold : r.held.db ≡ fold_actions (ordered_actions steps (green_count r.held.queue))
  own-fold = in-order.core.made_of.db ∙ ap fold_actions (sym own-prefix)

  pub own-kept : r.held.queue.greens ≡ drop r.held.queue.white (ordered_actions steps (green_count r.held.queue))
  own-kept = in-order.core.made_of.kept ∙ ap (drop r.held.queue.white) (sym own-prefix)

-- The database of a replica that is up.
pub fold-held : AlwaysHolds → (steps : List Step) → IsRunFrom no_world steps → (earlier : List Step) (s : Step) (p : ℕ) (r : Replica) → ComesAfter steps earlier s →
    replica_of s.world p ≡ Some r → r.held.db ≡ fold_actions (ordered_actions (through earlier s) (green_count r.held.queue))
fold-held always steps run earlier s p r after runs =
    let is = step-of always steps run earlier s after in
    own-fold (through earlier s) (stands-for always (through earlier s) is.behind) p r (ap (λ (w : World). replica_of w p) is.world ∙ runs)

-- The greens that it keeps.
pub kept-held : AlwaysHolds → (steps : List Step) → IsRunFrom no_world steps → (earlier : List Step) (s : Step) (p : ℕ) (r : Replica) → ComesAfter steps earlier s →
    replica_of s.world p ≡ Some r →
    r.held.queue.greens ≡ drop r.held.queue.white (ordered_actions (through earlier s) (green_count r.held.queue))
kept-held always steps run earlier s p r after runs =
    let is = step-of always steps run earlier s after in
    own-kept (through earlier s) (stands-for always (through earlier s) is.behind) p r (ap (λ (w : World). replica_of w p) is.world ∙ runs)

-- Each replica's greens are a prefix of the order that never shrinks; what it shows of them is so, and what it holds.
use Rattle.std.proofs.Common.{◌≡◌, ℕ, ◌≤◌, false, List, take, drop, find, option_and_then, Option, Some, IfSome, Contains, refl, sym, ap, ◌∙◌, subst}
use Rattle.std.specs.Prelude.{◌==◌}
use Rattle.cg_base.specs.declared.action_id.ActionId.{ActionId}
use Rattle.cg_queue.specs.Queue.{green_count}
use Rattle.cg_report.specs.declared.entry.Shown.TheVariants.{Greens}
use Rattle.cg_schedule.specs.declared.event.Event.{Event}
use Rattle.cg_schedule.specs.declared.event.Event.TheVariants.{Show}
use Rattle.cg_client.specs.Replica.{Replica}
use Rattle.cg_model.specs.World.{Node, World, no_world, replica_of, running}
use Rattle.cg_model.specs.Show.{Moved, ended}
use Rattle.cg_model.specs.Step.{happens, world_step}
use Rattle.cg_model.specs.Run.{Step, IsRunFrom, world_after}
use Rattle.cg_model.specs.Shown.{order_of, position_of, white_of}
use Rattle.cg_model.specs.Agreement.{ComesAfter, through, may_move, Reaches}
use Rattle.cg_model.specs.Chronicle.{Chronicle, no_chronicle}
use Rattle.cg_model.specs.Noting.{chronicle_step, chronicle_after}
use Rattle.cg_model.specs.FactsReplica.{IsModeData}
use Rattle.cg_model.specs.Played.{StandsBeside, AlwaysHolds}
use Rattle.cg_agree.proofs.LinesShown.{AreLinesTold, position-shown, white-shown}
use Rattle.cg_agree.proofs.OrderGrowsRun.{shown-of}
use Rattle.cg_agree.proofs.OrderReached.{reaches-order}
use Rattle.cg_agree_lemmas.specs.OrderTold.{order_told}
use Rattle.cg_agree.proofs.PositionsGrow.{moves}
use Rattle.cg_agree.proofs.RunPrefix.{ComesThere, comes}
use Rattle.cg_agree.proofs.TellsRun.{has-told}
use Rattle.cg_model.specs.RunLaws.{world-last}

module _ (always : AlwaysHolds) (steps : List Step) (run : IsRunFrom no_world steps) where
  pub never-falls : (earlier : List Step) (s : Step) (p : ℕ) → ComesAfter steps earlier s → position_of p earlier ≤ position_of p (through earlier s)
  never-falls earlier s p after = (let at = comes always steps run earlier s after in (moves always earlier s at.before at.step p).more)

  pub moves-only : (earlier : List Step) (s : Step) (p : ℕ) → ComesAfter steps earlier s → may_move s.event p ≡ false → position_of p (through earlier s) ≡ position_of p earlier
  moves-only earlier s p after idle = (let at = comes always steps run earlier s after in (moves always earlier s at.before at.step p).still idle)

  -- the order behind a step
  pub order-then : (earlier : List Step) (s : Step) → ComesThere earlier s → s.world.order ≡ order_of (through earlier s)
  order-then earlier s at = sym (ap (λ (v : World). v.order) (world-last no_world earlier s)) ∙ order_told no_world (through earlier s) at.upto

  -- the lines behind it
  pub lines-then : (earlier : List Step) (s : Step) → ComesThere earlier s → AreLinesTold (through earlier s) s.world
  lines-then earlier s at = subst (AreLinesTold (through earlier s)) (world-last no_world earlier s) (has-told always (through earlier s) at.upto).lines

  pub held : (earlier : List Step) (s : Step) (p : ℕ) (r : Replica) → ComesAfter steps earlier s → replica_of s.world p ≡ Some r →
      Reaches r.held.queue (order_of (through earlier s)) × (position_of p (through earlier s) ≡ green_count r.held.queue)
  held earlier s p r after runs =
      let at = comes always steps run earlier s after in
      let d = chronicle_step (chronicle_after no_chronicle no_world earlier) (world_after no_world earlier) s.event in (
        subst (Reaches r.held.queue) (order-then earlier s at) (reaches-order d s.world at.step.behind p r runs),
        position-shown (through earlier s) s.world (lines-then earlier s at) p r runs,
      )

  show-stays : (w : World) (p : ℕ) → (world_step w (Show p)).world.nodes ≡ w.nodes
  unfolding world_step happens ended
  show-stays w p = refl

  -- a replica that is up is named by its number
  named : (c : Chronicle) (w : World) → StandsBeside c w → (p : ℕ) (r : Replica) → replica_of w p ≡ Some r → r.held.id ≡ p
  named c w stands p r runs =
      (subst (λ (o : Option Replica). IfSome o (IsModeData c p)) (sym (stands.same.running p) ∙ runs) (stands.facts.replica.mode_data p)).id

  pub shown : (earlier : List Step) (s : Step) (p : ℕ) (list : List ActionId) → ComesAfter steps earlier s → Contains s.entry.shown (Greens p list) →
      (let now = through earlier s in list ≡ drop (white_of p now) (take (position_of p now) (order_of now)))
  shown earlier s p list after there =
      let at = comes always steps run earlier s after in
      let c = chronicle_after no_chronicle no_world earlier in
      let w = world_after no_world earlier in
      let now = through earlier s in
      let is = shown-of c w s at.step (Greens p list) there in
      let r = is.0 in
      let q = is.1.asked in
      let same : p ≡ q = is.1.named ∙ named c w at.step.before q r is.1.runs in
      let nodes : s.world.nodes ≡ w.nodes = ap (λ (m : Moved). m.world.nodes) at.step.moved ∙ ap (λ (e : Event). (world_step w e).world.nodes) is.1.event ∙ show-stays w q in
      let runs : replica_of s.world q ≡ Some r = ap (λ (list : List Node). option_and_then (λ s. running s.life) (find (λ s. s.id == q) list)) nodes ∙ is.1.runs in
      let lines = lines-then earlier s at in
      let prefix = (held earlier s q r after runs).0.1 in
      let counts : drop r.held.queue.white (take (green_count r.held.queue) (order_of now)) ≡ drop (white_of q now) (take (position_of q now) (order_of now)) =
      (λ i. drop (sym (white-shown now s.world lines q r runs) i) (take (sym (position-shown now s.world lines q r runs) i) (order_of now))) in
      is.2 ∙ prefix ∙ counts ∙ (λ i. drop (white_of (sym same i) now) (take (position_of (sym same i) now) (order_of now)))

-- Only members of a primary component make the order of a run longer, or a recovery does.
use Rattle.std.proofs.Common.{◌⊎◌, ◌≡◌, ℕ, ◌<◌, true, false, List, length, Option, Some, None, Contains, refl, sym, ap, ◌∙◌, subst, inl, inr, arith, option_map, option_and_then}
use Rattle.std.specs.Option.{option_map_or}
use Rattle.cg_queue.specs.Queue.{green_count}
use Rattle.cg_group.specs.State.{phase_of}
use Rattle.cg_report.specs.declared.line.Line.{Line}
use Rattle.cg_report.specs.declared.line.StateName.{StateName}
use Rattle.cg_report.specs.declared.line.StateName.TheVariants.{RegPrim as RegPrimName, TransPrim as TransPrimName}
use Rattle.cg_report.specs.declared.line.UpLine.{UpLine}
use Rattle.cg_client.specs.Replica.{State, RegPrim, TransPrim, ExchangeStates, ExchangeActions, Construct, No, Un, NonPrim, Left, Replica}
use Rattle.cg_client.specs.Queries.{state_name, view_of}
use Rattle.cg_schedule.specs.declared.event.Event.{Event}
use Rattle.cg_model.specs.World.{NodeState, Up, Down, Node, World, no_world, running, node_of, replica_of}
use Rattle.cg_model.specs.Show.{Moved, line_of, up_line}
use Rattle.cg_model.specs.Run.{Step, IsRunFrom, world_after}
use Rattle.cg_model.specs.Shown.{order_of}
use Rattle.cg_model.specs.Agreement.{ComesAfter, through, is_recovery_of, OnePrimary}
use Rattle.cg_model.specs.Chronicle.{Chronicle, no_chronicle}
use Rattle.cg_model.specs.FactsReplica.{is_primary}
use Rattle.cg_model.specs.Noting.{chronicle_after}
use Rattle.cg_model.specs.Played.{AlwaysHolds}
use Rattle.cg_agree.proofs.LinesShown.{lines-each}
use Rattle.cg_agree.proofs.LongerBy.{IsFarBy, event-far}
use Rattle.cg_agree_lemmas.specs.OrderTold.{order_told}
use Rattle.cg_agree.proofs.PrimaryOne.{one-primary}
use Rattle.cg_agree.proofs.RunForward.{IsStepOf}
use Rattle.cg_agree.proofs.RunPrefix.{comes}
use Rattle.cg_base.specs.ElementLaws.{each-contains}

-- a state of a primary component
abbrev IsPrimary : StateName → Type 0
IsPrimary state = (state ≡ RegPrimName) ⊎ (state ≡ TransPrimName)

-- a line beyond the order is one of a member of a primary component, or of who is recovered
abbrev IsLineBy : ℕ → Event → Line → Type 0
IsLineBy n e l = (up : UpLine) → l.up ≡ Some up → n < up.view.green_count → IsPrimary up.state ⊎ (is_recovery_of l.id e ≡ true)

named-primary : (state : State) → is_primary state ≡ true → IsPrimary (state_name state)
named-primary RegPrim is = inl refl
named-primary TransPrim is = inr refl
named-primary (ExchangeStates conf set heard) is = absurd (let clash : false ≡ true = is in cc)
named-primary (ExchangeActions conf summaries accepted) is = absurd (let clash : false ≡ true = is in cc)
named-primary (Construct conf heard) is = absurd (let clash : false ≡ true = is in cc)
named-primary (No conf heard) is = absurd (let clash : false ≡ true = is in cc)
named-primary Un is = absurd (let clash : false ≡ true = is in cc)
named-primary (NonPrim regular) is = absurd (let clash : false ≡ true = is in cc)
named-primary Left is = absurd (let clash : false ≡ true = is in cc)

shown-count : (r : Replica) → (view_of r.held).green_count ≡ green_count r.held.queue
unfolding view_of
shown-count r = refl

module _ (c : Chronicle) (w : World) (s : Step) (step : IsStepOf c w s) where
  far : (p : ℕ) (r : Replica) → replica_of s.world p ≡ Some r → IsFarBy (length w.order) s.event p r
  far p r runs =
      subst (λ (m : Moved). replica_of m.world p ≡ Some r → IsFarBy (length w.order) s.event p r) (sym step.moved) (event-far c w step.before s.event step.may step.admitted p r) runs

  node-by : (x : Node) → node_of s.world x.id ≡ Some x → IsLineBy (length w.order) s.event (line_of s.world.group x)
  node-by x found up e more = life x.life (ap (λ (o : Option Node). option_and_then (λ s. running s.life) o) found) e where
    life : (l : NodeState) → replica_of s.world x.id ≡ running l → option_map (up_line (phase_of s.world.group x.id)) (running l) ≡ Some up → IsPrimary up.state ⊎ (is_recovery_of x.id s.event ≡ true)
    life (Down disk green) runs e = absurd (let clash : None ≡ Some up = e in cc)
    life (Up r disk) runs e =
        let line = up_line (phase_of s.world.group x.id) r in
        let same : line ≡ up = ap (λ (o : Option UpLine). option_map_or (λ y. y) o line) e in
        let count : up.view.green_count ≡ green_count r.held.queue = sym (ap (λ (y : UpLine). y.view.green_count) same) ∙ shown-count r in
        elim (far x.id r runs) [
          | inl low ↦ absurd (let many : length w.order < up.view.green_count = more in omega arith)
          | inr by ↦ elim by [
            | inl inside ↦ inl (subst (λ (y : UpLine). IsPrimary y.state) same (named-primary r.state inside))
            | inr recovers ↦ inr recovers
          ]
        ]

longer : AlwaysHolds → (steps : List Step) → IsRunFrom no_world steps → (earlier : List Step) (s : Step) (l : Line) (up : UpLine) → ComesAfter steps earlier s →
    length (order_of earlier) < length (order_of (through earlier s)) → Contains s.entry.lines l → l.up ≡ Some up → length (order_of earlier) < up.view.green_count → IsPrimary up.state ⊎ (is_recovery_of l.id s.event ≡ true)
longer always steps run earlier s l up after grown there is more =
    let at = comes always steps run earlier s after in
    let c = chronicle_after no_chronicle no_world earlier in
    let w = world_after no_world earlier in
    let order : length w.order ≡ length (order_of earlier) = ap length (order_told no_world earlier at.before) in
    each-contains (IsLineBy (length w.order) s.event) s.entry.lines l (lines-each (IsLineBy (length w.order) s.event) c w s at.step (node-by c w s at.step)) there up is
    (let many : length (order_of earlier) < up.view.green_count = more in omega arith)

-- No primary index names two components, and only members of one make the order longer, or a recovery does.
pub one-primary-all : AlwaysHolds → (steps : List Step) → IsRunFrom no_world steps → OnePrimary steps
one-primary-all always steps run = record { one = one-primary always steps run; longer = longer always steps run }

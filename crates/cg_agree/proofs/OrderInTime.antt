-- The order of a run is as long as the furthest line that a replica that is up has shown.
use Rattle.std.proofs.Common.{◌≡◌, ℕ, ◌≤◌, max, List, [], ◌∷◌, ◌++◌, map, fold, length, Option, Some, None, IfSome, refl, sym, ap, ◌∙◌, subst, inl, inr, arith, option_map, option_and_then}
use Rattle.std.proofs.lemmas.List.{map-append, length-append}
use Rattle.cg_base.specs.declared.action_id.ActionId.{ActionId}
use Rattle.cg_base.specs.Lists.{greatest, present, Each}
use Rattle.cg_queue.specs.Queue.{green_count}
use Rattle.cg_group.specs.State.{phase_of}
use Rattle.cg_client.specs.Replica.{Replica}
use Rattle.cg_client.specs.Queries.{view_of}
use Rattle.cg_report.specs.declared.line.Line.{Line}
use Rattle.cg_report.specs.declared.line.UpLine.{UpLine}
use Rattle.cg_model.specs.World.{NodeState, Up, Down, Node, World, no_world, running, node_of, replica_of}
use Rattle.cg_model.specs.Show.{line_of, up_line}
use Rattle.cg_model.specs.Run.{Step, IsRunFrom}
use Rattle.cg_model.specs.Shown.{order_of, lines_in, all_up_lines, position_of}
use Rattle.cg_model.specs.Telling.{last_of}
use Rattle.cg_model.specs.Agreement.{through}
use Rattle.cg_model.specs.Chronicle.{Chronicle}
use Rattle.cg_model.specs.Noting.{chronicle_step}
use Rattle.cg_model.specs.Played.{AlwaysHolds}
use Rattle.cg_agree_lemmas.specs.OrderTold.{order_told, step_order}
use Rattle.cg_agree.proofs.OrderReached.{within-order}
use Rattle.cg_agree.proofs.LinesShown.{lines-each, position-shown}
use Rattle.cg_agree.proofs.MadeTold.{step-adds}
use Rattle.cg_agree.proofs.RunForward.{IsStepOf, of-run}
use Rattle.cg_agree.proofs.TellsRun.{HasTold, told-on, nothing-told}
use Rattle.cg_base.specs.ElementLaws.{present-append}
use Rattle.cg_base.specs.ListLaws.{greatest-append, fold_max-is}
use Rattle.cg_model.specs.ShowLaws.{counts_of, ups_in, counts-last, count_of, one-below}

-- ---- the greatest count

greatest-below : (n : ℕ) (ns : List ℕ) → Each (λ k. k ≤ n) ns → greatest ns ≤ n
greatest-below n [] each = omega arith
greatest-below n (k ∷ ns) each =
    let all = fold_max-is (max 0 k) ns in
    let rest = greatest-below n ns each.1 in
    let first = each.0 in
    omega arith

-- ---- the last line of a replica is one of all

last-below : (p : ℕ) (lines : List Line) (o : Option UpLine) → count_of (fold (last_of p) o lines) ≤ max (count_of o) (greatest (counts_of (ups_in lines)))
last-below p [] o = omega arith
last-below p (l ∷ lines) o =
    let first = one-below p l.id l.up o in
    let rest = last-below p lines (last_of p o l) in
    let ups : counts_of (ups_in (l ∷ lines)) ≡ counts_of (present (l.up ∷ [])) ++ counts_of (ups_in lines) =
    ap counts_of (present-append (l.up ∷ []) (map (λ l. l.up) lines)) ∙ map-append (λ (up : UpLine). up.view.green_count) (present (l.up ∷ [])) (ups_in lines) in
    let both : greatest (counts_of (ups_in (l ∷ lines))) ≡ max (greatest (counts_of (present (l.up ∷ [])))) (greatest (counts_of (ups_in lines))) =
    ap greatest ups ∙ greatest-append (counts_of (present (l.up ∷ []))) (counts_of (ups_in lines)) in
    omega arith

position-below : (steps : List Step) (p : ℕ) → position_of p steps ≤ greatest (counts_of (all_up_lines steps))
position-below steps p = (let most = last-below p (lines_in steps) None in omega arith)

-- ---- a step

counts-each : (w : World) (lines : List Line) → Each (λ l. IfSome l.up (λ up. up.view.green_count ≤ length w.order)) lines → Each (λ k. k ≤ length w.order) (counts_of (ups_in lines))
counts-each w [] each = tt
counts-each w (l ∷ lines) each = at l.up each.0 (counts-each w lines each.1) where
  at : (o : Option UpLine) → IfSome o (λ up. up.view.green_count ≤ length w.order) → Each (λ k. k ≤ length w.order) (counts_of (ups_in lines)) →
      Each (λ k. k ≤ length w.order) (counts_of (present (o ∷ map (λ l. l.up) lines)))
  at None is rest = rest
  at (Some up) is rest = (is, rest)

up-within : (c : Chronicle) (w : World) (s : Step) → IsStepOf c w s → (p : ℕ) (r : Replica) → replica_of s.world p ≡ Some r → (view_of r.held).green_count ≤ length s.world.order
unfolding view_of
up-within c w s step p r runs = within-order (chronicle_step c w s.event) s.world step.behind p r runs

-- no line that it shows is beyond the order
each-within : (c : Chronicle) (w : World) (s : Step) → IsStepOf c w s → Each (λ k. k ≤ length s.world.order) (counts_of (ups_in s.entry.lines))
each-within c w s step = counts-each s.world s.entry.lines (lines-each (λ l. IfSome l.up (λ up. up.view.green_count ≤ length s.world.order)) c w s step node) where
  node : (x : Node) → node_of s.world x.id ≡ Some x → IfSome (line_of s.world.group x).up (λ up. up.view.green_count ≤ length s.world.order)
  node x found = life x.life (ap (λ (o : Option Node). option_and_then (λ s. running s.life) o) found) where
    life : (l : NodeState) → replica_of s.world x.id ≡ running l → IfSome (option_map (up_line (phase_of s.world.group x.id)) (running l)) (λ up. up.view.green_count ≤ length s.world.order)
    life (Up r disk) runs = up-within c w s step x.id r runs
    life (Down disk green) runs = tt

-- the order is as long as the furthest line
IsInTime : List Step → Chronicle → World → Type 0
IsInTime earlier c w = HasTold earlier c w × (length w.order ≡ greatest (counts_of (all_up_lines earlier)))

longer : (order more : List ActionId) → length order ≤ length (order ++ more)
longer order more = (let both = length-append order more in omega arith)

in-time-on : (earlier : List Step) (c : Chronicle) (w : World) (s : Step) → IsStepOf c w s → IsInTime earlier c w → IsInTime (through earlier s) (chronicle_step c w s.event) s.world
unfolding IsInTime
in-time-on earlier c w s step is =
    let told = is.0 in
    let now = told-on earlier c w s step told in
    let before : length w.order ≡ greatest (counts_of (all_up_lines earlier)) = is.1 in
    let most = counts-last earlier s in
    let below : greatest (counts_of (ups_in s.entry.lines)) ≤ length s.world.order = greatest-below (length s.world.order) (counts_of (ups_in s.entry.lines)) (each-within c w s step) in
    let grows : length w.order ≤ length s.world.order =
    subst (λ (order : List ActionId). length w.order ≤ length order) (sym (step_order w s step.moved).names) (longer w.order (map (λ o. o.id) s.entry.orders)) in
    let adds = (step-adds c w s step told.made.fits told.made.last).1 in (
      now,
      elim adds.reach [
        | inl same ↦ omega arith
        | inr by ↦
            let far : length s.world.order ≤ green_count by.replica.held.queue = by.reaches in
            let place : position_of by.who (through earlier s) ≡ green_count by.replica.held.queue = position-shown (through earlier s) s.world now.lines by.who by.replica by.runs in
            let all = position-below (through earlier s) by.who in
            omega arith
      ],
    )

pub in-time : AlwaysHolds → (earlier : List Step) → IsRunFrom no_world earlier → length (order_of earlier) ≡ greatest (map (λ up. up.view.green_count) (all_up_lines earlier))
unfolding IsInTime
in-time always earlier run = ap length (sym (order_told no_world earlier run)) ∙ (of-run always IsInTime in-time-on (nothing-told, refl) earlier run).1

use Rattle.std.proofs.Common.{◌≡◌, ◌∙◌, ℕ, ◌≤◌, ◌<◌, [], ◌++◌, ◌+◌, ◌-◌, suc, ap, sym, arith, append_assoc}
use Rattle.cg_queue.specs.Body.{parts_of, seen, actions_in, reds_from}
use Rattle.cg_queue.specs.Queue.{names_of}
use Rattle.cg_queue.proofs.RowLemmas.{append-nothing}
use Rattle.cg_queue.proofs.Soundness.{reds-all}
use Rattle.cg_queue.proofs.PlainReds.{plain, plain-step, reds-none}
use Rattle.cg_queue.proofs.queue.Queue.plain_red_names.Goals as goal

pub loop-slot-init : goal.loop-slot-init
loop-slot-init c =
    let b = parts_of c.self.inside.body in
    ap (λ ids. ids ++ plain (seen b).yellow (names_of (reds_from b.reds 32 0))) c.new-ids.ensures
    ∙ ap (λ reds. plain (seen b).yellow (names_of reds)) (reds-all b.reds)

pub loop-slot-preserved : goal.loop-slot-preserved
loop-slot-preserved c =
    let b = parts_of c.self.inside.body in
    let slot = c.loop-slot.slot in
    let next : slot + 1 ≡ suc slot = omega arith in
    let rest = plain (seen b).yellow (names_of (reds_from b.reds (32 - (slot + 1)) (slot + 1))) in
    ap (λ ids. ids ++ rest) c.in_ok-add_plain_names.ensures
    ∙ append_assoc c.loop-slot.ids (plain (seen b).yellow (names_of (actions_in (b.reds slot)))) rest
    ∙ ap (λ n. c.loop-slot.ids ++ (plain (seen b).yellow (names_of (actions_in (b.reds slot))) ++ plain (seen b).yellow (names_of (reds_from b.reds (32 - n) n)))) next
    ∙ ap (λ ids. c.loop-slot.ids ++ ids) (sym (plain-step (seen b).yellow b.reds slot (omega arith)))
    ∙ c.loop-slot.invariant

pub returns : goal.returns
returns c =
    let b = parts_of c.self.inside.body in
    let slot = c.loop-slot.slot in
    let last : c.used-used.result ≤ slot = omega arith in
    let behind : (k : ℕ) → slot ≤ k → k < slot + (32 - slot) → b.reds k ≡ [] = λ k le lt. c.used-used.ensures.rest k (omega (arith, last, le)) (omega (arith, le, lt)) in
    sym (append-nothing c.loop-slot.ids)
    ∙ ap (λ reds. c.loop-slot.ids ++ plain (seen b).yellow (names_of reds)) (sym (reds-none b.reds (32 - slot) slot behind))
    ∙ c.loop-slot.invariant
    ∙ ap (λ q. plain q.yellow (names_of q.reds)) c.self.view_is

pub add_plain_names-requires-clause-lane : goal.add_plain_names-requires-clause-lane
add_plain_names-requires-clause-lane c = c.self.invariant.lanes c.loop-slot.slot (omega arith)

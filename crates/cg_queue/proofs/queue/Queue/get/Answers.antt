use Rattle.std.proofs.Common.{◌≡◌, ◌∙◌, ◌-◌, suc, length, ap, sym, arith}
use Rattle.std.specs.Prelude.{slice_get}
use Rattle.std.specs.Option.{option_map}
use Rattle.cg_base.specs.Cuts.{index_in}
use Rattle.cg_queue.specs.Queue.{action_of}
use Rattle.cg_queue.specs.Body.{parts_of, lane_of}
use Rattle.cg_queue.proofs.Soundness.{drop-none}
use Rattle.cg_queue.proofs.FindLemmas.{found-red, found-none, found-green}
use Rattle.cg_queue.proofs.queue.Queue.get.Goals as goal

pub returns-in-Some : goal.returns-in-Some
returns-in-Some c =
    let b = parts_of c.self.inside.body in
    let id = c.args.id in
    let green : c.get-green.result ≡ index_in b.green_cut id.creator = c.get-green.ensures in
    let i = id.index - c.get-green.result - 1 in
    let there = c.in-Some.ensures ∙ ap (λ k. slice_get (b.reds k) i) c.lane_of-slot.ensures.value in
    ap (option_map (λ r. r.action)) there ∙ sym (found-red b id c.self.invariant c.lane_of-slot.ensures.creator i (omega arith)) ∙ ap (λ q. action_of q id) c.self.view_is

pub returns-in-None : goal.returns-in-None
returns-in-None c =
    let b = parts_of c.self.inside.body in
    let id = c.args.id in
    let green : c.get-green.result ≡ index_in b.green_cut id.creator = c.get-green.ensures in
    let i = id.index - c.get-green.result - 1 in
    let there = c.in-None.ensures ∙ ap (λ k. slice_get (b.reds k) i) c.lane_of-slot.ensures.value in
    ap (option_map (λ r. r.action)) there ∙ sym (found-red b id c.self.invariant c.lane_of-slot.ensures.creator i (omega arith)) ∙ ap (λ q. action_of q id) c.self.view_is

pub returns-then-kept-behind : goal.returns-then-kept-behind
returns-then-kept-behind c =
    let b = parts_of c.self.inside.body in
    let id = c.args.id in
    let green : c.get-green.result ≡ index_in b.green_cut id.creator = c.get-green.ensures in
    let kept : c.len-kept.result ≡ length (b.positions (lane_of id)) = c.len-kept.ensures ∙ ap (λ k. length (b.positions k)) c.lane_of-slot.ensures.value in
    sym (found-none b id c.self.invariant c.lane_of-slot.ensures.creator (omega arith) (omega arith)) ∙ ap (λ q. action_of q id) c.self.view_is

pub overflow_sub-at : goal.overflow_sub-at
overflow_sub-at c =
    let b = parts_of c.self.inside.body in
    let id = c.args.id in
    let green : c.get-green.result ≡ index_in b.green_cut id.creator = c.get-green.ensures in
    let kept : c.len-kept.result ≡ length (b.positions (lane_of id)) = c.len-kept.ensures ∙ ap (λ k. length (b.positions k)) c.lane_of-slot.ensures.value in
    let i = c.len-kept.result - (c.get-green.result - id.index) - 1 in
    let there = sym (c.in-Some-get.ensures ∙ ap (λ k. slice_get (b.positions k) i) c.lane_of-slot.ensures.value) in
    let found = found-green b id c.self.invariant c.lane_of-slot.ensures.creator i c.in-Some-get.at.now (omega arith) (omega arith) there in
    let behind = found.0 in
    omega arith

pub overflow_sub-at-in-Some-get : goal.overflow_sub-at-in-Some-get
overflow_sub-at-in-Some-get c =
    let b = parts_of c.self.inside.body in
    let id = c.args.id in
    let green : c.get-green.result ≡ index_in b.green_cut id.creator = c.get-green.ensures in
    let kept : c.len-kept.result ≡ length (b.positions (lane_of id)) = c.len-kept.ensures ∙ ap (λ k. length (b.positions k)) c.lane_of-slot.ensures.value in
    let i = c.len-kept.result - (c.get-green.result - id.index) - 1 in
    let there = sym (c.in-Some-get.ensures ∙ ap (λ k. slice_get (b.positions k) i) c.lane_of-slot.ensures.value) in
    let found = found-green b id c.self.invariant c.lane_of-slot.ensures.creator i c.in-Some-get.at.now (omega arith) (omega arith) there in
    let behind = found.0 in
    omega arith

pub returns-in-Some-get : goal.returns-in-Some-get
returns-in-Some-get c =
    let b = parts_of c.self.inside.body in
    let id = c.args.id in
    let green : c.get-green.result ≡ index_in b.green_cut id.creator = c.get-green.ensures in
    let kept : c.len-kept.result ≡ length (b.positions (lane_of id)) = c.len-kept.ensures ∙ ap (λ k. length (b.positions k)) c.lane_of-slot.ensures.value in
    let i = c.len-kept.result - (c.get-green.result - id.index) - 1 in
    let there = sym (c.in-Some-get.ensures ∙ ap (λ k. slice_get (b.positions k) i) c.lane_of-slot.ensures.value) in
    let found = found-green b id c.self.invariant c.lane_of-slot.ensures.creator i c.in-Some-get.at.now (omega arith) (omega arith) there in
    let spot : c.in-Some-get.at.now - b.white - 1 ≡ c.in-Some-get.at.now - suc b.white = omega arith in
    c.item_in.ensures ∙ ap (slice_get b.greens) spot ∙ sym found.1 ∙ ap (λ q. action_of q id) c.self.view_is

pub returns-in-None-get : goal.returns-in-None-get
returns-in-None-get c =
    let b = parts_of c.self.inside.body in
    let id = c.args.id in
    let kept : c.len-kept.result ≡ length (b.positions (lane_of id)) = c.len-kept.ensures ∙ ap (λ k. length (b.positions k)) c.lane_of-slot.ensures.value in
    let i = c.len-kept.result - (c.get-green.result - id.index) - 1 in
    let none = drop-none (b.positions (lane_of id)) i (c.in-None-get.ensures ∙ ap (λ k. slice_get (b.positions k) i) c.lane_of-slot.ensures.value) in
    absurd (omega arith)

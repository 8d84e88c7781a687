use Rattle.std.proofs.Common.{◌≡◌, ◌∙◌, ◌-◌, length, ap, sym, arith}
use Rattle.std.specs.Prelude.{nat_lt}
use Rattle.cg_base.specs.Ids.{has_name}
use Rattle.cg_base.specs.Cuts.{index_in}
use Rattle.cg_queue.specs.Queue.{QueueView, names_of}
use Rattle.cg_queue.specs.Body.{parts_of}
use Rattle.cg_queue.proofs.FindLemmas.{red-not, red-test}
use Rattle.cg_queue.proofs.queue.Queue.is_red.Goals as goal

pub returns-then-cut-id : goal.returns-then-cut-id
returns-then-cut-id c =
    let b = parts_of c.self.inside.body in
    let id = c.args.id in
    let green : c.get-cut.result ≡ index_in b.green_cut id.creator = c.get-cut.ensures in
    sym (red-not b id c.self.invariant c.lane_of-slot.ensures.creator (omega arith)) ∙ ap (λ (q : QueueView). has_name (names_of q.reds) id) c.self.view_is

pub returns : goal.returns
returns c =
    let b = parts_of c.self.inside.body in
    let id = c.args.id in
    let i = id.index - c.get-cut.result - 1 in
    let green : c.get-cut.result ≡ index_in b.green_cut id.creator = c.get-cut.ensures in
    ap (nat_lt i) (c.len.ensures ∙ ap (λ k. length (b.reds k)) c.lane_of-slot.ensures.value)
    ∙ red-test b id c.self.invariant c.lane_of-slot.ensures.creator i (omega arith)
    ∙ ap (λ (q : QueueView). has_name (names_of q.reds) id) c.self.view_is

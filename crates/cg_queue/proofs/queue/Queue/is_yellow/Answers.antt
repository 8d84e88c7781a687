use Rattle.std.proofs.Common.{◌≡◌, ◌∙◌, ◌-◌, ap, sym, filter, arith}
use Rattle.std.specs.Prelude.{slice_get}
use Rattle.cg_base.specs.Ids.{has_name}
use Rattle.cg_base.specs.Cuts.{index_in}
use Rattle.cg_queue.specs.Queue.{QueueView}
use Rattle.cg_queue.specs.Body.{parts_of, is_above, flag_of, lane_of}
use Rattle.cg_queue.proofs.CutRises.{AreKnown-filter, names-unknown, names-below, is_above-false}
use Rattle.cg_queue.proofs.Soundness.{red-flag}
use Rattle.cg_queue.proofs.queue.Queue.is_yellow.Goals as goal

pub returns-then-known-id : goal.returns-then-known-id
returns-then-known-id c =
    let b = parts_of c.self.inside.body in
    let id = c.args.id in
    let known : c.get-known.result ≡ index_in b.red_cut id.creator = c.get-known.ensures in
    sym (names-unknown b.red_cut (filter (is_above b.green_cut) b.yellow) id (AreKnown-filter b.red_cut (is_above b.green_cut) b.yellow c.self.invariant.yellow) (omega arith))
    ∙ ap (λ (q : QueueView). has_name q.yellow id) c.self.view_is

pub returns-then-cut-id : goal.returns-then-cut-id
returns-then-cut-id c =
    let b = parts_of c.self.inside.body in
    let id = c.args.id in
    let green : c.get-cut.result ≡ index_in b.green_cut id.creator = c.get-cut.ensures in
    sym (names-below b.green_cut b.yellow id (is_above-false b.green_cut id (omega arith))) ∙ ap (λ (q : QueueView). has_name q.yellow id) c.self.view_is

pub returns : goal.returns
returns c =
    let b = parts_of c.self.inside.body in
    let id = c.args.id in
    let known : c.get-known.result ≡ index_in b.red_cut id.creator = c.get-known.ensures in
    let green : c.get-cut.result ≡ index_in b.green_cut id.creator = c.get-cut.ensures in
    let i : id.index - c.get-cut.result - 1 ≡ id.index - index_in b.green_cut id.creator - 1 = omega arith in
    c.is_flagged.ensures ∙ ap (λ k. flag_of (slice_get (b.reds k) (id.index - c.get-cut.result - 1))) c.lane_of-slot.ensures.value
    ∙ ap (λ j. flag_of (slice_get (b.reds (lane_of id)) j)) i
    ∙ red-flag b id c.self.invariant c.lane_of-slot.ensures.creator (omega arith) (omega arith)
    ∙ ap (λ (q : QueueView). has_name q.yellow id) c.self.view_is

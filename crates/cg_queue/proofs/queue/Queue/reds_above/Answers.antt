use Rattle.std.proofs.Common.{◌≡◌, ◌∙◌, ◌++◌, ◌-◌, drop, filter, ap, sym}
use Rattle.cg_base.specs.Cuts.{index_in}
use Rattle.cg_queue.specs.Queue.{QueueView}
use Rattle.cg_queue.specs.Body.{parts_of, actions_in}
use Rattle.cg_queue.proofs.RedsAbove.{is_behind, reds-above}
use Rattle.cg_queue.proofs.queue.Queue.reds_above.Goals as goal

pub returns : goal.returns
returns c =
    let b = parts_of c.self.inside.body in
    let creator = c.args.creator in
    let index = c.args.index in
    let first : c.saturating_sub-first.result ≡ index - index_in b.green_cut creator = c.saturating_sub-first.ensures ∙ ap (λ n. index - n) c.get.ensures in
    c.in_ok-copy_reds_from.ensures
    ∙ ap (λ xs. xs ++ actions_in (drop c.saturating_sub-first.result (b.reds c.lane_of-slot.result))) c.new-list.ensures
    ∙ ap (λ n. actions_in (drop n (b.reds c.lane_of-slot.result))) first
    ∙ ap (λ k. actions_in (drop (index - index_in b.green_cut creator) (b.reds k))) c.lane_of-slot.ensures.value
    ∙ sym (reds-above b creator index c.self.invariant c.lane_of-slot.ensures.creator)
    ∙ ap (λ (q : QueueView). filter (is_behind creator index) q.reds) c.self.view_is

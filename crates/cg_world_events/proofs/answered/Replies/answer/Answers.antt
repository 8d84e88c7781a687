use Rattle.std.proofs.Common.{◌≡◌, ◌+◌, [], fold, drop, sym, ap, ◌∙◌}
use Rattle.std.proofs.lemmas.List.{nil_from_length}
use Rattle.std.specs.Vec.Iter.{into_iter_items}
use Rattle.cg_model.specs.Show.{with_answered}
use Rattle.cg_world_events.proofs.answered.Replies.answer.Goals as goal
use Rattle.cg_model.specs.ShowLaws.{answered_from-none}

pub returns : goal.returns
returns c =
    let l = c.loop-reply in
    let none : into_iter_items l.reply-iterator ≡ [] = nil_from_length (into_iter_items l.reply-iterator) (sym l.reply-iterator.rest.ok.0 ∙ c.in-None.ensures.steps.0) in
    let total = rw none at l.invariant.1 in
    sym (ap (fold with_answered l.self) (answered_from-none (c.args.before + l.next) (drop l.next c.args.ids.now))) ∙ total

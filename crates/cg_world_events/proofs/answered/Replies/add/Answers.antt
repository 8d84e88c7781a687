use Rattle.std.proofs.Common.{sym, ap, ◌∙◌, subst}
use Rattle.cg_model.specs.Show.{Answered}
use Rattle.cg_world_events.specs.Showing.{Ascend}
use Rattle.cg_world_events.proofs.Ordered.{ascend-with}
use Rattle.cg_world_events.proofs.answered.Replies.add.Goals as goal

pub invariant_of-self-2 : goal.invariant_of-self-2
invariant_of-self-2 c =
    let there = c.count_up_to-at.ensures.value c.args.new (ap (λ (r : Answered). r.place) (sym c.new.view_is)) in
    let now = rw (← c.self.view_is) at there in
    subst Ascend (now ∙ sym c.in_ok-insert.ensures.items) (ascend-with c.self.inside.list.items c.args.new c.self.invariant)

use Rattle.std.proofs.Common.{◌≡◌, ◌∷◌, suc, fold, sym, ap, subst, ◌∙◌, rules, arith}
use Rattle.cg_base.specs.Iterators.{members_left}
use Rattle.cg_base.specs.Sets.{Ascends}
use Rattle.cg_group.specs.State.{no_group}
use Rattle.cg_model.specs.World.{World}
use Rattle.cg_model.specs.Step.{begin_replica}
use Rattle.cg_world_events.proofs.NotYetUp.{AreStillDown, down-lower, down-first, down-kept}
use Rattle.cg_world_events.proofs.beginning.begin_all.Goals as goal

pub loop-p-init : goal.loop-p-init
loop-p-init c =
    let members = ap members_left c.into_iter-p-iterator.ensures.into_iter_gives ∙ c.iter-p-items.ensures in (
      ap (λ set. fold (begin_replica c.args.set.now) c.args.state.now set) (members ∙ c.ids.ensures),
      subst (λ (w : World). AreStillDown w.group 0 (members_left c.into_iter-p-iterator.result)) (sym c.requires)
          (subst (AreStillDown no_group 0) (sym members) (down-lower no_group 0 1 c.ids.result (omega arith) (down-first 1 c.ids.result (subst (Ascends 1) (sym c.ids.ensures) c.holds.ensures.ascends)))),
    )

pub loop-p-preserved : goal.loop-p-preserved
loop-p-preserved c =
    let next : members_left c.loop-p.p-iterator ≡ c.in-Some.p ∷ members_left c.next.new.self = search rules in
    let before = rw next at c.loop-p.invariant in
    let begun = c.in_ok-begin_replica.ensures in
    let rest = members_left c.next.new.self in (
      ap (λ w. fold (begin_replica c.args.set.now) w rest) begun ∙ before.0,
      subst (λ (w : World). AreStillDown w.group 0 rest) (sym begun)
          (down-lower (begin_replica c.args.set.now c.loop-p.state c.in-Some.p).group 0 (suc c.in-Some.p) rest (omega arith)
          (down-kept c.loop-p.state.group c.in-Some.p (suc c.in-Some.p) rest (omega arith) before.1.2)),
    )

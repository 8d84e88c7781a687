use Rattle.std.proofs.Common.{◌≡◌, ◌-◌, suc, ap, sym, ◌∙◌, arith, add-one}
use Rattle.cg_group.specs.State.{GroupState}
use Rattle.cg_group.specs.Events.{order}
use Rattle.cg_group.specs.Logs.{group_of}
use Rattle.cg_group.specs.Rosters.{conf_of, pending}
use Rattle.cg_group.proofs.OrderFacts.{times, times-less, order_all-times}
use Rattle.cg_group.proofs.RoomFacts.{room_less, pending-own}
use Rattle.cg_group.proofs.gathering.order_all.Goals as goal

pub order_oldest-requires : goal.order_oldest-requires
order_oldest-requires g c = λ some.
    let conf = conf_of c.loop-i.roster c.args.p in
    let own = pending-own c.loop-i.roster c.args.p in
    room_less c.loop-i.logs conf (pending c.loop-i.roster conf) 1 (omega arith) (c.loop-i.invariant.1 conf)

pub loop-i-preserved : goal.loop-i-preserved
loop-i-preserved g c =
    let f : GroupState _ → GroupState _ = λ h. order h c.args.p in (
      rw add-one
          (ap (times (c.waiting-count.result - suc c.loop-i._i) f) c.order_oldest.ensures.group
          ∙ sym (times-less f (group_of c.loop-i.logs c.loop-i.roster) c.waiting-count.result c.loop-i._i c.loop-i-test.true) ∙ c.loop-i.invariant.0),
      c.order_oldest.ensures.room c.loop-i.invariant.1,
    )

pub returns-clause-group : goal.returns-clause-group
returns-clause-group g c =
    let f : GroupState _ → GroupState _ = λ h. order h c.args.p in
    let none : c.waiting-count.result - c.loop-i._i ≡ 0 = omega arith in
    sym (ap (λ n. times n f (group_of c.loop-i.logs c.loop-i.roster)) none) ∙ c.loop-i.invariant.0
    ∙ ap (λ n. times n f (group_of c.args.logs.now c.args.roster.now)) c.waiting-count.ensures
    ∙ sym (order_all-times (group_of c.args.logs.now c.args.roster.now) c.args.p)

use Rattle.std.proofs.Common.{◌≡◌, ℕ, ◌∷◌, suc, drop, sym, subst, ap, ◌∙◌, drop-cons, add-one}
use Rattle.cg_group.specs.Logs.{RoomFor}
use Rattle.cg_group.specs.Rosters.{pending}
use Rattle.cg_group.proofs.RoomFacts.{HasRoom, HasRoom-next}
use Rattle.cg_group.proofs.gathering.make_room.Goals as goal
use Rattle.cg_group.proofs.gathering.make_room.Goals.{then-conf-last+in_ok-reserve_pending, else-conf-last}

pub loop-member-preserved : goal.loop-member-preserved
loop-member-preserved g c =
    let members = c.args.members.now in
    let s = c.member-item.result in
    let left = drop (suc c.loop-member.member-index) members in
    let next : drop c.loop-member.member-index members ≡ s ∷ left =
    drop-cons members c.loop-member.member-index s c.loop-member-test.true ∙ ap (λ x. x ∷ left) (sym c.member-item.is) in
    let before : (k : ℕ) → HasRoom c.loop-member.logs members (s ∷ left) k = rw next at c.loop-member.invariant.room in
    elim c.if-conf-last.branch [
      | then-conf-last+in_ok-reserve_pending w ↦
          let here = rw c.regular_in-conf.ensures at w.in_ok-reserve_pending.ensures.room in rw (w.logs-is, w.last-is, add-one) (record {
            same = w.reserve_pending.ensures.same ∙ c.loop-member.invariant.same;
            last = w.in_ok-reserve_pending.ensures.room;
            room = HasRoom-next c.loop-member.logs w.reserve_pending.new.logs members left s w.reserve_pending.ensures.kept here before;
          })
      | else-conf-last w ↦
          let here = subst (λ k. RoomFor c.loop-member.logs k (pending members k)) (sym w.if-conf-last.false ∙ c.regular_in-conf.ensures) c.loop-member.invariant.last in
          rw (w.logs-is, w.last-is, add-one) (record {
            same = c.loop-member.invariant.same;
            last = c.loop-member.invariant.last;
            room = HasRoom-next c.loop-member.logs c.loop-member.logs members left s (λ k n r. r) here before;
          })
    ]

use Rattle.std.proofs.Common.{◌≡◌, suc, ◌+◌, Err, sym, subst, arith}
use Rattle.std.specs.Prelude.{Some}
use Rattle.cg_disk.specs.Sides.{opposite}
use Rattle.cg_disk.specs.View.{LeavesOnly}
use Rattle.cg_journal.specs.Answers.{with_record_alone, IsDone, IsRestarting, Restarts, EachMoment as EachJournalMoment}
use Rattle.cg_records.specs.Limits.{IsNumber}
use Rattle.cg_disk_records.specs.Parts.{checkpoint_in}
use Rattle.cg_store.specs.Stands.{OnDisk, Stands, moved}
use Rattle.cg_store.specs.StoreState.{StoreState, IsStore}
use Rattle.cg_store.specs.Answers.{EachMoment}
use Rattle.cg_store.specs.Calls.{IsEither, Moves}
use Rattle.cg_store.proofs.Appending.{standing_at, moved_held, moved_moments, moved_fails, moved_fails_moments}
use Rattle.cg_store.proofs.store.Store.restart.Goals as goal

pub invariant_of-result : goal.invariant_of-result
invariant_of-result g c =
    let s = c.self.inside in
    let old = g.D.Disk.view s.journal in
    let new = g.D.Disk.view c.in-Ok.journal in
    let body = c.args.body.now in
    let done = subst (λ x. IsDone (with_record_alone x body old) 6 old new) c.other-side.ensures c.in-Ok.ensures.ends in
    let saved = subst (λ k. (u : OnDisk) → Stands k.id (g.D.Disk.view k.disk).reads u → checkpoint_in k.id body ≡ Some (record { generation = suc u.generation; content = u.content })) (sym c.self.view_is) c.requires.saved in
    let small = subst (λ k. (u : OnDisk) → Stands k.id (g.D.Disk.view k.disk).reads u → IsNumber (suc u.generation)) (sym c.self.view_is) c.requires.small in
    let held = c.self.invariant in
    let is : IsNumber (suc s.generation) = small (standing_at s.side s.generation held.size held.content) held.stands in
    let next : suc s.generation ≡ s.generation + 1 = omega arith in
    rw c.other-side.ensures (subst (λ n. IsStore new s.id (opposite s.side) n s.values) next (moved_held old s.id s.side s.generation s.values held body saved new done is))

pub returns-in-Ok-clause-moments : goal.returns-in-Ok-clause-moments
returns-in-Ok-clause-moments g c =
    let s = c.self.inside in
    let old = g.D.Disk.view s.journal in
    let new = g.D.Disk.view c.in-Ok.journal in
    let body = c.args.body.now in
    let run = subst (λ x. LeavesOnly old new (IsRestarting x body old)) c.other-side.ensures c.in-Ok.ensures.moments in
    let saved = subst (λ k. (u : OnDisk) → Stands k.id (g.D.Disk.view k.disk).reads u → checkpoint_in k.id body ≡ Some (record { generation = suc u.generation; content = u.content })) (sym c.self.view_is) c.requires.saved in
    subst (λ k. (u : OnDisk) → Stands k.id (g.D.Disk.view k.disk).reads u → LeavesOnly (g.D.Disk.view k.disk) new (IsEither k.id u (moved u body))) c.self.view_is
    (λ u stands. moved_moments old s.id s.side s.generation s.values c.self.invariant body saved new u run stands)

pub returns-in-Err-clause-ends : goal.returns-in-Err-clause-ends
returns-in-Err-clause-ends g c =
    let s = c.self.inside in
    let view = g.D.Disk.view in
    let old = view s.journal in
    let body = c.args.body.now in
    let failed = subst (λ x. Restarts view x body old (Err c.in-Err.fault)) c.other-side.ensures c.in-Err.ensures.ends in
    let saved = subst (λ k. (u : OnDisk) → Stands k.id (view k.disk).reads u → checkpoint_in k.id body ≡ Some (record { generation = suc u.generation; content = u.content })) (sym c.self.view_is) c.requires.saved in
    subst (λ k. (u : OnDisk) → Stands k.id (view k.disk).reads u → Moves view k u (moved u body) (Err c.commit_fault.result)) c.self.view_is
    (λ u stands. subst (λ f. Moves view (record { disk = s.journal; id = s.id; unwritten = s.unwritten }) u (moved u body) (Err f)) (sym c.commit_fault.ensures)
    (moved_fails view (record { disk = s.journal; id = s.id; unwritten = s.unwritten }) s.side s.generation s.values c.self.invariant body saved u c.in-Err.fault failed stands))

pub returns-in-Err-clause-moments : goal.returns-in-Err-clause-moments
returns-in-Err-clause-moments g c =
    let s = c.self.inside in
    let view = g.D.Disk.view in
    let old = view s.journal in
    let body = c.args.body.now in
    let failed = subst (λ x. EachJournalMoment view (IsRestarting x body old) old (Err c.in-Err.fault)) c.other-side.ensures c.in-Err.ensures.moments in
    let saved = subst (λ k. (u : OnDisk) → Stands k.id (view k.disk).reads u → checkpoint_in k.id body ≡ Some (record { generation = suc u.generation; content = u.content })) (sym c.self.view_is) c.requires.saved in
    subst (λ k. (u : OnDisk) → Stands k.id (view k.disk).reads u → EachMoment {T = StoreState _} view (λ x. x.disk) (IsEither k.id u (moved u body)) (view k.disk) (Err c.commit_fault.result)) c.self.view_is
    (λ u stands. subst (λ f. EachMoment {T = StoreState _} view (λ x. x.disk) (IsEither s.id u (moved u body)) old (Err f)) (sym c.commit_fault.ensures)
    (moved_fails_moments view (record { disk = s.journal; id = s.id; unwritten = s.unwritten }) s.side s.generation s.values c.self.invariant body saved u c.in-Err.fault failed stands))

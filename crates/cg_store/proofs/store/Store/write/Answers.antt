use Rattle.std.proofs.Common.{◌≡◌, [], Err, refl, sym, subst}
use Rattle.cg_journal.specs.Records.{records}
use Rattle.cg_journal.specs.Adds.{IsEither as IsOneOf}
use Rattle.cg_journal.specs.Answers.{with_record, IsDone, Appends, EachMoment as EachJournalMoment}
use Rattle.cg_disk.specs.View.{LeavesOnly}
use Rattle.cg_store.specs.Stands.{OnDisk, Stands}
use Rattle.cg_store.specs.StoreState.{StoreState}
use Rattle.cg_store.specs.Answers.{IsReached, EachMoment}
use Rattle.cg_store.specs.Due.{IsLed, IsBehind}
use Rattle.cg_store.specs.Calls.{IsEither, Writes}
use Rattle.std.specs.Prelude.{Some}
use Rattle.cg_store.proofs.Appending.{written_held, written_reached, written_moments, written_fails, written_fails_moments}
use Rattle.cg_store.proofs.store.Store.write.Goals as goal

pub invariant_of-result : goal.invariant_of-result
invariant_of-result g c =
    let s = c.self.inside in
    let old = g.D.Disk.view s.journal in
    let new = g.D.Disk.view c.in-Ok.journal in
    let done = subst (λ b. IsDone (with_record s.side b old) 4 old new) c.as_slice.ensures c.in-Ok.ensures.ends in
    let leads = subst (λ k. (u : OnDisk) → Stands k.id (g.D.Disk.view k.disk).reads u → IsLed u c.args.due) (sym c.self.view_is) c.requires.leads in
    written_held old s.id s.side s.generation s.values c.self.invariant c.args.due new done leads

pub returns-in-Ok-clause-ends : goal.returns-in-Ok-clause-ends
returns-in-Ok-clause-ends g c =
    let s = c.self.inside in
    let old = g.D.Disk.view s.journal in
    let new = g.D.Disk.view c.in-Ok.journal in
    let done = subst (λ b. IsDone (with_record s.side b old) 4 old new) c.as_slice.ensures c.in-Ok.ensures.ends in
    subst (λ k. (u v : OnDisk) → Stands k.id (g.D.Disk.view k.disk).reads u → IsBehind u (Some c.args.due) v → IsReached k.id 4 v (g.D.Disk.view k.disk) new × (s.id ≡ k.id) × (c.new.result ≡ [])) c.self.view_is
    (λ u v stands behind. (written_reached old s.id s.side s.generation s.values c.self.invariant c.args.due new u v done stands behind, refl, c.new.ensures))

pub returns-in-Ok-clause-moments : goal.returns-in-Ok-clause-moments
returns-in-Ok-clause-moments g c =
    let s = c.self.inside in
    let old = g.D.Disk.view s.journal in
    let new = g.D.Disk.view c.in-Ok.journal in
    let run = subst (λ b. LeavesOnly old new (IsOneOf (records old.reads) (with_record s.side b old))) c.as_slice.ensures c.in-Ok.ensures.moments in
    subst (λ k. (u v : OnDisk) → Stands k.id (g.D.Disk.view k.disk).reads u → IsBehind u (Some c.args.due) v → LeavesOnly (g.D.Disk.view k.disk) new (IsEither k.id u v)) c.self.view_is
    (λ u v stands behind. written_moments old s.id s.side s.generation s.values c.self.invariant c.args.due new u v run stands behind)

pub returns-clause-ends : goal.returns-clause-ends
returns-clause-ends g c =
    let s = c.self.inside in
    let view = g.D.Disk.view in
    let old = view s.journal in
    let failed = subst (λ b. Appends view s.side b old (Err c.in-Err.fault)) c.as_slice.ensures c.in-Err.ensures.ends in
    subst (λ k. (u v : OnDisk) → Stands k.id (view k.disk).reads u → IsBehind u (Some c.args.due) v → Writes view k u v (Err c.commit_fault.result)) c.self.view_is
    (λ u v stands behind. subst (λ f. Writes view (record { disk = s.journal; id = s.id; unwritten = s.unwritten }) u v (Err f)) (sym c.commit_fault.ensures)
    (written_fails view (record { disk = s.journal; id = s.id; unwritten = s.unwritten }) s.side s.generation s.values c.self.invariant c.args.due u v c.in-Err.fault failed stands behind))

pub returns-clause-moments : goal.returns-clause-moments
returns-clause-moments g c =
    let s = c.self.inside in
    let view = g.D.Disk.view in
    let old = view s.journal in
    let failed = subst (λ b. EachJournalMoment view (IsOneOf (records old.reads) (with_record s.side b old)) old (Err c.in-Err.fault)) c.as_slice.ensures c.in-Err.ensures.moments in
    subst (λ k. (u v : OnDisk) → Stands k.id (view k.disk).reads u → IsBehind u (Some c.args.due) v → EachMoment {T = StoreState _} view (λ x. x.disk) (IsEither k.id u v) (view k.disk) (Err c.commit_fault.result)) c.self.view_is
    (λ u v stands behind. subst (λ f. EachMoment {T = StoreState _} view (λ x. x.disk) (IsEither s.id u v) old (Err f)) (sym c.commit_fault.ensures)
    (written_fails_moments view (record { disk = s.journal; id = s.id; unwritten = s.unwritten }) s.side s.generation s.values c.self.invariant c.args.due u v c.in-Err.fault failed stands behind))

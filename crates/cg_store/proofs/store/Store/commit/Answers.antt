use Rattle.std.proofs.Common.{Err, sym, subst}
use Rattle.cg_client.specs.Drafts.{turn_with}
use Rattle.cg_client.specs.Replica.{Left}
use Rattle.cg_disk_records.specs.Commit.{commits}
use Rattle.cg_store.specs.Stands.{committed}
use Rattle.cg_store.specs.StoreState.{StoreState}
use Rattle.cg_store.specs.declared.outputs.Outputs.{Outputs}
use Rattle.cg_store.specs.Answers.{EachMoment}
use Rattle.cg_base.specs.Choice.{Either}
use Rattle.cg_store.specs.Calls.{Commits, Keeps, IsEither}
use Rattle.cg_store.specs.declared.errors.CommitErr.TheVariants.{NoMemory}
use Rattle.cg_store.proofs.Committing.{led_of, behind_of, whether_of, refused_ends, refused_moments}
use Rattle.cg_store.proofs.store.Store.commit.Goals as goal

pub commit_parts-requires-clause-leads : goal.commit_parts-requires-clause-leads
commit_parts-requires-clause-leads g c = λ u stands.
    led_of c.changes_are_exact.ensures.again u c.args.self.unwritten c.args.core.now c.args.draft Left c.in-Ok.due (c.in-Ok.ensures.due u Left stands) (c.requires.recorded u Left stands)

pub returns-in-Ok-clause-ends : goal.returns-in-Ok-clause-ends
returns-in-Ok-clause-ends g c = λ u state stands.
    let view = g.D.Disk.view in
    let self = c.args.self in
    let d = c.args.draft in
    let v = committed self.unwritten (turn_with c.args.core.now state d) u in
    let ready = c.in-Ok.ensures.due u state stands in
    let behind = behind_of c.changes_are_exact.ensures.again u self.unwritten c.args.core.now d state c.in-Ok.due ready (c.requires.recorded u state stands) in
    let parts = c.into_parts.result in
    subst (λ x. Either (commits u.content (turn_with c.args.core.now state d)) (Commits view self u v x c.commit_parts.result) (Keeps self x c.commit_parts.result)) c.into_parts.ensures.value
    (whether_of u.content self.unwritten c.args.core.now d state c.in-Ok.due (Commits view self u v parts c.commit_parts.result) (Keeps self parts c.commit_parts.result) ready (c.commit_parts.ensures.ends u v stands behind))

pub returns-in-Ok-clause-moments : goal.returns-in-Ok-clause-moments
returns-in-Ok-clause-moments g c = λ u state stands.
    let self = c.args.self in
    let d = c.args.draft in
    let v = committed self.unwritten (turn_with c.args.core.now state d) u in
    let ready = c.in-Ok.ensures.due u state stands in
    let behind = behind_of c.changes_are_exact.ensures.again u self.unwritten c.args.core.now d state c.in-Ok.due ready (c.requires.recorded u state stands) in
    c.commit_parts.ensures.moments u v stands behind

pub returns-in-Err-clause-ends : goal.returns-in-Err-clause-ends
returns-in-Err-clause-ends g c = λ u state stands.
    let view = g.D.Disk.view in
    let self = c.args.self in
    let d = c.args.draft in
    let t = turn_with c.args.core.now state d in
    let v = committed self.unwritten t u in
    subst (λ x. Either (commits u.content t) (Commits view self u v d (Err (NoMemory x))) (Keeps self d (Err (NoMemory x)))) (sym c.into_disk.ensures.disk)
    (refused_ends view self (g.met.D.Disk.is_view self.disk) c.into_disk.ensures.rest u stands v d (commits u.content t))

pub returns-in-Err-clause-moments : goal.returns-in-Err-clause-moments
returns-in-Err-clause-moments g c = λ u state stands.
    let view = g.D.Disk.view in
    let self = c.args.self in
    let v = committed self.unwritten (turn_with c.args.core.now state c.args.draft) u in
    subst (λ x. EachMoment {T = StoreState _ × Outputs} view (λ done. done.0.disk) (IsEither self.id u v) (view self.disk) (Err (NoMemory x))) (sym c.into_disk.ensures.disk)
    (refused_moments view self (g.met.D.Disk.is_view self.disk) c.into_disk.ensures.rest u stands (StoreState _ × Outputs) (λ done. done.0.disk) v)

use Rattle.std.proofs.Common.{◌≡◌, true, IfSome, sym, subst, rules}
use Rattle.cg_store.specs.StoreState.{StoreState}
use Rattle.cg_store.specs.Answers.{EachMoment}
use Rattle.cg_store.specs.Due.{IsLed, IsBehind, WhetherDue}
use Rattle.cg_store.specs.Calls.{Commits, Keeps, IsEither}
use Rattle.cg_store.specs.EndingLaws.{paired_moments}
use Rattle.cg_store.proofs.Committing.{paired_writes}
use Rattle.cg_store.proofs.store.Store.commit_parts.Goals as goal

pub write-requires-clause-leads : goal.write-requires-clause-leads
write-requires-clause-leads g c = λ u stands. subst (λ o. IfSome o (IsLed u)) c.in-Some.is (c.requires.leads u stands)

pub returns-in-Some-clause-ends : goal.returns-in-Some-clause-ends
returns-in-Some-clause-ends g c = λ u v stands behind.
    let view = g.D.Disk.view in
    let self = c.args.self in
    let p = c.args.parts in
    let here = subst (λ o. IsBehind u o v) c.in-Some.is behind in
    let written : c.is_some.result ≡ true = search rules in
    subst (λ o. WhetherDue o (Commits view self u v p c.paired.result) (Keeps self p c.paired.result)) (sym c.in-Some.is)
    (subst (λ r. Commits view self u v p r) (sym c.paired.ensures)
    (paired_writes view self u v p c.write.result _ (λ i. record { made = p.made; sent = p.sent; replies = p.replies; green = p.green; written = written i }) (c.write.ensures.ends u v stands here)))

pub returns-in-Some-clause-moments : goal.returns-in-Some-clause-moments
returns-in-Some-clause-moments g c = λ u v stands behind.
    let view = g.D.Disk.view in
    let self = c.args.self in
    let here = subst (λ o. IsBehind u o v) c.in-Some.is behind in
    subst (λ r. EachMoment {T = StoreState _ × _} view (λ done. done.0.disk) (IsEither self.id u v) (view self.disk) r) (sym c.paired.ensures)
    (paired_moments view (IsEither self.id u v) (view self.disk) c.write.result _ (c.write.ensures.moments u v stands here))

pub returns-in-None-clause-moments : goal.returns-in-None-clause-moments
returns-in-None-clause-moments g c = λ u v stands behind.
    let view = g.D.Disk.view in
    let self = c.args.self in
    subst (λ r. EachMoment {T = StoreState _ × _} view (λ done. done.0.disk) (IsEither self.id u v) (view self.disk) r) (sym c.paired-in-None.ensures)
    (paired_moments view (IsEither self.id u v) (view self.disk) c.keep_marks.result _ (c.keep_marks.ensures.moments u v stands))

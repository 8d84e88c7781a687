use Rattle.std.proofs.Common.{◌≡◌, Err, sym, subst}
use Rattle.cg_disk.specs.View.{LeavesOnly}
use Rattle.cg_follow.specs.Followed.{fed}
use Rattle.cg_follow.specs.Stands.{IsEither}
use Rattle.cg_follow.specs.Feeding.{IsReached}
use Rattle.cg_follow.specs.Answers.{Takes, EachMoment}
use Rattle.cg_follow.proofs.Feeding.{fed-reached, fed-moments, feed-fails, feed-fails-moments}
use Rattle.cg_follow.proofs.follower.Follower.take.Goals as goal

pub invariant_of-result : goal.invariant_of-result
invariant_of-result g c =
    let s = c.self.inside in
    let reached = fed-reached (g.D.Disk.view s.journal) s.taken c.args.body.now c.args.actions.now c.self.invariant.stands c.requires.is (g.D.Disk.view c.in-Ok-append.journal) c.in-Ok-append.ensures.ends in
    rw c.in-Ok.ensures (record { stands = reached.stands; rest = reached.rest })

pub returns-in-Ok-append-clause-ends : goal.returns-in-Ok-append-clause-ends
returns-in-Ok-append-clause-ends g c =
    let s = c.self.inside in
    let actions = c.args.actions.now in
    let new = g.D.Disk.view c.in-Ok-append.journal in
    let reached = fed-reached (g.D.Disk.view s.journal) s.taken c.args.body.now actions c.self.invariant.stands c.requires.is new c.in-Ok-append.ensures.ends in
    subst (λ k. IsReached 4 (fed k.now actions) (g.D.Disk.view k.disk) new ×
    (c.take.new.self ≡ fed k.now actions)) c.self.view_is (reached, c.in-Ok.ensures)

pub returns-in-Ok-append-clause-moments : goal.returns-in-Ok-append-clause-moments
returns-in-Ok-append-clause-moments g c =
    let s = c.self.inside in
    let actions = c.args.actions.now in
    let new = g.D.Disk.view c.in-Ok-append.journal in
    subst (λ k. LeavesOnly (g.D.Disk.view k.disk) new (IsEither k.now (fed k.now actions))) c.self.view_is
    (fed-moments (g.D.Disk.view s.journal) s.taken c.args.body.now actions c.self.invariant.stands c.requires.is new c.in-Ok-append.ensures.moments)

pub returns-in-Err-clause-ends : goal.returns-in-Err-clause-ends
returns-in-Err-clause-ends g c =
    let s = c.self.inside in
    let view = g.D.Disk.view in
    let actions = c.args.actions.now in
    subst (λ k. Takes view k actions (Err c.follow_fault.result)) c.self.view_is
    (subst (λ f. Takes view (record { disk = s.journal; now = s.taken }) actions (Err f)) (sym c.follow_fault.ensures)
    (feed-fails view (record {
      disk = s.journal;
      now =
          s.taken;
    }) c.args.body.now actions c.self.invariant.stands c.requires.is c.in-Err.fault c.in-Err.ensures.ends))

pub returns-in-Err-clause-moments : goal.returns-in-Err-clause-moments
returns-in-Err-clause-moments g c =
    let s = c.self.inside in
    let view = g.D.Disk.view in
    let actions = c.args.actions.now in
    subst (λ k. EachMoment view (IsEither k.now (fed k.now actions)) (view k.disk)
    (Err c.follow_fault.result)) c.self.view_is
    (subst (λ f. EachMoment view (IsEither s.taken (fed s.taken actions)) (view s.journal) (Err f))
    (sym c.follow_fault.ensures)
    (feed-fails-moments view (record {
      disk = s.journal;
      now =
          s.taken;
    }) c.args.body.now actions c.self.invariant.stands c.requires.is c.in-Err.fault c.in-Err.ensures.moments))

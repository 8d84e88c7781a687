use Rattle.std.proofs.Common.{Ok, Err, refl, subst}
use Rattle.cg_disk_records.specs.Commit.{commits}
use Rattle.cg_engine.specs.Seen.{turn_of}
use Rattle.cg_engine.specs.Answers.{EndsEvent}
use Rattle.cg_engine.specs.declared.answers.Handled.{Handled}
use Rattle.cg_engine.proofs.Committing.{ended_at, moments_at}
use Rattle.cg_engine.proofs.Ending.{fail_event_as, ends_with, failed, may_go_on}
use Rattle.cg_engine.proofs.engine.Engine.write.Goals as goal

pub whiten_and_save-requires-clause-may : goal.whiten_and_save-requires-clause-may
whiten_and_save-requires-clause-may g c =
    let view = g.D.Disk.view in
    let store = c.args.store in
    let r = c.args.replica in
    let d = c.args.draft in
    let here = c.holds.ensures.stands in
    may_go_on view store here.0 r d c.args.last c.requires.named (c.requires.may here.0 here.1) here.1 c.in-Ok.store c.in-Ok.outputs (commits here.0.content (turn_of r d)) refl
    (ended_at view store here.0 r d c.core.result.now c.core.ensures (Ok (c.in-Ok.store, c.in-Ok.outputs)) (c.in-Ok.ensures.ends here.0 r.state here.1))

pub returns-in-Ok : goal.returns-in-Ok
returns-in-Ok g c = λ u stands.
    let view = g.D.Disk.view in
    let store = c.args.store in
    let r = c.args.replica in
    let d = c.args.draft in
    ends_with view store u r d c.args.last c.requires.named c.in-Ok.store c.in-Ok.outputs c.whiten_and_save.result (g.met.D.Disk.is_view store.disk) c.holds.ensures.rest stands
    (commits u.content (turn_of r d)) (ended_at view store u r d c.core.result.now c.core.ensures (Ok (c.in-Ok.store, c.in-Ok.outputs)) (c.in-Ok.ensures.ends u r.state stands))
    (moments_at view store u r d c.core.result.now c.core.ensures (Ok (c.in-Ok.store, c.in-Ok.outputs)) (c.in-Ok.ensures.moments u r.state stands)) c.whiten_and_save.ensures

pub returns-in-Err : goal.returns-in-Err
returns-in-Err g c = λ u stands.
    let view = g.D.Disk.view in
    let store = c.args.store in
    let r = c.args.replica in
    let d = c.args.draft in
    let t = turn_of r d in
    subst (λ (x : Handled _). EndsEvent view store c.args.last.count u t (commits u.content t) x) (fail_event_as c.in-Err.fault c.id-id.result store.id c.args.last c.fail_event.result c.fail_event.ensures c.id-id.ensures)
    (failed view store u r d c.args.last c.requires.named (g.met.D.Disk.is_view store.disk) c.holds.ensures.rest stands c.in-Err.fault (commits u.content (turn_of r d))
    (ended_at view store u r d c.core.result.now c.core.ensures (Err c.in-Err.fault) (c.in-Err.ensures.ends u r.state stands))
    (moments_at view store u r d c.core.result.now c.core.ensures (Err c.in-Err.fault) (c.in-Err.ensures.moments u r.state stands)))

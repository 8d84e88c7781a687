use Rattle.std.proofs.Common.{refl, sym, ◌∙◌, ap, subst}
use Rattle.cg_queue.specs.Queue.{green_count}
use Rattle.cg_disk_records.specs.Commit.{commits}
use Rattle.cg_model.specs.Recorded.{AreBooked}
use Rattle.cg_states.specs.ReplicaStep.{replica_step}
use Rattle.cg_store.specs.Stands.{Stands}
use Rattle.cg_engine.specs.Inputs.{input_of}
use Rattle.cg_engine.specs.Seen.{turn_of}
use Rattle.cg_engine.specs.Engines.{Up}
use Rattle.cg_engine.specs.Answers.{HandlesEvent}
use Rattle.cg_engine.specs.Ending.{up}
use Rattle.cg_engine.proofs.Handling.{follows_at, stands_there, handles, handles_step, may_end_there}
use Rattle.cg_engine.proofs.engine.Engine.handle.Goals as goal

pub end-requires-clause-may : goal.end-requires-clause-may
end-requires-clause-may g c =
    let always = c.what_is_held_agrees.ensures in
    let each = c.each_commit_is_recorded.ensures in
    let old = up c.self.inside.store c.self.inside.replica in
    let input = input_of c.args.input in
    let book = c.requires.booked.0 in
    may_end_there always.holds always.counts always.settled c.each_event_keeps_what_holds.ensures each.recorded each.ahead g.D.Disk.view old c.begin.new.self input book (turn_of c.in-Ok.replica c.in-Ok.draft) c.self.invariant
    (subst (λ (x : Up _). AreBooked book x.replica.held input) (sym c.self.view_is) c.requires.booked.1) c.begin.ensures.disk c.begin.ensures.id c.begin.ensures.unwritten c.in-Ok.ensures

pub returns-in-Ok : goal.returns-in-Ok
returns-in-Ok g c = λ u.
    let view = g.D.Disk.view in
    let old = up c.self.inside.store c.self.inside.replica in
    let mid = c.begin.new.self in
    let begun = c.begin.ensures in
    let input = input_of c.args.input in
    let counted = c.green_count-count.ensures.value ∙ ap (λ h. green_count h.queue) c.core-2.ensures in
    subst (λ (x : Up _). Stands x.store.id (view x.store.disk).reads u → HandlesEvent view x u (replica_step x.replica input) c.end.result) c.self.view_is
    (λ stands.
    handles_step view old mid begun.disk begun.id begun.unwritten u (replica_step old.replica input) (turn_of c.in-Ok.replica c.in-Ok.draft) c.green_count-count.result c.end.result
    (follows_at (view old.store.disk) old.store.id old.store.unwritten old.replica.held u c.self.invariant stands) c.in-Ok.ensures counted
    (c.end.ensures u (stands_there view old mid begun.disk begun.id begun.unwritten u stands)))

pub returns-in-Err : goal.returns-in-Err
returns-in-Err g c = λ u.
    let view = g.D.Disk.view in
    let old = up c.self.inside.store c.self.inside.replica in
    let mid = c.begin.new.self in
    let begun = c.begin.ensures in
    let t = replica_step old.replica (input_of c.args.input) in
    let counted = c.green_count-count.ensures.value ∙ ap (λ h. green_count h.queue) c.core-2.ensures in
    let written = commits old.replica.held t in
    subst (λ (x : Up _). Stands x.store.id (view x.store.disk).reads u → HandlesEvent view x u (replica_step x.replica (input_of c.args.input)) c.refuse.result) c.self.view_is
    (λ stands.
    handles view old mid begun.disk begun.id begun.unwritten u t c.green_count-count.result written c.refuse.result counted refl
    (c.refuse.ensures u t written (stands_there view old mid begun.disk begun.id begun.unwritten u stands)))

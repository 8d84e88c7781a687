use Rattle.std.proofs.Common.{Ok, Err, sym, ◌∙◌, ap, subst}
use Rattle.cg_disk_records.specs.Stored.{stored_of}
use Rattle.cg_disk_records.specs.Agreeing.{Agrees}
use Rattle.cg_engine.specs.Ending.{fail_event}
use Rattle.cg_engine.proofs.GoingOn.{engine_here, engine_behind, saved_as}
use Rattle.cg_engine.proofs.engine.Engine.save.Goals as goal

pub run-requires : goal.run-requires
run-requires g c = engine_here g.D.Disk.view c.args.store c.args.replica.held c.requires.may c.holds.ensures.stands

pub checkpoint-requires-clause-held : goal.checkpoint-requires-clause-held
checkpoint-requires-clause-held g c = λ u stands. ap stored_of c.core.ensures ∙ (c.requires.may u stands).held

pub checkpoint-requires-clause-agrees : goal.checkpoint-requires-clause-agrees
checkpoint-requires-clause-agrees g c =
    let here = c.holds.ensures.stands in
    subst (λ h. Agrees (stored_of h)) (sym c.core.ensures) (c.requires.may here.0 here.1).agrees

pub run-requires-in-Ok : goal.run-requires-in-Ok
run-requires-in-Ok g c =
    let here = c.holds.ensures.stands in
    engine_behind g.D.Disk.view c.args.store c.args.replica.held c.requires.may here c.in-Ok.store (c.in-Ok.ensures.ends here.0 here.1)

pub returns-in-Ok : goal.returns-in-Ok
returns-in-Ok g c = λ w stands.
    saved_as g.D.Disk.view c.args.store w c.args.replica c.args.outputs c.args.last c.run-in-Ok.result (Ok c.in-Ok.store) (sym (c.is_long.ensures w stands) ∙ c.if-not-is_long.false)
    (c.in-Ok.ensures.ends w stands) (c.in-Ok.ensures.moments w stands) c.run-in-Ok.ensures

pub returns-in-Err : goal.returns-in-Err
returns-in-Err g c = λ w stands.
    saved_as g.D.Disk.view c.args.store w c.args.replica c.args.outputs c.args.last c.fail_event.result (Err c.in-Err.fault) (sym (c.is_long.ensures w stands) ∙ c.if-not-is_long.false)
    (c.in-Err.ensures.ends w stands) (c.in-Err.ensures.moments w stands)
    (c.fail_event.ensures ∙ ap (λ id. fail_event c.in-Err.fault id c.args.last) c.id-id.ensures)

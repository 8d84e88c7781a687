use Rattle.std.proofs.Common.{sym, ◌∙◌, ap, subst}
use Rattle.cg_client.specs.Replica.{Replica}
use Rattle.cg_disk_records.specs.Stored.{stored_of}
use Rattle.cg_disk_records.specs.Agreeing.{Agrees}
use Rattle.cg_engine.proofs.Starting.{fresh_agrees, fresh_engine}
use Rattle.cg_engine.proofs.engine.Engine.create.Goals as goal

pub create-requires-clause-agrees : goal.create-requires-clause-agrees
create-requires-clause-agrees g c =
    let always = c.what_is_held_agrees.ensures in
    subst (λ h. Agrees (stored_of h)) (sym (c.core.ensures ∙ ap (λ (r : Replica). r.held) c.requires.new)) (fresh_agrees always.holds always.counts c.args.id c.args.servers.now always.settled)

pub invariant_of-result : goal.invariant_of-result
invariant_of-result g c =
    let always = c.what_is_held_agrees.ensures in
    let view = g.D.Disk.view in
    let held_is = ap (λ (r : Replica). r.held) c.requires.new in
    fresh_engine always.holds always.counts c.args.id c.args.servers.now view c.in-Ok.store (view c.args.disk) c.core.result.now c.args.replica.held (c.core.ensures ∙ held_is) held_is c.in-Ok.ensures

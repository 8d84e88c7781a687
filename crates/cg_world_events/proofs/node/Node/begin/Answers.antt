use Rattle.std.proofs.Common.{refl, ◌∙◌}
use Rattle.cg_disk.specs.Model.{view_of, state_of}
use Rattle.cg_world_events.proofs.NewReplicas.{starts_so}
use Rattle.cg_world_events.proofs.node.Node.begin.Goals as goal

pub returns-in-Running : goal.returns-in-Running
returns-in-Running c =
    let e = c.in-Running.engine in
    c.up.ensures ∙ starts_so view_of c.strikes_end_as_defined.ensures c.args.id c.args.servers.now (view_of c.new.result) e c.new-in-Running.result (state_of e.store.disk) c.new.ensures refl c.in-Running.ensures

use Rattle.std.proofs.Common.{◌≡◌, OnOk, None, is_some, false, refl, ap, subst, sym}
use Rattle.cg_model.specs.Admission.{is_weighted}
use Rattle.cg_model.specs.Step.{downgraded, downgrade}
use Rattle.cg_model.specs.World.{World, replica_of}
use Rattle.cg_world_events.specs.contracts.state.WorldState.{the_view}
use Rattle.cg_world_events.proofs.StruckNodes.{made-done, old-some, weightless}
use Rattle.cg_world_events.proofs.recovering.make_old.Goals as goal

pub downgrade-requires : goal.downgrade-requires
downgrade-requires c =
    weightless (the_view c.state.inside) c.args.p c.in-Some.node c.in-Some.ensures.taken.0
    (subst (λ (w : World). is_weighted w c.args.p ≡ None) (sym c.state.view_is) c.requires.light)

pub returns-in_ok-node-in-Some : goal.returns-in_ok-node-in-Some
returns-in_ok-node-in-Some c =
    let w = the_view c.state.inside in
    subst (λ (w : World). OnOk c.put.result (the_view (record c.state.inside { nodes = c.put.new.self }) ≡ downgrade w c.args.p)) c.state.view_is
    (made-done w (record w { nodes = c.take.new.self }) c.args.p c.in-Some.node c.in-Some.ensures.taken.0
    (λ life. ap (λ list. record w { nodes = list }) (c.in-Some.ensures.taken.1 (record { id = c.args.p; life = life }) refl)) downgraded
    (old-some w c.args.p c.in-Some.node c.in-Some.ensures.taken.0 (subst (λ (w : World). is_some (replica_of w c.args.p) ≡ false) (sym c.state.view_is) c.requires.down))
    c.in_ok-node-in-Some.node c.in_ok-node-in-Some.ensures c.put.result c.put.new.self c.put.ensures)

use Rattle.std.proofs.Common.{false, ap, ◌∙◌}
use Rattle.cg_client.specs.Drafts.{turn_with}
use Rattle.cg_client.specs.Replica.{NonPrim}
use Rattle.cg_client.specs.Summary.{own_to_red}
use Rattle.cg_exchange.specs.States.{Outside}
use Rattle.cg_disk_records.specs.Stored.{recovery_turn}
use Rattle.cg_engine.specs.Seen.{turn_of}
use Rattle.cg_engine.proofs.replica.Replica.recovered.Goals as goal

pub returns-in-Ok : goal.returns-in-Ok
unfolding recovery_turn
returns-in-Ok c =
    ap (λ (o : Outside). turn_of (record { held = o.held; state = NonPrim o.regular }) c.own_to_red.new.draft) c.recovered.ensures
    ∙ c.in-Ok.ensures (NonPrim false)
    ∙ ap (λ d. own_to_red (turn_with c.args.core (NonPrim false) d)) c.new-draft.ensures

use Rattle.std.proofs.Common.{not, filter, ap, ◌∙◌, rules}
use Rattle.std.specs.Prelude.{◌==◌}
use Rattle.std.proofs.lemmas.Fn.{filter_same}
use Rattle.cg_model.specs.World.{TransferState}
use Rattle.cg_world_events.proofs.transfers.Transfers.end_of.Goals as goal

pub returns : goal.returns
returns c =
    filter_same _ _ _ (λ x b f' k. search rules) _ _ c.retain.ensures.filtered ∙ ap (filter (λ (s : TransferState). not (s.giver == c.args.giver))) c.self.view_is

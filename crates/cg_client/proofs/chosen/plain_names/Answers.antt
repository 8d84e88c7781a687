use Rattle.std.proofs.Common.{◌≡◌, not, filter, List, ◌∙◌}
use Rattle.std.proofs.lemmas.Result.{IfOk-weaker}
use Rattle.cg_base.specs.declared.action_id.ActionId.{ActionId}
use Rattle.cg_base.specs.Ids.{has_name}
use Rattle.cg_queue.specs.Queue.{names_of}
use Rattle.cg_client.specs.Chosen.{plain_reds}
use Rattle.cg_client.proofs.Naming.{names-filter}
use Rattle.cg_client.proofs.chosen.plain_names.Goals as goal

pub returns : goal.returns
returns c =
    let q = c.args.queue.now in
    IfOk-weaker c.plain_red_names.result
    (λ (ids : List ActionId). ids ≡ filter (λ id. not (has_name q.yellow id)) (names_of q.reds)) (λ (ids : List ActionId). ids ≡ names_of (plain_reds q))
    (λ ids is. is ∙ names-filter (has_name q.yellow) q.reds) c.plain_red_names.ensures

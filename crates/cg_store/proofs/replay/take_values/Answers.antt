use Rattle.std.specs.List.{list_all}
use Rattle.std.proofs.lemmas.Bool.{and_parts}
use Rattle.cg_base.specs.Ids.{has_name}
use Rattle.cg_queue.specs.Distinct.{is_distinct}
use Rattle.cg_queue.specs.Queue.{names_of}
use Rattle.cg_store.proofs.Replaying.{are_reds}
use Rattle.cg_store.proofs.replay.take_values.Goals as goal

pub take_over-requires-clause-reds : goal.take_over-requires-clause-reds
take_over-requires-clause-reds c =
    let q = c.args.core.now.queue in
    let ids = c.args.stable.now.yellow.list in
    are_reds q ids (and_parts (is_distinct ids) (list_all (has_name (names_of q.reds)) ids) c.requires).1

pub take_over-requires-clause-distinct : goal.take_over-requires-clause-distinct
take_over-requires-clause-distinct c =
    let q = c.args.core.now.queue in
    let ids = c.args.stable.now.yellow.list in
    (and_parts (is_distinct ids) (list_all (has_name (names_of q.reds)) ids) c.requires).0

use Rattle.std.proofs.Common.{rules}
use Rattle.cg_codec.specs.Laws.{AreBytes}
use Rattle.cg_follow.proofs.records.read_feed.Goals as goal

pub returns-in-Ok-clause-within : goal.returns-in-Ok-clause-within
returns-in-Ok-clause-within c =
    let fits : AreBytes c.args.bytes.now = λ i. search rules in
    (c.followers_are_exact.ensures.exact.feed.found c.in-Ok.actions c.args.bytes.now fits c.in-Ok.ensures).0.actions.each

use Rattle.std.proofs.Common.{◌∙◌, ap, sym, subst}
use Rattle.cg_queue.specs.Body.{seen, IsSound}
use Rattle.cg_queue.proofs.Soundness.{no_parts-seen, no_parts-sound}
use Rattle.cg_queue.proofs.queue.Queue.resume.Goals as goal

pub invariant_of-result : goal.invariant_of-result
invariant_of-result c = subst IsSound (sym c.empty_body.ensures.parts) (no_parts-sound c.args.white c.args.cut c.empty_body.ensures.cut c.requires)

pub returns : goal.returns
returns c = ap seen c.empty_body.ensures.parts ∙ no_parts-seen c.args.white c.args.cut

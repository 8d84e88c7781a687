use Rattle.std.proofs.Common.{◌∙◌, ◌<◌, ◌+◌, length, suc, ap, sym, subst, arith}
use Rattle.cg_queue.specs.Queue.{discarded, green_count}
use Rattle.cg_queue.specs.Body.{seen, parts_of, IsSound}
use Rattle.cg_queue.proofs.Soundness.{dropped-sound, dropped-seen}
use Rattle.cg_queue.proofs.queue.Queue.discard_first.Goals as goal

pub invariant_of-self : goal.invariant_of-self
invariant_of-self c = subst IsSound (sym c.drop_green.ensures.value) (dropped-sound (parts_of c.self.inside.body) c.drop_green.ensures.creator c.self.invariant)

pub returns : goal.returns
returns c =
    let b = parts_of c.self.inside.body in
    let more : b.white < b.white + length b.greens = subst (λ q. q.white < green_count q) (sym c.self.view_is) c.requires in
    ap seen c.drop_green.ensures.value ∙ dropped-seen b (omega arith) ∙ ap (λ q. discarded q (suc q.white)) c.self.view_is

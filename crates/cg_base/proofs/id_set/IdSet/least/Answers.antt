use Rattle.std.proofs.Common.{◌≡◌, ◌<◌, Some, suc, sym, ap, ◌∙◌, arith, w32, add-one}
use Rattle.std.specs.Int.{trailing_zeros}
use Rattle.cg_base.specs.Sets.{least}
use Rattle.cg_base.proofs.WordLemmas.{members, members-0, least-members}
use Rattle.cg_base.proofs.id_set.IdSet.least.Goals as goal

pub returns-then-self-eq0 : goal.returns-then-self-eq0
returns-then-self-eq0 c = rw (← c.self.view_is) (sym (ap (λ w. least (members w)) c.if-self-eq0.true ∙ ap least members-0))

pub returns : goal.returns
returns c =
    let some : 0 < c.self.inside.word = omega arith in
    let next : c.known.result ≡ suc (trailing_zeros w32 c.self.inside.word) = c.known.ensures ∙ add-one (trailing_zeros w32 c.self.inside.word) in
    rw (← c.self.view_is) (ap Some next ∙ sym (least-members c.self.inside.word some c.self.invariant))

use Rattle.std.proofs.Common.{◌≡◌, ◌∙◌, refl, rules}
use Rattle.cg_base.specs.Iterators.{members_left}
use Rattle.cg_base.specs.Weights.{ids}
use Rattle.cg_members.proofs.ServerLemmas.{lines-with}
use Rattle.cg_members.proofs.server_set.ServerSet.least_line.Goals as goal

pub loop-id-init : goal.loop-id-init
loop-id-init c =
    let found : members_left c.into_iter-id-iterator.result ≡ c.self.inside.members = search rules in
    let all : members_left c.into_iter-id-iterator.result ≡ ids c.self.inside.weights = found ∙ c.self.invariant.1 in
    rw (all, ← lines-with c.self.inside.lines c.self.inside.weights, ← c.self.view_is) refl

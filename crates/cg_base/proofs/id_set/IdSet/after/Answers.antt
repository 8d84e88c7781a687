use Rattle.std.proofs.Common.{◌≡◌, ◌∙◌, ◌-◌, ◌^◌, ◌≤◌, ap, bit_and, arith}
use Rattle.std.proofs.lemmas.Nat.Bits.{ones_shl}
use Rattle.cg_base.specs.Sets.{least}
use Rattle.cg_base.proofs.WordLemmas.{members, members-above}
use Rattle.cg_base.proofs.id_set.IdSet.after.Goals as goal

pub returns : goal.returns
returns c =
    let w = c.self.inside.word in
    let id = c.args.id in
    let within : id ≤ 64 = let most = c.get.ensures.range.1 in omega arith in
    let above : c.least.result ≡ least (members (bit_and w (2 ^ 64 - 2 ^ id))) =
    rw (c.from.ensures, c.get.ensures.value, ones_shl 64 id within) at c.least.ensures in
    rw (← c.self.view_is) (above ∙ ap least (members-above w id c.get.ensures.range.1))

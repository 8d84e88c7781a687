use Rattle.std.proofs.Common.{◌≡◌, ◌+◌, ◌-◌, ◌<◌, ◌≤◌, length, sym, subst, arith}
use Rattle.cg_group.proofs.PlaceFacts.{AreAbove, above-first, placed-there, placed-above, placed-between}
use Rattle.cg_group.proofs.roster.place_of.Goals as goal

pub loop-left-init : goal.loop-left-init
loop-left-init g c =
    let few : c.min-left.result ≤ length c.args.members.now = omega (arith, c.min-left.ensures) in
    (few, above-first c.args.members.now c.get-number.result c.min-left.result c.requires (λ lt. omega (arith, c.min-left.ensures, c.from.ensures)))

pub returns-then-id-number : goal.returns-then-id-number
returns-then-id-number g c =
    let i = c.loop-left.left - 1 in
    let within : i < length c.args.members.now = omega (arith, c.loop-left.invariant.0, c.loop-left-test.true) in
    let same : c.index-members-left.result.id ≡ c.args.p =
    omega (arith, c.id.ensures, c.get-id.ensures.value, c.if-id-number.true, c.get-number.ensures.value) in
    sym (placed-there c.args.members.now c.args.p i c.index-members-left.result c.requires c.index-members-left.is within same)

pub returns-then-id-number-2 : goal.returns-then-id-number-2
returns-then-id-number-2 g c =
    let i = c.loop-left.left - 1 in
    let within : i < length c.args.members.now = omega (arith, c.loop-left.invariant.0, c.loop-left-test.true) in
    let one_more : c.loop-left.left ≡ i + 1 = omega (arith, c.loop-left-test.true) in
    let below : c.index-members-left.result.id < c.args.p =
    omega (arith, c.id.ensures, c.get-id.ensures.value, c.if-id-number-2.true, c.get-number.ensures.value) in
    let above : AreAbove c.args.members.now c.args.p (i + 1) =
    subst (λ n. AreAbove c.args.members.now n (i + 1)) c.get-number.ensures.value
    (subst (AreAbove c.args.members.now c.get-number.result) one_more c.loop-left.invariant.1) in
    sym (placed-between c.args.members.now c.args.p i c.index-members-left.result c.requires c.index-members-left.is within below above)

pub returns : goal.returns
returns g c =
    let none : c.loop-left.left ≡ 0 = omega (arith, c.loop-left-test.false) in
    let above : AreAbove c.args.members.now c.args.p 0 =
    subst (λ n. AreAbove c.args.members.now n 0) c.get-number.ensures.value
    (subst (AreAbove c.args.members.now c.get-number.result) none c.loop-left.invariant.1) in
    sym (placed-above c.args.members.now c.args.p above)

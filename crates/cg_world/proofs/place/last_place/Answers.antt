use Rattle.std.proofs.Common.{◌≡◌, ◌+◌, ◌-◌, ◌<◌, suc, length, sym, ◌∙◌, arith}
use Rattle.cg_world.proofs.Places.{place-found}
use Rattle.cg_world.proofs.place.last_place.Goals as goal

pub returns-then-eq : goal.returns-then-eq
returns-then-eq c =
    let ids = c.args.order.now in
    let at = c.loop-left.left - 1 in
    let got = c.index-order-left in
    let within : at < length ids = omega arith in
    let next : at + 1 ≡ suc at = omega arith in
    next ∙ sym (place-found ids at got.result c.args.id.now c.requires within got.is (sym c.eq.ensures ∙ c.if-eq.true))

use Rattle.std.proofs.Common.{◌≡◌, ◌-◌, ◌<◌, ◌≤◌, ◌^◌, get_or, arith}
use Rattle.cg_base.specs.ArrayLaws.{IsArray-set}
use Rattle.cg_base.proofs.CutLemmas.{tops_of-set, raise-same}
use Rattle.cg_base.proofs.cut.Cut.raise.Goals as goal

pub returns-then-self-slot : goal.returns-then-self-slot
returns-then-self-slot c =
    let slots = c.self.inside.indexes in
    let slot : c.from-slot.result ≡ c.args.id - 1 = omega arith in
    let higher : get_or slots (c.args.id - 1) 0 < c.args.to = rw slot at c.if-self-slot.true in
    rw (← c.self.view_is, slot) (tops_of-set slots c.args.id c.args.to c.self.invariant c.get.ensures.range higher (omega arith))

pub returns-else-self-slot : goal.returns-else-self-slot
returns-else-self-slot c =
    let slots = c.self.inside.indexes in
    let slot : c.from-slot.result ≡ c.args.id - 1 = omega arith in
    let lower : c.args.to ≤ get_or slots (c.args.id - 1) 0 = rw slot at c.if-self-slot.false in
    rw (← c.self.view_is) (raise-same slots c.args.id c.args.to c.self.invariant c.get.ensures.range lower (omega arith))

pub invariant_of-self : goal.invariant_of-self
invariant_of-self c = IsArray-set c.self.inside.indexes (2 ^ 64) c.from-slot.result c.args.to c.self.invariant (omega arith) (omega arith)

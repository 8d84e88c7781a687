use Rattle.std.proofs.Common.{◌≡◌, ◌∙◌, ◌-◌, max, set, get_or, ap, arith}
use Rattle.std.proofs.lemmas.List.{get_or-set_same}
use Rattle.cg_base.specs.Slots.{array_slot}
use Rattle.cg_base.specs.ArrayLaws.{array_slot-set_other}
use Rattle.cg_members.proofs.ServerLemmas.{map_with-raise}
use Rattle.cg_members.proofs.server_set.ServerSet.raise.Goals as goal

pub returns : goal.returns
returns c =
    let lines = c.self.inside.lines in
    let weights = c.self.inside.weights in
    let id = c.args.id in
    let place : c.from-place.result ≡ id - 1 = omega arith in
    let higher : c.max.result ≡ max (array_slot lines id) c.args.line = c.max.ensures ∙ ap (λ n. max (get_or lines n 0) c.args.line) place in
    rw (← c.self.view_is, place)
    (map_with-raise lines (set lines (id - 1) c.max.result) weights id c.args.line 1 (omega arith) c.self.invariant.0.ascends
    (get_or-set_same lines (id - 1) c.max.result 0 (omega arith) ∙ higher)
    (λ k low apart. array_slot-set_other lines id k c.max.result c.get.ensures.range.0 low apart))

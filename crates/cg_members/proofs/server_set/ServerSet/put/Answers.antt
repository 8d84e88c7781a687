use Rattle.std.proofs.Common.{◌≡◌, ◌-◌, set, sym, subst, arith}
use Rattle.std.proofs.lemmas.List.{get_or-set_same}
use Rattle.cg_base.specs.ArrayLaws.{array_slot-set_other}
use Rattle.cg_base.specs.Weights.{IsWeightSet}
use Rattle.cg_base.specs.WeightLaws.{IsWeightSet-with_weight}
use Rattle.cg_members.proofs.ServerLemmas.{map_with-put}
use Rattle.cg_members.proofs.server_set.ServerSet.put.Goals as goal

pub returns : goal.returns
returns c =
    let lines = c.self.inside.lines in
    let weights = c.self.inside.weights in
    let id = c.args.id in
    let place : c.from.result ≡ id - 1 = omega arith in
    rw (← c.self.view_is, c.put.ensures, place)
    (map_with-put lines (set lines (id - 1) c.args.line) weights (record { id = id; weight = c.args.weight }) c.args.line 1 (omega arith) c.self.invariant.0.ascends
    (get_or-set_same lines (id - 1) c.args.line 0 (omega arith))
    (λ k low apart. array_slot-set_other lines id k c.args.line c.get.ensures.range.0 low apart))

pub invariant_of-self : goal.invariant_of-self
invariant_of-self c =
    let set = IsWeightSet-with_weight c.self.inside.weights (record { id = c.args.id; weight = c.args.weight }) c.get.ensures.range c.requires (omega arith) c.self.invariant.0 in
    (subst IsWeightSet (sym c.put.ensures) set, c.ids-self-inside.ensures)

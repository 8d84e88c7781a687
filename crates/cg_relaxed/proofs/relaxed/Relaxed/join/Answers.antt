use Rattle.std.proofs.Common.{◌≡◌, List, [], sym, ap, subst, ◌∙◌, rules}
use Rattle.cg_base.specs.declared.action_id.ActionId.{ActionId}
use Rattle.cg_relaxed.specs.Relaxed.{joined}
use Rattle.cg_relaxed.specs.RelaxedState.{RelaxedState, seen, AreSmall}
use Rattle.cg_relaxed.proofs.Calls.{sums-joined, small-joined, registers-joined, seen-joined}
use Rattle.cg_relaxed.proofs.relaxed.Relaxed.join.Goals as goal

pub invariant_of-result : goal.invariant_of-result
invariant_of-result c =
    let mine : RelaxedState = record { known = c.self.inside.known; sums = c.self.inside.sums.entries; writes = c.self.inside.registers.entries } in
    let other : RelaxedState = record { known = c.o.inside.known; sums = c.o.inside.sums.entries; writes = c.o.inside.registers.entries } in
    let empty : c.new-sums.result.entries ≡ [] = search rules in
    subst (λ (cut : List ActionId). AreSmall cut c.take_over-2.new.to.entries) (sym c.greatest.ensures)
    (small-joined mine other c.new-sums.result.entries c.take_over.new.to.entries c.take_over-2.new.to.entries empty
    c.in_ok-take_over.ensures c.in_ok-take_over-2.ensures c.holds.ensures c.holds-2.ensures c.self.invariant c.o.invariant)

pub returns : goal.returns
returns c =
    let mine : RelaxedState = record { known = c.self.inside.known; sums = c.self.inside.sums.entries; writes = c.self.inside.registers.entries } in
    let other : RelaxedState = record { known = c.o.inside.known; sums = c.o.inside.sums.entries; writes = c.o.inside.registers.entries } in
    let both : RelaxedState = record { known = c.greatest.result; sums = c.take_over-2.new.to.entries; writes = c.merge-2.new.to.entries } in
    let empty : c.new-sums.result.entries ≡ [] = search rules in
    let none : c.new-none.result.entries ≡ [] = search rules in
    let nothing : c.new-registers.result.entries ≡ [] = search rules in
    seen-joined mine other both c.greatest.ensures
    (sums-joined mine other c.new-sums.result.entries c.take_over.new.to.entries c.take_over-2.new.to.entries empty
    c.in_ok-take_over.ensures c.in_ok-take_over-2.ensures)
    (registers-joined mine.writes other.writes c.new-none.result.entries c.new-registers.result.entries c.merge.new.to.entries
    c.merge-2.new.to.entries none nothing c.in_ok-merge.ensures c.in_ok-merge-2.ensures)
    ∙ ap (λ (k : RelaxedState). joined (seen k) (seen other)) c.self.view_is
    ∙ ap (λ (k : RelaxedState). joined (seen c.args.self.now) (seen k)) c.o.view_is

use Rattle.std.proofs.Common.{◌≡◌, [], ◌∙◌, ap, sym}
use Rattle.std.proofs.lemmas.Bool.{lt-ltb, le-ltb}
use Rattle.cg_schedule.specs.declared.event.Event.TheVariants.{Gather}
use Rattle.cg_gen.specs.Generated.{GeneratorState}
use Rattle.cg_gen.specs.Waiting.{waiting_lines}
use Rattle.cg_gen.proofs.Blocks.{begun_asking, begun_gathering}
use Rattle.cg_gen.proofs.generator_state.GeneratorState.begin.Goals as goal

pub returns-then-kind-lt8-clause-ok : goal.returns-then-kind-lt8-clause-ok
returns-then-kind-lt8-clause-ok c =
    let p = c.self.inside in
    let drawn = c.draw-kind in
    let none : waiting_lines p.waiting ≡ [] = ap (λ (q : GeneratorState). q.waiting) c.self.view_is ∙ c.requires in
    rw (← c.self.view_is)
    (begun_asking c.args.replicas c.args.left p.draws p.cells drawn.result drawn.new.self drawn.ensures.value drawn.ensures.next
    (lt-ltb drawn.result 8 c.if-kind-lt8.true) c.in_ok-event.event c.ask.new.draws c.in_ok-event.ensures
    ∙ (λ i. (c.in_ok-event.event, record { number = c.ask.new.draws; cells = p.cells; waiting = sym none i })))

pub returns-then-left-lt4-clause-ok : goal.returns-then-left-lt4-clause-ok
returns-then-left-lt4-clause-ok c =
    let p = c.self.inside in
    let drawn = c.draw-kind in
    let none : waiting_lines p.waiting ≡ [] = ap (λ (q : GeneratorState). q.waiting) c.self.view_is ∙ c.requires in
    rw (← c.self.view_is)
    (begun_gathering c.args.replicas c.args.left p.draws p.cells drawn.result drawn.new.self drawn.ensures.value drawn.ensures.next
    (le-ltb drawn.result 8 c.if-kind-lt8.false) (lt-ltb c.args.left 4 c.if-left-lt4.true)
    ∙ (λ i. (Gather, record { number = drawn.new.self; cells = p.cells; waiting = sym none i })))

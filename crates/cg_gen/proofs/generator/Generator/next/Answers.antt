use Rattle.std.proofs.Common.{◌≡◌, suc, ◌-◌, ◌≤◌, [], arith}
use Rattle.cg_gen.proofs.EventsLeft.{none_left, end_left, more_left}
use Rattle.cg_gen.proofs.generator.Generator.next.Goals as goal

pub returns-then-self-eq0-clause-ok : goal.returns-then-self-eq0-clause-ok
returns-then-self-eq0-clause-ok c =
    let g = c.self.inside in
    let none : c.args.self.now ≡ [] = rw (← c.self.view_is) (none_left g.replicas g.left g.state c.if-self-eq0.true) in (none, none)

pub returns-then-left-eq0-clause-ok : goal.returns-then-left-eq0-clause-ok
returns-then-left-eq0-clause-ok c =
    let g = c.self.inside in
    rw (← c.self.view_is) (end_left g.replicas g.left (g.left - 1) g.state (omega (arith, c.if-self-eq0.false, c.if-left-eq0.true)) c.if-left-eq0.true)

pub returns-clause-ok : goal.returns-clause-ok
returns-clause-ok c =
    let g = c.self.inside in
    let one_more : g.left ≡ suc (g.left - 1) = omega (arith, c.if-self-eq0.false) in
    let some : 1 ≤ g.left - 1 = omega (arith, c.if-left-eq0.false) in
    rw (← c.self.view_is) (more_left g.replicas g.left (g.left - 1) g.state c.next.new.self c.in_ok-event.event one_more some c.in_ok-event.ensures.ok)

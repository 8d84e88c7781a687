use Rattle.std.proofs.Common.{◌≡◌, ◌&&◌, nat_lt, is_some, Option, IfSome, sym, ap, ◌∙◌, subst}
use Rattle.std.specs.Prelude.{nat_le}
use Rattle.std.specs.Option.{option_copied}
use Rattle.cg_base.specs.Cuts.{index_in}
use Rattle.cg_action.specs.declared.action.Action.{Action}
use Rattle.cg_world.specs.Led.{IsInBook}
use Rattle.cg_world.specs.MadeActions.{made_named}
use Rattle.cg_world.specs.SoFar.{SoFar}
use Rattle.cg_world.proofs.Making.{found-named, found-some, found-booked}
use Rattle.cg_world.proofs.state.World.made.Goals as goal

pub returns-clause-found : goal.returns-clause-found
returns-clause-found c =
    let w = c.self.inside in
    subst (λ (s : SoFar). option_copied c.get.result ≡ made_named s.made c.args.id) c.self.view_is
    (c.get.ensures ∙ found-named w.state.value w.made c.self.invariant c.args.id)

pub returns-clause-some : goal.returns-clause-some
returns-clause-some c =
    let w = c.self.inside in
    let id = c.args.id in
    subst (λ (s : SoFar). is_some (option_copied c.get.result) ≡ (nat_lt 0 id.index && nat_le id.index (index_in s.world.made id.creator))) c.self.view_is
    (ap is_some c.get.ensures ∙ found-some w.state.value w.made c.self.invariant id)

pub returns-clause-action : goal.returns-clause-action
returns-clause-action c =
    let w = c.self.inside in
    let there = found-booked w.state.value w.made c.self.invariant c.args.id in
    subst (λ (s : SoFar). IfSome (option_copied c.get.result) (λ a. (a.id ≡ c.args.id) × IsInBook s.world a)) c.self.view_is
    (subst (λ (o : Option Action). IfSome o (λ a. (a.id ≡ c.args.id) × IsInBook w.state.value a)) (sym c.get.ensures) there)

use Rattle.std.proofs.Common.{[], ◌∷◌, sym, ap, ◌∙◌}
use Rattle.std.proofs.lemmas.Bool.{eq-eqb, ne_eqb}
use Rattle.std.specs.Prelude.{◌==◌}
use Rattle.cg_base.specs.Lists.{first_some}
use Rattle.cg_group.specs.declared.reason.Reason.TheVariants.{NothingToOrder}
use Rattle.cg_group.specs.Refusals.{not_up, not_regular, nothing_to_order, order_refusal, refuse}
use Rattle.cg_group.proofs.FirstReasons.{first_here, first_later, first_two}
use Rattle.cg_group.proofs.group.Group.order_refusal.Goals as goal

pub returns-in-Some : goal.returns-in-Some
unfolding order_refusal
returns-in-Some g c =
    sym (first_two (not_up c.args.self.now c.args.p) (not_regular c.args.self.now c.args.p) _
    ∙ first_here (first_some (not_up c.args.self.now c.args.p ∷ not_regular c.args.self.now c.args.p ∷ [])) _ c.in-Some.reason (sym c.not_regular.ensures ∙ c.in-Some.is))

pub returns-then-waiting-eq0 : goal.returns-then-waiting-eq0
unfolding order_refusal
returns-then-waiting-eq0 g c =
    sym (first_two (not_up c.args.self.now c.args.p) (not_regular c.args.self.now c.args.p) _
    ∙ first_later (first_some (not_up c.args.self.now c.args.p ∷ not_regular c.args.self.now c.args.p ∷ [])) _ (sym c.not_regular.ensures ∙ c.in-None.is)
    ∙ first_here (nothing_to_order c.args.self.now c.args.p) _ (NothingToOrder c.args.p)
    (ap (λ n. refuse (n == 0) (NothingToOrder c.args.p)) (sym c.waiting.ensures) ∙ ap (λ b. refuse b (NothingToOrder c.args.p)) (eq-eqb c.waiting.result 0 c.if-waiting-eq0.true)))

pub returns : goal.returns
unfolding order_refusal
returns g c =
    sym (first_two (not_up c.args.self.now c.args.p) (not_regular c.args.self.now c.args.p) _
    ∙ first_later (first_some (not_up c.args.self.now c.args.p ∷ not_regular c.args.self.now c.args.p ∷ [])) _ (sym c.not_regular.ensures ∙ c.in-None.is)
    ∙ first_later (nothing_to_order c.args.self.now c.args.p) _
    (ap (λ n. refuse (n == 0) (NothingToOrder c.args.p)) (sym c.waiting.ensures) ∙ ap (λ b. refuse b (NothingToOrder c.args.p)) (ne_eqb c.waiting.result 0 c.if-waiting-eq0.false)))

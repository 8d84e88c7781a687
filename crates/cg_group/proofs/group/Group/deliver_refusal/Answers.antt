use Rattle.std.proofs.Common.{[], ◌∷◌, sym, ap, ◌∙◌, nat_lt}
use Rattle.std.proofs.lemmas.Bool.{lt-ltb, le-ltb}
use Rattle.cg_base.specs.Lists.{first_some}
use Rattle.cg_group.specs.declared.reason.Reason.TheVariants.{NotReady}
use Rattle.cg_group.specs.Refusals.{not_up, not_regular, not_ready, deliver_refusal, refuse}
use Rattle.cg_group.proofs.FirstReasons.{first_here, first_later, first_two}
use Rattle.cg_group.proofs.group.Group.deliver_refusal.Goals as goal

pub returns-in-Some-clause-reason : goal.returns-in-Some-clause-reason
unfolding deliver_refusal
returns-in-Some-clause-reason g c =
    sym (first_two (not_up c.args.self.now c.args.p) (not_regular c.args.self.now c.args.p) _
    ∙ first_here (first_some (not_up c.args.self.now c.args.p ∷ not_regular c.args.self.now c.args.p ∷ [])) _ c.in-Some.reason (sym c.not_regular.ensures ∙ c.in-Some.is))

pub returns-then-ready-k-clause-reason : goal.returns-then-ready-k-clause-reason
unfolding deliver_refusal
returns-then-ready-k-clause-reason g c =
    let few = lt-ltb c.ready-ready.result c.args.k c.if-ready-k.true in
    sym (first_two (not_up c.args.self.now c.args.p) (not_regular c.args.self.now c.args.p) _
    ∙ first_later (first_some (not_up c.args.self.now c.args.p ∷ not_regular c.args.self.now c.args.p ∷ [])) _ (sym c.not_regular.ensures ∙ c.in-None.is)
    ∙ first_here (not_ready c.args.self.now c.args.p c.args.k) _ (NotReady c.ready-ready.result)
    (ap (λ n. refuse (nat_lt n c.args.k) (NotReady n)) (sym c.ready-ready.ensures.count) ∙ ap (λ b. refuse b (NotReady c.ready-ready.result)) few))

pub returns-clause-reason : goal.returns-clause-reason
unfolding deliver_refusal
returns-clause-reason g c =
    let enough = le-ltb c.ready-ready.result c.args.k c.if-ready-k.false in
    sym (first_two (not_up c.args.self.now c.args.p) (not_regular c.args.self.now c.args.p) _
    ∙ first_later (first_some (not_up c.args.self.now c.args.p ∷ not_regular c.args.self.now c.args.p ∷ [])) _ (sym c.not_regular.ensures ∙ c.in-None.is)
    ∙ first_later (not_ready c.args.self.now c.args.p c.args.k) _
    (ap (λ n. refuse (nat_lt n c.args.k) (NotReady n)) (sym c.ready-ready.ensures.count) ∙ ap (λ b. refuse b (NotReady c.ready-ready.result)) enough))

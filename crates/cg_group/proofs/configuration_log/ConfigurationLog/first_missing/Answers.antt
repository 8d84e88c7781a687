use Rattle.std.proofs.Common.{◌≡◌, ◌-◌, ◌<◌, suc, ℕ, Bool, Some, false, find, sym, ap, ◌∙◌, arith, add-one}
use Rattle.std.specs.Prelude.{◌==◌}
use Rattle.std.proofs.lemmas.Bool.{cond-false}
use Rattle.cg_base.specs.Lists.{above_up_to}
use Rattle.cg_group.specs.Refusals.{is_missing, sender_at}
use Rattle.cg_group.proofs.LogFacts.{above_up_to-next}
use Rattle.cg_group.proofs.SettledFacts.{find-skip, and_not}
use Rattle.cg_group.proofs.TurnFacts.{find-nothing}
use Rattle.cg_group.proofs.configuration_log.ConfigurationLog.first_missing.Goals as goal

pub returns-then-has_all_before : goal.returns-then-has_all_before
returns-then-has_all_before g c =
    let none = c.has_all_before.ensures c.if-has_all_before.true in
    sym (find-nothing (is_missing c.args.self.now.configuration c.args.p c.args.place) (c.args.place - 1) (λ place pos le. none place pos (omega arith)))

pub loop-before-init : goal.loop-before-init
loop-before-init g c =
    let test : ℕ → Bool = is_missing c.args.self.now.configuration c.args.p c.args.place in
    sym (find-skip test c.received_by-before.result (c.args.place - 1)
    (λ place pos le. and_not (sender_at c.args.self.now.configuration place == sender_at c.args.self.now.configuration c.args.place) _ (c.received_by-before.ensures.received place pos le)))

pub loop-before-preserved : goal.loop-before-preserved
loop-before-preserved g c =
    let test : ℕ → Bool = is_missing c.args.self.now.configuration c.args.p c.args.place in
    let fails : test (suc c.loop-before.before) ≡ false = rw (c.sender-sender.ensures, add-one) at (sym c.lacks.ensures ∙ c.if-lacks.false) in
    let lt : c.loop-before.before < c.args.place - 1 = omega arith in
    rw add-one
    (sym (ap (find test) (above_up_to-next c.loop-before.before (c.args.place - 1) lt)
    ∙ cond-false (test (suc c.loop-before.before)) (Some (suc c.loop-before.before)) (find test (above_up_to (suc c.loop-before.before) (c.args.place - 1))) fails)
    ∙ c.loop-before.invariant)

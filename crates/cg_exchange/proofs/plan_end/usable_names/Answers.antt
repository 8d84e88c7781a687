use Rattle.std.proofs.Common.{◌≡◌, ◌∙◌, true, sym, subst}
use Rattle.std.proofs.lemmas.Result.{IfOk-weaker}
use Rattle.cg_queue.specs.Answers.{AreReds}
use Rattle.cg_queue.specs.Distinct.{is_distinct}
use Rattle.cg_exchange.proofs.Names.{usable-filter, usable-reds, usable-distinct}
use Rattle.cg_exchange.proofs.plan_end.usable_names.Goals as goal

pub returns-then-is_distinct-clause-value : goal.returns-then-is_distinct-clause-value
returns-then-is_distinct-clause-value c =
    let q = c.args.core.now.queue in
    let distinct : is_distinct c.args.ids.now ≡ true = sym c.is_distinct.ensures ∙ c.if-is_distinct.true in
    IfOk-weaker c.red_names.result _ _ (λ list e. e ∙ sym (usable-filter q c.args.ids.now distinct)) c.red_names.ensures

pub returns-then-is_distinct-clause-reds : goal.returns-then-is_distinct-clause-reds
returns-then-is_distinct-clause-reds c =
    let q = c.args.core.now.queue in
    let distinct : is_distinct c.args.ids.now ≡ true = sym c.is_distinct.ensures ∙ c.if-is_distinct.true in
    IfOk-weaker c.red_names.result _ _ (λ list e. subst (AreReds q) (usable-filter q c.args.ids.now distinct ∙ sym e) (usable-reds q c.args.ids.now)) c.red_names.ensures

pub returns-then-is_distinct-clause-distinct : goal.returns-then-is_distinct-clause-distinct
returns-then-is_distinct-clause-distinct c =
    let q = c.args.core.now.queue in
    let distinct : is_distinct c.args.ids.now ≡ true = sym c.is_distinct.ensures ∙ c.if-is_distinct.true in
    IfOk-weaker c.red_names.result _ _ (λ list e. subst (λ l. is_distinct l ≡ true) (usable-filter q c.args.ids.now distinct ∙ sym e) (usable-distinct q c.args.ids.now)) c.red_names.ensures

pub returns-clause-reds : goal.returns-clause-reds
returns-clause-reds c =
    let q = c.args.core.now.queue in
    IfOk-weaker c.names_once.result _ _ (λ list e. subst (AreReds q) (sym e) (usable-reds q c.args.ids.now)) c.names_once.ensures

pub returns-clause-distinct : goal.returns-clause-distinct
returns-clause-distinct c =
    let q = c.args.core.now.queue in
    IfOk-weaker c.names_once.result _ _ (λ list e. subst (λ l. is_distinct l ≡ true) (sym e) (usable-distinct q c.args.ids.now)) c.names_once.ensures

use Rattle.std.proofs.Common.{◌+◌, ◌<◌, Option, Some, None, ap, ◌∙◌, arith}
use Rattle.std.specs.Option.{option_copied}
use Rattle.cg_items.specs.declared.companion.Further.{Further}
use Rattle.cg_items.specs.Companion.{Noted, follows}
use Rattle.cg_items.specs.Items.{Item}
use Rattle.cg_model.specs.Run.{Step, step_limit}
use Rattle.cg_outcome.specs.Produced.{Progress}
use Rattle.cg_outcome.specs.Totals.{with_entry}
use Rattle.cg_run.specs.declared.progress.Run.{Run}
use Rattle.cg_run.specs.Performing.{seen_from}
use Rattle.cg_run.proofs.Counting.{item-goes, item-stops}
use Rattle.cg_run.proofs.progress.Run.count_entry.Goals as goal

pub returns-in-Ok-show_step-clause-performs : goal.returns-in-Ok-show_step-clause-performs
returns-in-Ok-show_step-clause-performs g c = λ w event.
    let r = c.args.self.now in
    let v = g.K.Sink.view c.args.output.now in
    let v1 = g.K.Sink.view c.show_step.new.output in
    let asked : Option Further = option_copied c.args.asked in
    let step : Step = record { event = event; entry = c.args.entry.now; world = r.world.world } in
    let noted : Noted = follows r.companion asked step in
    let item : Item = record { number = r.count + 1; further = asked; step = Some step; lines = noted.lines } in
    let behind : Progress = record { world = r.world.world; companion = noted.companion; reader = r.reader; count = r.count + 1; totals = with_entry r.totals c.args.entry.now; logs = r.logs; replica = None } in
    let few : r.count < step_limit = omega arith in
    let goes = item-goes r.report r.line item behind (seen_from w r) v v1 few (c.in-Ok-show_step.ensures.ok event) c.entry_is_short.ensures in
    let kept = c.in-Ok-show_step.ensures.kept event in
    let rest = c.show_step.ensures.rest in
    let told = c.in-Ok.ensures in
    (goes.0, (λ i. record { world = (rest i).world.world; companion = kept i; reader = (rest i).reader; count = r.count + 1; totals = told i; logs = (rest i).logs; replica = None }) ∙ goes.1, goes.2)

pub returns-in-Err-clause-performs : goal.returns-in-Err-clause-performs
returns-in-Err-clause-performs g c = λ w event.
    let r = c.args.self.now in
    let v = g.K.Sink.view c.args.output.now in
    let v1 = g.K.Sink.view c.show_step.new.output in
    let asked : Option Further = option_copied c.args.asked in
    let step : Step = record { event = event; entry = c.args.entry.now; world = r.world.world } in
    let noted : Noted = follows r.companion asked step in
    let item : Item = record { number = r.count + 1; further = asked; step = Some step; lines = noted.lines } in
    let behind : Progress = record { world = r.world.world; companion = noted.companion; reader = r.reader; count = r.count + 1; totals = with_entry r.totals c.args.entry.now; logs = r.logs; replica = None } in
    let few : r.count < step_limit = omega arith in
    item-stops r.report r.line item behind (seen_from w r) v v1 c.in-Err.status few (c.in-Err.ensures.cut event)

pub returns-in-Ok-show_step-clause-rest : goal.returns-in-Ok-show_step-clause-rest
returns-in-Ok-show_step-clause-rest g c =
    ap (λ (r : Run). record r { count = c.args.self.now.count; totals = c.args.self.now.totals }) c.show_step.ensures.rest

pub returns-in-Err-clause-rest : goal.returns-in-Err-clause-rest
returns-in-Err-clause-rest g c =
    ap (λ (r : Run). record r { count = c.args.self.now.count; totals = c.args.self.now.totals }) c.show_step.ensures.rest

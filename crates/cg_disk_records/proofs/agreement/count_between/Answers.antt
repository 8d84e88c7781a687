use Rattle.std.proofs.Common.{sym, ◌∙◌, rules}
use Rattle.cg_disk_records.proofs.Agreeing.{counts-left, counts-stop, counts-end}
use Rattle.cg_disk_records.proofs.agreement.count_between.Goals as goal

pub returns-in_default : goal.returns-in_default
returns-in_default c =
    sym (counts-stop c.args.actions.now c.loop-a.a-index c.a-item.result c.args.id c.loop-a.at c.args.high c.loop-a-test.true (sym c.a-item.is) (search rules)) ∙ c.loop-a.invariant

pub loop-a-preserved : goal.loop-a-preserved
loop-a-preserved c =
    counts-left c.args.actions.now c.loop-a.a-index c.a-item.result c.args.id c.loop-a.at c.args.high c.in-Some.next c.loop-a-test.true (sym c.a-item.is) (search rules) ∙ c.loop-a.invariant

pub returns : goal.returns
returns c = sym (counts-end c.args.actions.now c.loop-a.a-index c.args.id c.loop-a.at c.args.high c.loop-a-test.false) ∙ c.loop-a.invariant

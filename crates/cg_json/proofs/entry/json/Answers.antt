use Rattle.std.proofs.Common.{◌≡◌, ◌==◌, ◌++◌, OnOk, length, true, false, sym, ap, ◌∙◌, subst}
use Rattle.cg_json.specs.JsonText.{lines_of}
use Rattle.cg_json.proofs.Silence.{nothing_put, object_put}
use Rattle.cg_json.proofs.entry.json.Goals as goal

pub returns-then-is_empty-clause-ok : goal.returns-then-is_empty-clause-ok
returns-then-is_empty-clause-ok c =
    let none : (length c.in_ok-lines.lines.items == 0) ≡ true = ap (λ n. n == 0) (sym c.in_ok-lines.lines.ok.0) ∙ sym c.is_empty.ensures ∙ c.if-is_empty.true in
    nothing_put c.args.step c.args.e.now c.in_ok-lines.lines.items c.args.out.now.items c.in_ok-lines.ensures none

pub returns-clause-ok : goal.returns-clause-ok
returns-clause-ok c =
    let some : (length c.in_ok-lines.lines.items == 0) ≡ false = ap (λ n. n == 0) (sym c.in_ok-lines.lines.ok.0) ∙ sym c.is_empty.ensures ∙ c.if-is_empty.false in
    subst (λ text. OnOk c.put_step.result (c.put_step.new.out.items ≡ c.args.out.now.items ++ text)) (object_put c.args.step c.args.e.now c.in_ok-lines.lines.items c.in_ok-lines.ensures some)
    (c.put_step.ensures.ok (lines_of c.args.e.now) c.in_ok-lines.ensures)

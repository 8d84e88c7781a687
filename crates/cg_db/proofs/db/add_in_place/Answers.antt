use Rattle.std.proofs.Common.{◌∙◌, ap, rules, arith, to_z, of_z, to_z-of_z}
use Rattle.std.proofs.lemmas.Int.{ints}
use Rattle.std.specs.Prelude.{Some, FitsSigned}
use Rattle.std.specs.Int.{w64}
use Rattle.cg_db.specs.Apply.{number_of}
use Rattle.cg_db.proofs.AloneLemmas.{run_inc, run_inc-text, run_inc-over}
use Rattle.cg_db.proofs.db.add_in_place.Goals as goal

pub returns-in_default : goal.returns-in_default
returns-in_default c = λ db key up has.
    rw c.in_default.is (run_inc-text db key c.args.by c.in_default.field-0 up (has ∙ ap Some c.in_default.is))

pub returns-in_default-checked_add : goal.returns-in_default-checked_add
returns-in_default-checked_add c = λ db key up has.
    let n = c.in-Int.number in
    let number : FitsSigned w64 n = search rules in
    let by : FitsSigned w64 c.args.by = c.ranges.by in
    run_inc-over db key c.args.by n up (has ∙ ap Some c.in-Int.is) (simp to_z-of_z at c.in_default-checked_add.ensures)

pub returns : goal.returns
returns c = λ db key up has.
    let n = c.in-Int.number in
    let number : FitsSigned w64 n = search rules in
    let by : FitsSigned w64 c.args.by = c.ranges.by in
    let ran = simp to_z-of_z at c.in-Some.ensures in
    run_inc db key c.args.by n (to_z w64 (of_z w64 c.in-Some.sum)) (ap (λ v. number_of v) (has ∙ ap Some c.in-Int.is)) ran.0 (omega (arith, ints))

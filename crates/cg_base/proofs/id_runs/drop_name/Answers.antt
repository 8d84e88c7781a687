use Rattle.std.proofs.Common.{◌≡◌, ◌<◌, length, sym, ◌∙◌, arith}
use Rattle.std.proofs.lemmas.Bool.{eqb-false}
use Rattle.cg_base.proofs.RunLemmas.{shorter-ids}
use Rattle.cg_base.proofs.id_runs.drop_name.Goals as goal

pub returns-then-first-index-clause-names : goal.returns-then-first-index-clause-names
returns-then-first-index-clause-names c =
    let runs = c.args.runs.now.items in
    let none : length runs ≡ 0 → ⊥ = λ e. eqb-false _ 0 (sym c.is_empty.ensures ∙ c.if-is_empty.false) (c.args.runs.now.ok.0 ∙ e) in
    let some : 0 < length runs = omega (arith, none) in
    shorter-ids runs c.index.result.now c.index-2.result.now c.index_mut.result.now some c.index.ensures c.index-2.ensures c.index_mut.ensures.value c.if-first-index.true

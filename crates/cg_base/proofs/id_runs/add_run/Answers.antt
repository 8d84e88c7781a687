use Rattle.std.proofs.Common.{◌≡◌, ◌∙◌, ◌-◌, true, length, subst, sym, arith}
use Rattle.std.proofs.lemmas.List.{get_or_default}
use Rattle.cg_base.specs.IdRuns.{goes_on}
use Rattle.cg_base.proofs.RunLemmas.{longer-runs, longer-ids, more-runs, first-run}
use Rattle.cg_base.proofs.id_runs.add_run.Goals as goal
use Rattle.cg_base.proofs.id_runs.add_run.Goals.{else-count-gt0-via-then-count-gt0+else-goes_on, else-count-gt0-via-else-count-gt0}

pub returns-then-goes_on-clause-kept : goal.returns-then-goes_on-clause-kept
returns-then-goes_on-clause-kept c =
    let runs = c.args.runs.now.items in
    let last = c.len-count.result - 1 in
    let all : c.len-count.result ≡ length runs = c.len-count.ensures ∙ c.args.runs.now.ok.0 in
    let same : c.index.result.now ≡ c.index_mut.result.now =
    c.index.ensures ∙ get_or_default runs last c.index.result.now c.index_mut.result.now (omega arith) ∙ sym c.index_mut.ensures.value in
    let on : goes_on c.index_mut.result.now c.args.run ≡ true = subst (λ r. goes_on r c.args.run ≡ true) same (sym c.goes_on.ensures ∙ c.if-goes_on.true) in
    longer-runs runs c.len-count.result c.index_mut.result.now c.args.run all c.if-count-gt0.true c.index_mut.ensures.value c.requires.runs c.requires.run (omega arith) on

pub returns-then-goes_on-clause-ok : goal.returns-then-goes_on-clause-ok
returns-then-goes_on-clause-ok c =
    let runs = c.args.runs.now.items in
    let last = c.len-count.result - 1 in
    let all : c.len-count.result ≡ length runs = c.len-count.ensures ∙ c.args.runs.now.ok.0 in
    let same : c.index.result.now ≡ c.index_mut.result.now =
    c.index.ensures ∙ get_or_default runs last c.index.result.now c.index_mut.result.now (omega arith) ∙ sym c.index_mut.ensures.value in
    let on : goes_on c.index_mut.result.now c.args.run ≡ true = subst (λ r. goes_on r c.args.run ≡ true) same (sym c.goes_on.ensures ∙ c.if-goes_on.true) in
    longer-ids runs c.len-count.result c.index_mut.result.now c.args.run all c.if-count-gt0.true c.index_mut.ensures.value c.requires.runs c.requires.run on

pub returns-clause-kept : goal.returns-clause-kept
returns-clause-kept c =
    let runs = c.args.runs.now.items in
    let all : c.len-count.result ≡ length runs = c.len-count.ensures ∙ c.args.runs.now.ok.0 in
    rw c.in_ok-push.ensures.items (elim c.else-count-gt0.branch [
      | else-count-gt0-via-then-count-gt0+else-goes_on w ↦
          more-runs runs c.len-count.result w.index.result.now c.args.run all w.if-count-gt0.true w.index.ensures c.requires.runs c.requires.run (omega arith) (sym w.goes_on.ensures ∙ w.if-goes_on.false)
      | else-count-gt0-via-else-count-gt0 w ↦ first-run runs c.args.run (omega arith) c.requires.run (omega arith)
    ])

use Rattle.cg_session.specs.Laws as sessions
use Rattle.cg_outcome.specs.AskedLaws.{ExactLines}
use Rattle.cg_outcome.specs.FurtherLaws.{AreExact}
use Rattle.cg_outcome.specs.Outcome.{outcome}
use Rattle.cg_outcome.proofs.EndedLines.{outcome-imaged}
use Rattle.cg_outcome.proofs.RunFacts.{outcome-is_run, outcome-noted, outcome-of_run, outcome-agrees, outcome-guarantees}
use Rattle.cg_outcome.proofs.RefusedLines.{outcome-refuses}
use Rattle.cg_outcome.proofs.laws.outcomes_agree.Goals as goal

exact : ExactLines → sessions.ExactLines → AreExact
exact lines sessions = record { lines = lines; sessions = sessions }

pub returns-clause-of_run : goal.returns-clause-of_run
returns-clause-of_run c = λ taken how. outcome-of_run c.args.words.now taken how (exact c.lines_are_exact.ensures.event c.session_lines_are_exact.ensures)

pub returns-clause-compared : goal.returns-clause-compared
returns-clause-compared c = λ taken how. c.joins_are_told.ensures (outcome c.args.words.now taken how).progress.logs

pub returns-clause-imaged : goal.returns-clause-imaged
returns-clause-imaged c = outcome-imaged c.args.words.now (exact c.lines_are_exact.ensures.event c.session_lines_are_exact.ensures)

pub returns-clause-refused : goal.returns-clause-refused
returns-clause-refused c = outcome-refuses c.args.words.now (exact c.lines_are_exact.ensures.event c.session_lines_are_exact.ensures)

pub returns-clause-is_run : goal.returns-clause-is_run
returns-clause-is_run c = λ taken how. outcome-is_run c.args.words.now taken how (exact c.lines_are_exact.ensures.event c.session_lines_are_exact.ensures)

pub returns-clause-noted : goal.returns-clause-noted
returns-clause-noted c = λ taken how. outcome-noted c.args.words.now taken how (exact c.lines_are_exact.ensures.event c.session_lines_are_exact.ensures)

pub returns-clause-order_grows : goal.returns-clause-order_grows
returns-clause-order_grows c = λ taken how. (outcome-agrees c.args.words.now taken how (exact c.lines_are_exact.ensures.event c.session_lines_are_exact.ensures) c.runs_agree.ensures).order_grows

pub returns-clause-prefix : goal.returns-clause-prefix
returns-clause-prefix c = λ taken how. (outcome-agrees c.args.words.now taken how (exact c.lines_are_exact.ensures.event c.session_lines_are_exact.ensures) c.runs_agree.ensures).prefix

pub returns-clause-creator_order : goal.returns-clause-creator_order
returns-clause-creator_order c = λ taken how. (outcome-agrees c.args.words.now taken how (exact c.lines_are_exact.ensures.event c.session_lines_are_exact.ensures) c.runs_agree.ensures).creator_order

pub returns-clause-fold_answers : goal.returns-clause-fold_answers
returns-clause-fold_answers c = λ taken how. (outcome-agrees c.args.words.now taken how (exact c.lines_are_exact.ensures.event c.session_lines_are_exact.ensures) c.runs_agree.ensures).fold_answers

pub returns-clause-dirty_answers : goal.returns-clause-dirty_answers
returns-clause-dirty_answers c = λ taken how. (outcome-agrees c.args.words.now taken how (exact c.lines_are_exact.ensures.event c.session_lines_are_exact.ensures) c.runs_agree.ensures).dirty_answers

pub returns-clause-one_primary : goal.returns-clause-one_primary
returns-clause-one_primary c = λ taken how. (outcome-agrees c.args.words.now taken how (exact c.lines_are_exact.ensures.event c.session_lines_are_exact.ensures) c.runs_agree.ensures).one_primary

pub returns-clause-quiet_settles : goal.returns-clause-quiet_settles
returns-clause-quiet_settles c = λ taken how. (outcome-agrees c.args.words.now taken how (exact c.lines_are_exact.ensures.event c.session_lines_are_exact.ensures) c.runs_agree.ensures).quiet_settles

pub returns-clause-made_stays : goal.returns-clause-made_stays
returns-clause-made_stays c = λ taken how. (outcome-agrees c.args.words.now taken how (exact c.lines_are_exact.ensures.event c.session_lines_are_exact.ensures) c.runs_agree.ensures).made_stays

pub returns-clause-refused_exactly : goal.returns-clause-refused_exactly
returns-clause-refused_exactly c = λ taken how. (outcome-agrees c.args.words.now taken how (exact c.lines_are_exact.ensures.event c.session_lines_are_exact.ensures) c.runs_agree.ensures).refused_exactly

pub returns-clause-linearizable : goal.returns-clause-linearizable
returns-clause-linearizable c = λ taken how. (outcome-guarantees c.args.words.now taken how (exact c.lines_are_exact.ensures.event c.session_lines_are_exact.ensures) c.runs_agree.ensures c.agreement_gives_guarantees.ensures).linearizable

pub returns-clause-strongly_linearizable : goal.returns-clause-strongly_linearizable
returns-clause-strongly_linearizable c = λ taken how. (outcome-guarantees c.args.words.now taken how (exact c.lines_are_exact.ensures.event c.session_lines_are_exact.ensures) c.runs_agree.ensures c.agreement_gives_guarantees.ensures).strongly_linearizable

pub returns-clause-durable : goal.returns-clause-durable
returns-clause-durable c = λ taken how. (outcome-guarantees c.args.words.now taken how (exact c.lines_are_exact.ensures.event c.session_lines_are_exact.ensures) c.runs_agree.ensures c.agreement_gives_guarantees.ensures).durable

pub returns-clause-exactly_once : goal.returns-clause-exactly_once
returns-clause-exactly_once c = λ taken how. (outcome-guarantees c.args.words.now taken how (exact c.lines_are_exact.ensures.event c.session_lines_are_exact.ensures) c.runs_agree.ensures c.agreement_gives_guarantees.ensures).exactly_once

pub returns-clause-prefix_reads : goal.returns-clause-prefix_reads
returns-clause-prefix_reads c = λ taken how. (outcome-guarantees c.args.words.now taken how (exact c.lines_are_exact.ensures.event c.session_lines_are_exact.ensures) c.runs_agree.ensures c.agreement_gives_guarantees.ensures).prefix_reads

pub returns-clause-no_split_brain : goal.returns-clause-no_split_brain
returns-clause-no_split_brain c = λ taken how. (outcome-guarantees c.args.words.now taken how (exact c.lines_are_exact.ensures.event c.session_lines_are_exact.ensures) c.runs_agree.ensures c.agreement_gives_guarantees.ensures).no_split_brain

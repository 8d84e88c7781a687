use Rattle.std.proofs.Common.{◌≡◌, Ok, Err, None, Some, refl, sym, ap, ◌∙◌, rules}
use Rattle.cg_schedule.specs.declared.reader_state.ReaderState.{ReaderState}
use Rattle.cg_compare.specs.Lines.{reading}
use Rattle.cg_outcome.specs.LineLaws.{line-log}
use Rattle.cg_outcome.specs.Outcome.{line_outcome}
use Rattle.cg_run.specs.Performing.{seen}
use Rattle.cg_run.proofs.progress.Run.begin_log.Goals as goal

pub returns-in-Ok-None-clause-performs : goal.returns-in-Ok-None-clause-performs
returns-in-Ok-None-clause-performs g c =
    let s = seen c.args.self.now in
    let is : reading s.reader.ended c.args.text.now ≡ Ok None = search rules in
    rw (line-log c.args.self.now.line c.args.text.now s (Ok None) c.requires.compares is) search rules

pub returns-in-Ok-Some-clause-performs : goal.returns-in-Ok-Some-clause-performs
returns-in-Ok-Some-clause-performs g c =
    let s = seen c.args.self.now in
    let is : reading s.reader.ended c.args.text.now ≡ Ok (Some c.in-Ok-Some.read) = search rules in
    rw (line-log c.args.self.now.line c.args.text.now s (Ok (Some c.in-Ok-Some.read)) c.requires.compares is) (c.take_line.ensures.performs _)

pub returns-in-Err-clause-performs : goal.returns-in-Err-clause-performs
returns-in-Err-clause-performs g c =
    let r = c.args.self.now in
    let s = seen r in
    c.refuse_line.ensures s refl (line_outcome r.line c.args.text.now s)
    (λ other. line-log r.line c.args.text.now s (Err c.in-Err.fault) c.requires.compares (ap (λ (state : ReaderState). reading state.ended c.args.text.now) (sym c.state.ensures) ∙ c.in-Err.ensures other))

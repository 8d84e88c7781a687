use Rattle.std.proofs.Common.{rules, ◌≡◌, ℕ, List, Ok, Err, None, Some, refl, sym, ap, ◌∙◌}
use Rattle.cg_schedule.specs.declared.word.Word.{Word}
use Rattle.cg_schedule.specs.Line.{opening}
use Rattle.cg_outcome.specs.Outcome.{read_outcome}
use Rattle.cg_outcome.specs.LineLaws.{line-opened, line-word}
use Rattle.cg_run.proofs.Asked.{next_read}
use Rattle.cg_run.specs.Performing.{seen}
use Rattle.cg_run.proofs.progress.Run.begin_event.Goals as goal

pub returns-in-Ok-None-clause-performs : goal.returns-in-Ok-None-clause-performs
returns-in-Ok-None-clause-performs g c =
    let s = seen c.args.self.now in
    let is : opening s.reader c.args.text.now ≡ Ok None = sym c.begin_line.ensures ∙ c.in-Ok-None.is ∙ ap Ok c.in-Ok-None.field-0-is in
    rw (line-opened c.args.self.now.line c.args.text.now s (Ok None) c.requires.schedule c.requires.plain is) search rules

pub finish_line-requires-clause-reads : goal.finish_line-requires-clause-reads
finish_line-requires-clause-reads g c =
    let s = seen c.args.self.now in
    let o : Word × List (List ℕ) = (c.in-Ok-Some.word, c.in-Ok-Some.words) in
    let is : opening s.reader c.args.text.now ≡ Ok (Some o) = sym c.begin_line.ensures ∙ c.in-Ok-Some.is ∙ ap Ok c.in-Ok-Some.field-0-is in
    λ event read. next_read c.lines_are_exact.ensures.event s c.args.text.now o event c.requires.under_way is read

pub returns-in-Ok-Some-clause-performs : goal.returns-in-Ok-Some-clause-performs
returns-in-Ok-Some-clause-performs g c =
    let s = seen c.args.self.now in
    let o : Word × List (List ℕ) = (c.in-Ok-Some.word, c.in-Ok-Some.words) in
    let is : opening s.reader c.args.text.now ≡ Ok (Some o) = sym c.begin_line.ensures ∙ c.in-Ok-Some.is ∙ ap Ok c.in-Ok-Some.field-0-is in
    rw (line-word c.args.self.now.line c.args.text.now s o c.requires.schedule c.requires.plain is) c.finish_line.ensures.performs

pub returns-in-Err-clause-performs : goal.returns-in-Err-clause-performs
returns-in-Err-clause-performs g c =
    let r = c.args.self.now in
    let s = seen r in
    let is : opening s.reader c.args.text.now ≡ Err c.in-Err.fault = sym c.begin_line.ensures ∙ c.in-Err.is in
    rw (line-opened r.line c.args.text.now s (Err c.in-Err.fault) c.requires.schedule c.requires.plain is)
    (c.refuse_line.ensures s refl (read_outcome r.line (Err c.in-Err.fault) s) (λ other. refl))

use Rattle.std.proofs.Common.{refl, ap}
use Rattle.cg_schedule.specs.Line.{event_reading, some_event}
use Rattle.cg_schedule.specs.Reading.{whole}
use Rattle.cg_outcome.specs.LineLaws.{word-read}
use Rattle.cg_outcome.specs.Outcome.{read_outcome}
use Rattle.cg_run.specs.Performing.{seen}
use Rattle.cg_run.proofs.progress.Run.finish_line.Goals as goal

pub returns-in-Err-clause-performs : goal.returns-in-Err-clause-performs
returns-in-Err-clause-performs g c =
    let read = whole (event_reading c.args.word) c.args.words in
    let n = c.args.self.now.line in
    let s = seen c.args.self.now in
    rw (word-read n c.args.word c.args.words s)
    (c.refuse_line.ensures s refl (read_outcome n (some_event read) s)
    (λ other. ap (λ read. read_outcome n (some_event read) s) (c.in-Err.ensures.event other)))

use Rattle.std.proofs.Common.{◌≡◌, ℕ, List, Ok, Err, Some, Result, Option, refl, ap, subst, ◌∙◌}
use Rattle.cg_schedule.specs.declared.fault.LineFault.{LineFault}
use Rattle.cg_schedule.specs.declared.reader_state.ReaderState.{ReaderState}
use Rattle.cg_schedule.specs.Fault.{Gives}
use Rattle.cg_items.specs.declared.companion.Further.{Further}
use Rattle.cg_items.specs.Companion.{further_reading, in_place}
use Rattle.cg_outcome.specs.FurtherLaws.{AreExact, further-stands, placed_started}
use Rattle.cg_outcome.specs.LineLaws.{line-further}
use Rattle.cg_outcome.specs.Outcome.{line_outcome}
use Rattle.cg_outcome.specs.Produced.{Progress}
use Rattle.cg_run.specs.Performing.{seen}
use Rattle.cg_run.proofs.progress.Run.begin_further.Goals as goal

-- what was read is read where the reader is
heard : {state : ReaderState} (s : Progress) (text : List ℕ) (read : Result (Option Further) LineFault) → state ≡ s.reader
    → Gives (in_place state (further_reading s.companion text)) read → Gives (in_place s.reader (further_reading s.companion text)) read
heard s text read is gives = subst (λ (r : ReaderState). Gives (in_place r (further_reading s.companion text)) read) is gives

pub begin_event-requires-clause-plain : goal.begin_event-requires-clause-plain
begin_event-requires-clause-plain g c =
    let s = seen c.args.self.now in
    let read = in_place s.reader (further_reading s.companion c.args.text.now) in
    subst (λ (r : Result (Option Further) LineFault). Gives read r) (c.in-Ok-None.is ∙ ap Ok c.in-Ok-None.field-0-is) (heard s c.args.text.now c.read_in_place.result c.state.ensures c.read_in_place.ensures)

pub carry_further-requires-clause-begun : goal.carry_further-requires-clause-begun
carry_further-requires-clause-begun g c =
    let s = seen c.args.self.now in
    let read = in_place s.reader (further_reading s.companion c.args.text.now) in
    let is = subst (λ (r : Result (Option Further) LineFault). Gives read r) (c.in-Ok-Some.is ∙ ap Ok c.in-Ok-Some.field-0-is) (heard s c.args.text.now c.read_in_place.result c.state.ensures c.read_in_place.ensures) in
    let placed = placed_started s.reader (further_reading s.companion c.args.text.now) c.in-Ok-Some.event is in
    record { started = placed.0; hosted = c.requires.under_way.begun placed.0 }

pub carry_further-requires-clause-stands : goal.carry_further-requires-clause-stands
carry_further-requires-clause-stands g c =
    let s = seen c.args.self.now in
    let read = in_place s.reader (further_reading s.companion c.args.text.now) in
    let is = subst (λ (r : Result (Option Further) LineFault). Gives read r) (c.in-Ok-Some.is ∙ ap Ok c.in-Ok-Some.field-0-is) (heard s c.args.text.now c.read_in_place.result c.state.ensures c.read_in_place.ensures) in
    let placed = placed_started s.reader (further_reading s.companion c.args.text.now) c.in-Ok-Some.event is in
    let exact : AreExact = record { lines = c.lines_are_exact.ensures.event; sessions = c.session_lines_are_exact.ensures } in
    further-stands s.world s.companion c.args.text.now c.in-Ok-Some.event exact (c.requires.under_way.begun placed.0) placed.1

pub returns-in-Ok-Some-clause-performs : goal.returns-in-Ok-Some-clause-performs
returns-in-Ok-Some-clause-performs g c =
    let s = seen c.args.self.now in
    let read = in_place s.reader (further_reading s.companion c.args.text.now) in
    let is = subst (λ (r : Result (Option Further) LineFault). Gives read r) (c.in-Ok-Some.is ∙ ap Ok c.in-Ok-Some.field-0-is) (heard s c.args.text.now c.read_in_place.result c.state.ensures c.read_in_place.ensures) in
    rw (line-further c.args.self.now.line c.args.text.now s (Ok (Some c.in-Ok-Some.event)) c.requires.schedule is) c.carry_further.ensures.performs

pub returns-in-Err-clause-performs : goal.returns-in-Err-clause-performs
returns-in-Err-clause-performs g c =
    let n = c.args.self.now.line in
    let s = seen c.args.self.now in
    let read = in_place s.reader (further_reading s.companion c.args.text.now) in
    let is = subst (λ (r : Result (Option Further) LineFault). Gives read r) c.in-Err.is (heard s c.args.text.now c.read_in_place.result c.state.ensures c.read_in_place.ensures) in
    c.refuse_line.ensures s refl (line_outcome n c.args.text.now s)
    (λ other. line-further n c.args.text.now s (Err c.in-Err.fault) c.requires.schedule (is other))

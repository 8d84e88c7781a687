-- The event that a line reads as is the next one of a run under way.
use Rattle.std.proofs.Common.{◌≡◌, ◌<◌, ℕ, List, length, Some, Ok, true, false, not, if◌then◌else◌, refl, ◌∙◌}
use Rattle.std.proofs.lemmas.Bool.{and_parts, not-true}
use Rattle.cg_schedule.specs.declared.event.Event.{Event}
use Rattle.cg_schedule.specs.declared.event.Event.TheVariants.{Start, Split, Merge, Request, Weak, Dirty, Order, Recover, RecoverStopped, Downgrade, Show, ShowOrder, Gather, End, Receive, Deliver, Rounds, Stop, Fail, Join, Leave, Transfer}
use Rattle.cg_schedule.specs.declared.word.Word.{Word}
use Rattle.cg_schedule.specs.Limits as line
use Rattle.cg_schedule.specs.Reading.{whole}
use Rattle.cg_schedule.specs.Line.{is_start, event_word, fits, state_after, opening, event_reading}
use Rattle.cg_world.specs.Steps.{IsCounted}
use Rattle.cg_outcome.specs.Produced.{Progress}
use Rattle.cg_outcome.specs.UnderWay.{IsUnderWay}
use Rattle.cg_outcome.specs.AskedLaws.{may_ask, ExactLines, reads_of}
use Rattle.cg_run.specs.Next.{MayHappen, IsNext}

-- an event within the limits counts its device call from 1
counted : (e : Event) → line.IsEvent e → IsCounted e
counted (Fail p call) is = is.1.0
counted (RecoverStopped p call fill) is = is.1.0.0
counted other is = tt

-- what may stand in the reader's state was started, where it is no start
started_by : (s : Progress) (word : Word) → is_start word ≡ false → fits s.reader word ≡ true → s.reader.started ≡ true
started_by s word later fit = rw later at (and_parts (not s.reader.ended) (if is_start word then not s.reader.started else s.reader.started) fit).1

-- an event behind a start
next_on : (s : Progress) (e : Event) → IsUnderWay s → is_start (event_word e) ≡ false → fits s.reader (event_word e) ≡ true
    → (state_after s.reader e).started ≡ s.reader.started → (0 < length s.world.nodes → MayHappen s.world e) → IsNext s e
next_on s e under later fit same happens =
    let started = started_by s (event_word e) later fit in record { started = same ∙ started; happens = happens (under.begun started) }

-- an event that a line may be where the reader stands is the next one
next_of : (s : Progress) (e : Event) → IsUnderWay s → fits s.reader (event_word e) ≡ true → line.IsEvent e → IsCounted e → IsNext s e
next_of s (Start set) under fit is ok =
    let first = not-true s.reader.started (and_parts (not s.reader.ended) (not s.reader.started) fit).1 in
    record { started = refl; happens = ((under.before first, is), tt) }
next_of s (Split set) under fit is ok = next_on s (Split set) under refl fit refl (λ hosted. ((hosted, is), tt))
next_of s (Merge set) under fit is ok = next_on s (Merge set) under refl fit refl (λ hosted. ((hosted, is), tt))
next_of s End under fit is ok = next_on s End under refl fit refl (λ hosted. hosted)
next_of s (Rounds count) under fit is ok = next_on s (Rounds count) under refl fit refl (λ hosted. hosted)
next_of s (Request p cmds query) under fit is ok = next_on s (Request p cmds query) under refl fit refl (λ hosted. ((hosted, may_ask (Request p cmds query) is), ok))
next_of s (Weak p query) under fit is ok = next_on s (Weak p query) under refl fit refl (λ hosted. ((hosted, may_ask (Weak p query) is), ok))
next_of s (Dirty p query) under fit is ok = next_on s (Dirty p query) under refl fit refl (λ hosted. ((hosted, may_ask (Dirty p query) is), ok))
next_of s (Order p) under fit is ok = next_on s (Order p) under refl fit refl (λ hosted. ((hosted, tt), tt))
next_of s (Recover p) under fit is ok = next_on s (Recover p) under refl fit refl (λ hosted. ((hosted, tt), tt))
next_of s (RecoverStopped p call fill) under fit is ok = next_on s (RecoverStopped p call fill) under refl fit refl (λ hosted. ((hosted, tt), ok))
next_of s (Downgrade p) under fit is ok = next_on s (Downgrade p) under refl fit refl (λ hosted. ((hosted, tt), tt))
next_of s (Show p) under fit is ok = next_on s (Show p) under refl fit refl (λ hosted. ((hosted, tt), tt))
next_of s ShowOrder under fit is ok = next_on s ShowOrder under refl fit refl (λ hosted. ((hosted, tt), tt))
next_of s Gather under fit is ok = next_on s Gather under refl fit refl (λ hosted. ((hosted, tt), tt))
next_of s (Receive p place) under fit is ok = next_on s (Receive p place) under refl fit refl (λ hosted. ((hosted, tt), tt))
next_of s (Deliver p count) under fit is ok = next_on s (Deliver p count) under refl fit refl (λ hosted. ((hosted, tt), tt))
next_of s (Stop p call fill) under fit is ok = next_on s (Stop p call fill) under refl fit refl (λ hosted. ((hosted, tt), tt))
next_of s (Fail p call) under fit is ok = next_on s (Fail p call) under refl fit refl (λ hosted. ((hosted, tt), ok))
next_of s (Join p joiner weight) under fit is ok = next_on s (Join p joiner weight) under refl fit refl (λ hosted. ((hosted, may_ask (Join p joiner weight) is), ok))
next_of s (Leave p server) under fit is ok = next_on s (Leave p server) under refl fit refl (λ hosted. ((hosted, may_ask (Leave p server) is), ok))
next_of s (Transfer p joiner pieces) under fit is ok = next_on s (Transfer p joiner pieces) under refl fit refl (λ hosted. ((hosted, tt), ok))

-- the event that a line reads as is the next one of a run under way
pub next_read : ExactLines → (s : Progress) (line : List ℕ) (o : Word × List (List ℕ)) (e : Event) → IsUnderWay s → opening s.reader line ≡ Ok (Some o)
    → whole (event_reading o.0) o.1 ≡ Ok e → IsNext s e
next_read exact s line o e under opened read =
    let reads_as = (exact s.reader line e).0 (reads_of s.reader line o e opened read) in
    next_of s e under reads_as.may_stand reads_as.within (counted e reads_as.within)

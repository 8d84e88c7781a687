-- The lines of a generated schedule come to its end, or to the limit of steps.
use Rattle.std.proofs.Common.{◌≡◌, ℕ, zero, suc, ◌+◌, ◌<◌, ◌≤◌, ◌-◌, ◌++◌, true, List, [], ◌∷◌, fold, length, length-append, Option, Some, None, option_map, option_and_then, Result, Ok, Err, Bool, false, cond, refl, sym, ap, subst, ◌∙◌, arith, codes}
use Rattle.std.specs.Str.{is_utf8}
use Rattle.cg_base.specs.Sets.{IsId}
use Rattle.cg_text.specs.Tokens.{tokens, tokens_from}
use Rattle.cg_base.specs.Lists.{Each}
use Rattle.cg_schedule.specs.declared.event.Event.{Event}
use Rattle.cg_schedule.specs.declared.event.Event.TheVariants.{End}
use Rattle.cg_schedule.specs.declared.fault.LineFault.{LineFault}
use Rattle.cg_schedule.specs.declared.reader_state.ReaderState.{ReaderState}
use Rattle.cg_schedule.specs.Fault.{not_utf8}
use Rattle.cg_schedule.specs.Laws.{MayStand, Reads}
use Rattle.cg_schedule.specs.Limits.{IsEvent}
use Rattle.cg_schedule.specs.Line.{first_state, state_after, word_of, opening, opening_of, reading_behind}
use Rattle.cg_schedule.specs.Print.{line_of}
use Rattle.cg_model.specs.Schedules.{Run, no_run, play, run_of}
use Rattle.cg_gen.specs.Generated.{events_left, generated}
use Rattle.cg_gen.specs.GeneratedLaws.{AllStand, generated-stands}
use Rattle.cg_gen.specs.Lines.{lines_of}
use Rattle.cg_outcome.specs.Outcome.{Ended, read_outcome, line_outcome, without_return, limit_of, unless_passed, whole_line, at_end, replayed, performed, lines_alone}
use Rattle.cg_items.specs.declared.companion.Companion.{Companion}
use Rattle.cg_items.specs.declared.companion.Companion.TheVariants.{Alone}
use Rattle.cg_items.specs.Companion.{further_reading, in_place}
use Rattle.cg_outcome.specs.LineLaws.{is_comparing, line-further}
use Rattle.cg_outcome.specs.Produced.{Progress, Finding, Produced, of_event, before_all, refusal_of, status_of, ended_with, prepend, and_then}
use Rattle.cg_outcome.specs.declared.status.Status.TheVariants as status
use Rattle.cg_laws.specs.Admitted.{GeneratedAreAdmitted, IsEndOrLimit, TrialsAreAdmitted, TrialsEnd, TrialsAreReplays}
use Rattle.cg_laws.proofs.Playing.{IsFree, all-free, IsSpared, IsAt, Follows, Follows-happened}
use Rattle.cg_laws.proofs.Spelling.{as-it-is, pieces-are}
use Rattle.cg_laws.proofs.Within.{generated-within, state_past, generated-ends}
use Rattle.cg_outcome.specs.LimitLaws.{limit_of-none}

-- ---- a line that reads as an event

line-happens : (n : ℕ) (line : List ℕ) (e : Event) (s : Progress) → s.companion ≡ Alone → Reads s.reader line e → line_outcome n line s ≡ read_outcome n (Ok (Some e)) s
line-happens n line e s alone reads =
    line-further n line s (Ok None) (ap is_comparing alone) (ap (λ (c : Companion). in_place s.reader (further_reading c line)) alone)
    ∙ ap (λ (r : Result (Option Event) LineFault). read_outcome n r s) reads

-- ---- a schedule

-- each printed line is read
abbrev ArePrinted : Type 0
ArePrinted = (state : ReaderState) (e : Event) → IsEvent e → MayStand state e → Reads state (line_of e) e

-- what the line of an event comes to
abbrev line_played : ℕ → Event → Progress → Produced
line_played n e s = line_outcome n (without_return (line_of e)) s

line-follows : ArePrinted → (n : ℕ) (e : Event) (run : Run) (s : Progress) → IsAt run s → MayStand s.reader e → IsEvent e → IsFree run → IsFree (play run e) →
    Follows (play run e) (state_after s.reader e) (line_played n e s)
line-follows printed n e run s same stands is before free =
    let line = line_of e in
    let next = play run e in
    let state = state_after s.reader e in
    let read = line-happens n line e s same.alone (printed s.reader e is stands) in
    let text : line_played n e s ≡ read_outcome n (Ok (Some e)) s = ap (λ t. line_outcome n t s) (as-it-is e is) ∙ read in
    subst (Follows next state) (sym text) (Follows-happened n e run (record s { reader = state }) (record { world = same.world; alone = same.alone }) before free)

-- the run ends in these lines, and no event is refused
abbrev IsEnded : Option Finding → Type 0
IsEnded None = ⊥
IsEnded (Some f) = IsSpared (Some f)

ended-by : (p : Produced) (more : Progress → Produced) → IsSpared p.found → (p.found ≡ None → IsEnded (more p.progress).found) → IsEnded (and_then p more).found
ended-by p more spared next = by p.found refl where
  by : (o : Option Finding) → p.found ≡ o → IsEnded (and_then p more).found
  by None is =
      let same : and_then p more ≡ prepend p.items (more p.progress) = rw is refl in
      subst (λ (q : Produced). IsEnded q.found) (sym same) (next is)
  by (Some f) is =
      let same : and_then p more ≡ p = rw is refl in
      subst (λ (q : Produced). IsEnded q.found) (sym same) (subst IsEnded (sym is) (subst IsSpared is spared))

next-line : (n at : ℕ) (e : Event) (events : List Event) (s : Progress)
    → replayed n at (lines_alone (e ∷ events)) Ended s
    ≡ and_then (whole_line n at (line_of e) s) (replayed (n + 1) (at + length (line_of e) + 1) (lines_alone events) Ended)
next-line n at e [] s = refl
next-line n at e (f ∷ events) s = refl

module _ (printed : ArePrinted) where
  lines-end : (events : List Event) (gone : ℕ) (run : Run) (s : Progress) → IsAt run s → AllStand s.reader events → Each IsEvent events →
      (state_past s.reader events).ended ≡ true → IsFree (fold play run events) → IsEnded (performed gone events s).found
  lines-end [] gone run s same stand are ended free =
      subst (λ b. IsEnded (cond b (ended_with status.Done gone s) (ended_with (status.NoEnd gone) gone s)).found) (sym ended) (refl, tt)
  lines-end (e ∷ events) gone run s same stand are ended free =
      let next = play run e in
      let state = state_after s.reader e in
      let between : IsFree next = all-free events next free in
      let before : IsFree run = all-free (e ∷ events) run free in
      let p = line_played (gone + 1) e s in
      let here : Follows next state p = line-follows printed (gone + 1) e run s same stand.0 are.0 before between in
      ended-by p (performed (gone + 1) events) here.spared (λ none. (
      let reader = here.reader none in
      lines-end events (gone + 1) next p.progress (here.world none)
      (subst (λ (r : ReaderState). AllStand r events) (sym reader) stand.1) are.1
      (subst (λ (r : ReaderState). (state_past r events).ended ≡ true) (sym reader) ended) free
      ))

  schedule-ends : (seed replicas lines : ℕ) → IsId replicas → 1 < lines → IsFree (run_of (generated seed replicas lines)) →
      IsEnded (performed 0 (generated seed replicas lines) (before_all Alone)).found
  schedule-ends seed replicas lines is some free =
      lines-end (generated seed replicas lines) 0 no_run (before_all Alone) (record { world = refl; alone = refl }) (generated-stands seed replicas lines some) (generated-within seed replicas lines is)
      (generated-ends seed replicas lines (omega (arith, some))) free

-- ---- the laws

no-refusal : (o : Option Finding) → IsEnded o → option_and_then of_event (option_and_then (λ (f : Finding). f.refused) o) ≡ None
no-refusal None is = absurd is
no-refusal (Some f) is = ap (option_and_then of_event) is.0

-- an end alone doesn't read
end-alone : refusal_of (performed 0 (End ∷ []) (before_all Alone)) ≡ None
unfolding line_outcome opening tokens_from word_of
end-alone = by (is_utf8 (codes "end")) where
  by : (b : Bool) → refusal_of (and_then (read_outcome 1 (reading_behind (cond b (opening_of first_state (tokens (codes "end"))) (Err not_utf8))) (before_all Alone)) (performed 1 [])) ≡ None
  by true = refl
  by false = refl

pub trials-are-admitted : ArePrinted → GeneratedAreAdmitted → TrialsAreAdmitted
unfolding events_left
trials-are-admitted printed admitted seed replicas zero is taken how = refl
trials-are-admitted printed admitted seed replicas (suc zero) is taken how = end-alone
trials-are-admitted printed admitted seed replicas (suc (suc lines)) is taken how =
    let p = performed 0 (generated seed replicas (suc (suc lines))) (before_all Alone) in
    no-refusal p.found (schedule-ends printed seed replicas (suc (suc lines)) is (omega arith) (admitted seed replicas (suc (suc lines)) is))

has-status : (p : Produced) → IsEnded p.found → IsEndOrLimit (status_of p)
has-status p is = by p.found is where
  by : (o : Option Finding) → IsEnded o → IsEndOrLimit (option_map (λ f. f.status) o)
  by None is = absurd is
  by (Some f) is = is.1

pub trials-end : ArePrinted → GeneratedAreAdmitted → TrialsEnd
trials-end printed admitted seed replicas lines is some taken how =
    has-status (performed 0 (generated seed replicas lines) (before_all Alone)) (schedule-ends printed seed replicas lines is some (admitted seed replicas lines is))

-- lines that pass no limit of an input come to what they come to without these limits
lines-perform : (events : List Event) (gone at : ℕ) (s : Progress) → gone + length events ≤ 200000 → at + length (lines_of events) ≤ 8388608 → Each (λ e. length (line_of e) ≤ 32768) events →
    replayed (gone + 1) at (lines_alone events) Ended s ≡ performed gone events s
lines-perform [] gone at s few small short = let same : gone + 1 - 1 ≡ gone = omega arith in ap (λ n. at_end n Ended s) same
lines-perform (e ∷ events) gone at s few small short =
    let line = line_of e in
    let n = gone + 1 in
    let p = line_played n e s in
    let more = replayed (n + 1) (at + length line + 1) (lines_alone events) Ended in
    let size : length (lines_of (e ∷ events)) ≡ length line + 1 + length (lines_of events) = omega (arith, length-append (line ++ 10 ∷ []) (lines_of events), length-append line (10 ∷ [])) in
    let none : limit_of n (length line) (at + length line + 1) ≡ None = limit_of-none n (length line) (at + length line + 1) short.0 (omega (arith, small, size)) (omega (arith, few)) in
    let rest : (s' : Progress) → more s' ≡ performed n events s' =
    λ s'. lines-perform events n (at + length line + 1) s' (omega (arith, few)) (omega (arith, small, size)) short.1 in
    let first : and_then (whole_line n at line s) more ≡ and_then p more = ap (λ o. and_then (unless_passed o n s p) more) none in
    let others : and_then p more ≡ and_then p (performed n events) = λ i. and_then p (λ s'. rest s' i) in
    next-line n at e events s ∙ first ∙ others

pub trials-are-replays : TrialsAreReplays
trials-are-replays seed replicas lines is limits report taken how =
    let events = generated seed replicas lines in
    ap (λ pieces. replayed 1 0 pieces Ended (before_all Alone)) (pieces-are events (generated-within seed replicas lines is))
    ∙ lines-perform events 0 0 (before_all Alone) (omega (arith, limits.few)) (omega (arith, limits.small)) limits.short

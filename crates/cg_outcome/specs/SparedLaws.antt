-- A run says that its input failed only where the taking ended so, and that its output failed only where a put did.
use Rattle.std.proofs.Common.{◌≡◌, ℕ, zero, suc, ◌+◌, ◌==◌, ◌-◌, nat_lt, List, [], ◌∷◌, Bool, true, false, cond, length, Option, Some, None, refl, sym, ap, subst, ◌∙◌, Result, Ok, Err}
use Rattle.std.specs.Option.{option_map_or}
use Rattle.std.proofs.lemmas.Bool.{false≢true, eq-eqb, cond_both}
use Rattle.cg_base.specs.Text.{pieces_of}
use Rattle.cg_group.specs.declared.reason.Reason.{Reason}
use Rattle.cg_group.specs.Ready.{ready}
use Rattle.cg_io.specs.Outside.{SourceView, SinkView}
use Rattle.cg_schedule.specs.declared.event.Event.{Event}
use Rattle.cg_schedule.specs.declared.event.Event.TheVariants.{Gather, Deliver, Rounds, End}
use Rattle.cg_schedule.specs.declared.fault.LineFault.{LineFault}
use Rattle.cg_schedule.specs.declared.fault.LineFault.TheVariants.{Syntax, NoMemory}
use Rattle.cg_schedule.specs.Line.{reading, state_after}
use Rattle.cg_schedule.specs.Print.{line_of}
use Rattle.cg_model.specs.World.{up_replicas}
use Rattle.cg_model.specs.Admission.{first_refusal}
use Rattle.cg_model.specs.Step.{world_step}
use Rattle.cg_model.specs.Run.{Step, step_limit}
use Rattle.cg_outcome.specs.Outcome.{Ending, Ended, Failed, Open, performed, unreadable, read_outcome, further_outcome, log_outcome, line_beside, line_outcome, without_return, limit_of, unless_passed, whole_line, at_end, cut_line, last_piece, replayed, companion_for, seen_in, looked_at, outcome_of}
use Rattle.cg_outcome.specs.declared.command.Command.{Command}
use Rattle.cg_outcome.specs.declared.command.Command.TheVariants.{Generate, Trial, Inspect}
use Rattle.cg_items.specs.declared.companion.Companion.{Companion}
use Rattle.cg_items.specs.declared.companion.Companion.TheVariants.{Alone, Comparing}
use Rattle.cg_items.specs.declared.companion.Further.{Further}
use Rattle.cg_items.specs.Companion.{Noted, further_reading, in_place, further_refusal, end_refusal, event_of, acts, follows}
use Rattle.cg_items.specs.Items.{Item}
use Rattle.cg_image.specs.Inspecting.{Inspected, NotAnImage, NotAStore, Holds, inspected}
use Rattle.cg_outcome.specs.declared.limits.TheConstants.{INPUT_BYTES}
use Rattle.cg_compare.specs.declared.log_line.LogLine.{LogLine}
use Rattle.cg_compare.specs.declared.log_line.LogLine.TheVariants as log_line
use Rattle.cg_compare.specs.Lines.{reading as log_reading}
use Rattle.cg_outcome.specs.Produced.{Progress, Finding, Produced, before_all, status_of, went_on, ended_with, and_then, counted, unless_refused, one_step, acted, unless_further_refused, one_further}
use Rattle.cg_outcome.specs.Totals.{with_entry}
use Rattle.cg_gen.specs.Generated.{generated}
use Rattle.cg_outcome.specs.declared.status.Status.{Status}
use Rattle.cg_outcome.specs.declared.status.Status.TheVariants as status
use Rattle.cg_outcome.specs.declared.status.Limit.{Limit}
use Rattle.cg_outcome.specs.declared.status.Limit.TheVariants.{Steps, Input}
use Rattle.cg_outcome.specs.Rounds.{deliver_ready, deliveries, one_pass, passes, ended_unless, happened}
use Rattle.cg_outcome.specs.Taking.{HasCause, ReadCause}
use Rattle.cg_outcome.specs.Streaming.{FailedIsLast, Ends}

-- a status that comes of the input's end or of a failed take, and not of a line
abbrev pub is_of_end : Option Status → Bool
is_of_end (Some status.Done) = true
is_of_end (Some status.ReadFault) = true
is_of_end (Some (status.NoEnd lines)) = true
is_of_end other = false

-- nothing is found, or something in line n, or memory was refused
abbrev pub is_of_line : ℕ → Option Status → Bool
is_of_line n None = true
is_of_line n (Some (status.Syntax line reason)) = line == n
is_of_line n (Some (status.Refused line reason)) = line == n
is_of_line n (Some (status.Limit line what)) = line == n
is_of_line n (Some status.NoMemory) = true
is_of_line n other = false

abbrev pub IsInLine : ℕ → Produced → Type 0
IsInLine n p = is_of_line n (status_of p) ≡ true

same : (n : ℕ) → (n == n) ≡ true
same n = eq-eqb n n refl

IsInLine-and_then : (n : ℕ) (p : Produced) (more : Progress → Produced) → IsInLine n p →
    ((s : Progress) → IsInLine n (more s)) → IsInLine n (and_then p more)
IsInLine-and_then n p more first next = by_finding p.found refl where
  by_finding : (o : Option Finding) → p.found ≡ o → IsInLine n (and_then p more)
  by_finding None e = rw e (next p.progress)
  by_finding (Some f) e = let alone : and_then p more ≡ p = rw e refl in rw alone first

IsInLine-counted : (n : ℕ) (item : Item) (next s : Progress) → IsInLine n (counted n item next s)
IsInLine-counted n item next s =
    cond_both (nat_lt s.count step_limit) (record { items = item ∷ []; found = None; progress = next })
    (ended_with (status.Limit n Steps) n s) (IsInLine n) (λ y. refl) (λ y. same n)

IsInLine-stepped : (n : ℕ) (asked : Option Further) (event : Event) (s : Progress) →
    IsInLine n (unless_refused None n asked event s)
IsInLine-stepped n asked event s =
    let m = world_step s.world event in
    let step : Step = record { event = event; entry = m.entry; world = m.world } in
    let noted = follows s.companion asked step in
    IsInLine-counted n (record { number = s.count + 1; further = asked; step = Some step; lines = noted.lines })
    (record s {
      world = m.world;
      companion = noted.companion;
      count = s.count + 1;
      totals = with_entry s.totals m.entry;
    }) s

IsInLine-unless_refused : (o : Option Reason) (n : ℕ) (asked : Option Further) (event : Event) (s : Progress) →
    IsInLine n (unless_refused o n asked event s)
IsInLine-unless_refused None n asked event s = IsInLine-stepped n asked event s
IsInLine-unless_refused (Some reason) n asked event s = same n

IsInLine-one_step : (n : ℕ) (asked : Option Further) (event : Event) (s : Progress) →
    IsInLine n (one_step n asked event s)
IsInLine-one_step n asked event s = IsInLine-unless_refused (first_refusal s.world event) n asked event s

IsInLine-acted : (n : ℕ) (e : Further) (noted : Noted) (s : Progress) → IsInLine n (acted n e noted s)
IsInLine-acted n e noted s =
    IsInLine-counted n (record { number = s.count + 1; further = Some e; step = None; lines = noted.lines })
    (record s { companion = noted.companion; count = s.count + 1 }) s

IsInLine-one_further : (n : ℕ) (e : Further) (s : Progress) → IsInLine n (one_further n e s)
IsInLine-one_further n e s = by_refusal (further_refusal s.world s.companion e) where
  by_event : (o : Option Event) →
      IsInLine n (option_map_or (λ event. one_step n (Some e) event s) o (acted n e (acts s.world s.companion e) s))
  by_event None = IsInLine-acted n e (acts s.world s.companion e) s
  by_event (Some event) = IsInLine-one_step n (Some e) event s

  by_refusal : (o : Option Reason) → IsInLine n (unless_further_refused o n e s)
  by_refusal None = by_event (event_of e)
  by_refusal (Some reason) = same n

IsInLine-deliver_ready : (n p : ℕ) (s : Progress) → IsInLine n (deliver_ready n p s)
IsInLine-deliver_ready n p s =
    cond_both (ready s.world.group p == 0) (went_on s) (one_step n None (Deliver p (ready s.world.group p)) s)
    (IsInLine n) (λ y. refl)
    (λ y. IsInLine-one_step n None (Deliver p (ready s.world.group p)) s)

IsInLine-deliveries : (n : ℕ) (set : List ℕ) (s : Progress) → IsInLine n (deliveries n set s)
IsInLine-deliveries n [] s = refl
IsInLine-deliveries n (p ∷ set) s =
    IsInLine-and_then n (deliver_ready n p s) (deliveries n set) (IsInLine-deliver_ready n p s)
    (λ s. IsInLine-deliveries n set s)

IsInLine-passes : (n count : ℕ) (s : Progress) → IsInLine n (passes n count s)
IsInLine-passes n zero s = refl
IsInLine-passes n (suc count) s =
    IsInLine-and_then n (one_pass n s) (passes n count) pass (λ s. IsInLine-passes n count s) where
      pass : IsInLine n (one_pass n s)
      pass = IsInLine-and_then n (one_step n None Gather s) (deliveries n (up_replicas s.world))
          (IsInLine-one_step n None Gather s) (IsInLine-deliveries n (up_replicas s.world))

IsInLine-happened : (n : ℕ) (event : Event) (s : Progress) → IsInLine n (happened n event s)
unfolding happened
IsInLine-happened n End s = by_refusal (end_refusal s.companion s.world) where
  by_refusal : (o : Option Reason) → IsInLine n (ended_unless o n s)
  by_refusal None = refl
  by_refusal (Some reason) = same n
IsInLine-happened n (Rounds count) s = IsInLine-passes n count s
IsInLine-happened n other s = IsInLine-one_step n None other s

IsInLine-unreadable : (n : ℕ) (fault : LineFault) (s : Progress) → IsInLine n (unreadable n fault s)
IsInLine-unreadable n (Syntax reason) s = same n
IsInLine-unreadable n NoMemory s = refl

IsInLine-read : (n : ℕ) (r : Result (Option Event) LineFault) (s : Progress) → IsInLine n (read_outcome n r s)
IsInLine-read n (Ok None) s = refl
IsInLine-read n (Ok (Some event)) s = IsInLine-happened n event (record s { reader = state_after s.reader event })
IsInLine-read n (Err fault) s = IsInLine-unreadable n fault s

IsInLine-further : (n : ℕ) (r : Result (Option Further) LineFault) (line : List ℕ) (s : Progress) →
    IsInLine n (further_outcome n r line s)
IsInLine-further n (Ok None) line s = IsInLine-read n (reading s.reader line) s
IsInLine-further n (Ok (Some e)) line s = IsInLine-one_further n e s
IsInLine-further n (Err fault) line s = IsInLine-unreadable n fault s

IsInLine-log : (n : ℕ) (r : Result (Option LogLine) LineFault) (s : Progress) → IsInLine n (log_outcome n r s)
IsInLine-log n (Ok None) s = refl
IsInLine-log n (Ok (Some (log_line.Log white list))) s = refl
IsInLine-log n (Ok (Some log_line.End)) s = refl
IsInLine-log n (Err fault) s = IsInLine-unreadable n fault s

pub IsInLine-line : (n : ℕ) (line : List ℕ) (s : Progress) → IsInLine n (line_outcome n line s)
unfolding line_outcome
IsInLine-line n line s = by_companion s.companion where
  by_companion : (c : Companion) → IsInLine n (line_beside c n line s)
  by_companion Comparing = IsInLine-log n (log_reading s.reader.ended line) s
  by_companion c = IsInLine-further n (in_place s.reader (further_reading c line)) line s

IsInLine-unless_passed : (o : Option Limit) (n : ℕ) (s : Progress) (p : Produced) → IsInLine n p →
    IsInLine n (unless_passed o n s p)
IsInLine-unless_passed None n s p spares = spares
IsInLine-unless_passed (Some what) n s p spares = same n

-- a whole line comes to no end of the input
pub IsInLine-whole : (n at : ℕ) (line : List ℕ) (s : Progress) → IsInLine n (whole_line n at line s)
IsInLine-whole n at line s =
    IsInLine-unless_passed (limit_of n (length line) (at + length line + 1)) n
    s (line_outcome n (without_return line) s) (IsInLine-line n (without_return line) s)

no_end : (n : ℕ) (found : Option Status) → is_of_line n found ≡ true → is_of_end found ≡ false
no_end n None is = refl
no_end n (Some status.Done) is = absurd (false≢true is)
no_end n (Some status.ReadFault) is = absurd (false≢true is)
no_end n (Some (status.NoEnd lines)) is = absurd (false≢true is)
no_end n (Some other) is = refl

-- a line finds nothing that comes of the input's end
pub line-no_end : (n : ℕ) (line : List ℕ) (s : Progress) → is_of_end (status_of (line_outcome n line s)) ≡ false
line-no_end n line s = no_end n (status_of (line_outcome n line s)) (IsInLine-line n line s)

-- the part doesn't find that the input failed
abbrev Spares : Produced → Type 0
Spares p = status_of p ≡ Some status.ReadFault → ⊥

Spares-in_line : (n : ℕ) (p : Produced) → IsInLine n p → Spares p
Spares-in_line n p is = λ e. absurd (let clash : true ≡ false = ap is_of_end (sym e) ∙ no_end n (status_of p) is in cc)

Spares-and_then : (p : Produced) (more : Progress → Produced) → Spares p → ((s : Progress) → Spares (more s)) →
    Spares (and_then p more)
Spares-and_then p more first next = by_finding p.found refl where
  by_finding : (o : Option Finding) → p.found ≡ o → Spares (and_then p more)
  by_finding None e = rw e (next p.progress)
  by_finding (Some f) e = let same : and_then p more ≡ p = rw e refl in rw same first

Spares-unless_passed : (o : Option Limit) (n : ℕ) (s : Progress) (p : Produced) → Spares p →
    Spares (unless_passed o n s p)
Spares-unless_passed None n s p spares = spares
Spares-unless_passed (Some what) n s p spares = λ e. cc

module _ (how : Ending) (not_failed : how ≡ Failed → ⊥) where
  Spares-at_end : (n : ℕ) (s : Progress) → Spares (at_end n how s)
  Spares-at_end n s = by_ending how refl where
    by_ending : (h : Ending) → how ≡ h → Spares (at_end n h s)
    by_ending Ended e = cond_both s.reader.ended (ended_with status.Done n s) (ended_with (status.NoEnd n) n s)
        Spares (λ y e. cc) (λ y e. cc)
    by_ending Failed e = absurd (not_failed e)
    by_ending Open e = λ e. cc

  Spares-cut_line : (n : ℕ) (line : List ℕ) (s : Progress) → Spares (cut_line n line how s)
  Spares-cut_line n line s = by_ending how refl where
    by_ending : (h : Ending) → how ≡ h → Spares (cut_line n line h s)
    by_ending Ended e =
        Spares-and_then (line_outcome n line s) (at_end n Ended) (Spares-in_line
        n (line_outcome n line s) (IsInLine-line n line s))
        (λ s. subst (λ (h : Ending). Spares (at_end n h s)) e (Spares-at_end n s))
    by_ending Failed e = absurd (not_failed e)
    by_ending Open e = λ e. cc

  Spares-last_piece : (n at : ℕ) (rest : List ℕ) (s : Progress) → Spares (last_piece n at rest how s)
  Spares-last_piece n at [] s = Spares-at_end (n - 1) s
  Spares-last_piece n at (b ∷ bs) s =
      Spares-unless_passed (limit_of n (length (b ∷ bs)) (at + length (b ∷ bs))) n
      s (cut_line n (b ∷ bs) how s) (Spares-cut_line n (b ∷ bs) s)

  Spares-replayed : (n at : ℕ) (lines : List (List ℕ)) (s : Progress) → Spares (replayed n at lines how s)
  Spares-replayed n at [] s = λ e. cc
  Spares-replayed n at (rest ∷ []) s = Spares-last_piece n at rest s
  Spares-replayed n at (line ∷ next ∷ more) s =
      Spares-and_then (whole_line n at line s) (λ s'. replayed (n + 1) (at + length line + 1) (next ∷ more) how s')
      (Spares-in_line n (whole_line n at line s) (IsInLine-whole n at line s))
      (λ s'. Spares-replayed (n + 1) (at + length line + 1) (next ∷ more) s')

Spares-performed : (gone : ℕ) (events : List Event) (s : Progress) → Spares (performed gone events s)
Spares-performed gone [] s = Spares-at_end Ended (λ e. cc) gone s
Spares-performed gone (event ∷ events) s =
    let line = without_return (line_of event) in
    Spares-and_then (line_outcome (gone + 1) line s) (performed (gone + 1) events)
    (Spares-in_line (gone + 1) (line_outcome (gone + 1) line s) (IsInLine-line (gone + 1) line s))
    (λ s'. Spares-performed (gone + 1) events s')

module _ (how : Ending) (not_failed : how ≡ Failed → ⊥) where
  Spares-outcome : (c : Option Command) (taken : List ℕ) → Spares (outcome_of c taken how)
  Spares-outcome None taken = λ e. cc
  Spares-outcome (Some (Generate seed replicas lines)) taken = λ e. cc
  Spares-outcome (Some (Trial seed replicas lines)) taken =
      Spares-performed 0 (generated seed replicas lines) (before_all Alone)
  Spares-outcome (Some Inspect) taken = by_limit (nat_lt INPUT_BYTES (length taken)) where
    by_seen : (x : Inspected) → Spares (seen_in x)
    by_seen NotAnImage = λ e. cc
    by_seen NotAStore = λ e. cc
    by_seen (Holds r) = λ e. cc

    by_ending : (h : Ending) → how ≡ h → Spares (looked_at taken h)
    by_ending Ended e = by_seen (inspected taken)
    by_ending Failed e = absurd (not_failed e)
    by_ending Open e = λ e. cc

    by_limit : (b : Bool) →
        Spares (cond b (ended_with (status.Limit 0 Input) 0 (before_all Alone)) (looked_at taken how))
    by_limit true = λ e. cc
    by_limit false = by_ending how refl
  Spares-outcome other taken =
      Spares-replayed how not_failed 1 0 (pieces_of 10 taken) (before_all (companion_for other))

-- ---- what is gone through before the taking has ended isn't done

abbrev Undone : Produced → Type 0
Undone p = status_of p ≡ Some status.Done → ⊥

pub Undone-in_line : (n : ℕ) (p : Produced) → IsInLine n p → Undone p
Undone-in_line n p is =
    λ e. absurd (let clash : true ≡ false = ap is_of_end (sym e) ∙ no_end n (status_of p) is in cc)

Undone-and_then : (p : Produced) (more : Progress → Produced) → Undone p → ((s : Progress) → Undone (more s)) →
    Undone (and_then p more)
Undone-and_then p more first next = by_finding p.found refl where
  by_finding : (o : Option Finding) → p.found ≡ o → Undone (and_then p more)
  by_finding None e = rw e (next p.progress)
  by_finding (Some f) e = let same : and_then p more ≡ p = rw e refl in rw same first

Undone-last : (n at : ℕ) (rest : List ℕ) (s : Progress) → Undone (last_piece n at rest Open s)
Undone-last n at [] s = λ e. cc
Undone-last n at (b ∷ bs) s = by_limit (limit_of n (length (b ∷ bs)) (at + length (b ∷ bs))) where
  by_limit : (o : Option Limit) → Undone (unless_passed o n s (cut_line n (b ∷ bs) Open s))
  by_limit None = λ e. cc
  by_limit (Some what) = λ e. cc

pub Undone-open : (n at : ℕ) (lines : List (List ℕ)) (s : Progress) → Undone (replayed n at lines Open s)
Undone-open n at [] s = λ e. cc
Undone-open n at (rest ∷ []) s = Undone-last n at rest s
Undone-open n at (line ∷ next ∷ more) s =
    Undone-and_then (whole_line n at line s) (λ s'. replayed (n + 1) (at + length line + 1) (next ∷ more) Open s')
    (Undone-in_line n (whole_line n at line s) (IsInLine-whole n at line s))
    (λ s'. Undone-open (n + 1) (at + length line + 1) (next ∷ more) s')

-- no take failed where the taking ended in another way
none-failed : (how : Ending) (old new : SourceView) → HasCause how old new →
    (how ≡ Failed → ⊥) → new.faults ≡ old.faults
none-failed Ended old new cause other = cause.1
none-failed Failed old new cause other = absurd (other refl)
none-failed Open old new cause other = cause

abbrev some : Status → Option Status
some s = Some s

-- what comes to a failed take comes to no other status
not-read : (s : Status) → (status.ReadFault ≡ s → ⊥) → (o : Option Status) → o ≡ some status.ReadFault → o ≡ some s → ⊥
not-read s apart o read is = apart (same (sym read ∙ is)) where
  same : some status.ReadFault ≡ some s → status.ReadFault ≡ s
  same e = cc

-- the status tells of a failed take where one failed
pub read-cause : (c : Option Command) (image taken : List ℕ) (how : Ending) (old new : SourceView) (v
    v' : SinkView) (st : Status)
    → HasCause how old new → FailedIsLast how (outcome_of c taken how) →
    Ends c image (outcome_of c taken how) v v' st → ReadCause old new st
read-cause c image taken Failed old new v v' status.ReadFault cause last stopped = cause
read-cause c image taken Ended old new v v' status.ReadFault cause last stopped =
    absurd (Spares-outcome Ended (λ e. cc) c taken stopped.0)
read-cause c image taken Open old new v v' status.ReadFault cause last stopped =
    absurd (Spares-outcome Open (λ e. cc) c taken stopped.0)
read-cause c image taken how old new v v' status.WriteFault cause last stopped = tt
read-cause c image taken how old new v v' status.NoMemory cause last stopped = tt
read-cause c image taken how old new v v' status.Done cause last stopped =
    none-failed how old new
    cause (λ e. not-read status.Done (λ f. cc) (status_of (outcome_of c taken how)) (last e) stopped.0)
read-cause c image taken how old new v v' status.NotAnImage cause last stopped =
    none-failed how old new
    cause (λ e. not-read status.NotAnImage (λ f. cc) (status_of (outcome_of c taken how)) (last e) stopped.0)
read-cause c image taken how old new v v' status.NotAStore cause last stopped =
    none-failed how old new
    cause (λ e. not-read status.NotAStore (λ f. cc) (status_of (outcome_of c taken how)) (last e) stopped.0)
read-cause c image taken how old new v v' status.Usage cause last stopped =
    none-failed how old new
    cause (λ e. not-read status.Usage (λ f. cc) (status_of (outcome_of c taken how)) (last e) stopped.0)
read-cause c image taken how old new v v' (status.Syntax line reason) cause last stopped =
    none-failed how old new
    cause (λ e. not-read (status.Syntax line reason) (λ f. cc)
    (status_of (outcome_of c taken how)) (last e) stopped.0)
read-cause c image taken how old new v v' (status.Refused line reason) cause last stopped =
    none-failed how old new
    cause (λ e. not-read (status.Refused line reason) (λ f. cc)
    (status_of (outcome_of c taken how)) (last e) stopped.0)
read-cause c image taken how old new v v' (status.Limit line what) cause last stopped =
    none-failed how old new
    cause (λ e. not-read (status.Limit line what) (λ f. cc) (status_of (outcome_of c taken how)) (last e) stopped.0)
read-cause c image taken how old new v v' (status.NoEnd lines) cause last stopped =
    none-failed how old new
    cause (λ e. not-read (status.NoEnd lines) (λ f. cc) (status_of (outcome_of c taken how)) (last e) stopped.0)

-- A run that ends by a refusal ends at the line that is refused, and rounds and logs never are refused.
use Rattle.std.proofs.Common.{◌≡◌, ℕ, zero, suc, ◌+◌, ◌==◌, ◌-◌, nat_lt, List, [], ◌∷◌, ◌++◌, length, Option, Some, None, Bool, true, false, cond, not, refl, sym, ap, ◌∙◌, subst, arith, append_assoc, length-append, Result, Ok, Err, eqb-true, if◌then◌else◌, ◌⊎◌, inl, inr}
use Rattle.std.specs.List.{prefix_len}
use Rattle.std.specs.Option.{option_map_or}
use Rattle.std.proofs.lemmas.Bool.{cond_both, le-ltb, false≢true}
use Rattle.cg_base.specs.Lists.{count_up, first_some, Each}
use Rattle.cg_base.specs.Text.{pieces_of, is_nil}
use Rattle.cg_wire.specs.declared.message.Msg.{Msg}
use Rattle.cg_group.specs.declared.reason.Reason.{Reason}
use Rattle.cg_group.specs.State.{GroupState, no_configuration, is_regular, phase_of, regular_in, configuration, delivered_to}
use Rattle.cg_group.specs.Ready.{all_received, ready_in, ready}
use Rattle.cg_group.specs.Refusals.{deliver_refusal}
use Rattle.cg_schedule.specs.declared.event.Event.{Event}
use Rattle.cg_schedule.specs.declared.event.Event.TheVariants.{Request, Gather, Deliver, Rounds, End}
use Rattle.cg_schedule.specs.declared.fault.LineFault.{LineFault}
use Rattle.cg_schedule.specs.declared.fault.LineFault.TheVariants.{Syntax, NoMemory}
use Rattle.cg_schedule.specs.declared.reader_state.ReaderState.{ReaderState}
use Rattle.cg_schedule.specs.Laws.{Reads}
use Rattle.cg_schedule.specs.Line.{first_state, reading, state_after, state_behind}
use Rattle.cg_schedule.specs.Print.{line_of}
use Rattle.cg_model.specs.World.{World, no_world, has_begun, up_replicas}
use Rattle.cg_model.specs.Admission.{takes_part, first_refusal}
use Rattle.cg_model.specs.Run.{world_after, step_limit}
use Rattle.cg_model.specs.NodeLaws.{begun_stay, up_begun}
use Rattle.cg_outcome.specs.Outcome.{Ending, Ended, Failed, Open, lines_alone, performed, pieces_for, read_outcome, further_outcome, log_outcome, line_outcome, without_return, limit_of, unless_passed, whole_line, at_end, cut_line, last_piece, replayed, companion_for, seen_in, looked_at, inspection, outcome_of, outcome}
use Rattle.cg_outcome.specs.declared.command.Command.{Command}
use Rattle.cg_outcome.specs.declared.command.Command.TheVariants.{Generate, Trial, Compare, Inspect}
use Rattle.cg_items.specs.declared.companion.Companion.{Companion}
use Rattle.cg_items.specs.declared.companion.Companion.TheVariants.{Alone, Followers, Relaxed as MadeRows, Sessions as OpenSessions, Comparing, Imaging}
use Rattle.cg_items.specs.declared.companion.Further.{Further}
use Rattle.cg_items.specs.declared.companion.Further.TheVariants as further
use Rattle.cg_items.specs.Companion.{further_reading, is_own, in_place, further_refusal, end_refusal, refusal_for, event_of, acts}
use Rattle.cg_items.specs.Items.{Item, steps_of}
use Rattle.cg_items.specs.Sessions.{not_creating}
use Rattle.cg_session_list.specs.Sessions.{unknown_session}
use Rattle.cg_session.specs.declared.event.SessionEvent.TheVariants.{Begin, Write, Weak}
use Rattle.cg_image.specs.Inspecting.{Inspected, NotAnImage, NotAStore, Holds as HoldsReplica, inspected}
use Rattle.cg_outcome.specs.declared.limits.TheConstants.{INPUT_BYTES}
use Rattle.cg_outcome.specs.declared.status.Limit.TheVariants as limit
use Rattle.cg_compare.specs.declared.log_line.LogLine.{LogLine}
use Rattle.cg_compare.specs.declared.log_line.LogLine.TheVariants as log_line
use Rattle.cg_compare.specs.Lines.{reading as log_reading}
use Rattle.cg_outcome.specs.Commands.{command_of}
use Rattle.cg_outcome.specs.Produced.{Progress, Finding, Produced, before_all, status_of, went_on, ended_with, and_then, counted, unless_refused, one_step, acted, unless_further_refused, one_further}
use Rattle.cg_gen.specs.Generated.{generated}
use Rattle.cg_outcome.specs.declared.status.Status.{Status}
use Rattle.cg_outcome.specs.declared.status.Status.TheVariants as status
use Rattle.cg_outcome.specs.declared.status.Limit.{Limit}
use Rattle.cg_outcome.specs.declared.status.Limit.TheVariants.{Steps}
use Rattle.cg_outcome.specs.Rounds.{deliver_ready, deliveries, one_pass, passes, ended_unless, happened}
use Rattle.cg_outcome.specs.Refusing.{state_past_lines}
use Rattle.cg_outcome.specs.Taking.{TellsOfRefusals}
use Rattle.cg_outcome.specs.UnderWay.{IsUnderWay}
use Rattle.cg_outcome.specs.AskedLaws.{before_under_way}
use Rattle.cg_outcome.specs.FurtherLaws.{AreExact, further-own, placed_started}
use Rattle.cg_outcome.specs.GoingOnLaws.{and_then-some}
use Rattle.cg_outcome.specs.LineLaws.{is_comparing, line-log, line-further}
use Rattle.cg_outcome.proofs.OwnLines.{own-passed}
use Rattle.cg_outcome.proofs.RunFacts.{Holds, bare, bare-kept, item_made, behind, one_step-reader, Holds-line, Holds-whole_line, Holds-outcome}
use Rattle.cg_group.specs.RefusalLaws.{regular-up}

-- ---- what is ready may be delivered

none-ready : (delivered : ℕ) → ready_in (no_configuration {M = Msg}) delivered ≡ 0
unfolding ready_in
none-ready delivered =
    let none : 0 - delivered ≡ 0 = omega arith in
    ap (λ n. prefix_len (all_received (no_configuration {M = Msg})) (count_up (suc delivered) n)) none

regular-ready : (g : GroupState Msg) (p : ℕ) → (ready g p == 0) ≡ false → is_regular g p ≡ true
unfolding configuration
regular-ready g p some = at (regular_in (phase_of g p) == 0) refl where
  at : (b : Bool) → (regular_in (phase_of g p) == 0) ≡ b → not b ≡ true
  at false e = refl
  at true e =
      let away = eqb-true (regular_in (phase_of g p)) 0 e in
      let none : ready g p ≡ 0 = ap (λ conf. ready_in (configuration g conf) (delivered_to g p)) away ∙ none-ready (delivered_to g p) in
      absurd (let clash : true ≡ false = sym (ap (λ n. n == 0) none) ∙ some in cc)

deliver-admitted : (w : World) (p : ℕ) → has_begun w p ≡ true → (ready w.group p == 0) ≡ false → first_refusal w (Deliver p (ready w.group p)) ≡ None
unfolding first_refusal deliver_refusal
deliver-admitted w p begun some =
    let regular = regular-ready w.group p some in
    let up = regular-up w.group p regular in
    let enough = le-ltb (ready w.group p) (ready w.group p) (omega arith) in
    rw (begun, up, regular, enough) refl

-- ---- rounds

-- the part doesn't end by a refusal
abbrev Admits : Produced → Type 0
Admits p = (m : ℕ) (r : Reason) → status_of p ≡ Some (status.Refused m r) → ⊥

-- and who has begun before it has begun behind it
record Passes (s : Progress) (p : Produced) : Type 0 where
  pub admits : Admits p
  pub begun : (q : ℕ) → has_begun s.world q ≡ true → has_begun p.progress.world q ≡ true
  pub reader : p.progress.reader ≡ s.reader

Passes-went_on : (s : Progress) → Passes s (went_on s)
Passes-went_on s = record { admits = λ m r e. cc; begun = λ q is. is; reader = refl }

Passes-and_then : (s : Progress) (p : Produced) (more : Progress → Produced) → Passes s p → Passes p.progress (more p.progress) → Passes s (and_then p more)
Passes-and_then s p more first next = by_finding p.found refl where
  by_finding : (o : Option Finding) → p.found ≡ o → Passes s (and_then p more)
  by_finding None e =
      rw e record { admits = next.admits; begun = λ q is. next.begun q (first.begun q is); reader = next.reader ∙ first.reader }
  by_finding (Some f) e = subst (Passes s) (sym (and_then-some p more f e)) first

-- an item that is counted leaves who has begun, and the reader
Passes-counted : (n : ℕ) (item : Item) (next s : Progress) → ((q : ℕ) → has_begun s.world q ≡ true → has_begun next.world q ≡ true) → next.reader ≡ s.reader → Passes s (counted n item next s)
Passes-counted n item next s stay same = by_limit (nat_lt s.count step_limit) where
  by_limit : (b : Bool) → Passes s (if b then record { items = item ∷ []; found = None; progress = next } else ended_with (status.Limit n Steps) n s)
  by_limit true = record { admits = λ m r e. cc; begun = stay; reader = same }
  by_limit false = record { admits = λ m r e. cc; begun = λ q is. is; reader = refl }

Passes-one_step : (n : ℕ) (asked : Option Further) (event : Event) (s : Progress) → first_refusal s.world event ≡ None → Passes s (one_step n asked event s)
Passes-one_step n asked event s admitted = rw admitted (Passes-counted n (item_made asked event s) (behind asked event s) s (begun_stay s.world event) refl)

Passes-deliver_ready : (n p : ℕ) (s : Progress) → has_begun s.world p ≡ true → Passes s (deliver_ready n p s)
Passes-deliver_ready n p s begun = by_count (ready s.world.group p == 0) refl where
  by_count : (b : Bool) → (ready s.world.group p == 0) ≡ b → Passes s (cond b (went_on s) (one_step n None (Deliver p (ready s.world.group p)) s))
  by_count true e = Passes-went_on s
  by_count false e = Passes-one_step n None (Deliver p (ready s.world.group p)) s (deliver-admitted s.world p begun e)

-- all of these have begun behind a part as before it
each-on : (v w : World) → ((q : ℕ) → has_begun v q ≡ true → has_begun w q ≡ true) → (set : List ℕ) → Each (λ q. has_begun v q ≡ true) set → Each (λ q. has_begun w q ≡ true) set
each-on v w on [] each = tt
each-on v w on (p ∷ set) each = (on p each.0, each-on v w on set each.1)

Passes-deliveries : (n : ℕ) (set : List ℕ) (s : Progress) → Each (λ q. has_begun s.world q ≡ true) set → Passes s (deliveries n set s)
Passes-deliveries n [] s each = Passes-went_on s
Passes-deliveries n (p ∷ set) s each =
    let one = Passes-deliver_ready n p s each.0 in
    let q = deliver_ready n p s in
    Passes-and_then s q (deliveries n set) one (Passes-deliveries n set q.progress (each-on s.world q.progress.world one.begun set each.1))

Passes-one_pass : (n : ℕ) (s : Progress) → Passes s (one_pass n s)
unfolding first_refusal
Passes-one_pass n s =
    let one = Passes-one_step n None Gather s refl in
    let q = one_step n None Gather s in
    let set = up_replicas s.world in
    Passes-and_then s q (deliveries n set) one (Passes-deliveries n set q.progress (each-on s.world q.progress.world one.begun set (up_begun s.world)))

Passes-passes : (n count : ℕ) (s : Progress) → Passes s (passes n count s)
Passes-passes n zero s = Passes-went_on s
Passes-passes n (suc count) s =
    let q = one_pass n s in
    Passes-and_then s q (passes n count) (Passes-one_pass n s) (Passes-passes n count q.progress)

-- ---- events

-- where the part ends by a refusal, it is that of the event of line n, in the world that it leaves
abbrev RefusesStep : ℕ → Event → Produced → Type 0
RefusesStep n event p = (m : ℕ) (r : Reason) → status_of p ≡ Some (status.Refused m r) → (m ≡ n) × (first_refusal p.progress.world event ≡ Some r)

-- in a run of the command
abbrev RefusesEvent : Companion → ℕ → Event → Produced → Type 0
RefusesEvent c n event p = (m : ℕ) (r : Reason) → status_of p ≡ Some (status.Refused m r) → (m ≡ n) × (refusal_for c p.progress.world event ≡ Some r)

one_step-refuses : (n : ℕ) (event : Event) (s : Progress) → RefusesStep n event (one_step n None event s)
one_step-refuses n event s = by_refusal (first_refusal s.world event) refl where
  by_limit : (b : Bool) (item : Item) (next : Progress) → RefusesStep n event (if b then record { items = item ∷ []; found = None; progress = next } else ended_with (status.Limit n Steps) n s)
  by_limit true item next = λ m r e. cc
  by_limit false item next = λ m r e. cc

  by_refusal : (o : Option Reason) → first_refusal s.world event ≡ o → RefusesStep n event (unless_refused o n None event s)
  by_refusal None is = by_limit (nat_lt s.count step_limit) (item_made None event s) (behind None event s)
  by_refusal (Some reason) is = λ m r e. (cc, is ∙ cc)

ended-refuses : (n : ℕ) (s : Progress) → RefusesEvent s.companion n End (ended_unless (end_refusal s.companion s.world) n s)
ended-refuses n s = by_refusal (end_refusal s.companion s.world) refl where
  by_refusal : (o : Option Reason) → end_refusal s.companion s.world ≡ o → RefusesEvent s.companion n End (ended_unless o n s)
  by_refusal None is = λ m r e. cc
  by_refusal (Some reason) is = λ m r e. (cc, is ∙ cc)

happened-refuses : (n : ℕ) (event : Event) (s : Progress) → RefusesEvent s.companion n event (happened n event s)
unfolding happened
happened-refuses n End s = ended-refuses n s
happened-refuses n (Rounds count) s = λ m r e. absurd ((Passes-passes n count s).admits m r e)
happened-refuses n other s = one_step-refuses n other s

ended-reader : (o : Option Reason) (n : ℕ) (s : Progress) → (ended_unless o n s).progress.reader ≡ s.reader
ended-reader None n s = refl
ended-reader (Some reason) n s = refl

pub happened-reader : (n : ℕ) (event : Event) (s : Progress) → (happened n event s).progress.reader ≡ s.reader
unfolding happened
happened-reader n End s = ended-reader (end_refusal s.companion s.world) n s
happened-reader n (Rounds count) s = (Passes-passes n count s).reader
happened-reader n other s = one_step-reader n None other s

-- ---- events of a command's own

second-none : (a b c : Option Reason) → first_some (a ∷ b ∷ c ∷ []) ≡ None → b ≡ None
second-none (Some reason) b c is = absurd cc
second-none None (Some reason) c is = absurd cc
second-none None None c is = refl

-- the event for which one stands that is admitted is admitted
stands-admitted : (w : World) (c : Companion) (e : Further) (event : Event) → is_own c e ≡ true → further_refusal w c e ≡ None → event_of e ≡ Some event → first_refusal w event ≡ None
unfolding first_refusal
stands-admitted w (OpenSessions opened) (further.Session (Write s p cmds query)) event own admitted is =
    let same : Request p cmds query ≡ event = cc in
    subst (λ e. first_refusal w e ≡ None) same (second-none (unknown_session opened s) (takes_part w p) (not_creating w p) admitted)
stands-admitted w (OpenSessions opened) (further.Session (Begin s)) event own admitted is = absurd cc
stands-admitted w (OpenSessions opened) (further.Session (Weak s p query)) event own admitted is = absurd cc
stands-admitted w (Followers followers) (further.Session e) event own admitted is = absurd (false≢true own)
stands-admitted w (MadeRows rows) (further.Session e) event own admitted is = absurd (false≢true own)
stands-admitted w Alone (further.Session e) event own admitted is = absurd (false≢true own)
stands-admitted w Comparing (further.Session e) event own admitted is = absurd (false≢true own)
stands-admitted w (Imaging p) (further.Session e) event own admitted is = absurd (false≢true own)
stands-admitted w c (further.Follow e) event own admitted is = absurd cc
stands-admitted w c (further.Relaxed e) event own admitted is = absurd cc

-- where the part ends by a refusal, it is that of this event of the command's own, of line n, in the world that it leaves
abbrev RefusesOwn : ℕ → Further → Produced → Type 0
RefusesOwn n e p = (m : ℕ) (r : Reason) → status_of p ≡ Some (status.Refused m r) → (m ≡ n) × (further_refusal p.progress.world p.progress.companion e ≡ Some r)

-- and the reader is where it was
record IsOwn (n : ℕ) (e : Further) (s : Progress) (p : Produced) : Type 0 where
  pub refuses : RefusesOwn n e p
  pub reader : p.progress.reader ≡ s.reader

own-passes : (n : ℕ) (e : Further) (s : Progress) (p : Produced) → Passes s p → IsOwn n e s p
own-passes n e s p passes = record { refuses = λ m r same. absurd (passes.admits m r same); reader = passes.reader }

own-is : (n : ℕ) (e : Further) (s : Progress) → is_own s.companion e ≡ true → IsOwn n e s (one_further n e s)
own-is n e s own = by_refusal (further_refusal s.world s.companion e) refl where
  by_event : (o : Option Event) → event_of e ≡ o → further_refusal s.world s.companion e ≡ None
      → IsOwn n e s (option_map_or (λ event. one_step n (Some e) event s) o (acted n e (acts s.world s.companion e) s))
  by_event None is admitted =
      let noted = acts s.world s.companion e in
      own-passes n e s (acted n e noted s)
      (Passes-counted n (record { number = s.count + 1; further = Some e; step = None; lines = noted.lines })
      (record s { companion = noted.companion; count = s.count + 1 }) s (λ q begun. begun) refl)
  by_event (Some event) is admitted =
      own-passes n e s (one_step n (Some e) event s) (Passes-one_step n (Some e) event s (stands-admitted s.world s.companion e event own admitted is))

  by_refusal : (o : Option Reason) → further_refusal s.world s.companion e ≡ o → IsOwn n e s (unless_further_refused o n e s)
  by_refusal None is = by_event (event_of e) refl is
  by_refusal (Some reason) is = record { refuses = λ m r same. (cc, is ∙ cc); reader = refl }

-- ---- lines

-- the text of a line, with what stands behind it
abbrev text_before : List (List ℕ) → List ℕ → List ℕ
text_before behind line = if is_nil behind then line else without_return line

-- the reader's state behind a line
abbrev state_past : ReaderState → List ℕ → ReaderState
state_past state text = state_behind state (reading state text)

-- the text reads as an event of the schedule, which is refused so in the world that the part leaves
record ReadsEvent (text : List ℕ) (s : Progress) (p : Produced) (r : Reason) : Type 0 where
  pub event : Event
  pub reads : Reads s.reader text event
  pub refused : refusal_for s.companion p.progress.world event ≡ Some r

-- or as one of the command's own
record ReadsOwn (text : List ℕ) (s : Progress) (p : Produced) (r : Reason) : Type 0 where
  pub event : Further
  pub reads : in_place s.reader (further_reading s.companion text) ≡ Ok (Some event)
  pub refused : further_refusal p.progress.world p.progress.companion event ≡ Some r

-- a line of this text: where it ends the run by a refusal, it reads as an event that is refused so; and where it doesn't end the run, the
-- reader has come past it
record IsLine (n : ℕ) (text : List ℕ) (s : Progress) (p : Produced) : Type 0 where
  pub refuses : (m : ℕ) (r : Reason) → status_of p ≡ Some (status.Refused m r) → (m ≡ n) × (ReadsEvent text s p r ⊎ ReadsOwn text s p r)
  pub reader : p.found ≡ None → p.progress.reader ≡ state_past s.reader text

ends-line : (n : ℕ) (text : List ℕ) (s : Progress) (st : Status) (lines : ℕ) → ((m : ℕ) (r : Reason) → st ≡ status.Refused m r → ⊥) → IsLine n text s (ended_with st lines s)
ends-line n text s st lines other = record { refuses = λ m r e. absurd (other m r cc); reader = λ e. absurd cc }

is-line : (n : ℕ) (text : List ℕ) (s : Progress) → is_comparing s.companion ≡ false → IsLine n text s (line_outcome n text s)
is-line n text s other = by_own (in_place s.reader (further_reading s.companion text)) refl where
  by_reading : (r : Result (Option Event) LineFault) → reading s.reader text ≡ r → IsLine n text s (read_outcome n r s)
  by_reading (Ok None) is = record { refuses = λ m r e. cc; reader = λ e. sym (ap (state_behind s.reader) is) }
  by_reading (Ok (Some event)) is = record {
    refuses = λ m r e.
        (let why = happened-refuses n event (record s { reader = state_after s.reader event }) m r e in
        (why.0, inl (record { event = event; reads = is; refused = why.1 })));
    reader = λ e. happened-reader n event (record s { reader = state_after s.reader event }) ∙ sym (ap (state_behind s.reader) is);
  }
  by_reading (Err (Syntax reason)) is = ends-line n text s _ n (λ m r e. cc)
  by_reading (Err NoMemory) is = ends-line n text s _ n (λ m r e. cc)

  of_own : (r : Result (Option Further) LineFault) → in_place s.reader (further_reading s.companion text) ≡ r → IsLine n text s (further_outcome n r text s)
  of_own (Ok None) is = by_reading (reading s.reader text) refl
  of_own (Ok (Some e)) is =
      let placed = placed_started s.reader (further_reading s.companion text) e is in
      let own = own-is n e s (further-own s.companion text e placed.1) in
      record {
        refuses = λ m r same. (let why = own.refuses m r same in (why.0, inr (record { event = e; reads = is; refused = why.1 })));
        reader = λ none. own.reader ∙ sym (own-passed s.reader s.companion text e placed.1);
      }
  of_own (Err (Syntax reason)) is = ends-line n text s _ n (λ m r e. cc)
  of_own (Err NoMemory) is = ends-line n text s _ n (λ m r e. cc)

  by_own : (r : Result (Option Further) LineFault) → in_place s.reader (further_reading s.companion text) ≡ r → IsLine n text s (line_outcome n text s)
  by_own r is = subst (IsLine n text s) (sym (line-further n text s r other is)) (of_own r is)

unless-line : (o : Option Limit) (n : ℕ) (text : List ℕ) (s : Progress) (p : Produced) → IsLine n text s p → IsLine n text s (unless_passed o n s p)
unless-line None n text s p is = is
unless-line (Some what) n text s p is = ends-line n text s (status.Limit n what) n (λ m r e. cc)

-- ---- the whole input

-- one of these pieces is an event that isn't admitted in the world, first for this reason
record RefusesIn (c : Companion) (all : List (List ℕ)) (w : World) (n : ℕ) (reason : Reason) : Type 0 where
  pub before : List (List ℕ)
  pub line : List ℕ
  pub behind : List (List ℕ)
  pub lines : all ≡ before ++ line ∷ behind
  pub numbered : n ≡ suc (length before)
  pub event : Event
  pub reads : Reads (state_past_lines first_state before) (text_before behind line) event
  pub refused : refusal_for c w event ≡ Some reason

-- or one of a command's own that isn't admitted with this kept beside the world, where that was kept at first
record RefusesOwnIn (c : Companion) (all : List (List ℕ)) (w : World) (kept : Companion) (n : ℕ) (reason : Reason) : Type 0 where
  pub before : List (List ℕ)
  pub line : List ℕ
  pub behind : List (List ℕ)
  pub lines : all ≡ before ++ line ∷ behind
  pub numbered : n ≡ suc (length before)
  pub event : Further
  pub reads : in_place (state_past_lines first_state before) (further_reading c (text_before behind line)) ≡ Ok (Some event)
  pub refused : further_refusal w kept event ≡ Some reason

-- one of the two, where the part ends by a refusal
abbrev RefusesOf : Companion → List (List ℕ) → Produced → Type 0
RefusesOf c all p = (m : ℕ) (r : Reason) → status_of p ≡ Some (status.Refused m r) →
    RefusesIn c all p.progress.world m r ⊎ RefusesOwnIn c all p.progress.world p.progress.companion m r

-- how lines read doesn't depend on what is kept, but on what kind it is
bare-reads : (c : Companion) (line : List ℕ) → further_reading c line ≡ further_reading (bare c) line
bare-reads (OpenSessions opened) line = refl
bare-reads (Followers followers) line = refl
bare-reads (MadeRows rows) line = refl
bare-reads other line = refl

bare-comparing : (c : Companion) → is_comparing c ≡ is_comparing (bare c)
bare-comparing (OpenSessions opened) = refl
bare-comparing (Followers followers) = refl
bare-comparing (MadeRows rows) = refl
bare-comparing other = refl

same-reads : (c d : Companion) (line : List ℕ) → bare d ≡ bare c → further_reading d line ≡ further_reading c line
same-reads c d line same = bare-reads d line ∙ ap (λ (b : Companion). further_reading b line) same ∙ sym (bare-reads c line)

-- nor does what the end is refused for
bare-refuses : (c : Companion) (w : World) (event : Event) → refusal_for c w event ≡ refusal_for (bare c) w event
bare-refuses (OpenSessions opened) w event = by_end event where
  by_end : (event : Event) → refusal_for (OpenSessions opened) w event ≡ refusal_for (bare (OpenSessions opened)) w event
  by_end End = refl
  by_end other = refl
bare-refuses (Followers followers) w event = by_end event where
  by_end : (event : Event) → refusal_for (Followers followers) w event ≡ refusal_for (bare (Followers followers)) w event
  by_end End = refl
  by_end other = refl
bare-refuses (MadeRows rows) w event = by_end event where
  by_end : (event : Event) → refusal_for (MadeRows rows) w event ≡ refusal_for (bare (MadeRows rows)) w event
  by_end End = refl
  by_end other = refl
bare-refuses other w event = refl

same-refuses : (c d : Companion) (w : World) (event : Event) → bare d ≡ bare c → refusal_for d w event ≡ refusal_for c w event
same-refuses c d w event same = bare-refuses d w event ∙ ap (λ (b : Companion). refusal_for b w event) same ∙ sym (bare-refuses c w event)

not-comparing : (c d : Companion) → bare d ≡ bare c → is_comparing c ≡ false → is_comparing d ≡ false
not-comparing c d same other = bare-comparing d ∙ ap is_comparing same ∙ sym (bare-comparing c) ∙ other

-- the end of the input refuses nothing
at_end-admits : (n : ℕ) (how : Ending) (s : Progress) → Admits (at_end n how s)
at_end-admits n Ended s = cond_both s.reader.ended (ended_with status.Done n s) (ended_with (status.NoEnd n) n s) Admits (λ y m r e. cc) (λ y m r e. cc)
at_end-admits n Failed s = λ m r e. cc
at_end-admits n Open s = λ m r e. cc

refuses-and_then : (c : Companion) (all : List (List ℕ)) (p : Produced) (more : Progress → Produced) → RefusesOf c all p → (p.found ≡ None → RefusesOf c all (more p.progress)) → RefusesOf c all (and_then p more)
refuses-and_then c all p more first next = by_finding p.found refl where
  by_finding : (o : Option Finding) → p.found ≡ o → RefusesOf c all (and_then p more)
  by_finding None e = rw e (next e)
  by_finding (Some f) e = subst (RefusesOf c all) (sym (and_then-some p more f e)) first

-- the state behind one line more
past-last : (before : List (List ℕ)) (state : ReaderState) (line : List ℕ) → state_past_lines state (before ++ line ∷ []) ≡ state_past (state_past_lines state before) (without_return line)
past-last [] state line = refl
past-last (x ∷ before) state line = past-last before (state_past state (without_return x)) line

-- a part of a run: how far it has come behind these lines, with what was kept at first
record Before (c : Companion) (before : List (List ℕ)) (s : Progress) : Type 0 where
  pub here : s.reader ≡ state_past_lines first_state before
  pub under : IsUnderWay s
  pub kind : bare s.companion ≡ bare c

-- what is kept behind a part is of one kind with what was kept before it
kept-kind : (c : Companion) (s : Progress) (p : Produced) → bare s.companion ≡ bare c → Holds s p → bare p.progress.companion ≡ bare c
kept-kind c s p kind h = ap bare h.kept ∙ bare-kept s.world s.companion p.items ∙ kind

-- the lines before, the line, and those behind it
module _ (exact : AreExact) (c : Companion) (other : is_comparing c ≡ false) (all before : List (List ℕ)) (s : Progress) (b : Before c before s) (n : ℕ) (numbered : n ≡ suc (length before)) where
  is-here : (text : List ℕ) → IsLine n text s (line_outcome n text s)
  is-here text = is-line n text s (not-comparing c s.companion b.kind other)

  line-refuses : (line : List ℕ) (behind : List (List ℕ)) → all ≡ before ++ line ∷ behind → (p : Produced) → IsLine n (text_before behind line) s p → RefusesOf c all p
  line-refuses line behind lines p is m r e =
      let why = is.refuses m r e in
      elim why.1 [
        | inl event ↦ inl (record {
          before = before;
          line = line;
          behind = behind;
          lines = lines;
          numbered = why.0 ∙ numbered;
          event = event.event;
          reads = subst (λ state. Reads state (text_before behind line) event.event) b.here event.reads;
          refused = sym (same-refuses c s.companion p.progress.world event.event b.kind) ∙ event.refused;
        })
        | inr own ↦ inr (record {
          before = before;
          line = line;
          behind = behind;
          lines = lines;
          numbered = why.0 ∙ numbered;
          event = own.event;
          reads =
              sym (ap (λ (state : ReaderState). in_place state (further_reading s.companion (text_before behind line))) b.here
              ∙ ap (λ (r : Result (Option Further) LineFault). in_place (state_past_lines first_state before) r) (same-reads c s.companion (text_before behind line) b.kind))
              ∙ own.reads;
          refused = own.refused;
        })
      ]

  cut-refuses : (line : List ℕ) (how : Ending) → all ≡ before ++ line ∷ [] → RefusesOf c all (cut_line n line how s)
  cut-refuses line Ended lines =
      refuses-and_then c all (line_outcome n line s) (at_end n Ended) (line-refuses line [] lines (line_outcome n line s) (is-here line))
      (λ e m r f. absurd (at_end-admits n Ended (line_outcome n line s).progress m r f))
  cut-refuses line Failed lines = λ m r e. cc
  cut-refuses line Open lines = λ m r e. cc

  last-refuses : (at : ℕ) (piece : List ℕ) (how : Ending) → all ≡ before ++ piece ∷ [] → RefusesOf c all (last_piece n at piece how s)
  last-refuses at [] how lines = λ m r e. absurd (at_end-admits (n - 1) how s m r e)
  last-refuses at (x ∷ xs) how lines = by_limit (limit_of n (length (x ∷ xs)) (at + length (x ∷ xs))) where
    by_limit : (o : Option Limit) → RefusesOf c all (unless_passed o n s (cut_line n (x ∷ xs) how s))
    by_limit None = cut-refuses (x ∷ xs) how lines
    by_limit (Some what) = λ m r e. cc

  whole-is : (at : ℕ) (line : List ℕ) → IsLine n (without_return line) s (whole_line n at line s)
  whole-is at line = unless-line (limit_of n (length line) (at + length line + 1)) n (without_return line) s (line_outcome n (without_return line) s) (is-here (without_return line))

  -- behind a line that was gone through
  next-before : (line : List ℕ) (p : Produced) → IsLine n (without_return line) s p → Holds s p → p.found ≡ None → Before c (before ++ line ∷ []) p.progress
  next-before line p is h none = record {
    here = is.reader none ∙ ap (λ state. state_past state (without_return line)) b.here ∙ sym (past-last before first_state line);
    under = h.under_way none;
    kind = kept-kind c s p b.kind h;
  }

first-before : (c : Companion) → Before c [] (before_all c)
first-before c = record { here = refl; under = before_under_way c; kind = refl }

replayed-refuses : AreExact → (c : Companion) → is_comparing c ≡ false → (all before pieces : List (List ℕ)) (n at : ℕ) (how : Ending) (s : Progress) → all ≡ before ++ pieces → Before c before s
    → n ≡ suc (length before) → RefusesOf c all (replayed n at pieces how s)
replayed-refuses exact c other all before [] n at how s lines b numbered = λ m r e. cc
replayed-refuses exact c other all before (rest ∷ []) n at how s lines b numbered = last-refuses exact c other all before s b n numbered at rest how lines
replayed-refuses exact c other all before (line ∷ next ∷ more) n at how s lines b numbered =
    let p = whole_line n at line s in
    let is = whole-is exact c other all before s b n numbered at line in
    let h = Holds-whole_line n at line s exact b.under in
    refuses-and_then c all p (λ s'. replayed (n + 1) (at + length line + 1) (next ∷ more) how s') (line-refuses exact c other all before s b n numbered line (next ∷ more) lines p is)
    (λ e. replayed-refuses exact c other all (before ++ line ∷ []) (next ∷ more) (n + 1) (at + length line + 1) how p.progress
    (lines ∙ sym (append_assoc before (line ∷ []) (next ∷ more)))
    (next-before exact c other all before s b n numbered line p is h e)
    (grind (arith, length-append {A = List ℕ}, numbered)))

some_lines : (events : List Event) → is_nil (lines_alone events) ≡ false
some_lines [] = refl
some_lines (event ∷ events) = refl

performed-refuses : AreExact → (all before : List (List ℕ)) (events : List Event) (gone : ℕ) (s : Progress) → all ≡ before ++ lines_alone events → Before Alone before s → gone ≡ length before
    → RefusesOf Alone all (performed gone events s)
performed-refuses exact all before [] gone s lines b numbered = λ m r e. absurd (at_end-admits gone Ended s m r e)
performed-refuses exact all before (event ∷ events) gone s lines b numbered =
    let line = line_of event in
    let n = gone + 1 in
    let p = line_outcome n (without_return line) s in
    let number : n ≡ suc (length before) = omega (arith, numbered) in
    let is = is-here exact Alone refl all before s b n number (without_return line) in
    let h = Holds-line n (without_return line) s exact b.under in
    let stands : IsLine n (text_before (lines_alone events) line) s p =
    subst (λ last. IsLine n (if last then line else without_return line) s p) (sym (some_lines events)) is in
    refuses-and_then Alone all p (performed n events) (line-refuses exact Alone refl all before s b n number line (lines_alone events) lines p stands)
    (λ e. performed-refuses exact all (before ++ line ∷ []) events n p.progress
    (lines ∙ sym (append_assoc before (line ∷ []) (lines_alone events)))
    (next-before exact Alone refl all before s b n number line p is h e)
    (grind (arith, length-append {A = List ℕ}, numbered)))

-- ---- logs refuse nothing

record Compares (p : Produced) : Type 0 where
  pub admits : Admits p
  pub compares : p.progress.companion ≡ Comparing

compares-and_then : (p : Produced) (more : Progress → Produced) → Compares p → (p.progress.companion ≡ Comparing → Compares (more p.progress)) → Compares (and_then p more)
compares-and_then p more first next = by_finding p.found refl where
  by_finding : (o : Option Finding) → p.found ≡ o → Compares (and_then p more)
  by_finding None e = let rest = next first.compares in rw e record { admits = rest.admits; compares = rest.compares }
  by_finding (Some f) e = subst Compares (sym (and_then-some p more f e)) first

compares-end : (n : ℕ) (how : Ending) (s : Progress) → s.companion ≡ Comparing → Compares (at_end n how s)
compares-end n Ended s is =
    cond_both s.reader.ended (ended_with status.Done n s) (ended_with (status.NoEnd n) n s) Compares
    (λ y. record { admits = λ m r e. cc; compares = is }) (λ y. record { admits = λ m r e. cc; compares = is })
compares-end n Failed s is = record { admits = λ m r e. cc; compares = is }
compares-end n Open s is = record { admits = λ m r e. cc; compares = is }

compares-line : (n : ℕ) (line : List ℕ) (s : Progress) → s.companion ≡ Comparing → Compares (line_outcome n line s)
compares-line n line s is = subst Compares (sym (line-log n line s (log_reading s.reader.ended line) is refl)) (by_reading (log_reading s.reader.ended line)) where
  by_reading : (r : Result (Option LogLine) LineFault) → Compares (log_outcome n r s)
  by_reading (Ok None) = record { admits = λ m r e. cc; compares = is }
  by_reading (Ok (Some (log_line.Log white list))) = record { admits = λ m r e. cc; compares = is }
  by_reading (Ok (Some log_line.End)) = record { admits = λ m r e. cc; compares = is }
  by_reading (Err (Syntax reason)) = record { admits = λ m r e. cc; compares = is }
  by_reading (Err NoMemory) = record { admits = λ m r e. cc; compares = is }

compares-unless : (o : Option Limit) (n : ℕ) (s : Progress) (p : Produced) → s.companion ≡ Comparing → Compares p → Compares (unless_passed o n s p)
compares-unless None n s p is compares = compares
compares-unless (Some what) n s p is compares = record { admits = λ m r e. cc; compares = is }

compares-cut : (n : ℕ) (line : List ℕ) (how : Ending) (s : Progress) → s.companion ≡ Comparing → Compares (cut_line n line how s)
compares-cut n line Ended s is =
    compares-and_then (line_outcome n line s) (at_end n Ended) (compares-line n line s is) (compares-end n Ended (line_outcome n line s).progress)
compares-cut n line Failed s is = compares-end (n - 1) Failed s is
compares-cut n line Open s is = compares-end (n - 1) Open s is

compares-last : (n at : ℕ) (piece : List ℕ) (how : Ending) (s : Progress) → s.companion ≡ Comparing → Compares (last_piece n at piece how s)
compares-last n at [] how s is = compares-end (n - 1) how s is
compares-last n at (x ∷ xs) how s is =
    compares-unless (limit_of n (length (x ∷ xs)) (at + length (x ∷ xs))) n s (cut_line n (x ∷ xs) how s) is (compares-cut n (x ∷ xs) how s is)

compares-replayed : (n at : ℕ) (pieces : List (List ℕ)) (how : Ending) (s : Progress) → s.companion ≡ Comparing → Compares (replayed n at pieces how s)
compares-replayed n at [] how s is = record { admits = λ m r e. cc; compares = is }
compares-replayed n at (rest ∷ []) how s is = compares-last n at rest how s is
compares-replayed n at (line ∷ next ∷ more) how s is =
    let p = whole_line n at line s in
    compares-and_then p (λ s'. replayed (n + 1) (at + length line + 1) (next ∷ more) how s')
    (compares-unless (limit_of n (length line) (at + length line + 1)) n s (line_outcome n (without_return line) s) is (compares-line n (without_return line) s is))
    (compares-replayed (n + 1) (at + length line + 1) (next ∷ more) how p.progress)

-- ---- what is looked at refuses nothing

inspection-admits : (taken : List ℕ) (how : Ending) → Admits (inspection taken how)
inspection-admits taken how = by_limit (nat_lt INPUT_BYTES (length taken)) where
  by_seen : (x : Inspected) → Admits (seen_in x)
  by_seen NotAnImage = λ m r e. cc
  by_seen NotAStore = λ m r e. cc
  by_seen (HoldsReplica r) = λ m r e. cc

  by_ending : (how : Ending) → Admits (looked_at taken how)
  by_ending Ended = by_seen (inspected taken)
  by_ending Failed = λ m r e. cc
  by_ending Open = λ m r e. cc

  by_limit : (b : Bool) → Admits (cond b (ended_with (status.Limit 0 limit.Input) 0 (before_all Alone)) (looked_at taken how))
  by_limit true = λ m r e. cc
  by_limit false = by_ending how

-- ---- all commands

outcome-refuses_in : (words : List (List ℕ)) (taken : List ℕ) (how : Ending) → AreExact → RefusesOf (companion_for (command_of words)) (pieces_for (command_of words) taken) (outcome words taken how)
outcome-refuses_in words taken how exact = by_command (command_of words) where
  by_command : (c : Option Command) → RefusesOf (companion_for c) (pieces_for c taken) (outcome_of c taken how)
  by_command None = λ m r e. cc
  by_command (Some (Generate seed replicas lines)) = λ m r e. cc
  by_command (Some (Trial seed replicas lines)) =
      performed-refuses exact (lines_alone (generated seed replicas lines)) [] (generated seed replicas lines) 0 (before_all Alone) refl (first-before Alone) refl
  by_command (Some Compare) = λ m r e. absurd ((compares-replayed 1 0 (pieces_of 10 taken) how (before_all Comparing) refl).admits m r e)
  by_command (Some Inspect) = λ m r e. absurd (inspection-admits taken how m r e)
  by_command other =
      replayed-refuses exact (companion_for other) refl (pieces_of 10 taken) [] (pieces_of 10 taken) 1 0 how (before_all (companion_for other)) refl (first-before (companion_for other)) refl

pub outcome-refuses : (words : List (List ℕ)) → AreExact → TellsOfRefusals words
outcome-refuses words exact taken how n reason e =
    let p = outcome words taken how in
    let c = companion_for (command_of words) in
    let h = Holds-outcome words taken how exact in
    elim (outcome-refuses_in words taken how exact n reason e) [
      | inl why ↦ inl (record {
        before = why.before;
        line = why.line;
        behind = why.behind;
        lines = why.lines;
        numbered = why.numbered;
        event = why.event;
        reads = why.reads;
        refused = subst (λ (w : World). refusal_for c w why.event ≡ Some reason) h.world why.refused;
      })
      | inr why ↦ inr (record {
        before = why.before;
        line = why.line;
        behind = why.behind;
        lines = why.lines;
        numbered = why.numbered;
        event = why.event;
        reads = why.reads;
        refused =
            sym (ap (λ (w : World). further_refusal w p.progress.companion why.event) h.world
            ∙ ap (λ (kept : Companion). further_refusal (world_after no_world (steps_of p.items)) kept why.event) h.kept) ∙ why.refused;
      })
    ]

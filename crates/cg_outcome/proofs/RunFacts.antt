-- The steps of what a run comes to are a run of the world, its items are numbered and told as what stands beside the world has it, and a refusal is
-- that of the world's tests.
use Rattle.std.proofs.Common.{◌≡◌, ℕ, zero, suc, ◌+◌, ◌==◌, nat_lt, List, [], ◌∷◌, ◌++◌, length, map, IfSome, if◌then◌else◌, Option, Some, None, Bool, true, false, cond, refl, sym, ap, ◌∙◌, arith, length-append, ◌-◌, subst, not, Result, Ok, Err, ◌<◌}
use Rattle.std.specs.Option.{option_map_or}
use Rattle.std.proofs.lemmas.Bool.{and_parts, ltb-true, not-true}
use Rattle.cg_base.specs.Lists.{present}
use Rattle.cg_base.specs.Text.{pieces_of}
use Rattle.cg_group.specs.declared.reason.Reason.{Reason}
use Rattle.cg_group.specs.Ready.{ready}
use Rattle.cg_schedule.specs.declared.event.Event.{Event}
use Rattle.cg_schedule.specs.declared.event.Event.TheVariants.{Start, Split, Merge, Gather, Deliver, Rounds, End}
use Rattle.cg_schedule.specs.declared.fault.LineFault.{LineFault}
use Rattle.cg_schedule.specs.declared.fault.LineFault.TheVariants.{Syntax, NoMemory}
use Rattle.cg_schedule.specs.declared.reader_state.ReaderState.{ReaderState}
use Rattle.cg_schedule.specs.Fault.{syntax_number}
use Rattle.cg_schedule.specs.Limits.{IsEvent}
use Rattle.cg_schedule.specs.Line.{event_word, fits, reading, state_after}
use Rattle.cg_schedule.specs.Print.{line_of}
use Rattle.cg_model.specs.World.{World, no_world, up_replicas}
use Rattle.cg_model.specs.Admission.{first_refusal}
use Rattle.cg_model.specs.Step.{world_step}
use Rattle.cg_model.specs.Run.{Step, world_after, step_limit, MayStand, IsRunFrom}
use Rattle.cg_model.specs.EveryRun.{Agreement, IsRefused, EveryRunAgrees}
use Rattle.cg_model.specs.NodeLaws.{step_nodes}
use Rattle.cg_terms.specs.Terms.{Guarantees, AgreementGuarantees}
use Rattle.cg_outcome.specs.declared.command.Command.{Command}
use Rattle.cg_outcome.specs.declared.command.Command.TheVariants.{Generate, Trial, Follow, Relaxed, Sessions, Compare, Image, Inspect}
use Rattle.cg_outcome.specs.Commands.{command_of}
use Rattle.cg_items.specs.declared.companion.Companion.{Companion}
use Rattle.cg_items.specs.declared.companion.Companion.TheVariants.{Alone, Followers, Relaxed as MadeRows, Sessions as OpenSessions, Comparing}
use Rattle.cg_items.specs.declared.companion.Further.{Further}
use Rattle.cg_items.specs.declared.companion.Further.TheVariants as further
use Rattle.cg_items.specs.Companion.{further_reading, is_own, in_place, further_refusal, end_refusal, event_of, acts, follows}
use Rattle.cg_items.specs.Items.{Item, steps_of}
use Rattle.cg_items.specs.Kept.{next_world, noted_by, kept_behind, IsTaken, AreNoted}
use Rattle.cg_items.specs.OfRun.{IsFirst, AreOfRun}
use Rattle.cg_items.specs.Refused.{OfEvent, OfFurther}
use Rattle.cg_image.specs.Inspecting.{Inspected, NotAnImage, NotAStore, Holds as HoldsReplica, inspected}
use Rattle.cg_outcome.specs.declared.limits.TheConstants.{INPUT_BYTES}
use Rattle.cg_outcome.specs.declared.status.Limit.TheVariants as limit
use Rattle.cg_compare.specs.declared.log_line.LogLine.{LogLine}
use Rattle.cg_compare.specs.declared.log_line.LogLine.TheVariants as log_line
use Rattle.cg_compare.specs.Lines.{reading as log_reading}
use Rattle.cg_outcome.specs.Produced.{Progress, Finding, Produced, before_all, refused_in, refusal_of, went_on, ended_with, refused_with, and_then, counted, stepped, unless_refused, one_step, acted, unless_further_refused, one_further}
use Rattle.cg_outcome.specs.Totals.{with_entry}
use Rattle.cg_gen.specs.Generated.{generated}
use Rattle.cg_outcome.specs.declared.status.Status.{Status}
use Rattle.cg_outcome.specs.declared.status.Status.TheVariants as status
use Rattle.cg_outcome.specs.declared.status.Limit.{Limit}
use Rattle.cg_outcome.specs.declared.status.Limit.TheVariants.{Steps}
use Rattle.cg_outcome.specs.Rounds.{deliver_ready, deliveries, one_pass, passes, ended_unless, happened}
use Rattle.cg_outcome.specs.Outcome.{Ending, Ended, Failed, Open, performed, unreadable, read_outcome, further_outcome, log_outcome, line_beside, line_outcome, companion_for, without_return, limit_of, unless_passed, whole_line, at_end, cut_line, last_piece, replayed, seen_in, looked_at, inspection, outcome_of, outcome}
use Rattle.cg_outcome.specs.UnderWay.{IsUnderWay}
use Rattle.cg_outcome.specs.AskedLaws.{may_ask, before_under_way}
use Rattle.cg_outcome.specs.FurtherLaws.{StandsFor, AreExact, further-own, further-stands, placed_started}
use Rattle.cg_outcome.specs.GoingOnLaws.{and_then-some}
use Rattle.cg_items.specs.ItemLaws.{steps-append}

-- ---- items one after another

world_after-append : (w : World) (a b : List Step) → world_after w (a ++ b) ≡ world_after (world_after w a) b
world_after-append w [] b = refl
world_after-append w (s ∷ a) b = world_after-append s.world a b

IsRunFrom-append : (w : World) (a b : List Step) → IsRunFrom w a → IsRunFrom (world_after w a) b → IsRunFrom w (a ++ b)
IsRunFrom-append w [] b p q = q
IsRunFrom-append w (s ∷ a) b p q = (p.0, p.1, p.2, IsRunFrom-append s.world a b p.3 q)

first_moves : (w : World) (o : Option Step) (rest : List (Option Step)) → world_after (next_world w o) (present rest) ≡ world_after w (present (o ∷ rest))
first_moves w None rest = refl
first_moves w (Some s) rest = refl

abbrev next_kept : World → Companion → Item → Companion
next_kept w c i = (noted_by w c i.further i.step).companion

kept_behind-append : (w : World) (c : Companion) (a b : List Item) → kept_behind w c (a ++ b) ≡ kept_behind (world_after w (steps_of a)) (kept_behind w c a) b
kept_behind-append w c [] b = refl
kept_behind-append w c (i ∷ a) b =
    kept_behind-append (next_world w i.step) (next_kept w c i) a b
    ∙ ap (λ v. kept_behind v (kept_behind (next_world w i.step) (next_kept w c i) a) b) (first_moves w i.step (map (λ (i : Item). i.step) a))

-- what is kept, without what it holds
abbrev pub bare : Companion → Companion
bare (OpenSessions opened) = OpenSessions []
bare (Followers followers) = Followers []
bare (MadeRows rows) = MadeRows []
bare other = other

-- it stays what it is
bare-follows : (c : Companion) (asked : Option Further) (s : Step) → bare (follows c asked s).companion ≡ bare c
bare-follows (OpenSessions opened) asked s = refl
bare-follows (MadeRows rows) asked s = refl
bare-follows other asked s = refl

bare-acts : (w : World) (c : Companion) (e : Further) → bare (acts w c e).companion ≡ bare c
bare-acts w (OpenSessions opened) (further.Session e) = refl
bare-acts w (Followers followers) (further.Follow e) = refl
bare-acts w (MadeRows rows) (further.Relaxed e) = refl
bare-acts w other e = refl

bare-noted : (w : World) (c : Companion) (asked : Option Further) (step : Option Step) → bare (noted_by w c asked step).companion ≡ bare c
bare-noted w c asked (Some s) = bare-follows c asked s
bare-noted w c (Some e) None = bare-acts w c e
bare-noted w c None None = refl

pub bare-kept : (w : World) (c : Companion) (items : List Item) → bare (kept_behind w c items) ≡ bare c
bare-kept w c [] = refl
bare-kept w c (i ∷ items) = bare-kept (next_world w i.step) (next_kept w c i) items ∙ bare-noted w c i.further i.step

AreNoted-append : (w : World) (c : Companion) (n : ℕ) (a b : List Item) → AreNoted w c n a → AreNoted (world_after w (steps_of a)) (kept_behind w c a) (n + length a) b → AreNoted w c n (a ++ b)
AreNoted-append w c n [] b p q = let same : n + length {A = Item} [] ≡ n = omega arith in rw same at q
AreNoted-append w c n (i ∷ a) b p q =
    let v = next_world w i.step in
    let d = next_kept w c i in
    let same : n + length (i ∷ a) ≡ suc n + length a = omega arith in
    let numbered = rw same at q in
    let there = subst (λ (u : World). AreNoted u (kept_behind v d a) (suc n + length a) b) (sym (first_moves w i.step (map (λ (i : Item). i.step) a))) numbered in
    (p.0, p.1, p.2, p.3, AreNoted-append v d (suc n) a b p.4 there)

-- ---- what holds of a part of a run

-- a further event that ends the part by a refusal has that reason in the world that it leaves, with what is kept there
abbrev Tells : Produced → Type 0
Tells p = (event : Further) (reason : Reason) → refused_in p ≡ Some (OfFurther event reason) →
    further_refusal p.progress.world p.progress.companion event ≡ Some reason

-- what holds of it, from how far it had come
pub record Holds (s : Progress) (p : Produced) : Type 0 where
  pub is_run : IsRunFrom s.world (steps_of p.items)
  pub noted : AreNoted s.world s.companion s.count p.items
  pub world : p.progress.world ≡ world_after s.world (steps_of p.items)
  pub kept : p.progress.companion ≡ kept_behind s.world s.companion p.items
  pub count : p.progress.count ≡ s.count + length p.items
  pub refused : IsRefused p.progress.world (refusal_of p)
  pub told : Tells p
  pub under_way : p.found ≡ None → IsUnderWay p.progress

Holds-went_on : (s s' : Progress) → s'.world ≡ s.world → s'.companion ≡ s.companion → s'.count ≡ s.count → IsUnderWay s' → Holds s (went_on s')
Holds-went_on s s' w k c under = record { is_run = tt; noted = tt; world = w; kept = k; count = c ∙ omega arith; refused = tt; told = λ event reason e. cc; under_way = λ e. under }

Holds-ended_with : (st : Status) (lines : ℕ) (s : Progress) → Holds s (ended_with st lines s)
Holds-ended_with st lines s = record { is_run = tt; noted = tt; world = refl; kept = refl; count = omega arith; refused = tt; told = λ event reason e. cc; under_way = λ e. absurd cc }

Holds-refused_with : (n : ℕ) (event : Event) (reason : Reason) (s : Progress) → first_refusal s.world event ≡ Some reason
    → Holds s (refused_with n (OfEvent (record { event = event; reason = reason })) reason s)
Holds-refused_with n event reason s why = record { is_run = tt; noted = tt; world = refl; kept = refl; count = omega arith; refused = why; told = λ e other same. cc; under_way = λ e. absurd cc }

Holds-refused_further : (n : ℕ) (e : Further) (reason : Reason) (s : Progress) → further_refusal s.world s.companion e ≡ Some reason → Holds s (refused_with n (OfFurther e reason) reason s)
Holds-refused_further n e reason s why =
    record { is_run = tt; noted = tt; world = refl; kept = refl; count = omega arith; refused = tt; told = tells; under_way = λ e. absurd cc } where
      tells : Tells (refused_with n (OfFurther e reason) reason s)
      tells event other same =
          let one : e ≡ event = cc in
          let two : reason ≡ other = cc in
          sym (ap (further_refusal s.world s.companion) one) ∙ why ∙ ap (λ r. Some r) two

-- the step of an admitted event
abbrev pub step_made : Event → Progress → Step
step_made event s = record { event = event; entry = (world_step s.world event).entry; world = (world_step s.world event).world }

-- the item of a step
abbrev pub item_made : Option Further → Event → Progress → Item
item_made asked event s = record { number = s.count + 1; further = asked; step = Some (step_made event s); lines = (follows s.companion asked (step_made event s)).lines }

-- how far the run has come behind a step
abbrev pub behind : Option Further → Event → Progress → Progress
behind asked event s =
    record s {
      world = (world_step s.world event).world;
      companion = (follows s.companion asked (step_made event s)).companion;
      count = s.count + 1;
      totals = with_entry s.totals (world_step s.world event).entry;
    }

-- behind a start that was read replicas have begun
hosted_under_way : (s : Progress) → s.reader.started ≡ true → 0 < length s.world.nodes → IsUnderWay s
hosted_under_way s started some = record { before = λ e. absurd (let clash : true ≡ false = sym started ∙ e in cc); begun = λ e. some }

next_number : (n : ℕ) → n + 1 ≡ suc n
next_number n = omega arith

-- the further event, if there is one, is taken with this event's step
abbrev IsAsked : Progress → Option Further → Event → Type 0
IsAsked s asked event = IfSome asked (IsTaken s.world s.companion (Some (step_made event s)))

Holds-stepped : (n : ℕ) (asked : Option Further) (event : Event) (s : Progress) → IsAsked s asked event → MayStand s.world event → first_refusal s.world event ≡ None → IsUnderWay (behind asked event s)
    → Holds s (stepped n asked event (world_step s.world event) s)
Holds-stepped n asked event s first may admitted under = by_limit (nat_lt s.count step_limit) refl where
  by_limit : (b : Bool) → nat_lt s.count step_limit ≡ b → Holds s (stepped n asked event (world_step s.world event) s)
  by_limit true e =
      rw e record {
        is_run = (may, admitted, refl, tt);
        noted = (next_number s.count, ltb-true s.count step_limit e, first, refl, tt);
        world = refl;
        kept = refl;
        count = omega arith;
        refused = tt;
        told = λ e reason same. cc;
        under_way = λ f. under;
      }
  by_limit false e = rw e (Holds-ended_with (status.Limit n Steps) n s)

Holds-acted : (n : ℕ) (e : Further) (s : Progress) → IsTaken s.world s.companion None e → IsUnderWay s → Holds s (acted n e (acts s.world s.companion e) s)
Holds-acted n e s first under = by_limit (nat_lt s.count step_limit) refl where
  by_limit : (b : Bool) → nat_lt s.count step_limit ≡ b → Holds s (acted n e (acts s.world s.companion e) s)
  by_limit true is =
      rw is record {
        is_run = tt;
        noted = (next_number s.count, ltb-true s.count step_limit is, first, refl, tt);
        world = refl;
        kept = refl;
        count = omega arith;
        refused = tt;
        told = λ event reason same. cc;
        under_way = λ f. record { before = under.before; begun = under.begun };
      }
  by_limit false is = rw is (Holds-ended_with (status.Limit n Steps) n s)

Holds-one_step : (n : ℕ) (asked : Option Further) (event : Event) (s : Progress) → IsAsked s asked event → MayStand s.world event → s.reader.started ≡ true → Holds s (one_step n asked event s)
Holds-one_step n asked event s first may started = by_refusal (first_refusal s.world event) refl where
  by_refusal : (o : Option Reason) → first_refusal s.world event ≡ o → Holds s (unless_refused o n asked event s)
  by_refusal None e = Holds-stepped n asked event s first may e (hosted_under_way (behind asked event s) started (step_nodes s.world event may e))
  by_refusal (Some reason) e = Holds-refused_with n event reason s e

Holds-one_further : (n : ℕ) (e : Further) (s : Progress) → is_own s.companion e ≡ true → StandsFor s.world e → IsUnderWay s → s.reader.started ≡ true → Holds s (one_further n e s)
Holds-one_further n e s own stands under started = by_refusal (further_refusal s.world s.companion e) refl where
  by_event : (o : Option Event) → event_of e ≡ o → further_refusal s.world s.companion e ≡ None → IfSome o (MayStand s.world)
      → Holds s (option_map_or (λ event. one_step n (Some e) event s) o (acted n e (acts s.world s.companion e) s))
  by_event None is admitted may = Holds-acted n e s (own, admitted, sym is) under
  by_event (Some event) is admitted may = Holds-one_step n (Some e) event s (own, admitted, sym is) may started

  by_refusal : (o : Option Reason) → further_refusal s.world s.companion e ≡ o → Holds s (unless_further_refused o n e s)
  by_refusal None is = by_event (event_of e) refl is stands
  by_refusal (Some reason) is = Holds-refused_further n e reason s is

Holds-and_then : (s : Progress) (p : Produced) (more : Progress → Produced) → Holds s p → (p.found ≡ None → Holds p.progress (more p.progress)) → Holds s (and_then p more)
Holds-and_then s p more h later = by_finding p.found refl where
  by_finding : (o : Option Finding) → p.found ≡ o → Holds s (and_then p more)
  by_finding None e =
      let k = later e in
      let q = more p.progress in
      let run = subst (λ (w : World). IsRunFrom w (steps_of q.items)) h.world k.is_run in
      let noted = subst (λ (w : World). AreNoted w p.progress.companion p.progress.count q.items) h.world k.noted in
      let beside = subst (λ (c : Companion). AreNoted (world_after s.world (steps_of p.items)) c p.progress.count q.items) h.kept noted in
      let numbered = subst (λ (n : ℕ). AreNoted (world_after s.world (steps_of p.items)) (kept_behind s.world s.companion p.items) n q.items) h.count beside in
      let both = steps-append p.items q.items in
      rw e record {
        is_run = subst (IsRunFrom s.world) (sym both) (IsRunFrom-append s.world (steps_of p.items) (steps_of q.items) h.is_run run);
        noted = AreNoted-append s.world s.companion s.count p.items q.items h.noted numbered;
        world = k.world ∙ ap (λ w. world_after w (steps_of q.items)) h.world ∙ sym (world_after-append s.world (steps_of p.items) (steps_of q.items)) ∙ ap (world_after s.world) (sym both);
        kept =
            k.kept ∙ ap (λ w. kept_behind w p.progress.companion q.items) h.world ∙ ap (λ c. kept_behind (world_after s.world (steps_of p.items)) c q.items) h.kept
            ∙ sym (kept_behind-append s.world s.companion p.items q.items);
        count = grind (arith, length-append {A = Item}, h.count, k.count);
        refused = k.refused;
        told = k.told;
        under_way = k.under_way;
      }
  by_finding (Some f) e = rw (and_then-some p more f e) h

-- ---- rounds

-- a step leaves the reader where it is
pub one_step-reader : (n : ℕ) (asked : Option Further) (event : Event) (s : Progress) → (one_step n asked event s).progress.reader ≡ s.reader
one_step-reader n asked event s = by_refusal (first_refusal s.world event) where
  by_limit : (b : Bool) (item : Item) (next : Progress) → next.reader ≡ s.reader → (if b then record { items = item ∷ []; found = None; progress = next } else ended_with (status.Limit n Steps) n s).progress.reader ≡ s.reader
  by_limit true item next same = same
  by_limit false item next same = refl

  by_count : (item : Item) (next : Progress) → next.reader ≡ s.reader → (counted n item next s).progress.reader ≡ s.reader
  by_count item next same = by_limit (nat_lt s.count step_limit) item next same

  by_refusal : (r : Option Reason) → (unless_refused r n asked event s).progress.reader ≡ s.reader
  by_refusal None = by_count (item_made asked event s) (behind asked event s) refl
  by_refusal (Some reason) = refl

-- a part that leaves the reader where it is
record Stays (s : Progress) (p : Produced) : Type 0 where
  pub holds : Holds s p
  pub reader : p.progress.reader ≡ s.reader

Stays-one_step : (n : ℕ) (event : Event) (s : Progress) → MayStand s.world event → s.reader.started ≡ true → Stays s (one_step n None event s)
Stays-one_step n event s may started = record { holds = Holds-one_step n None event s tt may started; reader = one_step-reader n None event s }

Stays-and_then : (s : Progress) (p : Produced) (more : Progress → Produced) → Stays s p → (p.found ≡ None → Stays p.progress (more p.progress)) → Stays s (and_then p more)
Stays-and_then s p more h later = record { holds = Holds-and_then s p more h.holds (λ e. (later e).holds); reader = by_finding p.found refl } where
  by_finding : (o : Option Finding) → p.found ≡ o → (and_then p more).progress.reader ≡ s.reader
  by_finding None e = rw e ((later e).reader ∙ h.reader)
  by_finding (Some f) e = rw (and_then-some p more f e) h.reader

Stays-went_on : (s : Progress) → IsUnderWay s → Stays s (went_on s)
Stays-went_on s under = record { holds = Holds-went_on s s refl refl refl under; reader = refl }

started_behind : (s : Progress) (p : Produced) → Stays s p → s.reader.started ≡ true → p.progress.reader.started ≡ true
started_behind s p h started = ap (λ (p : ReaderState). p.started) h.reader ∙ started

Stays-deliver_ready : (n p : ℕ) (s : Progress) → IsUnderWay s → s.reader.started ≡ true → Stays s (deliver_ready n p s)
Stays-deliver_ready n p s under started = by_count (ready s.world.group p == 0) where
  by_count : (b : Bool) → Stays s (cond b (went_on s) (one_step n None (Deliver p (ready s.world.group p)) s))
  by_count true = Stays-went_on s under
  by_count false = Stays-one_step n (Deliver p (ready s.world.group p)) s (under.begun started, tt) started

Stays-deliveries : (n : ℕ) (set : List ℕ) (s : Progress) → IsUnderWay s → s.reader.started ≡ true → Stays s (deliveries n set s)
Stays-deliveries n [] s under started = Stays-went_on s under
Stays-deliveries n (p ∷ set) s under started =
    let one = Stays-deliver_ready n p s under started in
    let q = deliver_ready n p s in
    Stays-and_then s q (deliveries n set) one (λ e. Stays-deliveries n set q.progress (one.holds.under_way e) (started_behind s q one started))

Stays-one_pass : (n : ℕ) (s : Progress) → IsUnderWay s → s.reader.started ≡ true → Stays s (one_pass n s)
Stays-one_pass n s under started =
    let one = Stays-one_step n Gather s (under.begun started, tt) started in
    let q = one_step n None Gather s in
    Stays-and_then s q (deliveries n (up_replicas s.world)) one (λ e. Stays-deliveries n (up_replicas s.world) q.progress (one.holds.under_way e) (started_behind s q one started))

Stays-passes : (n count : ℕ) (s : Progress) → IsUnderWay s → s.reader.started ≡ true → Stays s (passes n count s)
Stays-passes n zero s under started = Stays-went_on s under
Stays-passes n (suc count) s under started =
    let one = Stays-one_pass n s under started in
    let q = one_pass n s in
    Stays-and_then s q (passes n count) one (λ e. Stays-passes n count q.progress (one.holds.under_way e) (started_behind s q one started))

-- ---- events that were read

-- the reader behind an event that was read
abbrev moved : Event → Progress → Progress
moved event s = record s { reader = state_after s.reader event }

-- what was read of a progress is what holds of the one before it
Holds-moved : (s : Progress) (e : Event) (p : Produced) → Holds (moved e s) p → Holds s p
Holds-moved s e p h = record { is_run = h.is_run; noted = h.noted; world = h.world; kept = h.kept; count = h.count; refused = h.refused; told = h.told; under_way = h.under_way }

-- an event that is a step behind a start
abbrev IsOther : Event → Type 0
IsOther (Start set) = ⊥
IsOther (Rounds count) = ⊥
IsOther End = ⊥
IsOther other = Unit {0}

other_stands : (w : World) (e : Event) → IsOther e → 0 < length w.nodes → IsEvent e → MayStand w e
other_stands w (Start set) o some within = absurd o
other_stands w (Rounds count) o some within = absurd o
other_stands w End o some within = absurd o
other_stands w (Split set) o some within = (some, within)
other_stands w (Merge set) o some within = (some, within)
other_stands w other o some within = (some, may_ask other within)

Holds-read : (n : ℕ) (e : Event) (s : Progress) → IsUnderWay s → fits s.reader (event_word e) ≡ true → IsEvent e → Holds s (happened n e (moved e s))
unfolding happened
Holds-read n (Start set) s under fit within =
    let fresh = not-true s.reader.started (and_parts (not s.reader.ended) (not s.reader.started) fit).1 in
    Holds-moved s (Start set) (one_step n None (Start set) (moved (Start set) s)) (Holds-one_step n None (Start set) (moved (Start set) s) tt (under.before fresh, within) refl)
Holds-read n End s under fit within = by_refusal (end_refusal s.companion s.world) where
  by_refusal : (o : Option Reason) → Holds s (ended_unless o n (moved End s))
  by_refusal None = Holds-went_on s (moved End s) refl refl refl (record { before = under.before; begun = under.begun })
  by_refusal (Some reason) =
      Holds-moved s End (ended_with (status.Refused n reason) n (moved End s)) (Holds-ended_with (status.Refused n reason) n (moved End s))
Holds-read n (Rounds count) s under fit within =
    Holds-moved s (Rounds count) (passes n count (moved (Rounds count) s))
    (Stays-passes n count (moved (Rounds count) s) (record { before = under.before; begun = under.begun }) (and_parts (not s.reader.ended) s.reader.started fit).1).holds
Holds-read n other s under fit within =
    let started = (and_parts (not s.reader.ended) s.reader.started fit).1 in
    Holds-moved s other (one_step n None other (moved other s)) (Holds-one_step n None other (moved other s) tt (other_stands s.world other tt (under.begun started) within) started)

Holds-unreadable : (n : ℕ) (fault : LineFault) (s : Progress) → Holds s (unreadable n fault s)
Holds-unreadable n (Syntax reason) s = Holds-ended_with (status.Syntax n (syntax_number reason)) n s
Holds-unreadable n NoMemory s = Holds-ended_with status.NoMemory n s

pub Holds-line : (n : ℕ) (line : List ℕ) (s : Progress) → AreExact → IsUnderWay s → Holds s (line_outcome n line s)
unfolding line_outcome
Holds-line n line s exact under = by_companion s.companion refl where
  by_reading : (r : Result (Option Event) LineFault) → reading s.reader line ≡ r → Holds s (read_outcome n r s)
  by_reading (Ok None) is = Holds-went_on s s refl refl refl under
  by_reading (Ok (Some e)) is = let reads_as = (exact.lines s.reader line e).0 is in Holds-read n e s under reads_as.may_stand reads_as.within
  by_reading (Err fault) is = Holds-unreadable n fault s

  by_further : (r : Result (Option Further) LineFault) → in_place s.reader (further_reading s.companion line) ≡ r → Holds s (further_outcome n r line s)
  by_further (Ok None) is = by_reading (reading s.reader line) refl
  by_further (Ok (Some e)) is =
      let placed = placed_started s.reader (further_reading s.companion line) e is in
      let stands = further-stands s.world s.companion line e exact (under.begun placed.0) placed.1 in
      Holds-one_further n e s (further-own s.companion line e placed.1) stands under placed.0
  by_further (Err fault) is = Holds-unreadable n fault s

  by_log : (r : Result (Option LogLine) LineFault) → Holds s (log_outcome n r s)
  by_log (Ok None) = Holds-went_on s s refl refl refl under
  by_log (Ok (Some (log_line.Log white list))) =
      Holds-went_on s (record s { logs = s.logs ++ record { line = n; white = white; list = list } ∷ [] }) refl refl refl (record { before = under.before; begun = under.begun })
  by_log (Ok (Some log_line.End)) = Holds-went_on s (record s { reader = state_after s.reader End }) refl refl refl (record { before = under.before; begun = under.begun })
  by_log (Err fault) = Holds-unreadable n fault s

  by_companion : (c : Companion) → s.companion ≡ c → Holds s (line_beside c n line s)
  by_companion Comparing is = by_log (log_reading s.reader.ended line)
  by_companion c is = by_further (in_place s.reader (further_reading c line)) (ap (λ c. in_place s.reader (further_reading c line)) is)

Holds-unless_passed : (o : Option Limit) (n : ℕ) (s : Progress) (p : Produced) → Holds s p → Holds s (unless_passed o n s p)
Holds-unless_passed None n s p h = h
Holds-unless_passed (Some what) n s p h = Holds-ended_with (status.Limit n what) n s

Holds-at_end : (n : ℕ) (how : Ending) (s : Progress) → IsUnderWay s → Holds s (at_end n how s)
Holds-at_end n Ended s under = by_end s.reader.ended where
  by_end : (b : Bool) → Holds s (cond b (ended_with status.Done n s) (ended_with (status.NoEnd n) n s))
  by_end true = Holds-ended_with status.Done n s
  by_end false = Holds-ended_with (status.NoEnd n) n s
Holds-at_end n Failed s under = Holds-ended_with status.ReadFault n s
Holds-at_end n Open s under = Holds-went_on s s refl refl refl under

Holds-cut_line : (n : ℕ) (line : List ℕ) (how : Ending) (s : Progress) → AreExact → IsUnderWay s → Holds s (cut_line n line how s)
Holds-cut_line n line Ended s exact under =
    let h = Holds-line n line s exact under in
    Holds-and_then s (line_outcome n line s) (at_end n Ended) h (λ e. Holds-at_end n Ended (line_outcome n line s).progress (h.under_way e))
Holds-cut_line n line Failed s exact under = Holds-ended_with status.ReadFault (n - 1) s
Holds-cut_line n line Open s exact under = Holds-went_on s s refl refl refl under

Holds-last_piece : (n at : ℕ) (piece : List ℕ) (how : Ending) (s : Progress) → AreExact → IsUnderWay s → Holds s (last_piece n at piece how s)
Holds-last_piece n at [] how s exact under = Holds-at_end (n - 1) how s under
Holds-last_piece n at (b ∷ bs) how s exact under =
    Holds-unless_passed (limit_of n (length (b ∷ bs)) (at + length (b ∷ bs))) n s (cut_line n (b ∷ bs) how s) (Holds-cut_line n (b ∷ bs) how s exact under)

pub Holds-whole_line : (n at : ℕ) (line : List ℕ) (s : Progress) → AreExact → IsUnderWay s → Holds s (whole_line n at line s)
Holds-whole_line n at line s exact under =
    Holds-unless_passed (limit_of n (length line) (at + length line + 1)) n s (line_outcome n (without_return line) s) (Holds-line n (without_return line) s exact under)

Holds-replayed : (n at : ℕ) (pieces : List (List ℕ)) (how : Ending) (s : Progress) → AreExact → IsUnderWay s → Holds s (replayed n at pieces how s)
Holds-replayed n at [] how s exact under = Holds-went_on s s refl refl refl under
Holds-replayed n at (rest ∷ []) how s exact under = Holds-last_piece n at rest how s exact under
Holds-replayed n at (line ∷ next ∷ more) how s exact under =
    let p = whole_line n at line s in
    let h = Holds-whole_line n at line s exact under in
    Holds-and_then s p (λ s'. replayed (n + 1) (at + length line + 1) (next ∷ more) how s') h
    (λ e. Holds-replayed (n + 1) (at + length line + 1) (next ∷ more) how p.progress exact (h.under_way e))

Holds-performed : (gone : ℕ) (events : List Event) (s : Progress) → AreExact → IsUnderWay s → Holds s (performed gone events s)
Holds-performed gone [] s exact under = Holds-at_end gone Ended s under
Holds-performed gone (event ∷ events) s exact under =
    let p = line_outcome (gone + 1) (without_return (line_of event)) s in
    let h = Holds-line (gone + 1) (without_return (line_of event)) s exact under in
    Holds-and_then s p (performed (gone + 1) events) h (λ e. Holds-performed (gone + 1) events p.progress exact (h.under_way e))

-- an inspection makes no step
Holds-seen : (x : Inspected) → Holds (before_all Alone) (seen_in x)
Holds-seen NotAnImage = Holds-ended_with status.NotAnImage 0 (before_all Alone)
Holds-seen NotAStore = Holds-ended_with status.NotAStore 0 (before_all Alone)
Holds-seen (HoldsReplica r) = record { is_run = tt; noted = tt; world = refl; kept = refl; count = omega arith; refused = tt; told = λ event reason e. cc; under_way = λ e. absurd cc }

Holds-inspection : (taken : List ℕ) (how : Ending) → Holds (before_all Alone) (inspection taken how)
Holds-inspection taken how = by_limit (nat_lt INPUT_BYTES (length taken)) where
  by_ending : (how : Ending) → Holds (before_all Alone) (looked_at taken how)
  by_ending Ended = Holds-seen (inspected taken)
  by_ending Failed = Holds-ended_with status.ReadFault 0 (before_all Alone)
  by_ending Open = Holds-went_on (before_all Alone) (before_all Alone) refl refl refl (before_under_way Alone)

  by_limit : (b : Bool) → Holds (before_all Alone) (cond b (ended_with (status.Limit 0 limit.Input) 0 (before_all Alone)) (looked_at taken how))
  by_limit true = Holds-ended_with (status.Limit 0 limit.Input) 0 (before_all Alone)
  by_limit false = by_ending how

pub Holds-outcome : (words : List (List ℕ)) (taken : List ℕ) (how : Ending) → AreExact → Holds (before_all (companion_for (command_of words))) (outcome words taken how)
Holds-outcome words taken how exact = by_command (command_of words) where
  by_command : (c : Option Command) → Holds (before_all (companion_for c)) (outcome_of c taken how)
  by_command None = Holds-ended_with status.Usage 0 (before_all Alone)
  by_command (Some (Generate seed replicas lines)) = Holds-ended_with status.Done 0 (before_all Alone)
  by_command (Some (Trial seed replicas lines)) = Holds-performed 0 (generated seed replicas lines) (before_all Alone) exact (before_under_way Alone)
  by_command (Some Inspect) = Holds-inspection taken how
  by_command other = Holds-replayed 1 0 (pieces_of 10 taken) how (before_all (companion_for other)) exact (before_under_way (companion_for other))

pub outcome-is_run : (words : List (List ℕ)) (taken : List ℕ) (how : Ending) → AreExact → IsRunFrom no_world (steps_of (outcome words taken how).items)
outcome-is_run words taken how exact = (Holds-outcome words taken how exact).is_run

-- the items are numbered from 1, and their further lines are those that come of them beside the world
pub outcome-noted : (words : List (List ℕ)) (taken : List ℕ) (how : Ending) → AreExact → AreNoted no_world (companion_for (command_of words)) 0 (outcome words taken how).items
outcome-noted words taken how exact = (Holds-outcome words taken how exact).noted

-- what is kept before the first line
is-first : (c : Option Command) → IsFirst (companion_for c)
is-first (Some Follow) = refl
is-first (Some Relaxed) = refl
is-first (Some Sessions) = refl
is-first (Some Compare) = tt
is-first (Some (Image p)) = tt
is-first (Some Inspect) = tt
is-first other = tt

-- the items are those of a run, with what the command keeps at first
pub outcome-of_run : (words : List (List ℕ)) (taken : List ℕ) (how : Ending) → AreExact → AreOfRun (companion_for (command_of words)) (outcome words taken how).items (refused_in (outcome words taken how))
outcome-of_run words taken how exact =
    let p = outcome words taken how in
    let c = companion_for (command_of words) in
    let h = Holds-outcome words taken how exact in
    record {
      first = is-first (command_of words);
      run = h.is_run;
      noted = h.noted;
      told = λ event reason e.
          sym (ap (λ w. further_refusal w p.progress.companion event) h.world
          ∙ ap (λ kept. further_refusal (world_after no_world (steps_of p.items)) kept event) h.kept) ∙ h.told event reason e;
    }

-- the event that ended the run by a refusal is refused so behind its steps
pub outcome-refused : (words : List (List ℕ)) (taken : List ℕ) (how : Ending) → AreExact → IsRefused (world_after no_world (steps_of (outcome words taken how).items)) (refusal_of (outcome words taken how))
outcome-refused words taken how exact =
    let h = Holds-outcome words taken how exact in
    subst (λ (w : World). IsRefused w (refusal_of (outcome words taken how))) h.world h.refused

pub outcome-agrees : (words : List (List ℕ)) (taken : List ℕ) (how : Ending) → AreExact → EveryRunAgrees → Agreement (steps_of (outcome words taken how).items) (refusal_of (outcome words taken how))
outcome-agrees words taken how exact agree =
    let p = outcome words taken how in
    agree (steps_of p.items) (refusal_of p) (outcome-is_run words taken how exact) (outcome-refused words taken how exact)

-- so it guarantees what follows from that
pub outcome-guarantees : (words : List (List ℕ)) (taken : List ℕ) (how : Ending) → AreExact → EveryRunAgrees → AgreementGuarantees → Guarantees (steps_of (outcome words taken how).items)
outcome-guarantees words taken how exact agree gives =
    let p = outcome words taken how in
    gives (steps_of p.items) (refusal_of p) (outcome-agrees words taken how exact agree)

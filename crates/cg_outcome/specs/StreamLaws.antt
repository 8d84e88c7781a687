-- A run over an input that is taken turn by turn: what was taken was gone through, but for what is held.
use Rattle.std.proofs.Common.{suc, ◌≡◌, ◌<◌, ◌≤◌, ℕ, ◌+◌, ◌-◌, ◌==◌, List, [], ◌++◌, length, take, Option, Some, None, Result, Ok, Err, false, refl, sym, ap, subst, rules, ◌∙◌, arith, append_assoc, length-append, inl, inr}
use Rattle.std.proofs.lemmas.Bool.{cases_lt, false≢true}
use Rattle.std.proofs.lemmas.List.{append-nil, take-append-le}
use Rattle.std.proofs.lemmas.List.Elements.{All-nil, All-take}
use Rattle.std.proofs.Math.Seq.{take-append-add}
use Rattle.std.specs.Io.KnownBytes.{Consumes, Keeps, Appends}
use Rattle.cg_outcome.specs.declared.limits.TheConstants.{INPUT_BYTES}
use Rattle.cg_io.specs.Outside.{SourceView, SinkView, PutsAll}
use Rattle.cg_items.specs.declared.companion.Companion.{Companion}
use Rattle.cg_items.specs.Items.{Item, report_in}
use Rattle.cg_outcome.specs.Outcome.{Ending, Ended, Failed, Open}
use Rattle.cg_items.specs.declared.report.Report.{Report}
use Rattle.cg_items.specs.declared.report.Report.TheVariants.{Imaged}
use Rattle.cg_base.specs.Text.{pieces_of}
use Rattle.cg_model.specs.World.{World}
use Rattle.cg_outcome.specs.Streaming.{Stage, first_stage, from_stage, IsStage, IsHeld, IsMade, Passes, TakesUp, FailedIsLast, BetweenTakes, TakesTurn, Replays}
use Rattle.cg_outcome.specs.declared.status.Status.{Status}
use Rattle.cg_outcome.specs.declared.status.Status.TheVariants as status
use Rattle.cg_outcome.specs.Produced.{Produced, status_of, with_tail, text_of, prepend, went_on}
use Rattle.cg_outcome.specs.Taking.{HasCause, InTime}
use Rattle.cg_outcome.specs.GoingOnLaws.{GoesOn-stop, Shows-none, Shows-twice, Appends-twice, report_in-append}
use Rattle.cg_outcome.specs.StageLaws.{Passes-none, Passes-twice, front-held, held-within, held-went_on, from-held, last-failed}
use Rattle.cg_outcome.specs.TakeLaws.{Consumes-none, Consumes-twice}
use Rattle.cg_outcome.specs.Putting.{StopsWith}
use Rattle.cg_outcome.specs.SparedLaws.{Undone-open}
use Rattle.cg_outcome.specs.Stopping.{Leaves, Shows, Stopped, GoesOn}

-- all but what is held was gone through, and what it comes to was put
pub record Streams (report : Report) (c : Companion) (old now : SourceView) (v v1 : SinkView) (held : List ℕ)
    (st : Stage) : Type 0 where
  pub gone : List ℕ
  pub made : List Item
  pub consumed : Consumes old.left now.left (gone ++ held)
  pub no_fault : now.faults ≡ old.faults
  pub passes : Passes (first_stage c) gone made st
  pub put : Shows report v v1 made
  pub stands : IsStage st
  pub is_held : IsHeld st held

pub Streams-begin : (report : Report) (c : Companion) (old : SourceView) (v : SinkView) →
    Streams report c old old v v [] (first_stage c)
Streams-begin report c old v = record {
  gone = [];
  made = [];
  consumed = Consumes-none old.left;
  no_fault = refl;
  passes = Passes-none (first_stage c);
  put = Shows-none report v;
  stands = record {
    within = omega arith;
    counted = omega arith;
    few = omega arith;
    under_way = record { before = λ e. refl; begun = λ e. absurd (false≢true e) };
  };
  is_held = record { unended = All-nil (λ b. (b == 10) ≡ false); unpassed = refl };
}

-- what is held behind whole lines comes to nothing yet, and so each front of both comes to what was made
reached : (c : Companion) (st : Stage) (gone held : List ℕ) (made : List Item) →
    Passes (first_stage c) gone made st → IsHeld st held
    → (m : ℕ) → m ≤ length gone + length held → IsMade (from_stage (first_stage c) (take m (gone ++ held)) Open) made
reached c st gone held made passes is m le = elim (cases_lt (length gone) m) [
  | inl behind ↦
      let k = m - length gone in
      let cut : take m (gone ++ held) ≡ gone ++ take k held =
      ap (λ n. take n (gone ++ held)) (omega (arith, behind)) ∙ take-append-add gone held k in
      let front : from_stage st (take k held) Open ≡ went_on st.progress =
      held-went_on st (take k held) (All-take (λ b. (b == 10) ≡ false) k held is.unended) (front-held st.line
      st.at held k is.unpassed) in
      let whole : from_stage (first_stage c) (take m (gone ++ held)) Open ≡ prepend made (went_on st.progress) =
      ap (λ bytes. from_stage (first_stage c) bytes Open) cut ∙ passes.same (take k held) Open
      ∙ ap (prepend made) front in
      let more : IsMade (prepend made (went_on st.progress)) made =
      record { none = refl; later = []; front = search rules } in
      subst (λ q. IsMade q made) (sym whole) more
  | inr before ↦ subst (λ bytes. IsMade (from_stage (first_stage c) bytes Open) made)
      (sym (take-append-le m gone held before)) (passes.fronts m before)
]

-- something more was put where a run ended
pub grown : (text : List ℕ) (found : Option Status) (v v' : SinkView) (st : Status) → StopsWith text found v v' st →
    (r : List ℕ) × Appends v.held v'.held r
grown text found v v' status.WriteFault s = (s.front.front, s.front.grown)
grown text found v v' status.NoMemory s = (s.front.front, s.front.grown)
grown text found v v' other s = (text, s.1.all)

-- what was made was put, whatever was put behind it
made-put : (report : Report) (p : Produced) (made : List Item) (v v1 v2 : SinkView) (r : List ℕ) → IsMade p made →
    Shows report v v1 made → Appends v1.held v2.held r
    → (rest : List ℕ) × PutsAll v v2 (text_of report p ++ rest)
made-put report p made v v1 v2 r is put more =
    let text : text_of report p ≡ report_in report p.items =
    ap (λ found. with_tail report (report_in report p.items) found p.progress) is.none in
    let all : report_in report made ≡ report_in report p.items ++ report_in report is.later =
    ap (report_in report) is.front ∙ report_in-append report p.items is.later in
    let same : report_in report made ++ r ≡ text_of report p ++ (report_in report is.later ++ r) =
    ap (λ t. t ++ r) all ∙ append_assoc (report_in report p.items) (report_in report is.later) r
    ∙ ap (λ t. t ++ (report_in report is.later ++ r)) (sym text) in (
      report_in report is.later ++ r,
      subst (Appends v.held v2.held)
          same (Appends-twice v.held v1.held v2.held (report_in report made) r put.all more),
    )

later-cause : (how : Ending) (old now new : SourceView) → now.faults ≡ old.faults →
    HasCause how now new → HasCause how old new
later-cause Ended old now new same cause = (cause.0, cause.1 ∙ same)
later-cause Failed old now new same cause = cause ∙ ap (λ n. n + 1) same
later-cause Open old now new same cause = cause ∙ same

module _ (report : Report) (c : Companion) (old : SourceView) (v : SinkView) (before after : BetweenTakes)
    (left : Option World) (st : Stage)
    (s : Streams report c old before.input v before.output before.held st) where
  -- a turn after which the run goes on
  pub Streams-turn : (next : Stage) → TakesTurn report st before after left (Ok next) →
      Streams report c old after.input v after.output after.held next
  Streams-turn next t =
      let g = t.comes.2 in
      let all : (s.gone ++ before.held) ++ t.chunk ≡ (s.gone ++ g.gone) ++ after.held =
      append_assoc s.gone before.held t.chunk ∙ ap (λ r. s.gone ++ r) g.whole
      ∙ sym (append_assoc s.gone g.gone after.held) in
      record {
        gone = s.gone ++ g.gone;
        made = s.made ++ g.made;
        consumed = subst (Consumes old.left after.input.left)
            all (Consumes-twice old.left before.input.left after.input.left (s.gone ++ before.held)
            t.chunk s.consumed t.consumed);
        no_fault = t.comes.1 ∙ s.no_fault;
        passes = Passes-twice (first_stage c) st next s.gone g.gone s.made g.made s.passes g.passes;
        put = Shows-twice report v before.output after.output s.made g.made s.put g.put;
        stands = g.stands;
        is_held = t.comes.3;
      }

  -- and in which less is left to be taken
  pub turn-smaller : (next : Stage) → TakesTurn report st before after left (Ok next)
      → suc INPUT_BYTES - (next.at + length after.held) < suc INPUT_BYTES - (st.at + length before.held)
  turn-smaller next t =
      let g = t.comes.2 in
      let all : length (before.held ++ t.chunk) ≡ length (g.gone ++ after.held) = ap length g.whole in
      omega (
        arith,
        all,
        length-append before.held t.chunk,
        length-append g.gone after.held,
        g.passes.placed,
        t.within,
        t.comes.0,
      )

  -- a turn in which the run ends
  pub Streams-stop : (status : Status) → TakesTurn report st before after left (Err status) →
      Replays report c old after.input v after.output left status
  Streams-stop status t =
      let taken = (s.gone ++ before.held) ++ t.chunk in
      let some = length-append s.gone before.held in
      let all = length-append (s.gone ++ before.held) t.chunk in
      let goes : GoesOn report (from_stage (first_stage c) taken t.ending) v
      before.output (from_stage st (before.held ++ t.chunk) t.ending) =
      record {
        made = s.made;
        put = s.put;
        same = ap (λ b. from_stage (first_stage c) b t.ending) (append_assoc s.gone before.held t.chunk)
            ∙ s.passes.same (before.held ++ t.chunk) t.ending;
      } in
      let rest = from_stage st (before.held ++ t.chunk) t.ending in
      let more = grown (text_of report rest) (status_of rest) before.output after.output status t.comes.0.0 in
      let in_time : InTime (text_of report) (λ front. from_stage (first_stage c) front Open) taken v after.output =
      λ m lt.
      let le : m ≤ length s.gone + length before.held = omega (arith, lt, some, all, t.few) in
      let within : m ≤ length (s.gone ++ before.held) = omega (arith, le, some) in
      let cut : take m taken ≡ take m (s.gone ++ before.held) =
      take-append-le m (s.gone ++ before.held) t.chunk within in
      let made : IsMade (from_stage (first_stage c) (take m taken) Open) s.made =
      subst (λ bytes. IsMade (from_stage (first_stage c) bytes Open) s.made) (sym cut)
      (reached c st s.gone before.held s.made s.passes s.is_held m le) in
      let put = made-put report (from_stage (first_stage c) (take m taken) Open) s.made v before.output after.output
      more.0 made s.put more.1 in
      (made.none, put.0, put.1) in
      record {
        taken = taken;
        ending = t.ending;
        consumed = Consumes-twice old.left before.input.left after.input.left (s.gone ++ before.held)
            t.chunk s.consumed t.consumed;
        cause = later-cause t.ending old before.input after.input s.no_fault t.cause;
        holds = (
          omega (arith, some, all, s.passes.placed, t.within),
          GoesOn-stop report (from_stage (first_stage c) taken t.ending)
              (from_stage st (before.held ++ t.chunk) t.ending) v before.output after.output status goes t.comes.0,
          in_time,
          λ e. ap status_of goes.same ∙ t.last e,
          subst (λ (p : Produced). Leaves status report p.progress.world left) (sym goes.same) t.comes.1,
        );
      }

-- ---- one turn

pub Keeps-consumes : (h h' : Option (List ℕ)) → Keeps h h' → Consumes h h' []
Keeps-consumes None h' k = tt
Keeps-consumes (Some xs) None k = absurd k
Keeps-consumes (Some xs) (Some ys) k = sym k

-- a run that isn't done leaves nothing
pub undone-leaves : (report : Report) (p : Produced) (v v' : SinkView) (st : Status) (w : World) (left : Option World) →
    (status_of p ≡ Some status.Done → ⊥) → Stopped report p v v' st → Leaves st report w left
undone-leaves Imaged p v v' status.Done w left undone stopped = absurd (undone stopped.0.0)
undone-leaves report p v v' status.Done w left undone stopped = tt
undone-leaves report p v v' st w left undone stopped = tt

-- a chunk was taken, and is taken up
pub turn-goes : (report : Report) (st : Stage) (before after : BetweenTakes) (left : Option World) (r : Result Stage Status) (chunk : List ℕ)
    → Consumes before.input.left after.input.left chunk → after.input.faults ≡ before.input.faults →
    0 < length chunk → length chunk ≤ 4096
    → st.at + length before.held + length chunk ≤ suc INPUT_BYTES →
    TakesUp report st (before.held ++ chunk) before.output after.output after.held r
    → TakesTurn report st before after left r
turn-goes report st before after left (Ok next) chunk consumed none some few within up =
    record {
      chunk = chunk;
      ending = Open;
      consumed = consumed;
      cause = none;
      few = few;
      within = within;
      last = λ e. absurd cc;
      comes = (some, none, up.0, up.1);
    }
turn-goes report st before after left (Err status) chunk consumed none some few within up =
    record {
      chunk = chunk;
      ending = Open;
      consumed = consumed;
      cause = none;
      few = few;
      within = within;
      last = λ e. absurd cc;
      comes = (
        up,
        undone-leaves report (from_stage st (before.held ++ chunk) Open) before.output after.output status
            (from_stage st (before.held ++ chunk) Open).progress.world left
            (Undone-open st.line st.at (pieces_of 10 (before.held ++ chunk)) st.progress) up,
      );
    }

-- a turn in which nothing was taken, and the run ended
pub turn-ended : (report : Report) (st : Stage) (how : Ending) (before after : BetweenTakes) (left : Option World) (r : Status)
    → IsStage st → IsHeld st before.held → Consumes before.input.left after.input.left [] →
    HasCause how before.input after.input
    → FailedIsLast how (from_stage st before.held how) →
    Stopped report (from_stage st before.held how) before.output after.output r →
    Leaves r report (from_stage st before.held how).progress.world left
    → TakesTurn report st before after left (Err r)
turn-ended report st how before after left r stands is consumed cause last stopped leaves =
    let within = held-within st.line st.at before.held stands.within is.unpassed in
    record {
      chunk = [];
      ending = how;
      consumed = consumed;
      cause = cause;
      few = omega arith;
      within = omega (arith, within.1);
      last = subst (λ bytes. FailedIsLast how (from_stage st bytes how)) (sym (append-nil before.held)) last;
      comes = subst (λ bytes. Stopped report (from_stage st bytes how) before.output after.output r
          × Leaves r report (from_stage st bytes how).progress.world left)
          (sym (append-nil before.held)) (stopped, leaves);
    }

-- a run in which a take failed leaves nothing
failed-leaves : (report : Report) (st : Stage) (held : List ℕ) (v v' : SinkView) (left : Option World) (r : Status) → IsHeld st held →
    Stopped report (from_stage st held Failed) v v' r → Leaves r report (from_stage st held Failed).progress.world left
failed-leaves report st held v v' left r is stopped =
    undone-leaves report (from_stage st held Failed) v v' r (from_stage st held Failed).progress.world left
    (λ e. absurd (let clash : Some status.ReadFault ≡ Some status.Done = sym read ∙ e in cc)) stopped where
      read : status_of (from_stage st held Failed) ≡ Some status.ReadFault
      read = ap status_of (from-held st held Failed is.unended ∙ last-failed st.line st.at held st.progress is.unpassed)

-- a take failed
pub turn-failed : (report : Report) (st : Stage) (before after : BetweenTakes) (left : Option World) (r : Status)
    → IsStage st → IsHeld st before.held → Keeps before.input.left after.input.left →
    after.input.faults ≡ before.input.faults + 1
    → Stopped report (from_stage st before.held Failed) before.output after.output r →
    TakesTurn report st before after left (Err r)
turn-failed report st before after left r stands is keeps cause stopped =
    turn-ended report st Failed before after left r stands is (Keeps-consumes before.input.left after.input.left keeps) cause
    (λ e. ap status_of (from-held st before.held Failed is.unended
    ∙ last-failed st.line st.at before.held st.progress is.unpassed)) stopped
    (failed-leaves report st before.held before.output after.output left r is stopped)

-- How an input comes to be looked at, take by take, and what a command comes to that does so.
use Rattle.std.proofs.Common.{◌≡◌, ◌≤◌, ◌<◌, ℕ, ◌+◌, ◌-◌, nat_lt, List, [], ◌++◌, length, take, Some, None, Bool, true, false, cond, refl, sym, ap, subst, ◌∙◌, arith, length-append}
use Rattle.std.proofs.lemmas.Bool.{lt-ltb, le-ltb}
use Rattle.std.proofs.lemmas.List.{append-nil, length-take}
use Rattle.std.specs.Io.KnownBytes.{Consumes, Keeps, IsAtEnd}
use Rattle.cg_io.specs.Outside.{SourceView, SinkView, PutsAll}
use Rattle.cg_items.specs.declared.companion.Companion.TheVariants.{Alone}
use Rattle.cg_image.specs.Inspecting.{Inspected, NotAnImage, NotAStore, Holds, inspected}
use Rattle.cg_image.specs.Told.{told_of}
use Rattle.cg_image.specs.declared.inspecting.Inspected.TheVariants as told
use Rattle.cg_outcome.specs.declared.command.Command.TheVariants.{Inspect}
use Rattle.cg_outcome.specs.declared.limits.TheConstants.{INPUT_BYTES}
use Rattle.cg_outcome.specs.declared.status.Limit.TheVariants as limit
use Rattle.cg_outcome.specs.declared.status.Status.{Status}
use Rattle.cg_outcome.specs.declared.status.Status.TheVariants as status
use Rattle.cg_outcome.specs.Inspection.{Gathers, Inspects}
use Rattle.cg_outcome.specs.GoingOnLaws.{Appends-none}
use Rattle.cg_outcome.specs.NearLaws.{Runs-near}
use Rattle.cg_outcome.specs.Outcome.{Ending, Ended, Failed, Open, seen_in, looked_at, inspection, text_put}
use Rattle.cg_outcome.specs.Produced.{Produced, before_all, ended_with, status_of}
use Rattle.cg_outcome.specs.SparedLaws.{read-cause}
use Rattle.cg_outcome.specs.Streaming.{Ends, FailedIsLast}
use Rattle.cg_outcome.specs.Stopping.{AllShort}
use Rattle.cg_outcome.specs.StreamLaws.{Keeps-consumes, grown}
use Rattle.cg_outcome.specs.TakeLaws.{Consumes-none, Consumes-twice}
use Rattle.cg_outcome.specs.Taking.{HasCause, InTime, ReadCause, Runs, most_taken}

pub Gathers-begin : (old : SourceView) → Gathers old old []
Gathers-begin old = record { consumed = Consumes-none old.left; no_fault = refl; most = omega arith }

-- a take brings more
pub Gathers-turn : (old now new : SourceView) (bytes chunk : List ℕ) → Gathers old now bytes →
    Consumes now.left new.left chunk → new.faults ≡ now.faults → length bytes + length chunk ≤ most_taken →
    Gathers old new (bytes ++ chunk)
Gathers-turn old now new bytes chunk g consumed same within = record {
  consumed = Consumes-twice old.left now.left new.left bytes chunk g.consumed consumed;
  no_fault = same ∙ g.no_fault;
  most = omega (arith, within, length-append bytes chunk);
}

-- ---- how the taking ends

-- bytes that pass no limit are looked at
within-limit : (bytes : List ℕ) (how : Ending) → length bytes ≤ INPUT_BYTES → inspection bytes how ≡ looked_at bytes how
within-limit bytes how few = rw (le-ltb INPUT_BYTES (length bytes) few) refl

beyond-limit : (bytes : List ℕ) (how : Ending) → INPUT_BYTES < length bytes →
    inspection bytes how ≡ ended_with (status.Limit 0 limit.Input) 0 (before_all Alone)
beyond-limit bytes how more = rw (lt-ltb INPUT_BYTES (length bytes) more) refl

abbrev EndsAs : Produced → SinkView → SinkView → Status → Type 0
EndsAs p from to st = Ends (Some Inspect) [] p from to st

-- with an end that has its cause, and nothing more taken
closing : (old now new : SourceView) (from to : SinkView) (bytes : List ℕ) (how : Ending) (st : Status) →
    Gathers old now bytes → Consumes now.left new.left [] → HasCause how old new →
    EndsAs (inspection bytes how) from to st → FailedIsLast how (inspection bytes how) → Inspects old new from to st
closing old now new from to bytes how st g consumed cause ends last = record {
  taken = bytes;
  ending = how;
  consumed = subst (Consumes old.left new.left) (append-nil bytes)
      (Consumes-twice old.left now.left new.left bytes [] g.consumed consumed);
  cause = cause;
  holds = (g.most, ends, last);
}

pub Inspects-failed : (old now new : SourceView) (from to : SinkView) (bytes : List ℕ) (st : Status) → Gathers old now bytes →
    length bytes ≤ INPUT_BYTES → Keeps now.left new.left → new.faults ≡ now.faults + 1 →
    EndsAs (ended_with status.ReadFault 0 (before_all Alone)) from to st → Inspects old new from to st
Inspects-failed old now new from to bytes st g few keeps cause ends =
    closing old now new from to bytes Failed st g (Keeps-consumes now.left new.left keeps)
    (cause ∙ ap (λ n. n + 1) g.no_fault)
    (subst (λ (p : Produced). EndsAs p from to st) (sym (within-limit bytes Failed few)) ends)
    (λ e. ap status_of (within-limit bytes Failed few))

pub Inspects-ended : (old now new : SourceView) (from to : SinkView) (bytes : List ℕ) (st : Status) → Gathers old now bytes →
    length bytes ≤ INPUT_BYTES → Consumes now.left new.left [] → IsAtEnd new.left → new.faults ≡ now.faults →
    EndsAs (looked_at bytes Ended) from to st → Inspects old new from to st
Inspects-ended old now new from to bytes st g few consumed at_end same ends =
    closing old now new from to bytes Ended st g consumed (at_end, same ∙ g.no_fault)
    (subst (λ (p : Produced). EndsAs p from to st) (sym (within-limit bytes Ended few)) ends) (λ e. absurd cc)

pub Inspects-limit : (old now : SourceView) (from to : SinkView) (bytes : List ℕ) (st : Status) → Gathers old now bytes →
    INPUT_BYTES < length bytes →
    EndsAs (ended_with (status.Limit 0 limit.Input) 0 (before_all Alone)) from to st → Inspects old now from to st
Inspects-limit old now from to bytes st g more ends =
    closing old now now from to bytes Open st g (Consumes-none now.left) g.no_fault
    (subst (λ (p : Produced). EndsAs p from to st) (sym (beyond-limit bytes Open more)) ends) (λ e. absurd cc)

-- memory was refused behind a take
pub Inspects-refused : (old now new : SourceView) (v : SinkView) (bytes chunk : List ℕ) → Gathers old now bytes →
    Consumes now.left new.left chunk → new.faults ≡ now.faults → length bytes + length chunk ≤ most_taken →
    Inspects old new v v status.NoMemory
Inspects-refused old now new v bytes chunk g consumed same within =
    let more = Gathers-turn old now new bytes chunk g consumed same within in
    record {
      taken = bytes ++ chunk;
      ending = Open;
      consumed = more.consumed;
      cause = more.no_fault;
      holds = (
        more.most,
        record {
          front = record {
            front = [];
            rest = text_put (Some Inspect) [] (inspection (bytes ++ chunk) Open);
            whole = refl;
            grown = Appends-none v.held;
          };
          counted = omega arith;
        },
        λ e. absurd cc,
      );
    }

-- ---- what is seen

-- what is told is what is seen
pub told-none : (x : Inspected) → told_of x ≡ told.NotAnImage → x ≡ NotAnImage
told-none NotAnImage e = refl
told-none NotAStore e = cc
told-none (Holds r) e = cc

pub told-no_store : (x : Inspected) → told_of x ≡ told.NotAStore → x ≡ NotAStore
told-no_store NotAnImage e = cc
told-no_store NotAStore e = refl
told-no_store (Holds r) e = cc

-- ---- the command

no-items : (taken : List ℕ) (how : Ending) → (inspection taken how).items ≡ []
no-items taken how = by_limit (nat_lt INPUT_BYTES (length taken)) where
  by_seen : (x : Inspected) → (seen_in x).items ≡ []
  by_seen NotAnImage = refl
  by_seen NotAStore = refl
  by_seen (Holds r) = refl

  by_ending : (how : Ending) → (looked_at taken how).items ≡ []
  by_ending Ended = by_seen (inspected taken)
  by_ending Failed = refl
  by_ending Open = refl

  by_limit : (b : Bool) →
      (cond b (ended_with (status.Limit 0 limit.Input) 0 (before_all Alone)) (looked_at taken how)).items ≡ []
  by_limit true = refl
  by_limit false = by_ending how

module _ (old new : SourceView) (v v' : SinkView) (st : Status) (is : Inspects old new v v' st) where
  in-time : InTime (text_put (Some Inspect) []) (λ front. inspection front Open) is.taken v v'
  in-time m le =
      let front = take m is.taken in
      let few : length front ≤ INPUT_BYTES =
      (let most = is.holds.0 in omega (arith, le, most, length-take m is.taken)) in
      let nothing = within-limit front Open few in
      let p = inspection is.taken is.ending in
      let more = grown (text_put (Some Inspect) [] p) (status_of p) v v' st is.holds.1 in
      subst (λ (q : Produced). (q.found ≡ None) × (rest : List ℕ) × PutsAll v v' (text_put (Some Inspect) [] q ++ rest))
      (sym nothing) (refl, more.0, more.1)

  pub inspection-runs : Runs (Some Inspect) old new v v' st
  inspection-runs = Runs-near (Some Inspect) [] old new v v' st (record {
    taken = is.taken;
    ending = is.ending;
    consumed = is.consumed;
    cause = is.cause;
    holds = (
      is.holds.0,
      tt,
      is.holds.1,
      in-time,
      λ reads finding. subst AllShort (sym (no-items is.taken is.ending)) tt,
    );
  })

  pub inspection-cause : ReadCause old new st
  inspection-cause = read-cause (Some Inspect) [] is.taken is.ending old new v v' st is.cause is.holds.2 is.holds.1

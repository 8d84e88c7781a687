-- Where no take failed a run comes to what its whole input comes to: a front that comes to something comes to the same.
use Rattle.std.proofs.Common.{◌≡◌, ◌⊎◌, ◌≤◌, ℕ, ◌+◌, ◌==◌, nat_lt, List, [], ◌∷◌, ◌++◌, length, Option, Some, None, Bool, true, false, cond, refl, sym, ap, subst, ◌∙◌, arith, length-append, inl, inr}
use Rattle.std.proofs.lemmas.Bool.{true≢false, lt-ltb, ltb-true}
use Rattle.std.proofs.lemmas.List.{append-nil}
use Rattle.std.specs.Io.KnownBytes.{Consumes, IsAtEnd}
use Rattle.std.specs.List.{onto_first}
use Rattle.cg_outcome.specs.declared.limits.TheConstants.{INPUT_BYTES, LINES, LINE_BYTES}
use Rattle.cg_base.specs.Text.{pieces_of, is_nil}
use Rattle.cg_io.specs.Outside.{SourceView, SinkView}
use Rattle.cg_outcome.specs.declared.command.Command.{Command}
use Rattle.cg_outcome.specs.declared.command.Command.TheVariants.{Generate, Trial, Inspect}
use Rattle.cg_items.specs.declared.companion.Companion.{Companion}
use Rattle.cg_outcome.specs.Outcome.{Ending, Ended, Failed, Open, limit_of, unless_passed, line_outcome, without_return, whole_line, cut_line, last_piece, replayed, companion_for, inspection, outcome_of, text_put}
use Rattle.cg_outcome.specs.Produced.{Progress, Finding, Produced, before_all, status_of, ended_with, prepend, and_then}
use Rattle.cg_outcome.specs.declared.status.Limit.{Limit}
use Rattle.cg_outcome.specs.declared.status.Limit.TheVariants as limit
use Rattle.cg_outcome.specs.declared.status.Status.{Status}
use Rattle.cg_outcome.specs.declared.status.Status.TheVariants as status
use Rattle.cg_outcome.specs.Commands.{reads_input}
use Rattle.cg_outcome.specs.Putting.{Puts, StopsWith}
use Rattle.cg_outcome.specs.Taking.{HasCause, IsImage, IsWithinLimits, Completes, Runs}
use Rattle.cg_outcome.specs.FeedLaws.{some_piece}
use Rattle.cg_outcome.specs.GoingOnLaws.{and_then-none, and_then-some}
use Rattle.cg_outcome.specs.StageLaws.{limit-none, none-limit}

-- ---- the pieces of a front

-- the pieces are the first of these, but for the last one, which begins one of them
abbrev Begin : List (List ℕ) → List (List ℕ) → Type 0
Begin [] qs = ⊥
Begin (p ∷ ps) [] = ⊥
Begin (p ∷ []) (q ∷ qs) = (r : List ℕ) × (q ≡ p ++ r)
Begin (p ∷ next ∷ ps) (q ∷ qs) = (q ≡ p) × Begin (next ∷ ps) qs

begin-feed : (ps qs : List (List ℕ)) → Begin ps qs → Begin ([] ∷ ps) ([] ∷ qs)
begin-feed [] qs is = absurd is
begin-feed (p ∷ ps) qs is = (refl, is)

begin-byte : (b : ℕ) (ps qs : List (List ℕ)) → Begin ps qs → Begin (onto_first b ps) (onto_first b qs)
begin-byte b [] qs is = absurd is
begin-byte b (p ∷ ps) [] is = absurd is
begin-byte b (p ∷ []) (q ∷ qs) is = (is.0, ap (λ t. b ∷ t) is.1)
begin-byte b (p ∷ next ∷ ps) (q ∷ qs) is = (ap (λ t. b ∷ t) is.0, is.1)

begin-none : (qs : List (List ℕ)) → is_nil qs ≡ false → Begin ([] ∷ []) qs
begin-none [] some = absurd (true≢false some)
begin-none (q ∷ qs) some = (q, refl)

begin-step : (t : Bool) (b : ℕ) (ps qs : List (List ℕ)) → Begin ps qs →
    Begin (cond t ([] ∷ ps) (onto_first b ps)) (cond t ([] ∷ qs) (onto_first b qs))
begin-step true b ps qs is = begin-feed ps qs is
begin-step false b ps qs is = begin-byte b ps qs is

pieces-begin : (bytes more : List ℕ) → Begin (pieces_of 10 bytes) (pieces_of 10 (bytes ++ more))
pieces-begin [] more = begin-none (pieces_of 10 more) (some_piece more)
pieces-begin (b ∷ bs) more = begin-step (b == 10) b (pieces_of 10 bs) (pieces_of 10 (bs ++ more)) (pieces-begin bs more)

-- ---- limits

no-steps : (x y z : Bool) →
    cond x (Some limit.Line) (cond y (Some limit.Input) (cond z (Some limit.Lines) None)) ≡ Some limit.Steps → ⊥
no-steps true y z e = cc
no-steps false true z e = cc
no-steps false false true e = cc
no-steps false false false e = cc

-- a limit that a line passes isn't one within the limits
not-within : (n len end : ℕ) (what : Limit) → limit_of n len end ≡ Some what →
    IsWithinLimits (Some (status.Limit n what)) → ⊥
not-within n len end limit.Line e within = within
not-within n len end limit.Input e within = within
not-within n len end limit.Lines e within = within
not-within n len end limit.Steps e within = no-steps (nat_lt LINE_BYTES len) (nat_lt INPUT_BYTES end) (nat_lt LINES n) e

-- a line of which a front passes a limit passes one
limit-later : (n len end longer later : ℕ) (what : Limit) → len ≤ longer → end ≤ later →
    limit_of n len end ≡ Some what → limit_of n longer later ≡ None → ⊥
limit-later n len end longer later what long late some none =
    let within = limit-none n longer later none in
    let clash : None ≡ Some what =
    sym (none-limit n len end (omega (arith, long, within.0)) (omega (arith, late, within.1)) within.2) ∙ some in
    cc

passed : (n len end longer later : ℕ) (what : Limit) (s : Progress) (whole : Option Limit → Produced) →
    ((w : Limit) → whole (Some w) ≡ ended_with (status.Limit n w) n s)
    → len ≤ longer → end ≤ later → limit_of n len end ≡ Some what →
    IsWithinLimits (status_of (whole (limit_of n longer later))) → ⊥
passed n len end longer later what s whole ends long late some within = by_limit (limit_of n longer later) refl where
  by_limit : (o : Option Limit) → limit_of n longer later ≡ o → ⊥
  by_limit None e = limit-later n len end longer later what long late some e
  by_limit (Some w) e =
      let is : status_of (whole (limit_of n longer later)) ≡ Some (status.Limit n w) =
      ap (λ o. status_of (whole o)) e ∙ ap status_of (ends w) in
      not-within n longer later w e (subst IsWithinLimits is within)

-- ---- what a front comes to

-- where the part of a line comes to something the line passes a limit
last-found : (n at : ℕ) (b : ℕ) (bs r : List ℕ) (qs : List (List ℕ)) (s : Progress) (f : Finding)
    → (unless_passed (limit_of n (length (b ∷ bs)) (at + length (b ∷ bs))) n s (cut_line n (b ∷ bs) Open s)).found ≡
    Some f
    → IsWithinLimits (status_of (replayed n at (((b ∷ bs) ++ r) ∷ qs) Ended s)) → ⊥
last-found n at b bs r qs s f some within =
    by_limit (limit_of n (length (b ∷ bs)) (at + length (b ∷ bs))) refl qs within where
      long : length (b ∷ bs) ≤ length (b ∷ (bs ++ r))
      long = omega (arith, length-append bs r)

      by_limit : (o : Option Limit) → limit_of n (length (b ∷ bs)) (at + length (b ∷ bs)) ≡ o → (qs : List (List ℕ))
          → IsWithinLimits (status_of (replayed n at (((b ∷ bs) ++ r) ∷ qs) Ended s)) → ⊥
      by_limit None e qs within =
          let clash : None ≡ Some f = sym (ap (λ o. (unless_passed o n s (cut_line n (b ∷ bs) Open s)).found) e) ∙ some in
          cc
      by_limit (Some what) e [] within =
          let line = b ∷ (bs ++ r) in
          passed n (length (b ∷ bs)) (at + length (b ∷ bs)) (length line) (at + length line) what
          s (λ o. unless_passed o n s (cut_line n line Ended s)) (λ w. refl)
          long (omega (arith, long)) e within
      by_limit (Some what) e (q ∷ qs) within =
          let line = b ∷ (bs ++ r) in
          let more = replayed (n + 1) (at + length line + 1) (q ∷ qs) Ended in
          passed n (length (b ∷ bs)) (at + length (b ∷ bs)) (length line) (at + length line + 1) what s
          (λ o. and_then (unless_passed o n s (line_outcome n (without_return line) s)) more) (λ w. refl)
          long (omega (arith, long)) e within

last-whole : (n at : ℕ) (p r : List ℕ) (qs : List (List ℕ)) (s : Progress) (f : Finding)
    → (last_piece n at p Open s).found ≡ Some f → IsWithinLimits (status_of (replayed n at ((p ++ r) ∷ qs) Ended s)) → ⊥
last-whole n at [] r qs s f some within = cc
last-whole n at (b ∷ bs) r qs s f some within = last-found n at b bs r qs s f some within

-- two parts that begin with one, where the rest of the shorter comes to what the rest of the longer comes to
joined : (p : Produced) (more fewer : Progress → Produced) (f : Finding) → (and_then p fewer).found ≡ Some f →
    IsWithinLimits (status_of (and_then p more))
    → ((fewer p.progress).found ≡ Some f → IsWithinLimits (status_of (more p.progress)) →
    fewer p.progress ≡ more p.progress) → and_then p fewer ≡ and_then p more
joined p more fewer f some within next = by_finding p.found refl where
  by_finding : (o : Option Finding) → p.found ≡ o → and_then p fewer ≡ and_then p more
  by_finding None e =
      let short = and_then-none p fewer e in
      let long = and_then-none p more e in
      let found : (fewer p.progress).found ≡ Some f = sym (ap (λ (q : Produced). q.found) short) ∙ some in
      let inside : IsWithinLimits (status_of (more p.progress)) =
      subst (λ (q : Produced). IsWithinLimits (status_of q)) long within in
      short ∙ ap (prepend p.items) (next found inside) ∙ sym long
  by_finding (Some g) e = and_then-some p fewer g e ∙ sym (and_then-some p more g e)

-- what pieces come to, others come to that begin with them
front-whole : (ps qs : List (List ℕ)) → Begin ps qs → (n at : ℕ) (s : Progress) (f : Finding) →
    (replayed n at ps Open s).found ≡ Some f
    → IsWithinLimits (status_of (replayed n at qs Ended s)) → replayed n at ps Open s ≡ replayed n at qs Ended s
front-whole [] qs is n at s f some within = absurd is
front-whole (p ∷ ps) [] is n at s f some within = absurd is
front-whole (p ∷ []) (q ∷ qs) is n at s f some within =
    absurd (last-whole n at p is.0 qs s f
    some (subst (λ line. IsWithinLimits (status_of (replayed n at (line ∷ qs) Ended s))) is.1 within))
front-whole (p ∷ next ∷ ps) (q ∷ []) is n at s f some within = absurd is.1
front-whole (p ∷ next ∷ ps) (q ∷ then ∷ qs) is n at s f some within =
    let part = whole_line n at p s in
    let more = replayed (n + 1) (at + length p + 1) (then ∷ qs) Ended in
    let fewer = replayed (n + 1) (at + length p + 1) (next ∷ ps) Open in
    let same : replayed n at (q ∷ then ∷ qs) Ended s ≡ and_then part more =
    ap (λ line. replayed n at (line ∷ then ∷ qs) Ended s) is.0 in
    joined part more fewer f some (subst (λ (r : Produced). IsWithinLimits (status_of r)) same within)
    (λ found inside. front-whole (next ∷ ps) (then ∷ qs) is.1 (n + 1) (at + length p + 1) part.progress f found inside)
    ∙ sym same

-- ---- what was taken of the whole input

-- all that was left was taken, where nothing is left
all-taken : (left : Option (List ℕ)) (all taken : List ℕ) → Consumes (Some all) left taken → IsAtEnd left → all ≡ taken
all-taken None all taken consumed ended = absurd consumed
all-taken (Some rest) all taken consumed ended = consumed ∙ ap (λ r. taken ++ r) ended ∙ append-nil taken

front-taken : (left : Option (List ℕ)) (all taken : List ℕ) → Consumes (Some all) left taken →
    (r : List ℕ) × (all ≡ taken ++ r)
front-taken None all taken consumed = absurd consumed
front-taken (Some rest) all taken consumed = (rest, consumed)

-- a part with a status has a finding
pub has-found : (p : Produced) (st : Status) → status_of p ≡ Some st → (f : Finding) × (p.found ≡ Some f)
has-found p st is = by_finding p.found refl where
  by_finding : (o : Option Finding) → p.found ≡ o → (f : Finding) × (p.found ≡ Some f)
  by_finding None e =
      absurd (let clash : None ≡
      Some st = sym (ap (λ (found : Option Finding). status_of (record p { found = found })) e) ∙ is in cc)
  by_finding (Some f) e = (f, e)

replay-whole : (c : Companion) (all taken : List ℕ) (how : Ending) (old new : SourceView) →
    Consumes (Some all) new.left taken →
    HasCause how old new → new.faults ≡ old.faults
    → (st : Status) → status_of (replayed 1 0 (pieces_of 10 taken) how (before_all c)) ≡ Some st
    → IsWithinLimits (status_of (replayed 1 0 (pieces_of 10 all) Ended (before_all c)))
    → replayed 1 0 (pieces_of 10 taken) how (before_all c) ≡ replayed 1 0 (pieces_of 10 all) Ended (before_all c)
replay-whole c all taken Ended old new consumed cause none st is within =
    ap (λ bytes. replayed 1 0 (pieces_of 10 bytes) Ended (before_all c))
    (sym (all-taken new.left all taken consumed cause.0))
replay-whole c all taken Failed old new consumed cause none st is within = absurd (omega (arith, cause, none))
replay-whole c all taken Open old new consumed cause none st is within =
    let front = front-taken new.left all taken consumed in
    let begin : Begin (pieces_of 10 taken) (pieces_of 10 all) =
    subst (λ bytes. Begin (pieces_of 10 taken) (pieces_of 10 bytes)) (sym front.1) (pieces-begin taken front.0) in
    let found = has-found (replayed 1 0 (pieces_of 10 taken) Open (before_all c)) st is in
    front-whole (pieces_of 10 taken) (pieces_of 10 all) begin 1 0 (before_all c) found.0 found.1 within

-- what was looked at of an image that passes no limit is all of it
inspection-whole : (all taken : List ℕ) (how : Ending) (old new : SourceView) → Consumes (Some all) new.left taken →
    HasCause how old new → new.faults ≡ old.faults
    → (st : Status) → status_of (inspection taken how) ≡ Some st → IsWithinLimits (status_of (inspection all Ended))
    → inspection taken how ≡ inspection all Ended
inspection-whole all taken Ended old new consumed cause none st is within =
    ap (λ bytes. inspection bytes Ended) (sym (all-taken new.left all taken consumed cause.0))
inspection-whole all taken Failed old new consumed cause none st is within = absurd (omega (arith, cause, none))
inspection-whole all taken Open old new consumed cause none st is within =
    absurd (by_limit (nat_lt INPUT_BYTES (length taken)) refl) where
      front : (r : List ℕ) × (all ≡ taken ++ r)
      front = front-taken new.left all taken consumed

      long : length all ≡ length taken + length front.0
      long = ap length front.1 ∙ length-append taken front.0

      by_limit : (b : Bool) → nat_lt INPUT_BYTES (length taken) ≡ b → ⊥
      by_limit true e =
          let more : nat_lt INPUT_BYTES (length all) ≡ true =
          lt-ltb INPUT_BYTES (length all) (let less = ltb-true INPUT_BYTES (length taken) e in omega (arith, long, less)) in
          rw more at within
      by_limit false e = let open_ : None ≡ Some st = rw e at is in cc

-- ---- a command

-- all of the text was put, or memory was refused
all-put : (text : List ℕ) (found : Option Status) (v v' : SinkView) (st : Status) →
    StopsWith text found v v' st → v'.faults ≡ v.faults
    → (st ≡ status.NoMemory) ⊎ ((found ≡ Some st) × Puts v v' text)
all-put text found v v' status.WriteFault stopped none = absurd (omega (arith, stopped.counted, none))
all-put text found v v' status.NoMemory stopped none = inl refl
all-put text found v v' other stopped none = inr stopped

command-whole : (c : Option Command) (all taken : List ℕ) (how : Ending) (old new : SourceView) →
    Consumes old.left new.left taken → HasCause how old new
    → new.faults ≡ old.faults → (reads_input c ≡ true → old.left ≡ Some all) → (st : Status) →
    status_of (outcome_of c taken how) ≡ Some st
    → IsWithinLimits (status_of (outcome_of c all Ended)) → outcome_of c taken how ≡ outcome_of c all Ended
command-whole None all taken how old new consumed cause none has st is within = refl
command-whole (Some (Generate seed replicas lines)) all taken how old new consumed cause none has st is within = refl
command-whole (Some (Trial seed replicas lines)) all taken how old new consumed cause none has st is within = refl
command-whole (Some Inspect) all taken how old new consumed cause none has st is within =
    inspection-whole all taken how old new
    (subst (λ left. Consumes left new.left taken) (has refl) consumed) cause none st is within
command-whole other all taken how old new consumed cause none has st is within =
    replay-whole (companion_for other) all taken how old new
    (subst (λ left. Consumes left new.left taken) (has refl) consumed) cause none st is within

pub Runs-complete : (c : Option Command) (old new : SourceView) (v v' : SinkView) (st : Status) →
    Runs c old new v v' st → Completes c old new v v' st
Runs-complete c old new v v' st runs all has within none unfailed =
    elim (all-put (text_put c runs.image (outcome_of c runs.taken runs.ending))
    (status_of (outcome_of c runs.taken runs.ending)) v v' st runs.ends unfailed) [
      | inl refused ↦ inl refused
      | inr put ↦
          let same = command-whole c all runs.taken runs.ending old new runs.consumed runs.cause none has st put.0 within in
          inr (subst (λ (p : Produced). (status_of p ≡ Some st) × (image : List ℕ) × IsImage c p st image
          × Puts v v' (text_put c image p)) same (put.0, runs.image, runs.imaged, put.1))
    ]

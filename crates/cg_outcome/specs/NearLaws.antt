-- Where a line is the first finding, no more was taken past its end than is taken at once.
use Rattle.std.proofs.Common.{◌≡◌, ◌<◌, ◌≤◌, ℕ, zero, suc, ◌+◌, ◌-◌, ◌==◌, nat_lt, List, [], ◌∷◌, ◌++◌, length, take, Option, Some, None, Bool, true, false, cond, refl, sym, ap, subst, ◌∙◌, arith, length-append, append_assoc, inl, inr}
use Rattle.std.specs.List.{onto_first, join_with_byte}
use Rattle.std.proofs.lemmas.List.Splits.{join_with_byte-slice_split}
use Rattle.std.proofs.lemmas.Bool.{cases_lt, cond_both, eqb-true, false≢true, true≢false}
use Rattle.std.proofs.Math.Seq.{take-append-add}
use Rattle.cg_base.specs.Text.{pieces_of, is_nil}
use Rattle.cg_io.specs.Outside.{SourceView, SinkView}
use Rattle.cg_outcome.specs.declared.command.Command.{Command}
use Rattle.cg_outcome.specs.declared.command.Command.TheVariants.{Generate, Trial, Inspect}
use Rattle.cg_items.specs.declared.companion.Companion.{Companion}
use Rattle.cg_items.specs.declared.companion.Companion.TheVariants.{Alone}
use Rattle.cg_image.specs.Inspecting.{Inspected, NotAnImage, NotAStore, Holds, inspected}
use Rattle.cg_outcome.specs.declared.limits.TheConstants.{INPUT_BYTES}
use Rattle.cg_outcome.specs.declared.status.Limit.TheVariants as limit
use Rattle.cg_outcome.specs.Outcome.{Ending, Ended, Failed, Open, limit_of, unless_passed, line_outcome, whole_line, at_end, cut_line, last_piece, replayed, companion_for, seen_in, looked_at, inspection, outcome_of, text_put}
use Rattle.cg_outcome.specs.Produced.{Progress, Finding, Produced, before_all, status_of, ended_with, and_then}
use Rattle.cg_outcome.specs.declared.status.Limit.{Limit}
use Rattle.cg_outcome.specs.declared.status.Status.{Status}
use Rattle.cg_outcome.specs.declared.status.Status.TheVariants as status
use Rattle.cg_outcome.specs.Commands.{reads_input}
use Rattle.cg_outcome.specs.Taking.{most_taken, most_at_once, InTime, IsImage, ShowsShort, Runs, found_in, end_of_line}
use Rattle.cg_outcome.specs.Streaming.{IsUnended, OfTaken, Ends}
use Rattle.cg_outcome.specs.FeedLaws.{line_first, first_unended, some_piece}
use Rattle.cg_outcome.specs.GoingOnLaws.{and_then-none, and_then-some}
use Rattle.cg_outcome.specs.LineLaws.{replayed-more}
use Rattle.cg_outcome.specs.TakeLaws.{Consumes-none}
use Rattle.cg_outcome.specs.SparedLaws.{IsInLine, is_of_line, IsInLine-line, IsInLine-whole}

-- ---- a finding is one of the lines that are left

abbrev line_of : Option Status → Option ℕ
line_of None = None
line_of (Some st) = found_in st

-- what is found of a line is found in line n or later
abbrev IsFrom : ℕ → Produced → Type 0
IsFrom n p = (k : ℕ) → line_of (status_of p) ≡ Some k → n ≤ k

there : (n line k : ℕ) → (line == n) ≡ true → Some line ≡ Some k → n ≤ k
there n line k is e = let same : line ≡ n = eqb-true line n is in let here : line ≡ k = cc in omega (arith, same, here)

of_line : (n : ℕ) (found : Option Status) (k : ℕ) → is_of_line n found ≡ true → line_of found ≡ Some k → n ≤ k
of_line n None k is e = absurd (cc)
of_line n (Some (status.Syntax line reason)) k is e = there n line k is e
of_line n (Some (status.Refused line reason)) k is e = there n line k is e
of_line n (Some (status.Limit line what)) k is e = there n line k is e
of_line n (Some status.NoMemory) k is e = absurd (cc)
of_line n (Some other) k is e = absurd (false≢true is)

IsFrom-in_line : (n : ℕ) (p : Produced) → IsInLine n p → IsFrom n p
IsFrom-in_line n p is k e = of_line n (status_of p) k is e

IsFrom-and_then : (n : ℕ) (p : Produced) (more : Progress → Produced) → IsFrom n p →
    ((s : Progress) → IsFrom n (more s)) → IsFrom n (and_then p more)
IsFrom-and_then n p more first next = by_finding p.found refl where
  by_finding : (o : Option Finding) → p.found ≡ o → IsFrom n (and_then p more)
  by_finding None e = rw e (next p.progress)
  by_finding (Some f) e = let alone : and_then p more ≡ p = rw e refl in rw alone first

IsFrom-at_end : (n m : ℕ) (how : Ending) (s : Progress) → IsFrom n (at_end m how s)
IsFrom-at_end n m Ended s =
    cond_both s.reader.ended (ended_with status.Done m s) (ended_with (status.NoEnd m) m s) (IsFrom n) (λ y k
    e. absurd (cc)) (λ y k e. absurd (cc))
IsFrom-at_end n m Failed s = λ k e. absurd (cc)
IsFrom-at_end n m Open s = λ k e. absurd (cc)

IsFrom-cut_line : (n : ℕ) (line : List ℕ) (how : Ending) (s : Progress) → IsFrom n (cut_line n line how s)
IsFrom-cut_line n line Ended s =
    IsFrom-and_then n (line_outcome n line s) (at_end n Ended) (IsFrom-in_line
    n (line_outcome n line s) (IsInLine-line n line s)) (λ s. IsFrom-at_end n n Ended s)
IsFrom-cut_line n line Failed s = λ k e. absurd (cc)
IsFrom-cut_line n line Open s = λ k e. absurd (cc)

IsFrom-unless_passed : (o : Option Limit) (n : ℕ) (s : Progress) (p : Produced) → IsFrom n p →
    IsFrom n (unless_passed o n s p)
IsFrom-unless_passed None n s p is = is
IsFrom-unless_passed (Some what) n s p is = λ k e. let here : n ≡ k = cc in omega (arith, here)

IsFrom-last_piece : (n at : ℕ) (rest : List ℕ) (how : Ending) (s : Progress) → IsFrom n (last_piece n at rest how s)
IsFrom-last_piece n at [] how s = IsFrom-at_end n (n - 1) how s
IsFrom-last_piece n at (b ∷ bs) how s =
    IsFrom-unless_passed (limit_of n (length (b ∷ bs)) (at + length (b ∷ bs))) n
    s (cut_line n (b ∷ bs) how s) (IsFrom-cut_line n (b ∷ bs) how s)

IsFrom-replayed : (n at : ℕ) (lines : List (List ℕ)) (how : Ending) (s : Progress) →
    IsFrom n (replayed n at lines how s)
IsFrom-replayed n at [] how s = λ k e. absurd (cc)
IsFrom-replayed n at (rest ∷ []) how s = IsFrom-last_piece n at rest how s
IsFrom-replayed n at (line ∷ next ∷ more) how s =
    IsFrom-and_then n (whole_line n at line s) (λ s'. replayed (n + 1) (at + length line + 1) (next ∷ more) how s')
    (IsFrom-in_line n (whole_line n at line s) (IsInLine-whole n at line s))
    (λ s' k e. let later = IsFrom-replayed (n + 1) (at + length line + 1) (next ∷ more) how s' k e in
    omega (arith, later))

-- ---- a finding of a line that has its end is found where nothing follows

not_nil : (ls rest : List (List ℕ)) → is_nil rest ≡ false → is_nil (ls ++ rest) ≡ false
not_nil [] rest some = some
not_nil (l ∷ ls) rest some = refl

abbrev Early : ℕ → ℕ → List (List ℕ) → List (List ℕ) → Ending → Progress → ℕ → Type 0
Early n at ls rest how s k = line_of (status_of (replayed n at (ls ++ rest) how s)) ≡ Some k →
    (replayed n at (ls ++ [] ∷ []) Open s).found ≡ None → ⊥

early-line : (n at : ℕ) (l : List ℕ) (ls rest : List (List ℕ)) (how : Ending) (s : Progress) (k : ℕ) →
    is_nil rest ≡ false
    → ((s' : Progress) → Early (n + 1) (at + length l + 1) ls rest how s' k) → Early n at (l ∷ ls) rest how s k
early-line n at l ls rest how s k some later e none = by_finding (whole_line n at l s).found refl where
  by_finding : (o : Option Finding) → (whole_line n at l s).found ≡ o → ⊥
  by_finding None is =
      let p = whole_line n at l s in
      let more = replayed (n + 1) (at + length l + 1) (ls ++ rest) how in
      let fewer = replayed (n + 1) (at + length l + 1) (ls ++ [] ∷ []) Open in
      let whole : replayed n at (l ∷ (ls ++ rest)) how s ≡ and_then p more =
      replayed-more n at l (ls ++ rest) how s (not_nil ls rest some) in
      let front : replayed n at (l ∷ (ls ++ [] ∷ [])) Open s ≡ and_then p fewer =
      replayed-more n at l (ls ++ [] ∷ []) Open s (not_nil ls ([] ∷ []) refl) in
      later p.progress (sym (ap (λ (q : Produced). line_of (status_of q)) (whole ∙ and_then-none p more is))
      ∙ e) (sym (ap (λ (q : Produced). q.found) (front ∙ and_then-none p fewer is)) ∙ none)
  by_finding (Some f) is =
      let p = whole_line n at l s in
      let fewer = replayed (n + 1) (at + length l + 1) (ls ++ [] ∷ []) Open in
      let front : replayed n at (l ∷ (ls ++ [] ∷ [])) Open s ≡ and_then p fewer =
      replayed-more n at l (ls ++ [] ∷ []) Open s (not_nil ls ([] ∷ []) refl) in
      let clash : Some f ≡ None =
      sym is ∙ sym (ap (λ (q : Produced). q.found) (front ∙ and_then-some p fewer f is)) ∙ none in
      cc

early : (n at : ℕ) (ls rest : List (List ℕ)) (how : Ending) (s : Progress) (k : ℕ) → is_nil rest ≡ false →
    k + 1 ≡ n + length ls → Early n at ls rest how s k
early n at [] rest how s k some is e none = let from = IsFrom-replayed n at rest how s k e in omega (arith, from, is)
early n at (l ∷ ls) rest how s k some is e none =
    early-line n at l ls rest how s k
    some (λ s'. early (n + 1) (at + length l + 1) ls rest how s' k some (omega (arith, is))) e none

-- ---- the front of the bytes that ends with so many lines

record CutLines (n : ℕ) (taken : List ℕ) : Type 0 where
  ls : List (List ℕ)
  rest : List (List ℕ)
  whole : pieces_of 10 taken ≡ ls ++ rest
  long : length ls ≡ n
  some : is_nil rest ≡ false
  front : pieces_of 10 (take (end_of_line n (pieces_of 10 taken)) taken) ≡ ls ++ [] ∷ []

-- a line that has its end stands before a line feed
record EndedLine (bs line : List ℕ) (ps : List (List ℕ)) : Type 0 where
  behind : List ℕ
  whole : bs ≡ line ++ 10 ∷ behind
  others : pieces_of 10 behind ≡ ps

line-step : (b : ℕ) (bs line q : List ℕ) (qs : List (List ℕ)) →
    ((l : List ℕ) (p : List ℕ) (ps : List (List ℕ)) → pieces_of 10 bs ≡ l ∷ p ∷ ps → EndedLine bs l (p ∷ ps))
    → (t : Bool) → (b == 10) ≡ t → cond t ([] ∷ pieces_of 10 bs) (onto_first b (pieces_of 10 bs)) ≡ line ∷ q ∷ qs →
    EndedLine (b ∷ bs) line (q ∷ qs)
line-step b bs line q qs before true test e =
    let none : line ≡ [] = cc in
    let here : b ≡ 10 = eqb-true b 10 test in
    let rest : pieces_of 10 bs ≡ q ∷ qs = cc in
    record { behind = bs; whole = rw (none, here) refl; others = rest }
line-step b bs line q qs before false test e = onto (pieces_of 10 bs) refl e where
  onto : (parts : List (List ℕ)) → pieces_of 10 bs ≡ parts → onto_first b parts ≡ line ∷ q ∷ qs →
      EndedLine (b ∷ bs) line (q ∷ qs)
  onto [] is e = absurd (cc)
  onto (l ∷ []) is e = absurd (cc)
  onto (l ∷ p ∷ ps) is e =
      let more : line ≡ b ∷ l = cc in
      let next : p ∷ ps ≡ q ∷ qs = cc in
      let h = before l p ps is in
      record {
        behind = h.behind;
        whole = ap (λ w. b ∷ w) h.whole ∙ ap (λ (w : List ℕ). w ++ 10 ∷ h.behind) (sym more);
        others = h.others ∙ next;
      }

line-cut : (bs line q : List ℕ) (qs : List (List ℕ)) → pieces_of 10 bs ≡ line ∷ q ∷ qs → EndedLine bs line (q ∷ qs)
line-cut [] line q qs e = absurd (cc)
line-cut (b ∷ bs) line q qs e = line-step b bs line q qs (λ l p ps. line-cut bs l p ps) (b == 10) refl e

cut-none : (taken : List ℕ) → CutLines zero taken
cut-none taken = record {
  ls = [];
  rest = pieces_of 10 taken;
  whole = refl;
  long = refl;
  some = some_piece taken;
  front = refl;
}

cut-line : (n : ℕ) (taken line q : List ℕ) (qs : List (List ℕ)) → pieces_of 10 taken ≡ line ∷ q ∷ qs →
    (h : EndedLine taken line (q ∷ qs)) → CutLines n h.behind → CutLines (suc n) taken
cut-line n taken line q qs e h c =
    let all : pieces_of 10 taken ≡ line ∷ pieces_of 10 h.behind = e ∙ ap (λ ps. line ∷ ps) (sym h.others) in
    let unended : IsUnended line = first_unended taken line (q ∷ qs) e in
    let m = end_of_line n (pieces_of 10 h.behind) in
    let place : end_of_line (suc n) (pieces_of 10 taken) ≡ length (line ++ 10 ∷ []) + m =
    ap (end_of_line (suc n)) all ∙ omega (arith, length-append line (10 ∷ [])) in
    let bytes : taken ≡ (line ++ 10 ∷ []) ++ h.behind = h.whole ∙ sym (append_assoc line (10 ∷ []) h.behind) in
    let cut : take (end_of_line (suc n) (pieces_of 10 taken)) taken ≡ line ++ 10 ∷ take m h.behind =
    ap (λ k. take k taken) place ∙ ap (λ (b : List ℕ). take (length (line ++ 10 ∷ []) + m) b) bytes
    ∙ take-append-add (line ++ 10 ∷ []) h.behind m
    ∙ append_assoc line (10 ∷ []) (take m h.behind) in
    record {
      ls = line ∷ c.ls;
      rest = c.rest;
      whole = all ∙ ap (λ ps. line ∷ ps) c.whole;
      long = ap suc c.long;
      some = c.some;
      front = ap (pieces_of 10) cut ∙ line_first line (take m h.behind) unended ∙ ap (λ ps. line ∷ ps) c.front;
    }

cut-at : (n : ℕ) (taken : List ℕ) → end_of_line n (pieces_of 10 taken) < length taken → CutLines n taken
cut-at zero taken lt = cut-none taken
cut-at (suc n) taken lt = by_pieces (pieces_of 10 taken) refl (λ bytes. cut-at n bytes) where
  by_pieces : (ps : List (List ℕ)) → pieces_of 10 taken ≡ ps →
      ((bytes : List ℕ) → end_of_line n (pieces_of 10 bytes) < length bytes → CutLines n bytes) → CutLines (suc n) taken
  by_pieces [] e before = absurd (true≢false (ap is_nil (sym e) ∙ some_piece taken))
  by_pieces (line ∷ []) e before =
      let long : end_of_line (suc n) (pieces_of 10 taken) ≡ length line + 1 + end_of_line n [] =
      ap (end_of_line (suc n)) e in
      let alone : taken ≡ line = sym (join_with_byte-slice_split 10 taken) ∙ ap (join_with_byte 10) e in
      let same : length taken ≡ length line = ap length alone in
      absurd (omega (arith, lt, long, same))
  by_pieces (line ∷ q ∷ qs) e before =
      let h = line-cut taken line q qs e in
      let long : end_of_line (suc n) (pieces_of 10 taken) ≡ length line + 1 + end_of_line n (pieces_of 10 h.behind) =
      ap (end_of_line (suc n)) (e ∙ ap (λ ps. line ∷ ps) (sym h.others)) in
      let same : length taken ≡ length (line ++ 10 ∷ h.behind) = ap length h.whole in
      cut-line n taken line q qs e
      h (before h.behind (omega (arith, lt, long, same, length-append line (10 ∷ h.behind))))

-- ---- the clause

-- a status with a line is what was found
found-is : (c : Option Command) (image : List ℕ) (p : Produced) (v v' : SinkView) (st : Status) (k : ℕ) →
    Ends c image p v v' st →
    found_in st ≡ Some k → line_of (status_of p) ≡ Some k
found-is c image p v v' status.WriteFault k ended f = absurd (cc)
found-is c image p v v' status.NoMemory k ended f = absurd (cc)
found-is c image p v v' other k ended f = ap line_of ended.0 ∙ f

none-found : (p : Produced) (k : ℕ) → line_of (status_of p) ≡ Some k → p.found ≡ None → ⊥
none-found p k e none =
    let clash : None ≡ Some k =
    sym (ap (λ (found : Option Finding). line_of (status_of (record p { found = found }))) none) ∙ e in
    cc

replay-near : (c : Companion) (taken : List ℕ) (how : Ending) (k : ℕ) →
    line_of (status_of (replayed 1 0 (pieces_of 10 taken) how (before_all c))) ≡ Some k
    → end_of_line k (pieces_of 10 taken) < length taken
    → (replayed 1 0 (pieces_of 10 (take (end_of_line k (pieces_of 10 taken)) taken)) Open (before_all c)).found ≡ None
    → ⊥
replay-near c taken how k e lt none =
    let cut = cut-at k taken lt in
    early 1 0 cut.ls cut.rest how (before_all c) k cut.some (omega (arith, cut.long))
    (subst (λ ps. line_of (status_of (replayed 1 0 ps how (before_all c))) ≡ Some k) cut.whole e)
    (subst (λ ps. (replayed 1 0 ps Open (before_all c)).found ≡ None) cut.front none)

-- what is found in an image is found in no line
inspection-far : (taken : List ℕ) (how : Ending) (k : ℕ) → 1 ≤ k → line_of (status_of (inspection taken how)) ≡ Some k → ⊥
inspection-far taken how k first = by_limit (nat_lt INPUT_BYTES (length taken)) where
  by_seen : (x : Inspected) → line_of (status_of (seen_in x)) ≡ Some k → ⊥
  by_seen NotAnImage e = cc
  by_seen NotAStore e = cc
  by_seen (Holds r) e = cc

  by_ending : (how : Ending) → line_of (status_of (looked_at taken how)) ≡ Some k → ⊥
  by_ending Ended e = by_seen (inspected taken) e
  by_ending Failed e = cc
  by_ending Open e = cc

  by_limit : (b : Bool) →
      line_of (status_of (cond b (ended_with (status.Limit 0 limit.Input) 0 (before_all Alone)) (looked_at taken how))) ≡
      Some k → ⊥
  by_limit true e = let here : 0 ≡ k = cc in omega (arith, here, first)
  by_limit false e = by_ending how e

pub near : (c : Option Command) (image taken : List ℕ) (how : Ending) (v v' : SinkView) (st : Status) →
    Ends c image (outcome_of c taken how) v v' st
    → InTime (text_put c image) (λ front. outcome_of c front Open) taken v v'
    → (k : ℕ) → 1 ≤ k → found_in st ≡ Some k → length taken ≤ end_of_line k (pieces_of 10 taken) + most_at_once
near c image taken how v v' st ended in_time k first f =
    elim (cases_lt (end_of_line k (pieces_of 10 taken) + 4096) (length taken)) [
      | inl lt ↦
          let m = end_of_line k (pieces_of 10 taken) in
          let none = (in_time m (omega (arith, lt))).0 in
          let e = found-is c image (outcome_of c taken how) v v' st k ended f in
          absurd (by_command c e none (omega (arith, lt)))
      | inr le ↦ le
    ] where
      by_command : (c : Option Command) → line_of (status_of (outcome_of c taken how)) ≡ Some k
          → (outcome_of c (take (end_of_line k (pieces_of 10 taken)) taken) Open).found ≡ None →
          end_of_line k (pieces_of 10 taken) < length taken → ⊥
      by_command None e none lt = cc
      by_command (Some (Generate seed replicas lines)) e none lt = cc
      by_command (Some (Trial seed replicas lines)) e none lt =
          none-found (outcome_of (Some (Trial seed replicas lines)) taken how) k e none
      by_command (Some Inspect) e none lt = inspection-far taken how k first e
      by_command other e none lt = replay-near (companion_for other) taken how k e lt none

-- ---- a command

pub Runs-near : (c : Option Command) (image : List ℕ) (old new : SourceView) (v v' : SinkView) (st : Status)
    → OfTaken old new (λ taken how. (length taken ≤ most_taken) × IsImage c (outcome_of c taken how) st image
    × Ends c image (outcome_of c taken how) v v' st
    × InTime (text_put c image) (λ front. outcome_of c front Open) taken v v' × ShowsShort c (outcome_of c taken how) st)
    → Runs c old new v v' st
Runs-near c image old new v v' st r = record {
  taken = r.taken;
  ending = r.ending;
  consumed = r.consumed;
  cause = r.cause;
  most = r.holds.0;
  image = image;
  imaged = r.holds.1;
  ends = r.holds.2;
  in_time = r.holds.3;
  short = r.holds.4;
  near = near c image r.taken r.ending v v' st r.holds.2 r.holds.3;
}

-- a command that reads no input takes nothing
pub Runs-nothing : (c : Option Command) (old : SourceView) (v v' : SinkView) (st : Status) →
    reads_input c ≡ false → IsImage c (outcome_of c [] Open) st [] → Ends c [] (outcome_of c [] Open) v v' st →
    Runs c old old v v' st
Runs-nothing c old v v' st none imaged ended =
    Runs-near c [] old old v v' st (record {
      taken = [];
      ending = Open;
      consumed = Consumes-none old.left;
      cause = refl;
      holds = (omega arith, imaged, ended, λ m lt. absurd (omega (arith, lt)), λ reads. absurd (true≢false (sym reads ∙ none)));
    })

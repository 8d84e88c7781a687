-- Whole lines that are gone through from one stage to the next, and what is held behind them.
use Rattle.std.proofs.Common.{◌≡◌, ◌≤◌, ℕ, zero, suc, Result, Ok, Err, ◌+◌, ◌-◌, ◌==◌, nat_lt, List, [], ◌∷◌, ◌++◌, length, take, Some, None, Bool, true, false, cond, refl, sym, ap, subst, ◌∙◌, arith, append_assoc, length-append, inl, inr}
use Rattle.std.proofs.lemmas.Bool.{le-ltb, ltb-false, cases_lt}
use Rattle.std.proofs.lemmas.List.{append-nil, take-append-le, take_all, length-take}
use Rattle.std.proofs.lemmas.List.Elements.{All-append, All-take}
use Rattle.std.proofs.Math.Seq.{take-append-add}
use Rattle.cg_outcome.specs.declared.limits.TheConstants.{INPUT_BYTES, LINES, LINE_BYTES}
use Rattle.cg_base.specs.Text.{pieces_of}
use Rattle.cg_io.specs.Outside.{SinkView}
use Rattle.cg_items.specs.Items.{Item}
use Rattle.cg_outcome.specs.Outcome.{Ending, Ended, Failed, Open, limit_of, whole_line, at_end, last_piece, replayed}
use Rattle.cg_outcome.specs.Produced.{Progress, Produced, prepend, went_on, ended_with, and_then}
use Rattle.cg_items.specs.declared.report.Report.{Report}
use Rattle.cg_outcome.specs.Streaming.{Stage, from_stage, IsUnended, held_limit, IsStage, IsHeld, IsMade, Passes, EndsLine, GoesThrough, HoldsRest, TakesUp}
use Rattle.cg_outcome.specs.declared.status.Limit.{Limit}
use Rattle.cg_outcome.specs.declared.status.Limit.TheVariants as limit
use Rattle.cg_outcome.specs.declared.status.Status.{Status}
use Rattle.cg_outcome.specs.declared.status.Status.TheVariants as status
use Rattle.cg_outcome.specs.FeedLaws.{one_piece, line_first, line_before, first_unended, some_piece}
use Rattle.cg_outcome.specs.GoingOnLaws.{GoesOn-stop, Stopped-and_then, Shows-none, Shows-twice, and_then-none}
use Rattle.cg_outcome.specs.LineLaws.{replayed-more}
use Rattle.cg_outcome.specs.Stopping.{Stopped, GoesOn}

-- ---- limits

pub limit-none : (n len end : ℕ) → limit_of n len end ≡ None → (len ≤ LINE_BYTES) × (end ≤ INPUT_BYTES) × (n ≤ LINES)
limit-none n len end none = by_line (nat_lt LINE_BYTES len) refl none where
  by_lines : (t : Bool) → nat_lt LINES n ≡ t → cond t (Some limit.Lines) None ≡ None → n ≤ LINES
  by_lines true e none = absurd (cc)
  by_lines false e none = ltb-false LINES n e

  by_input : (t : Bool) → nat_lt INPUT_BYTES end ≡ t →
      cond t (Some limit.Input) (cond (nat_lt LINES n) (Some limit.Lines) None) ≡ None → (end ≤ INPUT_BYTES) × (n ≤ LINES)
  by_input true e none = absurd (cc)
  by_input false e none = (ltb-false INPUT_BYTES end e, by_lines (nat_lt LINES n) refl none)

  by_line : (t : Bool) → nat_lt LINE_BYTES len ≡ t
      → cond t (Some limit.Line) (cond (nat_lt INPUT_BYTES end) (Some limit.Input)
      (cond (nat_lt LINES n) (Some limit.Lines) None)) ≡ None
      → (len ≤ LINE_BYTES) × (end ≤ INPUT_BYTES) × (n ≤ LINES)
  by_line true e none = absurd (cc)
  by_line false e none = let more = by_input (nat_lt INPUT_BYTES end) refl none in (ltb-false LINE_BYTES len e, more.0, more.1)

pub none-limit : (n len end : ℕ) → len ≤ LINE_BYTES → end ≤ INPUT_BYTES → n ≤ LINES → limit_of n len end ≡ None
none-limit n len end short within few = rw (le-ltb LINE_BYTES len short, le-ltb INPUT_BYTES end within, le-ltb LINES n few) refl

none-held : (n at : ℕ) (held : List ℕ) → length held ≤ LINE_BYTES → at + length held ≤ INPUT_BYTES → n ≤ LINES →
    held_limit n at held ≡ None
none-held n at [] short within few = refl
none-held n at (b ∷ bs) short within few = none-limit n (length (b ∷ bs)) (at + length (b ∷ bs)) short within few

-- what is held passes no limit, and so no front of it does
pub held-within : (n at : ℕ) (held : List ℕ) → at ≤ INPUT_BYTES → held_limit n at held ≡ None →
    (length held ≤ LINE_BYTES) × (at + length held ≤ INPUT_BYTES)
held-within n at [] within none = (omega arith, omega arith)
held-within n at (b ∷ bs) within none = let found =
    limit-none n (length (b ∷ bs)) (at + length (b ∷ bs)) none in (found.0, found.1)

taken-short : (m : ℕ) (bytes : List ℕ) → length (take m bytes) ≤ length bytes
taken-short m bytes = omega (arith, length-take m bytes)

pub front-held : (n at : ℕ) (held : List ℕ) (m : ℕ) → held_limit n at held ≡ None → held_limit n at (take m held) ≡ None
front-held n at [] zero none = refl
front-held n at [] (suc m) none = refl
front-held n at (b ∷ bs) zero none = refl
front-held n at (b ∷ bs) (suc m) none =
    let found = limit-none n (length (b ∷ bs)) (at + length (b ∷ bs)) none in
    let short = taken-short m bs in
    none-limit n (length (b ∷ take m bs)) (at + length (b ∷ take m bs)) (omega (arith, found.0, short)) (omega (
      arith,
      found.1,
      short,
    )) found.2

-- ---- what is held behind the last line's end

last-open : (n at : ℕ) (held : List ℕ) (s : Progress) → held_limit n at held ≡ None →
    last_piece n at held Open s ≡ went_on s
last-open n at [] s none = refl
last-open n at (b ∷ bs) s none = rw none refl

-- the end of an input changes nothing of how far the run has come
pub at_end-stays : (n : ℕ) (s : Progress) → (at_end n Ended s).progress ≡ s
at_end-stays n s = by_end s.reader.ended where
  by_end : (b : Bool) → (cond b (ended_with status.Done n s) (ended_with (status.NoEnd n) n s)).progress ≡ s
  by_end true = refl
  by_end false = refl

pub last-empty : (n at : ℕ) (held : List ℕ) (s : Progress) → length held ≡ 0 →
    last_piece n at held Ended s ≡ at_end (n - 1) Ended s
last-empty n at [] s none = refl
last-empty n at (b ∷ bs) s none = absurd (omega arith)

pub last-failed : (n at : ℕ) (held : List ℕ) (s : Progress) → held_limit n at held ≡ None →
    last_piece n at held Failed s ≡ ended_with status.ReadFault (n - 1) s
last-failed n at [] s none = refl
last-failed n at (b ∷ bs) s none = rw none refl

pub last-passed : (n at : ℕ) (held : List ℕ) (how : Ending) (s : Progress) (what : Limit) →
    held_limit n at held ≡ Some what
    → last_piece n at held how s ≡ ended_with (status.Limit n what) n s
last-passed n at [] how s what some = absurd (cc)
last-passed n at (b ∷ bs) how s what some = rw some refl

pub from-held : (st : Stage) (held : List ℕ) (how : Ending) → IsUnended held →
    from_stage st held how ≡ last_piece st.line st.at held how st.progress
from-held st held how is = ap (λ ps. replayed st.line st.at ps how st.progress) (one_piece held is)

pub held-went_on : (st : Stage) (held : List ℕ) → IsUnended held → held_limit st.line st.at held ≡ None →
    from_stage st held Open ≡ went_on st.progress
held-went_on st held is none = from-held st held Open is ∙ last-open st.line st.at held st.progress none

-- ---- a line, and what is behind it

pub from-line : (st : Stage) (line more : List ℕ) (how : Ending) → IsUnended line
    → from_stage st (line ++ 10 ∷ more) how
    ≡ and_then (whole_line st.line st.at line st.progress)
    (replayed (st.line + 1) (st.at + length line + 1) (pieces_of 10 more) how)
from-line st line more how is =
    ap (λ ps. replayed st.line st.at ps how st.progress) (line_first line more is)
    ∙ replayed-more st.line st.at line (pieces_of 10 more) how st.progress (some_piece more)

-- ---- what was made

pub IsMade-went_on : (s : Progress) (made : List Item) → IsMade (went_on s) made
IsMade-went_on s made = record { none = refl; later = made; front = refl }

pub IsMade-longer : (p : Produced) (made more : List Item) → IsMade p made → IsMade p (made ++ more)
IsMade-longer p made more is =
    record {
      none = is.none;
      later = is.later ++ more;
      front = ap (λ (items : List Item). items ++ more) is.front ∙ append_assoc p.items is.later more;
    }

pub IsMade-prepend : (p : Produced) (made more : List Item) → IsMade p more → IsMade (prepend made p) (made ++ more)
IsMade-prepend p made more is =
    record {
      none = is.none;
      later = is.later;
      front = ap (λ (items : List Item). made ++ items) is.front
          ∙ sym (append_assoc made p.items is.later);
    }

prepend-twice : (made more : List Item) (p : Produced) → prepend made (prepend more p) ≡ prepend (made ++ more) p
prepend-twice made more p =
    ap (λ (items : List Item). record {
      items = items;
      found = p.found;
      progress = p.progress;
    }) (sym (append_assoc made more p.items))

-- ---- whole lines

abbrev no_bytes : List ℕ
no_bytes = []

none-taken : (m : ℕ) → take m no_bytes ≡ no_bytes
none-taken zero = refl
none-taken (suc m) = refl

pub Passes-none : (st : Stage) → Passes st [] [] st
Passes-none st = record {
  same = λ more how. refl;
  fronts = λ m le. subst (λ bytes. IsMade (from_stage st bytes Open) []) (sym (none-taken m))
      (IsMade-went_on st.progress []);
  placed = omega arith;
}

module _ (a b c : Stage) (gone gone' : List ℕ) (made made' : List Item) (first : Passes a gone made b)
    (next : Passes b gone' made' c) where
  twice-same : (more : List ℕ) (how : Ending) →
      from_stage a ((gone ++ gone') ++ more) how ≡ prepend (made ++ made') (from_stage c more how)
  twice-same more how =
      ap (λ bytes. from_stage a bytes how) (append_assoc gone gone' more) ∙ first.same (gone' ++ more) how
      ∙ ap (prepend made) (next.same more how)
      ∙ prepend-twice made made' (from_stage c more how)

  twice-fronts : (m : ℕ) → m ≤ length (gone ++ gone') →
      IsMade (from_stage a (take m (gone ++ gone')) Open) (made ++ made')
  twice-fronts m le = elim (cases_lt (length gone) m) [
    | inl behind ↦
        let k = m - length gone in
        let all = length-append gone gone' in
        let is : m ≡ length gone + k = omega (arith, behind) in
        let cut : take m (gone ++ gone') ≡ gone ++ take k gone' =
        ap (λ n. take n (gone ++ gone')) is ∙ take-append-add gone gone' k in
        let part : IsMade (from_stage b (take k gone') Open) made' = next.fronts k (omega (arith, le, all, behind)) in
        subst (λ p. IsMade p (made ++ made')) (sym (ap (λ bytes. from_stage a bytes Open) cut
        ∙ first.same (take k gone') Open))
        (IsMade-prepend (from_stage b (take k gone') Open) made made' part)
    | inr before ↦
        subst (λ bytes. IsMade (from_stage a bytes Open) (made ++ made')) (sym (take-append-le m gone gone' before))
        (IsMade-longer (from_stage a (take m gone) Open) made made' (first.fronts m before))
  ]

  pub Passes-twice : Passes a (gone ++ gone') (made ++ made') c
  Passes-twice = record {
    same = twice-same;
    fronts = twice-fronts;
    placed = omega (arith, first.placed, next.placed, length-append gone gone');
  }

-- a whole line in which nothing is found
module _ (report : Report) (st next : Stage) (line : List ℕ) (v v1 : SinkView) (held : List ℕ) (stands : IsStage st)
    (is : IsUnended line) (ends : EndsLine report st line v v1 held next) where
  abbrev line_bytes : List ℕ
  line_bytes = line ++ 10 ∷ []

  next-is : next ≡ record {
    line = st.line + 1;
    at = st.at + length line + 1;
    progress = (whole_line st.line st.at line st.progress).progress;
  }
  next-is = λ i. record { line = ends.counted i; at = ends.placed i; progress = ends.progress i }

  line-same : (more : List ℕ) (how : Ending) → from_stage st (line_bytes ++ more) how ≡
      prepend (whole_line st.line st.at line st.progress).items (from_stage next more how)
  line-same more how =
      let p = whole_line st.line st.at line st.progress in
      ap (λ bytes. from_stage st bytes how) (append_assoc line (10 ∷ []) more) ∙ from-line st line more how is
      ∙ and_then-none p (replayed (st.line + 1) (st.at + length line + 1) (pieces_of 10 more) how) ends.none
      ∙ ap (λ (s : Stage). prepend p.items (from_stage s more how)) (sym next-is)

  line-fronts : (m : ℕ) → m ≤ length line_bytes →
      IsMade (from_stage st (take m line_bytes) Open) (whole_line st.line st.at line st.progress).items
  line-fronts m le = elim (cases_lt (length line) m) [
    | inl behind ↦
        let p = whole_line st.line st.at line st.progress in
        let all : take m line_bytes ≡ line_bytes =
        take_all m line_bytes (omega (arith, behind, length-append line (10 ∷ []))) in
        let whole : from_stage st line_bytes Open ≡ prepend p.items (went_on next.progress) =
        ap (λ bytes. from_stage st bytes Open) (sym (append-nil line_bytes)) ∙ line-same [] Open in
        let made : IsMade (prepend p.items (went_on next.progress)) p.items =
        record { none = refl; later = []; front = sym (append-nil (p.items ++ []) ∙ append-nil p.items) } in
        subst (λ q. IsMade q p.items) (sym (ap (λ bytes. from_stage st bytes Open) all ∙ whole)) made
    | inr before ↦
        let p = whole_line st.line st.at line st.progress in
        let short = taken-short m line in
        let within = ends.stands.within in
        let none : held_limit st.line st.at (take m line) ≡ None =
        none-held st.line st.at (take m line) (omega (arith, short, ends.short)) (omega (
          arith,
          short,
          ends.placed,
          within,
        )) (omega (arith, ends.counted, ends.stands.few)) in
        let front : from_stage st (take m line) Open ≡ went_on st.progress =
        held-went_on st (take m line) (All-take (λ b. (b == 10) ≡ false) m line is) none in
        subst (λ q. IsMade q p.items)
        (sym (ap (λ bytes. from_stage st bytes Open) (take-append-le m line (10 ∷ []) before) ∙ front))
        (IsMade-went_on st.progress p.items)
  ]

  pub Passes-line : Passes st line_bytes (whole_line st.line st.at line st.progress).items next
  Passes-line = record {
    same = line-same;
    fronts = line-fronts;
    placed = omega (arith, ends.placed, length-append line (10 ∷ []));
  }

-- ---- lines of a chunk

pub GoesThrough-begin : (report : Report) (st : Stage) (bytes : List ℕ) (v : SinkView) → IsStage st →
    GoesThrough report st bytes v v bytes st
GoesThrough-begin report st bytes v stands =
    record { gone = []; made = []; whole = refl; passes = Passes-none st; stands = stands; put = Shows-none report v }

-- where a piece begins what is left, behind what is held
pub held-line : (held rest piece behind : List ℕ) → pieces_of 10 rest ≡ piece ∷ pieces_of 10 behind →
    held ++ rest ≡ (held ++ piece) ++ 10 ∷ behind
held-line held rest piece behind cut = ap (λ r. held ++ r) (line_before rest piece behind cut)
    ∙ sym (append_assoc held piece (10 ∷ behind))

pub held-unended : (held rest piece behind : List ℕ) → IsUnended held →
    pieces_of 10 rest ≡ piece ∷ pieces_of 10 behind → IsUnended (held ++ piece)
held-unended held rest piece behind is cut =
    All-append (λ b. (b == 10) ≡ false) held piece is (first_unended rest piece (pieces_of 10 behind) cut)

-- one line more was gone through
pub GoesThrough-line : (report : Report) (st cur next : Stage) (bytes held rest piece behind
    held' : List ℕ) (v v1 v2 : SinkView)
    → GoesThrough report st bytes v v1 (held ++ rest) cur → IsUnended held →
    pieces_of 10 rest ≡ piece ∷ pieces_of 10 behind → EndsLine report cur (held ++ piece) v1 v2 held' next
    → GoesThrough report st bytes v v2 (held' ++ behind) next
GoesThrough-line report st cur next bytes held rest piece behind held' v v1 v2 g is cut ends =
    let line = held ++ piece in
    let p = whole_line cur.line cur.at line cur.progress in
    let passes : Passes cur (line ++ 10 ∷ []) p.items next =
    Passes-line report cur next line v1 v2 held' g.stands (held-unended held rest piece behind is cut) ends in
    let left : held ++ rest ≡ (line ++ 10 ∷ []) ++ behind =
    held-line held rest piece behind cut ∙ sym (append_assoc line (10 ∷ []) behind) in
    record {
      gone = g.gone ++ (line ++ 10 ∷ []);
      made = g.made ++ p.items;
      whole =
          g.whole ∙ ap (λ r. g.gone ++ r) left ∙ sym (append_assoc g.gone (line ++ 10 ∷ []) behind)
          ∙ ap (λ h. (g.gone ++ (line ++ 10 ∷ [])) ++ (h ++ behind)) (sym ends.empty);
      passes = Passes-twice st cur next g.gone (line ++ 10 ∷ []) g.made p.items g.passes passes;
      stands = ends.stands;
      put = Shows-twice report v v1 v2 g.made p.items g.put ends.put;
    }

-- a line in which the run ends
pub line-stop : (report : Report) (cur : Stage) (held rest piece behind : List ℕ) (v v' : SinkView) (st : Status)
    → IsUnended held → pieces_of 10 rest ≡ piece ∷ pieces_of 10 behind →
    Stopped report (whole_line cur.line cur.at (held ++ piece) cur.progress) v v' st
    → Stopped report (from_stage cur (held ++ rest) Open) v v' st
line-stop report cur held rest piece behind v v' st is cut stopped =
    let line = held ++ piece in
    let p = whole_line cur.line cur.at line cur.progress in
    let more = replayed (cur.line + 1) (cur.at + length line + 1) (pieces_of 10 behind) Open in
    let whole : from_stage cur (held ++ rest) Open ≡ and_then p more =
    ap (λ bytes. from_stage cur bytes Open) (held-line held rest piece behind cut)
    ∙ from-line cur line behind Open (held-unended held rest piece behind is cut) in
    subst (λ q. Stopped report q v v' st) (sym whole) (Stopped-and_then report p more v v' st stopped)

-- the run ends in what is left
pub GoesThrough-stop : (report : Report) (old cur : Stage) (bytes left : List ℕ) (how : Ending) (v v1
    v2 : SinkView) (st : Status)
    → GoesThrough report old bytes v v1 left cur → Stopped report (from_stage cur left how) v1 v2 st →
    Stopped report (from_stage old bytes how) v v2 st
GoesThrough-stop report old cur bytes left how v v1 v2 st g stopped =
    let goes : GoesOn report (from_stage old bytes how) v v1 (from_stage cur left how) =
    record { made = g.made; put = g.put; same = ap (λ b. from_stage old b how) g.whole ∙ g.passes.same left how } in
    GoesOn-stop report (from_stage old bytes how) (from_stage cur left how) v v1 v2 st goes stopped

-- the rest of the chunk is held, or the run ends
pub take_up-ends : (report : Report) (old cur : Stage) (bytes left held : List ℕ) (v v1 v2 : SinkView)
    (r : Result Stage Status)
    → GoesThrough report old bytes v v1 left cur → HoldsRest report cur left v1 v2 held r →
    TakesUp report old bytes v v2 held r
take_up-ends report old cur bytes left held v v1 v2 (Ok next) g holds =
    let whole : GoesThrough report old bytes v v2 held next =
    subst (λ (st : Stage). GoesThrough report old bytes v v2 held st) (sym holds.0)
    (subst (λ w. GoesThrough report old bytes v w held cur) (sym holds.3)
    (subst (λ b. GoesThrough report old bytes v v1 b cur) (sym holds.1) g)) in
    (whole, subst (λ (st : Stage). IsHeld st held) (sym holds.0) holds.2)
take_up-ends report old cur bytes left held v v1 v2 (Err status) g stopped =
    GoesThrough-stop report old cur bytes left Open v v1 v2 status g stopped

-- Reports are told apart, up to silent entries at their ends.
use Rattle.std.proofs.Common.{◌≡◌, ℕ, suc, ◌+◌, ◌<◌, Bool, true, false, List, [], ◌∷◌, ◌++◌, codes, decimal, length, refl, sym, ap, ◌∙◌, append_assoc, true≢false, arith}
use Rattle.std.proofs.lemmas.Bool.{cond-true, cond-false}
use Rattle.cg_base.specs.Text.{is_nil}
use Rattle.cg_base.specs.Lists.{Each}
use Rattle.cg_report.specs.declared.entry.Entry.{Entry}
use Rattle.cg_report.specs.EntryText.{body_text, is_silent, entry_text}
use Rattle.cg_short.specs.Short.{IsShort, IsShortEntry}
use Rattle.cg_laws.specs.Told.{report_text, onto_trimmed, trimmed, ReportsTellTheirTranscripts}
use Rattle.cg_laws.proofs.Separating.{Separates, anything, one, after, before}
use Rattle.cg_laws.proofs.Numbers.{number}
use Rattle.cg_laws.proofs.Entries.{past, body, silent-is}

-- the line that begins an entry, with what stands behind it
abbrev headed : ℕ → List ℕ → List ℕ
headed n rest = (codes "= " ++ decimal n ++ codes "\n") ++ rest

head : Separates anything IsShort (λ n. codes "= " ++ decimal n ++ codes "\n") one
head = before (codes "\n") (λ u h. refl) (after (codes "= ") number)

-- what is put of an entry
put-silent : (n : ℕ) (e : Entry) (u : List ℕ) → is_silent e ≡ true → entry_text n e ++ u ≡ u
put-silent n e u silent = ap (λ t. t ++ u) (cond-true (is_silent e) [] (codes "= " ++ decimal n ++ codes "\n" ++ body_text e) silent)

put-headed : (n : ℕ) (e : Entry) (u : List ℕ) → is_silent e ≡ false → entry_text n e ++ u ≡ headed n (body_text e ++ u)
put-headed n e u speaks =
    ap (λ t. t ++ u) (cond-false (is_silent e) [] (codes "= " ++ decimal n ++ codes "\n" ++ body_text e) speaks) ∙ append_assoc (codes "= " ++ decimal n ++ codes "\n") (body_text e) u

-- ---- what a report begins with

-- nothing, or the line of a step behind the n-th
data Begun (n last : ℕ) (text : List ℕ) : Type 0 where
  empty : text ≡ [] → Begun n last text
  entry : (k : ℕ) (rest : List ℕ) → n < k → k < suc last → text ≡ headed k rest → Begun n last text

begun-later : (n last : ℕ) (text whole : List ℕ) → whole ≡ text → Begun (suc n) last text → Begun n last whole
begun-later n last text whole is (empty none) = empty (is ∙ none)
begun-later n last text whole is (entry k rest above below e) = entry k rest (omega arith) below (is ∙ e)

begun : (n last : ℕ) (es : List Entry) → n + length es ≡ last → Begun n last (report_text n es)
begun n last [] count = empty refl
begun n last (e ∷ es) count = by_silence (is_silent e) refl (begun (suc n) last es (omega arith))
  where
    by_silence : (b : Bool) → is_silent e ≡ b → Begun (suc n) last (report_text (suc n) es) → Begun n last (report_text n (e ∷ es))
    by_silence true silent rest = begun-later n last (report_text (suc n) es) (report_text n (e ∷ es)) (put-silent (suc n) e (report_text (suc n) es) silent) rest
    by_silence false speaks rest = entry (suc n) (body_text e ++ report_text (suc n) es) (omega arith) (omega arith) (put-headed (suc n) e (report_text (suc n) es) speaks)

-- no line of the entry before comes next
begun-past : (n last : ℕ) (text : List ℕ) → Begun n last text → past 5 text ≡ true
begun-past n last text (empty none) = ap (past 5) none
begun-past n last text (entry k rest above below e) = ap (past 5) e

-- ---- a report of nothing

silent-first : (e : Entry) (es : List Entry) → is_silent e ≡ true → trimmed es ≡ [] → trimmed (e ∷ es) ≡ []
silent-first e es silent none = ap (onto_trimmed e) none ∙ cond-true (is_silent e) [] (e ∷ []) silent

nothing-told : (n : ℕ) (es : List Entry) → report_text n es ≡ [] → trimmed es ≡ []
nothing-told n [] none = refl
nothing-told n (e ∷ es) none = by_silence (is_silent e) refl (λ told. nothing-told (suc n) es told)
  where
    by_silence : (b : Bool) → is_silent e ≡ b → (report_text (suc n) es ≡ [] → trimmed es ≡ []) → trimmed (e ∷ es) ≡ []
    by_silence true silent rest = silent-first e es silent (rest (sym (put-silent (suc n) e (report_text (suc n) es) silent) ∙ none))
    by_silence false speaks rest = absurd (true≢false (ap is_nil (sym none ∙ put-headed (suc n) e (report_text (suc n) es) speaks)))

-- ---- two reports

-- a report behind a step doesn't begin with that step
begun-other : {A : Type 0} (n last : ℕ) (text rest : List ℕ) → Begun n last text → IsShort n → IsShort last → text ≡ headed n rest → A
begun-other n last text rest (empty none) one few e = absurd (true≢false (ap is_nil (sym none ∙ e)))
begun-other n last text rest (entry k behind above below is) one few e =
    let same : k ≡ n = (head.apart k n behind rest (omega arith) one refl refl (sym is ∙ e)).0 in
    absurd (omega arith)

-- Both entries are silent, or both are told and one; then so are the rests.
reports-apart : (n last end : ℕ) (es fs : List Entry) → n + length es ≡ last → n + length fs ≡ end → IsShort last → IsShort end → Each IsShortEntry es → Each IsShortEntry fs → report_text n es ≡ report_text n fs
    → trimmed es ≡ trimmed fs
reports-apart n last end [] fs count tally few short hes hfs told = sym (nothing-told n fs (sym told))
reports-apart n last end (e ∷ es) [] count tally few short hes hfs told = nothing-told n (e ∷ es) told
reports-apart n last end (e ∷ es) (f ∷ fs) count tally few short hes hfs told =
    by_silence (is_silent e) (is_silent f) refl refl (λ rest. reports-apart (suc n) last end es fs (omega arith) (omega arith) few short hes.1 hfs.1 rest)
  where
    next : IsShort (suc n)
    next = omega arith

    by_silence : (b c : Bool) → is_silent e ≡ b → is_silent f ≡ c → (report_text (suc n) es ≡ report_text (suc n) fs → trimmed es ≡ trimmed fs) → trimmed (e ∷ es) ≡ trimmed (f ∷ fs)
    by_silence true true silent quiet rest =
        let same : e ≡ f = silent-is e silent ∙ sym (silent-is f quiet) in
        let others = rest (sym (put-silent (suc n) e (report_text (suc n) es) silent) ∙ told ∙ put-silent (suc n) f (report_text (suc n) fs) quiet) in
        λ i. onto_trimmed (same i) (others i)
    by_silence true false silent speaks rest =
        begun-other (suc n) last (report_text (suc n) es) (body_text f ++ report_text (suc n) fs) (begun (suc n) last es (omega arith)) next few
        (sym (put-silent (suc n) e (report_text (suc n) es) silent) ∙ told ∙ put-headed (suc n) f (report_text (suc n) fs) speaks)
    by_silence false true speaks quiet rest =
        begun-other (suc n) end (report_text (suc n) fs) (body_text e ++ report_text (suc n) es) (begun (suc n) end fs (omega arith)) next short
        (sym (put-silent (suc n) f (report_text (suc n) fs) quiet) ∙ sym told ∙ put-headed (suc n) e (report_text (suc n) es) speaks)
    by_silence false false speaks tells rest =
        let behind = head.apart (suc n) (suc n) (body_text e ++ report_text (suc n) es) (body_text f ++ report_text (suc n) fs) next next refl refl
        (sym (put-headed (suc n) e (report_text (suc n) es) speaks) ∙ told ∙ put-headed (suc n) f (report_text (suc n) fs) tells) in
        let bodies = body.apart e f (report_text (suc n) es) (report_text (suc n) fs) hes.0 hfs.0
        (begun-past (suc n) last (report_text (suc n) es) (begun (suc n) last es (omega arith)))
        (begun-past (suc n) end (report_text (suc n) fs) (begun (suc n) end fs (omega arith)))
        behind.1 in
        let others = rest bodies.1 in
        λ i. onto_trimmed (bodies.0 i) (others i)

pub reports-tell : ReportsTellTheirTranscripts
reports-tell es fs hes hfs told = reports-apart 0 (length es) (length fs) es fs (omega arith) (omega arith) hes.few hfs.few hes.each hfs.each told

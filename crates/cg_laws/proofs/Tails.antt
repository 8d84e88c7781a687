-- The last line of a text is told apart from what stands before it, where that is whole lines.
use Rattle.std.proofs.Common.{◌≡◌, ◌⊎◌, ℕ, suc, ◌+◌, ◌<◌, ◌==◌, Bool, true, false, List, [], ◌∷◌, ◌++◌, codes, decimal, flat_map, refl, sym, ap, ◌∙◌, append_assoc, true≢false, inl, inr, ⊎_elim, arith}
use Rattle.std.proofs.lemmas.Bool.{cond_both}
use Rattle.std.proofs.lemmas.List.{append-nil}
use Rattle.cg_base.specs.Text.{is_nil}
use Rattle.cg_base.specs.Lists.{Each}
use Rattle.cg_report.specs.declared.entry.Entry.{Entry}
use Rattle.cg_report.specs.EntryText.{made_text, made_line, order_text, order_line, ended_line, reply_text, reply_line, shown_text, shown_line, body_text, is_silent, entry_text}
use Rattle.cg_report.specs.LineText.{line_text}
use Rattle.cg_laws.specs.Told.{report_text, IsTail, ReportsTellTheirTranscripts, WholeReportsTellTheirTranscripts}

-- ---- whole lines

-- nothing, or lines of which the last has its end
abbrev AreLines : List ℕ → Type 0
AreLines xs = (xs ≡ []) ⊎ ((ys : List ℕ) × (xs ≡ ys ++ 10 ∷ []))

lines-append : (xs ys : List ℕ) → AreLines xs → AreLines ys → AreLines (xs ++ ys)
lines-append xs ys are there = ⊎_elim
    (λ (none : ys ≡ []). ⊎_elim
    (λ (empty : xs ≡ []). inl (ap (λ t. xs ++ t) none ∙ append-nil xs ∙ empty))
    (λ (ended : (zs : List ℕ) × (xs ≡ zs ++ 10 ∷ [])). inr (ended.0, ap (λ t. xs ++ t) none ∙ append-nil xs ∙ ended.1))
    are)
    (λ (ended : (zs : List ℕ) × (ys ≡ zs ++ 10 ∷ [])). inr (xs ++ ended.0, ap (λ t. xs ++ t) ended.1 ∙ sym (append_assoc xs ended.0 (10 ∷ []))))
    there

lines-each : {A : Type 0} (text : A → List ℕ) (xs : List A) → AreLines (flat_map (λ x. text x ++ codes "\n") xs)
lines-each text [] = inl refl
lines-each text (x ∷ xs) = lines-append (text x ++ codes "\n") (flat_map (λ x. text x ++ codes "\n") xs) (inr (text x, refl)) (lines-each text xs)

body-lines : (e : Entry) → AreLines (body_text e)
body-lines e =
    let made = flat_map made_line e.made in
    let orders = flat_map order_line e.orders in
    let lines = flat_map ended_line e.lines in
    let replies = flat_map reply_line e.replies in
    let shown = flat_map shown_line e.shown in
    lines-append (made ++ orders ++ lines ++ replies) shown
    (lines-append (made ++ orders ++ lines) replies
    (lines-append (made ++ orders) lines
    (lines-append made orders (lines-each made_text e.made) (lines-each order_text e.orders))
    (lines-each line_text e.lines))
    (lines-each reply_text e.replies))
    (lines-each shown_text e.shown)

entry-lines : (n : ℕ) (e : Entry) → AreLines (entry_text n e)
entry-lines n e =
    let head = codes "= " ++ decimal n ++ codes "\n" in
    cond_both (is_silent e) [] (head ++ body_text e) AreLines (λ y. inl refl) (λ y. lines-append head (body_text e) (inr (codes "= " ++ decimal n, refl)) (body-lines e))

report-lines : (n : ℕ) (es : List Entry) → AreLines (report_text n es)
report-lines n [] = inl refl
report-lines n (e ∷ es) = lines-append (entry_text (suc n) e) (report_text (suc n) es) (entry-lines (suc n) e) (report-lines (suc n) es)

-- ---- how many lines end in a text

abbrev one_more : Bool → ℕ → ℕ
one_more true n = suc n
one_more false n = n

abbrev ends_in : List ℕ → ℕ
ends_in [] = 0
ends_in (x ∷ xs) = one_more (x == 10) (ends_in xs)

one_more-add : (b : Bool) (m n : ℕ) → one_more b (m + n) ≡ one_more b m + n
one_more-add true m n = omega arith
one_more-add false m n = refl

ends-append : (xs ys : List ℕ) → ends_in (xs ++ ys) ≡ ends_in xs + ends_in ys
ends-append [] ys = omega arith
ends-append (x ∷ xs) ys = ap (one_more (x == 10)) (ends-append xs ys) ∙ one_more-add (x == 10) (ends_in xs) (ends_in ys)

ends-none : (xs : List ℕ) → Each (λ x. (x == 10) ≡ false) xs → ends_in xs ≡ 0
ends-none [] are = refl
ends-none (x ∷ xs) are = ap (λ b. one_more b (ends_in xs)) are.0 ∙ ends-none xs are.1

tail-ends : (tail : List ℕ) → IsTail tail → ends_in tail ≡ 1
tail-ends tail is =
    let whole : ends_in tail ≡ ends_in is.line + ends_in (10 ∷ []) = ap ends_in is.whole ∙ ends-append is.line (10 ∷ []) in
    omega (arith, whole, ends-none is.line is.alone)

some-end : (x : ℕ) (xs : List ℕ) → AreLines (x ∷ xs) → 0 < ends_in (x ∷ xs)
some-end x xs are = ⊎_elim
    (λ (none : x ∷ xs ≡ []). absurd (true≢false (sym (ap is_nil none))))
    (λ (ended : (ys : List ℕ) × (x ∷ xs ≡ ys ++ 10 ∷ [])).
    (let all : ends_in (x ∷ xs) ≡ ends_in ended.0 + ends_in (10 ∷ []) = ap ends_in ended.1 ∙ ends-append ended.0 (10 ∷ []) in omega (arith, all)))
    are

lines-rest : (x : ℕ) (xs : List ℕ) → AreLines (x ∷ xs) → AreLines xs
lines-rest x xs are = ⊎_elim
    (λ (none : x ∷ xs ≡ []). absurd (true≢false (sym (ap is_nil none))))
    (λ (ended : (ys : List ℕ) × (x ∷ xs ≡ ys ++ 10 ∷ [])). rest ended.0 ended.1)
    are
  where
    rest : (ys : List ℕ) → x ∷ xs ≡ ys ++ 10 ∷ [] → AreLines xs
    rest [] is = inl cc
    rest (y ∷ ys) is = inr (ys, cc)

-- ---- the last line

-- nothing doesn't stand where lines do
too-many : {A : Type 0} (x : ℕ) (xs tail end : List ℕ) → AreLines (x ∷ xs) → IsTail tail → IsTail end → (x ∷ xs) ++ tail ≡ end → A
too-many x xs tail end are is ends e =
    let all : ends_in (x ∷ xs) + ends_in tail ≡ ends_in end = sym (ends-append (x ∷ xs) tail) ∙ ap ends_in e in
    absurd (omega (arith, all, some-end x xs are, tail-ends tail is, tail-ends end ends))

tail-apart : (xs ys tail end : List ℕ) → AreLines xs → AreLines ys → IsTail tail → IsTail end → xs ++ tail ≡ ys ++ end → (xs ≡ ys) × (tail ≡ end)
tail-apart [] [] tail end are there is ends e = (refl, e)
tail-apart [] (y ∷ ys) tail end are there is ends e = too-many y ys end tail there ends is (sym e)
tail-apart (x ∷ xs) [] tail end are there is ends e = too-many x xs tail end are is ends e
tail-apart (x ∷ xs) (y ∷ ys) tail end are there is ends e =
    let first : x ≡ y = cc in
    let behind : xs ++ tail ≡ ys ++ end = cc in
    let rest = tail-apart xs ys tail end (lines-rest x xs are) (lines-rest y ys there) is ends behind in
    ((λ i. first i ∷ rest.0 i), rest.1)

pub whole-reports-tell : ReportsTellTheirTranscripts → WholeReportsTellTheirTranscripts
whole-reports-tell tells es fs tail end hes hfs is ends told =
    let apart = tail-apart (report_text 0 es) (report_text 0 fs) tail end (report-lines 0 es) (report-lines 0 fs) is ends told in
    (tells es fs hes hfs apart.0, apart.1)

-- JSON reports are told apart: their objects are, and with these the lines of the report's text.
use Rattle.std.proofs.Common.{◌≡◌, ℕ, suc, ◌+◌, ◌<◌, ◌^◌, ◌==◌, Bool, true, false, List, [], ◌∷◌, ◌++◌, codes, decimal, flat_map, map, length, refl, sym, ap, ap₂, ◌∙◌, append_assoc, true≢false, unwrap_or, arith}
use Rattle.std.specs.Prelude.{if◌then◌else◌}
use Rattle.std.proofs.lemmas.Bool.{cond-true, cond-false, eqb-true}
use Rattle.std.proofs.lemmas.Grind.{flat_map-append}
use Rattle.std.proofs.lemmas.List.{append-nil, append_cancel_left}
use Rattle.json.specs.Print.{escape_byte, escape, quoted}
use Rattle.json.specs.Text.{content, plain}
use Rattle.json.proofs.Printed.Strings.{content-escape}
use Rattle.serde_json.specs.Data.{string}
use Rattle.serde_json.specs.View.{items_of}
use Rattle.serde_json.specs.Written.{comma_if, items_text}
use Rattle.cg_base.specs.Text.{is_nil}
use Rattle.cg_base.specs.Lists.{Each}
use Rattle.cg_report.specs.declared.entry.Entry.{Entry}
use Rattle.cg_report.specs.EntryText.{is_silent, entry_text, body_text}
use Rattle.cg_json.specs.JsonText.{lines_of, step_object, object_line, entry_json, tail_json}
use Rattle.cg_json.specs.JsonTold.{with_end}
use Rattle.cg_json.specs.JsonLaws.{has_its_lines}
use Rattle.cg_short.specs.Short.{IsShort}
use Rattle.cg_laws.specs.Told.{report_text, IsTranscript, trimmed}
use Rattle.cg_laws.specs.ToldJson.{report_json, JsonReportsTellTheirTranscripts, WholeJsonReportsTellTheirTranscripts}
use Rattle.cg_laws.proofs.Separating.{Separates, one, same_first, other_first, listed}
use Rattle.cg_laws.proofs.Numbers.{number}
use Rattle.cg_laws.proofs.Reports.{reports-tell}

-- ---- texts and lists of texts

text-apart : (s t u v : List ℕ) → escape s ++ 34 ∷ u ≡ escape t ++ 34 ∷ v → (s ≡ t) × (u ≡ v)
text-apart s t u v e =
    let same : s ≡ t = ap (λ o. unwrap_or o []) (sym (content-escape s u) ∙ ap (content plain) e ∙ content-escape t v) in
    (same, (same_first {A = ℕ} (append_cancel_left (escape t) (34 ∷ u) (34 ∷ v) (ap (λ x. escape x ++ 34 ∷ u) (sym same) ∙ e))).1)

quote-apart : (s t u v : List ℕ) → quoted s ++ u ≡ quoted t ++ v → (s ≡ t) × (u ≡ v)
quote-apart s t u v e = text-apart s t u v (sym (append_assoc (escape s) (34 ∷ []) u) ∙ (same_first {A = ℕ} e).1 ∙ append_assoc (escape t) (34 ∷ []) v)

-- the items of a list of texts, with the bracket that closes it
abbrev texts : Bool → List (List ℕ) → List ℕ
texts later xs = items_text later (items_of (map string xs))

-- no item begins with that bracket
other-item : {A : Type 0} (later : Bool) (y rest u v : List ℕ) → 93 ∷ u ≡ (comma_if later ++ (quoted y ++ rest)) ++ v → A
other-item true y rest u v e = other_first refl e
other-item false y rest u v e = other_first refl e

texts-apart : (later : Bool) (xs ys : List (List ℕ)) (u v : List ℕ) → texts later xs ++ u ≡ texts later ys ++ v → (xs ≡ ys) × (u ≡ v)
texts-apart later [] [] u v e = (refl, (same_first {A = ℕ} e).1)
texts-apart later [] (y ∷ ys) u v e = other-item later y (texts true ys) u v e
texts-apart later (x ∷ xs) [] u v e = other-item later x (texts true xs) v u (sym e)
texts-apart later (x ∷ xs) (y ∷ ys) u v e =
    let comma = comma_if later in
    let items : (quoted x ++ texts true xs) ++ u ≡ (quoted y ++ texts true ys) ++ v =
    append_cancel_left comma ((quoted x ++ texts true xs) ++ u) ((quoted y ++ texts true ys) ++ v)
    (sym (append_assoc comma (quoted x ++ texts true xs) u) ∙ e ∙ append_assoc comma (quoted y ++ texts true ys) v) in
    let first = quote-apart x y (texts true xs ++ u) (texts true ys ++ v) (sym (append_assoc (quoted x) (texts true xs) u) ∙ items ∙ append_assoc (quoted y) (texts true ys) v) in
    let rest = texts-apart true xs ys u v first.1 in
    ((λ i. first.0 i ∷ rest.0 i), rest.1)

-- ---- objects

-- a step's number, and its lines
abbrev Shows : Type 0
Shows = ℕ × List (List ℕ)

abbrev has_short_number : Shows → Type 0
has_short_number p = IsShort p.0

abbrev object_of : Shows → List ℕ
object_of p = object_line (step_object p.0 p.1)

-- what stands before the lines, and before the number
abbrev front : List ℕ
front = 123 ∷ (quoted (codes "lines") ++ 58 ∷ 91 ∷ [])

abbrev middle : List ℕ
middle = 44 ∷ (quoted (codes "step") ++ 58 ∷ [])

regrouped : (name lines other digits u : List ℕ)
    → ((123 ∷ (name ++ 58 ∷ ((91 ∷ lines) ++ 44 ∷ (other ++ 58 ∷ (digits ++ 125 ∷ []))))) ++ 10 ∷ []) ++ u
    ≡ (123 ∷ (name ++ 58 ∷ 91 ∷ [])) ++ (lines ++ ((44 ∷ (other ++ 58 ∷ [])) ++ (digits ++ 125 ∷ 10 ∷ u)))
regrouped name lines other digits u =
    let end = 10 ∷ u in
    let step = other ++ 58 ∷ (digits ++ 125 ∷ []) in
    let rest = lines ++ ((44 ∷ (other ++ 58 ∷ [])) ++ (digits ++ 125 ∷ end)) in
    let number : step ++ end ≡ (other ++ 58 ∷ []) ++ (digits ++ 125 ∷ end) =
    append_assoc other (58 ∷ (digits ++ 125 ∷ [])) end ∙ ap (λ t. other ++ 58 ∷ t) (append_assoc digits (125 ∷ []) end) ∙ sym (append_assoc other (58 ∷ []) (digits ++ 125 ∷ end)) in
    let items : (lines ++ 44 ∷ step) ++ end ≡ rest = append_assoc lines (44 ∷ step) end ∙ ap (λ t. lines ++ 44 ∷ t) number in
    append_assoc (123 ∷ (name ++ 58 ∷ 91 ∷ (lines ++ 44 ∷ step))) (10 ∷ []) u
    ∙ ap (λ t. 123 ∷ t) (append_assoc name (58 ∷ 91 ∷ (lines ++ 44 ∷ step)) end ∙ ap (λ t. name ++ 58 ∷ 91 ∷ t) items ∙ sym (append_assoc name (58 ∷ 91 ∷ []) rest))

written : (p : Shows) (u : List ℕ) → object_of p ++ u ≡ front ++ (texts false p.1 ++ (middle ++ (decimal p.0 ++ 125 ∷ 10 ∷ u)))
written p u = regrouped (quoted (codes "lines")) (texts false p.1) (quoted (codes "step")) (decimal p.0) u

objects-apart : (p q : Shows) (u v : List ℕ) → IsShort p.0 → IsShort q.0 → object_of p ++ u ≡ object_of q ++ v → (p ≡ q) × (u ≡ v)
objects-apart p q u v hp hq e =
    let lines = texts-apart false p.1 q.1 (middle ++ (decimal p.0 ++ 125 ∷ 10 ∷ u)) (middle ++ (decimal q.0 ++ 125 ∷ 10 ∷ v))
    (append_cancel_left front (texts false p.1 ++ (middle ++ (decimal p.0 ++ 125 ∷ 10 ∷ u))) (texts false q.1 ++ (middle ++ (decimal q.0 ++ 125 ∷ 10 ∷ v))) (sym (written p u) ∙ e ∙ written q v)) in
    let numbers = number.apart p.0 q.0 (125 ∷ 10 ∷ u) (125 ∷ 10 ∷ v) hp hq refl refl (append_cancel_left middle (decimal p.0 ++ 125 ∷ 10 ∷ u) (decimal q.0 ++ 125 ∷ 10 ∷ v) lines.1) in
    ((λ i. (numbers.0 i, lines.0 i)), (same_first {A = ℕ} (same_first {A = ℕ} numbers.1).1).1)

-- the first byte of the first member's name, by which the objects of steps and of tails differ
abbrev third : List ℕ → ℕ
third (a ∷ b ∷ c ∷ rest) = c
third other = 0

abbrev names : ℕ → List ℕ → Bool
names letter u = third u == letter

object-named : (p : Shows) (u : List ℕ) → names 108 (object_of p ++ u) ≡ true
unfolding escape_byte
object-named p u = refl

objects : (may_end : List ℕ → Bool) → ((u : List ℕ) → may_end u ≡ true → names 108 u ≡ false) → Separates may_end (Each has_short_number) (flat_map object_of) one
objects may_end other = listed {f = object_of} (record {
  starts = names 108;
  item_begins = λ p u h. object-named p u;
  end_begins = other;
  item_follows = λ p u h. refl;
  end_follows = λ u ends. refl;
}) (record { apart = λ p q u v hp hq eu ev e. objects-apart p q u v hp hq e })

-- ---- tails

tail-named : (tail : List ℕ) → names 116 (tail_json tail) ≡ true
unfolding escape_byte
tail-named tail = refl

tail-other : (u : List ℕ) → names 116 u ≡ true → names 108 u ≡ false
tail-other u is = ap (λ n. n == 108) (eqb-true (third u) 116 is)

nothing-other : (u : List ℕ) → is_nil u ≡ true → names 108 u ≡ false
nothing-other [] none = refl
nothing-other (x ∷ u) none = absurd (true≢false (sym none))

tail-regrouped : (name text : List ℕ) → (123 ∷ (name ++ 58 ∷ (text ++ 125 ∷ []))) ++ 10 ∷ [] ≡ (123 ∷ (name ++ 58 ∷ [])) ++ (text ++ 125 ∷ 10 ∷ [])
tail-regrouped name text =
    ap (λ t. 123 ∷ t) (append_assoc name (58 ∷ (text ++ 125 ∷ [])) (10 ∷ []) ∙ ap (λ t. name ++ 58 ∷ t) (append_assoc text (125 ∷ []) (10 ∷ [])) ∙ sym (append_assoc name (58 ∷ []) (text ++ 125 ∷ 10 ∷ [])))

tails-apart : (tail end : List ℕ) → tail_json tail ≡ tail_json end → tail ≡ end
tails-apart tail end e =
    let name = quoted (codes "tail") in
    (quote-apart tail end (125 ∷ 10 ∷ []) (125 ∷ 10 ∷ [])
    (append_cancel_left (123 ∷ (name ++ 58 ∷ [])) (quoted tail ++ 125 ∷ 10 ∷ []) (quoted end ++ 125 ∷ 10 ∷ []) (sym (tail-regrouped name (quoted tail)) ∙ e ∙ tail-regrouped name (quoted end)))).0

-- ---- what a report tells

-- of each step that shows anything
abbrev shown_of : ℕ → Entry → List Shows
shown_of n e = if is_silent e then [] else (n, lines_of e) ∷ []

abbrev told : ℕ → List Entry → List Shows
told n [] = []
told n (e ∷ es) = shown_of (suc n) e ++ told (suc n) es

-- the part of a report's text
abbrev text_of : Shows → List ℕ
text_of p = flat_map with_end ((codes "= " ++ decimal p.0) ∷ p.1)

either : (f : Shows → List ℕ) (silent : Bool) (p : Shows) → (if silent then [] else f p) ≡ flat_map f (if silent then [] else p ∷ [])
either f true p = refl
either f false p = sym (append-nil (f p))

-- a report is put together from what it tells
from-told : (f : Shows → List ℕ) (put : ℕ → Entry → List ℕ) (report : ℕ → List Entry → List ℕ)
    → ((n : ℕ) (e : Entry) → put n e ≡ (if is_silent e then [] else f (n, lines_of e)))
    → ((n : ℕ) → report n [] ≡ []) → ((n : ℕ) (e : Entry) (es : List Entry) → report n (e ∷ es) ≡ put (suc n) e ++ report (suc n) es)
    → (n : ℕ) (es : List Entry) → report n es ≡ flat_map f (told n es)
from-told f put report puts none more n [] = none n
from-told f put report puts none more n (e ∷ es) =
    more n e es
    ∙ ap₂ (λ a b. a ++ b) (puts (suc n) e ∙ either f (is_silent e) (suc n, lines_of e)) (from-told f put report puts none more (suc n) es)
    ∙ sym (flat_map-append f (shown_of (suc n) e) (told (suc n) es))

json-told : (n : ℕ) (es : List Entry) → report_json n es ≡ flat_map object_of (told n es)
json-told = from-told object_of entry_json report_json (λ n e. refl) (λ n. refl) (λ n e es. refl)

text-put : (n : ℕ) (e : Entry) → entry_text n e ≡ (if is_silent e then [] else text_of (n, lines_of e))
text-put n e = by_silence (is_silent e) refl
  where
    by_silence : (b : Bool) → is_silent e ≡ b → entry_text n e ≡ (if is_silent e then [] else text_of (n, lines_of e))
    by_silence true silent =
        cond-true (is_silent e) [] (codes "= " ++ decimal n ++ codes "\n" ++ body_text e) silent ∙ sym (cond-true (is_silent e) [] (text_of (n, lines_of e)) silent)
    by_silence false speaks = has_its_lines n e speaks ∙ sym (cond-false (is_silent e) [] (text_of (n, lines_of e)) speaks)

text-told : (n : ℕ) (es : List Entry) → report_text n es ≡ flat_map text_of (told n es)
text-told = from-told text_of entry_text report_text text-put (λ n. refl) (λ n e es. refl)

numbers-short : (n : ℕ) (es : List Entry) → n + length es < 10 ^ 64 → Each has_short_number (told n es)
numbers-short n [] few = tt
numbers-short n (e ∷ es) few = next (is_silent e) (numbers-short (suc n) es (omega arith))
  where
    next : (silent : Bool) → Each has_short_number (told (suc n) es) → Each has_short_number ((if silent then [] else (suc n, lines_of e) ∷ []) ++ told (suc n) es)
    next true rest = rest
    next false rest = (omega arith, rest)

-- two reports with one text, and what may follow each
reports-told : (may_end : List ℕ → Bool) → ((u : List ℕ) → may_end u ≡ true → names 108 u ≡ false) → (es fs : List Entry) (u v : List ℕ) → IsTranscript es → IsTranscript fs
    → may_end u ≡ true → may_end v ≡ true → report_json 0 es ++ u ≡ report_json 0 fs ++ v → (trimmed es ≡ trimmed fs) × (u ≡ v)
reports-told may_end other es fs u v hes hfs eu ev e =
    let apart = objects may_end other in
    let all : flat_map object_of (told 0 es) ++ u ≡ flat_map object_of (told 0 fs) ++ v = ap (λ t. t ++ u) (sym (json-told 0 es)) ∙ e ∙ ap (λ t. t ++ v) (json-told 0 fs) in
    let same = apart.apart (told 0 es) (told 0 fs) u v (numbers-short 0 es (omega (arith, hes.few))) (numbers-short 0 fs (omega (arith, hfs.few))) eu ev all in
    (reports-tell es fs hes hfs (text-told 0 es ∙ ap (flat_map text_of) same.0 ∙ sym (text-told 0 fs)), same.1)

pub json-reports-tell : JsonReportsTellTheirTranscripts
json-reports-tell es fs hes hfs e =
    (reports-told is_nil nothing-other es fs [] [] hes hfs refl refl (append-nil (report_json 0 es) ∙ e ∙ sym (append-nil (report_json 0 fs)))).0

pub whole-json-reports-tell : WholeJsonReportsTellTheirTranscripts
whole-json-reports-tell es fs tail end hes hfs e =
    let same = reports-told (names 116) tail-other es fs (tail_json tail) (tail_json end) hes hfs (tail-named tail) (tail-named end) e in
    (same.0, tails-apart tail end same.1)

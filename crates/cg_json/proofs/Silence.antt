-- A step shows nothing exactly where it has no lines.
use Rattle.std.proofs.Common.{◌≡◌, ◌==◌, ℕ, suc, Bool, true, false, ◌&&◌, List, [], ◌∷◌, ◌++◌, map, length, refl, sym, ap, ap₂, ◌∙◌, arith}
use Rattle.std.proofs.lemmas.Bool.{cond-true, cond-false, ne_eqb}
use Rattle.std.proofs.lemmas.List.{append-nil, length-map}
use Rattle.serde_json.specs.Data.{string}
use Rattle.serde_json.specs.View.{view}
use Rattle.serde_json.specs.declared.value.Value.{Value}
use Rattle.cg_report.specs.declared.entry.Entry.{Entry}
use Rattle.cg_report.specs.LineText.{line_text}
use Rattle.cg_report.specs.EntryText.{made_text, order_text, reply_text, shown_text, is_silent}
use Rattle.cg_json.specs.JsonText.{lines_of, step_object, object_line, entry_json}

mapped : {X Y : Type 0} (f : X → Y) (xs : List X) → (length (map f xs) == 0) ≡ (length xs == 0)
mapped f xs = ap (λ n. n == 0) (length-map xs f)

never : (n : ℕ) → (suc n == 0) ≡ false
never n = ne_eqb (suc n) 0 (λ e. omega arith)

both_empty : {X : Type 0} (xs ys : List X) → (length (xs ++ ys) == 0) ≡ ((length xs == 0) && (length ys == 0))
both_empty [] ys = refl
both_empty (x ∷ xs) ys = never (length (xs ++ ys)) ∙ ap (λ b. b && (length ys == 0)) (sym (never (length xs)))

-- the lines of the parts before one, and its own
part : {X : Type 0} (f : X → List ℕ) (xs : List X) (lines : List (List ℕ)) (none : Bool) → (length lines == 0) ≡ none
    → (length (lines ++ map f xs) == 0) ≡ (none && (length xs == 0))
part f xs lines none e = both_empty lines (map f xs) ∙ ap₂ (λ a b. a && b) e (mapped f xs)

no_lines : (e : Entry) → (length (lines_of e) == 0) ≡ is_silent e
no_lines e = part shown_text e.shown _ _ (part reply_text e.replies _ _ (part line_text e.lines _ _ (part order_text e.orders _ _ (mapped made_text e.made))))

none_pushed : (e : Entry) (items : List Value) → map view items ≡ map string (lines_of e) → (length items == 0) ≡ is_silent e
none_pushed e items are = sym (mapped view items) ∙ ap (λ ds. length ds == 0) are ∙ mapped string (lines_of e) ∙ no_lines e

pub nothing_put : (step : ℕ) (e : Entry) (items : List Value) (out : List ℕ) → map view items ≡ map string (lines_of e) → (length items == 0) ≡ true → out ≡ out ++ entry_json step e
nothing_put step e items out are none =
    let silent : is_silent e ≡ true = sym (none_pushed e items are) ∙ none in
    sym (append-nil out) ∙ ap (λ text. out ++ text) (sym (cond-true (is_silent e) [] (object_line (step_object step (lines_of e))) silent))

pub object_put : (step : ℕ) (e : Entry) (items : List Value) → map view items ≡ map string (lines_of e) → (length items == 0) ≡ false → object_line (step_object step (lines_of e)) ≡ entry_json step e
object_put step e items are some =
    let loud : is_silent e ≡ false = sym (none_pushed e items are) ∙ some in
    sym (cond-false (is_silent e) [] (object_line (step_object step (lines_of e))) loud)

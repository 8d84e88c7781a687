-- The lines of a step's object are those of its text.
use Rattle.std.proofs.Common.{◌≡◌, ℕ, List, [], ◌∷◌, ◌++◌, map, codes, decimal, refl, sym, ap, ap₂, ◌∙◌}
use Rattle.std.specs.List.{flat_map}
use Rattle.std.proofs.lemmas.Grind.{flat_map-append}
use Rattle.cg_report.specs.declared.entry.Entry.{Entry}
use Rattle.cg_report.specs.LineText.{line_text}
use Rattle.cg_report.specs.EntryText.{made_text, order_text, reply_text, shown_text, body_text}
use Rattle.cg_json.specs.JsonText.{lines_of}
use Rattle.cg_json.specs.JsonTold.{with_end, HasItsLines}

ended_each : {X : Type 0} (f : X → List ℕ) (xs : List X) →
    flat_map with_end (map f xs) ≡ flat_map (λ x. f x ++ codes "\n") xs
ended_each f [] = refl
ended_each f (x ∷ xs) = ap (λ zs. with_end (f x) ++ zs) (ended_each f xs)

-- the lines of the parts before one, and its own
part : {X : Type 0} (f : X → List ℕ) (xs : List X) (lines : List (List ℕ)) (text : List ℕ)
    → flat_map with_end lines ≡ text
    → flat_map with_end (lines ++ map f xs) ≡ text ++ flat_map (λ x. f x ++ codes "\n") xs
part f xs lines text e = flat_map-append with_end lines (map f xs) ∙ ap₂ (λ a b. a ++ b) e (ended_each f xs)

body_lines : (e : Entry) → flat_map with_end (lines_of e) ≡ body_text e
body_lines e =
    part shown_text e.shown _ _ (part reply_text e.replies _ _
    (part line_text e.lines _ _ (part order_text e.orders _ _ (ended_each made_text e.made))))

pub has_its_lines : HasItsLines
has_its_lines step e loud =
    rw loud (ap (λ text. ((codes "= " ++ decimal step) ++ codes "\n") ++ text) (sym (body_lines e)))

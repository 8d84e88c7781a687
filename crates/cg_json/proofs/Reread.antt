-- No float is in an object, so it has a text; and this text is read as what the object was made of.
use Rattle.std.proofs.Common.{◌≡◌, ◌≤◌, ℕ, suc, max, List, [], ◌∷◌, map, false, refl, sym, ap, ◌∙◌, arith}
use Rattle.std.specs.Option.{option_map_or}
use Rattle.json.specs.Json as json
use Rattle.json.specs.Json.{Items, no_items, item, document}
use Rattle.json.specs.Tree.{ItemsHaveNumbers, items_depth}
use Rattle.json.proofs.Printed.Decimals.{IsNumber-decimal}
use Rattle.json.proofs.Printed.Trees.{document-print}
use Rattle.serde_json.specs.Data.{string}
use Rattle.serde_json.specs.View.{items_of}
use Rattle.serde_json.specs.Written.{has_float, items_have_float, outline, items_outline}
use Rattle.serde_json.proofs.Texts.{print-outline}
use Rattle.cg_json.specs.JsonText.{step_object, tail_object}
use Rattle.cg_json.specs.JsonTold.{StepsAreRead, TailsAreRead, ObjectsTellTheirLines}

texts_have_no_float : (ts : List (List ℕ)) → items_have_float (items_of (map string ts)) ≡ false
texts_have_no_float [] = refl
texts_have_no_float (t ∷ ts) = texts_have_no_float ts

pub step_object_has_no_float : (step : ℕ) (lines : List (List ℕ)) → has_float (step_object step lines) ≡ false
step_object_has_no_float step lines = rw (texts_have_no_float lines) refl

-- ---- an object is read as what it was made of

texts_have_numbers : (ts : List (List ℕ)) → ItemsHaveNumbers (items_outline (items_of (map string ts)))
texts_have_numbers [] = tt
texts_have_numbers (t ∷ ts) = (tt, texts_have_numbers ts)

texts_are_flat : (ts : List (List ℕ)) → items_depth (items_outline (items_of (map string ts))) ≡ 0
texts_are_flat [] = refl
texts_are_flat (t ∷ ts) = ap (max 0) (texts_are_flat ts)

pub steps_are_read : StepsAreRead
steps_are_read step lines small =
    let d = step_object step lines in
    ap document (sym (print-outline d)) ∙ document-print (outline d) (texts_have_numbers lines, (IsNumber-decimal step small, tt)) shallow where
      shallow : suc (max (suc (items_depth (items_outline (items_of (map string lines))))) (max 0 0)) ≤ 128
      shallow = omega (arith, texts_are_flat lines)

pub tails_are_read : TailsAreRead
tails_are_read tail = let d = tail_object tail in ap document (sym (print-outline d)) ∙ document-print (outline d) (tt, tt) (omega arith)

-- ---- two steps with one text have the same lines

-- the texts of an object's first member
abbrev texts_in : Items → List (List ℕ)
texts_in no_items = []
texts_in (item (json.string s) js) = s ∷ texts_in js
texts_in (item other js) = texts_in js

abbrev array_texts : json.Json → List (List ℕ)
array_texts (json.array js) = texts_in js
array_texts other = []

abbrev first_texts : json.Json → List (List ℕ)
first_texts (json.object (json.member k j ms)) = array_texts j
first_texts other = []

texts_of_items : (ts : List (List ℕ)) → texts_in (items_outline (items_of (map string ts))) ≡ ts
texts_of_items [] = refl
texts_of_items (t ∷ ts) = ap (λ xs. t ∷ xs) (texts_of_items ts)

pub objects_tell_lines : ObjectsTellTheirLines
objects_tell_lines m n xs ys hm hn e =
    sym (texts_of_items xs) ∙ ap (λ o. option_map_or first_texts o []) (sym (steps_are_read m xs hm) ∙ ap document e ∙ steps_are_read n ys hn) ∙ texts_of_items ys

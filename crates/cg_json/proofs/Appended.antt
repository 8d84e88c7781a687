-- Lines that are put at the end, one after another.
use Rattle.std.proofs.Common.{◌≡◌, ◌+◌, ◌<◌, ◌≤◌, ℕ, List, [], ◌∷◌, ◌++◌, Option, Some, None, IfSome, IsSome, String, Global, string_bytes, unwrap_or, map, take, length, get_or, refl, sym, ap, ap₂, ◌∙◌, subst, append_assoc, true≢false, rules}
use Rattle.std.proofs.lemmas.List.{map-append, take_more, take_all}
use Rattle.serde_json.specs.Data.{Data, string}
use Rattle.serde_json.specs.View.{view}
use Rattle.serde_json.specs.declared.value.Value.{Value, the_lemmas}
use Rattle.serde_json.specs.declared.value.Value.TheVariants as value
use Rattle.cg_json.specs.Lines.{AppendsLines}

view_text : (text : String Global) → view (value.String text) ≡ string (string_bytes text)
view_text text = search (rules, the_lemmas)

-- what is shown of a value is the text that it has
is_its_text : (o : Option (List ℕ)) (line : List ℕ) → IsSome o → IfSome o (λ bytes. line ≡ bytes) → line ≡ unwrap_or o []
is_its_text (Some text) line some is = is
is_its_text None line some is = absurd (true≢false (sym some))

one_more : {X : Type 0} (text : X → Option (List ℕ)) (old now : List Data) (xs : List X) (i : ℕ) (x : X) (line : List ℕ)
    → AppendsLines text old (take i xs) now → i < length xs → x ≡ get_or xs i x → IfSome (text x) (λ bytes. line ≡ bytes)
    → AppendsLines text old (take (i + 1) xs) (now ++ string line ∷ [])
one_more {X} text old now xs i x line so_far below is shown known =
    let of = λ (y : X). unwrap_or (text y) [] in
    let before : now ≡ old ++ map string (map of (take i xs)) = so_far known in
    let next : line ≡ of (get_or xs i x) = is_its_text (text x) line (known x) shown ∙ ap of is in
    let more : map string (map of (take (i + 1) xs)) ≡ map string (map of (take i xs)) ++ string line ∷ [] =
    ap (λ ys. map string (map of ys)) (take_more xs i x below)
    ∙ ap (map string) (map-append of (take i xs) (get_or xs i x ∷ []))
    ∙ map-append string (map of (take i xs)) (of (get_or xs i x) ∷ [])
    ∙ ap (λ t. map string (map of (take i xs)) ++ string t ∷ []) (sym next) in
    ap (λ d. d ++ string line ∷ []) before ∙ append_assoc old (map string (map of (take i xs))) (string line ∷ []) ∙ ap (λ d. old ++ d) (sym more)

-- the next one is pushed
pub next_pushed : {X : Type 0} (text : X → Option (List ℕ)) (old : List Data) (now new : List Value) (xs : List X) (i : ℕ) (x : X) (line : String Global)
    → AppendsLines text old (take i xs) (map view now) → i < length xs → x ≡ get_or xs i x → IfSome (text x) (λ bytes. string_bytes line ≡ bytes)
    → new ≡ now ++ value.String line ∷ [] → AppendsLines text old (take (i + 1) xs) (map view new)
next_pushed text old now new xs i x line so_far below is shown pushed =
    let views : map view new ≡ map view now ++ string (string_bytes line) ∷ [] =
    ap (map view) pushed ∙ map-append view now (value.String line ∷ []) ∙ ap (λ d. map view now ++ d ∷ []) (view_text line) in
    subst (λ ds. AppendsLines text old (take (i + 1) xs) ds) (sym views) (one_more text old (map view now) xs i x (string_bytes line) so_far below is shown)

-- all are
pub all_pushed : {X : Type 0} (text : X → Option (List ℕ)) (old now : List Data) (xs : List X) (i : ℕ)
    → AppendsLines text old (take i xs) now → length xs ≤ i → AppendsLines text old xs now
all_pushed text old now xs i so_far all = subst (λ ys. AppendsLines text old ys now) (take_all i xs all) so_far

-- the lines of a part come after those before it
pub next_part : {X : Type 0} (text : X → List ℕ) (old new : List Data) (xs ys : List X) (lines : List (List ℕ))
    → AppendsLines (λ x. Some (text x)) old ys new → ys ≡ xs → old ≡ map string lines → new ≡ map string (lines ++ map text xs)
next_part text old new xs ys lines appends same so_far =
    appends (λ x. refl) ∙ ap₂ (λ a b. a ++ b) so_far (ap (λ zs. map string (map text zs)) same) ∙ sym (map-append string lines (map text xs))

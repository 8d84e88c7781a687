-- Lists as fields.
use Rattle.std.proofs.Common.{◌≡◌, ℕ, zero, suc, ◌+◌, ◌≤◌, List, [], ◌∷◌, ◌++◌, length, Ok, refl, sym, ap, subst, ◌∙◌, append_assoc, length-append, arith}
use Rattle.std.specs.Prelude.{flat_map}
use Rattle.std.proofs.lemmas.List.{append-nil}
use Rattle.std.proofs.lemmas.List.Concat.{flat_map-cons}
use Rattle.cg_codec.specs.Fields.{number32, list}
use Rattle.cg_codec.specs.Reading.{Unread, Reading, take_count, take_items, take_list}
use Rattle.cg_codec.specs.Laws.{AreBytes, Took, Found, IsField, EachBehind}
use Rattle.cg_codec.specs.FieldLaws.{Took-bytes, Took-then, Took-none, go_on-ok, given}

-- items that were read behind others
record FoundItems {X : Type 0} (Has : List X → X → Type 0) (spelling : X →
    List ℕ) (taken : List X) (n : ℕ) (ys : List X) (old new : Unread) : Type 0 where
  xs : List X
  whole : ys ≡ taken ++ xs
  has : EachBehind Has taken xs
  count : length xs ≡ n
  took : Took old (flat_map spelling xs) new

-- one item and those behind it
FoundItems-more : {X : Type 0} (Has : List X → X → Type 0) (spelling : X →
    List ℕ) (taken : List X) (n : ℕ) (ys : List X) (old mid new : Unread) (x : X)
    → Found (Has taken) spelling x old mid → FoundItems Has spelling (taken ++ x ∷ []) n ys mid new →
    FoundItems Has spelling taken (suc n) ys old new
FoundItems-more Has spelling taken n ys old mid new x one others = record {
  xs = x ∷ others.xs;
  whole = others.whole ∙ append_assoc taken (x ∷ []) others.xs;
  has = (one.has, others.has);
  count = ap suc others.count;
  took = rw flat_map-cons (Took-then old (spelling x) mid (flat_map spelling others.xs) new one.took others.took);
}

items_found : {X : Type 0} (Has : List X → X → Type 0) (spelling : X → List ℕ) (item : List X →
    Reading X) (fields : (taken : List X) → IsField (Has taken) spelling (item taken))
    (n : ℕ) (taken ys : List X) (old new : Unread) → AreBytes old.bytes → take_items item n taken old ≡ Ok (ys, new) →
    FoundItems Has spelling taken n ys old new
unfolding take_items
items_found Has spelling item fields zero taken ys old new fits e =
    let g = given taken ys old new e in
    record {
      xs = [];
      whole = sym g.0 ∙ sym (append-nil taken);
      has = tt;
      count = refl;
      took = rw (← g.1) (Took-none old);
    }
items_found Has spelling item fields (suc n) taken ys old new fits e =
    let step = go_on-ok (item taken old) (λ x. take_items item n (taken ++ x ∷ [])) ys new e in
    let one = (fields taken).found step.0 old step.1 fits step.2 in
    let others = items_found Has spelling item fields n (taken ++ step.0 ∷ []) ys step.1
    new (Took-bytes old (spelling step.0) step.1 one.took fits) step.3 in
    FoundItems-more Has spelling taken n ys old step.1 new step.0 one others

items_again : {X : Type 0} (Has : List X → X → Type 0) (spelling : X → List ℕ) (item : List X →
    Reading X) (fields : (taken : List X) → IsField (Has taken) spelling (item taken))
    (xs taken : List X) (at : ℕ) (rest : List ℕ) → EachBehind Has taken xs
    → take_items item (length xs) taken (record { at = at; bytes = flat_map spelling xs ++ rest }) ≡
    Ok (taken ++ xs, record { at = at + length (flat_map spelling xs); bytes = rest })
unfolding take_items
items_again Has spelling item fields [] taken at rest has =
    let n : at + 0 ≡ at = omega arith in
    rw (n, append-nil taken) refl
items_again Has spelling item fields (x ∷ xs) taken at rest has =
    let one = (fields taken).again x at (flat_map spelling xs ++ rest) has.0 in
    let others = items_again Has spelling item fields xs (taken ++ x ∷ []) (at + length (spelling x)) rest has.1 in
    let grouped : flat_map spelling (x ∷ xs) ++ rest ≡ spelling x ++ (flat_map spelling xs ++ rest) =
    ap (λ (t : List ℕ). t ++ rest) (flat_map-cons spelling x xs)
    ∙ append_assoc (spelling x) (flat_map spelling xs) rest in
    let count : at + length (spelling x) + length (flat_map spelling xs) ≡ at + length (flat_map spelling (x ∷ xs)) =
    rw flat_map-cons (omega (arith, length-append (spelling x) (flat_map spelling xs))) in
    let whole : (taken ++ x ∷ []) ++ xs ≡ taken ++ x ∷ xs = append_assoc taken (x ∷ []) xs in
    rw (grouped, one, others, count, whole) refl

-- so many items, and how many they are before them
pub field_list : {X : Type 0} (max : ℕ) (Has : List X → X → Type 0) (spelling : X → List ℕ) (item : List X →
    Reading X) → IsField (λ n. n ≤ max) number32 (take_count max)
    → ((taken : List X) → IsField (Has taken) spelling (item taken)) →
    IsField (λ (xs : List X). (length xs ≤ max) × EachBehind Has [] xs) (list spelling) (take_list max item)
field_list {X = X} max Has spelling item counts fields = record {
  again = λ xs at rest has.
      let one = counts.again (length xs) at (flat_map spelling xs ++ rest) has.0 in
      let others = items_again Has spelling item fields xs [] (at + length (number32 (length xs))) rest has.1 in
      let grouped : list spelling xs ++ rest ≡ number32 (length xs) ++ (flat_map spelling xs ++ rest) =
      append_assoc (number32 (length xs)) (flat_map spelling xs) rest in
      let count : at + length (number32 (length xs)) + length (flat_map spelling xs) ≡ at + length (list spelling xs) =
      omega (arith, length-append (number32 (length xs)) (flat_map spelling xs)) in
      rw (grouped, one, others, count) refl;
  found = λ xs old new fits e.
      let step = go_on-ok (take_count max old) (λ n. take_items item n []) xs new e in
      let one = counts.found step.0 old step.1 fits step.2 in
      let others = items_found Has spelling item fields step.0 [] xs step.1
      new (Took-bytes old (number32 step.0) step.1 one.took fits) step.3 in
      let both = Took-then old (number32 step.0) step.1 (flat_map spelling others.xs) new one.took others.took in
      let found : Found (λ (xs : List X). (length xs ≤ max) × EachBehind Has [] xs) (list spelling) others.xs old new =
      record { has = (omega (arith, one.has, others.count), others.has); took = rw others.count both } in
      subst (λ (ys : List X). Found (λ (xs : List X). (length xs ≤ max) × EachBehind Has [] xs) (list spelling) ys old
      new) (sym others.whole) found;
}

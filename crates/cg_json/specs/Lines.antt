-- Lines as values of JSON.
use Rattle.std.specs.Prelude.{◌≡◌, ℕ, List, [], ◌++◌, Option, IsSome, unwrap_or, map}
use Rattle.serde_json.specs.Data.{Data, string}

-- new is old and then the texts of xs, where each value of the type has a text
abbrev pub AppendsLines : {X : Type 0} → (X → Option (List ℕ)) → List Data → List X → List Data → Type 0
AppendsLines {X} text old xs new = ((x : X) → IsSome (text x)) →
    new ≡ old ++ map string (map (λ x. unwrap_or (text x) []) xs)

-- What makes a spelling and a reading one field.
use Rattle.std.specs.Prelude.{◌≡◌, ℕ, ◌+◌, ◌<◌, List, [], ◌∷◌, ◌++◌, length, slice_index, Ok, Option, Some, None}
use Rattle.cg_codec.specs.Reading.{Unread, Reading, whole}

abbrev pub AreBytes : List ℕ → Type 0
AreBytes bytes = (i : ℕ) → slice_index bytes i < 256

-- what a reading took: these bytes
pub record Took (old : Unread) (spelled : List ℕ) (new : Unread) : Type 0 where
  pub bytes : old.bytes ≡ spelled ++ new.bytes
  pub at : new.at ≡ old.at + length spelled

-- the bytes begin with the spelling of a value that the field has
pub record Found {X : Type 0} (Has : X → Type 0) (spelling : X → List ℕ) (x : X) (old new : Unread) : Type 0 where
  pub has : Has x
  pub took : Took old (spelling x) new

-- What is spelled is read, whatever follows it; and what is read is spelled so.
pub record IsField {X : Type 0} (Has : X → Type 0) (spelling : X → List ℕ) (reading : Reading X) : Type 0 where
  pub again : (x : X) (at : ℕ) (rest : List ℕ) → Has x →
      reading (record { at = at; bytes = spelling x ++ rest }) ≡
      Ok (x, record { at = at + length (spelling x); bytes = rest })
  pub found : (x : X) (old new : Unread) → AreBytes old.bytes → reading old ≡ Ok (x, new) → Found Has spelling x old new

-- a value that may be absent, and is one of these where it is there
abbrev pub HasOptional : {X : Type 0} → (X → Type 0) → Option X → Type 0
HasOptional Has None = Unit {0}
HasOptional Has (Some x) = Has x

-- each item is one that may stand behind those before it
abbrev pub EachBehind : {X : Type 0} → (List X → X → Type 0) → List X → List X → Type 0
EachBehind Has taken [] = Unit {0}
EachBehind Has taken (x ∷ xs) = Has taken x × EachBehind Has (taken ++ x ∷ []) xs

-- the same of all of the bytes
pub record IsWhole {X : Type 0} (Has : X → Type 0) (spelling : X → List ℕ) (reading : Reading X) : Type 0 where
  pub again : (x : X) → Has x → whole reading (spelling x) ≡ Ok x
  pub found : (x : X) (bytes : List ℕ) → AreBytes bytes → whole reading bytes ≡ Ok x → Has x × (bytes ≡ spelling x)

-- where one spelling is at the front of another, the two are of one value, and nothing stands behind it
abbrev pub IsFrontOfNoOther : {X : Type 0} → (X → Type 0) → (X → List ℕ) → Type 0
IsFrontOfNoOther {X} Has spelling = (x y : X) (rest : List ℕ) → Has x → Has y →
    spelling y ≡ spelling x ++ rest → (y ≡ x) × (rest ≡ [])

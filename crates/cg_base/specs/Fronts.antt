-- What a text of several parts leaves where memory is refused.
use Rattle.std.specs.Prelude.{◌≡◌, ℕ, List, take, length}

-- what stood there before stands at the front
abbrev pub KeepsFront : List ℕ → List ℕ → Type 0
KeepsFront before now = take (length before) now ≡ before

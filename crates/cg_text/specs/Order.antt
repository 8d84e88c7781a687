-- Texts by their bytes.
use Rattle.std.specs.Prelude.{ℕ, Bool, List, nat_eq}
use Rattle.std.specs.List.{starts_with}
use Rattle.std.specs.Str.{bytes_eq}
use Rattle.std.specs.Ordering.{nat_cmp, is_lt}
use Rattle.std.specs.Cmp.Lexicographic.{slice_cmp}

-- the two texts are one
abbrev pub same_text : List ℕ → List ℕ → Bool
same_text = bytes_eq

-- the first text comes before the second, by bytes
abbrev pub text_before : List ℕ → List ℕ → Bool
text_before xs ys = is_lt (slice_cmp nat_cmp xs ys)

-- the text begins with these bytes
abbrev pub begins_with : List ℕ → List ℕ → Bool
begins_with xs ys = starts_with nat_eq xs ys

-- Which texts are read again as they are printed.
use Rattle.std.specs.Prelude.{ℕ, Bool, not, List}
use Rattle.std.specs.List.{list_all}
use Rattle.cg_text.specs.Quoted.{is_control}

-- the text has a spelling that is read
abbrev pub is_printable : List ℕ → Bool
is_printable text = list_all (λ byte. not (is_control byte)) text

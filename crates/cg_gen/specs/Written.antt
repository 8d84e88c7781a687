-- Lines that are written out.
use Rattle.std.specs.Prelude.{ℕ, List, [], ◌∷◌, ◌++◌, codes}
use Rattle.cg_base.specs.Ascii.{LINE_FEED}
use Prim.Native.String.{String}

-- the lines as they stand here
abbrev pub written : List String → List ℕ
written [] = []
written (line ∷ lines) = codes line ++ LINE_FEED ∷ written lines

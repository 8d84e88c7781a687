-- What stands in front of a text stays there.
use Rattle.std.proofs.Common.{◌≡◌, ℕ, List, sym, subst}
use Rattle.std.specs.Prelude.{Option, Some, None, IsSome, Result, Ok, Err, OnOk, OnErr}
use Rattle.std.specs.Fmt.{AppendsText}
use Rattle.cg_base.specs.Fronts.{KeepsFront}
use Rattle.cg_base.specs.TextLaws.{KeepsFront-through, KeepsFront-is}

-- a value with a text was put, or nothing was
pub shown_behind : {T E : Type 0} (r : Result T E) (front before now : List ℕ) (text : Option (List ℕ)) → IsSome text
    → OnOk r (AppendsText before now text) → OnErr r (now ≡ before) → KeepsFront front before → KeepsFront front now
shown_behind r front before now None known ok err keeps = absurd (cc)
shown_behind (Ok x) front before now (Some bs) known ok err keeps =
    KeepsFront-through front before now keeps (KeepsFront-is before now bs ok)
shown_behind (Err e) front before now (Some bs) known ok err keeps = subst (λ s. KeepsFront front s) (sym err) keeps

use Rattle.std.proofs.Common.{◌≡◌, Ok, ap, subst, sym, refl, Vec, Global, ℕ}
use mathlib.Core.Bool.{true≢false}
use Rattle.std.specs.Str.{IsUtf8}
use Rattle.std.specs.String.{string_vec}
use Rattle.std.proofs.lemmas.Str.{IsUtf8-had, is_utf8-from_IsUtf8}
use Rattle.cg_base.specs.TextLaws.{is_utf8-otherwise}
use Rattle.cg_text.proofs.quoted.text_of.Goals as goal

pub returns-in-Ok : goal.returns-in-Ok
returns-in-Ok c =
    let same : string_vec c.in-Ok.text ≡ c.args.bytes = c.in-Ok.ensures.ok in
    let utf8 : IsUtf8 c.args.bytes.items = subst (λ (v : Vec ℕ Global). IsUtf8 v.items) same (IsUtf8-had _ c.in-Ok.text.ok) in
    rw (c.from_string.ensures, is_utf8-from_IsUtf8 _ utf8) (ap (λ (v : Vec ℕ Global). Ok v.items) same)

pub returns : goal.returns
returns c = rw (is_utf8-otherwise c.args.bytes.items (λ utf8. true≢false (sym (c.in-Err.ensures.succeeds utf8)))) refl

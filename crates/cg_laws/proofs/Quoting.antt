-- A text between quotes is told apart before anything.
use Rattle.std.proofs.Common.{◌≡◌, ℕ, Bool, true, false, cond, not, eqb, List, [], ◌∷◌, ◌++◌, flat_map, refl, sym, ap, ◌∙◌, ◌||◌, true≢false}
use Rattle.cg_base.specs.Lists.{Each}
use Rattle.cg_text.specs.Quoted.{is_special, escaped, quoted}
use Rattle.cg_laws.proofs.Separating.{Separates, anything, begins, any, one, same_first, each_any, after, before, within, listed}

-- a byte as it stands between quotes: behind a backslash, or alone, and then it is none
escaped-apart : (x y : ℕ) (p q : Bool) (u v : List ℕ) → is_special x ≡ p → is_special y ≡ q → cond p (92 ∷ x ∷ []) (x ∷ []) ++ u ≡ cond q (92 ∷ y ∷ []) (y ∷ []) ++ v → (x ≡ y) × (u ≡ v)
escaped-apart x y true true u v sx sy e = same_first {A = ℕ} (same_first {A = ℕ} e).1
escaped-apart x y true false u v sx sy e = absurd (true≢false (ap is_special (same_first {A = ℕ} e).0 ∙ sy))
escaped-apart x y false true u v sx sy e = absurd (true≢false (ap is_special (sym (same_first {A = ℕ} e).0) ∙ sx))
escaped-apart x y false false u v sx sy e = same_first {A = ℕ} e

byte : Separates anything any escaped one
byte = record { apart = λ x y u v hx hy eu ev e. escaped-apart x y (is_special x) (is_special y) u v refl refl e }

-- it doesn't begin with a quote
no_quote : (x : ℕ) (p : Bool) (u : List ℕ) → is_special x ≡ p → begins 34 (cond p (92 ∷ x ∷ []) (x ∷ []) ++ u) ≡ false
no_quote x true u special = refl
no_quote x false u plain = left (eqb x 34) (eqb x 92) plain
  where
    left : (a b : Bool) → (a || b) ≡ false → a ≡ false
    left true b e = e
    left false b e = refl

bytes : Separates (begins 34) (Each any) (flat_map escaped) one
bytes = listed (record {
  starts = λ u. not (begins 34 u);
  item_begins = λ x u h. ap not (no_quote x (is_special x) u refl);
  end_begins = λ u quote. ap not quote;
  item_follows = λ x u h. refl;
  end_follows = λ u quote. refl;
}) byte

pub quote : Separates anything any quoted one
quote = within (λ text h. each_any text) (after (34 ∷ []) (before (34 ∷ []) (λ u h. refl) bytes))

-- Bytes in which no line ends, and lines among bytes.
use Rattle.std.proofs.Common.{◌≡◌, ℕ, ◌+◌, ◌==◌, List, [], ◌∷◌, ◌++◌, length, Bool, true, false, cond, refl, sym, ap, ◌∙◌, arith}
use Rattle.std.specs.List.{onto_first, join_with_byte}
use Rattle.std.proofs.lemmas.List.Elements.{All-nil, All-cons}
use Rattle.std.proofs.lemmas.List.Splits.{slice_split_none, slice_split_at, join_with_byte-slice_split, length-slice_split}
use Rattle.cg_base.specs.Text.{pieces_of, is_nil}
use Rattle.cg_outcome.specs.Streaming.{IsUnended}

pub one_piece : (bytes : List ℕ) → IsUnended bytes → pieces_of 10 bytes ≡ bytes ∷ []
one_piece bytes is = slice_split_none (λ b. b == 10) bytes is

pub line_first : (line rest : List ℕ) → IsUnended line → pieces_of 10 (line ++ 10 ∷ rest) ≡ line ∷ pieces_of 10 rest
line_first line rest is = slice_split_at (λ b. b == 10) line 10 rest is refl

-- a byte more before pieces of which each first one is unended
step : (b : ℕ) (bs line : List ℕ) (ps : List (List ℕ)) →
    ((q : List ℕ) (qs : List (List ℕ)) → pieces_of 10 bs ≡ q ∷ qs → IsUnended q)
    → (t : Bool) → (b == 10) ≡ t → cond t ([] ∷ pieces_of 10 bs) (onto_first b (pieces_of 10 bs)) ≡
    line ∷ ps → IsUnended line
step b bs line ps before true test e =
    let none : line ≡ [] = cc in
    rw none (All-nil (λ b. (b == 10) ≡ false))
step b bs line ps before false test e = onto (pieces_of 10 bs) refl e where
  onto : (parts : List (List ℕ)) → pieces_of 10 bs ≡ parts → onto_first b parts ≡ line ∷ ps → IsUnended line
  onto [] is e =
      let one : line ≡ b ∷ [] = cc in
      rw one (All-cons (λ b. (b == 10) ≡ false) b [] test (All-nil (λ b. (b == 10) ≡ false)))
  onto (q ∷ qs) is e =
      let more : line ≡ b ∷ q = cc in
      rw more (All-cons (λ b. (b == 10) ≡ false) b q test (before q qs is))

-- the first piece is unended
pub first_unended : (bs line : List ℕ) (ps : List (List ℕ)) → pieces_of 10 bs ≡ line ∷ ps → IsUnended line
first_unended [] line ps e =
    let none : line ≡ [] = cc in
    rw none (All-nil (λ b. (b == 10) ≡ false))
first_unended (b ∷ bs) line ps e = step b bs line ps (λ q qs. first_unended bs q qs) (b == 10) refl e

joined : (line : List ℕ) (ps : List (List ℕ)) (n : ℕ) → length ps ≡ n + 1 →
    join_with_byte 10 (line ∷ ps) ≡ line ++ 10 ∷ join_with_byte 10 ps
joined line [] n some = absurd (omega arith)
joined line (p ∷ ps) n some = refl

-- the first piece stands before a line feed, and the others behind it
pub line_before : (bs line rest : List ℕ) → pieces_of 10 bs ≡ line ∷ pieces_of 10 rest → bs ≡ line ++ 10 ∷ rest
line_before bs line rest e =
    sym (join_with_byte-slice_split 10 bs) ∙ ap (join_with_byte 10) e
    ∙ joined line (pieces_of 10 rest) _ (length-slice_split (λ b. b == 10) rest)
    ∙ ap (λ r. line ++ 10 ∷ r) (join_with_byte-slice_split 10 rest)

-- there is always a piece
pub some_piece : (bs : List ℕ) → is_nil (pieces_of 10 bs) ≡ false
some_piece bs = by_pieces (pieces_of 10 bs) _ (length-slice_split (λ b. b == 10) bs) where
  by_pieces : (ps : List (List ℕ)) (n : ℕ) → length ps ≡ n + 1 → is_nil ps ≡ false
  by_pieces [] n some = absurd (omega arith)
  by_pieces (p ∷ ps) n some = refl

-- A joiner takes the pieces of its snapshot, each in its turn.
use Rattle.std.proofs.Common.{◌≡◌, ◌≢◌, ℕ, zero, suc, ◌-◌, Bool, true, List, [], ◌∷◌, ◌++◌, length, take, Result, Ok, Err, refl, sym, ap, subst, ◌∙◌, arith}
use Rattle.std.specs.Prelude.{slice_get, IfSome, Option, Some, None}
use Rattle.std.specs.Option.{option_map}
use Rattle.std.proofs.lemmas.Bool.{eq-eqb}
use Rattle.cg_codec.specs.declared.fault.CodecFault.{CodecFault}
use Rattle.cg_codec.specs.Laws.{IsWhole}
use Rattle.cg_codec.specs.Reading.{whole}
use Rattle.cg_join.specs.declared.errors.JoinErr.{JoinErr}
use Rattle.cg_join.specs.declared.errors.JoinErr.TheVariants.{BadPiece, OtherSnapshot, OutOfTurn, NoMemory}
use Rattle.cg_join.specs.declared.name.SnapshotName.{SnapshotName}
use Rattle.cg_join.specs.declared.piece.PieceContent.{PieceContent}
use Rattle.cg_join.specs.declared.piece.Piece.{Piece}
use Rattle.cg_join.specs.Limits.{IsPiece}
use Rattle.cg_join.specs.Bytes.{spelled_piece}
use Rattle.cg_join.specs.Reading.{piece_reading}
use Rattle.cg_join.specs.Snapshot.{Snapshot, piece_at, bytes_at}
use Rattle.cg_join.specs.Taking.{same_snapshot, refusal, refused, Adds, Takes}
use Rattle.cg_join.specs.Handing.{Proceeds}

-- ---- the parts in front

take-next : (xs : List PieceContent) (n : ℕ) (x : PieceContent) → slice_get xs n ≡ Some x → take n xs ++ x ∷ [] ≡ take (suc n) xs
take-next [] zero x at = absurd cc
take-next [] (suc n) x at = absurd cc
take-next (y ∷ xs) zero x at = ap (λ z. z ∷ []) (sym (same_part y x at))
  where
    same_part : (p q : PieceContent) → slice_get (p ∷ []) 0 ≡ Some q → p ≡ q
    same_part p q e = cc
take-next (y ∷ xs) (suc n) x at = ap (λ zs. y ∷ zs) (take-next xs n x at)

taken : (xs : List PieceContent) (n : ℕ) (x : PieceContent) → slice_get xs n ≡ Some x → length (take n xs) ≡ n
taken [] zero x at = absurd cc
taken [] (suc n) x at = absurd cc
taken (y ∷ xs) zero x at = refl
taken (y ∷ xs) (suc n) x at = ap suc (taken xs n x at)

-- ---- the next piece isn't refused

same-itself : (name : SnapshotName) → same_snapshot name name ≡ true
same-itself name = rw (eq-eqb name.giver name.giver refl, eq-eqb name.number name.number refl) refl

not_refused : (s : Snapshot) (n : ℕ) (part : PieceContent) → refusal s.name n (piece_at s (suc n) part).label ≡ None
not_refused s n part = rw (same-itself s.name, eq-eqb (suc n) (suc n) refl) refl

none-some : (f : JoinErr) (o : Option JoinErr) → o ≡ None → o ≡ Some f → ⊥
none-some f o one two = cc

only_memory : (fault : JoinErr) (refused : Option JoinErr) → refused ≡ None → (fault ≢ NoMemory → refused ≡ Some fault) → fault ≡ NoMemory
only_memory (BadPiece at) refused none why = absurd (none-some (BadPiece at) refused none (why (λ e. cc)))
only_memory (OtherSnapshot want got) refused none why = absurd (none-some (OtherSnapshot want got) refused none (why (λ e. cc)))
only_memory (OutOfTurn want got) refused none why = absurd (none-some (OutOfTurn want got) refused none (why (λ e. cc)))
only_memory NoMemory refused none why = refl

read : Piece → Result Piece CodecFault
read p = Ok p

same_piece : (p q : Piece) → read p ≡ read q → p ≡ q
unfolding read
same_piece p q e = cc

-- ---- so it is taken

module _ (exact : IsWhole IsPiece spelled_piece piece_reading) (s : Snapshot) (n : ℕ) where
  proceeds : (part : PieceContent) (bytes : List ℕ) (new : List PieceContent) (r : Result Bool JoinErr) → slice_get s.parts n ≡ Some part → IsPiece (piece_at s (suc n) part)
      → bytes ≡ spelled_piece (piece_at s (suc n) part) → Takes s.name (take n s.parts) new bytes r → Proceeds s n new r
  unfolding read
  proceeds part bytes new (Ok done) at is spelled takes =
      let p = piece_at s (suc n) part in
      let known : whole piece_reading bytes ≡ Ok p = rw spelled (exact.again p is) in
      let same : takes.0 ≡ p = same_piece takes.0 p (sym takes.1 ∙ known) in
      let adds : Adds s.name (take n s.parts) new p (Ok done) = subst (λ q. Adds s.name (take n s.parts) new q (Ok done)) same takes.2 in
      (adds.1 ∙ take-next s.parts n part at, adds.2)
  proceeds part bytes new (Err fault) at is spelled takes =
      let p = piece_at s (suc n) part in
      let known : whole piece_reading bytes ≡ Ok p = rw spelled (exact.again p is) in
      let count = taken s.parts n part at in
      let none : refused s.name (take n s.parts) (whole piece_reading bytes) ≡ None =
      ap (refused s.name (take n s.parts)) known ∙ ap (λ k. refusal s.name k p.label) count ∙ not_refused s n part in
      (only_memory fault (refused s.name (take n s.parts) (whole piece_reading bytes)) none takes.1, takes.0)

  at_piece : (o : Option PieceContent) (bytes : List ℕ) (new : List PieceContent) (r : Result Bool JoinErr) → slice_get s.parts n ≡ o → option_map (λ part. spelled_piece (piece_at s (suc n) part)) o ≡ Some bytes
      → IfSome o (λ part. IsPiece (piece_at s (suc n) part)) → Takes s.name (take n s.parts) new bytes r → Proceeds s n new r
  at_piece None bytes new r at put is takes = absurd cc
  at_piece (Some part) bytes new r at put is takes = proceeds part bytes new r at is (sym (same_bytes (spelled_piece (piece_at s (suc n) part)) bytes put)) takes
    where
      same_bytes : (b d : List ℕ) → option_map (λ (x : List ℕ). x) (Some b) ≡ Some d → b ≡ d
      same_bytes b d e = cc

  pub next_taken : (bytes : List ℕ) (new : List PieceContent) (r : Result Bool JoinErr) → bytes_at s (suc n) ≡ Some bytes
      → IfSome (slice_get s.parts n) (λ part. IsPiece (piece_at s (suc n) part)) → Takes s.name (take n s.parts) new bytes r → Proceeds s n new r
  next_taken bytes new r put is takes = let step : suc n - 1 ≡ n = omega arith in at_piece (slice_get s.parts n) bytes new r refl (rw step at put) is takes

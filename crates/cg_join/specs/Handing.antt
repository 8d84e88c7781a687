-- The pieces of one snapshot, taken in turn.
use Rattle.std.specs.Prelude.{◌≡◌, ℕ, suc, ◌==◌, Bool, List, length, take, Result, Ok, Err}
use Rattle.cg_join.specs.declared.errors.JoinErr.{JoinErr}
use Rattle.cg_join.specs.declared.errors.JoinErr.TheVariants.{NoMemory}
use Rattle.cg_join.specs.declared.piece.PieceContent.{PieceContent}
use Rattle.cg_join.specs.Finishing.{Joining}
use Rattle.cg_join.specs.Snapshot.{Snapshot}

-- behind so many parts the next one was taken, and whether it is the last one; or memory was refused, and all is as before
abbrev pub Proceeds : Snapshot → ℕ → List PieceContent → Result Bool JoinErr → Type 0
Proceeds s n new (Ok done) = (new ≡ take (suc n) s.parts) × (done ≡ (suc n == length s.parts))
Proceeds s n new (Err fault) = (fault ≡ NoMemory) × (new ≡ take n s.parts)

-- the joiner has taken the first pieces of the snapshot
pub record IsTaking {D : Type 0} (s : Snapshot) (j : Joining D) : Type 0 where
  pub name : j.name ≡ s.name
  pub parts : j.parts ≡ take (length j.parts) s.parts

-- it has taken these
abbrev pub with_parts : {D : Type 0} → Joining D → List PieceContent → Joining D
with_parts j parts = record j { parts = parts }

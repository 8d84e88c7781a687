-- The number in front of a checkpoint's bytes is its generation.
use Rattle.std.proofs.Common.{◌≡◌, refl, ℕ, List, length, Bool, true, false, Option, Some, None, Result, Ok, Err, sym, ◌∙◌, ap, subst}
use Rattle.std.specs.Prelude.{◌==◌, option_and_then, if◌then◌else◌}
use Rattle.cg_codec.specs.declared.fault.CodecFault.{CodecFault}
use Rattle.cg_codec.specs.declared.fault.CodecFault.TheVariants.{Rest}
use Rattle.cg_codec.specs.Reading.{Unread, Reading, go_on, ◌>>=◌, done, ended}
use Rattle.cg_records.specs.Reading.{take_number, take_stable}
use Rattle.cg_disk_records.specs.declared.checkpoint.Checkpoint.{Checkpoint}
use Rattle.cg_disk_records.specs.Reading.{reached_reading, entries_reading, kept_reading, checkpoint_reading}
use Rattle.cg_disk_records.specs.Parts.{read_value, Saved, saved_in, saved_of, do_agree, checkpoint_in, HasGeneration}

-- what holds of all values that the next readings give holds of the last one's
behind_first : {X Y : Type 0} (P : Y → Type 0) (r : Result (X × Unread) CodecFault) (next : X → Reading Y) →
    ((x : X) (left : Unread) (z : Y × Unread) → next x left ≡ Ok z → P z.0) → (z : Y × Unread) → go_on r next ≡ Ok z → P z.0
behind_first P (Ok x) next each z is = each x.0 x.1 z is
behind_first P (Err fault) next each z is = cc

abbrev behind_generation : ℕ → Reading Checkpoint
behind_generation generation = do
  stable ← take_stable
  reached ← reached_reading
  db ← entries_reading
  kept ← kept_reading
  done (record { generation = generation; stable = stable; reached = reached; db = db; kept = kept })

of_generation : (generation : ℕ) (left : Unread) (z : Checkpoint × Unread) → behind_generation generation left ≡ Ok z → z.0.generation ≡ generation
of_generation generation left =
    behind_first (λ p. p.generation ≡ generation) (take_stable left) _ (λ stable behind_stable.
    behind_first (λ p. p.generation ≡ generation) (reached_reading behind_stable) _ (λ reached behind_reached.
    behind_first (λ p. p.generation ≡ generation) (entries_reading behind_reached) _ (λ db behind_db.
    behind_first (λ p. p.generation ≡ generation) (kept_reading behind_db) _ (λ kept behind_kept z is.
    let same : (record { generation = generation; stable = stable; reached = reached; db = db; kept = kept }, behind_kept) ≡ z = cc in
    sym (ap (λ x. x.0.generation) same)))))

saved_generation : (id : ℕ) (p : Checkpoint) (agree : Bool) (s : Saved) → (if agree then Some (saved_in id p) else None) ≡ Some s → s.generation ≡ p.generation
saved_generation id p true s is = let same : saved_in id p ≡ s = cc in ap (λ x. x.generation) (sym same)
saved_generation id p false s is = cc

ended_generation : (id : ℕ) (z : Checkpoint × Unread) (none : Bool) (s : Saved) →
    option_and_then (saved_of id) (read_value (if none then Ok z.0 else Err (Rest z.1.at))) ≡ Some s → s.generation ≡ z.0.generation
ended_generation id z true s is = saved_generation id z.0 (do_agree id z.0) s is
ended_generation id z false s is = cc

read_generation : (id generation : ℕ) (left : Unread) (r : Result (Checkpoint × Unread) CodecFault) → behind_generation generation left ≡ r → (s : Saved) →
    option_and_then (saved_of id) (read_value (ended r)) ≡ Some s → s.generation ≡ generation
read_generation id generation left (Ok z) e s is = ended_generation id z (length z.1.bytes == 0) s is ∙ of_generation generation left z e
read_generation id generation left (Err fault) e s is = cc

abbrev start : List ℕ → Unread
start bytes = record { at = 0; bytes = bytes }

abbrev saved_behind : ℕ → Result (ℕ × Unread) CodecFault → Option Saved
saved_behind id r = option_and_then (saved_of id) (read_value (ended (go_on r behind_generation)))

pub front_told : (bytes : List ℕ) (generation : ℕ) (left : Unread) → take_number (start bytes) ≡ Ok (generation, left) → HasGeneration bytes (Some generation)
unfolding checkpoint_in checkpoint_reading
front_told bytes generation left e id s is =
    let turned : saved_behind id (Ok (generation, left)) ≡ Some s = subst (λ r. saved_behind id r ≡ Some s) e is in
    ap Some (sym (read_generation id generation left (behind_generation generation left) refl s turned))

pub front_none : (bytes : List ℕ) (fault : CodecFault) → take_number (start bytes) ≡ Err fault → HasGeneration bytes None
unfolding checkpoint_in checkpoint_reading
front_none bytes fault e id s is =
    let turned : saved_behind id (Err fault) ≡ Some s = subst (λ r. saved_behind id r ≡ Some s) e is in
    cc

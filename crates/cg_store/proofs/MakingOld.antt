-- A new disk of the older format stands for what its one checkpoint was made of.
use Rattle.std.proofs.Common.{◌≡◌, ℕ, ◌<◌, ◌^◌, false, List, [], ◌∷◌, Some, None, Ok, Err, refl, sym, ◌∙◌, ap, subst, arith}
use Rattle.std.specs.Option.{option_map}
use Rattle.cg_disk.specs.Sides.{Image}
use Rattle.cg_disk.specs.View.{DiskView}
use Rattle.cg_disk.specs.declared.disk.Side.TheVariants.{B}
use Rattle.cg_journal.specs.Found.{sides}
use Rattle.cg_journal.specs.OpensMixed.{old_sides, MakesOld as MakesOldJournal}
use Rattle.cg_journal.specs.declared.open.FormatErr.{FormatErr}
use Rattle.cg_journal.specs.declared.open.FormatErr.TheVariants.{Lost, NoMemory}
use Rattle.cg_client.specs.Replica.{Held}
use Rattle.cg_disk_records.specs.Stored.{Stored, stored_of}
use Rattle.cg_disk_records.specs.Agreeing.{Agrees}
use Rattle.cg_disk_records.specs.Limits.{IsStored}
use Rattle.cg_disk_records.specs.Format.{Older}
use Rattle.cg_older.specs.Bytes.{spelled_old_checkpoint}
use Rattle.cg_older.specs.Older.{old_checkpoint_in, has_weights}
use Rattle.cg_store.specs.Stands.{chosen, begun}
use Rattle.cg_store.specs.Formats.{live_behind, chosen_in, StandsFor, created_old}
use Rattle.cg_store.specs.FormatLaws.{stands_as}
use Rattle.cg_store.specs.Migrating.{MakesOld, format_fault}
use Rattle.cg_store.proofs.Checkpointing.{stored_still}

abbrev pub ReadsOldAgain : Type 0
ReadsOldAgain = (id generation : ℕ) (s : Stored) → generation < 2 ^ 62 → s.id ≡ id → IsStored s → Agrees s → has_weights s ≡ false →
    old_checkpoint_in id (spelled_old_checkpoint generation s) ≡ Some (record { generation = generation; content = s })

-- what is kept in memory alone has no bytes, and no weights
same_old_spelling : (generation : ℕ) (h : Held) → spelled_old_checkpoint generation (stored_of h) ≡ spelled_old_checkpoint generation h
unfolding spelled_old_checkpoint
same_old_spelling generation h = refl

same_weights : (h : Held) → has_weights (stored_of h) ≡ has_weights h
unfolding has_weights
same_weights h = refl

chosen_first : (id : ℕ) (s : Stored) (body : List ℕ) → old_checkpoint_in id body ≡ Some (record { generation = 1; content = s }) → chosen_in id (old_sides body) ≡ Some (begun body s)
chosen_first id s body is = ap (λ found. chosen (option_map (live_behind 1 (body ∷ []) []) found) None) is

made_stands : (id : ℕ) (c : Image) (s : Stored) (body : List ℕ) → sides c ≡ Some (old_sides body) → old_checkpoint_in id body ≡ Some (record { generation = 1; content = s }) → body ≡ spelled_old_checkpoint 1 s → StandsFor id c (created_old s)
made_stands id c s body found is spelled =
    subst (λ bytes. StandsFor id c (record { on = begun bytes s; format = Older })) spelled
    (stands_as id c (old_sides body) (begun body s) B 1 found (chosen_first id s body is) refl refl)

pub makes_old : ReadsOldAgain → {D : Type 0} (view : D → DiskView) (h : Held) (body : List ℕ) (old : DiskView) → body ≡ spelled_old_checkpoint 1 h → IsStored h → Agrees (stored_of h) → has_weights h ≡ false → (disk : D) →
    MakesOldJournal view body old (Ok disk) → MakesOld view h.id (stored_of h) old (Ok disk)
makes_old again view h body old spelled within agrees light disk is =
    let s = stored_of h in
    let same : body ≡ spelled_old_checkpoint 1 s = spelled ∙ sym (same_old_spelling 1 h) in
    let saved : old_checkpoint_in h.id body ≡ Some (record { generation = 1; content = s }) =
    ap (old_checkpoint_in h.id) same ∙ again h.id 1 s (omega arith) refl (stored_still h within) agrees (same_weights h ∙ light) in
    record { stands = made_stands h.id (view disk).reads s body is.is saved same; rest = is.rest; time = is.time; unstruck = is.unstruck }

pub making_fails : {D : Type 0} (view : D → DiskView) (id : ℕ) (s : Stored) (body : List ℕ) (old : DiskView) (fault : FormatErr D) → MakesOldJournal {D = D} view body old (Err fault) → MakesOld view id s old (Err (format_fault fault))
making_fails view id s body old (Lost disk) is = is
making_fails view id s body old (NoMemory disk) is = is

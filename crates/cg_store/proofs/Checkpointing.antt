-- The record of a checkpoint is read as the state that it was made of.
use Rattle.std.proofs.Common.{◌≡◌, ℕ, suc, List, Option, Some, Result, Ok, Err, IfOk, refl, sym, ◌∙◌, ap, lit<}
use Rattle.cg_journal.specs.Records.{Records}
use Rattle.cg_records.specs.Limits.{IsNumber}
use Rattle.cg_client.specs.Replica.{Held}
use Rattle.cg_disk_records.specs.Stored.{Stored, stored_of}
use Rattle.cg_disk_records.specs.Checkpoint.{spelled_checkpoint}
use Rattle.cg_disk_records.specs.Limits.{IsStored}
use Rattle.cg_disk_records.specs.Parts.{checkpoint_in}
use Rattle.cg_disk_records.specs.Laws.{IsCheckpoint}
use Rattle.cg_disk_records.specs.Agreeing.{Agrees}
use Rattle.cg_disk_records.specs.Always.{AlwaysAgrees}
use Rattle.cg_store.specs.Opening.{IsSound}
use Rattle.cg_store.specs.Stands.{OnDisk, stands_for}
use Rattle.cg_store.specs.Calls.{IsSaved}
use Rattle.cg_store.proofs.Owner.{standing-id}

abbrev pub ReadsAgain : Type 0
ReadsAgain = (id : ℕ) (bytes : List ℕ) (generation : ℕ) (s : Stored) → IsCheckpoint id bytes generation s → checkpoint_in id bytes ≡ Some (record { generation = generation; content = s })

-- what is kept in memory alone has no bytes
pub same_spelling : (generation : ℕ) (h : Held) → spelled_checkpoint generation (stored_of h) ≡ spelled_checkpoint generation h
unfolding spelled_checkpoint
same_spelling generation h = refl

pub stored_still : (h : Held) → IsStored h → IsStored (stored_of h)
stored_still h is = record {
  id = is.id;
  stable = is.stable;
  queue = is.queue;
  members = is.members;
  short = is.short;
  entries = is.entries;
  ascends = is.ascends;
  own = is.own;
}

read_again : ReadsAgain → (id generation : ℕ) (h : Held) → h.id ≡ id → (bytes : List ℕ) → bytes ≡ spelled_checkpoint generation h → IsNumber generation → IsStored h → Agrees (stored_of h) →
    checkpoint_in id bytes ≡ Some (record { generation = generation; content = stored_of h })
read_again again id generation h same bytes is small within agrees = again id bytes generation (stored_of h) (record {
  spelled = is ∙ sym (same_spelling generation h);
  small = small;
  of = same;
  is = stored_still h within;
  agrees = agrees;
})

pub saved : ReadsAgain → (id : ℕ) (found : Option Records) (u : OnDisk) → stands_for id found ≡ Some u → (h : Held) → stored_of h ≡ u.content → (bytes : List ℕ) → bytes ≡ spelled_checkpoint (suc u.generation) h →
    IsNumber (suc u.generation) → IsStored h → Agrees (stored_of h) → checkpoint_in id bytes ≡ Some (record { generation = suc u.generation; content = u.content })
saved again id found u stands h held bytes is small within agrees =
    read_again again id (suc u.generation) h (ap (λ (s : Stored). s.id) held ∙ standing-id id found u stands) bytes is small within agrees
    ∙ ap (λ (s : Stored). Some (record { generation = suc u.generation; content = s })) held

pub same_bytes : (u : OnDisk) (h : Held) → stored_of h ≡ u.content → (bytes : List ℕ) → bytes ≡ spelled_checkpoint (suc u.generation) h → bytes ≡ spelled_checkpoint (suc u.generation) u.content
same_bytes u h held bytes is = is ∙ sym (same_spelling (suc u.generation) h) ∙ ap (spelled_checkpoint (suc u.generation)) held

pub first_saved : ReadsAgain → (id : ℕ) (h : Held) → h.id ≡ id → (bytes : List ℕ) → bytes ≡ spelled_checkpoint 1 h → IsStored h → Agrees (stored_of h) → IsSaved id bytes (stored_of h)
first_saved again id h same bytes is within agrees = read_again again id 1 h same bytes is (lit< tt) within agrees

-- what is kept in memory alone is empty already
still : (h : Held) → IsSound h → stored_of h ≡ h
still h sound = λ i. record h { buffered = sym sound.buffered i; owed = sym sound.owed i }

pub saved_again : ReadsAgain → AlwaysAgrees → (h : Held) → IsSound h → (generation : ℕ) → IsNumber generation → {X E : Type 0} (items : X → List ℕ) (r : Result X E) →
    IfOk r (λ bytes. items bytes ≡ spelled_checkpoint generation h) → IfOk r (λ bytes. IsStored h) → IfOk r (λ bytes. checkpoint_in h.id (items bytes) ≡ Some (record { generation = generation; content = h }))
saved_again again agree h sound generation small items (Ok bytes) spelled within =
    read_again again h.id generation h refl (items bytes) spelled small within (agree h sound.holds)
    ∙ ap (λ (s : Stored). Some (record { generation = generation; content = s })) (still h sound)
saved_again again agree h sound generation small items (Err fault) spelled within = tt

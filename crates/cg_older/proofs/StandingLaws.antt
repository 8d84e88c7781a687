-- What a checkpoint of the older format stands for, and what stands for the same in the newer one.
use Rattle.std.proofs.Common.{◌≡◌, ℕ, ◌^◌, ◌<◌, ◌≤◌, Bool, true, false, ◌||◌, not, cond, ltb, List, ◌++◌, Result, Ok, Err, refl, sym, ap, subst, ◌∙◌, arith}
use Rattle.std.proofs.lemmas.Bool.{lt-ltb, le-ltb, ltb-true, or_parts}
use Rattle.std.proofs.lemmas.List.Folds.{list_any-append}
use Rattle.std.specs.Prelude.{Option, Some, None, option_and_then, IfOk, MatchOption}
use Rattle.std.specs.List.{list_any}
use Rattle.cg_codec.specs.declared.fault.CodecFault.{CodecFault}
use Rattle.cg_codec.specs.Reading.{whole}
use Rattle.cg_codec.specs.Laws.{IsWhole}
use Rattle.cg_action.specs.declared.action.Action.{Action}
use Rattle.cg_records.specs.Limits.{IsNumber}
use Rattle.cg_disk_records.specs.declared.checkpoint.Checkpoint.{Checkpoint}
use Rattle.cg_disk_records.specs.Stored.{Stored}
use Rattle.cg_disk_records.specs.Agreeing.{Agrees}
use Rattle.cg_disk_records.specs.Checkpoint.{spelled_parts, parts_of, spelled_checkpoint}
use Rattle.cg_disk_records.specs.Laws.{IsCheckpoint}
use Rattle.cg_disk_records.specs.Limits.{AreActions, IsStored, AreParts}
use Rattle.cg_disk_records.specs.Parts.{do_agree, read_value, Saved, saved_in, saved_of, checkpoint_in}
use Rattle.cg_disk_records.specs.Reading.{checkpoint_reading}
use Rattle.cg_older.specs.Bytes.{spelled_old_parts, spelled_old_checkpoint}
use Rattle.cg_older.specs.Older.{old_saved_of, old_checkpoint_in, has_weights}
use Rattle.cg_older.specs.Reading.{old_checkpoint_reading}
use Rattle.cg_older.specs.Weights.{is_heavy_member, is_heavy_server, is_heavy_join}
use Rattle.cg_older.proofs.CheckpointFields.{AreLightParts}
use Rattle.cg_older.proofs.ListFields.{AreLightActions}
use Rattle.cg_disk_records.specs.PartLaws.{parts-within, same_saved}

abbrev pub ExactParts : Type 0
ExactParts = IsWhole AreParts spelled_parts checkpoint_reading

-- ---- what is read of bytes that were read

abbrev read_as : ℕ → Result Checkpoint CodecFault → Option Saved
read_as id r = option_and_then (saved_of id) (read_value r)

abbrev read_as_old : ℕ → Result Checkpoint CodecFault → Option Saved
read_as_old id r = option_and_then (old_saved_of id) (read_value r)

pub checkpoint-same : ExactParts → (body bytes : List ℕ) (p : Checkpoint) → AreParts p → whole old_checkpoint_reading body ≡ Ok p → p.generation < 2 ^ 62 → bytes ≡ spelled_parts p
    → (id : ℕ) → checkpoint_in id bytes ≡ old_checkpoint_in id body
unfolding checkpoint_in old_checkpoint_in
checkpoint-same exact body bytes p are read small spelled id =
    let again : whole checkpoint_reading bytes ≡ Ok p = ap (whole checkpoint_reading) spelled ∙ exact.again p are in
    let room : cond (ltb p.generation (2 ^ 62)) (saved_of id p) None ≡ saved_of id p = rw (lt-ltb p.generation (2 ^ 62) small) refl in
    ap (read_as id) again ∙ sym (ap (read_as_old id) read ∙ room)

pub checkpoint-late : (body : List ℕ) (p : Checkpoint) → whole old_checkpoint_reading body ≡ Ok p → 2 ^ 62 ≤ p.generation → (id : ℕ) → old_checkpoint_in id body ≡ None
unfolding old_checkpoint_in
checkpoint-late body p read late id =
    let none : cond (ltb p.generation (2 ^ 62)) (saved_of id p) None ≡ None = rw (le-ltb p.generation (2 ^ 62) late) refl in
    ap (read_as_old id) read ∙ none

pub checkpoint-none : (body : List ℕ) (fault : CodecFault) → whole old_checkpoint_reading body ≡ Err fault → (id : ℕ) → old_checkpoint_in id body ≡ None
unfolding old_checkpoint_in
checkpoint-none body fault read id = ap (read_as_old id) read

-- a call that gives the bytes of a checkpoint, or none where its generation is too great
pub newer-told : {X E : Type 0} (items : X → List ℕ) → ExactParts → (body : List ℕ) (p : Checkpoint) → AreParts p → whole old_checkpoint_reading body ≡ Ok p
    → (r : Result (Option X) E) → IfOk r (λ o. MatchOption o (2 ^ 62 ≤ p.generation) (λ x. (p.generation < 2 ^ 62) × (items x ≡ spelled_parts p)))
    → IfOk r (λ o. MatchOption o ((id : ℕ) → old_checkpoint_in id body ≡ None) (λ x. (id : ℕ) → checkpoint_in id (items x) ≡ old_checkpoint_in id body))
newer-told items exact body p are read (Ok None) late = checkpoint-late body p read late
newer-told items exact body p are read (Ok (Some x)) given = checkpoint-same exact body (items x) p are read given.0 given.1
newer-told items exact body p are read (Err e) given = tt

-- ---- the parts of a state

same_parts : (p q : Checkpoint) (r : Result Checkpoint CodecFault) → r ≡ Ok p → r ≡ Ok q → p ≡ q
same_parts p q r a b = cc

-- what was put is what is read again
pub read-again : ExactParts → (bytes : List ℕ) (s : Stored) (p : Checkpoint) → IsStored s → bytes ≡ spelled_checkpoint 1 s → whole checkpoint_reading bytes ≡ Ok p → p ≡ parts_of 1 s
unfolding spelled_checkpoint
read-again exact bytes s p is spelled read =
    same_parts p (parts_of 1 s) (whole checkpoint_reading bytes) read (ap (whole checkpoint_reading) spelled ∙ exact.again (parts_of 1 s) (parts-within 1 s (omega arith) is))

-- ---- a state in which no weight is above 1

light-actions : (actions : List Action) → AreActions actions → list_any is_heavy_join actions ≡ false → AreLightActions actions
light-actions actions are none = (are, ap not none)

light-stored : (generation : ℕ) (s : Stored) → IsNumber generation → IsStored s → has_weights s ≡ false → AreLightParts (parts_of generation s)
unfolding has_weights
light-stored generation s small is none =
    let members = list_any is_heavy_member s.prim.set in
    let servers = list_any is_heavy_server s.members.servers in
    let all = s.queue.greens ++ s.queue.reds in
    let parts = or_parts (members || servers) (list_any is_heavy_join (all ++ s.own)) none in
    let weights = or_parts members servers parts.0 in
    let kept = or_parts (list_any is_heavy_join all) (list_any is_heavy_join s.own) (sym (list_any-append is_heavy_join all s.own) ∙ parts.1) in
    let known = or_parts (list_any is_heavy_join s.queue.greens) (list_any is_heavy_join s.queue.reds) (sym (list_any-append is_heavy_join s.queue.greens s.queue.reds) ∙ kept.0) in
    let are = parts-within generation s small is in
    record {
      generation = small;
      stable = record { is = are.stable; light = weights.0 };
      reached = record { is = are.reached; light = weights.1 };
      db = are.db;
      kept = record {
        greens = light-actions s.queue.greens are.kept.greens known.0;
        reds = light-actions s.queue.reds are.kept.reds known.1;
        own = light-actions s.own are.kept.own kept.1;
      };
    }

-- ---- the laws

abbrev saved : ℕ → Stored → Saved
saved generation s = record { generation = generation; content = s }

abbrev pub ExactOldParts : Type 0
ExactOldParts = IsWhole AreLightParts spelled_old_parts old_checkpoint_reading

abbrev pub ReadsAgain : Type 0
ReadsAgain = (id : ℕ) (bytes : List ℕ) (generation : ℕ) (s : Stored) → IsCheckpoint id bytes generation s → checkpoint_in id bytes ≡ Some (saved generation s)

stands-for : ExactParts → ReadsAgain → (id generation : ℕ) (s : Stored) → IsNumber generation → s.id ≡ id → IsStored s → Agrees s → saved_of id (parts_of generation s) ≡ Some (saved generation s)
unfolding checkpoint_in spelled_checkpoint
stands-for exact reads id generation s small of is agrees =
    let newer = reads id (spelled_checkpoint generation s) generation s (record { spelled = refl; small = small; of = of; is = is; agrees = agrees }) in
    sym (ap (read_as id) (exact.again (parts_of generation s) (parts-within generation s small is))) ∙ newer

pub old-again : ExactParts → ExactOldParts → ReadsAgain → (id generation : ℕ) (s : Stored) → generation < 2 ^ 62 → s.id ≡ id → IsStored s → Agrees s → has_weights s ≡ false
    → old_checkpoint_in id (spelled_old_checkpoint generation s) ≡ Some (saved generation s)
unfolding old_checkpoint_in spelled_old_checkpoint
old-again exact older reads id generation s room of is agrees none =
    let small : IsNumber generation = omega (arith, room) in
    let p = parts_of generation s in
    ap (read_as_old id) (older.again p (light-stored generation s small is none))
    ∙ ap (λ b. cond b (saved_of id p) None) (lt-ltb generation (2 ^ 62) room)
    ∙ stands-for exact reads id generation s small of is agrees

room-saved : (id : ℕ) (p : Checkpoint) (x : Saved) (agree : Bool) → p.generation < 2 ^ 62 → cond agree (Some (saved_in id p)) None ≡ Some x → x.generation < 2 ^ 62
room-saved id p x true small e = subst (λ n. n < 2 ^ 62) (ap (λ (y : Saved). y.generation) (same_saved (saved_in id p) x e)) small
room-saved id p x false small e = absurd cc

room-parts : (id : ℕ) (p : Checkpoint) (x : Saved) (room : Bool) → ltb p.generation (2 ^ 62) ≡ room → cond room (saved_of id p) None ≡ Some x → x.generation < 2 ^ 62
room-parts id p x true small e = room-saved id p x (do_agree id p) (ltb-true p.generation (2 ^ 62) small) e
room-parts id p x false small e = absurd cc

room-read : (id : ℕ) (r : Result Checkpoint CodecFault) (x : Saved) → read_as_old id r ≡ Some x → x.generation < 2 ^ 62
room-read id (Ok p) x e = room-parts id p x (ltb p.generation (2 ^ 62)) refl e
room-read id (Err fault) x e = absurd cc

pub old-room : (id : ℕ) (bytes : List ℕ) (x : Saved) → old_checkpoint_in id bytes ≡ Some x → x.generation < 2 ^ 62
unfolding old_checkpoint_in
old-room id bytes x e = room-read id (whole old_checkpoint_reading bytes) x e

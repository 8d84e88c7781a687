-- Checkpoints and changes are exactly their bytes.
use Rattle.std.proofs.Common.{◌≡◌, ℕ, Bool, true, false, cond, List, Result, Ok, Err, refl, sym, ap, subst, ◌∙◌, arith}
use Rattle.std.specs.Prelude.{Option, Some, None, option_and_then}
use Rattle.cg_base.specs.Sets.{IsId}
use Rattle.cg_base.specs.CutLaws.{IsCut-raised}
use Rattle.cg_codec.specs.declared.fault.CodecFault.{CodecFault}
use Rattle.cg_codec.specs.Reading.{whole}
use Rattle.cg_codec.specs.Laws.{AreBytes}
use Rattle.cg_queue.specs.Queue.{names_of}
use Rattle.cg_client.specs.Replica.{created}
use Rattle.cg_records.specs.Limits.{IsNumber, IsSmallCut, IsStable}
use Rattle.cg_disk_records.specs.declared.change.Change.{Change}
use Rattle.cg_disk_records.specs.declared.checkpoint.Checkpoint.{Checkpoint}
use Rattle.cg_disk_records.specs.Stored.{Stored}
use Rattle.cg_disk_records.specs.Change.{spelled_change}
use Rattle.cg_disk_records.specs.Checkpoint.{spelled_parts, parts_of, spelled_checkpoint}
use Rattle.cg_disk_records.specs.Limits.{IsChange, IsStored, AreParts}
use Rattle.cg_disk_records.specs.Reading.{change_reading, checkpoint_reading}
use Rattle.cg_disk_records.specs.Parts.{red_cut_of, stored_in, Fits, do_agree, checkpoint_of, read_value, change_in, Saved, saved_in, saved_of, checkpoint_in}
use Rattle.cg_disk_records.specs.NameLaws.{small-cut, names-within}
use Rattle.cg_disk_records.specs.Laws.{IsCheckpoint, FindsCheckpoint}
use Rattle.cg_disk_records.proofs.ChangeFields.{change_whole}
use Rattle.cg_disk_records.proofs.CheckpointFields.{parts_whole}
use Rattle.cg_disk_records.proofs.Agreeing.{fits-agree, agree-fits, small-raised}
use Rattle.cg_disk_records.specs.Agreeing.{Agrees}
use Rattle.cg_disk_records.specs.PartLaws.{parts-within, same_saved}

-- ---- changes

pub change-again : (c : Change) → IsChange c → change_in (spelled_change c) ≡ Some c
unfolding change_in
change-again c has = ap read_value (change_whole.again c has)

same_change : (c d : Change) → read_value {X = Change} (Ok c) ≡ Some d → c ≡ d
same_change c d e = cc

change-at : (c : Change) (bytes : List ℕ) (r : Result Change CodecFault) → AreBytes bytes → whole change_reading bytes ≡ r → read_value r ≡ Some c → IsChange c × (bytes ≡ spelled_change c)
change-at c bytes (Ok d) fits read found = change_whole.found c bytes fits (read ∙ ap Ok (same_change d c found))
change-at c bytes (Err fault) fits read found = absurd cc

pub change-found : (c : Change) (bytes : List ℕ) → AreBytes bytes → change_in bytes ≡ Some c → IsChange c × (bytes ≡ spelled_change c)
unfolding change_in
change-found c bytes fits found = change-at c bytes (whole change_reading bytes) fits refl found

-- ---- the parts of a state, and the state of parts

stored-again : (generation : ℕ) (s : Stored) → Agrees s → stored_in s.id (parts_of generation s) ≡ s
stored-again generation s agrees = λ i. record {
  id = s.id;
  queue = record {
    white = s.queue.white;
    greens = s.queue.greens;
    green_cut = s.queue.green_cut;
    red_cut = sym agrees.red_cut i;
    reds = s.queue.reds;
    yellow = s.queue.yellow;
  };
  yellow_valid = s.yellow_valid;
  own = s.own;
  db = s.db;
  members = s.members;
  prim = s.prim;
  attempt_index = s.attempt_index;
  vulnerable = s.vulnerable;
  buffered = sym agrees.buffered i;
  owed = sym agrees.owed i;
}

fits-stored : (generation : ℕ) (s : Stored) → Agrees s → Fits s.id (parts_of generation s)
fits-stored generation s agrees =
    let same = stored-again generation s agrees in
    record { count = refl; created = sym (ap created same); agrees = subst Agrees (sym same) agrees }

parts-again : (id : ℕ) (p : Checkpoint) → Fits id p → parts_of p.generation (stored_in id p) ≡ p
parts-again id p fits = λ i. record {
  generation = p.generation;
  stable = record {
    prim = p.stable.prim;
    attempt_index = p.stable.attempt_index;
    vulnerable = p.stable.vulnerable;
    yellow = p.stable.yellow;
    created = sym fits.created i;
  };
  reached = record { count = sym fits.count i; white = p.reached.white; cut = p.reached.cut; members = p.reached.members };
  db = p.db;
  kept = p.kept;
}

small-red_cut : (p : Checkpoint) → AreParts p → IsSmallCut (red_cut_of p)
small-red_cut p are =
    let cut = are.reached.cut in
    let raised = IsCut-raised p.reached.cut (names_of p.kept.reds) (small-cut p.reached.cut cut) (names-within p.kept.reds are.kept.reds.each) in
    record { ascends = raised.ascends; indexes = small-raised p.kept.reds p.reached.cut cut.indexes are.kept.reds.each }

stored-within : (id : ℕ) (p : Checkpoint) → IsId id → AreParts p → Fits id p → IsStored (stored_in id p)
stored-within id p is are fits = record {
  id = is;
  stable = subst IsStable (sym (ap (λ (q : Checkpoint). q.stable) (parts-again id p fits))) are.stable;
  queue = record {
    count = subst IsNumber fits.count are.reached.count;
    green_cut = are.reached.cut;
    red_cut = small-red_cut p are;
    greens = are.kept.greens;
    reds = are.kept.reds;
  };
  members = are.reached.members;
  short = are.db.short;
  entries = are.db.entries;
  ascends = are.db.ascends;
  own = are.kept.own;
}

-- ---- checkpoints

abbrev saved : ℕ → Stored → Saved
saved generation s = record { generation = generation; content = s }

abbrev stands : ℕ → Stored → Option Saved
stands generation s = Some (saved generation s)

again : (generation : ℕ) (s : Stored) → IsNumber generation → IsStored s → Agrees s → checkpoint_in s.id (spelled_checkpoint generation s) ≡ Some (saved generation s)
unfolding checkpoint_in spelled_checkpoint
again generation s small is agrees =
    let p = parts_of generation s in
    let within = parts-within generation s small is in
    let read : whole checkpoint_reading (spelled_parts p) ≡ Ok p = parts_whole.again p within in
    let agree : do_agree s.id p ≡ true = fits-agree s.id p within (fits-stored generation s agrees) in
    ap (λ (r : Result Checkpoint CodecFault). option_and_then (saved_of s.id) (read_value r)) read
    ∙ ap (λ b. cond b (stands generation (stored_in s.id p)) None) agree
    ∙ ap (stands generation) (stored-again generation s agrees)

pub checkpoint-again : (id : ℕ) (bytes : List ℕ) (generation : ℕ) (s : Stored) → IsCheckpoint id bytes generation s → checkpoint_in id bytes ≡ Some (saved generation s)
checkpoint-again id bytes generation s is =
    subst (λ k. checkpoint_in k bytes ≡ stands generation s) is.of (ap (checkpoint_in s.id) is.spelled ∙ again generation s is.small is.is is.agrees)

checkpoint-is : (id : ℕ) (bytes : List ℕ) (p : Checkpoint) → IsId id → AreParts p → bytes ≡ spelled_parts p → Fits id p → IsCheckpoint id bytes p.generation (stored_in id p)
unfolding spelled_checkpoint
checkpoint-is id bytes p is are spelled fits = record {
  spelled = spelled ∙ ap spelled_parts (sym (parts-again id p fits));
  small = are.generation;
  of = refl;
  is = stored-within id p is are fits;
  agrees = fits.agrees;
}

checkpoint-at : (id : ℕ) (bytes : List ℕ) (generation : ℕ) (s : Stored) (p : Checkpoint) → IsId id → AreParts p → bytes ≡ spelled_parts p → (b : Bool) → do_agree id p ≡ b
    → cond b (stands p.generation (stored_in id p)) None ≡ stands generation s → IsCheckpoint id bytes generation s
checkpoint-at id bytes generation s p is are spelled true agree found =
    subst (λ (q : Saved). IsCheckpoint id bytes q.generation q.content) (same_saved (saved_in id p) (saved generation s) found) (checkpoint-is id bytes p is are spelled (agree-fits id p are agree))
checkpoint-at id bytes generation s p is are spelled false agree found = absurd cc

found-at : (id : ℕ) (bytes : List ℕ) (generation : ℕ) (s : Stored) (r : Result Checkpoint CodecFault) → IsId id → AreBytes bytes → whole checkpoint_reading bytes ≡ r
    → option_and_then (saved_of id) (read_value r) ≡ stands generation s → IsCheckpoint id bytes generation s
found-at id bytes generation s (Ok p) is fits read found =
    let given = parts_whole.found p bytes fits read in
    checkpoint-at id bytes generation s p is given.0 given.1 (do_agree id p) refl found
found-at id bytes generation s (Err fault) is fits read found = absurd cc

pub checkpoint-found : (id : ℕ) (bytes : List ℕ) (x : Saved) → IsId id → AreBytes bytes → checkpoint_in id bytes ≡ Some x → IsCheckpoint id bytes x.generation x.content
unfolding checkpoint_in
checkpoint-found id bytes x is fits found = found-at id bytes x.generation x.content (whole checkpoint_reading bytes) is fits refl found

pub checkpoint-one : (id : ℕ) (bytes : List ℕ) (g h : ℕ) (s t : Stored) → IsCheckpoint id bytes g s → IsCheckpoint id bytes h t → (g ≡ h) × (s ≡ t)
checkpoint-one id bytes g h s t first second =
    let same = same_saved (saved g s) (saved h t) (sym (checkpoint-again id bytes g s first) ∙ checkpoint-again id bytes h t second) in
    (ap (λ (q : Saved). q.generation) same, ap (λ (q : Saved). q.content) same)

-- ---- what calls find

pub checkpoint-finds : (id : ℕ) (bytes : List ℕ) (p : Checkpoint) → IsId id → AreParts p → whole checkpoint_reading bytes ≡ Ok p → do_agree id p ≡ true → FindsCheckpoint id bytes (Some p)
unfolding checkpoint_in
checkpoint-finds id bytes p is are read agree =
    let fits = agree-fits id p are agree in (
      ap (λ (r : Result Checkpoint CodecFault). option_and_then (saved_of id) (read_value r)) read ∙ ap (λ b. cond b (stands p.generation (stored_in id p)) None) agree,
      record { parts = are; fits = fits; stored = stored-within id p is are fits },
    )

pub checkpoint-apart : (id : ℕ) (bytes : List ℕ) (p : Checkpoint) → whole checkpoint_reading bytes ≡ Ok p → do_agree id p ≡ false → FindsCheckpoint id bytes None
unfolding checkpoint_in
checkpoint-apart id bytes p read agree =
    ap (λ (r : Result Checkpoint CodecFault). option_and_then (saved_of id) (read_value r)) read ∙ ap (λ b. cond b (stands p.generation (stored_in id p)) None) agree

pub checkpoint-none : (id : ℕ) (bytes : List ℕ) (fault : CodecFault) → whole checkpoint_reading bytes ≡ Err fault → FindsCheckpoint id bytes None
unfolding checkpoint_in
checkpoint-none id bytes fault read = ap (λ (r : Result Checkpoint CodecFault). option_and_then (saved_of id) (read_value r)) read

agreed-at : (id : ℕ) (bytes : List ℕ) (p : Checkpoint) → IsId id → AreParts p → whole checkpoint_reading bytes ≡ Ok p → (b : Bool) → do_agree id p ≡ b → FindsCheckpoint id bytes (cond b (Some p) None)
agreed-at id bytes p is are read true agree = checkpoint-finds id bytes p is are read agree
agreed-at id bytes p is are read false agree = checkpoint-apart id bytes p read agree

pub checkpoint-told : (id : ℕ) (bytes : List ℕ) (p : Checkpoint) (o : Option Checkpoint) → IsId id → AreParts p → whole checkpoint_reading bytes ≡ Ok p → o ≡ checkpoint_of id p → FindsCheckpoint id bytes o
checkpoint-told id bytes p o is are read told = subst (FindsCheckpoint id bytes) (sym told) (agreed-at id bytes p is are read (do_agree id p) refl)

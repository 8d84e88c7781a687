-- Offsets that no write since the last sync has touched keep their bytes, and don't count.
use Rattle.std.proofs.Common.{◌≡◌, ℕ, zero, suc, ◌+◌, ◌-◌, ◌≤◌, ◌<◌, false, All, List, [], ◌∷◌, ◌++◌, length, take, drop, reverse, refl, ◌∙◌, ap, arith}
use Rattle.std.specs.Bool.{if◌then◌else◌}
use Rattle.std.specs.List.{slice_get}
use Rattle.std.proofs.lemmas.List.{take_all, drop_all, append-nil}
use Rattle.cg_disk.specs.State.{SideState, is_unsynced, fill_offset, filled_from, unsynced_from}
use Rattle.cg_disk.specs.Undo.{ranges, side_after}
use Rattle.cg_disk.specs.declared.written.Written.{Written}
use Rattle.cg_disk.proofs.Offsets.{among_reverse, none_below}

-- no offset of these, so many from one on, was written
abbrev pub Untouched : SideState → ℕ → ℕ → Type 0
Untouched s offset count = (k : ℕ) → offset ≤ k → k < offset + count → is_unsynced s.unsynced k ≡ false

untouched_rest : (s : SideState) (offset count : ℕ) → Untouched s offset (suc count) → Untouched s (suc offset) count
untouched_rest s offset count free k above below = free k (omega arith) (omega arith)

pub filled_past : (s : SideState) (offset count : ℕ) (seen fill : List ℕ) → Untouched s offset count → filled_from s offset seen fill ≡ take count seen ++ filled_from s (offset + count) (drop count seen) fill
filled_past s offset zero seen fill free = ap (λ n. filled_from s n seen fill) (let e : offset ≡ offset + 0 = omega arith in e)
filled_past s offset (suc count) [] fill free = refl
filled_past s offset (suc count) (x ∷ seen) fill free =
    let kept : is_unsynced s.unsynced offset ≡ false = free offset (omega arith) (omega arith) in
    let next : suc offset + count ≡ offset + suc count = omega arith in
    (λ i. if kept i then fill_offset fill (slice_get s.old offset) (filled_from s (suc offset) seen) else x ∷ filled_from s (suc offset) seen fill)
    ∙ ap (λ (l : List ℕ). x ∷ l) (filled_past s (suc offset) count seen fill (untouched_rest s offset count free) ∙ ap (λ n. take count seen ++ filled_from s n (drop count seen) fill) next)

pub unsynced_past : (s : SideState) (offset count : ℕ) (seen : List ℕ) → Untouched s offset count → unsynced_from s offset seen ≡ unsynced_from s (offset + count) (drop count seen)
unsynced_past s offset zero seen free = ap (λ n. unsynced_from s n seen) (let e : offset ≡ offset + 0 = omega arith in e)
unsynced_past s offset (suc count) [] free = refl
unsynced_past s offset (suc count) (x ∷ seen) free =
    let kept : is_unsynced s.unsynced offset ≡ false = free offset (omega arith) (omega arith) in
    let next : suc offset + count ≡ offset + suc count = omega arith in
    let none : 0 + unsynced_from s (suc offset) seen ≡ unsynced_from s (suc offset) seen = omega arith in
    ap {B = ℕ} (λ b. (if b then 1 else 0) + unsynced_from s (suc offset) seen) kept
    ∙ none
    ∙ unsynced_past s (suc offset) count seen (untouched_rest s offset count free)
    ∙ ap (λ n. unsynced_from s n (drop count seen)) next

-- the rest of a side
pub filled_rest : (s : SideState) (offset : ℕ) (seen fill : List ℕ) → Untouched s offset (length seen) → filled_from s offset seen fill ≡ seen
filled_rest s offset seen fill free =
    filled_past s offset (length seen) seen fill free
    ∙ ap (λ (l : List ℕ). take (length seen) seen ++ filled_from s (offset + length seen) l fill) (drop_all (length seen) seen (omega arith))
    ∙ append-nil (take (length seen) seen)
    ∙ take_all (length seen) seen (omega arith)

pub unsynced_rest : (s : SideState) (offset : ℕ) (seen : List ℕ) → Untouched s offset (length seen) → unsynced_from s offset seen ≡ 0
unsynced_rest s offset seen free =
    unsynced_past s offset (length seen) seen free
    ∙ ap (λ (l : List ℕ). unsynced_from s (offset + length seen) l) (drop_all (length seen) seen (omega arith))

-- below the lowest offset of its writes a side is untouched, and so it is from their highest end on
pub untouched_below : (bytes : List ℕ) (writes : List Written) (from : ℕ) → All (λ w. from ≤ w.offset) writes → Untouched (side_after bytes (reverse writes)) 0 from
untouched_below bytes writes from above k low below = among_reverse writes k ∙ none_below writes from k above (omega arith)

pub untouched_behind : (bytes : List ℕ) (writes : List Written) (to limit offset : ℕ) → ((k : ℕ) → to ≤ k → k < limit → is_unsynced (ranges writes) k ≡ false) → to ≤ offset → Untouched (side_after bytes (reverse writes)) offset (limit - offset)
untouched_behind bytes writes to limit offset none past k above below = among_reverse writes k ∙ none k (omega arith) (omega arith)

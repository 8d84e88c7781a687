-- What each fill leaves of a side is one of the images that a crash may leave.
use Rattle.std.proofs.Common.{◌≡◌, ⊎_elim, ℕ, suc, zero, ◌+◌, ◌≤◌, ◌<◌, Bool, true, false, List, [], ◌∷◌, length, get_or, drop, Option, Some, None, refl, ◌∙◌, ap, arith}
use Rattle.std.specs.List.{slice_get}
use Rattle.std.specs.Bool.{if◌then◌else◌}
use Rattle.std.proofs.lemmas.List.{ext_get_or, drop_more}
use Rattle.std.proofs.lemmas.Option.{slice_get_cases, slice_get-get_or, slice_get_past}
use Rattle.cg_disk.specs.State.{SideState, LeavesSide, is_unsynced, fill_offset, filled_from, filled}

-- what the bytes from an offset on come to
record FromOffset (s : SideState) (offset : ℕ) (seen c : List ℕ) : Type 0 where
  no_shorter : length s.old ≤ offset + length seen → length s.old ≤ offset + length c
  no_longer : length c ≤ length seen
  same : (k : ℕ) → k < length c → is_unsynced s.unsynced (offset + k) ≡ false → get_or c k 0 ≡ get_or seen k 0

one_more : (s : SideState) (offset x : ℕ) (seen c : List ℕ) → FromOffset s (suc offset) seen c → FromOffset s offset (x ∷ seen) (x ∷ c)
one_more s offset x seen c rest = record {
  no_shorter = λ h. omega (arith, rest.no_shorter);
  no_longer = omega (arith, rest.no_longer);
  same = offsets;
}
  where
    offsets : (k : ℕ) → k < length (x ∷ c) → is_unsynced s.unsynced (offset + k) ≡ false → get_or (x ∷ c) k 0 ≡ get_or (x ∷ seen) k 0
    offsets zero inside free = refl
    offsets (suc k) inside free = rest.same k (omega arith) (let e : suc offset + k ≡ offset + suc k = omega arith in ap (is_unsynced s.unsynced) e ∙ free)

-- an offset that keeps a byte
byte_kept : (s : SideState) (offset x : ℕ) (seen c : List ℕ) → (is_unsynced s.unsynced offset ≡ false → ⊥) → (byte : ℕ) → FromOffset s (suc offset) seen c → FromOffset s offset (x ∷ seen) (byte ∷ c)
byte_kept s offset x seen c written byte rest = record {
  no_shorter = λ h. omega (arith, rest.no_shorter);
  no_longer = omega (arith, rest.no_longer);
  same = offsets;
}
  where
    offsets : (k : ℕ) → k < length (byte ∷ c) → is_unsynced s.unsynced (offset + k) ≡ false → get_or (byte ∷ c) k 0 ≡ get_or (x ∷ seen) k 0
    offsets zero inside free = absurd (written (let e : offset ≡ offset + 0 = omega arith in ap (is_unsynced s.unsynced) e ∙ free))
    offsets (suc k) inside free = rest.same k (omega arith) (let e : suc offset + k ≡ offset + suc k = omega arith in ap (is_unsynced s.unsynced) e ∙ free)

ended : (s : SideState) (offset : ℕ) (seen : List ℕ) → length s.old ≤ offset → FromOffset s offset seen []
ended s offset seen past = record { no_shorter = λ h. omega arith; no_longer = omega arith; same = λ k inside free. absurd (omega arith) }

module _ (s : SideState) (offset x : ℕ) (seen : List ℕ) (rest : (fill : List ℕ) → FromOffset s (suc offset) seen (filled_from s (suc offset) seen fill)) where
  by_fill : (fill : List ℕ) (old : Option ℕ) → slice_get s.old offset ≡ old → (is_unsynced s.unsynced offset ≡ false → ⊥) → FromOffset s offset (x ∷ seen) (fill_offset fill old (filled_from s (suc offset) seen))
  by_fill (byte ∷ fill) old is written = byte_kept s offset x seen _ written byte (rest fill)
  by_fill [] (Some byte) is written = byte_kept s offset x seen _ written byte (rest [])
  by_fill [] None is written = ended s offset (x ∷ seen) (⊎_elim (λ there. absurd (let e : slice_get s.old offset ≡ Some there.0 = there.2 in cc)) (λ past. past.0) (slice_get_cases s.old offset).1)

  by_test : (fill : List ℕ) (test : Bool) → is_unsynced s.unsynced offset ≡ test → FromOffset s offset (x ∷ seen) (if test then fill_offset fill (slice_get s.old offset) (filled_from s (suc offset) seen) else x ∷ filled_from s (suc offset) seen fill)
  by_test fill false is = one_more s offset x seen _ (rest fill)
  by_test fill true is = by_fill fill (slice_get s.old offset) refl (λ free. absurd (cc (is, free)))

from_offset : (s : SideState) (offset : ℕ) (seen fill : List ℕ) → FromOffset s offset seen (filled_from s offset seen fill)
from_offset s offset [] fill = record { no_shorter = λ h. h; no_longer = omega arith; same = λ k inside free. refl }
from_offset s offset (x ∷ seen) fill = by_test s offset x seen (from_offset s (suc offset) seen) fill (is_unsynced s.unsynced offset) refl

pub filled_leaves : (s : SideState) (fill : List ℕ) → length s.old ≤ length s.seen → LeavesSide s (filled s fill)
filled_leaves s fill grown =
    let from = from_offset s 0 s.seen fill in
    record {
      no_shorter = omega (arith, from.no_shorter (omega arith));
      no_longer = from.no_longer;
      same = λ k inside free. from.same k inside (let e : 0 + k ≡ k = omega arith in ap (is_unsynced s.unsynced) e ∙ free);
    }

-- so is what a read gives
pub seen_leaves : (s : SideState) → length s.old ≤ length s.seen → LeavesSide s s.seen
seen_leaves s grown = record { no_shorter = grown; no_longer = omega arith; same = λ k inside free. refl }

-- with no unsynced offset there is no other
pub only_seen : (s : SideState) (c : List ℕ) → s.unsynced ≡ [] → s.old ≡ s.seen → LeavesSide s c → c ≡ s.seen
only_seen s c none same left =
    ext_get_or 0 c s.seen (let e = ap length same in omega (arith, left.no_shorter, left.no_longer, e)) (λ k inside. left.same k inside (ap (λ ranges. is_unsynced ranges k) none))

-- one offset more of what a fill leaves
module _ (s : SideState) (offset : ℕ) (seen : List ℕ) (inside : offset < length seen) where
  opened : (fill : List ℕ) → filled_from s offset (drop offset seen) fill ≡ filled_from s offset (get_or seen offset 0 ∷ drop (offset + 1) seen) fill
  opened fill = ap (λ (l : List ℕ). filled_from s offset l fill) (drop_more seen offset 0 inside)

  next : suc offset ≡ offset + 1
  next = omega arith

  pub fill_kept : (fill : List ℕ) → is_unsynced s.unsynced offset ≡ false → filled_from s offset (drop offset seen) fill ≡ get_or seen offset 0 ∷ filled_from s (offset + 1) (drop (offset + 1) seen) fill
  fill_kept fill free = opened fill ∙ (λ i. if free i then fill_offset fill (slice_get s.old offset) (filled_from s (suc offset) (drop (offset + 1) seen)) else get_or seen offset 0 ∷ filled_from s (next i) (drop (offset + 1) seen) fill)

  pub fill_next : (byte : ℕ) (fill : List ℕ) → is_unsynced s.unsynced offset ≡ true → filled_from s offset (drop offset seen) (byte ∷ fill) ≡ byte ∷ filled_from s (offset + 1) (drop (offset + 1) seen) fill
  fill_next byte fill written = opened (byte ∷ fill) ∙ (λ i. if written i then byte ∷ filled_from s (next i) (drop (offset + 1) seen) fill else get_or seen offset 0 ∷ filled_from s (suc offset) (drop (offset + 1) seen) (byte ∷ fill))

  pub fill_old : offset < length s.old → is_unsynced s.unsynced offset ≡ true → filled_from s offset (drop offset seen) [] ≡ get_or s.old offset 0 ∷ filled_from s (offset + 1) (drop (offset + 1) seen) []
  fill_old there written = opened [] ∙ (λ i. if written i then fill_offset [] (slice_get-get_or s.old offset 0 there i) (filled_from s (next i) (drop (offset + 1) seen)) else get_or seen offset 0 ∷ filled_from s (suc offset) (drop (offset + 1) seen) [])

  pub fill_ends : length s.old ≤ offset → is_unsynced s.unsynced offset ≡ true → filled_from s offset (drop offset seen) [] ≡ []
  fill_ends past written = opened [] ∙ (λ i. if written i then fill_offset [] (slice_get_past s.old offset past i) (filled_from s (suc offset) (drop (offset + 1) seen)) else get_or seen offset 0 ∷ filled_from s (suc offset) (drop (offset + 1) seen) [])

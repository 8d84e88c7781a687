-- What a fill leaves of a disk on which only a gate is unsynced, or nothing.
use Rattle.std.proofs.Common.{◌≡◌, ℕ, zero, suc, ◌+◌, ◌<◌, true, false, List, [], ◌∷◌, length, get_or, drop, Some, refl, ◌∙◌, ap, arith}
use Rattle.std.specs.Bool.{if◌then◌else◌}
use Rattle.std.specs.List.{slice_get}
use Rattle.std.proofs.lemmas.Option.{slice_get-get_or}
use Rattle.std.proofs.lemmas.Bool.Decides.{nat_tests}
use Rattle.cg_disk.specs.State.{Range, SideState, DiskState, is_unsynced, fill_offset, filled_from, filled, unsynced_from, left_by, shown}

-- nothing is unsynced
clean_from : (s : SideState) → s.unsynced ≡ [] → (offset : ℕ) (seen fill : List ℕ) → filled_from s offset seen fill ≡ seen
clean_from s none offset [] fill = refl
clean_from s none offset (x ∷ seen) fill =
    (λ i. if is_unsynced (none i) offset then fill_offset fill (slice_get s.old offset) (filled_from s (suc offset) seen) else x ∷ filled_from s (suc offset) seen fill)
    ∙ ap (λ (l : List ℕ). x ∷ l) (clean_from s none (suc offset) seen fill)

pub filled_clean : (s : SideState) (fill : List ℕ) → s.unsynced ≡ [] → filled s fill ≡ s.seen
filled_clean s fill none = clean_from s none 0 s.seen fill

none_from : (s : SideState) → s.unsynced ≡ [] → (offset : ℕ) (seen : List ℕ) → unsynced_from s offset seen ≡ 0
none_from s none offset [] = refl
none_from s none offset (x ∷ seen) = (λ i. (if is_unsynced (none i) offset then 1 else 0) + unsynced_from s (suc offset) seen) ∙ zero_plus (unsynced_from s (suc offset) seen) ∙ none_from s none (suc offset) seen
  where
    zero_plus : (n : ℕ) → 0 + n ≡ n
    zero_plus n = omega arith

pub no_offsets : (s : SideState) → s.unsynced ≡ [] → unsynced_from s 0 s.seen ≡ 0
no_offsets s none = none_from s none 0 s.seen

pub left_clean : (e : DiskState) (fill : List ℕ) → e.a.unsynced ≡ [] → e.b.unsynced ≡ [] → left_by e fill ≡ shown e
left_clean e fill a b =
    let on_a = filled_clean e.a fill a in
    let on_b = filled_clean e.b (drop (unsynced_from e.a 0 e.a.seen) fill) b in
    λ i. record { a = on_a i; b = on_b i }

-- the first byte of a fill, or the one that was there
abbrev pub first_or : List ℕ → ℕ → ℕ
first_or [] old = old
first_or (byte ∷ fill) old = byte

-- one offset is unsynced
abbrev pub gate_range : ℕ → List Range
gate_range gate = record { from = gate; to = gate + 1 } ∷ []

at_gate : (gate : ℕ) → is_unsynced (gate_range gate) gate ≡ true
at_gate gate = grind (arith, nat_tests)

off_gate : (gate offset : ℕ) → offset < gate → is_unsynced (gate_range gate) offset ≡ false
off_gate gate offset below = grind (arith, nat_tests)

pub is_gate : (gate offset : ℕ) → is_unsynced (gate_range gate) offset ≡ true → offset ≡ gate
is_gate gate offset hit = grind (arith, nat_tests)

filled_there : (fill : List ℕ) (byte : ℕ) (rest : List ℕ → List ℕ) → get_or (fill_offset fill (Some byte) rest) 0 0 ≡ first_or fill byte
filled_there [] byte rest = refl
filled_there (b ∷ fill) byte rest = refl

module _ (s : SideState) (gate : ℕ) (only : s.unsynced ≡ gate_range gate) (there : gate < length s.old) where
  gate_from : (d offset : ℕ) (seen fill : List ℕ) → offset + d ≡ gate → d < length seen → get_or (filled_from s offset seen fill) d 0 ≡ first_or fill (get_or s.old gate 0)
  gate_from d offset [] fill at inside = absurd (omega arith)
  gate_from zero offset (x ∷ seen) fill at inside =
      let here : offset ≡ gate = omega arith in
      let hit : is_unsynced s.unsynced offset ≡ true = ap (λ ranges. is_unsynced ranges offset) only ∙ ap (is_unsynced (gate_range gate)) here ∙ at_gate gate in
      let old : slice_get s.old offset ≡ Some (get_or s.old gate 0) = ap (slice_get s.old) here ∙ slice_get-get_or s.old gate 0 there in
      (λ i. get_or (if hit i then fill_offset fill (old i) (filled_from s (suc offset) seen) else x ∷ filled_from s (suc offset) seen fill) 0 0)
      ∙ filled_there fill (get_or s.old gate 0) (filled_from s (suc offset) seen)
  gate_from (suc d) offset (x ∷ seen) fill at inside =
      let miss : is_unsynced s.unsynced offset ≡ false = ap (λ ranges. is_unsynced ranges offset) only ∙ off_gate gate offset (omega arith) in
      (λ i. get_or (if miss i then fill_offset fill (slice_get s.old offset) (filled_from s (suc offset) seen) else x ∷ filled_from s (suc offset) seen fill) (suc d) 0)
      ∙ gate_from d (suc offset) seen fill (omega arith) (omega arith)

  pub filled_gate : (fill : List ℕ) → gate < length s.seen → get_or (filled s fill) gate 0 ≡ first_or fill (get_or s.old gate 0)
  filled_gate fill inside = gate_from gate 0 s.seen fill (omega arith) inside

-- What a crash may leave of a side after a write, it may leave before it or make of that by tearing the write.
use Rattle.std.proofs.Common.{◌≡◌, inl, inr, ⊎_elim, ◌⊎◌, ℕ, ◌+◌, ◌-◌, ◌≤◌, ◌<◌, min, false, List, [], ◌∷◌, ◌++◌, length, get_or, take, drop, sym, ◌∙◌, ap, arith, length-append, length-drop, length-take, append_assoc}
use Rattle.std.proofs.lemmas.List.{get_or-take, get_or-drop, get_or_append_left, get_or-append_right, take_at, drop_at, take_all, drop_all, append-nil, length-take-le}
use Rattle.std.proofs.lemmas.Bool.{cases_lt}
use Rattle.std.proofs.lemmas.Bool.Decides.{nat_tests}
use Rattle.cg_disk.specs.State.{Range, SideState, LeavesSide, is_unsynced, wrote_side}
use Rattle.cg_disk.specs.Writes.{Torn, overwritten}
use Rattle.cg_disk.proofs.Undoing.{take_overwritten, drop_overwritten, length-overwritten}

-- an offset in a new range, or not
out_of_range : (from to k : ℕ) (ranges : List Range) → (k < from) ⊎ (to ≤ k) → is_unsynced ranges k ≡ false → is_unsynced (record { from = from; to = to } ∷ ranges) k ≡ false
out_of_range from to k ranges (inl below) free = grind (arith, nat_tests)
out_of_range from to k ranges (inr above) free = grind (arith, nat_tests)

still_free : (from to k : ℕ) (ranges : List Range) → is_unsynced (record { from = from; to = to } ∷ ranges) k ≡ false → is_unsynced ranges k ≡ false
still_free from to k ranges free = grind (arith, nat_tests)

is_outside : (from to k : ℕ) (ranges : List Range) → is_unsynced (record { from = from; to = to } ∷ ranges) k ≡ false → (k < from) ⊎ (to ≤ k)
is_outside from to k ranges free = grind (arith, nat_tests)

module _ (seen new : List ℕ) (offset : ℕ) (inside : offset ≤ length seen) where
  end : ℕ
  end = offset + length new

  -- outside of the range a write changes nothing
  unchanged : (k : ℕ) → (k < offset) ⊎ (offset + length new ≤ k) → get_or (overwritten seen offset new) k 0 ≡ get_or seen k 0
  unchanged k (inl below) = sym (get_or-take offset (overwritten seen offset new) k 0 below) ∙ ap (λ (l : List ℕ). get_or l k 0) (take_overwritten seen new offset inside) ∙ get_or-take offset seen k 0 below
  unchanged k (inr above) =
      let at : offset + length new + (k - (offset + length new)) ≡ k = omega arith in
      ap (λ n. get_or (overwritten seen offset new) n 0) (sym at)
      ∙ sym (get_or-drop (offset + length new) (overwritten seen offset new) (k - (offset + length new)) 0)
      ∙ ap (λ (l : List ℕ). get_or l (k - (offset + length new)) 0) (drop_overwritten seen new offset inside)
      ∙ get_or-drop (offset + length new) seen (k - (offset + length new)) 0
      ∙ ap (λ n. get_or seen n 0) at

-- a side grows by a write: what a crash might have left before it may still leave
pub grows : (s : SideState) (new : List ℕ) (offset : ℕ) → offset ≤ length s.seen → (c : List ℕ) → LeavesSide s c → LeavesSide (wrote_side offset new s) c
grows s new offset inside c left = record {
  no_shorter = left.no_shorter;
  no_longer = omega (arith, left.no_longer, length-overwritten s.seen new offset inside);
  same = λ k in_c free.
      left.same k in_c (still_free offset (offset + length new) k s.unsynced free)
      ∙ sym (unchanged s.seen new offset inside k (is_outside offset (offset + length new) k s.unsynced free));
}

module _ (s : SideState) (new : List ℕ) (offset : ℕ) (inside : offset ≤ length s.seen) (grown : length s.old ≤ length s.seen) (c : List ℕ) (left : LeavesSide (wrote_side offset new s) c) where
  longest : length c ≤ offset + length new + (length s.seen - (offset + length new))
  longest = omega (arith, left.no_longer, length-overwritten s.seen new offset inside)

  outside : (k : ℕ) → k < length c → (k < offset) ⊎ (offset + length new ≤ k) → is_unsynced s.unsynced k ≡ false → get_or c k 0 ≡ get_or s.seen k 0
  outside k in_c out free = left.same k in_c (out_of_range offset (offset + length new) k s.unsynced out free) ∙ unchanged s.seen new offset inside k out

  -- the image ends within the write's range
  module _ (ends : length c ≤ offset + length new) where
    short : List ℕ
    short = take offset c ++ take (length c - offset) (drop offset s.seen)

    length-short : length (take offset c ++ take (length c - offset) (drop offset s.seen)) ≡ min (length c) (length s.seen)
    length-short = omega (arith, length-append (take offset c) (take (length c - offset) (drop offset s.seen)), length-take offset c, length-take (length c - offset) (drop offset s.seen), length-drop offset s.seen)

    at_front : (k : ℕ) → k < length c → k < offset → get_or (take offset c ++ take (length c - offset) (drop offset s.seen)) k 0 ≡ get_or c k 0
    at_front k in_c below = get_or_append_left (take offset c) _ 0 k (omega (arith, length-take offset c)) ∙ get_or-take offset c k 0 below

    at_back : (k : ℕ) → k < length c → offset ≤ k → get_or (take offset c ++ take (length c - offset) (drop offset s.seen)) k 0 ≡ get_or s.seen k 0
    at_back k in_c above =
        let at : offset + (k - offset) ≡ k = omega arith in
        get_or-append_right (take offset c) _ offset k 0 (length-take-le offset c (omega arith)) above
        ∙ get_or-take (length c - offset) (drop offset s.seen) (k - offset) 0 (omega arith)
        ∙ get_or-drop offset s.seen (k - offset) 0
        ∙ ap (λ n. get_or s.seen n 0) at

    front : take offset c ≡ take offset (take offset c ++ take (length c - offset) (drop offset s.seen))
    front = elim (cases_lt (length c) offset) [
      | inl below ↦
          let none : take (length c - offset) (drop offset s.seen) ≡ [] = (let z : length c - offset ≡ 0 = omega arith in ap (λ n. take n (drop offset s.seen)) z) in
          ap (take offset) (sym (take_all offset c (omega arith))) ∙ ap (take offset) (sym (append-nil (take offset c)) ∙ ap (λ (l : List ℕ). take offset c ++ l) (sym none))
      | inr above ↦ sym (take_at (take offset c) _ offset (length-take-le offset c above))
    ]

    torn_short : (d : List ℕ) × LeavesSide s d × Torn offset (length new) d c
    torn_short = (
      take offset c ++ take (length c - offset) (drop offset s.seen),
      record {
        no_shorter = omega (arith, length-short, left.no_shorter);
        no_longer = omega (arith, length-short);
        same = λ k in_d free. ⊎_elim
            (λ below. at_front k (omega (arith, length-short)) below ∙ outside k (omega (arith, length-short)) (inl below) free)
            (λ above. at_back k (omega (arith, length-short)) above)
            (cases_lt k offset);
      },
      record {
        before = front;
        after = drop_all (offset + length new) c ends ∙ sym (drop_all (offset + length new) (take offset c ++ take (length c - offset) (drop offset s.seen)) (omega (arith, length-short)));
        no_shorter = omega (arith, length-short);
        no_longer = omega (arith, length-short);
      },
    )

  -- the image goes on behind it
  module _ (goes_on : offset + length new < length c) where
    over : List ℕ
    over = take (length new) (drop offset s.seen)

    length-front : length (take offset c) ≡ offset
    length-front = length-take-le offset c (omega arith)

    length-over : length (take (length new) (drop offset s.seen)) ≡ length new
    length-over = omega (arith, length-take (length new) (drop offset s.seen), length-drop offset s.seen, longest)

    length-both : length (take offset c ++ take (length new) (drop offset s.seen)) ≡ offset + length new
    length-both = omega (arith, length-append (take offset c) (take (length new) (drop offset s.seen)), length-front, length-over)

    length-long : length (take offset c ++ take (length new) (drop offset s.seen) ++ drop (offset + length new) c) ≡ length c
    length-long = omega (arith, length-append (take offset c ++ take (length new) (drop offset s.seen)) (drop (offset + length new) c), length-both, length-drop (offset + length new) c)

    at_before : (k : ℕ) → k < offset → get_or (take offset c ++ take (length new) (drop offset s.seen) ++ drop (offset + length new) c) k 0 ≡ get_or c k 0
    at_before k below =
        get_or_append_left (take offset c ++ take (length new) (drop offset s.seen)) _ 0 k (omega (arith, length-both))
        ∙ get_or_append_left (take offset c) _ 0 k (omega (arith, length-front))
        ∙ get_or-take offset c k 0 below

    at_over : (k : ℕ) → offset ≤ k → k < offset + length new → get_or (take offset c ++ take (length new) (drop offset s.seen) ++ drop (offset + length new) c) k 0 ≡ get_or s.seen k 0
    at_over k above below =
        let at : offset + (k - offset) ≡ k = omega arith in
        get_or_append_left (take offset c ++ take (length new) (drop offset s.seen)) _ 0 k (omega (arith, length-both))
        ∙ get_or-append_right (take offset c) _ offset k 0 length-front above
        ∙ get_or-take (length new) (drop offset s.seen) (k - offset) 0 (omega arith)
        ∙ get_or-drop offset s.seen (k - offset) 0
        ∙ ap (λ n. get_or s.seen n 0) at

    at_after : (k : ℕ) → offset + length new ≤ k → get_or (take offset c ++ take (length new) (drop offset s.seen) ++ drop (offset + length new) c) k 0 ≡ get_or c k 0
    at_after k above =
        let at : offset + length new + (k - (offset + length new)) ≡ k = omega arith in
        get_or-append_right (take offset c ++ take (length new) (drop offset s.seen)) _ (offset + length new) k 0 length-both above
        ∙ get_or-drop (offset + length new) c (k - (offset + length new)) 0
        ∙ ap (λ n. get_or c n 0) at

    same_offsets : (k : ℕ) → k < length c → is_unsynced s.unsynced k ≡ false → get_or (take offset c ++ take (length new) (drop offset s.seen) ++ drop (offset + length new) c) k 0 ≡ get_or s.seen k 0
    same_offsets k in_c free = ⊎_elim
        (λ below. at_before k below ∙ outside k in_c (inl below) free)
        (λ above. ⊎_elim (λ in_range. at_over k above in_range) (λ behind. at_after k behind ∙ outside k in_c (inr behind) free) (cases_lt k (offset + length new)))
        (cases_lt k offset)

    torn_long : (d : List ℕ) × LeavesSide s d × Torn offset (length new) d c
    torn_long = (
      take offset c ++ take (length new) (drop offset s.seen) ++ drop (offset + length new) c,
      record {
        no_shorter = omega (arith, length-long, left.no_shorter);
        no_longer = omega (arith, length-long, longest);
        same = λ k in_d free. same_offsets k (omega (arith, length-long)) free;
      },
      record {
        before = sym (ap (take offset) (append_assoc (take offset c) (take (length new) (drop offset s.seen)) (drop (offset + length new) c)) ∙ take_at (take offset c) _ offset length-front);
        after = sym (drop_at (take offset c ++ take (length new) (drop offset s.seen)) (drop (offset + length new) c) (offset + length new) length-both);
        no_shorter = omega (arith, length-long);
        no_longer = omega (arith, length-long);
      },
    )

  pub torn_from : (d : List ℕ) × LeavesSide s d × Torn offset (length new) d c
  torn_from = elim (cases_lt (offset + length new) (length c)) [ inl behind ↦ torn_long behind | inr within ↦ torn_short within ]

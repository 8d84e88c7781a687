-- The unsynced offsets of a side, in whatever order its writes are kept.
use Rattle.std.proofs.Common.{◌≡◌, ℕ, suc, ◌+◌, ◌≤◌, ◌<◌, All, Bool, false, ◌||◌, ◌&&◌, nat_le, nat_lt, List, [], ◌∷◌, ◌++◌, length, drop, reverse, refl, sym, ◌∙◌, ap, arith}
use Rattle.std.specs.Bool.{if◌then◌else◌}
use Rattle.std.proofs.lemmas.Bool.Decides.{nat_tests}
use Rattle.std.proofs.lemmas.List.{reverse-append, drop_more}
use Rattle.cg_disk.specs.State.{SideState, is_unsynced, unsynced_from}
use Rattle.cg_disk.specs.Undo.{ranges}
use Rattle.cg_disk.specs.declared.written.Written.{Written}
use Rattle.cg_base.specs.BoolLaws.{or_false, or_assoc, or_comm}

abbrev in_write : Written → ℕ → Bool
in_write x offset = nat_le x.offset offset && nat_lt offset (x.offset + x.count)

among_both : (xs ys : List Written) (offset : ℕ) → is_unsynced (ranges (xs ++ ys)) offset ≡ (is_unsynced (ranges xs) offset || is_unsynced (ranges ys) offset)
among_both [] ys offset = refl
among_both (x ∷ xs) ys offset = ap (λ b. in_write x offset || b) (among_both xs ys offset) ∙ sym (or_assoc (in_write x offset) (is_unsynced (ranges xs) offset) (is_unsynced (ranges ys) offset))

pub among_reverse : (xs : List Written) (offset : ℕ) → is_unsynced (ranges (reverse xs)) offset ≡ is_unsynced (ranges xs) offset
among_reverse [] offset = refl
among_reverse (x ∷ xs) offset =
    ap (λ (l : List Written). is_unsynced (ranges l) offset) (reverse-append (x ∷ []) xs)
    ∙ among_both (reverse xs) (x ∷ []) offset
    ∙ ap (λ b. b || is_unsynced (ranges (x ∷ [])) offset) (among_reverse xs offset)
    ∙ or_comm (is_unsynced (ranges xs) offset) (is_unsynced (ranges (x ∷ [])) offset)
    ∙ ap (λ b. b || is_unsynced (ranges xs) offset) (or_false (in_write x offset))

pub count_step : (s : SideState) (offset : ℕ) (seen : List ℕ) → offset < length seen → unsynced_from s offset (drop offset seen) ≡ (if is_unsynced s.unsynced offset then 1 else 0) + unsynced_from s (offset + 1) (drop (offset + 1) seen)
count_step s offset seen inside = ap (unsynced_from s offset) (drop_more seen offset 0 inside) ∙ ap (λ n. (if is_unsynced s.unsynced offset then 1 else 0) + unsynced_from s n (drop (offset + 1) seen)) (let e : suc offset ≡ offset + 1 = omega arith in e)

-- below the lowest offset of the writes none is unsynced
outside : (offset from : ℕ) (count : ℕ) → offset < from → (nat_le from offset && nat_lt offset (from + count)) ≡ false
outside offset from count below = grind (arith, nat_tests)

pub none_below : (xs : List Written) (from k : ℕ) → All (λ x. from ≤ x.offset) xs → k < from → is_unsynced (ranges xs) k ≡ false
none_below [] from k above below = refl
none_below (x ∷ xs) from k above below =
    ap (λ b. b || is_unsynced (ranges xs) k) (outside k x.offset x.count (let first : from ≤ x.offset = above 0 x (omega arith) in omega (arith, first)))
    ∙ none_below xs from k (λ j d inside. above (suc j) d (omega arith)) below

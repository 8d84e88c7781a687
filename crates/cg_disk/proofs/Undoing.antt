-- A write and what is kept of it give the bytes before.
use Rattle.std.proofs.Common.{◌≡◌, ℕ, suc, ◌+◌, ◌-◌, ◌≤◌, ◌<◌, min, List, [], ◌∷◌, ◌++◌, length, get_or, take, drop, reverse, Result, Ok, Err, refl, sym, is_ok, IsOk, if◌then◌else◌, ◌∙◌, ap, arith, append_assoc, length-append, length-drop, take-append-drop}
use Rattle.std.proofs.lemmas.List.{take_at, take_more, drop_at, take_min, drop-drop, reverse-append, length-take-le}
use Rattle.cg_disk.specs.Writes.{overwritten}
use Rattle.cg_disk.specs.State.{wrote_side}
use Rattle.cg_disk.specs.Undo.{undo, undone, ranges, side_after}
use Rattle.cg_disk.specs.declared.written.Written.{Written}

pub reverse_push : {X : Type 0} (xs : List X) (x : X) → reverse (xs ++ x ∷ []) ≡ x ∷ reverse xs
reverse_push xs x = reverse-append xs (x ∷ [])

-- a push that had room
pub pushed : {X T E : Type 0} (r : Result T E) (xs ys zs : List X) → IsOk r → zs ≡ (if is_ok r then ys else xs) → zs ≡ ys
pushed (Ok x) xs ys zs ok is = is
pushed (Err e) xs ys zs ok is = cc

-- of a side whose first bytes no write has touched it is enough to have the others
take_behind : (front bytes : List ℕ) (n : ℕ) → take (length front + n) (front ++ bytes) ≡ front ++ take n bytes
take_behind [] bytes n = let e : 0 + n ≡ n = omega arith in ap (λ k. take k bytes) e
take_behind (x ∷ front) bytes n =
    let e : suc (length front) + n ≡ suc (length front + n) = omega arith in
    ap (λ k. take k (x ∷ front ++ bytes)) e ∙ ap (λ (l : List ℕ). x ∷ l) (take_behind front bytes n)

drop_behind : (front bytes : List ℕ) (n : ℕ) → drop (length front + n) (front ++ bytes) ≡ drop n bytes
drop_behind front bytes n = sym (drop-drop n (length front) (front ++ bytes)) ∙ ap (λ (l : List ℕ). drop n l) (drop_at front bytes (length front) refl)

abbrev taken_back : Written → ℕ → List ℕ → List ℕ
taken_back w from bytes = take (w.offset - from) bytes ++ w.before.items ++ drop (w.offset - from + w.count) bytes

undo_behind : (w : Written) (front bytes : List ℕ) → length front ≤ w.offset → front ++ taken_back w (length front) bytes ≡ undo w (front ++ bytes)
undo_behind w front bytes above =
    let n = w.offset - length front in
    let at : length front + n ≡ w.offset = omega arith in
    let to : length front + (n + w.count) ≡ w.offset + w.count = omega arith in
    ap (λ (l : List ℕ). front ++ l) (append_assoc (take n bytes) w.before.items (drop (n + w.count) bytes))
    ∙ sym (append_assoc front (take n bytes) (w.before.items ++ drop (n + w.count) bytes))
    ∙ ap (λ (l : List ℕ). l ++ (w.before.items ++ drop (n + w.count) bytes)) (sym (take_behind front bytes n) ∙ ap (λ k. take k (front ++ bytes)) at)
    ∙ ap (λ (l : List ℕ). take w.offset (front ++ bytes) ++ (w.before.items ++ l)) (sym (drop_behind front bytes (n + w.count)) ∙ ap (λ k. drop k (front ++ bytes)) to)
    ∙ sym (append_assoc (take w.offset (front ++ bytes)) w.before.items (drop (w.offset + w.count) (front ++ bytes)))

-- one write less
pub undone_behind : (writes : List Written) (n : ℕ) (w : Written) (front bytes before total : List ℕ) (from : ℕ) → n < length writes → w ≡ get_or writes n w → length front ≡ from → from ≤ w.offset → before ≡ taken_back w from bytes
    → undone (front ++ bytes) (reverse (take (n + 1) writes)) ≡ total → undone (front ++ before) (reverse (take n writes)) ≡ total
undone_behind writes n w front bytes before total from inside item size above is so_far =
    let newest : reverse (take (n + 1) writes) ≡ w ∷ reverse (take n writes) =
    ap (λ (l : List Written). reverse l) (take_more writes n w inside) ∙ reverse_push (take n writes) (get_or writes n w) ∙ ap (λ (x : Written). x ∷ reverse (take n writes)) (sym item) in
    let back : front ++ before ≡ undo w (front ++ bytes) =
    ap (λ (l : List ℕ). front ++ l) (is ∙ ap (λ k. taken_back w k bytes) (sym size)) ∙ undo_behind w front bytes (omega arith) in
    ap (λ (l : List ℕ). undone l (reverse (take n writes))) back ∙ ap (λ (l : List Written). undone (front ++ bytes) l) (sym newest) ∙ so_far

module _ (old new : List ℕ) (offset : ℕ) (inside : offset ≤ length old) where
  size : length (take offset old) ≡ offset
  size = length-take-le offset old inside

  pub take_overwritten : take offset (overwritten old offset new) ≡ take offset old
  take_overwritten = ap (λ (l : List ℕ). take offset l) (append_assoc (take offset old) new _) ∙ take_at (take offset old) _ offset size

  pub drop_overwritten : drop (offset + length new) (overwritten old offset new) ≡ drop (offset + length new) old
  drop_overwritten = drop_at (take offset old ++ new) _ (offset + length new) (length-append (take offset old) new ∙ ap (λ n. n + length new) size)

  pub length-overwritten : length (overwritten old offset new) ≡ offset + length new + (length old - (offset + length new))
  length-overwritten = omega (arith, size, length-append (take offset old ++ new) (drop (offset + length new) old), length-append (take offset old) new, length-drop (offset + length new) old)

  split : take offset old ++ take (length new) (drop offset old) ++ drop (offset + length new) old ≡ old
  split =
      append_assoc (take offset old) (take (length new) (drop offset old)) (drop (offset + length new) old)
      ∙ ap (λ (l : List ℕ). take offset old ++ (take (length new) (drop offset old) ++ l)) (sym (drop-drop (length new) offset old))
      ∙ ap (λ (l : List ℕ). take offset old ++ l) (take-append-drop (length new) (drop offset old))
      ∙ take-append-drop offset old

  pub undo_overwritten : (w : Written) → w.offset ≡ offset → w.count ≡ length new → w.before.items ≡ take (min (length new) (length old - offset)) (drop offset old) → undo w (overwritten old offset new) ≡ old
  undo_overwritten w at count before =
      let over : w.before.items ≡ take (length new) (drop offset old) = before ∙ ap (λ n. take (min (length new) n) (drop offset old)) (sym (length-drop offset old)) ∙ take_min (length new) (drop offset old) in
      rw (at, count, over, take_overwritten, drop_overwritten) split

  -- a side after one write more
  module _ (writes next : List Written) (w : Written) (bytes : List ℕ) (at : w.offset ≡ offset) (count : w.count ≡ length new) (before : w.before.items ≡ take (min (length new) (length old - offset)) (drop offset old)) (wrote : bytes ≡ overwritten old offset new) (more : next ≡ writes ++ w ∷ []) where
    newest : reverse next ≡ w ∷ reverse writes
    newest = ap reverse more ∙ reverse_push writes w

    pub same_old : undone bytes (reverse next) ≡ undone old (reverse writes)
    same_old =
        ap (undone bytes) newest
        ∙ ap (λ (l : List ℕ). undone (undo w l) (reverse writes)) wrote
        ∙ ap (λ (l : List ℕ). undone l (reverse writes)) (undo_overwritten w at count before)

    offsets : ranges (reverse next) ≡ record { from = offset; to = offset + length new } ∷ ranges (reverse writes)
    offsets = ap ranges newest ∙ (λ i. record { from = at i; to = at i + count i } ∷ ranges (reverse writes))

    pub one_more : side_after bytes (reverse next) ≡ wrote_side offset new (side_after old (reverse writes))
    one_more = λ i. record { old = same_old i; seen = wrote i; unsynced = offsets i }

    pub grown : length (undone old (reverse writes)) ≤ length old → length (undone bytes (reverse next)) ≤ length bytes
    grown so_far = rw (same_old, wrote, length-overwritten) (omega arith)

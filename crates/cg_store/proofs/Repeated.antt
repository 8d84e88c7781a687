-- Values that a record repeats, and those that one has.
use Rattle.std.proofs.Common.{◌≡◌, ◌⊎◌, inl, inr, refl, ℕ, ◌+◌, ◌-◌, ◌≤◌, List, [], ◌++◌, length, take, drop, Ok, sym, ◌∙◌, ap, arith, take-append-drop, length-append}
use Rattle.std.proofs.lemmas.List.{take_at}
use Rattle.cg_codec.specs.Laws.{AreBytes}
use Rattle.cg_codec.specs.Reading.{Unread, behind}
use Rattle.cg_records.specs.declared.stable.Stable.{Stable}
use Rattle.cg_records.specs.Bytes.{spelled_stable}
use Rattle.cg_records.specs.Limits.{IsStable}
use Rattle.cg_records.specs.Reading.{take_stable}
use Rattle.cg_records.specs.RecordLaws.{stable_field}
use Rattle.cg_store.specs.Repeating.{Repeats}
use Rattle.cg_store.proofs.Putting.{at_first}

-- they are read where they stand again
pub repeated : (front body : List ℕ) (values : Stable) → (front ≡ []) ⊎ (IsStable values × (front ≡ spelled_stable values)) → Repeats front body
    → take_stable (at_first body) ≡ Ok (values, behind (length front) (at_first body))
repeated front body values (inl none) again = absurd (again.0 none)
repeated front body values (inr is) again =
    let rest = drop (length front) body in
    let whole : spelled_stable values ++ rest ≡ body = ap (λ l. l ++ rest) (sym is.1 ∙ again.1) ∙ take-append-drop (length front) body in
    ap (λ l. take_stable (at_first l)) (sym whole)
    ∙ stable_field.again values 0 rest is.0
    ∙ ap (λ (l : List ℕ). Ok (values, record { at = 0 + length l; bytes = rest })) (sym is.1)

-- what was read stands at the front
pub recent : (body : List ℕ) (values : Stable) (left : Unread) → AreBytes body → take_stable (at_first body) ≡ Ok (values, left)
    → IsStable values × (take (length body - length left.bytes) body ≡ spelled_stable values)
recent body values left bytes is =
    let found = stable_field.found values (at_first body) left bytes is in
    let whole : body ≡ spelled_stable values ++ left.bytes = found.took.bytes in
    let size : length body - length left.bytes ≡ length (spelled_stable values) = omega (arith, ap length whole, length-append (spelled_stable values) left.bytes) in
    (found.has, ap (λ n. take n body) size ∙ ap (take (length (spelled_stable values))) whole ∙ take_at (spelled_stable values) left.bytes (length (spelled_stable values)) refl)

pub left-within : (body : List ℕ) (values : Stable) (left : Unread) → AreBytes body → take_stable (at_first body) ≡ Ok (values, left) → length left.bytes ≤ length body
left-within body values left bytes is =
    let found = stable_field.found values (at_first body) left bytes is in
    let whole : body ≡ spelled_stable values ++ left.bytes = found.took.bytes in
    omega (arith, ap length whole, length-append (spelled_stable values) left.bytes)

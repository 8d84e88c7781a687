-- Reds by their place among all.
use Rattle.std.proofs.Common.{◌≡◌, ℕ, zero, suc, ◌+◌, ◌-◌, ◌≤◌, ◌<◌, List, length, length-append, sym, ap, ◌∙◌, arith}
use Rattle.std.specs.Prelude.{slice_get, None}
use Rattle.std.proofs.lemmas.List.{length-map}
use Rattle.cg_action.specs.declared.action.Action.{Action}
use Rattle.cg_queue.specs.declared.red.Red.{Red}
use Rattle.cg_queue.specs.Body.{actions_in, reds_from}
use Rattle.cg_queue.proofs.Soundness.{reds-step, reds-end}
use Rattle.cg_base.specs.ListLaws.{slice_get-behind, slice_get-front}

length-actions : (reds : List Red) → length (actions_in reds) ≡ length reds
length-actions reds = length-map reds (λ r. r.action)

-- the red is in this row
pub slot-here : (lanes : ℕ → List Red) (slot i : ℕ) → slot < 32 → i < length (lanes slot) → slice_get (reds_from lanes (32 - slot) slot) i ≡ slice_get (actions_in (lanes slot)) i
slot-here lanes slot i lt here =
    ap (λ xs. slice_get xs i) (reds-step lanes slot lt)
    ∙ slice_get-front (actions_in (lanes slot)) (reds_from lanes (32 - suc slot) (suc slot)) i (omega (arith, here, length-actions (lanes slot)))

-- it is in a later one
pub slot-later : (lanes : ℕ → List Red) (slot i : ℕ) → slot < 32 → length (lanes slot) ≤ i
    → slice_get (reds_from lanes (32 - (slot + 1)) (slot + 1)) (i - length (lanes slot)) ≡ slice_get (reds_from lanes (32 - slot) slot) i
slot-later lanes slot i lt later =
    let next : slot + 1 ≡ suc slot = omega arith in
    let same : length (actions_in (lanes slot)) ≡ length (lanes slot) = length-actions (lanes slot) in
    ap (λ n. slice_get (reds_from lanes (32 - n) n) (i - length (lanes slot))) next
    ∙ ap (λ n. slice_get (reds_from lanes (32 - suc slot) (suc slot)) (i - n)) (sym same)
    ∙ sym (slice_get-behind (actions_in (lanes slot)) (reds_from lanes (32 - suc slot) (suc slot)) i (omega (arith, later, same)))
    ∙ ap (λ xs. slice_get xs i) (sym (reds-step lanes slot lt))

-- there is none
pub slot-nowhere : (lanes : ℕ → List Red) (slot i : ℕ) → 32 ≤ slot → slice_get (reds_from lanes (32 - slot) slot) i ≡ None
slot-nowhere lanes slot i le = ap (λ xs. slice_get xs i) (reds-end lanes slot le)

-- the number of reds from a row on
pub count-more : (lanes : ℕ → List Red) (slot : ℕ) → slot < 32 → length (reds_from lanes (32 - slot) slot) ≡ length (lanes slot) + length (reds_from lanes (32 - (slot + 1)) (slot + 1))
count-more lanes slot lt =
    let next : suc slot ≡ slot + 1 = omega arith in
    ap (λ xs. length xs) (reds-step lanes slot lt)
    ∙ length-append (actions_in (lanes slot)) (reds_from lanes (32 - suc slot) (suc slot))
    ∙ ap (λ n. n + length (reds_from lanes (32 - suc slot) (suc slot))) (length-actions (lanes slot))
    ∙ ap (λ n. length (lanes slot) + length (reds_from lanes (32 - n) n)) next

pub count-end : (lanes : ℕ → List Red) (slot : ℕ) → 32 ≤ slot → length (reds_from lanes (32 - slot) slot) ≡ 0
count-end lanes slot le = ap (λ (xs : List Action). length xs) (reds-end lanes slot le)

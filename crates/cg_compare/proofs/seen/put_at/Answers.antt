use Rattle.std.proofs.Common.{◌≡◌, ◌∷◌, ◌++◌, ◌<◌, ◌+◌, ◌-◌, ◌∙◌, suc, ℕ, [], None, List, Option, length, replicate, ap, arith, length-append}
use Rattle.std.proofs.lemmas.List.{append_assoc}
use Rattle.cg_base.specs.declared.action_id.ActionId.{ActionId}
use Rattle.cg_compare.proofs.seen.put_at.Goals as goal

abbrev holes : ℕ → List (Option ActionId)
holes n = replicate n None

-- the list with one hole more
one_hole : (list pushed : List (Option ActionId)) (place : ℕ) → pushed ≡ list ++ None ∷ [] → length list + 1 < place →
    (length pushed < place) × (pushed ++ holes (place - (length pushed + 1)) ≡ list ++ holes (place - (length list + 1)))
one_hole list pushed place is below =
    let one : length pushed ≡ length list + 1 = ap length is ∙ length-append list (None ∷ []) in
    let left : suc (place - (length pushed + 1)) ≡ place - (length list + 1) = omega (arith, one, below) in (
      omega (arith, one, below),
      ap (λ xs. xs ++ holes (place - (length pushed + 1))) is
          ∙ append_assoc list (None ∷ []) (holes (place - (length pushed + 1)))
          ∙ ap (λ n. list ++ holes n) left,
    )

pub loop-list-preserved : goal.loop-list-preserved
loop-list-preserved c =
    let test : length c.loop-list.list + 1 < c.args.place = omega (arith, c.loop-list-test.true, c.len.ensures) in
    let step = one_hole c.loop-list.list c.push.new.self c.args.place c.in_ok-push.ensures.ok test in
    record { below = step.0; holes = step.1 ∙ c.loop-list.invariant.holes }

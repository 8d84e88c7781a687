use Rattle.std.proofs.Common.{◌≡◌, List, ◌-◌, min, take, drop, length, ◌++◌, ◌∷◌, [], refl, ◌∙◌, ap, arith}
use Rattle.cg_disk.specs.declared.written.Written.{Written}
use Rattle.cg_disk.proofs.Undoing.{pushed, grown, one_more}
use Rattle.cg_disk.proofs.model_side.ModelSide.write.Goals as goal

pub invariant_of-self-2 : goal.invariant_of-self-2
invariant_of-self-2 c =
    let s = c.args.self.now in
    let new = c.args.bytes.now in
    let w : Written = record { offset = c.args.offset; count = length new; before = c.in_ok-before.before } in
    let before : w.before.items ≡ take (min (length new) (length s.bytes.items - c.args.offset)) (drop c.args.offset s.bytes.items) = rw c.deref.ensures.value at c.in_ok-before.ensures in
    let push = pushed c.push.result _ _ _ (c.push.ensures.succeeds (omega (arith, c.in_ok-reserve.ensures.ok))) c.push.ensures.items in
    let more : c.push.new.self.items ≡ s.unsynced.items ++ w ∷ [] = push ∙ ap (λ (l : List Written). l ++ w ∷ []) c.reserve.ensures.items in
    record { grown = grown s.bytes.items new c.args.offset c.requires s.unsynced.items c.push.new.self.items w c.overwrite.new.bytes.items refl refl before c.in_ok-overwrite.ensures.ok more s.grown }

pub returns-clause-ok : goal.returns-clause-ok
returns-clause-ok c =
    let s = c.args.self.now in
    let new = c.args.bytes.now in
    let w : Written = record { offset = c.args.offset; count = length new; before = c.in_ok-before.before } in
    let before : w.before.items ≡ take (min (length new) (length s.bytes.items - c.args.offset)) (drop c.args.offset s.bytes.items) = rw c.deref.ensures.value at c.in_ok-before.ensures in
    let more : c.push.new.self.items ≡ s.unsynced.items ++ w ∷ [] = c.in-Ok.ensures.items ∙ ap (λ (l : List Written). l ++ w ∷ []) c.reserve.ensures.items in
    one_more s.bytes.items new c.args.offset c.requires s.unsynced.items c.push.new.self.items w c.overwrite.new.bytes.items refl refl before c.in_ok-overwrite.ensures.ok more

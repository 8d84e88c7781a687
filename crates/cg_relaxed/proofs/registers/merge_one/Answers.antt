use Rattle.std.proofs.Common.{◌≡◌, ◌+◌, cond, ◌∷◌, drop, sym, ap, ◌∙◌, subst, arith}
use Rattle.std.specs.Prelude.{ℕ, List, Some}
use Rattle.cg_text.specs.Order.{same_text}
use Rattle.cg_relaxed.specs.declared.write.Write.{Write}
use Rattle.cg_relaxed.specs.Writes.{later}
use Rattle.cg_relaxed.specs.RelaxedState.{write_at, merged}
use Rattle.cg_relaxed.proofs.Lists.{dropped}
use Rattle.cg_relaxed.proofs.Parts.{merges}
use Rattle.cg_relaxed.proofs.registers.merge_one.Goals as goal

pub returns : goal.returns
returns c = λ base q before.
    let es = c.args.from.now.entries in
    let i = c.args.index in
    let k = c.in-Some.key.now in
    let v = c.in-Some.write.now in
    let w = c.in_ok-write.write in
    let first : drop i es ≡ (k, v) ∷ drop (i + 1) es = dropped es i (i + 1) (k, v) (omega arith) (sym c.in-Some.ensures.entry) in
    let found = subst (λ (x : List ℕ). write_at c.insert.new.self.entries q ≡ cond (same_text x q) (Some w) (write_at c.args.to.now.entries q))
    c.in_ok-key.ensures (c.in_ok-insert.ensures.updates.0 q) in
    let later_is : Some w ≡ later (write_at c.args.other.now.entries k) (Some v) =
    c.in_ok-write.ensures ∙ ap (λ o. later o (Some v)) c.get.ensures.value in
    subst (λ (xs : List (List ℕ × Write)). write_at c.insert.new.self.entries q ≡ merged (write_at xs q) (write_at c.args.other.now.entries q) (write_at base q))
    (sym first)
    (merges (drop (i + 1) es) (write_at base q) (write_at c.args.to.now.entries q) (write_at c.insert.new.self.entries q) k v w
    (write_at c.args.other.now.entries) q found later_is before)

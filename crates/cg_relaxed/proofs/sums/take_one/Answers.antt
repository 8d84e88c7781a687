use Rattle.std.proofs.Common.{◌≡◌, ◌+◌, true, false, cond, ◌∷◌, drop, sym, ap, ◌∙◌, subst, rules, arith}
use Rattle.std.specs.Prelude.{List, ℤ, Some, FitsSigned}
use Rattle.std.specs.Int.{w128}
use Rattle.std.specs.Map.{lookup}
use Rattle.std.proofs.lemmas.Int.{to_z-of_z}
use Rattle.cg_relaxed.specs.declared.sum_key.SumKey.{SumKey}
use Rattle.cg_relaxed.specs.RelaxedState.{same_part, is_wanted, taken_over}
use Rattle.cg_relaxed.proofs.Lists.{dropped}
use Rattle.cg_relaxed.proofs.Parts.{takes, passes}
use Rattle.cg_relaxed.proofs.sums.take_one.Goals as goal

pub returns-in_ok-insert : goal.returns-in_ok-insert
returns-in_ok-insert c = λ base q before.
    let test = is_wanted c.args.less c.args.known.now c.args.other.now in
    let es = c.args.from.now.entries in
    let i = c.args.index in
    let k = c.in-Some.part.now in
    let v = c.in-Some.sum.now in
    let first : drop i es ≡ (k, v) ∷ drop (i + 1) es = dropped es i (i + 1) (k, v) (omega arith) (sym c.in-Some.ensures.entry) in
    let wanted : test k.creator ≡ true = sym c.is_wanted.ensures ∙ c.if-is_wanted.true in
    let fits : FitsSigned w128 v = search rules in
    let put : lookup (same_part q) c.insert.new.self.entries ≡ cond (same_part c.in_ok-part.part q) (Some v) (lookup (same_part q) c.args.to.now.entries) =
    c.in_ok-insert.ensures.updates.0 q
    ∙ ap (λ (x : ℤ). cond (same_part c.in_ok-part.part q) (Some x) (lookup (same_part q) c.args.to.now.entries)) (to_z-of_z w128 v fits) in
    let found = subst (λ (x : SumKey). lookup (same_part q) c.insert.new.self.entries ≡ cond (same_part x q) (Some v) (lookup (same_part q) c.args.to.now.entries))
    c.in_ok-part.ensures put in
    subst (λ (xs : List (SumKey × ℤ)). lookup (same_part q) c.insert.new.self.entries ≡ taken_over test xs base q) (sym first)
    (takes test (drop (i + 1) es) base c.args.to.now.entries c.insert.new.self.entries k v q wanted found before)

pub returns-else-is_wanted : goal.returns-else-is_wanted
returns-else-is_wanted c = λ base q before.
    let test = is_wanted c.args.less c.args.known.now c.args.other.now in
    let es = c.args.from.now.entries in
    let i = c.args.index in
    let k = c.in-Some.part.now in
    let v = c.in-Some.sum.now in
    let first : drop i es ≡ (k, v) ∷ drop (i + 1) es = dropped es i (i + 1) (k, v) (omega arith) (sym c.in-Some.ensures.entry) in
    let unwanted : test k.creator ≡ false = sym c.is_wanted.ensures ∙ c.if-is_wanted.false in
    subst (λ (xs : List (SumKey × ℤ)). lookup (same_part q) c.args.to.now.entries ≡ taken_over test xs base q) (sym first)
    (passes test (drop (i + 1) es) base c.args.to.now.entries k v q unwanted before)

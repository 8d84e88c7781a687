-- No sum is far from 0.
use Rattle.std.proofs.Common.{◌≡◌, ℕ, suc, ◌+◌, ◌*◌, ◌^◌, ◌≤◌, Bool, true, false, cond, List, [], ◌∷◌, length, ap, ◌∙◌, arith, to_z, of_z}
use Rattle.std.specs.Prelude.{All, ℤ, pos, ◌+ℤ◌, FitsSigned}
use Rattle.std.specs.Int.{w64, w128}
use Rattle.std.specs.List.{list_all}
use Rattle.std.proofs.lemmas.List.Elements.{All-tail}
use Rattle.std.proofs.lemmas.Int.{ints, to_z-of_z}
use Rattle.cg_text.specs.Order.{same_text}
use Rattle.cg_action.specs.declared.command.Cmd.{Cmd}
use Rattle.cg_action.specs.declared.command.Cmd.TheVariants.{Put, Del, Inc, Cas, Move, Need}
use Rattle.cg_action.specs.declared.action.Kind.{Kind}
use Rattle.cg_action.specs.declared.action.Kind.TheVariants.{Update, Join, Leave}
use Rattle.cg_action.specs.Limits.{IsKind}
use Rattle.cg_action.specs.ActionLimits.{IsCommand}
use Rattle.cg_relaxed.specs.Writes.{is_plain, counted, adds, sum_after}
use Rattle.cg_relaxed.specs.RelaxedState.{IsWithin}

pub wider : (m n : ℕ) (x : ℤ) → m ≤ n → IsWithin m x → IsWithin n x
wider m n x more is =
    let above = is.above in
    let below = is.below in
    record { above = omega (arith, ints); below = omega (arith, ints) }

pub added-within : (m n : ℕ) (x y : ℤ) → IsWithin m x → IsWithin n y → IsWithin (m + n) (x +ℤ y)
added-within m n x y one other =
    let above = one.above in
    let below = one.below in
    let higher = other.above in
    let lower = other.below in
    record { above = omega (arith, ints); below = omega (arith, ints) }

pub nothing-within : (m : ℕ) → IsWithin m (pos 0)
nothing-within m = record { above = omega (arith, ints); below = omega (arith, ints) }

fits-within : (x : ℤ) → FitsSigned w64 x → IsWithin (2 ^ 63) x
fits-within x fits = record { above = omega (arith, ints); below = omega (arith, ints) }

either-within : (b : Bool) (m : ℕ) (x y : ℤ) → IsWithin m x → IsWithin m y → IsWithin m (cond b x y)
either-within true m x y one other = one
either-within false m x y one other = other

pub adds-within : (key : List ℕ) (cmd : Cmd) → IsCommand cmd → IsWithin (2 ^ 63) (adds key cmd)
adds-within key (Put k value) is = nothing-within (2 ^ 63)
adds-within key (Del k) is = nothing-within (2 ^ 63)
adds-within key (Inc k by) is = either-within (same_text key k) (2 ^ 63) by (pos 0) (fits-within by is.1) (nothing-within (2 ^ 63))
adds-within key (Cas k want value) is = nothing-within (2 ^ 63)
adds-within key (Move source target amount) is = nothing-within (2 ^ 63)
adds-within key (Need k want) is = nothing-within (2 ^ 63)

pub sum-after-within : (key : List ℕ) (cmds : List Cmd) (m : ℕ) (x : ℤ) → All IsCommand cmds → IsWithin m x →
    IsWithin (m + length cmds * 2 ^ 63) (sum_after x key cmds)
sum-after-within key [] m x each is = wider m (m + 0 * 2 ^ 63) x (omega arith) is
sum-after-within key (cmd ∷ cmds) m x each is =
    let first = adds-within key cmd (each 0 cmd (omega arith)) in
    let rest = sum-after-within key cmds (m + 2 ^ 63) (x +ℤ adds key cmd) (All-tail IsCommand cmd cmds each)
    (added-within m (2 ^ 63) x (adds key cmd) is first) in
    wider (m + 2 ^ 63 + length cmds * 2 ^ 63) (m + suc (length cmds) * 2 ^ 63) (sum_after (x +ℤ adds key cmd) key cmds) (omega arith) rest

-- what the code's sum of two numbers is
pub added-is : (r f s by : ℤ) → r ≡ s → f ≡ to_z w64 (of_z w64 by) → FitsSigned w64 by → FitsSigned w128 r → FitsSigned w128 (s +ℤ by) →
    to_z w128 (of_z w128 (to_z w128 (of_z w128 r) +ℤ to_z w128 (of_z w128 f))) ≡ s +ℤ by
added-is r f s by of_r of_f small fits sum =
    let is : f ≡ by = of_f ∙ to_z-of_z w64 by small in
    let f_fits : FitsSigned w128 f = omega (arith, ints) in
    let parts : to_z w128 (of_z w128 r) +ℤ to_z w128 (of_z w128 f) ≡ s +ℤ by =
    ap (λ x. x +ℤ to_z w128 (of_z w128 f)) (to_z-of_z w128 r fits ∙ of_r) ∙ ap (λ x. s +ℤ x) (to_z-of_z w128 f f_fits ∙ is) in
    ap (λ x. to_z w128 (of_z w128 x)) parts ∙ to_z-of_z w128 (s +ℤ by) sum

-- what commands add to a sum is what they add to none
pub sum-after-from : (key : List ℕ) (cmds : List Cmd) (x : ℤ) → sum_after x key cmds ≡ x +ℤ sum_after (pos 0) key cmds
sum-after-from key [] x = omega (arith, ints)
sum-after-from key (cmd ∷ cmds) x =
    let here = sum-after-from key cmds (x +ℤ adds key cmd) in
    let there = sum-after-from key cmds (pos 0 +ℤ adds key cmd) in
    omega (arith, ints)

either-few : (b : Bool) (cmds : List Cmd) → length cmds ≤ 16 → length (cond b cmds []) ≤ 16
either-few true cmds few = few
either-few false cmds few = omega arith

either-each : (b : Bool) (cmds : List Cmd) → All IsCommand cmds → All IsCommand (cond b cmds [])
either-each true cmds each = each
either-each false cmds each = λ k cmd less. absurd (omega arith)

pub counted-few : (kind : Kind) → IsKind kind → length (counted kind) ≤ 16
counted-few (Update cmds query) is = either-few (list_all is_plain cmds) cmds is.few
counted-few (Join joiner weight) is = omega arith
counted-few (Leave server) is = omega arith

pub counted-each : (kind : Kind) → IsKind kind → All IsCommand (counted kind)
counted-each (Update cmds query) is = either-each (list_all is_plain cmds) cmds is.each
counted-each (Join joiner weight) is = λ k cmd less. absurd (omega arith)
counted-each (Leave server) is = λ k cmd less. absurd (omega arith)

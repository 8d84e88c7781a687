use Rattle.std.proofs.Common.{◌≡◌, ℕ, suc, ◌≤◌, List, cond, eqb, length, sym, ap, subst, ◌∙◌, rules}
use Rattle.std.specs.Prelude.{All, ℤ}
use Rattle.cg_base.specs.Cuts.{index_in}
use Rattle.cg_action.specs.declared.command.Cmd.{Cmd}
use Rattle.cg_action.specs.ActionLimits.{IsCommand}
use Rattle.cg_relaxed.specs.declared.sum_key.SumKey.{SumKey}
use Rattle.cg_relaxed.specs.declared.write.Stamp.{Stamp}
use Rattle.cg_relaxed.specs.declared.write.Write.{Write}
use Rattle.cg_relaxed.specs.Writes.{counted, sum_after, written_from, first_stamp, later}
use Rattle.cg_relaxed.specs.Relaxed.{with_action}
use Rattle.cg_relaxed.specs.RelaxedState.{RelaxedState, sum_at, write_at, seen}
use Rattle.cg_relaxed.proofs.Bounds.{counted-few, counted-each}
use Rattle.cg_relaxed.proofs.Calls.{seen-added, small-added}
use Rattle.cg_relaxed.proofs.relaxed.Relaxed.add.Goals as goal

pub invariant_of-self-2 : goal.invariant_of-self-2
invariant_of-self-2 c =
    let a = c.args.a.now in
    let cmds = c.in_ok-cmds.cmds.items in
    let old : RelaxedState = record { known = c.self.inside.known; sums = c.self.inside.sums.entries; writes = c.self.inside.registers.entries } in
    let new : RelaxedState = record { known = c.raise.new.self; sums = c.run_each.new.sums.entries; writes = c.run_each.new.registers.entries } in
    let are : cmds ≡ counted a.kind = c.in_ok-cmds.ensures ∙ c.counted.ensures ∙ ap counted c.get.ensures in
    let same : c.reserve.new.self.entries ≡ c.self.inside.sums.entries = search rules in
    let sums : (key : List ℕ) (p : ℕ) → sum_at c.run_each.new.sums.entries key p
    ≡ cond (eqb p a.id.creator) (sum_after (sum_at c.self.inside.sums.entries key p) key cmds) (sum_at c.self.inside.sums.entries key p) =
    λ key p. c.run_each.ensures.sums key p
    ∙ ap (λ (s : Stamp). cond (eqb p s.creator) (sum_after (sum_at c.reserve.new.self.entries key p) key cmds) (sum_at c.reserve.new.self.entries key p)) c.first_stamp.ensures
    ∙ ap (λ (es : List (SumKey × ℤ)). cond (eqb p a.id.creator) (sum_after (sum_at es key p) key cmds) (sum_at es key p)) same in
    let few : length cmds ≤ 16 = subst (λ (cs : List Cmd). length cs ≤ 16) (sym are) (counted-few a.kind c.requires.action.kind) in
    let each : All IsCommand cmds = subst (λ (cs : List Cmd). All IsCommand cs) (sym are) (counted-each a.kind c.requires.action.kind) in
    let next : a.id.index ≡ suc (index_in c.self.inside.known a.id.creator) =
    c.requires.next ∙ ap (λ (k : RelaxedState). suc (index_in k.known a.id.creator)) (sym c.self.view_is) in
    small-added old new a cmds few each c.raise.ensures sums c.holds.ensures next c.requires.small c.self.invariant

pub returns-clause-ok : goal.returns-clause-ok
returns-clause-ok c =
    let a = c.args.a.now in
    let cmds = c.in_ok-cmds.cmds.items in
    let old : RelaxedState = record { known = c.self.inside.known; sums = c.self.inside.sums.entries; writes = c.self.inside.registers.entries } in
    let new : RelaxedState = record { known = c.raise.new.self; sums = c.run_each.new.sums.entries; writes = c.run_each.new.registers.entries } in
    let are : cmds ≡ counted a.kind = c.in_ok-cmds.ensures ∙ c.counted.ensures ∙ ap counted c.get.ensures in
    let same : c.reserve.new.self.entries ≡ c.self.inside.sums.entries = search rules in
    let same_writes : c.reserve-2.new.self.entries ≡ c.self.inside.registers.entries = search rules in
    let sums : (key : List ℕ) (p : ℕ) → sum_at c.run_each.new.sums.entries key p
    ≡ cond (eqb p a.id.creator) (sum_after (sum_at c.self.inside.sums.entries key p) key cmds) (sum_at c.self.inside.sums.entries key p) =
    λ key p. c.run_each.ensures.sums key p
    ∙ ap (λ (s : Stamp). cond (eqb p s.creator) (sum_after (sum_at c.reserve.new.self.entries key p) key cmds) (sum_at c.reserve.new.self.entries key p)) c.first_stamp.ensures
    ∙ ap (λ (es : List (SumKey × ℤ)). cond (eqb p a.id.creator) (sum_after (sum_at es key p) key cmds) (sum_at es key p)) same in
    let writes : (key : List ℕ) → write_at c.run_each.new.registers.entries key
    ≡ later (write_at c.self.inside.registers.entries key) (written_from key (first_stamp a) cmds) =
    λ key. c.run_each.ensures.registers key
    ∙ ap (λ (s : Stamp). later (write_at c.reserve-2.new.self.entries key) (written_from key s cmds)) c.first_stamp.ensures
    ∙ ap (λ (es : List (List ℕ × Write)). later (write_at es key) (written_from key (first_stamp a) cmds)) same_writes in
    seen-added old new a cmds are c.raise.ensures sums writes ∙ ap (λ (k : RelaxedState). with_action (seen k) a) c.self.view_is

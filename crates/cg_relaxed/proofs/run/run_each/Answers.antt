use Rattle.std.proofs.Common.{◌≡◌, ℕ, List, ◌+◌, ◌*◌, ◌^◌, ◌∷◌, cond, eqb, length, refl, ap, subst, ◌∙◌, rules, arith}
use Rattle.std.specs.Prelude.{All, ◌+ℤ◌}
use Rattle.std.specs.Vec.Iter.{into_iter_items}
use Rattle.std.proofs.lemmas.List.Elements.{All-tail}
use Rattle.cg_action.specs.declared.command.Cmd.{Cmd}
use Rattle.cg_action.specs.ActionLimits.{IsCommand}
use Rattle.cg_relaxed.specs.Writes.{adds}
use Rattle.cg_relaxed.specs.RelaxedState.{sum_at, write_at}
use Rattle.cg_relaxed.proofs.Running.{sums-step, registers-step, within-step}
use Rattle.cg_relaxed.proofs.run.run_each.Goals as goal

pub loop-cmd-preserved : goal.loop-cmd-preserved
loop-cmd-preserved c =
    let left = into_iter_items c.loop-cmd.cmd-iterator in
    let rest = into_iter_items c.next.new.self in
    let cmd = c.in-Some.cmd in
    let first : left ≡ cmd ∷ rest = search rules in
    let before = c.loop-cmd.invariant in
    let stamp = c.loop-cmd.stamp in
    let p0 = c.args.first.creator in
    let each : All IsCommand (cmd ∷ rest) = subst (λ (cmds : List Cmd). All IsCommand cmds) first before.each in
    let command : IsCommand cmd = each 0 cmd (omega arith) in
    let ran : (key : List ℕ) (p : ℕ) → sum_at c.run_one.new.sums.entries key p
    ≡ cond (eqb p p0) (sum_at c.loop-cmd.sums.entries key p +ℤ adds key cmd) (sum_at c.loop-cmd.sums.entries key p) =
    λ key p. c.run_one.ensures.sums key p
    ∙ ap (λ q. cond (eqb p q) (sum_at c.loop-cmd.sums.entries key p +ℤ adds key cmd) (sum_at c.loop-cmd.sums.entries key p)) before.creator in
    record {
      sums = λ key p. sums-step (eqb p p0) key cmd left rest (sum_at c.loop-cmd.sums.entries key p) (sum_at c.run_one.new.sums.entries key p) _
          first (ran key p) (before.sums key p);
      registers = λ key. registers-step key stamp cmd left rest (write_at c.loop-cmd.registers.entries key) (write_at c.run_one.new.registers.entries key) _
          first (c.run_one.ensures.registers key) (before.registers key);
      creator = before.creator;
      place = omega (arith, ap length first);
      each = All-tail IsCommand cmd rest each;
      within = λ key. within-step p0 p0 (2 ^ 107 + stamp.place * 2 ^ 63) (2 ^ 107 + (stamp.place + 1) * 2 ^ 63)
          (sum_at c.loop-cmd.sums.entries key p0) (sum_at c.run_one.new.sums.entries key p0) key cmd refl (ran key p0) command (omega arith) (before.within key);
      sums_room = omega (arith, ap length first);
      registers_room = omega (arith, ap length first);
    }

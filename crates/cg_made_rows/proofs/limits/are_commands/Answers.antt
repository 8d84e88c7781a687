use Rattle.std.proofs.Common.{List, refl, subst, arith}
use Rattle.std.specs.Prelude.{All}
use Rattle.std.proofs.lemmas.List.{take_all}
use Rattle.std.proofs.lemmas.List.Elements.{All-more}
use Rattle.cg_action.specs.declared.command.Cmd.{Cmd}
use Rattle.cg_action.specs.ActionLimits.{IsCommand}
use Rattle.cg_made_rows.proofs.limits.are_commands.Goals as goal

pub loop-cmd-preserved : goal.loop-cmd-preserved
loop-cmd-preserved c =
    let cmd = c.cmd-item.result in
    All-more IsCommand c.args.cmds.now c.loop-cmd.cmd-index cmd (omega arith) c.loop-cmd.invariant
    (subst IsCommand c.cmd-item.is (c.if-not-is_command.ensures refl))

pub returns : goal.returns
returns c = λ passed.
    let cmds = c.args.cmds.now in
    subst (λ (xs : List Cmd). All IsCommand xs) (take_all c.loop-cmd.cmd-index cmds (omega arith)) c.loop-cmd.invariant

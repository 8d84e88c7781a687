use Rattle.std.proofs.Common.{sym, ◌∙◌}
use Rattle.cg_engine.proofs.GoingOn.{line_here, may_save_at, goes_on_as}
use Rattle.cg_engine.proofs.engine.Engine.whiten_and_save.Goals as goal

pub whiten-requires : goal.whiten-requires
whiten-requires g c =
    line_here g.D.Disk.view c.args.store c.args.replica c.args.outputs.written c.requires.may (sym c.written.ensures ∙ c.if-not-written.false) c.holds.ensures.stands

pub save-requires-clause-may : goal.save-requires-clause-may
save-requires-clause-may g c =
    may_save_at g.D.Disk.view c.args.store c.args.replica c.args.outputs.written c.requires.may (sym c.written.ensures ∙ c.if-not-written.false) c.whiten.new.self c.whiten.ensures

pub returns : goal.returns
returns g c = λ w stands.
    goes_on_as g.D.Disk.view c.args.store w c.args.replica c.args.outputs c.args.last c.save.result (sym c.written.ensures ∙ c.if-not-written.false) c.whiten.new.self c.whiten.ensures
    (c.save.ensures w stands)

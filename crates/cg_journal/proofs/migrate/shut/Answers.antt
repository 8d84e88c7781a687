use Rattle.std.proofs.Common.{[], ◌∷◌, true, false, refl, sym, ◌∙◌}
use Rattle.cg_journal.proofs.Shutting.{shuts, shut_moments}
use Rattle.cg_journal.proofs.migrate.shut.Goals as goal

pub returns-then-is_open-clause-shuts : goal.returns-then-is_open-clause-shuts
returns-then-is_open-clause-shuts g c =
    shuts c.args.side (g.D.Disk.view c.args.disk.now) c.requires.long true (0 ∷ []) (sym c.if-is_open.true ∙ c.requires.gate) refl (g.D.Disk.view c.put.new.disk) c.put.result c.put.ensures.puts

pub returns-then-is_open-clause-moments : goal.returns-then-is_open-clause-moments
returns-then-is_open-clause-moments g c =
    shut_moments c.args.side (g.D.Disk.view c.args.disk.now) c.requires.long true (0 ∷ []) (sym c.if-is_open.true ∙ c.requires.gate) refl (g.D.Disk.view c.put.new.disk) c.put.ensures.moments

pub returns-else-is_open-clause-shuts : goal.returns-else-is_open-clause-shuts
returns-else-is_open-clause-shuts g c =
    shuts c.args.side (g.D.Disk.view c.args.disk.now) c.requires.long false [] (sym c.if-is_open.false ∙ c.requires.gate) refl (g.D.Disk.view c.put-else-is_open.new.disk) c.put-else-is_open.result c.put-else-is_open.ensures.puts

pub returns-else-is_open-clause-moments : goal.returns-else-is_open-clause-moments
returns-else-is_open-clause-moments g c =
    shut_moments c.args.side (g.D.Disk.view c.args.disk.now) c.requires.long false [] (sym c.if-is_open.false ∙ c.requires.gate) refl (g.D.Disk.view c.put-else-is_open.new.disk) c.put-else-is_open.ensures.moments

use Rattle.std.proofs.Common.{rules, ◌≡◌, ◌-◌, Some, slice_get}
use Rattle.cg_join.proofs.PartLists.{bytes_of_piece}
use Rattle.cg_join.proofs.snapshot.SnapshotWriter.piece.Goals as goal

pub returns-clause-value : goal.returns-clause-value
returns-clause-value c =
    let at : slice_get c.self.inside.parts (c.args.n - 1) ≡ Some c.in-Some.part.now = search rules in
    rw (← c.self.view_is) (bytes_of_piece c.self.inside.name c.self.inside.parts c.args.n c.len.result c.in-Some.part.now c.encode.result at c.len.ensures.value c.encode.ensures)

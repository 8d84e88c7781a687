use Rattle.std.proofs.Common.{◌≡◌, ◌≤◌, [], ◌∷◌, length, inl, inr, refl, arith}
use Rattle.std.specs.Option.{option_map}
use Rattle.cg_disk.specs.Sides.{bytes_of}
use Rattle.cg_disk.specs.Writes.{TornSide}
use Rattle.cg_journal.specs.Records.{records, emptied}
use Rattle.cg_journal.specs.Adds.{IsEither}
use Rattle.cg_journal.specs.ViewLaws.{weakened}
use Rattle.cg_journal.proofs.Closing.{closes, close_either}
use Rattle.cg_journal.proofs.close.close.Goals as goal

pub returns-then-end-gt-EMPTY_END-clause-closes : goal.returns-then-end-gt-EMPTY_END-clause-closes
returns-then-end-gt-EMPTY_END-clause-closes g c = λ bodies has.
    let old = g.D.Disk.view c.args.disk.now in
    let inside : 8 ≤ length (bytes_of c.args.side old.reads) = omega (arith, c.requires.inside, c.requires.begun) in
    closes c.args.side c.args.end bodies (0 ∷ []) old has (inr (c.if-end-gt-EMPTY_END.true, refl)) inside (g.D.Disk.view c.put.new.disk) c.put.result c.put.ensures.puts

pub returns-then-end-gt-EMPTY_END-clause-moments : goal.returns-then-end-gt-EMPTY_END-clause-moments
returns-then-end-gt-EMPTY_END-clause-moments g c = λ bodies has.
    let side = c.args.side in
    let old = g.D.Disk.view c.args.disk.now in
    let inside : 8 ≤ length (bytes_of side old.reads) = omega (arith, c.requires.inside, c.requires.begun) in
    weakened old (g.D.Disk.view c.put.new.disk) (TornSide side 8 1 old.reads) (IsEither (records old.reads) (option_map (emptied side) (records old.reads))) c.put.ensures.moments
    (close_either side c.args.end bodies (0 ∷ []) old has (inr (c.if-end-gt-EMPTY_END.true, refl)) inside)

pub returns-else-end-gt-EMPTY_END-clause-closes : goal.returns-else-end-gt-EMPTY_END-clause-closes
returns-else-end-gt-EMPTY_END-clause-closes g c = λ bodies has.
    let old = g.D.Disk.view c.args.disk.now in
    let inside : 8 ≤ length (bytes_of c.args.side old.reads) = omega (arith, c.requires.inside, c.requires.begun) in
    let nine : c.args.end ≡ 9 = omega (arith, c.if-end-gt-EMPTY_END.false, c.requires.begun) in
    closes c.args.side c.args.end bodies [] old has (inl (nine, refl)) inside (g.D.Disk.view c.put-else-end-gt-EMPTY_END.new.disk) c.put-else-end-gt-EMPTY_END.result c.put-else-end-gt-EMPTY_END.ensures.puts

use Rattle.std.proofs.Common.{◌≡◌, fold}
use Rattle.cg_base.specs.Cuts.{raise}
use Rattle.cg_base.specs.Iterators.{tops_left}
use Rattle.cg_base.proofs.cut.Cut.greatest.Given as goal

-- the cut raised so far, and raised by what is left, is the whole
abbrev pub invariant-loop-top : goal.invariant-loop-top
invariant-loop-top l = fold raise l.cut (tops_left l.top-iterator) ≡ fold raise l.self l.o

use Rattle.std.specs.List.{flat_map}
use Rattle.std.specs.Fmt.{HasWritten, IsPlainFormatter}
use lib.Utf8.{encodes}
use Rattle.cg_text.specs.Quoted.{escaped}
use Rattle.cg_text.proofs.quoted.write_escaped.Given as goal

abbrev pub invariant-loop-c : goal.invariant-loop-c
invariant-loop-c g l =
    IsPlainFormatter l.initial.f → HasWritten g.W.Write.write_str_gives l.initial.f (flat_map escaped (encodes l.yielded)) l.f

-- What is seen of bytes in memory, as a source from some offset on and as a sink.
use Rattle.std.specs.Prelude.{ℕ, List, Some, drop}
use Rattle.cg_io.specs.Outside.{SourceView, SinkView}

abbrev pub from_offset : ℕ → List ℕ → ℕ → SourceView
from_offset offset bytes faults = record { left = Some (drop offset bytes); faults = faults }

abbrev pub kept : List ℕ → ℕ → SinkView
kept bytes faults = record { held = Some bytes; faults = faults }

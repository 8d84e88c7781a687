-- What is seen of a source and of a sink, and what of a part a put may have put.
use Rattle.std.specs.Prelude.{◌≡◌, ◌+◌, ℕ, List, ◌++◌, Option}
use Rattle.std.specs.Io.KnownBytes.{Appends}
use Rattle.cg_io.specs.declared.outside.IoFault.TheVariants as fault

-- a source: the bytes that are still to come, where it tells them, and how often a take has failed
pub record SourceView : Type 0 where
  pub left : Option (List ℕ)
  pub faults : ℕ

-- a sink: the bytes that were put, where it tells them, and how often a put has failed
pub record SinkView : Type 0 where
  pub held : Option (List ℕ)
  pub faults : ℕ

-- the whole part was put
abbrev pub PutsAll : SinkView → SinkView → List ℕ → Type 0
PutsAll old new part = Appends old.held new.held part

-- some front of the part was put
pub record PutsFront (old new : SinkView) (part : List ℕ) : Type 0 where
  pub front : List ℕ
  pub rest : List ℕ
  pub whole : part ≡ front ++ rest
  pub grown : PutsAll old new front

-- Where the bodies of a side's records stand among its bytes.
use Rattle.std.specs.Prelude.{◌≡◌, ℕ, ◌+◌, ◌≤◌, List, map, take, drop, length, slice_get, Some}
use Rattle.cg_journal.specs.declared.bodies.Span.{Span}

abbrev pub body_at : List ℕ → Span → List ℕ
body_at side s = take s.size (drop s.start side)

abbrev pub bodies_at : List ℕ → List Span → List (List ℕ)
bodies_at side spans = map (body_at side) spans

-- all of them lie in the side
abbrev pub AreWithin : List ℕ → List Span → Type 0
AreWithin side spans = (i : ℕ) (s : Span) → slice_get spans i ≡ Some s → s.start + s.size ≤ length side

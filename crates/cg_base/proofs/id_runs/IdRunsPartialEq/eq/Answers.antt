use Rattle.cg_base.proofs.RunLemmas.{same-runs}
use Rattle.cg_base.proofs.id_runs.IdRunsPartialEq.eq.Goals as goal

pub returns : goal.returns
returns c = rw (← c.self.view_is, ← c.other.view_is)
    (same-runs c.self.inside.runs.items c.other.inside.runs.items c.eq.result c.self.invariant c.other.invariant
    (rw (c.as_slice.ensures.value, c.as_slice-2.ensures.value) at c.eq.ensures))

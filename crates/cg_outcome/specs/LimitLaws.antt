-- Where no limit is passed.
use Rattle.std.proofs.Common.{◌≡◌, ℕ, ◌≤◌, None, refl}
use Rattle.std.proofs.lemmas.Bool.{le-ltb}
use Rattle.cg_outcome.specs.Outcome.{limit_of}

pub limit_of-none : (n len end : ℕ) → len ≤ 32768 → end ≤ 8388608 → n ≤ 200000 → limit_of n len end ≡ None
limit_of-none n len end short within few = rw (le-ltb 32768 len short, le-ltb 8388608 end within, le-ltb 200000 n few) refl

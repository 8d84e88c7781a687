-- What was read of a number within a range.
use Rattle.std.proofs.Common.{◌≡◌, ℕ, Result, Ok, Err, ap}
use Rattle.std.specs.Prelude.{nat_le, ◌&&◌}
use Rattle.std.proofs.lemmas.Bool.{leb-true, and_parts}
use Rattle.cg_base.specs.ResultLaws.{cond_ok}
use Rattle.cg_text.specs.declared.fault.TextFault.{TextFault}
use Rattle.cg_schedule.specs.Fault.{bad_number}
use Rattle.cg_schedule.specs.Limits.{IsWithin}
use Rattle.cg_schedule.specs.Part.{in_range}

pub in_range-ok : (low high : ℕ) (r : Result ℕ TextFault) (n : ℕ) → in_range low high r ≡ Ok n → (r ≡ Ok n) × IsWithin low high n
in_range-ok low high (Ok m) n e =
    let g = cond_ok (nat_le low m && nat_le m high) m n bad_number e in
    let tests = and_parts (nat_le low m) (nat_le m high) g.0 in
    (ap (λ (k : ℕ). Ok k) g.1, rw (← g.1) (leb-true low m tests.0, leb-true m high tests.1))
in_range-ok low high (Err fault) n e = absurd cc

-- When a call is struck.
use Rattle.std.proofs.Common.{◌≡◌, ℕ, suc, ◌+◌, Some, ◌∙◌, ap, arith}
use Rattle.std.proofs.lemmas.Bool.Decides.{nat_tests}
use Rattle.cg_disk.specs.State.{Blow, Fails, blow_at}
use Rattle.cg_disk.specs.Armed.{strike_of}
use Rattle.cg_disk.specs.declared.armed.Armed.{Armed}
use Rattle.cg_disk.specs.declared.armed.Armed.TheVariants.{Failure}

pub hit : (call n : ℕ) (blow : Blow) → call ≡ n → blow_at (Some (record { call = call; blow = blow })) n ≡ Some blow
hit call n blow is = grind (arith, nat_tests)

pub failure_hit : (calls n : ℕ) (armed : Armed) → armed ≡ Failure 0 → n ≡ suc calls → blow_at (strike_of calls armed) n ≡ Some Fails
failure_hit calls n armed is call = ap (λ a. blow_at (strike_of calls a) n) is ∙ hit (suc (calls + 0)) n Fails (omega arith)

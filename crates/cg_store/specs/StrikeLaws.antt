-- What a strike lets stand, by the call in which it falls.
use Rattle.std.specs.Prelude.{◌≡◌, ℕ, ◌+◌, ◌≤◌, nat_le, nat_lt, Bool, true, false, List, [], ◌∷◌, refl, if◌then◌else◌}
use Rattle.std.proofs.Common.{arith}
use Rattle.std.proofs.lemmas.Bool.Decides.{nat_tests}
use Rattle.cg_disk.specs.State.{Blow, Fails, Stops}
use Rattle.cg_journal.specs.Adds.{gate_stands}
use Rattle.cg_client.specs.Turn.{Turn}
use Rattle.cg_disk_records.specs.Crash.{Disk, with_change, with_checkpoint, is_committed, is_checkpointed}
use Rattle.cg_store.specs.Defined.{strike_at}

abbrev pub outcome : Disk → Turn → Bool → Bool → Disk
outcome disk t checkpoint commit = if checkpoint then with_checkpoint (with_change disk t) else if commit
    then with_change disk t else disk

-- in the four calls of the change
pub early_commit : (call : ℕ) (blow : Blow) (fill : List ℕ) → call ≤ 4 →
    is_committed (strike_at call blow fill) ≡ gate_stands blow call fill
early_commit call Fails fill le = refl
early_commit call Stops [] le = let four : nat_lt 4 call ≡ false = grind (arith, nat_tests) in rw four refl
early_commit call Stops (byte ∷ fill) le = let four : nat_lt 4 call ≡ false = grind (arith, nat_tests) in rw four refl

pub early_checkpoint : (call : ℕ) (blow : Blow) (fill : List ℕ) → call ≤ 8 →
    is_checkpointed (strike_at call blow fill) ≡ false
early_checkpoint call Fails fill le = grind (arith, nat_tests)
early_checkpoint call Stops fill le =
    let ten : nat_lt 10 call ≡ false = grind (arith, nat_tests) in
    let nine : nat_le 9 call ≡ false = grind (arith, nat_tests) in
    rw (ten, nine) refl

pub late_commit : (call : ℕ) (blow : Blow) (fill : List ℕ) → 5 ≤ call → is_committed (strike_at call blow fill) ≡ true
late_commit call Fails fill le = grind (arith, nat_tests)
late_commit call Stops fill le = let four : nat_lt 4 call ≡ true = grind (arith, nat_tests) in rw four refl

pub late_checkpoint : (call : ℕ) (blow : Blow) (fill : List ℕ) → call ≤ 4 →
    is_checkpointed (strike_at (6 + call) blow fill) ≡ gate_stands blow call fill
late_checkpoint call Fails fill le = grind (arith, nat_tests)
late_checkpoint call Stops [] le =
    let ten : nat_lt 10 (6 + call) ≡ false = grind (arith, nat_tests) in
    let nine : nat_le 9 (6 + call) ≡ nat_lt 2 call = grind (arith, nat_tests) in
    rw (ten, nine) refl
late_checkpoint call Stops (byte ∷ fill) le =
    let ten : nat_lt 10 (6 + call) ≡ false = grind (arith, nat_tests) in
    let nine : nat_le 9 (6 + call) ≡ nat_lt 2 call = grind (arith, nat_tests) in
    rw (ten, nine) refl

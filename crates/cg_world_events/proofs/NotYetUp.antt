-- Replicas that are still to begin.
use Rattle.std.proofs.Common.{◌≡◌, ℕ, suc, ◌≤◌, ◌<◌, false, List, [], ◌∷◌, Some, is_some, refl, ap, ◌∙◌, arith}
use Rattle.std.specs.Prelude.{◌==◌}
use Rattle.std.proofs.lemmas.Bool.{cond-false, ne_eqb}
use Rattle.cg_base.specs.Sets.{Ascends}
use Rattle.cg_wire.specs.declared.message.Msg.{Msg}
use Rattle.cg_group.specs.declared.phase.Phase.TheVariants.{Alone}
use Rattle.cg_group.specs.State.{Standing, GroupState, no_group, standing_of, is_up}
use Rattle.cg_group.specs.Events.{come_up}
use Rattle.cg_group.specs.LookupLaws.{standing_of-set}

-- they ascend, from the given one on, and none of them is up
abbrev pub AreStillDown : GroupState Msg → ℕ → List ℕ → Type 0
AreStillDown g low [] = Unit {0}
AreStillDown g low (p ∷ set) = (low ≤ p) × (is_up g p ≡ false) × AreStillDown g (suc p) set

pub down-lower : (g : GroupState Msg) (low high : ℕ) (set : List ℕ) → low ≤ high → AreStillDown g high set → AreStillDown g low set
down-lower g low high [] le down = tt
down-lower g low high (p ∷ set) le down = (let first : high ≤ p = down.0 in omega arith, down.1, down.2)

-- before the start nobody is up
pub down-first : (low : ℕ) (set : List ℕ) → Ascends low set → AreStillDown no_group low set
unfolding standing_of
down-first low [] ascends = tt
down-first low (p ∷ set) ascends = (ascends.0, refl, down-first (suc p) set ascends.2)

other-down : (g : GroupState Msg) (p q : ℕ) → p < q → is_up g q ≡ false → is_up (come_up g p) q ≡ false
unfolding come_up
other-down g p q less down =
    let s : Standing Msg = record { id = p; phase = Alone; delivered = 0; unordered = [] } in
    ap is_some (standing_of-set g s q ∙ cond-false (q == p) (Some s) (standing_of g q) (ne_eqb q p (λ e. let same : q ≡ p = e in omega arith))) ∙ down

-- one comes up that isn't among them
pub down-kept : (g : GroupState Msg) (p low : ℕ) (set : List ℕ) → p < low → AreStillDown g low set → AreStillDown (come_up g p) low set
down-kept g p low [] less down = tt
down-kept g p low (q ∷ set) less down =
    let first : low ≤ q = down.0 in
    (down.0, other-down g p q (omega arith) down.1, down-kept g p (suc q) set (omega arith) down.2)

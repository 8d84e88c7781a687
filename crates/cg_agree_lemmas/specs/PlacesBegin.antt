-- The places that a leaver is handed begin with all that it has received in a row behind what it was handed before.
use Rattle.std.proofs.Common.{◌≡◌, ℕ, zero, suc, ◌+◌, ◌-◌, ◌≤◌, ◌<◌, Bool, true, false, ◌&&◌, List, [], ◌∷◌, length, sym, ⊎_elim, subst, arith, eqb-true}
use Rattle.std.specs.Prelude.{◌==◌, nat_lt, nat_le}
use Rattle.std.proofs.lemmas.Bool.{and_parts, or_cases, ltb-true}
use Rattle.cg_base.specs.Lists.{count_up, above_up_to}
use Rattle.cg_base.specs.Sets.{has}
use Rattle.cg_base.specs.MemberLaws.{has_count_up}
use Rattle.cg_wire.specs.declared.message.Msg.{Msg}
use Rattle.cg_group.specs.State.{Configuration, has_received}
use Rattle.cg_model.specs.Fronts.{Front}
use Rattle.cg_model.specs.Smalls.{implies, ascend_within, hold_received}
use Rattle.cg_agree_lemmas.specs.ReachFacts.{all-at}

-- places that ascend are above the first number
ascends : (low high place : ℕ) (places : List ℕ) → ascend_within low high (place ∷ places) ≡ true → (low < place) × (ascend_within place high places ≡ true)
ascends low high place places e =
    let one = and_parts (nat_lt low place && nat_le place high) (ascend_within place high places) e in
    (ltb-true low place (and_parts (nat_lt low place) (nat_le place high) one.0).0, one.1)

above-low : (low high k : ℕ) (places : List ℕ) → ascend_within low high places ≡ true → has places k ≡ true → low < k
above-low low high k [] e is = absurd (let clash : false ≡ true = is in cc)
above-low low high k (place ∷ places) e is =
    let parts = ascends low high place places e in
    ⊎_elim (λ here. (let same = eqb-true place k here in let lt = parts.0 in omega arith))
    (λ there. (let lt = parts.0 in let rest = above-low place high k places parts.1 there in omega arith))
    (or_cases (place == k) (has places k) is)

-- Places that ascend and hold each one of a row begin with that row.
pub row-front : (low high n : ℕ) (places : List ℕ) → ascend_within low high places ≡ true → ((k : ℕ) → low < k → k ≤ low + n → has places k ≡ true) → Front (count_up (suc low) n) places
row-front low high zero places e each = tt
row-front low high (suc n) [] e each = absurd (let clash : false ≡ true = each (suc low) (omega arith) (omega arith) in cc)
row-front low high (suc n) (place ∷ places) e each =
    let parts = ascends low high place places e in
    let first : suc low ≡ place = ⊎_elim (λ here. sym (eqb-true place (suc low) here))
    (λ there. absurd (let lt = parts.0 in let rest = above-low place high (suc low) places parts.1 there in omega arith))
    (or_cases (place == suc low) (has places (suc low)) (each (suc low) (omega arith) (omega arith))) in
    let behind : ascend_within (suc low) high places ≡ true = subst (λ x. ascend_within x high places ≡ true) (sym first) parts.1 in (
      first,
      row-front (suc low) high n places behind (λ k above within. ⊎_elim
          (λ here. absurd (let same = eqb-true place k here in omega (arith, first, same, above)))
          (λ there. there)
          (or_cases (place == k) (has places k) (each k (omega arith) (omega arith)))),
    )

-- ---- what a leaver has received

pub implied : (a b : Bool) → implies a b ≡ true → a ≡ true → b ≡ true
implied true b e is = e
implied false b e is = absurd (let clash : false ≡ true = is in cc)

-- The places begin with those from behind the handed ones up to one to which the leaver has received them all.
pub places-begin : (c : Configuration Msg) (p low last : ℕ) (places : List ℕ) → ascend_within low (length c.ordered) places ≡ true → hold_received c p low places ≡ true →
    last ≤ length c.ordered → ((k : ℕ) → 0 < k → k ≤ last → has_received c p k ≡ true) → Front (above_up_to low last) places
places-begin c p low last places ascend hold within each =
    row-front low (length c.ordered) (last - low) places ascend (λ k above below.
    implied (has_received c p k) (has places k)
    (all-at (λ place. implies (has_received c p place) (has places place)) (above_up_to low (length c.ordered)) k hold (has_count_up (suc low) (length c.ordered - low) k (omega arith) (omega arith)))
    (each k (omega arith) (omega arith)))

-- Each index of a cut stays within its limits where the cut is raised.
use Rattle.std.proofs.Common.{◌≡◌, ◌≢◌, ◌⊎◌, ◌<◌, ◌≤◌, ◌^◌, Bool, true, false, List, [], ◌∷◌, inl, inr, arith, nat_lt, if◌then◌else◌}
use Rattle.std.specs.Prelude.{◌==◌}
use Rattle.std.proofs.lemmas.Bool.{cases_eq, eq-eqb, ne_eqb}
use Rattle.cg_base.specs.declared.action_id.ActionId.{ActionId}
use Rattle.cg_base.specs.Cuts.{with_top, raise}
use Rattle.cg_base.specs.Lists.{Each}
use Rattle.cg_records.specs.Limits.{IsIndex}

-- each index of a cut is within its limits
abbrev pub Indexed : List ActionId → Type 0
Indexed cut = Each (λ top. IsIndex top.index) cut

pub indexed_if : (b : Bool) (c d : List ActionId) → Indexed c → Indexed d → Indexed (if b then c else d)
indexed_if true c d kc kd = kc
indexed_if false c d kc kd = kd

pub with_top-indexed : (cut : List ActionId) (id : ActionId) → 1 ≤ id.index → id.index < 2 ^ 63 → Indexed cut → Indexed (with_top cut id)
with_top-indexed [] id from below all = ((from, below), tt)
with_top-indexed (top ∷ cut) id from below all =
    let top_from : 1 ≤ top.index = all.0.0 in
    let top_below : top.index < 2 ^ 63 = all.0.1 in
    indexed_if (top.creator == id.creator) _ _ ((omega arith, omega arith), all.1)
    (indexed_if (nat_lt id.creator top.creator) _ _ ((from, below), all) (all.0, with_top-indexed cut id from below all.1))

pub raise-indexed : (cut : List ActionId) (id : ActionId) → id.index < 2 ^ 63 → Each (λ top. IsIndex top.index) cut → Each (λ top. IsIndex top.index) (raise cut id)
raise-indexed cut id below all = at (cases_eq id.index 0)
  where
    at : (id.index ≡ 0) ⊎ (id.index ≢ 0) → Indexed (raise cut id)
    at (inl none) = rw (eq-eqb id.index 0 none) all
    at (inr some) = rw (ne_eqb id.index 0 some) (with_top-indexed cut id (omega (arith, some)) below all)

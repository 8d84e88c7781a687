-- Weights that are not above 1 are 1.
use Rattle.std.proofs.Common.{◌≡◌, ℕ, ◌≤◌, false, List, [], ◌∷◌, ltb, refl, arith}
use Rattle.std.proofs.lemmas.Bool.{ltb-false, or_parts}
use Rattle.std.specs.List.{list_any}
use Rattle.cg_base.specs.declared.weighted.Weighted.{Weighted}
use Rattle.cg_base.specs.Sets.{IsSet}
use Rattle.cg_base.specs.Weights.{ids, each_once, Weigh, IsWeightSet}
use Rattle.cg_older.specs.Weights.{is_heavy_member}
use Rattle.cg_base.specs.WeightLaws.{ids-each_once}

pub one-weight : (weight : ℕ) → 1 ≤ weight → ltb 1 weight ≡ false → weight ≡ 1
one-weight weight some light = let most = ltb-false 1 weight light in omega (arith, some, most)

abbrev once : ℕ → Weighted
once id = record { id = id; weight = 1 }

-- a set to which weights of 1 are given, and from which they are taken again

weigh-once : (set : List ℕ) → Weigh (each_once set)
weigh-once [] = tt
weigh-once (p ∷ set) = (omega arith, omega arith, weigh-once set)

pub once-within : (set : List ℕ) → IsSet set → IsWeightSet (each_once set)
once-within set is = record { ascends = rw (ids-each_once set) is.ascends; weigh = weigh-once set }

pub once-light : (set : List ℕ) → list_any is_heavy_member (each_once set) ≡ false
once-light [] = refl
once-light (p ∷ set) = once-light set

pub light-once : (set : List Weighted) → Weigh set → list_any is_heavy_member set ≡ false → each_once (ids set) ≡ set
light-once [] weigh light = refl
light-once (m ∷ set) weigh light =
    let parts = or_parts (ltb 1 m.weight) (list_any is_heavy_member set) light in
    let weight : m.weight ≡ 1 = one-weight m.weight weigh.0 parts.0 in
    rw (light-once set weigh.2 parts.1, ← weight) refl

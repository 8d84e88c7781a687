-- The members of a set, their weights, and names that are held as runs, are short.
use Rattle.std.proofs.Common.{ℕ, suc, ◌<◌, ◌^◌, List, [], ◌∷◌, arith}
use Rattle.std.specs.List.{All}
use Rattle.std.proofs.lemmas.List.Elements.{All-head, All-tail}
use Rattle.cg_base.specs.declared.action_id.ActionId.{ActionId}
use Rattle.cg_base.specs.declared.weighted.Weighted.{Weighted}
use Rattle.cg_base.specs.Sets.{IsId, Ascends, IsSet}
use Rattle.cg_base.specs.Weights.{ids, Weigh, IsWeightSet}
use Rattle.cg_base.specs.Lists.{Each}
use Rattle.cg_short.specs.Short.{IsShort, IsShortId, IsShortMember}

ascending-short : (low : ℕ) (set : List ℕ) → Ascends low set → Each IsShort set
ascending-short low [] is = tt
ascending-short low (p ∷ set) is = (omega (arith, is.1), ascending-short (suc p) set is.2)

pub set-short : (set : List ℕ) → IsSet set → Each IsShort set
set-short set is = ascending-short 1 set is.ascends

members-short : (low : ℕ) (set : List Weighted) → Ascends low (ids set) → Weigh set → Each IsShortMember set
members-short low [] is weigh = tt
members-short low (m ∷ set) is weigh =
    ((omega (arith, is.1), omega (arith, weigh.1)), members-short (suc m.id) set is.2 weigh.2)

pub weights-short : (set : List Weighted) → IsWeightSet set → Each IsShortMember set
weights-short set is = members-short 1 set is.ascends is.weigh

-- names of replicas whose indexes are within 64 bits
pub names-short : (ids : List ActionId) → All (λ (id : ActionId). IsId id.creator) ids →
    All (λ (id : ActionId). id.index < 2 ^ 64) ids → Each IsShortId ids
names-short [] named fit = tt
names-short (id ∷ ids) named fit =
    let creator = All-head (λ (id : ActionId). IsId id.creator) id ids named in
    let index = All-head (λ (id : ActionId). id.index < 2 ^ 64) id ids fit in (
      (omega (arith, creator.1), omega (arith, index)),
      names-short ids (All-tail (λ (id : ActionId). IsId id.creator) id ids named)
          (All-tail (λ (id : ActionId). id.index < 2 ^ 64) id ids fit),
    )

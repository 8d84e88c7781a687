-- Which values a record may have.
use Rattle.std.specs.Prelude.{ℕ, ◌<◌, ◌≤◌, List, [], ◌∷◌, Option, length}
use Rattle.cg_base.specs.declared.limits.TheConstants.{LIST_LIMIT, NUMBER_LIMIT}
use Rattle.cg_base.specs.declared.action_id.ActionId.{ActionId}
use Rattle.cg_base.specs.Sets.{IsId, IsSet, Ascends}
use Rattle.cg_base.specs.Weights.{IsWeightSet}
use Rattle.cg_base.specs.Cuts.{creators_in}
use Rattle.cg_codec.specs.Laws.{HasOptional}
use Rattle.cg_records.specs.declared.primary.Primary.{Primary}
use Rattle.cg_records.specs.declared.vulnerable.Vulnerable.{Vulnerable}
use Rattle.cg_records.specs.declared.yellow.Yellow.{Yellow}
use Rattle.cg_records.specs.declared.stable.Stable.{Stable}
use Rattle.cg_base.specs.Lists.{Each}

-- a count, an index or the number of a configuration
abbrev pub IsNumber : ℕ → Type 0
IsNumber n = n < NUMBER_LIMIT

-- the index of an action
abbrev pub IsIndex : ℕ → Type 0
IsIndex n = (1 ≤ n) × (n < NUMBER_LIMIT)

-- a name of an action
abbrev pub IsName : ActionId → Type 0
IsName id = IsId id.creator × IsIndex id.index

-- a cut whose indexes are small
pub record IsSmallCut (cut : List ActionId) : Type 0 where
  pub ascends : Ascends 1 (creators_in cut)
  pub indexes : Each (λ top. IsIndex top.index) cut

-- what a primary component may be
pub record IsPrimary (p : Primary) : Type 0 where
  pub index : IsNumber p.index
  pub conf : IsNumber p.conf
  pub set : IsWeightSet p.set

-- what a vulnerable record may be
pub record IsVulnerable (v : Vulnerable) : Type 0 where
  pub attempt : IsNumber v.attempt
  pub from : IsNumber v.from
  pub set : IsSet v.set
  pub bits : IsSet v.bits

abbrev pub IsMaybeVulnerable : Option Vulnerable → Type 0
IsMaybeVulnerable v = HasOptional IsVulnerable v

-- what a yellow list may be
pub record IsYellow (y : Yellow) : Type 0 where
  pub short : length y.list < LIST_LIMIT
  pub names : Each IsName y.list

-- what the stable part of a replica may be
pub record IsStable (s : Stable) : Type 0 where
  pub prim : IsPrimary s.prim
  pub attempt_index : IsNumber s.attempt_index
  pub vulnerable : IsMaybeVulnerable s.vulnerable
  pub yellow : IsYellow s.yellow
  pub created : IsNumber s.created

-- What a replica knows of primary components.
use Rattle.std.specs.Prelude.{ℕ, Option}
use Rattle.cg_records.specs.declared.primary.Primary.{Primary}
use Rattle.cg_records.specs.declared.vulnerable.Vulnerable.{Vulnerable}
use Rattle.cg_records.specs.Limits.{IsNumber, IsPrimary, IsMaybeVulnerable}

pub record ComponentsView : Type 0 where
  pub prim : Primary
  pub attempt_index : ℕ
  pub vulnerable : Option Vulnerable

-- each part has bytes
pub record AreComponents (s : ComponentsView) : Type 0 where
  pub prim : IsPrimary s.prim
  pub attempt_index : IsNumber s.attempt_index
  pub vulnerable : IsMaybeVulnerable s.vulnerable

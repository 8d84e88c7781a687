-- What holds where there is no reason to refuse.
use Rattle.std.proofs.Common.{◌≡◌, Bool, true, false, None, refl, Option, is_some, not, ℕ, Some}
use Rattle.cg_group.specs.declared.reason.Reason.{Reason}
use Rattle.cg_group.specs.Refusals.{refuse}
use Rattle.cg_group.specs.declared.phase.Phase.TheVariants.{Down}
use Rattle.cg_group.specs.State.{GroupState, Standing, is_regular, is_up, regular_in, standing_of}
use Rattle.cg_base.specs.BoolLaws.{impossible}
use Rattle.std.specs.Option.{option_map_or}
use Rattle.std.specs.Prelude.{◌==◌}

pub refuse_none : (b : Bool) (r : Reason) → refuse b r ≡ None → b ≡ false
refuse_none true r e = absurd (cc)
refuse_none false r e = refl

-- who is in a regular configuration is up
pub regular-up : {M : Type 0} (g : GroupState M) (p : ℕ) → is_regular g p ≡ true → is_up g p ≡ true
regular-up {M} g p regular = at (standing_of g p) regular where
  at : (o : Option (Standing M)) → not (regular_in (option_map_or (λ s. s.phase) o Down) == 0) ≡ true → is_some o ≡ true
  at None e = impossible e
  at (Some s) e = refl

-- The index of the last action, found at its place.
use Rattle.std.specs.Prelude.{◌≡◌, refl, suc, ◌-◌, List, [], ◌∷◌, slice_get, length}
use Rattle.std.proofs.Common.{arith, ◌++◌}
use Rattle.std.specs.Option.{option_map_or}
use Rattle.cg_action.specs.declared.action.Action.{Action}
use Rattle.cg_client.specs.Own.{last_index}

pub last_index-get : (own : List Action) →
    option_map_or (λ a. a.id.index) (slice_get own (length own - 1)) 0 ≡ last_index own
last_index-get [] = refl
last_index-get (a ∷ []) = refl
last_index-get (a ∷ b ∷ rest) =
    let whole : length (a ∷ b ∷ rest) - 1 ≡ suc (length rest) = omega arith in
    let less : length (b ∷ rest) - 1 ≡ length rest = omega arith in
    rw whole (rw less at (last_index-get (b ∷ rest)))

pub last_index-push : (own : List Action) (a : Action) → last_index (own ++ a ∷ []) ≡ a.id.index
last_index-push [] a = refl
last_index-push (b ∷ []) a = refl
last_index-push (b ∷ d ∷ own) a = last_index-push (d ∷ own) a

-- Lists that are gone through for a join with a weight.
use Rattle.std.proofs.Common.{◌≡◌, ℕ, zero, suc, ◌+◌, ◌||◌, true, false, List, [], ◌∷◌, ◌++◌, drop, refl, sym, ap, ◌∙◌, arith}
use Rattle.std.proofs.lemmas.List.Folds.{list_any-append}
use Rattle.std.specs.Prelude.{Option}
use Rattle.std.specs.List.{list_any, slice_get}
use Rattle.std.specs.Option.{option_map_or}
use Rattle.cg_action.specs.declared.action.Action.{Action}
use Rattle.cg_older.specs.Weights.{is_heavy_join}

-- what is left is the next one, and those behind it
pub heavy-left : (actions : List Action) (i : ℕ)
    → list_any is_heavy_join (drop i actions) ≡ (option_map_or is_heavy_join (slice_get actions i) false || list_any is_heavy_join (drop (i + 1) actions))
heavy-left actions i = let next : i + 1 ≡ suc i = omega arith in rw next (heavy-behind actions i)
  where
    heavy-behind : (xs : List Action) (k : ℕ) → list_any is_heavy_join (drop k xs) ≡ (option_map_or is_heavy_join (slice_get xs k) false || list_any is_heavy_join (drop (suc k) xs))
    heavy-behind [] zero = refl
    heavy-behind [] (suc k) = refl
    heavy-behind (x ∷ xs) zero = refl
    heavy-behind (x ∷ xs) (suc k) = heavy-behind xs k

-- the next one is such a join
pub heavy-found : (actions : List Action) (i : ℕ) (next : Option Action) → next ≡ slice_get actions i → option_map_or is_heavy_join next false ≡ true
    → list_any is_heavy_join (drop i actions) ≡ list_any is_heavy_join actions → true ≡ list_any is_heavy_join actions
heavy-found actions i next is heavy so_far =
    let here : option_map_or is_heavy_join (slice_get actions i) false ≡ true = rw is at heavy in
    sym (sym so_far ∙ heavy-left actions i ∙ ap (λ b. b || list_any is_heavy_join (drop (i + 1) actions)) here)

-- it is none
pub heavy-next : (actions : List Action) (i : ℕ) (next : Option Action) → next ≡ slice_get actions i → option_map_or is_heavy_join next false ≡ false
    → list_any is_heavy_join (drop i actions) ≡ list_any is_heavy_join actions → list_any is_heavy_join (drop (i + 1) actions) ≡ list_any is_heavy_join actions
heavy-next actions i next is light so_far =
    let here : option_map_or is_heavy_join (slice_get actions i) false ≡ false = rw is at light in
    ap (λ b. b || list_any is_heavy_join (drop (i + 1) actions)) (sym here) ∙ sym (heavy-left actions i) ∙ so_far

-- one list behind the other
pub heavy_behind : (actions others : List Action) → list_any is_heavy_join (actions ++ others) ≡ (list_any is_heavy_join actions || list_any is_heavy_join others)
heavy_behind actions others = list_any-append is_heavy_join actions others

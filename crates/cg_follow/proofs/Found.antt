-- What is read of a side's records, one behind the other.
use Rattle.std.proofs.Common.{◌≡◌, ℕ, zero, suc, List, [], ◌∷◌, Option, Some, None, refl, sym, ap, ◌∙◌}
use Rattle.std.specs.Prelude.{fold, slice_get}
use Rattle.cg_follow.specs.Followed.{Followed}
use Rattle.cg_follow.specs.Bytes.{follower_in}
use Rattle.cg_follow.specs.Stands.{led_by, follower_on}

-- nothing leads on from no follower
none-led : (bodies : List (List ℕ)) → fold led_by None bodies ≡ None
none-led [] = refl
none-led (body ∷ bodies) = none-led bodies

-- a record that is no feed, among those that are left
pub stops-at : (now : Followed) (body : List ℕ) (left bodies : List (List ℕ)) (total : Option Followed) →
    led_by (Some now) body ≡ None → left ≡ body ∷ bodies → fold led_by (Some now) left ≡ total → total ≡ None
stops-at now body left bodies total none first all =
    sym all ∙ ap (fold led_by (Some now)) first ∙ ap (λ f. fold led_by f bodies) none ∙ none-led bodies

-- a first record that is no follower's
pub none-first : (bodies : List (List ℕ)) (body : List ℕ) → slice_get bodies 0 ≡ Some body →
    follower_in body ≡ None → follower_on bodies ≡ None
none-first [] body is none = absurd cc
none-first (first ∷ bodies) body is none = let same : first ≡ body = cc in ap (λ f. fold led_by f bodies)
    (ap follower_in same ∙ none) ∙ none-led bodies

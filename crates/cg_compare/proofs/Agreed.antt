-- Where no two logs differ, each log has at its places the names that are told.
use Rattle.std.specs.Prelude.{◌≡◌, ◌<◌, ℕ, zero, suc, Bool, true, false, not, List, [], ◌∷◌, Option, Some, None, Contains, find, length, map, slice_index_or, option_map, if◌then◌else◌}
use Rattle.std.proofs.Common.{refl, sym, ap, subst, ◌∙◌, arith}
use Rattle.std.proofs.lemmas.Option.{same_Some}
use Rattle.cg_base.specs.declared.action_id.ActionId.{ActionId}
use Rattle.cg_base.specs.Ids.{same_id}
use Rattle.cg_base.specs.IdLaws.{same_id-is}
use Rattle.cg_base.specs.Lists.{present}
use Rattle.cg_compare.specs.declared.log.Log.{Log}
use Rattle.cg_compare.specs.Orders.{IsSeen, HaveOneName}
use Rattle.cg_compare.specs.Places.{Sighting, name_at, seen_in, seen_at, last_place}
use Rattle.cg_compare.specs.Join.{differing, difference_in, first_difference, first_name}
use Rattle.cg_compare.proofs.First.{some_is_none, none_has}
use Rattle.cg_compare.proofs.Seeing.{seen_within}
use Rattle.cg_base.specs.OptionLaws.{option_map_none}

-- ---- all sightings have one name

abbrev AllSame : ActionId → List Sighting → Type 0
AllSame id [] = Unit {0}
AllSame id (s ∷ more) = (s.id ≡ id) × AllSame id more

by_test : (b : Bool) (s : Sighting) (rest : Option Sighting) → (if not b then Some s else rest) ≡ None → (b ≡ true) × (rest ≡ None)
by_test true s rest e = (refl, e)
by_test false s rest e = absurd (some_is_none e)

all_same : (id : ActionId) (more : List Sighting) → find (λ s. not (same_id id s.id)) more ≡ None → AllSame id more
all_same id [] e = tt
all_same id (s ∷ more) e =
    let split = by_test (same_id id s.id) s (find (λ t. not (same_id id t.id)) more) e in
    (sym (same_id-is id s.id split.0), all_same id more split.1)

-- ---- what a log has is seen

behind_first : (id : ActionId) (o : Option Sighting) (rest : List (Option Sighting)) → AllSame id (present (o ∷ rest)) → AllSame id (present rest)
behind_first id None rest h = h
behind_first id (Some s) rest h = h.1

seen_is : (id : ActionId) (place : ℕ) (logs : List Log) → AllSame id (seen_at logs place) → (log : Log) (name : ActionId) (k : ℕ) → k < length logs → slice_index_or logs k log ≡ log
    → name_at log place ≡ Some name → name ≡ id
seen_is id place [] h log name k below at e = absurd (omega (arith, below))
seen_is id place (l ∷ logs) h log name zero below at e =
    let here : name_at l place ≡ Some name = ap (λ x. name_at x place) at ∙ e in
    (subst (λ o. AllSame id (present (option_map (λ n. record { line = l.line; id = n }) o ∷ map (seen_in place) logs))) here h).0
seen_is id place (l ∷ logs) h log name (suc k) below at e =
    seen_is id place logs (behind_first id (seen_in place l) (map (seen_in place) logs) h) log name k (omega (arith, below)) at e

another : ActionId → ActionId
another id = record { creator = id.creator; index = suc id.index }

not_another : (id : ActionId) → id ≡ record { creator = id.creator; index = suc id.index } → ⊥
not_another id e = let same : id.index ≡ suc id.index = ap (λ n. n.index) e in omega (arith, same)

first_is : (place : ℕ) (logs : List Log) (ss : List Sighting) → seen_at logs place ≡ ss → difference_in place ss ≡ None → (log : Log) (name : ActionId) → Contains logs log
    → name_at log place ≡ Some name → first_name ss ≡ Some name
first_is place logs [] seen none log name inside e =
    absurd (not_another name (seen_is (record { creator = name.creator; index = suc name.index }) place logs (subst (AllSame (record { creator = name.creator; index = suc name.index })) (sym seen) tt) log name inside.0 inside.1 inside.2 e))
first_is place logs (s ∷ more) seen none log name inside e =
    let same = all_same s.id more (option_map_none (differing place s) (find (λ t. not (same_id s.id t.id)) more) none) in
    ap Some (sym (seen_is s.id place logs (subst (AllSame s.id) (sym seen) (refl, same)) log name inside.0 inside.1 inside.2 e))

-- where no two logs differ at a place, a name that is seen there is the one that is told of it
pub seen_is_told : (logs : List Log) (q : ℕ) (id : ActionId) → difference_in q (seen_at logs q) ≡ None → IsSeen logs q id →
    first_name (seen_at logs q) ≡ Some id
seen_is_told logs q id none s = first_is q logs (seen_at logs q) refl none s.log id s.stands s.name

pub one_name : (logs : List Log) (q : ℕ) → difference_in q (seen_at logs q) ≡ None → HaveOneName logs q
one_name logs q none id other s t = same_Some _ _ (sym (seen_is_told logs q id none s) ∙ seen_is_told logs q other none t)

-- where no two logs differ anywhere, that is so of each place
pub no_difference_at : (logs : List Log) → first_difference logs ≡ None → (q : ℕ) (id : ActionId) → IsSeen logs q id →
    difference_in q (seen_at logs q) ≡ None
no_difference_at logs none q id s =
    let within = seen_within logs q id s in
    none_has (λ place. difference_in place (seen_at logs place)) 1 (last_place logs) none q within.0 (omega (arith, within.1))

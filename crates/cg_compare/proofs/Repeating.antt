-- What is told of a name that stands at two places is so.
use Rattle.std.specs.Prelude.{◌≡◌, ◌<◌, ◌≤◌, ◌-◌, ℕ, zero, suc, true, false, List, Option, Some, None, length, map, option_map, option_and_then}
use Rattle.std.specs.Option.{option_map_or}
use Rattle.std.proofs.Common.{refl, sym, ap, subst, ◌∙◌, arith}
use Rattle.std.proofs.lemmas.Option.{same_Some}
use Rattle.std.proofs.lemmas.List.{length-map}
use Rattle.cg_base.specs.declared.action_id.ActionId.{ActionId}
use Rattle.cg_base.specs.Ids.{same_id}
use Rattle.cg_base.specs.IdLaws.{same_id-is, same_id-self}
use Rattle.cg_base.specs.Lists.{at_place, count_up}
use Rattle.cg_base.specs.ListLaws.{length-count_up, slice_get-count_up}
use Rattle.cg_compare.specs.declared.log.Log.{Log}
use Rattle.cg_compare.specs.declared.log.Joined.{Joined}
use Rattle.cg_compare.specs.declared.log.Joined.TheVariants.{Twice}
use Rattle.cg_compare.specs.Orders.{IsSeen, IsTold}
use Rattle.cg_compare.specs.Places.{seen_at, last_place, places_of}
use Rattle.cg_compare.specs.Join.{first_difference, first_name, covered, name_in, stands_at, earlier_place, repeat_at, first_repeat}
use Rattle.cg_compare.proofs.First.{some_is_none, true_is_false, first_has, found_is, none_passes}
use Rattle.cg_compare.proofs.Seeing.{seen_first, seen_within}
use Rattle.cg_compare.proofs.Agreed.{no_difference_at, one_name, seen_is_told}
use Rattle.cg_compare.proofs.OneOrder.{covered_at, in_cell, no_repeat}
use Rattle.cg_base.specs.OptionLaws.{option_map_none}

-- ---- the names at the places

pub length-covered : (logs : List Log) → length (covered logs) ≡ last_place logs
length-covered logs =
    length-map (places_of logs) (λ place. first_name (seen_at logs place)) ∙ length-count_up 1 (last_place logs)

-- a name in the list is seen
pub named_is_seen : (logs : List Log) (q : ℕ) (id : ActionId) → name_in (covered logs) q ≡ Some id → IsSeen logs q id
named_is_seen logs q id e =
    seen_first logs q id (in_cell (first_name (seen_at logs q)) id (at_place (covered logs) q) (covered_at logs q) e)

-- what stands at a place of a map over the places
pub place_mapped : {X : Type 0} (f : ℕ → X) (n q : ℕ) → 1 ≤ q → q ≤ n → at_place (map f (count_up 1 n)) q ≡ Some (f q)
place_mapped f n zero low high = absurd (omega (arith, low))
place_mapped f n (suc k) low high = slice_get-count_up f 1 n k (omega (arith, high)) ∙ ap (λ q. Some (f q)) (omega arith)

-- a name that is seen is in the list, where no two logs differ
pub seen_is_named : (logs : List Log) → first_difference logs ≡ None → (q : ℕ) (id : ActionId) → IsSeen logs q id →
    name_in (covered logs) q ≡ Some id
seen_is_named logs none q id s =
    let within = seen_within logs q id s in
    ap (option_and_then (λ name. name)) (place_mapped (λ place. first_name (seen_at logs place)) (last_place logs) q within.0 within.1)
    ∙ seen_is_told logs q id (no_difference_at logs none q id s) s

-- ---- the repeat

pub standing : (id : ActionId) (name : Option ActionId) → option_map_or (same_id id) name false ≡ true → name ≡ Some id
standing id None e = absurd (true_is_false e refl)
standing id (Some other) e = ap Some (sym (same_id-is id other e))

pub stands : (list : List (Option ActionId)) (id : ActionId) (q : ℕ) → name_in list q ≡ Some id → stands_at list id q ≡ true
stands list id q e = ap (λ name. option_map_or (same_id id) name false) e ∙ same_id-self id

-- a name at a place, and an earlier place at which it stands
record Repeated (list : List (Option ActionId)) (place : ℕ) (j : Joined) : Type 0 where
  pub id : ActionId
  pub earlier : ℕ
  pub name : name_in list place ≡ Some id
  pub found : earlier_place list place id ≡ Some earlier
  pub told : Twice id earlier place ≡ j

with_earlier : (list : List (Option ActionId)) (place : ℕ) (j : Joined) (id : ActionId) (o : Option ℕ) →
    name_in list place ≡ Some id → earlier_place list place id ≡ o →
    option_map (λ earlier. Twice id earlier place) o ≡ Some j → Repeated list place j
with_earlier list place j id None name found e = absurd (some_is_none (sym e))
with_earlier list place j id (Some earlier) name found e =
    record { id = id; earlier = earlier; name = name; found = found; told = same_Some _ _ e }

with_name : (list : List (Option ActionId)) (place : ℕ) (j : Joined) (o : Option ActionId) → name_in list place ≡ o →
    option_and_then (λ id. option_map (λ earlier. Twice id earlier place) (earlier_place list place id)) o ≡ Some j →
    Repeated list place j
with_name list place j None name e = absurd (some_is_none (sym e))
with_name list place j (Some id) name e = with_earlier list place j id (earlier_place list place id) name refl e

-- where a name isn't repeated at a place, it stands at no earlier one
pub not_repeated : (list : List (Option ActionId)) (p q : ℕ) (id : ActionId) → repeat_at list q ≡ None → 1 ≤ p → p < q →
    name_in list p ≡ Some id → name_in list q ≡ Some id → ⊥
not_repeated list p q id none low below here there =
    let open_ : option_map (λ earlier. Twice id earlier q) (earlier_place list q id) ≡ None =
    sym (ap (option_and_then (λ n. option_map (λ earlier. Twice n earlier q) (earlier_place list q n))) there) ∙ none in
    let nowhere = option_map_none (λ earlier. Twice id earlier q) (earlier_place list q id) open_ in
    true_is_false (stands list id p here) (none_passes (stands_at list id) 1 (q - 1) nowhere p low (omega (arith, low, below)))

pub repeat_is_told : (logs : List Log) (j : Joined) → first_difference logs ≡ None → first_repeat (covered logs) ≡ Some j →
    IsTold logs j
repeat_is_told logs j none e =
    let f = first_has (repeat_at (covered logs)) 1 (length (covered logs)) j e in
    let r = with_name (covered logs) f.at j (name_in (covered logs) f.at) refl f.value in
    let at = found_is (stands_at (covered logs) r.id) 1 (f.at - 1) r.earlier r.found in
    let named = standing r.id (name_in (covered logs) r.earlier) at.passes in
    subst (IsTold logs) r.told (record {
      one_name = λ q id other s t. one_name logs q (no_difference_at logs none q id s) id other s t;
      ascend = omega (arith, at.low, at.high);
      here = named_is_seen logs r.earlier r.id named;
      there = named_is_seen logs f.at r.id r.name;
      least = λ p q name ascend below s t.
          not_repeated (covered logs) p q name (f.before q (seen_within logs q name t).0 below)
          (seen_within logs p name s).0 ascend (seen_is_named logs none p name s) (seen_is_named logs none q name t);
      no_order = λ order o. some_is_none (sym e ∙ no_repeat logs order o);
    })

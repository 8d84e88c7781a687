-- What is told of logs that agree is so: an order of which each log is a part has the names that they cover, and at any other
-- place a name that no log has.
use Rattle.std.specs.Prelude.{◌≡◌, ◌<◌, ◌≤◌, ◌+◌, ℕ, zero, suc, max, List, [], ◌∷◌, Option, Some, None, length, map, slice_get}
use Rattle.std.specs.Option.{option_map_or}
use Rattle.std.proofs.Common.{refl, sym, ap, ◌∙◌, arith, ⊎_elim}
use Rattle.std.proofs.lemmas.Bool.{cases_lt}
use Rattle.std.proofs.lemmas.Option.{same_Some}
use Rattle.std.proofs.lemmas.List.{length-map}
use Rattle.cg_base.specs.declared.action_id.ActionId.{ActionId}
use Rattle.cg_base.specs.Lists.{at_place, first_some}
use Rattle.cg_base.specs.ListLaws.{length-count_up}
use Rattle.cg_compare.specs.declared.log.Log.{Log}
use Rattle.cg_compare.specs.declared.log.Joined.{Joined}
use Rattle.cg_compare.specs.declared.log.Joined.TheVariants.{Agree}
use Rattle.cg_compare.specs.Orders.{IsOrderOf, IsSeen, IsShared, IsTold}
use Rattle.cg_compare.specs.Places.{seen_at, last_place, places_of}
use Rattle.cg_compare.specs.Join.{first_difference, first_name, covered, repeat_at, first_repeat, join_logs}
use Rattle.cg_compare.proofs.First.{some_is_none, none_has}
use Rattle.cg_compare.proofs.Seeing.{seen_first, seen_within, place_within, last_is_last}
use Rattle.cg_compare.proofs.Differing.{difference_is_told}
use Rattle.cg_compare.proofs.Agreed.{no_difference_at, seen_is_told}
use Rattle.cg_compare.proofs.OneOrder.{mapped_at, covered_at}
use Rattle.cg_compare.proofs.Repeating.{length-covered, place_mapped, seen_is_named, not_repeated, repeat_is_told}

-- ---- names that no log has

-- no index in the list is greater
abbrev top : List (Option ActionId) → ℕ
top [] = 0
top (None ∷ names) = top names
top (Some id ∷ names) = max id.index (top names)

index_within : (list : List (Option ActionId)) (k : ℕ) (id : ActionId) → slice_get list k ≡ Some (Some id) → id.index ≤ top list
index_within [] k id e = absurd (some_is_none (sym e))
index_within (None ∷ names) zero id e = absurd (some_is_none (sym (same_Some None (Some id) e)))
index_within (Some name ∷ names) zero id e =
    let same : name.index ≡ id.index = ap (λ (n : ActionId). n.index) (same_Some name id (same_Some (Some name) (Some id) e)) in
    omega (arith, same)
index_within (None ∷ names) (suc k) id e = index_within names k id e
index_within (Some name ∷ names) (suc k) id e = omega (arith, index_within names k id e)

abbrev filled : ℕ → ℕ → Option ActionId → ActionId
filled above place None = record { creator = 0; index = above + place }
filled above place (Some id) = id

-- ---- the order

abbrev told_of : List Log → ℕ → Option ActionId
told_of logs place = first_name (seen_at logs place)

abbrev order_of : List Log → List ActionId
order_of logs = map (λ place. filled (top (covered logs)) place (told_of logs place)) (places_of logs)

order_at : (logs : List Log) (q : ℕ) (id : ActionId) → at_place (order_of logs) q ≡ Some id →
    id ≡ filled (top (covered logs)) q (told_of logs q)
order_at logs zero id e = absurd (some_is_none (sym e))
order_at logs (suc k) id e =
    mapped_at (λ place. filled (top (covered logs)) place (told_of logs place)) 1 (last_place logs) k id e
    ∙ ap (λ place. filled (top (covered logs)) place (told_of logs place)) (omega arith)

length-order : (logs : List Log) → length (order_of logs) ≡ last_place logs
length-order logs =
    length-map (places_of logs) (λ place. filled (top (covered logs)) place (told_of logs place))
    ∙ length-count_up 1 (last_place logs)

within_order : (logs : List Log) (q : ℕ) (id : ActionId) → at_place (order_of logs) q ≡ Some id → (1 ≤ q) × (q ≤ last_place logs)
within_order logs q id e =
    let inside = place_within (order_of logs) q id e in
    (omega (arith, inside.0), omega (arith, inside.1, length-order logs))

told_index : (logs : List Log) (q : ℕ) (id : ActionId) → 1 ≤ q → q ≤ last_place logs → told_of logs q ≡ Some id →
    id.index ≤ top (covered logs)
told_index logs zero id low high e = absurd (omega (arith, low))
told_index logs (suc k) id low high e =
    index_within (covered logs) k id (place_mapped (told_of logs) (last_place logs) (suc k) low high ∙ ap Some e)

-- two names that are told are at one place
one_place : (logs : List Log) → first_difference logs ≡ None → first_repeat (covered logs) ≡ None →
    (p q : ℕ) (id : ActionId) → told_of logs p ≡ Some id → told_of logs q ≡ Some id → p < q → ⊥
one_place logs none once p q id here there below =
    let s = seen_first logs p id here in
    let t = seen_first logs q id there in
    let high = (seen_within logs q id t).1 in
    let within : q < 1 + length (covered logs) = omega (arith, high, length-covered logs) in
    not_repeated (covered logs) p q id
    (none_has (repeat_at (covered logs)) 1 (length (covered logs)) once q (omega (arith, below)) within)
    (seen_within logs p id s).0 below (seen_is_named logs none p id s) (seen_is_named logs none q id t)

-- what stands at two places of the order, by what is told of each
once_by : (logs : List Log) → first_difference logs ≡ None → first_repeat (covered logs) ≡ None → (p q : ℕ) (id : ActionId) →
    (1 ≤ p) × (p ≤ last_place logs) → (1 ≤ q) × (q ≤ last_place logs) → (a b : Option ActionId) → told_of logs p ≡ a →
    told_of logs q ≡ b → id ≡ filled (top (covered logs)) p a → id ≡ filled (top (covered logs)) q b → p ≡ q
once_by logs none once p q id inp inq None None ea eb here there =
    let same : top (covered logs) + p ≡ top (covered logs) + q = ap (λ (n : ActionId). n.index) (sym here ∙ there) in
    omega (arith, same)
once_by logs none once p q id inp inq None (Some b) ea eb here there =
    let same : top (covered logs) + p ≡ b.index = ap (λ (n : ActionId). n.index) (sym here ∙ there) in
    absurd (omega (arith, same, inp.0, told_index logs q b inq.0 inq.1 eb))
once_by logs none once p q id inp inq (Some a) None ea eb here there =
    let same : a.index ≡ top (covered logs) + q = ap (λ (n : ActionId). n.index) (sym here ∙ there) in
    absurd (omega (arith, same, inq.0, told_index logs p a inp.0 inp.1 ea))
once_by logs none once p q id inp inq (Some a) (Some b) ea eb here there =
    let one : told_of logs p ≡ Some id = ea ∙ ap Some (sym here) in
    let other : told_of logs q ≡ Some id = eb ∙ ap Some (sym there) in
    ⊎_elim
    (λ (below : p < q). absurd (one_place logs none once p q id one other below))
    (λ (le : q ≤ p). ⊎_elim
    (λ (below : q < p). absurd (one_place logs none once q p id other one below))
    (λ (up : p ≤ q). omega (arith, le, up))
    (cases_lt q p))
    (cases_lt p q)

order_is : (logs : List Log) → first_difference logs ≡ None → first_repeat (covered logs) ≡ None → IsOrderOf logs (order_of logs)
order_is logs none once = record {
  once = λ p q id here there.
      once_by logs none once p q id (within_order logs p id here) (within_order logs q id there)
      (told_of logs p) (told_of logs q) refl refl (order_at logs p id here) (order_at logs q id there);
  agrees = λ log inside place id name.
      let s : IsSeen logs place id = record { log = log; stands = inside; name = name } in
      let within = seen_within logs place id s in
      place_mapped (λ q. filled (top (covered logs)) q (told_of logs q)) (last_place logs) place within.0 within.1
      ∙ ap (λ o. Some (filled (top (covered logs)) place o)) (seen_is_told logs place id (no_difference_at logs none place id s) s);
}

named_is : (logs : List Log) (q : ℕ) (id : ActionId) → at_place (covered logs) q ≡ Some (Some id) → IsSeen logs q id
named_is logs q id e = seen_first logs q id (sym (covered_at logs q (Some id) e))

agreement_is_told : (logs : List Log) → first_difference logs ≡ None → first_repeat (covered logs) ≡ None →
    IsShared logs (last_place logs) (covered logs)
agreement_is_told logs none once = record {
  order = order_of logs;
  agrees = order_is logs none once;
  is_last = last_is_last logs;
  whole = length-covered logs;
  named = λ place id e.
      let s = named_is logs place id e in
      ((id, s), λ other o. o.agrees s.log s.stands place id s.name);
  unnamed = λ place e seen.
      some_is_none (sym (seen_is_told logs place seen.0 (no_difference_at logs none place seen.0 seen.1) seen.1)
      ∙ sym (covered_at logs place None e));
}

-- ---- whichever it is

told_by : (logs : List Log) (a b : Option Joined) → first_difference logs ≡ a → first_repeat (covered logs) ≡ b →
    IsTold logs (option_map_or (λ found. found) (first_some (a ∷ b ∷ [])) (Agree (last_place logs) (covered logs)))
told_by logs (Some j) b differ repeat = difference_is_told logs j differ
told_by logs None (Some j) differ repeat = repeat_is_told logs j differ repeat
told_by logs None None differ repeat = agreement_is_told logs differ repeat

pub joins_are_told : (logs : List Log) → IsTold logs (join_logs logs)
joins_are_told logs = told_by logs (first_difference logs) (first_repeat (covered logs)) refl refl

-- Which places logs cover, and who is seen there.
use Rattle.std.specs.Prelude.{◌≡◌, ◌<◌, ◌≤◌, ◌⊎◌, ◌+◌, ◌-◌, ℕ, zero, suc, max, List, [], ◌∷◌, Option, Some, None, Contains, fold, length, map, option_map, slice_get, slice_index_or, if◌then◌else◌}
use Rattle.std.proofs.Common.{refl, sym, ap, ◌∙◌, arith, inl, inr, ⊎_elim}
use Rattle.std.proofs.lemmas.Bool.{cases_lt}
use Rattle.cg_base.specs.declared.action_id.ActionId.{ActionId}
use Rattle.cg_base.specs.Lists.{at_place, present}
use Rattle.cg_base.specs.Text.{is_nil}
use Rattle.cg_compare.specs.declared.log.Log.{Log}
use Rattle.cg_compare.specs.Join.{first_name}
use Rattle.cg_compare.specs.Orders.{IsSeen, IsCovered, IsLast}
use Rattle.cg_compare.specs.Places.{name_at, seen_in, seen_at, end_of, last_place}
use Rattle.cg_compare.proofs.First.{some_is_none}
use Rattle.cg_base.specs.ListLaws.{fold_max-from}

-- ---- one more log

pub in_more : (l : Log) (logs : List Log) (m : Log) → Contains logs m → Contains (l ∷ logs) m
in_more l logs m inside = (suc inside.0, omega (arith, inside.1), inside.2)

seen_more : (l : Log) (logs : List Log) (q : ℕ) (id : ActionId) → IsSeen logs q id → IsSeen (l ∷ logs) q id
seen_more l logs q id s = record { log = s.log; stands = in_more l logs s.log s.stands; name = s.name }

seen_head : (l : Log) (logs : List Log) (q : ℕ) (id : ActionId) (o : Option ActionId) → name_at l q ≡ o →
    first_name (present (option_map (λ n. record { line = l.line; id = n }) o ∷ map (seen_in q) logs)) ≡ Some id →
    (first_name (seen_at logs q) ≡ Some id → IsSeen logs q id) → IsSeen (l ∷ logs) q id
seen_head l logs q id None here e more = seen_more l logs q id (more e)
seen_head l logs q id (Some n) here e more = record { log = l; stands = (0, omega arith, refl); name = here ∙ e }

-- the name that is told of a place is seen there
pub seen_first : (logs : List Log) (q : ℕ) (id : ActionId) → first_name (seen_at logs q) ≡ Some id → IsSeen logs q id
seen_first [] q id e = absurd (some_is_none (sym e))
seen_first (l ∷ logs) q id e = seen_head l logs q id (name_at l q) refl e (seen_first logs q id)

-- ---- a place that a log covers is within the log

get_within : {X : Type 0} (xs : List X) (n : ℕ) (x : X) → slice_get xs n ≡ Some x → n < length xs
get_within [] zero x e = absurd (some_is_none (sym e))
get_within [] (suc n) x e = absurd (some_is_none (sym e))
get_within (y ∷ ys) zero x e = omega arith
get_within (y ∷ ys) (suc n) x e = omega (arith, get_within ys n x e)

pub place_within : {X : Type 0} (xs : List X) (n : ℕ) (x : X) → at_place xs n ≡ Some x → (0 < n) × (n ≤ length xs)
place_within xs zero x e = absurd (some_is_none (sym e))
place_within xs (suc n) x e = (omega arith, omega (arith, get_within xs n x e))

end_is : (w : ℕ) (list : List ActionId) → 0 < length list → (if is_nil list then 0 else w + length list) ≡ w + length list
end_is w [] some = absurd (omega (arith, some))
end_is w (x ∷ xs) some = refl

-- ---- the last place

end_within : (m : ℕ) (logs : List Log) (log : Log) (k : ℕ) → k < length logs → slice_index_or logs k log ≡ log →
    end_of log ≤ fold max m (map end_of logs)
end_within m [] log k below at = absurd (omega (arith, below))
end_within m (l ∷ logs) log zero below at =
    let same : end_of l ≡ end_of log = ap end_of at in
    omega (arith, same, fold_max-from (max m (end_of l)) (map end_of logs))
end_within m (l ∷ logs) log (suc k) below at = end_within (max m (end_of l)) logs log k (omega (arith, below)) at

-- a place that is covered is one of those up to the last one
pub seen_within : (logs : List Log) (q : ℕ) (id : ActionId) → IsSeen logs q id → (1 ≤ q) × (q ≤ last_place logs)
seen_within logs q id s =
    let inside = place_within s.log.list (q - s.log.white) id s.name in
    let is = end_is s.log.white s.log.list (omega (arith, inside.0, inside.1)) in
    let up = end_within 0 logs s.log s.stands.0 s.stands.1 s.stands.2 in
    (omega (arith, inside.0), omega (arith, inside.0, inside.1, is, up))

-- the log ends there
record Ends (logs : List Log) (last : ℕ) : Type 0 where
  pub log : Log
  pub stands : Contains logs log
  pub is : end_of log ≡ last

ends_more : (l : Log) (logs : List Log) (last : ℕ) → Ends logs last → Ends (l ∷ logs) last
ends_more l logs last e = record { log = e.log; stands = in_more l logs e.log e.stands; is = e.is }

ends_at : (m : ℕ) (logs : List Log) → (fold max m (map end_of logs) ≡ m) ⊎ Ends logs (fold max m (map end_of logs))
ends_at m [] = inl refl
ends_at m (l ∷ logs) = ⊎_elim
    (λ (is : fold max (max m (end_of l)) (map end_of logs) ≡ max m (end_of l)). ⊎_elim
    (λ (above : m < end_of l). inr (record { log = l; stands = (0, omega arith, refl); is = omega (arith, is, above) }))
    (λ (le : end_of l ≤ m). inl (omega (arith, is, le)))
    (cases_lt m (end_of l)))
    (λ (e : Ends logs (fold max (max m (end_of l)) (map end_of logs))). inr (ends_more l logs _ e))
    (ends_at (max m (end_of l)) logs)

last_there : {X : Type 0} (x : X) (xs : List X) → (y : X) × (slice_get (x ∷ xs) (length xs) ≡ Some y)
last_there x [] = (x, refl)
last_there x (y ∷ ys) = last_there y ys

end_covered : (logs : List Log) (last : ℕ) (e : Ends logs last) (list : List ActionId) → e.log.list ≡ list →
    (last ≡ 0) ⊎ IsCovered logs last
end_covered logs last e [] is =
    let none : end_of e.log ≡ 0 = ap (λ list. if is_nil list then 0 else e.log.white + length list) is in
    inl (sym e.is ∙ none)
end_covered logs last e (x ∷ xs) is =
    let end : end_of e.log ≡ e.log.white + suc (length xs) =
    ap (λ list. if is_nil list then 0 else e.log.white + length list) is in
    let place : last - e.log.white ≡ suc (length xs) = omega (arith, end, e.is) in
    let there = last_there x xs in
    let name : name_at e.log last ≡ Some there.0 =
    ap (λ n. at_place e.log.list n) place ∙ ap (λ list. at_place list (suc (length xs))) is ∙ there.1 in
    inr (there.0, record { log = e.log; stands = e.stands; name = name })

pub last_is_last : (logs : List Log) → IsLast logs (last_place logs)
last_is_last logs = record {
  greatest = λ place covered. (seen_within logs place covered.0 covered.1).1;
  covered = ⊎_elim
      (λ (is : last_place logs ≡ 0). inl is)
      (λ (e : Ends logs (last_place logs)). end_covered logs (last_place logs) e e.log.list refl)
      (ends_at 0 logs);
}

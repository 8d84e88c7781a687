-- The names of logs, sorted by place, are placed: they ascend, and at each place stands what is seen there.
use Rattle.std.specs.Prelude.{◌≡◌, ◌<◌, ◌≤◌, ◌+◌, ◌-◌, ◌==◌, ℕ, zero, suc, List, [], ◌∷◌, ◌++◌, Option, Some, None, filter, length, map, option_map, slice_index_or}
use Rattle.std.specs.List.Sorted.{IsNonDecreasingBy, IsStableByKey, ties}
use Rattle.std.specs.Ordering.{nat_cmp, is_lt}
use Rattle.std.proofs.Common.{refl, sym, ap, ap₂, ◌∙◌, arith, ⊎_elim}
use Rattle.std.proofs.lemmas.Bool.{cases_eq, cases_lt}
use Rattle.std.proofs.lemmas.Bool.Decides.{nat_tests}
use Rattle.std.proofs.lemmas.List.{map-append}
use Rattle.std.proofs.lemmas.List.Elements.{filter-append}
use Rattle.cg_base.specs.declared.action_id.ActionId.{ActionId}
use Rattle.cg_base.specs.Lists.{at_place, present}
use Rattle.cg_compare.specs.declared.log.Log.{Log}
use Rattle.cg_compare.specs.declared.seen.Seen.{Seen}
use Rattle.cg_compare.specs.Places.{Sighting, seen_in, seen_at}
use Rattle.cg_compare.specs.Seen.{names_behind, names_in, all_names, sighting, seen_among, AreFrom, Ascend, ArePlaced}
use Rattle.cg_compare.proofs.PlacedDifference.{hit, miss, none_below}
use Rattle.cg_base.specs.ListLaws.{at_place-nil}

-- ---- what is seen among all names

are_from : (line low place : ℕ) (ids : List ActionId) → low ≤ place + 1 → AreFrom low (names_behind line place ids)
are_from line low place [] le = tt
are_from line low place (id ∷ ids) le = (le, are_from line low (place + 1) ids (omega (arith, le)))

abbrev sight : ℕ → ActionId → Sighting
sight line id = record { line = line; id = id }

in_log : (line q place : ℕ) (ids : List ActionId) →
    seen_among (names_behind line place ids) q ≡ present (option_map (sight line) (at_place ids (q - place)) ∷ [])
in_log line q place [] = ap (λ o. present (option_map (sight line) o ∷ [])) (sym (at_place-nil (q - place)))
in_log line q place (id ∷ ids) = ⊎_elim
    (λ (here : place + 1 ≡ q).
    let first : 1 ≡ q - place = omega (arith, here) in
    hit q (record { place = place + 1; line = line; id = id }) (names_behind line (place + 1) ids) here
    ∙ ap (λ rest. sight line id ∷ rest)
    (none_below (names_behind line (place + 1) ids) (place + 2) q (are_from line (place + 2) (place + 1) ids (omega arith))
    (omega (arith, here)))
    ∙ ap (λ n. present (option_map (sight line) (at_place (id ∷ ids) n) ∷ [])) first)
    (λ (apart : place + 1 ≡ q → ⊥).
    miss q (record { place = place + 1; line = line; id = id }) (names_behind line (place + 1) ids) apart
    ∙ in_log line q (place + 1) ids
    ∙ ap (λ o. present (option_map (sight line) o ∷ [])) (next apart))
    (cases_eq (place + 1) q) where
      next : (place + 1 ≡ q → ⊥) → at_place ids (q - (place + 1)) ≡ at_place (id ∷ ids) (q - place)
      next apart = ⊎_elim
          (λ (below : q < place + 1).
          let one : q - (place + 1) ≡ 0 = omega (arith, below) in
          let other : 0 ≡ q - place = omega (arith, below) in
          ap (at_place ids) one ∙ ap (at_place (id ∷ ids)) other)
          (λ (le : place + 1 ≤ q).
          let one : q - (place + 1) ≡ suc (q - (place + 2)) = omega (arith, le, apart) in
          let other : suc (suc (q - (place + 2))) ≡ q - place = omega (arith, le, apart) in
          ap (at_place ids) one ∙ ap (at_place (id ∷ ids)) other)
          (cases_lt q (place + 1))

one_more : {X : Type 0} (o : Option X) (rest : List (Option X)) → present (o ∷ []) ++ present rest ≡ present (o ∷ rest)
one_more None rest = refl
one_more (Some x) rest = refl

seen_in_log : (l : Log) (q : ℕ) → seen_among (names_in l) q ≡ present (seen_in q l ∷ [])
seen_in_log l q = in_log l.line q l.white l.list

seen_in_all : (logs : List Log) (q : ℕ) → seen_among (all_names logs) q ≡ seen_at logs q
seen_in_all [] q = refl
seen_in_all (l ∷ logs) q =
    ap (map sighting) (filter-append (λ s. s.place == q) (names_in l) (all_names logs))
    ∙ map-append sighting (filter (λ s. s.place == q) (names_in l)) (filter (λ s. s.place == q) (all_names logs))
    ∙ ap₂ (λ a b. a ++ b) (seen_in_log l q) (seen_in_all logs q)
    ∙ one_more (seen_in q l) (map (seen_in q) logs)

-- ---- sorted names

from_below : (low : ℕ) (names : List Seen) → ((k : ℕ) (d : Seen) → k < length names → low ≤ (slice_index_or names k d).place) →
    AreFrom low names
from_below low [] h = tt
from_below low (s ∷ more) h = (h 0 s (omega arith), from_below low more (λ k d below. h (suc k) d (omega (arith, below))))

ascend : (names : List Seen) → IsNonDecreasingBy (λ (s : Seen). s.place) names → Ascend names
ascend [] up = tt
ascend (s ∷ more) up = (
  from_below s.place more (λ k d below. up 0 (suc k) d (omega arith) (omega (arith, below))),
  ascend more (λ i j d le below. up (suc i) (suc j) d (omega (arith, le)) (omega (arith, below))),
)

at_the_place : (q : ℕ) (s : Seen) → ties (λ (x y : Seen). is_lt (nat_cmp x.place y.place)) (record { place = q; line = 0; id = record { creator = 0; index = 0 } }) s
    ≡ (s.place == q)
at_the_place q s = same_place q s.place where
  same_place : (a b : ℕ) → ties (λ (x y : ℕ). is_lt (nat_cmp x y)) a b ≡ (b == a)
  same_place a b = grind (arith, nat_tests)

pub sorted_are_placed : (logs : List Log) (names sorted : List Seen) → names ≡ all_names logs →
    IsNonDecreasingBy (λ (s : Seen). s.place) sorted → IsStableByKey (λ (s : Seen). s.place) nat_cmp names sorted →
    ArePlaced logs sorted
sorted_are_placed logs names sorted all up stable = record {
  ascend = ascend sorted up;
  seen = λ q.
      let probe : Seen = record { place = q; line = 0; id = record { creator = 0; index = 0 } } in
      let same : filter (λ s. s.place == q) sorted ≡ filter (λ s. s.place == q) names =
      sym (λ i. filter (λ s. at_the_place q s i) sorted) ∙ stable probe ∙ (λ i. filter (λ s. at_the_place q s i) names) in
      ap (map sighting) same ∙ ap (λ ns. seen_among ns q) all ∙ seen_in_all logs q;
}

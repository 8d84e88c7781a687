-- Logs that are parts of one order are told to agree.
use Rattle.std.specs.Prelude.{◌≡◌, ◌<◌, ◌+◌, ◌-◌, ℕ, zero, suc, Bool, false, not, List, [], ◌∷◌, Option, Some, None, Contains, find, length, map, slice_get, option_map, option_and_then}
use Rattle.std.specs.Option.{option_map_or}
use Rattle.std.proofs.Common.{refl, sym, ap, ap₂, subst, ◌∙◌, arith}
use Rattle.cg_base.specs.declared.action_id.ActionId.{ActionId}
use Rattle.cg_base.specs.Ids.{same_id}
use Rattle.cg_base.specs.IdLaws.{same_id-is, same_id-self}
use Rattle.cg_base.specs.Lists.{at_place, count_up, first_some, present}
use Rattle.cg_compare.specs.declared.log.Log.{Log}
use Rattle.cg_compare.specs.declared.log.Joined.TheVariants.{Agree, Twice}
use Rattle.cg_compare.specs.Places.{Sighting, name_at, seen_in, seen_at, places_of, last_place}
use Rattle.cg_compare.specs.Join.{difference_in, first_difference, first_name, covered, name_in, stands_at, earlier_place, repeat_at, first_repeat, join_logs}
use Rattle.cg_compare.specs.Orders.{AgreesWith, IsOrderOf}
use Rattle.std.proofs.lemmas.Bool.{false_from_ne_true}
use Rattle.std.proofs.lemmas.Option.{same_Some}
use Rattle.cg_base.specs.OptionLaws.{one_value}

-- the order agrees with each of the logs
abbrev AgreeAll : List ActionId → List Log → Type 0
AgreeAll order [] = Unit {0}
AgreeAll order (l ∷ logs) = AgreesWith order l × AgreeAll order logs

agree_all : (order : List ActionId) (logs : List Log) → ((log : Log) → Contains logs log → AgreesWith order log) → AgreeAll order logs
agree_all order [] h = tt
agree_all order (l ∷ logs) h = (h l (0, omega arith, refl), agree_all order logs (λ m inside. h m (suc inside.0, omega (arith, inside.1), inside.2)))

-- each sighting is the order's name at the place
abbrev AreNamed : List ActionId → ℕ → List Sighting → Type 0
AreNamed order place [] = Unit {0}
AreNamed order place (s ∷ more) = (at_place order place ≡ Some s.id) × AreNamed order place more

with_sighting : (order : List ActionId) (place line : ℕ) (name : Option ActionId) (rest : List (Option Sighting)) → ((id : ActionId) → name ≡ Some id → at_place order place ≡ Some id)
    → AreNamed order place (present rest) → AreNamed order place (present (option_map (λ id. record { line = line; id = id }) name ∷ rest))
with_sighting order place line None rest h more = more
with_sighting order place line (Some id) rest h more = (h id refl, more)

seen_are_named : (order : List ActionId) (place : ℕ) (logs : List Log) → AgreeAll order logs → AreNamed order place (seen_at logs place)
seen_are_named order place [] h = tt
seen_are_named order place (l ∷ logs) h = with_sighting order place l.line (name_at l place) (map (seen_in place) logs) (h.0 place) (seen_are_named order place logs h.1)

-- ---- no difference

not_other : (a b : ActionId) → a ≡ b → not (same_id a b) ≡ false
not_other a b e = subst (λ x. not (same_id a x) ≡ false) e (ap not (same_id-self a))

none_other : (order : List ActionId) (place : ℕ) (id : ActionId) (more : List Sighting) → at_place order place ≡ Some id → AreNamed order place more → find (λ s. not (same_id id s.id)) more ≡ None
none_other order place id [] here h = refl
none_other order place id (s ∷ more) here h = rw (not_other id s.id (one_value (at_place order place) id s.id here h.0)) (none_other order place id more here h.1)

no_difference_in : (order : List ActionId) (place : ℕ) (ss : List Sighting) → AreNamed order place ss → difference_in place ss ≡ None
no_difference_in order place [] h = refl
no_difference_in order place (s ∷ more) h = rw (none_other order place s.id more h.0 h.1) refl

first_none : {X : Type 0} (f : ℕ → Option X) (ns : List ℕ) → ((n : ℕ) → f n ≡ None) → first_some (map f ns) ≡ None
first_none f [] h = refl
first_none f (n ∷ ns) h = rw (h n) (first_none f ns h)

pub no_difference : (logs : List Log) (order : List ActionId) → IsOrderOf logs order → first_difference logs ≡ None
no_difference logs order o =
    first_none (λ place. difference_in place (seen_at logs place)) (places_of logs) (λ place. no_difference_in order place (seen_at logs place) (seen_are_named order place logs (agree_all order logs o.agrees)))

-- ---- no repeat

no_some : {X : Type 0} {x : X} → ◌≡◌ {A = Option X} None (Some x) → ⊥
no_some e = cc

-- what a map over the numbers from one on has at a place
pub mapped_at : {X : Type 0} (f : ℕ → X) (from n k : ℕ) (x : X) → slice_get (map f (count_up from n)) k ≡ Some x → x ≡ f (from + k)
mapped_at f from zero k x e = absurd (no_some e)
mapped_at f from (suc n) zero x e = sym (same_Some (f from) x e) ∙ ap f (omega arith)
mapped_at f from (suc n) (suc k) x e = mapped_at f (suc from) n k x e ∙ ap f (omega arith)

pub covered_at : (logs : List Log) (q : ℕ) (name : Option ActionId) → at_place (covered logs) q ≡ Some name → name ≡ first_name (seen_at logs q)
covered_at logs zero name e = absurd (no_some e)
covered_at logs (suc k) name e =
    mapped_at (λ place. first_name (seen_at logs place)) 1 (last_place logs) k name e ∙ ap (λ place. first_name (seen_at logs place)) (omega arith)

first_is_named : (order : List ActionId) (place : ℕ) (ss : List Sighting) (id : ActionId) → AreNamed order place ss → first_name ss ≡ Some id → at_place order place ≡ Some id
first_is_named order place [] id h e = absurd (no_some e)
first_is_named order place (s ∷ more) id h e = h.0 ∙ e

pub in_cell : (first : Option ActionId) (id : ActionId) (cell : Option (Option ActionId)) → ((name : Option ActionId) → cell ≡ Some name → name ≡ first)
    → option_and_then (λ name. name) cell ≡ Some id → first ≡ Some id
in_cell first id None h e = absurd (no_some e)
in_cell first id (Some name) h e = sym (h name refl) ∙ e

-- a name that is covered is the order's
name_is : (logs : List Log) (order : List ActionId) → AgreeAll order logs → (q : ℕ) (id : ActionId) → name_in (covered logs) q ≡ Some id → at_place order q ≡ Some id
name_is logs order agree q id e =
    first_is_named order q (seen_at logs q) id (seen_are_named order q logs agree)
    (in_cell (first_name (seen_at logs q)) id (at_place (covered logs) q) (covered_at logs q) e)

not_the_name : (id : ActionId) (name : Option ActionId) → ((other : ActionId) → name ≡ Some other → id ≡ other → ⊥) → option_map_or (same_id id) name false ≡ false
not_the_name id None h = refl
not_the_name id (Some other) h = false_from_ne_true (same_id id other) (λ e. h other refl (same_id-is id other e))

none_found : (p : ℕ → Bool) (from n : ℕ) → ((q : ℕ) → q < from + n → p q ≡ false) → find p (count_up from n) ≡ None
none_found p from zero h = refl
none_found p from (suc n) h = rw (h from (omega arith)) (none_found p (suc from) n (λ q below. h q (omega (arith, below))))

no_earlier : (logs : List Log) (order : List ActionId) → IsOrderOf logs order → (place : ℕ) (id : ActionId) → at_place order place ≡ Some id → earlier_place (covered logs) place id ≡ None
no_earlier logs order o zero id here = absurd (no_some here)
no_earlier logs order o (suc n) id here =
    none_found (stands_at (covered logs) id) 1 (suc n - 1) (λ q below. not_the_name id (name_in (covered logs) q) (λ other e same. differ q other below e same)) where
      differ : (q : ℕ) (other : ActionId) → q < 1 + (suc n - 1) → name_in (covered logs) q ≡ Some other → id ≡ other → ⊥
      differ q other below e same =
          let there : at_place order q ≡ Some id = name_is logs order (agree_all order logs o.agrees) q other e ∙ ap Some (sym same) in
          let is : q ≡ suc n = o.once q (suc n) id there here in
          omega (arith, below, is)

no_repeat_in : (list : List (Option ActionId)) (place : ℕ) (name : Option ActionId) → ((id : ActionId) → name ≡ Some id → earlier_place list place id ≡ None)
    → option_and_then (λ id. option_map (λ earlier. Twice id earlier place) (earlier_place list place id)) name ≡ None
no_repeat_in list place None h = refl
no_repeat_in list place (Some id) h = ap (option_map (λ earlier. Twice id earlier place)) (h id refl)

pub no_repeat : (logs : List Log) (order : List ActionId) → IsOrderOf logs order → first_repeat (covered logs) ≡ None
no_repeat logs order o =
    first_none (repeat_at (covered logs)) (count_up 1 (length (covered logs)))
    (λ place. no_repeat_in (covered logs) place (name_in (covered logs) place)
    (λ id e. no_earlier logs order o place id (name_is logs order (agree_all order logs o.agrees) place id e)))

-- logs of one order are told to agree: so where they are told to differ, or to have a name twice, no order agrees with all of them
pub logs_of_one_order_agree : (logs : List Log) (order : List ActionId) → IsOrderOf logs order → join_logs logs ≡ Agree (last_place logs) (covered logs)
logs_of_one_order_agree logs order o =
    ap₂ (λ a b. option_map_or (λ found. found) (first_some (a ∷ b ∷ [])) (Agree (last_place logs) (covered logs))) (no_difference logs order o) (no_repeat logs order o)

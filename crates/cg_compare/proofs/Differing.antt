-- What is told of two logs that differ is so.
use Rattle.std.specs.Prelude.{◌≡◌, ◌≢◌, ◌<◌, ◌≤◌, ◌⊎◌, ℕ, Bool, true, false, not, List, [], ◌∷◌, ◌++◌, Option, Some, None, find, map, option_map, if◌then◌else◌}
use Rattle.std.specs.List.{All}
use Rattle.std.proofs.Common.{refl, sym, ap, subst, ◌∙◌, inl, inr}
use Rattle.std.proofs.lemmas.List.Elements.{All-nil, All-cons}
use Rattle.std.proofs.lemmas.Option.{same_Some}
use Rattle.cg_base.specs.declared.action_id.ActionId.{ActionId}
use Rattle.cg_base.specs.Ids.{same_id}
use Rattle.cg_base.specs.IdLaws.{same_id-is, same_id-self}
use Rattle.cg_base.specs.Lists.{present}
use Rattle.cg_compare.specs.declared.log.Log.{Log}
use Rattle.cg_compare.specs.declared.log.Joined.{Joined}
use Rattle.cg_compare.specs.declared.log.Joined.TheVariants.{Differ}
use Rattle.cg_compare.specs.Orders.{HaveOneName, IsTold}
use Rattle.cg_compare.specs.Places.{Sighting, name_at, seen_in, seen_at, last_place}
use Rattle.cg_compare.specs.Join.{differing, difference_in, first_difference}
use Rattle.cg_compare.proofs.First.{some_is_none, true_is_false, first_has}
use Rattle.cg_compare.proofs.Seeing.{seen_within}
use Rattle.cg_compare.proofs.Agreed.{one_name}
use Rattle.cg_compare.proofs.OneOrder.{no_difference}

-- ---- the first log that differs from a name

-- of the logs the first that has another name there than this one
record Apart (place : ℕ) (id : ActionId) (logs : List Log) (s : Sighting) : Type 0 where
  pub between : List Log
  pub other : Log
  pub behind : List Log
  pub logs_are : logs ≡ between ++ other ∷ behind
  pub same : All (λ log. (name_at log place ≡ None) ⊎ (name_at log place ≡ Some id)) between
  pub other_is : (other.line ≡ s.line) × (name_at other place ≡ Some s.id)
  pub differs : id ≢ s.id

apart_more : (place : ℕ) (id : ActionId) (l : Log) (logs : List Log) (s : Sighting) →
    ((name_at l place ≡ None) ⊎ (name_at l place ≡ Some id)) → Apart place id logs s → Apart place id (l ∷ logs) s
apart_more place id l logs s here a = record {
  between = l ∷ a.between;
  other = a.other;
  behind = a.behind;
  logs_are = ap (λ rest. l ∷ rest) a.logs_are;
  same = All-cons (λ log. (name_at log place ≡ None) ⊎ (name_at log place ≡ Some id)) l a.between here a.same;
  other_is = a.other_is;
  differs = a.differs;
}

abbrev sight : Log → ActionId → Sighting
sight l n = record { line = l.line; id = n }

by_test : (place : ℕ) (id : ActionId) (l : Log) (logs : List Log) (s : Sighting) (n : ActionId) (b : Bool) →
    name_at l place ≡ Some n → same_id id n ≡ b →
    (if not b then Some (sight l n) else find (λ t. not (same_id id t.id)) (seen_at logs place)) ≡ Some s →
    (find (λ t. not (same_id id t.id)) (seen_at logs place) ≡ Some s → Apart place id logs s) → Apart place id (l ∷ logs) s
by_test place id l logs s n true here same e more =
    apart_more place id l logs s (inr (here ∙ ap Some (sym (same_id-is id n same)))) (more e)
by_test place id l logs s n false here apart e more =
    let is : sight l n ≡ s = same_Some _ _ e in
    record {
      between = [];
      other = l;
      behind = logs;
      logs_are = refl;
      same = All-nil (λ log. (name_at log place ≡ None) ⊎ (name_at log place ≡ Some id));
      other_is = (ap (λ (t : Sighting). t.line) is, here ∙ ap (λ (t : Sighting). Some t.id) is);
      differs = λ same.
          let here_too : id ≡ n = same ∙ sym (ap (λ (t : Sighting). t.id) is) in
          true_is_false (subst (λ m. same_id id m ≡ true) here_too (same_id-self id)) apart;
    }

apart_head : (place : ℕ) (id : ActionId) (l : Log) (logs : List Log) (s : Sighting) (o : Option ActionId) →
    name_at l place ≡ o →
    find (λ t. not (same_id id t.id)) (present (option_map (sight l) o ∷ map (seen_in place) logs)) ≡ Some s →
    (find (λ t. not (same_id id t.id)) (seen_at logs place) ≡ Some s → Apart place id logs s) → Apart place id (l ∷ logs) s
apart_head place id l logs s None here e more = apart_more place id l logs s (inl here) (more e)
apart_head place id l logs s (Some n) here e more = by_test place id l logs s n (same_id id n) here refl e more

other_found : (place : ℕ) (id : ActionId) (logs : List Log) (s : Sighting) →
    find (λ t. not (same_id id t.id)) (seen_at logs place) ≡ Some s → Apart place id logs s
other_found place id [] s e = absurd (some_is_none (sym e))
other_found place id (l ∷ logs) s e = apart_head place id l logs s (name_at l place) refl e (other_found place id logs s)

-- ---- the first log that covers the place

record Parted (place : ℕ) (logs : List Log) (j : Joined) : Type 0 where
  pub before : List Log
  pub first : Log
  pub rest : List Log
  pub id : ActionId
  pub other : Sighting
  pub logs_are : logs ≡ before ++ first ∷ rest
  pub uncovered : All (λ log. name_at log place ≡ None) before
  pub first_is : name_at first place ≡ Some id
  pub apart : Apart place id rest other
  pub told : Differ place first.line id other.line other.id ≡ j

parted_more : (place : ℕ) (l : Log) (logs : List Log) (j : Joined) → name_at l place ≡ None → Parted place logs j →
    Parted place (l ∷ logs) j
parted_more place l logs j here p = record {
  before = l ∷ p.before;
  first = p.first;
  rest = p.rest;
  id = p.id;
  other = p.other;
  logs_are = ap (λ rest. l ∷ rest) p.logs_are;
  uncovered = All-cons (λ log. name_at log place ≡ None) l p.before here p.uncovered;
  first_is = p.first_is;
  apart = p.apart;
  told = p.told;
}

with_other : (place : ℕ) (l : Log) (logs : List Log) (j : Joined) (n : ActionId) (o : Option Sighting) →
    name_at l place ≡ Some n → find (λ t. not (same_id n t.id)) (seen_at logs place) ≡ o →
    option_map (differing place (sight l n)) o ≡ Some j → Parted place (l ∷ logs) j
with_other place l logs j n None here found e = absurd (some_is_none (sym e))
with_other place l logs j n (Some s) here found e = record {
  before = [];
  first = l;
  rest = logs;
  id = n;
  other = s;
  logs_are = refl;
  uncovered = All-nil (λ log. name_at log place ≡ None);
  first_is = here;
  apart = other_found place n logs s found;
  told = same_Some _ _ e;
}

parted_head : (place : ℕ) (l : Log) (logs : List Log) (j : Joined) (o : Option ActionId) → name_at l place ≡ o →
    difference_in place (present (option_map (sight l) o ∷ map (seen_in place) logs)) ≡ Some j →
    (difference_in place (seen_at logs place) ≡ Some j → Parted place logs j) → Parted place (l ∷ logs) j
parted_head place l logs j None here e more = parted_more place l logs j here (more e)
parted_head place l logs j (Some n) here e more =
    with_other place l logs j n (find (λ t. not (same_id n t.id)) (seen_at logs place)) here refl e

parted : (place : ℕ) (logs : List Log) (j : Joined) → difference_in place (seen_at logs place) ≡ Some j → Parted place logs j
parted place [] j e = absurd (some_is_none (sym e))
parted place (l ∷ logs) j e = parted_head place l logs j (name_at l place) refl e (parted place logs j)

-- ---- all of it

before_agree : (logs : List Log) (place : ℕ) →
    ((q : ℕ) → 1 ≤ q → q < place → difference_in q (seen_at logs q) ≡ None) → (q : ℕ) → q < place → HaveOneName logs q
before_agree logs place before q below id other s t =
    one_name logs q (before q (seen_within logs q id s).0 below) id other s t

pub difference_is_told : (logs : List Log) (j : Joined) → first_difference logs ≡ Some j → IsTold logs j
difference_is_told logs j e =
    let f = first_has (λ place. difference_in place (seen_at logs place)) 1 (last_place logs) j e in
    let p = parted f.at logs j f.value in
    subst (IsTold logs) p.told (record {
      before = p.before;
      first = p.first;
      between = p.apart.between;
      other = p.apart.other;
      behind = p.apart.behind;
      logs_are = p.logs_are ∙ ap (λ rest. p.before ++ p.first ∷ rest) p.apart.logs_are;
      uncovered = p.uncovered;
      first_is = (refl, p.first_is);
      same = p.apart.same;
      other_is = p.apart.other_is;
      differs = p.apart.differs;
      least = before_agree logs f.at f.before;
      no_order = λ order o. some_is_none (sym e ∙ no_difference logs order o);
    })

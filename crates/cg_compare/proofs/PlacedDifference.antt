-- The names of logs, ascending by place: each is seen where it stands, and the first that differs is the difference of the
-- logs.
use Rattle.std.specs.Prelude.{◌≡◌, ◌<◌, ◌≤◌, ◌⊎◌, ◌==◌, ℕ, true, false, not, List, [], ◌∷◌, Option, Some, None, filter, find, map, option_map, if◌then◌else◌}
use Rattle.std.proofs.Common.{refl, sym, ap, subst, ◌∙◌, arith, inl, inr, ⊎_elim, eq-eqb}
use Rattle.std.proofs.lemmas.Bool.{cases_eq, cases_Bool, cond-true, cond-false, ne_eqb}
use Rattle.std.proofs.lemmas.Option.{same_Some}
use Rattle.cg_base.specs.declared.action_id.ActionId.{ActionId}
use Rattle.cg_base.specs.Ids.{same_id}
use Rattle.cg_base.specs.Lists.{count_up, first_some, present}
use Rattle.cg_compare.specs.declared.log.Log.{Log}
use Rattle.cg_compare.specs.declared.log.Joined.{Joined}
use Rattle.cg_compare.specs.declared.log.Joined.TheVariants.{Differ}
use Rattle.cg_compare.specs.declared.seen.Seen.{Seen}
use Rattle.cg_compare.specs.Places.{Sighting, name_at, seen_in, seen_at, last_place, places_of}
use Rattle.cg_compare.specs.Join.{differing, difference_in, first_difference, first_name}
use Rattle.cg_compare.specs.Orders.{IsSeen}
use Rattle.cg_compare.specs.Seen.{sighting, seen_among, AreFrom, Ascend, ArePlaced, difference_after, difference_among}
use Rattle.cg_compare.proofs.First.{some_is_none, is_first, none_first}
use Rattle.cg_compare.proofs.Seeing.{in_more, seen_within}

-- ---- what is seen among names

abbrev pub Among : {X : Type 0} → X → List X → Type 0
Among x [] = ⊥
Among x (y ∷ ys) = (x ≡ y) ⊎ Among x ys

pub hit : (q : ℕ) (s : Seen) (more : List Seen) → s.place ≡ q → seen_among (s ∷ more) q ≡ sighting s ∷ seen_among more q
hit q s more e = ap (λ b. map sighting (if b then s ∷ filter (λ t. t.place == q) more else filter (λ t. t.place == q) more)) (eq-eqb s.place q e)

pub miss : (q : ℕ) (s : Seen) (more : List Seen) → (s.place ≡ q → ⊥) → seen_among (s ∷ more) q ≡ seen_among more q
miss q s more e = ap (λ b. map sighting (if b then s ∷ filter (λ t. t.place == q) more else filter (λ t. t.place == q) more)) (ne_eqb s.place q e)

among_seen : (names : List Seen) (s : Seen) → Among s names → Among (sighting s) (seen_among names s.place)
among_seen [] s a = a
among_seen (t ∷ more) s (inl is) =
    subst (Among (sighting s)) (sym (hit s.place t more (ap (λ (u : Seen). u.place) (sym is)))) (inl (ap sighting is))
among_seen (t ∷ more) s (inr a) = ⊎_elim
    (λ (same : t.place ≡ s.place). subst (Among (sighting s)) (sym (hit s.place t more same)) (inr (among_seen more s a)))
    (λ (apart : t.place ≡ s.place → ⊥). subst (Among (sighting s)) (sym (miss s.place t more apart)) (among_seen more s a))
    (cases_eq t.place s.place)

-- what is seen at a place is the name of a log there
log_head : (l : Log) (logs : List Log) (q : ℕ) (t : Sighting) (o : Option ActionId) → name_at l q ≡ o →
    Among t (present (option_map (λ n. record { line = l.line; id = n }) o ∷ map (seen_in q) logs)) →
    (Among t (seen_at logs q) → IsSeen logs q t.id) → IsSeen (l ∷ logs) q t.id
log_head l logs q t None here a more =
    let s = more a in
    record { log = s.log; stands = in_more l logs s.log s.stands; name = s.name }
log_head l logs q t (Some n) here (inl is) more =
    record { log = l; stands = (0, omega arith, refl); name = here ∙ ap (λ (u : Sighting). Some u.id) (sym is) }
log_head l logs q t (Some n) here (inr a) more =
    let s = more a in
    record { log = s.log; stands = in_more l logs s.log s.stands; name = s.name }

log_of : (logs : List Log) (q : ℕ) (t : Sighting) → Among t (seen_at logs q) → IsSeen logs q t.id
log_of [] q t a = absurd a
log_of (l ∷ logs) q t a = log_head l logs q t (name_at l q) refl a (log_of logs q t)

pub name_is_seen : (logs : List Log) (names : List Seen) → ArePlaced logs names → (s : Seen) → Among s names → IsSeen logs s.place s.id
name_is_seen logs names p s a =
    log_of logs s.place (sighting s) (subst (Among (sighting s)) (p.seen s.place) (among_seen names s a))

-- of what is seen at a place first there is a name
pub record Named (names : List Seen) (q : ℕ) (id : ActionId) : Type 0 where
  pub name : Seen
  pub stands : Among name names
  pub place : name.place ≡ q
  pub is : name.id ≡ id

pub first_named : (names : List Seen) (q : ℕ) (id : ActionId) → first_name (seen_among names q) ≡ Some id → Named names q id
first_named [] q id e = absurd (some_is_none (sym e))
first_named (s ∷ more) q id e = ⊎_elim
    (λ (same : s.place ≡ q). record {
      name = s;
      stands = inl refl;
      place = same;
      is = same_Some s.id id (ap first_name (sym (hit q s more same)) ∙ e);
    })
    (λ (apart : s.place ≡ q → ⊥).
    let n = first_named more q id (ap first_name (sym (miss q s more apart)) ∙ e) in
    record { name = n.name; stands = inr n.stands; place = n.place; is = n.is })
    (cases_eq s.place q)

-- ---- the difference

abbrev pub Within : ℕ → List Seen → Type 0
Within n [] = Unit {0}
Within n (s ∷ more) = (1 ≤ s.place) × (s.place ≤ n) × Within n more

within : (n : ℕ) (names : List Seen) → ((s : Seen) → Among s names → (1 ≤ s.place) × (s.place ≤ n)) → Within n names
within n [] h = tt
within n (s ∷ more) h = ((h s (inl refl)).0, (h s (inl refl)).1, within n more (λ t a. h t (inr a)))

abbrev difference_at : List Seen → ℕ → Option Joined
difference_at names q = difference_in q (seen_among names q)

pub none_below : (names : List Seen) (place q : ℕ) → AreFrom place names → q < place → seen_among names q ≡ []
none_below [] place q up below = refl
none_below (s ∷ more) place q up below =
    miss q s more (λ e. omega (arith, e, up.0, below)) ∙ none_below more place q up.1 below

lower : (names : List Seen) (low high : ℕ) → low ≤ high → AreFrom high names → AreFrom low names
lower [] low high le up = tt
lower (s ∷ more) low high le up = (omega (arith, le, up.0), lower more low high le up.1)

behind : {X : Type 0} (o : Option X) (a b : List (Option X)) → first_some a ≡ first_some b → first_some (o ∷ a) ≡ first_some (o ∷ b)
behind None a b e = e
behind (Some x) a b e = refl

pub first_same : {X : Type 0} (f g : ℕ → Option X) (ns : List ℕ) → ((q : ℕ) → f q ≡ g q) → first_some (map f ns) ≡ first_some (map g ns)
first_same f g [] same = refl
first_same f g (n ∷ ns) same = ap (λ o. first_some (o ∷ map f ns)) (same n) ∙ behind (g n) (map f ns) (map g ns) (first_same f g ns same)

-- the names without the second one, where it is the first one again
again : (first s : Seen) (more : List Seen) → s.place ≡ first.place → same_id first.id s.id ≡ true → (q : ℕ) →
    difference_at (first ∷ s ∷ more) q ≡ difference_at (first ∷ more) q
again first s more place same q = ⊎_elim
    (λ (here : first.place ≡ q).
    ap (difference_in q) (hit q first (s ∷ more) here ∙ ap (λ rest. sighting first ∷ rest) (hit q s more (place ∙ here)))
    ∙ ap (λ b. option_map (differing q (sighting first))
    (if not b then Some (sighting s) else find (λ t. not (same_id first.id t.id)) (seen_among more q))) same
    ∙ ap (difference_in q) (sym (hit q first more here)))
    (λ (apart : first.place ≡ q → ⊥).
    ap (difference_in q) (miss q first (s ∷ more) apart ∙ miss q s more (λ e. apart (sym place ∙ e)) ∙ sym (miss q first more apart)))
    (cases_eq first.place q)

-- the names without the first one, where it is the only one at its place
alone : (first s : Seen) (more : List Seen) → first.place < s.place → AreFrom s.place more → (q : ℕ) →
    difference_at (first ∷ s ∷ more) q ≡ difference_at (s ∷ more) q
alone first s more below up q = ⊎_elim
    (λ (here : first.place ≡ q).
    let none : seen_among (s ∷ more) q ≡ [] = none_below (s ∷ more) s.place q (omega arith, up) (omega (arith, here, below)) in
    ap (difference_in q) (hit q first (s ∷ more) here ∙ ap (λ rest. sighting first ∷ rest) none)
    ∙ ap (difference_in q) (sym none))
    (λ (apart : first.place ≡ q → ⊥). ap (difference_in q) (miss q first (s ∷ more) apart))
    (cases_eq first.place q)

only : (first : Seen) (q : ℕ) → difference_at (first ∷ []) q ≡ None
only first q = ⊎_elim
    (λ (here : first.place ≡ q). ap (difference_in q) (hit q first [] here))
    (λ (apart : first.place ≡ q → ⊥). ap (difference_in q) (miss q first [] apart))
    (cases_eq first.place q)

-- the second name differs from the first one at its place
differ_here : (n : ℕ) (first s : Seen) (more : List Seen) → Ascend (first ∷ s ∷ more) → Within n (first ∷ s ∷ more) →
    s.place ≡ first.place → same_id first.id s.id ≡ false →
    first_some (map (difference_at (first ∷ s ∷ more)) (count_up 1 n)) ≡ Some (Differ s.place first.line first.id s.line s.id)
differ_here n first s more up inside place apart =
    is_first (difference_at (first ∷ s ∷ more)) 1 n (Differ s.place first.line first.id s.line s.id) s.place
    inside.2.0 (omega (arith, inside.2.1))
    (ap (difference_in s.place) (hit s.place first (s ∷ more) (sym place) ∙ ap (λ rest. sighting first ∷ rest) (hit s.place s more refl))
    ∙ ap (λ b. option_map (differing s.place (sighting first))
    (if not b then Some (sighting s) else find (λ t. not (same_id first.id t.id)) (seen_among more s.place))) apart)
    (λ q low below. ap (difference_in q)
    (none_below (first ∷ s ∷ more) first.place q (omega arith, up.0) (omega (arith, place, below))))

pub difference_is : (n : ℕ) (first : Seen) (more : List Seen) → Ascend (first ∷ more) → Within n (first ∷ more) →
    difference_after first more ≡ first_some (map (difference_at (first ∷ more)) (count_up 1 n))
difference_is n first [] up inside = sym (none_first (difference_at (first ∷ [])) 1 n (λ q low high. only first q))
difference_is n first (s ∷ more) up inside = ⊎_elim
    (λ (here : s.place ≡ first.place).
    cond-true (s.place == first.place) _ (difference_after s more) (eq-eqb s.place first.place here)
    ∙ ⊎_elim
    (λ (same : same_id first.id s.id ≡ true).
    cond-true (same_id first.id s.id) (difference_after first more) (Some (Differ s.place first.line first.id s.line s.id)) same
    ∙ difference_is n first more (up.0.1, up.1.1) (inside.0, inside.1, inside.2.2)
    ∙ sym (first_same (difference_at (first ∷ s ∷ more)) (difference_at (first ∷ more)) (count_up 1 n) (again first s more here same)))
    (λ (apart : same_id first.id s.id ≡ false).
    cond-false (same_id first.id s.id) (difference_after first more) (Some (Differ s.place first.line first.id s.line s.id)) apart
    ∙ sym (differ_here n first s more up inside here apart))
    (cases_Bool (same_id first.id s.id)))
    (λ (other : s.place ≡ first.place → ⊥).
    let below : first.place < s.place = omega (arith, other, up.0.0) in
    cond-false (s.place == first.place)
    (if same_id first.id s.id then difference_after first more else Some (Differ s.place first.line first.id s.line s.id))
    (difference_after s more) (ne_eqb s.place first.place other)
    ∙ difference_is n s more up.1 inside.2
    ∙ sym (first_same (difference_at (first ∷ s ∷ more)) (difference_at (s ∷ more)) (count_up 1 n) (alone first s more below up.1.0)))
    (cases_eq s.place first.place)

pub names_within : (logs : List Log) (names : List Seen) → ArePlaced logs names → Within (last_place logs) names
names_within logs names p = within (last_place logs) names (λ s a. seen_within logs s.place s.id (name_is_seen logs names p s a))

difference_of : (n : ℕ) (names : List Seen) → Ascend names → Within n names →
    difference_among names ≡ first_some (map (difference_at names) (count_up 1 n))
difference_of n [] up inside = sym (none_first (difference_at []) 1 n (λ q low high. refl))
difference_of n (first ∷ more) up inside = difference_is n first more up inside

pub difference_found : (logs : List Log) (names : List Seen) → ArePlaced logs names → difference_among names ≡ first_difference logs
difference_found logs names p =
    difference_of (last_place logs) names p.ascend (names_within logs names p)
    ∙ first_same (difference_at names) (λ q. difference_in q (seen_at logs q)) (places_of logs) (λ q. ap (difference_in q) (p.seen q))

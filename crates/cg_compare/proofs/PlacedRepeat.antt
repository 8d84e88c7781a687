-- The names of logs, ascending by place: where no two logs differ, the first that was seen at another place is the repeat.
use Rattle.std.specs.Prelude.{◌≡◌, ◌<◌, ◌≤◌, ◌⊎◌, ◌-◌, ◌==◌, ℕ, suc, Bool, true, false, List, [], ◌∷◌, ◌++◌, Option, Some, None, find, length, option_map, option_and_then, if◌then◌else◌}
use Rattle.std.proofs.Common.{refl, sym, ap, subst, ◌∙◌, arith, inl, inr, ⊎_elim, eq-eqb}
use Rattle.std.proofs.lemmas.Bool.{cases_eq, cases_Bool, cond-true, cond-false, ne_eqb}
use Rattle.std.proofs.lemmas.List.{append_assoc}
use Rattle.std.proofs.lemmas.Option.{same_Some}
use Rattle.cg_base.specs.declared.action_id.ActionId.{ActionId}
use Rattle.cg_base.specs.Ids.{same_id}
use Rattle.cg_base.specs.IdLaws.{same_id-is, same_id-true}
use Rattle.cg_compare.specs.declared.log.Log.{Log}
use Rattle.cg_compare.specs.declared.log.Joined.TheVariants.{Twice}
use Rattle.cg_compare.specs.declared.seen.Seen.{Seen}
use Rattle.cg_compare.specs.Join.{first_difference, first_name, covered, name_in, stands_at, earlier_place, repeat_at, first_repeat}
use Rattle.cg_compare.specs.Seen.{AreFrom, Ascend, ArePlaced, unless_elsewhere, repeat_after}
use Rattle.cg_compare.proofs.First.{some_is_none, is_first, none_first, is_found, none_found}
use Rattle.cg_compare.proofs.Seeing.{seen_within}
use Rattle.cg_compare.proofs.Agreed.{no_difference_at, seen_is_told}
use Rattle.cg_compare.proofs.Repeating.{length-covered, named_is_seen, seen_is_named, stands, standing}
use Rattle.cg_compare.proofs.PlacedDifference.{Among, name_is_seen, Named, first_named}

-- ---- a place whose name stands at no earlier one

no_stand : (list : List (Option ActionId)) (id : ActionId) (p : ℕ) → (name_in list p ≡ Some id → ⊥) → stands_at list id p ≡ false
no_stand list id p h = ⊎_elim
    (λ yes. absurd (h (standing id (name_in list p) yes)))
    (λ no_. no_)
    (cases_Bool (stands_at list id p))

by_name : (list : List (Option ActionId)) (q : ℕ) (o : Option ActionId) → name_in list q ≡ o →
    ((p : ℕ) (id : ActionId) → 1 ≤ p → p < q → name_in list p ≡ Some id → name_in list q ≡ Some id → ⊥) →
    option_and_then (λ id. option_map (λ earlier. Twice id earlier q) (earlier_place list q id)) o ≡ None
by_name list q None is h = refl
by_name list q (Some id) is h = ap (option_map (λ earlier. Twice id earlier q))
    (none_found (stands_at list id) 1 (q - 1) (λ p low high. no_stand list id p (λ at. h p id low (omega (arith, low, high)) at is)))

unrepeated : (list : List (Option ActionId)) (q : ℕ) →
    ((p : ℕ) (id : ActionId) → 1 ≤ p → p < q → name_in list p ≡ Some id → name_in list q ≡ Some id → ⊥) →
    repeat_at list q ≡ None
unrepeated list q h = by_name list q (name_in list q) refl h

-- ---- what is among names

split_among : {X : Type 0} (x : X) (xs ys : List X) → Among x (xs ++ ys) → Among x xs ⊎ Among x ys
split_among x [] ys a = inr a
split_among x (z ∷ xs) ys (inl is) = inl (inl is)
split_among x (z ∷ xs) ys (inr a) = ⊎_elim (λ l. inl (inr l)) (λ r. inr r) (split_among x xs ys a)

join_among : {X : Type 0} (x : X) (xs ys : List X) → Among x xs ⊎ Among x ys → Among x (xs ++ ys)
join_among x [] ys (inl a) = absurd a
join_among x [] ys (inr a) = a
join_among x (z ∷ xs) ys (inl (inl is)) = inl is
join_among x (z ∷ xs) ys (inl (inr a)) = inr (join_among x xs ys (inl a))
join_among x (z ∷ xs) ys (inr a) = inr (join_among x xs ys (inr a))

pushed : {X : Type 0} (x s : X) (xs : List X) → Among x (xs ++ s ∷ []) → Among x xs ⊎ (x ≡ s)
pushed x s xs a = ⊎_elim
    (λ l. inl l)
    (λ (r : Among x (s ∷ [])). ⊎_elim (λ is. inr is) (λ nothing. absurd nothing) r)
    (split_among x xs (s ∷ []) a)

from_among : (bound : ℕ) (names : List Seen) (s : Seen) → AreFrom bound names → Among s names → bound ≤ s.place
from_among bound [] s up a = absurd a
from_among bound (t ∷ more) s up (inl is) =
    let same : s.place ≡ t.place = ap (λ (u : Seen). u.place) is in omega (arith, same, up.0)
from_among bound (t ∷ more) s up (inr a) = from_among bound more s up.1 a

record Found (id : ActionId) (names : List Seen) (s : Seen) : Type 0 where
  pub stands : Among s names
  pub same : s.id ≡ id

found_head : (id : ActionId) (t : Seen) (more : List Seen) (s : Seen) (b : Bool) → same_id id t.id ≡ b →
    (if b then Some t else find (λ u. same_id id u.id) more) ≡ Some s →
    (find (λ u. same_id id u.id) more ≡ Some s → Found id more s) → Found id (t ∷ more) s
found_head id t more s true same e next =
    let is : t ≡ s = same_Some t s e in
    record { stands = inl (sym is); same = ap (λ (u : Seen). u.id) (sym is) ∙ sym (same_id-is id t.id same) }
found_head id t more s false same e next =
    let f = next e in record { stands = inr f.stands; same = f.same }

found : (id : ActionId) (names : List Seen) (s : Seen) → find (λ u. same_id id u.id) names ≡ Some s → Found id names s
found id [] s e = absurd (some_is_none (sym e))
found id (t ∷ more) s e = found_head id t more s (same_id id t.id) refl e (found id more s)

alike : (a b : ActionId) → a ≡ b → same_id a b ≡ true
alike a b e = same_id-true a b (ap (λ (n : ActionId). n.creator) e) (ap (λ (n : ActionId). n.index) e)

unfound : (id : ActionId) (names : List Seen) → find (λ u. same_id id u.id) names ≡ None → (s : Seen) → Among s names →
    s.id ≡ id → ⊥
unfound id [] e s a same = a
unfound id (t ∷ more) e s (inl is) same =
    let here : same_id id t.id ≡ true = alike id t.id (sym same ∙ ap (λ (u : Seen). u.id) is) in
    some_is_none (sym (cond-true (same_id id t.id) (Some t) (find (λ u. same_id id u.id) more) here) ∙ e)
unfound id (t ∷ more) e s (inr a) same = ⊎_elim
    (λ yes. some_is_none (sym (cond-true (same_id id t.id) (Some t) (find (λ u. same_id id u.id) more) yes) ∙ e))
    (λ other. unfound id more (sym (cond-false (same_id id t.id) (Some t) (find (λ u. same_id id u.id) more) other) ∙ e) s a same)
    (cases_Bool (same_id id t.id))

-- no name of these stands at two places
abbrev AreOnce : List Seen → Type 0
AreOnce names = (d e : Seen) → Among d names → Among e names → d.id ≡ e.id → d.place ≡ e.place

once_more : (done : List Seen) (s : Seen) → AreOnce done →
    ((d : Seen) → Among d done → d.id ≡ s.id → d.place ≡ s.place) → AreOnce (done ++ s ∷ [])
once_more done s once h d e a b same = ⊎_elim
    (λ (l : Among d done). ⊎_elim
    (λ (m : Among e done). once d e l m same)
    (λ (is : e ≡ s). h d l (same ∙ ap (λ (u : Seen). u.id) is) ∙ ap (λ (u : Seen). u.place) (sym is))
    (pushed e s done b))
    (λ (is : d ≡ s). ⊎_elim
    (λ (m : Among e done).
    ap (λ (u : Seen). u.place) is ∙ sym (h e m (sym same ∙ ap (λ (u : Seen). u.id) is)))
    (λ (also : e ≡ s). ap (λ (u : Seen). u.place) (is ∙ sym also))
    (pushed e s done b))
    (pushed d s done a)

-- ---- the walk

module _ (logs : List Log) (names : List Seen) (p : ArePlaced logs names) (none : first_difference logs ≡ None) where
  stands_named : (s : Seen) → Among s names → name_in (covered logs) s.place ≡ Some s.id
  stands_named s a = seen_is_named logs none s.place s.id (name_is_seen logs names p s a)

  named : (q : ℕ) (id : ActionId) → name_in (covered logs) q ≡ Some id → Named names q id
  named q id e =
      let s = named_is_seen logs q id e in
      first_named names q id (ap first_name (p.seen q) ∙ seen_is_told logs q id (no_difference_at logs none q id s) s)

  -- a name before the place is one of those that are done
  in_done : (done rest : List Seen) → names ≡ done ++ rest → (bound : ℕ) → AreFrom bound rest → (s : Seen) →
      Among s names → s.place < bound → Among s done
  in_done done rest split bound up s a below = ⊎_elim
      (λ l. l)
      (λ (r : Among s rest). absurd (omega (arith, below, from_among bound rest s up r)))
      (split_among s done rest (subst (Among s) split a))

  -- below the bound, no name is repeated
  none_before : (done rest : List Seen) → names ≡ done ++ rest → (bound : ℕ) → AreFrom bound rest → AreOnce done →
      (q : ℕ) → q < bound → repeat_at (covered logs) q ≡ None
  none_before done rest split bound up once q below = unrepeated (covered logs) q (λ r id low less here there.
      let d = named r id here in
      let e = named q id there in
      let ad : Among d.name done = in_done done rest split bound up d.name d.stands (omega (arith, d.place, less, below)) in
      let ae : Among e.name done = in_done done rest split bound up e.name e.stands (omega (arith, e.place, below)) in
      let same : d.name.place ≡ e.name.place = once d.name e.name ad ae (d.is ∙ sym e.is) in
      omega (arith, same, d.place, e.place, less))

  -- the name of s was seen at d, which is another place
  repeat_here : (done more : List Seen) (s d : Seen) → names ≡ done ++ s ∷ more → AreFrom s.place (s ∷ more) →
      ((e : Seen) → Among e done → e.place ≤ s.place) → AreOnce done → Found s.id done d → (d.place ≡ s.place → ⊥) →
      first_repeat (covered logs) ≡ Some (Twice s.id d.place s.place)
  repeat_here done more s d split up le once f apart =
      let here : Among s names = subst (Among s) (sym split) (join_among s done (s ∷ more) (inr (inl refl))) in
      let ad : Among d names = subst (Among d) (sym split) (join_among d done (s ∷ more) (inl f.stands)) in
      let ws = seen_within logs s.place s.id (name_is_seen logs names p s here) in
      let wd = seen_within logs d.place d.id (name_is_seen logs names p d ad) in
      let less : d.place < s.place = omega (arith, le d f.stands, apart) in
      let at_d : name_in (covered logs) d.place ≡ Some s.id = stands_named d ad ∙ ap Some f.same in
      let earlier : earlier_place (covered logs) s.place s.id ≡ Some d.place =
      is_found (stands_at (covered logs) s.id) 1 (s.place - 1) d.place wd.0 (omega (arith, less))
      (stands (covered logs) s.id d.place at_d)
      (λ q low below. no_stand (covered logs) s.id q (λ at.
      let e = named q s.id at in
      let ae : Among e.name done =
      in_done done (s ∷ more) split s.place up e.name e.stands (omega (arith, e.place, below, less)) in
      let same : e.name.place ≡ d.place = once e.name d ae f.stands (e.is ∙ sym f.same) in
      omega (arith, same, e.place, below))) in
      is_first (repeat_at (covered logs)) 1 (length (covered logs)) (Twice s.id d.place s.place) s.place ws.0
      (omega (arith, ws.1, length-covered logs))
      (ap (option_and_then (λ id. option_map (λ earlier. Twice id earlier s.place) (earlier_place (covered logs) s.place id)))
      (stands_named s here)
      ∙ ap (option_map (λ earlier. Twice s.id earlier s.place)) earlier)
      (λ q low below. none_before done (s ∷ more) split s.place up once q below)

  step : (done more : List Seen) (s : Seen) → names ≡ done ++ s ∷ more → AreFrom s.place (s ∷ more) →
      ((e : Seen) → Among e done → e.place ≤ s.place) → AreOnce done →
      (AreOnce (done ++ s ∷ []) → repeat_after (done ++ s ∷ []) more ≡ first_repeat (covered logs)) →
      (o : Option Seen) → find (λ u. same_id s.id u.id) done ≡ o →
      unless_elsewhere (option_map (λ (u : Seen). u.place) o) s (repeat_after (done ++ s ∷ []) more) ≡ first_repeat (covered logs)
  step done more s split up le once next None e =
      next (once_more done s once (λ d a same. absurd (unfound s.id done e d a same)))
  step done more s split up le once next (Some d) e =
      let f = found s.id done d e in
      ⊎_elim
      (λ (same : d.place ≡ s.place).
      cond-true (d.place == s.place) (repeat_after (done ++ s ∷ []) more) (Some (Twice s.id d.place s.place))
      (eq-eqb d.place s.place same)
      ∙ next (once_more done s once (λ c a alike. once c d a f.stands (alike ∙ sym f.same) ∙ same)))
      (λ (apart : d.place ≡ s.place → ⊥).
      cond-false (d.place == s.place) (repeat_after (done ++ s ∷ []) more) (Some (Twice s.id d.place s.place))
      (ne_eqb d.place s.place apart)
      ∙ sym (repeat_here done more s d split up le once f apart))
      (cases_eq d.place s.place)

  walk : (done rest : List Seen) → names ≡ done ++ rest → Ascend rest →
      ((e : Seen) → Among e done → AreFrom e.place rest) → AreOnce done → repeat_after done rest ≡ first_repeat (covered logs)
  walk done [] split up le once = sym (none_first (repeat_at (covered logs)) 1 (length (covered logs)) (λ q low high.
      none_before done [] split (suc q) tt once q (omega arith)))
  walk done (s ∷ more) split up le once =
      step done more s split (omega arith, up.0) (λ e a. (le e a).0) once
      (walk (done ++ s ∷ []) more (split ∙ sym (append_assoc done (s ∷ []) more)) up.1
      (λ e a. ⊎_elim
      (λ (l : Among e done). (le e l).1)
      (λ (is : e ≡ s). subst (λ (u : Seen). AreFrom u.place more) (sym is) up.0)
      (pushed e s done a)))
      (find (λ u. same_id s.id u.id) done) refl

  pub repeat_found : repeat_after [] names ≡ first_repeat (covered logs)
  repeat_found = walk [] names refl p.ascend (λ e a. absurd a) (λ d e a b same. absurd a)

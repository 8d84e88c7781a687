-- Where names were seen before, as a map keeps it.
use Rattle.std.specs.Prelude.{◌≡◌, ◌==◌, ℕ, Bool, true, false, List, [], ◌∷◌, ◌++◌, Option, Some, None, find, option_map, if◌then◌else◌}
use Rattle.std.specs.Option.{option_or}
use Rattle.std.proofs.Common.{refl, sym, ap, ap₂, ◌∙◌, ⊎_elim, eq-eqb}
use Rattle.std.proofs.lemmas.Bool.{cases_Bool, cond-true, cond-false}
use Rattle.cg_base.specs.declared.action_id.ActionId.{ActionId}
use Rattle.cg_base.specs.Ids.{same_id}
use Rattle.cg_base.specs.IdLaws.{same_id-is}
use Rattle.cg_compare.specs.declared.log.Joined.TheVariants.{Twice}
use Rattle.cg_compare.specs.declared.seen.Seen.{Seen}
use Rattle.cg_compare.specs.Seen.{place_among, unless_elsewhere, repeat_after}
use Rattle.cg_base.specs.OptionLaws.{option_or_none}

abbrev place_of : Seen → ℕ
place_of s = s.place

alone : (b : Bool) (s : Seen) → option_map place_of (if b then Some s else None) ≡ (if b then Some s.place else None)
alone true s = refl
alone false s = refl

by_head : (b : Bool) (t : Seen) (more rest : Option Seen) (last : Option ℕ) →
    option_map place_of more ≡ option_or (option_map place_of rest) last →
    option_map place_of (if b then Some t else more) ≡ option_or (option_map place_of (if b then Some t else rest)) last
by_head true t more rest last e = refl
by_head false t more rest last e = e

among_push : (done : List Seen) (s : Seen) (id : ActionId) →
    place_among (done ++ s ∷ []) id ≡ option_or (place_among done id) (if same_id id s.id then Some s.place else None)
among_push [] s id = alone (same_id id s.id) s
among_push (t ∷ done) s id = by_head (same_id id t.id) t (find (λ u. same_id id u.id) (done ++ s ∷ []))
    (find (λ u. same_id id u.id) done) (if same_id id s.id then Some s.place else None) (among_push done s id)

-- the map with a name that it lacked
pub known_new : (done : List Seen) (s : Seen) (old new : ActionId → Option ℕ) →
    ((id : ActionId) → old id ≡ place_among done id) → place_among done s.id ≡ None →
    ((id : ActionId) → new id ≡ (if same_id id s.id then Some s.place else old id)) →
    (id : ActionId) → new id ≡ place_among (done ++ s ∷ []) id
known_new done s old new known none puts id = puts id ∙ ⊎_elim
    (λ (yes : same_id id s.id ≡ true).
    let none_here : place_among done id ≡ None = ap (place_among done) (same_id-is id s.id yes) ∙ none in
    cond-true (same_id id s.id) (Some s.place) (old id) yes
    ∙ sym (among_push done s id
    ∙ ap₂ option_or none_here (cond-true (same_id id s.id) (Some s.place) None yes)))
    (λ (no_ : same_id id s.id ≡ false).
    cond-false (same_id id s.id) (Some s.place) (old id) no_ ∙ known id
    ∙ sym (among_push done s id
    ∙ ap (option_or (place_among done id)) (cond-false (same_id id s.id) (Some s.place) None no_) ∙ option_or_none (place_among done id)))
    (cases_Bool (same_id id s.id))

-- the map that had the name
pub known_old : (done : List Seen) (s : Seen) (old : ActionId → Option ℕ) (place : ℕ) →
    ((id : ActionId) → old id ≡ place_among done id) → place_among done s.id ≡ Some place →
    (id : ActionId) → old id ≡ place_among (done ++ s ∷ []) id
known_old done s old place known some id = known id ∙ ⊎_elim
    (λ (yes : same_id id s.id ≡ true).
    let some_here : place_among done id ≡ Some place = ap (place_among done) (same_id-is id s.id yes) ∙ some in
    some_here ∙ sym (among_push done s id ∙ ap (λ o. option_or o (if same_id id s.id then Some s.place else None)) some_here))
    (λ (no_ : same_id id s.id ≡ false).
    sym (among_push done s id
    ∙ ap (option_or (place_among done id)) (cond-false (same_id id s.id) (Some s.place) None no_) ∙ option_or_none (place_among done id)))
    (cases_Bool (same_id id s.id))

-- what is left of the walk
pub rest_new : (done : List Seen) (s : Seen) (more : List Seen) → place_among done s.id ≡ None →
    repeat_after (done ++ s ∷ []) more ≡ repeat_after done (s ∷ more)
rest_new done s more none = sym (ap (λ o. unless_elsewhere o s (repeat_after (done ++ s ∷ []) more)) none)

pub rest_old : (done : List Seen) (s : Seen) (more : List Seen) (place : ℕ) → place_among done s.id ≡ Some place →
    place ≡ s.place → repeat_after (done ++ s ∷ []) more ≡ repeat_after done (s ∷ more)
rest_old done s more place some same = sym (ap (λ o. unless_elsewhere o s (repeat_after (done ++ s ∷ []) more)) some
    ∙ cond-true (place == s.place) (repeat_after (done ++ s ∷ []) more) (Some (Twice s.id place s.place)) (eq-eqb place s.place same))

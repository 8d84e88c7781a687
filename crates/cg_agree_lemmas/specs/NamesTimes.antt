-- How often a name stands in a list, in what passes a test, and among names of which each is the next of its creator; and where a name
-- stands in the order.
use Rattle.std.proofs.Common.{◌≡◌, zero, suc, ◌≤◌, ◌<◌, max, Bool, true, false, ◌||◌, List, [], ◌∷◌, ◌++◌, filter, length, Contains, refl, sym, ap, ◌∙◌, subst, arith, inl, inr, if◌then◌else◌}
use Rattle.std.proofs.lemmas.Bool.{cases_lt, cases_Bool, cond-true, cond-false, false_from_ne_true, and_parts}
use Rattle.cg_base.specs.declared.action_id.ActionId.{ActionId}
use Rattle.cg_base.specs.Cuts.{index_in, raise}
use Rattle.cg_base.specs.Ids.{same_id, has_name}
use Rattle.cg_base.specs.IdLaws.{same_id-is, same_id-back, same_id-self}
use Rattle.cg_model.specs.Fronts.{Front}
use Rattle.cg_disk_records.specs.Holds.{run_on, cut_behind, Rising}
use Rattle.cg_agree_lemmas.specs.FrontFacts.{Front-of_both, Front-append}
use Rattle.cg_disk_records.specs.CutRaiseLaws.{index-same, index-rises, rising-raise}
use Rattle.cg_disk_records.specs.RunLaws.{run_on-append}
use Rattle.cg_disk_records.specs.RunMarkLaws.{run-head, run-rest, names-new}
use Rattle.cg_agree_lemmas.specs.RepliesPlaced.{IsIn, times}

-- ---- how often

times-here : (id x : ActionId) (ids : List ActionId) → same_id x id ≡ true → times id (x ∷ ids) ≡ suc (times id ids)
times-here id x ids e = cond-true (same_id x id) (suc (times id ids)) (times id ids) e

times-not : (id x : ActionId) (ids : List ActionId) → same_id x id ≡ false → times id (x ∷ ids) ≡ times id ids
times-not id x ids e = cond-false (same_id x id) (suc (times id ids)) (times id ids) e

pub named-times : (id : ActionId) (ids : List ActionId) → has_name ids id ≡ true → 1 ≤ times id ids
named-times id [] e = absurd (let clash : false ≡ true = e in cc)
named-times id (x ∷ ids) e = elim (cases_Bool (same_id x id)) [
  | inl here ↦ (let now = times-here id x ids here in omega arith)
  | inr other ↦
      let rest = named-times id ids (later (same_id id x) (has_name ids id) (λ y. (let clash : true ≡ false = sym (same_id-back id x y) ∙ other in cc)) e) in
      let now = times-not id x ids other in
      omega arith
] where
  later : (a b : Bool) → (a ≡ true → ⊥) → (a || b) ≡ true → b ≡ true
  later true b other e = absurd (other refl)
  later false b other e = e

pub times-named : (id : ActionId) (ids : List ActionId) → 1 ≤ times id ids → has_name ids id ≡ true
times-named id [] le = absurd (omega arith)
times-named id (x ∷ ids) le = elim (cases_Bool (same_id x id)) [
  | inl here ↦ ap (λ b. b || has_name ids id) (same_id-back x id here)
  | inr other ↦ or-later (same_id id x) (has_name ids id) (times-named id ids (let now = times-not id x ids other in omega arith))
] where
  or-later : (a b : Bool) → b ≡ true → (a || b) ≡ true
  or-later true b e = refl
  or-later false b e = e

pub times-passing : (t : ActionId → Bool) (id : ActionId) (ids : List ActionId) → t id ≡ true → times id (filter t ids) ≡ times id ids
times-passing t id [] e = refl
times-passing t id (x ∷ ids) e = elim (cases_Bool (t x)) [
  | inl passes ↦ ap (times id) (cond-true (t x) (x ∷ filter t ids) (filter t ids) passes) ∙ ap (λ n. if same_id x id then suc n else n) (times-passing t id ids e)
  | inr out ↦
      let other : same_id x id ≡ false = false_from_ne_true (same_id x id) (λ y. (let clash : true ≡ false = sym e ∙ ap t (sym (same_id-is x id y)) ∙ out in cc)) in
      ap (times id) (cond-false (t x) (x ∷ filter t ids) (filter t ids) out) ∙ times-passing t id ids e ∙ sym (times-not id x ids other)
]

pub times-failing : (t : ActionId → Bool) (id : ActionId) (ids : List ActionId) → t id ≡ false → times id (filter t ids) ≡ 0
times-failing t id [] e = refl
times-failing t id (x ∷ ids) e = elim (cases_Bool (t x)) [
  | inl passes ↦
      let other : same_id x id ≡ false = false_from_ne_true (same_id x id) (λ y. (let clash : true ≡ false = sym passes ∙ ap t (same_id-is x id y) ∙ e in cc)) in
      ap (times id) (cond-true (t x) (x ∷ filter t ids) (filter t ids) passes) ∙ times-not id x (filter t ids) other ∙ times-failing t id ids e
  | inr out ↦ ap (times id) (cond-false (t x) (x ∷ filter t ids) (filter t ids) out) ∙ times-failing t id ids e
]

-- among names that run on there is each at most once
times-known : (cut ids : List ActionId) (id : ActionId) → Rising 0 cut → run_on cut ids ≡ true → id.index ≤ index_in cut id.creator → times id ids ≡ 0
times-known cut [] id rising run low = refl
times-known cut (x ∷ ids) id rising run low = elim (cases_Bool (same_id x id)) [
  | inl here ↦
      let same = same_id-is x id here in
      let next : x.index ≡ suc (index_in cut x.creator) = run-head cut x ids run in
      let at : id.index ≡ suc (index_in cut id.creator) = subst (λ (y : ActionId). y.index ≡ suc (index_in cut y.creator)) same next in
      absurd (omega arith)
  | inr other ↦ times-not id x ids other ∙ times-known (raise cut x) ids id (rising-raise cut x rising) (run-rest cut x ids run) (let up = index-rises cut x rising id.creator in omega arith)
]

pub times-once : (cut ids : List ActionId) (id : ActionId) → Rising 0 cut → run_on cut ids ≡ true → times id ids ≤ 1
times-once cut [] id rising run = omega arith
times-once cut (x ∷ ids) id rising run = elim (cases_Bool (same_id x id)) [
  | inl here ↦
      let same = same_id-is x id here in
      let reached : index_in (raise cut x) id.creator ≡ max (index_in cut id.creator) x.index = index-same cut x rising id.creator (ap (λ (y : ActionId). y.creator) same) in
      let index : x.index ≡ id.index = ap (λ (y : ActionId). y.index) same in
      let none = times-known (raise cut x) ids id (rising-raise cut x rising) (run-rest cut x ids run) (omega arith) in
      let now = times-here id x ids here in
      omega arith
  | inr other ↦ (let rest = times-once (raise cut x) ids id (rising-raise cut x rising) (run-rest cut x ids run) in let now = times-not id x ids other in omega arith)
]

-- ---- elements

pub in-times : (id : ActionId) (ids : List ActionId) → IsIn ids id → 1 ≤ times id ids
in-times id [] there = absurd there
in-times id (x ∷ ids) (inl here) = (let now = times-here id x ids (subst (λ y. same_id y id ≡ true) (sym here) (same_id-self id)) in omega arith)
in-times id (x ∷ ids) (inr later) = (let rest = in-times id ids later in at (same_id x id) rest) where
  at : (b : Bool) → 1 ≤ times id ids → 1 ≤ (if b then suc (times id ids) else times id ids)
  at true le = omega arith
  at false le = le

pub times-contains : (id : ActionId) (ids : List ActionId) → 1 ≤ times id ids → Contains ids id
times-contains id [] le = absurd (omega arith)
times-contains id (x ∷ ids) le = elim (cases_Bool (same_id x id)) [
  | inl here ↦ (0, omega arith, same_id-is x id here)
  | inr other ↦ (let rest = times-contains id ids (let now = times-not id x ids other in omega arith) in (suc rest.0, (let less = rest.1 in omega arith), rest.2))
]

pub contains-in : {X : Type 0} (xs : List X) (x : X) → Contains xs x → IsIn xs x
contains-in [] x there = absurd (let less = there.1 in omega arith)
contains-in (y ∷ xs) x (zero, less, is) = inl is
contains-in (y ∷ xs) x (suc k, less, is) = inr (contains-in xs x (k, omega arith, is))

-- ---- places in the order

front-named : (xs ys : List ActionId) (id : ActionId) → Front xs ys → has_name xs id ≡ true → has_name ys id ≡ true
front-named [] ys id front named = absurd (let clash : false ≡ true = named in cc)
front-named (x ∷ xs) [] id front named = absurd front
front-named (x ∷ xs) (y ∷ ys) id front named = at (same_id id x) (same_id id y) (ap (same_id id) front.0) (λ later. front-named xs ys id front.1 later) named where
  at : (a b : Bool) → a ≡ b → (has_name xs id ≡ true → has_name ys id ≡ true) → (a || has_name xs id) ≡ true → (b || has_name ys id) ≡ true
  at true true e again named = refl
  at false false e again named = again named
  at true false e again named = absurd (let clash : true ≡ false = e in cc)
  at false true e again named = refl

-- a front of names that run on has a name where the name's place is within it
pub placed-within : (order before after list : List ActionId) (id : ActionId) → run_on [] order ≡ true → order ≡ before ++ id ∷ after → Front list order → has_name list id ≡ true → length before < length list
placed-within order before after list id run is front named = elim (cases_lt (length before) (length list)) [
  | inl less ↦ less
  | inr far ↦
      let runs : run_on [] (before ++ id ∷ after) ≡ true = ap (run_on []) (sym is) ∙ run in
      let parts = and_parts (run_on [] before) (run_on (cut_behind [] before) (id ∷ after)) (sym (run_on-append [] before (id ∷ after)) ∙ runs) in
      let early : Front list before = Front-of_both list before order front (subst (Front before) (sym is) (Front-append before (id ∷ after))) (omega arith) in
      let none : has_name before id ≡ false = names-new [] before id tt parts.0 (run-head (cut_behind [] before) id after parts.1) in
      let there : has_name before id ≡ true = front-named list before id early named in
      absurd (let clash : true ≡ false = sym there ∙ none in cc)
]

pub within-placed : (before after list : List ActionId) (id : ActionId) → Front list (before ++ id ∷ after) → length before < length list → has_name list id ≡ true
within-placed [] after [] id front less = absurd (omega arith)
within-placed [] after (x ∷ list) id front less = ap (λ b. b || has_name list id) (subst (λ y. same_id id y ≡ true) (sym front.0) (same_id-self id))
within-placed (y ∷ before) after [] id front less = absurd (omega arith)
within-placed (y ∷ before) after (x ∷ list) id front less = or-later (same_id id x) (has_name list id) (within-placed before after list id front.1 (omega arith)) where
  or-later : (a b : Bool) → b ≡ true → (a || b) ≡ true
  or-later true b e = refl
  or-later false b e = e

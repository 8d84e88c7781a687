-- The replies that a step shows: they are put in by their places, each once, and those of a turn are all among them.
use Rattle.std.proofs.Common.{◌⊎◌, ◌≡◌, ℕ, suc, ◌+◌, Bool, true, false, cond, List, [], ◌∷◌, ◌++◌, map, filter, fold, nat_lt, refl, sym, ap, ◌∙◌, subst, arith, inl, inr, if◌then◌else◌}
use Rattle.std.proofs.lemmas.Bool.{cases_Bool, cond-true, cond-false}
use Rattle.cg_base.specs.declared.action_id.ActionId.{ActionId}
use Rattle.cg_base.specs.Ids.{same_id}
use Rattle.cg_base.specs.IdLaws.{same_id-self}
use Rattle.cg_report.specs.declared.entry.Reply.{Reply}
use Rattle.cg_model.specs.Show.{Answered, answered_from, with_answered}

-- an element of a list
abbrev pub IsIn : {X : Type 0} → List X → X → Type 0
IsIn [] x = ⊥
IsIn (y ∷ ys) x = (y ≡ x) ⊎ IsIn ys x

-- how often a name stands among these
abbrev pub times : ActionId → List ActionId → ℕ
times id [] = 0
times id (x ∷ ids) = if same_id x id then suc (times id ids) else times id ids

abbrev pub reply_ids : List Reply → List ActionId
reply_ids replies = map (λ r. r.id) replies

abbrev pub plain : List Answered → List Reply
plain answered = map (λ a. a.reply) answered

-- ---- the replies of one turn

-- the replies are to some of the names, in their order
abbrev pub AreAmong : List Reply → List ActionId → Type 0
AreAmong [] ids = Unit {0}
AreAmong (r ∷ replies) [] = ⊥
AreAmong (r ∷ replies) (id ∷ ids) = ((id ≡ r.id) × AreAmong replies ids) ⊎ AreAmong (r ∷ replies) ids

among-later : (replies : List Reply) (id : ActionId) (ids : List ActionId) → AreAmong replies ids → AreAmong replies (id ∷ ids)
among-later [] id ids is = tt
among-later (r ∷ replies) id ids is = inr is

among-rest : (r : Reply) (replies : List Reply) (ids : List ActionId) → AreAmong (r ∷ replies) ids → AreAmong replies ids
among-rest r replies [] is = absurd is
among-rest r replies (id ∷ ids) (inl here) = among-later replies id ids here.1
among-rest r replies (id ∷ ids) (inr later) = among-later replies id ids (among-rest r replies ids later)

pub answered-all : (ids : List ActionId) (n : ℕ) (replies : List Reply) → AreAmong replies ids → plain (answered_from n ids replies) ≡ replies
answered-all [] n [] is = refl
answered-all [] n (r ∷ replies) is = absurd is
answered-all (id ∷ ids) n [] is = refl
answered-all (id ∷ ids) n (r ∷ replies) is = elim (cases_Bool (same_id id r.id)) [
  | inl here ↦
      let first = cond-true (same_id id r.id) (let x : Answered = record { place = suc n; reply = r } in x ∷ []) [] here in
      let rest = cond-true (same_id id r.id) replies (r ∷ replies) here in
      ap (λ (xs : List Answered). plain (xs ++ answered_from (suc n) ids (if same_id id r.id then replies else r ∷ replies))) first
      ∙ ap (λ rs. r ∷ plain (answered_from (suc n) ids rs)) rest
      ∙ ap (λ rs. r ∷ rs) (answered-all ids (suc n) replies (either is))
  | inr other ↦
      let first = cond-false (same_id id r.id) (let x : Answered = record { place = suc n; reply = r } in x ∷ []) [] other in
      let rest = cond-false (same_id id r.id) replies (r ∷ replies) other in
      ap (λ (xs : List Answered). plain (xs ++ answered_from (suc n) ids (if same_id id r.id then replies else r ∷ replies))) first
      ∙ ap (λ rs. plain (answered_from (suc n) ids rs)) rest
      ∙ answered-all ids (suc n) (r ∷ replies) (later is other)
] where
  either : AreAmong (r ∷ replies) (id ∷ ids) → AreAmong replies ids
  either (inl here) = here.1
  either (inr later) = among-rest r replies ids later

  later : AreAmong (r ∷ replies) (id ∷ ids) → same_id id r.id ≡ false → AreAmong (r ∷ replies) ids
  later (inl here) other = absurd (let self : same_id id r.id ≡ true = subst (λ x. same_id id x ≡ true) here.0 (same_id-self id) in let clash : true ≡ false = sym self ∙ other in cc)
  later (inr is) other = is

-- replies to those names that pass a test
pub among-chosen : (t : ActionId → Bool) (ids : List ActionId) (replies : List Reply) → reply_ids replies ≡ filter t ids → AreAmong replies ids
among-chosen t [] [] e = tt
among-chosen t [] (r ∷ replies) e = absurd (let clash : r.id ∷ reply_ids replies ≡ [] = e in cc)
among-chosen t (id ∷ ids) replies e = elim (cases_Bool (t id)) [
  | inl here ↦ first (λ rs same. among-chosen t ids rs same) replies (e ∙ cond-true (t id) (id ∷ filter t ids) (filter t ids) here)
  | inr other ↦ among-later replies id ids (among-chosen t ids replies (e ∙ cond-false (t id) (id ∷ filter t ids) (filter t ids) other))
] where
  head_of : List ActionId → ActionId
  head_of [] = id
  head_of (x ∷ xs) = x

  rest_of : List ActionId → List ActionId
  rest_of [] = []
  rest_of (x ∷ xs) = xs

  first : ((rs : List Reply) → reply_ids rs ≡ filter t ids → AreAmong rs ids) → (replies : List Reply) → reply_ids replies ≡ id ∷ filter t ids → AreAmong replies (id ∷ ids)
  first again [] e = tt
  first again (r ∷ replies) e = inl (sym (ap head_of e), again replies (ap rest_of e))

-- ---- replies put in

pub times-both : (id : ActionId) (xs ys : List ActionId) → times id (xs ++ ys) ≡ times id xs + times id ys
times-both id [] ys = (let n = times id ys in let same : n ≡ 0 + n = omega arith in same)
times-both id (x ∷ xs) ys = at (same_id x id) (times-both id xs ys) where
  at : (b : Bool) → times id (xs ++ ys) ≡ times id xs + times id ys → cond b (suc (times id (xs ++ ys))) (times id (xs ++ ys)) ≡ cond b (suc (times id xs)) (times id xs) + times id ys
  at true e = ap suc e ∙ (let a = times id xs in let b = times id ys in let same : suc (a + b) ≡ suc a + b = omega arith in same)
  at false e = e

abbrev pub ids_in : List Answered → List ActionId
ids_in answered = reply_ids (plain answered)

-- one more name in front of a number of times
abbrev once_more : Bool → ℕ → ℕ
once_more b n = if b then suc n else n

swapped : (a b : Bool) (n : ℕ) → once_more a (once_more b n) ≡ once_more b (once_more a n)
swapped true true n = refl
swapped true false n = refl
swapped false true n = refl
swapped false false n = refl

times-placed : (id : ActionId) (replies : List Answered) (new : Answered) → times id (ids_in (with_answered replies new)) ≡ once_more (same_id new.reply.id id) (times id (ids_in replies))
times-placed id [] new = refl
times-placed id (r ∷ replies) new = at (nat_lt new.place r.place) (times-placed id replies new) where
  at : (b : Bool) → times id (ids_in (with_answered replies new)) ≡ once_more (same_id new.reply.id id) (times id (ids_in replies)) →
      times id (ids_in (cond b (new ∷ r ∷ replies) (r ∷ with_answered replies new))) ≡ once_more (same_id new.reply.id id) (times id (ids_in (r ∷ replies)))
  at true e = refl
  at false e = ap (once_more (same_id r.reply.id id)) e ∙ swapped (same_id r.reply.id id) (same_id new.reply.id id) (times id (ids_in replies))

once-plus : (b : Bool) (n k : ℕ) → once_more b n + k ≡ n + once_more b k
once-plus true n k = omega arith
once-plus false n k = refl

pub times-all : (id : ActionId) (new replies : List Answered) → times id (ids_in (fold with_answered replies new)) ≡ times id (ids_in replies) + times id (ids_in new)
times-all id [] replies = omega arith
times-all id (x ∷ new) replies =
    times-all id new (with_answered replies x) ∙ ap (λ n. n + times id (ids_in new)) (times-placed id replies x) ∙ once-plus (same_id x.reply.id id) (times id (ids_in replies)) (times id (ids_in new))

in-placed : (replies : List Answered) (new : Answered) (r : Reply) → IsIn (plain (with_answered replies new)) r → (new.reply ≡ r) ⊎ IsIn (plain replies) r
in-placed [] new r there = there
in-placed (x ∷ replies) new r there = at (nat_lt new.place x.place) (λ later. in-placed replies new r later) there where
  at : (b : Bool) → (IsIn (plain (with_answered replies new)) r → (new.reply ≡ r) ⊎ IsIn (plain replies) r) → IsIn (plain (cond b (new ∷ x ∷ replies) (x ∷ with_answered replies new))) r →
      (new.reply ≡ r) ⊎ IsIn (plain (x ∷ replies)) r
  at true again there = there
  at false again (inl here) = inr (inl here)
  at false again (inr later) = elim (again later) [ inl here ↦ inl here | inr there ↦ inr (inr there) ]

pub in-all : (new replies : List Answered) (r : Reply) → IsIn (plain (fold with_answered replies new)) r → IsIn (plain replies) r ⊎ IsIn (plain new) r
in-all [] replies r there = inl there
in-all (x ∷ new) replies r there = elim (in-all new (with_answered replies x) r there) [
  | inl before ↦ elim (in-placed replies x r before) [ inl here ↦ inr (inl here) | inr old ↦ inl old ]
  | inr later ↦ inr (inr later)
]

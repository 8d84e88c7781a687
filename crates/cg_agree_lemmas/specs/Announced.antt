-- The place of a member's announcement: it stays where it is as a talk goes on, and who announced in a front of the talk has it there.
use Rattle.std.proofs.Common.{◌⊎◌, ◌≡◌, ℕ, zero, suc, ◌+◌, ◌≤◌, ◌<◌, Bool, true, false, cond, not, ◌&&◌, List, [], ◌∷◌, ◌++◌, length, fold, filter_map, map, filter, Option, Some, None, is_some, refl, sym, ap, ◌∙◌, subst, inl, inr, arith, eqb, eqb-true, eq-eqb}
use Rattle.std.specs.Prelude.{◌==◌, slice_get}
use Rattle.std.specs.Option.{option_map_or}
use Rattle.std.proofs.lemmas.Bool.{cases_Bool, cond-true, cond-false, and_parts, and_from, or_cases}
use Rattle.cg_base.specs.Sets.{has}
use Rattle.cg_base.specs.SetLaws.{has-with_member}
use Rattle.cg_knowledge.specs.Summaries.{senders}
use Rattle.cg_wire.specs.declared.message.Msg.{Msg}
use Rattle.cg_wire.specs.declared.message.Msg.TheVariants.{Action as ActionMsg, State as StateMsg, GreenItem, RedItem, Cpc}
use Rattle.cg_group.specs.State.{Sent}
use Rattle.cg_model.specs.Talk.{Talk, no_talk, hears, hears_from, talk_of, may_say, is_legal, announcer_in}
use Rattle.cg_model.specs.Levels.{announced_from}
use Rattle.cg_model.specs.Looks.{placed_of}
use Rattle.cg_model.specs.Fronts.{Front}
use Rattle.cg_agree_lemmas.specs.TalkCommute.{senders-more}

-- ---- places

-- it is an announcement of that member
abbrev pub announces : ℕ → Sent Msg → Bool
announces p s = (s.from == p) && is_some (announcer_in s.message)

announced-above : (list : List (Sent Msg)) (place p : ℕ) → (announced_from place list p ≡ 0) ⊎ ((place < announced_from place list p) × (announced_from place list p ≤ place + length list))
announced-above [] place p = inl refl
announced-above (s ∷ list) place p = elim (cases_Bool (announces p s)) [
  | inl here ↦ subst (λ b. (cond b (suc place) (announced_from (suc place) list p) ≡ 0) ⊎ ((place < cond b (suc place) (announced_from (suc place) list p)) × (cond b (suc place) (announced_from (suc place) list p) ≤ place + suc (length list)))) (sym here)
      (inr ((omega arith), (omega arith)))
  | inr other ↦ subst (λ b. (cond b (suc place) (announced_from (suc place) list p) ≡ 0) ⊎ ((place < cond b (suc place) (announced_from (suc place) list p)) × (cond b (suc place) (announced_from (suc place) list p) ≤ place + suc (length list)))) (sym other)
      (elim (announced-above list (suc place) p) [
        | inl none ↦ inl none
        | inr some ↦ inr ((let lt = some.0 in omega arith), (let le = some.1 in omega arith))
      ])
]

-- a longer talk has it where the shorter one has it
announced-longer : (xs ys : List (Sent Msg)) (place p : ℕ) → 0 < announced_from place xs p → announced_from place (xs ++ ys) p ≡ announced_from place xs p
announced-longer [] ys place p some = absurd (omega arith)
announced-longer (s ∷ xs) ys place p some = elim (cases_Bool (announces p s)) [
  | inl here ↦ cond-true (announces p s) (suc place) (announced_from (suc place) (xs ++ ys) p) here ∙ sym (cond-true (announces p s) (suc place) (announced_from (suc place) xs p) here)
  | inr other ↦
      let rest : announced_from place (s ∷ xs) p ≡ announced_from (suc place) xs p = cond-false (announces p s) (suc place) (announced_from (suc place) xs p) other in
      cond-false (announces p s) (suc place) (announced_from (suc place) (xs ++ ys) p) other ∙ announced-longer xs ys (suc place) p (omega (arith, rest, some)) ∙ sym rest
]

-- one that the shorter talk lacks is behind it
announced-later : (xs ys : List (Sent Msg)) (place p : ℕ) → announced_from place xs p ≡ 0 → (announced_from place (xs ++ ys) p ≡ 0) ⊎ (place + length xs < announced_from place (xs ++ ys) p)
announced-later [] ys place p none = elim (announced-above ys place p) [
  | inl zeroth ↦ inl zeroth
  | inr some ↦ inr (let lt = some.0 in omega arith)
]
announced-later (s ∷ xs) ys place p none = elim (cases_Bool (announces p s)) [
  | inl here ↦ absurd (let e : suc place ≡ 0 = sym (cond-true (announces p s) (suc place) (announced_from (suc place) xs p) here) ∙ none in omega arith)
  | inr other ↦
      let e : announced_from place (s ∷ (xs ++ ys)) p ≡ announced_from (suc place) (xs ++ ys) p = cond-false (announces p s) (suc place) (announced_from (suc place) (xs ++ ys) p) other in
      elim (announced-later xs ys (suc place) p (sym (cond-false (announces p s) (suc place) (announced_from (suc place) xs p) other) ∙ none)) [
        | inl zeroth ↦ inl (e ∙ zeroth)
        | inr lt ↦ inr (omega (arith, e, lt))
      ]
]

front-rest : {X : Type 0} (xs ys : List X) → Front xs ys → (rest : List X) × (ys ≡ xs ++ rest)
front-rest [] ys front = (ys, refl)
front-rest (x ∷ xs) [] front = absurd front
front-rest (x ∷ xs) (y ∷ ys) front = let more = front-rest xs ys front.1 in (more.0, (λ i. sym front.0 i ∷ more.1 i))

pub announced-front : (xs ys : List (Sent Msg)) (p : ℕ) → Front xs ys → 0 < announced_from 0 xs p → announced_from 0 ys p ≡ announced_from 0 xs p
announced-front xs ys p front some = let rest = front-rest xs ys front in ap (λ l. announced_from 0 l p) rest.1 ∙ announced-longer xs rest.0 0 p some

pub announced-behind : (xs ys : List (Sent Msg)) (p : ℕ) → Front xs ys → announced_from 0 xs p ≡ 0 → (announced_from 0 ys p ≡ 0) ⊎ (length xs < announced_from 0 ys p)
announced-behind xs ys p front none =
    let rest = front-rest xs ys front in
    elim (announced-later xs rest.0 0 p none) [
      | inl zeroth ↦ inl (ap (λ l. announced_from 0 l p) rest.1 ∙ zeroth)
      | inr lt ↦ inr (let e = ap (λ l. announced_from 0 l p) rest.1 in omega (arith, e, lt))
    ]

pub announced-within : (list : List (Sent Msg)) (p : ℕ) → announced_from 0 list p ≤ length list
announced-within list p = elim (announced-above list 0 p) [
  | inl none ↦ omega arith
  | inr some ↦ (let le = some.1 in omega arith)
]

-- ---- who announced in a talk has a place in it

heard-announced : (t : Talk) (from : ℕ) (m : Msg) (q : ℕ) → has (hears_from t from m).announced q ≡ true → (has t.announced q ≡ true) ⊎ (((from == q) && is_some (announcer_in m)) ≡ true)
heard-announced t from (StateMsg s) q is = inl is
heard-announced t from (GreenItem at a) q is = inl is
heard-announced t from (RedItem a) q is = inl is
heard-announced t from (ActionMsg a) q is = inl is
heard-announced t from (Cpc id conf) q is = elim (or_cases (has t.announced q) (eqb from q) (sym (has-with_member t.announced from q) ∙ is)) [
  | inl old ↦ inl old
  | inr now ↦ inr (and_from (from == q) true now refl)
]

talk-announced : (list : List (Sent Msg)) (t : Talk) (place q : ℕ) → has (fold hears t list).announced q ≡ true → (has t.announced q ≡ true) ⊎ (0 < announced_from place list q)
talk-announced [] t place q is = inl is
talk-announced (s ∷ list) t place q is = elim (cases_Bool (announces q s)) [
  | inl here ↦ inr (let e = cond-true (announces q s) (suc place) (announced_from (suc place) list q) here in omega arith)
  | inr other ↦ elim (talk-announced list (hears t s) (suc place) q is) [
    | inl before ↦ elim (heard-announced t s.from s.message q before) [
      | inl old ↦ inl old
      | inr now ↦ absurd (let clash : true ≡ false = sym now ∙ other in cc)
    ]
    | inr later ↦ inr (let e = cond-false (announces q s) (suc place) (announced_from (suc place) list q) other in omega arith)
  ]
]

pub announced-place : (list : List (Sent Msg)) (q : ℕ) → has (talk_of list).announced q ≡ true → 0 < announced_from 0 list q
announced-place list q is = elim (talk-announced list no_talk 0 q is) [
  | inl none ↦ absurd (let clash : false ≡ true = none in cc)
  | inr some ↦ some
]

-- ---- who tells something in a legal talk is a member

pub senders-members : (set : List ℕ) (conf : ℕ) (list : List (Sent Msg)) (t : Talk) (q : ℕ) → is_legal set conf t list ≡ true →
    ((k : ℕ) → has (senders t.heard) k ≡ true → has set k ≡ true) → has (senders (fold hears t list).heard) q ≡ true → has set q ≡ true
senders-members set conf [] t q legal old is = old q is
senders-members set conf (s ∷ list) t q legal old is =
    let parts = and_parts (may_say set conf t s.from s.message) (is_legal set conf (hears t s) list) legal in
    senders-members set conf list (hears t s) q parts.1 (step s.from s.message parts.0) is
  where
    step : (from : ℕ) (m : Msg) → may_say set conf t from m ≡ true → (k : ℕ) → has (senders (hears_from t from m).heard) k ≡ true → has set k ≡ true
    step from (StateMsg s) may k is =
        let outer = and_parts ((has set from && (s.id == from)) && (s.conf == conf)) (not (has (senders t.heard) from)) may in
        let named = and_parts (has set from && (s.id == from)) (s.conf == conf) outer.0 in
        let whose = and_parts (has set from) (s.id == from) named.0 in
        elim (or_cases (has (senders t.heard) k) (eqb s.id k) (sym (has-with_member (senders t.heard) s.id k) ∙ sym (ap (λ l. has l k) (senders-more t.heard s)) ∙ is)) [
          | inl before ↦ old k before
          | inr now ↦ ap (has set) (sym (eqb-true s.id k now) ∙ eqb-true s.id from whose.1) ∙ whose.0
        ]
    step from (GreenItem at a) may k is = old k is
    step from (RedItem a) may k is = old k is
    step from (Cpc id at) may k is = old k is
    step from (ActionMsg a) may k is = old k is

-- ---- what stands at a place was said by its sender

module _ {Y : Type 0} (f : Msg → Option Y) where
  placed-first : (s : Sent Msg) (list : List (Sent Msg)) (o : Option Y) → f s.message ≡ o → is_some o ≡ true → 0 < length (filter_map f (placed_of s.from (s ∷ list)))
  placed-first s list None e some = absurd (let clash : false ≡ true = some in cc)
  placed-first s list (Some y) e some = rw (eq-eqb s.from s.from refl, e) (omega arith)

  placed-more : (m : Msg) (ms : List Msg) → 0 < length (filter_map f ms) → 0 < length (filter_map f (m ∷ ms))
  placed-more m ms lt = at (f m) refl where
    at : (o : Option Y) → f m ≡ o → 0 < length (filter_map f (m ∷ ms))
    at None e = rw e lt
    at (Some y) e = rw e (omega arith)

  pub placed-some : (list : List (Sent Msg)) (n : ℕ) (s : Sent Msg) → slice_get list n ≡ Some s → is_some (f s.message) ≡ true → 0 < length (filter_map f (placed_of s.from list))
  placed-some [] n s e some = absurd (let clash : None ≡ Some s = e in cc)
  placed-some (x ∷ list) zero s e some =
      let same : x ≡ s = ap (λ o. option_map_or (λ z. z) o x) e in
      subst (λ (z : Sent Msg). 0 < length (filter_map f (placed_of s.from (z ∷ list)))) (sym same) (placed-first s list (f s.message) refl some)
  placed-some (x ∷ list) (suc n) s e some =
      let rest = placed-some list n s e some in
      elim (cases_Bool (x.from == s.from)) [
        | inl mine ↦ subst (λ b. 0 < length (filter_map f (map (λ (s : Sent Msg). s.message) (cond b (x ∷ filter (λ (z : Sent Msg). z.from == s.from) list) (filter (λ (z : Sent Msg). z.from == s.from) list))))) (sym mine)
            (placed-more x.message (placed_of s.from list) rest)
        | inr other ↦ subst (λ b. 0 < length (filter_map f (map (λ (s : Sent Msg). s.message) (cond b (x ∷ filter (λ (z : Sent Msg). z.from == s.from) list) (filter (λ (z : Sent Msg). z.from == s.from) list))))) (sym other) rest
      ]

-- In a quiet configuration an action is known as the definition says, known to a member as it came or ordered there since, where its number is
-- no greater than that which the talk has of its creator.
use Rattle.std.proofs.Common.{◌≡◌, ℕ, suc, ◌+◌, ◌<◌, true, false, ◌&&◌, ◌||◌, List, [], ◌∷◌, length, map, filter_map, fold, refl, sym, ap, ap₂, ◌∙◌, subst, inl, inr, arith, eq-eqb, eqb-true}
use Rattle.std.specs.Prelude.{◌==◌, nat_lt, nat_le}
use Rattle.std.specs.List.{list_all}
use Rattle.std.proofs.lemmas.Bool.{cases_Bool, cases_lt, cases_order, cond-true, cond-false, and_parts, and_from, ne_eqb, eqb-false, lt-ltb, le-ltb, le-leb, lt-leb}
use Rattle.cg_base.specs.declared.action_id.ActionId.{ActionId}
use Rattle.cg_base.specs.Ids.{has_name, same_id}
use Rattle.cg_base.specs.Lists.{count_up}
use Rattle.cg_base.specs.Sets.{has}
use Rattle.cg_action.specs.declared.action.Action.{Action}
use Rattle.cg_knowledge.specs.Summaries.{remaining}
use Rattle.cg_queue.specs.Queue.{names_of}
use Rattle.cg_wire.specs.declared.message.Msg.{Msg}
use Rattle.cg_wire.specs.declared.message.Msg.TheVariants.{Action as ActionMsg, State as StateMsg, GreenItem, RedItem, Cpc}
use Rattle.cg_group.specs.State.{Sent}
use Rattle.cg_model.specs.Quiet.{is_quiet, is_known_in}
use Rattle.cg_model.specs.Chronicle.{Chronicle}
use Rattle.cg_model.specs.Looks.{members_in, ordered_in, placed_of}
use Rattle.cg_model.specs.Talk.{Talk, no_talk, hears, hears_from, is_full, is_through, is_legal, may_say, act_in, acts_in, known_up_to}
use Rattle.cg_model.specs.FactsTalk.{whole_talk, of_creator, count_behind}
use Rattle.cg_model.specs.Facts.{Invariant}
use Rattle.cg_agree_lemmas.specs.ActsSaid.{acts-by, acts-of}
use Rattle.cg_agree.proofs.DeadKept.{remaining-senders}
use Rattle.cg_agree_lemmas.specs.SaidSoFar.{rest-through}
use Rattle.cg_agree_lemmas.specs.TalkCommute.{acts}
use Rattle.cg_agree.proofs.QuietTalk.{said-placed, member-of, talk-ended, summaries-are, actions-are}

-- ---- names that count on

one-more : (n k more : ℕ) → ((n == suc k) || (nat_lt (suc k) n && nat_le n (suc k + more))) ≡ (nat_lt k n && nat_le n (k + suc more))
one-more n k more = elim (cases_order n (suc k)) [
  | inl same ↦ rw (eq-eqb n (suc k) same, lt-ltb k n (omega arith), le-leb n (k + suc more) (omega arith)) refl
  | inr apart ↦ elim apart [
    | inl lt ↦ rw (ne_eqb n (suc k) (λ (e : n ≡ suc k). omega arith), le-ltb (suc k) n (omega arith), le-ltb k n (omega arith)) refl
    | inr gt ↦
        let sum : suc k + more ≡ k + suc more = omega arith in
        rw (ne_eqb n (suc k) (λ (e : n ≡ suc k). omega arith), lt-ltb (suc k) n gt, lt-ltb k n (omega arith)) (ap (nat_le n) sum)
  ]
]

no-more : (n k : ℕ) → (nat_lt k n && nat_le n (k + 0)) ≡ false
no-more n k = elim (cases_lt k n) [
  | inl lt ↦ rw (lt-ltb k n lt, lt-leb n (k + 0) (omega arith)) refl
  | inr le ↦ rw (le-ltb k n le) refl
]

all-there : (n k more : ℕ) → (nat_le n k || (nat_lt k n && nat_le n (k + more))) ≡ nat_le n (k + more)
all-there n k more = elim (cases_lt k n) [
  | inl lt ↦ rw (lt-leb n k lt, lt-ltb k n lt) refl
  | inr le ↦ rw (le-leb n k le, le-leb n (k + more) (omega arith)) refl
]

-- names of one creator, of which each is the next
counted-names : (p k : ℕ) (xs : List Action) (id : ActionId) → list_all (λ a. a.id.creator == p) xs ≡ true → map (λ a. a.id.index) xs ≡ count_up (suc k) (length xs) → id.creator ≡ p →
    has_name (names_of xs) id ≡ (nat_lt k id.index && nat_le id.index (k + length xs))
counted-names p k [] id own up is = sym (no-more id.index k)
counted-names p k (x ∷ xs) id own up is =
    let parts = and_parts (x.id.creator == p) (list_all (λ a. a.id.creator == p) xs) own in
    let up_all : x.id.index ∷ map (λ a. a.id.index) xs ≡ suc k ∷ count_up (suc (suc k)) (length xs) = up in
    let first : x.id.index ≡ suc k = cc in
    let next : map (λ a. a.id.index) xs ≡ count_up (suc (suc k)) (length xs) = cc in
    let same : (id.creator == x.id.creator) ≡ true = eq-eqb id.creator x.id.creator (is ∙ sym (eqb-true x.id.creator p parts.0)) in
    let here : same_id id x.id ≡ (id.index == suc k) = ap₂ (λ a n. a && (id.index == n)) same first in
    ap₂ (λ a b. a || b) here (counted-names p (suc k) xs id parts.1 next is) ∙ one-more id.index k (length xs)

-- the others' names are no matter
names-own : (xs : List Action) (id : ActionId) → has_name (names_of xs) id ≡ has_name (names_of (of_creator id.creator xs)) id
names-own [] id = refl
names-own (x ∷ xs) id = elim (cases_Bool (x.id.creator == id.creator)) [
  | inl mine ↦
      ap (λ b. same_id id x.id || b) (names-own xs id)
      ∙ sym (ap (λ (ys : List Action). has_name (names_of ys) id) (cond-true (x.id.creator == id.creator) (x ∷ of_creator id.creator xs) (of_creator id.creator xs) mine))
  | inr other ↦
      let apart : (id.creator == x.id.creator) ≡ false = ne_eqb id.creator x.id.creator (λ e. eqb-false x.id.creator id.creator other (sym e)) in
      ap (λ b. (b && (id.index == x.id.index)) || has_name (names_of xs) id) apart ∙ names-own xs id
      ∙ sym (ap (λ (ys : List Action). has_name (names_of ys) id) (cond-false (x.id.creator == id.creator) (x ∷ of_creator id.creator xs) (of_creator id.creator xs) other))
]

own-all : (p : ℕ) (xs : List Action) → list_all (λ a. a.id.creator == p) (of_creator p xs) ≡ true
own-all p [] = refl
own-all p (x ∷ xs) = elim (cases_Bool (x.id.creator == p)) [
  | inl mine ↦
      ap (list_all (λ (a : Action). a.id.creator == p)) (cond-true (x.id.creator == p) (x ∷ of_creator p xs) (of_creator p xs) mine)
      ∙ and_from (x.id.creator == p) (list_all (λ (a : Action). a.id.creator == p) (of_creator p xs)) mine (own-all p xs)
  | inr other ↦ ap (list_all (λ (a : Action). a.id.creator == p)) (cond-false (x.id.creator == p) (x ∷ of_creator p xs) (of_creator p xs) other) ∙ own-all p xs
]

-- ---- who doesn't remain has said no action

outside-none : (set : List ℕ) (conf p : ℕ) (list : List (Sent Msg)) (t : Talk) → is_legal set conf t list ≡ true → has (remaining (fold hears t list).heard) p ≡ false → of_creator p (acts_in list) ≡ []
outside-none set conf p [] t legal out = refl
outside-none set conf p (s ∷ list) t legal out =
    let parts = and_parts (may_say set conf t s.from s.message) (is_legal set conf (hears t s) list) legal in
    at s.from s.message parts.0 (λ full through. (rest-through set conf p (s ∷ list) t full through legal).heard) out (outside-none set conf p list (hears t s) parts.1 out) where
      at : (from : ℕ) (m : Msg) → may_say set conf t from m ≡ true → (is_full set t ≡ true → is_through t ≡ true → (fold hears (hears_from t from m) list).heard ≡ t.heard) →
          has (remaining (fold hears (hears_from t from m) list).heard) p ≡ false → of_creator p (acts_in list) ≡ [] → of_creator p (acts_in (record { from = from; message = m } ∷ list)) ≡ []
      at from (ActionMsg a) may same out rest =
          let act = acts set conf t from a may in
          let here : has (remaining t.heard) p ≡ false = ap (λ h. has (remaining h) p) (sym (same act.goes_on.full act.goes_on.through)) ∙ out in
          let apart : (a.id.creator == p) ≡ false = ne_eqb a.id.creator p (λ e. let clash : true ≡ false = sym act.goes_on.remains ∙ ap (has (remaining t.heard)) (sym act.creator ∙ e) ∙ here in cc) in
          cond-false (a.id.creator == p) (a ∷ of_creator p (acts_in list)) (of_creator p (acts_in list)) apart ∙ rest
      at from (StateMsg s) may same out rest = rest
      at from (GreenItem n a) may same out rest = rest
      at from (RedItem a) may same out rest = rest
      at from (Cpc id k) may same out rest = rest

-- ---- a quiet configuration

module _ (c : Chronicle) (i : Invariant c) (conf : ℕ) (some : 0 < conf) (quiet : is_quiet c.world conf ≡ true) where
  abbrev talk : Talk
  talk = whole_talk c conf

  abbrev list : List (Sent Msg)
  list = ordered_in c conf

  legal : is_legal (members_in c conf) conf no_talk list ≡ true
  legal = i.talk.talk_legal.ordered conf

  -- the actions of each creator count on from what some member knew
  counts-on : (p : ℕ) → map (λ a. a.id.index) (of_creator p talk.acts) ≡ count_up (suc (known_up_to talk.heard p)) (length (of_creator p talk.acts))
  counts-on p = elim (cases_Bool (has (remaining talk.heard) p)) [
    | inl stays ↦
        let is = member-of c i conf some quiet p (remaining-senders talk.heard p stays) in
        let all : filter_map act_in (placed_of p list) ≡ of_creator p talk.acts = sym (acts-by (members_in c conf) conf p list no_talk legal) ∙ ap (of_creator p) (sym (acts-of list no_talk)) in
        subst (λ (xs : List Action). map (λ a. a.id.index) xs ≡ count_up (suc (known_up_to talk.heard p)) (length xs)) (ap (filter_map act_in) (said-placed c i conf some quiet p is) ∙ all)
        (i.talk.acts_numbered.said conf p (talk-ended c i conf some quiet) stays)
    | inr out ↦
        let none : of_creator p talk.acts ≡ [] = ap (of_creator p) (acts-of list no_talk) ∙ outside-none (members_in c conf) conf p list no_talk legal out in
        subst (λ (xs : List Action). map (λ a. a.id.index) xs ≡ count_up (suc (known_up_to talk.heard p)) (length xs)) (sym none) refl
  ]

  pub known-in : (id : ActionId) → is_known_in c.world conf id ≡ nat_le id.index (count_behind talk id.creator)
  known-in id =
      let k = known_up_to talk.heard id.creator in
      let own = of_creator id.creator talk.acts in
      ap₂ (λ heard acts. nat_le id.index (known_up_to heard id.creator) || has_name (names_of acts) id) (summaries-are c i conf some quiet) (actions-are c i conf some quiet)
      ∙ ap (λ b. nat_le id.index k || b) (names-own talk.acts id ∙ counted-names id.creator k own id (own-all id.creator talk.acts) (counts-on id.creator) refl)
      ∙ all-there id.index k (length own)

-- What is said early in a configuration: before all have told their summaries no item, and before the plan is through neither
-- an announcement nor an action.
use Rattle.std.proofs.Common.{◌≡◌, ℕ, suc, ◌<◌, ◌≤◌, Bool, true, false, not, ◌&&◌, ◌||◌, List, [], ◌∷◌, length, Option, Some, None, fold, refl, sym, ap, ◌∙◌, arith, ⊎_elim, eqb-true, subst}
use Rattle.std.specs.Prelude.{◌==◌}
use Rattle.std.specs.List.{list_all}
use Rattle.std.proofs.lemmas.Bool.{and_parts, and_left, and_right, cases_Bool, false_from_ne_true, not-true, leb-true}
use Rattle.std.proofs.lemmas.Option.{slice_get_within}
use Rattle.cg_base.specs.Sets.{has, is_within}
use Rattle.cg_knowledge.specs.Summaries.{senders, remaining}
use Rattle.cg_knowledge.specs.Verdict.{decides}
use Rattle.cg_plan.specs.declared.parts.Item.{Item}
use Rattle.cg_plan.specs.declared.parts.Item.TheVariants.{Green, Red}
use Rattle.cg_plan.specs.declared.parts.SentItem.{SentItem as PlanSent}
use Rattle.cg_plan.specs.Items.{items_of_plan}
use Rattle.cg_plan.specs.Plan.{plan_of}
use Rattle.cg_plan.specs.Progress.{is_wanted, next_item, is_done}
use Rattle.cg_wire.specs.declared.message.Msg.{Msg}
use Rattle.cg_wire.specs.declared.message.Msg.TheVariants.{Action as ActionMsg, State as StateMsg, GreenItem, RedItem, Cpc}
use Rattle.cg_group.specs.State.{Sent}
use Rattle.cg_states.specs.ExchangeActions.{progress}
use Rattle.cg_model.specs.Talk.{Talk, no_talk, hears_from, hears, is_full, is_through, is_ended, is_announced, is_due, may_go_on, may_say, is_legal}

-- what all of a set pass a member passes
pub all-member : (p : ℕ → Bool) (set : List ℕ) (q : ℕ) → has set q ≡ true → list_all p set ≡ true → p q ≡ true
all-member p [] q h a = absurd (let clash : false ≡ true = h in cc)
all-member p (x ∷ set) q h a =
    let parts = and_parts (p x) (list_all p set) a in
    ⊎_elim (λ same. subst (λ n. p n ≡ true) (eqb-true x q same) parts.0)
    (λ other. all-member p set q (rest other h) parts.1) (cases_Bool (x == q)) where
      rest : (x == q) ≡ false → has (x ∷ set) q ≡ true → has set q ≡ true
      rest other h = sym (ap (λ b. b || has set q) other) ∙ h

-- the plan isn't through where an item is wanted
pub not_through : (t : Talk) (from : ℕ) (item : Item) → is_wanted (next_item (progress t.heard t.accepted)) from item ≡ true → is_through t ≡ false
unfolding next_item is_done
not_through t from item w = false_from_ne_true (is_through t) (λ done.
    let items = items_of_plan (plan_of t.heard) in
    let there = some_item (next_item (progress t.heard t.accepted)) w in
    let within : t.accepted < length items = slice_get_within items t.accepted there.0 there.1 in
    let past : length items ≤ t.accepted = leb-true (length items) t.accepted done in
    omega arith) where
      some_item : (o : Option PlanSent) → is_wanted o from item ≡ true → (x : PlanSent) × (o ≡ Some x)
      some_item None h = absurd (let clash : false ≡ true = h in cc)
      some_item (Some x) h = (x, refl)

pub record IsEarly (set : List ℕ) (t : Talk) : Type 0 where
  pub none : is_full set t ≡ false → t.accepted ≡ 0
  pub quiet : is_ended set t ≡ false → (t.announced ≡ []) × (t.acts ≡ [])

-- before who hasn't told a summary tells it, not all have
pub not_full : (set : List ℕ) (t : Talk) (from : ℕ) → has set from ≡ true → has (senders t.heard) from ≡ false → is_full set t ≡ false
not_full set t from member lacks = false_from_ne_true (is_full set t) (λ full.
    let told : has (senders t.heard) from ≡ true = all-member (has (senders t.heard)) set from member full in
    let clash : true ≡ false = sym told ∙ lacks in cc)

-- where an item is due, all have told and the plan isn't through
pub due_parts : (set : List ℕ) (t : Talk) (from : ℕ) (item : Item) → is_due set t from item ≡ true → (is_full set t ≡ true) × (is_through t ≡ false)
due_parts set t from item due =
    let parts = and_parts (is_full set t) (is_wanted (next_item (progress t.heard t.accepted)) from item) due in
    (parts.0, not_through t from item parts.1)

module _ (set : List ℕ) (conf : ℕ) (t : Talk) (from : ℕ) (early : IsEarly set t) where
  early-item : (item : Item) → is_due set t from item ≡ true → IsEarly set (record t { accepted = suc t.accepted })
  early-item item due =
      let parts = due_parts set t from item due in
      let said = early.quiet (and_right (is_full set t) (is_through t) parts.1) in
      record { none = λ no. absurd (let clash : true ≡ false = sym parts.0 ∙ no in cc); quiet = λ no. said }

  ended-stays : (u : Talk) → u.heard ≡ t.heard → u.accepted ≡ t.accepted → may_go_on set t from ≡ true → IsEarly set u
  ended-stays u heard accepted on =
      let ended = (and_parts (is_ended set t) (has (remaining t.heard) from) on).0 in
      let full = (and_parts (is_full set t) (is_through t) ended).0 in
      let full' : is_full set u ≡ true = ap (λ h. is_within set (senders h)) heard ∙ full in
      let through' : is_through u ≡ is_through t = rw (heard, accepted) refl in
      let ended' : is_ended set u ≡ true = rw (full', through', (and_parts (is_full set t) (is_through t) ended).1) refl in
      record { none = λ no. absurd (let clash : true ≡ false = sym full' ∙ no in cc); quiet = λ no. absurd (let clash : true ≡ false = sym ended' ∙ no in cc) }

  -- what may be said next keeps it so
  pub early-hears : (m : Msg) → may_say set conf t from m ≡ true → IsEarly set (hears_from t from m)
  early-hears (StateMsg s) may =
      let outer = and_parts ((has set from && (s.id == from)) && (s.conf == conf)) (not (has (senders t.heard) from)) may in
      let member = (and_parts (has set from) (s.id == from) (and_parts (has set from && (s.id == from)) (s.conf == conf) outer.0).0).0 in
      let partly = not_full set t from member (not-true (has (senders t.heard) from) outer.1) in
      let said = early.quiet (and_left (is_full set t) (is_through t) partly) in
      record { none = λ no. early.none partly; quiet = λ no. said }
  early-hears (GreenItem at a) may = early-item (Green at) may
  early-hears (RedItem a) may = early-item (Red a.id) may
  early-hears (Cpc id at) may =
      let outer = and_parts ((((id == from) && (at == conf)) && may_go_on set t from) && decides t.heard) (not (has t.announced from)) may in
      let inner = and_parts (((id == from) && (at == conf)) && may_go_on set t from) (decides t.heard) outer.0 in
      ended-stays (hears_from t from (Cpc id at)) refl refl (and_parts ((id == from) && (at == conf)) (may_go_on set t from) inner.0).1
  early-hears (ActionMsg a) may =
      let outer = and_parts ((a.id.creator == from) && may_go_on set t from) (not (decides t.heard) || is_announced t) may in
      ended-stays (hears_from t from (ActionMsg a)) refl refl (and_parts (a.id.creator == from) (may_go_on set t from) outer.0).1

-- a legal talk is so
pub early-legal : (set : List ℕ) (conf : ℕ) (list : List (Sent Msg)) (t : Talk) → IsEarly set t → is_legal set conf t list ≡ true → IsEarly set (fold hears t list)
early-legal set conf [] t early legal = early
early-legal set conf (s ∷ list) t early legal =
    let parts = and_parts (may_say set conf t s.from s.message) (is_legal set conf (hears t s) list) legal in
    early-legal set conf list (hears t s) (early-hears set conf t s.from early s.message parts.0) parts.1

pub early-none : (set : List ℕ) → IsEarly set no_talk
early-none set = record { none = λ no. refl; quiet = λ no. (refl, refl) }

-- What a member has said in a legal talk: its items are those of the plan so far, and who says nothing more leaves it so.
use Rattle.std.proofs.Common.{◌≡◌, ℕ, suc, Bool, true, false, cond, List, [], ◌∷◌, ◌++◌, Option, Some, None, map, filter, filter_map, fold, take, refl, sym, ap, ap₂, ◌∙◌, ⊎_elim, append-nil, if◌then◌else◌, eqb-true, eq-eqb}
use Rattle.std.specs.Prelude.{◌==◌, slice_get}
use Rattle.std.proofs.lemmas.Bool.{and_parts, cases_Bool, eqb-false, or_from}
use Rattle.std.proofs.lemmas.List.{append_assoc}
use Rattle.std.proofs.lemmas.List.Elements.{filter_map-append}
use Rattle.cg_base.specs.Sets.{has}
use Rattle.cg_base.specs.SetLaws.{has-with_member}
use Rattle.cg_plan.specs.declared.parts.Item.{Item}
use Rattle.cg_plan.specs.declared.parts.Item.TheVariants.{Green, Red}
use Rattle.cg_plan.specs.declared.parts.SentItem.{SentItem as PlanSent}
use Rattle.cg_plan.specs.Items.{items_of_plan}
use Rattle.cg_plan.specs.contracts.parts.ItemPartialEq.TheImpl.{ghosts as same_item}
use Rattle.cg_plan.specs.Plan.{plan_of}
use Rattle.cg_plan.specs.Progress.{is_wanted, next_item}
use Rattle.cg_plan.specs.PlanLaws.{same_item-is}
use Rattle.cg_wire.specs.declared.message.Msg.{Msg}
use Rattle.cg_wire.specs.declared.message.Msg.TheVariants.{Action as ActionMsg, State as StateMsg, GreenItem, RedItem, Cpc}
use Rattle.cg_group.specs.State.{Sent}
use Rattle.cg_states.specs.ExchangeActions.{progress}
use Rattle.cg_model.specs.Looks.{placed_of, sent_by}
use Rattle.cg_model.specs.Talk.{Talk, hears_from, hears, is_full, is_through, is_due, may_say, is_legal, item_in, announcer_in}
use Rattle.cg_agree_lemmas.specs.TalkEarly.{IsEarly, early-hears, not_full, due_parts}
use Rattle.cg_agree_lemmas.specs.TalkCommute.{tells, clash}
use Rattle.cg_agree_lemmas.specs.DueAll.{item_by, items_by, by-sender, take-next}

-- ---- the messages of one member, by a kind

module _ {Y : Type 0} (f : Msg → Option Y) where
  abbrev pub kind_of : ℕ → List (Sent Msg) → List Y
  kind_of me list = filter_map f (placed_of me list)

  pub kind-mine : (me : ℕ) (s : Sent Msg) (list : List (Sent Msg)) → (s.from == me) ≡ true → kind_of me (s ∷ list) ≡ filter_map f (s.message ∷ placed_of me list)
  kind-mine me s list mine = ap (λ b. filter_map f (map (λ (s : Sent Msg). s.message) (cond b (s ∷ filter (λ s. s.from == me) list) (filter (λ s. s.from == me) list)))) mine

  pub kind-other : (me : ℕ) (s : Sent Msg) (list : List (Sent Msg)) → (s.from == me) ≡ false → kind_of me (s ∷ list) ≡ kind_of me list
  kind-other me s list other = ap (λ b. filter_map f (map (λ (s : Sent Msg). s.message) (cond b (s ∷ filter (λ s. s.from == me) list) (filter (λ s. s.from == me) list)))) other

  -- the kind of one message, where it is the member's
  abbrev pub part_of : ℕ → ℕ → Msg → List Y
  part_of me from m = if from == me then filter_map f (m ∷ []) else []

  pub kind-cons : (me : ℕ) (s : Sent Msg) (list : List (Sent Msg)) → kind_of me (s ∷ list) ≡ part_of me s.from s.message ++ kind_of me list
  kind-cons me s list = ⊎_elim
      (λ mine. kind-mine me s list mine ∙ filter_map-append f (s.message ∷ []) (placed_of me list) ∙ sym (ap (λ b. (if b then filter_map f (s.message ∷ []) else []) ++ kind_of me list) mine))
      (λ other. kind-other me s list other ∙ sym (ap (λ b. (if b then filter_map f (s.message ∷ []) else []) ++ kind_of me list) other))
      (cases_Bool (s.from == me))

pub nobodys : {Y : Type 0} (b : Bool) → (if b then [] else []) ≡ (let xs : List Y = [] in xs)
nobodys true = refl
nobodys false = refl

pub placed-append : (me : ℕ) (xs ys : List (Sent Msg)) → placed_of me (xs ++ ys) ≡ placed_of me xs ++ placed_of me ys
placed-append me [] ys = refl
placed-append me (s ∷ xs) ys = ⊎_elim
    (λ mine. rw mine (ap (λ zs. s.message ∷ zs) (placed-append me xs ys))) (λ other. rw other (placed-append me xs ys)) (cases_Bool (s.from == me))

pub placed-own : (me : ℕ) (said : List Msg) → placed_of me (map (sent_by me) said) ≡ said
placed-own me [] = refl
placed-own me (m ∷ said) = rw (eq-eqb me me refl) (ap (λ zs. m ∷ zs) (placed-own me said))

-- ---- the items of a member

-- a member has said its items among those accepted so far
abbrev pub items_so_far : List ℕ → Talk → ℕ → List Item
items_so_far set t me = if is_full set t then items_by me (take t.accepted (items_of_plan (plan_of t.heard))) else []

module _ (set : List ℕ) (conf me : ℕ) where
  -- the item that is due is the plan's next one
  pub due-next : (t : Talk) (from : ℕ) (item : Item) → is_due set t from item ≡ true →
      (s : PlanSent) × (slice_get (items_of_plan (plan_of t.heard)) t.accepted ≡ Some s) × (s.sender ≡ from) × (s.item ≡ item)
  unfolding next_item
  due-next t from item due =
      let wanted = (and_parts (is_full set t) (is_wanted (next_item (progress t.heard t.accepted)) from item) due).1 in
      there (slice_get (items_of_plan (plan_of t.heard)) t.accepted) refl wanted where
        there : (o : Option PlanSent) → slice_get (items_of_plan (plan_of t.heard)) t.accepted ≡ o → is_wanted o from item ≡ true →
            (s : PlanSent) × (slice_get (items_of_plan (plan_of t.heard)) t.accepted ≡ Some s) × (s.sender ≡ from) × (s.item ≡ item)
        there None e w = absurd (let none : false ≡ true = w in cc)
        there (Some s) e w =
            let parts = and_parts (s.sender == from) (same_item.eq s.item item) w in
            (s, e, eqb-true s.sender from parts.0, same_item-is s.item item parts.1)

  -- one more item
  so_far-item : (t : Talk) (from : ℕ) (item : Item) → is_due set t from item ≡ true →
      items_so_far set (record t { accepted = suc t.accepted }) me ≡ items_so_far set t me ++ (if from == me then item ∷ [] else [])
  so_far-item t from item due =
      let full = (due_parts set t from item due).0 in
      let next = due-next t from item due in
      let plan = items_of_plan (plan_of t.heard) in
      let grown : items_by me (take (suc t.accepted) plan) ≡ items_by me (take t.accepted plan) ++ (if from == me then item ∷ [] else []) =
      ap (items_by me) (take-next plan t.accepted next.0 next.1) ∙ filter_map-append (item_by me) (take t.accepted plan) (next.0 ∷ [])
      ∙ ap (λ xs. items_by me (take t.accepted plan) ++ xs) (one next.0 next.2 next.3) in
      rw full grown where
        one : (s : PlanSent) → s.sender ≡ from → s.item ≡ item → items_by me (s ∷ []) ≡ (if from == me then item ∷ [] else [])
        one s same is = by-sender s.sender me (s.item ∷ []) ∙ ap₂ (λ p i. cond (p == me) (i ∷ []) []) same is

  so_far-hears : (t : Talk) (from : ℕ) (m : Msg) → IsEarly set t → may_say set conf t from m ≡ true →
      items_so_far set (hears_from t from m) me ≡ items_so_far set t me ++ part_of item_in me from m
  so_far-hears t from (StateMsg s) early may =
      let first = tells set conf t from s may in
      let partly = not_full set t from first.member first.first in
      let before : items_so_far set t me ≡ [] = rw partly refl in
      at_first (hears_from t from (StateMsg s)) (early.none partly) ∙ sym (ap₂ (λ xs ys. xs ++ ys) before (nobodys (from == me))) where
        at_first : (u : Talk) → u.accepted ≡ 0 → items_so_far set u me ≡ []
        at_first u zeroth = rw zeroth (nobodys (is_full set u))
  so_far-hears t from (GreenItem at a) early may = so_far-item t from (Green at) may
  so_far-hears t from (RedItem a) early may = so_far-item t from (Red a.id) may
  so_far-hears t from (Cpc id n) early may = sym (append-nil (items_so_far set t me)) ∙ ap (λ xs. items_so_far set t me ++ xs) (sym (nobodys (from == me)))
  so_far-hears t from (ActionMsg a) early may = sym (append-nil (items_so_far set t me)) ∙ ap (λ xs. items_so_far set t me ++ xs) (sym (nobodys (from == me)))

  -- in a legal talk each member has said its items so far
  pub so_far-legal : (list : List (Sent Msg)) (t : Talk) → IsEarly set t → is_legal set conf t list ≡ true →
      items_so_far set (fold hears t list) me ≡ items_so_far set t me ++ kind_of item_in me list
  so_far-legal [] t early legal = sym (append-nil (items_so_far set t me))
  so_far-legal (s ∷ list) t early legal =
      let parts = and_parts (may_say set conf t s.from s.message) (is_legal set conf (hears t s) list) legal in
      so_far-legal list (hears t s) (early-hears set conf t s.from early s.message parts.0) parts.1
      ∙ ap (λ xs. xs ++ kind_of item_in me list) (so_far-hears t s.from s.message early parts.0)
      ∙ append_assoc (items_so_far set t me) (part_of item_in me s.from s.message) (kind_of item_in me list)
      ∙ ap (λ xs. items_so_far set t me ++ xs) (sym (kind-cons item_in me s list))

  -- ---- who says nothing more

  -- no other member's item is due
  abbrev pub NoneElse : Talk → Type 0
  NoneElse t = (q : ℕ) (item : Item) → (q ≡ me → ⊥) → is_due set t q item ≡ true → ⊥

  pub record IsSame (t u : Talk) : Type 0 where
    pub heard : u.heard ≡ t.heard
    pub accepted : u.accepted ≡ t.accepted

  rest-step : (list : List (Sent Msg)) (t : Talk) → is_full set t ≡ true → NoneElse t →
      ((u : Talk) → is_full set u ≡ true → NoneElse u → is_legal set conf u list ≡ true → IsSame u (fold hears u list)) →
      (from : ℕ) (m : Msg) → may_say set conf t from m ≡ true → is_legal set conf (hears_from t from m) list ≡ true → part_of item_in me from m ≡ [] →
      IsSame t (fold hears (hears_from t from m) list)
  rest-step list t full none rest from (StateMsg s) may legal quiet =
      let first = tells set conf t from s may in
      clash (is_full set t) full (not_full set t from first.member first.first)
  rest-step list t full none rest from (GreenItem at a) may legal quiet = ⊎_elim
      (λ mine. absurd (let item : Green at ∷ [] ≡ [] = sym (ap (λ b. if b then Green at ∷ [] else []) mine) ∙ quiet in cc))
      (λ other. absurd (none from (Green at) (eqb-false from me other) may)) (cases_Bool (from == me))
  rest-step list t full none rest from (RedItem a) may legal quiet = ⊎_elim
      (λ mine. absurd (let item : Red a.id ∷ [] ≡ [] = sym (ap (λ b. if b then Red a.id ∷ [] else []) mine) ∙ quiet in cc))
      (λ other. absurd (none from (Red a.id) (eqb-false from me other) may)) (cases_Bool (from == me))
  rest-step list t full none rest from (Cpc id n) may legal quiet =
      let same = rest (hears_from t from (Cpc id n)) full none legal in record { heard = same.heard; accepted = same.accepted }
  rest-step list t full none rest from (ActionMsg a) may legal quiet =
      let same = rest (hears_from t from (ActionMsg a)) full none legal in record { heard = same.heard; accepted = same.accepted }

  pub nil-both : {Y : Type 0} (xs ys : List Y) → xs ++ ys ≡ [] → (xs ≡ []) × (ys ≡ [])
  nil-both [] ys e = (refl, e)
  nil-both (x ∷ xs) ys e = absurd (let some : x ∷ (xs ++ ys) ≡ [] = e in cc)

  -- where all have told and no other's item is due, what is said without an item of the member leaves the plan where it is
  pub rest-same : (list : List (Sent Msg)) (t : Talk) → is_full set t ≡ true → NoneElse t → is_legal set conf t list ≡ true → kind_of item_in me list ≡ [] →
      IsSame t (fold hears t list)
  rest-same [] t full none legal quiet = record { heard = refl; accepted = refl }
  rest-same (s ∷ list) t full none legal quiet =
      let parts = and_parts (may_say set conf t s.from s.message) (is_legal set conf (hears t s) list) legal in
      let kinds = nil-both (part_of item_in me s.from s.message) (kind_of item_in me list) (sym (kind-cons item_in me s list) ∙ quiet) in
      rest-step list t full none (λ u f n l. rest-same list u f n l kinds.1) s.from s.message parts.0 parts.1 kinds.0

  -- where the plan is through it stays where it is
  through-step : (list : List (Sent Msg)) (t : Talk) → is_full set t ≡ true → is_through t ≡ true →
      ((u : Talk) → is_full set u ≡ true → is_through u ≡ true → is_legal set conf u list ≡ true → IsSame u (fold hears u list)) →
      (from : ℕ) (m : Msg) → may_say set conf t from m ≡ true → is_legal set conf (hears_from t from m) list ≡ true → IsSame t (fold hears (hears_from t from m) list)
  through-step list t full through rest from (StateMsg s) may legal =
      let first = tells set conf t from s may in
      clash (is_full set t) full (not_full set t from first.member first.first)
  through-step list t full through rest from (GreenItem at a) may legal = clash (is_through t) through (due_parts set t from (Green at) may).1
  through-step list t full through rest from (RedItem a) may legal = clash (is_through t) through (due_parts set t from (Red a.id) may).1
  through-step list t full through rest from (Cpc id n) may legal =
      let same = rest (hears_from t from (Cpc id n)) full through legal in record { heard = same.heard; accepted = same.accepted }
  through-step list t full through rest from (ActionMsg a) may legal =
      let same = rest (hears_from t from (ActionMsg a)) full through legal in record { heard = same.heard; accepted = same.accepted }

  pub rest-through : (list : List (Sent Msg)) (t : Talk) → is_full set t ≡ true → is_through t ≡ true → is_legal set conf t list ≡ true → IsSame t (fold hears t list)
  rest-through [] t full through legal = record { heard = refl; accepted = refl }
  rest-through (s ∷ list) t full through legal =
      let parts = and_parts (may_say set conf t s.from s.message) (is_legal set conf (hears t s) list) legal in
      through-step list t full through (λ u f n l. rest-through list u f n l) s.from s.message parts.0 parts.1

  -- who announces nothing has announced nothing behind it
  pub lacks-step : (t : Talk) (from : ℕ) (m : Msg) → part_of announcer_in me from m ≡ [] → has t.announced me ≡ false → has (hears_from t from m).announced me ≡ false
  lacks-step t from (StateMsg s) quiet lacks = lacks
  lacks-step t from (GreenItem at a) quiet lacks = lacks
  lacks-step t from (RedItem a) quiet lacks = lacks
  lacks-step t from (ActionMsg a) quiet lacks = lacks
  lacks-step t from (Cpc id n) quiet lacks = ⊎_elim
      (λ mine. absurd (let some : id ∷ [] ≡ [] = sym (ap (λ b. if b then id ∷ [] else []) mine) ∙ quiet in cc))
      (λ other. has-with_member t.announced from me ∙ or_from (has t.announced me) (from == me) lacks other) (cases_Bool (from == me))

  pub rest-lacks : (list : List (Sent Msg)) (t : Talk) → kind_of announcer_in me list ≡ [] → has t.announced me ≡ false → has (fold hears t list).announced me ≡ false
  rest-lacks [] t quiet lacks = lacks
  rest-lacks (s ∷ list) t quiet lacks =
      let kinds = nil-both (part_of announcer_in me s.from s.message) (kind_of announcer_in me list) (sym (kind-cons announcer_in me s list) ∙ quiet) in
      rest-lacks list (hears t s) kinds.1 (lacks-step t s.from s.message kinds.0 lacks)

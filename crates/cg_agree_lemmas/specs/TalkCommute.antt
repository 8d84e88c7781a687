-- What two members say commutes: what one may say next it may still say once another has said what it may.
use Rattle.std.proofs.Common.{◌≡◌, ℕ, Bool, true, false, not, ◌&&◌, ◌||◌, List, [], ◌∷◌, ◌++◌, Option, Some, None, fold, map, refl, sym, ap, ◌∙◌, eqb-true, eq-eqb}
use Rattle.std.specs.Prelude.{◌==◌}
use Rattle.std.proofs.lemmas.Bool.{and_parts, and_from, false_from_ne_true, not-true, not_from_false, ne_eqb, or_from}
use Rattle.std.proofs.lemmas.List.Sums.{fold-append}
use Rattle.cg_base.specs.Sets.{has, with_member}
use Rattle.cg_base.specs.SetLaws.{has-with_member}
use Rattle.cg_base.specs.BoolLaws.{or_true}
use Rattle.cg_action.specs.declared.action.Action.{Action}
use Rattle.cg_knowledge.specs.declared.summary.Summary.{Summary}
use Rattle.cg_knowledge.specs.Summaries.{senders, remaining}
use Rattle.cg_knowledge.specs.Verdict.{decides}
use Rattle.cg_plan.specs.declared.parts.Item.{Item}
use Rattle.cg_plan.specs.declared.parts.Item.TheVariants.{Green, Red}
use Rattle.cg_plan.specs.declared.parts.SentItem.{SentItem as PlanSent}
use Rattle.cg_plan.specs.contracts.parts.ItemPartialEq.TheImpl.{ghosts as same_item}
use Rattle.cg_plan.specs.Progress.{is_wanted, next_item}
use Rattle.cg_wire.specs.declared.message.Msg.{Msg}
use Rattle.cg_wire.specs.declared.message.Msg.TheVariants.{Action as ActionMsg, State as StateMsg, GreenItem, RedItem, Cpc}
use Rattle.cg_group.specs.State.{Sent}
use Rattle.cg_states.specs.ExchangeActions.{progress}
use Rattle.cg_model.specs.Looks.{sent_by}
use Rattle.cg_model.specs.Talk.{Talk, hears_from, hears, is_full, is_through, is_ended, is_announced, is_due, may_go_on, may_say, is_legal}
use Rattle.cg_agree_lemmas.specs.TalkEarly.{all-member, not_full, due_parts}
use Rattle.cg_disk_records.specs.RunLaws.{and-assoc}

-- two lists are legal where the first is, and the second behind it
pub legal-append : (set : List ℕ) (conf : ℕ) (xs ys : List (Sent Msg)) (t : Talk) →
    is_legal set conf t (xs ++ ys) ≡ (is_legal set conf t xs && is_legal set conf (fold hears t xs) ys)
legal-append set conf [] ys t = refl
legal-append set conf (s ∷ xs) ys t =
    ap (λ b. may_say set conf t s.from s.message && b) (legal-append set conf xs ys (hears t s))
    ∙ and-assoc (may_say set conf t s.from s.message) (is_legal set conf (hears t s) xs) (is_legal set conf (fold hears (hears t s) xs) ys)

-- ---- when a message may be said

pub record TellsFirst (set : List ℕ) (at : ℕ) (t : Talk) (from : ℕ) (s : Summary) : Type 0 where
  pub member : has set from ≡ true
  pub id : s.id ≡ from
  pub conf : s.conf ≡ at
  pub first : has (senders t.heard) from ≡ false

pub record GoesOn (set : List ℕ) (t : Talk) (from : ℕ) : Type 0 where
  pub full : is_full set t ≡ true
  pub through : is_through t ≡ true
  pub remains : has (remaining t.heard) from ≡ true

pub record Announces (set : List ℕ) (at : ℕ) (t : Talk) (from name of_conf : ℕ) : Type 0 where
  pub goes_on : GoesOn set t from
  pub id : name ≡ from
  pub conf : of_conf ≡ at
  pub decided : decides t.heard ≡ true
  pub first : has t.announced from ≡ false

pub record Acts (set : List ℕ) (t : Talk) (from : ℕ) (a : Action) : Type 0 where
  pub goes_on : GoesOn set t from
  pub creator : a.id.creator ≡ from
  pub announced : (not (decides t.heard) || is_announced t) ≡ true

module _ (set : List ℕ) (conf : ℕ) (t : Talk) (from : ℕ) where
  pub tells : (s : Summary) → may_say set conf t from (StateMsg s) ≡ true → TellsFirst set conf t from s
  tells s may =
      let outer = and_parts ((has set from && (s.id == from)) && (s.conf == conf)) (not (has (senders t.heard) from)) may in
      let inner = and_parts (has set from && (s.id == from)) (s.conf == conf) outer.0 in
      let two = and_parts (has set from) (s.id == from) inner.0 in
      record { member = two.0; id = eqb-true s.id from two.1; conf = eqb-true s.conf conf inner.1; first = not-true (has (senders t.heard) from) outer.1 }

  pub goes : may_go_on set t from ≡ true → GoesOn set t from
  goes on =
      let outer = and_parts (is_ended set t) (has (remaining t.heard) from) on in
      let inner = and_parts (is_full set t) (is_through t) outer.0 in
      record { full = inner.0; through = inner.1; remains = outer.1 }

  pub announces : (id at : ℕ) → may_say set conf t from (Cpc id at) ≡ true → Announces set conf t from id at
  announces id at may =
      let a = and_parts ((((id == from) && (at == conf)) && may_go_on set t from) && decides t.heard) (not (has t.announced from)) may in
      let b = and_parts (((id == from) && (at == conf)) && may_go_on set t from) (decides t.heard) a.0 in
      let c = and_parts ((id == from) && (at == conf)) (may_go_on set t from) b.0 in
      let d = and_parts (id == from) (at == conf) c.0 in
      record { goes_on = goes c.1; id = eqb-true id from d.0; conf = eqb-true at conf d.1; decided = b.1; first = not-true (has t.announced from) a.1 }

  pub acts : (a : Action) → may_say set conf t from (ActionMsg a) ≡ true → Acts set t from a
  acts a may =
      let outer = and_parts ((a.id.creator == from) && may_go_on set t from) (not (decides t.heard) || is_announced t) may in
      let inner = and_parts (a.id.creator == from) (may_go_on set t from) outer.0 in
      record { goes_on = goes inner.1; creator = eqb-true a.id.creator from inner.0; announced = outer.1 }

pub clash : {Z : Type 0} → (b : Bool) → b ≡ true → b ≡ false → Z
clash b is isnt = absurd (let both : true ≡ false = sym is ∙ isnt in cc)

-- an item is wanted of one member
pub wanted-one : (o : Option PlanSent) (p q : ℕ) (i j : Item) → is_wanted o p i ≡ true → is_wanted o q j ≡ true → p ≡ q
wanted-one None p q i j x y = absurd (let no : false ≡ true = x in cc)
wanted-one (Some s) p q i j x y =
    sym (eqb-true s.sender p (and_parts (s.sender == p) (same_item.eq s.item i) x).0) ∙ eqb-true s.sender q (and_parts (s.sender == q) (same_item.eq s.item j) y).0

-- ---- when nothing may be said

-- where all have told nobody tells again
pub tells-partly : (set : List ℕ) (conf : ℕ) (t : Talk) (q : ℕ) (s : Summary) → may_say set conf t q (StateMsg s) ≡ true → is_full set t ≡ false
tells-partly set conf t q s may = let told = tells set conf t q s may in not_full set t q told.member told.first

-- where an item of another member is due
pub none_beside_item : (set : List ℕ) (conf : ℕ) (t : Talk) (p q : ℕ) (i : Item) (m : Msg) → (p ≡ q → ⊥) → is_due set t p i ≡ true → may_say set conf t q m ≡ false
none_beside_item set conf t p q i m other due = false_from_ne_true (may_say set conf t q m) (no m) where
  parts : (is_full set t ≡ true) × (is_through t ≡ false)
  parts = due_parts set t p i due

  wanted : (j : Item) → is_due set t q j ≡ true → ⊥
  wanted j due' =
      let mine = (and_parts (is_full set t) (is_wanted (next_item (progress t.heard t.accepted)) p i) due).1 in
      let its = (and_parts (is_full set t) (is_wanted (next_item (progress t.heard t.accepted)) q j) due').1 in
      other (wanted-one (next_item (progress t.heard t.accepted)) p q i j mine its)

  no : (m : Msg) → may_say set conf t q m ≡ true → ⊥
  no (StateMsg s) may = clash (is_full set t) parts.0 (tells-partly set conf t q s may)
  no (GreenItem at a) may = wanted (Green at) may
  no (RedItem a) may = wanted (Red a.id) may
  no (Cpc id at) may = clash (is_through t) (announces set conf t q id at may).goes_on.through parts.1
  no (ActionMsg a) may = clash (is_through t) (acts set conf t q a may).goes_on.through parts.1

-- before all have told, by who has told
pub none_told : (set : List ℕ) (conf : ℕ) (t : Talk) (q : ℕ) (m : Msg) → is_full set t ≡ false → has (senders t.heard) q ≡ true → may_say set conf t q m ≡ false
none_told set conf t q m partly told = false_from_ne_true (may_say set conf t q m) (no m) where
  due : (i : Item) → is_due set t q i ≡ true → ⊥
  due i d = clash (is_full set t) (due_parts set t q i d).0 partly

  no : (m : Msg) → may_say set conf t q m ≡ true → ⊥
  no (StateMsg s) may = clash (has (senders t.heard) q) told (tells set conf t q s may).first
  no (GreenItem at a) may = due (Green at) may
  no (RedItem a) may = due (Red a.id) may
  no (Cpc id at) may = clash (is_full set t) (announces set conf t q id at may).goes_on.full partly
  no (ActionMsg a) may = clash (is_full set t) (acts set conf t q a may).goes_on.full partly

-- an action is said in an attempt once all that remain have announced it
pub act-announced : (set : List ℕ) (conf : ℕ) (t : Talk) (p q : ℕ) (a : Action) → has (remaining t.heard) p ≡ true → decides t.heard ≡ true →
    may_say set conf t q (ActionMsg a) ≡ true → has t.announced p ≡ true
act-announced set conf t p q a remains decided may =
    let said : (not (decides t.heard) || is_announced t) ≡ true = (acts set conf t q a may).announced in
    let all : is_announced t ≡ true = ap (λ b. not b || is_announced t) (sym decided) ∙ said in
    all-member (has t.announced) (remaining t.heard) p remains all

-- while another one that remains has announced nothing, by who has announced
pub none_announced : (set : List ℕ) (conf : ℕ) (t : Talk) (p q : ℕ) (m : Msg) → GoesOn set t p → decides t.heard ≡ true → has t.announced p ≡ false →
    has t.announced q ≡ true → may_say set conf t q m ≡ false
none_announced set conf t p q m goes_on decided lacks announced = false_from_ne_true (may_say set conf t q m) (no m) where
  due : (i : Item) → is_due set t q i ≡ true → ⊥
  due i d = clash (is_through t) goes_on.through (due_parts set t q i d).1

  no : (m : Msg) → may_say set conf t q m ≡ true → ⊥
  no (StateMsg s) may = clash (is_full set t) goes_on.full (tells-partly set conf t q s may)
  no (GreenItem at a) may = due (Green at) may
  no (RedItem a) may = due (Red a.id) may
  no (Cpc id at) may = clash (has t.announced q) announced (announces set conf t q id at may).first
  no (ActionMsg a) may = clash (has t.announced p) (act-announced set conf t p q a goes_on.remains decided may) lacks

-- ---- two members

-- how a set of senders grows
pub senders-more : (heard : List Summary) (s : Summary) → senders (heard ++ s ∷ []) ≡ with_member (senders heard) s.id
unfolding senders
senders-more heard s = fold-append (λ set (s : Summary). with_member set s.id) [] heard (s ∷ [])

pub told-other : (heard : List Summary) (s : Summary) (q : ℕ) → (s.id ≡ q → ⊥) → has (senders (heard ++ s ∷ [])) q ≡ has (senders heard) q
told-other heard s q other = ap (λ set. has set q) (senders-more heard s) ∙ has-with_member (senders heard) s.id q ∙ rw (ne_eqb s.id q other) (or-none (has (senders heard) q)) where
  or-none : (b : Bool) → (b || false) ≡ b
  or-none true = refl
  or-none false = refl

module _ (set : List ℕ) (conf : ℕ) where
  abbrev Legal : Talk → ℕ → List Msg → Type 0
  Legal t q u = is_legal set conf t (map (sent_by q) u) ≡ true

  -- where nothing may be said nothing is
  pub nothing : (t : Talk) (q : ℕ) → ((m : Msg) → may_say set conf t q m ≡ false) → (u : List Msg) → Legal t q u → u ≡ []
  nothing t q none [] legal = refl
  nothing t q none (m ∷ u) legal =
      clash (may_say set conf t q m) (and_parts (may_say set conf t q m) (is_legal set conf (hears_from t q m) (map (sent_by q) u)) legal).0 (none m)

  abbrev with_acts : Talk → List Action → Talk
  with_acts t acts = record t { acts = acts }

  -- what may be said doesn't depend on the actions that were
  acts-step : (from : ℕ) (list : List (Sent Msg)) (t : Talk) (acts : List Action) →
      ((u : Talk) (more : List Action) → is_legal set conf (with_acts u more) list ≡ is_legal set conf u list) → (m : Msg) →
      (may_say set conf (with_acts t acts) from m && is_legal set conf (hears_from (with_acts t acts) from m) list)
      ≡ (may_say set conf t from m && is_legal set conf (hears_from t from m) list)
  acts-step from list t acts rest (StateMsg x) = ap (λ b. may_say set conf t from (StateMsg x) && b) (rest (hears_from t from (StateMsg x)) acts)
  acts-step from list t acts rest (GreenItem n a) = ap (λ b. may_say set conf t from (GreenItem n a) && b) (rest (hears_from t from (GreenItem n a)) acts)
  acts-step from list t acts rest (RedItem a) = ap (λ b. may_say set conf t from (RedItem a) && b) (rest (hears_from t from (RedItem a)) acts)
  acts-step from list t acts rest (Cpc id n) = ap (λ b. may_say set conf t from (Cpc id n) && b) (rest (hears_from t from (Cpc id n)) acts)
  acts-step from list t acts rest (ActionMsg a) = ap (λ b. may_say set conf t from (ActionMsg a) && b) (rest (hears_from t from (ActionMsg a)) (acts ++ a ∷ []))

  pub legal-acts : (list : List (Sent Msg)) (t : Talk) (acts : List Action) → is_legal set conf (with_acts t acts) list ≡ is_legal set conf t list
  legal-acts [] t acts = refl
  legal-acts (s ∷ list) t acts = acts-step s.from list t acts (λ u more. legal-acts list u more) s.message

  -- what one may say it may still say once another one has told its summary
  commute-state : (t : Talk) (p q : ℕ) (s : Summary) (u : List Msg) → (p ≡ q → ⊥) → may_say set conf t p (StateMsg s) ≡ true → Legal t q u →
      Legal (hears_from t p (StateMsg s)) q u
  commute-state t p q s [] other may legal = refl
  commute-state t p q s (m ∷ u) other may legal = at m parts.0 parts.1 where
    mine : TellsFirst set conf t p s
    mine = tells set conf t p s may

    partly : is_full set t ≡ false
    partly = not_full set t p mine.member mine.first

    parts : (may_say set conf t q m ≡ true) × Legal (hears_from t q m) q u
    parts = and_parts (may_say set conf t q m) (is_legal set conf (hears_from t q m) (map (sent_by q) u)) legal

    due : {Z : Type 0} → (i : Item) → is_due set t q i ≡ true → Z
    due i d = clash (is_full set t) (due_parts set t q i d).0 partly

    at : (m : Msg) → may_say set conf t q m ≡ true → Legal (hears_from t q m) q u → Legal (hears_from t p (StateMsg s)) q (m ∷ u)
    at (StateMsg x) may' rest =
        let its = tells set conf t q x may' in
        let behind = hears_from t q (StateMsg x) in
        let lacks : has (senders behind.heard) p ≡ false = told-other t.heard x p (λ e. other (sym e ∙ its.id)) ∙ mine.first in
        let told : has (senders behind.heard) q ≡ true = ap (λ set. has set q) (senders-more t.heard x) ∙ has-with_member (senders t.heard) x.id q ∙ rw (its.id, eq-eqb q q refl) (or_true (has (senders t.heard) q)) in
        let over : u ≡ [] = nothing behind q (λ n. none_told set conf behind q n (not_full set behind p mine.member lacks) told) u rest in
        let still : has (senders (t.heard ++ s ∷ [])) q ≡ false = told-other t.heard s q (λ e. other (sym mine.id ∙ e)) ∙ its.first in
        rw over (and_from (((has set q && (x.id == q)) && (x.conf == conf)) && not (has (senders (t.heard ++ s ∷ [])) q)) true
        (and_from ((has set q && (x.id == q)) && (x.conf == conf)) (not (has (senders (t.heard ++ s ∷ [])) q))
        (and_from (has set q && (x.id == q)) (x.conf == conf) (and_from (has set q) (x.id == q) its.member (eq-eqb x.id q its.id)) (eq-eqb x.conf conf its.conf))
        (not_from_false (has (senders (t.heard ++ s ∷ [])) q) still)) refl)
    at (GreenItem n a) may' rest = due (Green n) may'
    at (RedItem a) may' rest = due (Red a.id) may'
    at (Cpc id n) may' rest = clash (is_full set t) (announces set conf t q id n may').goes_on.full partly
    at (ActionMsg a) may' rest = clash (is_full set t) (acts set conf t q a may').goes_on.full partly

  -- or has announced the attempt
  commute-cpc : (t : Talk) (p q id at : ℕ) (u : List Msg) → (p ≡ q → ⊥) → may_say set conf t p (Cpc id at) ≡ true → Legal t q u →
      Legal (hears_from t p (Cpc id at)) q u
  commute-cpc t p q id n [] other may legal = refl
  commute-cpc t p q id n (m ∷ u) other may legal = at m parts.0 parts.1 where
    mine : Announces set conf t p id n
    mine = announces set conf t p id n may

    parts : (may_say set conf t q m ≡ true) × Legal (hears_from t q m) q u
    parts = and_parts (may_say set conf t q m) (is_legal set conf (hears_from t q m) (map (sent_by q) u)) legal

    due : {Z : Type 0} → (i : Item) → is_due set t q i ≡ true → Z
    due i d = clash (is_through t) mine.goes_on.through (due_parts set t q i d).1

    at : (m : Msg) → may_say set conf t q m ≡ true → Legal (hears_from t q m) q u → Legal (hears_from t p (Cpc id n)) q (m ∷ u)
    at (StateMsg x) may' rest = clash (is_full set t) mine.goes_on.full (tells-partly set conf t q x may')
    at (GreenItem k a) may' rest = due (Green k) may'
    at (RedItem a) may' rest = due (Red a.id) may'
    at (Cpc i k) may' rest =
        let its = announces set conf t q i k may' in
        let behind = hears_from t q (Cpc i k) in
        let lacks : has (with_member t.announced q) p ≡ false = has-with_member t.announced q p ∙ or_from (has t.announced p) (q == p) mine.first (ne_eqb q p (λ e. other (sym e))) in
        let told : has (with_member t.announced q) q ≡ true = has-with_member t.announced q q ∙ rw (eq-eqb q q refl) (or_true (has t.announced q)) in
        let on : GoesOn set behind p = record { full = mine.goes_on.full; through = mine.goes_on.through; remains = mine.goes_on.remains } in
        let over : u ≡ [] = nothing behind q (λ x. none_announced set conf behind p q x on mine.decided lacks told) u rest in
        let still : has (with_member t.announced p) q ≡ false = has-with_member t.announced p q ∙ or_from (has t.announced q) (p == q) its.first (ne_eqb p q other) in
        let split = and_parts ((((i == q) && (k == conf)) && may_go_on set t q) && decides t.heard) (not (has t.announced q)) may' in
        rw over (and_from (((((i == q) && (k == conf)) && may_go_on set t q) && decides t.heard) && not (has (with_member t.announced p) q)) true
        (and_from ((((i == q) && (k == conf)) && may_go_on set t q) && decides t.heard) (not (has (with_member t.announced p) q)) split.0
        (not_from_false (has (with_member t.announced p) q) still)) refl)
    at (ActionMsg a) may' rest = clash (has t.announced p) (act-announced set conf t p q a mine.goes_on.remains mine.decided may') mine.first

  -- what one may say it may still say once another one has said what it may
  pub commute : (t : Talk) (p q : ℕ) (m : Msg) (u : List Msg) → (p ≡ q → ⊥) → may_say set conf t p m ≡ true → Legal t q u → Legal (hears_from t p m) q u
  commute t p q (StateMsg s) u other may legal = commute-state t p q s u other may legal
  commute t p q (GreenItem at a) u other may legal =
      rw (nothing t q (λ m. none_beside_item set conf t p q (Green at) m other may) u legal) refl
  commute t p q (RedItem a) u other may legal =
      rw (nothing t q (λ m. none_beside_item set conf t p q (Red a.id) m other may) u legal) refl
  commute t p q (Cpc id at) u other may legal = commute-cpc t p q id at u other may legal
  commute t p q (ActionMsg a) u other may legal = legal-acts (map (sent_by q) u) t (t.acts ++ a ∷ []) ∙ legal

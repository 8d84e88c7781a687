-- Who has announced an attempt has entered it, and an action where a quorum was shows an installation: both follow behind each small
-- step from what is due, from the states and from what these say of what is held, and for those who are out from before it.
use Rattle.std.proofs.Common.{◌⊎◌, ◌≡◌, ℕ, zero, suc, ◌≤◌, ◌<◌, Bool, true, false, cond, not, ◌&&◌, ◌||◌, List, [], ◌∷◌, ◌++◌, append-nil, length, length-append, take, map, filter, filter_map, Option, Some, None, IfSome, is_some, refl, sym, ap, ap₂, ◌∙◌, subst, inl, inr, arith, eqb-true, option_and_then}
use Rattle.std.specs.Prelude.{◌==◌, slice_get}
use Rattle.std.specs.Option.{option_map_or}
use Rattle.std.proofs.lemmas.Bool.{cases_Bool, and_parts, not-true, ne_eqb}
use Rattle.std.proofs.lemmas.List.Elements.{filter_map-append}
use Rattle.cg_base.specs.Sets.{has}
use Rattle.cg_base.specs.SetLaws.{has-without}
use Rattle.cg_action.specs.declared.action.Action.{Action}
use Rattle.cg_knowledge.specs.declared.summary.Summary.{Summary}
use Rattle.cg_knowledge.specs.Summaries.{senders, gone, remaining}
use Rattle.cg_knowledge.specs.Verdict.{decides}
use Rattle.cg_wire.specs.declared.message.Msg.{Msg}
use Rattle.cg_wire.specs.declared.message.Msg.TheVariants.{Action as ActionMsg, State as StateMsg, GreenItem, RedItem, Cpc}
use Rattle.cg_group.specs.declared.phase.Phase.{Phase}
use Rattle.cg_group.specs.declared.phase.Phase.TheVariants.{Down, Alone, Regular, Transitional}
use Rattle.cg_group.specs.State.{Sent, phase_of, is_regular, regular_in, delivered_to, unordered_of}
use Rattle.cg_client.specs.Replica.{Held, State, RegPrim, TransPrim, ExchangeStates, ExchangeActions, Construct, No, Un, NonPrim, Left, Replica}
use Rattle.cg_client.specs.Requests.{is_creating}
use Rattle.cg_model.specs.World.{Node, replica_of, running}
use Rattle.cg_model.specs.Chronicle.{Attempt, Chronicle}
use Rattle.cg_model.specs.Looks.{conf_at, is_regular_at, is_regular_in, members_in, ordered_in, placed_of, waiting_in, said_in, attempt_of, attempt_at}
use Rattle.cg_model.specs.Talk.{Talk, no_talk, talk_of, is_full, is_through, is_ended, is_announced, may_say, may_go_on, state_in, announcer_in, act_in}
use Rattle.cg_model.specs.Levels.{is_installed}
use Rattle.cg_model.specs.Fronts.{Front}
use Rattle.cg_model.specs.FactsNet.{PhaseSound, IsPhase}
use Rattle.cg_model.specs.FactsTalk.{TalkLegal, SentIffDue, ModeFits, IsStateIn, handed_talk, whole_talk}
use Rattle.cg_model.specs.FactsReplica.{is_attempting, is_primary, has_entered, HasModeData, IsInAttempt, IsCounted, IsModeData}
use Rattle.cg_model.specs.FactsAttempts.{AnnouncedEntered, ActInstalled, entered_in, installed_in}
use Rattle.cg_model.specs.Facts.{Invariant}
use Rattle.cg_model.specs.Small.{Small, small_step}
use Rattle.cg_model.specs.Smalls.{may_make}
use Rattle.cg_agree_lemmas.specs.SmallTalk.{conf-there}
use Rattle.cg_agree_lemmas.specs.HandNext.{legal-at}
use Rattle.cg_agree_lemmas.specs.HandsKept.{hosted}
use Rattle.cg_agree_lemmas.specs.HandsNow.{whole-through}
use Rattle.cg_agree_lemmas.specs.ReachSteps.{goes_on-kept}
use Rattle.cg_agree_lemmas.specs.AttemptsGrow.{attempts-grow}
use Rattle.cg_agree.proofs.AttemptSteps.{group-of}
use Rattle.cg_agree.proofs.LevelsOpen.{some-installed, installed-grows}
use Rattle.cg_agree.proofs.OutSaid.{said-out}
use Rattle.cg_group.specs.RefusalLaws.{regular-up}

abbrev is_deciding : State → Bool
is_deciding s = is_attempting s || is_primary s

-- ---- states behind the end of a plan

deciding-from : (set : List ℕ) (conf : ℕ) (t : Talk) (me : ℕ) → is_full set t ≡ true → is_through t ≡ true → has (gone t.heard) me ≡ false → decides t.heard ≡ true → is_deciding (state_in set conf t me) ≡ true
deciding-from set conf t me full through here decided = rw (full, through, here, decided) (last (is_announced t)) where
  last : (a : Bool) → is_deciding (cond a RegPrim (Construct conf t.announced)) ≡ true
  last true = refl
  last false = refl

creating-cases : (set : List ℕ) (conf : ℕ) (t : Talk) (me : ℕ) → is_creating (state_in set conf t me) ≡ true → (is_ended set t ≡ true) × ((is_primary (state_in set conf t me) ≡ true) ⊎ (decides t.heard ≡ false))
creating-cases set conf t me e = one (is_full set t) (is_through t) (has (gone t.heard) me) (decides t.heard) (is_announced t) e where
  one : (b d g n a : Bool) → is_creating (cond (not b) (ExchangeStates conf set t.heard) (cond (not d) (ExchangeActions conf t.heard t.accepted)
      (cond g Left (cond (not n) (NonPrim true) (cond a RegPrim (Construct conf t.announced)))))) ≡ true →
      ((b && d) ≡ true) × ((is_primary (cond (not b) (ExchangeStates conf set t.heard) (cond (not d) (ExchangeActions conf t.heard t.accepted)
      (cond g Left (cond (not n) (NonPrim true) (cond a RegPrim (Construct conf t.announced)))))) ≡ true) ⊎ (n ≡ false))
  one false d g n a e = absurd (let clash : false ≡ true = e in cc)
  one true false g n a e = absurd (let clash : false ≡ true = e in cc)
  one true true true n a e = absurd (let clash : false ≡ true = e in cc)
  one true true false false a e = (refl, inr refl)
  one true true false true true e = (refl, inl refl)
  one true true false true false e = absurd (let clash : false ≡ true = e in cc)

-- who remains hasn't left
remaining-here : (heard : List Summary) (p : ℕ) → has (remaining heard) p ≡ true → has (gone heard) p ≡ false
unfolding remaining
remaining-here heard p is = not-true (has (gone heard) p) (and_parts (has (senders heard) p) (not (has (gone heard) p)) (sym (has-without (senders heard) (gone heard) p) ∙ is)).1

-- ---- a regular member

-- there is an attempt in its configuration
attempt-there : (c : Chronicle) (h : Held) (conf : ℕ) (state : State) → is_deciding state ≡ true → HasModeData c h (Regular conf) state → attempt_of c conf ≡ None → ⊥
attempt-there c h conf RegPrim is data_of none = let clash : None ≡ Some (attempt_at c h.prim.index) = sym none ∙ data_of.0.opened in cc
attempt-there c h conf TransPrim is data_of none = let clash : None ≡ Some (attempt_at c h.prim.index) = sym none ∙ data_of.0.opened in cc
attempt-there c h conf (Construct at heard) is data_of none = subst (IsInAttempt h) none data_of
attempt-there c h conf (No at heard) is data_of none = subst (IsInAttempt h) none data_of
attempt-there c h conf Un is data_of none = subst (IsInAttempt h) none data_of
attempt-there c h conf (ExchangeStates at set heard) is data_of none = let clash : false ≡ true = is in cc
attempt-there c h conf (ExchangeActions at heard accepted) is data_of none = let clash : false ≡ true = is in cc
attempt-there c h conf (NonPrim regular) is data_of none = let clash : false ≡ true = is in cc
attempt-there c h conf Left is data_of none = let clash : false ≡ true = is in cc

-- a regular member, its replica and what is known of both
pub record RegularNow (c : Chronicle) (conf p : ℕ) : Type 0 where
  pub replica : Replica
  pub up : replica_of c.world p ≡ Some replica
  pub phase : phase_of c.world.group p ≡ Regular conf
  pub state : replica.state ≡ state_in (members_in c conf) conf (handed_talk c conf p) p
  pub mode : IsModeData c p replica

phase-is : (conf : ℕ) (phase : Phase) → is_regular_at conf phase ≡ true → phase ≡ Regular conf
phase-is conf Down e = absurd (let clash : false ≡ true = e in cc)
phase-is conf Alone e = absurd (let clash : false ≡ true = e in cc)
phase-is conf (Regular k) e = ap Regular (eqb-true k conf e)
phase-is conf (Transitional k set) e = absurd (let clash : false ≡ true = e in cc)

module _ (c : Chronicle) (sound : PhaseSound c) (says : SentIffDue c) (modes : ModeFits c) (data_of : (p : ℕ) → IfSome (replica_of c.world p) (IsModeData c p)) (conf p : ℕ) (some : 0 < conf) (regular : is_regular_in c conf p ≡ true) where
  now : RegularNow c conf p
  now =
      let phase = phase-is conf (phase_of c.world.group p) regular in
      let is_one : is_regular c.world.group p ≡ true = ap (λ x. not (regular_in x == 0)) phase ∙ ap not (ne_eqb conf 0 (λ e. absurd (omega arith))) in
      let sits = hosted c.world p (sound.up p ∙ regular-up c.world.group p is_one) in
      let up : replica_of c.world p ≡ Some sits.replica = ap (λ (o : Option Node). option_and_then (λ s. running s.life) o) sits.node in
      record {
        replica = sits.replica;
        up = up;
        phase = phase;
        state = subst (λ (x : Phase). IsStateIn c p x sits.replica) phase (subst (λ (o : Option Replica). IfSome o (IsStateIn c p (phase_of c.world.group p))) up (modes p));
        mode = subst (λ (o : Option Replica). IfSome o (IsModeData c p)) up (data_of p);
      }

  counted : is_deciding (state_in (members_in c conf) conf (handed_talk c conf p) p) ≡ true → (a : Attempt) × (attempt_of c conf ≡ Some a) × IsCounted a now.replica
  counted deciding = at (attempt_of c conf) refl (subst (λ (x : Phase). IfSome (attempt_of c (conf_at x)) (λ a. IsCounted a now.replica)) now.phase now.mode.counted) where
    at : (o : Option Attempt) → attempt_of c conf ≡ o → IfSome o (λ a. IsCounted a now.replica) → (a : Attempt) × (attempt_of c conf ≡ Some a) × IsCounted a now.replica
    at None e is = absurd (attempt-there c now.replica.held conf now.replica.state (ap is_deciding now.state ∙ deciding) (subst (λ (x : Phase). HasModeData c now.replica.held x now.replica.state) now.phase now.mode.data_of) e)
    at (Some a) e is = (a, e, is)

  -- who has announced has entered
  pub announced-regular : 0 < length (filter_map announcer_in (said_in c conf p)) → entered_in c conf p ≡ true
  announced-regular announced =
      let x = handed_talk c conf p in
      let set = members_in c conf in
      let due = ap (λ (xs : List ℕ). length xs) (says conf p regular).announcement in
      let test : (may_go_on set x p && decides x.heard) ≡ true = is_due (may_go_on set x p && decides x.heard) (omega (arith, due, announced)) in
      let parts = and_parts (may_go_on set x p) (decides x.heard) test in
      let on = and_parts (is_ended set x) (has (remaining x.heard) p) parts.0 in
      let ended = and_parts (is_full set x) (is_through x) on.0 in
      let here = not-gone x.heard on.1 in
      let deciding = deciding-from set conf x p ended.0 ended.1 here parts.1 in
      let there = counted deciding in
      ap (λ (o : Option Attempt). option_map_or (λ a. has_entered a p) o false) there.1
      ∙ ap (has there.0.entered) (sym now.mode.id) ∙ there.2.entered ∙ ap is_deciding now.state ∙ deciding
    where
      is_due : (b : Bool) → 0 < length (cond b (p ∷ []) []) → b ≡ true
      is_due true lt = refl
      is_due false lt = absurd (omega arith)

      not-gone : (heard : List Summary) → has (remaining heard) p ≡ true → has (gone heard) p ≡ false
      not-gone heard is = remaining-here heard p is

  -- and who has made an action, where a quorum was, has installed
  pub act-regular : TalkLegal c → decides (whole_talk c conf).heard ≡ true → 0 < length (filter_map act_in (said_in c conf p)) → installed_in c conf ≡ true
  act-regular legal decided acts =
      let x = handed_talk c conf p in
      let set = members_in c conf in
      let creating = is_there (is_creating (state_in set conf x p)) refl in
      let cases = creating-cases set conf x p creating in
      let same = whole-through c conf p (delivered_to c.world.group p) legal cases.0 in
      elim cases.1 [
        | inr fails ↦ absurd (let clash : true ≡ false = sym decided ∙ ap decides same.heard ∙ fails in cc)
        | inl primary ↦
            let deciding : is_deciding (state_in set conf x p) ≡ true = ap (λ b. is_attempting (state_in set conf x p) || b) primary ∙ or-true (is_attempting (state_in set conf x p)) in
            let there = counted deciding in
            let installed : has there.0.installed p ≡ true = ap (has there.0.installed) (sym now.mode.id) ∙ there.2.installed ∙ ap is_primary now.state ∙ primary in
            ap (λ (o : Option Attempt). option_map_or is_installed o false) there.1 ∙ some-installed there.0 p installed
      ]
    where
      or-true : (b : Bool) → (b || true) ≡ true
      or-true true = refl
      or-true false = refl

      is_there : (b : Bool) → is_creating (state_in (members_in c conf) conf (handed_talk c conf p) p) ≡ b → is_creating (state_in (members_in c conf) conf (handed_talk c conf p) p) ≡ true
      is_there true e = e
      is_there false e = absurd (let none = ap (λ (xs : List Action). length xs) ((says conf p regular).actions e) in omega (arith, none, acts))

-- ---- who is out

-- what one has said that isn't regular there has a place
out-placed : (c : Chronicle) (conf p : ℕ) → is_regular_in c conf p ≡ false → said_in c conf p ≡ placed_of p (ordered_in c conf)
out-placed c conf p out = ap (λ b. placed_of p (ordered_in c conf) ++ cond b (unordered_of c.world.group p) []) out ∙ append-nil (placed_of p (ordered_in c conf))

module _ {Y : Type 0} (f : Msg → Option Y) where
  -- what has a place was said
  placed-said : (c : Chronicle) (conf p : ℕ) → 0 < length (filter_map f (placed_of p (ordered_in c conf))) → 0 < length (filter_map f (said_in c conf p))
  placed-said c conf p lt =
      let e = ap (λ (xs : List Y). length xs) (filter_map-append f (placed_of p (ordered_in c conf)) (waiting_in c conf p)) in
      let both = length-append (filter_map f (placed_of p (ordered_in c conf))) (filter_map f (waiting_in c conf p)) in
      omega (arith, e, both, lt)

-- a regular member's configuration has a number
regular-number : (c : Chronicle) → PhaseSound c → (conf p : ℕ) → is_regular_in c conf p ≡ true → 0 < conf
regular-number c sound conf p regular =
    let phase = phase-is conf (phase_of c.world.group p) regular in
    let member = (subst (IsPhase c p (delivered_to c.world.group p)) phase (sound.phase p)).0 in
    (conf-there c.world.group conf p member).0

-- ---- each small step

pub announced_entered-kept : (c : Chronicle) (s : Small) → Invariant c → may_make c s ≡ true → PhaseSound (small_step c s) → SentIffDue (small_step c s) → ModeFits (small_step c s) →
    ((p : ℕ) → IfSome (replica_of (small_step c s).world p) (IsModeData (small_step c s) p)) → AnnouncedEntered (small_step c s)
announced_entered-kept c s i may sound says modes data_of conf p announced = elim (cases_Bool (is_regular_in (small_step c s) conf p)) [
  | inl regular ↦ announced-regular (small_step c s) sound says modes data_of conf p (regular-number (small_step c s) sound conf p regular) regular announced
  | inr out ↦
      let before : 0 < length (filter_map announcer_in (placed_of p (ordered_in c conf))) =
      subst (λ xs. 0 < length (filter_map announcer_in xs)) (out-placed (small_step c s) conf p out ∙ said-out c s i.net.hosted may (group-of c i) conf p out) announced in
      entered-on (attempt_of c conf) refl (i.attempt.announced_entered conf p (placed-said announcer_in c conf p before))
]
  where
    entered-on : (o : Option Attempt) → attempt_of c conf ≡ o → entered_in c conf p ≡ true → entered_in (small_step c s) conf p ≡ true
    entered-on None e is = absurd (let clash : false ≡ true = sym (ap (λ (o : Option Attempt). option_map_or (λ a. has_entered a p) o false) e) ∙ is in cc)
    entered-on (Some a) e is =
        let grown = (attempts-grow c s).still conf a e in
        let was : has a.entered p ≡ true = sym (ap (λ (o : Option Attempt). option_map_or (λ a. has_entered a p) o false) e) ∙ is in
        ap (λ (o : Option Attempt). option_map_or (λ a. has_entered a p) o false) grown.found ∙ grown.grown.entered p was

-- an action that has a place
pub record ActAt (list : List (Sent Msg)) : Type 0 where
  pub place : ℕ
  pub sent : Sent Msg
  pub found : slice_get list place ≡ Some sent
  pub act : is_some (act_in sent.message) ≡ true

act-later : (s : Sent Msg) (list : List (Sent Msg)) → ActAt list → ActAt (s ∷ list)
act-later s list at = record { place = suc at.place; sent = at.sent; found = at.found; act = at.act }

act-at : (list : List (Sent Msg)) (p : ℕ) → 0 < length (filter_map act_in (placed_of p list)) → ActAt list
act-at [] p lt = absurd (omega arith)
act-at (s ∷ list) p lt = elim (cases_Bool (is_some (act_in s.message))) [
  | inl act ↦ record { place = 0; sent = s; found = refl; act = act }
  | inr other ↦ act-later s list (act-at list p (elim (cases_Bool (s.from == p)) [
    | inl mine ↦ without (act_in s.message) refl other
        (subst (λ b. 0 < length (filter_map act_in (map (λ (s : Sent Msg). s.message) (cond b (s ∷ filter (λ (z : Sent Msg). z.from == p) list) (filter (λ (z : Sent Msg). z.from == p) list))))) mine lt)
    | inr apart ↦ subst (λ b. 0 < length (filter_map act_in (map (λ (s : Sent Msg). s.message) (cond b (s ∷ filter (λ (z : Sent Msg). z.from == p) list) (filter (λ (z : Sent Msg). z.from == p) list))))) apart lt
  ]))
]
  where
    skipped : act_in s.message ≡ None → length (filter_map act_in (s.message ∷ placed_of p list)) ≡ length (filter_map act_in (placed_of p list))
    skipped e = rw e refl

    without : (o : Option Action) → act_in s.message ≡ o → is_some (act_in s.message) ≡ false → 0 < length (filter_map act_in (s.message ∷ placed_of p list)) → 0 < length (filter_map act_in (placed_of p list))
    without (Some a) e none lt = absurd (let clash : true ≡ false = sym (ap is_some e) ∙ none in cc)
    without None e none lt = omega (arith, lt, skipped e)

place-some : {X : Type 0} (list : List X) (n : ℕ) (x : X) → slice_get list n ≡ Some x → 0 < length list
place-some [] n x e = absurd (let clash : None ≡ Some x = e in cc)
place-some (y ∷ list) n x e = omega arith

place-below : {X : Type 0} (list : List X) (n : ℕ) (x : X) → slice_get list n ≡ Some x → n ≤ length list
place-below [] n x e = absurd (let clash : None ≡ Some x = e in cc)
place-below (y ∷ list) zero x e = omega arith
place-below (y ∷ list) (suc n) x e = let le = place-below list n x e in omega arith

pub take-same : {X : Type 0} (xs ys : List X) (n : ℕ) → Front xs ys → n ≤ length xs → take n ys ≡ take n xs
take-same xs ys zero front le = refl
take-same [] ys (suc n) front le = absurd (omega arith)
take-same (x ∷ xs) [] (suc n) front le = absurd front
take-same (x ∷ xs) (y ∷ ys) (suc n) front le = ap₂ (λ z zs. z ∷ zs) (sym front.0) (take-same xs ys n front.1 (omega arith))

-- behind an action the plan is through
act-ended : (set : List ℕ) (conf : ℕ) (t : Talk) (from : ℕ) (m : Msg) → may_say set conf t from m ≡ true → is_some (act_in m) ≡ true → is_ended set t ≡ true
act-ended set conf t from (ActionMsg a) may act =
    let outer = and_parts ((a.id.creator == from) && may_go_on set t from) (not (decides t.heard) || is_announced t) may in
    let inner = and_parts (a.id.creator == from) (may_go_on set t from) outer.0 in
    (and_parts (is_ended set t) (has (remaining t.heard) from) inner.1).0
act-ended set conf t from (StateMsg s) may act = absurd (let clash : false ≡ true = act in cc)
act-ended set conf t from (GreenItem place a) may act = absurd (let clash : false ≡ true = act in cc)
act-ended set conf t from (RedItem a) may act = absurd (let clash : false ≡ true = act in cc)
act-ended set conf t from (Cpc id at) may act = absurd (let clash : false ≡ true = act in cc)

pub act_installed-kept : (c : Chronicle) (s : Small) → Invariant c → may_make c s ≡ true → PhaseSound (small_step c s) → TalkLegal (small_step c s) → SentIffDue (small_step c s) → ModeFits (small_step c s) →
    ((p : ℕ) → IfSome (replica_of (small_step c s).world p) (IsModeData (small_step c s) p)) → ActInstalled (small_step c s)
act_installed-kept c s i may sound legal says modes data_of conf p decided acts = elim (cases_Bool (is_regular_in (small_step c s) conf p)) [
  | inl regular ↦ act-regular (small_step c s) sound says modes data_of conf p (regular-number (small_step c s) sound conf p regular) regular legal decided acts
  | inr out ↦
      let before : 0 < length (filter_map act_in (placed_of p (ordered_in c conf))) =
      subst (λ xs. 0 < length (filter_map act_in xs)) (out-placed (small_step c s) conf p out ∙ said-out c s i.net.hosted may (group-of c i) conf p out) acts in
      out-installed before (act-at (ordered_in c conf) p before)
]
  where
    installed-on : (o : Option Attempt) → attempt_of c conf ≡ o → installed_in c conf ≡ true → installed_in (small_step c s) conf ≡ true
    installed-on None e is = absurd (let clash : false ≡ true = sym (ap (λ (o : Option Attempt). option_map_or is_installed o false) e) ∙ is in cc)
    installed-on (Some a) e is =
        let grown = (attempts-grow c s).still conf a e in
        let was : is_installed a ≡ true = sym (ap (λ (o : Option Attempt). option_map_or is_installed o false) e) ∙ is in
        ap (λ (o : Option Attempt). option_map_or is_installed o false) grown.found ∙ installed-grows a grown.now grown.grown was

    out-installed : 0 < length (filter_map act_in (placed_of p (ordered_in c conf))) → ActAt (ordered_in c conf) → installed_in (small_step c s) conf ≡ true
    out-installed before act =
        let list = ordered_in c conf in
        let said : 0 < length list = place-some list act.place act.sent act.found in
        let on = goes_on-kept conf c s i.net.phase_sound i.net.receipts_inside may said in
        let ended = act-ended (members_in c conf) conf (talk_of (take act.place list)) act.sent.from act.sent.message
        (legal-at (members_in c conf) conf no_talk list act.place act.sent (i.talk.talk_legal.ordered conf) act.found) act.act in
        let same = whole-through c conf p act.place i.talk.talk_legal ended in
        let front : take act.place (ordered_in (small_step c s) conf) ≡ take act.place list = take-same list (ordered_in (small_step c s) conf) act.place on.ordered (place-below list act.place act.sent act.found) in
        let then : is_ended (members_in (small_step c s) conf) (talk_of (take act.place (ordered_in (small_step c s) conf))) ≡ true =
        ap₂ (λ m xs. is_ended m (talk_of xs)) on.members front ∙ ended in
        let after = whole-through (small_step c s) conf p act.place legal then in
        let heard : (whole_talk (small_step c s) conf).heard ≡ (whole_talk c conf).heard = after.heard ∙ ap (λ xs. (talk_of xs).heard) front ∙ sym same.heard in
        installed-on (attempt_of c conf) refl (i.attempt.act_installed conf p (ap decides (sym heard) ∙ decided) (placed-said act_in c conf p before))

-- A parting leaves each member in a state that fits: in No only where it lacks an announcement of some member.
use Rattle.std.proofs.Common.{◌≡◌, ℕ, zero, suc, ◌+◌, ◌-◌, ◌<◌, ◌≤◌, Bool, true, false, not, ◌&&◌, ◌||◌, ◌⊎◌, inl, inr, List, [], ◌∷◌, Option, Some, None, IfSome, fold, take, length, refl, sym, ap, subst, ◌∙◌, ⊎_elim, arith, eqb-true, eq-eqb, is_some, option_and_then, if◌then◌else◌}
use Rattle.std.specs.Prelude.{◌==◌, slice_get}
use Rattle.std.specs.Option.{option_map_or}
use Rattle.std.specs.List.{list_all}
use Rattle.std.proofs.lemmas.Bool.{cases_Bool, cases_lt, cond-true, cond-false, and_parts, and_from, or_left, or_right, ne_eqb}
use Rattle.std.proofs.lemmas.Option.{slice_get_within}
use Rattle.cg_base.specs.Lists.{at_place, above_up_to}
use Rattle.cg_base.specs.Sets.{has, is_within, with_member}
use Rattle.cg_base.specs.SetLaws.{has-with_member}
use Rattle.cg_base.specs.MemberLaws.{list_all_in, has_count_up}
use Rattle.cg_knowledge.specs.Summaries.{gone, remaining}
use Rattle.cg_knowledge.specs.Verdict.{decides}
use Rattle.cg_wire.specs.declared.message.Msg.{Msg}
use Rattle.cg_wire.specs.declared.message.Msg.TheVariants.{Action as ActionMsg, State as StateMsg, GreenItem, RedItem, Cpc}
use Rattle.cg_group.specs.declared.phase.Phase.{Phase}
use Rattle.cg_group.specs.declared.phase.Phase.TheVariants.{Regular}
use Rattle.cg_group.specs.State.{Sent, Configuration, GroupState, phase_of, is_regular, regular_in, home, configuration, delivered_to, has_received}
use Rattle.cg_group.specs.Events.{deliveries_at}
use Rattle.cg_client.specs.Replica.{Held, State, RegPrim, TransPrim, ExchangeStates, ExchangeActions, Construct, No, Un, NonPrim, Left, Replica}
use Rattle.cg_client.specs.Turn.{Turn, begin}
use Rattle.cg_states.specs.Construct.{attempt_set}
use Rattle.cg_states.specs.ReplicaStep.{on_transitional, after_delivery as take_one}
use Rattle.cg_disk_records.specs.Crash.{Disk}
use Rattle.cg_model.specs.World.{Up, Node, node_of, replica_of, running}
use Rattle.cg_model.specs.Chronicle.{Chronicle}
use Rattle.cg_model.specs.Looks.{conf_of, members_in, ordered_in}
use Rattle.cg_model.specs.Levels.{announced_from, announced_at, lacks_announcement}
use Rattle.cg_model.specs.Talk.{Talk, no_talk, hears, hears_from, is_full, is_through, is_ended, is_announced, may_say, may_go_on, announcer_in, state_in}
use Rattle.cg_model.specs.FactsAttempts.{AttemptShape}
use Rattle.cg_model.specs.FactsNet.{PhaseSound}
use Rattle.cg_model.specs.FactsReplica.{HasModeData, IsModeData}
use Rattle.cg_model.specs.FactsTalk.{handed_talk, TalkLegal, IsTransitional, IsStateIn, TalkFacts}
use Rattle.cg_model.specs.Small.{Leaves, small_step, turning_as, leaving, take_parting}
use Rattle.cg_model.specs.Smalls.{may_make, implies, ascend_within, hold_received, hold_earlier}
use Rattle.cg_agree_lemmas.specs.CreatesTalk.{grows-all}
use Rattle.cg_agree_lemmas.specs.GroupKept.{leaving-regular}
use Rattle.cg_agree_lemmas.specs.HandNext.{legal-at}
use Rattle.cg_agree_lemmas.specs.HandsKept.{regular-phase, hosted, attempt-named}
use Rattle.cg_agree_lemmas.specs.PartingNo.{is_past, Waits, IsAnnouncement, alone-places, left-places, past-places, places-wait, places-heard}
use Rattle.cg_agree.proofs.TalkAlone.{replica-set}
use Rattle.cg_agree_lemmas.specs.TalkApart.{transitional-now}
use Rattle.cg_agree_lemmas.specs.TalkEarly.{all-member}
use Rattle.cg_agree.proofs.TalkQuiet.{parted, leaves-apart, talk-leaves}
use Rattle.cg_agree_lemmas.specs.TalkSame.{said-of}
use Rattle.cg_agree_lemmas.specs.PlacesBegin.{implied}
use Rattle.cg_group.specs.RefusalLaws.{regular-up}

-- ---- where an announcement stands

pub record StandsAt (base : ℕ) (xs : List (Sent Msg)) (q : ℕ) : Type 0 where
  pub index : ℕ
  pub sent : Sent Msg
  pub found : slice_get xs index ≡ Some sent
  pub from : sent.from ≡ q
  pub announces : is_some (announcer_in sent.message) ≡ true
  pub place : announced_from base xs q ≡ suc (base + index)

pub announced-there : (base : ℕ) (xs : List (Sent Msg)) (q : ℕ) → (announced_from base xs q ≡ 0) ⊎ StandsAt base xs q
announced-there base [] q = inl refl
announced-there base (s ∷ xs) q = ⊎_elim
    (λ y.
    let parts = and_parts (s.from == q) (is_some (announcer_in s.message)) y in
    inr (record {
      index = 0;
      sent = s;
      found = refl;
      from = eqb-true s.from q parts.0;
      announces = parts.1;
      place = cond-true ((s.from == q) && is_some (announcer_in s.message)) (suc base) (announced_from (suc base) xs q) y ∙ (let e : suc base ≡ suc (base + 0) = omega arith in e);
    }))
    (λ n.
    let skip = cond-false ((s.from == q) && is_some (announcer_in s.message)) (suc base) (announced_from (suc base) xs q) n in
    ⊎_elim (λ none. inl (skip ∙ none))
    (λ (there : StandsAt (suc base) xs q). inr (record {
      index = suc there.index;
      sent = there.sent;
      found = there.found;
      from = there.from;
      announces = there.announces;
      place = skip ∙ there.place ∙ (let e : suc (suc base + there.index) ≡ suc (base + suc there.index) = omega arith in e);
    }))
    (announced-there (suc base) xs q))
    (cases_Bool ((s.from == q) && is_some (announcer_in s.message)))

-- who announces among those handed is known to have announced
announced-handed : (set : List ℕ) (conf me : ℕ) (list : List (Sent Msg)) (t : Talk) (n k : ℕ) (s : Sent Msg) → slice_get list k ≡ Some s → k < n → is_some (announcer_in s.message) ≡ true →
    has (fold hears t (take n list)).announced s.from ≡ true
announced-handed set conf me [] t n k s e lt some = absurd (let clash : None ≡ Some s = e in cc)
announced-handed set conf me (x ∷ list) t zero k s e lt some = absurd (omega arith)
announced-handed set conf me (x ∷ list) t (suc n) zero s e lt some =
    let is : x ≡ s = (let same : Some x ≡ Some s = e in ap (λ (o : Option (Sent Msg)). option_map_or (λ y. y) o x) same) in
    grows-all set conf me (take n list) (hears t x) s.from (subst (λ y. has (hears t y).announced s.from ≡ true) (sym is) (by s.message some)) where
      by : (m : Msg) → is_some (announcer_in m) ≡ true → has (hears_from t s.from m).announced s.from ≡ true
      by (Cpc i j) some = has-with_member t.announced s.from s.from ∙ or_right (has t.announced s.from) (s.from == s.from) (eq-eqb s.from s.from refl)
      by (ActionMsg a) some = absurd (let clash : false ≡ true = some in cc)
      by (StateMsg y) some = absurd (let clash : false ≡ true = some in cc)
      by (GreenItem at a) some = absurd (let clash : false ≡ true = some in cc)
      by (RedItem a) some = absurd (let clash : false ≡ true = some in cc)
announced-handed set conf me (x ∷ list) t (suc n) (suc k) s e lt some = announced-handed set conf me list (hears t x) n k s e (omega arith) some

-- an announcement that may be said is its sender's, of the configuration
announcement-of : (set attempt : List ℕ) (conf : ℕ) (t : Talk) (s : Sent Msg) (q : ℕ) → may_say set conf t s.from s.message ≡ true → s.from ≡ q → is_some (announcer_in s.message) ≡ true → has attempt q ≡ true →
    IsAnnouncement conf attempt s q
announcement-of set attempt conf t s q may from some member = at s.message refl may some where
  at : (m : Msg) → s.message ≡ m → may_say set conf t s.from m ≡ true → is_some (announcer_in m) ≡ true → IsAnnouncement conf attempt s q
  at (Cpc i k) is may some =
      let one = and_parts ((((i == s.from) && (k == conf)) && may_go_on set t s.from) && decides t.heard) (not (has t.announced s.from)) may in
      let two = and_parts (((i == s.from) && (k == conf)) && may_go_on set t s.from) (decides t.heard) one.0 in
      let three = and_parts ((i == s.from) && (k == conf)) (may_go_on set t s.from) two.0 in
      let four = and_parts (i == s.from) (k == conf) three.0 in
      record { id = i; at = k; is = is; sender = from; own = eqb-true i s.from four.0 ∙ from; here = eqb-true k conf four.1; member = member }
  at (ActionMsg a) is may some = absurd (let clash : false ≡ true = some in cc)
  at (StateMsg y) is may some = absurd (let clash : false ≡ true = some in cc)
  at (GreenItem k a) is may some = absurd (let clash : false ≡ true = some in cc)
  at (RedItem a) is may some = absurd (let clash : false ≡ true = some in cc)

past-fits : (c : Chronicle) (conf p : ℕ) (h : Held) (state : State) → is_past state ≡ true → IsTransitional c conf p h state
past-fits c conf p h Un past = tt
past-fits c conf p h TransPrim past = tt
past-fits c conf p h RegPrim past = absurd (let clash : false ≡ true = past in cc)
past-fits c conf p h (ExchangeStates at set heard) past = absurd (let clash : false ≡ true = past in cc)
past-fits c conf p h (ExchangeActions at heard n) past = absurd (let clash : false ≡ true = past in cc)
past-fits c conf p h (Construct at heard) past = absurd (let clash : false ≡ true = past in cc)
past-fits c conf p h (No at heard) past = absurd (let clash : false ≡ true = past in cc)
past-fits c conf p h (NonPrim regular) past = absurd (let clash : false ≡ true = past in cc)
past-fits c conf p h Left past = absurd (let clash : false ≡ true = past in cc)

-- ---- the parting

pub record PartsAt (c : Chronicle) (p conf : ℕ) (r : Replica) (places : List ℕ) : Type 0 where
  pub regular : phase_of c.world.group p ≡ Regular conf
  pub holds : hold_received (conf_of c conf) p (delivered_to c.world.group p) places ≡ true
  pub state : r.state ≡ state_in (members_in c conf) conf (handed_talk c conf p) p
  pub attempt : is_ended (members_in c conf) (handed_talk c conf p) ≡ true → has (gone (handed_talk c conf p).heard) p ≡ false →
      decides (handed_talk c conf p).heard ≡ true → attempt_set r.held ≡ remaining (handed_talk c conf p).heard

module _ (c : Chronicle) (p conf : ℕ) (r : Replica) (places : List ℕ) (h : PartsAt c p conf r places) (legal : TalkLegal c) where
  abbrev set : List ℕ
  set = members_in c conf

  abbrev list : List (Sent Msg)
  list = ordered_in c conf

  abbrev n : ℕ
  n = delivered_to c.world.group p

  abbrev X : Talk
  X = handed_talk c conf p

  abbrev C : Configuration Msg
  C = conf_of c conf

  -- the turn behind the transitional configuration, and behind all places
  abbrev first : Turn
  first = on_transitional r.state (begin r)

  abbrev last : Turn
  last = fold take_one first (deliveries_at C places)

  abbrev Fits : Turn → Type 0
  Fits t = IsTransitional c conf p t.replica.held t.replica.state

  as-state : (t : Turn) (state : State) → t.replica.state ≡ state → IsTransitional c conf p t.replica.held state → IsTransitional c conf p t.replica.held t.replica.state
  as-state t state e is = subst (IsTransitional c conf p t.replica.held) (sym e) is

  -- what a member has received it has been handed, or is handed now
  pub covered : (q : ℕ) → lacks_announcement c conf p q ≡ false → (at : StandsAt 0 list q) → (has X.announced q ≡ true) ⊎ (has places (suc at.index) ≡ true)
  covered q lacks at =
      let place : announced_at c conf q ≡ suc at.index = at.place ∙ (let e : suc (0 + at.index) ≡ suc at.index = omega arith in e) in
      let got : has_received C p (suc at.index) ≡ true = received (announced_at c conf q) lacks place in
      let short : at.index < length list = slice_get_within list at.index at.sent at.found in
      ⊎_elim
      (λ (lt : at.index < n). inl (subst (λ x. has X.announced x ≡ true) at.from (announced-handed set conf p list no_talk n at.index at.sent at.found lt at.announces)))
      (λ (ge : n ≤ at.index). inr (implied (has_received C p (suc at.index)) (has places (suc at.index))
      (all-member (λ k. implies (has_received C p k) (has places k)) (above_up_to n (length list)) (suc at.index) (has_count_up (suc n) (length list - n) (suc at.index) (omega arith) (omega arith)) h.holds) got))
      (cases_lt at.index n) where
        received : (place : ℕ) → ((place == 0) || not (has_received C p place)) ≡ false → place ≡ suc at.index → has_received C p (suc at.index) ≡ true
        received place e is = got (has_received C p (suc at.index)) (subst (λ x. ((x == 0) || not (has_received C p x)) ≡ false) is e) where
          got : (b : Bool) → ((suc at.index == 0) || not b) ≡ false → b ≡ true
          got true e = refl
          got false e = absurd (let none : (suc at.index == 0) ≡ false = ne_eqb (suc at.index) 0 (λ z. omega arith) in let clash : true ≡ false = or-last (suc at.index == 0) ∙ e in cc) where
            or-last : (b : Bool) → true ≡ (b || true)
            or-last true = refl
            or-last false = refl

  -- in No all that were received are heard
  in-no : (all : List ℕ) → last.replica.state ≡ No conf all → attempt_set last.replica.held ≡ attempt_set r.held → ((q : ℕ) → has X.announced q ≡ true → has all q ≡ true) →
      ((heard : List ℕ) → (q : ℕ) → (place : ℕ) (s : Sent Msg) → has places place ≡ true → at_place list place ≡ Some s → IsAnnouncement conf (attempt_set r.held) s q → has all q ≡ true) →
      (q : ℕ) → has (attempt_set r.held) q ≡ true → (has all q || lacks_announcement c conf p q) ≡ true
  in-no all state same more heard q member = ⊎_elim
      (λ lacks. or_right (has all q) (lacks_announcement c conf p q) lacks)
      (λ received. or_left (has all q) (lacks_announcement c conf p q) (⊎_elim
      (λ none. absurd (let clash : true ≡ false = sym (ap (λ x. (x == 0) || not (has_received C p x)) none) ∙ received in cc))
      (λ (at : StandsAt 0 list q). ⊎_elim (λ before. more q before)
      (λ now. heard [] q (suc at.index) at.sent now at.found
      (announcement-of set (attempt_set r.held) conf (fold hears no_talk (take at.index list)) at.sent q (legal-at set conf no_talk list at.index at.sent (legal.ordered conf) at.found) at.from at.announces member))
      (covered q received at))
      (announced-there 0 list q)))
      (cases_Bool (lacks_announcement c conf p q))

  same-no : (a b : List ℕ) → No conf a ≡ No conf b → a ≡ b
  same-no a b e = ap heard-in e where
    heard-in : State → List ℕ
    heard-in (No at heard) = heard
    heard-in other = a

  -- an attempt is cut short
  cut-short : is_ended set X ≡ true → has (gone X.heard) p ≡ false → decides X.heard ≡ true → is_announced X ≡ false → first.replica.state ≡ No conf X.announced → first.replica.held ≡ r.held → Fits last
  cut-short ended stays decided few state held =
      let named : attempt_set r.held ≡ remaining X.heard = h.attempt ended stays decided in
      let begins : Waits conf (attempt_set r.held) X.announced first.replica = record {
        all = X.announced;
        state = state;
        same = ap attempt_set held;
        more = λ q is. is;
        few = ap (λ xs. is_within xs X.announced) named ∙ few;
      } in
      ⊎_elim
      (λ past. past-fits c conf p last.replica.held last.replica.state past)
      (λ (w : Waits conf (attempt_set r.held) X.announced last.replica).
      as-state last (No conf w.all) w.state (
        refl,
        ap (λ xs. is_within xs w.all) w.same ∙ w.few,
        ap (list_all (λ q. has w.all q || lacks_announcement c conf p q)) w.same
            ∙ list_all_in (λ q. has w.all q || lacks_announcement c conf p q) (attempt_set r.held) (in-no w.all w.state w.same w.more (λ none q place s there found is. also w q place s there found is begins)),
      ))
      (places-wait C conf (attempt_set r.held) X.announced places first (inr begins)) where
        also : (w : Waits conf (attempt_set r.held) X.announced last.replica) (q place : ℕ) (s : Sent Msg) → has places place ≡ true → at_place list place ≡ Some s → IsAnnouncement conf (attempt_set r.held) s q →
            Waits conf (attempt_set r.held) X.announced first.replica → has w.all q ≡ true
        also w q place s there found is begins = ⊎_elim
            (λ past. absurd (let clash : false ≡ true = sym (ap is_past w.state) ∙ past in cc))
            (λ (v : Waits conf (attempt_set r.held) (with_member X.announced q) last.replica).
            let one : v.all ≡ w.all = same-no v.all w.all (sym v.state ∙ w.state) in
            subst (λ xs. has xs q ≡ true) one (v.more q (has-with_member X.announced q q ∙ or_right (has X.announced q) (q == q) (eq-eqb q q refl))))
            (places-heard C conf (attempt_set r.held) X.announced places place q s first there found is (inr begins))

  pub parting-fits : Fits last
  unfolding on_transitional
  parting-fits = by (is_full set X) (is_through X) (has (gone X.heard) p) (decides X.heard) (is_announced X) refl refl refl refl refl where
    at : (full through left decided told : Bool) → is_full set X ≡ full → is_through X ≡ through → has (gone X.heard) p ≡ left → decides X.heard ≡ decided → is_announced X ≡ told →
        state_in set conf X p ≡ (if not full then ExchangeStates conf set X.heard else if not through then ExchangeActions conf X.heard X.accepted
        else if left then Left else if not decided then NonPrim true else if told then RegPrim else Construct conf X.announced)
    at full through left decided told a b x y z = rw (a, b, x, y, z) refl

    turned : (state : State) → r.state ≡ state → first ≡ on_transitional state (begin r)
    turned state e = ap (λ x. on_transitional x (begin r)) e

    alone : (state : State) → r.state ≡ state → (on_transitional state (begin r)).replica.state ≡ NonPrim false → Fits last
    alone state e is = as-state last (NonPrim false) (alone-places C places first (ap (λ (t : Turn). t.replica.state) (turned state e) ∙ is)) refl

    by : (full through left decided told : Bool) → is_full set X ≡ full → is_through X ≡ through → has (gone X.heard) p ≡ left → decides X.heard ≡ decided → is_announced X ≡ told → Fits last
    by false through left decided told a b x y z = alone (ExchangeStates conf set X.heard) (h.state ∙ at false through left decided told a b x y z) refl
    by true false left decided told a b x y z = alone (ExchangeActions conf X.heard X.accepted) (h.state ∙ at true false left decided told a b x y z) refl
    by true true true decided told a b x y z =
        let e = h.state ∙ at true true true decided told a b x y z in
        as-state last Left (left-places C places first (ap (λ (t : Turn). t.replica.state) (turned Left e) ∙ e)) tt
    by true true false false told a b x y z = alone (NonPrim true) (h.state ∙ at true true false false told a b x y z) refl
    by true true false true true a b x y z =
        let e = h.state ∙ at true true false true true a b x y z in
        past-fits c conf p last.replica.held last.replica.state (past-places C places first (ap (λ (t : Turn). is_past t.replica.state) (turned RegPrim e)))
    by true true false true false a b x y z =
        let e = h.state ∙ at true true false true false a b x y z in
        cut-short (and_from (is_full set X) (is_through X) a b) x y z (ap (λ (t : Turn). t.replica.state) (turned (Construct conf X.announced) e)) (ap (λ (t : Turn). t.replica.held) (turned (Construct conf X.announced) e))

-- ---- the small step

-- what a parting replica has received is among the places
holds-received : (c : Chronicle) (p : ℕ) (set : List ℕ) (own : ℕ) (places : List ℕ) → may_make c (Leaves p set own places) ≡ true →
    hold_received (home c.world.group p) p (delivered_to c.world.group p) places ≡ true
unfolding may_make
holds-received c p members own places may =
    let g = c.world.group in
    let c' = configuration g (regular_in (phase_of g p)) in
    let low = delivered_to g p in
    let one = and_parts (is_regular g p && ascend_within low (length c'.ordered) places && hold_received c' p low places) (hold_earlier c' low places) may in
    (and_parts (is_regular g p && ascend_within low (length c'.ordered) places) (hold_received c' p low places) one.0).1

parting-is : (g : GroupState Msg) (p : ℕ) (set places : List ℕ) (r : Replica) (conf : ℕ) → phase_of g p ≡ Regular conf →
    take_parting g p set places (begin r) ≡ fold take_one (on_transitional r.state (begin r)) (deliveries_at (configuration g conf) places)
unfolding take_one
parting-is g p members places r conf e = ap (λ k. fold take_one (on_transitional r.state (begin r)) (deliveries_at (configuration g k) places)) (ap regular_in e)

parted-replica : (c : Chronicle) (p : ℕ) (set : List ℕ) (own : ℕ) (places : List ℕ) (r : Replica) (disk : Disk) → node_of c.world p ≡ Some (record { id = p; life = Up r disk }) →
    replica_of (small_step c (Leaves p set own places)).world p ≡ Some (take_parting c.world.group p set places (begin r)).replica
unfolding small_step
parted-replica c p set own places r disk e =
    let u = take_parting c.world.group p set places (begin r) in
    ap (λ (o : Option Node). replica_of (option_map_or (λ s. turning_as (leaving c p set own) p (take_parting c.world.group p set places) s.life) o (leaving c p set own)).world p) e
    ∙ replica-set c.world p (Up u.replica disk) p ∙ cond-true (p == p) (Some u.replica) (replica_of c.world p) (eq-eqb p p refl)

pub talk-parts : (c : Chronicle) (p : ℕ) (set : List ℕ) (own : ℕ) (places : List ℕ) → PhaseSound c → ((q : ℕ) → IfSome (replica_of c.world q) (IsModeData c q)) → AttemptShape c →
    may_make c (Leaves p set own places) ≡ true → TalkFacts c → TalkFacts (small_step c (Leaves p set own places))
talk-parts c p set own places sound mode shape may old =
    let g = c.world.group in
    let regular = leaving-regular c p set own places may in
    let phase = regular-phase (phase_of g p) regular in
    let conf = phase.at in
    let sits = hosted c.world p (sound.up p ∙ regular-up g p regular) in
    let r = sits.replica in
    let runs : replica_of c.world p ≡ Some r = ap (option_and_then (λ (x : Node). running x.life)) sits.node in
    let all = subst (λ (o : Option Replica). IfSome o (IsModeData c p)) runs (mode p) in
    let data_of = subst (λ (x : Phase). HasModeData c r.held x r.state) phase.is all.data_of in
    let modes = subst (λ (o : Option Replica). IfSome o (IsStateIn c p (phase_of g p))) runs (old.mode_fits p) in
    let state = subst (λ (x : Phase). IsStateIn c p x r) phase.is modes in
    let at : PartsAt c p conf r places = record {
      regular = phase.is;
      holds = subst (λ k. hold_received (configuration g k) p (delivered_to g p) places ≡ true) (ap regular_in phase.is) (holds-received c p set own places may);
      state = state;
      attempt = attempt-named c p conf r (said-of c old) shape data_of state;
    } in
    let fits = parting-fits c p conf r places at old.talk_legal in
    let d = small_step c (Leaves p set own places) in
    let u = take_parting g p set places (begin r) in
    let apart = leaves-apart c p set own places sound may in
    let same : u ≡ fold take_one (on_transitional r.state (begin r)) (deliveries_at (conf_of c conf) places) = parting-is g p set places r conf phase.is in
    let now : IsTransitional c conf p u.replica.held u.replica.state = subst (λ (t : Turn). IsTransitional c conf p t.replica.held t.replica.state) (sym same) fits in
    talk-leaves c p set own places sound may
    (subst (λ (o : Option Replica). IfSome o (IsStateIn d p (parted c p set))) (sym (parted-replica c p set own places r sits.disk sits.node))
    (subst (λ k. IsTransitional d k p u.replica.held u.replica.state) (sym (ap regular_in phase.is)) (transitional-now c d p (parted c p set) apart conf u.replica.held u.replica.state now)))
    old

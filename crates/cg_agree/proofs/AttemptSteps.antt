-- What a small step does to the attempts: nothing; or a replica leaves one, begins one, or installs one.
use Rattle.std.proofs.Common.{◌≡◌, ℕ, zero, suc, ◌≤◌, ◌<◌, Bool, true, false, not, ◌&&◌, ◌||◌, List, [], ◌++◌, length, take, filter_map, length-append, option_map, Option, Some, None, IfSome, refl, sym, ap, ◌∙◌, subst, inl, inr, arith, eq-eqb, eqb-true, if◌then◌else◌}
use Rattle.std.specs.Prelude.{◌==◌, option_and_then}
use Rattle.std.specs.Option.{option_map_or}
use Rattle.std.proofs.lemmas.Bool.{cond-true, and_parts}
use Rattle.std.proofs.lemmas.List.Elements.{filter_map-append}
use Rattle.cg_base.specs.Sets.{has}
use Rattle.cg_base.specs.Lists.{at_place}
use Rattle.cg_base.specs.FindLaws.{found_passes}
use Rattle.cg_action.specs.declared.action.Action.{Action}
use Rattle.cg_knowledge.specs.declared.summary.Summary.{Summary}
use Rattle.cg_knowledge.specs.Summaries.{senders, gone, remaining}
use Rattle.cg_knowledge.specs.Verdict.{decides}
use Rattle.cg_group.specs.declared.phase.Phase.{Phase}
use Rattle.cg_group.specs.declared.phase.Phase.TheVariants.{Regular}
use Rattle.cg_group.specs.State.{phase_of, regular_in, delivered_to, configuration, home}
use Rattle.cg_client.specs.Replica.{Held, State, RegPrim, TransPrim, ExchangeStates, ExchangeActions, Construct, No, Un, NonPrim, Left, Replica}
use Rattle.cg_client.specs.Turn.{Turn, begin}
use Rattle.cg_client.specs.Requests.{settle}
use Rattle.cg_disk_records.specs.Crash.{Disk}
use Rattle.cg_model.specs.World.{NodeState, Up, Down, Node, node_of, replica_of, running, is_left}
use Rattle.cg_model.specs.Chronicle.{Past, Attempt, Chronicle}
use Rattle.cg_model.specs.Looks.{past_of, greens_of, stood_of, core_of, conf_at, is_regular_at, members_in, ordered_in, said_in, placed_of, waiting_in, conf_of, attempt_of, received_by_all, snapshot_of}
use Rattle.cg_model.specs.Talk.{Talk, is_full, is_through, is_ended, is_announced, act_in, state_in}
use Rattle.cg_model.specs.Levels.{announced_at, is_installed}
use Rattle.cg_model.specs.FactsTalk.{handed_talk, whole_talk, IsStateIn}
use Rattle.cg_model.specs.FactsNet.{IsPhase}
use Rattle.cg_model.specs.FactsReplica.{is_attempting, is_primary, own_record, HasModeData, IsInAttempt, IsModeData, is_exchanging}
use Rattle.cg_model.specs.FactsAttempts.{IsAttempt, installed_in}
use Rattle.cg_model.specs.Facts.{Invariant}
use Rattle.cg_model.specs.Small.{Small, Starts, Makes, Enters, Orders, Receives, Hands, Leaves, Asks, Settles, Commits, Crashes, Recovers, Copies, Joins, turning, newly_green, struck, changed_attempt, with_leaver, entering, installing, opened_by, attempts_behind, levels_behind, coming, take_newest, handed_next, take_next, leaving, take_parting, take_request, commit_as, crash_as, recover_as, copy_as, join_with, newest_conf, small_step}
use Rattle.cg_model.specs.Smalls.{may_make, is_running}
use Rattle.cg_agree_lemmas.specs.CoresKept.{greens-turn, past-here}
use Rattle.cg_agree_lemmas.specs.OneselfWorld.{HavePasts}
use Rattle.cg_agree_lemmas.specs.ChronicleFacts.{node_of-set}
use Rattle.cg_model.specs.Attempts.{held_in}
use Rattle.cg_agree_lemmas.specs.HandSays.{remains-unless_gone}
use Rattle.cg_agree_lemmas.specs.EndCases.{take-short}
use Rattle.cg_agree_lemmas.specs.ConfSound.{by_all}
use Rattle.cg_agree_lemmas.specs.TalkEarly.{all-member}
use Rattle.cg_agree_lemmas.specs.FrontFacts.{Front-take}
use Rattle.cg_agree_lemmas.specs.Announced.{announced-front, announced-within, announced-place, placed-some}
use Rattle.cg_agree_lemmas.specs.AttemptsTurn.{ends-exchanging, ends-beside, quiet-neither, decided-neither, come-neither, neither-attempts, neither-levels, attempted-attempts, attempted-levels, installed-attempts, installed-levels}
use Rattle.cg_agree_lemmas.specs.TurnKinds.{IsQuiet, HasInstalled, HasAttempted, new_record, Turned, Quiet, Installs, Decides, Attempts}
use Rattle.cg_agree_lemmas.specs.TurnParts.{settle-quiet, request-quiet, newest-come}
use Rattle.cg_agree_lemmas.specs.PartingActs.{IsActAt, PartedBy, parting-by}
use Rattle.cg_agree_lemmas.specs.HandsKept.{regular-phase, Sits, hosted}
use Rattle.cg_agree_lemmas.specs.HandsNow.{HandsNow, hands-now, new, hands-regular, set, behind, count, hand-turned, hand-state, running-now, whole-through}
use Rattle.cg_agree_lemmas.specs.GroupSound.{GroupSound, sound-of}
use Rattle.cg_agree_lemmas.specs.GroupKept.{handed_received-kept, leaving-regular}
use Rattle.cg_agree_lemmas.specs.OneSteps.{hands-step}
use Rattle.cg_agree.proofs.PastKept.{enters-now}
use Rattle.cg_agree_lemmas.specs.PlanEnd.{AtPlanEnd, is_behind, plan-end}
use Rattle.cg_agree_lemmas.specs.RecordKept.{turn-is}
use Rattle.cg_group.specs.RefusalLaws.{regular-up}

-- the group of a chronicle is sound
pub group-of : (c : Chronicle) → Invariant c → GroupSound c
group-of c i = sound-of c i.net.phase_sound i.net.receipts_inside i.net.sender_closed i.net.handed_received

-- ---- a member that is about to install

-- each member of the attempt has announced, at a place that all have received; or somebody has installed it before
pub data WhyInstalled (c : Chronicle) (a : Attempt) : Type 0 where
  AllAnnounced : (each : (q : ℕ) → has a.set q ≡ true → (0 < announced_at c a.conf q) × (announced_at c a.conf q ≤ received_by_all c a.conf)) → WhyInstalled c a
  Before : (installed : is_installed a ≡ true) → WhyInstalled c a

-- a regular member of an attempt installs it
pub record Installing (c : Chronicle) (p : ℕ) (r : Replica) : Type 0 where
  pub conf : ℕ
  pub regular : phase_of c.world.group p ≡ Regular conf
  pub up : replica_of c.world p ≡ Some r
  pub id : r.held.id ≡ p
  pub a : Attempt
  pub found : attempt_of c conf ≡ Some a
  pub mine : r.held.vulnerable ≡ Some (own_record a p)
  pub index : r.held.prim.index ≡ a.from
  pub member : has a.set p ≡ true
  pub why : WhyInstalled c a

-- the attempt of a member that is attempting in its regular phase
attempting-data : (c : Chronicle) (conf : ℕ) (h : Held) (state : State) → is_attempting state ≡ true → HasModeData c h (Regular conf) state → IsInAttempt h (attempt_of c conf)
attempting-data c conf h (Construct at heard) is data_of = data_of
attempting-data c conf h (No at heard) is data_of = data_of
attempting-data c conf h Un is data_of = data_of
attempting-data c conf h RegPrim is data_of = absurd (let clash : false ≡ true = is in cc)
attempting-data c conf h TransPrim is data_of = absurd (let clash : false ≡ true = is in cc)
attempting-data c conf h (ExchangeStates at set' heard) is data_of = absurd (let clash : false ≡ true = is in cc)
attempting-data c conf h (ExchangeActions at heard accepted) is data_of = absurd (let clash : false ≡ true = is in cc)
attempting-data c conf h (NonPrim regular) is data_of = absurd (let clash : false ≡ true = is in cc)
attempting-data c conf h Left is data_of = absurd (let clash : false ≡ true = is in cc)

abbrev Choice : Bool → State → State → State
Choice b x y = if b then x else y

-- a state of an attempt or of a primary component comes behind the end of a plan, with a quorum, at a member that remains
abbrev is_deciding : State → Bool
is_deciding s = is_attempting s || is_primary s

deciding-parts : (set : List ℕ) (conf : ℕ) (t : Talk) (me : ℕ) → is_deciding (state_in set conf t me) ≡ true →
    (is_ended set t ≡ true) × (has (gone t.heard) me ≡ false)
deciding-parts set conf t me e = one (is_full set t) (is_through t) (has (gone t.heard) me) e where
  two : (g : Bool) → is_deciding (Choice g Left (Choice (not (decides t.heard)) (NonPrim true) (Choice (is_announced t) RegPrim (Construct conf t.announced)))) ≡ true → g ≡ false
  two true e = absurd (let clash : false ≡ true = e in cc)
  two false e = refl

  one : (b d g : Bool) → is_deciding (Choice (not b) (ExchangeStates conf set t.heard) (Choice (not d) (ExchangeActions conf t.heard t.accepted)
      (Choice g Left (Choice (not (decides t.heard)) (NonPrim true) (Choice (is_announced t) RegPrim (Construct conf t.announced)))))) ≡ true → ((b && d) ≡ true) × (g ≡ false)
  one false d g e = absurd (let clash : false ≡ true = e in cc)
  one true false g e = absurd (let clash : false ≡ true = e in cc)
  one true true g e = (refl, two g e)

-- of a primary component: all that remain have announced
pub primary-announced : (set : List ℕ) (conf : ℕ) (t : Talk) (me : ℕ) → is_primary (state_in set conf t me) ≡ true → is_announced t ≡ true
primary-announced set conf t me e = one (is_full set t) (is_through t) (has (gone t.heard) me) (not (decides t.heard)) (is_announced t) e where
  one : (b d g n a : Bool) → is_primary (Choice (not b) (ExchangeStates conf set t.heard) (Choice (not d) (ExchangeActions conf t.heard t.accepted)
      (Choice g Left (Choice n (NonPrim true) (Choice a RegPrim (Construct conf t.announced)))))) ≡ true → a ≡ true
  one false d g n a e = absurd (let clash : false ≡ true = e in cc)
  one true false g n a e = absurd (let clash : false ≡ true = e in cc)
  one true true true n a e = absurd (let clash : false ≡ true = e in cc)
  one true true false true a e = absurd (let clash : false ≡ true = e in cc)
  one true true false false true e = refl
  one true true false false false e = absurd (let clash : false ≡ true = e in cc)

-- what is known of a member that is attempting in its regular phase
module _ (c : Chronicle) (i : Invariant c) (p conf : ℕ) (r : Replica) (regular : phase_of c.world.group p ≡ Regular conf) (up : replica_of c.world p ≡ Some r)
    (attempting : is_attempting r.state ≡ true) where
  own-data : IsModeData c p r
  own-data = subst (λ (o : Option Replica). IfSome o (IsModeData c p)) up (i.replica.mode_data p)

  in-attempt : IsInAttempt r.held (attempt_of c conf)
  in-attempt = attempting-data c conf r.held r.state attempting (subst (λ (x : Phase). HasModeData c r.held x r.state) regular own-data.data_of)

  pub record Attempting : Type 0 where
    pub a : Attempt
    pub found : attempt_of c conf ≡ Some a
    pub mine : r.held.vulnerable ≡ Some (own_record a p)
    pub index : r.held.prim.index ≡ a.from
    pub own : r.held.own ≡ []
    pub shape : IsAttempt c conf a
    pub conf_is : a.conf ≡ conf
    pub member : has a.set p ≡ true

  pub attempting-now : Attempting
  attempting-now = at (attempt_of c conf) refl in-attempt (i.attempt.attempt_shape conf) where
    state : r.state ≡ state_in (members_in c conf) conf (handed_talk c conf p) p
    state = subst (λ (x : Phase). IsStateIn c p x r) regular (subst (λ (o : Option Replica). IfSome o (IsStateIn c p (phase_of c.world.group p))) up (i.talk.mode_fits p))

    remains : has (remaining (whole_talk c conf).heard) p ≡ true
    remains =
        let x = handed_talk c conf p in
        let parts = deciding-parts (members_in c conf) conf x p (ap (λ (s : State). is_deciding s) (sym state) ∙ ap (λ b. b || is_primary r.state) attempting) in
        let same = whole-through c conf p (delivered_to c.world.group p) i.talk.talk_legal parts.0 in
        let phase = subst (λ (x : Phase). IsPhase c p (delivered_to c.world.group p) x) regular (i.net.phase_sound.phase p) in
        let told = all-member (has (senders x.heard)) (members_in c conf) p phase.0 (and_parts (is_full (members_in c conf) x) (is_through x) parts.0).0 in
        ap (λ l. has (remaining l) p) same.heard ∙ remains-unless_gone x.heard p told ∙ ap not parts.1

    at : (o : Option Attempt) → attempt_of c conf ≡ o → IsInAttempt r.held o → IfSome o (IsAttempt c conf) → Attempting
    at None e data_of shape = absurd data_of
    at (Some a) e data_of shape = record {
      a = a;
      found = e;
      mine = data_of.0 ∙ ap (λ n. Some (own_record a n)) own-data.id;
      index = data_of.1;
      own = data_of.2;
      shape = shape;
      conf_is = eqb-true a.conf conf (found_passes (λ (a : Attempt). a.conf == conf) c.attempts a e);
      member = ap (λ l. has l p) shape.parts.set ∙ remains;
    }

-- ---- by the last announcement

module _ (c : Chronicle) (i : Invariant c) (p : ℕ) (may : may_make c (Hands p) ≡ true) (n : HandsNow c p) (done : HasInstalled n.replica (new c p i n)) where
  now : Attempting c i p n.conf n.replica n.regular (running-now c p i n) done.before
  now = attempting-now c i p n.conf n.replica n.regular (running-now c p i n) done.before

  -- the place that is handed was received by all
  received : suc (delivered_to c.world.group p) ≤ received_by_all c n.conf
  received =
      let step = hands-step c p i.net.phase_sound (hands-regular c p may) in
      let d = small_step c (Hands p) in
      let kept = handed_received-kept c (Hands p) i.net.hosted may (group-of c i) n.conf p
      (ap (is_regular_at n.conf) (step.stands.phase p ∙ cond-true (p == p) (phase_of c.world.group p) (phase_of c.world.group p) (eq-eqb p p refl) ∙ n.regular) ∙ eq-eqb n.conf n.conf refl) in
      let count_is : delivered_to d.world.group p ≡ suc (delivered_to c.world.group p) = step.stands.delivered p ∙ cond-true (p == p) (suc (delivered_to c.world.group p)) (delivered_to c.world.group p) (eq-eqb p p refl) in
      subst (λ k. k ≤ received_by_all c n.conf) count_is (subst (λ x. delivered_to d.world.group p ≤ by_all x) (step.stands.conf n.conf) kept)

  each : (q : ℕ) → has now.a.set q ≡ true → (0 < announced_at c now.a.conf q) × (announced_at c now.a.conf q ≤ received_by_all c now.a.conf)
  each q member =
      let state = hand-state c p i n in
      let parts = deciding-parts (set c p i n) n.conf (behind c p i n) p (or-right (is_attempting (state_in (set c p i n) n.conf (behind c p i n) p)) (ap is_primary (sym state) ∙ done.after)) in
      let all = primary-announced (set c p i n) n.conf (behind c p i n) p (ap is_primary (sym state) ∙ done.after) in
      let same = whole-through c n.conf p (suc (count c p i n)) i.talk.talk_legal parts.0 in
      let listed : has (remaining (behind c p i n).heard) q ≡ true = ap (λ l. has l q) (sym (now.shape.parts.set ∙ ap remaining same.heard)) ∙ member in
      let heard = all-member (has (behind c p i n).announced) (remaining (behind c p i n).heard) q listed all in
      let front = Front-take (suc (count c p i n)) (ordered_in c n.conf) in
      let place = announced-place (take (suc (count c p i n)) (ordered_in c n.conf)) q heard in
      let is = announced-front (take (suc (count c p i n)) (ordered_in c n.conf)) (ordered_in c n.conf) q front place in
      let within = announced-within (take (suc (count c p i n)) (ordered_in c n.conf)) q in
      let short = take-short (suc (count c p i n)) (ordered_in c n.conf) in
      let got = received in
      subst (λ k. (0 < announced_at c k q) × (announced_at c k q ≤ received_by_all c k)) (sym now.conf_is)
      ((omega (arith, is, place)), (omega (arith, is, within, short, got)))
    where
      or-right : (b : Bool) {d : Bool} → d ≡ true → (b || d) ≡ true
      or-right true e = refl
      or-right false e = e

  pub hands-installing : Installing c p n.replica
  hands-installing = record {
    conf = n.conf;
    regular = n.regular;
    up = running-now c p i n;
    id = n.data_of.id;
    a = now.a;
    found = now.found;
    mine = now.mine;
    index = now.index;
    member = now.member;
    why = AllAnnounced each;
  }

-- ---- by an action that shows it

-- an action that was said where an attempt is shows that somebody has installed it
pub act-shows : (c : Chronicle) (i : Invariant c) (conf : ℕ) (a : Attempt) → attempt_of c conf ≡ Some a → IsActAt (conf_of c conf) → is_installed a ≡ true
act-shows c i conf a e act =
    let shape = subst (λ (o : Option Attempt). IfSome o (IsAttempt c conf)) e (i.attempt.attempt_shape conf) in
    let placed = at act.place act.found in
    let shown : installed_in c conf ≡ true = i.attempt.act_installed conf act.sent.from shape.decided (more placed) in
    sym (ap (λ (o : Option Attempt). option_map_or is_installed o false) e) ∙ shown
  where
    at : (place : ℕ) → at_place (ordered_in c conf) place ≡ Some act.sent → 0 < length (filter_map act_in (placed_of act.sent.from (ordered_in c conf)))
    at zero found = absurd (let clash : None ≡ Some act.sent = found in cc)
    at (suc n) found = placed-some act_in (ordered_in c conf) n act.sent found act.act

    more : 0 < length (filter_map act_in (placed_of act.sent.from (ordered_in c conf))) → 0 < length (filter_map act_in (said_in c conf act.sent.from))
    more lt =
        let e = ap (λ xs. length xs) (filter_map-append act_in (placed_of act.sent.from (ordered_in c conf)) (waiting_in c conf act.sent.from)) in
        let both = length-append (filter_map act_in (placed_of act.sent.from (ordered_in c conf))) (filter_map act_in (waiting_in c conf act.sent.from)) in
        omega (arith, e, both, lt)

module _ (c : Chronicle) (i : Invariant c) (p : ℕ) (set' : List ℕ) (own : ℕ) (places : List ℕ) (may : may_make c (Leaves p set' own places) ≡ true)
    (r new' : Replica) (up : replica_of c.world p ≡ Some r) (done : HasInstalled r new') (act : IsActAt (home c.world.group p)) where
  pub leaves-installing : Installing c p r
  leaves-installing =
      let phase = regular-phase (phase_of c.world.group p) (leaving-regular c p set' own places may) in
      let now = attempting-now c i p phase.at r phase.is up done.before in
      let here : home c.world.group p ≡ conf_of c phase.at = ap (λ x. configuration c.world.group (regular_in x)) phase.is in
      record {
        conf = phase.at;
        regular = phase.is;
        up = up;
        id = (own-data c i p phase.at r phase.is up done.before).id;
        a = now.a;
        found = now.found;
        mine = now.mine;
        index = now.index;
        member = now.member;
        why = Before (act-shows c i phase.at now.a now.found (subst IsActAt here act));
      }

-- ---- all small steps

-- a place is handed to a member, which has these greens then
pub record IsHanded (c d : Chronicle) (p : ℕ) (greens : List Action) : Type 0 where
  pub step : d ≡ small_step c (Hands p)
  pub may : may_make c (Hands p) ≡ true
  pub all : greens ≡ greens_of d p
  pub exchanging : IfSome (replica_of c.world p) (λ r. is_exchanging r.state ≡ true)

pub data AttemptStep (c : Chronicle) (d : Chronicle) : Type 0 where
  -- nothing
  Same : (attempts : d.attempts ≡ c.attempts) (levels : d.levels ≡ c.levels) → AttemptStep c d
  -- a replica leaves its configuration
  Goes : (p n : ℕ) (attempts : d.attempts ≡ changed_attempt (with_leaver p n) (conf_at (phase_of c.world.group p)) c.attempts) (levels : d.levels ≡ c.levels)
      (low : n ≤ length (greens_of d p)) → AttemptStep c d
  -- a plan is through at a member, and it begins an attempt
  Begun : (p conf : ℕ) (heard : List Summary) (r new : Replica) (end : AtPlanEnd c p r conf heard) (id : r.held.id ≡ p) (begun : HasAttempted conf heard r new)
      (up : replica_of c.world p ≡ Some r) (greens : List Action)
      (attempts : d.attempts ≡ entering greens new.held c.attempts (Some (new_record conf heard r.held.id))) (levels : d.levels ≡ c.levels)
      (beside : (is_attempting r.state ≡ false) × (is_primary r.state ≡ false)) (moved : replica_of d.world p ≡ Some new) (handed : IsHanded c d p greens) → AttemptStep c d
  -- a member installs its attempt
  Installed : (p : ℕ) (r new : Replica) (installing' : Installing c p r) (done : HasInstalled r new)
      (attempts : d.attempts ≡ installing p c.attempts (Some (own_record installing'.a p))) (levels : d.levels ≡ c.levels ++ opened_by c (Some (own_record installing'.a p)))
      (core : core_of d p ≡ Some new.held) (moved : replica_of d.world p ≡ Some new) → AttemptStep c d

-- the attempts and the levels behind a turn
pub record TurnNotes (c d : Chronicle) (olds : List Attempt) (p : ℕ) (r new : Replica) : Type 0 where
  pub greens : List Action
  pub all : greens ≡ greens_of d p
  pub attempts : d.attempts ≡ attempts_behind olds p greens r new
  pub levels : d.levels ≡ levels_behind c r new
  pub core : core_of d p ≡ Some new.held
  pub moved : replica_of d.world p ≡ Some new

turn-notes : (c b d : Chronicle) (p : ℕ) (part : Turn → Turn) (r : Replica) (disk : Disk) → HavePasts b → b.levels ≡ c.levels → b.attempts ≡ c.attempts → d ≡ turning b p part → node_of b.world p ≡ Some (record { id = p; life = Up r disk }) →
    TurnNotes c d c.attempts p r (part (begin r)).replica
turn-notes c b d p part r disk pasts levels attempts is node =
    let t = part (begin r) in
    let whole = is ∙ turn-is b p part r disk node in
    record {
      greens = greens_of b p ++ newly_green r t.replica;
      all = sym (ap (λ (x : Chronicle). greens_of x p) whole ∙ greens-turn b p r disk t pasts node);
      attempts = ap (λ (x : Chronicle). x.attempts) whole ∙ ap (λ xs. attempts_behind xs p (greens_of b p ++ newly_green r t.replica) r t.replica) attempts;
      levels = ap (λ (x : Chronicle). x.levels) whole ∙ (λ i. (let e : Chronicle = record c { attempts = attempts i; levels = levels i } in levels_behind e r t.replica));
      core = ap (λ (x : Chronicle). core_of x p) whole ∙ ap (λ (o : Option Node). option_map (λ s. held_in s.life) o) (node_of-set b.world p (Up t.replica disk) p
          ∙ cond-true (p == p) (Some (record { id = p; life = Up t.replica disk })) (node_of b.world p) (eq-eqb p p refl));
      moved = ap (λ (x : Chronicle). replica_of x.world p) whole ∙ ap (λ (o : Option Node). option_and_then (λ s. running s.life) o) (node_of-set b.world p (Up t.replica disk) p
          ∙ cond-true (p == p) (Some (record { id = p; life = Up t.replica disk })) (node_of b.world p) (eq-eqb p p refl));
    }

quiet-step : (c d : Chronicle) (p : ℕ) (r new : Replica) → TurnNotes c d c.attempts p r new → IsQuiet r new → AttemptStep c d
quiet-step c d p r new notes quiet =
    let neither = quiet-neither r new quiet in
    Same (notes.attempts ∙ neither-attempts c.attempts p notes.greens r new neither) (notes.levels ∙ neither-levels c r new neither)

installed-step : (c d : Chronicle) (p : ℕ) (r new : Replica) → TurnNotes c d c.attempts p r new → (ins : Installing c p r) → HasInstalled r new → AttemptStep c d
installed-step c d p r new notes ins done =
    Installed p r new ins done (notes.attempts ∙ installed-attempts c.attempts p notes.greens r new done ∙ ap (installing p c.attempts) ins.mine)
    (notes.levels ∙ installed-levels c r new done ∙ ap (λ v. c.levels ++ opened_by c v) ins.mine) notes.core notes.moved

hands-attempt_step : (c d : Chronicle) (p : ℕ) (i : Invariant c) (may : may_make c (Hands p) ≡ true) (n : HandsNow c p) → d ≡ small_step c (Hands p) → TurnNotes c d c.attempts p n.replica (new c p i n) → AttemptStep c d
hands-attempt_step c d p i may n step notes = at (hand-turned c p i n) where
  at : Turned n.replica (new c p i n) n.next.message → AttemptStep c d
  at (Quiet quiet) = quiet-step c d p n.replica (new c p i n) notes quiet
  at (Installs done) = installed-step c d p n.replica (new c p i n) notes (hands-installing c i p may n done) done
  at (Decides conf heard ends decided) =
      let neither = decided-neither heard n.replica (new c p i n) decided in
      Same (notes.attempts ∙ neither-attempts c.attempts p notes.greens n.replica (new c p i n) neither) (notes.levels ∙ neither-levels c n.replica (new c p i n) neither)
  at (Attempts conf heard ends attempted) =
      let end = plan-end c p i n conf heard ends attempted.remains (ap is_behind attempted.state) in
      Begun p conf heard n.replica (new c p i n) (subst (λ k. AtPlanEnd c p n.replica k heard) end.0 end.1) n.data_of.id attempted (running-now c p i n) notes.greens
      (notes.attempts ∙ attempted-attempts n.next.message conf heard c.attempts p notes.greens n.replica (new c p i n) ends attempted)
      (notes.levels ∙ attempted-levels c n.next.message conf heard n.replica (new c p i n) ends attempted) (ends-beside n.replica.state n.next.message conf heard ends) notes.moved (record {
        step = step;
        may = may;
        all = notes.all;
        exchanging = subst (λ (o : Option Replica). IfSome o (λ r. is_exchanging r.state ≡ true)) (sym (running-now c p i n)) (ends-exchanging n.replica.state n.next.message conf heard ends);
      })

leaves-attempt_step : (c d : Chronicle) (p : ℕ) (set' : List ℕ) (own : ℕ) (places : List ℕ) (i : Invariant c) (may : may_make c (Leaves p set' own places) ≡ true) (r : Replica) → replica_of c.world p ≡ Some r →
    TurnNotes c d c.attempts p r (take_parting c.world.group p set' places (begin r)).replica → AttemptStep c d
leaves-attempt_step c d p set' own places i may r up notes = at (parting-by c.world.group p set' places r) where
  at : PartedBy (home c.world.group p) r (take_parting c.world.group p set' places (begin r)).replica → AttemptStep c d
  at (inl quiet) = quiet-step c d p r (take_parting c.world.group p set' places (begin r)).replica notes quiet
  at (inr done) = installed-step c d p r (take_parting c.world.group p set' places (begin r)).replica notes
      (leaves-installing c i p set' own places may r (take_parting c.world.group p set' places (begin r)).replica up done.0 done.1) done.0

-- nothing is noted of attempts
noted-none : {X : Type 0} (o : Option X) (change : X → Chronicle) (c : Chronicle) → ((x : X) → AttemptStep c (change x)) → AttemptStep c (option_map_or change o c)
noted-none None change c each = Same refl refl
noted-none (Some x) change c each = each x

commit-none : (c : Chronicle) (p : ℕ) (life : NodeState) → AttemptStep c (commit_as c p life)
commit-none c p (Up r disk) = Same refl refl
commit-none c p (Down disk green) = Same refl refl

crash-goes : (c : Chronicle) (p : ℕ) (life : NodeState) → AttemptStep c (crash_as c p life)
crash-goes c p (Up r disk) = Goes p (length (stood_of c p)) refl refl (low (past_of c p) (past-here struck (λ x. refl) c p)) where
  low : (o : Option Past) → past_of (crash_as c p (Up r disk)) p ≡ option_map struck o → length (option_map_or (λ (x : Past). x.stood) o []) ≤ length (greens_of (crash_as c p (Up r disk)) p)
  low None e = omega arith
  low (Some x) e = let same = ap (λ (o : Option Past). length (option_map_or (λ x. x.greens) o [])) e in omega (arith, same)
crash-goes c p (Down disk green) = Same refl refl

recover-none : (c : Chronicle) (life : NodeState) → AttemptStep c (recover_as c life)
recover-none c (Up r disk) = Same refl refl
recover-none c (Down disk green) = Same refl refl

runs : (c : Chronicle) (p : ℕ) → is_running c p ≡ true → Sits c.world p
runs c p e = hosted c.world p e

-- What a small step does to the attempts.
pub attempt-step : (c : Chronicle) (s : Small) → Invariant c → may_make c s ≡ true → AttemptStep c (small_step c s)
unfolding small_step may_make
attempt-step c (Starts _) i may = Same refl refl
attempt-step c (Makes _) i may = Same refl refl
attempt-step c (Enters p) i may =
    let now = enters-now c p i.net.phase_sound (i.replica.mode_data p) may in
    let g = c.world.group in
    let come = newest-come g now.replica now.between in
    let neither = come-neither (newest_conf g) (configuration g (newest_conf g)).members now.replica (take_newest g (begin now.replica)).replica come in
    let whole = turn-is (coming c p) p (take_newest g) now.replica now.disk now.node in
    Goes p (length (greens_of c p))
    (ap (λ (x : Chronicle). x.attempts) whole
    ∙ neither-attempts (coming c p).attempts p (greens_of c p ++ newly_green now.replica (take_newest g (begin now.replica)).replica) now.replica (take_newest g (begin now.replica)).replica neither)
    (ap (λ (x : Chronicle). x.levels) whole ∙ neither-levels (coming c p) now.replica (take_newest g (begin now.replica)).replica neither)
    (let e = ap (λ (x : Chronicle). length (greens_of x p)) whole ∙ ap (λ (xs : List Action). length xs) (greens-turn (coming c p) p now.replica now.disk (take_newest g (begin now.replica)) i.net.hosted.past now.node) in
    let long = length-append (greens_of c p) (newly_green now.replica (take_newest g (begin now.replica)).replica) in omega (arith, e, long))
attempt-step c (Orders p) i may = Same refl refl
attempt-step c (Receives p place) i may = Same refl refl
attempt-step c (Hands p) i may =
    let n = hands-now c p i may in
    hands-attempt_step c (turning (handed_next c p) p (take_next c.world.group p)) p i may n refl (turn-notes c (handed_next c p) (turning (handed_next c p) p (take_next c.world.group p)) p (take_next c.world.group p) n.replica n.disk i.net.hosted.past refl refl refl n.node)
attempt-step c (Leaves p set' own places) i may =
    let sits = hosted c.world p (i.net.phase_sound.up p ∙ regular-up c.world.group p (leaving-regular c p set' own places may)) in
    leaves-attempt_step c (turning (leaving c p set' own) p (take_parting c.world.group p set' places)) p set' own places i may sits.replica (ap (λ (o : Option Node). option_and_then (λ s. running s.life) o) sits.node)
    (turn-notes c (leaving c p set' own) (turning (leaving c p set' own) p (take_parting c.world.group p set' places)) p (take_parting c.world.group p set' places) sits.replica sits.disk i.net.hosted.past refl refl refl sits.node)
attempt-step c (Asks p kind) i may =
    let sits = runs c p (and_parts (is_running c p) (not (is_left c.world p)) may).0 in
    quiet-step c (turning c p (take_request kind)) p sits.replica (take_request kind (begin sits.replica)).replica
    (turn-notes c c (turning c p (take_request kind)) p (take_request kind) sits.replica sits.disk i.net.hosted.past refl refl refl sits.node) (request-quiet kind sits.replica)
attempt-step c (Settles p) i may =
    let sits = runs c p may in
    quiet-step c (turning c p settle) p sits.replica (settle (begin sits.replica)).replica
    (turn-notes c c (turning c p settle) p settle sits.replica sits.disk i.net.hosted.past refl refl refl sits.node) (settle-quiet sits.replica)
attempt-step c (Commits p) i may = noted-none (node_of c.world p) (λ s. commit_as c p s.life) c (λ s. commit-none c p s.life)
attempt-step c (Crashes p) i may = noted-none (node_of c.world p) (λ s. crash_as c p s.life) c (λ s. crash-goes c p s.life)
attempt-step c (Recovers p) i may = noted-none (node_of c.world p) (λ s. recover_as c s.life) c (λ s. recover-none c s.life)
attempt-step c (Copies p joiner) i may = noted-none (replica_of c.world p) (copy_as c p joiner) c (λ r. Same refl refl)
attempt-step c (Joins joiner) i may = noted-none (snapshot_of c.world joiner) (λ s. join_with c joiner s.content) c (λ s. Same refl refl)

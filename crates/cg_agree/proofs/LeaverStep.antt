-- Who leaves a primary component covers its level, where the yellow names behind the parting begin with those of the actions of the row of
-- places that it has received; who installs its attempt in the parting is left.
use Rattle.std.proofs.Common.{◌≡◌, ℕ, ◌≤◌, true, false, ◌&&◌, List, ◌++◌, length, take, Option, Some, IfSome, refl, sym, ap, ap₂, ◌∙◌, subst, inl, inr, arith, eq-eqb, option_and_then, append-nil}
use Rattle.std.specs.Prelude.{◌==◌}
use Rattle.std.proofs.lemmas.Bool.{cond-true, and_parts}
use Rattle.cg_base.specs.Lists.{above_up_to}
use Rattle.cg_base.specs.Sets.{has}
use Rattle.cg_action.specs.declared.action.Action.{Action}
use Rattle.cg_queue.specs.Queue.{names_of}
use Rattle.cg_records.specs.declared.primary.Primary.{Primary}
use Rattle.cg_wire.specs.declared.message.Msg.{Msg}
use Rattle.cg_group.specs.declared.phase.Phase.TheVariants.{Regular, Transitional}
use Rattle.cg_group.specs.State.{Configuration, phase_of, regular_in, configuration, is_regular, delivered_to, has_received, home}
use Rattle.cg_client.specs.Replica.{Held, State, RegPrim, TransPrim, ExchangeStates, ExchangeActions, Construct, No, Un, NonPrim, Left, Replica}
use Rattle.cg_client.specs.Turn.{Turn, begin}
use Rattle.cg_model.specs.World.{Node, replica_of, running}
use Rattle.cg_model.specs.Chronicle.{Chronicle}
use Rattle.cg_model.specs.Fronts.{Front}
use Rattle.cg_model.specs.Looks.{greens_of, conf_of, is_regular_at, is_regular_in, is_member, ordered_in, received_outside, attempt_at, installation, top_of}
use Rattle.cg_model.specs.Talk.{acts_in}
use Rattle.cg_model.specs.Levels.{prim_at}
use Rattle.cg_model.specs.FactsNet.{IsPhase}
use Rattle.cg_model.specs.FactsReplica.{is_primary}
use Rattle.cg_model.specs.FactsGreens.{CoversLevel, CoversAsYellow}
use Rattle.cg_model.specs.Facts.{Invariant}
use Rattle.cg_model.specs.Played.{AtRest}
use Rattle.cg_model.specs.Small.{Small, Starts, Makes, Enters, Orders, Receives, Hands, Leaves, Asks, Settles, Commits, Crashes, Recovers, Copies, Joins, take_parting, leaving, newly_green, small_step}
use Rattle.cg_model.specs.Smalls.{may_make, ascend_within, hold_received, hold_earlier}
use Rattle.cg_agree_lemmas.specs.CoresKept.{greens-turn, held-known}
use Rattle.cg_agree.proofs.CountsParting.{prim-parting}
use Rattle.cg_agree_lemmas.specs.EntryGreens.{nothing-new}
use Rattle.cg_agree.proofs.ExchangeSmalls.{replica-behind}
use Rattle.cg_agree.proofs.FactsKept.{attempt-now}
use Rattle.cg_agree.proofs.GreenLine.{regular-state, line-before, conf-before, in-primary}
use Rattle.cg_agree_lemmas.specs.GroupKept.{leaving-regular}
use Rattle.cg_agree_lemmas.specs.HandsKept.{regular-phase, hosted}
use Rattle.cg_agree.proofs.InstalledCountKept.{installed_count-kept}
use Rattle.cg_agree.proofs.LeaverOutside.{acts_at, covers-outside}
use Rattle.cg_agree.proofs.LeaverReach.{out-received}
use Rattle.cg_agree_lemmas.specs.OneStands.{Stands}
use Rattle.cg_agree_lemmas.specs.OneSteps.{leaves-step}
use Rattle.cg_agree_lemmas.specs.PartingActs.{PartedBy, parting-by}
use Rattle.cg_agree_lemmas.specs.PlacesBegin.{places-begin}
use Rattle.cg_agree.proofs.ReachedGrows.{top-grows}
use Rattle.cg_agree_lemmas.specs.ReachFacts.{outside-within}
use Rattle.cg_agree_lemmas.specs.ReachWorld.{level-kept}
use Rattle.cg_agree_lemmas.specs.RecordKept.{turn-is}
use Rattle.cg_agree_lemmas.specs.SameAttempt.{same-installation}
use Rattle.cg_agree.proofs.TransKept.{TransAt, LeaverCovers}
use Rattle.cg_agree_lemmas.specs.TurnKinds.{HasInstalled}
use Rattle.cg_group.specs.RefusalLaws.{regular-up}

-- Behind the parting of a regular member of a primary component, which has received a row of places up to this last one, its yellow names
-- begin with those of the actions at the places of that row that it hadn't been handed.
abbrev pub RowIsYellow : Chronicle → ℕ → List ℕ → List ℕ → Type 0
RowIsYellow c p set places =
    (r : Replica) (conf last : ℕ) → replica_of c.world p ≡ Some r → phase_of c.world.group p ≡ Regular conf → r.state ≡ RegPrim →
    Front (above_up_to (delivered_to c.world.group p) last) places → last ≤ length (ordered_in c conf) →
    Front (names_of (acts_at (ordered_in c conf) (above_up_to (delivered_to c.world.group p) last))) (take_parting c.world.group p set places (begin r)).replica.held.queue.yellow

-- Who installs its attempt in its parting covers its level behind it.
abbrev pub LateCovers : Chronicle → ℕ → List ℕ → ℕ → List ℕ → Type 0
LateCovers c p set own places =
    (r : Replica) → replica_of c.world p ≡ Some r → HasInstalled r (take_parting c.world.group p set places (begin r)).replica → TransAt (small_step c (Leaves p set own places)) p

pub places-may : (c : Chronicle) (p : ℕ) (set : List ℕ) (own : ℕ) (places : List ℕ) → may_make c (Leaves p set own places) ≡ true →
    (ascend_within (delivered_to c.world.group p) (length (home c.world.group p).ordered) places ≡ true) × (hold_received (home c.world.group p) p (delivered_to c.world.group p) places ≡ true)
unfolding may_make
places-may c p set own places may =
    let g = c.world.group in
    let c' = home g p in
    let low = delivered_to g p in
    let one = and_parts (is_regular g p && ascend_within low (length c'.ordered) places && hold_received c' p low places) (hold_earlier c' low places) may in
    let two = and_parts (is_regular g p && ascend_within low (length c'.ordered) places) (hold_received c' p low places) one.0 in
    ((and_parts (is_regular g p) (ascend_within low (length c'.ordered) places) two.0).1, two.1)

by-state : (d : Chronicle) (h : Held) (greens : List Action) (state : State) → (is_primary state ≡ true → CoversLevel d h.prim.index (names_of greens ++ h.queue.yellow)) → CoversAsYellow d h greens state
by-state d h greens TransPrim covers = covers refl
by-state d h greens RegPrim covers = tt
by-state d h greens (ExchangeStates k x heard) covers = tt
by-state d h greens (ExchangeActions k heard n) covers = tt
by-state d h greens (Construct k heard) covers = tt
by-state d h greens (No k heard) covers = tt
by-state d h greens Un covers = tt
by-state d h greens (NonPrim regular) covers = tt
by-state d h greens Left covers = tt

module _ (c : Chronicle) (p : ℕ) (set : List ℕ) (own : ℕ) (places : List ℕ) (i : Invariant c) (may : may_make c (Leaves p set own places) ≡ true) (rest : AtRest c (Leaves p set own places))
    (row : RowIsYellow c p set places) (late : LateCovers c p set own places) where
  abbrev d : Chronicle
  d = small_step c (Leaves p set own places)

  abbrev part : Turn → Turn
  part = take_parting c.world.group p set places

  stands : Stands c.world.group d.world.group p (Transitional (regular_in (phase_of c.world.group p)) set) own true
  stands = (leaves-step c p set own places i.net.phase_sound (leaving-regular c p set own places may)).stands

  module _ (r : Replica) (up : replica_of c.world p ≡ Some r) (after : replica_of d.world p ≡ Some (part (begin r)).replica) (green : greens_of d p ≡ greens_of c p ++ newly_green r (part (begin r)).replica)
      (conf : ℕ) (phase : phase_of c.world.group p ≡ Regular conf) where
    abbrev u : Replica
    u = (part (begin r)).replica

    covers : is_primary r.state ≡ true → u.held.prim ≡ r.held.prim → CoversLevel d u.held.prim.index (names_of (greens_of d p) ++ u.held.queue.yellow)
    covers primary prim =
        let level = r.held.prim.index in
        let low = delivered_to c.world.group p in
        let a = attempt_at c level in
        let b = attempt_at d level in
        let state = regular-state c i p conf r up phase primary in
        let from = (in-primary c i p conf r up phase primary).index in
        let known = (held-known (λ h all. (h.prim.index ≤ top_of c) × (h.prim ≡ prim_at c h.prim.index)) c p r up i.attempt.levels_stand.known).0 in
        let more = top-grows c (Leaves p set own places) in
        let same = level-kept c (Leaves p set own places) level i.attempt.levels_stand (omega (arith, from)) known in
        let here : a.conf ≡ conf = conf-before c i p conf r up phase primary in
        let still : conf_of d conf ≡ conf_of c conf = stands.conf conf in
        let ordered : ordered_in d conf ≡ ordered_in c conf = ap (λ (x : Configuration Msg). x.ordered) still in
        let member : is_member d conf p ≡ true = ap (λ (x : Configuration Msg). has x.members p) still ∙ (subst (IsPhase c p low) phase (i.net.phase_sound.phase p)).0 in
        let out : is_regular_in d conf p ≡ false = ap (is_regular_at conf) (stands.phase p ∙ cond-true (p == p) (Transitional (regular_in (phase_of c.world.group p)) set) (phase_of c.world.group p) (eq-eqb p p refl)) in
        let last = received_outside d conf in
        let inside : last ≤ length (ordered_in c conf) = subst (λ xs. last ≤ length xs) ordered (outside-within d conf) in
        let is_home : home c.world.group p ≡ conf_of c conf = ap (λ x. configuration c.world.group (regular_in x)) phase in
        let fine = subst (λ (x : Configuration Msg). (ascend_within low (length x.ordered) places ≡ true) × (hold_received x p low places ≡ true)) is_home (places-may c p set own places may) in
        let begins = places-begin (conf_of c conf) p low last places fine.0 fine.1 inside (λ k above within. ap (λ (x : Configuration Msg). has_received x p k) (sym still) ∙ out-received d conf p member out k above within) in
        let kept : greens_of d p ≡ greens_of c p = green ∙ ap (λ xs. greens_of c p ++ xs) (nothing-new r u (prim-parting c.world.group p set places r state)) ∙ append-nil (greens_of c p) in
        let line : greens_of d p ≡ installation b ++ acts_in (take low (ordered_in d conf)) =
        kept ∙ line-before c i p conf r up phase primary
        ∙ ap₂ (λ xs ys. xs ++ acts_in (take low ys)) (sym (same-installation a b same)) (ap (ordered_in c) here ∙ sym ordered) in
        let yellow = subst (λ xs. Front (names_of (acts_at xs (above_up_to low last))) u.held.queue.yellow) (sym ordered) (row r conf last up phase state begins inside) in
        subst (λ (x : Primary). CoversLevel d x.index (names_of (greens_of d p) ++ u.held.queue.yellow)) (sym prim)
        (covers-outside d conf p level low (greens_of d p) u.held.queue.yellow (attempt-now c (Leaves p set own places) i may rest).levels_stand (installed_count-kept c (Leaves p set own places) i may rest i.attempt.left_out)
        (omega (arith, from)) (omega (arith, known, more)) (same.conf ∙ here) member out line yellow)

    by : PartedBy (home c.world.group p) r u → TransAt d p
    by (inl quiet) =
        subst (λ (o : Option Replica). IfSome o (λ r. CoversAsYellow d r.held (greens_of d p) r.state)) (sym after)
        (by-state d u.held (greens_of d p) u.state (λ primary. covers (sym quiet.primary ∙ primary) quiet.values.prim))
    by (inr done) = late r up done.0

  -- Who leaves covers its level behind its parting.
  pub leaver-covers : TransAt d p
  unfolding small_step
  leaver-covers =
      let regular = leaving-regular c p set own places may in
      let sits = hosted c.world p (i.net.phase_sound.up p ∙ regular-up c.world.group p regular) in
      let r = sits.replica in
      let before = leaving c p set own in
      let phase = regular-phase (phase_of c.world.group p) regular in
      by r (ap (λ (o : Option Node). option_and_then (λ s. running s.life) o) sits.node) (replica-behind before p part r sits.disk sits.node)
      (ap (λ (x : Chronicle). greens_of x p) (turn-is before p part r sits.disk sits.node) ∙ greens-turn before p r sits.disk (part (begin r)) i.net.hosted.past sits.node)
      phase.at phase.is (parting-by c.world.group p set places r)

-- what this leaves to prove of a step
abbrev pub LeaverLeft : Chronicle → Small → Type 0
LeaverLeft c (Leaves p set own places) = RowIsYellow c p set places × LateCovers c p set own places
LeaverLeft c _ = Unit {0}

-- Who leaves covers its level, from what is left.
pub leaver_covers-from : (c : Chronicle) (s : Small) → Invariant c → may_make c s ≡ true → AtRest c s → LeaverLeft c s → LeaverCovers c s
leaver_covers-from c (Leaves p set own places) i may rest left = leaver-covers c p set own places i may rest left.0 left.1
leaver_covers-from c (Starts set) i may rest left = tt
leaver_covers-from c (Makes set) i may rest left = tt
leaver_covers-from c (Enters p) i may rest left = tt
leaver_covers-from c (Orders p) i may rest left = tt
leaver_covers-from c (Receives p place) i may rest left = tt
leaver_covers-from c (Hands p) i may rest left = tt
leaver_covers-from c (Asks p kind) i may rest left = tt
leaver_covers-from c (Settles p) i may rest left = tt
leaver_covers-from c (Commits p) i may rest left = tt
leaver_covers-from c (Crashes p) i may rest left = tt
leaver_covers-from c (Recovers p) i may rest left = tt
leaver_covers-from c (Copies p joiner) i may rest left = tt
leaver_covers-from c (Joins joiner) i may rest left = tt

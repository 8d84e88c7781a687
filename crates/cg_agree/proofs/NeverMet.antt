-- No event meets a message that can't be used, an action that can't be placed, or an item that its sender lacks.
use Rattle.std.proofs.Common.{◌≡◌, ℕ, suc, true, ◌&&◌, not, List, [], ◌∷◌, Option, Some, None, IfSome, IsTrue, take, length, refl, sym, ap, subst}
use Rattle.std.specs.Prelude.{◌==◌, slice_get}
use Rattle.std.proofs.lemmas.Bool.{and_parts, and_from}
use Rattle.cg_base.specs.Lists.{at_place}
use Rattle.cg_base.specs.Sets.{has}
use Rattle.cg_knowledge.specs.Summaries.{senders}
use Rattle.cg_knowledge.specs.Verdict.{decides}
use Rattle.cg_wire.specs.declared.message.Msg.{Msg}
use Rattle.cg_wire.specs.declared.message.Msg.TheVariants.{Action as ActionMsg, State as StateMsg, GreenItem, RedItem, Cpc}
use Rattle.cg_group.specs.declared.phase.Phase.TheVariants.{Regular}
use Rattle.cg_group.specs.Events.{deliveries_at}
use Rattle.cg_group.specs.State.{Configuration, GroupState, Sent, configuration, home, delivered_to, is_regular, phase_of, regular_in}
use Rattle.cg_client.specs.Replica.{Held, Replica}
use Rattle.cg_client.specs.Turn.{begin}
use Rattle.cg_model.specs.World.{replica_of}
use Rattle.cg_model.specs.Chronicle.{Chronicle}
use Rattle.cg_model.specs.Facts.{Invariant}
use Rattle.cg_model.specs.FactsReplica.{IsCore, is_exchanging}
use Rattle.cg_model.specs.Looks.{greens_of, stood_of, disk_held, conf_of, members_in, ordered_in}
use Rattle.cg_model.specs.Played.{MayBeMade}
use Rattle.cg_model.specs.Small.{Small, Starts, Makes, Enters, Orders, Receives, Hands, Leaves, Asks, Settles, Commits, Crashes, Recovers, Copies, Joins, small_step}
use Rattle.cg_model.specs.Smalls.{may_make, smalls_in, ascend_within, hold_received, hold_earlier}
use Rattle.cg_model.specs.Talk.{Talk, no_talk, talk_of, may_go_on, may_say}
use Rattle.cg_model.specs.Total.{can_be_used, AreUsable, IsUsed, CanRedden, AreTakenLeaving, MeetsNone, MeetNone, NeverMet}
use Rattle.cg_agree_lemmas.specs.GroupKept.{leaving-regular}
use Rattle.cg_agree_lemmas.specs.HandNext.{legal-at}
use Rattle.cg_agree.proofs.HandsMeet.{hands-used}
use Rattle.cg_agree_lemmas.specs.HandsNow.{hands-now, running-now, found-now}
use Rattle.cg_agree.proofs.MadeOfSmalls.{made-of-smalls}
use Rattle.cg_agree.proofs.MovesKept.{kept-by-smalls}
use Rattle.cg_agree.proofs.PartingPlaced.{leaving-taken}
use Rattle.cg_agree_lemmas.specs.HandsKept.{regular-phase}
use Rattle.cg_group.specs.declared.delivery.Delivery.TheVariants.{Transitional as TransitionalIn}
use Rattle.cg_agree.proofs.TurnsMeet.{turns-meet}

-- ---- messages

usable-said : (set : List ℕ) (conf : ℕ) (t : Talk) (from : ℕ) (m : Msg) → may_say set conf t from m ≡ true → can_be_used conf t from m ≡ true
usable-said set conf t from (StateMsg s) may =
    let a = and_parts ((has set from && (s.id == from)) && (s.conf == conf)) (not (has (senders t.heard) from)) may in
    let b = and_parts (has set from && (s.id == from)) (s.conf == conf) a.0 in
    let d = and_parts (has set from) (s.id == from) b.0 in
    and_from ((s.id == from) && (s.conf == conf)) (not (has (senders t.heard) from)) (and_from (s.id == from) (s.conf == conf) d.1 b.1) a.1
usable-said set conf t from (Cpc id at) may =
    let a = and_parts ((((id == from) && (at == conf)) && may_go_on set t from) && decides t.heard) (not (has t.announced from)) may in
    let b = and_parts (((id == from) && (at == conf)) && may_go_on set t from) (decides t.heard) a.0 in
    let d = and_parts ((id == from) && (at == conf)) (may_go_on set t from) b.0 in
    and_from ((id == from) && (at == conf)) (not (has t.announced from)) d.0 a.1
usable-said set conf t from (GreenItem place a) may = refl
usable-said set conf t from (RedItem a) may = refl
usable-said set conf t from (ActionMsg a) may = refl

usable-all : (c : Chronicle) → Invariant c → AreUsable c.world
usable-all c i conf n s there =
    let set = members_in c conf in
    usable-said set conf (talk_of (take n (ordered_in c conf))) s.from s.message (legal-at set conf no_talk (ordered_in c conf) n s (i.talk.talk_legal.ordered conf) there)

-- ---- small steps

places-hold : (c : Chronicle) (p : ℕ) (set : List ℕ) (own : ℕ) (places : List ℕ) → may_make c (Leaves p set own places) ≡ true →
    (ascend_within (delivered_to c.world.group p) (length (home c.world.group p).ordered) places ≡ true) × (hold_received (home c.world.group p) p (delivered_to c.world.group p) places ≡ true)
    × (hold_earlier (home c.world.group p) (delivered_to c.world.group p) places ≡ true)
unfolding may_make
places-hold c p set own places may =
    let g = c.world.group in
    let c' = home g p in
    let low = delivered_to g p in
    let one = and_parts (is_regular g p && ascend_within low (length c'.ordered) places && hold_received c' p low places) (hold_earlier c' low places) may in
    let two = and_parts (is_regular g p && ascend_within low (length c'.ordered) places) (hold_received c' p low places) one.0 in
    ((and_parts (is_regular g p) (ascend_within low (length c'.ordered) places) two.0).1, two.1, one.1)

module _ (c : Chronicle) (i : Invariant c) where
  own-red : (o : Option Replica) (p : ℕ) → IfSome o (λ r. IsCore c r.held (greens_of c p)) → IfSome o (λ r. CanRedden r.held)
  own-red None p core = tt
  own-red (Some r) p core = core.contiguous.own

  disk-red : (o : Option Held) (p : ℕ) → IfSome o (λ h. IsCore c h (stood_of c p)) → IfSome o CanRedden
  disk-red None p core = tt
  disk-red (Some h) p core = core.contiguous.own

  hands-none : (p : ℕ) → may_make c (Hands p) ≡ true → MeetsNone c (Hands p)
  hands-none p may =
      let n = hands-now c p i may in
      subst (λ (o : Option Replica). IfSome o (λ r. IfSome (at_place (home c.world.group p).ordered (suc (delivered_to c.world.group p))) (λ s. IsUsed r.state (begin r) s.from s.message))) (sym (running-now c p i n))
      (subst (λ (o : Option (Sent Msg)). IfSome o (λ s. IsUsed n.replica.state (begin n.replica) s.from s.message)) (sym (found-now c p i n))
      (hands-used c p i n.conf n.replica n.next n.regular (running-now c p i n) n.found))

  leaves-none : (p : ℕ) (set : List ℕ) (own : ℕ) (places : List ℕ) → may_make c (Leaves p set own places) ≡ true → MeetsNone c (Leaves p set own places)
  leaves-none p set own places may =
      let g = c.world.group in
      let phase = regular-phase (phase_of g p) (leaving-regular c p set own places may) in
      let home_is : home g p ≡ conf_of c phase.at = ap (λ x. configuration g (regular_in x)) phase.is in
      let fine = subst (λ (x : Configuration Msg). (ascend_within (delivered_to g p) (length x.ordered) places ≡ true) × (hold_received x p (delivered_to g p) places ≡ true)
      × (hold_earlier x (delivered_to g p) places ≡ true)) home_is (places-hold c p set own places may) in
      subst (λ (x : Configuration Msg). IfSome (replica_of c.world p) (λ r. AreTakenLeaving (not (is_exchanging r.state)) (begin r) (TransitionalIn (regular_in (phase_of g p)) set ∷ deliveries_at x places))) (sym home_is)
      (at phase.at phase.is fine (replica_of c.world p) refl) where
        at : (conf : ℕ) → phase_of c.world.group p ≡ Regular conf → (ascend_within (delivered_to c.world.group p) (length (ordered_in c conf)) places ≡ true)
            × (hold_received (conf_of c conf) p (delivered_to c.world.group p) places ≡ true) × (hold_earlier (conf_of c conf) (delivered_to c.world.group p) places ≡ true) →
            (o : Option Replica) → replica_of c.world p ≡ o → IfSome o (λ r. AreTakenLeaving (not (is_exchanging r.state)) (begin r) (TransitionalIn (regular_in (phase_of c.world.group p)) set ∷ deliveries_at (conf_of c conf) places))
        at conf phase fine None e = tt
        at conf phase fine (Some r) e = leaving-taken c i p r conf e phase places fine.2 fine.0 fine.1 (regular_in (phase_of c.world.group p)) set

  meets-none : (s : Small) → may_make c s ≡ true → MeetsNone c s
  meets-none (Hands p) may = hands-none p may
  meets-none (Enters p) may = own-red (replica_of c.world p) p (i.replica.cores.memory p)
  meets-none (Recovers p) may = disk-red (disk_held c.world p) p (i.replica.cores.disk p)
  meets-none (Starts set) may = tt
  meets-none (Makes set) may = tt
  meets-none (Orders p) may = tt
  meets-none (Receives p place) may = tt
  meets-none (Leaves p set own places) may = leaves-none p set own places may
  meets-none (Asks p kind) may = tt
  meets-none (Settles p) may = tt
  meets-none (Commits p) may = tt
  meets-none (Crashes p) may = tt
  meets-none (Copies p joiner) may = tt
  meets-none (Joins joiner) may = tt

meet-none : (c : Chronicle) (smalls : List Small) → Invariant c → MayBeMade c smalls → MeetNone c smalls
meet-none c [] i may = tt
meet-none c (s ∷ smalls) i may = (meets-none c i s may.0, meet-none (small_step c s) smalls (kept-by-smalls c s i may.0 may.1).0 may.2)

-- None of the sentences is ever needed.
pub never-met : NeverMet
never-met c w e stands may admitted = (
  subst (λ (g : GroupState Msg). (conf n : ℕ) (s : Sent Msg) → slice_get (configuration g conf).ordered n ≡ Some s → IsTrue (can_be_used conf (talk_of (take n (configuration g conf).ordered)) s.from s.message))
      (sym stands.same.group) (usable-all c stands.facts),
  meet-none c (smalls_in w e) stands.facts (made-of-smalls c w e stands may admitted).0,
  turns-meet c w stands (λ smalls made. meet-none c smalls stands.facts made) e (made-of-smalls c w e stands may admitted).0 admitted,
)

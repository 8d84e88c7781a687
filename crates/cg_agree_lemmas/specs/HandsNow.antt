-- The place that is handed in a small step: whose it is, the message, and what it makes of the member and of its state.
use Rattle.std.proofs.Common.{◌≡◌, ℕ, suc, true, List, [], ◌∷◌, ◌++◌, Option, Some, IfSome, take, drop, sym, ap, ◌∙◌, subst, option_and_then, fold}
use Rattle.std.specs.Prelude.{slice_get, nat_lt}
use Rattle.std.specs.Option.{option_map_or}
use Rattle.std.proofs.lemmas.Bool.{and_parts}
use Rattle.std.proofs.lemmas.List.Sums.{fold-append}
use Rattle.cg_base.specs.Sets.{has}
use Rattle.cg_base.specs.Lists.{at_place}
use Rattle.cg_wire.specs.declared.message.Msg.{Msg}
use Rattle.cg_group.specs.declared.phase.Phase.{Phase}
use Rattle.cg_group.specs.declared.phase.Phase.TheVariants.{Regular}
use Rattle.cg_group.specs.declared.delivery.Delivery.TheVariants.{Message}
use Rattle.cg_group.specs.Ready.{ready}
use Rattle.cg_group.specs.Events.{delivery_at}
use Rattle.cg_group.specs.State.{Sent, phase_of, is_regular, regular_in, delivered_to, home, configuration}
use Rattle.cg_client.specs.Replica.{Replica}
use Rattle.cg_client.specs.Turn.{begin}
use Rattle.cg_disk_records.specs.Crash.{Disk}
use Rattle.cg_model.specs.World.{Up, Node, node_of, replica_of, running}
use Rattle.cg_model.specs.Chronicle.{Chronicle}
use Rattle.cg_model.specs.Looks.{members_in, ordered_in}
use Rattle.cg_model.specs.Talk.{Talk, no_talk, talk_of, hears, is_full, is_through, is_ended, is_legal, state_in}
use Rattle.cg_model.specs.FactsNet.{IsPhase}
use Rattle.cg_model.specs.FactsTalk.{TalkLegal, handed_talk, whole_talk, IsStateIn}
use Rattle.cg_model.specs.FactsReplica.{HasModeData, IsModeData}
use Rattle.cg_model.specs.Facts.{Invariant}
use Rattle.cg_model.specs.Small.{Hands, take_all, take_next}
use Rattle.cg_model.specs.Smalls.{may_make}
use Rattle.cg_agree_lemmas.specs.HandNext.{take-next, talk-append, state-handed}
use Rattle.cg_agree_lemmas.specs.HandsKept.{regular-phase, hosted, some-at, next-there, take-drop, attempt-named}
use Rattle.cg_agree_lemmas.specs.HandsTalk.{SaidFacts}
use Rattle.cg_agree_lemmas.specs.SaidSoFar.{rest-through}
use Rattle.cg_agree_lemmas.specs.TalkCommute.{legal-append}
use Rattle.cg_agree_lemmas.specs.TurnKinds.{Turned, Quiet}
use Rattle.cg_agree_lemmas.specs.TurnParts.{NextTurned, Nothing, Something, next-turned}
use Rattle.cg_group.specs.RefusalLaws.{regular-up}

pub said-of : (c : Chronicle) → Invariant c → SaidFacts c
said-of c i = record { legal = i.talk.talk_legal; says = i.talk.sent_iff_due; told = i.talk.heard_is_told; modes = i.talk.mode_fits }

-- a place is handed to a member
pub record HandsNow (c : Chronicle) (p : ℕ) : Type 0 where
  pub conf : ℕ
  pub regular : phase_of c.world.group p ≡ Regular conf
  pub replica : Replica
  pub disk : Disk
  pub node : node_of c.world p ≡ Some (record { id = p; life = Up replica disk })
  pub next : Sent Msg
  pub found : slice_get (ordered_in c conf) (delivered_to c.world.group p) ≡ Some next
  pub member : has (members_in c conf) p ≡ true
  pub data_of : IsModeData c p replica
  pub state : replica.state ≡ state_in (members_in c conf) conf (handed_talk c conf p) p

pub hands-now : (c : Chronicle) (p : ℕ) → Invariant c → may_make c (Hands p) ≡ true → HandsNow c p
unfolding may_make
hands-now c p i may =
    let g = c.world.group in
    let sound = i.net.phase_sound in
    let parts = and_parts (is_regular g p) (nat_lt 0 (ready g p)) may in
    let phase = regular-phase (phase_of g p) parts.0 in
    let sits = hosted c.world p (sound.up p ∙ regular-up g p parts.0) in
    let r = sits.replica in
    let running' : replica_of c.world p ≡ Some r = ap (option_and_then (λ (x : Node). running x.life)) sits.node in
    let next = some-at (ordered_in c phase.at) (delivered_to g p) (next-there c p phase.at phase.is parts.1) in
    let modes = subst (λ (o : Option Replica). IfSome o (IsStateIn c p (phase_of g p))) running' (i.talk.mode_fits p) in
    record {
      conf = phase.at;
      regular = phase.is;
      replica = r;
      disk = sits.disk;
      node = sits.node;
      next = next.0;
      found = next.1;
      member = (subst (IsPhase c p (delivered_to g p)) phase.is (sound.phase p)).0;
      data_of = subst (λ (o : Option Replica). IfSome o (IsModeData c p)) running' (i.replica.mode_data p);
      state = subst (λ (x : Phase). IsStateIn c p x r) phase.is modes;
    }

pub hands-regular : (c : Chronicle) (p : ℕ) → may_make c (Hands p) ≡ true → is_regular c.world.group p ≡ true
unfolding may_make
hands-regular c p may = (and_parts (is_regular c.world.group p) (nat_lt 0 (ready c.world.group p)) may).0

module _ (c : Chronicle) (p : ℕ) (i : Invariant c) (n : HandsNow c p) where
  abbrev pub new : Replica
  new = (take_next c.world.group p (begin n.replica)).replica

  abbrev pub set : List ℕ
  set = members_in c n.conf

  abbrev pub before : Talk
  before = handed_talk c n.conf p

  abbrev pub count : ℕ
  count = delivered_to c.world.group p

  -- the talk with the message
  abbrev pub behind : Talk
  behind = talk_of (take (suc count) (ordered_in c n.conf))

  pub running-now : replica_of c.world p ≡ Some n.replica
  running-now = ap (option_and_then (λ (x : Node). running x.life)) n.node

  pub home-now : home c.world.group p ≡ configuration c.world.group n.conf
  home-now = ap (λ x. configuration c.world.group (regular_in x)) n.regular

  pub found-now : at_place (home c.world.group p).ordered (suc count) ≡ Some n.next
  found-now = ap (λ k. at_place k.ordered (suc count)) home-now ∙ n.found

  -- what the message makes of the member
  pub hand-turned : Turned n.replica new n.next.message
  hand-turned = at (next-turned c.world.group p n.replica) where
    at : NextTurned c.world.group p n.replica new → Turned n.replica new n.next.message
    at (Nothing same) = Quiet same
    at (Something s found turned) = subst (λ (s : Sent Msg). Turned n.replica new s.message) (ap (λ o. option_map_or (λ s. s) o n.next) (sym found ∙ found-now)) turned

  pub behind-next : behind ≡ hears before n.next
  behind-next = ap talk_of (take-next (ordered_in c n.conf) count n.next n.found) ∙ talk-append no_talk (take count (ordered_in c n.conf)) (n.next ∷ [])

  -- the state behind it is that of the talk with it
  pub hand-state : new.state ≡ state_in set n.conf behind p
  unfolding delivery_at
  hand-state =
      let data_of = subst (λ (x : Phase). HasModeData c n.replica.held x n.replica.state) n.regular n.data_of.data_of in
      ap (λ o. (take_all (option_map_or (λ (s : Sent Msg). Message (suc count) s.from s.message ∷ []) o []) (begin n.replica)).replica.state) found-now
      ∙ state-handed set n.conf p (suc count) (ordered_in c n.conf) count n.next n.replica (i.talk.talk_legal.ordered n.conf) n.found n.data_of.id n.state
      (attempt-named c p n.conf n.replica (said-of c i) i.attempt.attempt_shape data_of n.state)

-- ---- a front of a talk that is through has heard all

pub record HeardSame (t u : Talk) : Type 0 where
  pub heard : u.heard ≡ t.heard
  pub accepted : u.accepted ≡ t.accepted

pub whole-through : (c : Chronicle) (conf p k : ℕ) → TalkLegal c → is_ended (members_in c conf) (talk_of (take k (ordered_in c conf))) ≡ true →
    HeardSame (talk_of (take k (ordered_in c conf))) (whole_talk c conf)
whole-through c conf p k legal ended =
    let set = members_in c conf in
    let list = ordered_in c conf in
    let x = talk_of (take k list) in
    let parts = and_parts (is_full set x) (is_through x) ended in
    let split : take k list ++ drop k list ≡ list = take-drop list k in
    let both = and_parts (is_legal set conf no_talk (take k list)) (is_legal set conf x (drop k list))
    (sym (legal-append set conf (take k list) (drop k list) no_talk) ∙ ap (is_legal set conf no_talk) split ∙ legal.ordered conf) in
    let same = rest-through set conf p (drop k list) x parts.0 parts.1 both.1 in
    let whole : talk_of list ≡ fold hears x (drop k list) = ap talk_of (sym split) ∙ fold-append hears no_talk (take k list) (drop k list) in
    record { heard = ap (λ (t : Talk). t.heard) whole ∙ same.heard; accepted = ap (λ (t : Talk). t.accepted) whole ∙ same.accepted }

pub whole-ended : (c : Chronicle) (conf p k : ℕ) → TalkLegal c → is_ended (members_in c conf) (talk_of (take k (ordered_in c conf))) ≡ true →
    is_ended (members_in c conf) (whole_talk c conf) ≡ true
whole-ended c conf p k legal ended =
    let same = whole-through c conf p k legal ended in
    let t = talk_of (take k (ordered_in c conf)) in
    (λ i. is_ended (members_in c conf) (record t { heard = same.heard i; accepted = same.accepted i })) ∙ ended

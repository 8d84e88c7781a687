-- A member that is in no exchange, to whom a place is handed: what it took over at the end of its plan it has still.
use Rattle.std.proofs.Common.{◌≡◌, ℕ, suc, Bool, true, false, cond, not, List, [], ◌∷◌, take, Option, Some, IfSome, refl, sym, ap, ap₂, ◌∙◌, subst, eqb-true, eq-eqb}
use Rattle.std.specs.Prelude.{◌==◌, nat_le}
use Rattle.std.specs.Option.{option_map_or}
use Rattle.std.proofs.lemmas.Bool.{cond-true, cond_both}
use Rattle.cg_base.specs.Cuts.{index_in}
use Rattle.cg_base.specs.Sets.{has, is_within, with_member}
use Rattle.cg_action.specs.declared.action.Action.{Action}
use Rattle.cg_queue.specs.Queue.{Marks, Gaps, marked_red, placed_red}
use Rattle.cg_queue.specs.declared.mark.Mark.TheVariants.{Placed, Known}
use Rattle.cg_knowledge.specs.declared.summary.Summary.{Summary}
use Rattle.cg_records.specs.declared.yellow.Yellow.{Yellow}
use Rattle.cg_knowledge.specs.Summaries.{gone}
use Rattle.cg_knowledge.specs.Verdict.{decides}
use Rattle.cg_wire.specs.declared.message.Msg.{Msg}
use Rattle.cg_wire.specs.declared.message.Msg.TheVariants.{Action as ActionMsg, State as StateMsg, GreenItem, RedItem, Cpc}
use Rattle.cg_group.specs.declared.delivery.Delivery.TheVariants.{Message}
use Rattle.cg_group.specs.State.{Sent, delivered_to}
use Rattle.cg_group.specs.Events.{delivery_at}
use Rattle.cg_client.specs.Replica.{Held, State, RegPrim, TransPrim, ExchangeStates, ExchangeActions, Construct, No, Un, NonPrim, Left, Replica}
use Rattle.cg_client.specs.Install.{install}
use Rattle.cg_client.specs.Turn.{Turn, begin, go_to}
use Rattle.cg_client.specs.Marks.{is_unmade, marked, mark_red}
use Rattle.cg_states.specs.Construct.{attempt_set, is_announced, construct_with}
use Rattle.cg_states.specs.No.{no_with}
use Rattle.cg_states.specs.ReplicaStep.{on_message, after_delivery as take_delivery}
use Rattle.cg_model.specs.FactsReplica.{is_exchanging}
use Rattle.cg_model.specs.World.{replica_of}
use Rattle.cg_model.specs.Chronicle.{Told, Chronicle}
use Rattle.cg_model.specs.Fronts.{IsSomeWith}
use Rattle.cg_model.specs.Looks.{greens_of, told_in, is_regular_at, is_regular_in, members_in, ordered_in}
use Rattle.cg_model.specs.Talk.{Talk, talk_of, is_full, is_through, is_announced as is_talk_announced, state_in}
use Rattle.cg_model.specs.FactsTalk.{handed_talk}
use Rattle.cg_model.specs.FactsExchange.{HasTakenOver, best_told, IsInExchange}
use Rattle.cg_model.specs.Facts.{Invariant}
use Rattle.cg_model.specs.Small.{Hands, take_all, take_next, handed_next, small_step}
use Rattle.cg_model.specs.Smalls.{may_make}
use Rattle.cg_agree.proofs.ExchangeSmalls.{replica-behind, greens-behind}
use Rattle.cg_agree_lemmas.specs.ExchangeStill.{ProgressAt, some-still, best-still}
use Rattle.cg_agree_lemmas.specs.HandsNow.{HandsNow, hands-regular, new, behind, count, found-now, hand-state, running-now, whole-through}
use Rattle.cg_agree_lemmas.specs.OneSteps.{hands-step}
use Rattle.cg_agree_lemmas.specs.PlanEnd.{is_behind, behind-ended}
use Rattle.cg_agree_lemmas.specs.ToldKept.{told-same, told_in-same}
use Rattle.cg_agree_lemmas.specs.TurnValues.{SameValues, same-values, even-mark_red, even-mark_yellow, even-mark_green}

-- the same is known, with the same yellow ones and the same greens
pub record SameTaken (old new : Held) : Type 0 where
  pub values : SameValues old new
  pub yellow : new.queue.yellow ≡ old.queue.yellow
  pub greens : new.queue.greens ≡ old.queue.greens

taken-itself : (h : Held) → SameTaken h h
taken-itself h = record { values = same-values h; yellow = refl; greens = refl }

-- a red mark leaves them
taken-red : (t : Turn) (a : Action) → SameTaken t.replica.held (mark_red t a).replica.held
unfolding mark_red
taken-red t a =
    let q = t.replica.held.queue in
    let cut = index_in q.red_cut a.id.creator in
    record {
      values = (even-mark_red t a).values;
      yellow = cond_both (is_unmade t.replica.held a) t (marked t a (marked_red q a)) (λ u. u.replica.held.queue.yellow ≡ q.yellow) (λ y. refl)
          (λ n. cond_both (nat_le a.id.index cut) (Marks Known q) (cond (a.id.index == suc cut) (Marks Placed (placed_red q a)) (Gaps cut)) (λ m. (marked t a m).replica.held.queue.yellow ≡ q.yellow) (λ y. refl)
          (λ z. cond_both (a.id.index == suc cut) (Marks Placed (placed_red q a)) (Gaps cut) (λ m. (marked t a m).replica.held.queue.yellow ≡ q.yellow) (λ y. refl) (λ w. refl)));
      greens = cond_both (is_unmade t.replica.held a) t (marked t a (marked_red q a)) (λ u. u.replica.held.queue.greens ≡ q.greens) (λ y. refl)
          (λ n. cond_both (nat_le a.id.index cut) (Marks Known q) (cond (a.id.index == suc cut) (Marks Placed (placed_red q a)) (Gaps cut)) (λ m. (marked t a m).replica.held.queue.greens ≡ q.greens) (λ y. refl)
          (λ z. cond_both (a.id.index == suc cut) (Marks Placed (placed_red q a)) (Gaps cut) (λ m. (marked t a m).replica.held.queue.greens ≡ q.greens) (λ y. refl) (λ w. refl)));
    }

-- what a message makes of a member behind an exchange without a quorum
pub taken-message : (regular : Bool) (from : ℕ) (m : Msg) (t : Turn) → SameTaken t.replica.held (on_message (NonPrim regular) from m t).replica.held
unfolding on_message
taken-message regular from (ActionMsg a) t = taken-red t a
taken-message regular from (StateMsg s) t = taken-itself t.replica.held
taken-message regular from (GreenItem at a) t = taken-itself t.replica.held
taken-message regular from (RedItem a) t = taken-itself t.replica.held
taken-message regular from (Cpc id conf) t = taken-itself t.replica.held

state-message : (regular : Bool) (from : ℕ) (m : Msg) (t : Turn) → (on_message (NonPrim regular) from m t).replica.state ≡ t.replica.state
unfolding on_message
state-message regular from (ActionMsg a) t = (even-mark_red t a).state
state-message regular from (StateMsg s) t = refl
state-message regular from (GreenItem at a) t = refl
state-message regular from (RedItem a) t = refl
state-message regular from (Cpc id conf) t = refl

-- states in which nothing of an exchange is asked
abbrev pub is_free : State → Bool
is_free (ExchangeStates conf set heard) = false
is_free (ExchangeActions conf heard accepted) = false
is_free (NonPrim regular) = false
is_free Left = false
is_free _ = true

free-choice : (b : Bool) (u v : Turn) → is_free u.replica.state ≡ true → is_free v.replica.state ≡ true → is_free (cond b u v).replica.state ≡ true
free-choice true u v one two = one
free-choice false u v one two = two

-- no message leads out of them
pub free-message : (state : State) (from : ℕ) (m : Msg) (t : Turn) → t.replica.state ≡ state → is_free state ≡ true → is_free (on_message state from m t).replica.state ≡ true
unfolding on_message
free-message RegPrim from (ActionMsg a) t is free = ap is_free ((even-mark_green t a).state ∙ is)
free-message RegPrim from (StateMsg s) t is free = ap is_free is
free-message RegPrim from (GreenItem at a) t is free = ap is_free is
free-message RegPrim from (RedItem a) t is free = ap is_free is
free-message RegPrim from (Cpc id conf) t is free = ap is_free is
free-message TransPrim from (ActionMsg a) t is free = ap is_free ((even-mark_yellow t a).state ∙ is)
free-message TransPrim from (StateMsg s) t is free = ap is_free is
free-message TransPrim from (GreenItem at a) t is free = ap is_free is
free-message TransPrim from (RedItem a) t is free = ap is_free is
free-message TransPrim from (Cpc id conf) t is free = ap is_free is
free-message (Construct at heard) from (ActionMsg a) t is free = ap is_free is
free-message (Construct at heard) from (StateMsg s) t is free = ap is_free is
free-message (Construct at heard) from (GreenItem k a) t is free = ap is_free is
free-message (Construct at heard) from (RedItem a) t is free = ap is_free is
free-message (Construct at heard) from (Cpc id conf) t is free =
    let all = with_member heard from in
    free-choice (is_announced t.replica.held at from id conf) (construct_with t at all) t
    (free-choice (is_within (attempt_set t.replica.held) all) (go_to (install t) RegPrim) (go_to t (Construct at all)) refl refl) (ap is_free is)
free-message (No at heard) from (ActionMsg a) t is free = ap is_free is
free-message (No at heard) from (StateMsg s) t is free = ap is_free is
free-message (No at heard) from (GreenItem k a) t is free = ap is_free is
free-message (No at heard) from (RedItem a) t is free = ap is_free is
free-message (No at heard) from (Cpc id conf) t is free =
    let all = with_member heard from in
    free-choice (is_announced t.replica.held at from id conf) (no_with t at all) t
    (free-choice (is_within (attempt_set t.replica.held) all) (go_to t Un) (go_to t (No at all)) refl refl) (ap is_free is)
free-message Un from (ActionMsg a) t is free = refl
free-message Un from (StateMsg s) t is free = ap is_free is
free-message Un from (GreenItem at a) t is free = ap is_free is
free-message Un from (RedItem a) t is free = ap is_free is
free-message Un from (Cpc id conf) t is free = ap is_free is
free-message (ExchangeStates conf set heard) from m t is free = absurd (let clash : false ≡ true = free in cc)
free-message (ExchangeActions conf heard accepted) from m t is free = absurd (let clash : false ≡ true = free in cc)
free-message (NonPrim regular) from m t is free = absurd (let clash : false ≡ true = free in cc)
free-message Left from m t is free = absurd (let clash : false ≡ true = free in cc)

-- nothing is asked in them
free-held : (d : Chronicle) (conf : ℕ) (t : Told) (h : Held) (all : List Action) (state : State) → is_free state ≡ true → IsInExchange d conf t h all state
free-held d conf t h all RegPrim free = tt
free-held d conf t h all TransPrim free = tt
free-held d conf t h all (Construct at heard) free = tt
free-held d conf t h all (No at heard) free = tt
free-held d conf t h all Un free = tt
free-held d conf t h all (ExchangeStates at set heard) free = absurd (let clash : false ≡ true = free in cc)
free-held d conf t h all (ExchangeActions at heard accepted) free = absurd (let clash : false ≡ true = free in cc)
free-held d conf t h all (NonPrim regular) free = absurd (let clash : false ≡ true = free in cc)
free-held d conf t h all Left free = absurd (let clash : false ≡ true = free in cc)

-- a quiet one of a regular configuration
abbrev is_regular_now : State → Bool
is_regular_now (NonPrim regular) = regular
is_regular_now _ = true

-- a state to which a talk leads
open-not : (set : List ℕ) (conf : ℕ) (t : Talk) (me : ℕ) → state_in set conf t me ≡ NonPrim false → ⊥
open-not set conf t me e = at (is_full set t) (is_through t) (has (gone t.heard) me) (decides t.heard) (is_talk_announced t) e where
  at : (full through left quorum all : Bool) → cond (not full) (ExchangeStates conf set t.heard) (cond (not through) (ExchangeActions conf t.heard t.accepted) (cond left Left (cond (not quorum) (NonPrim true) (cond all RegPrim (Construct conf t.announced))))) ≡ NonPrim false → ⊥
  at false through left quorum all e = let clash : true ≡ false = ap is_exchanging e in cc
  at true false left quorum all e = let clash : true ≡ false = ap is_exchanging e in cc
  at true true true quorum all e = let clash : true ≡ false = ap is_regular_now e in cc
  at true true false false all e = let clash : true ≡ false = ap is_regular_now e in cc
  at true true false true true e = let clash : true ≡ false = ap is_free e in cc
  at true true false true false e = let clash : true ≡ false = ap is_free e in cc

module _ (c : Chronicle) (p : ℕ) (i : Invariant c) (may : may_make c (Hands p) ≡ true) (n : HandsNow c p) where
  abbrev d : Chronicle
  d = small_step c (Hands p)

  -- what the member is behind its message
  pub message-now : new c p i n ≡ (on_message n.replica.state n.next.from n.next.message (begin n.replica)).replica
  unfolding delivery_at take_delivery
  message-now = ap (λ o. (take_all (option_map_or (λ (s : Sent Msg). Message (suc (delivered_to c.world.group p)) s.from s.message ∷ []) o []) (begin n.replica)).replica) (found-now c p i n)

  pub up-now : replica_of d.world p ≡ Some (new c p i n)
  unfolding small_step
  up-now = replica-behind (handed_next c p) p (take_next c.world.group p) n.replica n.disk n.node

  -- where no action becomes green
  pub greens-same : (new c p i n).held.queue.greens ≡ n.replica.held.queue.greens → greens_of d p ≡ greens_of c p
  unfolding small_step
  greens-same same = greens-behind (handed_next c p) p (take_next c.world.group p) n.replica n.disk n.node i.net.hosted.past same

  pub told-now : (conf q : ℕ) → told_in d conf q ≡ told_in c conf q
  told-now conf q = told_in-same c d (told-same c (Hands p) tt) conf q

  pub handed-now : handed_talk d n.conf p ≡ behind c p i n
  handed-now =
      let step = hands-step c p i.net.phase_sound (hands-regular c p may) in
      let delivered : delivered_to d.world.group p ≡ suc (count c p i n) = step.stands.delivered p ∙ cond-true (p == p) (suc (delivered_to c.world.group p)) (delivered_to c.world.group p) (eq-eqb p p refl) in
      let list : ordered_in d n.conf ≡ ordered_in c n.conf = ap (λ x. x.ordered) (step.stands.conf n.conf) in
      ap₂ (λ k xs. talk_of (take k xs)) delivered list

  regular-before : is_regular_in c n.conf p ≡ true
  regular-before = ap (is_regular_at n.conf) n.regular ∙ eq-eqb n.conf n.conf refl

  -- what it told, and what it held
  pub held-before : IsSomeWith (told_in c n.conf p) (λ t. IsInExchange c n.conf t n.replica.held (greens_of c p) n.replica.state)
  held-before = subst (λ (o : Option Replica). IfSome o (λ r. IsSomeWith (told_in c n.conf p) (λ t. IsInExchange c n.conf t r.held (greens_of c p) r.state))) (running-now c p i n)
      (i.exchange.exchange_progress n.conf p regular-before)

  -- a configuration in which it is regular is the one
  pub at-conf : ProgressAt d n.conf p → (conf : ℕ) → is_regular_in c conf p ≡ true → ProgressAt d conf p
  at-conf is conf regular = subst (λ k. ProgressAt d k p) (eqb-true n.conf conf (sym (ap (is_regular_at conf) n.regular) ∙ regular)) is

  -- from what is held behind the message
  pub progress-now : ((t : Told) → IsInExchange c n.conf t n.replica.held (greens_of c p) n.replica.state → IsInExchange d n.conf t (new c p i n).held (greens_of d p) (new c p i n).state) → ProgressAt d n.conf p
  progress-now more = subst (λ (o : Option Replica). IfSome o (λ r. IsSomeWith (told_in d n.conf p) (λ t. IsInExchange d n.conf t r.held (greens_of d p) r.state))) (sym up-now)
      (some-still (told_in c n.conf p) (told_in d n.conf p) (λ t. IsInExchange c n.conf t n.replica.held (greens_of c p) n.replica.state) (λ t. IsInExchange d n.conf t (new c p i n).held (greens_of d p) (new c p i n).state)
      (λ t e. told-now n.conf p ∙ e) more held-before)

  -- behind the end of a plan the same summaries have been heard
  heard-same : is_behind n.replica.state ≡ true → is_behind (new c p i n).state ≡ true → (handed_talk d n.conf p).heard ≡ (handed_talk c n.conf p).heard
  heard-same was now =
      let legal = i.talk.talk_legal in
      let one = behind-ended (members_in c n.conf) n.conf (handed_talk c n.conf p) p (ap is_behind (sym n.state) ∙ was) in
      let two = behind-ended (members_in c n.conf) n.conf (behind c p i n) p (ap is_behind (sym (hand-state c p i n)) ∙ now) in
      ap (λ (t : Talk). t.heard) handed-now ∙ sym (whole-through c n.conf p (suc (count c p i n)) legal two).heard ∙ (whole-through c n.conf p (count c p i n) legal one).heard

  -- what was taken over stays
  pub taken-kept : n.replica.state ≡ NonPrim true → ProgressAt d n.conf p
  taken-kept is =
      let message : new c p i n ≡ (on_message (NonPrim true) n.next.from n.next.message (begin n.replica)).replica =
      message-now ∙ ap (λ (s : State). (on_message s n.next.from n.next.message (begin n.replica)).replica) is in
      let same : SameTaken n.replica.held (new c p i n).held = subst (λ (r : Replica). SameTaken n.replica.held r.held) (sym message) (taken-message true n.next.from n.next.message (begin n.replica)) in
      let state : (new c p i n).state ≡ NonPrim true = ap (λ (r : Replica). r.state) message ∙ state-message true n.next.from n.next.message (begin n.replica) ∙ is in
      let heard : (handed_talk d n.conf (new c p i n).held.id).heard ≡ (handed_talk c n.conf n.replica.held.id).heard =
      ap (λ q. (handed_talk d n.conf q).heard) (same.values.id ∙ n.data_of.id) ∙ heard-same (ap is_behind is) (ap is_behind state) ∙ ap (λ q. (handed_talk c n.conf q).heard) (sym n.data_of.id) in
      progress-now (λ t old.
      subst (λ (s : State). IsInExchange d n.conf t (new c p i n).held (greens_of d p) s) (sym state)
      (subst (λ (l : List Summary). IsSomeWith (best_told d n.conf l) (λ best. HasTakenOver l best t (new c p i n).held (greens_of d p))) (sym heard)
      (best-still c d n.conf (handed_talk c n.conf n.replica.held.id).heard (λ k q x e. told-now k q ∙ e)
      (λ best. HasTakenOver (handed_talk c n.conf n.replica.held.id).heard best t n.replica.held (greens_of c p))
      (λ best. HasTakenOver (handed_talk c n.conf n.replica.held.id).heard best t (new c p i n).held (greens_of d p))
      (λ best was. record {
        greens = greens-same same.greens ∙ was.greens;
        prim = same.values.prim ∙ was.prim;
        yellow = ap₂ (λ b xs. (let y : Yellow = record { valid = b; list = xs } in y)) same.values.yellow_valid same.yellow ∙ was.yellow;
        vulnerable = same.values.vulnerable ∙ was.vulnerable;
      })
      (subst (IsInExchange c n.conf t n.replica.held (greens_of c p)) is old))))

  -- a member that has left holds what it told
  pub left-kept : n.replica.state ≡ Left → ProgressAt d n.conf p
  unfolding on_message
  left-kept is =
      let message : new c p i n ≡ n.replica = message-now ∙ ap (λ (s : State). (on_message s n.next.from n.next.message (begin n.replica)).replica) is in
      let greens = greens-same (ap (λ (r : Replica). r.held.queue.greens) message) in
      progress-now (λ t old.
      subst (λ (r : Replica). IsInExchange d n.conf t r.held (greens_of d p) r.state) (sym message)
      (subst (λ xs. IsInExchange d n.conf t n.replica.held xs n.replica.state) (sym greens)
      (subst (λ (s : State). IsInExchange d n.conf t n.replica.held (greens_of c p) s) (sym is)
      (subst (λ (s : State). IsInExchange c n.conf t n.replica.held (greens_of c p) s) is old))))

  -- a member in no exchange
  pub behind-kept : is_exchanging n.replica.state ≡ false → (conf : ℕ) → is_regular_in c conf p ≡ true → ProgressAt d conf p
  behind-kept out conf regular = at-conf (at n.replica.state refl out) conf regular where
    quiet : (state : State) → n.replica.state ≡ state → is_free state ≡ true → ProgressAt d n.conf p
    quiet state is so = progress-now (λ t old. free-held d n.conf t (new c p i n).held (greens_of d p) (new c p i n).state
        (ap (λ (r : Replica). is_free r.state) message-now ∙ free-message n.replica.state n.next.from n.next.message (begin n.replica) refl (ap is_free is ∙ so)))

    at : (state : State) → n.replica.state ≡ state → is_exchanging state ≡ false → ProgressAt d n.conf p
    at RegPrim is out = quiet RegPrim is refl
    at TransPrim is out = quiet TransPrim is refl
    at (Construct k heard) is out = quiet (Construct k heard) is refl
    at (No k heard) is out = quiet (No k heard) is refl
    at Un is out = quiet Un is refl
    at (NonPrim true) is out = taken-kept is
    at (NonPrim false) is out = absurd (open-not (members_in c n.conf) n.conf (handed_talk c n.conf p) p (sym n.state ∙ is))
    at Left is out = left-kept is
    at (ExchangeStates k set heard) is out = absurd (let clash : true ≡ false = out in cc)
    at (ExchangeActions k heard accepted) is out = absurd (let clash : true ≡ false = out in cc)

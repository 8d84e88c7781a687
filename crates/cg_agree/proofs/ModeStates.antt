-- What a state says of what is held, as a turn changes both.
use Rattle.std.proofs.Common.{◌≡◌, ℕ, Bool, true, false, cond, List, [], Option, Some, None, sym, ap, ◌∙◌, subst}
use Rattle.cg_base.specs.declared.weighted.Weighted.{Weighted}
use Rattle.cg_base.specs.Sets.{is_within, with_member}
use Rattle.cg_action.specs.declared.action.Action.{Action}
use Rattle.cg_records.specs.declared.primary.Primary.{Primary}
use Rattle.cg_records.specs.declared.vulnerable.Vulnerable.{Vulnerable}
use Rattle.cg_knowledge.specs.declared.summary.Summary.{Summary}
use Rattle.cg_knowledge.specs.Vulnerable.{all_bits, decided, is_cleared}
use Rattle.cg_wire.specs.declared.message.Msg.{Msg}
use Rattle.cg_wire.specs.declared.message.Msg.TheVariants.{Action as ActionMsg, State as StateMsg, GreenItem, RedItem, Cpc}
use Rattle.cg_group.specs.declared.phase.Phase.{Phase}
use Rattle.cg_client.specs.Replica.{Held, State, RegPrim, TransPrim, ExchangeStates, ExchangeActions, Construct, No, Un, NonPrim, Left, Replica}
use Rattle.cg_client.specs.Turn.{Turn, go_to}
use Rattle.cg_client.specs.Install.{install}
use Rattle.cg_states.specs.Construct.{attempt_set, is_announced}
use Rattle.cg_states.specs.ReplicaStep.{on_message}
use Rattle.cg_model.specs.Chronicle.{Attempt, Chronicle}
use Rattle.cg_model.specs.Looks.{conf_at, attempt_of}
use Rattle.cg_model.specs.Levels.{is_record_of}
use Rattle.cg_model.specs.FactsReplica.{is_attempting, is_primary, own_record, IsInPrimary, IsInAttempt, HasModeData}
use Rattle.cg_agree_lemmas.specs.HeldMarks.{IsOneself}
use Rattle.cg_agree_lemmas.specs.HeldMessages.{installed-all, no-yellow}
use Rattle.cg_agree_lemmas.specs.TurnValues.{SameValues}
use Rattle.cg_agree_lemmas.specs.TurnKinds.{IsQuiet, HasDecided}
use Rattle.cg_agree_lemmas.specs.TurnParts.{is_parted}
use Rattle.cg_agree_lemmas.specs.HandsNow.{new}
use Rattle.cg_agree.proofs.CoreKept.{is_trans}
use Rattle.cg_agree_lemmas.specs.ModeHeld.{NothingRed}
use Rattle.cg_agree.proofs.ModeCounted.{Flow}

-- ---- by values

pub in-primary-as : (d : Chronicle) (old new : Held) (conf : ℕ) → SameValues old new → IsInPrimary d old conf → IsInPrimary d new conf
in-primary-as d old new conf same is =
    let as_new : Held = record old { id = new.id; prim = new.prim; vulnerable = new.vulnerable; yellow_valid = new.yellow_valid } in
    let x : IsInPrimary d as_new conf = subst (λ (h : Held). IsInPrimary d h conf)
    (λ i. record old { id = sym same.id i; prim = sym same.prim i; vulnerable = sym same.vulnerable i; yellow_valid = sym same.yellow_valid i }) is in
    record { opened = x.opened; prim_conf = x.prim_conf; mine = x.mine; index = x.index; yellow_valid = x.yellow_valid }

pub in-attempt-as : (old new : Held) (o : Option Attempt) → SameValues old new → new.own ≡ old.own → IsInAttempt old o → IsInAttempt new o
in-attempt-as old new None same own is = absurd is
in-attempt-as old new (Some a) same own is =
    (same.vulnerable ∙ is.0 ∙ ap (λ p. Some (own_record a p)) (sym same.id), ap (λ (x : Primary). x.index) same.prim ∙ is.1, own ∙ is.2)

-- ---- by states

-- of a state of an attempt
pub attempting-data : (d : Chronicle) (h : Held) (phase : Phase) (state : State) → is_attempting state ≡ true → IsInAttempt h (attempt_of d (conf_at phase)) → HasModeData d h phase state
attempting-data d h phase (Construct at heard) is data_of = data_of
attempting-data d h phase (No at heard) is data_of = data_of
attempting-data d h phase Un is data_of = data_of
attempting-data d h phase RegPrim is data_of = absurd (let clash : false ≡ true = is in cc)
attempting-data d h phase TransPrim is data_of = absurd (let clash : false ≡ true = is in cc)
attempting-data d h phase (ExchangeStates at set heard) is data_of = absurd (let clash : false ≡ true = is in cc)
attempting-data d h phase (ExchangeActions at heard accepted) is data_of = absurd (let clash : false ≡ true = is in cc)
attempting-data d h phase (NonPrim regular) is data_of = absurd (let clash : false ≡ true = is in cc)
attempting-data d h phase Left is data_of = absurd (let clash : false ≡ true = is in cc)

pub from-attempting : (d : Chronicle) (h : Held) (phase : Phase) (state : State) → is_attempting state ≡ true → HasModeData d h phase state → IsInAttempt h (attempt_of d (conf_at phase))
from-attempting d h phase (Construct at heard) is data_of = data_of
from-attempting d h phase (No at heard) is data_of = data_of
from-attempting d h phase Un is data_of = data_of
from-attempting d h phase RegPrim is data_of = absurd (let clash : false ≡ true = is in cc)
from-attempting d h phase TransPrim is data_of = absurd (let clash : false ≡ true = is in cc)
from-attempting d h phase (ExchangeStates at set heard) is data_of = absurd (let clash : false ≡ true = is in cc)
from-attempting d h phase (ExchangeActions at heard accepted) is data_of = absurd (let clash : false ≡ true = is in cc)
from-attempting d h phase (NonPrim regular) is data_of = absurd (let clash : false ≡ true = is in cc)
from-attempting d h phase Left is data_of = absurd (let clash : false ≡ true = is in cc)

pub from-primary : (d : Chronicle) (h : Held) (phase : Phase) (state : State) → is_primary state ≡ true → HasModeData d h phase state → IsInPrimary d h (conf_at phase)
from-primary d h phase RegPrim is data_of = data_of.0
from-primary d h phase TransPrim is data_of = data_of.0
from-primary d h phase (Construct at heard) is data_of = absurd (let clash : false ≡ true = is in cc)
from-primary d h phase (No at heard) is data_of = absurd (let clash : false ≡ true = is in cc)
from-primary d h phase Un is data_of = absurd (let clash : false ≡ true = is in cc)
from-primary d h phase (ExchangeStates at set heard) is data_of = absurd (let clash : false ≡ true = is in cc)
from-primary d h phase (ExchangeActions at heard accepted) is data_of = absurd (let clash : false ≡ true = is in cc)
from-primary d h phase (NonPrim regular) is data_of = absurd (let clash : false ≡ true = is in cc)
from-primary d h phase Left is data_of = absurd (let clash : false ≡ true = is in cc)

-- of a state beside both
pub beside-data : (d : Chronicle) (h : Held) (phase : Phase) (state : State) → is_attempting state ≡ false → is_primary state ≡ false → h.own ≡ [] → HasModeData d h phase state
beside-data d h phase (ExchangeStates at set heard) a b none = none
beside-data d h phase (ExchangeActions at heard accepted) a b none = none
beside-data d h phase (NonPrim regular) a b none = tt
beside-data d h phase Left a b none = tt
beside-data d h phase RegPrim a b none = absurd (let clash : true ≡ false = b in cc)
beside-data d h phase TransPrim a b none = absurd (let clash : true ≡ false = b in cc)
beside-data d h phase (Construct at heard) a b none = absurd (let clash : true ≡ false = a in cc)
beside-data d h phase (No at heard) a b none = absurd (let clash : true ≡ false = a in cc)
beside-data d h phase Un a b none = absurd (let clash : true ≡ false = a in cc)

pub parted-data : (d : Chronicle) (h : Held) (phase : Phase) (state : State) → is_parted state ≡ true → is_attempting state ≡ false → is_primary state ≡ false → HasModeData d h phase state
parted-data d h phase (NonPrim regular) p a b = tt
parted-data d h phase Left p a b = tt
parted-data d h phase (ExchangeStates at set heard) p a b = absurd (let clash : false ≡ true = p in cc)
parted-data d h phase (ExchangeActions at heard accepted) p a b = absurd (let clash : false ≡ true = p in cc)
parted-data d h phase RegPrim p a b = absurd (let clash : true ≡ false = b in cc)
parted-data d h phase TransPrim p a b = absurd (let clash : true ≡ false = b in cc)
parted-data d h phase (Construct at heard) p a b = absurd (let clash : true ≡ false = a in cc)
parted-data d h phase (No at heard) p a b = absurd (let clash : true ≡ false = a in cc)
parted-data d h phase Un p a b = absurd (let clash : true ≡ false = a in cc)

-- of a regular member of a primary component
pub primary-data : (d : Chronicle) (h : Held) (phase : Phase) (state : State) → is_primary state ≡ true → is_trans state ≡ false → IsInPrimary d h (conf_at phase) → h.queue.reds ≡ [] → h.queue.yellow ≡ [] → HasModeData d h phase state
primary-data d h phase RegPrim p n is reds yellow = (is, reds, yellow)
primary-data d h phase TransPrim p n is reds yellow = absurd (let clash : true ≡ false = n in cc)
primary-data d h phase (Construct at heard) p n is reds yellow = absurd (let clash : false ≡ true = p in cc)
primary-data d h phase (No at heard) p n is reds yellow = absurd (let clash : false ≡ true = p in cc)
primary-data d h phase Un p n is reds yellow = absurd (let clash : false ≡ true = p in cc)
primary-data d h phase (ExchangeStates at set heard) p n is reds yellow = absurd (let clash : false ≡ true = p in cc)
primary-data d h phase (ExchangeActions at heard accepted) p n is reds yellow = absurd (let clash : false ≡ true = p in cc)
primary-data d h phase (NonPrim regular) p n is reds yellow = absurd (let clash : false ≡ true = p in cc)
primary-data d h phase Left p n is reds yellow = absurd (let clash : false ≡ true = p in cc)

-- ---- the last announcement makes all green

pub construct-lists : (start : List Weighted) (all : List Action) (t : Turn) (from : ℕ) (m : Msg) (conf : ℕ) (heard : List ℕ) → t.replica.state ≡ Construct conf heard → IsOneself start t.replica.held all →
    is_primary (on_message (Construct conf heard) from m t).replica.state ≡ true → NothingRed (on_message (Construct conf heard) from m t)
unfolding on_message
construct-lists start all t from (Cpc id of_conf) conf heard at is primary = one (is_announced t.replica.held conf from id of_conf) (is_within (attempt_set t.replica.held) (with_member heard from)) primary where
  one : (b n : Bool) → is_primary (cond b (cond n (go_to (install t) RegPrim) (go_to t (Construct conf (with_member heard from)))) t).replica.state ≡ true →
      NothingRed (cond b (cond n (go_to (install t) RegPrim) (go_to t (Construct conf (with_member heard from)))) t)
  one true true e = record { reds = (installed-all start all t is).reds; yellow = no-yellow t }
  one true false e = absurd (let clash : false ≡ true = e in cc)
  one false n e = absurd (let clash : false ≡ true = sym (ap is_primary at) ∙ e in cc)
construct-lists start all t from (ActionMsg a) conf heard at is primary = absurd (let clash : false ≡ true = sym (ap is_primary at) ∙ primary in cc)
construct-lists start all t from (StateMsg s) conf heard at is primary = absurd (let clash : false ≡ true = sym (ap is_primary at) ∙ primary in cc)
construct-lists start all t from (GreenItem place a) conf heard at is primary = absurd (let clash : false ≡ true = sym (ap is_primary at) ∙ primary in cc)
construct-lists start all t from (RedItem a) conf heard at is primary = absurd (let clash : false ≡ true = sym (ap is_primary at) ∙ primary in cc)

-- ---- what is recorded

pub quiet-flow : (old new : Replica) → IsQuiet old new → Flow old new
quiet-flow old new quiet = record {
  id = quiet.values.id;
  attempting = quiet.attempting;
  primary = quiet.primary;
  recorded = λ k e. ap (is_record_of k) (sym quiet.values.vulnerable) ∙ e;
}

decided-recorded : (heard : List Summary) (k : ℕ) (v : Option Vulnerable) → is_record_of k (decided heard v) ≡ true → is_record_of k v ≡ true
decided-recorded heard k None e = e
decided-recorded heard k (Some v) e = at (is_cleared heard v) e where
  at : (b : Bool) → is_record_of k (cond b None (Some (record v { bits = all_bits heard v.attempt }))) ≡ true → is_record_of k (Some v) ≡ true
  at true e = absurd (let clash : false ≡ true = e in cc)
  at false e = e

pub decided-flow : (heard : List Summary) (old new : Replica) → is_attempting old.state ≡ false → is_primary old.state ≡ false → HasDecided heard old new → Flow old new
decided-flow heard old new a b done = record {
  id = done.id;
  attempting = ap is_attempting done.state ∙ sym a;
  primary = ap is_primary done.state ∙ sym b;
  recorded = λ k e. decided-recorded heard k old.held.vulnerable (ap (is_record_of k) (sym done.vulnerable) ∙ e);
}

-- A replica that installs its attempt in a parting does so by an action that was said in the configuration.
use Rattle.std.proofs.Common.{◌⊎◌, ◌≡◌, ℕ, Bool, true, false, cond, List, [], ◌∷◌, Option, Some, None, is_some, refl, sym, ap, ◌∙◌, subst, inl, inr}
use Rattle.std.specs.Option.{option_map_or}
use Rattle.std.proofs.lemmas.List.Sums.{fold-append}
use Rattle.cg_base.specs.Sets.{with_member, is_within}
use Rattle.cg_base.specs.Lists.{at_place}
use Rattle.cg_wire.specs.declared.message.Msg.{Msg}
use Rattle.cg_wire.specs.declared.message.Msg.TheVariants.{Action as ActionMsg, State as StateMsg, GreenItem, RedItem, Cpc}
use Rattle.cg_group.specs.declared.delivery.Delivery.TheVariants.{Message}
use Rattle.cg_group.specs.State.{GroupState, Configuration, Sent, home}
use Rattle.cg_group.specs.Events.{delivery_at, deliveries_at}
use Rattle.cg_client.specs.Replica.{State, RegPrim, TransPrim, ExchangeStates, ExchangeActions, Construct, No, Un, NonPrim, Left, Replica}
use Rattle.cg_client.specs.Turn.{Turn, begin, go_to}
use Rattle.cg_states.specs.Construct.{attempt_set, is_announced}
use Rattle.cg_states.specs.No.{no_with}
use Rattle.cg_states.specs.ReplicaStep.{on_message, on_transitional, after_delivery}
use Rattle.cg_model.specs.Talk.{act_in}
use Rattle.cg_model.specs.FactsReplica.{is_attempting, is_primary}
use Rattle.cg_model.specs.Small.{take_all, take_parting}
use Rattle.cg_agree_lemmas.specs.TurnKinds.{IsQuiet, HasInstalled}
use Rattle.cg_agree_lemmas.specs.TurnParts.{is_parted, HasParted, never-both, parted-then, parted-first, parted-message, stays-parted}

-- a replica that was attempting is a member of a primary component behind a message: it was an action
primary-by : (state : State) (from : ℕ) (m : Msg) (t : Turn) → t.replica.state ≡ state → is_parted state ≡ true → is_attempting state ≡ true →
    is_primary (on_message state from m t).replica.state ≡ true → is_some (act_in m) ≡ true
unfolding on_message
primary-by (No conf heard) from (ActionMsg a) t is parted attempting primary = refl
primary-by (No conf heard) from (StateMsg s) t is parted attempting primary = absurd (let clash : false ≡ true = sym (ap is_primary is) ∙ primary in cc)
primary-by (No conf heard) from (GreenItem at a) t is parted attempting primary = absurd (let clash : false ≡ true = sym (ap is_primary is) ∙ primary in cc)
primary-by (No conf heard) from (RedItem a) t is parted attempting primary = absurd (let clash : false ≡ true = sym (ap is_primary is) ∙ primary in cc)
primary-by (No conf heard) from (Cpc id of_conf) t is parted attempting primary =
    let all = with_member heard from in
    absurd (let clash : false ≡ true = sym (one-of (is_announced t.replica.held conf from id of_conf) (no_with t conf all) t
    (one-of (is_within (attempt_set t.replica.held) all) (go_to t Un) (go_to t (No conf all)) refl refl) (ap is_primary is)) ∙ primary in cc) where
      one-of : (b : Bool) (u v : Turn) → is_primary u.replica.state ≡ false → is_primary v.replica.state ≡ false → is_primary (cond b u v).replica.state ≡ false
      one-of true u v one two = one
      one-of false u v one two = two
primary-by Un from (ActionMsg a) t is parted attempting primary = refl
primary-by Un from (StateMsg s) t is parted attempting primary = absurd (let clash : false ≡ true = sym (ap is_primary is) ∙ primary in cc)
primary-by Un from (GreenItem at a) t is parted attempting primary = absurd (let clash : false ≡ true = sym (ap is_primary is) ∙ primary in cc)
primary-by Un from (RedItem a) t is parted attempting primary = absurd (let clash : false ≡ true = sym (ap is_primary is) ∙ primary in cc)
primary-by Un from (Cpc id of_conf) t is parted attempting primary = absurd (let clash : false ≡ true = sym (ap is_primary is) ∙ primary in cc)
primary-by RegPrim from m t is parted attempting primary = absurd (let clash : false ≡ true = parted in cc)
primary-by TransPrim from m t is parted attempting primary = absurd (let clash : false ≡ true = attempting in cc)
primary-by (ExchangeStates conf set heard) from m t is parted attempting primary = absurd (let clash : false ≡ true = parted in cc)
primary-by (ExchangeActions conf heard accepted) from m t is parted attempting primary = absurd (let clash : false ≡ true = parted in cc)
primary-by (Construct conf heard) from m t is parted attempting primary = absurd (let clash : false ≡ true = parted in cc)
primary-by (NonPrim regular) from m t is parted attempting primary = absurd (let clash : false ≡ true = attempting in cc)
primary-by Left from m t is parted attempting primary = absurd (let clash : false ≡ true = attempting in cc)

-- an action stands at a place
pub record IsActAt (conf : Configuration Msg) : Type 0 where
  pub place : ℕ
  pub sent : Sent Msg
  pub found : at_place conf.ordered place ≡ Some sent
  pub act : is_some (act_in sent.message) ≡ true

abbrev pub PartedBy : Configuration Msg → Replica → Replica → Type 0
PartedBy conf old new = IsQuiet old new ⊎ (HasInstalled old new × IsActAt conf)

pub parted-of : (conf : Configuration Msg) (old new : Replica) → PartedBy conf old new → HasParted old new
parted-of conf old new (inl quiet) = inl quiet
parted-of conf old new (inr done) = inr done.0

step-by : (conf : Configuration Msg) (place : ℕ) (s : Sent Msg) (t : Turn) → at_place conf.ordered place ≡ Some s → is_parted t.replica.state ≡ true →
    PartedBy conf t.replica (on_message t.replica.state s.from s.message t).replica
step-by conf place s t e parted = at (parted-message t.replica.state s.from s.message t refl parted) where
  at : HasParted t.replica (on_message t.replica.state s.from s.message t).replica → PartedBy conf t.replica (on_message t.replica.state s.from s.message t).replica
  at (inl quiet) = inl quiet
  at (inr done) = inr (done, record { place = place; sent = s; found = e; act = primary-by t.replica.state s.from s.message t refl parted done.before done.after })

by-then : (conf : Configuration Msg) (a b e : Replica) → PartedBy conf a b → PartedBy conf b e → PartedBy conf a e
by-then conf a b e one two = at one two (parted-then a b e (parted-of conf a b one) (parted-of conf b e two)) where
  at : PartedBy conf a b → PartedBy conf b e → HasParted a e → PartedBy conf a e
  at one two (inl quiet) = inl quiet
  at (inr done) two (inr both) = inr (both, done.1)
  at (inl quiet) (inr done) (inr both) = inr (both, done.1)
  at (inl quiet) (inl still) (inr both) = absurd (never both quiet still) where
    never : HasInstalled a e → IsQuiet a b → IsQuiet b e → ⊥
    never both quiet still = never-both e.state (still.attempting ∙ quiet.attempting ∙ both.before) both.after

place-by : (r : Replica) (conf : Configuration Msg) (place : ℕ) (t : Turn) → PartedBy conf r t.replica → is_parted t.replica.state ≡ true →
    (let u = take_all (delivery_at conf place) t in PartedBy conf r u.replica × (is_parted u.replica.state ≡ true))
unfolding delivery_at after_delivery
place-by r conf place t so parted = at (at_place conf.ordered place) refl where
  at : (o : Option (Sent Msg)) → at_place conf.ordered place ≡ o →
      (let u = take_all (option_map_or (λ s. Message place s.from s.message ∷ []) o []) t in PartedBy conf r u.replica × (is_parted u.replica.state ≡ true))
  at None e = (so, parted)
  at (Some s) e =
      let u = on_message t.replica.state s.from s.message t in
      (by-then conf r t.replica u.replica so (step-by conf place s t e parted), stays-parted t.replica.state s.from s.message t refl parted)

places-by : (r : Replica) (conf : Configuration Msg) (places : List ℕ) (t : Turn) → PartedBy conf r t.replica → is_parted t.replica.state ≡ true →
    PartedBy conf r (take_all (deliveries_at conf places) t).replica
places-by r conf [] t so parted = so
places-by r conf (place ∷ places) t so parted =
    let next = place-by r conf place t so parted in
    subst (λ (u : Turn). PartedBy conf r u.replica) (sym (fold-append after_delivery t (delivery_at conf place) (deliveries_at conf places)))
    (places-by r conf places (take_all (delivery_at conf place) t) next.0 next.1)

-- what a parting makes of a replica
pub parting-by : (g : GroupState Msg) (p : ℕ) (set places : List ℕ) (r : Replica) → PartedBy (home g p) r (take_parting g p set places (begin r)).replica
unfolding after_delivery
parting-by g p set places r =
    let first = parted-first r.state (begin r) refl in
    places-by r (home g p) places (on_transitional r.state (begin r)) (inl first.0) first.1

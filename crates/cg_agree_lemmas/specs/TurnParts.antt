-- What each turn makes of a replica: of the next place, of a parting, of a new configuration, and of requests.
use Rattle.std.proofs.Common.{◌⊎◌, ◌≡◌, ℕ, suc, Bool, true, false, cond, List, [], ◌∷◌, Option, Some, None, refl, sym, ap, ◌∙◌, subst, inl, inr}
use Rattle.std.specs.Option.{option_map_or}
use Rattle.std.proofs.lemmas.List.Sums.{fold-append}
use Rattle.cg_base.specs.Lists.{at_place}
use Rattle.cg_action.specs.declared.action.Kind.{Kind}
use Rattle.cg_records.specs.declared.vulnerable.Vulnerable.{Vulnerable}
use Rattle.cg_knowledge.specs.declared.summary.Summary.{Summary}
use Rattle.cg_wire.specs.declared.message.Msg.{Msg}
use Rattle.cg_wire.specs.declared.message.Msg.TheVariants.{Action as ActionMsg, State as StateMsg, GreenItem, RedItem, Cpc}
use Rattle.cg_group.specs.declared.delivery.Delivery.TheVariants.{Message}
use Rattle.cg_group.specs.State.{GroupState, Configuration, Sent, home, delivered_to, configuration}
use Rattle.cg_group.specs.Events.{delivery_at, deliveries_at}
use Rattle.cg_client.specs.Replica.{Held, State, RegPrim, TransPrim, ExchangeStates, ExchangeActions, Construct, No, Un, NonPrim, Left, Replica}
use Rattle.cg_client.specs.Turn.{Turn, begin, with_held, go_to}
use Rattle.cg_client.specs.Requests.{settle, request, request_in, create_kept, is_creating}
use Rattle.cg_client.specs.Install.{prim_after}
use Rattle.cg_client.specs.Summary.{enter_exchange}
use Rattle.cg_states.specs.TransPrim.{end_prim}
use Rattle.cg_base.specs.Sets.{is_within, with_member}
use Rattle.cg_states.specs.Construct.{attempt_set, is_announced}
use Rattle.cg_states.specs.No.{no_record, no_with}
use Rattle.cg_states.specs.ReplicaStep.{on_message, on_transitional, on_regular, after_delivery}
use Rattle.cg_model.specs.FactsReplica.{is_attempting, is_primary}
use Rattle.cg_model.specs.Small.{take_all, take_newest, take_next, take_parting, take_request, newest_conf}
use Rattle.cg_model.specs.Smalls.{is_between}
use Rattle.cg_agree_lemmas.specs.TurnValues.{SameValues, same-values, even-settle, even-request, even-own_to_red, even-mark_yellow, even-mark_red}
use Rattle.cg_agree_lemmas.specs.TurnKinds.{IsStill, still-refl, IsQuiet, HasInstalled, Turned, Quiet, Installs, Decides, Attempts, EndsWith, quiet-of, quiet-then, quiet-go_to, installed-then, message-turned}

quiet-none : (r : Replica) → IsQuiet r r
quiet-none r = record { values = same-values r.held; attempting = refl; primary = refl; still = λ is. still-refl r.held }

-- ---- the next place

-- the message at a place, where there is one, and what it makes of the replica
pub data NextTurned (g : GroupState Msg) (p : ℕ) (r new : Replica) : Type 0 where
  Nothing : (same : IsQuiet r new) → NextTurned g p r new
  Something : (s : Sent Msg) (found : at_place (home g p).ordered (suc (delivered_to g p)) ≡ Some s) (turned : Turned r new s.message) → NextTurned g p r new

pub next-turned : (g : GroupState Msg) (p : ℕ) (r : Replica) → NextTurned g p r (take_next g p (begin r)).replica
unfolding delivery_at after_delivery
next-turned g p r = at (at_place (home g p).ordered (suc (delivered_to g p))) refl where
  at : (o : Option (Sent Msg)) → at_place (home g p).ordered (suc (delivered_to g p)) ≡ o →
      NextTurned g p r (take_all (option_map_or (λ s. Message (suc (delivered_to g p)) s.from s.message ∷ []) o []) (begin r)).replica
  at None e = Nothing (quiet-none r)
  at (Some s) e = Something s e (message-turned r.state s.from s.message (begin r) refl)

-- ---- requests

never-creates : (state : State) → is_attempting state ≡ true → is_creating state ≡ false
never-creates RegPrim e = absurd (let clash : false ≡ true = e in cc)
never-creates TransPrim e = refl
never-creates (ExchangeStates conf set heard) e = refl
never-creates (ExchangeActions conf heard accepted) e = refl
never-creates (Construct conf heard) e = refl
never-creates (No conf heard) e = refl
never-creates Un e = refl
never-creates (NonPrim regular) e = absurd (let clash : false ≡ true = e in cc)
never-creates Left e = refl

buffers : (state : State) (t : Turn) (kind : Kind) → is_attempting state ≡ true → IsStill t.replica.held (request_in state t kind).replica.held
buffers RegPrim t kind e = absurd (let clash : false ≡ true = e in cc)
buffers TransPrim t kind e = absurd (let clash : false ≡ true = e in cc)
buffers (ExchangeStates conf set heard) t kind e = absurd (let clash : false ≡ true = e in cc)
buffers (ExchangeActions conf heard accepted) t kind e = absurd (let clash : false ≡ true = e in cc)
buffers (Construct conf heard) t kind e = record { queue = refl; members = refl; own = refl }
buffers (No conf heard) t kind e = record { queue = refl; members = refl; own = refl }
buffers Un t kind e = record { queue = refl; members = refl; own = refl }
buffers (NonPrim regular) t kind e = absurd (let clash : false ≡ true = e in cc)
buffers Left t kind e = absurd (let clash : false ≡ true = e in cc)

pub settle-quiet : (r : Replica) → IsQuiet r (settle (begin r)).replica
settle-quiet r = quiet-of (begin r) (settle (begin r)) (even-settle (begin r)) (settles r.state refl) where
  settles : (state : State) → r.state ≡ state → is_attempting r.state ≡ true → IsStill r.held (settle (begin r)).replica.held
  settles state is attempting = subst (λ b. IsStill r.held (cond b (create_kept (begin r)) (begin r)).replica.held) (sym (idle state is attempting)) (still-refl r.held) where
    idle : (state : State) → r.state ≡ state → is_attempting r.state ≡ true → is_creating r.state ≡ false
    idle state is attempting = ap is_creating is ∙ never-creates state (sym (ap is_attempting is) ∙ attempting)

pub request-quiet : (kind : Kind) (r : Replica) → IsQuiet r (take_request kind (begin r)).replica
request-quiet kind r = quiet-of (begin r) (request (begin r) kind) (even-request (begin r) kind) (buffers r.state (begin r) kind)

-- ---- a parting

-- a replica behind its regular phase
abbrev pub is_parted : State → Bool
is_parted TransPrim = true
is_parted (No conf heard) = true
is_parted Un = true
is_parted (NonPrim regular) = true
is_parted Left = true
is_parted _ = false

-- it attempts and installs as before, or has installed its attempt
abbrev pub HasParted : Replica → Replica → Type 0
HasParted old new = IsQuiet old new ⊎ HasInstalled old new

-- no state is both of an attempt and of a primary component
pub never-both : (state : State) → is_attempting state ≡ true → is_primary state ≡ true → ⊥
never-both RegPrim a b = let clash : false ≡ true = a in cc
never-both TransPrim a b = let clash : false ≡ true = a in cc
never-both (ExchangeStates conf set heard) a b = let clash : false ≡ true = a in cc
never-both (ExchangeActions conf heard accepted) a b = let clash : false ≡ true = a in cc
never-both (Construct conf heard) a b = let clash : false ≡ true = b in cc
never-both (No conf heard) a b = let clash : false ≡ true = b in cc
never-both Un a b = let clash : false ≡ true = b in cc
never-both (NonPrim regular) a b = let clash : false ≡ true = a in cc
never-both Left a b = let clash : false ≡ true = a in cc

-- the primary component of an attempt depends on the members, their weights, and the index
prim-like : (a b : Held) → IsStill a b → SameValues a b → prim_after b b.vulnerable ≡ prim_after a a.vulnerable
prim-like a b still same i = prim_after (record a { prim = same.prim i; members = still.members i }) (same.vulnerable i)

pub parted-then : (a b e : Replica) → HasParted a b → HasParted b e → HasParted a e
parted-then a b e (inl one) (inl two) = inl (quiet-then a b e one two)
parted-then a b e (inr one) (inl two) = inr (installed-then a b e one two)
parted-then a b e (inl one) (inr two) = inr (record {
  id = two.id ∙ one.values.id;
  prim = two.prim ∙ prim-like a.held b.held (one.still (sym one.attempting ∙ two.before)) one.values;
  vulnerable = two.vulnerable ∙ one.values.vulnerable;
  yellow_valid = two.yellow_valid;
  before = sym one.attempting ∙ two.before;
  after = two.after;
})
parted-then a b e (inr one) (inr two) = absurd (never-both b.state two.before one.after)

pub parted-first : (state : State) (t : Turn) → t.replica.state ≡ state → IsQuiet t.replica (on_transitional state t).replica × (is_parted (on_transitional state t).replica.state ≡ true)
unfolding on_transitional
parted-first RegPrim t is = (quiet-go_to t TransPrim (sym (ap is_attempting is)) (sym (ap is_primary is)), refl)
parted-first (ExchangeStates conf set heard) t is = (quiet-go_to t (NonPrim false) (sym (ap is_attempting is)) (sym (ap is_primary is)), refl)
parted-first (ExchangeActions conf heard accepted) t is = (quiet-go_to t (NonPrim false) (sym (ap is_attempting is)) (sym (ap is_primary is)), refl)
parted-first (Construct conf heard) t is = (quiet-go_to t (No conf heard) (sym (ap is_attempting is)) (sym (ap is_primary is)), refl)
parted-first (NonPrim regular) t is = (quiet-go_to t (NonPrim false) (sym (ap is_attempting is)) (sym (ap is_primary is)), refl)
parted-first TransPrim t is = (quiet-none t.replica, ap is_parted is)
parted-first (No conf heard) t is = (quiet-none t.replica, ap is_parted is)
parted-first Un t is = (quiet-none t.replica, ap is_parted is)
parted-first Left t is = (quiet-none t.replica, ap is_parted is)

-- no plan is under way there
no-plan : (state : State) (m : Msg) (conf : ℕ) (heard : List Summary) → is_parted state ≡ true → EndsWith state m conf heard → ⊥
no-plan RegPrim m conf heard parted ends = ends
no-plan TransPrim m conf heard parted ends = ends
no-plan (ExchangeStates at set all) m conf heard parted ends = let clash : false ≡ true = parted in cc
no-plan (ExchangeActions at all accepted) m conf heard parted ends = let clash : false ≡ true = parted in cc
no-plan (Construct at all) m conf heard parted ends = ends
no-plan (No at all) m conf heard parted ends = ends
no-plan Un m conf heard parted ends = ends
no-plan (NonPrim regular) m conf heard parted ends = ends
no-plan Left m conf heard parted ends = ends

pub parted-message : (state : State) (from : ℕ) (m : Msg) (t : Turn) → t.replica.state ≡ state → is_parted state ≡ true →
    HasParted t.replica (on_message state from m t).replica
parted-message state from m t is parted = of_kind (message-turned state from m t is) where
  of_kind : Turned t.replica (on_message state from m t).replica m → HasParted t.replica (on_message state from m t).replica
  of_kind (Quiet quiet) = inl quiet
  of_kind (Installs installed) = inr installed
  of_kind (Decides conf heard ends decided) = absurd (no-plan t.replica.state m conf heard (ap is_parted is ∙ parted) ends)
  of_kind (Attempts conf heard ends attempted) = absurd (no-plan t.replica.state m conf heard (ap is_parted is ∙ parted) ends)

pub stays-parted : (state : State) (from : ℕ) (m : Msg) (t : Turn) → t.replica.state ≡ state → is_parted state ≡ true → is_parted (on_message state from m t).replica.state ≡ true
unfolding on_message
stays-parted TransPrim from (ActionMsg a) t is parted = ap is_parted (even-mark_yellow t a).state ∙ ap is_parted is
stays-parted TransPrim from (StateMsg s) t is parted = ap is_parted is
stays-parted TransPrim from (GreenItem at a) t is parted = ap is_parted is
stays-parted TransPrim from (RedItem a) t is parted = ap is_parted is
stays-parted TransPrim from (Cpc id of_conf) t is parted = ap is_parted is
stays-parted (No conf heard) from (ActionMsg a) t is parted = ap is_parted is
stays-parted (No conf heard) from (StateMsg s) t is parted = ap is_parted is
stays-parted (No conf heard) from (GreenItem at a) t is parted = ap is_parted is
stays-parted (No conf heard) from (RedItem a) t is parted = ap is_parted is
stays-parted (No conf heard) from (Cpc id of_conf) t is parted =
    let all = with_member heard from in
    one-of (is_announced t.replica.held conf from id of_conf) (no_with t conf all) t
    (one-of (is_within (attempt_set t.replica.held) all) (go_to t Un) (go_to t (No conf all)) refl refl) (ap is_parted is) where
      one-of : (b : Bool) (u v : Turn) → is_parted u.replica.state ≡ true → is_parted v.replica.state ≡ true → is_parted (cond b u v).replica.state ≡ true
      one-of true u v one two = one
      one-of false u v one two = two
stays-parted Un from (ActionMsg a) t is parted = refl
stays-parted Un from (StateMsg s) t is parted = ap is_parted is
stays-parted Un from (GreenItem at a) t is parted = ap is_parted is
stays-parted Un from (RedItem a) t is parted = ap is_parted is
stays-parted Un from (Cpc id of_conf) t is parted = ap is_parted is
stays-parted (NonPrim regular) from (ActionMsg a) t is parted = ap is_parted (even-mark_red t a).state ∙ ap is_parted is
stays-parted (NonPrim regular) from (StateMsg s) t is parted = ap is_parted is
stays-parted (NonPrim regular) from (GreenItem at a) t is parted = ap is_parted is
stays-parted (NonPrim regular) from (RedItem a) t is parted = ap is_parted is
stays-parted (NonPrim regular) from (Cpc id of_conf) t is parted = ap is_parted is
stays-parted Left from (ActionMsg a) t is parted = ap is_parted is
stays-parted Left from (StateMsg s) t is parted = ap is_parted is
stays-parted Left from (GreenItem at a) t is parted = ap is_parted is
stays-parted Left from (RedItem a) t is parted = ap is_parted is
stays-parted Left from (Cpc id of_conf) t is parted = ap is_parted is
stays-parted RegPrim from m t is parted = absurd (let clash : false ≡ true = parted in cc)
stays-parted (ExchangeStates conf set heard) from m t is parted = absurd (let clash : false ≡ true = parted in cc)
stays-parted (ExchangeActions conf heard accepted) from m t is parted = absurd (let clash : false ≡ true = parted in cc)
stays-parted (Construct conf heard) from m t is parted = absurd (let clash : false ≡ true = parted in cc)

-- the message of a place
parted-place : (r : Replica) (conf : Configuration Msg) (place : ℕ) (t : Turn) → HasParted r t.replica → is_parted t.replica.state ≡ true →
    (let u = take_all (delivery_at conf place) t in HasParted r u.replica × (is_parted u.replica.state ≡ true))
unfolding delivery_at after_delivery
parted-place r conf place t so parted = at (at_place conf.ordered place) where
  at : (o : Option (Sent Msg)) →
      (let u = take_all (option_map_or (λ s. Message place s.from s.message ∷ []) o []) t in HasParted r u.replica × (is_parted u.replica.state ≡ true))
  at None = (so, parted)
  at (Some s) =
      let u = on_message t.replica.state s.from s.message t in
      (parted-then r t.replica u.replica so (parted-message t.replica.state s.from s.message t refl parted), stays-parted t.replica.state s.from s.message t refl parted)

parted-places : (r : Replica) (conf : Configuration Msg) (places : List ℕ) (t : Turn) → HasParted r t.replica → is_parted t.replica.state ≡ true →
    HasParted r (take_all (deliveries_at conf places) t).replica
parted-places r conf [] t so parted = so
parted-places r conf (place ∷ places) t so parted =
    let next = parted-place r conf place t so parted in
    subst (λ (u : Turn). HasParted r u.replica) (sym (fold-append after_delivery t (delivery_at conf place) (deliveries_at conf places)))
    (parted-places r conf places (take_all (delivery_at conf place) t) next.0 next.1)

-- what a parting makes of a replica
pub parting-turned : (g : GroupState Msg) (p : ℕ) (set places : List ℕ) (r : Replica) → HasParted r (take_parting g p set places (begin r)).replica
unfolding after_delivery
parting-turned g p set places r =
    let first = parted-first r.state (begin r) refl in
    parted-places r (home g p) places (on_transitional r.state (begin r)) (inl first.0) first.1

-- ---- a new configuration

-- what is known as a replica comes from a state: behind a primary component, or behind an attempt that was cut short, no record stays
abbrev pub record_left : State → Option Vulnerable → Option Vulnerable
record_left TransPrim v = None
record_left (No conf heard) v = None
record_left _ v = v

abbrev pub valid_left : State → Bool → Bool
valid_left TransPrim b = true
valid_left _ b = b

pub record HasCome (old new : Replica) (conf : ℕ) (set : List ℕ) : Type 0 where
  pub id : new.held.id ≡ old.held.id
  pub prim : new.held.prim ≡ old.held.prim
  pub attempt_index : new.held.attempt_index ≡ old.held.attempt_index
  pub vulnerable : new.held.vulnerable ≡ record_left old.state old.held.vulnerable
  pub yellow_valid : new.held.yellow_valid ≡ valid_left old.state old.held.yellow_valid
  pub state : new.state ≡ ExchangeStates conf set []

comes-with : (r : Replica) (h : Held) (conf : ℕ) (set : List ℕ) → h.id ≡ r.held.id → h.prim ≡ r.held.prim → h.attempt_index ≡ r.held.attempt_index →
    h.vulnerable ≡ record_left r.state r.held.vulnerable → h.yellow_valid ≡ valid_left r.state r.held.yellow_valid →
    HasCome r (enter_exchange (with_held (begin r) h) conf set).replica conf set
unfolding enter_exchange
comes-with r h conf set id prim index vulnerable valid =
    let even = even-own_to_red (with_held (begin r) h) in
    record {
      id = even.values.id ∙ id;
      prim = even.values.prim ∙ prim;
      attempt_index = even.values.attempt_index ∙ index;
      vulnerable = even.values.vulnerable ∙ vulnerable;
      yellow_valid = even.values.yellow_valid ∙ valid;
      state = refl;
    }

comes : (state : State) (r : Replica) (conf : ℕ) (set : List ℕ) → r.state ≡ state → is_between state ≡ true → HasCome r (on_regular state conf set (begin r)).replica conf set
unfolding on_regular
comes TransPrim r conf set is between =
    comes-with r (end_prim r.held) conf set refl refl refl (ap (λ (s : State). record_left s r.held.vulnerable) (sym is)) (ap (λ (s : State). valid_left s r.held.yellow_valid) (sym is))
comes (No at heard) r conf set is between =
    comes-with r (no_record r.held) conf set refl refl refl (ap (λ (s : State). record_left s r.held.vulnerable) (sym is)) (ap (λ (s : State). valid_left s r.held.yellow_valid) (sym is))
comes Un r conf set is between =
    comes-with r r.held conf set refl refl refl (ap (λ (s : State). record_left s r.held.vulnerable) (sym is)) (ap (λ (s : State). valid_left s r.held.yellow_valid) (sym is))
comes (NonPrim regular) r conf set is between =
    comes-with r r.held conf set refl refl refl (ap (λ (s : State). record_left s r.held.vulnerable) (sym is)) (ap (λ (s : State). valid_left s r.held.yellow_valid) (sym is))
comes RegPrim r conf set is between = absurd (let clash : false ≡ true = between in cc)
comes (ExchangeStates at all heard) r conf set is between = absurd (let clash : false ≡ true = between in cc)
comes (ExchangeActions at heard accepted) r conf set is between = absurd (let clash : false ≡ true = between in cc)
comes (Construct at heard) r conf set is between = absurd (let clash : false ≡ true = between in cc)
comes Left r conf set is between = absurd (let clash : false ≡ true = between in cc)

-- what a new configuration makes of a replica
pub newest-come : (g : GroupState Msg) (r : Replica) → is_between r.state ≡ true →
    HasCome r (take_newest g (begin r)).replica (newest_conf g) (configuration g (newest_conf g)).members
unfolding after_delivery
newest-come g r between = comes r.state r (newest_conf g) (configuration g (newest_conf g)).members refl between

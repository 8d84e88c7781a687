-- In each small step what was received outside of a configuration with messages is fixed, and nobody comes back into it.
use Rattle.std.proofs.Common.{◌≡◌, ℕ, ◌<◌, Bool, true, false, not, List, [], ◌∷◌, length, fold, Option, refl, sym, ap, ◌∙◌, arith, eqb-true, eq-eqb, ⊎_elim}
use Rattle.std.specs.Prelude.{◌==◌}
use Rattle.std.specs.Option.{option_map_or}
use Rattle.std.proofs.lemmas.Bool.{cases_Bool, cond-true, cond-false, and_parts, not-true}
use Rattle.cg_base.specs.declared.weighted.Weighted.{Weighted}
use Rattle.cg_base.specs.Weights.{ids}
use Rattle.cg_wire.specs.declared.message.Msg.{Msg}
use Rattle.cg_group.specs.declared.phase.Phase.{Phase}
use Rattle.cg_group.specs.declared.phase.Phase.TheVariants.{Down, Alone, Regular}
use Rattle.cg_group.specs.State.{Configuration, Standing, phase_of, configuration, has_received}
use Rattle.cg_group.specs.Events.{with_message, with_receipt}
use Rattle.cg_group.specs.GrownLaws.{Grows, Grows-message, Grows-receipt}
use Rattle.cg_client.specs.Requests.{settle}
use Rattle.cg_model.specs.World.{World, has_begun}
use Rattle.cg_model.specs.Step.{begin_replica}
use Rattle.cg_model.specs.Chronicle.{Chronicle}
use Rattle.cg_model.specs.Looks.{conf_of, is_regular_at, is_regular_in, ordered_in}
use Rattle.cg_model.specs.FactsNet.{ReceiptsFixed, Hosted}
use Rattle.cg_model.specs.Small.{Small, Starts, Makes, Enters, Orders, Receives, Hands, Leaves, Asks, Settles, Commits, Crashes, Recovers, Copies, Joins, small_step, make_configuration, take_request}
use Rattle.cg_model.specs.Smalls.{may_make, is_running}
use Rattle.cg_agree_lemmas.specs.GroupKept.{begins-step, orders-conf, receives-conf, leaving-regular}
use Rattle.cg_agree_lemmas.specs.GroupSound.{GroupSound, ConfStep, inside-of, made-is}
use Rattle.cg_agree_lemmas.specs.NextThere.{orders-now, receives-now}
use Rattle.cg_agree_lemmas.specs.OneSteps.{OneStep, turns-step, hands-step, leaves-step, enters-step, commits-step, copies-step, crashes-step, recovers-step, joins-step, may-join, may-enter}
use Rattle.cg_agree_lemmas.specs.ReachSteps.{goes_on-kept, said-there}
use Rattle.cg_agree_lemmas.specs.OrdersWorld.{OrdersAt}

-- what is received outside
abbrev ReceiptsSame : Chronicle → Chronicle → Type 0
ReceiptsSame c d =
    (conf p place : ℕ) → 0 < length (ordered_in c conf) → is_regular_in c conf p ≡ false → has_received (conf_of d conf) p place ≡ has_received (conf_of c conf) p place

same-one : (c d : Chronicle) (p : ℕ) (now : Phase) (n : ℕ) (is : Bool) → OneStep c d p now n is → ReceiptsSame c d
same-one c d p now n is step conf q place some out = ap (λ (x : Configuration Msg). has_received x q place) (step.stands.conf conf)

-- what one regular member does in a configuration others don't feel
same-grown : (c d : Chronicle) (conf p : ℕ) (D : Configuration Msg) → ConfStep c d conf D → Grows p (conf_of c conf) D → phase_of c.world.group p ≡ Regular conf → ReceiptsSame c d
same-grown c d conf p D step grows regular k q place some out = ⊎_elim
    (λ y.
    let is : k ≡ conf = eqb-true k conf y in
    let other : q ≡ p → ⊥ = λ e. (let clash : true ≡ false = sym (eq-eqb conf k (sym is)) ∙ sym (ap (is_regular_at k) regular) ∙ ap (λ x. is_regular_in c k x) (sym e) ∙ out in cc) in
    ap (λ (x : Configuration Msg). has_received x q place) (step.changed k ∙ cond-true (k == conf) D (conf_of c k) y) ∙ grows.others q place other
    ∙ ap (λ x. has_received (conf_of c x) q place) (sym is))
    (λ f. ap (λ (x : Configuration Msg). has_received x q place) (step.changed k ∙ cond-false (k == conf) D (conf_of c k) f))
    (cases_Bool (k == conf))

-- a configuration in which something is said is there before one is made
pub made-said : (c : Chronicle) (set : List ℕ) (k : ℕ) → 0 < length (ordered_in c k) → configuration (make_configuration c.world.group set) k ≡ conf_of c k
made-said c set k some = ⊎_elim (λ same. same)
    (λ new. absurd (let at = new.0 in let le = said-there k c some in omega arith)) (made-is c.world.group set k)

pub orders-phase : (c : Chronicle) (p conf : ℕ) (s : Standing Msg) (m : Msg) (rest : List Msg) → OrdersAt c p conf s m rest → phase_of c.world.group p ≡ Regular conf
orders-phase c p conf s m rest h = ap (λ (o : Option (Standing Msg)). option_map_or (λ s. s.phase) o Down) h.standing ∙ h.regular

pub confs-begun : (c : Chronicle) (set : List Weighted) (replicas : List ℕ) (w : World) (k : ℕ) → configuration (fold (begin_replica set) w replicas).group k ≡ configuration w.group k
confs-begun c set [] w k = refl
confs-begun c set (p ∷ replicas) w k = confs-begun c set replicas (begin_replica set w p) k ∙ (begins-step c set w p).stands.conf k

receipts-same : (c : Chronicle) (s : Small) → Hosted c → may_make c s ≡ true → GroupSound c → ReceiptsSame c (small_step c s)
unfolding small_step may_make
receipts-same c (Starts set) nodes m old = λ k q place some out. ap (λ (x : Configuration Msg). has_received x q place) (confs-begun c set (ids set) c.world k)
receipts-same c (Makes set) nodes m old = λ k q place some out.
    ap (λ (x : Configuration Msg). has_received x q place) (made-said c set k some)
receipts-same c (Enters p) nodes m old = same-one c _ p _ 0 true (enters-step c p old.phases (may-enter c p m).comes)
receipts-same c (Orders p) nodes m old =
    let next = orders-now c p old.phases (λ k. (old.confs k).places) m in
    same-grown c _ next.conf p (with_message (conf_of c next.conf) p next.message) (orders-conf c p next.conf next.stands next.message next.rest next.at)
    (Grows-message (conf_of c next.conf) p next.message (old.confs next.conf).places) (orders-phase c p next.conf next.stands next.message next.rest next.at)
receipts-same c (Receives p place) nodes m old =
    let next = receives-now c p place old.phases m in
    same-grown c _ next.conf p (with_receipt (conf_of c next.conf) p place) (receives-conf c p place next)
    (Grows-receipt (conf_of c next.conf) p place next.above next.within (old.confs next.conf).places) next.regular
receipts-same c (Hands p) nodes m old = same-one c _ p _ _ true (hands-step c p old.phases (and_parts _ _ m).0)
receipts-same c (Leaves p set own places) nodes m old = same-one c _ p _ own true (leaves-step c p set own places old.phases (leaving-regular c p set own places m))
receipts-same c (Asks p kind) nodes m old = same-one c _ p _ _ _ (turns-step c p (take_request kind) old.phases)
receipts-same c (Settles p) nodes m old = same-one c _ p _ _ _ (turns-step c p settle old.phases)
receipts-same c (Commits p) nodes m old = same-one c _ p _ _ _ (commits-step c p old.phases)
receipts-same c (Crashes p) nodes m old = same-one c _ p Down 0 false (crashes-step c p m)
receipts-same c (Recovers p) nodes m old =
    let parts = and_parts (has_begun c.world p) (not (is_running c p)) m in
    same-one c _ p Alone 0 true (recovers-step c p nodes parts.0 (not-true (is_running c p) parts.1))
receipts-same c (Copies p joiner) nodes m old = same-one c _ p _ _ _ (copies-step c p joiner old.phases)
receipts-same c (Joins joiner) nodes m old = same-one c _ joiner Alone 0 true (joins-step c joiner (may-join c joiner m))

pub receipts_fixed-kept : (c : Chronicle) (s : Small) → Hosted c → may_make c s ≡ true → GroupSound c → ReceiptsFixed c (small_step c s)
receipts_fixed-kept c s nodes may old = record {
  receipts = receipts-same c s nodes may old;
  stays_out = λ conf p some out. (goes_on-kept conf c s old.phases (inside-of c old) may some).stays p out;
}

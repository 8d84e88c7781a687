-- What all members of a configuration have received they have received ever after.
use Rattle.std.proofs.Common.{◌≡◌, ℕ, ◌<◌, ◌≤◌, Bool, true, false, not, length, ap, ◌∙◌, arith, eqb-true, ⊎_elim}
use Rattle.std.specs.Prelude.{◌==◌}
use Rattle.std.proofs.lemmas.Bool.{cases_Bool, cond-true, cond-false, and_parts, not-true}
use Rattle.cg_base.specs.Weights.{ids}
use Rattle.cg_wire.specs.declared.message.Msg.{Msg}
use Rattle.cg_group.specs.declared.phase.Phase.{Phase}
use Rattle.cg_group.specs.declared.phase.Phase.TheVariants.{Down, Alone}
use Rattle.cg_group.specs.State.{Configuration}
use Rattle.cg_group.specs.Events.{with_message, with_receipt}
use Rattle.cg_group.specs.GrownLaws.{Grows, Grows-message, Grows-receipt}
use Rattle.cg_client.specs.Requests.{settle}
use Rattle.cg_model.specs.World.{has_begun}
use Rattle.cg_model.specs.Chronicle.{Chronicle}
use Rattle.cg_model.specs.Looks.{conf_of, ordered_in, received_by_all}
use Rattle.cg_model.specs.FactsNet.{Hosted}
use Rattle.cg_model.specs.Small.{Small, Starts, Makes, Enters, Orders, Receives, Hands, Leaves, Asks, Settles, Commits, Crashes, Recovers, Copies, Joins, small_step, take_request}
use Rattle.cg_model.specs.Smalls.{may_make, is_running}
use Rattle.cg_agree_lemmas.specs.GroupKept.{orders-conf, receives-conf, leaving-regular}
use Rattle.cg_agree_lemmas.specs.GroupSound.{GroupSound, ConfStep}
use Rattle.cg_agree_lemmas.specs.NextThere.{orders-now, receives-now}
use Rattle.cg_agree_lemmas.specs.OneSteps.{OneStep, turns-step, hands-step, leaves-step, enters-step, commits-step, copies-step, crashes-step, recovers-step, joins-step, may-join, may-enter}
use Rattle.cg_agree.proofs.FixedKept.{confs-begun, made-said}
use Rattle.cg_agree_lemmas.specs.ConfSound.{by_all, by_all-grows}

-- each place that all members have received stays one
same-conf : (c d : Chronicle) (p : ℕ) (now : Phase) (n : ℕ) (is : Bool) → OneStep c d p now n is → (k : ℕ) → received_by_all c k ≤ received_by_all d k
same-conf c d p now n is step k = let e = ap by_all (step.stands.conf k) in omega (arith, e)

grown-conf : (c d : Chronicle) (conf p : ℕ) (D : Configuration Msg) → ConfStep c d conf D → Grows p (conf_of c conf) D → (k : ℕ) → received_by_all c k ≤ received_by_all d k
grown-conf c d conf p D step grows k = ⊎_elim
    (λ y.
    let e = ap by_all (step.changed k ∙ cond-true (k == conf) D (conf_of c k) y) in
    let same = ap (λ n. by_all (conf_of c n)) (eqb-true k conf y) in
    let le = by_all-grows p (conf_of c conf) D grows in omega (arith, e, same, le))
    (λ f. let e = ap by_all (step.changed k ∙ cond-false (k == conf) D (conf_of c k) f) in omega (arith, e))
    (cases_Bool (k == conf))

pub received-kept : (c : Chronicle) (s : Small) → Hosted c → may_make c s ≡ true → GroupSound c → (k : ℕ) → 0 < length (ordered_in c k) → received_by_all c k ≤ received_by_all (small_step c s) k
unfolding small_step may_make
received-kept c (Starts set) nodes m old k some = let e = ap by_all (confs-begun c set (ids set) c.world k) in omega (arith, e)
received-kept c (Makes set) nodes m old k some = let e = ap by_all (made-said c set k some) in omega (arith, e)
received-kept c (Enters p) nodes m old k some = same-conf c _ p _ 0 true (enters-step c p old.phases (may-enter c p m).comes) k
received-kept c (Orders p) nodes m old k some =
    let next = orders-now c p old.phases (λ k. (old.confs k).places) m in
    grown-conf c _ next.conf p (with_message (conf_of c next.conf) p next.message) (orders-conf c p next.conf next.stands next.message next.rest next.at)
    (Grows-message (conf_of c next.conf) p next.message (old.confs next.conf).places) k
received-kept c (Receives p place) nodes m old k some =
    let next = receives-now c p place old.phases m in
    grown-conf c _ next.conf p (with_receipt (conf_of c next.conf) p place) (receives-conf c p place next)
    (Grows-receipt (conf_of c next.conf) p place next.above next.within (old.confs next.conf).places) k
received-kept c (Hands p) nodes m old k some = same-conf c _ p _ _ true (hands-step c p old.phases (and_parts _ _ m).0) k
received-kept c (Leaves p set own places) nodes m old k some = same-conf c _ p _ own true (leaves-step c p set own places old.phases (leaving-regular c p set own places m)) k
received-kept c (Asks p kind) nodes m old k some = same-conf c _ p _ _ _ (turns-step c p (take_request kind) old.phases) k
received-kept c (Settles p) nodes m old k some = same-conf c _ p _ _ _ (turns-step c p settle old.phases) k
received-kept c (Commits p) nodes m old k some = same-conf c _ p _ _ _ (commits-step c p old.phases) k
received-kept c (Crashes p) nodes m old k some = same-conf c _ p Down 0 false (crashes-step c p m) k
received-kept c (Recovers p) nodes m old k some =
    let parts = and_parts (has_begun c.world p) (not (is_running c p)) m in
    same-conf c _ p Alone 0 true (recovers-step c p nodes parts.0 (not-true (is_running c p) parts.1)) k
received-kept c (Copies p joiner) nodes m old k some = same-conf c _ p _ _ _ (copies-step c p joiner old.phases) k
received-kept c (Joins joiner) nodes m old k some = same-conf c _ joiner Alone 0 true (joins-step c joiner (may-join c joiner m)) k

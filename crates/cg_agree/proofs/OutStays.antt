-- Who is in no phase of a configuration in which something was said comes into none.
use Rattle.std.proofs.Common.{◌≡◌, ℕ, zero, suc, ◌<◌, Bool, true, false, not, List, length, refl, sym, ap, subst, ◌∙◌, arith, inl, inr, eq-eqb}
use Rattle.std.specs.Prelude.{◌==◌}
use Rattle.std.proofs.lemmas.Bool.{cases_eq, cond-true, cond-false, and_parts, not-true, ne_eqb}
use Rattle.cg_base.specs.Weights.{ids}
use Rattle.cg_base.specs.Text.{is_nil}
use Rattle.cg_base.specs.ListLaws.{is_nil-none}
use Rattle.cg_group.specs.declared.phase.Phase.{Phase}
use Rattle.cg_group.specs.declared.phase.Phase.TheVariants.{Down, Alone, Regular, Transitional}
use Rattle.cg_group.specs.State.{phase_of, regular_in, configuration}
use Rattle.cg_client.specs.Requests.{settle}
use Rattle.cg_model.specs.World.{has_begun}
use Rattle.cg_model.specs.Chronicle.{Chronicle, no_chronicle}
use Rattle.cg_model.specs.Looks.{ordered_in, is_at, is_in}
use Rattle.cg_model.specs.FactsNet.{Hosted}
use Rattle.cg_model.specs.Small.{Small, Starts, Makes, Enters, Orders, Receives, Hands, Leaves, Asks, Settles, Commits, Crashes, Recovers, Copies, Joins, small_step, take_request, newest_conf}
use Rattle.cg_model.specs.Smalls.{may_make, is_running, is_set}
use Rattle.cg_agree.proofs.BegunKept.{nothing-before}
use Rattle.cg_agree_lemmas.specs.GroupKept.{orders-conf, receives-conf, leaving-regular}
use Rattle.cg_agree_lemmas.specs.GroupSound.{GroupSound, phase-made}
use Rattle.cg_agree_lemmas.specs.NextThere.{orders-now, receives-now}
use Rattle.cg_agree_lemmas.specs.OneSteps.{OneStep, turns-step, hands-step, leaves-step, enters-step, commits-step, copies-step, crashes-step, recovers-step, joins-step, may-join, may-enter}

one-out : (c d : Chronicle) (p : ℕ) (now : Phase) (n : ℕ) (is : Bool) → OneStep c d p now n is → (conf q : ℕ) → (is_in c conf p ≡ false → is_at conf now ≡ false) → is_in c conf q ≡ false → is_in d conf q ≡ false
one-out c d p now n is step conf q own out = elim (cases_eq q p) [
  | inl same ↦ ap (is_at conf) (step.stands.phase q ∙ cond-true (q == p) now (phase_of c.world.group q) (eq-eqb q p same)) ∙ own (ap (is_in c conf) (sym same) ∙ out)
  | inr apart ↦ ap (is_at conf) (step.stands.phase q ∙ cond-false (q == p) now (phase_of c.world.group q) (ne_eqb q p apart)) ∙ out
]

phase-out : (c d : Chronicle) (conf q : ℕ) → phase_of d.world.group q ≡ phase_of c.world.group q → is_in c conf q ≡ false → is_in d conf q ≡ false
phase-out c d conf q same out = ap (is_at conf) same ∙ out

-- the transitional phase is of the configuration of the regular one
parted-out : (conf : ℕ) (phase : Phase) (set : List ℕ) → 0 < conf → is_at conf phase ≡ false → is_at conf (Transitional (regular_in phase) set) ≡ false
parted-out conf Down set some out = ne_eqb 0 conf (λ e. absurd (omega arith))
parted-out conf Alone set some out = ne_eqb 0 conf (λ e. absurd (omega arith))
parted-out conf (Regular k) set some out = out
parted-out conf (Transitional k s) set some out = ne_eqb 0 conf (λ e. absurd (omega arith))

-- a configuration with messages isn't that of number 0
pub said-number : (c : Chronicle) (conf : ℕ) → 0 < length (ordered_in c conf) → 0 < conf
unfolding configuration
said-number c zero said = absurd (omega arith)
said-number c (suc conf) said = omega arith

nothing-said : (c : Chronicle) (conf : ℕ) → c ≡ no_chronicle → 0 < length (ordered_in c conf) → ⊥
unfolding configuration
nothing-said c conf empty said = at conf (subst (λ (x : Chronicle). 0 < length (ordered_in x conf)) empty said) where
  at : (conf : ℕ) → 0 < length (ordered_in no_chronicle conf) → ⊥
  at zero said = omega arith
  at (suc conf) said = omega arith

pub out-stays : (c : Chronicle) (s : Small) → Hosted c → may_make c s ≡ true → GroupSound c → (conf q : ℕ) → 0 < length (ordered_in c conf) → is_in c conf q ≡ false → is_in (small_step c s) conf q ≡ false
unfolding small_step may_make
out-stays c (Starts set) nodes m old conf q said out = absurd (nothing-said c conf (nothing-before c nodes (and_parts (is_nil c.world.nodes) (is_set (ids set)) m).0) said)
out-stays c (Makes set) nodes m old conf q said out = phase-out c (small_step c (Makes set)) conf q (phase-made c (small_step c (Makes set)) set refl (λ q. refl) q) out
out-stays c (Enters p) nodes m old conf q said out =
    let enter = may-enter c p m in
    one-out c _ p _ 0 true (enters-step c p old.phases enter.comes) conf q
    (λ none. ne_eqb (newest_conf c.world.group) conf (λ same. is_nil-none (ordered_in c (newest_conf c.world.group)) enter.unsaid (subst (λ k. 0 < length (ordered_in c k)) (sym same) said))) out
out-stays c (Orders p) nodes m old conf q said out =
    let next = orders-now c p old.phases (λ k. (old.confs k).places) m in
    phase-out c (small_step c (Orders p)) conf q ((orders-conf c p next.conf next.stands next.message next.rest next.at).phase q) out
out-stays c (Receives p place) nodes m old conf q said out =
    let next = receives-now c p place old.phases m in phase-out c (small_step c (Receives p place)) conf q ((receives-conf c p place next).phase q) out
out-stays c (Hands p) nodes m old conf q said out = one-out c _ p _ _ true (hands-step c p old.phases (and_parts _ _ m).0) conf q (λ none. none) out
out-stays c (Leaves p set own places) nodes m old conf q said out =
    one-out c _ p _ own true (leaves-step c p set own places old.phases (leaving-regular c p set own places m)) conf q
    (λ none. parted-out conf (phase_of c.world.group p) set (said-number c conf said) none) out
out-stays c (Asks p kind) nodes m old conf q said out = one-out c _ p _ _ _ (turns-step c p (take_request kind) old.phases) conf q (λ none. none) out
out-stays c (Settles p) nodes m old conf q said out = one-out c _ p _ _ _ (turns-step c p settle old.phases) conf q (λ none. none) out
out-stays c (Commits p) nodes m old conf q said out = one-out c _ p _ _ _ (commits-step c p old.phases) conf q (λ none. none) out
out-stays c (Crashes p) nodes m old conf q said out = one-out c _ p Down 0 false (crashes-step c p m) conf q (λ none. refl) out
out-stays c (Recovers p) nodes m old conf q said out =
    let parts = and_parts (has_begun c.world p) (not (is_running c p)) m in
    one-out c _ p Alone 0 true (recovers-step c p nodes parts.0 (not-true (is_running c p) parts.1)) conf q (λ none. refl) out
out-stays c (Copies p joiner) nodes m old conf q said out = one-out c _ p _ _ _ (copies-step c p joiner old.phases) conf q (λ none. none) out
out-stays c (Joins joiner) nodes m old conf q said out = one-out c _ joiner Alone 0 true (joins-step c joiner (may-join c joiner m)) conf q (λ none. refl) out

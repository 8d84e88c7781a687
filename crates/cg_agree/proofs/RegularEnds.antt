-- How who is regular in a configuration stops being so in a small step: it parts there, or crashes.
use Rattle.std.proofs.Common.{◌≡◌, ℕ, ◌<◌, Bool, true, false, not, List, refl, sym, ap, ◌∙◌, arith, inl, inr, eq-eqb, eqb-true}
use Rattle.std.specs.Prelude.{◌==◌}
use Rattle.std.specs.Option.{option_map_or}
use Rattle.std.proofs.lemmas.Bool.{cases_eq, cond-true, cond-false, and_parts, not-true, ne_eqb}
use Rattle.cg_base.specs.Text.{is_nil}
use Rattle.cg_base.specs.Weights.{ids}
use Rattle.cg_group.specs.declared.phase.Phase.{Phase}
use Rattle.cg_group.specs.declared.phase.Phase.TheVariants.{Down, Alone, Regular, Transitional}
use Rattle.cg_group.specs.State.{standing_of, phase_of, is_regular, regular_in}
use Rattle.cg_client.specs.Requests.{settle}
use Rattle.cg_model.specs.World.{has_begun, replica_of}
use Rattle.cg_model.specs.Chronicle.{Chronicle, no_chronicle}
use Rattle.cg_model.specs.Looks.{is_at, is_in, is_regular_at, is_regular_in}
use Rattle.cg_model.specs.Facts.{Invariant}
use Rattle.cg_model.specs.Small.{Small, Starts, Makes, Enters, Orders, Receives, Hands, Leaves, Asks, Settles, Commits, Crashes, Recovers, Copies, Joins, small_step, take_request}
use Rattle.cg_model.specs.Smalls.{may_make, is_between, is_running, is_set}
use Rattle.cg_agree.proofs.BegunKept.{nothing-before}
use Rattle.cg_agree_lemmas.specs.GroupKept.{orders-conf, receives-conf, leaving-regular}
use Rattle.cg_agree_lemmas.specs.GroupSound.{phase-made}
use Rattle.cg_agree_lemmas.specs.HandsNow.{hands-regular}
use Rattle.cg_agree.proofs.LeftMoves.{in-running}
use Rattle.cg_agree_lemmas.specs.NextThere.{orders-now, receives-now}
use Rattle.cg_agree_lemmas.specs.OneSteps.{OneStep, turns-step, hands-step, leaves-step, enters-step, commits-step, copies-step, crashes-step, recovers-step, joins-step, may-join, may-enter, running-begun}

pub data RegularEnds (c : Chronicle) (s : Small) (conf p : ℕ) : Type 0 where
  Still : (regular : is_regular_in (small_step c s) conf p ≡ true) → RegularEnds c s conf p
  Parting : (set : List ℕ) (own : ℕ) (places : List ℕ) (step : s ≡ Leaves p set own places) (inside : is_in (small_step c s) conf p ≡ true) → RegularEnds c s conf p
  Crashing : (step : s ≡ Crashes p) → RegularEnds c s conf p

pub regular-phase_is : (conf : ℕ) (x : Phase) → is_regular_at conf x ≡ true → x ≡ Regular conf
regular-phase_is conf (Regular k) e = ap Regular (eqb-true k conf e)
regular-phase_is conf (Transitional k set) e = absurd (let clash : false ≡ true = e in cc)
regular-phase_is conf Alone e = absurd (let clash : false ≡ true = e in cc)
regular-phase_is conf Down e = absurd (let clash : false ≡ true = e in cc)

pub regular-inside : (c : Chronicle) (conf p : ℕ) → is_regular_in c conf p ≡ true → is_in c conf p ≡ true
regular-inside c conf p was = ap (is_at conf) (regular-phase_is conf (phase_of c.world.group p) was) ∙ eq-eqb conf conf refl

nobody-regular : (c : Chronicle) (conf q : ℕ) → c ≡ no_chronicle → is_regular_in c conf q ≡ true → ⊥
unfolding standing_of
nobody-regular c conf q empty was = let clash : false ≡ true = sym (ap (λ (x : Chronicle). is_regular_in x conf q) empty) ∙ was in cc

phase-still : (c d : Chronicle) (conf q : ℕ) → phase_of d.world.group q ≡ phase_of c.world.group q → is_regular_in c conf q ≡ true → is_regular_in d conf q ≡ true
phase-still c d conf q same was = ap (is_regular_at conf) same ∙ was

other-still : (c d : Chronicle) (p : ℕ) (now : Phase) (n : ℕ) (is : Bool) → OneStep c d p now n is → (conf q : ℕ) → (q ≡ p → ⊥) → is_regular_in c conf q ≡ true → is_regular_in d conf q ≡ true
other-still c d p now n is step conf q apart was = ap (is_regular_at conf) (step.stands.phase q ∙ cond-false (q == p) now (phase_of c.world.group q) (ne_eqb q p apart)) ∙ was

-- at a step in which a replica stands as before
one-still : (c d : Chronicle) (p : ℕ) (n : ℕ) (is : Bool) → OneStep c d p (phase_of c.world.group p) n is → (conf q : ℕ) → is_regular_in c conf q ≡ true → is_regular_in d conf q ≡ true
one-still c d p n is step conf q was = elim (cases_eq q p) [
  | inl same ↦ ap (is_regular_at conf) (step.stands.phase q ∙ cond-true (q == p) (phase_of c.world.group p) (phase_of c.world.group q) (eq-eqb q p same)) ∙ ap (is_regular_in c conf) (sym same) ∙ was
  | inr apart ↦ other-still c d p (phase_of c.world.group p) n is step conf q apart was
]

-- Who is regular runs and has begun, and doesn't come into another configuration.
pub regular-ends : (c : Chronicle) (s : Small) → Invariant c → may_make c s ≡ true → (conf p : ℕ) → 0 < conf → is_regular_in c conf p ≡ true → RegularEnds c s conf p
unfolding small_step may_make
regular-ends c (Starts set) i m conf p some was = absurd (nobody-regular c conf p (nothing-before c i.net.hosted (and_parts (is_nil c.world.nodes) (is_set (ids set)) m).0) was)
regular-ends c (Makes set) i m conf p some was = Still (phase-still c (small_step c (Makes set)) conf p (phase-made c (small_step c (Makes set)) set refl (λ q. refl) p) was)
regular-ends c (Enters q) i m conf p some was = elim (cases_eq p q) [
  | inl same ↦
      (let out = and_parts (not (is_regular c.world.group q)) (option_map_or (λ r. is_between r.state) (replica_of c.world q) false) (may-enter c q m).comes in
      let phase : phase_of c.world.group q ≡ Regular conf = ap (phase_of c.world.group) (sym same) ∙ regular-phase_is conf (phase_of c.world.group p) was in
      let regular : is_regular c.world.group q ≡ true = ap (λ x. not (regular_in x == 0)) phase ∙ ap not (ne_eqb conf 0 (λ e. omega (arith, e, some))) in
      absurd (let clash : true ≡ false = sym regular ∙ not-true (is_regular c.world.group q) out.0 in cc))
  | inr apart ↦ Still (other-still c _ q _ 0 true (enters-step c q i.net.phase_sound (may-enter c q m).comes) conf p apart was)
]
regular-ends c (Orders q) i m conf p some was =
    let next = orders-now c q i.net.phase_sound (λ k. i.net.receipts_inside.places k) m in
    Still (phase-still c (small_step c (Orders q)) conf p ((orders-conf c q next.conf next.stands next.message next.rest next.at).phase p) was)
regular-ends c (Receives q place) i m conf p some was =
    let next = receives-now c q place i.net.phase_sound m in
    Still (phase-still c (small_step c (Receives q place)) conf p ((receives-conf c q place next).phase p) was)
regular-ends c (Hands q) i m conf p some was = Still (one-still c _ q _ true (hands-step c q i.net.phase_sound (hands-regular c q m)) conf p was)
regular-ends c (Leaves q set own places) i m conf p some was =
    let step = leaves-step c q set own places i.net.phase_sound (leaving-regular c q set own places m) in
    elim (cases_eq p q) [
      | inl same ↦
          (let phase : phase_of c.world.group q ≡ Regular conf = ap (phase_of c.world.group) (sym same) ∙ regular-phase_is conf (phase_of c.world.group p) was in
          Parting set own places (ap (λ x. Leaves x set own places) (sym same))
          (ap (is_at conf) (step.stands.phase p ∙ cond-true (p == q) (Transitional (regular_in (phase_of c.world.group q)) set) (phase_of c.world.group p) (eq-eqb p q same)) ∙ eq-eqb (regular_in (phase_of c.world.group q)) conf (ap regular_in phase)))
      | inr apart ↦ Still (other-still c _ q _ own true step conf p apart was)
    ]
regular-ends c (Asks q kind) i m conf p some was = Still (one-still c _ q _ _ (turns-step c q (take_request kind) i.net.phase_sound) conf p was)
regular-ends c (Settles q) i m conf p some was = Still (one-still c _ q _ _ (turns-step c q settle i.net.phase_sound) conf p was)
regular-ends c (Commits q) i m conf p some was = Still (one-still c _ q _ _ (commits-step c q i.net.phase_sound) conf p was)
regular-ends c (Crashes q) i m conf p some was = elim (cases_eq p q) [
  | inl same ↦ Crashing (ap Crashes (sym same))
  | inr apart ↦ Still (other-still c _ q Down 0 false (crashes-step c q m) conf p apart was)
]
regular-ends c (Recovers q) i m conf p some was =
    let parts = and_parts (has_begun c.world q) (not (is_running c q)) m in
    let down = not-true (is_running c q) parts.1 in
    elim (cases_eq p q) [
      | inl same ↦ absurd (let clash : true ≡ false = sym (ap (is_running c) (sym same) ∙ in-running c i.net.phase_sound conf p (regular-inside c conf p was)) ∙ down in cc)
      | inr apart ↦ Still (other-still c _ q Alone 0 true (recovers-step c q i.net.hosted parts.0 down) conf p apart was)
    ]
regular-ends c (Copies q joiner) i m conf p some was = Still (one-still c _ q _ _ (copies-step c q joiner i.net.phase_sound) conf p was)
regular-ends c (Joins joiner) i m conf p some was =
    let may = may-join c joiner m in
    elim (cases_eq p joiner) [
      | inl same ↦ absurd (let clash : true ≡ false = sym (ap (has_begun c.world) (sym same) ∙ running-begun c p (in-running c i.net.phase_sound conf p (regular-inside c conf p was))) ∙ may.fresh in cc)
      | inr apart ↦ Still (other-still c _ joiner Alone 0 true (joins-step c joiner may) conf p apart was)
    ]

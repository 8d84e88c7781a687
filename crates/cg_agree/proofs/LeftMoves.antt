-- Who leaves the configuration of an attempt in a small step: at most one replica, with the greens that it has.
use Rattle.std.proofs.Common.{◌≡◌, ℕ, zero, suc, ◌<◌, Bool, true, false, cond, not, List, [], ◌∷◌, ◌++◌, length, Option, Some, None, option_map, is_some, refl, sym, ap, ◌∙◌, subst, arith, inl, inr, eq-eqb, if◌then◌else◌}
use Rattle.std.specs.Prelude.{◌==◌}
use Rattle.std.specs.Option.{option_map_or}
use Rattle.std.proofs.lemmas.Bool.{cases_eq, cond_both, cond-true, cond-false, and_parts, not-true, ne_eqb}
use Rattle.cg_base.specs.Text.{is_nil}
use Rattle.cg_base.specs.Weights.{ids}
use Rattle.cg_base.specs.ListLaws.{is_nil-none}
use Rattle.cg_base.specs.FindLaws.{found_before}
use Rattle.cg_action.specs.declared.action.Action.{Action}
use Rattle.cg_records.specs.declared.vulnerable.Vulnerable.{Vulnerable}
use Rattle.cg_wire.specs.declared.message.Msg.{Msg}
use Rattle.cg_group.specs.declared.phase.Phase.{Phase}
use Rattle.cg_group.specs.declared.phase.Phase.TheVariants.{Down as DownPhase, Alone, Regular, Transitional}
use Rattle.cg_group.specs.State.{Standing, standing_of, phase_of, regular_in}
use Rattle.cg_client.specs.Replica.{Held, Replica}
use Rattle.cg_client.specs.Turn.{Turn, begin}
use Rattle.cg_client.specs.Requests.{settle}
use Rattle.cg_model.specs.World.{NodeState, Up, Down, Node, node_of, replica_of, has_begun}
use Rattle.cg_model.specs.Attempts.{new_attempt, is_seen, with_attempt_of}
use Rattle.cg_model.specs.Chronicle.{Leaving, Attempt, Chronicle, no_chronicle}
use Rattle.cg_model.specs.Looks.{greens_of, stood_of, conf_at, is_at, is_in, ordered_in, snapshot_of}
use Rattle.cg_model.specs.FactsNet.{PhaseSound}
use Rattle.cg_model.specs.Facts.{Invariant}
use Rattle.cg_model.specs.Played.{AtRest}
use Rattle.cg_model.specs.Small.{Small, Starts, Makes, Enters, Orders, Receives, Hands, Leaves, Asks, Settles, Commits, Crashes, Recovers, Copies, Joins, small_step, changed_attempt, with_entrant, with_installer, with_leaver, entering, installing, attempts_behind, is_entry, is_installation, newly_green, turning, turning_as, coming, handed_next, leaving, take_newest, take_next, take_parting, take_request, newest_conf, commit_as, crash_as, recover_as, copy_as, join_with}
use Rattle.cg_model.specs.Smalls.{may_make, is_running, is_set}
use Rattle.cg_agree_lemmas.specs.AttemptsTurn.{at_conf}
use Rattle.cg_agree.proofs.BegunKept.{nothing-before}
use Rattle.cg_agree_lemmas.specs.GroupKept.{orders-conf, receives-conf, leaving-regular}
use Rattle.cg_agree_lemmas.specs.GroupSound.{phase-made}
use Rattle.cg_agree_lemmas.specs.HandsKept.{hosted}
use Rattle.cg_agree_lemmas.specs.HandsNow.{hands-regular}
use Rattle.cg_agree_lemmas.specs.Keyed.{found-changed, find-none}
use Rattle.cg_agree_lemmas.specs.NextThere.{orders-now, receives-now}
use Rattle.cg_agree_lemmas.specs.OneSteps.{OneStep, turns-step, hands-step, leaves-step, enters-step, commits-step, copies-step, crashes-step, recovers-step, joins-step, may-join, may-enter, running-begun}

-- ---- who has left an attempt

abbrev pub left_in : Option Attempt → List Leaving
left_in o = option_map_or (λ a. a.left) o []

-- the members that entered the attempt of that configuration and left it, with their counts
abbrev pub lefts : List Attempt → ℕ → List Leaving
lefts attempts conf = left_in (at_conf attempts conf)

lefts-changed : (f : Attempt → Attempt) → ((a : Attempt) → (f a).conf ≡ a.conf) → ((a : Attempt) → (f a).left ≡ a.left) → (k : ℕ) (attempts : List Attempt) (conf : ℕ) →
    lefts (changed_attempt f k attempts) conf ≡ lefts attempts conf
lefts-changed f keeps left k attempts conf = ap left_in (found-changed (λ (a : Attempt). a.conf) f keeps k attempts conf) ∙ either (conf == k) (at_conf attempts conf) where
  either : (b : Bool) (o : Option Attempt) → left_in (cond b (option_map f o) o) ≡ left_in o
  either true None = refl
  either true (Some a) = left a
  either false o = refl

lefts-more : (attempts : List Attempt) (new : Attempt) → new.left ≡ [] → (conf : ℕ) → lefts (attempts ++ new ∷ []) conf ≡ lefts attempts conf
lefts-more attempts new none conf = at (at_conf attempts conf) refl where
  last : (b : Bool) → left_in (cond b (let x : Option Attempt = Some new in x) None) ≡ []
  last true = none
  last false = refl

  at : (o : Option Attempt) → at_conf attempts conf ≡ o → lefts (attempts ++ new ∷ []) conf ≡ left_in o
  at None e = ap left_in (find-none (λ (a : Attempt). a.conf == conf) attempts (new ∷ []) e) ∙ last (new.conf == conf)
  at (Some a) e = ap left_in (found_before (λ (a : Attempt). a.conf == conf) attempts (new ∷ []) a e)

lefts-entering : (greens : List Action) (h : Held) (attempts : List Attempt) (v : Option Vulnerable) (conf : ℕ) → lefts (entering greens h attempts v) conf ≡ lefts attempts conf
lefts-entering greens h attempts None conf = refl
lefts-entering greens h attempts (Some v) conf =
    lefts-changed (with_entrant h.id) (λ a. refl) (λ a. refl) v.attempt (with_attempt_of attempts greens h (Some v)) conf
    ∙ cond_both (is_seen attempts v.attempt) attempts (attempts ++ new_attempt greens h v ∷ []) (λ xs. lefts xs conf ≡ lefts attempts conf) (λ y. refl) (λ n. lefts-more attempts (new_attempt greens h v) refl conf)

lefts-installing : (p : ℕ) (attempts : List Attempt) (v : Option Vulnerable) (conf : ℕ) → lefts (installing p attempts v) conf ≡ lefts attempts conf
lefts-installing p attempts None conf = refl
lefts-installing p attempts (Some v) conf = lefts-changed (with_installer p) (λ a. refl) (λ a. refl) v.attempt attempts conf

lefts-behind : (attempts : List Attempt) (p : ℕ) (greens : List Action) (old new : Replica) (conf : ℕ) → lefts (attempts_behind attempts p greens old new) conf ≡ lefts attempts conf
lefts-behind attempts p greens old new conf =
    cond_both (is_entry old.state new.state) (entering greens new.held attempts new.held.vulnerable)
    (if is_installation old.state new.state then installing p attempts new.held.vulnerable else attempts) (λ xs. lefts xs conf ≡ lefts attempts conf)
    (λ y. lefts-entering greens new.held attempts new.held.vulnerable conf)
    (λ n. cond_both (is_installation old.state new.state) (installing p attempts new.held.vulnerable) attempts (λ xs. lefts xs conf ≡ lefts attempts conf)
    (λ y. lefts-installing p attempts new.held.vulnerable conf) (λ m. refl))

lefts-turning : (c : Chronicle) (p : ℕ) (part : Turn → Turn) (conf : ℕ) → lefts (turning c p part).attempts conf ≡ lefts c.attempts conf
lefts-turning c p part conf = at (node_of c.world p) where
  life : (l : NodeState) → lefts (turning_as c p part l).attempts conf ≡ lefts c.attempts conf
  life (Up r disk) = let t = part (begin r) in lefts-behind c.attempts p (greens_of c p ++ newly_green r t.replica) r t.replica conf
  life (Down disk green) = refl

  at : (o : Option Node) → lefts (option_map_or (λ s. turning_as c p part s.life) o c).attempts conf ≡ lefts c.attempts conf
  at None = refl
  at (Some s) = life s.life

-- ---- who is in a phase of a configuration

-- who is in one is up
pub in-running : (c : Chronicle) → PhaseSound c → (conf q : ℕ) → is_in c conf q ≡ true → is_running c q ≡ true
in-running c sound conf q is = sound.up q ∙ at (standing_of c.world.group q) is where
  at : (o : Option (Standing Msg)) → is_at conf (option_map_or (λ s. s.phase) o DownPhase) ≡ true → is_some o ≡ true
  at None e = e
  at (Some s) e = refl

one-in : (c d : Chronicle) (p : ℕ) (now : Phase) (n : ℕ) (is : Bool) → OneStep c d p now n is → (conf q : ℕ) → (is_in c conf p ≡ true → is_at conf now ≡ true) → is_in c conf q ≡ true → is_in d conf q ≡ true
one-in c d p now n is step conf q own here = elim (cases_eq q p) [
  | inl same ↦ ap (is_at conf) (step.stands.phase q ∙ cond-true (q == p) now (phase_of c.world.group q) (eq-eqb q p same)) ∙ own (ap (is_in c conf) (sym same) ∙ here)
  | inr apart ↦ ap (is_at conf) (step.stands.phase q ∙ cond-false (q == p) now (phase_of c.world.group q) (ne_eqb q p apart)) ∙ here
]

other-in : (c d : Chronicle) (p : ℕ) (now : Phase) (n : ℕ) (is : Bool) → OneStep c d p now n is → (conf q : ℕ) → (q ≡ p → ⊥) → is_in c conf q ≡ true → is_in d conf q ≡ true
other-in c d p now n is step conf q apart here = ap (is_at conf) (step.stands.phase q ∙ cond-false (q == p) now (phase_of c.world.group q) (ne_eqb q p apart)) ∙ here

own-out : (c d : Chronicle) (p : ℕ) (now : Phase) (n : ℕ) (is : Bool) → OneStep c d p now n is → (conf : ℕ) → is_at conf now ≡ false → is_in d conf p ≡ false
own-out c d p now n is step conf out = ap (is_at conf) (step.stands.phase p ∙ cond-true (p == p) now (phase_of c.world.group p) (eq-eqb p p refl)) ∙ out

phase-in : (c d : Chronicle) (conf q : ℕ) → phase_of d.world.group q ≡ phase_of c.world.group q → is_in c conf q ≡ true → is_in d conf q ≡ true
phase-in c d conf q same here = ap (is_at conf) same ∙ here

-- the transitional phase is of the configuration of the regular one
parted-in : (conf : ℕ) (phase : Phase) (set : List ℕ) → 0 < regular_in phase → is_at conf phase ≡ true → is_at conf (Transitional (regular_in phase) set) ≡ true
parted-in conf DownPhase set some here = absurd (omega arith)
parted-in conf Alone set some here = absurd (omega arith)
parted-in conf (Regular k) set some here = here
parted-in conf (Transitional k s) set some here = absurd (omega arith)

-- ---- a small step

pub data LeftMove (c d : Chronicle) : Type 0 where
  NoneLeaves : (inside : (conf q : ℕ) → is_in c conf q ≡ true → is_in d conf q ≡ true) (left : (conf : ℕ) → lefts d.attempts conf ≡ lefts c.attempts conf) → LeftMove c d
  OneLeaves : (p n : ℕ) (others : (conf q : ℕ) → (q ≡ p → ⊥) → is_in c conf q ≡ true → is_in d conf q ≡ true) (out : (conf : ℕ) → 0 < length (ordered_in c conf) → is_in d conf p ≡ false)
      (count : n ≡ length (greens_of c p)) (left : (conf : ℕ) → lefts d.attempts conf ≡ lefts (changed_attempt (with_leaver p n) (conf_at (phase_of c.world.group p)) c.attempts) conf) → LeftMove c d

lefts-some : {X : Type 0} (o : Option X) (change : X → Chronicle) (c : Chronicle) (conf : ℕ) → ((x : X) → lefts (change x).attempts conf ≡ lefts c.attempts conf) → lefts (option_map_or change o c).attempts conf ≡ lefts c.attempts conf
lefts-some None change c conf each = refl
lefts-some (Some x) change c conf each = each x

lefts-commit : (c : Chronicle) (p : ℕ) (l : NodeState) (conf : ℕ) → lefts (commit_as c p l).attempts conf ≡ lefts c.attempts conf
lefts-commit c p (Up r disk) conf = refl
lefts-commit c p (Down disk green) conf = refl

lefts-recover : (c : Chronicle) (l : NodeState) (conf : ℕ) → lefts (recover_as c l).attempts conf ≡ lefts c.attempts conf
lefts-recover c (Up r disk) conf = refl
lefts-recover c (Down disk green) conf = refl

nobody-in : (c : Chronicle) (conf q : ℕ) → c ≡ no_chronicle → is_in c conf q ≡ true → ⊥
unfolding standing_of
nobody-in c conf q empty here = let clash : false ≡ true = sym (ap (λ (x : Chronicle). is_in x conf q) empty) ∙ here in cc

some-regular : (n : ℕ) → not (n == 0) ≡ true → 0 < n
some-regular zero e = absurd (let clash : false ≡ true = e in cc)
some-regular (suc n) e = omega arith

pub left-move : (c : Chronicle) (s : Small) → Invariant c → may_make c s ≡ true → AtRest c s → LeftMove c (small_step c s)
unfolding small_step may_make
left-move c (Starts set) i m rest =
    NoneLeaves (λ conf q here. absurd (nobody-in c conf q (nothing-before c i.net.hosted (and_parts (is_nil c.world.nodes) (is_set (ids set)) m).0) here)) (λ conf. refl)
left-move c (Makes set) i m rest = NoneLeaves (λ conf q here. phase-in c (small_step c (Makes set)) conf q (phase-made c (small_step c (Makes set)) set refl (λ q. refl) q) here) (λ conf. refl)
left-move c (Enters p) i m rest =
    let enter = may-enter c p m in
    let step = enters-step c p i.net.phase_sound enter.comes in
    OneLeaves p (length (greens_of c p)) (λ conf q apart here. other-in c _ p _ 0 true step conf q apart here)
    (λ conf said. own-out c _ p _ 0 true step conf
    (ne_eqb (newest_conf c.world.group) conf (λ same. is_nil-none (ordered_in c (newest_conf c.world.group)) enter.unsaid (subst (λ k. 0 < length (ordered_in c k)) (sym same) said))))
    refl (λ conf. lefts-turning (coming c p) p (take_newest c.world.group) conf)
left-move c (Orders p) i m rest =
    let next = orders-now c p i.net.phase_sound (λ k. i.net.receipts_inside.places k) m in
    NoneLeaves (λ conf q here. phase-in c (small_step c (Orders p)) conf q ((orders-conf c p next.conf next.stands next.message next.rest next.at).phase q) here) (λ conf. refl)
left-move c (Receives p place) i m rest =
    let next = receives-now c p place i.net.phase_sound m in
    NoneLeaves (λ conf q here. phase-in c (small_step c (Receives p place)) conf q ((receives-conf c p place next).phase q) here) (λ conf. refl)
left-move c (Hands p) i m rest =
    NoneLeaves (λ conf q here. one-in c _ p _ _ true (hands-step c p i.net.phase_sound (hands-regular c p m)) conf q (λ is. is) here) (λ conf. lefts-turning (handed_next c p) p (take_next c.world.group p) conf)
left-move c (Leaves p set own places) i m rest =
    let regular = leaving-regular c p set own places m in
    NoneLeaves (λ conf q here. one-in c _ p _ own true (leaves-step c p set own places i.net.phase_sound regular) conf q (parted-in conf (phase_of c.world.group p) set (some-regular (regular_in (phase_of c.world.group p)) regular)) here)
    (λ conf. lefts-turning (leaving c p set own) p (take_parting c.world.group p set places) conf)
left-move c (Asks p kind) i m rest =
    NoneLeaves (λ conf q here. one-in c _ p _ _ _ (turns-step c p (take_request kind) i.net.phase_sound) conf q (λ is. is) here) (λ conf. lefts-turning c p (take_request kind) conf)
left-move c (Settles p) i m rest = NoneLeaves (λ conf q here. one-in c _ p _ _ _ (turns-step c p settle i.net.phase_sound) conf q (λ is. is) here) (λ conf. lefts-turning c p settle conf)
left-move c (Commits p) i m rest =
    NoneLeaves (λ conf q here. one-in c _ p _ _ _ (commits-step c p i.net.phase_sound) conf q (λ is. is) here) (λ conf. lefts-some (node_of c.world p) (λ s. commit_as c p s.life) c conf (λ s. lefts-commit c p s.life conf))
left-move c (Crashes p) i m rest =
    let sits = hosted c.world p m in
    let step = crashes-step c p m in
    OneLeaves p (length (stood_of c p)) (λ conf q apart here. other-in c _ p DownPhase 0 false step conf q apart here) (λ conf said. own-out c _ p DownPhase 0 false step conf refl)
    (ap (λ (xs : List Action). length xs) (sym rest.greens))
    (λ conf. ap (λ (o : Option Node). lefts (option_map_or (λ s. crash_as c p s.life) o c).attempts conf) sits.node)
left-move c (Recovers p) i m rest =
    let parts = and_parts (has_begun c.world p) (not (is_running c p)) m in
    let down = not-true (is_running c p) parts.1 in
    NoneLeaves (λ conf q here. one-in c _ p Alone 0 true (recovers-step c p i.net.hosted parts.0 down) conf q
    (λ is. absurd (let clash : true ≡ false = sym (in-running c i.net.phase_sound conf p is) ∙ down in cc)) here)
    (λ conf. lefts-some (node_of c.world p) (λ s. recover_as c s.life) c conf (λ s. lefts-recover c s.life conf))
left-move c (Copies p joiner) i m rest =
    NoneLeaves (λ conf q here. one-in c _ p _ _ _ (copies-step c p joiner i.net.phase_sound) conf q (λ is. is) here) (λ conf. lefts-some (replica_of c.world p) (copy_as c p joiner) c conf (λ r. refl))
left-move c (Joins joiner) i m rest =
    let may = may-join c joiner m in
    NoneLeaves (λ conf q here. one-in c _ joiner Alone 0 true (joins-step c joiner may) conf q
    (λ is. absurd (let clash : true ≡ false = sym (running-begun c joiner (in-running c i.net.phase_sound conf joiner is)) ∙ may.fresh in cc)) here)
    (λ conf. lefts-some (snapshot_of c.world joiner) (λ s. join_with c joiner s.content) c conf (λ s. refl))

-- The attempts and the levels behind each kind of turn.
use Rattle.std.proofs.Common.{◌⊎◌, ◌≡◌, ℕ, Bool, true, false, cond, not, ◌&&◌, ◌||◌, List, [], ◌∷◌, ◌++◌, Option, Some, None, option_map, find, refl, sym, ap, ap₂, ◌∙◌, inl, inr, eqb, eq-eqb, eqb-true}
use Rattle.std.specs.Prelude.{◌==◌}
use Rattle.std.proofs.lemmas.Bool.{cases_Bool, cond-true, cond-false, ne_eqb, eqb-false, or_right, false_from_ne_true}
use Rattle.cg_base.specs.Sets.{has}
use Rattle.cg_base.specs.SetLaws.{has-with_member}
use Rattle.cg_base.specs.BoolLaws.{and_false}
use Rattle.cg_action.specs.declared.action.Action.{Action}
use Rattle.cg_records.specs.declared.vulnerable.Vulnerable.{Vulnerable}
use Rattle.cg_knowledge.specs.declared.summary.Summary.{Summary}
use Rattle.cg_client.specs.Replica.{Held, State, RegPrim, TransPrim, ExchangeStates, ExchangeActions, Construct, No, Un, NonPrim, Left, Replica}
use Rattle.cg_wire.specs.declared.message.Msg.{Msg}
use Rattle.cg_model.specs.Attempts.{new_attempt, is_seen}
use Rattle.cg_model.specs.Chronicle.{Attempt, Chronicle}
use Rattle.cg_model.specs.FactsReplica.{is_attempting, is_primary, is_exchanging}
use Rattle.cg_model.specs.Small.{changed_attempt, with_entrant, with_installer, entering, installing, opened_by, attempts_behind, levels_behind, is_entry, is_installation}
use Rattle.cg_agree_lemmas.specs.Keyed.{found-changed, find-none}
use Rattle.cg_agree_lemmas.specs.TurnKinds.{IsQuiet, HasInstalled, HasDecided, HasAttempted, new_record, EndsWith}
use Rattle.cg_agree_lemmas.specs.TurnParts.{never-both, HasCome}

abbrev pub at_conf : List Attempt → ℕ → Option Attempt
at_conf attempts conf = find (λ a. a.conf == conf) attempts

not-and : (b : Bool) → (not b && b) ≡ false
not-and true = refl
not-and false = refl

-- neither an entry nor an installation
pub record IsNeither (old new : Replica) : Type 0 where
  pub entry : is_entry old.state new.state ≡ false
  pub installation : is_installation old.state new.state ≡ false

pub quiet-neither : (old new : Replica) → IsQuiet old new → IsNeither old new
quiet-neither old new quiet = record {
  entry = ap (λ b. not (is_attempting old.state) && b) quiet.attempting ∙ not-and (is_attempting old.state);
  installation = ap (λ b. not (is_primary old.state) && b) quiet.primary ∙ not-and (is_primary old.state);
}

pub decided-neither : (heard : List Summary) (old new : Replica) → HasDecided heard old new → IsNeither old new
decided-neither heard old new is = record {
  entry = ap (λ (s : State). not (is_attempting old.state) && is_attempting s) is.state ∙ and_false (not (is_attempting old.state));
  installation = ap (λ (s : State). not (is_primary old.state) && is_primary s) is.state ∙ and_false (not (is_primary old.state));
}

pub come-neither : (conf : ℕ) (set : List ℕ) (old new : Replica) → HasCome old new conf set → IsNeither old new
come-neither conf set old new is = record {
  entry = ap (λ (s : State). not (is_attempting old.state) && is_attempting s) is.state ∙ and_false (not (is_attempting old.state));
  installation = ap (λ (s : State). not (is_primary old.state) && is_primary s) is.state ∙ and_false (not (is_primary old.state));
}

pub neither-attempts : (attempts : List Attempt) (p : ℕ) (greens : List Action) (old new : Replica) → IsNeither old new → attempts_behind attempts p greens old new ≡ attempts
neither-attempts attempts p greens old new is = rw (is.entry, is.installation) refl

pub neither-levels : (c : Chronicle) (old new : Replica) → IsNeither old new → levels_behind c old new ≡ c.levels
neither-levels c old new is = rw is.installation refl

-- ---- an entry

-- a message ends a plan in an exchange
pub ends-exchanging : (state : State) (m : Msg) (conf : ℕ) (heard : List Summary) → EndsWith state m conf heard → is_exchanging state ≡ true
ends-exchanging (ExchangeStates at set all) m conf heard ends = refl
ends-exchanging (ExchangeActions at all accepted) m conf heard ends = refl
ends-exchanging RegPrim m conf heard ends = absurd ends
ends-exchanging TransPrim m conf heard ends = absurd ends
ends-exchanging (Construct at all) m conf heard ends = absurd ends
ends-exchanging (No at all) m conf heard ends = absurd ends
ends-exchanging Un m conf heard ends = absurd ends
ends-exchanging (NonPrim regular) m conf heard ends = absurd ends
ends-exchanging Left m conf heard ends = absurd ends

-- a state in which a plan ends
pub ends-beside : (state : State) (m : Msg) (conf : ℕ) (heard : List Summary) → EndsWith state m conf heard → (is_attempting state ≡ false) × (is_primary state ≡ false)
ends-beside (ExchangeStates at set all) m conf heard ends = (refl, refl)
ends-beside (ExchangeActions at all accepted) m conf heard ends = (refl, refl)
ends-beside RegPrim m conf heard ends = absurd ends
ends-beside TransPrim m conf heard ends = absurd ends
ends-beside (Construct at all) m conf heard ends = absurd ends
ends-beside (No at all) m conf heard ends = absurd ends
ends-beside Un m conf heard ends = absurd ends
ends-beside (NonPrim regular) m conf heard ends = absurd ends
ends-beside Left m conf heard ends = absurd ends

pub attempted-entry : (m : Msg) (conf : ℕ) (heard : List Summary) (old new : Replica) → EndsWith old.state m conf heard → HasAttempted conf heard old new →
    (is_entry old.state new.state ≡ true) × (is_installation old.state new.state ≡ false)
attempted-entry m conf heard old new ends is =
    let beside = ends-beside old.state m conf heard ends in
    (ap₂ (λ b (s : State). not b && is_attempting s) beside.0 is.state, ap (λ (s : State). not (is_primary old.state) && is_primary s) is.state ∙ and_false (not (is_primary old.state)))

pub attempted-attempts : (m : Msg) (conf : ℕ) (heard : List Summary) (attempts : List Attempt) (p : ℕ) (greens : List Action) (old new : Replica) → EndsWith old.state m conf heard →
    HasAttempted conf heard old new → attempts_behind attempts p greens old new ≡ entering greens new.held attempts (Some (new_record conf heard old.held.id))
attempted-attempts m conf heard attempts p greens old new ends is =
    rw ((attempted-entry m conf heard old new ends is).0) (ap (entering greens new.held attempts) is.vulnerable)

pub attempted-levels : (c : Chronicle) (m : Msg) (conf : ℕ) (heard : List Summary) (old new : Replica) → EndsWith old.state m conf heard → HasAttempted conf heard old new →
    levels_behind c old new ≡ c.levels
attempted-levels c m conf heard old new ends is = rw ((attempted-entry m conf heard old new ends is).1) refl

seen-found : (attempts : List Attempt) (conf : ℕ) (a : Attempt) → at_conf attempts conf ≡ Some a → is_seen attempts conf ≡ true
seen-found [] conf a e = absurd (let clash : None ≡ Some a = e in cc)
seen-found (b ∷ attempts) conf a e = elim (cases_Bool (b.conf == conf)) [
  | inl here ↦ ap (λ x. x || is_seen attempts conf) here
  | inr other ↦ ap (λ x. x || is_seen attempts conf) other ∙ seen-found attempts conf a (sym (cond-false (b.conf == conf) (Some b) (at_conf attempts conf) other) ∙ e)
]

unseen-none : (attempts : List Attempt) (conf : ℕ) → at_conf attempts conf ≡ None → is_seen attempts conf ≡ false
unseen-none [] conf e = refl
unseen-none (b ∷ attempts) conf e = elim (cases_Bool (b.conf == conf)) [
  | inl here ↦ absurd (let clash : Some b ≡ None = sym (cond-true (b.conf == conf) (Some b) (at_conf attempts conf) here) ∙ e in cc)
  | inr other ↦ ap (λ x. x || is_seen attempts conf) other ∙ unseen-none attempts conf (sym (cond-false (b.conf == conf) (Some b) (at_conf attempts conf) other) ∙ e)
]

-- the attempt that a replica enters: it was there, or it is taken from the replica
pub record Entered (attempts : List Attempt) (greens : List Action) (h : Held) (v : Vulnerable) : Type 0 where
  pub first : Attempt
  pub whose : (at_conf attempts v.attempt ≡ Some first) ⊎ ((at_conf attempts v.attempt ≡ None) × (first ≡ new_attempt greens h v))
  pub now : (k : ℕ) → at_conf (entering greens h attempts (Some v)) k ≡ cond (k == v.attempt) (Some (with_entrant h.id first)) (at_conf attempts k)

entrant-found : (h : Held) (v : Vulnerable) (more : List Attempt) (first : Attempt) → at_conf more v.attempt ≡ Some first → (k : ℕ) →
    at_conf (changed_attempt (with_entrant h.id) v.attempt more) k ≡ cond (k == v.attempt) (Some (with_entrant h.id first)) (at_conf more k)
entrant-found h v more first e k =
    found-changed (λ (a : Attempt). a.conf) (with_entrant h.id) (λ a. refl) v.attempt more k ∙ either (cases_Bool (k == v.attempt)) where
      either : ((k == v.attempt) ≡ true) ⊎ ((k == v.attempt) ≡ false) →
          cond (k == v.attempt) (option_map (with_entrant h.id) (at_conf more k)) (at_conf more k) ≡ cond (k == v.attempt) (Some (with_entrant h.id first)) (at_conf more k)
      either (inl is) = cond-true (k == v.attempt) (option_map (with_entrant h.id) (at_conf more k)) (at_conf more k) is
          ∙ ap (λ n. option_map (with_entrant h.id) (at_conf more n)) (eqb-true k v.attempt is) ∙ ap (option_map (with_entrant h.id)) e
          ∙ sym (cond-true (k == v.attempt) (Some (with_entrant h.id first)) (at_conf more k) is)
      either (inr isnt) = cond-false (k == v.attempt) (option_map (with_entrant h.id) (at_conf more k)) (at_conf more k) isnt
          ∙ sym (cond-false (k == v.attempt) (Some (with_entrant h.id first)) (at_conf more k) isnt)

pub entered-now : (attempts : List Attempt) (greens : List Action) (h : Held) (v : Vulnerable) → Entered attempts greens h v
entered-now attempts greens h v = at (at_conf attempts v.attempt) refl where
  at : (o : Option Attempt) → at_conf attempts v.attempt ≡ o → Entered attempts greens h v
  at (Some a) e = record {
    first = a;
    whose = inl e;
    now = λ k. ap (λ b. at_conf (changed_attempt (with_entrant h.id) v.attempt (cond b attempts (attempts ++ new_attempt greens h v ∷ []))) k) (seen-found attempts v.attempt a e)
        ∙ entrant-found h v attempts a e k;
  }
  at None e =
      let made = new_attempt greens h v in
      let more = attempts ++ made ∷ [] in
      let last : at_conf (made ∷ []) v.attempt ≡ Some made = cond-true (v.attempt == v.attempt) (Some made) None (eq-eqb v.attempt v.attempt refl) in
      let there : at_conf more v.attempt ≡ Some made = find-none (λ (a : Attempt). a.conf == v.attempt) attempts (made ∷ []) e ∙ last in
      record {
        first = made;
        whose = inr (e, refl);
        now = λ k. ap (λ b. at_conf (changed_attempt (with_entrant h.id) v.attempt (cond b attempts more)) k) (unseen-none attempts v.attempt e)
            ∙ entrant-found h v more made there k ∙ others made k;
      }
    where
      behind : (made : Attempt) (k : ℕ) → (made.conf == k) ≡ false → at_conf (attempts ++ made ∷ []) k ≡ at_conf attempts k
      behind made k other = from attempts where
        from : (list : List Attempt) → at_conf (list ++ made ∷ []) k ≡ at_conf list k
        from [] = cond-false (made.conf == k) (Some made) None other
        from (b ∷ list) = ap (cond (b.conf == k) (Some b)) (from list)

      others : (made : Attempt) (k : ℕ) → cond (k == v.attempt) (Some (with_entrant h.id made)) (at_conf (attempts ++ new_attempt greens h v ∷ []) k)
          ≡ cond (k == v.attempt) (Some (with_entrant h.id made)) (at_conf attempts k)
      others made k = elim (cases_Bool (k == v.attempt)) [
        | inl is ↦ rw is refl
        | inr isnt ↦ ap (cond (k == v.attempt) (Some (with_entrant h.id made))) (behind (new_attempt greens h v) k (ne_eqb v.attempt k (λ same. eqb-false k v.attempt isnt (sym same))))
      ]

-- who enters is among those who have entered
pub entrant-has : (a : Attempt) (p : ℕ) → has (with_entrant p a).entered p ≡ true
entrant-has a p = has-with_member a.entered p p ∙ or_right (has a.entered p) (eqb p p) (eq-eqb p p refl)

-- ---- an installation

pub installed-steps : (old new : Replica) → HasInstalled old new → (is_entry old.state new.state ≡ false) × (is_installation old.state new.state ≡ true)
installed-steps old new is =
    let beside : is_primary old.state ≡ false = false_from_ne_true (is_primary old.state) (λ both. never-both old.state is.before both) in
    (ap (λ b. not b && is_attempting new.state) is.before, ap₂ (λ b d. not b && d) beside is.after)

pub installed-attempts : (attempts : List Attempt) (p : ℕ) (greens : List Action) (old new : Replica) → HasInstalled old new →
    attempts_behind attempts p greens old new ≡ installing p attempts old.held.vulnerable
installed-attempts attempts p greens old new is =
    let steps = installed-steps old new is in rw (steps.0, steps.1) (ap (installing p attempts) is.vulnerable)

pub installed-levels : (c : Chronicle) (old new : Replica) → HasInstalled old new → levels_behind c old new ≡ c.levels ++ opened_by c old.held.vulnerable
installed-levels c old new is = rw ((installed-steps old new is).1) (ap (λ v. c.levels ++ opened_by c v) is.vulnerable)

pub installer-has : (a : Attempt) (p : ℕ) → has (with_installer p a).installed p ≡ true
installer-has a p = has-with_member a.installed p p ∙ or_right (has a.installed p) (eqb p p) (eq-eqb p p refl)

pub installing-now : (attempts : List Attempt) (p : ℕ) (v : Vulnerable) (k : ℕ) →
    at_conf (installing p attempts (Some v)) k ≡ cond (k == v.attempt) (option_map (with_installer p) (at_conf attempts k)) (at_conf attempts k)
installing-now attempts p v k = found-changed (λ (a : Attempt). a.conf) (with_installer p) (λ a. refl) v.attempt attempts k

-- A member of an attempt has entered it, and installed it, as its state says: so it stays through a small step.
use Rattle.std.proofs.Common.{◌≡◌, ℕ, Bool, true, false, not, ◌&&◌, ◌||◌, List, [], ◌∷◌, ◌++◌, Option, Some, None, IfSome, refl, sym, ap, ap₂, ◌∙◌, subst, inl, inr, eqb-true}
use Rattle.std.specs.Prelude.{◌==◌}
use Rattle.std.proofs.lemmas.Bool.{cases_eq, cond_both, ne_eqb}
use Rattle.std.proofs.lemmas.Option.{same_Some}
use Rattle.cg_base.specs.Sets.{has, with_member}
use Rattle.cg_base.specs.SetLaws.{has-with_member}
use Rattle.cg_base.specs.BoolLaws.{or_true, and_false}
use Rattle.cg_records.specs.declared.vulnerable.Vulnerable.{Vulnerable}
use Rattle.cg_knowledge.specs.declared.summary.Summary.{Summary}
use Rattle.cg_group.specs.declared.phase.Phase.{Phase}
use Rattle.cg_group.specs.State.{phase_of}
use Rattle.cg_client.specs.Replica.{Held, State, RegPrim, TransPrim, ExchangeStates, ExchangeActions, Construct, No, Un, NonPrim, Left, Replica}
use Rattle.cg_model.specs.World.{replica_of}
use Rattle.cg_model.specs.Attempts.{new_attempt}
use Rattle.cg_model.specs.Chronicle.{Attempt, Chronicle}
use Rattle.cg_model.specs.Looks.{conf_at, attempt_of, attempt_at}
use Rattle.cg_model.specs.Fronts.{IsSomeWith}
use Rattle.cg_model.specs.Levels.{is_record_of}
use Rattle.cg_model.specs.FactsReplica.{is_attempting, is_primary, HasModeData, IsInAttempt, IsCounted, IsModeData}
use Rattle.cg_model.specs.FactsExchange.{IsRecord, HasRecord}
use Rattle.cg_model.specs.Facts.{Invariant}
use Rattle.cg_model.specs.Small.{Small, small_step, with_leaver, with_entrant, with_installer}
use Rattle.cg_model.specs.Smalls.{may_make}
use Rattle.cg_agree_lemmas.specs.AttemptsGrow.{grown-leaver}
use Rattle.cg_agree_lemmas.specs.AttemptsTurn.{entrant-has, installer-has}
use Rattle.cg_agree_lemmas.specs.CoresKept.{held-known}
use Rattle.cg_agree_lemmas.specs.TurnKinds.{HasInstalled, HasAttempted, new_record}
use Rattle.cg_agree.proofs.AttemptSteps.{attempt-step}
use Rattle.cg_agree.proofs.AttemptsCame.{Came, Stayed, WasLeft, WasEntered, WasInstalled, WasMade, came}
use Rattle.cg_agree.proofs.InstalledIndexKept.{same-installed}

-- ---- a state that speaks of an attempt has one

abbrev pub is_deciding : State → Bool
is_deciding s = is_attempting s || is_primary s

pub attempt-there : (c : Chronicle) (h : Held) (phase : Phase) (state : State) → is_deciding state ≡ true → HasModeData c h phase state → attempt_of c (conf_at phase) ≡ None → ⊥
attempt-there c h phase RegPrim is data_of none = let clash : None ≡ Some (attempt_at c h.prim.index) = sym none ∙ data_of.0.opened in cc
attempt-there c h phase TransPrim is data_of none = let clash : None ≡ Some (attempt_at c h.prim.index) = sym none ∙ data_of.0.opened in cc
attempt-there c h phase (Construct at heard) is data_of none = subst (IsInAttempt h) none data_of
attempt-there c h phase (No at heard) is data_of none = subst (IsInAttempt h) none data_of
attempt-there c h phase Un is data_of none = subst (IsInAttempt h) none data_of
attempt-there c h phase (ExchangeStates at set heard) is data_of none = let clash : false ≡ true = is in cc
attempt-there c h phase (ExchangeActions at heard accepted) is data_of none = let clash : false ≡ true = is in cc
attempt-there c h phase (NonPrim regular) is data_of none = let clash : false ≡ true = is in cc
attempt-there c h phase Left is data_of none = let clash : false ≡ true = is in cc

-- ---- counted

-- neither whether it attempts nor whether it is a member changes, and no record comes
pub record Flow (r new : Replica) : Type 0 where
  pub id : new.held.id ≡ r.held.id
  pub attempting : is_attempting new.state ≡ is_attempting r.state
  pub primary : is_primary new.state ≡ is_primary r.state
  pub recorded : (k : ℕ) → is_record_of k new.held.vulnerable ≡ true → is_record_of k r.held.vulnerable ≡ true

pub flow-none : (r : Replica) → Flow r r
flow-none r = record { id = refl; attempting = refl; primary = refl; recorded = λ k e. e }

-- of an attempt with the same members at this place
counted-as : (a b : Attempt) (r new : Replica) (q : ℕ) → r.held.id ≡ q → Flow r new → b.conf ≡ a.conf → has b.entered q ≡ has a.entered q → has b.installed q ≡ has a.installed q → IsCounted a r → IsCounted b new
counted-as a b r new q id flow conf entered installed is =
    let name : new.held.id ≡ q = flow.id ∙ id in
    let same : has b.entered new.held.id ≡ has a.entered r.held.id = ap (has b.entered) name ∙ entered ∙ ap (has a.entered) (sym id) in
    record {
      entered = same ∙ is.entered ∙ ap₂ (λ x y. x || y) (sym flow.attempting) (sym flow.primary);
      installed = ap (has b.installed) name ∙ installed ∙ ap (has a.installed) (sym id) ∙ is.installed ∙ sym flow.primary;
      record_of = at (is_record_of b.conf new.held.vulnerable) refl same;
    }
  where
    at : (x : Bool) → is_record_of b.conf new.held.vulnerable ≡ x → has b.entered new.held.id ≡ has a.entered r.held.id → (is_record_of b.conf new.held.vulnerable && not (has b.entered new.held.id)) ≡ false
    at false e same = ap (λ x. x && not (has b.entered new.held.id)) e
    at true e same =
        let old : is_record_of a.conf r.held.vulnerable ≡ true = flow.recorded a.conf (ap (λ k. is_record_of k new.held.vulnerable) (sym conf) ∙ e) in
        let none : not (has a.entered r.held.id) ≡ false = sym (ap (λ x. x && not (has a.entered r.held.id)) old) ∙ is.record_of in
        ap (λ x. is_record_of b.conf new.held.vulnerable && not x) same ∙ ap (λ x. is_record_of b.conf new.held.vulnerable && x) none ∙ and_false (is_record_of b.conf new.held.vulnerable)

-- who enters now
pub counted-attempted : (conf : ℕ) (heard : List Summary) (r new : Replica) (b : Attempt) (a : Attempt) → HasAttempted conf heard r new → b ≡ with_entrant new.held.id a → has a.installed new.held.id ≡ false → IsCounted b new
counted-attempted conf heard r new b a begun now installed =
    let entered : has b.entered new.held.id ≡ true = ap (λ (x : Attempt). has x.entered new.held.id) now ∙ entrant-has a new.held.id in
    record {
      entered = entered ∙ sym (ap is_deciding begun.state);
      installed = ap (λ (x : Attempt). has x.installed new.held.id) now ∙ installed ∙ sym (ap is_primary begun.state);
      record_of = ap (λ x. is_record_of b.conf new.held.vulnerable && not x) entered ∙ and_false (is_record_of b.conf new.held.vulnerable);
    }

-- who installs now
pub counted-installed : (r new : Replica) (q : ℕ) (a b : Attempt) → HasInstalled r new → r.held.id ≡ q → IsCounted a r → b ≡ with_installer q a → IsCounted b new
counted-installed r new q a b done id is now =
    let name : new.held.id ≡ q = done.id ∙ id in
    let old : has a.entered q ≡ true = ap (has a.entered) (sym id) ∙ is.entered ∙ ap (λ x. x || is_primary r.state) done.before in
    let entered : has b.entered new.held.id ≡ true = ap (λ (x : Attempt). has x.entered new.held.id) now ∙ ap (has a.entered) name ∙ old in
    record {
      entered = entered ∙ sym (ap (λ x. is_attempting new.state || x) done.after ∙ or_true (is_attempting new.state));
      installed = ap (λ (x : Attempt). has x.installed new.held.id) now ∙ ap (has (with_installer q a).installed) name ∙ installer-has a q ∙ sym done.after;
      record_of = ap (λ x. is_record_of b.conf new.held.vulnerable && not x) entered ∙ and_false (is_record_of b.conf new.held.vulnerable);
    }

left-entered : (p n q : ℕ) (a : Attempt) → has (with_leaver p n a).entered q ≡ has a.entered q
left-entered p n q a = cond_both (has a.entered p) (record a { left = a.left ++ record { member = p; count = n } ∷ [] }) a (λ (x : Attempt). has x.entered q ≡ has a.entered q) (λ y. refl) (λ n. refl)

other-member : (set : List ℕ) (p q : ℕ) → (p == q) ≡ false → has (with_member set p) q ≡ has set q
other-member set p q apart = has-with_member set p q ∙ ap (λ b. has set q || b) apart ∙ or-none (has set q) where
  or-none : (b : Bool) → (b || false) ≡ b
  or-none true = refl
  or-none false = refl

module _ (c : Chronicle) (s : Small) (i : Invariant c) (may : may_make c s ≡ true) (q : ℕ) (r new : Replica) (up : replica_of c.world q ≡ Some r) (after : replica_of (small_step c s).world q ≡ Some new) (flow : Flow r new) where
  abbrev k : ℕ
  k = conf_at (phase_of c.world.group q)

  mode : IsModeData c q r
  mode = subst (λ (o : Option Replica). IfSome o (IsModeData c q)) up (i.replica.mode_data q)

  counted-old : (a : Attempt) → attempt_of c k ≡ Some a → IsCounted a r
  counted-old a e = subst (λ (o : Option Attempt). IfSome o (λ a. IsCounted a r)) e mode.counted

  as-old : (a b : Attempt) → attempt_of c k ≡ Some a → b.conf ≡ a.conf → has b.entered q ≡ has a.entered q → has b.installed q ≡ has a.installed q → IsCounted b new
  as-old a b e conf entered installed = counted-as a b r new q mode.id flow conf entered installed (counted-old a e)

  -- who hadn't entered an attempt that wasn't there
  none-there : attempt_of c k ≡ None → (b : Attempt) → b.conf ≡ k → has b.entered q ≡ false → has b.installed q ≡ false → IsCounted b new
  none-there none b conf entered installed =
      let name : new.held.id ≡ q = flow.id ∙ mode.id in
      let beside : is_deciding r.state ≡ false = not-deciding (is_deciding r.state) refl in
      let apart : (is_attempting r.state ≡ false) × (is_primary r.state ≡ false) = or-parts (is_attempting r.state) (is_primary r.state) beside in
      record {
        entered = ap (has b.entered) name ∙ entered ∙ sym (ap₂ (λ x y. x || y) flow.attempting flow.primary ∙ beside);
        installed = ap (has b.installed) name ∙ installed ∙ sym (flow.primary ∙ apart.1);
        record_of = ap (λ x. x && not (has b.entered new.held.id)) (ap (λ n. is_record_of n new.held.vulnerable) conf ∙ unrecorded (is_record_of k new.held.vulnerable) refl);
      }
    where
      or-parts : (a b : Bool) → (a || b) ≡ false → (a ≡ false) × (b ≡ false)
      or-parts true b e = absurd (let clash : true ≡ false = e in cc)
      or-parts false b e = (refl, e)

      not-deciding : (b : Bool) → is_deciding r.state ≡ b → is_deciding r.state ≡ false
      not-deciding true e = absurd (attempt-there c r.held (phase_of c.world.group q) r.state e mode.data_of none)
      not-deciding false e = e

      there : (v : Option Vulnerable) → is_record_of k v ≡ true → HasRecord c r.held.id r.held.prim.index v → ⊥
      there None e is = let clash : false ≡ true = e in cc
      there (Some v) e is = subst (λ (o : Option Attempt). IsSomeWith o (λ a. IsRecord a v)) (ap (attempt_of c) (eqb-true v.attempt k e) ∙ none) is.2

      unrecorded : (b : Bool) → is_record_of k new.held.vulnerable ≡ b → is_record_of k new.held.vulnerable ≡ false
      unrecorded false e = e
      unrecorded true e = absurd (there r.held.vulnerable (flow.recorded k e) (held-known (λ h all. HasRecord c h.id h.prim.index h.vulnerable) c q r up i.attempt.record_of_attempt))

  of_came : (b : Attempt) → Came c (small_step c s) k b → IsCounted b new
  of_came b (Stayed found) = as-old b b found refl refl refl
  of_came b (WasLeft a found p n here now low) =
      as-old a b found (ap (λ (x : Attempt). x.conf) now ∙ (grown-leaver p n a).same.conf) (ap (λ (x : Attempt). has x.entered q) now ∙ left-entered p n q a) (ap (λ (x : Attempt). has x.installed q) now ∙ same-installed p n q a)
  of_came b (WasEntered a found p heard t fresh begins now moved) = elim (cases_eq p q) [
    | inl same ↦
        let this : new ≡ fresh = same_Some new fresh (sym after ∙ ap (replica_of (small_step c s).world) (sym same) ∙ moved) in
        let was : r ≡ t = same_Some r t (sym up ∙ ap (replica_of c.world) (sym same) ∙ begins.up) in
        let name : fresh.held.id ≡ r.held.id = begins.begun.id ∙ begins.id ∙ same ∙ sym mode.id in
        let none : has a.installed fresh.held.id ≡ false = ap (has a.installed) name ∙ (counted-old a found).installed ∙ ap (λ (x : Replica). is_primary x.state) was ∙ begins.beside.1 in
        subst (IsCounted b) (sym this) (counted-attempted k heard t fresh b a begins.begun now none)
    | inr apart ↦
        let other : (fresh.held.id == q) ≡ false = ap (λ n. n == q) (begins.begun.id ∙ begins.id) ∙ ne_eqb p q apart in
        as-old a b found (ap (λ (x : Attempt). x.conf) now) (ap (λ (x : Attempt). has x.entered q) now ∙ other-member a.entered fresh.held.id q other) (ap (λ (x : Attempt). has x.installed q) now)
  ]
  of_came b (WasInstalled p t fresh ins done here now levels core moved) = elim (cases_eq p q) [
    | inl same ↦
        let this : new ≡ fresh = same_Some new fresh (sym after ∙ ap (replica_of (small_step c s).world) (sym same) ∙ moved) in
        let was : r ≡ t = same_Some r t (sym up ∙ ap (replica_of c.world) (sym same) ∙ ins.up) in
        let old = subst (IsCounted ins.a) was (counted-old ins.a (ap (attempt_of c) here ∙ ins.found)) in
        subst (IsCounted b) (sym this) (counted-installed t fresh p ins.a b done ins.id old now)
    | inr apart ↦
        as-old ins.a b (ap (attempt_of c) here ∙ ins.found) (ap (λ (x : Attempt). x.conf) now) (ap (λ (x : Attempt). has x.entered q) now)
        (ap (λ (x : Attempt). has x.installed q) now ∙ other-member ins.a.installed p q (ne_eqb p q apart))
  ]
  of_came b (WasMade none p heard t fresh begins greens now moved handed) = elim (cases_eq p q) [
    | inl same ↦
        let this : new ≡ fresh = same_Some new fresh (sym after ∙ ap (replica_of (small_step c s).world) (sym same) ∙ moved) in
        subst (IsCounted b) (sym this) (counted-attempted k heard t fresh b (new_attempt greens fresh.held (new_record k heard t.held.id)) begins.begun now refl)
    | inr apart ↦
        let other : (fresh.held.id == q) ≡ false = ap (λ n. n == q) (begins.begun.id ∙ begins.id) ∙ ne_eqb p q apart in
        none-there none b (ap (λ (x : Attempt). x.conf) now) (ap (λ (x : Attempt). has x.entered q) now ∙ other-member [] fresh.held.id q other) (ap (λ (x : Attempt). has x.installed q) now)
  ]

  -- in the configuration that the replica was in
  pub counted-flow : IfSome (attempt_of (small_step c s) k) (λ b. IsCounted b new)
  counted-flow = at (attempt_of (small_step c s) k) refl where
    at : (o : Option Attempt) → attempt_of (small_step c s) k ≡ o → IfSome o (λ b. IsCounted b new)
    at None e = tt
    at (Some b) e = of_came b (came c (small_step c s) k b (attempt-step c s i may) e)

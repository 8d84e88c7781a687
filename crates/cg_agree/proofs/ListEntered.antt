-- A member that enters an attempt holds its parts, where each action of them is the one of its name.
use Rattle.std.proofs.Common.{◌≡◌, ℕ, true, false, List, ◌++◌, Option, Some, IfSome, refl, sym, ap, ◌∙◌, subst, ⊎_elim, eqb-true}
use Rattle.std.specs.Prelude.{◌==◌}
use Rattle.std.proofs.lemmas.Bool.{cases_eq, ne_eqb}
use Rattle.std.proofs.lemmas.Option.{same_Some}
use Rattle.cg_base.specs.FindLaws.{found_passes}
use Rattle.cg_action.specs.declared.action.Action.{Action}
use Rattle.cg_knowledge.specs.declared.summary.Summary.{Summary}
use Rattle.cg_client.specs.Replica.{Replica}
use Rattle.cg_client.specs.Install.{valid_yellow}
use Rattle.cg_client.specs.Queries.{plain_reds}
use Rattle.cg_model.specs.World.{replica_of}
use Rattle.cg_model.specs.Chronicle.{Told, Attempt, Chronicle}
use Rattle.cg_model.specs.Fronts.{IsSomeWith}
use Rattle.cg_model.specs.Looks.{greens_of, attempt_of}
use Rattle.cg_model.specs.FactsAttempts.{IsAttempt, AreParts, HoldsParts}
use Rattle.cg_model.specs.FactsExchange.{best_told}
use Rattle.cg_model.specs.FactsReplica.{AreBooked, is_attempting}
use Rattle.cg_model.specs.Facts.{Invariant}
use Rattle.cg_model.specs.Small.{Hands, with_entrant, with_installer, with_leaver, take_next, handed_next, small_step}
use Rattle.cg_model.specs.Smalls.{may_make}
use Rattle.cg_agree.proofs.AttemptSteps.{IsHanded, attempt-step}
use Rattle.cg_agree.proofs.AttemptsCame.{Begins, Came, Stayed, WasLeft, WasEntered, WasInstalled, WasMade, came}
use Rattle.cg_agree.proofs.BookedParts.{same-booked, booked-left, booked-right}
use Rattle.cg_agree_lemmas.specs.AttemptsGrow.{grown-leaver}
use Rattle.cg_agree.proofs.ExchangeBehind.{told-now}
use Rattle.cg_agree_lemmas.specs.ExchangeHands.{best-same}
use Rattle.cg_agree_lemmas.specs.HandsNow.{hands-now}
use Rattle.cg_agree.proofs.PartsKept.{HasBegun, has-begun}
use Rattle.cg_agree_lemmas.specs.SameAttempt.{SameAttempt, same-refl}
use Rattle.cg_agree.proofs.TalkQuiet.{replica-turning}

-- the actions of each attempt's parts are those of their names
abbrev pub PartsBooked : Chronicle → Type 0
PartsBooked c = (conf : ℕ) → IfSome (attempt_of c conf) (λ a. AreBooked c (a.yellow ++ a.reds))

-- ---- a member that enters

module _ (c : Chronicle) (p conf : ℕ) (i : Invariant c) (may : may_make c (Hands p) ≡ true) (heard : List Summary) (r new : Replica) (begins : Begins c p conf heard r new) (moved : replica_of (small_step c (Hands p)).world p ≡ Some new)
    (handed : IsHanded c (small_step c (Hands p)) p (greens_of (small_step c (Hands p)) p))
    (old-booked : PartsBooked c) (grown : (xs : List Action) → AreBooked c xs → AreBooked (small_step c (Hands p)) xs)
    (own-booked : AreBooked (small_step c (Hands p)) (valid_yellow new.held) × AreBooked (small_step c (Hands p)) (plain_reds new.held.queue)) where
  abbrev d : Chronicle
  d = small_step c (Hands p)

  begun : HasBegun c d p conf heard new
  begun = has-begun c d p conf heard r new (greens_of d p) i begins moved handed

  -- of an attempt that was there
  old-held : (a b : Attempt) → attempt_of c conf ≡ Some a → SameAttempt a b → HoldsParts new.held (greens_of d p) b
  old-held a b found same =
      let shape = subst (λ (o : Option Attempt). IfSome o (IsAttempt c conf)) found (i.attempt.attempt_shape conf) in
      let parts : AreParts c heard a = subst (λ l. AreParts c l a) begins.end.whole shape.parts in
      let is : a.conf ≡ conf = eqb-true a.conf conf (found_passes (λ (a : Attempt). a.conf == conf) c.attempts a found) in
      let told : best_told c a.conf heard ≡ Some begun.best = ap (λ k. best_told c k heard) is ∙ sym (best-same c d conf heard (told-now c p i may (hands-now c p i may))) ∙ begun.most in
      let greens : a.greens ≡ begun.best.greens = subst (λ (o : Option Told). IsSomeWith o (λ best. a.greens ≡ best.greens)) told parts.greens in
      let booked-parts = grown (a.yellow ++ a.reds) (subst (λ (o : Option Attempt). IfSome o (λ a. AreBooked c (a.yellow ++ a.reds))) found (old-booked conf)) in
      record {
        greens = begun.greens ∙ sym greens ∙ sym same.greens;
        yellow = same-booked d (valid_yellow new.held) a.yellow own-booked.0 (booked-left d a.yellow a.reds booked-parts) (begun.named.yellow ∙ sym parts.yellow) ∙ sym same.yellow;
        reds = same-booked d (plain_reds new.held.queue) a.reds own-booked.1 (booked-right d a.yellow a.reds booked-parts) (begun.named.reds ∙ sym parts.reds) ∙ sym same.reds;
      }

  -- of one that is made now
  made-held : (b : Attempt) (q : ℕ) (heard' : List Summary) (r' new' : Replica) (begins' : Begins c q conf heard' r' new') (greens : List Action) (v : Attempt) → b ≡ v → v.greens ≡ greens → v.yellow ≡ valid_yellow new'.held → v.reds ≡ plain_reds new'.held.queue →
      replica_of d.world q ≡ Some new' → greens ≡ greens_of d q → HoldsParts new.held (greens_of d p) b
  unfolding small_step
  made-held b q heard' r' new' begins' greens v is own yellow reds there all = ⊎_elim
      (λ (same : q ≡ p).
      let one : new' ≡ new = same_Some new' new (sym there ∙ ap (λ n. replica_of d.world n) same ∙ moved) in
      record {
        greens = sym (ap (λ (x : Attempt). x.greens) is ∙ own ∙ all ∙ ap (greens_of d) same);
        yellow = sym (ap (λ (x : Attempt). x.yellow) is ∙ yellow ∙ ap (λ (x : Replica). valid_yellow x.held) one);
        reds = sym (ap (λ (x : Attempt). x.reds) is ∙ reds ∙ ap (λ (x : Replica). plain_reds x.held.queue) one);
      })
      (λ (other : q ≡ p → ⊥).
      let stays : replica_of d.world q ≡ replica_of c.world q = replica-turning (handed_next c p) p (take_next c.world.group p) q (ne_eqb q p other) in
      let one : r' ≡ new' = same_Some r' new' (sym begins'.up ∙ sym stays ∙ there) in
      absurd (let clash : true ≡ false = sym (ap (λ (x : Replica). is_attempting x.state) one ∙ ap is_attempting begins'.begun.state) ∙ begins'.beside.0 in cc))
      (cases_eq q p)

  pub entered-held : (b : Attempt) → attempt_of d conf ≡ Some b → HoldsParts new.held (greens_of d p) b
  entered-held b now = at (came c d conf b (attempt-step c (Hands p) i may) now) where
    at : Came c d conf b → HoldsParts new.held (greens_of d p) b
    at (Stayed found) = old-held b b found (same-refl b)
    at (WasLeft a found q n here is low) = subst (HoldsParts new.held (greens_of d p)) (sym is) (old-held a (with_leaver q n a) found (grown-leaver q n a).same)
    at (WasEntered a found q heard' r' new' begins' is moved') =
        subst (HoldsParts new.held (greens_of d p)) (sym is) (old-held a (with_entrant new'.held.id a) found (record { conf = refl; from = refl; set = refl; greens = refl; yellow = refl; reds = refl }))
    at (WasInstalled q r' new' ins done here is levels core moved') =
        subst (HoldsParts new.held (greens_of d p)) (sym is)
        (old-held ins.a (with_installer q ins.a) (ap (attempt_of c) here ∙ ins.found) (record { conf = refl; from = refl; set = refl; greens = refl; yellow = refl; reds = refl }))
    at (WasMade none q heard' r' new' begins' greens is moved' handed') = made-held b q heard' r' new' begins' greens b refl (ap (λ (x : Attempt). x.greens) is) (ap (λ (x : Attempt). x.yellow) is) (ap (λ (x : Attempt). x.reds) is) moved' handed'.all

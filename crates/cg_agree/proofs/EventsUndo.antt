-- What never comes back: an event leaves what one who is out of a configuration has received there as it is, and an attempt that is over
-- stays over.
use Rattle.std.proofs.Common.{◌≡◌, ℕ, ◌<◌, ◌∙◌, true, List, [], ◌∷◌, Option, Some, None, IfSome, length, refl, sym, subst, arith}
use Rattle.cg_model.specs.Chronicle.{Attempt, Chronicle}
use Rattle.cg_model.specs.Facts.{Invariant}
use Rattle.cg_model.specs.FactsNet.{ReceiptsFixed}
use Rattle.cg_model.specs.Fronts.{IsSomeWith}
use Rattle.cg_model.specs.Levels.{is_dead}
use Rattle.cg_model.specs.Looks.{attempt_of, ordered_in}
use Rattle.cg_model.specs.Noting.{played}
use Rattle.cg_model.specs.Played.{AtRest, MayBeMade}
use Rattle.cg_model.specs.Small.{Small, small_step}
use Rattle.cg_model.specs.Smalls.{may_make, smalls_in}
use Rattle.cg_model.specs.Standing.{EventsUndoNothing, UndoesNothing}
use Rattle.cg_agree.proofs.AttemptsCame.{dead-kept}
use Rattle.cg_agree.proofs.EventsLead.{always-stands}
use Rattle.cg_agree_lemmas.specs.FrontFacts.{Front-length}
use Rattle.cg_agree.proofs.MadeOfSmalls.{made-of-smalls}
use Rattle.cg_agree.proofs.MovesKept.{kept-by-smalls}
use Rattle.cg_agree_lemmas.specs.ReachSteps.{goes_on-kept}
use Rattle.cg_agree_lemmas.specs.SameAttempt.{attempts-kept}

-- ---- a small step

small-undoes : (c : Chronicle) (s : Small) → Invariant c → may_make c s ≡ true → AtRest c s → UndoesNothing c (small_step c s)
small-undoes c s i may rest = record { receipts_fixed = (kept-by-smalls c s i may rest).1.receipts_fixed; over = λ conf. at conf (attempt_of c conf) refl } where
  at : (conf : ℕ) (o : Option Attempt) → attempt_of c conf ≡ o → IfSome o (λ a. is_dead c a ≡ true → IsSomeWith (attempt_of (small_step c s) conf) (λ b. is_dead (small_step c s) b ≡ true))
  at conf None none = tt
  at conf (Some a) found = λ dead.
      let there = (attempts-kept c s).still conf a found in
      subst (λ (o : Option Attempt). IsSomeWith o (λ b. is_dead (small_step c s) b ≡ true)) (sym there.found) (dead-kept c s i may conf a there.now found there.found dead)

-- a configuration with messages has them still
said-still : (c : Chronicle) (s : Small) → Invariant c → may_make c s ≡ true → (conf : ℕ) → 0 < length (ordered_in c conf) → 0 < length (ordered_in (small_step c s) conf)
said-still c s i may conf said =
    let more = Front-length (ordered_in c conf) (ordered_in (small_step c s) conf) (goes_on-kept conf c s i.net.phase_sound i.net.receipts_inside may said).ordered in
    omega arith

-- ---- one behind the other

nothing-undone : (c : Chronicle) → UndoesNothing c c
nothing-undone c = record {
  receipts_fixed = record { receipts = λ conf p place said out. refl; stays_out = λ conf p said out. out };
  over = λ conf. at conf (attempt_of c conf) refl;
} where
  at : (conf : ℕ) (o : Option Attempt) → attempt_of c conf ≡ o → IfSome o (λ a. is_dead c a ≡ true → IsSomeWith (attempt_of c conf) (λ b. is_dead c b ≡ true))
  at conf None none = tt
  at conf (Some a) found = λ dead. subst (λ (o : Option Attempt). IsSomeWith o (λ b. is_dead c b ≡ true)) (sym found) dead

module _ (c m d : Chronicle) (said : (conf : ℕ) → 0 < length (ordered_in c conf) → 0 < length (ordered_in m conf)) (first : UndoesNothing c m) (next : UndoesNothing m d) where
  both-fixed : ReceiptsFixed c d
  both-fixed = record {
    receipts = λ conf p place some out.
        next.receipts_fixed.receipts conf p place (said conf some) (first.receipts_fixed.stays_out conf p some out) ∙ first.receipts_fixed.receipts conf p place some out;
    stays_out = λ conf p some out. next.receipts_fixed.stays_out conf p (said conf some) (first.receipts_fixed.stays_out conf p some out);
  }

  still-over : (conf : ℕ) (o : Option Attempt) → attempt_of m conf ≡ o → IsSomeWith o (λ b. is_dead m b ≡ true) → IsSomeWith (attempt_of d conf) (λ b. is_dead d b ≡ true)
  still-over conf None none is = absurd is
  still-over conf (Some b) found is =
      subst (λ (o : Option Attempt). IfSome o (λ b. is_dead m b ≡ true → IsSomeWith (attempt_of d conf) (λ x. is_dead d x ≡ true))) found (next.over conf) is

  both-over : (conf : ℕ) (o : Option Attempt) → IfSome o (λ a. is_dead c a ≡ true → IsSomeWith (attempt_of m conf) (λ b. is_dead m b ≡ true)) →
      IfSome o (λ a. is_dead c a ≡ true → IsSomeWith (attempt_of d conf) (λ b. is_dead d b ≡ true))
  both-over conf None over = tt
  both-over conf (Some a) over = λ dead. still-over conf (attempt_of m conf) refl (over dead)

  both-undo : UndoesNothing c d
  both-undo = record { receipts_fixed = both-fixed; over = λ conf. both-over conf (attempt_of c conf) (first.over conf) }

smalls-undo : (smalls : List Small) (c : Chronicle) → Invariant c → MayBeMade c smalls → UndoesNothing c (played c smalls)
smalls-undo [] c i may = nothing-undone c
smalls-undo (s ∷ smalls) c i may =
    both-undo c (small_step c s) (played c (s ∷ smalls)) (said-still c s i may.0) (small-undoes c s i may.0 may.1)
    (smalls-undo smalls (small_step c s) (kept-by-smalls c s i may.0 may.1).0 may.2)

-- No event undoes anything.
pub events-undo-nothing : EventsUndoNothing
events-undo-nothing c w e is may admitted =
    let stands = always-stands.beside c w is in
    smalls-undo (smalls_in w e) c stands.facts (made-of-smalls c w e stands may admitted).0

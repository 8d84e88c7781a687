-- Who has entered an attempt behind a small step had entered it before, or has begun it now; and what it knows in the attempt's configuration.
use Rattle.std.proofs.Common.{◌≡◌, ℕ, true, false, not, ◌||◌, List, [], ◌∷◌, ◌++◌, Option, Some, None, IfSome, is_some, option_map, refl, sym, ap, ◌∙◌, subst, inl, inr, eq-eqb, eqb, eqb-true}
use Rattle.std.proofs.lemmas.Bool.{cond_both, and_from, or_cases}
use Rattle.std.proofs.lemmas.Option.{same_Some}
use Rattle.cg_base.specs.Sets.{has, is_within}
use Rattle.cg_base.specs.SetLaws.{has-with_member, has-without}
use Rattle.cg_base.specs.MemberLaws.{list_all_in}
use Rattle.cg_knowledge.specs.declared.summary.Summary.{Summary}
use Rattle.cg_knowledge.specs.Summaries.{senders, gone, remaining}
use Rattle.cg_group.specs.declared.phase.Phase.{Phase}
use Rattle.cg_client.specs.Replica.{Held, State, RegPrim, TransPrim, ExchangeStates, ExchangeActions, Construct, No, Un, NonPrim, Left, Replica}
use Rattle.cg_model.specs.World.{Node, node_of, replica_of}
use Rattle.cg_model.specs.Attempts.{held_in}
use Rattle.cg_model.specs.Chronicle.{Attempt, Chronicle}
use Rattle.cg_model.specs.Looks.{attempt_of, attempt_at, conf_at, core_of}
use Rattle.cg_model.specs.Levels.{is_record_of}
use Rattle.cg_model.specs.FactsReplica.{HasModeData, IsInAttempt, IsInPrimary, is_attempting, is_primary, own_record}
use Rattle.cg_model.specs.FactsAttempts.{IsAttempt}
use Rattle.cg_model.specs.Facts.{Invariant}
use Rattle.cg_model.specs.Small.{Small, small_step, with_leaver}
use Rattle.cg_model.specs.Smalls.{may_make}
use Rattle.cg_agree_lemmas.specs.ReachFacts.{all-at}
use Rattle.cg_agree_lemmas.specs.SameAttempt.{SameAttempt, same-refl}
use Rattle.cg_agree_lemmas.specs.AttemptsGrow.{grown-leaver, grown-entrant, grown-installer}
use Rattle.cg_agree.proofs.AttemptSteps.{attempt-step}
use Rattle.cg_agree_lemmas.specs.RecordKept.{attempt-heard}
use Rattle.cg_agree.proofs.DeadKept.{set-members}
use Rattle.cg_agree.proofs.AttemptsCame.{Begins, Came, Stayed, WasLeft, WasEntered, WasInstalled, WasMade, came}
use Rattle.cg_agree.proofs.DeadNow.{EnteredWithin}

-- ---- when a member entered

pub data HowEntered (c d : Chronicle) (conf p : ℕ) (b : Attempt) : Type 0 where
  Before : (a : Attempt) (found : attempt_of c conf ≡ Some a) (same : SameAttempt a b) (was : has a.entered p ≡ true) → HowEntered c d conf p b
  Now : (heard : List Summary) (r new : Replica) (begins : Begins c p conf heard r new) (set_is : b.set ≡ remaining heard) (moved : replica_of d.world p ≡ Some new) → HowEntered c d conf p b

holder : (c : Chronicle) (q conf : ℕ) (heard : List Summary) (r new : Replica) → Begins c q conf heard r new → new.held.id ≡ q
holder c q conf heard r new begins = begins.begun.id ∙ begins.id

begun-now : (c d : Chronicle) (conf p q : ℕ) (b : Attempt) (heard : List Summary) (r new : Replica) → Begins c q conf heard r new → b.set ≡ remaining heard → replica_of d.world q ≡ Some new → q ≡ p → HowEntered c d conf p b
begun-now c d conf p q b heard r new begins set_is moved same =
    Now heard r new (subst (λ n. Begins c n conf heard r new) same begins) set_is (ap (replica_of d.world) (sym same) ∙ moved)

pub how-entered : (c d : Chronicle) (i : Invariant c) (conf p : ℕ) (b : Attempt) → Came c d conf b → has b.entered p ≡ true → HowEntered c d conf p b
how-entered c d i conf p b (Stayed found) is = Before b found (same-refl b) is
how-entered c d i conf p b (WasLeft a found q n here now low) is =
    Before a found (subst (SameAttempt a) (sym now) (grown-leaver q n a).same) (sym (left q n a) ∙ ap (λ (x : Attempt). has x.entered p) (sym now) ∙ is) where
      left : (q n : ℕ) (a : Attempt) → has (with_leaver q n a).entered p ≡ has a.entered p
      left q n a = cond_both (has a.entered q) (record a { left = a.left ++ record { member = q; count = n } ∷ [] }) a (λ (x : Attempt). has x.entered p ≡ has a.entered p) (λ y. refl) (λ n. refl)
how-entered c d i conf p b (WasEntered a found q heard r new begins now moved) is =
    let shape = subst (λ (o : Option Attempt). IfSome o (IsAttempt c conf)) found (i.attempt.attempt_shape conf) in
    elim (or_cases (has a.entered p) (eqb new.held.id p) (sym (has-with_member a.entered new.held.id p) ∙ ap (λ (x : Attempt). has x.entered p) (sym now) ∙ is)) [
      | inl was ↦ Before a found (subst (SameAttempt a) (sym now) (grown-entrant new.held.id a).same) was
      | inr mine ↦ begun-now c d conf p q b heard r new begins (ap (λ (x : Attempt). x.set) now ∙ (attempt-heard c conf a q r heard begins.end shape).1) moved
          (sym (holder c q conf heard r new begins) ∙ eqb-true new.held.id p mine)
    ]
how-entered c d i conf p b (WasInstalled q r new ins done here now levels core moved) is =
    Before ins.a (ap (attempt_of c) here ∙ ins.found) (subst (SameAttempt ins.a) (sym now) (grown-installer q ins.a).same) (ap (λ (x : Attempt). has x.entered p) (sym now) ∙ is)
how-entered c d i conf p b (WasMade none q heard r new begins greens now moved handed) is =
    elim (or_cases (has [] p) (eqb new.held.id p) (sym (has-with_member [] new.held.id p) ∙ ap (λ (x : Attempt). has x.entered p) (sym now) ∙ is)) [
      | inl was ↦ absurd (let clash : false ≡ true = was in cc)
      | inr mine ↦ begun-now c d conf p q b heard r new begins (ap (λ (x : Attempt). x.set) now) moved (sym (holder c q conf heard r new begins) ∙ eqb-true new.held.id p mine)
    ]

-- a sender that isn't gone remains
remains-in : (heard : List Summary) (p : ℕ) → has (senders heard) p ≡ true → has (gone heard) p ≡ false → has (remaining heard) p ≡ true
unfolding remaining
remains-in heard p listed stays = has-without (senders heard) (gone heard) p ∙ and_from (has (senders heard) p) (not (has (gone heard) p)) listed (ap not stays)

-- Who has entered an attempt is of its set, behind each small step.
pub entered_within-kept : (c : Chronicle) (s : Small) → Invariant c → may_make c s ≡ true → EnteredWithin (small_step c s)
entered_within-kept c s i may conf = at (attempt_of (small_step c s) conf) refl where
  one : (b : Attempt) (q : ℕ) → HowEntered c (small_step c s) conf q b → has b.set q ≡ true
  one b q (Before a found same was) =
      let shape = subst (λ (o : Option Attempt). IfSome o (IsAttempt c conf)) found (i.attempt.attempt_shape conf) in
      ap (λ l. has l q) same.set ∙ all-at (has a.set) a.entered q shape.entered was
  one b q (Now heard r new begins set_is moved) =
      ap (λ l. has l q) set_is ∙ remains-in heard q begins.end.listed (ap (has (gone heard)) (sym begins.id) ∙ begins.begun.remains)

  at : (o : Option Attempt) → attempt_of (small_step c s) conf ≡ o → IfSome o (λ a. is_within a.entered a.set ≡ true)
  at None e = tt
  at (Some b) e = list_all_in (has b.set) b.entered (λ q is. one b q (how-entered c (small_step c s) i conf q b (came c (small_step c s) conf b (attempt-step c s i may) e) is))

-- ---- who has entered

-- has begun
pub entered-begun : (c : Chronicle) (i : Invariant c) (conf : ℕ) (a : Attempt) (p : ℕ) → attempt_of c conf ≡ Some a → has a.entered p ≡ true → core_of c p ≡ None → ⊥
entered-begun c i conf a p found entered none =
    let shape = subst (λ (o : Option Attempt). IfSome o (IsAttempt c conf)) found (i.attempt.attempt_shape conf) in
    let member = set-members c i conf a found p (all-at (has a.set) a.entered p shape.entered entered) in
    at (node_of c.world p) (i.net.members_begun.member conf p member) none
  where
    at : (o : Option Node) → is_some o ≡ true → option_map (λ (s : Node). held_in s.life) o ≡ None → ⊥
    at None begun none = let clash : false ≡ true = begun in cc
    at (Some s) begun none = let clash : Some (held_in s.life) ≡ None = none in cc

own-of : (a b : Attempt) (h : Held) → h.vulnerable ≡ Some (own_record b h.id) → b ≡ a → is_record_of a.conf h.vulnerable ≡ true
own-of a b h mine same = ap (is_record_of a.conf) mine ∙ eq-eqb b.conf a.conf (ap (λ (x : Attempt). x.conf) same)

-- has its record in a state of that attempt
pub entered-record : (c : Chronicle) (h : Held) (phase : Phase) (a : Attempt) → attempt_of c (conf_at phase) ≡ Some a → (state : State) → HasModeData c h phase state → (is_attempting state || is_primary state) ≡ true →
    is_record_of a.conf h.vulnerable ≡ true
entered-record c h phase a found state data' is = at state data' is where
  primary : IsInPrimary c h (conf_at phase) → is_record_of a.conf h.vulnerable ≡ true
  primary inside = own-of a (attempt_at c h.prim.index) h inside.mine (same_Some (attempt_at c h.prim.index) a (sym inside.opened ∙ found))

  attempting : IsInAttempt h (attempt_of c (conf_at phase)) → is_record_of a.conf h.vulnerable ≡ true
  attempting inside = own-of a a h (subst (IsInAttempt h) found inside).0 refl

  at : (state : State) → HasModeData c h phase state → (is_attempting state || is_primary state) ≡ true → is_record_of a.conf h.vulnerable ≡ true
  at RegPrim data' is = primary data'.0
  at TransPrim data' is = primary data'.0
  at (Construct k heard) data' is = attempting data'
  at (No k heard) data' is = attempting data'
  at Un data' is = attempting data'
  at (ExchangeStates k set heard) data' is = absurd (let clash : false ≡ true = is in cc)
  at (ExchangeActions k heard n) data' is = absurd (let clash : false ≡ true = is in cc)
  at (NonPrim regular) data' is = absurd (let clash : false ≡ true = is in cc)
  at Left data' is = absurd (let clash : false ≡ true = is in cc)

-- What an attempt is stays so through a small step; of one that is made now its parts are left to be known.
use Rattle.std.proofs.Common.{◌≡◌, ℕ, ◌≤◌, ◌<◌, true, not, ◌||◌, List, [], ◌∷◌, ◌++◌, length, length-append, take, Option, Some, None, IfSome, refl, sym, ap, ap₂, ◌∙◌, subst, inl, inr, arith, eqb, eqb-true}
use Rattle.std.specs.Prelude.{◌==◌, option_and_then}
use Rattle.std.proofs.lemmas.Bool.{cond_both, and_from, or_cases}
use Rattle.cg_base.specs.Sets.{has, is_within, with_member}
use Rattle.cg_base.specs.SetLaws.{has-with_member}
use Rattle.cg_base.specs.FindLaws.{found_passes}
use Rattle.cg_base.specs.MemberLaws.{list_all_in}
use Rattle.cg_queue.specs.Queue.{names_of}
use Rattle.cg_vote.specs.Quorum.{is_quorum}
use Rattle.cg_knowledge.specs.declared.summary.Summary.{Summary}
use Rattle.cg_knowledge.specs.Summaries.{senders, gone, remaining, most_updated}
use Rattle.cg_knowledge.specs.Primary.{known_primary}
use Rattle.cg_knowledge.specs.Verdict.{decides}
use Rattle.cg_client.specs.Replica.{Replica}
use Rattle.cg_model.specs.Chronicle.{Told, Attempt, Chronicle}
use Rattle.cg_model.specs.Looks.{told_in, conf_at, members_in, ordered_in, attempt_of, top_of}
use Rattle.cg_model.specs.Talk.{talk_of, is_ended}
use Rattle.cg_model.specs.Fronts.{IsSomeWith}
use Rattle.cg_model.specs.Levels.{prim_at}
use Rattle.cg_model.specs.FactsReplica.{is_attempting, is_primary, IsCounted, IsModeData}
use Rattle.cg_model.specs.FactsTalk.{TalkLegal, whole_talk}
use Rattle.cg_model.specs.FactsExchange.{best_told}
use Rattle.cg_model.specs.FactsAttempts.{IsAttempt, AreParts, AttemptShape}
use Rattle.cg_model.specs.Facts.{Invariant}
use Rattle.cg_model.specs.Small.{Small, small_step, with_leaver, with_entrant, with_installer}
use Rattle.cg_model.specs.Smalls.{may_make}
use Rattle.cg_agree_lemmas.specs.FrontFacts.{take-Front}
use Rattle.cg_agree_lemmas.specs.HandSays.{remains-unless_gone}
use Rattle.cg_agree_lemmas.specs.ReachFacts.{all-at}
use Rattle.cg_agree_lemmas.specs.ReachSteps.{goes_on-kept}
use Rattle.cg_agree_lemmas.specs.ReachWorld.{levels-kept}
use Rattle.cg_agree_lemmas.specs.SameAttempt.{SameAttempt, same-refl}
use Rattle.cg_agree_lemmas.specs.AttemptsGrow.{grown-leaver}
use Rattle.cg_agree_lemmas.specs.HandsNow.{whole-through, whole-ended}
use Rattle.cg_agree_lemmas.specs.RecordKept.{attempt-heard}
use Rattle.cg_agree.proofs.AttemptSteps.{attempt-step, Installing}
use Rattle.cg_agree.proofs.DeadKept.{said-attempt, said-by}
use Rattle.cg_agree.proofs.AttemptsCame.{Begins, Came, Stayed, WasLeft, WasEntered, WasInstalled, WasMade, came}
use Rattle.cg_agree.proofs.LevelsKept.{prim-kept, known-level}
use Rattle.cg_agree.proofs.OneAttemptKept.{quorum-now}

-- ---- the talk of an attempt's configuration has all summaries

pub record SameEnd (c d : Chronicle) (conf : ℕ) : Type 0 where
  pub ended : is_ended (members_in d conf) (whole_talk d conf) ≡ true
  pub heard : (whole_talk d conf).heard ≡ (whole_talk c conf).heard

pub same-end : (c : Chronicle) (s : Small) (i : Invariant c) → may_make c s ≡ true → TalkLegal (small_step c s) → (conf : ℕ) → 0 < length (ordered_in c conf) → is_ended (members_in c conf) (whole_talk c conf) ≡ true →
    SameEnd c (small_step c s) conf
same-end c s i may legal conf said ended =
    let d = small_step c s in
    let on = goes_on-kept conf c s i.net.phase_sound i.net.receipts_inside may said in
    let list = ordered_in c conf in
    let front : take (length list) (ordered_in d conf) ≡ list = sym (take-Front list (ordered_in d conf) on.ordered) in
    let then : is_ended (members_in d conf) (talk_of (take (length list) (ordered_in d conf))) ≡ true = ap₂ (λ m xs. is_ended m (talk_of xs)) on.members front ∙ ended in
    record {
      ended = whole-ended d conf 0 (length list) legal then;
      heard = (whole-through d conf 0 (length list) legal then).heard ∙ ap (λ xs. (talk_of xs).heard) front;
    }

-- who remains
remains-set : (c : Chronicle) (p conf : ℕ) (heard : List Summary) (r new' : Replica) → Begins c p conf heard r new' → has (remaining heard) new'.held.id ≡ true
remains-set c p conf heard r new' begins =
    let name : new'.held.id ≡ p = begins.begun.id ∙ begins.id in
    ap (has (remaining heard)) name ∙ remains-unless_gone heard p begins.end.listed ∙ ap not (ap (has (gone heard)) (sym begins.id) ∙ begins.begun.remains)

-- one more member
within-more : (set within : List ℕ) (p : ℕ) → is_within set within ≡ true → has within p ≡ true → is_within (with_member set p) within ≡ true
within-more set within p is member = list_all_in (has within) (with_member set p) (λ q in_more. elim (or_cases (has set q) (eqb p q) (sym (has-with_member set p q) ∙ in_more)) [
  | inl old ↦ all-at (has within) set q is old
  | inr now ↦ ap (has within) (sym (eqb-true p q now)) ∙ member
])

within-wider : (bits xs ys : List ℕ) → ((q : ℕ) → has xs q ≡ true → has ys q ≡ true) → is_within bits xs ≡ true → is_within bits ys ≡ true
within-wider bits xs ys more is = list_all_in (has ys) bits (λ q in_bits. more q (all-at (has xs) bits q is in_bits))

-- who installs an attempt has entered it
entered-installing : (c : Chronicle) (i : Invariant c) (p : ℕ) (r : Replica) (ins : Installing c p r) → is_attempting r.state ≡ true → has ins.a.entered p ≡ true
entered-installing c i p r ins attempting =
    let mode = subst (λ (o : Option Replica). IfSome o (IsModeData c p)) ins.up (i.replica.mode_data p) in
    let counted = subst (λ (o : Option Attempt). IfSome o (λ a. IsCounted a r)) (ap (attempt_of c) (ap conf_at ins.regular) ∙ ins.found) mode.counted in
    ap (has ins.a.entered) (sym ins.id) ∙ counted.entered ∙ ap (λ b. b || is_primary r.state) attempting

-- the parts of an attempt that is made now
abbrev pub MadeParts : Chronicle → Small → Type 0
MadeParts c s =
    (conf : ℕ) (b : Attempt) → attempt_of c conf ≡ None → attempt_of (small_step c s) conf ≡ Some b → AreParts (small_step c s) (whole_talk (small_step c s) conf).heard b

module _ (c : Chronicle) (s : Small) (i : Invariant c) (may : may_make c s ≡ true) (legal : TalkLegal (small_step c s)) (told : (k q : ℕ) (t : Told) → told_in c k q ≡ Some t → told_in (small_step c s) k q ≡ Some t)
    (start : (small_step c s).start ≡ c.start) (made : MadeParts c s) where
  abbrev d : Chronicle
  d = small_step c s

  top-more : top_of c ≤ top_of d
  top-more = let more = levels-kept c s in let e = ap (λ (l : List ℕ). length l) more.all ∙ length-append c.levels more.more in omega (arith, e)

  shape-of : (conf : ℕ) (a : Attempt) → attempt_of c conf ≡ Some a → IsAttempt c conf a
  shape-of conf a e = subst (λ (o : Option Attempt). IfSome o (IsAttempt c conf)) e (i.attempt.attempt_shape conf)

  best-still : (conf : ℕ) (heard : List Summary) (P : Told → Type 0) → IsSomeWith (best_told c conf heard) P → IsSomeWith (best_told d conf heard) P
  best-still conf heard P is = at (most_updated heard) is where
    with_told : (b : Summary) (o : Option Told) → told_in c conf b.id ≡ o → IsSomeWith o P → IsSomeWith (told_in d conf b.id) P
    with_told b None e is = absurd is
    with_told b (Some t) e is = subst (λ o. IsSomeWith o P) (sym (told conf b.id t e)) is

    at : (o : Option Summary) → IsSomeWith (option_and_then (λ s. told_in c conf s.id) o) P → IsSomeWith (option_and_then (λ s. told_in d conf s.id) o) P
    at None is = absurd is
    at (Some b) is = with_told b (told_in c conf b.id) refl is

  -- of an attempt that was there
  still : (conf : ℕ) (a b : Attempt) → attempt_of c conf ≡ Some a → SameAttempt a b → is_within b.entered b.set ≡ true → is_within b.installed b.entered ≡ true → IsAttempt d conf b
  still conf a b found same entered installed =
      let old = shape-of conf a found in
      let end = same-end c s i may legal conf (said-attempt c conf a i found) old.ended in
      let level = old.level in
      let from = same.from in
      let more = top-more in
      record {
        ended = end.ended;
        decided = ap decides end.heard ∙ old.decided;
        parts = subst (λ l. AreParts d l b) (sym end.heard) (record {
          from = same.from ∙ old.parts.from;
          set = same.set ∙ old.parts.set;
          greens = subst (λ k. IsSomeWith (best_told d k (whole_talk c conf).heard) (λ best. b.greens ≡ best.greens)) (sym same.conf)
              (subst (λ k. IsSomeWith (best_told d k (whole_talk c conf).heard) (λ best. b.greens ≡ best.greens)) (sym (conf-is conf a found))
              (best-still conf (whole_talk c conf).heard (λ best. b.greens ≡ best.greens)
              (as-greens conf a b found same.greens (subst (λ k. IsSomeWith (best_told c k (whole_talk c conf).heard) (λ best. a.greens ≡ best.greens)) (conf-is conf a found) old.parts.greens))));
          yellow = ap names_of same.yellow ∙ old.parts.yellow;
          reds = ap names_of same.reds ∙ old.parts.reds;
        });
        entered = entered;
        installed = installed;
        level = omega (arith, level, from, more);
        quorum = ap₂ (λ x set. is_quorum x.set set) (ap (prim_at d) from ∙ prim-kept c s a.from i.attempt.levels_stand start level) same.set ∙ old.quorum;
      }
    where
      conf-is : (conf : ℕ) (a : Attempt) → attempt_of c conf ≡ Some a → a.conf ≡ conf
      conf-is conf a e = eqb-true a.conf conf (found_passes (λ (a : Attempt). a.conf == conf) c.attempts a e)

      as-greens : (conf : ℕ) (a b : Attempt) → attempt_of c conf ≡ Some a → b.greens ≡ a.greens → IsSomeWith (best_told c conf (whole_talk c conf).heard) (λ best. a.greens ≡ best.greens) →
          IsSomeWith (best_told c conf (whole_talk c conf).heard) (λ best. b.greens ≡ best.greens)
      as-greens conf a b found e is = at (best_told c conf (whole_talk c conf).heard) is where
        at : (o : Option Told) → IsSomeWith o (λ best. a.greens ≡ best.greens) → IsSomeWith o (λ best. b.greens ≡ best.greens)
        at None is = absurd is
        at (Some best) is = e ∙ is

  of_came : (conf : ℕ) (b : Attempt) → attempt_of d conf ≡ Some b → Came c d conf b → IsAttempt d conf b
  of_came conf b now (Stayed found) = let old = shape-of conf b found in still conf b b found (same-refl b) old.entered old.installed
  of_came conf b now (WasLeft a found p n here is low) =
      let old = shape-of conf a found in
      subst (IsAttempt d conf) (sym is) (still conf a (with_leaver p n a) found (grown-leaver p n a).same
      (cond_both (has a.entered p) (record a { left = a.left ++ record { member = p; count = n } ∷ [] }) a (λ (x : Attempt). is_within x.entered x.set ≡ true) (λ y. old.entered) (λ n. old.entered))
      (cond_both (has a.entered p) (record a { left = a.left ++ record { member = p; count = n } ∷ [] }) a (λ (x : Attempt). is_within x.installed x.entered ≡ true) (λ y. old.installed) (λ n. old.installed)))
  of_came conf b now (WasEntered a found p heard r new' begins is moved) =
      let old = shape-of conf a found in
      let set = (attempt-heard c conf a p r heard begins.end old).1 in
      subst (IsAttempt d conf) (sym is) (still conf a (with_entrant new'.held.id a) found (record { conf = refl; from = refl; set = refl; greens = refl; yellow = refl; reds = refl })
      (within-more a.entered a.set new'.held.id old.entered (ap (λ l. has l new'.held.id) set ∙ remains-set c p conf heard r new' begins))
      (within-wider a.installed a.entered (with_member a.entered new'.held.id) (λ q was. has-with_member a.entered new'.held.id q ∙ ap (λ b. b || eqb new'.held.id q) was) old.installed))
  of_came conf b now (WasInstalled p r new' ins done here is levels core moved) =
      let found : attempt_of c conf ≡ Some ins.a = ap (attempt_of c) here ∙ ins.found in
      let old = shape-of conf ins.a found in
      subst (IsAttempt d conf) (sym is) (still conf ins.a (with_installer p ins.a) found (record { conf = refl; from = refl; set = refl; greens = refl; yellow = refl; reds = refl })
      old.entered (within-more ins.a.installed ins.a.entered p old.installed (entered-installing c i p r ins done.before)))
  of_came conf b now (WasMade none p heard r new' begins greens is moved handed) =
      let end = same-end c s i may legal conf (said-by (ordered_in c conf) p (ap (λ l. has (senders l) p) begins.end.whole ∙ begins.end.listed)) begins.end.ended in
      let level = known-level c i p conf r heard begins.end in
      let low = level.0 in
      let more = top-more in
      let from = ap (λ (x : Attempt). x.from) is in
      record {
        ended = end.ended;
        decided = ap decides (end.heard ∙ begins.end.whole) ∙ begins.begun.holds;
        parts = made conf b none now;
        entered = subst (λ (x : Attempt). is_within x.entered x.set ≡ true) (sym is) (and_from (has (remaining heard) new'.held.id) true (remains-set c p conf heard r new' begins) refl);
        installed = subst (λ (x : Attempt). is_within x.installed x.entered ≡ true) (sym is) refl;
        level = omega (arith, low, from, more);
        quorum = subst (λ (x : Attempt). is_quorum (prim_at d x.from).set x.set ≡ true) (sym is)
            (ap (λ x. is_quorum x.set (remaining heard)) (prim-kept c s (known_primary heard).index i.attempt.levels_stand start low) ∙ quorum-now c i p conf heard r new' begins);
      }

  pub shape-kept : AttemptShape d
  shape-kept conf = at (attempt_of d conf) refl where
    at : (o : Option Attempt) → attempt_of d conf ≡ o → IfSome o (IsAttempt d conf)
    at None e = tt
    at (Some b) e = of_came conf b e (came c d conf b (attempt-step c s i may) e)

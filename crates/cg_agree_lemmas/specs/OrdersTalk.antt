-- A message that gets its place keeps the facts about what is said.
use Rattle.std.proofs.Common.{◌≡◌, ℕ, zero, suc, ◌≤◌, true, false, cond, not, ◌&&◌, ◌||◌, List, [], ◌∷◌, ◌++◌, Option, Some, None, map, take, filter_map, length, refl, sym, ap, ap₂, ◌∙◌, ⊎_elim, ◌⊎◌, inl, inr, eqb-true, eq-eqb, append-nil, subst, if◌then◌else◌, arith, IfSome}
use Rattle.std.specs.Prelude.{◌==◌, ◌+◌, is_some}
use Rattle.std.specs.List.{list_all}
use Rattle.cg_base.specs.Sets.{has}
use Rattle.cg_client.specs.Replica.{Held, State, RegPrim, TransPrim, ExchangeStates, ExchangeActions, Construct, No, Un, NonPrim, Left, Replica}
use Rattle.cg_states.specs.Construct.{attempt_set}
use Rattle.cg_model.specs.World.{replica_of}
use Rattle.cg_model.specs.Levels.{announced_from, announced_at, lacks_announcement}
use Rattle.std.proofs.lemmas.Bool.{and_parts, and_from, cases_Bool, cond-true, cond-false, cond_both, eqb-false, or_left, or_right, or_cases}
use Rattle.std.proofs.lemmas.List.{append_assoc}
use Rattle.std.proofs.lemmas.List.Elements.{filter_map-append}
use Rattle.std.proofs.lemmas.List.Sums.{fold-append}
use Rattle.cg_knowledge.specs.declared.summary.Summary.{Summary}
use Rattle.cg_wire.specs.declared.message.Msg.{Msg}
use Rattle.cg_wire.specs.declared.message.Msg.TheVariants.{Action as ActionMsg, State as StateMsg, GreenItem, RedItem, Cpc}
use Rattle.cg_group.specs.declared.phase.Phase.{Phase}
use Rattle.cg_group.specs.declared.phase.Phase.TheVariants.{Regular, Transitional, Alone, Down}
use Rattle.cg_group.specs.State.{Sent, phase_of, delivered_to, unordered_of, has_received}
use Rattle.cg_model.specs.Chronicle.{Told, Chronicle}
use Rattle.cg_model.specs.Looks.{conf_of, told_in, is_regular_at, is_regular_in, members_in, ordered_in, sent_by, placed_of, waiting_in, said_in}
use Rattle.cg_model.specs.Talk.{Talk, no_talk, talk_of, hears, hears_from, may_say, is_legal, state_in, summary_in, announcer_in}
use Rattle.cg_model.specs.FactsTalk.{whole_talk, handed_talk, TalkLegal, SentIffDue, HeardIsTold, AreTold, summaries_of, IsTransitional, IsStateIn, ModeFits}
use Rattle.cg_agree_lemmas.specs.TalkCommute.{legal-append, commute, tells, clash}
use Rattle.cg_agree_lemmas.specs.SaidSoFar.{placed-append}
use Rattle.cg_group.specs.LookupLaws.{eqb_comm}

-- the oldest message of a replica got the next place of its configuration; all else is as before
pub record Ordered (c d : Chronicle) (p conf : ℕ) (m : Msg) (rest : List Msg) : Type 0 where
  pub regular : phase_of c.world.group p ≡ Regular conf
  pub members : (k : ℕ) → members_in d k ≡ members_in c k
  pub ordered : (k : ℕ) → ordered_in d k ≡ cond (k == conf) (ordered_in c conf ++ sent_by p m ∷ []) (ordered_in c k)
  pub phase : (q : ℕ) → phase_of d.world.group q ≡ phase_of c.world.group q
  pub delivered : (q : ℕ) → delivered_to d.world.group q ≡ delivered_to c.world.group q
  pub waited : unordered_of c.world.group p ≡ m ∷ rest
  pub waits : (q : ℕ) → unordered_of d.world.group q ≡ cond (q == p) rest (unordered_of c.world.group q)
  pub told : (k q : ℕ) → told_in d k q ≡ told_in c k q
  pub replica : (q : ℕ) → replica_of d.world q ≡ replica_of c.world q
  pub receipts : (k q place : ℕ) → is_regular_in c k q ≡ false → place ≤ length (ordered_in c k) → has_received (conf_of d k) q place ≡ has_received (conf_of c k) q place
  pub fresh : (q : ℕ) → (q == p) ≡ false → has_received (conf_of d conf) q (suc (length (ordered_in c conf))) ≡ false
  pub within : (k q : ℕ) → is_regular_in c k q ≡ true → delivered_to c.world.group q ≤ length (ordered_in c k)

take-front : {X : Type 0} (xs ys : List X) (n : ℕ) → n ≤ length xs → take n (xs ++ ys) ≡ take n xs
take-front xs ys zero le = refl
take-front [] ys (suc n) le = absurd (omega arith)
take-front (x ∷ xs) ys (suc n) le = ap (λ zs. x ∷ zs) (take-front xs ys n (omega arith))

-- the place of an announcement is there, and one more message gives it no other one
announced-within : (place : ℕ) (xs : List (Sent Msg)) (q : ℕ) → announced_from place xs q ≤ place + length xs
announced-within place [] q = omega arith
announced-within place (x ∷ xs) q =
    cond_both ((x.from == q) && is_some (announcer_in x.message)) (suc place) (announced_from (suc place) xs q) (λ n. n ≤ place + length (x ∷ xs)) (λ y. omega arith)
    (λ n. let later = announced-within (suc place) xs q in omega arith)

announced-more : (place : ℕ) (xs : List (Sent Msg)) (s : Sent Msg) (q : ℕ) →
    ((announced_from place (xs ++ s ∷ []) q ≡ announced_from place xs q) × (announced_from place xs q ≤ place + length xs))
    ⊎ (announced_from place (xs ++ s ∷ []) q ≡ suc (place + length xs))
announced-more place [] s q =
    cond_both ((s.from == q) && is_some (announcer_in s.message)) (suc place) 0 (λ n. ((n ≡ 0) × (0 ≤ place + 0)) ⊎ (n ≡ suc (place + 0))) (λ y. inr (omega arith)) (λ n. inl (refl, omega arith))
announced-more place (x ∷ xs) s q = ⊎_elim
    (λ y. inl (rw y (refl, omega arith)))
    (λ n. ⊎_elim (λ same. inl (rw n (same.0, omega (arith, same.1)))) (λ last. inr (rw n (omega (arith, last)))) (announced-more (suc place) xs s q))
    (cases_Bool ((x.from == q) && is_some (announcer_in x.message)))

module _ (c d : Chronicle) (p conf : ℕ) (m : Msg) (rest : List Msg) (step : Ordered c d p conf m rest) where
  abbrev new : Sent Msg
  new = sent_by p m

  regular-same : (k q : ℕ) → is_regular_in d k q ≡ is_regular_in c k q
  regular-same k q = ap (is_regular_at k) (step.phase q)

  regular-own : is_regular_in c conf p ≡ true
  regular-own = ap (is_regular_at conf) step.regular ∙ eq-eqb conf conf refl

  ordered-here : ordered_in d conf ≡ ordered_in c conf ++ new ∷ []
  ordered-here = step.ordered conf ∙ cond-true (conf == conf) (ordered_in c conf ++ new ∷ []) (ordered_in c conf) (eq-eqb conf conf refl)

  pub ordered-other : (k : ℕ) → (k == conf) ≡ false → ordered_in d k ≡ ordered_in c k
  ordered-other k other = step.ordered k ∙ cond-false (k == conf) (ordered_in c conf ++ new ∷ []) (ordered_in c k) other

  pub whole-here : whole_talk d conf ≡ hears_from (whole_talk c conf) p m
  whole-here = ap talk_of ordered-here ∙ fold-append hears no_talk (ordered_in c conf) (new ∷ [])

  -- the replica isn't regular in any other configuration
  away : (k : ℕ) → (k == conf) ≡ false → is_regular_in c k p ≡ false
  away k other = ap (is_regular_at k) step.regular ∙ other-way (cases_Bool (conf == k)) where
    other-way : ((conf == k) ≡ true) ⊎ ((conf == k) ≡ false) → (conf == k) ≡ false
    other-way (inr isnt) = isnt
    other-way (inl is) = absurd (eqb-false k conf other (sym (eqb-true conf k is)))

  waiting-other : (k q : ℕ) → (q == p) ≡ false → waiting_in d k q ≡ waiting_in c k q
  waiting-other k q other = ap₂ (λ b xs. if b then xs else []) (regular-same k q) (step.waits q ∙ cond-false (q == p) rest (unordered_of c.world.group q) other)

  waiting-own : waiting_in d conf p ≡ rest
  waiting-own = ap₂ (λ b xs. if b then xs else []) (regular-same conf p ∙ regular-own) (step.waits p ∙ cond-true (p == p) rest (unordered_of c.world.group p) (eq-eqb p p refl))

  waiting-away : (k : ℕ) → (k == conf) ≡ false → waiting_in d k p ≡ waiting_in c k p
  waiting-away k other =
      ap (λ b. if b then unordered_of d.world.group p else []) (regular-same k p ∙ away k other) ∙ sym (ap (λ b. if b then unordered_of c.world.group p else []) (away k other))

  pub waited-own : waiting_in c conf p ≡ m ∷ rest
  waited-own = ap₂ (λ b xs. if b then xs else []) regular-own step.waited

  module _ (old : TalkLegal c) where
    own-parts : (may_say (members_in c conf) conf (whole_talk c conf) p m ≡ true)
        × (is_legal (members_in c conf) conf (hears_from (whole_talk c conf) p m) (map (sent_by p) rest) ≡ true)
    own-parts = and_parts (may_say (members_in c conf) conf (whole_talk c conf) p m) (is_legal (members_in c conf) conf (hears_from (whole_talk c conf) p m) (map (sent_by p) rest))
        (ap (λ xs. is_legal (members_in c conf) conf (whole_talk c conf) (map (sent_by p) xs)) (sym waited-own) ∙ old.waiting conf p)

    legal-ordered : (k : ℕ) → is_legal (members_in d k) k no_talk (ordered_in d k) ≡ true
    legal-ordered k = ⊎_elim
        (λ is. subst (λ (x : ℕ). is_legal (members_in d x) x no_talk (ordered_in d x) ≡ true) (sym (eqb-true k conf is))
        (ap₂ (λ set xs. is_legal set conf no_talk xs) (step.members conf) ordered-here ∙ legal-append (members_in c conf) conf (ordered_in c conf) (new ∷ []) no_talk
        ∙ and_from (is_legal (members_in c conf) conf no_talk (ordered_in c conf)) (may_say (members_in c conf) conf (whole_talk c conf) p m && true) (old.ordered conf)
        (and_from (may_say (members_in c conf) conf (whole_talk c conf) p m) true own-parts.0 refl)))
        (λ isnt. ap₂ (λ set xs. is_legal set k no_talk xs) (step.members k) (ordered-other k isnt) ∙ old.ordered k)
        (cases_Bool (k == conf))

    waiting-here : (q : ℕ) → is_legal (members_in d conf) conf (whole_talk d conf) (map (sent_by q) (waiting_in d conf q)) ≡ true
    waiting-here q = ⊎_elim
        (λ is. subst (λ (x : ℕ). is_legal (members_in d conf) conf (whole_talk d conf) (map (sent_by x) (waiting_in d conf x)) ≡ true) (sym (eqb-true q p is))
        (rw (step.members conf, whole-here, waiting-own) own-parts.1))
        (λ isnt. rw (step.members conf, whole-here, waiting-other conf q isnt)
        (commute (members_in c conf) conf (whole_talk c conf) p q m (waiting_in c conf q) (λ e. eqb-false q p isnt (sym e)) own-parts.0 (old.waiting conf q)))
        (cases_Bool (q == p))

    waiting-there : (k q : ℕ) → (k == conf) ≡ false → is_legal (members_in d k) k (whole_talk d k) (map (sent_by q) (waiting_in d k q)) ≡ true
    waiting-there k q isnt =
        let whole : whole_talk d k ≡ whole_talk c k = ap talk_of (ordered-other k isnt) in
        let same : waiting_in d k q ≡ waiting_in c k q = ⊎_elim
        (λ is. subst (λ (x : ℕ). waiting_in d k x ≡ waiting_in c k x) (sym (eqb-true q p is)) (waiting-away k isnt)) (λ other. waiting-other k q other) (cases_Bool (q == p)) in
        rw (step.members k, whole, same) (old.waiting k q)

    pub legal-ordered-kept : TalkLegal d
    legal-ordered-kept = record {
      ordered = legal-ordered;
      waiting = λ k q. ⊎_elim
          (λ is. subst (λ (x : ℕ). is_legal (members_in d x) x (whole_talk d x) (map (sent_by q) (waiting_in d x q)) ≡ true) (sym (eqb-true k conf is)) (waiting-here q))
          (λ isnt. waiting-there k q isnt) (cases_Bool (k == conf));
    }

  -- what a member has said is what it had said
  pub said-same : (k q : ℕ) → said_in d k q ≡ said_in c k q
  said-same k q = ⊎_elim
      (λ here. ⊎_elim
      (λ own. subst (λ (x : ℕ). said_in d x q ≡ said_in c x q) (sym (eqb-true k conf here)) (subst (λ (x : ℕ). said_in d conf x ≡ said_in c conf x) (sym (eqb-true q p own)) said-own))
      (λ other. subst (λ (x : ℕ). said_in d x q ≡ said_in c x q) (sym (eqb-true k conf here)) (said-other q other))
      (cases_Bool (q == p)))
      (λ there. ap₂ (λ xs ys. placed_of q xs ++ ys) (ordered-other k there)
      (⊎_elim (λ is. subst (λ (x : ℕ). waiting_in d k x ≡ waiting_in c k x) (sym (eqb-true q p is)) (waiting-away k there)) (λ other. waiting-other k q other) (cases_Bool (q == p))))
      (cases_Bool (k == conf)) where
        one : placed_of p (new ∷ []) ≡ m ∷ []
        one = ap (λ b. map (λ (s : Sent Msg). s.message) (if b then new ∷ [] else [])) (eq-eqb p p refl)

        said-own : said_in d conf p ≡ said_in c conf p
        said-own = ap₂ (λ xs ys. placed_of p xs ++ ys) ordered-here waiting-own ∙ ap (λ xs. xs ++ rest) (placed-append p (ordered_in c conf) (new ∷ []) ∙ ap (λ xs. placed_of p (ordered_in c conf) ++ xs) one)
            ∙ append_assoc (placed_of p (ordered_in c conf)) (m ∷ []) rest ∙ ap (λ xs. placed_of p (ordered_in c conf) ++ xs) (sym waited-own)

        nobody : (q : ℕ) → (q == p) ≡ false → placed_of q (new ∷ []) ≡ []
        nobody q other = ap (λ b. map (λ (s : Sent Msg). s.message) (if b then new ∷ [] else [])) (eqb_comm p q ∙ other)

        said-other : (q : ℕ) → (q == p) ≡ false → said_in d conf q ≡ said_in c conf q
        said-other q other = ap₂ (λ xs ys. placed_of q xs ++ ys) ordered-here (waiting-other conf q other)
            ∙ ap (λ xs. xs ++ waiting_in c conf q) (placed-append q (ordered_in c conf) (new ∷ []) ∙ ap (λ xs. placed_of q (ordered_in c conf) ++ xs) (nobody q other) ∙ append-nil (placed_of q (ordered_in c conf)))

  pub handed-same : (k q : ℕ) → is_regular_in c k q ≡ true → handed_talk d k q ≡ handed_talk c k q
  handed-same k q regular = ap (λ n. talk_of (take n (ordered_in d k))) (step.delivered q) ∙ ⊎_elim
      (λ is. subst (λ (x : ℕ). is_regular_in c x q ≡ true → talk_of (take (delivered_to c.world.group q) (ordered_in d x)) ≡ handed_talk c x q) (sym (eqb-true k conf is))
      (λ here. ap talk_of (ap (take (delivered_to c.world.group q)) ordered-here ∙ take-front (ordered_in c conf) (new ∷ []) (delivered_to c.world.group q) (step.within conf q here))) regular)
      (λ isnt. ap (λ xs. talk_of (take (delivered_to c.world.group q) xs)) (ordered-other k isnt)) (cases_Bool (k == conf))

  pub says-ordered-kept : SentIffDue c → SentIffDue d
  says-ordered-kept old k q regular =
      let before : is_regular_in c k q ≡ true = sym (regular-same k q) ∙ regular in
      rw (step.members k, said-same k q, handed-same k q before, step.told k q) (old k q before)

  -- ---- summaries

  told-frame : (k : ℕ) (heard : List Summary) → AreTold c k heard → AreTold d k heard
  told-frame k [] are = are
  told-frame k (s ∷ heard) are = (ap summaries_of (step.told k s.id) ∙ are.0, told-frame k heard are.1)

  told-more : (k : ℕ) (heard : List Summary) (s : Summary) → AreTold d k heard → summaries_of (told_in d k s.id) ≡ s ∷ [] → AreTold d k (heard ++ s ∷ [])
  told-more k [] s are one = (one, tt)
  told-more k (x ∷ heard) s are one = (are.0, told-more k heard s are.1 one)

  -- the only summary
  only-one : (o : Option Told) (xs ys : List Summary) (s : Summary) → xs ++ s ∷ ys ≡ summaries_of o → summaries_of o ≡ s ∷ []
  only-one None [] ys s e = absurd (let none : s ∷ ys ≡ [] = e in cc)
  only-one None (x ∷ xs) ys s e = absurd (let none : x ∷ (xs ++ s ∷ ys) ≡ [] = e in cc)
  only-one (Some t) [] ys s e = let same : s ∷ ys ≡ t.summary ∷ [] = e in cc
  only-one (Some t) (x ∷ []) ys s e = absurd (let some : x ∷ s ∷ ys ≡ t.summary ∷ [] = e in cc)
  only-one (Some t) (x ∷ y ∷ xs) ys s e = absurd (let some : x ∷ y ∷ (xs ++ s ∷ ys) ≡ t.summary ∷ [] = e in cc)

  told-hears : (t : Talk) (m : Msg) → AreTold d conf t.heard → ((s : Summary) → m ≡ StateMsg s → summaries_of (told_in d conf s.id) ≡ s ∷ []) → AreTold d conf (hears_from t p m).heard
  told-hears t (StateMsg s) are one = told-more conf t.heard s are (one s refl)
  told-hears t (GreenItem n a) are one = are
  told-hears t (RedItem a) are one = are
  told-hears t (Cpc i k) are one = are
  told-hears t (ActionMsg a) are one = are

  own-summary : TalkLegal c → SentIffDue c → (s : Summary) → m ≡ StateMsg s → summaries_of (told_in d conf s.id) ≡ s ∷ []
  own-summary legal says s is =
      let may : may_say (members_in c conf) conf (whole_talk c conf) p (StateMsg s) ≡ true = ap (may_say (members_in c conf) conf (whole_talk c conf) p) (sym is) ∙ (own-parts legal).0 in
      let named = (tells (members_in c conf) conf (whole_talk c conf) p s may).id in
      let said : said_in c conf p ≡ placed_of p (ordered_in c conf) ++ StateMsg s ∷ rest = ap (λ xs. placed_of p (ordered_in c conf) ++ xs) (waited-own ∙ ap (λ x. x ∷ rest) is) in
      let kinds = filter_map-append summary_in (placed_of p (ordered_in c conf)) (StateMsg s ∷ rest) in
      ap (λ x. summaries_of (told_in d conf x)) named ∙ ap summaries_of (step.told conf p)
      ∙ only-one (told_in c conf p) (filter_map summary_in (placed_of p (ordered_in c conf))) (filter_map summary_in rest) s
      (sym kinds ∙ ap (filter_map summary_in) (sym said) ∙ (says conf p regular-own).summary)

  pub told-ordered-kept : TalkLegal c → SentIffDue c → HeardIsTold c → HeardIsTold d
  told-ordered-kept legal says old k = ⊎_elim
      (λ is. subst (λ (x : ℕ). AreTold d x (whole_talk d x).heard) (sym (eqb-true k conf is))
      (subst (λ (t : Talk). AreTold d conf t.heard) (sym whole-here)
      (told-hears (whole_talk c conf) m (told-frame conf (whole_talk c conf).heard (old conf)) (own-summary legal says))))
      (λ isnt. subst (λ (t : Talk). AreTold d k t.heard) (sym (ap talk_of (ordered-other k isnt))) (told-frame k (whole_talk c k).heard (old k)))
      (cases_Bool (k == conf))

  -- ---- states

  abbrev Lacks : Chronicle → ℕ → ℕ → ℕ → Type 0
  Lacks e k x q = lacks_announcement e k x q ≡ true

  not-own : (x : ℕ) → is_regular_in c conf x ≡ false → (x == p) ≡ false
  not-own x out = other-way (cases_Bool (x == p)) where
    other-way : ((x == p) ≡ true) ⊎ ((x == p) ≡ false) → (x == p) ≡ false
    other-way (inr isnt) = isnt
    other-way (inl is) = clash (is_regular_in c conf x) (ap (is_regular_in c conf) (eqb-true x p is) ∙ regular-own) out

  lacks-here : (x q : ℕ) → is_regular_in c conf x ≡ false → Lacks c conf x q → Lacks d conf x q
  lacks-here x q out lacks =
      let before = announced_at c conf q in
      ap (λ xs. (announced_from 0 xs q == 0) || not (has_received (conf_of d conf) x (announced_from 0 xs q))) ordered-here
      ∙ ⊎_elim
      (λ same. ap (λ n. (n == 0) || not (has_received (conf_of d conf) x n)) same.0 ∙ ap (λ b. (before == 0) || not b) (step.receipts conf x before out (within same.1)) ∙ lacks)
      (λ last. ap (λ n. (n == 0) || not (has_received (conf_of d conf) x n)) (at_end last)
      ∙ or_right (suc (length (ordered_in c conf)) == 0) (not (has_received (conf_of d conf) x (suc (length (ordered_in c conf)))))
      (ap not (step.fresh x (not-own x out))))
      (announced-more 0 (ordered_in c conf) new q) where
        within : {n : ℕ} → n ≤ 0 + length (ordered_in c conf) → n ≤ length (ordered_in c conf)
        within le = omega arith

        at_end : {n : ℕ} → n ≡ suc (0 + length (ordered_in c conf)) → n ≡ suc (length (ordered_in c conf))
        at_end e = omega arith

  place-within : (k q : ℕ) → announced_at c k q ≤ length (ordered_in c k)
  place-within k q = let le = announced-within 0 (ordered_in c k) q in omega arith

  lacks-kept : (k x q : ℕ) → is_regular_in c k x ≡ false → Lacks c k x q → Lacks d k x q
  lacks-kept k x q out lacks = ⊎_elim
      (λ is. subst (λ (y : ℕ). is_regular_in c y x ≡ false → Lacks c y x q → Lacks d y x q) (sym (eqb-true k conf is)) (λ o l. lacks-here x q o l) out lacks)
      (λ isnt.
      let place = announced_at c k q in
      ap (λ xs. (announced_from 0 xs q == 0) || not (has_received (conf_of d k) x (announced_from 0 xs q))) (ordered-other k isnt)
      ∙ ap (λ b. (place == 0) || not b) (step.receipts k x place out (place-within k q)) ∙ lacks)
      (cases_Bool (k == conf))

  all-lack : (k x : ℕ) (heard set : List ℕ) → is_regular_in c k x ≡ false →
      list_all (λ q. has heard q || lacks_announcement c k x q) set ≡ true → list_all (λ q. has heard q || lacks_announcement d k x q) set ≡ true
  all-lack k x heard [] out all = refl
  all-lack k x heard (q ∷ set) out all =
      let parts = and_parts (has heard q || lacks_announcement c k x q) (list_all (λ q. has heard q || lacks_announcement c k x q) set) all in
      and_from (has heard q || lacks_announcement d k x q) (list_all (λ q. has heard q || lacks_announcement d k x q) set)
      (⊎_elim (λ told. or_left (has heard q) (lacks_announcement d k x q) told) (λ lacks. or_right (has heard q) (lacks_announcement d k x q) (lacks-kept k x q out lacks))
      (or_cases (has heard q) (lacks_announcement c k x q) parts.0))
      (all-lack k x heard set out parts.1)

  transitional-kept : (k x : ℕ) (h : Held) (state : State) → is_regular_in c k x ≡ false → IsTransitional c k x h state → IsTransitional d k x h state
  transitional-kept k x h RegPrim out is = is
  transitional-kept k x h TransPrim out is = is
  transitional-kept k x h (ExchangeStates at set heard) out is = is
  transitional-kept k x h (ExchangeActions at heard accepted) out is = is
  transitional-kept k x h (Construct at heard) out is = is
  transitional-kept k x h (No at heard) out is = (is.0, is.1, all-lack k x heard (attempt_set h) out is.2)
  transitional-kept k x h Un out is = is
  transitional-kept k x h (NonPrim regular) out is = is
  transitional-kept k x h Left out is = is

  state-kept : (x : ℕ) (phase : Phase) (r : Replica) → phase_of c.world.group x ≡ phase → IsStateIn c x phase r → IsStateIn d x phase r
  state-kept x Down r at is = is
  state-kept x Alone r at is = is
  state-kept x (Regular k) r at is =
      is ∙ ap₂ (λ set t. state_in set k t x) (sym (step.members k)) (sym (handed-same k x (ap (is_regular_at k) at ∙ eq-eqb k k refl)))
  state-kept x (Transitional k set) r at is = transitional-kept k x r.held r.state (ap (is_regular_at k) at) is

  some-kept : (x : ℕ) (o : Option Replica) → IfSome o (IsStateIn c x (phase_of c.world.group x)) → IfSome o (IsStateIn d x (phase_of c.world.group x))
  some-kept x None is = is
  some-kept x (Some r) is = state-kept x (phase_of c.world.group x) r refl is

  pub modes-ordered-kept : ModeFits c → ModeFits d
  modes-ordered-kept old x =
      subst (λ (o : Option Replica). IfSome o (IsStateIn d x (phase_of d.world.group x))) (sym (step.replica x))
      (subst (λ (y : Phase). IfSome (replica_of c.world x) (IsStateIn d x y)) (sym (step.phase x)) (some-kept x (replica_of c.world x) (old x)))

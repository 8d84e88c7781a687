-- A step by which one replica comes into a configuration in which nothing is said yet, and tells its summary, keeps the facts
-- about what is said.
use Rattle.std.proofs.Common.{◌≡◌, ℕ, Bool, true, false, cond, not, ◌&&◌, ◌||◌, List, [], ◌∷◌, ◌++◌, Option, Some, None, map, take, filter_map, refl, sym, ap, ap₂, ◌∙◌, ⊎_elim, eqb-true, eq-eqb, subst, if◌then◌else◌, IfSome}
use Rattle.std.specs.Prelude.{◌==◌}
use Rattle.std.proofs.lemmas.Bool.{cases_Bool, cond-true, cond-false, false_from_ne_true, and_from, and_left, and_right}
use Rattle.cg_base.specs.Sets.{has}
use Rattle.cg_base.specs.EachLaws.{list_all_same}
use Rattle.cg_knowledge.specs.Summaries.{senders, remaining}
use Rattle.cg_knowledge.specs.declared.summary.Summary.{Summary}
use Rattle.cg_knowledge.specs.Verdict.{decides}
use Rattle.cg_plan.specs.Plan.{plan_of}
use Rattle.cg_group.specs.LookupLaws.{eqb_comm}
use Rattle.cg_wire.specs.declared.message.Msg.{Msg}
use Rattle.cg_wire.specs.declared.message.Msg.TheVariants.{State as StateMsg}
use Rattle.cg_group.specs.declared.phase.Phase.{Phase}
use Rattle.cg_group.specs.declared.phase.Phase.TheVariants.{Regular, Transitional, Alone, Down}
use Rattle.cg_group.specs.State.{Configuration, phase_of, delivered_to, unordered_of, has_received}
use Rattle.cg_client.specs.Replica.{Held, State, RegPrim, TransPrim, ExchangeStates, ExchangeActions, Construct, No, Un, NonPrim, Left, Replica}
use Rattle.cg_states.specs.Construct.{attempt_set}
use Rattle.cg_model.specs.Levels.{lacks_announcement, announced_from}
use Rattle.cg_model.specs.World.{replica_of}
use Rattle.cg_model.specs.Chronicle.{Told, Chronicle}
use Rattle.cg_model.specs.Looks.{conf_of, told_in, is_regular_at, is_regular_in, members_in, ordered_in, sent_by, placed_of, waiting_in, said_in}
use Rattle.cg_model.specs.Talk.{Talk, no_talk, talk_of, is_legal, is_full, is_ended, act_in, known_up_to, is_through, state_behind, due_from, state_in}
use Rattle.cg_model.specs.FactsTalk.{whole_talk, handed_talk, TalkLegal, SaysWhatIsDue, SentIffDue, HeardIsTold, AreTold, summaries_of, IsTransitional, IsStateIn, ModeFits, AreContents, Content, AreNumbered, AreNumberedAt, ActsNumbered, TalkFacts}
use Rattle.cg_agree_lemmas.specs.NumbersSame.{numbered-at, numbered-itself, AreInRow}
use Rattle.cg_agree_lemmas.specs.TalkEarly.{all-member}

-- one replica has come into a configuration and told this, and all others are as before
pub record Comes (c d : Chronicle) (p conf : ℕ) (t : Told) (r : Replica) : Type 0 where
  pub confs : (k : ℕ) → conf_of d k ≡ conf_of c k
  pub unsaid : ordered_in c conf ≡ []
  pub member : has (members_in c conf) p ≡ true
  pub was_out : (k : ℕ) → is_regular_in c k p ≡ false
  pub phase : (q : ℕ) → phase_of d.world.group q ≡ cond (q == p) (Regular conf) (phase_of c.world.group q)
  pub delivered : (q : ℕ) → delivered_to d.world.group q ≡ cond (q == p) 0 (delivered_to c.world.group q)
  pub waits : (q : ℕ) → unordered_of d.world.group q ≡ cond (q == p) (StateMsg t.summary ∷ []) (unordered_of c.world.group q)
  pub told : (k q : ℕ) → told_in d k q ≡ cond ((k == conf) && (q == p)) (Some t) (told_in c k q)
  pub replica : (q : ℕ) → replica_of d.world q ≡ cond (q == p) (Some r) (replica_of c.world q)
  pub id : t.summary.id ≡ p
  pub at : t.summary.conf ≡ conf
  pub state : r.state ≡ ExchangeStates conf (members_in c conf) []

-- a member hasn't heard all where nothing was said
not-full : (set : List ℕ) (p : ℕ) → has set p ≡ true → is_full set no_talk ≡ false
unfolding senders
not-full set p member = false_from_ne_true (is_full set no_talk) (λ full. absurd (let clash : false ≡ true = all-member (λ q. has [] q) set p member full in cc))

module _ (c d : Chronicle) (p conf : ℕ) (t : Told) (r : Replica) (comes : Comes c d p conf t r) where
  abbrev set : List ℕ
  set = members_in c conf

  abbrev s : Summary
  s = t.summary

  own : (p == p) ≡ true
  own = eq-eqb p p refl

  members-comes : (k : ℕ) → members_in d k ≡ members_in c k
  members-comes k = ap (λ (x : Configuration Msg). x.members) (comes.confs k)

  ordered-comes : (k : ℕ) → ordered_in d k ≡ ordered_in c k
  ordered-comes k = ap (λ (x : Configuration Msg). x.ordered) (comes.confs k)

  whole-comes : (k : ℕ) → whole_talk d k ≡ whole_talk c k
  whole-comes k = ap talk_of (ordered-comes k)

  phase-other : (q : ℕ) → (q == p) ≡ false → phase_of d.world.group q ≡ phase_of c.world.group q
  phase-other q other = comes.phase q ∙ cond-false (q == p) (Regular conf) (phase_of c.world.group q) other

  phase-own : phase_of d.world.group p ≡ Regular conf
  phase-own = comes.phase p ∙ cond-true (p == p) (Regular conf) (phase_of c.world.group p) own

  regular-other : (k q : ℕ) → (q == p) ≡ false → is_regular_in d k q ≡ is_regular_in c k q
  regular-other k q other = ap (is_regular_at k) (phase-other q other)

  waiting-other : (k q : ℕ) → (q == p) ≡ false → waiting_in d k q ≡ waiting_in c k q
  waiting-other k q other = ap₂ (λ b xs. if b then xs else []) (regular-other k q other)
      (comes.waits q ∙ cond-false (q == p) (StateMsg s ∷ []) (unordered_of c.world.group q) other)

  waiting-here : waiting_in d conf p ≡ StateMsg s ∷ []
  waiting-here = ap₂ (λ b xs. if b then xs else []) (ap (is_regular_at conf) phase-own ∙ eq-eqb conf conf refl)
      (comes.waits p ∙ cond-true (p == p) (StateMsg s ∷ []) (unordered_of c.world.group p) own)

  waiting-away : (k : ℕ) → (conf == k) ≡ false → waiting_in d k p ≡ []
  waiting-away k away = ap (λ b. if b then unordered_of d.world.group p else []) (ap (is_regular_at k) phase-own ∙ away)

  said-other : (k q : ℕ) → (q == p) ≡ false → said_in d k q ≡ said_in c k q
  said-other k q other = ap₂ (λ xs ys. placed_of q xs ++ ys) (ordered-comes k) (waiting-other k q other)

  said-here : said_in d conf p ≡ StateMsg s ∷ []
  said-here = ap₂ (λ xs ys. placed_of p xs ++ ys) (ordered-comes conf ∙ comes.unsaid) waiting-here

  said-away : (k : ℕ) → (conf == k) ≡ false → said_in d k p ≡ said_in c k p
  said-away k away = ap₂ (λ xs ys. placed_of p xs ++ ys) (ordered-comes k) (waiting-away k away ∙ sym (ap (λ b. if b then unordered_of c.world.group p else []) (comes.was_out k)))

  handed-other : (k q : ℕ) → (q == p) ≡ false → handed_talk d k q ≡ handed_talk c k q
  handed-other k q other = ap₂ (λ n xs. talk_of (take n xs)) (comes.delivered q ∙ cond-false (q == p) 0 (delivered_to c.world.group q) other) (ordered-comes k)

  handed-here : handed_talk d conf p ≡ no_talk
  handed-here = ap₂ (λ n xs. talk_of (take n xs)) (comes.delivered p ∙ cond-true (p == p) 0 (delivered_to c.world.group p) own) (ordered-comes conf ∙ comes.unsaid)

  told-other : (k q : ℕ) → ((k == conf) && (q == p)) ≡ false → told_in d k q ≡ told_in c k q
  told-other k q other = comes.told k q ∙ cond-false ((k == conf) && (q == p)) (Some t) (told_in c k q) other

  told-here : told_in d conf p ≡ Some t
  told-here = comes.told conf p ∙ cond-true ((conf == conf) && (p == p)) (Some t) (told_in c conf p) (and_from (conf == conf) (p == p) (eq-eqb conf conf refl) own)

  not-one : (k q : ℕ) → (q == p) ≡ false → ((k == conf) && (q == p)) ≡ false
  not-one k q other = and_right (k == conf) (q == p) other

  not-there : (k q : ℕ) → (conf == k) ≡ false → ((k == conf) && (q == p)) ≡ false
  not-there k q away = and_left (k == conf) (q == p) (eqb_comm k conf ∙ away)

  -- by replica and configuration
  by-both : (R : ℕ → ℕ → Type 0) → R conf p → ((k : ℕ) → (conf == k) ≡ false → R k p) → ((k q : ℕ) → (q == p) ≡ false → R k q) → (k q : ℕ) → R k q
  by-both R here away other k q = ⊎_elim
      (λ y. subst (R k) (sym (eqb-true q p y)) (⊎_elim (λ same. subst (λ x. R x p) (eqb-true conf k same) here) (λ differs. away k differs) (cases_Bool (conf == k))))
      (λ n. other k q n) (cases_Bool (q == p))

  -- ---- the facts

  legal-comes : TalkLegal c → TalkLegal d
  unfolding senders
  legal-comes old = record {
    ordered = λ k. ap₂ (λ set xs. is_legal set k no_talk xs) (members-comes k) (ordered-comes k) ∙ old.ordered k;
    waiting = by-both (λ k q. is_legal (members_in d k) k (whole_talk d k) (map (sent_by q) (waiting_in d k q)) ≡ true)
        (rw (members-comes conf, whole-comes conf, comes.unsaid, waiting-here) first)
        (λ k away. ap (λ xs. is_legal (members_in d k) k (whole_talk d k) (map (sent_by p) xs)) (waiting-away k away))
        (λ k q other. rw (members-comes k, whole-comes k, waiting-other k q other) (old.waiting k q));
  } where
    first : is_legal set conf no_talk (sent_by p (StateMsg s) ∷ []) ≡ true
    first = rw (comes.member, comes.id, comes.at, own, eq-eqb conf conf refl) refl

  says-comes : SentIffDue c → SentIffDue d
  says-comes old = by-both (λ k q. is_regular_in d k q ≡ true → SaysWhatIsDue (members_in d k) k q (said_in d k q) (handed_talk d k q) (told_in d k q))
      (λ regular. rw (members-comes conf, said-here, handed-here, told-here) (record {
        summary = refl;
        items = sym (ap (λ b. if b then due_from 0 (plan_of []) p 0 else []) (not-full set p comes.member));
        announcement = sym (due-none (is_full set no_talk) (not-full set p comes.member));
        actions = λ e. refl;
      }))
      (λ k away regular. absurd (let clash : false ≡ true = sym (ap (is_regular_at k) phase-own ∙ away) ∙ regular in cc))
      (λ k q other regular. rw (members-comes k, said-other k q other, handed-other k q other, told-other k q (not-one k q other)) (old k q (sym (regular-other k q other) ∙ regular))) where
        due-none : (full : Bool) → full ≡ false → (if ((full && is_through no_talk) && has (remaining []) p) && decides [] then p ∷ [] else []) ≡ []
        due-none true e = absurd (let clash : true ≡ false = e in cc)
        due-none false e = refl

  told-all : (k : ℕ) → (conf == k) ≡ false → (heard : List Summary) → AreTold c k heard → AreTold d k heard
  told-all k away [] are = are
  told-all k away (x ∷ heard) are = (ap summaries_of (told-other k x.id (not-there k x.id away)) ∙ are.0, told-all k away heard are.1)

  told-comes : HeardIsTold c → HeardIsTold d
  told-comes old k = subst (λ (x : Talk). AreTold d k x.heard) (sym (whole-comes k)) (⊎_elim
      (λ same. subst (λ x. AreTold d x (whole_talk c x).heard) (eqb-true conf k same) (subst (λ xs. AreTold d conf (talk_of xs).heard) (sym comes.unsaid) tt))
      (λ away. told-all k away (whole_talk c k).heard (old k)) (cases_Bool (conf == k)))

  lacks-comes : (k x q : ℕ) → lacks_announcement d k x q ≡ lacks_announcement c k x q
  lacks-comes k x q = ap (λ (C : Configuration Msg). (announced_from 0 C.ordered q == 0) || not (has_received C x (announced_from 0 C.ordered q))) (comes.confs k)

  transitional-comes : (k q : ℕ) (h : Held) (state : State) → IsTransitional c k q h state → IsTransitional d k q h state
  transitional-comes k q h RegPrim is = is
  transitional-comes k q h TransPrim is = is
  transitional-comes k q h (ExchangeStates at members heard) is = is
  transitional-comes k q h (ExchangeActions at heard accepted) is = is
  transitional-comes k q h (Construct at heard) is = is
  transitional-comes k q h (No at heard) is = (
    is.0,
    is.1,
    list_all_same (λ x. has heard x || lacks_announcement d k q x) (λ x. has heard x || lacks_announcement c k q x)
        (λ x. ap (λ b. has heard x || b) (lacks-comes k q x)) (attempt_set h) ∙ is.2,
  )
  transitional-comes k q h Un is = is
  transitional-comes k q h (NonPrim regular) is = is
  transitional-comes k q h Left is = is

  state-other : (q : ℕ) → (q == p) ≡ false → (phase : Phase) (x : Replica) → IsStateIn c q phase x → IsStateIn d q phase x
  state-other q other Down x is = is
  state-other q other Alone x is = is
  state-other q other (Regular k) x is = is ∙ ap₂ (λ set t. state_in set k t q) (sym (members-comes k)) (sym (handed-other k q other))
  state-other q other (Transitional k members) x is = transitional-comes k q x.held x.state is

  some-other : (q : ℕ) → (q == p) ≡ false → (phase : Phase) (o : Option Replica) → IfSome o (IsStateIn c q phase) → IfSome o (IsStateIn d q phase)
  some-other q other phase None is = is
  some-other q other phase (Some x) is = state-other q other phase x is

  replica-own : replica_of d.world p ≡ Some r
  replica-own = comes.replica p ∙ cond-true (p == p) (Some r) (replica_of c.world p) own

  replica-other : (q : ℕ) → (q == p) ≡ false → replica_of d.world q ≡ replica_of c.world q
  replica-other q other = comes.replica q ∙ cond-false (q == p) (Some r) (replica_of c.world q) other

  begins : (full : Bool) → full ≡ false → ExchangeStates conf set [] ≡ (if not full then ExchangeStates conf set [] else if not (is_through no_talk) then ExchangeActions conf [] 0 else state_behind conf no_talk p)
  begins true e = absurd (let clash : true ≡ false = e in cc)
  begins false e = refl

  state-own : IsStateIn d p (Regular conf) r
  state-own = comes.state ∙ begins (is_full set no_talk) (not-full set p comes.member) ∙ ap₂ (λ members x. state_in members conf x p) (sym (members-comes conf)) (sym handed-here)

  by-one : (R : ℕ → Type 0) → R p → ((q : ℕ) → (q == p) ≡ false → R q) → (q : ℕ) → R q
  by-one R here other q = ⊎_elim (λ y. subst R (sym (eqb-true q p y)) here) (λ n. other q n) (cases_Bool (q == p))

  modes-comes : ModeFits c → ModeFits d
  modes-comes old = by-one (λ q. IfSome (replica_of d.world q) (IsStateIn d q (phase_of d.world.group q)))
      (subst (λ o. IfSome o (IsStateIn d p (phase_of d.world.group p))) (sym replica-own) (subst (λ x. IsStateIn d p x r) (sym phase-own) state-own))
      (λ q other. subst (λ x. IfSome (replica_of d.world q) (IsStateIn d q x)) (sym (phase-other q other))
      (subst (λ o. IfSome o (IsStateIn d q (phase_of c.world.group q))) (sym (replica-other q other)) (some-other q other (phase_of c.world.group q) (replica_of c.world q) (old q))))

  contents-as : (k q : ℕ) (o : Option Told) → said_in d k q ≡ said_in c k q → IfSome o (λ t. AreContents t.greens (said_in c k q)) → IfSome o (λ t. AreContents t.greens (said_in d k q))
  contents-as k q None same are = tt
  contents-as k q (Some x) same are = subst (AreContents x.greens) (sym same) are

  content-comes : Content c → Content d
  content-comes old = by-both (λ k q. IfSome (told_in d k q) (λ t. AreContents t.greens (said_in d k q)))
      (subst (λ o. IfSome o (λ t. AreContents t.greens (said_in d conf p))) (sym told-here) (subst (AreContents t.greens) (sym said-here) (tt, tt)))
      (λ k away. subst (λ o. IfSome o (λ t. AreContents t.greens (said_in d k p))) (sym (told-other k p (not-there k p away))) (contents-as k p (told_in c k p) (said-away k away) (old k p)))
      (λ k q other. subst (λ o. IfSome o (λ t. AreContents t.greens (said_in d k q))) (sym (told-other k q (not-one k q other))) (contents-as k q (told_in c k q) (said-other k q other) (old k q)))

  row-as : (old : ActsNumbered c) (k q : ℕ) → said_in d k q ≡ said_in c k q → is_ended (members_in d k) (whole_talk d k) ≡ true → has (remaining (whole_talk d k).heard) q ≡ true →
      AreInRow (known_up_to (whole_talk d k).heard q) (filter_map act_in (said_in d k q))
  row-as old k q same ended stays =
      let ended' : is_ended (members_in c k) (whole_talk c k) ≡ true = ap₂ is_ended (sym (members-comes k)) (sym (whole-comes k)) ∙ ended in
      let stays' : has (remaining (whole_talk c k).heard) q ≡ true = ap (λ (x : Talk). has (remaining x.heard) q) (sym (whole-comes k)) ∙ stays in
      subst (λ (x : Talk). AreInRow (known_up_to x.heard q) (filter_map act_in (said_in d k q))) (sym (whole-comes k))
      (subst (λ xs. AreInRow (known_up_to (whole_talk c k).heard q) (filter_map act_in xs)) (sym same) (old.said k q ended' stays'))

  acts-comes : ActsNumbered c → ActsNumbered d
  acts-comes old = record {
    said = by-both (λ k q. is_ended (members_in d k) (whole_talk d k) ≡ true → has (remaining (whole_talk d k).heard) q ≡ true → AreInRow (known_up_to (whole_talk d k).heard q) (filter_map act_in (said_in d k q)))
        (λ ended stays. subst (λ xs. AreInRow (known_up_to (whole_talk d conf).heard p) (filter_map act_in xs)) (sym said-here) refl)
        (λ k away. row-as old k p (said-away k away))
        (λ k q other. row-as old k q (said-other k q other));
    handed = by-one (λ q. IfSome (replica_of d.world q) (AreNumberedAt d q (phase_of d.world.group q)))
        (subst (λ o. IfSome o (AreNumberedAt d p (phase_of d.world.group p))) (sym replica-own) (subst (λ x. AreNumberedAt d p x r) (sym phase-own)
        (subst (AreNumbered d conf p r.held) (sym comes.state) tt)))
        (λ q other. subst (λ x. IfSome (replica_of d.world q) (AreNumberedAt d q x)) (sym (phase-other q other))
        (subst (λ o. IfSome o (AreNumberedAt d q (phase_of c.world.group q))) (sym (replica-other q other))
        (numbered-at c d q (phase_of c.world.group q) (λ k is. (handed-other k q other, said-other k q other)) (replica_of c.world q) (replica_of c.world q) (numbered-itself (replica_of c.world q)) (old.handed q))));
  }

  pub talk-comes : TalkFacts c → TalkFacts d
  talk-comes old = record {
    talk_legal = legal-comes old.talk_legal;
    sent_iff_due = says-comes old.sent_iff_due;
    heard_is_told = told-comes old.heard_is_told;
    mode_fits = modes-comes old.mode_fits;
    content = content-comes old.content;
    acts_numbered = acts-comes old.acts_numbered;
  }

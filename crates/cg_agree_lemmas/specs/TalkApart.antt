-- A step by which one replica is in no regular phase keeps the facts about what is said, where it keeps the replica's own state.
use Rattle.std.proofs.Common.{◌≡◌, ℕ, true, false, cond, not, ◌||◌, List, [], ◌∷◌, ◌++◌, Option, Some, None, map, take, filter_map, refl, sym, ap, ap₂, ◌∙◌, ⊎_elim, eqb-true, eq-eqb, append-nil, subst, if◌then◌else◌, IfSome}
use Rattle.std.specs.Prelude.{◌==◌}
use Rattle.std.proofs.lemmas.Bool.{cases_Bool, cond-true, cond-false}
use Rattle.std.proofs.lemmas.List.Elements.{filter_map-append}
use Rattle.cg_base.specs.Sets.{has}
use Rattle.cg_base.specs.EachLaws.{list_all_same}
use Rattle.cg_knowledge.specs.Summaries.{remaining}
use Rattle.cg_knowledge.specs.declared.summary.Summary.{Summary}
use Rattle.cg_wire.specs.declared.message.Msg.{Msg}
use Rattle.cg_group.specs.declared.phase.Phase.{Phase}
use Rattle.cg_group.specs.declared.phase.Phase.TheVariants.{Regular, Transitional, Alone, Down}
use Rattle.cg_group.specs.State.{Configuration, phase_of, delivered_to, unordered_of, has_received}
use Rattle.cg_client.specs.Replica.{Held, State, RegPrim, TransPrim, ExchangeStates, ExchangeActions, Construct, No, Un, NonPrim, Left, Replica}
use Rattle.cg_states.specs.Construct.{attempt_set}
use Rattle.cg_model.specs.Levels.{lacks_announcement, announced_from}
use Rattle.cg_model.specs.World.{replica_of}
use Rattle.cg_model.specs.Chronicle.{Told, Chronicle}
use Rattle.cg_model.specs.Looks.{conf_of, told_in, is_regular_at, is_regular_in, members_in, ordered_in, sent_by, placed_of, waiting_in, said_in}
use Rattle.cg_model.specs.Talk.{Talk, no_talk, talk_of, is_legal, is_ended, act_in, known_up_to, state_in}
use Rattle.cg_model.specs.FactsTalk.{whole_talk, handed_talk, TalkLegal, SaysWhatIsDue, SentIffDue, HeardIsTold, AreTold, summaries_of, IsTransitional, IsStateIn, ModeFits, AreContents, Content, AreNumberedAt, ActsNumbered, TalkFacts}
use Rattle.cg_agree_lemmas.specs.NumbersSame.{numbered-at, numbered-itself, contents-front, AreInRow, row-front}

-- one replica is in that phase, which is no regular one, and all others are as before
pub record Apart (c d : Chronicle) (p : ℕ) (now : Phase) : Type 0 where
  pub conf : (k : ℕ) → conf_of d k ≡ conf_of c k
  pub phase : (q : ℕ) → phase_of d.world.group q ≡ cond (q == p) now (phase_of c.world.group q)
  pub out : (k : ℕ) → is_regular_at k now ≡ false
  pub delivered : (q : ℕ) → (q == p) ≡ false → delivered_to d.world.group q ≡ delivered_to c.world.group q
  pub waits : (q : ℕ) → (q == p) ≡ false → unordered_of d.world.group q ≡ unordered_of c.world.group q
  pub told : (k q : ℕ) → told_in d k q ≡ told_in c k q
  pub replica : (q : ℕ) → (q == p) ≡ false → replica_of d.world q ≡ replica_of c.world q

module _ (c d : Chronicle) (p : ℕ) (now : Phase) (apart : Apart c d p now) where
  pub members-apart : (k : ℕ) → members_in d k ≡ members_in c k
  members-apart k = ap (λ (x : Configuration Msg). x.members) (apart.conf k)

  pub ordered-apart : (k : ℕ) → ordered_in d k ≡ ordered_in c k
  ordered-apart k = ap (λ (x : Configuration Msg). x.ordered) (apart.conf k)

  phase-other : (q : ℕ) → (q == p) ≡ false → phase_of d.world.group q ≡ phase_of c.world.group q
  phase-other q other = apart.phase q ∙ cond-false (q == p) now (phase_of c.world.group q) other

  phase-own : phase_of d.world.group p ≡ now
  phase-own = apart.phase p ∙ cond-true (p == p) now (phase_of c.world.group p) (eq-eqb p p refl)

  regular-other : (k q : ℕ) → (q == p) ≡ false → is_regular_in d k q ≡ is_regular_in c k q
  regular-other k q other = ap (is_regular_at k) (phase-other q other)

  regular-own : (k : ℕ) → is_regular_in d k p ≡ false
  regular-own k = ap (is_regular_at k) phase-own ∙ apart.out k

  whole-apart : (k : ℕ) → whole_talk d k ≡ whole_talk c k
  whole-apart k = ap talk_of (ordered-apart k)

  waiting-other : (k q : ℕ) → (q == p) ≡ false → waiting_in d k q ≡ waiting_in c k q
  waiting-other k q other = ap₂ (λ b xs. if b then xs else []) (regular-other k q other) (apart.waits q other)

  waiting-own : (k : ℕ) → waiting_in d k p ≡ []
  waiting-own k = ap (λ b. if b then unordered_of d.world.group p else []) (regular-own k)

  said-other : (k q : ℕ) → (q == p) ≡ false → said_in d k q ≡ said_in c k q
  said-other k q other = ap₂ (λ xs ys. placed_of q xs ++ ys) (ordered-apart k) (waiting-other k q other)

  said-own : (k : ℕ) → said_in d k p ≡ placed_of p (ordered_in c k)
  said-own k = ap₂ (λ xs ys. placed_of p xs ++ ys) (ordered-apart k) (waiting-own k) ∙ append-nil (placed_of p (ordered_in c k))

  handed-other : (k q : ℕ) → (q == p) ≡ false → handed_talk d k q ≡ handed_talk c k q
  handed-other k q other = ap₂ (λ n xs. talk_of (take n xs)) (apart.delivered q other) (ordered-apart k)

  -- what holds of each replica, by whether it is that one
  by-one : (R : ℕ → Type 0) → R p → ((q : ℕ) → (q == p) ≡ false → R q) → (q : ℕ) → R q
  by-one R own other q = ⊎_elim (λ y. subst R (sym (eqb-true q p y)) own) (λ n. other q n) (cases_Bool (q == p))

  pub legal-apart : TalkLegal c → TalkLegal d
  legal-apart old = record {
    ordered = λ k. ap₂ (λ set xs. is_legal set k no_talk xs) (members-apart k) (ordered-apart k) ∙ old.ordered k;
    waiting = λ k. by-one (λ q. is_legal (members_in d k) k (whole_talk d k) (map (sent_by q) (waiting_in d k q)) ≡ true)
        (ap (λ xs. is_legal (members_in d k) k (whole_talk d k) (map (sent_by p) xs)) (waiting-own k))
        (λ q other. rw (members-apart k, whole-apart k, waiting-other k q other) (old.waiting k q));
  }

  pub says-apart : SentIffDue c → SentIffDue d
  says-apart old k q regular = by-one (λ q. is_regular_in d k q ≡ true → SaysWhatIsDue (members_in d k) k q (said_in d k q) (handed_talk d k q) (told_in d k q))
      (λ here. absurd (let clash : false ≡ true = sym (regular-own k) ∙ here in cc))
      (λ q other here. rw (members-apart k, said-other k q other, handed-other k q other, apart.told k q) (old k q (sym (regular-other k q other) ∙ here)))
      q regular

  told-all : (k : ℕ) (heard : List Summary) → AreTold c k heard → AreTold d k heard
  told-all k [] are = are
  told-all k (s ∷ heard) are = (ap summaries_of (apart.told k s.id) ∙ are.0, told-all k heard are.1)

  pub told-apart : HeardIsTold c → HeardIsTold d
  told-apart old k = subst (λ (t : Talk). AreTold d k t.heard) (sym (whole-apart k)) (told-all k (whole_talk c k).heard (old k))

  -- ---- states

  lacks-apart : (k x q : ℕ) → lacks_announcement d k x q ≡ lacks_announcement c k x q
  lacks-apart k x q = ap (λ (C : Configuration Msg). (announced_from 0 C.ordered q == 0) || not (has_received C x (announced_from 0 C.ordered q))) (apart.conf k)

  transitional-apart : (k q : ℕ) (h : Held) (state : State) → IsTransitional c k q h state → IsTransitional d k q h state
  transitional-apart k q h RegPrim is = is
  transitional-apart k q h TransPrim is = is
  transitional-apart k q h (ExchangeStates at set heard) is = is
  transitional-apart k q h (ExchangeActions at heard accepted) is = is
  transitional-apart k q h (Construct at heard) is = is
  transitional-apart k q h (No at heard) is = (
    is.0,
    is.1,
    list_all_same (λ x. has heard x || lacks_announcement d k q x) (λ x. has heard x || lacks_announcement c k q x)
        (λ x. ap (λ b. has heard x || b) (lacks-apart k q x)) (attempt_set h) ∙ is.2,
  )
  transitional-apart k q h Un is = is
  transitional-apart k q h (NonPrim regular) is = is
  transitional-apart k q h Left is = is

  -- a replica that is in a transitional phase of a configuration now
  pub transitional-now : (k : ℕ) (h : Held) (state : State) → IsTransitional c k p h state → IsTransitional d k p h state
  transitional-now k h state is = transitional-apart k p h state is

  state-other : (q : ℕ) → (q == p) ≡ false → (phase : Phase) (x : Replica) → IsStateIn c q phase x → IsStateIn d q phase x
  state-other q other Down x is = is
  state-other q other Alone x is = is
  state-other q other (Regular k) x is = is ∙ ap₂ (λ set t. state_in set k t q) (sym (members-apart k)) (sym (handed-other k q other))
  state-other q other (Transitional k set) x is = transitional-apart k q x.held x.state is

  some-other : (q : ℕ) → (q == p) ≡ false → (phase : Phase) (o : Option Replica) → IfSome o (IsStateIn c q phase) → IfSome o (IsStateIn d q phase)
  some-other q other phase None is = is
  some-other q other phase (Some x) is = state-other q other phase x is

  pub modes-apart : IfSome (replica_of d.world p) (IsStateIn d p now) → ModeFits c → ModeFits d
  modes-apart own old = by-one (λ q. IfSome (replica_of d.world q) (IsStateIn d q (phase_of d.world.group q)))
      (subst (λ x. IfSome (replica_of d.world p) (IsStateIn d p x)) (sym phase-own) own)
      (λ q other. subst (λ x. IfSome (replica_of d.world q) (IsStateIn d q x)) (sym (phase-other q other))
      (subst (λ o. IfSome o (IsStateIn d q (phase_of c.world.group q))) (sym (apart.replica q other))
      (some-other q other (phase_of c.world.group q) (replica_of c.world q) (old q))))

  -- ---- contents and numbers

  content-own : (k : ℕ) (o : Option Told) → IfSome o (λ t. AreContents t.greens (said_in c k p)) → IfSome o (λ t. AreContents t.greens (said_in d k p))
  content-own k None are = tt
  content-own k (Some t) are = subst (AreContents t.greens) (sym (said-own k)) (contents-front t.greens (placed_of p (ordered_in c k)) (waiting_in c k p) are)

  content-other : (k q : ℕ) → (q == p) ≡ false → (o : Option Told) → IfSome o (λ t. AreContents t.greens (said_in c k q)) → IfSome o (λ t. AreContents t.greens (said_in d k q))
  content-other k q other None are = tt
  content-other k q other (Some t) are = subst (AreContents t.greens) (sym (said-other k q other)) are

  pub content-apart : Content c → Content d
  content-apart old k = by-one (λ q. IfSome (told_in d k q) (λ t. AreContents t.greens (said_in d k q)))
      (subst (λ o. IfSome o (λ t. AreContents t.greens (said_in d k p))) (sym (apart.told k p)) (content-own k (told_in c k p) (old k p)))
      (λ q other. subst (λ o. IfSome o (λ t. AreContents t.greens (said_in d k q))) (sym (apart.told k q)) (content-other k q other (told_in c k q) (old k q)))

  abbrev known : (k : ℕ) → ℕ → ℕ
  known k q = known_up_to (whole_talk c k).heard q

  pub acts-apart : ActsNumbered c → ActsNumbered d
  acts-apart old = record {
    said = λ k q ended stays.
        let ended' : is_ended (members_in c k) (whole_talk c k) ≡ true = ap₂ is_ended (sym (members-apart k)) (sym (whole-apart k)) ∙ ended in
        let stays' : has (remaining (whole_talk c k).heard) q ≡ true = ap (λ (t : Talk). has (remaining t.heard) q) (sym (whole-apart k)) ∙ stays in
        subst (λ (t : Talk). AreInRow (known_up_to t.heard q) (filter_map act_in (said_in d k q))) (sym (whole-apart k))
        (by-one (λ q. AreInRow (known k q) (filter_map act_in (said_in c k q)) → AreInRow (known k q) (filter_map act_in (said_in d k q)))
        (λ row. subst (λ xs. AreInRow (known k p) (filter_map act_in xs)) (sym (said-own k))
        (row-front (known k p) (filter_map act_in (placed_of p (ordered_in c k))) (filter_map act_in (waiting_in c k p))
        (subst (AreInRow (known k p)) (filter_map-append act_in (placed_of p (ordered_in c k)) (waiting_in c k p)) row)))
        (λ q other row. subst (λ xs. AreInRow (known k q) (filter_map act_in xs)) (sym (said-other k q other)) row)
        q (old.said k q ended' stays'));
    handed = by-one (λ q. IfSome (replica_of d.world q) (AreNumberedAt d q (phase_of d.world.group q)))
        (subst (λ x. IfSome (replica_of d.world p) (AreNumberedAt d p x)) (sym phase-own) (no-numbers now apart.out (replica_of d.world p)))
        (λ q other. subst (λ x. IfSome (replica_of d.world q) (AreNumberedAt d q x)) (sym (phase-other q other))
        (subst (λ o. IfSome o (AreNumberedAt d q (phase_of c.world.group q))) (sym (apart.replica q other))
        (numbered-at c d q (phase_of c.world.group q) (λ k is. (handed-other k q other, said-other k q other)) (replica_of c.world q) (replica_of c.world q)
        (numbered-itself (replica_of c.world q)) (old.handed q))));
  } where
    no-numbers : (x : Phase) → ((k : ℕ) → is_regular_at k x ≡ false) → (o : Option Replica) → IfSome o (AreNumberedAt d p x)
    no-numbers x out None = tt
    no-numbers Down out (Some r) = tt
    no-numbers Alone out (Some r) = tt
    no-numbers (Regular k) out (Some r) = absurd (let clash : true ≡ false = sym (eq-eqb k k refl) ∙ out k in cc)
    no-numbers (Transitional k set) out (Some r) = tt

  pub talk-apart : IfSome (replica_of d.world p) (IsStateIn d p now) → TalkFacts c → TalkFacts d
  talk-apart own old = record {
    talk_legal = legal-apart old.talk_legal;
    sent_iff_due = says-apart old.sent_iff_due;
    heard_is_told = told-apart old.heard_is_told;
    mode_fits = modes-apart own old.mode_fits;
    content = content-apart old.content;
    acts_numbered = acts-apart old.acts_numbered;
  }

-- The small step by which a configuration is made keeps the facts about what is said: nothing is said there yet.
use Rattle.std.proofs.Common.{◌≡◌, ℕ, suc, true, false, not, ◌||◌, List, [], ◌∷◌, ◌++◌, Option, Some, None, IfSome, map, take, filter_map, length, refl, sym, ap, ap₂, subst, ◌∙◌, ⊎_elim, arith, if◌then◌else◌}
use Rattle.std.specs.Prelude.{◌==◌}
use Rattle.std.specs.Option.{option_map_or}
use Rattle.std.proofs.lemmas.Bool.{false_from_ne_true}
use Rattle.cg_base.specs.Sets.{has}
use Rattle.cg_base.specs.ListLaws.{at_place-past}
use Rattle.cg_base.specs.EachLaws.{list_all_same}
use Rattle.cg_knowledge.specs.Summaries.{remaining}
use Rattle.cg_knowledge.specs.declared.summary.Summary.{Summary}
use Rattle.cg_wire.specs.declared.message.Msg.{Msg}
use Rattle.cg_group.specs.declared.phase.Phase.{Phase}
use Rattle.cg_group.specs.declared.phase.Phase.TheVariants.{Regular, Transitional, Alone, Down}
use Rattle.cg_group.specs.State.{Standing, Configuration, no_configuration, configuration, standing_of, phase_of, delivered_to, unordered_of, has_received}
use Rattle.cg_client.specs.Replica.{Held, State, RegPrim, TransPrim, ExchangeStates, ExchangeActions, Construct, No, Un, NonPrim, Left, Replica}
use Rattle.cg_states.specs.Construct.{attempt_set}
use Rattle.cg_model.specs.Levels.{lacks_announcement, announced_from}
use Rattle.cg_model.specs.World.{replica_of}
use Rattle.cg_model.specs.Chronicle.{Told, Chronicle}
use Rattle.cg_model.specs.Looks.{conf_of, told_in, is_regular_at, is_regular_in, members_in, ordered_in, sent_by, placed_of, waiting_in, said_in}
use Rattle.cg_model.specs.Talk.{Talk, no_talk, talk_of, is_legal, is_ended, act_in, known_up_to, state_in}
use Rattle.cg_model.specs.FactsNet.{PhaseSound, IsPhase}
use Rattle.cg_model.specs.FactsTalk.{whole_talk, handed_talk, TalkLegal, SentIffDue, HeardIsTold, AreTold, IsTransitional, IsStateIn, ModeFits, AreContents, Content, AreNumberedAt, ActsNumbered, TalkFacts}
use Rattle.cg_model.specs.Small.{Makes, small_step, make_configuration, with_group}
use Rattle.cg_agree_lemmas.specs.GroupSound.{made-is, same-where_member, member-of}
use Rattle.cg_agree_lemmas.specs.NumbersSame.{numbered-at, numbered-itself, AreInRow}
use Rattle.cg_agree_lemmas.specs.SmallTalk.{conf-there}

module _ (c : Chronicle) (set : List ℕ) (sound : PhaseSound c) where
  abbrev d : Chronicle
  d = with_group c (make_configuration c.world.group set)

  abbrev new : ℕ
  new = suc (length c.world.group.configurations)

  standing-same : (q : ℕ) → standing_of d.world.group q ≡ standing_of c.world.group q
  unfolding standing_of
  standing-same q = refl

  phase-same : (q : ℕ) → phase_of d.world.group q ≡ phase_of c.world.group q
  phase-same q = ap (λ (o : Option (Standing Msg)). option_map_or (λ s. s.phase) o Down) (standing-same q)

  count-same : (q : ℕ) → delivered_to d.world.group q ≡ delivered_to c.world.group q
  count-same q = ap (λ (o : Option (Standing Msg)). option_map_or (λ s. s.delivered) o 0) (standing-same q)

  waits-same : (q : ℕ) → unordered_of d.world.group q ≡ unordered_of c.world.group q
  waits-same q = ap (λ (o : Option (Standing Msg)). option_map_or (λ s. s.unordered) o []) (standing-same q)

  regular-same : (k q : ℕ) → is_regular_in d k q ≡ is_regular_in c k q
  regular-same k q = ap (is_regular_at k) (phase-same q)

  -- nothing is said in the new one, before and behind
  nothing-before : ordered_in c new ≡ []
  unfolding configuration
  nothing-before = ap (λ (o : Option (Configuration Msg)). (option_map_or (λ x. x) o no_configuration).ordered) (at_place-past c.world.group.configurations new (omega arith))

  ordered-same : (k : ℕ) → ordered_in d k ≡ ordered_in c k
  ordered-same k = ⊎_elim (λ same. ap (λ (x : Configuration Msg). x.ordered) same)
      (λ is. ap (λ (x : Configuration Msg). x.ordered) is.1 ∙ sym nothing-before ∙ ap (ordered_in c) (sym is.0)) (made-is c.world.group set k)

  whole-same : (k : ℕ) → whole_talk d k ≡ whole_talk c k
  whole-same k = ap talk_of (ordered-same k)

  said-same : (k q : ℕ) → said_in d k q ≡ said_in c k q
  said-same k q = ap₂ (λ xs ys. placed_of q xs ++ ys) (ordered-same k) (ap₂ (λ b xs. if b then xs else []) (regular-same k q) (waits-same q))

  handed-same : (k q : ℕ) → handed_talk d k q ≡ handed_talk c k q
  handed-same k q = ap₂ (λ n xs. talk_of (take n xs)) (count-same q) (ordered-same k)

  -- where somebody is regular or a member the configuration is as before
  conf-regular : (k q : ℕ) → is_regular_in c k q ≡ true → conf_of d k ≡ conf_of c k
  conf-regular k q regular =
      same-where_member c d set refl (λ q. refl) k q (member-of c d set refl (λ q. refl) k q (phase_of c.world.group q) (sound.phase q) regular)

  none-regular : (q : ℕ) → is_regular_in d new q ≡ false
  none-regular q = false_from_ne_true (is_regular_in d new q) (λ here.
      let was : is_regular_in c new q ≡ true = sym (regular-same new q) ∙ here in
      let member = member-of c d set refl (λ q. refl) new q (phase_of c.world.group q) (sound.phase q) was in
      let range = conf-there c.world.group new q member in
      let le = range.1 in omega arith)

  nothing-said : (q : ℕ) → said_in c new q ≡ []
  nothing-said q = sym (said-same new q) ∙ ap₂ (λ xs b. placed_of q xs ++ (if b then unordered_of d.world.group q else [])) (ordered-same new ∙ nothing-before) (none-regular q)

  -- ---- the facts

  legal-made : TalkLegal c → TalkLegal d
  legal-made old = record {
    ordered = λ k. ⊎_elim
        (λ same. subst (λ (x : Configuration Msg). is_legal x.members k no_talk x.ordered ≡ true) (sym same) (old.ordered k))
        (λ is. subst (λ (x : Configuration Msg). is_legal x.members k no_talk x.ordered ≡ true) (sym is.1) refl) (made-is c.world.group set k);
    waiting = λ k q. ⊎_elim
        (λ same. waiting-where_same k q same (old.waiting k q))
        (λ is. subst (λ x. is_legal (members_in d x) x (whole_talk d x) (map (sent_by q) (waiting_in d x q)) ≡ true) (sym is.0)
        (ap (λ b. is_legal (members_in d new) new (whole_talk d new) (map (sent_by q) (if b then unordered_of d.world.group q else []))) (none-regular q))) (made-is c.world.group set k);
  } where
    waiting-where_same : (k q : ℕ) → conf_of d k ≡ conf_of c k → is_legal (members_in c k) k (whole_talk c k) (map (sent_by q) (waiting_in c k q)) ≡ true →
        is_legal (members_in d k) k (whole_talk d k) (map (sent_by q) (waiting_in d k q)) ≡ true
    waiting-where_same k q same was =
        ap₂ (λ (x : Configuration Msg) xs. is_legal x.members k (talk_of x.ordered) (map (sent_by q) xs)) same
        (ap₂ (λ b xs. if b then xs else []) (regular-same k q) (waits-same q)) ∙ was

  says-made : SentIffDue c → SentIffDue d
  says-made old k q regular =
      let was = sym (regular-same k q) ∙ regular in
      let members : members_in d k ≡ members_in c k = ap (λ (x : Configuration Msg). x.members) (conf-regular k q was) in
      rw (members, said-same k q, handed-same k q) (old k q was)

  told-all : (k : ℕ) (heard : List Summary) → AreTold c k heard → AreTold d k heard
  told-all k [] are = are
  told-all k (s ∷ heard) are = (are.0, told-all k heard are.1)

  told-made : HeardIsTold c → HeardIsTold d
  told-made old k = subst (λ (t : Talk). AreTold d k t.heard) (sym (whole-same k)) (told-all k (whole_talk c k).heard (old k))

  -- a state in a phase of a configuration that is as before
  lacks-made : (k x q : ℕ) → conf_of d k ≡ conf_of c k → lacks_announcement d k x q ≡ lacks_announcement c k x q
  lacks-made k x q same = ap (λ (C : Configuration Msg). (announced_from 0 C.ordered q == 0) || not (has_received C x (announced_from 0 C.ordered q))) same

  transitional-made : (k q : ℕ) (h : Held) (state : State) → conf_of d k ≡ conf_of c k → IsTransitional c k q h state → IsTransitional d k q h state
  transitional-made k q h RegPrim same is = is
  transitional-made k q h TransPrim same is = is
  transitional-made k q h (ExchangeStates at set heard) same is = is
  transitional-made k q h (ExchangeActions at heard accepted) same is = is
  transitional-made k q h (Construct at heard) same is = is
  transitional-made k q h (No at heard) same is = (
    is.0,
    is.1,
    list_all_same (λ x. has heard x || lacks_announcement d k q x) (λ x. has heard x || lacks_announcement c k q x)
        (λ x. ap (λ b. has heard x || b) (lacks-made k q x same)) (attempt_set h) ∙ is.2,
  )
  transitional-made k q h Un same is = is
  transitional-made k q h (NonPrim regular) same is = is
  transitional-made k q h Left same is = is

  state-made : (q : ℕ) (phase : Phase) → IsPhase c q (delivered_to c.world.group q) phase → (x : Replica) → IsStateIn c q phase x → IsStateIn d q phase x
  state-made q Down there x is = is
  state-made q Alone there x is = is
  state-made q (Regular k) there x is =
      let same = same-where_member c d set refl (λ q. refl) k q there.0 in
      is ∙ ap₂ (λ members t. state_in members k t q) (sym (ap (λ (x : Configuration Msg). x.members) same)) (sym (handed-same k q))
  state-made q (Transitional k s) there x is = transitional-made k q x.held x.state (same-where_member c d set refl (λ q. refl) k q there) is

  modes-made : ModeFits c → ModeFits d
  modes-made old q = subst (λ x. IfSome (replica_of c.world q) (IsStateIn d q x)) (sym (phase-same q)) (at (replica_of c.world q) (old q)) where
    at : (o : Option Replica) → IfSome o (IsStateIn c q (phase_of c.world.group q)) → IfSome o (IsStateIn d q (phase_of c.world.group q))
    at None is = is
    at (Some x) is = state-made q (phase_of c.world.group q) (sound.phase q) x is

  content-made : Content c → Content d
  content-made old k q = at (told_in c k q) (old k q) where
    at : (o : Option Told) → IfSome o (λ t. AreContents t.greens (said_in c k q)) → IfSome o (λ t. AreContents t.greens (said_in d k q))
    at None are = tt
    at (Some t) are = subst (AreContents t.greens) (sym (said-same k q)) are

  acts-made : ActsNumbered c → ActsNumbered d
  acts-made old = record {
    said = λ k q ended stays. ⊎_elim
        (λ same.
        let members : members_in d k ≡ members_in c k = ap (λ (x : Configuration Msg). x.members) same in
        let ended' : is_ended (members_in c k) (whole_talk c k) ≡ true = ap₂ is_ended (sym members) (sym (whole-same k)) ∙ ended in
        let stays' : has (remaining (whole_talk c k).heard) q ≡ true = ap (λ (t : Talk). has (remaining t.heard) q) (sym (whole-same k)) ∙ stays in
        subst (λ (t : Talk). AreInRow (known_up_to t.heard q) (filter_map act_in (said_in d k q))) (sym (whole-same k))
        (subst (λ xs. AreInRow (known_up_to (whole_talk c k).heard q) (filter_map act_in xs)) (sym (said-same k q)) (old.said k q ended' stays')))
        (λ is. subst (λ xs. AreInRow (known_up_to (whole_talk d k).heard q) (filter_map act_in xs)) (sym (said-same k q ∙ ap (λ x. said_in c x q) is.0 ∙ nothing-said q)) refl)
        (made-is c.world.group set k);
    handed = λ q. subst (λ x. IfSome (replica_of c.world q) (AreNumberedAt d q x)) (sym (phase-same q))
        (numbered-at c d q (phase_of c.world.group q) (λ k is. (handed-same k q, said-same k q)) (replica_of c.world q) (replica_of c.world q) (numbered-itself (replica_of c.world q)) (old.handed q));
  }

  pub talk-makes : TalkFacts c → TalkFacts (small_step c (Makes set))
  unfolding small_step
  talk-makes old = record {
    talk_legal = legal-made old.talk_legal;
    sent_iff_due = says-made old.sent_iff_due;
    heard_is_told = told-made old.heard_is_told;
    mode_fits = modes-made old.mode_fits;
    content = content-made old.content;
    acts_numbered = acts-made old.acts_numbered;
  }

-- One replica's turn keeps the facts about what is said, where it keeps them of that replica.
use Rattle.std.proofs.Common.{◌≡◌, ℕ, true, false, cond, not, ◌||◌, List, [], ◌∷◌, ◌++◌, Option, Some, None, map, take, refl, sym, ap, ap₂, ◌∙◌, ⊎_elim, eqb-true, eq-eqb, subst, if◌then◌else◌, IfSome}
use Rattle.std.specs.Prelude.{◌==◌}
use Rattle.std.proofs.lemmas.Bool.{cases_Bool, cond-true, cond-false}
use Rattle.std.proofs.lemmas.List.{append_assoc}
use Rattle.cg_knowledge.specs.declared.summary.Summary.{Summary}
use Rattle.cg_wire.specs.declared.message.Msg.{Msg}
use Rattle.cg_group.specs.declared.phase.Phase.{Phase}
use Rattle.cg_group.specs.declared.phase.Phase.TheVariants.{Regular, Transitional, Alone, Down}
use Rattle.cg_group.specs.State.{Configuration, phase_of, delivered_to, unordered_of, has_received}
use Rattle.cg_base.specs.Sets.{has}
use Rattle.cg_base.specs.EachLaws.{list_all_same}
use Rattle.cg_client.specs.Replica.{Held, State, RegPrim, TransPrim, ExchangeStates, ExchangeActions, Construct, No, Un, NonPrim, Left, Replica}
use Rattle.cg_states.specs.Construct.{attempt_set}
use Rattle.cg_model.specs.Levels.{lacks_announcement, announced_from}
use Rattle.cg_model.specs.World.{replica_of}
use Rattle.cg_model.specs.Chronicle.{Told, Chronicle}
use Rattle.cg_model.specs.Looks.{conf_of, told_in, is_regular_at, is_regular_in, members_in, ordered_in, sent_by, placed_of, waiting_in, said_in}
use Rattle.cg_model.specs.Talk.{Talk, no_talk, talk_of, is_legal, state_in}
use Rattle.cg_model.specs.FactsTalk.{whole_talk, handed_talk, TalkLegal, SaysWhatIsDue, SentIffDue, HeardIsTold, AreTold, summaries_of, IsTransitional, IsStateIn, ModeFits}

-- behind a turn of one replica: it was handed so many places, says so much more and is this; all else is as before
pub record Turns (c d : Chronicle) (p n : ℕ) (sent : List Msg) (r : Replica) : Type 0 where
  pub conf : (k : ℕ) → conf_of d k ≡ conf_of c k
  pub phase : (q : ℕ) → phase_of d.world.group q ≡ phase_of c.world.group q
  pub delivered : (q : ℕ) → delivered_to d.world.group q ≡ cond (q == p) n (delivered_to c.world.group q)
  pub waits : (q : ℕ) → unordered_of d.world.group q ≡ cond (q == p) (unordered_of c.world.group p ++ sent) (unordered_of c.world.group q)
  pub told : (k q : ℕ) → told_in d k q ≡ told_in c k q
  pub replica : (q : ℕ) → replica_of d.world q ≡ cond (q == p) (Some r) (replica_of c.world q)

-- what is shown of the replica itself, regular in a configuration
pub record FitsAt (c : Chronicle) (p conf n : ℕ) (sent : List Msg) (r : Replica) : Type 0 where
  pub regular : phase_of c.world.group p ≡ Regular conf
  pub legal : is_legal (members_in c conf) conf (whole_talk c conf) (map (sent_by p) (unordered_of c.world.group p ++ sent)) ≡ true
  pub says : SaysWhatIsDue (members_in c conf) conf p (said_in c conf p ++ sent) (talk_of (take n (ordered_in c conf))) (told_in c conf p)
  pub state : r.state ≡ state_in (members_in c conf) conf (talk_of (take n (ordered_in c conf))) p

module _ (c d : Chronicle) (p conf n : ℕ) (sent : List Msg) (r : Replica) (turn : Turns c d p n sent r) (fits : FitsAt c p conf n sent r) where
  pub members-same : (k : ℕ) → members_in d k ≡ members_in c k
  members-same k = ap (λ (x : Configuration Msg). x.members) (turn.conf k)

  pub ordered-same : (k : ℕ) → ordered_in d k ≡ ordered_in c k
  ordered-same k = ap (λ (x : Configuration Msg). x.ordered) (turn.conf k)

  pub regular-same : (k q : ℕ) → is_regular_in d k q ≡ is_regular_in c k q
  regular-same k q = ap (is_regular_at k) (turn.phase q)

  pub whole-same : (k : ℕ) → whole_talk d k ≡ whole_talk c k
  whole-same k = ap talk_of (ordered-same k)

  -- a configuration in which the replica is regular is the one
  pub one-conf : (k : ℕ) → is_regular_in c k p ≡ true → conf ≡ k
  one-conf k regular = eqb-true conf k (sym (ap (is_regular_at k) fits.regular) ∙ regular)

  pub waiting-other : (k q : ℕ) → (q == p) ≡ false → waiting_in d k q ≡ waiting_in c k q
  waiting-other k q other = ap₂ (λ b xs. if b then xs else []) (regular-same k q)
      (turn.waits q ∙ cond-false (q == p) (unordered_of c.world.group p ++ sent) (unordered_of c.world.group q) other)

  waiting-own : waiting_in d conf p ≡ unordered_of c.world.group p ++ sent
  waiting-own =
      let here : is_regular_in c conf p ≡ true = ap (is_regular_at conf) fits.regular ∙ eq-eqb conf conf refl in
      ap₂ (λ b xs. if b then xs else []) (regular-same conf p ∙ here)
      (turn.waits p ∙ cond-true (p == p) (unordered_of c.world.group p ++ sent) (unordered_of c.world.group p) (eq-eqb p p refl))

  legal-same : (k q : ℕ) (xs ys : List Msg) → xs ≡ ys → is_legal (members_in d k) k (whole_talk d k) (map (sent_by q) xs) ≡ is_legal (members_in c k) k (whole_talk c k) (map (sent_by q) ys)
  legal-same k q xs ys e = rw (members-same k, whole-same k, e) refl

  waiting-legal : TalkLegal c → (k q : ℕ) → is_legal (members_in d k) k (whole_talk d k) (map (sent_by q) (waiting_in d k q)) ≡ true
  waiting-legal old k q = ⊎_elim
      (λ own. let is = eqb-true q p own in subst (λ (x : ℕ). is_legal (members_in d k) k (whole_talk d k) (map (sent_by x) (waiting_in d k x)) ≡ true) (sym is)
      (⊎_elim
      (λ here. subst (λ (x : ℕ). is_legal (members_in d x) x (whole_talk d x) (map (sent_by p) (waiting_in d x p)) ≡ true) (one-conf k here)
      (legal-same conf p (waiting_in d conf p) (unordered_of c.world.group p ++ sent) waiting-own ∙ fits.legal))
      (λ away. ap (λ b. is_legal (members_in d k) k (whole_talk d k) (map (sent_by p) (if b then unordered_of d.world.group p else []))) (regular-same k p ∙ away))
      (cases_Bool (is_regular_in c k p))))
      (λ other. legal-same k q (waiting_in d k q) (waiting_in c k q) (waiting-other k q other) ∙ old.waiting k q)
      (cases_Bool (q == p))

  pub legal-kept : TalkLegal c → TalkLegal d
  legal-kept old = record {
    ordered = λ k. ap₂ (λ set xs. is_legal set k no_talk xs) (members-same k) (ordered-same k) ∙ old.ordered k;
    waiting = waiting-legal old;
  }

  abbrev Says : (k q : ℕ) → List ℕ → List Msg → Talk → Option Told → Type 0
  Says k q set said t told = SaysWhatIsDue set k q said t told

  pub said-other : (k q : ℕ) → (q == p) ≡ false → said_in d k q ≡ said_in c k q
  said-other k q other = ap₂ (λ xs ys. placed_of q xs ++ ys) (ordered-same k) (waiting-other k q other)

  pub said-own : said_in d conf p ≡ said_in c conf p ++ sent
  said-own =
      let here : is_regular_in c conf p ≡ true = ap (is_regular_at conf) fits.regular ∙ eq-eqb conf conf refl in
      let before : waiting_in c conf p ≡ unordered_of c.world.group p = ap (λ b. if b then unordered_of c.world.group p else []) here in
      ap₂ (λ xs ys. placed_of p xs ++ ys) (ordered-same conf) (waiting-own ∙ ap (λ xs. xs ++ sent) (sym before))
      ∙ sym (append_assoc (placed_of p (ordered_in c conf)) (waiting_in c conf p) sent)

  pub handed-other : (k q : ℕ) → (q == p) ≡ false → handed_talk d k q ≡ handed_talk c k q
  handed-other k q other = ap₂ (λ n xs. talk_of (take n xs)) (turn.delivered q ∙ cond-false (q == p) n (delivered_to c.world.group q) other) (ordered-same k)

  pub handed-own : (k : ℕ) → handed_talk d k p ≡ talk_of (take n (ordered_in c k))
  handed-own k = ap₂ (λ n xs. talk_of (take n xs)) (turn.delivered p ∙ cond-true (p == p) n (delivered_to c.world.group p) (eq-eqb p p refl)) (ordered-same k)

  pub says-kept : SentIffDue c → SentIffDue d
  says-kept old k q regular =
      let before : is_regular_in c k q ≡ true = sym (regular-same k q) ∙ regular in
      ⊎_elim
      (λ own.
      let is = eqb-true q p own in
      let same = one-conf k (ap (λ x. is_regular_in c k x) (sym is) ∙ before) in
      subst (λ (x : ℕ). SaysWhatIsDue (members_in d k) k x (said_in d k x) (handed_talk d k x) (told_in d k x)) (sym is)
      (subst (λ (x : ℕ). SaysWhatIsDue (members_in d x) x p (said_in d x p) (handed_talk d x p) (told_in d x p)) same
      (rw (members-same conf, said-own, handed-own conf, turn.told conf p) fits.says)))
      (λ other. rw (members-same k, said-other k q other, handed-other k q other, turn.told k q) (old k q before))
      (cases_Bool (q == p))

  told-same : (k : ℕ) (heard : List Summary) → AreTold c k heard → AreTold d k heard
  told-same k [] are = are
  told-same k (s ∷ heard) are = (ap summaries_of (turn.told k s.id) ∙ are.0, told-same k heard are.1)

  pub told-kept : HeardIsTold c → HeardIsTold d
  told-kept old k = subst (λ (t : Talk). AreTold d k t.heard) (sym (whole-same k)) (told-same k (whole_talk c k).heard (old k))

  -- ---- states

  lacks-same : (k x q : ℕ) → lacks_announcement d k x q ≡ lacks_announcement c k x q
  lacks-same k x q = ap (λ (C : Configuration Msg). (announced_from 0 C.ordered q == 0) || not (has_received C x (announced_from 0 C.ordered q))) (turn.conf k)

  transitional-same : (k q : ℕ) (h : Held) (state : State) → IsTransitional c k q h state → IsTransitional d k q h state
  transitional-same k q h RegPrim is = is
  transitional-same k q h TransPrim is = is
  transitional-same k q h (ExchangeStates at set heard) is = is
  transitional-same k q h (ExchangeActions at heard accepted) is = is
  transitional-same k q h (Construct at heard) is = is
  transitional-same k q h (No at heard) is = (
    is.0,
    is.1,
    list_all_same (λ x. has heard x || lacks_announcement d k q x) (λ x. has heard x || lacks_announcement c k q x)
        (λ x. ap (λ b. has heard x || b) (lacks-same k q x)) (attempt_set h) ∙ is.2,
  )
  transitional-same k q h Un is = is
  transitional-same k q h (NonPrim regular) is = is
  transitional-same k q h Left is = is

  state-other : (q : ℕ) → (q == p) ≡ false → (phase : Phase) (x : Replica) → IsStateIn c q phase x → IsStateIn d q phase x
  state-other q other Down x is = is
  state-other q other Alone x is = is
  state-other q other (Regular k) x is = is ∙ ap₂ (λ set t. state_in set k t q) (sym (members-same k)) (sym (handed-other k q other))
  state-other q other (Transitional k set) x is = transitional-same k q x.held x.state is

  some-other : (q : ℕ) → (q == p) ≡ false → (o : Option Replica) → IfSome o (IsStateIn c q (phase_of c.world.group q)) → IfSome o (IsStateIn d q (phase_of c.world.group q))
  some-other q other None is = is
  some-other q other (Some x) is = state-other q other (phase_of c.world.group q) x is

  state-own : IsStateIn d p (Regular conf) r
  state-own = fits.state ∙ ap₂ (λ set t. state_in set conf t p) (sym (members-same conf)) (sym (handed-own conf))

  pub mode-kept : ModeFits c → ModeFits d
  mode-kept old q = ⊎_elim
      (λ own.
      let is = eqb-true q p own in
      subst (λ (x : ℕ). IfSome (replica_of d.world x) (IsStateIn d x (phase_of d.world.group x))) (sym is)
      (subst (λ (o : Option Replica). IfSome o (IsStateIn d p (phase_of d.world.group p)))
      (sym (turn.replica p ∙ cond-true (p == p) (Some r) (replica_of c.world p) (eq-eqb p p refl)))
      (subst (λ (x : Phase). IsStateIn d p x r) (sym (turn.phase p ∙ fits.regular)) state-own)))
      (λ other.
      subst (λ (o : Option Replica). IfSome o (IsStateIn d q (phase_of d.world.group q))) (sym (turn.replica q ∙ cond-false (q == p) (Some r) (replica_of c.world q) other))
      (subst (λ (x : Phase). IfSome (replica_of c.world q) (IsStateIn d q x)) (sym (turn.phase q)) (some-other q other (replica_of c.world q) (old q))))
      (cases_Bool (q == p))

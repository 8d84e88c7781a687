-- A step that says nothing, hands nothing and changes no state keeps the facts about what is said.
use Rattle.std.proofs.Common.{◌≡◌, ℕ, false, not, ◌||◌, List, [], ◌∷◌, ◌++◌, Option, Some, None, IfSome, take, refl, sym, ap, ap₂, ◌∙◌, subst, if◌then◌else◌}
use Rattle.std.specs.Prelude.{◌==◌}
use Rattle.std.specs.List.{list_all}
use Rattle.cg_base.specs.Sets.{has, is_within}
use Rattle.cg_base.specs.EachLaws.{list_all_same}
use Rattle.cg_knowledge.specs.declared.summary.Summary.{Summary}
use Rattle.cg_group.specs.declared.phase.Phase.{Phase}
use Rattle.cg_group.specs.declared.phase.Phase.TheVariants.{Down, Alone, Regular, Transitional}
use Rattle.cg_group.specs.State.{phase_of, delivered_to, unordered_of, has_received}
use Rattle.cg_client.specs.Replica.{Held, State, RegPrim, TransPrim, ExchangeStates, ExchangeActions, Construct, No, Un, NonPrim, Left, Replica}
use Rattle.cg_states.specs.Construct.{attempt_set}
use Rattle.cg_model.specs.World.{replica_of}
use Rattle.cg_model.specs.Chronicle.{Chronicle}
use Rattle.cg_model.specs.Looks.{conf_of, told_in, is_regular_at, is_regular_in, members_in, ordered_in, placed_of, waiting_in, said_in}
use Rattle.cg_model.specs.Talk.{Talk, talk_of, state_in}
use Rattle.cg_model.specs.Levels.{lacks_announcement, announced_at, announced_from}
use Rattle.cg_model.specs.FactsTalk.{whole_talk, handed_talk, AreTold, summaries_of, IsTransitional, IsStateIn}
use Rattle.cg_agree_lemmas.specs.HandsTalk.{SaidFacts}

-- one replica is another one in state, and in the members of the attempt that it names
abbrev pub IsShownAs : Option Replica → Option Replica → Type 0
IsShownAs None None = Unit {0}
IsShownAs (Some r) (Some s) = (s.state ≡ r.state) × (attempt_set s.held ≡ attempt_set r.held)
IsShownAs _ _ = ⊥

pub record SameTalk (c d : Chronicle) : Type 0 where
  pub members : (k : ℕ) → members_in d k ≡ members_in c k
  pub ordered : (k : ℕ) → ordered_in d k ≡ ordered_in c k
  pub phase : (q : ℕ) → phase_of d.world.group q ≡ phase_of c.world.group q
  pub delivered : (q : ℕ) → delivered_to d.world.group q ≡ delivered_to c.world.group q
  pub waits : (q : ℕ) → unordered_of d.world.group q ≡ unordered_of c.world.group q
  pub told : (k q : ℕ) → told_in d k q ≡ told_in c k q
  pub replica : (q : ℕ) → IsShownAs (replica_of c.world q) (replica_of d.world q)
  pub receipts : (k q place : ℕ) → is_regular_in c k q ≡ false → has_received (conf_of d k) q place ≡ has_received (conf_of c k) q place

module _ (c d : Chronicle) (same : SameTalk c d) where
  regular-same : (k q : ℕ) → is_regular_in d k q ≡ is_regular_in c k q
  regular-same k q = ap (is_regular_at k) (same.phase q)

  waiting-same : (k q : ℕ) → waiting_in d k q ≡ waiting_in c k q
  waiting-same k q = ap₂ (λ b xs. if b then xs else []) (regular-same k q) (same.waits q)

  said-same : (k q : ℕ) → said_in d k q ≡ said_in c k q
  said-same k q = ap₂ (λ xs ys. placed_of q xs ++ ys) (same.ordered k) (waiting-same k q)

  handed-same : (k q : ℕ) → handed_talk d k q ≡ handed_talk c k q
  handed-same k q = ap₂ (λ n xs. talk_of (take n xs)) (same.delivered q) (same.ordered k)

  whole-same : (k : ℕ) → whole_talk d k ≡ whole_talk c k
  whole-same k = ap talk_of (same.ordered k)

  lacks-same : (k x q : ℕ) → is_regular_in c k x ≡ false → lacks_announcement d k x q ≡ lacks_announcement c k x q
  lacks-same k x q out =
      ap (λ xs. (announced_from 0 xs q == 0) || not (has_received (conf_of d k) x (announced_from 0 xs q))) (same.ordered k)
      ∙ ap (λ b. (announced_at c k q == 0) || not b) (same.receipts k x (announced_at c k q) out)

  transitional-same : (k x : ℕ) (h i : Held) (state : State) → is_regular_in c k x ≡ false → attempt_set i ≡ attempt_set h → IsTransitional c k x h state → IsTransitional d k x i state
  transitional-same k x h i RegPrim out e is = is
  transitional-same k x h i TransPrim out e is = is
  transitional-same k x h i (ExchangeStates at set heard) out e is = is
  transitional-same k x h i (ExchangeActions at heard accepted) out e is = is
  transitional-same k x h i (Construct at heard) out e is = is
  transitional-same k x h i (No at heard) out e is = (
    is.0,
    ap (λ set. is_within set heard) e ∙ is.1,
    ap (list_all (λ q. has heard q || lacks_announcement d k x q)) e
        ∙ list_all_same (λ q. has heard q || lacks_announcement d k x q) (λ q. has heard q || lacks_announcement c k x q) (λ q. ap (λ b. has heard q || b) (lacks-same k x q out)) (attempt_set h) ∙ is.2,
  )
  transitional-same k x h i Un out e is = is
  transitional-same k x h i (NonPrim regular) out e is = is
  transitional-same k x h i Left out e is = is

  state-same : (x : ℕ) (phase : Phase) (r s : Replica) → phase_of c.world.group x ≡ phase → s.state ≡ r.state → attempt_set s.held ≡ attempt_set r.held →
      IsStateIn c x phase r → IsStateIn d x phase s
  state-same x Down r s at e f is = e ∙ is
  state-same x Alone r s at e f is = e ∙ is
  state-same x (Regular k) r s at e f is = e ∙ is ∙ ap₂ (λ set t. state_in set k t x) (sym (same.members k)) (sym (handed-same k x))
  state-same x (Transitional k set) r s at e f is =
      subst (λ (y : State). IsTransitional d k x s.held y) (sym e) (transitional-same k x r.held s.held r.state (ap (is_regular_at k) at) f is)

  some-same : (x : ℕ) (o u : Option Replica) → IsShownAs o u → IfSome o (IsStateIn c x (phase_of c.world.group x)) → IfSome u (IsStateIn d x (phase_of c.world.group x))
  some-same x None None shown is = is
  some-same x None (Some s) shown is = absurd shown
  some-same x (Some r) None shown is = absurd shown
  some-same x (Some r) (Some s) shown is = state-same x (phase_of c.world.group x) r s refl shown.0 shown.1 is

  told-frame : (k : ℕ) (heard : List Summary) → AreTold c k heard → AreTold d k heard
  told-frame k [] are = are
  told-frame k (s ∷ heard) are = (ap summaries_of (same.told k s.id) ∙ are.0, told-frame k heard are.1)

  -- the facts are kept
  pub same-said : SaidFacts c → SaidFacts d
  same-said old = record {
    legal = record {
      ordered = λ k. rw (same.members k, same.ordered k) (old.legal.ordered k);
      waiting = λ k q. rw (same.members k, whole-same k, waiting-same k q) (old.legal.waiting k q);
    };
    says = λ k q regular. rw (same.members k, said-same k q, handed-same k q, same.told k q) (old.says k q (sym (regular-same k q) ∙ regular));
    told = λ k. subst (λ (t : Talk). AreTold d k t.heard) (sym (whole-same k)) (told-frame k (whole_talk c k).heard (old.told k));
    modes = λ x. subst (λ (y : Phase). IfSome (replica_of d.world x) (IsStateIn d x y)) (sym (same.phase x)) (some-same x (replica_of c.world x) (replica_of d.world x) (same.replica x) (old.modes x));
  }

-- a replica is shown as itself
pub shown-itself : (o : Option Replica) → IsShownAs o o
shown-itself None = tt
shown-itself (Some r) = (refl, refl)

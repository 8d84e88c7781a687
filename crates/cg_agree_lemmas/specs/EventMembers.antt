-- The members of a split and of a merge: what their small steps ask for holds where the event is admitted in a sound world.
use Rattle.std.proofs.Common.{◌≡◌, ℕ, ◌≤◌, Bool, true, false, not, List, [], ◌∷◌, Option, Some, None, IfSome, map, find, refl, sym, ap, ◌∙◌, eqb-true, subst, is_some, is_none, option_map, option_and_then, fold, max, arith}
use Rattle.std.specs.Prelude.{◌==◌}
use Rattle.std.specs.Option.{option_map_or}
use Rattle.cg_base.specs.Sets.{has}
use Rattle.cg_base.specs.Text.{is_nil}
use Rattle.cg_wire.specs.declared.message.Msg.{Msg}
use Rattle.cg_group.specs.declared.reason.Reason.{Reason}
use Rattle.cg_group.specs.declared.reason.Reason.TheVariants.{NotUp, NotRegular, NotOneConfiguration, EmptySet}
use Rattle.cg_group.specs.State.{GroupState, configuration, is_up, is_regular, regular_in, phase_of, delivered_to}
use Rattle.cg_group.specs.Ready.{ready_in}
use Rattle.cg_group.specs.Refusals.{empty_set, any_of, not_up, not_regular, not_one_configuration, still_regular, not_together, split_refusal, merge_refusal}
use Rattle.cg_base.specs.Lists.{Each}
use Rattle.cg_base.specs.EachLaws.{Each-has, Each-weaker}
use Rattle.cg_base.specs.FindLaws.{none_found}
use Rattle.cg_client.specs.Replica.{Replica}
use Rattle.cg_schedule.specs.declared.event.Event.TheVariants.{Split, Merge}
use Rattle.cg_model.specs.World.{Node, World, running, replica_of, is_left, is_left_state, left_replicas}
use Rattle.cg_model.specs.Admission.{unknown, has_left, first_refusal}
use Rattle.cg_model.specs.Smalls.{is_between}
use Rattle.cg_agree_lemmas.specs.UnorderedKept.{first-none, refused-not}
use Rattle.cg_agree_lemmas.specs.MadeDeliver.{stands-regular}
use Rattle.cg_agree_lemmas.specs.MadeSplit.{IsLeaving, greatest-below}
use Rattle.cg_agree_lemmas.specs.MadeMerge.{IsComing}
use Rattle.cg_agree_lemmas.specs.SoundWorlds.{IsSound}
use Rattle.cg_agree_lemmas.specs.EventTurns.{is-up}
use Rattle.cg_group.specs.RefusalLaws.{refuse_none}

-- ---- what isn't refused

-- none of a set gives a reason
pub none-of : (test : ℕ → Option Reason) (set : List ℕ) → is_none (any_of test set) ≡ true → Each (λ p. test p ≡ None) set
none-of test [] e = tt
none-of test (p ∷ set) e = (let one = first-none (test p) (map test set) e in (one.0, none-of test set one.1))

-- the members of a split are in one configuration
one-configuration : (g : GroupState Msg) (p : ℕ) (set : List ℕ) → not_one_configuration g (p ∷ set) ≡ None → Each (λ q. regular_in (phase_of g q) ≡ regular_in (phase_of g p)) (p ∷ set)
one-configuration g p set e = (
  refl,
  Each-weaker (λ q. not (regular_in (phase_of g q) == regular_in (phase_of g p)) ≡ false) (λ q. regular_in (phase_of g q) ≡ regular_in (phase_of g p))
      (λ q n. eqb-true (regular_in (phase_of g q)) (regular_in (phase_of g p)) (is-true (regular_in (phase_of g q) == regular_in (phase_of g p)) n)) set
      (none_found (λ q. not (regular_in (phase_of g q) == regular_in (phase_of g p))) set (unmapped (find (λ q. not (regular_in (phase_of g q) == regular_in (phase_of g p))) set) e)),
) where
  is-true : (b : Bool) → not b ≡ false → b ≡ true
  is-true true n = refl
  is-true false n = absurd (let clash : true ≡ false = n in cc)

  unmapped : (o : Option ℕ) → option_map NotOneConfiguration o ≡ None → o ≡ None
  unmapped None e = refl
  unmapped (Some x) e = absurd (let clash : Some (NotOneConfiguration x) ≡ None = e in cc)

pub not-empty : (set : List ℕ) → empty_set set ≡ None → is_nil set ≡ false
not-empty [] e = absurd (let clash : Some EmptySet ≡ None = e in cc)
not-empty (p ∷ set) e = refl

module _ (w : World) (sound : IsSound w) where
  abbrev g : GroupState Msg
  g = w.group

  up-is : (p : ℕ) → not_up g p ≡ None → is_some (replica_of w p) ≡ true
  up-is p e = sound.up p ∙ refused-not (is_up g p) (NotUp p) e

  -- ---- a split

  pub leaving-members : (set : List ℕ) → first_refusal w (Split set) ≡ None → Each (IsLeaving w set) set
  unfolding first_refusal split_refusal
  leaving-members [] refused = tt
  leaving-members (p0 ∷ rest) refused =
      let set = p0 ∷ rest in
      let first = first-none (empty_set set) (any_of (unknown w) set ∷ split_refusal g set ∷ []) (ap is_none refused) in
      let second = first-none (any_of (unknown w) set) (split_refusal g set ∷ []) first.1 in
      let group = (first-none (split_refusal g set) [] second.1).0 in
      let third = first-none (empty_set set) (any_of (not_up g) set ∷ any_of (not_regular g) set ∷ not_one_configuration g set ∷ []) (ap is_none group) in
      let fourth = first-none (any_of (not_up g) set) (any_of (not_regular g) set ∷ not_one_configuration g set ∷ []) third.1 in
      let fifth = first-none (any_of (not_regular g) set) (not_one_configuration g set ∷ []) fourth.1 in
      let ups = none-of (not_up g) set (ap is_none fourth.0) in
      let regulars = none-of (not_regular g) set (ap is_none fifth.0) in
      let ones = one-configuration g p0 rest (first-none (not_one_configuration g set) [] fifth.1).0 in
      members set ups regulars ones (few set regulars ones) (Each-has set) where
        few : (list : List ℕ) → Each (λ p. not_regular g p ≡ None) list → Each (λ q. regular_in (phase_of g q) ≡ regular_in (phase_of g p0)) list →
            Each (λ q. delivered_to g q ≤ ready_in (configuration g (regular_in (phase_of g p0))) 0) list
        few [] a b = tt
        few (p ∷ list) a b = (sound.group.handed (regular_in (phase_of g p0)) p (refused-not (is_regular g p) (NotRegular p) a.0) b.0, few list a.1 b.1)

        members : (list : List ℕ) → Each (λ p. not_up g p ≡ None) list → Each (λ p. not_regular g p ≡ None) list → Each (λ q. regular_in (phase_of g q) ≡ regular_in (phase_of g p0)) list →
            Each (λ q. delivered_to g q ≤ ready_in (configuration g (regular_in (phase_of g p0))) 0) (p0 ∷ rest) → Each (λ q. has (p0 ∷ rest) q ≡ true) list → Each (IsLeaving w (p0 ∷ rest)) list
        members [] a b d most e = tt
        members (p ∷ list) a b d most e = (
          record {
            here = is-up w p (up-is p a.0);
            stands = stands-regular g p (refused-not (is_regular g p) (NotRegular p) b.0);
            member = e.0;
            reached = subst (λ n. fold max 0 (map (delivered_to g) (p0 ∷ rest)) ≤ ready_in (configuration g n) 0) (sym d.0)
                (greatest-below (delivered_to g) (p0 ∷ rest) 0 (ready_in (configuration g (regular_in (phase_of g p0))) 0) (omega arith) most);
            closed = λ q earlier place some before same got. sound.group.closed (regular_in (phase_of g p)) q earlier place some before same got;
          },
          members list a.1 b.1 d.1 most e.1,
        )

  -- ---- a merge

  pub coming-members : (set : List ℕ) → first_refusal w (Merge set) ≡ None → Each (IsComing w set) set
  unfolding first_refusal merge_refusal
  coming-members set refused =
      let first = first-none (empty_set set) (any_of (unknown w) set ∷ any_of (not_up g) set ∷ any_of (has_left w) set ∷ merge_refusal g set (left_replicas w) ∷ []) (ap is_none refused) in
      let second = first-none (any_of (unknown w) set) (any_of (not_up g) set ∷ any_of (has_left w) set ∷ merge_refusal g set (left_replicas w) ∷ []) first.1 in
      let third = first-none (any_of (not_up g) set) (any_of (has_left w) set ∷ merge_refusal g set (left_replicas w) ∷ []) second.1 in
      let fourth = first-none (any_of (has_left w) set) (merge_refusal g set (left_replicas w) ∷ []) third.1 in
      let group = (first-none (merge_refusal g set (left_replicas w)) [] fourth.1).0 in
      let fifth = first-none (empty_set set) (any_of (not_up g) set ∷ any_of (still_regular g) set ∷ not_together g set (left_replicas w) ∷ []) (ap is_none group) in
      let sixth = first-none (any_of (not_up g) set) (any_of (still_regular g) set ∷ not_together g set (left_replicas w) ∷ []) fifth.1 in
      let seventh = first-none (any_of (still_regular g) set) (not_together g set (left_replicas w) ∷ []) sixth.1 in
      members set (none-of (not_up g) set (ap is_none third.0)) (none-of (has_left w) set (ap is_none fourth.0)) (none-of (still_regular g) set (ap is_none seventh.0)) (Each-has set) where
        members : (list : List ℕ) → Each (λ p. not_up g p ≡ None) list → Each (λ p. has_left w p ≡ None) list → Each (λ p. still_regular g p ≡ None) list → Each (λ q. has set q ≡ true) list →
            Each (IsComing w set) list
        members [] a b d e = tt
        members (p ∷ list) a b d e =
            let here = is-up w p (up-is p a.0) in
            let out = refuse_none (is_regular g p) _ d.0 in
            let runs : replica_of w p ≡ Some here.replica = ap (λ (o : Option Node). option_and_then (λ s. running s.life) o) here.node in
            let state = subst (λ (o : Option Replica). IfSome o (λ r. is_regular g p ≡ false → is_left_state r.state ≡ false → is_between r.state ≡ true)) runs (sound.between p) in
            let stays : is_left_state here.replica.state ≡ false = sym (ap (λ (o : Option Replica). option_map_or (λ r. is_left_state r.state) o false) runs) ∙ refuse_none (is_left w p) _ b.0 in (
              record {
                here = here;
                member = e.0;
                out = out;
                between = state out stays;
              },
              members list a.1 b.1 d.1 e.1,
            )

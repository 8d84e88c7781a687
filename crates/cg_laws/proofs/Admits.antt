-- No test refuses an event, where those whom it names stand as they should.
use Rattle.std.proofs.Common.{◌≡◌, ℕ, ◌<◌, Bool, true, false, not, ◌&&◌, List, [], ◌∷◌, map, Option, Some, None, is_some, option_and_then, option_map, refl, sym, ap, ap₂, ◌∙◌, eq-eqb, arith, ◌||◌}
use Rattle.std.specs.Prelude.{◌==◌, IfSome}
use Rattle.std.specs.Option.{option_map_or}
use Rattle.std.proofs.lemmas.Bool.{cond-false, ne_eqb, or_right}
use Rattle.cg_base.specs.Lists.{first_some, Each}
use Rattle.cg_base.specs.Sets.{has}
use Rattle.cg_group.specs.declared.phase.Phase.{Phase}
use Rattle.cg_group.specs.declared.phase.Phase.TheVariants.{Regular}
use Rattle.cg_group.specs.declared.reason.Reason.{Reason}
use Rattle.cg_group.specs.declared.reason.Reason.TheVariants.{NotTogether, NotOneConfiguration}
use Rattle.cg_group.specs.State.{Standing, standing_of, is_up, is_regular, regular_in, phase_of}
use Rattle.cg_group.specs.Refusals.{refuse, empty_set, left_together, any_of, not_up, not_regular, not_one_configuration, still_regular, is_together, not_together, split_refusal, merge_refusal}
use Rattle.cg_base.specs.EachLaws.{Each-has, Each-weaker, Each-all, list_any_nowhere}
use Rattle.cg_base.specs.FindLaws.{find_none}
use Rattle.cg_client.specs.Replica.{State, RegPrim, TransPrim, ExchangeStates, ExchangeActions, Construct, No, Un, NonPrim, Left, Replica}
use Rattle.cg_wire.specs.declared.message.Msg.{Msg}
use Rattle.cg_schedule.specs.declared.event.Event.TheVariants.{Split, Merge}
use Rattle.cg_model.specs.World.{NodeState, Up, Down as DownLife, Node, World, has_begun, running, replica_of, is_left_state, is_left, left_replicas}
use Rattle.cg_model.specs.Admission.{unknown, has_left, takes_part, first_refusal}
use Rattle.cg_model.specs.AdmissionCalls.{already_up}
use Rattle.cg_laws.proofs.Calm.{CalmState}
use Rattle.cg_laws.proofs.CalmEnds.{CalmLife}
use Rattle.cg_model.specs.PhaseLaws.{phase_at, phase-where}
use Rattle.cg_laws.proofs.WorldStands.{StandsIn}
use Rattle.cg_model.specs.NodeLaws.{node_in}

-- ---- lists of tests

pub none-then : {X : Type 0} (o : Option X) (rest : List (Option X)) → o ≡ None → first_some rest ≡ None → first_some (o ∷ rest) ≡ None
none-then None rest e none = none
none-then (Some x) rest e none = absurd cc

pub passes : (test : Bool) (reason : Reason) → test ≡ false → refuse test reason ≡ None
passes test reason e = cond-false test (Some reason) None e

-- what holds of each member
pub members : (P : ℕ → Type 0) (set : List ℕ) → ((p : ℕ) → has set p ≡ true → P p) → Each P set
members P set each = Each-weaker (λ p. has set p ≡ true) P each set (Each-has set)

any-none : (test : ℕ → Option Reason) (set : List ℕ) → Each (λ p. test p ≡ None) set → any_of test set ≡ None
any-none test [] each = refl
any-none test (p ∷ set) each = none-then (test p) (map test set) each.0 (any-none test set each.1)

none-of : (test : ℕ → Option Reason) (set : List ℕ) → ((p : ℕ) → has set p ≡ true → test p ≡ None) → any_of test set ≡ None
none-of test set each = any-none test set (members (λ p. test p ≡ None) set each)

-- a set with a member isn't empty
pub some-member : (set : List ℕ) (p : ℕ) → has set p ≡ true → empty_set set ≡ None
some-member [] p here = absurd cc
some-member (q ∷ set) p here = refl

module _ (begun : ℕ → Bool) (at : ℕ → Option Phase) (w : World) (s : StandsIn begun at w) where
  -- ---- one replica

  pub is-known : (p : ℕ) → begun p ≡ true → unknown w p ≡ None
  is-known p has = passes (not (has_begun w p)) _ (ap not (s.hosted p has))

  phase-is : (p : ℕ) (phase : Phase) → at p ≡ Some phase → phase_of w.group p ≡ phase
  phase-is p phase e = phase-where w.group p ∙ ap phase_at (s.place p ∙ e)

  is-standing : (p : ℕ) (phase : Phase) → at p ≡ Some phase → is_up w.group p ≡ true
  is-standing p phase e = by (standing_of w.group p) (s.place p ∙ e) where
    by : (o : Option (Standing Msg)) → option_map (λ s. s.phase) o ≡ Some phase → is_some o ≡ true
    by None is = absurd cc
    by (Some x) is = refl

  pub stands-up : (p : ℕ) (phase : Phase) → at p ≡ Some phase → not_up w.group p ≡ None
  stands-up p phase e = passes (not (is_up w.group p)) _ (ap not (is-standing p phase e))

  -- nobody has left
  stays : (p : ℕ) → is_left w p ≡ false
  stays p = sits (node_in w.nodes p) (s.lives p) where
    in_state : (state : State) → CalmState state → is_left_state state ≡ false
    in_state RegPrim calm = refl
    in_state TransPrim calm = refl
    in_state (ExchangeStates conf set heard) calm = refl
    in_state (ExchangeActions conf heard accepted) calm = refl
    in_state (Construct conf heard) calm = refl
    in_state (No conf heard) calm = refl
    in_state Un calm = refl
    in_state (NonPrim regular) calm = refl
    in_state Left calm = absurd calm

    lives : (life : NodeState) → CalmLife p life → option_map_or (λ (r : Replica). is_left_state r.state) (running life) false ≡ false
    lives (Up r disk) calm = in_state r.state calm.1
    lives (DownLife disk green) calm = refl

    sits : (o : Option Node) → IfSome o (λ x. CalmLife p x.life) → option_map_or (λ (r : Replica). is_left_state r.state) (option_and_then (λ x. running x.life) o) false ≡ false
    sits None calm = refl
    sits (Some node) calm = lives node.life calm

  is-here : (p : ℕ) → has_left w p ≡ None
  is-here p = passes (is_left w p) _ (stays p)

  pub takes-part : (p : ℕ) (phase : Phase) → begun p ≡ true → at p ≡ Some phase → takes_part w p ≡ None
  takes-part p phase has e =
      none-then (unknown w p) _ (is-known p has) (none-then (not_up w.group p) _ (stands-up p phase e) (none-then (has_left w p) [] (is-here p) refl))

  pub is-down : (p : ℕ) → at p ≡ None → already_up w p ≡ None
  is-down p e = passes (is_some (replica_of w p)) _ (s.runs p ∙ ap is_some e)

  -- ---- those who leave a configuration together

  module _ (set : List ℕ) (conf first : ℕ) (above : 0 < conf) (some : has set first ≡ true) (known : (p : ℕ) → has set p ≡ true → begun p ≡ true)
      (regular : (p : ℕ) → has set p ≡ true → at p ≡ Some (Regular conf)) where
    in-conf : (p : ℕ) → has set p ≡ true → regular_in (phase_of w.group p) ≡ conf
    in-conf p here = ap regular_in (phase-is p (Regular conf) (regular p here))

    is-regular : (p : ℕ) → has set p ≡ true → not_regular w.group p ≡ None
    is-regular p here =
        let apart : (regular_in (phase_of w.group p) == 0) ≡ false = ap (λ n. n == 0) (in-conf p here) ∙ ne_eqb conf 0 (λ e. omega (arith, above, e)) in
        passes (not (is_regular w.group p)) _ (ap (λ b. not (not b)) apart)

    one-conf : (rest : List ℕ) → ((p : ℕ) → has rest p ≡ true → regular_in (phase_of w.group p) ≡ conf) → not_one_configuration w.group rest ≡ None
    one-conf [] same = refl
    one-conf (p ∷ rest) same =
        let test : ℕ → Bool = λ q. not (regular_in (phase_of w.group q) == regular_in (phase_of w.group p)) in
        ap (option_map NotOneConfiguration) (find_none test rest (members (λ q. test q ≡ false) rest (λ q later.
        ap not (eq-eqb (regular_in (phase_of w.group q)) (regular_in (phase_of w.group p)) (same q (or_right (p == q) (has rest q) later)
        ∙ sym (same p (ap (λ b. b || has rest p) (eq-eqb p p refl))))))))

    pub may-split : first_refusal w (Split set) ≡ None
    unfolding first_refusal split_refusal
    may-split =
        let up = none-of (not_up w.group) set (λ p here. stands-up p (Regular conf) (regular p here)) in
        let empty = some-member set first some in
        none-then (empty_set set) _ empty
        (none-then (any_of (unknown w) set) _ (none-of (unknown w) set (λ p here. is-known p (known p here)))
        (none-then (split_refusal w.group set) [] (none-then (empty_set set) _ empty
        (none-then (any_of (not_up w.group) set) _ up
        (none-then (any_of (not_regular w.group) set) _ (none-of (not_regular w.group) set is-regular)
        (none-then (not_one_configuration w.group set) [] (one-conf set in-conf) refl)))) refl))

  -- ---- those who come together

  module _ (set : List ℕ) (first : ℕ) (some : has set first ≡ true) (known : (p : ℕ) → has set p ≡ true → begun p ≡ true)
      (out : (p : ℕ) → has set p ≡ true → (phase : Phase) × (at p ≡ Some phase) × (regular_in phase ≡ 0))
      (alone : (p q : ℕ) → has set p ≡ true → has set q ≡ false → left_together (phase_at (at p)) (phase_at (at q)) ≡ false) where
    is-out : (p : ℕ) → has set p ≡ true → still_regular w.group p ≡ None
    is-out p here =
        let is = out p here in
        passes (is_regular w.group p) _ (ap (λ n. not (n == 0)) (ap regular_in (phase-is p is.0 is.1) ∙ is.2))

    same-as : (p : ℕ) → phase_of w.group p ≡ phase_at (at p)
    same-as p = phase-where w.group p ∙ ap phase_at (s.place p)

    apart : (q : ℕ) → has set q ≡ false → is_together w.group set q ≡ false
    apart q other =
        list_any_nowhere (λ p. left_together (phase_of w.group p) (phase_of w.group q)) set
        (members (λ p. left_together (phase_of w.group p) (phase_of w.group q) ≡ false) set (λ p here. ap₂ left_together (same-as p) (same-as q) ∙ alone p q here other))

    and_out : (a b c : Bool) → (b ≡ false → a ≡ false) → (a && not b && not c) ≡ false
    and_out true true c e = refl
    and_out false b c e = refl
    and_out true false c e = absurd (let clash : true ≡ false = e refl in cc)

    together : (left : List ℕ) → not_together w.group set left ≡ None
    together left =
        let test : ℕ → Bool = λ q. is_together w.group set q && not (has set q) && not (has left q) in
        let all = map (λ (x : Standing Msg). x.id) w.group.replicas in
        ap (option_map NotTogether) (find_none test all (Each-all (λ q. test q ≡ false) (λ q. and_out (is_together w.group set q) (has set q) (has left q) (apart q)) all))

    pub may-merge : first_refusal w (Merge set) ≡ None
    unfolding first_refusal merge_refusal
    may-merge =
        let up = none-of (not_up w.group) set (λ p here. (let is = out p here in stands-up p is.0 is.1)) in
        let empty = some-member set first some in
        none-then (empty_set set) _ empty
        (none-then (any_of (unknown w) set) _ (none-of (unknown w) set (λ p here. is-known p (known p here)))
        (none-then (any_of (not_up w.group) set) _ up
        (none-then (any_of (has_left w) set) _ (none-of (has_left w) set (λ p here. is-here p))
        (none-then (merge_refusal w.group set (left_replicas w)) [] (none-then (empty_set set) _ empty
        (none-then (any_of (not_up w.group) set) _ up
        (none-then (any_of (still_regular w.group) set) _ (none-of (still_regular w.group) set is-out)
        (none-then (not_together w.group set (left_replicas w)) [] (together (left_replicas w)) refl)))) refl))))

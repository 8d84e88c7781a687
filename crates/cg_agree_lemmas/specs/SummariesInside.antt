-- Who told a summary has all of it still; and in its configuration it knows all that it knew: behind each small step.
use Rattle.std.proofs.Common.{◌≡◌, ℕ, ◌<◌, Bool, true, false, cond, not, List, [], ◌∷◌, find, Option, Some, None, IfSome, refl, sym, ap, ◌∙◌, subst, inl, inr, option_and_then, eq-eqb}
use Rattle.std.specs.Prelude.{◌==◌}
use Rattle.std.specs.Option.{option_map_or}
use Rattle.std.proofs.lemmas.Bool.{cases_eq, cond-true, cond-false, ne_eqb}
use Rattle.std.proofs.lemmas.Option.{same_Some}
use Rattle.cg_base.specs.EachLaws.{Each-append}
use Rattle.cg_base.specs.Lists.{at_place, Each}
use Rattle.cg_wire.specs.declared.message.Msg.{Msg}
use Rattle.cg_group.specs.declared.delivery.Delivery.TheVariants.{Message}
use Rattle.cg_group.specs.declared.phase.Phase.{Phase}
use Rattle.cg_group.specs.declared.phase.Phase.TheVariants.{Down as DownPhase, Alone, Regular, Transitional}
use Rattle.cg_group.specs.State.{Sent, Configuration, regular_in, phase_of}
use Rattle.cg_group.specs.Events.{delivery_at, deliveries_at}
use Rattle.cg_client.specs.Replica.{Replica}
use Rattle.cg_client.specs.Turn.{Turn, begin}
use Rattle.cg_disk_records.specs.Stored.{stored_of, whiten}
use Rattle.cg_disk_records.specs.Crash.{Disk, whitened, at_rest}
use Rattle.cg_model.specs.World.{NodeState, Up, Down, Node, running, node_of, replica_of}
use Rattle.cg_model.specs.Chronicle.{Chronicle}
use Rattle.cg_model.specs.Looks.{greens_of, is_at, is_in}
use Rattle.cg_model.specs.FactsReplica.{IsCore}
use Rattle.cg_model.specs.Facts.{Invariant}
use Rattle.cg_model.specs.Small.{turning, turning_as, after_turn, commit_as, crash_as}
use Rattle.cg_agree_lemmas.specs.OneSteps.{OneStep}
use Rattle.cg_agree_lemmas.specs.ChronicleFacts.{node_of-set}
use Rattle.cg_agree_lemmas.specs.CoresKept.{node-of}
use Rattle.cg_agree_lemmas.specs.CreatedKept.{HasCreated, created-first}
use Rattle.cg_agree_lemmas.specs.KnowsOn.{IsInside, GoesOnKnowing, knowing-same, whitened-knowing}

-- ---- the replica and its phase before the step

-- a replica that is in a configuration behind a step was there before it, and goes on
pub record LivesOn (c : Chronicle) (conf q : ℕ) (r : Replica) : Type 0 where
  pub old : Replica
  pub before : replica_of c.world q ≡ Some old
  pub inside : is_in c conf q ≡ true
  pub on : GoesOnKnowing old r

module _ (c : Chronicle) (i : Invariant c) (conf : ℕ) (some : 0 < conf) where
  pub lives-same : (d : Chronicle) (q : ℕ) (r : Replica) → replica_of d.world q ≡ replica_of c.world q → (is_in d conf q ≡ true → is_in c conf q ≡ true) → replica_of d.world q ≡ Some r → is_in d conf q ≡ true → LivesOn c conf q r
  lives-same d q r same inside e is = record { old = r; before = sym same ∙ e; inside = inside is; on = knowing-same r }

  -- a phase is as it was
  pub in-same : (d : Chronicle) (q : ℕ) → phase_of d.world.group q ≡ phase_of c.world.group q → is_in d conf q ≡ true → is_in c conf q ≡ true
  in-same d q same is = sym (ap (is_at conf) same) ∙ is

  -- or one replica's is
  pub in-one : (d : Chronicle) (p : ℕ) (now : Phase) (n : ℕ) (up : Bool) → OneStep c d p now n up → (is_at conf now ≡ true → is_in c conf p ≡ true) → (q : ℕ) → is_in d conf q ≡ true → is_in c conf q ≡ true
  in-one d p now n up step own q is = elim (cases_eq q p) [
    | inl same ↦ ap (is_in c conf) same ∙ own (sym (ap (is_at conf) (step.stands.phase q ∙ cond-true (q == p) now (phase_of c.world.group q) (eq-eqb q p same))) ∙ is)
    | inr apart ↦ sym (ap (is_at conf) (step.stands.phase q ∙ cond-false (q == p) now (phase_of c.world.group q) (ne_eqb q p apart))) ∙ is
  ]

  -- a replica turns, or is another one that goes on so
  lives-one : (d : Chronicle) (p : ℕ) (life : NodeState) → ((q : ℕ) → node_of d.world q ≡ cond (p == q) (Some (record { id = p; life = life })) (node_of c.world q)) →
      ((r : Replica) → running life ≡ Some r → (old : Replica) × (replica_of c.world p ≡ Some old) × GoesOnKnowing old r) →
      ((q : ℕ) → is_in d conf q ≡ true → is_in c conf q ≡ true) → (q : ℕ) (r : Replica) → replica_of d.world q ≡ Some r → is_in d conf q ≡ true → LivesOn c conf q r
  lives-one d p life node on inside q r e is = elim (cases_eq p q) [
    | inl same ↦
        let now : running life ≡ Some r = sym (ap (λ (o : Option Node). option_and_then (λ s. running s.life) o) (node q ∙ cond-true (p == q) (Some (record { id = p; life = life })) (node_of c.world q) (eq-eqb p q same))) ∙ e in
        let was = on r now in
        record { old = was.0; before = ap (replica_of c.world) (sym same) ∙ was.1; inside = inside q is; on = was.2 }
    | inr apart ↦ lives-same d q r
        (ap (λ (o : Option Node). option_and_then (λ s. running s.life) o) (node q ∙ cond-false (p == q) (Some (record { id = p; life = life })) (node_of c.world q) (ne_eqb p q apart))) (inside q) e is
  ]

  -- who is inside behind it was inside, and goes on
  abbrev pub Goal : Chronicle → Type 0
  Goal d = ((q : ℕ) → is_in d conf q ≡ true → is_in c conf q ≡ true) → (q : ℕ) (r : Replica) → replica_of d.world q ≡ Some r → is_in d conf q ≡ true → LivesOn c conf q r

  pub lives-turning : (b : Chronicle) (p : ℕ) (part : Turn → Turn) → b.world.nodes ≡ c.world.nodes → ((r : Replica) (disk : Disk) → node_of c.world p ≡ Some (record { id = p; life = Up r disk }) → GoesOnKnowing r (part (begin r)).replica) → Goal (turning b p part)
  lives-turning b p part nodes on = at (node_of b.world p) refl where
    same : (q : ℕ) → node_of b.world q ≡ node_of c.world q
    same q = ap (λ (list : List Node). find (λ s. s.id == q) list) nodes

    stays : Goal b
    stays inside q r e is = lives-same b q r (ap (λ (o : Option Node). option_and_then (λ s. running s.life) o) (same q)) (inside q) e is

    turn : (r : Replica) (disk : Disk) → node_of b.world p ≡ Some (record { id = p; life = Up r disk }) → Goal (after_turn b p r disk (part (begin r)))
    turn r disk node inside =
        let t = part (begin r) in
        let here = sym (same p) ∙ node in
        lives-one (after_turn b p r disk t) p (Up t.replica disk)
        (λ q. node_of-set b.world p (Up t.replica disk) q ∙ ap (cond (p == q) (Some (record { id = p; life = Up t.replica disk }))) (same q))
        (λ x e. (r, ap (λ (o : Option Node). option_and_then (λ s. running s.life) o) here, subst (GoesOnKnowing r) (same_Some t.replica x e) (on r disk here))) inside

    life : (s : Node) (l : NodeState) → s.life ≡ l → node_of b.world p ≡ Some s → Goal (turning_as b p part l)
    life s (Up r disk) is e = turn r disk (node-of b p s (Up r disk) is e)
    life s (Down disk green) is e = stays

    at : (o : Option Node) → node_of b.world p ≡ o → Goal (option_map_or (λ s. turning_as b p part s.life) o b)
    at None e = stays
    at (Some s) e = life s s.life refl e

  -- ---- each small step but an entry

  pub parted-in : (phase : Phase) (set : List ℕ) → not (regular_in phase == 0) ≡ true → is_at conf (Transitional (regular_in phase) set) ≡ true → is_at conf phase ≡ true
  parted-in (Regular k) set regular e = e
  parted-in (Transitional k s) set regular e = absurd (let clash : false ≡ true = regular in cc)
  parted-in DownPhase set regular e = absurd (let clash : false ≡ true = regular in cc)
  parted-in Alone set regular e = absurd (let clash : false ≡ true = regular in cc)

  pub inside-place : (C : Configuration Msg) (place : ℕ) → Each IsInside (delivery_at C place)
  unfolding delivery_at
  inside-place C place = at (at_place C.ordered place) where
    at : (o : Option (Sent Msg)) → Each IsInside (option_map_or (λ s. Message place s.from s.message ∷ []) o [])
    at None = tt
    at (Some s) = (tt, tt)

  pub inside-places : (C : Configuration Msg) (places : List ℕ) → Each IsInside (deliveries_at C places)
  inside-places C [] = tt
  inside-places C (place ∷ places) = Each-append IsInside (delivery_at C place) (deliveries_at C places) (inside-place C place) (inside-places C places)

  module _ (p : ℕ) (r : Replica) (disk : Disk) (node : node_of c.world p ≡ Some (record { id = p; life = Up r disk })) where
    pub first-of : HasCreated r.held r.held
    first-of =
        let core = subst (λ (o : Option Replica). IfSome o (λ r. IsCore c r.held (greens_of c p))) (ap (λ (o : Option Node). option_and_then (λ s. running s.life) o) node) (i.replica.cores.memory p) in
        created-first c.start r.held (greens_of c p) (record { made_of = core.made_of; contiguous = core.contiguous; yellow_closed = core.yellow_closed })

  pub goal-some : {X : Type 0} (o : Option X) (change : X → Chronicle) → Goal c → ((x : X) → o ≡ Some x → Goal (change x)) → Goal (option_map_or change o c)
  goal-some None change none each = none
  goal-some (Some x) change none each = each x refl

  pub goal-same : Goal c
  goal-same inside q r e is = lives-same c q r refl (inside q) e is

  down-goal : (p : ℕ) (l : NodeState) → running l ≡ None → (d : Chronicle) → ((q : ℕ) → node_of d.world q ≡ cond (p == q) (Some (record { id = p; life = l })) (node_of c.world q)) → Goal d
  down-goal p l none d node inside = lives-one d p l node (λ r e. absurd (let clash : None ≡ Some r = sym none ∙ e in cc)) inside

  pub commit-goal : (p : ℕ) (s : Node) → node_of c.world p ≡ Some s → (l : NodeState) → s.life ≡ l → Goal (commit_as c p l)
  commit-goal p s e (Down disk green) is = goal-same
  commit-goal p s e (Up r disk) is = λ inside.
      let new : NodeState = Up (whitened r) (record disk { content = stored_of (whiten r.held) }) in
      let node = node-of c p s (Up r disk) is e in
      lives-one (commit_as c p (Up r disk)) p new (λ q. node_of-set c.world p new q)
      (λ x f. (r, ap (λ (o : Option Node). option_and_then (λ s. running s.life) o) node, subst (GoesOnKnowing r) (same_Some (whitened r) x f) (whitened-knowing r))) inside

  pub crash-goal : (p : ℕ) (l : NodeState) → Goal (crash_as c p l)
  crash-goal p (Down disk green) = goal-same
  crash-goal p (Up r disk) = down-goal p (Down (at_rest disk) []) refl (crash_as c p (Up r disk)) (λ q. node_of-set c.world p (Down (at_rest disk) []) q)

-- a replica that begins, or comes up, is in no configuration
pub alone-goal : (c : Chronicle) (conf : ℕ) (d : Chronicle) (p : ℕ) (life : NodeState) → ((q : ℕ) → node_of d.world q ≡ cond (p == q) (Some (record { id = p; life = life })) (node_of c.world q)) → is_in d conf p ≡ false →
    ((q : ℕ) → is_in d conf q ≡ true → is_in c conf q ≡ true) → (q : ℕ) (r : Replica) → replica_of d.world q ≡ Some r → is_in d conf q ≡ true → LivesOn c conf q r
alone-goal c conf d p life node out inside q r e is = elim (cases_eq p q) [
  | inl same ↦ absurd (let clash : true ≡ false = sym is ∙ ap (is_in d conf) (sym same) ∙ out in cc)
  | inr apart ↦ record {
    old = r;
    before = sym (ap (λ (o : Option Node). option_and_then (λ s. running s.life) o) (node q ∙ cond-false (p == q) (Some (record { id = p; life = life })) (node_of c.world q) (ne_eqb p q apart))) ∙ e;
    inside = inside q is;
    on = knowing-same r;
  }
]

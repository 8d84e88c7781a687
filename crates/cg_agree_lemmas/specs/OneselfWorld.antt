-- The facts of each replica by itself, where one replica has another life.
use Rattle.std.proofs.Common.{◌≡◌, ℕ, ◌≢◌, Bool, true, false, cond, List, [], ◌++◌, length, drop, Option, Some, None, IfSome, is_some, refl, sym, ap, ap₂, ◌∙◌, subst, inl, inr, eqb-true, eq-eqb, option_map}
use Rattle.std.specs.Prelude.{◌==◌}
use Rattle.std.specs.Option.{option_map_or}
use Rattle.std.proofs.lemmas.Bool.{cases_eq, cond-true, cond-false, ne_eqb}
use Rattle.cg_base.specs.FindLaws.{found_passes}
use Rattle.cg_action.specs.declared.action.Action.{Action}
use Rattle.cg_client.specs.Replica.{Held, Replica}
use Rattle.cg_client.specs.Turn.{Turn, begin}
use Rattle.cg_disk_records.specs.Crash.{Disk}
use Rattle.cg_model.specs.World.{NodeState, Up, Down, Node, running, node_of, replica_of, has_begun}
use Rattle.cg_model.specs.Step.{joiner_replica}
use Rattle.cg_model.specs.Chronicle.{Past, Chronicle}
use Rattle.cg_model.specs.Looks.{past_of, greens_of, stood_of, on_disk, disk_held, snapshot_of, copied_for, OfCores}
use Rattle.cg_model.specs.Small.{after_turn, turning, turning_as, newly_green, with_greens}
use Rattle.cg_model.specs.FactsReplica.{IsCore}
use Rattle.cg_agree_lemmas.specs.ChronicleFacts.{node_of-set, past_of-turn, greens_of-own, greens_of-other}
use Rattle.cg_agree_lemmas.specs.HeldMarks.{IsOneself}
use Rattle.cg_agree_lemmas.specs.HeldTurns.{Grows, Keeps}
use Rattle.cg_agree_lemmas.specs.GreenMembers.{drop-front}
use Rattle.cg_agree_lemmas.specs.Looking.{life_in}

abbrev pub AreOneself : Chronicle → Type 0
AreOneself c = OfCores c (IsOneself c.start)

-- a replica that has begun has greens of its own
abbrev pub HavePasts : Chronicle → Type 0
HavePasts c = (p : ℕ) → is_some (past_of c p) ≡ has_begun c.world p

-- one replica has this life and these greens, and all others have what they had
pub record Rehosted (c d : Chronicle) (p : ℕ) (life : NodeState) (now stood : List Action) : Type 0 where
  pub node : (q : ℕ) → node_of d.world q ≡ cond (p == q) (Some (record { id = p; life = life })) (node_of c.world q)
  pub greens : greens_of d p ≡ now
  pub disk : stood_of d p ≡ stood
  pub other_greens : (q : ℕ) → p ≢ q → greens_of d q ≡ greens_of c q
  pub other_disks : (q : ℕ) → p ≢ q → stood_of d q ≡ stood_of c q

abbrev disk_in : Option Node → Option Held
disk_in o = option_map (λ s. on_disk s.life) o

pub rehosted : (P : Held → List Action → Type 0) (c d : Chronicle) (p : ℕ) (life : NodeState) (now stood : List Action) → Rehosted c d p life now stood →
    IfSome (running life) (λ r. P r.held now) → P (on_disk life) stood →
    ((joiner : ℕ) → IfSome (snapshot_of d.world joiner) (λ s. P (joiner_replica joiner s.content).held (copied_for d joiner))) → OfCores c P → OfCores d P
rehosted P c d p life now stood at own own_disk snapshots before = record {
  memory = λ q. elim (cases_eq p q) [
    | inl same ↦ subst (λ n. IfSome (replica_of d.world n) (λ r. P r.held (greens_of d n))) same
        (subst (λ gs. IfSome (replica_of d.world p) (λ r. P r.held gs)) (sym at.greens)
        (subst (λ (o : Option Replica). IfSome o (λ r. P r.held now)) (sym (ap life_in here)) own))
    | inr apart ↦
        subst (λ gs. IfSome (replica_of d.world q) (λ r. P r.held gs)) (sym (at.other_greens q apart))
        (subst (λ (o : Option Replica). IfSome o (λ r. P r.held (greens_of c q))) (sym (ap life_in (there q apart))) (before.memory q))
  ];
  disk = λ q. elim (cases_eq p q) [
    | inl same ↦ subst (λ n. IfSome (disk_held d.world n) (λ h. P h (stood_of d n))) same
        (subst (λ gs. IfSome (disk_held d.world p) (λ h. P h gs)) (sym at.disk)
        (subst (λ (o : Option Held). IfSome o (λ h. P h stood)) (sym (ap disk_in here)) own_disk))
    | inr apart ↦
        subst (λ gs. IfSome (disk_held d.world q) (λ h. P h gs)) (sym (at.other_disks q apart))
        (subst (λ (o : Option Held). IfSome o (λ h. P h (stood_of c q))) (sym (ap disk_in (there q apart))) (before.disk q))
  ];
  snapshot = snapshots;
}
  where
    here : node_of d.world p ≡ Some (record { id = p; life = life })
    here = at.node p ∙ cond-true (p == p) (Some (record { id = p; life = life })) (node_of c.world p) (eq-eqb p p refl)

    there : (q : ℕ) → p ≢ q → node_of d.world q ≡ node_of c.world q
    there q apart = at.node q ∙ cond-false (p == q) (Some (record { id = p; life = life })) (node_of c.world q) (ne_eqb p q apart)

-- ---- a turn

pub stood-same : (c : Chronicle) (p : ℕ) (r : Replica) (disk : Disk) (t : Turn) (q : ℕ) → stood_of (after_turn c p r disk t) q ≡ stood_of c q
stood-same c p r disk t q = ap stood (past_of-turn c p r disk t q) ∙ either (q == p) (past_of c q) where
  stood : Option Past → List Action
  stood o = option_map_or (λ x. x.stood) o []

  either : (b : Bool) (o : Option Past) → stood (cond b (option_map (with_greens (newly_green r t.replica)) o) o) ≡ stood o
  either true None = refl
  either true (Some x) = refl
  either false o = refl

module _ (c : Chronicle) (p : ℕ) (r : Replica) (disk : Disk) (part : Turn → Turn) (node : node_of c.world p ≡ Some (record { id = p; life = Up r disk }))
    (pasts : HavePasts c) (before : AreOneself c) where
  abbrev t : Turn
  t = part (begin r)

  pub held-before : IsOneself c.start r.held (greens_of c p)
  held-before = subst (λ (o : Option Replica). IfSome o (λ r. IsOneself c.start r.held (greens_of c p))) (ap life_in node) (before.memory p)

  disk-before : IsOneself c.start disk.content (stood_of c p)
  disk-before = subst (λ (o : Option Held). IfSome o (λ h. IsOneself c.start h (stood_of c p))) (ap disk_in node) (before.disk p)

  greens-now : greens_of (after_turn c p r disk t) p ≡ greens_of c p ++ newly_green r t.replica
  greens-now = at (past_of c p) refl (pasts p ∙ ap is_some node) where
    at : (o : Option Past) → past_of c p ≡ o → is_some o ≡ true → greens_of (after_turn c p r disk t) p ≡ greens_of c p ++ newly_green r t.replica
    at None e some = absurd (let clash : false ≡ true = some in cc)
    at (Some x) e some = greens_of-own c p r disk t x e

  pub turn-oneself : Grows c.start r.held t.replica.held (greens_of c p) → AreOneself (after_turn c p r disk t)
  turn-oneself g =
      let new : newly_green r t.replica ≡ g.more = ap (drop (length r.held.queue.greens)) g.kept ∙ drop-front r.held.queue.greens g.more in
      rehosted (IsOneself c.start) c (after_turn c p r disk t) p (Up t.replica disk) (greens_of c p ++ newly_green r t.replica) (stood_of c p)
      (record {
        node = λ q. node_of-set c.world p (Up t.replica disk) q;
        greens = greens-now;
        disk = stood-same c p r disk t p;
        other_greens = λ q apart. greens_of-other c p r disk t q (λ e. apart (sym e));
        other_disks = λ q apart. stood-same c p r disk t q;
      })
      (subst (λ xs. IsOneself c.start t.replica.held (greens_of c p ++ xs)) (sym new) g.is) disk-before before.snapshot before

-- a turn by a part that keeps the facts of the replica whose turn it is
pub turning-grows : (c : Chronicle) (p : ℕ) (part : Turn → Turn) → HavePasts c →
    ((r : Replica) → replica_of c.world p ≡ Some r → IsOneself c.start r.held (greens_of c p) → Grows c.start r.held (part (begin r)).replica.held (greens_of c p)) →
    AreOneself c → AreOneself (turning c p part)
turning-grows c p part pasts grows before = at (node_of c.world p) refl where
  life : (s : Node) (life : NodeState) → s.life ≡ life → s.id ≡ p → node_of c.world p ≡ Some s → AreOneself (turning_as c p part life)
  life s (Up r disk) is id e =
      let node : node_of c.world p ≡ Some (record { id = p; life = Up r disk }) = e ∙ ap₂ (λ i l. Some (record { id = i; life = l })) id is in
      turn-oneself c p r disk part node pasts before (grows r (ap life_in node) (held-before c p r disk part node pasts before))
  life s (Down disk green) is id e = before

  at : (o : Option Node) → node_of c.world p ≡ o → AreOneself (option_map_or (λ s. turning_as c p part s.life) o c)
  at None e = before
  at (Some s) e = life s s.life refl (eqb-true s.id p (found_passes (λ (s : Node). s.id == p) c.world.nodes s e)) e

-- a part that keeps one replica's facts at any time
pub turning-kept : (c : Chronicle) (p : ℕ) (part : Turn → Turn) → HavePasts c → Keeps part → AreOneself c → AreOneself (turning c p part)
turning-kept c p part pasts keeps before = turning-grows c p part pasts (λ r e is. keeps c.start (greens_of c p) (begin r) is) before

-- ---- as the invariant has it

pub oneself-of : (c : Chronicle) → OfCores c (IsCore c) → AreOneself c
oneself-of c f = record {
  memory = λ p. each (replica_of c.world p) (λ r. r.held) (λ r. greens_of c p) (f.memory p);
  disk = λ p. each (disk_held c.world p) (λ h. h) (λ h. stood_of c p) (f.disk p);
  snapshot = λ joiner. each (snapshot_of c.world joiner) (λ s. (joiner_replica joiner s.content).held) (λ s. copied_for c joiner) (f.snapshot joiner);
}
  where
    each : {X : Type 0} (o : Option X) (h : X → Held) (all : X → List Action) → IfSome o (λ x. IsCore c (h x) (all x)) → IfSome o (λ x. IsOneself c.start (h x) (all x))
    each None h all is = tt
    each (Some x) h all is = record { made_of = is.made_of; contiguous = is.contiguous; yellow_closed = is.yellow_closed }

pub cores-of : (c : Chronicle) → AreOneself c → OfCores c (IsCore c)
cores-of c f = record {
  memory = λ p. each (replica_of c.world p) (λ r. r.held) (λ r. greens_of c p) (f.memory p);
  disk = λ p. each (disk_held c.world p) (λ h. h) (λ h. stood_of c p) (f.disk p);
  snapshot = λ joiner. each (snapshot_of c.world joiner) (λ s. (joiner_replica joiner s.content).held) (λ s. copied_for c joiner) (f.snapshot joiner);
}
  where
    each : {X : Type 0} (o : Option X) (h : X → Held) (all : X → List Action) → IfSome o (λ x. IsOneself c.start (h x) (all x)) → IfSome o (λ x. IsCore c (h x) (all x))
    each None h all is = tt
    each (Some x) h all is = record { made_of = is.made_of; contiguous = is.contiguous; yellow_closed = is.yellow_closed }

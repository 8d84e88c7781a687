-- A disk has no greens that its replica hasn't, and of a replica that is down the disk is all: every small step keeps both.
use Rattle.std.proofs.Common.{◌≡◌, ℕ, ◌≢◌, true, false, cond, not, List, [], ◌++◌, Option, Some, None, IfSome, option_map, refl, sym, ap, ◌∙◌, subst, inl, inr, eq-eqb}
use Rattle.std.specs.Prelude.{◌==◌}
use Rattle.std.specs.Option.{option_map_or}
use Rattle.std.proofs.lemmas.Bool.{cases_eq, cond-true, cond-false, ne_eqb, and_parts, not-true}
use Rattle.cg_base.specs.declared.weighted.Weighted.{Weighted}
use Rattle.cg_base.specs.Text.{is_nil}
use Rattle.cg_base.specs.Weights.{ids}
use Rattle.cg_base.specs.OptionLaws.{is_some_false}
use Rattle.cg_action.specs.declared.action.Action.{Action}
use Rattle.cg_members.specs.Servers.{is_server}
use Rattle.cg_client.specs.Replica.{Held, Replica}
use Rattle.cg_client.specs.Turn.{Turn, begin}
use Rattle.cg_client.specs.Requests.{settle}
use Rattle.cg_disk_records.specs.Stored.{stored_of, whiten}
use Rattle.cg_disk_records.specs.Crash.{Disk, new_disk, at_rest, recovered, disk_recovered}
use Rattle.cg_model.specs.World.{NodeState, Up, Down, Node, running, node_of, replica_of, has_begun}
use Rattle.cg_model.specs.Step.{joiner_replica, without_snapshot}
use Rattle.cg_model.specs.Chronicle.{Chronicle, no_chronicle}
use Rattle.cg_model.specs.Looks.{past_of, greens_of, stood_of, on_disk, snapshot_of, copied_for}
use Rattle.cg_model.specs.Fronts.{Front}
use Rattle.cg_model.specs.FactsReplica.{DiskBehind}
use Rattle.cg_model.specs.FactsNet.{Hosted}
use Rattle.cg_model.specs.Small.{Small, Starts, Makes, Enters, Orders, Receives, Hands, Leaves, Asks, Settles, Commits, Crashes, Recovers, Copies, Joins, written, struck, new_past, newly_green, after_turn, turning, turning_as, commit_as, crash_as, recover_as, copy_as, join_with, start, coming, take_newest, handed_next, take_next, leaving, take_parting, take_request, small_step}
use Rattle.cg_model.specs.Smalls.{may_make, is_set}
use Rattle.cg_agree_lemmas.specs.ChronicleFacts.{node_of-set, greens_of-other, past-begun}
use Rattle.cg_agree_lemmas.specs.FrontFacts.{Front-refl, Front-trans, Front-append}
use Rattle.cg_agree_lemmas.specs.HeldCommit.{recovered-id}
use Rattle.cg_agree_lemmas.specs.OneselfWorld.{HavePasts, Rehosted, stood-same}
use Rattle.cg_agree.proofs.BegunKept.{nothing-before}
use Rattle.cg_agree_lemmas.specs.CoresKept.{node-of, greens-turn, past-here, past-there}
use Rattle.cg_agree_lemmas.specs.CoresSmall.{nothing-green, nothing-stood}
use Rattle.cg_agree_lemmas.specs.Looking.{life_in, greens-in, stood-in, written-greens, written-stood, struck-stood, struck-greens}

-- one replica has another life and other greens
behind-moved : (c d : Chronicle) (p : ℕ) (life : NodeState) (now stood : List Action) → Rehosted c d p life now stood → Front stood now → (running life ≡ None → now ≡ stood) → DiskBehind c → DiskBehind d
behind-moved c d p life now stood at front same old = record {
  behind = λ q. elim (cases_eq p q) [
    | inl this ↦ subst (λ n. Front (stood_of d n) (greens_of d n)) this (subst (λ xs. Front xs (greens_of d p)) (sym at.disk) (subst (Front stood) (sym at.greens) front))
    | inr apart ↦ subst (λ xs. Front xs (greens_of d q)) (sym (at.other_disks q apart)) (subst (Front (stood_of c q)) (sym (at.other_greens q apart)) (old.behind q))
  ];
  down = λ q none. elim (cases_eq p q) [
    | inl this ↦
        ap (greens_of d) (sym this) ∙ at.greens
        ∙ same (sym (ap life_in (at.node p ∙ cond-true (p == p) (Some (record { id = p; life = life })) (node_of c.world p) (eq-eqb p p refl))) ∙ ap (replica_of d.world) this ∙ none)
        ∙ sym at.disk ∙ ap (stood_of d) this
    | inr apart ↦
        at.other_greens q apart
        ∙ old.down q (sym (ap life_in (at.node q ∙ cond-false (p == q) (Some (record { id = p; life = life })) (node_of c.world q) (ne_eqb p q apart))) ∙ none)
        ∙ sym (at.other_disks q apart)
  ];
}

never-none : (r : Replica) → Some r ≡ None → {A : Type 0} → A
never-none r e = absurd (let clash : Some r ≡ None = e in cc)

-- ---- turns

behind-turning : (c b : Chronicle) (p : ℕ) (part : Turn → Turn) → HavePasts b → DiskBehind b → DiskBehind (turning b p part)
behind-turning c b p part pasts old = at (node_of b.world p) refl where
  turn : (r : Replica) (disk : Disk) → node_of b.world p ≡ Some (record { id = p; life = Up r disk }) → DiskBehind (after_turn b p r disk (part (begin r)))
  turn r disk node =
      let t = part (begin r) in
      behind-moved b (after_turn b p r disk t) p (Up t.replica disk) (greens_of b p ++ newly_green r t.replica) (stood_of b p)
      (record {
        node = λ q. node_of-set b.world p (Up t.replica disk) q;
        greens = greens-turn b p r disk t pasts node;
        disk = stood-same b p r disk t p;
        other_greens = λ q apart. greens_of-other b p r disk t q (λ e. apart (sym e));
        other_disks = λ q apart. stood-same b p r disk t q;
      })
      (Front-trans (stood_of b p) (greens_of b p) (greens_of b p ++ newly_green r t.replica) (old.behind p) (Front-append (greens_of b p) (newly_green r t.replica)))
      (λ none. never-none t.replica none) old

  life : (s : Node) (life : NodeState) → s.life ≡ life → node_of b.world p ≡ Some s → DiskBehind (turning_as b p part life)
  life s (Up r disk) is e = turn r disk (node-of b p s (Up r disk) is e)
  life s (Down disk green) is e = old

  at : (o : Option Node) → node_of b.world p ≡ o → DiskBehind (option_map_or (λ s. turning_as b p part s.life) o b)
  at None e = old
  at (Some s) e = life s s.life refl e

-- ---- commits, crashes, recoveries

behind-commit : (c : Chronicle) (p : ℕ) (s : Node) → node_of c.world p ≡ Some s → (life : NodeState) → s.life ≡ life → DiskBehind c → DiskBehind (commit_as c p life)
behind-commit c p s e (Down disk green) is old = old
behind-commit c p s e (Up r disk) is old =
    behind-moved c (commit_as c p (Up r disk)) p (Up (record r { held = whiten r.held }) (record disk { content = stored_of (whiten r.held) })) (greens_of c p) (greens_of c p)
    (record {
      node = λ q. node_of-set c.world p (Up (record r { held = whiten r.held }) (record disk { content = stored_of (whiten r.held) })) q;
      greens = ap greens-in (past-here written (λ x. refl) c p) ∙ written-greens (past_of c p);
      disk = ap stood-in (past-here written (λ x. refl) c p) ∙ written-stood (past_of c p);
      other_greens = λ q apart. ap greens-in (past-there written (λ x. refl) c p q apart);
      other_disks = λ q apart. ap stood-in (past-there written (λ x. refl) c p q apart);
    }) (Front-refl (greens_of c p)) (λ none. refl) old

behind-crash : (c : Chronicle) (p : ℕ) (s : Node) → node_of c.world p ≡ Some s → (life : NodeState) → s.life ≡ life → DiskBehind c → DiskBehind (crash_as c p life)
behind-crash c p s e (Down disk green) is old = old
behind-crash c p s e (Up r disk) is old =
    behind-moved c (crash_as c p (Up r disk)) p (Down (at_rest disk) []) (stood_of c p) (stood_of c p)
    (record {
      node = λ q. node_of-set c.world p (Down (at_rest disk) []) q;
      greens = ap greens-in (past-here struck (λ x. refl) c p) ∙ struck-greens (past_of c p);
      disk = ap stood-in (past-here struck (λ x. refl) c p) ∙ struck-stood (past_of c p);
      other_greens = λ q apart. ap greens-in (past-there struck (λ x. refl) c p q apart);
      other_disks = λ q apart. ap stood-in (past-there struck (λ x. refl) c p q apart);
    }) (Front-refl (stood_of c p)) (λ none. refl) old

behind-recover : (c : Chronicle) (p : ℕ) → Hosted c → (s : Node) → node_of c.world p ≡ Some s → (life : NodeState) → s.life ≡ life → DiskBehind c → DiskBehind (recover_as c life)
behind-recover c p hosted s e (Up r disk) is old = old
behind-recover c p hosted s e (Down disk green) is old =
    let node = node-of c p s (Down disk green) is e in
    let own : disk.content.id ≡ p = subst (λ (o : Option Held). IfSome o (λ h. h.id ≡ p)) (ap (λ (o : Option Node). option_map (λ s. on_disk s.life) o) node) (hosted.disk p) in
    behind-moved c (recover_as c (Down disk green)) p (Up (recovered disk) (disk_recovered disk)) (greens_of c p) (stood_of c p)
    (record {
      node = λ q. node_of-set c.world (recovered disk).held.id (Up (recovered disk) (disk_recovered disk)) q
          ∙ ap (λ n. cond (n == q) (Some (record { id = n; life = Up (recovered disk) (disk_recovered disk) })) (node_of c.world q)) (recovered-id disk.content ∙ own);
      greens = refl;
      disk = refl;
      other_greens = λ q apart. refl;
      other_disks = λ q apart. refl;
    }) (old.behind p) (λ none. never-none (recovered disk) none) old

-- ---- joiners

behind-join : (c : Chronicle) (joiner : ℕ) → past_of c joiner ≡ None → (content : Held) → DiskBehind c → DiskBehind (join_with c joiner content)
behind-join c joiner absent content old =
    behind-moved c (join_with c joiner content) joiner (Up (joiner_replica joiner content) (new_disk (joiner_replica joiner content).held)) (copied_for c joiner) (copied_for c joiner)
    (record {
      node = λ q. node_of-set (without_snapshot c.world joiner) joiner (Up (joiner_replica joiner content) (new_disk (joiner_replica joiner content).held)) q;
      greens = ap greens-in last;
      disk = ap stood-in last;
      other_greens = λ q apart. ap greens-in (other q apart);
      other_disks = λ q apart. ap stood-in (other q apart);
    }) (Front-refl (copied_for c joiner)) (λ none. refl) old
  where
    last : past_of (join_with c joiner content) joiner ≡ Some (new_past (copied_for c joiner) joiner)
    last = past-begun c.pasts (new_past (copied_for c joiner) joiner) joiner absent ∙ cond-true (joiner == joiner) (Some (new_past (copied_for c joiner) joiner)) (past_of c joiner) (eq-eqb joiner joiner refl)

    other : (q : ℕ) → joiner ≢ q → past_of (join_with c joiner content) q ≡ past_of c q
    other q apart = past-begun c.pasts (new_past (copied_for c joiner) joiner) q absent ∙ cond-false (joiner == q) (Some (new_past (copied_for c joiner) joiner)) (past_of c q) (ne_eqb joiner q apart)

-- ---- each small step

behind-some : {X : Type 0} (o : Option X) (change : X → Chronicle) (c : Chronicle) → ((x : X) → o ≡ Some x → DiskBehind (change x)) → DiskBehind c → DiskBehind (option_map_or change o c)
behind-some None change c each old = old
behind-some (Some x) change c each old = each x refl

started-behind : (set : List Weighted) → DiskBehind (start no_chronicle set)
started-behind set = record {
  behind = λ q. subst (λ xs. Front xs (greens_of (start no_chronicle set) q)) (sym (nothing-stood (ids set) q)) tt;
  down = λ q none. nothing-green (ids set) q ∙ sym (nothing-stood (ids set) q);
}

-- A disk is behind its replica, behind each small step.
pub disk_behind-kept : (c : Chronicle) (s : Small) → Hosted c → may_make c s ≡ true → DiskBehind c → DiskBehind (small_step c s)
unfolding small_step may_make
disk_behind-kept c (Starts set) hosted may old =
    subst (λ (x : Chronicle). DiskBehind (start x set)) (sym (nothing-before c hosted (and_parts (is_nil c.world.nodes) (is_set (ids set)) may).0)) (started-behind set)
disk_behind-kept c (Makes _) hosted may old = record { behind = old.behind; down = old.down }
disk_behind-kept c (Enters p) hosted may old = behind-turning c (coming c p) p (take_newest c.world.group) hosted.past (record { behind = old.behind; down = old.down })
disk_behind-kept c (Orders p) hosted may old = record { behind = old.behind; down = old.down }
disk_behind-kept c (Receives p place) hosted may old = record { behind = old.behind; down = old.down }
disk_behind-kept c (Hands p) hosted may old = behind-turning c (handed_next c p) p (take_next c.world.group p) hosted.past (record { behind = old.behind; down = old.down })
disk_behind-kept c (Leaves p set own places) hosted may old = behind-turning c (leaving c p set own) p (take_parting c.world.group p set places) hosted.past (record { behind = old.behind; down = old.down })
disk_behind-kept c (Asks p kind) hosted may old = behind-turning c c p (take_request kind) hosted.past old
disk_behind-kept c (Settles p) hosted may old = behind-turning c c p settle hosted.past old
disk_behind-kept c (Commits p) hosted may old = behind-some (node_of c.world p) (λ s. commit_as c p s.life) c (λ s e. behind-commit c p s e s.life refl old) old
disk_behind-kept c (Crashes p) hosted may old = behind-some (node_of c.world p) (λ s. crash_as c p s.life) c (λ s e. behind-crash c p s e s.life refl old) old
disk_behind-kept c (Recovers p) hosted may old = behind-some (node_of c.world p) (λ s. recover_as c s.life) c (λ s e. behind-recover c p hosted s e s.life refl old) old
disk_behind-kept c (Copies p joiner) hosted may old = behind-some (replica_of c.world p) (copy_as c p joiner) c (λ r e. record { behind = old.behind; down = old.down }) old
disk_behind-kept c (Joins joiner) hosted may old = behind-some (snapshot_of c.world joiner) (λ s. join_with c joiner s.content) c (λ s e. behind-join c joiner
    (is_some_false (past_of c joiner) (hosted.past joiner
    ∙ not-true (has_begun c.world joiner) (and_parts (not (has_begun c.world joiner)) (option_map_or (λ s. is_server s.content.members joiner) (snapshot_of c.world joiner) false) may).0)) s.content old) old

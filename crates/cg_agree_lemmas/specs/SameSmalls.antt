-- A small step leads from two worlds that are one for the facts to two that are; and it may be made in both or in neither.
use Rattle.std.proofs.Common.{◌≡◌, ℕ, true, suc, Bool, false, cond, not, ◌&&◌, List, [], ◌∷◌, Option, Some, None, map, filter, find, fold, refl, sym, ap, ap₂, ◌∙◌, ⊎_elim, subst, is_some, option_and_then, option_map, inl, inr}
use Rattle.std.specs.Prelude.{◌==◌}
use Rattle.std.specs.Option.{option_map_or}
use Rattle.std.specs.List.{list_all}
use Rattle.std.proofs.lemmas.Bool.{cases_eq, cases_Bool, cond-true, cond-false}
use Rattle.cg_base.specs.declared.action_id.ActionId.{ActionId}
use Rattle.cg_base.specs.declared.weighted.Weighted.{Weighted}
use Rattle.cg_base.specs.Sets.{has, with_member}
use Rattle.cg_base.specs.Text.{is_nil}
use Rattle.cg_base.specs.Weights.{ids}
use Rattle.cg_members.specs.Servers.{is_server}
use Rattle.cg_wire.specs.declared.message.Msg.{Msg}
use Rattle.cg_group.specs.State.{GroupState, configuration, is_regular, delivered_to}
use Rattle.cg_group.specs.Events.{send_all, order, receive, with_delivered, become_regular, come_up}
use Rattle.cg_client.specs.Replica.{Held, Replica, fresh}
use Rattle.cg_client.specs.Turn.{Turn, begin}
use Rattle.cg_client.specs.Requests.{settle}
use Rattle.cg_disk_records.specs.Stored.{stored_of, whiten, recovery_turn}
use Rattle.cg_disk_records.specs.Crash.{Disk, new_disk, at_rest, recovered, disk_recovered}
use Rattle.cg_model.specs.World.{NodeState, Up, Down, Node, TransferState, World, running, node_of, replica_of, is_left_state, has_begun, set_life, bring_up, bring_down}
use Rattle.cg_model.specs.Step.{begin_replica, name_also, joiner_replica, without_snapshot}
use Rattle.cg_model.specs.Looks.{on_disk, disk_held, snapshot_of}
use Rattle.cg_model.specs.Small.{Small, Starts, Makes, Enters, Orders, Receives, Hands, Leaves, Asks, Settles, Commits, Crashes, Recovers, Copies, Joins, newest_conf, make_configuration, become_past, take_newest, take_next, take_parting, take_request}
use Rattle.cg_model.specs.Smalls.{is_set, is_between, may_make}
use Rattle.cg_model.specs.Played.{IsSame, GivenSnapshot, given_for}
use Rattle.cg_agree_lemmas.specs.NodeFacts.{ids-hosted, running-set, disk-set}
use Rattle.cg_agree_lemmas.specs.TurnWorlds.{hosted, up_node, turn-first}
use Rattle.cg_agree_lemmas.specs.EventTurns.{is-up}
use Rattle.cg_agree_lemmas.specs.MadeTransfer.{others-none, others-other}
use Rattle.cg_agree_lemmas.specs.SmallWorlds.{grouped, turned_in, turning_in, commit_in, crash_in, recover_in, copy_in, join_in, small_in, may_in, played_in, MayIn}

abbrev pub as_given : TransferState → GivenSnapshot
as_given s = record { joiner = s.joiner; giver = s.giver; content = s.content }

-- what two worlds share beside the group
pub record IsShared (w v : World) : Type 0 where
  pub nodes : map (λ s. s.id) w.nodes ≡ map (λ s. s.id) v.nodes
  pub running : (p : ℕ) → replica_of w p ≡ replica_of v p
  pub disk : (p : ℕ) → disk_held w p ≡ disk_held v p
  pub given : (joiner : ℕ) → given_for w joiner ≡ given_for v joiner

pub same-with : (w v : World) (g h : GroupState Msg) → g ≡ h → IsShared w v → IsSame (grouped w g) (grouped v h)
same-with w v g h e is = record { group = e; nodes = is.nodes; running = is.running; disk = is.disk; given = is.given }

-- ---- two worlds that are one

pub same-back : (w v : World) → IsSame w v → IsSame v w
same-back w v a = record { group = sym a.group; nodes = sym a.nodes; running = λ p. sym (a.running p); disk = λ p. sym (a.disk p); given = λ joiner. sym (a.given joiner) }

pub same-then : (w v u : World) → IsSame w v → IsSame v u → IsSame w u
same-then w v u a b = record {
  group = a.group ∙ b.group;
  nodes = a.nodes ∙ b.nodes;
  running = λ p. a.running p ∙ b.running p;
  disk = λ p. a.disk p ∙ b.disk p;
  given = λ joiner. a.given joiner ∙ b.given joiner;
}

-- ---- one life changes in both

module _ (w v : World) (is : IsShared w v) where
  pub shared-set : (p : ℕ) (a b : NodeState) → running a ≡ running b → on_disk a ≡ on_disk b → IsShared (set_life w p a) (set_life v p b)
  shared-set p a b runs content = record {
    nodes = ids-hosted w.nodes (record { id = p; life = a }) ∙ ap (λ set. with_member set p) is.nodes ∙ sym (ids-hosted v.nodes (record { id = p; life = b }));
    running = λ q. running-set w p a q ∙ ap₂ (λ o x. cond (p == q) o x) runs (is.running q) ∙ sym (running-set v p b q);
    disk = λ q. disk-set w p a q ∙ ap₂ (λ h x. cond (p == q) (Some h) x) content (is.disk q) ∙ sym (disk-set v p b q);
    given = is.given;
  }

  -- a replica that is up in one is up in the other, with a disk of the same content
  pub record AreUp (p : ℕ) (r : Replica) : Type 0 where
    pub first : Disk
    pub second : Disk
    pub in_first : node_of w p ≡ Some (up_node p r first)
    pub in_second : node_of v p ≡ Some (up_node p r second)
    pub content : first.content ≡ second.content

  pub are-up : (p : ℕ) (r : Replica) → replica_of v p ≡ Some r → AreUp p r
  are-up p r e =
      let a = is-up w p (ap is_some (is.running p ∙ e)) in
      let b = is-up v p (ap is_some e) in
      let of_a : a.replica ≡ r = some-replica a.replica r (sym (ap life_in a.node) ∙ is.running p ∙ e) in
      let of_b : b.replica ≡ r = some-replica b.replica r (sym (ap life_in b.node) ∙ e) in
      record {
        first = a.disk;
        second = b.disk;
        in_first = a.node ∙ ap (λ r. Some (up_node p r a.disk)) of_a;
        in_second = b.node ∙ ap (λ r. Some (up_node p r b.disk)) of_b;
        content = some-held a.disk.content b.disk.content (sym (ap disk_in a.node) ∙ is.disk p ∙ ap disk_in b.node);
      } where
        life_in : Option Node → Option Replica
        life_in o = option_and_then (λ s. running s.life) o

        disk_in : Option Node → Option Held
        disk_in o = option_map (λ s. on_disk s.life) o

        some-replica : (x y : Replica) → Some x ≡ Some y → x ≡ y
        some-replica x y e = ap (λ o. option_map_or (λ z. z) o x) e

        some-held : (x y : Held) → Some x ≡ Some y → x ≡ y
        some-held x y e = ap (λ o. option_map_or (λ z. z) o x) e

  -- a replica that isn't up takes no turn
  none-turns : (x : World) (g : GroupState Msg) (p : ℕ) (part : Turn → Turn) → replica_of x p ≡ None → turning_in (grouped x g) p part ≡ grouped x g
  none-turns x g p part e = at (node_of x p) refl where
    life : (s : Node) → node_of x p ≡ Some s → (l : NodeState) → s.life ≡ l → turned_in (grouped x g) p part l ≡ grouped x g
    life s f (Down disk green) is = refl
    life s f (Up r disk) is = absurd (let clash : Some r ≡ None = sym (ap (λ (o : Option Node). option_and_then (λ s. running s.life) o) f ∙ ap running is) ∙ e in cc)

    at : (o : Option Node) → node_of x p ≡ o → option_map_or (λ s. turned_in (grouped x g) p part s.life) o (grouped x g) ≡ grouped x g
    at None f = refl
    at (Some s) f = life s f s.life refl

  pub turning-same : (g : GroupState Msg) (p : ℕ) (part : Turn → Turn) → IsSame (turning_in (grouped w g) p part) (turning_in (grouped v g) p part)
  turning-same g p part = at (replica_of v p) refl where
    at : (o : Option Replica) → replica_of v p ≡ o → IsSame (turning_in (grouped w g) p part) (turning_in (grouped v g) p part)
    at None e = subst (λ x. IsSame x (turning_in (grouped v g) p part)) (sym (none-turns w g p part (is.running p ∙ e)))
        (subst (IsSame (grouped w g)) (sym (none-turns v g p part e)) (same-with w v g g refl is))
    at (Some r) e =
        let ups = are-up p r e in
        let u = part (begin r) in
        subst (λ x. IsSame x (turning_in (grouped v g) p part)) (sym (turn-first w g p r ups.first part ups.in_first))
        (subst (IsSame (hosted w p u.replica ups.first (send_all g p u.sent))) (sym (turn-first v g p r ups.second part ups.in_second))
        (same-with (set_life w p (Up u.replica ups.first)) (set_life v p (Up u.replica ups.second)) (send_all g p u.sent) (send_all g p u.sent) refl
        (shared-set p (Up u.replica ups.first) (Up u.replica ups.second) refl ups.content)))

  pub shared-up : (r : Replica) (a b : Disk) → a.content ≡ b.content → (g : GroupState Msg) → IsSame (bring_up (grouped w g) r a) (bring_up (grouped v g) r b)
  shared-up r a b content g =
      same-with (set_life w r.held.id (Up r a)) (set_life v r.held.id (Up r b)) (come_up g r.held.id) (come_up g r.held.id) refl (shared-set r.held.id (Up r a) (Up r b) refl content)

-- ---- snapshots

-- those of others, joiner by joiner
filter-swap : {X : Type 0} (t u : X → Bool) (xs : List X) → filter t (filter u xs) ≡ filter u (filter t xs)
filter-swap t u [] = refl
filter-swap t u (x ∷ xs) = ⊎_elim
    (λ a. ⊎_elim
    (λ b. ap (filter t) (cond-true (u x) (x ∷ filter u xs) (filter u xs) b) ∙ cond-true (t x) (x ∷ filter t (filter u xs)) (filter t (filter u xs)) a ∙ ap (λ zs. x ∷ zs) (filter-swap t u xs)
    ∙ sym (ap (filter u) (cond-true (t x) (x ∷ filter t xs) (filter t xs) a) ∙ cond-true (u x) (x ∷ filter u (filter t xs)) (filter u (filter t xs)) b))
    (λ b. ap (filter t) (cond-false (u x) (x ∷ filter u xs) (filter u xs) b) ∙ filter-swap t u xs
    ∙ sym (ap (filter u) (cond-true (t x) (x ∷ filter t xs) (filter t xs) a) ∙ cond-false (u x) (x ∷ filter u (filter t xs)) (filter u (filter t xs)) b))
    (cases_Bool (u x)))
    (λ a. ⊎_elim
    (λ b. ap (filter t) (cond-true (u x) (x ∷ filter u xs) (filter u xs) b) ∙ cond-false (t x) (x ∷ filter t (filter u xs)) (filter t (filter u xs)) a ∙ filter-swap t u xs
    ∙ sym (ap (filter u) (cond-false (t x) (x ∷ filter t xs) (filter t xs) a)))
    (λ b. ap (filter t) (cond-false (u x) (x ∷ filter u xs) (filter u xs) b) ∙ filter-swap t u xs
    ∙ sym (ap (filter u) (cond-false (t x) (x ∷ filter t xs) (filter t xs) a)))
    (cases_Bool (u x)))
    (cases_Bool (t x))

filter-given : (p : ℕ) (xs : List TransferState) → map as_given (filter (λ s. not (s.giver == p)) xs) ≡ filter (λ x. not (x.giver == p)) (map as_given xs)
filter-given p [] = refl
filter-given p (s ∷ xs) = ⊎_elim
    (λ y. ap (map as_given) (cond-true (not (s.giver == p)) (s ∷ filter (λ s. not (s.giver == p)) xs) (filter (λ s. not (s.giver == p)) xs) y) ∙ ap (λ zs. as_given s ∷ zs) (filter-given p xs)
    ∙ sym (cond-true (not (s.giver == p)) (as_given s ∷ filter (λ x. not (x.giver == p)) (map as_given xs)) (filter (λ x. not (x.giver == p)) (map as_given xs)) y))
    (λ n. ap (map as_given) (cond-false (not (s.giver == p)) (s ∷ filter (λ s. not (s.giver == p)) xs) (filter (λ s. not (s.giver == p)) xs) n) ∙ filter-given p xs
    ∙ sym (cond-false (not (s.giver == p)) (as_given s ∷ filter (λ x. not (x.giver == p)) (map as_given xs)) (filter (λ x. not (x.giver == p)) (map as_given xs)) n))
    (cases_Bool (not (s.giver == p)))

module _ (xs ys : List TransferState) (same : (j : ℕ) → map as_given (filter (λ s. s.joiner == j) xs) ≡ map as_given (filter (λ s. s.joiner == j) ys)) where
  given-gone : (p j : ℕ) → map as_given (filter (λ s. s.joiner == j) (filter (λ s. not (s.giver == p)) xs)) ≡ map as_given (filter (λ s. s.joiner == j) (filter (λ s. not (s.giver == p)) ys))
  given-gone p j =
      ap (map as_given) (filter-swap (λ s. s.joiner == j) (λ s. not (s.giver == p)) xs) ∙ filter-given p (filter (λ s. s.joiner == j) xs) ∙ ap (filter (λ (x : GivenSnapshot). not (x.giver == p))) (same j)
      ∙ sym (ap (map as_given) (filter-swap (λ s. s.joiner == j) (λ s. not (s.giver == p)) ys) ∙ filter-given p (filter (λ s. s.joiner == j) ys))

  given-without : (joiner j : ℕ) → map as_given (filter (λ s. s.joiner == j) (filter (λ s. not (s.joiner == joiner)) xs)) ≡ map as_given (filter (λ s. s.joiner == j) (filter (λ s. not (s.joiner == joiner)) ys))
  given-without joiner j = elim (cases_eq j joiner) [
    | inl here ↦ subst (λ n. map as_given (filter (λ s. s.joiner == n) (filter (λ s. not (s.joiner == joiner)) xs)) ≡ map as_given (filter (λ s. s.joiner == n) (filter (λ s. not (s.joiner == joiner)) ys))) (sym here)
        (ap (map as_given) (others-none (λ (s : TransferState). s.joiner) joiner xs ∙ sym (others-none (λ (s : TransferState). s.joiner) joiner ys)))
    | inr apart ↦ ap (map as_given) (others-other (λ (s : TransferState). s.joiner) joiner j apart xs) ∙ same j ∙ sym (ap (map as_given) (others-other (λ (s : TransferState). s.joiner) joiner j apart ys))
  ]

  -- the snapshot of a joiner
  pub first-given : (j : ℕ) → option_map as_given (find (λ s. s.joiner == j) xs) ≡ option_map as_given (find (λ s. s.joiner == j) ys)
  first-given j = sym (head-is xs) ∙ ap head_of (same j) ∙ head-is ys where
    head_of : List GivenSnapshot → Option GivenSnapshot
    head_of [] = None
    head_of (x ∷ list) = Some x

    head-is : (list : List TransferState) → head_of (map as_given (filter (λ s. s.joiner == j) list)) ≡ option_map as_given (find (λ s. s.joiner == j) list)
    head-is [] = refl
    head-is (s ∷ list) = ⊎_elim (λ y. rw y refl) (λ n. rw n (head-is list)) (cases_Bool (s.joiner == j))

-- ---- each step

-- what is done to a replica that is up changes nothing where it isn't
down-still : (x : World) (g : GroupState Msg) (p : ℕ) (f : NodeState → World) → ((disk : Disk) (green : List ActionId) → f (Down disk green) ≡ grouped x g) → replica_of x p ≡ None →
    option_map_or (λ (s : Node). f s.life) (node_of x p) (grouped x g) ≡ grouped x g
down-still x g p f down e = at (node_of x p) refl where
  life : (s : Node) → node_of x p ≡ Some s → (l : NodeState) → s.life ≡ l → f l ≡ grouped x g
  life s found (Down disk green) is = down disk green
  life s found (Up r disk) is = absurd (let clash : Some r ≡ None = sym (ap (λ (o : Option Node). option_and_then (λ s. running s.life) o) found ∙ ap running is) ∙ e in cc)

  at : (o : Option Node) → node_of x p ≡ o → option_map_or (λ (s : Node). f s.life) o (grouped x g) ≡ grouped x g
  at None found = refl
  at (Some s) found = life s found s.life refl

module _ (w v : World) (g : GroupState Msg) (is : IsShared w v) where
  commit-same : (p : ℕ) → IsSame (small_in (grouped w g) (Commits p)) (small_in (grouped v g) (Commits p))
  unfolding small_in
  commit-same p = at (replica_of v p) refl where
    down : (x : World) → replica_of x p ≡ None → option_map_or (λ (s : Node). commit_in (grouped x g) p s.life) (node_of x p) (grouped x g) ≡ grouped x g
    down x e = down-still x g p (λ life. commit_in (grouped x g) p life) (λ disk green. refl) e

    at : (o : Option Replica) → replica_of v p ≡ o → IsSame (option_map_or (λ (s : Node). commit_in (grouped w g) p s.life) (node_of w p) (grouped w g)) (option_map_or (λ (s : Node). commit_in (grouped v g) p s.life) (node_of v p) (grouped v g))
    at None e = rw (down w (is.running p ∙ e), down v e) (same-with w v g g refl is)
    at (Some r) e =
        let ups = are-up w v is p r e in
        let h = whiten r.held in
        let after : Disk → NodeState = λ d. Up (record r { held = h }) (record d { content = stored_of h }) in
        subst (λ (o : Option Node). IsSame (option_map_or (λ (s : Node). commit_in (grouped w g) p s.life) o (grouped w g)) (option_map_or (λ (s : Node). commit_in (grouped v g) p s.life) (node_of v p) (grouped v g))) (sym ups.in_first)
        (subst (λ (o : Option Node). IsSame (set_life (grouped w g) p (after ups.first)) (option_map_or (λ (s : Node). commit_in (grouped v g) p s.life) o (grouped v g))) (sym ups.in_second)
        (same-with (set_life w p (after ups.first)) (set_life v p (after ups.second)) g g refl (shared-set w v is p (after ups.first) (after ups.second) refl refl)))

  crash-same : (p : ℕ) → IsSame (small_in (grouped w g) (Crashes p)) (small_in (grouped v g) (Crashes p))
  unfolding small_in
  crash-same p = at (replica_of v p) refl where
    down : (x : World) → replica_of x p ≡ None → option_map_or (λ (s : Node). crash_in (grouped x g) p s.life) (node_of x p) (grouped x g) ≡ grouped x g
    down x e = down-still x g p (λ life. crash_in (grouped x g) p life) (λ disk green. refl) e

    at : (o : Option Replica) → replica_of v p ≡ o → IsSame (option_map_or (λ (s : Node). crash_in (grouped w g) p s.life) (node_of w p) (grouped w g)) (option_map_or (λ (s : Node). crash_in (grouped v g) p s.life) (node_of v p) (grouped v g))
    at None e = rw (down w (is.running p ∙ e), down v e) (same-with w v g g refl is)
    at (Some r) e =
        let ups = are-up w v is p r e in
        let shared = shared-set w v is p (Down (at_rest ups.first) []) (Down (at_rest ups.second) []) refl ups.content in
        subst (λ (o : Option Node). IsSame (option_map_or (λ (s : Node). crash_in (grouped w g) p s.life) o (grouped w g)) (option_map_or (λ (s : Node). crash_in (grouped v g) p s.life) (node_of v p) (grouped v g))) (sym ups.in_first)
        (subst (λ (o : Option Node). IsSame (bring_down (grouped w g) p (Down (at_rest ups.first) [])) (option_map_or (λ (s : Node). crash_in (grouped v g) p s.life) o (grouped v g))) (sym ups.in_second)
        record { group = refl; nodes = shared.nodes; running = shared.running; disk = shared.disk; given = given-gone w.snapshots v.snapshots is.given p })

  recover-same : (p : ℕ) → IsSame (small_in (grouped w g) (Recovers p)) (small_in (grouped v g) (Recovers p))
  unfolding small_in
  recover-same p = at (node_of w p) (node_of v p) refl refl where
    life-same : (a b : NodeState) → running a ≡ running b → on_disk a ≡ on_disk b → IsSame (recover_in (grouped w g) a) (recover_in (grouped v g) b)
    life-same (Up r a) (Up s b) runs content = same-with w v g g refl is
    life-same (Down a x) (Down b y) runs content =
        let first : recovered a ≡ recovered b = ap (λ h. (recovery_turn h).replica) content in
        subst (λ r. IsSame (bring_up (grouped w g) (recovered a) (disk_recovered a)) (bring_up (grouped v g) r (disk_recovered b))) first
        (shared-up w v is (recovered a) (disk_recovered a) (disk_recovered b) content g)
    life-same (Up r a) (Down b y) runs content = absurd (let clash : Some r ≡ None = runs in cc)
    life-same (Down a x) (Up s b) runs content = absurd (let clash : None ≡ Some s = runs in cc)

    some-held : (x y : Held) → Some x ≡ Some y → x ≡ y
    some-held x y e = ap (λ o. option_map_or (λ z. z) o x) e

    at : (o u : Option Node) → node_of w p ≡ o → node_of v p ≡ u →
        IsSame (option_map_or (λ (s : Node). recover_in (grouped w g) s.life) (node_of w p) (grouped w g)) (option_map_or (λ (s : Node). recover_in (grouped v g) s.life) (node_of v p) (grouped v g))
    at None None e f = rw (e, f) (same-with w v g g refl is)
    at (Some s) (Some t) e f =
        rw (e, f) (life-same s.life t.life
        (sym (ap (λ (o : Option Node). option_and_then (λ s. running s.life) o) e) ∙ is.running p ∙ ap (λ (o : Option Node). option_and_then (λ s. running s.life) o) f)
        (some-held (on_disk s.life) (on_disk t.life) (sym (ap (λ (o : Option Node). option_map (λ s. on_disk s.life) o) e) ∙ is.disk p ∙ ap (λ (o : Option Node). option_map (λ s. on_disk s.life) o) f)))
    at None (Some t) e f = absurd (let clash : None ≡ Some (on_disk t.life) = sym (ap (λ (o : Option Node). option_map (λ s. on_disk s.life) o) e) ∙ is.disk p ∙ ap (λ (o : Option Node). option_map (λ s. on_disk s.life) o) f in cc)
    at (Some s) None e f = absurd (let clash : Some (on_disk s.life) ≡ None = sym (ap (λ (o : Option Node). option_map (λ s. on_disk s.life) o) e) ∙ is.disk p ∙ ap (λ (o : Option Node). option_map (λ s. on_disk s.life) o) f in cc)

  copy-same : (p joiner : ℕ) → IsSame (small_in (grouped w g) (Copies p joiner)) (small_in (grouped v g) (Copies p joiner))
  unfolding small_in
  copy-same p joiner = at (replica_of v p) refl where
    copied : (r : Replica) → IsSame (copy_in (grouped w g) p joiner r) (copy_in (grouped v g) p joiner r)
    copied r = record { group = refl; nodes = is.nodes; running = is.running; disk = is.disk; given = given-copied } where
      new : TransferState
      new = record { joiner = joiner; giver = p; content = r.held; taken = 0 }

      given-copied : (j : ℕ) → map as_given (filter (λ s. s.joiner == j) (new ∷ filter (λ s. not (s.joiner == joiner)) w.snapshots)) ≡ map as_given (filter (λ s. s.joiner == j) (new ∷ filter (λ s. not (s.joiner == joiner)) v.snapshots))
      given-copied j =
          let rest = given-without w.snapshots v.snapshots is.given joiner j in
          ⊎_elim (λ y. rw y (ap (λ zs. as_given new ∷ zs) rest)) (λ n. rw n rest) (cases_Bool (joiner == j))

    at : (o : Option Replica) → replica_of v p ≡ o → IsSame (option_map_or (copy_in (grouped w g) p joiner) (replica_of w p) (grouped w g)) (option_map_or (copy_in (grouped v g) p joiner) (replica_of v p) (grouped v g))
    at None e = rw (is.running p, e) (same-with w v g g refl is)
    at (Some r) e = rw (is.running p, e) (copied r)

  join-same : (joiner : ℕ) → IsSame (small_in (grouped w g) (Joins joiner)) (small_in (grouped v g) (Joins joiner))
  unfolding small_in
  join-same joiner = at (snapshot_of w joiner) (snapshot_of v joiner) refl refl where
    first : option_map as_given (snapshot_of w joiner) ≡ option_map as_given (snapshot_of v joiner)
    first = first-given w.snapshots v.snapshots is.given joiner

    joined-same : (a b : Held) → a ≡ b → IsSame (join_in (grouped w g) joiner a) (join_in (grouped v g) joiner b)
    joined-same a b e =
        let r = joiner_replica joiner a in
        subst (λ h. IsSame (join_in (grouped w g) joiner a) (join_in (grouped v g) joiner h)) e
        (shared-up (without_snapshot w joiner) (without_snapshot v joiner)
        record { nodes = is.nodes; running = is.running; disk = is.disk; given = given-without w.snapshots v.snapshots is.given joiner } r (new_disk r.held) (new_disk r.held) refl g)

    at : (o u : Option TransferState) → snapshot_of w joiner ≡ o → snapshot_of v joiner ≡ u →
        IsSame (option_map_or (λ (s : TransferState). join_in (grouped w g) joiner s.content) (snapshot_of w joiner) (grouped w g)) (option_map_or (λ (s : TransferState). join_in (grouped v g) joiner s.content) (snapshot_of v joiner) (grouped v g))
    at None None e f = rw (e, f) (same-with w v g g refl is)
    at (Some s) (Some t) e f =
        rw (e, f) (joined-same s.content t.content (ap (λ (o : Option GivenSnapshot). option_map_or (λ x. x.content) o s.content) (sym (ap (option_map as_given) e) ∙ first ∙ ap (option_map as_given) f)))
    at None (Some t) e f = absurd (let clash : None ≡ Some (as_given t) = sym (ap (option_map as_given) e) ∙ first ∙ ap (option_map as_given) f in cc)
    at (Some s) None e f = absurd (let clash : Some (as_given s) ≡ None = sym (ap (option_map as_given) e) ∙ first ∙ ap (option_map as_given) f in cc)

-- ---- the start

shared-of : (w v : World) → IsSame w v → IsShared w v
shared-of w v same = record { nodes = same.nodes; running = same.running; disk = same.disk; given = same.given }

begun-same : (set : List Weighted) (ps : List ℕ) (w v : World) → IsSame w v → IsSame (fold (begin_replica set) w ps) (fold (begin_replica set) v ps)
begun-same set [] w v same = same
begun-same set (p ∷ ps) w v same =
    let r = fresh p set in
    let shared = shared-of w v same in
    let one = shared-up (name_also w p) (name_also v p) record { nodes = shared.nodes; running = shared.running; disk = shared.disk; given = shared.given } r (new_disk r.held) (new_disk r.held) refl w.group in
    begun-same set ps (begin_replica set w p) (begin_replica set v p)
    (subst (λ g. IsSame (begin_replica set w p) (bring_up (grouped (name_also v p) g) r (new_disk r.held))) same.group one)

-- ---- all

small-same-at : (w v : World) (g : GroupState Msg) → IsShared w v → (s : Small) → IsSame (small_in (grouped w g) s) (small_in (grouped v g) s)
unfolding small_in
small-same-at w v g is (Starts set) = begun-same set (ids set) (grouped w g) (grouped v g) (same-with w v g g refl is)
small-same-at w v g is (Makes set) = same-with w v (make_configuration g set) (make_configuration g set) refl is
small-same-at w v g is (Enters p) = turning-same w v is (become_regular (newest_conf g) g p) p (take_newest g)
small-same-at w v g is (Orders p) = same-with w v (order g p) (order g p) refl is
small-same-at w v g is (Receives p place) = same-with w v (receive g p place) (receive g p place) refl is
small-same-at w v g is (Hands p) = turning-same w v is (with_delivered g p (suc (delivered_to g p))) p (take_next g p)
small-same-at w v g is (Leaves p set own places) = turning-same w v is (become_past g p set own) p (take_parting g p set places)
small-same-at w v g is (Asks p kind) = turning-same w v is g p (take_request kind)
small-same-at w v g is (Settles p) = turning-same w v is g p settle
small-same-at w v g is (Commits p) = commit-same w v g is p
small-same-at w v g is (Crashes p) = crash-same w v g is p
small-same-at w v g is (Recovers p) = recover-same w v g is p
small-same-at w v g is (Copies p joiner) = copy-same w v g is p joiner
small-same-at w v g is (Joins joiner) = join-same w v g is joiner

-- a small step leads to worlds that are one
pub small-same : (w v : World) (s : Small) → IsSame w v → IsSame (small_in w s) (small_in v s)
small-same w v s same =
    subst (λ g. IsSame (small_in w s) (small_in (grouped v g) s)) same.group (small-same-at w v w.group (shared-of w v same) s)

pub played-same : (smalls : List Small) (w v : World) → IsSame w v → IsSame (played_in w smalls) (played_in v smalls)
played-same [] w v same = same
played-same (s ∷ smalls) w v same = played-same smalls (small_in w s) (small_in v s) (small-same w v s same)

-- ---- and it may be made in both

begun-shared : (w v : World) → IsShared w v → (p : ℕ) → has_begun w p ≡ has_begun v p
begun-shared w v is p = sym (held-begun (node_of w p)) ∙ ap is_some (is.disk p) ∙ held-begun (node_of v p) where
  held-begun : (o : Option Node) → is_some (option_map (λ s. on_disk s.life) o) ≡ is_some o
  held-begun None = refl
  held-begun (Some s) = refl

may-same-at : (w v : World) (g : GroupState Msg) → IsShared w v → (s : Small) → may_in (grouped w g) s ≡ may_in (grouped v g) s
unfolding may_in may_make
may-same-at w v g is (Starts set) = ap (λ b. b && is_set (ids set)) (sym (nil-ids w.nodes) ∙ ap is_nil is.nodes ∙ nil-ids v.nodes) where
  nil-ids : (list : List Node) → is_nil (map (λ (s : Node). s.id) list) ≡ is_nil list
  nil-ids [] = refl
  nil-ids (s ∷ list) = refl
may-same-at w v g is (Makes set) =
    ap (λ (t : ℕ → Bool). not (is_nil set) && is_set set && list_all t set) (λ i p. not (is_regular g p) && option_map_or (λ (r : Replica). is_between r.state) (is.running p i) false)
may-same-at w v g is (Enters p) =
    let conf = newest_conf g in
    ap (λ (o : Option Replica). has (configuration g conf).members p && (not (is_regular g p) && option_map_or (λ r. is_between r.state) o false) && true && is_nil (configuration g conf).ordered) (is.running p)
may-same-at w v g is (Orders p) = refl
may-same-at w v g is (Receives p place) = refl
may-same-at w v g is (Hands p) = refl
may-same-at w v g is (Leaves p set own places) = refl
may-same-at w v g is (Asks p kind) = ap (λ (o : Option Replica). is_some o && not (option_map_or (λ r. is_left_state r.state) o false)) (is.running p)
may-same-at w v g is (Settles p) = ap is_some (is.running p)
may-same-at w v g is (Commits p) = ap is_some (is.running p)
may-same-at w v g is (Crashes p) = ap is_some (is.running p)
may-same-at w v g is (Recovers p) = ap₂ (λ a (o : Option Replica). a && not (is_some o)) (begun-shared w v is p) (is.running p)
may-same-at w v g is (Copies p joiner) = ap₂ (λ a (o : Option Replica). not a && option_map_or (λ r. is_server r.held.members joiner) o false) (begun-shared w v is joiner) (is.running p)
may-same-at w v g is (Joins joiner) =
    ap₂ (λ a b. not a && b) (begun-shared w v is joiner)
    (sym (of-given (snapshot_of w joiner)) ∙ ap (λ (o : Option GivenSnapshot). option_map_or (λ x. is_server x.content.members joiner) o false) (first-given w.snapshots v.snapshots is.given joiner) ∙ of-given (snapshot_of v joiner)) where
      of-given : (o : Option TransferState) → option_map_or (λ (x : GivenSnapshot). is_server x.content.members joiner) (option_map as_given o) false ≡ option_map_or (λ (s : TransferState). is_server s.content.members joiner) o false
      of-given None = refl
      of-given (Some s) = refl

pub may-same : (w v : World) (s : Small) → IsSame w v → may_in w s ≡ may_in v s
may-same w v s same = subst (λ g. may_in w s ≡ may_in (grouped v g) s) same.group (may-same-at w v w.group (shared-of w v same) s)

pub may-all-same : (smalls : List Small) (w v : World) → IsSame w v → MayIn w smalls → MayIn v smalls
may-all-same [] w v same may = tt
may-all-same (s ∷ smalls) w v same may = (sym (may-same w v s same) ∙ may.0, may-all-same smalls (small_in w s) (small_in v s) (small-same w v s same) may.1)

-- The printed order behind an event fits what each replica then has green, where each turn's names come to it.
use Rattle.std.proofs.Common.{◌≡◌, ◌++◌, ◌∷◌, ◌≤◌, ◌∙◌, ◌⊎◌, ◌+◌, IfSome, List, None, Option, Some, ap, append-nil, arith, cond, eq-eqb, fold, inl, inr, length, length-append, map, option_and_then, option_map, refl, subst, sym, true, ℕ, []}
use Rattle.std.proofs.lemmas.Bool.{cases_eq, cond-false, cond-true, ne_eqb}
use Rattle.std.specs.Prelude.{◌==◌}
use Rattle.cg_action.specs.declared.action.Action.{Action}
use Rattle.cg_agree.proofs.CopiesBooked.{greens-on_line}
use Rattle.cg_agree.proofs.CreatorNumbered.{order-on_top}
use Rattle.cg_agree_lemmas.specs.DiskEnds.{end-shown}
use Rattle.cg_agree_lemmas.specs.FrontFacts.{Front-map, Front-of_both, Front-refl, Front-trans}
use Rattle.cg_agree_lemmas.specs.GreensTold.{step-noted}
use Rattle.cg_agree_lemmas.specs.OrderGrows.{Adds, EndAdds, EndShows, IsOrder, LifeAdds, NodeAdds, NodeShows, extends, hand-grows, hands-grow}
use Rattle.cg_agree.proofs.OrderOnTop.{on_top-along}
use Rattle.cg_agree_lemmas.specs.SameSmalls.{played-same}
use Rattle.cg_agree_lemmas.specs.NodeFacts.{node-id}
use Rattle.cg_agree_lemmas.specs.SmallWorlds.{played-world}
use Rattle.cg_agree_lemmas.specs.TurnGreens.{IsBetween, facts-along, greens-along, greens-stay, made-first, memory-count, noted-runs, noted-stands, played-both}
use Rattle.cg_agree_lemmas.specs.TurnWorlds.{life_at, up_node}
use Rattle.cg_agree_lemmas.specs.TurnsReached.{IsReached, LifeReached, NodeReached}
use Rattle.cg_agree_lemmas.specs.WorldTurns.{EndsSo, IsBehind, alone-ends, from-same, hand-behind, handed-behind, handed-ends}
use Rattle.cg_agree_lemmas.specs.DiskSwaps.{IsSwapped}
use Rattle.cg_agree_lemmas.specs.ChronicleFacts.{node_of-set}
use Rattle.cg_model.specs.FactsBooks.{IsToShow, LifeToShow, OrderFits, NodeToShow}
use Rattle.cg_model.specs.Chronicle.{Chronicle}
use Rattle.cg_model.specs.Facts.{Invariant}
use Rattle.cg_model.specs.FactsLists.{IsRising}
use Rattle.cg_model.specs.Fronts.{Front}
use Rattle.cg_model.specs.Levels.{line_at, reached_at}
use Rattle.cg_model.specs.Looks.{disk_held, greens_of, on_disk, stood_of, top_of}
use Rattle.cg_model.specs.Noting.{played}
use Rattle.cg_model.specs.Played.{IsSame, KeptBySmalls, MayBeMade, StandsBeside}
use Rattle.cg_model.specs.Show.{beyond}
use Rattle.cg_model.specs.Small.{Small}
use Rattle.cg_model.specs.Step.{hand, hand_over, quietly}
use Rattle.cg_model.specs.Turns.{stands_as}
use Rattle.cg_model.specs.World.{Down, NodeState, Node, Up, World, replica_of, running, node_of}
use Rattle.cg_base.specs.declared.action_id.ActionId.{ActionId}
use Rattle.cg_client.specs.Replica.{Held, Replica}
use Rattle.cg_client.specs.Turn.{Turn}
use Rattle.cg_base.specs.Lists.{Each}
use Rattle.cg_group.specs.State.{GroupState}
use Rattle.cg_group.specs.declared.delivery.Handed.{Handed}
use Rattle.cg_queue.specs.Queue.{green_count, names_of}
use Rattle.cg_disk_records.specs.Crash.{Disk, EventEnd, at_rest, disk_recovered, end_event, recovered, whitened}
use Rattle.cg_states.specs.ReplicaStep.{Deliveries, Input, replica_step}
use Rattle.cg_disk_records.specs.Stored.{whiten}
use Rattle.cg_wire.specs.declared.message.Msg.{Msg}
use Rattle.cg_queue.specs.NameLaws.{names-count}

abbrev pub NodeStateOrder : List ActionId → List ActionId → NodeState → Type 0
NodeStateOrder order greens (Up r disk) = Front greens order
NodeStateOrder order greens (Down disk green) = IsToShow order green greens

-- who is up has its greens in the order, and who is down has what it will show behind some that are there
abbrev pub NodeOrder : List ActionId → List ActionId → Option Node → Type 0
NodeOrder order greens None = Unit {0}
NodeOrder order greens (Some s) = NodeStateOrder order greens s.life

module _ (kept : KeptBySmalls) (c : Chronicle) (w : World) (stands : StandsBeside c w) (order : OrderFits c w) (smalls : List Small) (may : MayBeMade c smalls)
    (j : Invariant (played c smalls)) (u : World) (same : IsSame u (played c smalls).world) (rest_on : (q : ℕ) → greens_of (played c smalls) q ≡ stood_of (played c smalls) q) where
  abbrev d : Chronicle
  d = played c smalls

  abbrev i : Invariant c
  i = stands.facts

  abbrev line : List ActionId
  line = names_of (line_at d (top_of d))

  abbrev most : ℕ
  most = reached_at d (top_of d)

  abbrev behind_of : ℕ → List ActionId
  behind_of q = names_of (greens_of d q)

  -- the order, which stands behind the event
  pub record IsKept (new : List ActionId) : Type 0 where
    pub on : Front w.order new
    pub fits : IsOrder line most new
    pub nodes : (q : ℕ) → NodeOrder new (behind_of q) (node_of u q)

  pub order-stays : IsOrder line most w.order
  order-stays =
      let is = order-on_top c w stands in
      let on = on_top-along kept smalls c i may is.list is.on_top in
      let count : length w.order ≡ length is.list = ap length is.names ∙ names-count is.list in
      let few = on.count in
      record {
        front = subst (λ (xs : List ActionId). Front xs line) (sym is.names) (Front-map (λ (a : Action). a.id) is.list (line_at d (top_of d)) on.front);
        count = omega arith;
      }

  grow : (q : ℕ) → Front (greens_of c q) (greens_of d q)
  grow q = greens-along kept smalls c i may q

  rest : (q : ℕ) → greens_of c q ≡ stood_of c q
  rest q = stands.rests.replica.disk_agrees.greens q

  module _ (q : ℕ) where
    held-before : (h : Held) → disk_held w q ≡ Some h → disk_held c.world q ≡ Some h
    held-before h e = sym (stands.same.disk q) ∙ e

    held-behind : (h : Held) → disk_held u q ≡ Some h → disk_held d.world q ≡ Some h
    held-behind h e = sym (same.disk q) ∙ e

    -- whose disk has the same has the same greens
    greens-same : (h k : Held) → disk_held w q ≡ Some h → disk_held u q ≡ Some k → green_count k.queue ≡ green_count h.queue → greens_of d q ≡ greens_of c q
    greens-same h k e f count = greens-stay c d i j q (grow q) (rest q) (rest_on q) h k (held-before h e) (held-behind k f) count

    -- who was up had its greens in the order
    had : (r : Replica) → replica_of w q ≡ Some r → Front (names_of (greens_of c q)) w.order
    had r e = subst (λ (o : Option Replica). IfSome o (λ r. Front (names_of (greens_of c q)) w.order)) e (order.book.up q)

    disk-of : (v : World) (s : Node) → node_of v q ≡ Some s → disk_held v q ≡ Some (on_disk s.life)
    disk-of v s e = ap (λ (o : Option Node). option_map (λ s. on_disk s.life) o) e

    running-of : (v : World) (s : Node) → node_of v q ≡ Some s → replica_of v q ≡ running s.life
    running-of v s e = ap (λ (o : Option Node). option_and_then (λ s. running s.life) o) e

    -- ---- its node stays

    module _ (new : List ActionId) (on : Front w.order new) where
      up-stays : (r : Replica) (h k : Held) → replica_of w q ≡ Some r → disk_held w q ≡ Some h → disk_held u q ≡ Some k → green_count k.queue ≡ green_count h.queue → Front (behind_of q) new
      up-stays r h k up e f count =
          subst (λ (xs : List Action). Front (names_of xs) new) (sym (greens-same h k e f count)) (Front-trans (names_of (greens_of c q)) w.order new (had r up) on)

      -- who goes down without its event has nothing to show
      falls-back : (r : Replica) (h k : Held) → replica_of w q ≡ Some r → disk_held w q ≡ Some h → disk_held u q ≡ Some k → green_count k.queue ≡ green_count h.queue → IsToShow new [] (behind_of q)
      falls-back r h k up e f count = record { shown = behind_of q; all = sym (append-nil (behind_of q)); there = up-stays r h k up e f count }

      node-stays : node_of u q ≡ node_of w q → NodeOrder new (behind_of q) (node_of u q)
      node-stays is = at (node_of w q) refl (order.down q) where
        life : (s : Node) → node_of w q ≡ Some s → (l : NodeState) → s.life ≡ l → LifeToShow w.order (names_of (stood_of c q)) l → NodeStateOrder new (behind_of q) l
        life s e (Up r disk) l show =
            up-stays r (on_disk s.life) (on_disk s.life) (running-of w s e ∙ ap running l) (disk-of w s e) (disk-of u s (is ∙ e)) refl
        life s e (Down disk green) l show =
            let stays : names_of (stood_of c q) ≡ behind_of q = ap names_of (sym (rest q) ∙ sym (greens-same (on_disk s.life) (on_disk s.life) (disk-of w s e) (disk-of u s (is ∙ e)) refl)) in
            record { shown = show.shown; all = sym stays ∙ show.all; there = Front-trans show.shown w.order new show.there on }

        at : (o : Option Node) → node_of w q ≡ o → NodeToShow w.order (names_of (stood_of c q)) o → NodeOrder new (behind_of q) (node_of u q)
        at None e show = subst (NodeOrder new (behind_of q)) (sym (is ∙ e)) tt
        at (Some s) e show = subst (NodeOrder new (behind_of q)) (sym (is ∙ e)) (life s e s.life refl show)

    -- ---- it takes a turn

    module _ (r : Replica) (disk : Disk) (input : Input) (node : node_of w q ≡ Some (up_node q r disk)) where
      abbrev t : Turn
      t = replica_step r input

      up : replica_of w q ≡ Some r
      up = running-of w (up_node q r disk) node

      here : replica_of c.world q ≡ Some r
      here = sym (stands.same.running q) ∙ up

      between : IsReached w smalls q t → IsBetween c d q t
      between reached =
          let m = played c reached.opening in
          let may_so : MayBeMade c (reached.opening ++ reached.rest) = subst (MayBeMade c) reached.is may in
          let both = made-first reached.opening reached.rest c may_so in
          let facts = facts-along kept reached.opening c i both.0 in
          let last : d ≡ played m reached.rest = ap (played c) reached.is ∙ played-both reached.opening reached.rest c in
          record {
            chronicle = m;
            facts = facts;
            runs = ap (λ (v : World). replica_of v q) (played-world c reached.opening) ∙ sym ((played-same reached.opening w c.world stands.same).running q) ∙ reached.runs;
            first = greens-along kept reached.opening c i both.0 q;
            last = subst (λ (x : Chronicle). Front (greens_of m q) (greens_of x q)) (sym last) (greens-along kept reached.rest m facts both.1 q);
          }

      -- what it counts
      counts : green_count t.replica.held.queue ≡ length (names_of (greens_of c q)) + length t.green
      counts =
          let noted = step-noted r input in
          let was : green_count r.held.queue ≡ length (greens_of c q) = memory-count c i q r here in
          let white : t.replica.held.queue.white ≡ r.held.queue.white = noted.white in
          let now : length (names_of t.replica.held.queue.greens) ≡ length (names_of r.held.queue.greens) + length t.green = ap length noted.greens ∙ length-append (names_of r.held.queue.greens) t.green in
          let a : length (names_of t.replica.held.queue.greens) ≡ length t.replica.held.queue.greens = names-count t.replica.held.queue.greens in
          let b : length (names_of r.held.queue.greens) ≡ length r.held.queue.greens = names-count r.held.queue.greens in
          let e : length (names_of (greens_of c q)) ≡ length (greens_of c q) = names-count (greens_of c q) in
          omega arith

      adds-so : (x : Replica) → replica_of u q ≡ Some x → (x.held ≡ t.replica.held) ⊎ (x.held ≡ whiten t.replica.held) → IsReached w smalls q t → Adds line most w.order t (behind_of q)
      adds-so x runs is reached =
          let there : replica_of d.world q ≡ Some x = sym (same.running q) ∙ runs in
          let one = subst (λ (o : Option Replica). IfSome o (λ r. Front (greens_of d q) (line_at d (top_of d)) × (length (greens_of d q) ≤ most))) there (j.green.one_order.memory q) in
          let few = one.1 in
          let count : length (behind_of q) ≡ length (greens_of d q) = names-count (greens_of d q) in
          record {
            shown = names_of (greens_of c q);
            is = noted-runs c d i j q (grow q) (rest q) (rest_on q) r t here (step-noted r input) (between reached) x there is;
            count = counts;
            there = had r up;
            fits = record { front = Front-map (λ (a : Action). a.id) (greens_of d q) (line_at d (top_of d)) one.0; count = omega arith };
          }

      abbrev Reaches : EventEnd → Type 0
      Reaches e = stands_as disk.armed e ≡ true → IsReached w smalls q t

      abbrev Comes : EventEnd → Type 0
      Comes e = node_of u q ≡ Some (let s : Node = record { id = q; life = life_at e } in s)

      end-adds : Reaches (end_event disk r.held t) → Comes (end_event disk r.held t) → EndAdds line most w.order t (behind_of q) (end_event disk r.held t)
      end-adds = end-shown disk r.held t (λ e. Reaches e → Comes e → EndAdds line most w.order t (behind_of q) e)
          (λ quiet x content reach comes. adds-so t.replica (running-of u (record { id = q; life = Up t.replica x }) comes) (inl refl) (reach refl))
          (λ does x content reach comes. adds-so (whitened t.replica) (running-of u (record { id = q; life = Up (whitened t.replica) x }) comes) (inr refl) (reach refl))
          (λ stays x content reach comes. tt)
          (λ gone x content reach comes. tt)

      -- behind its turn
      end-order : (new : List ActionId) → Front w.order new → EndShows (behind_of q) new (end_event disk r.held t) → Reaches (end_event disk r.held t) → Comes (end_event disk r.held t) →
          NodeStateOrder new (behind_of q) (life_at (end_event disk r.held t))
      end-order new on = end-shown disk r.held t (λ e. EndShows (behind_of q) new e → Reaches e → Comes e → NodeStateOrder new (behind_of q) (life_at e))
          (λ quiet x content shows reach comes. shows)
          (λ does x content shows reach comes. shows)
          (λ stays x content shows reach comes. record {
            shown = names_of (greens_of c q);
            all = noted-stands c d i j q (grow q) (rest q) (rest_on q) r t here (step-noted r input) (between (reach stays)) x.content
                (held-behind x.content (disk-of u (record { id = q; life = Down x t.green }) comes)) content;
            there = Front-trans (names_of (greens_of c q)) w.order new (had r up) on;
          })
          (λ gone x content shows reach comes. falls-back new on r disk.content x.content up (disk-of w (up_node q r disk) node)
          (disk-of u (record { id = q; life = Down x [] }) comes) (ap (λ (h : Held). green_count h.queue) content))

  -- ---- nodes that take turns

  node-adds : (q : ℕ) (input : Input) → EndsSo w u input q → NodeReached w smalls input q (node_of w q) → NodeAdds line most w.order input (behind_of q) (node_of w q)
  node-adds q input ends = at (node_of w q) refl where
    life : (s : Node) → node_of w q ≡ Some s → (l : NodeState) → s.life ≡ l → LifeReached w smalls input q l → LifeAdds line most w.order input (behind_of q) l
    life s e (Up r disk) is reach =
        let node : node_of w q ≡ Some (up_node q r disk) = e ∙ (λ i. Some (record { id = node-id w q s e i; life = is i })) in
        end-adds q r disk input node reach (ends r disk node)
    life s e (Down disk green) is reach = tt

    at : (o : Option Node) → node_of w q ≡ o → NodeReached w smalls input q o → NodeAdds line most w.order input (behind_of q) o
    at None e reach = tt
    at (Some s) e reach = life s e s.life refl reach

  -- what is known of whose turn it is
  abbrev IsTurn : List ActionId → ℕ → Input → Type 0
  IsTurn new q input = NodeShows input (behind_of q) new (node_of w q) × NodeReached w smalls input q (node_of w q)

  node-behind : (new : List ActionId) → Front w.order new → (q : ℕ) → IsBehind (IsTurn new) w u q → NodeOrder new (behind_of q) (node_of u q)
  node-behind new on q is = elim is [
    | inl stays ↦ node-stays q new on stays
    | inr turn ↦
        let r = turn.replica in
        let disk = turn.disk in
        let shows = subst (NodeShows turn.input (behind_of q) new) turn.before turn.of.0 in
        let reach = subst (NodeReached w smalls turn.input q) turn.before turn.of.1 in
        subst (NodeOrder new (behind_of q)) (sym turn.behind) (end-order q r disk turn.input turn.before new on shows reach turn.behind)
  ]

  -- ---- nobody takes a turn

  pub quiet-kept : ((q : ℕ) → node_of u q ≡ node_of w q) → IsKept w.order
  quiet-kept stays = record { on = Front-refl w.order; fits = order-stays; nodes = λ q. node-stays q w.order (Front-refl w.order) (stays q) }

  -- one node is another, and all others stay
  moved-kept : (new : List ActionId) (p : ℕ) (life : NodeState) → ((q : ℕ) → node_of u q ≡ cond (p == q) (Some (record { id = p; life = life })) (node_of w q)) → Front w.order new → IsOrder line most new →
      NodeStateOrder new (behind_of p) life → IsKept new
  moved-kept new p life node on fits here = record {
    on = on;
    fits = fits;
    nodes = λ q. elim (cases_eq p q) [
      | inl same ↦ subst (λ (x : ℕ). NodeOrder new (behind_of x) (node_of u x)) same
          (subst (NodeOrder new (behind_of p)) (sym (node p ∙ cond-true (p == p) (Some (let s : Node = record { id = p; life = life } in s)) (node_of w p) (eq-eqb p p refl))) here)
      | inr apart ↦ node-stays q new on (node q ∙ cond-false (p == q) (Some (let s : Node = record { id = p; life = life } in s)) (node_of w q) (ne_eqb p q apart))
    ];
  }

  -- a replica goes down between events
  pub stopped-kept : (p : ℕ) (r : Replica) (disk : Disk) → node_of w p ≡ Some (up_node p r disk) →
      ((q : ℕ) → node_of u q ≡ cond (p == q) (Some (record { id = p; life = Down (at_rest disk) [] })) (node_of w q)) → IsKept w.order
  stopped-kept p r disk node is =
      let new : Node = record { id = p; life = Down (at_rest disk) [] } in
      let there = is p ∙ cond-true (p == p) (Some new) (node_of w p) (eq-eqb p p refl) in
      moved-kept w.order p (Down (at_rest disk) []) is (Front-refl w.order) order-stays
      (falls-back p w.order (Front-refl w.order) r disk.content disk.content (running-of p w (up_node p r disk) node) (disk-of p w (up_node p r disk) node) (disk-of p u new there) refl)

  -- a fault is armed
  pub armed-kept : (p : ℕ) (r : Replica) (disk after : Disk) → node_of w p ≡ Some (up_node p r disk) → after.content ≡ disk.content →
      ((q : ℕ) → node_of u q ≡ cond (p == q) (Some (record { id = p; life = Up r after })) (node_of w q)) → IsKept w.order
  armed-kept p r disk after node content is =
      let new : Node = record { id = p; life = Up r after } in
      let there = is p ∙ cond-true (p == p) (Some new) (node_of w p) (eq-eqb p p refl) in
      moved-kept w.order p (Up r after) is (Front-refl w.order) order-stays
      (up-stays p w.order (Front-refl w.order) r disk.content after.content (running-of p w (up_node p r disk) node) (disk-of p w (up_node p r disk) node) (disk-of p u new there)
      (ap (λ (h : Held). green_count h.queue) content))

  -- the disk of a replica that is down is exchanged
  pub swapped-kept : (p : ℕ) → IsSwapped w u p → IsKept w.order
  swapped-kept p is =
      let life : NodeState = Down is.new is.green in
      let old : Node = record { id = p; life = Down is.old is.green } in
      let new : Node = record { id = p; life = life } in
      let node : (q : ℕ) → node_of u q ≡ cond (p == q) (Some new) (node_of w q) = λ q. ap (λ (x : World). node_of x q) is.world ∙ node_of-set w p life q in
      let there = node p ∙ cond-true (p == p) (Some new) (node_of w p) (eq-eqb p p refl) in
      let count : green_count is.new.content.queue ≡ green_count is.old.content.queue = ap (λ (h : Held). green_count h.queue) is.content in
      let stays : names_of (stood_of c p) ≡ behind_of p = ap names_of (sym (rest p) ∙ sym (greens-same p is.old.content is.new.content (disk-of p w old is.node) (disk-of p u new there) count)) in
      let show : IsToShow w.order is.green (names_of (stood_of c p)) = subst (NodeToShow w.order (names_of (stood_of c p))) is.node (order.down p) in
      moved-kept w.order p life node (Front-refl w.order) order-stays (record { shown = show.shown; all = sym stays ∙ show.all; there = show.there })

  -- a joiner begins with no more than stands in the order
  pub joined-kept : (p : ℕ) (r : Replica) (disk : Disk) → ((q : ℕ) → node_of u q ≡ cond (p == q) (Some (record { id = p; life = Up r disk })) (node_of w q)) →
      green_count r.held.queue ≤ length w.order → IsKept w.order
  joined-kept p r disk is few =
      let new : Node = record { id = p; life = Up r disk } in
      let there : replica_of d.world p ≡ Some r = sym (same.running p) ∙ running-of p u new (is p ∙ cond-true (p == p) (Some new) (node_of w p) (eq-eqb p p refl)) in
      let count : green_count r.held.queue ≡ length (greens_of d p) = memory-count d j p r there in
      let names : length (behind_of p) ≡ length (greens_of d p) = names-count (greens_of d p) in
      let front : Front (behind_of p) line = Front-map (λ (a : Action). a.id) (greens_of d p) (line_at d (top_of d)) (greens-on_line d j.green.one_order j.replica.disk_behind j.net.hosted p) in
      moved-kept w.order p (Up r disk) is (Front-refl w.order) order-stays (Front-of_both (behind_of p) w.order line front order-stays.front (omega arith))

  -- a replica comes up, and what it had still to show comes to the order
  pub recovered-kept : (p : ℕ) (disk : Disk) (green : List ActionId) → node_of w p ≡ Some (record { id = p; life = Down disk green }) →
      ((q : ℕ) → node_of u q ≡ cond (p == q) (Some (record { id = p; life = Up (recovered disk) (disk_recovered disk) })) (node_of w q)) →
      IsKept (w.order ++ beyond w.order green (green_count (recovered disk).held.queue))
  recovered-kept p disk green node is =
      let r = recovered disk in
      let old : Node = record { id = p; life = Down disk green } in
      let up : Node = record { id = p; life = Up r (disk_recovered disk) } in
      let there = is p ∙ cond-true (p == p) (Some up) (node_of w p) (eq-eqb p p refl) in
      let runs : replica_of d.world p ≡ Some r = sym (same.running p) ∙ running-of p u up there in
      let stays : behind_of p ≡ names_of (stood_of c p) = ap names_of (greens-same p disk.content disk.content (disk-of p w old node) (disk-of p u up there) refl ∙ rest p) in
      let show : IsToShow w.order green (names_of (stood_of c p)) = subst (NodeToShow w.order (names_of (stood_of c p))) node (order.down p) in
      let all : behind_of p ≡ show.shown ++ green = stays ∙ show.all in
      let one = subst (λ (o : Option Replica). IfSome o (λ r. Front (greens_of d p) (line_at d (top_of d)) × (length (greens_of d p) ≤ most))) runs (j.green.one_order.memory p) in
      let few = one.1 in
      let names : length (behind_of p) ≡ length (greens_of d p) = names-count (greens_of d p) in
      let fits : IsOrder line most (behind_of p) = record { front = Front-map (λ (a : Action). a.id) (greens_of d p) (line_at d (top_of d)) one.0; count = omega arith } in
      let counts : green_count r.held.queue ≡ length show.shown + length green = memory-count d j p r runs ∙ sym names ∙ ap length all ∙ length-append show.shown green in
      let on = extends line most w.order show.shown green (green_count r.held.queue) counts order-stays show.there (subst (IsOrder line most) all fits) in
      let new = w.order ++ beyond w.order green (green_count r.held.queue) in
      moved-kept new p (Up r (disk_recovered disk)) is on.on on.fits (subst (λ (xs : List ActionId). Front xs new) (sym all) on.has)

  -- ---- replicas take their turns

  -- one, from a world with the same nodes and the same order
  pub alone-kept : (v : World) (q : ℕ) (input : Input) → (hand (quietly v) q input).world ≡ u → ((x : ℕ) → node_of v x ≡ node_of w x) → v.order ≡ w.order → NodeReached w smalls input q (node_of w q) → IsKept u.order
  alone-kept v q input is nodes same_order reached =
      let go = quietly v in
      let ends : EndsSo w u input q = subst (λ (x : World). EndsSo w x input q) is (alone-ends w go q input (nodes q)) in
      let adds = subst (NodeAdds line most w.order input (behind_of q)) (sym (nodes q)) (node-adds q input ends reached) in
      let front = subst (Front w.order) (sym same_order) (Front-refl w.order) in
      let grown = hand-grows line most w.order go q input (behind_of q) adds front (subst (IsOrder line most) (sym same_order) order-stays) in
      let on : Front w.order u.order = subst (λ (x : World). Front w.order x.order) is (Front-trans w.order v.order (hand go q input).world.order front grown.0) in
      let shows : NodeShows input (behind_of q) u.order (node_of w q) = subst (λ (x : World). NodeShows input (behind_of q) x.order (node_of w q)) is (subst (NodeShows input (behind_of q) (hand go q input).world.order) (nodes q) grown.2) in
      record {
        on = on;
        fits = subst (λ (x : World). IsOrder line most x.order) is grown.1;
        nodes = λ x. node-behind u.order on x (from-same (IsTurn u.order) w v u x (nodes x)
            (subst (λ (y : World). IsBehind (IsTurn u.order) v y x) is (hand-behind (IsTurn u.order) go q input (shows, reached) x)));
      }

  -- several, each once
  pub listed-kept : (g : GroupState Msg) (list : List (Handed Msg)) → (fold hand_over (quietly (record w { group = g })) list).world ≡ u → IsRising 1 (map (λ h. h.to) list) →
      Each (λ h. NodeReached w smalls (Deliveries h.list) h.to (node_of w h.to)) list → IsKept u.order
  listed-kept g list is rise reached =
      let v : World = record w { group = g } in
      let go = quietly v in
      let end = fold hand_over go list in
      let ends : Each (λ h. EndsSo w u (Deliveries h.list) h.to) list = subst (λ (x : World). Each (λ h. EndsSo w x (Deliveries h.list) h.to) list) is (handed-ends w list go 1 rise (λ q le. refl)) in
      let adds = each-with (λ h. EndsSo w u (Deliveries h.list) h.to) (λ h. NodeReached w smalls (Deliveries h.list) h.to (node_of w h.to)) (λ h. NodeAdds line most w.order (Deliveries h.list) (behind_of h.to) (node_of w h.to))
      (λ h a b. node-adds h.to (Deliveries h.list) a b) list ends reached in
      let grown = hands-grow line most w.order w behind_of list go 1 rise (λ q le. refl) adds (Front-refl w.order) order-stays in
      let on : Front w.order u.order = subst (λ (x : World). Front w.order x.order) is grown.0 in
      let turns = each-with (λ h. NodeShows (Deliveries h.list) (behind_of h.to) end.world.order (node_of w h.to)) (λ h. NodeReached w smalls (Deliveries h.list) h.to (node_of w h.to)) (λ h. IsTurn u.order h.to (Deliveries h.list))
      (λ h a b. (subst (λ (x : World). NodeShows (Deliveries h.list) (behind_of h.to) x.order (node_of w h.to)) is a, b)) list grown.2 reached in
      record {
        on = on;
        fits = subst (λ (x : World). IsOrder line most x.order) is grown.1;
        nodes = λ x. node-behind u.order on x (from-same (IsTurn u.order) w v u x refl
            (subst (λ (y : World). IsBehind (IsTurn u.order) v y x) is (handed-behind (IsTurn u.order) list go 1 rise turns x)));
      }
    where
      each-with : (A B R : Handed Msg → Type 0) → ((h : Handed Msg) → A h → B h → R h) → (list : List (Handed Msg)) → Each A list → Each B list → Each R list
      each-with A B R both [] a b = tt
      each-with A B R both (h ∷ list) a b = (both h a.0 b.0, each-with A B R both list a.1 b.1)

-- A server's line is no higher than its greens, in everybody's books: behind each small step.
use Rattle.std.proofs.Common.{◌≡◌, ℕ, suc, ◌+◌, ◌≤◌, Bool, true, false, cond, ◌||◌, List, [], ◌∷◌, find, fold, map, length, Option, Some, None, IfSome, refl, sym, ap, ◌∙◌, subst, arith, inl, inr, option_and_then, eq-eqb, eqb-true}
use Rattle.std.specs.Prelude.{◌==◌}
use Rattle.std.specs.Option.{option_map_or}
use Rattle.std.proofs.lemmas.Bool.{cond-true, and_parts, or_cases, or_right}
use Rattle.cg_base.specs.Lists.{Each}
use Rattle.cg_base.specs.EachLaws.{Each-append, Each-weaker}
use Rattle.cg_base.specs.declared.weighted.Weighted.{Weighted}
use Rattle.cg_base.specs.Sets.{has}
use Rattle.cg_base.specs.Text.{is_nil}
use Rattle.cg_base.specs.Weights.{ids}
use Rattle.cg_base.specs.ListLaws.{length-dropped}
use Rattle.cg_action.specs.declared.action.Action.{Action}
use Rattle.cg_action.specs.declared.action.Kind.{Kind}
use Rattle.cg_members.specs.Servers.{is_among, was_ever, first_line, starting, members_of}
use Rattle.cg_queue.specs.Queue.{green_count, names_of}
use Rattle.cg_wire.specs.declared.message.Msg.{Msg}
use Rattle.cg_group.specs.declared.delivery.Delivery.{Delivery}
use Rattle.cg_group.specs.declared.delivery.Delivery.TheVariants.{Transitional as TransitionalIn, Regular as RegularIn}
use Rattle.cg_group.specs.State.{configuration, home, delivered_to, regular_in, phase_of}
use Rattle.cg_group.specs.Events.{delivery_at, deliveries_at}
use Rattle.cg_client.specs.Replica.{Held, State, RegPrim, TransPrim, ExchangeStates, ExchangeActions, Construct, No, Un, NonPrim, Left, Replica, fresh, fresh_held}
use Rattle.cg_client.specs.Turn.{Turn, begin}
use Rattle.cg_client.specs.Requests.{is_creating, next_action, create, create_kept, empty_buffer, buffer, settle, request_in, request}
use Rattle.cg_disk_records.specs.Crash.{Disk, new_disk}
use Rattle.cg_model.specs.World.{NodeState, Up, Down, Node, World, running, node_of, replica_of, has_begun}
use Rattle.cg_model.specs.Step.{joiner_replica, name_also, begin_replica}
use Rattle.cg_model.specs.Chronicle.{Chronicle, no_chronicle}
use Rattle.cg_model.specs.Fronts.{Front}
use Rattle.cg_model.specs.Looks.{greens_of, stood_of, disk_held, snapshot_of, copied_for, top_of}
use Rattle.cg_model.specs.Levels.{line_at, reached_at}
use Rattle.cg_model.specs.FactsReplica.{AreBelow, IsLined, LinesBelow, IsCore, IsModeData}
use Rattle.cg_model.specs.FactsGreens.{OneOrder}
use Rattle.cg_model.specs.Facts.{Invariant}
use Rattle.cg_model.specs.Played.{AtRest}
use Rattle.cg_model.specs.Small.{Small, Starts, Makes, Enters, Orders, Receives, Hands, Leaves, Asks, Settles, Commits, Crashes, Recovers, Copies, Joins, small_step, start, turning, turning_as, coming, handed_next, leaving, take_all, take_newest, take_next, take_parting, take_request, newest_conf, commit_as, crash_as, recover_as, copy_as, join_with}
use Rattle.cg_model.specs.Smalls.{may_make, is_set}
use Rattle.cg_agree_lemmas.specs.CoresKept.{node-of}
use Rattle.cg_agree_lemmas.specs.CoresSmall.{start-cores}
use Rattle.cg_agree.proofs.BegunKept.{nothing-before}
use Rattle.cg_agree.proofs.MoreThere.{begun-all, begun-kept}
use Rattle.cg_agree_lemmas.specs.OneSteps.{begun-set}
use Rattle.cg_agree.proofs.NetFactsKept.{hosted-in, members_begun-in}
use Rattle.cg_agree.proofs.DiskBehindKept.{disk_behind-kept}
use Rattle.cg_agree.proofs.LevelsKept.{start-kept}
use Rattle.cg_agree.proofs.CoresMove.{cores-move}
use Rattle.cg_agree_lemmas.specs.TurnRows.{of-deliveries}
use Rattle.cg_agree_lemmas.specs.CreatedKept.{StaysCreated, created-rule, created-first}
use Rattle.cg_agree_lemmas.specs.HeldMarks.{IsOneself}
use Rattle.cg_agree_lemmas.specs.LinesTold.{first-lines}
use Rattle.cg_agree_lemmas.specs.LinesFollow.{FollowsAll, NotStart, follow-kept}
use Rattle.cg_agree_lemmas.specs.LinesMade.{below-each, each-below, lined}
use Rattle.cg_agree_lemmas.specs.BookGrows.{IsNamed}
use Rattle.cg_agree_lemmas.specs.BookedCores.{each-booked, front-each}
use Rattle.cg_agree.proofs.CopiesBooked.{UnbegunMadeNone, greens-on_line, joiners-booked}
use Rattle.cg_agree.proofs.MadeOnceKept.{made_once-kept}
use Rattle.cg_disk_records.specs.Holds.{run_on}
use Rattle.cg_model.specs.RowLaws.{any-deliveries}
use Rattle.cg_agree_lemmas.specs.StepMakes.{IsOwnNow}

-- ---- the actions that a turn makes

record MakesMine (old : Held) (t : Turn) : Type 0 where
  pub id : t.replica.held.id ≡ old.id
  pub count : green_count t.replica.held.queue ≡ green_count old.queue
  pub made : Each (IsOwnNow old) t.made

create-mine : (old : Held) (t : Turn) (kind : Kind) → MakesMine old t → MakesMine old (create t kind)
unfolding create
create-mine old t kind is = record {
  id = is.id;
  count = is.count;
  made = Each-append (IsOwnNow old) t.made (next_action t.replica.held kind ∷ []) is.made ((is.id, is.count), tt);
}

creates-mine : (old : Held) (list : List Kind) (t : Turn) → MakesMine old t → MakesMine old (fold create t list)
creates-mine old [] t is = is
creates-mine old (kind ∷ list) t is = creates-mine old list (create t kind) (create-mine old t kind is)

first-mine : (r : Replica) → MakesMine r.held (begin r)
first-mine r = record { id = refl; count = refl; made = tt }

settle-mine : (r : Replica) → MakesMine r.held (settle (begin r))
unfolding create_kept
settle-mine r = at (is_creating r.state) where
  at : (b : Bool) → MakesMine r.held (cond b (create_kept (begin r)) (begin r))
  at true = creates-mine r.held r.held.buffered (empty_buffer (begin r)) (record { id = refl; count = refl; made = tt })
  at false = first-mine r

ask-mine : (r : Replica) (kind : Kind) → MakesMine r.held (request (begin r) kind)
ask-mine r kind = at r.state where
  made : MakesMine r.held (create (begin r) kind)
  made = create-mine r.held (begin r) kind (first-mine r)

  kept : MakesMine r.held (buffer (begin r) kind)
  kept = record { id = refl; count = refl; made = tt }

  at : (state : State) → MakesMine r.held (request_in state (begin r) kind)
  at RegPrim = made
  at (NonPrim true) = made
  at Left = first-mine r
  at TransPrim = kept
  at (ExchangeStates conf set heard) = kept
  at (ExchangeActions conf heard accepted) = kept
  at (Construct conf heard) = kept
  at (No conf heard) = kept
  at Un = kept
  at (NonPrim false) = kept

-- ---- the lines of all actions

module _ (c : Chronicle) (i : Invariant c) (line : ℕ → ℕ) (high : (q : ℕ) → length (greens_of c q) ≤ line q) where
  abbrev IsLow : Action → Type 0
  IsLow a = a.green_line ≤ line a.id.creator

  low-before : Each IsLow c.book
  low-before = Each-weaker (λ a. a.green_line ≤ length (greens_of c a.id.creator)) IsLow (λ a le. (let up = high a.id.creator in omega arith)) c.book (below-each c c.book i.replica.lines_below.actions)

  module _ (p : ℕ) (r : Replica) (disk : Disk) (node : node_of c.world p ≡ Some (record { id = p; life = Up r disk })) where
    here : replica_of c.world p ≡ Some r
    here = ap (λ (o : Option Node). option_and_then (λ s. running s.life) o) node

    core : IsCore c r.held (greens_of c p)
    core = subst (λ (o : Option Replica). IfSome o (λ r. IsCore c r.held (greens_of c p))) here (i.replica.cores.memory p)

    named : r.held.id ≡ p
    named = (subst (λ (o : Option Replica). IfSome o (IsModeData c p)) here (i.replica.mode_data p)).id

    mine-low : (t : Turn) → MakesMine r.held t → Each IsLow t.made
    mine-low t is = Each-weaker (IsOwnNow r.held) IsLow each t.made is.made where
      each : (a : Action) → IsOwnNow r.held a → a.green_line ≤ line a.id.creator
      each a of =
          let count : green_count r.held.queue ≡ length (greens_of c p) = ap (λ xs. r.held.queue.white + length xs) core.made_of.kept ∙ length-dropped r.held.queue.white (greens_of c p) core.made_of.white in
          let up = high p in
          let green = of.1 in
          subst (λ n. a.green_line ≤ line n) (sym (of.0 ∙ named)) (omega arith)

    takes-low : (list : List (Delivery Msg)) → Each IsLow (take_all list (begin r)).made
    takes-low list =
        let oneself : IsOneself c.start r.held (greens_of c p) = record { made_of = core.made_of; contiguous = core.contiguous; yellow_closed = core.yellow_closed } in
        let now = of-deliveries (StaysCreated r.held) (λ a. Unit {0}) (created-rule r.held) (begin r) list (any-deliveries list) (record { held = created-first c.start r.held (greens_of c p) oneself; made = refl }) in
        subst (Each IsLow) (sym now.made) tt

  low-turning : (b : Chronicle) (p : ℕ) (part : Turn → Turn) → b.world.nodes ≡ c.world.nodes → b.book ≡ c.book →
      ((r : Replica) (disk : Disk) → node_of c.world p ≡ Some (record { id = p; life = Up r disk }) → Each IsLow (part (begin r)).made) → Each IsLow (turning b p part).book
  low-turning b p part nodes book made = at (node_of b.world p) refl where
    same : node_of b.world p ≡ node_of c.world p
    same = ap (λ (list : List Node). find (λ s. s.id == p) list) nodes

    low : Each IsLow b.book
    low = subst (Each IsLow) (sym book) low-before

    life : (s : Node) (l : NodeState) → s.life ≡ l → node_of b.world p ≡ Some s → Each IsLow (turning_as b p part l).book
    life s (Up r disk) is e = Each-append IsLow b.book (part (begin r)).made low (made r disk (sym same ∙ node-of b p s (Up r disk) is e))
    life s (Down disk green) is e = low

    at : (o : Option Node) → node_of b.world p ≡ o → Each IsLow (option_map_or (λ s. turning_as b p part s.life) o b).book
    at None e = low
    at (Some s) e = life s s.life refl e

  low-some : {X : Type 0} (o : Option X) (change : X → Chronicle) → ((x : X) → Each IsLow (change x).book) → Each IsLow (option_map_or change o c).book
  low-some None change each = low-before
  low-some (Some x) change each = each x

  low-commit : (p : ℕ) (l : NodeState) → Each IsLow (commit_as c p l).book
  low-commit p (Up r disk) = low-before
  low-commit p (Down disk green) = low-before

  low-crash : (p : ℕ) (l : NodeState) → Each IsLow (crash_as c p l).book
  low-crash p (Up r disk) = low-before
  low-crash p (Down disk green) = low-before

  low-recover : (l : NodeState) → Each IsLow (recover_as c l).book
  low-recover (Up r disk) = low-before
  low-recover (Down disk green) = low-before

  -- Each action of the book is low behind the step.
  low-kept : (s : Small) → Each IsLow (small_step c s).book
  unfolding small_step
  low-kept (Starts set) = low-before
  low-kept (Makes set) = low-before
  low-kept (Enters p) = low-turning (coming c p) p (take_newest c.world.group) refl refl (λ r disk node. (let conf = newest_conf c.world.group in takes-low p r disk node (RegularIn conf (configuration c.world.group conf).members ∷ [])))
  low-kept (Orders p) = low-before
  low-kept (Receives p place) = low-before
  low-kept (Hands p) = low-turning (handed_next c p) p (take_next c.world.group p) refl refl (λ r disk node. (let g = c.world.group in takes-low p r disk node (delivery_at (home g p) (suc (delivered_to g p)))))
  low-kept (Leaves p set own places) =
      low-turning (leaving c p set own) p (take_parting c.world.group p set places) refl refl
      (λ r disk node. (let g = c.world.group in takes-low p r disk node (TransitionalIn (regular_in (phase_of g p)) set ∷ deliveries_at (home g p) places)))
  low-kept (Asks p kind) = low-turning c p (take_request kind) refl refl (λ r disk node. mine-low p r disk node (request (begin r) kind) (ask-mine r kind))
  low-kept (Settles p) = low-turning c p settle refl refl (λ r disk node. mine-low p r disk node (settle (begin r)) (settle-mine r))
  low-kept (Commits p) = low-some (node_of c.world p) (λ s. commit_as c p s.life) (λ s. low-commit p s.life)
  low-kept (Crashes p) = low-some (node_of c.world p) (λ s. crash_as c p s.life) (λ s. low-crash p s.life)
  low-kept (Recovers p) = low-some (node_of c.world p) (λ s. recover_as c s.life) (λ s. low-recover s.life)
  low-kept (Copies p joiner) = low-some (replica_of c.world p) (copy_as c p joiner) (λ r. low-before)
  low-kept (Joins joiner) = low-some (snapshot_of c.world joiner) (λ s. join_with c joiner s.content) (λ s. low-before)

-- ---- the servers of the start have begun

abbrev pub StartersBegun : Chronicle → Type 0
StartersBegun c = (p : ℕ) → was_ever (starting c.start) p ≡ true → has_begun c.world p ≡ true

begun-each : (set : List Weighted) (list : List ℕ) (w : World) (q : ℕ) → has list q ≡ true → has_begun (fold (begin_replica set) w list) q ≡ true
begun-each set [] w q there = absurd (let clash : false ≡ true = there in cc)
begun-each set (p ∷ list) w q there = elim (or_cases (p == q) (has list q) there) [
  | inl here ↦ begun-all no_chronicle set list (begin_replica set w p) q (first p q here)
  | inr later ↦ begun-each set list (begin_replica set w p) q later
] where
  first : (p q : ℕ) → (p == q) ≡ true → has_begun (begin_replica set w p) q ≡ true
  first p q here =
      begun-set (name_also w p) p (Up (fresh p set) (new_disk (fresh p set).held)) q
      ∙ cond-true (q == p) true (has_begun (name_also w p) q) (eq-eqb q p (sym (eqb-true p q here)))

among-ids : (set : List Weighted) (q : ℕ) → is_among (map first_line set) q ≡ true → has (ids set) q ≡ true
among-ids [] q there = there
among-ids (m ∷ set) q there = elim (or_cases (m.id == q) (is_among (map first_line set) q) there) [
  | inl here ↦ ap (λ b. b || has (ids set) q) here
  | inr later ↦ or_right (m.id == q) (has (ids set) q) (among-ids set q later)
]

starters-later : (c : Chronicle) (s : Small) → Invariant c → may_make c s ≡ true → StartersBegun c → (small_step c s).start ≡ c.start → StartersBegun (small_step c s)
starters-later c s i may first same q was = begun-kept c s i.net.hosted may q (first q (ap (λ st. was_ever (starting st) q) (sym same) ∙ was))

pub starters-kept : (c : Chronicle) (s : Small) → Invariant c → may_make c s ≡ true → StartersBegun c → StartersBegun (small_step c s)
unfolding small_step
starters-kept c (Starts set) i may first = λ q was.
    begun-each set (ids set) c.world q (among-ids set q (elim (or_cases (is_among (map first_line set) q) (has [] q) was) [ inl is ↦ is | inr none ↦ absurd (let clash : false ≡ true = none in cc) ]))
starters-kept c (Makes set) i may first = starters-later c (Makes set) i may first (start-kept c (Makes set) tt)
starters-kept c (Enters p) i may first = starters-later c (Enters p) i may first (start-kept c (Enters p) tt)
starters-kept c (Orders p) i may first = starters-later c (Orders p) i may first (start-kept c (Orders p) tt)
starters-kept c (Receives p place) i may first = starters-later c (Receives p place) i may first (start-kept c (Receives p place) tt)
starters-kept c (Hands p) i may first = starters-later c (Hands p) i may first (start-kept c (Hands p) tt)
starters-kept c (Leaves p set own places) i may first = starters-later c (Leaves p set own places) i may first (start-kept c (Leaves p set own places) tt)
starters-kept c (Asks p kind) i may first = starters-later c (Asks p kind) i may first (start-kept c (Asks p kind) tt)
starters-kept c (Settles p) i may first = starters-later c (Settles p) i may first (start-kept c (Settles p) tt)
starters-kept c (Commits p) i may first = starters-later c (Commits p) i may first (start-kept c (Commits p) tt)
starters-kept c (Crashes p) i may first = starters-later c (Crashes p) i may first (start-kept c (Crashes p) tt)
starters-kept c (Recovers p) i may first = starters-later c (Recovers p) i may first (start-kept c (Recovers p) tt)
starters-kept c (Copies p joiner) i may first = starters-later c (Copies p joiner) i may first (start-kept c (Copies p joiner) tt)
starters-kept c (Joins joiner) i may first = starters-later c (Joins joiner) i may first (start-kept c (Joins joiner) tt)

-- ---- behind each small step

-- what no fact says yet: who hasn't begun has made nothing, and the servers of the start have begun
pub record Beginnings (c : Chronicle) : Type 0 where
  pub unbegun : UnbegunMadeNone c
  pub starters : StartersBegun c

lines-start : (set : List Weighted) → LinesBelow (start no_chronicle set)
lines-start set = record { actions = tt; cores = start-cores (IsLined (start no_chronicle set)) set each } where
  each : (p : ℕ) → IsLined (start no_chronicle set) (fresh_held p set) []
  each p = record {
    begun = λ q begun. (let none = first-lines set q in omega arith);
    others = λ q none server. first-lines set q;
    white = λ q server. omega arith;
  }

-- a core of which this holds
module _ (d : Chronicle) (st : List Weighted) (same : d.start ≡ st) (numbered : run_on [] (names_of d.book) ≡ true) (actions : AreBelow d d.book) (unbegun : UnbegunMadeNone d) (starters : StartersBegun d)
    (ever : (p : ℕ) → has_begun d.world p ≡ true → was_ever (members_of d.start (stood_of d p)) p ≡ true)
    (on_line : (p : ℕ) → Front (greens_of d p) (line_at d (top_of d))) (behind : (p : ℕ) → Front (stood_of d p) (greens_of d p)) where
  each-lined : {X : Type 0} (o : Option X) (h : X → Held) (all : List Action) → IfSome o (λ x. FollowsAll st (h x) all) → IfSome o (λ x. Each (IsNamed d.book) all) →
      IfSome o (λ x. Front all (line_at d (top_of d)) × (length all ≤ reached_at d (top_of d))) → IfSome o (λ x. IsLined d (h x) all)
  each-lined None h all follow named front = tt
  each-lined (Some x) h all follow named front =
      lined d numbered actions unbegun starters ever on_line behind (h x) all (follow.0 ∙ ap (λ st. members_of st all) (sym same)) follow.1 named front.0

some-all : {X : Type 0} (o : Option X) (A : Type 0) → A → IfSome o (λ x. A)
some-all None A a = tt
some-all (Some x) A a = a

lines-later : (c : Chronicle) (s : Small) (i : Invariant c) → Beginnings c → may_make c s ≡ true → AtRest c s → OneOrder (small_step c s) → NotStart s → (small_step c s).start ≡ c.start → LinesBelow (small_step c s)
lines-later c s i first may rest order other same =
    let d = small_step c s in
    let both = made_once-kept c s i (joiners-booked c i first.unbegun) may rest in
    let made = both.0 in
    let hosted = hosted-in c s i may in
    let behind = disk_behind-kept c s i.net.hosted may i.replica.disk_behind in
    let begun = members_begun-in c s i may in
    let starters = starters-kept c s i may first.starters in
    let actions : AreBelow d d.book = each-below d d.book (low-kept c i (λ q. length (greens_of d q)) (cores-move c s i may rest).greens s) in
    let on_line = greens-on_line d order behind hosted in
    let follow = follow-kept c i s may other in
    let named : (p : ℕ) → Each (IsNamed d.book) (greens_of d p) = λ p. each-booked d (greens_of d p) (made.in_greens p) in
    record {
      actions = actions;
      cores = record {
        memory = λ p. each-lined d c.start same made.numbered actions both.1.unbegun starters begun.server on_line behind.behind (replica_of d.world p) (λ r. r.held) (greens_of d p)
            (follow.memory p) (some-all (replica_of d.world p) (Each (IsNamed d.book) (greens_of d p)) (named p)) (order.memory p);
        disk = λ p. each-lined d c.start same made.numbered actions both.1.unbegun starters begun.server on_line behind.behind (disk_held d.world p) (λ h. h) (stood_of d p)
            (follow.disk p) (some-all (disk_held d.world p) (Each (IsNamed d.book) (stood_of d p)) (front-each (IsNamed d.book) (stood_of d p) (greens_of d p) (behind.behind p) (named p))) (order.disk p);
        snapshot = λ joiner. each-lined d c.start same made.numbered actions both.1.unbegun starters begun.server on_line behind.behind (snapshot_of d.world joiner) (λ s. (joiner_replica joiner s.content).held) (copied_for d joiner)
            (follow.snapshot joiner) (both.1.copied joiner) (order.snapshot joiner);
      };
    }

-- A server's line is no higher than its greens, behind each small step.
pub lines_below-kept : (c : Chronicle) (s : Small) → Invariant c → Beginnings c → may_make c s ≡ true → AtRest c s → OneOrder (small_step c s) → LinesBelow (small_step c s)
unfolding small_step may_make
lines_below-kept c (Starts set) i first may rest order =
    subst (λ (x : Chronicle). LinesBelow (start x set)) (sym (nothing-before c i.net.hosted (and_parts (is_nil c.world.nodes) (is_set (ids set)) may).0)) (lines-start set)
lines_below-kept c (Makes set) i first may rest order = lines-later c (Makes set) i first may rest order tt (start-kept c (Makes set) tt)
lines_below-kept c (Enters p) i first may rest order = lines-later c (Enters p) i first may rest order tt (start-kept c (Enters p) tt)
lines_below-kept c (Orders p) i first may rest order = lines-later c (Orders p) i first may rest order tt (start-kept c (Orders p) tt)
lines_below-kept c (Receives p place) i first may rest order = lines-later c (Receives p place) i first may rest order tt (start-kept c (Receives p place) tt)
lines_below-kept c (Hands p) i first may rest order = lines-later c (Hands p) i first may rest order tt (start-kept c (Hands p) tt)
lines_below-kept c (Leaves p set own places) i first may rest order = lines-later c (Leaves p set own places) i first may rest order tt (start-kept c (Leaves p set own places) tt)
lines_below-kept c (Asks p kind) i first may rest order = lines-later c (Asks p kind) i first may rest order tt (start-kept c (Asks p kind) tt)
lines_below-kept c (Settles p) i first may rest order = lines-later c (Settles p) i first may rest order tt (start-kept c (Settles p) tt)
lines_below-kept c (Commits p) i first may rest order = lines-later c (Commits p) i first may rest order tt (start-kept c (Commits p) tt)
lines_below-kept c (Crashes p) i first may rest order = lines-later c (Crashes p) i first may rest order tt (start-kept c (Crashes p) tt)
lines_below-kept c (Recovers p) i first may rest order = lines-later c (Recovers p) i first may rest order tt (start-kept c (Recovers p) tt)
lines_below-kept c (Copies p joiner) i first may rest order = lines-later c (Copies p joiner) i first may rest order tt (start-kept c (Copies p joiner) tt)
lines_below-kept c (Joins joiner) i first may rest order = lines-later c (Joins joiner) i first may rest order tt (start-kept c (Joins joiner) tt)

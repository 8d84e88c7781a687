-- A replica's turn as small steps: its parts lead where the whole turn leads; and behind the last of them it ends as the event does.
use Rattle.std.proofs.Common.{◌≡◌, ℕ, true, false, not, List, [], ◌∷◌, ◌++◌, Option, Some, filter, refl, sym, ap, ◌∙◌, eq-eqb, is_some, option_and_then, append-nil, if◌then◌else◌}
use Rattle.std.specs.Prelude.{◌==◌}
use Rattle.std.specs.Option.{option_map_or}
use Rattle.std.proofs.lemmas.Bool.{cond-true, cond-false}
use Rattle.cg_base.specs.declared.action_id.ActionId.{ActionId}
use Rattle.cg_wire.specs.declared.message.Msg.{Msg}
use Rattle.cg_group.specs.State.{GroupState}
use Rattle.cg_group.specs.Events.{send_all, go_down}
use Rattle.cg_client.specs.Replica.{Replica}
use Rattle.cg_client.specs.Turn.{Turn, begin}
use Rattle.cg_disk_records.specs.Stored.{stored_of, whiten}
use Rattle.cg_disk_records.specs.Commit.{commits}
use Rattle.cg_disk_records.specs.Crash.{Disk, EventEnd, Runs, Crashes as EndsInCrash, at_rest, whitened, end_event}
use Rattle.cg_model.specs.World.{NodeState, Up, Down, Node, World, running, node_of, replica_of, with_node, set_life, bring_down}
use Rattle.cg_model.specs.Looks.{on_disk}
use Rattle.cg_model.specs.Turns.{Taken, is_kept}
use Rattle.cg_model.specs.Small.{Small, Commits, Crashes}
use Rattle.cg_model.specs.Smalls.{may_make, ending_as}
use Rattle.cg_agree_lemmas.specs.ChronicleFacts.{node_of-set}
use Rattle.cg_agree_lemmas.specs.Parts.{IsPart}
use Rattle.cg_agree_lemmas.specs.GroupChanges.{sent-twice, down-sent}
use Rattle.cg_agree_lemmas.specs.NodeFacts.{hosted-twice}
use Rattle.cg_agree_lemmas.specs.DiskEnds.{end-cases}
use Rattle.cg_agree_lemmas.specs.SmallWorlds.{grouped, turned_in, turning_in, commit_in, crash_in, small_in, may_in, played_in, MayIn, played-append, may-append}

-- a replica runs so, and the group is this one
abbrev pub hosted : World → ℕ → Replica → Disk → GroupState Msg → World
hosted w p r disk g = let v = set_life w p (Up r disk) in record v { group = g }

abbrev pub up_node : ℕ → Replica → Disk → Node
up_node p r disk = record { id = p; life = Up r disk }

pub node-hosted : (w : World) (p : ℕ) (r : Replica) (disk : Disk) (g : GroupState Msg) → node_of (hosted w p r disk g) p ≡ Some (up_node p r disk)
node-hosted w p r disk g = node_of-set w p (Up r disk) p ∙ cond-true (p == p) (Some (up_node p r disk)) (node_of w p) (eq-eqb p p refl)

pub runs-hosted : (w : World) (p : ℕ) (r : Replica) (disk : Disk) (g : GroupState Msg) → is_some (replica_of (hosted w p r disk g) p) ≡ true
runs-hosted w p r disk g = ap (λ (o : Option Node). is_some (option_and_then (λ s. running s.life) o)) (node-hosted w p r disk g)

-- ---- parts of a turn

-- the first part
pub turn-first : (w : World) (g : GroupState Msg) (p : ℕ) (r : Replica) (disk : Disk) (part : Turn → Turn) → node_of w p ≡ Some (up_node p r disk) →
    turning_in (grouped w g) p part ≡ (let u = part (begin r) in hosted w p u.replica disk (send_all g p u.sent))
turn-first w g p r disk part node = ap (λ (o : Option Node). option_map_or (λ s. turned_in (grouped w g) p part s.life) o (grouped w g)) node

-- and those behind it
pub turn-next : (w : World) (g : GroupState Msg) (p : ℕ) (r : Replica) (disk : Disk) (part : Turn → Turn) →
    turning_in (hosted w p r disk g) p part ≡ (let u = part (begin r) in hosted w p u.replica disk (send_all g p u.sent))
turn-next w g p r disk part =
    let v = hosted w p r disk g in
    let u = part (begin r) in
    ap (λ (o : Option Node). option_map_or (λ s. turned_in v p part s.life) o v) (node-hosted w p r disk g)
    ∙ ap (λ (list : List Node). record w { group = send_all g p u.sent; nodes = list }) (hosted-twice w.nodes p (Up r disk) (Up u.replica disk))

-- a part that goes on from a turn makes the turn with it
pub part-joins : (w : World) (g : GroupState Msg) (p : ℕ) (disk : Disk) (t : Turn) (part : Turn → Turn) → IsPart part →
    turning_in (hosted w p t.replica disk (send_all g p t.sent)) p part ≡ hosted w p (part t).replica disk (send_all g p (part t).sent)
part-joins w g p disk t part is =
    let u = part (begin t.replica) in
    turn-next w (send_all g p t.sent) p t.replica disk part
    ∙ ap (hosted w p u.replica disk) (sent-twice t.sent u.sent g p)
    ∙ ap (λ (x : Turn). hosted w p x.replica disk (send_all g p x.sent)) (sym (is t))

-- ---- the end of a turn

-- the world behind the end of an event at a replica, in which the group was this one
abbrev pub ended_in : World → GroupState Msg → ℕ → Turn → EventEnd → World
ended_in w g p t (Runs r disk) = hosted w p r disk (send_all g p t.sent)
ended_in w g p t (EndsInCrash disk green) = bring_down w p (Down disk green)

-- the life that a replica has then
abbrev pub life_at : EventEnd → NodeState
life_at (Runs r disk) = Up r disk
life_at (EndsInCrash disk green) = Down disk green

pub nodes-ended : (w : World) (g : GroupState Msg) (p : ℕ) (t : Turn) (e : EventEnd) → (ended_in w g p t e).nodes ≡ with_node w.nodes (record { id = p; life = life_at e })
nodes-ended w g p t (Runs r disk) = refl
nodes-ended w g p t (EndsInCrash disk green) = refl

-- the first world is the second, that behind the end, but for what a disk has beside its content
pub record IsEndAt (w : World) (p : ℕ) (v u : World) (e : EventEnd) : Type 0 where
  pub group : v.group ≡ u.group
  pub snapshots : v.snapshots ≡ u.snapshots
  pub life : NodeState
  pub nodes : v.nodes ≡ with_node w.nodes (record { id = p; life = life })
  pub same : running life ≡ running (life_at e)
  pub disk : on_disk life ≡ on_disk (life_at e)

module _ (w : World) (g : GroupState Msg) (p : ℕ) (r : Replica) (disk : Disk) (t : Turn) (opening : List Small) (node : node_of w p ≡ Some (up_node p r disk))
    (may : MayIn w opening) (opens : played_in w opening ≡ hosted w p t.replica disk (send_all g p t.sent)) (down : go_down g p ≡ go_down w.group p) where
  abbrev pub taken_to : EventEnd → Taken
  taken_to end = record { id = p; before = r; disk = disk; turn = t; ended = end }

  abbrev whites : Disk
  whites = record disk { content = stored_of (whiten t.replica.held) }

  up-committed : (v : World) → v ≡ hosted w p t.replica disk (send_all g p t.sent) → (may_in v (Commits p) ≡ true) × (small_in v (Commits p) ≡ hosted w p (whitened t.replica) whites (send_all g p t.sent))
  unfolding may_in may_make small_in
  up-committed v is =
      let now = hosted w p t.replica disk (send_all g p t.sent) in
      let found = ap (λ (x : World). node_of x p) is ∙ node-hosted w p t.replica disk (send_all g p t.sent) in (
        ap (λ (o : Option Node). is_some (option_and_then (λ s. running s.life) o)) found,
        ap (λ (o : Option Node). option_map_or (λ s. commit_in v p s.life) o v) found ∙ ap (λ (x : World). commit_in x p (Up t.replica disk)) is
            ∙ ap (λ (list : List Node). record w { group = send_all g p t.sent; nodes = list }) (hosted-twice w.nodes p (Up t.replica disk) (Up (whitened t.replica) whites)),
      )

  up-crashed : (v : World) (r : Replica) (d : Disk) (h : GroupState Msg) → v ≡ hosted w p r d h → (may_in v (Crashes p) ≡ true)
      × (small_in v (Crashes p) ≡ record w { group = go_down h p; nodes = with_node w.nodes (record { id = p; life = Down (at_rest d) [] }); snapshots = filter (λ s. not (s.giver == p)) w.snapshots })
  unfolding may_in may_make small_in
  up-crashed v r d h is =
      let found = ap (λ (x : World). node_of x p) is ∙ node-hosted w p r d h in (
        ap (λ (o : Option Node). is_some (option_and_then (λ s. running s.life) o)) found,
        ap (λ (o : Option Node). option_map_or (λ s. crash_in v p s.life) o v) found ∙ ap (λ (x : World). crash_in x p (Up r d)) is
            ∙ ap (λ (list : List Node). record w { group = go_down h p; nodes = list; snapshots = filter (λ s. not (s.giver == p)) w.snapshots }) (hosted-twice w.nodes p (Up r d) (Down (at_rest d) [])),
      )

  -- the group without the replica is the one that it was
  without : go_down (send_all g p t.sent) p ≡ go_down w.group p
  without = down-sent t.sent g p ∙ down

  abbrev pub DoesEnd : EventEnd → Type 0
  DoesEnd end = MayIn w (ending_as (taken_to end) opening end) × IsEndAt w p (played_in w (ending_as (taken_to end) opening end)) (ended_in w g p t end) end

  kept-ends : commits r.held t ≡ false → (d : Disk) → d.content ≡ disk.content → DoesEnd (Runs t.replica d)
  kept-ends none d is =
      let steps : opening ++ (if commits r.held t then Commits p ∷ [] else []) ≡ opening = ap (λ xs. opening ++ xs) (cond-false (commits r.held t) (Commits p ∷ []) [] none) ∙ append-nil opening in
      rw steps (
        may,
        record {
          group = ap (λ (v : World). v.group) opens;
          snapshots = ap (λ (v : World). v.snapshots) opens;
          life = Up t.replica disk;
          nodes = ap (λ (v : World). v.nodes) opens;
          same = refl;
          disk = sym is;
        },
      )

  committed-ends : commits r.held t ≡ true → (d : Disk) → d.content ≡ stored_of (whiten t.replica.held) → DoesEnd (Runs (whitened t.replica) d)
  committed-ends does d is =
      let steps : opening ++ (if commits r.held t then Commits p ∷ [] else []) ≡ opening ++ Commits p ∷ [] = ap (λ xs. opening ++ xs) (cond-true (commits r.held t) (Commits p ∷ []) [] does) in
      let last = up-committed (played_in w opening) opens in
      let leads : played_in w (opening ++ Commits p ∷ []) ≡ hosted w p (whitened t.replica) whites (send_all g p t.sent) = played-append w opening (Commits p ∷ []) ∙ last.1 in
      rw steps (
        may-append w opening (Commits p ∷ []) may (last.0, tt),
        record {
          group = ap (λ (v : World). v.group) leads;
          snapshots = ap (λ (v : World). v.snapshots) leads;
          life = Up (whitened t.replica) whites;
          nodes = ap (λ (v : World). v.nodes) leads;
          same = refl;
          disk = sym is;
        },
      )

  stands-ends : is_kept disk.armed ≡ true → (d : Disk) (green : List ActionId) → d.content ≡ stored_of (whiten t.replica.held) → DoesEnd (EndsInCrash d green)
  stands-ends stays d green is =
      let steps = cond-true (is_kept disk.armed) (opening ++ Commits p ∷ Crashes p ∷ []) (Crashes p ∷ []) stays in
      let last = up-committed (played_in w opening) opens in
      let ends = up-crashed (small_in (played_in w opening) (Commits p)) (whitened t.replica) whites (send_all g p t.sent) last.1 in
      let leads = played-append w opening (Commits p ∷ Crashes p ∷ []) ∙ ends.1 in
      rw steps (
        may-append w opening (Commits p ∷ Crashes p ∷ []) may (last.0, (ends.0, tt)),
        record {
          group = ap (λ (v : World). v.group) leads ∙ without;
          snapshots = ap (λ (v : World). v.snapshots) leads;
          life = Down (at_rest whites) [];
          nodes = ap (λ (v : World). v.nodes) leads;
          same = refl;
          disk = sym is;
        },
      )

  lost-ends : is_kept disk.armed ≡ false → (d : Disk) (green : List ActionId) → d.content ≡ disk.content → DoesEnd (EndsInCrash d green)
  unfolding may_in may_make small_in
  lost-ends gone d green is =
      let steps = cond-false (is_kept disk.armed) (opening ++ Commits p ∷ Crashes p ∷ []) (Crashes p ∷ []) gone in
      let up = ap (λ (o : Option Node). is_some (option_and_then (λ s. running s.life) o)) node in
      let leads : option_map_or (λ s. crash_in w p s.life) (node_of w p) w ≡ bring_down w p (Down (at_rest disk) []) = ap (λ (o : Option Node). option_map_or (λ s. crash_in w p s.life) o w) node in
      rw steps (
        (up, tt),
        record {
          group = ap (λ (v : World). v.group) leads;
          snapshots = ap (λ (v : World). v.snapshots) leads;
          life = Down (at_rest disk) [];
          nodes = ap (λ (v : World). v.nodes) leads;
          same = refl;
          disk = sym is;
        },
      )

  -- its steps may be made, and lead where the event ends
  pub turn-ends : DoesEnd (end_event disk r.held t)
  turn-ends = end-cases disk r.held t DoesEnd kept-ends committed-ends stands-ends lost-ends

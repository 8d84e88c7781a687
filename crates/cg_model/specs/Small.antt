-- The small steps of which the step of each event is made, by the same functions of the group and of replicas.
use Rattle.std.specs.Prelude.{ℕ, suc, ◌==◌, nat_lt, Bool, true, not, ◌&&◌, List, [], ◌∷◌, ◌++◌, Option, Some, None, map, filter, filter_map, fold, drop, length, if◌then◌else◌}
use Rattle.std.specs.Option.{option_map_or}
use Rattle.cg_base.specs.declared.weighted.Weighted.{Weighted}
use Rattle.cg_base.specs.Sets.{has, with_member}
use Rattle.cg_base.specs.Weights.{ids}
use Rattle.cg_action.specs.declared.action.Action.{Action}
use Rattle.cg_action.specs.declared.action.Kind.{Kind}
use Rattle.cg_records.specs.declared.vulnerable.Vulnerable.{Vulnerable}
use Rattle.cg_wire.specs.declared.message.Msg.{Msg}
use Rattle.cg_group.specs.declared.phase.Phase.TheVariants.{Transitional}
use Rattle.cg_group.specs.declared.delivery.Delivery.{Delivery}
use Rattle.cg_group.specs.declared.delivery.Delivery.TheVariants.{Transitional as TransitionalIn, Regular as RegularIn}
use Rattle.cg_group.specs.State.{GroupState, configuration, regular_in, phase_of, home, delivered_to, set_standing}
use Rattle.cg_group.specs.Events.{send_all, order, receive, delivery_at, deliveries_at, with_delivered, become_regular}
use Rattle.cg_client.specs.Replica.{Held, State, Replica}
use Rattle.cg_client.specs.Turn.{Turn, begin}
use Rattle.cg_client.specs.Requests.{settle, request}
use Rattle.cg_disk_records.specs.Stored.{stored_of, whiten}
use Rattle.cg_states.specs.ReplicaStep.{after_delivery}
use Rattle.cg_disk_records.specs.Crash.{Disk, new_disk, at_rest, recovered, disk_recovered}
use Rattle.cg_model.specs.World.{NodeState, Up, Down, World, node_of, replica_of, set_life, bring_up, bring_down}
use Rattle.cg_model.specs.Step.{begin_replica, joiner_replica, without_snapshot}
use Rattle.cg_model.specs.Attempts.{with_attempt_of}
use Rattle.cg_model.specs.Chronicle.{Past, Told, Attempt, Chronicle}
use Rattle.cg_model.specs.Looks.{greens_of, stood_of, conf_at, attempt_of, snapshot_of, copied_for}
use Rattle.cg_model.specs.Talk.{summary_in}
use Rattle.cg_model.specs.Levels.{is_installed}
use Rattle.cg_model.specs.FactsReplica.{is_primary, is_attempting}

-- replicas begin; a configuration is made, and a member enters it; a message gets a place, and a member receives a place; a
-- place is handed to a member; a member leaves with a set, which so many places were handed to alone, and is handed places; a
-- request comes, and kept ones are created; a commit, a crash, a recovery; a snapshot is taken, and its joiner begins
pub data Small : Type 0 where
  Starts : (set : List Weighted) → Small
  Makes : (set : List ℕ) → Small
  Enters : (p : ℕ) → Small
  Orders : (p : ℕ) → Small
  Receives : (p place : ℕ) → Small
  Hands : (p : ℕ) → Small
  Leaves : (p : ℕ) (set : List ℕ) (own : ℕ) (places : List ℕ) → Small
  Asks : (p : ℕ) (kind : Kind) → Small
  Settles : (p : ℕ) → Small
  Commits : (p : ℕ) → Small
  Crashes : (p : ℕ) → Small
  Recovers : (p : ℕ) → Small
  Copies : (p joiner : ℕ) → Small
  Joins : (joiner : ℕ) → Small

-- ---- what is noted beside the world

-- a replica's greens changed
abbrev pub changed_past : (Past → Past) → ℕ → List Past → List Past
changed_past change p pasts = map (λ x. if x.id == p then change x else x) pasts

abbrev pub with_greens : List Action → Past → Past
with_greens new x = record x { greens = x.greens ++ new }

-- what is green in memory stands on the disk; and what stood on the disk is all that there is
abbrev pub written : Past → Past
written x = record x { stood = x.greens }

abbrev pub struck : Past → Past
struck x = record x { greens = x.stood }

abbrev pub new_past : List Action → ℕ → Past
new_past greens p = record { id = p; greens = greens; stood = greens }

-- the replicas with one more among them, ascending
abbrev pub with_past : List Past → Past → List Past
with_past [] new = new ∷ []
with_past (x ∷ pasts) new = if nat_lt new.id x.id then new ∷ x ∷ pasts else x ∷ with_past pasts new

-- one attempt changed
abbrev pub changed_attempt : (Attempt → Attempt) → ℕ → List Attempt → List Attempt
changed_attempt change conf attempts = map (λ a. if a.conf == conf then change a else a) attempts

abbrev pub with_entrant : ℕ → Attempt → Attempt
with_entrant p a = record a { entered = with_member a.entered p }

abbrev pub with_installer : ℕ → Attempt → Attempt
with_installer p a = record a { installed = with_member a.installed p }

-- who has entered leaves with so many greens
abbrev pub with_leaver : ℕ → ℕ → Attempt → Attempt
with_leaver p count a = if has a.entered p
    then record a { left = a.left ++ record { member = p; count = count } ∷ [] } else a

-- a replica enters the attempt of its record, which is taken from the first that does
abbrev pub entering : List Action → Held → List Attempt → Option Vulnerable → List Attempt
entering greens h attempts None = attempts
entering greens h attempts (Some v) =
    changed_attempt (with_entrant h.id) v.attempt (with_attempt_of attempts greens h (Some v))

-- a replica installs the attempt of its record
abbrev pub installing : ℕ → List Attempt → Option Vulnerable → List Attempt
installing p attempts None = attempts
installing p attempts (Some v) = changed_attempt (with_installer p) v.attempt attempts

-- the level that the first installation of an attempt opens
abbrev pub opened_by : Chronicle → Option Vulnerable → List ℕ
opened_by c None = []
opened_by c (Some v) = if option_map_or is_installed (attempt_of c v.attempt) true then [] else v.attempt ∷ []

-- a change of state by which an attempt is entered, and one by which it is installed
abbrev pub is_entry : State → State → Bool
is_entry old new = not (is_attempting old) && is_attempting new

abbrev pub is_installation : State → State → Bool
is_installation old new = not (is_primary old) && is_primary new

-- the attempts and the levels behind a turn, in which a replica that had been this became that one with these greens
abbrev pub attempts_behind : List Attempt → ℕ → List Action → Replica → Replica → List Attempt
attempts_behind attempts p greens old new =
    if is_entry old.state new.state then entering greens new.held attempts new.held.vulnerable
    else if is_installation old.state new.state then installing p attempts new.held.vulnerable
    else attempts

abbrev pub levels_behind : Chronicle → Replica → Replica → List ℕ
levels_behind c old new = if is_installation old.state new.state
    then c.levels ++ opened_by c new.held.vulnerable else c.levels

-- a replica goes out of its configuration with so many greens
abbrev pub note_leaving : Chronicle → ℕ → ℕ → Chronicle
note_leaving c p count =
    record c { attempts = changed_attempt (with_leaver p count) (conf_at (phase_of c.world.group p)) c.attempts }

-- ---- turns

-- the actions that became green in a turn
abbrev pub newly_green : Replica → Replica → List Action
newly_green old new = drop (length old.held.queue.greens) new.held.queue.greens

-- what a replica told in a turn
abbrev pub told_with : List Action → List Msg → List Told
told_with greens sent = map (λ s. record { summary = s; greens = greens }) (filter_map summary_in sent)

-- a replica was this, and has come so far in its turn: it says what it has to say
abbrev pub turned : Chronicle → ℕ → Disk → Turn → World
turned c p disk t = let w = set_life c.world p (Up t.replica disk) in record w { group = send_all w.group p t.sent }

abbrev pub after_turn : Chronicle → ℕ → Replica → Disk → Turn → Chronicle
after_turn c p r disk t =
    let new = newly_green r t.replica in
    record c {
      world = turned c p disk t;
      pasts = changed_past (with_greens new) p c.pasts;
      told = c.told ++ told_with (greens_of c p) t.sent;
      attempts = attempts_behind c.attempts p (greens_of c p ++ new) r t.replica;
      levels = levels_behind c r t.replica;
      book = c.book ++ t.made;
    }

-- a replica takes part of its turn, where it is up
abbrev pub turning_as : Chronicle → ℕ → (Turn → Turn) → NodeState → Chronicle
turning_as c p part (Up r disk) = after_turn c p r disk (part (begin r))
turning_as c p part (Down disk green) = c

abbrev pub turning : Chronicle → ℕ → (Turn → Turn) → Chronicle
turning c p part = option_map_or (λ s. turning_as c p part s.life) (node_of c.world p) c

abbrev pub take_all : List (Delivery Msg) → Turn → Turn
take_all list t = fold after_delivery t list

-- ---- steps

abbrev pub with_group : Chronicle → GroupState Msg → Chronicle
with_group c g = let w = c.world in record c { world = record w { group = g } }

-- a configuration is made; no member has entered it yet
abbrev pub make_configuration : GroupState Msg → List ℕ → GroupState Msg
make_configuration g set =
    record g { configurations = g.configurations ++ record { members = set; ordered = []; received = [] } ∷ [] }

-- the number of the newest configuration
abbrev pub newest_conf : GroupState Msg → ℕ
newest_conf g = length g.configurations

-- a member comes into the newest configuration, and takes it
abbrev pub coming : Chronicle → ℕ → Chronicle
coming c p =
    with_group (note_leaving c p (length (greens_of c p))) (become_regular (newest_conf c.world.group) c.world.group p)

abbrev pub take_newest : GroupState Msg → Turn → Turn
take_newest g t = let conf = newest_conf g in take_all (RegularIn conf (configuration g conf).members ∷ []) t

abbrev pub enter : Chronicle → ℕ → Chronicle
enter c p = turning (coming c p) p (take_newest c.world.group)

-- a member is handed the next place, and takes it
abbrev pub handed_next : Chronicle → ℕ → Chronicle
handed_next c p = let g = c.world.group in with_group c (with_delivered g p (suc (delivered_to g p)))

abbrev pub take_next : GroupState Msg → ℕ → Turn → Turn
take_next g p t = take_all (delivery_at (home g p) (suc (delivered_to g p))) t

abbrev pub hand_place : Chronicle → ℕ → Chronicle
hand_place c p = turning (handed_next c p) p (take_next c.world.group p)

-- the group notes of one that has left how many places it was handed by itself, before it left with the others
abbrev pub become_past : GroupState Msg → ℕ → List ℕ → ℕ → GroupState Msg
become_past g p set own =
    set_standing g (record {
      id = p;
      phase = Transitional (regular_in (phase_of g p)) set;
      delivered = own;
      unordered = [];
    })

abbrev pub leaving : Chronicle → ℕ → List ℕ → ℕ → Chronicle
leaving c p set own = with_group c (become_past c.world.group p set own)

abbrev pub take_parting : GroupState Msg → ℕ → List ℕ → List ℕ → Turn → Turn
take_parting g p set places t =
    take_all (TransitionalIn (regular_in (phase_of g p)) set ∷ deliveries_at (home g p) places) t

abbrev pub leave_with : Chronicle → ℕ → List ℕ → ℕ → List ℕ → Chronicle
leave_with c p set own places = turning (leaving c p set own) p (take_parting c.world.group p set places)

-- the white count rises to the white line, and what is held stands on the disk
abbrev pub commit_as : Chronicle → ℕ → NodeState → Chronicle
commit_as c p (Down disk green) = c
commit_as c p (Up r disk) =
    let h = whiten r.held in
    record c {
      world = set_life c.world p (Up (record r { held = h }) (record disk { content = stored_of h }));
      pasts = changed_past written p c.pasts;
    }

abbrev pub commit : Chronicle → ℕ → Chronicle
commit c p = option_map_or (λ s. commit_as c p s.life) (node_of c.world p) c

-- what isn't on the disk is lost; the snapshots of the replica end
abbrev pub crash_as : Chronicle → ℕ → NodeState → Chronicle
crash_as c p (Down disk green) = c
crash_as c p (Up r disk) =
    let gone = note_leaving c p (length (stood_of c p)) in
    record gone {
      world = bring_down c.world p (Down (at_rest disk) []);
      pasts = changed_past struck p c.pasts;
      copies = filter (λ x. not (x.giver == p)) c.copies;
    }

abbrev pub crash : Chronicle → ℕ → Chronicle
crash c p = option_map_or (λ s. crash_as c p s.life) (node_of c.world p) c

abbrev pub recover_as : Chronicle → NodeState → Chronicle
recover_as c (Up r disk) = c
recover_as c (Down disk green) = record c { world = bring_up c.world (recovered disk) (disk_recovered disk) }

abbrev pub note_recovery : Chronicle → ℕ → Chronicle
note_recovery c p = option_map_or (λ s. recover_as c s.life) (node_of c.world p) c

-- each replica begins with an empty disk
abbrev pub start : Chronicle → List Weighted → Chronicle
start c set = record c {
  start = set;
  world = fold (begin_replica set) c.world (ids set);
  pasts = c.pasts ++ map (new_past []) (ids set);
}

-- a snapshot for the joiner takes the place of another one
abbrev pub copy_as : Chronicle → ℕ → ℕ → Replica → Chronicle
copy_as c p joiner r =
    let w = without_snapshot c.world joiner in
    record c {
      world = record w { snapshots = record { joiner = joiner; giver = p; content = r.held; taken = 0 } ∷ w.snapshots };
      copies = record { joiner = joiner; giver = p; greens = greens_of c p }
          ∷ filter (λ x. not (x.joiner == joiner)) c.copies;
    }

abbrev pub copy : Chronicle → ℕ → ℕ → Chronicle
copy c p joiner = option_map_or (copy_as c p joiner) (replica_of c.world p) c

-- the joiner begins with what its snapshot has
abbrev pub join_with : Chronicle → ℕ → Held → Chronicle
join_with c joiner content =
    let r = joiner_replica joiner content in
    record c {
      world = bring_up (without_snapshot c.world joiner) r (new_disk r.held);
      pasts = with_past c.pasts (new_past (copied_for c joiner) joiner);
      copies = filter (λ x. not (x.joiner == joiner)) c.copies;
    }

abbrev pub join : Chronicle → ℕ → Chronicle
join c joiner = option_map_or (λ s. join_with c joiner s.content) (snapshot_of c.world joiner) c

abbrev pub take_request : Kind → Turn → Turn
take_request kind t = request t kind

unfoldable pub small_step : Chronicle → Small → Chronicle
small_step c (Starts set) = start c set
small_step c (Makes set) = with_group c (make_configuration c.world.group set)
small_step c (Enters p) = enter c p
small_step c (Orders p) = with_group c (order c.world.group p)
small_step c (Receives p place) = with_group c (receive c.world.group p place)
small_step c (Hands p) = hand_place c p
small_step c (Leaves p set own places) = leave_with c p set own places
small_step c (Asks p kind) = turning c p (take_request kind)
small_step c (Settles p) = turning c p settle
small_step c (Commits p) = commit c p
small_step c (Crashes p) = crash c p
small_step c (Recovers p) = note_recovery c p
small_step c (Copies p joiner) = copy c p joiner
small_step c (Joins joiner) = join c joiner

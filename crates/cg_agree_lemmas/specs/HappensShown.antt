-- What each event shows beside lines: an answer, a replica's greens and database, the order, or how much of a snapshot was taken.
use Rattle.std.proofs.Common.{◌≡◌, ℕ, ◌+◌, min, List, [], ◌∷◌, fold, Option, Some, None, refl, ◌∙◌}
use Rattle.std.specs.Option.{option_map_or}
use Rattle.cg_base.specs.Lists.{Each}
use Rattle.cg_action.specs.declared.action.Kind.TheVariants.{Update, Join as JoinKind, Leave as LeaveKind}
use Rattle.cg_queue.specs.Queue.{names_of}
use Rattle.cg_wire.specs.declared.message.Msg.{Msg}
use Rattle.cg_group.specs.declared.delivery.Handed.{Handed}
use Rattle.cg_group.specs.Events.{split, merge, deliver}
use Rattle.cg_report.specs.declared.entry.Shown.{Shown}
use Rattle.cg_report.specs.declared.entry.Shown.TheVariants.{Weak as ShownWeak, Dirty as ShownDirty, Pieces, Greens, Database, All}
use Rattle.cg_client.specs.Replica.{Replica}
use Rattle.cg_client.specs.Turn.{Turn}
use Rattle.cg_client.specs.Queries.{weak_answer, dirty_answer}
use Rattle.cg_states.specs.ReplicaStep.{Input, Deliveries, Asks as AsksOf, replica_step}
use Rattle.cg_disk_records.specs.Crash.{EventEnd, Runs, Crashes, end_event, StopWith}
use Rattle.cg_schedule.specs.declared.event.Event.{Event}
use Rattle.cg_schedule.specs.declared.event.Event.TheVariants.{Start, Split, Merge, Request, Weak, Dirty, Order, Recover, RecoverStopped, Downgrade, Show, ShowOrder, Gather, End, Receive, Deliver, Rounds, Stop, Fail, Join, Leave, Transfer}
use Rattle.cg_model.specs.World.{NodeState, Up, Down, Node, World, node_of, replica_of}
use Rattle.cg_model.specs.Show.{StepInProgress, ended}
use Rattle.cg_model.specs.Step.{quietly, hand, hand_over, name_also, recover, snapshot_for, transfer, shown_of, happens, world_step}
use Rattle.cg_model.specs.AtNode.{after_event, hand_to, recover_from, take_pieces}
use Rattle.cg_client.specs.Joined.{piece_count}
use Rattle.cg_agree_lemmas.specs.DiskSwaps.{recover_under-cases}

abbrev pub pieces_by : World → ℕ → ℕ → ℕ → Replica → List Shown
pieces_by w p joiner pieces r = let s = snapshot_for w p joiner r in Pieces s.joiner (min (piece_count s.content) (s.taken + pieces)) (piece_count s.content) ∷ []

abbrev pub shown_by : World → Event → List Shown
shown_by w (Weak p query) = option_map_or (λ r. ShownWeak p (weak_answer r.held query) ∷ []) (replica_of w p) []
shown_by w (Dirty p query) = option_map_or (λ r. ShownDirty p (dirty_answer r.held query) ∷ []) (replica_of w p) []
shown_by w (Show p) = option_map_or shown_of (replica_of w p) []
shown_by w ShowOrder = All w.order ∷ []
shown_by w (Transfer p joiner pieces) = option_map_or (pieces_by w p joiner pieces) (replica_of w p) []
shown_by w other = []

-- ---- events

hand-shown : (go : StepInProgress) (p : ℕ) (input : Input) → (hand go p input).shown ≡ go.shown
unfolding hand
hand-shown go p input = at (node_of go.world p) where
  ends : (t : Turn) (e : EventEnd) → (after_event go p t e).shown ≡ go.shown
  ends t (Runs r disk) = refl
  ends t (Crashes disk green) = refl

  life : (l : NodeState) → (hand_to go p input l).shown ≡ go.shown
  life (Up r disk) = let t = replica_step r input in ends t (end_event disk r.held t)
  life (Down disk green) = refl

  at : (o : Option Node) → (option_map_or (λ s. hand_to go p input s.life) o go).shown ≡ go.shown
  at None = refl
  at (Some s) = life s.life

all-shown : (go : StepInProgress) (list : List (Handed Msg)) → (fold hand_over go list).shown ≡ go.shown
all-shown go [] = refl
all-shown go (h ∷ list) = all-shown (hand_over go h) list ∙ hand-shown go h.to (Deliveries h.list)

recovered-shown : (w : World) (p : ℕ) → (recover w p).shown ≡ []
recovered-shown w p = at (node_of w p) where
  life : (l : NodeState) → (recover_from w l).shown ≡ []
  life (Up r disk) = refl
  life (Down disk green) = refl

  at : (o : Option Node) → (option_map_or (λ s. recover_from w s.life) o (quietly w)).shown ≡ []
  at None = refl
  at (Some s) = life s.life

transferred-shown : (w : World) (p joiner pieces : ℕ) → (transfer w p joiner pieces).shown ≡ option_map_or (pieces_by w p joiner pieces) (replica_of w p) []
transferred-shown w p joiner pieces = at (replica_of w p) where
  at : (o : Option Replica) → (option_map_or (λ r. take_pieces w (snapshot_for w p joiner r) pieces) o (quietly w)).shown ≡ option_map_or (pieces_by w p joiner pieces) o []
  at None = refl
  at (Some r) = refl

pub step-shows : (w : World) (e : Event) → (world_step w e).entry.shown ≡ shown_by w e
unfolding world_step happens ended
step-shows w (Start set) = refl
step-shows w (Split set) = all-shown (quietly (record w { group = (split w.group set).group })) (split w.group set).handed
step-shows w (Merge set) = all-shown (quietly (record w { group = (merge w.group set).group })) (merge w.group set).handed
step-shows w (Request p cmds query) = hand-shown (quietly w) p (AsksOf (Update cmds query))
step-shows w (Weak p query) = refl
step-shows w (Dirty p query) = refl
step-shows w (Order p) = refl
step-shows w (Recover p) = recovered-shown w p
step-shows w (RecoverStopped p call fill) = recover_under-cases w p (record { call = call; fault = StopWith fill }) (λ go. go.shown ≡ []) (λ v is. refl) (recovered-shown w p)
step-shows w (Downgrade p) = refl
step-shows w (Show p) = refl
step-shows w ShowOrder = refl
step-shows w Gather = refl
step-shows w End = refl
step-shows w (Receive p place) = refl
step-shows w (Deliver p count) = all-shown (quietly (record w { group = (deliver w.group p count).group })) (deliver w.group p count).handed
step-shows w (Rounds count) = refl
step-shows w (Stop p call fill) = refl
step-shows w (Fail p call) = refl
step-shows w (Join p joiner weight) = hand-shown (quietly (name_also w joiner)) p (AsksOf (JoinKind joiner weight))
step-shows w (Leave p server) = hand-shown (quietly w) p (AsksOf (LeaveKind server))
step-shows w (Transfer p joiner pieces) = transferred-shown w p joiner pieces

-- ---- what is shown of a replica, and of the order

pub record IsShownOf (w : World) (e : Event) (id : ℕ) (r : Replica) : Type 0 where
  pub asked : ℕ
  pub event : e ≡ Show asked
  pub runs : replica_of w asked ≡ Some r
  pub named : id ≡ r.held.id

abbrev pub OfShown : World → Event → Shown → Type 0
OfShown w e (All list) = (e ≡ ShowOrder) × (list ≡ w.order)
OfShown w e (Greens id list) = (r : Replica) × IsShownOf w e id r × (list ≡ names_of r.held.queue.greens)
OfShown w e (Database id entries) = (r : Replica) × IsShownOf w e id r × (entries ≡ r.held.db)
OfShown w e _ = Unit {0}

pub each-shown : (w : World) (e : Event) → Each (OfShown w e) (shown_by w e)
each-shown w (Weak p query) = at (replica_of w p) where
  at : (o : Option Replica) → Each (OfShown w (Weak p query)) (option_map_or (λ r. ShownWeak p (weak_answer r.held query) ∷ []) o [])
  at None = tt
  at (Some r) = (tt, tt)
each-shown w (Dirty p query) = at (replica_of w p) where
  at : (o : Option Replica) → Each (OfShown w (Dirty p query)) (option_map_or (λ r. ShownDirty p (dirty_answer r.held query) ∷ []) o [])
  at None = tt
  at (Some r) = (tt, tt)
each-shown w (Show p) = at (replica_of w p) refl where
  at : (o : Option Replica) → replica_of w p ≡ o → Each (OfShown w (Show p)) (option_map_or shown_of o [])
  at None e = tt
  at (Some r) e = let is : IsShownOf w (Show p) r.held.id r = record { asked = p; event = refl; runs = e; named = refl } in ((r, is, refl), ((r, is, refl), tt))
each-shown w ShowOrder = ((refl, refl), tt)
each-shown w (Transfer p joiner pieces) = at (replica_of w p) where
  at : (o : Option Replica) → Each (OfShown w (Transfer p joiner pieces)) (option_map_or (pieces_by w p joiner pieces) o [])
  at None = tt
  at (Some r) = (tt, tt)
each-shown w (Start set) = tt
each-shown w (Split set) = tt
each-shown w (Merge set) = tt
each-shown w (Request p cmds query) = tt
each-shown w (Order p) = tt
each-shown w (Recover p) = tt
each-shown w (RecoverStopped p call fill) = tt
each-shown w (Downgrade p) = tt
each-shown w Gather = tt
each-shown w End = tt
each-shown w (Receive p place) = tt
each-shown w (Deliver p count) = tt
each-shown w (Rounds count) = tt
each-shown w (Stop p call fill) = tt
each-shown w (Fail p call) = tt
each-shown w (Join p joiner weight) = tt
each-shown w (Leave p server) = tt

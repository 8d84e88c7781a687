-- An event at a replica that is up ends as the definitions of a step say.
use Rattle.std.proofs.Common.{◌≡◌, ℕ, List, [], Bool, true, false, Option, Some, None, Result, Ok, Err, IfOk, refl, sym, ◌∙◌, ap, subst}
use Rattle.std.specs.Prelude.{nat_lt}
use Rattle.cg_base.specs.declared.action_id.ActionId.{ActionId}
use Rattle.cg_base.specs.Choice.{Either}
use Rattle.cg_action.specs.declared.action.Action.{Action}
use Rattle.cg_disk.specs.State.{DiskState, left_by}
use Rattle.cg_disk.specs.View.{DiskView}
use Rattle.cg_queue.specs.Queue.{green_count}
use Rattle.cg_client.specs.Turn.{Turn}
use Rattle.cg_disk_records.specs.Checkpoint.{size_limit}
use Rattle.cg_disk_records.specs.Commit.{commits}
use Rattle.cg_disk_records.specs.Crash.{Disk, EventEnd, Runs, end_event}
use Rattle.cg_disk_records.specs.Always.{AlwaysCounts}
use Rattle.cg_model.specs.Recorded.{AlwaysKept, AreBooked}
use Rattle.cg_states.specs.ReplicaStep.{Input, replica_step}
use Rattle.cg_store.specs.Calls.{Commits, EndsLong, outputs_of}
use Rattle.cg_store.specs.StoreState.{StoreState}
use Rattle.cg_store.specs.Stands.{OnDisk, Stands, disk_of, committed, checkpointed}
use Rattle.cg_store.specs.Formats.{Standing, newer}
use Rattle.cg_store.specs.declared.outputs.Outputs.{Outputs}
use Rattle.cg_engine.specs.Answers.{parts_of, replica_behind, EndsEvent, HandlesEvent}
use Rattle.cg_engine.specs.Defined.{EndsAsDefined, HandlesAsDefined}
use Rattle.cg_engine.specs.Engines.{Up as UpEngine, Fallen, IsEngine, told}
use Rattle.cg_engine.specs.declared.answers.Handled.{Handled}
use Rattle.cg_engine.specs.declared.answers.Handled.TheVariants as handled
use Rattle.cg_model.specs.World.{Up, Down, Node}
use Rattle.cg_model.specs.Show.{news_of}
use Rattle.cg_model.specs.Step.{behind, taken}
use Rattle.cg_world_events.specs.Nodes.{NodeOutput, node, turned}
use Rattle.cg_world_events.specs.Seen.{disk_seen, up_seen, FallsTo, fallen, said}
use Rattle.cg_world_events.specs.SeenLaws.{disk-seen, state-at, falls-newer}

-- how an event ends that goes on, or falls
abbrev pub gone_on : {D : Type 0} → (D → DiskView) → UpEngine D → List ℕ → Outputs → Node × Option NodeOutput
gone_on view e fill o = (up_seen view e fill, Some (said o e.replica.held))

abbrev pub fallen_down : {D : Type 0} → Fallen D → Standing → Node × Option NodeOutput
fallen_down w s = (fallen w s, None)

module _ {D : Type 0} (view : D → DiskView) (law : HandlesAsDefined view) (kept : AlwaysKept) (counts : AlwaysCounts) (old : UpEngine D) (fill : List ℕ) (input : Input) (book : ActionId → Action) (s : DiskState)
    (tells : (view old.store.disk).state ≡ Some s) (is : IsEngine (view old.store.disk) old.store.id old.store.unwritten old.replica.held) (booked : AreBooked book old.replica.held input) where
  abbrev turn : Turn
  turn = replica_step old.replica input

  -- what the replica has to say where it goes on
  abbrev spoken : NodeOutput
  spoken = (news_of turn, turn.sent)

  abbrev disk_before : Disk
  disk_before = disk_seen view old fill

  abbrev store_at : D → StoreState D
  store_at mid = let k = old.store in record k { disk = mid }

  abbrev wanted : EventEnd → Node × Option NodeOutput
  wanted ended = turned (up_seen view old fill) (Some (behind turn ended))

  ends_seen : (result : Handled D) → HandlesEvent view old is.standing turn result → EndsAsDefined view disk_before old.replica.held turn fill result
  ends_seen result handles =
      subst (λ (disk : Disk). EndsAsDefined view disk old.replica.held turn fill result) (sym (disk-seen view old fill is.standing s is.stands tells))
      (law.event old is.standing input book fill s result is is.stands booked tells handles)

  -- ---- it goes on

  -- whose the store is, and what was given out
  given_in_write : (e : UpEngine D) (o : Outputs) (mid : D) (v : OnDisk) (long : Bool) →
      Either long (EndsLong view (store_at mid) is.standing v (checkpointed v) (parts_of turn) (Ok (e.store, o))) (Commits view (store_at mid) is.standing v (parts_of turn) (Ok (e.store, o))) →
      (e.store.id ≡ old.store.id) × (o ≡ outputs_of true (parts_of turn))
  given_in_write e o mid v true ends = (ends.1, ends.3)
  given_in_write e o mid v false ends = (ends.0.1, ends.1)

  given : (e : UpEngine D) (o : Outputs) (mid : D) (count : ℕ) (written : Bool) → EndsEvent view (store_at mid) count is.standing turn written (handled.Running e o) →
      (e.store.id ≡ old.store.id) × (o ≡ outputs_of written (parts_of turn))
  given e o mid count true ends = let v = committed old.store.unwritten turn is.standing in given_in_write e o mid v (nat_lt size_limit v.size) ends.ends
  given e o mid count false ends = (ap (λ (k : StoreState D). k.id) ends.ends.0, ends.ends.1)

  -- a commit leaves the number of greens
  says : (written : Bool) → said (outputs_of written (parts_of turn)) (replica_behind written turn.replica).held ≡ spoken
  says true = λ i. (
    record { made = turn.made; green = turn.green; count = counts.same_count turn.replica.held (kept.step old.replica input is.follows.held) i; replies = turn.replies },
    turn.sent,
  )
  says false = refl

  spoken_is : (e : UpEngine D) (o : Outputs) (written : Bool) → o ≡ outputs_of written (parts_of turn) → e.replica ≡ replica_behind written turn.replica → said o e.replica.held ≡ spoken
  spoken_is e o written out replica = (λ i. said (out i) (replica i).held) ∙ says written

  pub goes_on : (e : UpEngine D) (o : Outputs) → HandlesEvent view old is.standing turn (handled.Running e o) → gone_on view e fill o ≡ turned (up_seen view old fill) (taken input (Up old.replica disk_before))
  goes_on e o handles =
      let ran = ends_seen (handled.Running e o) handles in
      let written = commits old.replica.held turn in
      let parts = given e o handles.disk (green_count old.replica.held.queue) written handles.ends in
      let speaks : said o e.replica.held ≡ spoken = spoken_is e o written parts.1 handles.ends.leaves in
      let ended : end_event disk_before old.replica.held turn ≡ Runs e.replica (disk_seen view e fill) =
      ran.is ∙ ap (λ (d : Disk). Runs e.replica d) (sym (disk-seen view e fill ran.standing ran.state ran.stands ran.told)) in
      (λ i. (node (parts.0 i) (Up e.replica (disk_seen view e fill)), Some (speaks i))) ∙ ap wanted (sym ended)

  -- ---- or it falls

  pub falls_down : (w : Fallen D) → HandlesEvent view old is.standing turn (handled.Down w) →
      (s : Standing) × FallsTo view w fill s × (fallen_down w s ≡ turned (up_seen view old fill) (taken input (Up old.replica disk_before)))
  falls_down w handles =
      let fell = ends_seen (handled.Down w) handles in
      let u = fell.standing in
      let id_is : w.id ≡ old.store.id = handles.ends.leaves.0.id_is in
      let falls : FallsTo view w fill (newer u) = falls-newer view w fill u (subst (λ (x : DiskState). Stands w.id (left_by x fill) u) (sym (state-at view w.disk fell.state fell.shown)) fell.stands) in
      (newer u, falls, (λ i. (node (id_is i) (Down (disk_of [] u) (told w u.content)), None)) ∙ ap wanted (sym fell.is))

-- what is answered of each state that a crash leaves is answered of this one
pub fallen_so : {D E : Type 0} (view : D → DiskView) (w : Fallen D) (fill : List ℕ) (s : Standing) → FallsTo view w fill s → (result : Result (Node × Option NodeOutput) E) (wanted : Node × Option NodeOutput) → fallen_down w s ≡ wanted →
    IfOk result (λ x. (s : Standing) → FallsTo view w fill s → x ≡ fallen_down w s) → IfOk result (λ x. x ≡ wanted)
fallen_so view w fill s falls (Ok x) wanted is each = each s falls ∙ is
fallen_so view w fill s falls (Err fault) wanted is each = tt

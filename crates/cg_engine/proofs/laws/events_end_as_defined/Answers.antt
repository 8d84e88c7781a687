use Rattle.std.proofs.Common.{refl, ◌∙◌}
use Rattle.cg_disk.specs.Model.{view_of}
use Rattle.cg_states.specs.ReplicaStep.{replica_step}
use Rattle.cg_engine.proofs.Values.{same_count}
use Rattle.cg_engine.proofs.Handling.{follows_at}
use Rattle.cg_engine.proofs.Defining.{ends_as_defined}
use Rattle.cg_engine.proofs.laws.events_end_as_defined.Goals as goal

pub returns : goal.returns
returns c = record {
  event = λ old u input book fill s result is stands booked state handles.
      let counts = c.what_is_held_agrees.ensures.counts in
      let follows = follows_at (view_of old.store.disk) old.store.id old.store.unwritten old.replica.held u is stands in
      let kept = c.each_event_keeps_what_holds.ensures in
      let behind = kept.step old.replica input follows.held in
      ends_as_defined view_of c.strikes_end_as_defined.ensures old u (replica_step old.replica input) fill s state (λ d. (_, refl))
      (same_count u.content old.store.unwritten old.replica.held follows.ahead)
      (counts.same_count (replica_step old.replica input).replica.held behind ∙ kept.counted old.replica input follows.held) result stands handles;
}

-- What is armed on the disk of a replica that is up.
use Rattle.std.proofs.Common.{◌≡◌, ℕ, ◌+◌, ◌-◌, List, Some, ◌∙◌, ap, arith}
use Rattle.std.specs.Option.{option_map}
use Rattle.cg_disk.specs.Crashes.{armed_at, Arms}
use Rattle.cg_disk.specs.State.{DiskState, Blow}
use Rattle.cg_disk.specs.View.{DiskView}
use Rattle.cg_disk_records.specs.Crash.{Strike}
use Rattle.cg_disk_records.specs.Format.{all_newer}
use Rattle.cg_store.specs.Defined.{fault_of}
use Rattle.cg_engine.specs.Engines.{Up as UpEngine, IsSame}
use Rattle.cg_engine.specs.Defined.{strike_from}
use Rattle.cg_model.specs.World.{Up}
use Rattle.cg_model.specs.Step.{armed}
use Rattle.cg_world_events.specs.Nodes.{node, changed}
use Rattle.cg_world_events.specs.Seen.{standing_at, state_at, disk_seen, up_seen}
use Rattle.cg_world_events.specs.SeenLaws.{state-at}

module _ {D : Type 0} (view : D → DiskView) (old new : UpEngine D) (before after : List ℕ) (blow : Blow) (n : ℕ) (s : DiskState)
    (told : (view old.store.disk).state ≡ Some s) (arms : Arms blow n (view old.store.disk) (view new.store.disk)) (same : IsSame old new) where
  abbrev strike : Strike
  strike = record { call = n; fault = fault_of blow after }

  strike_is : option_map (strike_from (view new.store.disk).time after) (state_at (view new.store.disk)).strike ≡ Some strike
  strike_is =
      let at = (view old.store.disk).time + n in
      let ahead : at - (view new.store.disk).time ≡ n = omega (arith, arms.time) in
      ap (λ (x : DiskState). option_map (strike_from (view new.store.disk).time after) x.strike)
      (state-at view new.store.disk (armed_at at blow s) (arms.state ∙ ap (option_map (armed_at at blow)) told))
      ∙ (λ i. Some (record { call = ahead i; fault = fault_of blow after }))

  pub arms_seen : up_seen view new after ≡ changed (up_seen view old before) (armed strike (up_seen view old before).life)
  unfolding disk_seen
  arms_seen = λ i.
      let u = standing_at (same.id i) (arms.reads i) in
      node (same.id i) (Up (same.replica i) (record { content = u.content; unwritten = same.unwritten i; size = u.size; generation = u.generation; format = all_newer; armed = strike_is i }))

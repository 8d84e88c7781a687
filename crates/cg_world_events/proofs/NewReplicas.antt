-- A new replica is up with a new disk.
use Rattle.std.proofs.Common.{◌≡◌, ℕ, List, [], Option, Some, None, refl, sym, ◌∙◌, subst}
use Rattle.std.specs.Option.{option_map}
use Rattle.cg_base.specs.declared.weighted.Weighted.{Weighted}
use Rattle.cg_action.specs.declared.action.Action.{Action}
use Rattle.cg_disk.specs.Crashes.{IsNew, clean_disk}
use Rattle.cg_disk.specs.State.{DiskState, DiskStrike}
use Rattle.cg_disk.specs.View.{DiskView}
use Rattle.cg_client.specs.Replica.{fresh, fresh_held}
use Rattle.cg_disk_records.specs.Crash.{Disk, new_disk}
use Rattle.cg_store.specs.Defined.{EndsAsDefined}
use Rattle.cg_store.specs.Stands.{OnDisk, Stands, created, disk_of}
use Rattle.cg_engine.specs.Answers.{IsStarted}
use Rattle.cg_engine.specs.Defined.{strike_from}
use Rattle.cg_engine.specs.Engines.{Up as UpEngine}
use Rattle.cg_model.specs.World.{Up}
use Rattle.cg_world_events.specs.Nodes.{node, new_node}
use Rattle.cg_world_events.specs.RestingLaws.{stays_unarmed}
use Rattle.cg_world_events.specs.Seen.{disk_seen, up_seen}
use Rattle.cg_world_events.specs.SeenLaws.{disk-seen}

-- a disk on which this is armed
abbrev armed_so : List Action → OnDisk → Option DiskStrike → ℕ → List ℕ → Disk
armed_so unwritten u strike now fill = let d = disk_of unwritten u in record d { armed = option_map (strike_from now fill) strike }

pub starts_so : {D : Type 0} (view : D → DiskView) → EndsAsDefined → (id : ℕ) (set : List Weighted) (old : DiskView) (e : UpEngine D) (fill : List ℕ) (z : DiskState) →
    IsNew old → (view e.store.disk).state ≡ Some z → IsStarted view id set old e → up_seen view e fill ≡ new_node id (fresh id set)
starts_so view strikes id set old e fill z new told started =
    let u = created (fresh_held id set) in
    let now = (view e.store.disk).time in
    let there : Stands e.store.id (view e.store.disk).reads u = subst (λ p. Stands p (view e.store.disk).reads u) (sym started.id_is) started.reached.stands in
    let unarmed : z.strike ≡ None = stays_unarmed old (view e.store.disk) (clean_disk (record { a = []; b = [] })) z started.reached.unstruck new.state refl told in
    let disk : disk_seen view e fill ≡ new_disk (fresh_held id set) =
    disk-seen view e fill u z there told
    ∙ (λ i. armed_so (started.unwritten i) u (unarmed i) now fill)
    ∙ strikes.new (fresh_held id set) in
    λ i. node (started.id_is i) (Up (started.replica i) (disk i))

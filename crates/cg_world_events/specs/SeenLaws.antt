-- What is seen of a replica with its disk, where it is known what the disk stands for and tells.
use Rattle.std.specs.Prelude.{◌≡◌, List, ℕ, [], Some, unwrap_or}
use Rattle.std.proofs.Common.{ap, ◌∙◌}
use Rattle.cg_disk.specs.Crashes.{clean_disk}
use Rattle.cg_disk.specs.State.{DiskState, left_by}
use Rattle.cg_disk.specs.View.{DiskView}
use Rattle.cg_client.specs.Replica.{fresh_held}
use Rattle.cg_store.specs.Stands.{OnDisk, Stands, created}
use Rattle.cg_store.specs.Formats.{Standing, StandsFor, newer, disk_in}
use Rattle.cg_store.specs.NewerLaws.{stands_newer}
use Rattle.cg_engine.specs.Engines.{Up as UpEngine, Fallen, told}
use Rattle.cg_engine.specs.Defined.{account}
use Rattle.cg_world_events.specs.Seen.{standing_at, resting_at, state_at, disk_seen, disk_left, green_left, down_seen, FallsTo, fallen}
use Rattle.cg_model.specs.World.{Down}
use Rattle.cg_world_events.specs.Nodes.{node}

pub standing-at : {D : Type 0} → (view : D → DiskView) → (id : ℕ) (disk : D) (u : OnDisk) →
    Stands id (view disk).reads u → standing_at id (view disk).reads ≡ u
standing-at view id disk u stands = ap (λ found. unwrap_or found (created (fresh_held 1 []))) stands

pub state-at : {D : Type 0} → (view : D → DiskView) → (disk : D) (s : DiskState) → (view disk).state ≡ Some s →
    state_at (view disk) ≡ s
state-at view disk s told = ap (λ found. unwrap_or found (clean_disk (view disk).reads)) told

pub disk-seen : {D : Type 0} → (view : D → DiskView) → (e : UpEngine D) (fill : List ℕ) (u : OnDisk) (s : DiskState) →
    Stands e.store.id (view e.store.disk).reads u → (view e.store.disk).state ≡ Some s →
    disk_seen view e fill ≡ account e.store.unwritten u (view e.store.disk).time fill s
unfolding disk_seen
disk-seen view e fill u s stands told =
    ap (λ (x : OnDisk). account e.store.unwritten x (view e.store.disk).time fill (state_at (view e.store.disk)))
    (standing-at view e.store.id e.store.disk u stands)
    ∙ ap (λ (x : DiskState). account e.store.unwritten u (view e.store.disk).time fill x) (state-at
    view e.store.disk s told)

pub resting-at : {D : Type 0} → (view : D → DiskView) → (id : ℕ) (disk : D) (s : Standing) →
    StandsFor id (view disk).reads s → resting_at id (view disk).reads ≡ s
resting-at view id disk s stands = ap (λ found. unwrap_or found (newer (created (fresh_held 1 [])))) stands

pub disk-left : {D : Type 0} → (view : D → DiskView) → (w : Fallen D) (s : Standing) →
    StandsFor w.id (view w.disk).reads s → disk_left view w ≡ disk_in [] s
unfolding disk_left
disk-left view w s stands = ap (λ (x : Standing). disk_in [] x) (resting-at view w.id w.disk s stands)

pub green-left : {D : Type 0} → (view : D → DiskView) → (w : Fallen D) (s : Standing) →
    StandsFor w.id (view w.disk).reads s → green_left view w ≡ told w s.on.content
unfolding green_left
green-left view w s stands = ap (λ (x : Standing). told w x.on.content) (resting-at view w.id w.disk s stands)

pub down-seen : {D : Type 0} → (view : D → DiskView) → (w : Fallen D) (s : Standing) →
    StandsFor w.id (view w.disk).reads s → down_seen view w ≡ fallen w s
down-seen view w s stands = λ i. node w.id (Down (disk-left view w s stands i) (green-left view w s stands i))

-- a crash that leaves the newer header on both sides
pub falls-newer : {D : Type 0} → (view : D → DiskView) → (w : Fallen D) (fill : List ℕ) (u : OnDisk) →
    Stands w.id (left_by (state_at (view w.disk)) fill) u → FallsTo view w fill (newer u)
falls-newer view w fill u stands = stands_newer w.id (left_by (state_at (view w.disk)) fill) u stands

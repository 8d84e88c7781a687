-- A crash between two events leaves what stands on the disk, and tells nothing.
use Rattle.std.proofs.Common.{◌≡◌, ℕ, suc, nat_lt, Bool, true, false, List, [], ◌∷◌, Some, Result, Ok, Err, refl, sym, ◌∙◌, ap, subst}
use Rattle.std.specs.Prelude.{IfSome, IfOk, drop, if◌then◌else◌}
use Rattle.cg_queue.specs.Queue.{green_count}
use Rattle.cg_disk.specs.Sides.{Image}
use Rattle.cg_disk.specs.State.{SideState, DiskState, synced_side, filled_from, filled, unsynced_from, left_by, shown}
use Rattle.cg_disk.specs.View.{DiskView, IsView, IsSynced, IsAtRest}
use Rattle.cg_client.specs.Replica.{Held}
use Rattle.cg_disk_records.specs.Crash.{at_rest}
use Rattle.cg_store.specs.Formats.{newer}
use Rattle.cg_store.specs.Stands.{OnDisk, Stands, disk_of}
use Rattle.cg_engine.specs.Answers.{Falls}
use Rattle.cg_engine.specs.Engines.{Up as UpEngine, Fallen, told}
use Rattle.cg_model.specs.World.{Down}
use Rattle.cg_model.specs.Step.{crashed}
use Rattle.cg_world_events.specs.Nodes.{node, changed}
use Rattle.cg_world_events.specs.Seen.{state_at, disk_seen, up_seen, FallsTo, fallen}
use Rattle.cg_world_events.specs.SeenLaws.{state-at, disk-seen, falls-newer}

-- ---- a disk on which everything is synced

filled_clean : (old seen : List ℕ) (place : ℕ) (bytes fill : List ℕ) → filled_from (record { old = old; seen = seen; unsynced = [] }) place bytes fill ≡ bytes
filled_clean old seen place [] fill = refl
filled_clean old seen place (byte ∷ bytes) fill = ap (λ rest. byte ∷ rest) (filled_clean old seen (suc place) bytes fill)

filled_synced : (s : SideState) → s ≡ synced_side s → (fill : List ℕ) → filled s fill ≡ s.seen
filled_synced s clean fill = ap (λ (x : SideState). filled_from x 0 s.seen fill) clean ∙ filled_clean s.seen s.seen 0 s.seen fill

left_clean : (s : DiskState) → IsSynced s → (fill : List ℕ) → left_by s fill ≡ shown s
left_clean s clean fill = λ i. record { a = filled_synced s.a clean.0 fill i; b = filled_synced s.b clean.1 (drop (unsynced_from s.a 0 s.a.seen) fill) i }

-- ---- an answer, where there is one

pub if_ok_then : {T E : Type 0} (r : Result T E) (P Q : T → Type 0) → ((x : T) → P x → Q x) → IfOk r P → IfOk r Q
if_ok_then (Ok x) P Q next is = next x is
if_ok_then (Err fault) P Q next is = tt

-- ---- nothing is told

told_empty : {D : Type 0} (w : Fallen D) (h : Held) → w.green ≡ [] → told w h ≡ []
told_empty w h none = at (nat_lt w.count (green_count h.queue)) where
  at : (b : Bool) → (if b then w.green else []) ≡ []
  at true = none
  at false = refl

-- ---- the crash

module _ {D : Type 0} (view : D → DiskView) (e : UpEngine D) (w : Fallen D) (falls : Falls e w) (is : IsView (view e.store.disk)) (rest : IsAtRest (view e.store.disk))
    (s : DiskState) (state : (view e.store.disk).state ≡ Some s) (u : OnDisk) (stands : Stands e.store.id (view e.store.disk).reads u) where
  pub falls_to : FallsTo view w [] (newer u)
  falls_to =
      let clean : IsSynced s = subst (λ x. IfSome x IsSynced) state rest.clean in
      let reads : shown s ≡ (view e.store.disk).reads = subst (λ x. IfSome x (λ s. shown s ≡ (view e.store.disk).reads)) state is.shows in
      let left : left_by (state_at (view e.store.disk)) [] ≡ (view e.store.disk).reads = ap (λ (x : DiskState). left_by x []) (state-at view e.store.disk s state) ∙ left_clean s clean [] ∙ reads in
      falls-newer view w [] u
      (subst (λ (d : D). Stands w.id (left_by (state_at (view d)) []) u) (sym falls.disk)
      (subst (λ (id : ℕ). Stands id (left_by (state_at (view e.store.disk)) []) u) (sym falls.left.id_is)
      (subst (λ (c : Image). Stands e.store.id c u) (sym left) stands)))

  pub falls_seen : (fill : List ℕ) → fallen w (newer u) ≡ changed (up_seen view e fill) (crashed (up_seen view e fill).life)
  falls_seen fill =
      let disk : disk_of [] u ≡ at_rest (disk_seen view e fill) = sym (ap at_rest (disk-seen view e fill u s stands state)) in
      let none : told w u.content ≡ [] = told_empty w u.content falls.green in
      λ i. node (falls.left.id_is i) (Down (disk i) (none i))

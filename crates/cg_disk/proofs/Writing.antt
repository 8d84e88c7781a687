-- What a write to a disk in memory shows of it.
use Rattle.std.proofs.Common.{◌≡◌, ℕ, suc, ◌≤◌, List, length, refl, sym, ◌∙◌, ap, subst}
use Rattle.cg_disk.specs.Sides.{Image, bytes_of}
use Rattle.cg_disk.specs.State.{SideState, DiskState, Leaves, wrote, shown}
use Rattle.cg_disk.specs.Writes.{TornSide, Follows}
use Rattle.cg_disk.specs.Model.{side_of, state_of, view_of, SameSides, IsWritten}
use Rattle.cg_disk.specs.Calls as calls
use Rattle.cg_disk.specs.declared.disk.Side.{Side}
use Rattle.cg_disk.specs.declared.disk.Side.TheVariants.{A, B}
use Rattle.cg_disk.specs.declared.model_disk.ModelDisk.{ModelDisk}
use Rattle.cg_disk.proofs.Tearing.{grows, torn_from}
use Rattle.cg_disk.proofs.Counting.{same_sides, grown_elapses}

-- the images after a write are those before it, with the write torn
pub write_follows : (side : Side) (offset : ℕ) (new : List ℕ) (m : ModelDisk) → offset ≤ length (bytes_of side (shown (state_of m)))
    → Follows (TornSide side offset (length new)) (Leaves (side_of m.a) (side_of m.b)) (Leaves ((wrote side offset new (state_of m)).a) ((wrote side offset new (state_of m)).b))
write_follows A offset new m inside c left =
    let from = torn_from (side_of m.a) new offset inside m.a.grown c.a left.on_a in
    (record { a = from.0; b = c.b }, record { on_a = from.1; on_b = left.on_b }, record { torn = from.2; other = refl })
write_follows B offset new m inside c left =
    let from = torn_from (side_of m.b) new offset inside m.b.grown c.b left.on_b in
    (record { a = c.a; b = from.0 }, record { on_a = left.on_a; on_b = from.1 }, record { torn = from.2; other = refl })

-- and none is lost
pub write_grows : (side : Side) (offset : ℕ) (new : List ℕ) (m : ModelDisk) → offset ≤ length (bytes_of side (shown (state_of m))) → (c : Image)
    → Leaves (side_of m.a) (side_of m.b) c → Leaves ((wrote side offset new (state_of m)).a) ((wrote side offset new (state_of m)).b) c
write_grows A offset new m inside c left = record { on_a = grows (side_of m.a) new offset inside c.a left.on_a; on_b = left.on_b }
write_grows B offset new m inside c left = record { on_a = left.on_a; on_b = grows (side_of m.b) new offset inside c.b left.on_b }

-- a write takes no old byte away
old_a : (side : Side) (offset : ℕ) (new : List ℕ) (d : DiskState) → (wrote side offset new d).a.old ≡ d.a.old
old_a A offset new d = refl
old_a B offset new d = refl

old_b : (side : Side) (offset : ℕ) (new : List ℕ) (d : DiskState) → (wrote side offset new d).b.old ≡ d.b.old
old_b A offset new d = refl
old_b B offset new d = refl

module _ (side : Side) (offset : ℕ) (new : List ℕ) (m w n : ModelDisk) (inside : offset ≤ length (bytes_of side (shown (state_of m)))) (written : IsWritten side offset new m w) (same : SameSides w n) where
  side_a : side_of n.a ≡ (wrote side offset new (state_of m)).a
  side_a = (same_sides w n same).0 ∙ written.a

  side_b : side_of n.b ≡ (wrote side offset new (state_of m)).b
  side_b = (same_sides w n same).1 ∙ written.b

  pub written_crash : Follows (TornSide side offset (length new)) (Leaves (side_of m.a) (side_of m.b)) (Leaves (side_of n.a) (side_of n.b))
  written_crash c left = write_follows side offset new m inside c (subst (λ x. Leaves x ((wrote side offset new (state_of m)).b) c) side_a (subst (λ y. Leaves (side_of n.a) y c) side_b left))

  pub written_elapses : n.calls ≡ suc m.calls → calls.Elapses (view_of m) (view_of n)
  written_elapses called = grown_elapses m n called (same.begun ∙ written.begun) (same.past ∙ written.past)
      (ap (λ (s : SideState). s.old) side_a ∙ old_a side offset new (state_of m))
      (ap (λ (s : SideState). s.old) side_b ∙ old_b side offset new (state_of m))
      (λ c left. subst (λ x. Leaves x (side_of n.b) c) (sym side_a) (subst (λ y. Leaves ((wrote side offset new (state_of m)).a) y c) (sym side_b) (write_grows side offset new m inside c left)))

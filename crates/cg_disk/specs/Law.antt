-- A disk in memory has a view of a disk.
use Rattle.std.specs.Prelude.{ℕ, ◌<◌, IfSome, refl, List}
use Rattle.std.proofs.Common.{inl, inr, arith}
use Rattle.cg_disk.specs.Sides.{Image}
use Rattle.cg_disk.specs.State.{SideState, Leaves}
use Rattle.cg_disk.specs.View.{IsView}
use Rattle.cg_disk.specs.Armed.{strike_of}
use Rattle.cg_disk.specs.Past.{SyncPoint, MayHaveLeft}
use Rattle.cg_disk.specs.Model.{points_of, side_of, view_of}
use Rattle.cg_disk.specs.declared.armed.Armed.{Armed}
use Rattle.cg_disk.specs.declared.armed.Armed.TheVariants.{Nothing, Failure, Stop}
use Rattle.cg_disk.specs.declared.model_disk.ModelDisk.{ModelDisk}

-- what is armed is still to come
is_ahead : (calls : ℕ) (armed : Armed) → IfSome (strike_of calls armed) (λ strike. calls < strike.call)
is_ahead calls Nothing = tt
is_ahead calls (Failure others) = omega arith
is_ahead calls (Stop others) = omega arith

-- since now there is no other moment
is_now : (a b : SideState) (calls begun : ℕ) (points : List SyncPoint) (c : Image) →
    MayHaveLeft a b calls begun points calls c → Leaves a b c
is_now a b calls begun points c (inl now) = now
is_now a b calls begun points c (inr past) = absurd (omega (arith, past.0))

pub is_view_of : (m : ModelDisk) → IsView (view_of m)
is_view_of m = record {
  counts_now = λ t c le now. inl now;
  only_now = is_now (side_of m.a) (side_of m.b) m.calls m.begun (points_of m);
  shows = refl;
  ahead = is_ahead m.calls m.armed;
}

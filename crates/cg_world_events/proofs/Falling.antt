-- A crash leaves a disk that stands for a state.
use Rattle.std.proofs.Common.{◌≡◌, ℕ, List, Option, Some, sym, ◌∙◌, subst}
use Rattle.std.specs.Prelude.{IfSome}
use Rattle.cg_disk.specs.Crashes.{IsCrashed}
use Rattle.cg_disk.specs.State.{DiskState, left_by}
use Rattle.cg_disk.specs.View.{DiskView}
use Rattle.cg_store.specs.Formats.{Standing, StandsFor}
use Rattle.cg_engine.specs.Engines.{Fallen, told}
use Rattle.cg_model.specs.World.{Down}
use Rattle.cg_world_events.specs.Nodes.{node}
use Rattle.cg_world_events.specs.Seen.{FallsTo, fallen, down_seen}
use Rattle.cg_world_events.specs.SeenLaws.{state-at, disk-left, green-left}

module _ {D : Type 0} (view : D → DiskView) (old new : Fallen D) (fill : List ℕ) (s : DiskState) (tells : (view old.disk).state ≡ Some s) (crashed : IsCrashed fill (view old.disk) (view new.disk)) (id_is : new.id ≡ old.id) where
  -- what the crash has left
  left_is : (view new.disk).reads ≡ left_by s fill
  left_is = subst (λ (o : Option DiskState). IfSome o (λ x. (view new.disk).reads ≡ left_by x fill)) tells crashed.reads

  pub stands_so : (u : Standing) → FallsTo view old fill u → StandsFor new.id (view new.disk).reads u
  stands_so u falls =
      let there : StandsFor old.id (left_by s fill) u = subst (λ (x : DiskState). StandsFor old.id (left_by x fill) u) (state-at view old.disk s tells) falls in
      subst (λ p. StandsFor p (view new.disk).reads u) (sym id_is) (subst (λ c. StandsFor old.id c u) (sym left_is) there)

  pub falls_so : (u : Standing) → new.count ≡ old.count → new.green ≡ old.green → FallsTo view old fill u → down_seen view new ≡ fallen old u
  falls_so u count_is green_is falls =
      let there = stands_so u falls in
      let names : told new u.on.content ≡ told old u.on.content = λ i. told (record { disk = old.disk; id = old.id; count = count_is i; green = green_is i }) u.on.content in
      λ i. node (id_is i) (Down (disk-left view new u there i) ((green-left view new u there ∙ names) i))

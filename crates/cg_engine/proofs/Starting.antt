-- What a new replica holds has a checkpoint, and follows it.
use Rattle.std.proofs.Common.{◌≡◌, ℕ, ◌≤◌, ◌-◌, List, [], max, refl, sym, subst, arith}
use Rattle.std.specs.Prelude.{◌<◌, IfSome}
use Rattle.std.proofs.Math.Seq.{drop-nil}
use Rattle.cg_action.specs.declared.action.Action.{Action}
use Rattle.cg_base.specs.declared.weighted.Weighted.{Weighted}
use Rattle.cg_disk.specs.View.{DiskView, IsView}
use Rattle.cg_journal.specs.Fresh.{IsRefusedWithin}
use Rattle.cg_client.specs.Replica.{Held, fresh_held}
use Rattle.cg_client.specs.Whitening.{line_of}
use Rattle.cg_disk_records.specs.Stored.{stored_of, whiten}
use Rattle.cg_disk_records.specs.Agreeing.{Agrees}
use Rattle.cg_model.specs.Following.{Follows}
use Rattle.cg_disk_records.specs.Always.{AlwaysHolds, AlwaysCounts, AlwaysSettled}
use Rattle.cg_store.specs.Answers.{IsReached}
use Rattle.cg_store.specs.StoreState.{StoreState}
use Rattle.cg_store.specs.Stands.{Stands, created, disk_of}
use Rattle.cg_engine.specs.Answers.{Starts, IsBare}
use Rattle.cg_engine.specs.Engines.{Fallen, IsEngine}
use Rattle.cg_engine.specs.declared.answers.Started.TheVariants.{NoMemory}
use Rattle.cg_engine.proofs.Ending.{if_mapped}

module _ (holds : AlwaysHolds) (counts : AlwaysCounts) (id : ℕ) (set : List Weighted) where
  -- there is nothing to discard
  none_white : whiten (fresh_held id set) ≡ fresh_held id set
  unfolding whiten
  none_white =
      let h = fresh_held id set in
      let line : line_of h ≤ 0 = counts.line h (holds.fresh id set) in
      let zero_line : max 0 (line_of h) ≡ 0 = omega arith in
      let q = h.queue in
      λ i. record h { queue = record q { white = zero_line i; greens = drop-nil {A = Action} (max 0 (line_of h) - 0) i } }

  pub fresh_agrees : AlwaysSettled → Agrees (stored_of (fresh_held id set))
  fresh_agrees settled = subst (λ h. Agrees (stored_of h)) none_white (settled (fresh_held id set) (holds.fresh id set))

  pub fresh_follows : Follows (disk_of [] (created (stored_of (fresh_held id set)))) (fresh_held id set)
  fresh_follows = record {
    on_disk = record { content = holds.fresh id set; buffered = refl; owed = refl };
    held = holds.fresh id set;
    ahead = refl;
  }

  -- the engine of a disk that was created
  pub fresh_engine : {D : Type 0} (view : D → DiskView) (k : StoreState D) (old : DiskView) (core h : Held) → core ≡ fresh_held id set → h ≡ fresh_held id set →
      IsReached core.id 7 (created (stored_of core)) old (view k.disk) × (k.id ≡ core.id) × (k.unwritten ≡ []) → IsEngine (view k.disk) k.id k.unwritten h
  fresh_engine view k old core h core_is h_is is = record {
    standing = created (stored_of core);
    stands = subst (λ n. Stands n (view k.disk).reads (created (stored_of core))) (sym is.1) is.0.stands;
    follows =
        subst (λ x. Follows (disk_of x (created (stored_of core))) h) (sym is.2)
        (subst (λ c. Follows (disk_of [] (created (stored_of c))) h) (sym core_is)
        (subst (λ x. Follows (disk_of [] (created (stored_of (fresh_held id set)))) x) (sym h_is) fresh_follows));
  }

-- ---- memory was refused before the first call

pub not_begun : {D : Type 0} (view : D → DiskView) (disk : D) (id : ℕ) (set : List Weighted) (w : Fallen D) → IsView (view disk) → w ≡ record { disk = disk; id = id; count = 0; green = [] } →
    Starts view id set (view disk) (NoMemory w)
not_begun view disk id set w is at = subst (λ f. Starts view id set (view disk) (NoMemory f)) (sym at) (refused, bare)
  where
    refused : IsRefusedWithin 7 (view disk) (view disk)
    refused = record {
      unstruck = record { faults = refl; stays = refl; ahead = if_mapped (view disk).state (λ strike. IfSome strike (λ s. (view disk).time < s.call)) is.ahead };
      time = omega arith;
    }

    bare : IsBare id (record { disk = disk; id = id; count = 0; green = [] })
    bare = record { id_is = refl; green = refl }

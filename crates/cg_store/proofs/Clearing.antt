-- The side that isn't in use is cleared: at each moment the disk stands for the same.
use Rattle.std.proofs.Common.{◌≡◌, ℕ, ◌+◌, Some, Err, refl, sym, ◌∙◌, ap, subst, inl, inr, arith}
use Rattle.cg_disk.specs.Sides.{Image, opposite}
use Rattle.cg_disk.specs.State.{left_by}
use Rattle.cg_disk.specs.View.{DiskView, LeavesOnly}
use Rattle.cg_disk.specs.declared.disk.Side.{Side}
use Rattle.cg_disk.specs.declared.disk.Side.TheVariants.{A, B}
use Rattle.cg_journal.specs.Found.{Sides, sides, blank, found_at, with_found, front_on}
use Rattle.cg_journal.specs.Renews.{MayGo, IsUnrenewed, MomentsOf}
use Rattle.cg_journal.specs.Clears.{front_left, IsLostClearing, IsClearedBy, IsUnclearedBy, Clears as JournalClears}
use Rattle.cg_journal.specs.declared.open.MigrateErr.{MigrateErr}
use Rattle.cg_journal.specs.declared.open.MigrateErr.TheVariants.{Lost, NoMemory}
use Rattle.cg_journal.specs.declared.open.SideRecords.{SideRecords}
use Rattle.cg_journal.specs.Answers.{CanBeRead}
use Rattle.cg_journal.specs.ViewLaws.{weakened}
use Rattle.cg_disk_records.specs.Stored.{Stored}
use Rattle.cg_disk_records.specs.Format.{Newer}
use Rattle.cg_store.specs.Stands.{OnDisk, Stands}
use Rattle.cg_store.specs.Formats.{chosen_in, Standing, StandsFor, StandsForState, opened}
use Rattle.cg_store.specs.FormatLaws.{chosen_blank, stands_as}
use Rattle.cg_store.specs.Answers.{IsReached}
use Rattle.cg_store.specs.Settling.{IsLostSettling, IsUnsettled, IsClearing, IsNewerOn, Clears}
use Rattle.cg_store.proofs.Versions.{sides_newer_too, stands_in_newer}

pub opposite_twice : (side : Side) → opposite (opposite side) ≡ side
opposite_twice A = refl
opposite_twice B = refl

pub across : (used side : Side) → used ≡ opposite side → opposite used ≡ side
across used side on = ap opposite on ∙ opposite_twice side

pub found_same : (side : Side) (r : SideRecords) (s : Sides) → found_at side (with_found side r s) ≡ r
found_same A r s = refl
found_same B r s = refl

pub found_other : (side : Side) (r : SideRecords) (s : Sides) → found_at (opposite side) (with_found side r s) ≡ found_at (opposite side) s
found_other A r s = refl
found_other B r s = refl

pub version_other : (side : Side) (r : SideRecords) (s : Sides) (version : ℕ) → (found_at (opposite side) s).version ≡ version → (found_at (opposite side) (with_found side r s)).version ≡ version
version_other side r s version is = ap (λ (x : SideRecords). x.version) (found_other side r s) ∙ is

-- the side in use, seen from the other one
pub across_back : (used here side : Side) → used ≡ here → side ≡ opposite here → used ≡ opposite side
across_back used here side on is = on ∙ sym (opposite_twice here) ∙ ap opposite (sym is)

-- whatever the format
pub state_of : (id : ℕ) (c : Image) (s : Standing) (content : Stored) → StandsFor id c s → s.on.content ≡ content → StandsForState id content c
state_of id c s content stands is = record { standing = s; stands = stands; content_is = is }

-- the side in use is of this version, and the other one is as it was or has no records
pub unrenewed_stands : (id : ℕ) (s : Sides) (u : OnDisk) (side : Side) (version : ℕ) → u.side ≡ opposite side → chosen_in id s ≡ Some u → (found_at (opposite side) s).version ≡ version → (c : Image) → IsUnrenewed side s c →
    (t : Sides) × (sides c ≡ Some t) × (chosen_in id t ≡ Some u) × ((found_at (opposite side) t).version ≡ version)
unrenewed_stands id s u side version on stands is c (inl same) = (s, same, stands, is)
unrenewed_stands id s u side version on stands is c (inr empty) =
    (with_found side (blank empty.version) s, empty.is, chosen_blank id s u side empty.version stands on, version_other side (blank empty.version) s version is)

-- ---- the journal of it

pub newer_back : (here side : Side) (d : DiskView) → side ≡ opposite here → IsNewerOn here d → IsNewerOn (opposite side) d
newer_back here side d is n = subst (λ x. IsNewerOn x d) (sym (opposite_twice here) ∙ ap opposite (sym is)) n

-- a side of the newer format, and the other one without records
pub goes : (side : Side) (d : DiskView) (n : IsNewerOn (opposite side) d) → MayGo side n.on d
goes side d n = record { found = n.found; other = λ none. absurd (omega (arith, n.version_is, none)) }

pub cleared_reads : (side : Side) (old new : DiskView) (n : IsNewerOn (opposite side) old) → IsClearedBy side n.on old new → CanBeRead new
cleared_reads side old new n is = record {
  all = _;
  read = sides_newer_too side new.reads (with_found side (blank 2) n.on) is.is (ap (λ (x : SideRecords). x.version) (found_same side (blank 2) n.on)) (version_other side (blank 2) n.on 2 n.version_is);
}

-- ---- the calls

module _ (id earlier : ℕ) (was : Standing) (s : Sides) (u : OnDisk) (old new : DiskView) (side : Side) (ready : IsClearing id earlier was s u old) (on : u.side ≡ opposite side) where
  newer_at : (found_at (opposite side) s).version ≡ 2
  newer_at = subst (λ x. (found_at x s).version ≡ 2) on ready.version_is

  clearing_stands : (c : Image) → IsUnrenewed side s c → StandsFor id c (record { on = u; format = Newer (front_on side c) })
  clearing_stands c is =
      let t = unrenewed_stands id s u side 2 on ready.used.stands newer_at c is in
      stands_as id c t.0 u side 2 t.1 t.2 on t.3

  clearing_state : (c : Image) → IsUnrenewed side s c → StandsForState id was.on.content c
  clearing_state c is = state_of id c (record { on = u; format = Newer (front_on side c) }) was.on.content (clearing_stands c is) (sym ready.content_is)

  pub may_go : MayGo side s old
  may_go = record { found = ready.used.found; other = λ none. absurd (omega (arith, newer_at, none)) }

  pub cleared_moments : LeavesOnly old new (IsUnrenewed side s) → LeavesOnly old new (StandsForState id was.on.content)
  cleared_moments run = weakened old new (IsUnrenewed side s) (StandsForState id was.on.content) run clearing_state

  pub cleared_reached : IsClearedBy side s old new → IsReached id 4 (opened was) old new
  cleared_reached is = record {
    stands = subst (Stands id new.reads) (sym ready.opened_is)
        (stands_in_newer side id new.reads (with_found side (blank 2) s) u is.is (ap (λ (x : SideRecords). x.version) (found_same side (blank 2) s)) (version_other side (blank 2) s 2 newer_at)
        (chosen_blank id s u side 2 ready.used.stands on));
    rest = is.rest;
    time = is.time;
    unstruck = is.unstruck;
  }

  pub cleared_lost : IsLostClearing side s old new → LeavesOnly old new (IsUnrenewed side s) → IsLostSettling id earlier was old new
  cleared_lost is run = record {
    call = earlier + is.call;
    struck = is.struck;
    time = omega (arith, is.time);
    within = omega (arith, ready.within, is.within.1);
    images = λ c left. clearing_state c (is.images c left);
    reads = is.reads;
    told = λ d e before after.
        let t = is.told d e before after in
        record {
          strike = t.strike;
          armed = t.armed;
          fills = λ fill. subst (StandsFor id (left_by e fill))
              (ap (λ front. let x : Standing = record { on = u; format = Newer front } in x)
              (t.fronts fill ∙ ap (λ x. front_left t.strike.blow is.call fill (front_on x old.reads)) (sym (across u.side side on)))
              ∙ sym (ready.left is.call t.strike.blow fill is.within.0 is.within.1))
              (clearing_stands (left_by e fill) (t.images fill));
        };
    moments = cleared_moments run;
  }

  pub cleared_refused : IsUnclearedBy side s old new → LeavesOnly old new (IsUnrenewed side s) → IsUnsettled id 2 was old new
  cleared_refused is run = record {
    stands = clearing_state new.reads is.is;
    time = is.time;
    unstruck = is.unstruck;
    moments = cleared_moments run;
  }

pub clearing_fails : {D : Type 0} (view : D → DiskView) (id earlier : ℕ) (was : Standing) (s : Sides) (u : OnDisk) (old : DiskView) (side : Side) → IsClearing id earlier was s u old → u.side ≡ opposite side → (fault : MigrateErr D) →
    ((t : Sides) → MayGo side t old → JournalClears {D = D} view side t old (Err fault)) → ((t : Sides) → MayGo side t old → MomentsOf {D = D} view (IsUnrenewed side t) old (Err fault)) → Clears view id earlier was old (Err fault)
clearing_fails view id earlier was s u old side ready on (Lost disk) ends run =
    let go = may_go id earlier was s u old (view disk) side ready on in
    cleared_lost id earlier was s u old (view disk) side ready on (ends s go) (run s go)
clearing_fails view id earlier was s u old side ready on (NoMemory disk) ends run =
    let go = may_go id earlier was s u old (view disk) side ready on in
    cleared_refused id earlier was s u old (view disk) side ready on (ends s go) (run s go)

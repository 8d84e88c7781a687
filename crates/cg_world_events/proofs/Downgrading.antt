-- A disk of the older format in place of a replica's stands for the same.
use Rattle.std.proofs.Common.{◌≡◌, ℕ, false, Option, Some, sym, ◌∙◌, ap, subst, arith}
use Rattle.std.specs.Option.{option_map, option_map_or}
use Rattle.cg_disk.specs.View.{DiskView}
use Rattle.cg_disk_records.specs.Crash.{Disk}
use Rattle.cg_older.specs.Older.{has_weights}
use Rattle.cg_older.specs.OldDisk.{old_disk}
use Rattle.cg_store.specs.Formats.{Standing, StandsFor, created_old}
use Rattle.cg_store.specs.MigratedLaws.{migrates_as_defined}
use Rattle.cg_engine.specs.Engines.{Fallen, told}
use Rattle.cg_engine.specs.Standing.{is_weighted, IsLight, IsDowngraded}
use Rattle.cg_world_events.specs.CrashedDisk.{IsCrashedDisk}
use Rattle.cg_world_events.specs.Seen.{disk_left, green_left}
use Rattle.cg_world_events.specs.SeenLaws.{disk-left, green-left}

module _ {D : Type 0} (view : D → DiskView) (w : Fallen D) (rests : IsCrashedDisk (view w.disk) w.id) where
  content_left : (disk_left view w).content ≡ rests.standing.on.content
  content_left = ap (λ (d : Disk). d.content) (disk-left view w rests.standing rests.stands)

  -- whether a weight stands there is read off the bytes
  pub weighs_so : is_weighted w.id (view w.disk).reads ≡ has_weights (disk_left view w).content
  weighs_so =
      ap (λ (o : Option Standing). option_map_or has_weights (option_map (λ (s : Standing). s.on.content) o) false) rests.stands
      ∙ sym (ap has_weights content_left)

  pub light_so : has_weights (disk_left view w).content ≡ false → IsLight w.id (view w.disk).reads
  light_so none = record { standing = rests.standing; stands = rests.stands; light = sym (ap has_weights content_left) ∙ none }

  module _ (x : Fallen D) (is : IsDowngraded view w x) where
    same_standing : is.standing ≡ rests.standing
    same_standing = let both : Some is.standing ≡ Some rests.standing = sym is.stands ∙ rests.stands in cc

    same_content : is.standing.on.content ≡ rests.standing.on.content
    same_content = ap (λ (s : Standing). s.on.content) same_standing

    stands_old : StandsFor x.id (view x.disk).reads (created_old is.standing.on.content)
    stands_old = subst (λ (id : ℕ). StandsFor id (view x.disk).reads (created_old is.standing.on.content)) (sym is.still.id_is) is.made.stands

    pub rests_old : IsCrashedDisk (view x.disk) x.id
    rests_old = record {
      standing = created_old is.standing.on.content;
      stands = stands_old;
      rest = is.made.rest;
      unarmed = is.made.unarmed;
      room = let made = is.made.time in omega (arith, made);
    }

    pub old_left : disk_left view x ≡ old_disk (disk_left view w).content
    old_left =
        disk-left view x (created_old is.standing.on.content) stands_old
        ∙ migrates_as_defined.made is.standing.on.content
        ∙ ap old_disk (same_content ∙ sym content_left)

    pub green_kept : green_left view x ≡ green_left view w
    green_kept =
        green-left view x (created_old is.standing.on.content) stands_old
        ∙ (λ i. told (record { disk = w.disk; id = w.id; count = is.still.count_is i; green = is.still.green_is i }) (same_content i))
        ∙ sym (green-left view w rests.standing rests.stands)

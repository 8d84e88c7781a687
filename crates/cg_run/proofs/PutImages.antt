-- The image that is put is one of the disk that the world holds.
use Rattle.std.proofs.Common.{◌≡◌, ℕ, ◌+◌, List, [], Option, Some, refl, sym, subst, ◌∙◌, arith}
use Rattle.cg_disk.specs.View.{DiskView}
use Rattle.cg_disk_records.specs.Crash.{Disk}
use Rattle.cg_image.specs.Images.{image_text}
use Rattle.cg_io.specs.Outside.{SourceView, SinkView}
use Rattle.cg_items.specs.declared.companion.Companion.TheVariants.{Imaging}
use Rattle.cg_items.specs.declared.report.Report.TheVariants.{Imaged}
use Rattle.cg_model.specs.World.{World}
use Rattle.cg_outcome.specs.declared.status.Status.{Status}
use Rattle.cg_outcome.specs.declared.status.Status.TheVariants as status
use Rattle.cg_outcome.specs.declared.command.Command.TheVariants.{Image}
use Rattle.cg_outcome.specs.GoingOnLaws.{Appends-none}
use Rattle.cg_outcome.specs.ImageLaws.{imaged-plain, imaged-done, StopsWith-later, image-runs, image-cause}
use Rattle.cg_outcome.specs.Outcome.{imaged_text}
use Rattle.cg_outcome.specs.Produced.{Produced, status_of, text_of}
use Rattle.cg_outcome.specs.Putting.{StopsWith}
use Rattle.cg_outcome.specs.Status.{write_faults}
use Rattle.cg_outcome.specs.StreamLaws.{grown}
use Rattle.cg_outcome.specs.Streaming.{Replays, first_stage, from_stage}
use Rattle.cg_outcome.specs.Taking.{IsImageAt, ReadCause, Runs}
use Rattle.cg_run.specs.Imaging.{PutsImage}
use Rattle.cg_store.specs.Images.{IsImageOf}
use Rattle.cg_world.specs.DiskOut.{GivesDisk}

pub image-at : {D : Type 0} (view : D → DiskView) (st : Status) (p : ℕ) (w : World) (d : D) → GivesDisk view w p (Some d) → IsImageAt st p w (image_text p (view d).reads)
image-at view status.Done p w d given = λ disk is.
    let same : given.0 ≡ disk = (let one : Some given.0 ≡ Some disk = sym given.1 ∙ is in cc) in
    ((view d).reads, subst (λ (held : Disk). IsImageOf p held (view d).reads) same given.2.image, refl)
image-at view other p w d given = tt

-- the image of the world that is left is put
pub put-world : (p : ℕ) (here : World) (v v1 : SinkView) (st : Status) → PutsImage p here v v1 st → (w : World) → Some here ≡ Some w → PutsImage p w v v1 st
put-world p here v v1 st put w is = subst (λ (w : World). PutsImage p w v v1 st) (let one : Some here ≡ Some w = is in cc) put

-- ---- the command

faults-of : (text : List ℕ) (found : Option Status) (v v' : SinkView) (st : Status) → StopsWith text found v v' st → v'.faults ≡ v.faults + write_faults st
faults-of text found v v' status.WriteFault ends = ends.counted
faults-of text found v v' status.NoMemory ends = ends.counted
faults-of text found v v' other ends = ends.1.no_fault ∙ omega arith

no-image-yet : (st : Status) (p : ℕ) (w : World) → (st ≡ status.Done → ⊥) → IsImageAt st p w []
no-image-yet status.Done p w other = absurd (other refl)
no-image-yet st p w other = tt

-- the image is put behind a run that is done
module _ (p : ℕ) (old new : SourceView) (v v1 v2 : SinkView) (left : Option World) (last : Status) (r : Replays Imaged (Imaging p) old new v v1 left status.Done)
    (put : (w : World) → left ≡ Some w → PutsImage p w v1 v2 last) where
  abbrev behind : Produced
  behind = from_stage (first_stage (Imaging p)) r.taken r.ending

  is-put : PutsImage p behind.progress.world v1 v2 last
  is-put = put behind.progress.world r.holds.4

  image-ends : StopsWith (imaged_text is-put.image behind) (status_of behind) v v2 last
  image-ends =
      let done = r.holds.1.0.0 in
      subst (λ text. StopsWith text (status_of behind) v v2 last) (sym (imaged-done is-put.image behind done))
      (StopsWith-later v v1 v2 (text_of Imaged behind) is-put.image (status_of behind) last (imaged-plain behind ∙ imaged-done [] behind done) r.holds.1.0.1 done is-put.ends)

  pub done-runs : Runs (Some (Image p)) old new v v2 last
  done-runs =
      let more = grown is-put.image (Some status.Done) v1 v2 last is-put.ends in
      image-runs p old new v v1 v2 left status.Done last r is-put.image is-put.is image-ends (λ finding. r.holds.1.1 tt) more.0 more.1

  pub done-cause : ReadCause old new last
  done-cause = image-cause p old new v v1 v2 left status.Done last r is-put.image image-ends

  pub done-faults : v2.faults ≡ v.faults + write_faults last
  done-faults = faults-of (imaged_text is-put.image behind) (status_of behind) v v2 last image-ends

-- nothing is put behind another
module _ (p : ℕ) (old new : SourceView) (v v1 : SinkView) (left : Option World) (st : Status) (r : Replays Imaged (Imaging p) old new v v1 left st) (other : st ≡ status.Done → ⊥) where
  abbrev found_there : Produced
  found_there = from_stage (first_stage (Imaging p)) r.taken r.ending

  plain-ends : StopsWith (imaged_text [] found_there) (status_of found_there) v v1 st
  plain-ends = subst (λ text. StopsWith text (status_of found_there) v v1 st) (imaged-plain found_there) r.holds.1.0

  pub other-runs : Runs (Some (Image p)) old new v v1 st
  other-runs = image-runs p old new v v1 v1 left st st r [] (no-image-yet st p found_there.progress.world other) plain-ends r.holds.1.1 [] (Appends-none v1.held)

  pub other-cause : ReadCause old new st
  other-cause = image-cause p old new v v1 v1 left st st r [] plain-ends

  pub other-faults : v1.faults ≡ v.faults + write_faults st
  other-faults = faults-of (imaged_text [] found_there) (status_of found_there) v v1 st plain-ends

-- What is seen in an image of a replica's disk is the replica that a recovery brings up.
use Rattle.std.proofs.Common.{◌≡◌, ℕ, sym, ap, ◌∙◌}
use Rattle.cg_base.specs.Sets.{IsId}
use Rattle.cg_disk.specs.Sides.{Image}
use Rattle.cg_disk_records.specs.Crash.{Disk, recovered}
use Rattle.cg_disk_records.specs.Stored.{recovery_turn}
use Rattle.cg_store.specs.Images.{IsImageOf}
use Rattle.cg_image.specs.ImageLaws.{images_are_read}
use Rattle.cg_image.specs.Images.{IsShort, image_text}
use Rattle.cg_image.specs.Inspecting.{Holds, inspected, of_disk, of_image}

pub images_show : (p : ℕ) (disk : Disk) (image : Image) → IsId p → IsShort image → IsImageOf p disk image →
    inspected (image_text p image) ≡ Holds (recovered disk)
images_show p disk image id short is =
    let content = ap (λ (d : Disk). d.content) is.same in
    ap of_image (images_are_read.again p image id short) ∙ ap of_disk is.stands
    ∙ ap (λ s. Holds (recovery_turn s).replica) (sym content)

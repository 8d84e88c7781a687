use Rattle.std.proofs.Common.{Option, subst}
use Rattle.cg_disk.specs.declared.model_disk.ModelDisk.{ModelDisk}
use Rattle.cg_disk.specs.Model.{view_of}
use Rattle.cg_image.specs.Images.{image_text}
use Rattle.cg_world.specs.DiskOut.{GivesDisk}
use Rattle.cg_run.proofs.PutImages.{image-at}
use Rattle.cg_run.proofs.imaging.put_image.Goals as goal

pub returns-in-Ok-Some : goal.returns-in-Ok-Some
returns-in-Ok-Some g c =
    let disk = c.in-Ok-Some.disk in record {
      image = image_text c.args.id (view_of disk).reads;
      is = image-at view_of c.put_disk.result c.args.id c.args.world.world disk
          (subst (λ (o : Option ModelDisk). GivesDisk view_of c.args.world.world c.args.id o) c.in-Ok-Some.field-0-is c.in-Ok-Some.ensures);
      ends = c.put_disk.ensures;
    }

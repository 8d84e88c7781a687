use Rattle.std.proofs.Common.{◌∙◌}
use Rattle.cg_disk.proofs.Counting.{looks_from, has_images, settles_after, settled_only, settled_looks}
use Rattle.cg_disk.proofs.model_disk.ModelDiskDisk.sync.Goals as goal

pub returns-in-Ok-clause-durable : goal.returns-in-Ok-clause-durable
returns-in-Ok-clause-durable c =
    let m = c.args.self.now in
    let n = c.settle.new.self in
    settled_only m n (settles_after m c.count.new.self n c.in-Ok.ensures.same c.settle.ensures.settles)

pub returns-in-Ok-clause-looks : goal.returns-in-Ok-clause-looks
returns-in-Ok-clause-looks c =
    let m = c.args.self.now in
    let n = c.settle.new.self in
    settled_looks m n (settles_after m c.count.new.self n c.in-Ok.ensures.same c.settle.ensures.settles) (c.settle.ensures.calls ∙ c.in-Ok.ensures.calls)

pub returns-in-Ok-clause-images : goal.returns-in-Ok-clause-images
returns-in-Ok-clause-images c = has_images c.settle.new.self

pub returns-in-Err-clause-looks : goal.returns-in-Err-clause-looks
returns-in-Err-clause-looks c = looks_from c.args.self.now c.count.new.self c.count.result c.count.ensures

pub returns-in-Err-clause-images : goal.returns-in-Err-clause-images
returns-in-Err-clause-images c = has_images c.count.new.self

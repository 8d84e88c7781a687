use Rattle.cg_disk.proofs.Counting.{looks_from, has_images}
use Rattle.cg_disk.proofs.model_disk.ModelDisk.look.Goals as goal

pub returns-clause-looks : goal.returns-clause-looks
returns-clause-looks c = looks_from c.args.self.now c.count.new.self c.count.result c.count.ensures

pub returns-clause-images : goal.returns-clause-images
returns-clause-images c = has_images c.count.new.self

use Rattle.std.proofs.Common.{refl, ◌∙◌, reverse}
use Rattle.cg_disk.specs.Undo.{side_after}
use Rattle.cg_disk.specs.Model.{side_of}
use Rattle.cg_disk.proofs.Crashing.{copied}
use Rattle.cg_disk.proofs.model_disk.ModelDisk.copy.Goals as goal

pub returns : goal.returns
returns c =
    let on_a = c.new.ensures.bytes ∙ c.in_ok-a.ensures.items ∙ c.deref.ensures.value in
    let on_b = c.new-2.ensures.bytes ∙ c.in_ok-b.ensures.items ∙ c.deref-2.ensures.value in
    copied (side_of c.new.result) (side_of c.new-2.result) 0 0 0 c.nothing.result c.args.self.now
    (λ i. side_after (on_a i) (reverse (c.new.ensures.unsynced i)))
    (λ i. side_after (on_b i) (reverse (c.new-2.ensures.unsynced i)))
    refl refl

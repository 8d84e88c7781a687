use Rattle.std.proofs.Common.{◌≡◌, suc, sym, ◌∙◌, ap}
use Rattle.cg_disk.specs.declared.armed.Armed.TheVariants.{Failure}
use Rattle.cg_disk.proofs.Counting.{looks_from, has_images, unfailed}
use Rattle.cg_disk.proofs.Writing.{written_crash, written_elapses}
use Rattle.cg_disk.proofs.model_disk.ModelDiskDisk.write_at.Goals as goal

pub returns-then-fails_next-clause-elapses : goal.returns-then-fails_next-clause-elapses
returns-then-fails_next-clause-elapses c = (looks_from c.args.self.now c.count.new.self c.count.result c.count.ensures).elapses

pub returns-then-fails_next-clause-images : goal.returns-then-fails_next-clause-images
returns-then-fails_next-clause-images c = has_images c.count.new.self

pub returns-in-Ok-clause-crash : goal.returns-in-Ok-clause-crash
returns-in-Ok-clause-crash c =
    let w = c.put.new.self in
    let unarmed : w.armed ≡ Failure 0 → ⊥ = λ armed. cc (c.fails_next.ensures.1 (sym c.put.ensures.armed ∙ armed), c.if-fails_next.false) in
    let same = unfailed w c.count-in-Ok.new.self c.count-in-Ok.result c.count-in-Ok.ensures unarmed in
    written_crash c.args.side c.args.place c.args.bytes.now c.args.self.now w c.count-in-Ok.new.self c.requires.inside c.in-Ok.ensures.ok same.0

pub returns-in-Ok-clause-elapses : goal.returns-in-Ok-clause-elapses
returns-in-Ok-clause-elapses c =
    let w = c.put.new.self in
    let unarmed : w.armed ≡ Failure 0 → ⊥ = λ armed. cc (c.fails_next.ensures.1 (sym c.put.ensures.armed ∙ armed), c.if-fails_next.false) in
    let same = unfailed w c.count-in-Ok.new.self c.count-in-Ok.result c.count-in-Ok.ensures unarmed in
    written_elapses c.args.side c.args.place c.args.bytes.now c.args.self.now w c.count-in-Ok.new.self c.requires.inside c.in-Ok.ensures.ok same.0 (same.1 ∙ ap suc c.put.ensures.calls)

pub returns-in-Ok-clause-images : goal.returns-in-Ok-clause-images
returns-in-Ok-clause-images c = has_images c.count-in-Ok.new.self

pub returns-in-Err-clause-images : goal.returns-in-Err-clause-images
returns-in-Err-clause-images c = has_images c.put.new.self

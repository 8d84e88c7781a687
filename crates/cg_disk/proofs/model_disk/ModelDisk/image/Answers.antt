use Rattle.std.proofs.Common.{◌≡◌, refl, ap, ◌∙◌, reverse, min, length}
use Rattle.cg_disk.specs.Undo.{side_after}
use Rattle.cg_disk.specs.State.{filled, unsynced_from}
use Rattle.cg_disk.specs.Model.{side_of}
use Rattle.cg_disk.proofs.Crashing.{crashed, rest_of_fill}
use Rattle.cg_disk.proofs.model_disk.ModelDisk.image.Goals as goal

pub returns : goal.returns
returns c =
    let m = c.args.self in
    let fill = c.args.fill.now in
    let used : c.min-used.result ≡ min (unsynced_from (side_of m.a) 0 m.a.bytes.items) (length fill) = c.min-used.ensures ∙ ap (λ n. min n (length fill)) c.unsynced_offsets.ensures in
    let on_a = c.new.ensures.bytes ∙ c.in_ok-a.ensures in
    let on_b = c.new-2.ensures.bytes ∙ c.in_ok-b.ensures ∙ ap (filled (side_of m.b)) (rest_of_fill c.min-used.result _ fill used) in
    crashed (side_of c.new.result) (side_of c.new-2.result) m.calls m.faults m.calls c.nothing.result fill m
    (λ i. side_after (on_a i) (reverse (c.new.ensures.unsynced i)))
    (λ i. side_after (on_b i) (reverse (c.new-2.ensures.unsynced i)))
    refl refl

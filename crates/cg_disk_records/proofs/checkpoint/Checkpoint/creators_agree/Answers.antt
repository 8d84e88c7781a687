use Rattle.std.proofs.Common.{◌≡◌, true, false, ◌&&◌, ap, sym, ◌∙◌}
use Rattle.std.specs.List.{list_all}
use Rattle.cg_base.specs.Replicas.{every_replica}
use Rattle.cg_disk_records.specs.Parts.{greens_count, reds_count, red_cut_of}
use Rattle.cg_disk_records.proofs.Counting.{all-both}
use Rattle.cg_disk_records.proofs.checkpoint.Checkpoint.creators_agree.Goals as goal

pub returns-then-greens_count : goal.returns-then-greens_count
returns-then-greens_count c =
    let p = c.args.self.now in
    let cut = p.reached.cut in
    let greens : list_all (greens_count p.kept.greens cut) every_replica ≡ true = ap (λ l. list_all (greens_count l cut) every_replica) (sym c.as_slice.ensures) ∙ sym c.if-greens_count.ensures in
    c.reds_count.ensures
    ∙ ap (λ l. list_all (reds_count l cut c.args.red_cut.now) every_replica) c.as_slice-then-greens_count.ensures
    ∙ ap (λ to. list_all (reds_count p.kept.reds cut to) every_replica) c.requires
    ∙ ap (λ b. b && list_all (reds_count p.kept.reds cut (red_cut_of p)) every_replica) (sym greens)
    ∙ sym (all-both (greens_count p.kept.greens cut) (reds_count p.kept.reds cut (red_cut_of p)) every_replica)

pub returns-else-greens_count : goal.returns-else-greens_count
returns-else-greens_count c =
    let p = c.args.self.now in
    let cut = p.reached.cut in
    let greens : list_all (greens_count p.kept.greens cut) every_replica ≡ false = ap (λ l. list_all (greens_count l cut) every_replica) (sym c.as_slice.ensures) ∙ sym c.if-greens_count.ensures in
    c.if-greens_count.false
    ∙ ap (λ b. b && list_all (reds_count p.kept.reds cut (red_cut_of p)) every_replica) (sym greens)
    ∙ sym (all-both (greens_count p.kept.greens cut) (reds_count p.kept.reds cut (red_cut_of p)) every_replica)

use Rattle.std.proofs.Common.{◌≡◌, true, eqb, ap, ◌∙◌, rules}
use Rattle.std.specs.Prelude.{nat_eq}
use Rattle.std.specs.List.{list_all}
use Rattle.std.specs.Cmp.Lexicographic.{pointwise}
use Rattle.cg_base.specs.Lists.{above_up_to}
use Rattle.cg_disk_records.proofs.Agreeing.{own-indexes}
use Rattle.cg_disk_records.proofs.agreement.are_own.Goals as goal

pub returns-then-are_of : goal.returns-then-are_of
returns-then-are_of c =
    let own = c.args.own.now in
    let all : list_all (λ a. eqb a.id.creator c.args.id) own ≡ true = search rules in
    rw all (c.count_between.ensures ∙ ap (λ ns. pointwise nat_eq ns (above_up_to c.args.low c.args.high)) (own-indexes own c.args.id all))

use Rattle.std.proofs.Common.{rules, ◌≡◌, ◌∙◌, ap, not, nat_le, false, filter}
use Rattle.std.specs.Option.{option_copied, option_map_or}
use Rattle.cg_base.specs.Cuts.{index_in}
use Rattle.cg_knowledge.specs.Yellow.{is_green_at_most}
use Rattle.cg_knowledge.proofs.yellow.without_greens.Goals as goal

pub returns : goal.returns
unfolding is_green_at_most
returns c =
    let list = c.args.list.now in
    let kept : c.in_ok-names.names.items ≡ filter (λ id. not (option_map_or (λ s. nat_le id.index (index_in s.green_cut id.creator)) (option_copied c.most_updated-best.result) false)) list = search rules in
    kept ∙ ap (λ best. filter (λ id. not (option_map_or (λ s. nat_le id.index (index_in s.green_cut id.creator)) best false)) list) c.most_updated-best.ensures

use Rattle.std.proofs.Common.{◌≡◌, ◌∙◌, ap, not, take}
use Rattle.std.proofs.lemmas.List.{take_all}
use Rattle.std.specs.List.{filter, fold}
use Rattle.cg_base.specs.Ids.{has_name}
use Rattle.cg_knowledge.specs.Primary.{knows_prim, newest_index, newest}
use Rattle.cg_knowledge.specs.Yellow.{yellow_group, is_in_each, is_green_at_most}
use Rattle.cg_knowledge.proofs.Filtered.{fold-filter-behind}
use Rattle.cg_knowledge.proofs.yellow.common_names.Goals as goal

pub returns : goal.returns
unfolding is_in_each yellow_group newest
returns c =
    let summaries = c.args.summaries.now in
    let group : filter (λ s. s.yellow.valid) (filter (knows_prim c.newest_index-newest.result) (take c.loop-s.s-index summaries)) ≡ yellow_group summaries =
    ap (λ n. filter (λ s. s.yellow.valid) (filter (knows_prim n) (take c.loop-s.s-index summaries))) c.newest_index-newest.ensures
    ∙ ap (λ all. filter (λ s. s.yellow.valid) (filter (knows_prim (newest_index summaries)) all)) (take_all c.loop-s.s-index summaries c.loop-s-test.false) in
    c.from_vec.ensures
    ∙ c.loop-s.invariant
    ∙ (λ i. fold (λ ids s. filter (has_name s.yellow.list) ids) (c.in_ok-names.ensures i) (group i))
    ∙ fold-filter-behind (λ s. has_name s.yellow.list) (λ id. not (is_green_at_most summaries id)) (yellow_group summaries) c.args.list.now

use Rattle.std.proofs.Common.{leb, leb-true, leb-false, sym, subst, ◌∙◌, arith, rules}
use Rattle.std.proofs.lemmas.List.Sorted.{IsPartitionPoint-from_clause, IsPartitionedBy-leb, IsNonDecreasingBy-from_all_adjacent}
use Rattle.cg_model.specs.Show.{Answered}
use Rattle.cg_world_events.specs.Showing.{Ascend}
use Rattle.cg_world_events.proofs.Ordered.{neighbours-ascend, with-at}
use Rattle.cg_world_events.proofs.answered.Replies.count_up_to.Goals as goal

pub returns-clause-value : goal.returns-clause-value
returns-clause-value c new same =
    let xs = c.as_slice.result.now in
    let all = c.as_slice.ensures.value ∙ c.self.view_is in
    let ascend = subst Ascend (sym c.as_slice.ensures.value) c.self.invariant in
    let sorted = IsNonDecreasingBy-from_all_adjacent (λ (r : Answered). r.place) xs (neighbours-ascend xs ascend) in
    let point = IsPartitionPoint-from_clause (λ (r : Answered). leb r.place c.args.place) xs c.partition_point.result c.partition_point.ensures.partitioned
    (IsPartitionedBy-leb (λ (r : Answered). r.place) xs c.args.place sorted) (λ a r q k. search rules) in
    let within = c.partition_point.ensures.bound in
    rw (← all) (with-at xs c.partition_point.result new within
    (λ k less. (let up = leb-true _ _ (point.0 k new (omega arith) less) in omega (arith, up, same)))
    (λ k le less. (let above = leb-false _ _ (point.1 k new le less) in omega (arith, above, same))))

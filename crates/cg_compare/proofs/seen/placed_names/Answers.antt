use Rattle.std.proofs.Common.{rules}
use Rattle.std.proofs.lemmas.List.Sorted.{IsNonDecreasingBy-from_sort_by_key, answers_always}
use Rattle.cg_compare.proofs.Sorting.{sorted_are_placed}
use Rattle.cg_compare.proofs.seen.placed_names.Goals as goal

pub returns : goal.returns
returns c = sorted_are_placed c.args.logs.now c.in_ok-names.names.items c.sort_by_key.new.self.items c.in_ok-names.ensures
    (IsNonDecreasingBy-from_sort_by_key (λ s. s.place) _ c.in_ok-sort_by_key.ensures.sorted (λ a r q k. search rules))
    (c.sort_by_key.ensures.stable (λ s. s.place) (answers_always _ _ _ (λ f a r g h. search rules)))

-- Sets of members that both decide meet, and common yellow actions stand in each list.
use Rattle.std.proofs.Common.{◌≡◌, true, not, List, Option, Some, None, sym, subst}
use Rattle.std.specs.List.{All}
use Rattle.std.proofs.lemmas.Bool.{and_parts}
use Rattle.std.proofs.lemmas.List.Elements.{All-nil, filter_passes}
use Rattle.std.proofs.lemmas.List.Sums.{AllPass-from_list_all}
use Rattle.cg_base.specs.declared.action_id.ActionId.{ActionId}
use Rattle.cg_base.specs.Ids.{has_name}
use Rattle.cg_vote.specs.Quorum.{is_quorum}
use Rattle.cg_vote.specs.QuorumLaws.{meet}
use Rattle.cg_knowledge.specs.declared.summary.Summary.{Summary}
use Rattle.cg_knowledge.specs.Summaries.{remaining, lowest}
use Rattle.cg_knowledge.specs.Primary.{known_primary}
use Rattle.cg_knowledge.specs.Yellow.{yellow_group, is_green_at_most, is_in_each, is_common, yellow_of, common_yellow}
use Rattle.cg_knowledge.specs.Verdict.{all_cleared, decides}
use Rattle.cg_knowledge.specs.Laws.{DecidersMeet, CommonStandsInEach}

pub deciders_meet : DecidersMeet
unfolding decides
deciders_meet one other h k same =
    let first = and_parts (is_quorum (known_primary one).set (remaining one)) (all_cleared one) h in
    let second = and_parts (is_quorum (known_primary other).set (remaining other)) (all_cleared other) k in
    meet (known_primary one).set (remaining one) (remaining other) first.0 (subst (λ set. is_quorum set (remaining other) ≡ true) (sym same) second.0)

in_each : (summaries : List Summary) (id : ActionId) → is_common summaries id ≡ true → All (λ s. has_name s.yellow.list id ≡ true) (yellow_group summaries)
unfolding is_in_each
in_each summaries id is =
    AllPass-from_list_all (λ s. has_name s.yellow.list id) (yellow_group summaries) (and_parts (is_in_each (yellow_group summaries) id) (not (is_green_at_most summaries id)) is).0

stands_in : (summaries : List Summary) (low : Option Summary) → All (λ id. All (λ s. has_name s.yellow.list id ≡ true) (yellow_group summaries)) (yellow_of summaries low).list
stands_in summaries None = All-nil (λ id. All (λ s. has_name s.yellow.list id ≡ true) (yellow_group summaries))
stands_in summaries (Some s) = λ k d lt. in_each summaries _ (filter_passes (is_common summaries) s.yellow.list k d lt)

pub common_stands : CommonStandsInEach
unfolding common_yellow
common_stands summaries = stands_in summaries (lowest (yellow_group summaries))

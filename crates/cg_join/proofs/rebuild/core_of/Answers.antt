use Rattle.std.proofs.Common.{◌≡◌, IfOk, ap, ◌∙◌, subst, fold}
use Rattle.cg_join.specs.Gathered.{with_part, nothing}
use Rattle.cg_join.proofs.Gathering.{all_brought, joined_by, never-headless, brought-lead}
use Rattle.cg_join.proofs.rebuild.core_of.Goals as goal

pub returns : goal.returns
returns c = λ h up all.
    let g = c.in_ok-head.field-0 in
    let is = c.in_ok-head.ensures.value ∙ ap (λ parts. fold with_part nothing parts) (c.into_vec.ensures ∙ c.into_list.ensures.value ∙ all) ∙ all_brought h up in
    subst (λ w. IfOk c.rebuild.result (λ core. core ≡ w)) (joined_by c.args.id h g c.in-Some.head is c.in-Some.is) c.rebuild.ensures

pub rebuild-requires-clause-lead : goal.rebuild-requires-clause-lead
rebuild-requires-clause-lead c =
    let g = c.in_ok-head.field-0 in
    brought-lead c.args.id c.args.parts c.requires g (c.in_ok-head.ensures.value ∙ ap (λ parts. fold with_part nothing parts) (c.into_vec.ensures ∙ c.into_list.ensures.value)) c.in-Some.head c.in-Some.is

pub unreachable-requires : goal.unreachable-requires
unreachable-requires c =
    let g = c.in_ok-head.field-0 in
    never-headless c.args.id c.args.parts c.requires g (c.in_ok-head.ensures.value ∙ ap (λ parts. fold with_part nothing parts) (c.into_vec.ensures ∙ c.into_list.ensures.value)) c.in-None.is

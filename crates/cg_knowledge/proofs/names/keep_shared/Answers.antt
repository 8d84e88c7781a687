use Rattle.std.proofs.Common.{rules, arith, ◌≡◌, ◌∙◌}
use Rattle.std.proofs.lemmas.Bool.Decides.{nat_tests}
use Rattle.std.proofs.lemmas.Fn.{filter_same}
use Rattle.std.specs.BTreeSet.{contains}
use Rattle.std.specs.List.{list_any}
use Rattle.std.specs.Ordering.{eq_by_cmp}
use Rattle.cg_base.specs.Ids.{has_name, same_id}
use Rattle.cg_base.specs.contracts.action_id.ActionIdOrd.TheImpl as order
use Rattle.cg_base.specs.declared.action_id.ActionId.{ActionId}
use Rattle.cg_knowledge.proofs.names.keep_shared.Goals as goal

same : (a b : ActionId) → eq_by_cmp order.ghosts.cmp a b ≡ same_id a b
same a b = grind (arith, nat_tests)

pub returns : goal.returns
returns c =
    let known = c.in_ok-known.known in
    let other = c.args.other.now in
    let made : (id : ActionId) → contains order.ghosts.cmp known id ≡ list_any (eq_by_cmp order.ghosts.cmp id) other = search rules in
    let named : (id : ActionId) → contains order.ghosts.cmp known id ≡ has_name other id = λ id. made id ∙ (λ i. list_any (λ k. same id k i) other) in
    filter_same _ (has_name other) _ (λ id b f k. (let is : b ≡ contains order.ghosts.cmp known id = search rules in is ∙ named id, search rules)) _ _ c.retain.ensures.filtered

use Rattle.std.proofs.Common.{◌≡◌, ◌-◌, length, get_or, ap, ◌∙◌, rules, arith}
use Rattle.cg_action.specs.declared.action.Action.{Action}
use Rattle.cg_disk_records.proofs.Agreeing.{last-at, last-none}
use Rattle.cg_disk_records.proofs.agreement.last_index.Goals as goal

pub returns-in-Some : goal.returns-in-Some
returns-in-Some c =
    let xs = c.args.actions.now in
    let a = c.in-Some.a.now in
    let place : c.saturating_sub.result ≡ length xs - 1 = search rules in
    let is : a ≡ get_or xs (length xs - 1) a = c.in-Some.ensures.lookup.1 ∙ ap (λ n. get_or xs n a) place in
    let within = c.in-Some.ensures.lookup.3.0 in
    ap (λ (x : Action). x.id.index) is ∙ last-at xs a (omega (arith, within))

pub returns-in-None : goal.returns-in-None
returns-in-None c =
    let xs = c.args.actions.now in
    let place : c.saturating_sub.result ≡ length xs - 1 = search rules in
    last-none xs (omega (arith, place, c.in-None.ensures.lookup.3))

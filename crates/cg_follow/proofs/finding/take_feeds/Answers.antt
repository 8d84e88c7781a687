use Rattle.std.proofs.Common.{◌≡◌, ◌+◌, ◌≤◌, Some, suc, drop, fold, length, subst, sym, ◌∙◌, ap, arith, rules}
use Rattle.std.specs.Prelude.{slice_get}
use Rattle.std.proofs.lemmas.List.{drop_all}
use Rattle.cg_follow.specs.Stands.{led_by}
use Rattle.cg_follow.specs.Finding.{Follows}
use Rattle.cg_follow.proofs.Found.{stops-at}
use Rattle.cg_follow.proofs.finding.take_feeds.Goals as goal
use Rattle.cg_base.specs.ListLaws.{drop-at}

pub returns-then-not-branch : goal.returns-then-not-branch
returns-then-not-branch c =
    let i = c.loop-i.i in
    let all = c.args.bodies.now in
    let body = c.in-Some.body.now in
    let at : slice_get all i ≡ Some body = sym c.in-Some.ensures in
    let none = subst (λ b. Follows (led_by
    (Some c.loop-i.taken) body) c.take_feed.new.taken b) c.if-not-branch.true c.in_ok-take_feed.ensures in
    sym (stops-at c.loop-i.taken body (drop i all) (drop (suc i) all) (fold led_by (Some c.args.first)
    (drop 1 all)) none (drop-at all i body at) c.loop-i.invariant)

pub loop-i-preserved : goal.loop-i-preserved
loop-i-preserved c =
    let i = c.loop-i.i in
    let all = c.args.bodies.now in
    let body = c.in-Some.body.now in
    let at : slice_get all i ≡ Some body = sym c.in-Some.ensures in
    let leads : led_by (Some c.loop-i.taken) body ≡ Some c.take_feed.new.taken = subst
    (λ b. Follows (led_by (Some c.loop-i.taken) body) c.take_feed.new.taken b) c.if-not-branch.false c.in_ok-take_feed.ensures in
    let next : i + 1 ≡ suc i = omega arith in
    ap (λ n. fold led_by (Some c.take_feed.new.taken) (drop n all)) next
    ∙ ap (λ s. fold led_by s (drop (suc i) all)) (sym leads)
    ∙ ap (fold led_by (Some c.loop-i.taken)) (sym (drop-at all i body at))
    ∙ c.loop-i.invariant

pub returns : goal.returns
returns c =
    let i = c.loop-i.i in
    let all = c.args.bodies.now in
    let le : length all ≤ i = search rules in
    sym (ap (λ l. fold led_by (Some c.loop-i.taken) l) (drop_all i all le)) ∙ c.loop-i.invariant

use Rattle.std.proofs.Common.{◌≡◌, ◌+◌, ◌≤◌, [], Some, suc, drop, length, slice_get, subst, sym, refl, ◌∙◌, ap, arith, rules}
use Rattle.std.proofs.lemmas.List.{drop_all}
use Rattle.cg_store.specs.Stands.{led_by, led_by_all}
use Rattle.cg_store.specs.Opening.{Follows}
use Rattle.cg_store.proofs.Replaying.{stops_at}
use Rattle.cg_store.proofs.finding.follow_all.Goals as goal
use Rattle.cg_base.specs.ListLaws.{drop-at}

pub loop-i-init : goal.loop-i-init
loop-i-init c = (refl, c.requires, c.new-recent.ensures)

pub follow-requires-clause-holds : goal.follow-requires-clause-holds
follow-requires-clause-holds c = c.loop-i.invariant.1

pub follow-requires-clause-recent : goal.follow-requires-clause-recent
follow-requires-clause-recent c = c.loop-i.invariant.2

pub returns-then-not-branch : goal.returns-then-not-branch
returns-then-not-branch c =
    let i = c.loop-i.i in
    let all = c.args.bodies.now in
    let body = c.in-Some.body.now in
    let at : slice_get all i ≡ Some body = sym c.in-Some.ensures in
    let none = subst (λ b. Follows (led_by c.loop-i.core body) c.follow.new.core b) c.if-not-branch.true c.in_ok-follow.ensures.follows in
    stops_at led_by c.loop-i.core body (drop i all) (drop (suc i) all) (led_by_all (Some c.args.core.now) (drop 1 all)) none (drop-at all i body at) c.loop-i.invariant.0

pub loop-i-preserved : goal.loop-i-preserved
loop-i-preserved c =
    let i = c.loop-i.i in
    let all = c.args.bodies.now in
    let body = c.in-Some.body.now in
    let at : slice_get all i ≡ Some body = sym c.in-Some.ensures in
    let leads : led_by c.loop-i.core body ≡ Some c.follow.new.core = subst (λ b. Follows (led_by c.loop-i.core body) c.follow.new.core b) c.if-not-branch.false c.in_ok-follow.ensures.follows in
    let next : i + 1 ≡ suc i = omega arith in (
      ap (λ n. led_by_all (Some c.follow.new.core) (drop n all)) next
          ∙ ap (λ s. led_by_all s (drop (suc i) all)) (sym leads)
          ∙ ap (led_by_all (Some c.loop-i.core)) (sym (drop-at all i body at))
          ∙ c.loop-i.invariant.0,
      c.in_ok-follow.ensures.holds c.if-not-branch.false,
      c.follow.ensures.recent,
    )

pub returns : goal.returns
returns c =
    let i = c.loop-i.i in
    let all = c.args.bodies.now in
    let le : length all ≤ i = search rules in
    let done : drop i all ≡ [] = drop_all i all le in
    sym c.loop-i.invariant.0 ∙ ap (λ l. led_by_all (Some c.loop-i.core) l) done

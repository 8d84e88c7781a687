use Rattle.std.proofs.Common.{◌≡◌, suc, true, false, length, sym, ◌∙◌, ap, arith, add-one, ⊎_elim, ◌<◌, ◌≤◌}
use Rattle.std.specs.List.{prefix_len}
use Rattle.std.proofs.lemmas.List.{length-map}
use Rattle.std.proofs.lemmas.Bool.{cases_lt}
use Rattle.cg_group.proofs.SettledFacts.{prefix-skip}
use Rattle.cg_group.specs.Ready.{all_received, ready_in}
use Rattle.cg_group.proofs.LogFacts.{prefix-goes_on, prefix-ends, above_up_to-none}
use Rattle.cg_group.proofs.configuration_log.ConfigurationLog.ready.Goals as goal

pub returns-then-not-is_received_by_all-clause-count : goal.returns-then-not-is_received_by_all-clause-count
unfolding ready_in
returns-then-not-is_received_by_all-clause-count g c =
    let t = all_received c.args.self.now.configuration in
    let long : c.len-len.result ≡ length c.args.self.now.configuration.ordered = rw (← c.self.view_is, length-map) (omega arith) in
    let here : t (suc c.loop-place.place) ≡ false = rw add-one at (sym c.is_received_by_all.ensures ∙ c.if-not-is_received_by_all.true) in
    let ends = prefix-ends t c.loop-place.place c.len-len.result c.loop-place-test.true here in
    rw (← long) (omega (arith, ends, c.loop-place.invariant.1))

pub loop-place-preserved : goal.loop-place-preserved
loop-place-preserved g c =
    let t = all_received c.args.self.now.configuration in
    let here : t (suc c.loop-place.place) ≡ true = rw add-one at (sym c.is_received_by_all.ensures ∙ c.if-not-is_received_by_all.false) in
    let goes_on = prefix-goes_on t c.loop-place.place c.len-len.result c.loop-place-test.true here in
    (omega (arith, c.loop-place.invariant.0), rw add-one (omega (arith, goes_on, c.loop-place.invariant.0, c.loop-place.invariant.1)))

pub returns-clause-count : goal.returns-clause-count
unfolding ready_in
returns-clause-count g c =
    let t = all_received c.args.self.now.configuration in
    let long : c.len-len.result ≡ length c.args.self.now.configuration.ordered = rw (← c.self.view_is, length-map) (omega arith) in
    let ends = ap (prefix_len t) (above_up_to-none c.loop-place.place c.len-len.result c.loop-place-test.false) in
    rw (← long) (omega (arith, ends, c.loop-place.invariant.1))

pub loop-place-init : goal.loop-place-init
loop-place-init g c =
    let t = all_received c.args.self.now.configuration in
    let long : c.len-len.result ≡ length c.args.self.now.configuration.ordered = rw (← c.self.view_is, length-map) (omega arith) in (
      omega arith,
      ⊎_elim
          (λ (lt : c.args.delivered < c.settled.result).
          let most : c.max-place.result ≡ c.settled.result = omega arith in
          rw most (sym (prefix-skip t c.args.delivered c.settled.result c.len-len.result (omega arith) (omega (arith, c.settled.ensures.within))
          (λ place above le. c.settled.ensures.received place (omega arith) le))))
          (λ (ge : c.settled.result ≤ c.args.delivered).
          let most : c.max-place.result ≡ c.args.delivered = omega arith in rw most (omega arith))
          (cases_lt c.args.delivered c.settled.result),
    )

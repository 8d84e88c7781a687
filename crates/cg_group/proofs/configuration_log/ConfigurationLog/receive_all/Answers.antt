use Rattle.std.proofs.Common.{suc, ap, sym, ◌∙◌, fold, add-one, refl, arith}
use Rattle.std.proofs.lemmas.List.{length-map}
use Rattle.cg_group.proofs.SettledFacts.{fold-skip}
use Rattle.cg_base.specs.Lists.{above_up_to}
use Rattle.cg_group.specs.Events.{with_receipt}
use Rattle.cg_group.proofs.LogFacts.{above_up_to-next}
use Rattle.cg_group.proofs.configuration_log.ConfigurationLog.receive_all.Goals as goal

pub loop-place-preserved : goal.loop-place-preserved
loop-place-preserved g c =
    let value = rw add-one at c.receive.ensures.value in (
      rw add-one
          (ap (λ x. fold (λ y place. with_receipt y c.args.p place) x (above_up_to (suc c.loop-place.place) c.len-len.result)) value
          ∙ ap (fold (λ y place. with_receipt y c.args.p place) c.loop-place.self.configuration) (sym (above_up_to-next c.loop-place.place c.len-len.result c.loop-place-test.true))
          ∙ c.loop-place.invariant.0),
      c.receive.ensures.room ∙ c.loop-place.invariant.1,
    )

pub loop-place-init : goal.loop-place-init
loop-place-init g c =
    let within = rw (← c.self.view_is, length-map) at c.received_by-from.ensures.within in
    (sym (fold-skip (λ x place. with_receipt x c.args.p place) c.args.self.now.configuration c.received_by-from.result c.len-len.result (omega arith) c.received_by-from.ensures.same), refl)

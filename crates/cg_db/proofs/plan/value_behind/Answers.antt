use Rattle.std.proofs.Common.{◌≡◌, ◌<◌, true, false, cond, length, take, refl, sym, ◌∙◌, arith}
use Rattle.std.specs.Option.{option_copied}
use Rattle.cg_text.specs.Order.{same_text}
use Rattle.cg_db.specs.Map.{value_of}
use Rattle.cg_db.specs.Plan.{with_changes}
use Rattle.cg_db.proofs.PlanLemmas.{with_changes-none, value_of-more}
use Rattle.cg_db.proofs.plan.value_behind.Goals as goal
use Rattle.cg_db.proofs.plan.value_behind.Goals.{then-eq, else-eq}

pub loop-change-init : goal.loop-change-init
loop-change-init c = rw with_changes-none c.value-value.ensures

pub loop-change-preserved : goal.loop-change-preserved
loop-change-preserved c =
    let db = c.args.db.now in
    let changes = c.args.changes.now in
    let key = c.args.key.now in
    let i = c.loop-change.change-index in
    let change = c.change-item.result in
    let old = value_of (with_changes db (take i changes)) key in
    let lt : i < length changes = omega arith in
    let more = value_of-more db changes i change key lt (sym c.change-item.is) in
    elim c.if-eq.branch [
      | then-eq w ↦
          let test : same_text key change.key ≡ true = sym c.eq.ensures ∙ w.if-eq.true in
          let picked : cond (same_text key change.key) change.value old ≡ change.value = rw test refl in
          let same : option_copied c.if-eq.value ≡ option_copied w.as_ref-value.result = rw w.value-is refl in
          same ∙ w.as_ref-value.ensures.value ∙ sym picked ∙ sym more
      | else-eq w ↦
          let test : same_text key change.key ≡ false = sym c.eq.ensures ∙ w.if-eq.false in
          let picked : cond (same_text key change.key) change.value old ≡ old = rw test refl in
          let same : option_copied c.if-eq.value ≡ option_copied c.loop-change.value = rw w.value-is refl in
          same ∙ c.loop-change.invariant ∙ sym picked ∙ sym more
    ]

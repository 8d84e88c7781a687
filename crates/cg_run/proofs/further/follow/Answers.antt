use Rattle.std.proofs.Common.{refl, sym, ap, ap₂, ◌∙◌}
use Rattle.std.specs.Option.{option_copied}
use Rattle.cg_model.specs.Run.{Step}
use Rattle.cg_items.specs.Companion.{follows}
use Rattle.cg_items.specs.declared.companion.Companion.{Companion}
use Rattle.cg_items.specs.declared.companion.Companion.TheVariants.{Relaxed}
use Rattle.cg_run.specs.Noting.{noted}
use Rattle.cg_run.proofs.further.follow.Goals as goal

pub returns-in_ok-with_step-in-Relaxed : goal.returns-in_ok-with_step-in-Relaxed
returns-in_ok-with_step-in-Relaxed c = λ event.
    let step : Step = record { event = event; entry = c.args.entry.now; world = c.args.world.now.world } in
    ap₂ (λ rows lines. noted (Relaxed rows) lines) (c.in_ok-with_step-in-Relaxed.ensures step refl refl) c.new.ensures
    ∙ ap (λ (companion : Companion). follows companion (option_copied c.args.asked) step) (sym c.in-Relaxed.is)

use Rattle.std.proofs.Common.{Some, IfSome, sym, ap, subst, ◌∙◌}
use Rattle.std.specs.Option.{option_copied}
use Rattle.cg_disk_records.specs.Holds.{Holds}
use Rattle.cg_model.specs.World.{replica_of}
use Rattle.cg_world_events.proofs.CopiedParts.{held-copied, none-copied}
use Rattle.cg_world_events.proofs.handing.copy_of.Goals as goal

pub of-requires-clause-holds : goal.of-requires-clause-holds
of-requires-clause-holds c = subst (λ o. IfSome (option_copied o) Holds) c.in-Some.is c.core.ensures.holds

pub returns-in_ok-copy-in-Some : goal.returns-in_ok-copy-in-Some
returns-in_ok-copy-in-Some c =
    ap Some c.in_ok-copy-in-Some.ensures
    ∙ held-copied c.args.joiner c.args.p (replica_of c.args.state.now c.args.p) c.in-Some.core.now (sym c.core.ensures.value ∙ ap option_copied c.in-Some.is)

pub returns-in-None : goal.returns-in-None
returns-in-None c = none-copied c.args.joiner c.args.p (replica_of c.args.state.now c.args.p) (sym c.core.ensures.value ∙ ap option_copied c.in-None.is)

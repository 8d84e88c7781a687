use Rattle.std.proofs.Common.{◌≡◌, MatchOption, subst}
use Rattle.cg_group.specs.State.{GroupState, no_configuration, configuration, regular_in, phase_of}
use Rattle.cg_group.proofs.GroupFacts.{log_there}
use Rattle.cg_group.proofs.group.Group.home.Goals as goal

pub returns : goal.returns
returns g c =
    let conf = regular_in (phase_of c.args.self.now c.args.p) in
    let there = rw (c.as_slice.ensures.value, c.regular_in.ensures) at c.at_place.ensures in
    let found = log_there c.self.inside.logs.items c.self.inside.roster conf c.at_place.result there in
    subst (λ (s : GroupState _). MatchOption c.at_place.result (configuration s conf ≡ no_configuration) (λ log. configuration s conf ≡ log.now.configuration)) c.self.view_is found

-- What the step of a state in an exchange has come to.
use Rattle.std.specs.Prelude.{◌≡◌, [], Some}
use Rattle.std.specs.Option.{option_map}
use Rattle.cg_client.specs.declared.parts.DraftParts.{DraftParts}
use Rattle.cg_client.specs.Drafts.{turn_with}
use Rattle.cg_client.specs.Replica.{Construct, Left}
use Rattle.cg_client.specs.Turn.{Turn}
use Rattle.cg_exchange.specs.States.{in_non_prim, in_states, in_actions}
use Rattle.cg_exchange.specs.declared.step.ExchangeStep.{ExchangeStep}
use Rattle.cg_exchange.specs.declared.step.ExchangeStep.TheVariants.{Non, States, Actions, Attempt, Gone}

-- the turn that a step leaves
abbrev pub turn_after : ExchangeStep → DraftParts → Turn
turn_after (Non s) d = in_non_prim s d
turn_after (States s) d = in_states s d
turn_after (Actions s) d = in_actions s d
turn_after (Attempt core conf) d = turn_with core (Construct conf []) d
turn_after (Gone core) d = turn_with core Left d

-- the record of an attempt that begins is of its configuration
abbrev pub HasRecord : ExchangeStep → Type 0
HasRecord (Attempt core conf) = option_map (λ v. v.attempt) core.vulnerable ≡ Some conf
HasRecord _ = Unit {0}

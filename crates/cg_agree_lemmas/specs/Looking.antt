-- What is seen of a node and of a replica's past.
use Rattle.std.proofs.Common.{◌≡◌, true, false, List, [], Option, Some, None, option_map, option_and_then, refl, ap, Bool}
use Rattle.std.specs.Option.{option_map_or}
use Rattle.cg_action.specs.declared.action.Action.{Action}
use Rattle.cg_client.specs.Replica.{Held, State, No, Un, Replica}
use Rattle.cg_model.specs.Attempts.{held_in}
use Rattle.cg_model.specs.Chronicle.{Past}
use Rattle.cg_model.specs.Small.{written, struck}
use Rattle.cg_model.specs.World.{NodeState, Up, Down, Node, running}

abbrev pub life_in : Option Node → Option Replica
life_in o = option_and_then (λ s. running s.life) o

abbrev pub greens-in : Option Past → List Action
greens-in o = option_map_or (λ x. x.greens) o []

abbrev pub stood-in : Option Past → List Action
stood-in o = option_map_or (λ x. x.stood) o []

pub written-greens : (o : Option Past) → greens-in (option_map written o) ≡ greens-in o
written-greens None = refl
written-greens (Some x) = refl

pub written-stood : (o : Option Past) → stood-in (option_map written o) ≡ greens-in o
written-stood None = refl
written-stood (Some x) = refl

pub struck-stood : (o : Option Past) → stood-in (option_map struck o) ≡ stood-in o
struck-stood None = refl
struck-stood (Some x) = refl

pub struck-greens : (o : Option Past) → greens-in (option_map struck o) ≡ stood-in o
struck-greens None = refl
struck-greens (Some x) = refl

abbrev pub core_in : Option Node → Option Held
core_in o = option_map (λ s. held_in s.life) o

pub core-there : (o : Option Node) (r : Replica) → option_and_then (λ s. running s.life) o ≡ Some r → option_map (λ s. held_in s.life) o ≡ Some r.held
core-there None r e = absurd (let clash : None ≡ Some r = e in cc)
core-there (Some s) r e = life s.life e where
  life : (l : NodeState) → running l ≡ Some r → Some (held_in l) ≡ Some r.held
  life (Up x disk) e = ap (option_map (λ (r : Replica). r.held)) e
  life (Down disk green) e = absurd (let clash : None ≡ Some r = e in cc)

abbrev pub is_waiting : State → Bool
is_waiting (No conf heard) = true
is_waiting Un = true
is_waiting _ = false

-- What is asked of a replica of a world, asked of what it holds.
use Rattle.std.proofs.Common.{◌≡◌, Option, Some, None, option_map, refl}
use Rattle.std.specs.Prelude.{option_and_then}
use Rattle.std.specs.Option.{option_map_or}
use Rattle.cg_client.specs.Replica.{Replica, Held}

module _ {X : Type 0} where
  pub core-then : (o : Option Replica) (h : Option Held) (f : Held → Option X) → h ≡ option_map (λ r. r.held) o →
      option_and_then (λ r. f r.held) o ≡ option_and_then f h
  core-then None h f is = rw is refl
  core-then (Some r) h f is = rw is refl

  pub core-or : (o : Option Replica) (h : Option Held) (f : Held → X) (d : X) → h ≡ option_map (λ r. r.held) o →
      option_map_or (λ r. f r.held) o d ≡ option_map_or f h d
  core-or None h f d is = rw is refl
  core-or (Some r) h f d is = rw is refl

-- A group in memory: its configurations stand in a row of logs.
use Rattle.std.proofs.Common.{◌≡◌, ℕ, List, Option, Some, None, refl, sym, ap, ◌∙◌, option_map, Bor, MatchOption}
use Rattle.std.specs.Option.{option_map_or, option_copied}
use Rattle.cg_base.specs.Lists.{at_place}
use Rattle.cg_group.specs.State.{Configuration, Standing, no_configuration, configuration}
use Rattle.cg_group.specs.Logs.{LogView, group_of}
use Rattle.cg_group.proofs.LogFacts.{at_place-map}

module _ {M : Type 0} where
  pub configuration-of : (logs : List (LogView M)) (replicas : List (Standing M)) (conf : ℕ) →
      configuration (group_of logs replicas) conf ≡ option_map_or (λ s. s.configuration) (at_place logs conf) no_configuration
  unfolding configuration
  configuration-of logs replicas conf =
      ap (λ o. option_map_or (λ (c : Configuration M). c) o no_configuration) (at_place-map (λ (s : LogView M). s.configuration) logs conf) ∙ by_option (at_place logs conf)
    where
      by_option : (o : Option (LogView M)) →
          option_map_or (λ (c : Configuration M). c) (option_map (λ (s : LogView M). s.configuration) o) no_configuration ≡ option_map_or (λ (s : LogView M). s.configuration) o no_configuration
      by_option None = refl
      by_option (Some s) = refl

  -- the log that stands at a configuration's number is the configuration, and where none stands there is none
  pub log_there : (logs : List (LogView M)) (replicas : List (Standing M)) (conf : ℕ) (r : Option (Bor (LogView M))) → option_copied r ≡ at_place logs conf →
      MatchOption r (configuration (group_of logs replicas) conf ≡ no_configuration) (λ log. configuration (group_of logs replicas) conf ≡ log.now.configuration)
  log_there logs replicas conf None e =
      configuration-of logs replicas conf ∙ ap (λ o. option_map_or (λ (s : LogView M). s.configuration) o no_configuration) (sym e)
  log_there logs replicas conf (Some log) e =
      configuration-of logs replicas conf ∙ ap (λ o. option_map_or (λ (s : LogView M). s.configuration) o no_configuration) (sym e)

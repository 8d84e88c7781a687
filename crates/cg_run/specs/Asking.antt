-- What a further event comes to that is admitted.
use Rattle.std.specs.Prelude.{ℕ, Some}
use Rattle.std.specs.Option.{option_map_or}
use Rattle.cg_items.specs.declared.companion.Further.{Further}
use Rattle.cg_items.specs.Companion.{acts, event_of}
use Rattle.cg_outcome.specs.Produced.{Progress, Produced, acted, one_step}

-- the step for which it stands, or what it does beside the world
abbrev pub admitted : ℕ → Further → Progress → Produced
admitted n e s =
    option_map_or (λ event. one_step n (Some e) event s) (event_of e) (acted n e (acts s.world s.companion e) s)

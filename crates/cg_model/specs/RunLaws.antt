-- What a run comes to with one more step, and that its front is a run.
use Rattle.std.proofs.Common.{◌≡◌, List, [], ◌∷◌, ◌++◌, map, refl, ap, ◌∙◌, append_assoc}
use Rattle.std.proofs.lemmas.List.{map-append}
use Rattle.cg_base.specs.ElementLaws.{flat-append}
use Rattle.cg_report.specs.declared.entry.Placed.{Placed}
use Rattle.cg_model.specs.World.{World, no_world}
use Rattle.cg_model.specs.Run.{Step, IsRunFrom, world_after}
use Rattle.cg_model.specs.Agreement.{through}
use Rattle.cg_model.specs.Shown.{order_of, order_lines}
use Rattle.cg_model.specs.Chronicle.{Chronicle, no_chronicle}
use Rattle.cg_model.specs.Noting.{chronicle_step, chronicle_after}

pub front-run : (w : World) (xs ys : List Step) → IsRunFrom w (xs ++ ys) → IsRunFrom w xs
front-run w [] ys run = tt
front-run w (s ∷ xs) ys run = (run.0, run.1, run.2, front-run s.world xs ys run.3)

pub world-last : (w : World) (xs : List Step) (s : Step) → world_after w (through xs s) ≡ s.world
world-last w [] s = refl
world-last w (x ∷ xs) s = world-last x.world xs s

pub chronicle-last : (c : Chronicle) (w : World) (xs : List Step) (s : Step) →
    chronicle_after c w (through xs s) ≡ chronicle_step (chronicle_after c w xs) (world_after w xs) s.event
chronicle-last c w [] s = refl
chronicle-last c w (x ∷ xs) s = chronicle-last (chronicle_step c w x.event) x.world xs s

pub through-append : (earlier : List Step) (s : Step) (later : List Step) →
    through earlier s ++ later ≡ earlier ++ s ∷ later
through-append earlier s later = append_assoc earlier (s ∷ []) later

pub order-append : (a b : List Step) → order_of (a ++ b) ≡ order_of a ++ order_of b
order-append a b =
    ap (map (λ (o : Placed). o.id)) (flat-append (λ (s : Step). s.entry.orders) a b)
    ∙ map-append (λ (o : Placed). o.id) (order_lines a) (order_lines b)

-- the world and the chronicle behind the steps of a run
abbrev pub world_of : List Step → World
world_of steps = world_after no_world steps

abbrev pub chronicle_of : List Step → Chronicle
chronicle_of steps = chronicle_after no_chronicle no_world steps

-- The items of a part are sent one after another.
use Rattle.std.specs.Prelude.{◌≡◌, ℕ, suc, ◌+◌, ◌-◌, ◌<◌, List, ◌++◌, map, flat_map}
use Rattle.std.proofs.Common.{arith, ◌∙◌, ap}
use Rattle.std.proofs.lemmas.List.{append_assoc}
use Rattle.cg_base.specs.Lists.{above_up_to}
use Rattle.cg_plan.specs.declared.parts.Item.{Item}
use Rattle.cg_wire.specs.declared.message.Msg.{Msg}
use Rattle.cg_client.specs.declared.parts.DraftParts.{DraftParts}

pub items-step : (make : ℕ → Item) (f : Item → List Msg) (sent start new : List Msg) (low i to : ℕ) → low + i < to
    → sent ++ flat_map f (map make (above_up_to (low + i) to)) ≡ start
    → new ≡ sent ++ f (make (low + i + 1))
    → new ++ flat_map f (map make (above_up_to (low + (i + 1)) to)) ≡ start
items-step make f sent start new low i to within given grown =
    let size : to - (low + i) ≡ suc (to - (low + (i + 1))) = omega arith in
    let next : low + (i + 1) ≡ suc (low + i) = omega arith in
    let place : low + i + 1 ≡ suc (low + i) = omega arith in
    rw (grown, place, next) (append_assoc sent (f (make (suc (low + i)))) (flat_map f (map make (above_up_to (suc (low + i)) to))) ∙ rw next at (rw size at given))

-- what a second part leaves as it was, after a first one
pub rest-step : (start now new : DraftParts) → now ≡ record start { sent = now.sent } → new ≡ record now { sent = new.sent } → new ≡ record start { sent = new.sent }
rest-step start now new before here = here ∙ ap (λ (d : DraftParts). record d { sent = new.sent }) before

-- What a step comes to that the world takes, and how passes and deliveries go on.
use Rattle.std.proofs.Common.{◌≡◌, ℕ, suc, ◌+◌, ◌-◌, ◌<◌, List, ◌∷◌, Option, None, refl, sym, ap, arith}
use Rattle.cg_report.specs.declared.entry.Entry.{Entry}
use Rattle.cg_schedule.specs.declared.event.Event.{Event}
use Rattle.cg_model.specs.Admission.{first_refusal}
use Rattle.cg_model.specs.Step.{world_step}
use Rattle.cg_model.specs.World.{World}
use Rattle.cg_items.specs.declared.companion.Further.{Further}
use Rattle.cg_outcome.specs.Produced.{Progress, and_then, stepped, one_step}
use Rattle.cg_outcome.specs.Rounds.{deliver_ready, deliveries, one_pass, passes}

pub one_step-done : (n : ℕ) (asked : Option Further) (event : Event) (s : Progress) (after : World) (entry : Entry) → first_refusal s.world event ≡ None
    → record { entry = entry; world = after } ≡ world_step s.world event → one_step n asked event s ≡ stepped n asked event (record { entry = entry; world = after }) s
one_step-done n asked event s after entry admitted is = rw admitted (ap (λ m. stepped n asked event m s) (sym is))

pub passes-step : (n count made : ℕ) (s : Progress) → made < count → passes n (count - made) s ≡ and_then (one_pass n s) (passes n (count - (made + 1)))
passes-step n count made s lt = let e : count - made ≡ suc (count - (made + 1)) = omega arith in rw e

-- a replica's turn, and then those of the others
pub deliveries-step : (n : ℕ) (set : List ℕ) (p : ℕ) (left : List ℕ) (s : Progress) → set ≡ p ∷ left → deliveries n set s ≡ and_then (deliver_ready n p s) (deliveries n left)
deliveries-step n set p left s e = rw e refl

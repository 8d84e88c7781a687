use Rattle.std.proofs.Common.{◌≡◌, ◌++◌, [], ◌∷◌, map}
use Rattle.cg_base.specs.Iterators.{members_left}
use Rattle.cg_group.specs.declared.delivery.Delivery.TheVariants.{Regular}
use Rattle.cg_group.proofs.merging.hand_regular_to_all.Given as goal

-- what is handed so far and what is still to be handed are all
abbrev pub invariant-loop-p : goal.invariant-loop-p
invariant-loop-p g l =
    l.handed.items ++ map (λ p. record { to = p; list = Regular l.conf l.set ∷ [] }) (members_left l.p-iterator)
    ≡ map (λ p. record { to = p; list = Regular l.conf l.set ∷ [] }) l.set

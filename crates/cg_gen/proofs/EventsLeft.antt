-- The events that are left, by how many there are.
use Rattle.std.proofs.Common.{◌≡◌, ℕ, zero, suc, ◌≤◌, [], ◌∷◌, refl, arith}
use Rattle.cg_schedule.specs.declared.event.Event.{Event}
use Rattle.cg_schedule.specs.declared.event.Event.TheVariants.{End}
use Rattle.cg_gen.specs.Generated.{GeneratorState, next_line, events_left}

pub none_left : (replicas left : ℕ) (state : GeneratorState) → left ≡ 0 → events_left replicas left state ≡ []
unfolding events_left
none_left replicas left state none = rw none refl

pub end_left : (replicas left behind : ℕ) (state : GeneratorState) → left ≡ 1 → behind ≡ 0
    → events_left replicas left state ≡ End ∷ events_left replicas behind state
unfolding events_left
end_left replicas left behind state one none = rw (one, none) refl

pub more_left : (replicas left behind : ℕ) (state after : GeneratorState) (event : Event) → left ≡ suc behind → 1 ≤ behind
    → next_line replicas behind state ≡ (event, after) → events_left replicas left state ≡ event ∷ events_left replicas behind after
unfolding events_left
more_left replicas left zero state after event one_more some line = absurd (omega (arith, some))
more_left replicas left (suc behind) state after event one_more some line = rw (one_more, line) refl

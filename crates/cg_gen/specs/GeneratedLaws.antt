-- A generated schedule has as many events as it was asked for, the last of them is the end, and each may stand where it does: start
-- first and once, and nothing behind the end.
use Rattle.std.proofs.Common.{◌≡◌, ℕ, zero, suc, ◌≤◌, ◌<◌, ◌==◌, nat_lt, ◌||◌, Bool, true, false, List, [], ◌∷◌, length, Option, Some, None, if◌then◌else◌, refl, sym, ap, subst, arith}
use Rattle.std.specs.List.{last_or}
use Rattle.cg_base.specs.Lists.{count_up}
use Rattle.cg_schedule.specs.declared.event.Event.{Event}
use Rattle.cg_schedule.specs.declared.event.Event.TheVariants.{Split, Merge, Gather, End}
use Rattle.cg_schedule.specs.declared.reader_state.ReaderState.{ReaderState}
use Rattle.cg_schedule.specs.Line.{first_state, state_after}
use Rattle.cg_schedule.specs.Laws.{MayStand}
use Rattle.cg_gen.specs.declared.halves.Halves.{Halves}
use Rattle.cg_gen.specs.Generated.{Drawing, draw, ◌>>=◌, done, increment, set_and_get, weak_get, passes, asking, Block, line_alone, cell_at, halved, in_parts, parting, joining, parting_or_joining, regrouping, restarting, block_of, block, GeneratorState, line_with, next_line, events_left, with_cell, generated, at_the_start}

-- each of the events may stand in its state, the first of them in the given one
abbrev pub AllStand : ReaderState → List Event → Type 0
AllStand state [] = Unit {0}
AllStand state (event ∷ events) = MayStand state event × AllStand (state_after state event) events

-- ---- how many

pub events_left-length : (replicas left : ℕ) (state : GeneratorState) → length (events_left replicas left state) ≡ left
unfolding events_left
events_left-length replicas zero state = refl
events_left-length replicas (suc zero) state = refl
events_left-length replicas (suc (suc left)) state =
    ap (λ n. suc n) (events_left-length replicas (suc left) (next_line replicas (suc left) state).1)

pub generated-length : (seed replicas lines : ℕ) → length (generated seed replicas lines) ≡ lines
generated-length seed replicas lines = events_left-length replicas lines (at_the_start seed (count_up 1 replicas))

-- ---- the last one

events_left-ends : (replicas left : ℕ) (state : GeneratorState) (before : Option Event) → 1 ≤ left →
    last_or before (events_left replicas left state) ≡ Some End
unfolding events_left
events_left-ends replicas zero state before some = absurd (omega (arith, some))
events_left-ends replicas (suc zero) state before some = refl
events_left-ends replicas (suc (suc left)) state before some =
    let line : Event × GeneratorState = next_line replicas (suc left) state in
    events_left-ends replicas (suc left) line.1 (Some line.0) (omega arith)

pub generated-ends : (seed replicas lines : ℕ) → 1 ≤ lines → last_or None (generated seed replicas lines) ≡ Some End
generated-ends seed replicas lines = events_left-ends replicas lines (at_the_start seed (count_up 1 replicas)) None

-- ---- between start and end

abbrev running : ReaderState
running = record { started = true; ended = false }

-- the event may stand between start and end, and changes nothing of that
abbrev Goes : Event → Type 0
Goes event = MayStand running event × (state_after running event ≡ running)

abbrev AllGo : List Event → Type 0
AllGo [] = Unit {0}
AllGo (event ∷ events) = Goes event × AllGo events

abbrev BlockGoes : Block → Type 0
BlockGoes b = Goes b.first × AllGo b.others

abbrev Asks : Drawing Event → Type 0
Asks drawing = (x : ℕ) → Goes (drawing x).0

abbrev Blocks : Drawing Block → Type 0
Blocks drawing = (x : ℕ) → BlockGoes (drawing x).0

either : {X : Type 0} (P : X → Type 0) (test : Bool) (a b : X) → P a → P b → P (if test then a else b)
either P true a b first second = first
either P false a b first second = second

increment-goes : (replicas : ℕ) → Asks (increment replicas)
unfolding increment
increment-goes replicas x = (refl, refl)

set_and_get-goes : (replicas : ℕ) → Asks (set_and_get replicas)
unfolding set_and_get
set_and_get-goes replicas x = (refl, refl)

weak_get-goes : (replicas : ℕ) → Asks (weak_get replicas)
unfolding weak_get
weak_get-goes replicas x = (refl, refl)

passes-goes : Asks passes
unfolding passes
passes-goes x = (refl, refl)

asking-goes : (replicas b : ℕ) → Asks (asking replicas b)
unfolding asking
asking-goes replicas b =
    either Asks (nat_lt b 4) (increment replicas) (if b == 4 then set_and_get replicas else if b == 5
    then weak_get replicas else passes)
    (increment-goes replicas)
    (either Asks (b == 4) (set_and_get replicas) (if b == 5 then weak_get replicas
    else passes) (set_and_get-goes replicas)
    (either Asks (b == 5) (weak_get replicas) passes (weak_get-goes replicas) passes-goes))

in_parts-goes : (cells : List (List ℕ)) (cell : List ℕ) (halves : Halves) → BlockGoes (in_parts cells cell halves)
in_parts-goes cells cell halves =
    either BlockGoes (length halves.first == 0 || length halves.second == 0)
    (record { first = Split cell; others = Merge cell ∷ []; cells = cells })
    (record {
      first = Split halves.first;
      others = Split halves.second ∷ Merge halves.first ∷ Merge halves.second ∷ [];
      cells = with_cell (with_cell cells halves.first) halves.second;
    })
    ((refl, refl), ((refl, refl), tt)) ((refl, refl), ((refl, refl), ((refl, refl), ((refl, refl), tt))))

parting-goes : (cells : List (List ℕ)) (i : ℕ) → Blocks (parting cells i)
unfolding parting
parting-goes cells i x =
    in_parts-goes cells (cell_at cells i) (halved (cell_at cells i) (record { first = []; second = [] }) x).0

joining-goes : (cells : List (List ℕ)) → Blocks (joining cells)
unfolding joining
joining-goes cells x = ((refl, refl), ((refl, refl), ((refl, refl), tt)))

parting_or_joining-goes : (cells : List (List ℕ)) (n : ℕ) → Blocks (parting_or_joining cells n)
parting_or_joining-goes cells n =
    either Blocks (n == 0) (draw (length cells) >>= parting cells) (joining cells)
    (λ x. parting-goes cells (draw (length cells) x).0 (draw (length cells) x).1) (joining-goes cells)

regrouping-goes : (cells : List (List ℕ)) → Blocks (regrouping cells)
unfolding regrouping
regrouping-goes cells =
    either Blocks (length cells == 1) (parting cells 0) (draw 3 >>= parting_or_joining cells) (parting-goes cells 0)
    (λ x. parting_or_joining-goes cells (draw 3 x).0 (draw 3 x).1)

restarting-goes : (replicas : ℕ) (cells : List (List ℕ)) → Blocks (restarting replicas cells)
unfolding restarting
restarting-goes replicas cells x = ((refl, refl), ((refl, refl), ((refl, refl), tt)))

block_of-goes : (replicas left : ℕ) (cells : List (List ℕ)) (b : ℕ) → Blocks (block_of replicas left cells b)
block_of-goes replicas left cells b =
    either Blocks (nat_lt b 8) (asking replicas b >>= λ event. done (line_alone cells event))
    (if nat_lt left 4 then done (line_alone cells Gather) else if b == 8 then regrouping cells
    else restarting replicas cells)
    (λ x. (asking-goes replicas b x, tt))
    (either Blocks (nat_lt left 4) (done (line_alone cells Gather)) (if b == 8 then regrouping cells
    else restarting replicas cells)
    (λ x. ((refl, refl), tt))
    (either Blocks (b == 8) (regrouping cells) (restarting replicas cells) (regrouping-goes cells)
    (restarting-goes replicas cells)))

block-goes : (replicas left : ℕ) (cells : List (List ℕ)) → Blocks (block replicas left cells)
unfolding block
block-goes replicas left cells x = block_of-goes replicas left cells (draw 10 x).0 (draw 10 x).1

-- ---- the schedule

line-goes : (replicas left number : ℕ) (cells : List (List ℕ)) (waiting : List Event) → AllGo waiting
    → Goes (line_with replicas left number cells waiting).0
    × AllGo (line_with replicas left number cells waiting).1.waiting
line-goes replicas left number cells [] go = block-goes replicas left cells number
line-goes replicas left number cells (event ∷ waiting) go = go

events_left-stand : (replicas left : ℕ) (state : GeneratorState) → AllGo state.waiting →
    AllStand running (events_left replicas (suc left) state)
unfolding events_left
events_left-stand replicas zero state go = (refl, tt)
events_left-stand replicas (suc left) state go =
    let line = line-goes replicas (suc left) state.number state.cells state.waiting go in
    let after : GeneratorState = (next_line replicas (suc left) state).1 in (
      line.0.0,
      subst (λ (state : ReaderState). AllStand state (events_left replicas (suc left) after)) (sym line.0.1)
          (events_left-stand replicas left after line.1),
    )

pub generated-stands : (seed replicas lines : ℕ) → 1 < lines → AllStand first_state (generated seed replicas lines)
unfolding events_left
generated-stands seed replicas zero some = absurd (omega (arith, some))
generated-stands seed replicas (suc zero) some = absurd (omega (arith, some))
generated-stands seed replicas (suc (suc left)) some = (refl, events_left-stand replicas left _ ((refl, refl), tt))

-- Each event of a generated schedule is within the limits of a line, and the last one is its end.
use Rattle.std.proofs.Common.{◌≡◌, ℕ, zero, suc, ◌+◌, ◌≤◌, ◌<◌, true, ◌||◌, not, List, [], ◌∷◌, filter, find, fold, length, Option, Some, None, refl, sym, subst, arith, if◌then◌else◌}
use Rattle.std.specs.Prelude.{◌==◌, nat_lt, pos, FitsSigned}
use Rattle.std.specs.Int.{w64}
use Rattle.std.specs.List.{prefix_len}
use Rattle.std.specs.Option.{unwrap_or}
use Rattle.std.proofs.lemmas.Bool.{cond_both, le-ltb, ne_eqb}
use Rattle.std.proofs.lemmas.Int.{fits_signed_from_abs}
use Rattle.std.proofs.lemmas.List.Elements.{All-nil, All-cons}
use Rattle.std.proofs.lemmas.Str.{IsUtf8-nil}
use Rattle.cg_base.specs.Lists.{count_up, Each}
use Rattle.cg_base.specs.Sets.{IsId, IsSet, Ascends, has, with_member, without_member, union}
use Rattle.cg_base.specs.SetLaws.{Ascends-with_member, Ascends-union, Ascends-filter}
use Rattle.cg_base.specs.Weights.{IsWeightSet, Weigh, each_once}
use Rattle.cg_text.specs.Printable.{is_printable}
use Rattle.cg_action.specs.Limits.{IsCommandOf, IsAskedOf}
use Rattle.cg_action.specs.declared.command.Cmd.{Cmd}
use Rattle.cg_action.specs.declared.command.Cmd.TheVariants.{Put, Inc}
use Rattle.cg_action.specs.declared.query.Query.{Query}
use Rattle.cg_action.specs.declared.query.Query.TheVariants.{Get}
use Rattle.cg_action.specs.declared.value.Value.TheVariants.{Int}
use Rattle.cg_base.specs.EachLaws.{Each-filter}
use Rattle.cg_base.specs.WeightLaws.{ids-each_once}
use Rattle.cg_base.specs.TextLaws.{ascii_then}
use Rattle.cg_schedule.specs.declared.event.Event.{Event}
use Rattle.cg_schedule.specs.declared.event.Event.TheVariants.{Split, Merge, Gather}
use Rattle.cg_schedule.specs.declared.reader_state.ReaderState.{ReaderState}
use Rattle.cg_schedule.specs.Limits.{IsPrintable, IsQuery, IsUpdate, IsEvent}
use Rattle.cg_schedule.specs.Line.{first_state, state_after}
use Rattle.cg_gen.specs.Generated.{Drawing, draw, draw_from_one, ◌>>=◌, done, first_of, are_apart, placed, with_cell, cell_at, cell_of, name, increment, set_and_get, weak_get, passes, Block, line_alone, parting, in_one, joining, parting_or_joining, regrouping, restarted, restarting, asking, block_of, block, GeneratorState, line_with, next_line, events_left, at_the_start, generated}
use Rattle.cg_laws.proofs.Cells.{Each-insert, in_two, parted-cell}
use Rattle.cg_laws.proofs.Blocks.{drawn-below}
use Rattle.cg_laws.proofs.Schedule.{Ascends-count_up}

-- ---- sets

as-set : (set : List ℕ) → Ascends 1 set → IsSet set
as-set set ascends = record { ascends = ascends }

none-set : IsSet []
none-set = as-set [] tt

with-set : (set : List ℕ) (p : ℕ) → IsId p → IsSet set → IsSet (with_member set p)
with-set set p is s = as-set (with_member set p) (Ascends-with_member set 1 p is.0 is.1 s.ascends)

union-set : (s t : List ℕ) → IsSet s → IsSet t → IsSet (union s t)
union-set s t is there = as-set (union s t) (Ascends-union s t 1 (omega arith) is.ascends there.ascends)

without-set : (set : List ℕ) (p : ℕ) → IsSet set → IsSet (without_member set p)
without-set set p s = as-set (without_member set p) (Ascends-filter (λ q. not (q == p)) set 1 s.ascends)

-- ---- cells

abbrev AreSets : List (List ℕ) → Type 0
AreSets = Each IsSet

with_cell-sets : (cells : List (List ℕ)) (set : List ℕ) → AreSets cells → IsSet set → AreSets (with_cell cells set)
unfolding with_cell
with_cell-sets cells set each is =
    let others = filter (are_apart set) cells in
    cond_both (length set == 0) cells (placed others set) AreSets (λ y. each)
    (λ n. Each-insert IsSet (prefix_len (λ cell. nat_lt (first_of cell) (first_of set)) others) set others is (Each-filter IsSet (are_apart set) cells each))

at-set : (cells : List (List ℕ)) (i : ℕ) → AreSets cells → IsSet (cell_at cells i)
at-set [] i each = none-set
at-set (cell ∷ cells) zero each = each.0
at-set (cell ∷ cells) (suc i) each = at-set cells i each.1

of-set : (cells : List (List ℕ)) (p : ℕ) → AreSets cells → IsSet (cell_of cells p)
of-set [] p each = none-set
of-set (cell ∷ cells) p each =
    cond_both (has cell p) (Some cell) (find (λ cell. has cell p) cells) (λ o. IsSet (unwrap_or o [])) (λ y. each.0) (λ n. of-set cells p each.1)

-- ---- what is asked for

named : (letter n : ℕ) → 64 ≤ letter → letter < 127 → n < 8 → IsPrintable 1 64 (name letter n)
named letter n low high small =
    let utf8 = ascii_then letter ((48 + n) ∷ []) (omega (arith, high)) (ascii_then (48 + n) [] (omega (arith, small)) IsUtf8-nil) in
    let printed : is_printable (name letter n) ≡ true =
    rw (
      le-ltb letter 32 (omega (arith, low)),
      ne_eqb letter 127 (λ e. omega (arith, high, e)),
      le-ltb (48 + n) 32 (omega arith),
      ne_eqb (48 + n) 127 (λ e. omega (arith, small, e)),
    ) refl in
    (utf8, printed, omega arith, omega arith)

one-command : (cmd : Cmd) (query : Option Query) → IsCommandOf IsPrintable cmd → ((q : Query) → query ≡ Some q → IsQuery q) → IsUpdate (cmd ∷ []) query
one-command cmd query is asks = record { few = omega arith; each = All-cons (IsCommandOf IsPrintable) cmd [] is (All-nil (IsCommandOf IsPrintable)); asks = asked query asks; does = refl } where
  asked : (query : Option Query) → ((q : Query) → query ≡ Some q → IsQuery q) → IsAskedOf IsPrintable query
  asked None asks = tt
  asked (Some q) asks = asks q refl

small-number : (n : ℕ) → n < 10 → FitsSigned w64 (pos n)
small-number n small = fits_signed_from_abs w64 (pos n) (omega (arith, small))

abbrev Asks : Drawing Event → Type 0
Asks drawing = (x : ℕ) → IsEvent (drawing x).0

module _ (replicas : ℕ) (some : 1 ≤ replicas) (high : replicas ≤ 32) where
  one-of : (x : ℕ) → IsId (draw_from_one replicas x).0
  one-of x = let below = drawn-below replicas x some in (omega arith, omega (arith, below, high))

  key-of : (x : ℕ) → IsPrintable 1 64 (name 107 (draw 8 x).0)
  key-of x = named 107 (draw 8 x).0 (omega arith) (omega arith) (drawn-below 8 x (omega arith))

  setting-of : (x : ℕ) → IsPrintable 1 64 (name 116 (draw 8 x).0)
  setting-of x = named 116 (draw 8 x).0 (omega arith) (omega arith) (drawn-below 8 x (omega arith))

  digit-of : (x : ℕ) → FitsSigned w64 (pos (draw_from_one 9 x).0)
  digit-of x = let below = drawn-below 9 x (omega arith) in small-number (draw_from_one 9 x).0 (omega (arith, below))

  increment-is : Asks (increment replicas)
  unfolding increment
  increment-is x =
      let y = (draw_from_one replicas x).1 in
      let key = name 107 (draw 8 y).0 in
      let by = (draw_from_one 9 (draw 8 y).1).0 in
      (one-of x, one-command (Inc key (pos by)) None (key-of y, digit-of (draw 8 y).1) (λ q e. absurd cc))

  set_and_get-is : Asks (set_and_get replicas)
  unfolding set_and_get
  set_and_get-is x =
      let y = (draw_from_one replicas x).1 in
      let k = (draw 8 y).0 in
      let by = (draw_from_one 9 (draw 8 y).1).0 in (
        one-of x,
        one-command (Put (name 116 k) (Int (pos by))) (Some (Get (name 107 k))) (setting-of y, digit-of (draw 8 y).1)
            (λ q e. (let same : Get (name 107 k) ≡ q = cc in subst IsQuery same (key-of y))),
      )

  weak_get-is : Asks (weak_get replicas)
  unfolding weak_get
  weak_get-is x = (one-of x, key-of (draw_from_one replicas x).1)

  passes-are : Asks passes
  unfolding passes
  passes-are x = let below = drawn-below 6 x (omega arith) in (omega arith, omega (arith, below))

  asking-is : (b : ℕ) → Asks (asking replicas b)
  unfolding asking
  asking-is b =
      cond_both (nat_lt b 4) (increment replicas) (if b == 4 then set_and_get replicas else if b == 5 then weak_get replicas else passes) Asks
      (λ y. increment-is)
      (λ n. cond_both (b == 4) (set_and_get replicas) (if b == 5 then weak_get replicas else passes) Asks
      (λ y. set_and_get-is) (λ m. cond_both (b == 5) (weak_get replicas) passes Asks (λ y. weak_get-is) (λ k. passes-are)))

  -- ---- blocks

  abbrev BlockIs : Block → Type 0
  BlockIs b = Each IsEvent (b.first ∷ b.others) × AreSets b.cells

  abbrev Blocks : Drawing Block → Type 0
  Blocks drawing = (x : ℕ) → BlockIs (drawing x).0

  alone-is : (cells : List (List ℕ)) (event : Event) → AreSets cells → IsEvent event → BlockIs (line_alone cells event)
  alone-is cells event each is = ((is, tt), each)

  in_two-is : (cells : List (List ℕ)) (cell first second : List ℕ) → AreSets cells → IsSet cell → IsSet first → IsSet second → BlockIs (in_two cells cell first second)
  in_two-is cells cell first second each is one two =
      cond_both (length first == 0 || length second == 0)
      (record { first = Split cell; others = Merge cell ∷ []; cells = cells })
      (record { first = Split first; others = Split second ∷ Merge first ∷ Merge second ∷ []; cells = with_cell (with_cell cells first) second })
      BlockIs
      (λ y. ((is, (is, tt)), each))
      (λ n. ((one, (two, (one, (two, tt)))), with_cell-sets (with_cell cells first) second (with_cell-sets cells first each one) two))

  parting-is : (cells : List (List ℕ)) (i : ℕ) → AreSets cells → Blocks (parting cells i)
  parting-is cells i each x =
      let is = at-set cells i each in
      let parts = parted-cell cells i x is.ascends in
      let are = parts.2 in
      subst BlockIs (sym parts.3) (in_two-is cells (cell_at cells i) parts.0 parts.1 each is (as-set parts.0 are.first_ascends) (as-set parts.1 are.second_ascends))

  in_one-is : (cells : List (List ℕ)) (a b : List ℕ) → AreSets cells → IsSet a → IsSet b → BlockIs (in_one cells a b)
  in_one-is cells a b each is there =
      let all = union-set a b is there in
      ((is, (there, (all, tt))), with_cell-sets cells (union a b) each all)

  joining-is : (cells : List (List ℕ)) → AreSets cells → Blocks (joining cells)
  unfolding joining
  joining-is cells each x =
      let i = (draw (length cells) x).0 in
      in_one-is cells (cell_at cells i) (cell_at cells _) each (at-set cells i each) (at-set cells _ each)

  parting_or_joining-is : (cells : List (List ℕ)) (n : ℕ) → AreSets cells → Blocks (parting_or_joining cells n)
  parting_or_joining-is cells n each =
      cond_both (n == 0) (draw (length cells) >>= parting cells) (joining cells) Blocks
      (λ y x. parting-is cells (draw (length cells) x).0 each (draw (length cells) x).1) (λ m. joining-is cells each)

  regrouping-is : (cells : List (List ℕ)) → AreSets cells → Blocks (regrouping cells)
  unfolding regrouping
  regrouping-is cells each =
      cond_both (length cells == 1) (parting cells 0) (draw 3 >>= parting_or_joining cells) Blocks (λ y. parting-is cells 0 each)
      (λ m x. parting_or_joining-is cells (draw 3 x).0 each (draw 3 x).1)

  restarted-is : (cells : List (List ℕ)) (p : ℕ) → AreSets cells → IsId p → BlockIs (restarted cells p)
  restarted-is cells p each is =
      let alone : IsSet (with_member [] p) = with-set [] p is none-set in
      let rest = without_member (cell_of cells p) p in
      let others = with_cell-sets cells rest each (without-set (cell_of cells p) p (of-set cells p each)) in
      (((is, ((omega arith, omega arith), (tt, omega arith))), (is, (alone, tt))), with_cell-sets (with_cell cells rest) (with_member [] p) others alone)

  restarting-is : (cells : List (List ℕ)) → AreSets cells → Blocks (restarting replicas cells)
  unfolding restarting
  restarting-is cells each x = restarted-is cells (draw_from_one replicas x).0 each (one-of x)

  block_of-is : (left : ℕ) (cells : List (List ℕ)) (b : ℕ) → AreSets cells → Blocks (block_of replicas left cells b)
  block_of-is left cells b each =
      let asked : Drawing Block = asking replicas b >>= (λ event. done (line_alone cells event)) in
      let changed : Drawing Block = if b == 8 then regrouping cells else restarting replicas cells in
      let gathered : Drawing Block = done (line_alone cells Gather) in
      cond_both (nat_lt b 8) asked (if nat_lt left 4 then gathered else changed) Blocks
      (λ y x. alone-is cells (asking replicas b x).0 each (asking-is b x))
      (λ n. cond_both (nat_lt left 4) gathered changed Blocks
      (λ y x. alone-is cells Gather each tt)
      (λ m. cond_both (b == 8) (regrouping cells) (restarting replicas cells) Blocks (λ y. regrouping-is cells each) (λ k. restarting-is cells each)))

  block-is : (left : ℕ) (cells : List (List ℕ)) → AreSets cells → Blocks (block replicas left cells)
  unfolding block
  block-is left cells each x = block_of-is left cells (draw 10 x).0 each (draw 10 x).1

  -- ---- the schedule

  abbrev LineIs : Event × GeneratorState → Type 0
  LineIs line = IsEvent line.0 × (Each IsEvent line.1.waiting × AreSets line.1.cells)

  line-is : (left number : ℕ) (cells : List (List ℕ)) (waiting : List Event) → AreSets cells → Each IsEvent waiting → LineIs (line_with replicas left number cells waiting)
  line-is left number cells [] each are = let is = block-is left cells each number in (is.0.0, (is.0.1, is.1))
  line-is left number cells (event ∷ waiting) each are = (are.0, (are.1, each))

  left-are : (left : ℕ) (state : GeneratorState) → AreSets state.cells → Each IsEvent state.waiting → Each IsEvent (events_left replicas left state)
  unfolding events_left
  left-are zero state each are = tt
  left-are (suc zero) state each are = (tt, tt)
  left-are (suc (suc left)) state each are =
      let line = line-is (suc left) state.number state.cells state.waiting each are in
      let next : Event × GeneratorState = next_line replicas (suc left) state in
      (line.0, left-are (suc left) next.1 line.1.1 line.1.0)

  each-weighs : (set : List ℕ) → Weigh (each_once set)
  each-weighs [] = tt
  each-weighs (p ∷ set) = (omega arith, omega arith, each-weighs set)

  all-are : (seed lines : ℕ) → Each IsEvent (generated seed replicas lines)
  all-are seed lines =
      let all = count_up 1 replicas in
      let ascends : Ascends 1 all = Ascends-count_up replicas 1 (omega (arith, high)) in
      let is = as-set all ascends in
      let weights : IsWeightSet (each_once all) = record { ascends = subst (Ascends 1) (sym (ids-each_once all)) ascends; weigh = each-weighs all } in
      left-are lines (at_the_start seed all) (is, tt) (weights, (is, tt))

-- each event of a generated schedule is one that a line may be
pub generated-within : (seed replicas lines : ℕ) → IsId replicas → Each IsEvent (generated seed replicas lines)
generated-within seed replicas lines is = all-are replicas is.0 is.1 seed lines

-- the state behind events
abbrev pub state_past : ReaderState → List Event → ReaderState
state_past state events = fold state_after state events

left-end : (replicas left : ℕ) (state : GeneratorState) (reader : ReaderState) → 0 < left → (state_past reader (events_left replicas left state)).ended ≡ true
unfolding events_left
left-end replicas zero state reader some = absurd (omega (arith, some))
left-end replicas (suc zero) state reader some = refl
left-end replicas (suc (suc left)) state reader some =
    let next : Event × GeneratorState = next_line replicas (suc left) state in
    left-end replicas (suc left) next.1 (state_after reader next.0) (omega arith)

-- the last one is the end
pub generated-ends : (seed replicas lines : ℕ) → 0 < lines → (state_past first_state (generated seed replicas lines)).ended ≡ true
generated-ends seed replicas lines some = left-end replicas lines (at_the_start seed (count_up 1 replicas)) first_state some

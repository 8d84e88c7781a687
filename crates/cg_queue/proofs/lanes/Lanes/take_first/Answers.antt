use Rattle.std.proofs.Common.{◌≡◌, ◌∙◌, ◌<◌, ◌≤◌, ◌++◌, [], ◌∷◌, Option, Some, None, List, length, drop, slice_get, sym, ap, refl, arith}
use Rattle.std.specs.Prelude.{ℕ, MatchOption, ◌+◌}
use Rattle.std.specs.Option.{option_to_list}
use Rattle.std.specs.VecDeque.{deque_items}
use Rattle.cg_queue.proofs.RowLemmas.{lane_at-get, lane_at-behind, lanes-set, lanes-left}
use Rattle.cg_queue.proofs.lanes.Lanes.take_first.Goals as goal

nothing-first : {X : Type 0} (xs : List X) → length xs ≡ 0 → None ≡ slice_get xs 0
nothing-first [] none = refl
nothing-first (x ∷ xs) none = absurd (omega arith)

first-taken : {X : Type 0} (o : Option X) (xs rest : List X) (n m : ℕ) → n ≡ length xs → xs ≡ option_to_list o ++ rest → MatchOption o ((n ≡ 0) × (m ≡ 0)) (λ _. m + 1 ≡ n) → o ≡ slice_get xs 0
first-taken (Some x) xs rest n m long whole count = sym (ap (λ ys. slice_get ys 0) whole)
first-taken None xs rest n m long whole count = nothing-first xs (sym long ∙ count.0)

pub returns-then-slot-len-clause-first : goal.returns-then-slot-len-clause-first
returns-then-slot-len-clause-first g c =
    let rows = c.args.self.now.rows in
    let slot = c.args.slot in
    let long = rows.ok.0 in
    let within : slot < length rows.items = omega arith in
    let row = c.index_mut.result.now in
    first-taken c.pop_front.result row.items _ _ _ row.ok.0 c.pop_front.ensures.items c.pop_front.ensures.cases
    ∙ ap (λ q. slice_get q.items 0) c.index_mut.ensures.value ∙ ap (λ xs. slice_get xs 0) (sym (lane_at-get deque_items rows.items slot row within))

pub returns-then-slot-len-clause-rest : goal.returns-then-slot-len-clause-rest
returns-then-slot-len-clause-rest g c =
    let rows = c.args.self.now.rows in
    let slot = c.args.slot in
    let long = rows.ok.0 in
    let within : slot < length rows.items = omega arith in
    let row = c.index_mut.result.now in
    lanes-set deque_items rows.items slot c.pop_front.new.self _ within
    (c.pop_front.ensures.rest ∙ ap (λ q. drop 1 q.items) c.index_mut.ensures.value ∙ ap (drop 1) (sym (lane_at-get deque_items rows.items slot row within)))

pub returns-else-slot-len-clause-first : goal.returns-else-slot-len-clause-first
returns-else-slot-len-clause-first g c =
    let rows = c.args.self.now.rows in
    let long = rows.ok.0 in
    let behind : length rows.items ≤ c.args.slot = omega arith in
    ap (λ xs. slice_get xs 0) (sym (lane_at-behind deque_items rows.items c.args.slot behind))

pub returns-else-slot-len-clause-rest : goal.returns-else-slot-len-clause-rest
returns-else-slot-len-clause-rest g c =
    let rows = c.args.self.now.rows in
    let slot = c.args.slot in
    let long = rows.ok.0 in
    let behind : length rows.items ≤ slot = omega arith in
    let none = lane_at-behind deque_items rows.items slot behind in
    lanes-left deque_items rows.items slot _ (ap (drop 1) none ∙ sym none)

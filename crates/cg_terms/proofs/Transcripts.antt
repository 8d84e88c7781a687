-- For each guarantee, small transcripts that break it: a definition that let one of them pass would say too little.
use Rattle.std.specs.Prelude.{◌≡◌, ◌⊎◌, ℕ, ◌≤◌, Bool, true, false, List, [], ◌∷◌, ◌++◌, Option, Some, None, Contains, codes, pos}
use Rattle.std.proofs.Common.{refl, sym, ap, ◌∙◌, subst, inl, inr, arith, length, append-nil}
use Rattle.std.proofs.lemmas.Bool.{false≢true}
use Rattle.cg_base.specs.declared.action_id.ActionId.{ActionId}
use Rattle.cg_base.specs.declared.weighted.Weighted.{Weighted}
use Rattle.cg_action.specs.declared.action.Action.{Action}
use Rattle.cg_action.specs.declared.action.Kind.{Kind}
use Rattle.cg_action.specs.declared.action.Kind.TheVariants.{Update}
use Rattle.cg_action.specs.declared.command.Cmd.TheVariants.{Put}
use Rattle.cg_action.specs.declared.query.Query.TheVariants.{Get, Count}
use Rattle.cg_action.specs.declared.value.Value.{Value}
use Rattle.cg_action.specs.declared.value.Value.TheVariants.{Int}
use Rattle.cg_action.specs.declared.answer.Answer.{Answer}
use Rattle.cg_action.specs.declared.answer.Answer.TheVariants.{Absent, Int as Number, Count as Counted}
use Rattle.cg_action.specs.declared.effect.Effect.TheVariants.{Done}
use Rattle.cg_action.specs.declared.entry.DbEntry.{DbEntry}
use Rattle.cg_db.specs.Apply.{run_commands}
use Rattle.cg_db.specs.Plan.{with_changes}
use Rattle.cg_report.specs.NoEntry.{no_entry}
use Rattle.cg_report.specs.declared.entry.Entry.{Entry}
use Rattle.cg_report.specs.declared.entry.Placed.{Placed}
use Rattle.cg_report.specs.declared.entry.Reply.{Reply}
use Rattle.cg_report.specs.declared.entry.Shown.{Shown}
use Rattle.cg_report.specs.declared.entry.Shown.TheVariants.{Weak as ShownWeak}
use Rattle.cg_report.specs.declared.line.Line.{Line}
use Rattle.cg_report.specs.declared.line.ShownPhase.TheVariants as shown
use Rattle.cg_report.specs.declared.line.StateName.{StateName}
use Rattle.cg_report.specs.declared.line.StateName.TheVariants as state
use Rattle.cg_report.specs.declared.line.UpLine.{UpLine}
use Rattle.cg_schedule.specs.declared.event.Event.{Event}
use Rattle.cg_schedule.specs.declared.event.Event.TheVariants.{Gather, Recover, Weak}
use Rattle.cg_client.specs.Replica.{Held, Replica, NonPrim, fresh_held}
use Rattle.cg_disk_records.specs.Crash.{new_disk}
use Rattle.cg_model.specs.World.{Up, no_world}
use Rattle.cg_model.specs.Run.{Step}
use Rattle.cg_queue.specs.Queue.{names_of}
use Rattle.cg_terms.specs.Linearizable.{AllDiffer, responses, Linearizes, Linearizable, history_of, StronglyLinearizable}
use Rattle.cg_terms.specs.Guarantees.{IsPrimary, Durable, ExactlyOnce, PrefixReads, NoSplitBrain}
use Rattle.cg_base.specs.ElementLaws.{contains-none, contains-here, contains-later, contains-cases}

-- ---- steps that show little

abbrev pub name : ℕ → ℕ → ActionId
name creator index = record { creator = creator; index = index }

abbrev pub showing : Event → Entry → Step
showing event entry = record { event = event; entry = entry; world = no_world }

-- a line of a replica in a state, with so many greens, its last primary component with this number
abbrev pub up_with : ℕ → StateName → ℕ → ℕ → UpLine
up_with p state greens index =
    record {
      state = state;
      phase = shown.Regular 1;
      view = record {
        green_count = greens;
        white_count = 0;
        prim = record { index = index; conf = p; set = record { id = p; weight = 1 } ∷ [] };
        attempt_index = 0;
        vulnerable = None;
        yellow = record { valid = false; list = [] };
        reds = [];
        own = [];
        left = [];
        buffered = 0;
      };
    }

abbrev line_with : ℕ → StateName → ℕ → ℕ → Line
line_with p state greens index = record { id = p; up = Some (up_with p state greens index) }

abbrev in_primary : ℕ → ℕ → Line
in_primary p greens = line_with p state.RegPrim greens 1

abbrev pub at : ℕ → ActionId → Placed
at place id = record { place = place; id = id }

-- an action that puts 1, and asks for it
abbrev pub puts_one : Kind
puts_one = Update (Put (codes "x") (Int (pos 1)) ∷ []) (Some (Get (codes "x")))

abbrev pub servers : List Weighted
servers = record { id = 1; weight = 1 } ∷ record { id = 2; weight = 1 } ∷ []

abbrev pub x_is : ℕ → List DbEntry
x_is n = record { key = codes "x"; value = Int (pos n) } ∷ []

-- the number that stands at the first key
abbrev amount : Value → ℕ
amount (Int (pos n)) = n
amount other = 0

abbrev first_amount : List DbEntry → ℕ
first_amount [] = 0
first_amount (e ∷ es) = amount e.value

-- what a replica holds with this database and one green, which it has discarded
abbrev pub one_applied : ℕ → List DbEntry → Held
one_applied p db = let h = fresh_held p servers in record h { db = db; queue = record h.queue { white = 1 } }

abbrev pub replica_with : ℕ → List DbEntry → Replica
replica_with p db = record { held = one_applied p db; state = NonPrim false }

-- the action is made, ordered and replied to
abbrev pub one_done : Entry
one_done =
    record no_entry {
      made = record { id = name 1 1; kind = puts_one } ∷ [];
      orders = at 1 (name 1 1) ∷ [];
      lines = in_primary 1 1 ∷ [];
      replies = record { id = name 1 1; effect = Done; answer = Some (Number (pos 1)) } ∷ [];
    }

abbrev pub done : Step
done = showing Gather one_done

-- behind it replicas 1 and 2 hold these databases
abbrev done_with : List DbEntry → List DbEntry → Step
done_with db other =
    record done {
      world = record no_world {
        nodes = record { id = 1; life = Up (replica_with 1 db) (new_disk (one_applied 1 db)) } ∷ record { id = 2; life = Up (replica_with 2 other) (new_disk (one_applied 2 other)) } ∷ [];
      };
    }

-- ---- linearizable

-- a reply to what nobody asked for
abbrev from_nowhere : Step
from_nowhere = showing Gather (record no_entry { replies = record { id = name 1 1; effect = Done; answer = None } ∷ [] })

reply_out_of_nothing : Linearizable (from_nowhere ∷ []) → ⊥
reply_out_of_nothing (history, g) =
    none history g.invoked (g.legal from_nowhere (record { id = name 1 1; effect = Done; answer = None }) (0, omega arith, refl) (0, omega arith, refl)) where
      none : (history : List Action) → ((a : Action) → Contains history a → Contains [] a) → Contains (responses [] history) (record { id = name 1 1; effect = Done; answer = None }) → ⊥
      none [] invoked told = contains-none (record { id = name 1 1; effect = Done; answer = None }) told
      none (a ∷ history) invoked told = contains-none a (invoked a (contains-here a history))

-- a reply that was read before its own action
abbrev absent : Reply
absent = record { id = name 1 1; effect = Done; answer = Some Absent }

abbrev read_too_early : Step
read_too_early = showing Gather (record one_done { replies = absent ∷ [] })

abbrev pub the_action : Action
the_action = record { id = name 1 1; green_line = 1; kind = puts_one }

abbrev is_absent : Option Answer → Bool
is_absent (Some Absent) = true
is_absent other = false

only_one : (a : Action) → Contains (the_action ∷ []) a → the_action ≡ a
only_one a there = elim (contains-cases the_action [] a there) [ inl is ↦ is | inr none ↦ absurd (contains-none a none) ]

reply_from_before_its_action : Linearizable (read_too_early ∷ []) → ⊥
unfolding run_commands with_changes
reply_from_before_its_action (history, g) = elim_history history g.invoked g.distinct (g.legal read_too_early absent (0, omega arith, refl) (0, omega arith, refl)) where
  elim_history : (history : List Action) → ((a : Action) → Contains history a → Contains (the_action ∷ []) a)
      → AllDiffer (names_of history) → Contains (responses [] history) absent → ⊥
  elim_history [] invoked distinct told = contains-none absent told
  elim_history (a ∷ []) invoked distinct told =
      let is : the_action ≡ a = only_one a (invoked a (contains-here a [])) in
      let here : Contains (responses [] (the_action ∷ [])) absent = subst (λ (x : Action). Contains (responses [] (x ∷ [])) absent) (sym is) told in
      elim (contains-cases (record { id = name 1 1; effect = Done; answer = Some (Number (pos 1)) }) [] absent here) [
        | inl same ↦ false≢true (ap (λ (r : Reply). is_absent r.answer) same)
        | inr none ↦ contains-none absent none
      ]
  elim_history (a ∷ b ∷ rest) invoked distinct told =
      let first : the_action ≡ a = only_one a (invoked a (contains-here a (b ∷ rest))) in
      let second : the_action ≡ b = only_one b (invoked b (contains-later a (b ∷ rest) b (contains-here b rest))) in
      let same : b.id ≡ a.id = ap (λ (x : Action). x.id) (sym second ∙ first) in
      distinct.0 (subst (Contains (b.id ∷ names_of rest)) same (contains-here b.id (names_of rest)))

-- a read that began when a write was over, and didn't see it
abbrev pub asks_one : Kind
asks_one = Update [] (Some (Get (codes "x")))

abbrev stale : Reply
stale = record { id = name 2 1; effect = Done; answer = Some Absent }

abbrev reads_stale : Step
reads_stale = showing Gather (record no_entry { made = record { id = name 2 1; kind = asks_one } ∷ []; replies = stale ∷ [] })

abbrev the_read : Action
the_read = record { id = name 2 1; green_line = 0; kind = asks_one }

-- the reply that finds 1
abbrev pub finds_one : ActionId → Reply
finds_one id = record { id = id; effect = Done; answer = Some (Number (pos 1)) }

stale_behind_the_write : Linearizes (done ∷ reads_stale ∷ []) (the_action ∷ the_read ∷ []) → ⊥
unfolding run_commands with_changes
stale_behind_the_write g =
    let told : Contains (finds_one (name 1 1) ∷ finds_one (name 2 1) ∷ []) stale = g.legal reads_stale stale (1, omega arith, refl) (0, omega arith, refl) in
    elim (contains-cases (finds_one (name 1 1)) (finds_one (name 2 1) ∷ []) stale told) [
      | inl same ↦ (let clash : 1 ≡ 2 = ap (λ (r : Reply). r.id.creator) same in omega (arith, clash))
      | inr later ↦ elim (contains-cases (finds_one (name 2 1)) [] stale later) [
        | inl same ↦ false≢true (ap (λ (r : Reply). is_absent r.answer) same)
        | inr none ↦ contains-none stale none
      ]
    ]

-- the creator of the first name
abbrev first_creator : List ActionId → ℕ
first_creator [] = 0
first_creator (id ∷ ids) = id.creator

turned : (before between after : List ActionId) → name 2 1 ∷ name 1 1 ∷ [] ≡ before ++ name 1 1 ∷ (between ++ name 2 1 ∷ after) → ⊥
turned [] between after is = omega (arith, ap first_creator is)
turned (x ∷ []) [] after is = omega (arith, ap length is)
turned (x ∷ []) (y ∷ between) after is = omega (arith, ap length is)
turned (x ∷ y ∷ []) between after is = omega (arith, ap length is)
turned (x ∷ y ∷ z ∷ before) between after is = omega (arith, ap length is)

not_yet : Contains (name 1 1 ∷ []) (name 2 1) → ⊥
not_yet there = elim (contains-cases (name 1 1) [] (name 2 1) there) [
  | inl same ↦ (let clash : 1 ≡ 2 = ap (λ (id : ActionId). id.creator) same in omega (arith, clash))
  | inr none ↦ contains-none (name 2 1) none
]

stale_before_the_write : Linearizes (done ∷ reads_stale ∷ []) (the_read ∷ the_action ∷ []) → ⊥
stale_before_the_write g =
    let stands = g.real_time (name 1 1) (name 2 1) ([], done, (reads_stale ∷ [], refl), (0, omega arith, refl), not_yet) (0, omega arith, refl) in
    turned stands.0 stands.1 stands.2 stands.3

-- a history of one or both of them, in which none stands twice: one reply isn't its object's, or what was over first doesn't come first
write_alone : Linearizes (done ∷ reads_stale ∷ []) (the_action ∷ []) → ⊥
unfolding run_commands with_changes
write_alone g = elim (contains-cases (finds_one (name 1 1)) [] stale (g.legal reads_stale stale (1, omega arith, refl) (0, omega arith, refl))) [
  | inl same ↦ (let clash : 1 ≡ 2 = ap (λ (r : Reply). r.id.creator) same in omega (arith, clash))
  | inr none ↦ contains-none stale none
]

read_alone : Linearizes (done ∷ reads_stale ∷ []) (the_read ∷ []) → ⊥
unfolding run_commands with_changes
read_alone g = elim (contains-cases stale [] (finds_one (name 1 1)) (g.legal done (finds_one (name 1 1)) (0, omega arith, refl) (0, omega arith, refl))) [
  | inl same ↦ (let clash : 2 ≡ 1 = ap (λ (r : Reply). r.id.creator) same in omega (arith, clash))
  | inr none ↦ contains-none (finds_one (name 1 1)) none
]

abbrev IsOfTwo : Action → Type 0
IsOfTwo a = (the_action ≡ a) ⊎ (the_read ≡ a)

of_two : (a : Action) → Contains (the_action ∷ the_read ∷ []) a → IsOfTwo a
of_two a there = elim (contains-cases the_action (the_read ∷ []) a there) [
  | inl first ↦ inl first
  | inr later ↦ elim (contains-cases the_read [] a later) [ inl second ↦ inr second | inr none ↦ absurd (contains-none a none) ]
]

again : (a b : Action) (rest : List Action) → a ≡ b → Contains (names_of (b ∷ rest)) a.id
again a b rest same = subst (λ (x : Action). Contains (names_of (b ∷ rest)) x.id) (sym same) (contains-here b.id (names_of rest))

two_of_three : (a b c : Action) (rest : List Action) → IsOfTwo a → IsOfTwo b → IsOfTwo c → AllDiffer (names_of (a ∷ b ∷ c ∷ rest)) → ⊥
two_of_three a b c rest (inl x) (inl y) third differ = differ.0 (again a b (c ∷ rest) (sym x ∙ y))
two_of_three a b c rest (inr x) (inr y) third differ = differ.0 (again a b (c ∷ rest) (sym x ∙ y))
two_of_three a b c rest (inl x) (inr y) (inl z) differ = differ.0 (contains-later b.id (names_of (c ∷ rest)) a.id (again a c rest (sym x ∙ z)))
two_of_three a b c rest (inl x) (inr y) (inr z) differ = differ.1.0 (again b c rest (sym y ∙ z))
two_of_three a b c rest (inr x) (inl y) (inl z) differ = differ.1.0 (again b c rest (sym y ∙ z))
two_of_three a b c rest (inr x) (inl y) (inr z) differ = differ.0 (contains-later b.id (names_of (c ∷ rest)) a.id (again a c rest (sym x ∙ z)))

of_one : (a : Action) → IsOfTwo a → Linearizes (done ∷ reads_stale ∷ []) (a ∷ []) → ⊥
of_one a (inl x) g = write_alone (subst (λ (first : Action). Linearizes (done ∷ reads_stale ∷ []) (first ∷ [])) (sym x) g)
of_one a (inr x) g = read_alone (subst (λ (first : Action). Linearizes (done ∷ reads_stale ∷ []) (first ∷ [])) (sym x) g)

of_both : (a b : Action) → IsOfTwo a → IsOfTwo b → Linearizes (done ∷ reads_stale ∷ []) (a ∷ b ∷ []) → ⊥
of_both a b (inl x) (inl y) g = g.distinct.0 (again a b [] (sym x ∙ y))
of_both a b (inr x) (inr y) g = g.distinct.0 (again a b [] (sym x ∙ y))
of_both a b (inl x) (inr y) g =
    stale_behind_the_write (subst (λ (last : Action). Linearizes (done ∷ reads_stale ∷ []) (the_action ∷ last ∷ [])) (sym y)
    (subst (λ (first : Action). Linearizes (done ∷ reads_stale ∷ []) (first ∷ b ∷ [])) (sym x) g))
of_both a b (inr x) (inl y) g =
    stale_before_the_write (subst (λ (last : Action). Linearizes (done ∷ reads_stale ∷ []) (the_read ∷ last ∷ [])) (sym y)
    (subst (λ (first : Action). Linearizes (done ∷ reads_stale ∷ []) (first ∷ b ∷ [])) (sym x) g))

misses_the_write : (history : List Action) → Linearizes (done ∷ reads_stale ∷ []) history → ⊥
misses_the_write [] g = contains-none stale (g.legal reads_stale stale (1, omega arith, refl) (0, omega arith, refl))
misses_the_write (a ∷ []) g = of_one a (of_two a (g.invoked a (contains-here a []))) g
misses_the_write (a ∷ b ∷ []) g =
    of_both a b (of_two a (g.invoked a (contains-here a (b ∷ [])))) (of_two b (g.invoked b (contains-later a (b ∷ []) b (contains-here b [])))) g
misses_the_write (a ∷ b ∷ c ∷ rest) g =
    two_of_three a b c rest (of_two a (g.invoked a (contains-here a (b ∷ c ∷ rest))))
    (of_two b (g.invoked b (contains-later a (b ∷ c ∷ rest) b (contains-here b (c ∷ rest)))))
    (of_two c (g.invoked c (contains-later a (b ∷ c ∷ rest) c (contains-later b (c ∷ rest) c (contains-here c rest))))) g.distinct

read_misses_the_write : Linearizable (done ∷ reads_stale ∷ []) → ⊥
read_misses_the_write (history, g) = misses_the_write history g

-- ---- strongly linearizable

-- what isn't linearizable isn't strongly so
pub strong-is_linearizable : (steps : List Step) → StronglyLinearizable steps → Linearizable steps
strong-is_linearizable steps g = (history_of steps, (g steps [] [] (sym (append-nil steps))).0)

-- a reply to what has no place in the order yet
abbrev without_place : Step
without_place = showing Gather (record one_done { orders = [] })

replied_before_its_place : StronglyLinearizable (without_place ∷ []) → ⊥
replied_before_its_place g =
    contains-none (finds_one (name 1 1)) ((g (without_place ∷ []) [] [] refl).0.legal without_place (finds_one (name 1 1)) (0, omega arith, refl) (0, omega arith, refl))

-- the order has the read before the write that it found: some history stands for these replies, and the order isn't it
abbrev turned_order : Step
turned_order =
    showing Gather (record one_done {
      made = record { id = name 1 1; kind = puts_one } ∷ record { id = name 2 1; kind = asks_one } ∷ [];
      orders = at 1 (name 2 1) ∷ at 2 (name 1 1) ∷ [];
      lines = in_primary 1 1 ∷ [];
      replies = finds_one (name 1 1) ∷ finds_one (name 2 1) ∷ [];
    })

order_against_the_replies : StronglyLinearizable (turned_order ∷ []) → ⊥
unfolding run_commands with_changes
order_against_the_replies g =
    let told : Contains (stale ∷ finds_one (name 1 1) ∷ []) (finds_one (name 2 1)) =
    (g (turned_order ∷ []) [] [] refl).0.legal turned_order (finds_one (name 2 1)) (0, omega arith, refl) (1, omega arith, refl) in
    elim (contains-cases stale (finds_one (name 1 1) ∷ []) (finds_one (name 2 1)) told) [
      | inl same ↦ false≢true (sym (ap (λ (r : Reply). is_absent r.answer) same))
      | inr later ↦ elim (contains-cases (finds_one (name 1 1)) [] (finds_one (name 2 1)) later) [
        | inl same ↦ (let clash : 1 ≡ 2 = ap (λ (r : Reply). r.id.creator) same in omega (arith, clash))
        | inr none ↦ contains-none (finds_one (name 2 1)) none
      ]
    ]

-- ---- durable

-- a reply of one who hasn't applied the action
abbrev not_applied : Step
not_applied = showing Gather (record one_done { lines = in_primary 2 1 ∷ [] })

acknowledged_too_early : Durable (not_applied ∷ []) → ⊥
acknowledged_too_early g = let there = g.acknowledged [] not_applied (name 1 1) ([], refl) (0, omega arith, refl) in omega (arith, there.1)

-- it recovers, and shows no green any more
abbrev none_again : Step
none_again = showing (Recover 1) (record no_entry { lines = line_with 1 state.NonPrim 0 1 ∷ [] })

lost_in_a_crash : Durable (done ∷ none_again ∷ []) → ⊥
lost_in_a_crash g = let there = g.kept (done ∷ []) (none_again ∷ []) [] 1 (name 1 1) refl (0, omega arith, refl) in omega (arith, there.1)

-- its line shows the action, and its database has nothing
lost_in_the_database : Durable (done_with [] [] ∷ []) → ⊥
unfolding run_commands with_changes
lost_in_the_database g =
    let has = g.applied [] (done_with [] []) 1 (replica_with 1 []) (name 1 1) ([], refl) refl (0, omega arith, refl) in
    let same : [] ≡ x_is 1 = has.1.1 in
    omega (arith, ap length same)

-- ---- exactly once

abbrev ordered_again : Step
ordered_again = showing Gather (record no_entry { orders = at 2 (name 1 1) ∷ []; lines = in_primary 1 2 ∷ [] })

ordered_twice : ExactlyOnce (done ∷ ordered_again ∷ []) → ⊥
ordered_twice g = g.ordered.0 (0, omega arith, refl)

abbrev replied_again : Step
replied_again = showing Gather (record no_entry { replies = record { id = name 1 1; effect = Done; answer = Some (Number (pos 1)) } ∷ [] })

replied_twice : ExactlyOnce (done ∷ replied_again ∷ []) → ⊥
replied_twice g = g.replied.0 (0, omega arith, refl)

counted_twice : ExactlyOnce (done_with (x_is 2) (x_is 1) ∷ []) → ⊥
unfolding run_commands with_changes
counted_twice g =
    let state = g.applied (done_with (x_is 2) (x_is 1)) 1 (replica_with 1 (x_is 2)) (0, omega arith, refl) refl in
    let same : x_is 2 ≡ x_is 1 = state.1 in
    omega (arith, ap first_amount same)

-- ---- reads of prefixes

-- what was counted, where that was shown
abbrev counted : List Shown → ℕ
counted (ShownWeak p (Counted n) ∷ list) = n
counted _ = 0

abbrev counts_two : Step
counts_two = showing (Weak 1 Count) (record no_entry { shown = ShownWeak 1 (Counted 2) ∷ [] })

read_of_no_prefix : PrefixReads (done ∷ counts_two ∷ []) → ⊥
unfolding run_commands with_changes
read_of_no_prefix g =
    let read = g.prefix (done ∷ []) counts_two 1 Count ([], refl) refl in
    let same : ShownWeak 1 (Counted 2) ∷ [] ≡ ShownWeak 1 (Counted 1) ∷ [] = read.1 in
    omega (arith, ap counted same)

reads_go_back : PrefixReads (done ∷ none_again ∷ []) → ⊥
reads_go_back g = let back : 1 ≤ 0 = g.monotonic (done ∷ []) (none_again ∷ []) [] 1 refl in omega (arith, back)

own_write_is_not_read : PrefixReads (not_applied ∷ []) → ⊥
own_write_is_not_read g = let there = g.own_writes [] [] [] not_applied (name 1 1) refl (0, omega arith, refl) in omega (arith, there.1)

-- ---- no split brain

-- two components with one number
abbrev two_of_one_number : Step
two_of_one_number = showing Gather (record no_entry { lines = in_primary 1 0 ∷ in_primary 2 0 ∷ [] })

two_components : NoSplitBrain (two_of_one_number ∷ []) → ⊥
two_components g =
    let same = g.one (up_with 1 state.RegPrim 0 1) (up_with 2 state.RegPrim 0 1) (0, omega arith, refl) (1, omega arith, refl) refl in
    let clash : 1 ≡ 2 = same.0 in
    omega (arith, clash)

-- a replica outside makes an action green
abbrev ordered_outside : Step
ordered_outside = showing Gather (record no_entry { orders = at 1 (name 1 1) ∷ []; lines = line_with 1 state.NonPrim 1 1 ∷ [] })

is_outside : IsPrimary state.NonPrim → ⊥
is_outside (inl e) = cc
is_outside (inr e) = cc

minority_orders : NoSplitBrain (ordered_outside ∷ []) → ⊥
minority_orders g =
    let most : 1 ≤ 0 = g.outside [] ordered_outside (line_with 1 state.NonPrim 1 1) (up_with 1 state.NonPrim 1 1) ([], refl) (0, omega arith, refl) refl is_outside (λ e. false≢true e) in
    omega (arith, most)

-- two replicas with as many actions, and databases that part
databases_part : NoSplitBrain (done_with (x_is 1) (x_is 2) ∷ []) → ⊥
databases_part g =
    let s = done_with (x_is 1) (x_is 2) in
    let one = g.together s 1 (replica_with 1 (x_is 1)) (0, omega arith, refl) refl in
    let two = g.together s 2 (replica_with 2 (x_is 2)) (0, omega arith, refl) refl in
    let same : x_is 1 ≡ x_is 2 = one.1 ∙ sym two.1 in
    omega (arith, ap first_amount same)

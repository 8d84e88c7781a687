-- A transcript of a write, a partition, a crash and a recovery, and a read that finds the write: each guarantee holds of it, so none asks too
-- much.
use Rattle.std.specs.Prelude.{◌≡◌, ℕ, ◌==◌, ◌≤◌, false, take, cond, List, [], ◌∷◌, ◌++◌, Option, Some, None, Contains, IsTrue, codes, option_and_then, find, length}
use Rattle.std.specs.Option.{option_or}
use Rattle.std.proofs.Common.{refl, sym, ap, ◌∙◌, subst, inl, inr, arith, append_assoc, append-nil}
use Rattle.std.proofs.lemmas.Bool.{cases_Bool, cond-true, cond-false, cond_both, eqb-true}
use Rattle.cg_base.specs.declared.action_id.ActionId.{ActionId}
use Rattle.cg_action.specs.declared.action.Action.{Action}
use Rattle.cg_action.specs.declared.query.Query.{Query}
use Rattle.cg_action.specs.declared.query.Query.TheVariants.{Get}
use Rattle.cg_action.specs.declared.answer.Answer.TheVariants.{Absent}
use Rattle.cg_db.specs.Apply.{fold_actions, run_commands}
use Rattle.cg_db.specs.Find.{answer}
use Rattle.cg_db.specs.Plan.{with_changes}
use Rattle.cg_report.specs.NoEntry.{no_entry}
use Rattle.cg_report.specs.declared.entry.Reply.{Reply}
use Rattle.cg_report.specs.declared.entry.Shown.TheVariants.{Weak as ShownWeak}
use Rattle.cg_report.specs.declared.line.Line.{Line}
use Rattle.cg_report.specs.declared.line.StateName.{StateName}
use Rattle.cg_report.specs.declared.line.StateName.TheVariants as state
use Rattle.cg_report.specs.declared.line.UpLine.{UpLine}
use Rattle.cg_schedule.specs.declared.event.Event.TheVariants.{Gather, Recover, Weak, Split, Stop}
use Rattle.cg_client.specs.Replica.{Held, Replica, NonPrim, fresh_held}
use Rattle.cg_disk_records.specs.Crash.{new_disk}
use Rattle.cg_queue.specs.Queue.{green_count}
use Rattle.cg_model.specs.World.{NodeState, Up, Down, Node, World, no_world, running, replica_of}
use Rattle.cg_model.specs.Run.{Step}
use Rattle.cg_model.specs.Shown.{made_names, order_of, ordered_actions, last_up, all_up_lines, position_of}
use Rattle.cg_model.specs.Agreement.{ComesAfter, through, is_recovery_of}
use Rattle.cg_terms.specs.Linearizable.{AllDiffer, replied_in, StronglyLinearizable}
use Rattle.cg_terms.specs.Guarantees.{shown_by, IsPrefixState, Durable, ExactlyOnce, PrefixReads, IsPrimary, NoSplitBrain}
use Rattle.cg_terms.specs.Terms.{Guarantees}
use Rattle.cg_terms.proofs.Places.{split-at}
use Rattle.cg_terms.proofs.Linear.{IsReplyIn, Grounds, strongly-linearizable}
use Rattle.cg_terms.proofs.Kept.{position-grows, shown-grows, own-writes}
use Rattle.cg_terms.proofs.Transcripts.{name, showing, up_with, at, servers, x_is, replica_with, one_applied, one_done, done, the_action, asks_one, finds_one, strong-is_linearizable}
use Rattle.cg_base.specs.ElementLaws.{contains-none, contains-cases, contains-at}
use Rattle.cg_model.specs.ShowLaws.{count_of}

-- ---- the transcript

abbrev line_in : StateName → ℕ → ℕ → Line
line_in state p greens = record { id = p; up = Some (up_with 1 state greens 1) }

-- a replica that has applied both actions
abbrev both_applied : Held
both_applied = let h = fresh_held 2 servers in record h { db = x_is 1; queue = record h.queue { white = 2 } }

abbrev up_as : ℕ → Held → Node
up_as p h = record { id = p; life = Up (record { held = h; state = NonPrim false }) (new_disk h) }

abbrev down_as : ℕ → Held → Node
down_as p h = record { id = p; life = Down (new_disk h) [] }

abbrev with_nodes : List Node → World
with_nodes nodes = record no_world { nodes = nodes }

abbrev before_the_crash : World
before_the_crash = with_nodes (up_as 1 (one_applied 1 (x_is 1)) ∷ up_as 2 (fresh_held 2 servers) ∷ up_as 3 (fresh_held 3 servers) ∷ [])

-- 1 writes, 3 parts and reads its older prefix, 1 crashes and recovers, and 2 goes on and reads
abbrev writes : Step
writes = record done { entry = record one_done { lines = line_in state.RegPrim 1 1 ∷ [] }; world = before_the_crash }

abbrev parts : Step
parts = record (showing (Split (3 ∷ [])) (record no_entry { lines = line_in state.NonPrim 3 0 ∷ [] })) { world = before_the_crash }

abbrev reads_old : Step
reads_old = record (showing (Weak 3 (Get (codes "x"))) (record no_entry { shown = ShownWeak 3 Absent ∷ [] })) { world = before_the_crash }

abbrev crashes : Step
crashes =
    record (showing (Stop 1 0 []) (record no_entry { lines = record { id = 1; up = None } ∷ [] })) {
      world = with_nodes (down_as 1 (one_applied 1 (x_is 1)) ∷ up_as 2 (fresh_held 2 servers) ∷ up_as 3 (fresh_held 3 servers) ∷ []);
    }

abbrev recovers : Step
recovers = record (showing (Recover 1) (record no_entry { lines = line_in state.NonPrim 1 1 ∷ [] })) { world = before_the_crash }

abbrev reads : Step
reads =
    record (showing Gather (record no_entry {
      made = record { id = name 2 1; kind = asks_one } ∷ [];
      orders = at 2 (name 2 1) ∷ [];
      lines = line_in state.RegPrim 2 2 ∷ [];
      replies = finds_one (name 2 1) ∷ [];
    })) {
      world = with_nodes (up_as 1 (one_applied 1 (x_is 1)) ∷ up_as 2 both_applied ∷ up_as 3 (fresh_held 3 servers) ∷ []);
    }

abbrev right : List Step
right = writes ∷ parts ∷ reads_old ∷ crashes ∷ recovers ∷ reads ∷ []

abbrev before_parting : List Step
before_parting = writes ∷ []

abbrev before_reading_old : List Step
before_reading_old = writes ∷ parts ∷ []

abbrev before_crashing : List Step
before_crashing = writes ∷ parts ∷ reads_old ∷ []

abbrev before_recovering : List Step
before_recovering = writes ∷ parts ∷ reads_old ∷ crashes ∷ []

abbrev before_reading : List Step
before_reading = writes ∷ parts ∷ reads_old ∷ crashes ∷ recovers ∷ []

-- ---- what holds of each step, of each node and of each element

abbrev EachStep : (List Step → Step → Type 0) → List Step → List Step → Type 0
EachStep P before [] = Unit {0}
EachStep P before (s ∷ steps) = P before s × EachStep P (before ++ s ∷ []) steps

each-from : (P : List Step → Step → Type 0) (before steps earlier : List Step) (s : Step) (later : List Step) → EachStep P before steps → steps ≡ earlier ++ s ∷ later → P (before ++ earlier) s
each-from P before [] earlier s later each is = absurd (contains-none s (subst (λ (xs : List Step). Contains xs s) (sym is) (contains-at earlier s later)))
each-from P before (x ∷ steps) [] s later each is =
    let same : x ≡ s = cc in
    subst (λ (y : Step). P (before ++ []) y) same (subst (λ (b : List Step). P b x) (sym (append-nil before)) each.0)
each-from P before (x ∷ steps) (y ∷ earlier) s later each is =
    let same : x ≡ y = cc in
    let rest : steps ≡ earlier ++ s ∷ later = cc in
    subst (λ (b : List Step). P b s) (append_assoc before (x ∷ []) earlier ∙ ap (λ (z : Step). before ++ z ∷ earlier) same)
    (each-from P (before ++ x ∷ []) steps earlier s later each.1 rest)

each-step : (P : List Step → Step → Type 0) →
    P [] writes → P before_parting parts → P before_reading_old reads_old → P before_crashing crashes → P before_recovering recovers → P before_reading reads →
    (earlier : List Step) (s : Step) → ComesAfter right earlier s → P earlier s
each-step P first second third fourth fifth sixth earlier s there =
    each-from P [] right earlier s there.0 (first, (second, (third, (fourth, (fifth, (sixth, tt)))))) there.1

abbrev HoldsUp : (ℕ → Replica → Type 0) → ℕ → NodeState → Type 0
HoldsUp Q p (Up r disk) = Q p r
HoldsUp Q p (Down disk green) = Unit {0}

abbrev EachUp : (ℕ → Replica → Type 0) → List Node → Type 0
EachUp Q [] = Unit {0}
EachUp Q (s ∷ nodes) = HoldsUp Q s.id s.life × EachUp Q nodes

of-life : (Q : ℕ → Replica → Type 0) (p : ℕ) (life : NodeState) (r : Replica) → HoldsUp Q p life → running life ≡ Some r → Q p r
of-life Q p (Up x disk) r holds is = (let same : x ≡ r = cc in subst (Q p) same holds)
of-life Q p (Down disk green) r holds is = absurd (let clash : None ≡ Some r = is in cc)

each-up : (Q : ℕ → Replica → Type 0) (nodes : List Node) (p : ℕ) (r : Replica) → EachUp Q nodes →
    option_and_then (λ s. running s.life) (find (λ s. s.id == p) nodes) ≡ Some r → Q p r
each-up Q [] p r each is = absurd (let clash : None ≡ Some r = is in cc)
each-up Q (s ∷ nodes) p r each is = elim (cases_Bool (s.id == p)) [
  | inl here ↦
      let life : running s.life ≡ Some r = ap (option_and_then (λ (x : Node). running x.life)) (sym (cond-true (s.id == p) (Some s) (find (λ s. s.id == p) nodes) here)) ∙ is in
      subst (λ (n : ℕ). Q n r) (eqb-true s.id p here) (of-life Q s.id s.life r each.0 life)
  | inr other ↦
      each-up Q nodes p r each.1 (ap (option_and_then (λ (x : Node). running x.life)) (sym (cond-false (s.id == p) (Some s) (find (λ s. s.id == p) nodes) other)) ∙ is)
]

module _ {X : Type 0} (P : X → Type 0) where
  abbrev EachIn : List X → Type 0
  EachIn [] = Unit {0}
  EachIn (x ∷ xs) = P x × EachIn xs

  each-in : (xs : List X) (x : X) → EachIn xs → Contains xs x → P x
  each-in [] x each there = absurd (contains-none x there)
  each-in (y ∷ xs) x each there = elim (contains-cases y xs x there) [ inl here ↦ subst P here each.0 | inr later ↦ each-in xs x each.1 later ]

-- ---- linearizable, strongly

differ : AllDiffer (name 1 1 ∷ name 2 1 ∷ [])
differ = (
  (λ there. elim (contains-cases (name 2 1) [] (name 1 1) there) [
    | inl same ↦ (let clash : 2 ≡ 1 = ap (λ (id : ActionId). id.creator) same in omega (arith, clash))
    | inr none ↦ contains-none (name 1 1) none
  ]),
  ((λ none. contains-none (name 2 1) none), tt),
)

abbrev the_read : Action
the_read = record { id = name 2 1; green_line = 2; kind = asks_one }

replies : (earlier : List Step) (s : Step) (r : Reply) → ComesAfter right earlier s → Contains s.entry.replies r → IsReplyIn (through earlier s) r
unfolding run_commands with_changes
replies earlier s r there told =
    each-step (λ earlier s. (r : Reply) → Contains s.entry.replies r → IsReplyIn (through earlier s) r)
    (λ r told. each-in (IsReplyIn (writes ∷ [])) (finds_one (name 1 1) ∷ []) r (([], [], the_action, refl, refl, (refl, refl)), tt) told)
    (λ r told. absurd (contains-none r told))
    (λ r told. absurd (contains-none r told))
    (λ r told. absurd (contains-none r told))
    (λ r told. absurd (contains-none r told))
    (λ r told. each-in (IsReplyIn right) (finds_one (name 2 1) ∷ []) r ((name 1 1 ∷ [], [], the_read, refl, refl, (refl, refl)), tt) told)
    earlier s there r told

grounds : Grounds right
grounds =
    record {
      differ = differ;
      made = λ earlier s id there order.
          each-step (λ earlier s. (id : ActionId) → Contains (order_of (through earlier s)) id → Contains (made_names (through earlier s)) id)
          (λ id there. there) (λ id there. there) (λ id there. there) (λ id there. there) (λ id there. there) (λ id there. there) earlier s there id order;
      reply = replies;
    }

strong : StronglyLinearizable right
strong = strongly-linearizable right grounds

-- ---- positions, and what each replica holds

-- a line doesn't take back what its replica has shown, where its own count doesn't
no_less : (p id : ℕ) (u o : Option UpLine) → (id ≡ p → count_of o ≤ count_of (option_or u o)) → count_of o ≤ count_of (cond (id == p) (option_or u o) o)
no_less p id u o own = cond_both (id == p) (option_or u o) o (λ x. count_of o ≤ count_of x) (λ e. own (eqb-true id p e)) (λ e. omega arith)

never_falls : (earlier : List Step) (s : Step) (p : ℕ) → ComesAfter right earlier s → position_of p earlier ≤ position_of p (through earlier s)
never_falls earlier s p there =
    each-step (λ earlier s. (p : ℕ) → position_of p earlier ≤ position_of p (through earlier s))
    (λ p. omega arith)
    (λ p. no_less p 3 (Some (up_with 1 state.NonPrim 0 1)) (last_up p before_parting)
    (λ is. subst (λ (n : ℕ). count_of (last_up n before_parting) ≤ 0) is (let none : 0 ≤ 0 = omega arith in none)))
    (λ p. let same : position_of p before_crashing ≡ position_of p before_reading_old = refl in omega arith)
    (λ p. no_less p 1 None (last_up p before_crashing) (λ is. omega arith))
    (λ p. no_less p 1 (Some (up_with 1 state.NonPrim 1 1)) (last_up p before_recovering)
    (λ is. subst (λ (n : ℕ). count_of (last_up n before_recovering) ≤ 1) is (let one : 1 ≤ 1 = omega arith in one)))
    (λ p. no_less p 2 (Some (up_with 1 state.RegPrim 2 1)) (last_up p before_reading)
    (λ is. subst (λ (n : ℕ). count_of (last_up n before_reading) ≤ 2) is (let none : 0 ≤ 2 = omega arith in none)))
    earlier s there p

-- what is shown as applied is among what is held, and that is a prefix
abbrev HasShown : List Step → ℕ → Replica → Type 0
HasShown now p r =
    ((id : ActionId) → Contains (shown_by p now) id → Contains (take (green_count r.held.queue) (order_of right)) id) × IsPrefixState right r

first_state : IsPrefixState right (replica_with 1 (x_is 1))
unfolding run_commands with_changes
first_state = ((let less : 1 ≤ 2 = omega arith in less), refl)

both_state : IsPrefixState right (record { held = both_applied; state = NonPrim false })
unfolding run_commands with_changes
both_state = ((let less : 2 ≤ 2 = omega arith in less), refl)

fresh_state : (p : ℕ) → IsPrefixState right (record { held = fresh_held p servers; state = NonPrim false })
fresh_state p = ((let less : 0 ≤ 2 = omega arith in less), refl)

has_shown : (earlier : List Step) (s : Step) (p : ℕ) (r : Replica) → ComesAfter right earlier s → replica_of s.world p ≡ Some r → HasShown (through earlier s) p r
has_shown earlier s p r there up =
    each-up (HasShown (through earlier s)) s.world.nodes p r
    (each-step (λ earlier s. EachUp (HasShown (through earlier s)) s.world.nodes)
    (((λ id there. there), first_state), (((λ id there. there), fresh_state 2), (((λ id there. there), fresh_state 3), tt)))
    (((λ id there. there), first_state), (((λ id there. there), fresh_state 2), (((λ id there. there), fresh_state 3), tt)))
    (((λ id there. there), first_state), (((λ id there. there), fresh_state 2), (((λ id there. there), fresh_state 3), tt)))
    (tt, (((λ id there. there), fresh_state 2), (((λ id there. there), fresh_state 3), tt)))
    (((λ id there. there), first_state), (((λ id there. there), fresh_state 2), (((λ id there. there), fresh_state 3), tt)))
    (((λ id there. there), first_state), (((λ id there. there), both_state), (((λ id there. there), fresh_state 3), tt)))
    earlier s there)
    up

state_in : (s : Step) (p : ℕ) (r : Replica) → Contains right s → replica_of s.world p ≡ Some r → IsPrefixState right r
state_in s p r there up = let at = split-at right s there in (has_shown at.before s p r (at.after, at.is) up).1

-- ---- durable, exactly once, prefix reads, no split brain

acknowledged : (earlier : List Step) (s : Step) (id : ActionId) → ComesAfter right earlier s → Contains (replied_in s) id → Contains (shown_by id.creator (through earlier s)) id
acknowledged earlier s id there told =
    each-step (λ earlier s. (id : ActionId) → Contains (replied_in s) id → Contains (shown_by id.creator (through earlier s)) id)
    (λ id told. each-in (λ (id : ActionId). Contains (shown_by id.creator before_parting) id) (name 1 1 ∷ []) id ((0, omega arith, refl), tt) told)
    (λ id told. absurd (contains-none id told))
    (λ id told. absurd (contains-none id told))
    (λ id told. absurd (contains-none id told))
    (λ id told. absurd (contains-none id told))
    (λ id told. each-in (λ (id : ActionId). Contains (shown_by id.creator right) id) (name 2 1 ∷ []) id ((1, omega arith, refl), tt) told)
    earlier s there id told

durable : Durable right
durable =
    record {
      acknowledged = acknowledged;
      kept = shown-grows right never_falls;
      applied = λ earlier s p r id there up shown. let has = has_shown earlier s p r there up in (has.0 id shown, has.1);
    }

exactly_once : ExactlyOnce right
exactly_once = record { ordered = differ; replied = differ; applied = state_in }

abbrev ReadsPrefix : List Step → Step → Type 0
ReadsPrefix earlier s =
    (p : ℕ) (q : Query) → s.event ≡ Weak p q →
    (let read = position_of p (through earlier s) in
    (read ≤ length (order_of right)) × (s.entry.shown ≡ ShownWeak p (answer (fold_actions (ordered_actions right read)) q) ∷ []))

weak_read : ReadsPrefix before_reading_old reads_old
weak_read p q is =
    let who : 3 ≡ p = cc in
    let asked : Get (codes "x") ≡ q = cc in
    subst (λ (query : Query). (let read = position_of p before_crashing in
    (read ≤ 2) × (reads_old.entry.shown ≡ ShownWeak p (answer (fold_actions (ordered_actions right read)) query) ∷ []))) asked
    (subst (λ (n : ℕ). (let read = position_of n before_crashing in
    (read ≤ 2) × (reads_old.entry.shown ≡ ShownWeak n (answer (fold_actions (ordered_actions right read)) (Get (codes "x"))) ∷ []))) who
    ((let less : 0 ≤ 2 = omega arith in less), refl))

prefix_reads : PrefixReads right
prefix_reads =
    record {
      prefix = λ earlier s p q there weak.
          each-step ReadsPrefix (λ p q is. cc) (λ p q is. cc) weak_read (λ p q is. cc) (λ p q is. cc) (λ p q is. cc) earlier s there p q weak;
      monotonic = position-grows right never_falls;
      own_writes = own-writes right never_falls acknowledged;
    }

-- who is outside of a primary component makes the order no longer
abbrev IsNoLonger : List Step → Step → UpLine → ℕ → Type 0
IsNoLonger earlier s up p = (IsPrimary up.state → ⊥) → (IsTrue (is_recovery_of p s.event) → ⊥) → up.view.green_count ≤ length (order_of earlier)

abbrev LineIsNoLonger : List Step → Step → Line → Type 0
LineIsNoLonger earlier s l = (up : UpLine) → l.up ≡ Some up → IsNoLonger earlier s up l.id

of_up : (P : UpLine → Type 0) (x up : UpLine) → Some x ≡ Some up → P x → P up
of_up P x up is holds = (let same : x ≡ up = cc in subst P same holds)

outside : (earlier : List Step) (s : Step) → ComesAfter right earlier s → EachIn (LineIsNoLonger earlier s) s.entry.lines
outside earlier s there =
    each-step (λ earlier s. EachIn (LineIsNoLonger earlier s) s.entry.lines)
    ((λ up is. of_up (λ up. IsNoLonger [] writes up 1) (up_with 1 state.RegPrim 1 1) up is (λ elsewhere on. absurd (elsewhere (inl refl)))), tt)
    ((λ up is. of_up (λ up. IsNoLonger before_parting parts up 3) (up_with 1 state.NonPrim 0 1) up is (λ elsewhere on. let less : 0 ≤ 1 = omega arith in less)), tt)
    tt
    ((λ up is. absurd (let clash : None ≡ Some up = is in cc)), tt)
    ((λ up is. of_up (λ up. IsNoLonger before_recovering recovers up 1) (up_with 1 state.NonPrim 1 1) up is (λ elsewhere on. let less : 1 ≤ 1 = omega arith in less)), tt)
    ((λ up is. of_up (λ up. IsNoLonger before_reading reads up 2) (up_with 1 state.RegPrim 2 1) up is (λ elsewhere on. absurd (elsewhere (inl refl)))), tt)
    earlier s there

abbrev IsOfOne : UpLine → Type 0
IsOfOne up = (up.view.prim.conf ≡ 1) × (up.view.prim.set ≡ record { id = 1; weight = 1 } ∷ [])

of_one_primary : (up : UpLine) → Contains (all_up_lines right) up → IsOfOne up
of_one_primary up there = each-in IsOfOne (all_up_lines right) up ((refl, refl), ((refl, refl), ((refl, refl), ((refl, refl), tt)))) there

no_split_brain : NoSplitBrain right
no_split_brain =
    record {
      one = λ a b there also same.
          let first = of_one_primary a there in
          let second = of_one_primary b also in
          (first.0 ∙ sym second.0, first.1 ∙ sym second.1);
      outside = λ earlier s l up there told is. each-in (LineIsNoLonger earlier s) s.entry.lines l (outside earlier s there) told up is;
      together = state_in;
    }

-- ---- all of them

right_is_guaranteed : Guarantees right
right_is_guaranteed =
    record {
      linearizable = strong-is_linearizable right strong;
      strongly_linearizable = strong;
      durable = durable;
      exactly_once = exactly_once;
      prefix_reads = prefix_reads;
      no_split_brain = no_split_brain;
    }

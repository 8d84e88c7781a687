-- The book runs on and counts what each replica has created, behind each small step; who hasn't begun has nothing in it.
use Rattle.std.proofs.Common.{◌≡◌, ℕ, zero, suc, ◌≤◌, max, true, false, cond, ◌&&◌, ◌||◌, List, [], ◌∷◌, ◌++◌, find, Option, Some, None, IfSome, refl, sym, ap, ◌∙◌, subst, arith, inl, inr, option_and_then, option_map, is_some, nat_lt}
use Rattle.std.specs.Prelude.{◌==◌, nat_le}
use Rattle.std.specs.Option.{option_map_or}
use Rattle.std.proofs.lemmas.Bool.{cases_Bool, cases_eq, cond-true, cond-false, and_parts, and_from, or_right, eq-eqb, lt-ltb, le-leb, leb-true, ne_eqb}
use Rattle.cg_base.specs.Lists.{Each}
use Rattle.cg_base.specs.declared.action_id.ActionId.{ActionId}
use Rattle.cg_base.specs.declared.weighted.Weighted.{Weighted}
use Rattle.cg_base.specs.Cuts.{index_in}
use Rattle.cg_base.specs.Ids.{same_id, has_name}
use Rattle.cg_base.specs.IdLaws.{same_id-is, same_id-self}
use Rattle.cg_action.specs.declared.action.Action.{Action}
use Rattle.cg_queue.specs.Queue.{names_of}
use Rattle.cg_client.specs.Replica.{Held, Replica, NonPrim, created}
use Rattle.cg_client.specs.Turn.{Turn, begin}
use Rattle.cg_disk_records.specs.Stored.{stored_of, whiten, recovery_turn}
use Rattle.cg_disk_records.specs.Crash.{Disk, at_rest, new_disk, recovered, disk_recovered}
use Rattle.cg_model.specs.World.{NodeState, Up, Down, Node, running, node_of, replica_of, has_begun}
use Rattle.cg_model.specs.Attempts.{held_in}
use Rattle.cg_model.specs.Step.{joiner_replica, without_snapshot}
use Rattle.cg_model.specs.Chronicle.{Chronicle, no_chronicle}
use Rattle.cg_model.specs.Looks.{core_of, disk_held, on_disk, stood_of, copied_for, OfCores}
use Rattle.cg_model.specs.Small.{start, turning, turning_as, after_turn, commit_as, crash_as, recover_as, join_with}
use Rattle.cg_model.specs.FactsReplica.{GoesOn, IsAsOnDisk, IsCore}
use Rattle.cg_model.specs.Played.{IsWritten}
use Rattle.cg_disk_records.specs.Holds.{run_on}
use Rattle.cg_agree_lemmas.specs.HeldMarks.{IsOneself}
use Rattle.cg_agree_lemmas.specs.HeldOwn.{created-same}
use Rattle.cg_agree_lemmas.specs.HeldCommit.{recovered-id}
use Rattle.cg_agree_lemmas.specs.ChronicleFacts.{node_of-set}
use Rattle.cg_agree_lemmas.specs.CoresKept.{node-of}
use Rattle.cg_agree_lemmas.specs.CoresSmall.{start-cores}
use Rattle.cg_agree_lemmas.specs.BookGrows.{named_in, IsNamed, cut_of, IsCounted}
use Rattle.cg_disk_records.specs.RunMarkLaws.{run-names}
use Rattle.cg_disk_records.specs.HeldLaws.{whitened-created}
use Rattle.cg_agree_lemmas.specs.Looking.{core_in}

pub record BookCounts (c : Chronicle) : Type 0 where
  pub numbered : run_on [] (names_of c.book) ≡ true
  pub counted : (p : ℕ) → IfSome (core_of c p) (λ h. index_in (cut_of c.book) p ≡ created h)
  pub unbegun : (p : ℕ) → has_begun c.world p ≡ false → index_in (cut_of c.book) p ≡ 0

-- ---- one node changes

pub counts-same : (c d : Chronicle) → d.world.nodes ≡ c.world.nodes → d.book ≡ c.book → BookCounts c → BookCounts d
counts-same c d nodes book is = record {
  numbered = ap (λ b. run_on [] (names_of b)) book ∙ is.numbered;
  counted = λ p. subst (λ (o : Option Node). IfSome (core_in o) (λ h. index_in (cut_of d.book) p ≡ created h)) (sym (same p))
      (subst (λ b. IfSome (core_of c p) (λ h. index_in (cut_of b) p ≡ created h)) (sym book) (is.counted p));
  unbegun = λ p none. ap (λ b. index_in (cut_of b) p) book ∙ is.unbegun p (sym (ap is_some (same p)) ∙ none);
} where
  same : (p : ℕ) → node_of d.world p ≡ node_of c.world p
  same p = ap (λ (list : List Node). find (λ s. s.id == p) list) nodes

pub counts-moved : (c d : Chronicle) (p : ℕ) (life : NodeState) → ((q : ℕ) → node_of d.world q ≡ cond (p == q) (Some (record { id = p; life = life })) (node_of c.world q)) →
    run_on [] (names_of d.book) ≡ true → index_in (cut_of d.book) p ≡ created (held_in life) → ((q : ℕ) → (q ≡ p → ⊥) → index_in (cut_of d.book) q ≡ index_in (cut_of c.book) q) →
    BookCounts c → BookCounts d
counts-moved c d p life node run count others is = record {
  numbered = run;
  counted = λ q. elim (cases_eq p q) [
    | inl same ↦ subst (λ n. IfSome (core_of d n) (λ h. index_in (cut_of d.book) n ≡ created h)) same
        (subst (λ (o : Option Node). IfSome (core_in o) (λ h. index_in (cut_of d.book) p ≡ created h)) (sym (node p ∙ cond-true (p == p) (Some (record { id = p; life = life })) (node_of c.world p) (eq-eqb p p refl))) count)
    | inr apart ↦ subst (λ (o : Option Node). IfSome (core_in o) (λ h. index_in (cut_of d.book) q ≡ created h)) (sym (there q apart))
        (subst (λ n. IfSome (core_of c q) (λ h. n ≡ created h)) (sym (others q (λ e. apart (sym e)))) (is.counted q))
  ];
  unbegun = λ q none. elim (cases_eq p q) [
    | inl same ↦ absurd (let clash : true ≡ false = sym (ap is_some (node q ∙ cond-true (p == q) (Some (record { id = p; life = life })) (node_of c.world q) (eq-eqb p q same))) ∙ none in cc)
    | inr apart ↦ others q (λ e. apart (sym e)) ∙ is.unbegun q (sym (ap is_some (there q apart)) ∙ none)
  ];
} where
  there : (q : ℕ) → (p ≡ q → ⊥) → node_of d.world q ≡ node_of c.world q
  there q apart = node q ∙ cond-false (p == q) (Some (record { id = p; life = life })) (node_of c.world q) (ne_eqb p q apart)

core-at : (c : Chronicle) (p : ℕ) (h : Held) → core_of c p ≡ Some h → BookCounts c → index_in (cut_of c.book) p ≡ created h
core-at c p h e is = subst (λ (o : Option Held). IfSome o (λ h. index_in (cut_of c.book) p ≡ created h)) e (is.counted p)

-- ---- a turn

-- a part of a turn grows the book by what is made in it, where the replica is up
pub book-turn : (b : Chronicle) (p : ℕ) (part : Turn → Turn) (r : Replica) (disk : Disk) → node_of b.world p ≡ Some (record { id = p; life = Up r disk }) →
    turning b p part ≡ after_turn b p r disk (part (begin r))
book-turn b p part r disk node = ap (λ (o : Option Node). option_map_or (λ s. turning_as b p part s.life) o b) node

-- what a turn comes to
pub counts-turning : (c b : Chronicle) (p : ℕ) (part : Turn → Turn) → b.world.nodes ≡ c.world.nodes → b.book ≡ c.book → ((r : Replica) (disk : Disk) →
    node_of c.world p ≡ Some (record { id = p; life = Up r disk }) → (r.held.id ≡ p) × IsCounted c.book r.held (part (begin r))) → BookCounts c → BookCounts (turning b p part)
counts-turning c b p part nodes book sound is = at (node_of b.world p) refl where
  same : (q : ℕ) → node_of b.world q ≡ node_of c.world q
  same q = ap (λ (list : List Node). find (λ s. s.id == q) list) nodes

  turn : (r : Replica) (disk : Disk) → node_of b.world p ≡ Some (record { id = p; life = Up r disk }) → BookCounts (after_turn b p r disk (part (begin r)))
  turn r disk node =
      let t = part (begin r) in
      let all = sound r disk (sym (same p) ∙ node) in
      let now : b.book ++ t.made ≡ c.book ++ t.made = ap (λ xs. xs ++ t.made) book in
      counts-moved c (after_turn b p r disk t) p (Up t.replica disk) (λ q. node_of-set b.world p (Up t.replica disk) q ∙ ap (cond (p == q) (Some (record { id = p; life = Up t.replica disk }))) (same q))
      (ap (λ xs. run_on [] (names_of xs)) now ∙ all.1.run)
      (ap (λ xs. index_in (cut_of xs) p) now ∙ ap (index_in (cut_of (c.book ++ t.made))) (sym all.0) ∙ all.1.counted)
      (λ q apart. ap (λ xs. index_in (cut_of xs) q) now ∙ all.1.others q (λ e. apart (e ∙ all.0))) is

  life : (s : Node) (l : NodeState) → s.life ≡ l → node_of b.world p ≡ Some s → BookCounts (turning_as b p part l)
  life s (Up r disk) e found = turn r disk (node-of b p s (Up r disk) e found)
  life s (Down disk green) e found = counts-same c b nodes book is

  at : (o : Option Node) → node_of b.world p ≡ o → BookCounts (option_map_or (λ s. turning_as b p part s.life) o b)
  at None e = counts-same c b nodes book is
  at (Some s) e = life s s.life refl e

-- ---- commits, crashes, recoveries

pub counts-commit : (c : Chronicle) (p : ℕ) (s : Node) → node_of c.world p ≡ Some s → (l : NodeState) → s.life ≡ l → BookCounts c → BookCounts (commit_as c p l)
counts-commit c p s e (Down disk green) life is = is
counts-commit c p s e (Up r disk) life is =
    let new : NodeState = Up (record r { held = whiten r.held }) (record disk { content = stored_of (whiten r.held) }) in
    counts-moved c (commit_as c p (Up r disk)) p new (λ q. node_of-set c.world p new q) is.numbered
    (core-at c p r.held (ap core_in (node-of c p s (Up r disk) life e)) is ∙ sym (whitened-created r.held)) (λ q apart. refl) is

pub counts-crash : (c : Chronicle) (p : ℕ) → IsWritten c p → (s : Node) → node_of c.world p ≡ Some s → (l : NodeState) → s.life ≡ l → BookCounts c → BookCounts (crash_as c p l)
counts-crash c p written s e (Down disk green) life is = is
counts-crash c p written s e (Up r disk) life is =
    let node = node-of c p s (Up r disk) life e in
    let agrees = subst (λ (o : Option Node). IfSome (option_and_then (λ s. running s.life) o) (λ r. IfSome (option_map (λ s. on_disk s.life) o) (λ disk. GoesOn r.held disk × IsAsOnDisk r.held disk r.state))) node written.up in
    counts-moved c (crash_as c p (Up r disk)) p (Down (at_rest disk) []) (λ q. node_of-set c.world p (Down (at_rest disk) []) q) is.numbered
    (core-at c p r.held (ap core_in node) is ∙ agrees.0.created) (λ q apart. refl) is

pub counts-recover : (c : Chronicle) (p : ℕ) → IfSome (disk_held c.world p) (λ h. h.id ≡ p) → IfSome (disk_held c.world p) (λ h. IsCore c h (stood_of c p)) →
    (s : Node) → node_of c.world p ≡ Some s → (l : NodeState) → s.life ≡ l → BookCounts c → BookCounts (recover_as c l)
unfolding recovery_turn
counts-recover c p own core s e (Up r disk) life is = is
counts-recover c p own core s e (Down disk green) life is =
    let node = node-of c p s (Down disk green) life e in
    let held : disk_held c.world p ≡ Some disk.content = ap (λ (o : Option Node). option_map (λ s. on_disk s.life) o) node in
    let id : disk.content.id ≡ p = subst (λ (o : Option Held). IfSome o (λ h. h.id ≡ p)) held own in
    let one = subst (λ (o : Option Held). IfSome o (λ h. IsCore c h (stood_of c p))) held core in
    let oneself : IsOneself c.start disk.content (stood_of c p) = record { made_of = one.made_of; contiguous = one.contiguous; yellow_closed = one.yellow_closed } in
    let r = recovered disk in
    let named : r.held.id ≡ p = recovered-id disk.content ∙ id in
    let same : created r.held ≡ created disk.content = created-same c.start (stood_of c p) (begin (record { held = disk.content; state = NonPrim false })) oneself in
    counts-moved c (recover_as c (Down disk green)) p (Up r (disk_recovered disk))
    (λ q. node_of-set c.world r.held.id (Up r (disk_recovered disk)) q ∙ ap (λ n. cond (n == q) (Some (record { id = n; life = Up r (disk_recovered disk) })) (node_of c.world q)) named)
    is.numbered (core-at c p disk.content (ap core_in node) is ∙ sym same) (λ q apart. refl) is

-- ---- joiners

-- a name that was found is one of the names
pub found-name : (book : List Action) (id : ActionId) (a : Action) → named_in book id ≡ Some a → has_name (names_of book) id ≡ true
found-name [] id a e = absurd (let clash : None ≡ Some a = e in cc)
found-name (x ∷ book) id a e = elim (cases_Bool (same_id x.id id)) [
  | inl here ↦ ap (λ b. b || has_name (names_of book) id) (let one = same_id-is x.id id here in subst (λ (y : ActionId). same_id id y ≡ true) (sym one) (same_id-self id))
  | inr other ↦ or_right (same_id id x.id) (has_name (names_of book) id) (found-name book id a (sym (cond-false (same_id x.id id) (Some x) (named_in book id) other) ∙ e))
]

names-booked : (book all : List Action) (id : ActionId) → Each (IsNamed book) all → has_name (names_of all) id ≡ true → has_name (names_of book) id ≡ true
names-booked book [] id each e = absurd (let clash : false ≡ true = e in cc)
names-booked book (x ∷ all) id each e = elim (cases_Bool (same_id id x.id)) [
  | inl here ↦ (let one = same_id-is id x.id here in subst (λ (y : ActionId). has_name (names_of book) y ≡ true) (sym one) (found-name book x.id x each.0))
  | inr other ↦ names-booked book all id each.1 (sym (ap (λ b. b || has_name (names_of all) id) other) ∙ e)
]

-- what was made counts no further than the book
pub cut-within : (book all : List Action) (p : ℕ) → run_on [] (names_of book) ≡ true → run_on [] (names_of all) ≡ true → Each (IsNamed book) all → index_in (cut_of all) p ≤ index_in (cut_of book) p
cut-within book all p run runs each = at (index_in (cut_of all) p) refl where
  at : (n : ℕ) → index_in (cut_of all) p ≡ n → n ≤ index_in (cut_of book) p
  at zero e = omega arith
  at (suc n) e =
      let id : ActionId = record { creator = p; index = suc n } in
      let there : has_name (names_of all) id ≡ true = run-names [] (names_of all) id tt runs
      ∙ and_from (nat_lt 0 (suc n)) (nat_le (suc n) (index_in (cut_of all) p)) (lt-ltb 0 (suc n) (omega arith)) (le-leb (suc n) (index_in (cut_of all) p) (omega arith)) in
      let known : (nat_lt 0 (suc n) && nat_le (suc n) (index_in (cut_of book) p)) ≡ true = sym (run-names [] (names_of book) id tt run) ∙ names-booked book all id each there in
      leb-true (suc n) (index_in (cut_of book) p) (and_parts (nat_lt 0 (suc n)) (nat_le (suc n) (index_in (cut_of book) p)) known).1

pub counts-join : (c : Chronicle) (joiner : ℕ) (content : Held) → has_begun c.world joiner ≡ false → IsCore c (joiner_replica joiner content).held (copied_for c joiner) → Each (IsNamed c.book) (copied_for c joiner) →
    BookCounts c → BookCounts (join_with c joiner content)
counts-join c joiner content none core each is =
    let r = joiner_replica joiner content in
    let zero_there : index_in (cut_of c.book) joiner ≡ 0 = is.unbegun joiner none in
    let within : index_in (cut_of (copied_for c joiner)) joiner ≤ index_in (cut_of c.book) joiner = cut-within c.book (copied_for c joiner) joiner is.numbered core.contiguous.greens each in
    let green : index_in content.queue.green_cut joiner ≡ index_in (cut_of (copied_for c joiner)) joiner = ap (λ cut. index_in cut joiner) core.made_of.green_cut in
    counts-moved c (join_with c joiner content) joiner (Up r (new_disk r.held)) (λ q. node_of-set (without_snapshot c.world joiner) joiner (Up r (new_disk r.held)) q)
    is.numbered (let same : index_in (cut_of c.book) joiner ≡ max (index_in content.queue.green_cut joiner) 0 = omega arith in same) (λ q apart. refl) is

-- ---- the start

pub counts-start : (set : List Weighted) → BookCounts (start no_chronicle set)
counts-start set =
    let d = start no_chronicle set in
    let cores : OfCores d (λ h all. created h ≡ 0) = start-cores (λ h all. created h ≡ 0) set (λ p. refl) in
    record { numbered = refl; counted = λ p. at p (node_of d.world p) refl (cores.memory p) (cores.disk p); unbegun = λ p none. refl } where
      at : (p : ℕ) (o : Option Node) → node_of (start no_chronicle set).world p ≡ o → IfSome (replica_of (start no_chronicle set).world p) (λ r. created r.held ≡ 0) →
          IfSome (disk_held (start no_chronicle set).world p) (λ h. created h ≡ 0) → IfSome (core_in (node_of (start no_chronicle set).world p)) (λ h. 0 ≡ created h)
      at p o e memory disk = subst (λ (o : Option Node). IfSome (core_in o) (λ h. 0 ≡ created h)) (sym e)
          (of_node o (subst (λ (o : Option Node). IfSome (option_and_then (λ s. running s.life) o) (λ r. created r.held ≡ 0)) e memory)
          (subst (λ (o : Option Node). IfSome (option_map (λ s. on_disk s.life) o) (λ h. created h ≡ 0)) e disk)) where
            of_life : (l : NodeState) → IfSome (running l) (λ r. created r.held ≡ 0) → created (on_disk l) ≡ 0 → 0 ≡ created (held_in l)
            of_life (Up r disk) memory content = sym memory
            of_life (Down disk green) memory content = sym content

            of_node : (o : Option Node) → IfSome (option_and_then (λ s. running s.life) o) (λ r. created r.held ≡ 0) → IfSome (option_map (λ s. on_disk s.life) o) (λ h. created h ≡ 0) →
                IfSome (core_in o) (λ h. 0 ≡ created h)
            of_node None memory disk = tt
            of_node (Some s) memory disk = of_life s.life memory disk

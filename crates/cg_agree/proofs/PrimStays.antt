-- The primary component of an index stays the same for ever: the servers of the start, the attempts and the levels go on.
use Rattle.std.proofs.Common.{◌⊎◌, ◌≡◌, ℕ, zero, suc, ◌-◌, ◌≤◌, ◌<◌, false, List, [], ◌∷◌, ◌++◌, map, fold, length, replicate, flat_map, Option, Some, None, refl, sym, ap, ap₂, ◌∙◌, subst, inl, inr, arith, if◌then◌else◌}
use Rattle.std.specs.Prelude.{◌==◌, nat_le}
use Rattle.std.specs.Option.{option_map_or}
use Rattle.std.proofs.lemmas.Bool.{cond_both}
use Rattle.std.proofs.lemmas.List.{append_assoc, append-nil}
use Rattle.std.proofs.lemmas.Option.{same_Some}
use Rattle.cg_base.specs.EachLaws.{Each-append}
use Rattle.cg_group.specs.PlaceLaws.{at_place-append}
use Rattle.cg_base.specs.declared.weighted.Weighted.{Weighted}
use Rattle.cg_base.specs.Lists.{at_place, Each}
use Rattle.cg_action.specs.declared.action.Kind.TheVariants.{Update, Join as JoinKind, Leave as LeaveKind}
use Rattle.cg_members.specs.Servers.{members_of}
use Rattle.cg_records.specs.declared.primary.Primary.{Primary}
use Rattle.cg_group.specs.State.{home, delivered_to, unordered_of}
use Rattle.cg_group.specs.Events.{regulars, order_all, furthest, transitional_places}
use Rattle.cg_client.specs.Install.{weighted}
use Rattle.cg_client.specs.Replica.{Replica}
use Rattle.cg_disk_records.specs.Crash.{EventEnd, Runs, Crashes as EndsInCrash, StopWith}
use Rattle.cg_disk_records.specs.Commit.{commits}
use Rattle.cg_schedule.specs.declared.event.Event.{Event}
use Rattle.cg_schedule.specs.declared.event.Event.TheVariants.{Start, Split, Merge, Request, Weak, Dirty, Order, Recover, RecoverStopped, Downgrade, Show, ShowOrder, Gather, End, Receive, Deliver, Rounds, Stop, Fail, Join, Leave, Transfer}
use Rattle.cg_model.specs.World.{NodeState, Up, Down, Node, TransferState, World, node_of, replica_of}
use Rattle.cg_model.specs.Step.{snapshot_for, stays_down}
use Rattle.cg_model.specs.NodeLaws.{at_node_both}
use Rattle.cg_model.specs.Turns.{Taken, stands, turns_of}
use Rattle.cg_model.specs.Chronicle.{Attempt, Chronicle}
use Rattle.cg_model.specs.Looks.{attempt_of, top_of, snapshot_of}
use Rattle.cg_model.specs.Levels.{prim_of}
use Rattle.cg_model.specs.Small.{Small, Starts, Makes, Enters, Orders, Receives, Hands, Leaves, Asks, Settles, Commits, Crashes, Recovers, Copies, Joins, small_step, commit_as, crash_as, recover_as, coming, take_newest, handed_next, take_next, leaving, take_parting, take_request, copy_as}
use Rattle.cg_client.specs.Requests.{settle}
use Rattle.cg_model.specs.Smalls.{smalls_in, turns_as, ending, ending_as, leaving_steps, order_steps, receive_steps, missing, copy_steps, join_steps}
use Rattle.cg_model.specs.Noting.{chronicle_step, played}
use Rattle.cg_model.specs.Fronts.{Front}
use Rattle.cg_agree_lemmas.specs.FrontFacts.{Front-length, Front-append}
use Rattle.cg_agree.proofs.BegunKept.{start-turning, start-joins}
use Rattle.cg_agree_lemmas.specs.SameAttempt.{KeepsAttempts, keeps-refl, keeps-then, attempts-kept}
use Rattle.cg_agree_lemmas.specs.ReachWorld.{MoreLevels, levels-kept}
use Rattle.cg_client.specs.Joined.{piece_count}
use Rattle.cg_agree_lemmas.specs.LinesFollow.{NotStart}

-- ---- small steps

by_node : (c : Chronicle) (p : ℕ) (change : NodeState → Chronicle) → ((l : NodeState) → (change l).start ≡ c.start) → (o : Option Node) → (option_map_or (λ s. change s.life) o c).start ≡ c.start
by_node c p change each None = refl
by_node c p change each (Some s) = each s.life

by_replica : (c : Chronicle) (p joiner : ℕ) (o : Option Replica) → (option_map_or (copy_as c p joiner) o c).start ≡ c.start
by_replica c p joiner None = refl
by_replica c p joiner (Some r) = refl

start-stays : (c : Chronicle) (s : Small) → NotStart s → (small_step c s).start ≡ c.start
unfolding small_step
start-stays c (Starts set) none = absurd none
start-stays c (Makes set) none = refl
start-stays c (Enters p) none = start-turning (coming c p) p (take_newest c.world.group)
start-stays c (Orders p) none = refl
start-stays c (Receives p place) none = refl
start-stays c (Hands p) none = start-turning (handed_next c p) p (take_next c.world.group p)
start-stays c (Leaves p set own places) none = start-turning (leaving c p set own) p (take_parting c.world.group p set places)
start-stays c (Asks p kind) none = start-turning c p (take_request kind)
start-stays c (Settles p) none = start-turning c p settle
start-stays c (Commits p) none = by_node c p (commit_as c p) each (node_of c.world p) where
  each : (l : NodeState) → (commit_as c p l).start ≡ c.start
  each (Up r disk) = refl
  each (Down disk green) = refl
start-stays c (Crashes p) none = by_node c p (crash_as c p) each (node_of c.world p) where
  each : (l : NodeState) → (crash_as c p l).start ≡ c.start
  each (Up r disk) = refl
  each (Down disk green) = refl
start-stays c (Recovers p) none = by_node c p (recover_as c) each (node_of c.world p) where
  each : (l : NodeState) → (recover_as c l).start ≡ c.start
  each (Up r disk) = refl
  each (Down disk green) = refl
start-stays c (Copies p joiner) none = by_replica c p joiner (replica_of c.world p)
start-stays c (Joins joiner) none = start-joins c joiner

-- what an index stands on goes on
pub record StaysOn (c d : Chronicle) : Type 0 where
  pub start : d.start ≡ c.start
  pub attempts : KeepsAttempts c.attempts d.attempts
  pub levels : MoreLevels c.levels d.levels

pub stays-refl : (c : Chronicle) → StaysOn c c
stays-refl c = record { start = refl; attempts = keeps-refl c.attempts; levels = record { more = []; all = sym (append-nil c.levels) } }

pub stays-then : (b c d : Chronicle) → StaysOn b c → StaysOn c d → StaysOn b d
stays-then b c d one two = record {
  start = two.start ∙ one.start;
  attempts = keeps-then b.attempts c.attempts d.attempts one.attempts two.attempts;
  levels = record { more = one.levels.more ++ two.levels.more; all = two.levels.all ∙ ap (λ xs. xs ++ two.levels.more) one.levels.all ∙ append_assoc b.levels one.levels.more two.levels.more };
}

stays-played : (smalls : List Small) (c : Chronicle) → Each NotStart smalls → StaysOn c (played c smalls)
stays-played [] c none = stays-refl c
stays-played (s ∷ smalls) c none =
    let d = small_step c s in
    stays-then c d (played d smalls) (record { start = start-stays c s none.0; attempts = attempts-kept c s; levels = levels-kept c s }) (stays-played smalls d none.1)

-- ---- events

each-flat : {X : Type 0} (f : X → List Small) → ((x : X) → Each NotStart (f x)) → (xs : List X) → Each NotStart (flat_map f xs)
each-flat f each [] = tt
each-flat f each (x ∷ xs) = Each-append NotStart (f x) (flat_map f xs) (each x) (each-flat f each xs)

each-map : {X : Type 0} (f : X → Small) → ((x : X) → NotStart (f x)) → (xs : List X) → Each NotStart (map f xs)
each-map f each [] = tt
each-map f each (x ∷ xs) = (each x, each-map f each xs)

each-replicate : (n : ℕ) (s : Small) → NotStart s → Each NotStart (replicate n s)
each-replicate zero s none = tt
each-replicate (suc n) s none = (none, each-replicate n s none)

ends-none : (t : Taken) (steps : List Small) (e : EventEnd) → Each NotStart steps → Each NotStart (ending_as t steps e)
ends-none t steps (Runs r disk) none =
    Each-append NotStart steps (if commits t.before.held t.turn then Commits t.id ∷ [] else []) none
    (cond_both (commits t.before.held t.turn) (Commits t.id ∷ []) [] (Each NotStart) (λ y. (tt, tt)) (λ n. tt))
ends-none t steps (EndsInCrash disk green) none =
    cond_both (stands t) (steps ++ Commits t.id ∷ Crashes t.id ∷ []) (Crashes t.id ∷ []) (Each NotStart)
    (λ y. Each-append NotStart steps (Commits t.id ∷ Crashes t.id ∷ []) none (tt, (tt, tt))) (λ n. (tt, tt))

turns-none : (steps : ℕ → List Small) → ((p : ℕ) → Each NotStart (steps p)) → (w : World) (e : Event) → Each NotStart (turns_as steps w e)
turns-none steps none w e = each-flat (ending steps) (λ t. ends-none t (steps t.id) t.ended (none t.id)) (turns_of w e)

IsNoStart : Event → Type 0
IsNoStart (Start set) = ⊥
IsNoStart _ = Unit {0}

joins-none : (w : World) (joiner pieces : ℕ) (p : ℕ) (o : Option Replica) →
    Each NotStart (option_map_or (λ r. (let s = snapshot_for w p joiner r in if nat_le (piece_count s.content - s.taken) pieces then Joins joiner ∷ [] else [])) o [])
joins-none w joiner pieces p None = tt
joins-none w joiner pieces p (Some r) =
    let s = snapshot_for w p joiner r in
    cond_both (nat_le (piece_count s.content - s.taken) pieces) (Joins joiner ∷ []) [] (Each NotStart) (λ y. (tt, tt)) (λ n. tt)

smalls-none : (w : World) (e : Event) → IsNoStart e → Each NotStart (smalls_in w e)
unfolding smalls_in IsNoStart
smalls-none w (Start set) is = absurd is
smalls-none w (Merge set) is = (tt, turns-none (λ p. Enters p ∷ Settles p ∷ []) (λ p. (tt, (tt, tt))) w (Merge set))
smalls-none w (Split set) is = turns-none (leaving_steps w.group set) leaves w (Split set) where
  leaves : (p : ℕ) → Each NotStart (leaving_steps w.group set p)
  leaves p =
      let last = furthest w.group set in
      let behind : List Small = Leaves p set (delivered_to w.group p) (transitional_places (home w.group p) set last) ∷ Settles p ∷ [] in
      Each-append NotStart (replicate (last - delivered_to w.group p) (Hands p)) behind (each-replicate (last - delivered_to w.group p) (Hands p) tt) (tt, (tt, tt))
smalls-none w (Deliver p count) is =
    turns-none (λ q. replicate count (Hands q) ++ Settles q ∷ []) (λ q. Each-append NotStart (replicate count (Hands q)) (Settles q ∷ []) (each-replicate count (Hands q) tt) (tt, tt)) w (Deliver p count)
smalls-none w (Order p) is = (tt, tt)
smalls-none w (Receive p place) is = (tt, tt)
smalls-none w Gather is =
    let g = w.group in
    let behind = fold order_all g (regulars g) in
    Each-append NotStart (order_steps g) (receive_steps behind)
    (each-flat (λ p. map (λ m. Orders p) (unordered_of g p)) (λ p. each-map (λ m. Orders p) (λ m. tt) (unordered_of g p)) (regulars g))
    (each-flat (λ p. map (Receives p) (missing (home behind p) p)) (λ p. each-map (Receives p) (λ place. tt) (missing (home behind p) p)) (regulars behind))
smalls-none w (Request p cmds query) is = turns-none (λ q. Asks q (Update cmds query) ∷ []) (λ q. (tt, tt)) w (Request p cmds query)
smalls-none w (Join p joiner weight) is = turns-none (λ q. Asks q (JoinKind joiner weight) ∷ []) (λ q. (tt, tt)) w (Join p joiner weight)
smalls-none w (Leave p server) is = turns-none (λ q. Asks q (LeaveKind server) ∷ []) (λ q. (tt, tt)) w (Leave p server)
smalls-none w (Stop p call fill) is = cond_both (call == 0) (Crashes p ∷ []) [] (Each NotStart) (λ y. (tt, tt)) (λ n. tt)
smalls-none w (Recover p) is = (tt, tt)
smalls-none w (RecoverStopped p call fill) is = at_node_both (λ (life : NodeState). []) (Recovers p ∷ []) (Each NotStart) (λ life. tt) (tt, tt) w p (stays_down (record { call = call; fault = StopWith fill }))
smalls-none w (Downgrade p) is = tt
smalls-none w (Transfer p joiner pieces) is =
    Each-append NotStart (copy_steps w p joiner) (join_steps w p joiner pieces)
    (cond_both (option_map_or (λ (s : TransferState). s.giver == p) (snapshot_of w joiner) false) [] (Copies p joiner ∷ []) (Each NotStart) (λ y. tt) (λ n. (tt, tt)))
    (joins-none w joiner pieces p (replica_of w p))
smalls-none w (Weak p query) is = tt
smalls-none w (Dirty p query) is = tt
smalls-none w (Show p) is = tt
smalls-none w ShowOrder is = tt
smalls-none w End is = tt
smalls-none w (Rounds count) is = tt
smalls-none w (Fail p call) is = tt

pub event-stays : (c : Chronicle) (w : World) (e : Event) → ((set : List Weighted) → e ≡ Start set → ⊥) → StaysOn c (chronicle_step c w e)
unfolding IsNoStart
event-stays c w e none = stays-played (smalls_in w e) c (smalls-none w e (no-start e none)) where
  no-start : (e : Event) → ((set : List Weighted) → e ≡ Start set → ⊥) → IsNoStart e
  no-start (Start set) none = none set refl
  no-start (Merge set) none = tt
  no-start (Split set) none = tt
  no-start (Deliver p count) none = tt
  no-start (Order p) none = tt
  no-start (Receive p place) none = tt
  no-start Gather none = tt
  no-start (Request p cmds query) none = tt
  no-start (Join p joiner weight) none = tt
  no-start (Leave p server) none = tt
  no-start (Stop p call fill) none = tt
  no-start (Recover p) none = tt
  no-start (RecoverStopped p call fill) none = tt
  no-start (Downgrade p) none = tt
  no-start (Transfer p joiner pieces) none = tt
  no-start (Weak p query) none = tt
  no-start (Dirty p query) none = tt
  no-start (Show p) none = tt
  no-start ShowOrder none = tt
  no-start End none = tt
  no-start (Rounds count) none = tt
  no-start (Fail p call) none = tt

-- ---- the primary component of an index

-- the primary component of a level that stands
pub record OpenedAs (c : Chronicle) (prim : Primary) : Type 0 where
  pub conf : ℕ
  pub attempt : Attempt
  pub some : 0 < prim.index
  pub within : prim.index ≤ top_of c
  pub place : at_place c.levels prim.index ≡ Some conf
  pub found : attempt_of c conf ≡ Some attempt
  pub is : prim ≡ prim_of c prim.index attempt

abbrev pub IsOfStart : Chronicle → Primary → Type 0
IsOfStart c prim = (prim.index ≡ 0) × (prim.conf ≡ 0) × (prim.set ≡ c.start)

abbrev pub IsKnownIn : Chronicle → Primary → Type 0
IsKnownIn c prim = IsOfStart c prim ⊎ OpenedAs c prim

pub known-stays : (c d : Chronicle) (prim : Primary) → StaysOn c d → IsKnownIn c prim → IsKnownIn d prim
known-stays c d prim on is = elim is [
  | inl first ↦ inl (first.0, first.1, first.2 ∙ sym on.start)
  | inr there ↦
      let still = on.attempts.still there.conf there.attempt there.found in
      let longer : length c.levels ≤ length d.levels = Front-length c.levels d.levels (subst (Front c.levels) (sym on.levels.all) (Front-append c.levels on.levels.more)) in
      let old = there.within in
      inr (record {
        conf = there.conf;
        attempt = still.now;
        some = there.some;
        within = omega arith;
        place = ap (λ xs. at_place xs prim.index) on.levels.all ∙ at_place-append c.levels on.levels.more prim.index there.within ∙ there.place;
        found = still.found;
        is = there.is ∙ (λ k. record { index = prim.index; conf = sym still.same.conf k; set = weighted (members_of (sym on.start k) (sym still.same.greens k)) (sym still.same.set k) });
      })
]

-- Two that are known of one index are one.
pub known-same : (c : Chronicle) (a b : Primary) → IsKnownIn c a → IsKnownIn c b → a.index ≡ b.index → (a.conf ≡ b.conf) × (a.set ≡ b.set)
known-same c a b of_a of_b same = elim of_a [
  | inl one ↦ elim of_b [
    | inl two ↦ (one.1 ∙ sym two.1, one.2 ∙ sym two.2)
    | inr two ↦ absurd (let none = one.0 in let some = two.some in omega arith)
  ]
  | inr one ↦ elim of_b [
    | inl two ↦ absurd (let none = two.0 in let some = one.some in omega arith)
    | inr two ↦
        let conf : one.conf ≡ two.conf = same_Some one.conf two.conf (sym one.place ∙ ap (at_place c.levels) same ∙ two.place) in
        let attempt : one.attempt ≡ two.attempt = same_Some one.attempt two.attempt (sym one.found ∙ ap (attempt_of c) conf ∙ two.found) in
        let prims : a ≡ b = one.is ∙ ap₂ (prim_of c) same attempt ∙ sym two.is in
        (ap (λ (x : Primary). x.conf) prims, ap (λ (x : Primary). x.set) prims)
  ]
]

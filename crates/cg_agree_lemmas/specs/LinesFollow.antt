-- Servers are those of the greens, and the white count is below each line, in every core: behind each small step.
use Rattle.std.proofs.Common.{◌≡◌, ℕ, suc, ◌+◌, ◌≤◌, true, false, List, [], ◌∷◌, ◌++◌, length, Option, Some, None, IfSome, sym, ap, ap₂, ◌∙◌, subst, arith, option_and_then}
use Rattle.cg_base.specs.declared.weighted.Weighted.{Weighted}
use Rattle.cg_base.specs.ListLaws.{length-dropped}
use Rattle.cg_action.specs.declared.action.Action.{Action}
use Rattle.cg_members.specs.Members.{Members}
use Rattle.cg_members.specs.Listed.{line_of}
use Rattle.cg_members.specs.Servers.{is_server, starting, after_greens, members_of}
use Rattle.cg_queue.specs.Queue.{green_count}
use Rattle.cg_group.specs.declared.delivery.Delivery.TheVariants.{Transitional as TransitionalIn, Regular as RegularIn}
use Rattle.cg_group.specs.State.{configuration, home, delivered_to, regular_in, phase_of}
use Rattle.cg_group.specs.Events.{delivery_at, deliveries_at}
use Rattle.cg_client.specs.Replica.{Held, NonPrim, Replica}
use Rattle.cg_client.specs.Turn.{Turn, begin}
use Rattle.cg_client.specs.Requests.{settle}
use Rattle.cg_disk_records.specs.Stored.{whiten, recovery_turn}
use Rattle.cg_model.specs.World.{Node, running, replica_of}
use Rattle.cg_model.specs.Step.{joiner_replica}
use Rattle.cg_model.specs.Chronicle.{Chronicle}
use Rattle.cg_model.specs.Looks.{greens_of, stood_of, disk_held, snapshot_of, copied_for, OfCores}
use Rattle.cg_model.specs.FactsReplica.{IsLined, IsCore}
use Rattle.cg_model.specs.Facts.{Invariant}
use Rattle.cg_model.specs.Small.{Small, Starts, Makes, Enters, Orders, Receives, Hands, Leaves, Asks, Settles, Commits, Crashes, Recovers, Copies, Joins, small_step, newly_green, take_newest, take_next, take_parting, take_request, newest_conf}
use Rattle.cg_model.specs.Smalls.{may_make}
use Rattle.cg_agree_lemmas.specs.CoresKept.{IsClosed, TurnKeeps}
use Rattle.cg_agree_lemmas.specs.CoresSmall.{StepKeeps, cores-kept, ready-of}
use Rattle.cg_agree_lemmas.specs.GreenMembers.{FollowsGreens, greens-behind, own-same, takes-follow, settles-follow, asks-follow, newly-more}
use Rattle.cg_agree_lemmas.specs.LinesGreens.{lines-above}
use Rattle.cg_agree_lemmas.specs.LinesMade.{white-line-below}

-- ---- what a turn leaves

-- servers are those of the greens, and the white count is below each line
abbrev pub FollowsAll : List Weighted → Held → List Action → Type 0
FollowsAll start h all = (h.members ≡ members_of start all) × ((q : ℕ) → is_server h.members q ≡ true → h.queue.white ≤ line_of h.members.servers q)

follows-all : (c : Chronicle) (r new : Replica) (all : List Action) → IsCore c r.held all → ((q : ℕ) → is_server r.held.members q ≡ true → r.held.queue.white ≤ line_of r.held.members.servers q) → FollowsGreens r.held new.held →
    FollowsAll c.start new.held (all ++ newly_green r new)
follows-all c r new all core white f =
    let h = r.held in
    let count : green_count h.queue ≡ length all = ap (λ xs. h.queue.white + length xs) core.made_of.kept ∙ length-dropped h.queue.white all core.made_of.white in
    let place : suc (green_count h.queue) ≡ 1 + length all = omega arith in
    let more = newly-more r new f in (
      f.members ∙ ap₂ (λ m n. after_greens m n f.more) core.made_of.members place ∙ sym (greens-behind (starting c.start) 1 all f.more) ∙ ap (λ ys. members_of c.start (all ++ ys)) (sym more),
      (λ q server.
          let above = lines-above f.more h.members (green_count h.queue) h.queue.white (omega arith) white q (sym (ap (λ (m : Members). is_server m q) f.members) ∙ server) in
          let line : line_of new.held.members.servers q ≡ line_of (after_greens h.members (suc (green_count h.queue)) f.more).servers q = ap (λ (m : Members). line_of m.servers q) f.members in
          let same = f.white in
          omega arith),
    )

follows-closed : (start : List Weighted) → IsClosed (FollowsAll start)
unfolding whiten recovery_turn
follows-closed start = record {
  whitened = λ h all is. (is.0, λ q server. (let low = is.1 q server in let least = white-line-below h.members q server in omega arith));
  stored = λ h all is. (is.0, is.1);
  recovers = λ h all is. (
      let same = own-same (begin (record { held = h; state = NonPrim false })) in (
        same.members ∙ is.0,
        λ q server. (
            let low = is.1 q (sym (ap (λ (m : Members). is_server m q) same.members) ∙ server) in
            let line = ap (λ (m : Members). line_of m.servers q) same.members in
            let white = same.white in
            omega arith
            ),
      )
      );
  joins = λ p h all is. (is.0, is.1);
}

-- ---- every core

-- a small step but the start
abbrev pub NotStart : Small → Type 0
NotStart (Starts set) = ⊥
NotStart _ = Unit {0}

module _ (c : Chronicle) (i : Invariant c) where
  cores-follow : OfCores c (FollowsAll c.start)
  cores-follow = record {
    memory = λ p. each (replica_of c.world p) (λ r. r.held) (λ r. greens_of c p) (i.replica.cores.memory p) (i.replica.lines_below.cores.memory p);
    disk = λ p. each (disk_held c.world p) (λ h. h) (λ h. stood_of c p) (i.replica.cores.disk p) (i.replica.lines_below.cores.disk p);
    snapshot = λ joiner. each (snapshot_of c.world joiner) (λ s. (joiner_replica joiner s.content).held) (λ s. copied_for c joiner) (i.replica.cores.snapshot joiner) (i.replica.lines_below.cores.snapshot joiner);
  } where
    each : {X : Type 0} (o : Option X) (h : X → Held) (all : X → List Action) → IfSome o (λ x. IsCore c (h x) (all x)) → IfSome o (λ x. IsLined c (h x) (all x)) → IfSome o (λ x. FollowsAll c.start (h x) (all x))
    each None h all core lined = tt
    each (Some x) h all core lined = (core.made_of.members, lined.white)

  turn-follows : (p : ℕ) (part : Turn → Turn) → ((r : Replica) → FollowsGreens r.held (part (begin r)).replica.held) → TurnKeeps c p part (FollowsAll c.start)
  turn-follows p part follow r disk node =
      let here : replica_of c.world p ≡ Some r = ap (λ (o : Option Node). option_and_then (λ s. running s.life) o) node in
      follows-all c r (part (begin r)).replica (greens_of c p) (subst (λ (o : Option Replica). IfSome o (λ r. IsCore c r.held (greens_of c p))) here (i.replica.cores.memory p))
      (subst (λ (o : Option Replica). IfSome o (λ r. IsLined c r.held (greens_of c p))) here (i.replica.lines_below.cores.memory p)).white (follow r)

  step-follows : (s : Small) → NotStart s → StepKeeps c s (FollowsAll c.start)
  step-follows (Starts set) other = absurd other
  step-follows (Makes set) other = tt
  step-follows (Enters p) other = turn-follows p (take_newest c.world.group) (λ r. (let conf = newest_conf c.world.group in takes-follow r (RegularIn conf (configuration c.world.group conf).members ∷ [])))
  step-follows (Orders p) other = tt
  step-follows (Receives p place) other = tt
  step-follows (Hands p) other = turn-follows p (take_next c.world.group p) (λ r. (let g = c.world.group in takes-follow r (delivery_at (home g p) (suc (delivered_to g p)))))
  step-follows (Leaves p set own places) other =
      turn-follows p (take_parting c.world.group p set places) (λ r. (let g = c.world.group in takes-follow r (TransitionalIn (regular_in (phase_of g p)) set ∷ deliveries_at (home g p) places)))
  step-follows (Asks p kind) other = turn-follows p (take_request kind) (λ r. asks-follow r kind)
  step-follows (Settles p) other = turn-follows p settle settles-follow
  step-follows (Commits p) other = tt
  step-follows (Crashes p) other = tt
  step-follows (Recovers p) other = tt
  step-follows (Copies p joiner) other = tt
  step-follows (Joins joiner) other = tt

  -- Behind a small step servers are those of the greens, in every core.
  pub follow-kept : (s : Small) → may_make c s ≡ true → NotStart s → OfCores (small_step c s) (FollowsAll c.start)
  follow-kept s may other = cores-kept (FollowsAll c.start) c s (ready-of c i.net.hosted i.replica.disk_behind) may (follows-closed c.start) (step-follows s other) cores-follow

-- What a run has shown of a replica as it was up last: its greens begin the order, and no server's line among these is below its white count.
use Rattle.std.proofs.Common.{◌⊎◌, ◌≡◌, ℕ, ◌<◌, ◌≤◌, true, false, List, [], ◌∷◌, map, length, Option, Some, None, IfSome, is_some, refl, sym, ap, ◌∙◌, subst, inl, inr, arith, option_and_then}
use Rattle.std.specs.Option.{option_map_or}
use Rattle.cg_base.specs.Lists.{Each}
use Rattle.cg_base.specs.EachLaws.{Each-append, Each-weaker}
use Rattle.cg_base.specs.declared.weighted.Weighted.{Weighted}
use Rattle.cg_action.specs.declared.action.Action.{Action}
use Rattle.cg_members.specs.Listed.{line_of}
use Rattle.cg_members.specs.Servers.{members_of, is_server, was_ever, starting}
use Rattle.cg_queue.specs.Queue.{names_of, green_count}
use Rattle.cg_report.specs.declared.entry.Made.{Made}
use Rattle.cg_report.specs.declared.line.UpLine.{UpLine}
use Rattle.cg_schedule.specs.declared.event.Event.{Event}
use Rattle.cg_schedule.specs.declared.event.Event.TheVariants.{Start, Split, Merge, Request, Weak, Dirty, Order, Recover, RecoverStopped, Downgrade, Show, ShowOrder, Gather, End, Receive, Deliver, Rounds, Stop, Fail, Join, Leave, Transfer}
use Rattle.cg_client.specs.Replica.{Replica}
use Rattle.cg_model.specs.World.{Node, World, no_world, running, has_begun, node_of, replica_of}
use Rattle.cg_model.specs.Show.{Moved}
use Rattle.cg_model.specs.Run.{Step, MayStand, IsRunFrom, world_after}
use Rattle.cg_model.specs.Shown.{made_at, position_of, white_of}
use Rattle.cg_model.specs.Telling.{made_of}
use Rattle.cg_model.specs.Agreement.{through, may_move}
use Rattle.cg_model.specs.Chronicle.{Chronicle, no_chronicle}
use Rattle.cg_model.specs.Fronts.{Front}
use Rattle.cg_model.specs.Looks.{greens_of}
use Rattle.cg_model.specs.FactsReplica.{IsLined, join_from}
use Rattle.cg_model.specs.Noting.{chronicle_step, chronicle_after}
use Rattle.cg_model.specs.Played.{StandsBeside, AlwaysHolds}
use Rattle.cg_agree_lemmas.specs.FrontFacts.{Front-trans, Front-append}
use Rattle.cg_agree_lemmas.specs.BookGrows.{IsNamed, named-more}
use Rattle.cg_agree_lemmas.specs.BookedCores.{each-booked}
use Rattle.cg_agree_lemmas.specs.BookStays.{event-book}
use Rattle.cg_agree.proofs.CountsGrow.{count_at, CountGrows, event-counts}
use Rattle.cg_agree_lemmas.specs.LinesGreens.{ever-joined}
use Rattle.cg_agree.proofs.LinesShown.{AreLinesTold, position-shown, white-shown}
use Rattle.cg_agree.proofs.OrderReached.{in-order}
use Rattle.cg_agree_lemmas.specs.OrderTold.{step_order}
use Rattle.cg_agree.proofs.PositionsGrow.{IsPlaced, down-still, step-moves, placed-on}
use Rattle.cg_agree.proofs.PrimaryOne.{hosted-not}
use Rattle.cg_agree.proofs.PrimStays.{event-stays}
use Rattle.cg_agree.proofs.RunForward.{IsStepOf, of-run}
use Rattle.cg_agree.proofs.TellsRun.{nothing-told}
use Rattle.cg_model.specs.MadeLaws.{made-last}

-- what was shown of a replica as it was up last
pub record IsKept (earlier : List Step) (c : Chronicle) (w : World) (p : ℕ) : Type 0 where
  pub all : List Action
  pub front : Front (names_of all) w.order
  pub count : length all ≡ position_of p earlier
  pub booked : Each (IsNamed c.book) all
  pub low : white_of p earlier ≤ position_of p earlier
  pub white : (q : ℕ) → is_server (members_of c.start all) q ≡ true → white_of p earlier ≤ line_of (members_of c.start all).servers q
  pub joined : has_begun w p ≡ true → (was_ever (starting c.start) p ≡ true) ⊎ (0 < join_from 0 all p)

-- ---- a replica that is up

running-begun : (w : World) (p : ℕ) (r : Replica) → replica_of w p ≡ Some r → has_begun w p ≡ true
running-begun w p r runs = at (node_of w p) runs where
  at : (o : Option Node) → option_and_then (λ s. running s.life) o ≡ Some r → is_some o ≡ true
  at None is = absurd (let clash : None ≡ Some r = is in cc)
  at (Some s) is = refl

kept-up : (steps : List Step) (d : Chronicle) (v : World) → StandsBeside d v → AreLinesTold steps v → (p : ℕ) (r : Replica) → replica_of v p ≡ Some r → IsKept steps d v p
kept-up steps d v stands lines p r runs =
    let is = in-order d v stands p r runs in
    let greens = greens_of d p in
    let here : replica_of d.world p ≡ Some r = sym (stands.same.running p) ∙ runs in
    let place : position_of p steps ≡ green_count r.held.queue = position-shown steps v lines p r runs in
    let white : white_of p steps ≡ r.held.queue.white = white-shown steps v lines p r runs in
    let lined : IsLined d r.held greens = subst (λ (o : Option Replica). IfSome o (λ r. IsLined d r.held greens)) here (stands.facts.replica.lines_below.cores.memory p) in
    let members = is.core.made_of.members in
    let begun : was_ever (members_of d.start greens) p ≡ true =
    ap (λ list. was_ever (members_of d.start list) p) (stands.rests.replica.disk_agrees.greens p) ∙ stands.facts.net.members_begun.server p (running-begun d.world p r here) in
    record {
      all = greens;
      front = is.front;
      count = sym (place ∙ is.count);
      booked = each-booked d greens (stands.facts.replica.made_once.in_greens p);
      low = (let within = is.core.made_of.white in let count = is.count in omega arith);
      white = λ q server. subst (λ n. n ≤ line_of (members_of d.start greens).servers q) (sym white)
          (subst (λ m. r.held.queue.white ≤ line_of m.servers q) members (lined.white q (ap (λ m. is_server m q) members ∙ server)));
      joined = λ has. ever-joined greens (starting d.start) 0 p begun;
    }

-- ---- one that isn't

-- a start comes first, and at every other event the servers of the start stay
start-or-same : (c : Chronicle) (w : World) (e : Event) → MayStand w e → (w ≡ no_world) ⊎ ((chronicle_step c w e).start ≡ c.start)
start-or-same c w (Start set) may = inl may.0
start-or-same c w (Split set) may = inr (event-stays c w (Split set) (hosted-not w (Split set) may.0 may)).start
start-or-same c w (Merge set) may = inr (event-stays c w (Merge set) (hosted-not w (Merge set) may.0 may)).start
start-or-same c w (Request p cmds query) may = inr (event-stays c w (Request p cmds query) (hosted-not w (Request p cmds query) may.0 may)).start
start-or-same c w (Weak p query) may = inr (event-stays c w (Weak p query) (hosted-not w (Weak p query) may.0 may)).start
start-or-same c w (Dirty p query) may = inr (event-stays c w (Dirty p query) (hosted-not w (Dirty p query) may.0 may)).start
start-or-same c w (Order p) may = inr (event-stays c w (Order p) (hosted-not w (Order p) may.0 may)).start
start-or-same c w (Recover p) may = inr (event-stays c w (Recover p) (hosted-not w (Recover p) may.0 may)).start
start-or-same c w (RecoverStopped p call fill) may = inr (event-stays c w (RecoverStopped p call fill) (hosted-not w (RecoverStopped p call fill) may.0 may)).start
start-or-same c w (Downgrade p) may = inr (event-stays c w (Downgrade p) (hosted-not w (Downgrade p) may.0 may)).start
start-or-same c w (Show p) may = inr (event-stays c w (Show p) (hosted-not w (Show p) may.0 may)).start
start-or-same c w ShowOrder may = inr (event-stays c w ShowOrder (hosted-not w ShowOrder may.0 may)).start
start-or-same c w Gather may = inr (event-stays c w Gather (hosted-not w Gather may.0 may)).start
start-or-same c w End may = absurd may
start-or-same c w (Receive p place) may = inr (event-stays c w (Receive p place) (hosted-not w (Receive p place) may.0 may)).start
start-or-same c w (Deliver p count) may = inr (event-stays c w (Deliver p count) (hosted-not w (Deliver p count) may.0 may)).start
start-or-same c w (Rounds count) may = absurd may
start-or-same c w (Stop p call fill) may = inr (event-stays c w (Stop p call fill) (hosted-not w (Stop p call fill) may.0 may)).start
start-or-same c w (Fail p call) may = inr (event-stays c w (Fail p call) (hosted-not w (Fail p call) may.0 may)).start
start-or-same c w (Join p joiner weight) may = inr (event-stays c w (Join p joiner weight) (hosted-not w (Join p joiner weight) may.0 may)).start
start-or-same c w (Leave p server) may = inr (event-stays c w (Leave p server) (hosted-not w (Leave p server) may.0 may)).start
start-or-same c w (Transfer p joiner pieces) may = inr (event-stays c w (Transfer p joiner pieces) (hosted-not w (Transfer p joiner pieces) may.0 may)).start

kept-down : (earlier : List Step) (c : Chronicle) (w : World) (s : Step) → IsStepOf c w s → IsPlaced earlier c w → (p : ℕ) → replica_of s.world p ≡ None → IsKept earlier c w p →
    IsKept (through earlier s) (chronicle_step c w s.event) s.world p
kept-down earlier c w s step placed p down k =
    let still = down-still earlier c w s step p down in
    let place : position_of p (through earlier s) ≡ position_of p earlier = ap (λ (o : Option UpLine). option_map_or (λ up. up.view.green_count) o 0) still in
    let whites : white_of p (through earlier s) ≡ white_of p earlier = ap (λ (o : Option UpLine). option_map_or (λ up. up.view.white_count) o 0) still in
    let order = (step_order w s step.moved).names in
    let book = event-book c w s.event in
    record {
      all = k.all;
      front = Front-trans (names_of k.all) w.order s.world.order k.front (subst (Front w.order) (sym order) (Front-append w.order (map (λ o. o.id) s.entry.orders)));
      count = k.count ∙ sym place;
      booked = Each-weaker (IsNamed c.book) (IsNamed (chronicle_step c w s.event).book) (λ a is. subst (λ (list : List Action). IsNamed list a) (sym book.all) (named-more c.book book.more a is)) k.all k.booked;
      low = (let le = k.low in omega arith);
      white = λ q server. elim (start-or-same c w s.event step.may) [
        | inr same ↦ subst (λ n. n ≤ line_of (members_of (chronicle_step c w s.event).start k.all).servers q) (sym whites)
            (subst (λ (start : List Weighted). white_of p earlier ≤ line_of (members_of start k.all).servers q) (sym same) (k.white q (ap (λ (start : List Weighted). is_server (members_of start k.all) q) (sym same) ∙ server)))
        | inl first ↦
            let none : count_at (node_of w p) ≡ 0 = ap (λ (x : World). count_at (node_of x p)) first in
            let low : position_of p earlier ≤ count_at (node_of w p) = placed.placed p in
            let le = k.low in
            omega arith
      ];
      joined = λ has. (
          let begun : has_begun w p ≡ true = grows.begun has down in
          elim (start-or-same c w s.event step.may) [
            | inr same ↦ subst (λ (start : List Weighted). (was_ever (starting start) p ≡ true) ⊎ (0 < join_from 0 k.all p)) (sym same) (k.joined begun)
            | inl first ↦ absurd (let clash : true ≡ false = sym begun ∙ ap (λ (x : World). has_begun x p) first in cc)
          ]
          );
    } where
      grows : CountGrows (may_move s.event p) (node_of w p) (node_of s.world p)
      grows = subst (λ (m : Moved). CountGrows (may_move s.event p) (node_of w p) (node_of m.world p)) (sym step.moved) (event-counts c w step.before s.event step.may step.admitted p)

-- ---- the lines of actions

-- the line of an action that was shown as made is no higher than what was shown of its creator
abbrev pub IsReachedLine : List Step → Action → Type 0
IsReachedLine steps a = a.green_line ≤ position_of a.id.creator steps

made-reached : (steps : List Step) (list : List Made) → Each (IsReachedLine steps) (map (made_at steps) list)
made-reached steps [] = tt
made-reached steps (m ∷ list) = ((let same : position_of m.id.creator steps ≤ position_of m.id.creator steps = omega arith in same), made-reached steps list)

-- ---- runs

pub record AreKept (earlier : List Step) (c : Chronicle) (w : World) : Type 0 where
  pub placed : IsPlaced earlier c w
  pub lined : Each (IsReachedLine earlier) (made_of earlier)
  pub kept : (p : ℕ) → IsKept earlier c w p

kept-on : (earlier : List Step) (c : Chronicle) (w : World) (s : Step) → IsStepOf c w s → AreKept earlier c w → AreKept (through earlier s) (chronicle_step c w s.event) s.world
kept-on earlier c w s step k = record {
  placed = now;
  lined = subst (Each (IsReachedLine (through earlier s))) (sym (made-last [] earlier s))
      (Each-append (IsReachedLine (through earlier s)) (made_of earlier) (map (made_at (through earlier s)) s.entry.made)
      (Each-weaker (IsReachedLine earlier) (IsReachedLine (through earlier s)) (λ a le. (let more = (step-moves earlier c w s step k.placed a.id.creator).more in omega arith)) (made_of earlier) k.lined)
      (made-reached (through earlier s) s.entry.made));
  kept = λ p. at p (replica_of s.world p) refl;
} where
  now : IsPlaced (through earlier s) (chronicle_step c w s.event) s.world
  now = placed-on earlier c w s step k.placed

  at : (p : ℕ) (o : Option Replica) → replica_of s.world p ≡ o → IsKept (through earlier s) (chronicle_step c w s.event) s.world p
  at p None e = kept-down earlier c w s step k.placed p e (k.kept p)
  at p (Some r) e = kept-up (through earlier s) (chronicle_step c w s.event) s.world step.behind now.told.lines p r e

nothing-kept : AreKept [] no_chronicle no_world
nothing-kept = record {
  placed = record { told = nothing-told; placed = λ p. none };
  lined = tt;
  kept = λ p. record {
    all = [];
    front = tt;
    count = refl;
    booked = tt;
    low = none;
    white = λ q server. (let le : 0 ≤ line_of (members_of [] []).servers q = omega arith in le);
    joined = λ has. absurd (let clash : false ≡ true = has in cc);
  };
} where
  none : 0 ≤ 0
  none = omega arith

pub are-kept : AlwaysHolds → (steps : List Step) → IsRunFrom no_world steps → AreKept steps (chronicle_after no_chronicle no_world steps) (world_after no_world steps)
are-kept always steps run = of-run always AreKept kept-on nothing-kept steps run

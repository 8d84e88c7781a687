-- A run that was refused nowhere so far, and each generated event as its next: none is refused, and this is where all stand behind it.
use Rattle.std.proofs.Common.{◌≡◌, ℕ, zero, suc, ◌-◌, ◌≤◌, ◌<◌, Bool, true, false, not, ◌||◌, cond, List, [], ◌∷◌, fold, Option, Some, None, is_some, option_and_then, refl, sym, ap, subst, ◌∙◌, ⊎_elim, nat_lt, arith}
use Rattle.std.specs.Prelude.{◌==◌}
use Rattle.std.proofs.lemmas.Bool.{cond_both, ne_eqb, le-ltb, or_cases}
use Rattle.cg_base.specs.declared.weighted.Weighted.{Weighted}
use Rattle.cg_base.specs.Sets.{Ascends, has}
use Rattle.cg_base.specs.Weights.{ids, each_once}
use Rattle.cg_base.specs.WeightLaws.{ids-each_once}
use Rattle.cg_action.specs.declared.command.Cmd.{Cmd}
use Rattle.cg_action.specs.declared.query.Query.{Query}
use Rattle.cg_group.specs.declared.phase.Phase.{Phase}
use Rattle.cg_group.specs.declared.phase.Phase.TheVariants.{Alone, Regular, Transitional}
use Rattle.cg_group.specs.State.{standing_of, configuration, regular_in, phase_of, is_regular, delivered_to}
use Rattle.cg_group.specs.Ready.{ready_in, ready}
use Rattle.cg_group.specs.Events.{gather, deliver, split, merge}
use Rattle.cg_group.specs.Refusals.{left_together, not_up, not_regular, not_ready, deliver_refusal}
use Rattle.cg_group.specs.PlaceLaws.{ready_in-within}
use Rattle.cg_group.specs.LookupLaws.{put, eqb_comm}
use Rattle.cg_schedule.specs.declared.event.Event.{Event}
use Rattle.cg_schedule.specs.declared.event.Event.TheVariants.{Start, Split, Merge, Request, Weak, Recover, Gather, Deliver, Stop}
use Rattle.cg_model.specs.World.{Node, World, no_world, running, up_replicas}
use Rattle.cg_model.specs.Admission.{unknown, first_refusal}
use Rattle.cg_model.specs.AdmissionCalls.{already_up}
use Rattle.cg_model.specs.Show.{ended}
use Rattle.cg_model.specs.Step.{quietly, begin_replica, happens, world_step}
use Rattle.cg_model.specs.PhaseLaws.{where_is, phase_at, phase-where, all_at, merged, split-place, next_conf, merge-place}
use Rattle.cg_laws.proofs.GroupStands.{none-calm, gather-keeps, deliver-keeps, deliver-calm, split-calm, merge-calm}
use Rattle.cg_laws.proofs.WorldStands.{StandsIn, stands-same, stands-in, stands-kept, hand-stands, handed_out-stands, begun-stands, crashed-stands, recovered-stands}
use Rattle.cg_laws.proofs.Admits.{none-then, passes as lets_pass, some-member, is-known, stands-up, is-down, takes-part, may-split, may-merge}
use Rattle.cg_model.specs.NodeLaws.{node_in}
use Rattle.cg_model.specs.Schedules.{Run, no_run, step_unless, step_on, step, deliver_some, deliver_ready, pass, passes, play}

pub record Fine (begun : ℕ → Bool) (at : ℕ → Option Phase) (run : Run) : Type 0 where
  pub free : run.refused ≡ None
  pub world : StandsIn begun at run.world

pub fine-same : (begun also : ℕ → Bool) (at here : ℕ → Option Phase) (run : Run) → ((p : ℕ) → also p ≡ true → begun p ≡ true) → ((p : ℕ) → at p ≡ here p) → Fine begun at run → Fine also here run
fine-same begun also at here run more same fine =
    record { free = fine.free; world = stands-same begun also at here run.world.nodes run.world.group more same fine.world }

-- an admitted event is a step
step-fine : (begun : ℕ → Bool) (at : ℕ → Option Phase) (run : Run) (e : Event) → run.refused ≡ None → first_refusal run.world e ≡ None → StandsIn begun at (happens run.world e).world →
    Fine begun at (step run e)
unfolding world_step ended
step-fine begun at run e free admitted stands =
    subst (λ o. Fine begun at (step_on o run e)) (sym free) (subst (λ o. Fine begun at (step_unless o run e)) (sym admitted) (record { free = refl; world = stands }))

module _ (begun : ℕ → Bool) (at : ℕ → Option Phase) (run : Run) (fine : Fine begun at run) where
  -- ---- clients

  pub request-fine : (p : ℕ) (cmds : List Cmd) (query : Option Query) (phase : Phase) → begun p ≡ true → at p ≡ Some phase → Fine begun at (play run (Request p cmds query))
  unfolding first_refusal happens
  request-fine p cmds query phase has up =
      step-fine begun at run (Request p cmds query) fine.free (takes-part begun at run.world fine.world p phase has up)
      (hand-stands begun at (quietly run.world) p _ refl fine.world)

  pub weak-fine : (p : ℕ) (query : Query) (phase : Phase) → begun p ≡ true → at p ≡ Some phase → Fine begun at (play run (Weak p query))
  unfolding first_refusal happens
  weak-fine p query phase has up = step-fine begun at run (Weak p query) fine.free (takes-part begun at run.world fine.world p phase has up) fine.world

  -- ---- the group's messages

  pub gather-fine : Fine begun at (step run Gather)
  unfolding first_refusal happens
  gather-fine =
      step-fine begun at run Gather fine.free refl
      (stands-kept begun at run.world.nodes run.world.group (gather run.world.group) (gather-keeps run.world.group) fine.world)

  -- nothing is ready in no configuration
  nothing-ready : (delivered : ℕ) → ready_in (configuration run.world.group 0) delivered ≡ 0
  unfolding configuration
  nothing-ready delivered =
      let most : ready_in (configuration run.world.group 0) delivered ≤ 0 - delivered = ready_in-within (configuration run.world.group 0) delivered in
      omega arith

  -- who has something ready is regular
  ready-regular : (p n : ℕ) → ready run.world.group p ≡ suc n → (regular_in (phase_of run.world.group p) ≡ 0 → ⊥)
  ready-regular p n some none =
      let clash : 0 ≡ suc n =
      sym (ap (λ conf. ready_in (configuration run.world.group conf) (delivered_to run.world.group p)) none ∙ nothing-ready (delivered_to run.world.group p)) ∙ some in
      absurd cc

  phase-some : (o : Option Phase) → (regular_in (phase_at o) ≡ 0 → ⊥) → (phase : Phase) × (o ≡ Some phase)
  phase-some None some = absurd (some refl)
  phase-some (Some phase) some = (phase, refl)

  -- so it is up
  stands-ready : (p n : ℕ) → ready run.world.group p ≡ suc n → (phase : Phase) × (at p ≡ Some phase)
  stands-ready p n some = phase-some (at p) (λ none. ready-regular p n some (ap regular_in (phase-where run.world.group p ∙ ap phase_at (fine.world.place p)) ∙ none))

  -- and has begun
  has-node : (p : ℕ) (phase : Phase) → at p ≡ Some phase → is_some (node_in run.world.nodes p) ≡ true
  has-node p phase e = by (node_in run.world.nodes p) (fine.world.runs p ∙ ap is_some e) where
    by : (o : Option Node) → is_some (option_and_then (λ s. running s.life) o) ≡ true → is_some o ≡ true
    by None up = up
    by (Some s) up = refl

  some-fine : (p n : ℕ) → ready run.world.group p ≡ suc n → Fine begun at (step run (Deliver p (suc n)))
  unfolding first_refusal happens deliver_refusal
  some-fine p n e =
      let g = run.world.group in
      let up = stands-ready p n e in
      let hosted : unknown run.world p ≡ None = lets_pass (not (is_some (node_in run.world.nodes p))) _ (ap not (has-node p up.0 up.1)) in
      let regular : not_regular g p ≡ None = lets_pass (not (is_regular g p)) _ (ap (λ b. not (not b)) (ne_eqb (regular_in (phase_of g p)) 0 (ready-regular p n e))) in
      let enough : not_ready g p (suc n) ≡ None = lets_pass (nat_lt (ready g p) (suc n)) _ (ap (λ k. nat_lt k (suc n)) e ∙ le-ltb (suc n) (suc n) (omega arith)) in
      let refusal = none-then (not_up g p) _ (stands-up begun at run.world fine.world p up.0 up.1) (none-then (not_regular g p) _ regular (none-then (not_ready g p (suc n)) [] enough refl)) in
      let keeps = deliver-keeps g p (suc n) in
      step-fine begun at run (Deliver p (suc n)) fine.free (none-then (unknown run.world p) _ hosted (none-then (deliver_refusal g p (suc n)) [] refusal refl))
      (handed_out-stands begun at run.world (deliver g p (suc n)) (deliver-calm g p (suc n) fine.world.calm)
      (stands-kept begun at run.world.nodes g (deliver g p (suc n)).group keeps fine.world))

  deliver-fine : (p n : ℕ) → ready run.world.group p ≡ n → Fine begun at (deliver_some n run p)
  deliver-fine p zero e = fine
  deliver-fine p (suc n) e = some-fine p n e

  deliver_ready-fine : (p : ℕ) → Fine begun at (deliver_ready run p)
  deliver_ready-fine p = deliver-fine p (ready run.world.group p) refl

  -- ---- configurations

  pub split-fine : (set : List ℕ) (conf first : ℕ) → Ascends 1 set → 0 < conf → has set first ≡ true → ((p : ℕ) → has set p ≡ true → begun p ≡ true) →
      ((p : ℕ) → has set p ≡ true → at p ≡ Some (Regular conf)) → Fine begun (all_at set (Some (Transitional conf set)) at) (play run (Split set))
  unfolding first_refusal happens
  split-fine set conf first ascends above some known regular =
      let g = run.world.group in
      let here = all_at set (Some (Transitional conf set)) at in
      let calm = split-calm g set fine.world.calm in
      let place : (q : ℕ) → where_is (split g set).group q ≡ here q =
      λ q. split-place g set conf ascends (λ p member. fine.world.place p ∙ regular p member) q ∙ ap (cond (has set q) (Some (Transitional conf set))) (fine.world.place q) in
      let same : (q : ℕ) → is_some (at q) ≡ is_some (here q) =
      λ q. cond_both (has set q) (Some (Transitional conf set)) (at q) (λ o. is_some (at q) ≡ is_some o) (λ y. ap is_some (regular q y)) (λ n. refl) in
      step-fine begun here run (Split set) fine.free (may-split begun at run.world fine.world set conf first above some known regular)
      (handed_out-stands begun here run.world (split g set) calm.1 (stands-in begun at here run.world.nodes g (split g set).group place same calm.0 fine.world))

  pub merge-fine : (set : List ℕ) (first : ℕ) → has set first ≡ true → ((p : ℕ) → has set p ≡ true → begun p ≡ true) →
      ((p : ℕ) → has set p ≡ true → (phase : Phase) × (at p ≡ Some phase) × (regular_in phase ≡ 0)) →
      ((p q : ℕ) → has set p ≡ true → has set q ≡ false → left_together (phase_at (at p)) (phase_at (at q)) ≡ false) →
      (conf : ℕ) × (0 < conf) × Fine begun (all_at set (Some (Regular conf)) at) (play run (Merge set))
  unfolding first_refusal happens
  merge-fine set first some known out alone =
      let g = run.world.group in
      let conf = next_conf g in
      let here = all_at set (Some (Regular conf)) at in
      let calm = merge-calm g set fine.world.calm in
      let place : (q : ℕ) → where_is (merge g set).group q ≡ here q = λ q. merge-place g set q ∙ ap (cond (has set q) (Some (Regular conf))) (fine.world.place q) in
      let same : (q : ℕ) → is_some (at q) ≡ is_some (here q) =
      λ q. cond_both (has set q) (Some (Regular conf)) (at q) (λ o. is_some (at q) ≡ is_some o) (λ y. ap is_some (out q y).1) (λ n. refl) in (
        conf,
        omega arith,
        step-fine begun here run (Merge set) fine.free (may-merge begun at run.world fine.world set first some known out alone)
            (handed_out-stands begun here run.world (merge g set) calm.1 (stands-in begun at here run.world.nodes g (merge g set).group place same calm.0 fine.world)),
      )

  -- ---- crashes

  pub stop-fine : (p : ℕ) (phase : Phase) → begun p ≡ true → at p ≡ Some phase → Fine begun (put at p None) (play run (Stop p 0 []))
  unfolding first_refusal happens
  stop-fine p phase has up =
      step-fine begun (put at p None) run (Stop p 0 []) fine.free (takes-part begun at run.world fine.world p phase has up)
      (crashed-stands begun at run.world p fine.world (ap is_some up))

  pub recover-fine : (p : ℕ) → begun p ≡ true → at p ≡ None → Fine begun (put at p (Some Alone)) (play run (Recover p))
  unfolding first_refusal happens
  recover-fine p has down =
      step-fine begun (put at p (Some Alone)) run (Recover p) fine.free
      (none-then (unknown run.world p) _ (is-known begun at run.world fine.world p has) (none-then (already_up run.world p) [] (is-down begun at run.world fine.world p down) refl))
      (recovered-stands begun at run.world p fine.world has down)

-- ---- rounds

module _ (begun : ℕ → Bool) (at : ℕ → Option Phase) where
  each-fine : (list : List ℕ) (run : Run) → Fine begun at run → Fine begun at (fold deliver_ready run list)
  each-fine [] run fine = fine
  each-fine (p ∷ list) run fine = each-fine list (deliver_ready run p) (deliver_ready-fine begun at run fine p)

  pass-fine : (run : Run) → Fine begun at run → Fine begun at (pass run)
  pass-fine run fine = each-fine (up_replicas run.world) (step run Gather) (gather-fine begun at run fine)

  pub passes-fine : (n : ℕ) (run : Run) → Fine begun at run → Fine begun at (passes n run)
  passes-fine zero run fine = fine
  passes-fine (suc n) run fine = passes-fine n (pass run) (pass-fine run fine)

-- ---- the start

started : (set : List Weighted) (rest : List ℕ) (w : World) (begun : ℕ → Bool) (at : ℕ → Option Phase) → StandsIn begun at w →
    StandsIn (λ q. begun q || has rest q) (all_at rest (Some Alone) at) (fold (begin_replica set) w rest)
started set [] w begun at s =
    stands-same begun (λ q. begun q || false) at at w.nodes w.group (λ q e. ⊎_elim (λ y. y) (λ n. absurd (let clash : false ≡ true = n in cc)) (or_cases (begun q) false e)) (λ q. refl) s
started set (p ∷ rest) w begun at s =
    let v = begin_replica set w p in
    let once : ℕ → Bool = λ q. begun q || (p == q) in
    let next = fold (begin_replica set) v rest in
    stands-same (λ q. once q || has rest q) (λ q. begun q || has (p ∷ rest) q) (all_at rest (Some Alone) (put at p (Some Alone))) (all_at (p ∷ rest) (Some Alone) at) next.nodes next.group
    (λ q e. regrouped (begun q) (p == q) (has rest q) ∙ e)
    (λ q. ap (λ b. cond (has rest q) (Some Alone) (cond b (Some Alone) (at q))) (eqb_comm q p) ∙ merged (p == q) (has rest q) (Some Alone) (at q))
    (started set rest v once (put at p (Some Alone)) (begun-stands begun at set w p s))
  where
    regrouped : (a b c : Bool) → ((a || b) || c) ≡ (a || (b || c))
    regrouped true b c = refl
    regrouped false b c = refl

none-stands : StandsIn (λ q. false) (λ q. None) no_world
unfolding standing_of
none-stands = record { hosted = λ p e. absurd (let clash : false ≡ true = e in cc); runs = λ p. refl; place = λ p. refl; lives = λ p. tt; calm = none-calm }

-- All start, and are alone.
pub start-fine : (all : List ℕ) (first : ℕ) → has all first ≡ true → Fine (has all) (all_at all (Some Alone) (λ q. None)) (play no_run (Start (each_once all)))
unfolding first_refusal happens
start-fine all first some =
    let set = each_once all in
    step-fine (has all) (all_at all (Some Alone) (λ q. None)) no_run (Start set) refl
    (some-member (ids set) first (ap (λ xs. has xs first) (ids-each_once all) ∙ some))
    (subst (λ xs. StandsIn (has xs) (all_at xs (Some Alone) (λ q. None)) (fold (begin_replica set) no_world (ids set))) (ids-each_once all)
    (started set (ids set) no_world (λ q. false) (λ q. None) none-stands))

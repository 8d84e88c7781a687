-- A message that is handed to a member leads it from the state of the talk before to the state of the talk with it.
use Rattle.std.proofs.Common.{◌≡◌, ℕ, true, false, cond, List, [], ◌∷◌, Option, Some, None, refl, sym, ap, ◌∙◌, ◌⊎◌, inl, inr, ⊎_elim}
use Rattle.std.proofs.lemmas.Bool.{and_parts, cond_both, cases_Bool, false_from_ne_true}
use Rattle.cg_base.specs.declared.weighted.Weighted.{Weighted}
use Rattle.cg_base.specs.Sets.{has, is_within}
use Rattle.cg_action.specs.declared.action.Action.{Action}
use Rattle.cg_queue.specs.Queue.{Marking, Marks, Gaps, marked_red}
use Rattle.cg_queue.specs.declared.mark.Mark.TheVariants.{Placed, Known}
use Rattle.cg_vote.specs.Quorum.{is_quorum}
use Rattle.cg_vote.specs.QuorumLaws.{meet}
use Rattle.cg_knowledge.specs.declared.summary.Summary.{Summary}
use Rattle.cg_knowledge.specs.Summaries.{gone, remaining}
use Rattle.cg_knowledge.specs.Primary.{known_primary}
use Rattle.cg_knowledge.specs.Verdict.{decides, all_cleared}
use Rattle.cg_plan.specs.declared.parts.Part.{Part}
use Rattle.cg_plan.specs.Plan.{plan_of}
use Rattle.cg_plan.specs.Progress.{is_done, turn_of}
use Rattle.cg_client.specs.Replica.{State, ExchangeActions, Construct, NonPrim, Left}
use Rattle.cg_client.specs.Turn.{Turn, go_to, with_held}
use Rattle.cg_client.specs.Marks.{is_unmade, marked, mark_red, mark_green, can_be_green, place_green}
use Rattle.cg_client.specs.Requests.{empty_buffer}
use Rattle.cg_states.specs.ExchangeActions.{send_part, progress, go_on}
use Rattle.cg_states.specs.PlanEnd.{take_over, attempt, decide, end_plan}
use Rattle.cg_model.specs.Talk.{Talk, is_full, is_through, is_announced, state_behind, state_in}
use Rattle.cg_group.specs.LookupLaws.{at-cond}

-- ---- marks keep the state and the identifier

pub record IsKept (t u : Turn) : Type 0 where
  pub state : u.replica.state ≡ t.replica.state
  pub id : u.replica.held.id ≡ t.replica.held.id

kept : (t : Turn) → IsKept t t
kept t = record { state = refl; id = refl }

kept-marked : (t : Turn) (a : Action) (m : Marking) → IsKept t (marked t a m)
kept-marked t a (Marks Placed q) = record { state = refl; id = refl }
kept-marked t a (Marks Known q) = record { state = refl; id = refl }
kept-marked t a (Gaps cut) = kept t

pub kept-mark_red : (t : Turn) (a : Action) → IsKept t (mark_red t a)
unfolding mark_red
kept-mark_red t a =
    let h = t.replica.held in
    cond_both (is_unmade h a) t (marked t a (marked_red h.queue a)) (IsKept t) (λ y. kept t) (λ n. kept-marked t a (marked_red h.queue a))

pub kept-mark_green : (t : Turn) (a : Action) → IsKept t (mark_green t a)
unfolding mark_green place_green
kept-mark_green t a = cond_both (can_be_green t.replica.held a) (place_green t a) t (IsKept t) (λ y. record { state = refl; id = refl }) (λ n. kept t)

-- ---- the end of a plan

kept-send_part : (t : Turn) (o : Option Part) → IsKept t (send_part t o)
unfolding send_part
kept-send_part t None = kept t
kept-send_part t (Some part) = record { state = refl; id = refl }

-- the state behind the end of the plan
abbrev pub state_at_end : ℕ → List Summary → ℕ → State
state_at_end conf heard me = cond (has (gone heard) me) Left (cond (decides heard) (Construct conf []) (NonPrim true))

pub state-end_plan : (t : Turn) (conf : ℕ) (heard : List Summary) → (end_plan t conf heard).replica.state ≡ state_at_end conf heard t.replica.held.id
unfolding end_plan decide attempt take_over
state-end_plan t conf heard =
    let h = t.replica.held in
    at-cond (λ (u : Turn). u.replica.state) (has (gone heard) h.id) (go_to (empty_buffer t) Left) (decide (with_held t (take_over h heard)) conf heard)
    ∙ ap (cond (has (gone heard) h.id) Left) (at-cond (λ (u : Turn). u.replica.state) (decides heard)
    (attempt (with_held t (take_over h heard)) conf heard) (go_to (with_held t (take_over h heard)) (NonPrim true)))

pub state-go_on : (t : Turn) (conf : ℕ) (heard : List Summary) (accepted : ℕ) → (go_on t conf heard accepted).replica.state
    ≡ cond (is_done (progress heard accepted)) (state_at_end conf heard t.replica.held.id) (ExchangeActions conf heard accepted)
unfolding go_on
state-go_on t conf heard accepted =
    let o = turn_of (plan_of heard) t.replica.held.id accepted in
    let going = go_to t (ExchangeActions conf heard accepted) in
    let sent = send_part going o in
    let same = kept-send_part going o in
    at-cond (λ (u : Turn). u.replica.state) (is_done (progress heard accepted)) (end_plan sent conf heard) sent
    ∙ rw (state-end_plan sent conf heard, same.id, same.state) refl

-- ---- a quorum has somebody

pub quorum-of_nobody : (last : List Weighted) → is_quorum last [] ≡ false
quorum-of_nobody last = false_from_ne_true (is_quorum last []) (λ yes.
    let share = meet last [] [] yes yes in
    let there : has [] share.member ≡ true = share.is_in_one in
    absurd (let clash : false ≡ true = there in cc))

pub decides-somebody : (heard : List Summary) → decides heard ≡ true → is_within (remaining heard) [] ≡ false
unfolding decides
decides-somebody heard decided =
    let quorum = (and_parts (is_quorum (known_primary heard).set (remaining heard)) (all_cleared heard) decided).0 in
    somebody (remaining heard) quorum where
      somebody : (here : List ℕ) → is_quorum (known_primary heard).set here ≡ true → is_within here [] ≡ false
      somebody [] quorum = absurd (let clash : true ≡ false = sym quorum ∙ quorum-of_nobody (known_primary heard).set in cc)
      somebody (p ∷ here) quorum = refl

-- ---- the state of a talk

-- behind the last summary or item: the plan is through, or goes on
pub state-full : (set : List ℕ) (conf : ℕ) (t : Talk) (me : ℕ) → is_full set t ≡ true → t.announced ≡ [] →
    state_in set conf t me ≡ cond (is_done (progress t.heard t.accepted)) (state_at_end conf t.heard me) (ExchangeActions conf t.heard t.accepted)
state-full set conf t me full early =
    rw full (⊎_elim
    (λ yes. rw yes (at_end (cases_Bool (has (gone t.heard) me)) (cases_Bool (decides t.heard))))
    (λ no. rw no refl)
    (cases_Bool (is_through t))) where
      at_end : (has (gone t.heard) me ≡ true) ⊎ (has (gone t.heard) me ≡ false) → (decides t.heard ≡ true) ⊎ (decides t.heard ≡ false) →
          state_behind conf t me ≡ state_at_end conf t.heard me
      at_end (inl left) d = rw left refl
      at_end (inr here) (inr isnt) = rw (here, isnt) refl
      at_end (inr here) (inl is) =
          let somebody : is_announced t ≡ false = ap (is_within (remaining t.heard)) early ∙ decides-somebody t.heard is in
          rw (here, is, somebody, early) refl

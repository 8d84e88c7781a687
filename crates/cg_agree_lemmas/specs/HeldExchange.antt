-- One replica's facts through the items of a plan and its end, where the common yellow list fits at the end.
use Rattle.std.proofs.Common.{◌≡◌, ℕ, List, [], cond, Bool, true, false, Option, Some, None, refl, sym, subst}
use Rattle.cg_base.specs.declared.weighted.Weighted.{Weighted}
use Rattle.cg_base.specs.Sets.{has}
use Rattle.cg_action.specs.declared.action.Action.{Action}
use Rattle.cg_knowledge.specs.declared.summary.Summary.{Summary}
use Rattle.cg_knowledge.specs.Summaries.{gone}
use Rattle.cg_knowledge.specs.Primary.{known_primary, known_attempt}
use Rattle.cg_knowledge.specs.Yellow.{common_yellow}
use Rattle.cg_knowledge.specs.Vulnerable.{decided}
use Rattle.cg_knowledge.specs.Verdict.{decides}
use Rattle.cg_wire.specs.declared.message.Msg.{Msg}
use Rattle.cg_wire.specs.declared.message.Msg.TheVariants.{Action as ActionMsg, State as StateMsg, GreenItem, RedItem, Cpc}
use Rattle.cg_client.specs.Replica.{Held, ExchangeActions, NonPrim, Left}
use Rattle.cg_client.specs.Turn.{Turn, with_held, go_to}
use Rattle.cg_client.specs.Requests.{empty_buffer}
use Rattle.cg_states.specs.PlanEnd.{usable_names, take_over, begin_attempt, attempt, decide, end_plan}
use Rattle.cg_plan.specs.declared.parts.Part.{Part}
use Rattle.cg_plan.specs.Plan.{plan_of}
use Rattle.cg_plan.specs.Progress.{is_done, turn_of}
use Rattle.cg_states.specs.ExchangeActions.{mark_item, take_item, send_part, progress, go_on}
use Rattle.cg_disk_records.specs.Holds.{run_on}
use Rattle.cg_agree_lemmas.specs.HeldMarks.{IsOneself, are_within}
use Rattle.cg_agree_lemmas.specs.HeldTurns.{Grows, Keeps, grows-none, grows-both, keeps-none, keeps-choice, keeps-by_replica, keeps-held, keeps-mark_red, keeps-mark_green_at, oneself-with}

keeps-mark_item : (m : Msg) → Keeps (λ t. mark_item t m)
keeps-mark_item (GreenItem place a) = keeps-mark_green_at place a
keeps-mark_item (RedItem a) = keeps-mark_red a
keeps-mark_item (ActionMsg a) = keeps-none
keeps-mark_item (StateMsg s) = keeps-none
keeps-mark_item (Cpc id conf) = keeps-none

pub keeps-take_item : (summaries : List Summary) (m : Msg) → Keeps (λ t. take_item t summaries m)
keeps-take_item summaries m =
    keeps-by_replica (λ r t. cond (has (gone summaries) r.held.id) t (mark_item t m))
    (λ r. keeps-choice (has (gone summaries) r.held.id) (λ t. t) (λ t. mark_item t m) keeps-none (keeps-mark_item m))

-- the usable names of the common yellow list are the next green ones of their creators, and known
pub record FitsCommon (h : Held) (summaries : List Summary) : Type 0 where
  pub next : run_on h.queue.green_cut (usable_names h.queue (common_yellow summaries).list) ≡ true
  pub known : are_within h.queue.red_cut (usable_names h.queue (common_yellow summaries).list) ≡ true

pub taken-over : (start : List Weighted) (h : Held) (all : List Action) (summaries : List Summary) → FitsCommon h summaries → IsOneself start h all →
    IsOneself start (take_over h summaries) all
unfolding take_over
taken-over start h all summaries fits is =
    oneself-with start h all is (usable_names h.queue (common_yellow summaries).list) h.own (common_yellow summaries).valid (known_primary summaries)
    (known_attempt summaries) (decided summaries h.vulnerable) h.buffered h.owed fits.next fits.known is.contiguous.own is.contiguous.mine

taken-greens : (h : Held) (summaries : List Summary) → (take_over h summaries).queue.greens ≡ h.queue.greens
unfolding take_over
taken-greens h summaries = refl

keeps-attempt : (conf : ℕ) (summaries : List Summary) → Keeps (λ t. attempt t conf summaries)
unfolding attempt
keeps-attempt conf summaries start all t is =
    let h = t.replica.held in
    let new = begin_attempt h conf summaries in
    grows-none start h new all refl
    (oneself-with start h all is h.queue.yellow h.own h.yellow_valid h.prim new.attempt_index new.vulnerable h.buffered h.owed
    is.yellow_closed.next is.yellow_closed.known is.contiguous.own is.contiguous.mine)

pub keeps-decide : (conf : ℕ) (summaries : List Summary) → Keeps (λ t. decide t conf summaries)
unfolding decide
keeps-decide conf summaries =
    keeps-choice (decides summaries) (λ t. attempt t conf summaries) (λ t. go_to t (NonPrim true)) (keeps-attempt conf summaries)
    (keeps-held (λ t. go_to t (NonPrim true)) (λ t. refl))

-- the end of the plan
pub end-grows : (conf : ℕ) (summaries : List Summary) (start : List Weighted) (all : List Action) (t : Turn) → (has (gone summaries) t.replica.held.id ≡ false → FitsCommon t.replica.held summaries) →
    IsOneself start t.replica.held all → Grows start t.replica.held (end_plan t conf summaries).replica.held all
unfolding end_plan
end-grows conf summaries start all t fits is =
    let h = t.replica.held in
    let over = with_held t (take_over h summaries) in
    let left = grows-none start h (record h { buffered = [] }) all refl
    (oneself-with start h all is h.queue.yellow h.own h.yellow_valid h.prim h.attempt_index h.vulnerable [] h.owed
    is.yellow_closed.next is.yellow_closed.known is.contiguous.own is.contiguous.mine) in
    either (has (gone summaries) h.id) (go_to (empty_buffer t) Left) (decide over conf summaries) left
    (λ stays. (let first = grows-none start h (take_over h summaries) all (taken-greens h summaries) (taken-over start h all summaries (fits stays) is) in
    grows-both start h (take_over h summaries) (decide over conf summaries).replica.held all first (keeps-decide conf summaries start _ over first.is)))
  where
    either : (b : Bool) (u v : Turn) → Grows start t.replica.held u.replica.held all → (b ≡ false → Grows start t.replica.held v.replica.held all) →
        Grows start t.replica.held (cond b u v).replica.held all
    either true u v g h = g
    either false u v g h = h refl

-- ---- what comes of an item

send-held : (t : Turn) (o : Option Part) → (send_part t o).replica.held ≡ t.replica.held
unfolding send_part
send-held t None = refl
send-held t (Some part) = refl

pub go-on-grows : (conf : ℕ) (summaries : List Summary) (accepted : ℕ) (start : List Weighted) (all : List Action) (t : Turn) →
    (is_done (progress summaries accepted) ≡ true → has (gone summaries) t.replica.held.id ≡ false → FitsCommon t.replica.held summaries) →
    IsOneself start t.replica.held all → Grows start t.replica.held (go_on t conf summaries accepted).replica.held all
unfolding go_on
go-on-grows conf summaries accepted start all t fits is =
    let sent = send_part (go_to t (ExchangeActions conf summaries accepted)) (turn_of (plan_of summaries) t.replica.held.id accepted) in
    let same : sent.replica.held ≡ t.replica.held = send-held (go_to t (ExchangeActions conf summaries accepted)) (turn_of (plan_of summaries) t.replica.held.id accepted) in
    let is_now = subst (λ h. IsOneself start h all) (sym same) is in
    subst (λ h. Grows start h (cond (is_done (progress summaries accepted)) (end_plan sent conf summaries) sent).replica.held all) same
    (either (is_done (progress summaries accepted)) sent (end_plan sent conf summaries)
    (λ done. end-grows conf summaries start all sent
    (subst (λ h. has (gone summaries) h.id ≡ false → FitsCommon h summaries) (sym same) (fits done)) is_now)
    (keeps-none start all sent is_now))
  where
    either : (b : Bool) (u v : Turn) → (b ≡ true → Grows start u.replica.held v.replica.held all) → Grows start u.replica.held u.replica.held all →
        Grows start u.replica.held (cond b v u).replica.held all
    either true u v g h = g refl
    either false u v g h = h

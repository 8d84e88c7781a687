-- One replica's facts through the messages that come outside of an exchange.
use Rattle.std.proofs.Common.{◌≡◌, ℕ, List, [], ◌++◌, cond, Bool, true, false, refl, sym, ap, ◌∙◌}
use Rattle.cg_base.specs.declared.weighted.Weighted.{Weighted}
use Rattle.cg_base.specs.Sets.{is_within, with_member}
use Rattle.cg_action.specs.declared.action.Action.{Action}
use Rattle.cg_wire.specs.declared.message.Msg.{Msg}
use Rattle.cg_wire.specs.declared.message.Msg.TheVariants.{Action as ActionMsg, State as StateMsg, GreenItem, RedItem, Cpc}
use Rattle.cg_client.specs.Replica.{Held, State, RegPrim, TransPrim, ExchangeStates, ExchangeActions, Construct, No, Un, NonPrim, Left}
use Rattle.cg_client.specs.Turn.{Turn, go_to}
use Rattle.cg_client.specs.Marks.{mark_yellow}
use Rattle.cg_client.specs.Install.{prim_after, yellow_green, reds_green, install}
use Rattle.cg_states.specs.Construct.{attempt_set, is_announced, construct_with, construct_on_cpc}
use Rattle.cg_states.specs.No.{no_with, no_on_cpc}
use Rattle.cg_states.specs.Un.{un_on_action}
use Rattle.cg_states.specs.ReplicaStep.{on_message}
use Rattle.cg_disk_records.specs.Holds.{cut_behind}
use Rattle.cg_agree_lemmas.specs.HeldMarks.{IsOneself}
use Rattle.cg_agree_lemmas.specs.HeldTurns.{Grows, Keeps, grows-both, keeps-none, keeps-both, keeps-choice, keeps-by_replica, keeps-held, keeps-mark_red, keeps-mark_green, keeps-install, oneself-with}
use Rattle.cg_agree_lemmas.specs.HeldInstall.{IsAllYellow, yellow-kept-so}
use Rattle.cg_agree_lemmas.specs.HeldAll.{AllGreen, installed_by, install-all}

-- an installation makes all green that is known: the valid yellow actions, then the other reds
pub installed-all : (start : List Weighted) (all : List Action) (t : Turn) → IsOneself start t.replica.held all →
    AllGreen start t.replica.held (install t).replica.held all (installed_by t.replica.held)
unfolding install
installed-all start all t is =
    let g = install-all start all t is in
    let done = (reds_green (yellow_green t)).replica.held in
    record {
      kept = g.kept;
      is = oneself-with start done (all ++ installed_by t.replica.held) g.is [] done.own false (prim_after t.replica.held t.replica.held.vulnerable) 0 done.vulnerable done.buffered done.owed
          refl refl g.is.contiguous.own g.is.contiguous.mine;
      green_cut = g.green_cut;
      red_cut = g.red_cut;
      reds = g.reds;
    }

pub no-yellow : (t : Turn) → (install t).replica.held.queue.yellow ≡ []
unfolding install
no-yellow t = refl

-- and behind it all that is known is green
pub installed-yellow : (start : List Weighted) (all : List Action) (t : Turn) → IsOneself start t.replica.held all → IsAllYellow (install t).replica.held
installed-yellow start all t is =
    let g = installed-all start all t is in
    let h = (install t).replica.held in
    ap (cut_behind h.queue.green_cut) (no-yellow t) ∙ g.green_cut ∙ sym g.red_cut

-- what a yellow mark needs, in the state in which there is one
abbrev pub FitsYellow : State → Held → Type 0
FitsYellow TransPrim h = IsAllYellow h
FitsYellow _ h = Unit {0}

-- the states outside of an exchange
abbrev pub is_outside : State → Bool
is_outside (ExchangeStates conf set heard) = false
is_outside (ExchangeActions conf summaries accepted) = false
is_outside _ = true

keeps-go_to : (state : State) → Keeps (λ t. go_to t state)
keeps-go_to state = keeps-held (λ t. go_to t state) (λ t. refl)

keeps-construct_with : (conf : ℕ) (heard : List ℕ) → Keeps (λ t. construct_with t conf heard)
keeps-construct_with conf heard =
    keeps-by_replica (λ r t. cond (is_within (attempt_set r.held) heard) (go_to (install t) RegPrim) (go_to t (Construct conf heard)))
    (λ r. keeps-choice (is_within (attempt_set r.held) heard) (λ t. go_to (install t) RegPrim) (λ t. go_to t (Construct conf heard))
    (keeps-both install (λ t. go_to t RegPrim) keeps-install (keeps-go_to RegPrim)) (keeps-go_to (Construct conf heard)))

keeps-construct_on_cpc : (conf : ℕ) (heard : List ℕ) (from id of_conf : ℕ) → Keeps (λ t. construct_on_cpc t conf heard from id of_conf)
keeps-construct_on_cpc conf heard from id of_conf =
    keeps-by_replica (λ r t. cond (is_announced r.held conf from id of_conf) (construct_with t conf (with_member heard from)) t)
    (λ r. keeps-choice (is_announced r.held conf from id of_conf) (λ t. construct_with t conf (with_member heard from)) (λ t. t)
    (keeps-construct_with conf (with_member heard from)) keeps-none)

keeps-no_with : (conf : ℕ) (heard : List ℕ) → Keeps (λ t. no_with t conf heard)
keeps-no_with conf heard =
    keeps-by_replica (λ r t. cond (is_within (attempt_set r.held) heard) (go_to t Un) (go_to t (No conf heard)))
    (λ r. keeps-choice (is_within (attempt_set r.held) heard) (λ t. go_to t Un) (λ t. go_to t (No conf heard)) (keeps-go_to Un) (keeps-go_to (No conf heard)))

keeps-no_on_cpc : (conf : ℕ) (heard : List ℕ) (from id of_conf : ℕ) → Keeps (λ t. no_on_cpc t conf heard from id of_conf)
keeps-no_on_cpc conf heard from id of_conf =
    keeps-by_replica (λ r t. cond (is_announced r.held conf from id of_conf) (no_with t conf (with_member heard from)) t)
    (λ r. keeps-choice (is_announced r.held conf from id of_conf) (λ t. no_with t conf (with_member heard from)) (λ t. t)
    (keeps-no_with conf (with_member heard from)) keeps-none)

-- in Un an action proves an installation, which is made up for; then it becomes yellow
keeps-un_on_action : (a : Action) → Keeps (λ t. un_on_action t a)
keeps-un_on_action a start all t is =
    let first = keeps-install start all t is in
    let second = yellow-kept-so start (all ++ first.more) (install t) a first.is (installed-yellow start all t is) in
    grows-both start t.replica.held (install t).replica.held (mark_yellow (install t) a).replica.held all first second.grows

-- a message outside of an exchange
pub message-grows : (state : State) (from : ℕ) (m : Msg) (start : List Weighted) (all : List Action) (t : Turn) → is_outside state ≡ true →
    FitsYellow state t.replica.held → IsOneself start t.replica.held all → Grows start t.replica.held (on_message state from m t).replica.held all
unfolding on_message
message-grows RegPrim from (ActionMsg a) start all t out yellow is = keeps-mark_green a start all t is
message-grows RegPrim from (StateMsg s) start all t out yellow is = keeps-none start all t is
message-grows RegPrim from (GreenItem at a) start all t out yellow is = keeps-none start all t is
message-grows RegPrim from (RedItem a) start all t out yellow is = keeps-none start all t is
message-grows RegPrim from (Cpc id of_conf) start all t out yellow is = keeps-none start all t is
message-grows TransPrim from (ActionMsg a) start all t out yellow is = (yellow-kept-so start all t a is yellow).grows
message-grows TransPrim from (StateMsg s) start all t out yellow is = keeps-none start all t is
message-grows TransPrim from (GreenItem at a) start all t out yellow is = keeps-none start all t is
message-grows TransPrim from (RedItem a) start all t out yellow is = keeps-none start all t is
message-grows TransPrim from (Cpc id of_conf) start all t out yellow is = keeps-none start all t is
message-grows (ExchangeStates conf set heard) from m start all t out yellow is = absurd (let clash : false ≡ true = out in cc)
message-grows (ExchangeActions conf summaries accepted) from m start all t out yellow is = absurd (let clash : false ≡ true = out in cc)
message-grows (Construct conf heard) from (ActionMsg a) start all t out yellow is = keeps-none start all t is
message-grows (Construct conf heard) from (StateMsg s) start all t out yellow is = keeps-none start all t is
message-grows (Construct conf heard) from (GreenItem at a) start all t out yellow is = keeps-none start all t is
message-grows (Construct conf heard) from (RedItem a) start all t out yellow is = keeps-none start all t is
message-grows (Construct conf heard) from (Cpc id of_conf) start all t out yellow is = keeps-construct_on_cpc conf heard from id of_conf start all t is
message-grows (No conf heard) from (ActionMsg a) start all t out yellow is = keeps-none start all t is
message-grows (No conf heard) from (StateMsg s) start all t out yellow is = keeps-none start all t is
message-grows (No conf heard) from (GreenItem at a) start all t out yellow is = keeps-none start all t is
message-grows (No conf heard) from (RedItem a) start all t out yellow is = keeps-none start all t is
message-grows (No conf heard) from (Cpc id of_conf) start all t out yellow is = keeps-no_on_cpc conf heard from id of_conf start all t is
message-grows Un from (ActionMsg a) start all t out yellow is = keeps-un_on_action a start all t is
message-grows Un from (StateMsg s) start all t out yellow is = keeps-none start all t is
message-grows Un from (GreenItem at a) start all t out yellow is = keeps-none start all t is
message-grows Un from (RedItem a) start all t out yellow is = keeps-none start all t is
message-grows Un from (Cpc id of_conf) start all t out yellow is = keeps-none start all t is
message-grows (NonPrim regular) from (ActionMsg a) start all t out yellow is = keeps-mark_red a start all t is
message-grows (NonPrim regular) from (StateMsg s) start all t out yellow is = keeps-none start all t is
message-grows (NonPrim regular) from (GreenItem at a) start all t out yellow is = keeps-none start all t is
message-grows (NonPrim regular) from (RedItem a) start all t out yellow is = keeps-none start all t is
message-grows (NonPrim regular) from (Cpc id of_conf) start all t out yellow is = keeps-none start all t is
message-grows Left from (ActionMsg a) start all t out yellow is = keeps-none start all t is
message-grows Left from (StateMsg s) start all t out yellow is = keeps-none start all t is
message-grows Left from (GreenItem at a) start all t out yellow is = keeps-none start all t is
message-grows Left from (RedItem a) start all t out yellow is = keeps-none start all t is
message-grows Left from (Cpc id of_conf) start all t out yellow is = keeps-none start all t is

-- What a replica holds is made of its greens, runs on without a gap, and its yellow names fit: every small step keeps it, where the
-- common yellow list fits as a plan ends.
use Rattle.std.proofs.Common.{◌≡◌, ℕ, suc, Bool, true, false, cond, not, List, [], ◌∷◌, ◌++◌, length, drop, Option, Some, None, IfSome, refl, sym, ap, ◌∙◌, subst, arith}
use Rattle.std.specs.Prelude.{option_and_then}
use Rattle.std.specs.Option.{option_map_or}
use Rattle.std.proofs.lemmas.Bool.{cond-false, cond_both, and_parts}
use Rattle.std.proofs.lemmas.List.Sums.{fold-append}
use Rattle.cg_base.specs.declared.weighted.Weighted.{Weighted}
use Rattle.cg_base.specs.Lists.{at_place}
use Rattle.cg_base.specs.Sets.{has, is_within, with_member}
use Rattle.cg_base.specs.Text.{is_nil}
use Rattle.cg_base.specs.Weights.{ids}
use Rattle.cg_action.specs.declared.action.Action.{Action}
use Rattle.cg_queue.specs.Queue.{names_of}
use Rattle.cg_knowledge.specs.declared.summary.Summary.{Summary}
use Rattle.cg_knowledge.specs.Summaries.{senders, gone}
use Rattle.cg_wire.specs.declared.message.Msg.{Msg}
use Rattle.cg_wire.specs.declared.message.Msg.TheVariants.{Action as ActionMsg, State as StateMsg, GreenItem, RedItem, Cpc}
use Rattle.cg_group.specs.declared.phase.Phase.{Phase}
use Rattle.cg_group.specs.declared.delivery.Delivery.TheVariants.{Message}
use Rattle.cg_group.specs.State.{Configuration, Sent, home, delivered_to, phase_of, configuration}
use Rattle.cg_group.specs.Events.{delivery_at, deliveries_at}
use Rattle.cg_client.specs.Replica.{Held, State, RegPrim, TransPrim, ExchangeStates, ExchangeActions, Construct, No, Un, NonPrim, Left, Replica, fresh_held}
use Rattle.cg_client.specs.Turn.{Turn, begin, go_to}
use Rattle.cg_client.specs.Marks.{mark_red, mark_yellow}
use Rattle.cg_client.specs.Install.{install}
use Rattle.cg_client.specs.Requests.{settle}
use Rattle.cg_plan.specs.Progress.{is_done}
use Rattle.cg_states.specs.ExchangeStates.{is_usable, with_heard}
use Rattle.cg_states.specs.ExchangeActions.{progress, is_next, mark_item, take_item, go_on}
use Rattle.cg_states.specs.Construct.{attempt_set, is_announced}
use Rattle.cg_states.specs.No.{no_with}
use Rattle.cg_disk_records.specs.Crash.{Disk}
use Rattle.cg_states.specs.ReplicaStep.{on_message, on_transitional, after_delivery}
use Rattle.cg_model.specs.World.{Up, Node, node_of, replica_of, running}
use Rattle.cg_model.specs.Chronicle.{Chronicle}
use Rattle.cg_knowledge.specs.Verdict.{decides}
use Rattle.cg_model.specs.Looks.{greens_of, members_in, OfCores}
use Rattle.cg_model.specs.Talk.{Talk, is_full, is_through, is_announced as is_announced_in, state_in}
use Rattle.cg_model.specs.FactsTalk.{handed_talk}
use Rattle.cg_model.specs.FactsReplica.{IsCore, IsModeData, HasModeData}
use Rattle.cg_model.specs.Facts.{Invariant}
use Rattle.cg_model.specs.Small.{Small, Starts, Makes, Enters, Orders, Receives, Hands, Leaves, Asks, Settles, Commits, Crashes, Recovers, Copies, Joins, newly_green, take_all, take_newest, take_next, take_parting, take_request, newest_conf, small_step}
use Rattle.cg_model.specs.Smalls.{may_make, is_set}
use Rattle.cg_agree_lemmas.specs.HeldMarks.{IsOneself}
use Rattle.cg_agree_lemmas.specs.HeldTurns.{Grows, grows-none, grows-both, keeps-none, keeps-settle, keeps-install}
use Rattle.cg_agree_lemmas.specs.HeldInstall.{IsAllYellow, yellow-kept-so}
use Rattle.cg_agree_lemmas.specs.HeldCommit.{white-oneself, stored-oneself, recovered-oneself, keeps-take_regular, keeps-request}
use Rattle.cg_agree_lemmas.specs.HeldMessages.{FitsYellow, is_outside, message-grows, installed-yellow}
use Rattle.cg_agree_lemmas.specs.HeldExchange.{FitsCommon, keeps-take_item, go-on-grows}
use Rattle.cg_agree_lemmas.specs.OneselfWorld.{AreOneself, oneself-of, cores-of}
use Rattle.cg_agree_lemmas.specs.OneselfCopies.{joined-oneself}
use Rattle.cg_agree_lemmas.specs.CoresKept.{IsClosed, held-known}
use Rattle.cg_agree_lemmas.specs.CoresSmall.{StepKeeps, ready-of, cores-kept}
use Rattle.cg_agree.proofs.BegunKept.{nothing-before}
use Rattle.cg_agree_lemmas.specs.TurnValues.{even-take_item, even-mark_yellow, even-mark_red}
use Rattle.cg_agree_lemmas.specs.TurnKinds.{EndsWith}
use Rattle.cg_agree_lemmas.specs.TurnParts.{is_parted, stays-parted}
use Rattle.cg_agree_lemmas.specs.HandsNow.{HandsNow, hands-now, found-now, running-now}
use Rattle.cg_agree_lemmas.specs.RecordKept.{same-replica}
use Rattle.cg_agree.proofs.LevelsKept.{start-kept}
use Rattle.cg_disk_records.specs.Holds.{cut_behind}
use Rattle.cg_agree_lemmas.specs.ActsWay.{drop-behind}

-- the state of the transitional phase of a primary component, and of its regular one
abbrev pub is_trans : State → Bool
is_trans TransPrim = true
is_trans _ = false

abbrev is_reg : State → Bool
is_reg RegPrim = true
is_reg _ = false

-- what grew in a turn is what is newly green
grown-now : (start : List Weighted) (r new : Replica) (all : List Action) → Grows start r.held new.held all → IsOneself start new.held (all ++ newly_green r new)
grown-now start r new all g =
    subst (λ xs. IsOneself start new.held (all ++ xs)) (sym (ap (drop (length r.held.queue.greens)) g.kept ∙ drop-behind r.held.queue.greens g.more)) g.is

-- ---- as a plan ends

-- how many items there are behind the message that ends a plan
abbrev pub done_count : State → ℕ
done_count (ExchangeActions at heard accepted) = suc accepted
done_count _ = 0

-- with the message all summaries are heard
abbrev pub has_all : State → Msg → Bool
has_all (ExchangeStates conf set heard) (StateMsg s) = is_within set (senders (heard ++ s ∷ []))
has_all _ _ = true

-- what the end of a plan needs of the member: the common yellow list fits
abbrev pub EndFits : Chronicle → ℕ → Type 0
EndFits c p =
    (n : HandsNow c p) (conf : ℕ) (heard : List Summary) → EndsWith n.replica.state n.next.message conf heard → has_all n.replica.state n.next.message ≡ true → has (gone heard) n.replica.held.id ≡ false →
    is_done (progress heard (done_count n.replica.state)) ≡ true → FitsCommon (mark_item (begin n.replica) n.next.message).replica.held heard

choice : (start : List Weighted) (all : List Action) (h : Held) (b : Bool) (u v : Turn) → Grows start h u.replica.held all → Grows start h v.replica.held all → Grows start h (cond b u v).replica.held all
choice start all h true u v one two = one
choice start all h false u v one two = two

-- a summary, in the state in which these are taken
summary-grows : (start : List Weighted) (all : List Action) (t : Turn) (conf : ℕ) (set : List ℕ) (heard : List Summary) (from : ℕ) (s : Summary) →
    (is_within set (senders (heard ++ s ∷ [])) ≡ true → has (gone (heard ++ s ∷ [])) t.replica.held.id ≡ false → is_done (progress (heard ++ s ∷ []) 0) ≡ true → FitsCommon t.replica.held (heard ++ s ∷ [])) → IsOneself start t.replica.held all →
    Grows start t.replica.held (on_message (ExchangeStates conf set heard) from (StateMsg s) t).replica.held all
unfolding on_message
summary-grows start all t conf set heard from s fits is =
    let more = heard ++ s ∷ [] in
    choice start all t.replica.held (is_usable conf heard from s) (with_heard t conf set more) t
    (cond_both (is_within set (senders more)) (go_on t conf more 0) (go_to t (ExchangeStates conf set more)) (λ u. Grows start t.replica.held u.replica.held all)
    (λ full. go-on-grows conf more 0 start all t (λ done here. fits full here done) is) (λ few. grows-none start t.replica.held t.replica.held all refl is))
    (keeps-none start all t is)

-- an item
item-grows : (start : List Weighted) (all : List Action) (t : Turn) (conf : ℕ) (heard : List Summary) (accepted from : ℕ) (m : Msg) →
    (has (gone heard) t.replica.held.id ≡ false → is_done (progress heard (suc accepted)) ≡ true → FitsCommon (mark_item t m).replica.held heard) → IsOneself start t.replica.held all →
    Grows start t.replica.held (cond (is_next heard accepted from m) (go_on (take_item t heard m) conf heard (suc accepted)) t).replica.held all
item-grows start all t conf heard accepted from m fits is =
    let taken = take_item t heard m in
    let first = keeps-take_item heard m start all t is in
    choice start all t.replica.held (is_next heard accepted from m) (go_on taken conf heard (suc accepted)) t
    (grows-both start t.replica.held taken.replica.held (go_on taken conf heard (suc accepted)).replica.held all first
    (go-on-grows conf heard (suc accepted) start (all ++ first.more) taken (λ done here. fitting done here) first.is))
    (keeps-none start all t is)
  where
    fitting : is_done (progress heard (suc accepted)) ≡ true → has (gone heard) (take_item t heard m).replica.held.id ≡ false → FitsCommon (take_item t heard m).replica.held heard
    fitting done here =
        let stays : has (gone heard) t.replica.held.id ≡ false = ap (has (gone heard)) (sym (even-take_item t heard m).values.id) ∙ here in
        subst (λ (u : Turn). FitsCommon u.replica.held heard) (sym (cond-false (has (gone heard) t.replica.held.id) t (mark_item t m) stays)) (fits stays done)

-- whatever is handed to a member that isn't in its transitional phase
handed-grows : (start : List Weighted) (all : List Action) (state : State) (from : ℕ) (m : Msg) (t : Turn) → t.replica.state ≡ state → (state ≡ TransPrim → ⊥) →
    ((conf : ℕ) (heard : List Summary) → EndsWith state m conf heard → has_all state m ≡ true → has (gone heard) t.replica.held.id ≡ false → is_done (progress heard (done_count state)) ≡ true → FitsCommon (mark_item t m).replica.held heard) →
    IsOneself start t.replica.held all → Grows start t.replica.held (on_message state from m t).replica.held all
unfolding on_message
handed-grows start all RegPrim from m t at apart fits is = message-grows RegPrim from m start all t refl tt is
handed-grows start all TransPrim from m t at apart fits is = absurd (apart refl)
handed-grows start all (ExchangeStates conf set heard) from (StateMsg s) t at apart fits is =
    summary-grows start all t conf set heard from s (λ full here done. fits conf (heard ++ s ∷ []) (refl, refl) full here done) is
handed-grows start all (ExchangeStates conf set heard) from (ActionMsg a) t at apart fits is = keeps-none start all t is
handed-grows start all (ExchangeStates conf set heard) from (GreenItem place a) t at apart fits is = keeps-none start all t is
handed-grows start all (ExchangeStates conf set heard) from (RedItem a) t at apart fits is = keeps-none start all t is
handed-grows start all (ExchangeStates conf set heard) from (Cpc id of_conf) t at apart fits is = keeps-none start all t is
handed-grows start all (ExchangeActions conf heard accepted) from (GreenItem place a) t at apart fits is =
    item-grows start all t conf heard accepted from (GreenItem place a) (λ here done. fits conf heard (refl, refl) refl here done) is
handed-grows start all (ExchangeActions conf heard accepted) from (RedItem a) t at apart fits is =
    item-grows start all t conf heard accepted from (RedItem a) (λ here done. fits conf heard (refl, refl) refl here done) is
handed-grows start all (ExchangeActions conf heard accepted) from (ActionMsg a) t at apart fits is = keeps-none start all t is
handed-grows start all (ExchangeActions conf heard accepted) from (StateMsg s) t at apart fits is = keeps-none start all t is
handed-grows start all (ExchangeActions conf heard accepted) from (Cpc id of_conf) t at apart fits is = keeps-none start all t is
handed-grows start all (Construct conf heard) from m t at apart fits is = message-grows (Construct conf heard) from m start all t refl tt is
handed-grows start all (No conf heard) from m t at apart fits is = message-grows (No conf heard) from m start all t refl tt is
handed-grows start all Un from m t at apart fits is = message-grows Un from m start all t refl tt is
handed-grows start all (NonPrim regular) from m t at apart fits is = message-grows (NonPrim regular) from m start all t refl tt is
handed-grows start all Left from m t at apart fits is = message-grows Left from m start all t refl tt is

-- ---- a parting

parted-outside : (state : State) → is_parted state ≡ true → is_outside state ≡ true
parted-outside TransPrim e = refl
parted-outside (No conf heard) e = refl
parted-outside Un e = refl
parted-outside (NonPrim regular) e = refl
parted-outside Left e = refl
parted-outside RegPrim e = refl
parted-outside (ExchangeStates conf set heard) e = absurd (let clash : false ≡ true = e in cc)
parted-outside (ExchangeActions conf heard accepted) e = absurd (let clash : false ≡ true = e in cc)
parted-outside (Construct conf heard) e = refl

-- the yellow marks fit behind a message too
fits-then : (start : List Weighted) (all : List Action) (state : State) (from : ℕ) (m : Msg) (t : Turn) → t.replica.state ≡ state → is_parted state ≡ true → IsOneself start t.replica.held all → FitsYellow state t.replica.held →
    FitsYellow (on_message state from m t).replica.state (on_message state from m t).replica.held
unfolding on_message
fits-then start all TransPrim from (ActionMsg a) t at parted is fits = as-state (mark_yellow t a) (even-mark_yellow t a).state (yellow-kept-so start all t a is fits).all_yellow where
  as-state : (u : Turn) → u.replica.state ≡ t.replica.state → IsAllYellow u.replica.held → FitsYellow u.replica.state u.replica.held
  as-state u same yellow = subst (λ (s : State). FitsYellow s u.replica.held) (sym (same ∙ at)) yellow
fits-then start all TransPrim from (StateMsg s) t at parted is fits = subst (λ (s : State). FitsYellow s t.replica.held) (sym at) fits
fits-then start all TransPrim from (GreenItem place a) t at parted is fits = subst (λ (s : State). FitsYellow s t.replica.held) (sym at) fits
fits-then start all TransPrim from (RedItem a) t at parted is fits = subst (λ (s : State). FitsYellow s t.replica.held) (sym at) fits
fits-then start all TransPrim from (Cpc id of_conf) t at parted is fits = subst (λ (s : State). FitsYellow s t.replica.held) (sym at) fits
fits-then start all (No conf heard) from (ActionMsg a) t at parted is fits = subst (λ (s : State). FitsYellow s t.replica.held) (sym at) tt
fits-then start all (No conf heard) from (StateMsg s) t at parted is fits = subst (λ (s : State). FitsYellow s t.replica.held) (sym at) tt
fits-then start all (No conf heard) from (GreenItem place a) t at parted is fits = subst (λ (s : State). FitsYellow s t.replica.held) (sym at) tt
fits-then start all (No conf heard) from (RedItem a) t at parted is fits = subst (λ (s : State). FitsYellow s t.replica.held) (sym at) tt
fits-then start all (No conf heard) from (Cpc id of_conf) t at parted is fits =
    let more = with_member heard from in
    one-of (is_announced t.replica.held conf from id of_conf) (no_with t conf more) t
    (one-of (is_within (attempt_set t.replica.held) more) (go_to t Un) (go_to t (No conf more)) tt tt) (subst (λ (s : State). FitsYellow s t.replica.held) (sym at) tt) where
      one-of : (b : Bool) (u v : Turn) → FitsYellow u.replica.state u.replica.held → FitsYellow v.replica.state v.replica.held → FitsYellow (cond b u v).replica.state (cond b u v).replica.held
      one-of true u v one two = one
      one-of false u v one two = two
fits-then start all Un from (ActionMsg a) t at parted is fits =
    let first = keeps-install start all t is in
    (yellow-kept-so start (all ++ first.more) (install t) a first.is (installed-yellow start all t is)).all_yellow
fits-then start all Un from (StateMsg s) t at parted is fits = subst (λ (s : State). FitsYellow s t.replica.held) (sym at) tt
fits-then start all Un from (GreenItem place a) t at parted is fits = subst (λ (s : State). FitsYellow s t.replica.held) (sym at) tt
fits-then start all Un from (RedItem a) t at parted is fits = subst (λ (s : State). FitsYellow s t.replica.held) (sym at) tt
fits-then start all Un from (Cpc id of_conf) t at parted is fits = subst (λ (s : State). FitsYellow s t.replica.held) (sym at) tt
fits-then start all (NonPrim regular) from (ActionMsg a) t at parted is fits = subst (λ (s : State). FitsYellow s (mark_red t a).replica.held) (sym ((even-mark_red t a).state ∙ at)) tt
fits-then start all (NonPrim regular) from (StateMsg s) t at parted is fits = subst (λ (s : State). FitsYellow s t.replica.held) (sym at) tt
fits-then start all (NonPrim regular) from (GreenItem place a) t at parted is fits = subst (λ (s : State). FitsYellow s t.replica.held) (sym at) tt
fits-then start all (NonPrim regular) from (RedItem a) t at parted is fits = subst (λ (s : State). FitsYellow s t.replica.held) (sym at) tt
fits-then start all (NonPrim regular) from (Cpc id of_conf) t at parted is fits = subst (λ (s : State). FitsYellow s t.replica.held) (sym at) tt
fits-then start all Left from (ActionMsg a) t at parted is fits = subst (λ (s : State). FitsYellow s t.replica.held) (sym at) tt
fits-then start all Left from (StateMsg s) t at parted is fits = subst (λ (s : State). FitsYellow s t.replica.held) (sym at) tt
fits-then start all Left from (GreenItem place a) t at parted is fits = subst (λ (s : State). FitsYellow s t.replica.held) (sym at) tt
fits-then start all Left from (RedItem a) t at parted is fits = subst (λ (s : State). FitsYellow s t.replica.held) (sym at) tt
fits-then start all Left from (Cpc id of_conf) t at parted is fits = subst (λ (s : State). FitsYellow s t.replica.held) (sym at) tt
fits-then start all RegPrim from m t at parted is fits = absurd (let clash : false ≡ true = parted in cc)
fits-then start all (ExchangeStates conf set heard) from m t at parted is fits = absurd (let clash : false ≡ true = parted in cc)
fits-then start all (ExchangeActions conf heard accepted) from m t at parted is fits = absurd (let clash : false ≡ true = parted in cc)
fits-then start all (Construct conf heard) from m t at parted is fits = absurd (let clash : false ≡ true = parted in cc)

-- how far a parting has come
pub record Partway (start : List Weighted) (h : Held) (all : List Action) (u : Turn) : Type 0 where
  pub grows : Grows start h u.replica.held all
  pub parted : is_parted u.replica.state ≡ true
  pub fits : FitsYellow u.replica.state u.replica.held

place-on : (start : List Weighted) (h : Held) (all : List Action) (conf : Configuration Msg) (place : ℕ) (t : Turn) → Partway start h all t → Partway start h all (take_all (delivery_at conf place) t)
unfolding delivery_at after_delivery
place-on start h all conf place t way = at (at_place conf.ordered place) where
  at : (o : Option (Sent Msg)) → Partway start h all (take_all (option_map_or (λ s. Message place s.from s.message ∷ []) o []) t)
  at None = way
  at (Some s) =
      let u = on_message t.replica.state s.from s.message t in
      record {
        grows = grows-both start h t.replica.held u.replica.held all way.grows
            (message-grows t.replica.state s.from s.message start (all ++ way.grows.more) t (parted-outside t.replica.state way.parted) way.fits way.grows.is);
        parted = stays-parted t.replica.state s.from s.message t refl way.parted;
        fits = fits-then start (all ++ way.grows.more) t.replica.state s.from s.message t refl way.parted way.grows.is way.fits;
      }

pub places-on : (start : List Weighted) (h : Held) (all : List Action) (conf : Configuration Msg) (places : List ℕ) (t : Turn) → Partway start h all t → Partway start h all (take_all (deliveries_at conf places) t)
places-on start h all conf [] t way = way
places-on start h all conf (place ∷ places) t way =
    subst (Partway start h all) (sym (fold-append after_delivery t (delivery_at conf place) (deliveries_at conf places)))
    (places-on start h all conf places (take_all (delivery_at conf place) t) (place-on start h all conf place t way))

-- the transitional configuration: where all is green, all that is known is yellow
pub way-first : (start : List Weighted) (all : List Action) (state : State) (t : Turn) → t.replica.state ≡ state → IsOneself start t.replica.held all → FitsYellow state t.replica.held →
    (state ≡ RegPrim → IsAllYellow t.replica.held) → Partway start t.replica.held all (on_transitional state t)
unfolding on_transitional
way-first start all RegPrim t at is fits prim = record { grows = grows-none start t.replica.held t.replica.held all refl is; parted = refl; fits = prim refl }
way-first start all (ExchangeStates conf set heard) t at is fits prim = record { grows = grows-none start t.replica.held t.replica.held all refl is; parted = refl; fits = tt }
way-first start all (ExchangeActions conf heard accepted) t at is fits prim = record { grows = grows-none start t.replica.held t.replica.held all refl is; parted = refl; fits = tt }
way-first start all (Construct conf heard) t at is fits prim = record { grows = grows-none start t.replica.held t.replica.held all refl is; parted = refl; fits = tt }
way-first start all (NonPrim regular) t at is fits prim = record { grows = grows-none start t.replica.held t.replica.held all refl is; parted = refl; fits = tt }
way-first start all TransPrim t at is fits prim = record { grows = keeps-none start all t is; parted = ap is_parted at; fits = subst (λ (s : State). FitsYellow s t.replica.held) (sym at) fits }
way-first start all (No conf heard) t at is fits prim = record { grows = keeps-none start all t is; parted = ap is_parted at; fits = subst (λ (s : State). FitsYellow s t.replica.held) (sym at) tt }
way-first start all Un t at is fits prim = record { grows = keeps-none start all t is; parted = ap is_parted at; fits = subst (λ (s : State). FitsYellow s t.replica.held) (sym at) tt }
way-first start all Left t at is fits prim = record { grows = keeps-none start all t is; parted = ap is_parted at; fits = subst (λ (s : State). FitsYellow s t.replica.held) (sym at) tt }

-- ---- what is known of a member's state

-- yellow marks fit where a member is in its transitional phase, and will fit where it is in its regular one
pub yellow-fits : (c : Chronicle) (start : List Weighted) (h : Held) (all : List Action) (phase : Phase) (state : State) → IsOneself start h all → HasModeData c h phase state →
    FitsYellow state h × (state ≡ RegPrim → IsAllYellow h)
yellow-fits c start h all phase RegPrim is data_of = (tt, (λ e. ap (cut_behind h.queue.green_cut) data_of.2 ∙ sym (is.made_of.red_cut ∙ ap (λ xs. cut_behind h.queue.green_cut (names_of xs)) data_of.1)))
yellow-fits c start h all phase TransPrim is data_of = (data_of.1, (λ e. absurd (let clash : is_trans TransPrim ≡ is_trans RegPrim = ap is_trans e in let same : true ≡ false = clash in cc)))
yellow-fits c start h all phase (ExchangeStates conf set heard) is data_of = (tt, (λ e. absurd (let same : false ≡ true = ap is_reg e in cc)))
yellow-fits c start h all phase (ExchangeActions conf heard accepted) is data_of = (tt, (λ e. absurd (let same : false ≡ true = ap is_reg e in cc)))
yellow-fits c start h all phase (Construct conf heard) is data_of = (tt, (λ e. absurd (let same : false ≡ true = ap is_reg e in cc)))
yellow-fits c start h all phase (No conf heard) is data_of = (tt, (λ e. absurd (let same : false ≡ true = ap is_reg e in cc)))
yellow-fits c start h all phase Un is data_of = (tt, (λ e. absurd (let same : false ≡ true = ap is_reg e in cc)))
yellow-fits c start h all phase (NonPrim regular) is data_of = (tt, (λ e. absurd (let same : false ≡ true = ap is_reg e in cc)))
yellow-fits c start h all phase Left is data_of = (tt, (λ e. absurd (let same : false ≡ true = ap is_reg e in cc)))

pub never-trans : (set : List ℕ) (conf : ℕ) (t : Talk) (me : ℕ) → is_trans (state_in set conf t me) ≡ false
never-trans set conf t me = one (is_full set t) (is_through t) (has (gone t.heard) me) (not (decides t.heard)) (is_announced_in t) where
  one : (b d g n a : Bool) → is_trans (cond (not b) (ExchangeStates conf set t.heard) (cond (not d) (ExchangeActions conf t.heard t.accepted)
      (cond g Left (cond n (NonPrim true) (cond a RegPrim (Construct conf t.announced)))))) ≡ false
  one false d g n a = refl
  one true false g n a = refl
  one true true true n a = refl
  one true true false true a = refl
  one true true false false true = refl
  one true true false false false = refl

-- ---- each small step

next-grows : (c : Chronicle) (p : ℕ) (i : Invariant c) (n : HandsNow c p) → EndFits c p → IsOneself c.start n.replica.held (greens_of c p) →
    Grows c.start n.replica.held (take_next c.world.group p (begin n.replica)).replica.held (greens_of c p)
unfolding delivery_at after_delivery
next-grows c p i n fits is =
    subst (λ o. Grows c.start n.replica.held (take_all (option_map_or (λ (s : Sent Msg). Message (suc (delivered_to c.world.group p)) s.from s.message ∷ []) o []) (begin n.replica)).replica.held (greens_of c p))
    (sym (found-now c p i n))
    (handed-grows c.start (greens_of c p) n.replica.state n.next.from n.next.message (begin n.replica) refl
    (λ trans. (let clash : true ≡ false = sym (ap is_trans trans) ∙ ap is_trans n.state ∙ never-trans (members_in c n.conf) n.conf (handed_talk c n.conf p) p in cc))
    (λ conf heard ends full here done. fits n conf heard ends full here done) is)

leave-grows : (c : Chronicle) (p : ℕ) (i : Invariant c) (set places : List ℕ) (r : Replica) → replica_of c.world p ≡ Some r → IsOneself c.start r.held (greens_of c p) →
    Grows c.start r.held (take_parting c.world.group p set places (begin r)).replica.held (greens_of c p)
unfolding after_delivery
leave-grows c p i set places r up is =
    let mode = subst (λ (o : Option Replica). IfSome o (IsModeData c p)) up (i.replica.mode_data p) in
    let yellow = yellow-fits c c.start r.held (greens_of c p) (phase_of c.world.group p) r.state is mode.data_of in
    (places-on c.start r.held (greens_of c p) (home c.world.group p) places (on_transitional r.state (begin r))
    (way-first c.start (greens_of c p) r.state (begin r) refl is yellow.0 yellow.1)).grows

oneself-closed : (start : List Weighted) → IsClosed (IsOneself start)
oneself-closed start = record {
  whitened = λ h all is. white-oneself start h all is;
  stored = λ h all is. stored-oneself start h all is;
  recovers = λ h all is. recovered-oneself start h all is;
  joins = λ p h all is. joined-oneself start h all p is;
}

fresh-oneself : (set : List Weighted) (p : ℕ) → IsOneself set (fresh_held p set) []
fresh-oneself set p = record {
  made_of = record { white = omega arith; kept = refl; green_cut = refl; red_cut = refl; db = refl; members = refl };
  contiguous = record { greens = refl; reds = refl; by_name = refl; own = refl; mine = refl };
  yellow_closed = record { next = refl; known = refl };
}

started-core : (c : Chronicle) (i : Invariant c) (set : List Weighted) → may_make c (Starts set) ≡ true → AreOneself (small_step c (Starts set))
unfolding small_step may_make
started-core c i set may =
    let empty = nothing-before c i.net.hosted (and_parts (is_nil c.world.nodes) (is_set (ids set)) may).0 in
    cores-kept (IsOneself set) c (Starts set) (ready-of c i.net.hosted i.replica.disk_behind) may (oneself-closed set) (λ p. fresh-oneself set p)
    (subst (λ (x : Chronicle). OfCores x (IsOneself set)) (sym empty) (record { memory = λ p. tt; disk = λ p. tt; snapshot = λ joiner. tt }))

-- what is left to be known of a step
abbrev pub Fits : Chronicle → Small → Type 0
Fits c (Hands p) = EndFits c p
Fits c _ = Unit {0}

-- What each core is made of, behind each small step.
pub cores_core-kept : (c : Chronicle) (s : Small) → Invariant c → may_make c s ≡ true → Fits c s → OfCores (small_step c s) (IsCore (small_step c s))
cores_core-kept c s i may fits = cores-of (small_step c s) (at s may fits) where
  before : AreOneself c
  before = oneself-of c i.replica.cores

  held : (p : ℕ) (r : Replica) (disk : Disk) → node_of c.world p ≡ Some (record { id = p; life = Up r disk }) → IsOneself c.start r.held (greens_of c p)
  held p r disk node = held-known (IsOneself c.start) c p r (ap (λ (o : Option Node). option_and_then (λ s. running s.life) o) node) before

  kept : (s : Small) → may_make c s ≡ true → (small_step c s).start ≡ c.start → StepKeeps c s (IsOneself c.start) → AreOneself (small_step c s)
  kept s may start step =
      subst (λ st. OfCores (small_step c s) (IsOneself st)) (sym start)
      (cores-kept (IsOneself c.start) c s (ready-of c i.net.hosted i.replica.disk_behind) may (oneself-closed c.start) step before)

  at : (s : Small) → may_make c s ≡ true → Fits c s → AreOneself (small_step c s)
  at (Starts set) may fits = started-core c i set may
  at (Makes set) may fits = kept (Makes set) may (start-kept c (Makes set) tt) tt
  at (Enters p) may fits = kept (Enters p) may (start-kept c (Enters p) tt) (λ r disk node. (let g = c.world.group in
      grown-now c.start r (take_newest g (begin r)).replica (greens_of c p) (keeps-take_regular (newest_conf g) (configuration g (newest_conf g)).members c.start (greens_of c p) (begin r) (held p r disk node))))
  at (Orders p) may fits = kept (Orders p) may (start-kept c (Orders p) tt) tt
  at (Receives p place) may fits = kept (Receives p place) may (start-kept c (Receives p place) tt) tt
  at (Hands p) may fits = kept (Hands p) may (start-kept c (Hands p) tt) (λ r disk node. (let n = hands-now c p i may in
      subst (λ (r : Replica). IsOneself c.start (take_next c.world.group p (begin r)).replica.held (greens_of c p ++ newly_green r (take_next c.world.group p (begin r)).replica))
      (sym (same-replica c p r n.replica disk node (running-now c p i n)))
      (grown-now c.start n.replica (take_next c.world.group p (begin n.replica)).replica (greens_of c p) (next-grows c p i n fits (held p n.replica n.disk n.node)))))
  at (Leaves p set own places) may fits = kept (Leaves p set own places) may (start-kept c (Leaves p set own places) tt) (λ r disk node.
      grown-now c.start r (take_parting c.world.group p set places (begin r)).replica (greens_of c p)
      (leave-grows c p i set places r (ap (λ (o : Option Node). option_and_then (λ s. running s.life) o) node) (held p r disk node)))
  at (Asks p kind) may fits = kept (Asks p kind) may (start-kept c (Asks p kind) tt) (λ r disk node.
      grown-now c.start r (take_request kind (begin r)).replica (greens_of c p) (keeps-request kind c.start (greens_of c p) (begin r) (held p r disk node)))
  at (Settles p) may fits = kept (Settles p) may (start-kept c (Settles p) tt) (λ r disk node.
      grown-now c.start r (settle (begin r)).replica (greens_of c p) (keeps-settle c.start (greens_of c p) (begin r) (held p r disk node)))
  at (Commits p) may fits = kept (Commits p) may (start-kept c (Commits p) tt) tt
  at (Crashes p) may fits = kept (Crashes p) may (start-kept c (Crashes p) tt) tt
  at (Recovers p) may fits = kept (Recovers p) may (start-kept c (Recovers p) tt) tt
  at (Copies p joiner) may fits = kept (Copies p joiner) may (start-kept c (Copies p joiner) tt) tt
  at (Joins joiner) may fits = kept (Joins joiner) may (start-kept c (Joins joiner) tt) tt

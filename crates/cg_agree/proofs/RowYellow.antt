-- Who leaves a primary component is handed the row of places that it has received, and the actions at these places come to its yellow names,
-- in their order and before all others.
use Rattle.std.proofs.Common.{◌≡◌, ℕ, zero, suc, ◌+◌, ◌-◌, ◌≤◌, ◌<◌, true, false, List, [], ◌∷◌, ◌++◌, length, take, drop, Option, Some, None, IfSome, refl, sym, ap, ap₂, ◌∙◌, subst, arith, append-nil, cond}
use Rattle.std.specs.Prelude.{slice_get}
use Rattle.std.specs.Option.{option_map_or}
use Rattle.std.specs.List.{cons_option}
use Rattle.std.proofs.lemmas.List.{append_assoc, map-append}
use Rattle.std.proofs.lemmas.List.Sums.{fold-append}
use Rattle.cg_base.specs.declared.action_id.ActionId.{ActionId}
use Rattle.cg_base.specs.declared.weighted.Weighted.{Weighted}
use Rattle.cg_base.specs.Cuts.{index_in, raise}
use Rattle.cg_base.specs.Lists.{count_up, above_up_to}
use Rattle.cg_action.specs.declared.action.Action.{Action}
use Rattle.cg_queue.specs.Queue.{names_of, marked_yellow}
use Rattle.cg_wire.specs.declared.message.Msg.{Msg}
use Rattle.cg_wire.specs.declared.message.Msg.TheVariants.{Action as ActionMsg, State as StateMsg, GreenItem, RedItem, Cpc}
use Rattle.cg_group.specs.declared.delivery.Delivery.TheVariants.{Message}
use Rattle.cg_group.specs.declared.phase.Phase.{Phase}
use Rattle.cg_group.specs.declared.phase.Phase.TheVariants.{Regular}
use Rattle.cg_group.specs.Events.{delivery_at, deliveries_at}
use Rattle.cg_group.specs.State.{Configuration, Sent, phase_of, regular_in, configuration, delivered_to, home}
use Rattle.cg_client.specs.Replica.{State, RegPrim, TransPrim, Replica, created}
use Rattle.cg_client.specs.Requests.{is_creating}
use Rattle.cg_client.specs.Turn.{Turn, begin, go_to}
use Rattle.cg_client.specs.Marks.{is_unmade, marked, mark_yellow}
use Rattle.cg_states.specs.ReplicaStep.{on_message, on_transitional, after_delivery as take_one}
use Rattle.cg_model.specs.World.{replica_of}
use Rattle.cg_model.specs.Chronicle.{Chronicle}
use Rattle.cg_model.specs.Fronts.{Front}
use Rattle.cg_model.specs.Looks.{greens_of, conf_of, members_in, ordered_in}
use Rattle.cg_model.specs.Talk.{Talk, talk_of, hears_from, is_ended, act_in, action_in, state_in}
use Rattle.cg_model.specs.FactsNet.{IsPhase}
use Rattle.cg_model.specs.FactsReplica.{IsModeData, HasModeData, IsCore}
use Rattle.cg_model.specs.FactsTalk.{handed_talk, count_behind, AreNumbered, AreNumberedAt, IsStateIn}
use Rattle.cg_model.specs.Facts.{Invariant}
use Rattle.cg_model.specs.Small.{take_all, take_parting}
use Rattle.cg_agree.proofs.ActsNext.{talk-next, ended-next, heard-next, numbered-next}
use Rattle.cg_agree.proofs.DeadEvidenceKept.{running-core}
use Rattle.cg_agree_lemmas.specs.DiskAhead.{left-own, made-by}
use Rattle.cg_agree_lemmas.specs.FrontFacts.{Front-refl, split_by_Front}
use Rattle.cg_agree_lemmas.specs.HandMarks.{one_of, raised-next, counted-next, made-so}
use Rattle.cg_agree_lemmas.specs.HandsKept.{some-at}
use Rattle.cg_agree_lemmas.specs.HeldInstall.{IsAllYellow, with_yellow_mark, yellow-oneself, yellow-placed}
use Rattle.cg_agree_lemmas.specs.HeldMarks.{IsOneself, rising-red}
use Rattle.cg_agree.proofs.LeaverOutside.{act_at, acts_at}
use Rattle.cg_agree.proofs.LeaverStep.{RowIsYellow}
use Rattle.cg_agree_lemmas.specs.MessageThere.{message-made}
use Rattle.cg_disk_records.specs.Holds.{cut_behind}
use Rattle.cg_agree_lemmas.specs.StatesSaid.{creating-ended, count-quiet}
use Rattle.cg_agree_lemmas.specs.YellowGrows.{places-keep}
use Rattle.cg_disk_records.specs.RunLaws.{cut_behind-append}

-- ---- places one behind the other

deliveries-append : (conf : Configuration Msg) (xs ys : List ℕ) (t : Turn) → take_all (deliveries_at conf (xs ++ ys)) t ≡ take_all (deliveries_at conf ys) (take_all (deliveries_at conf xs) t)
deliveries-append conf [] ys t = refl
deliveries-append conf (x ∷ xs) ys t =
    fold-append take_one t (delivery_at conf x) (deliveries_at conf (xs ++ ys))
    ∙ deliveries-append conf xs ys (take_all (delivery_at conf x) t)
    ∙ ap (take_all (deliveries_at conf ys)) (sym (fold-append take_one t (delivery_at conf x) (deliveries_at conf xs)))

-- ---- one yellow mark

-- what the next action of its creator makes of the turn, where all that is known and not green is yellow
pub marks-yellow : (start : List Weighted) (all : List Action) (t : Turn) (a : Action) (is : IsOneself start t.replica.held all) (yellow : IsAllYellow t.replica.held) →
    is_unmade t.replica.held a ≡ false → a.id.index ≡ suc (index_in t.replica.held.queue.red_cut a.id.creator) →
    (mark_yellow t a).replica ≡ record { held = with_yellow_mark start t.replica.held all is yellow a; state = t.replica.state }
unfolding mark_yellow
marks-yellow start all t a is yellow made next =
    let h = t.replica.held in
    ap (λ b. (cond b t (marked t a (marked_yellow h.queue a))).replica) made ∙ ap (λ m. (marked t a m).replica) (yellow-placed start h all is yellow a next)

-- ---- the row

module _ (c : Chronicle) (i : Invariant c) (p conf : ℕ) (r : Replica) (up : replica_of c.world p ≡ Some r) (named : r.held.id ≡ p) where
  abbrev list : List (Sent Msg)
  list = ordered_in c conf

  -- handed so many places, the replica has these yellow names, and knows of each creator what was said up to there
  record HasRow (k : ℕ) (ys : List ActionId) (t : Turn) : Type 0 where
    state : t.replica.state ≡ TransPrim
    ended : is_ended (members_in c conf) (talk_of (take k list)) ≡ true
    is : IsOneself c.start t.replica.held (greens_of c p)
    all_yellow : IsAllYellow t.replica.held
    id : t.replica.held.id ≡ r.held.id
    created : created t.replica.held ≡ created r.held
    red : (creator : ℕ) → index_in t.replica.held.queue.red_cut creator ≡ count_behind (talk_of (take k list)) creator
    yellow : t.replica.held.queue.yellow ≡ ys

  -- its own actions it has made
  made-row : (k : ℕ) (s : Sent Msg) (a : Action) (ys : List ActionId) (t : Turn) → HasRow k ys t → slice_get list k ≡ Some s → s.message ≡ ActionMsg a → is_unmade t.replica.held a ≡ false
  made-row k s a ys t has next is =
      let made = message-made c conf k p s a r.held i.replica.made_once next (ap action_in is) (running-core c p r up) named in
      made-so t.replica.held a (λ own. subst (λ n. a.id.index ≤ n) (sym has.created) (made-by r.held a made (own ∙ has.id)))

  -- an action more
  act-row : (k : ℕ) (s : Sent Msg) (a : Action) (ys : List ActionId) (t : Turn) → HasRow k ys t → slice_get list k ≡ Some s → s.message ≡ ActionMsg a → HasRow (suc k) (ys ++ a.id ∷ []) (mark_yellow t a)
  act-row k s a ys t has next is =
      let h = t.replica.held in
      let made = made-row k s a ys t has next is in
      let last : a.id.index ≡ suc (index_in h.queue.red_cut a.id.creator) = numbered-next c conf k s i.talk next a is ∙ ap suc (sym (has.red a.id.creator)) in
      let rising = rising-red c.start h (greens_of c p) has.is in
      let now = marks-yellow c.start (greens_of c p) t a has.is has.all_yellow made last in
      let left = left-own h.own h.queue.red_cut h.id h.own a.id rising has.is.contiguous.own has.is.contiguous.mine last (made-by h a made)
      (sym (ap (λ n. drop n h.own) (no-less (length h.own))), (let same : length h.own ≤ length h.own = omega arith in same)) in
      let behind = talk-next c conf k s i.talk next in
      record {
        state = ap (λ (x : Replica). x.state) now ∙ has.state;
        ended = ap (is_ended (members_in c conf)) (talk-next c conf k s i.talk next) ∙ ended-next c conf k s i.talk next has.ended;
        is = subst (λ (x : Replica). IsOneself c.start x.held (greens_of c p)) (sym now) (yellow-oneself c.start h (greens_of c p) has.is has.all_yellow a last);
        all_yellow = subst (λ (x : Replica). IsAllYellow x.held) (sym now) (cut_behind-append h.queue.green_cut h.queue.yellow (a.id ∷ []) ∙ ap (λ cut. raise cut a.id) has.all_yellow);
        id = ap (λ (x : Replica). x.held.id) now ∙ has.id;
        created = ap (λ (x : Replica). created x.held) now ∙ left.made ∙ has.created;
        red = λ creator. ap (λ (x : Replica). index_in x.held.queue.red_cut creator) now ∙ raised-next h.queue.red_cut a rising last creator
            ∙ ap (λ n. n + one_of a creator) (has.red creator) ∙ sym (counted-next (talk_of (take k list)) a creator)
            ∙ ap (λ m. count_behind (hears_from (talk_of (take k list)) s.from m) creator) (sym is) ∙ ap (λ (x : Talk). count_behind x creator) (sym behind);
        yellow = ap (λ (x : Replica). x.held.queue.yellow) now ∙ ap (λ xs. xs ++ a.id ∷ []) has.yellow;
      } where
        no-less : (n : ℕ) → n - n ≡ 0
        no-less n = omega arith

  -- a message without an action
  quiet-row : (k : ℕ) (s : Sent Msg) (ys : List ActionId) (t : Turn) → HasRow k ys t → slice_get list k ≡ Some s → act_in s.message ≡ None → HasRow (suc k) (ys ++ []) t
  quiet-row k s ys t has next none = record {
    state = has.state;
    ended = ap (is_ended (members_in c conf)) (talk-next c conf k s i.talk next) ∙ ended-next c conf k s i.talk next has.ended;
    is = has.is;
    all_yellow = has.all_yellow;
    id = has.id;
    created = has.created;
    red = λ creator. has.red creator ∙ sym (count-quiet (talk_of (take k list)) s.from s.message none (heard-next c conf k s i.talk next has.ended) creator)
        ∙ ap (λ (x : Talk). count_behind x creator) (sym (talk-next c conf k s i.talk next));
    yellow = has.yellow ∙ sym (append-nil ys);
  }

  message-row : (k : ℕ) (s : Sent Msg) (ys : List ActionId) (t : Turn) → HasRow k ys t → slice_get list k ≡ Some s → (m : Msg) → s.message ≡ m →
      HasRow (suc k) (ys ++ names_of (cons_option (act_in m) [])) (on_message TransPrim s.from m t)
  unfolding on_message
  message-row k s ys t has next (ActionMsg a) is = act-row k s a ys t has next is
  message-row k s ys t has next (StateMsg x) is = quiet-row k s ys t has next (ap act_in is)
  message-row k s ys t has next (GreenItem place a) is = quiet-row k s ys t has next (ap act_in is)
  message-row k s ys t has next (RedItem a) is = quiet-row k s ys t has next (ap act_in is)
  message-row k s ys t has next (Cpc n at) is = quiet-row k s ys t has next (ap act_in is)

  place-row : (k : ℕ) (ys : List ActionId) (t : Turn) → HasRow k ys t → k < length list → HasRow (suc k) (ys ++ names_of (act_at list (suc k))) (take_all (delivery_at (conf_of c conf) (suc k)) t)
  unfolding delivery_at take_one
  place-row k ys t has lt =
      let next = some-at list k lt in
      let s = next.0 in
      subst (λ (o : Option (Sent Msg)). HasRow (suc k) (ys ++ names_of (option_map_or (λ s. cons_option (act_in s.message) []) o [])) (take_all (option_map_or (λ s. Message (suc k) s.from s.message ∷ []) o []) t)) (sym next.1)
      (subst (λ (x : State). HasRow (suc k) (ys ++ names_of (cons_option (act_in s.message) [])) (on_message x s.from s.message t)) (sym has.state) (message-row k s ys t has next.1 s.message refl))

  -- so many places one behind the other
  rows-yellow : (n k : ℕ) (ys : List ActionId) (t : Turn) → HasRow k ys t → k + n ≤ length list →
      (let u = take_all (deliveries_at (conf_of c conf) (count_up (suc k) n)) t in
      (u.replica.state ≡ TransPrim) × (u.replica.held.queue.yellow ≡ ys ++ names_of (acts_at list (count_up (suc k) n))))
  rows-yellow zero k ys t has le = (has.state, has.yellow ∙ sym (append-nil ys))
  rows-yellow (suc n) k ys t has le =
      let one = names_of (act_at list (suc k)) in
      let more = acts_at list (count_up (suc (suc k)) n) in
      let u = take_all (delivery_at (conf_of c conf) (suc k)) t in
      let rest = rows-yellow n (suc k) (ys ++ one) u (place-row k ys t has (omega arith)) (omega arith) in
      let whole = fold-append take_one t (delivery_at (conf_of c conf) (suc k)) (deliveries_at (conf_of c conf) (count_up (suc (suc k)) n)) in (
        ap (λ (x : Turn). x.replica.state) whole ∙ rest.0,
        ap (λ (x : Turn). x.replica.held.queue.yellow) whole ∙ rest.1 ∙ append_assoc ys one (names_of more)
            ∙ ap (λ xs. ys ++ xs) (sym (map-append (λ (a : Action). a.id) (act_at list (suc k)) more)),
      )

-- ---- who leaves

module _ (c : Chronicle) (i : Invariant c) (p : ℕ) (r : Replica) (conf : ℕ) (up : replica_of c.world p ≡ Some r) (phase : phase_of c.world.group p ≡ Regular conf) (state : r.state ≡ RegPrim) where
  abbrev low : ℕ
  low = delivered_to c.world.group p

  mode : IsModeData c p r
  mode = subst (λ (o : Option Replica). IfSome o (IsModeData c p)) up (i.replica.mode_data p)

  data_of : HasModeData c r.held (Regular conf) RegPrim
  data_of = subst (λ (s : State). HasModeData c r.held (Regular conf) s) state (subst (λ (x : Phase). HasModeData c r.held x r.state) phase mode.data_of)

  core : IsCore c r.held (greens_of c p)
  core = subst (λ (o : Option Replica). IfSome o (λ r. IsCore c r.held (greens_of c p))) up (i.replica.cores.memory p)

  numbers : AreNumbered c conf p r.held RegPrim
  numbers =
      subst (AreNumbered c conf p r.held) state
      (subst (λ (x : Phase). AreNumberedAt c p x r) phase (subst (λ (o : Option Replica). IfSome o (AreNumberedAt c p (phase_of c.world.group p))) up (i.talk.acts_numbered.handed p)))

  is-state : r.state ≡ state_in (members_in c conf) conf (handed_talk c conf p) p
  is-state = subst (λ (x : Phase). IsStateIn c p x r) phase (subst (λ (o : Option Replica). IfSome o (IsStateIn c p (phase_of c.world.group p))) up (i.talk.mode_fits p))

  within : low ≤ length (ordered_in c conf)
  within = (subst (IsPhase c p low) phase (i.net.phase_sound.phase p)).1

  -- all that is known is green
  green-red : r.held.queue.green_cut ≡ r.held.queue.red_cut
  green-red = sym (core.made_of.red_cut ∙ ap (λ xs. cut_behind r.held.queue.green_cut (names_of xs)) data_of.1)

  first-row : HasRow c i p conf r up mode.id low [] (go_to (begin r) TransPrim)
  first-row = record {
    state = refl;
    ended = creating-ended (members_in c conf) conf (handed_talk c conf p) p (ap is_creating (sym is-state ∙ state));
    is = record { made_of = core.made_of; contiguous = core.contiguous; yellow_closed = core.yellow_closed };
    all_yellow = ap (cut_behind r.held.queue.green_cut) data_of.2 ∙ green-red;
    id = refl;
    created = refl;
    red = λ creator. ap (λ cut. index_in cut creator) (sym green-red) ∙ numbers.0 creator;
    yellow = data_of.2;
  }

-- The yellow names of who leaves a primary component begin with those of the row.
pub row-is-yellow : (c : Chronicle) (p : ℕ) (set places : List ℕ) → Invariant c → RowIsYellow c p set places
unfolding take_one on_transitional
row-is-yellow c p set places i = λ r conf last up phase state begins inside. (
    let low = delivered_to c.world.group p in
    let row = above_up_to low last in
    let there = conf_of c conf in
    let t = go_to (begin r) TransPrim in
    let le = within c i p r conf up phase state in
    let all = rows-yellow c i p conf r up (mode c i p r conf up phase state).id (last - low) low [] t (first-row c i p r conf up phase state) (omega arith) in
    let u = take_all (deliveries_at there row) t in
    let is_home : home c.world.group p ≡ there = ap (λ x. configuration c.world.group (regular_in x)) phase in
    let turn : take_parting c.world.group p set places (begin r) ≡ take_all (deliveries_at there (drop (length row) places)) u =
    ap (λ (s : State). take_all (deliveries_at (home c.world.group p) places) (on_transitional s (begin r))) state
    ∙ ap₂ (λ (x : Configuration Msg) ys. take_all (deliveries_at x ys) t) is_home (split_by_Front row places begins)
    ∙ deliveries-append there row (drop (length row) places) t in
    let kept = places-keep u.replica.held.queue.yellow there (drop (length row) places) u (all.0, Front-refl u.replica.held.queue.yellow) in
    subst (λ (x : Turn). Front (names_of (acts_at (ordered_in c conf) row)) x.replica.held.queue.yellow) (sym turn)
    (subst (λ xs. Front xs (take_all (deliveries_at there (drop (length row) places)) u).replica.held.queue.yellow) all.1 kept.1))

-- What members hold in exchanges through each small step, but for the member to whom a place is handed.
use Rattle.std.proofs.Common.{◌⊎◌, ◌≡◌, ℕ, Bool, true, false, cond, not, ◌&&◌, List, [], ◌∷◌, ◌++◌, take, fold, Option, Some, None, IfSome, is_some, refl, sym, ap, ap₂, ◌∙◌, subst, inl, inr, eqb-true, eq-eqb, append-nil, option_map, option_and_then}
use Rattle.std.specs.Prelude.{suc, ◌==◌, is_none}
use Rattle.std.specs.Option.{option_map_or}
use Rattle.std.proofs.lemmas.Bool.{cases_Bool, cond-true, cond-false, and_parts, and_from, eqb-false, ne_eqb}
use Rattle.cg_base.specs.declared.weighted.Weighted.{Weighted}
use Rattle.cg_base.specs.Text.{is_nil}
use Rattle.cg_base.specs.Weights.{ids}
use Rattle.cg_action.specs.declared.action.Kind.{Kind}
use Rattle.cg_wire.specs.declared.message.Msg.{Msg}
use Rattle.cg_group.specs.declared.phase.Phase.{Phase}
use Rattle.cg_group.specs.declared.phase.Phase.TheVariants.{Down as DownPhase, Alone, Regular, Transitional}
use Rattle.cg_group.specs.State.{GroupState, Configuration, set_configuration, standing_of, phase_of, delivered_to, regular_in, is_up}
use Rattle.cg_group.specs.Events.{with_receipt}
use Rattle.cg_client.specs.Replica.{State, RegPrim, TransPrim, ExchangeStates, ExchangeActions, Construct, No, Un, NonPrim, Left, Replica}
use Rattle.cg_client.specs.Turn.{Turn, begin}
use Rattle.cg_client.specs.Requests.{settle, is_creating, create, create_kept, empty_buffer, request_in, request}
use Rattle.cg_client.specs.Summary.{summary_of}
use Rattle.cg_disk_records.specs.Stored.{stored_of, whiten}
use Rattle.cg_disk_records.specs.Crash.{Disk, new_disk, at_rest, recovered, disk_recovered}
use Rattle.cg_model.specs.World.{NodeState, Up, Down, Node, running, TransferState, World, node_of, replica_of, has_begun, is_left}
use Rattle.cg_model.specs.Step.{begin_replica, joiner_replica}
use Rattle.cg_model.specs.Chronicle.{Past, Told, Chronicle, no_chronicle}
use Rattle.cg_model.specs.Fronts.{IsSomeWith}
use Rattle.cg_model.specs.Looks.{conf_of, past_of, greens_of, told_in, is_regular_at, is_regular_in, copied_for}
use Rattle.cg_model.specs.Talk.{talk_of}
use Rattle.cg_model.specs.FactsReplica.{IsModeData}
use Rattle.cg_model.specs.FactsExchange.{IsUnmoved, IsInExchange, ExchangeProgress}
use Rattle.cg_model.specs.Facts.{Invariant}
use Rattle.cg_model.specs.Small.{Small, Starts, Makes, Enters, Orders, Receives, Hands, Leaves, Asks, Settles, Commits, Crashes, Recovers, Copies, Joins, new_past, written, struck, newest_conf, turning_as, turning, take_newest, take_next, take_parting, take_request, coming, handed_next, leaving, with_group, commit_as, crash_as, recover_as, copy_as, join_with, start, small_step}
use Rattle.cg_model.specs.Smalls.{may_make, is_running, is_set}
use Rattle.cg_agree.proofs.BegunKept.{nothing-before}
use Rattle.cg_agree_lemmas.specs.ChronicleFacts.{greens_of-other, past-begun}
use Rattle.cg_agree_lemmas.specs.CoresKept.{greens-turn, past-here, past-there}
use Rattle.cg_agree_lemmas.specs.EntersTurn.{told-newest}
use Rattle.cg_agree_lemmas.specs.EntryGreens.{entry-greens, nothing-new}
use Rattle.cg_agree_lemmas.specs.ExchangeStill.{ProgressAt, ToldStays, StaysAs, HaveNames, progress-still, OneMoves, one-kept, all-kept}
use Rattle.cg_agree_lemmas.specs.GroupKept.{leaving-regular}
use Rattle.cg_agree_lemmas.specs.GroupSound.{phase-made, same-where_member, member-of}
use Rattle.cg_agree_lemmas.specs.HandsKept.{hosted}
use Rattle.cg_agree_lemmas.specs.HandsNow.{hands-regular}
use Rattle.cg_agree_lemmas.specs.ModeHeld.{SameLists, lists-settle, lists-request}
use Rattle.cg_agree_lemmas.specs.NextThere.{orders-now, receives-now}
use Rattle.cg_agree_lemmas.specs.OneStands.{stands-refl, stands-up, stands-down}
use Rattle.cg_agree_lemmas.specs.OneSteps.{turns-step, hands-step, leaves-step, enters-step, may-join, node-there}
use Rattle.cg_agree_lemmas.specs.OneselfWorld.{HavePasts}
use Rattle.cg_agree_lemmas.specs.OrdersTalk.{handed-same}
use Rattle.cg_agree_lemmas.specs.OrdersWorld.{ordered-step, step-is, behind}
use Rattle.cg_agree.proofs.PastKept.{EntersNow, enters-now, entry_turn, entry_told, told_in-enters}
use Rattle.cg_agree_lemmas.specs.RecordKept.{turn-is}
use Rattle.cg_agree_lemmas.specs.SmallTalk.{receive-is, receive-same}
use Rattle.cg_agree.proofs.TalkAlone.{replica-set}
use Rattle.cg_agree.proofs.TalkQuiet.{replica-turning}
use Rattle.cg_agree_lemmas.specs.ToldKept.{told-same, told_in-same}
use Rattle.cg_agree_lemmas.specs.TurnValues.{SameValues, even-settle, even-request}
use Rattle.cg_agree_lemmas.specs.Looking.{greens-in}

-- ---- what a part of a turn leaves

greens-create : (t : Turn) (kind : Kind) → (create t kind).replica.held.queue.greens ≡ t.replica.held.queue.greens
unfolding create
greens-create t kind = refl

greens-creates : (list : List Kind) (t : Turn) → (fold create t list).replica.held.queue.greens ≡ t.replica.held.queue.greens
greens-creates [] t = refl
greens-creates (kind ∷ list) t = greens-creates list (create t kind) ∙ greens-create t kind

pub greens-settle : (t : Turn) → (settle t).replica.held.queue.greens ≡ t.replica.held.queue.greens
unfolding create_kept
greens-settle t = at (is_creating t.replica.state) where
  at : (b : Bool) → (cond b (create_kept t) t).replica.held.queue.greens ≡ t.replica.held.queue.greens
  at true = greens-creates t.replica.held.buffered (empty_buffer t)
  at false = refl

pub greens-request : (t : Turn) (kind : Kind) → (request t kind).replica.held.queue.greens ≡ t.replica.held.queue.greens
greens-request t kind = at t.replica.state where
  at : (state : State) → (request_in state t kind).replica.held.queue.greens ≡ t.replica.held.queue.greens
  at RegPrim = greens-create t kind
  at (NonPrim true) = greens-create t kind
  at (NonPrim false) = refl
  at Left = refl
  at TransPrim = refl
  at (ExchangeStates conf set heard) = refl
  at (ExchangeActions conf heard n) = refl
  at (Construct conf heard) = refl
  at (No conf heard) = refl
  at Un = refl

-- ---- what a turn leaves of the others, and makes of its replica

pub greens-turning : (c : Chronicle) (p : ℕ) (part : Turn → Turn) (q : ℕ) → (q == p) ≡ false → greens_of (turning c p part) q ≡ greens_of c q
greens-turning c p part q other = at (node_of c.world p) where
  life : (l : NodeState) → greens_of (turning_as c p part l) q ≡ greens_of c q
  life (Up r disk) = greens_of-other c p r disk (part (begin r)) q (eqb-false q p other)
  life (Down disk green) = refl

  at : (o : Option Node) → greens_of (option_map_or (λ s. turning_as c p part s.life) o c) q ≡ greens_of c q
  at None = refl
  at (Some s) = life s.life

module _ (c : Chronicle) (p : ℕ) (part : Turn → Turn) (r : Replica) (disk : Disk) (node : node_of c.world p ≡ Some (record { id = p; life = Up r disk })) where
  pub replica-behind : replica_of (turning c p part).world p ≡ Some (part (begin r)).replica
  replica-behind =
      ap (λ (x : Chronicle). replica_of x.world p) (turn-is c p part r disk node) ∙ replica-set c.world p (Up (part (begin r)).replica disk) p
      ∙ cond-true (p == p) (Some (part (begin r)).replica) (replica_of c.world p) (eq-eqb p p refl)

  pub greens-behind : HavePasts c → (part (begin r)).replica.held.queue.greens ≡ r.held.queue.greens → greens_of (turning c p part) p ≡ greens_of c p
  greens-behind pasts same =
      ap (λ (x : Chronicle). greens_of x p) (turn-is c p part r disk node) ∙ greens-turn c p r disk (part (begin r)) pasts node
      ∙ ap (λ xs. greens_of c p ++ xs) (nothing-new r (part (begin r)).replica same) ∙ append-nil (greens_of c p)

pub stays-told : (c d : Chronicle) → d.told ≡ c.told → ToldStays c d
stays-told c d same conf q t e = told_in-same c d same conf q ∙ e

-- ---- each step

module _ (c : Chronicle) (i : Invariant c) where
  names : HaveNames c
  names q = at (replica_of c.world q) (i.replica.mode_data q) where
    at : (o : Option Replica) → IfSome o (IsModeData c q) → IfSome o (λ r. r.held.id ≡ q)
    at None is = tt
    at (Some r) is = is.id

  old : ExchangeProgress c
  old = i.exchange.exchange_progress

  pasts : HavePasts c
  pasts = i.net.hosted.past

  -- a replica that stands as before, and holds the same
  even-kept : (d : Chronicle) (p : ℕ) → OneMoves c d p (phase_of c.world.group p) (delivered_to c.world.group p) (is_up c.world.group p) →
      StaysAs (replica_of c.world p) (replica_of d.world p) → greens_of d p ≡ greens_of c p → ExchangeProgress d
  even-kept d p moves same greens =
      one-kept c d p (phase_of c.world.group p) (delivered_to c.world.group p) (is_up c.world.group p) moves names
      (λ conf regular. progress-still c d conf p moves.told names
      (ap₂ (λ n xs. talk_of (take n xs)) (moves.stands.delivered p ∙ cond-true (p == p) (delivered_to c.world.group p) (delivered_to c.world.group p) (eq-eqb p p refl))
      (ap (λ (x : Configuration Msg). x.ordered) (moves.stands.conf conf)))
      same greens (old conf p regular)) old

  -- a turn of requests
  turn-kept : (p : ℕ) (part : Turn → Turn) → is_running c p ≡ true → (turning c p part).told ≡ c.told →
      ((t : Turn) → ((part t).replica.state ≡ t.replica.state) × SameValues t.replica.held (part t).replica.held × SameLists t.replica.held (part t).replica.held) →
      ((t : Turn) → (part t).replica.held.queue.greens ≡ t.replica.held.queue.greens) → ExchangeProgress (turning c p part)
  turn-kept p part runs told even queue =
      let sits = hosted c.world p runs in
      let r = sits.replica in
      let up : replica_of c.world p ≡ Some r = ap (λ (o : Option Node). option_and_then (λ s. running s.life) o) sits.node in
      even-kept (turning c p part) p
      (record {
        stands = (turns-step c p part i.net.phase_sound).stands;
        told = stays-told c (turning c p part) told;
        replica = λ q other. replica-turning c p part q other;
        greens = λ q other. greens-turning c p part q other;
      })
      (subst (λ (o : Option Replica). StaysAs o (replica_of (turning c p part).world p)) (sym up)
      (subst (StaysAs (Some r)) (sym (replica-behind c p part r sits.disk sits.node)) (even (begin r))))
      (greens-behind c p part r sits.disk sits.node pasts (queue (begin r)))

  -- one replica is in no regular phase
  out-kept : (d : Chronicle) (p : ℕ) (now : Phase) (n : ℕ) (up : Bool) → ((conf : ℕ) → is_regular_at conf now ≡ false) → OneMoves c d p now n up → ExchangeProgress d
  out-kept d p now n up out moves =
      one-kept c d p now n up moves names (λ conf regular. absurd (let clash : true ≡ false = sym regular ∙ out conf in cc)) old

  makes-kept : (set : List ℕ) → ExchangeProgress (small_step c (Makes set))
  unfolding small_step standing_of
  makes-kept set =
      let d = small_step c (Makes set) in
      all-kept c d (λ conf q t e. e) names (phase-made c d set refl (λ q. refl))
      (λ conf q regular. ap (λ (x : Configuration Msg). talk_of (take (delivered_to c.world.group q) x.ordered))
      (same-where_member c d set refl (λ q. refl) conf q (member-of c d set refl (λ q. refl) conf q (phase_of c.world.group q) (i.net.phase_sound.phase q) regular)))
      (λ q. refl) (λ q. refl) old

  orders-kept : (p : ℕ) → may_make c (Orders p) ≡ true → ExchangeProgress (small_step c (Orders p))
  orders-kept p may =
      let n = orders-now c p i.net.phase_sound i.net.receipts_inside.places may in
      let step = ordered-step c p n.conf n.stands n.message n.rest n.at in
      let d = behind c p n.conf n.stands n.message n.rest n.at in
      subst ExchangeProgress (sym (step-is c p n.conf n.stands n.message n.rest n.at))
      (all-kept c d (λ conf q t e. step.told conf q ∙ e) names step.phase (λ conf q regular. handed-same c d p n.conf n.message n.rest step conf q regular) step.replica (λ q. refl) old)

  receives-kept : (p place : ℕ) → may_make c (Receives p place) ≡ true → ExchangeProgress (small_step c (Receives p place))
  unfolding small_step
  receives-kept p place may =
      let n = receives-now c p place i.net.phase_sound may in
      let same = receive-same c p n.conf place n.regular n.number n.there in
      subst (λ (h : GroupState Msg). ExchangeProgress (with_group c h)) (sym (receive-is c p n.conf place n.regular n.number n.there))
      (all-kept c (with_group c (set_configuration c.world.group n.conf (with_receipt (conf_of c n.conf) p place))) (λ conf q t e. same.told conf q ∙ e) names same.phase (λ conf q regular. ap₂ (λ n xs. talk_of (take n xs)) (same.delivered q) (same.ordered conf)) (λ q. refl) (λ q. refl) old)

  leaves-kept : (p : ℕ) (set : List ℕ) (own : ℕ) (places : List ℕ) → may_make c (Leaves p set own places) ≡ true → ExchangeProgress (small_step c (Leaves p set own places))
  unfolding small_step
  leaves-kept p set own places may =
      let step = leaves-step c p set own places i.net.phase_sound (leaving-regular c p set own places may) in
      let part = take_parting c.world.group p set places in
      out-kept (small_step c (Leaves p set own places)) p (Transitional (regular_in (phase_of c.world.group p)) set) own true (λ conf. refl)
      (record {
        stands = step.stands;
        told = stays-told c (small_step c (Leaves p set own places)) (told-same c (Leaves p set own places) tt);
        replica = λ q other. replica-turning (leaving c p set own) p part q other;
        greens = λ q other. greens-turning (leaving c p set own) p part q other;
      })

  -- the member to whom a place is handed by itself
  hands-kept : (p : ℕ) → may_make c (Hands p) ≡ true → ((conf : ℕ) → is_regular_in c conf p ≡ true → ProgressAt (small_step c (Hands p)) conf p) → ExchangeProgress (small_step c (Hands p))
  unfolding small_step
  hands-kept p may own =
      let step = hands-step c p i.net.phase_sound (hands-regular c p may) in
      let part = take_next c.world.group p in
      one-kept c (small_step c (Hands p)) p (phase_of c.world.group p) (suc (delivered_to c.world.group p)) true
      (record {
        stands = step.stands;
        told = stays-told c (small_step c (Hands p)) (told-same c (Hands p) tt);
        replica = λ q other. replica-turning (handed_next c p) p part q other;
        greens = λ q other. greens-turning (handed_next c p) p part q other;
      }) names own old

  -- one that enters has told what it holds
  enters-own : (p : ℕ) (n : EntersNow c p) (conf : ℕ) → (newest_conf c.world.group == conf) ≡ true → ProgressAt (small_step c (Enters p)) conf p
  unfolding summary_of small_step
  enters-own p n conf here =
      let d = small_step c (Enters p) in
      let u = entry_turn c n.replica in
      let one = entry_told c p n.replica in
      let part = take_newest c.world.group in
      let told : told_in d conf p ≡ Some one = told_in-enters c p n conf p
      ∙ cond-true ((conf == newest_conf c.world.group) && (p == p)) (Some one) (told_in c conf p)
      (and_from (conf == newest_conf c.world.group) (p == p) (eq-eqb conf (newest_conf c.world.group) (sym (eqb-true (newest_conf c.world.group) conf here))) (eq-eqb p p refl)) in
      let greens : greens_of d p ≡ greens_of c p = greens-behind (coming c p) p part n.replica n.disk n.node pasts (entry-greens c.world.group n.replica n.between) in
      let up : replica_of d.world p ≡ Some u.replica = replica-behind (coming c p) p part n.replica n.disk n.node in
      let still : IsUnmoved one u.replica.held (greens_of c p) = record {
        holds = record { prim = refl; attempt_index = refl; vulnerable = refl; yellow_valid = refl };
        yellow = refl;
        greens = refl;
        red_cut = refl;
      } in
      subst (λ (o : Option Replica). IfSome o (λ r. IsSomeWith (told_in d conf p) (λ t. IsInExchange d conf t r.held (greens_of d p) r.state))) (sym up)
      (subst (λ (o : Option Told). IsSomeWith o (λ t. IsInExchange d conf t u.replica.held (greens_of d p) u.replica.state)) (sym told)
      (subst (λ xs. IsInExchange d conf one u.replica.held xs u.replica.state) (sym greens)
      (subst (λ (s : State). IsInExchange d conf one u.replica.held (greens_of c p) s) (sym (told-newest c.world.group n.replica n.between).state) still)))

  enters-kept : (p : ℕ) → may_make c (Enters p) ≡ true → ExchangeProgress (small_step c (Enters p))
  unfolding small_step
  enters-kept p may =
      let n = enters-now c p i.net.phase_sound (i.replica.mode_data p) may in
      let step = enters-step c p i.net.phase_sound n.may.comes in
      let part = take_newest c.world.group in
      one-kept c (small_step c (Enters p)) p (Regular (newest_conf c.world.group)) 0 true
      (record {
        stands = step.stands;
        told = λ conf q t e. told_in-enters c p n conf q ∙ before n conf q t e (cases_Bool ((conf == newest_conf c.world.group) && (q == p)));
        replica = λ q other. replica-turning (coming c p) p part q other;
        greens = λ q other. greens-turning (coming c p) p part q other;
      }) names (enters-own p n) old where
        before : (n : EntersNow c p) (conf q : ℕ) (t : Told) → told_in c conf q ≡ Some t → (((conf == newest_conf c.world.group) && (q == p)) ≡ true) ⊎ (((conf == newest_conf c.world.group) && (q == p)) ≡ false) →
            cond ((conf == newest_conf c.world.group) && (q == p)) (Some (entry_told c p n.replica)) (told_in c conf q) ≡ Some t
        before n conf q t e (inr no') = cond-false ((conf == newest_conf c.world.group) && (q == p)) (Some (entry_told c p n.replica)) (told_in c conf q) no' ∙ e
        before n conf q t e (inl is) =
            let both = and_parts (conf == newest_conf c.world.group) (q == p) is in
            let there : told_in c (newest_conf c.world.group) p ≡ Some t = ap₂ (told_in c) (sym (eqb-true conf (newest_conf c.world.group) both.0)) (sym (eqb-true q p both.1)) ∙ e in
            absurd (let clash : false ≡ true = sym (ap (λ (o : Option Told). is_none o) there) ∙ n.may.untold in cc)

  asks-kept : (p : ℕ) (kind : Kind) → may_make c (Asks p kind) ≡ true → ExchangeProgress (small_step c (Asks p kind))
  unfolding may_make small_step
  asks-kept p kind may =
      turn-kept p (take_request kind) (and_parts (is_running c p) (not (is_left c.world p)) may).0 (told-same c (Asks p kind) tt)
      (λ t. ((even-request t kind).state, (even-request t kind).values, lists-request t kind)) (λ t. greens-request t kind)

  settles-kept : (p : ℕ) → may_make c (Settles p) ≡ true → ExchangeProgress (small_step c (Settles p))
  unfolding may_make small_step
  settles-kept p may = turn-kept p settle may (told-same c (Settles p) tt) (λ t. ((even-settle t).state, (even-settle t).values, lists-settle t)) greens-settle

  commits-kept : (p : ℕ) → may_make c (Commits p) ≡ true → ExchangeProgress (small_step c (Commits p))
  unfolding may_make small_step whiten
  commits-kept p may =
      let sits = hosted c.world p may in
      let r = sits.replica in
      let d = commit_as c p (Up r sits.disk) in
      let new : Replica = record r { held = whiten r.held } in
      let life : NodeState = Up new (record sits.disk { content = stored_of (whiten r.held) }) in
      let up : replica_of c.world p ≡ Some r = ap (λ (o : Option Node). option_and_then (λ s. running s.life) o) sits.node in
      let now : replica_of d.world p ≡ Some new = replica-set c.world p life p ∙ cond-true (p == p) (Some new) (replica_of c.world p) (eq-eqb p p refl) in
      subst ExchangeProgress (sym (ap (λ (o : Option Node). option_map_or (λ s. commit_as c p s.life) o c) sits.node))
      (even-kept d p
      (record {
        stands = stands-refl c.world.group p;
        told = λ conf q t e. e;
        replica = λ q other. replica-set c.world p life q ∙ cond-false (q == p) (Some new) (replica_of c.world q) other;
        greens = λ q other. ap greens-in (past-there written (λ x. refl) c p q (λ e. eqb-false q p other (sym e)));
      })
      (subst (λ (o : Option Replica). StaysAs o (replica_of d.world p)) (sym up) (subst (StaysAs (Some r)) (sym now)
      (refl, record { id = refl; prim = refl; attempt_index = refl; vulnerable = refl; yellow_valid = refl }, record { reds = refl; yellow = refl; green_cut = refl; red_cut = refl })))
      (ap greens-in (past-here written (λ x. refl) c p) ∙ same (past_of c p))) where
        same : (o : Option Past) → greens-in (option_map written o) ≡ greens-in o
        same None = refl
        same (Some x) = refl

  crashes-kept : (p : ℕ) → may_make c (Crashes p) ≡ true → ExchangeProgress (small_step c (Crashes p))
  unfolding may_make small_step
  crashes-kept p may =
      let sits = hosted c.world p may in
      let d = crash_as c p (Up sits.replica sits.disk) in
      subst ExchangeProgress (sym (ap (λ (o : Option Node). option_map_or (λ s. crash_as c p s.life) o c) sits.node))
      (out-kept d p DownPhase 0 false (λ conf. refl)
      (record {
        stands = stands-down c.world.group p;
        told = λ conf q t e. e;
        replica = λ q other. replica-set c.world p (Down (at_rest sits.disk) []) q ∙ cond-false (q == p) None (replica_of c.world q) other;
        greens = λ q other. ap greens-in (past-there struck (λ x. refl) c p q (λ e. eqb-false q p other (sym e)));
      }))

  recovers-kept : (p : ℕ) → may_make c (Recovers p) ≡ true → ExchangeProgress (small_step c (Recovers p))
  unfolding may_make small_step
  recovers-kept p may =
      let sits = node-there c p (and_parts (has_begun c.world p) (not (is_running c p)) may).0 in
      subst (λ (o : Option Node). ExchangeProgress (option_map_or (λ s. recover_as c s.life) o c)) (sym sits.there) (life sits.node.life) where
        life : (l : NodeState) → ExchangeProgress (recover_as c l)
        life (Up r disk) = old
        life (Down disk green) =
            let me = (recovered disk).held.id in
            let l : NodeState = Up (recovered disk) (disk_recovered disk) in
            out-kept (recover_as c (Down disk green)) me Alone 0 true (λ conf. refl)
            (record {
              stands = stands-up c.world.group me;
              told = λ conf q t e. e;
              replica = λ q other. replica-set c.world me l q ∙ cond-false (q == me) (Some (recovered disk)) (replica_of c.world q) other;
              greens = λ q other. refl;
            })

  copies-kept : (p joiner : ℕ) → ExchangeProgress (small_step c (Copies p joiner))
  unfolding small_step
  copies-kept p joiner = at (replica_of c.world p) where
    at : (o : Option Replica) → ExchangeProgress (option_map_or (copy_as c p joiner) o c)
    at None = old
    at (Some r) = all-kept c (copy_as c p joiner r) (λ conf q t e. e) names (λ q. refl) (λ conf q regular. refl) (λ q. refl) (λ q. refl) old

  joins-kept : (joiner : ℕ) → may_make c (Joins joiner) ≡ true → ExchangeProgress (small_step c (Joins joiner))
  unfolding may_make small_step
  joins-kept joiner may =
      let one = may-join c joiner may in
      let r = joiner_replica joiner one.snapshot.content in
      let life : NodeState = Up r (new_disk r.held) in
      let begun = new_past (copied_for c joiner) joiner in
      let absent : past_of c joiner ≡ None = none-of (past_of c joiner) (pasts joiner ∙ one.fresh) in
      subst (λ (o : Option TransferState). ExchangeProgress (option_map_or (λ s. join_with c joiner s.content) o c)) (sym one.there)
      (out-kept (join_with c joiner one.snapshot.content) joiner Alone 0 true (λ conf. refl)
      (record {
        stands = stands-up c.world.group joiner;
        told = λ conf q t e. e;
        replica = λ q other. replica-set c.world joiner life q ∙ cond-false (q == joiner) (Some r) (replica_of c.world q) other;
        greens = λ q other. ap greens-in (past-begun c.pasts begun q absent ∙ cond-false (joiner == q) (Some begun) (past_of c q) (ne_eqb joiner q (λ e. eqb-false q joiner other (sym e))));
      })) where
        none-of : (o : Option Past) → is_some o ≡ false → o ≡ None
        none-of None e = refl
        none-of (Some x) e = absurd (let clash : true ≡ false = e in cc)

-- at the start nobody is regular
none-regular : (set : List Weighted) (list : List ℕ) (w : World) → ((conf q : ℕ) → is_regular_at conf (phase_of w.group q) ≡ false) →
    (conf q : ℕ) → is_regular_at conf (phase_of (fold (begin_replica set) w list).group q) ≡ false
none-regular set [] w none = none
none-regular set (p ∷ list) w none = none-regular set list (begin_replica set w p)
    (λ conf q. ap (is_regular_at conf) ((stands-up w.group p).phase q) ∙ either conf q (q == p)) where
      either : (conf q : ℕ) (b : Bool) → is_regular_at conf (cond b Alone (phase_of w.group q)) ≡ false
      either conf q true = refl
      either conf q false = none conf q

starts-kept : (c : Chronicle) (set : List Weighted) → c ≡ no_chronicle → ExchangeProgress (start c set)
unfolding standing_of
starts-kept c set is = subst (λ (x : Chronicle). ExchangeProgress (start x set)) (sym is)
    (λ conf q regular. absurd (let clash : true ≡ false = sym regular ∙ none-regular set (ids set) no_chronicle.world (λ k x. refl) conf q in cc))

-- what is left to show of the member to whom a place is handed
abbrev pub HandsProgress : Chronicle → Small → Type 0
HandsProgress c (Hands p) = (conf : ℕ) → is_regular_in c conf p ≡ true → ProgressAt (small_step c (Hands p)) conf p
HandsProgress c _ = Unit {0}

-- Each small step keeps what members hold in exchanges, where that member does.
pub exchange_progress-where : (c : Chronicle) (s : Small) → Invariant c → may_make c s ≡ true → HandsProgress c s → ExchangeProgress (small_step c s)
unfolding small_step may_make
exchange_progress-where c (Starts set) i may own = starts-kept c set (nothing-before c i.net.hosted (and_parts (is_nil c.world.nodes) (is_set (ids set)) may).0)
exchange_progress-where c (Makes set) i may own = makes-kept c i set
exchange_progress-where c (Enters p) i may own = enters-kept c i p may
exchange_progress-where c (Orders p) i may own = orders-kept c i p may
exchange_progress-where c (Receives p place) i may own = receives-kept c i p place may
exchange_progress-where c (Hands p) i may own = hands-kept c i p may own
exchange_progress-where c (Leaves p set own places) i may all = leaves-kept c i p set own places may
exchange_progress-where c (Asks p kind) i may own = asks-kept c i p kind may
exchange_progress-where c (Settles p) i may own = settles-kept c i p may
exchange_progress-where c (Commits p) i may own = commits-kept c i p may
exchange_progress-where c (Crashes p) i may own = crashes-kept c i p may
exchange_progress-where c (Recovers p) i may own = recovers-kept c i p may
exchange_progress-where c (Copies p joiner) i may own = copies-kept c i p joiner
exchange_progress-where c (Joins joiner) i may own = joins-kept c i joiner may

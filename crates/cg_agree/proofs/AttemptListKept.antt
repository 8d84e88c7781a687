-- The members of an attempt hold its parts behind each small step, where each action is the one of its name.
use Rattle.std.proofs.Common.{◌≡◌, ℕ, Bool, true, false, cond, not, List, [], ◌∷◌, ◌++◌, length, find, fold, Option, Some, None, IfSome, refl, sym, ap, ◌∙◌, subst, inl, inr, eq-eqb, option_map, option_and_then}
use Rattle.std.specs.Prelude.{suc, ◌==◌}
use Rattle.std.specs.Option.{option_map_or}
use Rattle.std.proofs.lemmas.Bool.{cond-true, cond-false, and_parts, eqb-false, ne_eqb, false_from_ne_true}
use Rattle.cg_base.specs.declared.weighted.Weighted.{Weighted}
use Rattle.cg_base.specs.Text.{is_nil}
use Rattle.cg_base.specs.Weights.{ids}
use Rattle.cg_base.specs.Ids.{same_id}
use Rattle.cg_base.specs.OptionLaws.{is_some_false}
use Rattle.cg_base.specs.FindLaws.{found_before}
use Rattle.cg_action.specs.declared.action.Action.{Action}
use Rattle.cg_knowledge.specs.declared.summary.Summary.{Summary}
use Rattle.cg_action.specs.declared.action.Kind.{Kind}
use Rattle.cg_wire.specs.declared.message.Msg.{Msg}
use Rattle.cg_group.specs.declared.phase.Phase.TheVariants.{Down as DownPhase, Alone, Regular, Transitional}
use Rattle.cg_group.specs.State.{GroupState, set_configuration, phase_of, delivered_to, regular_in, is_up, standing_of}
use Rattle.cg_group.specs.Events.{with_receipt}
use Rattle.cg_client.specs.Replica.{State, Replica, fresh}
use Rattle.cg_client.specs.Turn.{Turn, begin}
use Rattle.cg_client.specs.Requests.{settle}
use Rattle.cg_client.specs.Install.{valid_yellow}
use Rattle.cg_client.specs.Queries.{plain_reds}
use Rattle.cg_disk_records.specs.Stored.{stored_of, whiten}
use Rattle.cg_disk_records.specs.Crash.{new_disk, at_rest, recovered, disk_recovered}
use Rattle.cg_model.specs.World.{NodeState, Up, Down, Node, running, TransferState, World, replica_of, has_begun, is_left}
use Rattle.cg_model.specs.Step.{begin_replica, joiner_replica, name_also}
use Rattle.cg_model.specs.Chronicle.{Past, Attempt, Chronicle, no_chronicle}
use Rattle.cg_model.specs.Fronts.{IsSomeWith}
use Rattle.cg_model.specs.Looks.{conf_of, past_of, greens_of, stood_of, conf_at, attempt_of, copied_for}
use Rattle.cg_model.specs.FactsAttempts.{HoldsParts, AttemptList}
use Rattle.cg_model.specs.FactsReplica.{AreBooked, IsCore, IsModeData, HasModeData, IsInAttempt, is_attempting, is_primary, is_exchanging}
use Rattle.cg_model.specs.Facts.{Invariant}
use Rattle.cg_model.specs.Small.{Small, Starts, Makes, Enters, Orders, Receives, Hands, Leaves, Asks, Settles, Commits, Crashes, Recovers, Copies, Joins, new_past, written, struck, newest_conf, turning, take_newest, take_next, take_parting, take_request, coming, handed_next, leaving, with_group, commit_as, crash_as, recover_as, copy_as, join_with, start, small_step}
use Rattle.cg_model.specs.Smalls.{may_make, is_running, is_set}
use Rattle.cg_agree.proofs.AttemptSteps.{IsHanded}
use Rattle.cg_agree.proofs.AttemptsCame.{Begins}
use Rattle.cg_agree_lemmas.specs.AttemptsTurn.{ends-exchanging, ends-beside}
use Rattle.cg_agree.proofs.BookedParts.{new-booked}
use Rattle.cg_agree.proofs.BegunKept.{nothing-before}
use Rattle.cg_agree_lemmas.specs.ChronicleFacts.{past-begun}
use Rattle.cg_agree_lemmas.specs.CoresKept.{past-here, past-there}
use Rattle.cg_agree.proofs.ExchangeBehind.{up-now, greens-same}
use Rattle.cg_agree.proofs.ExchangeSmalls.{greens-turning, replica-behind, greens-behind, stays-told}
use Rattle.cg_agree_lemmas.specs.GroupKept.{leaving-regular}
use Rattle.cg_agree_lemmas.specs.GroupSound.{phase-made}
use Rattle.cg_agree_lemmas.specs.HandsKept.{regular-phase, hosted}
use Rattle.cg_agree_lemmas.specs.HandsNow.{HandsNow, hands-now, hands-regular, hand-turned, new, running-now}
use Rattle.cg_agree_lemmas.specs.HeldCommit.{white-oneself}
use Rattle.cg_agree_lemmas.specs.HeldMarks.{IsOneself}
use Rattle.cg_agree.proofs.ListEntered.{PartsBooked, entered-held}
use Rattle.cg_agree_lemmas.specs.ListStill.{ListAt, WasIn, list-still, list-none, list-some, list-same, list-quiet, one-list, whitened-parts}
use Rattle.cg_agree.proofs.ModeKept.{mode_data-kept}
use Rattle.cg_agree_lemmas.specs.NextThere.{orders-now, receives-now}
use Rattle.cg_agree_lemmas.specs.OneStands.{stands-refl, stands-up, stands-down}
use Rattle.cg_agree_lemmas.specs.OneSteps.{turns-step, hands-step, leaves-step, enters-step, may-join, node-there}
use Rattle.cg_agree_lemmas.specs.OneselfWorld.{HavePasts}
use Rattle.cg_agree_lemmas.specs.OrdersWorld.{ordered-step, step-is, behind}
use Rattle.cg_agree_lemmas.specs.PartingActs.{parting-by}
use Rattle.cg_agree.proofs.PastKept.{enters-now}
use Rattle.cg_agree_lemmas.specs.PlanEnd.{AtPlanEnd, plan-end, is_behind}
use Rattle.cg_agree_lemmas.specs.RecordKept.{turn-is}
use Rattle.cg_agree_lemmas.specs.SameAttempt.{KeepsAttempts, keeps-refl, keeps-left, attempts-kept}
use Rattle.cg_agree_lemmas.specs.SmallTalk.{receive-is, receive-same}
use Rattle.cg_agree.proofs.TalkAlone.{replica-set, recovered-state}
use Rattle.cg_agree.proofs.TalkQuiet.{replica-turning}
use Rattle.cg_agree_lemmas.specs.ToldKept.{told-same}
use Rattle.cg_agree.proofs.ToldStays.{told-entered}
use Rattle.cg_agree_lemmas.specs.TurnKinds.{IsQuiet, HasAttempted, EndsWith, Turned, Quiet, Installs, Decides, Attempts}
use Rattle.cg_agree_lemmas.specs.TurnParts.{never-both, settle-quiet, request-quiet, newest-come}
use Rattle.cg_group.specs.RefusalLaws.{regular-up}
use Rattle.cg_agree_lemmas.specs.Looking.{greens-in}

-- the actions that are booked stay so
pub more-booked : (c d : Chronicle) (more : List Action) → d.book ≡ c.book ++ more → (xs : List Action) → AreBooked c xs → AreBooked d xs
more-booked c d more is [] are = tt
more-booked c d more is (x ∷ xs) are =
    (ap (find (λ (a : Action). same_id a.id x.id)) is ∙ found_before (λ (a : Action). same_id a.id x.id) c.book more x are.0, more-booked c d more is xs are.1)

installed-not : (state : State) → is_primary state ≡ true → is_attempting state ≡ false
installed-not state primary = false_from_ne_true (is_attempting state) (λ attempting. never-both state attempting primary)

module _ (c : Chronicle) (i : Invariant c) where
  old : AttemptList c
  old = i.attempt.attempt_list

  pasts : HavePasts c
  pasts = i.net.hosted.past

  makes-list : (set : List ℕ) → AttemptList (small_step c (Makes set))
  unfolding small_step standing_of
  makes-list set q = (let d = small_step c (Makes set) in list-same c d q (keeps-refl c.attempts) (phase-made c d set refl (λ q. refl) q) refl refl (old q))

  orders-list : (p : ℕ) → may_make c (Orders p) ≡ true → AttemptList (small_step c (Orders p))
  orders-list p may =
      let n = orders-now c p i.net.phase_sound i.net.receipts_inside.places may in
      let step = ordered-step c p n.conf n.stands n.message n.rest n.at in
      let d = behind c p n.conf n.stands n.message n.rest n.at in
      subst AttemptList (sym (step-is c p n.conf n.stands n.message n.rest n.at)) (λ q. list-same c d q (keeps-refl c.attempts) (step.phase q) (step.replica q) refl (old q))

  receives-list : (p place : ℕ) → may_make c (Receives p place) ≡ true → AttemptList (small_step c (Receives p place))
  unfolding small_step
  receives-list p place may =
      let n = receives-now c p place i.net.phase_sound may in
      let same = receive-same c p n.conf place n.regular n.number n.there in
      subst (λ (h : GroupState Msg). AttemptList (with_group c h)) (sym (receive-is c p n.conf place n.regular n.number n.there))
      (λ q. list-same c (with_group c (set_configuration c.world.group n.conf (with_receipt (conf_of c n.conf) p place))) q (keeps-refl c.attempts) (same.phase q) refl refl (old q))

  -- one that comes into a configuration has no attempt there
  enters-list : (p : ℕ) → may_make c (Enters p) ≡ true → AttemptList (small_step c (Enters p))
  unfolding small_step
  enters-list p may =
      let n = enters-now c p i.net.phase_sound (i.replica.mode_data p) may in
      let step = enters-step c p i.net.phase_sound n.may.comes in
      let g = c.world.group in
      let part = take_newest g in
      let come = newest-come g n.replica n.between in
      let d = turning (coming c p) p part in
      one-list c d p (Regular (newest_conf g)) 0 true
      (record {
        stands = step.stands;
        told = told-entered c p n;
        replica = λ q other. replica-turning (coming c p) p part q other;
        greens = λ q other. greens-turning (coming c p) p part q other;
      }) (attempts-kept c (Enters p))
      (list-none d p (Some (part (begin n.replica)).replica) (replica-behind (coming c p) p part n.replica n.disk n.node) (ap is_attempting come.state)) old

  leaves-list : (p : ℕ) (set : List ℕ) (own : ℕ) (places : List ℕ) → may_make c (Leaves p set own places) ≡ true → AttemptList (small_step c (Leaves p set own places))
  unfolding small_step
  leaves-list p set own places may =
      let step = leaves-step c p set own places i.net.phase_sound (leaving-regular c p set own places may) in
      let g = c.world.group in
      let part = take_parting g p set places in
      let phase = regular-phase (phase_of g p) (leaving-regular c p set own places may) in
      let sits = hosted c.world p (i.net.phase_sound.up p ∙ regular-up g p (leaving-regular c p set own places may)) in
      let r = sits.replica in
      let d = turning (leaving c p set own) p part in
      let up : replica_of c.world p ≡ Some r = ap (λ (o : Option Node). option_and_then (λ s. running s.life) o) sits.node in
      let after = replica-behind (leaving c p set own) p part r sits.disk sits.node in
      let now = Transitional (regular_in (phase_of g p)) set in
      let conf : conf_at (phase_of d.world.group p) ≡ conf_at (phase_of g p) =
      ap conf_at (step.stands.phase p ∙ cond-true (p == p) now (phase_of g p) (eq-eqb p p refl)) ∙ ap regular_in phase.is ∙ sym (ap conf_at phase.is) in
      one-list c d p now own true
      (record {
        stands = step.stands;
        told = stays-told c d (told-same c (Leaves p set own places) tt);
        replica = λ q other. replica-turning (leaving c p set own) p part q other;
        greens = λ q other. greens-turning (leaving c p set own) p part q other;
      }) (attempts-kept c (Leaves p set own places))
      (elim (parting-by g p set places r) [
        | inl quiet ↦ list-quiet c d p r (part (begin r)).replica (attempts-kept c (Leaves p set own places)) conf up after quiet (greens-behind (leaving c p set own) p part r sits.disk sits.node pasts) (old p)
        | inr done ↦ list-none d p (Some (part (begin r)).replica) after (installed-not (part (begin r)).replica.state done.0.after)
      ]) old

  -- a turn of requests
  turn-list : (p : ℕ) (part : Turn → Turn) → is_running c p ≡ true → (turning c p part).told ≡ c.told → KeepsAttempts c.attempts (turning c p part).attempts → ((r : Replica) → IsQuiet r (part (begin r)).replica) → AttemptList (turning c p part)
  turn-list p part runs told keeps quiet =
      let sits = hosted c.world p runs in
      let r = sits.replica in
      let d = turning c p part in
      let step = turns-step c p part i.net.phase_sound in
      let up : replica_of c.world p ≡ Some r = ap (λ (o : Option Node). option_and_then (λ s. running s.life) o) sits.node in
      let phase : phase_of d.world.group p ≡ phase_of c.world.group p = step.stands.phase p ∙ cond-true (p == p) (phase_of c.world.group p) (phase_of c.world.group p) (eq-eqb p p refl) in
      one-list c d p (phase_of c.world.group p) (delivered_to c.world.group p) (is_up c.world.group p)
      (record {
        stands = step.stands;
        told = stays-told c d told;
        replica = λ q other. replica-turning c p part q other;
        greens = λ q other. greens-turning c p part q other;
      }) keeps
      (list-quiet c d p r (part (begin r)).replica keeps (ap conf_at phase) up (replica-behind c p part r sits.disk sits.node) (quiet r) (greens-behind c p part r sits.disk sits.node pasts) (old p)) old

  asks-list : (p : ℕ) (kind : Kind) → may_make c (Asks p kind) ≡ true → AttemptList (small_step c (Asks p kind))
  unfolding may_make small_step
  asks-list p kind may =
      turn-list p (take_request kind) (and_parts (is_running c p) (not (is_left c.world p)) may).0 (told-same c (Asks p kind) tt) (attempts-kept c (Asks p kind)) (request-quiet kind)

  settles-list : (p : ℕ) → may_make c (Settles p) ≡ true → AttemptList (small_step c (Settles p))
  unfolding may_make small_step
  settles-list p may = turn-list p settle may (told-same c (Settles p) tt) (attempts-kept c (Settles p)) settle-quiet

  commits-list : (p : ℕ) → may_make c (Commits p) ≡ true → AttemptList (small_step c (Commits p))
  unfolding may_make small_step
  commits-list p may =
      let sits = hosted c.world p may in
      let r = sits.replica in
      let d = commit_as c p (Up r sits.disk) in
      let new' : Replica = record r { held = whiten r.held } in
      let life : NodeState = Up new' (record sits.disk { content = stored_of (whiten r.held) }) in
      let up : replica_of c.world p ≡ Some r = ap (λ (o : Option Node). option_and_then (λ s. running s.life) o) sits.node in
      let after : replica_of d.world p ≡ Some new' = replica-set c.world p life p ∙ cond-true (p == p) (Some new') (replica_of c.world p) (eq-eqb p p refl) in
      let core : IsCore c r.held (greens_of c p) = subst (λ (o : Option Replica). IfSome o (λ r. IsCore c r.held (greens_of c p))) up (i.replica.cores.memory p) in
      let oneself : IsOneself c.start r.held (greens_of c p) = record { made_of = core.made_of; contiguous = core.contiguous; yellow_closed = core.yellow_closed } in
      subst AttemptList (sym (ap (λ (o : Option Node). option_map_or (λ s. commit_as c p s.life) o c) sits.node))
      (one-list c d p (phase_of c.world.group p) (delivered_to c.world.group p) (is_up c.world.group p)
      (record {
        stands = stands-refl c.world.group p;
        told = λ conf q t e. e;
        replica = λ q other. replica-set c.world p life q ∙ cond-false (q == p) (Some new') (replica_of c.world q) other;
        greens = λ q other. ap greens-in (past-there written (λ x. refl) c p q (λ e. eqb-false q p other (sym e)));
      }) (keeps-refl c.attempts)
      (list-still c d p (keeps-refl c.attempts) refl (subst (λ (o : Option Replica). IfSome o (λ new. is_attempting new.state ≡ true → WasIn c d p new)) (sym after) (λ attempting. record {
        old = r;
        was = up;
        attempting = attempting;
        parts = whitened-parts c.start r.held (greens_of c p) oneself (white-oneself c.start r.held (greens_of c p) oneself);
        greens = ap greens-in (past-here written (λ x. refl) c p) ∙ same (past_of c p);
      })) (old p)) old) where
        same : (o : Option Past) → greens-in (option_map written o) ≡ greens-in o
        same None = refl
        same (Some x) = refl

  crashes-list : (p : ℕ) → may_make c (Crashes p) ≡ true → AttemptList (small_step c (Crashes p))
  unfolding may_make small_step
  crashes-list p may =
      let sits = hosted c.world p may in
      let d = crash_as c p (Up sits.replica sits.disk) in
      let life : NodeState = Down (at_rest sits.disk) [] in
      subst AttemptList (sym (ap (λ (o : Option Node). option_map_or (λ s. crash_as c p s.life) o c) sits.node))
      (one-list c d p DownPhase 0 false
      (record {
        stands = stands-down c.world.group p;
        told = λ conf q t e. e;
        replica = λ q other. replica-set c.world p life q ∙ cond-false (q == p) None (replica_of c.world q) other;
        greens = λ q other. ap greens-in (past-there struck (λ x. refl) c p q (λ e. eqb-false q p other (sym e)));
      }) (keeps-left c p (length (stood_of c p)))
      (list-none d p None (replica-set c.world p life p ∙ cond-true (p == p) None (replica_of c.world p) (eq-eqb p p refl)) tt) old)

  recovers-list : (p : ℕ) → may_make c (Recovers p) ≡ true → AttemptList (small_step c (Recovers p))
  unfolding may_make small_step
  recovers-list p may =
      let sits = node-there c p (and_parts (has_begun c.world p) (not (is_running c p)) may).0 in
      subst (λ (o : Option Node). AttemptList (option_map_or (λ s. recover_as c s.life) o c)) (sym sits.there) (life sits.node.life) where
        life : (l : NodeState) → AttemptList (recover_as c l)
        life (Up r disk) = old
        life (Down disk green) =
            let me = (recovered disk).held.id in
            let l : NodeState = Up (recovered disk) (disk_recovered disk) in
            let d = recover_as c (Down disk green) in
            one-list c d me Alone 0 true
            (record {
              stands = stands-up c.world.group me;
              told = λ conf q t e. e;
              replica = λ q other. replica-set c.world me l q ∙ cond-false (q == me) (Some (recovered disk)) (replica_of c.world q) other;
              greens = λ q other. refl;
            }) (keeps-refl c.attempts)
            (list-none d me (Some (recovered disk)) (replica-set c.world me l me ∙ cond-true (me == me) (Some (recovered disk)) (replica_of c.world me) (eq-eqb me me refl)) (ap is_attempting (recovered-state disk))) old

  copies-list : (p joiner : ℕ) → AttemptList (small_step c (Copies p joiner))
  unfolding small_step
  copies-list p joiner = at (replica_of c.world p) where
    at : (o : Option Replica) → AttemptList (option_map_or (copy_as c p joiner) o c)
    at None = old
    at (Some r) = λ q. list-same c (copy_as c p joiner r) q (keeps-refl c.attempts) refl refl refl (old q)

  joins-list : (joiner : ℕ) → may_make c (Joins joiner) ≡ true → AttemptList (small_step c (Joins joiner))
  unfolding may_make small_step
  joins-list joiner may =
      let one = may-join c joiner may in
      let r = joiner_replica joiner one.snapshot.content in
      let life : NodeState = Up r (new_disk r.held) in
      let begun = new_past (copied_for c joiner) joiner in
      let absent : past_of c joiner ≡ None = is_some_false (past_of c joiner) (pasts joiner ∙ one.fresh) in
      let d = join_with c joiner one.snapshot.content in
      subst (λ (o : Option TransferState). AttemptList (option_map_or (λ s. join_with c joiner s.content) o c)) (sym one.there)
      (one-list c d joiner Alone 0 true
      (record {
        stands = stands-up c.world.group joiner;
        told = λ conf q t e. e;
        replica = λ q other. replica-set c.world joiner life q ∙ cond-false (q == joiner) (Some r) (replica_of c.world q) other;
        greens = λ q other. ap greens-in (past-begun c.pasts begun q absent ∙ cond-false (joiner == q) (Some begun) (past_of c q) (ne_eqb joiner q (λ e. eqb-false q joiner other (sym e))));
      }) (keeps-refl c.attempts)
      (list-none d joiner (Some r) (replica-set c.world joiner life joiner ∙ cond-true (joiner == joiner) (Some r) (replica_of c.world joiner) (eq-eqb joiner joiner refl)) refl) old)

  -- ---- a place is handed

  module _ (p : ℕ) (may : may_make c (Hands p) ≡ true) (n : HandsNow c p) (old-booked : PartsBooked c) where
    abbrev d : Chronicle
    d = small_step c (Hands p)

    phase-now : phase_of d.world.group p ≡ Regular n.conf
    phase-now =
        (hands-step c p i.net.phase_sound (hands-regular c p may)).stands.phase p ∙ cond-true (p == p) (phase_of c.world.group p) (phase_of c.world.group p) (eq-eqb p p refl) ∙ n.regular

    conf-now : conf_at (phase_of d.world.group p) ≡ conf_at (phase_of c.world.group p)
    conf-now = ap conf_at phase-now ∙ sym (ap conf_at n.regular)

    after : replica_of d.world p ≡ Some (new c p i n)
    after = up-now c p i may n

    book-more : (xs : List Action) → AreBooked c xs → AreBooked d xs
    unfolding small_step
    book-more xs are =
        let t = take_next c.world.group p (begin n.replica) in
        more-booked c d t.made (ap (λ (x : Chronicle). x.book) (turn-is (handed_next c p) p (take_next c.world.group p) n.replica n.disk n.node)) xs are

    -- who begins an attempt
    begins-list : (conf : ℕ) (heard : List Summary) → EndsWith n.replica.state n.next.message conf heard → HasAttempted conf heard n.replica (new c p i n) → ListAt d p
    begins-list conf heard ends attempted =
        let end = plan-end c p i n conf heard ends attempted.remains (ap is_behind attempted.state) in
        let begins : Begins c p conf heard n.replica (new c p i n) = record {
          end = subst (λ k. AtPlanEnd c p n.replica k heard) end.0 end.1;
          id = n.data_of.id;
          begun = attempted;
          beside = ends-beside n.replica.state n.next.message conf heard ends;
          up = running-now c p i n;
        } in
        let handed : IsHanded c d p (greens_of d p) = record {
          step = refl;
          may = may;
          all = refl;
          exchanging = subst (λ (o : Option Replica). IfSome o (λ r. is_exchanging r.state ≡ true)) (sym (running-now c p i n)) (ends-exchanging n.replica.state n.next.message conf heard ends);
        } in
        let booked = new-booked c p i may n (ends-exchanging n.replica.state n.next.message conf heard ends) in
        let own : AreBooked d (valid_yellow (new c p i n).held) × AreBooked d (plain_reds (new c p i n).held.queue) =
        (book-more (valid_yellow (new c p i n).held) booked.0, book-more (plain_reds (new c p i n).held.queue) booked.1) in
        let mode = subst (λ (o : Option Replica). IfSome o (IsModeData d p)) after (mode_data-kept c (Hands p) i may p) in
        let at_conf : conf_at (phase_of d.world.group p) ≡ conf = ap conf_at phase-now ∙ end.0 in
        let attempt : IsInAttempt (new c p i n).held (attempt_of d conf) =
        subst (λ k. IsInAttempt (new c p i n).held (attempt_of d k)) at_conf (subst (λ (s : State). HasModeData d (new c p i n).held (phase_of d.world.group p) s) attempted.state mode.data_of) in
        list-some d p (new c p i n) after
        (subst (λ k. IsSomeWith (attempt_of d k) (HoldsParts (new c p i n).held (greens_of d p))) (sym at_conf)
        (there (attempt_of d conf) attempt (λ b now. entered-held c p conf i may heard n.replica (new c p i n) begins after handed old-booked book-more own b now))) where
          there : (o : Option Attempt) → IsInAttempt (new c p i n).held o → ((b : Attempt) → o ≡ Some b → HoldsParts (new c p i n).held (greens_of d p) b) → IsSomeWith o (HoldsParts (new c p i n).held (greens_of d p))
          there None none each = absurd none
          there (Some b) is each = each b refl

    own-list : ListAt d p
    own-list = at (hand-turned c p i n) where
      at : Turned n.replica (new c p i n) n.next.message → ListAt d p
      at (Quiet quiet) = list-quiet c d p n.replica (new c p i n) (attempts-kept c (Hands p)) conf-now (running-now c p i n) after quiet (greens-same c p i may n) (old p)
      at (Installs done) = list-none d p (Some (new c p i n)) after (installed-not (new c p i n).state done.after)
      at (Decides conf heard ends decided) = list-none d p (Some (new c p i n)) after (ap is_attempting decided.state)
      at (Attempts conf heard ends attempted) = begins-list conf heard ends attempted

    hands-list : AttemptList d
    unfolding small_step
    hands-list =
        let step = hands-step c p i.net.phase_sound (hands-regular c p may) in
        let part = take_next c.world.group p in
        one-list c d p (phase_of c.world.group p) (suc (delivered_to c.world.group p)) true
        (record {
          stands = step.stands;
          told = stays-told c d (told-same c (Hands p) tt);
          replica = λ q other. replica-turning (handed_next c p) p part q other;
          greens = λ q other. greens-turning (handed_next c p) p part q other;
        }) (attempts-kept c (Hands p)) own-list old

-- at the start nobody is in an attempt
fresh-none : (set : List Weighted) (list : List ℕ) (w : World) → ((q : ℕ) → IfSome (replica_of w q) (λ r. is_attempting r.state ≡ false)) → (q : ℕ) → IfSome (replica_of (fold (begin_replica set) w list) q) (λ r. is_attempting r.state ≡ false)
fresh-none set [] w none = none
fresh-none set (p ∷ list) w none = fresh-none set list (begin_replica set w p) (λ q.
    let r = fresh p set in
    subst (λ (o : Option Replica). IfSome o (λ r. is_attempting r.state ≡ false)) (sym (replica-set (name_also w p) p (Up r (new_disk r.held)) q)) (either (q == p) (replica_of w q) (none q))) where
      either : (b : Bool) (o : Option Replica) → IfSome o (λ r. is_attempting r.state ≡ false) → IfSome (cond b (Some (fresh p set)) o) (λ r. is_attempting r.state ≡ false)
      either true o none = refl
      either false o none = none

starts-list : (c : Chronicle) (set : List Weighted) → c ≡ no_chronicle → AttemptList (start c set)
starts-list c set is = subst (λ (x : Chronicle). AttemptList (start x set)) (sym is)
    (λ q. (let d = start no_chronicle set in list-none d q (replica_of d.world q) refl (fresh-none set (ids set) no_chronicle.world (λ q. tt) q)))

-- Each small step keeps it.
pub attempt_list-kept : (c : Chronicle) (s : Small) → Invariant c → may_make c s ≡ true → PartsBooked c → AttemptList (small_step c s)
unfolding small_step may_make
attempt_list-kept c (Starts set) i may parts = starts-list c set (nothing-before c i.net.hosted (and_parts (is_nil c.world.nodes) (is_set (ids set)) may).0)
attempt_list-kept c (Makes set) i may parts = makes-list c i set
attempt_list-kept c (Enters p) i may parts = enters-list c i p may
attempt_list-kept c (Orders p) i may parts = orders-list c i p may
attempt_list-kept c (Receives p place) i may parts = receives-list c i p place may
attempt_list-kept c (Hands p) i may parts = hands-list c i p may (hands-now c p i may) parts
attempt_list-kept c (Leaves p set own places) i may parts = leaves-list c i p set own places may
attempt_list-kept c (Asks p kind) i may parts = asks-list c i p kind may
attempt_list-kept c (Settles p) i may parts = settles-list c i p may
attempt_list-kept c (Commits p) i may parts = commits-list c i p may
attempt_list-kept c (Crashes p) i may parts = crashes-list c i p may
attempt_list-kept c (Recovers p) i may parts = recovers-list c i p may
attempt_list-kept c (Copies p joiner) i may parts = copies-list c i p joiner
attempt_list-kept c (Joins joiner) i may parts = joins-list c i joiner may

-- Who installs its attempt in leaving covers its level behind it: its greens are the installation, and its yellow names begin with those of the
-- row of places that all who are out have received.
use Rattle.std.proofs.Common.{IfSome, List, Option, Some, [], ap, append-nil, arith, eq-eqb, eqb-true, false, filter_map, inl, inr, is_some, length, refl, subst, suc, sym, take, true, zero, ℕ, ◌++◌, ◌+◌, ◌-◌, ◌<◌, ◌∙◌, ◌∷◌, ◌≡◌, ◌≤◌}
use Rattle.std.proofs.lemmas.Bool.{cond-true}
use Rattle.std.proofs.lemmas.List.Sums.{fold-append}
use Rattle.std.specs.Option.{option_map_or}
use Rattle.std.specs.Prelude.{◌==◌}
use Rattle.cg_action.specs.declared.action.Action.{Action}
use Rattle.cg_agree.proofs.ActsNext.{ended-next, may-stand, not-silent, numbered-next, talk-next}
use Rattle.cg_agree_lemmas.specs.ActsSaid.{acts-of}
use Rattle.cg_agree.proofs.AttemptSteps.{Installing, leaves-installing}
use Rattle.cg_agree_lemmas.specs.AttemptsTurn.{installed-attempts}
use Rattle.cg_agree.proofs.BeginsKept.{installed-same}
use Rattle.cg_agree_lemmas.specs.CoresKept.{greens-turn, held-known}
use Rattle.cg_agree.proofs.ExchangeSmalls.{replica-behind}
use Rattle.cg_agree.proofs.FactsKept.{attempt-now}
use Rattle.cg_agree_lemmas.specs.FrontFacts.{Front-refl}
use Rattle.cg_agree_lemmas.specs.GroupKept.{leaving-regular}
use Rattle.cg_agree_lemmas.specs.HandsKept.{Sits, hosted, some-at}
use Rattle.cg_agree_lemmas.specs.HandsNow.{whole-through}
use Rattle.cg_agree_lemmas.specs.InstallGreens.{HasInstalledAll, in-parting}
use Rattle.cg_agree.proofs.InstalledCountKept.{installed_count-kept}
use Rattle.cg_agree.proofs.InstalledParts.{installs-all, knows-all, none-acts, oneself-before, waits-announced}
use Rattle.cg_agree.proofs.LateRow.{InRow, Waits, Knows, Marked, row-message}
use Rattle.cg_agree.proofs.LeaverOutside.{acts_at, covers-outside, acts-split}
use Rattle.cg_agree.proofs.LeaverReach.{out-received}
use Rattle.cg_agree.proofs.LeaverStep.{LateCovers, places-may}
use Rattle.cg_agree.proofs.LevelsKept.{installed-primary, leaves-attempts, start-kept}
use Rattle.cg_agree_lemmas.specs.OneStands.{Stands}
use Rattle.cg_agree_lemmas.specs.OneSteps.{leaves-step}
use Rattle.cg_agree_lemmas.specs.PartingActs.{PartedBy, parting-by}
use Rattle.cg_agree_lemmas.specs.PlacesBegin.{places-begin}
use Rattle.cg_agree_lemmas.specs.ReachFacts.{outside-within}
use Rattle.cg_agree_lemmas.specs.RecordKept.{same-replica, turn-is}
use Rattle.cg_agree_lemmas.specs.StatesSaid.{IsAnnouncing, announcing}
use Rattle.cg_agree.proofs.TransKept.{TransAt}
use Rattle.cg_agree_lemmas.specs.TurnKinds.{HasInstalled}
use Rattle.cg_agree_lemmas.specs.TurnParts.{never-both}
use Rattle.cg_agree_lemmas.specs.YellowGrows.{places-keep}
use Rattle.cg_model.specs.Chronicle.{Attempt, Chronicle}
use Rattle.cg_model.specs.Facts.{Invariant}
use Rattle.cg_model.specs.FactsAttempts.{IsAttempt, LevelsStand}
use Rattle.cg_model.specs.FactsGreens.{CoversAsYellow, CoversLevel}
use Rattle.cg_model.specs.FactsNet.{IsPhase}
use Rattle.cg_model.specs.FactsReplica.{IsInPrimary, is_attempting, own_record}
use Rattle.cg_model.specs.FactsTalk.{IsStateIn, handed_talk, whole_talk}
use Rattle.cg_model.specs.Fronts.{Front}
use Rattle.cg_model.specs.Levels.{prim_at}
use Rattle.cg_model.specs.Looks.{attempt_at, conf_of, greens_of, is_member, is_regular_at, is_regular_in, members_in, ordered_in, received_outside, said_in, top_of, installation}
use Rattle.cg_model.specs.Played.{AtRest}
use Rattle.cg_model.specs.Small.{Leaves, leaving, newly_green, small_step, take_all, take_parting, installing}
use Rattle.cg_model.specs.Smalls.{ascend_within, hold_received, may_make}
use Rattle.cg_model.specs.Talk.{Talk, act_in, acts_in, hears, is_ended, known_up_to, no_talk, state_in, talk_of}
use Rattle.cg_model.specs.World.{Up, replica_of, node_of}
use Rattle.cg_base.specs.Cuts.{index_in}
use Rattle.cg_base.specs.Lists.{above_up_to, count_up}
use Rattle.cg_base.specs.Sets.{has}
use Rattle.cg_base.specs.FindLaws.{found_passes}
use Rattle.cg_client.specs.Replica.{Construct, Replica, State, TransPrim}
use Rattle.cg_client.specs.Requests.{is_creating}
use Rattle.cg_client.specs.Turn.{Turn, begin}
use Rattle.cg_states.specs.Construct.{attempt_set}
use Rattle.cg_group.specs.Events.{deliveries_at, delivery_at}
use Rattle.cg_group.specs.State.{Configuration, Sent, configuration, delivered_to, has_received, home, phase_of, regular_in}
use Rattle.cg_group.specs.declared.delivery.Delivery.TheVariants.{Message}
use Rattle.cg_group.specs.declared.phase.Phase.{Phase}
use Rattle.cg_group.specs.declared.phase.Phase.TheVariants.{Transitional}
use Rattle.cg_knowledge.specs.Summaries.{remaining}
use Rattle.cg_knowledge.specs.Verdict.{decides}
use Rattle.cg_queue.specs.Queue.{names_of}
use Rattle.cg_records.specs.declared.vulnerable.Vulnerable.{Vulnerable}
use Rattle.cg_disk_records.specs.Crash.{Disk}
use Rattle.cg_states.specs.ReplicaStep.{on_transitional, after_delivery as take_one}
use Rattle.cg_wire.specs.declared.message.Msg.{Msg}

module _ (c : Chronicle) (i : Invariant c) (p : ℕ) (r : Replica) (ins : Installing c p r) (attempting : is_attempting r.state ≡ true) where
  abbrev k : ℕ
  k = ins.conf

  abbrev set : List ℕ
  set = members_in c k

  abbrev list : List (Sent Msg)
  list = ordered_in c k

  abbrev low : ℕ
  low = delivered_to c.world.group p

  abbrev T : ℕ → Talk
  T n = talk_of (take n list)

  waits : r.state ≡ Construct k (T low).announced
  waits = waits-announced c i p r ins attempting

  state-is : r.state ≡ state_in set k (T low) p
  state-is = subst (λ (x : Phase). IsStateIn c p x r) ins.regular (subst (λ (o : Option Replica). IfSome o (IsStateIn c p (phase_of c.world.group p))) ins.up (i.talk.mode_fits p))

  announces : IsAnnouncing set (T low)
  announces = announcing set k (T low) p k (T low).announced (sym state-is ∙ waits)

  shape : IsAttempt c k ins.a
  shape = subst (λ (o : Option Attempt). IfSome o (IsAttempt c k)) ins.found (i.attempt.attempt_shape k)

  heard-is : (n : ℕ) → is_ended set (T n) ≡ true → (whole_talk c k).heard ≡ (T n).heard
  heard-is n ended = (whole-through c k p n i.talk.talk_legal ended).heard

  attempt-is : (n : ℕ) → is_ended set (T n) ≡ true → attempt_set r.held ≡ remaining (T n).heard
  attempt-is n ended = ap (λ v. option_map_or (λ (x : Vulnerable). x.set) v []) ins.mine ∙ shape.parts.set ∙ ap remaining (heard-is n ended)

  decided-is : (n : ℕ) → is_ended set (T n) ≡ true → decides (T n).heard ≡ true
  decided-is n ended = ap decides (sym (heard-is n ended)) ∙ shape.decided

  known-is : (n : ℕ) → is_ended set (T n) ≡ true → (creator : ℕ) → index_in r.held.queue.red_cut creator ≡ known_up_to (T n).heard creator
  known-is n ended q = knows-all c i p r ins attempting q ∙ ap (λ l. known_up_to l q) (heard-is n ended)

  silent : filter_map act_in (said_in c k p) ≡ []
  silent = (i.talk.sent_iff_due k p (ap (is_regular_at k) ins.regular ∙ eq-eqb k k refl)).actions (ap is_creating (sym state-is ∙ waits))

  abbrev In : ℕ → Turn → Type 0
  In n t = InRow c.start k p r.held (T n) t.replica

  -- the place behind so many
  place-row : (n : ℕ) (t : Turn) → n < length list → is_ended set (T n) ≡ true → In n t → (is_ended set (T (suc n)) ≡ true) × In (suc n) (take_all (delivery_at (conf_of c k) (suc n)) t)
  unfolding delivery_at take_one
  place-row n t lt ended is =
      let at = some-at list n lt in
      let s = at.0 in
      let may = may-stand c k n s i.talk at.1 in
      let next = talk-next c k n s i.talk at.1 in (
        ap (is_ended set) next ∙ ended-next c k n s i.talk at.1 ended,
        subst (λ (x : Talk). InRow c.start k p r.held x (take_all (delivery_at (conf_of c k) (suc n)) t).replica) (sym next)
            (subst (λ (o : Option (Sent Msg)). InRow c.start k p r.held (hears (T n) s) (take_all (option_map_or (λ s. Message (suc n) s.from s.message ∷ []) o []) t).replica) (sym at.1)
            (row-message c.start k p r.held (greens_of c p) (oneself-before c i p r ins attempting) ins.id set (T n) s.from ended (decided-is n ended) (attempt-is n ended) (known-is n ended)
            s.message may (λ a e. (numbered-next c k n s i.talk at.1 a e, not-silent c k n s i.talk at.1 a e p silent)) t is)),
      )

  -- a row, and places behind it
  row-yellow : (m n : ℕ) (places : List ℕ) (t : Turn) → Front (count_up (suc n) m) places → n + m ≤ length list → is_ended set (T n) ≡ true → In n t →
      Front (names_of (T (n + m)).acts) (take_all (deliveries_at (conf_of c k) places) t).replica.held.queue.yellow
  row-yellow zero n places t front le ended is =
      let e : n + 0 ≡ n = omega arith in
      subst (λ j. Front (names_of (T j).acts) (take_all (deliveries_at (conf_of c k) places) t).replica.held.queue.yellow) (sym e) (at is) where
        quietly : (T n).acts ≡ [] → Front (names_of (T n).acts) (take_all (deliveries_at (conf_of c k) places) t).replica.held.queue.yellow
        quietly none = subst (λ (xs : List Action). Front (names_of xs) (take_all (deliveries_at (conf_of c k) places) t).replica.held.queue.yellow) (sym none) tt

        at : In n t → Front (names_of (T n).acts) (take_all (deliveries_at (conf_of c k) places) t).replica.held.queue.yellow
        at (Waits few none state held) = quietly none
        at (Knows none state held) = quietly none
        at (Marked state all marked) =
            (places-keep (names_of (T n).acts) (conf_of c k) places t (state, subst (Front (names_of (T n).acts)) (sym marked.names) (Front-refl (names_of (T n).acts)))).1
  row-yellow (suc m) n [] t front le ended is = absurd front
  row-yellow (suc m) n (place ∷ places) t front le ended is =
      let one = place-row n t (omega (arith, le)) ended is in
      let e : n + suc m ≡ suc n + m = omega arith in
      let first = delivery_at (conf_of c k) place in
      subst (λ j. Front (names_of (T j).acts) (take_all (deliveries_at (conf_of c k) (place ∷ places)) t).replica.held.queue.yellow) (sym e)
      (subst (λ (u : Turn). Front (names_of (T (suc n + m)).acts) u.replica.held.queue.yellow) (sym (fold-append take_one t first (deliveries_at (conf_of c k) places)))
      (row-yellow m (suc n) places (take_all first t) front.1 (omega (arith, le)) one.0
      (subst (λ j. In (suc n) (take_all (delivery_at (conf_of c k) j) t)) front.0 one.1)))

  -- nothing of actions was handed before
  none-before : acts_in (take low list) ≡ []
  none-before = sym (acts-of (take low list) no_talk) ∙ none-acts c i p r ins attempting

  row-acts : (m : ℕ) → acts_at list (count_up (suc low) m) ≡ (T (low + m)).acts
  row-acts m = sym (acts-of (take (low + m) list) no_talk ∙ acts-split m low list ∙ ap (λ xs. xs ++ acts_at list (count_up (suc low) m)) none-before)

  is-home : home c.world.group p ≡ conf_of c k
  is-home = ap (λ x. configuration c.world.group (regular_in x)) ins.regular

  begins-row : In low (on_transitional r.state (begin r))
  unfolding on_transitional
  begins-row = subst (λ (s : State). In low (on_transitional s (begin r))) (sym waits) (Waits announces.few (none-acts c i p r ins attempting) refl refl)

  -- its yellow names begin with those of a row that its places begin with
  pub late-yellow : (g : List ℕ) (last : ℕ) (places : List ℕ) → Front (above_up_to low last) places → last ≤ length list →
      Front (names_of (acts_at list (above_up_to low last))) (take_parting c.world.group p g places (begin r)).replica.held.queue.yellow
  unfolding take_one
  late-yellow g last places front within =
      let m = last - low in
      let there = (subst (IsPhase c p low) ins.regular (i.net.phase_sound.phase p)).1 in
      subst (λ (x : Configuration Msg). Front (names_of (acts_at list (above_up_to low last))) (take_all (deliveries_at x places) (on_transitional r.state (begin r))).replica.held.queue.yellow) (sym is-home)
      (subst (λ (xs : List Action). Front (names_of xs) (take_all (deliveries_at (conf_of c k) places) (on_transitional r.state (begin r))).replica.held.queue.yellow) (sym (row-acts m))
      (row-yellow m low places (on_transitional r.state (begin r)) front (omega (arith, there, within)) announces.ended begins-row))

-- ---- the level behind it

module _ (c : Chronicle) (p : ℕ) (set : List ℕ) (own : ℕ) (places : List ℕ) (i : Invariant c) (may : may_make c (Leaves p set own places) ≡ true) (rest : AtRest c (Leaves p set own places)) where
  abbrev d : Chronicle
  d = small_step c (Leaves p set own places)

  stands : Stands c.world.group d.world.group p (Transitional (regular_in (phase_of c.world.group p)) set) own true
  stands = (leaves-step c p set own places i.net.phase_sound (leaving-regular c p set own places may)).stands

  module _ (r : Replica) (disk : Disk) (node : node_of c.world p ≡ Some (record { id = p; life = Up r disk })) (done : HasInstalled r (take_parting c.world.group p set places (begin r)).replica)
      (ins : Installing c p r) where
    abbrev u : Replica
    u = (take_parting c.world.group p set places (begin r)).replica

    abbrev level : ℕ
    level = u.held.prim.index

    by : HasInstalledAll r u × (u.state ≡ TransPrim)
    by = in-parting c.start (greens_of c p) r (oneself-before c i p r ins done.before) c.world.group p set places ins.conf (handed_talk c ins.conf p).announced (waits-announced c i p r ins done.before) done.after

    after : replica_of d.world p ≡ Some u
    unfolding small_step
    after = replica-behind (leaving c p set own) p (take_parting c.world.group p set places) r disk node

    green : greens_of d p ≡ greens_of c p ++ newly_green r u
    unfolding small_step
    green = ap (λ (x : Chronicle). greens_of x p) (turn-is (leaving c p set own) p (take_parting c.world.group p set places) r disk node)
        ∙ greens-turn (leaving c p set own) p r disk (take_parting c.world.group p set places (begin r)) i.net.hosted.past node

    attempts : d.attempts ≡ installing p c.attempts (Some (own_record ins.a p))
    attempts = leaves-attempts c p set own places r disk node ∙ installed-attempts c.attempts p (greens_of c p ++ newly_green r u) r u done ∙ ap (installing p c.attempts) ins.mine

    primary : IsInPrimary d u.held ins.conf
    primary = installed-primary c (Leaves p set own places) i may (start-kept c (Leaves p set own places) tt) p r u ins done done.before attempts

    here : (attempt_at d level).conf ≡ ins.conf
    here = eqb-true (attempt_at d level).conf ins.conf (found_passes (λ (a : Attempt). a.conf == ins.conf) d.attempts (attempt_at d level) primary.opened)

    still : conf_of d ins.conf ≡ conf_of c ins.conf
    still = stands.conf ins.conf

    ordered : ordered_in d ins.conf ≡ ordered_in c ins.conf
    ordered = ap (λ (x : Configuration Msg). x.ordered) still

    member : is_member d ins.conf p ≡ true
    member = ap (λ (x : Configuration Msg). has x.members p) still ∙ (subst (IsPhase c p (delivered_to c.world.group p)) ins.regular (i.net.phase_sound.phase p)).0

    out : is_regular_in d ins.conf p ≡ false
    out = ap (is_regular_at ins.conf) (stands.phase p ∙ cond-true (p == p) (Transitional (regular_in (phase_of c.world.group p)) set) (phase_of c.world.group p) (eq-eqb p p refl))

    line : greens_of d p ≡ installation (attempt_at d level) ++ acts_in (take (delivered_to c.world.group p) (ordered_in d ins.conf))
    line =
        green ∙ installs-all c i p r ins done.before u by.0 ∙ sym (installed-same c (Leaves p set own places) i may (start-kept c (Leaves p set own places) tt) p r u ins done attempts)
        ∙ sym (append-nil (installation (attempt_at d level)))
        ∙ ap (λ xs. installation (attempt_at d level) ++ xs) (sym (none-before c i p r ins done.before) ∙ ap (λ xs. acts_in (take (delivered_to c.world.group p) xs)) (sym ordered))

    begins : (last : ℕ) → last ≡ received_outside d ins.conf → Front (above_up_to (delivered_to c.world.group p) last) places × (last ≤ length (ordered_in c ins.conf))
    begins last is =
        let low = delivered_to c.world.group p in
        let fine = subst (λ (x : Configuration Msg). (ascend_within low (length x.ordered) places ≡ true) × (hold_received x p low places ≡ true)) (is-home c i p r ins done.before) (places-may c p set own places may) in
        let inside : last ≤ length (ordered_in c ins.conf) = subst (λ n. n ≤ length (ordered_in c ins.conf)) (sym is) (subst (λ xs. received_outside d ins.conf ≤ length xs) ordered (outside-within d ins.conf)) in (
          places-begin (conf_of c ins.conf) p low last places fine.0 fine.1 inside (λ n above within. ap (λ (x : Configuration Msg). has_received x p n) (sym still)
              ∙ out-received d ins.conf p member out n above (subst (λ m. n ≤ m) is within)),
          inside,
        )

    yellow : Front (names_of (acts_at (ordered_in d ins.conf) (above_up_to (delivered_to c.world.group p) (received_outside d ins.conf)))) u.held.queue.yellow
    yellow =
        let last = received_outside d ins.conf in
        let b = begins last refl in
        subst (λ xs. Front (names_of (acts_at xs (above_up_to (delivered_to c.world.group p) last))) u.held.queue.yellow) (sym ordered)
        (late-yellow c i p r ins done.before set last places b.0 b.1)

    stand : LevelsStand d
    stand = (attempt-now c (Leaves p set own places) i may rest).levels_stand

    covers : CoversLevel d level (names_of (greens_of d p) ++ u.held.queue.yellow)
    covers =
        let known = (held-known (λ h all. (h.prim.index ≤ top_of d) × (h.prim ≡ prim_at d h.prim.index)) d p u after stand.known).0 in
        let from = primary.index in
        covers-outside d ins.conf p level (delivered_to c.world.group p) (greens_of d p) u.held.queue.yellow stand (installed_count-kept c (Leaves p set own places) i may rest i.attempt.left_out)
        (omega (arith, from)) known here member out line yellow

    at-level : TransAt d p
    at-level =
        subst (λ (o : Option Replica). IfSome o (λ r. CoversAsYellow d r.held (greens_of d p) r.state)) (sym after)
        (subst (CoversAsYellow d u.held (greens_of d p)) (sym by.1) covers)

  -- Who installs its attempt in its parting covers its level behind it.
  pub late-covers : LateCovers c p set own places
  late-covers r up done = at (parting-by c.world.group p set places r) where
    sits : Sits c.world p
    sits = hosted c.world p (ap is_some up)

    same : sits.replica ≡ r
    same = same-replica c p sits.replica r sits.disk sits.node up

    at : PartedBy (home c.world.group p) r (take_parting c.world.group p set places (begin r)).replica → TransAt d p
    at (inl quiet) = absurd (never-both (take_parting c.world.group p set places (begin r)).replica.state (quiet.attempting ∙ done.before) done.after)
    at (inr both) =
        let ins = leaves-installing c i p set own places may r (take_parting c.world.group p set places (begin r)).replica up done both.1 in
        at-level r sits.disk (subst (λ (x : Replica). node_of c.world p ≡ Some (record { id = p; life = Up x sits.disk })) same sits.node) done ins

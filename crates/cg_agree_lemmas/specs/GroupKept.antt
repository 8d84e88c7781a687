-- Every small step keeps the group facts: phases are sound, members alone receive, with a place the earlier ones of its sender, and
-- what was handed to a member all have received.
use Rattle.std.proofs.Common.{◌≡◌, ℕ, suc, ◌<◌, ◌≤◌, Bool, true, false, cond, not, ◌&&◌, List, [], ◌∷◌, length, fold, Option, refl, sym, ap, subst, ◌∙◌, arith, eqb-true, ⊎_elim, ◌⊎◌, inl, inr, is_some}
use Rattle.std.specs.Prelude.{◌==◌, nat_lt}
use Rattle.std.specs.Option.{option_map_or}
use Rattle.std.proofs.lemmas.Bool.{cases_lt, and_parts, ltb-true, not-true}
use Rattle.cg_base.specs.declared.weighted.Weighted.{Weighted}
use Rattle.cg_base.specs.Weights.{ids}
use Rattle.cg_base.specs.Sets.{has}
use Rattle.cg_wire.specs.declared.message.Msg.{Msg}
use Rattle.cg_group.specs.declared.phase.Phase.{Phase}
use Rattle.cg_group.specs.declared.phase.Phase.TheVariants.{Down, Alone, Regular, Transitional}
use Rattle.cg_group.specs.State.{GroupState, Standing, standing_of, phase_of, is_up, is_regular, regular_in, delivered_to, configuration, set_standing, set_configuration}
use Rattle.cg_group.specs.Events.{with_message, with_receipt}
use Rattle.cg_group.specs.Ready.{ready, ready_in, all_received}
use Rattle.cg_group.specs.LookupLaws.{configuration-set, standing_of-set_configuration}
use Rattle.cg_group.specs.PlaceLaws.{ready-all_received}
use Rattle.cg_group.specs.GrownLaws.{Grows-message, Grows-receipt}
use Rattle.cg_client.specs.Replica.{fresh}
use Rattle.cg_client.specs.Requests.{settle}
use Rattle.cg_disk_records.specs.Crash.{new_disk}
use Rattle.cg_model.specs.World.{Up, World, replica_of, has_begun}
use Rattle.cg_model.specs.Step.{begin_replica}
use Rattle.cg_model.specs.Chronicle.{Chronicle}
use Rattle.cg_model.specs.Looks.{conf_of, is_regular_at, members_in, ordered_in, received_by_all}
use Rattle.cg_model.specs.FactsNet.{PhaseSound, IsPhase, HandedReceived, Hosted}
use Rattle.cg_model.specs.Small.{Small, Starts, Makes, Enters, Orders, Receives, Hands, Leaves, Asks, Settles, Commits, Crashes, Recovers, Copies, Joins, small_step, with_group, newest_conf, take_request}
use Rattle.cg_model.specs.Smalls.{may_make, is_running, ascend_within, hold_received, hold_earlier}
use Rattle.cg_agree_lemmas.specs.ConfSound.{ConfSound, by_all, receipt-sound, message-sound}
use Rattle.cg_agree_lemmas.specs.GroupSound.{GroupSound, ConfStep, sound-one, sound-grown, sound-made}
use Rattle.cg_agree_lemmas.specs.GroupTurn.{put-same}
use Rattle.cg_agree_lemmas.specs.HandsKept.{regular-phase, next-there}
use Rattle.cg_agree_lemmas.specs.NextThere.{orders-now, ReceivesNow, receives-now}
use Rattle.cg_agree_lemmas.specs.OneStands.{Stands, stands-own, stands-up}
use Rattle.cg_agree_lemmas.specs.OneSteps.{OneStep, turns-step, hands-step, leaves-step, enters-step, commits-step, copies-step, crashes-step, recovers-step, joins-step, may-join, may-enter, runs-set, begun-more}
use Rattle.cg_agree_lemmas.specs.OrdersWorld.{OrdersAt, step-is, conf-is, now}
use Rattle.cg_agree_lemmas.specs.Reach.{reaches, passes}
use Rattle.cg_agree_lemmas.specs.SmallTalk.{receive-is}
use Rattle.cg_model.specs.Played.{with_world}

-- a step in which a replica stands as before
same-sound : (c d : Chronicle) (p : ℕ) → OneStep c d p (phase_of c.world.group p) (delivered_to c.world.group p) (is_up c.world.group p) → GroupSound c → GroupSound d
same-sound c d p step old =
    let g = c.world.group in
    sound-one c d p (phase_of g p) (delivered_to g p) (is_up g p) step (old.phases.phase p) (λ k regular. old.handed k p regular) old

-- ---- a place is handed

-- the next place every member has received
next-received : (c : Chronicle) (p conf : ℕ) → phase_of c.world.group p ≡ Regular conf → nat_lt 0 (ready c.world.group p) ≡ true → delivered_to c.world.group p ≤ received_by_all c conf →
    suc (delivered_to c.world.group p) ≤ received_by_all c conf
next-received c p conf regular may far =
    let g = c.world.group in
    let n = delivered_to g p in
    let C = conf_of c conf in
    let within : n < length (ordered_in c conf) = next-there c p conf regular may in
    let some : 0 < ready g p = ltb-true 0 (ready g p) may in
    let at : ready g p ≡ ready_in C n = ap (λ x. ready_in (configuration g x) n) (ap regular_in regular) in
    reaches (all_received C) (length C.ordered) (suc n) (omega arith) (λ k above le. ⊎_elim
    (λ (lt : n < k). ready-all_received C n 1 k (omega arith) lt (omega arith))
    (λ (before : k ≤ n). passes (all_received C) (length C.ordered) k above (omega arith))
    (cases_lt n k))

hands-sound : (c : Chronicle) (p : ℕ) → may_make c (Hands p) ≡ true → GroupSound c → GroupSound (small_step c (Hands p))
unfolding may_make
hands-sound c p may old =
    let g = c.world.group in
    let parts = and_parts (is_regular g p) (nat_lt 0 (ready g p)) may in
    let phase = regular-phase (phase_of g p) parts.0 in
    let own = subst (IsPhase c p (delivered_to g p)) phase.is (old.phases.phase p) in
    let lt : delivered_to g p < length (ordered_in c phase.at) = next-there c p phase.at phase.is parts.1 in
    sound-one c (small_step c (Hands p)) p (phase_of g p) (suc (delivered_to g p)) true (hands-step c p old.phases parts.0)
    (subst (IsPhase c p (suc (delivered_to g p))) (sym phase.is) (own.0, omega arith))
    (λ k regular. next-received c p k (the-phase k (phase_of g p) regular) parts.1 (old.handed k p regular)) old where
      the-phase : (k : ℕ) (x : Phase) → is_regular_at k x ≡ true → x ≡ Regular k
      the-phase k Down e = absurd (let clash : false ≡ true = e in cc)
      the-phase k Alone e = absurd (let clash : false ≡ true = e in cc)
      the-phase k (Regular at) e = ap Regular (eqb-true at k e)
      the-phase k (Transitional at set) e = absurd (let clash : false ≡ true = e in cc)

-- ---- entering and leaving

enters-sound : (c : Chronicle) (p : ℕ) → may_make c (Enters p) ≡ true → GroupSound c → GroupSound (small_step c (Enters p))
unfolding may_make
enters-sound c p may old =
    let parts = may-enter c p may in
    sound-one c (small_step c (Enters p)) p (Regular (newest_conf c.world.group)) 0 true (enters-step c p old.phases parts.comes) (parts.member, omega arith) (λ k regular. omega arith) old

pub leaving-regular : (c : Chronicle) (p : ℕ) (set : List ℕ) (own : ℕ) (places : List ℕ) → may_make c (Leaves p set own places) ≡ true → is_regular c.world.group p ≡ true
unfolding may_make
leaving-regular c p set own places may =
    let g = c.world.group in
    let c' = configuration g (regular_in (phase_of g p)) in
    let low = delivered_to g p in
    let one = and_parts (is_regular g p && ascend_within low (length c'.ordered) places && hold_received c' p low places) (hold_earlier c' low places) may in
    let two = and_parts (is_regular g p && ascend_within low (length c'.ordered) places) (hold_received c' p low places) one.0 in
    (and_parts (is_regular g p) (ascend_within low (length c'.ordered) places) two.0).0

leaves-sound : (c : Chronicle) (p : ℕ) (set : List ℕ) (own : ℕ) (places : List ℕ) → may_make c (Leaves p set own places) ≡ true → GroupSound c → GroupSound (small_step c (Leaves p set own places))
leaves-sound c p set own places may old =
    let g = c.world.group in
    let regular = leaving-regular c p set own places may in
    let phase = regular-phase (phase_of g p) regular in
    let member = (subst (IsPhase c p (delivered_to g p)) phase.is (old.phases.phase p)).0 in
    sound-one c (small_step c (Leaves p set own places)) p (Transitional (regular_in (phase_of g p)) set) own true (leaves-step c p set own places old.phases regular)
    (subst (λ (x : Phase). has (members_in c (regular_in x)) p ≡ true) (sym phase.is) member) (λ k out. absurd (let clash : false ≡ true = out in cc)) old

-- ---- a message gets its place, a place is received

standing-ordered : (c : Chronicle) (p conf : ℕ) (s : Standing Msg) (m : Msg) (rest : List Msg) (h : OrdersAt c p conf s m rest) →
    Stands c.world.group (set_standing c.world.group (record s { unordered = rest })) p (phase_of c.world.group p) (delivered_to c.world.group p) (is_up c.world.group p)
standing-ordered c p conf s m rest h =
    stands-own c.world.group p s (record s { unordered = rest }) h.standing refl refl (delivered_to c.world.group p)
    (sym (ap (λ (o : Option (Standing Msg)). option_map_or (λ s. s.delivered) o 0) h.standing))

same-there : {X : Type 0} (f : ℕ → X) (p q : ℕ) → cond (q == p) (f p) (f q) ≡ f q
same-there f p q = put-same f p (f p) refl q

pub orders-conf : (c : Chronicle) (p conf : ℕ) (s : Standing Msg) (m : Msg) (rest : List Msg) (h : OrdersAt c p conf s m rest) → ConfStep c (small_step c (Orders p)) conf (with_message (conf_of c conf) p m)
orders-conf c p conf s m rest h =
    let g = c.world.group in
    let stood = standing-ordered c p conf s m rest h in
    let one' : GroupState Msg = set_standing g (record s { unordered = rest }) in
    let look : (q : ℕ) → standing_of (set_configuration one' conf (with_message (conf_of c conf) p m)) q ≡ standing_of one' q = λ q. standing_of-set_configuration one' conf (with_message (conf_of c conf) p m) q in
    subst (λ d. ConfStep c d conf (with_message (conf_of c conf) p m)) (sym (step-is c p conf s m rest h)) (record {
      changed = λ k. conf-is c p conf s m rest h k;
      phase = λ q. ap (λ (o : Option (Standing Msg)). option_map_or (λ s. s.phase) o Down) (look q) ∙ stood.phase q ∙ same-there (phase_of g) p q;
      delivered = λ q. ap (λ (o : Option (Standing Msg)). option_map_or (λ s. s.delivered) o 0) (look q) ∙ stood.delivered q ∙ same-there (delivered_to g) p q;
      up = λ q. ap (λ (o : Option (Standing Msg)). is_some o) (look q) ∙ stood.up q ∙ same-there (is_up g) p q;
      runs = λ q. refl;
    })

orders-sound : (c : Chronicle) (p : ℕ) → may_make c (Orders p) ≡ true → GroupSound c → GroupSound (small_step c (Orders p))
orders-sound c p may old =
    let next = orders-now c p old.phases (λ k. (old.confs k).places) may in
    let C = conf_of c next.conf in
    sound-grown c (small_step c (Orders p)) next.conf (with_message C p next.message) (orders-conf c p next.conf next.stands next.message next.rest next.at)
    p (Grows-message C p next.message (old.confs next.conf).places) (message-sound C p next.message (old.confs next.conf) next.member) old

pub receives-conf : (c : Chronicle) (p place : ℕ) (h : ReceivesNow c p place) → ConfStep c (small_step c (Receives p place)) h.conf (with_receipt (conf_of c h.conf) p place)
unfolding small_step
receives-conf c p place h =
    let g = c.world.group in
    let D = with_receipt (conf_of c h.conf) p place in
    let look : (q : ℕ) → standing_of (set_configuration g h.conf D) q ≡ standing_of g q = λ q. standing_of-set_configuration g h.conf D q in
    subst (λ (x : GroupState Msg). ConfStep c (with_group c x) h.conf D) (sym (receive-is c p h.conf place h.regular h.number h.there)) (record {
      changed = λ k. configuration-set g h.conf D h.number h.there k;
      phase = λ q. ap (λ (o : Option (Standing Msg)). option_map_or (λ s. s.phase) o Down) (look q);
      delivered = λ q. ap (λ (o : Option (Standing Msg)). option_map_or (λ s. s.delivered) o 0) (look q);
      up = λ q. ap (λ (o : Option (Standing Msg)). is_some o) (look q);
      runs = λ q. refl;
    })

receives-sound : (c : Chronicle) (p place : ℕ) → may_make c (Receives p place) ≡ true → GroupSound c → GroupSound (small_step c (Receives p place))
receives-sound c p place may old =
    let next = receives-now c p place old.phases may in
    let C = conf_of c next.conf in
    sound-grown c (small_step c (Receives p place)) next.conf (with_receipt C p place) (receives-conf c p place next)
    p (Grows-receipt C p place next.above next.within (old.confs next.conf).places) (receipt-sound C p place (old.confs next.conf) next.member next.above next.within next.earlier) old

-- ---- replicas begin

alone-sound : (c d : Chronicle) (p : ℕ) (is : Bool) (now : Phase) → (now ≡ Alone) ⊎ (now ≡ Down) → OneStep c d p now 0 is → GroupSound c → GroupSound d
alone-sound c d p is now which step old = ⊎_elim
    (λ e. let at = subst (λ x. OneStep c d p x 0 is) e step in sound-one c d p Alone 0 is at tt (λ k out. absurd (let clash : false ≡ true = out in cc)) old)
    (λ e. let at = subst (λ x. OneStep c d p x 0 is) e step in sound-one c d p Down 0 is at tt (λ k out. absurd (let clash : false ≡ true = out in cc)) old) which

pub begins-step : (c : Chronicle) (set : List Weighted) (w : World) (p : ℕ) → OneStep (with_world c w) (with_world c (begin_replica set w p)) p Alone 0 true
begins-step c set w p = record {
  stands = stands-up w.group p;
  runs = λ q. runs-set w p (Up (fresh p set) (new_disk (fresh p set).held)) q;
  begun = λ q was. begun-more w p (Up (fresh p set) (new_disk (fresh p set).held)) q was;
}

begun-sound : (c : Chronicle) (set : List Weighted) (replicas : List ℕ) (w : World) → GroupSound (with_world c w) → GroupSound (with_world c (fold (begin_replica set) w replicas))
begun-sound c set [] w old = old
begun-sound c set (p ∷ replicas) w old =
    begun-sound c set replicas (begin_replica set w p) (alone-sound (with_world c w) (with_world c (begin_replica set w p)) p true Alone (inl refl) (begins-step c set w p) old)

-- two chronicles of one world
same-world : (c d : Chronicle) → d.world ≡ c.world → GroupSound c → GroupSound d
same-world c d e old = record {
  phases = record { phase = λ q. at q (phase_of d.world.group q) (now q); up = λ q. subst (λ (w : World). is_some (replica_of w q) ≡ is_up w.group q) (sym e) (old.phases.up q) };
  confs = λ k. subst (λ (w : World). ConfSound (configuration w.group k)) (sym e) (old.confs k);
  handed = λ k q regular. subst (λ (w : World). delivered_to w.group q ≤ by_all (configuration w.group k)) (sym e)
      (old.handed k q (ap (λ (w : World). is_regular_at k (phase_of w.group q)) (sym e) ∙ regular));
} where
  now : (q : ℕ) → IsPhase c q (delivered_to d.world.group q) (phase_of d.world.group q)
  now q = subst (λ (w : World). IsPhase c q (delivered_to w.group q) (phase_of w.group q)) (sym e) (old.phases.phase q)

  at : (q : ℕ) (x : Phase) → IsPhase c q (delivered_to d.world.group q) x → IsPhase d q (delivered_to d.world.group q) x
  at q Down h = h
  at q Alone h = h
  at q (Regular k) h = (
    ap (λ (w : World). has (configuration w.group k).members q) e ∙ h.0,
    subst (λ (w : World). delivered_to d.world.group q ≤ length (configuration w.group k).ordered) (sym e) h.1,
  )
  at q (Transitional k set) h = ap (λ (w : World). has (configuration w.group k).members q) e ∙ h

-- ---- all of them

pub group-kept : (c : Chronicle) (s : Small) → Hosted c → may_make c s ≡ true → GroupSound c → GroupSound (small_step c s)
unfolding small_step may_make
group-kept c (Starts set) nodes m old =
    let begun = begun-sound c set (ids set) c.world old in
    same-world (with_world c (fold (begin_replica set) c.world (ids set))) (small_step c (Starts set)) refl begun
group-kept c (Makes set) nodes m old = sound-made c (small_step c (Makes set)) set refl (λ q. refl) old
group-kept c (Enters p) nodes m old = enters-sound c p m old
group-kept c (Orders p) nodes m old = orders-sound c p m old
group-kept c (Receives p place) nodes m old = receives-sound c p place m old
group-kept c (Hands p) nodes m old = hands-sound c p m old
group-kept c (Leaves p set own places) nodes m old = leaves-sound c p set own places m old
group-kept c (Asks p kind) nodes m old = same-sound c (small_step c (Asks p kind)) p (turns-step c p (take_request kind) old.phases) old
group-kept c (Settles p) nodes m old = same-sound c (small_step c (Settles p)) p (turns-step c p settle old.phases) old
group-kept c (Commits p) nodes m old = same-sound c (small_step c (Commits p)) p (commits-step c p old.phases) old
group-kept c (Crashes p) nodes m old = alone-sound c (small_step c (Crashes p)) p false Down (inr refl) (crashes-step c p m) old
group-kept c (Recovers p) nodes m old =
    let parts = and_parts (has_begun c.world p) (not (is_running c p)) m in
    alone-sound c (small_step c (Recovers p)) p true Alone (inl refl) (recovers-step c p nodes parts.0 (not-true (is_running c p) parts.1)) old
group-kept c (Copies p joiner) nodes m old = same-sound c (small_step c (Copies p joiner)) p (copies-step c p joiner old.phases) old
group-kept c (Joins joiner) nodes m old = alone-sound c (small_step c (Joins joiner)) joiner true Alone (inl refl) (joins-step c joiner (may-join c joiner m)) old

pub phase_sound-kept : (c : Chronicle) (s : Small) → Hosted c → may_make c s ≡ true → GroupSound c → PhaseSound (small_step c s)
phase_sound-kept c s nodes may old = (group-kept c s nodes may old).phases

pub handed_received-kept : (c : Chronicle) (s : Small) → Hosted c → may_make c s ≡ true → GroupSound c → HandedReceived (small_step c s)
handed_received-kept c s nodes may old = (group-kept c s nodes may old).handed

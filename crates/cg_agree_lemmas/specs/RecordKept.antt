-- A record is of an attempt that its holder has entered: every small step keeps it.
use Rattle.std.proofs.Common.{◌⊎◌, ◌≡◌, ℕ, ◌≤◌, true, false, not, ◌||◌, List, [], ◌∷◌, ◌++◌, Option, Some, None, IfSome, refl, sym, ap, ◌∙◌, subst, inl, inr, arith, eqb-true, eq-eqb}
use Rattle.std.specs.Prelude.{◌==◌, option_and_then}
use Rattle.std.specs.Option.{option_map_or}
use Rattle.std.proofs.lemmas.Bool.{cond-true, and_parts, and_from}
use Rattle.cg_base.specs.Sets.{has, is_within}
use Rattle.cg_base.specs.MemberLaws.{list_all_in}
use Rattle.cg_action.specs.declared.action.Action.{Action}
use Rattle.cg_records.specs.declared.primary.Primary.{Primary}
use Rattle.cg_records.specs.declared.vulnerable.Vulnerable.{Vulnerable}
use Rattle.cg_knowledge.specs.declared.summary.Summary.{Summary}
use Rattle.cg_knowledge.specs.Summaries.{remaining}
use Rattle.cg_knowledge.specs.Primary.{newest_index, known_primary}
use Rattle.cg_knowledge.specs.Vulnerable.{all_bits, decided}
use Rattle.cg_group.specs.State.{is_regular, configuration}
use Rattle.cg_model.specs.Attempts.{new_attempt}
use Rattle.cg_client.specs.Replica.{Held, State, RegPrim, TransPrim, ExchangeStates, ExchangeActions, Construct, No, Un, NonPrim, Left, Replica}
use Rattle.cg_client.specs.Turn.{Turn, begin}
use Rattle.cg_client.specs.Install.{prim_after}
use Rattle.cg_client.specs.Requests.{settle}
use Rattle.cg_disk_records.specs.Stored.{whiten, recovery_turn}
use Rattle.cg_disk_records.specs.Crash.{Disk}
use Rattle.cg_model.specs.World.{Up, Node, node_of, replica_of, running}
use Rattle.cg_model.specs.Chronicle.{Told, Attempt, Chronicle}
use Rattle.cg_model.specs.Looks.{greens_of, attempt_of}
use Rattle.cg_model.specs.Fronts.{IsSomeWith}
use Rattle.cg_model.specs.FactsTalk.{AreTold}
use Rattle.cg_model.specs.FactsExchange.{IsRecord, HasRecord, KnowsLevels}
use Rattle.cg_model.specs.FactsAttempts.{IsAttempt, RecordOfAttempt}
use Rattle.cg_model.specs.Facts.{Invariant}
use Rattle.cg_model.specs.Small.{Small, Starts, Makes, Enters, Orders, Receives, Hands, Leaves, Asks, Settles, Commits, Crashes, Recovers, Copies, Joins, after_turn, turning, turning_as, newly_green, take_newest, handed_next, take_next, take_parting, take_request, entering, with_entrant, attempts_behind, small_step, newest_conf}
use Rattle.cg_model.specs.Smalls.{may_make, is_between}
use Rattle.cg_agree_lemmas.specs.EndCovers.{OfEach}
use Rattle.cg_agree_lemmas.specs.EndCases.{has_bit}
use Rattle.cg_agree_lemmas.specs.Knowledge.{known-of, each-bounded, bits-all, bits-witnessed, some-sender, Cleared, Kept, becomes}
use Rattle.cg_agree_lemmas.specs.ReachFacts.{all-at}
use Rattle.cg_agree_lemmas.specs.CoresKept.{IsClosed, cores-weaker, held-known}
use Rattle.cg_agree_lemmas.specs.CoresSmall.{StepKeeps, ready-of, cores-kept}
use Rattle.cg_agree_lemmas.specs.AttemptsGrow.{Grow, attempts-grow}
use Rattle.cg_agree_lemmas.specs.AttemptsTurn.{at_conf, entered-now, entrant-has, attempted-attempts}
use Rattle.cg_agree_lemmas.specs.TurnValues.{SameValues, even-own_to_red}
use Rattle.cg_agree_lemmas.specs.TurnKinds.{IsQuiet, HasInstalled, HasDecided, HasAttempted, new_record, Turned, Quiet, Installs, Decides, Attempts}
use Rattle.cg_agree_lemmas.specs.TurnParts.{HasParted, settle-quiet, request-quiet, parting-turned, record_left, HasCome, newest-come}
use Rattle.cg_agree_lemmas.specs.HandsNow.{HandsNow, hands-now, new, hand-turned, running-now}
use Rattle.cg_agree_lemmas.specs.OneSteps.{may-enter}
use Rattle.cg_agree_lemmas.specs.PlanEnd.{AtPlanEnd, is_behind, plan-end, told-each, mine-among}

-- ---- a record stays one

pub recorded-later : (c d : Chronicle) (p low high : ℕ) (v : Option Vulnerable) → Grow c.attempts d.attempts → low ≤ high → HasRecord c p low v → HasRecord d p high v
recorded-later c d p low high None grow le is = tt
recorded-later c d p low high (Some v) grow le is = (is.0, (let from = is.1 in omega arith), at (attempt_of c v.attempt) refl is.2) where
  within : (bits xs ys : List ℕ) → ((q : ℕ) → has xs q ≡ true → has ys q ≡ true) → is_within bits xs ≡ true → is_within bits ys ≡ true
  within [] xs ys more is = refl
  within (q ∷ bits) xs ys more is = let parts = and_parts (has xs q) (is_within bits xs) is in and_from (has ys q) (is_within bits ys) (more q parts.0) (within bits xs ys more parts.1)

  at : (o : Option Attempt) → attempt_of c v.attempt ≡ o → IsSomeWith o (λ a. IsRecord a v) → IsSomeWith (attempt_of d v.attempt) (λ a. IsRecord a v)
  at None e is = absurd is
  at (Some a) e is =
      let now = grow.still v.attempt a e in
      subst (λ o. IsSomeWith o (λ a. IsRecord a v)) (sym now.found)
      ((is.0 ∙ sym now.grown.same.from), (is.1 ∙ sym now.grown.same.set), within v.bits a.entered now.now.entered now.grown.entered is.2)

-- of another with the same values
abbrev Recorded : Chronicle → Held → List Action → Type 0
Recorded c h all = HasRecord c h.id h.prim.index h.vulnerable

recorded-as : (c : Chronicle) (old new : Held) → new.id ≡ old.id → new.prim.index ≡ old.prim.index → new.vulnerable ≡ old.vulnerable →
    HasRecord c old.id old.prim.index old.vulnerable → HasRecord c new.id new.prim.index new.vulnerable
recorded-as c old new id index v is =
    subst (λ o. HasRecord c new.id new.prim.index o) (sym v) (subst (λ n. HasRecord c new.id n old.vulnerable) (sym index) (subst (λ n. HasRecord c n old.prim.index old.vulnerable) (sym id) is))

recorded-values : (c : Chronicle) (old new : Held) → SameValues old new → HasRecord c old.id old.prim.index old.vulnerable → HasRecord c new.id new.prim.index new.vulnerable
recorded-values c old new same is = recorded-as c old new same.id (ap (λ (x : Primary). x.index) same.prim) same.vulnerable is

recorded-closed : (d : Chronicle) → IsClosed (Recorded d)
unfolding whiten recovery_turn
recorded-closed d = record {
  whitened = λ h all is. is;
  stored = λ h all is. is;
  recovers = λ h all is. (let t = begin (record { held = h; state = NonPrim false }) in recorded-values d h (recovery_turn h).replica.held (even-own_to_red t).values is);
  joins = λ p h all is. tt;
}

-- ---- turns

record-quiet : (c d : Chronicle) (old new : Replica) → Grow c.attempts d.attempts → IsQuiet old new → HasRecord c old.held.id old.held.prim.index old.held.vulnerable →
    HasRecord d new.held.id new.held.prim.index new.held.vulnerable
record-quiet c d old new grow quiet is = recorded-values d old.held new.held quiet.values (recorded-later c d old.held.id old.held.prim.index old.held.prim.index old.held.vulnerable grow (omega arith) is)

record-installed : (c d : Chronicle) (old new : Replica) → Grow c.attempts d.attempts → HasInstalled old new → HasRecord c old.held.id old.held.prim.index old.held.vulnerable →
    HasRecord d new.held.id new.held.prim.index new.held.vulnerable
record-installed c d old new grow done is =
    let index : new.held.prim.index ≡ (prim_after old.held old.held.vulnerable).index = ap (λ (x : Primary). x.index) done.prim in
    let higher = rises old.held.vulnerable in
    subst (λ o. HasRecord d new.held.id new.held.prim.index o) (sym done.vulnerable) (subst (λ n. HasRecord d n new.held.prim.index old.held.vulnerable) (sym done.id)
    (subst (λ n. HasRecord d old.held.id n old.held.vulnerable) (sym index)
    (recorded-later c d old.held.id old.held.prim.index (prim_after old.held old.held.vulnerable).index old.held.vulnerable grow higher is))) where
      rises : (v : Option Vulnerable) → old.held.prim.index ≤ (prim_after old.held v).index
      rises None = omega arith
      rises (Some v) = omega arith

record-parted : (c d : Chronicle) (old new : Replica) → Grow c.attempts d.attempts → HasParted old new → HasRecord c old.held.id old.held.prim.index old.held.vulnerable →
    HasRecord d new.held.id new.held.prim.index new.held.vulnerable
record-parted c d old new grow (inl quiet) is = record-quiet c d old new grow quiet is
record-parted c d old new grow (inr done) is = record-installed c d old new grow done is

record-come : (c d : Chronicle) (old new : Replica) (conf : ℕ) (set : List ℕ) → Grow c.attempts d.attempts → HasCome old new conf set → HasRecord c old.held.id old.held.prim.index old.held.vulnerable →
    HasRecord d new.held.id new.held.prim.index new.held.vulnerable
record-come c d old new conf set grow come is =
    let before = left old.state (recorded-later c d old.held.id old.held.prim.index old.held.prim.index old.held.vulnerable grow (omega arith) is) in
    subst (λ o. HasRecord d new.held.id new.held.prim.index o) (sym come.vulnerable)
    (subst (λ n. HasRecord d new.held.id n (record_left old.state old.held.vulnerable)) (sym (ap (λ (x : Primary). x.index) come.prim))
    (subst (λ n. HasRecord d n old.held.prim.index (record_left old.state old.held.vulnerable)) (sym come.id) before)) where
      left : (state : State) → HasRecord d old.held.id old.held.prim.index old.held.vulnerable → HasRecord d old.held.id old.held.prim.index (record_left state old.held.vulnerable)
      left TransPrim is = tt
      left (No at heard) is = tt
      left RegPrim is = is
      left (ExchangeStates at all heard) is = is
      left (ExchangeActions at heard accepted) is = is
      left (Construct at heard) is = is
      left Un is = is
      left (NonPrim regular) is = is
      left Left is = is

-- ---- the end of a plan

-- an attempt of the configuration is what the summaries say
pub attempt-heard : (c : Chronicle) (conf : ℕ) (a : Attempt) (p : ℕ) (r : Replica) (heard : List Summary) → AtPlanEnd c p r conf heard → IsAttempt c conf a →
    (a.from ≡ (known_primary heard).index) × (a.set ≡ remaining heard)
attempt-heard c conf a p r heard end is =
    let known = known-of (λ s. Unit {0}) heard (some-sender heard p end.listed) (all heard) in
    ((is.parts.from ∙ ap newest_index end.whole ∙ sym (ap (λ (x : Primary). x.index) known.prim ∙ known.index)), (is.parts.set ∙ ap remaining end.whole)) where
      all : (heard : List Summary) → OfEach (λ s. Unit {0}) heard
      all [] = tt
      all (s ∷ heard) = (tt, all heard)

-- what is known of each summary's record
pub heard-records : (c : Chronicle) (conf : ℕ) (heard : List Summary) → Invariant c → AreTold c conf heard → OfEach (λ s. HasRecord c s.id s.prim.index s.vulnerable) heard
heard-records c conf heard i told =
    told-each c conf (λ s. HasRecord c s.id s.prim.index s.vulnerable)
    (λ q t e. (let known : KnowsLevels c t = subst (λ (o : Option Told). IfSome o (KnowsLevels c)) e (i.exchange.summary_of_sender.levels conf q) in known.has_record)) heard told

record-decided : (c d : Chronicle) (p conf : ℕ) (heard : List Summary) (old new : Replica) → Invariant c → Grow c.attempts d.attempts → AtPlanEnd c p old conf heard → old.held.id ≡ p →
    HasDecided heard old new → HasRecord c old.held.id old.held.prim.index old.held.vulnerable → HasRecord d new.held.id new.held.prim.index new.held.vulnerable
record-decided c d p conf heard old new i grow end id done is =
    let known = known-of (λ s. HasRecord c s.id s.prim.index s.vulnerable) heard (some-sender heard p end.listed) each in
    let index : (known_primary heard).index ≡ newest_index heard = ap (λ (x : Primary). x.index) known.prim ∙ known.index in
    let bound = mine-among c p old conf heard end (λ s. s.prim.index ≤ newest_index heard) (each-bounded heard) in
    let mine : old.held.prim.index ≡ end.mine.summary.prim.index = ap (λ (x : Primary). x.index) end.holds.prim in
    let le : old.held.prim.index ≤ (known_primary heard).index = omega (arith, index, bound, mine) in
    subst (λ o. HasRecord d new.held.id new.held.prim.index o) (sym done.vulnerable)
    (subst (λ n. HasRecord d new.held.id n (decided heard old.held.vulnerable)) (sym (ap (λ (x : Primary). x.index) done.prim))
    (subst (λ n. HasRecord d n (known_primary heard).index (decided heard old.held.vulnerable)) (sym (done.id))
    (recorded-later c d old.held.id (known_primary heard).index (known_primary heard).index (decided heard old.held.vulnerable) grow (omega arith) (at old.held.vulnerable refl le is))))
  where
    each : OfEach (λ s. HasRecord c s.id s.prim.index s.vulnerable) heard
    each = heard-records c conf heard i end.each

    entered : (v : Vulnerable) (a : Attempt) → attempt_of c v.attempt ≡ Some a → (q : ℕ) (w : Option Vulnerable) (n k : ℕ) → has_bit v.attempt q w ≡ true → HasRecord c n k w → has a.entered q ≡ true
    entered v a e q None n k bit record_of = absurd (let clash : false ≡ true = bit in cc)
    entered v a e q (Some w) n k bit record_of =
        let parts = and_parts (w.attempt == v.attempt) (has w.bits q) bit in
        let this : IsSomeWith (Some a) (λ a. IsRecord a w) = subst (λ o. IsSomeWith o (λ a. IsRecord a w)) (ap (attempt_of c) (eqb-true w.attempt v.attempt parts.0) ∙ e) record_of.2 in
        all-at (has a.entered) w.bits q this.2 parts.1

    within : (v : Vulnerable) (o : Option Attempt) → attempt_of c v.attempt ≡ o → IsSomeWith o (λ a. IsRecord a v) → IsSomeWith o (λ a. IsRecord a (record v { bits = all_bits heard v.attempt }))
    within v None e r = absurd r
    within v (Some a) e r = (
      r.0,
      r.1,
      list_all_in (has a.entered) (all_bits heard v.attempt) (λ q bit.
          (let w = bits-witnessed (λ s. HasRecord c s.id s.prim.index s.vulnerable) heard v.attempt q bit each in entered v a e q w.who.vulnerable w.who.id w.who.prim.index w.bit w.holds)),
    )

    own-bit : (v : Vulnerable) → old.held.vulnerable ≡ Some v → has v.bits old.held.id ≡ true → has (all_bits heard v.attempt) old.held.id ≡ true
    own-bit v e bit =
        mine-among c p old conf heard end (λ s. (r : ℕ) → has_bit v.attempt r s.vulnerable ≡ true → has (all_bits heard v.attempt) r ≡ true) (bits-all heard v.attempt) old.held.id
        (ap (has_bit v.attempt old.held.id) (sym end.holds.vulnerable ∙ e) ∙ and_from (v.attempt == v.attempt) (has v.bits old.held.id) (eq-eqb v.attempt v.attempt refl) bit)

    at : (o : Option Vulnerable) → old.held.vulnerable ≡ o → old.held.prim.index ≤ (known_primary heard).index → HasRecord c old.held.id old.held.prim.index o →
        HasRecord c old.held.id (known_primary heard).index (decided heard o)
    at None e le is = tt
    at (Some v) e le is = elim (becomes heard v) [
      | Cleared cleared none ↦ subst (HasRecord c old.held.id (known_primary heard).index) (sym none) tt
      | Kept kept same ↦ subst (HasRecord c old.held.id (known_primary heard).index) (sym same)
          (own-bit v e is.0, (let from = is.1 in omega arith), within v (attempt_of c v.attempt) refl is.2)
    ]

-- an attempt begins: it is there now, and is what the record says
record-attempted : (c d : Chronicle) (p conf : ℕ) (heard : List Summary) (greens : List Action) (old new : Replica) → Invariant c →
    d.attempts ≡ entering greens new.held c.attempts (Some (new_record conf heard old.held.id)) → AtPlanEnd c p old conf heard →
    HasAttempted conf heard old new → HasRecord d new.held.id new.held.prim.index new.held.vulnerable
record-attempted c d p conf heard greens old new i now end done =
    let v = new_record conf heard old.held.id in
    let entered = entered-now c.attempts greens new.held v in
    let there : attempt_of d conf ≡ Some (with_entrant new.held.id entered.first) =
    ap (λ xs. at_conf xs conf) now ∙ entered.now conf ∙ cond-true (conf == conf) (Some (with_entrant new.held.id entered.first)) (at_conf c.attempts conf) (eq-eqb conf conf refl) in
    let parts = whose entered.first entered.whose in
    subst (λ o. HasRecord d new.held.id new.held.prim.index o) (sym done.vulnerable) (
      own (sym done.id),
      (let same = ap (λ (x : Primary). x.index) done.prim in omega arith),
      subst (λ o. IsSomeWith o (λ a. IsRecord a v)) (sym there) (
        sym parts.0,
        sym parts.1,
        and_from (has (with_entrant new.held.id entered.first).entered old.held.id) true
            (ap (has (with_entrant new.held.id entered.first).entered) (sym done.id) ∙ entrant-has entered.first new.held.id) refl,
      ),
    )
  where
    own : old.held.id ≡ new.held.id → has (old.held.id ∷ []) new.held.id ≡ true
    own e = ap (λ b. b || false) (eq-eqb old.held.id new.held.id e)

    whose : (a : Attempt) → (at_conf c.attempts conf ≡ Some a) ⊎ ((at_conf c.attempts conf ≡ None) × (a ≡ new_attempt greens new.held (new_record conf heard old.held.id))) →
        (a.from ≡ (known_primary heard).index) × (a.set ≡ remaining heard)
    whose a (inl e) = attempt-heard c conf a p old heard end (subst (λ (o : Option Attempt). IfSome o (IsAttempt c conf)) e (i.attempt.attempt_shape conf))
    whose a (inr e) = (ap (λ (a : Attempt). a.from) e.1, ap (λ (a : Attempt). a.set) e.1)

-- ---- each small step

-- the turn of a step, for a replica in its node
pub turn-is : (c : Chronicle) (p : ℕ) (part : Turn → Turn) (r : Replica) (disk : Disk) → node_of c.world p ≡ Some (record { id = p; life = Up r disk }) →
    turning c p part ≡ after_turn c p r disk (part (begin r))
turn-is c p part r disk node = ap (λ (o : Option Node). option_map_or (λ s. turning_as c p part s.life) o c) node

pub same-replica : (c : Chronicle) (p : ℕ) (r q : Replica) (disk : Disk) → node_of c.world p ≡ Some (record { id = p; life = Up r disk }) → replica_of c.world p ≡ Some q → r ≡ q
same-replica c p r q disk node e =
    let up : Some r ≡ Some q = sym (ap (λ (o : Option Node). option_and_then (λ s. running s.life) o) node) ∙ e in
    ap (λ (o : Option Replica). option_map_or (λ x. x) o r) up

record-before : (c : Chronicle) (p : ℕ) (r : Replica) (disk : Disk) → Invariant c → node_of c.world p ≡ Some (record { id = p; life = Up r disk }) → HasRecord c r.held.id r.held.prim.index r.held.vulnerable
record-before c p r disk i node = held-known (Recorded c) c p r (ap (λ (o : Option Node). option_and_then (λ s. running s.life) o) node) i.attempt.record_of_attempt

pub record-handed : (c d : Chronicle) (p : ℕ) (i : Invariant c) (n : HandsNow c p) (greens : List Action) → Grow c.attempts d.attempts →
    d.attempts ≡ attempts_behind c.attempts p greens n.replica (new c p i n) → HasRecord d (new c p i n).held.id (new c p i n).held.prim.index (new c p i n).held.vulnerable
record-handed c d p i n greens grow now = of_kind (hand-turned c p i n) where
  before : HasRecord c n.replica.held.id n.replica.held.prim.index n.replica.held.vulnerable
  before = record-before c p n.replica n.disk i n.node

  of_kind : Turned n.replica (new c p i n) n.next.message → HasRecord d (new c p i n).held.id (new c p i n).held.prim.index (new c p i n).held.vulnerable
  of_kind (Quiet quiet) = record-quiet c d n.replica (new c p i n) grow quiet before
  of_kind (Installs installed) = record-installed c d n.replica (new c p i n) grow installed before
  of_kind (Decides conf heard ends decided) =
      let end = plan-end c p i n conf heard ends decided.remains (ap is_behind decided.state) in
      record-decided c d p n.conf heard n.replica (new c p i n) i grow end.1 n.data_of.id decided before
  of_kind (Attempts conf heard ends attempted) =
      let end = plan-end c p i n conf heard ends attempted.remains (ap is_behind attempted.state) in
      record-attempted c d p conf heard greens n.replica (new c p i n) i (now ∙ attempted-attempts n.next.message conf heard c.attempts p greens n.replica (new c p i n) ends attempted)
      (subst (λ k. AtPlanEnd c p n.replica k heard) end.0 end.1) attempted

-- a member that may enter comes from one of the states between
pub enters-between : (c : Chronicle) (p : ℕ) (r : Replica) → replica_of c.world p ≡ Some r → may_make c (Enters p) ≡ true → is_between r.state ≡ true
unfolding may_make
enters-between c p r e may =
    let comes = (may-enter c p may).comes in
    let parts = and_parts (not (is_regular c.world.group p)) (option_map_or (λ r. is_between r.state) (replica_of c.world p) false) comes in
    ap (λ (o : Option Replica). option_map_or (λ r. is_between r.state) o false) (sym e) ∙ parts.1

pub hands-attempts : (c : Chronicle) (p : ℕ) (i : Invariant c) (n : HandsNow c p) →
    (small_step c (Hands p)).attempts ≡ attempts_behind c.attempts p (greens_of c p ++ newly_green n.replica (new c p i n)) n.replica (new c p i n)
unfolding small_step
hands-attempts c p i n = ap (λ (x : Chronicle). x.attempts) (turn-is (handed_next c p) p (take_next c.world.group p) n.replica n.disk n.node)

pub record-kept : (c : Chronicle) (s : Small) → Invariant c → may_make c s ≡ true → RecordOfAttempt (small_step c s)
record-kept c s i may =
    let d = small_step c s in
    let grow = attempts-grow c s in
    cores-kept (Recorded d) c s (ready-of c i.net.hosted i.replica.disk_behind) may (recorded-closed d) (step s may)
    (cores-weaker (Recorded c) (Recorded d) c (λ h all is. recorded-later c d h.id h.prim.index h.prim.index h.vulnerable grow (omega arith) is) i.attempt.record_of_attempt)
  where
    step : (s : Small) → may_make c s ≡ true → StepKeeps c s (Recorded (small_step c s))
    step (Starts set) may = λ p. tt
    step (Makes set) may = tt
    step (Enters p) may = λ r disk node. (let g = c.world.group in let come = newest-come g r (enters-between c p r (ap (λ (o : Option Node). option_and_then (λ s. running s.life) o) node) may) in
        record-come c (small_step c (Enters p)) r (take_newest g (begin r)).replica (newest_conf g) (configuration g (newest_conf g)).members (attempts-grow c (Enters p)) come (record-before c p r disk i node))
    step (Orders p) may = tt
    step (Receives p place) may = tt
    step (Hands p) may = λ r disk node. (let n = hands-now c p i may in
        subst (λ (r : Replica). (let new = (take_next c.world.group p (begin r)).replica in HasRecord (small_step c (Hands p)) new.held.id new.held.prim.index new.held.vulnerable))
        (sym (same-replica c p r n.replica disk node (running-now c p i n)))
        (record-handed c (small_step c (Hands p)) p i n (greens_of c p ++ newly_green n.replica (new c p i n)) (attempts-grow c (Hands p)) (hands-attempts c p i n)))
    step (Leaves p set own places) may = λ r disk node.
        record-parted c (small_step c (Leaves p set own places)) r (take_parting c.world.group p set places (begin r)).replica (attempts-grow c (Leaves p set own places)) (parting-turned c.world.group p set places r) (record-before c p r disk i node)
    step (Asks p kind) may = λ r disk node.
        record-quiet c (small_step c (Asks p kind)) r (take_request kind (begin r)).replica (attempts-grow c (Asks p kind)) (request-quiet kind r) (record-before c p r disk i node)
    step (Settles p) may = λ r disk node.
        record-quiet c (small_step c (Settles p)) r (settle (begin r)).replica (attempts-grow c (Settles p)) (settle-quiet r) (record-before c p r disk i node)
    step (Commits p) may = tt
    step (Crashes p) may = tt
    step (Recovers p) may = tt
    step (Copies p joiner) may = tt
    step (Joins joiner) may = tt

-- Each bit of a record is that of a member that has left the attempt's configuration, with no more green and no more installed than is
-- known: every small step keeps it.
use Rattle.std.proofs.Common.{◌≡◌, ℕ, ◌≤◌, ◌<◌, true, false, cond, ◌&&◌, ◌||◌, List, [], ◌∷◌, ◌++◌, length, length-append, find, option_map, Option, Some, None, IfSome, refl, sym, ap, ◌∙◌, subst, inl, inr, arith, eq-eqb, eqb, eqb-true}
use Rattle.std.specs.Prelude.{◌==◌, option_and_then}
use Rattle.std.specs.Option.{option_map_or}
use Rattle.std.proofs.lemmas.Bool.{cases_Bool, cond_both, cond-true, cond-false, or_cases, and_parts, ne_eqb}
use Rattle.cg_base.specs.Sets.{has}
use Rattle.cg_base.specs.SetLaws.{has-with_member}
use Rattle.cg_base.specs.ListLaws.{is_nil-none}
use Rattle.cg_base.specs.FindLaws.{found_passes}
use Rattle.cg_action.specs.declared.action.Action.{Action}
use Rattle.cg_records.specs.declared.primary.Primary.{Primary}
use Rattle.cg_records.specs.declared.vulnerable.Vulnerable.{Vulnerable}
use Rattle.cg_knowledge.specs.declared.summary.Summary.{Summary}
use Rattle.cg_knowledge.specs.Primary.{newest_index}
use Rattle.cg_knowledge.specs.Vulnerable.{decided}
use Rattle.cg_group.specs.declared.phase.Phase.{Phase}
use Rattle.cg_group.specs.declared.phase.Phase.TheVariants.{Down, Alone, Regular, Transitional}
use Rattle.cg_group.specs.State.{phase_of, configuration}
use Rattle.cg_client.specs.Replica.{Held, State, RegPrim, TransPrim, ExchangeStates, ExchangeActions, Construct, No, Un, NonPrim, Left, Replica}
use Rattle.cg_client.specs.Turn.{begin}
use Rattle.cg_client.specs.Install.{prim_after}
use Rattle.cg_client.specs.Requests.{settle}
use Rattle.cg_client.specs.Summary.{summary_of}
use Rattle.cg_model.specs.Attempts.{held_in}
use Rattle.cg_model.specs.FactsExchange.{IsRecord, HasRecord}
use Rattle.cg_disk_records.specs.Stored.{whiten, recovery_turn}
use Rattle.cg_disk_records.specs.Crash.{Disk}
use Rattle.cg_model.specs.World.{Up, Node, node_of, running}
use Rattle.cg_model.specs.Chronicle.{Leaving, Told, Attempt, Chronicle}
use Rattle.cg_model.specs.Looks.{greens_of, core_of, told_in, is_at, is_in, conf_at, ordered_in, attempt_of, left_count}
use Rattle.cg_model.specs.Fronts.{IsSomeWith}
use Rattle.cg_model.specs.FactsReplica.{has_installed}
use Rattle.cg_model.specs.FactsAttempts.{IsWitnessed, AreWitnessed, BitsWitness}
use Rattle.cg_model.specs.Facts.{Invariant}
use Rattle.cg_model.specs.Small.{Small, Starts, Makes, Enters, Orders, Receives, Hands, Leaves, Asks, Settles, Commits, Crashes, Recovers, Copies, Joins, newly_green, with_leaver, coming, take_newest, take_next, take_parting, take_request, newest_conf, small_step}
use Rattle.cg_model.specs.Smalls.{may_make}
use Rattle.cg_agree_lemmas.specs.EndCovers.{OfEach}
use Rattle.cg_agree_lemmas.specs.EndCases.{has_bit}
use Rattle.cg_agree_lemmas.specs.EndQuorum.{both-each}
use Rattle.cg_agree_lemmas.specs.Knowledge.{known-of, each-bounded, bits-witnessed, some-sender, Cleared, Kept, becomes}
use Rattle.cg_agree_lemmas.specs.CoresKept.{IsClosed, cores-weaker, held-known, greens-turn}
use Rattle.cg_agree_lemmas.specs.CoresSmall.{StepKeeps, ready-of, cores-kept}
use Rattle.cg_agree_lemmas.specs.AttemptsGrow.{Grown, attempts-grow}
use Rattle.cg_agree_lemmas.specs.TurnValues.{even-own_to_red}
use Rattle.cg_agree_lemmas.specs.TurnKinds.{IsQuiet, HasInstalled, HasDecided, HasAttempted, Turned, Quiet, Installs, Decides, Attempts}
use Rattle.cg_agree_lemmas.specs.TurnParts.{HasParted, settle-quiet, request-quiet, parting-turned, record_left, HasCome, newest-come}
use Rattle.cg_agree_lemmas.specs.HandsNow.{HandsNow, hands-now, new, hand-turned, running-now}
use Rattle.cg_agree_lemmas.specs.PlanEnd.{AtPlanEnd, is_behind, plan-end, told-each}
use Rattle.cg_agree_lemmas.specs.RecordKept.{same-replica, enters-between}
use Rattle.cg_agree.proofs.AttemptSteps.{group-of, attempt-step}
use Rattle.cg_agree.proofs.DeadKept.{said-attempt}
use Rattle.cg_agree.proofs.AttemptsCame.{Came, Stayed, WasLeft, WasEntered, WasInstalled, WasMade, came}
use Rattle.cg_agree.proofs.InstalledIndexKept.{same-installed, installed_index-kept}
use Rattle.cg_agree.proofs.OutStays.{out-stays, said-number}
use Rattle.cg_agree_lemmas.specs.EntryGreens.{entry-greens, nothing-new}
use Rattle.cg_agree.proofs.PastKept.{EntersNow, enters-now, entry_turn, entry_told, enters-is, told_in-enters}
use Rattle.cg_agree_lemmas.specs.ToldKept.{IsUntold, told-same, told_in-same}
use Rattle.cg_agree_lemmas.specs.OneSteps.{enters-step}
use Rattle.cg_agree_lemmas.specs.ChronicleFacts.{node_of-set}

-- ---- a witness stays one

-- who is in no phase of the configuration doesn't leave it, and doesn't install there
pub in-at : (conf : ℕ) (phase : Phase) → 0 < conf → conf ≡ conf_at phase → is_at conf phase ≡ true
in-at conf Down some here = absurd (omega arith)
in-at conf Alone some here = absurd (omega arith)
in-at conf (Regular k) some here = eq-eqb k conf (sym here)
in-at conf (Transitional k set) some here = eq-eqb k conf (sym here)

pub leaver-other : (p n q : ℕ) (a : Attempt) → (p == q) ≡ false → left_count (with_leaver p n a) q ≡ left_count a q
leaver-other p n q a other =
    cond_both (has a.entered p) (record a { left = a.left ++ record { member = p; count = n } ∷ [] }) a (λ (x : Attempt). left_count x q ≡ left_count a q)
    (λ y. ap (λ (o : Option Leaving). option_map_or (λ l. l.count) o 0) (behind a.left)) (λ n. refl) where
      behind : (list : List Leaving) → find (λ l. l.member == q) (list ++ record { member = p; count = n } ∷ []) ≡ find (λ l. l.member == q) list
      behind [] = cond-false (p == q) (let x : Option Leaving = Some (record { member = p; count = n }) in x) None other
      behind (l ∷ list) = ap (cond (l.member == q) (Some l)) (behind list)

module _ (c : Chronicle) (s : Small) (i : Invariant c) (may : may_make c s ≡ true) where
  pub witnessed-still : (conf : ℕ) (a : Attempt) → attempt_of c conf ≡ Some a → (q count more index high : ℕ) → count ≤ more → index ≤ high → IsWitnessed c a count index q →
      IsSomeWith (attempt_of (small_step c s) conf) (λ b. IsWitnessed (small_step c s) b more high q)
  witnessed-still conf a found q count more index high le higher is =
      let grown = (attempts-grow c s).still conf a found in
      subst (λ (o : Option Attempt). IsSomeWith o (λ b. IsWitnessed (small_step c s) b more high q)) (sym grown.found)
      (at grown.now (came c (small_step c s) conf grown.now (attempt-step c s i may) grown.found) grown.grown)
    where
      said : 0 < length (ordered_in c conf)
      said = said-attempt c conf a i found

      at_conf : a.conf ≡ conf
      at_conf = eqb-true a.conf conf (found_passes (λ (a : Attempt). a.conf == conf) c.attempts a found)

      out : is_in c conf q ≡ false
      out = ap (λ k. is_in c k q) (sym at_conf) ∙ is.out

      same : (x : Attempt) → attempt_of c conf ≡ Some x → a ≡ x
      same x e = ap (λ o. option_map_or (λ z. z) o a) (sym found ∙ e)

      made : (b : Attempt) → Grown a b → left_count b q ≡ left_count a q → (has b.installed q ≡ true → has a.installed q ≡ true) → IsWitnessed (small_step c s) b more high q
      made b grown counts installs = record {
        out = ap (λ k. is_in (small_step c s) k q) (grown.same.conf ∙ at_conf) ∙ out-stays c s i.net.hosted may (group-of c i) conf q said out;
        count = (let low = is.count in omega (arith, counts, low));
        index = λ installed. (let lt = is.index (installs installed) in let from = grown.same.from in omega (arith, lt, from));
      }

      at : (b : Attempt) → Came c (small_step c s) conf b → Grown a b → IsWitnessed (small_step c s) b more high q
      at b (Stayed e) grown = made b grown (ap (λ (x : Attempt). left_count x q) (sym (same b e))) (λ is. ap (λ (x : Attempt). has x.installed q) (same b e) ∙ is)
      at b (WasLeft x e p n here now low) grown =
          let apart : (p == q) ≡ false = ne_eqb p q (λ this. (let clash : true ≡ false = sym (in-at conf (phase_of c.world.group p) (said-number c conf said) here) ∙ ap (is_in c conf) this ∙ out in absurd (let z = clash in cc))) in
          made b grown (ap (λ (x : Attempt). left_count x q) now ∙ leaver-other p n q x apart ∙ ap (λ (x : Attempt). left_count x q) (sym (same x e)))
          (λ is. ap (λ (x : Attempt). has x.installed q) (same x e) ∙ sym (same-installed p n q x) ∙ ap (λ (x : Attempt). has x.installed q) (sym now) ∙ is)
      at b (WasEntered x e p heard r new begins now moved) grown =
          made b grown (ap (λ (x : Attempt). left_count x q) now ∙ ap (λ (x : Attempt). left_count x q) (sym (same x e)))
          (λ is. ap (λ (x : Attempt). has x.installed q) (same x e) ∙ ap (λ (x : Attempt). has x.installed q) (sym now) ∙ is)
      at b (WasInstalled p r new ins done here now levels core moved) grown =
          let mine = same ins.a (ap (attempt_of c) here ∙ ins.found) in
          made b grown (ap (λ (x : Attempt). left_count x q) now ∙ ap (λ (x : Attempt). left_count x q) (sym mine))
          (λ is. elim (or_cases (has ins.a.installed q) (eqb p q) (sym (has-with_member ins.a.installed p q) ∙ ap (λ (x : Attempt). has x.installed q) (sym now) ∙ is)) [
            | inl old ↦ ap (λ (x : Attempt). has x.installed q) mine ∙ old
            | inr this ↦ absurd (let clash : true ≡ false = sym (ap (is_at conf) ins.regular ∙ eq-eqb ins.conf conf (sym here)) ∙ ap (is_in c conf) (eqb-true p q this) ∙ out in cc)
          ])
      at b (WasMade none p heard r new begins greens now moved handed) grown = absurd (let clash : None ≡ Some a = sym none ∙ found in cc)

  pub bits-still : (count more index high : ℕ) (but : List ℕ) (v : Option Vulnerable) → count ≤ more → index ≤ high → AreWitnessed c count index but v → AreWitnessed (small_step c s) more high but v
  bits-still count more index high but None le higher is = tt
  bits-still count more index high but (Some v) le higher is = λ q bit other. at q (attempt_of c v.attempt) refl (is q bit other) where
    at : (q : ℕ) (o : Option Attempt) → attempt_of c v.attempt ≡ o → IsSomeWith o (λ a. IsWitnessed c a count index q) → IsSomeWith (attempt_of (small_step c s) v.attempt) (λ b. IsWitnessed (small_step c s) b more high q)
    at q None e is = absurd is
    at q (Some a) e is = witnessed-still v.attempt a e q count more index high le higher is

-- ---- of each core

abbrev Witnessed : Chronicle → Held → List Action → Type 0
Witnessed c h all = AreWitnessed c (length all) h.prim.index (h.id ∷ []) h.vulnerable

witnessed-as : (d : Chronicle) (count index id : ℕ) (v : Option Vulnerable) (h : Held) (n : ℕ) → count ≡ n → index ≡ h.prim.index → id ≡ h.id → v ≡ h.vulnerable →
    AreWitnessed d count index (id ∷ []) v → AreWitnessed d n h.prim.index (h.id ∷ []) h.vulnerable
witnessed-as d count index id v h n a b e f is =
    subst (AreWitnessed d n h.prim.index (h.id ∷ [])) f (subst (λ k. AreWitnessed d n h.prim.index (k ∷ []) v) e (subst (λ k. AreWitnessed d n k (id ∷ []) v) b (subst (λ k. AreWitnessed d k index (id ∷ []) v) a is)))

witnessed-closed : (d : Chronicle) → IsClosed (Witnessed d)
unfolding whiten recovery_turn
witnessed-closed d = record {
  whitened = λ h all is. is;
  stored = λ h all is. is;
  recovers = λ h all is. (let same = (even-own_to_red (begin (record { held = h; state = NonPrim false }))).values in
      witnessed-as d (length all) h.prim.index h.id h.vulnerable (recovery_turn h).replica.held (length all) refl (ap (λ (x : Primary). x.index) (sym same.prim)) (sym same.id) (sym same.vulnerable) is);
  joins = λ p h all is. tt;
}

-- as a plan ends without a quorum, the member has as many greens as each that was heard had
abbrev pub EndReaches : Chronicle → ℕ → Type 0
EndReaches c p =
    (i : Invariant c) (n : HandsNow c p) (conf : ℕ) (heard : List Summary) → HasDecided heard n.replica (new c p i n) → AtPlanEnd c p n.replica conf heard →
    (q : ℕ) (t : Told) → told_in c conf q ≡ Some t → length t.greens ≤ length (greens_of c p ++ newly_green n.replica (new c p i n))

module _ (c : Chronicle) (s : Small) (i : Invariant c) (may : may_make c s ≡ true) where
  more-greens : (p : ℕ) (r new' : Replica) → length (greens_of c p) ≤ length (greens_of c p ++ newly_green r new')
  more-greens p r new' = let e = length-append (greens_of c p) (newly_green r new') in omega (arith, e)

  bits-before : (p : ℕ) (r : Replica) (disk : Disk) → node_of c.world p ≡ Some (record { id = p; life = Up r disk }) → Witnessed c r.held (greens_of c p)
  bits-before p r disk node = held-known (Witnessed c) c p r (ap (λ (o : Option Node). option_and_then (λ s. running s.life) o) node) i.attempt.bits_witness.cores

  bits-quiet : (p : ℕ) (r new' : Replica) → IsQuiet r new' → Witnessed c r.held (greens_of c p) → Witnessed (small_step c s) new'.held (greens_of c p ++ newly_green r new')
  bits-quiet p r new' quiet is =
      witnessed-as (small_step c s) (length (greens_of c p ++ newly_green r new')) r.held.prim.index r.held.id r.held.vulnerable new'.held (length (greens_of c p ++ newly_green r new'))
      refl (ap (λ (x : Primary). x.index) (sym quiet.values.prim)) (sym quiet.values.id) (sym quiet.values.vulnerable)
      (bits-still c s i may (length (greens_of c p)) (length (greens_of c p ++ newly_green r new')) r.held.prim.index r.held.prim.index (r.held.id ∷ []) r.held.vulnerable (more-greens p r new') (omega arith) is)

  bits-installed : (p : ℕ) (r new' : Replica) → HasInstalled r new' → Witnessed c r.held (greens_of c p) → Witnessed (small_step c s) new'.held (greens_of c p ++ newly_green r new')
  bits-installed p r new' done is =
      witnessed-as (small_step c s) (length (greens_of c p ++ newly_green r new')) (prim_after r.held r.held.vulnerable).index r.held.id r.held.vulnerable new'.held (length (greens_of c p ++ newly_green r new'))
      refl (ap (λ (x : Primary). x.index) (sym done.prim)) (sym done.id) (sym done.vulnerable)
      (bits-still c s i may (length (greens_of c p)) (length (greens_of c p ++ newly_green r new')) r.held.prim.index (prim_after r.held r.held.vulnerable).index (r.held.id ∷ []) r.held.vulnerable (more-greens p r new') (rises r.held.vulnerable) is) where
        rises : (v : Option Vulnerable) → r.held.prim.index ≤ (prim_after r.held v).index
        rises None = omega arith
        rises (Some v) = omega arith

  bits-parted : (p : ℕ) (r new' : Replica) → HasParted r new' → Witnessed c r.held (greens_of c p) → Witnessed (small_step c s) new'.held (greens_of c p ++ newly_green r new')
  bits-parted p r new' (inl quiet) is = bits-quiet p r new' quiet is
  bits-parted p r new' (inr done) is = bits-installed p r new' done is

  bits-come : (p conf : ℕ) (set : List ℕ) (r new' : Replica) → HasCome r new' conf set → Witnessed c r.held (greens_of c p) → Witnessed (small_step c s) new'.held (greens_of c p ++ newly_green r new')
  bits-come p conf set r new' come is =
      witnessed-as (small_step c s) (length (greens_of c p ++ newly_green r new')) r.held.prim.index r.held.id (record_left r.state r.held.vulnerable) new'.held (length (greens_of c p ++ newly_green r new'))
      refl (ap (λ (x : Primary). x.index) (sym come.prim)) (sym come.id) (sym come.vulnerable)
      (left r.state (bits-still c s i may (length (greens_of c p)) (length (greens_of c p ++ newly_green r new')) r.held.prim.index r.held.prim.index (r.held.id ∷ []) r.held.vulnerable (more-greens p r new') (omega arith) is)) where
        left : (state : State) → AreWitnessed (small_step c s) (length (greens_of c p ++ newly_green r new')) r.held.prim.index (r.held.id ∷ []) r.held.vulnerable →
            AreWitnessed (small_step c s) (length (greens_of c p ++ newly_green r new')) r.held.prim.index (r.held.id ∷ []) (record_left state r.held.vulnerable)
        left TransPrim is = tt
        left (No at heard) is = tt
        left RegPrim is = is
        left (ExchangeStates at all heard) is = is
        left (ExchangeActions at heard accepted) is = is
        left (Construct at heard) is = is
        left Un is = is
        left (NonPrim regular) is = is
        left Left is = is

  -- as a plan ends: each bit that comes is one of a summary's record
  bits-decided : (p conf : ℕ) (heard : List Summary) (r new' : Replica) → AtPlanEnd c p r conf heard → HasDecided heard r new' → (n : ℕ) →
      ((q : ℕ) (t : Told) → told_in c conf q ≡ Some t → length t.greens ≤ n) → AreWitnessed (small_step c s) n new'.held.prim.index (new'.held.id ∷ []) new'.held.vulnerable
  bits-decided p conf heard r new' end done n reaches =
      subst (λ v. AreWitnessed (small_step c s) n new'.held.prim.index (new'.held.id ∷ []) v) (sym done.vulnerable) (at r.held.vulnerable)
    where
      index : new'.held.prim.index ≡ newest_index heard
      index =
          let known = known-of (λ s. s.prim.index ≤ newest_index heard) heard (some-sender heard p end.listed) (each-bounded heard) in
          ap (λ (x : Primary). x.index) (done.prim ∙ known.prim) ∙ known.index

      each : OfEach (λ s. AreWitnessed c n s.prim.index [] s.vulnerable × (s.prim.index ≤ newest_index heard)) heard
      each = both-each (λ s. AreWitnessed c n s.prim.index [] s.vulnerable) (λ s. s.prim.index ≤ newest_index heard) heard
          (told-each c conf (λ s. AreWitnessed c n s.prim.index [] s.vulnerable) (λ q t e. wider t.summary.vulnerable (length t.greens) t.summary.prim.index (reaches q t e)
          (subst (λ (o : Option Told). IfSome o (λ t. AreWitnessed c (length t.greens) t.summary.prim.index [] t.summary.vulnerable)) e (i.attempt.bits_witness.told conf q))) heard end.each)
          (each-bounded heard) where
            wide : (a : Attempt) (k m q : ℕ) → k ≤ n → IsWitnessed c a k m q → IsWitnessed c a n m q
            wide a k m q le is = record { out = is.out; count = (let low = is.count in omega arith); index = is.index }

            wider : (v : Option Vulnerable) (k m : ℕ) → k ≤ n → AreWitnessed c k m [] v → AreWitnessed c n m [] v
            wider None k m le is = tt
            wider (Some v) k m le is = λ q bit other. some (attempt_of c v.attempt) q (is q bit other) where
              some : (o : Option Attempt) (q : ℕ) → IsSomeWith o (λ a. IsWitnessed c a k m q) → IsSomeWith o (λ a. IsWitnessed c a n m q)
              some None q is = absurd is
              some (Some a) q is = wide a k m q le is

      at : (o : Option Vulnerable) → AreWitnessed (small_step c s) n new'.held.prim.index (new'.held.id ∷ []) (decided heard o)
      at None = tt
      at (Some v) = elim (becomes heard v) [
        | Cleared cleared none ↦ subst (AreWitnessed (small_step c s) n new'.held.prim.index (new'.held.id ∷ [])) (sym none) tt
        | Kept kept same ↦ subst (AreWitnessed (small_step c s) n new'.held.prim.index (new'.held.id ∷ [])) (sym same) (λ q bit other.
            (let w = bits-witnessed (λ s. AreWitnessed c n s.prim.index [] s.vulnerable × (s.prim.index ≤ newest_index heard)) heard v.attempt q bit each in
            one v q w.who.vulnerable w.who.prim.index w.bit w.holds.0 (let le = w.holds.1 in omega (arith, le, index))))
      ]
        where
          one : (v : Vulnerable) (q : ℕ) (o : Option Vulnerable) (m : ℕ) → has_bit v.attempt q o ≡ true → AreWitnessed c n m [] o → m ≤ new'.held.prim.index →
              IsSomeWith (attempt_of (small_step c s) v.attempt) (λ a. IsWitnessed (small_step c s) a n new'.held.prim.index q)
          one v q None m bit is le = absurd (let clash : false ≡ true = bit in cc)
          one v q (Some w) m bit is le =
              let parts = and_parts (w.attempt == v.attempt) (has w.bits q) bit in
              let still : IsSomeWith (attempt_of (small_step c s) w.attempt) (λ a. IsWitnessed (small_step c s) a n new'.held.prim.index q) =
              bits-still c s i may n n m new'.held.prim.index [] (Some w) (omega arith) le is q parts.1 refl in
              subst (λ k. IsSomeWith (attempt_of (small_step c s) k) (λ a. IsWitnessed (small_step c s) a n new'.held.prim.index q)) (eqb-true w.attempt v.attempt parts.0) still

  -- a new record has its holder's bit alone
  bits-attempted : (conf : ℕ) (heard : List Summary) (r new' : Replica) → HasAttempted conf heard r new' → (n : ℕ) → AreWitnessed (small_step c s) n new'.held.prim.index (new'.held.id ∷ []) new'.held.vulnerable
  bits-attempted conf heard r new' done n =
      subst (λ v. AreWitnessed (small_step c s) n new'.held.prim.index (new'.held.id ∷ []) v) (sym done.vulnerable)
      (λ q bit other. absurd (let clash : true ≡ false = sym (ap (λ k. has (k ∷ []) q) done.id ∙ bit) ∙ other in cc))

-- ---- of what was told

-- what a replica tells as it comes into a configuration
module _ (c : Chronicle) (p : ℕ) (i : Invariant c) (may : may_make c (Enters p) ≡ true) (now : EntersNow c p) where
  abbrev d : Chronicle
  d = small_step c (Enters p)

  abbrev comer : Replica
  comer = (entry_turn c now.replica).replica

  node-now : core_of d p ≡ Some comer.held
  node-now =
      ap (λ (x : Chronicle). core_of x p) (enters-is c p now)
      ∙ ap (λ (o : Option Node). option_map (λ s. held_in s.life) o) (node_of-set (coming c p).world p (Up comer now.disk) p
      ∙ cond-true (p == p) (Some (record { id = p; life = Up comer now.disk })) (node_of c.world p) (eq-eqb p p refl))

  greens-now : length (greens_of d p) ≤ length (greens_of c p)
  greens-now =
      let e = ap (λ (x : Chronicle). length (greens_of x p)) (enters-is c p now) ∙ ap (λ (xs : List Action). length xs) (greens-turn (coming c p) p now.replica now.disk (entry_turn c now.replica) i.net.hosted.past now.node) in
      let long = length-append (greens_of c p) (newly_green now.replica comer) in
      let none = ap (λ (xs : List Action). length xs) (nothing-new now.replica comer (entry-greens c.world.group now.replica now.between)) in
      omega (arith, e, long, none)

  -- the bits that it tells are witnessed, its own too
  pub entry-witnessed : AreWitnessed d (length (greens_of c p)) comer.held.prim.index [] comer.held.vulnerable
  entry-witnessed = at comer.held.vulnerable refl where
    come : HasCome now.replica comer (newest_conf c.world.group) (configuration c.world.group (newest_conf c.world.group)).members
    come = newest-come c.world.group now.replica now.between

    before : Witnessed c now.replica.held (greens_of c p)
    before = held-known (Witnessed c) c p now.replica (ap (λ (o : Option Node). option_and_then (λ s. running s.life) o) now.node) i.attempt.bits_witness.cores

    others : AreWitnessed d (length (greens_of c p)) now.replica.held.prim.index (now.replica.held.id ∷ []) now.replica.held.vulnerable
    others = bits-still c (Enters p) i may (length (greens_of c p)) (length (greens_of c p)) now.replica.held.prim.index now.replica.held.prim.index (now.replica.held.id ∷ []) now.replica.held.vulnerable (omega arith) (omega arith) before

    left-some : (state : State) (v : Option Vulnerable) (w : Vulnerable) → record_left state v ≡ Some w → v ≡ Some w
    left-some TransPrim v w e = absurd (let clash : None ≡ Some w = e in cc)
    left-some (No a b) v w e = absurd (let clash : None ≡ Some w = e in cc)
    left-some RegPrim v w e = e
    left-some (ExchangeStates at all heard) v w e = e
    left-some (ExchangeActions at heard accepted) v w e = e
    left-some (Construct at heard) v w e = e
    left-some Un v w e = e
    left-some (NonPrim regular) v w e = e
    left-some Left v w e = e

    own : (v : Vulnerable) → now.replica.held.vulnerable ≡ Some v → IsSomeWith (attempt_of d v.attempt) (λ a. IsWitnessed d a (length (greens_of c p)) comer.held.prim.index p)
    own v e = with (attempt_of c v.attempt) refl (record-there v e) where
      record-there : (v : Vulnerable) → now.replica.held.vulnerable ≡ Some v → IsSomeWith (attempt_of c v.attempt) (λ a. IsRecord a v)
      record-there v e =
          let known = held-known (λ h all. HasRecord c h.id h.prim.index h.vulnerable) c p now.replica (ap (λ (o : Option Node). option_and_then (λ s. running s.life) o) now.node) i.attempt.record_of_attempt in
          (subst (HasRecord c now.replica.held.id now.replica.held.prim.index) e known).2

      with : (o : Option Attempt) → attempt_of c v.attempt ≡ o → IsSomeWith o (λ a. IsRecord a v) → IsSomeWith (attempt_of d v.attempt) (λ a. IsWitnessed d a (length (greens_of c p)) comer.held.prim.index p)
      with None found is = absurd is
      with (Some a) found is =
          let grown = (attempts-grow c (Enters p)).still v.attempt a found in
          let index = installed_index-kept c (Enters p) i may tt in
          let apart : (newest_conf c.world.group == v.attempt) ≡ false = ne_eqb (newest_conf c.world.group) v.attempt (λ same.
          is_nil-none (ordered_in c (newest_conf c.world.group)) now.may.unsaid (subst (λ k. 0 < length (ordered_in c k)) (sym same) (said-attempt c v.attempt a i found))) in
          let step = enters-step c p i.net.phase_sound now.may.comes in
          let named : grown.now.conf ≡ v.attempt = grown.grown.same.conf ∙ eqb-true a.conf v.attempt (found_passes (λ (a : Attempt). a.conf == v.attempt) c.attempts a found) in
          let counted = subst (λ (o : Option Attempt). IfSome o (λ a. left_count a p ≤ length (greens_of d p))) grown.found (index.count v.attempt p) in
          let one = subst (λ (o : Option Attempt). IfSome o (λ a. IfSome (core_of d p) (λ h. has_installed a p ≡ true → a.from < h.prim.index))) grown.found (index.index v.attempt p) in
          let two : has_installed grown.now p ≡ true → grown.now.from < comer.held.prim.index = subst (λ (o : Option Held). IfSome o (λ h. has_installed grown.now p ≡ true → grown.now.from < h.prim.index)) node-now one in
          let few = greens-now in
          subst (λ (o : Option Attempt). IsSomeWith o (λ a. IsWitnessed d a (length (greens_of c p)) comer.held.prim.index p)) (sym grown.found) (record {
            out = ap (is_at grown.now.conf) (step.stands.phase p ∙ cond-true (p == p) (Regular (newest_conf c.world.group)) (phase_of c.world.group p) (eq-eqb p p refl)) ∙ ap (λ k. newest_conf c.world.group == k) named ∙ apart;
            count = omega (arith, counted, few);
            index = two;
          })

    at : (o : Option Vulnerable) → comer.held.vulnerable ≡ o → AreWitnessed d (length (greens_of c p)) comer.held.prim.index [] o
    at None e = tt
    at (Some v) e = λ q bit other. (let old = left-some now.replica.state now.replica.held.vulnerable v (sym come.vulnerable ∙ e) in
        elim (cases_Bool (p == q)) [
          | inl mine ↦ subst (λ k. IsSomeWith (attempt_of d v.attempt) (λ a. IsWitnessed d a (length (greens_of c p)) comer.held.prim.index k)) (eqb-true p q mine) (own v old)
          | inr apart ↦
              subst (λ n. IsSomeWith (attempt_of d v.attempt) (λ a. IsWitnessed d a (length (greens_of c p)) n q)) (ap (λ (x : Primary). x.index) (sym come.prim))
              (subst (λ o. AreWitnessed d (length (greens_of c p)) now.replica.held.prim.index (now.replica.held.id ∷ []) o) old others q bit (ap (λ k. has (k ∷ []) q) now.id ∙ ap (λ b. b || false) apart))
        ])

  pub entry-told-witnessed : (let t = entry_told c p now.replica in AreWitnessed d (length t.greens) t.summary.prim.index [] t.summary.vulnerable)
  unfolding summary_of
  entry-told-witnessed = entry-witnessed

-- who told what, behind each small step
bits-told : (c : Chronicle) (s : Small) (i : Invariant c) (may : may_make c s ≡ true) → (conf q : ℕ) →
    IfSome (told_in (small_step c s) conf q) (λ t. AreWitnessed (small_step c s) (length t.greens) t.summary.prim.index [] t.summary.vulnerable)
bits-told c s i may conf q = told_by s may where
  still : (s : Small) → may_make c s ≡ true → (o : Option Told) → IfSome o (λ t. AreWitnessed c (length t.greens) t.summary.prim.index [] t.summary.vulnerable) →
      IfSome o (λ t. AreWitnessed (small_step c s) (length t.greens) t.summary.prim.index [] t.summary.vulnerable)
  still s may None is = tt
  still s may (Some t) is = bits-still c s i may (length t.greens) (length t.greens) t.summary.prim.index t.summary.prim.index [] t.summary.vulnerable (omega arith) (omega arith) is

  same : (s : Small) → may_make c s ≡ true → IsUntold s → IfSome (told_in (small_step c s) conf q) (λ t. AreWitnessed (small_step c s) (length t.greens) t.summary.prim.index [] t.summary.vulnerable)
  same s may untold =
      subst (λ (o : Option Told). IfSome o (λ t. AreWitnessed (small_step c s) (length t.greens) t.summary.prim.index [] t.summary.vulnerable))
      (sym (told_in-same c (small_step c s) (told-same c s untold) conf q)) (still s may (told_in c conf q) (i.attempt.bits_witness.told conf q))

  entered : (p : ℕ) (may : may_make c (Enters p) ≡ true) → EntersNow c p → IfSome (told_in (small_step c (Enters p)) conf q) (λ t. AreWitnessed (small_step c (Enters p)) (length t.greens) t.summary.prim.index [] t.summary.vulnerable)
  entered p may now =
      subst (λ (o : Option Told). IfSome o (λ t. AreWitnessed (small_step c (Enters p)) (length t.greens) t.summary.prim.index [] t.summary.vulnerable)) (sym (told_in-enters c p now conf q))
      (elim (cases_Bool ((conf == newest_conf c.world.group) && (q == p))) [
        | inl is ↦ subst (λ b. IfSome (cond b (Some (entry_told c p now.replica)) (told_in c conf q)) (λ t. AreWitnessed (small_step c (Enters p)) (length t.greens) t.summary.prim.index [] t.summary.vulnerable)) (sym is)
            (entry-told-witnessed c p i may now)
        | inr isnt ↦ subst (λ b. IfSome (cond b (Some (entry_told c p now.replica)) (told_in c conf q)) (λ t. AreWitnessed (small_step c (Enters p)) (length t.greens) t.summary.prim.index [] t.summary.vulnerable)) (sym isnt)
            (still (Enters p) may (told_in c conf q) (i.attempt.bits_witness.told conf q))
      ])

  told_by : (s : Small) → may_make c s ≡ true → IfSome (told_in (small_step c s) conf q) (λ t. AreWitnessed (small_step c s) (length t.greens) t.summary.prim.index [] t.summary.vulnerable)
  told_by (Enters p) may = entered p may (enters-now c p i.net.phase_sound (i.replica.mode_data p) may)
  told_by (Starts set) may = same (Starts set) may tt
  told_by (Makes set) may = same (Makes set) may tt
  told_by (Orders p) may = same (Orders p) may tt
  told_by (Receives p place) may = same (Receives p place) may tt
  told_by (Hands p) may = same (Hands p) may tt
  told_by (Leaves p set own places) may = same (Leaves p set own places) may tt
  told_by (Asks p kind) may = same (Asks p kind) may tt
  told_by (Settles p) may = same (Settles p) may tt
  told_by (Commits p) may = same (Commits p) may tt
  told_by (Crashes p) may = same (Crashes p) may tt
  told_by (Recovers p) may = same (Recovers p) may tt
  told_by (Copies p joiner) may = same (Copies p joiner) may tt
  told_by (Joins joiner) may = same (Joins joiner) may tt

-- ---- each small step

-- what is left to be known of a step: how far greens reach as a plan ends
abbrev pub Reaches : Chronicle → Small → Type 0
Reaches c (Hands p) = EndReaches c p
Reaches c _ = Unit {0}

pub bits_witness-kept : (c : Chronicle) (s : Small) → Invariant c → may_make c s ≡ true → Reaches c s → BitsWitness (small_step c s)
bits_witness-kept c s i may reaches = record {
  cores = cores-kept (Witnessed (small_step c s)) c s (ready-of c i.net.hosted i.replica.disk_behind) may (witnessed-closed (small_step c s)) (step s may reaches)
      (cores-weaker (Witnessed c) (Witnessed (small_step c s)) c (λ h all is. bits-still c s i may (length all) (length all) h.prim.index h.prim.index (h.id ∷ []) h.vulnerable (omega arith) (omega arith) is) i.attempt.bits_witness.cores);
  told = bits-told c s i may;
} where
  step : (s : Small) → may_make c s ≡ true → Reaches c s → StepKeeps c s (Witnessed (small_step c s))
  step (Starts set) may reaches = λ p. tt
  step (Makes set) may reaches = tt
  step (Enters p) may reaches = λ r disk node. (let g = c.world.group in
      bits-come c (Enters p) i may p (newest_conf g) (configuration g (newest_conf g)).members r (take_newest g (begin r)).replica
      (newest-come g r (enters-between c p r (ap (λ (o : Option Node). option_and_then (λ s. running s.life) o) node) may)) (bits-before c (Enters p) i may p r disk node))
  step (Orders p) may reaches = tt
  step (Receives p place) may reaches = tt
  step (Hands p) may reaches = λ r disk node. (let n = hands-now c p i may in
      subst (λ (r : Replica). (let new' = (take_next c.world.group p (begin r)).replica in Witnessed (small_step c (Hands p)) new'.held (greens_of c p ++ newly_green r new')))
      (sym (same-replica c p r n.replica disk node (running-now c p i n))) (handed n (hand-turned c p i n))) where
        handed : (n : HandsNow c p) → Turned n.replica (new c p i n) n.next.message → Witnessed (small_step c (Hands p)) (new c p i n).held (greens_of c p ++ newly_green n.replica (new c p i n))
        handed n (Quiet quiet) = bits-quiet c (Hands p) i may p n.replica (new c p i n) quiet (bits-before c (Hands p) i may p n.replica n.disk n.node)
        handed n (Installs done) = bits-installed c (Hands p) i may p n.replica (new c p i n) done (bits-before c (Hands p) i may p n.replica n.disk n.node)
        handed n (Decides conf heard ends decided) =
            let end = (plan-end c p i n conf heard ends decided.remains (ap is_behind decided.state)).1 in
            bits-decided c (Hands p) i may p n.conf heard n.replica (new c p i n) end decided (length (greens_of c p ++ newly_green n.replica (new c p i n))) (reaches i n n.conf heard decided end)
        handed n (Attempts conf heard ends attempted) = bits-attempted c (Hands p) i may conf heard n.replica (new c p i n) attempted (length (greens_of c p ++ newly_green n.replica (new c p i n)))
  step (Leaves p set own places) may reaches = λ r disk node.
      bits-parted c (Leaves p set own places) i may p r (take_parting c.world.group p set places (begin r)).replica (parting-turned c.world.group p set places r) (bits-before c (Leaves p set own places) i may p r disk node)
  step (Asks p kind) may reaches = λ r disk node. bits-quiet c (Asks p kind) i may p r (take_request kind (begin r)).replica (request-quiet kind r) (bits-before c (Asks p kind) i may p r disk node)
  step (Settles p) may reaches = λ r disk node. bits-quiet c (Settles p) i may p r (settle (begin r)).replica (settle-quiet r) (bits-before c (Settles p) i may p r disk node)
  step (Commits p) may reaches = tt
  step (Crashes p) may reaches = tt
  step (Recovers p) may reaches = tt
  step (Copies p joiner) may reaches = tt
  step (Joins joiner) may reaches = tt

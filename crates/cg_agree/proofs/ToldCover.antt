-- Evidence that was told covers what could become green: every small step keeps it, and who comes into a configuration tells what covers.
use Rattle.std.proofs.Common.{◌≡◌, ℕ, zero, suc, ◌≤◌, ◌<◌, Bool, true, false, cond, not, ◌&&◌, ◌||◌, List, ◌++◌, length, length-append, Option, Some, None, IfSome, refl, sym, ap, ap₂, ◌∙◌, subst, inl, inr, arith, eqb-true}
use Rattle.std.specs.Prelude.{◌==◌, option_and_then}
use Rattle.std.specs.Option.{option_map_or}
use Rattle.std.proofs.lemmas.Bool.{cases_Bool, cases_eq, and_parts, and_from, ne_eqb}
use Rattle.cg_base.specs.declared.action_id.ActionId.{ActionId}
use Rattle.cg_base.specs.Sets.{has}
use Rattle.cg_base.specs.FindLaws.{found_passes}
use Rattle.cg_action.specs.declared.action.Action.{Action}
use Rattle.cg_queue.specs.Queue.{names_of}
use Rattle.cg_records.specs.declared.primary.Primary.{Primary}
use Rattle.cg_records.specs.declared.vulnerable.Vulnerable.{Vulnerable}
use Rattle.cg_group.specs.State.{phase_of, configuration}
use Rattle.cg_client.specs.Replica.{State, RegPrim, TransPrim, ExchangeStates, ExchangeActions, Construct, No, Un, NonPrim, Left, Replica}
use Rattle.cg_client.specs.Turn.{Turn, begin, with_held}
use Rattle.cg_client.specs.Summary.{summary_of, enter_exchange}
use Rattle.cg_states.specs.TransPrim.{end_prim}
use Rattle.cg_states.specs.No.{no_record}
use Rattle.cg_states.specs.ReplicaStep.{on_regular, after_delivery}
use Rattle.cg_model.specs.World.{Node, replica_of, running}
use Rattle.cg_model.specs.Chronicle.{Told, Attempt, Chronicle}
use Rattle.cg_model.specs.Fronts.{When}
use Rattle.cg_model.specs.Looks.{greens_of, told_in, conf_at, attempt_of, attempt_at, top_of}
use Rattle.cg_model.specs.Levels.{is_evidence, is_record_of, names_with, prim_at}
use Rattle.cg_model.specs.FactsExchange.{KnowsLevels}
use Rattle.cg_model.specs.FactsReplica.{IsInAttempt, IsModeData, HasModeData}
use Rattle.cg_model.specs.FactsGreens.{CoversLevel, Covers, CoversAsYellow}
use Rattle.cg_model.specs.Facts.{Invariant}
use Rattle.cg_model.specs.Small.{Small, Starts, Makes, Enters, Orders, Receives, Hands, Leaves, Asks, Settles, Commits, Crashes, Recovers, Copies, Joins, newest_conf, small_step}
use Rattle.cg_model.specs.Smalls.{may_make, is_between}
use Rattle.cg_agree_lemmas.specs.CoresKept.{held-known}
use Rattle.cg_agree.proofs.CoversStay.{ReachShrinks, start-covers, covers-still}
use Rattle.cg_agree.proofs.EndShown.{ToldCovers}
use Rattle.cg_agree_lemmas.specs.LivesRest.{own-rest}
use Rattle.cg_agree.proofs.NewestLevel.{newest-level}
use Rattle.cg_agree.proofs.PastKept.{EntersNow, enters-now, entry_turn, entry_told, told_in-enters}
use Rattle.cg_agree_lemmas.specs.ReachWorld.{when-is, levels-kept, level-kept}
use Rattle.cg_agree_lemmas.specs.ToldKept.{IsUntold, told-same, told_in-same}
use Rattle.cg_agree.proofs.ToldLine.{behind-of}
use Rattle.cg_agree_lemmas.specs.TurnParts.{record_left, valid_left, newest-come}
use Rattle.cg_agree_lemmas.specs.ListStill.{when-from}

-- evidence that a holder of this name has, covers with these greens
abbrev pub CoversWhere : Chronicle → ℕ → ℕ → Bool → Option Vulnerable → List Action → List ActionId → Type 0
CoversWhere c p index valid v greens yellow = When (is_evidence c p index valid v) (Covers c (names_with greens valid yellow))

-- ---- what was evidence before

module _ (c : Chronicle) (s : Small) (i : Invariant c) (may : may_make c s ≡ true) (shrinks : ReachShrinks c (small_step c s)) where
  abbrev d : Chronicle
  d = small_step c s

  pub top-rises : top_of c ≤ top_of d
  top-rises =
      let more = levels-kept c s in
      let e = ap (λ (xs : List ℕ). length xs) more.all ∙ length-append c.levels more.more in
      omega (arith, e)

  -- who knew an index, and is evidence behind the step, was it before, and the newest level is the same
  pub top-same : (p index : ℕ) (valid : Bool) (v : Option Vulnerable) → index ≤ top_of c → is_evidence d p index valid v ≡ true → top_of d ≡ top_of c
  top-same p index valid v low is =
      let a = attempt_at d (top_of d) in
      let at = eqb-true index (top_of d) (and_parts (index == top_of d) (valid || (has a.set p && not (is_record_of a.conf v))) is).0 in
      let rises = top-rises in
      omega (arith, at, low, rises)

  same-evidence : (p index : ℕ) (valid : Bool) (v : Option Vulnerable) → 0 < top_of c → top_of d ≡ top_of c → is_evidence d p index valid v ≡ is_evidence c p index valid v
  same-evidence p index valid v some top =
      let same = level-kept c s (top_of c) i.attempt.levels_stand some (omega arith) in
      ap (λ n. (index == n) && (valid || (has (attempt_at d n).set p && not (is_record_of (attempt_at d n).conf v)))) top
      ∙ ap₂ (λ set conf. (index == top_of c) && (valid || (has set p && not (is_record_of conf v)))) same.set same.conf

  -- what is shown to cover before the step covers behind it
  pub covers-behind : (p index : ℕ) (valid : Bool) (v : Option Vulnerable) (names : List ActionId) → index ≤ top_of c → is_evidence d p index valid v ≡ true →
      (0 < top_of c → is_evidence c p index valid v ≡ true → Covers c names) → Covers d names
  covers-behind p index valid v names low is covers = elim (cases_eq (top_of c) 0) [
    | inl zeroth ↦ subst (λ n. CoversLevel d n names) (sym (same ∙ zeroth)) (start-covers d names)
    | inr apart ↦ (let some = positive (top_of c) apart in subst (λ n. CoversLevel d n names) (sym same)
        (covers-still c s i may shrinks (top_of c) (omega arith) names (covers some (sym (same-evidence p index valid v some same) ∙ is))))
  ]
    where
      same : top_of d ≡ top_of c
      same = top-same p index valid v low is

      positive : (n : ℕ) → (n ≡ 0 → ⊥) → 0 < n
      positive zero apart = absurd (apart refl)
      positive (suc n) apart = omega arith

  pub covers-on : (p index : ℕ) (valid : Bool) (v : Option Vulnerable) (greens : List Action) (yellow : List ActionId) → index ≤ top_of c →
      CoversWhere c p index valid v greens yellow → CoversWhere d p index valid v greens yellow
  covers-on p index valid v greens yellow low is = when-from (is_evidence d p index valid v) (Covers d (names_with greens valid yellow)) (λ evidence.
      covers-behind p index valid v (names_with greens valid yellow) low evidence (λ some was. when-is (is_evidence c p index valid v) (Covers c (names_with greens valid yellow)) was is))

  told-on : (conf p : ℕ) (o : Option Told) → told_in c conf p ≡ o →
      IfSome o (λ t. CoversWhere d p t.summary.prim.index t.summary.yellow.valid t.summary.vulnerable t.greens t.summary.yellow.list)
  told-on conf p None e = tt
  told-on conf p (Some t) e =
      let levels = subst (λ (o : Option Told). IfSome o (KnowsLevels c)) e (i.exchange.summary_of_sender.levels conf p) in
      covers-on p t.summary.prim.index t.summary.yellow.valid t.summary.vulnerable t.greens t.summary.yellow.list levels.level
      (subst (λ (o : Option Told). IfSome o (λ t. CoversWhere c p t.summary.prim.index t.summary.yellow.valid t.summary.vulnerable t.greens t.summary.yellow.list)) e (i.green.coverage.told conf p))

  pub told-kept : (conf p : ℕ) → IfSome (told_in c conf p) (λ t. CoversWhere d p t.summary.prim.index t.summary.yellow.valid t.summary.vulnerable t.greens t.summary.yellow.list)
  told-kept conf p = told-on conf p (told_in c conf p) refl

-- ---- who comes into a configuration

exchange-yellow : (t : Turn) (conf : ℕ) (set : List ℕ) → (enter_exchange t conf set).replica.held.queue.yellow ≡ t.replica.held.queue.yellow
unfolding enter_exchange
exchange-yellow t conf set = (own-rest t).yellow

regular-yellow : (state : State) (r : Replica) (conf : ℕ) (set : List ℕ) → is_between state ≡ true → (on_regular state conf set (begin r)).replica.held.queue.yellow ≡ r.held.queue.yellow
unfolding on_regular
regular-yellow TransPrim r conf set between = exchange-yellow (with_held (begin r) (end_prim r.held)) conf set
regular-yellow (No at heard) r conf set between = exchange-yellow (with_held (begin r) (no_record r.held)) conf set
regular-yellow Un r conf set between = exchange-yellow (begin r) conf set
regular-yellow (NonPrim regular) r conf set between = exchange-yellow (begin r) conf set
regular-yellow RegPrim r conf set between = absurd (let clash : false ≡ true = between in cc)
regular-yellow (ExchangeStates at all heard) r conf set between = absurd (let clash : false ≡ true = between in cc)
regular-yellow (ExchangeActions at heard accepted) r conf set between = absurd (let clash : false ≡ true = between in cc)
regular-yellow (Construct at heard) r conf set between = absurd (let clash : false ≡ true = between in cc)
regular-yellow Left r conf set between = absurd (let clash : false ≡ true = between in cc)

module _ (c : Chronicle) (p : ℕ) (i : Invariant c) (may : may_make c (Enters p) ≡ true) (shrinks : ReachShrinks c (small_step c (Enters p))) (now : EntersNow c p) where
  abbrev r : Replica
  r = now.replica

  abbrev behind : Chronicle
  behind = small_step c (Enters p)

  runs : replica_of c.world p ≡ Some r
  runs = ap (λ (o : Option Node). option_and_then (λ s. running s.life) o) now.node

  index-low : r.held.prim.index ≤ top_of c
  index-low = (held-known (λ h greens. (h.prim.index ≤ top_of c) × (h.prim ≡ prim_at c h.prim.index)) c p r runs i.attempt.levels_stand.known).0

  core-covers : CoversWhere c p r.held.prim.index r.held.yellow_valid r.held.vulnerable (greens_of c p) r.held.queue.yellow
  core-covers = subst (λ q. CoversWhere c q r.held.prim.index r.held.yellow_valid r.held.vulnerable (greens_of c p) r.held.queue.yellow) now.id
      (held-known (λ h greens. CoversWhere c h.id h.prim.index h.yellow_valid h.vulnerable greens h.queue.yellow) c p r runs i.green.coverage.cores)

  -- a record of an attempt from the newest level isn't of the one that opened it
  other-record : (k : ℕ) (o : Option Attempt) → attempt_of c k ≡ o → IsInAttempt r.held o → 0 < top_of c → r.held.prim.index ≡ top_of c → is_record_of (attempt_at c (top_of c)).conf r.held.vulnerable ≡ false
  other-record k None e is some at = absurd is
  other-record k (Some x) e is some at =
      let newest-is = newest-level c (behind-of c i) some in
      let a = attempt_at c (top_of c) in
      let named : x.conf ≡ k = eqb-true x.conf k (found_passes (λ (a : Attempt). a.conf == k) c.attempts x e) in
      let apart : x.conf ≡ a.conf → ⊥ = λ same. (
      let one : Some x ≡ Some a = sym e ∙ ap (attempt_of c) (sym named ∙ same) ∙ newest-is.found in
      let from : x.from ≡ a.from = ap (λ (o : Option Attempt). option_map_or (λ a. a.from) o 0) one in
      let up = newest-is.from in
      let own = is.1 in
      omega (arith, from, up, own, at)) in
      ap (is_record_of a.conf) is.0 ∙ ne_eqb x.conf a.conf (λ same. absurd (apart same))

  entry-state : (state : State) → r.state ≡ state → is_between state ≡ true → IfSome (replica_of c.world p) (IsModeData c p) → CoversAsYellow c r.held (greens_of c p) state →
      CoversWhere behind p r.held.prim.index (valid_left state r.held.yellow_valid) (record_left state r.held.vulnerable) (greens_of c p) r.held.queue.yellow
  entry-state TransPrim is between mode covers = when-from (is_evidence behind p r.held.prim.index true None) (Covers behind (names_with (greens_of c p) true r.held.queue.yellow)) (λ evidence.
      covers-behind c (Enters p) i may shrinks p r.held.prim.index true None (names_with (greens_of c p) true r.held.queue.yellow) index-low evidence
      (λ some was. (let a = attempt_at c (top_of c) in
      subst (λ n. CoversLevel c n (names_of (greens_of c p) ++ r.held.queue.yellow)) (eqb-true r.held.prim.index (top_of c) (and_parts (r.held.prim.index == top_of c) (true || (has a.set p && not (is_record_of a.conf None))) was).0) covers)))
  entry-state (No at heard) is between mode covers = when-from (is_evidence behind p r.held.prim.index r.held.yellow_valid None) (Covers behind (names_with (greens_of c p) r.held.yellow_valid r.held.queue.yellow)) (λ evidence.
      covers-behind c (Enters p) i may shrinks p r.held.prim.index r.held.yellow_valid None (names_with (greens_of c p) r.held.yellow_valid r.held.queue.yellow) index-low evidence
      (λ some was. (
      let a = attempt_at c (top_of c) in
      let parts = and_parts (r.held.prim.index == top_of c) (r.held.yellow_valid || (has a.set p && not (is_record_of a.conf None))) was in
      let data_of = subst (λ (o : Option Replica). IfSome o (IsModeData c p)) runs mode in
      let attempting : IsInAttempt r.held (attempt_of c (conf_at (phase_of c.world.group p))) = subst (HasModeData c r.held (phase_of c.world.group p)) is data_of.data_of in
      let other = other-record (conf_at (phase_of c.world.group p)) (attempt_of c (conf_at (phase_of c.world.group p))) refl attempting some (eqb-true r.held.prim.index (top_of c) parts.0) in
      when-is (is_evidence c p r.held.prim.index r.held.yellow_valid r.held.vulnerable) (Covers c (names_with (greens_of c p) r.held.yellow_valid r.held.queue.yellow))
      (and_from (r.held.prim.index == top_of c) (r.held.yellow_valid || (has a.set p && not (is_record_of a.conf r.held.vulnerable))) parts.0
      (ap (λ b. r.held.yellow_valid || (has a.set p && not b)) other ∙ parts.1)) core-covers)))
  entry-state Un is between mode covers = covers-on c (Enters p) i may shrinks p r.held.prim.index r.held.yellow_valid r.held.vulnerable (greens_of c p) r.held.queue.yellow index-low core-covers
  entry-state (NonPrim regular) is between mode covers = covers-on c (Enters p) i may shrinks p r.held.prim.index r.held.yellow_valid r.held.vulnerable (greens_of c p) r.held.queue.yellow index-low core-covers
  entry-state RegPrim is between mode covers = absurd (let clash : false ≡ true = between in cc)
  entry-state (ExchangeStates at all heard) is between mode covers = absurd (let clash : false ≡ true = between in cc)
  entry-state (ExchangeActions at heard accepted) is between mode covers = absurd (let clash : false ≡ true = between in cc)
  entry-state (Construct at heard) is between mode covers = absurd (let clash : false ≡ true = between in cc)
  entry-state Left is between mode covers = absurd (let clash : false ≡ true = between in cc)

  yellow-same : (entry_turn c r).replica.held.queue.yellow ≡ r.held.queue.yellow
  unfolding after_delivery
  yellow-same = regular-yellow r.state r (newest_conf c.world.group) (configuration c.world.group (newest_conf c.world.group)).members now.between

  pub entry-covers : (let t = entry_told c p r in CoversWhere behind p t.summary.prim.index t.summary.yellow.valid t.summary.vulnerable t.greens t.summary.yellow.list)
  unfolding summary_of
  entry-covers =
      let come = newest-come c.world.group r now.between in
      let trans = subst (λ (o : Option Replica). IfSome o (λ r. CoversAsYellow c r.held (greens_of c p) r.state)) runs (i.green.trans_coverage p) in
      let is = entry-state r.state refl now.between (i.replica.mode_data p) trans in
      let h = (entry_turn c r).replica.held in
      subst (λ ys. CoversWhere behind p h.prim.index h.yellow_valid h.vulnerable (greens_of c p) ys) (sym yellow-same)
      (subst (λ v. CoversWhere behind p h.prim.index h.yellow_valid v (greens_of c p) r.held.queue.yellow) (sym come.vulnerable)
      (subst (λ b. CoversWhere behind p h.prim.index b (record_left r.state r.held.vulnerable) (greens_of c p) r.held.queue.yellow) (sym come.yellow_valid)
      (subst (λ (x : Primary). CoversWhere behind p x.index (valid_left r.state r.held.yellow_valid) (record_left r.state r.held.vulnerable) (greens_of c p) r.held.queue.yellow) (sym come.prim) is)))

-- Evidence that was told covers, behind each small step.
pub told_covers-kept : (c : Chronicle) (s : Small) → Invariant c → may_make c s ≡ true → ReachShrinks c (small_step c s) → ToldCovers (small_step c s)
told_covers-kept c s i may shrinks conf q = told_by s may shrinks where
  same : (s : Small) → may_make c s ≡ true → ReachShrinks c (small_step c s) → IsUntold s →
      IfSome (told_in (small_step c s) conf q) (λ t. CoversWhere (small_step c s) q t.summary.prim.index t.summary.yellow.valid t.summary.vulnerable t.greens t.summary.yellow.list)
  same s may shrinks untold =
      subst (λ (o : Option Told). IfSome o (λ t. CoversWhere (small_step c s) q t.summary.prim.index t.summary.yellow.valid t.summary.vulnerable t.greens t.summary.yellow.list))
      (sym (told_in-same c (small_step c s) (told-same c s untold) conf q)) (told-kept c s i may shrinks conf q)

  entered : (p : ℕ) (may : may_make c (Enters p) ≡ true) → ReachShrinks c (small_step c (Enters p)) → EntersNow c p →
      IfSome (told_in (small_step c (Enters p)) conf q) (λ t. CoversWhere (small_step c (Enters p)) q t.summary.prim.index t.summary.yellow.valid t.summary.vulnerable t.greens t.summary.yellow.list)
  entered p may shrinks now =
      subst (λ (o : Option Told). IfSome o (λ t. CoversWhere (small_step c (Enters p)) q t.summary.prim.index t.summary.yellow.valid t.summary.vulnerable t.greens t.summary.yellow.list)) (sym (told_in-enters c p now conf q))
      (elim (cases_Bool ((conf == newest_conf c.world.group) && (q == p))) [
        | inl is ↦ subst (λ b. IfSome (cond b (Some (entry_told c p now.replica)) (told_in c conf q)) (λ t. CoversWhere (small_step c (Enters p)) q t.summary.prim.index t.summary.yellow.valid t.summary.vulnerable t.greens t.summary.yellow.list)) (sym is)
            (subst (λ n. (let t = entry_told c p now.replica in CoversWhere (small_step c (Enters p)) n t.summary.prim.index t.summary.yellow.valid t.summary.vulnerable t.greens t.summary.yellow.list))
            (sym (eqb-true q p (and_parts (conf == newest_conf c.world.group) (q == p) is).1)) (entry-covers c p i may shrinks now))
        | inr isnt ↦ subst (λ b. IfSome (cond b (Some (entry_told c p now.replica)) (told_in c conf q)) (λ t. CoversWhere (small_step c (Enters p)) q t.summary.prim.index t.summary.yellow.valid t.summary.vulnerable t.greens t.summary.yellow.list)) (sym isnt)
            (told-kept c (Enters p) i may shrinks conf q)
      ])

  told_by : (s : Small) → may_make c s ≡ true → ReachShrinks c (small_step c s) →
      IfSome (told_in (small_step c s) conf q) (λ t. CoversWhere (small_step c s) q t.summary.prim.index t.summary.yellow.valid t.summary.vulnerable t.greens t.summary.yellow.list)
  told_by (Enters p) may shrinks = entered p may shrinks (enters-now c p i.net.phase_sound (i.replica.mode_data p) may)
  told_by (Starts set) may shrinks = same (Starts set) may shrinks tt
  told_by (Makes set) may shrinks = same (Makes set) may shrinks tt
  told_by (Orders p) may shrinks = same (Orders p) may shrinks tt
  told_by (Receives p place) may shrinks = same (Receives p place) may shrinks tt
  told_by (Hands p) may shrinks = same (Hands p) may shrinks tt
  told_by (Leaves p set own places) may shrinks = same (Leaves p set own places) may shrinks tt
  told_by (Asks p kind) may shrinks = same (Asks p kind) may shrinks tt
  told_by (Settles p) may shrinks = same (Settles p) may shrinks tt
  told_by (Commits p) may shrinks = same (Commits p) may shrinks tt
  told_by (Crashes p) may shrinks = same (Crashes p) may shrinks tt
  told_by (Recovers p) may shrinks = same (Recovers p) may shrinks tt
  told_by (Copies p joiner) may shrinks = same (Copies p joiner) may shrinks tt
  told_by (Joins joiner) may shrinks = same (Joins joiner) may shrinks tt

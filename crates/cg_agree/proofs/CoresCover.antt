-- What each replica holds, what stands on its disk and what a snapshot makes of its joiner covers, where it is evidence: behind each
-- small step.
use Rattle.std.proofs.Common.{◌≡◌, ℕ, zero, suc, ◌≤◌, ◌<◌, Bool, true, false, not, ◌&&◌, ◌||◌, List, [], ◌++◌, length, Option, Some, None, IfSome, refl, sym, ap, ◌∙◌, subst, inl, inr, arith, eq-eqb, append-nil}
use Rattle.std.specs.Prelude.{◌==◌, option_and_then}
use Rattle.std.specs.Option.{option_map_or}
use Rattle.std.proofs.lemmas.Bool.{cases_Bool, cases_eq, cond-true, and_parts}
use Rattle.cg_base.specs.declared.action_id.ActionId.{ActionId}
use Rattle.cg_base.specs.declared.weighted.Weighted.{Weighted}
use Rattle.cg_base.specs.Sets.{has}
use Rattle.cg_base.specs.Text.{is_nil}
use Rattle.cg_base.specs.Weights.{ids}
use Rattle.cg_action.specs.declared.action.Action.{Action}
use Rattle.cg_records.specs.declared.primary.Primary.{Primary}
use Rattle.cg_records.specs.declared.vulnerable.Vulnerable.{Vulnerable}
use Rattle.cg_group.specs.declared.phase.Phase.TheVariants.{Regular}
use Rattle.cg_group.specs.State.{phase_of}
use Rattle.cg_client.specs.Replica.{Held, NonPrim, Replica}
use Rattle.cg_client.specs.Turn.{begin}
use Rattle.cg_client.specs.Requests.{settle}
use Rattle.cg_disk_records.specs.Stored.{whiten, recovery_turn}
use Rattle.cg_disk_records.specs.Crash.{Disk}
use Rattle.cg_model.specs.World.{Up, Node, node_of, replica_of, running, has_begun}
use Rattle.cg_model.specs.Step.{joiner_replica}
use Rattle.cg_model.specs.Chronicle.{Chronicle}
use Rattle.cg_model.specs.Looks.{greens_of, stood_of, disk_held, snapshot_of, copied_for, attempt_at, top_of, OfCores}
use Rattle.cg_model.specs.Levels.{is_evidence, is_record_of, names_with, prim_at}
use Rattle.cg_model.specs.FactsReplica.{IsModeData, is_primary, is_attempting}
use Rattle.cg_model.specs.FactsGreens.{Covers, CoversLevel}
use Rattle.cg_model.specs.Facts.{Invariant}
use Rattle.cg_model.specs.Small.{Small, Starts, Makes, Enters, Orders, Receives, Hands, Leaves, Asks, Settles, Commits, Crashes, Recovers, Copies, Joins, newly_green, coming, handed_next, leaving, take_newest, take_next, take_parting, take_request, newest_conf, copy_as, small_step}
use Rattle.cg_model.specs.Smalls.{may_make, is_set}
use Rattle.cg_agree_lemmas.specs.CoresKept.{IsHeldClosed, held-known, greens-turn, cores-weaker}
use Rattle.cg_agree_lemmas.specs.CoresSmall.{StepKeeps, JoinsKeep, ready-of, cores-kept-given, nil-is}
use Rattle.cg_agree.proofs.CoversStay.{ReachShrinks, start-covers}
use Rattle.cg_agree.proofs.EndShown.{ToldCovers}
use Rattle.cg_agree_lemmas.specs.EntryGreens.{nothing-new}
use Rattle.cg_agree.proofs.ExchangeSmalls.{greens-settle, greens-request, replica-behind}
use Rattle.cg_agree_lemmas.specs.HandsNow.{hands-now, hands-regular}
use Rattle.cg_agree_lemmas.specs.LivesRest.{own-rest}
use Rattle.cg_agree_lemmas.specs.ModeHeld.{lists-settle, lists-request}
use Rattle.cg_agree.proofs.NewestLevel.{newest-level, set-members}
use Rattle.cg_agree_lemmas.specs.OneSteps.{enters-step, hands-step}
use Rattle.cg_agree_lemmas.specs.PartingStill.{parting-apart}
use Rattle.cg_agree.proofs.PastKept.{enters-now}
use Rattle.cg_agree_lemmas.specs.RecordKept.{turn-is}
use Rattle.cg_agree.proofs.RegularCover.{attempting-covers, primary-covers, regular-covers}
use Rattle.cg_agree.proofs.ToldCover.{CoversWhere, covers-on}
use Rattle.cg_agree.proofs.ToldLine.{Behind}
use Rattle.cg_agree_lemmas.specs.TurnParts.{settle-quiet, request-quiet, parting-turned}
use Rattle.cg_agree_lemmas.specs.TurnValues.{SameValues, even-own_to_red}
use Rattle.cg_agree_lemmas.specs.ListStill.{when-from}

-- a snapshot is taken for one who hasn't begun
abbrev pub IsNewCopy : Chronicle → Small → Type 0
IsNewCopy c (Copies p joiner) = has_begun c.world joiner ≡ false
IsNewCopy c _ = Unit {0}

abbrev pub CoreCovers : Chronicle → Held → List Action → Type 0
CoreCovers c h greens = CoversWhere c h.id h.prim.index h.yellow_valid h.vulnerable greens h.queue.yellow

-- the same in all that counts
pub covers-as : (d : Chronicle) (h k : Held) (all more : List Action) → SameValues h k → k.queue.yellow ≡ h.queue.yellow → more ≡ all → CoreCovers d h all → CoreCovers d k more
covers-as d h k all more values yellow same is =
    subst (λ xs. CoreCovers d k xs) (sym same)
    (subst (λ ys. CoversWhere d k.id k.prim.index k.yellow_valid k.vulnerable all ys) (sym yellow)
    (subst (λ v. CoversWhere d k.id k.prim.index k.yellow_valid v all h.queue.yellow) (sym values.vulnerable)
    (subst (λ b. CoversWhere d k.id k.prim.index b h.vulnerable all h.queue.yellow) (sym values.yellow_valid)
    (subst (λ (x : Primary). CoversWhere d k.id x.index h.yellow_valid h.vulnerable all h.queue.yellow) (sym values.prim)
    (subst (λ n. CoversWhere d n h.prim.index h.yellow_valid h.vulnerable all h.queue.yellow) (sym values.id) is)))))

pub covers-closed : (d : Chronicle) → IsHeldClosed (CoreCovers d)
unfolding whiten recovery_turn
covers-closed d = record {
  whitened = λ h all is. is;
  stored = λ h all is. is;
  recovers = λ h all is. (let t = begin (record { held = h; state = NonPrim false }) in
      covers-as d h (recovery_turn h).replica.held all all (even-own_to_red t).values (own-rest t).yellow refl is);
}

both-some : {X : Type 0} (P R : X → Type 0) (o : Option X) → IfSome o P → IfSome o R → IfSome o (λ x. P x × R x)
both-some P R None one two = tt
both-some P R (Some x) one two = (one, two)

both-cores : (c : Chronicle) (P R : Held → List Action → Type 0) → OfCores c P → OfCores c R → OfCores c (λ h all. P h all × R h all)
both-cores c P R one two = record {
  memory = λ p. both-some (λ (r : Replica). P r.held (greens_of c p)) (λ r. R r.held (greens_of c p)) (replica_of c.world p) (one.memory p) (two.memory p);
  disk = λ p. both-some (λ (h : Held). P h (stood_of c p)) (λ h. R h (stood_of c p)) (disk_held c.world p) (one.disk p) (two.disk p);
  snapshot = λ j. both-some (λ s. P (joiner_replica j s.content).held (copied_for c j)) (λ s. R (joiner_replica j s.content).held (copied_for c j)) (snapshot_of c.world j) (one.snapshot j) (two.snapshot j);
}

-- at the start nothing is to be covered
pub zero-covers : (d : Chronicle) (p index : ℕ) (valid : Bool) (v : Option Vulnerable) (greens : List Action) (yellow : List ActionId) → top_of d ≡ 0 → CoversWhere d p index valid v greens yellow
zero-covers d p index valid v greens yellow zeroth = when-from (is_evidence d p index valid v) (Covers d (names_with greens valid yellow))
    (λ e. subst (λ n. CoversLevel d n (names_with greens valid yellow)) (sym zeroth) (start-covers d (names_with greens valid yellow)))

-- who hasn't begun is no member of the newest level, and so no evidence
joiner-covers : (d : Chronicle) → Behind d → (j : ℕ) → has_begun d.world j ≡ false → (h : Held) (all : List Action) → CoreCovers d (joiner_replica j h).held all
joiner-covers d b j unbegun h all = elim (cases_eq (top_of d) 0) [
  | inl zeroth ↦ zero-covers d j h.prim.index false None all h.queue.yellow zeroth
  | inr apart ↦ (let a = attempt_at d (top_of d) in
      when-from (is_evidence d j h.prim.index false None) (Covers d (names_with all false [])) (λ e.
      (let second = (and_parts (h.prim.index == top_of d) (false || (has a.set j && not (is_record_of a.conf None))) e).1 in
      let member = (and_parts (has a.set j) (not (is_record_of a.conf None)) second).0 in
      let begun = b.net.members_begun.member a.conf j (set-members d b a.conf a (newest-level d b (positive (top_of d) apart)).found j member) in
      absurd (let clash : true ≡ false = sym begun ∙ unbegun in cc))))
]
  where
    positive : (n : ℕ) → (n ≡ 0 → ⊥) → 0 < n
    positive zero apart = absurd (apart refl)
    positive (suc n) apart = omega arith

module _ (c : Chronicle) (s : Small) (i : Invariant c) (may : may_make c s ≡ true) (shrinks : ReachShrinks c (small_step c s)) (b : Behind (small_step c s)) (covered : ToldCovers (small_step c s)) where
  abbrev d : Chronicle
  d = small_step c s

  -- what covered before covers still
  cores-before : OfCores c (CoreCovers d)
  cores-before = cores-weaker (λ h all. ((h.prim.index ≤ top_of c) × (h.prim ≡ prim_at c h.prim.index)) × CoreCovers c h all) (CoreCovers d) c
      (λ h all is. covers-on c s i may shrinks h.id h.prim.index h.yellow_valid h.vulnerable all h.queue.yellow is.0.0 is.1)
      (both-cores c (λ h all. (h.prim.index ≤ top_of c) × (h.prim ≡ prim_at c h.prim.index)) (CoreCovers c) i.attempt.levels_stand.known i.green.coverage.cores)

  mine-before : (p : ℕ) (r : Replica) (disk : Disk) → node_of c.world p ≡ Some (record { id = p; life = Up r disk }) → CoreCovers d r.held (greens_of c p)
  mine-before p r disk node = held-known (CoreCovers d) c p r (ap (λ (o : Option Node). option_and_then (λ s. running s.life) o) node) cores-before

  -- a turn that changes nothing of that
  still-turn : (p : ℕ) (r new : Replica) (disk : Disk) → node_of c.world p ≡ Some (record { id = p; life = Up r disk }) → SameValues r.held new.held → new.held.queue.yellow ≡ r.held.queue.yellow →
      new.held.queue.greens ≡ r.held.queue.greens → CoreCovers d new.held (greens_of c p ++ newly_green r new)
  still-turn p r new disk node values yellow greens =
      covers-as d r.held new.held (greens_of c p) (greens_of c p ++ newly_green r new) values yellow (ap (λ xs. greens_of c p ++ xs) (nothing-new r new greens) ∙ append-nil (greens_of c p)) (mine-before p r disk node)

  -- behind a turn, what is known of its replica
  turn-covers : (p : ℕ) (new : Replica) (all : List Action) → replica_of d.world p ≡ Some new → greens_of d p ≡ all →
      CoversWhere d p new.held.prim.index new.held.yellow_valid new.held.vulnerable (greens_of d p) new.held.queue.yellow → CoreCovers d new.held all
  turn-covers p new all up greens is =
      let mode = subst (λ (o : Option Replica). IfSome o (IsModeData d p)) up (b.replica.mode_data p) in
      subst (CoreCovers d new.held) greens (subst (λ n. CoversWhere d n new.held.prim.index new.held.yellow_valid new.held.vulnerable (greens_of d p) new.held.queue.yellow) (sym mode.id) is)

-- ---- each turn

module _ (c : Chronicle) (i : Invariant c) (p : ℕ) where
  enters-covers : (may : may_make c (Enters p) ≡ true) → Behind (small_step c (Enters p)) → ToldCovers (small_step c (Enters p)) → ReachShrinks c (small_step c (Enters p)) → StepKeeps c (Enters p) (CoreCovers (small_step c (Enters p)))
  unfolding small_step
  enters-covers may b covered shrinks = λ r disk node. (
      let g = c.world.group in
      let part = take_newest g in
      let d = small_step c (Enters p) in
      let now = enters-now c p i.net.phase_sound (i.replica.mode_data p) may in
      let up : replica_of d.world p ≡ Some (part (begin r)).replica = replica-behind (coming c p) p part r disk node in
      let greens : greens_of d p ≡ greens_of c p ++ newly_green r (part (begin r)).replica = ap (λ (x : Chronicle). greens_of x p) (turn-is (coming c p) p part r disk node) ∙ greens-turn (coming c p) p r disk (part (begin r)) i.net.hosted.past node in
      let step = enters-step c p i.net.phase_sound now.may.comes in
      let phase : phase_of d.world.group p ≡ Regular (newest_conf g) = step.stands.phase p ∙ cond-true (p == p) (Regular (newest_conf g)) (phase_of g p) (eq-eqb p p refl) in
      turn-covers c (Enters p) i may shrinks b covered p (part (begin r)).replica (greens_of c p ++ newly_green r (part (begin r)).replica) up greens
      (regular-covers d b covered p (part (begin r)).replica up (newest_conf g) phase))

  hands-covers : (may : may_make c (Hands p) ≡ true) → Behind (small_step c (Hands p)) → ToldCovers (small_step c (Hands p)) → ReachShrinks c (small_step c (Hands p)) → StepKeeps c (Hands p) (CoreCovers (small_step c (Hands p)))
  unfolding small_step
  hands-covers may b covered shrinks = λ r disk node. (
      let g = c.world.group in
      let part = take_next g p in
      let d = small_step c (Hands p) in
      let n = hands-now c p i may in
      let up : replica_of d.world p ≡ Some (part (begin r)).replica = replica-behind (handed_next c p) p part r disk node in
      let greens : greens_of d p ≡ greens_of c p ++ newly_green r (part (begin r)).replica = ap (λ (x : Chronicle). greens_of x p) (turn-is (handed_next c p) p part r disk node) ∙ greens-turn (handed_next c p) p r disk (part (begin r)) i.net.hosted.past node in
      let step = hands-step c p i.net.phase_sound (hands-regular c p may) in
      let phase : phase_of d.world.group p ≡ Regular n.conf = step.stands.phase p ∙ cond-true (p == p) (phase_of g p) (phase_of g p) (eq-eqb p p refl) ∙ n.regular in
      turn-covers c (Hands p) i may shrinks b covered p (part (begin r)).replica (greens_of c p ++ newly_green r (part (begin r)).replica) up greens
      (regular-covers d b covered p (part (begin r)).replica up n.conf phase))

  leaves-covers : (set : List ℕ) (own : ℕ) (places : List ℕ) (may : may_make c (Leaves p set own places) ≡ true) → Behind (small_step c (Leaves p set own places)) → ToldCovers (small_step c (Leaves p set own places)) →
      ReachShrinks c (small_step c (Leaves p set own places)) → StepKeeps c (Leaves p set own places) (CoreCovers (small_step c (Leaves p set own places)))
  unfolding small_step
  leaves-covers set own places may b covered shrinks = λ r disk node. (
      let g = c.world.group in
      let part = take_parting g p set places in
      let d = small_step c (Leaves p set own places) in
      let new = (part (begin r)).replica in
      let up : replica_of d.world p ≡ Some new = replica-behind (leaving c p set own) p part r disk node in
      let greens : greens_of d p ≡ greens_of c p ++ newly_green r new = ap (λ (x : Chronicle). greens_of x p) (turn-is (leaving c p set own) p part r disk node) ∙ greens-turn (leaving c p set own) p r disk (part (begin r)) i.net.hosted.past node in
      let covers = turn-covers c (Leaves p set own places) i may shrinks b covered p new (greens_of c p ++ newly_green r new) up greens in
      elim (cases_Bool (is_primary new.state)) [
        | inl primary ↦ covers (primary-covers d b covered p new up primary)
        | inr beside ↦ elim (cases_Bool (is_attempting new.state)) [
          | inl attempting ↦ covers (attempting-covers d b covered p new up attempting)
          | inr none ↦ elim (parting-turned g p set places r) [
            | inl quiet ↦ (let apart = parting-apart g p set places r (sym quiet.primary ∙ beside) (sym quiet.attempting ∙ none) in
                still-turn c (Leaves p set own places) i may shrinks b covered p r new disk node quiet.values apart.yellow apart.greens)
            | inr done ↦ absurd (let clash : true ≡ false = sym done.after ∙ beside in cc)
          ]
        ]
      ])

start-top : (c : Chronicle) → Invariant c → (set : List Weighted) → may_make c (Starts set) ≡ true → top_of (small_step c (Starts set)) ≡ 0
unfolding small_step may_make
start-top c i set may = ap (λ (x : Chronicle). length x.levels) (i.net.hosted.before (nil-is c.world.nodes (and_parts (is_nil c.world.nodes) (is_set (ids set)) may).0))

unbegun-copies : (c : Chronicle) (p joiner : ℕ) → has_begun c.world joiner ≡ false → has_begun (small_step c (Copies p joiner)).world joiner ≡ false
unfolding small_step
unbegun-copies c p joiner e = at (replica_of c.world p) where
  at : (o : Option Replica) → has_begun (option_map_or (copy_as c p joiner) o c).world joiner ≡ false
  at None = e
  at (Some r) = e

joins-covers : (c : Chronicle) (s : Small) → Behind (small_step c s) → IsNewCopy c s → JoinsKeep c s (CoreCovers (small_step c s))
joins-covers c (Copies p joiner) b new = λ h all is. joiner-covers (small_step c (Copies p joiner)) b joiner (unbegun-copies c p joiner new) h all
joins-covers c (Starts set) b new = tt
joins-covers c (Makes set) b new = tt
joins-covers c (Enters p) b new = tt
joins-covers c (Orders p) b new = tt
joins-covers c (Receives p place) b new = tt
joins-covers c (Hands p) b new = tt
joins-covers c (Leaves p set own places) b new = tt
joins-covers c (Asks p kind) b new = tt
joins-covers c (Settles p) b new = tt
joins-covers c (Commits p) b new = tt
joins-covers c (Crashes p) b new = tt
joins-covers c (Recovers p) b new = tt
joins-covers c (Joins joiner) b new = tt

-- What each core holds covers, behind each small step.
pub cores_cover-kept : (c : Chronicle) (s : Small) (i : Invariant c) (may : may_make c s ≡ true) → ReachShrinks c (small_step c s) → IsNewCopy c s → Behind (small_step c s) → ToldCovers (small_step c s) →
    OfCores (small_step c s) (CoreCovers (small_step c s))
cores_cover-kept c s i may shrinks new b covered =
    cores-kept-given (CoreCovers (small_step c s)) c s (ready-of c i.net.hosted i.replica.disk_behind) may (covers-closed (small_step c s)) (joins-covers c s b new) (step s may shrinks b covered) (cores-before c s i may shrinks b covered)
  where
    step : (s : Small) (may : may_make c s ≡ true) → ReachShrinks c (small_step c s) → Behind (small_step c s) → ToldCovers (small_step c s) → StepKeeps c s (CoreCovers (small_step c s))
    step (Starts set) may shrinks b covered = λ p. zero-covers (small_step c (Starts set)) p 0 false None [] [] (start-top c i set may)
    step (Enters p) may shrinks b covered = enters-covers c i p may b covered shrinks
    step (Hands p) may shrinks b covered = hands-covers c i p may b covered shrinks
    step (Leaves p set own places) may shrinks b covered = leaves-covers c i p set own places may b covered shrinks
    step (Asks p kind) may shrinks b covered = λ r disk node. still-turn c (Asks p kind) i may shrinks b covered p r (take_request kind (begin r)).replica disk node
        (request-quiet kind r).values (lists-request (begin r) kind).yellow (greens-request (begin r) kind)
    step (Settles p) may shrinks b covered = λ r disk node. still-turn c (Settles p) i may shrinks b covered p r (settle (begin r)).replica disk node
        (settle-quiet r).values (lists-settle (begin r)).yellow (greens-settle (begin r))
    step (Makes set) may shrinks b covered = tt
    step (Orders p) may shrinks b covered = tt
    step (Receives p place) may shrinks b covered = tt
    step (Commits p) may shrinks b covered = tt
    step (Crashes p) may shrinks b covered = tt
    step (Recovers p) may shrinks b covered = tt
    step (Copies p joiner) may shrinks b covered = tt
    step (Joins joiner) may shrinks b covered = tt

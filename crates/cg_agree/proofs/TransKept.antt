-- Who is behind a primary component covers its level: every small step keeps it, but for the one in which the member leaves.
use Rattle.std.proofs.Common.{◌≡◌, ℕ, ◌≤◌, Bool, true, false, cond, not, List, [], ◌++◌, Option, Some, None, IfSome, is_some, option_map, refl, sym, ap, ◌∙◌, subst, inl, inr, eq-eqb, eqb-true}
use Rattle.std.specs.Prelude.{◌==◌, option_and_then}
use Rattle.std.specs.Option.{option_map_or}
use Rattle.std.proofs.lemmas.Bool.{cases_Bool, cond-true, cond-false, and_parts, ne_eqb, eqb-false}
use Rattle.cg_base.specs.declared.weighted.Weighted.{Weighted}
use Rattle.cg_base.specs.Sets.{has}
use Rattle.cg_base.specs.Weights.{ids}
use Rattle.cg_base.specs.Text.{is_nil}
use Rattle.cg_action.specs.declared.action.Action.{Action}
use Rattle.cg_action.specs.declared.action.Kind.{Kind}
use Rattle.cg_queue.specs.Queue.{names_of}
use Rattle.cg_records.specs.declared.primary.Primary.{Primary}
use Rattle.cg_knowledge.specs.Summaries.{gone}
use Rattle.cg_knowledge.specs.Verdict.{decides}
use Rattle.cg_client.specs.Replica.{Held, State, RegPrim, TransPrim, ExchangeStates, ExchangeActions, Construct, No, Un, NonPrim, Left, Replica, fresh, fresh_held}
use Rattle.cg_client.specs.Turn.{Turn, begin}
use Rattle.cg_client.specs.Requests.{settle}
use Rattle.cg_disk_records.specs.Stored.{stored_of, whiten, recovery_turn}
use Rattle.cg_disk_records.specs.Crash.{Disk, new_disk, at_rest, recovered, disk_recovered}
use Rattle.cg_model.specs.World.{NodeState, Up, Down, Node, TransferState, node_of, replica_of, running, has_begun, is_left}
use Rattle.cg_model.specs.Step.{joiner_replica}
use Rattle.cg_model.specs.Chronicle.{Past, Chronicle, no_chronicle}
use Rattle.cg_model.specs.Looks.{greens_of, past_of, copied_for, top_of}
use Rattle.cg_model.specs.Talk.{Talk, is_full, is_through, is_announced, state_in}
use Rattle.cg_model.specs.Levels.{prim_at}
use Rattle.cg_model.specs.FactsGreens.{CoversLevel, CoversAsYellow, TransCoverage}
use Rattle.cg_model.specs.Facts.{Invariant}
use Rattle.cg_model.specs.Small.{Small, Starts, Makes, Enters, Orders, Receives, Hands, Leaves, Asks, Settles, Commits, Crashes, Recovers, Copies, Joins, start, coming, handed_next, leaving, take_newest, take_next, take_parting, take_request, turning, commit_as, crash_as, recover_as, copy_as, join_with, new_past, written, struck, small_step}
use Rattle.cg_model.specs.Smalls.{may_make, is_set, is_running}
use Rattle.cg_agree.proofs.BegunKept.{nothing-before}
use Rattle.cg_agree_lemmas.specs.ChronicleFacts.{past-begun}
use Rattle.cg_agree_lemmas.specs.CoresKept.{past-here, past-there}
use Rattle.cg_agree_lemmas.specs.CoresSmall.{fresh-all}
use Rattle.cg_agree.proofs.CoversStay.{ReachShrinks, covers-still}
use Rattle.cg_agree.proofs.ExchangeSmalls.{greens-settle, greens-request, greens-turning, greens-behind, replica-behind}
use Rattle.cg_agree_lemmas.specs.ExchangeStill.{StaysAs, stays-itself}
use Rattle.cg_agree_lemmas.specs.HandsKept.{hosted}
use Rattle.cg_agree_lemmas.specs.HandsNow.{hands-now, hand-state, set, behind}
use Rattle.cg_agree_lemmas.specs.ModeHeld.{SameLists, lists-settle, lists-request}
use Rattle.cg_agree_lemmas.specs.OneSteps.{may-join, node-there}
use Rattle.cg_agree.proofs.PastKept.{enters-now}
use Rattle.cg_agree.proofs.TalkAlone.{replica-set}
use Rattle.cg_agree.proofs.TalkQuiet.{replica-turning}
use Rattle.cg_agree_lemmas.specs.TurnParts.{newest-come}
use Rattle.cg_agree_lemmas.specs.TurnValues.{SameValues, even-settle, even-request, even-own_to_red}
use Rattle.cg_agree_lemmas.specs.Looking.{greens-in}

-- ---- one replica

abbrev pub is_trans : State → Bool
is_trans TransPrim = true
is_trans _ = false

-- what a disk gives isn't behind a primary component
recovered-beside : (disk : Disk) → is_trans (recovered disk).state ≡ false
unfolding recovery_turn
recovered-beside disk = ap is_trans (even-own_to_red (begin (record { held = disk.content; state = NonPrim false }))).state

-- one replica covers, where it is behind a primary component
abbrev pub TransAt : Chronicle → ℕ → Type 0
TransAt d q = IfSome (replica_of d.world q) (λ r. CoversAsYellow d r.held (greens_of d q) r.state)

-- who leaves a configuration covers its level then
abbrev pub LeaverCovers : Chronicle → Small → Type 0
LeaverCovers c (Leaves p set own places) = TransAt (small_step c (Leaves p set own places)) p
LeaverCovers c _ = Unit {0}

beside : (d : Chronicle) (h : Held) (greens : List Action) (state : State) → is_trans state ≡ false → CoversAsYellow d h greens state
beside d h greens TransPrim e = absurd (let clash : true ≡ false = e in cc)
beside d h greens RegPrim e = tt
beside d h greens (ExchangeStates k set heard) e = tt
beside d h greens (ExchangeActions k heard n) e = tt
beside d h greens (Construct k heard) e = tt
beside d h greens (No k heard) e = tt
beside d h greens Un e = tt
beside d h greens (NonPrim regular) e = tt
beside d h greens Left e = tt

beside-some : (d : Chronicle) (q : ℕ) (r : Replica) → replica_of d.world q ≡ Some r → is_trans r.state ≡ false → TransAt d q
beside-some d q r up e = subst (λ (o : Option Replica). IfSome o (λ r. CoversAsYellow d r.held (greens_of d q) r.state)) (sym up) (beside d r.held (greens_of d q) r.state e)

not-trans : (set : List ℕ) (conf : ℕ) (t : Talk) (me : ℕ) → is_trans (state_in set conf t me) ≡ false
not-trans set conf t me = at (is_full set t) (is_through t) (has (gone t.heard) me) (decides t.heard) (is_announced t) where
  at : (a b c d e : Bool) → is_trans (cond (not a) (ExchangeStates conf set t.heard) (cond (not b) (ExchangeActions conf t.heard t.accepted)
      (cond c Left (cond (not d) (NonPrim true) (cond e RegPrim (Construct conf t.announced)))))) ≡ false
  at false b c d e = refl
  at true false c d e = refl
  at true true true d e = refl
  at true true false false e = refl
  at true true false true true = refl
  at true true false true false = refl

module _ (c : Chronicle) (s : Small) (i : Invariant c) (may : may_make c s ≡ true) (shrinks : ReachShrinks c (small_step c s)) where
  as-still : (h k : Held) (greens : List Action) (state : State) → h.prim.index ≤ top_of c → k.prim ≡ h.prim → k.queue.yellow ≡ h.queue.yellow → CoversAsYellow c h greens state → CoversAsYellow (small_step c s) k greens state
  as-still h k greens TransPrim low prim yellow is =
      subst (λ (x : Primary). CoversLevel (small_step c s) x.index (names_of greens ++ k.queue.yellow)) (sym prim)
      (subst (λ ys. CoversLevel (small_step c s) h.prim.index (names_of greens ++ ys)) (sym yellow) (covers-still c s i may shrinks h.prim.index low (names_of greens ++ h.queue.yellow) is))
  as-still h k greens RegPrim low prim yellow is = tt
  as-still h k greens (ExchangeStates x set heard) low prim yellow is = tt
  as-still h k greens (ExchangeActions x heard n) low prim yellow is = tt
  as-still h k greens (Construct x heard) low prim yellow is = tt
  as-still h k greens (No x heard) low prim yellow is = tt
  as-still h k greens Un low prim yellow is = tt
  as-still h k greens (NonPrim regular) low prim yellow is = tt
  as-still h k greens Left low prim yellow is = tt

  -- a replica that holds the same
  trans-even : (q : ℕ) → StaysAs (replica_of c.world q) (replica_of (small_step c s).world q) → greens_of (small_step c s) q ≡ greens_of c q → TransAt (small_step c s) q
  trans-even q same greens = at (replica_of c.world q) (replica_of (small_step c s).world q) same (i.green.trans_coverage q) (i.attempt.levels_stand.known.memory q) where
    at : (o after : Option Replica) → StaysAs o after → IfSome o (λ r. CoversAsYellow c r.held (greens_of c q) r.state) → IfSome o (λ r. (r.held.prim.index ≤ top_of c) × (r.held.prim ≡ prim_at c r.held.prim.index)) →
        IfSome after (λ r. CoversAsYellow (small_step c s) r.held (greens_of (small_step c s) q) r.state)
    at o None same is low = tt
    at None (Some new) same is low = absurd same
    at (Some r) (Some new) same is low =
        subst (λ xs. CoversAsYellow (small_step c s) new.held xs new.state) (sym greens)
        (subst (CoversAsYellow (small_step c s) new.held (greens_of c q)) (sym same.0) (as-still r.held new.held (greens_of c q) r.state low.0 same.1.prim same.2.yellow is))

  trans-same : (q : ℕ) → replica_of (small_step c s).world q ≡ replica_of c.world q → greens_of (small_step c s) q ≡ greens_of c q → TransAt (small_step c s) q
  trans-same q same greens = trans-even q (subst (StaysAs (replica_of c.world q)) (sym same) (stays-itself (replica_of c.world q))) greens

  -- one replica has a turn
  trans-one : (p : ℕ) → ((q : ℕ) → (q == p) ≡ false → replica_of (small_step c s).world q ≡ replica_of c.world q) → ((q : ℕ) → (q == p) ≡ false → greens_of (small_step c s) q ≡ greens_of c q) →
      TransAt (small_step c s) p → TransCoverage (small_step c s)
  trans-one p replica greens own q = elim (cases_Bool (q == p)) [
    | inl is ↦ subst (TransAt (small_step c s)) (sym (eqb-true q p is)) own
    | inr other ↦ trans-same q (replica q other) (greens q other)
  ]

module _ (c : Chronicle) (i : Invariant c) where
  abbrev Shrinks : Small → Type 0
  Shrinks s = ReachShrinks c (small_step c s)

  enters-trans : (p : ℕ) → may_make c (Enters p) ≡ true → Shrinks (Enters p) → TransCoverage (small_step c (Enters p))
  unfolding small_step
  enters-trans p may shrinks =
      let part = take_newest c.world.group in
      let n = enters-now c p i.net.phase_sound (i.replica.mode_data p) may in
      trans-one c (Enters p) i may shrinks p (λ q other. replica-turning (coming c p) p part q other) (λ q other. greens-turning (coming c p) p part q other)
      (beside-some (small_step c (Enters p)) p (part (begin n.replica)).replica (replica-behind (coming c p) p part n.replica n.disk n.node) (ap is_trans (newest-come c.world.group n.replica n.between).state))

  hands-trans : (p : ℕ) → may_make c (Hands p) ≡ true → Shrinks (Hands p) → TransCoverage (small_step c (Hands p))
  unfolding small_step
  hands-trans p may shrinks =
      let part = take_next c.world.group p in
      let n = hands-now c p i may in
      trans-one c (Hands p) i may shrinks p (λ q other. replica-turning (handed_next c p) p part q other) (λ q other. greens-turning (handed_next c p) p part q other)
      (beside-some (small_step c (Hands p)) p (part (begin n.replica)).replica (replica-behind (handed_next c p) p part n.replica n.disk n.node)
      (ap is_trans (hand-state c p i n) ∙ not-trans (set c p i n) n.conf (behind c p i n) p))

  leaves-trans : (p : ℕ) (set : List ℕ) (own : ℕ) (places : List ℕ) → may_make c (Leaves p set own places) ≡ true → Shrinks (Leaves p set own places) → TransAt (small_step c (Leaves p set own places)) p → TransCoverage (small_step c (Leaves p set own places))
  unfolding small_step
  leaves-trans p set own places may shrinks mine =
      let part = take_parting c.world.group p set places in
      trans-one c (Leaves p set own places) i may shrinks p (λ q other. replica-turning (leaving c p set own) p part q other) (λ q other. greens-turning (leaving c p set own) p part q other) mine

  asks-trans : (p : ℕ) (part : Turn → Turn) (s : Small) (may : may_make c s ≡ true) → Shrinks s → small_step c s ≡ turning c p part → is_running c p ≡ true →
      ((t : Turn) → ((part t).replica.state ≡ t.replica.state) × SameValues t.replica.held (part t).replica.held × SameLists t.replica.held (part t).replica.held) →
      ((t : Turn) → (part t).replica.held.queue.greens ≡ t.replica.held.queue.greens) → TransCoverage (small_step c s)
  asks-trans p part s may shrinks step runs even queue =
      let sits = hosted c.world p runs in
      let r = sits.replica in
      let up : replica_of c.world p ≡ Some r = ap (λ (o : Option Node). option_and_then (λ s. running s.life) o) sits.node in
      trans-one c s i may shrinks p (λ q other. ap (λ (x : Chronicle). replica_of x.world q) step ∙ replica-turning c p part q other) (λ q other. ap (λ (x : Chronicle). greens_of x q) step ∙ greens-turning c p part q other)
      (trans-even c s i may shrinks p
      (subst (λ (o : Option Replica). StaysAs o (replica_of (small_step c s).world p)) (sym up)
      (subst (StaysAs (Some r)) (sym (ap (λ (x : Chronicle). replica_of x.world p) step ∙ replica-behind c p part r sits.disk sits.node)) (even (begin r))))
      (ap (λ (x : Chronicle). greens_of x p) step ∙ greens-behind c p part r sits.disk sits.node i.net.hosted.past (queue (begin r))))

  asked : (p : ℕ) (kind : Kind) → may_make c (Asks p kind) ≡ true → Shrinks (Asks p kind) → TransCoverage (small_step c (Asks p kind))
  unfolding may_make small_step
  asked p kind may shrinks = asks-trans p (take_request kind) (Asks p kind) may shrinks refl (and_parts (is_running c p) (not (is_left c.world p)) may).0
      (λ t. ((even-request t kind).state, (even-request t kind).values, lists-request t kind)) (λ t. greens-request t kind)

  settled : (p : ℕ) → may_make c (Settles p) ≡ true → Shrinks (Settles p) → TransCoverage (small_step c (Settles p))
  unfolding may_make small_step
  settled p may shrinks = asks-trans p settle (Settles p) may shrinks refl may (λ t. ((even-settle t).state, (even-settle t).values, lists-settle t)) greens-settle

  commits-trans : (p : ℕ) → may_make c (Commits p) ≡ true → Shrinks (Commits p) → TransCoverage (small_step c (Commits p))
  unfolding may_make small_step whiten
  commits-trans p may shrinks =
      let sits = hosted c.world p may in
      let r = sits.replica in
      let d = commit_as c p (Up r sits.disk) in
      let new : Replica = record r { held = whiten r.held } in
      let life : NodeState = Up new (record sits.disk { content = stored_of (whiten r.held) }) in
      let step : small_step c (Commits p) ≡ d = ap (λ (o : Option Node). option_map_or (λ s. commit_as c p s.life) o c) sits.node in
      let up : replica_of c.world p ≡ Some r = ap (λ (o : Option Node). option_and_then (λ s. running s.life) o) sits.node in
      let now : replica_of d.world p ≡ Some new = replica-set c.world p life p ∙ cond-true (p == p) (Some new) (replica_of c.world p) (eq-eqb p p refl) in
      trans-one c (Commits p) i may shrinks p
      (λ q other. ap (λ (x : Chronicle). replica_of x.world q) step ∙ replica-set c.world p life q ∙ cond-false (q == p) (Some new) (replica_of c.world q) other)
      (λ q other. ap (λ (x : Chronicle). greens_of x q) step ∙ ap greens-in (past-there written (λ x. refl) c p q (λ e. eqb-false q p other (sym e))))
      (trans-even c (Commits p) i may shrinks p
      (subst (λ (o : Option Replica). StaysAs o (replica_of (small_step c (Commits p)).world p)) (sym up) (subst (StaysAs (Some r)) (sym (ap (λ (x : Chronicle). replica_of x.world p) step ∙ now))
      (refl, record { id = refl; prim = refl; attempt_index = refl; vulnerable = refl; yellow_valid = refl }, record { reds = refl; yellow = refl; green_cut = refl; red_cut = refl })))
      (ap (λ (x : Chronicle). greens_of x p) step ∙ ap greens-in (past-here written (λ x. refl) c p) ∙ same (past_of c p))) where
        same : (o : Option Past) → greens-in (option_map written o) ≡ greens-in o
        same None = refl
        same (Some x) = refl

  crashes-trans : (p : ℕ) → may_make c (Crashes p) ≡ true → Shrinks (Crashes p) → TransCoverage (small_step c (Crashes p))
  unfolding may_make small_step
  crashes-trans p may shrinks =
      let sits = hosted c.world p may in
      let d = crash_as c p (Up sits.replica sits.disk) in
      let step : small_step c (Crashes p) ≡ d = ap (λ (o : Option Node). option_map_or (λ s. crash_as c p s.life) o c) sits.node in
      let none : replica_of (small_step c (Crashes p)).world p ≡ None = ap (λ (x : Chronicle). replica_of x.world p) step ∙ replica-set c.world p (Down (at_rest sits.disk) []) p ∙ cond-true (p == p) None (replica_of c.world p) (eq-eqb p p refl) in
      trans-one c (Crashes p) i may shrinks p
      (λ q other. ap (λ (x : Chronicle). replica_of x.world q) step ∙ replica-set c.world p (Down (at_rest sits.disk) []) q ∙ cond-false (q == p) None (replica_of c.world q) other)
      (λ q other. ap (λ (x : Chronicle). greens_of x q) step ∙ ap greens-in (past-there struck (λ x. refl) c p q (λ e. eqb-false q p other (sym e))))
      (subst (λ (o : Option Replica). IfSome o (λ r. CoversAsYellow (small_step c (Crashes p)) r.held (greens_of (small_step c (Crashes p)) p) r.state)) (sym none) tt)

  recovers-trans : (p : ℕ) → may_make c (Recovers p) ≡ true → Shrinks (Recovers p) → TransCoverage (small_step c (Recovers p))
  unfolding may_make small_step
  recovers-trans p may shrinks =
      let sits = node-there c p (and_parts (has_begun c.world p) (not (is_running c p)) may).0 in
      life sits.node.life (ap (λ (o : Option Node). option_map_or (λ s. recover_as c s.life) o c) sits.there) where
        life : (l : NodeState) → small_step c (Recovers p) ≡ recover_as c l → TransCoverage (small_step c (Recovers p))
        life (Up r disk) step = λ q. trans-same c (Recovers p) i may shrinks q (ap (λ (x : Chronicle). replica_of x.world q) step) (ap (λ (x : Chronicle). greens_of x q) step)
        life (Down disk green) step =
            let me = (recovered disk).held.id in
            let l : NodeState = Up (recovered disk) (disk_recovered disk) in
            trans-one c (Recovers p) i may shrinks me
            (λ q other. ap (λ (x : Chronicle). replica_of x.world q) step ∙ replica-set c.world me l q ∙ cond-false (q == me) (Some (recovered disk)) (replica_of c.world q) other)
            (λ q other. ap (λ (x : Chronicle). greens_of x q) step)
            (beside-some (small_step c (Recovers p)) me (recovered disk)
            (ap (λ (x : Chronicle). replica_of x.world me) step ∙ replica-set c.world me l me ∙ cond-true (me == me) (Some (recovered disk)) (replica_of c.world me) (eq-eqb me me refl)) (recovered-beside disk))

  copies-trans : (p joiner : ℕ) → may_make c (Copies p joiner) ≡ true → Shrinks (Copies p joiner) → TransCoverage (small_step c (Copies p joiner))
  unfolding small_step
  copies-trans p joiner may shrinks = λ q. trans-same c (Copies p joiner) i may shrinks q (world q (replica_of c.world p)) (greens q (replica_of c.world p)) where
    world : (q : ℕ) (o : Option Replica) → replica_of (option_map_or (copy_as c p joiner) o c).world q ≡ replica_of c.world q
    world q None = refl
    world q (Some r) = refl

    greens : (q : ℕ) (o : Option Replica) → greens_of (option_map_or (copy_as c p joiner) o c) q ≡ greens_of c q
    greens q None = refl
    greens q (Some r) = refl

  joins-trans : (joiner : ℕ) → may_make c (Joins joiner) ≡ true → Shrinks (Joins joiner) → TransCoverage (small_step c (Joins joiner))
  unfolding may_make small_step
  joins-trans joiner may shrinks =
      let one = may-join c joiner may in
      let r = joiner_replica joiner one.snapshot.content in
      let life : NodeState = Up r (new_disk r.held) in
      let begun = new_past (copied_for c joiner) joiner in
      let absent : past_of c joiner ≡ None = none-of (past_of c joiner) (i.net.hosted.past joiner ∙ one.fresh) in
      let step : small_step c (Joins joiner) ≡ join_with c joiner one.snapshot.content = ap (λ (o : Option TransferState). option_map_or (λ s. join_with c joiner s.content) o c) one.there in
      trans-one c (Joins joiner) i may shrinks joiner
      (λ q other. ap (λ (x : Chronicle). replica_of x.world q) step ∙ replica-set c.world joiner life q ∙ cond-false (q == joiner) (Some r) (replica_of c.world q) other)
      (λ q other. ap (λ (x : Chronicle). greens_of x q) step ∙ ap greens-in (past-begun c.pasts begun q absent ∙ cond-false (joiner == q) (Some begun) (past_of c q) (ne_eqb joiner q (λ e. eqb-false q joiner other (sym e)))))
      (beside-some (small_step c (Joins joiner)) joiner r
      (ap (λ (x : Chronicle). replica_of x.world joiner) step ∙ replica-set c.world joiner life joiner ∙ cond-true (joiner == joiner) (Some r) (replica_of c.world joiner) (eq-eqb joiner joiner refl)) refl) where
        none-of : (o : Option Past) → is_some o ≡ false → o ≡ None
        none-of None e = refl
        none-of (Some x) e = absurd (let clash : true ≡ false = e in cc)

  even-trans : (s : Small) (may : may_make c s ≡ true) → Shrinks s → ((q : ℕ) → replica_of (small_step c s).world q ≡ replica_of c.world q) → ((q : ℕ) → greens_of (small_step c s) q ≡ greens_of c q) → TransCoverage (small_step c s)
  even-trans s may shrinks world greens = λ q. trans-same c s i may shrinks q (world q) (greens q)

-- at the start nobody is
starts-trans : (c : Chronicle) (set : List Weighted) → c ≡ no_chronicle → TransCoverage (start c set)
starts-trans c set is = subst (λ (x : Chronicle). TransCoverage (start x set)) (sym is)
    (λ q. at q (node_of (start no_chronicle set).world q) (fresh-all set (ids set) no_chronicle.world (λ q. tt) q)) where
      at : (q : ℕ) (o : Option Node) → IfSome o (λ s. s.life ≡ Up (fresh q set) (new_disk (fresh_held q set))) →
          IfSome (option_and_then (λ s. running s.life) o) (λ r. CoversAsYellow (start no_chronicle set) r.held (greens_of (start no_chronicle set) q) r.state)
      at q None f = tt
      at q (Some s) f = subst (λ (l : NodeState). IfSome (running l) (λ r. CoversAsYellow (start no_chronicle set) r.held (greens_of (start no_chronicle set) q) r.state)) (sym f) tt

-- Who is behind a primary component covers its level, behind each small step, where one that leaves does.
pub trans_coverage-kept : (c : Chronicle) (s : Small) → Invariant c → may_make c s ≡ true → ReachShrinks c (small_step c s) → LeaverCovers c s → TransCoverage (small_step c s)
unfolding small_step may_make
trans_coverage-kept c (Starts set) i may shrinks leaver = starts-trans c set (nothing-before c i.net.hosted (and_parts (is_nil c.world.nodes) (is_set (ids set)) may).0)
trans_coverage-kept c (Makes set) i may shrinks leaver = even-trans c i (Makes set) may shrinks (λ q. refl) (λ q. refl)
trans_coverage-kept c (Enters p) i may shrinks leaver = enters-trans c i p may shrinks
trans_coverage-kept c (Orders p) i may shrinks leaver = even-trans c i (Orders p) may shrinks (λ q. refl) (λ q. refl)
trans_coverage-kept c (Receives p place) i may shrinks leaver = even-trans c i (Receives p place) may shrinks (λ q. refl) (λ q. refl)
trans_coverage-kept c (Hands p) i may shrinks leaver = hands-trans c i p may shrinks
trans_coverage-kept c (Leaves p set own places) i may shrinks leaver = leaves-trans c i p set own places may shrinks leaver
trans_coverage-kept c (Asks p kind) i may shrinks leaver = asked c i p kind may shrinks
trans_coverage-kept c (Settles p) i may shrinks leaver = settled c i p may shrinks
trans_coverage-kept c (Commits p) i may shrinks leaver = commits-trans c i p may shrinks
trans_coverage-kept c (Crashes p) i may shrinks leaver = crashes-trans c i p may shrinks
trans_coverage-kept c (Recovers p) i may shrinks leaver = recovers-trans c i p may shrinks
trans_coverage-kept c (Copies p joiner) i may shrinks leaver = copies-trans c i p joiner may shrinks
trans_coverage-kept c (Joins joiner) i may shrinks leaver = joins-trans c i joiner may shrinks

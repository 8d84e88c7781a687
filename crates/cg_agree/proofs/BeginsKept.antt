-- All greens begin with the installation of the index that is known, behind every small step.
use Rattle.std.proofs.Common.{◌≡◌, ℕ, zero, suc, ◌≤◌, true, false, List, ◌++◌, Option, Some, None, IfSome, sym, ap, ◌∙◌, subst, inl, inr, arith}
use Rattle.std.specs.Prelude.{option_and_then}
use Rattle.std.specs.Option.{option_map_or}
use Rattle.std.proofs.lemmas.Bool.{and_parts}
use Rattle.cg_base.specs.declared.weighted.Weighted.{Weighted}
use Rattle.cg_base.specs.Text.{is_nil}
use Rattle.cg_base.specs.Weights.{ids}
use Rattle.cg_action.specs.declared.action.Action.{Action}
use Rattle.cg_records.specs.declared.primary.Primary.{Primary}
use Rattle.cg_knowledge.specs.declared.summary.Summary.{Summary}
use Rattle.cg_knowledge.specs.Summaries.{most_updated}
use Rattle.cg_knowledge.specs.Primary.{known_primary}
use Rattle.cg_group.specs.State.{home}
use Rattle.cg_client.specs.Replica.{Held, State, Construct, NonPrim, Replica}
use Rattle.cg_client.specs.Turn.{begin}
use Rattle.cg_client.specs.Requests.{settle}
use Rattle.cg_disk_records.specs.Stored.{whiten, recovery_turn}
use Rattle.cg_disk_records.specs.Crash.{Disk}
use Rattle.cg_states.specs.ReplicaStep.{on_message}
use Rattle.cg_model.specs.World.{Up, Node, node_of, replica_of, running}
use Rattle.cg_model.specs.Chronicle.{Told, Attempt, Chronicle}
use Rattle.cg_model.specs.Step.{joiner_replica}
use Rattle.cg_model.specs.Looks.{greens_of, stood_of, disk_held, snapshot_of, copied_for, told_in, attempt_at, top_of, installation, OfCores}
use Rattle.cg_model.specs.Fronts.{Front}
use Rattle.cg_model.specs.Levels.{prim_at}
use Rattle.cg_model.specs.FactsReplica.{is_primary, own_record}
use Rattle.cg_model.specs.FactsTalk.{handed_talk}
use Rattle.cg_model.specs.FactsExchange.{KnowsLevels}
use Rattle.cg_model.specs.FactsAttempts.{LevelsStand}
use Rattle.cg_model.specs.FactsGreens.{BeginsWith}
use Rattle.cg_model.specs.Facts.{Invariant}
use Rattle.cg_model.specs.Small.{Small, Starts, Makes, Enters, Orders, Receives, Hands, Leaves, Asks, Settles, Commits, Crashes, Recovers, Copies, Joins, newly_green, installing, take_newest, handed_next, take_next, take_parting, take_request, small_step}
use Rattle.cg_model.specs.Smalls.{may_make, is_set}
use Rattle.cg_agree.proofs.AttemptSteps.{Installing, hands-installing, leaves-installing}
use Rattle.cg_agree_lemmas.specs.AttemptsTurn.{ends-exchanging, installed-attempts}
use Rattle.cg_agree.proofs.BegunKept.{nothing-before}
use Rattle.cg_agree.proofs.BuiltThere.{built}
use Rattle.cg_agree.proofs.ClearedDead.{IsToldIn, each-told}
use Rattle.cg_agree_lemmas.specs.CoresKept.{IsClosed, cores-weaker, held-known, greens-turn}
use Rattle.cg_agree_lemmas.specs.CoresSmall.{StepKeeps, ready-of, cores-kept}
use Rattle.cg_agree_lemmas.specs.EndCovers.{of_each-weaker}
use Rattle.cg_agree_lemmas.specs.EndQuorum.{both-each}
use Rattle.cg_agree.proofs.EndReached.{best-bounds, best-of, best-now}
use Rattle.cg_agree.proofs.ExchangeBehind.{message-now}
use Rattle.cg_agree.proofs.ExchangeKept.{exchange_progress-kept}
use Rattle.cg_agree_lemmas.specs.FrontFacts.{Front-refl, Front-append, Front-trans}
use Rattle.cg_agree_lemmas.specs.HandsNow.{HandsNow, hands-now, new, hand-turned, running-now}
use Rattle.cg_agree_lemmas.specs.InstallGreens.{ByAnnouncement, by-announcement, in-parting}
use Rattle.cg_agree.proofs.InstalledParts.{waits-announced, oneself-before, installs-all}
use Rattle.cg_agree_lemmas.specs.Knowledge.{known-of, some-sender}
use Rattle.cg_agree.proofs.LevelsKept.{start-kept, installed-primary, leaves-attempts, nothing-known}
use Rattle.cg_agree_lemmas.specs.PartingActs.{PartedBy, parting-by}
use Rattle.cg_agree_lemmas.specs.PlanEnd.{AtPlanEnd, is_behind, plan-end}
use Rattle.cg_agree_lemmas.specs.ReachWorld.{level-kept}
use Rattle.cg_agree_lemmas.specs.RecordKept.{turn-is, same-replica, enters-between, hands-attempts}
use Rattle.cg_agree_lemmas.specs.SameAttempt.{same-installation, attempts-kept}
use Rattle.cg_agree.proofs.ToldBeside.{told-front}
use Rattle.cg_agree_lemmas.specs.TurnKinds.{HasInstalled, HasAttempted, Turned, Quiet, Installs, Decides, Attempts}
use Rattle.cg_agree_lemmas.specs.TurnParts.{settle-quiet, request-quiet, newest-come}
use Rattle.cg_agree_lemmas.specs.TurnValues.{even-own_to_red}

abbrev Begins : Chronicle → Held → List Action → Type 0
Begins c h all = Front (installation (attempt_at c h.prim.index)) all

abbrev BeginsAt : Chronicle → ℕ → List Action → Type 0
BeginsAt c level all = Front (installation (attempt_at c level)) all

-- a level that stands has the same installation behind a step
begins-still : (c : Chronicle) (s : Small) (level : ℕ) (all : List Action) → LevelsStand c → level ≤ top_of c → BeginsAt c level all → BeginsAt (small_step c s) level all
begins-still c s zero all stands le is = tt
begins-still c s (suc level) all stands le is =
    subst (λ xs. Front xs all) (sym (same-installation (attempt_at c (suc level)) (attempt_at (small_step c s) (suc level)) (level-kept c s (suc level) stands (omega arith) le))) is

begins-more : (c : Chronicle) (level : ℕ) (all more : List Action) → BeginsAt c level all → BeginsAt c level (all ++ more)
begins-more c level all more is = Front-trans (installation (attempt_at c level)) all (all ++ more) is (Front-append all more)

begins-closed : (d : Chronicle) → IsClosed (Begins d)
unfolding whiten recovery_turn
begins-closed d = record {
  whitened = λ h all is. is;
  stored = λ h all is. is;
  recovers = λ h all is. subst (λ (x : Primary). BeginsAt d x.index all) (sym (even-own_to_red (begin (record { held = h; state = NonPrim false }))).values.prim) is;
  joins = λ p h all is. is;
}

cores-both : (P Q : Held → List Action → Type 0) (c : Chronicle) → OfCores c P → OfCores c Q → OfCores c (λ h all. P h all × Q h all)
cores-both P Q c f g = record {
  memory = λ p. each (replica_of c.world p) (λ r. P r.held (greens_of c p)) (λ r. Q r.held (greens_of c p)) (f.memory p) (g.memory p);
  disk = λ p. each (disk_held c.world p) (λ h. P h (stood_of c p)) (λ h. Q h (stood_of c p)) (f.disk p) (g.disk p);
  snapshot = λ joiner. each (snapshot_of c.world joiner) (λ s. P (joiner_replica joiner s.content).held (copied_for c joiner)) (λ s. Q (joiner_replica joiner s.content).held (copied_for c joiner)) (f.snapshot joiner) (g.snapshot joiner);
} where
  each : {X : Type 0} (o : Option X) (A B : X → Type 0) → IfSome o A → IfSome o B → IfSome o (λ x. A x × B x)
  each None A B a b = tt
  each (Some x) A B a b = (a, b)

-- ---- the end of a plan

-- what is known together begins with the installation of its index
module _ (c : Chronicle) (i : Invariant c) (p conf : ℕ) (r : Replica) (heard : List Summary) (end : AtPlanEnd c p r conf heard) (b : Summary) (most : most_updated heard ≡ Some b) (best : Told) (found : told_in c conf b.id ≡ Some best) where
  summary-is : best.summary ≡ b
  summary-is =
      let one = best-of (IsToldIn c conf) heard b most (each-told c conf heard end.each) in
      ap (λ (t : Told). t.summary) (ap (λ (o : Option Told). option_map_or (λ x. x) o best) (sym found ∙ one.found)) ∙ one.is

  abbrev IsBehind : Summary → Type 0
  IsBehind s = (s.prim.index ≤ top_of c) × BeginsAt c s.prim.index best.greens

  one-behind : (s : Summary) → IsToldIn c conf s × (s.green_count ≤ b.green_count) → IsBehind s
  one-behind s is =
      let t = is.0.told in
      let known : KnowsLevels c t = subst (λ (o : Option Told). IfSome o (KnowsLevels c)) is.0.found (i.exchange.summary_of_sender.levels conf s.id) in
      let le = is.1 in
      let mine = ap (λ (x : Summary). x.green_count) is.0.is in
      let top = ap (λ (x : Summary). x.green_count) summary-is in
      let front = told-front c i conf s.id b.id t best is.0.found found (omega (arith, le, mine, top)) in
      subst IsBehind is.0.is (known.level, Front-trans (installation (attempt_at c t.summary.prim.index)) t.greens best.greens known.begins front)

  known-behind : ((known_primary heard).index ≤ top_of c) × BeginsAt c (known_primary heard).index best.greens
  known-behind =
      let each = of_each-weaker (λ s. IsToldIn c conf s × (s.green_count ≤ b.green_count)) IsBehind one-behind heard
      (both-each (IsToldIn c conf) (λ s. s.green_count ≤ b.green_count) heard (each-told c conf heard end.each) (best-bounds heard b most)) in
      let known = known-of IsBehind heard (some-sender heard p end.listed) each in
      subst (λ (x : Primary). (x.index ≤ top_of c) × BeginsAt c x.index best.greens) (sym known.prim) known.holds

-- ---- an installation

module _ (c : Chronicle) (s : Small) (i : Invariant c) (may : may_make c s ≡ true) (start : (small_step c s).start ≡ c.start) (p : ℕ) (r new' : Replica) (ins : Installing c p r) (done : HasInstalled r new')
    (attempts : (small_step c s).attempts ≡ installing p c.attempts (Some (own_record ins.a p))) where
  some-is : (x y : Attempt) → Some x ≡ Some y → x ≡ y
  some-is x y e = ap (λ o. option_map_or (λ z. z) o x) e

  -- the level that it knows then is that of its attempt
  pub installed-same : installation (attempt_at (small_step c s) new'.held.prim.index) ≡ installation ins.a
  installed-same =
      let d = small_step c s in
      let still = (attempts-kept c s).still ins.conf ins.a ins.found in
      let primary = installed-primary c s i may start p r new' ins done done.before attempts in
      ap installation (some-is (attempt_at d new'.held.prim.index) still.now (sym primary.opened ∙ still.found)) ∙ same-installation ins.a still.now still.same

  installed-begins : (all : List Action) → all ≡ installation ins.a → Begins (small_step c s) new'.held all
  installed-begins all is = subst (λ xs. Front (installation (attempt_at (small_step c s) new'.held.prim.index)) xs) (installed-same ∙ sym is) (Front-refl (installation (attempt_at (small_step c s) new'.held.prim.index)))

-- by the last announcement
pub hands-announced : (c : Chronicle) (p : ℕ) (i : Invariant c) (may : may_make c (Hands p) ≡ true) (n : HandsNow c p) (done : HasInstalled n.replica (new c p i n)) → ByAnnouncement n.replica (new c p i n) n.next.message
hands-announced c p i may n done =
    let ins = hands-installing c i p may n done in
    let waits = waits-announced c i p n.replica ins done.before in
    let turn : new c p i n ≡ (on_message (Construct ins.conf (handed_talk c ins.conf p).announced) n.next.from n.next.message (begin n.replica)).replica =
    message-now c p i may n ∙ ap (λ (s : State). (on_message s n.next.from n.next.message (begin n.replica)).replica) waits in
    subst (λ (x : Replica). ByAnnouncement n.replica x n.next.message) (sym turn)
    (by-announcement c.start (greens_of c p) n.replica (oneself-before c i p n.replica ins done.before) ins.conf (handed_talk c ins.conf p).announced waits n.next.from n.next.message
    (ap (λ (x : Replica). is_primary x.state) (sym turn) ∙ done.after))

pub hands-greens : (c : Chronicle) (p : ℕ) (i : Invariant c) (n : HandsNow c p) → greens_of (small_step c (Hands p)) p ≡ greens_of c p ++ newly_green n.replica (new c p i n)
unfolding small_step
hands-greens c p i n =
    ap (λ (x : Chronicle). greens_of x p) (turn-is (handed_next c p) p (take_next c.world.group p) n.replica n.disk n.node)
    ∙ greens-turn (handed_next c p) p n.replica n.disk (take_next c.world.group p (begin n.replica)) i.net.hosted.past n.node

-- ---- each small step

started : (c : Chronicle) (i : Invariant c) (set : List Weighted) → may_make c (Starts set) ≡ true → OfCores (small_step c (Starts set)) (Begins (small_step c (Starts set)))
unfolding small_step may_make
started c i set may =
    let empty = nothing-before c i.net.hosted (and_parts (is_nil c.world.nodes) (is_set (ids set)) may).0 in
    cores-kept (Begins (small_step c (Starts set))) c (Starts set) (ready-of c i.net.hosted i.replica.disk_behind) may (begins-closed (small_step c (Starts set))) (λ p. tt)
    (subst (λ (x : Chronicle). OfCores x (Begins (small_step c (Starts set)))) (sym empty) (nothing-known (Begins (small_step c (Starts set)))))

abbrev IsBegun : Chronicle → Held → List Action → Type 0
IsBegun c h all = (h.prim.index ≤ top_of c) × Begins c h all

-- All greens begin with the installation of the index that is known.
pub begins_with-kept : (c : Chronicle) (s : Small) → Invariant c → may_make c s ≡ true → BeginsWith (small_step c s)
begins_with-kept c s i may = at s may where
  stands : LevelsStand c
  stands = i.attempt.levels_stand

  all-before : OfCores c (IsBegun c)
  all-before = cores-both (λ h all. h.prim.index ≤ top_of c) (Begins c) c
      (cores-weaker (λ h all. (h.prim.index ≤ top_of c) × (h.prim ≡ prim_at c h.prim.index)) (λ h all. h.prim.index ≤ top_of c) c (λ h all is. is.0) stands.known) i.green.begins_with

  before : (p : ℕ) (r : Replica) (disk : Disk) → node_of c.world p ≡ Some (record { id = p; life = Up r disk }) → IsBegun c r.held (greens_of c p)
  before p r disk node = held-known (IsBegun c) c p r (ap (λ (o : Option Node). option_and_then (λ s. running s.life) o) node) all-before

  kept : (s : Small) → may_make c s ≡ true → StepKeeps c s (Begins (small_step c s)) → OfCores (small_step c s) (Begins (small_step c s))
  kept s may step =
      cores-kept (Begins (small_step c s)) c s (ready-of c i.net.hosted i.replica.disk_behind) may (begins-closed (small_step c s)) step
      (cores-weaker (IsBegun c) (Begins (small_step c s)) c (λ h all is. begins-still c s h.prim.index all stands is.0 is.1) all-before)

  goes-on : (s : Small) (p : ℕ) (old new' : Replica) → new'.held.prim ≡ old.held.prim → IsBegun c old.held (greens_of c p) → Begins (small_step c s) new'.held (greens_of c p ++ newly_green old new')
  goes-on s p old new' same is =
      subst (λ (x : Primary). BeginsAt (small_step c s) x.index (greens_of c p ++ newly_green old new')) (sym same)
      (begins-more (small_step c s) old.held.prim.index (greens_of c p) (newly_green old new') (begins-still c s old.held.prim.index (greens_of c p) stands is.0 is.1))

  ended : (p : ℕ) (may : may_make c (Hands p) ≡ true) (n : HandsNow c p) (conf : ℕ) (heard : List Summary) (end : AtPlanEnd c p n.replica conf heard) (b : Summary) (most : most_updated heard ≡ Some b) (best : Told) →
      told_in c conf b.id ≡ Some best → greens_of (small_step c (Hands p)) p ≡ best.greens → (new c p i n).held.prim ≡ known_primary heard →
      Begins (small_step c (Hands p)) (new c p i n).held (greens_of c p ++ newly_green n.replica (new c p i n))
  ended p may n conf heard end b most best found greens prim =
      let known = known-behind c i p conf n.replica heard end b most best found in
      subst (λ (x : Primary). BeginsAt (small_step c (Hands p)) x.index (greens_of c p ++ newly_green n.replica (new c p i n))) (sym prim)
      (subst (BeginsAt (small_step c (Hands p)) (known_primary heard).index) (sym greens ∙ hands-greens c p i n)
      (begins-still c (Hands p) (known_primary heard).index best.greens stands known.0 known.1))

  handed : (p : ℕ) (may : may_make c (Hands p) ≡ true) (n : HandsNow c p) → Turned n.replica (new c p i n) n.next.message →
      Begins (small_step c (Hands p)) (new c p i n).held (greens_of c p ++ newly_green n.replica (new c p i n))
  handed p may n (Quiet even) = goes-on (Hands p) p n.replica (new c p i n) even.values.prim (before p n.replica n.disk n.node)
  handed p may n (Installs done) =
      let ins = hands-installing c i p may n done in
      installed-begins c (Hands p) i may (start-kept c (Hands p) tt) p n.replica (new c p i n) ins done
      (hands-attempts c p i n ∙ installed-attempts c.attempts p (greens_of c p ++ newly_green n.replica (new c p i n)) n.replica (new c p i n) done ∙ ap (installing p c.attempts) ins.mine)
      (greens_of c p ++ newly_green n.replica (new c p i n)) (installs-all c i p n.replica ins done.before (new c p i n) (hands-announced c p i may n done).greens)
  handed p may n (Decides conf heard ends decided) =
      let end = plan-end c p i n conf heard ends decided.remains (ap is_behind decided.state) in
      let best = best-now c p i may (exchange_progress-kept c (Hands p) i may) n n.conf heard decided end.1 in
      ended p may n n.conf heard end.1 best.summary best.most best.told_by best.found best.greens decided.prim
  handed p may n (Attempts conf heard ends attempted) =
      let end = plan-end c p i n conf heard ends attempted.remains (ap is_behind attempted.state) in
      let b = built c p i may n (ends-exchanging n.replica.state n.next.message conf heard ends) n.conf heard end.1 (subst (λ k. HasAttempted k heard n.replica (new c p i n)) (sym end.0) attempted) in
      ended p may n n.conf heard end.1 b.best.summary b.most b.best b.found b.greens attempted.prim

  parted : (p : ℕ) (set : List ℕ) (own : ℕ) (places : List ℕ) (may : may_make c (Leaves p set own places) ≡ true) (r : Replica) (disk : Disk) → node_of c.world p ≡ Some (record { id = p; life = Up r disk }) →
      PartedBy (home c.world.group p) r (take_parting c.world.group p set places (begin r)).replica →
      (let new' = (take_parting c.world.group p set places (begin r)).replica in Begins (small_step c (Leaves p set own places)) new'.held (greens_of c p ++ newly_green r new'))
  parted p set own places may r disk node (inl even) = goes-on (Leaves p set own places) p r (take_parting c.world.group p set places (begin r)).replica even.values.prim (before p r disk node)
  parted p set own places may r disk node (inr done) =
      let new' = (take_parting c.world.group p set places (begin r)).replica in
      let ins = leaves-installing c i p set own places may r new' (ap (λ (o : Option Node). option_and_then (λ s. running s.life) o) node) done.0 done.1 in
      let waits = waits-announced c i p r ins done.0.before in
      installed-begins c (Leaves p set own places) i may (start-kept c (Leaves p set own places) tt) p r new' ins done.0
      (leaves-attempts c p set own places r disk node ∙ installed-attempts c.attempts p (greens_of c p ++ newly_green r new') r new' done.0 ∙ ap (installing p c.attempts) ins.mine)
      (greens_of c p ++ newly_green r new') (installs-all c i p r ins done.0.before new'
      (in-parting c.start (greens_of c p) r (oneself-before c i p r ins done.0.before) c.world.group p set places ins.conf (handed_talk c ins.conf p).announced waits done.0.after).0)

  at : (s : Small) → may_make c s ≡ true → OfCores (small_step c s) (Begins (small_step c s))
  at (Starts set) may = started c i set may
  at (Makes set) may = kept (Makes set) may tt
  at (Enters p) may = kept (Enters p) may (λ r disk node.
      (let g = c.world.group in let come = newest-come g r (enters-between c p r (ap (λ (o : Option Node). option_and_then (λ s. running s.life) o) node) may) in
      goes-on (Enters p) p r (take_newest g (begin r)).replica come.prim (before p r disk node)))
  at (Orders p) may = kept (Orders p) may tt
  at (Receives p place) may = kept (Receives p place) may tt
  at (Hands p) may = kept (Hands p) may (λ r disk node.
      (let n = hands-now c p i may in
      subst (λ (r : Replica). (let new' = (take_next c.world.group p (begin r)).replica in Begins (small_step c (Hands p)) new'.held (greens_of c p ++ newly_green r new')))
      (sym (same-replica c p r n.replica disk node (running-now c p i n))) (handed p may n (hand-turned c p i n))))
  at (Leaves p set own places) may = kept (Leaves p set own places) may (λ r disk node. parted p set own places may r disk node (parting-by c.world.group p set places r))
  at (Asks p kind) may = kept (Asks p kind) may (λ r disk node. goes-on (Asks p kind) p r (take_request kind (begin r)).replica (request-quiet kind r).values.prim (before p r disk node))
  at (Settles p) may = kept (Settles p) may (λ r disk node. goes-on (Settles p) p r (settle (begin r)).replica (settle-quiet r).values.prim (before p r disk node))
  at (Commits p) may = kept (Commits p) may tt
  at (Crashes p) may = kept (Crashes p) may tt
  at (Recovers p) may = kept (Recovers p) may tt
  at (Copies p joiner) may = kept (Copies p joiner) may tt
  at (Joins joiner) may = kept (Joins joiner) may tt

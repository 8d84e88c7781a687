-- Levels stand behind every small step: what each replica knows as the last primary component is that of a level.
use Rattle.std.proofs.Common.{◌≡◌, ℕ, zero, suc, ◌≤◌, true, false, List, ◌++◌, length, length-append, Option, Some, None, IfSome, option_map, refl, sym, ap, ap₂, ◌∙◌, subst, inl, inr, arith, eq-eqb}
use Rattle.std.specs.Prelude.{◌==◌, option_and_then}
use Rattle.std.specs.Option.{option_map_or}
use Rattle.std.proofs.lemmas.Bool.{cond-true, cond-false, ne_eqb, and_parts}
use Rattle.cg_base.specs.declared.weighted.Weighted.{Weighted}
use Rattle.cg_base.specs.Lists.{at_place}
use Rattle.cg_base.specs.Text.{is_nil}
use Rattle.cg_base.specs.Weights.{ids}
use Rattle.cg_action.specs.declared.action.Action.{Action}
use Rattle.cg_members.specs.Servers.{members_of}
use Rattle.cg_records.specs.declared.primary.Primary.{Primary}
use Rattle.cg_knowledge.specs.declared.summary.Summary.{Summary}
use Rattle.cg_knowledge.specs.Primary.{known_primary}
use Rattle.cg_group.specs.State.{phase_of, home}
use Rattle.cg_client.specs.Replica.{Held, NonPrim, Replica}
use Rattle.cg_client.specs.Turn.{Turn, begin}
use Rattle.cg_client.specs.Install.{weighted, prim_after}
use Rattle.cg_client.specs.Requests.{settle}
use Rattle.cg_disk_records.specs.Stored.{whiten, recovery_turn}
use Rattle.cg_disk_records.specs.Crash.{Disk}
use Rattle.cg_model.specs.World.{NodeState, Up, Down, Node, node_of, replica_of, running}
use Rattle.cg_model.specs.Chronicle.{Told, Attempt, Chronicle, no_chronicle}
use Rattle.cg_model.specs.Looks.{greens_of, conf_at, attempt_of, attempt_at, top_of, snapshot_of, OfCores}
use Rattle.cg_model.specs.Fronts.{When, IsSomeWith}
use Rattle.cg_model.specs.Levels.{prim_of, prim_at, is_installed}
use Rattle.cg_model.specs.FactsReplica.{IsInPrimary, IsCore, is_attempting, own_record}
use Rattle.cg_model.specs.FactsExchange.{KnowsLevels}
use Rattle.cg_model.specs.FactsAttempts.{LevelsStand, HoldsParts}
use Rattle.cg_model.specs.Facts.{Invariant}
use Rattle.cg_model.specs.Small.{Small, Starts, Makes, Enters, Orders, Receives, Hands, Leaves, Asks, Settles, Commits, Crashes, Recovers, Copies, Joins, turning_as, turning, newly_green, with_installer, installing, attempts_behind, coming, take_newest, handed_next, take_next, leaving, take_parting, take_request, commit_as, crash_as, recover_as, copy_as, join_with, small_step}
use Rattle.cg_model.specs.Smalls.{may_make, is_set}
use Rattle.cg_agree_lemmas.specs.SameAttempt.{SameAttempt}
use Rattle.cg_agree_lemmas.specs.ReachWorld.{Opened, opened-attempt, level-kept, levels-kept, when-is}
use Rattle.cg_agree_lemmas.specs.Knowledge.{known-of, some-sender}
use Rattle.cg_agree_lemmas.specs.CoresKept.{IsClosed, cores-weaker, held-known}
use Rattle.cg_agree_lemmas.specs.CoresSmall.{StepKeeps, ready-of, cores-kept}
use Rattle.cg_agree_lemmas.specs.TurnValues.{even-own_to_red}
use Rattle.cg_agree_lemmas.specs.TurnKinds.{IsQuiet, HasInstalled, Turned, Quiet, Installs, Decides, Attempts}
use Rattle.cg_agree_lemmas.specs.TurnParts.{settle-quiet, request-quiet, newest-come}
use Rattle.cg_agree_lemmas.specs.AttemptsTurn.{at_conf, installed-attempts, installing-now, installer-has}
use Rattle.cg_agree_lemmas.specs.PartingActs.{PartedBy, parting-by}
use Rattle.cg_agree_lemmas.specs.HandsNow.{HandsNow, hands-now, new, hand-turned, running-now}
use Rattle.cg_agree_lemmas.specs.PlanEnd.{AtPlanEnd, is_behind, plan-end, told-each}
use Rattle.cg_agree_lemmas.specs.RecordKept.{turn-is, same-replica, enters-between, hands-attempts}
use Rattle.cg_agree.proofs.AttemptSteps.{Installing, hands-installing, leaves-installing}
use Rattle.cg_agree.proofs.BegunKept.{nothing-before}
use Rattle.cg_agree.proofs.AttemptsCame.{ins-conf}
use Rattle.cg_agree.proofs.LevelsOpen.{opened-kept, opens-kept, place-within, some-installed}
use Rattle.cg_agree_lemmas.specs.LinesFollow.{NotStart}

-- ---- the servers of the start stay

start-some : {X : Type 0} (o : Option X) (change : X → Chronicle) (c : Chronicle) → ((x : X) → (change x).start ≡ c.start) → (option_map_or change o c).start ≡ c.start
start-some None change c each = refl
start-some (Some x) change c each = each x

start-turning_as : (c : Chronicle) (p : ℕ) (part : Turn → Turn) (life : NodeState) → (turning_as c p part life).start ≡ c.start
start-turning_as c p part (Up r disk) = refl
start-turning_as c p part (Down disk green) = refl

start-turning : (c : Chronicle) (p : ℕ) (part : Turn → Turn) → (turning c p part).start ≡ c.start
start-turning c p part = start-some (node_of c.world p) (λ s. turning_as c p part s.life) c (λ s. start-turning_as c p part s.life)

start-commit : (c : Chronicle) (p : ℕ) (life : NodeState) → (commit_as c p life).start ≡ c.start
start-commit c p (Up r disk) = refl
start-commit c p (Down disk green) = refl

start-crash : (c : Chronicle) (p : ℕ) (life : NodeState) → (crash_as c p life).start ≡ c.start
start-crash c p (Up r disk) = refl
start-crash c p (Down disk green) = refl

start-recover : (c : Chronicle) (life : NodeState) → (recover_as c life).start ≡ c.start
start-recover c (Up r disk) = refl
start-recover c (Down disk green) = refl

pub start-kept : (c : Chronicle) (s : Small) → NotStart s → (small_step c s).start ≡ c.start
unfolding small_step
start-kept c (Starts set) not_start = absurd not_start
start-kept c (Makes set) not_start = refl
start-kept c (Enters p) not_start = start-turning (coming c p) p (take_newest c.world.group)
start-kept c (Orders p) not_start = refl
start-kept c (Receives p place) not_start = refl
start-kept c (Hands p) not_start = start-turning (handed_next c p) p (take_next c.world.group p)
start-kept c (Leaves p set own places) not_start = start-turning (leaving c p set own) p (take_parting c.world.group p set places)
start-kept c (Asks p kind) not_start = start-turning c p (take_request kind)
start-kept c (Settles p) not_start = start-turning c p settle
start-kept c (Commits p) not_start = start-some (node_of c.world p) (λ s. commit_as c p s.life) c (λ s. start-commit c p s.life)
start-kept c (Crashes p) not_start = start-some (node_of c.world p) (λ s. crash_as c p s.life) c (λ s. start-crash c p s.life)
start-kept c (Recovers p) not_start = start-some (node_of c.world p) (λ s. recover_as c s.life) c (λ s. start-recover c s.life)
start-kept c (Copies p joiner) not_start = start-some (replica_of c.world p) (copy_as c p joiner) c (λ r. refl)
start-kept c (Joins joiner) not_start = start-some (snapshot_of c.world joiner) (λ s. join_with c joiner s.content) c (λ s. refl)

-- ---- the primary component of a level

prim-above : (c : Chronicle) (level : ℕ) → prim_at c (suc level) ≡ prim_of c (suc level) (attempt_at c (suc level))
prim-above c level = cond-false (suc level == 0) (let first : Primary = record { index = 0; conf = 0; set = c.start } in first) (prim_of c (suc level) (attempt_at c (suc level))) (ne_eqb (suc level) 0 (λ e. absurd (omega arith)))

prim-same : (c d : Chronicle) (level : ℕ) (a b : Attempt) → d.start ≡ c.start → SameAttempt a b → prim_of d level b ≡ prim_of c level a
prim-same c d level a b start same i = record { index = level; conf = same.conf i; set = weighted (members_of (start i) (same.greens i)) (same.set i) }

prim-start : (c d : Chronicle) → d.start ≡ c.start → prim_at d 0 ≡ prim_at c 0
prim-start c d start i = record { index = 0; conf = 0; set = start i }

pub prim-kept : (c : Chronicle) (s : Small) (level : ℕ) → LevelsStand c → (small_step c s).start ≡ c.start → level ≤ top_of c → prim_at (small_step c s) level ≡ prim_at c level
prim-kept c s zero stands start le = prim-start c (small_step c s) start
prim-kept c s (suc level) stands start le =
    prim-above (small_step c s) level
    ∙ prim-same c (small_step c s) (suc level) (attempt_at c (suc level)) (attempt_at (small_step c s) (suc level)) start (level-kept c s (suc level) stands (omega arith) le)
    ∙ sym (prim-above c level)

-- ---- what is known of levels

abbrev Knows : Chronicle → Held → List Action → Type 0
Knows c h all = (h.prim.index ≤ top_of c) × (h.prim ≡ prim_at c h.prim.index)

abbrev IsLevel : Chronicle → Primary → Type 0
IsLevel c x = (x.index ≤ top_of c) × (x ≡ prim_at c x.index)

level-still : (c : Chronicle) (s : Small) → LevelsStand c → (small_step c s).start ≡ c.start → (x : Primary) → IsLevel c x → IsLevel (small_step c s) x
level-still c s stands start x is =
    let more = levels-kept c s in
    let long = ap (λ (l : List ℕ). length l) more.all ∙ length-append c.levels more.more in
    let low = is.0 in
    ((omega (arith, long, low)), is.1 ∙ sym (prim-kept c s x.index stands start low))

knows-closed : (d : Chronicle) → IsClosed (Knows d)
unfolding whiten recovery_turn
knows-closed d = record {
  whitened = λ h all is. is;
  stored = λ h all is. is;
  recovers = λ h all is. subst (IsLevel d) (sym (even-own_to_red (begin (record { held = h; state = NonPrim false }))).values.prim) is;
  joins = λ p h all is. is;
}

-- what the members of an exchange know together is a level
pub known-level : (c : Chronicle) (i : Invariant c) (p conf : ℕ) (r : Replica) (heard : List Summary) → AtPlanEnd c p r conf heard → IsLevel c (known_primary heard)
known-level c i p conf r heard end =
    let each = told-each c conf (λ s. IsLevel c s.prim) (λ q t e. (let known : KnowsLevels c t = subst (λ (o : Option Told). IfSome o (KnowsLevels c)) e (i.exchange.summary_of_sender.levels conf q) in (known.level, known.prim))) heard end.each in
    let known = known-of (λ s. IsLevel c s.prim) heard (some-sender heard p end.listed) each in
    subst (IsLevel c) (sym known.prim) known.holds

-- ---- an installation

module _ (c : Chronicle) (s : Small) (i : Invariant c) (may : may_make c s ≡ true) (start : (small_step c s).start ≡ c.start) (p : ℕ) (r new' : Replica) (ins : Installing c p r) (done : HasInstalled r new') (attempting : is_attempting r.state ≡ true)
    (attempts : (small_step c s).attempts ≡ installing p c.attempts (Some (own_record ins.a p))) where
  found-now : attempt_of (small_step c s) ins.conf ≡ Some (with_installer p ins.a)
  found-now =
      ap (λ xs. at_conf xs ins.conf) attempts ∙ installing-now c.attempts p (own_record ins.a p) ins.conf
      ∙ cond-true (ins.conf == ins.a.conf) (option_map (with_installer p) (at_conf c.attempts ins.conf)) (at_conf c.attempts ins.conf) (eq-eqb ins.conf ins.a.conf (sym (ins-conf c p r ins)))
      ∙ ap (option_map (with_installer p)) ins.found

  place-now : at_place (small_step c s).levels (suc ins.a.from) ≡ Some ins.conf
  place-now =
      when-is (is_installed (with_installer p ins.a)) (at_place (small_step c s).levels (suc ins.a.from) ≡ Some ins.conf) (some-installed (with_installer p ins.a) p (installer-has ins.a p))
      (subst (λ (o : Option Attempt). IfSome o (λ a. When (is_installed a) (at_place (small_step c s).levels (suc a.from) ≡ Some ins.conf))) found-now (opens-kept c s i may ins.conf))

  opened-now : Opened (small_step c s) (suc ins.a.from)
  opened-now = record { conf = ins.conf; attempt = with_installer p ins.a; place = place-now; found = found-now; installed = some-installed (with_installer p ins.a) p (installer-has ins.a p) }

  held-greens : greens_of c p ≡ ins.a.greens
  held-greens =
      let fact = subst (λ (o : Option Replica). IfSome o (λ r. When (is_attempting r.state) (IsSomeWith (attempt_of c (conf_at (phase_of c.world.group p))) (HoldsParts r.held (greens_of c p))))) ins.up (i.attempt.attempt_list p) in
      let parts = when-is (is_attempting r.state) (IsSomeWith (attempt_of c (conf_at (phase_of c.world.group p))) (HoldsParts r.held (greens_of c p))) attempting fact in
      (subst (λ (o : Option Attempt). IsSomeWith o (HoldsParts r.held (greens_of c p))) (ap (attempt_of c) (ap conf_at ins.regular) ∙ ins.found) parts).greens

  servers : r.held.members ≡ members_of (small_step c s).start ins.a.greens
  servers =
      let core = subst (λ (o : Option Replica). IfSome o (λ r. IsCore c r.held (greens_of c p))) ins.up (i.replica.cores.memory p) in
      core.made_of.members ∙ ap₂ members_of (sym start) held-greens

  pub installed-level : IsLevel (small_step c s) new'.held.prim
  unfolding opened-now
  installed-level =
      let d = small_step c s in
      let after : new'.held.prim ≡ prim_at d (suc ins.a.from) =
      done.prim ∙ ap (prim_after r.held) ins.mine
      ∙ (λ k. (let x : Primary = record { index = suc (ins.index k); conf = ins.a.conf; set = weighted (servers k) ins.a.set } in x))
      ∙ sym (ap (prim_of d (suc ins.a.from)) (opened-attempt d (suc ins.a.from) opened-now)) ∙ sym (prim-above d ins.a.from) in
      let index : new'.held.prim.index ≡ suc ins.a.from = ap (λ (x : Primary). x.index) (after ∙ prim-above d ins.a.from) in
      let within = place-within d.levels (suc ins.a.from) ins.conf place-now in
      ((omega (arith, index, within)), after ∙ ap (prim_at d) (sym index))

  -- the member is one of the primary component of its configuration's level
  pub installed-primary : IsInPrimary (small_step c s) new'.held ins.conf
  unfolding opened-now
  installed-primary =
      let d = small_step c s in
      let after = done.prim ∙ ap (prim_after r.held) ins.mine in
      let index : new'.held.prim.index ≡ suc ins.a.from = ap (λ (x : Primary). x.index) after ∙ ap suc ins.index in
      let here : attempt_at d new'.held.prim.index ≡ with_installer p ins.a = ap (attempt_at d) index ∙ opened-attempt d (suc ins.a.from) opened-now in
      record {
        opened = found-now ∙ ap (λ a. Some a) (sym here);
        prim_conf = ap (λ (x : Primary). x.conf) after ∙ ins-conf c p r ins;
        mine = done.vulnerable ∙ ins.mine ∙ ap₂ (λ a q. Some (own_record a q)) (sym here) (sym (done.id ∙ ins.id));
        index = index ∙ ap (λ (a : Attempt). suc a.from) (sym here);
        yellow_valid = done.yellow_valid;
      }

-- ---- each small step

pub nothing-known : (Q : Held → List Action → Type 0) → OfCores no_chronicle Q
nothing-known Q = record { memory = λ p. tt; disk = λ p. tt; snapshot = λ joiner. tt }

started : (c : Chronicle) (i : Invariant c) (set : List Weighted) → may_make c (Starts set) ≡ true → OfCores (small_step c (Starts set)) (Knows (small_step c (Starts set)))
unfolding small_step may_make
started c i set may =
    let empty = nothing-before c i.net.hosted (and_parts (is_nil c.world.nodes) (is_set (ids set)) may).0 in
    cores-kept (Knows (small_step c (Starts set))) c (Starts set) (ready-of c i.net.hosted i.replica.disk_behind) may (knows-closed (small_step c (Starts set))) (λ p. ((omega arith), refl))
    (subst (λ (x : Chronicle). OfCores x (Knows (small_step c (Starts set)))) (sym empty) (nothing-known (Knows (small_step c (Starts set)))))

pub leaves-attempts : (c : Chronicle) (p : ℕ) (set : List ℕ) (own : ℕ) (places : List ℕ) (r : Replica) (disk : Disk) → node_of c.world p ≡ Some (record { id = p; life = Up r disk }) →
    (let new' = (take_parting c.world.group p set places (begin r)).replica in (small_step c (Leaves p set own places)).attempts ≡ attempts_behind c.attempts p (greens_of c p ++ newly_green r new') r new')
unfolding small_step
leaves-attempts c p set own places r disk node = ap (λ (x : Chronicle). x.attempts) (turn-is (leaving c p set own) p (take_parting c.world.group p set places) r disk node)

pub known-kept : (c : Chronicle) (s : Small) → Invariant c → may_make c s ≡ true → OfCores (small_step c s) (Knows (small_step c s))
known-kept c s i may = at s may where
  stands : LevelsStand c
  stands = i.attempt.levels_stand

  before : (p : ℕ) (r : Replica) (disk : Disk) → node_of c.world p ≡ Some (record { id = p; life = Up r disk }) → IsLevel c r.held.prim
  before p r disk node = held-known (Knows c) c p r (ap (λ (o : Option Node). option_and_then (λ s. running s.life) o) node) stands.known

  kept : (s : Small) → may_make c s ≡ true → (small_step c s).start ≡ c.start → StepKeeps c s (Knows (small_step c s)) → OfCores (small_step c s) (Knows (small_step c s))
  kept s may start step =
      cores-kept (Knows (small_step c s)) c s (ready-of c i.net.hosted i.replica.disk_behind) may (knows-closed (small_step c s)) step
      (cores-weaker (Knows c) (Knows (small_step c s)) c (λ h all is. level-still c s stands start h.prim is) stands.known)

  quiet : (s : Small) → (small_step c s).start ≡ c.start → (old new' : Replica) → IsQuiet old new' → IsLevel c old.held.prim → IsLevel (small_step c s) new'.held.prim
  quiet s start old new' even is = subst (IsLevel (small_step c s)) (sym even.values.prim) (level-still c s stands start old.held.prim is)

  handed : (p : ℕ) (may : may_make c (Hands p) ≡ true) (n : HandsNow c p) → Turned n.replica (new c p i n) n.next.message → IsLevel (small_step c (Hands p)) (new c p i n).held.prim
  handed p may n (Quiet even) = quiet (Hands p) (start-kept c (Hands p) tt) n.replica (new c p i n) even (before p n.replica n.disk n.node)
  handed p may n (Installs done) =
      let ins = hands-installing c i p may n done in
      installed-level c (Hands p) i may (start-kept c (Hands p) tt) p n.replica (new c p i n) ins done done.before
      (hands-attempts c p i n ∙ installed-attempts c.attempts p (greens_of c p ++ newly_green n.replica (new c p i n)) n.replica (new c p i n) done ∙ ap (installing p c.attempts) ins.mine)
  handed p may n (Decides conf heard ends decided) =
      let end = plan-end c p i n conf heard ends decided.remains (ap is_behind decided.state) in
      subst (IsLevel (small_step c (Hands p))) (sym decided.prim) (level-still c (Hands p) stands (start-kept c (Hands p) tt) (known_primary heard) (known-level c i p n.conf n.replica heard end.1))
  handed p may n (Attempts conf heard ends attempted) =
      let end = plan-end c p i n conf heard ends attempted.remains (ap is_behind attempted.state) in
      subst (IsLevel (small_step c (Hands p))) (sym attempted.prim) (level-still c (Hands p) stands (start-kept c (Hands p) tt) (known_primary heard) (known-level c i p n.conf n.replica heard end.1))

  parted : (p : ℕ) (set : List ℕ) (own : ℕ) (places : List ℕ) (may : may_make c (Leaves p set own places) ≡ true) (r : Replica) (disk : Disk) → node_of c.world p ≡ Some (record { id = p; life = Up r disk }) →
      PartedBy (home c.world.group p) r (take_parting c.world.group p set places (begin r)).replica → IsLevel (small_step c (Leaves p set own places)) (take_parting c.world.group p set places (begin r)).replica.held.prim
  parted p set own places may r disk node (inl even) = quiet (Leaves p set own places) (start-kept c (Leaves p set own places) tt) r (take_parting c.world.group p set places (begin r)).replica even (before p r disk node)
  parted p set own places may r disk node (inr done) =
      let new' = (take_parting c.world.group p set places (begin r)).replica in
      let ins = leaves-installing c i p set own places may r new' (ap (λ (o : Option Node). option_and_then (λ s. running s.life) o) node) done.0 done.1 in
      installed-level c (Leaves p set own places) i may (start-kept c (Leaves p set own places) tt) p r new' ins done.0 done.0.before
      (leaves-attempts c p set own places r disk node ∙ installed-attempts c.attempts p (greens_of c p ++ newly_green r new') r new' done.0 ∙ ap (installing p c.attempts) ins.mine)

  at : (s : Small) → may_make c s ≡ true → OfCores (small_step c s) (Knows (small_step c s))
  at (Starts set) may = started c i set may
  at (Makes set) may = kept (Makes set) may (start-kept c (Makes set) tt) tt
  at (Enters p) may = kept (Enters p) may (start-kept c (Enters p) tt) (λ r disk node.
      (let g = c.world.group in let come = newest-come g r (enters-between c p r (ap (λ (o : Option Node). option_and_then (λ s. running s.life) o) node) may) in
      subst (IsLevel (small_step c (Enters p))) (sym come.prim) (level-still c (Enters p) stands (start-kept c (Enters p) tt) r.held.prim (before p r disk node))))
  at (Orders p) may = kept (Orders p) may (start-kept c (Orders p) tt) tt
  at (Receives p place) may = kept (Receives p place) may (start-kept c (Receives p place) tt) tt
  at (Hands p) may = kept (Hands p) may (start-kept c (Hands p) tt) (λ r disk node.
      (let n = hands-now c p i may in
      subst (λ (r : Replica). IsLevel (small_step c (Hands p)) (take_next c.world.group p (begin r)).replica.held.prim) (sym (same-replica c p r n.replica disk node (running-now c p i n))) (handed p may n (hand-turned c p i n))))
  at (Leaves p set own places) may = kept (Leaves p set own places) may (start-kept c (Leaves p set own places) tt) (λ r disk node.
      parted p set own places may r disk node (parting-by c.world.group p set places r))
  at (Asks p kind) may = kept (Asks p kind) may (start-kept c (Asks p kind) tt) (λ r disk node.
      quiet (Asks p kind) (start-kept c (Asks p kind) tt) r (take_request kind (begin r)).replica (request-quiet kind r) (before p r disk node))
  at (Settles p) may = kept (Settles p) may (start-kept c (Settles p) tt) (λ r disk node.
      quiet (Settles p) (start-kept c (Settles p) tt) r (settle (begin r)).replica (settle-quiet r) (before p r disk node))
  at (Commits p) may = kept (Commits p) may (start-kept c (Commits p) tt) tt
  at (Crashes p) may = kept (Crashes p) may (start-kept c (Crashes p) tt) tt
  at (Recovers p) may = kept (Recovers p) may (start-kept c (Recovers p) tt) tt
  at (Copies p joiner) may = kept (Copies p joiner) may (start-kept c (Copies p joiner) tt) tt
  at (Joins joiner) may = kept (Joins joiner) may (start-kept c (Joins joiner) tt) tt

-- Levels stand behind each small step.
pub levels_stand-kept : (c : Chronicle) (s : Small) → Invariant c → may_make c s ≡ true → LevelsStand (small_step c s)
levels_stand-kept c s i may = record { opened = opened-kept c s i may; opens = opens-kept c s i may; known = known-kept c s i may }

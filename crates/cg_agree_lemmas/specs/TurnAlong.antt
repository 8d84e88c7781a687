-- Where a replica's turn stands among the small steps of an event: those before are of other replicas, its own parts lead to what its
-- turn leads to, and behind them its greens stay.
use Rattle.std.proofs.Common.{◌≡◌, ℕ, suc, ◌≤◌, ◌<◌, true, false, List, [], ◌∷◌, ◌++◌, flat_map, Option, Some, None, option_map, refl, sym, ap, ap₂, ◌∙◌, subst, inl, inr, option_and_then, arith, append_assoc, if◌then◌else◌}
use Rattle.std.specs.Prelude.{◌==◌}
use Rattle.std.specs.Option.{option_map_or}
use Rattle.std.proofs.lemmas.Bool.{cases_eq, cond_both, ne_eqb}
use Rattle.cg_base.specs.Sets.{has}
use Rattle.cg_action.specs.declared.action.Action.{Action}
use Rattle.cg_wire.specs.declared.message.Msg.{Msg}
use Rattle.cg_group.specs.declared.delivery.Delivery.{Delivery}
use Rattle.cg_base.specs.Lists.{Each}
use Rattle.cg_base.specs.EachLaws.{Each-append, Each-weaker}
use Rattle.cg_base.specs.BoolLaws.{or_else}
use Rattle.cg_group.specs.State.{Standing, GroupState, set_standing}
use Rattle.cg_group.specs.Events.{send_all}
use Rattle.cg_client.specs.Replica.{Replica}
use Rattle.cg_client.specs.Turn.{Turn}
use Rattle.cg_states.specs.ReplicaStep.{Deliveries, replica_step}
use Rattle.cg_disk_records.specs.Commit.{commits}
use Rattle.cg_disk_records.specs.Crash.{Disk, EventEnd, Runs, Crashes as EndsInCrash, end_event}
use Rattle.cg_model.specs.World.{NodeState, Up, Down, Node, World, running, node_of, replica_of}
use Rattle.cg_model.specs.Show.{StepInProgress}
use Rattle.cg_model.specs.Step.{hand}
use Rattle.cg_model.specs.Chronicle.{Past, Chronicle}
use Rattle.cg_model.specs.Looks.{past_of, greens_of}
use Rattle.cg_model.specs.Turns.{Taken, taken, taken_as, stands}
use Rattle.cg_model.specs.Small.{Small, Starts, Makes, Enters, Orders, Receives, Hands, Leaves, Asks, Settles, Commits, Crashes, Recovers, Copies, Joins, written, commit_as, small_step}
use Rattle.cg_model.specs.Smalls.{ending, ending_as}
use Rattle.cg_model.specs.FactsLists.{IsRising}
use Rattle.cg_agree_lemmas.specs.GroupChanges.{down-own}
use Rattle.cg_agree_lemmas.specs.CoresKept.{past-here, past-there}
use Rattle.cg_agree_lemmas.specs.RestFacts.{IsOf, IsKept, others-kept}
use Rattle.cg_agree_lemmas.specs.SmallWorlds.{played_in, played-append}
use Rattle.cg_agree_lemmas.specs.TurnWorlds.{hosted, up_node, node-hosted, turn-ends}
use Rattle.cg_agree_lemmas.specs.EventTurns.{IsUp, hand-leads}
use Rattle.cg_agree_lemmas.specs.TogetherWorlds.{IsStill, IsMember, IsGoing, smalls_among, turns_among, one-on}

-- a part of the replica's turn
abbrev pub IsPartOf : ℕ → Small → Type 0
IsPartOf p (Enters q) = q ≡ p
IsPartOf p (Hands q) = q ≡ p
IsPartOf p (Leaves q set own places) = q ≡ p
IsPartOf p (Asks q kind) = q ≡ p
IsPartOf p (Settles q) = q ≡ p
IsPartOf p _ = ⊥

pub part-of : (p : ℕ) (s : Small) → IsPartOf p s → IsOf p s
part-of p (Enters q) is = is
part-of p (Hands q) is = is
part-of p (Leaves q set own places) is = is
part-of p (Asks q kind) is = is
part-of p (Settles q) is = is
part-of p (Starts set) is = absurd is
part-of p (Makes set) is = absurd is
part-of p (Orders q) is = absurd is
part-of p (Receives q place) is = absurd is
part-of p (Commits q) is = absurd is
part-of p (Crashes q) is = absurd is
part-of p (Recovers q) is = absurd is
part-of p (Copies q joiner) is = absurd is
part-of p (Joins joiner) is = absurd is

-- a step that changes nothing of the replica, and one that leaves its greens as they are
abbrev pub Keeps : ℕ → Small → Type 0
Keeps p s = (c : Chronicle) → IsKept c (small_step c s) p

abbrev pub GreensKeep : ℕ → Small → Type 0
GreensKeep p s = (c : Chronicle) → greens_of (small_step c s) p ≡ greens_of c p

pub keeps-greens : (p : ℕ) (s : Small) → Keeps p s → GreensKeep p s
keeps-greens p s keeps c = ap (λ o. option_map_or (λ x. x.greens) o []) (keeps c).past

pub other-keeps : (p q : ℕ) (s : Small) → (p ≡ q → ⊥) → IsOf q s → Keeps p s
other-keeps p q s apart is c = others-kept c s q p is apart

-- a commit leaves them
pub commit-same : (c : Chronicle) (p : ℕ) (l : NodeState) (q : ℕ) → greens_of (commit_as c p l) q ≡ greens_of c q
commit-same c p (Down disk green) q = refl
commit-same c p (Up r disk) q = elim (cases_eq p q) [
  | inl here ↦ subst (λ n. greens_of (commit_as c p (Up r disk)) n ≡ greens_of c n) here (ap greens-in (past-here written (λ x. refl) c p) ∙ same (past_of c p))
  | inr apart ↦ ap greens-in (past-there written (λ x. refl) c p q apart)
] where
  greens-in : Option Past → List Action
  greens-in o = option_map_or (λ x. x.greens) o []

  same : (o : Option Past) → greens-in (option_map written o) ≡ greens-in o
  same None = refl
  same (Some x) = refl

pub commit-greens : (p : ℕ) → GreensKeep p (Commits p)
unfolding small_step
commit-greens p c = at (node_of c.world p) where
  at : (o : Option Node) → greens_of (option_map_or (λ s. commit_as c p s.life) o c) p ≡ greens_of c p
  at None = refl
  at (Some s) = commit-same c p s.life p

pub record RunsThrough (w : World) (smalls : List Small) (p : ℕ) (t : Turn) : Type 0 where
  pub before : List Small
  pub block : List Small
  pub rest : List Small
  pub is : smalls ≡ before ++ (block ++ rest)
  pub apart : Each (Keeps p) before
  pub parts : Each (IsPartOf p) block
  pub replica : replica_of (played_in w (before ++ block)) p ≡ Some t.replica
  pub ends : Each (GreensKeep p) rest

-- steps of another replica, and further ones, keep it so
pub runs-later : (w v : World) (first smalls : List Small) (p : ℕ) (t : Turn) → played_in w first ≡ v → Each (Keeps p) first → RunsThrough v smalls p t → RunsThrough w (first ++ smalls) p t
runs-later w v first smalls p t leads keeps is = record {
  before = first ++ is.before;
  block = is.block;
  rest = is.rest;
  is = ap (λ xs. first ++ xs) is.is ∙ sym (append_assoc first is.before (is.block ++ is.rest));
  apart = Each-append (Keeps p) first is.before keeps is.apart;
  parts = is.parts;
  replica = ap (λ xs. replica_of (played_in w xs) p) (append_assoc first is.before is.block)
      ∙ ap (λ (x : World). replica_of x p) (played-append w first (is.before ++ is.block) ∙ ap (λ x. played_in x (is.before ++ is.block)) leads) ∙ is.replica;
  ends = is.ends;
}

pub runs-further : (w : World) (smalls last : List Small) (p : ℕ) (t : Turn) → Each (GreensKeep p) last → RunsThrough w smalls p t → RunsThrough w (smalls ++ last) p t
runs-further w smalls last p t keeps is = record {
  before = is.before;
  block = is.block;
  rest = is.rest ++ last;
  is = ap (λ xs. xs ++ last) is.is ∙ append_assoc is.before (is.block ++ is.rest) last ∙ ap (λ xs. is.before ++ xs) (append_assoc is.block is.rest last);
  apart = is.apart;
  parts = is.parts;
  replica = is.replica;
  ends = Each-append (GreensKeep p) is.rest last is.ends keeps;
}

-- a turn by itself, where the replica runs on
pub runs-alone : (w : World) (p : ℕ) (k : Taken) (block : List Small) (g : GroupState Msg) (x : Replica) (d : Disk) → k.id ≡ p → Each (IsPartOf p) block → played_in w block ≡ hosted w p k.turn.replica k.disk g →
    RunsThrough w (ending_as k block (Runs x d)) p k.turn
runs-alone w p k block g x d mine parts leads = record {
  before = [];
  block = block;
  rest = if commits k.before.held k.turn then Commits k.id ∷ [] else [];
  is = refl;
  apart = tt;
  parts = parts;
  replica = ap (λ (v : World). replica_of v p) leads ∙ ap (λ (o : Option Node). option_and_then (λ s. running s.life) o) (node-hosted w p k.turn.replica k.disk g);
  ends = cond_both (commits k.before.held k.turn) (Commits k.id ∷ []) [] (Each (GreensKeep p)) (λ y. (subst (λ n. GreensKeep p (Commits n)) (sym mine) (commit-greens p), tt)) (λ n. tt);
}

pub ending-of : (k : Taken) (block : List Small) (e : EventEnd) → Each (IsOf k.id) block → Each (IsOf k.id) (ending_as k block e)
ending-of k block (Runs x d) each =
    Each-append (IsOf k.id) block (if commits k.before.held k.turn then Commits k.id ∷ [] else []) each
    (cond_both (commits k.before.held k.turn) (Commits k.id ∷ []) [] (Each (IsOf k.id)) (λ y. (refl, tt)) (λ n. tt))
ending-of k block (EndsInCrash d green) each =
    cond_both (stands k) (block ++ Commits k.id ∷ Crashes k.id ∷ []) (Crashes k.id ∷ []) (Each (IsOf k.id))
    (λ y. Each-append (IsOf k.id) block (Commits k.id ∷ Crashes k.id ∷ []) each (refl, (refl, tt))) (λ n. (refl, tt))

-- who is up is one replica with one disk
pub same-up : (w : World) (p : ℕ) (here : IsUp w p) (r : Replica) (disk : Disk) → node_of w p ≡ Some (up_node p r disk) → (here.replica ≡ r) × (here.disk ≡ disk)
same-up w p here r disk node =
    let same : Some (up_node p here.replica here.disk) ≡ Some (up_node p r disk) = sym here.node ∙ node in
    (ap (λ (o : Option Node). option_map_or (λ s. replica_in s.life r) o r) same, ap (λ (o : Option Node). option_map_or (λ s. disk_in s.life disk) o disk) same) where
      replica_in : NodeState → Replica → Replica
      replica_in (Up x d) other = x
      replica_in (Down d green) other = other

      disk_in : NodeState → Disk → Disk
      disk_in (Up x d) other = d
      disk_in (Down d green) other = other

-- ---- several turns in one event

module _ (w : World) (g : GroupState Msg) (N : ℕ → Standing Msg) (named : (q : ℕ) → (N q).id ≡ q) (input : ℕ → List (Delivery Msg)) (block : ℕ → List Small) (own : (q : ℕ) → Each (IsPartOf q) (block q)) where
  abbrev Member : ℕ → Type 0
  Member q = IsMember w g N named input block q

  -- a replica of these runs on behind its turn
  pub record RunsOn (p : ℕ) : Type 0 where
    pub replica : Replica
    pub disk : Disk
    pub node : node_of w p ≡ Some (up_node p replica disk)
    pub new : Replica
    pub new_disk : Disk
    pub ends : end_event disk replica.held (replica_step replica (Deliveries (input p))) ≡ Runs new new_disk

  -- the steps of the others leave a replica's greens as they are
  others-greens : (rest : List ℕ) (low p : ℕ) → IsRising low rest → Each Member rest → p < low → Each (GreensKeep p) (smalls_among w g N named input block rest)
  others-greens [] low p rise each less = tt
  others-greens (q ∷ rest) low p rise each less =
      let le : low ≤ q = rise.0 in
      let here = each.0.here in
      let t = replica_step here.replica (Deliveries (input q)) in
      let k : Taken = record { id = q; before = here.replica; disk = here.disk; turn = t; ended = end_event here.disk here.replica.held t } in
      let turns : taken w q (Deliveries (input q)) ≡ k ∷ [] = ap (λ (o : Option Node). option_map_or (λ s. taken_as q (Deliveries (input q)) s.life) o []) here.node in
      let first = ending_as k (block q) k.ended in
      let steps : smalls_among w g N named input block (q ∷ rest) ≡ first ++ smalls_among w g N named input block rest =
      ap (λ list. flat_map (ending block) (list ++ turns_among w g N named input block rest)) turns in
      let isof = Each-weaker (IsPartOf q) (IsOf q) (part-of q) (block q) (own q) in
      subst (Each (GreensKeep p)) (sym steps) (Each-append (GreensKeep p) first (smalls_among w g N named input block rest)
      (Each-weaker (IsOf q) (GreensKeep p) (λ s is. keeps-greens p s (other-keeps p q s (λ e. (let same : p ≡ q = e in omega arith)) is)) first (ending-of k (block q) k.ended isof))
      (others-greens rest (suc q) p rise.1 each.1 (omega arith)))

  pub together-runs : (rest : List ℕ) (low : ℕ) → IsRising low rest → Each Member rest → (v : World) (go : StepInProgress) → IsGoing w g N named input block v go.world rest low →
      (p : ℕ) → has rest p ≡ true → (on : RunsOn p) → RunsThrough v (smalls_among w g N named input block rest) p (replica_step on.replica (Deliveries (input p)))
  together-runs [] low rise each v go going p there on = absurd (let clash : false ≡ true = there in cc)
  together-runs (q ∷ rest) low rise each v go going p there on =
      let m = each.0 in
      let here = m.here in
      let le : low ≤ q = rise.0 in
      let t = replica_step here.replica (Deliveries (input q)) in
      let k : Taken = record { id = q; before = here.replica; disk = here.disk; turn = t; ended = end_event here.disk here.replica.held t } in
      let turns : taken w q (Deliveries (input q)) ≡ k ∷ [] = ap (λ (o : Option Node). option_map_or (λ s. taken_as q (Deliveries (input q)) s.life) o []) here.node in
      let steps : smalls_among w g N named input block (q ∷ rest) ≡ ending_as k (block q) k.ended ++ smalls_among w g N named input block rest =
      ap (λ list. flat_map (ending block) (list ++ turns_among w g N named input block rest)) turns in
      let now : IsStill w g N named input block v q = record {
        nodes = λ x above. going.still.nodes x (omega arith);
        standings = λ x above. going.still.standings x (omega arith);
        configurations = going.still.configurations;
        rises = going.still.rises;
        rising = going.still.rising;
      } in
      let opened = m.opens v now in
      let node_v = going.still.nodes q le ∙ here.node in
      let node_u = going.nodes q le ∙ here.node in
      let ends = turn-ends v (set_standing v.group (N q)) q here.replica here.disk t (block q) node_v opened.0 opened.1 (down-own v.group (N q) q (named q)) in
      let leads = hand-leads go q here.replica here.disk (Deliveries (input q)) node_u in
      let first = ending_as k (block q) k.ended in
      let next = one-on w g N named input block v go.world q low rest le rise.1 going t (played_in v first) (hand go q (Deliveries (input q))).world k.ended ends.1 leads in
      let isof : (x : ℕ) → Each (IsOf x) (block x) = λ x. Each-weaker (IsPartOf x) (IsOf x) (part-of x) (block x) (own x) in
      subst (λ list. RunsThrough v list p (replica_step on.replica (Deliveries (input p)))) (sym steps) (elim (cases_eq p q) [
        | inr apart ↦
            let later : has rest p ≡ true = or_else (q == p) (has rest p) (ne_eqb q p (λ e. apart (sym e))) there in
            runs-later v (played_in v first) first (smalls_among w g N named input block rest) p (replica_step on.replica (Deliveries (input p))) refl
            (Each-weaker (IsOf q) (Keeps p) (λ s is. other-keeps p q s apart is) first (ending-of k (block q) k.ended (isof q)))
            (together-runs rest (suc q) rise.1 each.1 (played_in v first) (hand go q (Deliveries (input q))) next p later on)
        | inl same ↦
            let both = same-up w q here on.replica on.disk (subst (λ n. node_of w n ≡ Some (up_node n on.replica on.disk)) same on.node) in
            let turn_same : replica_step on.replica (Deliveries (input p)) ≡ t = ap₂ (λ (r : Replica) n. replica_step r (Deliveries (input n))) (sym both.0) same in
            let back : q ≡ p = sym same in
            let end_same : k.ended ≡ end_event on.disk on.replica.held (replica_step on.replica (Deliveries (input p))) =
            (λ i. end_event (both.1 i) (both.0 i).held (replica_step (both.0 i) (Deliveries (input (back i))))) in
            let end = end_same ∙ on.ends in
            let one = runs-alone v q k (block q) (send_all (set_standing v.group (N q)) q t.sent) on.new on.new_disk refl (own q) opened.1 in
            let alone : RunsThrough v first q t = subst (λ e. RunsThrough v (ending_as k (block q) e) q t) (sym end) one in
            let whole = runs-further v first (smalls_among w g N named input block rest) q t (others-greens rest (suc q) q rise.1 each.1 (let less : q < suc q = omega arith in less)) alone in
            subst (λ n. RunsThrough v (first ++ smalls_among w g N named input block rest) n (replica_step on.replica (Deliveries (input p)))) (sym same)
            (subst (RunsThrough v (first ++ smalls_among w g N named input block rest) q) (sym turn_same) whole)
      ])

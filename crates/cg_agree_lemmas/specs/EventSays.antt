-- What an event in which replicas take turns shows of each of them: what its own turn made and answered, where it runs on, and nothing else.
use Rattle.std.proofs.Common.{◌⊎◌, ◌≡◌, ℕ, suc, ◌+◌, ◌≤◌, ◌<◌, Bool, true, false, ◌||◌, List, [], ◌∷◌, ◌++◌, map, filter, fold, find, length, Option, Some, None, refl, sym, ap, ◌∙◌, subst, arith, inl, inr, eq-eqb}
use Rattle.std.specs.Prelude.{◌==◌, ◌-◌}
use Rattle.std.specs.Option.{option_map_or}
use Rattle.std.proofs.lemmas.Bool.{cases_eq, cases_Bool, cond-true, cond-false, ne_eqb, and_parts, eqb-true}
use Rattle.std.proofs.lemmas.List.{map-append}
use Rattle.cg_base.specs.declared.action_id.ActionId.{ActionId}
use Rattle.cg_base.specs.declared.weighted.Weighted.{Weighted}
use Rattle.cg_base.specs.Ids.{same_id, has_name}
use Rattle.cg_base.specs.IdLaws.{same_id-false, has_name-append}
use Rattle.cg_action.specs.declared.action.Action.{Action}
use Rattle.cg_queue.specs.Queue.{names_of}
use Rattle.cg_wire.specs.declared.message.Msg.{Msg}
use Rattle.cg_group.specs.declared.delivery.Handed.{Handed}
use Rattle.cg_base.specs.Lists.{Each}
use Rattle.cg_base.specs.BoolLaws.{or_false}
use Rattle.cg_report.specs.declared.entry.Made.{Made}
use Rattle.cg_report.specs.declared.entry.Reply.{Reply}
use Rattle.cg_client.specs.Replica.{Held, Replica}
use Rattle.cg_client.specs.Turn.{Turn}
use Rattle.cg_states.specs.ReplicaStep.{Input, Deliveries, replica_step}
use Rattle.cg_disk_records.specs.Crash.{Disk, EventEnd, Runs, Crashes, end_event}
use Rattle.cg_model.specs.World.{NodeState, Up, Down, Node, node_of}
use Rattle.cg_model.specs.Show.{StepInProgress, EventEffects, news_of, answered_from, tell}
use Rattle.cg_model.specs.Step.{hand, hand_over}
use Rattle.cg_model.specs.AtNode.{after_event, hand_to}
use Rattle.cg_model.specs.FactsLists.{IsRising}
use Rattle.cg_model.specs.Making.{made_of_action}
use Rattle.cg_agree_lemmas.specs.ChronicleFacts.{node_of-set}
use Rattle.cg_agree_lemmas.specs.NodeFacts.{node-id}
use Rattle.cg_agree_lemmas.specs.TurnWorlds.{up_node, life_at, nodes-ended}
use Rattle.cg_agree_lemmas.specs.EventTurns.{hand-leads}
use Rattle.cg_agree_lemmas.specs.MadeWorlds.{IsCoreAt}
use Rattle.cg_agree_lemmas.specs.RepliesPlaced.{IsIn, times, reply_ids, plain, ids_in, AreAmong, answered-all, among-chosen, times-all, in-all}
use Rattle.cg_agree_lemmas.specs.OwedNames.{own_name, is_behind, own-other}
use Rattle.cg_agree_lemmas.specs.StepSays.{IsOwing, SaysSo, step-says}

abbrev pub made_ids : List Made → List ActionId
made_ids made = map (λ m. m.id) made

-- between two points of a step these own actions were made, and these replies given to own actions, and no other
pub record Said (g h : StepInProgress) (p : ℕ) (new : List ActionId) (given : List Reply) : Type 0 where
  pub made : (i : ℕ) → has_name (made_ids h.made) (own_name p i) ≡ (has_name (made_ids g.made) (own_name p i) || has_name new (own_name p i))
  pub count : (i : ℕ) → times (own_name p i) (ids_in h.replies) ≡ times (own_name p i) (ids_in g.replies) + times (own_name p i) (reply_ids given)
  pub from : (r : Reply) → r.id.creator ≡ p → IsIn (plain h.replies) r → IsIn (plain g.replies) r ⊎ IsIn given r

pub said-none : (g h : StepInProgress) (p : ℕ) → h.made ≡ g.made → h.replies ≡ g.replies → Said g h p [] []
said-none g h p made replies = record {
  made = λ i. ap (λ list. has_name (made_ids list) (own_name p i)) made ∙ sym (or_false (has_name (made_ids g.made) (own_name p i)));
  count = λ i. ap (λ list. times (own_name p i) (ids_in list)) replies ∙ (let n = times (own_name p i) (ids_in g.replies) in let same : n ≡ n + 0 = omega arith in same);
  from = λ r mine there. inl (subst (λ list. IsIn (plain list) r) replies there);
}

-- nothing, and then something; or something, and then nothing
pub said-later : (g h k : StepInProgress) (p : ℕ) (made : List ActionId) (replies : List Reply) → Said g h p [] [] → Said h k p made replies → Said g k p made replies
said-later g h k p made replies a b = record {
  made = λ i. b.made i ∙ ap (λ x. x || has_name made (own_name p i)) (a.made i ∙ or_false (has_name (made_ids g.made) (own_name p i)));
  count = λ i. (let one = a.count i in let two = b.count i in omega arith);
  from = λ r mine there. elim (b.from r mine there) [
    | inl before ↦ elim (a.from r mine before) [ inl first ↦ inl first | inr none ↦ absurd none ]
    | inr new ↦ inr new
  ];
}

pub said-before : (g h k : StepInProgress) (p : ℕ) (made : List ActionId) (replies : List Reply) → Said g h p made replies → Said h k p [] [] → Said g k p made replies
said-before g h k p made replies a b = record {
  made = λ i. b.made i ∙ or_false (has_name (made_ids h.made) (own_name p i)) ∙ a.made i;
  count = λ i. (let one = a.count i in let two = b.count i in omega arith);
  from = λ r mine there. elim (b.from r mine there) [ inl before ↦ a.from r mine before | inr none ↦ absurd none ];
}

-- ---- what is told

made-named : (made : List Action) → made_ids (map made_of_action made) ≡ names_of made
made-named [] = refl
made-named (a ∷ made) = ap (λ ids. a.id ∷ ids) (made-named made)

pub tell-said : (g : StepInProgress) (n : EventEffects) (p : ℕ) → AreAmong n.replies n.green → Said g (tell g n) p (names_of n.made) n.replies
tell-said g n p among =
    let new = answered_from (n.count - length n.green) n.green n.replies in
    let all : plain new ≡ n.replies = answered-all n.green (n.count - length n.green) n.replies among in
    record {
      made = λ i. ap (λ ids. has_name ids (own_name p i)) (map-append (λ (m : Made). m.id) g.made (map made_of_action n.made) ∙ ap (λ ids. made_ids g.made ++ ids) (made-named n.made))
          ∙ has_name-append (made_ids g.made) (names_of n.made) (own_name p i);
      count = λ i. times-all (own_name p i) new g.replies ∙ ap (λ rs. times (own_name p i) (ids_in g.replies) + times (own_name p i) (reply_ids rs)) all;
      from = λ r mine there. elim (in-all new g.replies r there) [ inl before ↦ inl before | inr now ↦ inr (subst (λ rs. IsIn rs r) all now) ];
    }

-- ---- how an event ends at a replica

-- what its turn made and answered counts where it runs on
abbrev pub made_by : Turn → EventEnd → List ActionId
made_by t (Runs r disk) = names_of t.made
made_by t (Crashes disk green) = []

abbrev pub replies_by : Turn → EventEnd → List Reply
replies_by t (Runs r disk) = t.replies
replies_by t (Crashes disk green) = []

ended-said : (g : StepInProgress) (q : ℕ) (t : Turn) (e : EventEnd) (p : ℕ) → AreAmong t.replies t.green → Said g (after_event g q t e) p (made_by t e) (replies_by t e)
ended-said g q t (Runs r disk) p among = (let is = tell-said g (news_of t) p among in record { made = is.made; count = is.count; from = is.from })
ended-said g q t (Crashes disk green) p among = said-none g _ p refl refl

-- of another replica nothing is said
times-chosen : (p q b i : ℕ) (ids : List ActionId) → (p ≡ q → ⊥) → times (own_name p i) (filter (is_behind q b) ids) ≡ 0
times-chosen p q b i [] apart = refl
times-chosen p q b i (id ∷ ids) apart = elim (cases_Bool (is_behind q b id)) [
  | inl here ↦
      let creator : id.creator ≡ q = eqb-true id.creator q (and_parts (id.creator == q) _ here).0 in
      let other : same_id id (own_name p i) ≡ false = same_id-false id (own_name p i) (inl (λ e. apart (sym e ∙ creator))) in
      ap (times (own_name p i)) (cond-true (is_behind q b id) (id ∷ filter (is_behind q b) ids) (filter (is_behind q b) ids) here)
      ∙ cond-false (same_id id (own_name p i)) (suc (times (own_name p i) (filter (is_behind q b) ids))) (times (own_name p i) (filter (is_behind q b) ids)) other
      ∙ times-chosen p q b i ids apart
  | inr other ↦ ap (times (own_name p i)) (cond-false (is_behind q b id) (id ∷ filter (is_behind q b) ids) (filter (is_behind q b) ids) other) ∙ times-chosen p q b i ids apart
]

in-named : (replies : List Reply) (r : Reply) → IsIn replies r → IsIn (reply_ids replies) r.id
in-named [] r there = there
in-named (x ∷ replies) r (inl here) = inl (ap (λ (x : Reply). x.id) here)
in-named (x ∷ replies) r (inr later) = inr (in-named replies r later)

in-chosen : (t : ActionId → Bool) (ids : List ActionId) (id : ActionId) → IsIn (filter t ids) id → t id ≡ true
in-chosen t [] id there = absurd there
in-chosen t (x ∷ ids) id there = elim (cases_Bool (t x)) [
  | inl here ↦ elim (subst (λ xs. IsIn xs id) (cond-true (t x) (x ∷ filter t ids) (filter t ids) here) there) [
    | inl same ↦ ap t (sym same) ∙ here
    | inr later ↦ in-chosen t ids id later
  ]
  | inr other ↦ in-chosen t ids id (subst (λ xs. IsIn xs id) (cond-false (t x) (x ∷ filter t ids) (filter t ids) other) there)
]

others-said : (g : StepInProgress) (q base : ℕ) (old : Held) (t : Turn) (e : EventEnd) (p : ℕ) → SaysSo q base old t → (p ≡ q → ⊥) → Said g (after_event g q t e) p [] []
others-said g q base old t (Crashes disk green) p says apart = said-none g _ p refl refl
others-said g q base old t (Runs r disk) p says apart =
    let among = among-chosen (is_behind q base) t.green t.replies (says.replies ∙ ap (filter (is_behind q base)) (sym says.answered.green)) in
    let is = ended-said g q t (Runs r disk) p among in
    record {
      made = λ i. is.made i ∙ ap (λ b. has_name (made_ids g.made) (own_name p i) || b) (ap (λ ids. has_name ids (own_name p i)) says.made ∙ own-other q p _ says.count i apart);
      count = λ i. is.count i ∙ ap (λ n. times (own_name p i) (ids_in g.replies) + n) (ap (times (own_name p i)) says.replies ∙ times-chosen p q base i (names_of says.answered.more) apart);
      from = λ r mine there. elim (is.from r mine there) [
        | inl before ↦ inl before
        | inr new ↦ absurd (
            let chosen = in-chosen (is_behind q base) (names_of says.answered.more) r.id (subst (λ ids. IsIn ids r.id) says.replies (in-named t.replies r new)) in
            apart (sym mine ∙ eqb-true r.id.creator q (and_parts (r.id.creator == q) _ chosen).0))
      ];
    }

-- ---- where replicas take turns

-- a replica of a world owes the replies to its own actions behind a number
pub record OwesSo (start : List Weighted) (p : ℕ) (h : Held) : Type 0 where
  pub base : ℕ
  pub core : IsCoreAt start p h
  pub owing : IsOwing p base h

abbrev pub LifeOwes : List Weighted → ℕ → NodeState → Type 0
LifeOwes start p (Up r disk) = OwesSo start p r.held
LifeOwes start p (Down disk green) = Unit {0}

abbrev pub NodeOwes : List Weighted → ℕ → Option Node → Type 0
NodeOwes start p None = Unit {0}
NodeOwes start p (Some s) = LifeOwes start p s.life

-- the replica took its turn with such an input, and what came of it is said
pub record TookTurn (Q : ℕ → Input → Type 0) (g h : StepInProgress) (p : ℕ) : Type 0 where
  pub replica : Replica
  pub disk : Disk
  pub input : Input
  pub of : Q p input
  pub before : node_of g.world p ≡ Some (up_node p replica disk)
  pub behind : (let t = replica_step replica input in node_of h.world p ≡ Some (record { id = p; life = life_at (end_event disk replica.held t) }))
  pub said : (let t = replica_step replica input in let e = end_event disk replica.held t in Said g h p (made_by t e) (replies_by t e))

-- or its node is as it was, and nothing is said of it
pub record KeptNode (g h : StepInProgress) (p : ℕ) : Type 0 where
  pub node : node_of h.world p ≡ node_of g.world p
  pub said : Said g h p [] []

abbrev pub Comes : (ℕ → Input → Type 0) → StepInProgress → StepInProgress → ℕ → Type 0
Comes Q g h p = KeptNode g h p ⊎ TookTurn Q g h p

module _ (start : List Weighted) (Q : ℕ → Input → Type 0) where
  -- another replica than the one that is handed something
  pub hand-apart : (g : StepInProgress) (q : ℕ) (input : Input) → NodeOwes start q (node_of g.world q) → (p : ℕ) → (p ≡ q → ⊥) → KeptNode g (hand g q input) p
  unfolding hand
  hand-apart g q input owes p apart = at (node_of g.world q) refl owes where
    up : (r : Replica) (disk : Disk) → node_of g.world q ≡ Some (up_node q r disk) → OwesSo start q r.held → KeptNode g (hand g q input) p
    up r disk node owes =
        let t = replica_step r input in
        let e = end_event disk r.held t in
        let leads = hand-leads g q r disk input node in
        let nodes = leads.nodes ∙ nodes-ended g.world g.world.group q t e in
        let says = step-says start q owes.base r input owes.core owes.owing in
        let chosen : hand g q input ≡ after_event g q t e = ap (λ (o : Option Node). option_map_or (λ s. hand_to g q input s.life) o g) node in
        record {
          node = ap (λ (list : List Node). find (λ s. s.id == p) list) nodes ∙ node_of-set g.world q (life_at e) p
              ∙ cond-false (q == p) (Some (record { id = q; life = life_at e })) (node_of g.world p) (ne_eqb q p (λ x. apart (sym x)));
          said = subst (λ (h : StepInProgress). Said g h p [] []) (sym chosen) (others-said g q owes.base r.held t e p says apart);
        }

    at : (o : Option Node) → node_of g.world q ≡ o → NodeOwes start q o → KeptNode g (hand g q input) p
    at None e owes = (let none = ap (λ (o : Option Node). option_map_or (λ s. hand_to g q input s.life) o g) e in
        subst (λ (h : StepInProgress). KeptNode g h p) (sym none) (record { node = refl; said = said-none g g p refl refl }))
    at (Some s) e owes = life s.life refl owes where
      life : (l : NodeState) → s.life ≡ l → LifeOwes start q l → KeptNode g (hand g q input) p
      life (Up r disk) is owes = up r disk (e ∙ (λ i. Some (record { id = node-id g.world q s e i; life = is i }))) owes
      life (Down disk green) is owes = (let none : hand g q input ≡ g = ap (λ (o : Option Node). option_map_or (λ s. hand_to g q input s.life) o g) e ∙ ap (hand_to g q input) is in
          subst (λ (h : StepInProgress). KeptNode g h p) (sym none) (record { node = refl; said = said-none g g p refl refl }))

  -- and that one
  pub hand-own : (g : StepInProgress) (p : ℕ) (input : Input) → Q p input → NodeOwes start p (node_of g.world p) → Comes Q g (hand g p input) p
  unfolding hand
  hand-own g p input of owes = at (node_of g.world p) refl owes where
    up : (r : Replica) (disk : Disk) → node_of g.world p ≡ Some (up_node p r disk) → OwesSo start p r.held → Comes Q g (hand g p input) p
    up r disk node owes =
        let t = replica_step r input in
        let e = end_event disk r.held t in
        let leads = hand-leads g p r disk input node in
        let nodes = leads.nodes ∙ nodes-ended g.world g.world.group p t e in
        let says = step-says start p owes.base r input owes.core owes.owing in
        let among = among-chosen (is_behind p owes.base) t.green t.replies (says.replies ∙ ap (filter (is_behind p owes.base)) (sym says.answered.green)) in
        let chosen : hand g p input ≡ after_event g p t e = ap (λ (o : Option Node). option_map_or (λ s. hand_to g p input s.life) o g) node in
        inr (record {
          replica = r;
          disk = disk;
          input = input;
          of = of;
          before = node;
          behind = ap (λ (list : List Node). find (λ s. s.id == p) list) nodes ∙ node_of-set g.world p (life_at e) p
              ∙ cond-true (p == p) (Some (record { id = p; life = life_at e })) (node_of g.world p) (eq-eqb p p refl);
          said = subst (λ (h : StepInProgress). Said g h p (made_by t e) (replies_by t e)) (sym chosen) (ended-said g p t e p among);
        })

    at : (o : Option Node) → node_of g.world p ≡ o → NodeOwes start p o → Comes Q g (hand g p input) p
    at None e owes = (let none = ap (λ (o : Option Node). option_map_or (λ s. hand_to g p input s.life) o g) e in
        subst (λ (h : StepInProgress). Comes Q g h p) (sym none) (inl (record { node = refl; said = said-none g g p refl refl })))
    at (Some s) e owes = life s.life refl owes where
      life : (l : NodeState) → s.life ≡ l → LifeOwes start p l → Comes Q g (hand g p input) p
      life (Up r disk) is owes = up r disk (e ∙ (λ i. Some (record { id = node-id g.world p s e i; life = is i }))) owes
      life (Down disk green) is owes = (let none : hand g p input ≡ g = ap (λ (o : Option Node). option_map_or (λ s. hand_to g p input s.life) o g) e ∙ ap (hand_to g p input) is in
          subst (λ (h : StepInProgress). Comes Q g h p) (sym none) (inl (record { node = refl; said = said-none g g p refl refl })))

  pub hand-comes : (g : StepInProgress) (q : ℕ) (input : Input) → Q q input → NodeOwes start q (node_of g.world q) → (p : ℕ) → Comes Q g (hand g q input) p
  hand-comes g q input of owes p = elim (cases_eq p q) [
    | inl same ↦ subst (λ n. Comes Q g (hand g n input) p) same (hand-own g p input (subst (λ n. Q n input) (sym same) of) (subst (λ n. NodeOwes start n (node_of g.world n)) (sym same) owes))
    | inr apart ↦ inl (hand-apart g q input owes p apart)
  ]

  kept-then : (g h k : StepInProgress) (p : ℕ) → KeptNode g h p → Comes Q h k p → Comes Q g k p
  kept-then g h k p a is = elim is [
    | inl kept ↦ inl (record { node = kept.node ∙ a.node; said = said-later g h k p [] [] a.said kept.said })
    | inr turn ↦ inr (record {
      replica = turn.replica;
      disk = turn.disk;
      input = turn.input;
      of = turn.of;
      before = sym a.node ∙ turn.before;
      behind = turn.behind;
      said = said-later g h k p _ _ a.said turn.said;
    })
  ]

  then-kept : (g h k : StepInProgress) (p : ℕ) → Comes Q g h p → KeptNode h k p → Comes Q g k p
  then-kept g h k p is b = elim is [
    | inl kept ↦ inl (record { node = b.node ∙ kept.node; said = said-later g h k p [] [] kept.said b.said })
    | inr turn ↦ inr (record {
      replica = turn.replica;
      disk = turn.disk;
      input = turn.input;
      of = turn.of;
      before = turn.before;
      behind = b.node ∙ turn.behind;
      said = said-before g h k p _ _ turn.said b.said;
    })
  ]

  -- what the others that are still to take turns owe stays
  owes-on : (g : StepInProgress) (q : ℕ) (input : Input) (low : ℕ) → NodeOwes start q (node_of g.world q) → ((p : ℕ) → low ≤ p → NodeOwes start p (node_of g.world p)) → low ≤ q →
      (p : ℕ) → suc q ≤ p → NodeOwes start p (node_of (hand g q input).world p)
  owes-on g q input low mine owes le p above =
      subst (NodeOwes start p) (sym (hand-apart g q input mine p (λ e. (let same : p ≡ q = e in omega arith))).node) (owes p (omega arith))

  none-later : (list : List (Handed Msg)) (g : StepInProgress) (p low : ℕ) → IsRising low (map (λ h. h.to) list) → ((q : ℕ) → low ≤ q → NodeOwes start q (node_of g.world q)) → p < low →
      KeptNode g (fold hand_over g list) p
  none-later [] g p low rise owes less = record { node = refl; said = said-none g g p refl refl }
  none-later (h ∷ list) g p low rise owes less =
      let le = rise.0 in
      let one = hand-apart g h.to (Deliveries h.list) (owes h.to le) p (λ e. (let same : p ≡ h.to = e in omega arith)) in
      let rest = none-later list (hand_over g h) p (suc h.to) rise.1 (owes-on g h.to (Deliveries h.list) low (owes h.to le) owes le) (omega arith) in
      record { node = rest.node ∙ one.node; said = said-later g (hand_over g h) (fold hand_over (hand_over g h) list) p [] [] one.said rest.said }

  -- replicas take their turns, ascending
  pub handed-comes : (list : List (Handed Msg)) (g : StepInProgress) (low : ℕ) → IsRising low (map (λ h. h.to) list) → Each (λ h. Q h.to (Deliveries h.list)) list →
      ((q : ℕ) → low ≤ q → NodeOwes start q (node_of g.world q)) → (p : ℕ) → Comes Q g (fold hand_over g list) p
  handed-comes [] g low rise each owes p = inl (record { node = refl; said = said-none g g p refl refl })
  handed-comes (h ∷ list) g low rise each owes p =
      let le = rise.0 in
      let next = hand_over g h in
      let later = owes-on g h.to (Deliveries h.list) low (owes h.to le) owes le in
      elim (cases_eq p h.to) [
        | inl same ↦ then-kept g next (fold hand_over next list) p (hand-comes g h.to (Deliveries h.list) each.0 (owes h.to le) p)
            (none-later list next p (suc h.to) rise.1 later (omega arith))
        | inr apart ↦ kept-then g next (fold hand_over next list) p (hand-apart g h.to (Deliveries h.list) (owes h.to le) p apart) (handed-comes list next (suc h.to) rise.1 each.1 later p)
      ]

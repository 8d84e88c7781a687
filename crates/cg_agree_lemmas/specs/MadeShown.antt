-- What a replica's turn shows as made stands with it: it is up, and each of these actions has its greens as its line and is the next of
-- its creator. Where a crash keeps such actions its recovery will show them.
use Rattle.std.proofs.Common.{◌⊎◌, ◌≡◌, ℕ, zero, suc, ◌+◌, ◌-◌, ◌<◌, ◌≤◌, true, cond, ◌&&◌, List, [], ◌∷◌, ◌++◌, map, find, drop, length, Option, Some, None, Contains, refl, sym, ap, ◌∙◌, subst, inl, inr, arith, eq-eqb, option_and_then, nat_lt}
use Rattle.std.specs.Prelude.{◌==◌}
use Rattle.std.proofs.lemmas.Bool.{cases_eq, cases_lt, cond-true, cond-false, ne_eqb, and_from}
use Rattle.std.proofs.lemmas.List.{append-nil, map-append, length-append, length-drop}
use Rattle.std.proofs.lemmas.List.Elements.{Contains-append_left, Contains-append_right}
use Rattle.cg_base.specs.Lists.{Each}
use Rattle.cg_base.specs.EachLaws.{Each-append, Each-weaker, Each-filter}
use Rattle.cg_base.specs.declared.action_id.ActionId.{ActionId}
use Rattle.cg_base.specs.declared.weighted.Weighted.{Weighted}
use Rattle.cg_base.specs.Cuts.{index_in}
use Rattle.cg_action.specs.declared.action.Action.{Action}
use Rattle.cg_queue.specs.Queue.{names_of, green_count}
use Rattle.cg_report.specs.declared.entry.Made.{Made}
use Rattle.cg_client.specs.Replica.{Held, Replica, created}
use Rattle.cg_client.specs.Turn.{Turn}
use Rattle.cg_disk_records.specs.Stored.{stored_of, whiten}
use Rattle.cg_states.specs.ReplicaStep.{Input, replica_step}
use Rattle.cg_disk_records.specs.Crash.{Disk, Runs, Crashes, whitened, end_event, recovered, disk_recovered}
use Rattle.cg_model.specs.FactsBooks.{LifeMade}
use Rattle.cg_model.specs.World.{NodeState, Up, Down, Node, World, running, node_of}
use Rattle.cg_model.specs.Looks.{on_disk}
use Rattle.cg_model.specs.Show.{StepInProgress, beyond, unshown}
use Rattle.cg_model.specs.AtNode.{after_event, recover_from}
use Rattle.cg_model.specs.Making.{made_of_action}
use Rattle.cg_disk_records.specs.Holds.{run_on, cut_behind, Rising}
use Rattle.cg_disk_records.specs.RunLaws.{cut_behind-append, run_on-append}
use Rattle.cg_agree_lemmas.specs.ChronicleFacts.{node_of-set}
use Rattle.cg_agree_lemmas.specs.HeldMarks.{rising-red}
use Rattle.cg_agree_lemmas.specs.DiskAhead.{OwnRuns}
use Rattle.cg_agree_lemmas.specs.DiskEnds.{end-cases}
use Rattle.cg_agree_lemmas.specs.MadeRecovered.{recovery-shown}
use Rattle.cg_agree_lemmas.specs.MadeWorlds.{IsCoreAt, LifeSound}
use Rattle.cg_agree_lemmas.specs.StepMakes.{IsOwnNow, Makes, step-makes, own-below}
use Rattle.cg_agree_lemmas.specs.StepGreens.{step-follows, whitened-count}
use Rattle.cg_agree_lemmas.specs.RecoveryMakes.{IsOwnLast, recovery-makes}

-- ---- what is shown

abbrev pub running_in : List Node → ℕ → Option Replica
running_in nodes p = option_and_then (λ s. running s.life) (find (λ s. s.id == p) nodes)

-- an action shown as made stands with its replica, which has as many greens as its line says
pub record IsThere (nodes : List Node) (m : Made) : Type 0 where
  pub action : Action
  pub is : made_of_action action ≡ m
  pub replica : Replica
  pub runs : running_in nodes m.id.creator ≡ Some replica
  pub among : Contains (replica.held.queue.reds ++ replica.held.own) action
  pub line : action.green_line ≡ green_count replica.held.queue

abbrev pub LifeLast : ℕ → ℕ → NodeState → Type 0
LifeLast n p (Up r disk) = Unit {0}
LifeLast n p (Down disk green) = IsOwnLast n p disk.content

abbrev pub NodeLast : ℕ → ℕ → Option Node → Type 0
NodeLast n p None = Unit {0}
NodeLast n p (Some s) = LifeLast n p s.life

abbrev pub AreLast : List ActionId → List Node → Type 0
AreLast made nodes = (p : ℕ) → NodeLast (index_in made p) p (find (λ s. s.id == p) nodes)

abbrev pub names_in : List Made → List ActionId
names_in list = map (λ m. m.id) list

-- so far in the order a replica has come
pub record IsReachedBy (low : ℕ) (nodes : List Node) (far : ℕ) : Type 0 where
  pub who : ℕ
  pub below : who < low
  pub replica : Replica
  pub runs : running_in nodes who ≡ Some replica
  pub reaches : far ≤ green_count replica.held.queue

-- behind what was shown as made in a world these were shown, by replicas below that one; and where the order is longer one of them is there
pub record Adds (w : World) (low : ℕ) (list : List Made) (v : World) : Type 0 where
  pub run : run_on w.made (names_in list) ≡ true
  pub cut : v.made ≡ cut_behind w.made (names_in list)
  pub there : Each (IsThere v.nodes) list
  pub below : Each (λ m. m.id.creator < low) list
  pub last : AreLast v.made v.nodes
  pub reach : (length v.order ≤ length w.order) ⊎ IsReachedBy low v.nodes (length v.order)

abbrev pub AddsTo : World → ℕ → StepInProgress → Type 0
AddsTo w low g = Adds w low g.made g.world

pub adds-wider : (w : World) (low high : ℕ) (list : List Made) (v : World) → low ≤ high → Adds w low list v → Adds w high list v
adds-wider w low high list v le adds = record {
  run = adds.run;
  cut = adds.cut;
  there = adds.there;
  below = Each-weaker (λ m. m.id.creator < low) (λ m. m.id.creator < high) (λ m less. omega arith) list adds.below;
  last = adds.last;
  reach = elim adds.reach [
    | inl same ↦ inl same
    | inr by ↦ inr (record { who = by.who; below = (let less = by.below in omega arith); replica = by.replica; runs = by.runs; reaches = by.reaches })
  ];
}

-- what a replica is, and what stands on its disk
abbrev pub LifeWell : List Weighted → ℕ → NodeState → Type 0
LifeWell start p l = LifeSound start p l × IsCoreAt start p (on_disk l)

abbrev pub NodeWell : List Weighted → ℕ → Option Node → Type 0
NodeWell start p None = Unit {0}
NodeWell start p (Some s) = LifeWell start p s.life

-- ---- lists

made-names : (list : List Action) → names_in (map made_of_action list) ≡ names_of list
made-names [] = refl
made-names (a ∷ list) = ap (λ ids. a.id ∷ ids) (made-names list)

in-itself : (list : List Action) → Each (Contains list) list
in-itself [] = tt
in-itself (a ∷ list) = (
  (zero, (let less : 0 < suc (length list) = omega arith in less), refl),
  Each-weaker (Contains list) (Contains (a ∷ list)) (λ x there. Contains-append_right (a ∷ []) list x there) list (in-itself list),
)

in-right : (xs ys : List Action) → Each (Contains (xs ++ ys)) ys
in-right xs ys = Each-weaker (Contains ys) (Contains (xs ++ ys)) (λ x there. Contains-append_right xs ys x there) ys (in-itself ys)

-- actions that a replica which is up has made now
made-there : (nodes : List Node) (h : Held) (x : Replica) → running_in nodes h.id ≡ Some x → green_count x.held.queue ≡ green_count h.queue → (list : List Action) → Each (IsOwnNow h) list →
    Each (Contains (x.held.queue.reds ++ x.held.own)) list → Each (IsThere nodes) (map made_of_action list)
made-there nodes h x runs count [] now among = tt
made-there nodes h x runs count (a ∷ list) now among = (
  record {
    action = a;
    is = refl;
    replica = x;
    runs = ap (running_in nodes) now.0.0 ∙ runs;
    among = among.0;
    line = now.0.1 ∙ sym count;
  },
  made-there nodes h x runs count list now.1 among.1,
)

made-mine : (h : Held) (p : ℕ) → h.id ≡ p → (list : List Action) → Each (IsOwnNow h) list → Each (λ m. m.id.creator < suc p) (map made_of_action list)
made-mine h p id [] now = tt
made-mine h p id (a ∷ list) now = ((let of : a.id.creator ≡ p = now.0.0 ∙ id in omega arith), made-mine h p id list now.1)

-- ---- one node changes

others-there : (nodes new : List Node) (p : ℕ) → ((q : ℕ) → (q ≡ p → ⊥) → running_in new q ≡ running_in nodes q) → (list : List Made) → Each (λ m. m.id.creator < p) list → Each (IsThere nodes) list →
    Each (IsThere new) list
others-there nodes new p same [] low there = tt
others-there nodes new p same (m ∷ list) low there = (
  (let is = there.0 in record { action = is.action; is = is.is; replica = is.replica; runs = same m.id.creator (λ e. (let less = low.0 in omega arith)) ∙ is.runs; among = is.among; line = is.line }),
  others-there nodes new p same list low.1 there.1,
)

pub last-set : (w v : World) (p : ℕ) (life : NodeState) → ((q : ℕ) → node_of v q ≡ cond (p == q) (Some (record { id = p; life = life })) (node_of w q)) →
    LifeLast (index_in v.made p) p life → ((q : ℕ) → (q ≡ p → ⊥) → index_in v.made q ≡ index_in w.made q) → AreLast w.made w.nodes → AreLast v.made v.nodes
last-set w v p life nodes is others last q = elim (cases_eq p q) [
  | inl same ↦ subst (λ (n : ℕ). NodeLast (index_in v.made n) n (node_of v n)) same
      (subst (NodeLast (index_in v.made p) p) (sym (nodes p ∙ cond-true (p == p) (Some (let s : Node = record { id = p; life = life } in s)) (node_of w p) (eq-eqb p p refl))) is)
  | inr apart ↦ subst (NodeLast (index_in v.made q) q) (sym (nodes q ∙ cond-false (p == q) (Some (let s : Node = record { id = p; life = life } in s)) (node_of w q) (ne_eqb p q apart)))
      (subst (λ (n : ℕ). NodeLast n q (node_of w q)) (sym (others q (λ e. apart (sym e)))) (last q))
]

set-running : (w v : World) (p : ℕ) (life : NodeState) → ((q : ℕ) → node_of v q ≡ cond (p == q) (Some (record { id = p; life = life })) (node_of w q)) →
    (running_in v.nodes p ≡ running life) × ((q : ℕ) → (q ≡ p → ⊥) → running_in v.nodes q ≡ running_in w.nodes q)
set-running w v p life nodes = (
  ap (λ (o : Option Node). option_and_then (λ s. running s.life) o) (nodes p ∙ cond-true (p == p) (Some (let s : Node = record { id = p; life = life } in s)) (node_of w p) (eq-eqb p p refl)),
  (λ q apart. ap (λ (o : Option Node). option_and_then (λ s. running s.life) o) (nodes q ∙ cond-false (p == q) (Some (let s : Node = record { id = p; life = life } in s)) (node_of w q) (ne_eqb p q (λ e. apart (sym e))))),
)

-- who had come so far is still there
others-reach : (low : ℕ) (nodes new : List Node) (p far : ℕ) → low ≤ p → ((q : ℕ) → (q ≡ p → ⊥) → running_in new q ≡ running_in nodes q) → IsReachedBy low nodes far → IsReachedBy (suc p) new far
others-reach low nodes new p far le same by = record {
  who = by.who;
  below = (let less = by.below in omega arith);
  replica = by.replica;
  runs = same by.who (λ e. (let less = by.below in omega arith)) ∙ by.runs;
  reaches = by.reaches;
}

-- names that end at a place make the order no longer than that, or leave it as it is
order-longer : (order green : List ActionId) (count : ℕ) → (length (order ++ beyond order green count) ≤ length order) ⊎ (length (order ++ beyond order green count) ≤ count)
order-longer order green count =
    let k = length order + length green - count in
    let both : length (order ++ drop k green) ≡ length order + length (drop k green) = length-append order (drop k green) in
    let rest : length (drop k green) ≡ length green - k = length-drop k green in
    elim (cases_lt (length order) count) [
      | inl less ↦ inr (omega arith)
      | inr more ↦ inl (omega arith)
    ]

-- ---- who goes down

-- nothing was made that wasn't shown
pub core-last : (start : List Weighted) (n p : ℕ) (h : Held) → IsCoreAt start p h → n ≡ created h → IsOwnLast n p h
core-last start n p h core is =
    let own : OwnRuns h = record { rising = rising-red start h core.greens core.is; run = core.is.contiguous.own; mine = core.is.contiguous.mine } in
    let here : index_in h.queue.red_cut h.id ≡ index_in h.queue.red_cut p = ap (index_in h.queue.red_cut) core.id in
    record {
      kept = h.own;
      made = [];
      own = sym (append-nil h.own);
      now = tt;
      below = subst (λ m. Each (λ a. a.id.index ≤ m) h.own) (sym is) (own-below h own);
      red = omega arith;
    }

-- what a commit left of a turn
stood-last : (n p : ℕ) (cut : List ActionId) (old : Held) (t : Turn) → Makes cut old t → old.id ≡ p → n ≡ created old → green_count (whiten t.replica.held).queue ≡ green_count t.replica.held.queue →
    IsOwnLast n p (stored_of (whiten t.replica.held))
unfolding whiten
stood-last n p cut old t makes id is count = record {
  kept = makes.kept;
  made = t.made;
  own = makes.own;
  now = Each-weaker (IsOwnNow t.replica.held) (λ a. a.green_line ≡ green_count (whiten t.replica.held).queue) (λ a now. now.1 ∙ sym count) t.made makes.now;
  below = subst (λ m. Each (λ a. a.id.index ≤ m) makes.kept) (sym is) makes.below;
  red = (let here : index_in t.replica.held.queue.red_cut old.id ≡ index_in t.replica.held.queue.red_cut p = ap (index_in t.replica.held.queue.red_cut) id in let low = makes.red in omega arith);
}

whitened-lists : (h : Held) → ((whiten h).queue.reds ++ (whiten h).own) ≡ (h.queue.reds ++ h.own)
unfolding whiten
whitened-lists h = refl

-- ---- a turn

pub turn-adds : (start : List Weighted) (w : World) (go : StepInProgress) (p : ℕ) (r : Replica) (disk : Disk) (input : Input) → LifeWell start p (Up r disk) → Rising 0 go.world.made →
    index_in go.world.made p ≡ created r.held → AddsTo w p go → AddsTo w (suc p) (after_event go p (replica_step r input) (end_event disk r.held (replica_step r input)))
turn-adds start w go p r disk input well rising counts adds =
    end-cases disk r.held t (λ e. AddsTo w (suc p) (after_event go p t e))
    (λ quiet d is. runs t.replica d refl refl) (λ does d is. runs (whitened t.replica) d (whitened-lists t.replica.held) count)
    (λ stays d green is. falls d green (subst (IsOwnLast (index_in go.world.made p) p) (sym is) (stood-last (index_in go.world.made p) p go.world.made r.held t makes core.id counts count)))
    (λ gone d green is. falls d green (subst (IsOwnLast (index_in go.world.made p) p) (sym is) (core-last start (index_in go.world.made p) p disk.content well.1 (counts ∙ well.0.1.created)))) where
      t : Turn
      t = replica_step r input

      core : IsCoreAt start p r.held
      core = well.0.0

      makes : Makes go.world.made r.held t
      makes = step-makes go.world.made start r core.greens input rising core.is (ap (index_in go.world.made) core.id ∙ counts)

      count : green_count (whiten t.replica.held).queue ≡ green_count t.replica.held.queue
      count = whitened-count start r.held t.replica.held core.greens core.is (step-follows r input)

      id : t.replica.held.id ≡ p
      id = makes.shown.id ∙ core.id

      wider : (list : List Made) → Each (λ m. m.id.creator < p) list → Each (λ m. m.id.creator < suc p) list
      wider list each = Each-weaker (λ m. m.id.creator < p) (λ m. m.id.creator < suc p) (λ m less. omega arith) list each

      same_p : p ≤ p
      same_p = omega arith

      runs : (x : Replica) (d : Disk) → (x.held.queue.reds ++ x.held.own) ≡ (t.replica.held.queue.reds ++ t.replica.held.own) → green_count x.held.queue ≡ green_count t.replica.held.queue →
          AddsTo w (suc p) (after_event go p t (Runs x d))
      runs x d lists same =
          let g = after_event go p t (Runs x d) in
          let names : names_in (go.made ++ map made_of_action t.made) ≡ names_in go.made ++ names_of t.made =
          map-append (λ (m : Made). m.id) go.made (map made_of_action t.made) ∙ ap (λ ids. names_in go.made ++ ids) (made-names t.made) in
          let nodes = set-running go.world g.world p (Up x d) (λ q. node_of-set go.world p (Up x d) q) in
          let among : Each (Contains (x.held.queue.reds ++ x.held.own)) t.made =
          subst (λ list. Each (Contains list) t.made) (sym (lists ∙ ap (λ own. t.replica.held.queue.reds ++ own) makes.own))
          (Each-weaker (Contains (makes.kept ++ t.made)) (Contains (t.replica.held.queue.reds ++ (makes.kept ++ t.made))) (λ a there. Contains-append_right t.replica.held.queue.reds (makes.kept ++ t.made) a there)
          t.made (in-right makes.kept t.made)) in
          record {
            run = ap (run_on w.made) names ∙ run_on-append w.made (names_in go.made) (names_of t.made)
                ∙ and_from (run_on w.made (names_in go.made)) (run_on (cut_behind w.made (names_in go.made)) (names_of t.made)) adds.run
                (ap (λ cut. run_on cut (names_of t.made)) (sym adds.cut) ∙ makes.run);
            cut = ap (λ cut. cut_behind cut (names_of t.made)) adds.cut ∙ sym (ap (cut_behind w.made) names ∙ cut_behind-append w.made (names_in go.made) (names_of t.made));
            there = Each-append (IsThere g.world.nodes) go.made (map made_of_action t.made) (others-there go.world.nodes g.world.nodes p nodes.1 go.made adds.below adds.there)
                (made-there g.world.nodes t.replica.held x (ap (running_in g.world.nodes) id ∙ nodes.0) same t.made makes.now among);
            below = Each-append (λ m. m.id.creator < suc p) go.made (map made_of_action t.made) (wider go.made adds.below) (made-mine t.replica.held p id t.made makes.now);
            last = last-set go.world g.world p (Up x d) (λ q. node_of-set go.world p (Up x d) q) tt (λ q apart. makes.shown.others q (λ e. apart (e ∙ core.id))) adds.last;
            reach = elim (order-longer go.world.order t.green (green_count t.replica.held.queue)) [
              | inr longer ↦ inr (record { who = p; below = (let less : p < suc p = omega arith in less); replica = x; runs = nodes.0; reaches = subst (λ n. length g.world.order ≤ n) (sym same) longer })
              | inl stays ↦
                  let there : length g.world.order ≡ length go.world.order =
                  (let both = length-append go.world.order (beyond go.world.order t.green (green_count t.replica.held.queue)) in let le = stays in omega arith) in
                  subst (λ n. (n ≤ length w.order) ⊎ IsReachedBy (suc p) g.world.nodes n) (sym there) (elim adds.reach [
                    | inl before ↦ inl before
                    | inr by ↦ inr (others-reach p go.world.nodes g.world.nodes p (length go.world.order) same_p nodes.1 by)
                  ])
            ];
          }

      falls : (d : Disk) (green : List ActionId) → IsOwnLast (index_in go.world.made p) p d.content → AddsTo w (suc p) (after_event go p t (Crashes d green))
      falls d green is =
          let g = after_event go p t (Crashes d green) in
          let nodes = set-running go.world g.world p (Down d green) (λ q. node_of-set go.world p (Down d green) q) in
          record {
            run = adds.run;
            cut = adds.cut;
            there = others-there go.world.nodes g.world.nodes p nodes.1 go.made adds.below adds.there;
            below = wider go.made adds.below;
            last = last-set go.world g.world p (Down d green) (λ q. node_of-set go.world p (Down d green) q) is (λ q apart. refl) adds.last;
            reach = elim adds.reach [
              | inl before ↦ inl before
              | inr by ↦ inr (others-reach p go.world.nodes g.world.nodes p (length go.world.order) same_p nodes.1 by)
            ];
          }

-- ---- who comes up from a disk

pub none-adds : (w v : World) (low : ℕ) → v.made ≡ w.made → v.order ≡ w.order → AreLast v.made v.nodes → Adds w low [] v
none-adds w v low made order last = record { run = refl; cut = made; there = tt; below = tt; last = last; reach = inl (let same : length v.order ≡ length w.order = ap length order in omega arith) }

pub recovery-adds : (start : List Weighted) (w : World) (p : ℕ) (l : NodeState) → LifeWell start p l → Rising 0 w.made → LifeMade (index_in w.made p) p l → LifeLast (index_in w.made p) p l → AreLast w.made w.nodes →
    AddsTo w (suc p) (recover_from w l)
recovery-adds start w p (Up r disk) well rising made is last = none-adds w w (suc p) refl refl last
recovery-adds start w p (Down disk green) well rising made is last =
    let core = well.1 in
    let r = recovered disk in
    let g = recover_from w (Down disk green) in
    let list = unshown w.made r.held in
    let again = recovery-shown w.made start p disk core.greens rising core.is core.id made.0 made.1 in
    let nodes = set-running w g.world r.held.id (Up r (disk_recovered disk)) (λ q. node_of-set w r.held.id (Up r (disk_recovered disk)) q) in
    let now = recovery-makes w.made start p disk core.greens core.is core.id is in
    let among : Each (Contains (r.held.queue.reds ++ r.held.own)) list =
    Each-weaker (Contains r.held.queue.reds) (Contains (r.held.queue.reds ++ r.held.own)) (λ a there. Contains-append_left r.held.queue.reds r.held.own a there) list
    (Each-filter (Contains r.held.queue.reds) (λ a. (a.id.creator == r.held.id) && nat_lt (index_in w.made r.held.id) a.id.index) r.held.queue.reds (in-itself r.held.queue.reds)) in
    record {
      run = ap (run_on w.made) (made-names list) ∙ again.run;
      cut = ap (cut_behind w.made) (sym (made-names list));
      there = made-there g.world.nodes r.held r nodes.0 refl list now among;
      below = made-mine r.held p again.id list now;
      last = last-set w g.world r.held.id (Up r (disk_recovered disk)) (λ q. node_of-set w r.held.id (Up r (disk_recovered disk)) q) tt (λ q apart. again.others q (λ e. apart (e ∙ sym again.id))) last;
      reach = elim (order-longer w.order green (green_count r.held.queue)) [
        | inl stays ↦ inl stays
        | inr longer ↦ inr (record {
          who = p;
          below = (let less : p < suc p = omega arith in less);
          replica = r;
          runs = ap (running_in g.world.nodes) (sym again.id) ∙ nodes.0;
          reaches = longer;
        })
      ];
    }

-- A regular member in a state that creates, whose turn creates actions, keeps the facts about what is said.
use Rattle.std.proofs.Common.{◌≡◌, ℕ, Bool, true, false, cond, not, ◌&&◌, ◌||◌, List, [], ◌∷◌, ◌++◌, Option, Some, None, map, take, drop, fold, filter_map, find, refl, sym, ap, ap₂, ◌∙◌, ⊎_elim, eq-eqb, append-nil, if◌then◌else◌, option_and_then}
use Rattle.std.specs.Prelude.{◌==◌}
use Rattle.std.specs.List.{list_all}
use Rattle.std.proofs.lemmas.Bool.{and_parts, and_from, cases_Bool, or_left, or_cases, not_from_false}
use Rattle.std.proofs.lemmas.List.{append_assoc, map-append}
use Rattle.std.proofs.lemmas.List.Elements.{filter_map-append}
use Rattle.std.proofs.lemmas.List.Folds.{list_all-append}
use Rattle.std.proofs.lemmas.List.Sums.{fold-append}
use Rattle.cg_base.specs.Sets.{has, is_within}
use Rattle.cg_base.specs.SetLaws.{is_within-has, is_within-from, has-with_member}
use Rattle.cg_action.specs.declared.action.Action.{Action}
use Rattle.cg_action.specs.declared.action.Kind.{Kind}
use Rattle.cg_knowledge.specs.declared.summary.Summary.{Summary}
use Rattle.cg_knowledge.specs.Summaries.{senders, gone, remaining}
use Rattle.cg_knowledge.specs.Verdict.{decides}
use Rattle.cg_wire.specs.declared.message.Msg.{Msg}
use Rattle.cg_wire.specs.declared.message.Msg.TheVariants.{Action as ActionMsg, State as StateMsg, GreenItem, RedItem, Cpc}
use Rattle.cg_group.specs.declared.phase.Phase.TheVariants.{Regular}
use Rattle.cg_group.specs.State.{Sent, GroupState, phase_of, regular_in, delivered_to, unordered_of}
use Rattle.cg_client.specs.Replica.{ExchangeStates, ExchangeActions, Replica}
use Rattle.cg_client.specs.Turn.{Turn, begin}
use Rattle.cg_client.specs.Requests.{is_creating, next_action, create, create_kept, empty_buffer}
use Rattle.cg_disk_records.specs.Crash.{Disk}
use Rattle.cg_model.specs.World.{Up, Node, node_of, replica_of, running}
use Rattle.cg_model.specs.Chronicle.{Told, Chronicle}
use Rattle.cg_model.specs.Looks.{greens_of, is_regular_in, is_regular_at, members_in, ordered_in, sent_by, said_in}
use Rattle.cg_model.specs.Talk.{Talk, no_talk, talk_of, hears, hears_from, is_full, is_through, is_ended, is_announced, may_go_on, is_legal, state_behind, state_in, summary_in, item_in, announcer_in}
use Rattle.cg_model.specs.FactsTalk.{whole_talk, handed_talk}
use Rattle.cg_model.specs.Small.{after_turn}
use Rattle.cg_agree_lemmas.specs.TalkEarly.{all-member}
use Rattle.cg_agree_lemmas.specs.TalkCommute.{legal-append, clash}
use Rattle.cg_agree_lemmas.specs.HandSays.{remains-unless_gone}
use Rattle.cg_agree_lemmas.specs.HandTalk.{creating-behind}
use Rattle.cg_agree_lemmas.specs.SaidSoFar.{IsSame, rest-through}
use Rattle.cg_agree_lemmas.specs.HandsKept.{take-drop}
use Rattle.cg_agree_lemmas.specs.HandsTalk.{SaidFacts}
use Rattle.cg_agree_lemmas.specs.ChronicleFacts.{node_of-set}
use Rattle.cg_agree_lemmas.specs.GroupTurn.{Moved, moved-sent, put-same}
use Rattle.cg_agree_lemmas.specs.TalkKept.{Turns, FitsAt, legal-kept, says-kept, told-kept, mode-kept}
use Rattle.cg_group.specs.LookupLaws.{at-cond, eqb_comm}

-- ---- a turn that creates

pub record Adds (t u : Turn) : Type 0 where
  pub state : u.replica.state ≡ t.replica.state
  pub id : u.replica.held.id ≡ t.replica.held.id
  pub acts : List Action
  pub sent : u.sent ≡ t.sent ++ map ActionMsg acts
  pub own : list_all (λ a. a.id.creator == t.replica.held.id) acts ≡ true

adds-none : (t u : Turn) → u.replica.state ≡ t.replica.state → u.replica.held.id ≡ t.replica.held.id → u.sent ≡ t.sent → Adds t u
adds-none t u state id sent = record { state = state; id = id; acts = []; sent = sent ∙ sym (append-nil t.sent); own = refl }

pub adds-create : (t : Turn) (kind : Kind) → Adds t (create t kind)
unfolding create
adds-create t kind =
    record {
      state = refl;
      id = refl;
      acts = next_action t.replica.held kind ∷ [];
      sent = refl;
      own = and_from (t.replica.held.id == t.replica.held.id) true (eq-eqb t.replica.held.id t.replica.held.id refl) refl;
    }

adds-then : (t u v : Turn) → Adds t u → Adds u v → Adds t v
adds-then t u v a b = record {
  state = b.state ∙ a.state;
  id = b.id ∙ a.id;
  acts = a.acts ++ b.acts;
  sent = b.sent ∙ ap (λ xs. xs ++ map ActionMsg b.acts) a.sent ∙ append_assoc t.sent (map ActionMsg a.acts) (map ActionMsg b.acts) ∙ ap (λ xs. t.sent ++ xs) (sym (map-append ActionMsg a.acts b.acts));
  own = list_all-append (λ (x : Action). x.id.creator == t.replica.held.id) a.acts b.acts
      ∙ and_from (list_all (λ x. x.id.creator == t.replica.held.id) a.acts) (list_all (λ x. x.id.creator == t.replica.held.id) b.acts) a.own
      (ap (λ n. list_all (λ x. x.id.creator == n) b.acts) (sym a.id) ∙ b.own);
}

adds-all : (kinds : List Kind) (t : Turn) → Adds t (fold create t kinds)
adds-all [] t = adds-none t t refl refl refl
adds-all (kind ∷ kinds) t = adds-then t (create t kind) (fold create (create t kind) kinds) (adds-create t kind) (adds-all kinds (create t kind))

pub adds-kept : (t : Turn) → Adds t (create_kept t)
unfolding create_kept
adds-kept t = adds-then t (empty_buffer t) (fold create (empty_buffer t) t.replica.held.buffered) (adds-none t (empty_buffer t) refl refl refl) (adds-all t.replica.held.buffered (empty_buffer t))

-- ---- actions behind all that was said

none-of : {Y : Type 0} (f : Msg → Option Y) → ((a : Action) → f (ActionMsg a) ≡ None) → (acts : List Action) → filter_map f (map ActionMsg acts) ≡ []
none-of f each [] = refl
none-of f each (a ∷ acts) = rw (each a) (none-of f each acts)

module _ (set : List ℕ) (conf me : ℕ) where
  legal-own : (acts : List Action) (z : Talk) → may_go_on set z me ≡ true → (not (decides z.heard) || is_announced z) ≡ true →
      list_all (λ a. a.id.creator == me) acts ≡ true → is_legal set conf z (map (sent_by me) (map ActionMsg acts)) ≡ true
  legal-own [] z on told own = refl
  legal-own (a ∷ acts) z on told own =
      let parts = and_parts (a.id.creator == me) (list_all (λ a. a.id.creator == me) acts) own in
      and_from (((a.id.creator == me) && may_go_on set z me) && (not (decides z.heard) || is_announced z)) (is_legal set conf (hears_from z me (ActionMsg a)) (map (sent_by me) (map ActionMsg acts)))
      (and_from ((a.id.creator == me) && may_go_on set z me) (not (decides z.heard) || is_announced z) (and_from (a.id.creator == me) (may_go_on set z me) parts.0 on) told)
      (legal-own acts (hears_from z me (ActionMsg a)) on told parts.1)

  grows-step : (t : Talk) (from : ℕ) (m : Msg) (q : ℕ) → has t.announced q ≡ true → has (hears_from t from m).announced q ≡ true
  grows-step t from (StateMsg s) q there = there
  grows-step t from (GreenItem n a) q there = there
  grows-step t from (RedItem a) q there = there
  grows-step t from (ActionMsg a) q there = there
  grows-step t from (Cpc i k) q there = has-with_member t.announced from q ∙ or_left (has t.announced q) (from == q) there

  pub grows-all : (list : List (Sent Msg)) (t : Talk) (q : ℕ) → has t.announced q ≡ true → has (fold hears t list).announced q ≡ true
  grows-all [] t q there = there
  grows-all (s ∷ list) t q there = grows-all list (hears t s) q (grows-step t s.from s.message q there)

  -- a state that creates stands behind the end of the plan
  pub record CanCreate (t : Talk) : Type 0 where
    pub full : is_full set t ≡ true
    pub through : is_through t ≡ true
    pub stays : has (gone t.heard) me ≡ false
    pub told : (not (decides t.heard) || is_announced t) ≡ true

  choice : (left decided announced : Bool) → cond left false (cond (not decided) true (cond announced true false)) ≡ true → (left ≡ false) × ((not decided || announced) ≡ true)
  choice true d a e = absurd (let clash' : false ≡ true = e in cc)
  choice false false a e = (refl, refl)
  choice false true true e = (refl, refl)
  choice false true false e = absurd (let clash' : false ≡ true = e in cc)

  pub can-create : (t : Talk) → is_creating (state_in set conf t me) ≡ true → CanCreate t
  can-create t creating = ⊎_elim
      (λ full. ⊎_elim
      (λ through.
      let at = choice (has (gone t.heard) me) (decides t.heard) (is_announced t) (sym (creating-behind conf t me) ∙ sym (ap is_creating (at-end full through)) ∙ creating) in
      record { full = full; through = through; stays = at.0; told = at.1 })
      (λ yet. clash (is_creating (state_in set conf t me)) creating (ap is_creating (in-plan full yet)))
      (cases_Bool (is_through t)))
      (λ partly. clash (is_creating (state_in set conf t me)) creating (ap is_creating (at-first partly)))
      (cases_Bool (is_full set t)) where
        at-end : is_full set t ≡ true → is_through t ≡ true → state_in set conf t me ≡ state_behind conf t me
        at-end full through = rw (full, through) refl

        in-plan : is_full set t ≡ true → is_through t ≡ false → state_in set conf t me ≡ ExchangeActions conf t.heard t.accepted
        in-plan full yet = rw (full, yet) refl

        at-first : is_full set t ≡ false → state_in set conf t me ≡ ExchangeStates conf set t.heard
        at-first partly = rw partly refl

  -- behind all that was said since, it may say actions of its own
  pub may-create : (t : Talk) (rest : List (Sent Msg)) (acts : List Action) → has set me ≡ true → CanCreate t → is_legal set conf t rest ≡ true →
      list_all (λ a. a.id.creator == me) acts ≡ true → is_legal set conf (fold hears t rest) (map (sent_by me) (map ActionMsg acts)) ≡ true
  may-create t rest acts member can legal own =
      let z = fold hears t rest in
      let same = rest-through set conf me rest t can.full can.through legal in
      let remains : has (remaining t.heard) me ≡ true = remains-unless_gone t.heard me (all-member (has (senders t.heard)) set me member can.full) ∙ not_from_false (has (gone t.heard) me) can.stays in
      let on : may_go_on set t me ≡ true = and_from (is_ended set t) (has (remaining t.heard) me) (and_from (is_full set t) (is_through t) can.full can.through) remains in
      legal-own acts z (goes-same t z same on) (told-same t z same (λ q there. grows-all rest t q there) can.told) own where
        goes-same : (t z : Talk) → IsSame set conf me t z → may_go_on set t me ≡ true → may_go_on set z me ≡ true
        goes-same t z same on = rw (same.heard, same.accepted) on

        told-same : (t z : Talk) → IsSame set conf me t z → ((q : ℕ) → has t.announced q ≡ true → has z.announced q ≡ true) → (not (decides t.heard) || is_announced t) ≡ true →
            (not (decides z.heard) || is_announced z) ≡ true
        told-same t z same grows told = ap₂ (λ h b. not (decides h) || b) same.heard refl ∙ ⊎_elim
            (λ isnt. or_left (not (decides t.heard)) (is_announced z) isnt)
            (λ all. or-right' (not (decides t.heard)) (is_announced z) (ap (λ h. is_within (remaining h) z.announced) same.heard
            ∙ is_within-from (remaining t.heard) z.announced (λ q there. grows q (is_within-has (remaining t.heard) t.announced q all there))))
            (or_cases (not (decides t.heard)) (is_announced t) told) where
              or-right' : (a b : Bool) → b ≡ true → (a || b) ≡ true
              or-right' true b e = refl
              or-right' false b e = e

-- ---- in the world

-- a member is regular, in a state that creates, and takes a part of a turn that creates
pub record CreatesAt (c : Chronicle) (p conf : ℕ) (r : Replica) (disk : Disk) (u : Turn) : Type 0 where
  pub node : node_of c.world p ≡ Some (record { id = p; life = Up r disk })
  pub regular : phase_of c.world.group p ≡ Regular conf
  pub number : (conf == 0) ≡ false
  pub member : has (members_in c conf) p ≡ true
  pub id : r.held.id ≡ p
  pub creating : is_creating r.state ≡ true
  pub adds : Adds (begin r) u

module _ (c : Chronicle) (p conf : ℕ) (r : Replica) (disk : Disk) (u : Turn) (h : CreatesAt c p conf r disk u) (old : SaidFacts c) where
  abbrev g : GroupState Msg
  g = c.world.group

  abbrev count : ℕ
  count = delivered_to g p

  abbrev set : List ℕ
  set = members_in c conf

  abbrev list : List (Sent Msg)
  list = ordered_in c conf

  abbrev x : Talk
  x = handed_talk c conf p

  abbrev waiting : List Msg
  waiting = unordered_of g p

  abbrev behind : Chronicle
  behind = after_turn c p r disk u

  pub regular-in : is_regular_in c conf p ≡ true
  regular-in = ap (is_regular_at conf) h.regular ∙ eq-eqb conf conf refl

  waits-legal : is_legal set conf (whole_talk c conf) (map (sent_by p) waiting) ≡ true
  waits-legal = ap (λ b. is_legal set conf (whole_talk c conf) (map (sent_by p) (if b then waiting else []))) (sym regular-in) ∙ old.legal.waiting conf p

  pub state-is : r.state ≡ state_in set conf x p
  state-is =
      let running' : replica_of c.world p ≡ Some r = ap (option_and_then (λ (x : Node). running x.life)) h.node in
      let mode = old.modes p in
      rw (running', h.regular) at mode

  pub can : CanCreate set conf p x
  can = can-create set conf p x (ap is_creating (sym state-is) ∙ h.creating)

  abbrev later : List (Sent Msg)
  later = drop count list ++ map (sent_by p) waiting

  rest-legal : is_legal set conf x later ≡ true
  rest-legal =
      let whole : is_legal set conf no_talk (take count list ++ drop count list) ≡ true = ap (is_legal set conf no_talk) (take-drop list count) ∙ old.legal.ordered conf in
      let both = and_parts (is_legal set conf no_talk (take count list)) (is_legal set conf x (drop count list)) (sym (legal-append set conf (take count list) (drop count list) no_talk) ∙ whole) in
      legal-append set conf (drop count list) (map (sent_by p) waiting) x
      ∙ and_from (is_legal set conf x (drop count list)) (is_legal set conf (fold hears x (drop count list)) (map (sent_by p) waiting)) both.1
      (ap (λ t. is_legal set conf t (map (sent_by p) waiting)) whole-is ∙ waits-legal) where
        whole-is : fold hears x (drop count list) ≡ whole_talk c conf
        whole-is = sym (fold-append hears no_talk (take count list) (drop count list)) ∙ ap talk_of (take-drop list count)

  all-is : fold hears (whole_talk c conf) (map (sent_by p) waiting) ≡ fold hears x later
  all-is = ap (λ xs. fold hears (talk_of xs) (map (sent_by p) waiting)) (sym (take-drop list count))
      ∙ ap (λ t. fold hears t (map (sent_by p) waiting)) (fold-append hears no_talk (take count list) (drop count list)) ∙ sym (fold-append hears x (drop count list) (map (sent_by p) waiting))

  abbrev acts : List Action
  acts = h.adds.acts

  own : list_all (λ a. a.id.creator == p) acts ≡ true
  own = ap (λ n. list_all (λ (a : Action). a.id.creator == n) acts) (sym h.id) ∙ h.adds.own

  kind-none : {Y : Type 0} (f : Msg → Option Y) → ((a : Action) → f (ActionMsg a) ≡ None) → filter_map f (said_in c conf p ++ u.sent) ≡ filter_map f (said_in c conf p)
  kind-none f each = filter_map-append f (said_in c conf p) u.sent ∙ ap (λ xs. filter_map f (said_in c conf p) ++ filter_map f xs) h.adds.sent
      ∙ ap (λ xs. filter_map f (said_in c conf p) ++ xs) (none-of f each acts) ∙ append-nil (filter_map f (said_in c conf p))

  pub fits : FitsAt c p conf count u.sent u.replica
  fits =
      let says = old.says conf p regular-in in
      record {
        regular = h.regular;
        legal = ap (λ xs. is_legal set conf (whole_talk c conf) (map (sent_by p) (waiting ++ xs))) h.adds.sent
            ∙ ap (is_legal set conf (whole_talk c conf)) (map-append (sent_by p) waiting (map ActionMsg acts))
            ∙ legal-append set conf (map (sent_by p) waiting) (map (sent_by p) (map ActionMsg acts)) (whole_talk c conf)
            ∙ and_from (is_legal set conf (whole_talk c conf) (map (sent_by p) waiting)) (is_legal set conf (fold hears (whole_talk c conf) (map (sent_by p) waiting)) (map (sent_by p) (map ActionMsg acts))) waits-legal
            (ap (λ t. is_legal set conf t (map (sent_by p) (map ActionMsg acts))) all-is ∙ may-create set conf p x later acts h.member can rest-legal own);
        says = record {
          summary = kind-none summary_in (λ a. refl) ∙ says.summary;
          items = kind-none item_in (λ a. refl) ∙ says.items;
          announcement = kind-none announcer_in (λ a. refl) ∙ says.announcement;
          actions = λ not_so. clash (is_creating (state_in set conf x p)) (ap is_creating (sym state-is) ∙ h.creating) not_so;
        };
        state = h.adds.state ∙ state-is;
      }

  pub moved : Moved g behind.world.group p count u.sent
  moved = moved-sent u.sent g g p count [] (record {
    conf = λ k. refl;
    phase = λ q. refl;
    delivered = λ q. sym (put-same (delivered_to g) p count refl q);
    waits = λ q. sym (put-same (unordered_of g) p (waiting ++ []) (sym (append-nil waiting)) q);
  }) (ap (λ x. not (regular_in x == 0)) h.regular ∙ ap not h.number)

  pub turns : Turns c behind p count u.sent u.replica
  turns = record {
    conf = moved.conf;
    phase = moved.phase;
    delivered = moved.delivered;
    waits = moved.waits;
    told = λ k q. ap (λ xs. find (λ (t : Told). (t.summary.conf == k) && (t.summary.id == q)) (c.told ++ map (λ x. told-by x) xs)) (ap (filter_map summary_in) h.adds.sent ∙ none-of summary_in (λ a. refl) acts)
        ∙ ap (find (λ (t : Told). (t.summary.conf == k) && (t.summary.id == q))) (append-nil c.told);
    replica = λ q. ap (option_and_then (λ (x : Node). running x.life)) (node_of-set c.world p (Up u.replica disk) q)
        ∙ at-cond (option_and_then (λ (x : Node). running x.life)) (p == q) (Some (record { id = p; life = Up u.replica disk })) (node_of c.world q)
        ∙ ap (λ b. cond b (Some u.replica) (replica_of c.world q)) (eqb_comm p q);
  } where
    told-by : Summary → Told
    told-by x = record { summary = x; greens = greens_of c p }

  -- a turn that creates keeps the facts about what is said
  pub creates-said : SaidFacts behind
  creates-said = record {
    legal = legal-kept c behind p conf count u.sent u.replica turns fits old.legal;
    says = says-kept c behind p conf count u.sent u.replica turns fits old.says;
    told = told-kept c behind p conf count u.sent u.replica turns fits old.told;
    modes = mode-kept c behind p conf count u.sent u.replica turns fits old.modes;
  }

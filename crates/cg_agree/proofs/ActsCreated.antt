-- Requests keep what is in messages and how actions are numbered: what is created goes on in its row.
use Rattle.std.proofs.Common.{◌≡◌, ℕ, suc, ◌+◌, true, false, inl, inr, List, [], ◌∷◌, ◌++◌, Option, Some, None, IfSome, map, filter_map, fold, drop, length, max, refl, sym, ap, ap₂, subst, ◌∙◌, ⊎_elim, arith, append-nil, length-append, eqb-true, option_and_then}
use Rattle.std.specs.Prelude.{◌==◌}
use Rattle.std.specs.Option.{option_map_or}
use Rattle.std.proofs.lemmas.Bool.{cases_Bool, cond-true, cond-false, and_from}
use Rattle.std.proofs.lemmas.List.{append_assoc, map-append}
use Rattle.std.proofs.lemmas.List.Elements.{filter_map-append}
use Rattle.cg_base.specs.Cuts.{index_in}
use Rattle.cg_base.specs.Sets.{has}
use Rattle.cg_base.specs.FindLaws.{found_passes}
use Rattle.cg_action.specs.declared.action.Action.{Action}
use Rattle.cg_action.specs.declared.action.Kind.{Kind}
use Rattle.cg_knowledge.specs.Summaries.{remaining}
use Rattle.cg_queue.specs.Queue.{names_of}
use Rattle.cg_wire.specs.declared.message.Msg.TheVariants.{Action as ActionMsg}
use Rattle.cg_group.specs.State.{phase_of, delivered_to}
use Rattle.cg_client.specs.Replica.{Held, State, RegPrim, TransPrim, ExchangeStates, ExchangeActions, Construct, No, Un, NonPrim, Left, Replica, created, last_index}
use Rattle.cg_client.specs.Turn.{Turn, begin}
use Rattle.cg_client.specs.Requests.{is_creating, next_action, create, create_kept, empty_buffer, buffer, settle, request, request_in}
use Rattle.cg_disk_records.specs.Crash.{Disk}
use Rattle.cg_model.specs.World.{NodeState, Up, Down as DownLife, Node, node_of, replica_of, running}
use Rattle.cg_model.specs.Chronicle.{Told, Chronicle}
use Rattle.cg_model.specs.Looks.{told_in, members_in, greens_of, said_in, OfCores}
use Rattle.cg_model.specs.Talk.{Talk, act_in, is_ended, is_full, is_through, known_up_to}
use Rattle.cg_model.specs.FactsNet.{PhaseSound, IsPhase}
use Rattle.cg_model.specs.FactsReplica.{IsModeData, IsCore}
use Rattle.cg_model.specs.FactsTalk.{whole_talk, handed_talk, of_creator, count_behind, AreContents, Content, AreNumbered, AreNumberedAt, ActsNumbered, IsStateIn, TalkFacts}
use Rattle.cg_model.specs.Small.{Asks, Settles, small_step, turning, turning_as, after_turn, take_request}
use Rattle.cg_agree_lemmas.specs.ActsSaid.{handed-heard}
use Rattle.cg_agree_lemmas.specs.ActsWay.{later_acts, said-split, way-later, row-both, created-count, drop-behind}
use Rattle.cg_agree_lemmas.specs.CreatesTalk.{CreatesAt, can, turns, fits}
use Rattle.cg_agree_lemmas.specs.NumbersSame.{AreInRow, IsNumberedAs, numbered-itself}
use Rattle.cg_agree.proofs.TalkAlone.{replica-set}
use Rattle.cg_agree_lemmas.specs.TalkKept.{said-own, handed-own}
use Rattle.cg_agree_lemmas.specs.TalkSame.{said-of, talk-from, content-same, acts-same}
use Rattle.cg_agree_lemmas.specs.TurnActs.{content-turn, acts-turn}
use Rattle.cg_agree_lemmas.specs.TurnTalk.{IsQuiet, CreatesOrIsQuiet, quiet-same, creating-regular, number-of, settle-each, ask-each, asks-kept, settles-kept}
use Rattle.cg_disk_records.specs.Holds.{cut_behind}
use Rattle.cg_client.specs.OwnLaws.{last_index-push}

-- ---- what a turn creates

-- it creates actions in a row, and nothing else changes in what is known
pub record Creates (t u : Turn) : Type 0 where
  pub new : List Action
  pub sent : u.sent ≡ t.sent ++ map ActionMsg new
  pub own : u.replica.held.own ≡ t.replica.held.own ++ new
  pub green : u.replica.held.queue.green_cut ≡ t.replica.held.queue.green_cut
  pub red : u.replica.held.queue.red_cut ≡ t.replica.held.queue.red_cut
  pub reds : u.replica.held.queue.reds ≡ t.replica.held.queue.reds
  pub state : u.replica.state ≡ t.replica.state
  pub row : AreInRow (created t.replica.held) new
  pub count : created u.replica.held ≡ created t.replica.held + length new

none-created : (t u : Turn) → u.sent ≡ t.sent → u.replica.held.own ≡ t.replica.held.own → u.replica.held.id ≡ t.replica.held.id →
    u.replica.held.queue ≡ t.replica.held.queue → u.replica.state ≡ t.replica.state → Creates t u
none-created t u sent own id queue state = record {
  new = [];
  sent = sent ∙ sym (append-nil t.sent);
  own = own ∙ sym (append-nil t.replica.held.own);
  green = ap (λ q. q.green_cut) queue;
  red = ap (λ q. q.red_cut) queue;
  reds = ap (λ q. q.reds) queue;
  state = state;
  row = refl;
  count = ap₂ max (ap₂ (λ q i. index_in q.red_cut i) queue id) (ap last_index own) ∙ (let e : created t.replica.held ≡ created t.replica.held + 0 = omega arith in e);
}

one-created : (t : Turn) (kind : Kind) → Creates t (create t kind)
unfolding create
one-created t kind =
    let h = t.replica.held in
    let a = next_action h kind in
    record {
      new = a ∷ [];
      sent = refl;
      own = refl;
      green = refl;
      red = refl;
      reds = refl;
      state = refl;
      row = refl;
      count = ap (max (index_in h.queue.red_cut h.id)) (last_index-push h.own a) ∙ bigger (index_in h.queue.red_cut h.id) (last_index h.own);
    } where
      bigger : (x y : ℕ) → max x (suc (max x y)) ≡ max x y + 1
      bigger x y = omega arith

both-created : (t u v : Turn) → Creates t u → Creates u v → Creates t v
both-created t u v a b = record {
  new = a.new ++ b.new;
  sent = b.sent ∙ ap (λ xs. xs ++ map ActionMsg b.new) a.sent ∙ append_assoc t.sent (map ActionMsg a.new) (map ActionMsg b.new) ∙ ap (λ xs. t.sent ++ xs) (sym (map-append ActionMsg a.new b.new));
  own = b.own ∙ ap (λ xs. xs ++ b.new) a.own ∙ append_assoc t.replica.held.own a.new b.new;
  green = b.green ∙ a.green;
  red = b.red ∙ a.red;
  reds = b.reds ∙ a.reds;
  state = b.state ∙ a.state;
  row = row-both (created t.replica.held) a.new b.new a.row (subst (λ n. AreInRow n b.new) a.count b.row);
  count = b.count ∙ ap (λ n. n + length b.new) a.count ∙ (let e = length-append a.new b.new in omega arith);
}

all-created : (kinds : List Kind) (t : Turn) → Creates t (fold create t kinds)
all-created [] t = none-created t t refl refl refl refl refl
all-created (kind ∷ kinds) t = both-created t (create t kind) (fold create (create t kind) kinds) (one-created t kind) (all-created kinds (create t kind))

pub settle-creates : (t : Turn) → Creates t (settle t)
unfolding create_kept
settle-creates t = ⊎_elim
    (λ y. subst (Creates t) (sym (cond-true (is_creating t.replica.state) (create_kept t) t y))
    (both-created t (empty_buffer t) (create_kept t) (none-created t (empty_buffer t) refl refl refl refl refl) (all-created t.replica.held.buffered (empty_buffer t))))
    (λ n. subst (Creates t) (sym (cond-false (is_creating t.replica.state) (create_kept t) t n)) (none-created t t refl refl refl refl refl))
    (cases_Bool (is_creating t.replica.state))

pub request-creates : (kind : Kind) (t : Turn) → Creates t (request t kind)
request-creates kind t = at t.replica.state where
  at : (state : State) → Creates t (request_in state t kind)
  at RegPrim = one-created t kind
  at (NonPrim true) = one-created t kind
  at (NonPrim false) = none-created t (buffer t kind) refl refl refl refl refl
  at Left = none-created t t refl refl refl refl refl
  at TransPrim = none-created t (buffer t kind) refl refl refl refl refl
  at (ExchangeStates conf set heard) = none-created t (buffer t kind) refl refl refl refl refl
  at (ExchangeActions conf set heard) = none-created t (buffer t kind) refl refl refl refl refl
  at (Construct conf heard) = none-created t (buffer t kind) refl refl refl refl refl
  at (No conf heard) = none-created t (buffer t kind) refl refl refl refl refl
  at Un = none-created t (buffer t kind) refl refl refl refl refl

-- ---- in the world

acts-made : (acts : List Action) → filter_map act_in (map ActionMsg acts) ≡ acts
acts-made [] = refl
acts-made (a ∷ acts) = ap (λ xs. a ∷ xs) (acts-made acts)

contents-made : (greens : List Action) (acts : List Action) → AreContents greens (map ActionMsg acts)
contents-made greens [] = tt
contents-made greens (a ∷ acts) = (tt, contents-made greens acts)

module _ (c : Chronicle) (p conf : ℕ) (r : Replica) (disk : Disk) (u : Turn) (h : CreatesAt c p conf r disk u) (old : TalkFacts c) (made : Creates (begin r) u)
    (core : IsCore c r.held (greens_of c p)) where
  abbrev X : Talk
  X = handed_talk c conf p

  abbrev W : Talk
  W = whole_talk c conf

  abbrev before : List Action
  before = of_creator p X.acts

  abbrev later : List Action
  later = later_acts c conf p

  numbers : AreNumbered c conf p r.held r.state
  numbers =
      let runs : replica_of c.world p ≡ Some r = ap (option_and_then (λ (x : Node). running x.life)) h.node in
      subst (λ x. AreNumberedAt c p x r) h.regular (subst (λ (o : Option Replica). IfSome o (AreNumberedAt c p (phase_of c.world.group p))) runs (old.acts_numbered.handed p))

  -- what is known, in both states that create
  pub record Known (i : Held) : Type 0 where
    pub red : (creator : ℕ) → index_in i.queue.red_cut creator ≡ count_behind X creator
    pub own : i.own ≡ later

  known-in : (state : State) → is_creating state ≡ true → AreNumbered c conf p r.held state → Known r.held
  known-in RegPrim creating are = record {
    red = λ creator. ap (λ cut. index_in cut creator) (core.made_of.red_cut ∙ ap (λ xs. cut_behind r.held.queue.green_cut (names_of xs)) are.1) ∙ are.0 creator;
    own = way-later c conf p old.talk_legal r.held are.2;
  }
  known-in (NonPrim true) creating are = record { red = are.0; own = way-later c conf p old.talk_legal r.held are.1 }
  known-in (NonPrim false) creating are = absurd (let clash : false ≡ true = creating in cc)
  known-in TransPrim creating are = absurd (let clash : false ≡ true = creating in cc)
  known-in (ExchangeStates at set heard) creating are = absurd (let clash : false ≡ true = creating in cc)
  known-in (ExchangeActions at heard n) creating are = absurd (let clash : false ≡ true = creating in cc)
  known-in (Construct at heard) creating are = absurd (let clash : false ≡ true = creating in cc)
  known-in (No at heard) creating are = absurd (let clash : false ≡ true = creating in cc)
  known-in Un creating are = absurd (let clash : false ≡ true = creating in cc)
  known-in Left creating are = absurd (let clash : false ≡ true = creating in cc)

  known : Known r.held
  known = known-in r.state h.creating numbers

  -- the member was handed the end of the plan
  ended : is_ended (members_in c conf) X ≡ true
  ended = let may = can c p conf r disk u h (said-of c old) in and_from (is_full (members_in c conf) X) (is_through X) may.full may.through

  heard : W.heard ≡ X.heard
  heard = handed-heard c conf old.talk_legal p ended

  acts-said : filter_map act_in (said_in c conf p ++ u.sent) ≡ (before ++ later) ++ made.new
  acts-said = filter_map-append act_in (said_in c conf p) u.sent
      ∙ ap₂ (λ xs ys. xs ++ ys) (said-split c conf p old.talk_legal) (ap (filter_map act_in) made.sent ∙ acts-made made.new)

  row-on : is_ended (members_in c conf) W ≡ true → has (remaining W.heard) p ≡ true → AreInRow (known_up_to W.heard p) (filter_map act_in (said_in c conf p ++ u.sent))
  row-on all stays =
      let n = known_up_to W.heard p in
      let row : AreInRow n (before ++ later) = subst (AreInRow n) (said-split c conf p old.talk_legal) (old.acts_numbered.said conf p all stays) in
      let red : index_in r.held.queue.red_cut p ≡ n + length before = known.red p ∙ ap (λ x. known_up_to x p + length before) (sym heard) in
      let count : created r.held ≡ n + length (before ++ later) = created-count r.held p n before later h.id red known.own row in
      subst (AreInRow n) (sym acts-said) (row-both n (before ++ later) made.new row (subst (λ m. AreInRow m made.new) count made.row))

  abbrev d : Chronicle
  d = after_turn c p r disk u

  -- what is on the way behind it
  way-behind : u.replica.held.own ≡ drop (length (of_creator p (handed_talk d conf p).acts)) (filter_map act_in (said_in d conf p))
  way-behind =
      let t = turns c p conf r disk u h (said-of c old) in
      let f = fits c p conf r disk u h (said-of c old) in
      made.own ∙ ap (λ xs. xs ++ made.new) known.own ∙ sym (drop-behind before (later ++ made.new))
      ∙ ap₂ (λ (x : Talk) xs. drop (length (of_creator p x.acts)) xs)
      (sym (handed-own c d p conf (delivered_to c.world.group p) u.sent u.replica t f conf))
      (sym (append_assoc before later made.new) ∙ sym acts-said ∙ ap (filter_map act_in) (sym (said-own c d p conf (delivered_to c.world.group p) u.sent u.replica t f)))

  handed-behind : handed_talk d conf p ≡ X
  handed-behind = handed-own c d p conf (delivered_to c.world.group p) u.sent u.replica (turns c p conf r disk u h (said-of c old)) (fits c p conf r disk u h (said-of c old)) conf

  numbered-behind : (state : State) → is_creating state ≡ true → AreNumbered c conf p r.held state → AreNumbered d conf p u.replica.held state
  numbered-behind RegPrim creating are =
      (λ creator. ap (λ cut. index_in cut creator) made.green ∙ are.0 creator ∙ ap (λ (x : Talk). count_behind x creator) (sym handed-behind), made.reds ∙ are.1, way-behind)
  numbered-behind (NonPrim true) creating are =
      (λ creator. ap (λ cut. index_in cut creator) made.red ∙ are.0 creator ∙ ap (λ (x : Talk). count_behind x creator) (sym handed-behind), way-behind)
  numbered-behind (NonPrim false) creating are = tt
  numbered-behind TransPrim creating are = tt
  numbered-behind (ExchangeStates at set heard) creating are = tt
  numbered-behind (ExchangeActions at heard n) creating are = tt
  numbered-behind (Construct at heard) creating are = absurd (let clash : false ≡ true = creating in cc)
  numbered-behind (No at heard) creating are = tt
  numbered-behind Un creating are = tt
  numbered-behind Left creating are = tt

  pub content-created : Content d
  content-created = content-turn c d p conf (delivered_to c.world.group p) u.sent u.replica (turns c p conf r disk u h (said-of c old)) (fits c p conf r disk u h (said-of c old))
      (of-told (told_in c conf p)) old.content where
        of-told : (o : Option Told) → IfSome o (λ t. AreContents t.greens u.sent)
        of-told None = tt
        of-told (Some t) = subst (AreContents t.greens) (sym made.sent) (contents-made t.greens made.new)

  pub acts-created : ActsNumbered d
  acts-created = acts-turn c d p conf (delivered_to c.world.group p) u.sent u.replica (turns c p conf r disk u h (said-of c old)) (fits c p conf r disk u h (said-of c old))
      row-on (subst (AreNumbered d conf p u.replica.held) (sym made.state) (numbered-behind r.state h.creating numbers)) old.acts_numbered

-- ---- the small steps

-- nothing was made where nothing is said
none-new : (acts : List Action) → map ActionMsg acts ≡ [] → acts ≡ []
none-new [] e = refl
none-new (a ∷ acts) e = absurd (let clash : ActionMsg a ∷ map ActionMsg acts ≡ [] = e in cc)

quiet-numbers : (c : Chronicle) (p : ℕ) (r : Replica) (disk : Disk) (u : Turn) → IsQuiet r u → Creates (begin r) u → node_of c.world p ≡ Some (record { id = p; life = Up r disk }) →
    (q : ℕ) → IsNumberedAs (replica_of c.world q) (replica_of (after_turn c p r disk u).world q)
quiet-numbers c p r disk u quiet made node q = ⊎_elim
    (λ is.
    let before : replica_of c.world q ≡ Some r = ap (replica_of c.world) (eqb-true q p is) ∙ ap (option_and_then (λ (x : Node). running x.life)) node in
    let after : replica_of (after_turn c p r disk u).world q ≡ Some u.replica = replica-set c.world p (Up u.replica disk) q ∙ cond-true (q == p) (Some u.replica) (replica_of c.world q) is in
    let none : made.new ≡ [] = none-new made.new (sym made.sent ∙ quiet.sent) in
    subst (λ (o : Option Replica). IsNumberedAs o (replica_of (after_turn c p r disk u).world q)) (sym before) (subst (λ (o : Option Replica). IsNumberedAs (Some r) o) (sym after)
    (quiet.state, record { green = made.green; red = made.red; reds = made.reds; own = made.own ∙ ap (λ xs. r.held.own ++ xs) none ∙ append-nil r.held.own })))
    (λ isnt. subst (λ (o : Option Replica). IsNumberedAs (replica_of c.world q) o) (sym (replica-set c.world p (Up u.replica disk) q ∙ cond-false (q == p) (Some u.replica) (replica_of c.world q) isnt)) (numbered-itself (replica_of c.world q)))
    (cases_Bool (q == p))

-- what such a turn makes of both facts
pub record BothKept (d : Chronicle) : Type 0 where
  pub content : Content d
  pub acts : ActsNumbered d

pub both-kept : (c : Chronicle) (p : ℕ) (part : Turn → Turn) → PhaseSound c → ((q : ℕ) → IfSome (replica_of c.world q) (IsModeData c q)) → OfCores c (IsCore c) → TalkFacts c →
    ((r : Replica) → CreatesOrIsQuiet r (part (begin r))) → ((t : Turn) → Creates t (part t)) → BothKept (turning c p part)
both-kept c p part sound mode cores old each makes = at (node_of c.world p) refl where
  up : (r : Replica) (disk : Disk) → node_of c.world p ≡ Some (record { id = p; life = Up r disk }) → CreatesOrIsQuiet r (part (begin r)) → BothKept (after_turn c p r disk (part (begin r)))
  up r disk node (inr quiet) =
      let same = quiet-same c p r disk (part (begin r)) quiet node in
      let d = after_turn c p r disk (part (begin r)) in
      record { content = content-same c d same old.content; acts = acts-same c d same (quiet-numbers c p r disk (part (begin r)) quiet (makes (begin r)) node) old.acts_numbered }
  up r disk node (inl creates) =
      let runs : replica_of c.world p ≡ Some r = ap (option_and_then (λ (x : Node). running x.life)) node in
      let state = subst (λ (o : Option Replica). IfSome o (IsStateIn c p (phase_of c.world.group p))) runs (old.mode_fits p) in
      let data_of = subst (λ (o : Option Replica). IfSome o (IsModeData c p)) runs (mode p) in
      let core = subst (λ (o : Option Replica). IfSome o (λ r. IsCore c r.held (greens_of c p))) runs (cores.memory p) in
      let regular = creating-regular c p r (phase_of c.world.group p) state (sound.phase p) creates.0 in
      let there = subst (IsPhase c p (delivered_to c.world.group p)) regular.1 (sound.phase p) in
      let at : CreatesAt c p regular.0 r disk (part (begin r)) = record {
        node = node;
        regular = regular.1;
        number = number-of c p regular.0 there;
        member = there.0;
        id = data_of.id;
        creating = creates.0;
        adds = creates.1;
      } in
      record { content = content-created c p regular.0 r disk (part (begin r)) at old (makes (begin r)) core; acts = acts-created c p regular.0 r disk (part (begin r)) at old (makes (begin r)) core }

  life : (s : Node) (life : NodeState) → s.life ≡ life → s.id ≡ p → node_of c.world p ≡ Some s → BothKept (turning_as c p part life)
  life s (Up r disk) is id e = up r disk (e ∙ ap₂ (λ i l. Some (record { id = i; life = l })) id is) (each r)
  life s (DownLife disk green) is id e = record { content = old.content; acts = old.acts_numbered }

  at : (o : Option Node) → node_of c.world p ≡ o → BothKept (option_map_or (λ s. turning_as c p part s.life) o c)
  at None e = record { content = old.content; acts = old.acts_numbered }
  at (Some s) e = life s s.life refl (eqb-true s.id p (found_passes (λ (s : Node). s.id == p) c.world.nodes s e)) e

pub talk-settles : (c : Chronicle) (p : ℕ) → PhaseSound c → ((q : ℕ) → IfSome (replica_of c.world q) (IsModeData c q)) → OfCores c (IsCore c) → TalkFacts c → TalkFacts (small_step c (Settles p))
unfolding small_step
talk-settles c p sound mode cores old =
    let both = both-kept c p settle sound mode cores old settle-each settle-creates in
    talk-from (turning c p settle) (settles-kept c p sound mode (said-of c old)) both.content both.acts

pub talk-asks : (c : Chronicle) (p : ℕ) (kind : Kind) → PhaseSound c → ((q : ℕ) → IfSome (replica_of c.world q) (IsModeData c q)) → OfCores c (IsCore c) → TalkFacts c → TalkFacts (small_step c (Asks p kind))
unfolding small_step
talk-asks c p kind sound mode cores old =
    let both = both-kept c p (take_request kind) sound mode cores old (ask-each kind) (request-creates kind) in
    talk-from (turning c p (take_request kind)) (asks-kept c p kind sound mode (said-of c old)) both.content both.acts

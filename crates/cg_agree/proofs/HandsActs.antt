-- A place that is handed keeps how actions are numbered, where whoever comes to the end of the plan knows all that some member knew.
use Rattle.std.proofs.Common.{◌≡◌, ℕ, zero, suc, ◌+◌, ◌≤◌, Bool, true, false, not, ◌&&◌, ◌||◌, List, [], ◌∷◌, ◌++◌, Option, Some, None, IfSome, map, filter, filter_map, take, drop, length, refl, sym, ap, ap₂, subst, ◌∙◌, ⊎_elim, arith, append-nil, length-append, eq-eqb, eqb-true, option_and_then, if◌then◌else◌}
use Rattle.std.specs.Prelude.{◌==◌, slice_get}
use Rattle.std.specs.List.{cons_option}
use Rattle.std.proofs.lemmas.Bool.{cases_Bool, cond-true, cond-false, cond_both, and_parts, and_from, false_from_ne_true}
use Rattle.std.proofs.lemmas.List.Elements.{filter_map-append}
use Rattle.std.proofs.lemmas.List.Sums.{fold-append}
use Rattle.cg_base.specs.Cuts.{index_in}
use Rattle.cg_base.specs.Sets.{has, is_within, with_member}
use Rattle.cg_action.specs.declared.action.Action.{Action}
use Rattle.cg_knowledge.specs.Summaries.{senders, gone, remaining}
use Rattle.cg_knowledge.specs.Verdict.{decides}
use Rattle.cg_wire.specs.declared.message.Msg.{Msg}
use Rattle.cg_wire.specs.declared.message.Msg.TheVariants.{Action as ActionMsg, State as StateMsg, GreenItem, RedItem, Cpc}
use Rattle.cg_group.specs.declared.phase.Phase.TheVariants.{Regular}
use Rattle.cg_group.specs.State.{Sent, phase_of, delivered_to}
use Rattle.cg_client.specs.Replica.{Held, State, RegPrim, TransPrim, ExchangeStates, ExchangeActions, Construct, No, Un, NonPrim, Left, Replica, created}
use Rattle.cg_client.specs.Turn.{Turn, begin, go_to}
use Rattle.cg_client.specs.Requests.{is_creating}
use Rattle.cg_client.specs.Install.{install}
use Rattle.cg_client.specs.Marks.{after_first}
use Rattle.cg_states.specs.Construct.{attempt_set, is_announced, construct_with}
use Rattle.cg_queue.specs.Queue.{names_of}
use Rattle.cg_states.specs.ReplicaStep.{on_message}
use Rattle.cg_disk_records.specs.Crash.{Disk}
use Rattle.cg_model.specs.World.{Node, replica_of, running}
use Rattle.cg_model.specs.Chronicle.{Attempt, Chronicle}
use Rattle.cg_model.specs.Looks.{greens_of, attempt_of, members_in, ordered_in, placed_of, waiting_in, said_in}
use Rattle.cg_model.specs.Talk.{Talk, no_talk, talk_of, hears, hears_from, is_full, is_through, is_ended, is_announced as all_announced, may_say, may_go_on, is_legal, act_in, known_up_to, state_in}
use Rattle.cg_model.specs.FactsReplica.{HasModeData, IsInAttempt, IsCore}
use Rattle.cg_model.specs.FactsTalk.{whole_talk, handed_talk, of_creator, count_behind, AreOnTheWay, AreNumbered, AreNumberedAt, ActsNumbered, TalkFacts}
use Rattle.cg_agree_lemmas.specs.ActsOrdered.{heard-ended}
use Rattle.cg_agree_lemmas.specs.ActsSaid.{handed-parts, handed-heard, handed-ended}
use Rattle.cg_agree_lemmas.specs.ActsWay.{later_acts, said-split, way-later, row-at, created-count, acts-split, drop-behind}
use Rattle.cg_agree_lemmas.specs.DeliveriesSay.{silent-on_message}
use Rattle.cg_agree_lemmas.specs.HandMarks.{one_of, raised-next, counted-next, red-taken, green-taken, made-so, after-own, after-other, own-install}
use Rattle.cg_agree_lemmas.specs.HandSays.{remains-unless_gone}
use Rattle.cg_agree_lemmas.specs.HandsTalk.{SaidFacts, HandsAt, now, behind, fits, turns, state-is, kept, next-talk, regular-in}
use Rattle.cg_agree_lemmas.specs.HeldMarks.{IsOneself, rising-green, rising-red}
use Rattle.cg_agree_lemmas.specs.HeldMessages.{installed-all}
use Rattle.cg_agree_lemmas.specs.NumbersSame.{AreInRow}
use Rattle.cg_agree_lemmas.specs.StatesSaid.{never, left-none, announcing, creating-ended, count-quiet}
use Rattle.cg_agree_lemmas.specs.TalkEarly.{IsEarly, early-legal, early-none, all-member}
use Rattle.cg_agree_lemmas.specs.TalkKept.{said-own, handed-own}
use Rattle.cg_agree_lemmas.specs.TalkSame.{said-of}
use Rattle.cg_agree_lemmas.specs.TurnActs.{acts-turn}
use Rattle.cg_disk_records.specs.Holds.{cut_behind}

-- who comes to the end of the plan by a message knows all that some member knew, and waits for nothing
pub record KnowsAll (set : List ℕ) (p : ℕ) (t : Talk) (h : Held) : Type 0 where
  pub red : is_ended set t ≡ true → has (gone t.heard) p ≡ false → (creator : ℕ) → index_in h.queue.red_cut creator ≡ known_up_to t.heard creator
  pub own : h.own ≡ []

module _ (c : Chronicle) (p conf : ℕ) (r : Replica) (disk : Disk) (s : Sent Msg) (h : HandsAt c p conf r disk s) (old : TalkFacts c)
    (core : IsCore c r.held (greens_of c p)) (mode : HasModeData c r.held (Regular conf) r.state) where
  abbrev said : SaidFacts c
  said = said-of c old

  abbrev set : List ℕ
  set = members_in c conf

  abbrev list : List (Sent Msg)
  list = ordered_in c conf

  abbrev n : ℕ
  n = delivered_to c.world.group p

  abbrev X : Talk
  X = handed_talk c conf p

  abbrev Y : Talk
  Y = hears_from X s.from s.message

  abbrev u : Turn
  u = now c p conf r disk s h said

  abbrev d : Chronicle
  d = behind c p conf r disk s h said

  abbrev rest : List (Sent Msg)
  rest = drop (suc n) list

  rest-is : drop n list ≡ s ∷ rest
  rest-is = dropped list n h.next where
    dropped : (xs : List (Sent Msg)) (k : ℕ) → slice_get xs k ≡ Some s → drop k xs ≡ s ∷ drop (suc k) xs
    dropped [] k e = absurd (let clash : None ≡ Some s = e in cc)
    dropped (x ∷ xs) zero e = let is : x ≡ s = cc in ap (λ y. y ∷ xs) is
    dropped (x ∷ xs) (suc k) e = dropped xs k e

  may : may_say set conf X s.from s.message ≡ true
  may = (and_parts (may_say set conf X s.from s.message) (is_legal set conf (hears X s) rest)
      (ap (is_legal set conf X) (sym rest-is) ∙ (handed-parts c conf old.talk_legal p).1)).0

  early : IsEarly set X
  early = early-legal set conf (take n list) no_talk (early-none set) (handed-parts c conf old.talk_legal p).0

  handed-is : handed_talk d conf p ≡ Y
  handed-is = handed-own c d p conf (suc n) u.sent u.replica (turns c p conf r disk s h said) (fits c p conf r disk s h said) conf
      ∙ next-talk c p conf r disk s h said ∙ fold-append hears no_talk (take n list) (s ∷ [])

  -- nothing of actions is said
  silent : filter_map act_in u.sent ≡ []
  silent = silent-on_message act_in (λ n a. refl) (λ a. refl) (λ i k. refl) r.state s.from s.message (begin r)

  acts-behind : filter_map act_in (said_in c conf p ++ u.sent) ≡ filter_map act_in (said_in c conf p)
  acts-behind = filter_map-append act_in (said_in c conf p) u.sent ∙ ap (λ xs. filter_map act_in (said_in c conf p) ++ xs) silent ∙ append-nil (filter_map act_in (said_in c conf p))

  said-behind : filter_map act_in (said_in d conf p) ≡ filter_map act_in (said_in c conf p)
  said-behind = ap (filter_map act_in) (said-own c d p conf (suc n) u.sent u.replica (turns c p conf r disk s h said) (fits c p conf r disk s h said)) ∙ acts-behind

  row-on : is_ended set (whole_talk c conf) ≡ true → has (remaining (whole_talk c conf).heard) p ≡ true → AreInRow (known_up_to (whole_talk c conf).heard p) (filter_map act_in (said_in c conf p ++ u.sent))
  row-on ended stays = subst (AreInRow (known_up_to (whole_talk c conf).heard p)) (sym acts-behind) (old.acts_numbered.said conf p ended stays)

  numbers : AreNumbered c conf p r.held r.state
  numbers =
      let runs : replica_of c.world p ≡ Some r = ap (option_and_then (λ (x : Node). running x.life)) h.node in
      subst (λ x. AreNumberedAt c p x r) h.regular (subst (λ (o : Option Replica). IfSome o (AreNumberedAt c p (phase_of c.world.group p))) runs (old.acts_numbered.handed p))

  -- ---- who waits for nothing

  nothing-said : is_creating r.state ≡ false → filter_map act_in (said_in c conf p) ≡ []
  nothing-said quiet = (old.sent_iff_due conf p (regular-in c p conf r disk s h said)).actions (ap is_creating (sym (state-is c p conf r disk s h said)) ∙ quiet)

  way-none : is_creating r.state ≡ false → u.replica.held.own ≡ [] → AreOnTheWay d conf p u.replica.held
  way-none quiet none = none ∙ sym (ap (drop (length (of_creator p (handed_talk d conf p).acts))) (said-behind ∙ nothing-said quiet) ∙ drop-none (length (of_creator p (handed_talk d conf p).acts))) where
    drop-none : (k : ℕ) → drop k (let xs : List Action = [] in xs) ≡ []
    drop-none zero = refl
    drop-none (suc k) = refl

  -- ---- a message without an action, in a state that goes on

  quiet-count : act_in s.message ≡ None → is_ended set X ≡ true → (creator : ℕ) → count_behind (handed_talk d conf p) creator ≡ count_behind X creator
  quiet-count none ended creator = ap (λ (t : Talk). count_behind t creator) handed-is
      ∙ count-quiet X s.from s.message none (heard-ended set conf X s.from s.message may ended) creator

  -- what is on the way behind the place
  later-split : (q : ℕ) → filter_map act_in (placed_of q (drop n list) ++ waiting_in c conf q)
      ≡ (if s.from == q then filter_map act_in (s.message ∷ []) else []) ++ filter_map act_in (placed_of q rest ++ waiting_in c conf q)
  later-split q = ap (λ xs. filter_map act_in (placed_of q xs ++ waiting_in c conf q)) rest-is ∙ ⊎_elim
      (λ y.
      let first : placed_of q (s ∷ rest) ≡ s.message ∷ placed_of q rest = ap (map (λ (x : Sent Msg). x.message)) (cond-true (s.from == q) (s ∷ filter (λ x. x.from == q) rest) (filter (λ x. x.from == q) rest) y) in
      ap (λ xs. filter_map act_in (xs ++ waiting_in c conf q)) first ∙ filter_map-append act_in (s.message ∷ []) (placed_of q rest ++ waiting_in c conf q)
      ∙ ap (λ xs. xs ++ filter_map act_in (placed_of q rest ++ waiting_in c conf q)) (sym (cond-true (s.from == q) (filter_map act_in (s.message ∷ [])) [] y)))
      (λ f.
      let first : placed_of q (s ∷ rest) ≡ placed_of q rest = ap (map (λ (x : Sent Msg). x.message)) (cond-false (s.from == q) (s ∷ filter (λ x. x.from == q) rest) (filter (λ x. x.from == q) rest) f) in
      ap (λ xs. filter_map act_in (xs ++ waiting_in c conf q)) first
      ∙ ap (λ xs. xs ++ filter_map act_in (placed_of q rest ++ waiting_in c conf q)) (sym (cond-false (s.from == q) (filter_map act_in (s.message ∷ [])) [] f)))
      (cases_Bool (s.from == q))

  abbrev later' : List Action
  later' = filter_map act_in (placed_of p rest ++ waiting_in c conf p)

  -- what is on the way in the chronicle behind it
  way-behind : u.replica.held.own ≡ later' → AreOnTheWay d conf p u.replica.held
  way-behind own = own ∙ sym (
      ap₂ (λ (t : Talk) xs. drop (length (of_creator p t.acts)) xs)
      (handed-own c d p conf (suc n) u.sent u.replica (turns c p conf r disk s h said) (fits c p conf r disk s h said) conf)
      (said-behind ∙ acts-split c conf old.talk_legal (suc n) p)
      ∙ drop-behind (of_creator p (talk_of (take (suc n) list)).acts) later')

  own-quiet : act_in s.message ≡ None → r.held.own ≡ later_acts c conf p → r.held.own ≡ later'
  own-quiet none own = own ∙ later-split p ∙ ap (λ xs. xs ++ later') (cond_both (s.from == p) (filter_map act_in (s.message ∷ [])) [] (λ xs. xs ≡ [])
      (λ y. ap (λ o. cons_option o []) none) (λ f. refl))

  -- ---- an action

  module _ (a : Action) (is : s.message ≡ ActionMsg a) where
    may-act : (a.id.creator ≡ s.from) × (may_go_on set X s.from ≡ true)
    may-act =
        let m : may_say set conf X s.from (ActionMsg a) ≡ true = ap (may_say set conf X s.from) (sym is) ∙ may in
        let outer = and_parts ((a.id.creator == s.from) && may_go_on set X s.from) (not (decides X.heard) || all_announced X) m in
        let inner = and_parts (a.id.creator == s.from) (may_go_on set X s.from) outer.0 in
        (eqb-true a.id.creator s.from inner.0, inner.1)

    act-ended : is_ended set X ≡ true
    act-ended = (and_parts (is_ended set X) (has (remaining X.heard) s.from) may-act.1).0

    whole-heard : (whole_talk c conf).heard ≡ X.heard
    whole-heard = handed-heard c conf old.talk_legal p act-ended

    -- it is the next of its creator
    numbered : a.id.index ≡ suc (count_behind X a.id.creator)
    numbered =
        let q = s.from in
        let k = known_up_to (whole_talk c conf).heard q in
        let stays : has (remaining (whole_talk c conf).heard) q ≡ true = ap (λ x. has (remaining x) q) whole-heard ∙ (and_parts (is_ended set X) (has (remaining X.heard) q) may-act.1).1 in
        let row = old.acts_numbered.said conf q (handed-ended c conf old.talk_legal p act-ended) stays in
        let here : (if q == q then filter_map act_in (s.message ∷ []) else []) ≡ a ∷ [] =
        cond-true (q == q) (filter_map act_in (s.message ∷ [])) [] (eq-eqb q q refl) ∙ ap (λ m. filter_map act_in (m ∷ [])) is in
        let split = acts-split c conf old.talk_legal n q ∙ ap (λ xs. of_creator q X.acts ++ xs) (later-split q ∙ ap (λ xs. xs ++ filter_map act_in (placed_of q rest ++ waiting_in c conf q)) here) in
        row-at k (of_creator q X.acts) a (filter_map act_in (placed_of q rest ++ waiting_in c conf q)) (subst (AreInRow k) split row)
        ∙ ap (λ x. suc (known_up_to x q + length (of_creator q X.acts))) whole-heard
        ∙ ap (λ x. suc (count_behind X x)) (sym may-act.0)

    count-act : (creator : ℕ) → count_behind (handed_talk d conf p) creator ≡ count_behind X creator + one_of a creator
    count-act creator = ap (λ (t : Talk). count_behind t creator) (handed-is ∙ ap (hears_from X s.from) is) ∙ counted-next X a creator

    -- one that is its own it has made
    made : ((creator : ℕ) → index_in r.held.queue.red_cut creator ≡ count_behind X creator) → r.held.own ≡ later_acts c conf p → a.id.creator ≡ r.held.id → a.id.index ≤ created r.held
    made red own mine =
        let q : a.id.creator ≡ p = mine ∙ h.id in
        let k = known_up_to (whole_talk c conf).heard p in
        let sender : s.from ≡ p = sym may-act.0 ∙ q in
        let stays : has (remaining (whole_talk c conf).heard) p ≡ true =
        ap (λ x. has (remaining x) p) whole-heard ∙ ap (λ x. has (remaining X.heard) x) (sym sender) ∙ (and_parts (is_ended set X) (has (remaining X.heard) s.from) may-act.1).1 in
        let row = subst (AreInRow k) (said-split c conf p old.talk_legal) (old.acts_numbered.said conf p (handed-ended c conf old.talk_legal p act-ended) stays) in
        let count = created-count r.held p k (of_creator p X.acts) (later_acts c conf p) h.id (red p ∙ ap (λ x. known_up_to x p + length (of_creator p X.acts)) (sym whole-heard)) own row in
        let long = length-append (of_creator p X.acts) (later_acts c conf p) in
        let here : later_acts c conf p ≡ a ∷ later' = later-split p ∙ ap (λ xs. xs ++ later') (cond-true (s.from == p) (filter_map act_in (s.message ∷ [])) [] (eq-eqb s.from p sender) ∙ ap (λ m. filter_map act_in (m ∷ [])) is) in
        let some : length (later_acts c conf p) ≡ suc (length later') = ap length here in
        let at : a.id.index ≡ suc (k + length (of_creator p X.acts)) = numbered ∙ ap (λ x. suc (count_behind X x)) q ∙ ap (λ x. suc (known_up_to x p + length (of_creator p X.acts))) (sym whole-heard) in
        omega arith

    own-act : r.held.own ≡ later_acts c conf p → after_first r.held.own a.id ≡ later'
    own-act own = ⊎_elim
        (λ y. ap (λ xs. after_first xs a.id) (own ∙ later-split p ∙ ap (λ xs. xs ++ later') (cond-true (s.from == p) (filter_map act_in (s.message ∷ [])) [] y ∙ ap (λ m. filter_map act_in (m ∷ [])) is)) ∙ after-own a later')
        (λ f. after-other r.held.id r.held.own a.id core.contiguous.mine (λ mine. (let clash : true ≡ false = sym (eq-eqb s.from p (sym may-act.0 ∙ mine ∙ h.id)) ∙ f in cc))
        ∙ own ∙ later-split p ∙ ap (λ xs. xs ++ later') (cond-false (s.from == p) (filter_map act_in (s.message ∷ [])) [] f))
        (cases_Bool (s.from == p))

  -- ---- the states

  oneself : IsOneself c.start r.held (greens_of c p)
  oneself = record { made_of = core.made_of; contiguous = core.contiguous; yellow_closed = core.yellow_closed }

  -- the turn is that of a message in a state
  turn-at : (state : State) (m : Msg) → r.state ≡ state → s.message ≡ m → u ≡ on_message state s.from m (begin r)
  turn-at state m at is = ap₂ (λ x y. on_message x s.from y (begin r)) at is

  from-turn : (v : Turn) → u ≡ v → AreNumbered d conf p v.replica.held v.replica.state → AreNumbered d conf p u.replica.held u.replica.state
  from-turn v e are = subst (λ (x : Turn). AreNumbered d conf p x.replica.held x.replica.state) (sym e) are

  creating-now : is_creating r.state ≡ true → is_ended set X ≡ true
  creating-now creating = creating-ended set conf X p (ap is_creating (sym (state-is c p conf r disk s h said)) ∙ creating)

  -- a message that such a state ignores
  quiet-open : r.state ≡ NonPrim true → AreNumbered c conf p r.held (NonPrim true) → act_in s.message ≡ None → u ≡ begin r → AreNumbered d conf p u.replica.held u.replica.state
  quiet-open at are none same =
      let own = way-later c conf p old.talk_legal r.held are.1 in
      subst (AreNumbered d conf p u.replica.held) (sym (ap (λ (x : Turn). x.replica.state) same ∙ at)) (
        (λ creator. ap (λ (x : Turn). index_in x.replica.held.queue.red_cut creator) same ∙ are.0 creator ∙ sym (quiet-count none (creating-now (ap is_creating at)) creator)),
        way-behind (ap (λ (x : Turn). x.replica.held.own) same ∙ own-quiet none own),
      )

  quiet-prim : r.state ≡ RegPrim → AreNumbered c conf p r.held RegPrim → act_in s.message ≡ None → u ≡ begin r → AreNumbered d conf p u.replica.held u.replica.state
  quiet-prim at are none same =
      let own = way-later c conf p old.talk_legal r.held are.2 in
      subst (AreNumbered d conf p u.replica.held) (sym (ap (λ (x : Turn). x.replica.state) same ∙ at)) (
        (λ creator. ap (λ (x : Turn). index_in x.replica.held.queue.green_cut creator) same ∙ are.0 creator ∙ sym (quiet-count none (creating-now (ap is_creating at)) creator)),
        ap (λ (x : Turn). x.replica.held.queue.reds) same ∙ are.1,
        way-behind (ap (λ (x : Turn). x.replica.held.own) same ∙ own-quiet none own),
      )

  no-act : (m : Msg) → s.message ≡ m → act_in m ≡ None → act_in s.message ≡ None
  no-act m is none = ap act_in is ∙ none

  in-open : r.state ≡ NonPrim true → AreNumbered c conf p r.held (NonPrim true) → (m : Msg) → s.message ≡ m → AreNumbered d conf p u.replica.held u.replica.state
  unfolding on_message
  in-open at are (ActionMsg a) is =
      let own = way-later c conf p old.talk_legal r.held are.1 in
      let next : a.id.index ≡ suc (index_in r.held.queue.red_cut a.id.creator) = numbered a is ∙ ap suc (sym (are.0 a.id.creator)) in
      let taken = red-taken (begin r) a (made-so r.held a (made a is are.0 own)) next in
      let same = turn-at (NonPrim true) (ActionMsg a) at is in
      let rising = rising-red c.start r.held (greens_of c p) oneself in
      subst (AreNumbered d conf p u.replica.held) (sym (ap (λ (x : Turn). x.replica.state) same ∙ taken.state ∙ at)) (
        (λ creator. ap (λ (x : Turn). index_in x.replica.held.queue.red_cut creator) same ∙ ap (λ cut. index_in cut creator) taken.red ∙ raised-next r.held.queue.red_cut a rising next creator
            ∙ ap (λ x. x + one_of a creator) (are.0 creator) ∙ sym (count-act a is creator)),
        way-behind (ap (λ (x : Turn). x.replica.held.own) same ∙ taken.own ∙ own-act a is own),
      )
  in-open at are (StateMsg x) is = quiet-open at are (no-act (StateMsg x) is refl) (turn-at (NonPrim true) (StateMsg x) at is)
  in-open at are (GreenItem k a) is = quiet-open at are (no-act (GreenItem k a) is refl) (turn-at (NonPrim true) (GreenItem k a) at is)
  in-open at are (RedItem a) is = quiet-open at are (no-act (RedItem a) is refl) (turn-at (NonPrim true) (RedItem a) at is)
  in-open at are (Cpc i k) is = quiet-open at are (no-act (Cpc i k) is refl) (turn-at (NonPrim true) (Cpc i k) at is)

  in-prim : r.state ≡ RegPrim → AreNumbered c conf p r.held RegPrim → (m : Msg) → s.message ≡ m → AreNumbered d conf p u.replica.held u.replica.state
  unfolding on_message
  in-prim at are (ActionMsg a) is =
      let own = way-later c conf p old.talk_legal r.held are.2 in
      let red : (creator : ℕ) → index_in r.held.queue.red_cut creator ≡ count_behind X creator =
      λ creator. ap (λ cut. index_in cut creator) (core.made_of.red_cut ∙ ap (λ xs. cut_behind r.held.queue.green_cut (names_of xs)) are.1) ∙ are.0 creator in
      let next : a.id.index ≡ suc (index_in r.held.queue.green_cut a.id.creator) = numbered a is ∙ ap suc (sym (are.0 a.id.creator)) in
      let taken = green-taken (begin r) a (made-so r.held a (made a is red own)) next in
      let same = turn-at RegPrim (ActionMsg a) at is in
      let rising = rising-green c.start r.held (greens_of c p) oneself in
      subst (AreNumbered d conf p u.replica.held) (sym (ap (λ (x : Turn). x.replica.state) same ∙ taken.state ∙ at)) (
        (λ creator. ap (λ (x : Turn). index_in x.replica.held.queue.green_cut creator) same ∙ ap (λ cut. index_in cut creator) taken.green ∙ raised-next r.held.queue.green_cut a rising next creator
            ∙ ap (λ x. x + one_of a creator) (are.0 creator) ∙ sym (count-act a is creator)),
        ap (λ (x : Turn). x.replica.held.queue.reds) same ∙ taken.reds are.1,
        way-behind (ap (λ (x : Turn). x.replica.held.own) same ∙ taken.own ∙ own-act a is own),
      )
  in-prim at are (StateMsg x) is = quiet-prim at are (no-act (StateMsg x) is refl) (turn-at RegPrim (StateMsg x) at is)
  in-prim at are (GreenItem k a) is = quiet-prim at are (no-act (GreenItem k a) is refl) (turn-at RegPrim (GreenItem k a) at is)
  in-prim at are (RedItem a) is = quiet-prim at are (no-act (RedItem a) is refl) (turn-at RegPrim (RedItem a) at is)
  in-prim at are (Cpc i k) is = quiet-prim at are (no-act (Cpc i k) is refl) (turn-at RegPrim (Cpc i k) at is)

  -- ---- an attempt is announced

  no-own : (k : ℕ) (heard : List ℕ) → HasModeData c r.held (Regular conf) (Construct k heard) → r.held.own ≡ []
  no-own k heard data_of = of-attempt (attempt_of c conf) data_of where
    of-attempt : (o : Option Attempt) → IsInAttempt r.held o → r.held.own ≡ []
    of-attempt None none = absurd none
    of-attempt (Some x) is = is.2

  quiet-announced : (k : ℕ) (heard : List ℕ) → r.state ≡ Construct k heard → AreNumbered c conf p r.held (Construct k heard) → act_in s.message ≡ None → u ≡ begin r → AreNumbered d conf p u.replica.held u.replica.state
  quiet-announced k heard at are none same =
      let ended = (announcing set conf X p k heard (sym (state-is c p conf r disk s h said) ∙ at)).ended in
      subst (AreNumbered d conf p u.replica.held) (sym (ap (λ (x : Turn). x.replica.state) same ∙ at))
      (λ creator. ap (λ (x : Turn). index_in x.replica.held.queue.red_cut creator) same ∙ are creator ∙ sym (quiet-count none ended creator))

  -- the last announcement installs the attempt: all that is known is green
  announced-turn : (k : ℕ) (heard all : List ℕ) → r.state ≡ Construct k heard → AreNumbered c conf p r.held (Construct k heard) → act_in s.message ≡ None → r.held.own ≡ [] →
      u ≡ construct_with (begin r) k all → AreNumbered d conf p u.replica.held u.replica.state
  announced-turn k heard all at are none own same =
      let ended = (announcing set conf X p k heard (sym (state-is c p conf r disk s h said) ∙ at)).ended in
      ⊎_elim
      (λ y.
      let is : u ≡ go_to (install (begin r)) RegPrim = same ∙ cond-true (is_within (attempt_set r.held) all) (go_to (install (begin r)) RegPrim) (go_to (begin r) (Construct k all)) y in
      let installed = installed-all c.start (greens_of c p) (begin r) oneself in
      subst (AreNumbered d conf p u.replica.held) (sym (ap (λ (x : Turn). x.replica.state) is)) (
        (λ creator. ap (λ (x : Turn). index_in x.replica.held.queue.green_cut creator) is ∙ ap (λ cut. index_in cut creator) installed.green_cut ∙ are creator ∙ sym (quiet-count none ended creator)),
        ap (λ (x : Turn). x.replica.held.queue.reds) is ∙ installed.reds,
        way-none (ap is_creating at) (ap (λ (x : Turn). x.replica.held.own) is ∙ own-install (begin r) own),
      ))
      (λ f.
      let is : u ≡ go_to (begin r) (Construct k all) = same ∙ cond-false (is_within (attempt_set r.held) all) (go_to (install (begin r)) RegPrim) (go_to (begin r) (Construct k all)) f in
      subst (AreNumbered d conf p u.replica.held) (sym (ap (λ (x : Turn). x.replica.state) is))
      (λ creator. ap (λ (x : Turn). index_in x.replica.held.queue.red_cut creator) is ∙ are creator ∙ sym (quiet-count none ended creator)))
      (cases_Bool (is_within (attempt_set r.held) all))

  in-announced : (k : ℕ) (heard : List ℕ) → r.state ≡ Construct k heard → AreNumbered c conf p r.held (Construct k heard) → HasModeData c r.held (Regular conf) (Construct k heard) →
      (m : Msg) → s.message ≡ m → AreNumbered d conf p u.replica.held u.replica.state
  unfolding on_message
  in-announced k heard at are data_of (ActionMsg a) is =
      let yet = announcing set conf X p k heard (sym (state-is c p conf r disk s h said) ∙ at) in
      let m : may_say set conf X s.from (ActionMsg a) ≡ true = ap (may_say set conf X s.from) (sym is) ∙ may in
      let told = (and_parts ((a.id.creator == s.from) && may_go_on set X s.from) (not (decides X.heard) || all_announced X) m).1 in
      absurd (let clash : true ≡ false = sym told ∙ ap₂ (λ x y. not x || y) yet.decided yet.few in cc)
  in-announced k heard at are data_of (Cpc i of_conf) is =
      let same = turn-at (Construct k heard) (Cpc i of_conf) at is in
      let all = with_member heard s.from in
      ⊎_elim
      (λ y. announced-turn k heard all at are (no-act (Cpc i of_conf) is refl) (no-own k heard data_of) (same ∙ cond-true (is_announced r.held k s.from i of_conf) (construct_with (begin r) k all) (begin r) y))
      (λ f. quiet-announced k heard at are (no-act (Cpc i of_conf) is refl) (same ∙ cond-false (is_announced r.held k s.from i of_conf) (construct_with (begin r) k all) (begin r) f))
      (cases_Bool (is_announced r.held k s.from i of_conf))
  in-announced k heard at are data_of (StateMsg x) is = quiet-announced k heard at are (no-act (StateMsg x) is refl) (turn-at (Construct k heard) (StateMsg x) at is)
  in-announced k heard at are data_of (GreenItem l a) is = quiet-announced k heard at are (no-act (GreenItem l a) is refl) (turn-at (Construct k heard) (GreenItem l a) at is)
  in-announced k heard at are data_of (RedItem a) is = quiet-announced k heard at are (no-act (RedItem a) is refl) (turn-at (Construct k heard) (RedItem a) at is)

  -- ---- the exchange, up to the end of its plan

  -- before the end no action is said
  no-acts-yet : is_ended set X ≡ false → X.acts ≡ []
  no-acts-yet yet = (early.quiet yet).1

  still-none : is_ended set X ≡ false → Y.acts ≡ []
  still-none yet = at s.message refl where
    at : (m : Msg) → s.message ≡ m → (hears_from X s.from m).acts ≡ []
    at (ActionMsg a) is = absurd (let clash : true ≡ false = sym (act-ended a is) ∙ yet in cc)
    at (StateMsg x) is = no-acts-yet yet
    at (GreenItem k a) is = no-acts-yet yet
    at (RedItem a) is = no-acts-yet yet
    at (Cpc i k) is = no-acts-yet yet

  abbrev KnowsNow : Type 0
  KnowsNow = is_ended set X ≡ false → KnowsAll set p Y u.replica.held

  in-exchange : KnowsNow → is_ended set X ≡ false → is_creating r.state ≡ false → AreNumbered d conf p u.replica.held u.replica.state
  in-exchange knows yet quiet = subst (AreNumbered d conf p u.replica.held) (sym ((kept c p conf r disk s h said).state ∙ ap (λ t. state_in set conf t p) last))
      (at (is_full set Y) (is_through Y) (has (gone Y.heard) p) (decides Y.heard) (all_announced Y) refl refl refl refl refl) where
        last : talk_of (take n list ++ s ∷ []) ≡ Y
        last = fold-append hears no_talk (take n list) (s ∷ [])

        all : KnowsAll set p Y u.replica.held
        all = knows yet

        counts : (creator : ℕ) → count_behind (handed_talk d conf p) creator ≡ known_up_to Y.heard creator
        counts creator = ap (λ (t : Talk). count_behind t creator) handed-is ∙ ap (λ xs. known_up_to Y.heard creator + length (of_creator creator xs)) (still-none yet) ∙ omega arith

        red : is_full set Y ≡ true → is_through Y ≡ true → has (gone Y.heard) p ≡ false → (creator : ℕ) → index_in u.replica.held.queue.red_cut creator ≡ count_behind (handed_talk d conf p) creator
        red full through stays creator = all.red (and_from (is_full set Y) (is_through Y) full through) stays creator ∙ sym (counts creator)

        -- nobody has announced anything before it
        few : is_full set Y ≡ true → is_through Y ≡ true → has (gone Y.heard) p ≡ false → all_announced Y ≡ true → ⊥
        few full through stays told =
            let none : Y.announced ≡ [] = announced-none s.message refl in
            let remains : has (remaining Y.heard) p ≡ true = remains-unless_gone Y.heard p
            (all-member (has (senders Y.heard)) set p h.member full) ∙ ap not stays in
            let clash : false ≡ true = all-member (has []) (remaining Y.heard) p remains (ap (λ xs. is_within (remaining Y.heard) xs) (sym none) ∙ told) in cc where
              announced-none : (m : Msg) → s.message ≡ m → (hears_from X s.from m).announced ≡ []
              announced-none (Cpc i k) is =
                  let m : may_say set conf X s.from (Cpc i k) ≡ true = ap (may_say set conf X s.from) (sym is) ∙ may in
                  let one = and_parts ((((i == s.from) && (k == conf)) && may_go_on set X s.from) && decides X.heard) (not (has X.announced s.from)) m in
                  let two = and_parts (((i == s.from) && (k == conf)) && may_go_on set X s.from) (decides X.heard) one.0 in
                  let three = and_parts ((i == s.from) && (k == conf)) (may_go_on set X s.from) two.0 in
                  absurd (let clash : true ≡ false = sym (and_parts (is_ended set X) (has (remaining X.heard) s.from) three.1).0 ∙ yet in cc)
              announced-none (ActionMsg a) is = (early.quiet yet).0
              announced-none (StateMsg x) is = (early.quiet yet).0
              announced-none (GreenItem k a) is = (early.quiet yet).0
              announced-none (RedItem a) is = (early.quiet yet).0

        at : (full through left decided told : Bool) → is_full set Y ≡ full → is_through Y ≡ through → has (gone Y.heard) p ≡ left → decides Y.heard ≡ decided → all_announced Y ≡ told →
            AreNumbered d conf p u.replica.held (if not full then ExchangeStates conf set Y.heard else if not through then ExchangeActions conf Y.heard Y.accepted
            else if left then Left else if not decided then NonPrim true else if told then RegPrim else Construct conf Y.announced)
        at false through left decided told a b x y z = tt
        at true false left decided told a b x y z = tt
        at true true true decided told a b x y z = tt
        at true true false false told a b x y z = (red a b x, way-none quiet all.own)
        at true true false true true a b x y z = absurd (few a b x z)
        at true true false true false a b x y z = red a b x

  -- ---- all of them

  pub hands-acts : KnowsNow → ActsNumbered d
  hands-acts knows = acts-turn c d p conf (suc n) u.sent u.replica (turns c p conf r disk s h said) (fits c p conf r disk s h said) row-on
      (at r.state refl numbers mode) old.acts_numbered where
        early-state : (yet : is_creating r.state ≡ false) → ((at : ℕ) (heard : List ℕ) → r.state ≡ Construct at heard → ⊥) → (r.state ≡ Left → ⊥) → is_ended set X ≡ false
        early-state quiet not-announcing not-left = false_from_ne_true (is_ended set X) (λ ended.
            let parts = and_parts (is_full set X) (is_through X) ended in
            behind-end (has (gone X.heard) p) (decides X.heard) (all_announced X) parts.0 parts.1 refl refl refl quiet not-announcing not-left) where
              behind-end : (left decided told : Bool) → is_full set X ≡ true → is_through X ≡ true → has (gone X.heard) p ≡ left → decides X.heard ≡ decided → all_announced X ≡ told →
                  is_creating r.state ≡ false → ((at : ℕ) (heard : List ℕ) → r.state ≡ Construct at heard → ⊥) → (r.state ≡ Left → ⊥) → ⊥
              behind-end left decided told full through a b x quiet not-announcing not-left = by left decided told (state-is c p conf r disk s h said ∙ opened left decided told full through a b x) where
                opened : (left decided told : Bool) → is_full set X ≡ true → is_through X ≡ true → has (gone X.heard) p ≡ left → decides X.heard ≡ decided → all_announced X ≡ told →
                    state_in set conf X p ≡ (if left then Left else if not decided then NonPrim true else if told then RegPrim else Construct conf X.announced)
                opened left decided told full through a b x = rw (full, through, a, b, x) refl

                by : (left decided told : Bool) → r.state ≡ (if left then Left else if not decided then NonPrim true else if told then RegPrim else Construct conf X.announced) → ⊥
                by true decided told e = not-left e
                by false false told e = let clash : false ≡ true = sym quiet ∙ ap is_creating e in cc
                by false true true e = let clash : false ≡ true = sym quiet ∙ ap is_creating e in cc
                by false true false e = not-announcing conf X.announced e

        at : (state : State) → r.state ≡ state → AreNumbered c conf p r.held state → HasModeData c r.held (Regular conf) state → AreNumbered d conf p u.replica.held u.replica.state
        at RegPrim is are data_of = in-prim is are s.message refl
        at (NonPrim true) is are data_of = in-open is are s.message refl
        at (Construct k heard) is are data_of = in-announced k heard is are data_of s.message refl
        at (ExchangeStates k members heard) is are data_of =
            let quiet = ap is_creating is in
            in-exchange knows (early-state quiet (λ j x e. (let clash : ExchangeStates k members heard ≡ Construct j x = sym is ∙ e in cc)) (λ e. (let clash : ExchangeStates k members heard ≡ Left = sym is ∙ e in cc))) quiet
        at (ExchangeActions k heard m) is are data_of =
            let quiet = ap is_creating is in
            in-exchange knows (early-state quiet (λ j x e. (let clash : ExchangeActions k heard m ≡ Construct j x = sym is ∙ e in cc)) (λ e. (let clash : ExchangeActions k heard m ≡ Left = sym is ∙ e in cc))) quiet
        at Left is are data_of = from-turn (begin r) (ap (λ x. on_message x s.from s.message (begin r)) is ∙ left-none s.from s.message (begin r)) (subst (AreNumbered d conf p r.held) (sym is) tt)
        at (NonPrim false) is are data_of = absurd (never set conf X p (λ x. x ≡ NonPrim false → ⊥) (λ a b x e. (let clash : ExchangeStates a b x ≡ NonPrim false = e in cc)) (λ a x m e. (let clash : ExchangeActions a x m ≡ NonPrim false = e in cc))
            (λ e. (let clash : Left ≡ NonPrim false = e in cc)) (λ e. (let clash : true ≡ false = ap is_creating e in cc)) (λ e. (let clash : RegPrim ≡ NonPrim false = e in cc)) (λ a b e. (let clash : Construct a b ≡ NonPrim false = e in cc)) (sym (state-is c p conf r disk s h said) ∙ is))
        at TransPrim is are data_of = absurd (never set conf X p (λ x. x ≡ TransPrim → ⊥) (λ a b x e. (let clash : ExchangeStates a b x ≡ TransPrim = e in cc)) (λ a x m e. (let clash : ExchangeActions a x m ≡ TransPrim = e in cc))
            (λ e. (let clash : Left ≡ TransPrim = e in cc)) (λ e. (let clash : NonPrim true ≡ TransPrim = e in cc)) (λ e. (let clash : RegPrim ≡ TransPrim = e in cc)) (λ a b e. (let clash : Construct a b ≡ TransPrim = e in cc)) (sym (state-is c p conf r disk s h said) ∙ is))
        at (No k heard) is are data_of = absurd (never set conf X p (λ x. x ≡ No k heard → ⊥) (λ a b x e. (let clash : ExchangeStates a b x ≡ No k heard = e in cc)) (λ a x m e. (let clash : ExchangeActions a x m ≡ No k heard = e in cc))
            (λ e. (let clash : Left ≡ No k heard = e in cc)) (λ e. (let clash : NonPrim true ≡ No k heard = e in cc)) (λ e. (let clash : RegPrim ≡ No k heard = e in cc)) (λ a b e. (let clash : Construct a b ≡ No k heard = e in cc)) (sym (state-is c p conf r disk s h said) ∙ is))
        at Un is are data_of = absurd (never set conf X p (λ x. x ≡ Un → ⊥) (λ a b x e. (let clash : ExchangeStates a b x ≡ Un = e in cc)) (λ a x m e. (let clash : ExchangeActions a x m ≡ Un = e in cc))
            (λ e. (let clash : Left ≡ Un = e in cc)) (λ e. (let clash : NonPrim true ≡ Un = e in cc)) (λ e. (let clash : RegPrim ≡ Un = e in cc)) (λ a b e. (let clash : Construct a b ≡ Un = e in cc)) (sym (state-is c p conf r disk s h said) ∙ is))

-- A place that is handed keeps what is in messages, whatever the member's state.
use Rattle.std.proofs.Common.{◌≡◌, ℕ, zero, suc, Bool, true, false, not, ◌&&◌, List, [], ◌∷◌, ◌++◌, Option, Some, None, IfSome, fold, take, drop, length, refl, sym, ap, subst, ◌∙◌, ⊎_elim, eqb-true, option_map, if◌then◌else◌}
use Rattle.std.specs.Prelude.{◌==◌, slice_get}
use Rattle.std.proofs.lemmas.Bool.{cases_Bool, cond_both, and_parts}
use Rattle.std.proofs.lemmas.List.Sums.{fold-append}
use Rattle.cg_base.specs.Sets.{has, is_within, with_member}
use Rattle.cg_base.specs.FindLaws.{found_passes}
use Rattle.cg_action.specs.declared.action.Action.{Action}
use Rattle.cg_knowledge.specs.declared.summary.Summary.{Summary}
use Rattle.cg_knowledge.specs.Summaries.{gone, senders}
use Rattle.cg_wire.specs.declared.message.Msg.{Msg}
use Rattle.cg_wire.specs.declared.message.Msg.TheVariants.{Action as ActionMsg, State as StateMsg, GreenItem, RedItem, Cpc}
use Rattle.cg_group.specs.State.{Sent, delivered_to}
use Rattle.cg_client.specs.Replica.{State, RegPrim, TransPrim, ExchangeStates, ExchangeActions, Construct, No, Un, NonPrim, Left, Replica}
use Rattle.cg_client.specs.Turn.{Turn, begin, go_to}
use Rattle.cg_client.specs.Install.{install}
use Rattle.cg_knowledge.specs.Verdict.{decides}
use Rattle.cg_states.specs.Construct.{attempt_set, is_announced, construct_with, construct_on_cpc}
use Rattle.cg_states.specs.No.{no_with, no_on_cpc}
use Rattle.cg_states.specs.ExchangeActions.{go_on, is_next, take_item, exchange_actions_on_item}
use Rattle.cg_states.specs.ExchangeStates.{is_usable, with_heard, exchange_states_on_summary}
use Rattle.cg_states.specs.ReplicaStep.{on_message}
use Rattle.cg_disk_records.specs.Crash.{Disk}
use Rattle.cg_model.specs.World.{Node}
use Rattle.cg_model.specs.Attempts.{held_in}
use Rattle.cg_model.specs.Fronts.{Front}
use Rattle.cg_model.specs.Chronicle.{Told, Chronicle}
use Rattle.cg_model.specs.Looks.{told_in, core_of, greens_of, members_in, ordered_in}
use Rattle.cg_model.specs.Talk.{Talk, no_talk, talk_of, hears, hears_from, is_full, is_through, is_announced as all_announced, state_behind, state_in}
use Rattle.cg_model.specs.FactsExchange.{SummaryOfSender, IsSummary, IsOutdone}
use Rattle.cg_model.specs.FactsReplica.{IsCore}
use Rattle.cg_model.specs.FactsTalk.{whole_talk, handed_talk, AreTold, summaries_of, AreContents, Content, TalkFacts}
use Rattle.cg_agree_lemmas.specs.DeliveriesSay.{sent-mark_yellow}
use Rattle.cg_agree_lemmas.specs.FrontFacts.{Front-refl, Front-append, Front-trans}
use Rattle.cg_agree_lemmas.specs.HandState.{kept-mark_red}
use Rattle.cg_agree_lemmas.specs.HandTalk.{sent-mark_red, sent-mark_green, sent-install, sent-mark_item, sent-mark_green_at, id-mark_green_at, id-take_item}
use Rattle.cg_agree_lemmas.specs.HandsKept.{take-drop}
use Rattle.cg_agree_lemmas.specs.HandsContent.{of-go_on}
use Rattle.cg_agree_lemmas.specs.HandsTalk.{SaidFacts, HandsAt, now, behind, fits, turns, state-is}
use Rattle.cg_agree_lemmas.specs.HeldExchange.{keeps-take_item}
use Rattle.cg_agree_lemmas.specs.HeldMarks.{IsOneself}
use Rattle.cg_agree_lemmas.specs.TalkSame.{said-of}
use Rattle.cg_agree_lemmas.specs.TurnActs.{content-turn}

-- ---- states in which nothing is said

abbrev is_exchange : State → Bool
is_exchange (ExchangeStates conf set heard) = true
is_exchange (ExchangeActions conf heard n) = true
is_exchange _ = false

sent-announced : (t : Turn) (conf : ℕ) (heard : List ℕ) (from id k : ℕ) → (construct_on_cpc t conf heard from id k).sent ≡ t.sent
sent-announced t conf heard from id k =
    let all = with_member heard from in
    cond_both (is_announced t.replica.held conf from id k) (construct_with t conf all) t (λ u. u.sent ≡ t.sent)
    (λ y. cond_both (is_within (attempt_set t.replica.held) all) (go_to (install t) RegPrim) (go_to t (Construct conf all)) (λ u. u.sent ≡ t.sent) (λ z. sent-install t) (λ z. refl)) (λ n. refl)

sent-no : (t : Turn) (conf : ℕ) (heard : List ℕ) (from id k : ℕ) → (no_on_cpc t conf heard from id k).sent ≡ t.sent
sent-no t conf heard from id k =
    let all = with_member heard from in
    cond_both (is_announced t.replica.held conf from id k) (no_with t conf all) t (λ u. u.sent ≡ t.sent)
    (λ y. cond_both (is_within (attempt_set t.replica.held) all) (go_to t Un) (go_to t (No conf all)) (λ u. u.sent ≡ t.sent) (λ z. refl) (λ z. refl)) (λ n. refl)

sent-other : (state : State) → is_exchange state ≡ false → (from : ℕ) (m : Msg) (t : Turn) → (on_message state from m t).sent ≡ t.sent
unfolding on_message
sent-other RegPrim no' from (ActionMsg a) t = sent-mark_green t a
sent-other RegPrim no' from (StateMsg s) t = refl
sent-other RegPrim no' from (GreenItem at a) t = refl
sent-other RegPrim no' from (RedItem a) t = refl
sent-other RegPrim no' from (Cpc id k) t = refl
sent-other TransPrim no' from (ActionMsg a) t = sent-mark_yellow t a
sent-other TransPrim no' from (StateMsg s) t = refl
sent-other TransPrim no' from (GreenItem at a) t = refl
sent-other TransPrim no' from (RedItem a) t = refl
sent-other TransPrim no' from (Cpc id k) t = refl
sent-other (ExchangeStates conf set heard) no' from (ActionMsg a) t = absurd (let clash : true ≡ false = no' in cc)
sent-other (ExchangeStates conf set heard) no' from (StateMsg s) t = absurd (let clash : true ≡ false = no' in cc)
sent-other (ExchangeStates conf set heard) no' from (GreenItem at a) t = absurd (let clash : true ≡ false = no' in cc)
sent-other (ExchangeStates conf set heard) no' from (RedItem a) t = absurd (let clash : true ≡ false = no' in cc)
sent-other (ExchangeStates conf set heard) no' from (Cpc id k) t = absurd (let clash : true ≡ false = no' in cc)
sent-other (ExchangeActions conf summaries accepted) no' from (ActionMsg a) t = absurd (let clash : true ≡ false = no' in cc)
sent-other (ExchangeActions conf summaries accepted) no' from (StateMsg s) t = absurd (let clash : true ≡ false = no' in cc)
sent-other (ExchangeActions conf summaries accepted) no' from (GreenItem at a) t = absurd (let clash : true ≡ false = no' in cc)
sent-other (ExchangeActions conf summaries accepted) no' from (RedItem a) t = absurd (let clash : true ≡ false = no' in cc)
sent-other (ExchangeActions conf summaries accepted) no' from (Cpc id k) t = absurd (let clash : true ≡ false = no' in cc)
sent-other (Construct conf heard) no' from (ActionMsg a) t = refl
sent-other (Construct conf heard) no' from (StateMsg s) t = refl
sent-other (Construct conf heard) no' from (GreenItem at a) t = refl
sent-other (Construct conf heard) no' from (RedItem a) t = refl
sent-other (Construct conf heard) no' from (Cpc id k) t = sent-announced t conf heard from id k
sent-other (No conf heard) no' from (ActionMsg a) t = refl
sent-other (No conf heard) no' from (StateMsg s) t = refl
sent-other (No conf heard) no' from (GreenItem at a) t = refl
sent-other (No conf heard) no' from (RedItem a) t = refl
sent-other (No conf heard) no' from (Cpc id k) t = sent-no t conf heard from id k
sent-other Un no' from (ActionMsg a) t = sent-mark_yellow (install t) a ∙ sent-install t
sent-other Un no' from (StateMsg s) t = refl
sent-other Un no' from (GreenItem at a) t = refl
sent-other Un no' from (RedItem a) t = refl
sent-other Un no' from (Cpc id k) t = refl
sent-other (NonPrim regular) no' from (ActionMsg a) t = sent-mark_red t a
sent-other (NonPrim regular) no' from (StateMsg s) t = refl
sent-other (NonPrim regular) no' from (GreenItem at a) t = refl
sent-other (NonPrim regular) no' from (RedItem a) t = refl
sent-other (NonPrim regular) no' from (Cpc id k) t = refl
sent-other Left no' from (ActionMsg a) t = refl
sent-other Left no' from (StateMsg s) t = refl
sent-other Left no' from (GreenItem at a) t = refl
sent-other Left no' from (RedItem a) t = refl
sent-other Left no' from (Cpc id k) t = refl

-- a summary, and an item, in an exchange
told-sent : (greens : List Action) (conf : ℕ) (set : List ℕ) (heard : List Summary) (from : ℕ) (m : Msg) (r : Replica) →
    ((x : Summary) → m ≡ StateMsg x → AreContents greens (exchange_states_on_summary (begin r) conf set heard from x).sent) → AreContents greens (on_message (ExchangeStates conf set heard) from m (begin r)).sent
unfolding on_message
told-sent greens conf set heard from (StateMsg x) r each = each x refl
told-sent greens conf set heard from (ActionMsg a) r each = tt
told-sent greens conf set heard from (GreenItem at a) r each = tt
told-sent greens conf set heard from (RedItem a) r each = tt
told-sent greens conf set heard from (Cpc i k) r each = tt

item-sent : (greens : List Action) (conf : ℕ) (heard : List Summary) (n from : ℕ) (m : Msg) (r : Replica) →
    ((m : Msg) → (take_item (begin r) heard m).sent ≡ [] → (take_item (begin r) heard m).replica.held.id ≡ r.held.id → AreContents greens (exchange_actions_on_item (begin r) conf heard n from m).sent) →
    AreContents greens (on_message (ExchangeActions conf heard n) from m (begin r)).sent
unfolding on_message
item-sent greens conf heard n from (GreenItem at a) r each =
    each (GreenItem at a) (sent-mark_item (begin r) heard (GreenItem at a) (sent-mark_green_at (begin r) at a)) (id-take_item (begin r) heard (GreenItem at a) (id-mark_green_at (begin r) at a))
item-sent greens conf heard n from (RedItem a) r each =
    each (RedItem a) (sent-mark_item (begin r) heard (RedItem a) (sent-mark_red (begin r) a)) (id-take_item (begin r) heard (RedItem a) (kept-mark_red (begin r) a).id)
item-sent greens conf heard n from (ActionMsg a) r each = tt
item-sent greens conf heard n from (StateMsg x) r each = tt
item-sent greens conf heard n from (Cpc i k) r each = tt

-- behind the end of the plan
not-exchange : (conf : ℕ) (t : Talk) (me : ℕ) → is_exchange (state_behind conf t me) ≡ false
not-exchange conf t me =
    cond_both (has (gone t.heard) me) Left (if not (decides t.heard) then NonPrim true else if all_announced t then RegPrim else Construct conf t.announced) (λ x. is_exchange x ≡ false) (λ y. refl)
    (λ n. cond_both (not (decides t.heard)) (NonPrim true) (if all_announced t then RegPrim else Construct conf t.announced) (λ x. is_exchange x ≡ false) (λ y. refl)
    (λ z. cond_both (all_announced t) RegPrim (Construct conf t.announced) (λ x. is_exchange x ≡ false) (λ y. refl) (λ w. refl)))

-- ---- summaries that were heard

pub front-told : (c : Chronicle) (conf : ℕ) (xs ys : List Summary) → Front xs ys → AreTold c conf ys → AreTold c conf xs
front-told c conf [] ys front are = tt
front-told c conf (x ∷ xs) [] front are = absurd front
front-told c conf (x ∷ xs) (y ∷ ys) front are =
    (subst (λ z. summaries_of (told_in c conf z.id) ≡ z ∷ []) (sym front.0) are.0, front-told c conf xs ys front.1 are.1)

pub heard-more : (list : List (Sent Msg)) (t : Talk) → Front t.heard (fold hears t list).heard
heard-more [] t = Front-refl t.heard
heard-more (s ∷ list) t = Front-trans t.heard (hears t s).heard (fold hears (hears t s) list).heard (one s.from s.message) (heard-more list (hears t s)) where
  one : (from : ℕ) (m : Msg) → Front t.heard (hears_from t from m).heard
  one from (StateMsg x) = Front-append t.heard (x ∷ [])
  one from (GreenItem at a) = Front-refl t.heard
  one from (RedItem a) = Front-refl t.heard
  one from (Cpc i k) = Front-refl t.heard
  one from (ActionMsg a) = Front-refl t.heard

-- ---- the member

module _ (c : Chronicle) (p conf : ℕ) (r : Replica) (disk : Disk) (s : Sent Msg) (h : HandsAt c p conf r disk s) (old : TalkFacts c)
    (core : IsCore c r.held (greens_of c p)) (summaries : SummaryOfSender c) where
  abbrev said : SaidFacts c
  said = said-of c old

  abbrev set : List ℕ
  set = members_in c conf

  abbrev list : List (Sent Msg)
  list = ordered_in c conf

  abbrev n : ℕ
  n = delivered_to c.world.group p

  abbrev X : Talk
  X = handed_talk c conf p

  abbrev Y : Talk
  Y = hears_from X s.from s.message

  abbrev u : Turn
  u = now c p conf r disk s h said

  told-behind : AreTold c conf Y.heard
  told-behind = front-told c conf Y.heard (whole_talk c conf).heard
      (subst (λ (t : Talk). Front Y.heard t.heard) (sym whole) (heard-more (drop (suc n) list) Y)) (old.heard_is_told conf) where
        rest : drop n list ≡ s ∷ drop (suc n) list
        rest = dropped list n h.next where
          dropped : (xs : List (Sent Msg)) (k : ℕ) → slice_get xs k ≡ Some s → drop k xs ≡ s ∷ drop (suc k) xs
          dropped [] k e = absurd (let clash : None ≡ Some s = e in cc)
          dropped (x ∷ xs) zero e = let is : x ≡ s = cc in ap (λ y. y ∷ xs) is
          dropped (x ∷ xs) (suc k) e = dropped xs k e

        whole : whole_talk c conf ≡ fold hears Y (drop (suc n) list)
        whole = ap talk_of (sym (take-drop list n)) ∙ fold-append hears no_talk (take n list) (drop n list) ∙ ap (fold hears X) rest

  told-before : AreTold c conf X.heard
  told-before = front-told c conf X.heard Y.heard (heard-more (s ∷ []) X) told-behind

  oneself : IsOneself c.start r.held (greens_of c p)
  oneself = record { made_of = core.made_of; contiguous = core.contiguous; yellow_closed = core.yellow_closed }

  module _ (t : Told) (found : told_in c conf p ≡ Some t) where
    count : t.summary.green_count ≡ length t.greens
    count = (subst (λ o. IfSome o (IsSummary c)) found (summaries.fits conf p)).count

    named : t.summary.id ≡ p
    named = eqb-true t.summary.id p (and_parts (t.summary.conf == conf) (t.summary.id == p) (found_passes (λ (t : Told). (t.summary.conf == conf) && (t.summary.id == p)) c.told t found)).1

    front : Front t.greens (greens_of c p)
    front =
        let runs : core_of c p ≡ Some r.held = ap (λ (o : Option Node). option_map (λ s. held_in s.life) o) h.node in
        let outdone = subst (λ o. IfSome o (λ t. IfSome (core_of c p) (IsOutdone c t))) found (summaries.outdone conf p) in
        subst (λ x. Front t.greens (greens_of c x)) named (subst (λ o. IfSome o (IsOutdone c t)) runs outdone).greens

    mine : told_in c conf r.held.id ≡ Some t
    mine = ap (told_in c conf) h.id ∙ found

    -- a summary may be the last one
    with-summary : (x : Summary) → s.message ≡ StateMsg x → AreContents t.greens (exchange_states_on_summary (begin r) conf set X.heard s.from x).sent
    with-summary x is =
        let heard = X.heard ++ x ∷ [] in
        let are : AreTold c conf heard = subst (λ m. AreTold c conf (hears_from X s.from m).heard) is told-behind in
        cond_both (is_usable conf X.heard s.from x) (with_heard (begin r) conf set heard) (begin r) (λ v. AreContents t.greens v.sent)
        (λ y. cond_both (is_within set (senders heard)) (go_on (begin r) conf heard 0) (go_to (begin r) (ExchangeStates conf set heard)) (λ v. AreContents t.greens v.sent)
        (λ z. of-go_on c conf conf t (begin r) (greens_of c p) heard 0 core.made_of front mine count are refl) (λ z. tt))
        (λ f. tt)

    -- an item may be the last one of a part
    with-item : (m : Msg) → (take_item (begin r) X.heard m).sent ≡ [] → (take_item (begin r) X.heard m).replica.held.id ≡ r.held.id →
        AreContents t.greens (exchange_actions_on_item (begin r) conf X.heard X.accepted s.from m).sent
    with-item m none id =
        let v = take_item (begin r) X.heard m in
        let grows = keeps-take_item X.heard m c.start (greens_of c p) (begin r) oneself in
        cond_both (is_next X.heard X.accepted s.from m) (go_on v conf X.heard (suc X.accepted)) (begin r) (λ v. AreContents t.greens v.sent)
        (λ y. of-go_on c conf conf t v (greens_of c p ++ grows.more) X.heard (suc X.accepted) grows.is.made_of
        (Front-trans t.greens (greens_of c p) (greens_of c p ++ grows.more) front (Front-append (greens_of c p) grows.more)) (ap (told_in c conf) id ∙ mine) count told-before none)
        (λ f. tt)

    in-state : (state : State) → r.state ≡ state → state_in set conf X p ≡ state → AreContents t.greens u.sent
    in-state state at as_talk = ⊎_elim
        (λ y. exchanging (is_full set X) (is_through X) refl refl)
        (λ other. subst (AreContents t.greens) (sym (ap (λ x. (on_message x s.from s.message (begin r)).sent) at ∙ sent-other state other s.from s.message (begin r))) tt)
        (cases_Bool (is_exchange state)) where
          by-turn : (x : State) → r.state ≡ x → AreContents t.greens (on_message x s.from s.message (begin r)).sent → AreContents t.greens u.sent
          by-turn x is are = subst (λ y. AreContents t.greens (on_message y s.from s.message (begin r)).sent) (sym is) are

          exchanging : (full through : Bool) → is_full set X ≡ full → is_through X ≡ through → AreContents t.greens u.sent
          exchanging false through a b = by-turn (ExchangeStates conf set X.heard) (state-is c p conf r disk s h said ∙ at-first a) (first-sent s.message refl) where
            at-first : is_full set X ≡ false → state_in set conf X p ≡ ExchangeStates conf set X.heard
            at-first a = rw a refl

            first-sent : (m : Msg) → s.message ≡ m → AreContents t.greens (on_message (ExchangeStates conf set X.heard) s.from s.message (begin r)).sent
            first-sent m is = subst (λ x. AreContents t.greens (on_message (ExchangeStates conf set X.heard) s.from x (begin r)).sent) (sym is) (told-sent t.greens conf set X.heard s.from m r (λ x e. with-summary x (is ∙ e)))
          exchanging true false a b = by-turn (ExchangeActions conf X.heard X.accepted) (state-is c p conf r disk s h said ∙ in-plan a b)
              (item-sent t.greens conf X.heard X.accepted s.from s.message r (λ m none id. with-item m none id)) where
                in-plan : is_full set X ≡ true → is_through X ≡ false → state_in set conf X p ≡ ExchangeActions conf X.heard X.accepted
                in-plan a b = rw (a, b) refl
          exchanging true true a b = by-turn (state_behind conf X p) (state-is c p conf r disk s h said ∙ at-end a b)
              (subst (AreContents t.greens) (sym (sent-other (state_behind conf X p) (not-exchange conf X p) s.from s.message (begin r))) tt) where
                at-end : is_full set X ≡ true → is_through X ≡ true → state_in set conf X p ≡ state_behind conf X p
                at-end a b = rw (a, b) refl

  pub hands-content : Content (behind c p conf r disk s h said)
  hands-content = content-turn c (behind c p conf r disk s h said) p conf (suc n) u.sent u.replica (turns c p conf r disk s h said) (fits c p conf r disk s h said) (at (told_in c conf p) refl) old.content where
    at : (o : Option Told) → told_in c conf p ≡ o → IfSome o (λ t. AreContents t.greens u.sent)
    at None e = tt
    at (Some t) e = in-state t e r.state refl (sym (state-is c p conf r disk s h said))

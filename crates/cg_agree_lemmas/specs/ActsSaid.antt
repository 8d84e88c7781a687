-- The actions in a legal talk: each is its sender's, and none stands in it before the plan is through.
use Rattle.std.proofs.Common.{◌≡◌, ℕ, Bool, true, false, not, ◌&&◌, ◌||◌, List, [], ◌∷◌, ◌++◌, None, map, filter, filter_map, fold, take, drop, refl, sym, ap, ◌∙◌, ⊎_elim, eqb-true, append-nil, if◌then◌else◌}
use Rattle.std.specs.Prelude.{◌==◌}
use Rattle.std.specs.List.{cons_option}
use Rattle.std.proofs.lemmas.Bool.{cases_Bool, cond-true, cond-false, cond_both, and_parts, false_from_ne_true}
use Rattle.std.proofs.lemmas.List.{append_assoc}
use Rattle.std.proofs.lemmas.List.Sums.{fold-append}
use Rattle.cg_action.specs.declared.action.Action.{Action}
use Rattle.cg_knowledge.specs.Verdict.{decides}
use Rattle.cg_wire.specs.declared.message.Msg.{Msg}
use Rattle.cg_wire.specs.declared.message.Msg.TheVariants.{Action as ActionMsg, State as StateMsg, GreenItem, RedItem, Cpc}
use Rattle.cg_group.specs.State.{Sent, delivered_to, unordered_of}
use Rattle.cg_client.specs.Replica.{ExchangeStates, ExchangeActions}
use Rattle.cg_client.specs.Requests.{is_creating}
use Rattle.cg_model.specs.Chronicle.{Chronicle}
use Rattle.cg_model.specs.Looks.{is_regular_in, members_in, ordered_in, placed_of, said_in}
use Rattle.cg_model.specs.Talk.{Talk, no_talk, talk_of, hears, hears_from, is_full, is_through, is_ended, is_announced, may_go_on, may_say, is_legal, state_in, state_behind, act_in, acts_in}
use Rattle.cg_model.specs.FactsTalk.{whole_talk, handed_talk, SentIffDue, TalkLegal, of_creator}
use Rattle.cg_agree_lemmas.specs.HandsKept.{take-drop}
use Rattle.cg_agree_lemmas.specs.SaidSoFar.{rest-through}
use Rattle.cg_agree_lemmas.specs.TalkCommute.{legal-append}
use Rattle.cg_agree_lemmas.specs.TalkEarly.{early-legal, early-none}

-- ---- by whom

-- who may say an action has created it
act-own : (set : List ℕ) (conf : ℕ) (t : Talk) (from : ℕ) (a : Action) → may_say set conf t from (ActionMsg a) ≡ true → a.id.creator ≡ from
act-own set conf t from a may =
    let outer = and_parts ((a.id.creator == from) && may_go_on set t from) (not (decides t.heard) || is_announced t) may in
    eqb-true a.id.creator from (and_parts (a.id.creator == from) (may_go_on set t from) outer.0).0

-- the actions of one creator are those in its messages
pub acts-by : (set : List ℕ) (conf p : ℕ) (list : List (Sent Msg)) (t : Talk) → is_legal set conf t list ≡ true → of_creator p (acts_in list) ≡ filter_map act_in (placed_of p list)
acts-by set conf p [] t legal = refl
acts-by set conf p (s ∷ list) t legal =
    let parts = and_parts (may_say set conf t s.from s.message) (is_legal set conf (hears t s) list) legal in
    let rest = acts-by set conf p list (hears t s) parts.1 in
    at s.from s.message parts.0 rest where
      -- a message without an action
      quiet : (from : ℕ) (m : Msg) → act_in m ≡ None → of_creator p (acts_in list) ≡ filter_map act_in (placed_of p list) →
          of_creator p (acts_in (record { from = from; message = m } ∷ list)) ≡ filter_map act_in (placed_of p (record { from = from; message = m } ∷ list))
      quiet from m none rest =
          ap (λ o. of_creator p (cons_option o (acts_in list))) none ∙ rest ∙ sym (cond_both (from == p) (record { from = from; message = m } ∷ filter (λ s. s.from == p) list) (filter (λ s. s.from == p) list)
          (λ (xs : List (Sent Msg)). filter_map act_in (map (λ s. s.message) xs) ≡ filter_map act_in (placed_of p list))
          (λ y. ap (λ o. cons_option o (filter_map act_in (placed_of p list))) none) (λ n. refl))

      act : (from : ℕ) (a : Action) → a.id.creator ≡ from → of_creator p (acts_in list) ≡ filter_map act_in (placed_of p list) →
          of_creator p (acts_in (record { from = from; message = ActionMsg a } ∷ list)) ≡ filter_map act_in (placed_of p (record { from = from; message = ActionMsg a } ∷ list))
      act from a own rest = ⊎_elim
          (λ y.
          let mine : (a.id.creator == p) ≡ true = ap (λ x. x == p) own ∙ y in
          cond-true (a.id.creator == p) (a ∷ of_creator p (acts_in list)) (of_creator p (acts_in list)) mine ∙ ap (λ xs. a ∷ xs) rest
          ∙ sym (ap (λ (xs : List (Sent Msg)). filter_map act_in (map (λ s. s.message) xs)) (cond-true (from == p) (record { from = from; message = ActionMsg a } ∷ filter (λ s. s.from == p) list) (filter (λ s. s.from == p) list) y)))
          (λ n.
          let other : (a.id.creator == p) ≡ false = ap (λ x. x == p) own ∙ n in
          cond-false (a.id.creator == p) (a ∷ of_creator p (acts_in list)) (of_creator p (acts_in list)) other ∙ rest
          ∙ sym (ap (λ (xs : List (Sent Msg)). filter_map act_in (map (λ s. s.message) xs)) (cond-false (from == p) (record { from = from; message = ActionMsg a } ∷ filter (λ s. s.from == p) list) (filter (λ s. s.from == p) list) n)))
          (cases_Bool (from == p))

      at : (from : ℕ) (m : Msg) → may_say set conf t from m ≡ true → of_creator p (acts_in list) ≡ filter_map act_in (placed_of p list) →
          of_creator p (acts_in (record { from = from; message = m } ∷ list)) ≡ filter_map act_in (placed_of p (record { from = from; message = m } ∷ list))
      at from (ActionMsg a) may rest = act from a (act-own set conf t from a may) rest
      at from (StateMsg s) may rest = quiet from (StateMsg s) refl rest
      at from (GreenItem n a) may rest = quiet from (GreenItem n a) refl rest
      at from (RedItem a) may rest = quiet from (RedItem a) refl rest
      at from (Cpc id k) may rest = quiet from (Cpc id k) refl rest

-- what a talk has heard of actions
pub acts-of : (list : List (Sent Msg)) (t : Talk) → (fold hears t list).acts ≡ t.acts ++ acts_in list
acts-of [] t = sym (append-nil t.acts)
acts-of (s ∷ list) t = acts-of list (hears t s) ∙ at s.from s.message where
  at : (from : ℕ) (m : Msg) → (hears_from t from m).acts ++ acts_in list ≡ t.acts ++ acts_in (record { from = from; message = m } ∷ list)
  at from (ActionMsg a) = append_assoc t.acts (a ∷ []) (acts_in list)
  at from (StateMsg s) = refl
  at from (GreenItem n a) = refl
  at from (RedItem a) = refl
  at from (Cpc id k) = refl

-- ---- when

-- no state of one who hasn't come to the end of the plan creates
pub not-creating : (set : List ℕ) (conf : ℕ) (t : Talk) (me : ℕ) → is_ended set t ≡ false → is_creating (state_in set conf t me) ≡ false
not-creating set conf t me early = at (is_full set t) (is_through t) early where
  at : (full through : Bool) → (full && through) ≡ false → is_creating (if not full then ExchangeStates conf set t.heard else if not through then ExchangeActions conf t.heard t.accepted else state_behind conf t me) ≡ false
  at true true e = absurd (let clash : true ≡ false = e in cc)
  at true false e = refl
  at false through e = refl

-- a talk that has come to its end stays so
pub ended-stays : (set : List ℕ) (conf p : ℕ) (t : Talk) (rest : List (Sent Msg)) → is_ended set t ≡ true → is_legal set conf t rest ≡ true → (fold hears t rest).heard ≡ t.heard
ended-stays set conf p t rest ended legal =
    let parts = and_parts (is_full set t) (is_through t) ended in
    (rest-through set conf p rest t parts.0 parts.1 legal).heard

module _ (c : Chronicle) (k : ℕ) (legal : TalkLegal c) where
  abbrev set : List ℕ
  set = members_in c k

  -- what was handed to a member, and what follows it
  pub handed-parts : (q : ℕ) → (is_legal set k no_talk (take (delivered_to c.world.group q) (ordered_in c k)) ≡ true)
      × (is_legal set k (handed_talk c k q) (drop (delivered_to c.world.group q) (ordered_in c k)) ≡ true)
  handed-parts q =
      let n = delivered_to c.world.group q in
      let list = ordered_in c k in
      and_parts (is_legal set k no_talk (take n list)) (is_legal set k (handed_talk c k q) (drop n list))
      (sym (legal-append set k (take n list) (drop n list) no_talk) ∙ ap (is_legal set k no_talk) (take-drop list n) ∙ legal.ordered k)

  whole-is : (q : ℕ) → whole_talk c k ≡ fold hears (handed_talk c k q) (drop (delivered_to c.world.group q) (ordered_in c k))
  whole-is q =
      let n = delivered_to c.world.group q in
      ap talk_of (sym (take-drop (ordered_in c k) n)) ∙ fold-append hears no_talk (take n (ordered_in c k)) (drop n (ordered_in c k))

  -- where a member was handed the end of the plan, all has come to it, and the summaries are the same
  pub handed-heard : (q : ℕ) → is_ended set (handed_talk c k q) ≡ true → (whole_talk c k).heard ≡ (handed_talk c k q).heard
  handed-heard q ended = ap (λ (t : Talk). t.heard) (whole-is q)
      ∙ ended-stays set k q (handed_talk c k q) (drop (delivered_to c.world.group q) (ordered_in c k)) ended (handed-parts q).1

  pub handed-ended : (q : ℕ) → is_ended set (handed_talk c k q) ≡ true → is_ended set (whole_talk c k) ≡ true
  handed-ended q ended =
      let parts = and_parts (is_full set (handed_talk c k q)) (is_through (handed_talk c k q)) ended in
      let same = rest-through set k q (drop (delivered_to c.world.group q) (ordered_in c k)) (handed_talk c k q) parts.0 parts.1 (handed-parts q).1 in
      ap (is_ended set) (whole-is q) ∙ as-ended (fold hears (handed_talk c k q) (drop (delivered_to c.world.group q) (ordered_in c k))) same.heard same.accepted where
        as-ended : (u : Talk) → u.heard ≡ (handed_talk c k q).heard → u.accepted ≡ (handed_talk c k q).accepted → is_ended set u ≡ true
        as-ended u heard accepted = rw (heard, accepted) ended

  -- before the end of the plan nobody has said an action
  pub no-acts : SentIffDue c → is_ended set (whole_talk c k) ≡ false → (q : ℕ) → filter_map act_in (said_in c k q) ≡ []
  no-acts says early q = ⊎_elim
      (λ regular. (says k q regular).actions (not-creating set k (handed_talk c k q) q (false_from_ne_true (is_ended set (handed_talk c k q)) (λ ended.
      let clash : true ≡ false = sym (handed-ended q ended) ∙ early in cc))))
      (λ out. ap (λ b. filter_map act_in (placed_of q (ordered_in c k) ++ (if b then unordered_of c.world.group q else []))) out
      ∙ ap (filter_map act_in) (append-nil (placed_of q (ordered_in c k))) ∙ sym (acts-by set k q (ordered_in c k) no_talk (legal.ordered k))
      ∙ ap (of_creator q) (sym (acts-of (ordered_in c k) no_talk) ∙ ((early-legal set k (ordered_in c k) no_talk (early-none set) (legal.ordered k)).quiet early).1))
      (cases_Bool (is_regular_in c k q))

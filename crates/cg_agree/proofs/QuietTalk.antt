-- A quiet configuration: each member is regular there and was handed all that was said, all have told their summaries, the plan is through, and
-- who is to announce has announced.
use Rattle.std.proofs.Common.{◌≡◌, ℕ, ◌<◌, Bool, true, false, cond, not, ◌&&◌, List, [], ◌∷◌, ◌++◌, Option, Some, None, IfSome, is_some, length, map, filter_map, fold, refl, sym, ap, ◌∙◌, subst, inl, inr, arith, append-nil, eq-eqb, eqb-true, if◌then◌else◌}
use Rattle.std.specs.Prelude.{◌==◌}
use Rattle.std.specs.List.{list_all}
use Rattle.std.proofs.lemmas.Bool.{cases_Bool, cond-true, and_parts, and_from, or_left, or_right, ne_eqb}
use Rattle.std.proofs.lemmas.List.{append_assoc, take_all, nil_from_length}
use Rattle.cg_base.specs.Lists.{above_up_to}
use Rattle.cg_base.specs.Sets.{has}
use Rattle.cg_base.specs.SetLaws.{has-with_member, is_within-from}
use Rattle.cg_knowledge.specs.declared.summary.Summary.{Summary}
use Rattle.cg_knowledge.specs.Summaries.{senders, remaining}
use Rattle.cg_knowledge.specs.Verdict.{decides}
use Rattle.cg_wire.specs.declared.message.Msg.{Msg}
use Rattle.cg_wire.specs.declared.message.Msg.TheVariants.{Action as ActionMsg, State as StateMsg, GreenItem, RedItem, Cpc}
use Rattle.cg_group.specs.declared.phase.Phase.{Phase}
use Rattle.cg_group.specs.declared.phase.Phase.TheVariants.{Down, Alone, Regular, Transitional}
use Rattle.cg_group.specs.State.{Sent, phase_of, regular_in, delivered_to, unordered_of}
use Rattle.cg_group.specs.Ready.{all_received}
use Rattle.cg_client.specs.Replica.{Replica}
use Rattle.cg_model.specs.World.{replica_of}
use Rattle.cg_model.specs.Quiet.{is_quiet_at, is_quiet, summary_in as quiet_summary, action_in as quiet_action, messages_of, summaries_in}
use Rattle.cg_model.specs.Chronicle.{Told, Chronicle}
use Rattle.cg_model.specs.Fronts.{IsSomeWith}
use Rattle.cg_model.specs.Looks.{greens_of, told_in, is_regular_at, is_regular_in, conf_of, members_in, ordered_in, placed_of, said_in}
use Rattle.cg_model.specs.Talk.{Talk, no_talk, talk_of, hears, hears_from, is_full, is_through, is_ended, is_announced, may_go_on, may_say, is_legal, state_in, state_behind, summary_in, item_in, announcer_in, due_items, due_announcement}
use Rattle.cg_model.specs.FactsTalk.{whole_talk, handed_talk, summaries_of, IsStateIn, SaysWhatIsDue}
use Rattle.cg_model.specs.FactsExchange.{IsInExchange}
use Rattle.cg_model.specs.Facts.{Invariant}
use Rattle.cg_agree.proofs.ClearedDead.{IsToldIn, each-told}
use Rattle.cg_agree_lemmas.specs.EndCovers.{OfEach, of_each-weaker}
use Rattle.cg_agree.proofs.DeadKept.{remaining-senders}
use Rattle.cg_agree_lemmas.specs.Announced.{senders-members}
use Rattle.cg_agree_lemmas.specs.MadeAlone.{is-running}
use Rattle.cg_agree_lemmas.specs.ReachFacts.{all-at}
use Rattle.cg_agree_lemmas.specs.SaidSoFar.{kind_of, part_of, kind-cons, nobodys, items_so_far, so_far-legal}
use Rattle.cg_agree_lemmas.specs.TalkCommute.{tells, senders-more}
use Rattle.cg_agree_lemmas.specs.TalkEarly.{early-none}
use Rattle.cg_agree.proofs.QuietPlan.{all-through}
use Rattle.cg_group.specs.RefusalLaws.{regular-up}

-- ---- what a talk has of its messages

pub heard-of : (list : List (Sent Msg)) (t : Talk) → (fold hears t list).heard ≡ t.heard ++ filter_map quiet_summary (map (λ s. s.message) list)
heard-of [] t = sym (append-nil t.heard)
heard-of (s ∷ list) t = heard-of list (hears t s) ∙ at s.from s.message where
  at : (from : ℕ) (m : Msg) → (hears_from t from m).heard ++ filter_map quiet_summary (map (λ s. s.message) list) ≡ t.heard ++ filter_map quiet_summary (m ∷ map (λ s. s.message) list)
  at from (StateMsg s) = append_assoc t.heard (s ∷ []) (filter_map quiet_summary (map (λ s. s.message) list))
  at from (ActionMsg a) = refl
  at from (GreenItem n a) = refl
  at from (RedItem a) = refl
  at from (Cpc id k) = refl

pub acted-of : (list : List (Sent Msg)) (t : Talk) → (fold hears t list).acts ≡ t.acts ++ filter_map quiet_action (map (λ s. s.message) list)
acted-of [] t = sym (append-nil t.acts)
acted-of (s ∷ list) t = acted-of list (hears t s) ∙ at s.from s.message where
  at : (from : ℕ) (m : Msg) → (hears_from t from m).acts ++ filter_map quiet_action (map (λ s. s.message) list) ≡ t.acts ++ filter_map quiet_action (m ∷ map (λ s. s.message) list)
  at from (ActionMsg a) = append_assoc t.acts (a ∷ []) (filter_map quiet_action (map (λ s. s.message) list))
  at from (StateMsg s) = refl
  at from (GreenItem n a) = refl
  at from (RedItem a) = refl
  at from (Cpc id k) = refl

-- what a message of a kind brings about and no message undoes shows behind a talk in which the member has said one
module _ {Y : Type 0} (f : Msg → Option Y) (q : ℕ) (set : List ℕ) (conf : ℕ) (D : Talk → Bool)
    (grows : (t : Talk) (from : ℕ) (m : Msg) → D t ≡ true → D (hears_from t from m) ≡ true)
    (first : (t : Talk) (from : ℕ) (m : Msg) → may_say set conf t from m ≡ true → D (hears_from t from m) ≡ false → part_of f q from m ≡ []) where
  stays : (list : List (Sent Msg)) (t : Talk) → D t ≡ true → D (fold hears t list) ≡ true
  stays [] t is = is
  stays (s ∷ list) t is = stays list (hears t s) (grows t s.from s.message is)

  pub said-shows : (list : List (Sent Msg)) (t : Talk) → is_legal set conf t list ≡ true → 0 < length (kind_of f q list) → D (fold hears t list) ≡ true
  said-shows [] t legal some = absurd (omega arith)
  said-shows (s ∷ list) t legal some =
      let parts = and_parts (may_say set conf t s.from s.message) (is_legal set conf (hears t s) list) legal in
      elim (cases_Bool (D (hears t s))) [
        | inl now ↦ stays list (hears t s) now
        | inr yet ↦
            let none = first t s.from s.message parts.0 yet in
            said-shows list (hears t s) parts.1 (subst (λ xs. 0 < length xs) (kind-cons f q s list ∙ ap (λ xs. xs ++ kind_of f q list) none) some)
      ]

module _ (set : List ℕ) (conf q : ℕ) where
  tells-grows : (t : Talk) (from : ℕ) (m : Msg) → has (senders t.heard) q ≡ true → has (senders (hears_from t from m).heard) q ≡ true
  tells-grows t from (StateMsg s) is = ap (λ l. has l q) (senders-more t.heard s) ∙ has-with_member (senders t.heard) s.id q ∙ or_left (has (senders t.heard) q) (s.id == q) is
  tells-grows t from (ActionMsg a) is = is
  tells-grows t from (GreenItem n a) is = is
  tells-grows t from (RedItem a) is = is
  tells-grows t from (Cpc id k) is = is

  tells-first : (t : Talk) (from : ℕ) (m : Msg) → may_say set conf t from m ≡ true → has (senders (hears_from t from m).heard) q ≡ false → part_of summary_in q from m ≡ []
  tells-first t from (StateMsg s) may yet = elim (cases_Bool (from == q)) [
    | inl mine ↦
        let id = (tells set conf t from s may).id in
        let now : has (senders (t.heard ++ s ∷ [])) q ≡ true =
        ap (λ l. has l q) (senders-more t.heard s) ∙ has-with_member (senders t.heard) s.id q ∙ or_right (has (senders t.heard) q) (s.id == q) (ap (λ n. n == q) id ∙ mine) in
        absurd (let clash : true ≡ false = sym now ∙ yet in cc)
    | inr other ↦ ap (λ b. cond b (s ∷ []) []) other
  ]
  tells-first t from (ActionMsg a) may yet = nobodys (from == q)
  tells-first t from (GreenItem n a) may yet = nobodys (from == q)
  tells-first t from (RedItem a) may yet = nobodys (from == q)
  tells-first t from (Cpc id k) may yet = nobodys (from == q)

  pub told-shows : (list : List (Sent Msg)) (t : Talk) → is_legal set conf t list ≡ true → 0 < length (kind_of summary_in q list) → has (senders (fold hears t list).heard) q ≡ true
  told-shows list t legal some = said-shows summary_in q set conf (λ (u : Talk). has (senders u.heard) q) tells-grows tells-first list t legal some

  announces-grows : (t : Talk) (from : ℕ) (m : Msg) → has t.announced q ≡ true → has (hears_from t from m).announced q ≡ true
  announces-grows t from (Cpc id k) is = has-with_member t.announced from q ∙ or_left (has t.announced q) (from == q) is
  announces-grows t from (StateMsg s) is = is
  announces-grows t from (ActionMsg a) is = is
  announces-grows t from (GreenItem n a) is = is
  announces-grows t from (RedItem a) is = is

  announces-first : (t : Talk) (from : ℕ) (m : Msg) → may_say set conf t from m ≡ true → has (hears_from t from m).announced q ≡ false → part_of announcer_in q from m ≡ []
  announces-first t from (Cpc id k) may yet = elim (cases_Bool (from == q)) [
    | inl mine ↦ absurd (let clash : true ≡ false = sym (has-with_member t.announced from q ∙ or_right (has t.announced q) (from == q) mine) ∙ yet in cc)
    | inr other ↦ ap (λ b. cond b (id ∷ []) []) other
  ]
  announces-first t from (StateMsg s) may yet = nobodys (from == q)
  announces-first t from (ActionMsg a) may yet = nobodys (from == q)
  announces-first t from (GreenItem n a) may yet = nobodys (from == q)
  announces-first t from (RedItem a) may yet = nobodys (from == q)

  pub announced-shows : (list : List (Sent Msg)) (t : Talk) → is_legal set conf t list ≡ true → 0 < length (kind_of announcer_in q list) → has (fold hears t list).announced q ≡ true
  announced-shows list t legal some = said-shows announcer_in q set conf (λ (u : Talk). has u.announced q) announces-grows announces-first list t legal some

-- ---- a member

nobody-told : (k : ℕ) → has (senders []) k ≡ true → ⊥
unfolding senders
nobody-told k e = let clash : false ≡ true = e in cc

regular-of : (phase : Phase) (conf : ℕ) → 0 < conf → (regular_in phase == conf) ≡ true → phase ≡ Regular conf
regular-of Down conf some e = absurd (let same : 0 ≡ conf = eqb-true 0 conf e in omega arith)
regular-of Alone conf some e = absurd (let same : 0 ≡ conf = eqb-true 0 conf e in omega arith)
regular-of (Regular at) conf some e = ap Regular (eqb-true at conf e)
regular-of (Transitional at set) conf some e = absurd (let same : 0 ≡ conf = eqb-true 0 conf e in omega arith)

-- a member of a quiet configuration
pub record IsQuietAt (c : Chronicle) (conf p : ℕ) : Type 0 where
  pub phase : phase_of c.world.group p ≡ Regular conf
  pub waits : unordered_of c.world.group p ≡ []
  pub handed : delivered_to c.world.group p ≡ length (ordered_in c conf)

module _ (c : Chronicle) (i : Invariant c) (conf : ℕ) (some : 0 < conf) (quiet : is_quiet c.world conf ≡ true) where
  abbrev set : List ℕ
  set = members_in c conf

  abbrev list : List (Sent Msg)
  list = ordered_in c conf

  abbrev talk : Talk
  talk = whole_talk c conf

  legal : is_legal set conf no_talk list ≡ true
  legal = i.talk.talk_legal.ordered conf

  pub quiet-at : (p : ℕ) → has set p ≡ true → IsQuietAt c conf p
  quiet-at p is =
      let g = c.world.group in
      let all = (and_parts (list_all (is_quiet_at g conf) set) (list_all (all_received (conf_of c conf)) (above_up_to 0 (length list))) quiet).0 in
      let one = all-at (is_quiet_at g conf) set p all is in
      let outer = and_parts ((regular_in (phase_of g p) == conf) && (length (unordered_of g p) == 0)) (delivered_to g p == length list) one in
      let inner = and_parts (regular_in (phase_of g p) == conf) (length (unordered_of g p) == 0) outer.0 in
      record {
        phase = regular-of (phase_of g p) conf some inner.0;
        waits = nil_from_length (unordered_of g p) (eqb-true (length (unordered_of g p)) 0 inner.1);
        handed = eqb-true (delivered_to g p) (length list) outer.1;
      }

  module _ (p : ℕ) (is : has set p ≡ true) where
    pub regular-there : is_regular_in c conf p ≡ true
    regular-there = ap (is_regular_at conf) (quiet-at p is).phase ∙ eq-eqb conf conf refl

    pub handed-all : handed_talk c conf p ≡ talk
    handed-all = ap talk_of (take_all (delivered_to c.world.group p) list (let all = (quiet-at p is).handed in omega arith))

    pub said-placed : said_in c conf p ≡ placed_of p list
    said-placed =
        ap (λ ws. placed_of p list ++ (if is_regular_in c conf p then ws else [])) (quiet-at p is).waits
        ∙ ap (λ ws. placed_of p list ++ ws) (nobodys (is_regular_in c conf p)) ∙ append-nil (placed_of p list)

    pub up-there : (r : Replica) × (replica_of c.world p ≡ Some r)
    up-there =
        let there : not (conf == 0) ≡ true = ap not (ne_eqb conf 0 (λ (e : conf ≡ 0). omega arith)) in
        let runs = is-running c.world p (i.net.phase_sound.up p ∙ regular-up c.world.group p (ap (λ ph. not (regular_in ph == 0)) (quiet-at p is).phase ∙ there)) in
        (runs.replica, runs.is)

    pub told-there : (t : Told) × (told_in c conf p ≡ Some t)
    told-there = at (told_in c conf p) refl (subst (λ (o : Option Replica). IfSome o (λ r. IsSomeWith (told_in c conf p) (λ t. IsInExchange c conf t r.held (greens_of c p) r.state))) up-there.1
        (i.exchange.exchange_progress conf p regular-there)) where
          at : (o : Option Told) → told_in c conf p ≡ o → IsSomeWith o (λ t. IsInExchange c conf t up-there.0.held (greens_of c p) up-there.0.state) → (t : Told) × (told_in c conf p ≡ Some t)
          at None e none = absurd none
          at (Some t) e some = (t, e)

    says : SaysWhatIsDue set conf p (said_in c conf p) (handed_talk c conf p) (told_in c conf p)
    says = i.talk.sent_iff_due conf p regular-there

    sender-there : has (senders talk.heard) p ≡ true
    sender-there =
        let all : filter_map summary_in (placed_of p list) ≡ told-there.0.summary ∷ [] = ap (filter_map summary_in) (sym said-placed) ∙ says.summary ∙ ap summaries_of told-there.1 in
        told-shows set conf p list no_talk legal (subst (λ (xs : List Summary). 0 < length xs) (sym all) (omega arith))

    items-there : items_so_far set talk p ≡ due_items set talk p
    items-there =
        so_far-legal set conf p list no_talk (early-none set) legal ∙ ap (λ xs. xs ++ kind_of item_in p list) (nobodys (is_full set no_talk))
        ∙ ap (filter_map item_in) (sym said-placed) ∙ says.items ∙ ap (λ t. due_items set t p) handed-all

  -- who has told a summary is a member
  pub member-of : (q : ℕ) → has (senders talk.heard) q ≡ true → has set q ≡ true
  member-of q is = senders-members set conf list no_talk q legal (λ k none. absurd (nobody-told k none)) is

  pub all-told : is_full set talk ≡ true
  all-told = is_within-from set (senders talk.heard) sender-there

  pub plan-through : is_through talk ≡ true
  plan-through = all-through (λ p. has set p ≡ true) set talk each all-told items-there where
    each : OfEach (λ s. has set s.id ≡ true) talk.heard
    each = of_each-weaker (IsToldIn c conf) (λ s. has set s.id ≡ true) (λ s told. i.net.past_left.member conf s.id (ap is_some told.found)) talk.heard (each-told c conf talk.heard (i.talk.heard_is_told conf))

  pub talk-ended : is_ended set talk ≡ true
  talk-ended = and_from (is_full set talk) (is_through talk) all-told plan-through

  -- where the summaries decide, who remains has announced
  pub all-announced : decides talk.heard ≡ true → is_announced talk ≡ true
  all-announced decided = is_within-from (remaining talk.heard) talk.announced one where
    one : (q : ℕ) → has (remaining talk.heard) q ≡ true → has talk.announced q ≡ true
    one q stays =
        let is = member-of q (remaining-senders talk.heard q stays) in
        let on : may_go_on set talk q ≡ true = and_from (is_ended set talk) (has (remaining talk.heard) q) talk-ended stays in
        let due : due_announcement set talk q ≡ q ∷ [] = cond-true (may_go_on set talk q && decides talk.heard) (q ∷ []) [] (and_from (may_go_on set talk q) (decides talk.heard) on decided) in
        let all : filter_map announcer_in (placed_of q list) ≡ q ∷ [] =
        ap (filter_map announcer_in) (sym (said-placed q is)) ∙ (says q is).announcement ∙ ap (λ t. due_announcement set t q) (handed-all q is) ∙ due in
        announced-shows set conf q list no_talk legal (subst (λ (xs : List ℕ). 0 < length xs) (sym all) (omega arith))

  -- each member is in the state to which all that was said leads
  pub state-there : (p : ℕ) (is : has set p ≡ true) (r : Replica) → replica_of c.world p ≡ Some r → r.state ≡ state_behind conf talk p
  state-there p is r up =
      let fits : IsStateIn c p (phase_of c.world.group p) r = subst (λ (o : Option Replica). IfSome o (IsStateIn c p (phase_of c.world.group p))) up (i.talk.mode_fits p) in
      let state : r.state ≡ state_in set conf (handed_talk c conf p) p = subst (λ ph. IsStateIn c p ph r) (quiet-at p is).phase fits in
      state ∙ ap (λ t. state_in set conf t p) (handed-all p is) ∙ ended-state talk all-told plan-through where
        ended-state : (t : Talk) → is_full set t ≡ true → is_through t ≡ true → state_in set conf t p ≡ state_behind conf t p
        ended-state t full through = rw (full, through) refl

  -- the summaries and the actions that the definitions of quiet configurations speak of
  pub summaries-are : summaries_in c.world conf ≡ talk.heard
  summaries-are = sym (heard-of list no_talk)

  pub actions-are : filter_map quiet_action (messages_of c.world conf) ≡ talk.acts
  actions-are = sym (acted-of list no_talk)

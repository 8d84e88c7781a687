-- What comes to a member as it leaves behind the end of an exchange is used. Actions can be placed: with a place every earlier one of its sender
-- comes, so the action before it is known. In an attempt none comes before all announcements: it shows an installation, which follows
-- announcements that all have received.
use Rattle.std.proofs.Common.{◌≡◌, ℕ, zero, suc, ◌+◌, ◌-◌, ◌≤◌, ◌<◌, true, false, not, ◌&&◌, ◌||◌, List, [], ◌∷◌, ◌++◌, length, take, drop, Option, Some, None, IfSome, refl, sym, ap, ◌∙◌, subst, arith, inl, inr, ◌⊎◌, eqb-true, eq-eqb, nat_lt, nat_le, Bool, is_some, ap₂, filter_map, ⊎_elim, cond}
use Rattle.std.specs.Prelude.{◌==◌, slice_get}
use Rattle.std.specs.Option.{option_map_or}
use Rattle.std.specs.List.{list_all}
use Rattle.std.proofs.lemmas.Bool.{cases_eq, cases_lt, cond-true, cond-false, and_parts, ne_eqb, or_left, or_right, or_cases, ltb-true, leb-true, and_from, cond_both, not-true}
use Rattle.cg_base.specs.Cuts.{index_in, raise}
use Rattle.cg_base.specs.Lists.{above_up_to}
use Rattle.cg_base.specs.Sets.{has, is_within, with_member}
use Rattle.cg_action.specs.declared.action.Action.{Action}
use Rattle.cg_knowledge.specs.Verdict.{decides}
use Rattle.cg_queue.specs.Queue.{names_of, placed_red, marked_red}
use Rattle.cg_wire.specs.declared.message.Msg.{Msg}
use Rattle.cg_wire.specs.declared.message.Msg.TheVariants.{Action as ActionMsg, State as StateMsg, GreenItem, RedItem, Cpc}
use Rattle.cg_group.specs.declared.delivery.Delivery.{Delivery}
use Rattle.cg_group.specs.declared.delivery.Delivery.TheVariants.{Message, Transitional as TransitionalIn}
use Rattle.cg_group.specs.declared.phase.Phase.{Phase}
use Rattle.cg_group.specs.declared.phase.Phase.TheVariants.{Regular}
use Rattle.cg_group.specs.Events.{delivery_at, deliveries_at}
use Rattle.cg_group.specs.Refusals.{sender_at}
use Rattle.cg_group.specs.State.{Sent, phase_of, delivered_to}
use Rattle.cg_client.specs.Replica.{State, RegPrim, TransPrim, Replica, created, Held, No, Un, NonPrim, Construct}
use Rattle.cg_client.specs.Requests.{is_creating}
use Rattle.cg_client.specs.Turn.{Turn, begin, go_to}
use Rattle.cg_client.specs.Marks.{is_unmade, mark_yellow, mark_red, marked, after_first}
use Rattle.cg_states.specs.ReplicaStep.{on_message, after_delivery as take_one, on_transitional}
use Rattle.cg_model.specs.World.{replica_of}
use Rattle.cg_model.specs.Chronicle.{Chronicle, Attempt}
use Rattle.cg_model.specs.Facts.{Invariant}
use Rattle.cg_model.specs.FactsReplica.{IsModeData, HasModeData, IsCore, is_attempting, is_primary, is_exchanging}
use Rattle.cg_model.specs.FactsTalk.{handed_talk, count_behind, AreNumbered, AreNumberedAt, IsStateIn}
use Rattle.cg_model.specs.Looks.{greens_of, conf_of, members_in, ordered_in, said_in, attempt_of, received_by_all, is_regular_at}
use Rattle.cg_model.specs.Small.{take_all}
use Rattle.cg_model.specs.Smalls.{implies, ascend_within, hold_earlier, hold_received}
use Rattle.cg_model.specs.Talk.{Talk, talk_of, hears_from, is_ended, is_announced as all_announced, may_go_on, may_say, act_in, action_in, state_in, announcer_in, is_full, is_through}
use Rattle.cg_model.specs.Total.{fits_red, IsUsedLeaving, AreTakenLeaving}
use Rattle.cg_agree.proofs.ActsNext.{may-stand, talk-next, ended-next, heard-next, numbered-next, not-silent}
use Rattle.cg_agree.proofs.DeadEvidenceKept.{running-core}
use Rattle.cg_agree_lemmas.specs.DiskAhead.{left-own, made-by, LeftOwn}
use Rattle.cg_agree_lemmas.specs.HandMarks.{one_of, raised-next, counted-next, made-so}
use Rattle.cg_agree_lemmas.specs.HandsKept.{some-at}
use Rattle.cg_agree.proofs.HandsMeet.{next-red}
use Rattle.cg_agree_lemmas.specs.HeldInstall.{IsAllYellow, yellow-oneself}
use Rattle.cg_agree_lemmas.specs.HeldMarks.{IsOneself, rising-red, red-oneself}
use Rattle.cg_agree_lemmas.specs.MessageThere.{message-made}
use Rattle.cg_agree.proofs.RowYellow.{marks-yellow}
use Rattle.cg_disk_records.specs.Holds.{cut_behind}
use Rattle.cg_agree_lemmas.specs.StatesSaid.{creating-ended, count-quiet, never, announcing, undecided}
use Rattle.cg_agree_lemmas.specs.TalkEarly.{all-member, not_full, due_parts}
use Rattle.cg_base.specs.SetLaws.{has-with_member}
use Rattle.cg_base.specs.MemberLaws.{has_count_up, list_all_in}
use Rattle.cg_knowledge.specs.Summaries.{senders, remaining}
use Rattle.cg_plan.specs.declared.parts.Item.TheVariants.{Green, Red}
use Rattle.cg_records.specs.declared.vulnerable.Vulnerable.{Vulnerable}
use Rattle.cg_group.specs.Ready.{all_received}
use Rattle.cg_client.specs.Install.{install}
use Rattle.cg_states.specs.Construct.{attempt_set, is_announced}
use Rattle.cg_states.specs.No.{no_with}
use Rattle.cg_model.specs.FactsNet.{IsPhase}
use Rattle.cg_model.specs.Fronts.{When}
use Rattle.cg_model.specs.Levels.{announced_at, lacks_announcement, is_installed}
use Rattle.cg_agree_lemmas.specs.Announced.{announced-front, announced-within, announced-place}
use Rattle.cg_agree.proofs.AttemptSteps.{attempting-now, act-shows, primary-announced}
use Rattle.cg_agree_lemmas.specs.CreatesTalk.{grows-all}
use Rattle.cg_agree.proofs.DeadKept.{received-one}
use Rattle.cg_agree_lemmas.specs.EndCases.{take-short}
use Rattle.cg_agree_lemmas.specs.FrontFacts.{Front-take}
use Rattle.cg_agree_lemmas.specs.HandsNow.{whole-through}
use Rattle.cg_agree_lemmas.specs.HeldAll.{installed_by}
use Rattle.cg_agree_lemmas.specs.HeldMessages.{installed-all, installed-yellow}
use Rattle.cg_agree.proofs.InstalledParts.{waits-for}
use Rattle.cg_agree.proofs.LeavesTalk.{StandsAt, announced-there, covered}
use Rattle.cg_agree_lemmas.specs.MarksFit.{can-install}
use Rattle.cg_agree_lemmas.specs.Reach.{passes}
use Rattle.cg_agree_lemmas.specs.ReachWorld.{when-is}
use Rattle.cg_agree_lemmas.specs.TurnKinds.{installs-to}
use Rattle.cg_agree_lemmas.specs.TurnValues.{even-mark_yellow}
use Rattle.cg_queue.specs.MarkLaws.{red-placed}
use Rattle.cg_agree_lemmas.specs.PartingIdle.{taken-append, alone-taken, left-taken}
use Rattle.cg_disk_records.specs.RunLaws.{cut_behind-append}

-- what ascends is above the first number
ascends-above : (xs : List ℕ) (low high x : ℕ) → ascend_within low high xs ≡ true → has xs x ≡ true → low < x
ascends-above [] low high x up there = absurd (let clash : false ≡ true = there in cc)
ascends-above (y ∷ xs) low high x up there =
    let a = and_parts (nat_lt low y && nat_le y high) (ascend_within y high xs) up in
    let lt : low < y = ltb-true low y (and_parts (nat_lt low y) (nat_le y high) a.0).0 in
    elim (or_cases (y == x) (has xs x) there) [
      | inl same ↦ (let e : y ≡ x = eqb-true y x same in omega (arith, lt, e))
      | inr later ↦ (let more : y < x = ascends-above xs y high x a.1 later in omega (arith, lt, more))
    ]

-- ---- behind the end of a plan

-- what is said there is an announcement or an action
abbrev is_late : Msg → Bool
is_late (Cpc id at) = true
is_late (ActionMsg a) = true
is_late _ = false

late-alone : (set : List ℕ) (conf : ℕ) (t : Talk) (from : ℕ) (m : Msg) → may_say set conf t from m ≡ true → is_ended set t ≡ true → is_late m ≡ true
late-alone set conf t from (Cpc id at) may ended = refl
late-alone set conf t from (ActionMsg a) may ended = refl
late-alone set conf t from (StateMsg s) may ended =
    let a = and_parts ((has set from && (s.id == from)) && (s.conf == conf)) (not (has (senders t.heard) from)) may in
    let b = and_parts (has set from && (s.id == from)) (s.conf == conf) a.0 in
    let d = and_parts (has set from) (s.id == from) b.0 in
    let few = not_full set t from d.0 (not-true (has (senders t.heard) from) a.1) in
    absurd (let clash : true ≡ false = sym (and_parts (is_full set t) (is_through t) ended).0 ∙ few in cc)
late-alone set conf t from (GreenItem place a) may ended =
    absurd (let clash : true ≡ false = sym (and_parts (is_full set t) (is_through t) ended).1 ∙ (due_parts set t from (Green place) may).1 in cc)
late-alone set conf t from (RedItem a) may ended =
    absurd (let clash : true ≡ false = sym (and_parts (is_full set t) (is_through t) ended).1 ∙ (due_parts set t from (Red a.id) may).1 in cc)

-- what a red mark makes of the turn, where the action is the next of its creator
marks-red : (t : Turn) (a : Action) → is_unmade t.replica.held a ≡ false → a.id.index ≡ suc (index_in t.replica.held.queue.red_cut a.id.creator) →
    (mark_red t a).replica ≡ (let h = t.replica.held in record { held = record h { queue = placed_red h.queue a; own = after_first h.own a.id }; state = t.replica.state })
unfolding mark_red
marks-red t a made next =
    let h = t.replica.held in
    ap (λ b. (cond b t (marked t a (marked_red h.queue a))).replica) made ∙ ap (λ m. (marked t a m).replica) (red-placed h.queue a next)

module _ (c : Chronicle) (i : Invariant c) (p conf : ℕ) (r : Replica) (up : replica_of c.world p ≡ Some r) (named : r.held.id ≡ p) (low : ℕ) (places : List ℕ)
    (closed : hold_earlier (conf_of c conf) low places ≡ true) (begun : is_ended (members_in c conf) (talk_of (take low (ordered_in c conf))) ≡ true) where
  abbrev list : List (Sent Msg)
  list = ordered_in c conf

  abbrev set : List ℕ
  set = members_in c conf

  abbrev T : ℕ → Talk
  T n = talk_of (take n list)

  creator-is : (n : ℕ) (s : Sent Msg) (a : Action) → slice_get list n ≡ Some s → s.message ≡ ActionMsg a → a.id.creator ≡ s.from
  creator-is n s a next is =
      let m = subst (λ m. may_say set conf (T n) s.from m ≡ true) is (may-stand c conf n s i.talk next) in
      let x = and_parts ((a.id.creator == s.from) && may_go_on set (T n) s.from) (not (decides (T n).heard) || all_announced (T n)) m in
      eqb-true a.id.creator s.from (and_parts (a.id.creator == s.from) (may_go_on set (T n) s.from) x.0).0

  -- ---- how far a creator's actions are counted behind a place more

  data Counts (q n : ℕ) (s : Sent Msg) : Type 0 where
    Same : (count : count_behind (T (suc n)) q ≡ count_behind (T n) q) → Counts q n s
    More : (a : Action) (is : s.message ≡ ActionMsg a) (mine : a.id.creator ≡ q) (count : count_behind (T (suc n)) q ≡ a.id.index) (next : a.id.index ≡ suc (count_behind (T n) q)) → Counts q n s

  counts : (q n : ℕ) (s : Sent Msg) → slice_get list n ≡ Some s → is_ended set (T n) ≡ true → Counts q n s
  counts q n s next ended = at s.message refl where
    behind : (m : Msg) → s.message ≡ m → T (suc n) ≡ hears_from (T n) s.from m
    behind m is = talk-next c conf n s i.talk next ∙ ap (hears_from (T n) s.from) is

    quiet : (m : Msg) → s.message ≡ m → act_in m ≡ None → Counts q n s
    quiet m is none =
        Same (ap (λ (x : Talk). count_behind x q) (behind m is)
        ∙ count-quiet (T n) s.from m none (ap (λ m. (hears_from (T n) s.from m).heard) (sym is) ∙ heard-next c conf n s i.talk next ended) q)

    at : (m : Msg) → s.message ≡ m → Counts q n s
    at (ActionMsg a) is =
        let step : count_behind (T (suc n)) q ≡ count_behind (T n) q + one_of a q = ap (λ (x : Talk). count_behind x q) (behind (ActionMsg a) is) ∙ counted-next (T n) a q in
        elim (cases_eq a.id.creator q) [
          | inl mine ↦
              let one : one_of a q ≡ 1 = cond-true (a.id.creator == q) 1 0 (eq-eqb a.id.creator q mine) in
              let first : a.id.index ≡ suc (count_behind (T n) q) = numbered-next c conf n s i.talk next a is ∙ ap (λ x. suc (count_behind (T n) x)) mine in
              More a is mine (omega (arith, step, one, first)) first
          | inr apart ↦
              let none : one_of a q ≡ 0 = cond-false (a.id.creator == q) 1 0 (ne_eqb a.id.creator q apart) in
              Same (omega (arith, step, none))
        ]
    at (StateMsg x) is = quiet (StateMsg x) is refl
    at (GreenItem place a) is = quiet (GreenItem place a) is refl
    at (RedItem a) is = quiet (RedItem a) is refl
    at (Cpc k n) is = quiet (Cpc k n) is refl

  ended-from : (m n : ℕ) → n + m ≤ length list → is_ended set (T n) ≡ true → is_ended set (T (n + m)) ≡ true
  ended-from zero n le ended = subst (λ k. is_ended set (T k) ≡ true) (let e : n ≡ n + 0 = omega arith in e) ended
  ended-from (suc m) n le ended =
      let at = some-at list n (omega arith) in
      subst (λ k. is_ended set (T k) ≡ true) (let e : suc n + m ≡ n + suc m = omega arith in e)
      (ended-from m (suc n) (omega arith) (ap (is_ended set) (talk-next c conf n at.0 i.talk at.1) ∙ ended-next c conf n at.0 i.talk at.1 ended))

  -- the count never falls
  grown : (m n q : ℕ) → n + m ≤ length list → is_ended set (T n) ≡ true → count_behind (T n) q ≤ count_behind (T (n + m)) q
  grown zero n q le ended = subst (λ k. count_behind (T n) q ≤ count_behind (T k) q) (let e : n ≡ n + 0 = omega arith in e) (omega arith)
  grown (suc m) n q le ended =
      let at = some-at list n (omega arith) in
      let rest = grown m (suc n) q (omega arith) (ap (is_ended set) (talk-next c conf n at.0 i.talk at.1) ∙ ended-next c conf n at.0 i.talk at.1 ended) in
      let one : count_behind (T n) q ≤ count_behind (T (suc n)) q = step (counts q n at.0 at.1 ended) in
      subst (λ k. count_behind (T n) q ≤ count_behind (T k) q) (let e : suc n + m ≡ n + suc m = omega arith in e) (omega (arith, rest, one)) where
        step : {s : Sent Msg} → Counts q n s → count_behind (T n) q ≤ count_behind (T (suc n)) q
        step (Same count) = omega (arith, count)
        step (More a is mine count next) = omega (arith, count, next)

  -- with a place every earlier one of its sender is among the places
  earlier-there : (n j : ℕ) (s x : Sent Msg) → slice_get list n ≡ Some s → slice_get list j ≡ Some x → low ≤ j → j < n → x.from ≡ s.from → has places (suc n) ≡ true → has places (suc j) ≡ true
  earlier-there n j s x e f le lt same there =
      let C = conf_of c conf in
      let all = all-member (λ place. list_all (λ earlier. implies (sender_at C earlier == sender_at C place) (has places earlier)) (above_up_to low (place - 1))) places (suc n) there closed in
      let one = all-member (λ earlier. implies (sender_at C earlier == sender_at C (suc n)) (has places earlier)) (above_up_to low (suc n - 1)) (suc j)
      (has_count_up (suc low) (suc n - 1 - low) (suc j) (omega arith) (omega arith)) all in
      let from_of : Option (Sent Msg) → ℕ = λ o. option_map_or (λ (y : Sent Msg). y.from) o 0 in
      let eq : (sender_at C (suc j) == sender_at C (suc n)) ≡ true = eq-eqb (sender_at C (suc j)) (sender_at C (suc n)) (ap from_of f ∙ same ∙ sym (ap from_of e)) in
      sym (ap (λ b. implies b (has places (suc j))) eq) ∙ one

  ended-at : (j : ℕ) → low ≤ j → j ≤ length list → is_ended set (T j) ≡ true
  ended-at j le most = subst (λ k. is_ended set (T k) ≡ true) (let e : low + (j - low) ≡ j = omega arith in e) (ended-from (j - low) low (omega arith) begun)

  grown-to : (k n q : ℕ) → low ≤ k → k ≤ n → n ≤ length list → count_behind (T k) q ≤ count_behind (T n) q
  grown-to k n q least le most =
      subst (λ m. count_behind (T k) q ≤ count_behind (T m) q) (let e : k + (n - k) ≡ n = omega arith in e) (grown (n - k) k q (omega arith) (ended-at k least (omega arith)))

  -- the summaries are those that were heard before
  heard-at : (n : ℕ) → low ≤ n → n ≤ length list → (T n).heard ≡ (T low).heard
  heard-at n le most = sym (whole-through c conf p n i.talk.talk_legal (ended-at n le most)).heard ∙ (whole-through c conf p low i.talk.talk_legal begun).heard

  -- who has announced has
  announced-from : (m n q : ℕ) → n + m ≤ length list → has (T n).announced q ≡ true → has (T (n + m)).announced q ≡ true
  announced-from zero n q le is = subst (λ k. has (T k).announced q ≡ true) (let e : n ≡ n + 0 = omega arith in e) is
  announced-from (suc m) n q le is =
      let at = some-at list n (omega arith) in
      subst (λ k. has (T k).announced q ≡ true) (let e : suc n + m ≡ n + suc m = omega arith in e)
      (announced-from m (suc n) q (omega arith) (ap (λ (x : Talk). has x.announced q) (talk-next c conf n at.0 i.talk at.1) ∙ grows-all set conf p (at.0 ∷ []) (T n) q is))

  announced-to : (k n q : ℕ) → k ≤ n → n ≤ length list → has (T k).announced q ≡ true → has (T n).announced q ≡ true
  announced-to k n q le most is = subst (λ m. has (T m).announced q ≡ true) (let e : k + (n - k) ≡ n = omega arith in e) (announced-from (n - k) k q (omega arith) is)

  -- ---- behind the places that were handed

  -- the own actions that were said are made
  abbrev AreMade : Held → Type 0
  AreMade h = (j : ℕ) (x : Sent Msg) (b : Action) → slice_get list j ≡ Some x → x.message ≡ ActionMsg b → b.id.creator ≡ h.id → b.id.index ≤ created h

  record HasMarked (k : ℕ) (h : Held) : Type 0 where
    all : List Action
    is : IsOneself c.start h all
    made : AreMade h
    base : (q : ℕ) → count_behind (T low) q ≤ index_in h.queue.red_cut q
    upper : (q : ℕ) → index_in h.queue.red_cut q ≤ count_behind (T k) q
    lower : (j : ℕ) (x : Sent Msg) (b : Action) → low ≤ j → j < k → has places (suc j) ≡ true → slice_get list j ≡ Some x → x.message ≡ ActionMsg b →
        b.id.index ≤ index_in h.queue.red_cut b.id.creator

  -- no action was handed
  abbrev IsQuiet : ℕ → Type 0
  IsQuiet k = (j : ℕ) (x : Sent Msg) (b : Action) → low ≤ j → j < k → has places (suc j) ≡ true → slice_get list j ≡ Some x → x.message ≡ ActionMsg b → ⊥

  -- all that remain have announced the attempt
  abbrev AllTold : ℕ → Type 0
  AllTold k = (q : ℕ) → has (remaining (T low).heard) q ≡ true → has (T k).announced q ≡ true

  -- these were heard, not all: those before, and those whose announcements were handed
  record HasHeard (k : ℕ) (heard : List ℕ) : Type 0 where
    few : is_within (attempt_set r.held) heard ≡ false
    more : (q : ℕ) → has (T low).announced q ≡ true → has heard q ≡ true
    inside : (q : ℕ) → has heard q ≡ true → has (T k).announced q ≡ true
    came : (j : ℕ) (x : Sent Msg) → j < k → has places (suc j) ≡ true → slice_get list j ≡ Some x → is_some (announcer_in x.message) ≡ true → has heard x.from ≡ true

  -- the attempt of a member that waits for announcements as it leaves
  record IsCutShort : Type 0 where
    a : Attempt
    found : attempt_of c conf ≡ Some a
    set_is : attempt_set r.held ≡ a.set
    attempt : attempt_set r.held ≡ remaining (T low).heard
    decided : decides (T low).heard ≡ true
    red : (q : ℕ) → index_in r.held.queue.red_cut q ≡ count_behind (T low) q
    oneself : IsOneself c.start r.held (greens_of c p)
    silent : filter_map act_in (said_in c conf p) ≡ []
    member : has set p ≡ true
    received : (q : ℕ) → lacks_announcement c conf p q ≡ false → (at : StandsAt 0 list q) → (has (T low).announced q ≡ true) ⊎ (has places (suc at.index) ≡ true)

  -- it waits for announcements, or it has them all and no action came; or actions become yellow, or red
  data InParting (k : ℕ) (t : Turn) : Type 0 where
    Waits : (cut : IsCutShort) (heard : List ℕ) (state : t.replica.state ≡ No conf heard) (held : t.replica.held ≡ r.held) (so : HasHeard k heard) (quiet : IsQuiet k) → InParting k t
    Knows : (cut : IsCutShort) (state : t.replica.state ≡ Un) (held : t.replica.held ≡ r.held) (told : AllTold k) (quiet : IsQuiet k) → InParting k t
    Marks : (state : t.replica.state ≡ TransPrim) (told : AllTold k) (yellow : IsAllYellow t.replica.held) (marked : HasMarked k t.replica.held) → InParting k t
    Reds : (state : t.replica.state ≡ NonPrim false) (none : decides (T low).heard ≡ false) (marked : HasMarked k t.replica.held) → InParting k t

  -- ---- places that aren't handed

  module _ (k n : ℕ) (least : low ≤ k) (behind : k ≤ n) (inside : n ≤ length list) (none : (j : ℕ) → k ≤ j → j < n → has places (suc j) ≡ true → ⊥) where
    quiet-on : IsQuiet k → IsQuiet n
    quiet-on quiet j x b le lt there e is = elim (cases_lt j k) [
      | inl before ↦ quiet j x b le before there e is
      | inr after ↦ none j after lt there
    ]

    told-on : AllTold k → AllTold n
    told-on told q is = announced-to k n q behind inside (told q is)

    heard-on : (heard : List ℕ) → HasHeard k heard → HasHeard n heard
    heard-on heard so = record {
      few = so.few;
      more = so.more;
      inside = λ q is. announced-to k n q behind inside (so.inside q is);
      came = λ j x lt there e is. elim (cases_lt j k) [
        | inl before ↦ so.came j x before there e is
        | inr after ↦ absurd (none j after lt there)
      ];
    }

    marked-on : (h : Held) → HasMarked k h → HasMarked n h
    marked-on h old = record {
      all = old.all;
      is = old.is;
      made = old.made;
      base = old.base;
      upper = λ q. (let a = old.upper q in let b = grown-to k n q least behind inside in omega (arith, a, b));
      lower = λ j x b le lt there e is. elim (cases_lt j k) [
        | inl before ↦ old.lower j x b le before there e is
        | inr after ↦ absurd (none j after lt there)
      ];
    }

    parting-on : (t : Turn) → InParting k t → InParting n t
    parting-on t (Waits cut heard state held so quiet) = Waits cut heard state held (heard-on heard so) (quiet-on quiet)
    parting-on t (Knows cut state held told quiet) = Knows cut state held (told-on told) (quiet-on quiet)
    parting-on t (Marks state told yellow marked) = Marks state (told-on told) yellow (marked-on t.replica.held marked)
    parting-on t (Reds state none' marked) = Reds state none' (marked-on t.replica.held marked)

  -- ---- a place that is handed

  module _ (n : ℕ) (s : Sent Msg) (next : slice_get list n ≡ Some s) (inside : n < length list) (above : low ≤ n) (there : has places (suc n) ≡ true) where
    say : (m : Msg) → s.message ≡ m → may_say set conf (T n) s.from m ≡ true
    say m is = subst (λ m. may_say set conf (T n) s.from m ≡ true) is (may-stand c conf n s i.talk next)

    ended-here : is_ended set (T n) ≡ true
    ended-here = ended-at n above (omega (arith, inside))

    late : (m : Msg) → s.message ≡ m → is_late m ≡ true
    late m is = late-alone set conf (T n) s.from m (say m is) ended-here

    same-sent : (j : ℕ) (x : Sent Msg) → n ≤ j → j < suc n → slice_get list j ≡ Some x → s ≡ x
    same-sent j x le lt e =
        let here : n ≡ j = omega (arith, le, lt) in
        let one : Some s ≡ Some x = sym next ∙ ap (slice_get list) here ∙ e in
        ap (λ (o : Option (Sent Msg)). option_map_or (λ y. y) o s) one

    told-next : AllTold n → AllTold (suc n)
    told-next told q is = announced-to n (suc n) q (omega arith) (omega (arith, inside)) (told q is)

    -- no action stands here
    quiet-next : act_in s.message ≡ None → IsQuiet n → IsQuiet (suc n)
    quiet-next none quiet j x b le lt has_place e is = elim (cases_lt j n) [
      | inl before ↦ quiet j x b le before has_place e is
      | inr after ↦
          let one = same-sent j x after lt e in
          let clash : None ≡ Some b = sym none ∙ ap (λ (y : Sent Msg). act_in y.message) one ∙ ap act_in is in cc
    ]

    -- what its sender said before is known
    reached : (h : Held) → HasMarked n h → (m : ℕ) → low + m ≤ n → count_behind (T (low + m)) s.from ≤ index_in h.queue.red_cut s.from
    reached h has_it zero le = subst (λ k. count_behind (T k) s.from ≤ index_in h.queue.red_cut s.from) (let e : low ≡ low + 0 = omega arith in e) (has_it.base s.from)
    reached h has_it (suc m) le =
        let j = low + m in
        let at = some-at list j (omega arith) in
        let known = reached h has_it m (omega arith) in
        subst (λ k. count_behind (T k) s.from ≤ index_in h.queue.red_cut s.from) (let e : suc (low + m) ≡ low + suc m = omega arith in e)
        (one j at.0 at.1 (omega arith) (omega arith) known (counts s.from j at.0 at.1 (ended-at j (omega arith) (omega arith)))) where
          one : (j : ℕ) (x : Sent Msg) → slice_get list j ≡ Some x → low ≤ j → j < n → count_behind (T j) s.from ≤ index_in h.queue.red_cut s.from → Counts s.from j x →
              count_behind (T (suc j)) s.from ≤ index_in h.queue.red_cut s.from
          one j x e le lt known (Same count) = omega (arith, known, count)
          one j x e le lt known (More b is mine count first) =
              let sender : x.from ≡ s.from = sym (creator-is j x b e is) ∙ mine in
              let low' = has_it.lower j x b le lt (earlier-there n j s x next e le lt sender there) e is in
              let here : b.id.index ≤ index_in h.queue.red_cut s.from = subst (λ q. b.id.index ≤ index_in h.queue.red_cut q) mine low' in
              omega (arith, here, count)

    module _ (a : Action) (is : s.message ≡ ActionMsg a) where
      -- the action is the next of its creator
      act-made : (h : Held) → HasMarked n h → is_unmade h a ≡ false
      act-made h has_it = made-so h a (λ own. has_it.made n s a next is own)

      act-index : (h : Held) → HasMarked n h → a.id.index ≡ suc (index_in h.queue.red_cut a.id.creator)
      act-index h has_it =
          let q = a.id.creator in
          let mine = creator-is n s a next is in
          let number = numbered-next c conf n s i.talk next a is in
          let high = has_it.upper q in
          let low' : count_behind (T (low + (n - low))) q ≤ index_in h.queue.red_cut q =
          subst (λ x. count_behind (T (low + (n - low))) x ≤ index_in h.queue.red_cut x) (sym mine) (reached h has_it (n - low) (omega arith)) in
          let same : count_behind (T (low + (n - low))) q ≡ count_behind (T n) q = ap (λ m. count_behind (T m) q) (let e : low + (n - low) ≡ n = omega arith in e) in
          omega (arith, number, high, low', same)

      act-fits : (h : Held) → HasMarked n h → fits_red h a ≡ true
      act-fits h has_it = next-red h a (act-index h has_it) (act-made h has_it)

      -- behind its mark
      marked-next : (h new : Held) (has_it : HasMarked n h) → IsOneself c.start new has_it.all → new.id ≡ h.id → created new ≡ created h →
          ((q : ℕ) → index_in new.queue.red_cut q ≡ index_in h.queue.red_cut q + one_of a q) → HasMarked (suc n) new
      marked-next h new has_it is_now id_is created_is red = record {
        all = has_it.all;
        is = is_now;
        made = λ j x b e of mine. subst (λ m. b.id.index ≤ m) (sym created_is) (has_it.made j x b e of (mine ∙ id_is));
        base = λ q. (let old = has_it.base q in let e = red q in omega (arith, old, e));
        upper = λ q. (let old = has_it.upper q in let e = red q in
            let more : count_behind (T (suc n)) q ≡ count_behind (T n) q + one_of a q =
            ap (λ (x : Talk). count_behind x q) (talk-next c conf n s i.talk next ∙ ap (hears_from (T n) s.from) is) ∙ counted-next (T n) a q in omega (arith, old, e, more));
        lower = λ j x b le lt has_place e of. elim (cases_lt j n) [
          | inl before ↦ (let old = has_it.lower j x b le before has_place e of in let f = red b.id.creator in omega (arith, old, f))
          | inr after ↦
              let act : Some a ≡ Some b = sym (ap act_in is) ∙ ap (λ (y : Sent Msg). act_in y.message) (same-sent j x after lt e) ∙ ap act_in of in
              let same : a ≡ b = ap (λ (o : Option Action). option_map_or (λ y. y) o a) act in
              let f = red a.id.creator in
              let unit : one_of a a.id.creator ≡ 1 = cond-true (a.id.creator == a.id.creator) 1 0 (eq-eqb a.id.creator a.id.creator refl) in
              subst (λ (y : Action). y.id.index ≤ index_in new.queue.red_cut y.id.creator) same (let g = act-index h has_it in omega (arith, f, unit, g))
        ];
      }

      -- an own action that becomes known is one that was created
      act-own : (h : Held) (has_it : HasMarked n h) → LeftOwn h.own h.queue.red_cut h.id h.own (after_first h.own a.id) a.id
      act-own h has_it =
          left-own h.own h.queue.red_cut h.id h.own a.id (rising-red c.start h has_it.all has_it.is) has_it.is.contiguous.own has_it.is.contiguous.mine (act-index h has_it) (made-by h a (act-made h has_it))
          (sym (ap (λ n. drop n h.own) (no-less (length h.own))), (let same : length h.own ≤ length h.own = omega arith in same)) where
            no-less : (n : ℕ) → n - n ≡ 0
            no-less n = omega arith

      yellow-marked : (t : Turn) → IsAllYellow t.replica.held → HasMarked n t.replica.held → IsAllYellow (mark_yellow t a).replica.held × HasMarked (suc n) (mark_yellow t a).replica.held
      yellow-marked t yellow has_it =
          let h = t.replica.held in
          let index = act-index h has_it in
          let now = marks-yellow c.start has_it.all t a has_it.is yellow (act-made h has_it) index in (
            subst (λ (x : Replica). IsAllYellow x.held) (sym now) (cut_behind-append h.queue.green_cut h.queue.yellow (a.id ∷ []) ∙ ap (λ cut. raise cut a.id) yellow),
            marked-next h (mark_yellow t a).replica.held has_it
                (subst (λ (x : Replica). IsOneself c.start x.held has_it.all) (sym now) (yellow-oneself c.start h has_it.all has_it.is yellow a index))
                (ap (λ (x : Replica). x.held.id) now) (ap (λ (x : Replica). created x.held) now ∙ (act-own h has_it).made)
                (λ q. ap (λ (x : Replica). index_in x.held.queue.red_cut q) now ∙ raised-next h.queue.red_cut a (rising-red c.start h has_it.all has_it.is) index q),
          )

      red-marked : (t : Turn) → HasMarked n t.replica.held → ((mark_red t a).replica.state ≡ t.replica.state) × HasMarked (suc n) (mark_red t a).replica.held
      red-marked t has_it =
          let h = t.replica.held in
          let index = act-index h has_it in
          let now = marks-red t a (act-made h has_it) index in (
            ap (λ (x : Replica). x.state) now,
            marked-next h (mark_red t a).replica.held has_it
                (subst (λ (x : Replica). IsOneself c.start x.held has_it.all) (sym now) (red-oneself c.start h has_it.all has_it.is a index))
                (ap (λ (x : Replica). x.held.id) now) (ap (λ (x : Replica). created x.held) now ∙ (act-own h has_it).made)
                (λ q. ap (λ (x : Replica). index_in x.held.queue.red_cut q) now ∙ raised-next h.queue.red_cut a (rising-red c.start h has_it.all has_it.is) index q),
          )

      -- ---- in No

      -- it shows that somebody has installed the attempt; so its member has received the announcement of each member, all of which stand before it
      announcement-there : (cut : IsCutShort) (q : ℕ) → has (remaining (T low).heard) q ≡ true → (lacks_announcement c conf p q ≡ false) × (0 < announced_at c conf q) × (announced_at c conf q ≤ n)
      announcement-there cut q member =
          let told = (and_parts ((a.id.creator == s.from) && may_go_on set (T n) s.from) (not (decides (T n).heard) || all_announced (T n)) (say (ActionMsg a) is)).1 in
          let heard = heard-at n above (omega (arith, inside)) in
          let all : all_announced (T n) ≡ true = sym (ap (λ b. not b || all_announced (T n)) (ap decides heard ∙ cut.decided)) ∙ told in
          let announced = all-member (has (T n).announced) (remaining (T n).heard) q (ap (λ l. has (remaining l) q) heard ∙ member) all in
          let place = announced-place (take n list) q announced in
          let front = announced-front (take n list) list q (Front-take n list) place in
          let within = announced-within (take n list) q in
          let short = take-short n list in
          let shows = act-shows c i conf cut.a cut.found (record { place = suc n; sent = s; found = next; act = ap (λ m. is_some (act_in m)) is }) in
          let fact = i.attempt.installed_announced conf q (ap (λ (o : Option Attempt). option_map_or is_installed o false) cut.found ∙ shows) in
          let both = when-is (has cut.a.set q) ((0 < announced_at c conf q) × (announced_at c conf q ≤ received_by_all c conf)) (ap (λ l. has l q) (sym cut.set_is ∙ cut.attempt) ∙ member)
          (subst (λ (o : Option Attempt). IfSome o (λ a. When (has a.set q) ((0 < announced_at c conf q) × (announced_at c conf q ≤ received_by_all c conf)))) cut.found fact) in
          let got = received-one (conf_of c conf) (announced_at c conf q) p (passes (all_received (conf_of c conf)) (length list) (announced_at c conf q) both.0 both.1) cut.member in
          let some : (announced_at c conf q == 0) ≡ false = ne_eqb (announced_at c conf q) 0 (λ e. (let lt = both.0 in absurd (omega (arith, e, lt)))) in (
            ap₂ (λ x y. x || not y) some got,
            both.0,
            omega (arith, front, place, within, short),
          )

      all-heard : (cut : IsCutShort) (heard : List ℕ) → HasHeard n heard → is_within (attempt_set r.held) heard ≡ true
      all-heard cut heard so = list_all_in (has heard) (attempt_set r.held) (λ q member. one q (announcement-there cut q (ap (λ l. has l q) (sym cut.attempt) ∙ member)) (announced-there 0 list q)) where
        one : (q : ℕ) → (lacks_announcement c conf p q ≡ false) × (0 < announced_at c conf q) × (announced_at c conf q ≤ n) → (announced_at c conf q ≡ 0) ⊎ StandsAt 0 list q → has heard q ≡ true
        one q found (inl none) = absurd (let lt = found.1 in omega (arith, none, lt))
        one q found (inr at) =
            let lt : at.index < n = (let e = at.place in let le = found.2 in omega (arith, e, le)) in
            ⊎_elim (λ before. so.more q before) (λ now. subst (λ x. has heard x ≡ true) at.from (so.came at.index at.sent lt now at.found at.announces)) (cut.received q found.0 at)

    abbrev Result : State → Turn → Msg → Type 0
    Result state t m = IsUsedLeaving true state t s.from m × InParting (suc n) (on_message state s.from m t)

    -- who announces hasn't done so before, and there was a quorum
    announces : (id at : ℕ) → s.message ≡ Cpc id at →
        (((id == s.from) && (at == conf)) ≡ true) × (has (remaining (T low).heard) s.from ≡ true) × (has (T n).announced s.from ≡ false) × (decides (T low).heard ≡ true)
    announces id at is =
        let one = and_parts ((((id == s.from) && (at == conf)) && may_go_on set (T n) s.from) && decides (T n).heard) (not (has (T n).announced s.from)) (say (Cpc id at) is) in
        let two = and_parts (((id == s.from) && (at == conf)) && may_go_on set (T n) s.from) (decides (T n).heard) one.0 in
        let three = and_parts ((id == s.from) && (at == conf)) (may_go_on set (T n) s.from) two.0 in
        let stays = (and_parts (is_ended set (T n)) (has (remaining (T n).heard) s.from) three.1).1 in
        let heard = sym (heard-at n above (omega (arith, inside))) in
        (three.0, ap (λ l. has (remaining l) s.from) heard ∙ stays, not-true (has (T n).announced s.from) one.1, ap decides heard ∙ two.1)

    none-left : {P : Type 0} → AllTold n → (id at : ℕ) → s.message ≡ Cpc id at → P
    none-left told id at is = absurd (let a = announces id at is in let clash : true ≡ false = sym (told s.from a.1) ∙ a.2 in cc)

    no-used : (t : Turn) (cut : IsCutShort) (heard : List ℕ) → t.replica.state ≡ No conf heard → t.replica.held ≡ r.held → HasHeard n heard → IsQuiet n → (m : Msg) → s.message ≡ m → Result (No conf heard) t m
    unfolding on_message
    no-used t cut heard state held so quiet (ActionMsg a) is = absurd (let clash : true ≡ false = sym (all-heard a is cut heard so) ∙ so.few in cc)
    no-used t cut heard state held so quiet (StateMsg x) is = absurd (let clash : false ≡ true = late (StateMsg x) is in cc)
    no-used t cut heard state held so quiet (GreenItem place a) is = absurd (let clash : false ≡ true = late (GreenItem place a) is in cc)
    no-used t cut heard state held so quiet (RedItem a) is = absurd (let clash : false ≡ true = late (RedItem a) is in cc)
    no-used t cut heard state held so quiet (Cpc id at) is =
        let says = announces id at is in
        let more = with_member heard s.from in
        let counts : is_announced t.replica.held conf s.from id at ≡ true =
        and_from ((id == s.from) && (at == conf)) (has (attempt_set t.replica.held) s.from) says.0 (ap (λ h. has (attempt_set h) s.from) held ∙ ap (λ l. has l s.from) cut.attempt ∙ says.1) in
        let still = quiet-next (ap act_in is) quiet in (
          counts,
          subst (InParting (suc n)) (sym (cond-true (is_announced t.replica.held conf s.from id at) (no_with t conf more) t counts))
              (cond_both (is_within (attempt_set t.replica.held) more) (go_to t Un) (go_to t (No conf more)) (InParting (suc n))
              (λ y. Knows cut refl held (λ q member. inside-next q (all-member (has more) (attempt_set t.replica.held) q (ap (λ h. has (attempt_set h) q) held ∙ ap (λ l. has l q) cut.attempt ∙ member) y)) still)
              (λ no'. Waits cut more refl held (record {
                few = ap (λ h. is_within (attempt_set h) more) (sym held) ∙ no';
                more = λ q before. has-with_member heard s.from q ∙ or_left (has heard q) (s.from == q) (so.more q before);
                inside = inside-next;
                came = came-next;
              }) still)),
        ) where
          inside-next : (q : ℕ) → has (with_member heard s.from) q ≡ true → has (T (suc n)).announced q ≡ true
          inside-next q there' = elim (or_cases (has heard q) (s.from == q) (sym (has-with_member heard s.from q) ∙ there')) [
            | inl before ↦ announced-to n (suc n) q (omega arith) (omega (arith, inside)) (so.inside q before)
            | inr now ↦ ap (λ (x : Talk). has x.announced q) (talk-next c conf n s i.talk next ∙ ap (hears_from (T n) s.from) is)
                ∙ has-with_member (T n).announced s.from q ∙ or_right (has (T n).announced q) (s.from == q) now
          ]

          came-next : (j : ℕ) (x : Sent Msg) → j < suc n → has places (suc j) ≡ true → slice_get list j ≡ Some x → is_some (announcer_in x.message) ≡ true → has (with_member heard s.from) x.from ≡ true
          came-next j x lt has_place e announces' = elim (cases_lt j n) [
            | inl before ↦ has-with_member heard s.from x.from ∙ or_left (has heard x.from) (s.from == x.from) (so.came j x before has_place e announces')
            | inr after ↦ has-with_member heard s.from x.from ∙ or_right (has heard x.from) (s.from == x.from) (eq-eqb s.from x.from (ap (λ (y : Sent Msg). y.from) (same-sent j x after lt e)))
          ]

    -- ---- in Un

    -- behind the installation nothing is marked yet
    installed-marked : (t : Turn) (cut : IsCutShort) → t.replica.state ≡ Un → t.replica.held ≡ r.held → IsQuiet n → HasMarked n (install t).replica.held
    installed-marked t cut state held quiet =
        let own : IsOneself c.start t.replica.held (greens_of c p) = subst (λ (h : Held). IsOneself c.start h (greens_of c p)) (sym held) cut.oneself in
        let done = installed-all c.start (greens_of c p) t own in
        let mine : (install t).replica.held.id ≡ p = (installs-to t TransPrim (ap is_attempting state) refl).id ∙ ap (λ (h : Held). h.id) held ∙ named in
        let red : (q : ℕ) → index_in (install t).replica.held.queue.red_cut q ≡ count_behind (T low) q = λ q. ap (λ cut. index_in cut q) (done.red_cut ∙ ap (λ (h : Held). h.queue.red_cut) held) ∙ cut.red q in
        record {
          all = greens_of c p ++ installed_by t.replica.held;
          is = done.is;
          made = λ j x b e of own'. absurd (not-silent c conf j x i.talk e b of p cut.silent (own' ∙ mine));
          base = λ q. (let e = red q in omega (arith, e));
          upper = λ q. (let e = red q in let up' = grown-to low n q (omega arith) above (omega (arith, inside)) in omega (arith, e, up'));
          lower = λ j x b le lt has_place e of. absurd (quiet j x b le lt has_place e of);
        }

    un-used : (t : Turn) (cut : IsCutShort) → t.replica.state ≡ Un → t.replica.held ≡ r.held → AllTold n → IsQuiet n → (m : Msg) → s.message ≡ m → Result Un t m
    unfolding on_message
    un-used t cut state held told quiet (ActionMsg a) is =
        let own : IsOneself c.start t.replica.held (greens_of c p) = subst (λ (h : Held). IsOneself c.start h (greens_of c p)) (sym held) cut.oneself in
        let behind = installed-marked t cut state held quiet in
        let now = yellow-marked a is (install t) (installed-yellow c.start (greens_of c p) t own) behind in
        ((can-install c.start (greens_of c p) t own, act-fits a is (install t).replica.held behind), Marks refl (told-next told) now.0 now.1)
    un-used t cut state held told quiet (StateMsg x) is = absurd (let clash : false ≡ true = late (StateMsg x) is in cc)
    un-used t cut state held told quiet (GreenItem place a) is = absurd (let clash : false ≡ true = late (GreenItem place a) is in cc)
    un-used t cut state held told quiet (RedItem a) is = absurd (let clash : false ≡ true = late (RedItem a) is in cc)
    un-used t cut state held told quiet (Cpc id at) is = none-left told id at is

    -- ---- in TransPrim and in NonPrim

    trans-used : (t : Turn) → t.replica.state ≡ TransPrim → AllTold n → IsAllYellow t.replica.held → HasMarked n t.replica.held → (m : Msg) → s.message ≡ m → Result TransPrim t m
    unfolding on_message
    trans-used t state told yellow marked (ActionMsg a) is =
        let now = yellow-marked a is t yellow marked in
        (act-fits a is t.replica.held marked, Marks ((even-mark_yellow t a).state ∙ state) (told-next told) now.0 now.1)
    trans-used t state told yellow marked (StateMsg x) is = absurd (let clash : false ≡ true = late (StateMsg x) is in cc)
    trans-used t state told yellow marked (GreenItem place a) is = absurd (let clash : false ≡ true = late (GreenItem place a) is in cc)
    trans-used t state told yellow marked (RedItem a) is = absurd (let clash : false ≡ true = late (RedItem a) is in cc)
    trans-used t state told yellow marked (Cpc id at) is = none-left told id at is

    alone-used : (t : Turn) → t.replica.state ≡ NonPrim false → decides (T low).heard ≡ false → HasMarked n t.replica.held → (m : Msg) → s.message ≡ m → Result (NonPrim false) t m
    unfolding on_message
    alone-used t state none marked (ActionMsg a) is = (let now = red-marked a is t marked in (act-fits a is t.replica.held marked, Reds (now.0 ∙ state) none now.1))
    alone-used t state none marked (StateMsg x) is = absurd (let clash : false ≡ true = late (StateMsg x) is in cc)
    alone-used t state none marked (GreenItem place a) is = absurd (let clash : false ≡ true = late (GreenItem place a) is in cc)
    alone-used t state none marked (RedItem a) is = absurd (let clash : false ≡ true = late (RedItem a) is in cc)
    alone-used t state none marked (Cpc id at) is = absurd (let clash : true ≡ false = sym (announces id at is).3 ∙ none in cc)

    -- one message
    message-used : (t : Turn) → InParting n t → Result t.replica.state t s.message
    message-used t (Waits cut heard state held so quiet) = subst (λ x. Result x t s.message) (sym state) (no-used t cut heard state held so quiet s.message refl)
    message-used t (Knows cut state held told quiet) = subst (λ x. Result x t s.message) (sym state) (un-used t cut state held told quiet s.message refl)
    message-used t (Marks state told yellow marked) = subst (λ x. Result x t s.message) (sym state) (trans-used t state told yellow marked s.message refl)
    message-used t (Reds state none marked) = subst (λ x. Result x t s.message) (sym state) (alone-used t state none marked s.message refl)

    place-used : (t : Turn) → InParting n t → AreTakenLeaving true t (delivery_at (conf_of c conf) (suc n)) × InParting (suc n) (take_all (delivery_at (conf_of c conf) (suc n)) t)
    unfolding delivery_at take_one
    place-used t is =
        let one = message-used t is in
        subst (λ (o : Option (Sent Msg)). (let list = option_map_or (λ (s : Sent Msg). Message (suc n) s.from s.message ∷ []) o [] in AreTakenLeaving true t list × InParting (suc n) (take_all list t))) (sym next)
        ((one.0, tt), one.1)

  -- all places
  places-used : (rest : List ℕ) (k : ℕ) (t : Turn) → InParting k t → low ≤ k → ascend_within k (length list) rest ≡ true →
      ((x : ℕ) → k < x → has places x ≡ true → has rest x ≡ true) → ((x : ℕ) → has rest x ≡ true → has places x ≡ true) → AreTakenLeaving true t (deliveries_at (conf_of c conf) rest)
  places-used [] k t has_it least up later inside = tt
  places-used (zero ∷ rest) k t has_it least up later inside =
      absurd (let lt : k < 0 = ltb-true k 0 (and_parts (nat_lt k 0) (nat_le 0 (length list)) (and_parts (nat_lt k 0 && nat_le 0 (length list)) (ascend_within 0 (length list) rest) up).0).0 in omega (arith, lt))
  places-used (suc n ∷ rest) k t has_it least up later inside =
      let a = and_parts (nat_lt k (suc n) && nat_le (suc n) (length list)) (ascend_within (suc n) (length list) rest) up in
      let b = and_parts (nat_lt k (suc n)) (nat_le (suc n) (length list)) a.0 in
      let lt : k < suc n = ltb-true k (suc n) b.0 in
      let le : suc n ≤ length list = leb-true (suc n) (length list) b.1 in
      let at = some-at list n (omega (arith, le)) in
      let none : (j : ℕ) → k ≤ j → j < n → has places (suc j) ≡ true → ⊥ = λ j low' high there. apart j high (or_cases (suc n == suc j) (has rest (suc j)) (later (suc j) (omega (arith, low')) there)) a.1 in
      let one = place-used n at.0 at.1 (omega (arith, le)) (omega (arith, lt, least)) (inside (suc n) (or_left (suc n == suc n) (has rest (suc n)) (eq-eqb (suc n) (suc n) refl))) t
      (parting-on k n least (omega (arith, lt)) (omega (arith, le)) none t has_it) in
      taken-append true (delivery_at (conf_of c conf) (suc n)) (deliveries_at (conf_of c conf) rest) t one.0
      (places-used rest (suc n) (take_all (delivery_at (conf_of c conf) (suc n)) t) one.1 (omega (arith, lt, least)) a.1
      (λ x high there. behind x high (or_cases (suc n == x) (has rest x) (later x (omega (arith, lt, high)) there)))
      (λ x there. inside x (or_right (suc n == x) (has rest x) there))) where
        apart : (j : ℕ) → j < n → ((suc n == suc j) ≡ true) ⊎ (has rest (suc j) ≡ true) → ascend_within (suc n) (length list) rest ≡ true → ⊥
        apart j high (inl same) up = let e : suc n ≡ suc j = eqb-true (suc n) (suc j) same in omega (arith, e, high)
        apart j high (inr there) up = let more = ascends-above rest (suc n) (length list) (suc j) up there in omega (arith, more, high)

        behind : (x : ℕ) → suc n < x → ((suc n == x) ≡ true) ⊎ (has rest x ≡ true) → has rest x ≡ true
        behind x high (inl same) = absurd (let e : suc n ≡ x = eqb-true (suc n) x same in omega (arith, e, high))
        behind x high (inr there) = there

-- ---- who leaves

module _ (c : Chronicle) (i : Invariant c) (p : ℕ) (r : Replica) (conf : ℕ) (up : replica_of c.world p ≡ Some r) (phase : phase_of c.world.group p ≡ Regular conf) (places : List ℕ)
    (closed : hold_earlier (conf_of c conf) (delivered_to c.world.group p) places ≡ true) (ascends : ascend_within (delivered_to c.world.group p) (length (ordered_in c conf)) places ≡ true)
    (holds : hold_received (conf_of c conf) p (delivered_to c.world.group p) places ≡ true) where
  abbrev X : Talk
  X = handed_talk c conf p

  abbrev low : ℕ
  low = delivered_to c.world.group p

  mode : IsModeData c p r
  mode = subst (λ (o : Option Replica). IfSome o (IsModeData c p)) up (i.replica.mode_data p)

  core : IsCore c r.held (greens_of c p)
  core = subst (λ (o : Option Replica). IfSome o (λ r. IsCore c r.held (greens_of c p))) up (i.replica.cores.memory p)

  oneself : IsOneself c.start r.held (greens_of c p)
  oneself = record { made_of = core.made_of; contiguous = core.contiguous; yellow_closed = core.yellow_closed }

  is-state : r.state ≡ state_in (members_in c conf) conf X p
  is-state = subst (λ (x : Phase). IsStateIn c p x r) phase (subst (λ (o : Option Replica). IfSome o (IsStateIn c p (phase_of c.world.group p))) up (i.talk.mode_fits p))

  data-of : (st : State) → r.state ≡ st → HasModeData c r.held (Regular conf) st
  data-of st is = subst (λ (s : State). HasModeData c r.held (Regular conf) s) is (subst (λ (x : Phase). HasModeData c r.held x r.state) phase mode.data_of)

  numbers : (st : State) → r.state ≡ st → AreNumbered c conf p r.held st
  numbers st is =
      subst (AreNumbered c conf p r.held) is
      (subst (λ (x : Phase). AreNumberedAt c p x r) phase (subst (λ (o : Option Replica). IfSome o (AreNumberedAt c p (phase_of c.world.group p))) up (i.talk.acts_numbered.handed p)))

  abbrev given : List (Delivery Msg)
  given = deliveries_at (conf_of c conf) places

  -- all that was said to be made is, and the member knows what was handed to it
  begins-marked : ((q : ℕ) → index_in r.held.queue.red_cut q ≡ count_behind X q) → (begun : is_ended (members_in c conf) X ≡ true) → HasMarked c i p conf r up mode.id low places closed begun low r.held
  begins-marked red begun = record {
    all = greens_of c p;
    is = oneself;
    made = λ j s b e is own. made-by r.held b (message-made c conf j p s b r.held i.replica.made_once e (ap action_in is) (running-core c p r up) mode.id) own;
    base = λ q. (let e = red q in omega (arith, e));
    upper = λ q. (let e = red q in omega (arith, e));
    lower = λ j s b le lt there e is. absurd (omega (arith, le, lt));
  }

  -- a primary component
  from-primary : r.state ≡ RegPrim → AreTakenLeaving true (go_to (begin r) TransPrim) given
  from-primary state =
      let d = data-of RegPrim state in
      let green_red : r.held.queue.green_cut ≡ r.held.queue.red_cut = sym (core.made_of.red_cut ∙ ap (λ xs. cut_behind r.held.queue.green_cut (names_of xs)) d.1) in
      let red : (q : ℕ) → index_in r.held.queue.red_cut q ≡ count_behind X q = λ q. ap (λ cut. index_in cut q) (sym green_red) ∙ (numbers RegPrim state).0 q in
      let all = primary-announced (members_in c conf) conf X p (ap is_primary (sym is-state ∙ state)) in
      let begun = creating-ended (members_in c conf) conf X p (ap is_creating (sym is-state ∙ state)) in
      places-used c i p conf r up mode.id low places closed begun places low (go_to (begin r) TransPrim)
      (Marks refl (λ q member. all-member (has X.announced) (remaining X.heard) q member all) (ap (cut_behind r.held.queue.green_cut) d.2 ∙ green_red) (begins-marked red begun))
      (omega arith) ascends (λ x high there. there) (λ x there. there)

  -- outside of one, behind the end of an exchange
  from-alone : r.state ≡ NonPrim true → AreTakenLeaving true (go_to (begin r) (NonPrim false)) given
  from-alone state =
      let begun = creating-ended (members_in c conf) conf X p (ap is_creating (sym is-state ∙ state)) in
      places-used c i p conf r up mode.id low places closed begun places low (go_to (begin r) (NonPrim false))
      (Reds refl (undecided (members_in c conf) conf X p (sym is-state ∙ state)) (begins-marked (numbers (NonPrim true) state).0 begun))
      (omega arith) ascends (λ x high there. there) (λ x there. there)

  -- an attempt that is cut short
  from-attempt : r.state ≡ Construct conf X.announced → AreTakenLeaving true (go_to (begin r) (No conf X.announced)) given
  from-attempt state =
      let set = members_in c conf in
      let now = attempting-now c i p conf r phase up (ap is_attempting state) in
      let said = announcing set conf X p conf X.announced (sym is-state ∙ state) in
      let set_is : attempt_set r.held ≡ now.a.set = ap (λ v. option_map_or (λ (x : Vulnerable). x.set) v []) now.mine in
      let attempt : attempt_set r.held ≡ remaining X.heard = set_is ∙ now.shape.parts.set ∙ ap remaining (whole-through c conf p low i.talk.talk_legal said.ended).heard in
      let cut : IsCutShort c i p conf r up mode.id low places closed said.ended = record {
        a = now.a;
        found = now.found;
        set_is = set_is;
        attempt = attempt;
        decided = said.decided;
        red = numbers (Construct conf X.announced) state;
        oneself = oneself;
        silent = (i.talk.sent_iff_due conf p (ap (is_regular_at conf) phase ∙ eq-eqb conf conf refl)).actions (ap is_creating (sym is-state ∙ state));
        member = (subst (IsPhase c p low) phase (i.net.phase_sound.phase p)).0;
        received = covered c p conf r places (record { regular = phase; holds = holds; state = is-state; attempt = λ ended stays decided. attempt }) i.talk.talk_legal;
      } in
      places-used c i p conf r up mode.id low places closed said.ended places low (go_to (begin r) (No conf X.announced))
      (Waits cut X.announced refl refl (record {
        few = ap (λ l. is_within l X.announced) attempt ∙ said.few;
        more = λ q is. is;
        inside = λ q is. is;
        came = λ j x lt there e is. absurd (let more = ascends-above places low (length (ordered_in c conf)) (suc j) ascends there in omega (arith, lt, more));
      }) (λ j x b le lt there e is. absurd (omega (arith, le, lt)))) (omega arith) ascends (λ x high there. there) (λ x there. there)

  -- What comes in its parting is used.
  pub leaving-taken : (at : ℕ) (others : List ℕ) → AreTakenLeaving (not (is_exchanging r.state)) (begin r) (TransitionalIn at others ∷ given)
  unfolding take_one on_transitional
  leaving-taken at others = (
    tt,
    subst (λ st. AreTakenLeaving (not (is_exchanging st)) (on_transitional st (begin r)) given) (sym is-state)
        (never (members_in c conf) conf X p (λ st. r.state ≡ st → AreTakenLeaving (not (is_exchanging st)) (on_transitional st (begin r)) given)
        (λ k s x e. alone-taken (conf_of c conf) places (go_to (begin r) (NonPrim false)) refl)
        (λ k x n e. alone-taken (conf_of c conf) places (go_to (begin r) (NonPrim false)) refl)
        (λ e. left-taken (conf_of c conf) places (begin r) e)
        (λ e. from-alone e)
        (λ e. from-primary e)
        (λ k s e.
        let waits = is-state ∙ waits-for (members_in c conf) conf X p (ap is_attempting (sym is-state ∙ e)) in
        subst (λ st. AreTakenLeaving (not (is_exchanging st)) (on_transitional st (begin r)) given) (sym waits ∙ e) (from-attempt waits))
        is-state),
  )

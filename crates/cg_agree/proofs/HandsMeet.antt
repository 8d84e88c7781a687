-- What is handed to a member in its regular phase is used by the state in which it is, fits where it is marked, and what the member has to
-- send is there.
use Rattle.std.proofs.Common.{◌≡◌, ℕ, suc, ◌+◌, ◌≤◌, Bool, true, false, not, ◌&&◌, ◌||◌, List, [], ◌∷◌, ◌++◌, length, take, Option, Some, None, IfSome, refl, sym, ap, ap₂, subst, ◌∙◌, arith, inl, inr, eq-eqb, if◌then◌else◌}
use Rattle.std.specs.Prelude.{◌==◌, slice_get, nat_le, IsTrue}
use Rattle.std.proofs.lemmas.Bool.{cases_Bool, cond-true, and_parts, and_from, le-leb, leb-true, not-true}
use Rattle.cg_base.specs.Cuts.{index_in}
use Rattle.cg_base.specs.Sets.{has, is_within, with_member}
use Rattle.cg_base.specs.Choice.{Either}
use Rattle.cg_action.specs.declared.action.Action.{Action}
use Rattle.cg_queue.specs.Queue.{QueueView, green_count}
use Rattle.cg_knowledge.specs.declared.summary.Summary.{Summary}
use Rattle.cg_knowledge.specs.Summaries.{senders, gone, remaining}
use Rattle.cg_knowledge.specs.Verdict.{decides}
use Rattle.cg_knowledge.specs.Yellow.{common_yellow}
use Rattle.cg_plan.specs.declared.parts.Item.{Item}
use Rattle.cg_plan.specs.declared.parts.Item.TheVariants.{Green, Red}
use Rattle.cg_plan.specs.declared.parts.Part.{Part}
use Rattle.cg_plan.specs.Items.{items_of_plan}
use Rattle.cg_plan.specs.Plan.{plan_of}
use Rattle.cg_plan.specs.Progress.{is_done, is_wanted, next_item, turn_of}
use Rattle.cg_wire.specs.declared.message.Msg.{Msg}
use Rattle.cg_wire.specs.declared.message.Msg.TheVariants.{Action as ActionMsg, State as StateMsg, GreenItem, RedItem, Cpc}
use Rattle.cg_group.specs.declared.phase.Phase.{Phase}
use Rattle.cg_group.specs.declared.phase.Phase.TheVariants.{Regular}
use Rattle.cg_group.specs.State.{Sent, phase_of, delivered_to}
use Rattle.cg_client.specs.Replica.{Held, State, RegPrim, ExchangeStates, Construct, NonPrim, Left, Replica}
use Rattle.cg_client.specs.Turn.{Turn, begin}
use Rattle.cg_client.specs.Marks.{is_unmade, can_be_green, mark_red, mark_green_at}
use Rattle.cg_states.specs.Construct.{attempt_set}
use Rattle.cg_states.specs.ExchangeActions.{progress, take_item}
use Rattle.cg_states.specs.PlanEnd.{usable_names}
use Rattle.cg_model.specs.World.{replica_of}
use Rattle.cg_model.specs.Chronicle.{Chronicle}
use Rattle.cg_model.specs.Facts.{Invariant}
use Rattle.cg_model.specs.FactsExchange.{red_index}
use Rattle.cg_model.specs.FactsReplica.{IsModeData, HasModeData}
use Rattle.cg_model.specs.FactsTalk.{AreTold, handed_talk, count_behind, AreNumbered, AreNumberedAt}
use Rattle.cg_model.specs.Fronts.{When}
use Rattle.cg_model.specs.Looks.{greens_of, members_in, ordered_in}
use Rattle.cg_model.specs.Talk.{Talk, action_in, hears_from, state_in, is_full, is_through, is_ended, is_announced as all_announced, is_due, may_go_on, may_say}
use Rattle.cg_model.specs.Total.{fits_red, fits_green, fits_item, CanInstall, keeps_part, TakesNames, GoesOn, TakesItem, IsUsed}
use Rattle.cg_agree.proofs.ActsNext.{numbered-next}
use Rattle.cg_agree.proofs.AnswersOwn.{few-summary, due-green, due-red, still, answer-there}
use Rattle.cg_agree.proofs.ExchangeThere.{may, id, state, oneself, up, in_exchange, in-states, in-actions, heard_before, heard_behind, best, near, unmoved-behind, before-item, behind-green, behind-red, take-here, next-due}
use Rattle.cg_agree_lemmas.specs.HandState.{kept-mark_red}
use Rattle.cg_agree_lemmas.specs.HandTalk.{id-mark_green_at, id-take_item}
use Rattle.cg_agree_lemmas.specs.HandsKept.{attempt-named}
use Rattle.cg_agree_lemmas.specs.HandsNow.{said-of}
use Rattle.cg_agree_lemmas.specs.HandsTalk.{HasAnswer}
use Rattle.cg_agree_lemmas.specs.MarksFit.{can-install, green-fits, red-fits}
use Rattle.cg_agree_lemmas.specs.MessageThere.{message-made}
use Rattle.cg_agree_lemmas.specs.PlanItems.{ItemAt, plan-item, behind-next}
use Rattle.cg_agree_lemmas.specs.PlanProgress.{greens_there, length-taken}
use Rattle.cg_agree.proofs.PlanThere.{ended-there}
use Rattle.cg_agree_lemmas.specs.TalkEarly.{all-member, due_parts}
use Rattle.cg_agree_lemmas.specs.TurnGreens.{made-count}

done-all : (heard : List Summary) (k : ℕ) → is_done (progress heard k) ≡ true → length (items_of_plan (plan_of heard)) ≤ k
unfolding is_done
done-all heard k e = leb-true (length (items_of_plan (plan_of heard))) k e

same-part : (q : QueueView) (o : Option Part) → keeps_part q o ≡ keeps_part q o
same-part q None = refl
same-part q (Some part) = refl

when-so : (P : Type 0) (b : Bool) → (b ≡ true → P) → When b P
when-so P true is = is refl
when-so P false is = tt

unless-so : (P : Type 0) (b : Bool) → (b ≡ false → P) → Either b (Unit {0}) P
unless-so P true is = tt
unless-so P false is = is refl

-- a member goes on with its part, and takes over the names at the end
goes-on : (t : Turn) (p : ℕ) (heard : List Summary) (k : ℕ) → t.replica.held.id ≡ p → keeps_part t.replica.held.queue (turn_of (plan_of heard) p k) ≡ true →
    (is_done (progress heard k) ≡ true → has (gone heard) p ≡ false → usable_names t.replica.held.queue (common_yellow heard).list ≡ (common_yellow heard).list) → GoesOn t heard k
goes-on t p heard k named there usable = record {
  sends = ap (λ me. keeps_part t.replica.held.queue (turn_of (plan_of heard) me k)) named ∙ sym (same-part t.replica.held.queue (turn_of (plan_of heard) p k)) ∙ there;
  names = when-so (TakesNames t heard) (is_done (progress heard k)) (λ done.
      unless-so (usable_names t.replica.held.queue (common_yellow heard).list ≡ (common_yellow heard).list) (has (gone heard) t.replica.held.id)
      (λ stays. usable done (ap (has (gone heard)) (sym named) ∙ stays)));
}

-- an action that is the next green one of its creator
next-green : (h : Held) (a : Action) → a.id.index ≡ suc (index_in h.queue.green_cut a.id.creator) → is_unmade h a ≡ false → can_be_green h a ≡ true
unfolding can_be_green
next-green h a next made =
    and_from (a.id.index == suc (index_in h.queue.green_cut a.id.creator)) (not (is_unmade h a)) (eq-eqb a.id.index (suc (index_in h.queue.green_cut a.id.creator)) next) (ap not made)

pub next-red : (h : Held) (a : Action) → a.id.index ≡ suc (index_in h.queue.red_cut a.id.creator) → is_unmade h a ≡ false → fits_red h a ≡ true
next-red h a next made =
    let cut = index_in h.queue.red_cut a.id.creator in
    and_from (nat_le a.id.index (suc cut)) (not (is_unmade h a)) (le-leb a.id.index (suc cut) (let e : a.id.index ≡ suc cut = next in omega (arith, e))) (ap not made)

module _ (c : Chronicle) (p : ℕ) (i : Invariant c) (conf : ℕ) (r : Replica) (s : Sent Msg) (regular : phase_of c.world.group p ≡ Regular conf) (runs : replica_of c.world p ≡ Some r)
    (next : slice_get (ordered_in c conf) (delivered_to c.world.group p) ≡ Some s) where
  abbrev set : List ℕ
  set = members_in c conf

  abbrev X : Talk
  X = handed_talk c conf p

  named : r.held.id ≡ p
  named = id c p i conf r s regular runs next

  said-so : (m : Msg) → s.message ≡ m → may_say set conf X s.from m ≡ true
  said-so m is = subst (λ m. may_say set conf X s.from m ≡ true) is (may c p i conf r s regular runs next)

  answer : (m : Msg) → s.message ≡ m → HasAnswer set (begin r) X p s.from m
  answer m is = subst (HasAnswer set (begin r) X p s.from) is (answer-there c p i conf r s regular runs next)

  made : (m : Msg) (a : Action) → s.message ≡ m → action_in m ≡ Some a → is_unmade r.held a ≡ false
  made m a is has_it = message-made c conf (delivered_to c.world.group p) p s a r.held i.replica.made_once next (ap action_in is ∙ has_it) (up c p i conf r s regular runs next) named

  no-both : {P : Type 0} {b : Bool} → b ≡ true → b ≡ false → P
  no-both {P} {b} yes' no' = absurd (let clash : true ≡ false = sym yes' ∙ no' in cc)

  announces : (k at : ℕ) → s.message ≡ Cpc k at → (((k == s.from) && (at == conf)) ≡ true) × (is_ended set X ≡ true) × (has (remaining X.heard) s.from ≡ true) × (decides X.heard ≡ true) × (has X.announced s.from ≡ false)
  announces k at is =
      let a = and_parts ((((k == s.from) && (at == conf)) && may_go_on set X s.from) && decides X.heard) (not (has X.announced s.from)) (said-so (Cpc k at) is) in
      let b = and_parts (((k == s.from) && (at == conf)) && may_go_on set X s.from) (decides X.heard) a.0 in
      let d = and_parts ((k == s.from) && (at == conf)) (may_go_on set X s.from) b.0 in
      let e = and_parts (is_ended set X) (has (remaining X.heard) s.from) d.1 in
      (d.0, e.0, e.1, b.1, not-true (has X.announced s.from) a.1)

  acts : (a : Action) → s.message ≡ ActionMsg a → (is_ended set X ≡ true) × ((not (decides X.heard) || all_announced X) ≡ true)
  acts a is =
      let x = and_parts ((a.id.creator == s.from) && may_go_on set X s.from) (not (decides X.heard) || all_announced X) (said-so (ActionMsg a) is) in
      let y = and_parts (a.id.creator == s.from) (may_go_on set X s.from) x.0 in
      ((and_parts (is_ended set X) (has (remaining X.heard) s.from) y.1).0, x.1)

  full-of : is_ended set X ≡ true → (is_full set X ≡ true) × (is_through X ≡ true)
  full-of ended = and_parts (is_full set X) (is_through X) ended

  -- ---- before all have told

  first-names : (x : Summary) → s.message ≡ StateMsg x → is_full set X ≡ false → (full : is_within set (senders (X.heard ++ x ∷ [])) ≡ true) → is_done (progress (X.heard ++ x ∷ []) 0) ≡ true →
      has (gone (X.heard ++ x ∷ [])) p ≡ false → usable_names r.held.queue (common_yellow (X.heard ++ x ∷ [])).list ≡ (common_yellow (X.heard ++ x ∷ [])).list
  first-names x is few full done stays =
      let more = X.heard ++ x ∷ [] in
      let are : AreTold c conf more = subst (λ m. AreTold c conf (hears_from X s.from m).heard) is (heard_behind c p i conf r s regular runs next) in
      (ended-there c p i conf r s regular runs next more 0 are full stays r.held
      (unmoved-behind c p i conf r s regular runs next more are full stays (still c p i conf r s regular runs next few)) (done-all more 0 done)).usable

  in-few : is_full set X ≡ false → (m : Msg) → s.message ≡ m → IsUsed (ExchangeStates conf set X.heard) (begin r) s.from m
  in-few few (StateMsg x) is =
      let a = and_parts ((has set s.from && (x.id == s.from)) && (x.conf == conf)) (not (has (senders X.heard) s.from)) (said-so (StateMsg x) is) in
      let b = and_parts (has set s.from && (x.id == s.from)) (x.conf == conf) a.0 in
      let d = and_parts (has set s.from) (x.id == s.from) b.0 in
      let more = X.heard ++ x ∷ [] in (
        and_from ((x.id == s.from) && (x.conf == conf)) (not (has (senders X.heard) s.from)) (and_from (x.id == s.from) (x.conf == conf) d.1 b.1) a.1,
        when-so (GoesOn (begin r) more 0) (is_within set (senders more)) (λ full.
            goes-on (begin r) p more 0 named (answer (StateMsg x) is full) (λ done stays. first-names x is few full done stays)),
      )
  in-few few (GreenItem place a) is = no-both (due_parts set X s.from (Green place) (due-green c p i conf r s regular runs next place a is)).0 few
  in-few few (RedItem a) is = no-both (due_parts set X s.from (Red a.id) (due-red c p i conf r s regular runs next a is)).0 few
  in-few few (ActionMsg a) is = no-both (full-of (acts a is).0).0 few
  in-few few (Cpc k at) is = no-both (full-of (announces k at is).1).0 few

  -- ---- items

  wanted : (item : Item) → is_due set X s.from item ≡ true → is_wanted (next_item (progress X.heard X.accepted)) s.from item ≡ true
  wanted item due = (and_parts (is_full set X) (is_wanted (next_item (progress X.heard X.accepted)) s.from item) due).1

  green-there : (place : ℕ) (a : Action) → s.message ≡ GreenItem place a → (full : is_full set X ≡ true) → is_through X ≡ false → has (gone X.heard) p ≡ false → fits_green r.held place a ≡ true
  green-there place a is full yet stays =
      let due = due-green c p i conf r s regular runs next place a is in
      let n = X.accepted in
      let b = best c p i conf r s regular runs next X.heard (heard_before c p i conf r s regular runs next) full in
      let low = (near c p i conf r s regular runs next X.heard (heard_before c p i conf r s regular runs next) full stays).0 in
      let beside = (near c p i conf r s regular runs next X.heard (heard_before c p i conf r s regular runs next) full stays).1 in
      let mine = (in_exchange c p i conf r s regular runs next).mine in
      let item = next-due X.heard n s.from (Green place) (wanted (Green place) due) in
      let at : (place ≡ suc low + n) × (place ≤ b.best.summary.green_count) = subst (ItemAt X.heard n low b.best.summary) item.kind (plan-item X.heard b.best.summary low beside.most beside.least n item.sent item.here) in
      let first = at.0 in
      let last = at.1 in
      let size = beside.count in
      let below = beside.below in
      let above = beside.above in
      let was = before-item c p i conf r s regular runs next full yet stays in
      let is' = behind-green c p i conf r s regular runs next place a is due full stays in
      let old : green_count r.held.queue ≡ greens_there low n b.best mine =
      made-count c.start r.held (take (greens_there low n b.best mine) b.best.greens) was.oneself.made_of ∙ length-taken (greens_there low n b.best mine) b.best.greens (omega arith) in
      let held = (take_item (begin r) X.heard (GreenItem place a)).replica.held in
      let new' : green_count held.queue ≡ greens_there low (suc n) b.best mine =
      made-count c.start held (take (greens_there low (suc n) b.best mine) b.best.greens) is'.oneself.made_of ∙ length-taken (greens_there low (suc n) b.best mine) b.best.greens (omega arith) in
      let taken : green_count (mark_green_at (begin r) place a).replica.held.queue ≡ greens_there low (suc n) b.best mine =
      ap (λ (u : Turn). green_count u.replica.held.queue) (sym (take-here c p i conf r s regular runs next (GreenItem place a) stays)) ∙ new' in
      green-fits (begin r) place a (omega arith) (λ here. omega arith)

  red-there : (a : Action) → s.message ≡ RedItem a → (full : is_full set X ≡ true) → has (gone X.heard) p ≡ false → fits_red r.held a ≡ true
  red-there a is full stays =
      let due = due-red c p i conf r s regular runs next a is in
      let n = X.accepted in
      let item = next-due X.heard n s.from (Red a.id) (wanted (Red a.id) due) in
      let q = a.id.creator in
      let is' = behind-red c p i conf r s regular runs next a is due full stays in
      let far = behind-next X.heard n q item.sent item.here in
      let last : red_index q item.sent.item ≡ a.id.index = ap (red_index q) item.kind ∙ cond-true (q == q) a.id.index 0 (eq-eqb q q refl) in
      let red = is'.red q in
      let taken : index_in (mark_red (begin r) a).replica.held.queue.red_cut q ≡ index_in (take_item (begin r) X.heard (RedItem a)).replica.held.queue.red_cut q =
      ap (λ (u : Turn). index_in u.replica.held.queue.red_cut q) (sym (take-here c p i conf r s regular runs next (RedItem a) stays)) in
      red-fits (begin r) a (made (RedItem a) a is refl) (omega arith)

  item-fits : (m : Msg) → (has (gone X.heard) p ≡ false → fits_item r.held m ≡ true) → Either (has (gone X.heard) r.held.id) (Unit {0}) (IsTrue (fits_item r.held m))
  item-fits m fits = unless-so (IsTrue (fits_item r.held m)) (has (gone X.heard) r.held.id) (λ stays. fits (ap (has (gone X.heard)) (sym named) ∙ stays))

  in-items : (full : is_full set X ≡ true) → is_through X ≡ false → (m : Msg) → s.message ≡ m → TakesItem (begin r) X.heard X.accepted s.from m
  in-items full yet (GreenItem place a) is =
      let m = GreenItem place a in
      let due = due-green c p i conf r s regular runs next place a is in record {
        next = wanted (Green place) due;
        fits = item-fits m (λ stays. green-there place a is full yet stays);
        goes_on = goes-on (take_item (begin r) X.heard m) p X.heard (suc X.accepted) (id-take_item (begin r) X.heard m (id-mark_green_at (begin r) place a) ∙ named) (answer m is) (λ done stays.
            (ended-there c p i conf r s regular runs next X.heard (suc X.accepted) (heard_before c p i conf r s regular runs next) full stays (take_item (begin r) X.heard m).replica.held
            (behind-green c p i conf r s regular runs next place a is due full stays) (done-all X.heard (suc X.accepted) done)).usable);
      }
  in-items full yet (RedItem a) is =
      let m = RedItem a in
      let due = due-red c p i conf r s regular runs next a is in record {
        next = wanted (Red a.id) due;
        fits = item-fits m (λ stays. red-there a is full stays);
        goes_on = goes-on (take_item (begin r) X.heard m) p X.heard (suc X.accepted) (id-take_item (begin r) X.heard m (kept-mark_red (begin r) a).id ∙ named) (answer m is) (λ done stays.
            (ended-there c p i conf r s regular runs next X.heard (suc X.accepted) (heard_before c p i conf r s regular runs next) full stays (take_item (begin r) X.heard m).replica.held
            (behind-red c p i conf r s regular runs next a is due full stays) (done-all X.heard (suc X.accepted) done)).usable);
      }
  in-items full yet (StateMsg x) is = no-both full (few-summary c p i conf r s regular runs next x is)
  in-items full yet (ActionMsg a) is = no-both (full-of (acts a is).0).1 yet
  in-items full yet (Cpc k at) is = no-both (full-of (announces k at is).1).1 yet

  -- ---- behind the plan

  numbers : (st : State) → r.state ≡ st → AreNumbered c conf p r.held st
  numbers st is =
      subst (AreNumbered c conf p r.held) is
      (subst (λ (x : Phase). AreNumberedAt c p x r) regular (subst (λ (o : Option Replica). IfSome o (AreNumberedAt c p (phase_of c.world.group p))) runs (i.talk.acts_numbered.handed p)))

  attempt-is : is_ended set X ≡ true → has (gone X.heard) p ≡ false → decides X.heard ≡ true → attempt_set r.held ≡ remaining X.heard
  attempt-is =
      let mode = subst (λ (o : Option Replica). IfSome o (IsModeData c p)) runs (i.replica.mode_data p) in
      attempt-named c p conf r (said-of c i) i.attempt.attempt_shape (subst (λ (x : Phase). HasModeData c r.held x r.state) regular mode.data_of) (state c p i conf r s regular runs next)

  act-number : (a : Action) → s.message ≡ ActionMsg a → a.id.index ≡ suc (count_behind X a.id.creator)
  act-number a is = numbered-next c conf (delivered_to c.world.group p) s i.talk next a is

  abbrev State4 : Bool → Bool → Bool → State
  State4 left decided told = if left then Left else if not decided then NonPrim true else if told then RegPrim else Construct conf X.announced

  in-end : (left decided told : Bool) → is_full set X ≡ true → is_through X ≡ true → has (gone X.heard) p ≡ left → decides X.heard ≡ decided → all_announced X ≡ told → r.state ≡ State4 left decided told →
      (m : Msg) → s.message ≡ m → IsUsed (State4 left decided told) (begin r) s.from m
  in-end true decided told full through a b e at m is = tt
  in-end false false told full through a b e at (ActionMsg x) is =
      next-red r.held x (act-number x is ∙ ap suc (sym ((numbers (NonPrim true) at).0 x.id.creator))) (made (ActionMsg x) x is refl)
  in-end false false told full through a b e at (Cpc k n) is = no-both (announces k n is).3 b
  in-end false true true full through a b e at (ActionMsg x) is =
      next-green r.held x (act-number x is ∙ ap suc (sym ((numbers RegPrim at).0 x.id.creator))) (made (ActionMsg x) x is refl)
  in-end false true true full through a b e at (Cpc k n) is =
      let told = announces k n is in
      no-both (all-member (has X.announced) (remaining X.heard) s.from told.2 e) told.4
  in-end false true false full through a b e at (ActionMsg x) is =
      absurd (let clash : false ≡ true = sym (ap₂ (λ d t. not d || t) b e) ∙ (acts x is).1 in cc)
  in-end false true false full through a b e at (Cpc k n) is =
      let told = announces k n is in
      let same = attempt-is told.1 a b in (
        and_from ((k == s.from) && (n == conf)) (has (attempt_set r.held) s.from) told.0 (ap (λ l. has l s.from) same ∙ told.2),
        when-so (CanInstall (begin r)) (is_within (attempt_set r.held) (with_member X.announced s.from)) (λ all. can-install c.start (greens_of c p) (begin r) (oneself c p i conf r s regular runs next)),
      )
  in-end false decided told full through a b e at (StateMsg x) is = no-both full (few-summary c p i conf r s regular runs next x is)
  in-end false decided told full through a b e at (GreenItem place x) is = no-both through (due_parts set X s.from (Green place) (due-green c p i conf r s regular runs next place x is)).1
  in-end false decided told full through a b e at (RedItem x) is = no-both through (due_parts set X s.from (Red x.id) (due-red c p i conf r s regular runs next x is)).1

  state-at : (left decided told : Bool) → is_full set X ≡ true → is_through X ≡ true → has (gone X.heard) p ≡ left → decides X.heard ≡ decided → all_announced X ≡ told → r.state ≡ State4 left decided told
  state-at left decided told full through a b e = state c p i conf r s regular runs next ∙ opened full through a b e where
    opened : is_full set X ≡ true → is_through X ≡ true → has (gone X.heard) p ≡ left → decides X.heard ≡ decided → all_announced X ≡ told → state_in set conf X p ≡ State4 left decided told
    opened full through a b e = rw (full, through, a, b, e) refl

  -- What is handed is used.
  pub hands-used : IsUsed r.state (begin r) s.from s.message
  hands-used = elim (cases_Bool (is_full set X)) [
    | inr few ↦ subst (λ (st : State). IsUsed st (begin r) s.from s.message) (sym (in-states c p i conf r s regular runs next few)) (in-few few s.message refl)
    | inl full ↦ elim (cases_Bool (is_through X)) [
      | inr yet ↦ subst (λ (st : State). IsUsed st (begin r) s.from s.message) (sym (in-actions c p i conf r s regular runs next full yet)) (in-items full yet s.message refl)
      | inl through ↦
          let at = state-at (has (gone X.heard) p) (decides X.heard) (all_announced X) full through refl refl refl in
          subst (λ (st : State). IsUsed st (begin r) s.from s.message) (sym at)
          (in-end (has (gone X.heard) p) (decides X.heard) (all_announced X) full through refl refl refl at s.message refl)
    ]
  ]

-- The kinds of what a message makes of a replica: it leaves what the replica knows of primary components and whether it attempts or
-- is a member; or it installs the attempt; or a plan is through, without a quorum or with one.
use Rattle.std.proofs.Common.{◌≡◌, ℕ, suc, Bool, true, false, cond, List, [], ◌∷◌, ◌++◌, Some, refl, sym, ap, ◌∙◌, subst, inl, inr}
use Rattle.std.proofs.lemmas.Bool.{cases_Bool}
use Rattle.cg_base.specs.Sets.{has, is_within, with_member}
use Rattle.cg_action.specs.declared.action.Action.{Action}
use Rattle.cg_records.specs.declared.vulnerable.Vulnerable.{Vulnerable}
use Rattle.cg_knowledge.specs.declared.summary.Summary.{Summary}
use Rattle.cg_knowledge.specs.Summaries.{senders, gone, remaining}
use Rattle.cg_knowledge.specs.Primary.{known_primary}
use Rattle.cg_knowledge.specs.Yellow.{common_yellow}
use Rattle.cg_knowledge.specs.Vulnerable.{decided}
use Rattle.cg_knowledge.specs.Verdict.{decides}
use Rattle.cg_plan.specs.Plan.{plan_of}
use Rattle.cg_plan.specs.Progress.{is_done, turn_of}
use Rattle.cg_wire.specs.declared.message.Msg.{Msg}
use Rattle.cg_wire.specs.declared.message.Msg.TheVariants.{Action as ActionMsg, State as StateMsg, GreenItem, RedItem, Cpc}
use Rattle.cg_client.specs.Replica.{Held, State, RegPrim, TransPrim, ExchangeStates, ExchangeActions, Construct, No, Un, NonPrim, Left, Replica}
use Rattle.cg_client.specs.Turn.{Turn, with_held, go_to}
use Rattle.cg_client.specs.Marks.{mark_red, mark_yellow, mark_green}
use Rattle.cg_client.specs.Install.{prim_after, install}
use Rattle.cg_client.specs.Requests.{empty_buffer}
use Rattle.cg_states.specs.ExchangeStates.{is_usable, with_heard}
use Rattle.cg_states.specs.ExchangeActions.{progress, is_next, take_item, send_part, go_on}
use Rattle.cg_states.specs.PlanEnd.{take_over, attempt, decide, end_plan}
use Rattle.cg_states.specs.Construct.{attempt_set, is_announced, construct_with}
use Rattle.cg_states.specs.No.{no_with}
use Rattle.cg_states.specs.ReplicaStep.{on_message}
use Rattle.cg_model.specs.FactsReplica.{is_attempting, is_primary, is_exchanging}
use Rattle.cg_agree_lemmas.specs.TurnValues.{SameValues, same-values, values-then, IsEven, even-refl, even-mark_red, even-mark_yellow, even-mark_green, even-take_item, even-send_part, even-installed}

-- the same actions and servers
pub record IsStill (old new : Held) : Type 0 where
  pub queue : new.queue ≡ old.queue
  pub members : new.members ≡ old.members
  pub own : new.own ≡ old.own

pub still-refl : (h : Held) → IsStill h h
still-refl h = record { queue = refl; members = refl; own = refl }

pub still-then : (a b e : Held) → IsStill a b → IsStill b e → IsStill a e
still-then a b e one two = record { queue = two.queue ∙ one.queue; members = two.members ∙ one.members; own = two.own ∙ one.own }

-- nothing of that changes; and while an attempt is under way no action does
pub record IsQuiet (old new : Replica) : Type 0 where
  pub values : SameValues old.held new.held
  pub attempting : is_attempting new.state ≡ is_attempting old.state
  pub primary : is_primary new.state ≡ is_primary old.state
  pub still : is_attempting old.state ≡ true → IsStill old.held new.held

-- an attempt is installed
pub record HasInstalled (old new : Replica) : Type 0 where
  pub id : new.held.id ≡ old.held.id
  pub prim : new.held.prim ≡ prim_after old.held old.held.vulnerable
  pub vulnerable : new.held.vulnerable ≡ old.held.vulnerable
  pub yellow_valid : new.held.yellow_valid ≡ false
  pub before : is_attempting old.state ≡ true
  pub after : is_primary new.state ≡ true

-- a plan is through, and a member takes over what the summaries say, without a quorum
pub record HasDecided (heard : List Summary) (old new : Replica) : Type 0 where
  pub id : new.held.id ≡ old.held.id
  pub prim : new.held.prim ≡ known_primary heard
  pub vulnerable : new.held.vulnerable ≡ decided heard old.held.vulnerable
  pub yellow_valid : new.held.yellow_valid ≡ (common_yellow heard).valid
  pub state : new.state ≡ NonPrim true
  pub remains : has (gone heard) old.held.id ≡ false
  pub fails : decides heard ≡ false

-- and with one
abbrev pub new_record : ℕ → List Summary → ℕ → Vulnerable
new_record conf heard p = record { attempt = conf; from = (known_primary heard).index; set = remaining heard; bits = p ∷ [] }

pub record HasAttempted (conf : ℕ) (heard : List Summary) (old new : Replica) : Type 0 where
  pub id : new.held.id ≡ old.held.id
  pub prim : new.held.prim ≡ known_primary heard
  pub vulnerable : new.held.vulnerable ≡ Some (new_record conf heard old.held.id)
  pub yellow_valid : new.held.yellow_valid ≡ (common_yellow heard).valid
  pub state : new.state ≡ Construct conf []
  pub remains : has (gone heard) old.held.id ≡ false
  pub holds : decides heard ≡ true

-- the message ends the plan of these summaries
abbrev pub EndsWith : State → Msg → ℕ → List Summary → Type 0
EndsWith (ExchangeStates at set heard) (StateMsg s) conf all = (at ≡ conf) × (all ≡ heard ++ s ∷ [])
EndsWith (ExchangeActions at heard accepted) (GreenItem place a) conf all = (at ≡ conf) × (all ≡ heard)
EndsWith (ExchangeActions at heard accepted) (RedItem a) conf all = (at ≡ conf) × (all ≡ heard)
EndsWith _ m conf all = ⊥

pub data Turned (old new : Replica) (m : Msg) : Type 0 where
  Quiet : (quiet : IsQuiet old new) → Turned old new m
  Installs : (installed : HasInstalled old new) → Turned old new m
  Decides : (conf : ℕ) (heard : List Summary) (ends : EndsWith old.state m conf heard) (decided : HasDecided heard old new) → Turned old new m
  Attempts : (conf : ℕ) (heard : List Summary) (ends : EndsWith old.state m conf heard) (attempted : HasAttempted conf heard old new) → Turned old new m

pub quiet-of : (t u : Turn) → IsEven t u → (is_attempting t.replica.state ≡ true → IsStill t.replica.held u.replica.held) → IsQuiet t.replica u.replica
quiet-of t u even still = record { values = even.values; attempting = ap is_attempting even.state; primary = ap is_primary even.state; still = still }

-- a replica that isn't attempting
pub quiet-beside : (t u : Turn) (state : State) → t.replica.state ≡ state → is_attempting state ≡ false → IsEven t u → IsQuiet t.replica u.replica
quiet-beside t u state is beside even =
    quiet-of t u even (λ attempting. absurd (let clash : true ≡ false = sym attempting ∙ ap is_attempting is ∙ beside in cc))

pub quiet-then : (a b e : Replica) → IsQuiet a b → IsQuiet b e → IsQuiet a e
quiet-then a b e one two = record {
  values = values-then a.held b.held e.held one.values two.values;
  attempting = two.attempting ∙ one.attempting;
  primary = two.primary ∙ one.primary;
  still = λ is. still-then a.held b.held e.held (one.still is) (two.still (one.attempting ∙ is));
}

pub quiet-go_to : (t : Turn) (state : State) → is_attempting state ≡ is_attempting t.replica.state → is_primary state ≡ is_primary t.replica.state → IsQuiet t.replica (go_to t state).replica
quiet-go_to t state attempting primary = record { values = same-values t.replica.held; attempting = attempting; primary = primary; still = λ is. still-refl t.replica.held }

-- ---- an installation

pub installs-to : (t : Turn) (state : State) → is_attempting t.replica.state ≡ true → is_primary state ≡ true → HasInstalled t.replica (go_to (install t) state).replica
unfolding install
installs-to t state before after =
    let even = even-installed t in
    record { id = even.values.id; prim = refl; vulnerable = even.values.vulnerable; yellow_valid = refl; before = before; after = after }

-- what changes nothing behind an installation
pub installed-then : (a b e : Replica) → HasInstalled a b → IsQuiet b e → HasInstalled a e
installed-then a b e one two = record {
  id = two.values.id ∙ one.id;
  prim = two.values.prim ∙ one.prim;
  vulnerable = two.values.vulnerable ∙ one.vulnerable;
  yellow_valid = two.values.yellow_valid ∙ one.yellow_valid;
  before = one.before;
  after = two.primary ∙ one.after;
}

-- ---- the end of a plan

exchanging-not : (state : State) → is_exchanging state ≡ true → (is_attempting state ≡ false) × (is_primary state ≡ false)
exchanging-not (ExchangeStates conf set heard) e = (refl, refl)
exchanging-not (ExchangeActions conf heard accepted) e = (refl, refl)
exchanging-not RegPrim e = absurd (let clash : false ≡ true = e in cc)
exchanging-not TransPrim e = absurd (let clash : false ≡ true = e in cc)
exchanging-not (Construct conf heard) e = absurd (let clash : false ≡ true = e in cc)
exchanging-not (No conf heard) e = absurd (let clash : false ≡ true = e in cc)
exchanging-not Un e = absurd (let clash : false ≡ true = e in cc)
exchanging-not (NonPrim regular) e = absurd (let clash : false ≡ true = e in cc)
exchanging-not Left e = absurd (let clash : false ≡ true = e in cc)

-- a replica that was this, and has come so far, and what it is then
module _ (old : Replica) (m : Msg) (conf : ℕ) (heard : List Summary) (exchanging : is_exchanging old.state ≡ true) (ends : EndsWith old.state m conf heard) where
  abbrev Is : Turn → Type 0
  Is u = Turned old u.replica m

  quietly : (u : Turn) → SameValues old.held u.replica.held → is_attempting u.replica.state ≡ false → is_primary u.replica.state ≡ false → Is u
  quietly u values attempting primary =
      let apart = exchanging-not old.state exchanging in
      Quiet (record {
        values = values;
        attempting = attempting ∙ sym apart.0;
        primary = primary ∙ sym apart.1;
        still = λ is. absurd (let clash : true ≡ false = sym is ∙ apart.0 in cc);
      })

  ends-attempt : (t : Turn) → SameValues old.held t.replica.held → has (gone heard) old.held.id ≡ false → decides heard ≡ true → Is (attempt (with_held t (take_over t.replica.held heard)) conf heard)
  unfolding attempt take_over
  ends-attempt t same here holds = Attempts conf heard ends (record {
    id = same.id;
    prim = refl;
    vulnerable = ap (λ p. Some (new_record conf heard p)) same.id;
    yellow_valid = refl;
    state = refl;
    remains = here;
    holds = holds;
  })

  ends-decided : (t : Turn) → SameValues old.held t.replica.held → has (gone heard) old.held.id ≡ false → decides heard ≡ false → Is (go_to (with_held t (take_over t.replica.held heard)) (NonPrim true))
  unfolding take_over
  ends-decided t same here fails = Decides conf heard ends (record {
    id = same.id;
    prim = refl;
    vulnerable = ap (decided heard) same.vulnerable;
    yellow_valid = refl;
    state = refl;
    remains = here;
    fails = fails;
  })

  pub plan-ends : (t : Turn) → SameValues old.held t.replica.held → Is (end_plan t conf heard)
  unfolding end_plan decide
  plan-ends t same = elim (cases_Bool (has (gone heard) t.replica.held.id)) [
    | inl left ↦ subst (λ b. Is (cond b (go_to (empty_buffer t) Left) (decide (with_held t (take_over t.replica.held heard)) conf heard))) (sym left)
        (quietly (go_to (empty_buffer t) Left) (record { id = same.id; prim = same.prim; attempt_index = same.attempt_index; vulnerable = same.vulnerable; yellow_valid = same.yellow_valid }) refl refl)
    | inr here ↦ subst (λ b. Is (cond b (go_to (empty_buffer t) Left) (decide (with_held t (take_over t.replica.held heard)) conf heard))) (sym here)
        (let stays : has (gone heard) old.held.id ≡ false = ap (has (gone heard)) (sym same.id) ∙ here in
        elim (cases_Bool (decides heard)) [
          | inl holds ↦ subst (λ b. Is (cond b (attempt (with_held t (take_over t.replica.held heard)) conf heard) (go_to (with_held t (take_over t.replica.held heard)) (NonPrim true)))) (sym holds)
              (ends-attempt t same stays holds)
          | inr fails ↦ subst (λ b. Is (cond b (attempt (with_held t (take_over t.replica.held heard)) conf heard) (go_to (with_held t (take_over t.replica.held heard)) (NonPrim true)))) (sym fails)
              (ends-decided t same stays fails)
        ])
  ]

  pub goes-on : (t : Turn) (accepted : ℕ) → SameValues old.held t.replica.held → Is (go_on t conf heard accepted)
  unfolding go_on
  goes-on t accepted same =
      let going = go_to t (ExchangeActions conf heard accepted) in
      let o = turn_of (plan_of heard) t.replica.held.id accepted in
      let even = even-send_part going o in
      let values = values-then old.held t.replica.held (send_part going o).replica.held same even.values in
      either (is_done (progress heard accepted)) (end_plan (send_part going o) conf heard) (send_part going o) (plan-ends (send_part going o) values)
      (quietly (send_part going o) values (ap is_attempting even.state) (ap is_primary even.state)) where
        either : (b : Bool) (u v : Turn) → Is u → Is v → Is (cond b u v)
        either true u v one two = one
        either false u v one two = two

-- ---- a message

-- a choice of two
choice : (test : Bool) (old : Replica) (m : Msg) (u v : Turn) → Turned old u.replica m → Turned old v.replica m → Turned old (cond test u v).replica m
choice true old m u v one two = one
choice false old m u v one two = two

same-quiet : (t : Turn) (m : Msg) → Turned t.replica t.replica m
same-quiet t m = Quiet (quiet-of t t (even-refl t) (λ is. still-refl t.replica.held))

on-summary : (t : Turn) (conf : ℕ) (set : List ℕ) (heard : List Summary) (from : ℕ) (s : Summary) → t.replica.state ≡ ExchangeStates conf set heard →
    Turned t.replica (cond (is_usable conf heard from s) (with_heard t conf set (heard ++ s ∷ [])) t).replica (StateMsg s)
on-summary t conf set heard from s is =
    let all = heard ++ s ∷ [] in
    choice (is_usable conf heard from s) t.replica (StateMsg s) (with_heard t conf set all) t
    (choice (is_within set (senders all)) t.replica (StateMsg s) (go_on t conf all 0) (go_to t (ExchangeStates conf set all))
    (goes-on t.replica (StateMsg s) conf all (ap is_exchanging is) (subst (λ (st : State). EndsWith st (StateMsg s) conf all) (sym is) (refl, refl)) t 0 (same-values t.replica.held))
    (Quiet (quiet-go_to t (ExchangeStates conf set all) (sym (ap is_attempting is)) (sym (ap is_primary is)))))
    (same-quiet t (StateMsg s))

on-item : (t : Turn) (conf : ℕ) (heard : List Summary) (accepted from : ℕ) (m : Msg) → t.replica.state ≡ ExchangeActions conf heard accepted →
    EndsWith (ExchangeActions conf heard accepted) m conf heard →
    Turned t.replica (cond (is_next heard accepted from m) (go_on (take_item t heard m) conf heard (suc accepted)) t).replica m
on-item t conf heard accepted from m is ends =
    choice (is_next heard accepted from m) t.replica m (go_on (take_item t heard m) conf heard (suc accepted)) t
    (goes-on t.replica m conf heard (ap is_exchanging is) (subst (λ (st : State). EndsWith st m conf heard) (sym is) ends) (take_item t heard m) (suc accepted) (even-take_item t heard m).values)
    (same-quiet t m)

on-construct : (t : Turn) (conf : ℕ) (heard : List ℕ) (from id of_conf : ℕ) → t.replica.state ≡ Construct conf heard →
    Turned t.replica (cond (is_announced t.replica.held conf from id of_conf) (construct_with t conf (with_member heard from)) t).replica (Cpc id of_conf)
on-construct t conf heard from id of_conf is =
    let all = with_member heard from in
    choice (is_announced t.replica.held conf from id of_conf) t.replica (Cpc id of_conf) (construct_with t conf all) t
    (choice (is_within (attempt_set t.replica.held) all) t.replica (Cpc id of_conf) (go_to (install t) RegPrim) (go_to t (Construct conf all))
    (Installs (installs-to t RegPrim (ap is_attempting is) refl))
    (Quiet (quiet-go_to t (Construct conf all) (sym (ap is_attempting is)) (sym (ap is_primary is)))))
    (same-quiet t (Cpc id of_conf))

on-no : (t : Turn) (conf : ℕ) (heard : List ℕ) (from id of_conf : ℕ) → t.replica.state ≡ No conf heard →
    Turned t.replica (cond (is_announced t.replica.held conf from id of_conf) (no_with t conf (with_member heard from)) t).replica (Cpc id of_conf)
on-no t conf heard from id of_conf is =
    let all = with_member heard from in
    choice (is_announced t.replica.held conf from id of_conf) t.replica (Cpc id of_conf) (no_with t conf all) t
    (choice (is_within (attempt_set t.replica.held) all) t.replica (Cpc id of_conf) (go_to t Un) (go_to t (No conf all))
    (Quiet (quiet-go_to t Un (sym (ap is_attempting is)) (sym (ap is_primary is))))
    (Quiet (quiet-go_to t (No conf all) (sym (ap is_attempting is)) (sym (ap is_primary is)))))
    (same-quiet t (Cpc id of_conf))

-- in Un an action installs the attempt, and becomes yellow
on-un : (t : Turn) (a : Action) → t.replica.state ≡ Un → HasInstalled t.replica (go_to (mark_yellow (install t) a) TransPrim).replica
on-un t a is =
    let even = even-mark_yellow (install t) a in
    let first = installs-to t TransPrim (ap is_attempting is) refl in
    record {
      id = even.values.id ∙ first.id;
      prim = even.values.prim ∙ first.prim;
      vulnerable = even.values.vulnerable ∙ first.vulnerable;
      yellow_valid = even.values.yellow_valid ∙ first.yellow_valid;
      before = first.before;
      after = refl;
    }

-- what a message makes of a replica in this state
pub message-turned : (state : State) (from : ℕ) (m : Msg) (t : Turn) → t.replica.state ≡ state → Turned t.replica (on_message state from m t).replica m
unfolding on_message
message-turned RegPrim from (ActionMsg a) t is = Quiet (quiet-beside t (mark_green t a) RegPrim is refl (even-mark_green t a))
message-turned RegPrim from (StateMsg s) t is = same-quiet t (StateMsg s)
message-turned RegPrim from (GreenItem at a) t is = same-quiet t (GreenItem at a)
message-turned RegPrim from (RedItem a) t is = same-quiet t (RedItem a)
message-turned RegPrim from (Cpc id of_conf) t is = same-quiet t (Cpc id of_conf)
message-turned TransPrim from (ActionMsg a) t is = Quiet (quiet-beside t (mark_yellow t a) TransPrim is refl (even-mark_yellow t a))
message-turned TransPrim from (StateMsg s) t is = same-quiet t (StateMsg s)
message-turned TransPrim from (GreenItem at a) t is = same-quiet t (GreenItem at a)
message-turned TransPrim from (RedItem a) t is = same-quiet t (RedItem a)
message-turned TransPrim from (Cpc id of_conf) t is = same-quiet t (Cpc id of_conf)
message-turned (ExchangeStates conf set heard) from (ActionMsg a) t is = same-quiet t (ActionMsg a)
message-turned (ExchangeStates conf set heard) from (StateMsg s) t is = on-summary t conf set heard from s is
message-turned (ExchangeStates conf set heard) from (GreenItem at a) t is = same-quiet t (GreenItem at a)
message-turned (ExchangeStates conf set heard) from (RedItem a) t is = same-quiet t (RedItem a)
message-turned (ExchangeStates conf set heard) from (Cpc id of_conf) t is = same-quiet t (Cpc id of_conf)
message-turned (ExchangeActions conf heard accepted) from (ActionMsg a) t is = same-quiet t (ActionMsg a)
message-turned (ExchangeActions conf heard accepted) from (StateMsg s) t is = same-quiet t (StateMsg s)
message-turned (ExchangeActions conf heard accepted) from (GreenItem at a) t is = on-item t conf heard accepted from (GreenItem at a) is (refl, refl)
message-turned (ExchangeActions conf heard accepted) from (RedItem a) t is = on-item t conf heard accepted from (RedItem a) is (refl, refl)
message-turned (ExchangeActions conf heard accepted) from (Cpc id of_conf) t is = same-quiet t (Cpc id of_conf)
message-turned (Construct conf heard) from (ActionMsg a) t is = same-quiet t (ActionMsg a)
message-turned (Construct conf heard) from (StateMsg s) t is = same-quiet t (StateMsg s)
message-turned (Construct conf heard) from (GreenItem at a) t is = same-quiet t (GreenItem at a)
message-turned (Construct conf heard) from (RedItem a) t is = same-quiet t (RedItem a)
message-turned (Construct conf heard) from (Cpc id of_conf) t is = on-construct t conf heard from id of_conf is
message-turned (No conf heard) from (ActionMsg a) t is = same-quiet t (ActionMsg a)
message-turned (No conf heard) from (StateMsg s) t is = same-quiet t (StateMsg s)
message-turned (No conf heard) from (GreenItem at a) t is = same-quiet t (GreenItem at a)
message-turned (No conf heard) from (RedItem a) t is = same-quiet t (RedItem a)
message-turned (No conf heard) from (Cpc id of_conf) t is = on-no t conf heard from id of_conf is
message-turned Un from (ActionMsg a) t is = Installs (on-un t a is)
message-turned Un from (StateMsg s) t is = same-quiet t (StateMsg s)
message-turned Un from (GreenItem at a) t is = same-quiet t (GreenItem at a)
message-turned Un from (RedItem a) t is = same-quiet t (RedItem a)
message-turned Un from (Cpc id of_conf) t is = same-quiet t (Cpc id of_conf)
message-turned (NonPrim regular) from (ActionMsg a) t is = Quiet (quiet-beside t (mark_red t a) (NonPrim regular) is refl (even-mark_red t a))
message-turned (NonPrim regular) from (StateMsg s) t is = same-quiet t (StateMsg s)
message-turned (NonPrim regular) from (GreenItem at a) t is = same-quiet t (GreenItem at a)
message-turned (NonPrim regular) from (RedItem a) t is = same-quiet t (RedItem a)
message-turned (NonPrim regular) from (Cpc id of_conf) t is = same-quiet t (Cpc id of_conf)
message-turned Left from (ActionMsg a) t is = same-quiet t (ActionMsg a)
message-turned Left from (StateMsg s) t is = same-quiet t (StateMsg s)
message-turned Left from (GreenItem at a) t is = same-quiet t (GreenItem at a)
message-turned Left from (RedItem a) t is = same-quiet t (RedItem a)
message-turned Left from (Cpc id of_conf) t is = same-quiet t (Cpc id of_conf)

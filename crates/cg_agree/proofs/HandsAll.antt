-- The small step in which a place is handed keeps all facts about what is said, where the member has what it is to send, and knows
-- at the end of the plan all that some member knew.
use Rattle.std.proofs.Common.{◌≡◌, ℕ, Bool, true, false, ◌&&◌, List, [], Option, Some, IfSome, refl, sym, ap, ap₂, subst, ◌∙◌, option_and_then, not, if◌then◌else◌}
use Rattle.std.specs.Prelude.{slice_get, nat_lt}
use Rattle.std.proofs.lemmas.Bool.{and_parts}
use Rattle.cg_base.specs.Cuts.{index_in}
use Rattle.cg_base.specs.Sets.{has}
use Rattle.cg_knowledge.specs.Summaries.{gone}
use Rattle.cg_wire.specs.declared.message.Msg.{Msg}
use Rattle.cg_group.specs.declared.phase.Phase.{Phase}
use Rattle.cg_group.specs.declared.phase.Phase.TheVariants.{Regular}
use Rattle.cg_group.specs.Ready.{ready}
use Rattle.cg_group.specs.State.{Sent, phase_of, is_regular, delivered_to}
use Rattle.cg_client.specs.Replica.{State, ExchangeStates, ExchangeActions, Replica}
use Rattle.cg_client.specs.Turn.{begin}
use Rattle.cg_states.specs.ReplicaStep.{on_message}
use Rattle.cg_disk_records.specs.Crash.{Disk}
use Rattle.cg_model.specs.World.{Node, replica_of, running}
use Rattle.cg_model.specs.Chronicle.{Chronicle}
use Rattle.cg_model.specs.Looks.{greens_of, members_in, ordered_in, OfCores}
use Rattle.cg_model.specs.Talk.{Talk, hears_from, is_full, is_through, is_ended, known_up_to, state_behind, state_in}
use Rattle.cg_model.specs.FactsAttempts.{AttemptShape}
use Rattle.cg_model.specs.FactsExchange.{SummaryOfSender}
use Rattle.cg_model.specs.FactsNet.{PhaseSound, IsPhase}
use Rattle.cg_model.specs.FactsReplica.{HasModeData, IsModeData, IsCore}
use Rattle.cg_model.specs.FactsTalk.{handed_talk, Content, ActsNumbered, IsStateIn, TalkFacts}
use Rattle.cg_model.specs.Small.{Hands, small_step}
use Rattle.cg_model.specs.Smalls.{may_make}
use Rattle.cg_agree.proofs.HandsActs.{hands-acts}
use Rattle.cg_agree_lemmas.specs.HandsKept.{CanAnswer, regular-phase, hosted, some-at, next-there, attempt-named, hands-kept}
use Rattle.cg_agree_lemmas.specs.HandsSent.{hands-content}
use Rattle.cg_agree_lemmas.specs.HandsTalk.{HandsAt, step-is, state-is}
use Rattle.cg_agree_lemmas.specs.HandsOwn.{none-in_states, none-in_actions}
use Rattle.cg_agree_lemmas.specs.TalkSame.{said-of, talk-from}
use Rattle.cg_group.specs.RefusalLaws.{regular-up}

-- who comes to the end of the plan by the place that is handed, and hasn't left, knows then all that some member knew
abbrev pub KnowsAtEnd : Chronicle → ℕ → Type 0
KnowsAtEnd c p =
    (conf : ℕ) (r : Replica) (s : Sent Msg) → phase_of c.world.group p ≡ Regular conf → replica_of c.world p ≡ Some r →
    slice_get (ordered_in c conf) (delivered_to c.world.group p) ≡ Some s → is_ended (members_in c conf) (handed_talk c conf p) ≡ false →
    (let t = hears_from (handed_talk c conf p) s.from s.message in
    is_ended (members_in c conf) t ≡ true → has (gone t.heard) p ≡ false → (creator : ℕ) →
    index_in (on_message r.state s.from s.message (begin r)).replica.held.queue.red_cut creator ≡ known_up_to t.heard creator)

-- before the end of the plan a member waits for none of its own actions
own-none : (c : Chronicle) (p conf : ℕ) (r : Replica) (s : Sent Msg) → r.state ≡ state_in (members_in c conf) conf (handed_talk c conf p) p → is_ended (members_in c conf) (handed_talk c conf p) ≡ false →
    HasModeData c r.held (Regular conf) r.state → (on_message r.state s.from s.message (begin r)).replica.held.own ≡ []
own-none c p conf r s at yet mode = by (is_full set X) (is_through X) refl refl yet where
  set : List ℕ
  set = members_in c conf

  X : Talk
  X = handed_talk c conf p

  in-state : (state : State) → r.state ≡ state → (on_message state s.from s.message (begin r)).replica.held.own ≡ [] → (on_message r.state s.from s.message (begin r)).replica.held.own ≡ []
  in-state state is none = subst (λ x. (on_message x s.from s.message (begin r)).replica.held.own ≡ []) (sym is) none

  opened : (full through : Bool) → is_full set X ≡ full → is_through X ≡ through →
      state_in set conf X p ≡ (if not full then ExchangeStates conf set X.heard else if not through then ExchangeActions conf X.heard X.accepted else state_behind conf X p)
  opened full through a b = rw (a, b) refl

  by : (full through : Bool) → is_full set X ≡ full → is_through X ≡ through → (is_full set X && is_through X) ≡ false → (on_message r.state s.from s.message (begin r)).replica.held.own ≡ []
  by false through a b yet =
      let is : r.state ≡ ExchangeStates conf set X.heard = at ∙ opened false through a b in
      let data_of : HasModeData c r.held (Regular conf) (ExchangeStates conf set X.heard) = subst (HasModeData c r.held (Regular conf)) is mode in
      in-state (ExchangeStates conf set X.heard) is (none-in_states conf set X.heard s.from s.message (begin r) data_of)
  by true false a b yet =
      let is : r.state ≡ ExchangeActions conf X.heard X.accepted = at ∙ opened true false a b in
      let data_of : HasModeData c r.held (Regular conf) (ExchangeActions conf X.heard X.accepted) = subst (HasModeData c r.held (Regular conf)) is mode in
      in-state (ExchangeActions conf X.heard X.accepted) is (none-in_actions conf X.heard X.accepted s.from s.message (begin r) data_of)
  by true true a b yet = absurd (let clash : true ≡ false = sym (ap₂ (λ x y. x && y) a b) ∙ yet in cc)

-- a member, and the place that is handed to it
pub record HandsThere (c : Chronicle) (p : ℕ) : Type 0 where
  pub conf : ℕ
  pub replica : Replica
  pub disk : Disk
  pub sent : Sent Msg
  pub at : HandsAt c p conf replica disk sent
  pub runs : replica_of c.world p ≡ Some replica
  pub data_of : HasModeData c replica.held (Regular conf) replica.state

pub hands-there : (c : Chronicle) (p : ℕ) → PhaseSound c → ((q : ℕ) → IfSome (replica_of c.world q) (IsModeData c q)) → AttemptShape c → TalkFacts c →
    may_make c (Hands p) ≡ true → CanAnswer c p → HandsThere c p
unfolding may_make
hands-there c p sound mode shape old may answer =
    let g = c.world.group in
    let said = said-of c old in
    let parts = and_parts (is_regular g p) (nat_lt 0 (ready g p)) may in
    let phase = regular-phase (phase_of g p) parts.0 in
    let conf = phase.at in
    let sits = hosted c.world p (sound.up p ∙ regular-up g p parts.0) in
    let r = sits.replica in
    let running' : replica_of c.world p ≡ Some r = ap (option_and_then (λ (x : Node). running x.life)) sits.node in
    let next = some-at (ordered_in c conf) (delivered_to g p) (next-there c p conf phase.is parts.1) in
    let member = (subst (IsPhase c p (delivered_to g p)) phase.is (sound.phase p)).0 in
    let all = subst (λ (o : Option Replica). IfSome o (IsModeData c p)) running' (mode p) in
    let data_of = subst (λ (x : Phase). HasModeData c r.held x r.state) phase.is all.data_of in
    let modes = subst (λ (o : Option Replica). IfSome o (IsStateIn c p (phase_of g p))) running' (said.modes p) in
    let state = subst (λ (x : Phase). IsStateIn c p x r) phase.is modes in
    record {
      conf = conf;
      replica = r;
      disk = sits.disk;
      sent = next.0;
      at = record {
        node = sits.node;
        regular = phase.is;
        number = phase.number;
        next = next.1;
        member = member;
        id = all.id;
        attempt = attempt-named c p conf r said shape data_of state;
        has_answer = answer conf r next.0 phase.is running' next.1;
      };
      runs = running';
      data_of = data_of;
    }

pub talk-hands : (c : Chronicle) (p : ℕ) → PhaseSound c → ((q : ℕ) → IfSome (replica_of c.world q) (IsModeData c q)) → AttemptShape c → OfCores c (IsCore c) → SummaryOfSender c →
    may_make c (Hands p) ≡ true → CanAnswer c p → KnowsAtEnd c p → TalkFacts c → TalkFacts (small_step c (Hands p))
talk-hands c p sound mode shape cores summaries may answer knows old =
    let there = hands-there c p sound mode shape old may answer in
    let r = there.replica in
    let core = subst (λ (o : Option Replica). IfSome o (λ r. IsCore c r.held (greens_of c p))) there.runs (cores.memory p) in
    let is = step-is c p there.conf r there.disk there.sent there.at (said-of c old) in
    talk-from (small_step c (Hands p)) (hands-kept c p sound mode shape (said-of c old) may answer)
    (subst Content (sym is) (hands-content c p there.conf r there.disk there.sent there.at old core summaries))
    (subst ActsNumbered (sym is) (hands-acts c p there.conf r there.disk there.sent there.at old core there.data_of
    (λ yet. record {
      red = knows there.conf r there.sent there.at.regular there.runs there.at.next yet;
      own = own-none c p there.conf r there.sent (state-is c p there.conf r there.disk there.sent there.at (said-of c old)) yet there.data_of;
    })))

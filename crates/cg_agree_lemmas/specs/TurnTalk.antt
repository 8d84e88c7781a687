-- The small steps of requests keep the facts about what is said.
use Rattle.std.proofs.Common.{◌≡◌, ℕ, zero, suc, arith, true, false, cond, ◌&&◌, [], ◌++◌, Option, Some, None, IfSome, map, find, filter_map, refl, sym, ap, ap₂, ◌∙◌, ⊎_elim, ◌⊎◌, inl, inr, eqb-true, subst, option_and_then, append-nil}
use Rattle.std.specs.Prelude.{◌==◌}
use Rattle.std.specs.Option.{option_map_or}
use Rattle.std.proofs.lemmas.Bool.{cases_Bool, cond-true, cond-false, ne_eqb}
use Rattle.cg_base.specs.FindLaws.{found_passes}
use Rattle.cg_action.specs.declared.action.Kind.{Kind}
use Rattle.cg_knowledge.specs.declared.summary.Summary.{Summary}
use Rattle.cg_wire.specs.declared.message.Msg.{Msg}
use Rattle.cg_group.specs.declared.phase.Phase.{Phase}
use Rattle.cg_group.specs.declared.phase.Phase.TheVariants.{Down, Alone, Regular, Transitional}
use Rattle.cg_group.specs.State.{phase_of, delivered_to, unordered_of, configuration, has_received, GroupState}
use Rattle.cg_group.specs.Events.{send_all}
use Rattle.cg_group.specs.LookupLaws.{at-cond, eqb_comm}
use Rattle.cg_client.specs.Replica.{Held, State, RegPrim, TransPrim, ExchangeStates, ExchangeActions, Construct, No, Un, NonPrim, Left, Replica}
use Rattle.cg_client.specs.Turn.{Turn, begin}
use Rattle.cg_client.specs.Requests.{is_creating, create_kept, buffer, settle, request, request_in}
use Rattle.cg_states.specs.Construct.{attempt_set}
use Rattle.cg_disk_records.specs.Crash.{Disk}
use Rattle.cg_disk_records.specs.Stored.{stored_of, whiten}
use Rattle.cg_model.specs.World.{NodeState, Up, Down as DownLife, Node, World, set_life, node_of, replica_of, running}
use Rattle.cg_model.specs.Chronicle.{Told, Chronicle}
use Rattle.cg_model.specs.Looks.{greens_of}
use Rattle.cg_model.specs.Talk.{summary_in}
use Rattle.cg_model.specs.FactsNet.{PhaseSound, IsPhase}
use Rattle.cg_model.specs.FactsTalk.{IsTransitional, IsStateIn}
use Rattle.cg_model.specs.FactsReplica.{IsModeData}
use Rattle.cg_model.specs.Small.{Settles, Asks, small_step, commit_as, turning, turning_as, after_turn, take_request}
use Rattle.cg_agree_lemmas.specs.HandsTalk.{SaidFacts}
use Rattle.cg_agree_lemmas.specs.CreatesTalk.{Adds, adds-create, adds-kept, creates-said}
use Rattle.cg_agree_lemmas.specs.ChronicleFacts.{node_of-set}
use Rattle.cg_agree_lemmas.specs.SmallTalk.{conf-there}
use Rattle.cg_agree_lemmas.specs.TalkCommute.{clash}
use Rattle.cg_agree_lemmas.specs.TalkFrame.{SameTalk, IsShownAs, same-said, shown-itself}

-- a turn that says nothing and changes neither the state nor the attempt that is named
pub record IsQuiet (r : Replica) (u : Turn) : Type 0 where
  pub state : u.replica.state ≡ r.state
  pub set : attempt_set u.replica.held ≡ attempt_set r.held
  pub sent : u.sent ≡ []

abbrev pub CreatesOrIsQuiet : Replica → Turn → Type 0
CreatesOrIsQuiet r u = ((is_creating r.state ≡ true) × Adds (begin r) u) ⊎ IsQuiet r u

module _ (c : Chronicle) (p : ℕ) (r : Replica) (disk : Disk) (u : Turn) (quiet : IsQuiet r u) (node : node_of c.world p ≡ Some (record { id = p; life = Up r disk })) where
  abbrev behind : Chronicle
  behind = after_turn c p r disk u

  group-same : behind.world.group ≡ c.world.group
  group-same = ap (send_all c.world.group p) quiet.sent

  replica-behind : (q : ℕ) → replica_of behind.world q ≡ cond (q == p) (Some u.replica) (replica_of c.world q)
  replica-behind q = ap (option_and_then (λ (x : Node). running x.life)) (node_of-set c.world p (Up u.replica disk) q)
      ∙ at-cond (option_and_then (λ (x : Node). running x.life)) (p == q) (Some (record { id = p; life = Up u.replica disk })) (node_of c.world q)
      ∙ ap (λ b. cond b (Some u.replica) (replica_of c.world q)) (eqb_comm p q)

  itself : (o : Option Replica) → IsShownAs o o
  itself None = tt
  itself (Some x) = (refl, refl)

  shown : (q : ℕ) → IsShownAs (replica_of c.world q) (replica_of behind.world q)
  shown q = ⊎_elim
      (λ is.
      let before : replica_of c.world q ≡ Some r = ap (replica_of c.world) (eqb-true q p is) ∙ ap (option_and_then (λ (x : Node). running x.life)) node in
      let after : replica_of behind.world q ≡ Some u.replica = replica-behind q ∙ cond-true (q == p) (Some u.replica) (replica_of c.world q) is in
      subst (λ (o : Option Replica). IsShownAs o (replica_of behind.world q)) (sym before) (subst (λ (o : Option Replica). IsShownAs (Some r) o) (sym after) (quiet.state, quiet.set)))
      (λ isnt. subst (λ (o : Option Replica). IsShownAs (replica_of c.world q) o) (sym (replica-behind q ∙ cond-false (q == p) (Some u.replica) (replica_of c.world q) isnt)) (itself (replica_of c.world q)))
      (cases_Bool (q == p))

  pub quiet-same : SameTalk c behind
  quiet-same = record {
    members = λ k. ap (λ (g : GroupState Msg). (configuration g k).members) group-same;
    ordered = λ k. ap (λ (g : GroupState Msg). (configuration g k).ordered) group-same;
    phase = λ q. ap (λ (g : GroupState Msg). phase_of g q) group-same;
    delivered = λ q. ap (λ (g : GroupState Msg). delivered_to g q) group-same;
    waits = λ q. ap (λ (g : GroupState Msg). unordered_of g q) group-same;
    told = λ k q. ap (λ xs. find (λ (t : Told). (t.summary.conf == k) && (t.summary.id == q)) (c.told ++ map (λ x. told-by x) (filter_map summary_in xs))) quiet.sent
        ∙ ap (find (λ (t : Told). (t.summary.conf == k) && (t.summary.id == q))) (append-nil c.told);
    replica = shown;
    receipts = λ k q place out. ap (λ (g : GroupState Msg). has_received (configuration g k) q place) group-same;
  } where
    told-by : Summary → Told
    told-by x = record { summary = x; greens = greens_of c p }

-- who creates is regular
pub creating-regular : (c : Chronicle) (p : ℕ) (r : Replica) (phase : Phase) → IsStateIn c p phase r → IsPhase c p (delivered_to c.world.group p) phase → is_creating r.state ≡ true →
    (conf : ℕ) × (phase ≡ Regular conf)
creating-regular c p r Down is there creating = clash (is_creating r.state) creating (ap is_creating is)
creating-regular c p r Alone is there creating = clash (is_creating r.state) creating (ap is_creating is)
creating-regular c p r (Regular conf) is there creating = (conf, refl)
creating-regular c p r (Transitional conf set) is there creating = absurd (out r.held r.state is creating) where
  out : (h : Held) (state : State) → IsTransitional c conf p h state → is_creating state ≡ true → ⊥
  out h RegPrim is e = is
  out h (NonPrim regular) is e = clash regular e is
  out h TransPrim is e = let no' : false ≡ true = e in cc
  out h (ExchangeStates at set heard) is e = is
  out h (ExchangeActions at heard accepted) is e = is
  out h (Construct at heard) is e = is
  out h (No at heard) is e = let no' : false ≡ true = e in cc
  out h Un is e = let no' : false ≡ true = e in cc
  out h Left is e = let no' : false ≡ true = e in cc

pub number-of : (c : Chronicle) (p conf : ℕ) → IsPhase c p (delivered_to c.world.group p) (Regular conf) → (conf == 0) ≡ false
number-of c p zero there = absurd (let range = conf-there c.world.group 0 p there.0 in omega (arith, range.0))
number-of c p (suc n) there = ne_eqb (suc n) 0 (λ e. omega arith)

-- a turn that creates in a state that creates, and is quiet else
pub turn-kept : (c : Chronicle) (p : ℕ) (part : Turn → Turn) → PhaseSound c → ((q : ℕ) → IfSome (replica_of c.world q) (IsModeData c q)) → SaidFacts c →
    ((r : Replica) → CreatesOrIsQuiet r (part (begin r))) → SaidFacts (turning c p part)
turn-kept c p part sound mode said each = at (node_of c.world p) refl where
  up : (r : Replica) (disk : Disk) → node_of c.world p ≡ Some (record { id = p; life = Up r disk }) → CreatesOrIsQuiet r (part (begin r)) → SaidFacts (after_turn c p r disk (part (begin r)))
  up r disk node (inr quiet) = same-said c (after_turn c p r disk (part (begin r))) (quiet-same c p r disk (part (begin r)) quiet node) said
  up r disk node (inl creates) =
      let running' : replica_of c.world p ≡ Some r = ap (option_and_then (λ (x : Node). running x.life)) node in
      let state = subst (λ (o : Option Replica). IfSome o (IsStateIn c p (phase_of c.world.group p))) running' (said.modes p) in
      let data_of = subst (λ (o : Option Replica). IfSome o (IsModeData c p)) running' (mode p) in
      let regular = creating-regular c p r (phase_of c.world.group p) state (sound.phase p) creates.0 in
      let there = subst (IsPhase c p (delivered_to c.world.group p)) regular.1 (sound.phase p) in
      creates-said c p regular.0 r disk (part (begin r)) (record {
        node = node;
        regular = regular.1;
        number = number-of c p regular.0 there;
        member = there.0;
        id = data_of.id;
        creating = creates.0;
        adds = creates.1;
      }) said

  life : (s : Node) (life : NodeState) → s.life ≡ life → s.id ≡ p → node_of c.world p ≡ Some s → SaidFacts (turning_as c p part life)
  life s (Up r disk) is id e = up r disk (e ∙ ap₂ (λ i l. Some (record { id = i; life = l })) id is) (each r)
  life s (DownLife disk green) is id e = said

  at : (o : Option Node) → node_of c.world p ≡ o → SaidFacts (option_map_or (λ s. turning_as c p part s.life) o c)
  at None e = said
  at (Some s) e = life s s.life refl (eqb-true s.id p (found_passes (λ (s : Node). s.id == p) c.world.nodes s e)) e

pub settle-each : (r : Replica) → CreatesOrIsQuiet r (settle (begin r))
settle-each r = ⊎_elim
    (λ is. inl (is, subst (λ (u : Turn). Adds (begin r) u) (sym (cond-true (is_creating r.state) (create_kept (begin r)) (begin r) is)) (adds-kept (begin r))))
    (λ isnt. inr (subst (λ (u : Turn). IsQuiet r u) (sym (cond-false (is_creating r.state) (create_kept (begin r)) (begin r) isnt)) (record { state = refl; set = refl; sent = refl })))
    (cases_Bool (is_creating r.state))

pub settles-kept : (c : Chronicle) (p : ℕ) → PhaseSound c → ((q : ℕ) → IfSome (replica_of c.world q) (IsModeData c q)) → SaidFacts c → SaidFacts (small_step c (Settles p))
unfolding small_step
settles-kept c p sound mode said = turn-kept c p settle sound mode said settle-each

pub ask-each : (kind : Kind) (r : Replica) → CreatesOrIsQuiet r (request (begin r) kind)
ask-each kind r = at r.state refl where
  quiet : IsQuiet r (buffer (begin r) kind)
  quiet = record { state = refl; set = refl; sent = refl }

  at : (state : State) → r.state ≡ state → CreatesOrIsQuiet r (request_in state (begin r) kind)
  at RegPrim is = inl (ap is_creating is, adds-create (begin r) kind)
  at (NonPrim true) is = inl (ap is_creating is, adds-create (begin r) kind)
  at (NonPrim false) is = inr quiet
  at Left is = inr (record { state = refl; set = refl; sent = refl })
  at TransPrim is = inr quiet
  at (ExchangeStates conf set heard) is = inr quiet
  at (ExchangeActions conf heard accepted) is = inr quiet
  at (Construct conf heard) is = inr quiet
  at (No conf heard) is = inr quiet
  at Un is = inr quiet

pub asks-kept : (c : Chronicle) (p : ℕ) (kind : Kind) → PhaseSound c → ((q : ℕ) → IfSome (replica_of c.world q) (IsModeData c q)) → SaidFacts c → SaidFacts (small_step c (Asks p kind))
unfolding small_step
asks-kept c p kind sound mode said = turn-kept c p (take_request kind) sound mode said (ask-each kind)

-- ---- a commit

-- a replica with the same state, in its node
life-shown : (w : World) (p : ℕ) (r new : Replica) (disk disk' : Disk) → node_of w p ≡ Some (record { id = p; life = Up r disk }) →
    new.state ≡ r.state → attempt_set new.held ≡ attempt_set r.held → (q : ℕ) → IsShownAs (replica_of w q) (replica_of (set_life w p (Up new disk')) q)
life-shown w p r new disk disk' node state set q = ⊎_elim
    (λ is.
    let before : replica_of w q ≡ Some r = ap (replica_of w) (eqb-true q p is) ∙ ap (option_and_then (λ (x : Node). running x.life)) node in
    let after : replica_of (set_life w p (Up new disk')) q ≡ Some new = behind ∙ cond-true (q == p) (Some new) (replica_of w q) is in
    subst (λ (o : Option Replica). IsShownAs o (replica_of (set_life w p (Up new disk')) q)) (sym before) (subst (λ (o : Option Replica). IsShownAs (Some r) o) (sym after) (state, set)))
    (λ isnt. subst (λ (o : Option Replica). IsShownAs (replica_of w q) o) (sym (behind ∙ cond-false (q == p) (Some new) (replica_of w q) isnt)) (shown-itself (replica_of w q)))
    (cases_Bool (q == p)) where
      behind : replica_of (set_life w p (Up new disk')) q ≡ cond (q == p) (Some new) (replica_of w q)
      behind = ap (option_and_then (λ (x : Node). running x.life)) (node_of-set w p (Up new disk') q)
          ∙ at-cond (option_and_then (λ (x : Node). running x.life)) (p == q) (Some (record { id = p; life = Up new disk' })) (node_of w q)
          ∙ ap (λ b. cond b (Some new) (replica_of w q)) (eqb_comm p q)

white-set : (h : Held) → attempt_set (whiten h) ≡ attempt_set h
unfolding whiten
white-set h = refl

pub commit-same : (c : Chronicle) (p : ℕ) (r : Replica) (disk : Disk) → node_of c.world p ≡ Some (record { id = p; life = Up r disk }) → SameTalk c (commit_as c p (Up r disk))
commit-same c p r disk node = record {
  members = λ k. refl;
  ordered = λ k. refl;
  phase = λ q. refl;
  delivered = λ q. refl;
  waits = λ q. refl;
  told = λ k q. refl;
  replica = life-shown c.world p r (record r { held = whiten r.held }) disk (record disk { content = stored_of (whiten r.held) }) node refl (white-set r.held);
  receipts = λ k q place out. refl;
}

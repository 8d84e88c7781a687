-- The small step in which a place is handed keeps the facts about what is said, where the member has what it is to send.
use Rattle.std.proofs.Common.{◌≡◌, ℕ, zero, suc, ◌-◌, ◌≤◌, ◌<◌, true, false, not, List, [], ◌∷◌, ◌++◌, Option, Some, None, IfSome, take, drop, length, refl, sym, ap, ap₂, ◌∙◌, ⊎_elim, ◌⊎◌, inl, inr, eqb-true, subst, arith, option_and_then}
use Rattle.std.specs.Prelude.{◌==◌, slice_get, is_some, nat_lt}
use Rattle.std.specs.Option.{option_map_or}
use Rattle.std.specs.List.{prefix_len}
use Rattle.std.proofs.lemmas.Bool.{and_parts, cases_Bool, ltb-true, not-true}
use Rattle.std.proofs.lemmas.List.Sums.{prefix_len-le-length, fold-append}
use Rattle.cg_base.specs.Lists.{above_up_to}
use Rattle.cg_base.specs.ListLaws.{length-count_up}
use Rattle.cg_base.specs.Sets.{has}
use Rattle.cg_base.specs.FindLaws.{found_passes}
use Rattle.cg_knowledge.specs.Summaries.{gone, remaining}
use Rattle.cg_knowledge.specs.Verdict.{decides}
use Rattle.cg_wire.specs.declared.message.Msg.{Msg}
use Rattle.cg_group.specs.declared.phase.Phase.{Phase}
use Rattle.cg_group.specs.declared.phase.Phase.TheVariants.{Down, Alone, Regular, Transitional}
use Rattle.cg_group.specs.Ready.{ready, ready_in, all_received}
use Rattle.cg_group.specs.State.{Sent, phase_of, is_regular, regular_in, delivered_to, configuration}
use Rattle.cg_client.specs.Replica.{Held, State, RegPrim, Construct, Replica}
use Rattle.cg_client.specs.Turn.{begin}
use Rattle.cg_states.specs.Construct.{attempt_set}
use Rattle.cg_disk_records.specs.Crash.{Disk}
use Rattle.cg_model.specs.World.{NodeState, Up, Down as DownLife, Node, World, node_of, replica_of, running}
use Rattle.cg_model.specs.Chronicle.{Attempt, Chronicle}
use Rattle.cg_model.specs.Looks.{conf_of, members_in, ordered_in, attempt_of, attempt_at}
use Rattle.cg_model.specs.Talk.{Talk, no_talk, talk_of, hears, is_full, is_through, is_ended, is_announced, is_legal, state_in}
use Rattle.cg_model.specs.FactsNet.{PhaseSound, IsPhase}
use Rattle.cg_model.specs.FactsTalk.{handed_talk, whole_talk, IsStateIn}
use Rattle.cg_model.specs.FactsReplica.{HasModeData, IsInAttempt, IsModeData, own_record}
use Rattle.cg_model.specs.FactsAttempts.{AttemptShape}
use Rattle.cg_model.specs.Small.{Hands, small_step}
use Rattle.cg_model.specs.Smalls.{may_make}
use Rattle.cg_agree_lemmas.specs.TalkCommute.{legal-append}
use Rattle.cg_agree_lemmas.specs.SaidSoFar.{rest-through}
use Rattle.cg_agree_lemmas.specs.HandsTalk.{HasAnswer, SaidFacts, hands-said}
use Rattle.cg_group.specs.RefusalLaws.{regular-up}

-- the member has what it is to send behind the place that is handed
abbrev pub CanAnswer : Chronicle → ℕ → Type 0
CanAnswer c p =
    (conf : ℕ) (r : Replica) (s : Sent Msg) → phase_of c.world.group p ≡ Regular conf → replica_of c.world p ≡ Some r →
    slice_get (ordered_in c conf) (delivered_to c.world.group p) ≡ Some s → HasAnswer (members_in c conf) (begin r) (handed_talk c conf p) p s.from s.message

pub record IsRegular (phase : Phase) : Type 0 where
  pub at : ℕ
  pub is : phase ≡ Regular at
  pub number : (at == 0) ≡ false

pub regular-phase : (phase : Phase) → not (regular_in phase == 0) ≡ true → IsRegular phase
regular-phase Down e = absurd (let no : false ≡ true = e in cc)
regular-phase Alone e = absurd (let no : false ≡ true = e in cc)
regular-phase (Regular conf) e = record { at = conf; is = refl; number = not-true (conf == 0) e }
regular-phase (Transitional conf set) e = absurd (let no : false ≡ true = e in cc)

pub record Sits (w : World) (p : ℕ) : Type 0 where
  pub replica : Replica
  pub disk : Disk
  pub node : node_of w p ≡ Some (record { id = p; life = Up replica disk })

pub hosted : (w : World) (p : ℕ) → is_some (replica_of w p) ≡ true → Sits w p
hosted w p there = at (node_of w p) refl there where
  up : (s : Node) (life : NodeState) → s.life ≡ life → s.id ≡ p → node_of w p ≡ Some s → is_some (running life) ≡ true → Sits w p
  up s (Up r disk) is id e there = record { replica = r; disk = disk; node = e ∙ ap₂ (λ i l. Some (record { id = i; life = l })) id is }
  up s (DownLife disk green) is id e there = absurd (let no : false ≡ true = there in cc)

  at : (o : Option Node) → node_of w p ≡ o → is_some (option_and_then (λ s. running s.life) o) ≡ true → Sits w p
  at None e there = absurd (let no : false ≡ true = there in cc)
  at (Some s) e there = up s s.life refl (eqb-true s.id p (found_passes (λ (s : Node). s.id == p) w.nodes s e)) e there

-- below its length a list has something
pub some-at : {X : Type 0} (xs : List X) (n : ℕ) → n < length xs → (x : X) × (slice_get xs n ≡ Some x)
some-at [] n lt = absurd (omega arith)
some-at (x ∷ xs) zero lt = (x, refl)
some-at (x ∷ xs) (suc n) lt = some-at xs n (omega arith)

-- where places are ready, the next one is there
pub next-there : (c : Chronicle) (p conf : ℕ) → phase_of c.world.group p ≡ Regular conf → nat_lt 0 (ready c.world.group p) ≡ true →
    delivered_to c.world.group p < length (ordered_in c conf)
unfolding ready_in
next-there c p conf regular ready-now =
    let g = c.world.group in
    let test = all_received (conf_of c conf) in
    let count = delivered_to g p in
    let list = ordered_in c conf in
    let at : ready g p ≡ prefix_len test (above_up_to count (length list)) = ap (λ (x : ℕ). ready_in (configuration g x) count) (ap regular_in regular) in
    let some : 0 < ready g p = ltb-true 0 (ready g p) ready-now in
    let few : prefix_len test (above_up_to count (length list)) ≤ length (above_up_to count (length list)) = prefix_len-le-length test (above_up_to count (length list)) in
    let long = length-count_up (suc count) (length list - count) in
    omega (arith, at, some, few, long)

pub take-drop : {X : Type 0} (xs : List X) (n : ℕ) → take n xs ++ drop n xs ≡ xs
take-drop xs zero = refl
take-drop [] (suc n) = refl
take-drop (x ∷ xs) (suc n) = ap (λ zs. x ∷ zs) (take-drop xs n)

in-primary : (set : List ℕ) (conf : ℕ) (t : Talk) (me : ℕ) → is_full set t ≡ true → is_through t ≡ true → has (gone t.heard) me ≡ false → decides t.heard ≡ true →
    is_announced t ≡ true → state_in set conf t me ≡ RegPrim
in-primary set conf t me full through stays decided all = rw (full, through, stays, decided, all) refl

in-construct : (set : List ℕ) (conf : ℕ) (t : Talk) (me : ℕ) → is_full set t ≡ true → is_through t ≡ true → has (gone t.heard) me ≡ false → decides t.heard ≡ true →
    is_announced t ≡ false → state_in set conf t me ≡ Construct conf t.announced
in-construct set conf t me full through stays decided few = rw (full, through, stays, decided, few) refl

-- a record that names an attempt's members names those that remain
module _ (c : Chronicle) (p conf : ℕ) (r : Replica) (said : SaidFacts c) (shape : AttemptShape c) where
  abbrev x : Talk
  x = handed_talk c conf p

  heard-same : is_full (members_in c conf) x ≡ true → is_through x ≡ true → (whole_talk c conf).heard ≡ x.heard
  heard-same full through =
      let set = members_in c conf in
      let list = ordered_in c conf in
      let count = delivered_to c.world.group p in
      let split : take count list ++ drop count list ≡ list = take-drop list count in
      let both = and_parts (is_legal set conf no_talk (take count list)) (is_legal set conf x (drop count list))
      (sym (legal-append set conf (take count list) (drop count list) no_talk) ∙ ap (is_legal set conf no_talk) split ∙ said.legal.ordered conf) in
      ap (λ xs. (talk_of xs).heard) (sym split) ∙ ap (λ (t : Talk). t.heard) (fold-append hears no_talk (take count list) (drop count list))
      ∙ (rest-through set conf p (drop count list) x full through both.1).heard

  named : (a : Attempt) → attempt_of c conf ≡ Some a → a.set ≡ remaining (whole_talk c conf).heard
  named a e = let all = shape conf in (rw e at all).parts.set

  own-set : (h : Held) (a : Attempt) → attempt_of c conf ≡ Some a → h.vulnerable ≡ Some (own_record a h.id) → attempt_set h ≡ remaining (whole_talk c conf).heard
  own-set h a e mine = ap (λ v. option_map_or (λ v. v.set) v []) mine ∙ named a e

  in-attempt : (h : Held) (o : Option Attempt) → attempt_of c conf ≡ o → IsInAttempt h o → attempt_set h ≡ remaining (whole_talk c conf).heard
  in-attempt h None e data_of = absurd data_of
  in-attempt h (Some a) e data_of = own-set h a e data_of.0

  of-state : (h : Held) (state : State) → HasModeData c h (Regular conf) state → (state ≡ RegPrim) ⊎ (state ≡ Construct conf x.announced) →
      attempt_set h ≡ remaining (whole_talk c conf).heard
  of-state h state data_of (inl is) =
      let prim : HasModeData c h (Regular conf) RegPrim = subst (HasModeData c h (Regular conf)) is data_of in
      own-set h (attempt_at c h.prim.index) prim.0.opened prim.0.mine
  of-state h state data_of (inr is) =
      let attempt : HasModeData c h (Regular conf) (Construct conf x.announced) = subst (HasModeData c h (Regular conf)) is data_of in
      in-attempt h (attempt_of c conf) refl attempt

  behind-end : is_ended (members_in c conf) x ≡ true → has (gone x.heard) p ≡ false → decides x.heard ≡ true →
      (state_in (members_in c conf) conf x p ≡ RegPrim) ⊎ (state_in (members_in c conf) conf x p ≡ Construct conf x.announced)
  behind-end ended stays decided =
      let parts = and_parts (is_full (members_in c conf) x) (is_through x) ended in
      ⊎_elim (λ all. inl (in-primary (members_in c conf) conf x p parts.0 parts.1 stays decided all))
      (λ few. inr (in-construct (members_in c conf) conf x p parts.0 parts.1 stays decided few)) (cases_Bool (is_announced x))

  pub attempt-named : HasModeData c r.held (Regular conf) r.state → r.state ≡ state_in (members_in c conf) conf x p →
      is_ended (members_in c conf) x ≡ true → has (gone x.heard) p ≡ false → decides x.heard ≡ true → attempt_set r.held ≡ remaining x.heard
  attempt-named data_of at ended stays decided =
      let parts = and_parts (is_full (members_in c conf) x) (is_through x) ended in
      of-state r.held (state_in (members_in c conf) conf x p) (subst (HasModeData c r.held (Regular conf)) at data_of) (behind-end ended stays decided)
      ∙ ap remaining (heard-same parts.0 parts.1)

-- a place that is handed keeps the facts about what is said
pub hands-kept : (c : Chronicle) (p : ℕ) → PhaseSound c → ((q : ℕ) → IfSome (replica_of c.world q) (IsModeData c q)) → AttemptShape c → SaidFacts c →
    may_make c (Hands p) ≡ true → CanAnswer c p → SaidFacts (small_step c (Hands p))
unfolding may_make
hands-kept c p sound mode shape said may answer =
    let g = c.world.group in
    let parts = and_parts (is_regular g p) (nat_lt 0 (ready g p)) may in
    let phase = regular-phase (phase_of g p) parts.0 in
    let conf = phase.at in
    let sits = hosted c.world p (sound.up p ∙ regular-up g p parts.0) in
    let r = sits.replica in
    let running' : replica_of c.world p ≡ Some r = ap (option_and_then (λ (x : Node). running x.life)) sits.node in
    let next = some-at (ordered_in c conf) (delivered_to g p) (next-there c p conf phase.is parts.1) in
    let member = (subst (IsPhase c p (delivered_to g p)) phase.is (sound.phase p)).0 in
    let all = subst (λ (o : Option Replica). IfSome o (IsModeData c p)) running' (mode p) in
    let data_of = subst (λ (x : Phase). HasModeData c r.held x r.state) phase.is all.data_of in
    let modes = subst (λ (o : Option Replica). IfSome o (IsStateIn c p (phase_of g p))) running' (said.modes p) in
    let state = subst (λ (x : Phase). IsStateIn c p x r) phase.is modes in
    hands-said c p conf r sits.disk next.0
    (record {
      node = sits.node;
      regular = phase.is;
      number = phase.number;
      next = next.1;
      member = member;
      id = all.id;
      attempt = attempt-named c p conf r said shape data_of state;
      has_answer = answer conf r next.0 phase.is running' next.1;
    }) said

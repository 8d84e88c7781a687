-- Who told something in a configuration in which nothing has a place yet, and in no later one, has the greens that it had then.
use Rattle.std.proofs.Common.{◌≡◌, ℕ, zero, suc, ◌<◌, Bool, true, false, cond, List, [], ◌∷◌, ◌++◌, append-nil, find, fold, Option, Some, None, IfSome, refl, sym, ap, ap₂, ◌∙◌, subst, inl, inr, is_some, eq-eqb}
use Rattle.std.specs.Prelude.{◌==◌, slice_get}
use Rattle.std.specs.Option.{option_map_or}
use Rattle.std.proofs.lemmas.Bool.{cases_eq, cases_order, cond-false, and_parts, ne_eqb}
use Rattle.cg_base.specs.Text.{is_nil}
use Rattle.cg_base.specs.Weights.{ids}
use Rattle.cg_action.specs.declared.action.Action.{Action}
use Rattle.cg_action.specs.declared.action.Kind.{Kind}
use Rattle.cg_wire.specs.declared.message.Msg.{Msg}
use Rattle.cg_group.specs.State.{Sent, Configuration, configuration, home, regular_in, phase_of, delivered_to, is_regular}
use Rattle.cg_group.specs.Events.{delivery_at, deliveries_at}
use Rattle.cg_group.specs.declared.delivery.Delivery.TheVariants.{Message, Transitional as TransitionalIn}
use Rattle.cg_group.specs.declared.phase.Phase.{Phase}
use Rattle.cg_group.specs.declared.phase.Phase.TheVariants.{Down as DownPhase, Alone, Regular, Transitional}
use Rattle.cg_client.specs.Replica.{State, RegPrim, TransPrim, ExchangeStates, ExchangeActions, Construct, No, Un, NonPrim, Left, Replica}
use Rattle.cg_client.specs.Turn.{Turn, begin}
use Rattle.cg_client.specs.Requests.{is_creating, create_kept, empty_buffer, request_in, settle}
use Rattle.cg_states.specs.ReplicaStep.{on_transitional, after_delivery}
use Rattle.cg_disk_records.specs.Crash.{Disk}
use Rattle.cg_model.specs.World.{NodeState, Up, Down, Node, node_of, replica_of, has_begun}
use Rattle.cg_model.specs.Chronicle.{Past, Told, Chronicle}
use Rattle.cg_model.specs.Fronts.{IsSomeWith}
use Rattle.cg_model.specs.Looks.{past_of, greens_of, told_in, ordered_in, is_at, is_regular_at, is_regular_in, snapshot_of, copied_for}
use Rattle.cg_model.specs.FactsExchange.{IsInExchange}
use Rattle.cg_model.specs.Facts.{Invariant}
use Rattle.cg_model.specs.Played.{AtRest}
use Rattle.cg_model.specs.Small.{Small, Starts, Makes, Enters, Orders, Receives, Hands, Leaves, Asks, Settles, Commits, Crashes, Recovers, Copies, Joins, small_step, new_past, turning, turning_as, after_turn, newly_green, handed_next, leaving, take_next, take_parting, take_request, commit_as, crash_as, recover_as, copy_as, join_with}
use Rattle.cg_model.specs.Smalls.{may_make, is_set}
use Rattle.cg_agree_lemmas.specs.ChronicleFacts.{greens_of-other, past-begun}
use Rattle.cg_agree_lemmas.specs.CoresKept.{node-of, greens-turn}
use Rattle.cg_agree.proofs.GreensFront.{crash-same}
use Rattle.cg_agree_lemmas.specs.GroupKept.{leaving-regular}
use Rattle.cg_agree.proofs.BegunKept.{nothing-before}
use Rattle.cg_agree_lemmas.specs.ToldKept.{IsUntold}
use Rattle.cg_agree_lemmas.specs.OneSteps.{may-join}
use Rattle.cg_agree_lemmas.specs.HandsNow.{hands-now, hands-regular}
use Rattle.cg_agree_lemmas.specs.HandsKept.{regular-phase}
use Rattle.cg_agree_lemmas.specs.EntryGreens.{nothing-new}
use Rattle.cg_agree_lemmas.specs.GreenMembers.{creates-same}
use Rattle.cg_agree_lemmas.specs.TurnAlong.{commit-same}
use Rattle.cg_group.specs.RefusalLaws.{regular-up}

-- ---- a turn in which nothing becomes green

same-past : (c d : Chronicle) → d.pasts ≡ c.pasts → (q : ℕ) → greens_of d q ≡ greens_of c q
same-past c d pasts q = ap (λ xs. option_map_or (λ (x : Past). x.greens) (find (λ (x : Past). x.id == q) xs) []) pasts

pub turn-same : (c b : Chronicle) (p : ℕ) (part : Turn → Turn) → Invariant c → b.world.nodes ≡ c.world.nodes → b.pasts ≡ c.pasts →
    ((r : Replica) (disk : Disk) → node_of c.world p ≡ Some (record { id = p; life = Up r disk }) → newly_green r (part (begin r)).replica ≡ []) → (q : ℕ) → greens_of (turning b p part) q ≡ greens_of c q
turn-same c b p part i nodes pasts none q = at (node_of b.world p) refl where
  begun : (q : ℕ) → is_some (past_of b q) ≡ has_begun b.world q
  begun q = ap (λ xs. is_some (find (λ (x : Past). x.id == q) xs)) pasts ∙ i.net.hosted.past q ∙ ap (λ xs. is_some (find (λ (s : Node). s.id == q) xs)) (sym nodes)

  turn : (r : Replica) (disk : Disk) → node_of b.world p ≡ Some (record { id = p; life = Up r disk }) → greens_of (after_turn b p r disk (part (begin r))) q ≡ greens_of c q
  turn r disk node =
      let t = part (begin r) in
      let d = after_turn b p r disk t in
      let here = ap (λ (list : List Node). find (λ s. s.id == p) list) (sym nodes) ∙ node in
      elim (cases_eq q p) [
        | inl same ↦ ap (greens_of d) same ∙ greens-turn b p r disk t begun node ∙ ap (λ xs. greens_of b p ++ xs) (none r disk here) ∙ append-nil (greens_of b p) ∙ same-past c b pasts p ∙ ap (greens_of c) (sym same)
        | inr apart ↦ greens_of-other b p r disk t q apart ∙ same-past c b pasts q
      ]

  life : (s : Node) (l : NodeState) → s.life ≡ l → node_of b.world p ≡ Some s → greens_of (turning_as b p part l) q ≡ greens_of c q
  life s (Up r disk) is e = turn r disk (node-of b p s (Up r disk) is e)
  life s (Down disk green) is e = same-past c b pasts q

  at : (o : Option Node) → node_of b.world p ≡ o → greens_of (option_map_or (λ s. turning_as b p part s.life) o b) q ≡ greens_of c q
  at None e = same-past c b pasts q
  at (Some s) e = life s s.life refl e

-- ---- a parting from an exchange without a message

-- no place, nothing to hand
none-placed : (C : Configuration Msg) → C.ordered ≡ [] → (place : ℕ) → delivery_at C place ≡ []
unfolding delivery_at
none-placed C none zero = refl
none-placed C none (suc n) = ap (λ (xs : List (Sent Msg)). option_map_or (λ s. Message (suc n) s.from s.message ∷ []) (slice_get xs n) []) none

none-there : (C : Configuration Msg) → C.ordered ≡ [] → (places : List ℕ) → deliveries_at C places ≡ []
none-there C none [] = refl
none-there C none (place ∷ places) = ap₂ (λ xs ys. xs ++ ys) (none-placed C none place) (none-there C none places)

parted-greens : (state : State) (t : Turn) → (on_transitional state t).replica.held.queue.greens ≡ t.replica.held.queue.greens
unfolding on_transitional
parted-greens RegPrim t = refl
parted-greens TransPrim t = refl
parted-greens (ExchangeStates conf set heard) t = refl
parted-greens (ExchangeActions conf summaries accepted) t = refl
parted-greens (Construct conf heard) t = refl
parted-greens (No conf heard) t = refl
parted-greens Un t = refl
parted-greens (NonPrim regular) t = refl
parted-greens Left t = refl

-- ---- who told something there

module _ (c : Chronicle) (i : Invariant c) (conf p : ℕ) (t : Told) (told : told_in c conf p ≡ Some t) (last : (later : ℕ) → conf < later → told_in c later p ≡ None) where
  -- where it is regular it has told something, so that is its configuration
  regular-here : (k : ℕ) → is_regular_in c k p ≡ true → is_some (replica_of c.world p) ≡ true → k ≡ conf
  regular-here k regular up = elim (cases_order k conf) [
    | inl same ↦ same
    | inr apart ↦ elim apart [
      | inl before ↦ absurd (let clash : true ≡ false = sym (inside (phase_of c.world.group p) regular) ∙ i.net.past_left.left conf p k (ap is_some told) before in cc)
      | inr after ↦ absurd (has_told (replica_of c.world p) up (i.exchange.exchange_progress k p regular) after)
    ]
  ] where
    inside : (x : Phase) → is_regular_at k x ≡ true → is_at k x ≡ true
    inside (Regular at) e = e
    inside (Transitional at set) e = absurd (let clash : false ≡ true = e in cc)
    inside DownPhase e = absurd (let clash : false ≡ true = e in cc)
    inside Alone e = absurd (let clash : false ≡ true = e in cc)

    some-told : (o : Option Told) → o ≡ None → (P : Told → Type 0) → IsSomeWith o P → ⊥
    some-told None e P is = is
    some-told (Some x) e P is = let clash : Some x ≡ None = e in cc

    has_told : (o : Option Replica) → is_some o ≡ true → IfSome o (λ r. IsSomeWith (told_in c k p) (λ t. IsInExchange c k t r.held (greens_of c p) r.state)) → conf < k → ⊥
    has_told None there is after = let clash : false ≡ true = there in cc
    has_told (Some r) there is after = some-told (told_in c k p) (last k after) (λ t. IsInExchange c k t r.held (greens_of c p) r.state) is

  -- ---- each small step but an entry leaves its greens

  begun-here : has_begun c.world p ≡ true
  begun-here = i.net.members_begun.member conf p (i.net.past_left.member conf p (ap is_some told))

  other-turn : (b : Chronicle) (q : ℕ) (part : Turn → Turn) → b.pasts ≡ c.pasts → (p ≡ q → ⊥) → greens_of (turning b q part) p ≡ greens_of c p
  other-turn b q part pasts apart = at (node_of b.world q) where
    life : (l : NodeState) → greens_of (turning_as b q part l) p ≡ greens_of c p
    life (Up r disk) = greens_of-other b q r disk (part (begin r)) p apart ∙ same-past c b pasts p
    life (Down disk green) = same-past c b pasts p

    at : (o : Option Node) → greens_of (option_map_or (λ s. turning_as b q part s.life) o b) p ≡ greens_of c p
    at None = same-past c b pasts p
    at (Some s) = life s.life

  some-same : {X : Type 0} (o : Option X) (change : X → Chronicle) → ((x : X) → greens_of (change x) p ≡ greens_of c p) → greens_of (option_map_or change o c) p ≡ greens_of c p
  some-same None change each = refl
  some-same (Some x) change each = each x

  recover-same : (l : NodeState) → greens_of (recover_as c l) p ≡ greens_of c p
  recover-same (Up r disk) = refl
  recover-same (Down disk green) = refl

  none-new : (r : Replica) (u : Turn) → u.replica.held.queue.greens ≡ r.held.queue.greens → newly_green r u.replica ≡ []
  none-new r u same = nothing-new r u.replica same

  asked-none : (r : Replica) (kind : Kind) → newly_green r (take_request kind (begin r)).replica ≡ []
  asked-none r kind = none-new r (take_request kind (begin r)) (at r.state) where
    at : (state : State) → (request_in state (begin r) kind).replica.held.queue.greens ≡ r.held.queue.greens
    at RegPrim = (creates-same (kind ∷ []) (begin r)).greens
    at (NonPrim true) = (creates-same (kind ∷ []) (begin r)).greens
    at Left = refl
    at TransPrim = refl
    at (ExchangeStates conf set heard) = refl
    at (ExchangeActions conf heard accepted) = refl
    at (Construct conf heard) = refl
    at (No conf heard) = refl
    at Un = refl
    at (NonPrim false) = refl

  settled-none : (r : Replica) → newly_green r (settle (begin r)).replica ≡ []
  unfolding create_kept
  settled-none r = none-new r (settle (begin r)) (at (is_creating r.state)) where
    at : (b : Bool) → (cond b (create_kept (begin r)) (begin r)).replica.held.queue.greens ≡ r.held.queue.greens
    at true = (creates-same r.held.buffered (empty_buffer (begin r))).greens
    at false = refl

  up-of : (q : ℕ) → is_regular c.world.group q ≡ true → is_some (replica_of c.world q) ≡ true
  up-of q regular = i.net.phase_sound.up q ∙ regular-up c.world.group q regular

  parted-none : (set : List ℕ) (own : ℕ) (places : List ℕ) → ordered_in c conf ≡ [] → is_regular c.world.group p ≡ true → (r : Replica) → newly_green r (take_parting c.world.group p set places (begin r)).replica ≡ []
  unfolding after_delivery
  parted-none set own places none regular r =
      let g = c.world.group in
      let phase = regular-phase (phase_of g p) regular in
      let here : phase.at ≡ conf = regular-here phase.at (ap (is_regular_at phase.at) phase.is ∙ eq-eqb phase.at phase.at refl) (up-of p regular) in
      let empty : (home g p).ordered ≡ [] = ap (λ n. (configuration g n).ordered) (ap regular_in phase.is ∙ here) ∙ none in
      let list : deliveries_at (home g p) places ≡ [] = none-there (home g p) empty places in
      none-new r (take_parting g p set places (begin r))
      (ap (λ xs. (fold after_delivery (begin r) (TransitionalIn (regular_in (phase_of g p)) set ∷ xs)).replica.held.queue.greens) list ∙ parted-greens r.state (begin r))

  pub greens-stay : (s : Small) → may_make c s ≡ true → AtRest c s → IsUntold s → ordered_in c conf ≡ [] → greens_of (small_step c s) p ≡ greens_of c p
  unfolding small_step may_make
  greens-stay (Enters q) may rest untold none = absurd untold
  greens-stay (Starts set) may rest untold none =
      let before = nothing-before c i.net.hosted (and_parts (is_nil c.world.nodes) (is_set (ids set)) may).0 in
      absurd (let clash : None ≡ Some t = sym (ap (λ (x : Chronicle). told_in x conf p) before) ∙ told in cc)
  greens-stay (Makes set) may rest untold none = refl
  greens-stay (Orders q) may rest untold none = refl
  greens-stay (Receives q place) may rest untold none = refl
  greens-stay (Hands q) may rest untold none = elim (cases_eq p q) [
    | inr apart ↦ other-turn (handed_next c q) q (take_next c.world.group q) refl apart
    | inl same ↦ absurd (
        let n = hands-now c q i may in
        let here : n.conf ≡ conf = regular-here n.conf (ap (λ x. is_regular_in c n.conf x) same ∙ ap (is_regular_at n.conf) n.regular ∙ eq-eqb n.conf n.conf refl) (ap (λ x. is_some (replica_of c.world x)) same ∙ up-of q (hands-regular c q may)) in
        let clash : None ≡ Some n.next = sym (ap (λ xs. slice_get xs (delivered_to c.world.group q)) (ap (ordered_in c) here ∙ none)) ∙ n.found in cc
        )
  ]
  greens-stay (Leaves q set own places) may rest untold none =
      let regular = leaving-regular c q set own places may in
      elim (cases_eq p q) [
        | inr apart ↦ other-turn (leaving c q set own) q (take_parting c.world.group q set places) refl apart
        | inl same ↦ subst (λ n. greens_of (turning (leaving c n set own) n (take_parting c.world.group n set places)) p ≡ greens_of c p) same
            (turn-same c (leaving c p set own) p (take_parting c.world.group p set places) i refl refl (λ r disk node. parted-none set own places none (ap (is_regular c.world.group) same ∙ regular) r) p)
      ]
  greens-stay (Asks q kind) may rest untold none = turn-same c c q (take_request kind) i refl refl (λ r disk node. asked-none r kind) p
  greens-stay (Settles q) may rest untold none = turn-same c c q settle i refl refl (λ r disk node. settled-none r) p
  greens-stay (Commits q) may rest untold none = some-same (node_of c.world q) (λ s. commit_as c q s.life) (λ s. commit-same c q s.life p)
  greens-stay (Crashes q) may rest untold none = some-same (node_of c.world q) (λ s. crash_as c q s.life) (λ s. crash-same c q rest.greens s.life p)
  greens-stay (Recovers q) may rest untold none = some-same (node_of c.world q) (λ s. recover_as c s.life) (λ s. recover-same s.life)
  greens-stay (Copies q joiner) may rest untold none = some-same (replica_of c.world q) (copy_as c q joiner) (λ r. refl)
  greens-stay (Joins joiner) may rest untold none = some-same (snapshot_of c.world joiner) (λ s. join_with c joiner s.content) (λ s.
      ap greens-of (past-begun c.pasts (new_past (copied_for c joiner) joiner) p (nothing (past_of c joiner) (i.net.hosted.past joiner ∙ (may-join c joiner may).fresh)) ∙ cond-false (joiner == p) (Some (new_past (copied_for c joiner) joiner)) (past_of c p)
      (ne_eqb joiner p (λ e. (let clash : true ≡ false = sym begun-here ∙ ap (has_begun c.world) (sym e) ∙ (may-join c joiner may).fresh in cc))))) where
        greens-of : Option Past → List Action
        greens-of o = option_map_or (λ x. x.greens) o []

        nothing : (o : Option Past) → is_some o ≡ false → o ≡ None
        nothing None e = refl
        nothing (Some s) e = absurd (let clash : true ≡ false = e in cc)

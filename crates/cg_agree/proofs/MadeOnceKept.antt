-- A name stands for one action, everywhere, behind each small step.
use Rattle.std.proofs.Common.{◌≡◌, ℕ, zero, suc, ◌≤◌, Bool, true, false, cond, List, [], ◌∷◌, ◌++◌, find, length, append-nil, Option, Some, None, IfSome, refl, sym, ap, ◌∙◌, subst, option_and_then, option_map, arith}
use Rattle.std.specs.Prelude.{◌==◌, slice_get}
use Rattle.std.specs.Option.{option_map_or}
use Rattle.std.proofs.lemmas.Bool.{and_parts}
use Rattle.cg_base.specs.Lists.{Each}
use Rattle.cg_base.specs.EachLaws.{Each-append, Each-weaker, Each-drop}
use Rattle.cg_base.specs.Cuts.{index_in}
use Rattle.cg_base.specs.Text.{is_nil}
use Rattle.cg_base.specs.Weights.{ids}
use Rattle.cg_action.specs.declared.action.Action.{Action}
use Rattle.cg_action.specs.declared.action.Kind.{Kind}
use Rattle.cg_queue.specs.Queue.{names_of}
use Rattle.cg_wire.specs.declared.message.Msg.{Msg}
use Rattle.cg_wire.specs.declared.message.Msg.TheVariants.{Action as ActionMsg, State as StateMsg, GreenItem, RedItem, Cpc}
use Rattle.cg_group.specs.declared.delivery.Delivery.{Delivery}
use Rattle.cg_group.specs.declared.delivery.Delivery.TheVariants.{Message, Transitional as TransitionalIn, Regular as RegularIn}
use Rattle.cg_group.specs.State.{Sent, Configuration, configuration, home, delivered_to, regular_in, phase_of, unordered_of}
use Rattle.cg_group.specs.Events.{delivery_at, deliveries_at}
use Rattle.cg_client.specs.Replica.{Held, State, RegPrim, TransPrim, ExchangeStates, ExchangeActions, Construct, No, Un, NonPrim, Left, Replica, created}
use Rattle.cg_client.specs.Turn.{Turn, begin}
use Rattle.cg_client.specs.Requests.{is_creating, create_kept, buffer, settle, request_in, request}
use Rattle.cg_model.specs.Recorded.{OfMessage, OfDelivery}
use Rattle.cg_disk_records.specs.Crash.{Disk}
use Rattle.cg_model.specs.FactsBooks.{HoldsFine}
use Rattle.cg_model.specs.World.{NodeState, Up, Down, Node, TransferState, running, node_of, replica_of}
use Rattle.cg_model.specs.Attempts.{held_in}
use Rattle.cg_model.specs.Step.{joiner_replica}
use Rattle.cg_model.specs.Chronicle.{Chronicle}
use Rattle.cg_model.specs.Looks.{greens_of, core_of, ordered_in, snapshot_of, copied_for, OfCores}
use Rattle.cg_model.specs.FactsReplica.{MadeOnce, IsCore, IsModeData}
use Rattle.cg_model.specs.Facts.{Invariant}
use Rattle.cg_model.specs.Played.{AtRest}
use Rattle.cg_model.specs.Small.{Small, Starts, Makes, Enters, Orders, Receives, Hands, Leaves, Asks, Settles, Commits, Crashes, Recovers, Copies, Joins, small_step, start, newly_green, turning, turning_as, take_all, coming, handed_next, leaving, take_request, take_newest, take_next, take_parting, newest_conf, commit_as, crash_as, recover_as, copy_as, join_with}
use Rattle.cg_model.specs.Smalls.{may_make, is_set}
use Rattle.cg_disk_records.specs.Holds.{run_on, cut_behind}
use Rattle.cg_disk_records.specs.CutRaiseLaws.{behind-rises}
use Rattle.cg_agree_lemmas.specs.HeldMarks.{IsOneself, rising-red}
use Rattle.cg_agree_lemmas.specs.CoresKept.{TurnKeeps, cores-weaker, held-known}
use Rattle.cg_agree_lemmas.specs.CoresSmall.{StepKeeps, cores-kept, ready-of}
use Rattle.cg_agree.proofs.DiskBehindKept.{disk_behind-kept}
use Rattle.cg_agree.proofs.NetFactsKept.{hosted-in}
use Rattle.cg_agree.proofs.AttemptSteps.{group-of}
use Rattle.cg_agree_lemmas.specs.OneSteps.{may-join}
use Rattle.cg_agree.proofs.BegunKept.{nothing-before}
use Rattle.cg_agree_lemmas.specs.DiskAhead.{OwnRuns}
use Rattle.cg_agree_lemmas.specs.TurnRows.{of-deliveries}
use Rattle.cg_agree.proofs.MessagesKept.{DoWait, ArePlaced, TurnSays, StepSays, waits-kept, placed-kept}
use Rattle.cg_agree_lemmas.specs.CreatedKept.{StaysCreated, created-rule, created-first}
use Rattle.cg_agree_lemmas.specs.BookedRows.{AllFine, fine-rule, create-fine, kept-fine}
use Rattle.cg_agree_lemmas.specs.BookGrows.{IsNamed, cut_of, rising-of, IsCounted, named-more, named-all, settle-counted, request-counted, counted-first}
use Rattle.cg_agree_lemmas.specs.BookedCores.{FineHeld, JoinersBooked, cores-booked, booked-closed, placed-booked, waiting-booked, greens-booked, memory-booked, disk-booked, copies-booked, messages-booked, waits-booked}
use Rattle.cg_agree_lemmas.specs.BookCounts.{BookCounts, counts-same, counts-turning, book-turn, counts-commit, counts-crash, counts-recover, counts-join, counts-start}
use Rattle.cg_disk_records.specs.RunLaws.{cut_behind-append}
use Rattle.cg_model.specs.RowLaws.{any-deliveries}

-- ---- requests

module _ (Fine : Action → Type 0) where
  settle-fine : (t : Turn) → Each Fine (settle t).made → AllFine Fine t → AllFine Fine (settle t)
  settle-fine t made is = at (is_creating t.replica.state) made where
    at : (b : Bool) → Each Fine (cond b (create_kept t) t).made → AllFine Fine (cond b (create_kept t) t)
    at true made = kept-fine Fine t made is
    at false made = is

  request-fine : (t : Turn) (kind : Kind) → Each Fine (request t kind).made → AllFine Fine t → AllFine Fine (request t kind)
  request-fine t kind made is = at t.replica.state made where
    kept : AllFine Fine (buffer t kind)
    kept = record { held = record { greens = is.held.greens; reds = is.held.reds; own = is.held.own }; sent = is.sent }

    at : (state : State) → Each Fine (request_in state t kind).made → AllFine Fine (request_in state t kind)
    at RegPrim made = create-fine Fine t kind made is
    at (NonPrim true) made = create-fine Fine t kind made is
    at Left made = is
    at TransPrim made = kept
    at (ExchangeStates conf set heard) made = kept
    at (ExchangeActions conf heard accepted) made = kept
    at (Construct conf heard) made = kept
    at (No conf heard) made = kept
    at Un made = kept
    at (NonPrim false) made = kept

  pub holds-weaker : (Other : Action → Type 0) → ((a : Action) → Other a → Fine a) → (h : Held) → HoldsFine Other h → HoldsFine Fine h
  holds-weaker Other weaker h is = record {
    greens = Each-weaker Other Fine weaker h.queue.greens is.greens;
    reds = Each-weaker Other Fine weaker h.queue.reds is.reds;
    own = Each-weaker Other Fine weaker h.own is.own;
  }

  -- ---- what is delivered

  each-slice : (n : ℕ) (xs : List (Sent Msg)) → Each (λ s. OfMessage Fine s.message) xs → (o : Option (Sent Msg)) → slice_get xs n ≡ o → IfSome o (λ s. OfMessage Fine s.message)
  each-slice n xs each None e = tt
  each-slice n [] each (Some s) e = absurd (let clash : None ≡ Some s = e in cc)
  each-slice zero (x ∷ xs) each (Some s) e = subst (λ (o : Option (Sent Msg)). IfSome o (λ s. OfMessage Fine s.message)) e each.0
  each-slice (suc n) (x ∷ xs) each (Some s) e = each-slice n xs each.1 (Some s) e

  place-comes : (C : Configuration Msg) (place : ℕ) → Each (λ s. OfMessage Fine s.message) C.ordered → Each (OfDelivery Fine) (delivery_at C place)
  unfolding delivery_at
  place-comes C zero each = tt
  place-comes C (suc n) each = at (slice_get C.ordered n) (each-slice n C.ordered each (slice_get C.ordered n) refl) where
    at : (o : Option (Sent Msg)) → IfSome o (λ s. OfMessage Fine s.message) → Each (OfDelivery Fine) (option_map_or (λ s. Message (suc n) s.from s.message ∷ []) o [])
    at None is = tt
    at (Some s) is = (is, tt)

  pub places-come : (C : Configuration Msg) (places : List ℕ) → Each (λ s. OfMessage Fine s.message) C.ordered → Each (OfDelivery Fine) (deliveries_at C places)
  places-come C [] each = tt
  places-come C (place ∷ places) each = Each-append (OfDelivery Fine) (delivery_at C place) (deliveries_at C places) (place-comes C place each) (places-come C places each)

pub message-weaker : (P Q : Action → Type 0) → ((a : Action) → P a → Q a) → (m : Msg) → OfMessage P m → OfMessage Q m
message-weaker P Q weaker (ActionMsg a) is = weaker a is
message-weaker P Q weaker (GreenItem at a) is = weaker a is
message-weaker P Q weaker (RedItem a) is = weaker a is
message-weaker P Q weaker (StateMsg s) is = tt
message-weaker P Q weaker (Cpc id conf) is = tt

delivery-weaker : (P Q : Action → Type 0) → ((a : Action) → P a → Q a) → (d : Delivery Msg) → OfDelivery P d → OfDelivery Q d
delivery-weaker P Q weaker (Message place from m) is = message-weaker P Q weaker m is
delivery-weaker P Q weaker (TransitionalIn conf set) is = tt
delivery-weaker P Q weaker (RegularIn conf set) is = tt

-- the book goes on
record Grown (c d : Chronicle) : Type 0 where
  pub more : List Action
  pub is : d.book ≡ c.book ++ more

grown-none : (c d : Chronicle) → d.book ≡ c.book → Grown c d
grown-none c d same = record { more = []; is = same ∙ sym (append-nil c.book) }

-- what a small step has to keep
record StepSound (c : Chronicle) (s : Small) : Type 0 where
  pub grown : Grown c (small_step c s)
  pub keeps : StepKeeps c s (FineHeld (small_step c s).book)
  pub says : StepSays (OfMessage (IsNamed (small_step c s).book)) c s
  pub counts : BookCounts (small_step c s)

module _ (c : Chronicle) (i : Invariant c) (joiners : JoinersBooked c) where
  cores : OfCores c (FineHeld c.book)
  cores = cores-booked c i joiners

  counts : BookCounts c
  counts = record { numbered = i.replica.made_once.numbered; counted = i.replica.made_once.counted; unbegun = joiners.unbegun }

  -- ---- a turn

  -- its actions are those of their names, and the book counts what it makes
  record TurnSound (part : Turn → Turn) (r : Replica) : Type 0 where
    pub fine : AllFine (IsNamed (c.book ++ (part (begin r)).made)) (part (begin r))
    pub counted : IsCounted c.book r.held (part (begin r))

  module _ (p : ℕ) (r : Replica) (disk : Disk) (node : node_of c.world p ≡ Some (record { id = p; life = Up r disk })) where
    here : replica_of c.world p ≡ Some r
    here = ap (λ (o : Option Node). option_and_then (λ s. running s.life) o) node

    core : IsCore c r.held (greens_of c p)
    core = subst (λ (o : Option Replica). IfSome o (λ r. IsCore c r.held (greens_of c p))) here (i.replica.cores.memory p)

    oneself : IsOneself c.start r.held (greens_of c p)
    oneself = record { made_of = core.made_of; contiguous = core.contiguous; yellow_closed = core.yellow_closed }

    named : r.held.id ≡ p
    named = (subst (λ (o : Option Replica). IfSome o (IsModeData c p)) here (i.replica.mode_data p)).id

    own : OwnRuns r.held
    own = record { rising = rising-red c.start r.held (greens_of c p) oneself; run = core.contiguous.own; mine = core.contiguous.mine }

    count : index_in (cut_of c.book) r.held.id ≡ created r.held
    count = ap (index_in (cut_of c.book)) named
        ∙ subst (λ (o : Option Held). IfSome o (λ h. index_in (cut_of c.book) p ≡ created h)) (ap (λ (o : Option Node). option_map (λ s. held_in s.life) o) node) (i.replica.made_once.counted p)

    held : FineHeld c.book r.held (greens_of c p)
    held = held-known (FineHeld c.book) c p r here cores

    begins : (made : List Action) → AllFine (IsNamed (c.book ++ made)) (begin r)
    begins made = record { held = holds-weaker (IsNamed (c.book ++ made)) (IsNamed c.book) (named-more c.book made) r.held held.0; sent = tt }

    takes-sound : (list : List (Delivery Msg)) → Each (OfDelivery (IsNamed c.book)) list → TurnSound (take_all list) r
    takes-sound list come =
        let t = take_all list (begin r) in
        let Fine = IsNamed (c.book ++ t.made) in
        let created_now = of-deliveries (StaysCreated r.held) (λ a. Unit {0}) (created-rule r.held) (begin r) list (any-deliveries list) (record { held = created-first c.start r.held (greens_of c p) oneself; made = refl }) in
        let same : c.book ++ t.made ≡ c.book = ap (λ xs. c.book ++ xs) created_now.made ∙ append-nil c.book in
        record {
          fine = of-deliveries (AllFine Fine) Fine (fine-rule Fine) (begin r) list
              (Each-weaker (OfDelivery (IsNamed c.book)) (OfDelivery Fine) (delivery-weaker (IsNamed c.book) Fine (named-more c.book t.made)) list come) (begins t.made);
          counted = record {
            run = ap (λ xs. run_on [] (names_of xs)) same ∙ counts.numbered;
            id = created_now.held.id;
            counted = ap (λ xs. index_in (cut_of xs) r.held.id) same ∙ count ∙ sym created_now.held.created;
            others = λ q apart. ap (λ xs. index_in (cut_of xs) q) same;
            own = created_now.held.own;
          };
        }

    first : IsCounted c.book r.held (begin r)
    first = counted-first c.book r counts.numbered count own

    settles-sound : TurnSound settle r
    settles-sound =
        let t = settle (begin r) in
        let counted = settle-counted c.book r.held (begin r) first in
        record { fine = settle-fine (IsNamed (c.book ++ t.made)) (begin r) (named-all c.book t.made counted.run) (begins t.made); counted = counted }

    asks-sound : (kind : Kind) → TurnSound (take_request kind) r
    asks-sound kind =
        let t = request (begin r) kind in
        let counted = request-counted c.book r.held (begin r) kind first in
        record { fine = request-fine (IsNamed (c.book ++ t.made)) (begin r) kind (named-all c.book t.made counted.run) (begins t.made); counted = counted }

  -- what comes of a turn from a chronicle with the same nodes and the same book
  record TurnParts (p : ℕ) (part : Turn → Turn) (d : Chronicle) : Type 0 where
    pub grown : Grown c d
    pub keeps : TurnKeeps c p part (FineHeld d.book)
    pub says : TurnSays (OfMessage (IsNamed d.book)) c p part
    pub counts : BookCounts d

  turn-parts : (b : Chronicle) (p : ℕ) (part : Turn → Turn) → b.world.nodes ≡ c.world.nodes → b.book ≡ c.book →
      ((r : Replica) (disk : Disk) → node_of c.world p ≡ Some (record { id = p; life = Up r disk }) → TurnSound part r) → TurnParts p part (turning b p part)
  turn-parts b p part nodes book sound = record {
    grown = at (node_of b.world p);
    keeps = λ r disk node. (
        let t = part (begin r) in
        let is = (sound r disk node).fine in
        subst (λ (list : List Action). FineHeld list t.replica.held (greens_of c p ++ newly_green r t.replica)) (sym (book-is r disk node)) (
          is.held,
          Each-append (IsNamed (c.book ++ t.made)) (greens_of c p) (newly_green r t.replica)
              (Each-weaker (IsNamed c.book) (IsNamed (c.book ++ t.made)) (named-more c.book t.made) (greens_of c p) (held p r disk node).1)
              (Each-drop (IsNamed (c.book ++ t.made)) (length r.held.queue.greens) t.replica.held.queue.greens is.held.greens),
        )
        );
    says = λ r disk node. subst (λ (list : List Action). Each (OfMessage (IsNamed list)) (part (begin r)).sent) (sym (book-is r disk node)) (sound r disk node).fine.sent;
    counts = counts-turning c b p part nodes book (λ r disk node. (named p r disk node, (sound r disk node).counted)) counts;
  } where
    book-is : (r : Replica) (disk : Disk) → node_of c.world p ≡ Some (record { id = p; life = Up r disk }) → (turning b p part).book ≡ c.book ++ (part (begin r)).made
    book-is r disk node = ap (λ (x : Chronicle). x.book) (book-turn b p part r disk (ap (λ (list : List Node). find (λ s. s.id == p) list) nodes ∙ node)) ∙ ap (λ xs. xs ++ (part (begin r)).made) book

    life : (l : NodeState) → Grown c (turning_as b p part l)
    life (Up r disk) = record { more = (part (begin r)).made; is = ap (λ xs. xs ++ (part (begin r)).made) book }
    life (Down disk green) = grown-none c b book

    at : (o : Option Node) → Grown c (option_map_or (λ s. turning_as b p part s.life) o b)
    at None = grown-none c b book
    at (Some s) = life s.life

  -- ---- each small step

  handed-come : (p : ℕ) → Each (λ s. OfMessage (IsNamed c.book) s.message) (home c.world.group p).ordered
  handed-come p = placed-booked c i.replica.made_once (regular_in (phase_of c.world.group p))

  at-some : {X : Type 0} (o : Option X) (change : X → Chronicle) → ((x : X) → o ≡ Some x → ((change x).book ≡ c.book) × BookCounts (change x)) → ((option_map_or change o c).book ≡ c.book) × BookCounts (option_map_or change o c)
  at-some None change each = (refl, counts)
  at-some (Some x) change each = each x refl

  commit-book : (p : ℕ) (l : NodeState) → (commit_as c p l).book ≡ c.book
  commit-book p (Up r disk) = refl
  commit-book p (Down disk green) = refl

  crash-book : (p : ℕ) (l : NodeState) → (crash_as c p l).book ≡ c.book
  crash-book p (Up r disk) = refl
  crash-book p (Down disk green) = refl

  recover-book : (l : NodeState) → (recover_as c l).book ≡ c.book
  recover-book (Up r disk) = refl
  recover-book (Down disk green) = refl

  step-sound : (s : Small) → may_make c s ≡ true → AtRest c s → StepSound c s
  unfolding small_step may_make
  step-sound (Starts set) may rest =
      let before = nothing-before c i.net.hosted (and_parts (is_nil c.world.nodes) (is_set (ids set)) may).0 in
      record { grown = grown-none c (start c set) refl; keeps = λ p. (record { greens = tt; reds = tt; own = tt }, tt); says = tt; counts = subst (λ (x : Chronicle). BookCounts (start x set)) (sym before) (counts-start set) }
  step-sound (Makes set) may rest = record { grown = grown-none c (small_step c (Makes set)) refl; keeps = tt; says = tt; counts = counts-same c (small_step c (Makes set)) refl refl counts }
  step-sound (Enters p) may rest =
      let conf = newest_conf c.world.group in
      let all = turn-parts (coming c p) p (take_newest c.world.group) refl refl (λ r disk node. takes-sound p r disk node (RegularIn conf (configuration c.world.group conf).members ∷ []) (tt, tt)) in
      record { grown = all.grown; keeps = all.keeps; says = all.says; counts = all.counts }
  step-sound (Orders p) may rest = record { grown = grown-none c (small_step c (Orders p)) refl; keeps = tt; says = tt; counts = counts-same c (small_step c (Orders p)) refl refl counts }
  step-sound (Receives p place) may rest = record { grown = grown-none c (small_step c (Receives p place)) refl; keeps = tt; says = tt; counts = counts-same c (small_step c (Receives p place)) refl refl counts }
  step-sound (Hands p) may rest =
      let g = c.world.group in
      let all = turn-parts (handed_next c p) p (take_next g p) refl refl
      (λ r disk node. takes-sound p r disk node (delivery_at (home g p) (suc (delivered_to g p))) (place-comes (IsNamed c.book) (home g p) (suc (delivered_to g p)) (handed-come p))) in
      record { grown = all.grown; keeps = all.keeps; says = all.says; counts = all.counts }
  step-sound (Leaves p set own places) may rest =
      let g = c.world.group in
      let all = turn-parts (leaving c p set own) p (take_parting g p set places) refl refl
      (λ r disk node. takes-sound p r disk node (TransitionalIn (regular_in (phase_of g p)) set ∷ deliveries_at (home g p) places) (tt, places-come (IsNamed c.book) (home g p) places (handed-come p))) in
      record { grown = all.grown; keeps = all.keeps; says = all.says; counts = all.counts }
  step-sound (Asks p kind) may rest =
      let all = turn-parts c p (take_request kind) refl refl (λ r disk node. asks-sound p r disk node kind) in
      record { grown = all.grown; keeps = all.keeps; says = all.says; counts = all.counts }
  step-sound (Settles p) may rest =
      let all = turn-parts c p settle refl refl (λ r disk node. settles-sound p r disk node) in
      record { grown = all.grown; keeps = all.keeps; says = all.says; counts = all.counts }
  step-sound (Commits p) may rest =
      let all = at-some (node_of c.world p) (λ s. commit_as c p s.life) (λ s e. (commit-book p s.life, counts-commit c p s e s.life refl counts)) in
      record { grown = grown-none c (small_step c (Commits p)) all.0; keeps = tt; says = tt; counts = all.1 }
  step-sound (Crashes p) may rest =
      let all = at-some (node_of c.world p) (λ s. crash_as c p s.life) (λ s e. (crash-book p s.life, counts-crash c p rest s e s.life refl counts)) in
      record { grown = grown-none c (small_step c (Crashes p)) all.0; keeps = tt; says = tt; counts = all.1 }
  step-sound (Recovers p) may rest =
      let all = at-some (node_of c.world p) (λ s. recover_as c s.life) (λ s e. (recover-book s.life, counts-recover c p (i.net.hosted.disk p) (i.replica.cores.disk p) s e s.life refl counts)) in
      record { grown = grown-none c (small_step c (Recovers p)) all.0; keeps = tt; says = tt; counts = all.1 }
  step-sound (Copies p joiner) may rest =
      let all = at-some (replica_of c.world p) (copy_as c p joiner) (λ r e. (refl, counts-same c (copy_as c p joiner r) refl refl counts)) in
      record { grown = grown-none c (small_step c (Copies p joiner)) all.0; keeps = tt; says = tt; counts = all.1 }
  step-sound (Joins joiner) may rest =
      let all = at-some (snapshot_of c.world joiner) (λ s. join_with c joiner s.content) (λ s e. (
        refl,
        counts-join c joiner s.content (may-join c joiner may).fresh
            (subst (λ (o : Option TransferState). IfSome o (λ s. IsCore c (joiner_replica joiner s.content).held (copied_for c joiner))) e (i.replica.cores.snapshot joiner))
            (subst (λ (o : Option TransferState). IfSome o (λ s. Each (IsNamed c.book) (copied_for c joiner))) e (joiners.copied joiner)) counts,
      )) in
      record { grown = grown-none c (small_step c (Joins joiner)) all.0; keeps = tt; says = tt; counts = all.1 }

-- Each small step keeps it.
pub made_once-kept : (c : Chronicle) (s : Small) → Invariant c → JoinersBooked c → may_make c s ≡ true → AtRest c s → MadeOnce (small_step c s) × JoinersBooked (small_step c s)
made_once-kept c s i joiners may rest =
    let d = small_step c s in
    let step = step-sound c i joiners s may rest in
    let more : (a : Action) → IsNamed c.book a → IsNamed d.book a = λ a is. subst (λ xs. IsNamed xs a) (sym step.grown.is) (named-more c.book step.grown.more a is) in
    let before = cores-weaker (FineHeld c.book) (FineHeld d.book) c
    (λ h all is. (holds-weaker (IsNamed d.book) (IsNamed c.book) more h is.0, Each-weaker (IsNamed c.book) (IsNamed d.book) more all is.1)) (cores-booked c i joiners) in
    let hosted = hosted-in c s i may in
    let behind = disk_behind-kept c s i.net.hosted may i.replica.disk_behind in
    let now : OfCores d (FineHeld d.book) = cores-kept (FineHeld d.book) c s (ready-of c i.net.hosted i.replica.disk_behind) may (booked-closed d.book) step.keeps before in
    let said = message-weaker (IsNamed c.book) (IsNamed d.book) more in
    let waits : DoWait (OfMessage (IsNamed d.book)) c.world.group = λ q. Each-weaker (OfMessage (IsNamed c.book)) (OfMessage (IsNamed d.book)) said (unordered_of c.world.group q) (waiting-booked c i.replica.made_once q) in
    let placed : ArePlaced (OfMessage (IsNamed d.book)) c = λ conf. Each-weaker (λ (x : Sent Msg). OfMessage (IsNamed c.book) x.message) (λ x. OfMessage (IsNamed d.book) x.message) (λ x. said x.message) (ordered_in c conf) (placed-booked c i.replica.made_once conf) in (
      record {
        numbered = step.counts.numbered;
        counted = step.counts.counted;
        in_greens = greens-booked d now hosted behind;
        in_memory = memory-booked d now;
        on_disk = disk-booked d now;
        in_messages = λ conf. messages-booked d conf (placed-kept (OfMessage (IsNamed d.book)) c s i.net.hosted may (group-of c i) waits placed conf);
        in_waiting = λ p. waits-booked d p (waits-kept (OfMessage (IsNamed d.book)) c s step.says waits p);
      },
      record { copied = copies-booked d now; unbegun = step.counts.unbegun },
    )

-- What a replica has created is never fewer.
pub created-grows : (c : Chronicle) (s : Small) (i : Invariant c) → JoinersBooked c → may_make c s ≡ true → AtRest c s → (p : ℕ) (old new : Held) →
    core_of c p ≡ Some old → core_of (small_step c s) p ≡ Some new → created old ≤ created new
created-grows c s i joiners may rest p old new before behind =
    let d = small_step c s in
    let step = step-sound c i joiners s may rest in
    let was : index_in (cut_of c.book) p ≡ created old = subst (λ (o : Option Held). IfSome o (λ h. index_in (cut_of c.book) p ≡ created h)) before (i.replica.made_once.counted p) in
    let is : index_in (cut_of d.book) p ≡ created new = subst (λ (o : Option Held). IfSome o (λ h. index_in (cut_of d.book) p ≡ created h)) behind (step.counts.counted p) in
    let more = step.grown.more in
    let grown : cut_of d.book ≡ cut_behind (cut_of c.book) (names_of more) = ap cut_of step.grown.is ∙ ap (cut_behind []) (names-both c.book more) ∙ cut_behind-append [] (names_of c.book) (names_of more) in
    let up : index_in (cut_of c.book) p ≤ index_in (cut_behind (cut_of c.book) (names_of more)) p = behind-rises (cut_of c.book) (names_of more) p (rising-of c.book) in
    let same : index_in (cut_of d.book) p ≡ index_in (cut_behind (cut_of c.book) (names_of more)) p = ap (λ cut. index_in cut p) grown in
    omega arith
  where
    names-both : (xs ys : List Action) → names_of (xs ++ ys) ≡ names_of xs ++ names_of ys
    names-both [] ys = refl
    names-both (x ∷ xs) ys = ap (λ list. x.id ∷ list) (names-both xs ys)

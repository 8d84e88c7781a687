-- One replica's facts: the white count at a commit, what stands on the disk, a recovery, a new configuration, a request.
use Rattle.std.proofs.Common.{◌≡◌, ℕ, zero, suc, ◌+◌, ◌-◌, ◌<◌, ◌≤◌, List, [], ◌∷◌, ◌++◌, length, drop, true, false, fold, refl, sym, ap, ◌∙◌, subst, arith, inl, inr, append-nil, length-append}
use Rattle.std.specs.Prelude.{None}
use Rattle.std.specs.Option.{unwrap_or}
use Rattle.std.proofs.lemmas.Bool.{cases_order, ne_eqb, lt-leb}
use Rattle.cg_base.specs.declared.weighted.Weighted.{Weighted}
use Rattle.cg_base.specs.Cuts.{index_in}
use Rattle.cg_action.specs.declared.action.Action.{Action}
use Rattle.cg_action.specs.declared.action.Kind.{Kind}
use Rattle.cg_members.specs.Servers.{white_line, members_of}
use Rattle.cg_members.specs.MemberLaws.{members_of-apart}
use Rattle.cg_queue.specs.Queue.{QueueView, Gaps, marked_red}
use Rattle.cg_queue.specs.MarkLaws.{red-known, red-placed}
use Rattle.cg_group.specs.declared.delivery.Delivery.TheVariants.{Regular as RegularIn}
use Rattle.cg_client.specs.Replica.{Held, State, RegPrim, TransPrim, ExchangeStates, ExchangeActions, Construct, No, Un, NonPrim, Left}
use Rattle.cg_client.specs.Turn.{Turn, with_held, begin}
use Rattle.cg_client.specs.Marks.{marked}
use Rattle.cg_client.specs.Requests.{buffer, request_in}
use Rattle.cg_client.specs.Summary.{redden, forget_own, own_to_red, enter_exchange}
use Rattle.cg_states.specs.TransPrim.{end_prim}
use Rattle.cg_states.specs.No.{no_record}
use Rattle.cg_client.specs.Whitening.{white_at}
use Rattle.cg_disk_records.specs.Stored.{stored_of, whiten, recovery_turn}
use Rattle.cg_states.specs.ReplicaStep.{on_regular, after_delivery}
use Rattle.cg_model.specs.Small.{take_request}
use Rattle.cg_agree_lemmas.specs.HeldMarks.{IsOneself}
use Rattle.cg_agree_lemmas.specs.HeldTurns.{Keeps, grows-none, keeps-none, keeps-both, keeps-by_replica, keeps-create, keeps-enter_exchange, keeps-own_to_red, oneself-with}
use Rattle.cg_disk_records.specs.HeldLaws.{line-below}

-- ---- the white count

drop-nil : (n : ℕ) → drop n [] ≡ (let none : List Action = [] in none)
drop-nil zero = refl
drop-nil (suc n) = refl

drop-twice : (n m : ℕ) (xs : List Action) → drop m (drop n xs) ≡ drop (n + m) xs
drop-twice zero m xs = ap (λ k. drop k xs) (let same : m ≡ 0 + m = omega arith in same)
drop-twice (suc n) m [] = drop-nil m ∙ sym (drop-nil (suc n + m))
drop-twice (suc n) m (x ∷ xs) = drop-twice n m xs ∙ ap (λ k. drop k (x ∷ xs)) (let same : suc (n + m) ≡ suc n + m = omega arith in same)

-- no server's line is above the greens, so the white count isn't
pub white-below : (start : List Weighted) (h : Held) (all : List Action) → IsOneself start h all → white_at h ≤ length all
white-below start h all is =
    let lines : unwrap_or (white_line h.members) 0 ≤ length all =
    subst (λ m. unwrap_or (white_line m) 0 ≤ length all) (sym is.made_of.members)
    (line-below (length all) (members_of start all).servers (members_of-apart start all).lines) in
    let white : h.queue.white ≤ length all = is.made_of.white in
    omega arith

pub white-oneself : (start : List Weighted) (h : Held) (all : List Action) → IsOneself start h all → IsOneself start (whiten h) all
unfolding whiten
white-oneself start h all is = record {
  made_of = record {
    white = white-below start h all is;
    kept = ap (drop (white_at h - h.queue.white)) is.made_of.kept ∙ drop-twice h.queue.white (white_at h - h.queue.white) all
        ∙ ap (λ n. drop n all) (let whole : h.queue.white + (white_at h - h.queue.white) ≡ white_at h = omega arith in whole);
    green_cut = is.made_of.green_cut;
    red_cut = is.made_of.red_cut;
    db = is.made_of.db;
    members = is.made_of.members;
  };
  contiguous = record { greens = is.contiguous.greens; reds = is.contiguous.reds; by_name = is.contiguous.by_name; own = is.contiguous.own; mine = is.contiguous.mine };
  yellow_closed = record { next = is.yellow_closed.next; known = is.yellow_closed.known };
}

pub stored-oneself : (start : List Weighted) (h : Held) (all : List Action) → IsOneself start h all → IsOneself start (stored_of h) all
stored-oneself start h all is =
    oneself-with start h all is h.queue.yellow h.own h.yellow_valid h.prim h.attempt_index h.vulnerable [] []
    is.yellow_closed.next is.yellow_closed.known is.contiguous.own is.contiguous.mine

-- ---- own actions become red: nothing is green by that

pub record SameGreens (old new : Held) : Type 0 where
  pub id : new.id ≡ old.id
  pub greens : new.queue.greens ≡ old.queue.greens

redden-greens : (t : Turn) (a : Action) → SameGreens t.replica.held (redden t a).replica.held
redden-greens t a =
    let q = t.replica.held.queue in
    let h = t.replica.held in
    let cut = index_in q.red_cut a.id.creator in
    elim (cases_order a.id.index (suc cut)) [
      | inl next ↦ subst (λ m. SameGreens h (marked t a m).replica.held) (sym (red-placed q a next)) (record { id = refl; greens = refl })
      | inr apart ↦ elim apart [
        | inl lt ↦ subst (λ m. SameGreens h (marked t a m).replica.held) (sym (red-known q a (omega arith))) (record { id = refl; greens = refl })
        | inr gt ↦ subst (λ m. SameGreens h (marked t a m).replica.held) (sym (gap q gt)) (record { id = refl; greens = refl })
      ]
    ]
  where
    gap : (q : QueueView) → suc (index_in q.red_cut a.id.creator) < a.id.index → marked_red q a ≡ Gaps (index_in q.red_cut a.id.creator)
    gap q gt = rw (lt-leb a.id.index (index_in q.red_cut a.id.creator) (omega arith), ne_eqb a.id.index (suc (index_in q.red_cut a.id.creator)) (λ e. omega arith)) refl

reddens-greens : (t : Turn) (list : List Action) → SameGreens t.replica.held (fold redden t list).replica.held
reddens-greens t [] = record { id = refl; greens = refl }
reddens-greens t (a ∷ list) =
    let one = redden-greens t a in
    let rest = reddens-greens (redden t a) list in
    record { id = rest.id ∙ one.id; greens = rest.greens ∙ one.greens }

pub own-greens : (t : Turn) → SameGreens t.replica.held (own_to_red t).replica.held
unfolding own_to_red
own-greens t = let rest = reddens-greens (forget_own t) t.replica.held.own in record { id = rest.id; greens = rest.greens }

none-more : (xs more : List Action) → xs ≡ xs ++ more → more ≡ []
none-more xs [] e = refl
none-more xs (m ∷ more) e = absurd (let grown = ap length e ∙ length-append xs (m ∷ more) in omega arith)

-- a replica that comes up from its disk
pub recovered-oneself : (start : List Weighted) (h : Held) (all : List Action) → IsOneself start h all → IsOneself start (recovery_turn h).replica.held all
unfolding recovery_turn
recovered-oneself start h all is =
    let t = begin (record { held = h; state = NonPrim false }) in
    let g = keeps-own_to_red start all t is in
    let none : g.more ≡ [] = none-more h.queue.greens g.more (sym (own-greens t).greens ∙ g.kept) in
    subst (IsOneself start (own_to_red t).replica.held) (ap (λ xs. all ++ xs) none ∙ append-nil all) g.is

pub recovered-id : (h : Held) → (recovery_turn h).replica.held.id ≡ h.id
unfolding recovery_turn
recovered-id h = (own-greens (begin (record { held = h; state = NonPrim false }))).id

-- ---- a new configuration

keeps-end_prim : Keeps (λ t. with_held t (end_prim t.replica.held))
keeps-end_prim start all t is =
    let h = t.replica.held in
    grows-none start h (end_prim h) all refl
    (oneself-with start h all is h.queue.yellow h.own true h.prim h.attempt_index None h.buffered h.owed is.yellow_closed.next is.yellow_closed.known is.contiguous.own is.contiguous.mine)

keeps-no_record : Keeps (λ t. with_held t (no_record t.replica.held))
keeps-no_record start all t is =
    let h = t.replica.held in
    grows-none start h (no_record h) all refl
    (oneself-with start h all is h.queue.yellow h.own h.yellow_valid h.prim h.attempt_index None h.buffered h.owed is.yellow_closed.next is.yellow_closed.known is.contiguous.own is.contiguous.mine)

pub keeps-on_regular : (state : State) (conf : ℕ) (set : List ℕ) → Keeps (on_regular state conf set)
unfolding on_regular
keeps-on_regular RegPrim conf set = keeps-none
keeps-on_regular TransPrim conf set =
    keeps-both (λ t. with_held t (end_prim t.replica.held)) (λ t. enter_exchange t conf set) keeps-end_prim (keeps-enter_exchange conf set)
keeps-on_regular (ExchangeStates at members heard) conf set = keeps-none
keeps-on_regular (ExchangeActions at summaries accepted) conf set = keeps-none
keeps-on_regular (Construct at heard) conf set = keeps-none
keeps-on_regular (No at heard) conf set =
    keeps-both (λ t. with_held t (no_record t.replica.held)) (λ t. enter_exchange t conf set) keeps-no_record (keeps-enter_exchange conf set)
keeps-on_regular Un conf set = keeps-enter_exchange conf set
keeps-on_regular (NonPrim regular) conf set = keeps-enter_exchange conf set
keeps-on_regular Left conf set = keeps-none

pub keeps-take_regular : (conf : ℕ) (set : List ℕ) → Keeps (λ t. after_delivery t (RegularIn conf set))
unfolding after_delivery
keeps-take_regular conf set = keeps-by_replica (λ r. on_regular r.state conf set) (λ r. keeps-on_regular r.state conf set)

-- ---- a request

keeps-buffer : (kind : Kind) → Keeps (λ t. buffer t kind)
keeps-buffer kind start all t is =
    let h = t.replica.held in
    grows-none start h (record h { buffered = h.buffered ++ kind ∷ [] }) all refl
    (oneself-with start h all is h.queue.yellow h.own h.yellow_valid h.prim h.attempt_index h.vulnerable (h.buffered ++ kind ∷ []) h.owed
    is.yellow_closed.next is.yellow_closed.known is.contiguous.own is.contiguous.mine)

keeps-request_in : (state : State) (kind : Kind) → Keeps (λ t. request_in state t kind)
keeps-request_in RegPrim kind = keeps-create kind
keeps-request_in TransPrim kind = keeps-buffer kind
keeps-request_in (ExchangeStates conf set heard) kind = keeps-buffer kind
keeps-request_in (ExchangeActions conf summaries accepted) kind = keeps-buffer kind
keeps-request_in (Construct conf heard) kind = keeps-buffer kind
keeps-request_in (No conf heard) kind = keeps-buffer kind
keeps-request_in Un kind = keeps-buffer kind
keeps-request_in (NonPrim true) kind = keeps-create kind
keeps-request_in (NonPrim false) kind = keeps-buffer kind
keeps-request_in Left kind = keeps-none

pub keeps-request : (kind : Kind) → Keeps (take_request kind)
keeps-request kind = keeps-by_replica (λ r t. request_in r.state t kind) (λ r. keeps-request_in r.state kind)

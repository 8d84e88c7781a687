-- The record of a commit leads from what stands on the disk to what the commit leaves.
use Rattle.std.proofs.Common.{◌≡◌, suc, List, [], ◌∷◌, ◌++◌, fold, cond, true, false, not, ◌||◌, Option, Some, None, refl, sym, ap, ◌∙◌, subst, inl, inr, append-nil}
use Rattle.std.specs.Prelude.{◌==◌, option_and_then}
use Rattle.std.proofs.lemmas.Bool.{or_parts, cases_Bool, eq-eqb, and_from, not-false}
use Rattle.std.proofs.lemmas.Option.{none-some, same_Some}
use Rattle.std.proofs.lemmas.List.Sums.{fold-append}
use Rattle.cg_base.specs.declared.action_id.ActionId.{ActionId}
use Rattle.cg_base.specs.Text.{is_nil}
use Rattle.cg_base.specs.IdLaws.{same_id-self}
use Rattle.cg_base.specs.ListLaws.{is_nil-false}
use Rattle.cg_action.specs.declared.action.Action.{Action}
use Rattle.cg_action.specs.declared.action.Kind.{Kind}
use Rattle.cg_queue.specs.Queue.{names_of}
use Rattle.cg_client.specs.Replica.{Held, NonPrim, Replica, created, yellow_of}
use Rattle.cg_client.specs.Turn.{Turn, begin}
use Rattle.cg_client.specs.Marks.{after_first}
use Rattle.cg_client.specs.Requests.{next_action, create}
use Rattle.cg_disk_records.specs.Stored.{Stored, stored_of, stable_of, whiten, recovery_turn}
use Rattle.cg_disk_records.specs.Following.{fits_known, know, green_by_name, make, all_of, are_yellow, put_values, with_values, after_change, IsAhead, IsRecorded}
use Rattle.cg_states.specs.ReplicaStep.{Input, Deliveries, Asks, after_delivery, replica_step}
use Rattle.cg_disk_records.specs.Commit.{same_values, commits}
use Rattle.cg_disk_records.specs.Holds.{run_on, Holds}
use Rattle.cg_model.specs.Recorded.{Named, AreBooked, AlwaysRecorded, AlwaysAhead}
use Rattle.cg_disk_records.specs.RunMarkLaws.{run-head, run-rest}
use Rattle.cg_model.proofs.Rows.{of-deliveries}
use Rattle.cg_model.proofs.Knowing.{know-some, fits-own}
use Rattle.cg_model.proofs.Led.{bare, Led, led-begin, Goes, goes-rule}
use Rattle.cg_model.proofs.Steps.{IsKeptByMaking, of-settle, of-request_in, holds-making}
use Rattle.cg_disk_records.specs.HeldLaws.{after-here}
use Rattle.cg_disk_records.specs.ValueLaws.{HaveOneValue, one-value}
use Rattle.cg_disk_records.specs.HoldsMarkLaws.{known_by}
use Rattle.cg_disk_records.specs.KnownLaws.{known_all, own-reddened, none-all}

-- a turn with the actions that it has made
pub record Made (s : Stored) (unwritten : List Action) (t : Turn) : Type 0 where
  pub holds : Holds t.replica.held
  pub middle : Stored
  pub knows : all_of know (Some s) (unwritten ++ t.known) ≡ Some middle
  pub end : Stored
  pub greens : all_of green_by_name (Some middle) t.green ≡ Some end
  pub last : Stored
  pub makes : all_of make (Some end) t.made ≡ Some last
  pub alike : bare last ≡ bare (stored_of t.replica.held)

made-from : (book : ActionId → Action) (s : Stored) (unwritten : List Action) (t : Turn) → Goes book s unwritten t → Made s unwritten t
made-from book s unwritten t goes = record {
  holds = goes.holds;
  middle = goes.led.middle;
  knows = goes.led.knows;
  end = goes.led.end;
  greens = goes.led.greens;
  last = goes.led.end;
  makes = ap (all_of make (Some goes.led.end)) goes.made;
  alike = goes.led.alike;
}

make-some : (s : Stored) (a : Action) → a.id.creator ≡ s.id → a.id.index ≡ suc (created s) → make s a ≡ Some (record s { own = s.own ++ a ∷ [] })
make-some s a mine next =
    ap (λ b. cond b (Some (record s { own = s.own ++ a ∷ [] })) None)
    (and_from (a.id.creator == s.id) (a.id.index == suc (created s)) (eq-eqb a.id.creator s.id mine) (eq-eqb a.id.index (suc (created s)) next))

made-create : (s : Stored) (unwritten : List Action) (t : Turn) (kind : Kind) → Made s unwritten t → Made s unwritten (create t kind)
unfolding create
made-create s unwritten t kind made =
    let h = t.replica.held in
    let a = next_action h kind in
    record {
      holds = holds-making.creates t kind made.holds;
      middle = made.middle;
      knows = made.knows;
      end = made.end;
      greens = made.greens;
      last = (let x = made.last in record x { own = x.own ++ a ∷ [] });
      makes = fold-append (λ (now : Option Stored) (item : Action). option_and_then (λ x. make x item) now) (Some made.end) t.made (a ∷ [])
          ∙ ap (λ o. all_of make o (a ∷ [])) made.makes
          ∙ make-some made.last a (ap (λ (x : Stored). x.id) (sym made.alike)) (ap (λ (x : Stored). suc (created x)) (sym made.alike));
      alike = ap (λ (x : Stored). bare (record x { own = x.own ++ a ∷ [] })) made.alike;
    }

made-making : (s : Stored) (unwritten : List Action) → IsKeptByMaking (Made s unwritten)
made-making s unwritten = record {
  creates = λ t kind made. made-create s unwritten t kind made;
  buffers = λ t kind made. record {
    holds = holds-making.buffers t kind made.holds;
    middle = made.middle;
    knows = made.knows;
    end = made.end;
    greens = made.greens;
    last = made.last;
    makes = made.makes;
    alike = made.alike;
  };
  empties = λ t made. record {
    holds = holds-making.empties t made.holds;
    middle = made.middle;
    knows = made.knows;
    end = made.end;
    greens = made.greens;
    last = made.last;
    makes = made.makes;
    alike = made.alike;
  };
}

-- ---- a whole event

goes-begin : (book : ActionId → Action) (s : Stored) (unwritten : List Action) (r : Replica) (input : Input) → Holds r.held → IsAhead s unwritten r.held → AreBooked book r.held input →
    Goes book s unwritten (begin r)
goes-begin book s unwritten r input is ahead booked = record {
  holds = is;
  reds = booked.reds;
  own = booked.own;
  made = refl;
  led = subst (λ k. Led s k [] r.held) (sym (append-nil unwritten)) (led-begin s unwritten r.held ahead is);
}

made-step : (book : ActionId → Action) (s : Stored) (unwritten : List Action) (r : Replica) (input : Input) → Holds r.held → IsAhead s unwritten r.held → AreBooked book r.held input →
    Made s unwritten (replica_step r input)
unfolding replica_step
made-step book s unwritten r (Deliveries list) is ahead booked =
    let goes = of-deliveries (Goes book s unwritten) (Named book) (goes-rule book s unwritten) (begin r) list booked.coming (goes-begin book s unwritten r (Deliveries list) is ahead booked) in
    of-settle (Made s unwritten) (made-making s unwritten) (fold after_delivery (begin r) list) (made-from book s unwritten (fold after_delivery (begin r) list) goes)
made-step book s unwritten r (Asks kind) is ahead booked =
    of-request_in (Made s unwritten) (made-making s unwritten) r.state (begin r) kind (made-from book s unwritten (begin r) (goes-begin book s unwritten r (Asks kind) is ahead booked))

-- ---- its commit

whiten-stored : (h : Held) → whiten (stored_of h) ≡ stored_of (whiten h)
unfolding whiten
whiten-stored h = refl

recorded : (s : Stored) (unwritten : List Action) (t : Turn) → Made s unwritten t → IsRecorded s unwritten t
unfolding after_change
recorded s unwritten t made =
    let h = t.replica.held in
    let v = stable_of h in
    let yellow : are_yellow made.last.queue h.queue.yellow ≡ true = ap (λ (x : Stored). are_yellow x.queue h.queue.yellow) made.alike ∙ made.holds.yellow in
    let last : created h ≡ created made.last = ap (λ (x : Stored). created x) (sym made.alike) in
    let values : put_values made.last v ≡ stored_of h = ap (λ (x : Stored). put_values x v) made.alike in
    ap (λ o. option_and_then (with_values v) (all_of make (all_of green_by_name o t.green) t.made)) made.knows
    ∙ ap (λ o. option_and_then (with_values v) (all_of make o t.made)) made.greens
    ∙ ap (option_and_then (with_values v)) made.makes
    ∙ ap (λ b. cond b (Some (whiten (put_values made.last v))) None)
    (and_from (are_yellow made.last.queue h.queue.yellow) (created h == created made.last) yellow (eq-eqb (created h) (created made.last) last))
    ∙ ap (λ (x : Stored). Some (whiten x)) values
    ∙ ap Some (whiten-stored h)

-- ---- an event without one

-- knowing changes no values
known-values : (list : List Action) (x y : Stored) → all_of know (Some x) list ≡ Some y → HaveOneValue x y
known-values [] x y e =
    let same : x ≡ y = same_Some x y e in
    record { prim = ap (λ (z : Stored). z.prim) same; attempt_index = ap (λ (z : Stored). z.attempt_index) same; vulnerable = ap (λ (z : Stored). z.vulnerable) same; yellow = ap (λ (z : Stored). yellow_of z) same }
known-values (a ∷ list) x y e = elim (cases_Bool (fits_known x a)) [
  | inl fits ↦
      let rest = known-values list (known_by x a) y (ap (λ o. all_of know o list) (sym (know-some x a fits)) ∙ e) in
      record { prim = rest.prim; attempt_index = rest.attempt_index; vulnerable = rest.vulnerable; yellow = rest.yellow }
  | inr none ↦ absurd (none-some y (sym (none-all know list) ∙ ap (λ o. all_of know o list) (sym (ap (λ b. cond b (Some (known_by x a)) None) none)) ∙ e))
]

-- an event without a commit has nothing but red marks
pub record IsQuiet (old : Held) (t : Turn) : Type 0 where
  pub green : t.green ≡ []
  pub made : t.made ≡ []
  pub values : HaveOneValue old t.replica.held

quiet-from : (old : Held) (t : Turn) → commits old t ≡ false → IsQuiet old t
unfolding commits
quiet-from old t none =
    let g = not (is_nil t.green) in
    let m = not (is_nil t.made) in
    let v = not (same_values old t.replica.held) in
    let first = or_parts ((t.marked_own || g) || m) v none in
    let second = or_parts (t.marked_own || g) m first.0 in
    let third = or_parts t.marked_own g second.0 in
    record {
      green = is_nil-false t.green third.1;
      made = is_nil-false t.made second.1;
      values = one-value old t.replica.held (not-false (same_values old t.replica.held) first.1);
    }

keeps : (s : Stored) (unwritten : List Action) (old : Held) (t : Turn) → IsAhead s unwritten old → Made s unwritten t → commits old t ≡ false →
    IsAhead s (unwritten ++ t.known) t.replica.held
keeps s unwritten old t ahead made none =
    let h = t.replica.held in
    let quiet = quiet-from old t none in
    let end : made.middle ≡ made.end = same_Some made.middle made.end (sym (ap (all_of green_by_name (Some made.middle)) quiet.green) ∙ made.greens) in
    let last : made.end ≡ made.last = same_Some made.end made.last (sym (ap (all_of make (Some made.end)) quiet.made) ∙ made.makes) in
    let alike : bare made.middle ≡ bare (stored_of h) = ap bare (end ∙ last) ∙ made.alike in
    let behind : all_of know (Some (stored_of old)) t.known ≡ Some made.middle =
    ap (λ o. all_of know o t.known) (sym ahead)
    ∙ sym (fold-append (λ (now : Option Stored) (item : Action). option_and_then (λ x. know x item) now) (Some s) unwritten t.known) ∙ made.knows in
    let from = known-values t.known (stored_of old) made.middle behind in
    made.knows ∙ ap Some (whole made.middle h alike
    (sym from.prim ∙ quiet.values.prim) (sym from.attempt_index ∙ quiet.values.attempt_index) (sym from.vulnerable ∙ quiet.values.vulnerable) (sym from.yellow ∙ quiet.values.yellow))
  where
    whole : (x h : Held) → bare x ≡ bare (stored_of h) → x.prim ≡ h.prim → x.attempt_index ≡ h.attempt_index → x.vulnerable ≡ h.vulnerable → yellow_of x ≡ yellow_of h → x ≡ stored_of h
    whole x h alike prim index vulnerable yellow = λ i.
        let b = alike i in
        let q = b.queue in
        let y = yellow i in
        record b { queue = record q { yellow = y.list }; yellow_valid = y.valid; prim = prim i; attempt_index = index i; vulnerable = vulnerable i }

pub always-recorded : AlwaysRecorded
always-recorded s unwritten r input book is ahead booked =
    let made = made-step book s unwritten r input is ahead booked in
    record {
      commit = recorded s unwritten (replica_step r input) made;
      keep = λ none. keeps s unwritten r.held (replica_step r input) ahead made none;
    }

-- ---- a recovery

known-own : (list : List Action) (h : Held) → h.own ≡ list → run_on h.queue.red_cut (names_of list) ≡ true → all_of know (Some h) list ≡ Some (known_all h list)
known-own [] h own run = refl
known-own (a ∷ list) h own run =
    ap (λ o. all_of know o list) (know-some h a (fits-own h a list own (run-head h.queue.red_cut a.id (names_of list) run)))
    ∙ known-own list (known_by h a) (ap (λ xs. after_first xs a.id) own ∙ after-here a list a.id (same_id-self a.id)) (run-rest h.queue.red_cut a.id (names_of list) run)

known-memory : (list : List Action) (h : Held) → h.buffered ≡ [] → h.owed ≡ [] → known_all h list ≡ stored_of (known_all h list)
known-memory [] h buffered owed = λ i. record h { buffered = buffered i; owed = owed i }
known-memory (a ∷ list) h buffered owed = known-memory list (known_by h a) buffered owed

ahead-recovered : (s : Stored) → Holds s → s.buffered ≡ [] → s.owed ≡ [] → IsAhead s (recovery_turn s).known (recovery_turn s).replica.held
unfolding recovery_turn
ahead-recovered s is buffered owed =
    let t = begin (record { held = s; state = NonPrim false }) in
    let red = own-reddened t is in
    ap (all_of know (Some s)) red.known ∙ known-own s.own s refl is.own
    ∙ ap Some (known-memory s.own s buffered owed) ∙ ap (λ (x : Held). Some (stored_of x)) (sym red.held)

pub always-ahead : AlwaysAhead
always-ahead = record {
  committed = λ h. refl;
  recovered = λ s is buffered owed. ahead-recovered s is buffered owed;
}

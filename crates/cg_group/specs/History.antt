-- What may be asked of a group, and what each replica has been handed after a list of calls.
use Rattle.std.specs.Prelude.{◌≡◌, ℕ, suc, ◌==◌, Bool, true, false, not, ◌&&◌, ◌||◌, List, [], ◌∷◌, ◌++◌, Option, Some, None, filter, flat_map, fold, is_some, is_none, if◌then◌else◌}
use Rattle.cg_base.specs.Sets.{has}
use Rattle.cg_group.specs.declared.delivery.Delivery.{Delivery}
use Rattle.cg_group.specs.declared.delivery.Delivery.TheVariants.{Message, Transitional, Regular}
use Rattle.cg_group.specs.declared.delivery.Handed.{Handed}
use Rattle.cg_group.specs.State.{GroupState, no_group, regular_in, phase_of, is_up}
use Rattle.cg_group.specs.Events.{HandedOut, come_up, go_down, send, order, receive, gather, deliver, split, merge}
use Rattle.cg_group.specs.Refusals.{order_refusal, receive_refusal, deliver_refusal, split_refusal, merge_refusal}

-- what may be asked of a group; a merge is told which replicas have left for good
pub data Call (M : Type 0) : Type 0 where
  Add : (p : ℕ) → Call M
  Fall : (p : ℕ) → Call M
  SendFrom : (p : ℕ) (message : M) → Call M
  OrderNext : (p : ℕ) → Call M
  ReceiveAt : (p place : ℕ) → Call M
  GatherAll : Call M
  DeliverNext : (p count : ℕ) → Call M
  SplitOff : (set : List ℕ) → Call M
  MergeInto : (set left : List ℕ) → Call M

-- the transitional configuration that a replica was handed: in which call, with whom, and the messages behind it
pub record Parting (M : Type 0) : Type 0 where
  pub time : ℕ
  pub set : List ℕ
  pub later : List (Delivery M)

-- how a replica's stay in a configuration goes on: it was never there; it is still there; it went down; or it was
-- handed the next regular configuration, with those members, while those others had left for good
pub data Way : Type 0 where
  Never : Way
  Here : Way
  WentDown : (time : ℕ) → Way
  WentOn : (time : ℕ) (set left : List ℕ) → Way

-- what a replica was handed in one configuration: its members, the messages of its regular phase, and its parting
pub record Stay (M : Type 0) : Type 0 where
  pub members : List ℕ
  pub regular : List (Delivery M)
  pub parting : Option (Parting M)
  pub way : Way

-- all that one replica was handed: the configuration that it is in, or 0; what it was handed there, and in each that it
-- has left; and what it was handed out of turn: a message in no configuration, a parting that isn't from its own, or a
-- regular configuration before a parting or once more
pub record Diary (M : Type 0) : Type 0 where
  pub current : ℕ
  pub now : Stay M
  pub past : ℕ → Stay M
  pub strays : List (Delivery M)

-- a group after a list of calls, what each replica was handed and sent in each configuration, and the number of calls
pub record History (M : Type 0) : Type 0 where
  pub group : GroupState M
  pub diary : ℕ → Diary M
  pub sent : ℕ → ℕ → List M
  pub time : ℕ

-- the replica was there
abbrev pub was_there : Way → Bool
was_there Never = false
was_there _ = true

-- a set names each member once
abbrev pub NamesOnce : List ℕ → Type 0
NamesOnce [] = Unit {0}
NamesOnce (p ∷ set) = (has set p ≡ false) × NamesOnce set

module _ {M : Type 0} where
  -- a stay that never was
  abbrev pub no_stay : Stay M
  no_stay = record { members = []; regular = []; parting = None; way = Never }

  -- nothing was handed
  abbrev pub blank : Diary M
  blank = record { current = 0; now = no_stay; past = λ conf. no_stay; strays = [] }

  -- what the replica was handed in a configuration
  abbrev pub stay_in : Diary M → ℕ → Stay M
  stay_in d conf = if conf == d.current then d.now else d.past conf

  -- something is handed out of turn
  abbrev pub with_stray : Diary M → Delivery M → Diary M
  with_stray d x = record d { strays = d.strays ++ x ∷ [] }

  -- a message goes to the regular phase before the parting, and else behind it
  abbrev pub stay_with : Stay M → Option (Parting M) → Delivery M → Stay M
  stay_with s None x = record s { regular = s.regular ++ x ∷ [] }
  stay_with s (Some t) x = record s { parting = Some (record t { later = t.later ++ x ∷ [] }) }

  -- a message is handed
  abbrev pub note_message : Diary M → Delivery M → Diary M
  note_message d x = if d.current == 0 then with_stray d x else record d { now = stay_with d.now d.now.parting x }

  -- a stay is parted from, with the set, in that call
  abbrev pub parted : ℕ → List ℕ → Stay M → Stay M
  parted time set s = record s { parting = Some (record { time = time; set = set; later = [] }) }

  -- a parting may be handed: it is from the current configuration, and the first
  abbrev pub may_part : Diary M → ℕ → Bool
  may_part d conf = not (d.current == 0) && ((conf == d.current) && is_none d.now.parting)

  -- a transitional configuration is handed, in that call
  abbrev pub note_parting : ℕ → Diary M → ℕ → List ℕ → Diary M
  note_parting time d conf set =
      if may_part d conf then record d { now = parted time set d.now } else with_stray d (Transitional conf set)

  -- a stay that goes on like this
  abbrev pub going : Stay M → Way → Stay M
  going s way = record s { way = way }

  -- the stay in the current configuration ends
  abbrev pub ended : Diary M → Way → Diary M
  ended d way =
      if d.current == 0 then d
      else record d {
        current = 0;
        now = no_stay;
        past = λ conf. if conf == d.current
            then going d.now way else d.past conf;
      }

  -- a stay that begins
  abbrev pub fresh : List ℕ → Stay M
  fresh set = record { members = set; regular = []; parting = None; way = Here }

  -- a regular configuration may be handed: the current one was parted from, and the new one is new
  abbrev pub may_begin : Diary M → ℕ → Bool
  may_begin d conf = ((d.current == 0) || is_some d.now.parting)
      && (not (conf == 0) && not (was_there (stay_in d conf).way))

  -- a regular configuration is handed, in that call, while those others had left for good
  abbrev pub note_regular : ℕ → List ℕ → Diary M → ℕ → List ℕ → Diary M
  note_regular time left d conf set =
      if may_begin d conf then (let over = ended d (WentOn time set left) in
      record over { current = conf; now = fresh set })
      else with_stray d (Regular conf set)

  -- one thing is handed
  abbrev pub note : ℕ → List ℕ → Diary M → Delivery M → Diary M
  note time left d (Message place from m) = note_message d (Message place from m)
  note time left d (Transitional conf set) = note_parting time d conf set
  note time left d (Regular conf set) = note_regular time left d conf set

  -- what the replica is handed in one event
  abbrev pub handed_to : ℕ → List (Handed M) → List (Delivery M)
  handed_to p handed = flat_map (λ h. h.list) (filter (λ h. h.to == p) handed)

  -- those who have left for good, as far as the call is told
  abbrev pub left_in : Call M → List ℕ
  left_in (MergeInto set left) = left
  left_in _ = []

  -- the replica goes down in the call
  abbrev pub falls : ℕ → Call M → Bool
  falls p (Fall q) = p == q
  falls p _ = false

  -- a replica's diary after a call that handed it this list
  unfoldable pub diary_after : ℕ → Call M → ℕ → Diary M → List (Delivery M) → Diary M
  diary_after time call p d list =
      if falls p call then ended d (WentDown time) else fold (note time (left_in call)) d list

  -- a group that hands out nothing
  abbrev pub silent : GroupState M → HandedOut M
  silent g = record { group = g; handed = [] }

  -- what a call does
  unfoldable pub handed_out_by : GroupState M → Call M → HandedOut M
  handed_out_by g (Add p) = silent (come_up g p)
  handed_out_by g (Fall p) = silent (go_down g p)
  handed_out_by g (SendFrom p m) = silent (send g p m)
  handed_out_by g (OrderNext p) = silent (order g p)
  handed_out_by g (ReceiveAt p place) = silent (receive g p place)
  handed_out_by g GatherAll = silent (gather g)
  handed_out_by g (DeliverNext p k) = deliver g p k
  handed_out_by g (SplitOff set) = split g set
  handed_out_by g (MergeInto set left) = merge g set

  -- a call meets its condition, and isn't refused
  abbrev pub MayCall : GroupState M → Call M → Type 0
  MayCall g (Add p) = is_up g p ≡ false
  MayCall g (Fall p) = Unit {0}
  MayCall g (SendFrom p m) = Unit {0}
  MayCall g (OrderNext p) = order_refusal g p ≡ None
  MayCall g (ReceiveAt p place) = receive_refusal g p place ≡ None
  MayCall g GatherAll = Unit {0}
  MayCall g (DeliverNext p k) = deliver_refusal g p k ≡ None
  MayCall g (SplitOff set) = NamesOnce set × (split_refusal g set ≡ None)
  MayCall g (MergeInto set left) = NamesOnce set × (merge_refusal g set left ≡ None)

  -- what was sent in each configuration, after a call
  abbrev pub sent_after : GroupState M → Call M → (ℕ → ℕ → List M) → ℕ → ℕ → List M
  sent_after g (SendFrom p m) sent conf q =
      if (q == p) && ((conf == regular_in (phase_of g p)) && not (conf == 0))
      then sent conf q ++ m ∷ [] else sent conf q
  sent_after g _ sent conf q = sent conf q

  -- a history after one more call
  unfoldable pub step : History M → Call M → History M
  step r call =
      let o = handed_out_by r.group call in
      record {
        group = o.group;
        diary = λ p. diary_after r.time call p (r.diary p) (handed_to p o.handed);
        sent = sent_after r.group call r.sent;
        time = suc r.time;
      }

  -- the empty group, and nobody was handed anything
  abbrev pub beginning : History M
  beginning = record { group = no_group; diary = λ p. blank; sent = λ conf p. []; time = 0 }

  -- a history after more calls
  abbrev pub history_from : History M → List (Call M) → History M
  history_from r [] = r
  history_from r (call ∷ calls) = history_from (step r call) calls

  -- each of the calls may be made in its turn
  abbrev pub MayCallAll : History M → List (Call M) → Type 0
  MayCallAll r [] = Unit {0}
  MayCallAll r (call ∷ calls) = MayCall r.group call × MayCallAll (step r call) calls

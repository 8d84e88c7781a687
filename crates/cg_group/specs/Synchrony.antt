-- Extended virtual synchrony, without self-delivery: what the replicas may rely on in all that they are handed.
use Rattle.std.specs.Prelude.{◌≡◌, ℕ, ◌==◌, ◌<◌, ◌≤◌, ◌⊎◌, List, [], ◌∷◌, ◌++◌, Option, Some, None, map, filter, length, IsTrue}
use Rattle.cg_base.specs.Sets.{has}
use Rattle.cg_base.specs.Lists.{above_up_to}
use Rattle.cg_group.specs.declared.delivery.Delivery.{Delivery}
use Rattle.cg_group.specs.declared.delivery.Delivery.TheVariants.{Message}
use Rattle.cg_group.specs.declared.phase.Phase.TheVariants.{Regular}
use Rattle.cg_group.specs.State.{Sent, configuration, phase_of}
use Rattle.cg_group.specs.Ready.{all_received}
use Rattle.cg_group.specs.Events.{deliveries_at, transitional_places}
use Rattle.cg_group.specs.History.{Call, Parting, Way, WentDown, WentOn, Stay, History, stay_in, was_there, beginning, history_from, MayCallAll}

-- the stay ended before the call of that number
abbrev pub EndedBefore : ℕ → Way → Type 0
EndedBefore time (WentDown t) = t < time
EndedBefore time (WentOn t set left) = t < time
EndedBefore time _ = ⊥

-- the replica went down there
abbrev pub IsDownThere : Way → Type 0
IsDownThere (WentDown t) = Unit {0}
IsDownThere _ = ⊥

-- one list begins another
abbrev pub Begins : {X : Type 0} → List X → List X → Type 0
Begins xs ys = (rest : List _) × (xs ++ rest ≡ ys)

-- each place is above the ones before it
abbrev pub AscendsAbove : ℕ → List ℕ → Type 0
AscendsAbove low [] = Unit {0}
AscendsAbove low (place ∷ places) = (low < place) × AscendsAbove place places

module _ {M : Type 0} where
  -- the places of messages that were handed
  abbrev pub places_of : List (Delivery M) → List ℕ
  places_of [] = []
  places_of (Message place from m ∷ list) = place ∷ places_of list
  places_of (x ∷ list) = places_of list

  -- the messages of one sender among those that were ordered
  abbrev pub ordered_from : ℕ → List (Sent M) → List M
  ordered_from p ordered = map (λ s. s.message) (filter (λ s. s.from == p) ordered)

  -- what a replica was handed in a configuration
  abbrev pub stay_of : History M → ℕ → ℕ → Stay M
  stay_of r p conf = stay_in (r.diary p) conf

  -- how many messages a replica was handed in its regular phase
  abbrev pub count_of : History M → ℕ → ℕ → ℕ
  count_of r p conf = length (stay_of r p conf).regular

  -- what a replica was handed behind its parting, where it parted
  abbrev pub later_of : Option (Parting M) → List (Delivery M)
  later_of None = []
  later_of (Some t) = t.later

  -- what was handed in a history, with the group after it, is virtually synchronous
  pub record IsVirtuallySynchronous (r : History M) : Type 0 where
    -- nothing is handed out of turn: after a parting comes a regular configuration, or the replica goes down
    pub in_turn : (p : ℕ) → (r.diary p).strays ≡ []
    -- in its regular phase a replica is handed the first places, in order, and every member has received each of them
    pub in_order : (p conf : ℕ) → (stay_of r p conf).regular ≡
        deliveries_at (configuration r.group conf) (above_up_to 0 (count_of r p conf))
    pub received : (p conf place : ℕ) → 0 < place → place ≤ count_of r p conf →
        IsTrue (all_received (configuration r.group conf) place)
    -- each member is told who the members are
    pub told : (p conf : ℕ) → IsTrue (was_there (stay_of r p conf).way) →
        (stay_of r p conf).members ≡ (configuration r.group conf).members
    -- who is handed a configuration is a member of it, and who is handed a parting is in its set
    pub member : (p conf : ℕ) → IsTrue (was_there (stay_of r p conf).way) →
        IsTrue (has (configuration r.group conf).members p)
    pub parts_itself : (p conf : ℕ) (t : Parting M) → (stay_of r p conf).parting ≡ Some t → IsTrue (has t.set p)
    -- those who part together are told so in one call, after the same places, and are then handed the same list: the
    -- places after these that some of them had received
    pub together : (p q conf : ℕ) (t : Parting M) → (stay_of r p conf).parting ≡ Some t → IsTrue (has t.set q) →
        ((stay_of r q conf).parting ≡ Some t) × (count_of r q conf ≡ count_of r p conf)
    pub same_list : (p conf : ℕ) (t : Parting M) → (stay_of r p conf).parting ≡ Some t →
        (let c = configuration r.group conf in
        t.later ≡ deliveries_at c (transitional_places c t.set (count_of r p conf)))
    -- the next regular configuration holds all who parted together and are still there, but those who had left for good
    pub with_all : (p q conf : ℕ) (t : Parting M) (time : ℕ) (set left : List ℕ) →
        (stay_of r p conf).parting ≡ Some t → (stay_of r p conf).way ≡ WentOn time set left → IsTrue (has t.set q) →
        IsTrue (has set q) ⊎ IsTrue (has left q) ⊎ EndedBefore time (stay_of r q conf).way
    -- a place that one member was handed in its regular phase each other is handed too, in its regular phase or behind its
    -- parting, or it went down there, or it is still in its regular phase
    pub nobody_skips : (p q conf place : ℕ) → 0 < place → place ≤ count_of r p conf →
        IsTrue (has (configuration r.group conf).members q) →
        (place ≤ count_of r q conf) ⊎ IsTrue (has (places_of (later_of (stay_of r q conf).parting)) place)
        ⊎ IsDownThere (stay_of r q conf).way ⊎ (phase_of r.group q ≡ Regular conf)
    -- what was ordered of a sender is what it sent in that configuration, as far as it goes; and no place is handed to a
    -- replica twice
    pub sent_there : (p conf : ℕ) → Begins (ordered_from p (configuration r.group conf).ordered) (r.sent conf p)
    pub once : (p conf : ℕ) → (let s = stay_of r p conf in AscendsAbove 0 (places_of (s.regular ++ later_of s.parting)))

-- whatever a list of calls hands out, from the empty group on, is virtually synchronous
abbrev pub AlwaysSynchronous : (M : Type 0) → Type 0
AlwaysSynchronous M = (calls : List (Call M)) → MayCallAll beginning calls →
    IsVirtuallySynchronous (history_from beginning calls)

-- What the law's invariant speaks of, and the invariant.
use Rattle.std.proofs.Common.{◌≡◌, ℕ, ◌<◌, ◌≤◌, ◌⊎◌, Bool, true, List, [], ◌++◌, length, Some, None, if◌then◌else◌}
use Rattle.cg_base.specs.Sets.{has}
use Rattle.cg_base.specs.Lists.{above_up_to}
use Rattle.cg_group.specs.declared.phase.Phase.{Phase}
use Rattle.cg_group.specs.declared.phase.Phase.TheVariants.{Regular, Transitional}
use Rattle.cg_group.specs.State.{Configuration, has_received}
use Rattle.cg_group.specs.Ready.{all_received}
use Rattle.cg_group.specs.Events.{deliveries_at, transitional_places}
use Rattle.cg_group.specs.History.{Parting, Way, Never, Here, WentDown, WentOn, Stay, was_there}
use Rattle.cg_group.specs.Synchrony.{EndedBefore}

-- the number of the configuration in which the replica is, regular or not, 0 for none
abbrev pub conf_in : Phase → ℕ
conf_in (Regular conf) = conf
conf_in (Transitional conf set) = conf
conf_in _ = 0

-- a group and what was handed out, as functions: phases, counts of delivered places, configurations, how many there
-- are, stays by replica and configuration, and the number of calls
pub record Picture (M : Type 0) : Type 0 where
  pub phase : ℕ → Phase
  pub count : ℕ → ℕ
  pub conf : ℕ → Configuration M
  pub number : ℕ
  pub stay : ℕ → ℕ → Stay M
  pub time : ℕ

-- an end that isn't later than a call
abbrev pub EndsBy : ℕ → Way → Type 0
EndsBy time (WentDown t) = t < time
EndsBy time (WentOn t set left) = t < time
EndsBy time _ = Unit {0}

-- what holds of a picture after each call
pub record Holds {M : Type 0} (P : Picture M) : Type 0 where
  -- configurations that replicas are in
  pub within : (q : ℕ) → conf_in (P.phase q) ≤ P.number
  pub regular_from_one : (q c : ℕ) → P.phase q ≡ Regular c → 0 < c
  pub apart_from_one : (q c : ℕ) (set : List ℕ) → P.phase q ≡ Transitional c set → 0 < c
  -- the stay in a replica's configuration
  pub here : (q c : ℕ) → P.phase q ≡ Regular c → (P.stay q c).parting ≡ None
  pub counted : (q c : ℕ) → P.phase q ≡ Regular c → P.count q ≡ length (P.stay q c).regular
  pub apart : (q c : ℕ) (set : List ℕ) → P.phase q ≡ Transitional c set → (t : Parting M) × ((P.stay q c).parting ≡ Some t) × (t.set ≡ set)
  pub present : (q c : ℕ) → conf_in (P.phase q) ≡ c → 0 < c → (P.stay q c).way ≡ Here
  pub gone : (q c : ℕ) → (P.stay q c).way ≡ Here → conf_in (P.phase q) ≡ c
  -- who was there
  pub never : (q c : ℕ) → P.number < c → (P.stay q c).way ≡ Never
  pub nowhere : (q : ℕ) → (P.stay q 0).way ≡ Never
  pub there : (q c : ℕ) → has (P.conf c).members q ≡ true → (P.stay q c).way ≡ Never → ⊥
  pub told : (q c : ℕ) → was_there (P.stay q c).way ≡ true → (P.stay q c).members ≡ (P.conf c).members
  pub member : (q c : ℕ) → was_there (P.stay q c).way ≡ true → has (P.conf c).members q ≡ true
  pub absent : (q c : ℕ) → (P.stay q c).way ≡ Never → ((P.stay q c).regular ≡ []) × ((P.stay q c).parting ≡ None)
  -- what was handed
  pub short : (q c : ℕ) → length (P.stay q c).regular ≤ length (P.conf c).ordered
  pub in_order : (q c : ℕ) → (P.stay q c).regular ≡ deliveries_at (P.conf c) (above_up_to 0 (length (P.stay q c).regular))
  pub received : (q c place : ℕ) → 0 < place → place ≤ length (P.stay q c).regular → all_received (P.conf c) place ≡ true
  pub together : (p q c : ℕ) (t : Parting M) → (P.stay p c).parting ≡ Some t → has t.set q ≡ true →
      ((P.stay q c).parting ≡ Some t) × (length (P.stay q c).regular ≡ length (P.stay p c).regular)
  pub same_list : (q c : ℕ) (t : Parting M) → (P.stay q c).parting ≡ Some t →
      t.later ≡ deliveries_at (P.conf c) (transitional_places (P.conf c) t.set (length (P.stay q c).regular))
  pub own : (q c : ℕ) (t : Parting M) → (P.stay q c).parting ≡ Some t → has t.set q ≡ true
  pub with_all : (p q c : ℕ) (t : Parting M) (time : ℕ) (set left : List ℕ) →
      (P.stay p c).parting ≡ Some t → (P.stay p c).way ≡ WentOn time set left → has t.set q ≡ true →
      (has set q ≡ true) ⊎ (has left q ≡ true) ⊎ EndedBefore time (P.stay q c).way
  pub went_on : (q c time : ℕ) (set left : List ℕ) → (P.stay q c).way ≡ WentOn time set left → (P.stay q c).parting ≡ None → ⊥
  -- receipts and times
  pub bounded : (q c place : ℕ) → has_received (P.conf c) q place ≡ true → place ≤ length (P.conf c).ordered
  pub earlier : (q c : ℕ) → EndsBy P.time (P.stay q c).way

module _ {M : Type 0} where
  -- a replica is handed messages in its regular phase
  abbrev pub handed_more : List (Rattle.cg_group.specs.declared.delivery.Delivery.Delivery M) → Stay M → Stay M
  handed_more messages s = record s { regular = s.regular ++ messages }

  -- a replica is handed the last messages of its regular phase, and its parting
  abbrev pub handed_parting : List (Rattle.cg_group.specs.declared.delivery.Delivery.Delivery M) → Parting M → Stay M → Stay M
  handed_parting messages t s = record s { regular = s.regular ++ messages; parting = Some t }

  -- the stays with those as changed that a test names
  abbrev pub touched : (ℕ → ℕ → Bool) → (ℕ → Stay M → Stay M) → (ℕ → ℕ → Stay M) → ℕ → ℕ → Stay M
  touched test change stay q c = if test q c then change q (stay q c) else stay q c

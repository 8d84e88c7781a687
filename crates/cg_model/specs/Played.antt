-- What is to be proved of small steps: that they keep the facts, and that the step of each event is made of them.
use Rattle.std.specs.Prelude.{◌≡◌, ℕ, true, List, [], ◌∷◌, None, IfSome, map}
use Rattle.cg_client.specs.Replica.{Held}
use Rattle.cg_schedule.specs.declared.event.Event.{Event}
use Rattle.cg_model.specs.World.{World, no_world, replica_of}
use Rattle.cg_model.specs.Admission.{first_refusal}
use Rattle.cg_model.specs.Step.{world_step}
use Rattle.cg_model.specs.Run.{MayStand}
use Rattle.cg_model.specs.Chronicle.{Chronicle, no_chronicle}
use Rattle.cg_model.specs.Looks.{greens_of, stood_of, disk_held, snapshots_for}
use Rattle.cg_model.specs.Small.{Small, Crashes, small_step}
use Rattle.cg_model.specs.Smalls.{may_make, smalls_in}
use Rattle.cg_model.specs.Noting.{chronicle_step}
use Rattle.cg_model.specs.FactsReplica.{GoesOn, IsAsOnDisk}
use Rattle.cg_model.specs.Facts.{Invariant, Rests, Moves}

-- a snapshot, but for how much of it was taken
pub record GivenSnapshot : Type 0 where
  pub joiner : ℕ
  pub giver : ℕ
  pub content : Held

abbrev pub given_for : World → ℕ → List GivenSnapshot
given_for w joiner =
    map (λ s. record { joiner = s.joiner; giver = s.giver; content = s.content }) (snapshots_for w joiner)

-- two worlds are one for the facts, but for what was printed, what a disk has beside its content, and the order of the snapshots
pub record IsSame (w v : World) : Type 0 where
  pub group : w.group ≡ v.group
  pub nodes : map (λ s. s.id) w.nodes ≡ map (λ s. s.id) v.nodes
  pub running : (p : ℕ) → replica_of w p ≡ replica_of v p
  pub disk : (p : ℕ) → disk_held w p ≡ disk_held v p
  pub given : (joiner : ℕ) → given_for w joiner ≡ given_for v joiner

-- what stands on the disk of a replica that is up is what it holds, but for reds
pub record IsWritten (c : Chronicle) (p : ℕ) : Type 0 where
  pub up : IfSome (replica_of c.world p) (λ r. IfSome (disk_held c.world p) (λ disk. GoesOn r.held disk
      × IsAsOnDisk r.held disk r.state))
  pub greens : greens_of c p ≡ stood_of c p

-- a replica crashes between its events, or behind a commit
abbrev pub AtRest : Chronicle → Small → Type 0
AtRest c (Crashes p) = IsWritten c p
AtRest c _ = Unit {0}

-- each of the steps may be made behind the ones before
abbrev pub MayBeMade : Chronicle → List Small → Type 0
MayBeMade c [] = Unit {0}
MayBeMade c (s ∷ smalls) = (may_make c s ≡ true) × AtRest c s × MayBeMade (small_step c s) smalls

-- a small step keeps the facts
abbrev pub KeptBySmalls : Type 0
KeptBySmalls = (c : Chronicle) (s : Small) → Invariant c → may_make c s ≡ true → AtRest c s →
    Invariant (small_step c s) × Moves c (small_step c s)

-- a chronicle that has this world in place of its own
abbrev pub with_world : Chronicle → World → Chronicle
with_world c w = record c { world = w }

-- the facts hold of the chronicle, whose world is the same as the one that events lead to, and in that one all is at rest
pub record StandsBeside (c : Chronicle) (w : World) : Type 0 where
  pub facts : Invariant c
  pub same : IsSame w c.world
  pub rests : Rests (with_world c w)

-- the step of an admitted event, which may stand there, is made of small steps
abbrev pub MadeOfSmalls : Type 0
MadeOfSmalls =
    (c : Chronicle) (w : World) (e : Event) → StandsBeside c w → MayStand w e → first_refusal w e ≡ None →
    MayBeMade c (smalls_in w e) × IsSame (world_step w e).world (chronicle_step c w e).world

-- each of the events may stand behind the ones before, and is admitted
abbrev pub AreAdmitted : World → List Event → Type 0
AreAdmitted w [] = Unit {0}
AreAdmitted w (e ∷ events) = MayStand w e × (first_refusal w e ≡ None) × AreAdmitted (world_step w e).world events

-- the facts hold behind all of these events
abbrev pub HoldsFrom : Chronicle → World → List Event → Type 0
HoldsFrom c w [] = StandsBeside c w
HoldsFrom c w (e ∷ events) = StandsBeside c w × HoldsFrom (chronicle_step c w e) (world_step w e).world events

-- and so they do from the start on
abbrev pub AlwaysHolds : Type 0
AlwaysHolds = (events : List Event) → AreAdmitted no_world events → HoldsFrom no_chronicle no_world events

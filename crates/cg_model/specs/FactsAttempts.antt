-- Facts about attempts to form a primary component: what each makes green, who has ended it, and when it is over.
use Rattle.std.specs.Prelude.{◌≡◌, ℕ, suc, ◌≤◌, ◌<◌, ◌==◌, nat_le, Bool, true, false, not, ◌&&◌, List, [], ◌∷◌, Option, Some, None, find, map, filter, filter_map, flat_map, length, IsTrue, IfSome}
use Rattle.std.specs.Option.{option_map_or}
use Rattle.cg_base.specs.declared.action_id.ActionId.{ActionId}
use Rattle.cg_base.specs.Cuts.{index_in}
use Rattle.cg_base.specs.Ids.{has_name}
use Rattle.cg_base.specs.Lists.{at_place, above_up_to}
use Rattle.cg_base.specs.Sets.{has, is_within}
use Rattle.cg_action.specs.declared.action.Action.{Action}
use Rattle.cg_queue.specs.Queue.{names_of}
use Rattle.cg_records.specs.declared.vulnerable.Vulnerable.{Vulnerable}
use Rattle.cg_vote.specs.Quorum.{is_quorum}
use Rattle.cg_knowledge.specs.declared.summary.Summary.{Summary}
use Rattle.cg_knowledge.specs.Summaries.{remaining, most_updated}
use Rattle.cg_knowledge.specs.Primary.{newest_index}
use Rattle.cg_knowledge.specs.Yellow.{common_yellow}
use Rattle.cg_knowledge.specs.Verdict.{decides}
use Rattle.cg_plan.specs.Plan.{creators}
use Rattle.cg_group.specs.State.{phase_of}
use Rattle.cg_client.specs.Replica.{Held, State, No}
use Rattle.cg_client.specs.Install.{valid_yellow}
use Rattle.cg_client.specs.Queries.{plain_reds}
use Rattle.cg_model.specs.World.{replica_of}
use Rattle.cg_model.specs.Chronicle.{Attempt, Chronicle}
use Rattle.cg_model.specs.Fronts.{When, IsSomeWith}
use Rattle.cg_model.specs.Looks.{greens_of, core_of, told_in, is_in, is_regular_in, conf_at, members_in, said_in, received_by_all, attempt_of, top_of, left_count, OfCores}
use Rattle.cg_model.specs.Talk.{is_ended, announcer_in, act_in, known_up_to}
use Rattle.cg_model.specs.Levels.{prim_at, announced_at, is_installed, is_dead, is_record_of}
use Rattle.cg_model.specs.FactsTalk.{whole_talk}
use Rattle.cg_model.specs.FactsReplica.{has_entered, has_installed, is_attempting}
use Rattle.cg_model.specs.FactsExchange.{HasRecord, best_told}

-- ---- what an attempt is

-- the names of what some member knows and the most updated one doesn't have green, without those that are yellow
abbrev pub names_between : List Summary → Summary → ℕ → List ActionId
names_between heard best creator =
    map (λ n. record { creator = creator; index = n })
    (above_up_to (index_in best.green_cut creator) (known_up_to heard creator))

abbrev pub red_names : List Summary → List ActionId
red_names heard =
    option_map_or (λ best. filter (λ id. not (has_name (common_yellow heard).list id))
    (flat_map (names_between heard best) (creators heard)))
    (most_updated heard) []

-- its parts follow from the summaries of its configuration
pub record AreParts (c : Chronicle) (heard : List Summary) (a : Attempt) : Type 0 where
  pub from : a.from ≡ newest_index heard
  pub set : a.set ≡ remaining heard
  pub greens : IsSomeWith (best_told c a.conf heard) (λ best. a.greens ≡ best.greens)
  pub yellow : names_of a.yellow ≡ (common_yellow heard).list
  pub reds : names_of a.reds ≡ red_names heard

pub record IsAttempt (c : Chronicle) (conf : ℕ) (a : Attempt) : Type 0 where
  pub ended : IsTrue (is_ended (members_in c conf) (whole_talk c conf))
  pub decided : IsTrue (decides (whole_talk c conf).heard)
  pub parts : AreParts c (whole_talk c conf).heard a
  pub entered : IsTrue (is_within a.entered a.set)
  pub installed : IsTrue (is_within a.installed a.entered)
  pub level : a.from ≤ top_of c
  pub quorum : IsTrue (is_quorum (prim_at c a.from).set a.set)

abbrev pub AttemptShape : Chronicle → Type 0
AttemptShape c = (conf : ℕ) → IfSome (attempt_of c conf) (IsAttempt c conf)

-- a member that hasn't installed its attempt holds the three parts
pub record HoldsParts (h : Held) (all : List Action) (a : Attempt) : Type 0 where
  pub greens : all ≡ a.greens
  pub yellow : valid_yellow h ≡ a.yellow
  pub reds : plain_reds h.queue ≡ a.reds

abbrev pub AttemptList : Chronicle → Type 0
AttemptList c =
    (p : ℕ) → IfSome (replica_of c.world p) (λ r.
    When (is_attempting r.state) (IsSomeWith (attempt_of c (conf_at (phase_of c.world.group p))) (HoldsParts
    r.held (greens_of c p))))

-- in an attempt that isn't installed names are yellow only where the yellow list is valid
abbrev pub YellowValid : Chronicle → Type 0
YellowValid c =
    (p : ℕ) → IfSome (replica_of c.world p) (λ r. When (is_attempting r.state) (r.held.yellow_valid ≡ false →
    r.held.queue.yellow ≡ []))

-- who is in an attempt's configuration isn't noted as one who has left it
abbrev pub LeftOut : Chronicle → Type 0
LeftOut c =
    (conf p : ℕ) → IsTrue (is_in c conf p) →
    find (λ l. l.member == p) (option_map_or (λ a. a.left) (attempt_of c conf) []) ≡ None

-- ---- levels

-- each level was opened by an attempt from the one before, and each installed attempt opened the next level
pub record LevelsStand (c : Chronicle) : Type 0 where
  pub opened : (level : ℕ) → level < top_of c →
      IsSomeWith (at_place c.levels (suc level)) (λ conf. IsSomeWith (attempt_of c conf) (λ a. (a.from ≡ level)
      × (is_installed a ≡ true)))
  pub opens : (conf : ℕ) →
      IfSome (attempt_of c conf) (λ a. When (is_installed a) (at_place c.levels (suc a.from) ≡ Some conf))
  pub known : OfCores c (λ h greens. (h.prim.index ≤ top_of c) × (h.prim ≡ prim_at c h.prim.index))

-- ---- who has announced, entered and installed

abbrev pub entered_in : Chronicle → ℕ → ℕ → Bool
entered_in c conf p = option_map_or (λ a. has_entered a p) (attempt_of c conf) false

abbrev pub installed_in : Chronicle → ℕ → Bool
installed_in c conf = option_map_or is_installed (attempt_of c conf) false

-- who has announced an attempt has entered it
abbrev pub AnnouncedEntered : Chronicle → Type 0
AnnouncedEntered c = (conf p : ℕ) → 0 < length (filter_map announcer_in (said_in c conf p)) →
    IsTrue (entered_in c conf p)

-- where an attempt is installed, every member has received the announcement of each
abbrev pub InstalledAnnounced : Chronicle → Type 0
InstalledAnnounced c =
    (conf p : ℕ) → IsTrue (installed_in c conf) → IfSome (attempt_of c conf) (λ a. When (has a.set p)
    ((0 < announced_at c conf p) × (announced_at c conf p ≤ received_by_all c conf)))

-- where a quorum was, an action is made by one who has installed the attempt
abbrev pub ActInstalled : Chronicle → Type 0
ActInstalled c =
    (conf p : ℕ) → IsTrue (decides (whole_talk c conf).heard) → 0 < length (filter_map act_in (said_in c conf p)) →
    IsTrue (installed_in c conf)

-- a record is of an attempt that its holder has entered
abbrev pub RecordOfAttempt : Chronicle → Type 0
RecordOfAttempt c = OfCores c (λ h greens. HasRecord c h.id h.prim.index h.vulnerable)

-- who has installed an attempt has gone past its index, and who has left it has no fewer greens than then
pub record InstalledIndex (c : Chronicle) : Type 0 where
  pub index : (conf p : ℕ) →
      IfSome (attempt_of c conf) (λ a. IfSome (core_of c p) (λ h. IsTrue (has_installed a p) → a.from < h.prim.index))
  pub count : (conf p : ℕ) → IfSome (attempt_of c conf) (λ a. left_count a p ≤ length (greens_of c p))

-- ---- witnesses

-- the member has left the attempt's configuration, and no more was green or installed there at it than is known
pub record IsWitnessed (c : Chronicle) (a : Attempt) (greens known p : ℕ) : Type 0 where
  pub out : is_in c a.conf p ≡ false
  pub count : left_count a p ≤ greens
  pub index : IsTrue (has_installed a p) → a.from < known

-- so is each bit of a record, but that of its holder
abbrev pub AreWitnessed : Chronicle → ℕ → ℕ → List ℕ → Option Vulnerable → Type 0
AreWitnessed c count index but None = Unit {0}
AreWitnessed c count index but (Some v) =
    (p : ℕ) → has v.bits p ≡ true → has but p ≡ false →
    IsSomeWith (attempt_of c v.attempt) (λ a. IsWitnessed c a count index p)

pub record BitsWitness (c : Chronicle) : Type 0 where
  pub cores : OfCores c (λ h greens. AreWitnessed c (length greens) h.prim.index (h.id ∷ []) h.vulnerable)
  pub told : (conf p : ℕ) →
      IfSome (told_in c conf p) (λ t. AreWitnessed c (length t.greens) t.summary.prim.index [] t.summary.vulnerable)

-- ---- what is over

-- the attempt was cut short
abbrev pub is_no : State → Bool
is_no (No conf heard) = true
is_no _ = false

-- a member that hasn't gone past the attempt and has no record of it
abbrev pub is_without : Attempt → ℕ → ℕ → Option Vulnerable → Bool
is_without a p index v = has a.set p && nat_le index a.from && not (is_record_of a.conf v)

-- ... shows that it is over, where it isn't regular in its configuration any more; so does a summary from a later one, and a
-- member to which an announcement didn't come
pub record DeadEvidence (c : Chronicle) : Type 0 where
  pub member : (conf p : ℕ) → is_regular_in c conf p ≡ false →
      IfSome (attempt_of c conf) (λ a. IfSome (core_of c p) (λ h.
      When (is_without a p h.prim.index h.vulnerable) (is_dead c a ≡ true)))
  pub told : (conf p later : ℕ) → conf < later → IfSome (attempt_of c conf) (λ a. IfSome (told_in c later p) (λ t.
      When (is_without a p t.summary.prim.index t.summary.vulnerable) (is_dead c a ≡ true)))
  pub cut_short : (p : ℕ) → IfSome (replica_of c.world p) (λ r. When (is_no r.state)
      (IsSomeWith (attempt_of c (conf_at (phase_of c.world.group p))) (λ a. is_dead c a ≡ true)))

-- of two attempts from one index the one of the earlier configuration is over
abbrev pub OneAttempt : Chronicle → Type 0
OneAttempt c =
    (conf later : ℕ) → conf < later →
    IfSome (attempt_of c conf) (λ a. IfSome (attempt_of c later) (λ b. a.from ≡ b.from → is_dead c a ≡ true))

pub record AttemptFacts (c : Chronicle) : Type 0 where
  pub attempt_shape : AttemptShape c
  pub attempt_list : AttemptList c
  pub yellow_valid : YellowValid c
  pub left_out : LeftOut c
  pub levels_stand : LevelsStand c
  pub announced_entered : AnnouncedEntered c
  pub installed_announced : InstalledAnnounced c
  pub act_installed : ActInstalled c
  pub record_of_attempt : RecordOfAttempt c
  pub installed_index : InstalledIndex c
  pub bits_witness : BitsWitness c
  pub dead_evidence : DeadEvidence c
  pub one_attempt : OneAttempt c

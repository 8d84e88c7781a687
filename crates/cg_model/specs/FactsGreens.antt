-- Facts about greens: one line, of which each replica has a front, and who covers what is or can become green.
use Rattle.std.specs.Prelude.{◌≡◌, ℕ, suc, ◌+◌, ◌≤◌, ◌<◌, true, List, ◌++◌, take, length, IfSome}
use Rattle.cg_base.specs.declared.action_id.ActionId.{ActionId}
use Rattle.cg_base.specs.Sets.{has}
use Rattle.cg_action.specs.declared.action.Action.{Action}
use Rattle.cg_queue.specs.Queue.{names_of}
use Rattle.cg_group.specs.State.{delivered_to, phase_of}
use Rattle.cg_client.specs.Replica.{Held, State, RegPrim, TransPrim, Replica}
use Rattle.cg_model.specs.World.{replica_of}
use Rattle.cg_model.specs.Chronicle.{Attempt, Chronicle}
use Rattle.cg_model.specs.Fronts.{Front, When}
use Rattle.cg_model.specs.Looks.{greens_of, told_in, conf_at, ordered_in, received_by_all, attempt_of, attempt_at, top_of, installation, OfCores}
use Rattle.cg_model.specs.Talk.{acts_in}
use Rattle.cg_model.specs.Levels.{line_at, count_in, reached_at, reach_at, is_frozen, is_evidence, names_with}
use Rattle.cg_model.specs.FactsReplica.{has_installed, is_primary}

-- what is held begins with the installation of its index
abbrev pub BeginsWith : Chronicle → Type 0
BeginsWith c = OfCores c (λ h greens. Front (installation (attempt_at c h.prim.index)) greens)

-- a regular member of a primary component has green what was installed and what it was handed there
abbrev pub IsHandedGreen : Chronicle → ℕ → Attempt → State → Type 0
IsHandedGreen c p a RegPrim = greens_of c p ≡ installation a
    ++ acts_in (take (delivered_to c.world.group p) (ordered_in c a.conf))
IsHandedGreen c p a _ = Unit {0}

-- a member of a primary component is one of the attempt that opened the level of its index
pub record IsOnLine (c : Chronicle) (p : ℕ) (r : Replica) : Type 0 where
  pub conf : (attempt_at c r.held.prim.index).conf ≡ conf_at (phase_of c.world.group p)
  pub member : has (attempt_at c r.held.prim.index).set p ≡ true
  pub greens : IsHandedGreen c p (attempt_at c r.held.prim.index) r.state

abbrev pub PrimaryGreens : Chronicle → Type 0
PrimaryGreens c = (p : ℕ) → IfSome (replica_of c.world p) (λ r. When (is_primary r.state) (IsOnLine c p r))

-- who has installed an attempt has its installation green, and no more behind it than every member has received
abbrev pub InstalledCount : Chronicle → Type 0
InstalledCount c =
    (conf p : ℕ) → IfSome (attempt_of c conf) (λ a. When (has_installed a p)
    ((length (installation a) ≤ count_in c a p)
    × (count_in c a p ≤ length (installation a)
    + length (acts_in (take (received_by_all c conf) (ordered_in c conf))))))

-- what can become green at a level is the front of what the next one installs
abbrev pub Spine : Chronicle → Type 0
Spine c = (level : ℕ) → level < top_of c → Front (reach_at c level) (installation (attempt_at c (suc level)))
    × (is_frozen c level ≡ true)

-- all greens are a front of the newest level's line, and no more than some member of it really has
abbrev pub OneOrder : Chronicle → Type 0
OneOrder c = OfCores c (λ h greens. Front greens (line_at c (top_of c)) × (length greens ≤ reached_at c (top_of c)))

-- what can become green at a level is the front of these names, and no member can reach further any more
abbrev pub CoversLevel : Chronicle → ℕ → List ActionId → Type 0
CoversLevel c level names = (is_frozen c level ≡ true) × Front (names_of (reach_at c level)) names

abbrev pub Covers : Chronicle → List ActionId → Type 0
Covers c names = CoversLevel c (top_of c) names

abbrev pub CoversAsYellow : Chronicle → Held → List Action → State → Type 0
CoversAsYellow c h greens TransPrim = CoversLevel c h.prim.index (names_of greens ++ h.queue.yellow)
CoversAsYellow c h greens _ = Unit {0}

-- a member in its transitional configuration covers its level
abbrev pub TransCoverage : Chronicle → Type 0
TransCoverage c = (p : ℕ) → IfSome (replica_of c.world p) (λ r. CoversAsYellow c r.held (greens_of c p) r.state)

-- evidence covers the newest level: of a replica, of a summary, and of an attempt from that level
pub record Coverage (c : Chronicle) : Type 0 where
  pub cores : OfCores
      c (λ h greens. When (is_evidence c h.id h.prim.index h.yellow_valid h.vulnerable) (Covers
      c (names_with greens h.yellow_valid h.queue.yellow)))
  pub told : (conf p : ℕ) → IfSome (told_in c conf p) (λ t. (let s = t.summary in
      When (is_evidence c p s.prim.index s.yellow.valid s.vulnerable) (Covers
      c (names_with t.greens s.yellow.valid s.yellow.list))))
  pub attempts : (conf : ℕ) → IfSome (attempt_of c conf) (λ a. a.from ≡ top_of c →
      Covers c (names_of (a.greens ++ a.yellow)))

pub record GreenFacts (c : Chronicle) : Type 0 where
  pub begins_with : BeginsWith c
  pub primary_greens : PrimaryGreens c
  pub installed_count : InstalledCount c
  pub spine : Spine c
  pub one_order : OneOrder c
  pub trans_coverage : TransCoverage c
  pub coverage : Coverage c

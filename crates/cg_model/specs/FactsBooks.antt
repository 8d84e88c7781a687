-- Facts about what was printed, at the end of each step; what a disk has still to show; and what a small step never takes back.
use Rattle.std.specs.Prelude.{◌≡◌, ℕ, ◌≤◌, nat_le, List, ◌++◌, Option, Some, None, length, IsTrue, IfSome}
use Rattle.std.specs.List.{list_all}
use Rattle.cg_base.specs.declared.action_id.ActionId.{ActionId}
use Rattle.cg_base.specs.Cuts.{index_in}
use Rattle.cg_base.specs.Sets.{is_within}
use Rattle.cg_action.specs.declared.action.Action.{Action}
use Rattle.cg_queue.specs.Queue.{names_of}
use Rattle.cg_wire.specs.declared.message.Msg.{Msg}
use Rattle.cg_base.specs.Lists.{Each}
use Rattle.cg_group.specs.State.{configuration, unordered_of}
use Rattle.cg_client.specs.Replica.{Held, created}
use Rattle.cg_disk_records.specs.Holds.{Rising}
use Rattle.cg_model.specs.Recorded.{OfMessage}
use Rattle.cg_model.specs.World.{NodeState, Up, Down, Node, World, replica_of, node_of}
use Rattle.cg_model.specs.Chronicle.{Attempt, Chronicle}
use Rattle.cg_model.specs.Fronts.{Front, IsSomeWith}
use Rattle.cg_model.specs.Looks.{greens_of, stood_of, core_of, told_in, members_in, attempt_of, top_of, snapshot_of, copied_for}
use Rattle.cg_model.specs.Talk.{is_full}
use Rattle.cg_model.specs.Levels.{line_at, reached_at, reach_at, is_frozen}
use Rattle.cg_model.specs.FactsTalk.{whole_talk}

-- the printed order is a front of the newest level's line, and goes as far as any replica that is up; no summary and no
-- snapshot goes further; and no action stands in it before it was shown as made
pub record OrderBook (c : Chronicle) : Type 0 where
  pub line : Front c.world.order (names_of (line_at c (top_of c)))
  pub reached : length c.world.order ≤ reached_at c (top_of c)
  pub up : (p : ℕ) → IfSome (replica_of c.world p) (λ r. Front (names_of (greens_of c p)) c.world.order)
  pub told : (conf p : ℕ) → IfSome (told_in c conf p) (λ t. t.summary.green_count ≤ length c.world.order)
  pub copied : (joiner : ℕ) → IfSome (snapshot_of c.world joiner) (λ s.
      (length (copied_for c joiner) ≤ length c.world.order) × Front (copied_for c joiner) (greens_of c s.giver))
  pub made : IsTrue (list_all (λ id. nat_le id.index (index_in c.world.made id.creator)) c.world.order)

-- what was shown as made was created, and all that a replica that is up has created
pub record MadeBook (c : Chronicle) : Type 0 where
  pub begun : (p : ℕ) → IfSome (core_of c p) (λ h. index_in c.world.made p ≤ created h)
  pub up : (p : ℕ) → IfSome (replica_of c.world p) (λ r. index_in c.world.made p ≡ created r.held)

-- ---- what a disk has still to show

-- so many actions of a replica were shown as made: all that it has created, where it is up; no more than it has on its disk and no fewer
-- than its greens there, where it is down; and none before it has begun
abbrev pub LifeMade : ℕ → ℕ → NodeState → Type 0
LifeMade n p (Up r disk) = n ≡ created r.held
LifeMade n p (Down disk green) = (n ≤ created disk.content) × (index_in disk.content.queue.green_cut p ≤ n)

abbrev pub NodeMade : ℕ → ℕ → Option Node → Type 0
NodeMade n p None = n ≡ 0
NodeMade n p (Some s) = LifeMade n p s.life

pub record MadeFits (w : World) : Type 0 where
  pub rising : Rising 0 w.made
  pub nodes : (p : ℕ) → NodeMade (index_in w.made p) p (node_of w p)

-- of a replica that is down: the names that its recovery will show are the last of its greens, and those before stand in the order
pub record IsToShow (order green greens : List ActionId) : Type 0 where
  pub shown : List ActionId
  pub all : greens ≡ shown ++ green
  pub there : Front shown order

abbrev pub LifeToShow : List ActionId → List ActionId → NodeState → Type 0
LifeToShow order greens (Up r disk) = Unit {0}
LifeToShow order greens (Down disk green) = IsToShow order green greens

abbrev pub NodeToShow : List ActionId → List ActionId → Option Node → Type 0
NodeToShow order greens None = Unit {0}
NodeToShow order greens (Some s) = LifeToShow order greens s.life

abbrev pub LifeIsDown : NodeState → Type 0
LifeIsDown (Up r disk) = ⊥
LifeIsDown (Down disk green) = Unit {0}

abbrev pub NodeIsDown : Option Node → Type 0
NodeIsDown None = ⊥
NodeIsDown (Some s) = LifeIsDown s.life

-- it holds of all that is held
pub record HoldsFine (Fine : Action → Type 0) (h : Held) : Type 0 where
  pub greens : Each Fine h.queue.greens
  pub reds : Each Fine h.queue.reds
  pub own : Each Fine h.own

module _ (p n : ℕ) where
  -- the name is of no action of the replica above that one
  abbrev pub IsNameShown : ActionId → Type 0
  IsNameShown id = id.creator ≡ p → id.index ≤ n

  abbrev pub IsActionShown : Action → Type 0
  IsActionShown a = IsNameShown a.id

  abbrev pub IsMessageShown : Msg → Type 0
  IsMessageShown m = OfMessage IsActionShown m

  abbrev pub LifeShown : NodeState → Type 0
  LifeShown (Up r disk) = HoldsFine IsActionShown r.held × HoldsFine IsActionShown disk.content
  LifeShown (Down disk green) = HoldsFine IsActionShown disk.content × Each IsNameShown green

  abbrev pub NodeShown : Option Node → Type 0
  NodeShown None = Unit {0}
  NodeShown (Some s) = LifeShown s.life

  -- so many of its actions were shown as made, and no other replica, no message and no place of the order has one above these
  pub record AreShown (w : World) : Type 0 where
    pub rising : Rising 0 w.made
    pub low : n ≤ index_in w.made p
    pub nodes : (q : ℕ) → (q ≡ p → ⊥) → NodeShown (node_of w q)
    pub group : ((conf : ℕ) → Each (λ s. IsMessageShown s.message) (configuration w.group conf).ordered)
        × ((q : ℕ) → Each IsMessageShown (unordered_of w.group q))
    pub order : Each IsNameShown w.order

-- an action that a replica left on its disk as it went down, and that wasn't shown as made, nobody else has
pub record KeepsUnshown (w : World) (p : ℕ) : Type 0 where
  pub shown : ℕ
  pub are : AreShown p shown w

-- the order beside a chronicle, what replicas that are down will add to it, and that nobody else has what they didn't show
pub record OrderFits (c : Chronicle) (w : World) : Type 0 where
  pub book : OrderBook (record c { world = w })
  pub down : (p : ℕ) → NodeToShow w.order (names_of (stood_of c p)) (node_of w p)
  pub others : (p : ℕ) → NodeIsDown (node_of w p) → KeepsUnshown w p

-- ---- what is never taken back

-- Of a small step: greens, indexes and attempts are never fewer; what was told stays; and what can become green at a level
-- that is frozen is never more.
pub record HasGrown (a b : Attempt) : Type 0 where
  pub entered : IsTrue (is_within a.entered b.entered)
  pub installed : IsTrue (is_within a.installed b.installed)
  pub same : (b.from ≡ a.from) × (b.set ≡ a.set) × (b.greens ≡ a.greens) × (b.yellow ≡ a.yellow) × (b.reds ≡ a.reds)

pub record ListsGrow (c d : Chronicle) : Type 0 where
  pub greens : (p : ℕ) → Front (greens_of c p) (greens_of d p)
  pub index : (p : ℕ) →
      IfSome (core_of c p) (λ h. IsSomeWith (core_of d p) (λ k. (h.prim.index ≤ k.prim.index)
      × (created h ≤ created k)))
  pub told : (conf p : ℕ) → IfSome (told_in c conf p) (λ t. told_in d conf p ≡ Some t)
  pub heard : (conf : ℕ) → IsTrue (is_full (members_in c conf) (whole_talk c conf)) →
      (whole_talk d conf).heard ≡ (whole_talk c conf).heard
  pub attempts : (conf : ℕ) → IfSome (attempt_of c conf) (λ a. IsSomeWith (attempt_of d conf) (HasGrown a))
  pub levels : Front c.levels d.levels
  pub reached : (level : ℕ) → level ≤ top_of c → reached_at c level ≤ reached_at d level
  pub reach : (level : ℕ) → level ≤ top_of c → IsTrue (is_frozen d level) → Front (reach_at d level) (reach_at c level)

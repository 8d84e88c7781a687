-- How the actions of a queue are kept, and what is seen of them.
use Rattle.std.specs.Prelude.{◌≡◌, ℕ, zero, suc, ◌+◌, ◌-◌, ◌≤◌, ◌<◌, ◌==◌, nat_lt, Bool, true, false, List, [], ◌∷◌, ◌++◌, length, Option, Some, None, filter, fold, drop, map, if◌then◌else◌}
use Rattle.cg_base.specs.declared.limits.TheConstants.{COUNT_LIMIT}
use Rattle.cg_base.specs.declared.action_id.ActionId.{ActionId}
use Rattle.cg_base.specs.Ids.{has_name}
use Rattle.cg_base.specs.Sets.{IsId}
use Rattle.cg_base.specs.Cuts.{index_in, raise}
use Rattle.cg_base.specs.CutLimits.{IsCut}
use Rattle.cg_base.specs.Choice.{Either}
use Rattle.cg_action.specs.declared.action.Action.{Action}
use Rattle.cg_queue.specs.declared.red.Red.{Red}
use Rattle.cg_queue.specs.declared.body.Body.{Body}
use Rattle.cg_queue.specs.Lanes.{rows_of, with_lane, marked_at}
use Rattle.cg_queue.specs.Queue.{QueueView}
use Rattle.cg_queue.specs.Distinct.{is_distinct}

-- the fields of a body as lists
pub record Parts : Type 0 where
  pub white : ℕ
  pub greens : List Action
  pub green_cut : List ActionId
  pub red_cut : List ActionId
  pub reds : ℕ → List Red
  pub positions : ℕ → List ℕ
  pub yellow : List ActionId

abbrev pub parts_of : Body → Parts
parts_of b =
    record {
      white = b.white;
      greens = b.greens.items;
      green_cut = b.green_cut;
      red_cut = b.red_cut;
      reds = rows_of b.reds;
      positions = rows_of b.positions;
      yellow = b.yellow.items;
    }

-- no action is known, and those that the cut counts were discarded
abbrev pub no_parts : ℕ → List ActionId → Parts
no_parts white cut = record {
  white = white;
  greens = [];
  green_cut = cut;
  red_cut = cut;
  reds = λ slot. [];
  positions = λ slot. [];
  yellow = [];
}

-- ---- what is seen

abbrev pub actions_in : List Red → List Action
actions_in reds = map (λ r. r.action) reds

-- the actions at so many slots from the first on
unfoldable pub reds_from : (ℕ → List Red) → ℕ → ℕ → List Action
reds_from lanes zero first = []
reds_from lanes (suc count) first = actions_in (lanes first) ++ reds_from lanes count (suc first)

unfoldable pub all_reds : (ℕ → List Red) → List Action
all_reds lanes = reds_from lanes 32 0

-- the name is one behind the cut
abbrev pub is_above : List ActionId → ActionId → Bool
is_above cut id = nat_lt (index_in cut id.creator) id.index

abbrev pub seen : Parts → QueueView
seen b =
    record {
      white = b.white;
      greens = b.greens;
      green_cut = b.green_cut;
      red_cut = b.red_cut;
      reds = all_reds b.reds;
      yellow = filter (is_above b.green_cut) b.yellow;
    }

-- ---- what is always so

-- a stretch of a creator: the actions are its own, and their indexes count up from the given one
abbrev pub Stretch : ℕ → ℕ → List Red → Type 0
Stretch creator from [] = Unit {0}
Stretch creator from (r ∷ reds) = (r.action.id.creator ≡ creator) × (r.action.id.index ≡ from)
    × Stretch creator (suc from) reds

-- among the actions the creator's indexes count up to the last one
abbrev pub Follows : ℕ → ℕ → ℕ → List Action → Type 0
Follows creator from last [] = from ≡ suc last
Follows creator from last (a ∷ greens) =
    Either (a.id.creator == creator) ((a.id.index ≡ from)
    × Follows creator (suc from) last greens) (Follows creator from last greens)

-- where the creator's actions stand among those that begin at a position of the order
abbrev pub positions_of : ℕ → ℕ → List Action → List ℕ
positions_of creator position [] = []
positions_of creator position (a ∷ greens) =
    if a.id.creator == creator then position ∷ positions_of creator (suc position) greens
    else positions_of creator (suc position) greens

-- each flag says whether the action's name is in the list
abbrev pub Flagged : List ActionId → List Red → Type 0
Flagged yellow [] = Unit {0}
Flagged yellow (r ∷ reds) = (r.is_yellow ≡ has_name yellow r.action.id) × Flagged yellow reds

-- the flag of an action, on where there is none
abbrev pub flag_of : Option Red → Bool
flag_of None = true
flag_of (Some r) = r.is_yellow

-- a name by itself, or none where the flag is on
abbrev pub unless : Bool → ActionId → List ActionId
unless true id = []
unless false id = id ∷ []

-- each name is one of a known action
abbrev pub AreKnown : List ActionId → List ActionId → Type 0
AreKnown cut [] = Unit {0}
AreKnown cut (id ∷ ids) = (id.index ≤ index_in cut id.creator) × IsId id.creator × AreKnown cut ids

-- the row at a slot is that of the creator whose number is one more
pub record IsLane (b : Parts) (slot : ℕ) : Type 0 where
  pub first : ℕ
  pub greens : Follows (suc slot) first (index_in b.green_cut (suc slot)) b.greens
  pub positions : b.positions slot ≡ positions_of (suc slot) (suc b.white) b.greens
  pub reds : Stretch (suc slot) (suc (index_in b.green_cut (suc slot))) (b.reds slot)
  pub last : index_in b.green_cut (suc slot) + length (b.reds slot) ≡ index_in b.red_cut (suc slot)
  pub flags : Flagged b.yellow (b.reds slot)

pub record IsSound (b : Parts) : Type 0 where
  pub green : IsCut b.green_cut
  pub red : IsCut b.red_cut
  pub count : b.white + length b.greens ≤ COUNT_LIMIT
  pub lanes : (slot : ℕ) → slot < 32 → IsLane b slot
  pub yellow : AreKnown b.red_cut b.yellow
  pub distinct : is_distinct b.yellow ≡ true

-- ---- steps

-- the slot of a creator's row
abbrev pub lane_of : ActionId → ℕ
lane_of id = id.creator - 1

abbrev pub added_red : Parts → Action → Bool → Parts
added_red b a flag =
    record b {
      reds = with_lane b.reds (lane_of a.id) (b.reds (lane_of a.id) ++ record { action = a; is_yellow = flag } ∷ []);
      red_cut = raise b.red_cut a.id;
    }

abbrev pub with_name : Parts → ActionId → Parts
with_name b id = record b { yellow = b.yellow ++ id ∷ [] }

abbrev pub flagged : Parts → ℕ → ℕ → Parts
flagged b slot i = record b { reds = with_lane b.reds slot (marked_at (b.reds slot) i true) }

abbrev pub added_green : Parts → Action → Parts
added_green b a =
    record b {
      greens = b.greens ++ a ∷ [];
      positions = with_lane b.positions (lane_of a.id) (b.positions (lane_of a.id)
          ++ suc (b.white + length b.greens) ∷ []);
      reds = with_lane b.reds (lane_of a.id) (drop 1 (b.reds (lane_of a.id)));
      green_cut = raise b.green_cut a.id;
      red_cut = raise b.red_cut a.id;
    }

-- a creator's next action is green, and no more in its row of reds
abbrev pub settled : Parts → ActionId → ℕ → Parts
settled b id slot =
    record b {
      reds = with_lane b.reds slot (drop 1 (b.reds slot));
      green_cut = raise b.green_cut id;
      red_cut = raise b.red_cut id;
    }

-- without the names that have become green
abbrev pub cleared : Parts → Parts
cleared b = record b { yellow = filter (is_above b.green_cut) b.yellow }

abbrev pub dropped_from : Parts → List Action → Parts
dropped_from b [] = b
dropped_from b (a ∷ rest) =
    record b {
      white = suc b.white;
      greens = rest;
      positions = with_lane b.positions (lane_of a.id) (drop 1 (b.positions (lane_of a.id)));
    }

-- the first of the actions, if there is one, is a replica's
abbrev pub BeginsWell : List Action → Type 0
BeginsWell [] = Unit {0}
BeginsWell (a ∷ greens) = IsId a.id.creator

-- without the first green
abbrev pub dropped : Parts → Parts
dropped b = dropped_from b b.greens

-- the flag of a name, where it is one behind the cut
abbrev pub flag_name : List ActionId → Bool → (ℕ → List Red) → ActionId → ℕ → List Red
flag_name cut flag lanes id =
    if is_above cut id
    then with_lane
    lanes (lane_of id) (marked_at (lanes (lane_of id)) (id.index - suc (index_in cut id.creator)) flag) else lanes

-- another yellow list
abbrev pub renamed : Parts → List ActionId → Parts
renamed b list =
    record b {
      yellow = list;
      reds = fold (flag_name b.green_cut true) (fold (flag_name b.green_cut false) b.reds b.yellow) list;
    }

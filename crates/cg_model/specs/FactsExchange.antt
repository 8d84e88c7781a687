-- Facts about summaries, also those whose senders have gone on, and about what each member holds in the midst of an exchange.
use Rattle.std.specs.Prelude.{◌≡◌, ℕ, ◌+◌, ◌-◌, ◌≤◌, ◌<◌, min, max, true, false, List, [], ◌∷◌, Option, Some, None, map, filter, take, length, ◌==◌, nat_lt, nat_le, IsTrue, IfSome, option_and_then, if◌then◌else◌}
use Rattle.std.specs.Option.{option_map_or}
use Rattle.std.specs.List.{list_all}
use Rattle.cg_base.specs.declared.weighted.Weighted.{Weighted}
use Rattle.cg_base.specs.Cuts.{index_in}
use Rattle.cg_base.specs.Lists.{greatest}
use Rattle.cg_base.specs.Sets.{has, is_within}
use Rattle.cg_base.specs.Choice.{Either}
use Rattle.cg_action.specs.declared.action.Action.{Action}
use Rattle.cg_members.specs.Servers.{members_of, was_ever, starting}
use Rattle.cg_queue.specs.Queue.{names_of}
use Rattle.cg_records.specs.declared.vulnerable.Vulnerable.{Vulnerable}
use Rattle.cg_knowledge.specs.declared.summary.Summary.{Summary}
use Rattle.cg_knowledge.specs.Summaries.{gone, most_updated}
use Rattle.cg_knowledge.specs.Primary.{known_primary}
use Rattle.cg_knowledge.specs.Yellow.{common_yellow}
use Rattle.cg_knowledge.specs.Vulnerable.{decided}
use Rattle.cg_plan.specs.Plan.{least_greens, plan_of}
use Rattle.cg_plan.specs.Items.{items_of_plan}
use Rattle.cg_plan.specs.declared.parts.Item.{Item}
use Rattle.cg_plan.specs.declared.parts.Item.TheVariants.{Red}
use Rattle.cg_client.specs.Replica.{Held, State, RegPrim, TransPrim, ExchangeStates, ExchangeActions, NonPrim, Left, Replica, yellow_of, created}
use Rattle.cg_model.specs.World.{replica_of}
use Rattle.cg_model.specs.Chronicle.{Told, Attempt, Chronicle}
use Rattle.cg_model.specs.Fronts.{Front, When, IsSomeWith}
use Rattle.cg_model.specs.Looks.{greens_of, core_of, ordered_in, told_in, is_in, is_regular_in, attempt_of, attempt_at, installation}
use Rattle.cg_model.specs.Levels.{prim_at}
use Rattle.cg_model.specs.FactsTalk.{handed_talk}
use Rattle.cg_model.specs.FactsReplica.{join_from}
use Rattle.cg_disk_records.specs.Holds.{run_on, cut_behind}

-- ---- what a summary says

-- the record is of an attempt that was entered in an earlier configuration, and its bits are members that entered it
abbrev pub IsRecord : Attempt → Vulnerable → Type 0
IsRecord a v = (v.from ≡ a.from) × (v.set ≡ a.set) × (is_within v.bits a.entered ≡ true)

abbrev pub HasRecord : Chronicle → ℕ → ℕ → Option Vulnerable → Type 0
HasRecord c p index None = Unit {0}
HasRecord c p index (Some v) =
    (has v.bits p ≡ true) × (v.from ≤ index) × IsSomeWith (attempt_of c v.attempt) (λ a. IsRecord a v)

-- a summary fits the greens that its sender had
pub record IsSummary (c : Chronicle) (t : Told) : Type 0 where
  pub count : t.summary.green_count ≡ length t.greens
  pub green_cut : t.summary.green_cut ≡ cut_behind [] (names_of t.greens)
  pub left : t.summary.left ≡ (members_of c.start t.greens).left
  pub red_cut : (creator : ℕ) → index_in t.summary.green_cut creator ≤ index_in t.summary.red_cut creator
  pub yellow_next : IsTrue (run_on t.summary.green_cut t.summary.yellow.list)
  pub yellow_known : IsTrue (list_all (λ id. nat_le id.index (index_in t.summary.red_cut id.creator))
      t.summary.yellow.list)

-- what it says of primary components: its index is a level whose installation it begins with, and all is of earlier
-- configurations
pub record KnowsLevels (c : Chronicle) (t : Told) : Type 0 where
  pub level : t.summary.prim.index ≤ length c.levels
  pub prim : t.summary.prim ≡ prim_at c t.summary.prim.index
  pub earlier : t.summary.prim.conf < t.summary.conf
  pub begins : Front (installation (attempt_at c t.summary.prim.index)) t.greens
  pub has_record : HasRecord c t.summary.id t.summary.prim.index t.summary.vulnerable
  pub record_earlier : option_map_or (λ v. v.attempt) t.summary.vulnerable 0 < t.summary.conf

-- its sender has all of that still
pub record IsOutdone (c : Chronicle) (t : Told) (h : Held) : Type 0 where
  pub greens : Front t.greens (greens_of c t.summary.id)
  pub index : t.summary.prim.index ≤ h.prim.index
  pub created : index_in t.summary.red_cut t.summary.id ≤ created h

-- in these states nothing is created
abbrev pub HasMadeNothing : Told → Held → State → Type 0
HasMadeNothing t h RegPrim = Unit {0}
HasMadeNothing t h TransPrim = Unit {0}
HasMadeNothing t h (NonPrim regular) = Unit {0}
HasMadeNothing t h _ = created h ≡ index_in t.summary.red_cut t.summary.id

-- and while it is in the configuration it knows all that it knew
pub record KnowsAsMuch (t : Told) (r : Replica) : Type 0 where
  pub red : (creator : ℕ) → index_in t.summary.red_cut creator ≤ index_in r.held.queue.red_cut creator
  pub made : HasMadeNothing t r.held r.state

pub record SummaryOfSender (c : Chronicle) : Type 0 where
  pub fits : (conf p : ℕ) → IfSome (told_in c conf p) (IsSummary c)
  pub levels : (conf p : ℕ) → IfSome (told_in c conf p) (KnowsLevels c)
  pub outdone : (conf p : ℕ) → IfSome (told_in c conf p) (λ t. IfSome (core_of c p) (IsOutdone c t))
  pub inside : (conf p : ℕ) → IsTrue (is_in c conf p) →
      IfSome (told_in c conf p) (λ t. IfSome (replica_of c.world p) (KnowsAsMuch t))

-- the actions of one member among the greens of another have green lines that the first had reached
abbrev pub AreReached : ℕ → ℕ → List Action → Type 0
AreReached p count [] = Unit {0}
AreReached p count (a ∷ greens) = When (a.id.creator == p) (a.green_line ≤ count) × AreReached p count greens

-- and so has its join, where it is no server of the start
pub record HasReached (start : List Weighted) (by of : Told) : Type 0 where
  pub lines : AreReached of.summary.id of.summary.green_count by.greens
  pub joined : was_ever (starting start) of.summary.id ≡ false →
      join_from 0 by.greens of.summary.id ≤ of.summary.green_count

abbrev pub SummaryLines : Chronicle → Type 0
SummaryLines c = (conf p q : ℕ) → IfSome (told_in c conf p) (λ by. IfSome (told_in c conf q) (HasReached c.start by))

-- who told something in a configuration in which nothing has a place yet, and in no later one, has the greens that it told
abbrev pub TellersStill : Chronicle → Type 0
TellersStill c =
    (conf p : ℕ) (t : Told) → told_in c conf p ≡ Some t → ordered_in c conf ≡ [] →
    ((later : ℕ) → conf < later → told_in c later p ≡ None) →
    greens_of c p ≡ t.greens

-- ---- what is held in the midst of an exchange

-- what stands of a summary is still held
pub record HoldsStill (t : Told) (h : Held) : Type 0 where
  pub prim : h.prim ≡ t.summary.prim
  pub attempt_index : h.attempt_index ≡ t.summary.attempt_index
  pub vulnerable : h.vulnerable ≡ t.summary.vulnerable
  pub yellow_valid : h.yellow_valid ≡ t.summary.yellow.valid

-- nothing has changed since
pub record IsUnmoved (t : Told) (h : Held) (all : List Action) : Type 0 where
  pub holds : HoldsStill t h
  pub yellow : h.queue.yellow ≡ t.summary.yellow.list
  pub greens : all ≡ t.greens
  pub red_cut : h.queue.red_cut ≡ t.summary.red_cut

-- so many greens each remaining member has behind so many items of the plan
abbrev pub greens_behind : List Summary → ℕ → Summary → Summary → ℕ
greens_behind heard accepted best mine =
    let low = option_map_or (λ n. n) (least_greens heard) 0 in
    max mine.green_count (low + min accepted (best.green_count - low))

-- the last index of a creator among red items
abbrev pub red_index : ℕ → Item → ℕ
red_index creator (Red id) = if id.creator == creator then id.index else 0
red_index creator _ = 0

abbrev pub red_behind : List Summary → ℕ → ℕ → ℕ
red_behind heard accepted creator =
    greatest (map (λ s. red_index creator s.item) (take accepted (items_of_plan (plan_of heard))))

-- what a remaining member holds behind so many items: the greens are those of the most updated member as it came
pub record IsGoingOn (heard : List Summary) (accepted : ℕ) (best mine : Told) (h : Held)
    (all : List Action) : Type 0 where
  pub holds : HoldsStill mine h
  pub greens : all ≡ take (greens_behind heard accepted best.summary mine.summary) best.greens
  pub red : (creator : ℕ) → index_in h.queue.red_cut creator
      ≡ max (index_in mine.summary.red_cut creator)
      (max (index_in h.queue.green_cut creator) (red_behind heard accepted creator))
  pub yellow : h.queue.yellow ≡ filter (λ id. nat_lt (index_in h.queue.green_cut id.creator) id.index)
      mine.summary.yellow.list

-- what it has taken over where the plan has come to its end without a quorum
pub record HasTakenOver (heard : List Summary) (best mine : Told) (h : Held) (all : List Action) : Type 0 where
  pub greens : all ≡ best.greens
  pub prim : h.prim ≡ known_primary heard
  pub yellow : yellow_of h ≡ common_yellow heard
  pub vulnerable : h.vulnerable ≡ decided heard mine.summary.vulnerable

-- what the most updated of the members told
abbrev pub best_told : Chronicle → ℕ → List Summary → Option Told
best_told c conf heard = option_and_then (λ s. told_in c conf s.id) (most_updated heard)

abbrev pub IsInExchange : Chronicle → ℕ → Told → Held → List Action → State → Type 0
IsInExchange c conf t h greens (ExchangeStates at set heard) = IsUnmoved t h greens
IsInExchange c conf t h greens Left = IsUnmoved t h greens
IsInExchange c conf t h greens (ExchangeActions at heard accepted) =
    Either (has (gone heard) h.id) (IsUnmoved t h greens)
    (IsSomeWith (best_told c conf heard) (λ best. IsGoingOn heard accepted best t h greens))
IsInExchange c conf t h greens (NonPrim regular) =
    (let heard = (handed_talk c conf h.id).heard in
    IsSomeWith (best_told c conf heard) (λ best. HasTakenOver heard best t h greens))
IsInExchange c conf t h greens _ = Unit {0}

abbrev pub ExchangeProgress : Chronicle → Type 0
ExchangeProgress c =
    (conf p : ℕ) → IsTrue (is_regular_in c conf p) →
    IfSome (replica_of c.world p) (λ r. IsSomeWith (told_in c conf p) (λ t. IsInExchange c conf t
    r.held (greens_of c p) r.state))

pub record ExchangeFacts (c : Chronicle) : Type 0 where
  pub summary_of_sender : SummaryOfSender c
  pub summary_lines : SummaryLines c
  pub tellers_still : TellersStill c
  pub exchange_progress : ExchangeProgress c

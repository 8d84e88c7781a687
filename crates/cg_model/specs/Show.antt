-- What a step shows.
use Rattle.std.specs.Prelude.{ℕ, suc, ◌+◌, ◌-◌, ◌==◌, nat_lt, Bool, false, not, ◌&&◌, List, [], ◌∷◌, ◌++◌, find, filter, map, fold, drop, length, option_map, if◌then◌else◌}
use Rattle.std.specs.Option.{option_map_or}
use Rattle.cg_base.specs.declared.action_id.ActionId.{ActionId}
use Rattle.cg_base.specs.Ids.{same_id}
use Rattle.cg_base.specs.Cuts.{index_in, raise}
use Rattle.cg_action.specs.declared.action.Action.{Action}
use Rattle.cg_queue.specs.Queue.{green_count, names_of}
use Rattle.cg_wire.specs.declared.message.Msg.{Msg}
use Rattle.cg_group.specs.declared.phase.Phase.{Phase}
use Rattle.cg_group.specs.declared.phase.Phase.TheVariants.{Regular, Transitional}
use Rattle.cg_group.specs.State.{GroupState, phase_of}
use Rattle.cg_client.specs.Replica.{Held, Replica}
use Rattle.cg_client.specs.Turn.{Turn}
use Rattle.cg_client.specs.Queries.{state_name, view_of}
use Rattle.cg_report.specs.declared.entry.Made.{Made}
use Rattle.cg_report.specs.declared.entry.Placed.{Placed}
use Rattle.cg_report.specs.declared.entry.Reply.{Reply}
use Rattle.cg_report.specs.declared.entry.Shown.{Shown}
use Rattle.cg_report.specs.declared.entry.Entry.{Entry}
use Rattle.cg_report.specs.declared.line.ShownPhase.{ShownPhase}
use Rattle.cg_report.specs.declared.line.ShownPhase.TheVariants.{Alone as ShownAlone, Regular as ShownRegular, Transitional as ShownTransitional}
use Rattle.cg_report.specs.declared.line.UpLine.{UpLine}
use Rattle.cg_report.specs.declared.line.Line.{Line}
use Rattle.cg_report.specs.contracts.line.LinePartialEq.TheImpl.{ghosts as line}
use Rattle.cg_model.specs.World.{Node, World, running}

-- a reply, with the place of its action in the global order
pub record Answered : Type 0 where
  pub place : ℕ
  pub reply : Reply

-- a step under way: the world so far, and what is to be shown of it but for the lines
pub record StepInProgress : Type 0 where
  pub world : World
  pub made : List Made
  pub orders : List Placed
  pub replies : List Answered
  pub shown : List Shown

-- ---- how far a replica has come

-- what came of an event at a replica: the actions that are made, the names that became green at it, the number of its
-- greens with these, and the replies that it gives
pub record EventEffects : Type 0 where
  pub made : List Action
  pub green : List ActionId
  pub count : ℕ
  pub replies : List Reply

-- of a turn
abbrev pub news_of : Turn → EventEffects
news_of t = record { made = t.made; green = t.green; count = green_count t.replica.held.queue; replies = t.replies }

-- the replica's own red actions that weren't shown as made
abbrev pub unshown : List ActionId → Held → List Action
unshown made h = filter (λ a. (a.id.creator == h.id) && nat_lt (index_in made h.id) a.id.index) h.queue.reds

-- of a recovery, from the names that were newly green as the replica went down
abbrev pub news_of_recovery : List ActionId → Held → List ActionId → EventEffects
news_of_recovery made h green = record {
  made = unshown made h;
  green = green;
  count = green_count h.queue;
  replies = [];
}

-- of names that end at a place of the order, those that it doesn't have yet
abbrev pub beyond : List ActionId → List ActionId → ℕ → List ActionId
beyond order green count = drop (length order + length green - count) green

-- the places of these actions in the order, behind so many
abbrev pub placed_from : ℕ → List ActionId → List Placed
placed_from n [] = []
placed_from n (id ∷ ids) = record { place = suc n; id = id } ∷ placed_from (suc n) ids

-- the replies with their places, to some of these names, the first of which has the place behind so many
abbrev pub answered_from : ℕ → List ActionId → List Reply → List Answered
answered_from n (id ∷ ids) (r ∷ replies) =
    let here = same_id id r.id in
    (if here then record { place = suc n; reply = r } ∷ [] else [])
    ++ answered_from (suc n) ids (if here then replies else r ∷ replies)
answered_from n ids replies = []

-- the replies with one more among them, ascending by place
abbrev pub with_answered : List Answered → Answered → List Answered
with_answered [] new = new ∷ []
with_answered (r ∷ replies) new = if nat_lt new.place r.place then new ∷ r ∷ replies else r ∷ with_answered replies new

-- what came of an event at a replica is to be shown: the actions made, the places that the order gained, and the replies
abbrev pub tell : StepInProgress → EventEffects → StepInProgress
tell g n =
    record g {
      world = record g.world {
        order = g.world.order ++ beyond g.world.order n.green n.count;
        made = fold raise g.world.made (names_of n.made);
      };
      made = g.made ++ map (λ a. record { id = a.id; kind = a.kind }) n.made;
      orders = g.orders ++ placed_from (length g.world.order) (beyond g.world.order n.green n.count);
      replies = fold with_answered g.replies (answered_from (n.count - length n.green) n.green n.replies);
    }

-- ---- lines

-- a phase as a line shows it
abbrev pub shown_phase : Phase → ShownPhase
shown_phase (Regular conf) = ShownRegular conf
shown_phase (Transitional conf set) = ShownTransitional conf
shown_phase _ = ShownAlone

-- the line of a replica that is up, but for its identifier
abbrev pub up_line : Phase → Replica → UpLine
up_line phase r = record { state = state_name r.state; phase = shown_phase phase; view = view_of r.held }

-- the line of a replica
abbrev pub line_of : GroupState Msg → Node → Line
line_of g s = record { id = s.id; up = option_map (up_line (phase_of g s.id)) (running s.life) }

-- the line differs from the last one printed of its replica
abbrev pub is_news : List Line → Line → Bool
is_news lines l = not (option_map_or (line.eq l) (find (λ old. old.id == l.id) lines) false)

-- the last printed lines with a new one
abbrev pub with_printed : List Line → Line → List Line
with_printed [] new = new ∷ []
with_printed (l ∷ lines) new = if l.id == new.id then new ∷ lines else l ∷ with_printed lines new

-- ---- the end of a step

-- a step: what it shows, and the world after it
pub record Moved : Type 0 where
  pub entry : Entry
  pub world : World

-- the lines that differ from the last printed ones, ascending by replica
abbrev pub new_lines : World → List Line
new_lines w = filter (is_news w.lines) (map (line_of w.group) w.nodes)

-- a step ends, and these lines are printed
abbrev pub ended_with : StepInProgress → List Line → Moved
ended_with g lines = record {
  entry = record {
    made = g.made;
    orders = g.orders;
    lines = lines;
    replies = map (λ r. r.reply) g.replies;
    shown = g.shown;
  };
  world = record g.world { lines = fold with_printed g.world.lines lines };
}

-- a step ends, and its new lines are printed
unfoldable pub ended : StepInProgress → Moved
ended g = ended_with g (new_lines g.world)

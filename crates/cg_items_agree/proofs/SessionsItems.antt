-- One more item: what the items tell with it, beside what they told before.
use Rattle.std.proofs.Common.{◌≡◌, ◌||◌, ℕ, Bool, true, false, List, [], ◌∷◌, ◌++◌, map, flat_map, Option, Some, None, refl, ap, ◌∙◌, append-nil}
use Rattle.std.specs.Option.{option_map_or}
use Rattle.std.proofs.lemmas.List.{map-append}
use Rattle.cg_base.specs.declared.action_id.ActionId.{ActionId}
use Rattle.cg_base.specs.Lists.{present}
use Rattle.cg_report.specs.declared.entry.Reply.{Reply}
use Rattle.cg_model.specs.World.{no_world}
use Rattle.cg_report.specs.NoEntry.{no_entry}
use Rattle.cg_model.specs.Run.{Step, world_after}
use Rattle.cg_model.specs.Shown.{order_of, made_names}
use Rattle.cg_session_list.specs.declared.session_line.SessionLine.{SessionLine}
use Rattle.cg_items.specs.declared.companion.FurtherLine.TheVariants as line
use Rattle.cg_items.specs.AfterItems.{world_behind, order_behind}
use Rattle.cg_items.specs.Items.{Item, steps_of, entry_of}
use Rattle.cg_items.specs.Kept.{next_world}
use Rattle.cg_items.specs.SessionsAgree.{session_line, session_lines, session_event_of, opens, was_opened, replied_to}
use Rattle.cg_items_agree.proofs.SessionsBehind.{order-through, made-through}
use Rattle.cg_base.specs.ElementLaws.{flat-append, present-append}
use Rattle.cg_items.specs.ItemLaws.{steps-append}
use Rattle.cg_model.specs.RunLaws.{world-last}

-- ---- lines

pub lines-append : (a b : List Item) → session_lines (a ++ b) ≡ session_lines a ++ session_lines b
lines-append a b =
    ap (λ ls. present (map session_line ls)) (flat-append (λ (i : Item). i.lines) a b)
    ∙ ap present (map-append session_line (flat_map (λ i. i.lines) a) (flat_map (λ i. i.lines) b))
    ∙ present-append (map session_line (flat_map (λ i. i.lines) a)) (map session_line (flat_map (λ i. i.lines) b))

pub lines-one : (i : Item) → session_lines (i ∷ []) ≡ present (map session_line i.lines)
lines-one i = ap (λ ls. present (map session_line ls)) (append-nil i.lines)

pub plain-lines : (lines : List SessionLine) → present (map session_line (map line.Session lines)) ≡ lines
plain-lines [] = refl
plain-lines (l ∷ lines) = ap (λ ls. l ∷ ls) (plain-lines lines)

-- ---- openings and replies

pub opened-next : (s : ℕ) (earlier : List Item) (i : Item) → was_opened s (earlier ++ i ∷ []) ≡ (was_opened s earlier || opens s (session_event_of i))
opened-next s [] i = at (opens s (session_event_of i)) where
  at : (b : Bool) → (b || false) ≡ b
  at true = refl
  at false = refl
opened-next s (x ∷ earlier) i = at (opens s (session_event_of x)) (opened-next s earlier i) where
  at : (b : Bool) → was_opened s (earlier ++ i ∷ []) ≡ (was_opened s earlier || opens s (session_event_of i)) → (b || was_opened s (earlier ++ i ∷ [])) ≡ ((b || was_opened s earlier) || opens s (session_event_of i))
  at true rest = refl
  at false rest = rest

pub replied-next : (earlier : List Item) (i : Item) → replied_to (earlier ++ i ∷ []) ≡ replied_to earlier ++ map (λ r. r.id) (entry_of i).replies
replied-next earlier i =
    ap (map (λ (r : Reply). r.id)) (flat-append (λ (i : Item). (entry_of i).replies) earlier (i ∷ []) ∙ ap (λ rs. flat_map (λ (i : Item). (entry_of i).replies) earlier ++ rs) (append-nil (entry_of i).replies))
    ∙ map-append (λ (r : Reply). r.id) (flat_map (λ (i : Item). (entry_of i).replies) earlier) (entry_of i).replies

-- ---- steps

-- the order, the names of made actions, and the replies, with one more step where there is one
abbrev pub order_by : Option Step → List ActionId → List ActionId
order_by None order = order
order_by (Some s) order = order ++ map (λ o. o.id) s.entry.orders

abbrev pub made_by : Option Step → List ActionId → List ActionId
made_by None made = made
made_by (Some s) made = made ++ map (λ m. m.id) s.entry.made

abbrev pub replied_by : Option Step → List ActionId → List ActionId
replied_by None replied = replied
replied_by (Some s) replied = replied ++ map (λ r. r.id) s.entry.replies

pub order-next : (earlier : List Item) (i : Item) → order_behind (earlier ++ i ∷ []) ≡ order_by i.step (order_behind earlier)
order-next earlier i = ap order_of (steps-append earlier (i ∷ [])) ∙ at i.step where
  at : (o : Option Step) → order_of (steps_of earlier ++ present (o ∷ [])) ≡ order_by o (order_behind earlier)
  at None = ap order_of (append-nil (steps_of earlier))
  at (Some s) = order-through (steps_of earlier) s

pub made-next : (earlier : List Item) (i : Item) → made_names (steps_of (earlier ++ i ∷ [])) ≡ made_by i.step (made_names (steps_of earlier))
made-next earlier i = ap made_names (steps-append earlier (i ∷ [])) ∙ at i.step where
  at : (o : Option Step) → made_names (steps_of earlier ++ present (o ∷ [])) ≡ made_by o (made_names (steps_of earlier))
  at None = ap made_names (append-nil (steps_of earlier))
  at (Some s) = made-through (steps_of earlier) s

pub replies-next : (earlier : List Item) (i : Item) → replied_to (earlier ++ i ∷ []) ≡ replied_by i.step (replied_to earlier)
replies-next earlier i = replied-next earlier i ∙ at i.step where
  at : (o : Option Step) → replied_to earlier ++ map (λ r. r.id) (option_map_or (λ s. s.entry) o no_entry).replies ≡ replied_by o (replied_to earlier)
  at None = append-nil (replied_to earlier)
  at (Some s) = refl

pub world-next : (earlier : List Item) (i : Item) → world_behind (earlier ++ i ∷ []) ≡ next_world (world_behind earlier) i.step
world-next earlier i = ap (world_after no_world) (steps-append earlier (i ∷ [])) ∙ at i.step where
  at : (o : Option Step) → world_after no_world (steps_of earlier ++ present (o ∷ [])) ≡ next_world (world_behind earlier) o
  at None = ap (world_after no_world) (append-nil (steps_of earlier))
  at (Some s) = world-last no_world (steps_of earlier) s

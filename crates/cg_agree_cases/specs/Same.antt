-- When two values are one, as tests.
use Rattle.std.specs.Prelude.{ℕ, ◌==◌, Bool, true, false, ◌&&◌, List, [], ◌∷◌}
use Rattle.std.specs.Bool.{beq}
use Rattle.std.specs.Cmp.Lexicographic.{pointwise}
use Rattle.cg_base.specs.declared.action_id.ActionId.{ActionId}
use Rattle.cg_base.specs.Ids.{same_id}
use Rattle.cg_base.specs.Calls.{same_ids}
use Rattle.cg_text.specs.Order.{same_text}
use Rattle.cg_action.specs.declared.action.Action.{Action}
use Rattle.cg_action.specs.contracts.action.ActionPartialEq.TheImpl.{ghosts as action}
use Rattle.cg_action.specs.contracts.action.KindPartialEq.TheImpl.{ghosts as kind}
use Rattle.cg_action.specs.declared.entry.DbEntry.{DbEntry}
use Rattle.cg_action.specs.contracts.entry.DbEntryPartialEq.TheImpl.{ghosts as entry}
use Rattle.cg_members.specs.contracts.server.ServerPartialEq.TheImpl.{ghosts as server}
use Rattle.cg_members.specs.Members.{Members}
use Rattle.cg_queue.specs.Queue.{QueueView}
use Rattle.std.specs.Option.{option_eq}
use Rattle.cg_records.specs.contracts.primary.PrimaryPartialEq.TheImpl.{ghosts as primary}
use Rattle.cg_records.specs.contracts.vulnerable.VulnerablePartialEq.TheImpl.{ghosts as vulnerable}
use Rattle.cg_records.specs.contracts.yellow.YellowPartialEq.TheImpl.{ghosts as yellow}
use Rattle.cg_knowledge.specs.declared.summary.Summary.{Summary}
use Rattle.cg_client.specs.Replica.{Held, State, RegPrim, TransPrim, ExchangeStates, ExchangeActions, Construct, No, Un, NonPrim, Left, yellow_of}
use Rattle.cg_model.specs.Chronicle.{Leaving, Attempt}

-- the first list is the front of the second
abbrev pub is_front : {X : Type 0} → (X → X → Bool) → List X → List X → Bool
is_front same [] ys = true
is_front same (x ∷ xs) [] = false
is_front same (x ∷ xs) (y ∷ ys) = same x y && is_front same xs ys

abbrev pub same_numbers : List ℕ → List ℕ → Bool
same_numbers xs ys = same_text xs ys

-- ---- actions

abbrev pub same_action : Action → Action → Bool
same_action a b = action.eq a b

abbrev pub same_actions : List Action → List Action → Bool
same_actions xs ys = pointwise action.eq xs ys

abbrev pub front_actions : List Action → List Action → Bool
front_actions xs ys = is_front action.eq xs ys

abbrev pub front_ids : List ActionId → List ActionId → Bool
front_ids xs ys = is_front same_id xs ys

-- ---- what a replica holds and tells

abbrev pub same_databases : List DbEntry → List DbEntry → Bool
same_databases xs ys = pointwise entry.eq xs ys

abbrev pub same_members : Members → Members → Bool
same_members m n = pointwise server.eq m.servers n.servers && same_numbers m.left n.left

abbrev same_queue : QueueView → QueueView → Bool
same_queue q k =
    (q.white == k.white) && same_actions q.greens k.greens && same_ids q.green_cut k.green_cut
    && same_ids q.red_cut k.red_cut
    && same_actions q.reds k.reds && same_ids q.yellow k.yellow

abbrev pub same_held : Held → Held → Bool
same_held h k =
    (h.id == k.id) && same_queue h.queue k.queue && yellow.eq (yellow_of h) (yellow_of k) && same_actions h.own k.own
    && same_databases h.db k.db && same_members h.members k.members && primary.eq h.prim k.prim
    && (h.attempt_index == k.attempt_index) && option_eq vulnerable.eq h.vulnerable k.vulnerable
    && pointwise kind.eq h.buffered k.buffered && same_ids h.owed k.owed

abbrev pub same_summary : Summary → Summary → Bool
same_summary s t =
    (s.id == t.id) && (s.conf == t.conf) && primary.eq s.prim t.prim && (s.attempt_index == t.attempt_index)
    && option_eq vulnerable.eq s.vulnerable t.vulnerable && yellow.eq s.yellow t.yellow
    && (s.green_count == t.green_count)
    && same_ids s.green_cut t.green_cut && same_ids s.red_cut t.red_cut && same_numbers s.left t.left

abbrev pub same_summaries : List Summary → List Summary → Bool
same_summaries xs ys = pointwise same_summary xs ys

abbrev pub same_state : State → State → Bool
same_state RegPrim RegPrim = true
same_state TransPrim TransPrim = true
same_state (ExchangeStates c s h) (ExchangeStates d t k) = (c == d) && same_numbers s t && same_summaries h k
same_state (ExchangeActions c h n) (ExchangeActions d k m) = (c == d) && same_summaries h k && (n == m)
same_state (Construct c h) (Construct d k) = (c == d) && same_numbers h k
same_state (No c h) (No d k) = (c == d) && same_numbers h k
same_state Un Un = true
same_state (NonPrim a) (NonPrim b) = beq a b
same_state Left Left = true
same_state _ _ = false

-- ---- attempts

abbrev same_leaving : Leaving → Leaving → Bool
same_leaving k l = (k.member == l.member) && (k.count == l.count)

abbrev pub same_attempt : Attempt → Attempt → Bool
same_attempt a b =
    (a.conf == b.conf) && (a.from == b.from) && same_numbers a.set b.set && same_actions a.greens b.greens
    && same_actions a.yellow b.yellow && same_actions a.reds b.reds && same_numbers a.entered b.entered
    && same_numbers a.installed b.installed && pointwise same_leaving a.left b.left

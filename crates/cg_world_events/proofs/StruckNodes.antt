-- A replica's node is struck, or comes up from its disk: the node is taken out, and what stands again is what the definitions make of it.
use Rattle.std.proofs.Common.{◌≡◌, ℕ, Bool, true, false, List, [], ◌∷◌, Option, Some, None, Result, Ok, Err, OnOk, IfSome, is_some, not, filter, find, fold, option_and_then, option_map, refl, sym, ap, subst, ◌∙◌, eqb-true, inl, inr}
use Rattle.std.specs.Prelude.{◌==◌, if◌then◌else◌}
use Rattle.std.specs.Option.{option_map_or}
use Rattle.std.proofs.lemmas.Bool.{cases_Bool, cond-true, cond-false}
use Rattle.cg_action.specs.declared.action.Action.{Action}
use Rattle.cg_queue.specs.Queue.{Marking, Marks, Gaps, marked_red}
use Rattle.cg_queue.specs.declared.mark.Mark.TheVariants.{Placed, Known}
use Rattle.cg_group.specs.State.{is_up}
use Rattle.cg_group.specs.declared.reason.Reason.TheVariants.{Weighted}
use Rattle.cg_group.specs.Events.{come_up, go_down}
use Rattle.cg_client.specs.Replica.{NonPrim}
use Rattle.cg_client.specs.Turn.{Turn, begin}
use Rattle.cg_client.specs.Marks.{marked}
use Rattle.cg_client.specs.Summary.{redden, forget_own, own_to_red}
use Rattle.cg_disk_records.specs.Stored.{recovery_turn as recover_stored}
use Rattle.cg_disk_records.specs.Crash.{Disk, Strike, at_rest, recovered, disk_recovered}
use Rattle.cg_disk_records.specs.Recovery.{recovery_outcome, is_reached}
use Rattle.cg_older.specs.Older.{has_weights}
use Rattle.cg_model.specs.Admission.{is_weighted}
use Rattle.cg_model.specs.World.{NodeState, Up, Down, Node, World, running, node_of, at_node, node_disk, disk_at, replica_of, with_node, set_life, bring_down}
use Rattle.cg_model.specs.Looks.{on_disk}
use Rattle.cg_model.specs.Show.{StepInProgress, news_of_recovery, tell}
use Rattle.cg_model.specs.Step.{quietly, armed, crashed, stop, risen, recover, stays_down, recover_under, downgraded}
use Rattle.cg_model.specs.AtNode.{comes_up}
use Rattle.cg_world_events.specs.Nodes.{node, changed, raised, raised_under, weighs}
use Rattle.cg_world_events.specs.Grounds.{IsHosted}
use Rattle.cg_world_events.specs.Striking.{put_back}
use Rattle.cg_group.specs.RefusalLaws.{refuse_none}

-- whose a found node is
pub found-id : (nodes : List Node) (p : ℕ) (s : Node) → find (λ s. s.id == p) nodes ≡ Some s → s.id ≡ p
found-id [] p s e = absurd (let clash : None ≡ Some s = e in cc)
found-id (x ∷ nodes) p s e = elim (cases_Bool (x.id == p)) [
  | inl here ↦ (let same : Some x ≡ Some s = sym (cond-true (x.id == p) (Some x) (find (λ s. s.id == p) nodes) here) ∙ e in
      let is : x ≡ s = cc in ap (λ (s : Node). s.id) (sym is) ∙ eqb-true x.id p here)
  | inr other ↦ found-id nodes p s (sym (cond-false (x.id == p) (Some x) (find (λ s. s.id == p) nodes) other) ∙ e)
]

-- ---- what came of a node is put back

module _ (w v : World) (p : ℕ) (s : Node) (there : node_of w p ≡ Some s) (same : (life : NodeState) → set_life v p life ≡ set_life w p life) where
  -- something came of it
  put-changed : (life : Option NodeState) → is_some life ≡ true → (let t = changed (node p s.life) life in set_life v t.id t.life) ≡ option_map_or (set_life w p) life w
  put-changed (Some life) some = same life
  put-changed None some = absurd (let clash : false ≡ true = some in cc)

  pub put-made : (made : NodeState → Option NodeState) → is_some (made s.life) ≡ true → (let t = changed s (made s.life) in set_life v t.id t.life) ≡ at_node w p made (set_life w p) w
  put-made made some =
      ap (λ n. let t = changed (node n s.life) (made s.life) in set_life v t.id t.life) (found-id w.nodes p s there) ∙ put-changed (made s.life) some
      ∙ sym (ap (λ o. option_map_or (λ (s : Node). option_map_or (set_life w p) (made s.life) w) o w) there)

  -- where memory isn't refused
  pub made-done : (made : NodeState → Option NodeState) → is_some (made s.life) ≡ true → (t : Node) → t ≡ changed s (made s.life) → {T E : Type 0} (result : Result T E) (nodes : List Node) →
      OnOk result (nodes ≡ with_node v.nodes t) → OnOk result (record v { nodes = nodes } ≡ at_node w p made (set_life w p) w)
  made-done made some t is (Ok x) nodes put = ap (λ list. record v { nodes = list }) put ∙ ap (λ (t : Node). set_life v t.id t.life) is ∙ put-made made some
  made-done made some t is (Err e) nodes put = tt

-- ---- a replica that is up is struck

pub armed-some : (strike : Strike) (life : NodeState) → is_some (running life) ≡ true → is_some (armed strike life) ≡ true
armed-some strike (Up r disk) up = refl
armed-some strike (Down disk green) up = up

module _ (w v : World) (p : ℕ) (s : Node) (there : node_of w p ≡ Some s) (up : is_some (running s.life) ≡ true)
    (same : (life : NodeState) → set_life v p life ≡ set_life w p life) where
  fallen-up : (life : NodeState) → is_some (running life) ≡ true → (let t = changed (node p life) (crashed life) in bring_down v t.id t.life) ≡ option_map_or (bring_down w p) (crashed life) w
  fallen-up (Up r disk) up =
      ap (λ (x : World). record x { group = go_down x.group p; snapshots = filter (λ s. not (s.giver == p)) x.snapshots }) (same (Down (at_rest disk) []))
  fallen-up (Down disk green) up = absurd (let clash : false ≡ true = up in cc)

  pub stop-up : (fill : List ℕ) → (let t = changed s (crashed s.life) in bring_down v t.id t.life) ≡ stop w p 0 fill
  stop-up fill =
      ap (λ n. let t = changed (node n s.life) (crashed s.life) in bring_down v t.id t.life) (found-id w.nodes p s there) ∙ fallen-up s.life up
      ∙ sym (ap (λ o. option_map_or (λ (s : Node). option_map_or (bring_down w p) (crashed s.life) w) o w) there)

-- ---- the replica that comes up is the disk's

marked-id : (t : Turn) (a : Action) (m : Marking) → (marked t a m).replica.held.id ≡ t.replica.held.id
marked-id t a (Marks Placed q) = refl
marked-id t a (Marks Known q) = refl
marked-id t a (Gaps cut) = refl

reddened-id : (t : Turn) (list : List Action) → (fold redden t list).replica.held.id ≡ t.replica.held.id
reddened-id t [] = refl
reddened-id t (a ∷ list) = reddened-id (redden t a) list ∙ marked-id t a (marked_red t.replica.held.queue a)

recovered-id : (disk : Disk) → (recovered disk).held.id ≡ disk.content.id
unfolding recover_stored own_to_red
recovered-id disk = reddened-id (forget_own (begin (record { held = disk.content; state = NonPrim false }))) disk.content.own

-- ---- it comes up in the group too

-- the group doesn't have the replica as up
pub down-outside : (w : World) (p : ℕ) (s : Node) → IsHosted w → node_of w p ≡ Some s → is_some (replica_of w p) ≡ false → is_up w.group s.id ≡ false
down-outside w p s is there down = ap (is_up w.group) (found-id w.nodes p s there) ∙ sym (is.up p) ∙ down

module _ (w after : World) (p : ℕ) (s : Node) (is : IsHosted w) (there : node_of w p ≡ Some s) (down : is_some (replica_of w p) ≡ false)
    (same : (life : NodeState) → set_life after p life ≡ set_life w p life) where
  -- the replica of a name is up with this life, and in the group
  abbrev up_as : ℕ → NodeState → World
  up_as n life = let up = set_life w n life in record up { group = come_up w.group n }

  risen-down : (life : NodeState) → is_some (running life) ≡ false → (on_disk life).id ≡ p →
      put_back after (raised (node p life) (risen after.made life)) ≡ option_map_or (comes_up w) (risen w.made life) (quietly w)
  risen-down (Up r disk) down own = absurd (let clash : true ≡ false = down in cc)
  risen-down (Down disk green) down own =
      let r = recovered disk in
      let life = Up r (disk_recovered disk) in
      ap (λ (v : World). tell (quietly (record v { group = come_up v.group p })) (news_of_recovery v.made r.held green)) (same life)
      ∙ ap (λ n. tell (quietly (up_as n life)) (news_of_recovery w.made r.held green)) (sym (recovered-id disk ∙ own))

  own : (on_disk s.life).id ≡ p
  own = subst (λ o. IfSome (option_map (λ (s : Node). on_disk s.life) o) (λ h. h.id ≡ p)) there (is.disk p)

  low : is_some (running s.life) ≡ false
  low = subst (λ o. is_some (option_and_then (λ (s : Node). running s.life) o) ≡ false) there down

  pub recover-down : put_back after (raised s (risen after.made s.life)) ≡ recover w p
  recover-down =
      ap (λ n. put_back after (raised (node n s.life) (risen after.made s.life))) (found-id w.nodes p s there)
      ∙ risen-down s.life low own
      ∙ sym (ap (λ o. option_map_or (λ (s : Node). option_map_or (comes_up w) (risen w.made s.life) (quietly w)) o (quietly w)) there)

  -- ---- with a stop that is armed

  risen-under : (strike : Strike) (life : NodeState) → is_some (running life) ≡ false → (on_disk life).id ≡ p →
      put_back after (raised_under after.made strike (node p life))
      ≡ option_map_or (λ life. quietly (set_life w p life)) (stays_down strike life) (option_map_or (comes_up w) (risen w.made life) (quietly w))
  risen-under strike (Up r disk) down own = absurd (let clash : true ≡ false = down in cc)
  risen-under strike (Down disk green) down own = at (is_reached disk strike) where
    left : NodeState
    left = Down (recovery_outcome disk strike) green

    at : (b : Bool) → (let stays : Option NodeState = if b then Some left else None in
        put_back after (option_map_or (λ life. (node p life, None)) stays (raised (node p (Down disk green)) (risen after.made (Down disk green))))
        ≡ option_map_or (λ life. quietly (set_life w p life)) stays (option_map_or (comes_up w) (risen w.made (Down disk green)) (quietly w)))
    at true = ap quietly (same left)
    at false = risen-down (Down disk green) down own

  pub under-down : (strike : Strike) → put_back after (raised_under after.made strike s) ≡ recover_under w p strike
  under-down strike =
      ap (λ n. put_back after (raised_under after.made strike (node n s.life))) (found-id w.nodes p s there)
      ∙ risen-under strike s.life low own
      ∙ sym (ap (λ o. option_map_or (λ (s : Node). option_map_or (λ life. quietly (set_life w p life)) (stays_down strike s.life)
      (option_map_or (λ (s : Node). option_map_or (comes_up w) (risen w.made s.life) (quietly w)) o (quietly w))) o (option_map_or (λ (s : Node). option_map_or (comes_up w) (risen w.made s.life) (quietly w)) o (quietly w))) there)

-- ---- the calls

-- the group doesn't have it as up where its node was taken out
pub outside-taken : (w after : World) (p : ℕ) (s : Node) → IsHosted w → node_of w p ≡ Some s → is_some (replica_of w p) ≡ false →
    ((life : NodeState) → set_life after p life ≡ set_life w p life) → is_up after.group s.id ≡ false
outside-taken w after p s is there down same = ap (λ (v : World). is_up v.group s.id) (same s.life) ∙ down-outside w p s is there down

module _ (g self : StepInProgress) (after : World) (p : ℕ) (is_self : g ≡ self) (quiet : self ≡ quietly self.world) where
  pub quiet-taken : record g { world = after } ≡ quietly after
  quiet-taken = ap (λ (x : StepInProgress). record x { world = after }) (is_self ∙ quiet)

  none-there : node_of g.world p ≡ None → node_of self.world p ≡ None
  none-there none = subst (λ (x : StepInProgress). node_of x.world p ≡ None) is_self none

  still : after ≡ g.world → record g { world = after } ≡ quietly self.world
  still stays = ap (λ w. record g { world = w }) stays ∙ is_self ∙ quiet

  pub nobody-recovers : (node_of g.world p ≡ None) × (after ≡ g.world) → record g { world = after } ≡ recover self.world p
  nobody-recovers h =
      let w = self.world in
      still h.1 ∙ sym (ap (λ o. option_map_or (λ (s : Node). option_map_or (comes_up w) (risen w.made s.life) (quietly w)) o (quietly w)) (none-there h.0))

  pub nobody-recovers_under : (strike : Strike) → (node_of g.world p ≡ None) × (after ≡ g.world) → record g { world = after } ≡ recover_under self.world p strike
  nobody-recovers_under strike h =
      let w = self.world in
      still h.1 ∙ sym (ap (λ o. option_map_or (λ (s : Node). option_map_or (λ life. quietly (set_life w p life)) (stays_down strike s.life)
      (option_map_or (λ (s : Node). option_map_or (comes_up w) (risen w.made s.life) (quietly w)) o (quietly w))) o (option_map_or (λ (s : Node). option_map_or (comes_up w) (risen w.made s.life) (quietly w)) o (quietly w))) (none-there h.0))

-- ---- its disk becomes one of the older format

downgraded-some : (life : NodeState) → is_some (running life) ≡ false → is_some (downgraded life) ≡ true
downgraded-some (Up r disk) down = absurd (let clash : true ≡ false = down in cc)
downgraded-some (Down disk green) down = refl

-- something comes of one that is down
pub old-some : (w : World) (p : ℕ) (s : Node) → node_of w p ≡ Some s → is_some (replica_of w p) ≡ false → is_some (downgraded s.life) ≡ true
old-some w p s there down = downgraded-some s.life (subst (λ o. is_some (option_and_then (λ (s : Node). running s.life) o) ≡ false) there down)

-- no weight stands on the disk of a replica that isn't refused for one
weighs-on : (life : NodeState) → has_weights (node_disk life).content ≡ false → weighs life ≡ false
weighs-on (Up r disk) none = refl
weighs-on (Down disk green) none = none

pub weightless : (w : World) (p : ℕ) (s : Node) → node_of w p ≡ Some s → is_weighted w p ≡ None → weighs s.life ≡ false
weightless w p s there none =
    weighs-on s.life (sym (ap (λ o. option_map_or (λ (d : Disk). has_weights d.content) (option_map (λ (s : Node). node_disk s.life) o) false) there)
    ∙ refuse_none (option_map_or (λ (d : Disk). has_weights d.content) (disk_at w p) false) (Weighted p) none)

-- In each step of a run what the disk of a replica that is down has is a prefix of the order, with the names that its recovery will show,
-- and its database is the fold of that.
use Rattle.std.proofs.Common.{◌≡◌, ℕ, ◌≤◌, true, List, [], ◌∷◌, take, Option, Some, None, option_map, sym, ap, ◌∙◌, subst}
use Rattle.std.specs.Prelude.{nat_le}
use Rattle.std.specs.Option.{option_map_or}
use Rattle.std.proofs.lemmas.Bool.{le-leb}
use Rattle.cg_base.specs.declared.action_id.ActionId.{ActionId}
use Rattle.cg_base.specs.Cuts.{index_in}
use Rattle.cg_base.specs.Ids.{has_name}
use Rattle.cg_action.specs.declared.action.Action.{Action}
use Rattle.cg_db.specs.Apply.{fold_actions}
use Rattle.cg_base.specs.Lists.{Each}
use Rattle.cg_queue.specs.Queue.{QueueView, green_count, names_of}
use Rattle.cg_disk_records.specs.Crash.{Disk}
use Rattle.cg_model.specs.Agreement.{ComesAfter, Reaches, order_recovered, through}
use Rattle.cg_model.specs.Looks.{stood_of}
use Rattle.cg_model.specs.Played.{AlwaysHolds}
use Rattle.cg_model.specs.Run.{Step, IsRunFrom}
use Rattle.cg_model.specs.Shown.{made_actions, made_names, order_of, position_of}
use Rattle.cg_model.specs.World.{Down, NodeState, Node, World, life_of, no_world, node_of}
use Rattle.cg_agree.proofs.CountsGrow.{count_at}
use Rattle.cg_agree.proofs.DownGreens.{all-made, booked, core, prefix, reaches}
use Rattle.cg_agree_lemmas.specs.FrontFacts.{Front-refl}
use Rattle.cg_agree.proofs.OrderReached.{named-each, run-some}
use Rattle.cg_agree_lemmas.specs.OrderTold.{order_told}
use Rattle.cg_agree.proofs.OrderedActions.{all-as, each-as}
use Rattle.cg_agree.proofs.PositionsGrow.{is-placed}
use Rattle.cg_agree.proofs.RedsShown.{HasShown, has-shown}
use Rattle.cg_agree.proofs.RunSteps.{StandsFor, stands-for, step-of}
use Rattle.cg_model.specs.RunLaws.{world_of, chronicle_of}
use Rattle.cg_model.specs.Attempts.{held_in}

each-le : (w : World) (list : List Action) → Each (λ (a : Action). a.id.index ≤ index_in w.made a.id.creator) list → Each (λ (id : ActionId). nat_le id.index (index_in w.made id.creator) ≡ true) (names_of list)
each-le w [] each = tt
each-le w (a ∷ list) each = (le-leb a.id.index (index_in w.made a.id.creator) each.0, each-le w list each.1)

module _ (always : AlwaysHolds) (steps : List Step) (run : IsRunFrom no_world steps) (p : ℕ) (disk : Disk) (green : List ActionId) (down : life_of (world_of steps) p ≡ Some (Down disk green)) where
  stands : StandsFor steps
  stands = stands-for always steps run

  shown : HasShown steps (chronicle_of steps) (world_of steps)
  shown = has-shown always steps run

  abbrev q : QueueView
  q = disk.content.queue

  order-is : (world_of steps).order ≡ order_of steps
  order-is = order_told no_world steps run

  reaches-run : Reaches q (order_recovered (order_of steps) disk green)
  reaches-run =
      subst (λ (order : List ActionId). Reaches q (order_recovered order disk green)) order-is
      (reaches (chronicle_of steps) (world_of steps) stands.stands shown.fits shown.order p disk green down)

  low : position_of p steps ≤ green_count q
  low = subst (λ n. position_of p steps ≤ n) (at (node_of (world_of steps) p) down) ((is-placed always steps run).placed p) where
    at : (o : Option Node) → option_map (λ s. s.life) o ≡ Some (Down disk green) → count_at o ≡ green_count q
    at None e = absurd (let clash : None ≡ Some (Down disk green) = e in cc)
    at (Some s) e = ap (λ (o : Option NodeState). green_count (held_in (option_map_or (λ l. l) o s.life)).queue) e

  -- the actions of these names, as they were made
  actions : made_actions steps (take (green_count q) (order_recovered (order_of steps) disk green)) ≡ stood_of (chronicle_of steps) p
  actions =
      let c = chronicle_of steps in
      let w = world_of steps in
      let list = stood_of c p in
      let some = run-some [] (names_of list) (core c w stands.stands shown.fits shown.order p disk green down).contiguous.greens in
      let made = each-le w list (all-made c w stands.stands shown.fits shown.order p disk green down) in
      let named : Each (λ id. has_name (made_names steps) id ≡ true) (names_of list) = named-each steps c w stands.told (names_of list) some made in
      let shown_as = each-as steps c w stands.stands stands.told list (names_of list) (Front-refl (names_of list)) named (booked c w stands.stands shown.fits shown.order p disk green down) in
      ap (made_actions steps) (sym (prefix c w stands.stands shown.fits shown.order p disk green down
      ∙ ap (λ (order : List ActionId). take (green_count q) (order_recovered order disk green)) order-is))
      ∙ all-as steps c w stands.stands stands.told list shown_as

  fold : disk.content.db ≡ fold_actions (made_actions steps (take (green_count q) (order_recovered (order_of steps) disk green)))
  fold = (core (chronicle_of steps) (world_of steps) stands.stands shown.fits shown.order p disk green down).made_of.db ∙ ap fold_actions (sym actions)

-- ---- a step of a run

module _ (always : AlwaysHolds) (steps : List Step) (run : IsRunFrom no_world steps) (earlier : List Step) (s : Step) (p : ℕ) (disk : Disk) (green : List ActionId) (after : ComesAfter steps earlier s)
    (down : life_of s.world p ≡ Some (Down disk green)) where
  behind : IsRunFrom no_world (through earlier s)
  behind = (step-of always steps run earlier s after).behind

  down-there : life_of (world_of (through earlier s)) p ≡ Some (Down disk green)
  down-there = ap (λ (w : World). life_of w p) (step-of always steps run earlier s after).world ∙ down

  -- What it has green.
  pub down-prefix : Reaches disk.content.queue (order_recovered (order_of (through earlier s)) disk green) × (position_of p (through earlier s) ≤ green_count disk.content.queue)
  down-prefix = (reaches-run always (through earlier s) behind p disk green down-there, low always (through earlier s) behind p disk green down-there)

  -- Its database.
  pub down-fold : (let now = through earlier s in disk.content.db ≡ fold_actions (made_actions now (take (green_count disk.content.queue) (order_recovered (order_of now) disk green))))
  down-fold = fold always (through earlier s) behind p disk green down-there

-- What the disk of a replica that is down has green: a front of the order, or all of it and behind that the names that its recovery will
-- show; and all of it was shown as made.
use Rattle.std.proofs.Common.{◌≡◌, ℕ, ◌≤◌, true, List, [], ◌∷◌, ◌++◌, drop, length, length-append, Option, Some, None, IfSome, option_map, refl, sym, ap, ◌∙◌, subst, inl, inr, arith, leb-true, nat_le, take}
use Rattle.std.specs.Option.{option_map_or}
use Rattle.std.proofs.lemmas.Bool.{cases_eq}
use Rattle.cg_base.specs.declared.action_id.ActionId.{ActionId}
use Rattle.cg_base.specs.Cuts.{index_in, raise}
use Rattle.cg_action.specs.declared.action.Action.{Action}
use Rattle.cg_base.specs.Lists.{Each}
use Rattle.cg_base.specs.EachLaws.{Each-append, Each-weaker, Each-list_all, Each-rest}
use Rattle.cg_queue.specs.Queue.{green_count, names_of}
use Rattle.cg_client.specs.Replica.{Held}
use Rattle.cg_disk_records.specs.Crash.{Disk}
use Rattle.cg_disk_records.specs.Holds.{Rising, cut_behind}
use Rattle.cg_disk_records.specs.CutRaiseLaws.{behind-rises, index-same, rising-raise}
use Rattle.cg_model.specs.Agreement.{Reaches, order_recovered}
use Rattle.cg_model.specs.Chronicle.{Chronicle}
use Rattle.cg_model.specs.FactsBooks.{IsNameShown, IsToShow, LifeMade, LifeShown, LifeToShow, MadeFits, OrderFits, NodeIsDown, NodeMade, NodeShown, NodeToShow}
use Rattle.cg_model.specs.FactsReplica.{AreBooked, IsCore}
use Rattle.cg_model.specs.Fronts.{Front}
use Rattle.cg_model.specs.Levels.{line_at, reached_at}
use Rattle.cg_model.specs.Looks.{disk_held, on_disk, stood_of, top_of}
use Rattle.cg_model.specs.Played.{StandsBeside}
use Rattle.cg_model.specs.World.{Down, NodeState, Node, World, life_of, node_of}
use Rattle.cg_agree_lemmas.specs.BookGrows.{IsNamed}
use Rattle.cg_agree_lemmas.specs.BookedCores.{each-booked}
use Rattle.cg_agree.proofs.CreatorNumbered.{order-on_top}
use Rattle.cg_agree_lemmas.specs.FrontFacts.{Front-length, Front-map, take-Front}
use Rattle.cg_agree_lemmas.specs.OrderExtends.{IsExtended, order-extends}
use Rattle.cg_agree.proofs.OrderReached.{names-drop}
use Rattle.cg_agree.proofs.RedsShown.{each-low}
use Rattle.cg_agree_lemmas.specs.TurnGreens.{disk-count}
use Rattle.cg_queue.specs.NameLaws.{names-count}

-- ---- lists of names

each-first : {X : Type 0} (P : X → Type 0) (xs ys : List X) → Front xs ys → Each P ys → Each P xs
each-first P [] ys front each = tt
each-first P (x ∷ xs) [] front each = absurd front
each-first P (x ∷ xs) (y ∷ ys) front each = (subst P (sym front.0) each.0, each-first P xs ys front.1 each.1)

each-named : (P : ActionId → Type 0) (list : List Action) → Each P (names_of list) → Each (λ a. P a.id) list
each-named P [] each = tt
each-named P (a ∷ list) each = (each.0, each-named P list each.1)

-- the cut behind names counts each of them
each-counted : (cut ids : List ActionId) → Rising 0 cut → Each (λ id. id.index ≤ index_in (cut_behind cut ids) id.creator) ids
each-counted cut [] rising = tt
each-counted cut (id ∷ ids) rising =
    let on = rising-raise cut id rising in
    let here = index-same cut id rising id.creator refl in
    let more = behind-rises (raise cut id) ids id.creator on in
    ((let low : id.index ≤ index_in (cut_behind (raise cut id) ids) id.creator = omega arith in low), each-counted (raise cut id) ids on)

module _ (c : Chronicle) (w : World) (stands : StandsBeside c w) (fits : MadeFits w) (order : OrderFits c w) (p : ℕ) (disk : Disk) (green : List ActionId) (down : life_of w p ≡ Some (Down disk green)) where
  abbrev stood : List Action
  stood = stood_of c p

  abbrev count : ℕ
  count = green_count disk.content.queue

  abbrev longer : List ActionId
  longer = order_recovered w.order disk green

  -- ---- its node

  -- what holds of its node holds of its life
  of-life : (P : Option Node → Type 0) (Q : NodeState → Type 0) → ((s : Node) → P (Some s) → Q s.life) → P (node_of w p) → Q (Down disk green)
  of-life P Q each = at (node_of w p) down where
    at : (o : Option Node) → option_map (λ s. s.life) o ≡ Some (Down disk green) → P o → Q (Down disk green)
    at None e is = absurd (let clash : None ≡ Some (Down disk green) = e in cc)
    at (Some s) e is = subst Q (ap (λ (o : Option NodeState). option_map_or (λ l. l) o s.life) e) (each s is)

  to-show : IsToShow w.order green (names_of stood)
  to-show = of-life (NodeToShow w.order (names_of stood)) (LifeToShow w.order (names_of stood)) (λ s is. is) (order.down p)

  made : LifeMade (index_in w.made p) p (Down disk green)
  made = of-life (NodeMade (index_in w.made p) p) (LifeMade (index_in w.made p) p) (λ s is. is) (fits.nodes p)

  held : disk_held c.world p ≡ Some disk.content
  held = sym (stands.same.disk p) ∙ at (node_of w p) down where
    at : (o : Option Node) → option_map (λ s. s.life) o ≡ Some (Down disk green) → option_map (λ s. on_disk s.life) o ≡ Some disk.content
    at None e = ap (option_map on_disk) e
    at (Some s) e = ap (option_map on_disk) e

  pub core : IsCore c disk.content stood
  core = subst (λ (o : Option Held). IfSome o (λ h. IsCore c h stood)) held (stands.facts.replica.cores.disk p)

  counts : count ≡ length stood
  counts = disk-count c stands.facts p disk.content held

  -- ---- the order

  abbrev line : List ActionId
  line = names_of (line_at c (top_of c))

  ordered : Front w.order line
  ordered =
      let is = order-on_top c w stands in
      subst (λ (xs : List ActionId). Front xs line) (sym is.names) (Front-map (λ (a : Action). a.id) is.list (line_at c (top_of c)) is.on_top.front)

  -- its greens come behind the order as they would at its recovery
  extended : IsExtended line w.order (to-show.shown ++ green) longer
  extended =
      let one = subst (λ (o : Option Held). IfSome o (λ h. Front stood (line_at c (top_of c)) × (length stood ≤ reached_at c (top_of c)))) held (stands.facts.green.one_order.disk p) in
      let on_line : Front (to-show.shown ++ green) line =
      subst (λ (xs : List ActionId). Front xs line) to-show.all (Front-map (λ (a : Action). a.id) stood (line_at c (top_of c)) one.0) in
      order-extends line w.order to-show.shown green count (counts ∙ sym (names-count stood) ∙ ap length to-show.all ∙ length-append to-show.shown green) ordered on_line
      (Front-length to-show.shown w.order to-show.there)

  begins : Front (names_of stood) longer
  begins = subst (λ (xs : List ActionId). Front xs longer) (sym to-show.all) extended.has

  pub prefix : names_of stood ≡ take count longer
  prefix = take-Front (names_of stood) longer begins ∙ ap (λ n. take n longer) (names-count stood ∙ sym counts)

  -- Its greens are a front of what the order will be.
  pub reaches : Reaches disk.content.queue longer
  reaches =
      let q = disk.content.queue in
      let short = Front-length (names_of stood) longer begins in
      let named = names-count stood in
      let number = counts in
      ((let within : count ≤ length longer = omega arith in within), ap names_of core.made_of.kept ∙ names-drop q.white stood ∙ ap (drop q.white) prefix)

  -- ---- shown as made

  abbrev IsMade : ActionId → Type 0
  IsMade id = id.index ≤ index_in w.made id.creator

  -- of whom is down
  abbrev IsLow : ActionId → Type 0
  IsLow id = NodeIsDown (node_of w id.creator) → IsMade id

  order-low : Each IsLow to-show.shown
  order-low =
      each-first IsLow to-show.shown w.order to-show.there
      (Each-weaker (λ id. nat_le id.index (index_in w.made id.creator) ≡ true) IsLow (λ id is down. leb-true id.index (index_in w.made id.creator) is) w.order
      (Each-list_all (λ (id : ActionId). nat_le id.index (index_in w.made id.creator)) w.order order.book.made))

  -- its own: its greens go no further than what was shown
  own-low : Each (λ id. id.creator ≡ p → IsMade id) green
  own-low =
      Each-rest (λ (id : ActionId). id.creator ≡ p → IsMade id) to-show.shown green
      (subst (Each (λ id. id.creator ≡ p → IsMade id)) to-show.all
      (Each-weaker (λ id. id.index ≤ index_in (cut_behind [] (names_of stood)) id.creator) (λ id. id.creator ≡ p → IsMade id) one (names_of stood) (each-counted [] (names_of stood) tt))) where
        one : (id : ActionId) → id.index ≤ index_in (cut_behind [] (names_of stood)) id.creator → id.creator ≡ p → IsMade id
        one id low mine =
            let cut : index_in disk.content.queue.green_cut p ≡ index_in (cut_behind [] (names_of stood)) p = ap (λ cut. index_in cut p) core.made_of.green_cut in
            let here : index_in (cut_behind [] (names_of stood)) id.creator ≡ index_in (cut_behind [] (names_of stood)) p = ap (index_in (cut_behind [] (names_of stood))) mine in
            let shown : index_in w.made id.creator ≡ index_in w.made p = ap (index_in w.made) mine in
            let most = made.1 in
            omega arith

  -- another one's that is down: nobody else has any that wasn't shown
  others-shown : (q : ℕ) (fallen : NodeIsDown (node_of w q)) → (q ≡ p → ⊥) → Each (IsNameShown q (order.others q fallen).shown) green
  others-shown q fallen other =
      let k = order.others q fallen in
      (of-life (NodeShown q k.shown) (LifeShown q k.shown) (λ s is. is) (k.are.nodes p (λ e. other (sym e)))).1

  green-low : (ids : List ActionId) → Each (λ id. id.creator ≡ p → IsMade id) ids →
      ((q : ℕ) (fallen : NodeIsDown (node_of w q)) → (q ≡ p → ⊥) → Each (IsNameShown q (order.others q fallen).shown) ids) → Each IsLow ids
  green-low [] own others = tt
  green-low (id ∷ ids) own others = (
    λ fallen. elim (cases_eq id.creator p) [
      | inl mine ↦ own.0 mine
      | inr other ↦
          let low = (order.others id.creator fallen).are.low in
          let here = (others id.creator fallen other).0 refl in
          omega arith
    ],
    green-low ids own.1 (λ q fallen other. (others q fallen other).1),
  )

  pub booked : Each (IsNamed c.book) stood
  booked = each-booked c stood (subst (AreBooked c) (stands.rests.replica.disk_agrees.greens p) (stands.facts.replica.made_once.in_greens p))

  -- All its greens were shown as made.
  pub all-made : Each (λ (a : Action). a.id.index ≤ index_in w.made a.id.creator) stood
  all-made =
      each-low c w stands fits order stood booked
      (each-named IsLow stood (subst (Each IsLow) (sym to-show.all) (Each-append IsLow to-show.shown green order-low (green-low green own-low others-shown))))

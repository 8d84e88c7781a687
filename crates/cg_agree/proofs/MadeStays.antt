-- A made action stands on each later line of its creator: own, red, yellow, or in the creator's prefix of the order.
use Rattle.std.proofs.Common.{◌≡◌, ℕ, zero, suc, ◌-◌, ◌≤◌, true, ◌&&◌, List, [], ◌∷◌, ◌++◌, map, take, length, Option, Some, None, IfSome, Contains, refl, sym, ap, ap₂, ◌∙◌, subst, arith, append_assoc, append-nil, ◌<◌, ⊎_elim}
use Rattle.std.specs.Prelude.{nat_lt, nat_le}
use Rattle.std.proofs.lemmas.Bool.{and_parts, ltb-true, leb-true}
use Rattle.std.proofs.lemmas.Grind.{flat_map-append}
use Rattle.std.proofs.lemmas.List.{map-append}
use Rattle.std.proofs.lemmas.List.Elements.{Contains-append_left, Contains-append_cases}
use Rattle.cg_base.specs.declared.action_id.ActionId.{ActionId}
use Rattle.cg_base.specs.IdLaws.{has_name-contained}
use Rattle.cg_base.specs.Cuts.{index_in}
use Rattle.cg_queue.specs.Queue.{green_count, names_of}
use Rattle.cg_base.specs.Lists.{Each}
use Rattle.cg_client.specs.Replica.{Replica, created}
use Rattle.cg_client.specs.Queries.{plain_reds, view_of}
use Rattle.cg_report.specs.declared.entry.Made.{Made}
use Rattle.cg_report.specs.declared.line.UpLine.{UpLine}
use Rattle.cg_report.specs.declared.line.View.{View}
use Rattle.cg_model.specs.World.{World, no_world, replica_of}
use Rattle.cg_model.specs.Run.{Step, IsRunFrom, world_after}
use Rattle.cg_model.specs.Shown.{order_of, order_lines, made_names, last_up}
use Rattle.cg_model.specs.Agreement.{through, MadeStays}
use Rattle.cg_model.specs.Chronicle.{Chronicle, no_chronicle}
use Rattle.cg_model.specs.Fronts.{IsSomeWith}
use Rattle.cg_model.specs.Looks.{greens_of}
use Rattle.cg_model.specs.Noting.{chronicle_after}
use Rattle.cg_model.specs.FactsReplica.{IsModeData}
use Rattle.cg_model.specs.Played.{StandsBeside, AlwaysHolds}
use Rattle.cg_agree.proofs.CreatorNumbered.{stands-of}
use Rattle.cg_agree_lemmas.specs.FrontFacts.{take-Front}
use Rattle.cg_agree.proofs.LinesShown.{up-shown}
use Rattle.cg_agree_lemmas.specs.MadeShown.{IsThere}
use Rattle.cg_agree_lemmas.specs.MadeThere.{created-there}
use Rattle.cg_agree.proofs.MadeTold.{names-last, step-adds, made-told}
use Rattle.cg_agree.proofs.OrderReached.{in-order}
use Rattle.cg_agree_lemmas.specs.OrderTold.{order_told}
use Rattle.cg_agree.proofs.PositionsGrow.{down-still}
use Rattle.cg_disk_records.specs.Holds.{cut_behind}
use Rattle.cg_agree.proofs.RunPrefix.{ComesThere, comes}
use Rattle.cg_agree.proofs.TellsRun.{HasTold, has-told}
use Rattle.cg_disk_records.specs.RunMarkLaws.{run-names}
use Rattle.cg_base.specs.ElementLaws.{each-contains}
use Rattle.cg_model.specs.RunLaws.{world-last}
use Rattle.cg_queue.specs.NameLaws.{names-count}

-- ---- the names that were shown as made

-- whose creators are up
creators-up : (w : World) (list : List Made) → Each (IsThere w.nodes) list → Each (λ (id : ActionId). (r : Replica) × (replica_of w id.creator ≡ Some r)) (map (λ m. m.id) list)
creators-up w [] there = tt
creators-up w (m ∷ list) there = ((there.0.replica, there.0.runs), creators-up w list there.1)

-- ---- the order grows

take-more : {X : Type 0} (n : ℕ) (xs ys : List X) → take n (xs ++ ys) ≡ take n xs ++ take (n - length xs) ys
take-more zero xs ys = let none : 0 - length xs ≡ 0 = omega arith in rw none refl
take-more (suc n) [] ys = let whole : suc n - 0 ≡ suc n = omega arith in rw whole refl
take-more (suc n) (x ∷ xs) ys = let same : suc n - suc (length xs) ≡ n - length xs = omega arith in rw same (ap (λ zs. x ∷ zs) (take-more n xs ys))

order-more : (earlier : List Step) (s : Step) → order_of (earlier ++ s ∷ []) ≡ order_of earlier ++ order_of (s ∷ [])
order-more earlier s =
    ap (map (λ o. o.id)) (flat_map-append (λ (s : Step). s.entry.orders) earlier (s ∷ [])) ∙ map-append (λ o. o.id) (order_lines earlier) (order_lines (s ∷ []))

-- the names of the actions on a line: own, red, yellow, or in the prefix of the order
abbrev names_on : List Step → UpLine → List ActionId
names_on steps up = up.view.own ++ up.view.reds ++ up.view.yellow.list ++ take up.view.green_count (order_of steps)

-- what stands on a line stands on it as the order is longer
stays-on : (earlier : List Step) (s : Step) (up : UpLine) (id : ActionId) → Contains (names_on earlier up) id → Contains (names_on (earlier ++ s ∷ []) up) id
stays-on earlier s up id is =
    let v = up.view in
    let first = take v.green_count (order_of earlier) in
    let more = take (v.green_count - length (order_of earlier)) (order_of (s ∷ [])) in
    let order : take v.green_count (order_of (earlier ++ s ∷ [])) ≡ first ++ more = ap (take v.green_count) (order-more earlier s) ∙ take-more v.green_count (order_of earlier) (order_of (s ∷ [])) in
    let others = (v.own ++ v.reds) ++ v.yellow.list in
    let joined : (others ++ first) ++ more ≡ others ++ take v.green_count (order_of (earlier ++ s ∷ [])) = append_assoc others first more ∙ ap (λ ids. others ++ ids) (sym order) in
    subst (λ (ids : List ActionId). Contains ids id) joined (Contains-append_left (others ++ first) more id is)

-- the line of a replica that is up
on-line : (steps : List Step) (up : UpLine) (r : Replica) (green : List ActionId) → up.view ≡ view_of r.held → green ≡ take (green_count r.held.queue) (order_of steps) →
    ((names_of r.held.own ++ names_of (plain_reds r.held.queue)) ++ r.held.queue.yellow) ++ green ≡ names_on steps up
unfolding view_of
on-line steps up r green is e =
    ap (λ ids. ((names_of r.held.own ++ names_of (plain_reds r.held.queue)) ++ r.held.queue.yellow) ++ ids) e
    ∙ sym (ap (λ (v : View). ((v.own ++ v.reds) ++ v.yellow.list) ++ take v.green_count (order_of steps)) is)

-- ---- runs

-- each made action stands on the last line of its creator
abbrev StandsOn : List Step → Type 0
StandsOn steps = (id : ActionId) (up : UpLine) → Contains (made_names steps) id → last_up id.creator steps ≡ Some up → Contains (names_on steps up) id

module _ (always : AlwaysHolds) where
  module _ (steps : List Step) (run : IsRunFrom no_world steps) where
    abbrev w : World
    w = world_after no_world steps

    abbrev c : Chronicle
    c = chronicle_after no_chronicle no_world steps

    abbrev stands : StandsBeside c w
    stands = stands-of always steps run

    abbrev told : HasTold steps c w
    told = has-told always steps run

    -- a name that was shown as made has a number
    made-some : (id : ActionId) → Contains (made_names steps) id → 1 ≤ id.index
    made-some id is =
        let numbers = run-names [] (made_names steps) id tt told.made.run in
        let inside : (nat_lt (index_in [] id.creator) id.index && nat_le id.index (index_in (cut_behind [] (made_names steps)) id.creator)) ≡ true = sym numbers ∙ has_name-contained (made_names steps) id is in
        let lt : 0 < id.index = ltb-true 0 id.index (and_parts (nat_lt (index_in [] id.creator) id.index) (nat_le id.index (index_in (cut_behind [] (made_names steps)) id.creator)) inside).0 in
        omega arith

    made-counted : (id : ActionId) → Contains (made_names steps) id → id.index ≤ index_in w.made id.creator
    made-counted id is =
        leb-true id.index (index_in w.made id.creator) (sym (made-told steps c w told.made id (made-some id is)) ∙ has_name-contained (made_names steps) id is)

    -- of a replica that is up
    up-stands : (id : ActionId) (r : Replica) (up : UpLine) → replica_of w id.creator ≡ Some r → up.view ≡ view_of r.held → Contains (made_names steps) id → Contains (names_on steps up) id
    up-stands id r up runs view is =
        let p = id.creator in
        let here : replica_of c.world p ≡ Some r = sym (stands.same.running p) ∙ runs in
        let placed = in-order c w stands p r runs in
        let mode : IsModeData c p r = subst (λ (o : Option Replica). IfSome o (IsModeData c p)) here (stands.facts.replica.mode_data p) in
        let count : index_in w.made p ≡ created r.held = subst (λ (o : Option Replica). IfSome o (λ r. index_in w.made p ≡ created r.held)) runs (stands.rests.made_book.up p) in
        let low = made-counted id is in
        let number : length (names_of (greens_of c p)) ≡ green_count r.held.queue = names-count (greens_of c p) ∙ sym placed.count in
        let first : names_of (greens_of c p) ≡ take (green_count r.held.queue) (order_of steps) =
        take-Front (names_of (greens_of c p)) w.order placed.front ∙ ap₂ (λ n ids. take n ids) number (order_told no_world steps run) in
        subst (λ (ids : List ActionId). Contains ids id) (on-line steps up r (names_of (greens_of c p)) view first)
        (created-there c r.held (greens_of c p) placed.core id (sym mode.id) (made-some id is) (omega arith))

  module _ (earlier : List Step) (s : Step) (there : ComesThere earlier s) (before : StandsOn earlier) where
    abbrev now : List Step
    now = through earlier s

    abbrev old : World
    old = world_after no_world earlier

    last-world : world_after no_world now ≡ s.world
    last-world = world-last no_world earlier s

    -- of one that is down nothing more was shown as made
    made-before : (id : ActionId) → Contains (made_names now) id → replica_of s.world id.creator ≡ None → Contains (made_names earlier) id
    made-before id is none =
        let told = (has-told always earlier there.before).made in
        let adds = step-adds (chronicle_after no_chronicle no_world earlier) old s there.step told.fits told.last in
        ⊎_elim (λ was. was)
        (λ new.
        let up = each-contains (λ (id : ActionId). (r : Replica) × (replica_of s.world id.creator ≡ Some r)) (map (λ (m : Made). m.id) s.entry.made) id (creators-up s.world s.entry.made adds.1.there) new in
        absurd (let clash : None ≡ Some up.0 = sym none ∙ up.1 in cc))
        (Contains-append_cases (made_names earlier) (map (λ (m : Made). m.id) s.entry.made) id (subst (λ (ids : List ActionId). Contains ids id) (names-last earlier s) is))

    stands-now : StandsOn now
    stands-now id up is last = by (replica_of s.world id.creator) refl where
      by : (o : Option Replica) → replica_of s.world id.creator ≡ o → Contains (names_on now up) id
      by None none =
          stays-on earlier s up id
          (before id up (made-before id is none) (sym (down-still earlier (chronicle_after no_chronicle no_world earlier) old s there.step id.creator none) ∙ last))
      by (Some r) runs =
          let up_there : replica_of (world_after no_world now) id.creator ≡ Some r = ap (λ (v : World). replica_of v id.creator) last-world ∙ runs in
          let lines = (has-told always now there.upto).lines in
          up-stands now there.upto id r up up_there
          (subst (λ (o : Option UpLine). IsSomeWith o (λ up. up.view ≡ view_of r.held)) last (up-shown (world_after no_world now) now lines.shown lines.stand id.creator r up_there)) is

  stands-along : (earlier later : List Step) → IsRunFrom no_world (earlier ++ later) → StandsOn earlier → StandsOn (earlier ++ later)
  stands-along earlier [] run before = subst StandsOn (sym (append-nil earlier)) before
  stands-along earlier (s ∷ later) run before =
      let joined : (earlier ++ s ∷ []) ++ later ≡ earlier ++ s ∷ later = append_assoc earlier (s ∷ []) later in
      subst StandsOn joined
      (stands-along (earlier ++ s ∷ []) later (subst (IsRunFrom no_world) (sym joined) run) (stands-now earlier s (comes always (earlier ++ s ∷ later) run earlier s (later, refl)) before))

  nothing-on : StandsOn []
  nothing-on id up is last = absurd (let clash : None ≡ Some up = last in cc)

  pub made-stays : (steps : List Step) → IsRunFrom no_world steps → MadeStays steps
  made-stays steps run earlier s id up after is last = stands-along [] (through earlier s) (comes always steps run earlier s after).upto nothing-on id up is last

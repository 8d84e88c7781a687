-- What a replica's last line tells it to know: of each creator the made actions up to its red cut, each once.
use Rattle.std.proofs.Common.{◌≡◌, ℕ, zero, suc, ◌≤◌, ◌<◌, Bool, true, false, ◌||◌, List, [], ◌∷◌, ◌++◌, take, Option, Some, None, IfSome, is_some, refl, sym, ap, ap₂, ◌∙◌, subst, arith}
use Rattle.std.specs.Prelude.{nat_lt, nat_le}
use Rattle.std.specs.Option.{option_map_or}
use Rattle.std.proofs.lemmas.Bool.{and_parts, and_from, ltb-true, leb-true, lt-ltb, le-leb}
use Rattle.std.proofs.lemmas.List.{map-append}
use Rattle.cg_base.specs.Lists.{Each}
use Rattle.cg_base.specs.EachLaws.{Each-append, Each-list_all, Each-weaker, Each-take}
use Rattle.cg_base.specs.declared.action_id.ActionId.{ActionId}
use Rattle.cg_base.specs.Ids.{has_name, same_id}
use Rattle.cg_base.specs.IdLaws.{same_id-self}
use Rattle.cg_base.specs.Cuts.{index_in}
use Rattle.cg_base.specs.Sets.{IsId}
use Rattle.cg_action.specs.declared.action.Action.{Action}
use Rattle.cg_queue.specs.Queue.{green_count, names_of}
use Rattle.cg_client.specs.Queries.{view_of}
use Rattle.cg_client.specs.Replica.{Replica}
use Rattle.cg_client.specs.Chosen.{plain_reds}
use Rattle.cg_report.specs.declared.line.UpLine.{UpLine}
use Rattle.cg_report.specs.declared.line.View.{View}
use Rattle.cg_disk_records.specs.Holds.{Rising}
use Rattle.cg_disk_records.specs.CutRaiseLaws.{rising-behind}
use Rattle.cg_model.specs.World.{Node, World, no_world, node_of, replica_of}
use Rattle.cg_model.specs.Run.{Step, IsRunFrom, world_after}
use Rattle.cg_model.specs.Shown.{last_up, made_action, made_actions, made_names, order_of, ordered_actions}
use Rattle.cg_model.specs.Agreement.{known_actions}
use Rattle.cg_model.specs.Chronicle.{Chronicle, no_chronicle}
use Rattle.cg_model.specs.Noting.{chronicle_after}
use Rattle.cg_model.specs.Fronts.{Front}
use Rattle.cg_model.specs.Looks.{greens_of}
use Rattle.cg_model.specs.FactsBooks.{MadeFits, NodeMade, OrderFits}
use Rattle.cg_model.specs.FactsReplica.{IsCore}
use Rattle.cg_model.specs.Played.{StandsBeside, with_world}
use Rattle.cg_model.specs.Standing.{AlwaysStands}
use Rattle.cg_model.specs.Telling.{EveryRunTells, Tells}
use Rattle.cg_agree_lemmas.specs.FrontFacts.{take-Front}
use Rattle.cg_agree_lemmas.specs.HeldMarks.{counted}
use Rattle.cg_items.specs.RelaxedAgree.{known_by}
use Rattle.cg_items_agree.proofs.SameCells.{AreOf}
use Rattle.cg_items_agree.proofs.KnownNames.{AreUpTo, all-known, line-known}
use Rattle.cg_items_agree.proofs.LastLines.{IsLastLine, last-line}
use Rattle.cg_items_agree.proofs.MadeNames.{known-own, made-names}
use Rattle.cg_items_agree.proofs.RelaxedRun.{IsBeside}
use Rattle.cg_items_agree.proofs.ShownReds.{AreLow, reds-low}
use Rattle.cg_items_agree.proofs.SessionsHolding.{names-each}
use Rattle.cg_queue.specs.NameLaws.{names-count}

-- ---- lists

each-named : (ids : List ActionId) → Each (λ id. has_name ids id ≡ true) ids
each-named [] = tt
each-named (x ∷ ids) = (
  ap (λ b. b || has_name ids x) (same_id-self x),
  Each-weaker (λ id. has_name ids id ≡ true) (λ id. has_name (x ∷ ids) id ≡ true) (λ id there. or-later (same_id id x) (has_name ids id) there) ids (each-named ids),
) where
  or-later : (a b : Bool) → b ≡ true → (a || b) ≡ true
  or-later true b e = refl
  or-later false b e = e

names-low : (w : World) (list : List Action) → AreLow w list →
    Each (λ id. id.index ≤ index_in w.made id.creator) (names_of list)
names-low w [] low = tt
names-low w (a ∷ list) low = (low.0, names-low w list low.1)

-- ---- what stands behind the steps of a run

-- what a replica knows, as its last line tells it
pub record Knows (steps : List Step) (p : ℕ) (cut : List ActionId) : Type 0 where
  pub names : AreUpTo cut (names_of (known_by steps p))
  pub own : AreOf (made_action steps) (known_by steps p)
  pub low : (q : ℕ) → index_in cut q ≤ index_in (world_after no_world steps).made q
  pub ids : (q : ℕ) → 0 < index_in cut q → IsId q
  pub rising : Rising 0 cut

module _ (stand : AlwaysStands) (tell : EveryRunTells) (steps : List Step) (run : IsRunFrom no_world steps) (beside : IsBeside steps)
    (p : ℕ) (r : Replica) (up : replica_of (world_after no_world steps) p ≡ Some r) where
  abbrev c : Chronicle
  c = chronicle_after no_chronicle no_world steps

  abbrev w : World
  w = world_after no_world steps

  abbrev cut : List ActionId
  cut = r.held.queue.red_cut

  stands : StandsBeside c w
  stands = stand.beside c w beside.reached

  carried : MadeFits w × OrderFits c w
  carried = stand.carried c w beside.reached

  greens : List Action
  greens = greens_of c p

  core : IsCore c r.held greens
  unfolding greens
  core =
      let here : replica_of c.world p ≡ Some r = sym (stands.same.running p) ∙ up in
      subst (λ (o : Option Replica). IfSome o (λ r. IsCore c r.held (greens_of c p))) here (stands.facts.replica.cores.memory p)

  -- the greens are the first of the order
  ordered : take (green_count r.held.queue) w.order ≡ names_of greens
  unfolding greens
  ordered =
      let front = subst (λ (o : Option Replica). IfSome o (λ r. Front (names_of greens) w.order)) up (stands.rests.order_book.up p) in
      let count = counted c.start r.held greens (record { made_of = core.made_of; contiguous = core.contiguous; yellow_closed = core.yellow_closed }) in
      ap (λ n. take n w.order) (count ∙ sym (names-count greens)) ∙ sym (take-Front (names_of greens) w.order front)

  -- all that is known was shown as made
  all-low : Each (λ id. id.index ≤ index_in w.made id.creator) (names_of greens ++ names_of r.held.queue.reds)
  all-low =
      let of_order : Each (λ id. nat_le id.index (index_in w.made id.creator) ≡ true) w.order =
      Each-list_all (λ (id : ActionId). nat_le id.index (index_in w.made id.creator)) w.order stands.rests.order_book.made in
      let first : Each (λ id. id.index ≤ index_in w.made id.creator) (take (green_count r.held.queue) w.order) =
      Each-take (λ id. id.index ≤ index_in w.made id.creator) (green_count r.held.queue) w.order
      (Each-weaker (λ id. nat_le id.index (index_in w.made id.creator) ≡ true) (λ id. id.index ≤ index_in w.made id.creator)
      (λ id is. leb-true id.index (index_in w.made id.creator) is) w.order of_order) in
      Each-append (λ id. id.index ≤ index_in w.made id.creator) (names_of greens) (names_of r.held.queue.reds)
      (subst (Each (λ id. id.index ≤ index_in w.made id.creator)) ordered first)
      (names-low w r.held.queue.reds (reds-low c w stands carried.0 carried.1 p r up))

  cut-low : (q : ℕ) → index_in cut q ≤ index_in w.made q
  cut-low q = at (index_in cut q) refl where
    at : (n : ℕ) → index_in cut q ≡ n → index_in cut q ≤ index_in w.made q
    at zero is = omega arith
    at (suc n) is =
        let top : ActionId = record { creator = q; index = suc n } in
        let there : has_name (names_of greens ++ names_of r.held.queue.reds) top ≡ true =
        (all-known c r.held greens core).known top ∙ and_from (nat_lt 0 (suc n)) (nat_le (suc n) (index_in cut q)) (lt-ltb 0 (suc n) (omega arith)) (le-leb (suc n) (index_in cut q) (omega arith)) in
        let low = names-each (λ id. id.index ≤ index_in w.made id.creator) (names_of greens ++ names_of r.held.queue.reds) top all-low there in
        omega arith

  cut-ids : (q : ℕ) → 0 < index_in cut q → IsId q
  cut-ids q some = at (node_of w q) refl (carried.0.nodes q) where
    at : (o : Option Node) → node_of w q ≡ o → NodeMade (index_in w.made q) q o → IsId q
    at None e none = absurd (let low = cut-low q in let zero_made : index_in w.made q ≡ 0 = none in omega arith)
    at (Some s) e there = beside.ids.begun q (ap (λ (o : Option Node). is_some o) e)

  -- the names that the last line tells
  told : Tells steps (with_world c w)
  told = tell steps run

  line : IsLastLine steps p r
  line = last-line steps (with_world c w) told p r up

  line-names : List ActionId
  line-names = take (green_count r.held.queue) (order_of steps) ++ (r.held.queue.yellow ++ names_of (plain_reds r.held.queue))

  line-up-to : AreUpTo cut line-names
  unfolding line-names
  line-up-to =
      subst (λ (ids : List ActionId). AreUpTo cut (ids ++ (r.held.queue.yellow ++ names_of (plain_reds r.held.queue))))
      (sym (ap (take (green_count r.held.queue)) told.order ∙ ordered)) (line-known c r.held greens core)

  line-made : Each (λ id. has_name (made_names steps) id ≡ true) line-names
  line-made =
      Each-weaker (λ id. has_name line-names id ≡ true) (λ id. has_name (made_names steps) id ≡ true) (λ id there.
      let is = and_parts (nat_lt 0 id.index) (nat_le id.index (index_in cut id.creator)) (sym (line-up-to.known id) ∙ there) in
      let some = ltb-true 0 id.index is.0 in
      let most = leb-true id.index (index_in cut id.creator) is.1 in
      let low = cut-low id.creator in
      told.made id (omega arith) ∙ le-leb id.index (index_in w.made id.creator) (omega arith))
      line-names (each-named line-names)

  known-names : names_of (known_by steps p) ≡ line-names
  unfolding view_of line-names
  known-names =
      let parts = split-made in
      ap (λ (o : Option UpLine). names_of (option_map_or (known_actions steps) o [])) line.last
      ∙ ap (λ (v : View). names_of (ordered_actions steps v.green_count ++ made_actions steps (v.yellow.list ++ v.reds))) line.view
      ∙ map-append (λ (a : Action). a.id) (ordered_actions steps (green_count r.held.queue)) (made_actions steps (r.held.queue.yellow ++ names_of (plain_reds r.held.queue)))
      ∙ ap₂ (λ (xs ys : List ActionId). xs ++ ys) (made-names steps (take (green_count r.held.queue) (order_of steps)) parts.0)
      (made-names steps (r.held.queue.yellow ++ names_of (plain_reds r.held.queue)) parts.1)
    where
      each-parts : (P : ActionId → Type 0) (xs ys : List ActionId) → Each P (xs ++ ys) → Each P xs × Each P ys
      each-parts P [] ys each = (tt, each)
      each-parts P (x ∷ xs) ys each = (let rest = each-parts P xs ys each.1 in ((each.0, rest.0), rest.1))

      split-made : Each (λ id. has_name (made_names steps) id ≡ true) (take (green_count r.held.queue) (order_of steps))
          × Each (λ id. has_name (made_names steps) id ≡ true) (r.held.queue.yellow ++ names_of (plain_reds r.held.queue))
      split-made = each-parts (λ id. has_name (made_names steps) id ≡ true) (take (green_count r.held.queue) (order_of steps)) (r.held.queue.yellow ++ names_of (plain_reds r.held.queue)) line-made

  pub knows : Knows steps p cut
  knows = record {
    names = subst (AreUpTo cut) (sym known-names) line-up-to;
    own = known-by-own (last_up p steps);
    low = cut-low;
    ids = cut-ids;
    rising = subst (Rising 0) (sym core.made_of.red_cut) (rising-behind r.held.queue.green_cut (names_of r.held.queue.reds)
        (subst (Rising 0) (sym core.made_of.green_cut) (rising-behind [] (names_of greens) tt)));
  } where
    known-by-own : (o : Option UpLine) → AreOf (made_action steps) (option_map_or (known_actions steps) o [])
    known-by-own None = tt
    known-by-own (Some up) = known-own steps up

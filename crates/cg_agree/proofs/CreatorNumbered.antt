-- Each creator's actions stand in the order of a run as 1, 2, 3 and so on.
use Rattle.std.proofs.Common.{◌≡◌, ℕ, zero, suc, ◌≤◌, max, true, List, [], ◌∷◌, map, filter, length, take, refl, sym, ap, ap₂, ◌∙◌, subst, inl, inr, arith, eq-eqb}
use Rattle.std.specs.Prelude.{◌==◌}
use Rattle.std.proofs.lemmas.Bool.{cases_eq, cond-true, cond-false, ne_eqb}
use Rattle.cg_base.specs.declared.action_id.ActionId.{ActionId}
use Rattle.cg_base.specs.Cuts.{index_in, raise}
use Rattle.cg_base.specs.Lists.{count_up}
use Rattle.cg_action.specs.declared.action.Action.{Action}
use Rattle.cg_queue.specs.Queue.{names_of}
use Rattle.cg_wire.specs.declared.message.Msg.{Msg}
use Rattle.cg_group.specs.State.{GroupState}
use Rattle.cg_model.specs.World.{World, no_world}
use Rattle.cg_model.specs.Show.{Moved}
use Rattle.cg_model.specs.Run.{Step, IsRunFrom, world_after}
use Rattle.cg_model.specs.Shown.{order_of}
use Rattle.cg_model.specs.Chronicle.{Chronicle, no_chronicle}
use Rattle.cg_model.specs.Fronts.{Front}
use Rattle.cg_model.specs.Looks.{top_of}
use Rattle.cg_model.specs.Levels.{line_at, reached_at}
use Rattle.cg_model.specs.Noting.{chronicle_step, chronicle_after}
use Rattle.cg_disk_records.specs.Holds.{run_on, Rising}
use Rattle.cg_model.specs.Played.{StandsBeside, AreAdmitted, HoldsFrom, AlwaysHolds, with_world}
use Rattle.cg_agree_lemmas.specs.FrontFacts.{Front-take, take-Front}
use Rattle.cg_disk_records.specs.CutRaiseLaws.{rising-raise, index-same, index-other}
use Rattle.cg_disk_records.specs.RunMarkLaws.{run-head, run-rest}
use Rattle.cg_agree_lemmas.specs.OrderTold.{order_told}
use Rattle.cg_agree.proofs.OneLine.{IsOnTop}
use Rattle.cg_agree.proofs.OrderOnTop.{on_top-runs}
use Rattle.cg_queue.specs.NameLaws.{names-count}

-- ---- names that run on

own_of : ℕ → List ActionId → List ActionId
own_of p ids = filter (λ id. id.creator == p) ids

runs-numbered : (p : ℕ) (cut ids : List ActionId) → Rising 0 cut → run_on cut ids ≡ true →
    map (λ id. id.index) (own_of p ids) ≡ count_up (suc (index_in cut p)) (length (own_of p ids))
unfolding own_of
runs-numbered p cut [] rising run = refl
runs-numbered p cut (id ∷ ids) rising run =
    let rest = runs-numbered p (raise cut id) ids (rising-raise cut id rising) (run-rest cut id ids run) in
    elim (cases_eq id.creator p) [
      | inl mine ↦
          let here : own_of p (id ∷ ids) ≡ id ∷ own_of p ids = cond-true (id.creator == p) (id ∷ own_of p ids) (own_of p ids) (eq-eqb id.creator p mine) in
          let next : id.index ≡ suc (index_in cut id.creator) = run-head cut id ids run in
          let at : index_in cut id.creator ≡ index_in cut p = ap (index_in cut) mine in
          let raised : index_in (raise cut id) p ≡ max (index_in cut p) id.index = index-same cut id rising p mine in
          let now : index_in (raise cut id) p ≡ suc (index_in cut p) = omega arith in
          let first : id.index ≡ suc (index_in cut p) = omega arith in
          subst (λ (xs : List ActionId). map (λ id. id.index) xs ≡ count_up (suc (index_in cut p)) (length xs)) (sym here)
          (ap₂ (λ (n : ℕ) (ns : List ℕ). n ∷ ns) first (rest ∙ ap (λ n. count_up (suc n) (length (own_of p ids))) now))
      | inr other ↦
          let here : own_of p (id ∷ ids) ≡ own_of p ids = cond-false (id.creator == p) (id ∷ own_of p ids) (own_of p ids) (ne_eqb id.creator p other) in
          subst (λ (xs : List ActionId). map (λ id. id.index) xs ≡ count_up (suc (index_in cut p)) (length xs)) (sym here)
          (rest ∙ ap (λ n. count_up (suc n) (length (own_of p ids))) (index-other cut id rising p other))
    ]

-- ---- a run and its chronicle

pub admitted-of : (w : World) (steps : List Step) → IsRunFrom w steps → AreAdmitted w (map (λ s. s.event) steps)
admitted-of w [] run = tt
admitted-of w (s ∷ steps) run =
    (run.0, run.1, subst (λ (v : World). AreAdmitted v (map (λ s. s.event) steps)) (ap (λ (m : Moved). m.world) run.2) (admitted-of s.world steps run.3))

pub stands-behind : (c : Chronicle) (w : World) (steps : List Step) → IsRunFrom w steps → HoldsFrom c w (map (λ s. s.event) steps) → StandsBeside (chronicle_after c w steps) (world_after w steps)
stands-behind c w [] run holds = holds
stands-behind c w (s ∷ steps) run holds =
    stands-behind (chronicle_step c w s.event) s.world steps run.3
    (subst (λ (v : World). HoldsFrom (chronicle_step c w s.event) v (map (λ s. s.event) steps)) (sym (ap (λ (m : Moved). m.world) run.2)) holds.1)

-- the chronicle that stands beside the world behind a run
pub stands-of : AlwaysHolds → (steps : List Step) → IsRunFrom no_world steps → StandsBeside (chronicle_after no_chronicle no_world steps) (world_after no_world steps)
stands-of always steps run = stands-behind no_chronicle no_world steps run (always (map (λ s. s.event) steps) (admitted-of no_world steps run))

-- ---- the order

pub names-take : (n : ℕ) (list : List Action) → names_of (take n list) ≡ take n (names_of list)
names-take zero list = refl
names-take (suc n) [] = refl
names-take (suc n) (a ∷ list) = ap (λ ids. a.id ∷ ids) (names-take n list)

-- the actions that the order names
pub record IsOrderOf (c : Chronicle) (order : List ActionId) : Type 0 where
  pub list : List Action
  pub names : order ≡ names_of list
  pub on_top : IsOnTop c list

pub order-on_top : (c : Chronicle) (w : World) → StandsBeside c w → IsOrderOf c w.order
order-on_top c w stands =
    let top = top_of c in
    let book = stands.rests.order_book in
    let grouped : GroupState Msg → Chronicle = λ g. with_world c (record w { group = g }) in
    let line : Front w.order (names_of (line_at c top)) = subst (λ (g : GroupState Msg). Front w.order (names_of (line_at (grouped g) top))) stands.same.group book.line in
    let reached : length w.order ≤ reached_at c top = subst (λ (g : GroupState Msg). length w.order ≤ reached_at (grouped g) top) stands.same.group book.reached in
    let list = take (length w.order) (line_at c top) in
    let names : w.order ≡ names_of list = take-Front w.order (names_of (line_at c top)) line ∙ sym (names-take (length w.order) (line_at c top)) in
    let count : length list ≡ length w.order = sym (ap length names ∙ names-count list) in
    record { list = list; names = names; on_top = record { front = Front-take (length w.order) (line_at c top); count = omega arith } }

pub order-runs : (c : Chronicle) (w : World) → StandsBeside c w → run_on [] w.order ≡ true
order-runs c w stands =
    let is = order-on_top c w stands in
    ap (run_on []) is.names ∙ on_top-runs c stands.facts is.list is.on_top

-- Each creator's actions stand in the order as 1, 2, 3 and so on.
pub creator-numbered : AlwaysHolds → (steps : List Step) → IsRunFrom no_world steps → (p : ℕ) →
    (let own = filter (λ id. id.creator == p) (order_of steps) in map (λ id. id.index) own ≡ count_up 1 (length own))
unfolding own_of
creator-numbered always steps run p =
    let runs = order-runs (chronicle_after no_chronicle no_world steps) (world_after no_world steps) (stands-of always steps run) in
    let told : (world_after no_world steps).order ≡ order_of steps = order_told no_world steps run in
    runs-numbered p [] (order_of steps) tt (subst (λ (ids : List ActionId). run_on [] ids ≡ true) told runs)

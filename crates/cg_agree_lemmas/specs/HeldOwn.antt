-- Own actions that become red all do, and the last index created stays as it was.
use Rattle.std.proofs.Common.{◌≡◌, List, [], ◌∷◌, max, fold, refl, ap, ◌∙◌, arith}
use Rattle.std.specs.Prelude.{true}
use Rattle.cg_base.specs.declared.weighted.Weighted.{Weighted}
use Rattle.cg_base.specs.Cuts.{index_in}
use Rattle.cg_action.specs.declared.action.Action.{Action}
use Rattle.cg_queue.specs.Queue.{names_of}
use Rattle.cg_queue.specs.MarkLaws.{red-placed}
use Rattle.cg_client.specs.Replica.{Held, created, last_index}
use Rattle.cg_client.specs.Turn.{Turn}
use Rattle.cg_client.specs.Marks.{marked, after_first}
use Rattle.cg_client.specs.Summary.{redden, forget_own, own_to_red}
use Rattle.cg_disk_records.specs.Holds.{run_on, cut_behind}
use Rattle.cg_disk_records.specs.RunMarkLaws.{run-head, run-rest}
use Rattle.cg_agree_lemmas.specs.HeldMarks.{IsOneself, rising-red}
use Rattle.cg_disk_records.specs.HeldLaws.{created-behind}

pub record AllRed (old new : Held) (list : List Action) : Type 0 where
  pub id : new.id ≡ old.id
  pub own : new.own ≡ []
  pub red_cut : new.queue.red_cut ≡ cut_behind old.queue.red_cut (names_of list)

reddens : (t : Turn) (list : List Action) → t.replica.held.own ≡ [] → run_on t.replica.held.queue.red_cut (names_of list) ≡ true →
    AllRed t.replica.held (fold redden t list).replica.held list
reddens t [] none run = record { id = refl; own = none; red_cut = refl }
reddens t (a ∷ list) none run =
    let q = t.replica.held.queue in
    let next = run-head q.red_cut a.id (names_of list) run in
    let u = redden t a in
    let placed = ap (marked t a) (red-placed q a next) in
    let own : u.replica.held.own ≡ [] = ap (λ (v : Turn). v.replica.held.own) placed ∙ ap (λ o. after_first o a.id) none in
    let cut = ap (λ (v : Turn). v.replica.held.queue.red_cut) placed in
    let id = ap (λ (v : Turn). v.replica.held.id) placed in
    let rest = reddens u list own (ap (λ c. run_on c (names_of list)) cut ∙ run-rest q.red_cut a.id (names_of list) run) in
    record { id = rest.id ∙ id; own = rest.own; red_cut = rest.red_cut ∙ ap (λ c. cut_behind c (names_of list)) cut }

pub own-reddened : (start : List Weighted) (all : List Action) (t : Turn) → IsOneself start t.replica.held all →
    AllRed t.replica.held (own_to_red t).replica.held t.replica.held.own
unfolding own_to_red
own-reddened start all t is =
    let rest = reddens (forget_own t) t.replica.held.own refl is.contiguous.own in
    record { id = rest.id; own = rest.own; red_cut = rest.red_cut }

pub created-same : (start : List Weighted) (all : List Action) (t : Turn) → IsOneself start t.replica.held all →
    created (own_to_red t).replica.held ≡ created t.replica.held
created-same start all t is =
    let h = t.replica.held in
    let new = (own_to_red t).replica.held in
    let g = own-reddened start all t is in
    let none : last_index new.own ≡ 0 = ap last_index g.own in
    let reached : index_in new.queue.red_cut new.id ≡ max (index_in h.queue.red_cut h.id) (last_index h.own) =
    ap (index_in new.queue.red_cut) g.id ∙ ap (λ c. index_in c h.id) g.red_cut
    ∙ created-behind h.queue.red_cut h.id h.own (rising-red start h all is) is.contiguous.own is.contiguous.mine in
    omega arith

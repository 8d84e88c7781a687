-- The names of some actions, one after another.
use Rattle.std.specs.Prelude.{◌≡◌, refl, Bool, not, filter, List, [], ◌∷◌}
use Rattle.std.proofs.Common.{ap, sym, ◌∙◌, ⊎_elim}
use Rattle.std.proofs.lemmas.Bool.{cases_Bool}
use Rattle.cg_base.specs.SetLaws.{filter-keeps, filter-drops}
use Rattle.cg_base.specs.declared.action_id.ActionId.{ActionId}
use Rattle.cg_action.specs.declared.action.Action.{Action}
use Rattle.cg_queue.specs.Queue.{names_of}

-- names are chosen before or behind
pub names-filter : (f : ActionId → Bool) (list : List Action) → filter (λ id. not (f id)) (names_of list) ≡ names_of (filter (λ a. not (f a.id)) list)
names-filter f [] = refl
names-filter f (a ∷ list) =
    let p : Action → Bool = λ a. not (f a.id) in
    let q : ActionId → Bool = λ id. not (f id) in
    ⊎_elim
    (λ y. filter-keeps q a.id (names_of list) y ∙ ap (λ ids. a.id ∷ ids) (names-filter f list) ∙ ap names_of (sym (filter-keeps p a list y)))
    (λ n. filter-drops q a.id (names_of list) n ∙ names-filter f list ∙ ap names_of (sym (filter-drops p a list n)))
    (cases_Bool (not (f a.id)))

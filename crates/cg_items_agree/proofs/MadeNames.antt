-- The made actions of names: each is the one of its name, and where all names were shown as made, they have these names.
use Rattle.std.proofs.Common.{◌≡◌, true, List, [], ◌∷◌, ◌++◌, map, take, Option, Some, None, refl, ap, ap₂, ◌∙◌}
use Rattle.cg_base.specs.EachLaws.{Each-append}
use Rattle.cg_base.specs.declared.action_id.ActionId.{ActionId}
use Rattle.cg_base.specs.Ids.{same_id, has_name}
use Rattle.cg_base.specs.Lists.{present, Each}
use Rattle.cg_base.specs.IdLaws.{same_id-is}
use Rattle.cg_base.specs.FindLaws.{found_passes}
use Rattle.cg_action.specs.declared.action.Action.{Action}
use Rattle.cg_queue.specs.Queue.{names_of}
use Rattle.cg_report.specs.declared.line.UpLine.{UpLine}
use Rattle.cg_model.specs.Run.{Step}
use Rattle.cg_model.specs.Shown.{made_names, made_from, made_action, made_actions, order_of, ordered_actions}
use Rattle.cg_model.specs.Agreement.{known_actions}
use Rattle.cg_agree_lemmas.specs.BookGrows.{named_in, found-more, named-found}
use Rattle.cg_items_agree.proofs.SameCells.{AreOf}
use Rattle.cg_model.specs.MadeLaws.{names-from, made-append}

-- ---- each is the one of its name

pub action-name : (steps : List Step) (id : ActionId) (a : Action) → made_action steps id ≡ Some a → a.id ≡ id
action-name steps id a e = same_id-is a.id id (found_passes (λ (a : Action). same_id a.id id) (made_from [] steps) a e)

pub made-own : (steps : List Step) (ids : List ActionId) → AreOf (made_action steps) (made_actions steps ids)
made-own steps [] = tt
made-own steps (id ∷ ids) = at (made_action steps id) refl (made-own steps ids) where
  at : (o : Option Action) → made_action steps id ≡ o → AreOf (made_action steps) (made_actions steps ids) →
      AreOf (made_action steps) (present (o ∷ map (made_action steps) ids))
  at None e rest = rest
  at (Some a) e rest = (ap (made_action steps) (action-name steps id a e) ∙ e, rest)

pub known-own : (steps : List Step) (up : UpLine) → AreOf (made_action steps) (known_actions steps up)
known-own steps up =
    Each-append (λ a. made_action steps a.id ≡ Some a) (ordered_actions steps up.view.green_count) (made_actions steps (up.view.yellow.list ++ up.view.reds))
    (made-own steps (take up.view.green_count (order_of steps))) (made-own steps (up.view.yellow.list ++ up.view.reds))

-- ---- the names of what was made

pub record IsMadeAs (steps : List Step) (id : ActionId) : Type 0 where
  pub action : Action
  pub found : made_action steps id ≡ Some action
  pub name : action.id ≡ id

pub made-as : (steps : List Step) (id : ActionId) → has_name (made_names steps) id ≡ true → IsMadeAs steps id
made-as steps id shown =
    let is = named-found (made_from [] steps) id (ap (λ ids. has_name ids id) (names-from [] steps) ∙ shown) in
    record { action = is.action; found = is.found; name = is.name }

pub made-names : (steps : List Step) (ids : List ActionId) → Each (λ id. has_name (made_names steps) id ≡ true) ids →
    names_of (made_actions steps ids) ≡ ids
made-names steps [] each = refl
made-names steps (id ∷ ids) each =
    let is = made-as steps id each.0 in
    ap (λ (o : Option Action). names_of (present (o ∷ map (made_action steps) ids))) is.found
    ∙ ap₂ (λ (x : ActionId) (xs : List ActionId). x ∷ xs) is.name (made-names steps ids each.1)

-- ---- one step more

pub own-later : (a b : List Step) (list : List Action) → AreOf (made_action a) list → AreOf (made_action (a ++ b)) list
own-later a b [] each = tt
own-later a b (x ∷ list) each = (
  ap (λ (xs : List Action). named_in xs x.id) (made-append [] a b) ∙ found-more (made_from [] a) (made_from a b) x.id x each.0,
  own-later a b list each.1,
)

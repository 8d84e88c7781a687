-- The actions of the first places of the order, as they were shown as made, are those of the book with these names.
use Rattle.std.proofs.Common.{◌≡◌, true, List, [], ◌∷◌, map, Option, Some, Contains, refl, sym, ap, ◌∙◌, subst, arith}
use Rattle.std.specs.Option.{option_map_or}
use Rattle.cg_base.specs.declared.action_id.ActionId.{ActionId}
use Rattle.cg_base.specs.Ids.{has_name}
use Rattle.cg_base.specs.Lists.{present, Each}
use Rattle.cg_action.specs.declared.action.Action.{Action}
use Rattle.cg_queue.specs.Queue.{names_of}
use Rattle.cg_model.specs.World.{World}
use Rattle.cg_model.specs.Run.{Step}
use Rattle.cg_model.specs.Shown.{made_names, made_action, made_actions}
use Rattle.cg_model.specs.Telling.{made_of}
use Rattle.cg_model.specs.Chronicle.{Chronicle}
use Rattle.cg_model.specs.Fronts.{Front}
use Rattle.cg_model.specs.Played.{StandsBeside}
use Rattle.cg_agree_lemmas.specs.BookGrows.{IsNamed, named_in, named-all, named-found}
use Rattle.cg_agree.proofs.MadeTold.{IsMadeTold, as-made}
use Rattle.cg_agree.proofs.OrderReached.{order-named}
use Rattle.cg_base.specs.ElementLaws.{each-contains}
use Rattle.cg_model.specs.MadeLaws.{names-from}

-- ---- actions of the book

module _ (steps : List Step) (c : Chronicle) (w : World) (stands : StandsBeside c w) (told : IsMadeTold steps c w) where
  -- an action of the book whose name was shown is the one that was shown
  pub record IsShownAs (a : Action) : Type 0 where
    pub found : made_action steps a.id ≡ Some a
    pub there : Contains (made_of steps) a

  pub shown-as : (a : Action) → IsNamed c.book a → has_name (made_names steps) a.id ≡ true → IsShownAs a
  shown-as a booked shown =
      let is = named-found (made_of steps) a.id (ap (λ ids. has_name ids a.id) (names-from [] steps) ∙ shown) in
      let itself : IsNamed c.book is.action = each-contains (IsNamed c.book) c.book is.action (named-all [] c.book stands.facts.replica.made_once.numbered) (as-made steps c w told is.action is.there) in
      let same : Some is.action ≡ Some a = sym itself ∙ ap (named_in c.book) is.name ∙ booked in
      record { found = is.found ∙ same; there = subst (Contains (made_of steps)) (ap (λ o. option_map_or (λ x. x) o a) same) is.there }

  pub each-as : (list : List Action) (ids : List ActionId) → Front (names_of list) ids → Each (λ id. has_name (made_names steps) id ≡ true) ids → Each (IsNamed c.book) list → Each IsShownAs list
  each-as [] ids front shown booked = tt
  each-as (a ∷ list) [] front shown booked = absurd front
  each-as (a ∷ list) (id ∷ ids) front shown booked =
      (shown-as a booked.0 (ap (has_name (made_names steps)) front.0 ∙ shown.0), each-as list ids front.1 shown.1 booked.1)

  -- actions of the book whose names begin the order
  pub each-shown_as : (list : List Action) → Front (names_of list) w.order → Each (IsNamed c.book) list → Each IsShownAs list
  each-shown_as list front booked = each-as list w.order front (order-named steps c w stands told) booked

  pub all-as : (list : List Action) → Each IsShownAs list → made_actions steps (names_of list) ≡ list
  all-as [] each = refl
  all-as (a ∷ list) each = ap (λ (o : Option Action). present (o ∷ map (made_action steps) (names_of list))) each.0.found ∙ ap (λ xs. a ∷ xs) (all-as list each.1)

  pub ordered-as : (list : List Action) → Front (names_of list) w.order → Each (IsNamed c.book) list → made_actions steps (names_of list) ≡ list
  ordered-as list front booked = all-as list (each-shown_as list front booked)

-- fronts of names are fronts of the actions of a book
pub booked-front : (book xs ys : List Action) → Front (names_of xs) (names_of ys) → Each (IsNamed book) xs → Each (IsNamed book) ys → Front xs ys
booked-front book [] ys front named other = tt
booked-front book (x ∷ xs) [] front named other = absurd front
booked-front book (x ∷ xs) (y ∷ ys) front named other =
    let same : Some x ≡ Some y = sym named.0 ∙ ap (named_in book) front.0 ∙ other.0 in
    (ap (λ o. option_map_or (λ z. z) o x) same, booked-front book xs ys front.1 named.1 other.1)

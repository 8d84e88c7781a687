-- The actions of a front of the order, as the steps of a run have shown them, are those that replicas have there.
use Rattle.std.proofs.Common.{◌≡◌, List, [], take, length, Some, sym, ap, ◌∙◌, subst}
use Rattle.cg_base.specs.Lists.{Each}
use Rattle.cg_base.specs.EachLaws.{Each-weaker}
use Rattle.cg_action.specs.declared.action.Action.{Action}
use Rattle.cg_queue.specs.Queue.{names_of}
use Rattle.cg_model.specs.Chronicle.{Chronicle}
use Rattle.cg_model.specs.Fronts.{Front}
use Rattle.cg_model.specs.FactsReplica.{AreBooked}
use Rattle.cg_model.specs.Run.{Step}
use Rattle.cg_model.specs.Shown.{order_of, made_action, made_actions, ordered_actions}
use Rattle.cg_model.specs.World.{World}
use Rattle.cg_agree_lemmas.specs.FrontFacts.{take-Front}
use Rattle.cg_agree.proofs.OrderedActions.{IsShownAs, each-shown_as, ordered-as}
use Rattle.cg_agree.proofs.RunSteps.{StandsFor}
use Rattle.cg_agree_lemmas.specs.BookedCores.{each-booked}
use Rattle.cg_queue.specs.NameLaws.{names-count}
use Rattle.cg_model.specs.RunLaws.{world_of, chronicle_of}

module _ (steps : List Step) (f : StandsFor steps) where
  abbrev c : Chronicle
  c = chronicle_of steps

  abbrev w : World
  w = world_of steps

  in-world : (list : List Action) → Front (names_of list) (order_of steps) → Front (names_of list) w.order
  in-world list front = subst (Front (names_of list)) f.tells.order front

  pub each-action : (list : List Action) → Front (names_of list) (order_of steps) → AreBooked c list → Each (λ a. made_action steps a.id ≡ Some a) list
  each-action list front booked =
      Each-weaker (IsShownAs steps c w f.stands f.told) (λ a. made_action steps a.id ≡ Some a) (λ a x. x.found) list
      (each-shown_as steps c w f.stands f.told list (in-world list front) (each-booked c list booked))

  pub actions-shown : (list : List Action) → Front (names_of list) (order_of steps) → AreBooked c list → made_actions steps (names_of list) ≡ list
  actions-shown list front booked = ordered-as steps c w f.stands f.told list (in-world list front) (each-booked c list booked)

  -- up to so many
  pub ordered-shown : (list : List Action) → Front (names_of list) (order_of steps) → AreBooked c list → ordered_actions steps (length list) ≡ list
  ordered-shown list front booked =
      ap (made_actions steps) (ap (λ n. take n (order_of steps)) (sym (names-count list)) ∙ sym (take-Front (names_of list) (order_of steps) front)) ∙ actions-shown list front booked

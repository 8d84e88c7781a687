use Rattle.std.proofs.Common.{[], ◌∷◌, sym, ap, ◌∙◌, is_none}
use Rattle.cg_base.specs.Lists.{first_some, at_place}
use Rattle.cg_group.specs.declared.reason.Reason.TheVariants.{NoSuchPlace}
use Rattle.cg_group.specs.Refusals.{not_up, not_regular, no_such_place, receive_refusal, refuse}
use Rattle.cg_group.specs.Logs.{place_refusal}
use Rattle.cg_base.specs.ListLaws.{at_place-nil}
use Rattle.cg_group.proofs.FirstReasons.{first_here, first_later, first_two}
use Rattle.cg_group.proofs.group.Group.receive_refusal.Goals as goal

pub returns-in-Some : goal.returns-in-Some
unfolding receive_refusal
returns-in-Some g c =
    sym (first_two (not_up c.args.self.now c.args.p) (not_regular c.args.self.now c.args.p) _
    ∙ first_here (first_some (not_up c.args.self.now c.args.p ∷ not_regular c.args.self.now c.args.p ∷ [])) _ c.in-Some.reason (sym c.not_regular.ensures ∙ c.in-Some.is))

pub returns-in-Some-home : goal.returns-in-Some-home
unfolding receive_refusal
returns-in-Some-home g c =
    c.place_refusal.ensures ∙ ap (λ x. place_refusal x c.args.p c.args.place) (sym c.in-Some-home.ensures)
    ∙ sym (first_two (not_up c.args.self.now c.args.p) (not_regular c.args.self.now c.args.p) _
    ∙ first_later (first_some (not_up c.args.self.now c.args.p ∷ not_regular c.args.self.now c.args.p ∷ [])) _ (sym c.not_regular.ensures ∙ c.in-None.is))

pub returns-in-None-home : goal.returns-in-None-home
unfolding receive_refusal
returns-in-None-home g c =
    sym (first_two (not_up c.args.self.now c.args.p) (not_regular c.args.self.now c.args.p) _
    ∙ first_later (first_some (not_up c.args.self.now c.args.p ∷ not_regular c.args.self.now c.args.p ∷ [])) _ (sym c.not_regular.ensures ∙ c.in-None.is)
    ∙ first_here (no_such_place c.args.self.now c.args.p c.args.place) _ (NoSuchPlace c.args.place)
    (ap (λ x. refuse (is_none (at_place x.ordered c.args.place)) (NoSuchPlace c.args.place)) c.in-None-home.ensures
    ∙ ap (λ o. refuse (is_none o) (NoSuchPlace c.args.place)) (at_place-nil c.args.place)))

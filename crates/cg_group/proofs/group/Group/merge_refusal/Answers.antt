use Rattle.std.proofs.Common.{sym, ap, ◌∙◌, is_none}
use Rattle.cg_group.specs.declared.reason.Reason.TheVariants.{EmptySet}
use Rattle.cg_group.specs.Refusals.{empty_set, refuse, any_of, not_up, still_regular, not_together, merge_refusal}
use Rattle.cg_group.proofs.FirstReasons.{first_here, first_later, first_last}
use Rattle.cg_group.proofs.group.Group.merge_refusal.Goals as goal

pub returns-in-None : goal.returns-in-None
unfolding merge_refusal
returns-in-None g c =
    sym (first_here (empty_set c.args.set.now) _ EmptySet (ap (λ o. refuse (is_none o) EmptySet) (sym c.least.ensures ∙ c.in-None.is)))

pub returns-in-Some-first_down : goal.returns-in-Some-first_down
unfolding merge_refusal
returns-in-Some-first_down g c =
    let some = ap (λ o. refuse (is_none o) EmptySet) (sym c.least.ensures ∙ c.in-Some.is) in
    sym (first_later (empty_set c.args.set.now) _ some
    ∙ first_here (any_of (not_up c.args.self.now) c.args.set.now) _ c.in-Some-first_down.reason (sym c.first_down.ensures ∙ c.in-Some-first_down.is))

pub returns-in-Some-first_regular : goal.returns-in-Some-first_regular
unfolding merge_refusal
returns-in-Some-first_regular g c =
    let some = ap (λ o. refuse (is_none o) EmptySet) (sym c.least.ensures ∙ c.in-Some.is) in
    sym (first_later (empty_set c.args.set.now) _ some
    ∙ first_later (any_of (not_up c.args.self.now) c.args.set.now) _ (sym c.first_down.ensures ∙ c.in-None-first_down.is)
    ∙ first_here (any_of (still_regular c.args.self.now) c.args.set.now) _ c.in-Some-first_regular.reason (sym c.first_regular.ensures ∙ c.in-Some-first_regular.is))

pub returns : goal.returns
unfolding merge_refusal
returns g c =
    let some = ap (λ o. refuse (is_none o) EmptySet) (sym c.least.ensures ∙ c.in-Some.is) in
    c.first_missing.ensures
    ∙ sym (first_later (empty_set c.args.set.now) _ some
    ∙ first_later (any_of (not_up c.args.self.now) c.args.set.now) _ (sym c.first_down.ensures ∙ c.in-None-first_down.is)
    ∙ first_later (any_of (still_regular c.args.self.now) c.args.set.now) _ (sym c.first_regular.ensures ∙ c.in-None-first_regular.is)
    ∙ first_last (not_together c.args.self.now c.args.set.now c.args.left.now))

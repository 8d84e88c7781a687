use Rattle.std.proofs.Common.{◌≡◌, Some, [], ◌∷◌, refl, sym, subst, ◌∙◌}
use Rattle.cg_group.specs.Refusals.{any_of, empty_set, not_up, merge_refusal}
use Rattle.cg_schedule.specs.declared.event.Event.TheVariants.{Merge}
use Rattle.cg_model.specs.World.{World, left_replicas}
use Rattle.cg_model.specs.Show.{StepInProgress}
use Rattle.cg_model.specs.Admission.{first_refusal, unknown, has_left}
use Rattle.cg_world_events.proofs.FirstReasons.{first_before}
use Rattle.cg_world_events.proofs.grouping.merge.Goals as goal

pub returns-in-Some : goal.returns-in-Some
unfolding first_refusal
returns-in-Some c =
    let w = c.deref.result.now in
    let set = c.args.set in (
      subst (λ (g : StepInProgress). first_refusal g.world (Merge set) ≡ Some c.in-Some.reason) c.going.view_is
          (subst (λ (w : World). first_refusal w (Merge set) ≡ Some c.in-Some.reason) c.deref.ensures
          (first_before (empty_set set ∷ any_of (unknown w) set ∷ any_of (not_up w.group) set ∷ any_of (has_left w) set ∷ []) (merge_refusal w.group set (left_replicas w) ∷ [])
          c.in-Some.reason (sym c.merge_refused.ensures ∙ c.in-Some.is))),
      refl,
    )

use Rattle.std.proofs.Common.{◌≡◌, ◌++◌, OnOk, ap, ◌∙◌, subst}
use Rattle.serde_json.specs.View.{view}
use Rattle.serde_json.specs.Written.{has_float}
use Rattle.cg_json.specs.JsonText.{step_object, object_line}
use Rattle.cg_json.proofs.Reread.{step_object_has_no_float}
use Rattle.cg_json.proofs.objects.put_step.Goals as goal

pub returns-clause-ok : goal.returns-clause-ok
returns-clause-ok c = λ texts are.
    let is : view c.in_ok-object.object ≡ step_object c.args.step texts = c.in_ok-object.ensures texts are in
    subst (λ d. OnOk c.put_object.result (c.put_object.new.out.items ≡ c.args.out.now.items ++ object_line d)) is
    (c.put_object.ensures.ok (ap has_float is ∙ step_object_has_no_float c.args.step texts))

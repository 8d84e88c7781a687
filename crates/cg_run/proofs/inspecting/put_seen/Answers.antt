use Rattle.std.proofs.Common.{◌≡◌, sym, subst, ◌∙◌}
use Rattle.cg_image.specs.Inspecting.{Inspected, NotAnImage, NotAStore, inspected}
use Rattle.cg_items.specs.declared.report.Report.TheVariants.{Inspected as InspectedReport}
use Rattle.cg_outcome.specs.InspectionLaws.{told-none, told-no_store}
use Rattle.cg_outcome.specs.Outcome.{seen_in}
use Rattle.cg_outcome.specs.Produced.{status_of, text_of}
use Rattle.cg_outcome.specs.Putting.{StopsWith}
use Rattle.cg_run.proofs.inspecting.put_seen.Goals as goal

pub returns-in-Ok-NotAnImage : goal.returns-in-Ok-NotAnImage
returns-in-Ok-NotAnImage g c =
    let x = inspected c.args.bytes.now in
    let is : x ≡ NotAnImage = told-none x (sym c.in-Ok-NotAnImage.ensures ∙ c.in-Ok-NotAnImage.field-0-is) in
    subst (λ (x : Inspected). StopsWith (text_of InspectedReport (seen_in x)) (status_of (seen_in x)) (g.K.Sink.view c.args.output.now) (g.K.Sink.view c.finish.new.output) c.finish.result)
    (sym is) c.finish.ensures

pub returns-in-Ok-NotAStore : goal.returns-in-Ok-NotAStore
returns-in-Ok-NotAStore g c =
    let x = inspected c.args.bytes.now in
    let is : x ≡ NotAStore = told-no_store x (sym c.in-Ok-NotAStore.ensures ∙ c.in-Ok-NotAStore.field-0-is) in
    subst (λ (x : Inspected). StopsWith (text_of InspectedReport (seen_in x)) (status_of (seen_in x)) (g.K.Sink.view c.args.output.now) (g.K.Sink.view c.finish-in-Ok-NotAStore.new.output) c.finish-in-Ok-NotAStore.result)
    (sym is) c.finish-in-Ok-NotAStore.ensures

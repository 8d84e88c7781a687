use Rattle.std.proofs.Common.{◌≡◌, ◌∙◌, true, refl, ap}
use Rattle.std.proofs.Output.{has_written_append, has_written_of_eq}
use Rattle.cg_base.specs.IdRuns.{ids_of, ids_in}
use Rattle.cg_base.specs.Text.{id_text, with_commas}
use Rattle.cg_base.proofs.RunLemmas.{text_runs}
use Rattle.cg_base.proofs.display.IdRunsDisplay.fmt.Goals as goal

pub returns-clause-writes : goal.returns-clause-writes
returns-clause-writes g c plain ok =
    let runs = c.as_slice.result.now in
    let same : with_commas (λ run. with_commas id_text (ids_of run)) runs ≡ with_commas id_text c.args.self.now =
    text_runs runs ∙ ap (λ rs. with_commas id_text (ids_in rs)) c.as_slice.ensures.value ∙ ap (with_commas id_text) c.self.view_is in
    let opened = c.in_ok-write_str.ensures.writes plain (refl {a = true}) in
    let named = c.in_ok-write_runs.ensures opened.plain (refl {a = true}) in
    let closed = c.write_str-2.ensures.writes named.plain ok in
    has_written_append _ _ _ _ _ _ opened (has_written_append _ _ _ _ _ _ (has_written_of_eq _ _ _ _ _ same named) closed)

use Rattle.std.proofs.Common.{◌≡◌, ◌==◌, ◌++◌, false, Some, sym, subst, ◌∙◌, rules}
use Rattle.std.proofs.lemmas.List.Elements.{All-append}
use Rattle.cg_outcome.specs.Outcome.{Open}
use Rattle.cg_outcome.specs.Streaming.{held_limit}
use Rattle.cg_outcome.specs.StageLaws.{from-held, last-passed}
use Rattle.cg_run.specs.Performing.{seen_stage}
use Rattle.cg_run.proofs.progress.Run.hold_rest.Goals as goal
use Rattle.cg_outcome.specs.Stopping.{Stopped}

pub returns-in-Some : goal.returns-in-Some
returns-in-Some g c =
    let r = c.args.self.now in
    let st = seen_stage r in
    let bytes = c.args.held.now.items ++ c.args.rest.now in
    let passed : held_limit st.line st.at bytes ≡ Some c.in-Some.what = search rules in
    let unended = All-append (λ b. (b == 10) ≡ false) c.args.held.now.items c.args.rest.now c.requires.unended c.requires.unended_rest in
    subst (λ p. Stopped r.report p (g.K.Sink.view c.args.output.now) (g.K.Sink.view c.end.new.output) c.end.result)
    (sym (from-held st bytes Open unended ∙ last-passed st.line st.at bytes Open st.progress c.in-Some.what passed)) c.end.ensures

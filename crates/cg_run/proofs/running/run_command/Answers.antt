use Rattle.std.proofs.Common.{◌≡◌, [], refl, Option, Some, None, sym, ap, subst, ◌∙◌}
use Rattle.cg_io.specs.Outside.{SourceView, SinkView}
use Rattle.cg_items.specs.declared.companion.Companion.{Companion}
use Rattle.cg_items.specs.declared.report.Report.{Report}
use Rattle.cg_model.specs.World.{World}
use Rattle.cg_outcome.specs.declared.status.Status.{Status}
use Rattle.cg_outcome.specs.Streaming.{Replays}
use Rattle.cg_outcome.specs.Outcome.{Open}
use Rattle.cg_outcome.specs.declared.command.Command.{Command}
use Rattle.cg_outcome.specs.declared.command.Command.TheVariants.{Replay, Generate, Trial, Follow, Relaxed, Sessions, Compare, Image, Inspect}
use Rattle.cg_items.specs.declared.companion.Companion.TheVariants.{Alone, Followers, Relaxed as MadeRows, Sessions as OpenSessions, Comparing}
use Rattle.cg_items.specs.declared.report.Report.TheVariants.{Whole, Joined}
use Rattle.cg_outcome.specs.Commands.{command_of}
use Rattle.cg_outcome.specs.Taking.{Runs}
use Rattle.cg_outcome.specs.SparedLaws.{read-cause}
use Rattle.cg_outcome.specs.InspectionLaws.{inspection-runs, inspection-cause}
use Rattle.cg_outcome.specs.NearLaws.{Runs-nothing}
use Rattle.cg_run.proofs.Replaying.{replay-runs, replay-cause}
use Rattle.cg_run.proofs.running.run_command.Goals as goal

-- what is replayed with one thing beside the world is replayed with another that is the same
first_kept : (report : Report) (old new : SourceView) (from to : SinkView) (left : Option World) (st : Status) {made kept : Companion} → made ≡ kept
    → Replays report made old new from to left st → Replays report kept old new from to left st
first_kept report old new from to left st is replays = subst (λ (k : Companion). Replays report k old new from to left st) is replays

pub returns-in-None-clause-ran : goal.returns-in-None-clause-ran
returns-in-None-clause-ran g c =
    let old = g.S.Source.view c.args.input.now in
    let v = g.K.Sink.view c.args.output.now in
    let v1 = g.K.Sink.view c.finish.new.output in
    let is : command_of c.args.words.now ≡ None = sym c.command_of.ensures.value ∙ c.in-None.is in
    subst (λ (command : Option Command). Runs command old old v v1 c.finish.result) (sym is) (Runs-nothing None old v v1 c.finish.result refl tt c.finish.ensures)

pub returns-in-Some-Replay-clause-ran : goal.returns-in-Some-Replay-clause-ran
returns-in-Some-Replay-clause-ran g c =
    let command : Command = Replay c.in-Some-Replay.report in
    let is : command_of c.args.words.now ≡ Some command = sym c.command_of.ensures.value ∙ c.in-Some-Replay.is ∙ ap Some c.in-Some-Replay.field-0-is in
    replay-runs command c.in-Some-Replay.report Alone (record { text = λ p. refl; plain = λ p st. tt; comes = λ taken how. refl }) (g.S.Source.view c.args.input.now) (g.S.Source.view c.replay_alone.new.input) (g.K.Sink.view c.args.output.now) (g.K.Sink.view c.replay_alone.new.output) c.replay_alone.ensures.0
    c.replay_alone.result c.replay_alone.ensures.1 c.args.words.now is

pub returns-in-Some-Replay-clause-read_fault : goal.returns-in-Some-Replay-clause-read_fault
returns-in-Some-Replay-clause-read_fault g c =
    replay-cause (Replay c.in-Some-Replay.report) c.in-Some-Replay.report Alone (record { text = λ p. refl; plain = λ p st. tt; comes = λ taken how. refl }) (g.S.Source.view c.args.input.now) (g.S.Source.view c.replay_alone.new.input) (g.K.Sink.view c.args.output.now) (g.K.Sink.view c.replay_alone.new.output) c.replay_alone.ensures.0
    c.replay_alone.result c.replay_alone.ensures.1

pub returns-in-Some-Follow-clause-ran : goal.returns-in-Some-Follow-clause-ran
returns-in-Some-Follow-clause-ran g c =
    let command : Command = Follow in
    let is : command_of c.args.words.now ≡ Some command = sym c.command_of.ensures.value ∙ c.in-Some-Follow.is ∙ ap Some c.in-Some-Follow.field-0-is in
    replay-runs command Whole (Followers []) (record { text = λ p. refl; plain = λ p st. tt; comes = λ taken how. refl }) (g.S.Source.view c.args.input.now) (g.S.Source.view c.replay_alone-in-Some-Follow.new.input) (g.K.Sink.view c.args.output.now) (g.K.Sink.view c.replay_alone-in-Some-Follow.new.output) c.replay_alone-in-Some-Follow.ensures.0
    c.replay_alone-in-Some-Follow.result (first_kept Whole (g.S.Source.view c.args.input.now) (g.S.Source.view c.replay_alone-in-Some-Follow.new.input) (g.K.Sink.view c.args.output.now) (g.K.Sink.view c.replay_alone-in-Some-Follow.new.output) c.replay_alone-in-Some-Follow.ensures.0 c.replay_alone-in-Some-Follow.result c.no_followers.ensures c.replay_alone-in-Some-Follow.ensures.1) c.args.words.now is

pub returns-in-Some-Follow-clause-read_fault : goal.returns-in-Some-Follow-clause-read_fault
returns-in-Some-Follow-clause-read_fault g c =
    replay-cause Follow Whole (Followers []) (record { text = λ p. refl; plain = λ p st. tt; comes = λ taken how. refl }) (g.S.Source.view c.args.input.now) (g.S.Source.view c.replay_alone-in-Some-Follow.new.input) (g.K.Sink.view c.args.output.now) (g.K.Sink.view c.replay_alone-in-Some-Follow.new.output) c.replay_alone-in-Some-Follow.ensures.0
    c.replay_alone-in-Some-Follow.result (first_kept Whole (g.S.Source.view c.args.input.now) (g.S.Source.view c.replay_alone-in-Some-Follow.new.input) (g.K.Sink.view c.args.output.now) (g.K.Sink.view c.replay_alone-in-Some-Follow.new.output) c.replay_alone-in-Some-Follow.ensures.0 c.replay_alone-in-Some-Follow.result c.no_followers.ensures c.replay_alone-in-Some-Follow.ensures.1)

pub returns-in-Some-Relaxed-clause-ran : goal.returns-in-Some-Relaxed-clause-ran
returns-in-Some-Relaxed-clause-ran g c =
    let command : Command = Relaxed in
    let is : command_of c.args.words.now ≡ Some command = sym c.command_of.ensures.value ∙ c.in-Some-Relaxed.is ∙ ap Some c.in-Some-Relaxed.field-0-is in
    replay-runs command Whole (MadeRows []) (record { text = λ p. refl; plain = λ p st. tt; comes = λ taken how. refl }) (g.S.Source.view c.args.input.now) (g.S.Source.view c.replay_alone-in-Some-Relaxed.new.input) (g.K.Sink.view c.args.output.now) (g.K.Sink.view c.replay_alone-in-Some-Relaxed.new.output) c.replay_alone-in-Some-Relaxed.ensures.0
    c.replay_alone-in-Some-Relaxed.result (first_kept Whole (g.S.Source.view c.args.input.now) (g.S.Source.view c.replay_alone-in-Some-Relaxed.new.input) (g.K.Sink.view c.args.output.now) (g.K.Sink.view c.replay_alone-in-Some-Relaxed.new.output) c.replay_alone-in-Some-Relaxed.ensures.0 c.replay_alone-in-Some-Relaxed.result c.nothing_made.ensures c.replay_alone-in-Some-Relaxed.ensures.1) c.args.words.now is

pub returns-in-Some-Relaxed-clause-read_fault : goal.returns-in-Some-Relaxed-clause-read_fault
returns-in-Some-Relaxed-clause-read_fault g c =
    replay-cause Relaxed Whole (MadeRows []) (record { text = λ p. refl; plain = λ p st. tt; comes = λ taken how. refl }) (g.S.Source.view c.args.input.now) (g.S.Source.view c.replay_alone-in-Some-Relaxed.new.input) (g.K.Sink.view c.args.output.now) (g.K.Sink.view c.replay_alone-in-Some-Relaxed.new.output) c.replay_alone-in-Some-Relaxed.ensures.0
    c.replay_alone-in-Some-Relaxed.result (first_kept Whole (g.S.Source.view c.args.input.now) (g.S.Source.view c.replay_alone-in-Some-Relaxed.new.input) (g.K.Sink.view c.args.output.now) (g.K.Sink.view c.replay_alone-in-Some-Relaxed.new.output) c.replay_alone-in-Some-Relaxed.ensures.0 c.replay_alone-in-Some-Relaxed.result c.nothing_made.ensures c.replay_alone-in-Some-Relaxed.ensures.1)

pub returns-in-Some-Sessions-clause-ran : goal.returns-in-Some-Sessions-clause-ran
returns-in-Some-Sessions-clause-ran g c =
    let command : Command = Sessions in
    let is : command_of c.args.words.now ≡ Some command = sym c.command_of.ensures.value ∙ c.in-Some-Sessions.is ∙ ap Some c.in-Some-Sessions.field-0-is in
    replay-runs command Whole (OpenSessions []) (record { text = λ p. refl; plain = λ p st. tt; comes = λ taken how. refl }) (g.S.Source.view c.args.input.now) (g.S.Source.view c.replay_alone-in-Some-Sessions.new.input) (g.K.Sink.view c.args.output.now) (g.K.Sink.view c.replay_alone-in-Some-Sessions.new.output) c.replay_alone-in-Some-Sessions.ensures.0
    c.replay_alone-in-Some-Sessions.result (first_kept Whole (g.S.Source.view c.args.input.now) (g.S.Source.view c.replay_alone-in-Some-Sessions.new.input) (g.K.Sink.view c.args.output.now) (g.K.Sink.view c.replay_alone-in-Some-Sessions.new.output) c.replay_alone-in-Some-Sessions.ensures.0 c.replay_alone-in-Some-Sessions.result c.no_sessions.ensures c.replay_alone-in-Some-Sessions.ensures.1) c.args.words.now is

pub returns-in-Some-Sessions-clause-read_fault : goal.returns-in-Some-Sessions-clause-read_fault
returns-in-Some-Sessions-clause-read_fault g c =
    replay-cause Sessions Whole (OpenSessions []) (record { text = λ p. refl; plain = λ p st. tt; comes = λ taken how. refl }) (g.S.Source.view c.args.input.now) (g.S.Source.view c.replay_alone-in-Some-Sessions.new.input) (g.K.Sink.view c.args.output.now) (g.K.Sink.view c.replay_alone-in-Some-Sessions.new.output) c.replay_alone-in-Some-Sessions.ensures.0
    c.replay_alone-in-Some-Sessions.result (first_kept Whole (g.S.Source.view c.args.input.now) (g.S.Source.view c.replay_alone-in-Some-Sessions.new.input) (g.K.Sink.view c.args.output.now) (g.K.Sink.view c.replay_alone-in-Some-Sessions.new.output) c.replay_alone-in-Some-Sessions.ensures.0 c.replay_alone-in-Some-Sessions.result c.no_sessions.ensures c.replay_alone-in-Some-Sessions.ensures.1)

pub returns-in-Some-Compare-clause-ran : goal.returns-in-Some-Compare-clause-ran
returns-in-Some-Compare-clause-ran g c =
    let command : Command = Compare in
    let is : command_of c.args.words.now ≡ Some command = sym c.command_of.ensures.value ∙ c.in-Some-Compare.is ∙ ap Some c.in-Some-Compare.field-0-is in
    replay-runs command Joined Comparing (record { text = λ p. refl; plain = λ p st. tt; comes = λ taken how. refl }) (g.S.Source.view c.args.input.now) (g.S.Source.view c.replay_alone-in-Some-Compare.new.input) (g.K.Sink.view c.args.output.now) (g.K.Sink.view c.replay_alone-in-Some-Compare.new.output) c.replay_alone-in-Some-Compare.ensures.0
    c.replay_alone-in-Some-Compare.result c.replay_alone-in-Some-Compare.ensures.1 c.args.words.now is

pub returns-in-Some-Compare-clause-read_fault : goal.returns-in-Some-Compare-clause-read_fault
returns-in-Some-Compare-clause-read_fault g c =
    replay-cause Compare Joined Comparing (record { text = λ p. refl; plain = λ p st. tt; comes = λ taken how. refl }) (g.S.Source.view c.args.input.now) (g.S.Source.view c.replay_alone-in-Some-Compare.new.input) (g.K.Sink.view c.args.output.now) (g.K.Sink.view c.replay_alone-in-Some-Compare.new.output) c.replay_alone-in-Some-Compare.ensures.0
    c.replay_alone-in-Some-Compare.result c.replay_alone-in-Some-Compare.ensures.1

pub returns-in-Some-Trial-clause-read_fault : goal.returns-in-Some-Trial-clause-read_fault
returns-in-Some-Trial-clause-read_fault g c =
    let old = g.S.Source.view c.args.input.now in
    read-cause (Some (Trial c.in-Some-Trial.seed c.in-Some-Trial.replicas c.in-Some-Trial.lines)) [] [] Open old old (g.K.Sink.view c.args.output.now) (g.K.Sink.view c.try_schedule.new.output)
    c.try_schedule.result refl (λ e. absurd cc) c.try_schedule.ensures

pub returns-in-None-clause-read_fault : goal.returns-in-None-clause-read_fault
returns-in-None-clause-read_fault g c =
    let old = g.S.Source.view c.args.input.now in
    read-cause None [] [] Open old old (g.K.Sink.view c.args.output.now) (g.K.Sink.view c.finish.new.output) c.finish.result refl (λ e. absurd cc) c.finish.ensures

pub returns-in-Some-Generate-clause-read_fault : goal.returns-in-Some-Generate-clause-read_fault
returns-in-Some-Generate-clause-read_fault g c =
    let old = g.S.Source.view c.args.input.now in
    read-cause (Some (Generate c.in-Some-Generate.seed c.in-Some-Generate.replicas c.in-Some-Generate.lines)) [] [] Open old old (g.K.Sink.view c.args.output.now) (g.K.Sink.view c.put_schedule.new.output)
    c.put_schedule.result refl (λ e. absurd cc) c.put_schedule.ensures

pub returns-in-Some-Generate-clause-ran : goal.returns-in-Some-Generate-clause-ran
returns-in-Some-Generate-clause-ran g c =
    let old = g.S.Source.view c.args.input.now in
    let v = g.K.Sink.view c.args.output.now in
    let v1 = g.K.Sink.view c.put_schedule.new.output in
    let command : Option Command = Some (Generate c.in-Some-Generate.seed c.in-Some-Generate.replicas c.in-Some-Generate.lines) in
    let is : command_of c.args.words.now ≡ command = sym c.command_of.ensures.value ∙ c.in-Some-Generate.is ∙ ap Some c.in-Some-Generate.field-0-is in
    subst (λ (command : Option Command). Runs command old old v v1 c.put_schedule.result) (sym is) (Runs-nothing command old v v1 c.put_schedule.result refl tt c.put_schedule.ensures)

pub returns-in-Some-Trial-clause-ran : goal.returns-in-Some-Trial-clause-ran
returns-in-Some-Trial-clause-ran g c =
    let old = g.S.Source.view c.args.input.now in
    let v = g.K.Sink.view c.args.output.now in
    let v1 = g.K.Sink.view c.try_schedule.new.output in
    let command : Option Command = Some (Trial c.in-Some-Trial.seed c.in-Some-Trial.replicas c.in-Some-Trial.lines) in
    let is : command_of c.args.words.now ≡ command = sym c.command_of.ensures.value ∙ c.in-Some-Trial.is ∙ ap Some c.in-Some-Trial.field-0-is in
    subst (λ (command : Option Command). Runs command old old v v1 c.try_schedule.result) (sym is) (Runs-nothing command old v v1 c.try_schedule.result refl tt c.try_schedule.ensures)

pub returns-in-Some-Image-clause-ran : goal.returns-in-Some-Image-clause-ran
returns-in-Some-Image-clause-ran g c =
    let old = g.S.Source.view c.args.input.now in
    let new = g.S.Source.view c.image_replica.new.input in
    let v = g.K.Sink.view c.args.output.now in
    let v1 = g.K.Sink.view c.image_replica.new.output in
    let command : Command = Image c.in-Some-Image.replica in
    let is : command_of c.args.words.now ≡ Some command = sym c.command_of.ensures.value ∙ c.in-Some-Image.is ∙ ap Some c.in-Some-Image.field-0-is in
    subst (λ (command : Option Command). Runs command old new v v1 c.image_replica.result) (sym is) c.image_replica.ensures.ran

pub returns-in-Some-Inspect-clause-ran : goal.returns-in-Some-Inspect-clause-ran
returns-in-Some-Inspect-clause-ran g c =
    let old = g.S.Source.view c.args.input.now in
    let new = g.S.Source.view c.inspect_input.new.input in
    let v = g.K.Sink.view c.args.output.now in
    let v1 = g.K.Sink.view c.inspect_input.new.output in
    let command : Command = Inspect in
    let is : command_of c.args.words.now ≡ Some command = sym c.command_of.ensures.value ∙ c.in-Some-Inspect.is ∙ ap Some c.in-Some-Inspect.field-0-is in
    subst (λ (command : Option Command). Runs command old new v v1 c.inspect_input.result) (sym is) (inspection-runs old new v v1 c.inspect_input.result c.inspect_input.ensures)

pub returns-in-Some-Inspect-clause-read_fault : goal.returns-in-Some-Inspect-clause-read_fault
returns-in-Some-Inspect-clause-read_fault g c =
    inspection-cause (g.S.Source.view c.args.input.now) (g.S.Source.view c.inspect_input.new.input) (g.K.Sink.view c.args.output.now) (g.K.Sink.view c.inspect_input.new.output) c.inspect_input.result c.inspect_input.ensures

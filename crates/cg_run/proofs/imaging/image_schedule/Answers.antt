use Rattle.std.proofs.Common.{None, subst}
use Rattle.cg_items.specs.declared.companion.Companion.TheVariants.{Imaging}
use Rattle.cg_items.specs.declared.report.Report.TheVariants.{Imaged}
use Rattle.cg_outcome.specs.declared.status.Status.{Status}
use Rattle.cg_outcome.specs.declared.status.Status.TheVariants.{NoMemory}
use Rattle.cg_outcome.specs.Streaming.{Replays}
use Rattle.cg_run.specs.Performing.{left_of, seen}
use Rattle.cg_run.proofs.PutImages.{done-runs, done-cause, done-faults, other-runs, other-cause, other-faults, put-world}
use Rattle.cg_run.proofs.Replaying.{Replays-nothing, begins, replayed-as}
use Rattle.cg_run.proofs.imaging.image_schedule.Goals as goal

pub replay-requires-clause-first : goal.replay-requires-clause-first
replay-requires-clause-first g c = begins c.in-Ok.run' (Imaging c.args.id) c.in-Ok.ensures.first

pub returns-in_default : goal.returns-in_default
returns-in_default g c =
    let old = g.S.Source.view c.args.input.now in
    let v = g.K.Sink.view c.args.output.now in
    let nothing = Replays-nothing Imaged (Imaging c.args.id) old v None in record {
      ran = other-runs c.args.id old old v v None NoMemory nothing (λ is. absurd cc);
      read_fault = other-cause c.args.id old old v v None NoMemory nothing (λ is. absurd cc);
      write_fault = other-faults c.args.id old old v v None NoMemory nothing (λ is. absurd cc);
    }

pub returns-in-Done-clause-ran : goal.returns-in-Done-clause-ran
returns-in-Done-clause-ran g c =
    let r = c.in-Ok.run' in
    let old = g.S.Source.view c.args.input.now in
    let new = g.S.Source.view c.replay.new.input in
    let v = g.K.Sink.view c.args.output.now in
    let v1 = g.K.Sink.view c.replay.new.output in
    let left = left_of c.replay.new.self in
    let as_image = replayed-as r Imaged (Imaging c.args.id) old new v v1 left c.replay.result c.in-Ok.ensures.first c.in-Ok.ensures.report c.replay.ensures in
    let v2 = g.K.Sink.view c.put_left.new.output in
    done-runs c.args.id old new v v1 v2 left c.put_left.result
    (subst (λ (st : Status). Replays Imaged (Imaging c.args.id) old new v v1 left st) c.in-Done.is as_image)
    (put-world c.args.id (seen c.replay.new.self).world v1 v2 c.put_left.result c.put_left.ensures)

pub returns-in-Done-clause-read_fault : goal.returns-in-Done-clause-read_fault
returns-in-Done-clause-read_fault g c =
    let r = c.in-Ok.run' in
    let old = g.S.Source.view c.args.input.now in
    let new = g.S.Source.view c.replay.new.input in
    let v = g.K.Sink.view c.args.output.now in
    let v1 = g.K.Sink.view c.replay.new.output in
    let left = left_of c.replay.new.self in
    let as_image = replayed-as r Imaged (Imaging c.args.id) old new v v1 left c.replay.result c.in-Ok.ensures.first c.in-Ok.ensures.report c.replay.ensures in
    let v2 = g.K.Sink.view c.put_left.new.output in
    done-cause c.args.id old new v v1 v2 left c.put_left.result
    (subst (λ (st : Status). Replays Imaged (Imaging c.args.id) old new v v1 left st) c.in-Done.is as_image)
    (put-world c.args.id (seen c.replay.new.self).world v1 v2 c.put_left.result c.put_left.ensures)

pub returns-in-Done-clause-write_fault : goal.returns-in-Done-clause-write_fault
returns-in-Done-clause-write_fault g c =
    let r = c.in-Ok.run' in
    let old = g.S.Source.view c.args.input.now in
    let new = g.S.Source.view c.replay.new.input in
    let v = g.K.Sink.view c.args.output.now in
    let v1 = g.K.Sink.view c.replay.new.output in
    let left = left_of c.replay.new.self in
    let as_image = replayed-as r Imaged (Imaging c.args.id) old new v v1 left c.replay.result c.in-Ok.ensures.first c.in-Ok.ensures.report c.replay.ensures in
    let v2 = g.K.Sink.view c.put_left.new.output in
    done-faults c.args.id old new v v1 v2 left c.put_left.result
    (subst (λ (st : Status). Replays Imaged (Imaging c.args.id) old new v v1 left st) c.in-Done.is as_image)
    (put-world c.args.id (seen c.replay.new.self).world v1 v2 c.put_left.result c.put_left.ensures)

pub returns-in_default-replay : goal.returns-in_default-replay
returns-in_default-replay g c =
    let r = c.in-Ok.run' in
    let old = g.S.Source.view c.args.input.now in
    let new = g.S.Source.view c.replay.new.input in
    let v = g.K.Sink.view c.args.output.now in
    let v1 = g.K.Sink.view c.replay.new.output in
    let left = left_of c.replay.new.self in
    let as_image = replayed-as r Imaged (Imaging c.args.id) old new v v1 left c.replay.result c.in-Ok.ensures.first c.in-Ok.ensures.report c.replay.ensures in
    let st = c.replay.result in record {
      ran = other-runs c.args.id old new v v1 left st as_image c.in_default-replay.not-Done;
      read_fault = other-cause c.args.id old new v v1 left st as_image c.in_default-replay.not-Done;
      write_fault = other-faults c.args.id old new v v1 left st as_image c.in_default-replay.not-Done;
    }

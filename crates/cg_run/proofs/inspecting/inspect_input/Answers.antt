use Rattle.std.proofs.Common.{◌≡◌, ◌≤◌, ◌<◌, ◌+◌, ◌++◌, ℕ, length, refl, sym, ap, subst, take, rules, arith, length-append}
use Rattle.std.proofs.lemmas.List.{take-append-le}
use Rattle.std.specs.Io.KnownBytes.{Consumes}
use Rattle.cg_image.specs.Inspecting.{inspected}
use Rattle.cg_io.specs.Outside.{SinkView}
use Rattle.cg_items.specs.declared.report.Report.TheVariants.{Inspected as InspectedReport}
use Rattle.cg_outcome.specs.declared.status.Status.TheVariants as status
use Rattle.cg_outcome.specs.Inspection.{Gathers, Inspects}
use Rattle.cg_outcome.specs.InspectionLaws.{Gathers-begin, Gathers-turn, Inspects-failed, Inspects-ended, Inspects-limit, Inspects-refused}
use Rattle.cg_outcome.specs.Outcome.{seen_in}
use Rattle.cg_outcome.specs.Produced.{status_of, text_of}
use Rattle.cg_outcome.specs.Putting.{StopsWith}
use Rattle.cg_run.proofs.inspecting.inspect_input.Goals as goal

few : (v w : SinkView) → v ≡ w → w.faults < 4611686018427387904 → v.faults < 4611686018427387904
few v w same small = subst (λ (x : SinkView). x.faults < 4611686018427387904) (sym same) small

pub loop-buffer-init : goal.loop-buffer-init
loop-buffer-init g c = (rw c.new-bytes.ensures.items (Gathers-begin (g.S.Source.view c.args.input.now)), refl)

pub take-requires-clause-few_faults : goal.take-requires-clause-few_faults
take-requires-clause-few_faults g c = omega (arith, c.loop-buffer.invariant.0.no_fault, c.requires.few_read_faults)

pub finish-requires-clause-few_faults : goal.finish-requires-clause-few_faults
finish-requires-clause-few_faults g c = few (g.K.Sink.view c.loop-buffer.output) (g.K.Sink.view c.args.output.now) c.loop-buffer.invariant.1 c.requires.few_write_faults

pub returns-in-Err : goal.returns-in-Err
returns-in-Err g c =
    let old = g.S.Source.view c.args.input.now in
    let new = g.S.Source.view c.take.new.self in
    let v1 = g.K.Sink.view c.finish.new.output in
    let short : length c.loop-buffer.bytes.items ≤ 8388608 = search rules in
    subst (λ (v : SinkView). Inspects old new v v1 c.finish.result) c.loop-buffer.invariant.1
    (Inspects-failed old (g.S.Source.view c.loop-buffer.input) new (g.K.Sink.view c.loop-buffer.output) v1 c.loop-buffer.bytes.items c.finish.result c.loop-buffer.invariant.0 short
    c.in-Err.ensures.bytes c.in-Err.ensures.cause c.finish.ensures)

pub put_seen-requires : goal.put_seen-requires
put_seen-requires g c = few (g.K.Sink.view c.loop-buffer.output) (g.K.Sink.view c.args.output.now) c.loop-buffer.invariant.1 c.requires.few_write_faults

pub returns-in-Ok-eq0 : goal.returns-in-Ok-eq0
returns-in-Ok-eq0 g c =
    let old = g.S.Source.view c.args.input.now in
    let now = g.S.Source.view c.loop-buffer.input in
    let new = g.S.Source.view c.take.new.self in
    let v = g.K.Sink.view c.loop-buffer.output in
    let v1 = g.K.Sink.view c.put_seen.new.output in
    let took = c.in-Ok-eq0.ensures in
    let short : length c.loop-buffer.bytes.items ≤ 8388608 = search rules in
    subst (λ (v : SinkView). Inspects old new v v1 c.put_seen.result) c.loop-buffer.invariant.1
    (Inspects-ended old now new v v1 c.loop-buffer.bytes.items c.put_seen.result c.loop-buffer.invariant.0 short
    (subst (λ (n : ℕ). Consumes now.left new.left (take n c.take.new.buf)) c.in-Ok-eq0.field-0-test took.bytes.1) (took.bytes.2 c.in-Ok-eq0.field-0-test) took.cause
    (subst (λ bytes. StopsWith (text_of InspectedReport (seen_in (inspected bytes))) (status_of (seen_in (inspected bytes))) v v1 c.put_seen.result) c.as_slice.ensures.value c.put_seen.ensures))

pub returns-in-Err-put : goal.returns-in-Err-put
returns-in-Err-put g c =
    let old = g.S.Source.view c.args.input.now in
    let new = g.S.Source.view c.take.new.self in
    let v = g.K.Sink.view c.loop-buffer.output in
    let took = c.in-Ok.ensures in
    let chunk = take c.in-Ok.count c.take.new.buf in
    let within : length c.loop-buffer.bytes.items + length chunk ≤ 8388609 = search rules in
    subst (λ (from : SinkView). Inspects old new from v status.NoMemory) c.loop-buffer.invariant.1
    (Inspects-refused old (g.S.Source.view c.loop-buffer.input) new v c.loop-buffer.bytes.items chunk c.loop-buffer.invariant.0 took.bytes.1 took.cause within)

pub loop-buffer-smaller : goal.loop-buffer-smaller
loop-buffer-smaller g c =
    let chunk = take c.in-Ok.count c.take.new.buf in
    let bytes = c.loop-buffer.bytes.items in
    let grown = subst (λ part. c.put.new.out.items ≡ bytes ++ part) (take-append-le c.in-Ok.count c.take.new.buf _ c.in-Ok.ensures.bytes.0) c.in-Ok-put.ensures.ok in
    let some : 0 < length chunk = search rules in
    let short : length bytes ≤ 8388608 = search rules in
    let all : length c.put.new.out.items ≡ length (bytes ++ chunk) = ap length grown in
    omega (arith, all, length-append bytes chunk, some, short)

pub loop-buffer-preserved : goal.loop-buffer-preserved
loop-buffer-preserved g c =
    let old = g.S.Source.view c.args.input.now in
    let new = g.S.Source.view c.take.new.self in
    let took = c.in-Ok.ensures in
    let chunk = take c.in-Ok.count c.take.new.buf in
    let bytes = c.loop-buffer.bytes.items in
    let grown = subst (λ part. c.put.new.out.items ≡ bytes ++ part) (take-append-le c.in-Ok.count c.take.new.buf _ took.bytes.0) c.in-Ok-put.ensures.ok in
    let within : length bytes + length chunk ≤ 8388609 = search rules in
    (subst (λ bytes. Gathers old new bytes) (sym grown) (Gathers-turn old (g.S.Source.view c.loop-buffer.input) new bytes chunk c.loop-buffer.invariant.0 took.bytes.1 took.cause within), c.loop-buffer.invariant.1)

pub finish-requires-2-clause-few_faults : goal.finish-requires-2-clause-few_faults
finish-requires-2-clause-few_faults g c = few (g.K.Sink.view c.loop-buffer.output) (g.K.Sink.view c.args.output.now) c.loop-buffer.invariant.1 c.requires.few_write_faults

pub returns : goal.returns
returns g c =
    let old = g.S.Source.view c.args.input.now in
    let now = g.S.Source.view c.loop-buffer.input in
    let v1 = g.K.Sink.view c.finish-2.new.output in
    let more : 8388608 < length c.loop-buffer.bytes.items = search rules in
    subst (λ (v : SinkView). Inspects old now v v1 c.finish-2.result) c.loop-buffer.invariant.1
    (Inspects-limit old now (g.K.Sink.view c.loop-buffer.output) v1 c.loop-buffer.bytes.items c.finish-2.result c.loop-buffer.invariant.0 more c.finish-2.ensures)

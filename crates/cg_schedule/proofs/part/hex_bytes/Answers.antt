use Rattle.std.proofs.Common.{sym}
use Rattle.cg_schedule.proofs.HexSteps.{hex_bytes-pair}
use Rattle.cg_schedule.proofs.part.hex_bytes.Goals as goal

pub loop-high-preserved : goal.loop-high-preserved
loop-high-preserved c =
    let high = c.in-Some in
    let low = c.in-Some-split_first in
    hex_bytes-pair c.loop-high.bytes c.push.new.self c.loop-high.rest.now high.behind.now low.others.now high.high.now low.low.now c.in-Some-hex_byte.byte _ high.ensures.cases.0 low.ensures.cases.0 (sym c.in-Some-hex_byte.ensures) c.in_ok-push.ensures.ok c.loop-high.invariant

use Rattle.std.proofs.Common.{refl}
use Rattle.cg_text.proofs.Digits.{past_bound, without_room, fits_at_end}
use Rattle.cg_text.proofs.numbers.value_of_digits.Goals as goal

pub returns-in_err-value : goal.returns-in_err-value
returns-in_err-value c =
    let past = past_bound c.args.digits.now c.loop-digit.value c.loop-digit.digit-index c.loop-digit-test.true c.loop-digit.invariant.0 (without_room _ c.in_err-value.ensures) in
    rw (c.from_residual.ensures, past) refl

pub returns : goal.returns
returns c = fits_at_end c.args.digits.now c.loop-digit.value c.loop-digit.digit-index c.loop-digit-test.false c.loop-digit.invariant.0 c.loop-digit.invariant.1

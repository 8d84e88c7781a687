-- What a call that may be refused answers.
use Rattle.std.specs.Prelude.{◌≡◌, Option, Some, None, Result, Err, IfErr}
use Rattle.cg_group.specs.declared.reason.Reason.{Reason}
use Rattle.cg_group.specs.declared.error.GroupErr.{GroupErr}
use Rattle.cg_group.specs.declared.error.GroupErr.TheVariants.{Refused, NoMemory}

-- a call is refused for exactly this reason; where there is none it is done, or memory was refused
abbrev pub IsAnswer : {T : Type 0} → Option Reason → Result T GroupErr → Type 0
IsAnswer (Some reason) result = result ≡ Err (Refused reason)
IsAnswer None result = IfErr result (λ e. e ≡ NoMemory)

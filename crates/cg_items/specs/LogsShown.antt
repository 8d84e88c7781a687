-- The logs that a run shows, and that they agree.
use Rattle.std.specs.Prelude.{◌≡◌, Bool, true, false, List, [], ◌∷◌, ◌++◌, Option, Some, None, length, map}
use Rattle.cg_base.specs.Lists.{present}
use Rattle.cg_report.specs.declared.entry.Shown.{Shown}
use Rattle.cg_report.specs.declared.entry.Shown.TheVariants.{Greens}
use Rattle.cg_model.specs.Run.{Step}
use Rattle.cg_model.specs.Shown.{white_of}
use Rattle.cg_model.specs.Agreement.{through}
use Rattle.cg_compare.specs.declared.log.Log.{Log}
use Rattle.cg_compare.specs.declared.log.Joined.{Joined}
use Rattle.cg_compare.specs.declared.log.Joined.TheVariants.{Agree}
use Rattle.cg_compare.specs.Join.{join_logs}

-- what is shown as a log, behind these steps: a replica's greens, behind the white count on its last line
abbrev pub log_of : List Step → Shown → Option Log
log_of steps (Greens p list) = Some (record { line = length steps; white = white_of p steps; list = list })
log_of steps other = None

-- the logs that steps show, behind earlier ones
abbrev pub logs_from : List Step → List Step → List Log
logs_from earlier [] = []
logs_from earlier (s ∷ steps) = present (map (log_of (through earlier s)) s.entry.shown) ++ logs_from (through earlier s) steps

abbrev pub is_agreement : Joined → Bool
is_agreement (Agree last list) = true
is_agreement other = false

-- the logs that these steps show agree
abbrev pub LogsAgree : List Step → Type 0
LogsAgree steps = is_agreement (join_logs (logs_from [] steps)) ≡ true

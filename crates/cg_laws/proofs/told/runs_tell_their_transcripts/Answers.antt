use Rattle.cg_laws.proofs.JsonReports.{whole-json-reports-tell}
use Rattle.cg_laws.proofs.Reports.{reports-tell}
use Rattle.cg_laws.proofs.Tails.{whole-reports-tell}
use Rattle.cg_laws.proofs.TwoRuns.{whole-runs-tell, json-runs-tell}
use Rattle.cg_laws.proofs.told.runs_tell_their_transcripts.Goals as goal

pub returns-clause-whole : goal.returns-clause-whole
returns-clause-whole c =
    whole-runs-tell c.args.words.now c.args.others.now c.outcomes_agree.ensures.noted c.outcomes_agree-2.ensures.noted
    (whole-reports-tell reports-tell)

pub returns-clause-json : goal.returns-clause-json
returns-clause-json c =
    json-runs-tell c.args.words.now c.args.others.now c.outcomes_agree.ensures.noted c.outcomes_agree-2.ensures.noted
    whole-json-reports-tell

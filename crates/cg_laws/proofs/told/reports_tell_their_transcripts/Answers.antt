use Rattle.cg_laws.proofs.Reports.{reports-tell}
use Rattle.cg_laws.proofs.Tails.{whole-reports-tell}
use Rattle.cg_laws.proofs.told.reports_tell_their_transcripts.Goals as goal

pub returns-clause-entries : goal.returns-clause-entries
returns-clause-entries c = reports-tell

pub returns-clause-whole : goal.returns-clause-whole
returns-clause-whole c = whole-reports-tell reports-tell

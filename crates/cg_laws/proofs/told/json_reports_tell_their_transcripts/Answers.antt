use Rattle.cg_laws.proofs.JsonReports.{json-reports-tell, whole-json-reports-tell}
use Rattle.cg_laws.proofs.told.json_reports_tell_their_transcripts.Goals as goal

pub returns-clause-entries : goal.returns-clause-entries
returns-clause-entries c = json-reports-tell

pub returns-clause-whole : goal.returns-clause-whole
returns-clause-whole c = whole-json-reports-tell

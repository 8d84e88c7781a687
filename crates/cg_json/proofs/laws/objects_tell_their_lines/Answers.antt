use Rattle.cg_json.specs.JsonLaws.{has_its_lines}
use Rattle.cg_json.proofs.Reread.{steps_are_read, tails_are_read, objects_tell_lines}
use Rattle.cg_json.proofs.laws.objects_tell_their_lines.Goals as goal

pub returns-clause-lines : goal.returns-clause-lines
returns-clause-lines c = has_its_lines

pub returns-clause-steps : goal.returns-clause-steps
returns-clause-steps c = steps_are_read

pub returns-clause-tails : goal.returns-clause-tails
returns-clause-tails c = tails_are_read

pub returns-clause-apart : goal.returns-clause-apart
returns-clause-apart c = objects_tell_lines

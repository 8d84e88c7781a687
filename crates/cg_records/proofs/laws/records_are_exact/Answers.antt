use Rattle.cg_records.specs.RecordLaws.{number_field, any_id_field, set_field, weight_set_field, cut_field, prim_field, vulnerable_field, maybe_vulnerable_field, yellow_field, stable_field}
use Rattle.cg_records.proofs.laws.records_are_exact.Goals as goal

pub returns-clause-number : goal.returns-clause-number
returns-clause-number c = number_field

pub returns-clause-id : goal.returns-clause-id
returns-clause-id c = any_id_field

pub returns-clause-set : goal.returns-clause-set
returns-clause-set c = set_field

pub returns-clause-weight_set : goal.returns-clause-weight_set
returns-clause-weight_set c = weight_set_field

pub returns-clause-cut : goal.returns-clause-cut
returns-clause-cut c = cut_field

pub returns-clause-prim : goal.returns-clause-prim
returns-clause-prim c = prim_field

pub returns-clause-vulnerable : goal.returns-clause-vulnerable
returns-clause-vulnerable c = vulnerable_field

pub returns-clause-maybe_vulnerable : goal.returns-clause-maybe_vulnerable
returns-clause-maybe_vulnerable c = maybe_vulnerable_field

pub returns-clause-yellow : goal.returns-clause-yellow
returns-clause-yellow c = yellow_field

pub returns-clause-stable : goal.returns-clause-stable
returns-clause-stable c = stable_field

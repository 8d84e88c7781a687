use Rattle.cg_base.specs.Sets.{IsSet}
use Rattle.cg_base.specs.Weights.{IsWeightSet}
use Rattle.cg_codec.specs.ShapeLaws.{field_front}
use Rattle.cg_records.specs.Limits.{IsSmallCut, IsPrimary, IsVulnerable, IsYellow, IsStable}
use Rattle.cg_records.specs.Bytes.{spelled_set, spelled_weight_set, spelled_cut, spelled_prim, spelled_vulnerable, spelled_yellow, spelled_stable}
use Rattle.cg_records.specs.Reading.{take_set, take_weight_set, take_cut, take_prim, take_vulnerable, take_yellow, take_stable}
use Rattle.cg_records.specs.RecordLaws.{set_field, weight_set_field, cut_field, prim_field, vulnerable_field, yellow_field, stable_field}
use Rattle.cg_records.proofs.laws.records_stand_apart.Goals as goal

pub returns : goal.returns
returns c = record {
  set = field_front IsSet spelled_set take_set set_field;
  weight_set = field_front IsWeightSet spelled_weight_set take_weight_set weight_set_field;
  cut = field_front IsSmallCut spelled_cut take_cut cut_field;
  prim = field_front IsPrimary spelled_prim take_prim prim_field;
  vulnerable = field_front IsVulnerable spelled_vulnerable take_vulnerable vulnerable_field;
  yellow = field_front IsYellow spelled_yellow take_yellow yellow_field;
  stable = field_front IsStable spelled_stable take_stable stable_field;
}

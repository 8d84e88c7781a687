use Rattle.std.proofs.Common.{◌<◌, ◌^◌}
use Rattle.cg_codec.specs.Fields.{number64}
use Rattle.cg_codec.specs.Reading.{take_u64}
use Rattle.cg_codec.specs.FieldLaws.{field_optional, field_whole}
use Rattle.cg_codec.specs.ListLaws.{field_list}
use Rattle.cg_codec.specs.PlainLaws.{u64_field, truth_field, count_field}
use Rattle.cg_codec.proofs.laws.fields_compose.Goals as goal

pub returns : goal.returns
returns c = record {
  optional = field_optional (λ n. n < 2 ^ 64) number64 take_u64 truth_field u64_field;
  list = λ max small. field_list max (λ _ n. n < 2 ^ 64) number64 (λ _. take_u64) (count_field max small) (λ taken. u64_field);
  whole = field_whole (λ n. n < 2 ^ 64) number64 take_u64 u64_field;
}

use Rattle.cg_codec.specs.PlainLaws.{u8_field, u32_field, u64_field, i64_field, truth_field, count_field, text_field}
use Rattle.cg_codec.proofs.laws.fields_are_exact.Goals as goal

pub returns : goal.returns
returns c = record { u8 = u8_field; u32 = u32_field; u64 = u64_field; i64 = i64_field; truth = truth_field; count = count_field; text = text_field }

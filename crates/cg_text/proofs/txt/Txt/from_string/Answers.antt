use Rattle.std.proofs.lemmas.Str.{IsUtf8-had}
use Rattle.cg_text.proofs.txt.Txt.from_string.Goals as goal

pub invariant_of-result : goal.invariant_of-result
invariant_of-result c = rw (c.from_vec.ensures.items, c.into_bytes.ensures.value) (IsUtf8-had _ c.args.text.ok)

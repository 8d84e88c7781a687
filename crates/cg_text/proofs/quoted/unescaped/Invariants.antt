use Rattle.std.proofs.Common.{◌≡◌, false, drop}
use Rattle.cg_text.specs.Quoted.{onto, text_up_to_quote}
use Rattle.cg_text.proofs.quoted.unescaped.Given as goal

abbrev pub invariant-loop-i : goal.invariant-loop-i
invariant-loop-i l = onto l.text.items (text_up_to_quote l.is_escaped (drop l.i l.inner)) ≡ text_up_to_quote false l.inner

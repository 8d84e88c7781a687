-- What actions did, and what queries found, as lines show it.
use Rattle.std.specs.Prelude.{List, ◌++◌, codes, decimal, ℕ}
use Rattle.std.specs.List.{flat_map}
use Rattle.std.specs.Fmt.{signed_decimal}
use Rattle.cg_text.specs.Quoted.{quoted}
use Rattle.cg_action.specs.declared.answer.Answer.{Answer}
use Rattle.cg_action.specs.declared.answer.Answer.TheVariants.{Absent, Text, Int, Keys, Count}
use Rattle.cg_action.specs.declared.effect.Effect.{Effect}
use Rattle.cg_action.specs.declared.effect.Effect.TheVariants.{Done, Aborted, Range}

-- what an action did
abbrev pub effect_text : Effect → List ℕ
effect_text Done = codes "done"
effect_text (Aborted number) = codes "aborted " ++ decimal number
effect_text (Range number) = codes "range " ++ decimal number

-- a key behind others
abbrev pub next_key_text : List ℕ → List ℕ
next_key_text key = codes " " ++ quoted key

-- what a query found
abbrev pub answer_text : Answer → List ℕ
answer_text Absent = codes "absent"
answer_text (Text t) = quoted t
answer_text (Int n) = signed_decimal n
answer_text (Keys keys) = codes "keys" ++ flat_map next_key_text keys
answer_text (Count n) = codes "count " ++ decimal n

-- The tail that each status puts.
use Rattle.std.specs.Prelude.{ℕ, List, [], ◌∷◌, ◌++◌, codes, decimal}
use Rattle.std.specs.Option.{option_map_or}
use Rattle.cg_base.specs.Ascii.{LINE_FEED}
use Rattle.cg_group.specs.declared.reason.Reason.{Reason}
use Rattle.cg_group.specs.Reasons.{reason_numbers}
use Rattle.cg_outcome.specs.declared.status.Status.{Status}
use Rattle.cg_outcome.specs.declared.status.Status.TheVariants as status
use Rattle.cg_outcome.specs.declared.status.Limit.{Limit}
use Rattle.cg_outcome.specs.declared.status.Limit.TheVariants as limit

-- how many puts have failed in a run with this status
abbrev pub write_faults : Status → ℕ
write_faults status.WriteFault = 1
write_faults other = 0

abbrev pub limit_text : Limit → List ℕ
limit_text limit.Line = codes "line"
limit_text limit.Input = codes "input"
limit_text limit.Lines = codes "lines"
limit_text limit.Steps = codes "steps"

-- the number of a reason, and its value, where it has one
abbrev pub refused_text : Reason → List ℕ
refused_text reason = codes " " ++ decimal (reason_numbers reason).0
    ++ option_map_or (λ n. codes " " ++ decimal n) (reason_numbers reason).1 []

-- the last line of the report, after so many steps and whole lines
abbrev pub tail_line : Status → ℕ → ℕ → List ℕ
tail_line status.Done steps lines = codes "end " ++ decimal steps
tail_line status.Usage steps lines =
    codes "usage: congruity replay | check | generate SEED REPLICAS LINES | trial SEED REPLICAS LINES"
    ++ codes " | follow | relaxed | sessions | compare | image P | inspect | json"
tail_line (status.Syntax line reason) steps lines = codes "syntax " ++ decimal line ++ codes " " ++ decimal reason
tail_line (status.Refused line reason) steps lines = codes "refused " ++ decimal line ++ refused_text reason
tail_line status.ReadFault steps lines = codes "read fault " ++ decimal lines
tail_line (status.Limit line what) steps lines = codes "limit " ++ decimal line ++ codes " " ++ limit_text what
tail_line (status.NoEnd all) steps lines = codes "no end " ++ decimal all
tail_line status.NotAnImage steps lines = codes "not an image"
tail_line status.NotAStore steps lines = codes "not a store"
tail_line other steps lines = []

abbrev pub tail_text : Status → ℕ → ℕ → List ℕ
tail_text status steps lines = tail_line status steps lines ++ LINE_FEED ∷ []

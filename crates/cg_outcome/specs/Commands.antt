-- The commands that words are.
use Rattle.std.specs.Prelude.{ℕ, nat_le, ◌&&◌, Bool, true, false, List, [], ◌∷◌, codes, Option, Some, None, option_and_then, option_map, if◌then◌else◌}
use Rattle.std.specs.Result.{result_ok}
use Rattle.std.specs.Str.{bytes_eq}
use Rattle.cg_outcome.specs.declared.limits.TheConstants.{LINES}
use Rattle.cg_text.specs.Numbers.{read_u64}
use Rattle.cg_outcome.specs.declared.command.Command.{Command}
use Rattle.cg_outcome.specs.declared.command.Command.TheVariants.{Replay, Generate, Trial, Follow, Relaxed, Sessions, Compare, Image, Inspect}
use Rattle.cg_items.specs.declared.report.Report.TheVariants.{Whole, Tail, Json}

-- the number that a word spells, where it is in a range
abbrev pub number_in : ℕ → ℕ → List ℕ → Option ℕ
number_in low high word = option_and_then (λ n. if nat_le low n && nat_le n high then Some n
    else None) (result_ok (read_u64 word))

-- the numbers of a schedule that is generated, and what is made of them
abbrev pub with_numbers : (ℕ → ℕ → ℕ → Command) → Option ℕ → Option ℕ → Option ℕ → Option Command
with_numbers make (Some seed) (Some replicas) (Some lines) = Some (make seed replicas lines)
with_numbers make seed replicas lines = None

abbrev pub read_numbers : (ℕ → ℕ → ℕ → Command) → List ℕ → List ℕ → List ℕ → Option Command
read_numbers make seed replicas lines =
    with_numbers make (number_in 0 18446744073709551615 seed) (number_in 1 32 replicas) (number_in 3 LINES lines)

-- the command that words are
abbrev pub command_of : List (List ℕ) → Option Command
command_of (word ∷ []) =
    if bytes_eq word (codes "replay") then Some (Replay Whole)
    else if bytes_eq word (codes "check") then Some (Replay Tail)
    else if bytes_eq word (codes "follow") then Some Follow
    else if bytes_eq word (codes "relaxed") then Some Relaxed
    else if bytes_eq word (codes "sessions") then Some Sessions
    else if bytes_eq word (codes "compare") then Some Compare
    else if bytes_eq word (codes "inspect") then Some Inspect
    else if bytes_eq word (codes "json") then Some (Replay Json)
    else None
command_of (word ∷ id ∷ []) =
    if bytes_eq word (codes "image") then option_map Image (number_in 1 32 id) else None
command_of (word ∷ seed ∷ replicas ∷ lines ∷ []) =
    if bytes_eq word (codes "generate") then read_numbers Generate seed replicas lines
    else if bytes_eq word (codes "trial") then read_numbers Trial seed replicas lines
    else None
command_of words = None

-- the command reads the input
abbrev pub reads_input : Option Command → Bool
reads_input None = false
reads_input (Some (Generate seed replicas lines)) = false
reads_input (Some (Trial seed replicas lines)) = false
reads_input other = true

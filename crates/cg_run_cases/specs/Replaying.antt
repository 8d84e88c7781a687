-- What the program puts when it replays a schedule, by the definitions that the contract of `run` cites, and the words in
-- which the cases are written.
use Rattle.std.specs.Prelude.{ℕ, List, [], ◌∷◌, ◌++◌, Bool, false, ◌||◌, Option, Some, None, codes, take, if◌then◌else◌}
use Rattle.std.specs.Str.{encode_utf8_all}
use Prim.Native.String.{String}
use Rattle.cg_base.specs.Text.{pieces_of}
use Rattle.cg_text.specs.Order.{same_text}
use Rattle.cg_outcome.specs.Outcome.{Ending, Ended, outcome, text_put}
use Rattle.cg_outcome.specs.Commands.{command_of}

-- the bytes of a text
abbrev pub utf8 : String → List ℕ
utf8 text = encode_utf8_all (codes text)

-- lines, each with its end
abbrev pub written : List String → List ℕ
written [] = []
written (line ∷ lines) = utf8 line ++ 10 ∷ written lines

-- what is put where these words are given, and these bytes are taken
abbrev pub put_of : List String → List ℕ → Ending → List ℕ
put_of words taken how = text_put (command_of (texts words)) [] (outcome (texts words) taken how) where
  texts : List String → List (List ℕ)
  texts [] = []
  texts (word ∷ words) = utf8 word ∷ texts words

-- what a command of one word puts of these lines
abbrev pub put_by : String → List String → List ℕ
put_by word lines = put_of (word ∷ []) (written lines) Ended

-- what is put of a schedule of these lines
abbrev pub replayed_text : List String → List ℕ
replayed_text lines = put_by "replay" lines

-- the last of some ended lines, behind which the last piece is empty
abbrev pub last_of : List (List ℕ) → Option (List ℕ)
last_of [] = None
last_of (line ∷ []) = None
last_of (line ∷ end ∷ []) = Some line
last_of (line ∷ next ∷ more ∷ lines) = last_of (next ∷ more ∷ lines)

-- the last line that is put of a schedule
abbrev pub last_line : List String → Option (List ℕ)
last_line lines = last_of (pieces_of 10 (replayed_text lines))

-- the line stands behind an entry: it begins the next one, or is the tail of a run that came to its end
abbrev pub ends_entry : List ℕ → Bool
ends_entry line = same_text (take 2 line) (codes "= ") || same_text (take 4 line) (codes "end ")

-- the last line of an entry, the given one where there is none
abbrev pub last_before_next : List ℕ → List (List ℕ) → List ℕ
last_before_next before [] = before
last_before_next before (line ∷ lines) = if ends_entry line then before else last_before_next line lines

-- the last line of the entry that begins so
abbrev pub last_in : List ℕ → List (List ℕ) → Option (List ℕ)
last_in head [] = None
last_in head (line ∷ lines) = if same_text line head then Some (last_before_next line lines) else last_in head lines

abbrev pub last_of_entry : List String → List ℕ → Option (List ℕ)
last_of_entry lines head = last_in head (pieces_of 10 (replayed_text lines))

-- the line stands in the entry that begins so
abbrev pub stands_before_next : List ℕ → List (List ℕ) → Bool
stands_before_next line [] = false
stands_before_next line (next ∷ lines) = if ends_entry next then false
    else (same_text next line || stands_before_next line lines)

abbrev pub stands_in : List ℕ → List ℕ → List (List ℕ) → Bool
stands_in head line [] = false
stands_in head line (next ∷ lines) = if same_text next head then stands_before_next line lines
    else stands_in head line lines

abbrev pub shows_in_entry : List String → List ℕ → List ℕ → Bool
shows_in_entry lines head line = stands_in head line (pieces_of 10 (replayed_text lines))

-- The text of a step.
use Rattle.std.specs.Prelude.{ℕ, ◌==◌, Bool, ◌&&◌, List, [], ◌++◌, Option, Some, None, decimal, codes, length, if◌then◌else◌}
use Rattle.std.specs.List.{flat_map}
use Rattle.cg_base.specs.Text.{id_text, id_list_text}
use Rattle.cg_text.specs.Quoted.{quoted}
use Rattle.cg_action.specs.Print.{value_text, kind_text}
use Rattle.cg_action.specs.declared.answer.Answer.{Answer}
use Rattle.cg_action.specs.declared.entry.DbEntry.{DbEntry}
use Rattle.cg_report.specs.declared.line.Line.{Line}
use Rattle.cg_report.specs.declared.entry.Made.{Made}
use Rattle.cg_report.specs.declared.entry.Placed.{Placed}
use Rattle.cg_report.specs.declared.entry.Reply.{Reply}
use Rattle.cg_report.specs.declared.entry.Shown.{Shown}
use Rattle.cg_report.specs.declared.entry.Shown.TheVariants.{Weak, Dirty, Pieces, Greens, Database, All}
use Rattle.cg_report.specs.declared.entry.Entry.{Entry}
use Rattle.cg_report.specs.LineText.{line_text}
pub use Rattle.cg_action.specs.AnswerPrint.{effect_text, next_key_text, answer_text}

-- an action that is shown as made, with what it does
abbrev pub made_text : Made → List ℕ
made_text m = codes "made " ++ id_text m.id ++ codes " " ++ kind_text m.kind

-- a place of the order
abbrev pub order_text : Placed → List ℕ
order_text o = codes "order " ++ decimal o.place ++ codes " " ++ id_text o.id

-- the answer behind an effect, where there is one
abbrev pub answered_text : Option Answer → List ℕ
answered_text None = []
answered_text (Some a) = codes " ? " ++ answer_text a

abbrev pub reply_text : Reply → List ℕ
reply_text r = codes "reply " ++ id_text r.id ++ codes " " ++ effect_text r.effect ++ answered_text r.answer

-- an entry of a database, behind others
abbrev pub next_entry_text : DbEntry → List ℕ
next_entry_text e = codes " " ++ quoted e.key ++ codes "=" ++ value_text e.value

-- the answer to a query that wasn't ordered
abbrev pub asked_text : List ℕ → ℕ → Answer → List ℕ
asked_text word p a = word ++ decimal p ++ codes " " ++ answer_text a

-- how much of a snapshot was taken
abbrev pub pieces_text : ℕ → ℕ → ℕ → List ℕ
pieces_text joiner taken whole = codes "pieces " ++ decimal joiner ++ codes " " ++ decimal taken
    ++ codes "/" ++ decimal whole

-- what was asked to be shown
abbrev pub shown_text : Shown → List ℕ
shown_text (Weak p a) = asked_text (codes "weak ") p a
shown_text (Dirty p a) = asked_text (codes "dirty ") p a
shown_text (Pieces joiner taken whole) = pieces_text joiner taken whole
shown_text (Greens p list) = codes "greens " ++ decimal p ++ codes " " ++ id_list_text list
shown_text (Database p entries) = codes "db " ++ decimal p ++ flat_map next_entry_text entries
shown_text (All list) = codes "all " ++ id_list_text list

-- each with its end

abbrev pub made_line : Made → List ℕ
made_line m = made_text m ++ codes "\n"

abbrev pub order_line : Placed → List ℕ
order_line o = order_text o ++ codes "\n"

abbrev pub ended_line : Line → List ℕ
ended_line l = line_text l ++ codes "\n"

abbrev pub reply_line : Reply → List ℕ
reply_line r = reply_text r ++ codes "\n"

abbrev pub shown_line : Shown → List ℕ
shown_line s = shown_text s ++ codes "\n"

-- all of it
abbrev pub body_text : Entry → List ℕ
body_text e = flat_map made_line e.made ++ flat_map order_line e.orders ++ flat_map ended_line e.lines
    ++ flat_map reply_line e.replies ++ flat_map shown_line e.shown

abbrev pub is_silent : Entry → Bool
is_silent e = (length e.made == 0) && (length e.orders == 0) && (length e.lines == 0) && (length e.replies == 0)
    && (length e.shown == 0)

-- what a step puts: nothing, or its number and what it shows
abbrev pub entry_text : ℕ → Entry → List ℕ
entry_text step e = if is_silent e then [] else codes "= " ++ decimal step ++ codes "\n" ++ body_text e

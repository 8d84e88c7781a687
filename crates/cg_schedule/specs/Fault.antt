-- Why a line is no event, and what a call gives beside what reading gives.
use Rattle.std.specs.Prelude.{◌≡◌, ◌≢◌, ℕ, Result, Ok, Err}
use Rattle.cg_text.specs.declared.fault.TextFault.{TextFault}
use Rattle.cg_text.specs.declared.fault.TextFault.TheVariants as text_fault
use Rattle.cg_schedule.specs.declared.fault.LineFault.{LineFault}
use Rattle.cg_schedule.specs.declared.fault.LineFault.TheVariants.{Syntax, NoMemory}
use Rattle.cg_schedule.specs.declared.fault.SyntaxReason.{SyntaxReason}
use Rattle.cg_schedule.specs.declared.fault.SyntaxReason.TheVariants.{NotUtf8, UnknownWord, MissingPart, ExtraPart, BadNumber, BadText, BadCommand, BadList, Misplaced}

-- the number of a reason
abbrev pub syntax_number : SyntaxReason → ℕ
syntax_number NotUtf8 = 1
syntax_number UnknownWord = 2
syntax_number MissingPart = 3
syntax_number ExtraPart = 4
syntax_number BadNumber = 5
syntax_number BadText = 6
syntax_number BadCommand = 7
syntax_number BadList = 8
syntax_number Misplaced = 9

-- the line isn't UTF-8
abbrev pub not_utf8 : LineFault
not_utf8 = Syntax NotUtf8

-- the first token is no event word
abbrev pub unknown_word : LineFault
unknown_word = Syntax UnknownWord

-- the line ends where a part must stand
abbrev pub missing_part : LineFault
missing_part = Syntax MissingPart

-- a token stands where the line must end, or where `;`, `?` or the end must stand
abbrev pub extra_part : LineFault
extra_part = Syntax ExtraPart

-- a number, an identifier or a value without quotes has another spelling, or is out of its range
abbrev pub bad_number : LineFault
bad_number = Syntax BadNumber

-- a text isn't quoted as it must be, or has a wrong length; the bytes of a stop aren't pairs of digits
abbrev pub bad_text : LineFault
bad_text = Syntax BadText

-- where a command or query word must stand there is none
abbrev pub bad_command : LineFault
bad_command = Syntax BadCommand

-- an identifier isn't above the one before, or the commands are too many
abbrev pub bad_list : LineFault
bad_list = Syntax BadList

-- the event can't stand in this state
abbrev pub misplaced : LineFault
misplaced = Syntax Misplaced

-- the fault of a text as one of the line
abbrev pub of_text_fault : TextFault → LineFault
of_text_fault text_fault.NoMemory = NoMemory
of_text_fault text_fault.NotANumber = bad_text
of_text_fault text_fault.TooLarge = bad_text
of_text_fault text_fault.BadQuote = bad_text
of_text_fault text_fault.TooLong = bad_text

-- the call gave what reading gives, unless memory was refused
abbrev pub Gives : {X : Type 0} → Result X LineFault → Result X LineFault → Type 0
Gives read (Ok x) = read ≡ Ok x
Gives read (Err fault) = fault ≢ NoMemory → read ≡ Err fault

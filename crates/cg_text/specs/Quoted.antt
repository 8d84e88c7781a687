-- Texts between quotes.
use Rattle.std.specs.Prelude.{ℕ, ◌==◌, nat_lt, nat_le, Bool, false, ◌||◌, ◌&&◌, not, List, [], ◌∷◌, ◌++◌, flat_map, length, Option, Some, None, Result, option_map, option_and_then, if◌then◌else◌}
use Rattle.std.specs.Str.{is_utf8}
use Rattle.cg_base.specs.Ascii.{SPACE, QUOTE, BACKSLASH, DELETE}
use Rattle.cg_text.specs.declared.fault.TextFault.{TextFault}
use Rattle.cg_text.specs.declared.fault.TextFault.TheVariants.{BadQuote, TooLong}
use Rattle.cg_text.specs.Fault.{fitting}

-- a byte that has a backslash before it
abbrev pub is_special : ℕ → Bool
is_special byte = (byte == QUOTE) || (byte == BACKSLASH)

-- a byte that no quoted text has
abbrev pub is_control : ℕ → Bool
is_control byte = nat_lt byte SPACE || (byte == DELETE)

-- a byte as it stands between quotes
abbrev pub escaped : ℕ → List ℕ
escaped byte = if is_special byte then BACKSLASH ∷ byte ∷ [] else byte ∷ []

-- a text between quotes
abbrev pub quoted : List ℕ → List ℕ
quoted text = QUOTE ∷ flat_map escaped text ++ QUOTE ∷ []

-- nothing may stand behind the closing quote
abbrev pub closed : List ℕ → Option (List ℕ)
closed [] = Some []
closed (byte ∷ bytes) = None

-- what a byte of the text does, which may stand behind a backslash: it ends the text, is a backslash before another byte, or must not stand there
abbrev pub ends_text : Bool → ℕ → Bool
ends_text is_escaped byte = not is_escaped && (byte == QUOTE)

abbrev pub escapes : Bool → ℕ → Bool
escapes is_escaped byte = not is_escaped && (byte == BACKSLASH)

abbrev pub is_refused : Bool → ℕ → Bool
is_refused is_escaped byte = if is_escaped then not (is_special byte) else is_control byte

-- the text goes on with the byte, unless it is a backslash before another
abbrev pub onto : List ℕ → Option (List ℕ) → Option (List ℕ)
onto front text = option_map (λ bytes. front ++ bytes) text

abbrev pub kept : Bool → ℕ → List ℕ
kept is_backslash byte = if is_backslash then [] else byte ∷ []

-- the text up to the closing quote, which ends the bytes; the first of them may stand behind a backslash
abbrev pub text_up_to_quote : Bool → List ℕ → Option (List ℕ)
text_up_to_quote is_escaped [] = None
text_up_to_quote is_escaped (byte ∷ bytes) =
    if ends_text is_escaped byte then closed bytes
    else if is_refused is_escaped byte then None
    else onto (kept (escapes is_escaped byte) byte) (text_up_to_quote (escapes is_escaped byte) bytes)

-- the text that stands between the quotes that begin and end the bytes
abbrev pub text_between : List ℕ → Option (List ℕ)
text_between [] = None
text_between (byte ∷ bytes) = if byte == QUOTE then text_up_to_quote false bytes else None

-- the text, where it is one
abbrev pub if_text : List ℕ → Option (List ℕ)
if_text text = if is_utf8 text then Some text else None

-- the text that bytes spell
abbrev pub quoted_text : List ℕ → Option (List ℕ)
quoted_text bytes = option_and_then if_text (text_between bytes)

-- what bytes are as a quoted text of at most so many bytes
abbrev pub read_quoted : ℕ → List ℕ → Result (List ℕ) TextFault
read_quoted max bytes = fitting BadQuote TooLong (λ text. nat_le (length text) max) (quoted_text bytes)

-- The bytes of a text that definitions name.
use Rattle.std.specs.Prelude.{ℕ}

abbrev pub LINE_FEED : ℕ
LINE_FEED = 10

abbrev pub TAB : ℕ
TAB = 9

abbrev pub SPACE : ℕ
SPACE = 32

abbrev pub QUOTE : ℕ
QUOTE = 34

abbrev pub COMMA : ℕ
COMMA = 44

abbrev pub HYPHEN : ℕ
HYPHEN = 45

abbrev pub ZERO : ℕ
ZERO = 48

abbrev pub NINE : ℕ
NINE = 57

abbrev pub COLON : ℕ
COLON = 58

abbrev pub BACKSLASH : ℕ
BACKSLASH = 92

abbrev pub SMALL_A : ℕ
SMALL_A = 97

abbrev pub SMALL_F : ℕ
SMALL_F = 102

abbrev pub DELETE : ℕ
DELETE = 127

-- The limits of what is asked.
use Rattle.std.specs.Prelude.{◌≡◌, ℕ, ◌==◌, ◌≤◌, Bool, true, not, ◌||◌, List, length, All, pos, ◌≤ℤ◌, FitsSigned, Option, is_some}
use Rattle.std.specs.Int.{w64}
use Rattle.std.specs.Str.{IsUtf8}
use Rattle.cg_base.specs.Sets.{IsId}
use Rattle.cg_codec.specs.Laws.{HasOptional}
use Rattle.cg_action.specs.declared.value.Value.{Value}
use Rattle.cg_action.specs.declared.value.Value.TheVariants.{Text, Int}
use Rattle.cg_action.specs.declared.command.Cmd.{Cmd}
use Rattle.cg_action.specs.declared.command.Cmd.TheVariants.{Put, Del, Inc, Cas, Move, Need}
use Rattle.cg_action.specs.declared.query.Query.{Query}
use Rattle.cg_action.specs.declared.query.Query.TheVariants.{Get, Keys, Count}
use Rattle.cg_action.specs.declared.action.Kind.{Kind}
use Rattle.cg_action.specs.declared.action.Kind.TheVariants.{Update, Join, Leave}

-- a text whose length lies between two bounds
abbrev pub IsTextWithin : ℕ → ℕ → List ℕ → Type 0
IsTextWithin low high t = IsUtf8 t × (low ≤ length t) × (length t ≤ high)

-- there is a command or a query
abbrev pub does_something : List Cmd → Option Query → Bool
does_something cmds query = not (length cmds == 0) || is_some query

-- The limits of what is asked, over texts of one sort: those of an action are any in UTF-8, those of a line in a schedule have no control bytes.
module _ (IsText : ℕ → ℕ → List ℕ → Type 0) where
  -- a key has 1 to 64 bytes, the front of one 0 to 64
  abbrev pub IsKeyOf : List ℕ → Type 0
  IsKeyOf = IsText 1 64

  abbrev pub IsPrefixOf : List ℕ → Type 0
  IsPrefixOf = IsText 0 64

  -- a text has at most 1,024 bytes, and a number 64 bits with a sign
  abbrev pub IsValueOf : Value → Type 0
  IsValueOf (Text t) = IsText 0 1024 t
  IsValueOf (Int n) = FitsSigned w64 n

  -- a value, or none
  abbrev pub IsWantOf : Option Value → Type 0
  IsWantOf = HasOptional IsValueOf

  abbrev pub IsCommandOf : Cmd → Type 0
  IsCommandOf (Put key value) = IsKeyOf key × IsValueOf value
  IsCommandOf (Del key) = IsKeyOf key
  IsCommandOf (Inc key by) = IsKeyOf key × FitsSigned w64 by
  IsCommandOf (Cas key want value) = IsKeyOf key × IsWantOf want × IsValueOf value
  IsCommandOf (Move source target amount) = IsKeyOf source × IsKeyOf target × FitsSigned w64 amount × (pos 0 ≤ℤ amount)
  IsCommandOf (Need key want) = IsKeyOf key × IsWantOf want

  abbrev pub IsQueryOf : Query → Type 0
  IsQueryOf (Get key) = IsKeyOf key
  IsQueryOf (Keys prefix) = IsPrefixOf prefix
  IsQueryOf Count = Unit {0}

  -- a query, or none
  abbrev pub IsAskedOf : Option Query → Type 0
  IsAskedOf = HasOptional IsQueryOf

  -- at most 16 commands; without any there is a query
  pub record IsUpdateOf (cmds : List Cmd) (query : Option Query) : Type 0 where
    pub few : length cmds ≤ 16
    pub each : All IsCommandOf cmds
    pub asks : IsAskedOf query
    pub does : does_something cmds query ≡ true

-- the limits in an action
abbrev pub IsQuery : Query → Type 0
IsQuery = IsQueryOf IsTextWithin

abbrev pub IsUpdate : List Cmd → Option Query → Type 0
IsUpdate = IsUpdateOf IsTextWithin

-- a joiner has a weight from 1 to 255
abbrev pub IsKind : Kind → Type 0
IsKind (Update cmds query) = IsUpdate cmds query
IsKind (Join joiner weight) = IsId joiner × (1 ≤ weight) × (weight ≤ 255)
IsKind (Leave server) = IsId server

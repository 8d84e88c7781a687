-- What is printed whole. `decimal` prints the last 64 digits of a number, so that two numbers with more digits may have
-- one text, as 10 ^ 64 + 1 and 2 * 10 ^ 64 + 1. The numbers of an entry have 64 bits at most, and so 20 digits.
use Rattle.std.specs.Prelude.{ℕ, suc, ◌^◌, ◌<◌, Option, Some, None, ℤ, pos, negsuc}
use Rattle.cg_base.specs.declared.action_id.ActionId.{ActionId}
use Rattle.cg_base.specs.declared.weighted.Weighted.{Weighted}
use Rattle.cg_action.specs.declared.value.Value.{Value}
use Rattle.cg_action.specs.declared.value.Value.TheVariants.{Text, Int}
use Rattle.cg_action.specs.declared.command.Cmd.{Cmd}
use Rattle.cg_action.specs.declared.command.Cmd.TheVariants.{Put, Del, Inc, Cas, Move, Need}
use Rattle.cg_action.specs.declared.action.Kind.{Kind}
use Rattle.cg_action.specs.declared.action.Kind.TheVariants.{Update, Join, Leave}
use Rattle.cg_action.specs.declared.answer.Answer.{Answer}
use Rattle.cg_action.specs.declared.answer.Answer.TheVariants as answer
use Rattle.cg_action.specs.declared.effect.Effect.{Effect}
use Rattle.cg_action.specs.declared.effect.Effect.TheVariants.{Done, Aborted, Range}
use Rattle.cg_action.specs.declared.entry.DbEntry.{DbEntry}
use Rattle.cg_records.specs.declared.primary.Primary.{Primary}
use Rattle.cg_records.specs.declared.vulnerable.Vulnerable.{Vulnerable}
use Rattle.cg_base.specs.Lists.{Each}
use Rattle.cg_report.specs.declared.line.ShownPhase.{ShownPhase}
use Rattle.cg_report.specs.declared.line.ShownPhase.TheVariants.{Alone, Regular, Transitional}
use Rattle.cg_report.specs.declared.line.View.{View}
use Rattle.cg_report.specs.declared.line.UpLine.{UpLine}
use Rattle.cg_report.specs.declared.line.Line.{Line}
use Rattle.cg_report.specs.declared.entry.Made.{Made}
use Rattle.cg_report.specs.declared.entry.Placed.{Placed}
use Rattle.cg_report.specs.declared.entry.Reply.{Reply}
use Rattle.cg_report.specs.declared.entry.Shown.{Shown}
use Rattle.cg_report.specs.declared.entry.Shown.TheVariants.{Weak, Dirty, Pieces, Greens, Database, All}
use Rattle.cg_report.specs.declared.entry.Entry.{Entry}

-- a number of at most 64 digits
abbrev pub IsShort : ℕ → Type 0
IsShort n = n < 10 ^ 64

-- the same of a number with a sign
abbrev pub IsShortInt : ℤ → Type 0
IsShortInt (pos n) = IsShort n
IsShortInt (negsuc n) = IsShort (suc n)

-- there is none, or it is so
abbrev pub IfAny : {X : Type 0} → (X → Type 0) → Option X → Type 0
IfAny P None = Unit {0}
IfAny P (Some x) = P x

-- Each of the following has no number but short ones.

abbrev pub IsShortId : ActionId → Type 0
IsShortId id = IsShort id.creator × IsShort id.index

abbrev pub IsShortMember : Weighted → Type 0
IsShortMember m = IsShort m.id × IsShort m.weight

abbrev pub IsShortValue : Value → Type 0
IsShortValue (Text t) = Unit {0}
IsShortValue (Int n) = IsShortInt n

abbrev pub IsShortCommand : Cmd → Type 0
IsShortCommand (Put key value) = IsShortValue value
IsShortCommand (Del key) = Unit {0}
IsShortCommand (Inc key by) = IsShortInt by
IsShortCommand (Cas key want value) = IfAny IsShortValue want × IsShortValue value
IsShortCommand (Move source target amount) = IsShortInt amount
IsShortCommand (Need key want) = IfAny IsShortValue want

abbrev pub IsShortKind : Kind → Type 0
IsShortKind (Update cmds query) = Each IsShortCommand cmds
IsShortKind (Join joiner weight) = IsShort joiner × IsShort weight
IsShortKind (Leave server) = IsShort server

abbrev pub IsShortMade : Made → Type 0
IsShortMade m = IsShortId m.id × IsShortKind m.kind

abbrev pub IsShortPlaced : Placed → Type 0
IsShortPlaced o = IsShort o.place × IsShortId o.id

abbrev pub IsShortPhase : ShownPhase → Type 0
IsShortPhase Alone = Unit {0}
IsShortPhase (Regular conf) = IsShort conf
IsShortPhase (Transitional conf) = IsShort conf

pub record IsShortPrimary (p : Primary) : Type 0 where
  pub index : IsShort p.index
  pub conf : IsShort p.conf
  pub set : Each IsShortMember p.set

pub record IsShortVulnerable (v : Vulnerable) : Type 0 where
  pub attempt : IsShort v.attempt
  pub from : IsShort v.from
  pub set : Each IsShort v.set
  pub bits : Each IsShort v.bits

pub record IsShortView (v : View) : Type 0 where
  pub green_count : IsShort v.green_count
  pub white_count : IsShort v.white_count
  pub prim : IsShortPrimary v.prim
  pub attempt_index : IsShort v.attempt_index
  pub vulnerable : IfAny IsShortVulnerable v.vulnerable
  pub yellow : Each IsShortId v.yellow.list
  pub reds : Each IsShortId v.reds
  pub own : Each IsShortId v.own
  pub left : Each IsShort v.left
  pub buffered : IsShort v.buffered

abbrev pub IsShortUp : UpLine → Type 0
IsShortUp up = IsShortPhase up.phase × IsShortView up.view

abbrev pub IsShortLine : Line → Type 0
IsShortLine l = IsShort l.id × IfAny IsShortUp l.up

abbrev pub IsShortEffect : Effect → Type 0
IsShortEffect Done = Unit {0}
IsShortEffect (Aborted place) = IsShort place
IsShortEffect (Range place) = IsShort place

abbrev pub IsShortAnswer : Answer → Type 0
IsShortAnswer answer.Absent = Unit {0}
IsShortAnswer (answer.Text t) = Unit {0}
IsShortAnswer (answer.Int n) = IsShortInt n
IsShortAnswer (answer.Keys keys) = Unit {0}
IsShortAnswer (answer.Count n) = IsShort n

abbrev pub IsShortReply : Reply → Type 0
IsShortReply r = IsShortId r.id × IsShortEffect r.effect × IfAny IsShortAnswer r.answer

abbrev pub IsShortDbEntry : DbEntry → Type 0
IsShortDbEntry e = IsShortValue e.value

abbrev pub IsShortShown : Shown → Type 0
IsShortShown (Weak p a) = IsShort p × IsShortAnswer a
IsShortShown (Dirty p a) = IsShort p × IsShortAnswer a
IsShortShown (Pieces joiner taken whole) = IsShort joiner × IsShort taken × IsShort whole
IsShortShown (Greens p list) = IsShort p × Each IsShortId list
IsShortShown (Database p entries) = IsShort p × Each IsShortDbEntry entries
IsShortShown (All list) = Each IsShortId list

pub record IsShortEntry (e : Entry) : Type 0 where
  pub made : Each IsShortMade e.made
  pub orders : Each IsShortPlaced e.orders
  pub lines : Each IsShortLine e.lines
  pub replies : Each IsShortReply e.replies
  pub shown : Each IsShortShown e.shown

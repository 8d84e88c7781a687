-- What a line may ask for is within the limits of an action: those of a line are narrower.
use Rattle.std.proofs.Common.{◌≡◌, ℕ, List, Option, Some, None, Ok, refl, ap, ◌∙◌, ◌↔◌}
use Rattle.std.proofs.lemmas.List.Elements.{All-weaker}
use Rattle.cg_action.specs.declared.value.Value.{Value}
use Rattle.cg_action.specs.declared.value.Value.TheVariants.{Text, Int}
use Rattle.cg_action.specs.declared.command.Cmd.{Cmd}
use Rattle.cg_action.specs.declared.command.Cmd.TheVariants.{Put, Del, Inc, Cas, Move, Need}
use Rattle.cg_action.specs.declared.query.Query.{Query}
use Rattle.cg_action.specs.declared.query.Query.TheVariants.{Get, Keys, Count}
use Rattle.cg_action.specs.Limits as action
use Rattle.cg_action.specs.ActionLimits.{IsKey, IsValue, IsWant, IsCommand}
use Rattle.cg_schedule.specs.declared.event.Event.{Event}
use Rattle.cg_schedule.specs.declared.event.Event.TheVariants.{Request, Weak, Dirty, Join, Leave}
use Rattle.cg_schedule.specs.declared.reader_state.ReaderState.{ReaderState}
use Rattle.cg_schedule.specs.declared.word.Word.{Word}
use Rattle.cg_schedule.specs.Limits as line
use Rattle.cg_schedule.specs.Laws.{Reads, ReadsAs}
use Rattle.cg_schedule.specs.Reading.{whole}
use Rattle.cg_schedule.specs.Line.{opening, event_reading, reading_behind, some_event}
use Rattle.cg_model.specs.Run.{MayAsk}
use Rattle.cg_items.specs.declared.companion.Companion.{Companion}
use Rattle.cg_outcome.specs.Produced.{before_all}
use Rattle.cg_outcome.specs.UnderWay.{IsUnderWay}

text_within : (low high : ℕ) (t : List ℕ) → line.IsPrintable low high t → action.IsTextWithin low high t
text_within low high t is = (is.0, is.2, is.3)

key_within : (t : List ℕ) → action.IsKeyOf line.IsPrintable t → IsKey t
key_within t is = text_within 1 64 t is

value_within : (v : Value) → action.IsValueOf line.IsPrintable v → IsValue v
value_within (Text t) is = text_within 0 1024 t is
value_within (Int n) is = is

want_within : (want : Option Value) → action.IsWantOf line.IsPrintable want → IsWant want
want_within None is = tt
want_within (Some v) is = value_within v is

command_within : (cmd : Cmd) → action.IsCommandOf line.IsPrintable cmd → IsCommand cmd
command_within (Put key value) is = (key_within key is.0, value_within value is.1)
command_within (Del key) is = key_within key is
command_within (Inc key by) is = (key_within key is.0, is.1)
command_within (Cas key want value) is = (key_within key is.0, want_within want is.1, value_within value is.2)
command_within (Move source target amount) is = (key_within source is.0, key_within target is.1, is.2, is.3)
command_within (Need key want) is = (key_within key is.0, want_within want is.1)

query_within : (query : Query) → line.IsQuery query → action.IsQuery query
query_within (Get key) is = key_within key is
query_within (Keys prefix) is = text_within 0 64 prefix is
query_within Count is = tt

asked_within : (query : Option Query) → action.IsAskedOf line.IsPrintable query →
    action.IsAskedOf action.IsTextWithin query
asked_within None is = tt
asked_within (Some query) is = query_within query is

update_within : (cmds : List Cmd) (query : Option Query) → line.IsUpdate cmds query → action.IsUpdate cmds query
update_within cmds query is = record {
  few = is.few;
  each = All-weaker (action.IsCommandOf line.IsPrintable) IsCommand command_within cmds is.each;
  asks = asked_within query is.asks;
  does = is.does;
}

-- an event that a line may be may be asked
pub may_ask : (e : Event) → line.IsEvent e → MayAsk e
may_ask (Request p cmds query) is = update_within cmds query is.1
may_ask (Weak p query) is = query_within query is.1
may_ask (Dirty p query) is = query_within query is.1
may_ask (Join p joiner weight) is = (is.1.0, is.1.1.0, is.1.1.1)
may_ask (Leave p server) is = is.1
may_ask other is = tt

-- lines read as events exactly as the schedule's law says
abbrev pub ExactLines : Type 0
ExactLines = (state : ReaderState) (line : List ℕ) (e : Event) → (Reads state line e) ↔ (ReadsAs state line e)

-- a line that begins so, and goes on as the event, reads as it
pub reads_of : (state : ReaderState) (line : List ℕ) (o : Word × List (List ℕ)) (e : Event) →
    opening state line ≡ Ok (Some o) → whole (event_reading o.0) o.1 ≡ Ok e → Reads state line e
reads_of state line o e opened read = ap reading_behind opened ∙ ap some_event read

-- before the first line
pub before_under_way : (c : Companion) → IsUnderWay (before_all c)
before_under_way c = record { before = λ e. refl; begun = λ e. absurd cc }

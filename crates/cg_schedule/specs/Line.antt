-- The line of a schedule: which event it reads as, or why it is refused.
use Rattle.std.specs.Prelude.{ℕ, nat_lt, Bool, true, false, not, ◌&&◌, List, [], ◌∷◌, Option, Some, None, Result, Ok, Err, codes, find, if◌then◌else◌}
use Rattle.std.specs.Str.{is_utf8}
use Rattle.cg_base.specs.declared.weighted.Weighted.{Weighted}
use Rattle.cg_base.specs.Sets.{with_member}
use Rattle.cg_base.specs.Weights.{with_weight}
use Rattle.cg_text.specs.Order.{same_text}
use Rattle.cg_text.specs.Tokens.{tokens, is_passed_over}
use Rattle.cg_schedule.specs.declared.fault.LineFault.{LineFault}
use Rattle.cg_schedule.specs.declared.event.Event.{Event}
use Rattle.cg_schedule.specs.declared.event.Event.TheVariants as event
use Rattle.cg_schedule.specs.declared.word.Word.{Word}
use Rattle.cg_schedule.specs.declared.word.Word.TheVariants.{Start, Split, Merge, Request, Weak, Dirty, Order, Recover, Downgrade, Show, Gather, End, Receive, Deliver, Rounds, Stop, Fail, Join, Leave, Transfer}
use Rattle.cg_schedule.specs.declared.reader_state.ReaderState.{ReaderState}
use Rattle.cg_schedule.specs.Fault.{not_utf8, unknown_word, bad_list, misplaced}
use Rattle.cg_schedule.specs.Reading.{Reading, ◌>>=◌, done, lifted, token_part, whole}
use Rattle.cg_schedule.specs.Part.{number, weighted, number_part, id_part, count_part, weighted_part, fill_part}
use Rattle.cg_schedule.specs.Command.{query_reading, update_reading}

-- ---- the word, and whether it may stand there

abbrev pub word_text : Word → List ℕ
word_text Start = codes "start"
word_text Split = codes "split"
word_text Merge = codes "merge"
word_text Request = codes "request"
word_text Weak = codes "weak"
word_text Dirty = codes "dirty"
word_text Order = codes "order"
word_text Recover = codes "recover"
word_text Downgrade = codes "downgrade"
word_text Show = codes "show"
word_text Gather = codes "gather"
word_text End = codes "end"
word_text Receive = codes "receive"
word_text Deliver = codes "deliver"
word_text Rounds = codes "rounds"
word_text Stop = codes "stop"
word_text Fail = codes "fail"
word_text Join = codes "join"
word_text Leave = codes "leave"
word_text Transfer = codes "transfer"

abbrev pub every_word : List Word
every_word = Start ∷ Split ∷ Merge ∷ Request ∷ Weak ∷ Dirty ∷ Order ∷ Recover ∷ Downgrade ∷ Show ∷ Gather ∷ End ∷ Receive
    ∷ Deliver ∷ Rounds ∷ Stop ∷ Fail ∷ Join ∷ Leave ∷ Transfer ∷ []

-- the event word that the text is
unfoldable pub word_of : List ℕ → Option Word
word_of text = find (λ word. same_text (word_text word) text) every_word

abbrev pub is_start : Word → Bool
is_start Start = true
is_start _ = false

-- the word of an event
abbrev pub event_word : Event → Word
event_word (event.Start set) = Start
event_word (event.Split set) = Split
event_word (event.Merge set) = Merge
event_word (event.Request p cmds query) = Request
event_word (event.Weak p query) = Weak
event_word (event.Dirty p query) = Dirty
event_word (event.Order p) = Order
event_word (event.Recover p) = Recover
event_word (event.RecoverStopped p call fill) = Recover
event_word (event.Downgrade p) = Downgrade
event_word (event.Show p) = Show
event_word event.ShowOrder = Show
event_word event.Gather = Gather
event_word event.End = End
event_word (event.Receive p place) = Receive
event_word (event.Deliver p count) = Deliver
event_word (event.Rounds count) = Rounds
event_word (event.Stop p call fill) = Stop
event_word (event.Fail p call) = Fail
event_word (event.Join p joiner weight) = Join
event_word (event.Leave p server) = Leave
event_word (event.Transfer p joiner pieces) = Transfer

-- the first line's state: neither start nor end has stood
abbrev pub first_state : ReaderState
first_state = record { started = false; ended = false }

-- the word may stand in this state: start first, and once, and nothing behind end
abbrev pub fits : ReaderState → Word → Bool
fits state word = not state.ended && (if is_start word then not state.started else state.started)

-- the state behind an event
abbrev pub state_after : ReaderState → Event → ReaderState
state_after state (event.Start set) = record state { started = true }
state_after state event.End = record state { ended = true }
state_after state _ = state

-- the word, and the tokens behind it, where it may stand in the state
abbrev pub placed : ReaderState → List (List ℕ) → Option Word → Result (Option (Word × List (List ℕ))) LineFault
placed state rest None = Err unknown_word
placed state rest (Some word) = if fits state word then Ok (Some (word, rest)) else Err misplaced

abbrev pub opening_of : ReaderState → List (List ℕ) → Result (Option (Word × List (List ℕ))) LineFault
opening_of state [] = Err unknown_word
opening_of state (token ∷ rest) = placed state rest (word_of token)

-- how a line begins: nothing where it is passed over, and else an event word that may stand there
unfoldable pub opening : ReaderState → List ℕ → Result (Option (Word × List (List ℕ))) LineFault
opening state line =
    if is_passed_over line then Ok None
    else if is_utf8 line then opening_of state (tokens line)
    else Err not_utf8

-- ---- the parts of each event

-- identifiers up to the line's end, each above the one before, into a set
abbrev pub ids_behind : Result ℕ LineFault → ℕ → (ℕ → Result (List ℕ × List (List ℕ)) LineFault) →
    Result (List ℕ × List (List ℕ)) LineFault
ids_behind (Ok p) last more = if nat_lt last p then more p else Err bad_list
ids_behind (Err fault) last more = Err fault

unfoldable pub ids : ℕ → List ℕ → Reading (List ℕ)
ids last set [] = Ok (set, [])
ids last set (token ∷ left) = ids_behind (number 1 32 token) last (λ p. ids p (with_member set p) left)

-- the same with weights
abbrev pub weights_behind : Result Weighted LineFault → ℕ →
    (Weighted → Result (List Weighted × List (List ℕ)) LineFault) → Result (List Weighted × List (List ℕ)) LineFault
weights_behind (Ok m) last more = if nat_lt last m.id then more m else Err bad_list
weights_behind (Err fault) last more = Err fault

unfoldable pub weights : ℕ → List Weighted → Reading (List Weighted)
weights last set [] = Ok (set, [])
weights last set (token ∷ left) = weights_behind (weighted token) last (λ m. weights m.id (with_weight set m) left)

unfoldable pub start_reading : Reading Event
start_reading = weights 0 [] >>= λ set. done (event.Start set)

unfoldable pub split_reading : Reading Event
split_reading = ids 0 [] >>= λ set. done (event.Split set)

unfoldable pub merge_reading : Reading Event
merge_reading = ids 0 [] >>= λ set. done (event.Merge set)

unfoldable pub request_reading : Reading Event
request_reading = do
  p ← id_part
  update ← update_reading
  done (event.Request p update.0 update.1)

unfoldable pub weak_reading : Reading Event
weak_reading = do
  p ← id_part
  query ← query_reading
  done (event.Weak p query)

unfoldable pub dirty_reading : Reading Event
dirty_reading = do
  p ← id_part
  query ← query_reading
  done (event.Dirty p query)

unfoldable pub order_reading : Reading Event
order_reading = id_part >>= λ p. done (event.Order p)

-- a recovery, and where more stands, the call in which it is to be stopped and the bytes that are left
unfoldable pub recover_stopped_reading : ℕ → Reading Event
recover_stopped_reading p = do
  call ← count_part
  fill ← fill_part
  done (event.RecoverStopped p call fill)

abbrev pub recovery_of : ℕ → Reading Event
recovery_of p [] = Ok (event.Recover p, [])
recovery_of p (token ∷ left) = recover_stopped_reading p (token ∷ left)

unfoldable pub recover_reading : Reading Event
recover_reading = id_part >>= recovery_of

unfoldable pub downgrade_reading : Reading Event
downgrade_reading = id_part >>= λ p. done (event.Downgrade p)

-- what is to be shown: the order, or a replica
abbrev pub shown : Result ℕ LineFault → Result Event LineFault
shown (Ok p) = Ok (event.Show p)
shown (Err fault) = Err fault

unfoldable pub show_reading : Reading Event
show_reading = token_part >>= λ token. if same_text token (codes "order") then done event.ShowOrder
    else lifted (shown (number 1 32 token))

unfoldable pub receive_reading : Reading Event
receive_reading = do
  p ← id_part
  place ← count_part
  done (event.Receive p place)

unfoldable pub deliver_reading : Reading Event
deliver_reading = do
  p ← id_part
  count ← count_part
  done (event.Deliver p count)

unfoldable pub rounds_reading : Reading Event
rounds_reading = count_part >>= λ count. done (event.Rounds count)

unfoldable pub stop_reading : Reading Event
stop_reading = do
  p ← id_part
  call ← number_part 0 1000000
  fill ← fill_part
  done (event.Stop p call fill)

unfoldable pub fail_reading : Reading Event
fail_reading = do
  p ← id_part
  call ← count_part
  done (event.Fail p call)

unfoldable pub join_reading : Reading Event
join_reading = do
  p ← id_part
  joiner ← weighted_part
  done (event.Join p joiner.id joiner.weight)

unfoldable pub leave_reading : Reading Event
leave_reading = do
  p ← id_part
  server ← id_part
  done (event.Leave p server)

unfoldable pub transfer_reading : Reading Event
transfer_reading = do
  p ← id_part
  joiner ← id_part
  pieces ← count_part
  done (event.Transfer p joiner pieces)

-- the event of a word, from the tokens behind it
unfoldable pub event_reading : Word → Reading Event
event_reading Start = start_reading
event_reading Split = split_reading
event_reading Merge = merge_reading
event_reading Request = request_reading
event_reading Weak = weak_reading
event_reading Dirty = dirty_reading
event_reading Order = order_reading
event_reading Recover = recover_reading
event_reading Downgrade = downgrade_reading
event_reading Show = show_reading
event_reading Gather = done event.Gather
event_reading End = done event.End
event_reading Receive = receive_reading
event_reading Deliver = deliver_reading
event_reading Rounds = rounds_reading
event_reading Stop = stop_reading
event_reading Fail = fail_reading
event_reading Join = join_reading
event_reading Leave = leave_reading
event_reading Transfer = transfer_reading

-- ---- the line

abbrev pub some_event : Result Event LineFault → Result (Option Event) LineFault
some_event (Ok e) = Ok (Some e)
some_event (Err fault) = Err fault

abbrev pub reading_behind : Result (Option (Word × List (List ℕ))) LineFault → Result (Option Event) LineFault
reading_behind (Ok None) = Ok None
reading_behind (Ok (Some opened)) = some_event (whole (event_reading opened.0) opened.1)
reading_behind (Err fault) = Err fault

-- how a line reads in a state: as nothing, where it is passed over, or as an event; else why it is refused
abbrev pub reading : ReaderState → List ℕ → Result (Option Event) LineFault
reading state line = reading_behind (opening state line)

-- the state behind a call that read a line, or was refused memory
abbrev pub state_behind : ReaderState → Result (Option Event) LineFault → ReaderState
state_behind state (Ok None) = state
state_behind state (Ok (Some e)) = state_after state e
state_behind state (Err fault) = state

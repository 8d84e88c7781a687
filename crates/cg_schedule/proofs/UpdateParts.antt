-- What a request asks is read as it is spelled.
use Rattle.std.proofs.Common.{◌≡◌, ℕ, zero, suc, ◌<◌, Bool, true, false, cond, List, [], ◌∷◌, ◌++◌, length, Option, Some, None, Ok, Err, refl, ap, ◌∙◌, append_assoc, arith, codes}
use Rattle.std.proofs.lemmas.List.{append-nil}
use Rattle.std.specs.List.{All, flat_map}
use Rattle.std.proofs.lemmas.Bool.{ne_eqb}
use Rattle.std.proofs.lemmas.List.Elements.{All-nil, All-cons, All-head, All-tail}
use Rattle.cg_action.specs.Limits.{does_something, IsAskedOf}
use Rattle.cg_action.specs.declared.command.Cmd.{Cmd}
use Rattle.cg_action.specs.declared.command.Cmd.TheVariants.{Put, Del, Inc, Cas, Move, Need}
use Rattle.cg_action.specs.declared.query.Query.{Query}
use Rattle.cg_schedule.specs.Fault.{extra_part}
use Rattle.cg_schedule.specs.Reading.{Reading, go_on, ◌>>=◌, token_part}
use Rattle.cg_schedule.specs.Command.{Update, query_reading, with_query, is_semicolon, is_question_mark, behind_commands, commands, update_of, update_reading}
use Rattle.cg_schedule.specs.Limits.{IsPrintable, IsQuery, IsUpdate}
use Rattle.cg_schedule.specs.PartLaws.{Anything, Nothing, IsPart, Makes, gives, given, go_on-ok, made}
use Rattle.cg_schedule.proofs.TokenParts.{TextFacts}
use Rattle.cg_schedule.proofs.CommandParts.{IsCommand, command_tokens, command_reading, command_is, query_tokens, query_is}
use Rattle.cg_base.specs.ListLaws.{same_cons}
use Rattle.cg_text.specs.OrderLaws.{same_text-is}

-- ---- tokens

-- a command behind another
abbrev pub next_tokens : Cmd → List (List ℕ)
next_tokens cmd = codes ";" ∷ command_tokens cmd

abbrev pub commands_tokens : List Cmd → List (List ℕ)
commands_tokens [] = []
commands_tokens (cmd ∷ cmds) = command_tokens cmd ++ flat_map next_tokens cmds

-- a query behind commands
abbrev pub asked_tokens : Option Query → List (List ℕ)
asked_tokens None = []
asked_tokens (Some query) = codes "?" ∷ query_tokens query

abbrev pub update_tokens : List Cmd → Option Query → List (List ℕ)
update_tokens cmds query = commands_tokens cmds ++ asked_tokens query

-- ---- a query behind commands

with_query_makes : TextFacts → (cmds : List Cmd) → Makes Anything IsQuery query_tokens (λ (q : Query). (cmds, Some q)) (with_query cmds)
unfolding with_query
with_query_makes facts cmds = made Anything IsQuery query_tokens (λ (q : Query). (cmds, Some q)) query_reading (query_is facts)

asked_again : TextFacts → (cmds : List Cmd) (query : Query) → IsQuery query → with_query cmds (query_tokens query) ≡ Ok ((cmds, Some query), [])
asked_again facts cmds query has = rw (← append-nil (query_tokens query)) ((with_query_makes facts cmds).again query [] tt has)

-- ---- commands

-- commands, of which none was read
abbrev commands_from : ℕ → List Cmd → Reading Update
commands_from n taken = token_part >>= commands n taken

-- the first one is read, and the reading goes on
commands_from-first : (n : ℕ) (taken : List Cmd) (ts : List (List ℕ))
    → commands_from (suc n) taken ts ≡ go_on (command_reading ts) (λ cmd. behind_commands (commands n (taken ++ cmd ∷ [])) (taken ++ cmd ∷ []))
unfolding commands
commands_from-first n taken [] = refl
commands_from-first n taken (word ∷ left) = refl

-- what stands behind the first command
abbrev behind_tokens : List Cmd → Option Query → List (List ℕ)
behind_tokens cmds query = flat_map next_tokens cmds ++ asked_tokens query

commands_again : TextFacts → (n : ℕ) (taken : List Cmd) (cmd : Cmd) (cmds : List Cmd) (query : Option Query) → length cmds < n → IsCommand cmd → All IsCommand cmds → IsAskedOf IsPrintable query
    → commands_from n taken (command_tokens cmd ++ behind_tokens cmds query) ≡ Ok ((taken ++ cmd ∷ cmds, query), [])
commands_again facts zero taken cmd cmds query few is are asked = absurd (omega arith)
commands_again facts (suc n) taken cmd [] None few is are asked =
    rw (commands_from-first n taken (command_tokens cmd ++ []), (command_is facts).again cmd [] tt is) refl
commands_again facts (suc n) taken cmd [] (Some query) few is are asked =
    rw (commands_from-first n taken (command_tokens cmd ++ (codes "?" ∷ query_tokens query)), (command_is facts).again cmd (codes "?" ∷ query_tokens query) tt is) (asked_again facts (taken ++ cmd ∷ []) query asked)
commands_again facts (suc n) taken cmd (next ∷ cmds) query few is are asked =
    let rest = behind_tokens cmds query in
    let grouped : (command_tokens next ++ flat_map next_tokens cmds) ++ asked_tokens query ≡ command_tokens next ++ rest = append_assoc (command_tokens next) (flat_map next_tokens cmds) (asked_tokens query) in
    let more = commands_again facts n (taken ++ cmd ∷ []) next cmds query (omega arith) (All-head IsCommand next cmds are) (All-tail IsCommand next cmds are) asked in
    let all : (taken ++ cmd ∷ []) ++ next ∷ cmds ≡ taken ++ cmd ∷ next ∷ cmds = append_assoc taken (cmd ∷ []) (next ∷ cmds) in
    rw (commands_from-first n taken (command_tokens cmd ++ behind_tokens (next ∷ cmds) query), (command_is facts).again cmd (behind_tokens (next ∷ cmds) query) tt is, ← all) (rw grouped more)

-- the tokens that commands were read from
record CommandsFound (n : ℕ) (taken : List Cmd) (ts : List (List ℕ)) (u : Update) (new : List (List ℕ)) : Type 0 where
  first : Cmd
  others : List Cmd
  grown : u.0 ≡ taken ++ first ∷ others
  few : length others < n
  is : IsCommand first
  are : All IsCommand others
  asked : IsAskedOf IsPrintable u.1
  tokens : ts ≡ command_tokens first ++ (behind_tokens others u.1 ++ new)

-- how a command goes on
ends_here : (n : ℕ) (taken : List Cmd) (cmd : Cmd) (ts : List (List ℕ)) (u : Update) (new : List (List ℕ)) → IsCommand cmd → ts ≡ command_tokens cmd ++ [] → gives ((taken ++ cmd ∷ [], None), []) ≡ Ok (u, new) → CommandsFound (suc n) taken ts u new
ends_here n taken cmd ts u new is from e =
    let g = given (taken ++ cmd ∷ [], None) u [] new e in
    rw (← g.0, ← g.1) record { first = cmd; others = []; grown = refl; few = omega arith; is = is; are = All-nil IsCommand; asked = tt; tokens = from }

asks_here : TextFacts → (n : ℕ) (taken : List Cmd) (cmd : Cmd) (mark : List ℕ) (left ts : List (List ℕ)) (u : Update) (new : List (List ℕ)) → IsCommand cmd → ts ≡ command_tokens cmd ++ (mark ∷ left) → mark ≡ codes "?"
    → with_query (taken ++ cmd ∷ []) left ≡ Ok (u, new) → CommandsFound (suc n) taken ts u new
asks_here facts n taken cmd mark left ts u new is from question e =
    let f = (with_query_makes facts (taken ++ cmd ∷ [])).found u left new e in
    let whole : mark ∷ left ≡ (codes "?" ∷ query_tokens f.from) ++ new = same_cons mark (codes "?") left (query_tokens f.from ++ new) question f.tokens in
    rw (← f.is) record { first = cmd; others = []; grown = refl; few = omega arith; is = is; are = All-nil IsCommand; asked = f.has; tokens = from ∙ ap (λ (t : List (List ℕ)). command_tokens cmd ++ t) whole }

goes_on : (n : ℕ) (taken : List Cmd) (cmd : Cmd) (mark : List ℕ) (left ts : List (List ℕ)) (u : Update) (new : List (List ℕ)) → IsCommand cmd → ts ≡ command_tokens cmd ++ (mark ∷ left) → mark ≡ codes ";"
    → CommandsFound n (taken ++ cmd ∷ []) left u new → CommandsFound (suc n) taken ts u new
goes_on n taken cmd mark left ts u new is from semicolon f =
    let rest = flat_map next_tokens f.others in
    let ask = asked_tokens u.1 in
    let regrouped : command_tokens f.first ++ ((rest ++ ask) ++ new) ≡ ((command_tokens f.first ++ rest) ++ ask) ++ new = rw (append_assoc rest ask new, append_assoc (command_tokens f.first ++ rest) ask new, append_assoc (command_tokens f.first) rest (ask ++ new)) refl in
    let whole : mark ∷ left ≡ behind_tokens (f.first ∷ f.others) u.1 ++ new = same_cons mark (codes ";") left _ semicolon (f.tokens ∙ regrouped) in
    record {
      first = cmd;
      others = f.first ∷ f.others;
      grown = f.grown ∙ append_assoc taken (cmd ∷ []) (f.first ∷ f.others);
      few = let below = f.few in omega arith;
      is = is;
      are = All-cons IsCommand f.first f.others f.is f.are;
      asked = f.asked;
      tokens = from ∙ ap (λ (t : List (List ℕ)). command_tokens cmd ++ t) whole;
    }

-- what is known of the commands that may follow
abbrev FindsCommands : ℕ → Type 0
FindsCommands n = (taken : List Cmd) (ts : List (List ℕ)) (u : Update) (new : List (List ℕ)) → commands_from n taken ts ≡ Ok (u, new) → CommandsFound n taken ts u new

behind_found : TextFacts → (n : ℕ) (taken : List Cmd) (cmd : Cmd) (left ts : List (List ℕ)) (u : Update) (new : List (List ℕ)) → FindsCommands n → IsCommand cmd → ts ≡ command_tokens cmd ++ left
    → behind_commands (commands n (taken ++ cmd ∷ [])) (taken ++ cmd ∷ []) left ≡ Ok (u, new) → CommandsFound (suc n) taken ts u new
behind_found facts n taken cmd [] ts u new more is from e = ends_here n taken cmd ts u new is from e
behind_found facts n taken cmd (mark ∷ left) ts u new more is from e = by_question (is_question_mark mark) refl e where
  by_semicolon : (b : Bool) → is_semicolon mark ≡ b → cond b (commands_from n (taken ++ cmd ∷ []) left) (Err extra_part) ≡ Ok (u, new) → CommandsFound (suc n) taken ts u new
  by_semicolon true s f = goes_on n taken cmd mark left ts u new is from (same_text-is mark (codes ";") s) (more (taken ++ cmd ∷ []) left u new f)
  by_semicolon false s f = absurd cc

  by_question : (b : Bool) → is_question_mark mark ≡ b → cond b (with_query (taken ++ cmd ∷ []) left) (cond (is_semicolon mark) (commands_from n (taken ++ cmd ∷ []) left) (Err extra_part)) ≡ Ok (u, new) → CommandsFound (suc n) taken ts u new
  by_question true q f = asks_here facts n taken cmd mark left ts u new is from (same_text-is mark (codes "?") q) f
  by_question false q f = by_semicolon (is_semicolon mark) refl f

no_further : (taken : List Cmd) (ts : List (List ℕ)) (u : Update) (new : List (List ℕ)) → commands_from 0 taken ts ≡ Ok (u, new) → ⊥
unfolding commands
no_further taken [] u new e = cc
no_further taken (word ∷ left) u new e = cc

commands_found : TextFacts → (n : ℕ) → FindsCommands n
commands_found facts zero taken ts u new e = absurd (no_further taken ts u new e)
commands_found facts (suc n) taken ts u new e =
    let first = rw (commands_from-first n taken ts) at e in
    let step = go_on-ok (command_reading ts) (λ cmd. behind_commands (commands n (taken ++ cmd ∷ [])) (taken ++ cmd ∷ [])) u new first in
    let f = (command_is facts).found step.0 ts step.1 step.2 in
    let known : IsCommand step.0 × (ts ≡ command_tokens step.0 ++ step.1) = rw (← f.is) (f.has, f.tokens) in
    behind_found facts n taken step.0 step.1 ts u new (commands_found facts n) known.0 known.1 step.3

-- ---- what a request asks

-- a command's word is no question mark
update_commands : (cmd : Cmd) (left : List (List ℕ)) → update_reading (command_tokens cmd ++ left) ≡ commands_from 16 [] (command_tokens cmd ++ left)
unfolding update_reading update_of command_tokens
update_commands (Put key value) left = refl
update_commands (Del key) left = refl
update_commands (Inc key by) left = refl
update_commands (Cas key want value) left = refl
update_commands (Move source target amount) left = refl
update_commands (Need key want) left = refl

update_again : TextFacts → (cmds : List Cmd) (query : Option Query) → IsUpdate cmds query → update_reading (update_tokens cmds query) ≡ Ok ((cmds, query), [])
unfolding update_reading update_of
update_again facts [] None has = absurd (nothing has.does) where
  nothing : false ≡ true → ⊥
  nothing e = cc
update_again facts [] (Some query) has = asked_again facts [] query has.asks
update_again facts (cmd ∷ cmds) query has =
    let grouped : (command_tokens cmd ++ flat_map next_tokens cmds) ++ asked_tokens query ≡ command_tokens cmd ++ behind_tokens cmds query = append_assoc (command_tokens cmd) (flat_map next_tokens cmds) (asked_tokens query) in
    rw (grouped, update_commands cmd (behind_tokens cmds query)) (commands_again facts 16 [] cmd cmds query (let few = has.few in omega arith) (All-head IsCommand cmd cmds has.each) (All-tail IsCommand cmd cmds has.each) has.asks)

abbrev UpdateFound : List (List ℕ) → Update → List (List ℕ) → Type 0
UpdateFound ts u new = IsUpdate u.0 u.1 × (ts ≡ update_tokens u.0 u.1 ++ new)

does_with : (cmd : Cmd) (cmds : List Cmd) (query : Option Query) → does_something (cmd ∷ cmds) query ≡ true
does_with cmd cmds query = rw (ne_eqb (suc (length cmds)) 0 (λ none. absurd (omega arith))) refl

from_commands : (ts : List (List ℕ)) (u : Update) (new : List (List ℕ)) → CommandsFound 16 [] ts u new → UpdateFound ts u new
from_commands ts u new f =
    let rest = flat_map next_tokens f.others in
    let ask = asked_tokens u.1 in
    let regrouped : command_tokens f.first ++ ((rest ++ ask) ++ new) ≡ ((command_tokens f.first ++ rest) ++ ask) ++ new = rw (append_assoc rest ask new, append_assoc (command_tokens f.first ++ rest) ask new, append_assoc (command_tokens f.first) rest (ask ++ new)) refl in
    let few = f.few in
    rw f.grown (record { few = omega arith; each = All-cons IsCommand f.first f.others f.is f.are; asks = f.asked; does = does_with f.first f.others u.1 }, f.tokens ∙ regrouped)

update_found : TextFacts → (ts : List (List ℕ)) (u : Update) (new : List (List ℕ)) → update_reading ts ≡ Ok (u, new) → UpdateFound ts u new
unfolding update_reading update_of
update_found facts [] u new e = absurd cc
update_found facts (token ∷ left) u new e = by_question (is_question_mark token) refl e where
  by_question : (b : Bool) → is_question_mark token ≡ b → (cond b (with_query []) (commands 16 [] token)) left ≡ Ok (u, new) → UpdateFound (token ∷ left) u new
  by_question true q f =
      let g = (with_query_makes facts []).found u left new f in
      rw (same_text-is token (codes "?") q, ← g.is) (record { few = omega arith; each = All-nil IsCommand; asks = g.has; does = refl }, ap (λ (t : List (List ℕ)). codes "?" ∷ t) g.tokens)
  by_question false q f = from_commands (token ∷ left) u new (commands_found facts 16 [] (token ∷ left) u new f)

pub update_is : TextFacts → IsPart Nothing (λ (u : Update). IsUpdate u.0 u.1) (λ (u : Update). update_tokens u.0 u.1) update_reading
update_is facts = record {
  again = λ u left ends has. rw (ends, append-nil (update_tokens u.0 u.1)) (update_again facts u.0 u.1 has);
  found = λ u old new e. let f = update_found facts old u new e in record { from = u; is = refl; has = f.0; tokens = f.1 };
}

-- Keys and values stay within the limits of actions.
use Rattle.std.proofs.Common.{◌≡◌, ℕ, suc, Bool, true, false, cond, List, [], ◌∷◌, refl, arith}
use Rattle.std.specs.Prelude.{All, fold, filter, ℤ, pos, ◌-ℤ◌, ◌+ℤ◌, ◌≤ℤ◌, int_lt, FitsSigned, Option, Some, None}
use Rattle.std.specs.Int.{w64}
use Rattle.std.proofs.lemmas.List.Elements.{All-tail}
use Rattle.std.proofs.lemmas.Int.{ints}
use Rattle.cg_codec.specs.Laws.{HasOptional}
use Rattle.cg_text.specs.Order.{same_text, text_before}
use Rattle.cg_text.specs.Numbers.{fits_i64}
use Rattle.cg_action.specs.declared.value.Value.{Value}
use Rattle.cg_action.specs.declared.value.Value.TheVariants.{Text, Int}
use Rattle.cg_action.specs.declared.command.Cmd.{Cmd}
use Rattle.cg_action.specs.declared.command.Cmd.TheVariants.{Put, Del, Inc, Cas, Move, Need}
use Rattle.cg_action.specs.declared.action.Kind.{Kind}
use Rattle.cg_action.specs.declared.action.Kind.TheVariants.{Update, Join, Leave}
use Rattle.cg_action.specs.declared.action.Action.{Action}
use Rattle.cg_action.specs.Limits.{IsKind}
use Rattle.cg_action.specs.ActionLimits.{IsKey, IsValue, IsCommand, IsAction}
use Rattle.cg_action.specs.declared.entry.DbEntry.{DbEntry}
use Rattle.cg_db.specs.Limits.{IsEntry, AreEntries}
use Rattle.cg_db.specs.Map.{value_of, put, has_value}
use Rattle.cg_db.specs.Apply.{Ran, Changed, Aborts, Overflows, number_of, add_number, add_to, move_number, run_command, run_commands, apply, apply_kind}
use Rattle.cg_db.specs.AscendingLaws.{put_at}
use Rattle.cg_db.proofs.PlanLemmas.{fits_i64-to}

put_at-within : (e : DbEntry) (db : List DbEntry) (key : List ℕ) (value : Value) → IsEntry e → AreEntries db → IsKey key → IsValue value → AreEntries (put db key value)
    → (same before : Bool) → AreEntries (put_at same before e db key value)
put_at-within e db key value one others k v rest true before = (record { key = k; value = v }, others)
put_at-within e db key value one others k v rest false true = (record { key = k; value = v }, (one, others))
put_at-within e db key value one others k v rest false false = (one, rest)

put-within : (db : List DbEntry) (key : List ℕ) (value : Value) → AreEntries db → IsKey key → IsValue value → AreEntries (put db key value)
put-within [] key value all k v = (record { key = k; value = v }, tt)
put-within (e ∷ db) key value all k v = put_at-within e db key value all.0 all.1 k v (put-within db key value all.1 k v) (same_text key e.key) (text_before key e.key)

kept-within : (e : DbEntry) (kept : List DbEntry) → IsEntry e → AreEntries kept → (b : Bool) → AreEntries (cond b (e ∷ kept) kept)
kept-within e kept one rest true = (one, rest)
kept-within e kept one rest false = rest

filter-within : (p : DbEntry → Bool) (db : List DbEntry) → AreEntries db → AreEntries (filter p db)
filter-within p [] all = tt
filter-within p (e ∷ db) all = kept-within e (filter p db) all.0 (filter-within p db all.1) (p e)

found-within : (b : Bool) (v : Value) (rest : Option Value) → IsValue v → HasOptional IsValue rest → HasOptional IsValue (cond b (Some v) rest)
found-within true v rest one other = one
found-within false v rest one other = other

value_of-within : (db : List DbEntry) (q : List ℕ) → AreEntries db → HasOptional IsValue (value_of db q)
value_of-within [] q all = tt
value_of-within (e ∷ db) q all = found-within (same_text q e.key) e.value (value_of db q) all.0.value (value_of-within db q all.1)

-- ---- one command

AreRan : Ran → Type 0
AreRan (Changed db) = AreEntries db
AreRan Aborts = Unit {0}
AreRan Overflows = Unit {0}

set_within : (db : List DbEntry) (key : List ℕ) (n : ℤ) → AreEntries db → IsKey key → (b : Bool) → fits_i64 n ≡ b → AreRan (cond b (Changed (put db key (Int n))) Overflows)
unfolding AreRan
set_within db key n all k true fits = put-within db key (Int n) all k (fits_i64-to n fits)
set_within db key n all k false fits = tt

add_number-within : (db : List DbEntry) (key : List ℕ) (by : ℤ) (o : Option ℤ) → AreEntries db → IsKey key → AreRan (add_number db key by o)
unfolding AreRan
add_number-within db key by None all k = tt
add_number-within db key by (Some n) all k = set_within db key (n +ℤ by) all k (fits_i64 (n +ℤ by)) refl

less-fits : (n amount : ℤ) → FitsSigned w64 n → FitsSigned w64 amount → pos 0 ≤ℤ amount → int_lt n amount ≡ false → FitsSigned w64 (n -ℤ amount)
less-fits n amount n_fits a_fits from_zero enough = grind (arith, ints)

move-within_by : (db : List DbEntry) (source target : List ℕ) (amount n : ℤ) → AreEntries db → IsKey source → IsKey target → FitsSigned w64 n → FitsSigned w64 amount → pos 0 ≤ℤ amount → (b : Bool) → int_lt n amount ≡ b
    → AreRan (cond b Aborts (add_to (put db source (Int (n -ℤ amount))) target amount))
unfolding AreRan
move-within_by db source target amount n all s t n_fits a_fits from_zero true less = tt
move-within_by db source target amount n all s t n_fits a_fits from_zero false enough =
    let moved = put db source (Int (n -ℤ amount)) in
    add_number-within moved target amount (number_of (value_of moved target)) (put-within db source (Int (n -ℤ amount)) all s (less-fits n amount n_fits a_fits from_zero enough)) t

zero-fits : FitsSigned w64 (pos 0)
zero-fits = omega (arith, ints)

move-within : (db : List DbEntry) (source target : List ℕ) (amount : ℤ) (o : Option Value) → HasOptional IsValue o → AreEntries db → IsKey source → IsKey target → FitsSigned w64 amount → pos 0 ≤ℤ amount
    → AreRan (move_number db source target amount (number_of o))
unfolding AreRan
move-within db source target amount None v all s t a_fits from_zero = move-within_by db source target amount (pos 0) all s t zero-fits a_fits from_zero (int_lt (pos 0) amount) refl
move-within db source target amount (Some (Int n)) v all s t a_fits from_zero = move-within_by db source target amount n all s t v a_fits from_zero (int_lt n amount) refl
move-within db source target amount (Some (Text x)) v all s t a_fits from_zero = tt

either-within : (b : Bool) (x y : Ran) → AreRan x → AreRan y → AreRan (cond b x y)
either-within true x y one other = one
either-within false x y one other = other

command-within : (db : List DbEntry) (cmd : Cmd) → AreEntries db → IsCommand cmd → AreRan (run_command db cmd)
unfolding AreRan
command-within db (Put key value) all is = put-within db key value all is.0 is.1
command-within db (Del key) all is = filter-within _ db all
command-within db (Inc key by) all is = add_number-within db key by (number_of (value_of db key)) all is.0
command-within db (Cas key want value) all is = either-within (has_value db key want) (Changed (put db key value)) (Changed db) (put-within db key value all is.0 is.2) all
command-within db (Move source target amount) all is = move-within db source target amount (value_of db source) (value_of-within db source all) all is.0 is.1 is.2 is.3
command-within db (Need key want) all is = either-within (has_value db key want) (Changed db) Aborts all tt

-- ---- actions

commands-within : (old : List DbEntry) (number : ℕ) (cmds : List Cmd) (r : Ran) → AreEntries old → All IsCommand cmds → AreRan r → AreEntries (run_commands old number cmds r).db
unfolding AreRan run_commands
commands-within old number [] Aborts all each ran = all
commands-within old number (c ∷ cmds) Aborts all each ran = all
commands-within old number [] Overflows all each ran = all
commands-within old number (c ∷ cmds) Overflows all each ran = all
commands-within old number [] (Changed db) all each ran = ran
commands-within old number (c ∷ cmds) (Changed db) all each ran = commands-within old (suc number) cmds (run_command db c) all (All-tail IsCommand c cmds each) (command-within db c ran (each 0 c (omega arith)))

kind-within : (db : List DbEntry) (kind : Kind) → AreEntries db → IsKind kind → AreEntries (apply_kind db kind).db
unfolding AreRan
kind-within db (Update cmds query) all is = commands-within db 0 cmds (Changed db) all is.each all
kind-within db (Join joiner weight) all is = all
kind-within db (Leave server) all is = all

pub apply-within : (db : List DbEntry) (action : Action) → AreEntries db → IsAction action → AreEntries (apply db action).db
apply-within db action all is = kind-within db action.kind all is.kind

pub fold-within : (actions : List Action) (db : List DbEntry) → AreEntries db → All IsAction actions → AreEntries (fold (λ d action. (apply d action).db) db actions)
fold-within [] db all each = all
fold-within (a ∷ actions) db all each = fold-within actions (apply db a).db (apply-within db a all (each 0 a (omega arith))) (All-tail IsAction a actions each)

-- Actions whose keys are all chosen, in a database and in its part at the chosen keys.
use Rattle.std.proofs.Common.{◌≡◌, ℕ, suc, Bool, true, false, cond, not, List, [], ◌∷◌, refl, sym, ap, subst, ◌∙◌}
use Rattle.std.specs.Prelude.{Option, Some, None, ℤ, ◌+ℤ◌, ◌-ℤ◌, int_lt}
use Rattle.std.specs.Option.{option_eq}
use Rattle.cg_text.specs.Numbers.{fits_i64}
use Rattle.cg_action.specs.declared.value.Value.{Value}
use Rattle.cg_action.specs.declared.value.Value.TheVariants.{Int}
use Rattle.cg_action.specs.contracts.value.ValuePartialEq.TheImpl.{ghosts as values}
use Rattle.cg_action.specs.declared.command.Cmd.{Cmd}
use Rattle.cg_action.specs.declared.command.Cmd.TheVariants.{Put, Del, Inc, Cas, Move, Need}
use Rattle.cg_action.specs.declared.action.Kind.{Kind}
use Rattle.cg_action.specs.declared.action.Kind.TheVariants.{Update, Join, Leave}
use Rattle.cg_action.specs.declared.action.Action.{Action}
use Rattle.cg_action.specs.declared.entry.DbEntry.{DbEntry}
use Rattle.cg_db.specs.Map.{value_of, put, remove, has_value}
use Rattle.cg_db.specs.Ascending.{Ascends}
use Rattle.cg_db.specs.Apply.{Ran, Changed, Aborts, Overflows, number_of, add_number, add_to, move_number, run_command, run_commands, apply_kind, apply, fold_actions_from}
use Rattle.cg_client.specs.Overlay.{keys_of, commands_of}
use Rattle.cg_db.specs.AscendingLaws.{Ascends-put, Ascends-filter}
use Rattle.cg_client.proofs.Splitting.{only, others, only-put, only-unput, only-remove, only-unremoved, value_of-only}

-- each of the keys is chosen
abbrev pub Every : (List ℕ → Bool) → List (List ℕ) → Type 0
Every p [] = Unit {0}
Every p (k ∷ ks) = (p k ≡ true) × Every p ks

abbrev pub EveryOf : (List ℕ → Bool) → List Cmd → Type 0
EveryOf p [] = Unit {0}
EveryOf p (c ∷ cmds) = Every p (keys_of c) × EveryOf p cmds

abbrev pub EveryIn : (List ℕ → Bool) → List Action → Type 0
EveryIn p [] = Unit {0}
EveryIn p (a ∷ actions) = EveryOf p (commands_of a.kind) × EveryIn p actions

-- ---- one command

-- how a command ends in a part
abbrev onto : (List ℕ → Bool) → Ran → Ran
onto p (Changed db) = Changed (only p db)
onto p Aborts = Aborts
onto p Overflows = Overflows

-- the other entries stay
abbrev Leaves : (List ℕ → Bool) → List DbEntry → Ran → Type 0
Leaves p db (Changed new) = (only (others p) new ≡ only (others p) db) × Ascends new
Leaves p db Aborts = Unit {0}
Leaves p db Overflows = Unit {0}

record RunsIn (p : List ℕ → Bool) (db : List DbEntry) (r s : Ran) : Type 0 where
  part : s ≡ onto p r
  rest : Leaves p db r

put-runs : (p : List ℕ → Bool) (db : List DbEntry) (key : List ℕ) (value : Value) → p key ≡ true → Ascends db → RunsIn p db (Changed (put db key value)) (Changed (put (only p db) key value))
put-runs p db key value chosen up = record {
  part = ap Changed (sym (only-put p db key value chosen up));
  rest = (only-unput (others p) db key value (ap not chosen), Ascends-put db key value up);
}

del-runs : (p : List ℕ → Bool) (db : List DbEntry) (key : List ℕ) → p key ≡ true → Ascends db → RunsIn p db (Changed (remove db key)) (Changed (remove (only p db) key))
del-runs p db key chosen up = record {
  part = ap Changed (sym (only-remove p db key));
  rest = (only-unremoved (others p) db key (ap not chosen), Ascends-filter _ db up);
}

set-runs : (p : List ℕ → Bool) (db : List DbEntry) (key : List ℕ) (value : Value) → p key ≡ true → Ascends db → (b : Bool)
    → RunsIn p db (cond b (Changed (put db key value)) Overflows) (cond b (Changed (put (only p db) key value)) Overflows)
set-runs p db key value chosen up true = put-runs p db key value chosen up
set-runs p db key value chosen up false = record { part = refl; rest = tt }

add_number-runs : (p : List ℕ → Bool) (db : List DbEntry) (key : List ℕ) (by : ℤ) → p key ≡ true → Ascends db → (o : Option ℤ) → RunsIn p db (add_number db key by o) (add_number (only p db) key by o)
add_number-runs p db key by chosen up None = record { part = refl; rest = tt }
add_number-runs p db key by chosen up (Some n) = set-runs p db key (Int (n +ℤ by)) chosen up (fits_i64 (n +ℤ by))

add_to-runs : (p : List ℕ → Bool) (db : List DbEntry) (key : List ℕ) (by : ℤ) → p key ≡ true → Ascends db → RunsIn p db (add_to db key by) (add_to (only p db) key by)
add_to-runs p db key by chosen up =
    subst (λ (o : Option Value). RunsIn p db (add_to db key by) (add_number (only p db) key by (number_of o))) (sym (value_of-only p db key chosen))
    (add_number-runs p db key by chosen up (number_of (value_of db key)))

Leaves-through : (p : List ℕ → Bool) (old db : List DbEntry) (r : Ran) → only (others p) db ≡ only (others p) old → Leaves p db r → Leaves p old r
Leaves-through p old db (Changed new) same leaves = (leaves.0 ∙ same, leaves.1)
Leaves-through p old db Aborts same leaves = tt
Leaves-through p old db Overflows same leaves = tt

moved-runs : (p : List ℕ → Bool) (db : List DbEntry) (source target : List ℕ) (left amount : ℤ) → p source ≡ true → p target ≡ true → Ascends db
    → RunsIn p db (add_to (put db source (Int left)) target amount) (add_to (put (only p db) source (Int left)) target amount)
moved-runs p db source target left amount from into up =
    let taken = put db source (Int left) in
    let added : RunsIn p taken (add_to taken target amount) (add_to (only p taken) target amount) = add_to-runs p taken target amount into (Ascends-put db source (Int left) up) in
    record {
      part = ap (λ (d : List DbEntry). add_to d target amount) (sym (only-put p db source (Int left) from up)) ∙ added.part;
      rest = Leaves-through p db taken (add_to taken target amount) (only-unput (others p) db source (Int left) (ap not from)) added.rest;
    }

enough-runs : (p : List ℕ → Bool) (db : List DbEntry) (source target : List ℕ) (left amount : ℤ) → p source ≡ true → p target ≡ true → Ascends db → (b : Bool)
    → RunsIn p db (cond b Aborts (add_to (put db source (Int left)) target amount)) (cond b Aborts (add_to (put (only p db) source (Int left)) target amount))
enough-runs p db source target left amount from into up true = record { part = refl; rest = tt }
enough-runs p db source target left amount from into up false = moved-runs p db source target left amount from into up

move_number-runs : (p : List ℕ → Bool) (db : List DbEntry) (source target : List ℕ) (amount : ℤ) → p source ≡ true → p target ≡ true → Ascends db → (o : Option ℤ)
    → RunsIn p db (move_number db source target amount o) (move_number (only p db) source target amount o)
move_number-runs p db source target amount from into up None = record { part = refl; rest = tt }
move_number-runs p db source target amount from into up (Some n) = enough-runs p db source target (n -ℤ amount) amount from into up (int_lt n amount)

move-runs : (p : List ℕ → Bool) (db : List DbEntry) (source target : List ℕ) (amount : ℤ) → p source ≡ true → p target ≡ true → Ascends db
    → RunsIn p db (run_command db (Move source target amount)) (run_command (only p db) (Move source target amount))
move-runs p db source target amount from into up =
    subst (λ (o : Option Value). RunsIn p db (run_command db (Move source target amount)) (move_number (only p db) source target amount (number_of o))) (sym (value_of-only p db source from))
    (move_number-runs p db source target amount from into up (number_of (value_of db source)))

swap-runs : (p : List ℕ → Bool) (db : List DbEntry) (key : List ℕ) (value : Value) → p key ≡ true → Ascends db → (b : Bool)
    → RunsIn p db (cond b (Changed (put db key value)) (Changed db)) (cond b (Changed (put (only p db) key value)) (Changed (only p db)))
swap-runs p db key value chosen up true = put-runs p db key value chosen up
swap-runs p db key value chosen up false = record { part = refl; rest = (refl, up) }

need-runs : (p : List ℕ → Bool) (db : List DbEntry) → Ascends db → (b : Bool) → RunsIn p db (cond b (Changed db) Aborts) (cond b (Changed (only p db)) Aborts)
need-runs p db up true = record { part = refl; rest = (refl, up) }
need-runs p db up false = record { part = refl; rest = tt }

command-runs : (p : List ℕ → Bool) (db : List DbEntry) (cmd : Cmd) → Every p (keys_of cmd) → Ascends db → RunsIn p db (run_command db cmd) (run_command (only p db) cmd)
command-runs p db (Put key value) every up = put-runs p db key value every.0 up
command-runs p db (Del key) every up = del-runs p db key every.0 up
command-runs p db (Inc key by) every up = add_to-runs p db key by every.0 up
command-runs p db (Cas key want value) every up =
    subst (λ (o : Option Value). RunsIn p db (run_command db (Cas key want value)) (cond (option_eq values.eq o want) (Changed (put (only p db) key value)) (Changed (only p db)))) (sym (value_of-only p db key every.0))
    (swap-runs p db key value every.0 up (has_value db key want))
command-runs p db (Move source target amount) every up = move-runs p db source target amount every.0 every.1.0 up
command-runs p db (Need key want) every up =
    subst (λ (o : Option Value). RunsIn p db (run_command db (Need key want)) (cond (option_eq values.eq o want) (Changed (only p db)) Aborts)) (sym (value_of-only p db key every.0))
    (need-runs p db up (has_value db key want))

-- ---- actions

-- a database, its part, and what both became
pub record IsPart (p : List ℕ → Bool) (old db small : List DbEntry) : Type 0 where
  pub part : small ≡ only p db
  pub rest : only (others p) db ≡ only (others p) old
  pub up : Ascends db

commands-run : (p : List ℕ → Bool) (old : List DbEntry) (place : ℕ) (cmds : List Cmd) (r : Ran) → EveryOf p cmds → Ascends old → Leaves p old r
    → IsPart p old (run_commands old place cmds r).db (run_commands (only p old) place cmds (onto p r)).db
unfolding run_commands
commands-run p old place [] Aborts every up leaves = record { part = refl; rest = refl; up = up }
commands-run p old place (c ∷ cmds) Aborts every up leaves = record { part = refl; rest = refl; up = up }
commands-run p old place [] Overflows every up leaves = record { part = refl; rest = refl; up = up }
commands-run p old place (c ∷ cmds) Overflows every up leaves = record { part = refl; rest = refl; up = up }
commands-run p old place [] (Changed db) every up leaves = record { part = refl; rest = leaves.0; up = leaves.1 }
commands-run p old place (c ∷ cmds) (Changed db) every up leaves =
    let one : RunsIn p db (run_command db c) (run_command (only p db) c) = command-runs p db c every.0 leaves.1 in
    subst (λ (s : Ran). IsPart p old (run_commands old (suc place) cmds (run_command db c)).db (run_commands (only p old) (suc place) cmds s).db) (sym one.part)
    (commands-run p old (suc place) cmds (run_command db c) every.1 up (Leaves-through p old db (run_command db c) leaves.0 one.rest))

kind-runs : (p : List ℕ → Bool) (db : List DbEntry) (kind : Kind) → EveryOf p (commands_of kind) → Ascends db → IsPart p db (apply_kind db kind).db (apply_kind (only p db) kind).db
kind-runs p db (Update cmds query) every up = commands-run p db 0 cmds (Changed db) every up (refl, up)
kind-runs p db (Join joiner weight) every up = record { part = refl; rest = refl; up = up }
kind-runs p db (Leave server) every up = record { part = refl; rest = refl; up = up }

pub actions-run : (p : List ℕ → Bool) (db : List DbEntry) (actions : List Action) → EveryIn p actions → Ascends db → IsPart p db (fold_actions_from db actions) (fold_actions_from (only p db) actions)
actions-run p db [] every up = record { part = refl; rest = refl; up = up }
actions-run p db (a ∷ actions) every up =
    let one : IsPart p db (apply db a).db (apply (only p db) a).db = kind-runs p db a.kind every.0 up in
    let more : IsPart p (apply db a).db (fold_actions_from (apply db a).db actions) (fold_actions_from (only p (apply db a).db) actions) = actions-run p (apply db a).db actions every.1 one.up in
    record {
      part = ap (λ (d : List DbEntry). fold_actions_from d actions) one.part ∙ more.part;
      rest = more.rest ∙ one.rest;
      up = more.up;
    }

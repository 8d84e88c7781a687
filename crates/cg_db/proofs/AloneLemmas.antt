-- An action's only command, written in place.
use Rattle.std.proofs.Common.{◌≡◌, ℕ, Bool, true, false, cond, List, [], ◌∷◌, refl, sym, ap, ◌∙◌}
use Rattle.std.specs.Prelude.{Some, ℤ, ◌+ℤ◌, FitsSigned}
use Rattle.std.specs.Int.{w64}
use Rattle.cg_text.specs.Order.{same_text}
use Rattle.cg_text.specs.Numbers.{fits_i64}
use Rattle.cg_action.specs.declared.value.Value.{Value}
use Rattle.cg_action.specs.declared.value.Value.TheVariants.{Text, Int}
use Rattle.cg_action.specs.declared.command.Cmd.{Cmd}
use Rattle.cg_action.specs.declared.command.Cmd.TheVariants.{Put, Inc}
use Rattle.cg_action.specs.declared.entry.DbEntry.{DbEntry}
use Rattle.cg_action.specs.declared.effect.Effect.TheVariants.{Done, Aborted, Range}
use Rattle.cg_db.specs.Map.{value_of, put}
use Rattle.cg_db.specs.Ascending.{Ascends}
use Rattle.cg_db.specs.Apply.{Ran, Changed, Aborts, Overflows, number_of, run_command, run_commands}
use Rattle.cg_db.specs.AscendingLaws.{Ascends-put}
use Rattle.cg_db.proofs.MapLemmas.{value_of-put, same_at_each_key}
use Rattle.cg_db.proofs.PlanLemmas.{applied, fits_i64-from, fits_i64-to, unfit}
use Rattle.cg_text.specs.OrderLaws.{same_text-is}

-- a value that the key has already
put-had : (db : List DbEntry) (key : List ℕ) (value : Value) → Ascends db → value_of db key ≡ Some value → put db key value ≡ db
put-had db key value up had = same_at_each_key (put db key value) db (Ascends-put db key value up) up (λ q. value_of-put db key value q ∙ at q (same_text q key) refl)
  where
    at : (q : List ℕ) (same : Bool) → same_text q key ≡ same → cond same (Some value) (value_of db q) ≡ value_of db q
    at q true e = sym (ap (λ k. value_of db k) (same_text-is q key e) ∙ had)
    at q false e = refl

-- where a command leads, it leads alone
run_only : (db : List DbEntry) (cmd : Cmd) (r : Ran) → run_command db cmd ≡ r → run_commands db 0 (cmd ∷ []) (Changed db) ≡ run_commands db 1 [] r
unfolding run_commands
run_only db cmd r is = ap (λ s. run_commands db 1 [] s) is

pub run_put : (db now : List DbEntry) (key : List ℕ) (value : Value) → now ≡ put db key value → run_commands db 0 (Put key value ∷ []) (Changed db) ≡ applied now Done
unfolding run_commands
run_put db now key value written = rw written refl

pub run_inc : (db : List DbEntry) (key : List ℕ) (by n sum : ℤ) → number_of (value_of db key) ≡ Some n → FitsSigned w64 (n +ℤ by) → sum ≡ n +ℤ by
    → run_commands db 0 (Inc key by ∷ []) (Changed db) ≡ applied (put db key (Int sum)) Done
unfolding run_commands
run_inc db key by n sum has fits is = run_only db (Inc key by) (Changed (put db key (Int sum))) (rw (has, fits_i64-from (n +ℤ by) fits, is) refl)

pub run_inc-text : (db : List DbEntry) (key : List ℕ) (by : ℤ) (text : List ℕ) → Ascends db → value_of db key ≡ Some (Text text)
    → run_commands db 0 (Inc key by ∷ []) (Changed db) ≡ applied (put db key (Text text)) (Aborted 1)
unfolding run_commands
run_inc-text db key by text up has = run_only db (Inc key by) Aborts (rw has refl) ∙ ap (λ d. applied d (Aborted 1)) (sym (put-had db key (Text text) up has))

pub run_inc-over : (db : List DbEntry) (key : List ℕ) (by n : ℤ) → Ascends db → value_of db key ≡ Some (Int n) → (FitsSigned w64 (n +ℤ by) → ⊥)
    → run_commands db 0 (Inc key by ∷ []) (Changed db) ≡ applied (put db key (Int n)) (Range 1)
unfolding run_commands
run_inc-over db key by n up has never =
    let over = unfit (fits_i64 (n +ℤ by)) (Changed (put db key (Int (n +ℤ by)))) Overflows (λ fits. never (fits_i64-to (n +ℤ by) fits)) in
    run_only db (Inc key by) Overflows (rw has over) ∙ ap (λ d. applied d (Range 1)) (sym (put-had db key (Int n) up has))

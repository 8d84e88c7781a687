-- Commands one after the other, and changes one after the other.
use Rattle.std.proofs.Common.{◌≡◌, ℕ, suc, ◌+◌, ◌<◌, ◌≤◌, Bool, true, false, cond, List, [], ◌∷◌, ◌++◌, length, get_or, take, drop, refl, sym, ap, ◌∙◌, ◌^◌, add-one, drop-cons, length-drop, arith}
use Rattle.std.specs.Prelude.{Option, ℤ, pos, negsuc, FitsSigned}
use Rattle.std.specs.Int.{w64}
use Rattle.std.proofs.Math.Seq.{take-suc}
use Rattle.std.proofs.lemmas.Bool.{lt-ltb, ltb-true}
use Rattle.std.proofs.lemmas.Int.{ints}
use Rattle.std.proofs.lemmas.List.{nil_from_length}
use Rattle.cg_text.specs.Order.{same_text}
use Rattle.cg_text.specs.Numbers.{fits_i64}
use Rattle.cg_action.specs.declared.value.Value.{Value}
use Rattle.cg_action.specs.declared.command.Cmd.{Cmd}
use Rattle.cg_action.specs.declared.entry.DbEntry.{DbEntry}
use Rattle.cg_action.specs.declared.effect.Effect.{Effect}
use Rattle.cg_action.specs.declared.effect.Effect.TheVariants.{Done, Aborted, Range}
use Rattle.cg_db.specs.declared.changes.KeyChange.{KeyChange}
use Rattle.cg_db.specs.Map.{value_of}
use Rattle.cg_db.specs.Apply.{Ran, Changed, Aborts, Overflows, Applied, run_command, run_commands}
use Rattle.cg_db.specs.Plan.{set_option, changed, with_changes, left_by}
use Rattle.cg_db.proofs.ViewLemmas.{value_of-set}

-- ---- commands

run_one : (old db : List DbEntry) (i : ℕ) (cmds : List Cmd) (cmd : Cmd) → i < length cmds → get_or cmds i cmd ≡ cmd
    → run_commands old i (drop i cmds) (Changed db) ≡ run_commands old (i + 1) (drop (i + 1) cmds) (run_command db cmd)
unfolding run_commands
run_one old db i cmds cmd lt is =
    let whole : drop i cmds ≡ cmd ∷ drop (suc i) cmds = drop-cons cmds i cmd lt ∙ ap (λ c. c ∷ drop (suc i) cmds) is in
    rw (whole, add-one) refl

-- a command that ended so
pub run_more : (old db : List DbEntry) (i : ℕ) (cmds : List Cmd) (cmd : Cmd) (total : Applied) (r : Ran) → i < length cmds → get_or cmds i cmd ≡ cmd
    → run_commands old i (drop i cmds) (Changed db) ≡ total → run_command db cmd ≡ r → run_commands old (i + 1) (drop (i + 1) cmds) r ≡ total
run_more old db i cmds cmd total r lt is so_far ended =
    ap (λ s. run_commands old (i + 1) (drop (i + 1) cmds) s) (sym ended) ∙ sym (run_one old db i cmds cmd lt is) ∙ so_far

pub run_aborts : (old : List DbEntry) (number : ℕ) (cmds : List Cmd) → run_commands old number cmds Aborts ≡ record { db = old; effect = Aborted number }
unfolding run_commands
run_aborts old number cmds = refl

pub run_overflows : (old : List DbEntry) (number : ℕ) (cmds : List Cmd) → run_commands old number cmds Overflows ≡ record { db = old; effect = Range number }
unfolding run_commands
run_overflows old number cmds = refl

pub run_end : (old db : List DbEntry) (i : ℕ) (cmds : List Cmd) (total : Applied) → length cmds ≤ i → run_commands old i (drop i cmds) (Changed db) ≡ total → total ≡ record { db = db; effect = Done }
unfolding run_commands
run_end old db i cmds total le so_far =
    let none : drop i cmds ≡ [] = nil_from_length (drop i cmds) (omega (arith, length-drop i cmds)) in
    let whole = rw none at so_far in
    sym whole

-- ---- an action that was worked out

abbrev pub applied : List DbEntry → Effect → Applied
applied db effect = record { db = db; effect = effect }

planned : (db : List DbEntry) (cmds : List Cmd) (none : List KeyChange) (total : Applied) → none ≡ [] → run_commands db 0 cmds (Changed (with_changes db none)) ≡ total → run_commands db 0 cmds (Changed db) ≡ total
unfolding with_changes
planned db cmds none total is e = rw is at e

pub run_done : (db now : List DbEntry) (cmds : List Cmd) (none changes : List KeyChange) (effect : Effect) → none ≡ []
    → run_commands db 0 cmds (Changed (with_changes db none)) ≡ applied (left_by effect db (with_changes db changes)) effect → effect ≡ Done → now ≡ with_changes db changes
    → run_commands db 0 cmds (Changed db) ≡ applied now Done
run_done db now cmds none changes effect is e done written =
    let all = planned db cmds none (applied (left_by effect db (with_changes db changes)) effect) is e in
    let known : run_commands db 0 cmds (Changed db) ≡ applied (with_changes db changes) Done = rw done at all in
    rw written known

pub run_aborted : (db : List DbEntry) (cmds : List Cmd) (none changes : List KeyChange) (effect : Effect) (number : ℕ) → none ≡ []
    → run_commands db 0 cmds (Changed (with_changes db none)) ≡ applied (left_by effect db (with_changes db changes)) effect → effect ≡ Aborted number
    → run_commands db 0 cmds (Changed db) ≡ applied db (Aborted number)
run_aborted db cmds none changes effect number is e failed =
    let all = planned db cmds none (applied (left_by effect db (with_changes db changes)) effect) is e in rw failed at all

pub run_overflowed : (db : List DbEntry) (cmds : List Cmd) (none changes : List KeyChange) (effect : Effect) (number : ℕ) → none ≡ []
    → run_commands db 0 cmds (Changed (with_changes db none)) ≡ applied (left_by effect db (with_changes db changes)) effect → effect ≡ Range number
    → run_commands db 0 cmds (Changed db) ≡ applied db (Range number)
run_overflowed db cmds none changes effect number is e failed =
    let all = planned db cmds none (applied (left_by effect db (with_changes db changes)) effect) is e in rw failed at all

-- ---- changes

pub with_changes-none : (db : List DbEntry) → with_changes db [] ≡ db
unfolding with_changes
with_changes-none db = refl

-- one change of those that are left is written
pub written_more : (db now : List DbEntry) (change : KeyChange) (left rest : List KeyChange) (total : List DbEntry) → left ≡ change ∷ rest → now ≡ changed db change → with_changes db left ≡ total → with_changes now rest ≡ total
unfolding with_changes
written_more db now change left rest total first step so_far = let whole = rw first at so_far in rw step whole

-- none is left
pub written_all : (db : List DbEntry) (left : List KeyChange) (total : List DbEntry) → left ≡ [] → with_changes db left ≡ total → db ≡ total
unfolding with_changes
written_all db left total none so_far = rw none at so_far

pub fold_behind : (db : List DbEntry) (cs : List KeyChange) (c : KeyChange) → with_changes db (cs ++ c ∷ []) ≡ changed (with_changes db cs) c
unfolding with_changes
fold_behind db [] c = refl
fold_behind db (x ∷ cs) c = fold_behind (changed db x) cs c

pub with_changes-behind : (db : List DbEntry) (cs ds : List KeyChange) (key : List ℕ) (w : Option Value) → ds ≡ cs ++ record { key = key; value = w } ∷ [] → with_changes db ds ≡ set_option (with_changes db cs) key w
with_changes-behind db cs ds key w is = rw is (fold_behind db cs (record { key = key; value = w }))

-- the value of a key behind one change more
pub value_of-more : (db : List DbEntry) (cs : List KeyChange) (i : ℕ) (c : KeyChange) (q : List ℕ) → i < length cs → get_or cs i c ≡ c
    → value_of (with_changes db (take (i + 1) cs)) q ≡ cond (same_text q c.key) c.value (value_of (with_changes db (take i cs)) q)
value_of-more db cs i c q lt is =
    let whole : take (i + 1) cs ≡ take i cs ++ c ∷ [] = rw add-one (take-suc cs i c lt ∙ ap (λ d. take i cs ++ d ∷ []) is) in
    rw (whole, fold_behind db (take i cs) c) (value_of-set (with_changes db (take i cs)) c.key c.value q)

pub value_of-last : (db : List DbEntry) (cs : List KeyChange) (c : KeyChange) (q : List ℕ) → value_of (with_changes db (cs ++ c ∷ [])) q ≡ cond (same_text q c.key) c.value (value_of (with_changes db cs) q)
value_of-last db cs c q = rw (fold_behind db cs c) (value_of-set (with_changes db cs) c.key c.value q)

-- ---- numbers of 64 bits

pub fits_i64-from : (z : ℤ) → FitsSigned w64 z → fits_i64 z ≡ true
fits_i64-from (pos n) fits = lt-ltb n (2 ^ 63) (omega (arith, ints))
fits_i64-from (negsuc n) fits = lt-ltb n (2 ^ 63) (omega (arith, ints))

pub fits_i64-to : (z : ℤ) → fits_i64 z ≡ true → FitsSigned w64 z
fits_i64-to (pos n) e = let lt = ltb-true n (2 ^ 63) e in grind (arith, ints)
fits_i64-to (negsuc n) e = let lt = ltb-true n (2 ^ 63) e in grind (arith, ints)

pub unfit : (b : Bool) (x y : Ran) → (b ≡ true → ⊥) → cond b x y ≡ y
unfit true x y never = absurd (never refl)
unfit false x y never = refl

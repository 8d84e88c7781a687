-- What queries find behind actions is found in the database, but for the part at the keys that the actions name.
use Rattle.std.proofs.Common.{◌≡◌, ℕ, ◌+◌, ◌-◌, ◌≤◌, Bool, true, false, cond, not, ◌||◌, List, [], ◌∷◌, length, refl, sym, ap, ◌∙◌, arith}
use Rattle.std.specs.Prelude.{Option, Some, None, is_some, fold, filter, Result, Ok, Err, IfOk}
use Rattle.std.proofs.lemmas.List.Filters.{length-filter_both}
use Rattle.cg_text.specs.Order.{same_text, text_before, begins_with}
use Rattle.cg_action.specs.declared.value.Value.{Value}
use Rattle.cg_action.specs.declared.action.Action.{Action}
use Rattle.cg_action.specs.declared.query.Query.{Query}
use Rattle.cg_action.specs.declared.query.Query.TheVariants.{Get, Keys as KeysOf, Count as CountAll}
use Rattle.cg_action.specs.declared.answer.Answer.{Answer}
use Rattle.cg_action.specs.declared.answer.Answer.TheVariants.{Keys, Count}
use Rattle.cg_action.specs.declared.entry.DbEntry.{DbEntry}
use Rattle.cg_db.specs.Map.{value_of, keys}
use Rattle.cg_db.specs.Ascending.{IsBefore, Ascends}
use Rattle.cg_db.specs.Find.{answer, answer_of}
use Rattle.cg_db.specs.TextOrderLaws.{same-refl}
use Rattle.cg_db.specs.EntryLaws.{IsBefore-through}
use Rattle.cg_db.specs.Apply.{fold_actions_from}
use Rattle.cg_client.specs.Overlay.{named_part, has_key, with_mark, merged_keys, answer_with}
use Rattle.cg_db.specs.AscendingLaws.{Ascends-filter, as_db, keys-as_db}
use Rattle.cg_client.proofs.Splitting.{only, others, put_entry, value_of-only, value_of-missing, built, built_alone}
use Rattle.cg_client.proofs.Running.{IsPart, actions-run}
use Rattle.cg_client.proofs.Choosing.{among, keys_in, named_part-is, named-all}

-- ---- one key

found_either : (was is : Option Value) → cond (is_some was || is_some is) (answer_of is) (answer_of was) ≡ answer_of is
found_either (Some v) is = refl
found_either None (Some w) = refl
found_either None None = refl

got_at : (p : List ℕ → Bool) (db new : List DbEntry) (key : List ℕ) → only (others p) new ≡ only (others p) db → (c : Bool) → p key ≡ c
    → cond (has_key (only p db) key || has_key (only p new) key) (answer_of (value_of (only p new) key)) (answer_of (value_of db key)) ≡ answer_of (value_of new key)
got_at p db new key rest true c = rw (value_of-only p db key c, value_of-only p new key c) (found_either (value_of db key) (value_of new key))
got_at p db new key rest false c =
    let other : others p key ≡ true = ap not c in
    let same : value_of db key ≡ value_of new key =
    sym (value_of-only (others p) db key other) ∙ ap (λ (d : List DbEntry). value_of d key) (sym rest) ∙ value_of-only (others p) new key other in
    rw (value_of-missing p db key c, value_of-missing p new key c) (ap answer_of same)

-- ---- how many

-- each entry is in the part or among the others
both-parts : (p : List ℕ → Bool) (db : List DbEntry) → length (only p db) + length (only (others p) db) ≡ length db
both-parts p db = length-filter_both (λ (e : DbEntry). p e.key) (λ (e : DbEntry). others p e.key) (λ e. refl) db

counted : (p : List ℕ → Bool) (db new : List DbEntry) → only (others p) new ≡ only (others p) db → length db - length (only p db) + length (only p new) ≡ length new
counted p db new rest =
    let before = both-parts p db in
    let after = both-parts p new in
    let same : length (only (others p) new) ≡ length (only (others p) db) = ap length rest in
    omega (arith, before, after, same)

-- the part at the keys that the actions name has no more entries than the database
pub part-fits : (db part : List DbEntry) (actions : List Action) → part ≡ named_part db actions → Ascends db → length part ≤ length db
part-fits db part actions is up =
    let p = among (keys_in actions) in
    let both = both-parts p db in
    let size : length part ≡ length (only p db) = ap length (is ∙ named_part-is db actions up) in
    omega (arith, both, size)

-- ---- which keys

marked : (db : List DbEntry) (ts : List (List ℕ)) → fold with_mark db ts ≡ fold put_entry db (as_db ts)
marked db [] = refl
marked db (t ∷ ts) = marked (with_mark db t) ts

-- the keys that pass a test
abbrev marks : (List ℕ → Bool) → List DbEntry → List DbEntry
marks b db = as_db (filter b (keys db))

IsBefore-marked : (low key : List ℕ) (ks : List (List ℕ)) → text_before low key ≡ true → IsBefore low (as_db ks) → (c : Bool) → IsBefore low (as_db (cond c (key ∷ ks) ks))
IsBefore-marked low key ks first rest true = first
IsBefore-marked low key ks first rest false = rest

IsBefore-marks : (b : List ℕ → Bool) (db : List DbEntry) (low : List ℕ) → IsBefore low db → Ascends db → IsBefore low (marks b db)
IsBefore-marks b [] low first up = tt
IsBefore-marks b (e ∷ db) low first up = IsBefore-marked low e.key (filter b (keys db)) first (IsBefore-marks b db low (IsBefore-through low e.key db first up.0) up.1) (b e.key)

Ascends-marked : (key : List ℕ) (ks : List (List ℕ)) → IsBefore key (as_db ks) → Ascends (as_db ks) → (c : Bool) → Ascends (as_db (cond c (key ∷ ks) ks))
Ascends-marked key ks first rest true = (first, rest)
Ascends-marked key ks first rest false = rest

Ascends-marks : (b : List ℕ → Bool) (db : List DbEntry) → Ascends db → Ascends (marks b db)
Ascends-marks b [] up = tt
Ascends-marks b (e ∷ db) up = Ascends-marked e.key (filter b (keys db)) (IsBefore-marks b db e.key up.0 up.1) (Ascends-marks b db up.1) (b e.key)

only-marked : (p b : List ℕ → Bool) (e : DbEntry) (db : List DbEntry) → only p (marks b db) ≡ marks b (only p db) → (c : Bool) → b e.key ≡ c → (d : Bool) → p e.key ≡ d
    → only p (as_db (cond c (e.key ∷ filter b (keys db)) (filter b (keys db)))) ≡ marks b (cond d (e ∷ only p db) (only p db))
only-marked p b e db rest true c true d = rw (c, d, rest) refl
only-marked p b e db rest true c false d = rw d rest
only-marked p b e db rest false c true d = rw c rest
only-marked p b e db rest false c false d = rest

only-marks : (p b : List ℕ → Bool) (db : List DbEntry) → only p (marks b db) ≡ marks b (only p db)
only-marks p b [] = refl
only-marks p b (e ∷ db) = only-marked p b e db (only-marks p b db) (b e.key) refl (p e.key) refl

-- each of these entries is found
abbrev Found : List DbEntry → List DbEntry → Type 0
Found db [] = Unit {0}
Found db (e ∷ es) = (has_key db e.key ≡ true) × Found db es

found_more : (v : Value) (o : Option Value) → is_some o ≡ true → (s : Bool) → is_some (cond s (Some v) o) ≡ true
found_more v o here true = refl
found_more v o here false = here

Found-behind : (e : DbEntry) (db es : List DbEntry) → Found db es → Found (e ∷ db) es
Found-behind e db [] found = tt
Found-behind e db (f ∷ es) found = (found_more e.value (value_of db f.key) found.0 (same_text f.key e.key), Found-behind e db es found.1)

Found-itself : (db : List DbEntry) → Found db db
Found-itself [] = tt
Found-itself (e ∷ db) = (rw (same-refl e.key) refl, Found-behind e db db (Found-itself db))

-- a key that is there is in the part where it is chosen
has-chosen : (p : List ℕ → Bool) (db : List DbEntry) (key : List ℕ) → has_key db key ≡ true → (d : Bool) → p key ≡ d → has_key (only p db) key ≡ d
has-chosen p db key here true d = ap is_some (value_of-only p db key d) ∙ here
has-chosen p db key here false d = ap is_some (value_of-missing p db key d)

abbrev missing : (List ℕ → Bool) → List DbEntry → List ℕ → Bool
missing p db key = not (has_key (only p db) key)

left_at : (p b : List ℕ → Bool) (db : List DbEntry) (e : DbEntry) (es : List DbEntry) → as_db (filter (missing p db) (filter b (keys es))) ≡ marks b (only (others p) es)
    → (c : Bool) → b e.key ≡ c → (d : Bool) → has_key (only p db) e.key ≡ d
    → as_db (filter (missing p db) (cond c (e.key ∷ filter b (keys es)) (filter b (keys es)))) ≡ marks b (cond (not d) (e ∷ only (others p) es) (only (others p) es))
left_at p b db e es rest true c true d = rw d rest
left_at p b db e es rest true c false d = rw (c, d, rest) refl
left_at p b db e es rest false c true d = rest
left_at p b db e es rest false c false d = rw c rest

left : (p b : List ℕ → Bool) (db es : List DbEntry) → Found db es → as_db (filter (missing p db) (filter b (keys es))) ≡ marks b (only (others p) es)
left p b db [] found = refl
left p b db (e ∷ es) found = left_at p b db e es (left p b db es found.1) (b e.key) refl (p e.key) (has-chosen p db e.key found.0 (p e.key) refl)

joined-is : (p b : List ℕ → Bool) (db new : List DbEntry) → Ascends new → only (others p) new ≡ only (others p) db
    → merged_keys (only p db) (filter b (keys db)) (filter b (keys (only p new))) ≡ filter b (keys new)
joined-is p b db new up rest =
    let all = marks b new in
    let ascends : Ascends all = Ascends-marks b new up in
    let one : as_db (filter (missing p db) (filter b (keys db))) ≡ only (others p) all =
    left p b db db (Found-itself db) ∙ ap (λ (d : List DbEntry). marks b d) (sym rest) ∙ sym (only-marks (others p) b new) in
    let alone : fold with_mark [] (filter (missing p db) (filter b (keys db))) ≡ only (others p) all =
    marked [] (filter (missing p db) (filter b (keys db))) ∙ ap (λ (d : List DbEntry). fold put_entry [] d) one
    ∙ built_alone (only (others p) all) (Ascends-filter (λ (e : DbEntry). others p e.key) all ascends) in
    let two : as_db (filter b (keys (only p new))) ≡ only p all = sym (only-marks p b new) in
    let whole : fold with_mark (fold with_mark [] (filter (missing p db) (filter b (keys db)))) (filter b (keys (only p new))) ≡ all =
    ap (λ (d : List DbEntry). fold with_mark d (filter b (keys (only p new)))) alone
    ∙ marked (only (others p) all) (filter b (keys (only p new)))
    ∙ ap (λ (d : List DbEntry). fold put_entry (only (others p) all) d) two
    ∙ built p all ascends in
    ap keys whole ∙ keys-as_db (filter b (keys new))

-- ---- every query

answered_in : (p : List ℕ → Bool) (db new : List DbEntry) → Ascends new → only (others p) new ≡ only (others p) db → (q : Query) → answer_with db (only p db) (only p new) q ≡ answer new q
answered_in p db new up rest (Get key) = got_at p db new key rest (p key) refl
answered_in p db new up rest (KeysOf prefix) = ap Keys (joined-is p (λ key. begins_with key prefix) db new up rest)
answered_in p db new up rest CountAll = ap Count (counted p db new rest)

answered_by : (db before after : List DbEntry) (actions : List Action) (q : Query) → before ≡ only (among (keys_in actions)) db → after ≡ fold_actions_from before actions → Ascends db
    → answer_with db before after q ≡ answer (fold_actions_from db actions) q
answered_by db before after actions q part applied up =
    let p = among (keys_in actions) in
    let run : IsPart p db (fold_actions_from db actions) (fold_actions_from (only p db) actions) = actions-run p db actions (named-all actions) up in
    let is : after ≡ only p (fold_actions_from db actions) = applied ∙ ap (λ (d : List DbEntry). fold_actions_from d actions) part ∙ run.part in
    ap (λ (d : List DbEntry). answer_with db d after q) part
    ∙ ap (λ (d : List DbEntry). answer_with db (only p db) d q) is
    ∙ answered_in p db (fold_actions_from db actions) run.up run.rest q

pub answered : (db before after : List DbEntry) (actions : List Action) (q : Query) → before ≡ named_part db actions → after ≡ fold_actions_from before actions → Ascends db
    → answer_with db before after q ≡ answer (fold_actions_from db actions) q
answered db before after actions q part applied up = answered_by db before after actions q (part ∙ named_part-is db actions up) applied up

pub answered_ok : {E : Type 0} (db before after : List DbEntry) (actions : List Action) (q : Query) (r : Result Answer E) → IfOk r (λ found. found ≡ answer_with db before after q)
    → before ≡ named_part db actions → after ≡ fold_actions_from before actions → Ascends db → IfOk r (λ found. found ≡ answer (fold_actions_from db actions) q)
answered_ok db before after actions q (Ok found) is part applied up = is ∙ answered db before after actions q part applied up
answered_ok db before after actions q (Err fault) is part applied up = tt

-- The part of a database at the keys that actions name.
use Rattle.std.proofs.Common.{◌≡◌, ℕ, Bool, true, false, cond, ◌||◌, List, [], ◌∷◌, ◌++◌, refl, sym, ap, ◌∙◌}
use Rattle.std.specs.Prelude.{Option, Some, None, fold, flat_map}
use Rattle.std.specs.List.{list_any}
use Rattle.std.proofs.Math.Bool.{or_assoc}
use Rattle.std.proofs.lemmas.Bool.{or_right}
use Rattle.std.proofs.lemmas.List.Sums.{fold-append}
use Rattle.cg_text.specs.Order.{same_text, text_before}
use Rattle.cg_action.specs.declared.value.Value.{Value}
use Rattle.cg_action.specs.declared.command.Cmd.{Cmd}
use Rattle.cg_action.specs.declared.action.Action.{Action}
use Rattle.cg_action.specs.declared.entry.DbEntry.{DbEntry}
use Rattle.cg_db.specs.Map.{value_of, put}
use Rattle.cg_db.specs.Ascending.{IsBefore, Ascends}
use Rattle.cg_db.specs.TextOrderLaws.{same-refl, same-sym, before-apart}
use Rattle.cg_db.specs.EntryLaws.{IsBefore-through}
use Rattle.cg_client.specs.Overlay.{keys_of, commands_of, put_found, with_key, with_command, with_commands, with_action, named_part}
use Rattle.cg_db.specs.AscendingLaws.{entry, IsBefore-filter, value_of-before}
use Rattle.cg_client.proofs.Splitting.{only, put-first}
use Rattle.cg_client.proofs.Running.{Every, EveryOf, EveryIn}
use Rattle.cg_base.specs.BoolLaws.{or_false}
use Rattle.cg_text.specs.OrderLaws.{same_text-is}

-- ---- one key more

abbrev more : (List ℕ → Bool) → List ℕ → List ℕ → Bool
more p key q = p q || same_text q key

same_kept : (e : DbEntry) (xs ys : List DbEntry) (s : Bool) → s ≡ false → xs ≡ ys → (c : Bool) → cond (c || s) (e ∷ xs) xs ≡ cond c (e ∷ ys) ys
same_kept e xs ys s other same true = ap (λ (d : List DbEntry). e ∷ d) same
same_kept e xs ys s other same false = rw other same

-- a key before all entries chooses none
more-before : (p : List ℕ → Bool) (db : List DbEntry) (key : List ℕ) → IsBefore key db → Ascends db → only (more p key) db ≡ only p db
more-before p [] key first up = refl
more-before p (e ∷ db) key first up =
    same_kept e (only (more p key) db) (only p db) (same_text e.key key) (same-sym key e.key false (before-apart key e.key first))
    (more-before p db key (IsBefore-through key e.key db first up.0) up.1) (p e.key)

none≢some : (v : Value) → Some v ≡ None → ⊥
none≢some v e = cc

-- a key behind the first entry
found_behind : (p : List ℕ → Bool) (e : DbEntry) (db all : List DbEntry) (key : List ℕ) → same_text key e.key ≡ false → (b : Bool) → text_before key e.key ≡ b → (o : Option Value) → (b ≡ true → o ≡ None)
    → put_found (only p db) key o ≡ all → (c : Bool) → put_found (cond c (e ∷ only p db) (only p db)) key o ≡ cond c (e ∷ all) all
found_behind p e db all key s b before None none rest true = ap (λ (d : List DbEntry). e ∷ d) rest
found_behind p e db all key s b before None none rest false = rest
found_behind p e db all key s true before (Some v) none rest c = absurd (none≢some v (none refl))
found_behind p e db all key s false before (Some v) none rest true = rw (s, before) (ap (λ (d : List DbEntry). e ∷ d) rest)
found_behind p e db all key s false before (Some v) none rest false = rest

-- the key of the first entry
found_first : (p : List ℕ → Bool) (e : DbEntry) (db : List DbEntry) (key : List ℕ) → Ascends (e ∷ db) → same_text key e.key ≡ true → (c : Bool)
    → put (cond c (e ∷ only p db) (only p db)) key e.value ≡ cond (c || same_text e.key key) (e ∷ only (more p key) db) (only (more p key) db)
found_first p e db key up s c = by c
  where
    is : key ≡ e.key
    is = same_text-is key e.key s

    first : IsBefore key db
    first = rw is up.0

    none : only (more p key) db ≡ only p db
    none = more-before p db key first up.1

    whole : entry key e.value ∷ only p db ≡ e ∷ only (more p key) db
    whole = ap (λ (k : List ℕ). entry k e.value ∷ only p db) is ∙ ap (λ (d : List DbEntry). e ∷ d) (sym none)

    back : same_text e.key key ≡ true
    back = same-sym key e.key true s

    by : (c : Bool) → put (cond c (e ∷ only p db) (only p db)) key e.value ≡ cond (c || same_text e.key key) (e ∷ only (more p key) db) (only (more p key) db)
    by true = rw s whole
    by false = rw back (put-first (only p db) key e.value (IsBefore-filter (λ (e : DbEntry). p e.key) db key first up.1) ∙ whole)

found_key_at : (p : List ℕ → Bool) (e : DbEntry) (db : List DbEntry) (key : List ℕ) → Ascends (e ∷ db) → with_key db (only p db) key ≡ only (more p key) db
    → (s : Bool) → same_text key e.key ≡ s → (c : Bool)
    → put_found (cond c (e ∷ only p db) (only p db)) key (cond s (Some e.value) (value_of db key)) ≡ cond (c || same_text e.key key) (e ∷ only (more p key) db) (only (more p key) db)
found_key_at p e db key up rest true s c = found_first p e db key up s c
found_key_at p e db key up rest false s c =
    found_behind p e db (only (more p key) db) key s (text_before key e.key) refl (value_of db key)
    (λ before. value_of-before db key (IsBefore-through key e.key db before up.0) up.1) rest c
    ∙ sym (same_kept e (only (more p key) db) (only (more p key) db) (same_text e.key key) (same-sym key e.key false s) refl c)

found_key : (p : List ℕ → Bool) (db : List DbEntry) (key : List ℕ) → Ascends db → with_key db (only p db) key ≡ only (more p key) db
found_key p [] key up = refl
found_key p (e ∷ db) key up = found_key_at p e db key up (found_key p db key up.1) (same_text key e.key) refl (p e.key)

-- ---- the keys of actions

abbrev pub among : List (List ℕ) → List ℕ → Bool
among ks q = list_any (λ t. same_text q t) ks

found_keys : (p : List ℕ → Bool) (db : List DbEntry) (ks : List (List ℕ)) → Ascends db → fold (with_key db) (only p db) ks ≡ only (λ q. p q || among ks q) db
found_keys p db [] up = ap (λ (f : List ℕ → Bool). only f db) (λ i q. sym (or_false (p q)) i)
found_keys p db (k ∷ ks) up =
    ap (λ (d : List DbEntry). fold (with_key db) d ks) (found_key p db k up)
    ∙ found_keys (more p k) db ks up
    ∙ ap (λ (f : List ℕ → Bool). only f db) (λ i q. or_assoc (p q) (same_text q k) (among ks q) i)

only-none : (db : List DbEntry) → [] ≡ only (λ q. false) db
only-none [] = refl
only-none (e ∷ db) = only-none db

abbrev all_keys_of : List Cmd → List (List ℕ)
all_keys_of cmds = flat_map keys_of cmds

abbrev pub keys_in : List Action → List (List ℕ)
keys_in actions = flat_map (λ a. all_keys_of (commands_of a.kind)) actions

by_commands : (db part : List DbEntry) (cmds : List Cmd) → with_commands db part cmds ≡ fold (with_key db) part (all_keys_of cmds)
by_commands db part [] = refl
by_commands db part (c ∷ cmds) = by_commands db (with_command db part c) cmds ∙ sym (fold-append (with_key db) part (keys_of c) (all_keys_of cmds))

by_actions : (db part : List DbEntry) (actions : List Action) → fold (with_action db) part actions ≡ fold (with_key db) part (keys_in actions)
by_actions db part [] = refl
by_actions db part (a ∷ actions) =
    by_actions db (with_action db part a) actions
    ∙ ap (λ (d : List DbEntry). fold (with_key db) d (keys_in actions)) (by_commands db part (commands_of a.kind))
    ∙ sym (fold-append (with_key db) part (all_keys_of (commands_of a.kind)) (keys_in actions))

pub named_part-is : (db : List DbEntry) (actions : List Action) → Ascends db → named_part db actions ≡ only (among (keys_in actions)) db
named_part-is db actions up =
    by_actions db [] actions
    ∙ ap (λ (d : List DbEntry). fold (with_key db) d (keys_in actions)) (only-none db)
    ∙ found_keys (λ q. false) db (keys_in actions) up

-- ---- each of them is among them

Every-more : (p r : List ℕ → Bool) (ks : List (List ℕ)) → ((k : List ℕ) → p k ≡ true → r k ≡ true) → Every p ks → Every r ks
Every-more p r [] rises every = tt
Every-more p r (k ∷ ks) rises every = (rises k every.0, Every-more p r ks rises every.1)

Every-among : (ks : List (List ℕ)) → Every (among ks) ks
Every-among [] = tt
Every-among (k ∷ ks) = (rw (same-refl k) refl, Every-more (among ks) (among (k ∷ ks)) ks (λ q here. or_right (same_text q k) (among ks q) here) (Every-among ks))

Every-left : (p : List ℕ → Bool) (xs ys : List (List ℕ)) → Every p (xs ++ ys) → Every p xs
Every-left p [] ys every = tt
Every-left p (x ∷ xs) ys every = (every.0, Every-left p xs ys every.1)

Every-right : (p : List ℕ → Bool) (xs ys : List (List ℕ)) → Every p (xs ++ ys) → Every p ys
Every-right p [] ys every = every
Every-right p (x ∷ xs) ys every = Every-right p xs ys every.1

Every-commands : (p : List ℕ → Bool) (cmds : List Cmd) → Every p (all_keys_of cmds) → EveryOf p cmds
Every-commands p [] every = tt
Every-commands p (c ∷ cmds) every = (Every-left p (keys_of c) (all_keys_of cmds) every, Every-commands p cmds (Every-right p (keys_of c) (all_keys_of cmds) every))

Every-actions : (p : List ℕ → Bool) (actions : List Action) → Every p (keys_in actions) → EveryIn p actions
Every-actions p [] every = tt
Every-actions p (a ∷ actions) every = (
  Every-commands p (commands_of a.kind) (Every-left p (all_keys_of (commands_of a.kind)) (keys_in actions) every),
  Every-actions p actions (Every-right p (all_keys_of (commands_of a.kind)) (keys_in actions) every),
)

pub named-all : (actions : List Action) → EveryIn (among (keys_in actions)) actions
named-all actions = Every-actions (among (keys_in actions)) actions (Every-among (keys_in actions))

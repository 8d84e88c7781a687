-- A database in two parts, the entries at some keys and the others: what is written at these keys is written in the one part.
use Rattle.std.proofs.Common.{◌≡◌, ℕ, Bool, true, false, cond, not, List, [], ◌∷◌, refl, sym, ap, ◌∙◌, true≢false}
use Rattle.std.specs.Prelude.{Some, None, filter, fold}
use Rattle.cg_text.specs.Order.{same_text, text_before}
use Rattle.cg_action.specs.declared.value.Value.{Value}
use Rattle.cg_action.specs.declared.entry.DbEntry.{DbEntry}
use Rattle.cg_db.specs.Map.{value_of, put, remove}
use Rattle.cg_db.specs.Ascending.{IsBefore, Ascends}
use Rattle.cg_db.specs.TextOrderLaws.{same-sym, before-apart, before-back}
use Rattle.cg_db.specs.EntryLaws.{IsBefore-through}
use Rattle.cg_db.specs.AscendingLaws.{entry, put_at, IsBefore-filter, Ascends-filter}
use Rattle.cg_text.specs.OrderLaws.{same_text-is}

-- the entries at the keys that a test chooses
abbrev pub only : (List ℕ → Bool) → List DbEntry → List DbEntry
only p db = filter (λ (e : DbEntry). p e.key) db

abbrev pub others : (List ℕ → Bool) → List ℕ → Bool
others p q = not (p q)

abbrev pub put_entry : List DbEntry → DbEntry → List DbEntry
put_entry db e = put db e.key e.value

-- ---- what is put in front

-- an entry that is put before all others
pub put-first : (db : List DbEntry) (key : List ℕ) (value : Value) → IsBefore key db → put db key value ≡ entry key value ∷ db
put-first [] key value first = refl
put-first (e ∷ db) key value first = rw (before-apart key e.key first, first) refl

-- ---- what is put at a chosen key

-- a test answers two texts that are one alike
alike : (p : List ℕ → Bool) (q t : List ℕ) (b c : Bool) → same_text q t ≡ true → p q ≡ b → p t ≡ c → b ≡ c
alike p q t b c same at_q at_t = sym at_q ∙ ap p (same_text-is q t same) ∙ at_t

only-put_at : (p : List ℕ → Bool) (e : DbEntry) (db : List DbEntry) (key : List ℕ) (value : Value) → p key ≡ true → Ascends (e ∷ db) → only p (put db key value) ≡ put (only p db) key value
    → (s : Bool) → same_text key e.key ≡ s → (b : Bool) → text_before key e.key ≡ b → (c : Bool) → p e.key ≡ c
    → only p (put_at s b e db key value) ≡ put (cond c (e ∷ only p db) (only p db)) key value
only-put_at p e db key value chosen up rest true s b before true c = rw (chosen, s) refl
only-put_at p e db key value chosen up rest true s b before false c = absurd (true≢false (alike p key e.key true false s chosen c))
only-put_at p e db key value chosen up rest false s true before true c = rw (chosen, c, s, before) refl
only-put_at p e db key value chosen up rest false s true before false c =
    let first : IsBefore key (only p db) = IsBefore-filter (λ (e : DbEntry). p e.key) db key (IsBefore-through key e.key db before up.0) up.1 in
    rw (chosen, c, put-first (only p db) key value first) refl
only-put_at p e db key value chosen up rest false s false before true c = rw (c, s, before, rest) refl
only-put_at p e db key value chosen up rest false s false before false c = rw (c, rest) refl

pub only-put : (p : List ℕ → Bool) (db : List DbEntry) (key : List ℕ) (value : Value) → p key ≡ true → Ascends db → only p (put db key value) ≡ put (only p db) key value
only-put p [] key value chosen up = rw chosen refl
only-put p (e ∷ db) key value chosen up =
    only-put_at p e db key value chosen up (only-put p db key value chosen up.1) (same_text key e.key) refl (text_before key e.key) refl (p e.key) refl

-- ---- what is put at another key

unput_at : (p : List ℕ → Bool) (e : DbEntry) (db : List DbEntry) (key : List ℕ) (value : Value) → p key ≡ false → only p (put db key value) ≡ only p db
    → (s : Bool) → same_text key e.key ≡ s → (b : Bool) → (c : Bool) → p e.key ≡ c → only p (put_at s b e db key value) ≡ cond c (e ∷ only p db) (only p db)
unput_at p e db key value other rest true s b true c = absurd (true≢false (sym (alike p key e.key false true s other c)))
unput_at p e db key value other rest true s b false c = rw other refl
unput_at p e db key value other rest false s true c is = rw (other, is) refl
unput_at p e db key value other rest false s false c is = rw (is, rest) refl

pub only-unput : (p : List ℕ → Bool) (db : List DbEntry) (key : List ℕ) (value : Value) → p key ≡ false → only p (put db key value) ≡ only p db
only-unput p [] key value other = rw other refl
only-unput p (e ∷ db) key value other = unput_at p e db key value other (only-unput p db key value other) (same_text key e.key) refl (text_before key e.key) (p e.key) refl

-- ---- what is removed

only-kept : (p : List ℕ → Bool) (e : DbEntry) (db : List DbEntry) (key : List ℕ) → only p (remove db key) ≡ remove (only p db) key → (s : Bool) → same_text key e.key ≡ s → (c : Bool) → p e.key ≡ c
    → only p (cond (not s) (e ∷ remove db key) (remove db key)) ≡ remove (cond c (e ∷ only p db) (only p db)) key
only-kept p e db key rest true s true c = rw s rest
only-kept p e db key rest true s false c = rest
only-kept p e db key rest false s true c = rw (c, s, rest) refl
only-kept p e db key rest false s false c = rw (c, rest) refl

pub only-remove : (p : List ℕ → Bool) (db : List DbEntry) (key : List ℕ) → only p (remove db key) ≡ remove (only p db) key
only-remove p [] key = refl
only-remove p (e ∷ db) key = only-kept p e db key (only-remove p db key) (same_text key e.key) refl (p e.key) refl

unremoved_at : (p : List ℕ → Bool) (e : DbEntry) (db : List DbEntry) (key : List ℕ) → p key ≡ false → only p (remove db key) ≡ only p db → (s : Bool) → same_text key e.key ≡ s → (c : Bool) → p e.key ≡ c
    → only p (cond (not s) (e ∷ remove db key) (remove db key)) ≡ cond c (e ∷ only p db) (only p db)
unremoved_at p e db key other rest true s true c = absurd (true≢false (sym (alike p key e.key false true s other c)))
unremoved_at p e db key other rest true s false c = rest
unremoved_at p e db key other rest false s c is = rw (is, rest) refl

pub only-unremoved : (p : List ℕ → Bool) (db : List DbEntry) (key : List ℕ) → p key ≡ false → only p (remove db key) ≡ only p db
only-unremoved p [] key other = refl
only-unremoved p (e ∷ db) key other = unremoved_at p e db key other (only-unremoved p db key other) (same_text key e.key) refl (p e.key) refl

-- ---- what is found

found_at : (p : List ℕ → Bool) (e : DbEntry) (db : List DbEntry) (key : List ℕ) → p key ≡ true → value_of (only p db) key ≡ value_of db key → (s : Bool) → same_text key e.key ≡ s → (c : Bool) → p e.key ≡ c
    → value_of (cond c (e ∷ only p db) (only p db)) key ≡ cond s (Some e.value) (value_of db key)
found_at p e db key chosen rest true s true c = rw s refl
found_at p e db key chosen rest true s false c = absurd (true≢false (alike p key e.key true false s chosen c))
found_at p e db key chosen rest false s true c = rw s rest
found_at p e db key chosen rest false s false c = rest

pub value_of-only : (p : List ℕ → Bool) (db : List DbEntry) (key : List ℕ) → p key ≡ true → value_of (only p db) key ≡ value_of db key
value_of-only p [] key chosen = refl
value_of-only p (e ∷ db) key chosen = found_at p e db key chosen (value_of-only p db key chosen) (same_text key e.key) refl (p e.key) refl

missing_at : (p : List ℕ → Bool) (e : DbEntry) (db : List DbEntry) (key : List ℕ) → p key ≡ false → value_of (only p db) key ≡ None → (s : Bool) → same_text key e.key ≡ s → (c : Bool) → p e.key ≡ c
    → value_of (cond c (e ∷ only p db) (only p db)) key ≡ None
missing_at p e db key other rest true s true c = absurd (true≢false (sym (alike p key e.key false true s other c)))
missing_at p e db key other rest true s false c = rest
missing_at p e db key other rest false s true c = rw s rest
missing_at p e db key other rest false s false c = rest

pub value_of-missing : (p : List ℕ → Bool) (db : List DbEntry) (key : List ℕ) → p key ≡ false → value_of (only p db) key ≡ None
value_of-missing p [] key other = refl
value_of-missing p (e ∷ db) key other = missing_at p e db key other (value_of-missing p db key other) (same_text key e.key) refl (p e.key) refl

-- ---- the two parts put together again

behind_first : (z : DbEntry) (db : List DbEntry) (key : List ℕ) (value : Value) → text_before z.key key ≡ true → put (z ∷ db) key value ≡ z ∷ put db key value
behind_first z db key value before = rw (same-sym z.key key false (before-apart z.key key before), before-back z.key key before) refl

all_behind_first : (z : DbEntry) (db ys : List DbEntry) → IsBefore z.key ys → Ascends ys → fold put_entry (z ∷ db) ys ≡ z ∷ fold put_entry db ys
all_behind_first z db [] first up = refl
all_behind_first z db (y ∷ ys) first up =
    ap (λ (d : List DbEntry). fold put_entry d ys) (behind_first z db y.key y.value first)
    ∙ all_behind_first z (put_entry db y) ys (IsBefore-through z.key y.key ys first up.0) up.1

built_at : (p : List ℕ → Bool) (z : DbEntry) (zs : List DbEntry) → Ascends (z ∷ zs) → fold put_entry (only (others p) zs) (only p zs) ≡ zs → (c : Bool) → p z.key ≡ c
    → fold put_entry (cond (not c) (z ∷ only (others p) zs) (only (others p) zs)) (cond c (z ∷ only p zs) (only p zs)) ≡ z ∷ zs
built_at p z zs up rest true c =
    let first : IsBefore z.key (only (others p) zs) = IsBefore-filter (λ (e : DbEntry). others p e.key) zs z.key up.0 up.1 in
    let later : IsBefore z.key (only p zs) = IsBefore-filter (λ (e : DbEntry). p e.key) zs z.key up.0 up.1 in
    ap (λ (d : List DbEntry). fold put_entry d (only p zs)) (put-first (only (others p) zs) z.key z.value first)
    ∙ all_behind_first z (only (others p) zs) (only p zs) later (Ascends-filter (λ (e : DbEntry). p e.key) zs up.1)
    ∙ ap (λ (d : List DbEntry). z ∷ d) rest
built_at p z zs up rest false c =
    let later : IsBefore z.key (only p zs) = IsBefore-filter (λ (e : DbEntry). p e.key) zs z.key up.0 up.1 in
    all_behind_first z (only (others p) zs) (only p zs) later (Ascends-filter (λ (e : DbEntry). p e.key) zs up.1)
    ∙ ap (λ (d : List DbEntry). z ∷ d) rest

pub built : (p : List ℕ → Bool) (zs : List DbEntry) → Ascends zs → fold put_entry (only (others p) zs) (only p zs) ≡ zs
built p [] up = refl
built p (z ∷ zs) up = built_at p z zs up (built p zs up.1) (p z.key) refl

pub built_alone : (zs : List DbEntry) → Ascends zs → fold put_entry [] zs ≡ zs
built_alone [] up = refl
built_alone (z ∷ zs) up = all_behind_first z [] zs up.0 up.1 ∙ ap (λ (d : List DbEntry). z ∷ d) (built_alone zs up.1)

-- That the entries ascend is kept where a key is set and where some of them are chosen.
use Rattle.std.proofs.Common.{◌≡◌, ℕ, Bool, true, false, cond, List, [], ◌∷◌, refl, ap}
use Rattle.std.specs.Prelude.{None, filter, pos}
use Rattle.cg_text.specs.Order.{same_text, text_before}
use Rattle.cg_action.specs.declared.value.Value.{Value}
use Rattle.cg_action.specs.declared.entry.DbEntry.{DbEntry}
use Rattle.cg_db.specs.Map.{value_of, put, keys}
use Rattle.cg_db.specs.Ascending.{IsBefore, Ascends}
use Rattle.cg_db.specs.TextOrderLaws.{before-apart, before-other}
use Rattle.cg_db.specs.EntryLaws.{IsBefore-through}
use Rattle.cg_text.specs.OrderLaws.{same_text-is}
use Rattle.cg_action.specs.declared.value.Value.TheVariants.{Int}

abbrev pub entry : List ℕ → Value → DbEntry
entry key value = record { key = key; value = value }

-- the database after its first entry was set, or another put before it or behind it
abbrev pub put_at : Bool → Bool → DbEntry → List DbEntry → List ℕ → Value → List DbEntry
put_at same before e db key value =
    cond same (entry key value ∷ db) (cond before (entry key value ∷ e ∷ db) (e ∷ put db key value))

pub IsBefore-put : (db : List DbEntry) (low key : List ℕ) (value : Value) → IsBefore low db →
    text_before low key ≡ true → IsBefore low (put db key value)
IsBefore-put [] low key value first second = second
IsBefore-put (e ∷ db) low key value first second = by (same_text key e.key) (text_before key e.key)
  where
    by : (same before : Bool) → IsBefore low (put_at same before e db key value)
    by true before = second
    by false true = second
    by false false = first

Ascends-put_at : (e : DbEntry) (db : List DbEntry) (key : List ℕ) (value : Value) → Ascends (e ∷ db) →
    Ascends (put db key value)
    → (same before : Bool) → same_text key e.key ≡ same → text_before key e.key ≡ before →
    Ascends (put_at same before e db key value)
Ascends-put_at e db key value up rest true before s b = let is = same_text-is key e.key s in (rw is up.0, up.1)
Ascends-put_at e db key value up rest false true s b = (b, up)
Ascends-put_at e db key value up rest false false s b =
    (IsBefore-put db e.key key value up.0 (before-other key e.key s b), rest)

pub Ascends-put : (db : List DbEntry) (key : List ℕ) (value : Value) → Ascends db → Ascends (put db key value)
Ascends-put [] key value up = (tt, tt)
Ascends-put (e ∷ db) key value up = Ascends-put_at e db key value
    up (Ascends-put db key value up.1) (same_text key e.key) (text_before key e.key) refl refl

-- a key before the first has no value
pub value_of-before : (db : List DbEntry) (key : List ℕ) → IsBefore key db → Ascends db → value_of db key ≡ None
value_of-before [] key first up = refl
value_of-before (e ∷ db) key first up =
    rw (before-apart key e.key first) (value_of-before db key (IsBefore-through key e.key db first up.0) up.1)

IsBefore-kept : (e : DbEntry) (db kept : List DbEntry) (low : List ℕ) → text_before low e.key ≡ true →
    IsBefore low kept → (b : Bool) → IsBefore low (cond b (e ∷ kept) kept)
IsBefore-kept e db kept low first rest true = first
IsBefore-kept e db kept low first rest false = rest

pub IsBefore-filter : (p : DbEntry → Bool) (db : List DbEntry) (low : List ℕ) → IsBefore low db → Ascends db →
    IsBefore low (filter p db)
IsBefore-filter p [] low first up = tt
IsBefore-filter p (e ∷ db) low first up =
    IsBefore-kept e db (filter p db) low
    first (IsBefore-filter p db low (IsBefore-through low e.key db first up.0) up.1) (p e)

Ascends-kept : (e : DbEntry) (kept : List DbEntry) → IsBefore e.key kept → Ascends kept → (b : Bool) →
    Ascends (cond b (e ∷ kept) kept)
Ascends-kept e kept first rest true = (first, rest)
Ascends-kept e kept first rest false = rest

pub Ascends-filter : (p : DbEntry → Bool) (db : List DbEntry) → Ascends db → Ascends (filter p db)
Ascends-filter p [] up = tt
Ascends-filter p (e ∷ db) up =
    Ascends-kept e (filter p db) (IsBefore-filter p db e.key up.0 up.1) (Ascends-filter p db up.1) (p e)

-- each key comes before this one
abbrev pub EachBefore : List ℕ → List DbEntry → Type 0
EachBefore key [] = Unit {0}
EachBefore key (e ∷ db) = (text_before e.key key ≡ true) × EachBefore key db

abbrev pub mark : Value
mark = Int (pos 0)

abbrev pub as_db : List (List ℕ) → List DbEntry
as_db [] = []
as_db (t ∷ ts) = entry t mark ∷ as_db ts

pub keys-as_db : (ts : List (List ℕ)) → keys (as_db ts) ≡ ts
keys-as_db [] = refl
keys-as_db (t ∷ ts) = ap (λ us. t ∷ us) (keys-as_db ts)

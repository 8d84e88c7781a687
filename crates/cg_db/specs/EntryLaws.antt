-- What is found at each key of a database: its entries.
use Rattle.std.proofs.Common.{◌≡◌, ℕ, true, false, List, [], ◌∷◌, refl, Option}
use Rattle.std.specs.Prelude.{Some, flat_map}
use Rattle.cg_text.specs.Order.{same_text, text_before}
use Rattle.cg_action.specs.declared.entry.DbEntry.{DbEntry}
use Rattle.cg_db.specs.Map.{value_of, keys}
use Rattle.cg_db.specs.Ascending.{IsBefore, Ascends}
use Rattle.cg_db.specs.View.{entry_at}
use Rattle.cg_db.specs.TextOrderLaws.{same-refl, same-sym, before-trans, before-apart}
use Rattle.cg_action.specs.declared.value.Value.{Value}

-- what is before a text is before those behind it
pub IsBefore-through : (low mid : List ℕ) (db : List DbEntry) → text_before low mid ≡ true →
    IsBefore mid db → IsBefore low db
IsBefore-through low mid [] first next = tt
IsBefore-through low mid (e ∷ db) first next = before-trans low mid e.key first next

-- the database has these entries
Has : List DbEntry → List DbEntry → Type 0
Has db [] = Unit {0}
Has db (e ∷ es) = (value_of db e.key ≡ Some e.value) × Has db es

Has-behind : (e : DbEntry) (db es : List DbEntry) → IsBefore e.key es → Ascends es → Has db es → Has (e ∷ db) es
unfolding Has
Has-behind e db [] first up has = tt
Has-behind e db (f ∷ es) first up has =
    let other : same_text f.key e.key ≡ false = same-sym e.key f.key false (before-apart e.key f.key first) in
    (rw other has.0, Has-behind e db es (IsBefore-through e.key f.key es first up.0) up.1 has.1)

Has-itself : (db : List DbEntry) → Ascends db → Has db db
unfolding Has
Has-itself [] up = tt
Has-itself (e ∷ db) up = (rw (same-refl e.key) refl, Has-behind e db db up.0 up.1 (Has-itself db up.1))

found_each : (db es : List DbEntry) → Has db es → flat_map (λ key. entry_at key (value_of db key)) (keys es) ≡ es
unfolding Has
found_each db [] has = refl
found_each db (e ∷ es) has = rw (has.0, found_each db es has.1) refl

pub found_all : (db : List DbEntry) → Ascends db → flat_map (λ key. entry_at key (value_of db key)) (keys db) ≡ db
found_all db up = found_each db db (Has-itself db up)

abbrev pub some : Value → Option Value
some v = Some v

pub same_some : (v w : Value) → some v ≡ some w → v ≡ w
same_some v w e = cc

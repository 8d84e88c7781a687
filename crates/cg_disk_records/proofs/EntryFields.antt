-- The entries of a database as a field, and the loops that read and write them.
use Rattle.std.proofs.Common.{◌≡◌, ℕ, ◌+◌, ◌-◌, ◌^◌, ◌<◌, ◌≤◌, Bool, true, false, cond, ltb, List, [], ◌∷◌, ◌++◌, length, take, Result, Ok, Err, refl, sym, ap, subst, ◌∙◌, arith}
use Rattle.std.specs.Prelude.{Option, Some, flat_map}
use Rattle.std.proofs.lemmas.Grind.{flat_map-append}
use Rattle.std.proofs.lemmas.List.Concat.{flat_map-cons}
use Rattle.std.proofs.lemmas.List.Sums.{fold_push}
use Rattle.std.specs.Str.{is_utf8, IsUtf8}
use Rattle.std.proofs.lemmas.Str.{IsUtf8-from_is_utf8}
use Rattle.cg_codec.specs.declared.fault.CodecFault.{CodecFault}
use Rattle.cg_codec.specs.declared.fault.CodecFault.TheVariants.{Short, Bad}
use Rattle.cg_codec.specs.Fields.{text, list}
use Rattle.cg_codec.specs.Reading.{Unread, behind, ◌>>=◌, done, take_count, text_bytes, take_text, take_items, take_list}
use Rattle.cg_codec.specs.Laws.{IsField, EachBehind}
use Rattle.cg_codec.specs.FieldLaws.{field_has, field_only, gives, go_on-ok, passed-ok, given}
use Rattle.cg_codec.specs.ItemLaws.{items_go_on}
use Rattle.cg_codec.specs.PlainLaws.{count_field}
use Rattle.cg_codec.specs.ListLaws.{field_list}
use Rattle.cg_codec.specs.ShapeLaws.{field_two}
use Rattle.cg_text.specs.Order.{same_text, text_before}
use Rattle.cg_action.specs.declared.value.Value.{Value}
use Rattle.cg_action.specs.ActionLimits.{IsKey, IsValue}
use Rattle.cg_action.specs.Bytes.{spelled_value}
use Rattle.cg_action.specs.Reading.{is_key, key_reading, value_reading}
use Rattle.cg_action.specs.ValueLaws.{key_field, value_field}
use Rattle.cg_action.specs.declared.entry.DbEntry.{DbEntry}
use Rattle.cg_db.specs.Map.{value_of, put, keys}
use Rattle.cg_db.specs.Ascending.{IsBefore, Ascends}
use Rattle.cg_db.specs.Limits.{IsEntry, AreEntries}
use Rattle.cg_db.specs.View.{entry_at}
use Rattle.cg_db.specs.EntryLaws.{found_all, same_some, some}
use Rattle.cg_db.specs.TextOrderLaws.{same-sym, before-trans, before-back, before-apart}
use Rattle.cg_base.specs.Lists.{Each}
use Rattle.cg_disk_records.specs.Checkpoint.{spelled_entry}
use Rattle.cg_disk_records.specs.Limits.{IsDatabase}
use Rattle.cg_disk_records.specs.Reading.{last_key, key_behind_reading, entry_reading, entries_reading}
use Rattle.cg_db.specs.AscendingLaws.{EachBefore, entry}

-- ---- an entry

abbrev FollowsKey : List ℕ → List ℕ → Type 0
FollowsKey last key = IsKey key × (text_before last key ≡ true)

key_behind_field : (last : List ℕ) → IsField (FollowsKey last) text (key_behind_reading last)
unfolding key_behind_reading
key_behind_field last = field_only IsKey text key_reading (text_before last) key_field

abbrev FollowsEntry : List ℕ → DbEntry → Type 0
FollowsEntry last e = FollowsKey last e.key × IsValue e.value

entry_field : (last : List ℕ) → IsField (FollowsEntry last) spelled_entry (entry_reading last)
unfolding spelled_entry entry_reading
entry_field last =
    field_two entry (λ e. e.key) (λ e. e.value) (FollowsKey last) IsValue text spelled_value (key_behind_reading last) value_reading (FollowsEntry last) spelled_entry
    (key_behind_field last) value_field (λ e has. (has.0, has.1, refl, refl)) (λ key value k v. ((k, v), refl, refl))

-- ---- entries

abbrev FollowsEntries : List DbEntry → DbEntry → Type 0
FollowsEntries taken e = FollowsEntry (last_key taken) e

key-last : (taken : List DbEntry) (e : DbEntry) → last_key (taken ++ e ∷ []) ≡ e.key
key-last taken e = fold_push (λ _ (x : DbEntry). x.key) [] taken e

entries-behind : (xs taken : List DbEntry) → EachBehind FollowsEntries taken xs → IsBefore (last_key taken) xs × AreEntries xs × Ascends xs
entries-behind [] taken behind = (tt, tt, tt)
entries-behind (e ∷ xs) taken behind =
    let rest = entries-behind xs (taken ++ e ∷ []) behind.1 in
    let next : IsBefore e.key xs = subst (λ k. IsBefore k xs) (key-last taken e) rest.0 in
    (behind.0.0.1, (record { key = behind.0.0.0; value = behind.0.1 }, rest.1), (next, rest.2))

behind-entries : (xs taken : List DbEntry) → IsBefore (last_key taken) xs → AreEntries xs → Ascends xs → EachBehind FollowsEntries taken xs
behind-entries [] taken first entries up = tt
behind-entries (e ∷ xs) taken first entries up =
    let next : IsBefore (last_key (taken ++ e ∷ [])) xs = subst (λ k. IsBefore k xs) (sym (key-last taken e)) up.0 in
    (((entries.0.key, first), entries.0.value), behind-entries xs (taken ++ e ∷ []) next entries.1 up.1)

nothing-before : (key : List ℕ) → 1 ≤ length key → text_before [] key ≡ true
nothing-before [] some = absurd (omega (arith, some))
nothing-before (b ∷ key) some = refl

first-behind : (xs : List DbEntry) → AreEntries xs → IsBefore [] xs
first-behind [] entries = tt
first-behind (e ∷ xs) entries = nothing-before e.key entries.0.key.1

pub any_entry_field : IsField IsEntry spelled_entry (entry_reading [])
any_entry_field =
    field_has (FollowsEntry []) IsEntry spelled_entry (entry_reading []) (λ e has. record { key = has.0.0; value = has.1 })
    (λ e has. ((has.key, nothing-before e.key has.key.1), has.value)) (entry_field [])

pub entries_field : IsField IsDatabase (list spelled_entry) entries_reading
unfolding entries_reading
entries_field =
    field_has (λ (xs : List DbEntry). (length xs ≤ 2 ^ 32 - 1) × EachBehind FollowsEntries [] xs) IsDatabase (list spelled_entry) (take_list (2 ^ 32 - 1) (λ taken. entry_reading (last_key taken)))
    (λ xs has. let few : length xs ≤ 2 ^ 32 - 1 = has.0 in let b = entries-behind xs [] has.1 in record { short = omega arith; entries = b.1; ascends = b.2 })
    (λ xs has. let few : length xs < 2 ^ 32 = has.short in (omega arith, behind-entries xs [] (first-behind xs has.entries) has.entries has.ascends))
    (field_list (2 ^ 32 - 1) FollowsEntries spelled_entry (λ taken. entry_reading (last_key taken)) (count_field (2 ^ 32 - 1) (omega arith)) (λ taken. entry_field (last_key taken)))

-- ---- the loop that reads them

entry-ok : (last : List ℕ) (e : DbEntry) (old new : Unread) → entry_reading last old ≡ Ok (e, new) → text_before last e.key ≡ true
unfolding entry_reading key_behind_reading
entry-ok last e old new read =
    let first = go_on-ok (key_behind_reading last old) (λ key. value_reading >>= λ value. done (entry key value)) e new read in
    let second = go_on-ok (value_reading first.1) (λ value. done (entry first.0 value)) e new first.3 in
    let same = given (entry first.0 second.0) e second.1 new second.3 in
    let passed = passed-ok (text_before last) old.at (key_reading old) first.0 first.1 first.2 in
    rw (← same.0) passed.1

-- the key is a text

text_is : (short good : Bool) (t t' : List ℕ) (left new : Unread) (fault other : CodecFault) → is_utf8 t ≡ good → cond short (Err fault) (cond good (gives (t, left)) (Err other)) ≡ Ok (t', new) → is_utf8 t' ≡ true
text_is true good t t' left new fault other is e = absurd cc
text_is false true t t' left new fault other is e = rw (← (given t t' left new e).0) is
text_is false false t t' left new fault other is e = absurd cc

text-utf8 : (max : ℕ) (t : List ℕ) (old new : Unread) → take_text max old ≡ Ok (t, new) → is_utf8 t ≡ true
unfolding take_text
text-utf8 max t old new e =
    let first = go_on-ok (take_count max old) (text_bytes old.at) t new e in
    let n = first.0 in
    text_is (ltb (length first.1.bytes) n) (is_utf8 (take n first.1.bytes)) (take n first.1.bytes) t (behind n first.1) new (Short old.at) (Bad old.at) refl first.3

pub entry-utf8 : (last : List ℕ) (e : DbEntry) (old new : Unread) → entry_reading last old ≡ Ok (e, new) → IsUtf8 e.key
unfolding entry_reading key_behind_reading key_reading
entry-utf8 last e old new read =
    let first = go_on-ok (key_behind_reading last old) (λ key. value_reading >>= λ value. done (entry key value)) e new read in
    let second = go_on-ok (value_reading first.1) (λ value. done (entry first.0 value)) e new first.3 in
    let same = given (entry first.0 second.0) e second.1 new second.3 in
    let passed = passed-ok (text_before last) old.at (key_reading old) first.0 first.1 first.2 in
    let key = passed-ok is_key old.at (take_text 64 old) first.0 first.1 passed.0 in
    rw (← same.0) (IsUtf8-from_is_utf8 first.0 (text-utf8 64 first.0 old first.1 key.0))

EachBefore-push : (key : List ℕ) (db : List DbEntry) (e : DbEntry) → EachBefore key db → text_before e.key key ≡ true → EachBefore key (db ++ e ∷ [])
EachBefore-push key [] e before one = (one, tt)
EachBefore-push key (x ∷ db) e before one = (before.0, EachBefore-push key db e before.1 one)

put-last : (db : List DbEntry) (key : List ℕ) (value : Value) → EachBefore key db → put db key value ≡ db ++ entry key value ∷ []
put-last [] key value before = refl
put-last (e ∷ db) key value before =
    let other : same_text key e.key ≡ false = same-sym e.key key false (before-apart e.key key before.0) in
    let behind : text_before key e.key ≡ false = before-back e.key key before.0 in
    rw (other, behind, put-last db key value before.1) refl

abbrev pub entry_item : List DbEntry → Unread → Result (DbEntry × Unread) CodecFault
entry_item taken = entry_reading (last_key taken)

-- i of the entries were read, the last one with this key
pub record EntriesSoFar (total : Result (List DbEntry × Unread) CodecFault) (count i : ℕ) (last : List ℕ) (db : List DbEntry) (left : Unread) : Type 0 where
  pub rest : take_items entry_item (count - i) db left ≡ total
  pub last_is : last ≡ last_key db
  pub before : (key : List ℕ) → text_before last key ≡ true → EachBefore key db

pub EntriesSoFar-more : (total : Result (List DbEntry × Unread) CodecFault) (count i : ℕ) (last : List ℕ) (db db' : List DbEntry) (left after : Unread) (key : List ℕ) (value : Value)
    → EntriesSoFar total count i last db left → i < count → entry_reading last left ≡ Ok (entry key value, after) → db' ≡ put db key value → EntriesSoFar total count (i + 1) key db' after
EntriesSoFar-more total count i last db db' left after key value so_far lt read put_in =
    let up = entry-ok last (entry key value) left after read in
    let whole : db' ≡ db ++ entry key value ∷ [] = put_in ∙ put-last db key value (so_far.before key up) in
    let one : entry_item db left ≡ Ok (entry key value, after) = rw so_far.last_is at read in
    record {
      rest = rw whole (items_go_on entry_item count i db left after (entry key value) total lt one so_far.rest);
      last_is = rw whole (sym (key-last db (entry key value)));
      before = λ k later. rw whole (EachBefore-push k db (entry key value) (so_far.before k (before-trans last key k up later)) later);
    }

-- ---- the loop that writes them

within_at : (e : DbEntry) (found : Option Value) (v : Value) → IsValue e.value → (found ≡ Some v → IsValue v) → (b : Bool) → cond b (some e.value) found ≡ Some v → IsValue v
within_at e found v first others true is = rw (← same_some e.value v is) first
within_at e found v first others false is = others is

pub value-within : (db : List DbEntry) (key : List ℕ) (v : Value) → AreEntries db → value_of db key ≡ Some v → IsValue v
value-within [] key v entries found = absurd cc
value-within (e ∷ db) key v entries found = within_at e (value_of db key) v entries.0.value (λ is. value-within db key v entries.1 is) (same_text key e.key) found

pub keys-within : (db : List DbEntry) → AreEntries db → Each IsKey (keys db)
keys-within [] entries = tt
keys-within (e ∷ db) entries = (entries.0.key, keys-within db entries.1)

flat_map-through : {A B C : Type 0} (f : B → List C) (g : A → List B) (xs : List A) → flat_map f (flat_map g xs) ≡ flat_map (λ x. flat_map f (g x)) xs
flat_map-through f g [] = refl
flat_map-through f g (x ∷ xs) =
    ap (λ ys. flat_map f ys) (flat_map-cons g x xs) ∙ flat_map-append f (g x) (flat_map g xs) ∙ ap (λ ys. flat_map f (g x) ++ ys) (flat_map-through f g xs) ∙ sym (flat_map-cons (λ y. flat_map f (g y)) x xs)

pub written-all : (db : List DbEntry) → Ascends db → flat_map (λ key. flat_map spelled_entry (entry_at key (value_of db key))) (keys db) ≡ flat_map spelled_entry db
written-all db up = sym (flat_map-through spelled_entry (λ key. entry_at key (value_of db key)) (keys db)) ∙ ap (λ es. flat_map spelled_entry es) (found_all db up)

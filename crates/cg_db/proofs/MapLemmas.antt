-- What a database has at its keys, and that this says which one it is.
use Rattle.std.proofs.Common.{◌≡◌, ℕ, suc, Bool, true, false, cond, not, List, [], ◌∷◌, length, refl, sym, ap, ◌∙◌, true≢false}
use Rattle.std.specs.Prelude.{Option, Some, None}
use Rattle.cg_text.specs.Order.{same_text, text_before}
use Rattle.cg_action.specs.declared.value.Value.{Value}
use Rattle.cg_action.specs.declared.entry.DbEntry.{DbEntry}
use Rattle.cg_db.specs.Map.{value_of, put, remove}
use Rattle.cg_db.specs.Ascending.{Ascends}
use Rattle.cg_db.specs.TextOrderLaws.{same-refl, before-other}
use Rattle.cg_db.specs.AscendingLaws.{entry, put_at, value_of-before}
use Rattle.cg_text.specs.OrderLaws.{same_text-is}
use Rattle.cg_db.specs.EntryLaws.{some, same_some}

abbrev pub no_value : Option Value
no_value = None

pub some≢none : (v : Value) → some v ≡ no_value → ⊥
some≢none v e = cc

-- ---- what is where

twice : (b : Bool) (x y z : Option Value) → cond b x z ≡ cond b x (cond b y z)
twice true x y z = refl
twice false x y z = refl

-- two tests of a text against two different ones, in either order
either_by : (k l q : List ℕ) (v w rest : Option Value) → same_text l k ≡ false → (b : Bool) → same_text q k ≡ b → (c : Bool) → same_text q l ≡ c → cond b v (cond c w rest) ≡ cond c w (cond b v rest)
either_by k l q v w rest differ true f true g =
    absurd (let both : l ≡ k = sym (same_text-is q l g) ∙ same_text-is q k f in let yes : same_text l k ≡ true = rw both (same-refl k) in true≢false (sym yes ∙ differ))
either_by k l q v w rest differ true f false g = refl
either_by k l q v w rest differ false f true g = refl
either_by k l q v w rest differ false f false g = refl

either : (k l q : List ℕ) (v w rest : Option Value) → same_text l k ≡ false → cond (same_text q k) v (cond (same_text q l) w rest) ≡ cond (same_text q l) w (cond (same_text q k) v rest)
either k l q v w rest differ = either_by k l q v w rest differ (same_text q k) refl (same_text q l) refl

value_of-put_at : (e : DbEntry) (db : List DbEntry) (key : List ℕ) (value : Value) (q : List ℕ) → value_of (put db key value) q ≡ cond (same_text q key) (Some value) (value_of db q)
    → (same before : Bool) → same_text key e.key ≡ same → value_of (put_at same before e db key value) q ≡ cond (same_text q key) (Some value) (cond (same_text q e.key) (Some e.value) (value_of db q))
value_of-put_at e db key value q rest true before s = let is = same_text-is key e.key s in rw is (twice (same_text q e.key) (Some value) (Some e.value) (value_of db q))
value_of-put_at e db key value q rest false true s = refl
value_of-put_at e db key value q rest false false s = rw rest (either e.key key q (Some e.value) (Some value) (value_of db q) s)

pub value_of-put : (db : List DbEntry) (key : List ℕ) (value : Value) (q : List ℕ) → value_of (put db key value) q ≡ cond (same_text q key) (Some value) (value_of db q)
value_of-put [] key value q = refl
value_of-put (e ∷ db) key value q = value_of-put_at e db key value q (value_of-put db key value q) (same_text key e.key) (text_before key e.key) refl

none_either : (b : Bool) → no_value ≡ cond b no_value no_value
none_either true = refl
none_either false = refl

value_of-kept : (e : DbEntry) (db : List DbEntry) (key q : List ℕ) → value_of (remove db key) q ≡ cond (same_text q key) None (value_of db q)
    → (same : Bool) → same_text key e.key ≡ same → value_of (cond (not same) (e ∷ remove db key) (remove db key)) q ≡ cond (same_text q key) None (cond (same_text q e.key) (Some e.value) (value_of db q))
value_of-kept e db key q rest true s = let is = same_text-is key e.key s in rest ∙ (rw is (twice (same_text q e.key) None (Some e.value) (value_of db q)))
value_of-kept e db key q rest false s = rw rest (either e.key key q (Some e.value) None (value_of db q) s)

pub value_of-remove : (db : List DbEntry) (key q : List ℕ) → value_of (remove db key) q ≡ cond (same_text q key) None (value_of db q)
value_of-remove [] key q = none_either (same_text q key)
value_of-remove (e ∷ db) key q = value_of-kept e db key q (value_of-remove db key q) (same_text key e.key) refl

-- ---- which database it is

-- the first value, where the keys are one
first_is : (x : DbEntry) (xs : List DbEntry) → value_of (x ∷ xs) x.key ≡ Some x.value
first_is x xs = rw (same-refl x.key) refl

-- behind a first entry with one key, the values are the same too
tail_at : (x y : DbEntry) (xs ys : List DbEntry) → Ascends (x ∷ xs) → Ascends (y ∷ ys) → x.key ≡ y.key → (q : List ℕ) → value_of (x ∷ xs) q ≡ value_of (y ∷ ys) q
    → (c : Bool) → same_text q x.key ≡ c → value_of xs q ≡ value_of ys q
tail_at x y xs ys up down key q same true e =
    let is : q ≡ x.key = same_text-is q x.key e in
    let mine : value_of xs q ≡ None = rw is (value_of-before xs x.key up.0 up.1) in
    let yours : value_of ys q ≡ None = rw (is, key) (value_of-before ys y.key down.0 down.1) in
    mine ∙ sym yours
tail_at x y xs ys up down key q same false e =
    let other : same_text q y.key ≡ false = rw (← key) e in
    let whole : cond (same_text q x.key) (Some x.value) (value_of xs q) ≡ cond (same_text q y.key) (Some y.value) (value_of ys q) = same in
    rw (e, other) at whole

same_heads : (x y : DbEntry) (xs ys : List DbEntry) → Ascends (x ∷ xs) → Ascends (y ∷ ys) → ((q : List ℕ) → value_of (x ∷ xs) q ≡ value_of (y ∷ ys) q)
    → (((q : List ℕ) → value_of xs q ≡ value_of ys q) → xs ≡ ys) → (s : Bool) → same_text x.key y.key ≡ s → (b : Bool) → text_before x.key y.key ≡ b → x ∷ xs ≡ y ∷ ys
same_heads x y xs ys up down same rest true s b before =
    let key : x.key ≡ y.key = same_text-is x.key y.key s in
    let there : value_of (y ∷ ys) x.key ≡ Some y.value = rw key (first_is y ys) in
    let value : x.value ≡ y.value = same_some x.value y.value (sym (first_is x xs) ∙ same x.key ∙ there) in
    let head : x ≡ y = ap (λ z. entry z x.value) key ∙ ap (λ z. entry y.key z) value in
    ap (λ z. z ∷ xs) head ∙ ap (λ zs. y ∷ zs) (rest (λ q. tail_at x y xs ys up down key q (same q) (same_text q x.key) refl))
same_heads x y xs ys up down same rest false s true before =
    absurd (let none : value_of (y ∷ ys) x.key ≡ None = value_of-before (y ∷ ys) x.key before down in some≢none x.value (sym (first_is x xs) ∙ same x.key ∙ none))
same_heads x y xs ys up down same rest false s false before =
    absurd (let none : value_of (x ∷ xs) y.key ≡ None = value_of-before (x ∷ xs) y.key (before-other x.key y.key s before) up in some≢none y.value (sym (first_is y ys) ∙ sym (same y.key) ∙ none))

-- the same value at each key: the same database
pub same_at_each_key : (xs ys : List DbEntry) → Ascends xs → Ascends ys → ((q : List ℕ) → value_of xs q ≡ value_of ys q) → xs ≡ ys
same_at_each_key [] [] up down same = refl
same_at_each_key [] (y ∷ ys) up down same = absurd (some≢none y.value (sym (first_is y ys) ∙ sym (same y.key)))
same_at_each_key (x ∷ xs) [] up down same = absurd (some≢none x.value (sym (first_is x xs) ∙ same x.key))
same_at_each_key (x ∷ xs) (y ∷ ys) up down same =
    same_heads x y xs ys up down same (same_at_each_key xs ys up.1 down.1) (same_text x.key y.key) refl (text_before x.key y.key) refl

-- ---- how many

length-put_at : (e : DbEntry) (db : List DbEntry) (key : List ℕ) (value : Value) → (value_of db key ≡ None → length (put db key value) ≡ suc (length db))
    → (same : Bool) → cond same (Some e.value) (value_of db key) ≡ None → (before : Bool) → length (put_at same before e db key value) ≡ suc (suc (length db))
length-put_at e db key value rest true none before = absurd (some≢none e.value none)
length-put_at e db key value rest false none true = refl
length-put_at e db key value rest false none false = ap suc (rest none)

pub length-put : (db : List DbEntry) (key : List ℕ) (value : Value) → value_of db key ≡ None → length (put db key value) ≡ suc (length db)
length-put [] key value none = refl
length-put (e ∷ db) key value none = length-put_at e db key value (length-put db key value) (same_text key e.key) none (text_before key e.key)

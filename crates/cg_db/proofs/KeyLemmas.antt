-- The keys of a database, and what a sort makes of the keys of a map.
use Rattle.std.proofs.Common.{◌≡◌, ℕ, suc, ◌+◌, ◌<◌, Bool, true, false, cond, ◌&&◌, ◌||◌, List, [], ◌∷◌, ◌++◌, length, drop, refl, sym, ap, ◌∙◌, add-one, arith}
use Rattle.std.specs.Prelude.{Option, Some, None, is_some, filter, flat_map, IsSorted, IsPermutation}
use Rattle.std.specs.Str.{bytes_eq}
use Rattle.std.proofs.lemmas.List.{append-nil}
use Rattle.std.specs.List.{slice_get, list_any, IsDistinct, AllByRecursion}
use Rattle.std.specs.Map.{lookup, keys_of}
use Rattle.std.specs.Ordering.{nat_cmp}
use Rattle.std.specs.Cmp.Lexicographic.{slice_cmp}
use Rattle.std.proofs.lemmas.Map.Keys.{IsDistinct-head, IsDistinct-tail, IsDistinct-cons, IsDistinct-IsPermutation}
use Rattle.std.proofs.lemmas.List.Sorted.{list_any-IsPermutation}
use Rattle.cg_text.specs.Order.{same_text, text_before, begins_with}
use Rattle.cg_action.specs.declared.value.Value.{Value}
use Rattle.cg_action.specs.declared.entry.DbEntry.{DbEntry}
use Rattle.cg_db.specs.Map.{value_of, put, keys}
use Rattle.cg_db.specs.Ascending.{IsBefore, Ascends}
use Rattle.cg_db.specs.View.{of_entries, entry_at}
use Rattle.cg_db.specs.TextOrderLaws.{same-sym, before-other}
use Rattle.cg_db.specs.EntryLaws.{found_all, some}
use Rattle.cg_db.specs.AscendingLaws.{entry, Ascends-filter, mark, as_db, keys-as_db}
use Rattle.cg_db.proofs.MapLemmas.{same_at_each_key, length-put}
use Rattle.cg_db.proofs.ViewLemmas.{Ascends-of_entries, value_of-of_entries, same_flipped}
use Rattle.cg_base.specs.ListLaws.{drop-at}
use Rattle.cg_text.specs.OrderLaws.{same_text-is}

-- ---- texts as a database, in which each has one and the same value

abbrev is_in : List ℕ → List (List ℕ) → Bool
is_in q ts = list_any (same_text q) ts

abbrev marked : Bool → Option Value
marked b = cond b (Some mark) None

marked-or : (b c : Bool) → cond b (some mark) (marked c) ≡ marked (b || c)
marked-or true c = refl
marked-or false c = refl

value_of-as_db : (ts : List (List ℕ)) (q : List ℕ) → value_of (as_db ts) q ≡ marked (is_in q ts)
value_of-as_db [] q = refl
value_of-as_db (t ∷ ts) q = rw (value_of-as_db ts q) (marked-or (same_text q t) (is_in q ts))

IsBefore-as_db : (low : List ℕ) (db : List DbEntry) → IsBefore low db → IsBefore low (as_db (keys db))
IsBefore-as_db low [] first = tt
IsBefore-as_db low (e ∷ db) first = first

Ascends-as_db : (db : List DbEntry) → Ascends db → Ascends (as_db (keys db))
Ascends-as_db [] up = tt
Ascends-as_db (e ∷ db) up = (IsBefore-as_db e.key db up.0, Ascends-as_db db up.1)

as_db-kept : (t : List ℕ) (us : List (List ℕ)) (db : List DbEntry) → as_db us ≡ db → (b : Bool) → as_db (cond b (t ∷ us) us) ≡ cond b (entry t mark ∷ db) db
as_db-kept t us db e true = ap (λ d. entry t mark ∷ d) e
as_db-kept t us db e false = e

as_db-filter : (p : List ℕ → Bool) (ts : List (List ℕ)) → as_db (filter p ts) ≡ filter (λ (e : DbEntry). p e.key) (as_db ts)
as_db-filter p [] = refl
as_db-filter p (t ∷ ts) = as_db-kept t (filter p ts) (filter (λ (e : DbEntry). p e.key) (as_db ts)) (as_db-filter p ts) (p t)

-- two ascending lists of texts with the same members are one
same_members : (ts us : List (List ℕ)) → Ascends (as_db ts) → Ascends (as_db us) → ((q : List ℕ) → is_in q ts ≡ is_in q us) → ts ≡ us
same_members ts us up down same =
    sym (keys-as_db ts) ∙ ap keys (same_at_each_key (as_db ts) (as_db us) up down (λ q. value_of-as_db ts q ∙ ap marked (same q) ∙ sym (value_of-as_db us q))) ∙ keys-as_db us

-- ---- members

is_in-kept : (p : List ℕ → Bool) (q t : List ℕ) (us : List (List ℕ)) (rest : Bool) → is_in q us ≡ (p q && rest) → (b : Bool) → p t ≡ b → (s : Bool) → same_text q t ≡ s
    → is_in q (cond b (t ∷ us) us) ≡ (p q && (s || rest))
is_in-kept p q t us rest e true pt true s = let both : p q ≡ true = ap p (same_text-is q t s) ∙ pt in rw (s, both) refl
is_in-kept p q t us rest e true pt false s = rw (s, e) refl
is_in-kept p q t us rest e false pt true s = let both : p q ≡ false = ap p (same_text-is q t s) ∙ pt in rw both at e ∙ (rw both refl)
is_in-kept p q t us rest e false pt false s = e

is_in-filter : (p : List ℕ → Bool) (ts : List (List ℕ)) (q : List ℕ) → is_in q (filter p ts) ≡ (p q && is_in q ts)
is_in-filter p [] q = none (p q)
  where
    none : (b : Bool) → false ≡ (b && false)
    none true = refl
    none false = refl
is_in-filter p (t ∷ ts) q = is_in-kept p q t (filter p ts) (is_in q ts) (is_in-filter p ts q) (p t) refl (same_text q t) refl

is_some-or : (b : Bool) (v : Value) (o : Option Value) → is_some (cond b (Some v) o) ≡ (b || is_some o)
is_some-or true v o = refl
is_some-or false v o = refl

is_in-keys : (db : List DbEntry) (q : List ℕ) → is_in q (keys db) ≡ is_some (value_of db q)
is_in-keys [] q = refl
is_in-keys (e ∷ db) q = ap (λ b. same_text q e.key || b) (is_in-keys db q) ∙ sym (is_some-or (same_text q e.key) e.value (value_of db q))

is_in-map : (es : List (List ℕ × Value)) (q : List ℕ) → is_in q (keys_of es) ≡ is_some (lookup (λ (k : List ℕ). bytes_eq q k) es)
is_in-map [] q = refl
is_in-map (e ∷ es) q = ap (λ b. same_text q e.0 || b) (is_in-map es q) ∙ sym (is_some-or (same_text q e.0) e.1 (lookup (λ (k : List ℕ). bytes_eq q k) es))

-- the keys that are seen are the map's
is_in-seen : (es : List (List ℕ × Value)) (q : List ℕ) → is_in q (keys (of_entries es)) ≡ is_in q (keys_of es)
is_in-seen es q = is_in-keys (of_entries es) q ∙ ap is_some (value_of-of_entries es q) ∙ sym (is_in-map es q)

-- ---- what a sort makes of different texts

sorted-tail : (t : List ℕ) (ts : List (List ℕ)) → IsSorted (slice_cmp nat_cmp) (t ∷ ts) → IsSorted (slice_cmp nat_cmp) ts
sorted-tail t ts up = λ k d low high.
    let later : suc k + 1 < suc (length ts) = omega arith in
    let next : suc k + 1 ≡ suc (k + 1) = omega arith in
    let far = up (suc k) d (omega arith) later in
    rw next at far

Ascends-sorted : (ts : List (List ℕ)) → IsSorted (slice_cmp nat_cmp) ts → IsDistinct bytes_eq ts → Ascends (as_db ts)
Ascends-sorted [] up apart = tt
Ascends-sorted (t ∷ []) up apart = (tt, tt)
Ascends-sorted (t ∷ u ∷ ts) up apart =
    let differ : same_text t u ≡ false = (IsDistinct-head bytes_eq t (u ∷ ts) apart).0 in
    let back : text_before u t ≡ false = up 0 t (omega arith) (omega arith) in
    (before-other u t (same-sym t u false differ) back, Ascends-sorted (u ∷ ts) (sorted-tail t (u ∷ ts) up) (IsDistinct-tail bytes_eq t (u ∷ ts) apart))

apart-kept : (k t : List ℕ) (us : List (List ℕ)) → bytes_eq k t ≡ false → AllByRecursion (λ y. bytes_eq k y ≡ false) us → (b : Bool) → AllByRecursion (λ y. bytes_eq k y ≡ false) (cond b (t ∷ us) us)
apart-kept k t us differ rest true = (differ, rest)
apart-kept k t us differ rest false = rest

apart-seen : (p : List ℕ → Bool) (k : List ℕ) (ks : List (List ℕ)) → AllByRecursion (λ y. bytes_eq k y ≡ false) ks → AllByRecursion (λ y. bytes_eq k y ≡ false) (filter p (ks))
apart-seen p k [] apart = tt
apart-seen p k (x ∷ ks) apart = apart-kept k x (filter p (ks)) apart.0 (apart-seen p k ks apart.1) (p x)

distinct-kept : (t : List ℕ) (us : List (List ℕ)) → AllByRecursion (λ y. bytes_eq t y ≡ false) us → IsDistinct bytes_eq us → (b : Bool) → IsDistinct bytes_eq (cond b (t ∷ us) us)
distinct-kept t us differ rest true = IsDistinct-cons bytes_eq t us differ rest
distinct-kept t us differ rest false = rest

distinct-seen : (p : List ℕ → Bool) (ks : List (List ℕ)) → IsDistinct bytes_eq ks → IsDistinct bytes_eq (filter p (ks))
unfolding IsDistinct
distinct-seen p [] apart = tt
distinct-seen p (k ∷ ks) apart = distinct-kept k (filter p (ks)) (apart-seen p k ks apart.0) (distinct-seen p ks apart.1) (p k)

pub sorted_is : (es : List (List ℕ × Value)) (p : List ℕ → Bool) (found sorted : List (List ℕ)) → IsDistinct bytes_eq (keys_of es) → found ≡ filter p (keys_of es)
    → IsPermutation found sorted → IsSorted (slice_cmp nat_cmp) sorted → sorted ≡ filter p (keys (of_entries es))
sorted_is es p found sorted unique is moved up =
    let seen = keys_of es in
    let differ : IsDistinct bytes_eq found = rw is (distinct-seen p (keys_of es) unique) in
    let apart = IsDistinct-IsPermutation bytes_eq same_flipped found sorted moved differ in
    let own : Ascends (as_db (filter p (keys (of_entries es)))) = rw as_db-filter (Ascends-filter (λ (e : DbEntry). p e.key) (as_db (keys (of_entries es))) (Ascends-as_db (of_entries es) (Ascends-of_entries es))) in
    same_members sorted (filter p (keys (of_entries es))) (Ascends-sorted sorted up apart) own
    (λ q. sym (list_any-IsPermutation (same_text q) found sorted moved) ∙ ap (λ (ts : List (List ℕ)). is_in q ts) is ∙ is_in-filter p seen q ∙ ap (λ b. p q && b) (sym (is_in-seen es q)) ∙ sym (is_in-filter p (keys (of_entries es)) q))

-- ---- the number of keys

absent : (k : List ℕ) (es : List (List ℕ × Value)) → AllByRecursion (λ y. bytes_eq k y ≡ false) (keys_of es) → lookup (λ (x : List ℕ). bytes_eq k x) es ≡ None
absent k [] apart = refl
absent k (e ∷ es) apart = let first : bytes_eq k e.0 ≡ false = apart.0 in rw first (absent k es apart.1)

pub length-of_entries : (es : List (List ℕ × Value)) → IsDistinct bytes_eq (keys_of es) → length (of_entries es) ≡ length es
unfolding IsDistinct
length-of_entries [] apart = refl
length-of_entries (e ∷ es) apart =
    let none : value_of (of_entries es) e.0 ≡ None = value_of-of_entries es e.0 ∙ absent e.0 es apart.0 in
    length-put (of_entries es) e.0 e.1 none ∙ ap suc (length-of_entries es apart.1)

-- ---- every key, and what is found at it

pub all_begin : (ts : List (List ℕ)) → filter (λ k. begins_with k []) ts ≡ ts
all_begin [] = refl
all_begin (t ∷ ts) = ap (λ us. t ∷ us) (all_begin ts)

pub entries_are : (db entries : List DbEntry) (left all : List (List ℕ)) → entries ++ flat_map (λ key. entry_at key (value_of db key)) left ≡ flat_map (λ key. entry_at key (value_of db key)) all
    → left ≡ [] → all ≡ filter (λ k. begins_with k []) (keys db) → Ascends db → entries ≡ db
entries_are db entries left all so_far none every up =
    let known : all ≡ keys db = every ∙ all_begin (keys db) in
    let whole = rw (none, known) at so_far in
    sym (append-nil entries) ∙ whole ∙ found_all db up

pub found_is : (es : List (List ℕ × Value)) (p : List ℕ → Bool) (found : List (List ℕ)) (left all : List (List ℕ)) → found ++ filter p (left) ≡ filter p (all)
    → left ≡ [] → all ≡ keys_of es → found ≡ filter p (keys_of es)
found_is es p found left all so_far none every =
    let whole = rw (none, every) at so_far in
    sym (append-nil found) ∙ whole

-- ---- one entry more is copied

pub copied_one : (es : List (List ℕ × Value)) (i : ℕ) (k : List ℕ) (v : Value) (old new : List DbEntry) (key : List ℕ) (w : Value) → slice_get es i ≡ Some (k, v) → key ≡ k → w ≡ v
    → new ≡ put old key w → old ≡ of_entries (drop (i + 1) es) → new ≡ of_entries (drop i es)
copied_one es i k v old new key w at same_key same_value made before =
    let whole = drop-at es i (k, v) at in
    rw (whole, made, before, same_key, same_value, add-one) refl

-- How fields are made of fields.
use Rattle.std.proofs.Common.{◌≡◌, ℕ, ◌+◌, Bool, true, false, List, [], ◌++◌, length, get_or, Result, Ok, Err, refl, sym, ap, subst, ◌∙◌, append_assoc, length-append, arith, cond, eqb}
use Rattle.std.proofs.lemmas.List.{append-nil, get_or-drop, drop_at, nil_from_length}
use Rattle.std.proofs.lemmas.Bool.{eqb-true}
use Rattle.cg_codec.specs.declared.fault.CodecFault.{CodecFault}
use Rattle.cg_codec.specs.declared.fault.CodecFault.TheVariants.{Bad, Rest}
use Rattle.std.specs.Prelude.{Option, Some, None, is_some}
use Rattle.cg_codec.specs.Fields.{byte, truth, optional}
use Rattle.cg_codec.specs.Reading.{Unread, Reading, go_on, ◌>>=◌, done, passed, only, take_truth, take_optional, ended}
use Rattle.cg_codec.specs.Laws.{AreBytes, Took, Found, IsField, IsWhole, HasOptional}

-- ---- what was taken

-- the bytes that are left are bytes
pub Took-bytes : (old : Unread) (spelled : List ℕ) (new : Unread) → Took old spelled new →
    AreBytes old.bytes → AreBytes new.bytes
Took-bytes old spelled new took fits i =
    let place : get_or old.bytes (length spelled + i) 0 ≡ get_or new.bytes i 0 =
    rw took.bytes (sym (get_or-drop (length spelled) (spelled ++ new.bytes) i 0)
    ∙ ap (λ (bytes : List ℕ). get_or bytes i 0) (drop_at spelled new.bytes (length spelled) refl)) in
    rw (← place) (fits (length spelled + i))

-- one after the other
pub Took-then : (a : Unread) (x : List ℕ) (b : Unread) (y : List ℕ) (c : Unread) → Took a x b →
    Took b y c → Took a (x ++ y) c
Took-then a x b y c p q = record {
  bytes = p.bytes ∙ ap (λ (rest : List ℕ). x ++ rest) q.bytes ∙ sym (append_assoc x y c.bytes);
  at = omega (arith, p.at, q.at, length-append x y);
}

pub Took-none : (a : Unread) → Took a [] a
Took-none a = record { bytes = refl; at = omega arith }

-- ---- what a reading gave

-- which way a test went, where the other way is excluded
chosen : {R : Type 0} (b : Bool) (x z y : R) → (z ≡ y → ⊥) → cond b x z ≡ y → (b ≡ true) × (x ≡ y)
chosen true x z y never e = (refl, e)
chosen false x z y never e = absurd (never e)

-- the first field of a chain that was read whole
pub go_on-ok : {X Y : Type 0} (r : Result (X × Unread) CodecFault) (next : X → Reading Y) (y : Y) (new : Unread) →
    go_on r next ≡ Ok (y, new)
    → (x : X) × (mid : Unread) × (r ≡ Ok (x, mid)) × (next x mid ≡ Ok (y, new))
go_on-ok (Ok x) next y new e = (x.0, x.1, refl, e)
go_on-ok (Err fault) next y new e = absurd cc

abbrev pub gives : {X : Type 0} → X × Unread → Result (X × Unread) CodecFault
gives x = Ok x

pub same_pair : {X : Type 0} (x y : X × Unread) → gives x ≡ gives y → x ≡ y
same_pair x y e = cc

-- a value that was given is the value that was found, and so is what is left
pub given : {X : Type 0} (x y : X) (left new : Unread) → gives (x, left) ≡ Ok (y, new) → (x ≡ y) × (left ≡ new)
given {X = X} x y left new e =
    let p = same_pair (x, left) (y, new) e in
    (ap (λ (q : X × Unread). q.0) p, ap (λ (q : X × Unread). q.1) p)

-- a test that was passed
pub passed-ok : {X : Type 0} (test : X → Bool) (at : ℕ) (r : Result (X × Unread) CodecFault) (x : X) (new : Unread) →
    passed test at r ≡ Ok (x, new)
    → (r ≡ Ok (x, new)) × (test x ≡ true)
passed-ok {X = X} test at (Ok p) x new e =
    let g = chosen (test p.0) (gives p) (Err (Bad at)) (gives (x, new)) (λ k. cc) e in
    let same = same_pair p (x, new) g.1 in
    (g.1, rw (ap (λ (q : X × Unread). q.0) same) at g.0)
passed-ok test at (Err fault) x new e = absurd cc

-- ---- fields

-- nothing is spelled, and the value is known
pub field_done : {X : Type 0} (x : X) → IsField (λ (y : X). y ≡ x) (λ (y : X). []) (done x)
field_done {X = X} x = record {
  again = λ y at rest has. let e : done x (record { at = at; bytes = rest }) ≡
      Ok (y, record { at = at; bytes = rest }) = rw has refl in let n : at + 0 ≡ at = omega arith in rw n e;
  found = λ y old new fits e. let g = given x y old new e in
      record { has = sym g.0; took = rw (← g.1) (Took-none old) };
}

-- the same values, said in another way
pub field_has : {X : Type 0} (Has Has' : X → Type 0) (spelling : X → List ℕ) (reading : Reading X) →
    ((x : X) → Has x → Has' x) → ((x : X) → Has' x → Has x)
    → IsField Has spelling reading → IsField Has' spelling reading
field_has Has Has' spelling reading into back field = record {
  again = λ x at rest has. field.again x at rest (back x has);
  found = λ x old new fits e. let f = field.found x old new fits e in record { has = into x f.has; took = f.took };
}

-- the same spelling of the values that the field has, said in another way
pub field_says : {X : Type 0} (Has : X → Type 0) (spelling spelling' : X → List ℕ) (reading : Reading X) →
    ((x : X) → Has x → spelling x ≡ spelling' x)
    → IsField Has spelling reading → IsField Has spelling' reading
field_says Has spelling spelling' reading same field = record {
  again = λ x at rest has. rw (← same x has) (field.again x at rest has);
  found = λ x old new fits e. let f = field.found x old new fits e in
      record { has = f.has; took = rw (← same x f.has) f.took };
}

-- only the values that pass a test
pub field_only : {X : Type 0} (Has : X → Type 0) (spelling : X → List ℕ) (reading : Reading X) (test : X → Bool)
    → IsField Has spelling reading → IsField (λ (x : X). Has x × (test x ≡ true)) spelling (only test reading)
field_only Has spelling reading test field = record {
  again = λ x at rest has. rw (field.again x at rest has.0, has.1) refl;
  found = λ x old new fits e.
      let g = passed-ok test old.at (reading old) x new e in
      let f = field.found x old new fits g.0 in
      record { has = (f.has, g.1); took = f.took };
}

-- a first field that is a part of the whole value, and the other fields behind it
pub field_bind : {X Y : Type 0} (part : Y → X) (HasX : X → Type 0) (first : X →
    List ℕ) (reading : Reading X) (HasY : Y → Type 0) (others : Y → List ℕ) (next : X → Reading Y)
    → ((y : Y) → HasY y → HasX (part y)) → IsField HasX first reading →
    ((x : X) → HasX x → IsField (λ (y : Y). HasY y × (part y ≡ x)) others (next x))
    → IsField HasY (λ (y : Y). first (part y) ++ others y) (reading >>= next)
field_bind {X = X} {Y = Y} part HasX first reading HasY others next has_part field fields = record {
  again = λ y at rest has.
      let x = part y in
      let one = field.again x at (others y ++ rest) (has_part y has) in
      let two = (fields x (has_part y has)).again y (at + length (first x)) rest (has, refl) in
      let grouped : (first x ++ others y) ++ rest ≡ first x ++ (others y ++ rest) =
      append_assoc (first x) (others y) rest in
      let count : at + length (first x) + length (others y) ≡ at + length (first x ++ others y) =
      omega (arith, length-append (first x) (others y)) in
      rw (grouped, one, two, count) refl;
  found = λ y old new fits e.
      let step = go_on-ok (reading old) next y new e in
      let a = field.found step.0 old step.1 fits step.2 in
      let b = (fields step.0 a.has).found y step.1 new (Took-bytes old (first step.0) step.1 a.took fits) step.3 in
      let part_is = b.has.1 in
      record { has = b.has.0; took = rw part_is (Took-then old (first step.0) step.1 (others y) new a.took b.took) };
}

-- a fault that did not come
pub guarded : {X : Type 0} (b : Bool) (fault : CodecFault) (x y : X) (left new : Unread) →
    cond b (Err fault) (gives (x, left)) ≡ Ok (y, new) → (b ≡ false) × (x ≡ y) × (left ≡ new)
guarded true fault x y left new e = absurd cc
guarded false fault x y left new e = let g = given x y left new e in (refl, g.0, g.1)

-- a value that a first field stands for
pub field_map : {X Y : Type 0} (into : X → Y) (back : Y → X) (HasX : X → Type 0) (first : X →
    List ℕ) (reading : Reading X) (HasY : Y → Type 0)
    → ((y : Y) → HasY y → HasX (back y) × (into (back y) ≡ y)) →
    ((x : X) → HasX x → HasY (into x) × (back (into x) ≡ x))
    → IsField HasX first reading → IsField HasY (λ (y : Y). first (back y)) (reading >>= λ x. done (into x))
field_map {X = X} {Y = Y} into back HasX first reading HasY comes goes field = record {
  again = λ y at rest has.
      let one = field.again (back y) at rest (comes y has).0 in
      rw (one, (comes y has).1) refl;
  found = λ y old new fits e.
      let step = go_on-ok (reading old) (λ x. done (into x)) y new e in
      let a = field.found step.0 old step.1 fits step.2 in
      let known = goes step.0 a.has in
      let found : Found HasY (λ (y : Y). first (back y)) (into step.0) old step.1 =
      record { has = known.0; took = rw known.1 a.took } in
      subst (λ (p : Y × Unread). Found HasY (λ (y : Y). first (back y)) p.0 old p.1) (same_pair (
        into step.0,
        step.1,
      ) (y, new) step.3) found;
}

-- ---- a value that may be absent

abbrev inner : {X : Type 0} → (X → List ℕ) → Option X → List ℕ
inner spelling None = []
inner spelling (Some x) = spelling x

present_field : {X : Type 0} (Has : X → Type 0) (spelling : X → List ℕ) (item : Reading X) → IsField Has spelling item
    → IsField (λ (o : Option X). HasOptional Has o × (is_some o ≡ true)) (inner spelling) (item >>= λ x. done (Some x))
present_field {X = X} Has spelling item field = record {
  again = present_again;
  found = λ o old new fits e.
      let step = go_on-ok (item old) (λ x. done (Some x)) o new e in
      let a = field.found step.0 old step.1 fits step.2 in
      subst (λ (p : Option X × Unread). Found (λ (o : Option X). HasOptional Has o
      × (is_some o ≡ true)) (inner spelling) p.0 old p.1) (same_pair (Some step.0, step.1) (o, new) step.3)
      record { has = (a.has, refl); took = a.took };
}
  where
    present_again : (o : Option X) (at : ℕ) (rest : List ℕ) → HasOptional Has o × (is_some o ≡ true)
        → (item >>= λ x. done (Some x)) (record { at = at; bytes = inner spelling o ++ rest }) ≡
        Ok (o, record { at = at + length (inner spelling o); bytes = rest })
    present_again None at rest has = absurd cc
    present_again (Some x) at rest has = rw (field.again x at rest has.0) refl

absent_field : {X : Type 0} (Has : X → Type 0) (spelling : X → List ℕ) →
    IsField (λ (o : Option X). HasOptional Has o × (is_some o ≡ false)) (inner spelling) (done None)
absent_field {X = X} Has spelling = record {
  again = absent_again;
  found = λ o old new fits e.
      let g = given None o old new e in
      rw (← g.0, ← g.1) record { has = (tt, refl); took = Took-none old };
}
  where
    absent_again : (o : Option X) (at : ℕ) (rest : List ℕ) → HasOptional Has o × (is_some o ≡ false)
        → done None (record { at = at; bytes = inner spelling o ++ rest }) ≡
        Ok (o, record { at = at + length (inner spelling o); bytes = rest })
    absent_again None at rest has = let n : at + 0 ≡ at = omega arith in rw n refl
    absent_again (Some x) at rest has = absurd cc

optional_is : {X : Type 0} (spelling : X → List ℕ) (o : Option X) →
    truth (is_some o) ++ inner spelling o ≡ optional spelling o
unfolding truth byte
optional_is spelling None = refl
optional_is spelling (Some x) = refl

pub field_optional : {X : Type 0} (Has : X → Type 0) (spelling : X → List ℕ) (item : Reading X) →
    IsField (λ (b : Bool). Unit {0}) truth take_truth → IsField Has spelling item
    → IsField (HasOptional Has) (optional spelling) (take_optional item)
field_optional {X = X} Has spelling item truths field =
    field_says (HasOptional Has) (λ (o : Option X). truth (is_some o)
    ++ inner spelling o) (optional spelling) (take_optional item) (λ o _. optional_is spelling o)
    (field_bind is_some (λ (b : Bool). Unit {0}) truth
    take_truth (HasOptional Has) (inner spelling) (λ present. cond
    present (item >>= λ x. done (Some x)) (done None)) (λ o has. tt) truths by_presence)
  where
    by_presence : (b : Bool) → Unit {0} →
        IsField (λ (o : Option X). HasOptional Has o
        × (is_some o ≡ b)) (inner spelling) (cond b (item >>= λ x. done (Some x)) (done None))
    by_presence true u = present_field Has spelling item field
    by_presence false u = absent_field Has spelling

-- ---- all of the bytes

pub ended-ok : {X : Type 0} (r : Result (X × Unread) CodecFault) (x : X) → ended r ≡ Ok x →
    (new : Unread) × (r ≡ Ok (x, new)) × (new.bytes ≡ [])
ended-ok {X = X} (Ok p) x e =
    let g = last (eqb (length p.1.bytes) 0) p.0 x p.1.at e in
    let made : X × Unread = (x, p.1) in
    (p.1, ap gives (rw (← g.1) refl), nil_from_length p.1.bytes (eqb-true _ _ g.0))
  where
    last : (b : Bool) (y z : X) (at : ℕ) → cond b (Ok y) (Err (Rest at)) ≡ Ok z → (b ≡ true) × (y ≡ z)
    last true y z at f = (refl, cc)
    last false y z at f = absurd cc
ended-ok (Err fault) x e = absurd cc

-- a field that is all of the bytes
pub field_whole : {X : Type 0} (Has : X → Type 0) (spelling : X → List ℕ) (reading : Reading X) →
    IsField Has spelling reading → IsWhole Has spelling reading
field_whole Has spelling reading field = record {
  again = λ x has. let one = field.again x 0 [] has in let none : spelling x ++ [] ≡ spelling x =
      append-nil (spelling x) in let read = rw none at one in rw read refl;
  found = λ x bytes fits e.
      let g = ended-ok (reading (record { at = 0; bytes = bytes })) x e in
      let f = field.found x (record { at = 0; bytes = bytes }) g.0 fits g.1 in
      (f.has, f.took.bytes ∙ ap (λ (rest : List ℕ). spelling x ++ rest) g.2 ∙ append-nil (spelling x));
}

-- Fields of one, two and three parts, of a tag with what is behind it, and of a variant behind its tag.
use Rattle.std.proofs.Common.{◌≡◌, ℕ, ◌+◌, ◌<◌, ◌≤◌, List, [], ◌++◌, length, Ok, refl, sym, ap, subst, ◌∙◌, append_assoc, length-append, arith}
use Rattle.std.proofs.lemmas.List.{append-nil}
use Rattle.cg_codec.specs.Fields.{byte}
use Rattle.cg_codec.specs.Reading.{Unread, Reading, done, ◌>>=◌, byte_between}
use Rattle.cg_codec.specs.Laws.{Found, IsField, IsFrontOfNoOther}
use Rattle.cg_codec.specs.FieldLaws.{Took-bytes, Took-then, go_on-ok, same_pair, given, field_done, field_has, field_says, field_bind}
use Rattle.cg_codec.specs.PlainLaws.{between_field}

-- a field's spelling is the front of no other value's
pub field_front : {X : Type 0} (Has : X → Type 0) (spelling : X → List ℕ) (reading : Reading X) →
    IsField Has spelling reading → IsFrontOfNoOther Has spelling
field_front {X = X} Has spelling reading field x y rest x_has y_has front =
    let one = field.again x 0 rest x_has in
    let two = field.again y 0 [] y_has in
    let whole : spelling y ++ [] ≡ spelling x ++ rest = append-nil (spelling y) ∙ front in
    let other = rw whole at two in
    let g = given x y (record { at = 0 + length (spelling x); bytes = rest }) (record {
      at = 0 + length (spelling y);
      bytes = [];
    }) (sym one ∙ other) in
    (sym g.0, ap (λ (left : Unread). left.bytes) g.1)

-- a value made of one part
pub field_one : {X Y : Type 0} (into : X → Y) (part : Y → X) (HasX : X → Type 0) (first : X →
    List ℕ) (reading : Reading X) (HasY : Y → Type 0) (others : Y → List ℕ)
    → IsField HasX first reading
    → ((y : Y) → HasY y → HasX (part y) × (into (part y) ≡ y) × (first (part y) ≡ others y))
    → ((x : X) → HasX x → HasY (into x) × (part (into x) ≡ x))
    → IsField HasY others (reading >>= λ x. done (into x))
field_one into part HasX first reading HasY others field parts whole =
    field_says HasY (λ y. first (part y) ++ [])
    others (reading >>= λ x. done (into x)) (λ y has. append-nil (first (part y)) ∙ (parts y has).2)
    (field_bind part HasX first reading HasY (λ y. []) (λ x. done (into x)) (λ y has. (parts y has).0) field
    (λ x x_has. field_has (λ y. y ≡ into x) (λ y. HasY y × (part y ≡ x)) (λ y. []) (done (into x))
    (λ y e. rw e (whole x x_has)) (λ y has. sym (parts y has.0).1 ∙ ap into has.1) (field_done (into x))))

-- a value made of two parts
pub field_two : {A B Y : Type 0} (into : A → B → Y) (a : Y → A) (b : Y → B) (HasA : A → Type 0) (HasB : B →
    Type 0) (first : A → List ℕ) (second : B → List ℕ)
    (read_a : Reading A) (read_b : Reading B) (HasY : Y → Type 0) (others : Y → List ℕ)
    → IsField HasA first read_a → IsField HasB second read_b
    → ((y : Y) → HasY y → HasA (a y) × HasB (b y) × (into (a y) (b y) ≡ y) × (first (a y) ++ second (b y) ≡ others y))
    → ((x : A) (z : B) → HasA x → HasB z → HasY (into x z) × (a (into x z) ≡ x) × (b (into x z) ≡ z))
    → IsField HasY others (read_a >>= λ x. read_b >>= λ z. done (into x z))
field_two into a b HasA HasB first second read_a read_b HasY others field_a field_b parts whole =
    field_says HasY (λ y. first (a y) ++ second (b y))
    others (read_a >>= λ x. read_b >>= λ z. done (into x z)) (λ y has. (parts y has).3)
    (field_bind a HasA first read_a HasY (λ y. second (b y)) (λ x. read_b >>= λ z. done (into x z)) (λ y
    has. (parts y has).0) field_a
    (λ x x_has. field_one (λ z. into x z) b HasB second read_b (λ y. HasY y × (a y ≡ x)) (λ y. second (b y)) field_b
    (λ y has. ((parts y has.0).1, rw (← has.1) (parts y has.0).2, refl))
    (λ z z_has. let w = whole x z x_has z_has in ((w.0, w.1), w.2))))

-- a value made of three parts
pub field_three : {A B C Y : Type 0} (into : A → B → C → Y) (a : Y → A) (b : Y → B) (c : Y → C) (HasA : A →
    Type 0) (HasB : B → Type 0) (HasC : C → Type 0)
    (first : A → List ℕ) (second : B → List ℕ) (third : C →
    List ℕ) (read_a : Reading A) (read_b : Reading B) (read_c : Reading C) (HasY : Y → Type 0) (others : Y → List ℕ)
    → IsField HasA first read_a → IsField HasB second read_b → IsField HasC third read_c
    → ((y : Y) → HasY y → HasA (a y) × HasB (b y) × HasC (c y) × (into (a y) (b y) (c y) ≡ y)
    × (first (a y) ++ (second (b y) ++ third (c y)) ≡ others y))
    → ((x : A) (z : B) (w : C) → HasA x → HasB z → HasC w →
    HasY (into x z w) × (a (into x z w) ≡ x) × (b (into x z w) ≡ z) × (c (into x z w) ≡ w))
    → IsField HasY others (read_a >>= λ x. read_b >>= λ z. read_c >>= λ w. done (into x z w))
field_three into a b c HasA HasB HasC first second third read_a read_b read_c HasY others field_a
    field_b field_c parts whole =
    field_says HasY (λ y. first (a y) ++ (second (b y) ++ third (c y)))
    others (read_a >>= λ x. read_b >>= λ z. read_c >>= λ w. done (into x z w)) (λ y has. (parts y has).4)
    (field_bind a HasA first read_a HasY (λ y. second (b y)
    ++ third (c y)) (λ x. read_b >>= λ z. read_c >>= λ w. done (into x z w)) (λ y has. (parts y has).0) field_a
    (λ x x_has. field_two (λ z w. into x z w) b c HasB HasC second third read_b
    read_c (λ y. HasY y × (a y ≡ x)) (λ y. second (b y) ++ third (c y)) field_b field_c
    (λ y has. ((parts y has.0).1, (parts y has.0).2, rw (← has.1) (parts y has.0).3, refl))
    (λ z w z_has w_has. let m = whole x z w x_has z_has w_has in ((m.0, m.1), m.2, m.3))))

-- a tag, and what is behind it
pub field_tagged : {Y : Type 0} (tag : Y → ℕ) (low high : ℕ) (HasY : Y → Type 0) (behind : Y → List ℕ) (spelling : Y →
    List ℕ) (next : ℕ → Reading Y) → high < 256
    → ((y : Y) → HasY y → (low ≤ tag y) × (tag y ≤ high)) → ((y : Y) → HasY y → byte (tag y) ++ behind y ≡ spelling y)
    → ((n : ℕ) → low ≤ n → n ≤ high → IsField (λ y. HasY y × (tag y ≡ n)) behind (next n))
    → IsField HasY spelling (byte_between low high >>= next)
field_tagged tag low high HasY behind spelling next small tags spelled fields =
    field_says HasY (λ y. byte (tag y) ++ behind y) spelling (byte_between low high >>= next) spelled
    (field_bind tag (λ n. (low ≤ n) × (n ≤ high)) byte (byte_between low high) HasY behind next
    tags (between_field low high small) (λ n has. fields n has.0 has.1))

-- a variant with one part
pub variant_of_one : {X Y : Type 0} (into : X → Y) (HasX : X → Type 0) (first : X →
    List ℕ) (reading : Reading X) (HasY : Y → Type 0) (spelling : Y → List ℕ)
    → IsField HasX first reading
    → ((x : X) → HasX x → HasY (into x) × (spelling (into x) ≡ first x))
    → ((y : Y) → HasY y → (x : X) × HasX x × (into x ≡ y))
    → IsField HasY spelling (reading >>= λ x. done (into x))
variant_of_one {X = X} {Y = Y} into HasX first reading HasY spelling field goes comes = record {
  again = λ y at rest has.
      let g = comes y has in
      let known = goes g.0 g.1 in
      let one = field.again g.0 at rest g.1 in
      subst (λ (v : Y). (reading >>= λ x. done (into x)) (record { at = at; bytes = spelling v ++ rest }) ≡
      Ok (v, record { at = at + length (spelling v); bytes = rest })) g.2 (rw (known.1, one) refl);
  found = λ y old new fits e.
      let step = go_on-ok (reading old) (λ x. done (into x)) y new e in
      let a = field.found step.0 old step.1 fits step.2 in
      let known = goes step.0 a.has in
      let found : Found HasY spelling (into step.0) old step.1 = record { has = known.0; took = rw known.1 a.took } in
      subst (λ (p : Y × Unread). Found HasY spelling p.0 old p.1) (same_pair (
        into step.0,
        step.1,
      ) (y, new) step.3) found;
}

-- a variant with two parts
pub variant_of_two : {A B Y : Type 0} (into : A → B → Y) (HasA : A → Type 0) (HasB : B → Type 0) (first : A →
    List ℕ) (second : B → List ℕ)
    (read_a : Reading A) (read_b : Reading B) (HasY : Y → Type 0) (spelling : Y → List ℕ)
    → IsField HasA first read_a → IsField HasB second read_b
    → ((x : A) (z : B) → HasA x → HasB z → HasY (into x z) × (spelling (into x z) ≡ first x ++ second z))
    → ((y : Y) → HasY y → (x : A) × (z : B) × HasA x × HasB z × (into x z ≡ y))
    → IsField HasY spelling (read_a >>= λ x. read_b >>= λ z. done (into x z))
variant_of_two {A = A} {B = B} {Y = Y} into HasA HasB first second read_a read_b HasY spelling field_a
    field_b goes comes = record {
      again = λ y at rest has.
          let g = comes y has in
          let x = g.0 in
          let z = g.1 in
          let known = goes x z g.2 g.3 in
          let one = field_a.again x at (second z ++ rest) g.2 in
          let two = field_b.again z (at + length (first x)) rest g.3 in
          let grouped : (first x ++ second z) ++ rest ≡ first x ++ (second z ++ rest) =
          append_assoc (first x) (second z) rest in
          let count : at + length (first x) + length (second z) ≡ at + length (first x ++ second z) =
          omega (arith, length-append (first x) (second z)) in
          subst (λ (v : Y). (read_a >>= λ p. read_b >>= λ q. done (into p q)) (record {
            at = at;
            bytes = spelling v ++ rest;
          }) ≡ Ok (v, record { at = at + length (spelling v); bytes = rest })) g.4
          (rw (known.1, grouped, one, two, count) refl);
      found = λ y old new fits e.
          let step = go_on-ok (read_a old) (λ x. read_b >>= λ z. done (into x z)) y new e in
          let a = field_a.found step.0 old step.1 fits step.2 in
          let last = go_on-ok (read_b step.1) (λ z. done (into step.0 z)) y new step.3 in
          let b = field_b.found last.0 step.1 last.1 (Took-bytes old (first step.0) step.1 a.took fits) last.2 in
          let known = goes step.0 last.0 a.has b.has in
          let both = Took-then old (first step.0) step.1 (second last.0) last.1 a.took b.took in
          let found : Found HasY spelling (into step.0 last.0) old last.1 =
          record { has = known.0; took = rw known.1 both } in
          subst (λ (p : Y × Unread). Found HasY spelling p.0 old p.1) (same_pair (
            into step.0 last.0,
            last.1,
          ) (y, new) last.3) found;
    }

-- Names of actions, keys and values as fields.
use Rattle.std.proofs.Common.{◌≡◌, ℕ, zero, suc, ◌<◌, ◌≤◌, ◌^◌, true, List, [], ◌++◌, length, refl, arith, rules}
use Rattle.std.proofs.lemmas.List.{append-nil}
use Rattle.std.specs.Prelude.{ℤ, pos, negsuc, ◌≤ℤ◌, FitsSigned, Option, Some, None}
use Rattle.std.specs.Int.{w64}
use Rattle.std.specs.Str.{IsUtf8}
use Rattle.cg_base.specs.declared.limits.TheConstants.{NUMBER_LIMIT}
use Rattle.cg_base.specs.Sets.{IsId}
use Rattle.cg_base.specs.declared.action_id.ActionId.{ActionId}
use Rattle.cg_codec.specs.Fields.{byte, number64, signed64, text}
use Rattle.cg_codec.specs.Reading.{done, take_u64, take_i64, take_text, ◌>>=◌, byte_between}
use Rattle.cg_codec.specs.Laws.{IsField}
use Rattle.cg_codec.specs.FieldLaws.{field_done, field_has, field_only, field_says}
use Rattle.cg_codec.specs.PlainLaws.{u64_field, i64_field, text_field, between_field}
use Rattle.cg_codec.specs.ShapeLaws.{field_one, field_two, field_tagged}
use Rattle.cg_action.specs.declared.value.Value.{Value}
use Rattle.cg_action.specs.declared.value.Value.TheVariants.{Text, Int}
use Rattle.cg_action.specs.Limits.{IsTextWithin}
use Rattle.cg_action.specs.ActionLimits.{IsKey, IsValue, IsWant, IsActionId}
use Rattle.cg_codec.specs.Fields.{spelled_id}
use Rattle.cg_action.specs.Bytes.{spelled_value, spelled_want}
use Rattle.cg_action.specs.Reading.{is_number, number_from, id_reading, is_key, key_reading, value_of_tag, value_reading, want_of_tag, want_reading, is_amount, amount_reading}

-- a number of at least low, below 2 ^ 63
pub number_field : (low : ℕ) → IsField (λ n. (low ≤ n) × (n < NUMBER_LIMIT)) number64 (number_from low)
unfolding number_from
number_field low =
    field_has (λ n. (n < 2 ^ 64) × (is_number low n ≡ true)) (λ n. (low ≤ n) × (n < NUMBER_LIMIT)) number64 (number_from low)
    (λ n has. into low n has.1) (λ n has. (omega arith, back low n has.0 has.1)) (field_only (λ n. n < 2 ^ 64) number64
    take_u64 (is_number low) u64_field)
  where
    into : (low n : ℕ) → is_number low n ≡ true → (low ≤ n) × (n < NUMBER_LIMIT)
    into low n e = grind arith

    back : (low n : ℕ) → low ≤ n → n < NUMBER_LIMIT → is_number low n ≡ true
    back low n l h = grind arith

-- a replica's identifier
pub replica_field : IsField IsId byte (byte_between 1 32)
replica_field = between_field 1 32 (omega arith)

named : ℕ → ℕ → ActionId
named creator index = record { creator = creator; index = index }

pub id_field : IsField IsActionId spelled_id id_reading
unfolding id_reading named
id_field =
    field_two named (λ id. id.creator) (λ id. id.index) IsId (λ n. (1 ≤ n) × (n < NUMBER_LIMIT)) byte
    number64 (byte_between 1 32) (number_from 1) IsActionId spelled_id
    replica_field (number_field 1)
    (λ id has. (has.creator, (has.from_one, has.below), refl, refl))
    (λ creator index c i. (record { creator = c; from_one = i.0; below = i.1 }, refl, refl))

pub key_field : IsField IsKey text key_reading
unfolding key_reading
key_field =
    field_has (λ t. (IsUtf8 t × (length t ≤ 64)) × (is_key t ≡ true)) IsKey text key_reading
    (λ t has. (has.0.0, into t has.1, has.0.1)) (λ t has. ((has.0, has.2), back t has.1))
    (field_only (λ t. IsUtf8 t × (length t ≤ 64)) text (take_text 64) is_key (text_field 64 (omega arith)))
  where
    into : (t : List ℕ) → is_key t ≡ true → 1 ≤ length t
    into t e = grind arith

    back : (t : List ℕ) → 1 ≤ length t → is_key t ≡ true
    back t h = grind arith

pub text_within_field : (max : ℕ) → max < 2 ^ 32 → IsField (IsTextWithin 0 max) text (take_text max)
text_within_field max small =
    field_has (λ t. IsUtf8 t × (length t ≤ max)) (IsTextWithin 0 max)
    text (take_text max) (λ t has. (has.0, omega arith, has.1)) (λ t has. (has.0, has.2)) (text_field max small)

-- ---- values

abbrev value_tag : Value → ℕ
value_tag (Text t) = 1
value_tag (Int n) = 2

abbrev value_behind : Value → List ℕ
value_behind (Text t) = text t
value_behind (Int n) = signed64 n

abbrev text_in : Value → List ℕ
text_in (Text t) = t
text_in (Int n) = []

abbrev number_in : Value → ℤ
number_in (Text t) = pos 0
number_in (Int n) = n

text_value_field : IsField (λ v. IsValue v × (value_tag v ≡ 1)) value_behind (take_text 1024 >>= λ t. done (Text t))
text_value_field =
    field_one Text text_in (IsTextWithin 0 1024) text (take_text 1024) (λ v. IsValue v × (value_tag v ≡ 1))
    value_behind (text_within_field 1024 (omega arith)) parts (λ t has. ((has, refl), refl))
  where
    parts : (v : Value) → IsValue v × (value_tag v ≡ 1) →
        IsTextWithin 0 1024 (text_in v) × (Text (text_in v) ≡ v) × (text (text_in v) ≡ value_behind v)
    parts (Text t) has = (has.0, refl, refl)
    parts (Int n) has = absurd (omega arith)

int_value_field : IsField (λ v. IsValue v × (value_tag v ≡ 2)) value_behind (take_i64 >>= λ n. done (Int n))
int_value_field =
    field_one Int number_in (FitsSigned w64) signed64 take_i64 (λ v. IsValue v × (value_tag v ≡ 2)) value_behind
    i64_field parts (λ n has. ((has, refl), refl))
  where
    parts : (v : Value) → IsValue v × (value_tag v ≡ 2) →
        FitsSigned w64 (number_in v) × (Int (number_in v) ≡ v) × (signed64 (number_in v) ≡ value_behind v)
    parts (Text t) has = absurd (omega arith)
    parts (Int n) has = (has.0, refl, refl)

-- a value behind its tag
value_of_tag_field : (tag : ℕ) → 1 ≤ tag → tag ≤ 2 →
    IsField (λ v. IsValue v × (value_tag v ≡ tag)) value_behind (value_of_tag tag)
unfolding value_of_tag
value_of_tag_field zero low high = absurd (omega arith)
value_of_tag_field (suc zero) low high = text_value_field
value_of_tag_field (suc (suc zero)) low high = int_value_field
value_of_tag_field (suc (suc (suc n))) low high = absurd (omega arith)

value_tags : (v : Value) → IsValue v → (1 ≤ value_tag v) × (value_tag v ≤ 2)
value_tags (Text t) has = (omega arith, omega arith)
value_tags (Int n) has = (omega arith, omega arith)

value_is : (v : Value) → IsValue v → byte (value_tag v) ++ value_behind v ≡ spelled_value v
value_is (Text t) has = refl
value_is (Int n) has = refl

pub value_field : IsField IsValue spelled_value value_reading
unfolding value_reading
value_field = field_tagged value_tag 1 2 IsValue value_behind spelled_value value_of_tag (omega arith) value_tags
    value_is value_of_tag_field

-- ---- a value or none

abbrev want_tag : Option Value → ℕ
want_tag None = 0
want_tag (Some v) = value_tag v

abbrev want_behind : Option Value → List ℕ
want_behind None = []
want_behind (Some v) = value_behind v

abbrev value_or : Option Value → Value
value_or None = Int (pos 0)
value_or (Some v) = v

absent_field : IsField (λ w. IsWant w × (want_tag w ≡ 0)) want_behind (done None)
absent_field =
    field_says (λ w. IsWant w × (want_tag w ≡ 0)) (λ w. []) want_behind (done None) nothing_behind
    (field_has (λ w. w ≡ None) (λ w. IsWant w × (want_tag w ≡ 0)) (λ w. []) (done None) (λ w e. rw e (tt, refl))
    is_none (field_done None))
  where
    is_none : (w : Option Value) → IsWant w × (want_tag w ≡ 0) → w ≡ None
    is_none None has = refl
    is_none (Some v) has = absurd (omega (arith, (value_tags v has.0).0))

    nothing_behind : (w : Option Value) → IsWant w × (want_tag w ≡ 0) → [] ≡ want_behind w
    nothing_behind w has = rw (is_none w has) refl

present_field : (tag : ℕ) → 1 ≤ tag → tag ≤ 2 →
    IsField (λ w. IsWant w × (want_tag w ≡ tag)) want_behind (value_of_tag tag >>= λ v. done (Some v))
present_field tag low high =
    field_one Some value_or (λ v. IsValue v × (value_tag v ≡ tag)) value_behind (value_of_tag tag) (λ w. IsWant w
    × (want_tag w ≡ tag)) want_behind (value_of_tag_field tag low high) (parts tag low) (λ v has. (has, refl))
  where
    parts : (tag : ℕ) → 1 ≤ tag → (w : Option Value) → IsWant w × (want_tag w ≡ tag)
        → (IsValue (value_or w) × (value_tag (value_or w) ≡ tag)) × (Some (value_or w) ≡ w)
        × (value_behind (value_or w) ≡ want_behind w)
    parts tag low None has = absurd (omega arith)
    parts tag low (Some v) has = (has, refl, refl)

want_of_tag_field : (tag : ℕ) → 0 ≤ tag → tag ≤ 2 →
    IsField (λ w. IsWant w × (want_tag w ≡ tag)) want_behind (want_of_tag tag)
unfolding want_of_tag
want_of_tag_field zero low high = absent_field
want_of_tag_field (suc zero) low high = present_field 1 (omega arith) high
want_of_tag_field (suc (suc zero)) low high = present_field 2 (omega arith) high
want_of_tag_field (suc (suc (suc n))) low high = absurd (omega arith)

want_tags : (w : Option Value) → IsWant w → (0 ≤ want_tag w) × (want_tag w ≤ 2)
want_tags None has = (omega arith, omega arith)
want_tags (Some v) has = (omega arith, (value_tags v has).1)

want_is : (w : Option Value) → IsWant w → byte (want_tag w) ++ want_behind w ≡ spelled_want w
want_is None has = append-nil (byte 0)
want_is (Some v) has = value_is v has

pub want_field : IsField IsWant spelled_want want_reading
unfolding want_reading
want_field = field_tagged want_tag 0 2 IsWant want_behind spelled_want want_of_tag (omega arith) want_tags
    want_is want_of_tag_field

-- ---- amounts

pub amount_field : IsField (λ n. FitsSigned w64 n × (pos 0 ≤ℤ n)) signed64 amount_reading
unfolding amount_reading
amount_field =
    field_has (λ n. FitsSigned w64 n × (is_amount n ≡ true)) (λ n. FitsSigned w64 n
    × (pos 0 ≤ℤ n)) signed64 amount_reading
    (λ n has. (has.0, into n has.1)) (λ n has. (has.0, back n has.1)) (field_only (FitsSigned w64) signed64
    take_i64 is_amount i64_field)
  where
    into : (n : ℤ) → is_amount n ≡ true → pos 0 ≤ℤ n
    into (pos n) e = search (rules, arith)
    into (negsuc n) e = absurd cc

    back : (n : ℤ) → pos 0 ≤ℤ n → is_amount n ≡ true
    back (pos n) h = refl
    back (negsuc n) h = absurd (search (rules, arith))

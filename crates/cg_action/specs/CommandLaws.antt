-- Commands and queries as fields.
use Rattle.std.proofs.Common.{◌≡◌, ℕ, zero, suc, ◌≤◌, List, [], ◌++◌, refl, append_assoc, arith}
use Rattle.std.proofs.lemmas.List.{append-nil}
use Rattle.std.specs.Prelude.{ℤ, pos, ◌≤ℤ◌, FitsSigned, Option, None}
use Rattle.std.specs.Int.{w64}
use Rattle.cg_codec.specs.Fields.{byte, signed64, text}
use Rattle.cg_codec.specs.Reading.{done, take_i64, take_text, ◌>>=◌}
use Rattle.cg_codec.specs.Laws.{IsField}
use Rattle.cg_codec.specs.FieldLaws.{field_done, field_has, field_says}
use Rattle.cg_codec.specs.PlainLaws.{i64_field}
use Rattle.cg_codec.specs.ShapeLaws.{field_one, field_two, field_three, field_tagged}
use Rattle.cg_action.specs.declared.value.Value.{Value}
use Rattle.cg_action.specs.declared.value.Value.TheVariants.{Int}
use Rattle.cg_action.specs.declared.command.Cmd.{Cmd}
use Rattle.cg_action.specs.declared.command.Cmd.TheVariants.{Put, Del, Inc, Cas, Move, Need}
use Rattle.cg_action.specs.declared.query.Query.{Query}
use Rattle.cg_action.specs.declared.query.Query.TheVariants.{Get, Keys, Count}
use Rattle.cg_action.specs.Limits.{IsQuery}
use Rattle.cg_action.specs.ActionLimits.{IsKey, IsPrefix, IsValue, IsWant, IsCommand}
use Rattle.cg_action.specs.Bytes.{spelled_value, spelled_want, spelled_command, spelled_query}
use Rattle.cg_action.specs.Reading.{key_reading, value_reading, want_reading, amount_reading, put_reading, del_reading, inc_reading, cas_reading, move_reading, need_reading, command_of_tag, command_reading, query_of_tag, query_reading}
use Rattle.cg_action.specs.ValueLaws.{key_field, text_within_field, value_field, want_field, amount_field}

abbrev command_tag : Cmd → ℕ
command_tag (Put key value) = 1
command_tag (Del key) = 2
command_tag (Inc key by) = 3
command_tag (Cas key want value) = 4
command_tag (Move source target amount) = 5
command_tag (Need key want) = 6

abbrev command_behind : Cmd → List ℕ
command_behind (Put key value) = text key ++ spelled_value value
command_behind (Del key) = text key
command_behind (Inc key by) = text key ++ signed64 by
command_behind (Cas key want value) = text key ++ (spelled_want want ++ spelled_value value)
command_behind (Move source target amount) = text source ++ (text target ++ signed64 amount)
command_behind (Need key want) = text key ++ spelled_want want

-- a command of one kind
abbrev IsOf : ℕ → Cmd → Type 0
IsOf tag cmd = IsCommand cmd × (command_tag cmd ≡ tag)

-- the parts of a command; where it has none, any value
abbrev key_in : Cmd → List ℕ
key_in (Put key value) = key
key_in (Del key) = key
key_in (Inc key by) = key
key_in (Cas key want value) = key
key_in (Move source target amount) = source
key_in (Need key want) = key

abbrev value_in : Cmd → Value
value_in (Put key value) = value
value_in (Cas key want value) = value
value_in other = Int (pos 0)

abbrev want_in : Cmd → Option Value
want_in (Cas key want value) = want
want_in (Need key want) = want
want_in other = None

abbrev number_in : Cmd → ℤ
number_in (Inc key by) = by
number_in (Move source target amount) = amount
number_in other = pos 0

abbrev target_in : Cmd → List ℕ
target_in (Move source target amount) = target
target_in other = []

put_field : IsField (IsOf 1) command_behind put_reading
unfolding put_reading
put_field = field_two Put key_in value_in IsKey IsValue text spelled_value key_reading value_reading (IsOf 1)
    command_behind key_field value_field parts (λ k v kh vh. (((kh, vh), refl), refl, refl))
  where
    parts : (c : Cmd) → IsOf 1 c → IsKey (key_in c) × IsValue (value_in c) × (Put (key_in c) (value_in c) ≡ c)
        × (text (key_in c) ++ spelled_value (value_in c) ≡ command_behind c)
    parts (Put key value) has = (has.0.0, has.0.1, refl, refl)
    parts (Del key) has = absurd (omega arith)
    parts (Inc key by) has = absurd (omega arith)
    parts (Cas key want value) has = absurd (omega arith)
    parts (Move source target amount) has = absurd (omega arith)
    parts (Need key want) has = absurd (omega arith)

del_field : IsField (IsOf 2) command_behind del_reading
unfolding del_reading
del_field = field_one Del key_in IsKey text key_reading (IsOf 2) command_behind key_field
    parts (λ k kh. ((kh, refl), refl))
  where
    parts : (c : Cmd) → IsOf 2 c → IsKey (key_in c) × (Del (key_in c) ≡ c) × (text (key_in c) ≡ command_behind c)
    parts (Put key value) has = absurd (omega arith)
    parts (Del key) has = (has.0, refl, refl)
    parts (Inc key by) has = absurd (omega arith)
    parts (Cas key want value) has = absurd (omega arith)
    parts (Move source target amount) has = absurd (omega arith)
    parts (Need key want) has = absurd (omega arith)

inc_field : IsField (IsOf 3) command_behind inc_reading
unfolding inc_reading
inc_field = field_two Inc key_in number_in IsKey (FitsSigned w64) text signed64 key_reading take_i64 (IsOf 3)
    command_behind key_field i64_field parts (λ k n kh nh. (((kh, nh), refl), refl, refl))
  where
    parts : (c : Cmd) → IsOf 3 c → IsKey (key_in c) × FitsSigned w64 (number_in c) × (Inc (key_in c) (number_in c) ≡ c)
        × (text (key_in c) ++ signed64 (number_in c) ≡ command_behind c)
    parts (Put key value) has = absurd (omega arith)
    parts (Del key) has = absurd (omega arith)
    parts (Inc key by) has = (has.0.0, has.0.1, refl, refl)
    parts (Cas key want value) has = absurd (omega arith)
    parts (Move source target amount) has = absurd (omega arith)
    parts (Need key want) has = absurd (omega arith)

cas_field : IsField (IsOf 4) command_behind cas_reading
unfolding cas_reading
cas_field =
    field_three Cas key_in want_in value_in IsKey IsWant IsValue text spelled_want spelled_value key_reading
    want_reading value_reading (IsOf 4) command_behind key_field want_field value_field parts
    (λ k w v kh wh vh. (((kh, wh, vh), refl), refl, refl, refl))
  where
    parts : (c : Cmd) → IsOf 4 c → IsKey (key_in c) × IsWant (want_in c) × IsValue (value_in c)
        × (Cas (key_in c) (want_in c) (value_in c) ≡ c)
        × (text (key_in c) ++ (spelled_want (want_in c) ++ spelled_value (value_in c)) ≡ command_behind c)
    parts (Put key value) has = absurd (omega arith)
    parts (Del key) has = absurd (omega arith)
    parts (Inc key by) has = absurd (omega arith)
    parts (Cas key want value) has = (has.0.0, has.0.1, has.0.2, refl, refl)
    parts (Move source target amount) has = absurd (omega arith)
    parts (Need key want) has = absurd (omega arith)

move_field : IsField (IsOf 5) command_behind move_reading
unfolding move_reading
move_field =
    field_three Move key_in target_in number_in IsKey IsKey (λ n. FitsSigned w64 n × (pos 0 ≤ℤ n)) text text signed64
    key_reading key_reading amount_reading (IsOf 5) command_behind key_field key_field amount_field parts
    (λ s t n sh th nh. (((sh, th, nh.0, nh.1), refl), refl, refl, refl))
  where
    parts : (c : Cmd) → IsOf 5 c → IsKey (key_in c) × IsKey (target_in c)
        × (FitsSigned w64 (number_in c) × (pos 0 ≤ℤ number_in c)) × (Move (key_in c) (target_in c) (number_in c) ≡ c)
        × (text (key_in c) ++ (text (target_in c) ++ signed64 (number_in c)) ≡ command_behind c)
    parts (Put key value) has = absurd (omega arith)
    parts (Del key) has = absurd (omega arith)
    parts (Inc key by) has = absurd (omega arith)
    parts (Cas key want value) has = absurd (omega arith)
    parts (Move source target amount) has = (has.0.0, has.0.1, (has.0.2, has.0.3), refl, refl)
    parts (Need key want) has = absurd (omega arith)

need_field : IsField (IsOf 6) command_behind need_reading
unfolding need_reading
need_field = field_two Need key_in want_in IsKey IsWant text spelled_want key_reading want_reading (IsOf 6)
    command_behind key_field want_field parts (λ k w kh wh. (((kh, wh), refl), refl, refl))
  where
    parts : (c : Cmd) → IsOf 6 c → IsKey (key_in c) × IsWant (want_in c) × (Need (key_in c) (want_in c) ≡ c)
        × (text (key_in c) ++ spelled_want (want_in c) ≡ command_behind c)
    parts (Put key value) has = absurd (omega arith)
    parts (Del key) has = absurd (omega arith)
    parts (Inc key by) has = absurd (omega arith)
    parts (Cas key want value) has = absurd (omega arith)
    parts (Move source target amount) has = absurd (omega arith)
    parts (Need key want) has = (has.0.0, has.0.1, refl, refl)

command_of_tag_field : (tag : ℕ) → 1 ≤ tag → tag ≤ 6 → IsField (IsOf tag) command_behind (command_of_tag tag)
unfolding command_of_tag
command_of_tag_field zero low high = absurd (omega arith)
command_of_tag_field (suc zero) low high = put_field
command_of_tag_field (suc (suc zero)) low high = del_field
command_of_tag_field (suc (suc (suc zero))) low high = inc_field
command_of_tag_field (suc (suc (suc (suc zero)))) low high = cas_field
command_of_tag_field (suc (suc (suc (suc (suc zero))))) low high = move_field
command_of_tag_field (suc (suc (suc (suc (suc (suc zero)))))) low high = need_field
command_of_tag_field (suc (suc (suc (suc (suc (suc (suc n))))))) low high = absurd (omega arith)

command_tags : (c : Cmd) → IsCommand c → (1 ≤ command_tag c) × (command_tag c ≤ 6)
command_tags (Put key value) has = (omega arith, omega arith)
command_tags (Del key) has = (omega arith, omega arith)
command_tags (Inc key by) has = (omega arith, omega arith)
command_tags (Cas key want value) has = (omega arith, omega arith)
command_tags (Move source target amount) has = (omega arith, omega arith)
command_tags (Need key want) has = (omega arith, omega arith)

command_is : (c : Cmd) → IsCommand c → byte (command_tag c) ++ command_behind c ≡ spelled_command c
command_is (Put key value) has = simp append_assoc
command_is (Del key) has = refl
command_is (Inc key by) has = simp append_assoc
command_is (Cas key want value) has = simp append_assoc
command_is (Move source target amount) has = simp append_assoc
command_is (Need key want) has = simp append_assoc

pub command_field : IsField IsCommand spelled_command command_reading
unfolding command_reading
command_field = field_tagged command_tag 1 6 IsCommand command_behind spelled_command command_of_tag (omega arith)
    command_tags command_is command_of_tag_field

-- ---- queries

abbrev query_tag : Query → ℕ
query_tag (Get key) = 1
query_tag (Keys prefix) = 2
query_tag Count = 3

abbrev query_behind_tag : Query → List ℕ
query_behind_tag (Get key) = text key
query_behind_tag (Keys prefix) = text prefix
query_behind_tag Count = []

abbrev text_in : Query → List ℕ
text_in (Get key) = key
text_in (Keys prefix) = prefix
text_in Count = []

abbrev Asks : ℕ → Query → Type 0
Asks tag q = IsQuery q × (query_tag q ≡ tag)

get_field : IsField (Asks 1) query_behind_tag (key_reading >>= λ key. done (Get key))
get_field = field_one Get text_in IsKey text key_reading (Asks 1) query_behind_tag key_field
    parts (λ t has. ((has, refl), refl))
  where
    parts : (q : Query) → Asks 1 q → IsKey (text_in q) × (Get (text_in q) ≡ q) × (text (text_in q) ≡ query_behind_tag q)
    parts (Get key) has = (has.0, refl, refl)
    parts (Keys prefix) has = absurd (omega arith)
    parts Count has = absurd (omega arith)

keys_field : IsField (Asks 2) query_behind_tag (take_text 64 >>= λ prefix. done (Keys prefix))
keys_field = field_one Keys text_in IsPrefix text (take_text 64) (Asks 2)
    query_behind_tag (text_within_field 64 (omega arith)) parts (λ t has. ((has, refl), refl))
  where
    parts : (q : Query) → Asks 2 q → IsPrefix (text_in q) × (Keys (text_in q) ≡ q)
        × (text (text_in q) ≡ query_behind_tag q)
    parts (Get key) has = absurd (omega arith)
    parts (Keys prefix) has = (has.0, refl, refl)
    parts Count has = absurd (omega arith)

count_query_field : IsField (Asks 3) query_behind_tag (done Count)
count_query_field =
    field_says (Asks 3) (λ q. []) query_behind_tag (done Count) nothing_behind
    (field_has (λ q. q ≡ Count) (Asks 3) (λ q. []) (done Count) (λ q e. rw e (tt, refl)) is_count (field_done Count))
  where
    is_count : (q : Query) → Asks 3 q → q ≡ Count
    is_count (Get key) has = absurd (omega arith)
    is_count (Keys prefix) has = absurd (omega arith)
    is_count Count has = refl

    nothing_behind : (q : Query) → Asks 3 q → [] ≡ query_behind_tag q
    nothing_behind q has = rw (is_count q has) refl

query_of_tag_field : (tag : ℕ) → 1 ≤ tag → tag ≤ 3 → IsField (Asks tag) query_behind_tag (query_of_tag tag)
unfolding query_of_tag
query_of_tag_field zero low high = absurd (omega arith)
query_of_tag_field (suc zero) low high = get_field
query_of_tag_field (suc (suc zero)) low high = keys_field
query_of_tag_field (suc (suc (suc zero))) low high = count_query_field
query_of_tag_field (suc (suc (suc (suc n)))) low high = absurd (omega arith)

query_tags : (q : Query) → IsQuery q → (1 ≤ query_tag q) × (query_tag q ≤ 3)
query_tags (Get key) has = (omega arith, omega arith)
query_tags (Keys prefix) has = (omega arith, omega arith)
query_tags Count has = (omega arith, omega arith)

query_is : (q : Query) → IsQuery q → byte (query_tag q) ++ query_behind_tag q ≡ spelled_query q
query_is (Get key) has = refl
query_is (Keys prefix) has = refl
query_is Count has = append-nil (byte 3)

pub query_field : IsField IsQuery spelled_query query_reading
unfolding query_reading
query_field = field_tagged query_tag 1 3 IsQuery query_behind_tag spelled_query query_of_tag (omega arith) query_tags
    query_is query_of_tag_field

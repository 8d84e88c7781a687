-- Messages as fields: a tag and what is behind it.
use Rattle.std.proofs.Common.{◌≡◌, ℕ, zero, suc, ◌≤◌, List, ◌++◌, Result, Ok, Err, refl, arith}
use Rattle.cg_base.specs.Sets.{IsId}
use Rattle.cg_codec.specs.declared.fault.CodecFault.{CodecFault}
use Rattle.cg_codec.specs.Fields.{byte, number64}
use Rattle.cg_codec.specs.Reading.{whole}
use Rattle.cg_codec.specs.Taking.{Decodes}
use Rattle.cg_codec.specs.Laws.{IsField, IsWhole, AreBytes}
use Rattle.cg_codec.specs.FieldLaws.{field_whole}
use Rattle.cg_codec.specs.ShapeLaws.{field_tagged, variant_of_one, variant_of_two}
use Rattle.cg_action.specs.declared.action.Action.{Action as ActionValue}
use Rattle.cg_action.specs.ActionLimits.{IsAction}
use Rattle.cg_action.specs.Bytes.{spelled_action}
use Rattle.cg_action.specs.Reading.{action_reading}
use Rattle.cg_records.specs.Limits.{IsNumber}
use Rattle.cg_records.specs.Reading.{take_number, take_id_above}
use Rattle.cg_records.specs.RecordLaws.{any_id_field, number_field}
use Rattle.cg_knowledge.specs.declared.summary.Summary.{Summary}
use Rattle.cg_wire.specs.declared.message.Msg.{Msg}
use Rattle.cg_wire.specs.declared.message.Msg.TheVariants.{Action, State, GreenItem, RedItem, Cpc}
use Rattle.cg_wire.specs.Limits.{IsSummary, IsMsg}
use Rattle.cg_wire.specs.Bytes.{spelled_summary, spelled_msg}
use Rattle.cg_wire.specs.Reading.{summary_reading, green_item_reading, red_item_reading, item_of_tag, item_reading, action_msg_reading, state_reading, cpc_reading, msg_of_tag, msg_reading}
use Rattle.cg_wire.specs.Laws.{GivesSpelled}
use Rattle.cg_wire.proofs.SummaryFields.{summary_field}

-- ---- the tags, and what is behind them

abbrev msg_tag : Msg → ℕ
msg_tag (Action action) = 1
msg_tag (State s) = 2
msg_tag (GreenItem at action) = 3
msg_tag (RedItem action) = 3
msg_tag (Cpc id conf) = 4

abbrev msg_behind : Msg → List ℕ
msg_behind (Action action) = spelled_action action
msg_behind (State s) = spelled_summary s
msg_behind (GreenItem at action) = byte 1 ++ (number64 at ++ spelled_action action)
msg_behind (RedItem action) = byte 2 ++ spelled_action action
msg_behind (Cpc id conf) = byte id ++ number64 conf

abbrev item_tag : Msg → ℕ
item_tag (RedItem action) = 2
item_tag other = 1

abbrev item_behind : Msg → List ℕ
item_behind (GreenItem at action) = number64 at ++ spelled_action action
item_behind (RedItem action) = spelled_action action
item_behind other = msg_behind other

-- a message with that tag
abbrev Says : ℕ → Msg → Type 0
Says tag m = IsMsg m × (msg_tag m ≡ tag)

-- an item with that second tag
abbrev SaysItem : ℕ → Msg → Type 0
SaysItem tag m = Says 3 m × (item_tag m ≡ tag)

-- ---- what is an action is the law of the crate of actions

module _ (action_field : IsField IsAction spelled_action action_reading) where
  -- ---- items

  green_item_field : IsField (SaysItem 1) item_behind green_item_reading
  unfolding green_item_reading
  green_item_field =
      variant_of_two GreenItem IsNumber IsAction number64 spelled_action take_number action_reading (SaysItem 1) item_behind number_field action_field
      (λ at action n a. ((((n, a), refl), refl), refl)) parts
    where
      parts : (m : Msg) → SaysItem 1 m → (at : ℕ) × (action : ActionValue) × IsNumber at × IsAction action × (GreenItem at action ≡ m)
      parts (Action action) has = absurd (omega arith)
      parts (State s) has = absurd (omega arith)
      parts (GreenItem at action) has = (at, action, has.0.0.0, has.0.0.1, refl)
      parts (RedItem action) has = absurd (omega arith)
      parts (Cpc id conf) has = absurd (omega arith)

  red_item_field : IsField (SaysItem 2) item_behind red_item_reading
  unfolding red_item_reading
  red_item_field =
      variant_of_one RedItem IsAction spelled_action action_reading (SaysItem 2) item_behind action_field (λ action a. (((a, refl), refl), refl)) parts
    where
      parts : (m : Msg) → SaysItem 2 m → (action : ActionValue) × IsAction action × (RedItem action ≡ m)
      parts (Action action) has = absurd (omega arith)
      parts (State s) has = absurd (omega arith)
      parts (GreenItem at action) has = absurd (omega arith)
      parts (RedItem action) has = (action, has.0.0, refl)
      parts (Cpc id conf) has = absurd (omega arith)

  item_of_tag_field : (tag : ℕ) → 1 ≤ tag → tag ≤ 2 → IsField (SaysItem tag) item_behind (item_of_tag tag)
  unfolding item_of_tag
  item_of_tag_field zero low high = absurd (omega arith)
  item_of_tag_field (suc zero) low high = green_item_field
  item_of_tag_field (suc (suc zero)) low high = red_item_field
  item_of_tag_field (suc (suc (suc n))) low high = absurd (omega arith)

  item_tags : (m : Msg) → Says 3 m → (1 ≤ item_tag m) × (item_tag m ≤ 2)
  item_tags (Action action) has = (omega arith, omega arith)
  item_tags (State s) has = (omega arith, omega arith)
  item_tags (GreenItem at action) has = (omega arith, omega arith)
  item_tags (RedItem action) has = (omega arith, omega arith)
  item_tags (Cpc id conf) has = (omega arith, omega arith)

  item_is : (m : Msg) → Says 3 m → byte (item_tag m) ++ item_behind m ≡ msg_behind m
  item_is (Action action) has = absurd (omega arith)
  item_is (State s) has = absurd (omega arith)
  item_is (GreenItem at action) has = refl
  item_is (RedItem action) has = refl
  item_is (Cpc id conf) has = absurd (omega arith)

  item_field : IsField (Says 3) msg_behind item_reading
  unfolding item_reading
  item_field = field_tagged item_tag 1 2 (Says 3) item_behind msg_behind item_of_tag (omega arith) item_tags item_is item_of_tag_field

  -- ---- messages

  action_msg_field : IsField (Says 1) msg_behind action_msg_reading
  unfolding action_msg_reading
  action_msg_field =
      variant_of_one Action IsAction spelled_action action_reading (Says 1) msg_behind action_field (λ action a. ((a, refl), refl)) parts
    where
      parts : (m : Msg) → Says 1 m → (action : ActionValue) × IsAction action × (Action action ≡ m)
      parts (Action action) has = (action, has.0, refl)
      parts (State s) has = absurd (omega arith)
      parts (GreenItem at action) has = absurd (omega arith)
      parts (RedItem action) has = absurd (omega arith)
      parts (Cpc id conf) has = absurd (omega arith)

  state_field : IsField (Says 2) msg_behind state_reading
  unfolding state_reading
  state_field =
      variant_of_one State IsSummary spelled_summary summary_reading (Says 2) msg_behind summary_field (λ s h. ((h, refl), refl)) parts
    where
      parts : (m : Msg) → Says 2 m → (s : Summary) × IsSummary s × (State s ≡ m)
      parts (Action action) has = absurd (omega arith)
      parts (State s) has = (s, has.0, refl)
      parts (GreenItem at action) has = absurd (omega arith)
      parts (RedItem action) has = absurd (omega arith)
      parts (Cpc id conf) has = absurd (omega arith)

  cpc_field : IsField (Says 4) msg_behind cpc_reading
  unfolding cpc_reading
  cpc_field =
      variant_of_two Cpc IsId IsNumber byte number64 (take_id_above 0) take_number (Says 4) msg_behind any_id_field number_field (λ id conf i n. (((i, n), refl), refl)) parts
    where
      parts : (m : Msg) → Says 4 m → (id : ℕ) × (conf : ℕ) × IsId id × IsNumber conf × (Cpc id conf ≡ m)
      parts (Action action) has = absurd (omega arith)
      parts (State s) has = absurd (omega arith)
      parts (GreenItem at action) has = absurd (omega arith)
      parts (RedItem action) has = absurd (omega arith)
      parts (Cpc id conf) has = (id, conf, has.0.0, has.0.1, refl)

  msg_of_tag_field : (tag : ℕ) → 1 ≤ tag → tag ≤ 4 → IsField (Says tag) msg_behind (msg_of_tag tag)
  unfolding msg_of_tag
  msg_of_tag_field zero low high = absurd (omega arith)
  msg_of_tag_field (suc zero) low high = action_msg_field
  msg_of_tag_field (suc (suc zero)) low high = state_field
  msg_of_tag_field (suc (suc (suc zero))) low high = item_field
  msg_of_tag_field (suc (suc (suc (suc zero)))) low high = cpc_field
  msg_of_tag_field (suc (suc (suc (suc (suc n))))) low high = absurd (omega arith)

  msg_tags : (m : Msg) → IsMsg m → (1 ≤ msg_tag m) × (msg_tag m ≤ 4)
  msg_tags (Action action) has = (omega arith, omega arith)
  msg_tags (State s) has = (omega arith, omega arith)
  msg_tags (GreenItem at action) has = (omega arith, omega arith)
  msg_tags (RedItem action) has = (omega arith, omega arith)
  msg_tags (Cpc id conf) has = (omega arith, omega arith)

  msg_is : (m : Msg) → IsMsg m → byte (msg_tag m) ++ msg_behind m ≡ spelled_msg m
  unfolding spelled_msg
  msg_is (Action action) has = refl
  msg_is (State s) has = refl
  msg_is (GreenItem at action) has = refl
  msg_is (RedItem action) has = refl
  msg_is (Cpc id conf) has = refl

  pub msg_field : IsField IsMsg spelled_msg msg_reading
  unfolding msg_reading
  msg_field = field_tagged msg_tag 1 4 IsMsg msg_behind spelled_msg msg_of_tag (omega arith) msg_tags msg_is msg_of_tag_field

  pub msg_whole : IsWhole IsMsg spelled_msg msg_reading
  msg_whole = field_whole IsMsg spelled_msg msg_reading msg_field

-- a call that gives what reading all of the bytes gives says what the bytes spell
pub given_is_spelled : IsWhole IsMsg spelled_msg msg_reading → (bytes : List ℕ) (r : Result Msg CodecFault) → AreBytes bytes → Decodes (λ m. m) (whole msg_reading bytes) r → GivesSpelled bytes r
given_is_spelled exact bytes (Ok m) fits read = exact.found m bytes fits read
given_is_spelled exact bytes (Err fault) fits read = λ known m has is.
    let again : whole msg_reading bytes ≡ Ok m = rw is (exact.again m has) in
    let refused : whole msg_reading bytes ≡ Err fault = read known in
    absurd cc

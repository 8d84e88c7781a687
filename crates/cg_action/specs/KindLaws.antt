-- What actions do, and actions, as fields.
use Rattle.std.proofs.Common.{◌≡◌, ◌≢◌, ℕ, zero, suc, ◌<◌, ◌≤◌, Bool, true, false, cond, eqb, List, [], ◌∷◌, ◌++◌, length, refl, sym, append_assoc, arith}
use Rattle.std.proofs.lemmas.List.{append-nil}
use Rattle.std.proofs.lemmas.Bool.{eqb-true, eqb-false}
use Rattle.std.proofs.lemmas.List.Elements.{All-cons, All-tail}
use Rattle.std.specs.Prelude.{All, Option, None}
use Rattle.cg_base.specs.declared.limits.TheConstants.{NUMBER_LIMIT}
use Rattle.cg_base.specs.Sets.{IsId}
use Rattle.cg_base.specs.declared.action_id.ActionId.{ActionId}
use Rattle.cg_codec.specs.Fields.{byte, number64, list, optional}
use Rattle.cg_codec.specs.Reading.{done, take_optional, ◌>>=◌, byte_between}
use Rattle.cg_codec.specs.Laws.{IsField, EachBehind, HasOptional}
use Rattle.cg_codec.specs.FieldLaws.{field_has, field_only, field_bind, field_optional, field_says}
use Rattle.cg_codec.specs.ListLaws.{field_list}
use Rattle.cg_codec.specs.PlainLaws.{truth_field, count_field, between_field}
use Rattle.cg_codec.specs.ShapeLaws.{field_one, field_two, field_three, field_tagged}
use Rattle.cg_action.specs.declared.command.Cmd.{Cmd}
use Rattle.cg_action.specs.declared.query.Query.{Query}
use Rattle.cg_action.specs.declared.action.Kind.{Kind}
use Rattle.cg_action.specs.declared.action.Kind.TheVariants.{Update, Join, Leave}
use Rattle.cg_action.specs.declared.action.Action.{Action}
use Rattle.cg_action.specs.Limits.{does_something, IsQuery, IsKind}
use Rattle.cg_action.specs.ActionLimits.{IsCommand, IsActionId, IsAction}
use Rattle.cg_codec.specs.Fields.{spelled_id}
use Rattle.cg_action.specs.Bytes.{spelled_command, spelled_query, spelled_kind, spelled_action}
use Rattle.cg_action.specs.Reading.{number_from, id_reading, command_reading, query_reading, commands_reading, query_behind, update_reading, heavy_join_reading, kind_of_tag, kind_reading, action_reading}
use Rattle.cg_action.specs.ValueLaws.{replica_field, number_field, id_field}
use Rattle.cg_action.specs.CommandLaws.{command_field, query_field}

-- ---- commands and their query

no_commands : All IsCommand []
no_commands k d lt = absurd (omega arith)

All-behind : (taken cmds : List Cmd) → All IsCommand cmds → EachBehind (λ _ c. IsCommand c) taken cmds
All-behind taken [] all = tt
All-behind taken (c ∷ cmds) all =
    (all 0 c (omega arith), All-behind (taken ++ c ∷ []) cmds (All-tail IsCommand c cmds all))

behind-All : (taken cmds : List Cmd) → EachBehind (λ _ c. IsCommand c) taken cmds → All IsCommand cmds
behind-All taken [] each = no_commands
behind-All taken (c ∷ cmds) each = All-cons IsCommand c cmds each.0 (behind-All (taken ++ c ∷ []) cmds each.1)

abbrev AreCommands : List Cmd → Type 0
AreCommands cmds = (length cmds ≤ 16) × All IsCommand cmds

pub commands_field : IsField AreCommands (list spelled_command) commands_reading
unfolding commands_reading
commands_field =
    field_has (λ cmds. (length cmds ≤ 16) × EachBehind (λ _ c. IsCommand c) [] cmds)
    AreCommands (list spelled_command) commands_reading
    (λ cmds has. (has.0, behind-All [] cmds has.1)) (λ cmds has. (has.0, All-behind [] cmds has.1))
    (field_list 16 (λ _ c. IsCommand c)
    spelled_command (λ _. command_reading) (count_field 16 (omega arith)) (λ taken. command_field))

query_behind_field : (cmds : List Cmd) →
    IsField (λ q. HasOptional IsQuery q × (does_something cmds q ≡ true)) (optional spelled_query) (query_behind cmds)
unfolding query_behind
query_behind_field cmds =
    field_only (HasOptional IsQuery) (optional spelled_query) (take_optional query_reading) (does_something cmds)
    (field_optional IsQuery spelled_query query_reading truth_field query_field)

-- ---- kinds

-- a join of weight 1 has a tag of its own
abbrev join_tag : Bool → ℕ
join_tag true = 2
join_tag false = 4

abbrev weight_behind : Bool → ℕ → List ℕ
weight_behind true weight = []
weight_behind false weight = byte weight

abbrev kind_tag : Kind → ℕ
kind_tag (Update cmds query) = 1
kind_tag (Join joiner weight) = join_tag (eqb weight 1)
kind_tag (Leave server) = 3

abbrev kind_behind : Kind → List ℕ
kind_behind (Update cmds query) = list spelled_command cmds ++ optional spelled_query query
kind_behind (Join joiner weight) = byte joiner ++ weight_behind (eqb weight 1) weight
kind_behind (Leave server) = byte server

abbrev Does : ℕ → Kind → Type 0
Does tag kind = IsKind kind × (kind_tag kind ≡ tag)

abbrev cmds_in : Kind → List Cmd
cmds_in (Update cmds query) = cmds
cmds_in other = []

abbrev query_in : Kind → Option Query
query_in (Update cmds query) = query
query_in other = None

abbrev server_in : Kind → ℕ
server_in (Update cmds query) = 1
server_in (Join joiner weight) = joiner
server_in (Leave server) = server

abbrev weight_in : Kind → ℕ
weight_in (Join joiner weight) = weight
weight_in other = 2

join_tag-other : (b : Bool) (n : ℕ) → join_tag b ≡ n → n ≢ 2 → n ≢ 4 → ⊥
join_tag-other true n e p q = p (sym e)
join_tag-other false n e p q = q (sym e)

join_tag-2 : (b : Bool) → join_tag b ≡ 2 → b ≡ true
join_tag-2 true e = refl
join_tag-2 false e = absurd (omega arith)

join_tag-4 : (b : Bool) → join_tag b ≡ 4 → b ≡ false
join_tag-4 true e = absurd (omega arith)
join_tag-4 false e = refl

update_field : IsField (Does 1) kind_behind update_reading
unfolding update_reading
update_field =
    field_says (Does 1) (λ k. list spelled_command (cmds_in k) ++ optional spelled_query (query_in k))
    kind_behind update_reading spelled
    (field_bind cmds_in AreCommands (list spelled_command)
    commands_reading (Does 1) (λ k. optional spelled_query (query_in k)) (λ cmds. query_behind cmds >>=
    λ query. done (Update cmds query)) commands commands_field
    (λ cmds c. field_one (λ query. Update cmds query) query_in (λ q. HasOptional IsQuery q
    × (does_something cmds q ≡ true)) (optional spelled_query) (query_behind cmds) (λ k. Does 1 k
    × (cmds_in k ≡ cmds)) (λ k. optional spelled_query (query_in k)) (query_behind_field cmds)
    (parts cmds) (λ q has. (((record { few = c.0; each = c.1; asks = has.0; does = has.1 }, refl), refl), refl))))
  where
    spelled : (k : Kind) → Does 1 k → list spelled_command (cmds_in k)
        ++ optional spelled_query (query_in k) ≡ kind_behind k
    spelled (Update cmds query) has = refl
    spelled (Join joiner weight) has =
        absurd (join_tag-other (eqb weight 1) 1 has.1 (λ e. omega arith) (λ e. omega arith))
    spelled (Leave server) has = absurd (omega arith)

    commands : (k : Kind) → Does 1 k → AreCommands (cmds_in k)
    commands (Update cmds query) has = (has.0.few, has.0.each)
    commands (Join joiner weight) has = (omega arith, no_commands)
    commands (Leave server) has = (omega arith, no_commands)

    parts : (cmds : List Cmd) (k : Kind) → Does 1 k × (cmds_in k ≡ cmds)
        → (HasOptional IsQuery (query_in k) × (does_something cmds (query_in k) ≡ true))
        × (Update cmds (query_in k) ≡ k)
        × (optional spelled_query (query_in k) ≡ optional spelled_query (query_in k))
    parts cmds (Update own query) has = ((has.0.0.asks, rw (← has.1) has.0.0.does), rw has.1 refl, refl)
    parts cmds (Join joiner weight) has =
        absurd (join_tag-other (eqb weight 1) 1 has.0.1 (λ e. omega arith) (λ e. omega arith))
    parts cmds (Leave server) has = absurd (omega arith)

light_join_field : IsField (Does 2) kind_behind (byte_between 1 32 >>= λ joiner. done (Join joiner 1))
light_join_field = field_one (λ joiner. Join joiner 1) server_in IsId byte (byte_between 1 32) (Does 2) kind_behind
    replica_field parts (λ p has. (((has, omega arith, omega arith), refl), refl))
  where
    parts : (k : Kind) → Does 2 k → IsId (server_in k) × (Join (server_in k) 1 ≡ k)
        × (byte (server_in k) ≡ kind_behind k)
    parts (Update cmds query) has = absurd (omega arith)
    parts (Join joiner weight) has =
        let light = join_tag-2 (eqb weight 1) has.1 in
        let is : weight ≡ 1 = eqb-true weight 1 light in
        (has.0.0, rw is refl, rw light (sym (append-nil (byte joiner))))
    parts (Leave server) has = absurd (omega arith)

leave_field : IsField (Does 3) kind_behind (byte_between 1 32 >>= λ server. done (Leave server))
leave_field = field_one Leave server_in IsId byte (byte_between 1 32) (Does 3) kind_behind replica_field
    parts (λ p has. ((has, refl), refl))
  where
    parts : (k : Kind) → Does 3 k → IsId (server_in k) × (Leave (server_in k) ≡ k)
        × (byte (server_in k) ≡ kind_behind k)
    parts (Update cmds query) has = absurd (omega arith)
    parts (Join joiner weight) has =
        absurd (join_tag-other (eqb weight 1) 3 has.1 (λ e. omega arith) (λ e. omega arith))
    parts (Leave server) has = (has.0, refl, refl)

heavy_join_field : IsField (Does 4) kind_behind heavy_join_reading
unfolding heavy_join_reading
heavy_join_field =
    field_two Join server_in weight_in IsId (λ w. (2 ≤ w) × (w ≤ 255)) byte
    byte (byte_between 1 32) (byte_between 2 255) (Does 4) kind_behind
    replica_field (between_field 2 255 (omega arith)) parts whole
  where
    parts : (k : Kind) → Does 4 k → IsId (server_in k) × ((2 ≤ weight_in k) × (weight_in k ≤ 255))
        × (Join (server_in k) (weight_in k) ≡ k) × (byte (server_in k) ++ byte (weight_in k) ≡ kind_behind k)
    parts (Update cmds query) has = absurd (omega arith)
    parts (Join joiner weight) has =
        let heavy = join_tag-4 (eqb weight 1) has.1 in
        let other : weight ≢ 1 = eqb-false weight 1 heavy in
        (has.0.0, (omega arith, has.0.2), refl, rw heavy refl)
    parts (Leave server) has = absurd (omega arith)

    whole : (p w : ℕ) → IsId p → (2 ≤ w) × (w ≤ 255) → Does 4 (Join p w) × (p ≡ p) × (w ≡ w)
    whole p w ph wh = let heavy : eqb w 1 ≡ false = grind arith in
        (((ph, omega arith, wh.1), rw heavy refl), refl, refl)

kind_of_tag_field : (tag : ℕ) → 1 ≤ tag → tag ≤ 4 → IsField (Does tag) kind_behind (kind_of_tag tag)
unfolding kind_of_tag
kind_of_tag_field zero low high = absurd (omega arith)
kind_of_tag_field (suc zero) low high = update_field
kind_of_tag_field (suc (suc zero)) low high = light_join_field
kind_of_tag_field (suc (suc (suc zero))) low high = leave_field
kind_of_tag_field (suc (suc (suc (suc zero)))) low high = heavy_join_field
kind_of_tag_field (suc (suc (suc (suc (suc n))))) low high = absurd (omega arith)

join_tags : (b : Bool) → (1 ≤ join_tag b) × (join_tag b ≤ 4)
join_tags true = (omega arith, omega arith)
join_tags false = (omega arith, omega arith)

kind_tags : (k : Kind) → IsKind k → (1 ≤ kind_tag k) × (kind_tag k ≤ 4)
kind_tags (Update cmds query) has = (omega arith, omega arith)
kind_tags (Join joiner weight) has = join_tags (eqb weight 1)
kind_tags (Leave server) has = (omega arith, omega arith)

join_is : (b : Bool) (joiner weight : ℕ) → byte (join_tag b) ++ (byte joiner ++ weight_behind b weight) ≡
    cond b (byte 2 ++ byte joiner) (byte 4 ++ byte joiner ++ byte weight)
join_is true joiner weight = rw append-nil refl
join_is false joiner weight = simp append_assoc

kind_is : (k : Kind) → IsKind k → byte (kind_tag k) ++ kind_behind k ≡ spelled_kind k
kind_is (Update cmds query) has = simp append_assoc
kind_is (Join joiner weight) has = join_is (eqb weight 1) joiner weight
kind_is (Leave server) has = refl

pub kind_field : IsField IsKind spelled_kind kind_reading
unfolding kind_reading
kind_field = field_tagged kind_tag 1 4 IsKind kind_behind spelled_kind kind_of_tag (omega arith) kind_tags
    kind_is kind_of_tag_field

-- ---- actions

made : ActionId → ℕ → Kind → Action
made id green_line kind = record { id = id; green_line = green_line; kind = kind }

pub action_field : IsField IsAction spelled_action action_reading
unfolding action_reading made
action_field =
    field_three made (λ a. a.id) (λ a. a.green_line) (λ a. a.kind) IsActionId (λ n. (0 ≤ n) × (n < NUMBER_LIMIT)) IsKind
    spelled_id number64 spelled_kind id_reading (number_from 0) kind_reading IsAction spelled_action
    id_field (number_field 0) kind_field
    (λ a has. (has.id, (omega arith, has.green_line), has.kind, refl, simp append_assoc))
    (λ id n kind i g k. (record { id = i; green_line = g.1; kind = k }, refl, refl, refl))

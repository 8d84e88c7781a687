-- The parts of a checkpoint as fields.
use Rattle.std.proofs.Common.{◌≡◌, ℕ, List, ◌++◌, refl}
use Rattle.cg_base.specs.declared.action_id.ActionId.{ActionId}
use Rattle.cg_codec.specs.Fields.{number64, list}
use Rattle.cg_codec.specs.Reading.{Reading, ◌>>=◌, done}
use Rattle.cg_codec.specs.Laws.{IsField, IsWhole}
use Rattle.cg_codec.specs.FieldLaws.{field_bind, field_map, field_whole}
use Rattle.cg_codec.specs.ShapeLaws.{field_three}
use Rattle.cg_action.specs.declared.action.Action.{Action}
use Rattle.cg_action.specs.Bytes.{spelled_action}
use Rattle.cg_action.specs.declared.entry.DbEntry.{DbEntry}
use Rattle.cg_members.specs.Members.{Members}
use Rattle.cg_records.specs.declared.stable.Stable.{Stable}
use Rattle.cg_records.specs.Limits.{IsNumber, IsSmallCut, IsStable}
use Rattle.cg_records.specs.Bytes.{spelled_cut, spelled_stable}
use Rattle.cg_records.specs.Reading.{take_number, take_cut, take_stable}
use Rattle.cg_records.specs.RecordLaws.{number_field, cut_field, stable_field}
use Rattle.cg_disk_records.specs.declared.checkpoint.Reached.{Reached}
use Rattle.cg_disk_records.specs.declared.checkpoint.KeptActions.{KeptActions}
use Rattle.cg_disk_records.specs.declared.checkpoint.Checkpoint.{Checkpoint}
use Rattle.cg_disk_records.specs.Checkpoint.{spelled_entry, spelled_reached, spelled_kept, spelled_parts}
use Rattle.cg_disk_records.specs.Limits.{AreActions, AreMembers, IsReached, IsKept, IsDatabase, AreParts}
use Rattle.cg_disk_records.specs.Reading.{actions_reading, members_reading, entries_reading, reached_reading, kept_reading, checkpoint_reading}
use Rattle.cg_disk_records.specs.ListLaws.{actions_field}
use Rattle.cg_disk_records.proofs.ServerFields.{spelled_members, members_field}
use Rattle.cg_disk_records.proofs.EntryFields.{entries_field}

-- ---- the actions that are kept

abbrev kept_is : List Action → List Action → List Action → KeptActions
kept_is greens reds own = record { greens = greens; reds = reds; own = own }

pub kept_field : IsField IsKept spelled_kept kept_reading
unfolding spelled_kept kept_reading
kept_field =
    field_three kept_is (λ k. k.greens) (λ k. k.reds) (λ k. k.own) AreActions AreActions AreActions (list spelled_action) (list spelled_action) (list spelled_action) actions_reading actions_reading actions_reading IsKept spelled_kept
    actions_field actions_field actions_field
    (λ k has. (has.greens, has.reds, has.own, refl, refl))
    (λ greens reds own g r o. (record { greens = g; reds = r; own = o }, refl, refl, refl))

-- ---- how far the greens reach

abbrev reached_is : ℕ → ℕ → List ActionId → Members → Reached
reached_is count white cut members = record { count = count; white = white; cut = cut; members = members }

abbrev behind_white : Reached → List ℕ
behind_white r = spelled_cut r.cut ++ spelled_members r.members

abbrev behind_count : Reached → List ℕ
behind_count r = number64 r.white ++ behind_white r

abbrev read_members : ℕ → ℕ → List ActionId → Reading Reached
read_members count white cut = members_reading >>= λ members. done (reached_is count white cut members)

abbrev read_cut : ℕ → ℕ → Reading Reached
read_cut count white = take_cut >>= read_members count white

abbrev read_white : ℕ → Reading Reached
read_white count = take_number >>= read_cut count

abbrev WithCount : ℕ → Reached → Type 0
WithCount count r = IsReached r × (r.count ≡ count)

abbrev WithWhite : ℕ → ℕ → Reached → Type 0
WithWhite count white r = WithCount count r × (r.white ≡ white)

abbrev WithCut : ℕ → ℕ → List ActionId → Reached → Type 0
WithCut count white cut r = WithWhite count white r × (r.cut ≡ cut)

pub reached_field : IsField IsReached spelled_reached reached_reading
unfolding spelled_reached reached_reading
reached_field =
    field_bind (λ (r : Reached). r.count) IsNumber number64 take_number IsReached behind_count read_white (λ r has. has.count) number_field
    (λ count is_count.
    field_bind (λ (r : Reached). r.white) IsNumber number64 take_number (WithCount count) behind_white (read_cut count) (λ r has. has.0.white) number_field
    (λ white is_white.
    field_bind (λ (r : Reached). r.cut) IsSmallCut spelled_cut take_cut (WithWhite count white) (λ (r : Reached). spelled_members r.members) (read_members count white) (λ r has. has.0.0.cut) cut_field
    (λ cut is_cut.
    field_map (reached_is count white cut) (λ (r : Reached). r.members) AreMembers spelled_members members_reading (WithCut count white cut)
    (λ r has. (has.0.0.0.members, rw (← has.0.0.1, ← has.0.1, ← has.1) refl))
    (λ members are_members. let is : IsReached (reached_is count white cut members) = record { count = is_count; white = is_white; cut = is_cut; members = are_members } in ((((is, refl), refl), refl), refl))
    members_field)))

-- ---- all parts

abbrev parts_are : ℕ → Stable → Reached → List DbEntry → KeptActions → Checkpoint
parts_are generation stable reached db kept = record { generation = generation; stable = stable; reached = reached; db = db; kept = kept }

abbrev behind_reached : Checkpoint → List ℕ
behind_reached p = list spelled_entry p.db ++ spelled_kept p.kept

abbrev behind_stable : Checkpoint → List ℕ
behind_stable p = spelled_reached p.reached ++ behind_reached p

abbrev behind_generation : Checkpoint → List ℕ
behind_generation p = spelled_stable p.stable ++ behind_stable p

abbrev read_kept : ℕ → Stable → Reached → List DbEntry → Reading Checkpoint
read_kept generation stable reached db = kept_reading >>= λ kept. done (parts_are generation stable reached db kept)

abbrev read_db : ℕ → Stable → Reached → Reading Checkpoint
read_db generation stable reached = entries_reading >>= read_kept generation stable reached

abbrev read_reached : ℕ → Stable → Reading Checkpoint
read_reached generation stable = reached_reading >>= read_db generation stable

abbrev read_stable : ℕ → Reading Checkpoint
read_stable generation = take_stable >>= read_reached generation

abbrev WithGeneration : ℕ → Checkpoint → Type 0
WithGeneration generation p = AreParts p × (p.generation ≡ generation)

abbrev WithStable : ℕ → Stable → Checkpoint → Type 0
WithStable generation stable p = WithGeneration generation p × (p.stable ≡ stable)

abbrev WithReached : ℕ → Stable → Reached → Checkpoint → Type 0
WithReached generation stable reached p = WithStable generation stable p × (p.reached ≡ reached)

abbrev WithDb : ℕ → Stable → Reached → List DbEntry → Checkpoint → Type 0
WithDb generation stable reached db p = WithReached generation stable reached p × (p.db ≡ db)

pub parts_field : IsField AreParts spelled_parts checkpoint_reading
unfolding spelled_parts checkpoint_reading
parts_field =
    field_bind (λ (p : Checkpoint). p.generation) IsNumber number64 take_number AreParts behind_generation read_stable (λ p has. has.generation) number_field
    (λ generation is_generation.
    field_bind (λ (p : Checkpoint). p.stable) IsStable spelled_stable take_stable (WithGeneration generation) behind_stable (read_reached generation) (λ p has. has.0.stable) stable_field
    (λ stable is_stable.
    field_bind (λ (p : Checkpoint). p.reached) IsReached spelled_reached reached_reading (WithStable generation stable) behind_reached (read_db generation stable) (λ p has. has.0.0.reached) reached_field
    (λ reached is_reached.
    field_bind (λ (p : Checkpoint). p.db) IsDatabase (list spelled_entry) entries_reading (WithReached generation stable reached) (λ (p : Checkpoint). spelled_kept p.kept) (read_kept generation stable reached) (λ p has. has.0.0.0.db) entries_field
    (λ db is_db.
    field_map (parts_are generation stable reached db) (λ (p : Checkpoint). p.kept) IsKept spelled_kept kept_reading (WithDb generation stable reached db)
    (λ p has. (has.0.0.0.0.kept, rw (← has.0.0.0.1, ← has.0.0.1, ← has.0.1, ← has.1) refl))
    (λ kept is_kept. let are : AreParts (parts_are generation stable reached db kept) = record { generation = is_generation; stable = is_stable; reached = is_reached; db = is_db; kept = is_kept } in (((((are, refl), refl), refl), refl), refl))
    kept_field))))

pub parts_whole : IsWhole AreParts spelled_parts checkpoint_reading
parts_whole = field_whole AreParts spelled_parts checkpoint_reading parts_field

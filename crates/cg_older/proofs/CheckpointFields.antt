-- The parts of a checkpoint as fields.
use Rattle.std.proofs.Common.{◌≡◌, ℕ, false, List, ◌++◌, Result, Ok, Err, refl, sym}
use Rattle.std.specs.Prelude.{IfOk}
use Rattle.std.specs.List.{list_any}
use Rattle.cg_base.specs.declared.action_id.ActionId.{ActionId}
use Rattle.cg_codec.specs.declared.fault.CodecFault.{CodecFault}
use Rattle.cg_codec.specs.Fields.{number64, list}
use Rattle.cg_codec.specs.Reading.{Reading, ◌>>=◌, done, whole}
use Rattle.cg_codec.specs.Taking.{Decodes}
use Rattle.cg_codec.specs.Laws.{IsField, IsWhole, AreBytes}
use Rattle.cg_codec.specs.FieldLaws.{field_bind, field_whole}
use Rattle.cg_codec.specs.ShapeLaws.{field_three}
use Rattle.cg_action.specs.declared.action.Action.{Action}
use Rattle.cg_action.specs.declared.entry.DbEntry.{DbEntry}
use Rattle.cg_action.specs.Bytes.{spelled_action}
use Rattle.cg_members.specs.Members.{Members}
use Rattle.cg_records.specs.declared.stable.Stable.{Stable}
use Rattle.cg_records.specs.Limits.{IsNumber, IsSmallCut}
use Rattle.cg_records.specs.Bytes.{spelled_cut}
use Rattle.cg_records.specs.Reading.{take_number, take_cut}
use Rattle.cg_records.specs.RecordLaws.{number_field, cut_field}
use Rattle.cg_disk_records.specs.declared.checkpoint.Reached.{Reached}
use Rattle.cg_disk_records.specs.declared.checkpoint.KeptActions.{KeptActions}
use Rattle.cg_disk_records.specs.declared.checkpoint.Checkpoint.{Checkpoint}
use Rattle.cg_disk_records.specs.Checkpoint.{spelled_entry, spelled_kept}
use Rattle.cg_disk_records.specs.Limits.{IsReached, IsDatabase, AreParts}
use Rattle.cg_disk_records.specs.Reading.{entries_reading}
use Rattle.cg_older.specs.Bytes.{spelled_old_stable, spelled_old_reached, spelled_old_parts}
use Rattle.cg_older.specs.Reading.{old_stable_reading, old_actions_reading, old_members_reading, old_reached_reading, old_kept_reading, old_checkpoint_reading}
use Rattle.cg_older.specs.Weights.{is_heavy_server}
use Rattle.cg_older.proofs.ListFields.{ExactActions, AreLightActions, actions_field}
use Rattle.cg_older.proofs.ServerFields.{AreLightMembers, spelled_old_members, members_field}
use Rattle.cg_older.proofs.StableFields.{IsLightStable, stable_field}

abbrev pub ExactEntries : Type 0
ExactEntries = IsField IsDatabase (list spelled_entry) entries_reading

-- ---- the actions that are kept

pub record IsLightKept (k : KeptActions) : Type 0 where
  pub greens : AreLightActions k.greens
  pub reds : AreLightActions k.reds
  pub own : AreLightActions k.own

abbrev kept_is : List Action → List Action → List Action → KeptActions
kept_is greens reds own = record { greens = greens; reds = reds; own = own }

kept_field : ExactActions → IsField IsLightKept spelled_kept old_kept_reading
unfolding spelled_kept old_kept_reading
kept_field exact =
    field_three kept_is (λ k. k.greens) (λ k. k.reds) (λ k. k.own) AreLightActions AreLightActions AreLightActions (list spelled_action) (list spelled_action) (list spelled_action) old_actions_reading old_actions_reading old_actions_reading IsLightKept spelled_kept
    (actions_field exact) (actions_field exact) (actions_field exact)
    (λ k has. (has.greens, has.reds, has.own, refl, refl))
    (λ greens reds own g r o. (record { greens = g; reds = r; own = o }, refl, refl, refl))

-- ---- how far the greens reach

pub record IsLightReached (r : Reached) : Type 0 where
  pub is : IsReached r
  pub light : list_any is_heavy_server r.members.servers ≡ false

abbrev reached_is : ℕ → ℕ → List ActionId → Members → Reached
reached_is count white cut members = record { count = count; white = white; cut = cut; members = members }

abbrev behind_count : Reached → List ℕ
behind_count r = number64 r.white ++ (spelled_cut r.cut ++ spelled_old_members r.members)

abbrev read_white : ℕ → Reading Reached
read_white count = take_number >>= λ white. take_cut >>= λ cut. old_members_reading >>= λ members. done (reached_is count white cut members)

abbrev WithCount : ℕ → Reached → Type 0
WithCount count r = IsLightReached r × (r.count ≡ count)

reached-same : (count : ℕ) (r : Reached) → WithCount count r → reached_is count r.white r.cut r.members ≡ r
reached-same count r has = λ i. record { count = sym has.1 i; white = r.white; cut = r.cut; members = r.members }

reached_field : IsField IsLightReached spelled_old_reached old_reached_reading
unfolding spelled_old_reached old_reached_reading
reached_field =
    field_bind (λ (r : Reached). r.count) IsNumber number64 take_number IsLightReached behind_count read_white (λ r has. has.is.count) number_field
    (λ count is_count.
    field_three (reached_is count) (λ r. r.white) (λ r. r.cut) (λ r. r.members) IsNumber IsSmallCut AreLightMembers number64 spelled_cut spelled_old_members take_number take_cut old_members_reading (WithCount count) behind_count
    number_field cut_field members_field
    (λ r has. (has.0.is.white, has.0.is.cut, record { are = has.0.is.members; light = has.0.light }, reached-same count r has, refl))
    (λ white cut members w c m. ((record { is = record { count = is_count; white = w; cut = c; members = m.are }; light = m.light }, refl), refl, refl, refl)))

-- ---- all parts

-- the parts of a checkpoint that the older format has
pub record AreLightParts (p : Checkpoint) : Type 0 where
  pub generation : IsNumber p.generation
  pub stable : IsLightStable p.stable
  pub reached : IsLightReached p.reached
  pub db : IsDatabase p.db
  pub kept : IsLightKept p.kept

pub light-parts : (p : Checkpoint) → AreLightParts p → AreParts p
light-parts p has = record {
  generation = has.generation;
  stable = has.stable.is;
  reached = has.reached.is;
  db = has.db;
  kept = record { greens = has.kept.greens.0; reds = has.kept.reds.0; own = has.kept.own.0 };
}

abbrev parts_are : ℕ → Stable → Reached → List DbEntry → KeptActions → Checkpoint
parts_are generation stable reached db kept = record { generation = generation; stable = stable; reached = reached; db = db; kept = kept }

abbrev behind_stable : Checkpoint → List ℕ
behind_stable p = spelled_old_reached p.reached ++ (list spelled_entry p.db ++ spelled_kept p.kept)

abbrev read_reached : ℕ → Stable → Reading Checkpoint
read_reached generation stable = old_reached_reading >>= λ reached. entries_reading >>= λ db. old_kept_reading >>= λ kept. done (parts_are generation stable reached db kept)

abbrev WithGeneration : ℕ → Checkpoint → Type 0
WithGeneration generation p = AreLightParts p × (p.generation ≡ generation)

abbrev WithStable : ℕ → Stable → Checkpoint → Type 0
WithStable generation stable p = WithGeneration generation p × (p.stable ≡ stable)

rest-same : (generation : ℕ) (stable : Stable) (p : Checkpoint) → WithStable generation stable p → parts_are generation stable p.reached p.db p.kept ≡ p
rest-same generation stable p has = λ i. record { generation = sym has.0.1 i; stable = sym has.1 i; reached = p.reached; db = p.db; kept = p.kept }

parts_field : ExactActions → ExactEntries → IsField AreLightParts spelled_old_parts old_checkpoint_reading
unfolding spelled_old_parts old_checkpoint_reading
parts_field exact entries =
    field_bind (λ (p : Checkpoint). p.generation) IsNumber number64 take_number AreLightParts (λ (p : Checkpoint). spelled_old_stable p.stable ++ behind_stable p)
    (λ generation. old_stable_reading >>= read_reached generation) (λ p has. has.generation) number_field
    (λ generation is_generation.
    field_bind (λ (p : Checkpoint). p.stable) IsLightStable spelled_old_stable old_stable_reading (WithGeneration generation) behind_stable (read_reached generation) (λ p has. has.0.stable) stable_field
    (λ stable is_stable.
    field_three (parts_are generation stable) (λ p. p.reached) (λ p. p.db) (λ p. p.kept) IsLightReached IsDatabase IsLightKept spelled_old_reached (list spelled_entry) spelled_kept old_reached_reading entries_reading old_kept_reading (WithStable generation stable) behind_stable
    reached_field entries (kept_field exact)
    (λ p has. (has.0.0.reached, has.0.0.db, has.0.0.kept, rest-same generation stable p has, refl))
    (λ reached db kept r d k. (
      ((record { generation = is_generation; stable = is_stable; reached = r; db = d; kept = k }, refl), refl),
      refl,
      refl,
      refl,
    ))))

pub parts_whole : ExactActions → ExactEntries → IsWhole AreLightParts spelled_old_parts old_checkpoint_reading
parts_whole exact entries = field_whole AreLightParts spelled_old_parts old_checkpoint_reading (parts_field exact entries)

pub parts-within : ExactActions → ExactEntries → (bytes : List ℕ) (r : Result Checkpoint CodecFault) → AreBytes bytes → Decodes (λ p. p) (whole old_checkpoint_reading bytes) r → IfOk r AreParts
parts-within exact entries bytes (Ok p) fits read = light-parts p ((parts_whole exact entries).found p bytes fits read).0
parts-within exact entries bytes (Err fault) fits read = tt

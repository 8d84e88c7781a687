-- A summary as a field, by its ten parts.
use Rattle.std.proofs.Common.{◌≡◌, ℕ, List, ◌++◌, refl}
use Rattle.std.specs.Prelude.{Option}
use Rattle.cg_base.specs.declared.action_id.ActionId.{ActionId}
use Rattle.cg_base.specs.Sets.{IsId, IsSet}
use Rattle.cg_codec.specs.Fields.{byte, number64, optional}
use Rattle.cg_codec.specs.Reading.{Reading, ◌>>=◌, done}
use Rattle.cg_codec.specs.Laws.{IsField}
use Rattle.cg_codec.specs.FieldLaws.{field_bind, field_map}
use Rattle.cg_records.specs.declared.primary.Primary.{Primary}
use Rattle.cg_records.specs.declared.vulnerable.Vulnerable.{Vulnerable}
use Rattle.cg_records.specs.declared.yellow.Yellow.{Yellow}
use Rattle.cg_records.specs.Limits.{IsNumber, IsSmallCut, IsPrimary, IsMaybeVulnerable, IsYellow}
use Rattle.cg_records.specs.Bytes.{spelled_set, spelled_cut, spelled_prim, spelled_vulnerable, spelled_yellow}
use Rattle.cg_records.specs.Reading.{take_number, take_id_above, take_set, take_cut, take_prim, take_maybe_vulnerable, take_yellow}
use Rattle.cg_records.specs.RecordLaws.{any_id_field, number_field, prim_field, maybe_vulnerable_field, yellow_field, cut_field, set_field}
use Rattle.cg_knowledge.specs.declared.summary.Summary.{Summary}
use Rattle.cg_wire.specs.Limits.{IsSummary}
use Rattle.cg_wire.specs.Bytes.{spelled_summary}
use Rattle.cg_wire.specs.Reading.{summary_reading}

-- the summary of ten parts
abbrev summary_is : ℕ → ℕ → Primary → ℕ → Option Vulnerable → Yellow → ℕ → List ActionId → List ActionId → List ℕ → Summary
summary_is id conf prim attempt vulnerable yellow count green red left = record { id = id; conf = conf; prim = prim; attempt_index = attempt; vulnerable = vulnerable; yellow = yellow; green_count = count; green_cut = green; red_cut = red; left = left }

-- ---- what is spelled and read behind each part

abbrev behind_red : Summary → List ℕ
behind_red s = spelled_set s.left

abbrev behind_green : Summary → List ℕ
behind_green s = spelled_cut s.red_cut ++ behind_red s

abbrev behind_count : Summary → List ℕ
behind_count s = spelled_cut s.green_cut ++ behind_green s

abbrev behind_yellow : Summary → List ℕ
behind_yellow s = number64 s.green_count ++ behind_count s

abbrev behind_vulnerable : Summary → List ℕ
behind_vulnerable s = spelled_yellow s.yellow ++ behind_yellow s

abbrev behind_attempt : Summary → List ℕ
behind_attempt s = optional spelled_vulnerable s.vulnerable ++ behind_vulnerable s

abbrev behind_prim : Summary → List ℕ
behind_prim s = number64 s.attempt_index ++ behind_attempt s

abbrev behind_conf : Summary → List ℕ
behind_conf s = spelled_prim s.prim ++ behind_prim s

abbrev behind_id : Summary → List ℕ
behind_id s = number64 s.conf ++ behind_conf s

abbrev read_left : ℕ → ℕ → Primary → ℕ → Option Vulnerable → Yellow → ℕ → List ActionId → List ActionId → Reading Summary
read_left id conf prim attempt vulnerable yellow count green red = take_set >>= λ left. done (summary_is id conf prim attempt vulnerable yellow count green red left)

abbrev read_red : ℕ → ℕ → Primary → ℕ → Option Vulnerable → Yellow → ℕ → List ActionId → Reading Summary
read_red id conf prim attempt vulnerable yellow count green = take_cut >>= read_left id conf prim attempt vulnerable yellow count green

abbrev read_green : ℕ → ℕ → Primary → ℕ → Option Vulnerable → Yellow → ℕ → Reading Summary
read_green id conf prim attempt vulnerable yellow count = take_cut >>= read_red id conf prim attempt vulnerable yellow count

abbrev read_count : ℕ → ℕ → Primary → ℕ → Option Vulnerable → Yellow → Reading Summary
read_count id conf prim attempt vulnerable yellow = take_number >>= read_green id conf prim attempt vulnerable yellow

abbrev read_yellow : ℕ → ℕ → Primary → ℕ → Option Vulnerable → Reading Summary
read_yellow id conf prim attempt vulnerable = take_yellow >>= read_count id conf prim attempt vulnerable

abbrev read_vulnerable : ℕ → ℕ → Primary → ℕ → Reading Summary
read_vulnerable id conf prim attempt = take_maybe_vulnerable >>= read_yellow id conf prim attempt

abbrev read_attempt : ℕ → ℕ → Primary → Reading Summary
read_attempt id conf prim = take_number >>= read_vulnerable id conf prim

abbrev read_prim : ℕ → ℕ → Reading Summary
read_prim id conf = take_prim >>= read_attempt id conf

abbrev read_conf : ℕ → Reading Summary
read_conf id = take_number >>= read_prim id

-- ---- summaries of which the first parts are known

abbrev WithId : ℕ → Summary → Type 0
WithId id s = IsSummary s × (s.id ≡ id)

abbrev WithConf : ℕ → ℕ → Summary → Type 0
WithConf id conf s = WithId id s × (s.conf ≡ conf)

abbrev WithPrim : ℕ → ℕ → Primary → Summary → Type 0
WithPrim id conf prim s = WithConf id conf s × (s.prim ≡ prim)

abbrev WithAttempt : ℕ → ℕ → Primary → ℕ → Summary → Type 0
WithAttempt id conf prim attempt s = WithPrim id conf prim s × (s.attempt_index ≡ attempt)

abbrev WithVulnerable : ℕ → ℕ → Primary → ℕ → Option Vulnerable → Summary → Type 0
WithVulnerable id conf prim attempt vulnerable s = WithAttempt id conf prim attempt s × (s.vulnerable ≡ vulnerable)

abbrev WithYellow : ℕ → ℕ → Primary → ℕ → Option Vulnerable → Yellow → Summary → Type 0
WithYellow id conf prim attempt vulnerable yellow s = WithVulnerable id conf prim attempt vulnerable s × (s.yellow ≡ yellow)

abbrev WithCount : ℕ → ℕ → Primary → ℕ → Option Vulnerable → Yellow → ℕ → Summary → Type 0
WithCount id conf prim attempt vulnerable yellow count s = WithYellow id conf prim attempt vulnerable yellow s × (s.green_count ≡ count)

abbrev WithGreen : ℕ → ℕ → Primary → ℕ → Option Vulnerable → Yellow → ℕ → List ActionId → Summary → Type 0
WithGreen id conf prim attempt vulnerable yellow count green s = WithCount id conf prim attempt vulnerable yellow count s × (s.green_cut ≡ green)

abbrev WithRed : ℕ → ℕ → Primary → ℕ → Option Vulnerable → Yellow → ℕ → List ActionId → List ActionId → Summary → Type 0
WithRed id conf prim attempt vulnerable yellow count green red s = WithGreen id conf prim attempt vulnerable yellow count green s × (s.red_cut ≡ red)

-- ---- the parts, one behind the other

pub summary_field : IsField IsSummary spelled_summary summary_reading
unfolding spelled_summary summary_reading
summary_field =
    field_bind (λ (s : Summary). s.id) IsId byte (take_id_above 0) IsSummary behind_id read_conf (λ s has. has.id) any_id_field
    (λ id is_id.
    field_bind (λ (s : Summary). s.conf) IsNumber number64 take_number (WithId id) behind_conf (read_prim id) (λ s has. has.0.conf) number_field
    (λ conf is_conf.
    field_bind (λ (s : Summary). s.prim) IsPrimary spelled_prim take_prim (WithConf id conf) behind_prim (read_attempt id conf) (λ s has. has.0.0.prim) prim_field
    (λ prim is_prim.
    field_bind (λ (s : Summary). s.attempt_index) IsNumber number64 take_number (WithPrim id conf prim) behind_attempt (read_vulnerable id conf prim) (λ s has. has.0.0.0.attempt_index) number_field
    (λ attempt is_attempt.
    field_bind (λ (s : Summary). s.vulnerable) IsMaybeVulnerable (optional spelled_vulnerable) take_maybe_vulnerable (WithAttempt id conf prim attempt) behind_vulnerable (read_yellow id conf prim attempt) (λ s has. has.0.0.0.0.vulnerable) maybe_vulnerable_field
    (λ vulnerable is_vulnerable.
    field_bind (λ (s : Summary). s.yellow) IsYellow spelled_yellow take_yellow (WithVulnerable id conf prim attempt vulnerable) behind_yellow (read_count id conf prim attempt vulnerable) (λ s has. has.0.0.0.0.0.yellow) yellow_field
    (λ yellow is_yellow.
    field_bind (λ (s : Summary). s.green_count) IsNumber number64 take_number (WithYellow id conf prim attempt vulnerable yellow) behind_count (read_green id conf prim attempt vulnerable yellow) (λ s has. has.0.0.0.0.0.0.green_count) number_field
    (λ count is_count.
    field_bind (λ (s : Summary). s.green_cut) IsSmallCut spelled_cut take_cut (WithCount id conf prim attempt vulnerable yellow count) behind_green (read_red id conf prim attempt vulnerable yellow count) (λ s has. has.0.0.0.0.0.0.0.green_cut) cut_field
    (λ green is_green.
    field_bind (λ (s : Summary). s.red_cut) IsSmallCut spelled_cut take_cut (WithGreen id conf prim attempt vulnerable yellow count green) behind_red (read_left id conf prim attempt vulnerable yellow count green) (λ s has. has.0.0.0.0.0.0.0.0.red_cut) cut_field
    (λ red is_red.
    field_map (summary_is id conf prim attempt vulnerable yellow count green red) (λ (s : Summary). s.left) IsSet spelled_set take_set (WithRed id conf prim attempt vulnerable yellow count green red)
    (λ s has. (has.0.0.0.0.0.0.0.0.0.left, rw (← has.0.0.0.0.0.0.0.0.1, ← has.0.0.0.0.0.0.0.1, ← has.0.0.0.0.0.0.1, ← has.0.0.0.0.0.1, ← has.0.0.0.0.1, ← has.0.0.0.1, ← has.0.0.1, ← has.0.1, ← has.1) refl))
    (λ left is_left. let is_summary : IsSummary (summary_is id conf prim attempt vulnerable yellow count green red left) = record { id = is_id; conf = is_conf; prim = is_prim; attempt_index = is_attempt; vulnerable = is_vulnerable; yellow = is_yellow; green_count = is_count; green_cut = is_green; red_cut = is_red; left = is_left } in ((((((((((is_summary, refl), refl), refl), refl), refl), refl), refl), refl), refl), refl))
    set_field)))))))))

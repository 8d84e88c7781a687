-- What a replica keeps beside its actions, as a field.
use Rattle.std.proofs.Common.{◌≡◌, ℕ, false, List, ◌++◌, refl, sym}
use Rattle.std.specs.Prelude.{Option}
use Rattle.std.specs.List.{list_any}
use Rattle.cg_base.specs.Sets.{IsSet}
use Rattle.cg_base.specs.Weights.{ids, each_once}
use Rattle.cg_codec.specs.Fields.{number64, optional}
use Rattle.cg_codec.specs.Reading.{Reading, ◌>>=◌, done}
use Rattle.cg_codec.specs.Laws.{IsField}
use Rattle.cg_codec.specs.FieldLaws.{field_bind}
use Rattle.cg_codec.specs.ShapeLaws.{field_three}
use Rattle.cg_records.specs.declared.primary.Primary.{Primary}
use Rattle.cg_records.specs.declared.vulnerable.Vulnerable.{Vulnerable}
use Rattle.cg_records.specs.declared.yellow.Yellow.{Yellow}
use Rattle.cg_records.specs.declared.stable.Stable.{Stable}
use Rattle.cg_records.specs.Limits.{IsNumber, IsPrimary, IsMaybeVulnerable, IsYellow, IsStable}
use Rattle.cg_records.specs.Bytes.{spelled_set, spelled_vulnerable, spelled_yellow}
use Rattle.cg_records.specs.Reading.{take_number, take_set, take_maybe_vulnerable, take_yellow}
use Rattle.cg_records.specs.RecordLaws.{number_field, set_field, maybe_vulnerable_field, yellow_field}
use Rattle.cg_older.specs.Bytes.{spelled_old_prim, spelled_old_stable}
use Rattle.cg_older.specs.Reading.{old_prim_reading, old_stable_reading}
use Rattle.cg_older.specs.Weights.{is_heavy_member}
use Rattle.cg_older.proofs.Light.{once-within, once-light, light-once}
use Rattle.cg_base.specs.WeightLaws.{ids-each_once}

-- ---- a primary component

pub record IsLightPrimary (p : Primary) : Type 0 where
  pub is : IsPrimary p
  pub light : list_any is_heavy_member p.set ≡ false

abbrev prim_is : ℕ → ℕ → List ℕ → Primary
prim_is index conf set = record { index = index; conf = conf; set = each_once set }

ids-within : (p : Primary) → IsLightPrimary p → IsSet (ids p.set)
ids-within p has = record { ascends = has.is.set.ascends }

prim-same : (p : Primary) → IsLightPrimary p → prim_is p.index p.conf (ids p.set) ≡ p
prim-same p has = λ i. record { index = p.index; conf = p.conf; set = light-once p.set has.is.set.weigh has.light i }

prim-within : (index conf : ℕ) (set : List ℕ) → IsNumber index → IsNumber conf → IsSet set → IsLightPrimary (prim_is index conf set)
prim-within index conf set i c s = record { is = record { index = i; conf = c; set = once-within set s }; light = once-light set }

prim_field : IsField IsLightPrimary spelled_old_prim old_prim_reading
unfolding spelled_old_prim old_prim_reading
prim_field =
    field_three prim_is (λ p. p.index) (λ p. p.conf) (λ p. ids p.set) IsNumber IsNumber IsSet number64 number64 spelled_set take_number take_number take_set IsLightPrimary spelled_old_prim
    number_field number_field set_field
    (λ p has. (has.is.index, has.is.conf, ids-within p has, prim-same p has, refl))
    (λ index conf set i c s. (prim-within index conf set i c s, refl, refl, ids-each_once set))

-- ---- all of it

pub record IsLightStable (s : Stable) : Type 0 where
  pub is : IsStable s
  pub light : list_any is_heavy_member s.prim.set ≡ false

abbrev stable_is : Primary → ℕ → Option Vulnerable → Yellow → ℕ → Stable
stable_is prim attempt_index vulnerable yellow created =
    record { prim = prim; attempt_index = attempt_index; vulnerable = vulnerable; yellow = yellow; created = created }

abbrev behind_attempt : Stable → List ℕ
behind_attempt s = optional spelled_vulnerable s.vulnerable ++ (spelled_yellow s.yellow ++ number64 s.created)

abbrev read_vulnerable : Primary → ℕ → Reading Stable
read_vulnerable prim attempt = take_maybe_vulnerable >>= λ vulnerable. take_yellow >>= λ yellow. take_number >>= λ created. done (stable_is prim attempt vulnerable yellow created)

abbrev WithPrim : Primary → Stable → Type 0
WithPrim prim s = IsLightStable s × (s.prim ≡ prim)

abbrev WithAttempt : Primary → ℕ → Stable → Type 0
WithAttempt prim attempt s = WithPrim prim s × (s.attempt_index ≡ attempt)

rest-same : (prim : Primary) (attempt : ℕ) (s : Stable) → WithAttempt prim attempt s → stable_is prim attempt s.vulnerable s.yellow s.created ≡ s
rest-same prim attempt s has = λ i. record {
  prim = sym has.0.1 i;
  attempt_index = sym has.1 i;
  vulnerable = s.vulnerable;
  yellow = s.yellow;
  created = s.created;
}

pub stable_field : IsField IsLightStable spelled_old_stable old_stable_reading
unfolding spelled_old_stable old_stable_reading
stable_field =
    field_bind (λ (s : Stable). s.prim) IsLightPrimary spelled_old_prim old_prim_reading IsLightStable (λ (s : Stable). number64 s.attempt_index ++ behind_attempt s)
    (λ prim. take_number >>= read_vulnerable prim) (λ s has. record { is = has.is.prim; light = has.light }) prim_field
    (λ prim is_prim.
    field_bind (λ (s : Stable). s.attempt_index) IsNumber number64 take_number (WithPrim prim) behind_attempt (read_vulnerable prim) (λ s has. has.0.is.attempt_index) number_field
    (λ attempt is_attempt.
    field_three (stable_is prim attempt) (λ s. s.vulnerable) (λ s. s.yellow) (λ s. s.created) IsMaybeVulnerable IsYellow IsNumber (optional spelled_vulnerable) spelled_yellow number64 take_maybe_vulnerable take_yellow take_number (WithAttempt prim attempt) behind_attempt
    maybe_vulnerable_field yellow_field number_field
    (λ s has. (has.0.0.is.vulnerable, has.0.0.is.yellow, has.0.0.is.created, rest-same prim attempt s has, refl))
    (λ vulnerable yellow created v y c. (
      (
        (
          record {
            is = record { prim = is_prim.is; attempt_index = is_attempt; vulnerable = v; yellow = y; created = c };
            light = is_prim.light;
          },
          refl,
        ),
        refl,
      ),
      refl,
      refl,
      refl,
    ))))

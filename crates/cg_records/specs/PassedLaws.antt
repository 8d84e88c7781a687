-- What a field that was read has passed.
use Rattle.std.proofs.Common.{◌≡◌, ℕ, ◌<◌, ◌≤◌, ◌&&◌, ltb, leb, Ok}
use Rattle.std.proofs.lemmas.Bool.{ltb-true, leb-true, and_parts}
use Rattle.cg_base.specs.declared.limits.TheConstants.{NUMBER_LIMIT}
use Rattle.cg_base.specs.declared.action_id.ActionId.{ActionId}
use Rattle.cg_base.specs.declared.weighted.Weighted.{Weighted}
use Rattle.cg_codec.specs.Reading.{Unread, ◌>>=◌, done, take_u8, take_u64}
use Rattle.cg_codec.specs.FieldLaws.{passed-ok, go_on-ok, given}
use Rattle.cg_records.specs.Reading.{take_id_above, take_index, take_weight, take_weighted_above, take_name_above}

pub id_above-ok : (last id : ℕ) (old new : Unread) → take_id_above last old ≡ Ok (id, new) → (last < id) × (id ≤ 32)
unfolding take_id_above
id_above-ok last id old new e =
    let p = passed-ok (λ n. ltb last n && leb n 32) old.at (take_u8 old) id new e in
    let parts = and_parts (ltb last id) (leb id 32) p.1 in
    (ltb-true last id parts.0, leb-true id 32 parts.1)

pub weight-ok : (weight : ℕ) (old new : Unread) → take_weight old ≡ Ok (weight, new) → 1 ≤ weight
unfolding take_weight
weight-ok weight old new e = let p = passed-ok (ltb 0) old.at (take_u8 old) weight new e in ltb-true 0 weight p.1

pub index-ok : (index : ℕ) (old new : Unread) → take_index old ≡ Ok (index, new) → (1 ≤ index) × (index < NUMBER_LIMIT)
unfolding take_index
index-ok index old new e =
    let p = passed-ok (λ n. ltb 0 n && ltb n NUMBER_LIMIT) old.at (take_u64 old) index new e in
    let parts = and_parts (ltb 0 index) (ltb index NUMBER_LIMIT) p.1 in
    (ltb-true 0 index parts.0, ltb-true index NUMBER_LIMIT parts.1)

-- what a member with its weight has
pub record Weighs (last : ℕ) (m : Weighted) : Type 0 where
  pub above : last < m.id
  pub weight : 1 ≤ m.weight

abbrev weighted : ℕ → ℕ → Weighted
weighted id weight = record { id = id; weight = weight }

pub weighted_above-ok : (last : ℕ) (m : Weighted) (old new : Unread) →
    take_weighted_above last old ≡ Ok (m, new) → Weighs last m
unfolding take_weighted_above
weighted_above-ok last m old new e =
    let first = go_on-ok (take_id_above last old) (λ id. take_weight >>= λ weight. done (weighted id weight)) m new e in
    let second = go_on-ok (take_weight first.1) (λ weight. done (weighted first.0 weight)) m new first.3 in
    let same = given (weighted first.0 second.0) m second.1 new second.3 in
    rw (← same.0) record {
      above = (id_above-ok last first.0 old first.1 first.2).0;
      weight = weight-ok second.0 first.1 second.1 second.2;
    }

-- what the name of an action has
pub record Names (last : ℕ) (id : ActionId) : Type 0 where
  pub above : last < id.creator
  pub index : 1 ≤ id.index

abbrev name : ℕ → ℕ → ActionId
name creator index = record { creator = creator; index = index }

pub name_above-ok : (last : ℕ) (id : ActionId) (old new : Unread) →
    take_name_above last old ≡ Ok (id, new) → Names last id
unfolding take_name_above
name_above-ok last id old new e =
    let first = go_on-ok (take_id_above last old) (λ creator. take_index >>=
    λ index. done (name creator index)) id new e in
    let second = go_on-ok (take_index first.1) (λ index. done (name first.0 index)) id new first.3 in
    let same = given (name first.0 second.0) id second.1 new second.3 in
    rw (← same.0) record {
      above = (id_above-ok last first.0 old first.1 first.2).0;
      index = (index-ok second.0 first.1 second.1 second.2).0;
    }

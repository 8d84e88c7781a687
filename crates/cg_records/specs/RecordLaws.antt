-- Each record is exactly its spelling, by the laws on fields.
use Rattle.std.proofs.Common.{◌≡◌, ℕ, suc, ◌-◌, ◌^◌, ◌<◌, ◌≤◌, Bool, true, ◌&&◌, ltb, leb, List, [], ◌∷◌, ◌++◌, length, map, refl, sym, ap, ◌∙◌, arith}
use Rattle.std.proofs.lemmas.List.Sums.{fold_push}
use Rattle.std.specs.Prelude.{Option}
use Rattle.std.proofs.lemmas.Bool.{ltb-true, leb-true, lt-ltb, le-leb, and_parts, and_from}
use Rattle.std.proofs.lemmas.List.{length-map}
use Rattle.cg_base.specs.declared.limits.TheConstants.{LIST_LIMIT, NUMBER_LIMIT}
use Rattle.cg_base.specs.declared.action_id.ActionId.{ActionId}
use Rattle.cg_base.specs.declared.weighted.Weighted.{Weighted}
use Rattle.cg_base.specs.Sets.{IsId, IsSet, Ascends}
use Rattle.cg_base.specs.Weights.{ids, Weigh, IsWeightSet}
use Rattle.cg_base.specs.Cuts.{creators_in}
use Rattle.cg_base.specs.SlotLaws.{map-itself}
use Rattle.cg_base.specs.SetLaws.{length-Ascends}
use Rattle.cg_codec.specs.Fields.{byte, number64, truth, list, optional}
use Rattle.cg_codec.specs.Reading.{Reading, ◌>>=◌, done, only, take_u8, take_u64, take_truth, take_list}
use Rattle.cg_codec.specs.Laws.{IsField, IsWhole, EachBehind}
use Rattle.cg_codec.specs.FieldLaws.{field_has, field_only, field_bind, field_map, field_optional, field_whole}
use Rattle.cg_codec.specs.PlainLaws.{IsBelow, u8_field, u64_field, truth_field, count_field}
use Rattle.cg_codec.specs.ListLaws.{field_list}
use Rattle.cg_records.specs.declared.primary.Primary.{Primary}
use Rattle.cg_records.specs.declared.vulnerable.Vulnerable.{Vulnerable}
use Rattle.cg_records.specs.declared.yellow.Yellow.{Yellow}
use Rattle.cg_records.specs.declared.stable.Stable.{Stable}
use Rattle.cg_base.specs.Lists.{Each}
use Rattle.cg_records.specs.Limits.{IsNumber, IsIndex, IsName, IsSmallCut, IsPrimary, IsVulnerable, IsMaybeVulnerable, IsYellow, IsStable}
use Rattle.cg_codec.specs.Fields.{spelled_id}
use Rattle.cg_records.specs.Bytes.{spelled_set, spelled_names, spelled_cut, spelled_weighted, spelled_weight_set, spelled_prim, spelled_vulnerable, spelled_yellow, spelled_stable}
use Rattle.cg_records.specs.Reading.{take_number, take_index, take_id_above, last_of, take_set, take_weight, take_weighted_above, take_weight_set, take_name_above, take_cut, take_names, take_prim, take_vulnerable, take_maybe_vulnerable, take_yellow, take_stable}

-- ---- what comes last

pub last_of-push : (ps : List ℕ) (p : ℕ) → last_of (ps ++ p ∷ []) ≡ p
last_of-push ps p = fold_push (λ _ q. q) 0 ps p

pub map-push : {X : Type 0} (key : X → ℕ) (xs : List X) (x : X) → map key (xs ++ x ∷ []) ≡ map key xs ++ key x ∷ []
map-push key [] x = refl
map-push key (y ∷ xs) x = ap (λ ks. key y ∷ ks) (map-push key xs x)

-- ---- numbers

pub number_field : IsField IsNumber number64 take_number
unfolding take_number
number_field =
    field_has (λ n. IsBelow (2 ^ 64) n × (ltb n NUMBER_LIMIT ≡ true)) IsNumber
    number64 (only (λ n. ltb n NUMBER_LIMIT) take_u64)
    (λ n has. ltb-true n NUMBER_LIMIT has.1) (λ n has. (omega arith, lt-ltb n NUMBER_LIMIT has))
    (field_only (IsBelow (2 ^ 64)) number64 take_u64 (λ n. ltb n NUMBER_LIMIT) u64_field)

is_index : (n : ℕ) → (ltb 0 n && ltb n NUMBER_LIMIT) ≡ true → IsIndex n
is_index n e = let parts = and_parts (ltb 0 n) (ltb n NUMBER_LIMIT) e in (ltb-true 0 n parts.0, ltb-true n NUMBER_LIMIT parts.1)

index_passes : (n : ℕ) → IsIndex n → (ltb 0 n && ltb n NUMBER_LIMIT) ≡ true
index_passes n has = and_from (ltb 0 n) (ltb n NUMBER_LIMIT) (lt-ltb 0 n has.0) (lt-ltb n NUMBER_LIMIT has.1)

index_field : IsField IsIndex number64 take_index
unfolding take_index
index_field =
    field_has (λ n. IsBelow (2 ^ 64) n × ((ltb 0 n && ltb n NUMBER_LIMIT) ≡ true)) IsIndex
    number64 (only (λ n. ltb 0 n && ltb n NUMBER_LIMIT) take_u64)
    (λ n has. is_index n has.1) (λ n has. (let small : n < NUMBER_LIMIT = has.1 in omega arith, index_passes n has))
    (field_only (IsBelow (2 ^ 64)) number64 take_u64 (λ n. ltb 0 n && ltb n NUMBER_LIMIT) u64_field)

abbrev pub IsWeight : ℕ → Type 0
IsWeight n = (1 ≤ n) × (n ≤ 255)

pub weight_field : IsField IsWeight byte take_weight
unfolding take_weight
weight_field =
    field_has (λ n. IsBelow 256 n × (ltb 0 n ≡ true)) IsWeight byte (only (ltb 0) take_u8)
    (λ n has. let low : 0 < n = ltb-true 0 n has.1 in let high : n < 256 = has.0 in (omega arith, omega arith))
    (λ n has. let low : 1 ≤ n = has.0 in let high : n ≤ 255 = has.1 in (omega arith, lt-ltb 0 n low))
    (field_only (IsBelow 256) byte take_u8 (ltb 0) u8_field)

-- an identifier that may come behind the last one
abbrev pub Follows : ℕ → ℕ → Type 0
Follows last id = (last < id) × (id ≤ 32)

pub id_field : (last : ℕ) → IsField (Follows last) byte (take_id_above last)
unfolding take_id_above
id_field last =
    field_has (λ n. IsBelow 256 n × ((ltb last n && leb n 32) ≡ true)) (Follows last)
    byte (only (λ n. ltb last n && leb n 32) take_u8)
    (λ n has. let parts = and_parts (ltb last n) (leb n 32) has.1 in (ltb-true last n parts.0, leb-true n 32 parts.1))
    (λ n has. (
      let high : n ≤ 32 = has.1 in omega arith,
      and_from (ltb last n) (leb n 32) (lt-ltb last n has.0) (le-leb n 32 has.1),
    ))
    (field_only (IsBelow 256) byte take_u8 (λ n. ltb last n && leb n 32) u8_field)

pub any_id_field : IsField IsId byte (take_id_above 0)
any_id_field =
    field_has (Follows 0) IsId byte (take_id_above 0)
    (λ n has. let low : 0 < n = has.0 in (omega arith, has.1)) (λ n has. let low : 1 ≤ n = has.0 in
    (omega arith, has.1)) (id_field 0)

-- ---- names and members

abbrev FollowsWeighted : ℕ → Weighted → Type 0
FollowsWeighted last m = Follows last m.id × IsWeight m.weight

abbrev member : ℕ → ℕ → Weighted
member id weight = record { id = id; weight = weight }

weighted_field : (last : ℕ) → IsField (FollowsWeighted last) spelled_weighted (take_weighted_above last)
unfolding spelled_weighted take_weighted_above
weighted_field last =
    field_bind (λ (m : Weighted). m.id) (Follows last)
    byte (take_id_above last) (FollowsWeighted last) (λ (m : Weighted). byte m.weight) (λ id. take_weight >>=
    λ weight. done (member id weight))
    (λ m has. has.0) (id_field last)
    (λ id follows. field_map (member id) (λ (m : Weighted). m.weight) IsWeight byte
    take_weight (λ (m : Weighted). FollowsWeighted last m × (m.id ≡ id))
    (λ m has. (has.0.1, ap (λ p. member p m.weight) (sym has.1))) (λ weight
    has. (((follows, has), refl), refl)) weight_field)

abbrev FollowsName : ℕ → ActionId → Type 0
FollowsName last id = Follows last id.creator × IsIndex id.index

abbrev name : ℕ → ℕ → ActionId
name creator index = record { creator = creator; index = index }

name_field : (last : ℕ) → IsField (FollowsName last) spelled_id (take_name_above last)
unfolding take_name_above
name_field last =
    field_bind (λ (id : ActionId). id.creator) (Follows last)
    byte (take_id_above last) (FollowsName last) (λ (id : ActionId). number64 id.index) (λ creator. take_index >>=
    λ index. done (name creator index))
    (λ id has. has.0) (id_field last)
    (λ creator follows. field_map (name creator) (λ (id : ActionId). id.index) IsIndex number64
    take_index (λ (id : ActionId). FollowsName last id × (id.creator ≡ creator))
    (λ id has. (has.0.1, ap (λ p. name p id.index) (sym has.1))) (λ index
    has. (((follows, has), refl), refl)) index_field)

any_name_field : IsField IsName spelled_id (take_name_above 0)
any_name_field =
    field_has (FollowsName 0) IsName spelled_id (take_name_above 0)
    (λ id has. let low : 0 < id.creator = has.0.0 in
    ((omega arith, has.0.1), has.1)) (λ id has. let low : 1 ≤ id.creator = has.0.0 in
    ((omega arith, has.0.1), has.1)) (name_field 0)

-- ---- lists whose keys ascend

-- an item that may come behind those that were taken
abbrev Behind : {X : Type 0} → (X → ℕ) → (X → Type 0) → (List X → List ℕ) → List X → X → Type 0
Behind key P keys taken x = Follows (last_of (keys taken)) (key x) × P x

-- the keys of a longer list
abbrev Pushes : {X : Type 0} → (X → ℕ) → (List X → List ℕ) → Type 0
Pushes {X} key keys = (xs : List X) (x : X) → keys (xs ++ x ∷ []) ≡ keys xs ++ key x ∷ []

behind-ascends : {X : Type 0} (key : X → ℕ) (P : X → Type 0) (keys : List X →
    List ℕ) (push : Pushes key keys) (xs taken : List X)
    → EachBehind (Behind key P keys) taken xs → Ascends (suc (last_of (keys taken))) (map key xs) × Each P xs
behind-ascends key P keys push [] taken behind = (tt, tt)
behind-ascends {X} key P keys push (x ∷ xs) taken behind =
    let last : last_of (keys (taken ++ x ∷ [])) ≡ key x =
    ap last_of (push taken x) ∙ last_of-push (keys taken) (key x) in
    let rest = behind-ascends key P keys push xs (taken ++ x ∷ []) behind.1 in
    let more : Ascends (suc (key x)) (map key xs) = rw last at rest.0 in
    ((behind.0.0.0, behind.0.0.1, more), (behind.0.1, rest.1))

ascends-behind : {X : Type 0} (key : X → ℕ) (P : X → Type 0) (keys : List X →
    List ℕ) (push : Pushes key keys) (xs taken : List X)
    → Ascends (suc (last_of (keys taken))) (map key xs) → Each P xs → EachBehind (Behind key P keys) taken xs
ascends-behind key P keys push [] taken ascends each = tt
ascends-behind {X} key P keys push (x ∷ xs) taken ascends each =
    let last : last_of (keys (taken ++ x ∷ [])) ≡ key x =
    ap last_of (push taken x) ∙ last_of-push (keys taken) (key x) in
    let more : Ascends (suc (last_of (keys (taken ++ x ∷ [])))) (map key xs) = rw last ascends.2 in
    (((ascends.0, ascends.1), each.0), ascends-behind key P keys push xs (taken ++ x ∷ []) more each.1)

-- a list of at most 32 items whose keys ascend from 1 on
pub record IsAscendingList {X : Type 0} (key : X → ℕ) (P : X → Type 0) (xs : List X) : Type 0 where
  ascends : Ascends 1 (map key xs)
  each : Each P xs

ascending_field : {X : Type 0} (key : X → ℕ) (P : X → Type 0) (keys : List X →
    List ℕ) (push : Pushes key keys) (none : last_of (keys []) ≡ 0) (spelling : X → List ℕ) (item : List X → Reading X)
    → ((taken : List X) → IsField (Behind key P keys taken) spelling (item taken)) →
    IsField (IsAscendingList key P) (list spelling) (take_list 32 item)
ascending_field {X} key P keys push none spelling item fields =
    field_has (λ (xs : List X). (length xs ≤ 32)
    × EachBehind (Behind key P keys) [] xs) (IsAscendingList key P) (list spelling) (take_list 32 item)
    (λ xs has. let a = behind-ascends key P keys push xs [] has.1 in record { ascends = rw none at a.0; each = a.1 })
    (λ xs has. (
      omega (arith, length-Ascends (map key xs) 1 (omega arith) has.ascends, length-map xs key),
      ascends-behind key P keys push xs [] (rw none has.ascends) has.each,
    ))
    (field_list 32 (Behind key P keys) spelling item (count_field 32 (omega arith)) fields)

-- ---- sets and cuts

nothing : {X : Type 0} (xs : List X) → Each (λ _. Unit {0}) xs
nothing [] = tt
nothing (x ∷ xs) = (tt, nothing xs)

pub set_field : IsField IsSet spelled_set take_set
unfolding spelled_set take_set
set_field =
    field_has (IsAscendingList (λ p. p) (λ _. Unit {0})) IsSet (list byte) take_set
    (λ set has. record { ascends = rw map-itself at has.ascends })
    (λ set has. record { ascends = rw map-itself has.ascends; each = nothing set })
    (ascending_field (λ p. p) (λ _. Unit {0}) (λ set. set) (λ set p. refl) refl
    byte (λ taken. take_id_above (last_of taken))
    (λ taken. field_has (Follows (last_of taken)) (λ p. Follows (last_of taken) p × Unit {0})
    byte (take_id_above (last_of taken)) (λ p has. (has, tt)) (λ p has. has.0) (id_field (last_of taken))))

weigh : (set : List Weighted) → Each (λ m. IsWeight m.weight) set → Weigh set
weigh [] each = tt
weigh (m ∷ set) each = (each.0.0, each.0.1, weigh set each.1)

weighed : (set : List Weighted) → Weigh set → Each (λ m. IsWeight m.weight) set
weighed [] each = tt
weighed (m ∷ set) each = ((each.0, each.1), weighed set each.2)

pub weight_set_field : IsField IsWeightSet spelled_weight_set take_weight_set
unfolding spelled_weight_set take_weight_set
weight_set_field =
    field_has (IsAscendingList (λ m. m.id) (λ m. IsWeight m.weight)) IsWeightSet (list spelled_weighted) take_weight_set
    (λ set has. record { ascends = has.ascends; weigh = weigh set has.each }) (λ set
    has. record { ascends = has.ascends; each = weighed set has.weigh })
    (ascending_field (λ m. m.id) (λ m. IsWeight m.weight) ids (λ set m. map-push (λ n. n.id) set m) refl
    spelled_weighted (λ taken. take_weighted_above (last_of (ids taken)))
    (λ taken. weighted_field (last_of (ids taken))))

pub cut_field : IsField IsSmallCut spelled_cut take_cut
unfolding spelled_cut take_cut
cut_field =
    field_has (IsAscendingList (λ t. t.creator) (λ t. IsIndex t.index)) IsSmallCut (list spelled_id) take_cut
    (λ cut has. record { ascends = has.ascends; indexes = has.each }) (λ cut
    has. record { ascends = has.ascends; each = has.indexes })
    (ascending_field (λ t. t.creator) (λ t. IsIndex t.index) creators_in (λ cut t. map-push (λ u. u.creator) cut t) refl
    spelled_id (λ taken. take_name_above (last_of (creators_in taken)))
    (λ taken. name_field (last_of (creators_in taken))))

-- ---- names in any order

each-behind : (xs taken : List ActionId) → EachBehind (λ _. IsName) taken xs → Each IsName xs
each-behind [] taken behind = tt
each-behind (x ∷ xs) taken behind = (behind.0, each-behind xs (taken ++ x ∷ []) behind.1)

behind-each : (xs taken : List ActionId) → Each IsName xs → EachBehind (λ _. IsName) taken xs
behind-each [] taken each = tt
behind-each (x ∷ xs) taken each = (each.0, behind-each xs (taken ++ x ∷ []) each.1)

-- names of actions, of which there are not too many
pub record AreNames (ids : List ActionId) : Type 0 where
  short : length ids < LIST_LIMIT
  names : Each IsName ids

names_field : IsField AreNames spelled_names take_names
unfolding spelled_names take_names
names_field =
    field_has (λ ids. (length ids ≤ LIST_LIMIT - 1) × EachBehind (λ _. IsName) [] ids) AreNames (list spelled_id) take_names
    (λ ids has. let short : length ids ≤ LIST_LIMIT - 1 = has.0 in
    record { short = omega arith; names = each-behind ids [] has.1 })
    (λ ids has. let short = has.short in (omega arith, behind-each ids [] has.names))
    (field_list (LIST_LIMIT - 1) (λ _. IsName)
    spelled_id (λ _. take_name_above 0) (count_field (LIST_LIMIT - 1) (omega arith)) (λ _. any_name_field))

-- ---- records

abbrev prim_is : ℕ → ℕ → List Weighted → Primary
prim_is index conf set = record { index = index; conf = conf; set = set }

pub prim_field : IsField IsPrimary spelled_prim take_prim
unfolding spelled_prim take_prim
prim_field =
    field_bind (λ (p : Primary). p.index) IsNumber number64 take_number
    IsPrimary (λ (p : Primary). number64 p.conf ++ spelled_weight_set p.set)
    (λ index. take_number >>= λ conf. take_weight_set >>= λ set. done (prim_is index conf set)) (λ p
    has. has.index) number_field
    (λ index is_index.
    field_bind (λ (p : Primary). p.conf) IsNumber number64
    take_number (λ (p : Primary). IsPrimary p × (p.index ≡ index)) (λ (p : Primary). spelled_weight_set p.set)
    (λ conf. take_weight_set >>= λ set. done (prim_is index conf set)) (λ p has. has.0.conf) number_field
    (λ conf is_conf.
    field_map (prim_is index conf) (λ (p : Primary). p.set) IsWeightSet spelled_weight_set
    take_weight_set (λ (p : Primary). (IsPrimary p × (p.index ≡ index)) × (p.conf ≡ conf))
    (λ p has. (has.0.0.set, rw (← has.0.1, ← has.1) refl))
    (λ set is_set. (((record { index = is_index; conf = is_conf; set = is_set }, refl), refl), refl)) weight_set_field))

abbrev vulnerable_is : ℕ → ℕ → List ℕ → List ℕ → Vulnerable
vulnerable_is attempt from set bits = record { attempt = attempt; from = from; set = set; bits = bits }

pub vulnerable_field : IsField IsVulnerable spelled_vulnerable take_vulnerable
unfolding spelled_vulnerable take_vulnerable
vulnerable_field =
    field_bind (λ (v : Vulnerable). v.attempt) IsNumber number64 take_number
    IsVulnerable (λ (v : Vulnerable). number64 v.from ++ (spelled_set v.set ++ spelled_set v.bits))
    (λ attempt. take_number >>= λ from. take_set >>= λ set. take_set >>=
    λ bits. done (vulnerable_is attempt from set bits)) (λ v has. has.attempt) number_field
    (λ attempt is_attempt.
    field_bind (λ (v : Vulnerable). v.from) IsNumber number64 take_number (λ (v : Vulnerable). IsVulnerable v
    × (v.attempt ≡ attempt)) (λ (v : Vulnerable). spelled_set v.set ++ spelled_set v.bits)
    (λ from. take_set >>= λ set. take_set >>= λ bits. done (vulnerable_is attempt from set bits)) (λ v
    has. has.0.from) number_field
    (λ from is_from.
    field_bind (λ (v : Vulnerable). v.set) IsSet spelled_set
    take_set (λ (v : Vulnerable). (IsVulnerable v × (v.attempt ≡ attempt))
    × (v.from ≡ from)) (λ (v : Vulnerable). spelled_set v.bits)
    (λ set. take_set >>= λ bits. done (vulnerable_is attempt from set bits)) (λ v has. has.0.0.set) set_field
    (λ set is_set.
    field_map (vulnerable_is attempt from set) (λ (v : Vulnerable). v.bits) IsSet spelled_set
    take_set (λ (v : Vulnerable). ((IsVulnerable v × (v.attempt ≡ attempt)) × (v.from ≡ from)) × (v.set ≡ set))
    (λ v has. (has.0.0.0.bits, rw (← has.0.0.1, ← has.0.1, ← has.1) refl))
    (λ bits is_bits. (
      (
        ((record { attempt = is_attempt; from = is_from; set = is_set; bits = is_bits }, refl), refl),
        refl,
      ),
      refl,
    )) set_field)))

pub maybe_vulnerable_field : IsField IsMaybeVulnerable (optional spelled_vulnerable) take_maybe_vulnerable
unfolding take_maybe_vulnerable
maybe_vulnerable_field = field_optional IsVulnerable spelled_vulnerable take_vulnerable truth_field vulnerable_field

abbrev yellow_is : Bool → List ActionId → Yellow
yellow_is valid list = record { valid = valid; list = list }

pub yellow_field : IsField IsYellow spelled_yellow take_yellow
unfolding spelled_yellow take_yellow
yellow_field =
    field_bind (λ (y : Yellow). y.valid) (λ (b : Bool). Unit {0}) truth take_truth
    IsYellow (λ (y : Yellow). spelled_names y.list) (λ valid. take_names >>= λ list. done (yellow_is valid list))
    (λ y has. tt) truth_field
    (λ valid any.
    field_map (yellow_is valid) (λ (y : Yellow). y.list) AreNames spelled_names
    take_names (λ (y : Yellow). IsYellow y × (y.valid ≡ valid))
    (λ y has. (record { short = has.0.short; names = has.0.names }, rw (← has.1) refl))
    (λ ids has. ((record { short = has.short; names = has.names }, refl), refl)) names_field)

abbrev stable_is : Primary → ℕ → Option Vulnerable → Yellow → ℕ → Stable
stable_is prim attempt_index vulnerable yellow created =
    record { prim = prim; attempt_index = attempt_index; vulnerable = vulnerable; yellow = yellow; created = created }

pub stable_field : IsField IsStable spelled_stable take_stable
unfolding spelled_stable take_stable
stable_field =
    field_bind (λ (s : Stable). s.prim) IsPrimary spelled_prim take_prim IsStable
    (λ (s : Stable). number64 s.attempt_index
    ++ (optional spelled_vulnerable s.vulnerable ++ (spelled_yellow s.yellow ++ number64 s.created)))
    (λ prim. take_number >>= λ attempt. take_maybe_vulnerable >>= λ vulnerable. take_yellow >>= λ yellow. take_number
    >>= λ created. done (stable_is prim attempt vulnerable yellow created))
    (λ s has. has.prim) prim_field
    (λ prim is_prim.
    field_bind (λ (s : Stable). s.attempt_index) IsNumber number64
    take_number (λ (s : Stable). IsStable s × (s.prim ≡ prim))
    (λ (s : Stable). optional spelled_vulnerable s.vulnerable ++ (spelled_yellow s.yellow ++ number64 s.created))
    (λ attempt. take_maybe_vulnerable >>= λ vulnerable. take_yellow >>= λ yellow. take_number >>=
    λ created. done (stable_is prim attempt vulnerable yellow created))
    (λ s has. has.0.attempt_index) number_field
    (λ attempt is_attempt.
    field_bind (λ (s : Stable). s.vulnerable) IsMaybeVulnerable (optional spelled_vulnerable)
    take_maybe_vulnerable (λ (s : Stable). (IsStable s × (s.prim ≡ prim)) × (s.attempt_index ≡ attempt))
    (λ (s : Stable). spelled_yellow s.yellow ++ number64 s.created)
    (λ vulnerable. take_yellow >>= λ yellow. take_number >>=
    λ created. done (stable_is prim attempt vulnerable yellow created))
    (λ s has. has.0.0.vulnerable) maybe_vulnerable_field
    (λ vulnerable is_vulnerable.
    field_bind (λ (s : Stable). s.yellow) IsYellow spelled_yellow
    take_yellow (λ (s : Stable). ((IsStable s × (s.prim ≡ prim)) × (s.attempt_index ≡ attempt))
    × (s.vulnerable ≡ vulnerable))
    (λ (s : Stable). number64 s.created) (λ yellow. take_number >>=
    λ created. done (stable_is prim attempt vulnerable yellow created))
    (λ s has. has.0.0.0.yellow) yellow_field
    (λ yellow is_yellow.
    field_map (stable_is prim attempt vulnerable yellow) (λ (s : Stable). s.created) IsNumber number64 take_number
    (λ (s : Stable). (((IsStable s × (s.prim ≡ prim)) × (s.attempt_index ≡ attempt))
    × (s.vulnerable ≡ vulnerable)) × (s.yellow ≡ yellow))
    (λ s has. (has.0.0.0.0.created, rw (← has.0.0.0.1, ← has.0.0.1, ← has.0.1, ← has.1) refl))
    (λ created is_created. (
      (
        (
          (
            (
              record {
                prim = is_prim;
                attempt_index = is_attempt;
                vulnerable = is_vulnerable;
                yellow = is_yellow;
                created = is_created;
              },
              refl,
            ),
            refl,
          ),
          refl,
        ),
        refl,
      ),
      refl,
    )) number_field))))

pub stable_whole : IsWhole IsStable spelled_stable take_stable
stable_whole = field_whole IsStable spelled_stable take_stable stable_field

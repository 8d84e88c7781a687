-- Servers that lie in a set with weights and an array of lines.
use Rattle.std.proofs.Common.{◌≡◌, ℕ, suc, ◌<◌, ◌≤◌, ◌≢◌, ◌||◌, List, [], ◌∷◌, ◌++◌, map, filter, fold, cond, max, not, eqb, refl, sym, ap, ◌∙◌, arith, inl, inr, append_assoc}
use Rattle.std.proofs.lemmas.Bool.{cases_eq, cases_order, eq-eqb, ne_eqb, lt-ltb, le-ltb}
use Rattle.cg_base.specs.declared.weighted.Weighted.{Weighted}
use Rattle.cg_base.specs.Sets.{Ascends, has}
use Rattle.cg_base.specs.Slots.{array_slot}
use Rattle.cg_base.specs.Weights.{IsWeightSet, Weigh, ids, with_weight}
use Rattle.cg_base.specs.Calls.{weight_in}
use Rattle.cg_base.specs.ArrayLaws.{zeros, array_slot-zeros}
use Rattle.cg_base.specs.SetLaws.{Ascends-below}
use Rattle.cg_members.specs.View.{server_with}
use Rattle.cg_members.specs.Listed.{server_ids, line_of, AreServers, Count}
use Rattle.cg_members.specs.Servers.{is_among, weight_of, first_line, with_server, without_server, with_line}

-- ---- looking up

pub server_ids-with : (lines : List ℕ) (set : List Weighted) → server_ids (map (server_with lines) set) ≡ ids set
server_ids-with lines [] = refl
server_ids-with lines (m ∷ set) = ap (λ s. m.id ∷ s) (server_ids-with lines set)

pub lines-with : (lines : List ℕ) (set : List Weighted) → map (λ s. s.line) (map (server_with lines) set) ≡ map (array_slot lines) (ids set)
lines-with lines [] = refl
lines-with lines (m ∷ set) = ap (λ ns. array_slot lines m.id ∷ ns) (lines-with lines set)

pub is_among-with : (lines : List ℕ) (set : List Weighted) (p : ℕ) → is_among (map (server_with lines) set) p ≡ has (ids set) p
is_among-with lines [] p = refl
is_among-with lines (m ∷ set) p = ap (λ b. eqb m.id p || b) (is_among-with lines set p)

pub weight_of-with : (lines : List ℕ) (set : List Weighted) (p : ℕ) → weight_of (map (server_with lines) set) p ≡ weight_in set p
weight_of-with lines [] p = refl
weight_of-with lines (m ∷ set) p = ap (λ n. cond (eqb m.id p) m.weight n) (weight_of-with lines set p)

pub line_of-with : (lines : List ℕ) (set : List Weighted) (p : ℕ) → line_of (map (server_with lines) set) p ≡ cond (has (ids set) p) (array_slot lines p) 0
line_of-with lines [] p = refl
line_of-with lines (m ∷ set) p = elim (cases_eq m.id p) [
  | inl same ↦ rw (eq-eqb m.id p same) (ap (array_slot lines) same)
  | inr apart ↦ rw (ne_eqb m.id p apart) (line_of-with lines set p)
]

pub first_lines : (set : List Weighted) → map (server_with (zeros 32)) set ≡ map first_line set
first_lines [] = refl
first_lines (m ∷ set) = rw (array_slot-zeros m.id, first_lines set)

Count-with : (lines : List ℕ) (set : List Weighted) → Weigh set → Count (map (server_with lines) set)
Count-with lines [] weigh = tt
Count-with lines (m ∷ set) weigh = (weigh.0, weigh.1, Count-with lines set weigh.2)

pub AreServers-with : (lines : List ℕ) (set : List Weighted) → IsWeightSet set → AreServers (map (server_with lines) set)
AreServers-with lines set is_set = record { ascend = rw (server_ids-with lines set) is_set.ascends; count = Count-with lines set is_set.weigh }

-- ---- putting one in

-- other lines don't matter where the servers' own are the same
map_with-same : (lines others : List ℕ) (set : List Weighted) (low : ℕ) → Ascends low (ids set) → ((k : ℕ) → low ≤ k → array_slot others k ≡ array_slot lines k)
    → map (server_with others) set ≡ map (server_with lines) set
map_with-same lines others [] low ascends same = refl
map_with-same lines others (m ∷ set) low ascends same =
    let above : low ≤ m.id = ascends.0 in
    rw (same m.id above, map_with-same lines others set (suc m.id) ascends.2 (λ k le. same k (omega arith)))

pub map_with-put : (lines others : List ℕ) (set : List Weighted) (n : Weighted) (line low : ℕ) → 1 ≤ low → Ascends low (ids set) → array_slot others n.id ≡ line
    → ((k : ℕ) → 1 ≤ k → k ≢ n.id → array_slot others k ≡ array_slot lines k)
    → map (server_with others) (with_weight set n) ≡ with_server (map (server_with lines) set) (record { id = n.id; line = line; weight = n.weight })
map_with-put lines others [] n line low one ascends here same = rw here
map_with-put lines others (m ∷ set) n line low one ascends here same =
    let above : low ≤ m.id = ascends.0 in
    elim (cases_order n.id m.id) [
      | inl equal ↦ rw (eq-eqb n.id m.id equal, here, map_with-same lines others set (suc m.id) ascends.2 (λ k le. same k (omega arith) (λ e. omega arith)))
      | inr apart ↦ elim apart [
        | inl front ↦
            let own : array_slot others m.id ≡ array_slot lines m.id = same m.id (omega arith) (λ e. omega arith) in
            rw (ne_eqb n.id m.id (λ e. omega arith), lt-ltb n.id m.id front, here, own, map_with-same lines others set (suc m.id) ascends.2 (λ k le. same k (omega arith) (λ e. omega arith)))
        | inr later ↦
            let own : array_slot others m.id ≡ array_slot lines m.id = same m.id (omega arith) (λ e. omega arith) in
            rw (ne_eqb n.id m.id (λ e. omega arith), le-ltb n.id m.id (omega arith), own, map_with-put lines others set n line (suc m.id) (omega arith) ascends.2 here same)
      ]
    ]

-- ---- raising a line

pub map_with-raise : (lines others : List ℕ) (set : List Weighted) (p line low : ℕ) → 1 ≤ low → Ascends low (ids set) → array_slot others p ≡ max (array_slot lines p) line
    → ((k : ℕ) → 1 ≤ k → k ≢ p → array_slot others k ≡ array_slot lines k)
    → map (server_with others) set ≡ map (with_line p line) (map (server_with lines) set)
map_with-raise lines others [] p line low one ascends here same = refl
map_with-raise lines others (m ∷ set) p line low one ascends here same =
    let above : low ≤ m.id = ascends.0 in
    let rest = map_with-raise lines others set p line (suc m.id) (omega arith) ascends.2 here same in
    elim (cases_eq m.id p) [
      | inl equal ↦ rw (eq-eqb m.id p equal, rest, equal, here)
      | inr apart ↦ rw (ne_eqb m.id p apart, rest, same m.id (omega arith) apart)
    ]

-- ---- taking one out

-- the members other than the replica
abbrev pub others_than : ℕ → List Weighted → List Weighted
others_than p set = filter (λ m. not (eqb m.id p)) set

pub map_with-remove : (lines : List ℕ) (set : List Weighted) (p : ℕ) → map (server_with lines) (others_than p set) ≡ without_server (map (server_with lines) set) p
map_with-remove lines [] p = refl
map_with-remove lines (m ∷ set) p = elim (cases_eq m.id p) [
  | inl equal ↦ rw (eq-eqb m.id p equal) (map_with-remove lines set p)
  | inr apart ↦ rw (ne_eqb m.id p apart) (ap (λ s. server_with lines m ∷ s) (map_with-remove lines set p))
]

pub Ascends-others : (p : ℕ) (set : List Weighted) (low : ℕ) → Ascends low (ids set) → Ascends low (ids (others_than p set))
Ascends-others p [] low ascends = tt
Ascends-others p (m ∷ set) low ascends =
    let above : low ≤ m.id = ascends.0 in
    let rest = Ascends-others p set (suc m.id) ascends.2 in
    elim (cases_eq m.id p) [
      | inl equal ↦ rw (eq-eqb m.id p equal) (Ascends-below (ids (others_than p set)) (suc m.id) low (omega arith) rest)
      | inr apart ↦ rw (ne_eqb m.id p apart) (ascends.0, ascends.1, rest)
    ]

Weigh-others : (p : ℕ) (set : List Weighted) → Weigh set → Weigh (others_than p set)
Weigh-others p [] weigh = tt
Weigh-others p (m ∷ set) weigh = elim (cases_eq m.id p) [
  | inl equal ↦ rw (eq-eqb m.id p equal) (Weigh-others p set weigh.2)
  | inr apart ↦ rw (ne_eqb m.id p apart) (weigh.0, weigh.1, Weigh-others p set weigh.2)
]

pub IsWeightSet-others : (p : ℕ) (set : List Weighted) → IsWeightSet set → IsWeightSet (others_than p set)
IsWeightSet-others p set is_set = record { ascends = Ascends-others p set 1 is_set.ascends; weigh = Weigh-others p set is_set.weigh }

-- each member's name is below the number
abbrev pub AreBelow : ℕ → List Weighted → Type 0
AreBelow p [] = Unit {0}
AreBelow p (m ∷ set) = (m.id < p) × AreBelow p set

AreBelow-more : (p q : ℕ) (set : List Weighted) → p ≤ q → AreBelow p set → AreBelow q set
AreBelow-more p q [] le below = tt
AreBelow-more p q (m ∷ set) le below = let lt : m.id < p = below.0 in (omega arith, AreBelow-more p q set le below.1)

AreBelow-append : (p : ℕ) (set : List Weighted) (n : Weighted) → AreBelow p set → n.id < p → AreBelow p (set ++ n ∷ [])
AreBelow-append p [] n below lt = (lt, tt)
AreBelow-append p (m ∷ set) n below lt = (below.0, AreBelow-append p set n below.1 lt)

with_weight-last : (set : List Weighted) (n : Weighted) → AreBelow n.id set → with_weight set n ≡ set ++ n ∷ []
with_weight-last [] n below = refl
with_weight-last (m ∷ set) n below =
    let lt : m.id < n.id = below.0 in
    rw (ne_eqb n.id m.id (λ e. omega arith), le-ltb n.id m.id (omega arith)) (ap (λ s. m ∷ s) (with_weight-last set n below.1))

with_weights-ascending : (set more : List Weighted) (low : ℕ) → AreBelow low set → Ascends low (ids more) → fold with_weight set more ≡ set ++ more
with_weights-ascending set [] low below ascends = sym (append-none set)
  where
    append-none : (xs : List Weighted) → xs ++ [] ≡ xs
    append-none [] = refl
    append-none (x ∷ xs) = ap (λ ys. x ∷ ys) (append-none xs)
with_weights-ascending set (n ∷ more) low below ascends =
    let above : low ≤ n.id = ascends.0 in
    let last : with_weight set n ≡ set ++ n ∷ [] = with_weight-last set n (AreBelow-more low n.id set above below) in
    ap (λ s. fold with_weight s more) last
    ∙ with_weights-ascending (set ++ n ∷ []) more (suc n.id) (AreBelow-append (suc n.id) set n (AreBelow-more low (suc n.id) set (omega arith) below) (omega arith)) ascends.2
    ∙ append_assoc set (n ∷ []) more

-- an ascending list of members, put in one after another
pub with_weights-all : (set : List Weighted) → Ascends 1 (ids set) → fold with_weight [] set ≡ set
with_weights-all set ascends = with_weights-ascending [] set 1 tt ascends

-- Names in order are known from which names they are: so the names of reds are, creator by creator, those between two cuts.
use Rattle.std.proofs.Common.{◌≡◌, ℕ, zero, suc, ◌+◌, ◌-◌, ◌<◌, ◌≤◌, Bool, true, false, ◌&&◌, ◌||◌, List, [], ◌∷◌, ◌++◌, map, flat_map, refl, sym, ap, ap₂, ◌∙◌, subst, ⊎_elim, inl, inr, arith, eq-eqb}
use Rattle.std.specs.Prelude.{◌==◌, nat_lt, nat_le}
use Rattle.std.proofs.lemmas.Bool.{cases_eq, cases_lt, cases_Bool, and_parts, and_from, or_cases, or_left, lt-ltb, le-leb, le-ltb, ltb-true, leb-true, ne_eqb}
use Rattle.cg_base.specs.declared.action_id.ActionId.{ActionId}
use Rattle.cg_base.specs.Cuts.{index_in}
use Rattle.cg_base.specs.Ids.{same_id, id_before, has_name}
use Rattle.cg_base.specs.IdLaws.{same_id-true, same_id-false, before-index, before-creator, same_id-self, same_id-is, has_name-append}
use Rattle.cg_base.specs.Lists.{count_up, Each}
use Rattle.cg_base.specs.Sets.{has}
use Rattle.cg_base.specs.IdRuns.{names_above}
use Rattle.cg_base.specs.EachLaws.{Each-append}
use Rattle.cg_base.specs.BoolLaws.{or_false}
use Rattle.cg_model.specs.FactsLists.{IsRising}
use Rattle.cg_disk_records.specs.Holds.{run_on, cut_behind, ascend, Rising}
use Rattle.cg_disk_records.specs.RunMarkLaws.{run-names, before-parts, before-trans, ascend-less}

-- ---- names in order

-- what comes behind a later name comes behind this one
each-later : (x y : ActionId) (ids : List ActionId) → id_before x y ≡ true → Each (λ z. id_before y z ≡ true) ids → Each (λ z. id_before x z ≡ true) ids
each-later x y [] before each = tt
each-later x y (z ∷ ids) before each = (before-trans x y z before each.0, each-later x y ids before each.1)

-- a name comes before each that follows
ascend-each : (x : ActionId) (ids : List ActionId) → ascend (x ∷ ids) ≡ true → Each (λ y. id_before x y ≡ true) ids
ascend-each x [] up = tt
ascend-each x (y ∷ ids) up =
    let parts = and_parts (id_before x y) (ascend (y ∷ ids)) up in
    (parts.0, each-later x y ids parts.0 (ascend-each y ids parts.1))

-- none comes before itself
before-apart : (x y : ActionId) → id_before x y ≡ true → id_before y x ≡ true → ⊥
before-apart x y one two = ⊎_elim
    (λ (a : x.creator < y.creator). ⊎_elim (λ (b : y.creator < x.creator). omega arith) (λ (b : (y.creator ≡ x.creator) × (y.index < x.index)). (let e = b.0 in omega arith)) (before-parts y x two))
    (λ (a : (x.creator ≡ y.creator) × (x.index < y.index)). (let e = a.0 in let f = a.1 in
    ⊎_elim (λ (b : y.creator < x.creator). omega arith) (λ (b : (y.creator ≡ x.creator) × (y.index < x.index)). (let g = b.1 in omega arith)) (before-parts y x two)))
    (before-parts x y one)

-- a name among those that follow comes later
named-later : (x y : ActionId) (ids : List ActionId) → Each (λ z. id_before x z ≡ true) ids → has_name ids y ≡ true → id_before x y ≡ true
named-later x y [] each e = absurd (let clash : false ≡ true = e in cc)
named-later x y (z ∷ ids) each e = ⊎_elim
    (λ here. subst (λ w. id_before x w ≡ true) (sym (same_id-is y z here)) each.0)
    (λ there. named-later x y ids each.1 there)
    (or_cases (same_id y z) (has_name ids y) e)

-- a name that is first in order doesn't stand among the others
absent : (x : ActionId) (ids : List ActionId) → ascend (x ∷ ids) ≡ true → has_name ids x ≡ false
absent x ids up = ⊎_elim (λ there. (let later = named-later x x ids (ascend-each x ids up) there in absurd (before-apart x x later later))) (λ none. none) (cases_Bool (has_name ids x))

-- the first of two lists in order with the same names is one
same-first : (x y : ActionId) (xs ys : List ActionId) → ascend (x ∷ xs) ≡ true → ascend (y ∷ ys) ≡ true → ((id : ActionId) → has_name (x ∷ xs) id ≡ has_name (y ∷ ys) id) → x ≡ y
same-first x y xs ys up down same =
    let mine : has_name (y ∷ ys) x ≡ true = sym (same x) ∙ or_left (same_id x x) (has_name xs x) (same_id-self x) in
    let other : has_name (x ∷ xs) y ≡ true = same y ∙ or_left (same_id y y) (has_name ys y) (same_id-self y) in
    ⊎_elim
    (λ (here : same_id x y ≡ true). same_id-is x y here)
    (λ (later : has_name ys x ≡ true). ⊎_elim
    (λ (here : same_id y x ≡ true). sym (same_id-is y x here))
    (λ (there : has_name xs y ≡ true). absurd (before-apart y x (named-later y x ys (ascend-each y ys down) later) (named-later x y xs (ascend-each x xs up) there)))
    (or_cases (same_id y x) (has_name xs y) other))
    (or_cases (same_id x y) (has_name ys x) mine)

-- and so have the others the same names
same-rest : (x y : ActionId) (xs ys : List ActionId) → ascend (x ∷ xs) ≡ true → ascend (y ∷ ys) ≡ true → ((id : ActionId) → has_name (x ∷ xs) id ≡ has_name (y ∷ ys) id) → x ≡ y → (id : ActionId) → has_name xs id ≡ has_name ys id
same-rest x y xs ys up down same e id = ⊎_elim
    (λ (here : same_id id x ≡ true).
    let me : id ≡ x = same_id-is id x here in
    ap (has_name xs) me ∙ absent x xs up ∙ sym (ap (has_name ys) (me ∙ e) ∙ absent y ys down))
    (λ (apart : same_id id x ≡ false).
    sym (ap (λ b. b || has_name xs id) apart) ∙ same id ∙ ap (λ b. b || has_name ys id) (ap (same_id id) (sym e) ∙ apart))
    (cases_Bool (same_id id x))

-- two lists in order that have the same names are one
pub same-ascending : (xs ys : List ActionId) → ascend xs ≡ true → ascend ys ≡ true → ((id : ActionId) → has_name xs id ≡ has_name ys id) → xs ≡ ys
same-ascending [] [] up down same = refl
same-ascending [] (y ∷ ys) up down same = absurd (let clash : false ≡ true = same y ∙ or_left (same_id y y) (has_name ys y) (same_id-self y) in cc)
same-ascending (x ∷ xs) [] up down same = absurd (let clash : false ≡ true = sym (same x) ∙ or_left (same_id x x) (has_name xs x) (same_id-self x) in cc)
same-ascending (x ∷ xs) (y ∷ ys) up down same =
    let e = same-first x y xs ys up down same in
    ap₂ (λ z zs. z ∷ zs) e (same-ascending xs ys (ascend-less x xs up) (ascend-less y ys down) (same-rest x y xs ys up down same e))

-- ---- the names between two cuts

abbrev numbered : ℕ → ℕ → ℕ → List ActionId
numbered creator from count = map (λ n. record { creator = creator; index = n }) (count_up from count)

-- in order, in front of names of later creators
numbered-ascend : (creator from count : ℕ) (ids : List ActionId) → ascend ids ≡ true → Each (λ id. creator < id.creator) ids → ascend (numbered creator from count ++ ids) ≡ true
numbered-ascend creator from zero ids up each = up
numbered-ascend creator from (suc zero) [] up each = refl
numbered-ascend creator from (suc zero) (id ∷ ids) up each =
    let first : ActionId = record { creator = creator; index = from } in
    and_from (id_before first id) (ascend (id ∷ ids)) (before-creator first id each.0) up
numbered-ascend creator from (suc (suc count)) ids up each =
    let first : ActionId = record { creator = creator; index = from } in
    let second : ActionId = record { creator = creator; index = suc from } in
    and_from (id_before first second) (ascend (numbered creator (suc from) (suc count) ++ ids)) (before-index first second refl (omega arith)) (numbered-ascend creator (suc from) (suc count) ids up each)

-- which names these are
numbered-other : (creator from count : ℕ) (id : ActionId) → (id.creator ≡ creator → ⊥) → has_name (numbered creator from count) id ≡ false
numbered-other creator from zero id other = refl
numbered-other creator from (suc count) id other =
    ap (λ b. b || has_name (numbered creator (suc from) count) id) (same_id-false id (record { creator = creator; index = from }) (inl other)) ∙ numbered-other creator (suc from) count id other

numbered-here : (creator from count : ℕ) (id : ActionId) → id.creator ≡ creator → has_name (numbered creator from count) id ≡ (nat_le from id.index && nat_lt id.index (from + count))
numbered-here creator from zero id here = sym (⊎_elim
    (λ (lt : id.index < from). ap (λ b. b && nat_lt id.index (from + 0)) (lt-leb' id.index from lt))
    (λ (le : from ≤ id.index). ap (λ b. nat_le from id.index && b) (le-ltb id.index (from + 0) (omega arith)) ∙ and-none (nat_le from id.index))
    (cases_lt id.index from)) where
      and-none : (b : Bool) → (b && false) ≡ false
      and-none true = refl
      and-none false = refl

      lt-leb' : (n m : ℕ) → n < m → nat_le m n ≡ false
      lt-leb' n m lt = ⊎_elim (λ y. absurd (let le = leb-true m n y in omega arith)) (λ f. f) (cases_Bool (nat_le m n))
numbered-here creator from (suc count) id here = ⊎_elim
    (λ (this : id.index ≡ from).
    ap (λ b. b || has_name (numbered creator (suc from) count) id) (same_id-true id (record { creator = creator; index = from }) here this)
    ∙ sym (and_from (nat_le from id.index) (nat_lt id.index (from + suc count)) (le-leb from id.index (omega arith)) (lt-ltb id.index (from + suc count) (omega arith))))
    (λ (other : id.index ≡ from → ⊥).
    ap (λ b. b || has_name (numbered creator (suc from) count) id) (same_id-false id (record { creator = creator; index = from }) (inr other))
    ∙ numbered-here creator (suc from) count id here ∙ ap₂ (λ a b. a && b) (later from id.index other) (ap (nat_lt id.index) (shift from count)))
    (cases_eq id.index from)
  where
    shift : (a b : ℕ) → suc a + b ≡ a + suc b
    shift a b = omega arith

    later : (n m : ℕ) → (m ≡ n → ⊥) → nat_le (suc n) m ≡ nat_le n m
    later n m apart = ⊎_elim
        (λ (lt : n < m). le-leb (suc n) m (omega arith) ∙ sym (le-leb n m (omega arith)))
        (λ (le : m ≤ n). ⊎_elim (λ (same : m ≡ n). absurd (apart same)) (λ (less : m ≡ n → ⊥). low (suc n) m (below n m le less) ∙ sym (low n m (below' n m le less))) (cases_eq m n))
        (cases_lt n m) where
          low : (a b : ℕ) → b < a → nat_le a b ≡ false
          low a b lt = ⊎_elim (λ y. absurd (let le = leb-true a b y in omega arith)) (λ f. f) (cases_Bool (nat_le a b))

          below : (n m : ℕ) → m ≤ n → (m ≡ n → ⊥) → m < suc n
          below n m le less = omega arith

          below' : (n m : ℕ) → m ≤ n → (m ≡ n → ⊥) → m < n
          below' n m le less = ⊎_elim (λ (lt : m < n). lt) (λ (ge : n ≤ m). absurd (less (omega arith))) (cases_lt m n)

names-above : (low high creator : ℕ) (id : ActionId) → id.creator ≡ creator → has_name (names_above low high creator) id ≡ (nat_lt low id.index && nat_le id.index high)
names-above low high creator id here = numbered-here creator (suc low) (high - low) id here ∙ within low high id.index where
  within : (low high n : ℕ) → (nat_le (suc low) n && nat_lt n (suc low + (high - low))) ≡ (nat_lt low n && nat_le n high)
  within low high n = ⊎_elim
      (λ (lt : low < n). ⊎_elim
      (λ (past : high < n).
      ap₂ (λ a b. a && b) (le-leb (suc low) n (omega arith)) (le-ltb n (suc low + (high - low)) (omega arith))
      ∙ sym (ap₂ (λ a b. a && b) (lt-ltb low n lt) (not-le n high past)))
      (λ (le : n ≤ high).
      ap₂ (λ a b. a && b) (le-leb (suc low) n (omega arith)) (lt-ltb n (suc low + (high - low)) (omega arith))
      ∙ sym (ap₂ (λ a b. a && b) (lt-ltb low n lt) (le-leb n high le)))
      (cases_lt high n))
      (λ (le : n ≤ low).
      ap (λ a. a && nat_lt n (suc low + (high - low))) (not-le (suc low) n (omega arith)) ∙ sym (ap (λ a. a && nat_le n high) (le-ltb low n le)))
      (cases_lt low n) where
        not-le : (a b : ℕ) → b < a → nat_le a b ≡ false
        not-le a b lt = ⊎_elim (λ y. absurd (let le = leb-true a b y in omega arith)) (λ f. f) (cases_Bool (nat_le a b))

-- the names of creators one after another
abbrev pub names_of_creators : (ℕ → ℕ) → (ℕ → ℕ) → List ℕ → List ActionId
names_of_creators low high list = flat_map (λ creator. names_above (low creator) (high creator) creator) list

numbered-each : (low creator from count : ℕ) → low ≤ creator → Each (λ id. low ≤ id.creator) (numbered creator from count)
numbered-each low creator from zero le = tt
numbered-each low creator from (suc count) le = (le, numbered-each low creator (suc from) count le)

creators-each : (low high : ℕ → ℕ) (list : List ℕ) (from : ℕ) → IsRising from list → Each (λ id. from ≤ id.creator) (names_of_creators low high list)
creators-each low high [] from rising = tt
creators-each low high (creator ∷ list) from rising =
    Each-append (λ id. from ≤ id.creator) (names_above (low creator) (high creator) creator) (names_of_creators low high list)
    (numbered-each from creator (suc (low creator)) (high creator - low creator) rising.0)
    (lower (names_of_creators low high list) (creators-each low high list (suc creator) rising.1)) where
      lower : (ids : List ActionId) → Each (λ id. suc creator ≤ id.creator) ids → Each (λ id. from ≤ id.creator) ids
      lower [] each = tt
      lower (id ∷ ids) each = ((let a = each.0 in let b = rising.0 in omega arith), lower ids each.1)

creators-ascend : (low high : ℕ → ℕ) (list : List ℕ) (from : ℕ) → IsRising from list → ascend (names_of_creators low high list) ≡ true
creators-ascend low high [] from rising = refl
creators-ascend low high (creator ∷ list) from rising =
    numbered-ascend creator (suc (low creator)) (high creator - low creator) (names_of_creators low high list) (creators-ascend low high list (suc creator) rising.1)
    (creators-each low high list (suc creator) rising.1)

-- a name stands among them where its creator does
creators-names : (low high : ℕ → ℕ) (list : List ℕ) (from : ℕ) (id : ActionId) → IsRising from list →
    has_name (names_of_creators low high list) id ≡ (has list id.creator && (nat_lt (low id.creator) id.index && nat_le id.index (high id.creator)))
creators-names low high [] from id rising = refl
creators-names low high (creator ∷ list) from id rising =
    has_name-append (names_above (low creator) (high creator) creator) (names_of_creators low high list) id ∙ ⊎_elim
    (λ (here : id.creator ≡ creator).
    let e : (creator == id.creator) ≡ true = eq-eqb creator id.creator (sym here) in
    let none : has_name (names_of_creators low high list) id ≡ false = creators-names low high list (suc creator) id rising.1 ∙ ap (λ b. b && (nat_lt (low id.creator) id.index && nat_le id.index (high id.creator))) (early list (suc creator) id.creator rising.1 (omega arith)) in
    ap₂ (λ a b. a || b) (names-above (low creator) (high creator) creator id here) none ∙ or_false (nat_lt (low creator) id.index && nat_le id.index (high creator))
    ∙ ap (λ x. nat_lt (low x) id.index && nat_le id.index (high x)) (sym here)
    ∙ sym (ap (λ b. (b || has list id.creator) && (nat_lt (low id.creator) id.index && nat_le id.index (high id.creator))) e))
    (λ (other : id.creator ≡ creator → ⊥).
    ap (λ b. b || has_name (names_of_creators low high list) id) (numbered-other creator (suc (low creator)) (high creator - low creator) id other)
    ∙ creators-names low high list (suc creator) id rising.1
    ∙ sym (ap (λ b. (b || has list id.creator) && (nat_lt (low id.creator) id.index && nat_le id.index (high id.creator))) (ne_eqb creator id.creator (λ e. other (sym e)))))
    (cases_eq id.creator creator)
  where
    -- a number below all of them isn't among them
    early : (list : List ℕ) (from p : ℕ) → IsRising from list → p < from → has list p ≡ false
    early [] from p rising lt = refl
    early (q ∷ list) from p rising lt =
        ap (λ b. b || has list p) (ne_eqb q p (λ e. (let a = rising.0 in omega arith))) ∙ early list (suc q) p rising.1 (let a = rising.0 in omega arith)

-- Reds that run on from one cut to another are, creator by creator, the names between the two, where each creator that has any is listed.
pub reds-between : (green : List ActionId) (known : ℕ → ℕ) (ids : List ActionId) (list : List ℕ) (from : ℕ) → Rising 0 green → run_on green ids ≡ true → ascend ids ≡ true →
    ((p : ℕ) → index_in (cut_behind green ids) p ≡ known p) → IsRising from list → ((p : ℕ) → has list p ≡ false → known p ≤ index_in green p) →
    ids ≡ names_of_creators (λ creator. index_in green creator) known list
reds-between green known ids list from rising run up is all none =
    same-ascending ids (names_of_creators (λ creator. index_in green creator) known list) up (creators-ascend (λ creator. index_in green creator) known list from all)
    (λ id. run-names green ids id rising run ∙ ap (λ k. nat_lt (index_in green id.creator) id.index && nat_le id.index k) (is id.creator) ∙ listed id
    ∙ sym (creators-names (λ creator. index_in green creator) known list from id all)) where
      listed : (id : ActionId) → (nat_lt (index_in green id.creator) id.index && nat_le id.index (known id.creator)) ≡ (has list id.creator && (nat_lt (index_in green id.creator) id.index && nat_le id.index (known id.creator)))
      listed id = ⊎_elim
          (λ there. sym (ap (λ b. b && (nat_lt (index_in green id.creator) id.index && nat_le id.index (known id.creator))) there))
          (λ absent.
          let le = none id.creator absent in
          outside (index_in green id.creator) (known id.creator) id.index le
          ∙ sym (ap (λ b. b && (nat_lt (index_in green id.creator) id.index && nat_le id.index (known id.creator))) absent))
          (cases_Bool (has list id.creator)) where
            outside : (low high n : ℕ) → high ≤ low → (nat_lt low n && nat_le n high) ≡ false
            outside low high n le = ⊎_elim
                (λ y. ⊎_elim (λ z. absurd (let a = ltb-true low n y in let b = leb-true n high z in omega arith)) (λ f. ap₂ (λ a b. a && b) y f) (cases_Bool (nat_le n high)))
                (λ f. ap (λ b. b && nat_le n high) f) (cases_Bool (nat_lt low n))

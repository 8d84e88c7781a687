-- Names of which each is the next of its creator, behind a mark.
use Rattle.std.proofs.Common.{◌⊎◌, ◌≡◌, ℕ, suc, ◌<◌, ◌≤◌, ◌≢◌, List, [], ◌∷◌, Bool, true, false, not, ◌&&◌, ◌||◌, max, filter, refl, sym, ap, ◌∙◌, arith, inl, inr, if◌then◌else◌, eqb-true, nat_lt, nat_le}
use Rattle.std.specs.Prelude.{◌==◌}
use Rattle.std.specs.List.{list_all}
use Rattle.std.proofs.lemmas.Bool.{cases_eq, cases_order, cases_Bool, eq-eqb, ne_eqb, lt-ltb, le-ltb, lt-leb, le-leb, and_parts, and_from, cond-true, cond-false, or_parts}
use Rattle.cg_base.specs.declared.action_id.ActionId.{ActionId}
use Rattle.cg_base.specs.Ids.{same_id, id_before, has_name}
use Rattle.cg_base.specs.Cuts.{index_in, raise}
use Rattle.cg_disk_records.specs.Holds.{run_on, cut_behind, ascend, Rising}
use Rattle.cg_base.specs.IdLaws.{same_id-true, same_id-false, same_name, before-index, before-creator}
use Rattle.cg_disk_records.specs.CutRaiseLaws.{raise-commute, behind-raised, rising-raise, index-same, index-other, index-rises, behind-rises, raise-below}
use Rattle.cg_base.specs.BoolLaws.{and_false}

-- ---- one run

pub run-head : (cut : List ActionId) (x : ActionId) (ids : List ActionId) → run_on cut (x ∷ ids) ≡ true →
    x.index ≡ suc (index_in cut x.creator)
run-head cut x ids run =
    eqb-true x.index (suc (index_in cut x.creator))
    (and_parts (x.index == suc (index_in cut x.creator)) (run_on (raise cut x) ids) run).0

pub run-rest : (cut : List ActionId) (x : ActionId) (ids : List ActionId) → run_on cut (x ∷ ids) ≡ true →
    run_on (raise cut x) ids ≡ true
run-rest cut x ids run = (and_parts (x.index == suc (index_in cut x.creator)) (run_on (raise cut x) ids) run).1

pub run-from : (cut : List ActionId) (x : ActionId) (ids : List ActionId) → x.index ≡ suc (index_in cut x.creator) →
    run_on (raise cut x) ids ≡ true → run_on cut (x ∷ ids) ≡ true
run-from cut x ids next rest =
    and_from (x.index == suc (index_in cut x.creator)) (run_on (raise cut x) ids) (eq-eqb
    x.index (suc (index_in cut x.creator)) next) rest

-- Between a run and numbers: the names of a run are, of each creator, those above the cut and up to the cut behind it.
pub run-names : (cut ids : List ActionId) (id : ActionId) → Rising 0 cut → run_on cut ids ≡ true →
    has_name ids id ≡ (nat_lt (index_in cut id.creator) id.index
    && nat_le id.index (index_in (cut_behind cut ids) id.creator))
run-names cut [] id rising run = sym (elim (cases_order id.index (index_in cut id.creator)) [
  | inl same ↦ outside (omega arith)
  | inr apart ↦ elim apart [
    | inl lt ↦ outside (omega arith)
    | inr gt ↦ rw (lt-ltb (index_in cut id.creator) id.index gt, lt-leb id.index (index_in cut id.creator) gt) refl
  ]
])
  where
    outside : id.index ≤ index_in cut id.creator →
        (nat_lt (index_in cut id.creator) id.index && nat_le id.index (index_in cut id.creator)) ≡ false
    outside le = rw (le-ltb (index_in cut id.creator) id.index le) refl
run-names cut (x ∷ ids) id rising run =
    let next : x.index ≡ suc (index_in cut x.creator) = run-head cut x ids run in
    let last = index_in (cut_behind (raise cut x) ids) id.creator in
    let more : index_in (raise cut x) id.creator ≤ last =
    behind-rises (raise cut x) ids id.creator (rising-raise cut x rising) in
    let rest : has_name ids id ≡ (nat_lt (index_in (raise cut x) id.creator) id.index && nat_le id.index last) =
    run-names (raise cut x) ids id (rising-raise cut x rising) (run-rest cut x ids run) in
    elim (cases_eq x.creator id.creator) [
      | inl same ↦
          let at_cut : index_in cut x.creator ≡ index_in cut id.creator = ap (index_in cut) same in
          let here : index_in (raise cut x) id.creator ≡ x.index =
          index-same cut x rising id.creator same
          ∙ (let most : max (index_in cut id.creator) x.index ≡ x.index = omega arith in most) in
          elim (cases_eq id.index x.index) [
            | inl this ↦
                ap (λ b. b || has_name ids id) (same_id-true id x (sym same) this)
                ∙ sym (and_from (nat_lt (index_in cut id.creator) id.index) (nat_le id.index last)
                (lt-ltb (index_in cut id.creator) id.index (omega arith)) (le-leb id.index last (omega arith)))
            | inr other ↦
                ap (λ b. b || has_name ids id) (same_id-false id x (inr other)) ∙ rest
                ∙ ap (λ b. b && nat_le id.index last) (beside here next at_cut other)
          ]
      | inr apart ↦
          ap (λ b. b || has_name ids id) (same_id-false id x (inl (λ e. apart (sym e)))) ∙ rest
          ∙ ap (λ n. nat_lt n id.index && nat_le id.index last) (index-other cut x rising id.creator apart)
    ]
  where
    beside : index_in (raise cut x) id.creator ≡ x.index → x.index ≡ suc (index_in cut x.creator) →
        index_in cut x.creator ≡ index_in cut id.creator → id.index ≢ x.index →
        nat_lt (index_in (raise cut x) id.creator) id.index ≡ nat_lt (index_in cut id.creator) id.index
    beside here next at_cut other = rw here (elim (cases_order id.index x.index) [
      | inl same ↦ absurd (other same)
      | inr apart ↦ elim apart [
        | inl lt ↦ le-ltb x.index id.index (omega arith) ∙ sym (le-ltb (index_in cut id.creator) id.index (omega arith))
        | inr gt ↦ lt-ltb x.index id.index gt ∙ sym (lt-ltb (index_in cut id.creator) id.index (omega arith))
      ]
    ])

-- ---- a name of another creator

abbrev pub lacks : ℕ → List ActionId → Bool
lacks p ids = list_all (λ x. not (x.creator == p)) ids

lacks-apart : (p : ℕ) (x : ActionId) → not (x.creator == p) ≡ true → x.creator ≢ p
lacks-apart p x other same = let clash : false ≡ true =
    sym (ap not (eq-eqb x.creator p same)) ∙ other in absurd (differ clash)
  where
    differ : false ≡ true → ⊥
    differ e = cc

pub run-other : (cut ids : List ActionId) (id : ActionId) → Rising 0 cut → lacks id.creator ids ≡ true →
    run_on cut ids ≡ true → run_on (raise cut id) ids ≡ true
run-other cut [] id rising others run = refl
run-other cut (x ∷ ids) id rising others run =
    let parts = and_parts (not (x.creator == id.creator)) (lacks id.creator ids) others in
    let apart : id.creator ≢ x.creator = λ e. lacks-apart id.creator x parts.0 (sym e) in
    run-from (raise cut id) x ids (run-head cut x ids run ∙ ap suc (sym (index-other cut id rising x.creator apart)))
    (ap (λ c. run_on c ids) (raise-commute cut id x)
    ∙ run-other (raise cut x) ids id (rising-raise cut x rising) parts.1 (run-rest cut x ids run))

-- ---- a name that is taken out

abbrev pub without : ActionId → List ActionId → List ActionId
without id ids = filter (λ x. not (same_id x id)) ids

without-here : (x id : ActionId) (ids : List ActionId) → same_id x id ≡ true → without id (x ∷ ids) ≡ without id ids
without-here x id ids same = rw same refl

without-there : (x id : ActionId) (ids : List ActionId) → same_id x id ≡ false →
    without id (x ∷ ids) ≡ x ∷ without id ids
without-there x id ids other = rw other refl

-- it doesn't stand in a run that begins behind it
pub without-none : (cut ids : List ActionId) (id : ActionId) → Rising 0 cut → id.index ≤ index_in cut id.creator →
    run_on cut ids ≡ true → without id ids ≡ ids
without-none cut [] id rising below run = refl
without-none cut (x ∷ ids) id rising below run =
    let next : x.index ≡ suc (index_in cut x.creator) = run-head cut x ids run in
    let more : index_in cut id.creator ≤ index_in (raise cut x) id.creator = index-rises cut x rising id.creator in
    without-there x id ids (elim (cases_eq x.creator id.creator) [
      | inl same ↦ let at_cut : index_in cut x.creator ≡ index_in cut id.creator = ap (index_in cut) same in
          same_id-false x id (inr (λ e. omega arith))
      | inr apart ↦ same_id-false x id (inl apart)
    ])
    ∙ ap (λ xs. x ∷ xs) (without-none (raise cut x) ids
    id (rising-raise cut x rising) (omega arith) (run-rest cut x ids run))

-- where the name is the next one above the cut, the others run on from behind it, and lead as far as all did
pub record TakenOut (cut ids : List ActionId) (id : ActionId) : Type 0 where
  pub run : run_on (raise cut id) (without id ids) ≡ true
  pub cut_behind : cut_behind (raise cut id) (without id ids) ≡ raise (cut_behind cut ids) id

pub taken-out : (cut ids : List ActionId) (id : ActionId) → Rising 0 cut → id.index ≡ suc (index_in cut id.creator) →
    run_on cut ids ≡ true → TakenOut cut ids id
taken-out cut [] id rising at_next run = record { run = refl; cut_behind = refl }
taken-out cut (x ∷ ids) id rising at_next run =
    let next : x.index ≡ suc (index_in cut x.creator) = run-head cut x ids run in
    elim (cases_eq x.creator id.creator) [
      | inl same ↦
          let index : x.index ≡ id.index = next ∙ ap (λ p. suc (index_in cut p)) same ∙ sym at_next in
          let this : x ≡ id = same_name x id same index in
          let rest : run_on (raise cut id) ids ≡ true =
          ap (λ y. run_on (raise cut y) ids) (sym this) ∙ run-rest cut x ids run in
          let all : without id (x ∷ ids) ≡ ids =
          without-here x id ids (same_id-true x id same index)
          ∙ without-none (raise cut id) ids id (rising-raise cut id rising) (reaches rising at_next) rest in
          record {
            run = ap (run_on (raise cut id)) all ∙ rest;
            cut_behind = ap (cut_behind (raise cut id)) all
                ∙ sym (ap (λ y. raise (cut_behind (raise cut y) ids) id) this ∙ twice rising at_next);
          }
      | inr apart ↦
          let stays : without id (x ∷ ids) ≡ x ∷ without id ids =
          without-there x id ids (same_id-false x id (inl apart)) in
          let at_rest : id.index ≡ suc (index_in (raise cut x) id.creator) =
          at_next ∙ ap suc (sym (index-other cut x rising id.creator apart)) in
          let rest = taken-out (raise cut x) ids id (rising-raise cut x rising) at_rest (run-rest cut x ids run) in
          let order : raise (raise cut id) x ≡ raise (raise cut x) id = raise-commute cut id x in
          record {
            run = ap (run_on (raise cut id)) stays
                ∙ run-from (raise cut id) x (without id ids) (next
                ∙ ap suc (sym (index-other cut id rising x.creator (λ e. apart (sym e)))))
                (ap (λ c. run_on c (without id ids)) order ∙ rest.run);
            cut_behind = ap (cut_behind (raise cut id)) stays
                ∙ ap (λ c. cut_behind c (without id ids)) order ∙ rest.cut_behind;
          }
    ]
  where
    reaches : Rising 0 cut → id.index ≡ suc (index_in cut id.creator) → id.index ≤ index_in (raise cut id) id.creator
    reaches rising at_next = rw (index-same cut id rising id.creator refl) (omega arith)

    twice : Rising 0 cut → id.index ≡ suc (index_in cut id.creator) →
        raise (cut_behind (raise cut id) ids) id ≡ cut_behind (raise cut id) ids
    twice rising at_next =
        sym (behind-raised (raise cut id) ids id)
        ∙ ap (λ c. cut_behind c ids) (raise-below (raise cut id)
        id (rising-raise cut id rising) (reaches rising at_next))

-- ---- names in order

pub before-parts : (a b : ActionId) → id_before a b ≡ true →
    (a.creator < b.creator) ⊎ ((a.creator ≡ b.creator) × (a.index < b.index))
before-parts a b before = elim (cases_order a.creator b.creator) [
  | inl same ↦ elim (cases_order a.index b.index) [
    | inl e ↦ absurd (clash (sym (rw (
      le-ltb a.creator b.creator (omega arith),
      eq-eqb a.creator b.creator same,
      le-ltb a.index b.index (omega arith),
    ) at before)))
    | inr apart ↦ elim apart [
      | inl lt ↦ inr (same, lt)
      | inr gt ↦ absurd (clash (sym (rw (
        le-ltb a.creator b.creator (omega arith),
        eq-eqb a.creator b.creator same,
        le-ltb a.index b.index (omega arith),
      ) at before)))
    ]
  ]
  | inr apart ↦ elim apart [
    | inl lt ↦ inl lt
    | inr gt ↦ absurd (clash (sym (rw (
      le-ltb a.creator b.creator (omega arith),
      ne_eqb a.creator b.creator (λ e. omega arith),
    ) at before)))
  ]
]
  where
    clash : true ≡ false → ⊥
    clash e = cc

pub before-trans : (a b c : ActionId) → id_before a b ≡ true → id_before b c ≡ true → id_before a c ≡ true
before-trans a b c f g = elim (before-parts a b f) [
  | inl lt ↦ elim (before-parts b c g) [
    | inl more ↦ before-creator a c (omega arith)
    | inr more ↦ let same : b.creator ≡ c.creator = more.0 in before-creator a c (omega arith)
  ]
  | inr eq ↦
      let same : a.creator ≡ b.creator = eq.0 in
      let lt : a.index < b.index = eq.1 in
      elim (before-parts b c g) [
        | inl more ↦ before-creator a c (omega arith)
        | inr more ↦ let next : b.index < c.index = more.1 in before-index a c (same ∙ more.0) (omega arith)
      ]
]

ascend-parts : (x y : ActionId) (ids : List ActionId) → ascend (x ∷ y ∷ ids) ≡ true →
    (id_before x y ≡ true) × (ascend (y ∷ ids) ≡ true)
ascend-parts x y ids up = and_parts (id_before x y) (ascend (y ∷ ids)) up

pub ascend-less : (x : ActionId) (ids : List ActionId) → ascend (x ∷ ids) ≡ true → ascend ids ≡ true
ascend-less x [] up = refl
ascend-less x (y ∷ ids) up = (ascend-parts x y ids up).1

ascend-skip : (x y : ActionId) (ids : List ActionId) → ascend (x ∷ y ∷ ids) ≡ true → ascend (x ∷ ids) ≡ true
ascend-skip x y [] up = refl
ascend-skip x y (z ∷ ids) up =
    let first = ascend-parts x y (z ∷ ids) up in
    let second = ascend-parts y z ids first.1 in
    and_from (id_before x z) (ascend (z ∷ ids)) (before-trans x y z first.0 second.0) second.1

-- names before all that follow, and in front of names that ascend
pub ascend-filter-from : (p : ActionId → Bool) (x : ActionId) (ids : List ActionId) → ascend (x ∷ ids) ≡ true →
    ascend (x ∷ filter p ids) ≡ true
ascend-filter-from p x [] up = refl
ascend-filter-from p x (y ∷ ids) up = elim (cases_Bool (p y)) [
  | inl keeps ↦
      let parts = ascend-parts x y ids up in
      ap (λ zs. ascend (x ∷ zs)) (cond-true (p y) (y ∷ filter p ids) (filter p ids) keeps)
      ∙ and_from (id_before x y) (ascend (y ∷ filter p ids)) parts.0 (ascend-filter-from p y ids parts.1)
  | inr drops ↦
      ap (λ zs. ascend (x ∷ zs)) (cond-false (p y) (y ∷ filter p ids) (filter p ids) drops)
      ∙ ascend-filter-from p x ids (ascend-skip x y ids up)
]

pub ascend-filter : (p : ActionId → Bool) (ids : List ActionId) → ascend ids ≡ true → ascend (filter p ids) ≡ true
ascend-filter p [] up = refl
ascend-filter p (y ∷ ids) up = elim (cases_Bool (p y)) [
  | inl keeps ↦ ap ascend (cond-true (p y) (y ∷ filter p ids) (filter p ids) keeps) ∙ ascend-filter-from p y ids up
  | inr drops ↦ ap ascend (cond-false (p y) (y ∷ filter p ids) (filter p ids) drops)
      ∙ ascend-filter p ids (ascend-less y ids up)
]

-- ---- a name that comes in

-- the names with one more among them, in order
abbrev pub inserted : List ActionId → ActionId → List ActionId
inserted [] id = id ∷ []
inserted (x ∷ ids) id = if id_before id x then id ∷ x ∷ ids else x ∷ inserted ids id

inserted-front : (x id : ActionId) (ids : List ActionId) → id_before id x ≡ true → inserted (x ∷ ids) id ≡ id ∷ x ∷ ids
inserted-front x id ids before = rw before refl

inserted-later : (x id : ActionId) (ids : List ActionId) → id_before id x ≡ false →
    inserted (x ∷ ids) id ≡ x ∷ inserted ids id
inserted-later x id ids later = rw later refl

-- behind a name above all of its creator there is no more of it
lacks-after : (cut ids : List ActionId) (id : ActionId) → Rising 0 cut → run_on cut ids ≡ true →
    ascend (id ∷ ids) ≡ true →
    id.index ≡ suc (index_in (cut_behind cut ids) id.creator) → lacks id.creator ids ≡ true
lacks-after cut [] id rising run up last = refl
lacks-after cut (x ∷ ids) id rising run up last =
    let before = (ascend-parts id x ids up).0 in
    let more : index_in (raise cut x) id.creator ≤ index_in (cut_behind (raise cut x) ids) id.creator =
    behind-rises (raise cut x) ids id.creator (rising-raise cut x rising) in
    let rest = lacks-after (raise cut x) ids
    id (rising-raise cut x rising) (run-rest cut x ids run) (ascend-skip id x ids up) last in
    elim (before-parts id x before) [
      | inl lt ↦ and_from (not (x.creator == id.creator)) (lacks id.creator ids)
          (ap not (ne_eqb x.creator id.creator (λ e. omega arith))) rest
      | inr eq ↦
          let lt : id.index < x.index = eq.1 in
          let reached : index_in (raise cut x) id.creator ≡ max (index_in cut id.creator) x.index =
          index-same cut x rising id.creator (sym eq.0) in
          absurd (omega arith)
    ]

pub run-inserted : (cut ids : List ActionId) (id : ActionId) → Rising 0 cut →
    run_on cut ids ≡ true → ascend ids ≡ true →
    id.index ≡ suc (index_in (cut_behind cut ids) id.creator) → run_on cut (inserted ids id) ≡ true
run-inserted cut [] id rising run up last = run-from cut id [] last refl
run-inserted cut (x ∷ ids) id rising run up last = elim (cases_Bool (id_before id x)) [
  | inl before ↦
      let lacking = lacks-after cut (x ∷ ids) id rising
      run (and_from (id_before id x) (ascend (x ∷ ids)) before up) last in
      ap (run_on cut) (inserted-front x id ids before)
      ∙ run-from cut id (x ∷ ids) (last ∙ ap suc (behind-other cut (x ∷ ids) rising lacking)) (run-other
      cut (x ∷ ids) id rising lacking run)
  | inr later ↦
      ap (run_on cut) (inserted-later x id ids later)
      ∙ run-from cut x (inserted ids id) (run-head cut x ids run)
      (run-inserted (raise cut x) ids
      id (rising-raise cut x rising) (run-rest cut x ids run) (ascend-less x ids up) last)
]
  where
    behind-other : (cut ids : List ActionId) → Rising 0 cut → lacks id.creator ids ≡ true →
        index_in (cut_behind cut ids) id.creator ≡ index_in cut id.creator
    behind-other cut [] rising others = refl
    behind-other cut (y ∷ ids) rising others =
        let parts = and_parts (not (y.creator == id.creator)) (lacks id.creator ids) others in
        behind-other (raise cut y) ids (rising-raise cut y rising) parts.1
        ∙ index-other cut y rising id.creator (lacks-apart id.creator y parts.0)

pub behind-inserted : (cut ids : List ActionId) (id : ActionId) →
    cut_behind cut (inserted ids id) ≡ raise (cut_behind cut ids) id
behind-inserted cut [] id = refl
behind-inserted cut (x ∷ ids) id = elim (cases_Bool (id_before id x)) [
  | inl before ↦ ap (cut_behind cut) (inserted-front x id ids before) ∙ behind-raised cut (x ∷ ids) id
  | inr later ↦ ap (cut_behind cut) (inserted-later x id ids later) ∙ behind-inserted (raise cut x) ids id
]

-- of two names that differ one comes before the other
before-else : (a b : ActionId) → id_before a b ≡ false → same_id a b ≡ false → id_before b a ≡ true
before-else a b later other = elim (cases_order b.creator a.creator) [
  | inl same ↦ elim (cases_order b.index a.index) [
    | inl e ↦ absurd (clash (sym (same_id-true a b (sym same) (sym e)) ∙ other))
    | inr apart ↦ elim apart [
      | inl lt ↦ before-index b a same lt
      | inr gt ↦ absurd (clash (sym (before-index a b (sym same) gt) ∙ later))
    ]
  ]
  | inr apart ↦ elim apart [
    | inl lt ↦ before-creator b a lt
    | inr gt ↦ absurd (clash (sym (before-creator a b gt) ∙ later))
  ]
]
  where
    clash : true ≡ false → ⊥
    clash e = cc

ascend-inserted-from : (z : ActionId) (ids : List ActionId) (id : ActionId) → id_before z id ≡ true →
    has_name ids id ≡ false → ascend (z ∷ ids) ≡ true → ascend (z ∷ inserted ids id) ≡ true
ascend-inserted-from z [] id first new up = and_from (id_before z id) true first refl
ascend-inserted-from z (x ∷ ids) id first new up =
    let parts = ascend-parts z x ids up in
    let news = or_parts (same_id id x) (has_name ids id) new in
    elim (cases_Bool (id_before id x)) [
      | inl before ↦
          ap (λ zs. ascend (z ∷ zs)) (inserted-front x id ids before)
          ∙ and_from (id_before z id) (ascend (id ∷ x ∷ ids))
          first (and_from (id_before id x) (ascend (x ∷ ids)) before parts.1)
      | inr later ↦
          ap (λ zs. ascend (z ∷ zs)) (inserted-later x id ids later)
          ∙ and_from (id_before z x) (ascend (x ∷ inserted ids id))
          parts.0 (ascend-inserted-from x ids id (before-else id x later news.0) news.1 parts.1)
    ]

pub ascend-inserted : (ids : List ActionId) (id : ActionId) → has_name ids id ≡ false → ascend ids ≡ true →
    ascend (inserted ids id) ≡ true
ascend-inserted [] id new up = refl
ascend-inserted (x ∷ ids) id new up =
    elim (cases_Bool (id_before id x)) [
      | inl before ↦ ap ascend (inserted-front x id ids before) ∙ and_from (id_before id x) (ascend (x ∷ ids)) before up
      | inr later ↦
          let news = or_parts (same_id id x) (has_name ids id) new in
          ap ascend (inserted-later x id ids later)
          ∙ ascend-inserted-from x ids id (before-else id x later news.0) news.1 up
    ]

-- the name behind a run doesn't stand in it
pub names-new : (cut ids : List ActionId) (id : ActionId) → Rising 0 cut → run_on cut ids ≡ true →
    id.index ≡ suc (index_in (cut_behind cut ids) id.creator) → has_name ids id ≡ false
names-new cut ids id rising run last =
    run-names cut ids id rising run
    ∙ ap (λ b. nat_lt (index_in cut id.creator) id.index
    && b) (lt-leb id.index (index_in (cut_behind cut ids) id.creator) (omega arith))
    ∙ and_false (nat_lt (index_in cut id.creator) id.index)

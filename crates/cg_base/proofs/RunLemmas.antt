-- Names of actions held as runs: one run more, and that the names say which runs they are.
use Rattle.std.proofs.Common.{◌≡◌, ℕ, zero, suc, ◌+◌, ◌-◌, ◌<◌, ◌≤◌, ◌^◌, List, [], ◌∷◌, ◌++◌, append_assoc, length, map, get_or, set, take, drop, Bool, true, false, cond, eqb, ◌&&◌, refl, sym, ap, subst, ◌∙◌, arith, inl, inr}
use Rattle.std.specs.Bool.{Decides}
use Rattle.std.specs.List.{All, flat_map}
use Rattle.std.specs.Cmp.Lexicographic.{pointwise, pointwise_decides}
use Rattle.std.proofs.lemmas.Bool.{cases_Bool, eq-eqb, ne_eqb, eqb-true, and_parts, and_from, false_from_ne_true}
use Rattle.std.proofs.lemmas.List.{map-append, append-nil, set_at, take_more, take_all, length-take-le}
use Rattle.std.proofs.lemmas.List.Concat.{flat_map-append}
use Rattle.std.proofs.lemmas.List.Elements.{All-nil, All-cons, All-append}
use Rattle.cg_base.specs.declared.action_id.ActionId.{ActionId}
use Rattle.cg_base.specs.declared.id_runs.IdRun.{IdRun}
use Rattle.cg_base.specs.Lists.{count_up, above_up_to}
use Rattle.cg_base.specs.EachLaws.{count_up-add}
use Rattle.cg_base.specs.Ids.{same_id}
use Rattle.cg_base.proofs.CutLemmas.{same_id-Decides}
use Rattle.cg_base.specs.Text.{id_text, with_commas, is_nil}
use Rattle.cg_base.specs.IdRuns.{names_above, ids_of, ids_in, goes_on, Ends, AreRuns, AreOfReplicas}
use Rattle.cg_base.specs.Sets.{IsId}

-- ---- no run

pub none-is_nil : (runs : List IdRun) → eqb (length runs) 0 ≡ is_nil (ids_in runs)
none-is_nil [] = refl
none-is_nil (r ∷ runs) = ne_eqb (length (r ∷ runs)) 0 (λ e. omega arith)

-- ---- one run more

-- the names up to one index, and those from the next one on
names_above-join : (low mid high creator : ℕ) → low ≤ mid → mid < high
    → names_above low high creator ≡ names_above low mid creator ++ record { creator = creator; index = suc mid } ∷ names_above (suc mid) high creator
names_above-join low mid high creator le lt =
    let name : ℕ → ActionId = λ n. record { creator = creator; index = n } in
    let whole : high - low ≡ (mid - low) + suc (high - suc mid) = omega arith in
    let next : suc low + (mid - low) ≡ suc mid = omega arith in
    ap (λ k. map name (count_up (suc low) k)) whole
    ∙ ap (map name) (count_up-add (suc low) (mid - low) (suc (high - suc mid)) ∙ ap (λ k. above_up_to low mid ++ count_up k (suc (high - suc mid))) next)
    ∙ map-append name (above_up_to low mid) (count_up (suc mid) (suc (high - suc mid)))

-- a run with the names of the one that goes on from it
ids_of-longer : (a run : IdRun) → a.first ≤ a.last → run.first ≤ run.last → goes_on a run ≡ true → ids_of (record a { last = run.last }) ≡ ids_of a ++ ids_of run
ids_of-longer a run own le on =
    let parts = and_parts (eqb a.creator run.creator) (eqb (suc a.last) run.first) on in
    let creator : a.creator ≡ run.creator = eqb-true a.creator run.creator parts.0 in
    let first : suc a.last ≡ run.first = eqb-true (suc a.last) run.first parts.1 in
    let head : ActionId = record { creator = a.creator; index = a.first } in
    ap (λ ids. head ∷ ids)
    (names_above-join a.first a.last run.last a.creator own (omega arith)
    ∙ ap (λ n. names_above a.first a.last a.creator ++ record { creator = a.creator; index = n } ∷ names_above n run.last a.creator) first
    ∙ ap (λ c. names_above a.first a.last a.creator ++ record { creator = c; index = run.first } ∷ names_above run.first run.last c) creator)

-- ---- runs with one more at their end

AreRuns-last : (runs : List IdRun) (a : IdRun) → AreRuns (runs ++ a ∷ []) → a.first ≤ a.last
AreRuns-last [] a are = are.0
AreRuns-last (r ∷ runs) a are = AreRuns-last runs a are.2

AreRuns-longer : (runs : List IdRun) (a : IdRun) (last : ℕ) → AreRuns (runs ++ a ∷ []) → a.last ≤ last → last < 2 ^ 64 →
    AreRuns (runs ++ record a { last = last } ∷ [])
AreRuns-longer [] a last are le fits = let own : a.first ≤ a.last = are.0 in (omega arith, tt, tt, fits)
AreRuns-longer (r ∷ []) a last are le fits = (are.0, are.1, AreRuns-longer [] a last are.2 le fits, are.3)
AreRuns-longer (r ∷ s ∷ runs) a last are le fits = (are.0, are.1, AreRuns-longer (s ∷ runs) a last are.2 le fits, are.3)

AreRuns-more : (runs : List IdRun) (a run : IdRun) → AreRuns (runs ++ a ∷ []) → run.first ≤ run.last → run.last < 2 ^ 64 →
    goes_on a run ≡ false → AreRuns ((runs ++ a ∷ []) ++ run ∷ [])
AreRuns-more [] a run are le fits off = (are.0, off, (le, tt, tt, fits), are.3)
AreRuns-more (r ∷ []) a run are le fits off = (are.0, are.1, AreRuns-more [] a run are.2 le fits off, are.3)
AreRuns-more (r ∷ s ∷ runs) a run are le fits off = (are.0, are.1, AreRuns-more (s ∷ runs) a run are.2 le fits off, are.3)

-- the last of the runs, and those before it
split_last : (runs : List IdRun) (count : ℕ) (a : IdRun) → count ≡ length runs → 0 < count → a ≡ get_or runs (count - 1) a → runs ≡ take (count - 1) runs ++ a ∷ []
split_last runs count a all some there =
    let within : count - 1 < length runs = omega arith in
    let whole : length runs ≤ count - 1 + 1 = omega arith in
    sym (take_all (count - 1 + 1) runs whole) ∙ take_more runs (count - 1) a within ∙ ap (λ r. take (count - 1) runs ++ r ∷ []) (sym there)

module _ (runs : List IdRun) (count : ℕ) (a run : IdRun) (all : count ≡ length runs) (some : 0 < count) (there : a ≡ get_or runs (count - 1) a) where
  set_last : (b : IdRun) → set runs (count - 1) b ≡ take (count - 1) runs ++ b ∷ []
  set_last b =
      ap (λ rs. set rs (count - 1) b) (split_last runs count a all some there)
      ∙ set_at (take (count - 1) runs) a [] b (count - 1) (length-take-le (count - 1) runs (omega arith))

  pub longer-runs : AreRuns runs → run.first ≤ run.last → run.last < 2 ^ 64 → goes_on a run ≡ true → AreRuns (set runs (count - 1) (record a { last = run.last }))
  longer-runs are le fits on =
      let parts = and_parts (eqb a.creator run.creator) (eqb (suc a.last) run.first) on in
      let first : suc a.last ≡ run.first = eqb-true (suc a.last) run.first parts.1 in
      let old : AreRuns (take (count - 1) runs ++ a ∷ []) = subst AreRuns (split_last runs count a all some there) are in
      subst AreRuns (sym (set_last (record a { last = run.last }))) (AreRuns-longer (take (count - 1) runs) a run.last old (omega arith) fits)

  pub longer-ids : AreRuns runs → run.first ≤ run.last → goes_on a run ≡ true → ids_in (set runs (count - 1) (record a { last = run.last })) ≡ ids_in runs ++ ids_of run
  longer-ids are le on =
      let front = take (count - 1) runs in
      let old : AreRuns (front ++ a ∷ []) = subst AreRuns (split_last runs count a all some there) are in
      let own : a.first ≤ a.last = AreRuns-last front a old in
      let b : IdRun = record a { last = run.last } in
      ap ids_in (set_last b)
      ∙ flat_map-append ids_of front (b ∷ [])
      ∙ ap (λ ids. ids_in front ++ ids) (append-nil (ids_of b) ∙ ids_of-longer a run own le on)
      ∙ sym (append_assoc (ids_in front) (ids_of a) (ids_of run))
      ∙ ap (λ ids. ids ++ ids_of run) (ap (λ ids. ids_in front ++ ids) (sym (append-nil (ids_of a))) ∙ sym (flat_map-append ids_of front (a ∷ [])) ∙ ap ids_in (sym (split_last runs count a all some there)))

  pub more-runs : AreRuns runs → run.first ≤ run.last → run.last < 2 ^ 64 → goes_on a run ≡ false → AreRuns (runs ++ run ∷ [])
  more-runs are le fits off =
      let old : AreRuns (take (count - 1) runs ++ a ∷ []) = subst AreRuns (split_last runs count a all some there) are in
      subst (λ rs. AreRuns (rs ++ run ∷ [])) (sym (split_last runs count a all some there)) (AreRuns-more (take (count - 1) runs) a run old le fits off)

pub first-run : (runs : List IdRun) (run : IdRun) → length runs ≤ 0 → run.first ≤ run.last → run.last < 2 ^ 64 →
    AreRuns (runs ++ run ∷ [])
first-run [] run none le fits = (le, tt, tt, fits)
first-run (r ∷ runs) run none le fits = absurd (omega arith)

-- ---- the indexes of names that are held as runs are within 64 bits

abbrev pub Fits : ActionId → Type 0
Fits id = id.index < 2 ^ 64

above_fit : (creator from count last : ℕ) → from + count ≤ suc last → last < 2 ^ 64 →
    All Fits (map (λ n. record { creator = creator; index = n }) (count_up from count))
above_fit creator from zero last le fits = All-nil Fits
above_fit creator from (suc count) last le fits =
    All-cons Fits (record { creator = creator; index = from })
    (map (λ n. record { creator = creator; index = n }) (count_up (suc from) count)) (omega arith)
    (above_fit creator (suc from) count last (omega arith) fits)

run_fits : (run : IdRun) → run.first ≤ run.last → run.last < 2 ^ 64 → All Fits (ids_of run)
run_fits run le fits =
    All-cons Fits (record { creator = run.creator; index = run.first }) (names_above run.first run.last run.creator)
    (omega arith) (above_fit run.creator (suc run.first) (run.last - run.first) run.last (omega arith) fits)

pub runs_fit : (runs : List IdRun) → AreRuns runs → All Fits (ids_in runs)
runs_fit [] are = All-nil Fits
runs_fit (r ∷ runs) are = All-append Fits (ids_of r) (ids_in runs) (run_fits r are.0 are.3) (runs_fit runs are.2)

-- ---- the names are of replicas where the runs are

abbrev pub IsNamed : ActionId → Type 0
IsNamed id = IsId id.creator

above_named : (creator : ℕ) (indexes : List ℕ) → IsId creator →
    All IsNamed (map (λ n. record { creator = creator; index = n }) indexes)
above_named creator [] is = All-nil IsNamed
above_named creator (n ∷ indexes) is =
    All-cons IsNamed (record { creator = creator; index = n })
    (map (λ n. record { creator = creator; index = n }) indexes) is (above_named creator indexes is)

run_named : (run : IdRun) → IsId run.creator → All IsNamed (ids_of run)
run_named run is =
    All-cons IsNamed (record { creator = run.creator; index = run.first }) (names_above run.first run.last run.creator)
    is (above_named run.creator (above_up_to run.first run.last) is)

pub runs_named : (runs : List IdRun) → AreOfReplicas runs → All IsNamed (ids_in runs)
runs_named [] are = All-nil IsNamed
runs_named (r ∷ runs) are = All-append IsNamed (ids_of r) (ids_in runs) (run_named r are.0) (runs_named runs are.1)

named-more : (runs : List IdRun) (run : IdRun) → AreOfReplicas runs → IsId run.creator → AreOfReplicas (runs ++ run ∷ [])
named-more [] run are is = (is, tt)
named-more (r ∷ runs) run are is = (are.0, named-more runs run are.1 is)

-- one run more of those seen
pub named-next : (runs : List IdRun) (i : ℕ) (run : IdRun) → i < length runs → run ≡ get_or runs i run →
    AreOfReplicas (take i runs) → IsId run.creator → AreOfReplicas (take (i + 1) runs)
named-next runs i run lt there are is =
    subst AreOfReplicas (sym (take_more runs i run lt ∙ ap (λ r. take i runs ++ r ∷ []) (sym there)))
    (named-more (take i runs) run are is)

-- ---- equal names have equal runs

abbrev pub same_run : IdRun → IdRun → Bool
same_run a b = eqb a.creator b.creator && (eqb a.first b.first && eqb a.last b.last)

-- the runs with a name in front
in_front : ActionId → List IdRun → List IdRun
in_front id [] = record { creator = id.creator; first = id.index; last = id.index } ∷ []
in_front id (r ∷ runs) =
    cond (eqb id.creator r.creator && eqb (suc id.index) r.first) (record r { first = id.index } ∷ runs)
    (record { creator = id.creator; first = id.index; last = id.index } ∷ r ∷ runs)

runs_of : List ActionId → List IdRun
runs_of [] = []
runs_of (id ∷ ids) = in_front id (runs_of ids)

in_front-begins : (id : ActionId) (runs : List IdRun) → Ends (record { creator = id.creator; first = id.index; last = id.index }) runs
    → in_front id runs ≡ record { creator = id.creator; first = id.index; last = id.index } ∷ runs
unfolding in_front
in_front-begins id [] ends = refl
in_front-begins id (r ∷ runs) ends = rw ends

in_front-goes_on : (creator from last : ℕ) (runs : List IdRun) → in_front (record { creator = creator; index = from }) (record { creator = creator; first = suc from; last = last } ∷ runs)
    ≡ record { creator = creator; first = from; last = last } ∷ runs
unfolding in_front
in_front-goes_on creator from last runs = rw (eq-eqb creator creator refl, eq-eqb (suc from) (suc from) refl)

Ends-later : (creator first next last : ℕ) (runs : List IdRun) → Ends (record { creator = creator; first = first; last = last }) runs → Ends (record { creator = creator; first = next; last = last }) runs
Ends-later creator first next last [] ends = tt
Ends-later creator first next last (r ∷ runs) ends = ends

-- the names of a run in front of others come to that run
run-found : (creator first count last : ℕ) (ids : List ActionId) → last ≡ first + count → Ends (record { creator = creator; first = first; last = last }) (runs_of ids)
    → runs_of (record { creator = creator; index = first } ∷ (map (λ n. record { creator = creator; index = n }) (count_up (suc first) count) ++ ids))
    ≡ record { creator = creator; first = first; last = last } ∷ runs_of ids
unfolding runs_of
run-found creator first zero last ids long ends =
    let same : last ≡ first = omega arith in
    let own : Ends (record { creator = creator; first = first; last = first }) (runs_of ids) = subst (λ n. Ends (record { creator = creator; first = first; last = n }) (runs_of ids)) same ends in
    in_front-begins (record { creator = creator; index = first }) (runs_of ids) own ∙ ap (λ n. record { creator = creator; first = first; last = n } ∷ runs_of ids) (sym same)
run-found creator first (suc count) last ids long ends =
    ap (in_front (record { creator = creator; index = first })) (run-found creator (suc first) count last ids (omega arith) (Ends-later creator first (suc first) last (runs_of ids) ends))
    ∙ in_front-goes_on creator first last (runs_of ids)

runs_of-ids_in : (runs : List IdRun) → AreRuns runs → runs_of (ids_in runs) ≡ runs
unfolding runs_of
runs_of-ids_in [] are = refl
runs_of-ids_in (r ∷ runs) are =
    let le : r.first ≤ r.last = are.0 in
    let rest : runs_of (ids_in runs) ≡ runs = runs_of-ids_in runs are.2 in
    run-found r.creator r.first (r.last - r.first) r.last (ids_in runs) (omega arith) (subst (Ends r) (sym rest) are.1) ∙ ap (λ rs. r ∷ rs) rest

same_run-Decides : (a b : IdRun) → Decides (same_run a b) (a ≡ b)
same_run-Decides a b = (
  (λ e. let parts = and_parts (eqb a.creator b.creator) (eqb a.first b.first && eqb a.last b.last) e in
      let rest = and_parts (eqb a.first b.first) (eqb a.last b.last) parts.1 in
      λ i. record { creator = eqb-true a.creator b.creator parts.0 i; first = eqb-true a.first b.first rest.0 i; last = eqb-true a.last b.last rest.1 i }),
  (λ e. and_from (eqb a.creator b.creator) (eqb a.first b.first && eqb a.last b.last) (eq-eqb a.creator b.creator (ap (λ x. x.creator) e))
      (and_from (eqb a.first b.first) (eqb a.last b.last) (eq-eqb a.first b.first (ap (λ x. x.first) e)) (eq-eqb a.last b.last (ap (λ x. x.last) e)))),
)

-- runs are equal exactly where their names are
pub same-runs : (a b : List IdRun) (r : Bool) → AreRuns a → AreRuns b → r ≡ pointwise same_run a b → r ≡ pointwise same_id (ids_in a) (ids_in b)
same-runs a b r a_are b_are is =
    let runs = pointwise_decides same_run-Decides a b in
    let ids = pointwise_decides same_id-Decides (ids_in a) (ids_in b) in
    elim (cases_Bool (pointwise same_run a b)) [
      | inl same ↦ is ∙ same ∙ sym (ids.1 (ap ids_in (runs.0 same)))
      | inr differ ↦ is ∙ differ ∙ sym (false_from_ne_true (pointwise same_id (ids_in a) (ids_in b))
          (λ e. absurd (both (sym differ ∙ runs.1 (sym (runs_of-ids_in a a_are) ∙ ap runs_of (ids.0 e) ∙ runs_of-ids_in b b_are)))))
    ]
  where
    both : false ≡ true → ⊥
    both e = cc

-- ---- their text

names_above-none : (low high creator : ℕ) → high ≤ low → names_above low high creator ≡ []
names_above-none low high creator le =
    let none : high - low ≡ 0 = omega arith in
    ap (λ k. map (λ n. record { creator = creator; index = n }) (count_up (suc low) k)) none

-- one name of a run more
names_above-last : (low high creator : ℕ) → low ≤ high → names_above low (high + 1) creator ≡ names_above low high creator ++ record { creator = creator; index = high + 1 } ∷ []
names_above-last low high creator le =
    let name : ℕ → ActionId = λ n. record { creator = creator; index = n } in
    let next : suc high ≡ high + 1 = omega arith in
    names_above-join low high (high + 1) creator le (omega arith)
    ∙ ap (λ ids. names_above low high creator ++ name (suc high) ∷ ids) (names_above-none (suc high) (high + 1) creator (omega arith))
    ∙ ap (λ n. names_above low high creator ++ name n ∷ []) next

pub text_above-last : (low high creator : ℕ) → low ≤ high → flat_map (λ y. 44 ∷ id_text y) (names_above low high creator) ++ 44 ∷ id_text (record { creator = creator; index = high + 1 })
    ≡ flat_map (λ y. 44 ∷ id_text y) (names_above low (high + 1) creator)
text_above-last low high creator le =
    let text : List ActionId → List ℕ = flat_map (λ y. 44 ∷ id_text y) in
    let name : ActionId = record { creator = creator; index = high + 1 } in
    ap (λ xs. text (names_above low high creator) ++ xs) (sym (append-nil (44 ∷ id_text name)))
    ∙ sym (flat_map-append (λ y. 44 ∷ id_text y) (names_above low high creator) (name ∷ []))
    ∙ ap text (sym (names_above-last low high creator le))

texts_runs : (runs : List IdRun) → flat_map (λ run. 44 ∷ with_commas id_text (ids_of run)) runs ≡ flat_map (λ y. 44 ∷ id_text y) (ids_in runs)
texts_runs [] = refl
texts_runs (r ∷ runs) =
    ap (λ xs. (44 ∷ with_commas id_text (ids_of r)) ++ xs) (texts_runs runs)
    ∙ sym (flat_map-append (λ y. 44 ∷ id_text y) (ids_of r) (ids_in runs))

-- the texts of the runs are that of their names
pub text_runs : (runs : List IdRun) → with_commas (λ run. with_commas id_text (ids_of run)) runs ≡ with_commas id_text (ids_in runs)
text_runs [] = refl
text_runs (r ∷ runs) =
    let text : List ActionId → List ℕ = flat_map (λ y. 44 ∷ id_text y) in
    let head : List ℕ = id_text (record { creator = r.creator; index = r.first }) in
    let own = names_above r.first r.last r.creator in
    ap (λ xs. (head ++ text own) ++ xs) (texts_runs runs)
    ∙ append_assoc head (text own) (text (ids_in runs))
    ∙ ap (λ xs. head ++ xs) (sym (flat_map-append (λ y. 44 ∷ id_text y) own (ids_in runs)))

-- ---- one name less

-- the first run without its first name
shorter : (r : IdRun) (runs : List IdRun) → r.first < r.last → ids_in (record r { first = r.first + 1 } ∷ runs) ≡ drop 1 (ids_in (r ∷ runs))
shorter r runs lt =
    let name : ℕ → ActionId = λ n. record { creator = r.creator; index = n } in
    let next : r.first + 1 ≡ suc r.first = omega arith in
    ap (λ n. (name n ∷ names_above n r.last r.creator) ++ ids_in runs) next
    ∙ ap (λ ids. (ids ++ name (suc r.first) ∷ names_above (suc r.first) r.last r.creator) ++ ids_in runs) (sym (names_above-none r.first r.first r.creator (omega arith)))
    ∙ ap (λ ids. ids ++ ids_in runs) (sym (names_above-join r.first r.first r.last r.creator (omega arith) lt))

pub shorter-ids : (runs : List IdRun) (a b c : IdRun) → 0 < length runs → a ≡ get_or runs 0 a → b ≡ get_or runs 0 b → c ≡ get_or runs 0 c → a.first < b.last
    → ids_in (set runs 0 (record c { first = a.first + 1 })) ≡ drop 1 (ids_in runs)
shorter-ids [] a b c some a_is b_is c_is lt = absurd (omega arith)
shorter-ids (r ∷ runs) a b c some a_is b_is c_is lt =
    let below : r.first < r.last = subst (λ (x : IdRun). x.first < r.last) a_is (subst (λ (x : IdRun). a.first < x.last) b_is lt) in
    ap (λ (x : IdRun). ids_in (record x { first = a.first + 1 } ∷ runs)) c_is
    ∙ ap (λ (x : IdRun). ids_in (record r { first = x.first + 1 } ∷ runs)) a_is
    ∙ shorter r runs below

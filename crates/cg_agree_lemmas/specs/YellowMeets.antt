-- The common yellow list as a plan ends: its names go on behind the most updated member's greens, each the next of its creator.
use Rattle.std.proofs.Common.{◌⊎◌, ◌≡◌, ℕ, suc, ◌<◌, ◌≤◌, Bool, true, false, not, ◌&&◌, List, [], ◌∷◌, ◌++◌, max, min, filter, fold, Option, Some, None, refl, sym, ap, ◌∙◌, ⊎_elim, inl, inr, arith, append-nil}
use Rattle.std.specs.Prelude.{nat_lt, nat_le}
use Rattle.std.specs.Option.{option_map_or}
use Rattle.std.specs.List.{list_all}
use Rattle.std.proofs.lemmas.Bool.{cases_eq, cases_lt, cases_Bool, cond-true, cond-false, cond_both, and_parts, and_from, not-true, lt-ltb, le-leb, leb-true, leb-false}
use Rattle.std.proofs.lemmas.List.{append_assoc}
use Rattle.cg_base.specs.declared.action_id.ActionId.{ActionId}
use Rattle.cg_base.specs.Cuts.{index_in, raise}
use Rattle.cg_base.specs.Ids.{has_name}
use Rattle.cg_queue.specs.Queue.{QueueView, names_of}
use Rattle.cg_knowledge.specs.declared.summary.Summary.{Summary}
use Rattle.cg_knowledge.specs.Summaries.{lowest, most_updated}
use Rattle.cg_knowledge.specs.Primary.{knows_prim, newest_index, newest}
use Rattle.cg_knowledge.specs.Yellow.{yellow_group, is_green_at_most, is_in_each, is_common, yellow_of, common_yellow}
use Rattle.cg_states.specs.PlanEnd.{with_name, usable_names}
use Rattle.cg_disk_records.specs.Holds.{run_on, cut_behind, Rising}
use Rattle.cg_disk_records.specs.CutRaiseLaws.{rising-raise, index-same, index-other}
use Rattle.cg_agree_lemmas.specs.EndCovers.{OfEach, lowest-of}
use Rattle.cg_agree_lemmas.specs.EndCuts.{run-above}
use Rattle.cg_agree_lemmas.specs.HeldMarks.{are_within, within-rises, within-filter}
use Rattle.cg_disk_records.specs.RunLaws.{run_on-append}
use Rattle.cg_disk_records.specs.RunMarkLaws.{run-head, run-rest, run-from, run-names, names-new}

-- ---- a part of a run

-- of names that run on from a cut those above another cut, and up to a bound of each creator, run on from that one
pub run-part : (P : ActionId → Bool) (base bound : ℕ → ℕ) → ((id : ActionId) → P id ≡ true → (base id.creator < id.index) × (id.index ≤ bound id.creator)) →
    ((id : ActionId) → base id.creator < id.index → id.index ≤ bound id.creator → P id ≡ true) → (ids cut now : List ActionId) → Rising 0 cut → Rising 0 now →
    ((p : ℕ) → index_in now p ≡ max (base p) (min (index_in cut p) (bound p))) → run_on cut ids ≡ true → run_on now (filter P ids) ≡ true
run-part P base bound inside so [] cut now rising up is run = refl
run-part P base bound inside so (id ∷ ids) cut now rising up is run =
    let next = run-head cut id ids run in
    let rest = run-rest cut id ids run in
    ⊎_elim
    (λ (keeps : P id ≡ true).
    let low = (inside id keeps).0 in
    let high = (inside id keeps).1 in
    let here = is id.creator in
    let at : id.index ≡ suc (index_in now id.creator) = omega arith in
    ap (run_on now) (cond-true (P id) (id ∷ filter P ids) (filter P ids) keeps)
    ∙ run-from now id (filter P ids) at
    (run-part P base bound inside so ids (raise cut id) (raise now id) (rising-raise cut id rising) (rising-raise now id up) (λ p. taken low high next p (cases_eq id.creator p)) rest))
    (λ (drops : P id ≡ false).
    ap (run_on now) (cond-false (P id) (id ∷ filter P ids) (filter P ids) drops)
    ∙ run-part P base bound inside so ids (raise cut id) now (rising-raise cut id rising) up (λ p. left drops next p (cases_eq id.creator p)) rest)
    (cases_Bool (P id))
  where
    taken : base id.creator < id.index → id.index ≤ bound id.creator → id.index ≡ suc (index_in cut id.creator) → (p : ℕ) → (id.creator ≡ p) ⊎ (id.creator ≡ p → ⊥) →
        index_in (raise now id) p ≡ max (base p) (min (index_in (raise cut id) p) (bound p))
    taken low high next p (inl same) =
        let a = index-same now id up p same in
        let b = index-same cut id rising p same in
        let c : index_in cut id.creator ≡ index_in cut p = ap (index_in cut) same in
        let d : base id.creator ≡ base p = ap base same in
        let e : bound id.creator ≡ bound p = ap bound same in
        let f = is p in
        omega arith
    taken low high next p (inr other) =
        let a = index-other now id up p other in
        let b = index-other cut id rising p other in
        let f = is p in
        omega arith

    outside : P id ≡ false → (id.index ≤ base id.creator) ⊎ (bound id.creator < id.index)
    outside drops = ⊎_elim
        (λ (low : base id.creator < id.index). ⊎_elim (λ (past : bound id.creator < id.index). inr past)
        (λ (within : id.index ≤ bound id.creator). absurd (let clash : true ≡ false = sym (so id low within) ∙ drops in cc)) (cases_lt (bound id.creator) id.index))
        (λ (below : id.index ≤ base id.creator). inl below) (cases_lt (base id.creator) id.index)

    left : P id ≡ false → id.index ≡ suc (index_in cut id.creator) → (p : ℕ) → (id.creator ≡ p) ⊎ (id.creator ≡ p → ⊥) → index_in now p ≡ max (base p) (min (index_in (raise cut id) p) (bound p))
    left drops next p (inl same) =
        let b = index-same cut id rising p same in
        let c : index_in cut id.creator ≡ index_in cut p = ap (index_in cut) same in
        let d : base id.creator ≡ base p = ap base same in
        let e : bound id.creator ≡ bound p = ap bound same in
        let f = is p in
        ⊎_elim (λ (below : id.index ≤ base id.creator). (let r : index_in now p ≡ max (base p) (min (index_in (raise cut id) p) (bound p)) = omega arith in r))
        (λ (past : bound id.creator < id.index). (let r : index_in now p ≡ max (base p) (min (index_in (raise cut id) p) (bound p)) = omega arith in r)) (outside drops)
    left drops next p (inr other) =
        let b = index-other cut id rising p other in
        let f = is p in
        omega arith

-- ---- the lists of a group

-- how far a summary's yellow names go
abbrev pub yellow_to : Summary → ℕ → ℕ
yellow_to s p = index_in (cut_behind s.green_cut s.yellow.list) p

-- the least of these, from a number on
abbrev least_to : ℕ → List Summary → ℕ → ℕ
least_to m [] p = m
least_to m (s ∷ group) p = least_to (min m (yellow_to s p)) group p

least-within : (group : List Summary) (m n p : ℕ) → n ≤ m → OfEach (λ s. n ≤ yellow_to s p) group → n ≤ least_to m group p
least-within [] m n p le each = le
least-within (s ∷ group) m n p le each = least-within group (min m (yellow_to s p)) n p (let a = each.0 in omega arith) each.1

least-below : (group : List Summary) (m p : ℕ) → (least_to m group p ≤ m) × OfEach (λ s. least_to m group p ≤ yellow_to s p) group
least-below [] m p = (omega arith, tt)
least-below (s ∷ group) m p =
    let rest = least-below group (min m (yellow_to s p)) p in
    let low = rest.0 in
    (omega arith, (omega arith, rest.1))

-- a summary whose yellow names run on behind its greens, of which the most updated member has no fewer
pub record FitsBest (best : List ActionId) (s : Summary) : Type 0 where
  pub next : run_on s.green_cut s.yellow.list ≡ true
  pub rising : Rising 0 s.green_cut
  pub below : (p : ℕ) → index_in s.green_cut p ≤ index_in best p

each-of_all : (t : Summary → Bool) (group : List Summary) → list_all t group ≡ true → OfEach (λ s. t s ≡ true) group
each-of_all t [] e = tt
each-of_all t (s ∷ group) e = let parts = and_parts (t s) (list_all t group) e in (parts.0, each-of_all t group parts.1)

all-of_each : (t : Summary → Bool) (group : List Summary) → OfEach (λ s. t s ≡ true) group → list_all t group ≡ true
all-of_each t [] each = refl
all-of_each t (s ∷ group) each = and_from (t s) (list_all t group) each.0 (all-of_each t group each.1)

-- what holds of each holds of those that pass a test
pub each-filter : (P : Summary → Type 0) (t : Summary → Bool) (heard : List Summary) → OfEach P heard → OfEach P (filter t heard)
each-filter P t [] each = tt
each-filter P t (s ∷ heard) each =
    cond_both (t s) (s ∷ filter t heard) (filter t heard) (OfEach P) (λ y. (each.0, each-filter P t heard each.1)) (λ n. each-filter P t heard each.1)

pub each-group : (P : Summary → Type 0) (heard : List Summary) → OfEach P heard → OfEach P (yellow_group heard)
unfolding yellow_group newest
each-group P heard each = each-filter P (λ s. s.yellow.valid) (filter (knows_prim (newest_index heard)) heard) (each-filter P (knows_prim (newest_index heard)) heard each)

-- a name of a list is above its greens, and no farther than the list goes
named-within : (best : List ActionId) (s : Summary) (id : ActionId) → FitsBest best s → has_name s.yellow.list id ≡ true → id.index ≤ yellow_to s id.creator
named-within best s id fits e =
    let both = and_parts (nat_lt (index_in s.green_cut id.creator) id.index) (nat_le id.index (yellow_to s id.creator)) (sym (run-names s.green_cut s.yellow.list id fits.rising fits.next) ∙ e) in
    leb-true id.index (yellow_to s id.creator) both.1

named-there : (best : List ActionId) (s : Summary) (id : ActionId) → FitsBest best s → index_in best id.creator < id.index → id.index ≤ yellow_to s id.creator → has_name s.yellow.list id ≡ true
named-there best s id fits above within =
    let low = fits.below id.creator in
    run-names s.green_cut s.yellow.list id fits.rising fits.next
    ∙ and_from (nat_lt (index_in s.green_cut id.creator) id.index) (nat_le id.index (yellow_to s id.creator)) (lt-ltb (index_in s.green_cut id.creator) id.index (omega arith)) (le-leb id.index (yellow_to s id.creator) within)

group-within : (best : List ActionId) (id : ActionId) (group : List Summary) → OfEach (FitsBest best) group → OfEach (λ s. has_name s.yellow.list id ≡ true) group → OfEach (λ s. id.index ≤ yellow_to s id.creator) group
group-within best id [] fits each = tt
group-within best id (s ∷ group) fits each = (named-within best s id fits.0 each.0, group-within best id group fits.1 each.1)

group-there : (best : List ActionId) (id : ActionId) (n : ℕ) (group : List Summary) → OfEach (FitsBest best) group → index_in best id.creator < id.index → id.index ≤ n → OfEach (λ s. n ≤ yellow_to s id.creator) group →
    OfEach (λ s. has_name s.yellow.list id ≡ true) group
group-there best id n [] fits above le each = tt
group-there best id n (s ∷ group) fits above le each = (named-there best s id fits.0 above (let a = each.0 in omega arith), group-there best id n group fits.1 above le each.1)

-- ---- the common list

at-most : (heard : List Summary) (best : Summary) → most_updated heard ≡ Some best → (id : ActionId) → is_green_at_most heard id ≡ nat_le id.index (index_in best.green_cut id.creator)
unfolding is_green_at_most
at-most heard best e id = ap (λ o. option_map_or (λ s. nat_le id.index (index_in s.green_cut id.creator)) o false) e

module _ (heard : List Summary) (best low : Summary) (most : most_updated heard ≡ Some best) (least : lowest (yellow_group heard) ≡ Some low) (fits : OfEach (FitsBest best.green_cut) (yellow_group heard)) where
  -- so far the group's lists go
  abbrev bound : ℕ → ℕ
  bound p = least_to (yellow_to low p) (yellow_group heard) p

  abbrev base : ℕ → ℕ
  base p = index_in best.green_cut p

  low-fits : FitsBest best.green_cut low
  low-fits = lowest-of (FitsBest best.green_cut) (yellow_group heard) low least fits

  common-yes : (id : ActionId) → is_common heard id ≡ true → (base id.creator < id.index) × (id.index ≤ bound id.creator)
  unfolding is_in_each
  common-yes id e =
      let parts = and_parts (is_in_each (yellow_group heard) id) (not (is_green_at_most heard id)) e in
      let above = leb-false id.index (base id.creator) (sym (at-most heard best most id) ∙ not-true (is_green_at_most heard id) parts.1) in
      let named = each-of_all (λ s. has_name s.yellow.list id) (yellow_group heard) parts.0 in
      let each = group-within best.green_cut id (yellow_group heard) fits named in
      let own = lowest-of (λ s. id.index ≤ yellow_to s id.creator) (yellow_group heard) low least each in
      (above, least-within (yellow_group heard) (yellow_to low id.creator) id.index id.creator own each)

  common-so : (id : ActionId) → base id.creator < id.index → id.index ≤ bound id.creator → is_common heard id ≡ true
  unfolding is_in_each
  common-so id above within =
      let below = least-below (yellow_group heard) (yellow_to low id.creator) id.creator in
      and_from (is_in_each (yellow_group heard) id) (not (is_green_at_most heard id))
      (all-of_each (λ s. has_name s.yellow.list id) (yellow_group heard) (group-there best.green_cut id (bound id.creator) (yellow_group heard) fits above within below.1))
      (ap not (at-most heard best most id ∙ lt-not id.index (base id.creator) above)) where
        lt-not : (n m : ℕ) → m < n → nat_le n m ≡ false
        lt-not n m lt = ⊎_elim (λ y. absurd (let le = leb-true n m y in omega arith)) (λ f. f) (cases_Bool (nat_le n m))

  -- behind the most updated member's greens the names of the list that they have in common run on
  common-run : Rising 0 best.green_cut → run_on best.green_cut (filter (is_common heard) low.yellow.list) ≡ true
  common-run up =
      run-part (is_common heard) base bound common-yes common-so low.yellow.list low.green_cut best.green_cut low-fits.rising up
      (λ p. (let le = low-fits.below p in omega arith)) low-fits.next

-- So it is whether there is a valid list or none.
pub common-next : (heard : List Summary) (best : Summary) → most_updated heard ≡ Some best → Rising 0 best.green_cut → OfEach (FitsBest best.green_cut) (yellow_group heard) →
    run_on best.green_cut (common_yellow heard).list ≡ true
unfolding common_yellow
common-next heard best most up fits = at (lowest (yellow_group heard)) refl where
  at : (o : Option Summary) → lowest (yellow_group heard) ≡ o → run_on best.green_cut (yellow_of heard o).list ≡ true
  at None e = refl
  at (Some low) e = common-run heard best low most e fits up

-- and each of the names is known to who knows no less than each member of the group
pub common-known : (heard : List Summary) (red : List ActionId) → OfEach (λ s. (are_within s.red_cut s.yellow.list ≡ true) × ((p : ℕ) → index_in s.red_cut p ≤ index_in red p)) (yellow_group heard) →
    are_within red (common_yellow heard).list ≡ true
unfolding common_yellow
common-known heard red each = at (lowest (yellow_group heard)) refl where
  at : (o : Option Summary) → lowest (yellow_group heard) ≡ o → are_within red (yellow_of heard o).list ≡ true
  at None e = refl
  at (Some low) e =
      let own = lowest-of (λ s. (are_within s.red_cut s.yellow.list ≡ true) × ((p : ℕ) → index_in s.red_cut p ≤ index_in red p)) (yellow_group heard) low e each in
      within-rises low.red_cut red (filter (is_common heard) low.yellow.list) own.1 (within-filter low.red_cut (is_common heard) low.yellow.list own.0)

-- ---- names that are taken over whole

-- names that run on behind the green cut and are known are those of reds
pub reds-named : (green reds ids : List ActionId) → Rising 0 green → run_on green reds ≡ true → run_on green ids ≡ true → are_within (cut_behind green reds) ids ≡ true → list_all (has_name reds) ids ≡ true
reds-named green reds ids rising run on within = each ids (run-above ids green green on (λ p. (let le : index_in green p ≤ index_in green p = omega arith in le))) within where
  each : (ids : List ActionId) → list_all (λ id. not (nat_le id.index (index_in green id.creator))) ids ≡ true → are_within (cut_behind green reds) ids ≡ true → list_all (has_name reds) ids ≡ true
  each [] above within = refl
  each (id ∷ ids) above within =
      let a = and_parts (not (nat_le id.index (index_in green id.creator))) (list_all (λ id. not (nat_le id.index (index_in green id.creator))) ids) above in
      let b = and_parts (nat_le id.index (index_in (cut_behind green reds) id.creator)) (are_within (cut_behind green reds) ids) within in
      let lt = leb-false id.index (index_in green id.creator) (not-true (nat_le id.index (index_in green id.creator)) a.0) in
      and_from (has_name reds id) (list_all (has_name reds) ids)
      (run-names green reds id rising run
      ∙ and_from (nat_lt (index_in green id.creator) id.index) (nat_le id.index (index_in (cut_behind green reds) id.creator)) (lt-ltb (index_in green id.creator) id.index lt) b.0) (each ids a.1 b.1)

taken-names : (q : QueueView) (cut ids list : List ActionId) → Rising 0 cut → list_all (has_name (names_of q.reds)) ids ≡ true → run_on cut (list ++ ids) ≡ true → fold (with_name q) list ids ≡ list ++ ids
taken-names q cut [] list rising named run = sym (append-nil list)
taken-names q cut (id ∷ ids) list rising named run =
    let parts = and_parts (has_name (names_of q.reds) id) (list_all (has_name (names_of q.reds)) ids) named in
    let both = and_parts (run_on cut list) (run_on (cut_behind cut list) (id ∷ ids)) (sym (run_on-append cut list (id ∷ ids)) ∙ run) in
    let new = names-new cut list id rising both.0 (run-head (cut_behind cut list) id ids both.1) in
    let one : with_name q list id ≡ list ++ id ∷ [] =
    cond-true (has_name (names_of q.reds) id && not (has_name list id)) (list ++ id ∷ []) list (and_from (has_name (names_of q.reds) id) (not (has_name list id)) parts.0 (ap not new)) in
    ap (λ xs. fold (with_name q) xs ids) one
    ∙ taken-names q cut ids (list ++ id ∷ []) rising parts.1 (ap (run_on cut) (append_assoc list (id ∷ []) ids) ∙ run)
    ∙ append_assoc list (id ∷ []) ids

-- Names of reds that run on are all usable.
pub usable-all : (q : QueueView) (cut ids : List ActionId) → Rising 0 cut → list_all (has_name (names_of q.reds)) ids ≡ true → run_on cut ids ≡ true → usable_names q ids ≡ ids
unfolding usable_names
usable-all q cut ids rising named run = taken-names q cut ids [] rising named run

-- Cells: each is a set of replicas in one configuration, and no two share a member. What becomes of them when one changes.
use Rattle.std.proofs.Common.{◌≡◌, ℕ, zero, suc, ◌+◌, ◌≤◌, ◌<◌, Bool, true, false, not, ◌&&◌, ◌||◌, List, [], ◌∷◌, filter, find, take, drop, length, Option, Some, None, refl, sym, ap, subst, ◌∙◌, ⊎_elim, eqb, eqb-true, eq-eqb, arith, length-append, inl, inr}
use Rattle.std.specs.Prelude.{◌==◌, IfSome, nat_lt, if◌then◌else◌, ◌⊎◌}
use Rattle.std.specs.Option.{unwrap_or}
use Rattle.std.specs.List.{insert, prefix_len}
use Rattle.std.proofs.lemmas.Bool.{cond_both, cond-true, cond-false, cases_Bool, and_parts, or_cases, or_right, ne_eqb, false_from_ne_true}
use Rattle.cg_base.specs.Sets.{Ascends, has, with_member, without_member, common}
use Rattle.cg_base.specs.SetLaws.{has-with_member, has-common, has-without_member, Ascends-with_member, Ascends-filter}
use Rattle.cg_base.specs.Lists.{Each}
use Rattle.cg_base.specs.EachLaws.{Each-append, Each-filter, Each-drop, Each-take}
use Rattle.cg_schedule.specs.declared.event.Event.TheVariants.{Split, Merge}
use Rattle.cg_gen.specs.Generated.{Drawing, draw, first_of, are_apart, placed, with_cell, cell_at, cell_of, Block, in_half, halved, parting}

-- ---- sets

-- each member of the first set is one of the second
abbrev pub IsIn : List ℕ → List ℕ → Type 0
IsIn s t = (p : ℕ) → has s p ≡ true → has t p ≡ true

-- no member of the first set is one of the second
abbrev pub IsApart : List ℕ → List ℕ → Type 0
IsApart s t = (p : ℕ) → has s p ≡ true → has t p ≡ false

-- what is so can't be otherwise
pub not-both : {Y : Type 0} (b : Bool) → b ≡ true → b ≡ false → Y
not-both b yes_is no_is = absurd (let clash : true ≡ false = sym yes_is ∙ no_is in cc)

pub flipped : (s t : List ℕ) → IsApart s t → IsApart t s
flipped s t apart p here = false_from_ne_true (has s p) (λ there. not-both (has t p) here (apart p there))

pub nothing : (set : List ℕ) → (length set == 0) ≡ true → set ≡ []
nothing [] e = refl
nothing (p ∷ set) e = let clash : suc (length set) ≡ 0 = eqb-true (suc (length set)) 0 e in absurd cc

pub something : (set : List ℕ) → (length set == 0) ≡ false → (p : ℕ) × (has set p ≡ true)
something [] e = absurd (let clash : true ≡ false = e in cc)
something (p ∷ set) e = (p, ap (λ b. b || has set p) (eq-eqb p p refl))

not-empty : (set : List ℕ) (p : ℕ) → has set p ≡ true → (length set == 0) ≡ false
not-empty [] p here = absurd (let clash : false ≡ true = here in cc)
not-empty (q ∷ set) p here = ne_eqb (suc (length set)) 0 (λ e. let clash : suc (length set) ≡ 0 = e in cc)

-- ---- cells

pub record IsCell (all : List ℕ) (conf_of : ℕ → ℕ) (cell : List ℕ) : Type 0 where
  pub ascends : Ascends 1 cell
  pub first : ℕ
  pub some : has cell first ≡ true
  pub within : IsIn cell all
  pub conf : ℕ
  pub above : 0 < conf
  pub same : (p : ℕ) → has cell p ≡ true → conf_of p ≡ conf

abbrev AreApart : List (List ℕ) → Type 0
AreApart [] = Unit {0}
AreApart (cell ∷ cells) = Each (IsApart cell) cells × AreApart cells

pub record CellsFit (all : List ℕ) (conf_of : ℕ → ℕ) (cells : List (List ℕ)) : Type 0 where
  pub each : Each (IsCell all conf_of) cells
  pub apart : AreApart cells
  pub some : 0 < length cells

-- the members of a set are in another configuration
abbrev pub moved : List ℕ → ℕ → (ℕ → ℕ) → ℕ → ℕ
moved set conf conf_of p = if has set p then conf else conf_of p

pub moved-here : (set : List ℕ) (conf : ℕ) (conf_of : ℕ → ℕ) (p : ℕ) → has set p ≡ true → moved set conf conf_of p ≡ conf
moved-here set conf conf_of p here = cond-true (has set p) conf (conf_of p) here

pub moved-other : (set : List ℕ) (conf : ℕ) (conf_of : ℕ → ℕ) (p : ℕ) → has set p ≡ false → moved set conf conf_of p ≡ conf_of p
moved-other set conf conf_of p other = cond-false (has set p) conf (conf_of p) other

module _ (all : List ℕ) (conf_of new_of : ℕ → ℕ) (set : List ℕ) (stays : (p : ℕ) → has set p ≡ false → new_of p ≡ conf_of p) where
  -- a cell without a member of the set stays one
  cell-stays : (cell : List ℕ) → IsApart set cell → IsCell all conf_of cell → IsCell all new_of cell
  cell-stays cell apart is = record {
    ascends = is.ascends;
    first = is.first;
    some = is.some;
    within = is.within;
    conf = is.conf;
    above = is.above;
    same = λ p here. stays p (flipped set cell apart p here) ∙ is.same p here;
  }

  cells-stay : (cells : List (List ℕ)) → Each (IsApart set) cells → Each (IsCell all conf_of) cells → Each (IsCell all new_of) cells
  cells-stay [] apart each = tt
  cells-stay (cell ∷ cells) apart each = (cell-stays cell apart.0 each.0, cells-stay cells apart.1 each.1)

-- ---- a cell among the others

pub Each-insert : {X : Type 0} (P : X → Type 0) (i : ℕ) (x : X) (xs : List X) → P x → Each P xs → Each P (insert xs i x)
Each-insert P i x xs new each = Each-append P (take i xs) (x ∷ drop i xs) (Each-take P i xs each) (new, Each-drop P i xs each)

apart-insert : (i : ℕ) (set : List ℕ) (cells : List (List ℕ)) → Each (IsApart set) cells → AreApart cells → AreApart (insert cells i set)
apart-insert zero set cells each apart = (each, apart)
apart-insert (suc i) set [] each apart = (tt, tt)
apart-insert (suc i) set (cell ∷ cells) each apart =
    (Each-insert (IsApart cell) i set cells (flipped set cell each.0) apart.0, apart-insert i set cells each.1 apart.1)

apart-filter : (test : List ℕ → Bool) (cells : List (List ℕ)) → AreApart cells → AreApart (filter test cells)
apart-filter test [] apart = tt
apart-filter test (cell ∷ cells) apart =
    cond_both (test cell) (cell ∷ filter test cells) (filter test cells) AreApart
    (λ y. (Each-filter (IsApart cell) test cells apart.0, apart-filter test cells apart.1)) (λ n. apart-filter test cells apart.1)

and-left : (a b : Bool) → (a && b) ≡ false → b ≡ true → a ≡ false
and-left true b e f = absurd (let clash : true ≡ false = sym f ∙ e in cc)
and-left false b e f = refl

are-apart : (set cell : List ℕ) → are_apart set cell ≡ true → IsApart set cell
are-apart set cell e p here =
    let none : (has cell p && has set p) ≡ false = sym (has-common cell set p) ∙ ap (λ s. has s p) (nothing (common cell set) e) in
    and-left (has cell p) (has set p) none here

those-apart : (set : List ℕ) (cells : List (List ℕ)) → Each (IsApart set) (filter (are_apart set) cells)
those-apart set [] = tt
those-apart set (cell ∷ cells) =
    cond_both (are_apart set cell) (cell ∷ filter (are_apart set) cells) (filter (are_apart set) cells) (Each (IsApart set))
    (λ y. (are-apart set cell y, those-apart set cells)) (λ n. those-apart set cells)

-- A set that has become one is a cell, and those that shared no member with it still are.
pub with_cell-fits : (all : List ℕ) (conf_of new_of : ℕ → ℕ) (cells : List (List ℕ)) (set : List ℕ) → ((p : ℕ) → has set p ≡ false → new_of p ≡ conf_of p) →
    IsCell all new_of set → CellsFit all conf_of cells → CellsFit all new_of (with_cell cells set)
unfolding with_cell
with_cell-fits all conf_of new_of cells set stays new fit =
    let others = filter (are_apart set) cells in
    let apart = those-apart set cells in
    let place : ℕ = prefix_len (λ cell. nat_lt (first_of cell) (first_of set)) others in
    let long = length-append (take place others) (set ∷ drop place others) in
    subst (CellsFit all new_of) (sym (cond-false (length set == 0) cells (placed others set) (not-empty set new.first new.some)))
    (record {
      each = Each-insert (IsCell all new_of) place set others new
          (cells-stay all conf_of new_of set stays others apart (Each-filter (IsCell all conf_of) (are_apart set) cells fit.each));
      apart = apart-insert place set others apart (apart-filter (are_apart set) cells fit.apart);
      some = (let l : length (placed others set) ≡ length (take place others) + suc (length (drop place others)) = long in omega arith);
    })

-- nothing becomes a cell where the set is empty
with_none : (cells : List (List ℕ)) (set : List ℕ) → (length set == 0) ≡ true → with_cell cells set ≡ cells
unfolding with_cell
with_none cells set e = cond-true (length set == 0) cells (placed (filter (are_apart set) cells) set) e

-- ---- the cell of a number, and that of a replica

pub at-cell : (P : List ℕ → Type 0) (cells : List (List ℕ)) (i : ℕ) → i < length cells → Each P cells → P (cell_at cells i)
at-cell P [] i less each = absurd (omega (arith, less))
at-cell P (cell ∷ cells) zero less each = each.0
at-cell P (cell ∷ cells) (suc i) less each = at-cell P cells i (omega (arith, less)) each.1

pub apart-at : (cells : List (List ℕ)) (i k : ℕ) → i < length cells → k < length cells → (i ≡ k → ⊥) → AreApart cells → IsApart (cell_at cells i) (cell_at cells k)
apart-at [] i k li lk other apart = absurd (omega (arith, li))
apart-at (cell ∷ cells) zero zero li lk other apart = absurd (other refl)
apart-at (cell ∷ cells) zero (suc k) li lk other apart = at-cell (IsApart cell) cells k (omega (arith, lk)) apart.0
apart-at (cell ∷ cells) (suc i) zero li lk other apart = flipped cell (cell_at cells i) (at-cell (IsApart cell) cells i (omega (arith, li)) apart.0)
apart-at (cell ∷ cells) (suc i) (suc k) li lk other apart =
    apart-at cells i k (omega (arith, li)) (omega (arith, lk)) (λ e. other (ap suc e)) apart.1

-- a cell that became another configuration as a whole
cell-again : (all : List ℕ) (conf_of new_of : ℕ → ℕ) (cells : List (List ℕ)) (i : ℕ) → i < length cells → ((p : ℕ) → has (cell_at cells i) p ≡ false → new_of p ≡ conf_of p) →
    IsCell all new_of (cell_at cells i) → AreApart cells → Each (IsCell all conf_of) cells → Each (IsCell all new_of) cells
cell-again all conf_of new_of [] i less stays new apart each = tt
cell-again all conf_of new_of (cell ∷ cells) zero less stays new apart each = (new, cells-stay all conf_of new_of cell stays cells apart.0 each.1)
cell-again all conf_of new_of (cell ∷ cells) (suc i) less stays new apart each =
    let within : i < length cells = omega (arith, less) in (
      cell-stays all conf_of new_of (cell_at cells i) stays cell (flipped cell (cell_at cells i) (at-cell (IsApart cell) cells i within apart.0)) each.0,
      cell-again all conf_of new_of cells i within stays new apart.1 each.1,
    )

pub again-fits : (all : List ℕ) (conf_of new_of : ℕ → ℕ) (cells : List (List ℕ)) (i : ℕ) → i < length cells → ((p : ℕ) → has (cell_at cells i) p ≡ false → new_of p ≡ conf_of p) →
    IsCell all new_of (cell_at cells i) → CellsFit all conf_of cells → CellsFit all new_of cells
again-fits all conf_of new_of cells i less stays new fit =
    record { each = cell-again all conf_of new_of cells i less stays new fit.apart fit.each; apart = fit.apart; some = fit.some }

-- a set in a configuration of its own
pub cell-new : (all : List ℕ) (conf_of : ℕ → ℕ) (set : List ℕ) (first conf : ℕ) → Ascends 1 set → has set first ≡ true → IsIn set all → 0 < conf → IsCell all (moved set conf conf_of) set
cell-new all conf_of set first conf ascends some within above =
    record { ascends = ascends; first = first; some = some; within = within; conf = conf; above = above; same = λ p here. moved-here set conf conf_of p here }

-- what is left of a replica's cell without it
pub rest-fits : (all : List ℕ) (conf_of : ℕ → ℕ) (cells : List (List ℕ)) (p : ℕ) → CellsFit all conf_of cells → CellsFit all conf_of (with_cell cells (without_member (cell_of cells p) p))
rest-fits all conf_of cells p fit = found (find (λ cell. has cell p) cells) (each-found cells fit.each) where
  each-found : (list : List (List ℕ)) → Each (IsCell all conf_of) list → IfSome (find (λ cell. has cell p) list) (IsCell all conf_of)
  each-found [] each = tt
  each-found (cell ∷ list) each =
      cond_both (has cell p) (Some cell) (find (λ cell. has cell p) list) (λ o. IfSome o (IsCell all conf_of)) (λ y. each.0) (λ n. each-found list each.1)

  part : (cell : List ℕ) → IsCell all conf_of cell → (length (without_member cell p) == 0) ≡ false → IsCell all conf_of (without_member cell p)
  part cell is some =
      let rest = without_member cell p in
      let one = something rest some in
      let whole : IsIn rest cell = λ q here. (and_parts (has cell q) (not (eqb q p)) (sym (has-without_member cell p q) ∙ here)).0 in
      record {
        ascends = Ascends-filter (λ q. not (eqb q p)) cell 1 is.ascends;
        first = one.0;
        some = one.1;
        within = λ q here. is.within q (whole q here);
        conf = is.conf;
        above = is.above;
        same = λ q here. is.same q (whole q here);
      }

  found : (o : Option (List ℕ)) → IfSome o (IsCell all conf_of) → CellsFit all conf_of (with_cell cells (without_member (unwrap_or o []) p))
  found None is = subst (CellsFit all conf_of) (sym (with_none cells [] refl)) fit
  found (Some cell) is = ⊎_elim
      (λ y. subst (CellsFit all conf_of) (sym (with_none cells (without_member cell p) y)) fit)
      (λ n. with_cell-fits all conf_of conf_of cells (without_member cell p) (λ q other. refl) (part cell is n) fit)
      (cases_Bool (length (without_member cell p) == 0))

-- ---- halves

-- two parts of a cell
pub record AreHalves (cell first second : List ℕ) : Type 0 where
  pub first_ascends : Ascends 1 first
  pub second_ascends : Ascends 1 second
  pub first_in : IsIn first cell
  pub second_in : IsIn second cell
  pub apart : IsApart first second

abbrev AreBelow : ℕ → List ℕ → Type 0
AreBelow low set = (p : ℕ) → has set p ≡ true → p < low

-- a set with one more member, above the others
more-in : (cell set : List ℕ) (p : ℕ) → has cell p ≡ true → IsIn set cell → IsIn (with_member set p) cell
more-in cell set p new is q here = ⊎_elim
    (λ old. is q old) (λ same. subst (λ k. has cell k ≡ true) (eqb-true p q same) new) (or_cases (has set q) (eqb p q) (sym (has-with_member set p q) ∙ here))

more-below : (low p : ℕ) (set : List ℕ) → low ≤ p → AreBelow low set → AreBelow (suc p) (with_member set p)
more-below low p set le below q here = ⊎_elim
    (λ old. (let less : q < low = below q old in omega arith)) (λ same. (let e : p ≡ q = eqb-true p q same in omega arith)) (or_cases (has set q) (eqb p q) (sym (has-with_member set p q) ∙ here))

still-below : (low p : ℕ) (set : List ℕ) → low ≤ p → AreBelow low set → AreBelow (suc p) set
still-below low p set le below q here = let less : q < low = below q here in omega arith

-- a member above all of the other set
more-apart : (low p : ℕ) (s t : List ℕ) → low ≤ p → AreBelow low t → IsApart s t → IsApart (with_member s p) t
more-apart low p s t le below apart q here = ⊎_elim
    (λ old. apart q old)
    (λ same. false_from_ne_true (has t q) (λ there. (let less : q < low = below q there in let e : p ≡ q = eqb-true p q same in absurd (omega (arith, less, e, le)))))
    (or_cases (has s q) (eqb p q) (sym (has-with_member s p q) ∙ here))

record HalvesSoFar (cell : List ℕ) (low : ℕ) (first second : List ℕ) : Type 0 where
  are : AreHalves cell first second
  first_below : AreBelow low first
  second_below : AreBelow low second

swapped : (cell : List ℕ) (low : ℕ) (first second : List ℕ) → HalvesSoFar cell low first second → HalvesSoFar cell low second first
swapped cell low first second so_far =
    let are = so_far.are in
    record {
      are = record {
        first_ascends = are.second_ascends;
        second_ascends = are.first_ascends;
        first_in = are.second_in;
        second_in = are.first_in;
        apart = flipped first second are.apart;
      };
      first_below = so_far.second_below;
      second_below = so_far.first_below;
    }

into-first : (cell : List ℕ) (low p : ℕ) (first second : List ℕ) → 1 ≤ p → low ≤ p → p ≤ 32 → has cell p ≡ true → HalvesSoFar cell low first second → HalvesSoFar cell (suc p) (with_member first p) second
into-first cell low p first second one le high here so_far =
    let are = so_far.are in
    record {
      are = record {
        first_ascends = Ascends-with_member first 1 p one high are.first_ascends;
        second_ascends = are.second_ascends;
        first_in = more-in cell first p here are.first_in;
        second_in = are.second_in;
        apart = more-apart low p first second le so_far.second_below are.apart;
      };
      first_below = more-below low p first le so_far.first_below;
      second_below = still-below low p second le so_far.second_below;
    }

-- a member comes into one of the halves
abbrev IsPut : ℕ → List ℕ → List ℕ → List ℕ → List ℕ → Type 0
IsPut p first second new_first new_second = ((new_first ≡ with_member first p) × (new_second ≡ second)) ⊎ ((new_first ≡ first) × (new_second ≡ with_member second p))

put-fits : (cell : List ℕ) (low p : ℕ) (first second new_first new_second : List ℕ) → 1 ≤ p → low ≤ p → p ≤ 32 → has cell p ≡ true → IsPut p first second new_first new_second →
    HalvesSoFar cell low first second → HalvesSoFar cell (suc p) new_first new_second
put-fits cell low p first second new_first new_second one le high here put so_far = ⊎_elim
    (λ one_is. subst (λ xs. HalvesSoFar cell (suc p) xs new_second) (sym one_is.0) (subst (HalvesSoFar cell (suc p) (with_member first p)) (sym one_is.1)
    (into-first cell low p first second one le high here so_far)))
    (λ two_is. subst (λ xs. HalvesSoFar cell (suc p) xs new_second) (sym two_is.0) (subst (HalvesSoFar cell (suc p) first) (sym two_is.1)
    (swapped cell (suc p) (with_member second p) first (into-first cell low p second first one le high here (swapped cell low first second so_far)))))
    put

-- The halves of the generator are of a type that it keeps to itself: here it is H, with its two parts.
module _ {H : Type 0} (first second : H → List ℕ) (put : H → ℕ → ℕ → H) (is_put : (h : H) (p n : ℕ) → IsPut p (first h) (second h) (first (put h p n)) (second (put h p n)))
    (go : List ℕ → H → Drawing H) (none : (h : H) (x : ℕ) → go [] h x ≡ (h, x))
    (some : (p : ℕ) (set : List ℕ) (h : H) (x : ℕ) → go (p ∷ set) h x ≡ go set (put h p (draw 2 x).0) (draw 2 x).1) where
  halved-so_far : (cell rest : List ℕ) (low : ℕ) (h : H) (x : ℕ) → 1 ≤ low → Ascends low rest → IsIn rest cell → HalvesSoFar cell low (first h) (second h) →
      AreHalves cell (first (go rest h x).0) (second (go rest h x).0)
  halved-so_far cell [] low h x one ascends is so_far = subst (λ (r : H × ℕ). AreHalves cell (first r.0) (second r.0)) (sym (none h x)) so_far.are
  halved-so_far cell (p ∷ rest) low h x one ascends is so_far =
      let le : low ≤ p = ascends.0 in
      let now = put h p (draw 2 x).0 in
      subst (λ (r : H × ℕ). AreHalves cell (first r.0) (second r.0)) (sym (some p rest h x))
      (halved-so_far cell rest (suc p) now (draw 2 x).1 (omega arith) ascends.2 (λ q later. is q (or_right (p == q) (has rest q) later))
      (put-fits cell low p (first h) (second h) (first now) (second now) (omega arith) le ascends.1 (is p (ap (λ b. b || has rest p) (eq-eqb p p refl))) (is_put h p (draw 2 x).0) so_far))

none-yet : (cell : List ℕ) → HalvesSoFar cell 1 [] []
none-yet cell = record {
  are = record {
    first_ascends = tt;
    second_ascends = tt;
    first_in = λ p here. absurd (let clash : false ≡ true = here in cc);
    second_in = λ p here. absurd (let clash : false ≡ true = here in cc);
    apart = λ p here. refl;
  };
  first_below = λ p here. absurd (let clash : false ≡ true = here in cc);
  second_below = λ p here. absurd (let clash : false ≡ true = here in cc);
}

-- a cell in two parts; where one of them is empty the cell stays one
abbrev pub in_two : List (List ℕ) → List ℕ → List ℕ → List ℕ → Block
in_two cells cell first second =
    if length first == 0 || length second == 0
    then record { first = Split cell; others = Merge cell ∷ []; cells = cells }
    else record { first = Split first; others = Split second ∷ Merge first ∷ Merge second ∷ []; cells = with_cell (with_cell cells first) second }

-- The halves into which the members of a cell are drawn.
pub parted-cell : (cells : List (List ℕ)) (i x : ℕ) → Ascends 1 (cell_at cells i) →
    (first : List ℕ) × (second : List ℕ) × AreHalves (cell_at cells i) first second × ((parting cells i x).0 ≡ in_two cells (cell_at cells i) first second)
unfolding parting
parted-cell cells i x ascends =
    let cell = cell_at cells i in
    let start = halved cell (record { first = []; second = [] }) x in
    let are = halved-so_far (λ h. h.first) (λ h. h.second) in_half
    (λ h p n. cond_both (n == 0) (record h { first = with_member h.first p }) (record h { second = with_member h.second p })
    (λ k. IsPut p h.first h.second k.first k.second) (λ y. inl (refl, refl)) (λ m. inr (refl, refl)))
    halved (λ h x. refl) (λ p set h x. refl) cell cell 1 (record { first = []; second = [] }) x (omega arith) ascends (λ p here. here) (none-yet cell) in
    (start.0.first, start.0.second, are, refl)

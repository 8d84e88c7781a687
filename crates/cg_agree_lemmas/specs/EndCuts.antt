-- What is green at the most updated member, as its cut says: all names of its greens, and none beyond them on a line.
use Rattle.std.proofs.Common.{◌≡◌, ℕ, suc, ◌≤◌, ◌<◌, Bool, true, false, cond, not, ◌&&◌, List, [], ◌∷◌, ◌++◌, Some, drop, refl, sym, ap, ap₂, ◌∙◌, ⊎_elim, subst, arith, eqb-true, eq-eqb}
use Rattle.std.specs.Prelude.{◌==◌, nat_lt, nat_le, max, length, if◌then◌else◌}
use Rattle.std.specs.Option.{option_map_or}
use Rattle.std.specs.List.{list_all}
use Rattle.std.proofs.lemmas.Bool.{cases_Bool, cond-true, cond-false, cond_both, and_parts, and_from, ne_eqb, leb-true, leb-false}
use Rattle.cg_base.specs.declared.action_id.ActionId.{ActionId}
use Rattle.cg_base.specs.Cuts.{index_in, raise, with_top}
use Rattle.cg_knowledge.specs.declared.summary.Summary.{Summary}
use Rattle.cg_knowledge.specs.Summaries.{lowest, most_updated}
use Rattle.cg_knowledge.specs.Yellow.{yellow_group, is_green_at_most, common_yellow}
use Rattle.cg_model.specs.Fronts.{Front}
use Rattle.cg_disk_records.specs.Holds.{run_on, cut_behind}
use Rattle.cg_agree_lemmas.specs.FrontFacts.{split_by_Front}
use Rattle.cg_disk_records.specs.RunLaws.{run_on-append}
use Rattle.cg_agree_lemmas.specs.EndCovers.{OfEach, CoversWith, group-covers}

-- ---- cuts

top-own : (cut : List ActionId) (id : ActionId) → id.index ≤ index_in (with_top cut id) id.creator
top-own [] id = subst (λ n. id.index ≤ n) (sym (cond-true (id.creator == id.creator) id.index 0 (eq-eqb id.creator id.creator refl))) (omega arith)
top-own (top ∷ cut) id =
    cond_both (top.creator == id.creator) (record top { index = max top.index id.index } ∷ cut) (if nat_lt id.creator top.creator then id ∷ top ∷ cut else top ∷ with_top cut id)
    (λ c. id.index ≤ index_in c id.creator)
    (λ y. subst (λ n. id.index ≤ n) (sym (cond-true (top.creator == id.creator) (max top.index id.index) (index_in cut id.creator) y)) (omega arith))
    (λ n. cond_both (nat_lt id.creator top.creator) (id ∷ top ∷ cut) (top ∷ with_top cut id) (λ c. id.index ≤ index_in c id.creator)
    (λ lt. subst (λ n. id.index ≤ n) (sym (cond-true (id.creator == id.creator) id.index (index_in (top ∷ cut) id.creator) (eq-eqb id.creator id.creator refl))) (omega arith))
    (λ ge. subst (λ k. id.index ≤ k) (sym (cond-false (top.creator == id.creator) top.index (index_in (with_top cut id) id.creator) n)) (top-own cut id)))

top-rises : (cut : List ActionId) (id : ActionId) (p : ℕ) → index_in cut id.creator ≤ id.index → index_in cut p ≤ index_in (with_top cut id) p
top-rises [] id p le = omega arith
top-rises (top ∷ cut) id p le =
    cond_both (top.creator == id.creator) (record top { index = max top.index id.index } ∷ cut) (if nat_lt id.creator top.creator then id ∷ top ∷ cut else top ∷ with_top cut id)
    (λ c. index_in (top ∷ cut) p ≤ index_in c p)
    (λ y. more-here (top.creator == p) top.index (max top.index id.index) (index_in cut p) (index_in cut p) (omega arith) (omega arith))
    (λ n. cond_both (nat_lt id.creator top.creator) (id ∷ top ∷ cut) (top ∷ with_top cut id) (λ c. index_in (top ∷ cut) p ≤ index_in c p)
    (λ lt. cond_both (id.creator == p) id.index (index_in (top ∷ cut) p) (λ k. index_in (top ∷ cut) p ≤ k)
    (λ here. subst (λ q. index_in (top ∷ cut) q ≤ id.index) (eqb-true id.creator p here) le)
    (λ other. omega arith))
    (λ ge. more-here (top.creator == p) top.index top.index (index_in cut p) (index_in (with_top cut id) p) (omega arith)
    (top-rises cut id p (subst (λ k. k ≤ id.index) (cond-false (top.creator == id.creator) top.index (index_in cut id.creator) n) le)))) where
      more-here : (b : Bool) (m n k l : ℕ) → m ≤ n → k ≤ l → cond b m k ≤ cond b n l
      more-here true m n k l a c = a
      more-here false m n k l a c = c

raise-is : (cut : List ActionId) (id : ActionId) → id.index ≡ suc (index_in cut id.creator) → raise cut id ≡ with_top cut id
raise-is cut id e = cond-false (id.index == 0) cut (with_top cut id) (ne_eqb id.index 0 (λ z. absurd (omega arith)))

pub next-own : (cut : List ActionId) (id : ActionId) → id.index ≡ suc (index_in cut id.creator) → id.index ≤ index_in (raise cut id) id.creator
next-own cut id e = subst (λ c. id.index ≤ index_in c id.creator) (sym (raise-is cut id e)) (top-own cut id)

pub next-rises : (cut : List ActionId) (id : ActionId) (p : ℕ) → id.index ≡ suc (index_in cut id.creator) → index_in cut p ≤ index_in (raise cut id) p
next-rises cut id p e = subst (λ c. index_in cut p ≤ index_in c p) (sym (raise-is cut id e)) (top-rises cut id p (omega arith))

-- behind names of which each is the next of its creator the cut is no lower
pub run-rises : (xs cut : List ActionId) (p : ℕ) → run_on cut xs ≡ true → index_in cut p ≤ index_in (cut_behind cut xs) p
run-rises [] cut p run = omega arith
run-rises (id ∷ xs) cut p run =
    let parts = and_parts (id.index == suc (index_in cut id.creator)) (run_on (raise cut id) xs) run in
    let one = next-rises cut id p (eqb-true id.index (suc (index_in cut id.creator)) parts.0) in
    let rest = run-rises xs (raise cut id) p parts.1 in
    omega arith

-- each of them is below the cut that they make, and above the cut from which they go on
pub run-below : (xs cut last : List ActionId) → run_on cut xs ≡ true → ((p : ℕ) → index_in (cut_behind cut xs) p ≤ index_in last p) →
    list_all (λ id. nat_le id.index (index_in last id.creator)) xs ≡ true
run-below [] cut last run le = refl
run-below (id ∷ xs) cut last run le =
    let parts = and_parts (id.index == suc (index_in cut id.creator)) (run_on (raise cut id) xs) run in
    let one = next-own cut id (eqb-true id.index (suc (index_in cut id.creator)) parts.0) in
    let rest = run-rises xs (raise cut id) id.creator parts.1 in
    let most = le id.creator in
    and_from (nat_le id.index (index_in last id.creator)) (list_all (λ id. nat_le id.index (index_in last id.creator)) xs)
    (le-true id.index (index_in last id.creator) (omega arith)) (run-below xs (raise cut id) last parts.1 le) where
      le-true : (m n : ℕ) → m ≤ n → nat_le m n ≡ true
      le-true m n h = ⊎_elim (λ y. y) (λ f. absurd (omega (arith, leb-false m n f, h))) (cases_Bool (nat_le m n))

pub run-above : (xs cut base : List ActionId) → run_on cut xs ≡ true → ((p : ℕ) → index_in base p ≤ index_in cut p) →
    list_all (λ id. not (nat_le id.index (index_in base id.creator))) xs ≡ true
run-above [] cut base run le = refl
run-above (id ∷ xs) cut base run le =
    let parts = and_parts (id.index == suc (index_in cut id.creator)) (run_on (raise cut id) xs) run in
    let next = eqb-true id.index (suc (index_in cut id.creator)) parts.0 in
    let low = le id.creator in
    and_from (not (nat_le id.index (index_in base id.creator))) (list_all (λ id. not (nat_le id.index (index_in base id.creator))) xs)
    (le-false id.index (index_in base id.creator) (omega arith))
    (run-above xs (raise cut id) base parts.1 (λ p. (let here = le p in let rises = next-rises cut id p next in omega arith))) where
      le-false : (m n : ℕ) → n < m → not (nat_le m n) ≡ true
      le-false m n h = ⊎_elim (λ y. absurd (omega (arith, leb-true m n y, h))) (λ f. ap not f) (cases_Bool (nat_le m n))

-- ---- the most updated member

at-most : (heard : List Summary) (best : Summary) → most_updated heard ≡ Some best → (id : ActionId) → is_green_at_most heard id ≡ nat_le id.index (index_in best.green_cut id.creator)
unfolding is_green_at_most
at-most heard best e id = ap (λ o. option_map_or (λ s. nat_le id.index (index_in s.green_cut id.creator)) o false) e

pub all-same : (f g : ActionId → Bool) → ((id : ActionId) → f id ≡ g id) → (xs : List ActionId) → list_all f xs ≡ list_all g xs
all-same f g same [] = refl
all-same f g same (x ∷ xs) = ap₂ (λ a b. a && b) (same x) (all-same f g same xs)

-- Where each of the group covers what can be green, the most updated member's greens and the common yellow list cover it.
pub end-covers : (heard : List Summary) (best low : Summary) (top reach : List ActionId) (mine : Summary → List ActionId) →
    most_updated heard ≡ Some best → best.green_cut ≡ cut_behind [] top → run_on [] reach ≡ true → Front top reach →
    lowest (yellow_group heard) ≡ Some low → OfEach (λ s. CoversWith top reach (mine s) s.yellow.list) (yellow_group heard) →
    Front reach (top ++ (common_yellow heard).list)
end-covers heard best low top reach mine most cut run within e each =
    let new = drop (length top) reach in
    let split : reach ≡ top ++ new = split_by_Front top reach within in
    let parts = and_parts (run_on [] top) (run_on (cut_behind [] top) new) (sym (run_on-append [] top new) ∙ ap (run_on []) (sym split) ∙ run) in
    let same : (p : ℕ) → index_in best.green_cut p ≡ index_in (cut_behind [] top) p = λ p. ap (λ c. index_in c p) cut in
    group-covers heard top reach mine within low e each
    (all-same (is_green_at_most heard) (λ id. nat_le id.index (index_in best.green_cut id.creator)) (at-most heard best most) top
    ∙ run-below top [] best.green_cut parts.0 (λ p. (let eq = same p in omega arith)))
    (all-same (λ id. not (is_green_at_most heard id)) (λ id. not (nat_le id.index (index_in best.green_cut id.creator))) (λ id. ap not (at-most heard best most id)) new
    ∙ run-above new (cut_behind [] top) best.green_cut parts.1 (λ p. (let eq = same p in omega arith)))

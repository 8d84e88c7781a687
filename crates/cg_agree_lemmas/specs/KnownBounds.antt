-- What the summaries of an exchange bound: how far a creator's actions are known, who knows the most, and what all that remain have.
use Rattle.std.proofs.Common.{◌≡◌, ℕ, ◌≤◌, Bool, true, false, cond, ◌&&◌, ◌||◌, List, [], ◌∷◌, map, max, min, filter, fold, Option, Some, None, IfSome, refl, sym, ap, subst, ◌∙◌, ⊎_elim, arith, eqb-true}
use Rattle.std.specs.Prelude.{◌==◌, nat_lt}
use Rattle.std.specs.Option.{option_map_or}
use Rattle.std.proofs.lemmas.Bool.{cases_Bool, cond-false, cond_both, or_cases, or_left, or_right, and_parts, ltb-true, ltb-false}
use Rattle.cg_base.specs.declared.action_id.ActionId.{ActionId}
use Rattle.cg_base.specs.Cuts.{index_in, creators_in}
use Rattle.cg_base.specs.Lists.{lesser}
use Rattle.cg_base.specs.Sets.{has, union}
use Rattle.cg_base.specs.SetLaws.{has-union}
use Rattle.cg_knowledge.specs.declared.summary.Summary.{Summary}
use Rattle.cg_knowledge.specs.Summaries.{remaining}
use Rattle.cg_plan.specs.Plan.{of_remaining, least_greens, least_reds, knows_more, farther, farthest, creators}
use Rattle.cg_model.specs.Fronts.{IsSomeWith}
use Rattle.cg_model.specs.Talk.{known_up_to}
use Rattle.cg_agree_lemmas.specs.EndCovers.{OfEach}
use Rattle.cg_agree_lemmas.specs.PlanItems.{most_of}

-- ---- the greatest

-- the greatest is no less than what it begins with and than each
greatest-from : (f : Summary → ℕ) (heard : List Summary) (m : ℕ) → (m ≤ fold max m (map f heard)) × OfEach (λ s. f s ≤ fold max m (map f heard)) heard
greatest-from f [] m = (omega arith, tt)
greatest-from f (s ∷ heard) m =
    let rest = greatest-from f heard (max m (f s)) in
    let low = rest.0 in
    (omega arith, (omega arith, rest.1))

-- it is no more than what each is at most
greatest-within : (f : Summary → ℕ) (heard : List Summary) (m n : ℕ) → m ≤ n → OfEach (λ s. f s ≤ n) heard → fold max m (map f heard) ≤ n
greatest-within f [] m n le each = le
greatest-within f (s ∷ heard) m n le each = greatest-within f heard (max m (f s)) n (let a = each.0 in omega arith) each.1

-- each knows no more than some member knows
pub known-each : (heard : List Summary) (creator : ℕ) → OfEach (λ s. index_in s.red_cut creator ≤ known_up_to heard creator) heard
known-each heard creator = (greatest-from (λ (s : Summary). index_in s.red_cut creator) heard 0).1

-- it is known no farther than each member knows it
pub known-within : (heard : List Summary) (creator n : ℕ) → OfEach (λ s. index_in s.red_cut creator ≤ n) heard → known_up_to heard creator ≤ n
known-within heard creator n each = greatest-within (λ (s : Summary). index_in s.red_cut creator) heard 0 n (omega arith) each

-- ---- who knows the most

-- who knows more knows no less
more-index : (creator : ℕ) (s t : Summary) → knows_more creator s t ≡ true → index_in t.red_cut creator ≤ index_in s.red_cut creator
more-index creator s t e = ⊎_elim
    (λ lt. (let le = ltb-true (index_in t.red_cut creator) (index_in s.red_cut creator) lt in omega arith))
    (λ same. (let eq = eqb-true (index_in s.red_cut creator) (index_in t.red_cut creator) (and_parts (index_in s.red_cut creator == index_in t.red_cut creator) (nat_lt s.id t.id) same).0 in omega arith))
    (or_cases (nat_lt (index_in t.red_cut creator) (index_in s.red_cut creator)) ((index_in s.red_cut creator == index_in t.red_cut creator) && nat_lt s.id t.id) e)

-- who doesn't know more knows no more
less-index : (creator : ℕ) (s t : Summary) → knows_more creator s t ≡ false → index_in s.red_cut creator ≤ index_in t.red_cut creator
less-index creator s t e = ltb-false (index_in t.red_cut creator) (index_in s.red_cut creator) (first (nat_lt (index_in t.red_cut creator) (index_in s.red_cut creator)) ((index_in s.red_cut creator == index_in t.red_cut creator) && nat_lt s.id t.id) e) where
  first : (a b : Bool) → (a || b) ≡ false → a ≡ false
  first true b e = absurd (let clash : true ≡ false = e in cc)
  first false b e = refl

-- the one that knows the most knows no less than each
farther-bounds : (creator : ℕ) (heard : List Summary) (best : Summary) →
    (x : Summary) × (fold (farther creator) (Some best) heard ≡ Some x) × (index_in best.red_cut creator ≤ index_in x.red_cut creator) × OfEach (λ s. index_in s.red_cut creator ≤ index_in x.red_cut creator) heard
farther-bounds creator [] best = (best, refl, omega arith, tt)
farther-bounds creator (s ∷ heard) best = ⊎_elim
    (λ more.
    let rest = farther-bounds creator heard s in
    let le = more-index creator s best more in
    let high = rest.2 in
    (rest.0, ap (λ b. fold (farther creator) (cond b (Some s) (Some best)) heard) more ∙ rest.1, omega arith, (high, rest.3)))
    (λ less.
    let rest = farther-bounds creator heard best in
    let le = less-index creator s best less in
    let high = rest.2 in
    (rest.0, ap (λ b. fold (farther creator) (cond b (Some s) (Some best)) heard) less ∙ rest.1, high, (omega arith, rest.3)))
    (cases_Bool (knows_more creator s best))

-- it is one of the members
pub farther-of : (P : Summary → Type 0) (creator : ℕ) (heard : List Summary) (o : Option Summary) → IfSome o P → OfEach P heard → IfSome (fold (farther creator) o heard) P
farther-of P creator [] o is each = is
farther-of P creator (s ∷ heard) None is each = farther-of P creator heard (Some s) each.0 each.1
farther-of P creator (s ∷ heard) (Some best) is each =
    farther-of P creator heard (farther creator (Some best) s) (cond_both (knows_more creator s best) (Some s) (Some best) (λ o. IfSome o P) (λ y. each.0) (λ n. is)) each.1

-- the one that knows the most knows as much as some member
pub known-most : (heard : List Summary) (creator : ℕ) → known_up_to heard creator ≤ most_of heard creator
unfolding farthest
known-most [] creator = omega arith
known-most (s ∷ heard) creator =
    let all = farther-bounds creator heard s in
    let is : most_of (s ∷ heard) creator ≡ index_in all.0.red_cut creator = ap (λ o. option_map_or (λ (x : Summary). index_in x.red_cut creator) o 0) all.1 in
    subst (λ n. known_up_to (s ∷ heard) creator ≤ n) (sym is) (known-within (s ∷ heard) creator (index_in all.0.red_cut creator) (all.2, all.3))

-- and no more than some member knows
pub most-known : (heard : List Summary) (creator : ℕ) → most_of heard creator ≤ known_up_to heard creator
unfolding farthest
most-known heard creator = at (fold (farther creator) None heard) (farther-of (λ s. index_in s.red_cut creator ≤ known_up_to heard creator) creator heard None tt (known-each heard creator)) where
  at : (o : Option Summary) → IfSome o (λ s. index_in s.red_cut creator ≤ known_up_to heard creator) → option_map_or (λ (s : Summary). index_in s.red_cut creator) o 0 ≤ known_up_to heard creator
  at None le = omega arith
  at (Some s) le = le

-- ---- creators

-- a creator that isn't in a cut has no index there
index-absent : (cut : List ActionId) (creator : ℕ) → has (creators_in cut) creator ≡ false → index_in cut creator ≡ 0
index-absent [] creator e = refl
index-absent (top ∷ cut) creator e =
    let parts = both (top.creator == creator) (has (creators_in cut) creator) e in
    cond-false (top.creator == creator) top.index (index_in cut creator) parts.0 ∙ index-absent cut creator parts.1 where
      both : (a b : Bool) → (a || b) ≡ false → (a ≡ false) × (b ≡ false)
      both true b e = absurd (let clash : true ≡ false = e in cc)
      both false b e = (refl, e)

-- a creator among them stays
creators-keep : (heard : List Summary) (set : List ℕ) (creator : ℕ) → has set creator ≡ true → has (fold (λ set s. union set (creators_in s.red_cut)) set heard) creator ≡ true
creators-keep [] set creator there = there
creators-keep (s ∷ heard) set creator there =
    creators-keep heard (union set (creators_in s.red_cut)) creator (has-union set (creators_in s.red_cut) creator ∙ or_left (has set creator) (has (creators_in s.red_cut) creator) there)

-- of a creator that isn't among them no cut has an action
creators-none : (heard : List Summary) (set : List ℕ) (creator : ℕ) → has (fold (λ set s. union set (creators_in s.red_cut)) set heard) creator ≡ false → OfEach (λ s. index_in s.red_cut creator ≤ 0) heard
creators-none [] set creator none = tt
creators-none (s ∷ heard) set creator none = (
  ⊎_elim
      (λ there. absurd (let clash : true ≡ false = sym (creators-keep heard (union set (creators_in s.red_cut)) creator
      (has-union set (creators_in s.red_cut) creator ∙ or_right (has set creator) (has (creators_in s.red_cut) creator) there)) ∙ none in cc))
      (λ absent. (let zero = index-absent s.red_cut creator absent in omega arith))
      (cases_Bool (has (creators_in s.red_cut) creator)),
  creators-none heard (union set (creators_in s.red_cut)) creator none,
)

-- of a creator that isn't among them nobody knows anything
pub unknown-creator : (heard : List Summary) (creator : ℕ) → has (creators heard) creator ≡ false → known_up_to heard creator ≤ 0
unfolding creators
unknown-creator heard creator none = known-within heard creator 0 (creators-none heard [] creator none)

-- ---- the least

-- the least is no more than what it begins with
lesser-keeps : (ns : List ℕ) (m : ℕ) → IsSomeWith (fold lesser (Some m) ns) (λ l. l ≤ m)
lesser-keeps [] m = omega arith
lesser-keeps (n ∷ ns) m = at (fold lesser (Some (min n m)) ns) (lesser-keeps ns (min n m)) where
  at : (o : Option ℕ) → IsSomeWith o (λ l. l ≤ min n m) → IsSomeWith o (λ l. l ≤ m)
  at None le = absurd le
  at (Some l) le = omega arith

-- nor more than the next number
lesser-new : (ns : List ℕ) (o : Option ℕ) (n : ℕ) → IsSomeWith (fold lesser (lesser o n) ns) (λ l. l ≤ n)
lesser-new ns None n = lesser-keeps ns n
lesser-new ns (Some m) n = at (fold lesser (Some (min n m)) ns) (lesser-keeps ns (min n m)) where
  at : (o : Option ℕ) → IsSomeWith o (λ l. l ≤ min n m) → IsSomeWith o (λ l. l ≤ n)
  at None le = absurd le
  at (Some l) le = omega arith

-- where a summary counts, the least is no more than its number
abbrev IsLeast : (Summary → ℕ) → (Summary → Bool) → Option ℕ → Summary → Type 0
IsLeast f keep least s = keep s ≡ true → IsSomeWith least (λ l. l ≤ f s)

-- so it is for each of the summaries
lesser-each : (f : Summary → ℕ) (keep : Summary → Bool) (list : List Summary) (o : Option ℕ) → OfEach (IsLeast f keep (fold lesser o (map f (filter keep list)))) list
lesser-each f keep [] o = tt
lesser-each f keep (s ∷ list) o =
    cond_both (keep s) (s ∷ filter keep list) (filter keep list) (λ xs. OfEach (IsLeast f keep (fold lesser o (map f xs))) (s ∷ list))
    (λ y. ((λ is. lesser-new (map f (filter keep list)) o (f s)), lesser-each f keep list (lesser o (f s))))
    (λ n. ((λ is. absurd (let clash : true ≡ false = sym is ∙ n in cc)), lesser-each f keep list o))

-- who remains has no fewer greens, and knows no less, than all that remain
pub least-greens : (heard : List Summary) → OfEach (λ s. has (remaining heard) s.id ≡ true → IsSomeWith (least_greens heard) (λ l. l ≤ s.green_count)) heard
unfolding least_greens of_remaining
least-greens heard = lesser-each (λ (s : Summary). s.green_count) (λ s. has (remaining heard) s.id) heard None

-- and who remains knows of each creator no less than all that remain
pub least-reds : (heard : List Summary) (creator : ℕ) → OfEach (λ s. has (remaining heard) s.id ≡ true → IsSomeWith (least_reds heard creator) (λ l. l ≤ index_in s.red_cut creator)) heard
unfolding least_reds of_remaining
least-reds heard creator = lesser-each (λ (s : Summary). index_in s.red_cut creator) (λ s. has (remaining heard) s.id) heard None

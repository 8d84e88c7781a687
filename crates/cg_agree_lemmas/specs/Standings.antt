-- The replicas of a group, kept by their identifiers: one that changes twice, two that change, one that goes down.
use Rattle.std.proofs.Common.{◌≡◌, ℕ, suc, ◌≤◌, ◌<◌, true, false, cond, not, List, [], ◌∷◌, Option, Some, None, map, filter, find, refl, sym, ap, ◌∙◌, ⊎_elim, eqb-true, eq-eqb, arith, nat_lt, if◌then◌else◌}
use Rattle.std.specs.Prelude.{◌==◌}
use Rattle.std.proofs.lemmas.Bool.{cases_eq, cases_Bool, cond-true, cond-false, cond_both, ne_eqb, eqb-false, lt-ltb, le-ltb, ltb-true, ltb-false}
use Rattle.cg_base.specs.Sets.{with_member}
use Rattle.cg_group.specs.State.{Standing, with_standing}
use Rattle.cg_model.specs.FactsLists.{IsRising}

-- ---- sets

pub rising-lower : (low high : ℕ) (set : List ℕ) → low ≤ high → IsRising high set → IsRising low set
rising-lower low high [] le r = tt
rising-lower low high (n ∷ set) le r = (let first : high ≤ n = r.0 in omega arith, r.1)

pub rising-with_member : (low p : ℕ) (set : List ℕ) → low ≤ p → IsRising low set → IsRising low (with_member set p)
rising-with_member low p [] le r = (le, tt)
rising-with_member low p (n ∷ set) le r =
    cond_both (p == n) (n ∷ set) (if nat_lt p n then p ∷ n ∷ set else n ∷ with_member set p) (IsRising low)
    (λ y. r)
    (λ o. cond_both (nat_lt p n) (p ∷ n ∷ set) (n ∷ with_member set p) (IsRising low)
    (λ y. (le, (let less : p < n = ltb-true p n y in let up : suc p ≤ n = omega arith in up, r.1)))
    (λ m. (r.0, rising-with_member (suc n) p set (let more : n ≤ p = ltb-false p n m in let other : p ≡ n → ⊥ = eqb-false p n o in above n p more other) r.1))) where
      above : (n p : ℕ) → n ≤ p → (p ≡ n → ⊥) → suc n ≤ p
      above n p le other = ⊎_elim (λ e. absurd (other e)) (λ o. (let apart : p ≡ n → ⊥ = o in omega arith)) (cases_eq p n)

-- where one stands against another
pub compared : {Y : Type 0} (m n : ℕ) → (m ≡ n → Y) → (m < n → Y) → (n < m → Y) → Y
compared m n same less more =
    ⊎_elim same (λ o. ⊎_elim (λ y. less (ltb-true m n y)) (λ f. more (let ge : n ≤ m = ltb-false m n f in let apart : m ≡ n → ⊥ = o in omega arith)) (cases_Bool (nat_lt m n))) (cases_eq m n)

module _ {M : Type 0} where
  abbrev pub gone : List (Standing M) → ℕ → List (Standing M)
  gone xs p = filter (λ s. not (s.id == p)) xs

  -- one that comes before all others
  pub front-standing : (s a : Standing M) (xs : List (Standing M)) → a.id < s.id → with_standing (s ∷ xs) a ≡ a ∷ s ∷ xs
  front-standing s a xs less =
      let apart : (s.id == a.id) ≡ false = ne_eqb s.id a.id (λ e. (let same : s.id ≡ a.id = e in omega arith)) in
      cond-false (s.id == a.id) (a ∷ xs) (if nat_lt a.id s.id then a ∷ s ∷ xs else s ∷ with_standing xs a) apart
      ∙ cond-true (nat_lt a.id s.id) (a ∷ s ∷ xs) (s ∷ with_standing xs a) (lt-ltb a.id s.id less)

  -- one that comes behind the first
  pub later-standing : (s a : Standing M) (xs : List (Standing M)) → s.id < a.id → with_standing (s ∷ xs) a ≡ s ∷ with_standing xs a
  later-standing s a xs less =
      let apart : (s.id == a.id) ≡ false = ne_eqb s.id a.id (λ e. (let same : s.id ≡ a.id = e in omega arith)) in
      cond-false (s.id == a.id) (a ∷ xs) (if nat_lt a.id s.id then a ∷ s ∷ xs else s ∷ with_standing xs a) apart
      ∙ cond-false (nat_lt a.id s.id) (a ∷ s ∷ xs) (s ∷ with_standing xs a) (le-ltb a.id s.id (omega arith))

  pub same-standing : (s a : Standing M) (xs : List (Standing M)) → s.id ≡ a.id → with_standing (s ∷ xs) a ≡ a ∷ xs
  same-standing s a xs e = cond-true (s.id == a.id) (a ∷ xs) (if nat_lt a.id s.id then a ∷ s ∷ xs else s ∷ with_standing xs a) (eq-eqb s.id a.id e)

  pub standing-twice : (xs : List (Standing M)) (a b : Standing M) → a.id ≡ b.id → with_standing (with_standing xs a) b ≡ with_standing xs b
  standing-twice [] a b e = same-standing a b [] e
  standing-twice (s ∷ xs) a b e = compared s.id a.id
      (λ same. ap (λ list. with_standing list b) (same-standing s a xs same) ∙ same-standing a b xs e ∙ sym (same-standing s b xs (same ∙ e)))
      (λ less. ap (λ list. with_standing list b) (later-standing s a xs less) ∙ later-standing s b (with_standing xs a) (omega arith)
      ∙ ap (λ list. s ∷ list) (standing-twice xs a b e) ∙ sym (later-standing s b xs (omega arith)))
      (λ more. ap (λ list. with_standing list b) (front-standing s a xs more) ∙ same-standing a b (s ∷ xs) e ∙ sym (front-standing s b xs (omega arith)))

  -- the lower one of two comes before the other
  before-both : (xs : List (Standing M)) (s a b : Standing M) → a.id < s.id → a.id < b.id → with_standing (with_standing (s ∷ xs) b) a ≡ a ∷ with_standing (s ∷ xs) b
  before-both xs s a b first second = compared s.id b.id
      (λ same. ap (λ list. with_standing list a) (same-standing s b xs same) ∙ front-standing b a xs second ∙ ap (λ list. a ∷ list) (sym (same-standing s b xs same)))
      (λ less. ap (λ list. with_standing list a) (later-standing s b xs less) ∙ front-standing s a (with_standing xs b) first ∙ ap (λ list. a ∷ list) (sym (later-standing s b xs less)))
      (λ more. ap (λ list. with_standing list a) (front-standing s b xs more) ∙ front-standing b a (s ∷ xs) second ∙ ap (λ list. a ∷ list) (sym (front-standing s b xs more)))

  ordered-commute : (xs : List (Standing M)) (a b : Standing M) → a.id < b.id → with_standing (with_standing xs a) b ≡ with_standing (with_standing xs b) a
  ordered-commute [] a b less = later-standing a b [] less ∙ sym (front-standing b a [] less)
  ordered-commute (s ∷ xs) a b less = compared s.id a.id
      (λ same. ap (λ list. with_standing list b) (same-standing s a xs same) ∙ later-standing a b xs less
      ∙ sym (ap (λ list. with_standing list a) (later-standing s b xs (omega arith)) ∙ same-standing s a (with_standing xs b) same))
      (λ under. ap (λ list. with_standing list b) (later-standing s a xs under) ∙ later-standing s b (with_standing xs a) (omega arith)
      ∙ ap (λ list. s ∷ list) (ordered-commute xs a b less)
      ∙ sym (ap (λ list. with_standing list a) (later-standing s b xs (omega arith)) ∙ later-standing s a (with_standing xs b) under))
      (λ more. ap (λ list. with_standing list b) (front-standing s a xs more) ∙ later-standing a b (s ∷ xs) less ∙ sym (before-both xs s a b more less))

  pub standing-commute : (xs : List (Standing M)) (a b : Standing M) → (a.id ≡ b.id → ⊥) → with_standing (with_standing xs a) b ≡ with_standing (with_standing xs b) a
  standing-commute xs a b apart = compared a.id b.id (λ e. absurd (apart e)) (ordered-commute xs a b) (λ more. sym (ordered-commute xs b a more))

  -- ---- identifiers

  pub ids-standing : (xs : List (Standing M)) (a : Standing M) → map (λ s. s.id) (with_standing xs a) ≡ with_member (map (λ s. s.id) xs) a.id
  ids-standing [] a = refl
  ids-standing (s ∷ xs) a =
      let ids : List (Standing M) → List ℕ = λ list. map (λ s. s.id) list in
      let rest : List ℕ = if nat_lt a.id s.id then a.id ∷ s.id ∷ ids xs else s.id ∷ with_member (ids xs) a.id in
      compared s.id a.id
      (λ same. ap ids (same-standing s a xs same) ∙ ap (λ n. n ∷ ids xs) (sym same) ∙ sym (cond-true (a.id == s.id) (s.id ∷ ids xs) rest (eq-eqb a.id s.id (sym same))))
      (λ less. ap ids (later-standing s a xs less) ∙ ap (λ list. s.id ∷ list) (ids-standing xs a)
      ∙ sym (cond-false (a.id == s.id) (s.id ∷ ids xs) rest (ne_eqb a.id s.id (λ e. (let same : a.id ≡ s.id = e in omega arith)))
      ∙ cond-false (nat_lt a.id s.id) (a.id ∷ s.id ∷ ids xs) (s.id ∷ with_member (ids xs) a.id) (le-ltb a.id s.id (omega arith))))
      (λ more. ap ids (front-standing s a xs more)
      ∙ sym (cond-false (a.id == s.id) (s.id ∷ ids xs) rest (ne_eqb a.id s.id (λ e. (let same : a.id ≡ s.id = e in omega arith)))
      ∙ cond-true (nat_lt a.id s.id) (a.id ∷ s.id ∷ ids xs) (s.id ∷ with_member (ids xs) a.id) (lt-ltb a.id s.id more)))

  pub rising-gone : (low p : ℕ) (xs : List (Standing M)) → IsRising low (map (λ s. s.id) xs) → IsRising low (map (λ s. s.id) (gone xs p))
  rising-gone low p [] r = tt
  rising-gone low p (s ∷ xs) r =
      let rest = rising-gone (suc s.id) p xs r.1 in
      cond_both (not (s.id == p)) (s ∷ gone xs p) (gone xs p) (λ list. IsRising low (map (λ s. s.id) list))
      (λ y. (r.0, rest)) (λ n. rising-lower low (suc s.id) (map (λ s. s.id) (gone xs p)) (let first : low ≤ s.id = r.0 in omega arith) rest)

  -- ---- one goes down

  -- what it was is gone with it
  pub gone-own : (xs : List (Standing M)) (a : Standing M) (p : ℕ) → a.id ≡ p → gone (with_standing xs a) p ≡ gone xs p
  gone-own [] a p e = cond-false (not (a.id == p)) (a ∷ []) [] (ap not (eq-eqb a.id p e))
  gone-own (s ∷ xs) a p e =
      let out : (not (a.id == p)) ≡ false = ap not (eq-eqb a.id p e) in
      compared s.id a.id
      (λ same. ap (λ list. gone list p) (same-standing s a xs same) ∙ cond-false (not (a.id == p)) (a ∷ gone xs p) (gone xs p) out
      ∙ sym (cond-false (not (s.id == p)) (s ∷ gone xs p) (gone xs p) (ap not (eq-eqb s.id p (same ∙ e)))))
      (λ less. ap (λ list. gone list p) (later-standing s a xs less) ∙ ap (λ list. cond (not (s.id == p)) (s ∷ list) list) (gone-own xs a p e))
      (λ more. ap (λ list. gone list p) (front-standing s a xs more) ∙ cond-false (not (a.id == p)) (a ∷ gone (s ∷ xs) p) (gone (s ∷ xs) p) out)

  -- one before all that rise
  first-of : (low : ℕ) (a : Standing M) (xs : List (Standing M)) → a.id < low → IsRising low (map (λ s. s.id) xs) → with_standing xs a ≡ a ∷ xs
  first-of low a [] less r = refl
  first-of low a (s ∷ xs) less r = front-standing s a xs (let first : low ≤ s.id = r.0 in omega arith)

  -- another one stays as it has changed
  pub gone-other : (low : ℕ) (xs : List (Standing M)) (a : Standing M) (p : ℕ) → (a.id ≡ p → ⊥) → IsRising low (map (λ s. s.id) xs) → gone (with_standing xs a) p ≡ with_standing (gone xs p) a
  gone-other low [] a p apart r = cond-true (not (a.id == p)) (a ∷ []) [] (ap not (ne_eqb a.id p apart))
  gone-other low (s ∷ xs) a p apart r =
      let stays : (not (a.id == p)) ≡ true = ap not (ne_eqb a.id p apart) in
      compared s.id a.id
      (λ same. ap (λ list. gone list p) (same-standing s a xs same) ∙ cond-true (not (a.id == p)) (a ∷ gone xs p) (gone xs p) stays
      ∙ sym (ap (λ list. with_standing list a) (cond-true (not (s.id == p)) (s ∷ gone xs p) (gone xs p) (ap not (ne_eqb s.id p (λ e. apart (sym same ∙ e))))) ∙ same-standing s a (gone xs p) same))
      (λ less. ap (λ list. gone list p) (later-standing s a xs less) ∙ ⊎_elim
      (λ y. cond-true (not (s.id == p)) (s ∷ gone (with_standing xs a) p) (gone (with_standing xs a) p) y ∙ ap (λ list. s ∷ list) (gone-other (suc s.id) xs a p apart r.1)
      ∙ sym (ap (λ list. with_standing list a) (cond-true (not (s.id == p)) (s ∷ gone xs p) (gone xs p) y) ∙ later-standing s a (gone xs p) less))
      (λ n. cond-false (not (s.id == p)) (s ∷ gone (with_standing xs a) p) (gone (with_standing xs a) p) n ∙ gone-other (suc s.id) xs a p apart r.1
      ∙ sym (ap (λ list. with_standing list a) (cond-false (not (s.id == p)) (s ∷ gone xs p) (gone xs p) n)))
      (cases_Bool (not (s.id == p))))
      (λ more. ap (λ list. gone list p) (front-standing s a xs more) ∙ cond-true (not (a.id == p)) (a ∷ gone (s ∷ xs) p) (gone (s ∷ xs) p) stays
      ∙ sym (first-of (suc a.id) a (gone (s ∷ xs) p) (omega arith) (rising-gone (suc a.id) p (s ∷ xs) ((let up : a.id < s.id = more in omega arith), r.1))))

  -- one that is found is where it stands
  pub standing-self : (low : ℕ) (xs : List (Standing M)) (p : ℕ) (s : Standing M) → find (λ x. x.id == p) xs ≡ Some s → IsRising low (map (λ s. s.id) xs) →
      (with_standing xs s ≡ xs) × (low ≤ p) × (s.id ≡ p)
  standing-self low [] p s e r = absurd (let clash : None ≡ Some s = e in cc)
  standing-self low (x ∷ xs) p s e r = ⊎_elim
      (λ y. (let here : x ≡ s = some-one x s (sym (cond-true (x.id == p) (Some x) (find (λ x. x.id == p) xs) y) ∙ e) in
      let at : x.id ≡ p = eqb-true x.id p y in
      (same-standing x s xs (ap (λ (z : Standing M). z.id) here) ∙ ap (λ z. z ∷ xs) (sym here), (let le : low ≤ x.id = r.0 in omega arith), ap (λ (z : Standing M). z.id) (sym here) ∙ at)))
      (λ n. (let rest = standing-self (suc x.id) xs p s (sym (cond-false (x.id == p) (Some x) (find (λ x. x.id == p) xs) n) ∙ e) r.1 in
      let above : suc x.id ≤ p = rest.1 in
      let at : s.id ≡ p = rest.2 in
      (later-standing x s xs (omega arith) ∙ ap (λ list. x ∷ list) rest.0, (let le : low ≤ x.id = r.0 in omega arith), at)))
      (cases_Bool (x.id == p)) where
        some-one : (x y : Standing M) → Some x ≡ Some y → x ≡ y
        some-one x y e = ap (either_of x) e where
          either_of : Standing M → Option (Standing M) → Standing M
          either_of d None = d
          either_of d (Some z) = z

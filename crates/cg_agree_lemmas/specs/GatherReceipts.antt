-- Those who have received places, as lists of sets: one that receives places in their order, and what it has received already.
use Rattle.std.proofs.Common.{◌≡◌, ℕ, zero, suc, pred, ◌≤◌, ◌<◌, Bool, true, false, cond, not, List, [], ◌∷◌, Option, Some, None, fold, length, refl, sym, ap, ◌∙◌, ⊎_elim, eqb-true, eq-eqb, subst, option_map, is_some, ◌&&◌, arith, nat_lt, if◌then◌else◌}
use Rattle.std.specs.Prelude.{◌==◌, ◌||◌}
use Rattle.std.specs.Option.{option_map_or}
use Rattle.std.proofs.lemmas.Bool.{cases_Bool, cond-true, cond-false, cond_both, ne_eqb, le-ltb, or_cases}
use Rattle.cg_base.specs.Lists.{at_place}
use Rattle.cg_base.specs.Sets.{has, with_member}
use Rattle.cg_base.specs.SetLaws.{has-with_member}
use Rattle.cg_group.specs.State.{changed_at}
use Rattle.cg_group.specs.LookupLaws.{at_place-changed, length-changed_at}
use Rattle.cg_model.specs.FactsLists.{IsRising, AreRising}
use Rattle.cg_agree_lemmas.specs.Standings.{rising-with_member, compared}

-- a member of a set isn't added again
pub member-same : (low p : ℕ) (set : List ℕ) → IsRising low set → has set p ≡ true → (with_member set p ≡ set) × (low ≤ p)
member-same low p [] rise there = absurd (let clash : false ≡ true = there in cc)
member-same low p (n ∷ set) rise there =
    let first : low ≤ n = rise.0 in
    let rest : List ℕ = if nat_lt p n then p ∷ n ∷ set else n ∷ with_member set p in
    ⊎_elim
    (λ y. (let same : n ≡ p = eqb-true n p y in
    (cond-true (p == n) (n ∷ set) rest (eq-eqb p n (sym same)), omega arith)))
    (λ later. (let more = member-same (suc n) p set rise.1 later in
    let above : suc n ≤ p = more.1 in (
      cond-false (p == n) (n ∷ set) rest (ne_eqb p n (λ e. (let same : p ≡ n = e in omega arith)))
          ∙ cond-false (nat_lt p n) (p ∷ n ∷ set) (n ∷ with_member set p) (le-ltb p n (omega arith)) ∙ ap (λ xs. n ∷ xs) more.0,
      omega arith,
    )))
    (or_cases (n == p) (has set p) there)

module _ {X : Type 0} where
  -- a place that has that already, and one that isn't there
  pub changed-same : (f : X → X) (list : List X) (n : ℕ) (x : X) → at_place list n ≡ Some x → f x ≡ x → changed_at f list n ≡ list
  changed-same f list zero x e same = absurd (let clash : None ≡ Some x = e in cc)
  changed-same f [] (suc n) x e same = absurd (let clash : None ≡ Some x = e in cc)
  changed-same f (y ∷ list) (suc zero) x e same =
      ap (λ z. z ∷ list) (ap f (is y x e) ∙ same ∙ sym (is y x e)) where
        is : (y x : X) → Some y ≡ Some x → y ≡ x
        is y x e = ap (λ o. option_map_or (λ z. z) o y) e
  changed-same f (y ∷ list) (suc (suc n)) x e same =
      cond-false (suc (suc n) == 1) (f y ∷ list) (y ∷ changed_at f list (suc n)) (ne_eqb (suc (suc n)) 1 (λ z. (let two : suc (suc n) ≡ 1 = z in omega arith)))
      ∙ ap (λ z. y ∷ z) (changed-same f list (suc n) x e same)

  pub changed-nowhere : (f : X → X) (list : List X) (n : ℕ) → at_place list n ≡ None → changed_at f list n ≡ list
  changed-nowhere f [] n e = refl
  changed-nowhere f (y ∷ list) zero e = ap (λ z. y ∷ z) (changed-nowhere f list 0 refl)
  changed-nowhere f (y ∷ list) (suc zero) e = absurd (let clash : Some y ≡ None = e in cc)
  changed-nowhere f (y ∷ list) (suc (suc n)) e =
      cond-false (suc (suc n) == 1) (f y ∷ list) (y ∷ changed_at f list (suc n)) (ne_eqb (suc (suc n)) 1 (λ z. (let two : suc (suc n) ≡ 1 = z in omega arith)))
      ∙ ap (λ z. y ∷ z) (changed-nowhere f list (suc n) e)

  pub changed-twice : (a b : X) (list : List X) (n : ℕ) → changed_at (λ old. b) (changed_at (λ old. a) list n) n ≡ changed_at (λ old. b) list n
  changed-twice a b [] n = refl
  changed-twice a b (x ∷ list) n = ⊎_elim
      (λ y. ap (λ z. changed_at (λ old. b) z n) (cond-true (n == 1) (a ∷ list) (x ∷ changed_at (λ old. a) list (pred n)) y)
      ∙ cond-true (n == 1) (b ∷ list) (a ∷ changed_at (λ old. b) list (pred n)) y ∙ sym (cond-true (n == 1) (b ∷ list) (x ∷ changed_at (λ old. b) list (pred n)) y))
      (λ f. ap (λ z. changed_at (λ old. b) z n) (cond-false (n == 1) (a ∷ list) (x ∷ changed_at (λ old. a) list (pred n)) f)
      ∙ cond-false (n == 1) (b ∷ changed_at (λ old. a) list (pred n)) (x ∷ changed_at (λ old. b) (changed_at (λ old. a) list (pred n)) (pred n)) f
      ∙ ap (λ z. x ∷ z) (changed-twice a b list (pred n)) ∙ sym (cond-false (n == 1) (b ∷ list) (x ∷ changed_at (λ old. b) list (pred n)) f))
      (cases_Bool (n == 1))

-- one receives a place; and it has one
abbrev pub got : ℕ → List (List ℕ) → ℕ → Bool
got p rs place = option_map_or (λ set. has set p) (at_place rs place) false

abbrev pub gets : ℕ → List (List ℕ) → ℕ → List (List ℕ)
gets p rs place = changed_at (λ set. with_member set p) rs place

-- the place is there
abbrev pub is_there : List (List ℕ) → ℕ → Bool
is_there rs place = is_some (at_place rs place)

pub rising-gets : (p place : ℕ) (rs : List (List ℕ)) → AreRising rs → AreRising (gets p rs place)
rising-gets p place [] each = tt
rising-gets p place (set ∷ rs) each =
    cond_both (place == 1) (with_member set p ∷ rs) (set ∷ gets p rs (pred place)) AreRising
    (λ y. (rising-with_member 0 p set (omega arith) each.0, each.1)) (λ n. (each.0, rising-gets p (pred place) rs each.1))

rising-at : (rs : List (List ℕ)) (place : ℕ) (set : List ℕ) → AreRising rs → at_place rs place ≡ Some set → IsRising 0 set
rising-at rs zero set each e = absurd (let clash : None ≡ Some set = e in cc)
rising-at [] (suc n) set each e = absurd (let clash : None ≡ Some set = e in cc)
rising-at (x ∷ rs) (suc zero) set each e = subst (IsRising 0) (ap (λ (o : Option (List ℕ)). option_map_or (λ z. z) o x) e) each.0
rising-at (x ∷ rs) (suc (suc n)) set each e = rising-at rs (suc n) set each.1 e

-- who has a place has it already
pub gets-same : (p place : ℕ) (rs : List (List ℕ)) → AreRising rs → got p rs place ≡ true → gets p rs place ≡ rs
gets-same p place rs each has_it = at (at_place rs place) refl where
  at : (o : Option (List ℕ)) → at_place rs place ≡ o → gets p rs place ≡ rs
  at None e = absurd (let clash : false ≡ true = sym (ap (λ (o : Option (List ℕ)). option_map_or (λ set. has set p) o false) e) ∙ has_it in cc)
  at (Some set) e = changed-same (λ set. with_member set p) rs place set e
      (member-same 0 p set (rising-at rs place set each e) (sym (ap (λ (o : Option (List ℕ)). option_map_or (λ set. has set p) o false) e) ∙ has_it)).0

-- behind a receipt each has what it had, and the one has the place too
pub got-gets : (p q place other : ℕ) (rs : List (List ℕ)) → got q (gets p rs place) other ≡ (got q rs other || ((other == place) && ((p == q) && is_there rs other)))
got-gets p q place other rs =
    ap (λ (o : Option (List ℕ)). option_map_or (λ set. has set q) o false) (at_place-changed (λ set. with_member set p) rs place other)
    ∙ at (other == place) (at_place rs other) where
      at : (b : Bool) (o : Option (List ℕ)) → option_map_or (λ set. has set q) (cond b (option_map (λ set. with_member set p) o) o) false
          ≡ (option_map_or (λ set. has set q) o false || (b && ((p == q) && is_some o)))
      at true None = none-there (p == q) where
        none-there : (b : Bool) → false ≡ (false || (true && (b && false)))
        none-there true = refl
        none-there false = refl
      at true (Some set) = has-with_member set p q ∙ ap (λ b. has set q || b) (and-true (p == q)) where
        and-true : (b : Bool) → b ≡ (true && (b && true))
        and-true true = refl
        and-true false = refl
      at false None = refl
      at false (Some set) = or-false (has set q) where
        or-false : (b : Bool) → b ≡ (b || false)
        or-false true = refl
        or-false false = refl

-- others have what they had
pub got-other : (p q : ℕ) → (q ≡ p → ⊥) → (places : List ℕ) (rs : List (List ℕ)) (other : ℕ) → got q (fold (gets p) rs places) other ≡ got q rs other
got-other p q apart [] rs other = refl
got-other p q apart (x ∷ places) rs other =
    got-other p q apart places (gets p rs x) other ∙ got-gets p q x other rs
    ∙ ap (λ b. got q rs other || ((other == x) && (b && is_there rs other))) (ne_eqb p q (λ e. apart (sym e))) ∙ none (got q rs other) (other == x) where
      none : (a b : Bool) → (a || (b && (false && is_there rs other))) ≡ a
      none true b = refl
      none false true = refl
      none false false = refl

pub rising-all : (p : ℕ) (places : List ℕ) (rs : List (List ℕ)) → AreRising rs → AreRising (fold (gets p) rs places)
rising-all p [] rs each = each
rising-all p (x ∷ places) rs each = rising-all p places (gets p rs x) (rising-gets p x rs each)

pub length-all : (p : ℕ) (places : List ℕ) (rs : List (List ℕ)) → length (fold (gets p) rs places) ≡ length rs
length-all p [] rs = refl
length-all p (x ∷ places) rs = length-all p places (gets p rs x) ∙ length-changed_at (λ set. with_member set p) rs x

-- a place that is there
pub there-within : (rs : List (List ℕ)) (place : ℕ) → 0 < place → place ≤ length rs → is_there rs place ≡ true
there-within rs zero some le = absurd (let less : 0 < 0 = some in omega arith)
there-within [] (suc n) some le = absurd (let more : suc n ≤ 0 = le in omega arith)
there-within (x ∷ rs) (suc zero) some le = refl
there-within (x ∷ rs) (suc (suc n)) some le = there-within rs (suc n) (omega arith) (let f : suc (suc n) ≤ suc (length rs) = le in omega arith)

-- ---- in their order

module _ (p : ℕ) (old : List (List ℕ)) where
  abbrev pub lacks : ℕ → Bool
  lacks place = not (got p old place)

  -- up to a place it has all, and above it what it had
  pub record IsReached (rs : List (List ℕ)) (n : ℕ) : Type 0 where
    pub rising : AreRising rs
    pub long : length rs ≡ length old
    pub below : (place : ℕ) → 0 < place → place ≤ n → got p rs place ≡ true
    pub above : (place : ℕ) → n < place → got p rs place ≡ got p old place

  pub reached-next : (rs : List (List ℕ)) (n : ℕ) → suc n ≤ length old → IsReached rs n → IsReached (gets p rs (suc n)) (suc n)
  reached-next rs n le is = record {
    rising = rising-gets p (suc n) rs is.rising;
    long = length-changed_at (λ set. with_member set p) rs (suc n) ∙ is.long;
    below = λ place some less. got-gets p p (suc n) place rs ∙ here place some less;
    above = λ place more. got-gets p p (suc n) place rs
        ∙ ap (λ b. got p rs place || (b && ((p == p) && is_there rs place))) (ne_eqb place (suc n) (λ e. (let same : place ≡ suc n = e in omega arith)))
        ∙ or-false (got p rs place) ∙ is.above place (omega arith);
  } where
    or-false : (b : Bool) → (b || false) ≡ b
    or-false true = refl
    or-false false = refl

    or-true : (b : Bool) → (b || true) ≡ true
    or-true true = refl
    or-true false = refl

    here : (place : ℕ) → 0 < place → place ≤ suc n → (got p rs place || ((place == suc n) && ((p == p) && is_there rs place))) ≡ true
    here place some less = compared place (suc n)
        (λ same. (let now = there-within rs place some (subst (λ k. place ≤ k) (sym is.long) (let f : place ≡ suc n = same in let g : suc n ≤ length old = le in omega arith)) in
        rw (eq-eqb place (suc n) same, eq-eqb p p refl, now) (or-true (got p rs place))))
        (λ under. (let had = is.below place some (let f : place < suc n = under in omega arith) in rw had refl))
        (λ over. absurd (let f : suc n < place = over in omega arith))

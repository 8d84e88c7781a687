-- The first places of a configuration, which every member has received, and those that one of them has.
use Rattle.std.proofs.Common.{◌≡◌, ℕ, zero, suc, ◌+◌, ◌-◌, ◌<◌, ◌≤◌, Bool, true, false, not, ◌&&◌, List, [], ◌∷◌, ◌++◌, length, Option, Some, None, refl, sym, ap, subst, ◌∙◌, arith, fold, find, option_map, inl, inr, ⊎_elim, ◌⊎◌, eq-eqb}
use Rattle.std.proofs.Math.ListN.{set, get_or}
use Rattle.std.specs.List.{slice_get, prefix_len}
use Rattle.std.specs.Option.{option_map_or}
use Rattle.std.proofs.lemmas.Bool.{cases_lt, cases_eq, cond-false, ne_eqb}
use Rattle.std.proofs.lemmas.List.{length-append, length-set}
use Rattle.std.proofs.lemmas.Option.{slice_get-get_or}
use Rattle.cg_base.specs.Lists.{at_place, above_up_to}
use Rattle.cg_base.specs.Sets.{IsSet, Ascends, has, with_member, is_within}
use Rattle.cg_base.specs.SetLaws.{with_member-same, with_member-later, has-within, is_within-has}
use Rattle.cg_group.specs.declared.ordered_message.OrderedMessage.{OrderedMessage}
use Rattle.cg_group.specs.State.{Configuration, has_received}
use Rattle.cg_group.specs.Ready.{all_received}
use Rattle.cg_group.specs.Events.{with_receipt}
use Rattle.cg_group.specs.Logs.{IsSettled, AreFronts, configuration_of}
use Rattle.cg_group.proofs.LogFacts.{above_up_to-next, above_up_to-none, all_received-at_place, has_received-at, prefix-goes_on, at_place-map}
use Rattle.cg_group.specs.PlaceLaws.{at_place-within}
use Rattle.cg_group.proofs.OrderFacts.{changed_at-here, changed_at-itself}
use Rattle.cg_base.specs.MemberLaws.{is_within_more}

-- a member that is there already
pub with_member-there : (low : ℕ) (set : List ℕ) (p : ℕ) → Ascends low set → has set p ≡ true → with_member set p ≡ set
with_member-there low [] p ascends there = absurd (let clash : false ≡ true = there in cc)
with_member-there low (q ∷ set) p ascends there = ⊎_elim
    (λ (same : q ≡ p). with_member-same q set p (sym same))
    (λ (ne : q ≡ p → ⊥).
    let rest : has set p ≡ true = rw (ne_eqb q p ne) at there in
    let above = has-within set (suc q) p ascends.2 rest in
    with_member-later q set p (omega (arith, above.0)) ∙ ap (λ z. q ∷ z) (with_member-there (suc q) set p ascends.2 rest))
    (cases_eq q p)

pub has_itself : (p : ℕ) → has (p ∷ []) p ≡ true
has_itself p = rw (eq-eqb p p refl) refl

-- what isn't lacked isn't missing
pub and_not : (a b : Bool) → b ≡ true → (a && not b) ≡ false
and_not true b e = ap not e
and_not false b e = refl

-- what holds of no place before
pub find-skip : (test : ℕ → Bool) (from to : ℕ) → ((place : ℕ) → 0 < place → place ≤ from → test place ≡ false) →
    find test (above_up_to 0 to) ≡ find test (above_up_to from to)
find-skip test zero to none = refl
find-skip test (suc k) to none = ⊎_elim
    (λ (lt : k < to).
    find-skip test k to (λ place pos le. none place pos (omega arith))
    ∙ ap (find test) (above_up_to-next k to lt) ∙ cond-false (test (suc k)) (Some (suc k)) (find test (above_up_to (suc k) to)) (none (suc k) (omega arith) (omega arith)))
    (λ (le : to ≤ k). find-skip test k to (λ place pos le. none place pos (omega arith)) ∙ ap (find test) (above_up_to-none k to le ∙ sym (above_up_to-none (suc k) to (omega arith))))
    (cases_lt k to)

-- what holds of each place before
pub prefix-skip : (test : ℕ → Bool) (low mid high : ℕ) → low ≤ mid → mid ≤ high → ((place : ℕ) → low < place → place ≤ mid → test place ≡ true) →
    prefix_len test (above_up_to low high) ≡ prefix_len test (above_up_to mid high) + (mid - low)
prefix-skip test low zero high le within all = let same : low ≡ 0 = omega arith in rw same (omega arith)
prefix-skip test low (suc k) high le within all = ⊎_elim
    (λ (lt : low < suc k).
    let before = prefix-skip test low k high (omega arith) (omega arith) (λ place pos le. all place pos (omega arith)) in
    let next = prefix-goes_on test k high (omega arith) (all (suc k) lt (omega arith)) in
    omega (arith, before, next))
    (λ (ge : suc k ≤ low). let same : low ≡ suc k = omega arith in rw same (omega arith))
    (cases_lt low (suc k))

-- what does nothing at each place before
pub fold-skip : {X : Type 0} (f : X → ℕ → X) (x : X) (from to : ℕ) → from ≤ to → ((place : ℕ) → 0 < place → place ≤ from → f x place ≡ x) →
    fold f x (above_up_to 0 to) ≡ fold f x (above_up_to from to)
fold-skip f x zero to le same = refl
fold-skip f x (suc k) to le same =
    fold-skip f x k to (omega arith) (λ place pos le. same place pos (omega arith))
    ∙ ap (fold f x) (above_up_to-next k to (omega arith)) ∙ ap (λ y. fold f y (above_up_to (suc k) to)) (same (suc k) (omega arith) (omega arith))

module _ {X : Type 0} where
  -- an element of a list with one more behind it
  pub slice_get_pushed : (xs : List X) (x y : X) (i : ℕ) → slice_get (xs ++ x ∷ []) i ≡ Some y → (slice_get xs i ≡ Some y) ⊎ (x ≡ y)
  slice_get_pushed [] x y zero e = inr (let same : x ≡ y = cc in same)
  slice_get_pushed [] x y (suc i) e = inl e
  slice_get_pushed (z ∷ xs) x y zero e = inl e
  slice_get_pushed (z ∷ xs) x y (suc i) e = slice_get_pushed xs x y i e

  -- an element of a list in which one was written
  pub slice_get_set : (xs : List X) (k i : ℕ) (x y : X) → slice_get (set xs k x) i ≡ Some y → (slice_get xs i ≡ Some y) ⊎ ((k ≡ i) × (x ≡ y))
  slice_get_set [] k i x y e = inl e
  slice_get_set (z ∷ xs) zero zero x y e = inr (refl, (let same : x ≡ y = cc in same))
  slice_get_set (z ∷ xs) zero (suc i) x y e = inl e
  slice_get_set (z ∷ xs) (suc k) zero x y e = inl e
  slice_get_set (z ∷ xs) (suc k) (suc i) x y e = ⊎_elim inl (λ w. inr (ap suc w.0, w.1)) (slice_get_set xs k i x y e)

module _ {M : Type 0} where
  pub IsSettled-none : (members : List ℕ) (ordered : List (OrderedMessage M)) → IsSettled members ordered 0
  IsSettled-none members ordered = record { within = omega arith; received = λ i x lt e. absurd (omega arith) }

  -- one more place that all have received
  pub IsSettled-next : (members : List ℕ) (ordered : List (OrderedMessage M)) (n : ℕ) (d : OrderedMessage M) → n < length ordered → IsSettled members ordered n →
      IsSet (get_or ordered n d).received → is_within members (get_or ordered n d).received ≡ true → IsSettled members ordered (suc n)
  IsSettled-next members ordered n d lt settled is_set within = record {
    within = omega arith;
    received = λ i x below e. ⊎_elim
        (λ (less : i < n). settled.received i x less e)
        (λ (more : n ≤ i).
        let same : i ≡ n = omega arith in
        let there : Some x ≡ Some (get_or ordered n d) = sym e ∙ ap (slice_get ordered) same ∙ slice_get-get_or ordered n d lt in
        let it : get_or ordered n d ≡ x = cc in
        subst (λ (y : OrderedMessage M). IsSet y.received × (is_within members y.received ≡ true)) it (is_set, within))
        (cases_lt i n);
  }

  pub slice_get-front : (xs : List (OrderedMessage M)) (x : OrderedMessage M) (i : ℕ) → i < length xs → slice_get (xs ++ x ∷ []) i ≡ slice_get xs i
  slice_get-front [] x i lt = absurd (omega arith)
  slice_get-front (y ∷ xs) x zero lt = refl
  slice_get-front (y ∷ xs) x (suc i) lt = slice_get-front xs x i (omega arith)

  pub IsSettled-append : (members : List ℕ) (ordered : List (OrderedMessage M)) (x : OrderedMessage M) (n : ℕ) → IsSettled members ordered n → IsSettled members (ordered ++ x ∷ []) n
  IsSettled-append members ordered x n settled = record {
    within = rw length-append (let le = settled.within in omega arith);
    received = λ i y lt e. settled.received i y lt (sym (slice_get-front ordered x i (let le = settled.within in omega arith)) ∙ e);
  }

  slice_get-written : (xs : List (OrderedMessage M)) (k i : ℕ) (y z d : OrderedMessage M) → k < length xs → slice_get (set xs k y) i ≡ Some z →
      (slice_get xs i ≡ Some z) ⊎ ((y ≡ z) × (slice_get xs i ≡ Some (get_or xs k d)))
  slice_get-written [] k i y z d lt e = absurd (omega arith)
  slice_get-written (x ∷ xs) zero zero y z d lt e = inr ((let same : y ≡ z = cc in same), refl)
  slice_get-written (x ∷ xs) zero (suc i) y z d lt e = inl e
  slice_get-written (x ∷ xs) (suc k) zero y z d lt e = inl e
  slice_get-written (x ∷ xs) (suc k) (suc i) y z d lt e = slice_get-written xs k i y z d (omega arith) e

  -- one more has received a place
  pub IsSettled-receipt : (members : List ℕ) (ordered : List (OrderedMessage M)) (k n p : ℕ) (y d : OrderedMessage M) → k < length ordered → IsSettled members ordered n →
      y.received ≡ with_member (get_or ordered k d).received p → IsSet y.received → IsSettled members (set ordered k y) n
  IsSettled-receipt members ordered k n p y d lt settled value is_set = record {
    within = rw length-set (let le = settled.within in omega arith);
    received = λ i z below e. ⊎_elim
        (λ before. settled.received i z below before)
        (λ w.
        let old = settled.received i (get_or ordered k d) below w.1 in
        subst (λ (x : OrderedMessage M). IsSet x.received × (is_within members x.received ≡ true)) w.0
        (is_set, ap (is_within members) value ∙ is_within_more members (get_or ordered k d).received p old.1))
        (slice_get-written ordered k i y z d lt e);
  }

  none_within : (xs : List (OrderedMessage M)) (i : ℕ) → i < length xs → slice_get xs i ≡ None → ⊥
  none_within [] i lt e = absurd (omega arith)
  none_within (y ∷ xs) zero lt e = cc
  none_within (y ∷ xs) (suc i) lt e = none_within xs i (omega arith) e

  -- each of the first places every member has received
  pub settled-all_received : (members : List ℕ) (ordered : List (OrderedMessage M)) (n place : ℕ) → IsSettled members ordered n → 0 < place → place ≤ n →
      all_received (configuration_of members ordered) place ≡ true
  settled-all_received members ordered n zero settled pos le = absurd (omega arith)
  settled-all_received members ordered n (suc i) settled pos le =
      let lt : i < length ordered = let within = settled.within in omega arith in
      by_option (slice_get ordered i) refl lt
    where
      by_option : (o : Option (OrderedMessage M)) → slice_get ordered i ≡ o → i < length ordered → all_received (configuration_of members ordered) (suc i) ≡ true
      by_option None e lt = absurd (none_within ordered i lt e)
      by_option (Some x) e lt = all_received-at_place members ordered (suc i) x e ∙ (settled.received i x (omega arith) e).1

  -- what is known of a place before, and of a member
  settled_at : (members : List ℕ) (ordered : List (OrderedMessage M)) (n place : ℕ) (x : OrderedMessage M) → IsSettled members ordered n → 0 < place → place ≤ n → at_place ordered place ≡ Some x →
      IsSet x.received × (is_within members x.received ≡ true)
  settled_at members ordered n zero x settled pos le e = absurd (omega arith)
  settled_at members ordered n (suc i) x settled pos le e = settled.received i x (omega arith) e

  -- what is counted of a replica it has received
  pub settled-same : (members : List ℕ) (ordered : List (OrderedMessage M)) (n p place : ℕ) → IsSettled (p ∷ []) ordered n → 0 < place → place ≤ n →
      with_receipt (configuration_of members ordered) p place ≡ configuration_of members ordered
  unfolding with_receipt
  settled-same members ordered n p place settled pos le =
      let c : Configuration M = configuration_of members ordered in
      ap (λ (r : List (List ℕ)). record c { received = r })
      (changed_at-here (λ set. with_member set p) (λ set. set) c.received place
      (λ set e. by_option (at_place ordered place) refl set (sym (at_place-map (λ (x : OrderedMessage M). x.received) ordered place) ∙ e))
      ∙ changed_at-itself c.received place)
    where
      by_option : (o : Option (OrderedMessage M)) → at_place ordered place ≡ o → (set : List ℕ) → option_map (λ (x : OrderedMessage M). x.received) o ≡ Some set → with_member set p ≡ set
      by_option None e set there = absurd (cc)
      by_option (Some x) e set there =
          let known = settled_at (p ∷ []) ordered n place x settled pos le e in
          let same : x.received ≡ set = cc in
          subst (λ z. with_member z p ≡ z) same (with_member-there 1 x.received p known.0.ascends (is_within-has (p ∷ []) x.received p known.1 (has_itself p)))

  pub settled-has : (members : List ℕ) (ordered : List (OrderedMessage M)) (n p place : ℕ) → IsSettled (p ∷ []) ordered n → 0 < place → place ≤ n →
      has_received (configuration_of members ordered) p place ≡ true
  settled-has members ordered n p place settled pos le =
      let within : place ≤ length ordered = let under = settled.within in omega arith in
      let there = at_place-within ordered place pos within in
      let known = settled_at (p ∷ []) ordered n place there.0 settled pos le there.1 in
      has_received-at members ordered p place ∙ ap (λ o. option_map_or (λ (x : OrderedMessage M). has x.received p) o false) there.1
      ∙ is_within-has (p ∷ []) there.0.received p known.1 (has_itself p)

  -- one more slot, at which nothing is counted yet
  pub AreFronts-slot : (ordered : List (OrderedMessage M)) (fronts : List ℕ) → AreFronts ordered fronts → AreFronts ordered (fronts ++ 0 ∷ [])
  AreFronts-slot ordered fronts are = λ slot n e. ⊎_elim
      (are slot n)
      (λ (none : 0 ≡ n). subst (IsSettled (suc slot ∷ []) ordered) none (IsSettled-none (suc slot ∷ []) ordered))
      (slice_get_pushed fronts 0 n slot e)

  -- the count at a slot, written anew
  pub AreFronts-counted : (ordered : List (OrderedMessage M)) (fronts : List ℕ) (k m : ℕ) → AreFronts ordered fronts → IsSettled (suc k ∷ []) ordered m →
      AreFronts ordered (set fronts k m)
  AreFronts-counted ordered fronts k m are settled = λ slot n e. ⊎_elim
      (are slot n)
      (λ (w : (k ≡ slot) × (m ≡ n)). subst (λ i. IsSettled (suc i ∷ []) ordered n) w.0 (subst (IsSettled (suc k ∷ []) ordered) w.1 settled))
      (slice_get_set fronts k slot m n e)

  -- the count at a replica's slot
  pub front_of : (ordered : List (OrderedMessage M)) (fronts : List ℕ) (p slot n : ℕ) → AreFronts ordered fronts → suc slot ≡ p → slot < length fronts →
      n ≡ get_or fronts slot n → IsSettled (p ∷ []) ordered n
  front_of ordered fronts p slot n are own lt e =
      subst (λ (q : ℕ). IsSettled (q ∷ []) ordered n) own (are slot n (slice_get-get_or fronts slot n lt ∙ ap Some (sym e)))

  pub AreFronts-append : (ordered : List (OrderedMessage M)) (x : OrderedMessage M) (fronts : List ℕ) → AreFronts ordered fronts → AreFronts (ordered ++ x ∷ []) fronts
  AreFronts-append ordered x fronts are = λ slot n e. IsSettled-append (suc slot ∷ []) ordered x n (are slot n e)

  -- one more has received a place
  pub AreFronts-receipt : (ordered : List (OrderedMessage M)) (k p : ℕ) (y d : OrderedMessage M) (fronts : List ℕ) → k < length ordered → AreFronts ordered fronts →
      y.received ≡ with_member (get_or ordered k d).received p → IsSet y.received → AreFronts (set ordered k y) fronts
  AreFronts-receipt ordered k p y d fronts lt are value is_set = λ slot n e.
      IsSettled-receipt (suc slot ∷ []) ordered k n p y d lt (are slot n e) value is_set

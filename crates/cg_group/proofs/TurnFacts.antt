-- Who has received a place in turn: it and each of its sender's places before it.
use Rattle.std.proofs.Common.{◌≡◌, ℕ, zero, suc, ◌<◌, ◌≤◌, Bool, true, false, not, cond, ◌||◌, List, [], ◌∷◌, ◌++◌, length, Some, None, refl, sym, ap, subst, ◌∙◌, arith, find, ⊎_elim, eq-eqb}
use Rattle.std.specs.Prelude.{◌==◌, ◌&&◌}
use Rattle.std.proofs.Math.ListN.{set, get_or}
use Rattle.std.specs.List.{slice_get}
use Rattle.std.specs.Option.{option_map_or}
use Rattle.std.proofs.lemmas.Bool.{cases_lt, eqb-true, or_left, or_cases}
use Rattle.std.proofs.lemmas.Option.{slice_get-get_or}
use Rattle.cg_base.specs.Lists.{at_place, above_up_to}
use Rattle.cg_base.specs.Sets.{has, with_member}
use Rattle.cg_base.specs.SetLaws.{has-with_member}
use Rattle.cg_group.specs.declared.ordered_message.OrderedMessage.{OrderedMessage}
use Rattle.cg_group.specs.State.{Configuration, has_received}
use Rattle.cg_group.specs.Refusals.{sender_at, is_missing}
use Rattle.cg_group.specs.Logs.{AreInTurn, configuration_of}
use Rattle.cg_group.specs.PlaceLaws.{at_place-within}
use Rattle.cg_group.proofs.LogFacts.{above_up_to-none, has_received-at, sender_at-at}
use Rattle.cg_group.proofs.SettledFacts.{find-skip, slice_get_pushed, slice_get_set, slice_get-front}

-- who isn't missing a place has received it, where the sender is the one that is asked for
received_of : (a b : Bool) → (a && not b) ≡ false → a ≡ true → b ≡ true
received_of true true e there = refl
received_of true false e there = absurd (cc)
received_of false b e there = absurd (cc)

-- nothing is found where nothing is missing
pub find-nothing : (test : ℕ → Bool) (to : ℕ) → ((place : ℕ) → 0 < place → place ≤ to → test place ≡ false) → find test (above_up_to 0 to) ≡ None
find-nothing test to none = find-skip test to to none ∙ ap (find test) (above_up_to-none to to (omega arith))

module _ {M : Type 0} where
  slice_get-within : (xs : List (OrderedMessage M)) (i : ℕ) (x : OrderedMessage M) → slice_get xs i ≡ Some x → i < length xs
  slice_get-within [] i x e = absurd (cc)
  slice_get-within (w ∷ xs) zero x e = omega arith
  slice_get-within (w ∷ xs) (suc i) x e = let lt = slice_get-within xs i x e in omega arith

  -- what is known of a member at a place
  pub in_turn-has : (members : List ℕ) (ordered : List (OrderedMessage M)) (p place earlier : ℕ) (x : OrderedMessage M) → AreInTurn ordered → at_place ordered place ≡ Some x →
      has x.in_turn p ≡ true → 0 < earlier → earlier ≤ place →
      sender_at (configuration_of members ordered) earlier ≡ sender_at (configuration_of members ordered) place → has_received (configuration_of members ordered) p earlier ≡ true
  in_turn-has members ordered p zero earlier x are e known pos le same = absurd (omega arith)
  in_turn-has members ordered p (suc i) zero x are e known pos le same = absurd (omega arith)
  in_turn-has members ordered p (suc i) (suc j) x are e known pos le same =
      let lt = slice_get-within ordered i x e in
      let y = at_place-within ordered (suc j) (omega arith) (omega (arith, lt)) in
      let senders : y.0.from ≡ x.from =
      ap (λ o. option_map_or (λ (z : OrderedMessage M). z.from) o 0) (sym y.1) ∙ sym (sender_at-at members ordered (suc j))
      ∙ same ∙ sender_at-at members ordered (suc i) ∙ ap (λ o. option_map_or (λ (z : OrderedMessage M). z.from) o 0) e in
      has_received-at members ordered p (suc j) ∙ ap (λ o. option_map_or (λ (z : OrderedMessage M). has z.received p) o false) y.1
      ∙ are i j p x y.0 (omega arith) e y.1 senders known

  -- the last place, which none has received in turn yet
  pub AreInTurn-append : (ordered : List (OrderedMessage M)) (z : OrderedMessage M) → z.in_turn ≡ [] → AreInTurn ordered → AreInTurn (ordered ++ z ∷ [])
  AreInTurn-append ordered z empty are = λ i j p x y le ei ej same known. ⊎_elim
      (λ (old : slice_get ordered i ≡ Some x).
      let lt = slice_get-within ordered i x old in
      are i j p x y le old (sym (slice_get-front ordered z j (omega (arith, lt))) ∙ ej) same known)
      (λ (new : z ≡ x). absurd (let clash : true ≡ false = sym known ∙ ap (λ (w : OrderedMessage M). has w.in_turn p) (sym new) ∙ ap (λ s. has s p) empty in cc))
      (slice_get_pushed ordered z x i ei)

  -- a member has received a place, in turn where it lacks none of the sender's before
  module _ (members : List ℕ) (ordered : List (OrderedMessage M)) (k p place : ℕ) (y d : OrderedMessage M) (turn : Bool) (lt : k < length ordered) (are : AreInTurn ordered)
      (value : y ≡ record (get_or ordered k d) { received = with_member (get_or ordered k d).received p; in_turn = cond turn (with_member (get_or ordered k d).in_turn p) (get_or ordered k d).in_turn })
      (own : suc k ≡ place)
      (all : turn ≡ true → (earlier : ℕ) → 0 < earlier → earlier < place → is_missing (configuration_of members ordered) p place earlier ≡ false) where
    none_missing : turn ≡ true → (earlier : ℕ) → 0 < earlier → earlier < suc k → is_missing (configuration_of members ordered) p (suc k) earlier ≡ false
    none_missing =
        subst (λ n. turn ≡ true → (earlier : ℕ) → 0 < earlier → earlier < n → is_missing (configuration_of members ordered) p n earlier ≡ false) (sym own) all

    abbrev old : OrderedMessage M
    old = get_or ordered k d

    old-at : slice_get ordered k ≡ Some old
    old-at = slice_get-get_or ordered k d lt

    old-from : old.from ≡ y.from
    old-from = ap (λ (w : OrderedMessage M). w.from) (sym value)

    kept : (q : ℕ) → has old.received q ≡ true → has y.received q ≡ true
    kept q there = ap (λ (w : OrderedMessage M). has w.received q) value ∙ has-with_member old.received p q ∙ or_left (has old.received q) (p == q) there

    added : has y.received p ≡ true
    added = ap (λ (w : OrderedMessage M). has w.received p) value ∙ has-with_member old.received p p ∙ or_own (has old.received p) (p == p) (eq-eqb p p refl)
      where
        or_own : (a b : Bool) → b ≡ true → (a || b) ≡ true
        or_own true b e = refl
        or_own false b e = e

    -- what stood at a place
    was : (j : ℕ) (z : OrderedMessage M) → slice_get (set ordered k y) j ≡ Some z →
        (w : OrderedMessage M) × (slice_get ordered j ≡ Some w) × (w.from ≡ z.from) × ((q : ℕ) → has w.received q ≡ true → has z.received q ≡ true)
    was j z e = ⊎_elim
        (λ (same : slice_get ordered j ≡ Some z). (z, same, refl, λ q there. there))
        (λ (w : (k ≡ j) × (y ≡ z)). (
          old,
          (ap (slice_get ordered) (sym w.0) ∙ old-at),
          (old-from ∙ ap (λ (v : OrderedMessage M). v.from) w.1),
          λ q there. ap (λ (v : OrderedMessage M). has v.received q) (sym w.1) ∙ kept q there,
        ))
        (slice_get_set ordered k j y z e)

    -- whoever was there in turn is so still
    still : (i j q : ℕ) (x z : OrderedMessage M) → j ≤ i → slice_get ordered i ≡ Some x → slice_get (set ordered k y) j ≡ Some z → z.from ≡ x.from → has x.in_turn q ≡ true →
        has z.received q ≡ true
    still i j q x z le ei ej same known = let w = was j z ej in w.3 q (are i j q x w.0 le ei w.1 (w.2 ∙ same) known)

    -- the member has received each of the sender's places before
    newly : (j : ℕ) (z : OrderedMessage M) → turn ≡ true → j ≤ k → slice_get (set ordered k y) j ≡ Some z → z.from ≡ old.from → has z.received p ≡ true
    newly j z now le ej same = ⊎_elim
        (λ (before : slice_get ordered j ≡ Some z). ⊎_elim
        (λ (less : j < k).
        let c : Configuration M = configuration_of members ordered in
        let own : sender_at c (suc j) ≡ z.from = sender_at-at members ordered (suc j) ∙ ap (λ o. option_map_or (λ (v : OrderedMessage M). v.from) o 0) before in
        let asked : sender_at c (suc k) ≡ old.from = sender_at-at members ordered (suc k) ∙ ap (λ o. option_map_or (λ (v : OrderedMessage M). v.from) o 0) old-at in
        let has_it : has_received c p (suc j) ≡ true = received_of (sender_at c (suc j) == sender_at c (suc k)) (has_received c p (suc j)) (none_missing now (suc j) (omega arith) (omega arith))
        (eq-eqb (sender_at c (suc j)) (sender_at c (suc k)) (own ∙ same ∙ sym asked)) in
        sym (ap (λ o. option_map_or (λ (v : OrderedMessage M). has v.received p) o false) before) ∙ sym (has_received-at members ordered p (suc j)) ∙ has_it)
        (λ (more : k ≤ j). let here : k ≡ j = omega arith in at_itself z (subst (λ n. slice_get (set ordered k y) n ≡ Some z) (sym here) ej))
        (cases_lt j k))
        (λ (w : (k ≡ j) × (y ≡ z)). ap (λ (v : OrderedMessage M). has v.received p) (sym w.1) ∙ added)
        (slice_get_set ordered k j y z ej)
      where
        written : (xs : List (OrderedMessage M)) (k : ℕ) → k < length xs → slice_get (set xs k y) k ≡ Some y
        written [] k lt = absurd (omega arith)
        written (x ∷ xs) zero lt = refl
        written (x ∷ xs) (suc k) lt = written xs k (omega arith)

        at_itself : (z : OrderedMessage M) → slice_get (set ordered k y) k ≡ Some z → has z.received p ≡ true
        at_itself z e = let there : Some y ≡ Some z = sym (written ordered k lt) ∙ e in let same : y ≡ z = cc in ap (λ (v : OrderedMessage M). has v.received p) (sym same) ∙ added

    pub AreInTurn-receipt : AreInTurn (set ordered k y)
    AreInTurn-receipt = λ i j q x z le ei ej same known. ⊎_elim
        (λ (before : slice_get ordered i ≡ Some x). still i j q x z le before ej same known)
        (λ (w : (k ≡ i) × (y ≡ x)).
        let down : j ≤ k = omega (arith, w.0) in
        let sent : z.from ≡ old.from = same ∙ ap (λ (v : OrderedMessage M). v.from) (sym w.1) ∙ sym old-from in
        let noted : has (cond turn (with_member old.in_turn p) old.in_turn) q ≡ true = ap (λ (v : OrderedMessage M). has v.in_turn q) (sym value ∙ w.1) ∙ known in
        by_turn j q z down ej sent turn refl noted)
        (slice_get_set ordered k i y x ei)
      where
        by_turn : (j q : ℕ) (z : OrderedMessage M) → j ≤ k → slice_get (set ordered k y) j ≡ Some z → z.from ≡ old.from → (b : Bool) → turn ≡ b →
            has (cond b (with_member old.in_turn p) old.in_turn) q ≡ true → has z.received q ≡ true
        by_turn j q z down ej sent false e noted = still k j q old z down old-at ej sent noted
        by_turn j q z down ej sent true e noted = ⊎_elim
            (λ there. still k j q old z down old-at ej sent there)
            (λ here. subst (λ n. has z.received n ≡ true) (eqb-true p q here) (newly j z e down ej sent))
            (or_cases (has old.in_turn q) (p == q) (sym (has-with_member old.in_turn p q) ∙ noted))

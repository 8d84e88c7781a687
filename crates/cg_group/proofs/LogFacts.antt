-- A configuration in memory, after a message more and after a receipt.
use Rattle.std.proofs.Common.{◌+◌, ◌-◌, one-add, ◌≡◌, ℕ, zero, suc, pred, ◌<◌, ◌≤◌, Bool, true, false, List, [], ◌∷◌, ◌++◌, length, Option, Some, None, refl, sym, ap, ap₂, ◌∙◌, arith, map, option_map, get_or, ⊎_elim}
use Rattle.std.specs.Prelude.{◌==◌}
use Rattle.std.proofs.Math.ListN.{set}
use Rattle.std.proofs.lemmas.List.{map-append}
use Rattle.std.proofs.lemmas.Option.{slice_get-map}
use Rattle.std.proofs.lemmas.Bool.{cond-true, cond-false, cases_Bool, ne_eqb}
use Rattle.std.specs.Option.{option_map_or}
use Rattle.std.specs.List.{list_all, prefix_len}
use Rattle.cg_base.specs.Lists.{at_place, above_up_to, count_up}
use Rattle.cg_base.specs.Sets.{has, with_member}
use Rattle.cg_group.specs.declared.ordered_message.OrderedMessage.{OrderedMessage}
use Rattle.cg_group.specs.State.{Configuration, Sent, no_configuration, changed_at, has_received}
use Rattle.cg_group.specs.Events.{with_message, with_receipt}
use Rattle.cg_group.specs.Ready.{all_received, ready_in}
use Rattle.cg_group.specs.Refusals.{sender_at}
use Rattle.cg_group.specs.Logs.{sent_of, configuration_of}
use Rattle.cg_group.specs.LookupLaws.{changed_at-zero}
use Rattle.cg_base.specs.EachLaws.{list_all_same}

module _ {X Y : Type 0} where
  pub at_place-map : (f : X → Y) (xs : List X) (place : ℕ) → at_place (map f xs) place ≡ option_map f (at_place xs place)
  at_place-map f xs zero = refl
  at_place-map f xs (suc n) = slice_get-map f xs n

  -- a function that commutes with the change
  pub map-changed_at : (f : X → Y) (change : X → X) (other : Y → Y) → ((x : X) → f (change x) ≡ other (f x)) → (xs : List X) (place : ℕ) →
      map f (changed_at change xs place) ≡ changed_at other (map f xs) place
  map-changed_at f change other e [] place = refl
  map-changed_at f change other e (x ∷ xs) place = ⊎_elim
      (λ y. ap (map f) (cond-true (place == 1) (change x ∷ xs) (x ∷ changed_at change xs (pred place)) y) ∙ ap (λ z. z ∷ map f xs) (e x)
      ∙ sym (cond-true (place == 1) (other (f x) ∷ map f xs) (f x ∷ changed_at other (map f xs) (pred place)) y))
      (λ n. ap (map f) (cond-false (place == 1) (change x ∷ xs) (x ∷ changed_at change xs (pred place)) n)
      ∙ ap (λ z. f x ∷ z) (map-changed_at f change other e xs (pred place))
      ∙ sym (cond-false (place == 1) (other (f x) ∷ map f xs) (f x ∷ changed_at other (map f xs) (pred place)) n))
      (cases_Bool (place == 1))

  -- a function that doesn't see the change
  pub map-changed_at_same : (f : X → Y) (change : X → X) → ((x : X) → f (change x) ≡ f x) → (xs : List X) (place : ℕ) → map f (changed_at change xs place) ≡ map f xs
  map-changed_at_same f change e [] place = refl
  map-changed_at_same f change e (x ∷ xs) place = ⊎_elim
      (λ y. ap (map f) (cond-true (place == 1) (change x ∷ xs) (x ∷ changed_at change xs (pred place)) y) ∙ ap (λ z. z ∷ map f xs) (e x))
      (λ n. ap (map f) (cond-false (place == 1) (change x ∷ xs) (x ∷ changed_at change xs (pred place)) n)
      ∙ ap (λ z. f x ∷ z) (map-changed_at_same f change e xs (pred place)))
      (cases_Bool (place == 1))

module _ {X : Type 0} where
  -- writing the changed element is the change
  pub set-changed_at : (change : X → X) (xs : List X) (i : ℕ) (d : X) → i < length xs → set xs i (change (get_or xs i d)) ≡ changed_at change xs (suc i)
  set-changed_at change [] i d lt = absurd (omega arith)
  set-changed_at change (x ∷ xs) zero d lt = refl
  set-changed_at change (x ∷ xs) (suc i) d lt =
      ap (λ z. x ∷ z) (set-changed_at change xs i d (omega arith))
      ∙ sym (cond-false (suc (suc i) == 1) (change x ∷ xs) (x ∷ changed_at change xs (suc i)) (ne_eqb (suc (suc i)) 1 (λ e. omega arith)))

  -- no element is there to be changed
  pub changed_at-beyond : (change : X → X) (xs : List X) (place : ℕ) → length xs < place → changed_at change xs place ≡ xs
  changed_at-beyond change [] place lt = refl
  changed_at-beyond change (x ∷ xs) place lt =
      cond-false (place == 1) (change x ∷ xs) (x ∷ changed_at change xs (pred place)) (ne_eqb place 1 (λ e. omega arith))
      ∙ ap (λ z. x ∷ z) (changed_at-beyond change xs (pred place) (omega arith))

module _ {M : Type 0} where
  -- a member more among those who have received, and so many of them in turn
  abbrev pub marked : ℕ → List ℕ → OrderedMessage M → OrderedMessage M
  marked p turn x = record x { received = with_member x.received p; in_turn = turn }

  pub configuration_of-appended : (members : List ℕ) (ordered : List (OrderedMessage M)) (p : ℕ) (m : M) (x : OrderedMessage M) →
      x ≡ record { from = p; message = m; received = p ∷ []; in_turn = [] } →
      configuration_of members (ordered ++ x ∷ []) ≡ with_message (configuration_of members ordered) p m
  unfolding with_message
  configuration_of-appended members ordered p m x e = rw (e, map-append, map-append) refl

  pub configuration_of-marked : (members : List ℕ) (ordered : List (OrderedMessage M)) (p place : ℕ) (turn : List ℕ) →
      configuration_of members (changed_at (marked p turn) ordered place) ≡ with_receipt (configuration_of members ordered) p place
  unfolding with_receipt
  configuration_of-marked members ordered p place turn =
      ap₂ (λ (o : List (Sent M)) (r : List (List ℕ)). let c : Configuration M = record { members = members; ordered = o; received = r } in c)
      (map-changed_at_same sent_of (marked p turn) (λ x. refl) ordered place)
      (map-changed_at (λ (x : OrderedMessage M). x.received) (marked p turn) (λ set. with_member set p) (λ x. refl) ordered place)

  pub configuration_of-set : (members : List ℕ) (ordered : List (OrderedMessage M)) (p i : ℕ) (turn : List ℕ) (x d : OrderedMessage M) → i < length ordered →
      x ≡ marked p turn (get_or ordered i d) →
      configuration_of members (set ordered i x) ≡ with_receipt (configuration_of members ordered) p (suc i)
  configuration_of-set members ordered p i turn x d lt e =
      ap (λ z. configuration_of members (set ordered i z)) e
      ∙ ap (configuration_of members) (set-changed_at (marked p turn) ordered i d lt) ∙ configuration_of-marked members ordered p (suc i) turn

  pub with_receipt-beyond : (members : List ℕ) (ordered : List (OrderedMessage M)) (p place : ℕ) → length ordered < place →
      configuration_of members ordered ≡ with_receipt (configuration_of members ordered) p place
  with_receipt-beyond members ordered p place lt =
      sym (ap (configuration_of members) (changed_at-beyond (marked p []) ordered place lt)) ∙ configuration_of-marked members ordered p place []

  pub with_receipt-none : (c : Configuration M) (p : ℕ) → c ≡ with_receipt c p 0
  unfolding with_receipt
  with_receipt-none c p = ap (λ (r : List (List ℕ)). record c { received = r }) (sym (changed_at-zero (λ set. with_member set p) c.received))

  pub has_received-at : (members : List ℕ) (ordered : List (OrderedMessage M)) (p place : ℕ) →
      has_received (configuration_of members ordered) p place ≡ option_map_or (λ x. has x.received p) (at_place ordered place) false
  unfolding has_received
  has_received-at members ordered p place =
      ap (λ o. option_map_or (λ set. has set p) o false) (at_place-map (λ (x : OrderedMessage M). x.received) ordered place) ∙ by_option (at_place ordered place)
    where
      by_option : (o : Option (OrderedMessage M)) → option_map_or (λ set. has set p) (option_map (λ (x : OrderedMessage M). x.received) o) false ≡ option_map_or (λ (x : OrderedMessage M). has x.received p) o false
      by_option None = refl
      by_option (Some x) = refl

  pub sender_at-at : (members : List ℕ) (ordered : List (OrderedMessage M)) (place : ℕ) →
      sender_at (configuration_of members ordered) place ≡ option_map_or (λ x. x.from) (at_place ordered place) 0
  sender_at-at members ordered place = ap (λ o. option_map_or (λ s. s.from) o 0) (at_place-map sent_of ordered place) ∙ by_option (at_place ordered place)
    where
      by_option : (o : Option (OrderedMessage M)) → option_map_or (λ s. s.from) (option_map sent_of o) 0 ≡ option_map_or (λ (x : OrderedMessage M). x.from) o 0
      by_option None = refl
      by_option (Some x) = refl

  pub all_received-at_place : (members : List ℕ) (ordered : List (OrderedMessage M)) (place : ℕ) (x : OrderedMessage M) → at_place ordered place ≡ Some x →
      all_received (configuration_of members ordered) place ≡ list_all (has x.received) members
  unfolding all_received
  all_received-at_place members ordered place x e =
      list_all_same (λ q. has_received (configuration_of members ordered) q place) (has x.received)
      (λ q. has_received-at members ordered q place ∙ ap (λ o. option_map_or (λ (y : OrderedMessage M). has y.received q) o false) e) members

-- the numbers above one of them
pub above_up_to-next : (low high : ℕ) → low < high → above_up_to low high ≡ suc low ∷ above_up_to (suc low) high
above_up_to-next low high lt = let e : high - low ≡ suc (high - suc low) = omega arith in ap (count_up (suc low)) e

pub above_up_to-none : (low high : ℕ) → high ≤ low → above_up_to low high ≡ []
above_up_to-none low high le = let e : high - low ≡ 0 = omega arith in ap (count_up (suc low)) e

pub prefix-goes_on : (test : ℕ → Bool) (low high : ℕ) → low < high → test (suc low) ≡ true →
    prefix_len test (above_up_to low high) ≡ suc (prefix_len test (above_up_to (suc low) high))
prefix-goes_on test low high lt e =
    ap (prefix_len test) (above_up_to-next low high lt)
    ∙ cond-true (test (suc low)) (1 + prefix_len test (above_up_to (suc low) high)) 0 e ∙ one-add (prefix_len test (above_up_to (suc low) high))

pub prefix-ends : (test : ℕ → Bool) (low high : ℕ) → low < high → test (suc low) ≡ false → prefix_len test (above_up_to low high) ≡ 0
prefix-ends test low high lt e =
    ap (prefix_len test) (above_up_to-next low high lt) ∙ cond-false (test (suc low)) (1 + prefix_len test (above_up_to (suc low) high)) 0 e

pub ready_in-nowhere : (M : Type 0) (delivered : ℕ) → ready_in (no_configuration {M = M}) delivered ≡ 0
unfolding ready_in
ready_in-nowhere M delivered = ap (prefix_len (all_received (no_configuration {M = M}))) (above_up_to-none delivered 0 (omega arith))

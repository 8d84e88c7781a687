-- What ordering and receiving do to a group in memory.
use Rattle.std.proofs.Common.{◌≡◌, ℕ, zero, suc, pred, ◌-◌, ◌<◌, List, [], ◌∷◌, length, Option, Some, None, refl, sym, ap, ◌∙◌, arith, fold, ⊎_elim, eqb-true}
use Rattle.std.specs.Prelude.{◌==◌}
use Rattle.std.specs.Option.{option_map_or}
use Rattle.std.proofs.lemmas.Bool.{cases_Bool, cond-true, cond-false, eqb-false}
use Rattle.cg_base.specs.Lists.{at_place, above_up_to}
use Rattle.cg_group.specs.declared.phase.Phase.TheVariants.{Down}
use Rattle.cg_group.specs.State.{Configuration, Standing, GroupState, no_configuration, configuration, standing_of, set_standing, set_configuration, phase_of, home, regular_in, changed_at, with_standing}
use Rattle.cg_group.specs.Events.{with_message, with_receipt, order, order_from, order_all, receive, receive_all}
use Rattle.cg_group.specs.Logs.{LogView, configurations_of, group_of, with_all_receipts}
use Rattle.cg_group.specs.Rosters.{found, waits_of, conf_of, with_unordered}

-- only what stands there is changed
at_next : {X : Type 0} (x : X) (xs : List X) (k : ℕ) → (k ≡ 1 → ⊥) → (z : X) → at_place xs (pred k) ≡ Some z → at_place (x ∷ xs) k ≡ Some z
at_next x xs zero ne z e = e
at_next x xs (suc zero) ne z e = absurd (ne refl)
at_next x xs (suc (suc k)) ne z e = e

pub changed_at-here : {X : Type 0} (f h : X → X) (xs : List X) (k : ℕ) → ((x : X) → at_place xs k ≡ Some x → f x ≡ h x) → changed_at f xs k ≡ changed_at h xs k
changed_at-here f h [] k same = refl
changed_at-here f h (x ∷ xs) k same = ⊎_elim
    (λ y.
    let one : k ≡ 1 = eqb-true k 1 y in
    let there : at_place (x ∷ xs) k ≡ Some x = ap (at_place (x ∷ xs)) one in
    cond-true (k == 1) (f x ∷ xs) (x ∷ changed_at f xs (pred k)) y ∙ ap (λ z. z ∷ xs) (same x there) ∙ sym (cond-true (k == 1) (h x ∷ xs) (x ∷ changed_at h xs (pred k)) y))
    (λ n.
    cond-false (k == 1) (f x ∷ xs) (x ∷ changed_at f xs (pred k)) n
    ∙ ap (λ z. x ∷ z) (changed_at-here f h xs (pred k) (λ z e. same z (at_next x xs k (eqb-false k 1 n) z e)))
    ∙ sym (cond-false (k == 1) (h x ∷ xs) (x ∷ changed_at h xs (pred k)) n))
    (cases_Bool (k == 1))

-- two changes of one element
pub changed_at-twice : {X : Type 0} (f h : X → X) (xs : List X) (k : ℕ) → changed_at h (changed_at f xs k) k ≡ changed_at (λ x. h (f x)) xs k
changed_at-twice f h [] k = refl
changed_at-twice f h (x ∷ xs) k = ⊎_elim
    (λ y. ap (λ z. changed_at h z k) (cond-true (k == 1) (f x ∷ xs) (x ∷ changed_at f xs (pred k)) y)
    ∙ cond-true (k == 1) (h (f x) ∷ xs) (f x ∷ changed_at h xs (pred k)) y
    ∙ sym (cond-true (k == 1) (h (f x) ∷ xs) (x ∷ changed_at (λ x. h (f x)) xs (pred k)) y))
    (λ n. ap (λ z. changed_at h z k) (cond-false (k == 1) (f x ∷ xs) (x ∷ changed_at f xs (pred k)) n)
    ∙ cond-false (k == 1) (h x ∷ changed_at f xs (pred k)) (x ∷ changed_at h (changed_at f xs (pred k)) (pred k)) n
    ∙ ap (λ z. x ∷ z) (changed_at-twice f h xs (pred k))
    ∙ sym (cond-false (k == 1) (h (f x) ∷ xs) (x ∷ changed_at (λ x. h (f x)) xs (pred k)) n))
    (cases_Bool (k == 1))

pub changed_at-itself : {X : Type 0} (xs : List X) (k : ℕ) → changed_at (λ x. x) xs k ≡ xs
changed_at-itself [] k = refl
changed_at-itself (x ∷ xs) k = ⊎_elim
    (λ y. cond-true (k == 1) (x ∷ xs) (x ∷ changed_at (λ x. x) xs (pred k)) y)
    (λ n. cond-false (k == 1) (x ∷ xs) (x ∷ changed_at (λ x. x) xs (pred k)) n ∙ ap (λ z. x ∷ z) (changed_at-itself xs (pred k))) (cases_Bool (k == 1))

module _ {M : Type 0} where
  -- one configuration of a group is changed
  abbrev pub with_changed : GroupState M → ℕ → (Configuration M → Configuration M) → GroupState M
  with_changed g k change = record g { configurations = changed_at change g.configurations k }

  -- a configuration that is written as a change of what stood there
  pub set_configuration-changed : (g : GroupState M) (k : ℕ) (change : Configuration M → Configuration M) → set_configuration g k (change (configuration g k)) ≡ with_changed g k change
  unfolding set_configuration configuration
  set_configuration-changed g k change =
      ap (λ (z : List (Configuration M)). record g { configurations = z })
      (changed_at-here (λ old. change (configuration g k)) change g.configurations k
      (λ x e. ap (λ o. change (option_map_or (λ (c : Configuration M). c) o no_configuration)) e))

  pub standing-found : (g : GroupState M) (p : ℕ) → standing_of g p ≡ found g.replicas p
  unfolding standing_of
  standing-found g p = refl

  pub phase_of-changed : (g : GroupState M) (k : ℕ) (change : Configuration M → Configuration M) (q : ℕ) → phase_of (with_changed g k change) q ≡ phase_of g q
  unfolding standing_of
  phase_of-changed g k change q = refl

  pub found_id : (replicas : List (Standing M)) (p : ℕ) (s : Standing M) → found replicas p ≡ Some s → s.id ≡ p
  found_id [] p s e = absurd (cc)
  found_id (x ∷ replicas) p s e = ⊎_elim
      (λ y. let same : x ≡ s = let here : Some x ≡ Some s = sym (cond-true (x.id == p) (Some x) (found replicas p) y) ∙ e in cc in ap (λ (t : Standing M). t.id) (sym same) ∙ eqb-true x.id p y)
      (λ n. found_id replicas p s (sym (cond-false (x.id == p) (Some x) (found replicas p) n) ∙ e))
      (cases_Bool (x.id == p))

  -- the oldest message was taken, and has the next place
  pub order_taken : (logs after : List (LogView M)) (replicas : List (Standing M)) (p : ℕ) (m : M) (s : Standing M) (rest : List M) →
      found replicas p ≡ Some s → s.unordered ≡ m ∷ rest →
      configurations_of after ≡ changed_at (λ c. with_message c p m) (configurations_of logs) (conf_of replicas p) →
      group_of after (with_standing replicas (with_unordered s rest)) ≡ order (group_of logs replicas) p
  unfolding order order_from standing_of set_standing set_configuration configuration
  order_taken logs after replicas p m s rest there waits changed =
      let g : GroupState M = group_of logs replicas in
      let taken : GroupState M = record g { replicas = with_standing replicas (with_unordered s rest) } in
      let k = regular_in s.phase in
      let conf : conf_of replicas p ≡ k = ap (λ o. regular_in (option_map_or (λ (s : Standing M). s.phase) o Down)) there in
      ap (λ (z : List (Configuration M)). record taken { configurations = z })
      (changed ∙ ap (changed_at (λ c. with_message c p m) (configurations_of logs)) conf
      ∙ ap (λ q. changed_at (λ c. with_message c q m) (configurations_of logs) k) (sym (found_id replicas p s there)))
      ∙ sym (set_configuration-changed taken k (λ c. with_message c s.id m))
      ∙ sym (ap (λ o. option_map_or (λ s. order_from g s s.unordered) o g) there ∙ ap (order_from g s) waits)

  -- there was none
  pub order_nothing : (g : GroupState M) (p : ℕ) → waits_of g.replicas p ≡ [] → order g p ≡ g
  unfolding order order_from standing_of
  order_nothing g p none = by_option (found g.replicas p) none
    where
      by_option : (o : Option (Standing M)) → option_map_or (λ s. s.unordered) o [] ≡ [] → option_map_or (λ s. order_from g s s.unordered) o g ≡ g
      by_option None e = refl
      by_option (Some s) e = ap (order_from g s) e

-- the same done so many times
abbrev pub times : {X : Type 0} → ℕ → (X → X) → X → X
times zero f x = x
times (suc n) f x = times n f (f x)

pub fold-times : {X Y : Type 0} (f : X → X) (x : X) (ys : List Y) → fold (λ x y. f x) x ys ≡ times (length ys) f x
fold-times f x [] = refl
fold-times f x (y ∷ ys) = fold-times f (f x) ys

pub times-less : {X : Type 0} (f : X → X) (x : X) (m n : ℕ) → n < m → times (m - n) f x ≡ times (m - suc n) f (f x)
times-less f x m n lt = let e : m - n ≡ suc (m - suc n) = omega arith in ap (λ k. times k f x) e

module _ {M : Type 0} where
  -- ordering all of a replica's messages is ordering as often as messages wait
  pub order_all-times : (g : GroupState M) (p : ℕ) → order_all g p ≡ times (length (waits_of g.replicas p)) (λ h. order h p) g
  unfolding order_all standing_of
  order_all-times g p = fold-times (λ (h : GroupState M). order h p) g (waits_of g.replicas p)

  receive-changed : (g : GroupState M) (p place : ℕ) → receive g p place ≡ with_changed g (regular_in (phase_of g p)) (λ c. with_receipt c p place)
  unfolding receive
  receive-changed g p place = set_configuration-changed g (regular_in (phase_of g p)) (λ c. with_receipt c p place)

  receives-changed : (g : GroupState M) (p : ℕ) (places : List ℕ) →
      fold (λ g place. receive g p place) g places ≡ with_changed g (regular_in (phase_of g p)) (λ c. fold (λ c place. with_receipt c p place) c places)
  receives-changed g p [] =
      ap (λ (z : List (Configuration M)). record g { configurations = z }) (sym (changed_at-itself g.configurations (regular_in (phase_of g p))))
  receives-changed g p (place ∷ places) =
      let k = regular_in (phase_of g p) in
      let one : Configuration M → Configuration M = λ c. with_receipt c p place in
      let rest : Configuration M → Configuration M = λ c. fold (λ c place. with_receipt c p place) c places in
      let h = with_changed g k one in
      ap (λ x. fold (λ g place. receive g p place) x places) (receive-changed g p place)
      ∙ receives-changed h p places
      ∙ ap (λ x. with_changed h (regular_in x) rest) (phase_of-changed g k one p)
      ∙ ap (λ (z : List (Configuration M)). record g { configurations = z }) (changed_at-twice one rest g.configurations k)

  -- a replica receives every place where its configuration does
  pub receive_all-changed : (g : GroupState M) (p : ℕ) → receive_all g p ≡ with_changed g (regular_in (phase_of g p)) (λ c. with_all_receipts c p)
  unfolding receive_all configuration
  receive_all-changed g p =
      let k = regular_in (phase_of g p) in
      let places = above_up_to 0 (length (home g p).ordered) in
      receives-changed g p places
      ∙ ap (λ (z : List (Configuration M)). record g { configurations = z })
      (changed_at-here (λ c. fold (λ c place. with_receipt c p place) c places) (λ c. with_all_receipts c p) g.configurations k
      (λ x e. ap (λ o. fold (λ c place. with_receipt c p place) x (above_up_to 0 (length (option_map_or (λ (c : Configuration M). c) o no_configuration).ordered))) e))

  -- the configuration of a replica was written so
  pub received_everywhere : (logs after : List (LogView M)) (replicas : List (Standing M)) (p : ℕ) →
      configurations_of after ≡ changed_at (λ c. with_all_receipts c p) (configurations_of logs) (conf_of replicas p) →
      group_of after replicas ≡ receive_all (group_of logs replicas) p
  unfolding standing_of
  received_everywhere logs after replicas p changed =
      ap (λ (z : List (Configuration M)). let h : GroupState M = record { configurations = z; replicas = replicas } in h) changed ∙ sym (receive_all-changed (group_of logs replicas) p)

  pub received_there : (logs after : List (LogView M)) (replicas : List (Standing M)) (p place : ℕ) →
      configurations_of after ≡ changed_at (λ c. with_receipt c p place) (configurations_of logs) (conf_of replicas p) →
      group_of after replicas ≡ receive (group_of logs replicas) p place
  unfolding standing_of
  received_there logs after replicas p place changed =
      ap (λ (z : List (Configuration M)). let h : GroupState M = record { configurations = z; replicas = replicas } in h) changed ∙ sym (receive-changed (group_of logs replicas) p place)

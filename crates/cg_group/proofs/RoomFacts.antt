-- Room for messages, as it is made and used.
use Rattle.std.proofs.Common.{◌≡◌, ◌⊎◌, ℕ, suc, Bool, true, false, ◌+◌, ◌<◌, ◌≤◌, List, [], ◌∷◌, length, Some, refl, sym, ap, subst, ◌∙◌, arith, ⊎_elim, inl, inr, if◌then◌else◌}
use Rattle.std.specs.Prelude.{◌==◌}
use Rattle.std.specs.Option.{option_map_or}
use Rattle.std.proofs.lemmas.Bool.{cases_Bool, cond-true, cond-false, eq-eqb, eqb-true}
use Rattle.cg_base.specs.Sets.{Ascends}
use Rattle.cg_group.specs.declared.phase.Phase.TheVariants.{Down}
use Rattle.cg_group.specs.State.{Standing, with_standing, regular_in}
use Rattle.cg_group.specs.Logs.{LogView, RoomFor, RoomForAll}
use Rattle.cg_group.specs.Rosters.{IsRoster, ids_of, found, conf_of, waits_of, pending, with_unordered}
use Rattle.cg_group.proofs.RosterFacts.{with_standing-same, with_standing-later}

-- a number that counts where two are equal
counted : (k n : ℕ) → (if k == k then n else 0) ≡ n
counted k n = cond-true (k == k) n 0 (eq-eqb k k refl)

-- one less of them
counted-less : (i k n : ℕ) → (if i == k then 1 else 0) + (if i == k then n else 0) ≡ (if i == k then suc n else 0)
counted-less i k n = by_test (i == k)
  where
    by_test : (b : Bool) → (if b then 1 else 0) + (if b then n else 0) ≡ (if b then suc n else 0)
    by_test true = omega arith
    by_test false = omega arith

module _ {M : Type 0} where
  pub room_less : (logs : List (LogView M)) (k m n : ℕ) → n ≤ m → RoomFor logs k m → RoomFor logs k n
  room_less logs k m n le room = λ s e. omega (arith, room s e)

  -- a replica's own messages are among those that wait for a place of its configuration
  pub pending-own : (replicas : List (Standing M)) (p : ℕ) → length (waits_of replicas p) ≤ pending replicas (conf_of replicas p)
  pending-own [] p = omega arith
  pending-own (s ∷ replicas) p = ⊎_elim
      (λ y.
      let here : found (s ∷ replicas) p ≡ Some s = cond-true (s.id == p) (Some s) (found replicas p) y in
      let waits : length (waits_of (s ∷ replicas) p) ≡ length s.unordered = ap (λ o. length (option_map_or (λ (s : Standing M). s.unordered) o [])) here in
      let conf : conf_of (s ∷ replicas) p ≡ regular_in s.phase = ap (λ o. regular_in (option_map_or (λ (s : Standing M). s.phase) o Down)) here in
      let own = counted (regular_in s.phase) (length s.unordered) in
      subst (λ k. length (waits_of (s ∷ replicas) p) ≤ pending (s ∷ replicas) k) (sym conf) (omega (arith, waits, own)))
      (λ ne.
      let later : found (s ∷ replicas) p ≡ found replicas p = cond-false (s.id == p) (Some s) (found replicas p) ne in
      let waits : length (waits_of (s ∷ replicas) p) ≡ length (waits_of replicas p) = ap (λ o. length (option_map_or (λ (s : Standing M). s.unordered) o [])) later in
      let conf : conf_of (s ∷ replicas) p ≡ conf_of replicas p = ap (λ o. regular_in (option_map_or (λ (s : Standing M). s.phase) o Down)) later in
      let rest = pending-own replicas p in
      subst (λ k. length (waits_of (s ∷ replicas) p) ≤ pending (s ∷ replicas) k) (sym conf) (omega (arith, waits, rest)))
      (cases_Bool (s.id == p))

  pub waits-some : (replicas : List (Standing M)) (p : ℕ) (m : M) (s : Standing M) (rest : List M) → found replicas p ≡ Some s → s.unordered ≡ m ∷ rest →
      0 < length (waits_of replicas p)
  waits-some replicas p m s rest there waits =
      let own : length (waits_of replicas p) ≡ suc (length rest) = ap (λ o. length (option_map_or (λ (s : Standing M). s.unordered) o [])) there ∙ ap length waits in omega arith

  -- who was found in an ascending list isn't below its beginning
  found_within : (replicas : List (Standing M)) (low p : ℕ) (s : Standing M) → Ascends low (ids_of replicas) → found replicas p ≡ Some s → low ≤ s.id
  found_within [] low p s ascends e = absurd (cc)
  found_within (x ∷ replicas) low p s ascends e = ⊎_elim
      (λ y.
      let same : x ≡ s = let here : Some x ≡ Some s = sym (cond-true (x.id == p) (Some x) (found replicas p) y) ∙ e in cc in
      subst (λ (t : Standing M). low ≤ t.id) same ascends.0)
      (λ ne.
      let above : low ≤ x.id = ascends.0 in
      let later = found_within replicas (suc x.id) p s ascends.2 (sym (cond-false (x.id == p) (Some x) (found replicas p) ne) ∙ e) in omega (arith, above, later))
      (cases_Bool (x.id == p))

  -- where a replica's oldest message was taken, one less waits for a place of its configuration
  pending-taken : (replicas : List (Standing M)) (low p k : ℕ) (m : M) (s : Standing M) (rest : List M) → Ascends low (ids_of replicas) →
      found replicas p ≡ Some s → s.unordered ≡ m ∷ rest →
      (if regular_in s.phase == k then 1 else 0) + pending (with_standing replicas (with_unordered s rest)) k ≡ pending replicas k
  pending-taken [] low p k m s rest ascends there waits = absurd (cc)
  pending-taken (x ∷ replicas) low p k m s rest ascends there waits = ⊎_elim
      (λ y.
      let same : x ≡ s = let here : Some x ≡ Some s = sym (cond-true (x.id == p) (Some x) (found replicas p) y) ∙ there in cc in
      let new = with_unordered s rest in
      let front = ap (λ z. pending z k) (with_standing-same x replicas new (ap (λ (t : Standing M). t.id) same)) in
      let less = counted-less (regular_in s.phase) k (length rest) in
      let own : pending (x ∷ replicas) k ≡ (if regular_in s.phase == k then suc (length rest) else 0) + pending replicas k =
      ap (λ (t : Standing M). (if regular_in t.phase == k then length t.unordered else 0) + pending replicas k) same
      ∙ ap (λ (w : List M). (if regular_in s.phase == k then length w else 0) + pending replicas k) waits in
      omega (arith, front, less, own))
      (λ ne.
      let later : found replicas p ≡ Some s = sym (cond-false (x.id == p) (Some x) (found replicas p) ne) ∙ there in
      let above = found_within replicas (suc x.id) p s ascends.2 later in
      let behind = ap (λ z. pending z k) (with_standing-later x replicas (with_unordered s rest) (omega (arith, above))) in
      let less = pending-taken replicas (suc x.id) p k m s rest ascends.2 later waits in
      omega (arith, behind, less))
      (cases_Bool (x.id == p))

  -- there is still room for all, where the oldest message of a replica has got a place
  pub RoomForAll-taken : (logs after : List (LogView M)) (replicas : List (Standing M)) (p : ℕ) (m : M) (s : Standing M) (rest : List M) → IsRoster replicas →
      found replicas p ≡ Some s → s.unordered ≡ m ∷ rest →
      ((k n : ℕ) → RoomFor logs k ((if conf_of replicas p == k then 1 else 0) + n) → RoomFor after k n) →
      RoomForAll logs replicas → RoomForAll after (with_standing replicas (with_unordered s rest))
  RoomForAll-taken logs after replicas p m s rest roster there waits spent all = λ k.
      let left = pending (with_standing replicas (with_unordered s rest)) k in
      let conf : conf_of replicas p ≡ regular_in s.phase = ap (λ o. regular_in (option_map_or (λ (s : Standing M). s.phase) o Down)) there in
      let less = ap (λ i. (if i == k then 1 else 0) + left) conf ∙ pending-taken replicas 1 p k m s rest roster.ascends there waits in
      spent k left (subst (λ n. RoomFor logs k n) (sym less) (all k))

  -- there is room for those that wait for a place of a configuration, or as many of them wait with the replicas that are left
  abbrev pub HasRoom : List (LogView M) → List (Standing M) → List (Standing M) → ℕ → Type 0
  HasRoom logs replicas left k = RoomFor logs k (pending replicas k) ⊎ (pending left k ≡ pending replicas k)

  -- the configuration of one more replica has room
  pub HasRoom-next : (logs after : List (LogView M)) (replicas left : List (Standing M)) (s : Standing M) → ((k n : ℕ) → RoomFor logs k n → RoomFor after k n) →
      RoomFor after (regular_in s.phase) (pending replicas (regular_in s.phase)) →
      ((k : ℕ) → HasRoom logs replicas (s ∷ left) k) → (k : ℕ) → HasRoom after replicas left k
  HasRoom-next logs after replicas left s kept room has k = ⊎_elim
      (λ y. inl (subst (λ i. RoomFor after i (pending replicas i)) (eqb-true (regular_in s.phase) k y) room))
      (λ ne. ⊎_elim
      (λ there. inl (kept k (pending replicas k) there))
      (λ same. let none = cond-false (regular_in s.phase == k) (length s.unordered) 0 ne in inr (omega (arith, none, same)))
      (has k))
      (cases_Bool (regular_in s.phase == k))

-- The replicas that are up, after one of them has changed, has come up or has gone down.
use Rattle.std.proofs.Common.{◌≡◌, ℕ, zero, suc, ◌<◌, ◌≤◌, cond, not, List, [], ◌∷◌, length, Option, Some, None, refl, sym, ap, subst, ◌∙◌, arith, eqb-true, map, filter, fold, position, ◌++◌, ◌+◌, MatchOption, one-add, append_assoc, Result, Ok, Err, OnOk, get_or, if◌then◌else◌, inl, inr, ⊎_elim, nat_lt}
use Rattle.std.specs.Prelude.{◌==◌}
use Rattle.std.proofs.Math.ListN.{set}
use Rattle.std.proofs.lemmas.List.{set-get_or, append-nil}
use Rattle.std.specs.List.{insert, remove, prefix_len, position_or_len, slice_get}
use Rattle.std.proofs.Math.Seq.{map-set_same}
use Rattle.std.specs.Option.{option_map_or}
use Rattle.std.proofs.lemmas.List.Quantifiers.{position-Some}
use Rattle.std.proofs.lemmas.List.Folds.{find_at}
use Rattle.std.proofs.lemmas.List.Sums.{position_or_len_is}
use Rattle.std.proofs.lemmas.Option.{slice_get-get_or, slice_get_past}
use Rattle.std.proofs.lemmas.Bool.{cases_Bool, cases_order, cases_lt, cond-true, cond-false, eq-eqb, ne_eqb, lt-ltb, le-ltb}
use Rattle.cg_base.specs.Sets.{Ascends, IsId, with_member, without_member}
use Rattle.cg_base.specs.SetLaws.{Ascends-with_member, Ascends-filter, filter-keeps, filter-drops, with_member-same, with_member-front, with_member-later}
use Rattle.cg_base.specs.AscendingLaws.{AllBelow, AllBelow-more, AllBelow-next, with_member-last}
use Rattle.cg_group.specs.State.{Standing, with_standing}
use Rattle.cg_group.specs.Rosters.{ids_of, IsRoster, found, changing, waits_of, is_sender, senders_of}

-- what follows where a call is done
pub ok_then : {T E : Type 0} {P Q : Type 0} (r : Result T E) → (P → Q) → OnOk r P → OnOk r Q
ok_then (Ok x) f p = f p
ok_then (Err e) f p = tt

module _ {M : Type 0} where
  -- where a replica was found, it stands
  pub found_there : (replicas : List (Standing M)) (p i : ℕ) (d : Standing M) → position (λ s. s.id == p) replicas ≡ Some i →
      (i < length replicas) × ((get_or replicas i d).id ≡ p) × (found replicas p ≡ Some (get_or replicas i d))
  found_there replicas p i d e =
      let w = position-Some (λ (s : Standing M). s.id == p) replicas i d e in
      let place : position_or_len (λ s. s.id == p) replicas ≡ i =
      position_or_len_is (λ (s : Standing M). s.id == p) replicas i d (omega (arith, w.0)) w.2 (λ lt. w.1) in
      (w.0, eqb-true (get_or replicas i d).id p w.1, find_at (λ (s : Standing M). s.id == p) replicas ∙ ap (slice_get replicas) place ∙ slice_get-get_or replicas i d w.0)

  pub found_nowhere : (replicas : List (Standing M)) (p : ℕ) → position (λ s. s.id == p) replicas ≡ None → found replicas p ≡ None
  found_nowhere replicas p e =
      find_at (λ (s : Standing M). s.id == p) replicas ∙ slice_get_past replicas (position_or_len (λ s. s.id == p) replicas)
      (le_from_test (position_or_len (λ s. s.id == p) replicas) (length replicas) e)
    where
      le_from_test : (k n : ℕ) → cond (nat_lt k n) (Some k) None ≡ None → n ≤ k
      le_from_test k n e = ⊎_elim
          (λ (lt : k < n). absurd (let clash : Some k ≡ None = sym (cond-true (nat_lt k n) (Some k) None (lt-ltb k n lt)) ∙ e in cc)) (λ le. le) (cases_lt k n)

  pub with_standing-same : (s : Standing M) (replicas : List (Standing M)) (new : Standing M) → s.id ≡ new.id → with_standing (s ∷ replicas) new ≡ new ∷ replicas
  with_standing-same s replicas new same = rw (eq-eqb s.id new.id same)

  pub with_standing-front : (s : Standing M) (replicas : List (Standing M)) (new : Standing M) → new.id < s.id → with_standing (s ∷ replicas) new ≡ new ∷ s ∷ replicas
  with_standing-front s replicas new lt = rw (ne_eqb s.id new.id (λ e. omega arith), lt-ltb new.id s.id lt)

  pub with_standing-later : (s : Standing M) (replicas : List (Standing M)) (new : Standing M) → s.id < new.id → with_standing (s ∷ replicas) new ≡ s ∷ with_standing replicas new
  with_standing-later s replicas new lt = rw (ne_eqb s.id new.id (λ e. omega arith), le-ltb new.id s.id (omega arith))

  -- the identifiers of the changed list
  pub ids_of-with_standing : (replicas : List (Standing M)) (new : Standing M) → ids_of (with_standing replicas new) ≡ with_member (ids_of replicas) new.id
  ids_of-with_standing [] new = refl
  ids_of-with_standing (s ∷ replicas) new = elim (cases_order new.id s.id) [
    | inl same ↦ ap ids_of (with_standing-same s replicas new (sym same)) ∙ ap (λ z. z ∷ ids_of replicas) same ∙ sym (with_member-same s.id (ids_of replicas) new.id same)
    | inr other ↦ elim other [
      | inl front ↦ ap ids_of (with_standing-front s replicas new front) ∙ sym (with_member-front s.id (ids_of replicas) new.id front)
      | inr later ↦ ap ids_of (with_standing-later s replicas new later) ∙ ap (λ z. s.id ∷ z) (ids_of-with_standing replicas new)
          ∙ sym (with_member-later s.id (ids_of replicas) new.id later)
    ]
  ]

  -- what stands in an ascending list is not below its beginning
  pub id_within : (replicas : List (Standing M)) (low i : ℕ) (d : Standing M) → Ascends low (ids_of replicas) → i < length replicas → low ≤ (get_or replicas i d).id
  id_within [] low i d ascends lt = absurd (omega arith)
  id_within (s ∷ replicas) low zero d ascends lt = ascends.0
  id_within (s ∷ replicas) low (suc i) d ascends lt =
      let above : low ≤ s.id = ascends.0 in
      let later : suc s.id ≤ (get_or replicas i d).id = id_within replicas (suc s.id) i d ascends.2 (omega arith) in omega arith

  -- a written element is the replica as given, where the identifiers ascend
  pub set-with_standing : (replicas : List (Standing M)) (low i : ℕ) (new d : Standing M) → Ascends low (ids_of replicas) → i < length replicas →
      (get_or replicas i d).id ≡ new.id → set replicas i new ≡ with_standing replicas new
  set-with_standing [] low i new d ascends lt e = absurd (omega arith)
  set-with_standing (s ∷ replicas) low zero new d ascends lt e = sym (with_standing-same s replicas new e)
  set-with_standing (s ∷ replicas) low (suc i) new d ascends lt e =
      let within : i < length replicas = omega arith in
      let later : suc s.id ≤ (get_or replicas i d).id = id_within replicas (suc s.id) i d ascends.2 within in
      ap (λ z. s ∷ z) (set-with_standing replicas (suc s.id) i new d ascends.2 within e) ∙ sym (with_standing-later s replicas new (omega arith))

  -- one more replica, or one that was there
  pub IsRoster-with_standing : (replicas : List (Standing M)) (new : Standing M) → IsId new.id → IsRoster replicas → IsRoster (with_standing replicas new)
  IsRoster-with_standing replicas new is_id roster = record {
    ascends = subst (Ascends 1) (sym (ids_of-with_standing replicas new)) (Ascends-with_member (ids_of replicas) 1 new.id is_id.0 is_id.1 roster.ascends);
  }

  -- a replica that stands at a place is written again
  pub IsRoster-set : (replicas : List (Standing M)) (i : ℕ) (new d : Standing M) → IsRoster replicas → new.id ≡ (get_or replicas i d).id → IsRoster (set replicas i new)
  IsRoster-set replicas i new d roster e = record { ascends = subst (Ascends 1) (sym (map-set_same (λ s. s.id) replicas i new d e)) roster.ascends }

  pub ids_of-filter : (replicas : List (Standing M)) (p : ℕ) → ids_of (filter (λ s. not (s.id == p)) replicas) ≡ without_member (ids_of replicas) p
  ids_of-filter [] p = refl
  ids_of-filter (s ∷ replicas) p = elim (cases_Bool (not (s.id == p))) [
    | inl stays ↦ ap ids_of (filter-keeps (λ (s : Standing M). not (s.id == p)) s replicas stays) ∙ ap (λ z. s.id ∷ z) (ids_of-filter replicas p)
        ∙ sym (filter-keeps (λ q. not (q == p)) s.id (ids_of replicas) stays)
    | inr goes ↦ ap ids_of (filter-drops (λ (s : Standing M). not (s.id == p)) s replicas goes) ∙ ids_of-filter replicas p
        ∙ sym (filter-drops (λ q. not (q == p)) s.id (ids_of replicas) goes)
  ]

  pub IsRoster-filter : (replicas : List (Standing M)) (p : ℕ) → IsRoster replicas → IsRoster (filter (λ s. not (s.id == p)) replicas)
  IsRoster-filter replicas p roster = record {
    ascends = subst (Ascends 1) (sym (ids_of-filter replicas p)) (Ascends-filter (λ q. not (q == p)) (ids_of replicas) 1 roster.ascends);
  }

  -- the found replica is written again, changed
  pub changed_there : (change : Standing M → Standing M) (replicas : List (Standing M)) (p i : ℕ) (d new : Standing M) →
      position (λ s. s.id == p) replicas ≡ Some i → IsRoster replicas → new ≡ change (get_or replicas i d) → new.id ≡ (get_or replicas i d).id →
      set replicas i new ≡ changing change replicas p
  changed_there change replicas p i d new at roster e same =
      let w = found_there replicas p i d at in
      set-with_standing replicas 1 i new d roster.ascends w.0 (sym same)
      ∙ ap (with_standing replicas) e ∙ ap (λ o. option_map_or (λ s. with_standing replicas (change s)) o replicas) (sym w.2)

  pub changed_nowhere : (change : Standing M → Standing M) (replicas : List (Standing M)) (p : ℕ) →
      position (λ s. s.id == p) replicas ≡ None → replicas ≡ changing change replicas p
  changed_nowhere change replicas p away =
      ap (λ o. option_map_or (λ s. with_standing replicas (change s)) o replicas) (sym (found_nowhere replicas p away))

  -- a replica that wasn't up stands behind all those below it
  pub insert-with_standing : (replicas : List (Standing M)) (new : Standing M) → found replicas new.id ≡ None →
      insert replicas (prefix_len (λ s. nat_lt s.id new.id) replicas) new ≡ with_standing replicas new
  insert-with_standing [] new away = refl
  insert-with_standing (s ∷ replicas) new away = elim (cases_order new.id s.id) [
    | inl same ↦ absurd (let clash : Some s ≡ None = sym (cond-true (s.id == new.id) (Some s) (found replicas new.id) (eq-eqb s.id new.id (sym same))) ∙ away in cc)
    | inr other ↦ elim other [
      | inl front ↦ ap (λ n. insert (s ∷ replicas) n new) (cond-false (nat_lt s.id new.id) (1 + prefix_len (λ s. nat_lt s.id new.id) replicas) 0 (le-ltb s.id new.id (omega arith)))
          ∙ sym (with_standing-front s replicas new front)
      | inr later ↦
          let rest : found replicas new.id ≡ None = sym (cond-false (s.id == new.id) (Some s) (found replicas new.id) (ne_eqb s.id new.id (λ e. omega arith))) ∙ away in
          ap (λ n. insert (s ∷ replicas) n new) (cond-true (nat_lt s.id new.id) (1 + prefix_len (λ s. nat_lt s.id new.id) replicas) 0 (lt-ltb s.id new.id later) ∙ one-add (prefix_len (λ s. nat_lt s.id new.id) replicas))
          ∙ ap (λ z. s ∷ z) (insert-with_standing replicas new rest) ∙ sym (with_standing-later s replicas new later)
    ]
  ]

  -- nobody goes down where the identifier stands nowhere
  pub filter-away : (replicas : List (Standing M)) (low p : ℕ) → Ascends low (ids_of replicas) → p < low → filter (λ s. not (s.id == p)) replicas ≡ replicas
  filter-away [] low p ascends lt = refl
  filter-away (s ∷ replicas) low p ascends lt =
      let above : low ≤ s.id = ascends.0 in
      filter-keeps (λ (s : Standing M). not (s.id == p)) s replicas (ap not (ne_eqb s.id p (λ e. omega arith)))
      ∙ ap (λ z. s ∷ z) (filter-away replicas (suc s.id) p ascends.2 (omega arith))

  pub remove-filter : (replicas : List (Standing M)) (low p i : ℕ) (d : Standing M) → Ascends low (ids_of replicas) → i < length replicas → (get_or replicas i d).id ≡ p →
      remove replicas i ≡ filter (λ s. not (s.id == p)) replicas
  remove-filter [] low p i d ascends lt e = absurd (omega arith)
  remove-filter (s ∷ replicas) low p zero d ascends lt e =
      sym (filter-drops (λ (s : Standing M). not (s.id == p)) s replicas (ap not (eq-eqb s.id p e)) ∙ filter-away replicas (suc s.id) p ascends.2 (omega arith))
  remove-filter (s ∷ replicas) low p (suc i) d ascends lt e =
      let within : i < length replicas = omega arith in
      let later : suc s.id ≤ (get_or replicas i d).id = id_within replicas (suc s.id) i d ascends.2 within in
      ap (λ z. s ∷ z) (remove-filter replicas (suc s.id) p i d ascends.2 within e)
      ∙ sym (filter-keeps (λ (s : Standing M). not (s.id == p)) s replicas (ap not (ne_eqb s.id p (λ q. omega arith))))

  pub filter-nowhere : (replicas : List (Standing M)) (p : ℕ) → found replicas p ≡ None → filter (λ s. not (s.id == p)) replicas ≡ replicas
  filter-nowhere [] p away = refl
  filter-nowhere (s ∷ replicas) p away = elim (cases_Bool (s.id == p)) [
    | inl here ↦ absurd (let clash : Some s ≡ None = sym (cond-true (s.id == p) (Some s) (found replicas p) here) ∙ away in cc)
    | inr apart ↦ filter-keeps (λ (s : Standing M). not (s.id == p)) s replicas (ap not apart)
        ∙ ap (λ z. s ∷ z) (filter-nowhere replicas p (sym (cond-false (s.id == p) (Some s) (found replicas p) apart) ∙ away))
  ]

  -- the oldest message of the found replica was taken, or it has none
  pub taken_there : (result : Option M) (replicas : List (Standing M)) (p i : ℕ) (d new : Standing M) →
      position (λ s. s.id == p) replicas ≡ Some i → IsRoster replicas → new.id ≡ (get_or replicas i d).id →
      MatchOption result (((get_or replicas i d).unordered ≡ []) × (new ≡ get_or replicas i d))
      (λ m. ((get_or replicas i d).unordered ≡ m ∷ new.unordered) × (new ≡ record (get_or replicas i d) { unordered = new.unordered })) →
      MatchOption result ((set replicas i new ≡ replicas) × (waits_of replicas p ≡ []))
      (λ m. (s : Standing M) × (rest : List M) × (found replicas p ≡ Some s) × (s.unordered ≡ m ∷ rest) × (set replicas i new ≡ with_standing replicas (record s { unordered = rest })))
  taken_there None replicas p i d new at roster same h =
      (ap (set replicas i) h.1 ∙ set-get_or replicas i d, ap (λ o. option_map_or (λ (s : Standing M). s.unordered) o []) (found_there replicas p i d at).2 ∙ h.0)
  taken_there (Some m) replicas p i d new at roster same h =
      let w = found_there replicas p i d at in
      (get_or replicas i d, new.unordered, w.2, h.0, set-with_standing replicas 1 i new d roster.ascends w.0 (sym same) ∙ ap (with_standing replicas) h.1)

module _ {M : Type 0} where
  -- the set, with a regular replica whose messages wait for a place
  abbrev pub with_sender : List ℕ → Standing M → List ℕ
  with_sender set s = if is_sender s then with_member set s.id else set

  senders_from : (replicas : List (Standing M)) (set : List ℕ) (low : ℕ) → AllBelow low set → Ascends low (ids_of replicas) →
      fold with_sender set replicas ≡ set ++ senders_of replicas
  senders_from [] set low below ascends = sym (append-nil set)
  senders_from (s ∷ replicas) set low below ascends =
      let above : low ≤ s.id = ascends.0 in
      ⊎_elim
      (λ y. ap (λ z. fold with_sender z replicas) (cond-true (is_sender s) (with_member set s.id) set y ∙ with_member-last set s.id (AllBelow-more set low s.id above below))
      ∙ senders_from replicas (set ++ s.id ∷ []) (suc s.id) (AllBelow-next set s.id (AllBelow-more set low s.id above below)) ascends.2
      ∙ append_assoc set (s.id ∷ []) (senders_of replicas)
      ∙ ap (λ z. set ++ map (λ s. s.id) z) (sym (filter-keeps is_sender s replicas y)))
      (λ n. ap (λ z. fold with_sender z replicas) (cond-false (is_sender s) (with_member set s.id) set n)
      ∙ senders_from replicas set (suc s.id) (AllBelow-more set low (suc s.id) (omega (arith, above)) below) ascends.2
      ∙ ap (λ z. set ++ map (λ s. s.id) z) (sym (filter-drops is_sender s replicas n)))
      (cases_Bool (is_sender s))

  pub senders-all : (replicas : List (Standing M)) → IsRoster replicas → fold with_sender [] replicas ≡ senders_of replicas
  senders-all replicas roster = senders_from replicas [] 1 tt roster.ascends

  -- each replica of the list is found
  pub found_at : (replicas : List (Standing M)) (low i : ℕ) (d : Standing M) → Ascends low (ids_of replicas) → i < length replicas →
      found replicas (get_or replicas i d).id ≡ Some (get_or replicas i d)
  found_at [] low i d ascends lt = absurd (omega arith)
  found_at (s ∷ replicas) low zero d ascends lt = cond-true (s.id == s.id) (Some s) (found replicas s.id) (eq-eqb s.id s.id refl)
  found_at (s ∷ replicas) low (suc i) d ascends lt =
      let within : i < length replicas = omega arith in
      let x = get_or replicas i d in
      let later : suc s.id ≤ x.id = id_within replicas (suc s.id) i d ascends.2 within in
      cond-false (s.id == x.id) (Some s) (found replicas x.id) (ne_eqb s.id x.id (λ e. omega arith)) ∙ found_at replicas (suc s.id) i d ascends.2 within

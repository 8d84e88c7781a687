-- What a group shows behind one replica's turn: it was handed so many places, and what it said waits.
use Rattle.std.proofs.Common.{◌≡◌, ℕ, true, false, cond, not, List, [], ◌∷◌, ◌++◌, Option, Some, None, refl, sym, ap, ap₂, ◌∙◌, ⊎_elim, eqb-true, eq-eqb, append-nil}
use Rattle.std.specs.Prelude.{◌==◌}
use Rattle.std.specs.Option.{option_map_or}
use Rattle.std.proofs.lemmas.Bool.{cases_Bool, cond-true, cond-false, cond_both}
use Rattle.std.proofs.lemmas.List.{append_assoc}
use Rattle.cg_base.specs.FindLaws.{found_passes}
use Rattle.cg_group.specs.declared.phase.Phase.TheVariants.{Down}
use Rattle.cg_group.specs.State.{Standing, GroupState, standing_of, phase_of, unordered_of, regular_in, is_regular, set_standing, configuration, delivered_to}
use Rattle.cg_group.specs.Events.{send_from, send, send_all, with_delivered}
use Rattle.cg_group.specs.LookupLaws.{phase_of-set, unordered_of-set, delivered_to-set, configuration-set_standing}

-- a value that a function has at one place
pub put-same : {X : Type 0} (f : ℕ → X) (p : ℕ) (x : X) → f p ≡ x → (q : ℕ) → cond (q == p) x (f q) ≡ f q
put-same f p x e q = ⊎_elim (λ y. cond-true (q == p) x (f q) y ∙ sym e ∙ ap f (sym (eqb-true q p y))) (λ n. cond-false (q == p) x (f q) n) (cases_Bool (q == p))

module _ {M : Type 0} where
  pub record Moved (g h : GroupState M) (p n : ℕ) (sent : List M) : Type 0 where
    pub conf : (k : ℕ) → configuration h k ≡ configuration g k
    pub phase : (q : ℕ) → phase_of h q ≡ phase_of g q
    pub delivered : (q : ℕ) → delivered_to h q ≡ cond (q == p) n (delivered_to g q)
    pub waits : (q : ℕ) → unordered_of h q ≡ cond (q == p) (unordered_of g p ++ sent) (unordered_of g q)

  -- a replica stands under its own identifier
  pub standing-id : (g : GroupState M) (p : ℕ) (s : Standing M) → standing_of g p ≡ Some s → s.id ≡ p
  unfolding standing_of
  standing-id g p s e = eqb-true s.id p (found_passes (λ (s : Standing M). s.id == p) g.replicas s e)

  -- one replica stands so
  moved-set : (g : GroupState M) (p : ℕ) (s new : Standing M) → standing_of g p ≡ Some s → new.id ≡ p → new.phase ≡ s.phase → (sent : List M) →
      new.unordered ≡ s.unordered ++ sent → Moved g (set_standing g new) p new.delivered sent
  moved-set g p s new e id phase sent waits = record {
    conf = λ k. configuration-set_standing g new k;
    phase = λ q. phase_of-set g new q ∙ ap₂ (λ i x. cond (q == i) x (phase_of g q)) id phase
        ∙ put-same (phase_of g) p s.phase (ap (λ (o : Option (Standing M)). option_map_or (λ s. s.phase) o Down) e) q;
    delivered = λ q. delivered_to-set g new q ∙ ap (λ i. cond (q == i) new.delivered (delivered_to g q)) id;
    waits = λ q. unordered_of-set g new q ∙ ap₂ (λ i x. cond (q == i) x (unordered_of g q)) id
        (waits ∙ ap (λ xs. xs ++ sent) (sym (ap (λ (o : Option (Standing M)). option_map_or (λ s. s.unordered) o []) e)));
  }

  pub moved-handed : (g : GroupState M) (p n : ℕ) → is_regular g p ≡ true → Moved g (with_delivered g p n) p n []
  moved-handed g p n regular = at (standing_of g p) refl where
    at : (o : Option (Standing M)) → standing_of g p ≡ o → Moved g (option_map_or (λ s. set_standing g (record s { delivered = n })) o g) p n []
    at None e = absurd (let clash : false ≡ true = sym (ap (λ (o : Option (Standing M)). not (regular_in (option_map_or (λ s. s.phase) o Down) == 0)) e) ∙ regular in cc)
    at (Some s) e = moved-set g p s (record s { delivered = n }) e (standing-id g p s e) refl [] (sym (append-nil s.unordered))

  moved-send : (g : GroupState M) (p : ℕ) (m : M) → is_regular g p ≡ true → Moved g (send g p m) p (delivered_to g p) (m ∷ [])
  unfolding send send_from
  moved-send g p m regular = at (standing_of g p) refl where
    at : (o : Option (Standing M)) → standing_of g p ≡ o → Moved g (send_from g o m) p (delivered_to g p) (m ∷ [])
    at None e = absurd (let clash : false ≡ true = sym (ap (λ (o : Option (Standing M)). not (regular_in (option_map_or (λ s. s.phase) o Down) == 0)) e) ∙ regular in cc)
    at (Some s) e =
        let is : not (regular_in s.phase == 0) ≡ true = sym (ap (λ (o : Option (Standing M)). not (regular_in (option_map_or (λ s. s.phase) o Down) == 0)) e) ∙ regular in
        let new : Standing M = record s { unordered = s.unordered ++ m ∷ [] } in
        let count : delivered_to g p ≡ s.delivered = ap (λ (o : Option (Standing M)). option_map_or (λ s. s.delivered) o 0) e in
        rw count (cond_both (regular_in s.phase == 0) g (set_standing g new) (λ h. Moved g h p s.delivered (m ∷ []))
        (λ y. absurd (let clash : not true ≡ true = ap not (sym y) ∙ is in cc))
        (λ n. moved-set g p s new e (standing-id g p s e) refl (m ∷ []) refl))

  moved-then : (f g h : GroupState M) (p n k : ℕ) (xs ys : List M) → Moved f g p n xs → Moved g h p k ys → Moved f h p k (xs ++ ys)
  moved-then f g h p n k xs ys a b = record {
    conf = λ q. b.conf q ∙ a.conf q;
    phase = λ q. b.phase q ∙ a.phase q;
    delivered = λ q. b.delivered q ∙ ⊎_elim (λ y. cond-true (q == p) k (delivered_to g q) y ∙ sym (cond-true (q == p) k (delivered_to f q) y))
        (λ o. cond-false (q == p) k (delivered_to g q) o ∙ a.delivered q ∙ cond-false (q == p) n (delivered_to f q) o ∙ sym (cond-false (q == p) k (delivered_to f q) o)) (cases_Bool (q == p));
    waits = λ q. b.waits q ∙ ⊎_elim
        (λ y. cond-true (q == p) (unordered_of g p ++ ys) (unordered_of g q) y
        ∙ ap (λ zs. zs ++ ys) (a.waits p ∙ cond-true (p == p) (unordered_of f p ++ xs) (unordered_of f p) (eq-eqb p p refl))
        ∙ append_assoc (unordered_of f p) xs ys ∙ sym (cond-true (q == p) (unordered_of f p ++ (xs ++ ys)) (unordered_of f q) y))
        (λ o. cond-false (q == p) (unordered_of g p ++ ys) (unordered_of g q) o ∙ a.waits q ∙ cond-false (q == p) (unordered_of f p ++ xs) (unordered_of f q) o
        ∙ sym (cond-false (q == p) (unordered_of f p ++ (xs ++ ys)) (unordered_of f q) o)) (cases_Bool (q == p));
  }

  pub regular-moved : (g h : GroupState M) (p n : ℕ) (xs : List M) → Moved g h p n xs → is_regular g p ≡ true → is_regular h p ≡ true
  regular-moved g h p n xs m regular = ap (λ z. not (regular_in z == 0)) (m.phase p) ∙ regular

  -- it says more
  pub moved-sent : (list : List M) (g h : GroupState M) (p n : ℕ) (xs : List M) → Moved g h p n xs → is_regular h p ≡ true → Moved g (send_all h p list) p n (xs ++ list)
  moved-sent [] g h p n xs m regular = rw (append-nil xs) m
  moved-sent (y ∷ list) g h p n xs m regular =
      let one = moved-send h p y regular in
      let count : delivered_to h p ≡ n = m.delivered p ∙ cond-true (p == p) n (delivered_to g p) (eq-eqb p p refl) in
      let both = moved-then g h (send h p y) p n (delivered_to h p) xs (y ∷ []) m one in
      rw (sym (append_assoc xs (y ∷ []) list)) (moved-sent list g (send h p y) p n (xs ++ y ∷ []) (rw count at both)
      (regular-moved h (send h p y) p (delivered_to h p) (y ∷ []) one regular))

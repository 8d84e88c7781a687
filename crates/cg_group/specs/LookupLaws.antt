-- What a group shows after a change of one replica, of one configuration, or of a set of replicas.
use Rattle.std.proofs.Common.{◌≡◌, ℕ, zero, suc, pred, ◌<◌, ◌≤◌, Bool, true, false, cond, not, List, [], ◌∷◌, length, Option, Some, None, refl, sym, ap, subst, ◌∙◌, arith, eqb-true, eq-eqb, ⊎_elim, filter, find, option_map, if◌then◌else◌, nat_lt}
use Rattle.std.proofs.lemmas.Option.{same_Some}
use Rattle.std.specs.Prelude.{◌==◌}
use Rattle.std.specs.Option.{option_map_or}
use Rattle.std.proofs.lemmas.Bool.{cond_both, cases_Bool, cases_eq, cond-true, cond-false, ne_eqb, eqb-false}
use Rattle.cg_base.specs.Lists.{at_place}
use Rattle.cg_base.specs.ChoiceLaws.{chosen}
use Rattle.cg_group.specs.declared.phase.Phase.TheVariants.{Down}
use Rattle.cg_group.specs.State.{Configuration, Standing, GroupState, no_configuration, standing_of, configuration, phase_of, delivered_to, unordered_of, set_standing, set_configuration, with_standing, changed_at}
use Rattle.cg_group.specs.Events.{go_down}
use Rattle.cg_group.specs.PlaceLaws.{at_place-within}

-- a function of a choice is a choice of its values
pub at-cond : {X Y : Type 0} (f : X → Y) (b : Bool) (x y : X) → f (cond b x y) ≡ cond b (f x) (f y)
at-cond f true x y = refl
at-cond f false x y = refl

pub eqb_comm : (a b : ℕ) → (a == b) ≡ (b == a)
eqb_comm a b = ⊎_elim (λ e. eq-eqb a b e ∙ sym (eq-eqb b a (sym e))) (λ n. ne_eqb a b n
    ∙ sym (ne_eqb b a (λ e. n (sym e)))) (cases_eq a b)

-- a choice of one thing
pub same_both : {X : Type 0} (b : Bool) (x : X) → cond b x x ≡ x
same_both true x = refl
same_both false x = refl

-- the place one further down
shifted : (c k : ℕ) → (c ≡ 1 → ⊥) → (suc k == pred c) ≡ (suc (suc k) == c)
shifted c k ne = ⊎_elim
    (λ e. eq-eqb (suc k) (pred c) e ∙ sym (eq-eqb (suc (suc k)) c (omega arith)))
    (λ n. ne_eqb (suc k) (pred c) n ∙ sym (ne_eqb (suc (suc k)) c (λ e. n (omega arith)))) (cases_eq (suc k) (pred c))

module _ {X : Type 0} where
  -- a function with one value as given
  abbrev pub put : (ℕ → X) → ℕ → X → ℕ → X
  put f k v q = if q == k then v else f q

  -- a value that a function has at one place already changes nothing there
  pub put-own : (f : ℕ → X) (k : ℕ) (v : X) → f k ≡ v → (q : ℕ) → put f k v q ≡ f q
  put-own f k v e q = ⊎_elim
      (λ y. cond-true (q == k) v (f q) y ∙ sym e
      ∙ ap f (sym (eqb-true q k y))) (λ n. cond-false (q == k) v (f q) n) (cases_Bool (q == k))

  pub put-other : (f : ℕ → X) (k : ℕ) (v : X) (q : ℕ) → (q ≡ k → ⊥) → put f k v q ≡ f q
  put-other f k v q ne = cond-false (q == k) v (f q) (ne_eqb q k ne)

  pub put-same : (f : ℕ → X) (k : ℕ) (v : X) → put f k v k ≡ v
  put-same f k v = cond-true (k == k) v (f k) (eq-eqb k k refl)

  -- an element that has changed, and every other one as before
  pub at_place-changed : (f : X → X) (list : List X) (c k : ℕ) →
      at_place (changed_at f list c) k ≡ (if k == c then option_map f (at_place list k) else at_place list k)
  at_place-changed f list c zero = sym (same_both (0 == c) None)
  at_place-changed f [] c (suc k) = sym (same_both (suc k == c) None)
  at_place-changed f (x ∷ list) c (suc zero) = ⊎_elim
      (λ y. ap (λ z. at_place z 1) (cond-true (c == 1) (f x ∷ list) (x ∷ changed_at f list (pred c)) y)
      ∙ sym (cond-true (1 == c) (Some (f x)) (Some x) (eqb_comm 1 c ∙ y)))
      (λ n. ap (λ z. at_place z 1) (cond-false (c == 1) (f x ∷ list) (x ∷ changed_at f list (pred c)) n)
      ∙ sym (cond-false (1 == c) (Some (f x)) (Some x) (eqb_comm 1 c ∙ n)))
      (cases_Bool (c == 1))
  at_place-changed f (x ∷ list) c (suc (suc k)) = ⊎_elim
      (λ y. ap (λ z. at_place z (suc (suc k))) (cond-true (c == 1) (f x ∷ list) (x ∷ changed_at f list (pred c)) y)
      ∙ sym (cond-false (suc (suc k) == c) (option_map f (at_place list (suc k))) (at_place list (suc k))
      (ne_eqb (suc (suc k)) c (λ e. let one = eqb-true c 1 y in omega arith))))
      (λ n. ap (λ z. at_place z (suc (suc k))) (cond-false (c == 1) (f x ∷ list) (x ∷ changed_at f list (pred c)) n)
      ∙ at_place-changed f list (pred c) (suc k)
      ∙ ap (λ b. cond b (option_map f (at_place list (suc k))) (at_place list (suc k)))
      (shifted c k (eqb-false c 1 n)))
      (cases_Bool (c == 1))

  pub length-changed_at : (f : X → X) (list : List X) (c : ℕ) → length (changed_at f list c) ≡ length list
  length-changed_at f [] c = refl
  length-changed_at f (x ∷ list) c =
      cond_both (c == 1) (f x ∷ list) (x ∷ changed_at f list (pred c)) (λ z. length z ≡
      suc (length list)) (λ y. refl) (λ n. ap suc (length-changed_at f list (pred c)))

  pub changed_at-zero : (f : X → X) (list : List X) → changed_at f list 0 ≡ list
  changed_at-zero f [] = refl
  changed_at-zero f (x ∷ list) = ap (λ z. x ∷ z) (changed_at-zero f list)

-- the choices behind a removed replica
dropped : {X : Type 0} (a x z : Bool) (old none rest without : X) → (a ≡ true → x ≡ true → z ≡ true) →
    (a ≡ false → z ≡ true → x ≡ false) →
    without ≡ cond z none rest → cond (not a) (cond x old without) without ≡ cond z none (cond x old rest)
dropped true x true old none rest without s o e = e
dropped true true false old none rest without s o e = absurd (let clash : false ≡ true = s refl refl in cc)
dropped true false false old none rest without s o e = e
dropped false true true old none rest without s o e = absurd (let clash : true ≡ false = o refl refl in cc)
dropped false true false old none rest without s o e = refl
dropped false false z old none rest without s o e = e

module _ {M : Type 0} where
  abbrev found : List (Standing M) → ℕ → Option (Standing M)
  found replicas q = find (λ s. s.id == q) replicas

  found-with : (replicas : List (Standing M)) (new : Standing M) (q : ℕ) →
      found (with_standing replicas new) q ≡ (if new.id == q then Some new else found replicas q)
  found-with [] new q = refl
  found-with (s ∷ replicas) new q =
      at-cond (λ z. found z q) (s.id == new.id) (new ∷ replicas) (if nat_lt new.id s.id then new ∷ s ∷ replicas
      else s ∷ with_standing replicas new)
      ∙ ap (cond (s.id == new.id) (found (new ∷ replicas) q))
      (at-cond (λ z. found z q) (nat_lt new.id s.id) (new ∷ s ∷ replicas) (s ∷ with_standing replicas new))
      ∙ chosen (s.id == new.id) (nat_lt new.id s.id) (s.id == q) (new.id
      == q) (Some new) (Some s) (found replicas q) (found (with_standing replicas new) q)
      (λ same. ap (λ z. z == q) (eqb-true s.id new.id same))
      (λ other here. ne_eqb new.id q (λ e. eqb-false s.id new.id other (eqb-true s.id q here ∙ sym e)))
      (found-with replicas new q)

  -- one replica is as given, and every other one as before
  pub standing_of-set : (g : GroupState M) (s : Standing M) (q : ℕ) →
      standing_of (set_standing g s) q ≡ put (standing_of g) s.id (Some s) q
  unfolding standing_of set_standing
  standing_of-set g s q = found-with g.replicas s q ∙ ap (λ b. cond b (Some s) (found g.replicas q)) (eqb_comm s.id q)

  pub phase_of-set : (g : GroupState M) (s : Standing M) (q : ℕ) →
      phase_of (set_standing g s) q ≡ put (phase_of g) s.id s.phase q
  phase_of-set g s q = ap (λ o. option_map_or (λ (s : Standing M). s.phase) o Down) (standing_of-set g s q)
      ∙ at-cond (λ o. option_map_or (λ (s : Standing M). s.phase) o Down) (q == s.id) (Some s) (standing_of g q)

  pub delivered_to-set : (g : GroupState M) (s : Standing M) (q : ℕ) →
      delivered_to (set_standing g s) q ≡ put (delivered_to g) s.id s.delivered q
  delivered_to-set g s q = ap (λ o. option_map_or (λ (s : Standing M). s.delivered) o 0) (standing_of-set g s q)
      ∙ at-cond (λ o. option_map_or (λ (s : Standing M). s.delivered) o 0) (q == s.id) (Some s) (standing_of g q)

  pub unordered_of-set : (g : GroupState M) (s : Standing M) (q : ℕ) →
      unordered_of (set_standing g s) q ≡ put (unordered_of g) s.id s.unordered q
  unordered_of-set g s q = ap (λ o. option_map_or (λ (s : Standing M). s.unordered) o []) (standing_of-set g s q)
      ∙ at-cond (λ o. option_map_or (λ (s : Standing M). s.unordered) o []) (q == s.id) (Some s) (standing_of g q)

  pub configuration-set_standing : (g : GroupState M) (s : Standing M) (c : ℕ) →
      configuration (set_standing g s) c ≡ configuration g c
  unfolding configuration set_standing
  configuration-set_standing g s c = refl

  pub configurations-set_standing : (g : GroupState M) (s : Standing M) →
      (set_standing g s).configurations ≡ g.configurations
  unfolding set_standing
  configurations-set_standing g s = refl

  pub standing_of-set_configuration : (g : GroupState M) (c : ℕ) (C : Configuration M) (q : ℕ) →
      standing_of (set_configuration g c C) q ≡ standing_of g q
  unfolding standing_of set_configuration
  standing_of-set_configuration g c C q = refl

  pub configuration-set : (g : GroupState M) (c : ℕ) (C : Configuration M) → 0 < c →
      c ≤ length g.configurations → (k : ℕ) →
      configuration (set_configuration g c C) k ≡ put (configuration g) c C k
  unfolding configuration set_configuration
  configuration-set g c C pos le k =
      ap (λ o. option_map_or (λ (c : Configuration M). c) o no_configuration)
      (at_place-changed (λ old. C) g.configurations c k)
      ∙ ⊎_elim
      (λ y.
      let kc = eqb-true k c y in
      let w = at_place-within g.configurations
      k (subst (λ z. 0 < z) (sym kc) pos) (subst (λ z. z ≤ length g.configurations) (sym kc) le) in
      ap (λ (o : Option (Configuration M)). option_map_or (λ c. c) o no_configuration)
      (cond-true (k == c) (option_map (λ old. C) (at_place g.configurations k)) (at_place g.configurations k) y
      ∙ ap (option_map (λ old. C)) w.1)
      ∙ sym (cond-true (k == c) C (configuration g k) y))
      (λ n. ap (λ (o : Option (Configuration M)). option_map_or (λ c. c) o no_configuration)
      (cond-false (k == c) (option_map (λ old. C) (at_place g.configurations k)) (at_place g.configurations k) n)
      ∙ sym (cond-false (k == c) C (configuration g k) n))
      (cases_Bool (k == c))

  pub count-set_configuration : (g : GroupState M) (c : ℕ) (C : Configuration M) →
      length (set_configuration g c C).configurations ≡ length g.configurations
  unfolding set_configuration
  count-set_configuration g c C = length-changed_at (λ old. C) g.configurations c

  -- the configuration of no number isn't changed
  pub set_configuration-zero : (g : GroupState M) (C : Configuration M) → set_configuration g 0 C ≡ g
  unfolding set_configuration
  set_configuration-zero g C =
      ap (λ (z : List (Configuration M)). record g { configurations = z }) (changed_at-zero (λ old. C) g.configurations)

  -- a replica that went down isn't found
  found-without : (replicas : List (Standing M)) (p q : ℕ) →
      found (filter (λ s. not (s.id == p)) replicas) q ≡ put (found replicas) p None q
  found-without [] p q = sym (same_both (q == p) None)
  found-without (s ∷ replicas) p q =
      at-cond (λ z. found z q) (not (s.id == p)) (s ∷ filter (λ s. not (s.id == p)) replicas)
      (filter (λ s. not (s.id == p)) replicas)
      ∙ dropped (s.id == p) (s.id == q) (q == p) (Some s)
      None (found replicas q) (found (filter (λ s. not (s.id == p)) replicas) q)
      (λ same here. eq-eqb q p (sym (eqb-true s.id q here) ∙ eqb-true s.id p same))
      (λ other here. ne_eqb s.id q (λ e. eqb-false s.id p other (e ∙ eqb-true q p here)))
      (found-without replicas p q)

  pub standing_of-down : (g : GroupState M) (p q : ℕ) → standing_of (go_down g p) q ≡ put (standing_of g) p None q
  unfolding standing_of go_down
  standing_of-down g p q = found-without g.replicas p q

  -- a replica that is found is the one that is looked for
  found_id : (replicas : List (Standing M)) (q : ℕ) (s : Standing M) →
      find (λ s. s.id == q) replicas ≡ Some s → s.id ≡ q
  found_id [] q s e = absurd cc
  found_id (x ∷ replicas) q s e = ⊎_elim
      (λ y. let same : x ≡ s = same_Some x
      s (sym (cond-true (x.id == q) (Some x) (find (λ s. s.id == q) replicas) y) ∙ e) in
      subst (λ (z : Standing M). z.id ≡ q) same (eqb-true x.id q y))
      (λ n. found_id replicas q s (sym (cond-false (x.id == q) (Some x) (find (λ s. s.id == q) replicas) n) ∙ e))
      (cases_Bool (x.id == q))

  pub standing_id : (g : GroupState M) (q : ℕ) (s : Standing M) → standing_of g q ≡ Some s → s.id ≡ q
  unfolding standing_of
  standing_id g q s e = found_id g.replicas q s e

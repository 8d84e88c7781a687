-- The nodes of a world: which replicas have one, and what is found behind a change of one.
use Rattle.std.proofs.Common.{◌≡◌, ℕ, suc, ◌≤◌, arith, cond, List, [], ◌∷◌, Option, Some, None, map, find, refl, sym, ap, ◌∙◌, ⊎_elim, eqb-true, eq-eqb, option_and_then, option_map, if◌then◌else◌, nat_lt}
use Rattle.std.specs.Prelude.{◌==◌}
use Rattle.std.proofs.lemmas.Bool.{cases_Bool, cond-true, cond-false, cond_both, ne_eqb, lt-leb, lt-ltb, le-ltb}
use Rattle.cg_base.specs.Sets.{with_member}
use Rattle.cg_base.specs.FindLaws.{found_passes}
use Rattle.cg_model.specs.World.{NodeState, Node, World, running, node_of, replica_of, with_node, set_life}
use Rattle.cg_model.specs.Looks.{on_disk, disk_held}
use Rattle.cg_model.specs.FactsLists.{IsRising}
use Rattle.cg_agree_lemmas.specs.ChronicleFacts.{node_of-set}
use Rattle.cg_agree_lemmas.specs.Standings.{compared}

pub node-id : (w : World) (p : ℕ) (s : Node) → node_of w p ≡ Some s → s.id ≡ p
node-id w p s e = eqb-true s.id p (found_passes (λ (s : Node). s.id == p) w.nodes s e)

-- ---- one node is changed twice

pub hosted-twice : (nodes : List Node) (p : ℕ) (a b : NodeState) → with_node (with_node nodes (record { id = p; life = a })) (record { id = p; life = b }) ≡ with_node nodes (record { id = p; life = b })
hosted-twice [] p a b = rw (eq-eqb p p refl) refl
hosted-twice (s ∷ nodes) p a b =
    let na : Node = record { id = p; life = a } in
    let nb : Node = record { id = p; life = b } in
    let ra : List Node = if nat_lt p s.id then na ∷ s ∷ nodes else s ∷ with_node nodes na in
    let rb : List Node = if nat_lt p s.id then nb ∷ s ∷ nodes else s ∷ with_node nodes nb in
    ⊎_elim
    (λ y. ap (λ (z : List Node). with_node z nb) (cond-true (s.id == p) (na ∷ nodes) ra y)
    ∙ cond-true (p == p) (nb ∷ nodes) (if nat_lt p p then nb ∷ na ∷ nodes else na ∷ with_node nodes nb) (eq-eqb p p refl) ∙ sym (cond-true (s.id == p) (nb ∷ nodes) rb y))
    (λ n. ⊎_elim
    (λ y. ap (λ (z : List Node). with_node z nb) (cond-false (s.id == p) (na ∷ nodes) ra n ∙ cond-true (nat_lt p s.id) (na ∷ s ∷ nodes) (s ∷ with_node nodes na) y)
    ∙ cond-true (p == p) (nb ∷ s ∷ nodes) (if nat_lt p p then nb ∷ na ∷ s ∷ nodes else na ∷ with_node (s ∷ nodes) nb) (eq-eqb p p refl)
    ∙ sym (cond-false (s.id == p) (nb ∷ nodes) rb n ∙ cond-true (nat_lt p s.id) (nb ∷ s ∷ nodes) (s ∷ with_node nodes nb) y))
    (λ m. (let xs : List Node = with_node nodes na in
    ap (λ (z : List Node). with_node z nb) (cond-false (s.id == p) (na ∷ nodes) ra n ∙ cond-false (nat_lt p s.id) (na ∷ s ∷ nodes) (s ∷ with_node nodes na) m)
    ∙ cond-false (s.id == p) (nb ∷ xs) (if nat_lt p s.id then nb ∷ s ∷ xs else s ∷ with_node xs nb) n ∙ cond-false (nat_lt p s.id) (nb ∷ s ∷ xs) (s ∷ with_node xs nb) m
    ∙ ap (λ (z : List Node). s ∷ z) (hosted-twice nodes p a b)
    ∙ sym (cond-false (s.id == p) (nb ∷ nodes) rb n ∙ cond-false (nat_lt p s.id) (nb ∷ s ∷ nodes) (s ∷ with_node nodes nb) m)))
    (cases_Bool (nat_lt p s.id)))
    (cases_Bool (s.id == p))

-- ---- the replicas that have begun

-- they are those that had, and this one
pub ids-hosted : (nodes : List Node) (new : Node) → map (λ s. s.id) (with_node nodes new) ≡ with_member (map (λ s. s.id) nodes) new.id
ids-hosted [] new = refl
ids-hosted (s ∷ nodes) new =
    let ids : List Node → List ℕ = λ list. map (λ s. s.id) list in
    let rest : List Node = if nat_lt new.id s.id then new ∷ s ∷ nodes else s ∷ with_node nodes new in
    let after : List ℕ = if nat_lt new.id s.id then new.id ∷ s.id ∷ ids nodes else s.id ∷ with_member (ids nodes) new.id in
    compared s.id new.id
    (λ same. ap ids (cond-true (s.id == new.id) (new ∷ nodes) rest (eq-eqb s.id new.id same)) ∙ ap (λ n. n ∷ ids nodes) (sym same)
    ∙ sym (cond-true (new.id == s.id) (s.id ∷ ids nodes) after (eq-eqb new.id s.id (sym same))))
    (λ less. ap ids (cond-false (s.id == new.id) (new ∷ nodes) rest (ne_eqb s.id new.id (λ e. (let same : s.id ≡ new.id = e in omega arith)))
    ∙ cond-false (nat_lt new.id s.id) (new ∷ s ∷ nodes) (s ∷ with_node nodes new) (le-ltb new.id s.id (omega arith))) ∙ ap (λ list. s.id ∷ list) (ids-hosted nodes new)
    ∙ sym (cond-false (new.id == s.id) (s.id ∷ ids nodes) after (ne_eqb new.id s.id (λ e. (let same : new.id ≡ s.id = e in omega arith)))
    ∙ cond-false (nat_lt new.id s.id) (new.id ∷ s.id ∷ ids nodes) (s.id ∷ with_member (ids nodes) new.id) (le-ltb new.id s.id (omega arith))))
    (λ more. ap ids (cond-false (s.id == new.id) (new ∷ nodes) rest (ne_eqb s.id new.id (λ e. (let same : s.id ≡ new.id = e in omega arith)))
    ∙ cond-true (nat_lt new.id s.id) (new ∷ s ∷ nodes) (s ∷ with_node nodes new) (lt-ltb new.id s.id more))
    ∙ sym (cond-false (new.id == s.id) (s.id ∷ ids nodes) after (ne_eqb new.id s.id (λ e. (let same : new.id ≡ s.id = e in omega arith)))
    ∙ cond-true (nat_lt new.id s.id) (new.id ∷ s.id ∷ ids nodes) (s.id ∷ with_member (ids nodes) new.id) (lt-ltb new.id s.id more)))

-- a node that is the first of its replica keeps its place; where nodes rise it is the only one
pub ids-found : (nodes : List Node) (p : ℕ) (life : NodeState) (s : Node) → find (λ s. s.id == p) nodes ≡ Some s → IsRising 0 (map (λ s. s.id) nodes) →
    map (λ s. s.id) (with_node nodes (record { id = p; life = life })) ≡ map (λ s. s.id) nodes
ids-found nodes p life s e rising = from 0 nodes e rising where
  from : (low : ℕ) (nodes : List Node) → find (λ s. s.id == p) nodes ≡ Some s → IsRising low (map (λ s. s.id) nodes) →
      map (λ s. s.id) (with_node nodes (record { id = p; life = life })) ≡ map (λ s. s.id) nodes
  from low [] e r = absurd (let clash : None ≡ Some s = e in cc)
  from low (x ∷ nodes) e r =
      let new : Node = record { id = p; life = life } in
      let rest : List Node = if nat_lt p x.id then new ∷ x ∷ nodes else x ∷ with_node nodes new in
      ⊎_elim
      (λ y. ap (map (λ s. s.id)) (cond-true (x.id == p) (new ∷ nodes) rest y) ∙ ap (λ n. n ∷ map (λ (s : Node). s.id) nodes) (sym (eqb-true x.id p y)))
      (λ n. (let there = sym (cond-false (x.id == p) (Some x) (find (λ s. s.id == p) nodes) n) ∙ e in
      let above : suc x.id ≤ p = found-above (suc x.id) nodes there r.1 in
      ap (map (λ s. s.id)) (cond-false (x.id == p) (new ∷ nodes) rest n ∙ cond-false (nat_lt p x.id) (new ∷ x ∷ nodes) (x ∷ with_node nodes new) (lt-leb (suc p) x.id (omega arith)))
      ∙ ap (λ list. x.id ∷ list) (from (suc x.id) nodes there r.1)))
      (cases_Bool (x.id == p)) where
        found-above : (low : ℕ) (nodes : List Node) → find (λ s. s.id == p) nodes ≡ Some s → IsRising low (map (λ s. s.id) nodes) → low ≤ p
        found-above low [] e r = absurd (let clash : None ≡ Some s = e in cc)
        found-above low (x ∷ nodes) e r = ⊎_elim
            (λ y. (let same : x.id ≡ p = eqb-true x.id p y in let le : low ≤ x.id = r.0 in omega arith))
            (λ n. (let up : suc x.id ≤ p = found-above (suc x.id) nodes (sym (cond-false (x.id == p) (Some x) (find (λ s. s.id == p) nodes) n) ∙ e) r.1 in let le : low ≤ x.id = r.0 in omega arith))
            (cases_Bool (x.id == p))

-- a replica that stands so stands so still where it is set to
pub node-self : (nodes : List Node) (p : ℕ) (life : NodeState) → find (λ s. s.id == p) nodes ≡ Some (let s : Node = record { id = p; life = life } in s) → IsRising 0 (map (λ s. s.id) nodes) →
    with_node nodes (record { id = p; life = life }) ≡ nodes
node-self nodes p life e rising = (from 0 nodes e rising).0 where
  new : Node
  new = record { id = p; life = life }

  from : (low : ℕ) (nodes : List Node) → find (λ s. s.id == p) nodes ≡ Some new → IsRising low (map (λ s. s.id) nodes) → (with_node nodes new ≡ nodes) × (low ≤ p)
  from low [] e r = absurd (let clash : None ≡ Some new = e in cc)
  from low (x ∷ nodes) e r =
      let first : low ≤ x.id = r.0 in
      let rest : List Node = if nat_lt p x.id then new ∷ x ∷ nodes else x ∷ with_node nodes new in
      ⊎_elim
      (λ y. (
        cond-true (x.id == p) (new ∷ nodes) rest y ∙ ap (λ z. z ∷ nodes) (sym (same x (sym (cond-true (x.id == p) (Some x) (find (λ s. s.id == p) nodes) y) ∙ e))),
        (let at : x.id ≡ p = eqb-true x.id p y in omega arith),
      ))
      (λ n. (let later = from (suc x.id) nodes (sym (cond-false (x.id == p) (Some x) (find (λ s. s.id == p) nodes) n) ∙ e) r.1 in
      let above : suc x.id ≤ p = later.1 in (
        cond-false (x.id == p) (new ∷ nodes) rest n ∙ cond-false (nat_lt p x.id) (new ∷ x ∷ nodes) (x ∷ with_node nodes new) (le-ltb p x.id (omega arith)) ∙ ap (λ z. x ∷ z) later.0,
        omega arith,
      )))
      (cases_Bool (x.id == p)) where
        same : (x : Node) → Some x ≡ Some new → x ≡ new
        same x e = ap (either_of x) e where
          either_of : Node → Option Node → Node
          either_of d None = d
          either_of d (Some z) = z

-- ---- a life that is shown as another

pub put-found : {X : Type 0} (f : ℕ → X) (p : ℕ) (x : X) → f p ≡ x → (q : ℕ) → cond (p == q) x (f q) ≡ f q
put-found f p x e q = ⊎_elim (λ y. cond-true (p == q) x (f q) y ∙ sym e ∙ ap f (eqb-true p q y)) (λ n. cond-false (p == q) x (f q) n) (cases_Bool (p == q))

pub running-set : (w : World) (p : ℕ) (life : NodeState) (q : ℕ) → replica_of (set_life w p life) q ≡ cond (p == q) (running life) (replica_of w q)
running-set w p life q =
    ap (λ (o : Option Node). option_and_then (λ s. running s.life) o) (node_of-set w p life q)
    ∙ cond_both (p == q) (Some (let s : Node = record { id = p; life = life } in s)) (node_of w q) (λ o. option_and_then (λ s. running s.life) o ≡ cond (p == q) (running life) (replica_of w q))
    (λ y. sym (cond-true (p == q) (running life) (replica_of w q) y)) (λ n. sym (cond-false (p == q) (running life) (replica_of w q) n))

pub disk-set : (w : World) (p : ℕ) (life : NodeState) (q : ℕ) → disk_held (set_life w p life) q ≡ cond (p == q) (Some (on_disk life)) (disk_held w q)
disk-set w p life q =
    ap (λ (o : Option Node). option_map (λ s. on_disk s.life) o) (node_of-set w p life q)
    ∙ cond_both (p == q) (Some (let s : Node = record { id = p; life = life } in s)) (node_of w q) (λ o. option_map (λ s. on_disk s.life) o ≡ cond (p == q) (Some (on_disk life)) (disk_held w q))
    (λ y. sym (cond-true (p == q) (Some (on_disk life)) (disk_held w q) y)) (λ n. sym (cond-false (p == q) (Some (on_disk life)) (disk_held w q) n))

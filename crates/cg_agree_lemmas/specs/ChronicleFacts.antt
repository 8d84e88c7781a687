-- What is found in a chronicle behind a turn.
use Rattle.std.proofs.Common.{◌≡◌, ℕ, Bool, true, false, cond, List, [], ◌∷◌, ◌++◌, Option, Some, None, find, refl, sym, ap, ◌∙◌, eqb-true, eq-eqb, option_map, nat_lt, option_and_then}
use Rattle.std.specs.Prelude.{◌==◌}
use Rattle.std.specs.Option.{option_map_or}
use Rattle.std.proofs.lemmas.Bool.{cond-true, cond-false, cond_both, ne_eqb, eqb-false}
use Rattle.cg_client.specs.Replica.{Replica}
use Rattle.cg_client.specs.Turn.{Turn}
use Rattle.cg_disk_records.specs.Crash.{Disk}
use Rattle.cg_group.specs.LookupLaws.{at-cond}
use Rattle.cg_model.specs.World.{NodeState, World, node_of, set_life, Node, replica_of, running}
use Rattle.cg_model.specs.Chronicle.{Past, Chronicle}
use Rattle.cg_model.specs.Looks.{past_of, greens_of}
use Rattle.cg_model.specs.Small.{after_turn, newly_green, with_greens, with_past}
use Rattle.cg_agree_lemmas.specs.Keyed.{found-changed}
use Rattle.cg_model.specs.NodeLaws.{found-node}

-- one node has another life, and every other one is as before
pub node_of-set : (w : World) (p : ℕ) (life : NodeState) (q : ℕ) → node_of (set_life w p life) q ≡ cond (p == q) (Some (record { id = p; life = life })) (node_of w q)
node_of-set w p life q = found-node w.nodes (record { id = p; life = life }) q

-- the replica whose turn it is has more greens, and every other one what it had
pub past_of-turn : (c : Chronicle) (p : ℕ) (r : Replica) (disk : Disk) (t : Turn) (q : ℕ) →
    past_of (after_turn c p r disk t) q ≡ cond (q == p) (option_map (with_greens (newly_green r t.replica)) (past_of c q)) (past_of c q)
past_of-turn c p r disk t q = found-changed (λ (x : Past). x.id) (with_greens (newly_green r t.replica)) (λ x. refl) p c.pasts q

pub greens_of-other : (c : Chronicle) (p : ℕ) (r : Replica) (disk : Disk) (t : Turn) (q : ℕ) → (q ≡ p → ⊥) → greens_of (after_turn c p r disk t) q ≡ greens_of c q
greens_of-other c p r disk t q other =
    ap (λ (o : Option Past). option_map_or (λ x. x.greens) o [])
    (past_of-turn c p r disk t q ∙ cond-false (q == p) (option_map (with_greens (newly_green r t.replica)) (past_of c q)) (past_of c q) (ne_eqb q p other))

pub greens_of-own : (c : Chronicle) (p : ℕ) (r : Replica) (disk : Disk) (t : Turn) (x : Past) → past_of c p ≡ Some x →
    greens_of (after_turn c p r disk t) p ≡ greens_of c p ++ newly_green r t.replica
greens_of-own c p r disk t x is =
    let new = newly_green r t.replica in
    ap (λ (o : Option Past). option_map_or (λ x. x.greens) o [])
    (past_of-turn c p r disk t p ∙ cond-true (p == p) (option_map (with_greens new) (past_of c p)) (past_of c p) (eq-eqb p p refl) ∙ ap (option_map (with_greens new)) is)
    ∙ ap (λ (o : Option Past). option_map_or (λ x. x.greens) o [] ++ new) (sym is)

-- a replica that begins has its past, and every other one what it had
pub past-begun : (pasts : List Past) (new : Past) (q : ℕ) → find (λ x. x.id == new.id) pasts ≡ None → find (λ x. x.id == q) (with_past pasts new) ≡ cond (new.id == q) (Some new) (find (λ x. x.id == q) pasts)
past-begun [] new q absent = refl
past-begun (x ∷ pasts) new q absent =
    let found : List Past → Option Past = λ list. find (λ x. x.id == q) list in
    let other : (x.id == new.id) ≡ false = not-first (x.id == new.id) x (find (λ x. x.id == new.id) pasts) absent in
    let rest = past-begun pasts new q (sym (cond-false (x.id == new.id) (Some x) (find (λ x. x.id == new.id) pasts) other) ∙ absent) in
    at-cond found (nat_lt new.id x.id) (new ∷ x ∷ pasts) (x ∷ with_past pasts new)
    ∙ cond_both (nat_lt new.id x.id) (found (new ∷ x ∷ pasts)) (found (x ∷ with_past pasts new)) (λ o. o ≡ cond (new.id == q) (Some new) (found (x ∷ pasts)))
    (λ y. refl)
    (λ n. ap (cond (x.id == q) (Some x)) rest
    ∙ swapped (x.id == q) (new.id == q) (Some x) (Some new) (found pasts) (λ h. ne_eqb new.id q (λ e. eqb-false x.id new.id other (eqb-true x.id q h ∙ sym e)))) where
      not-first : (b : Bool) (x : Past) (o : Option Past) → cond b (Some x) o ≡ None → b ≡ false
      not-first true x o e = absurd (let clash : Some x ≡ None = e in cc)
      not-first false x o e = refl

      swapped : (a b : Bool) (x y o : Option Past) → (a ≡ true → b ≡ false) → cond a x (cond b y o) ≡ cond b y (cond a x o)
      swapped true true x y o h = absurd (let clash : true ≡ false = h refl in cc)
      swapped true false x y o h = refl
      swapped false b x y o h = refl

-- what a node runs, where it is the one that was set
pub replica_of-set : (w : World) (p : ℕ) (life : NodeState) → replica_of (set_life w p life) p ≡ running life
replica_of-set w p life =
    ap (λ (o : Option Node). option_and_then (λ s. running s.life) o)
    (node_of-set w p life p ∙ cond-true (p == p) (Some (let s : Node = record { id = p; life = life } in s)) (node_of w p) (eq-eqb p p refl))

-- The replicas that have begun, after a node was taken out or has come.
use Rattle.std.proofs.Common.{◌≡◌, Bool, ℕ, zero, suc, ◌<◌, ◌≤◌, cond, not, List, [], ◌∷◌, ◌++◌, ◌+◌, length, Option, Some, None, refl, sym, ap, subst, ◌∙◌, arith, eqb-true, map, filter, fold, find, position, one-add, append_assoc, get_or, if◌then◌else◌, inl, inr, ⊎_elim, nat_lt, is_some}
use Rattle.std.specs.Prelude.{◌==◌}
use Rattle.std.specs.List.{insert, remove, prefix_len, position_or_len, slice_get}
use Rattle.std.proofs.lemmas.List.{append-nil}
use Rattle.std.proofs.lemmas.List.Quantifiers.{position-Some}
use Rattle.std.proofs.lemmas.List.Folds.{find_at}
use Rattle.std.proofs.lemmas.List.Sums.{position_or_len_is}
use Rattle.std.proofs.lemmas.Option.{slice_get-get_or, slice_get_past}
use Rattle.std.proofs.lemmas.Bool.{cases_Bool, cases_order, cases_lt, cond-true, cond-false, eq-eqb, ne_eqb, lt-ltb, le-ltb}
use Rattle.cg_base.specs.Sets.{IsSet, Ascends, IsId, with_member, without_member}
use Rattle.cg_base.specs.SetLaws.{Ascends-with_member, Ascends-filter, filter-keeps, filter-drops, with_member-same, with_member-front, with_member-later}
use Rattle.cg_base.specs.AscendingLaws.{AllBelow, AllBelow-more, AllBelow-next, with_member-last}
use Rattle.cg_model.specs.World.{Node, with_node, running}
use Rattle.cg_world_events.specs.Hosting.{ids_of, AscendingNodes, ups, with_up}

-- the replica's node
abbrev pub found : List Node → ℕ → Option Node
found nodes p = find (λ s. s.id == p) nodes

-- where a node was found, it stands
pub found_there : (nodes : List Node) (p i : ℕ) (d : Node) → position (λ s. s.id == p) nodes ≡ Some i →
    (i < length nodes) × ((get_or nodes i d).id ≡ p) × (found nodes p ≡ Some (get_or nodes i d))
found_there nodes p i d e =
    let w = position-Some (λ (s : Node). s.id == p) nodes i d e in
    let place : position_or_len (λ s. s.id == p) nodes ≡ i =
    position_or_len_is (λ (s : Node). s.id == p) nodes i d (omega (arith, w.0)) w.2 (λ lt. w.1) in
    (w.0, eqb-true (get_or nodes i d).id p w.1, find_at (λ (s : Node). s.id == p) nodes ∙ ap (slice_get nodes) place ∙ slice_get-get_or nodes i d w.0)

pub found_nowhere : (nodes : List Node) (p : ℕ) → position (λ s. s.id == p) nodes ≡ None → found nodes p ≡ None
found_nowhere nodes p e =
    find_at (λ (s : Node). s.id == p) nodes ∙ slice_get_past nodes (position_or_len (λ s. s.id == p) nodes)
    (le_from_test (position_or_len (λ s. s.id == p) nodes) (length nodes) e)
  where
    le_from_test : (k n : ℕ) → cond (nat_lt k n) (Some k) None ≡ None → n ≤ k
    le_from_test k n e = ⊎_elim
        (λ (lt : k < n). absurd (let clash : Some k ≡ None = sym (cond-true (nat_lt k n) (Some k) None (lt-ltb k n lt)) ∙ e in cc)) (λ le. le) (cases_lt k n)

pub with_node-same : (s : Node) (nodes : List Node) (new : Node) → s.id ≡ new.id → with_node (s ∷ nodes) new ≡ new ∷ nodes
with_node-same s nodes new same = rw (eq-eqb s.id new.id same)

pub with_node-front : (s : Node) (nodes : List Node) (new : Node) → new.id < s.id → with_node (s ∷ nodes) new ≡ new ∷ s ∷ nodes
with_node-front s nodes new lt = rw (ne_eqb s.id new.id (λ e. omega arith), lt-ltb new.id s.id lt)

pub with_node-later : (s : Node) (nodes : List Node) (new : Node) → s.id < new.id → with_node (s ∷ nodes) new ≡ s ∷ with_node nodes new
with_node-later s nodes new lt = rw (ne_eqb s.id new.id (λ e. omega arith), le-ltb new.id s.id (omega arith))

-- the identifiers of the changed list
ids_of-with_node : (nodes : List Node) (new : Node) → ids_of (with_node nodes new) ≡ with_member (ids_of nodes) new.id
ids_of-with_node [] new = refl
ids_of-with_node (s ∷ nodes) new = elim (cases_order new.id s.id) [
  | inl same ↦ ap ids_of (with_node-same s nodes new (sym same)) ∙ ap (λ z. z ∷ ids_of nodes) same ∙ sym (with_member-same s.id (ids_of nodes) new.id same)
  | inr other ↦ elim other [
    | inl front ↦ ap ids_of (with_node-front s nodes new front) ∙ sym (with_member-front s.id (ids_of nodes) new.id front)
    | inr later ↦ ap ids_of (with_node-later s nodes new later) ∙ ap (λ z. s.id ∷ z) (ids_of-with_node nodes new)
        ∙ sym (with_member-later s.id (ids_of nodes) new.id later)
  ]
]

-- one more node, or one in the place of an earlier one
pub ascends-with_node : (nodes : List Node) (new : Node) → IsId new.id → AscendingNodes nodes → AscendingNodes (with_node nodes new)
ascends-with_node nodes new is_id ascending = record {
  ascends = subst (Ascends 1) (sym (ids_of-with_node nodes new)) (Ascends-with_member (ids_of nodes) 1 new.id is_id.0 is_id.1 ascending.ascends);
}

ids_of-filter : (nodes : List Node) (p : ℕ) → ids_of (filter (λ s. not (s.id == p)) nodes) ≡ without_member (ids_of nodes) p
ids_of-filter [] p = refl
ids_of-filter (s ∷ nodes) p = elim (cases_Bool (not (s.id == p))) [
  | inl stays ↦ ap ids_of (filter-keeps (λ (s : Node). not (s.id == p)) s nodes stays) ∙ ap (λ z. s.id ∷ z) (ids_of-filter nodes p)
      ∙ sym (filter-keeps (λ q. not (q == p)) s.id (ids_of nodes) stays)
  | inr goes ↦ ap ids_of (filter-drops (λ (s : Node). not (s.id == p)) s nodes goes) ∙ ids_of-filter nodes p
      ∙ sym (filter-drops (λ q. not (q == p)) s.id (ids_of nodes) goes)
]

ascends-filter : (nodes : List Node) (p : ℕ) → AscendingNodes nodes → AscendingNodes (filter (λ s. not (s.id == p)) nodes)
ascends-filter nodes p ascending = record {
  ascends = subst (Ascends 1) (sym (ids_of-filter nodes p)) (Ascends-filter (λ q. not (q == p)) (ids_of nodes) 1 ascending.ascends);
}

-- a node of a replica that hasn't begun stands behind all those below it
pub insert-with_node : (nodes : List Node) (new : Node) → found nodes new.id ≡ None →
    insert nodes (prefix_len (λ s. nat_lt s.id new.id) nodes) new ≡ with_node nodes new
insert-with_node [] new away = refl
insert-with_node (s ∷ nodes) new away = elim (cases_order new.id s.id) [
  | inl same ↦ absurd (let clash : Some s ≡ None = sym (cond-true (s.id == new.id) (Some s) (found nodes new.id) (eq-eqb s.id new.id (sym same))) ∙ away in cc)
  | inr other ↦ elim other [
    | inl front ↦ ap (λ n. insert (s ∷ nodes) n new) (cond-false (nat_lt s.id new.id) (1 + prefix_len (λ s. nat_lt s.id new.id) nodes) 0 (le-ltb s.id new.id (omega arith)))
        ∙ sym (with_node-front s nodes new front)
    | inr later ↦
        let rest : found nodes new.id ≡ None = sym (cond-false (s.id == new.id) (Some s) (found nodes new.id) (ne_eqb s.id new.id (λ e. omega arith))) ∙ away in
        ap (λ n. insert (s ∷ nodes) n new) (cond-true (nat_lt s.id new.id) (1 + prefix_len (λ s. nat_lt s.id new.id) nodes) 0 (lt-ltb s.id new.id later) ∙ one-add (prefix_len (λ s. nat_lt s.id new.id) nodes))
        ∙ ap (λ z. s ∷ z) (insert-with_node nodes new rest) ∙ sym (with_node-later s nodes new later)
  ]
]

-- ---- a node that is taken out

-- what stands in an ascending list is not below its beginning
id_within : (nodes : List Node) (low i : ℕ) (d : Node) → Ascends low (ids_of nodes) → i < length nodes → low ≤ (get_or nodes i d).id
id_within [] low i d ascends lt = absurd (omega arith)
id_within (s ∷ nodes) low zero d ascends lt = ascends.0
id_within (s ∷ nodes) low (suc i) d ascends lt =
    let above : low ≤ s.id = ascends.0 in
    let later : suc s.id ≤ (get_or nodes i d).id = id_within nodes (suc s.id) i d ascends.2 (omega arith) in omega arith

filter-away : (nodes : List Node) (low p : ℕ) → Ascends low (ids_of nodes) → p < low → filter (λ s. not (s.id == p)) nodes ≡ nodes
filter-away [] low p ascends lt = refl
filter-away (s ∷ nodes) low p ascends lt =
    let above : low ≤ s.id = ascends.0 in
    filter-keeps (λ (s : Node). not (s.id == p)) s nodes (ap not (ne_eqb s.id p (λ e. omega arith)))
    ∙ ap (λ z. s ∷ z) (filter-away nodes (suc s.id) p ascends.2 (omega arith))

-- what is left are the others
remove-filter : (nodes : List Node) (low p i : ℕ) (d : Node) → Ascends low (ids_of nodes) → i < length nodes → (get_or nodes i d).id ≡ p →
    remove nodes i ≡ filter (λ s. not (s.id == p)) nodes
remove-filter [] low p i d ascends lt e = absurd (omega arith)
remove-filter (s ∷ nodes) low p zero d ascends lt e =
    sym (filter-drops (λ (s : Node). not (s.id == p)) s nodes (ap not (eq-eqb s.id p e)) ∙ filter-away nodes (suc s.id) p ascends.2 (omega arith))
remove-filter (s ∷ nodes) low p (suc i) d ascends lt e =
    let within : i < length nodes = omega arith in
    let later : suc s.id ≤ (get_or nodes i d).id = id_within nodes (suc s.id) i d ascends.2 within in
    ap (λ z. s ∷ z) (remove-filter nodes (suc s.id) p i d ascends.2 within e)
    ∙ sym (filter-keeps (λ (s : Node). not (s.id == p)) s nodes (ap not (ne_eqb s.id p (λ q. omega arith))))

-- the others have no node of the replica
found-filter : (nodes : List Node) (p : ℕ) → found (filter (λ s. not (s.id == p)) nodes) p ≡ None
found-filter [] p = refl
found-filter (s ∷ nodes) p = elim (cases_Bool (s.id == p)) [
  | inl here ↦ ap (λ z. found z p) (filter-drops (λ (s : Node). not (s.id == p)) s nodes (ap not here)) ∙ found-filter nodes p
  | inr apart ↦ ap (λ z. found z p) (filter-keeps (λ (s : Node). not (s.id == p)) s nodes (ap not apart))
      ∙ cond-false (s.id == p) (Some s) (found (filter (λ s. not (s.id == p)) nodes) p) apart ∙ found-filter nodes p
]

-- a node comes before those above it
with_node-before : (nodes : List Node) (low : ℕ) (t : Node) → Ascends low (ids_of nodes) → t.id < low → with_node nodes t ≡ t ∷ nodes
with_node-before [] low t ascends lt = refl
with_node-before (s ∷ nodes) low t ascends lt = let above : low ≤ s.id = ascends.0 in with_node-front s nodes t (omega arith)

-- a node comes to the place from which the earlier one was taken
with_node-remove : (nodes : List Node) (low i : ℕ) (t d : Node) → Ascends low (ids_of nodes) → i < length nodes → (get_or nodes i d).id ≡ t.id →
    with_node (remove nodes i) t ≡ with_node nodes t
with_node-remove [] low i t d ascends lt e = absurd (omega arith)
with_node-remove (s ∷ nodes) low zero t d ascends lt e = with_node-before nodes (suc s.id) t ascends.2 (omega arith) ∙ sym (with_node-same s nodes t e)
with_node-remove (s ∷ nodes) low (suc i) t d ascends lt e =
    let within : i < length nodes = omega arith in
    let later : suc s.id ≤ (get_or nodes i d).id = id_within nodes (suc s.id) i d ascends.2 within in
    with_node-later s (remove nodes i) t (omega arith) ∙ ap (λ z. s ∷ z) (with_node-remove nodes (suc s.id) i t d ascends.2 within e)
    ∙ sym (with_node-later s nodes t (omega arith))

-- the found node is taken out
pub record IsTakenOut (nodes : List Node) (p i : ℕ) (d : Node) : Type 0 where
  pub node : found nodes p ≡ Some (get_or nodes i d)
  pub again : (t : Node) → t.id ≡ p → with_node (remove nodes i) t ≡ with_node nodes t
  pub away : found (remove nodes i) p ≡ None
  pub ascending : AscendingNodes (remove nodes i)

pub taken_out : (nodes : List Node) (p i : ℕ) (d : Node) → AscendingNodes nodes → position (λ s. s.id == p) nodes ≡ Some i → IsTakenOut nodes p i d
taken_out nodes p i d ascending at =
    let w = found_there nodes p i d at in
    let others = remove-filter nodes 1 p i d ascending.ascends w.0 w.1 in
    record {
      node = w.2;
      again = λ t same. with_node-remove nodes 1 i t d ascending.ascends w.0 (w.1 ∙ sym same);
      away = ap (λ z. found z p) others ∙ found-filter nodes p;
      ascending = subst AscendingNodes (sym others) (ascends-filter nodes p ascending);
    }

-- ---- the replicas that are up

ups_from : (nodes : List Node) (set : List ℕ) (low : ℕ) → AllBelow low set → Ascends low (ids_of nodes) → fold with_up set nodes ≡ set ++ ups nodes
ups_from [] set low below ascends = sym (append-nil set)
ups_from (s ∷ nodes) set low below ascends =
    let above : low ≤ s.id = ascends.0 in
    ⊎_elim
    (λ y. ap (λ z. fold with_up z nodes) (cond-true (is_some (running s.life)) (with_member set s.id) set y ∙ with_member-last set s.id (AllBelow-more set low s.id above below))
    ∙ ups_from nodes (set ++ s.id ∷ []) (suc s.id) (AllBelow-next set s.id (AllBelow-more set low s.id above below)) ascends.2
    ∙ append_assoc set (s.id ∷ []) (ups nodes)
    ∙ ap (λ z. set ++ map (λ s. s.id) z) (sym (filter-keeps (λ (s : Node). is_some (running s.life)) s nodes y)))
    (λ n. ap (λ z. fold with_up z nodes) (cond-false (is_some (running s.life)) (with_member set s.id) set n)
    ∙ ups_from nodes set (suc s.id) (AllBelow-more set low (suc s.id) (omega (arith, above)) below) ascends.2
    ∙ ap (λ z. set ++ map (λ s. s.id) z) (sym (filter-drops (λ (s : Node). is_some (running s.life)) s nodes n)))
    (cases_Bool (is_some (running s.life)))

pub ups-all : (nodes : List Node) → AscendingNodes nodes → fold with_up [] nodes ≡ ups nodes
ups-all nodes ascending = ups_from nodes [] 1 tt ascending.ascends

-- a set is made again from its members, but for those that fail a test
chosen_from : (test : ℕ → Bool) (rest set : List ℕ) (low : ℕ) → AllBelow low set → Ascends low rest →
    fold (λ set p. if test p then with_member set p else set) set rest ≡ set ++ filter test rest
chosen_from test [] set low below ascends = sym (append-nil set)
chosen_from test (p ∷ rest) set low below ascends =
    let above : low ≤ p = ascends.0 in
    ⊎_elim
    (λ y. ap (λ z. fold (λ set p. if test p then with_member set p else set) z rest) (cond-true (test p) (with_member set p) set y ∙ with_member-last set p (AllBelow-more set low p above below))
    ∙ chosen_from test rest (set ++ p ∷ []) (suc p) (AllBelow-next set p (AllBelow-more set low p above below)) ascends.2
    ∙ append_assoc set (p ∷ []) (filter test rest)
    ∙ ap (λ z. set ++ z) (sym (filter-keeps test p rest y)))
    (λ n. ap (λ z. fold (λ set p. if test p then with_member set p else set) z rest) (cond-false (test p) (with_member set p) set n)
    ∙ chosen_from test rest set (suc p) (AllBelow-more set low (suc p) (omega (arith, above)) below) ascends.2
    ∙ ap (λ z. set ++ z) (sym (filter-drops test p rest n)))
    (cases_Bool (test p))

pub chosen : (test : ℕ → Bool) (set : List ℕ) → IsSet set → fold (λ set p. if test p then with_member set p else set) [] set ≡ filter test set
chosen test set is_set = chosen_from test set [] 1 tt is_set.ascends

-- All are gathered by those alone that have messages to order; and each regular replica stands where its own entry says.
use Rattle.std.proofs.Common.{◌≡◌, ℕ, zero, suc, ◌<◌, Bool, true, false, not, List, [], ◌∷◌, length, Option, Some, None, refl, sym, ap, subst, ◌∙◌, arith, ⊎_elim, eqb-true, fold, map, get_or}
use Rattle.std.specs.Prelude.{◌==◌, ◌&&◌}
use Rattle.std.specs.Option.{option_map_or}
use Rattle.std.proofs.lemmas.Bool.{cases_Bool, cond-false, and_from}
use Rattle.cg_base.specs.SetLaws.{filter-keeps, filter-drops}
use Rattle.cg_group.specs.declared.phase.Phase.TheVariants.{Down}
use Rattle.cg_group.specs.State.{Configuration, Standing, GroupState, standing_of, set_standing, set_configuration, regular_in, changed_at}
use Rattle.cg_group.specs.Events.{order, order_from, order_all, receive_all}
use Rattle.cg_group.specs.Logs.{LogView, configurations_of, group_of, with_all_receipts}
use Rattle.cg_group.specs.Rosters.{found, waits_of, conf_of, is_sender, senders_of, regulars_of, IsRoster}
use Rattle.cg_group.specs.LookupLaws.{standing_of-set, changed_at-zero}
use Rattle.cg_group.proofs.OrderFacts.{times, found_id, order_all-times, received_everywhere}
use Rattle.cg_group.proofs.RosterFacts.{found_at}
use Rattle.std.proofs.lemmas.List.{nil_from_length}

module _ {M : Type 0} where
  -- ---- who has no message that waits has none after another's were ordered

  idle-from : (g : GroupState M) (p q : ℕ) (s : Standing M) (waits : List M) → found g.replicas p ≡ Some s → s.unordered ≡ waits → waits_of g.replicas q ≡ [] →
      waits_of (order_from g s waits).replicas q ≡ []
  unfolding order_from set_standing set_configuration standing_of
  idle-from g p q s [] there is idle = idle
  idle-from g p q s (m ∷ rest) there is idle =
      let new : Standing M = record s { unordered = rest } in
      ⊎_elim
      (λ y.
      let same : p ≡ q = sym (found_id g.replicas p s there) ∙ sym (eqb-true q s.id y) in
      let none : m ∷ rest ≡ [] = sym is ∙ sym (ap (λ o. option_map_or (λ (s : Standing M). s.unordered) o []) there) ∙ ap (waits_of g.replicas) same ∙ idle in
      absurd cc)
      (λ n. ap (λ o. option_map_or (λ (s : Standing M). s.unordered) o []) (standing_of-set g new q ∙ cond-false (q == s.id) (Some new) (found g.replicas q) n) ∙ idle)
      (cases_Bool (q == s.id))

  idle-once : (g : GroupState M) (p q : ℕ) → waits_of g.replicas q ≡ [] → waits_of (order g p).replicas q ≡ []
  unfolding order standing_of
  idle-once g p q idle = by_option (found g.replicas p) refl
    where
      by_option : (o : Option (Standing M)) → found g.replicas p ≡ o → waits_of (option_map_or (λ s. order_from g s s.unordered) o g).replicas q ≡ []
      by_option None e = idle
      by_option (Some s) e = idle-from g p q s s.unordered e refl idle

  idle-times : (n : ℕ) (g : GroupState M) (p q : ℕ) → waits_of g.replicas q ≡ [] → waits_of (times n (λ h. order h p) g).replicas q ≡ []
  idle-times zero g p q idle = idle
  idle-times (suc n) g p q idle = idle-times n (order g p) p q (idle-once g p q idle)

  idle-all : (g : GroupState M) (p q : ℕ) → waits_of g.replicas q ≡ [] → waits_of (order_all g p).replicas q ≡ []
  idle-all g p q idle =
      subst (λ (h : GroupState M). waits_of h.replicas q ≡ []) (sym (order_all-times g p)) (idle-times (length (waits_of g.replicas p)) g p q idle)

  -- ordering its messages changes nothing
  idle-itself : (g : GroupState M) (p : ℕ) → waits_of g.replicas p ≡ [] → order_all g p ≡ g
  idle-itself g p idle = order_all-times g p ∙ ap (λ (w : List M). times (length w) (λ h. order h p) g) idle

  -- ---- the senders order as all do

  -- who is listed without a message has none in the group
  abbrev AreIdle : GroupState M → List (Standing M) → Type 0
  AreIdle g left = (i : ℕ) (d : Standing M) → i < length left → length (get_or left i d).unordered ≡ 0 → waits_of g.replicas (get_or left i d).id ≡ []

  fold-senders : (left : List (Standing M)) (g : GroupState M) → AreIdle g left → fold order_all g (senders_of left) ≡ fold order_all g (regulars_of left)
  fold-senders [] g idle = refl
  fold-senders (s ∷ left) g idle = ⊎_elim
      (λ alone.
      ap (λ z. fold order_all g (map (λ (s : Standing M). s.id) z)) (filter-drops is_sender s left (false_first (regular_in s.phase == 0) (length s.unordered == 0) alone))
      ∙ fold-senders left g behind
      ∙ sym (ap (λ z. fold order_all g (map (λ (s : Standing M). s.id) z)) (filter-drops (λ (s : Standing M). not (regular_in s.phase == 0)) s left (ap not alone))))
      (λ regular. ⊎_elim
      (λ none.
      let here : waits_of g.replicas s.id ≡ [] = idle 0 s (omega arith) (eqb-true (length s.unordered) 0 none) in
      ap (λ z. fold order_all g (map (λ (s : Standing M). s.id) z)) (filter-drops is_sender s left (false_second (regular_in s.phase == 0) (length s.unordered == 0) none))
      ∙ fold-senders left g behind
      ∙ ap (λ h. fold order_all h (regulars_of left)) (sym (idle-itself g s.id here))
      ∙ sym (ap (λ z. fold order_all g (map (λ (s : Standing M). s.id) z)) (filter-keeps (λ (s : Standing M). not (regular_in s.phase == 0)) s left (ap not regular))))
      (λ some.
      ap (λ z. fold order_all g (map (λ (s : Standing M). s.id) z)) (filter-keeps is_sender s left (and_from (not (regular_in s.phase == 0)) (not (length s.unordered == 0)) (ap not regular) (ap not some)))
      ∙ fold-senders left (order_all g s.id) (λ i d lt none. idle-all g s.id (get_or left i d).id (behind i d lt none))
      ∙ sym (ap (λ z. fold order_all g (map (λ (s : Standing M). s.id) z)) (filter-keeps (λ (s : Standing M). not (regular_in s.phase == 0)) s left (ap not regular))))
      (cases_Bool (length s.unordered == 0)))
      (cases_Bool (regular_in s.phase == 0))
    where
      behind : AreIdle g left
      behind i d lt none = idle (suc i) d (omega (arith, lt)) none

      false_first : (a b : Bool) → a ≡ true → not a && not b ≡ false
      false_first a b e = rw e refl

      false_second : (a b : Bool) → b ≡ true → not a && not b ≡ false
      false_second true b e = refl
      false_second false b e = rw e refl

  pub senders-order : (logs : List (LogView M)) (replicas : List (Standing M)) → IsRoster replicas →
      fold order_all (group_of logs replicas) (senders_of replicas) ≡ fold order_all (group_of logs replicas) (regulars_of replicas)
  senders-order logs replicas roster = fold-senders replicas (group_of logs replicas)
      (λ i d lt none. ap (λ o. option_map_or (λ (s : Standing M). s.unordered) o []) (found_at replicas 1 i d roster.ascends lt) ∙ nil_from_length (get_or replicas i d).unordered none)

  -- ---- each regular replica receives

  -- where the configurations were written for one of the replicas, those behind it are left
  pub received-next : (logs after : List (LogView M)) (replicas left : List (Standing M)) (s : Standing M) → found replicas s.id ≡ Some s →
      configurations_of after ≡ changed_at (λ c. with_all_receipts c s.id) (configurations_of logs) (regular_in s.phase) →
      fold receive_all (group_of after replicas) (regulars_of left) ≡ fold receive_all (group_of logs replicas) (regulars_of (s ∷ left))
  received-next logs after replicas left s there changed = ⊎_elim
      (λ alone.
      let none : configurations_of after ≡ configurations_of logs =
      changed ∙ ap (changed_at (λ c. with_all_receipts c s.id) (configurations_of logs)) (eqb-true (regular_in s.phase) 0 alone) ∙ changed_at-zero (λ c. with_all_receipts c s.id) (configurations_of logs) in
      ap (λ (z : List (Configuration M)). let h : GroupState M = record { configurations = z; replicas = replicas } in fold receive_all h (regulars_of left)) none
      ∙ sym (ap (λ z. fold receive_all (group_of logs replicas) (map (λ (s : Standing M). s.id) z)) (filter-drops (λ (s : Standing M). not (regular_in s.phase == 0)) s left (ap not alone))))
      (λ regular.
      let conf : conf_of replicas s.id ≡ regular_in s.phase = ap (λ o. regular_in (option_map_or (λ (s : Standing M). s.phase) o Down)) there in
      ap (λ h. fold receive_all h (regulars_of left))
      (received_everywhere logs after replicas s.id (changed ∙ ap (changed_at (λ c. with_all_receipts c s.id) (configurations_of logs)) (sym conf)))
      ∙ sym (ap (λ z. fold receive_all (group_of logs replicas) (map (λ (s : Standing M). s.id) z)) (filter-keeps (λ (s : Standing M). not (regular_in s.phase == 0)) s left (ap not regular))))
      (cases_Bool (regular_in s.phase == 0))

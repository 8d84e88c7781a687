-- Where the replicas of a group stand: what each event of the group makes of that.
use Rattle.std.proofs.Common.{◌≡◌, ℕ, suc, ◌+◌, ◌≤◌, Bool, true, false, ◌||◌, cond, List, [], ◌∷◌, ◌++◌, fold, length, Option, Some, None, option_map, refl, ap, ◌∙◌, sym, ⊎_elim, arith, eqb-true, eq-eqb, if◌then◌else◌}
use Rattle.std.specs.Prelude.{◌==◌}
use Rattle.std.specs.Option.{option_map_or}
use Rattle.std.proofs.lemmas.Bool.{cond_both, cond-true, cond-false, cases_Bool, ne_eqb, or_parts, or_right}
use Rattle.cg_base.specs.Lists.{above_up_to}
use Rattle.cg_base.specs.Sets.{Ascends, has}
use Rattle.cg_base.specs.SetLaws.{has-within}
use Rattle.cg_wire.specs.declared.message.Msg.{Msg}
use Rattle.cg_group.specs.declared.phase.Phase.{Phase}
use Rattle.cg_group.specs.declared.phase.Phase.TheVariants.{Down, Alone, Regular, Transitional}
use Rattle.cg_group.specs.State.{Configuration, Standing, GroupState, standing_of, regular_in, phase_of, configuration, home, unordered_of, delivered_to, set_standing, set_configuration}
use Rattle.cg_group.specs.Events.{come_up, go_down, send_from, send, send_all, with_receipt, with_message, order_from, order, receive, regulars, order_all, receive_all, gather, deliver, become_transitional, split, become_regular, merge}
use Rattle.cg_group.specs.LookupLaws.{at-cond, put, standing_of-set, standing_of-set_configuration, standing_of-down, standing_id, eqb_comm}

abbrev pub Group : Type 0
Group = GroupState Msg

-- the phase of a replica, where it is up
abbrev pub where_is : Group → ℕ → Option Phase
where_is g p = option_map (λ s. s.phase) (standing_of g p)

-- the phase of who stands so
abbrev pub phase_at : Option Phase → Phase
phase_at None = Down
phase_at (Some phase) = phase

pub phase-where : (g : Group) (p : ℕ) → phase_of g p ≡ phase_at (where_is g p)
phase-where g p = at (standing_of g p) where
  at : (o : Option (Standing Msg)) → option_map_or (λ (s : Standing Msg). s.phase) o Down ≡
      phase_at (option_map (λ s. s.phase) o)
  at None = refl
  at (Some s) = refl

-- each replica stands in the second group as it does in the first
abbrev pub StandAlike : Group → Group → Type 0
StandAlike g h = (p : ℕ) → where_is h p ≡ where_is g p

-- ---- changes of a group

where-set : (g : Group) (s : Standing Msg) (p : ℕ) →
    where_is (set_standing g s) p ≡ put (where_is g) s.id (Some s.phase) p
where-set g s p = ap (λ o. option_map (λ (s : Standing Msg). s.phase) o) (standing_of-set g s p)
    ∙ at-cond (λ o. option_map (λ (s : Standing Msg). s.phase) o) (p == s.id) (Some s) (standing_of g p)

where-configured : (g : Group) (conf : ℕ) (c : Configuration Msg) → StandAlike g (set_configuration g conf c)
where-configured g conf c p =
    ap (λ o. option_map (λ (s : Standing Msg). s.phase) o) (standing_of-set_configuration g conf c p)

-- a replica that stands as it did, with other messages
same-place : (g : Group) (p : ℕ) (s : Standing Msg) (new : Standing Msg) → standing_of g p ≡ Some s → new.id ≡ s.id →
    new.phase ≡ s.phase → StandAlike g (set_standing g new)
same-place g p s new found id phase q =
    where-set g new q ∙ ⊎_elim
    (λ y. cond-true (q == new.id) (Some new.phase) (where_is g q) y ∙ ap (λ x. Some x) phase
    ∙ sym (ap (λ o. option_map (λ (s : Standing Msg). s.phase) o)
    (ap (standing_of g) (eqb-true q new.id y ∙ id ∙ standing_id g p s found) ∙ found)))
    (λ n. cond-false (q == new.id) (Some new.phase) (where_is g q) n)
    (cases_Bool (q == new.id))

-- ---- who stands as before

send-place : (g : Group) (p : ℕ) (m : Msg) → StandAlike g (send g p m)
unfolding send send_from
send-place g p m = at (standing_of g p) refl where
  at : (o : Option (Standing Msg)) → standing_of g p ≡ o → StandAlike g (send_from g o m)
  at None e = λ q. refl
  at (Some s) e =
      let new : Standing Msg = record s { unordered = s.unordered ++ m ∷ [] } in
      cond_both (regular_in s.phase == 0)
      g (set_standing g new) (StandAlike g) (λ y q. refl) (λ n. same-place g p s new e refl refl)

pub sent-place : (messages : List Msg) (g : Group) (p : ℕ) → StandAlike g (send_all g p messages)
sent-place [] g p q = refl
sent-place (m ∷ messages) g p q = sent-place messages (send g p m) p q ∙ send-place g p m q

pub order-place : (g : Group) (p : ℕ) → StandAlike g (order g p)
unfolding order order_from with_message
order-place g p = at (standing_of g p) refl where
  from : (s : Standing Msg) (messages : List Msg) → standing_of g p ≡ Some s → StandAlike g (order_from g s messages)
  from s [] e q = refl
  from s (m ∷ rest) e q =
      let conf = regular_in s.phase in
      let new : Standing Msg = record s { unordered = rest } in
      where-configured (set_standing g new) conf (with_message (configuration g conf) s.id m) q
      ∙ same-place g p s new e refl refl q

  at : (o : Option (Standing Msg)) → standing_of g p ≡ o →
      StandAlike g (option_map_or (λ s. order_from g s s.unordered) o g)
  at None e = λ q. refl
  at (Some s) e = from s s.unordered e

pub receive-place : (g : Group) (p place : ℕ) → StandAlike g (receive g p place)
unfolding receive with_receipt
receive-place g p place = let conf = regular_in (phase_of g p) in
    where-configured g conf (with_receipt (configuration g conf) p place)

-- step by step
fold-place : {X : Type 0} (f : Group → X → Group) → ((g : Group) (x : X) → StandAlike g (f g x)) →
    (xs : List X) (g : Group) → StandAlike g (fold f g xs)
fold-place f each [] g q = refl
fold-place f each (x ∷ xs) g q = fold-place f each xs (f g x) q ∙ each g x q

order_all-place : (g : Group) (p : ℕ) → StandAlike g (order_all g p)
unfolding order_all
order_all-place g p = fold-place (λ g m. order g p) (λ g m. order-place g p) (unordered_of g p) g

receive_all-place : (g : Group) (p : ℕ) → StandAlike g (receive_all g p)
unfolding receive_all
receive_all-place g p =
    fold-place (λ g place. receive g p place) (λ g place. receive-place g p place) (above_up_to
    0 (length (home g p).ordered)) g

pub gather-place : (g : Group) → StandAlike g (gather g)
unfolding gather
gather-place g q =
    let ordered = fold order_all g (regulars g) in
    fold-place receive_all receive_all-place (regulars ordered) ordered q
    ∙ fold-place order_all order_all-place (regulars g) g q

pub deliver-place : (g : Group) (p k : ℕ) → StandAlike g (deliver g p k).group
unfolding deliver
deliver-place g p k = at (standing_of g p) refl where
  n : ℕ
  n = delivered_to g p + k

  at : (o : Option (Standing Msg)) → standing_of g p ≡ o →
      StandAlike g (option_map_or (λ s. set_standing g (record s { delivered = n })) o g)
  at None e = λ q. refl
  at (Some s) e = same-place g p s (record s { delivered = n }) e refl refl

-- ---- who stands anew

-- these stand in this phase, and each other one as it did
abbrev pub all_at : List ℕ → Option Phase → (ℕ → Option Phase) → ℕ → Option Phase
all_at set phase at p = if has set p then phase else at p

-- a choice between two that are the same in one of them
pub merged : {X : Type 0} (a b : Bool) (x y : X) → cond b x (cond a x y) ≡ cond (a || b) x y
merged true true x y = refl
merged true false x y = refl
merged false true x y = refl
merged false false x y = refl

pub up-place : (g : Group) (p q : ℕ) → where_is (come_up g p) q ≡ put (where_is g) p (Some Alone) q
unfolding come_up
up-place g p q = where-set g (record { id = p; phase = Alone; delivered = 0; unordered = [] }) q

pub down-place : (g : Group) (p q : ℕ) → where_is (go_down g p) q ≡ put (where_is g) p None q
down-place g p q = ap (λ o. option_map (λ (s : Standing Msg). s.phase) o) (standing_of-down g p q)
    ∙ at-cond (λ o. option_map (λ (s : Standing Msg). s.phase) o) (q == p) None (standing_of g q)

-- ---- partings

-- the rest of a set that leaves: they are regular in one configuration
parted : (set rest : List ℕ) (g : Group) (low conf : ℕ) → Ascends low rest →
    ((p : ℕ) → has rest p ≡ true → where_is g p ≡ Some (Regular conf)) → (q : ℕ) →
    where_is (fold (become_transitional set) g rest) q ≡ all_at rest (Some (Transitional conf set)) (where_is g) q
unfolding become_transitional
parted set [] g low conf ascends regular q = refl
parted set (p ∷ rest) g low conf ascends regular q =
    let new : Standing Msg = record {
      id = p;
      phase = Transitional (regular_in (phase_of g p)) set;
      delivered = delivered_to g p;
      unordered = [];
    } in
    let here : where_is g p ≡ Some (Regular conf) = regular p (ap (λ b. b || has rest p) (eq-eqb p p refl)) in
    let phase : Transitional (regular_in (phase_of g p)) set ≡ Transitional conf set =
    ap (λ x. Transitional (regular_in x) set) (phase-where g p ∙ ap phase_at here) in
    let h = become_transitional set g p in
    let moved : (x : ℕ) → where_is h x ≡ put (where_is g) p (Some (Transitional conf set)) x =
    λ x. where-set g new x ∙ ap (λ z. cond (x == p) (Some z) (where_is g x)) phase in
    let later : (x : ℕ) → has rest x ≡ true → where_is h x ≡ Some (Regular conf) =
    λ x member.
    let above : suc p ≤ x = (has-within rest (suc p) x ascends.2 member).0 in
    moved x ∙ cond-false (x == p) (Some (Transitional conf set)) (where_is g x) (ne_eqb x
    p (λ e. omega (arith, above, e)))
    ∙ regular x (or_right (p == x) (has rest x) member) in
    parted set rest h (suc p) conf ascends.2 later q
    ∙ ap (cond (has rest q) (Some (Transitional conf set))) (moved q
    ∙ ap (λ b. cond b (Some (Transitional conf set)) (where_is g q)) (eqb_comm q p))
    ∙ merged (p == q) (has rest q) (Some (Transitional conf set)) (where_is g q)

pub split-place : (g : Group) (set : List ℕ) (conf : ℕ) → Ascends 1 set →
    ((p : ℕ) → has set p ≡ true → where_is g p ≡ Some (Regular conf)) → (q : ℕ) →
    where_is (split g set).group q ≡ all_at set (Some (Transitional conf set)) (where_is g) q
unfolding split
split-place g set conf ascends regular q = parted set set g 1 conf ascends regular q

-- whoever the set doesn't name stands as it did
stayed : (set rest : List ℕ) (g : Group) (q : ℕ) → has rest q ≡ false →
    where_is (fold (become_transitional set) g rest) q ≡ where_is g q
unfolding become_transitional
stayed set [] g q out = refl
stayed set (p ∷ rest) g q out =
    let parts = or_parts (p == q) (has rest q) out in
    let new : Standing Msg = record {
      id = p;
      phase = Transitional (regular_in (phase_of g p)) set;
      delivered = delivered_to g p;
      unordered = [];
    } in
    stayed set rest (become_transitional set g p) q parts.1
    ∙ where-set g new q ∙ cond-false (q == p) (Some new.phase) (where_is g q) (eqb_comm q p ∙ parts.0)

pub split-other : (g : Group) (set : List ℕ) (q : ℕ) → has set q ≡ false → where_is (split g set).group q ≡ where_is g q
unfolding split
split-other g set q out = stayed set set g q out

-- ---- new configurations

joined : (conf : ℕ) (rest : List ℕ) (g : Group) (q : ℕ) →
    where_is (fold (become_regular conf) g rest) q ≡ all_at rest (Some (Regular conf)) (where_is g) q
unfolding become_regular
joined conf [] g q = refl
joined conf (p ∷ rest) g q =
    let new : Standing Msg = record { id = p; phase = Regular conf; delivered = 0; unordered = [] } in
    joined conf rest (become_regular conf g p) q
    ∙ ap (cond (has rest q) (Some (Regular conf))) (where-set g new q
    ∙ ap (λ b. cond b (Some (Regular conf)) (where_is g q)) (eqb_comm q p))
    ∙ merged (p == q) (has rest q) (Some (Regular conf)) (where_is g q)

-- the number of the configuration that is made next
abbrev pub next_conf : Group → ℕ
next_conf g = suc (length g.configurations)

pub merge-place : (g : Group) (set : List ℕ) (q : ℕ) →
    where_is (merge g set).group q ≡ all_at set (Some (Regular (next_conf g))) (where_is g) q
unfolding merge standing_of
merge-place g set q = joined (next_conf g) set _ q

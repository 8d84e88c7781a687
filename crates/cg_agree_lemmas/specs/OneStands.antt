-- One replica stands otherwise in a group, and all else is as before: what the changes of a standing and what is said make.
use Rattle.std.proofs.Common.{◌≡◌, ℕ, Bool, true, false, cond, List, [], ◌∷◌, ◌++◌, Option, Some, None, refl, sym, ap, ap₂, ◌∙◌, eq-eqb, is_some}
use Rattle.std.specs.Prelude.{◌==◌}
use Rattle.std.specs.Option.{option_map_or}
use Rattle.std.proofs.lemmas.Bool.{cond-true, cond_both}
use Rattle.cg_base.specs.BoolLaws.{cond_twice}
use Rattle.cg_wire.specs.declared.message.Msg.{Msg}
use Rattle.cg_group.specs.declared.phase.Phase.{Phase}
use Rattle.cg_group.specs.declared.phase.Phase.TheVariants.{Down, Alone, Regular, Transitional}
use Rattle.cg_group.specs.State.{Standing, GroupState, standing_of, phase_of, is_up, regular_in, set_standing, configuration, delivered_to}
use Rattle.cg_group.specs.Events.{come_up, go_down, become_regular, send_from, send, send_all, with_delivered}
use Rattle.cg_group.specs.LookupLaws.{at-cond, standing_of-set, phase_of-set, delivered_to-set, configuration-set_standing, standing_of-down}
use Rattle.cg_client.specs.Turn.{Turn, begin}
use Rattle.cg_model.specs.World.{NodeState, Up, Down as DownLife, Node, node_of}
use Rattle.cg_model.specs.Chronicle.{Chronicle}
use Rattle.cg_model.specs.Small.{turning_as, turning, become_past}
use Rattle.cg_agree_lemmas.specs.GroupTurn.{put-same, standing-id}

-- the replica's phase is that one now, it was handed so many places, and it is up or not
pub record Stands (g h : GroupState Msg) (p : ℕ) (now : Phase) (n : ℕ) (is : Bool) : Type 0 where
  pub conf : (k : ℕ) → configuration h k ≡ configuration g k
  pub phase : (q : ℕ) → phase_of h q ≡ cond (q == p) now (phase_of g q)
  pub delivered : (q : ℕ) → delivered_to h q ≡ cond (q == p) n (delivered_to g q)
  pub up : (q : ℕ) → is_up h q ≡ cond (q == p) is (is_up g q)

-- nothing has changed
pub stands-refl : (g : GroupState Msg) (p : ℕ) → Stands g g p (phase_of g p) (delivered_to g p) (is_up g p)
stands-refl g p = record {
  conf = λ k. refl;
  phase = λ q. sym (put-same (phase_of g) p (phase_of g p) refl q);
  delivered = λ q. sym (put-same (delivered_to g) p (delivered_to g p) refl q);
  up = λ q. sym (put-same (is_up g) p (is_up g p) refl q);
}

-- one change behind another of the same replica
pub stands-then : (f g h : GroupState Msg) (p : ℕ) (now later : Phase) (n m : ℕ) (is still : Bool) → Stands f g p now n is → Stands g h p later m still → Stands f h p later m still
stands-then f g h p now later n m is still a b = record {
  conf = λ k. b.conf k ∙ a.conf k;
  phase = λ q. b.phase q ∙ ap (cond (q == p) later) (a.phase q) ∙ cond_twice (q == p) later now (phase_of f q);
  delivered = λ q. b.delivered q ∙ ap (cond (q == p) m) (a.delivered q) ∙ cond_twice (q == p) m n (delivered_to f q);
  up = λ q. b.up q ∙ ap (cond (q == p) still) (a.up q) ∙ cond_twice (q == p) still is (is_up f q);
}

-- the replica stands as given
pub stands-set : (g : GroupState Msg) (s : Standing Msg) → Stands g (set_standing g s) s.id s.phase s.delivered true
stands-set g s = record {
  conf = λ k. configuration-set_standing g s k;
  phase = λ q. phase_of-set g s q;
  delivered = λ q. delivered_to-set g s q;
  up = λ q. ap is_some (standing_of-set g s q) ∙ at-cond (λ (o : Option (Standing Msg)). is_some o) (q == s.id) (Some s) (standing_of g q);
}

-- the replica that stood so stands as given, in its phase, and was handed as many places
pub stands-own : (g : GroupState Msg) (p : ℕ) (s new : Standing Msg) → standing_of g p ≡ Some s → new.id ≡ s.id → new.phase ≡ s.phase → (n : ℕ) → new.delivered ≡ n →
    Stands g (set_standing g new) p (phase_of g p) n (is_up g p)
stands-own g p s new e id phase n count =
    let own : new.id ≡ p = id ∙ standing-id g p s e in
    let was : phase_of g p ≡ s.phase = ap (λ (o : Option (Standing Msg)). option_map_or (λ s. s.phase) o Down) e in
    let there : is_up g p ≡ true = ap (λ (o : Option (Standing Msg)). is_some o) e in
    let set = stands-set g new in
    record {
      conf = set.conf;
      phase = λ q. set.phase q ∙ ap₂ (λ i x. cond (q == i) x (phase_of g q)) own (phase ∙ sym was);
      delivered = λ q. set.delivered q ∙ ap₂ (λ i x. cond (q == i) x (delivered_to g q)) own count;
      up = λ q. set.up q ∙ ap₂ (λ i x. cond (q == i) x (is_up g q)) own (sym there);
    }

stands-send_from : (g : GroupState Msg) (p : ℕ) (o : Option (Standing Msg)) (m : Msg) → standing_of g p ≡ o → Stands g (send_from g o m) p (phase_of g p) (delivered_to g p) (is_up g p)
unfolding send_from
stands-send_from g p None m e = stands-refl g p
stands-send_from g p (Some s) m e =
    let count : s.delivered ≡ delivered_to g p = sym (ap (λ (o : Option (Standing Msg)). option_map_or (λ s. s.delivered) o 0) e) in
    cond_both (regular_in s.phase == 0) g (set_standing g (record s { unordered = s.unordered ++ m ∷ [] })) (λ h. Stands g h p (phase_of g p) (delivered_to g p) (is_up g p))
    (λ y. stands-refl g p) (λ n. stands-own g p s (record s { unordered = s.unordered ++ m ∷ [] }) e refl refl (delivered_to g p) count)

-- what a replica stands in is the same behind another step that keeps it
pub stands-again : (f g h : GroupState Msg) (p : ℕ) (now : Phase) (n : ℕ) (is : Bool) → Stands f g p now n is → Stands g h p (phase_of g p) (delivered_to g p) (is_up g p) → Stands f h p now n is
stands-again f g h p now n is a b =
    let phase : phase_of g p ≡ now = a.phase p ∙ cond-true (p == p) now (phase_of f p) (same-number p) in
    let count : delivered_to g p ≡ n = a.delivered p ∙ cond-true (p == p) n (delivered_to f p) (same-number p) in
    let up : is_up g p ≡ is = a.up p ∙ cond-true (p == p) is (is_up f p) (same-number p) in
    stands-then f g h p now now n n is is a (record {
      conf = b.conf;
      phase = λ q. b.phase q ∙ ap (λ x. cond (q == p) x (phase_of g q)) phase;
      delivered = λ q. b.delivered q ∙ ap (λ x. cond (q == p) x (delivered_to g q)) count;
      up = λ q. b.up q ∙ ap (λ x. cond (q == p) x (is_up g q)) up;
    }) where
      same-number : (x : ℕ) → (x == x) ≡ true
      same-number x = eq-eqb x x refl

-- what a replica says changes neither phases nor counts
pub stands-sent : (p : ℕ) (ms : List Msg) (g : GroupState Msg) → Stands g (send_all g p ms) p (phase_of g p) (delivered_to g p) (is_up g p)
unfolding send
stands-sent p [] g = stands-refl g p
stands-sent p (m ∷ ms) g =
    let one = send_from g (standing_of g p) m in
    let first = stands-send_from g p (standing_of g p) m refl in
    stands-again g one (send_all one p ms) p (phase_of g p) (delivered_to g p) (is_up g p) first (stands-sent p ms one)

-- a replica is handed more places
pub stands-handed : (g : GroupState Msg) (p n : ℕ) → is_up g p ≡ true → Stands g (with_delivered g p n) p (phase_of g p) n true
stands-handed g p n there = at (standing_of g p) refl there where
  at : (o : Option (Standing Msg)) → standing_of g p ≡ o → is_some o ≡ true → Stands g (option_map_or (λ s. set_standing g (record s { delivered = n })) o g) p (phase_of g p) n true
  at None e no' = absurd (let clash : false ≡ true = no' in cc)
  at (Some s) e no' =
      let own = stands-own g p s (record s { delivered = n }) e refl refl n refl in
      record { conf = own.conf; phase = own.phase; delivered = own.delivered; up = λ q. own.up q ∙ ap (λ x. cond (q == p) x (is_up g q)) there }

pub stands-up : (g : GroupState Msg) (p : ℕ) → Stands g (come_up g p) p Alone 0 true
unfolding come_up
stands-up g p = stands-set g (record { id = p; phase = Alone; delivered = 0; unordered = [] })

pub stands-entered : (conf : ℕ) (g : GroupState Msg) (p : ℕ) → Stands g (become_regular conf g p) p (Regular conf) 0 true
unfolding become_regular
stands-entered conf g p = stands-set g (record { id = p; phase = Regular conf; delivered = 0; unordered = [] })

pub stands-parted : (g : GroupState Msg) (p : ℕ) (set : List ℕ) (own : ℕ) → Stands g (become_past g p set own) p (Transitional (regular_in (phase_of g p)) set) own true
stands-parted g p set own = stands-set g (record { id = p; phase = Transitional (regular_in (phase_of g p)) set; delivered = own; unordered = [] })

pub stands-down : (g : GroupState Msg) (p : ℕ) → Stands g (go_down g p) p Down 0 false
unfolding configuration go_down
stands-down g p = record {
  conf = λ k. refl;
  phase = λ q. behind (λ o. option_map_or (λ s. s.phase) o Down) q;
  delivered = λ q. behind (λ o. option_map_or (λ s. s.delivered) o 0) q;
  up = λ q. behind (λ o. is_some o) q;
} where
  behind : {Y : Type 0} (f : Option (Standing Msg) → Y) (q : ℕ) → f (standing_of (go_down g p) q) ≡ cond (q == p) (f None) (f (standing_of g q))
  behind f q = ap f (standing_of-down g p q) ∙ at-cond f (q == p) None (standing_of g q)

-- ---- a turn

stands-turning_as : (c : Chronicle) (p : ℕ) (part : Turn → Turn) (life : NodeState) →
    Stands c.world.group (turning_as c p part life).world.group p (phase_of c.world.group p) (delivered_to c.world.group p) (is_up c.world.group p)
stands-turning_as c p part (Up r disk) = stands-sent p (part (begin r)).sent c.world.group
stands-turning_as c p part (DownLife disk green) = stands-refl c.world.group p

-- a turn changes neither phases nor counts
pub stands-turning : (c : Chronicle) (p : ℕ) (part : Turn → Turn) →
    Stands c.world.group (turning c p part).world.group p (phase_of c.world.group p) (delivered_to c.world.group p) (is_up c.world.group p)
stands-turning c p part = at (node_of c.world p) where
  at : (o : Option Node) → Stands c.world.group (option_map_or (λ s. turning_as c p part s.life) o c).world.group p (phase_of c.world.group p) (delivered_to c.world.group p) (is_up c.world.group p)
  at None = stands-refl c.world.group p
  at (Some s) = stands-turning_as c p part s.life

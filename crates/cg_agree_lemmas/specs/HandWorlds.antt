-- A member is handed places, one after another: so many small steps lead where it comes with all of them in one turn.
use Rattle.std.proofs.Common.{◌≡◌, ℕ, zero, suc, ◌+◌, ◌-◌, ◌≤◌, Bool, true, false, cond, not, List, [], ◌∷◌, ◌++◌, Option, Some, length, replicate, refl, sym, ap, ap₂, ◌∙◌, subst, nat_lt, arith}
use Rattle.std.specs.Prelude.{◌==◌}
use Rattle.std.specs.Option.{option_map_or}
use Rattle.std.specs.List.{prefix_len}
use Rattle.std.proofs.lemmas.Bool.{and_from, lt-ltb}
use Rattle.std.proofs.lemmas.List.{append_assoc}
use Rattle.cg_base.specs.Lists.{count_up}
use Rattle.cg_wire.specs.declared.message.Msg.{Msg}
use Rattle.cg_group.specs.declared.phase.Phase.{Phase}
use Rattle.cg_group.specs.declared.phase.Phase.TheVariants.{Down}
use Rattle.cg_group.specs.declared.delivery.Delivery.{Delivery}
use Rattle.cg_group.specs.State.{Standing, Configuration, GroupState, standing_of, configuration, phase_of, regular_in, is_regular, home, delivered_to, set_standing}
use Rattle.cg_group.specs.Ready.{all_received, ready_in, ready}
use Rattle.cg_group.specs.Events.{with_delivered, delivery_at, deliveries_at}
use Rattle.cg_group.specs.LookupLaws.{standing_of-set, put-same as put-here}
use Rattle.cg_client.specs.Turn.{Turn, begin}
use Rattle.cg_client.specs.Requests.{settle}
use Rattle.cg_states.specs.ReplicaStep.{after_delivery}
use Rattle.cg_disk_records.specs.Crash.{Disk}
use Rattle.cg_model.specs.World.{World}
use Rattle.cg_model.specs.Small.{Hands, Settles, take_all, take_next}
use Rattle.cg_model.specs.Smalls.{may_make}
use Rattle.cg_agree_lemmas.specs.Parts.{IsPart}
use Rattle.cg_agree_lemmas.specs.PartsTaken.{part-take_all, part-settle}
use Rattle.cg_agree_lemmas.specs.GroupChanges.{set-twice, sent-waits}
use Rattle.cg_agree_lemmas.specs.TurnWorlds.{hosted, turn-next}
use Rattle.cg_agree_lemmas.specs.SmallWorlds.{grouped, turning_in, small_in, may_in, played_in, MayIn}

-- ---- places that are ready

-- behind one more place one fewer is ready
pub ready-next : (c : Configuration Msg) (d k : ℕ) → suc k ≤ ready_in c d → k ≤ ready_in c (suc d)
unfolding ready_in
ready-next c d k some = at (length c.ordered - d) (length c.ordered - suc d) (omega arith) some where
  at : (m n : ℕ) → n ≡ m - 1 → suc k ≤ prefix_len (all_received c) (count_up (suc d) m) → k ≤ prefix_len (all_received c) (count_up (suc (suc d)) n)
  at zero n e le = absurd (let more : suc k ≤ 0 = le in omega arith)
  at (suc m) n e le =
      let same : n ≡ m = (let f : n ≡ suc m - 1 = e in omega arith) in
      let rest = prefix_len (all_received c) (count_up (suc (suc d)) m) in
      let first : suc k ≤ cond (all_received c (suc d)) (1 + rest) 0 = le in
      rw same (one (all_received c (suc d)) rest first) where
        one : (b : Bool) (n : ℕ) → suc k ≤ cond b (1 + n) 0 → k ≤ n
        one true n le = let f : suc k ≤ 1 + n = le in omega arith
        one false n le = absurd (let f : suc k ≤ 0 = le in omega arith)

pub ready-later : (c : Configuration Msg) (n d k : ℕ) → n + k ≤ ready_in c d → k ≤ ready_in c (d + n)
ready-later c zero d k some = let same : d + 0 ≡ d = omega arith in rw same (let le : 0 + k ≤ ready_in c d = some in omega arith)
ready-later c (suc n) d k some =
    let same : d + suc n ≡ suc d + n = omega arith in
    rw same (ready-later c n (suc d) k (ready-next c d (n + k) (let le : suc n + k ≤ ready_in c d = some in omega arith)))

-- ---- the places in their order

pub taken-append : (xs ys : List (Delivery Msg)) (t : Turn) → take_all (xs ++ ys) t ≡ take_all ys (take_all xs t)
taken-append [] ys t = refl
taken-append (x ∷ xs) ys t = taken-append xs ys (after_delivery t x)

-- a replica that stands so is regular in a configuration, and has said this so far in its turn
module _ (w : World) (g : GroupState Msg) (p : ℕ) (disk : Disk) (s : Standing Msg) (named : s.id ≡ p) (regular : (regular_in s.phase == 0) ≡ false) where
  abbrev pub standing : Turn → ℕ → Standing Msg
  standing t n = record s { delivered = n; unordered = s.unordered ++ t.sent }

  abbrev pub handed_to : Turn → ℕ → World
  handed_to t n = hosted w p t.replica disk (set_standing g (standing t n))

  abbrev conf : Configuration Msg
  conf = configuration g (regular_in s.phase)

  stands : (t : Turn) (n : ℕ) → standing_of (set_standing g (standing t n)) p ≡ Some (standing t n)
  stands t n = ap (standing_of (set_standing g (standing t n))) (sym named) ∙ standing_of-set g (standing t n) s.id ∙ put-here (standing_of g) s.id (Some (standing t n))

  pub phase-stands : (t : Turn) (n : ℕ) → phase_of (set_standing g (standing t n)) p ≡ s.phase
  phase-stands t n = ap (λ (o : Option (Standing Msg)). option_map_or (λ s. s.phase) o Down) (stands t n)

  pub delivered-stands : (t : Turn) (n : ℕ) → delivered_to (set_standing g (standing t n)) p ≡ n
  delivered-stands t n = ap (λ (o : Option (Standing Msg)). option_map_or (λ s. s.delivered) o 0) (stands t n)

  pub home-stands : (t : Turn) (n : ℕ) → home (set_standing g (standing t n)) p ≡ conf
  unfolding configuration set_standing
  home-stands t n = ap (λ (x : Phase). configuration g (regular_in x)) (phase-stands t n)

  -- a part of the turn, with so many places handed
  pub part-waits : (t : Turn) (n : ℕ) (part : Turn → Turn) → IsPart part →
      turning_in (hosted w p t.replica disk (set_standing g (standing t n))) p part ≡ handed_to (part t) n
  part-waits t n part is =
      let u = part (begin t.replica) in
      turn-next w (set_standing g (standing t n)) p t.replica disk part
      ∙ ap (hosted w p u.replica disk) (sent-waits u.sent g (standing t n) p named regular
      ∙ ap (λ xs. set_standing g (record s { delivered = n; unordered = xs })) (append_assoc s.unordered t.sent u.sent))
      ∙ ap (λ (x : Turn). hosted w p x.replica disk (set_standing g (record s { delivered = n; unordered = s.unordered ++ x.sent }))) (sym (is t))

  pub settles : (t : Turn) (n : ℕ) → small_in (handed_to t n) (Settles p) ≡ handed_to (settle t) n
  unfolding small_in
  settles t n = part-waits t n settle part-settle

  pub hands : (t : Turn) (n : ℕ) → small_in (handed_to t n) (Hands p) ≡ handed_to (take_all (delivery_at conf (suc n)) t) (suc n)
  unfolding small_in
  hands t n =
      let h = set_standing g (standing t n) in
      let given : with_delivered h p (suc (delivered_to h p)) ≡ set_standing g (standing t (suc n)) =
      ap (λ k. with_delivered h p (suc k)) (delivered-stands t n)
      ∙ ap (λ (o : Option (Standing Msg)). option_map_or (λ s. set_standing h (record s { delivered = suc n })) o h) (stands t n)
      ∙ set-twice g (standing t n) (standing t (suc n)) refl in
      let next : take_next h p ≡ take_all (delivery_at conf (suc n)) =
      ap₂ (λ (c : Configuration Msg) k. take_all (delivery_at c (suc k))) (home-stands t n) (delivered-stands t n) in
      ap₂ (λ f part. turning_in (grouped (handed_to t n) f) p part) given next
      ∙ part-waits t (suc n) (take_all (delivery_at conf (suc n))) (part-take_all (delivery_at conf (suc n)))

  pub may-hand : (t : Turn) (n : ℕ) → 1 ≤ ready_in conf n → may_in (handed_to t n) (Hands p) ≡ true
  unfolding may_in may_make
  may-hand t n some =
      let h = set_standing g (standing t n) in
      and_from (is_regular h p) (nat_lt 0 (ready h p))
      (ap (λ (x : Phase). not (regular_in x == 0)) (phase-stands t n) ∙ ap not regular)
      (ap₂ (λ c k. nat_lt 0 (ready_in c k)) (home-stands t n) (delivered-stands t n) ∙ lt-ltb 0 (ready_in conf n) (omega arith))

  -- all of them
  pub hands-all : (k : ℕ) (t : Turn) (n : ℕ) → k ≤ ready_in conf n →
      MayIn (handed_to t n) (replicate k (Hands p)) × (played_in (handed_to t n) (replicate k (Hands p)) ≡ handed_to (take_all (deliveries_at conf (count_up (suc n) k)) t) (n + k))
  hands-all zero t n some = (tt, ap (handed_to t) (let same : n ≡ n + 0 = omega arith in same))
  hands-all (suc k) t n some =
      let one = take_all (delivery_at conf (suc n)) t in
      let step = hands t n in
      let rest = hands-all k one (suc n) (ready-next conf n k some) in
      let count : suc n + k ≡ n + suc k = omega arith in
      let list = sym (taken-append (delivery_at conf (suc n)) (deliveries_at conf (count_up (suc (suc n)) k)) t) in (
        (may-hand t n (let le : suc k ≤ ready_in conf n = some in omega arith), subst (λ v. MayIn v (replicate k (Hands p))) (sym step) rest.0),
        ap (λ v. played_in v (replicate k (Hands p))) step ∙ rest.1 ∙ ap₂ handed_to list count,
      )

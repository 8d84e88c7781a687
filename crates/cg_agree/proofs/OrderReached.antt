-- Behind each event the greens of a replica that is up are a prefix of the order, and those that it keeps are the prefix's behind its
-- white count; and what stands in the order was shown as made.
use Rattle.std.proofs.Common.{◌≡◌, ℕ, zero, suc, ◌≤◌, true, List, [], ◌∷◌, take, drop, length, Option, Some, IfSome, Contains, refl, sym, ap, ◌∙◌, subst, arith}
use Rattle.std.specs.Prelude.{nat_le}
use Rattle.cg_base.specs.Lists.{Each}
use Rattle.cg_base.specs.EachLaws.{Each-list_all}
use Rattle.cg_base.specs.declared.action_id.ActionId.{ActionId}
use Rattle.cg_base.specs.Ids.{has_name}
use Rattle.cg_base.specs.Cuts.{index_in, raise}
use Rattle.cg_action.specs.declared.action.Action.{Action}
use Rattle.cg_queue.specs.Queue.{names_of, green_count}
use Rattle.cg_client.specs.Replica.{Replica}
use Rattle.cg_model.specs.World.{World, replica_of}
use Rattle.cg_model.specs.Run.{Step}
use Rattle.cg_model.specs.Shown.{made_names}
use Rattle.cg_model.specs.Agreement.{Reaches}
use Rattle.cg_model.specs.Chronicle.{Chronicle}
use Rattle.cg_model.specs.Fronts.{Front}
use Rattle.cg_model.specs.Looks.{greens_of}
use Rattle.cg_model.specs.FactsReplica.{IsCore}
use Rattle.cg_model.specs.Played.{StandsBeside}
use Rattle.cg_agree_lemmas.specs.FrontFacts.{Front-length, take-Front}
use Rattle.cg_agree_lemmas.specs.HeldMarks.{counted}
use Rattle.cg_disk_records.specs.Holds.{run_on}
use Rattle.cg_agree.proofs.CreatorNumbered.{order-runs}
use Rattle.cg_agree.proofs.MadeTold.{IsMadeTold, made-told}
use Rattle.cg_disk_records.specs.RunMarkLaws.{run-head, run-rest}
use Rattle.cg_base.specs.ElementLaws.{each-contains}
use Rattle.cg_agree_lemmas.specs.MadeThere.{contains-named}
use Rattle.cg_queue.specs.NameLaws.{names-count}

pub names-drop : (n : ℕ) (list : List Action) → names_of (drop n list) ≡ drop n (names_of list)
names-drop zero list = refl
names-drop (suc n) [] = refl
names-drop (suc n) (a ∷ list) = names-drop n list

module _ (c : Chronicle) (w : World) (stands : StandsBeside c w) where
  -- the greens of a replica that is up
  pub record IsInOrder (p : ℕ) (r : Replica) : Type 0 where
    pub core : IsCore c r.held (greens_of c p)
    pub count : green_count r.held.queue ≡ length (greens_of c p)
    pub front : Front (names_of (greens_of c p)) w.order

  pub in-order : (p : ℕ) (r : Replica) → replica_of w p ≡ Some r → IsInOrder p r
  in-order p r runs =
      let here : replica_of c.world p ≡ Some r = sym (stands.same.running p) ∙ runs in
      let core = subst (λ (o : Option Replica). IfSome o (λ r. IsCore c r.held (greens_of c p))) here (stands.facts.replica.cores.memory p) in
      record {
        core = core;
        count = counted c.start r.held (greens_of c p) (record { made_of = core.made_of; contiguous = core.contiguous; yellow_closed = core.yellow_closed });
        front = subst (λ (o : Option Replica). IfSome o (λ r. Front (names_of (greens_of c p)) w.order)) runs (stands.rests.order_book.up p);
      }

  pub within-order : (p : ℕ) (r : Replica) → replica_of w p ≡ Some r → green_count r.held.queue ≤ length w.order
  within-order p r runs =
      let is = in-order p r runs in
      let count = is.count in
      let short = Front-length (names_of (greens_of c p)) w.order is.front in
      let named = names-count (greens_of c p) in
      omega arith

  pub reaches-order : (p : ℕ) (r : Replica) → replica_of w p ≡ Some r → Reaches r.held.queue w.order
  reaches-order p r runs =
      let is = in-order p r runs in
      let greens = greens_of c p in
      let q = r.held.queue in
      let prefix : names_of greens ≡ take (green_count q) w.order =
      take-Front (names_of greens) w.order is.front ∙ ap (λ n. take n w.order) (names-count greens ∙ sym is.count) in
      (within-order p r runs, ap names_of is.core.made_of.kept ∙ names-drop q.white greens ∙ ap (drop q.white) prefix)

-- ---- made before

-- each name of a run has an index
pub run-some : (cut ids : List ActionId) → run_on cut ids ≡ true → Each (λ id. 1 ≤ id.index) ids
run-some cut [] run = tt
run-some cut (id ∷ ids) run = ((let next : id.index ≡ suc (index_in cut id.creator) = run-head cut id ids run in omega arith), run-some (raise cut id) ids (run-rest cut id ids run))

pub named-each : (steps : List Step) (c : Chronicle) (w : World) → IsMadeTold steps c w → (ids : List ActionId) → Each (λ id. 1 ≤ id.index) ids → Each (λ id. nat_le id.index (index_in w.made id.creator) ≡ true) ids →
    Each (λ id. has_name (made_names steps) id ≡ true) ids
named-each steps c w told [] some made = tt
named-each steps c w told (id ∷ ids) some made = (made-told steps c w told id some.0 ∙ made.0, named-each steps c w told ids some.1 made.1)

-- each name in the order was shown as made
pub order-named : (steps : List Step) (c : Chronicle) (w : World) → StandsBeside c w → IsMadeTold steps c w → Each (λ id. has_name (made_names steps) id ≡ true) w.order
order-named steps c w stands told =
    named-each steps c w told w.order (run-some [] w.order (order-runs c w stands))
    (Each-list_all (λ (x : ActionId). nat_le x.index (index_in w.made x.creator)) w.order stands.rests.order_book.made)

pub ordered-made : (steps : List Step) (c : Chronicle) (w : World) → StandsBeside c w → IsMadeTold steps c w → (id : ActionId) → Contains w.order id → Contains (made_names steps) id
ordered-made steps c w stands told id there =
    contains-named (made_names steps) id (each-contains (λ (x : ActionId). has_name (made_names steps) x ≡ true) w.order id (order-named steps c w stands told) there)

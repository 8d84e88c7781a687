-- In an attempt that isn't installed names are yellow only where the yellow list is valid: behind each small step.
use Rattle.std.proofs.Common.{◌≡◌, ℕ, Bool, true, false, cond, List, [], ◌∷◌, find, fold, Option, Some, None, IfSome, option_and_then, refl, sym, ap, ◌∙◌, subst, inl, inr}
use Rattle.std.specs.Prelude.{◌==◌}
use Rattle.std.specs.Option.{option_map_or}
use Rattle.std.proofs.lemmas.Bool.{and_parts, false_from_ne_true}
use Rattle.cg_base.specs.declared.weighted.Weighted.{Weighted}
use Rattle.cg_base.specs.Text.{is_nil}
use Rattle.cg_base.specs.Weights.{ids}
use Rattle.cg_client.specs.Replica.{Held, Replica, fresh}
use Rattle.cg_client.specs.Turn.{Turn, begin}
use Rattle.cg_client.specs.Requests.{settle}
use Rattle.cg_disk_records.specs.Stored.{stored_of, whiten}
use Rattle.cg_disk_records.specs.Crash.{Disk, new_disk, at_rest, recovered, disk_recovered}
use Rattle.cg_model.specs.World.{NodeState, Up, Down, Node, World, running, node_of, replica_of}
use Rattle.cg_model.specs.Step.{begin_replica, joiner_replica, name_also, without_snapshot}
use Rattle.cg_model.specs.Chronicle.{Chronicle, no_chronicle}
use Rattle.cg_model.specs.Fronts.{When}
use Rattle.cg_model.specs.Looks.{snapshot_of}
use Rattle.cg_model.specs.FactsReplica.{is_attempting}
use Rattle.cg_model.specs.FactsAttempts.{YellowValid}
use Rattle.cg_model.specs.Facts.{Invariant}
use Rattle.cg_model.specs.Small.{Small, Starts, Makes, Enters, Orders, Receives, Hands, Leaves, Asks, Settles, Commits, Crashes, Recovers, Copies, Joins, small_step, start, turning, turning_as, after_turn, coming, handed_next, leaving, take_newest, take_next, take_parting, take_request, commit_as, crash_as, recover_as, copy_as, join_with}
use Rattle.cg_model.specs.Smalls.{may_make, is_set}
use Rattle.cg_agree_lemmas.specs.AttemptsTurn.{ends-exchanging}
use Rattle.cg_agree.proofs.BegunKept.{nothing-before}
use Rattle.cg_agree.proofs.BuiltThere.{built}
use Rattle.cg_agree_lemmas.specs.CoresKept.{node-of}
use Rattle.cg_agree_lemmas.specs.HandsNow.{HandsNow, hands-now, new, hand-turned, running-now}
use Rattle.cg_agree_lemmas.specs.PlanEnd.{AtPlanEnd, plan-end, is_behind}
use Rattle.cg_agree_lemmas.specs.ReachWorld.{when-is}
use Rattle.cg_agree_lemmas.specs.RecordKept.{same-replica, enters-between}
use Rattle.cg_agree.proofs.TalkAlone.{replica-set, recovered-state}
use Rattle.cg_agree_lemmas.specs.TurnKinds.{IsQuiet, HasInstalled, Turned, Quiet, Installs, Decides, Attempts}
use Rattle.cg_agree_lemmas.specs.TurnParts.{HasParted, never-both, settle-quiet, request-quiet, parting-turned, newest-come}
use Rattle.cg_agree_lemmas.specs.ListStill.{when-from}
use Rattle.cg_agree_lemmas.specs.PartsNamed.{none-invalid}

abbrev HasValid : Replica → Type 0
HasValid r = When (is_attempting r.state) (r.held.yellow_valid ≡ false → r.held.queue.yellow ≡ [])

not-attempting : (r : Replica) → is_attempting r.state ≡ false → HasValid r
not-attempting r isnt = when-from (is_attempting r.state) (r.held.yellow_valid ≡ false → r.held.queue.yellow ≡ []) (λ is. absurd (let clash : true ≡ false = sym is ∙ isnt in cc))

quiet-valid : (r new' : Replica) → IsQuiet r new' → HasValid r → HasValid new'
quiet-valid r new' quiet valid = when-from (is_attempting new'.state) (new'.held.yellow_valid ≡ false → new'.held.queue.yellow ≡ []) (λ is none.
    let was = sym quiet.attempting ∙ is in
    ap (λ q. q.yellow) (quiet.still was).queue ∙ when-is (is_attempting r.state) (r.held.yellow_valid ≡ false → r.held.queue.yellow ≡ []) was valid (sym quiet.values.yellow_valid ∙ none))

installed-valid : (r new' : Replica) → HasInstalled r new' → HasValid new'
installed-valid r new' done = not-attempting new' (false_from_ne_true (is_attempting new'.state) (λ is. never-both new'.state is done.after))

-- ---- nodes

set-kept : (c d : Chronicle) (p : ℕ) (life : NodeState) → ((q : ℕ) → replica_of d.world q ≡ cond (q == p) (running life) (replica_of c.world q)) → IfSome (running life) HasValid → YellowValid c → YellowValid d
set-kept c d p life now own old q = subst (λ (o : Option Replica). IfSome o HasValid) (sym (now q)) (either (q == p) (old q)) where
  either : (b : Bool) → IfSome (replica_of c.world q) HasValid → IfSome (cond b (running life) (replica_of c.world q)) HasValid
  either true is = own
  either false is = is

turn-valid : (c b : Chronicle) (p : ℕ) (part : Turn → Turn) → b.world.nodes ≡ c.world.nodes →
    ((r : Replica) (disk : Disk) → node_of c.world p ≡ Some (record { id = p; life = Up r disk }) → HasValid r → HasValid (part (begin r)).replica) → YellowValid c → YellowValid (turning b p part)
turn-valid c b p part nodes keeps old = at (node_of b.world p) refl where
  before : YellowValid b
  before q = subst (λ (xs : List Node). IfSome (option_and_then (λ (s : Node). running s.life) (find (λ s. s.id == q) xs)) HasValid) (sym nodes) (old q)

  life : (s : Node) (l : NodeState) → s.life ≡ l → node_of b.world p ≡ Some s → YellowValid (turning_as b p part l)
  life s (Down disk green) is e = before
  life s (Up r disk) is e =
      let node = node-of b p s (Up r disk) is e in
      let here = ap (λ (xs : List Node). find (λ s. s.id == p) xs) (sym nodes) ∙ node in
      let own : HasValid r = subst (λ (o : Option Replica). IfSome o HasValid) (ap (λ (o : Option Node). option_and_then (λ s. running s.life) o) node) (before p) in
      set-kept b (after_turn b p r disk (part (begin r))) p (Up (part (begin r)).replica disk) (λ q. replica-set b.world p (Up (part (begin r)).replica disk) q) (keeps r disk here own) before

  at : (o : Option Node) → node_of b.world p ≡ o → YellowValid (option_map_or (λ s. turning_as b p part s.life) o b)
  at None e = before
  at (Some s) e = life s s.life refl e

-- ---- a place that is handed

hands-valid : (c : Chronicle) (p : ℕ) (i : Invariant c) (may : may_make c (Hands p) ≡ true) (n : HandsNow c p) → HasValid n.replica → HasValid (new c p i n)
hands-valid c p i may n valid = at (hand-turned c p i n) where
  at : Turned n.replica (new c p i n) n.next.message → HasValid (new c p i n)
  at (Quiet quiet) = quiet-valid n.replica (new c p i n) quiet valid
  at (Installs done) = installed-valid n.replica (new c p i n) done
  at (Decides conf heard ends decided) = not-attempting (new c p i n) (ap is_attempting decided.state)
  at (Attempts conf heard ends attempted) =
      let end = plan-end c p i n conf heard ends attempted.remains (ap is_behind attempted.state) in
      let b = built c p i may n (ends-exchanging n.replica.state n.next.message conf heard ends) conf heard (subst (λ k. AtPlanEnd c p n.replica k heard) end.0 end.1) attempted in
      when-from (is_attempting (new c p i n).state) ((new c p i n).held.yellow_valid ≡ false → (new c p i n).held.queue.yellow ≡ [])
      (λ is none. ap (λ y. y.list) b.yellow ∙ none-invalid heard (sym (ap (λ y. y.valid) b.yellow) ∙ none))

-- ---- each small step

commit-valid : (c : Chronicle) (p : ℕ) → YellowValid c → (s : Node) → node_of c.world p ≡ Some s → (l : NodeState) → s.life ≡ l → YellowValid (commit_as c p l)
unfolding whiten
commit-valid c p old s e (Down disk green) is = old
commit-valid c p old s e (Up r disk) is =
    let life : NodeState = Up (record r { held = whiten r.held }) (record disk { content = stored_of (whiten r.held) }) in
    let own : HasValid r = subst (λ (o : Option Replica). IfSome o HasValid) (ap (λ (o : Option Node). option_and_then (λ s. running s.life) o) (node-of c p s (Up r disk) is e)) (old p) in
    set-kept c (commit_as c p (Up r disk)) p life (λ q. replica-set c.world p life q) own old

crash-valid : (c : Chronicle) (p : ℕ) → YellowValid c → (l : NodeState) → YellowValid (crash_as c p l)
crash-valid c p old (Down disk green) = old
crash-valid c p old (Up r disk) = set-kept c (crash_as c p (Up r disk)) p (Down (at_rest disk) []) (λ q. replica-set c.world p (Down (at_rest disk) []) q) tt old

recover-valid : (c : Chronicle) → YellowValid c → (l : NodeState) → YellowValid (recover_as c l)
recover-valid c old (Up r disk) = old
recover-valid c old (Down disk green) =
    let life : NodeState = Up (recovered disk) (disk_recovered disk) in
    set-kept c (recover_as c (Down disk green)) (recovered disk).held.id life (λ q. replica-set c.world (recovered disk).held.id life q) (not-attempting (recovered disk) (ap is_attempting (recovered-state disk))) old

join-valid : (c : Chronicle) (joiner : ℕ) → YellowValid c → (content : Held) → YellowValid (join_with c joiner content)
join-valid c joiner old content =
    let r = joiner_replica joiner content in
    let life : NodeState = Up r (new_disk r.held) in
    set-kept c (join_with c joiner content) joiner life (λ q. replica-set (without_snapshot c.world joiner) joiner life q) tt old

some-valid : {X : Type 0} (o : Option X) (change : X → Chronicle) (c : Chronicle) → YellowValid c → ((x : X) → o ≡ Some x → YellowValid (change x)) → YellowValid (option_map_or change o c)
some-valid None change c old each = old
some-valid (Some x) change c old each = each x refl

-- at the start nobody is in an attempt
fresh-valid : (set : List Weighted) (list : List ℕ) (w : World) → ((q : ℕ) → IfSome (replica_of w q) HasValid) → (q : ℕ) → IfSome (replica_of (fold (begin_replica set) w list) q) HasValid
fresh-valid set [] w none = none
fresh-valid set (p ∷ list) w none = fresh-valid set list (begin_replica set w p) (λ q.
    let r = fresh p set in
    subst (λ (o : Option Replica). IfSome o HasValid) (sym (replica-set (name_also w p) p (Up r (new_disk r.held)) q)) (either (q == p) (replica_of w q) (none q))) where
      either : (b : Bool) (o : Option Replica) → IfSome o HasValid → IfSome (cond b (Some (fresh p set)) o) HasValid
      either true o none = tt
      either false o none = none

starts-valid : (c : Chronicle) (set : List Weighted) → c ≡ no_chronicle → YellowValid (start c set)
starts-valid c set is = subst (λ (x : Chronicle). YellowValid (start x set)) (sym is) (fresh-valid set (ids set) no_chronicle.world (λ q. tt))

pub yellow_valid-kept : (c : Chronicle) (s : Small) → Invariant c → may_make c s ≡ true → YellowValid c → YellowValid (small_step c s)
unfolding small_step may_make
yellow_valid-kept c (Starts set) i may old = starts-valid c set (nothing-before c i.net.hosted (and_parts (is_nil c.world.nodes) (is_set (ids set)) may).0)
yellow_valid-kept c (Makes set) i may old = old
yellow_valid-kept c (Enters p) i may old = turn-valid c (coming c p) p (take_newest c.world.group) refl (λ r disk node valid.
    (let come = newest-come c.world.group r (enters-between c p r (ap (λ (o : Option Node). option_and_then (λ s. running s.life) o) node) may) in
    not-attempting (take_newest c.world.group (begin r)).replica (ap is_attempting come.state))) old
yellow_valid-kept c (Orders p) i may old = old
yellow_valid-kept c (Receives p place) i may old = old
yellow_valid-kept c (Hands p) i may old = turn-valid c (handed_next c p) p (take_next c.world.group p) refl (λ r disk node valid.
    (let n = hands-now c p i may in
    let same = same-replica c p r n.replica disk node (running-now c p i n) in
    subst (λ (r : Replica). HasValid (take_next c.world.group p (begin r)).replica) (sym same) (hands-valid c p i may n (subst HasValid same valid)))) old
yellow_valid-kept c (Leaves p set own places) i may old = turn-valid c (leaving c p set own) p (take_parting c.world.group p set places) refl (λ r disk node valid.
    parted r (take_parting c.world.group p set places (begin r)).replica valid (parting-turned c.world.group p set places r)) old where
      parted : (r new' : Replica) → HasValid r → HasParted r new' → HasValid new'
      parted r new' valid (inl quiet) = quiet-valid r new' quiet valid
      parted r new' valid (inr done) = installed-valid r new' done
yellow_valid-kept c (Asks p kind) i may old = turn-valid c c p (take_request kind) refl (λ r disk node valid. quiet-valid r (take_request kind (begin r)).replica (request-quiet kind r) valid) old
yellow_valid-kept c (Settles p) i may old = turn-valid c c p settle refl (λ r disk node valid. quiet-valid r (settle (begin r)).replica (settle-quiet r) valid) old
yellow_valid-kept c (Commits p) i may old = some-valid (node_of c.world p) (λ s. commit_as c p s.life) c old (λ s e. commit-valid c p old s e s.life refl)
yellow_valid-kept c (Crashes p) i may old = some-valid (node_of c.world p) (λ s. crash_as c p s.life) c old (λ s e. crash-valid c p old s.life)
yellow_valid-kept c (Recovers p) i may old = some-valid (node_of c.world p) (λ s. recover_as c s.life) c old (λ s e. recover-valid c old s.life)
yellow_valid-kept c (Copies p joiner) i may old = some-valid (replica_of c.world p) (copy_as c p joiner) c old (λ r e. old)
yellow_valid-kept c (Joins joiner) i may old = some-valid (snapshot_of c.world joiner) (λ s. join_with c joiner s.content) c old (λ s e. join-valid c joiner old s.content)

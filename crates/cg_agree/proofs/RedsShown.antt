-- What is red at a replica that is up was shown as made: all is in the book, of a creator that is up that counts what was shown, and of one
-- that is down nobody else has more.
use Rattle.std.proofs.Common.{◌≡◌, ℕ, ◌≤◌, false, List, [], ◌∷◌, ◌++◌, Option, Some, None, IfSome, is_some, option_and_then, option_map, refl, sym, ap, ◌∙◌, subst, arith}
use Rattle.cg_base.specs.Cuts.{index_in}
use Rattle.cg_action.specs.declared.action.Action.{Action}
use Rattle.cg_base.specs.Lists.{Each}
use Rattle.cg_base.specs.EachLaws.{Each-front}
use Rattle.cg_client.specs.Replica.{Replica}
use Rattle.cg_model.specs.FactsBooks.{IsActionShown, KeepsUnshown, MadeFits, OrderFits, NodeIsDown, NodeShown}
use Rattle.cg_model.specs.World.{NodeState, Up, Down, Node, World, no_world, running, has_begun, node_of, replica_of}
use Rattle.cg_model.specs.Show.{Moved}
use Rattle.cg_model.specs.Run.{Step, IsRunFrom, world_after}
use Rattle.cg_model.specs.Chronicle.{Chronicle, no_chronicle}
use Rattle.cg_model.specs.Noting.{chronicle_step, chronicle_after}
use Rattle.cg_model.specs.Agreement.{through}
use Rattle.cg_model.specs.FactsReplica.{AreBooked}
use Rattle.cg_model.specs.Looks.{on_disk}
use Rattle.cg_model.specs.Played.{StandsBeside, AlwaysHolds}
use Rattle.cg_agree_lemmas.specs.BookGrows.{IsNamed, cut_of}
use Rattle.cg_agree_lemmas.specs.BookedCores.{each-booked}
use Rattle.cg_agree.proofs.CreatorNumbered.{stands-of}
use Rattle.cg_agree_lemmas.specs.HandsKept.{hosted}
use Rattle.cg_agree.proofs.MadeBookKept.{nothing-made, event-made}
use Rattle.cg_agree_lemmas.specs.NothingStands.{nothing-stands}
use Rattle.cg_agree.proofs.OrdersKept.{orders-kept}
use Rattle.cg_agree.proofs.OthersBooked.{booked-index, booked-made}
use Rattle.cg_agree.proofs.RunForward.{IsStepOf, of-run}

-- what is red at a replica that is up was shown as made
abbrev pub AreRedsShown : World → Type 0
AreRedsShown w = (p : ℕ) (r : Replica) → replica_of w p ≡ Some r → Each (λ (a : Action). a.id.index ≤ index_in w.made a.id.creator) r.held.queue.reds

module _ (c : Chronicle) (w : World) (stands : StandsBeside c w) (fits : MadeFits w) (order : OrderFits c w) where
  not-begun : (q : ℕ) → node_of w q ≡ None → has_begun c.world q ≡ false
  not-begun q none =
      sym (mapped (node_of c.world q)) ∙ ap is_some (sym (stands.same.disk q)) ∙ ap (λ (o : Option Node). is_some (option_map (λ s. on_disk s.life) o)) none where
        mapped : (o : Option Node) → is_some (option_map (λ s. on_disk s.life) o) ≡ is_some o
        mapped None = refl
        mapped (Some s) = refl

  -- of whom is down, others have no more than was shown
  abbrev pub OthersLow : Action → Type 0
  OthersLow a = NodeIsDown (node_of w a.id.creator) → a.id.index ≤ index_in w.made a.id.creator

  one-low : (a : Action) → IsNamed c.book a → OthersLow a → a.id.index ≤ index_in w.made a.id.creator
  one-low a booked others = at (node_of w a.id.creator) refl where
    index : a.id.index ≤ index_in (cut_of c.book) a.id.creator
    index = booked-index c stands.facts a booked

    life : (s : Node) (l : NodeState) → node_of w a.id.creator ≡ Some s → s.life ≡ l → a.id.index ≤ index_in w.made a.id.creator
    life s (Up r disk) e is =
        let low = index in
        let count = booked-made c w stands.facts stands.same fits a.id.creator r (ap (option_and_then (λ (s : Node). running s.life)) e ∙ ap running is) in
        omega arith
    life s (Down disk green) e is =
        others (subst NodeIsDown (sym e) (down s (Down disk green) is)) where
          down : (s : Node) (l : NodeState) → s.life ≡ Down disk green → NodeIsDown (Some s)
          down s l is = subst (λ (l : NodeState). NodeIsDown (Some (let x : Node = record { id = s.id; life = l } in x))) (sym is) tt

    at : (o : Option Node) → node_of w a.id.creator ≡ o → a.id.index ≤ index_in w.made a.id.creator
    at None e = let low = index in let none : index_in (cut_of c.book) a.id.creator ≡ 0 = stands.facts.replica.origins.unbegun a.id.creator (not-begun a.id.creator e) in omega arith
    at (Some s) e = life s s.life e refl

  pub each-low : (list : List Action) → Each (IsNamed c.book) list → Each OthersLow list → Each (λ (a : Action). a.id.index ≤ index_in w.made a.id.creator) list
  each-low [] booked others = tt
  each-low (a ∷ list) booked others = (one-low a booked.0 others.0, each-low list booked.1 others.1)

  module _ (p : ℕ) (r : Replica) (up : replica_of w p ≡ Some r) where
    -- what it has of one that is down
    reds-of : (q : ℕ) → NodeIsDown (node_of w q) → (k : KeepsUnshown w q) → Each (IsActionShown q k.shown) r.held.queue.reds
    reds-of q down k =
        let sits = hosted w p (ap is_some up) in
        let node = sits.node in
        let runs : Some sits.replica ≡ Some r = sym (ap (option_and_then (λ (s : Node). running s.life)) node) ∙ up in
        let same : sits.replica ≡ r = cc in
        let shown = subst (NodeShown q k.shown) node (k.are.nodes p (λ e. subst NodeIsDown (ap (node_of w) (sym e) ∙ node) down)) in
        subst (λ (x : Replica). Each (IsActionShown q k.shown) x.held.queue.reds) same shown.0.reds

    others-low : (list : List Action) → ((q : ℕ) → NodeIsDown (node_of w q) → (k : KeepsUnshown w q) → Each (IsActionShown q k.shown) list) → Each OthersLow list
    others-low [] of = tt
    others-low (a ∷ list) of = (
      (λ down.
          let k = order.others a.id.creator down in
          let low = k.are.low in
          let here = (of a.id.creator down k).0 refl in
          omega arith),
      others-low list (λ q down k. (of q down k).1),
    )

    pub reds-low : Each (λ (a : Action). a.id.index ≤ index_in w.made a.id.creator) r.held.queue.reds
    reds-low =
        let here : replica_of c.world p ≡ Some r = sym (stands.same.running p) ∙ up in
        let booked = subst (λ (o : Option Replica). IfSome o (λ r. AreBooked c (r.held.queue.reds ++ r.held.own))) here (stands.facts.replica.made_once.in_memory p) in
        each-low r.held.queue.reds (Each-front (IsNamed c.book) r.held.queue.reds r.held.own (each-booked c (r.held.queue.reds ++ r.held.own) booked)) (others-low r.held.queue.reds reds-of)

-- ---- runs

pub record HasShown (steps : List Step) (c : Chronicle) (w : World) : Type 0 where
  pub fits : MadeFits w
  pub order : OrderFits c w

shown-on : (earlier : List Step) (c : Chronicle) (w : World) (s : Step) → IsStepOf c w s → HasShown earlier c w → HasShown (through earlier s) (chronicle_step c w s.event) s.world
shown-on earlier c w s step old = record {
  fits = subst (λ (m : Moved). MadeFits m.world) (sym step.moved) (event-made c w step.before old.fits s.event step.may step.admitted);
  order = subst (λ (m : Moved). OrderFits (chronicle_step c w s.event) m.world) (sym step.moved) (orders-kept c w s.event step.before old.fits old.order step.may step.admitted step.behind.facts);
}

pub has-shown : AlwaysHolds → (steps : List Step) → IsRunFrom no_world steps → HasShown steps (chronicle_after no_chronicle no_world steps) (world_after no_world steps)
has-shown always steps run =
    let first : HasShown [] no_chronicle no_world = record { fits = nothing-made; order = record { book = nothing-stands.rests.order_book; down = λ p. tt; others = λ p down. absurd down } } in
    of-run always HasShown shown-on first steps run

pub reds-shown : AlwaysHolds → (steps : List Step) → IsRunFrom no_world steps → AreRedsShown (world_after no_world steps)
reds-shown always steps run p r up =
    let shown = has-shown always steps run in
    reds-low (chronicle_after no_chronicle no_world steps) (world_after no_world steps) (stands-of always steps run) shown.fits shown.order p r up

-- What is red at a replica that is up was shown as made: all is in the book, of a creator that is up that counts what was shown, and of one
-- that is down nobody else has more.
use Rattle.std.proofs.Common.{◌≡◌, ◌∙◌, ◌++◌, ◌∷◌, ◌≤◌, ◌&&◌, IfSome, List, None, Option, Some, ap, arith, false, is_some, nat_le, nat_lt, option_and_then, option_map, refl, subst, sym, true, ℕ, []}
use Rattle.std.proofs.lemmas.Bool.{and_parts, leb-true}
use Rattle.cg_action.specs.declared.action.Action.{Action}
use Rattle.cg_agree_lemmas.specs.BookCounts.{found-name}
use Rattle.cg_agree_lemmas.specs.BookGrows.{IsNamed, cut_of}
use Rattle.cg_agree_lemmas.specs.BookedCores.{each-booked}
use Rattle.cg_agree_lemmas.specs.HandsKept.{hosted}
use Rattle.cg_base.specs.Cuts.{index_in}
use Rattle.cg_base.specs.Ids.{has_name}
use Rattle.cg_client.specs.Replica.{Held, Replica, created}
use Rattle.cg_disk_records.specs.RunMarkLaws.{run-names}
use Rattle.cg_base.specs.Lists.{Each}
use Rattle.cg_base.specs.EachLaws.{Each-front}
use Rattle.cg_model.specs.Chronicle.{Chronicle}
use Rattle.cg_model.specs.FactsBooks.{IsActionShown, KeepsUnshown, MadeFits, NodeIsDown, NodeShown, OrderFits}
use Rattle.cg_model.specs.FactsReplica.{AreBooked}
use Rattle.cg_model.specs.Looks.{on_disk}
use Rattle.cg_model.specs.Played.{StandsBeside}
use Rattle.cg_model.specs.World.{Down, Node, NodeState, Up, World, has_begun, node_of, replica_of, running}
use Rattle.cg_queue.specs.Queue.{names_of}
use Rattle.cg_agree_lemmas.specs.Looking.{core-there}

abbrev pub AreLow : World → List Action → Type 0
AreLow w list = Each (λ (a : Action). a.id.index ≤ index_in w.made a.id.creator) list

module _ (c : Chronicle) (w : World) (stands : StandsBeside c w) (fits : MadeFits w) (order : OrderFits c w) where
  -- an action of the book is counted by it
  booked-index : (a : Action) → IsNamed c.book a → a.id.index ≤ index_in (cut_of c.book) a.id.creator
  booked-index a is =
      let there : has_name (names_of c.book) a.id ≡ true = found-name c.book a.id a is in
      let known : (nat_lt (index_in [] a.id.creator) a.id.index && nat_le a.id.index (index_in (cut_of c.book) a.id.creator)) ≡ true =
      sym (run-names [] (names_of c.book) a.id tt stands.facts.replica.made_once.numbered) ∙ there in
      leb-true a.id.index (index_in (cut_of c.book) a.id.creator) (and_parts (nat_lt (index_in [] a.id.creator) a.id.index) (nat_le a.id.index (index_in (cut_of c.book) a.id.creator)) known).1

  -- and of a replica that is up it counts what was shown
  booked-made : (p : ℕ) (r : Replica) → replica_of w p ≡ Some r → index_in (cut_of c.book) p ≡ index_in w.made p
  booked-made p r up =
      let core = core-there (node_of c.world p) r (sym (stands.same.running p) ∙ up) in
      subst (λ (o : Option Held). IfSome o (λ h. index_in (cut_of c.book) p ≡ created h)) core (stands.facts.replica.made_once.counted p)
      ∙ sym (subst (λ (o : Option Replica). IfSome o (λ r. index_in w.made p ≡ created r.held)) up (stands.rests.made_book.up p))

  not-begun : (q : ℕ) → node_of w q ≡ None → has_begun c.world q ≡ false
  not-begun q none =
      sym (mapped (node_of c.world q)) ∙ ap is_some (sym (stands.same.disk q)) ∙ ap (λ (o : Option Node). is_some (option_map (λ s. on_disk s.life) o)) none where
        mapped : (o : Option Node) → is_some (option_map (λ s. on_disk s.life) o) ≡ is_some o
        mapped None = refl
        mapped (Some s) = refl

  -- of whom is down, others have no more than was shown
  abbrev OthersLow : Action → Type 0
  OthersLow a = NodeIsDown (node_of w a.id.creator) → a.id.index ≤ index_in w.made a.id.creator

  one-low : (a : Action) → IsNamed c.book a → OthersLow a → a.id.index ≤ index_in w.made a.id.creator
  one-low a booked others = at (node_of w a.id.creator) refl where
    index : a.id.index ≤ index_in (cut_of c.book) a.id.creator
    index = booked-index a booked

    life : (s : Node) (l : NodeState) → node_of w a.id.creator ≡ Some s → s.life ≡ l →
        a.id.index ≤ index_in w.made a.id.creator
    life s (Up r disk) e is =
        let low = index in
        let count = booked-made a.id.creator r (ap (option_and_then (λ (s : Node). running s.life)) e ∙ ap running is) in
        omega arith
    life s (Down disk green) e is =
        others (subst NodeIsDown (sym e) (down s (Down disk green) is)) where
          down : (s : Node) (l : NodeState) → s.life ≡ Down disk green → NodeIsDown (Some s)
          down s l is = subst (λ (l : NodeState). NodeIsDown (Some (let x : Node = record { id = s.id; life = l } in x))) (sym is) tt

    at : (o : Option Node) → node_of w a.id.creator ≡ o → a.id.index ≤ index_in w.made a.id.creator
    at None e = let low = index in let none : index_in (cut_of c.book) a.id.creator ≡ 0 = stands.facts.replica.origins.unbegun a.id.creator (not-begun a.id.creator e) in omega arith
    at (Some s) e = life s s.life e refl

  each-low : (list : List Action) → Each (IsNamed c.book) list → Each OthersLow list → AreLow w list
  each-low [] booked others = tt
  each-low (a ∷ list) booked others = (one-low a booked.0 others.0, each-low list booked.1 others.1)

  module _ (p : ℕ) (r : Replica) (up : replica_of w p ≡ Some r) where
    -- what it has of one that is down
    reds-of : (q : ℕ) → NodeIsDown (node_of w q) → (k : KeepsUnshown w q) →
        Each (IsActionShown q k.shown) r.held.queue.reds
    reds-of q down k =
        let sits = hosted w p (ap is_some up) in
        let node = sits.node in
        let runs : Some sits.replica ≡ Some r = sym (ap (option_and_then (λ (s : Node). running s.life)) node) ∙ up in
        let same : sits.replica ≡ r = cc in
        let shown = subst (NodeShown q k.shown) node (k.are.nodes p (λ e. subst NodeIsDown (ap (node_of w) (sym e) ∙ node) down)) in
        subst (λ (x : Replica). Each (IsActionShown q k.shown) x.held.queue.reds) same shown.0.reds

    others-low : (list : List Action) →
        ((q : ℕ) → NodeIsDown (node_of w q) → (k : KeepsUnshown w q) → Each (IsActionShown q k.shown) list) →
        Each OthersLow list
    others-low [] of = tt
    others-low (a ∷ list) of = (
      (λ down.
          let k = order.others a.id.creator down in
          let low = k.are.low in
          let here = (of a.id.creator down k).0 refl in
          omega arith),
      others-low list (λ q down k. (of q down k).1),
    )

    pub reds-low : AreLow w r.held.queue.reds
    reds-low =
        let here : replica_of c.world p ≡ Some r = sym (stands.same.running p) ∙ up in
        let booked = subst (λ (o : Option Replica). IfSome o (λ r. AreBooked c (r.held.queue.reds ++ r.held.own))) here (stands.facts.replica.made_once.in_memory p) in
        each-low r.held.queue.reds (Each-front (IsNamed c.book) r.held.queue.reds r.held.own (each-booked c (r.held.queue.reds ++ r.held.own) booked)) (others-low r.held.queue.reds reds-of)

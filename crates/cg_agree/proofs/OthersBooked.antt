-- While a replica is up, and before it begins, nobody has an action of it that wasn't shown as made: all that anybody has is in the book,
-- and all that it created was shown.
use Rattle.cg_base.specs.Lists.{Each}
use Rattle.cg_base.specs.EachLaws.{Each-weaker, Each-list_all}
use Rattle.std.proofs.Common.{◌≡◌, ◌≤◌, ◌∙◌, ◌&&◌, IfSome, List, None, Option, Some, ap, arith, false, is_some, leb-true, nat_le, nat_lt, option_and_then, option_map, refl, subst, sym, true, ℕ, []}
use Rattle.std.proofs.lemmas.Bool.{and_parts}
use Rattle.cg_action.specs.declared.action.Action.{Action}
use Rattle.cg_agree_lemmas.specs.BookCounts.{found-name}
use Rattle.cg_agree_lemmas.specs.BookGrows.{IsNamed, cut_of}
use Rattle.cg_agree_lemmas.specs.BookedCores.{FineHeld, cores-booked, placed-booked, waiting-booked}
use Rattle.cg_agree.proofs.CopiesBooked.{joiners-booked}
use Rattle.cg_agree.proofs.GroupSays.{GroupSays}
use Rattle.cg_agree.proofs.MadeBookKept.{made_book-of}
use Rattle.cg_agree.proofs.MadeOnceKept.{holds-weaker, message-weaker}
use Rattle.cg_agree.proofs.OthersShown.{later-shown, names-shown}
use Rattle.cg_disk_records.specs.RunMarkLaws.{run-names}
use Rattle.cg_model.specs.FactsBooks.{AreShown, HoldsFine, IsActionShown, IsMessageShown, IsNameShown, LifeShown, LifeToShow, MadeFits, OrderFits, NodeMade, NodeShown, NodeToShow}
use Rattle.cg_model.specs.Chronicle.{Chronicle}
use Rattle.cg_model.specs.Facts.{Invariant}
use Rattle.cg_model.specs.Looks.{OfCores, disk_held, greens_of, on_disk, ordered_in, stood_of}
use Rattle.cg_model.specs.Played.{IsSame, StandsBeside}
use Rattle.cg_model.specs.World.{Down, NodeState, Node, Up, World, replica_of, running, node_of}
use Rattle.cg_base.specs.Cuts.{index_in}
use Rattle.cg_base.specs.Ids.{has_name}
use Rattle.cg_client.specs.Replica.{Held, Replica, created}
use Rattle.cg_group.specs.State.{unordered_of}
use Rattle.cg_queue.specs.Queue.{names_of}
use Rattle.cg_model.specs.Recorded.{OfMessage}
use Rattle.cg_agree_lemmas.specs.Looking.{core-there}

-- an action of the book is counted by it
pub booked-index : (c : Chronicle) → Invariant c → (a : Action) → IsNamed c.book a → a.id.index ≤ index_in (cut_of c.book) a.id.creator
booked-index c i a is =
    let there : has_name (names_of c.book) a.id ≡ true = found-name c.book a.id a is in
    let known : (nat_lt (index_in [] a.id.creator) a.id.index && nat_le a.id.index (index_in (cut_of c.book) a.id.creator)) ≡ true =
    sym (run-names [] (names_of c.book) a.id tt i.replica.made_once.numbered) ∙ there in
    leb-true a.id.index (index_in (cut_of c.book) a.id.creator) (and_parts (nat_lt (index_in [] a.id.creator) a.id.index) (nat_le a.id.index (index_in (cut_of c.book) a.id.creator)) known).1

-- and of a replica that is up it counts what was shown
pub booked-made : (c : Chronicle) (w : World) → Invariant c → IsSame w c.world → MadeFits w → (p : ℕ) (r : Replica) → replica_of w p ≡ Some r → index_in (cut_of c.book) p ≡ index_in w.made p
booked-made c w i same fits p r up =
    let core = core-there (node_of c.world p) r (sym (same.running p) ∙ up) in
    subst (λ (o : Option Held). IfSome o (λ h. index_in (cut_of c.book) p ≡ created h)) core (i.replica.made_once.counted p)
    ∙ sym (subst (λ (o : Option Replica). IfSome o (λ r. index_in w.made p ≡ created r.held)) up ((made_book-of c w fits).up p))

-- who hasn't begun has made nothing, and nothing of it was shown
pub unbegun-made : (c : Chronicle) (w : World) → Invariant c → IsSame w c.world → MadeFits w → (p : ℕ) → node_of w p ≡ None → index_in (cut_of c.book) p ≡ index_in w.made p
unbegun-made c w i same fits p none =
    i.replica.origins.unbegun p (there (node_of c.world p) (sym (same.disk p) ∙ ap (option_map (λ (s : Node). on_disk s.life)) none))
    ∙ sym (subst (NodeMade (index_in w.made p) p) none (fits.nodes p)) where
      there : (o : Option Node) → option_map (λ s. on_disk s.life) o ≡ None → is_some o ≡ false
      there None e = refl
      there (Some s) e = absurd (let clash : Some (on_disk s.life) ≡ None = e in cc)

module _ (c : Chronicle) (w : World) (stands : StandsBeside c w) (fits : MadeFits w) (order : OrderFits c w) (p : ℕ) (count : index_in (cut_of c.book) p ≡ index_in w.made p) where
  abbrev n : ℕ
  n = index_in w.made p

  abbrev i : Invariant c
  i = stands.facts

  shown : (a : Action) → IsNamed c.book a → IsActionShown p n a
  shown a is e =
      let index = booked-index c i a is in
      let same : index_in (cut_of c.book) a.id.creator ≡ index_in (cut_of c.book) p = ap (index_in (cut_of c.book)) e in
      omega arith

  cores : OfCores c (FineHeld c.book)
  cores = cores-booked c i (joiners-booked c i i.replica.origins.unbegun)

  held : (h : Held) (all : List Action) → FineHeld c.book h all → HoldsFine (IsActionShown p n) h
  held h all is = holds-weaker (IsActionShown p n) (IsNamed c.book) shown h is.0

  -- ---- each node

  node-shown : (q : ℕ) → NodeShown p n (node_of w q)
  node-shown q = at (node_of w q) refl refl (order.down q) where
    disk-shown : (h : Held) → disk_held w q ≡ Some h → FineHeld c.book h (stood_of c q)
    disk-shown h e = subst (λ (o : Option Held). IfSome o (λ h. FineHeld c.book h (stood_of c q))) (sym (stands.same.disk q) ∙ e) (cores.disk q)

    life : (l : NodeState) → replica_of w q ≡ running l → disk_held w q ≡ Some (on_disk l) → LifeToShow w.order (names_of (stood_of c q)) l → LifeShown p n l
    life (Up x disk) runs has_disk to_show = (
      held x.held (greens_of c q) (subst (λ (o : Option Replica). IfSome o (λ r. FineHeld c.book r.held (greens_of c q))) (sym (stands.same.running q) ∙ runs) (cores.memory q)),
      held disk.content (stood_of c q) (disk-shown disk.content has_disk),
    )
    life (Down disk green) runs has_disk to_show =
        let stood = disk-shown disk.content has_disk in (
          held disk.content (stood_of c q) stood,
          later-shown p n to_show.shown green (subst (Each (IsNameShown p n)) to_show.all (names-shown p n (stood_of c q) (Each-weaker (IsNamed c.book) (IsActionShown p n) shown (stood_of c q) stood.1))),
        )

    at : (o : Option Node) → replica_of w q ≡ option_and_then (λ s. running s.life) o → disk_held w q ≡ option_map (λ s. on_disk s.life) o → NodeToShow w.order (names_of (stood_of c q)) o → NodeShown p n o
    at None runs has_disk to_show = tt
    at (Some s) runs has_disk to_show = life s.life runs has_disk to_show

  -- ---- messages

  says : GroupSays (IsMessageShown p n) w.group
  says = subst (GroupSays (IsMessageShown p n)) (sym stands.same.group) (
    λ conf. Each-weaker (λ s. OfMessage (IsNamed c.book) s.message) (λ s. IsMessageShown p n s.message) (λ s is. message-weaker (IsNamed c.book) (IsActionShown p n) shown s.message is)
        (ordered_in c conf) (placed-booked c i.replica.made_once conf),
    λ q. Each-weaker (OfMessage (IsNamed c.book)) (IsMessageShown p n) (λ m is. message-weaker (IsNamed c.book) (IsActionShown p n) shown m is)
        (unordered_of c.world.group q) (waiting-booked c i.replica.made_once q),
  )

  pub booked-shown : AreShown p n w
  booked-shown = record {
    rising = fits.rising;
    low = omega arith;
    nodes = λ q other. node-shown q;
    group = says;
    order = Each-weaker (λ id. nat_le id.index (index_in w.made id.creator) ≡ true) (IsNameShown p n)
        (λ id is e. (let le = leb-true id.index (index_in w.made id.creator) is in let same : index_in w.made id.creator ≡ n = ap (index_in w.made) e in omega arith))
        w.order (Each-list_all (λ id. nat_le id.index (index_in w.made id.creator)) w.order order.book.made);
  }

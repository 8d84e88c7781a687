-- What a joiner is to begin with is a front of the printed order, and its giver has it; behind each event too.
use Rattle.std.proofs.Common.{◌≡◌, ◌∷◌, ◌≤◌, ◌∙◌, ◌-◌, IfSome, List, None, Option, Some, ap, arith, drop, false, length, option_map, refl, subst, sym, ℕ, []}
use Rattle.std.proofs.lemmas.List.{length-drop}
use Rattle.std.specs.Option.{option_map_or}
use Rattle.std.specs.Prelude.{◌==◌}
use Rattle.cg_action.specs.declared.action.Action.{Action}
use Rattle.cg_agree.proofs.CopiesBooked.{greens-on_line}
use Rattle.cg_agree.proofs.CreatorNumbered.{order-on_top}
use Rattle.cg_agree_lemmas.specs.FrontFacts.{Front-length, Front-map, Front-of_both}
use Rattle.cg_agree_lemmas.specs.OrderCopies.{OfSnapshots, copy-of, each-found}
use Rattle.cg_agree_lemmas.specs.SameSmalls.{as_given, first-given}
use Rattle.cg_agree_lemmas.specs.SoundWorlds.{sound-of, sound-same}
use Rattle.cg_agree_lemmas.specs.TurnGreens.{made-count}
use Rattle.cg_model.specs.FactsBooks.{AreShown, IsActionShown, IsNameShown}
use Rattle.cg_model.specs.Chronicle.{Chronicle}
use Rattle.cg_model.specs.Facts.{Invariant}
use Rattle.cg_model.specs.FactsReplica.{IsCore}
use Rattle.cg_model.specs.Fronts.{Front}
use Rattle.cg_model.specs.Levels.{line_at, reached_at}
use Rattle.cg_model.specs.Looks.{copied_for, greens_of, snapshot_of, top_of}
use Rattle.cg_model.specs.Played.{GivenSnapshot, IsSame, StandsBeside}
use Rattle.cg_model.specs.Step.{joiner_replica, snapshot_for}
use Rattle.cg_model.specs.World.{TransferState, World, has_begun, replica_of}
use Rattle.cg_base.specs.declared.action_id.ActionId.{ActionId}
use Rattle.cg_client.specs.Replica.{Held, Replica}
use Rattle.cg_base.specs.Lists.{Each}
use Rattle.cg_base.specs.EachLaws.{Each-drop}
use Rattle.cg_base.specs.FindLaws.{found_each}
use Rattle.cg_queue.specs.Queue.{green_count, names_of}
use Rattle.cg_queue.specs.NameLaws.{names-count}

-- what is held is made of a front of the order, of which the giver has all
pub record IsCopyOf (order : List ActionId) (greens : ℕ → List Action) (giver : ℕ) (h : Held) : Type 0 where
  pub all : List Action
  pub white : h.queue.white ≤ length all
  pub kept : h.queue.greens ≡ drop h.queue.white all
  pub there : Front (names_of all) order
  pub within : length all ≤ length (greens giver)

pub copy-count : (order : List ActionId) (greens : ℕ → List Action) (giver : ℕ) (h : Held) (y : IsCopyOf order greens giver h) → green_count h.queue ≡ length y.all
copy-count order greens giver h y =
    let low = y.white in
    let kept : length h.queue.greens ≡ length y.all - h.queue.white = ap length y.kept ∙ length-drop h.queue.white y.all in
    omega arith

-- the snapshot of the one world is given as that of the other
record IsGiven (v : World) (joiner : ℕ) (s : TransferState) : Type 0 where
  pub snapshot : TransferState
  pub found : snapshot_of v joiner ≡ Some snapshot
  pub content : s.content ≡ snapshot.content
  pub giver : s.giver ≡ snapshot.giver

is-given : (w v : World) → IsSame w v → (joiner : ℕ) (s : TransferState) → snapshot_of w joiner ≡ Some s → IsGiven v joiner s
is-given w v same joiner s found = at (snapshot_of v joiner) refl where
  first : option_map as_given (snapshot_of w joiner) ≡ option_map as_given (snapshot_of v joiner)
  first = first-given w.snapshots v.snapshots same.given joiner

  at : (o : Option TransferState) → snapshot_of v joiner ≡ o → IsGiven v joiner s
  at None e = absurd (let clash : Some (as_given s) ≡ None = sym (ap (option_map as_given) found) ∙ first ∙ ap (option_map as_given) e in cc)
  at (Some t) e =
      let one : Some (as_given s) ≡ Some (as_given t) = sym (ap (option_map as_given) found) ∙ first ∙ ap (option_map as_given) e in
      record {
        snapshot = t;
        found = e;
        content = ap (λ (o : Option GivenSnapshot). option_map_or (λ x. x.content) o s.content) one;
        giver = ap (λ (o : Option GivenSnapshot). option_map_or (λ x. x.giver) o s.giver) one;
      }

module _ (c : Chronicle) (w : World) (stands : StandsBeside c w) where
  abbrev i : Invariant c
  i = stands.facts

  abbrev pub IsCopied : ℕ → Held → Type 0
  IsCopied = IsCopyOf w.order (greens_of c)

  pub replica-copy : (q : ℕ) (r : Replica) → replica_of w q ≡ Some r → IsCopied q r.held
  replica-copy q r e =
      let here : replica_of c.world q ≡ Some r = sym (stands.same.running q) ∙ e in
      let core = subst (λ (o : Option Replica). IfSome o (λ r. IsCore c r.held (greens_of c q))) here (i.replica.cores.memory q) in
      record {
        all = greens_of c q;
        white = core.made_of.white;
        kept = core.made_of.kept;
        there = subst (λ (o : Option Replica). IfSome o (λ r. Front (names_of (greens_of c q)) w.order)) e (stands.rests.order_book.up q);
        within = omega arith;
      }

  copies-there : (j : ℕ) (s : TransferState) → snapshot_of w j ≡ Some s → IsCopied s.giver s.content
  copies-there j s e =
      let given = is-given w c.world stands.same j s e in
      let t = given.snapshot in
      let book : (length (copied_for c j) ≤ length w.order) × Front (copied_for c j) (greens_of c s.giver) =
      subst (λ (o : Option TransferState). IfSome o (λ s. (length (copied_for c j) ≤ length w.order) × Front (copied_for c j) (greens_of c s.giver))) e (stands.rests.order_book.copied j) in
      let core = subst (λ (o : Option TransferState). IfSome o (λ s. IsCore c (joiner_replica j s.content).held (copied_for c j))) given.found (i.replica.cores.snapshot j) in
      let line = subst (λ (o : Option TransferState). IfSome o (λ s. Front (copied_for c j) (line_at c (top_of c)) × (length (copied_for c j) ≤ reached_at c (top_of c)))) given.found (i.green.one_order.snapshot j) in
      let on = order-on_top c w stands in
      let long : length w.order ≡ length on.list = ap length on.names ∙ names-count on.list in
      let few = book.0 in
      let front = Front-of_both (copied_for c j) on.list (line_at c (top_of c)) line.0 on.on_top.front (omega arith) in
      let white : t.content.queue.white ≤ length (copied_for c j) = core.made_of.white in
      let kept : t.content.queue.greens ≡ drop t.content.queue.white (copied_for c j) = core.made_of.kept in
      record {
        all = copied_for c j;
        white = subst (λ (h : Held). h.queue.white ≤ length (copied_for c j)) (sym given.content) white;
        kept = subst (λ (h : Held). h.queue.greens ≡ drop h.queue.white (copied_for c j)) (sym given.content) kept;
        there = subst (Front (names_of (copied_for c j))) (sym on.names) (Front-map (λ (a : Action). a.id) (copied_for c j) on.list front);
        within = Front-length (copied_for c j) (greens_of c s.giver) book.1;
      }

  pub copies-first : OfSnapshots IsCopied w
  copies-first =
      each-found (λ (s : TransferState). IsCopied s.giver s.content) (λ s. s.joiner) w.snapshots (sound-same w c.world stands.same (sound-of c i)).once (λ j. at j (snapshot_of w j) refl) where
        at : (j : ℕ) (o : Option TransferState) → snapshot_of w j ≡ o → IfSome o (λ s. IsCopied s.giver s.content)
        at j None e = tt
        at j (Some s) e = copies-there j s e

  -- ---- behind an event

  module _ (d : Chronicle) (v : World) (j : Invariant d) (same : IsSame v d.world) (grow : (p : ℕ) → Front (greens_of c p) (greens_of d p)) (on : Front w.order v.order) (copies : OfSnapshots IsCopied v) where
    pub copied-behind : (joiner : ℕ) → IfSome (snapshot_of v joiner) (λ s. (length (copied_for d joiner) ≤ length v.order) × Front (copied_for d joiner) (greens_of d s.giver))
    copied-behind joiner = at (snapshot_of v joiner) refl where
      at : (o : Option TransferState) → snapshot_of v joiner ≡ o → IfSome o (λ s. (length (copied_for d joiner) ≤ length v.order) × Front (copied_for d joiner) (greens_of d s.giver))
      at None e = tt
      at (Some s) e =
          let y : IsCopied s.giver s.content = subst (λ (o : Option TransferState). IfSome o (λ s. IsCopied s.giver s.content)) e (found_each (λ (s : TransferState). IsCopied s.giver s.content) (λ s. s.joiner == joiner) v.snapshots copies) in
          let given = is-given v d.world same joiner s e in
          let core = subst (λ (o : Option TransferState). IfSome o (λ s. IsCore d (joiner_replica joiner s.content).held (copied_for d joiner))) given.found (j.replica.cores.snapshot joiner) in
          let line = subst (λ (o : Option TransferState). IfSome o (λ s. Front (copied_for d joiner) (line_at d (top_of d)) × (length (copied_for d joiner) ≤ reached_at d (top_of d)))) given.found (j.green.one_order.snapshot joiner) in
          let count : green_count given.snapshot.content.queue ≡ length (copied_for d joiner) = made-count d.start (joiner_replica joiner given.snapshot.content).held (copied_for d joiner) core.made_of in
          let same_count : green_count s.content.queue ≡ green_count given.snapshot.content.queue = ap (λ (h : Held). green_count h.queue) given.content in
          let all : green_count s.content.queue ≡ length y.all = copy-count w.order (greens_of c) s.giver s.content y in
          let short : length (names_of y.all) ≤ length w.order = Front-length (names_of y.all) w.order y.there in
          let names : length (names_of y.all) ≡ length y.all = names-count y.all in
          let more : length w.order ≤ length v.order = Front-length w.order v.order on in
          let within = y.within in
          let grown : length (greens_of c s.giver) ≤ length (greens_of d s.giver) = Front-length (greens_of c s.giver) (greens_of d s.giver) (grow s.giver) in (
            omega arith,
            Front-of_both (copied_for d joiner) (greens_of d s.giver) (line_at d (top_of d)) line.0 (greens-on_line d j.green.one_order j.replica.disk_behind j.net.hosted s.giver) (omega arith),
          )

  -- what nobody else has in the order isn't in a snapshot
  pub copies-shown : (p n : ℕ) → AreShown p n w → (q joiner : ℕ) (r : Replica) → replica_of w q ≡ Some r → has_begun w joiner ≡ false →
      Each (IsActionShown p n) (snapshot_for w q joiner r).content.queue.greens
  copies-shown p n are q joiner r e none =
      let s = snapshot_for w q joiner r in
      let y : IsCopied s.giver s.content = copy-of IsCopied w copies-first replica-copy q joiner r e in
      subst (Each (IsActionShown p n)) (sym y.kept) (Each-drop (IsActionShown p n) s.content.queue.white y.all (actions y.all (fronts (names_of y.all) w.order y.there are.order))) where
        fronts : (xs ys : List ActionId) → Front xs ys → Each (IsNameShown p n) ys → Each (IsNameShown p n) xs
        fronts [] ys front each = tt
        fronts (x ∷ xs) [] front each = absurd front
        fronts (x ∷ xs) (y ∷ ys) front each = (subst (IsNameShown p n) (sym front.0) each.0, fronts xs ys front.1 each.1)

        actions : (xs : List Action) → Each (IsNameShown p n) (names_of xs) → Each (IsActionShown p n) xs
        actions [] each = tt
        actions (x ∷ xs) each = (each.0, actions xs each.1)

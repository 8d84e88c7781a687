-- A snapshot has no more greens than the order.
use Rattle.std.proofs.Common.{◌≡◌, ℕ, ◌≤◌, length, find, Option, Some, None, IfSome, refl, sym, ap, ◌∙◌, subst, inl, inr, arith, option_map}
use Rattle.std.specs.Prelude.{◌==◌, ◌&&◌}
use Rattle.std.specs.Option.{option_map_or}
use Rattle.std.proofs.lemmas.Bool.{cases_Bool, cond-true, cond-false}
use Rattle.cg_queue.specs.Queue.{green_count}
use Rattle.cg_client.specs.Replica.{Held, Replica}
use Rattle.cg_model.specs.World.{TransferState, World, replica_of}
use Rattle.cg_model.specs.Step.{joiner_replica, snapshot_for}
use Rattle.cg_model.specs.Chronicle.{Chronicle}
use Rattle.cg_model.specs.Fronts.{Front}
use Rattle.cg_model.specs.Looks.{greens_of, snapshot_of, copied_for}
use Rattle.cg_model.specs.FactsReplica.{IsCore}
use Rattle.cg_model.specs.Played.{GivenSnapshot, StandsBeside}
use Rattle.cg_agree_lemmas.specs.HeldMarks.{counted}
use Rattle.cg_agree_lemmas.specs.MadeTransfer.{neither, only-both}
use Rattle.cg_agree.proofs.OrderReached.{within-order}
use Rattle.cg_agree_lemmas.specs.SameSmalls.{as_given, first-given}
use Rattle.cg_agree_lemmas.specs.SoundWorlds.{IsSound, sound-same, sound-of}

module _ (c : Chronicle) (w : World) (stands : StandsBeside c w) (joiner : ℕ) where
  content_of : Held → Option GivenSnapshot → Held
  content_of h o = option_map_or (λ x. x.content) o h

  -- one that is under way
  copied-within : (s : TransferState) → snapshot_of w joiner ≡ Some s → green_count s.content.queue ≤ length w.order
  unfolding content_of
  copied-within s found = at (snapshot_of c.world joiner) refl where
    first : option_map as_given (snapshot_of w joiner) ≡ option_map as_given (snapshot_of c.world joiner)
    first = first-given w.snapshots c.world.snapshots stands.same.given joiner

    at : (o : Option TransferState) → snapshot_of c.world joiner ≡ o → green_count s.content.queue ≤ length w.order
    at None e = absurd (let clash : Some (as_given s) ≡ None = sym (ap (option_map as_given) found) ∙ first ∙ ap (option_map as_given) e in cc)
    at (Some t) e =
        let content : s.content ≡ t.content = ap (content_of s.content) (sym (ap (option_map as_given) found) ∙ first ∙ ap (option_map as_given) e) in
        let core : IsCore c (joiner_replica joiner t.content).held (copied_for c joiner) =
        subst (λ (o : Option TransferState). IfSome o (λ s. IsCore c (joiner_replica joiner s.content).held (copied_for c joiner))) e (stands.facts.replica.cores.snapshot joiner) in
        let many : green_count t.content.queue ≡ length (copied_for c joiner) =
        counted c.start (joiner_replica joiner t.content).held (copied_for c joiner) (record { made_of = core.made_of; contiguous = core.contiguous; yellow_closed = core.yellow_closed }) in
        let low : length (copied_for c joiner) ≤ length w.order =
        (subst (λ (o : Option TransferState). IfSome o (λ s. (length (copied_for c joiner) ≤ length w.order) × Front (copied_for c joiner) (greens_of c s.giver))) found (stands.rests.order_book.copied joiner)).0 in
        let same : green_count s.content.queue ≡ green_count t.content.queue = ap (λ (h : Held). green_count h.queue) content in
        omega arith

  -- the one of which pieces are taken
  pub snapshot-within : (p : ℕ) (r : Replica) → replica_of w p ≡ Some r → green_count (snapshot_for w p joiner r).content.queue ≤ length w.order
  snapshot-within p r is = at (snapshot_of w joiner) refl where
    new : TransferState
    new = record { joiner = joiner; giver = p; content = r.held; taken = 0 }

    Fits : Option TransferState → Type 0
    Fits o = green_count (option_map_or (λ s. s) o new).content.queue ≤ length w.order

    fresh_one : Fits None
    fresh_one = within-order c w stands p r is

    sound : IsSound w
    sound = sound-same w c.world stands.same (sound-of c stands.facts)

    at : (o : Option TransferState) → snapshot_of w joiner ≡ o → Fits (find (λ s. (s.joiner == joiner) && (s.giver == p)) w.snapshots)
    at None e = subst Fits (sym (neither (λ (s : TransferState). s.joiner == joiner) (λ s. s.giver == p) w.snapshots e)) fresh_one
    at (Some s) e =
        let both = only-both (λ (s : TransferState). s.joiner == joiner) (λ s. s.giver == p) w.snapshots s e (sound.once joiner) in
        elim (cases_Bool (s.giver == p)) [
          | inl whose ↦ subst Fits (sym (both ∙ cond-true (s.giver == p) (Some s) None whose)) (copied-within s e)
          | inr other ↦ subst Fits (sym (both ∙ cond-false (s.giver == p) (Some s) None other)) fresh_one
        ]

-- Nothing that a replica which hasn't begun would have made is green anywhere, nor in a snapshot.
use Rattle.std.proofs.Common.{◌≡◌, ℕ, ◌≤◌, false, List, find, Option, Some, None, IfSome, refl, sym, ap, ◌∙◌, subst, inl, inr, arith, option_map, is_some}
use Rattle.std.specs.Prelude.{◌==◌, ◌&&◌}
use Rattle.std.specs.Option.{option_map_or}
use Rattle.std.proofs.lemmas.Bool.{cases_Bool, cond-true, cond-false, eqb-true}
use Rattle.cg_base.specs.Lists.{Each}
use Rattle.cg_base.specs.Cuts.{index_in}
use Rattle.cg_base.specs.FindLaws.{found_passes}
use Rattle.cg_action.specs.declared.action.Action.{Action}
use Rattle.cg_client.specs.Replica.{Held, Replica}
use Rattle.cg_model.specs.World.{Node, TransferState, World, has_begun, node_of, replica_of}
use Rattle.cg_model.specs.Step.{joiner_replica, snapshot_for}
use Rattle.cg_model.specs.Chronicle.{Chronicle}
use Rattle.cg_model.specs.Looks.{greens_of, on_disk, snapshot_of, copied_for}
use Rattle.cg_model.specs.FactsReplica.{IsCore}
use Rattle.cg_model.specs.Played.{GivenSnapshot, StandsBeside}
use Rattle.cg_agree_lemmas.specs.SameSmalls.{as_given, first-given}
use Rattle.cg_agree_lemmas.specs.SoundWorlds.{IsSound, sound-same, sound-of}
use Rattle.cg_agree_lemmas.specs.MadeTransfer.{neither, only-both}
use Rattle.cg_agree_lemmas.specs.BookGrows.{IsNamed, cut_of}
use Rattle.cg_agree_lemmas.specs.BookedCores.{each-booked}
use Rattle.cg_agree_lemmas.specs.BookCounts.{cut-within}
use Rattle.cg_agree.proofs.CopiesBooked.{joiners-booked}

module _ (c : Chronicle) (w : World) (stands : StandsBeside c w) (joiner : ℕ) (none : has_begun w joiner ≡ false) where
  begun-there : has_begun c.world joiner ≡ false
  begun-there = there (node_of c.world joiner) ∙ sym (ap is_some (stands.same.disk joiner)) ∙ sym (there (node_of w joiner)) ∙ none where
    there : (o : Option Node) → is_some o ≡ is_some (option_map (λ s. on_disk s.life) o)
    there None = refl
    there (Some s) = refl

  -- greens that were made have none of it
  green-none : (greens : List Action) (h : Held) → IsCore c h greens → Each (IsNamed c.book) greens → index_in h.queue.green_cut joiner ≡ 0
  green-none greens h core each =
      let zero_there : index_in (cut_of c.book) joiner ≡ 0 = stands.facts.replica.origins.unbegun joiner begun-there in
      let within : index_in (cut_of greens) joiner ≤ index_in (cut_of c.book) joiner = cut-within c.book greens joiner stands.facts.replica.made_once.numbered core.contiguous.greens each in
      let green : index_in h.queue.green_cut joiner ≡ index_in (cut_of greens) joiner = ap (λ cut. index_in cut joiner) core.made_of.green_cut in
      omega arith

  giver-none : (p : ℕ) (r : Replica) → replica_of w p ≡ Some r → index_in r.held.queue.green_cut joiner ≡ 0
  giver-none p r is =
      let here : replica_of c.world p ≡ Some r = sym (stands.same.running p) ∙ is in
      green-none (greens_of c p) r.held (subst (λ (o : Option Replica). IfSome o (λ r. IsCore c r.held (greens_of c p))) here (stands.facts.replica.cores.memory p))
      (each-booked c (greens_of c p) (stands.facts.replica.made_once.in_greens p))

  content_of : Held → Option GivenSnapshot → Held
  content_of h o = option_map_or (λ x. x.content) o h

  copied-none : (s : TransferState) → snapshot_of w joiner ≡ Some s → index_in s.content.queue.green_cut joiner ≡ 0
  unfolding content_of
  copied-none s found = at (snapshot_of c.world joiner) refl where
    first : option_map as_given (snapshot_of w joiner) ≡ option_map as_given (snapshot_of c.world joiner)
    first = first-given w.snapshots c.world.snapshots stands.same.given joiner

    at : (o : Option TransferState) → snapshot_of c.world joiner ≡ o → index_in s.content.queue.green_cut joiner ≡ 0
    at None e = absurd (let clash : Some (as_given s) ≡ None = sym (ap (option_map as_given) found) ∙ first ∙ ap (option_map as_given) e in cc)
    at (Some t) e =
        let content : s.content ≡ t.content = ap (content_of s.content) (sym (ap (option_map as_given) found) ∙ first ∙ ap (option_map as_given) e) in
        let core : IsCore c (joiner_replica joiner t.content).held (copied_for c joiner) =
        subst (λ (o : Option TransferState). IfSome o (λ s. IsCore c (joiner_replica joiner s.content).held (copied_for c joiner))) e (stands.facts.replica.cores.snapshot joiner) in
        let each : Each (IsNamed c.book) (copied_for c joiner) =
        subst (λ (o : Option TransferState). IfSome o (λ s. Each (IsNamed c.book) (copied_for c joiner))) e ((joiners-booked c stands.facts stands.facts.replica.origins.unbegun).copied joiner) in
        ap (λ (h : Held). index_in h.queue.green_cut joiner) content ∙ green-none (copied_for c joiner) (joiner_replica joiner t.content).held core each

  -- the snapshot of which pieces are taken is one of this joiner, and has nothing of it green
  pub snapshot-none : (p : ℕ) (r : Replica) → replica_of w p ≡ Some r → (let s = snapshot_for w p joiner r in (s.joiner ≡ joiner) × (index_in s.content.queue.green_cut joiner ≡ 0))
  snapshot-none p r is = at (snapshot_of w joiner) refl where
    new : TransferState
    new = record { joiner = joiner; giver = p; content = r.held; taken = 0 }

    Fits : Option TransferState → Type 0
    Fits o = (let s = option_map_or (λ s. s) o new in (s.joiner ≡ joiner) × (index_in s.content.queue.green_cut joiner ≡ 0))

    fresh_one : Fits None
    fresh_one = (refl, giver-none p r is)

    sound : IsSound w
    sound = sound-same w c.world stands.same (sound-of c stands.facts)

    at : (o : Option TransferState) → snapshot_of w joiner ≡ o → Fits (find (λ s. (s.joiner == joiner) && (s.giver == p)) w.snapshots)
    at None e = subst Fits (sym (neither (λ (s : TransferState). s.joiner == joiner) (λ s. s.giver == p) w.snapshots e)) fresh_one
    at (Some s) e =
        let both = only-both (λ (s : TransferState). s.joiner == joiner) (λ s. s.giver == p) w.snapshots s e (sound.once joiner) in
        elim (cases_Bool (s.giver == p)) [
          | inl whose ↦ subst Fits (sym (both ∙ cond-true (s.giver == p) (Some s) None whose)) (eqb-true s.joiner joiner (found_passes (λ (s : TransferState). s.joiner == joiner) w.snapshots s e), copied-none s e)
          | inr other ↦ subst Fits (sym (both ∙ cond-false (s.giver == p) (Some s) None other)) fresh_one
        ]

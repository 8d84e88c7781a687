use Rattle.std.proofs.Common.{◌≡◌, ◌∙◌, ◌+◌, ◌<◌, ◌^◌, suc, length, slice_get, inl, inr, ap, sym, subst}
use Rattle.std.specs.Prelude.{MatchOption}
use Rattle.cg_base.specs.Cuts.{index_in}
use Rattle.cg_base.specs.TextLaws.{OnErr_from}
use Rattle.cg_queue.specs.Queue.{green_count, action_of, placed_green}
use Rattle.cg_queue.specs.Body.{seen, parts_of, lane_of, IsSound}
use Rattle.cg_queue.proofs.Soundness.{cleared-sound, cleared-seen}
use Rattle.cg_queue.proofs.Turning.{Turned, turned-sound, turned-seen}
use Rattle.cg_queue.proofs.queue.Queue.turn_green.Goals as goal

pub invariant_of-self : goal.invariant_of-self
invariant_of-self c = subst IsSound (sym (c.in_err-turn_first.ensures.err)) c.self.invariant

pub returns-in_err-turn_first-clause-err : goal.returns-in_err-turn_first-clause-err
returns-in_err-turn_first-clause-err c = OnErr_from c.from_residual.result (ap seen c.in_err-turn_first.ensures.err ∙ c.self.view_is)

pub invariant_of-self-then-was_yellow : goal.invariant_of-self-then-was_yellow
invariant_of-self-then-was_yellow c =
    let b = parts_of c.self.inside.body in
    let id = c.args.id in
    let next : id.index ≡ suc (index_in b.green_cut id.creator) = subst (λ q. id.index ≡ suc (index_in q.green_cut id.creator)) (sym c.self.view_is) c.requires.next in
    let few : b.white + length b.greens < 2 ^ 62 = subst (λ q. green_count q < 2 ^ 62) (sym c.self.view_is) c.requires.few in
    let after = parts_of c.turn_first.new.body in
    let turned : Turned b after (lane_of id) (slice_get (b.reds (lane_of id)) 0) = subst (λ k. Turned b after k (slice_get (b.reds k) 0)) c.lane_of.ensures.value c.in_ok-turn_first.ensures.ok in
    let sound = turned-sound b after id c.self.invariant c.lane_of.ensures.creator next few turned in
    elim c.forget_green.ensures [
      | inl same ↦ subst IsSound (sym same) sound
      | inr less ↦ subst IsSound (sym less) (cleared-sound after sound)
    ]

pub invariant_of-self-else-was_yellow : goal.invariant_of-self-else-was_yellow
invariant_of-self-else-was_yellow c =
    let b = parts_of c.self.inside.body in
    let id = c.args.id in
    let next : id.index ≡ suc (index_in b.green_cut id.creator) = subst (λ q. id.index ≡ suc (index_in q.green_cut id.creator)) (sym c.self.view_is) c.requires.next in
    let few : b.white + length b.greens < 2 ^ 62 = subst (λ q. green_count q < 2 ^ 62) (sym c.self.view_is) c.requires.few in
    let after = parts_of c.turn_first.new.body in
    let turned : Turned b after (lane_of id) (slice_get (b.reds (lane_of id)) 0) = subst (λ k. Turned b after k (slice_get (b.reds k) 0)) c.lane_of.ensures.value c.in_ok-turn_first.ensures.ok in
    turned-sound b after id c.self.invariant c.lane_of.ensures.creator next few turned

pub returns-then-was_yellow-clause-ok : goal.returns-then-was_yellow-clause-ok
returns-then-was_yellow-clause-ok c =
    let b = parts_of c.self.inside.body in
    let id = c.args.id in
    let next : id.index ≡ suc (index_in b.green_cut id.creator) = subst (λ q. id.index ≡ suc (index_in q.green_cut id.creator)) (sym c.self.view_is) c.requires.next in
    let few : b.white + length b.greens < 2 ^ 62 = subst (λ q. green_count q < 2 ^ 62) (sym c.self.view_is) c.requires.few in
    let after = parts_of c.turn_first.new.body in
    let turned : Turned b after (lane_of id) (slice_get (b.reds (lane_of id)) 0) = subst (λ k. Turned b after k (slice_get (b.reds k) 0)) c.lane_of.ensures.value c.in_ok-turn_first.ensures.ok in
    let now : seen (parts_of c.forget_green.new.body) ≡ seen after = elim c.forget_green.ensures [
      | inl same ↦ ap seen same
      | inr less ↦ ap seen less ∙ cleared-seen after
    ] in
    subst (λ q. MatchOption (action_of q id) (seen (parts_of c.forget_green.new.body) ≡ q) (λ a. seen (parts_of c.forget_green.new.body) ≡ placed_green q a)) c.self.view_is
    (subst (λ q. MatchOption (action_of (seen b) id) (q ≡ seen b) (λ a. q ≡ placed_green (seen b) a)) (sym now)
    (turned-seen b after id c.self.invariant c.lane_of.ensures.creator next few turned))

pub returns-else-was_yellow-clause-ok : goal.returns-else-was_yellow-clause-ok
returns-else-was_yellow-clause-ok c =
    let b = parts_of c.self.inside.body in
    let id = c.args.id in
    let next : id.index ≡ suc (index_in b.green_cut id.creator) = subst (λ q. id.index ≡ suc (index_in q.green_cut id.creator)) (sym c.self.view_is) c.requires.next in
    let few : b.white + length b.greens < 2 ^ 62 = subst (λ q. green_count q < 2 ^ 62) (sym c.self.view_is) c.requires.few in
    let after = parts_of c.turn_first.new.body in
    let turned : Turned b after (lane_of id) (slice_get (b.reds (lane_of id)) 0) = subst (λ k. Turned b after k (slice_get (b.reds k) 0)) c.lane_of.ensures.value c.in_ok-turn_first.ensures.ok in
    subst (λ q. MatchOption (action_of q id) (seen after ≡ q) (λ a. seen after ≡ placed_green q a)) c.self.view_is
    (turned-seen b after id c.self.invariant c.lane_of.ensures.creator next few turned)

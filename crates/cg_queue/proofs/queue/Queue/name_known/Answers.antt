use Rattle.std.proofs.Common.{◌≡◌, ◌∙◌, ◌-◌, ◌<◌, ◌≤◌, true, false, ap, sym, subst, arith}
use Rattle.std.specs.Prelude.{slice_get}
use Rattle.cg_base.specs.Ids.{has_name}
use Rattle.cg_base.specs.Cuts.{index_in}
use Rattle.cg_queue.specs.Queue.{with_yellow}
use Rattle.cg_queue.specs.Body.{seen, parts_of, IsSound, flag_of, lane_of, flagged, with_name}
use Rattle.cg_queue.proofs.Soundness.{red-flag, red-named-sound, red-named-seen}
use Rattle.cg_queue.specs.MarkLaws.{yellow-kept, yellow-added}
use Rattle.cg_queue.proofs.queue.Queue.name_known.Goals as goal

pub returns-then-is_flagged-clause-ok : goal.returns-then-is_flagged-clause-ok
returns-then-is_flagged-clause-ok c =
    let b = parts_of c.self.inside.body in
    let id = c.args.id.now in
    let green : c.get-green.result ≡ index_in b.green_cut id.creator = c.get-green.ensures in
    let known : id.index ≤ index_in b.red_cut id.creator = subst (λ q. id.index ≤ index_in q.red_cut id.creator) (sym c.self.view_is) c.requires in
    let slot = c.lane_of-slot.ensures.value in
    let i : id.index - c.get-green.result - 1 ≡ id.index - index_in b.green_cut id.creator - 1 = omega arith in
    let flag = c.is_flagged.ensures ∙ ap (λ k. flag_of (slice_get (b.reds k) (id.index - c.get-green.result - 1))) slot ∙ ap (λ j. flag_of (slice_get (b.reds (lane_of id)) j)) i in
    let there : has_name (seen b).yellow id ≡ true = sym (red-flag b id c.self.invariant c.lane_of-slot.ensures.creator (omega arith) known) ∙ sym flag ∙ c.if-is_flagged.true in
    sym c.self.view_is ∙ sym (yellow-kept (seen b) id there) ∙ ap (λ q. with_yellow q id) c.self.view_is

pub invariant_of-self : goal.invariant_of-self
invariant_of-self c = subst IsSound (sym c.in_default.ensures.err) c.self.invariant

pub returns-in_default-clause-err : goal.returns-in_default-clause-err
returns-in_default-clause-err c = ap seen c.in_default.ensures.err ∙ c.self.view_is

pub invariant_of-self-2 : goal.invariant_of-self-2
invariant_of-self-2 c =
    let b = parts_of c.self.inside.body in
    let id = c.args.id.now in
    let green : c.get-green.result ≡ index_in b.green_cut id.creator = c.get-green.ensures in
    let known : id.index ≤ index_in b.red_cut id.creator = subst (λ q. id.index ≤ index_in q.red_cut id.creator) (sym c.self.view_is) c.requires in
    let i : id.index - c.get-green.result - 1 ≡ id.index - index_in b.green_cut id.creator - 1 = omega arith in
    let above : index_in b.green_cut id.creator < id.index = omega arith in
    let slot = c.lane_of-slot.ensures.value in
    let flag = c.is_flagged.ensures ∙ ap (λ k. flag_of (slice_get (b.reds k) (id.index - c.get-green.result - 1))) slot ∙ ap (λ j. flag_of (slice_get (b.reds (lane_of id)) j)) i in
    let none : has_name (seen b).yellow id ≡ false = sym (red-flag b id c.self.invariant c.lane_of-slot.ensures.creator above known) ∙ sym flag ∙ c.if-is_flagged.false in
    let made = c.in-Ok.ensures.ok ∙ ap (λ k. flagged (with_name b id) k (id.index - c.get-green.result - 1)) slot ∙ ap (flagged (with_name b id) (lane_of id)) i in
    subst IsSound (sym made) (red-named-sound b id c.self.invariant c.lane_of-slot.ensures.creator above known none)

pub returns-clause-ok : goal.returns-clause-ok
returns-clause-ok c =
    let b = parts_of c.self.inside.body in
    let id = c.args.id.now in
    let green : c.get-green.result ≡ index_in b.green_cut id.creator = c.get-green.ensures in
    let known : id.index ≤ index_in b.red_cut id.creator = subst (λ q. id.index ≤ index_in q.red_cut id.creator) (sym c.self.view_is) c.requires in
    let above : index_in b.green_cut id.creator < id.index = omega arith in
    let slot = c.lane_of-slot.ensures.value in
    let i : id.index - c.get-green.result - 1 ≡ id.index - index_in b.green_cut id.creator - 1 = omega arith in
    let flag = c.is_flagged.ensures ∙ ap (λ k. flag_of (slice_get (b.reds k) (id.index - c.get-green.result - 1))) slot ∙ ap (λ j. flag_of (slice_get (b.reds (lane_of id)) j)) i in
    let none : has_name (seen b).yellow id ≡ false = sym (red-flag b id c.self.invariant c.lane_of-slot.ensures.creator above known) ∙ sym flag ∙ c.if-is_flagged.false in
    let made = c.in-Ok.ensures.ok ∙ ap (λ k. flagged (with_name b id) k (id.index - c.get-green.result - 1)) slot ∙ ap (flagged (with_name b id) (lane_of id)) i in
    ap seen made ∙ red-named-seen b id c.self.invariant c.lane_of-slot.ensures.creator above known
    ∙ sym (yellow-added (seen b) id above none) ∙ ap (λ q. with_yellow q id) c.self.view_is

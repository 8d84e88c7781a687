use Rattle.std.proofs.Common.{◌≡◌, ◌∙◌, ◌+◌, ◌<◌, ◌^◌, suc, length, inl, inr, ap, sym, subst, arith}
use Rattle.cg_base.specs.declared.action_id.ActionId.{ActionId}
use Rattle.cg_base.specs.Cuts.{index_in}
use Rattle.cg_queue.specs.declared.mark.Mark.TheVariants.{Placed}
use Rattle.cg_queue.specs.Queue.{Marks, green_count}
use Rattle.cg_queue.specs.Answers.{marked_green}
use Rattle.cg_queue.specs.Body.{seen, parts_of, IsSound}
use Rattle.cg_queue.proofs.Soundness.{green-sound, green-seen, cleared-sound, cleared-seen}
use Rattle.cg_queue.specs.MarkLaws.{green-placed}
use Rattle.cg_queue.proofs.queue.Queue.mark_green.Goals as goal

pub invariant_of-self : goal.invariant_of-self
invariant_of-self c =
    let b = parts_of c.self.inside.body in
    let a = c.args.a in
    let here : c.args.at ≡ suc (green_count c.args.self.now) = omega (arith, c.green_count.ensures.count) in
    let next : a.id.index ≡ suc (index_in b.green_cut a.id.creator) = subst (λ q. a.id.index ≡ suc (index_in q.green_cut a.id.creator)) (sym c.self.view_is) (c.requires.next here) in
    let small : a.id.index < 2 ^ 64 = subst (λ (id : ActionId). id.index < 2 ^ 64) c.name_of.ensures.value c.name_of.ensures.small in
    let few : b.white + length b.greens < 2 ^ 62 = subst (λ q. green_count q < 2 ^ 62) (sym c.self.view_is) c.requires.few in
    let sound = subst IsSound (sym c.in-Ok.ensures.ok) (green-sound b a c.self.invariant c.name_of.ensures.creator small next few) in
    elim c.forget_green.ensures [
      | inl same ↦ subst IsSound (sym same) sound
      | inr less ↦ subst IsSound (sym less) (cleared-sound (parts_of c.add_green.new.body) sound)
    ]

pub invariant_of-self-else-was_yellow : goal.invariant_of-self-else-was_yellow
invariant_of-self-else-was_yellow c =
    let b = parts_of c.self.inside.body in
    let a = c.args.a in
    let here : c.args.at ≡ suc (green_count c.args.self.now) = omega (arith, c.green_count.ensures.count) in
    let next : a.id.index ≡ suc (index_in b.green_cut a.id.creator) = subst (λ q. a.id.index ≡ suc (index_in q.green_cut a.id.creator)) (sym c.self.view_is) (c.requires.next here) in
    let small : a.id.index < 2 ^ 64 = subst (λ (id : ActionId). id.index < 2 ^ 64) c.name_of.ensures.value c.name_of.ensures.small in
    let few : b.white + length b.greens < 2 ^ 62 = subst (λ q. green_count q < 2 ^ 62) (sym c.self.view_is) c.requires.few in
    subst IsSound (sym c.in-Ok.ensures.ok) (green-sound b a c.self.invariant c.name_of.ensures.creator small next few)

pub invariant_of-self-in-Err : goal.invariant_of-self-in-Err
invariant_of-self-in-Err c = subst IsSound (sym c.in-Err.ensures.err) c.self.invariant

pub returns-then-was_yellow : goal.returns-then-was_yellow
returns-then-was_yellow c =
    let b = parts_of c.self.inside.body in
    let a = c.args.a in
    let here : c.args.at ≡ suc (green_count c.args.self.now) = omega (arith, c.green_count.ensures.count) in
    let next : a.id.index ≡ suc (index_in b.green_cut a.id.creator) = subst (λ q. a.id.index ≡ suc (index_in q.green_cut a.id.creator)) (sym c.self.view_is) (c.requires.next here) in
    let small : a.id.index < 2 ^ 64 = subst (λ (id : ActionId). id.index < 2 ^ 64) c.name_of.ensures.value c.name_of.ensures.small in
    let few : b.white + length b.greens < 2 ^ 62 = subst (λ q. green_count q < 2 ^ 62) (sym c.self.view_is) c.requires.few in
    let beyond : green_count (seen b) < c.args.at = subst (λ q. green_count q < c.args.at) (sym c.self.view_is) (omega (arith, c.green_count.ensures.count)) in
    let green = ap seen c.in-Ok.ensures.ok ∙ green-seen b a c.self.invariant c.name_of.ensures.creator small next few in
    let after : seen (parts_of c.forget_green.new.body) ≡ seen (parts_of c.add_green.new.body) = elim c.forget_green.ensures [
      | inl same ↦ ap seen same
      | inr less ↦ ap seen less ∙ cleared-seen (parts_of c.add_green.new.body)
    ] in
    ap (λ q. marked_green q c.args.at a) (sym c.self.view_is) ∙ green-placed (seen b) c.args.at a beyond ∙ ap (Marks Placed) (sym (after ∙ green))

pub returns-else-was_yellow : goal.returns-else-was_yellow
returns-else-was_yellow c =
    let b = parts_of c.self.inside.body in
    let a = c.args.a in
    let here : c.args.at ≡ suc (green_count c.args.self.now) = omega (arith, c.green_count.ensures.count) in
    let next : a.id.index ≡ suc (index_in b.green_cut a.id.creator) = subst (λ q. a.id.index ≡ suc (index_in q.green_cut a.id.creator)) (sym c.self.view_is) (c.requires.next here) in
    let small : a.id.index < 2 ^ 64 = subst (λ (id : ActionId). id.index < 2 ^ 64) c.name_of.ensures.value c.name_of.ensures.small in
    let few : b.white + length b.greens < 2 ^ 62 = subst (λ q. green_count q < 2 ^ 62) (sym c.self.view_is) c.requires.few in
    let beyond : green_count (seen b) < c.args.at = subst (λ q. green_count q < c.args.at) (sym c.self.view_is) (omega (arith, c.green_count.ensures.count)) in
    let green = ap seen c.in-Ok.ensures.ok ∙ green-seen b a c.self.invariant c.name_of.ensures.creator small next few in
    ap (λ q. marked_green q c.args.at a) (sym c.self.view_is) ∙ green-placed (seen b) c.args.at a beyond ∙ ap (Marks Placed) (sym green)

pub returns-in-Err : goal.returns-in-Err
returns-in-Err c = ap seen c.in-Err.ensures.err ∙ c.self.view_is

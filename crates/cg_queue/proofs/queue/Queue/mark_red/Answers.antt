use Rattle.std.proofs.Common.{◌≡◌, ◌∙◌, ◌<◌, ◌^◌, false, suc, ap, sym, subst, arith}
use Rattle.cg_base.specs.declared.action_id.ActionId.{ActionId}
use Rattle.cg_base.specs.Cuts.{index_in}
use Rattle.cg_queue.specs.declared.mark.Mark.TheVariants.{Placed}
use Rattle.cg_queue.specs.Queue.{Marks, marked_red}
use Rattle.cg_queue.specs.Body.{added_red, seen, parts_of, IsSound}
use Rattle.cg_queue.proofs.Soundness.{red-sound, red-view}
use Rattle.cg_queue.specs.MarkLaws.{red-placed}
use Rattle.cg_queue.proofs.queue.Queue.mark_red.Goals as goal

pub invariant_of-self : goal.invariant_of-self
invariant_of-self c = subst IsSound (sym c.make_red_room.ensures.same) c.self.invariant

pub returns-in_default : goal.returns-in_default
returns-in_default c = ap seen c.make_red_room.ensures.same ∙ c.self.view_is

pub invariant_of-self-2 : goal.invariant_of-self-2
invariant_of-self-2 c =
    let b = parts_of c.self.inside.body in
    let a = c.args.a in
    let same = c.name_of-id.ensures.value in
    let small : a.id.index < 2 ^ 64 = subst (λ (id : ActionId). id.index < 2 ^ 64) same c.name_of-id.ensures.small in
    let index : c.name_of-id.result.index ≡ a.id.index = ap (λ (n : ActionId). n.index) same in
    let cut : c.get-cut.result ≡ index_in b.red_cut a.id.creator = c.get-cut.ensures ∙ ap (λ (n : ActionId). index_in b.red_cut n.creator) same in
    let next : a.id.index ≡ suc (index_in b.red_cut a.id.creator) = omega arith in
    let added = c.add_red.ensures ∙ ap (λ p. added_red p a false) c.make_red_room.ensures.same in
    subst IsSound (sym added) (red-sound b a c.self.invariant c.name_of-id.ensures.creator small next)

pub returns : goal.returns
returns c =
    let b = parts_of c.self.inside.body in
    let a = c.args.a in
    let same = c.name_of-id.ensures.value in
    let small : a.id.index < 2 ^ 64 = subst (λ (id : ActionId). id.index < 2 ^ 64) same c.name_of-id.ensures.small in
    let index : c.name_of-id.result.index ≡ a.id.index = ap (λ (n : ActionId). n.index) same in
    let cut : c.get-cut.result ≡ index_in b.red_cut a.id.creator = c.get-cut.ensures ∙ ap (λ (n : ActionId). index_in b.red_cut n.creator) same in
    let next : a.id.index ≡ suc (index_in b.red_cut a.id.creator) = omega arith in
    let added = c.add_red.ensures ∙ ap (λ p. added_red p a false) c.make_red_room.ensures.same in
    ap (λ q. marked_red q a) (sym c.self.view_is)
    ∙ red-placed (seen b) a next
    ∙ ap (Marks Placed) (sym (ap seen added ∙ red-view b a c.self.invariant c.name_of-id.ensures.creator small next))

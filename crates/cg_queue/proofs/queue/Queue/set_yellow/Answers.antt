use Rattle.std.proofs.Common.{◌∙◌, ap, sym, subst}
use Rattle.cg_queue.specs.Queue.{QueueView}
use Rattle.cg_queue.specs.Body.{seen, parts_of, IsSound, renamed}
use Rattle.cg_queue.proofs.Renaming.{renamed-sound, renamed-view}
use Rattle.cg_queue.proofs.queue.Queue.set_yellow.Goals as goal
use Rattle.cg_queue.specs.Answers.{AreReds}

pub invariant_of-self : goal.invariant_of-self
invariant_of-self c =
    let b = parts_of c.self.inside.body in
    let list = c.args.list.now in
    let are : AreReds (seen b) list = subst (λ q. AreReds q list) (sym c.self.view_is) c.requires.reds in
    let made = c.rename.ensures ∙ ap (renamed b) (c.in_ok-names.ensures.items ∙ c.as_slice.ensures) in
    subst IsSound (sym made) (renamed-sound b list c.self.invariant are c.requires.distinct)

pub returns-clause-ok : goal.returns-clause-ok
returns-clause-ok c =
    let b = parts_of c.self.inside.body in
    let list = c.args.list.now in
    let are : AreReds (seen b) list = subst (λ q. AreReds q list) (sym c.self.view_is) c.requires.reds in
    let made = c.rename.ensures ∙ ap (renamed b) (c.in_ok-names.ensures.items ∙ c.as_slice.ensures) in
    let with_list : QueueView → QueueView = λ q. record q { yellow = list } in
    ap seen made ∙ renamed-view b list c.self.invariant are c.requires.distinct ∙ ap with_list c.self.view_is

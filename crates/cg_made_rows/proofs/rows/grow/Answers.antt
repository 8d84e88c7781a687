use Rattle.std.proofs.Common.{◌≡◌, ◌≤◌, List, [], ◌∷◌, ◌++◌, length, sym, ap, subst, ◌∙◌, arith}
use Rattle.cg_action.specs.declared.action.Action.{Action}
use Rattle.cg_made_rows.specs.Grown.{IsGrown}
use Rattle.cg_made_rows.proofs.Growing.{grown-more}
use Rattle.cg_made_rows.proofs.rows.grow.Goals as goal

pub loop-alloc-preserved : goal.loop-alloc-preserved
loop-alloc-preserved c =
    let rows = c.loop-alloc.rows.items in
    let short : length rows ≤ c.args.slot = omega (arith, c.loop-alloc.rows.ok) in
    let added : c.push.new.self.items ≡ rows ++ [] ∷ [] =
    c.in_ok-push.ensures.items ∙ ap (λ (row : List Action). rows ++ row ∷ []) c.new.ensures in
    subst (λ (xs : List (List Action)). IsGrown c.args.rows.now.items xs c.args.slot) (sym added)
    (grown-more c.args.rows.now.items rows c.args.slot c.loop-alloc.invariant short)

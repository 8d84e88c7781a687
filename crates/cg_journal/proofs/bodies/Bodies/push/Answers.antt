use Rattle.std.proofs.Common.{◌≡◌, length, ◌++◌, ◌∷◌, [], ◌∙◌, ap, arith}
use Rattle.cg_journal.specs.Bodies.{bodies_at}
use Rattle.cg_journal.proofs.Spans.{bodies-added}
use Rattle.cg_journal.proofs.bodies.Bodies.push.Goals as goal

pub returns : goal.returns
returns c =
    let side = c.self.inside.side.items in
    let spans = c.self.inside.spans.items in
    let body = c.args.body.now in
    let is_side = c.in_ok-extend_from_slice.ensures.items in
    let is_spans = c.in_ok-push.ensures.items in
    let long : c.len-start.result ≡ length side = omega (arith, c.len-start.ensures, c.self.inside.side.ok) in
    (λ i. bodies_at (is_side i) (is_spans i))
    ∙ ap (λ n. bodies_at (side ++ body) (spans ++ record { start = n; size = length body } ∷ [])) long
    ∙ bodies-added side body spans c.self.invariant
    ∙ ap (λ l. l ++ body ∷ []) c.self.view_is

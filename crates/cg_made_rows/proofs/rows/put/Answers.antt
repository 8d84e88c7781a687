use Rattle.std.proofs.Common.{◌≡◌, ◌<◌, length, ap, ◌∙◌, arith}
use Rattle.cg_base.specs.Lists.{row_at}
use Rattle.cg_made_rows.specs.Rows.{with_made}
use Rattle.cg_made_rows.proofs.Growing.{put-made, row-there}
use Rattle.cg_made_rows.proofs.rows.put.Goals as goal

pub returns-clause-ok : goal.returns-clause-ok
returns-clause-ok c =
    let rows = c.args.rows.now.items in
    let grown = c.grow.new.rows.items in
    let slot = c.from-slot.result in
    let a = c.args.action in
    let there : slot < length grown = omega (arith, c.in_ok-grow.ensures.ok, c.grow.new.rows.ok) in
    let before : c.index_mut.result.now ≡ row_at grown slot =
    c.index_mut.ensures.value ∙ row-there grown slot c.index_mut.result.now there in
    put-made rows grown slot a c.index_mut.result.now c.push.new.self c.in_ok-grow.ensures.grown there before
    c.in_ok-push.ensures.ok
    ∙ ap (λ p. with_made rows p a) (c.from-slot.ensures ∙ c.get.ensures.value)

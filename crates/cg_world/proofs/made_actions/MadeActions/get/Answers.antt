use Rattle.std.proofs.Common.{◌≡◌, ◌∙◌, ◌-◌, ◌<◌, ◌≤◌, suc, length, slice_get, sym, ap, arith}
use Rattle.cg_model.specs.Making.{made_by}
use Rattle.cg_world.specs.MadeActions.{row_at}
use Rattle.cg_world.proofs.Rows.{row-there, none-at, first-at}
use Rattle.cg_world.proofs.made_actions.MadeActions.get.Goals as goal
use Rattle.cg_base.specs.ListLaws.{row_at-past}

pub returns-then-len-slot : goal.returns-then-len-slot
returns-then-len-slot c =
    let rows = c.self.inside.rows in
    let p = c.args.id.creator in
    let long = rows.ok.0 in
    let at = c.get-slot.ensures.value in
    let behind : length rows.items ≤ p = omega arith in
    none-at (made_by p c.args.self.now) c.args.id.index (sym (c.self.invariant p ∙ ap (made_by p) c.self.view_is) ∙ row_at-past rows.items p behind)

pub returns : goal.returns
returns c =
    let rows = c.self.inside.rows in
    let id = c.args.id in
    let row = c.index.result.now in
    let slot = c.get-slot.result in
    let long = rows.ok.0 in
    let within : slot < length rows.items = omega arith in
    let there = c.index.ensures ∙ sym (row-there rows.items slot row within) ∙ ap (row_at rows.items) c.get-slot.ensures.value in
    c.get.ensures ∙ ap (λ xs. slice_get xs (id.index - 1)) (there ∙ c.self.invariant id.creator ∙ ap (made_by id.creator) c.self.view_is)
    ∙ first-at (made_by id.creator c.args.self.now) id.index (id.index - 1) (let some : id.index ≡ suc (id.index - 1) = omega arith in some)

use Rattle.std.proofs.Common.{suc, List, length, refl, sym, ap, subst, ◌∙◌}
use Rattle.cg_base.specs.Lists.{row_at}
use Rattle.cg_action.specs.declared.action.Action.{Action}
use Rattle.cg_made_rows.specs.Kept.{AreKept}
use Rattle.cg_made_rows.proofs.Keeping.{IsNext, kept-more}
use Rattle.cg_made_rows.proofs.made_rows.MadeRows.add.Goals as goal

pub invariant_of-self-2 : goal.invariant_of-self-2
invariant_of-self-2 c =
    let a = c.args.action in
    let rows = c.self.inside.rows.items in
    let values = c.self.inside.values.items in
    let next : IsNext rows a = record {
      index = c.if-not-is_next.ensures.next refl
          ∙ ap (λ (rs : List (List Action)). suc (length (row_at rs a.id.creator))) c.deref.ensures.value;
      small = c.if-not-is_next.ensures.small refl;
      action = c.if-not-is_next.ensures.action refl;
    } in
    subst (λ (rs : List (List Action)). AreKept rs values) (sym c.in_ok-append.ensures.ok)
    (kept-more rows values a next c.self.invariant)

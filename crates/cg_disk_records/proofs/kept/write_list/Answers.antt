use Rattle.std.proofs.Common.{◌≡◌, ◌+◌, ◌++◌, drop, sym, ap, subst, ◌∙◌, append_assoc}
use Rattle.std.specs.List.{flat_map, slice_get}
use Rattle.cg_base.specs.Fronts.{KeepsFront}
use Rattle.cg_base.specs.TextLaws.{OnErr_from, KeepsFront-is, KeepsFront-through}
use Rattle.cg_codec.specs.Fields.{number32}
use Rattle.cg_action.specs.Bytes.{spelled_action}
use Rattle.cg_disk_records.specs.Kept.{list_in, spelled_next}
use Rattle.cg_disk_records.specs.ListLaws.{next-left}
use Rattle.cg_disk_records.proofs.kept.write_list.Goals as goal

pub returns-in_err-put_next-clause-err : goal.returns-in_err-put_next-clause-err
returns-in_err-put_next-clause-err c =
    let before = c.args.out.now.items in
    let counted = c.put_u32.new.out.items in
    let some = c.loop-i.out.items in
    let first : KeepsFront before counted = KeepsFront-is before counted (number32 c.in-Some.count) c.in_ok-put_u32.ensures.ok in
    OnErr_from c.from_residual-in_err-put_next.result
    (subst (λ now. KeepsFront before now) (sym c.in_err-put_next.ensures.err) (KeepsFront-through before counted some first c.loop-i.invariant.1))

pub loop-i-preserved : goal.loop-i-preserved
loop-i-preserved c =
    let xs = list_in c.args.core.now c.args.which in
    let i = c.loop-i.i in
    let before = c.loop-i.out.items in
    let now = c.put_next.new.out.items in
    let rest = flat_map spelled_action (drop (i + 1) xs) in
    let part : now ≡ before ++ spelled_next (slice_get xs i) = c.in_ok-put_next.ensures.ok ∙ ap (λ o. before ++ spelled_next o) c.action_at.ensures in (
      ap (λ t. t ++ rest) part ∙ append_assoc before (spelled_next (slice_get xs i)) rest ∙ ap (λ t. before ++ t) (next-left xs i) ∙ c.loop-i.invariant.0,
      KeepsFront-through c.put_u32.new.out.items before now c.loop-i.invariant.1 (KeepsFront-is before now (spelled_next (slice_get xs i)) part),
    )

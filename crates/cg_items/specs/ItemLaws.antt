-- The steps of items one behind the other.
use Rattle.std.proofs.Common.{◌≡◌, List, ◌++◌, map, ap, ◌∙◌}
use Rattle.std.proofs.lemmas.List.{map-append}
use Rattle.cg_base.specs.Lists.{present}
use Rattle.cg_base.specs.ElementLaws.{present-append}
use Rattle.cg_items.specs.Items.{Item, steps_of}

pub steps-append : (xs ys : List Item) → steps_of (xs ++ ys) ≡ steps_of xs ++ steps_of ys
steps-append xs ys =
    ap present (map-append (λ (i : Item). i.step) xs ys)
    ∙ present-append (map (λ (i : Item). i.step) xs) (map (λ (i : Item). i.step) ys)

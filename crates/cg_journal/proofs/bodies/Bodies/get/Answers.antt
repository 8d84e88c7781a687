use Rattle.std.proofs.Common.{◌≡◌, ◌<◌, ◌≤◌, slice_get, length, Some, refl, sym, ◌∙◌, ap, arith}
use Rattle.std.proofs.lemmas.Bool.Decides.{nat_tests}
use Rattle.std.proofs.lemmas.Option.{slice_get-map, slice_get_read, slice_get_past}
use Rattle.std.specs.Option.{option_map}
use Rattle.cg_journal.specs.Bodies.{body_at}
use Rattle.cg_journal.specs.declared.bodies.Span.{Span}
use Rattle.cg_journal.proofs.bodies.Bodies.get.Goals as goal

pub returns-in-Some : goal.returns-in-Some
returns-in-Some c =
    let spans = c.self.inside.spans.items in
    let side = c.self.inside.side.items in
    let i = c.args.i in
    let x : Span = c.in-Some.span.now in
    let within : i < length c.deref.result.now = grind (arith, nat_tests, c.in-Some.ensures.lookup.0) in
    let at : slice_get c.deref.result.now i ≡ Some x = slice_get_read c.deref.result.now (length c.deref.result.now) i x refl within c.in-Some.ensures.lookup.1 in
    ap Some (c.body_at.ensures ∙ ap (λ l. body_at l x) c.deref-in-Some.ensures.value)
    ∙ sym (slice_get-map (body_at side) spans i ∙ ap (λ l. option_map (body_at side) (slice_get l i)) (sym c.deref.ensures.value) ∙ ap (option_map (body_at side)) at)
    ∙ ap (λ l. slice_get l i) c.self.view_is

pub returns-in-None : goal.returns-in-None
returns-in-None c =
    let spans = c.self.inside.spans.items in
    let side = c.self.inside.side.items in
    let i = c.args.i in
    let past : length c.deref.result.now ≤ i = grind (arith, nat_tests, c.in-None.ensures.lookup.0) in
    sym (slice_get-map (body_at side) spans i ∙ ap (λ l. option_map (body_at side) (slice_get l i)) (sym c.deref.ensures.value) ∙ ap (option_map (body_at side)) (slice_get_past c.deref.result.now i past))
    ∙ ap (λ l. slice_get l i) c.self.view_is

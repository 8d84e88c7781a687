use Rattle.std.proofs.Common.{◌≡◌, ◌+◌, ◌<◌, ℕ, nat_lt, true, List, [], ◌∷◌, ◌++◌, length, drop, take, sym, ◌∙◌, ap, subst, arith}
use Rattle.std.proofs.lemmas.List.{take_rest, length-drop}
use Rattle.std.proofs.lemmas.Bool.Decides.{nat_tests}
use Rattle.std.specs.Str.{bytes_eq}
use Rattle.cg_journal.specs.Records.{header, number_at}
use Rattle.cg_journal.specs.Bodies.{bodies_at, AreWithin}
use Rattle.cg_journal.specs.declared.bodies.Span.{Span}
use Rattle.cg_journal.proofs.Reading.{reads_as}
use Rattle.cg_journal.proofs.Parsing.{IsReadTo, too_short, other_header, read_unfit, read_more, read_all}
use Rattle.cg_journal.proofs.Spans.{bodies-push, within-push, body-behind}
use Rattle.cg_journal.proofs.parse.find.Goals as goal
use Rattle.std.proofs.lemmas.Bool.{not-true}

pub returns-then-side-lt9-clause-read : goal.returns-then-side-lt9-clause-read
returns-then-side-lt9-clause-read c = too_short c.args.side.now c.if-side-lt9.true

pub returns-then-not-fits-clause-read : goal.returns-then-not-fits-clause-read
returns-then-not-fits-clause-read c =
    let side = c.args.side.now in
    let gate = c.loop-gate.gate in
    read_unfit side gate (bodies_at side c.loop-gate.spans.items) c.loop-gate.invariant.0 c.loop-gate-test.true
    (ap (λ (l : List ℕ). nat_lt (4 + number_at l) (length l)) (sym (take_rest side (gate + 1))) ∙ sym c.fits.ensures ∙ c.if-not-fits.true)

pub loop-gate-preserved : goal.loop-gate-preserved
loop-gate-preserved c =
    let side = c.args.side.now in
    let gate = c.loop-gate.gate in
    let spans = c.loop-gate.spans.items in
    let size = c.size_at-size.result in
    let rest = take_rest side (gate + 1) in
    let fits : nat_lt (4 + number_at (drop (gate + 1) side)) (length (drop (gate + 1) side)) ≡ true = ap (λ (l : List ℕ). nat_lt (4 + number_at l) (length l)) (sym rest) ∙ sym c.fits.ensures ∙ c.if-not-fits.false in
    let is : size ≡ number_at (drop (gate + 1) side) = c.size_at-size.ensures ∙ ap number_at rest in
    let fit : 4 + size < length (drop (gate + 1) side) = grind (arith, nat_tests) in
    let body = take size (drop (gate + 5) side) in
    let more : IsReadTo side (gate + (5 + size)) (bodies_at side spans ++ body ∷ []) =
    read_more side gate (bodies_at side spans) c.loop-gate.invariant.0 c.loop-gate-test.true size body fits is (body-behind side gate size) (λ i. omega (arith, c.type_inv.side i)) (omega (arith, c.size_at-size.type_inv)) in
    let span : Span = record { start = gate + 5; size = size } in
    subst (λ l. IsReadTo side (gate + (5 + size)) (bodies_at side l) × AreWithin side l) (sym c.in_ok-push.ensures.items) (
      subst (IsReadTo side (gate + (5 + size))) (sym (bodies-push side spans span)) more,
      within-push side spans span c.loop-gate.invariant.1 (omega (arith, fit, length-drop (gate + 1) side)),
    )

pub returns-then-ne-clause-read : goal.returns-then-ne-clause-read
returns-then-ne-clause-read c = other_header c.args.side.now (not-true (bytes_eq (take 8 c.args.side.now) header) (sym c.ne.ensures ∙ c.if-ne.true))

pub returns-clause-read : goal.returns-clause-read
returns-clause-read c =
    let side = c.args.side.now in
    let bodies = bodies_at side c.loop-gate.spans.items in
    reads_as side (c.loop-gate.gate + 1) bodies (read_all side c.loop-gate.gate bodies c.loop-gate.invariant.0 c.loop-gate-test.false)

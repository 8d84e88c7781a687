-- Bodies where they stand, one more behind the others.
use Rattle.std.proofs.Common.{◌≡◌, ℕ, zero, suc, ◌+◌, ◌≤◌, List, [], ◌∷◌, ◌++◌, length, take, drop, refl, sym, ap, subst, ◌∙◌, arith, length-drop}
use Rattle.std.proofs.lemmas.List.{drop-drop, drop-append-le, map-append, take-append-le}
use Rattle.std.proofs.Math.Seq.{drop-append_seam, take-length}
use Rattle.cg_journal.specs.declared.bodies.Span.{Span}
use Rattle.cg_journal.specs.Bodies.{body_at, bodies_at, AreWithin}

pub bodies-push : (side : List ℕ) (spans : List Span) (s : Span) → bodies_at side (spans ++ s ∷ []) ≡ bodies_at side spans ++ body_at side s ∷ []
bodies-push side spans s = map-append (body_at side) spans (s ∷ [])

pub within-push : (side : List ℕ) (spans : List Span) (s : Span) → AreWithin side spans → s.start + s.size ≤ length side → AreWithin side (spans ++ s ∷ [])
within-push side [] s old fits zero t is = let same : s ≡ t = cc in subst (λ (u : Span). u.start + u.size ≤ length side) same fits
within-push side [] s old fits (suc i) t is = absurd cc
within-push side (x ∷ spans) s old fits zero t is = old zero t is
within-push side (x ∷ spans) s old fits (suc i) t is = within-push side spans s (λ j u e. old (suc j) u e) fits i t is

-- a body behind a gate, and behind its length
pub body-behind : (side : List ℕ) (gate size : ℕ) → take size (drop (gate + 5) side) ≡ take size (drop 4 (drop (gate + 1) side))
body-behind side gate size =
    let five : gate + 5 ≡ gate + 1 + 4 = omega arith in
    ap (λ n. take size (drop n side)) five ∙ ap (take size) (sym (drop-drop 4 (gate + 1) side))

-- bodies with more bytes behind those of the side
body-longer : (side more : List ℕ) (s : Span) → s.start + s.size ≤ length side → body_at (side ++ more) s ≡ body_at side s
body-longer side more s within =
    ap (take s.size) (drop-append-le s.start side more (omega (arith, within)))
    ∙ take-append-le s.size (drop s.start side) more (omega (arith, within, length-drop s.start side))

bodies-longer : (side more : List ℕ) (spans : List Span) → AreWithin side spans → bodies_at (side ++ more) spans ≡ bodies_at side spans
bodies-longer side more [] within = refl
bodies-longer side more (s ∷ spans) within =
    let here = body-longer side more s (within 0 s refl) in
    let rest = bodies-longer side more spans (λ i t is. within (suc i) t is) in
    λ i. here i ∷ rest i

-- one that stands there
body-last : (side body : List ℕ) → body_at (side ++ body) (record { start = length side; size = length body }) ≡ body
body-last side body = ap (take (length body)) (drop-append_seam side body) ∙ take-length body

pub bodies-added : (side body : List ℕ) (spans : List Span) → AreWithin side spans →
    bodies_at (side ++ body) (spans ++ record { start = length side; size = length body } ∷ []) ≡ bodies_at side spans ++ body ∷ []
bodies-added side body spans within =
    let last : Span = record { start = length side; size = length body } in
    let front = bodies-longer side body spans within in
    let here = body-last side body in
    bodies-push (side ++ body) spans last ∙ (λ i. front i ++ here i ∷ [])

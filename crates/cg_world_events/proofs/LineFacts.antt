-- The lines that are news, gathered node by node.
use Rattle.std.proofs.Common.{◌≡◌, ℕ, List, [], ◌∷◌, ◌++◌, filter, map, fold, sym, ap, ◌∙◌, ⊎_elim, append_assoc}
use Rattle.std.proofs.lemmas.List.{append-nil}
use Rattle.std.proofs.lemmas.Bool.{cases_Bool, cond-true, cond-false}
use Rattle.cg_base.specs.Sets.{has}
use Rattle.cg_base.specs.SetLaws.{filter-keeps, filter-drops}
use Rattle.cg_report.specs.declared.line.Line.{Line}
use Rattle.cg_model.specs.World.{Node, World}
use Rattle.cg_model.specs.Show.{is_news, line_of}
use Rattle.cg_world_events.specs.StepInProgress.{with_news, with_line}

pub lines-gathered : (set : List ℕ) (w : World) (nodes : List Node) (lines : List Line) →
    fold (with_line set w) lines nodes ≡ lines ++ filter (is_news w.lines) (map (line_of w.group) (filter (λ s. has set s.id) nodes))
lines-gathered set w [] lines = sym (append-nil lines)
lines-gathered set w (s ∷ nodes) lines =
    let l = line_of w.group s in
    let kept : List Node = filter (λ (s : Node). has set s.id) nodes in
    let news : List Node → List Line = λ list. filter (is_news w.lines) (map (line_of w.group) list) in
    ⊎_elim
    (λ inside.
    let all : news (filter (λ (s : Node). has set s.id) (s ∷ nodes)) ≡ news (s ∷ kept) = ap news (filter-keeps (λ (s : Node). has set s.id) s nodes inside) in
    ap (λ z. fold (with_line set w) z nodes) (cond-true (has set s.id) (with_news w.lines lines l) lines inside)
    ∙ ⊎_elim
    (λ y. ap (λ z. fold (with_line set w) z nodes) (cond-true (is_news w.lines l) (lines ++ l ∷ []) lines y)
    ∙ lines-gathered set w nodes (lines ++ l ∷ [])
    ∙ append_assoc lines (l ∷ []) (news kept)
    ∙ ap (λ z. lines ++ z) (sym (all ∙ filter-keeps (is_news w.lines) l (map (line_of w.group) kept) y)))
    (λ n. ap (λ z. fold (with_line set w) z nodes) (cond-false (is_news w.lines l) (lines ++ l ∷ []) lines n)
    ∙ lines-gathered set w nodes lines
    ∙ ap (λ z. lines ++ z) (sym (all ∙ filter-drops (is_news w.lines) l (map (line_of w.group) kept) n)))
    (cases_Bool (is_news w.lines l)))
    (λ outside. ap (λ z. fold (with_line set w) z nodes) (cond-false (has set s.id) (with_news w.lines lines l) lines outside)
    ∙ lines-gathered set w nodes lines
    ∙ ap (λ list. lines ++ news list) (sym (filter-drops (λ (s : Node). has set s.id) s nodes outside)))
    (cases_Bool (has set s.id))

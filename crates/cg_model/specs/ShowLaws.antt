-- What one more step shows, in lines and in counts of greens.
use Rattle.std.proofs.Common.{◌≡◌, ℕ, ◌≤◌, max, cond, List, [], ◌∷◌, ◌++◌, map, fold, Option, Some, None, IfSome, refl, sym, ap, ◌∙◌, subst, inl, inr, arith, eq-eqb}
use Rattle.std.specs.Prelude.{◌==◌}
use Rattle.std.specs.Option.{option_map_or, option_or}
use Rattle.std.proofs.lemmas.Bool.{cond_both, cases_eq, ne_eqb}
use Rattle.std.proofs.lemmas.List.{map-append, append-nil}
use Rattle.cg_base.specs.declared.action_id.ActionId.{ActionId}
use Rattle.cg_base.specs.Lists.{present, greatest}
use Rattle.cg_base.specs.ElementLaws.{flat-append, present-append}
use Rattle.cg_base.specs.ListLaws.{greatest-append}
use Rattle.cg_report.specs.declared.line.Line.{Line}
use Rattle.cg_report.specs.declared.line.UpLine.{UpLine}
use Rattle.cg_model.specs.Run.{Step}
use Rattle.cg_model.specs.Show.{answered_from}
use Rattle.cg_model.specs.Shown.{lines_in, all_up_lines}
use Rattle.cg_model.specs.Agreement.{through}
use Rattle.cg_model.specs.Telling.{latest, last_of}

pub answered_from-none : (n : ℕ) (ids : List ActionId) → answered_from n ids [] ≡ []
answered_from-none n [] = refl
answered_from-none n (id ∷ ids) = refl

abbrev pub counts_of : List UpLine → List ℕ
counts_of ups = map (λ up. up.view.green_count) ups

abbrev pub ups_in : List Line → List UpLine
ups_in lines = present (map (λ l. l.up) lines)

pub lines-last : (earlier : List Step) (s : Step) → lines_in (through earlier s) ≡ lines_in earlier ++ s.entry.lines
lines-last earlier s =
    flat-append (λ (s : Step). s.entry.lines) earlier (s ∷ []) ∙ ap (λ (ls : List Line). lines_in earlier ++ ls) (append-nil s.entry.lines)

pub counts-last : (earlier : List Step) (s : Step) → greatest (counts_of (all_up_lines (through earlier s))) ≡ max (greatest (counts_of (all_up_lines earlier))) (greatest (counts_of (ups_in s.entry.lines)))
counts-last earlier s =
    let ups : all_up_lines (through earlier s) ≡ all_up_lines earlier ++ ups_in s.entry.lines =
    ap ups_in (lines-last earlier s) ∙ ap present (map-append (λ (l : Line). l.up) (lines_in earlier) s.entry.lines) ∙ present-append (map (λ l. l.up) (lines_in earlier)) (map (λ l. l.up) s.entry.lines) in
    ap (λ list. greatest (counts_of list)) ups ∙ ap greatest (map-append (λ (up : UpLine). up.view.green_count) (all_up_lines earlier) (ups_in s.entry.lines))
    ∙ greatest-append (counts_of (all_up_lines earlier)) (counts_of (ups_in s.entry.lines))

abbrev pub count_of : Option UpLine → ℕ
count_of o = option_map_or (λ up. up.view.green_count) o 0

pub one-below : (p id : ℕ) (u o : Option UpLine) → count_of (cond (id == p) (option_or u o) o) ≤ max (count_of o) (greatest (counts_of (present (u ∷ []))))
one-below p id None o = cond_both (id == p) o o (λ x. count_of x ≤ max (count_of o) 0) (λ y. omega arith) (λ n. omega arith)
one-below p id (Some up) o = cond_both (id == p) (Some up) o (λ x. count_of x ≤ max (count_of o) (max 0 up.view.green_count)) (λ y. omega arith) (λ n. omega arith)

-- the last line, if it is of one that is up, is the last one of it up
abbrev pub IsLastUp : Option Line → Option UpLine → Type 0
IsLastUp last up = IfSome last (λ l. IfSome l.up (λ u. up ≡ Some u))

pub last-up : (p : ℕ) (lines : List Line) (last : Option Line) (up : Option UpLine) → IsLastUp last up → IsLastUp (fold (latest p) last lines) (fold (last_of p) up lines)
last-up p [] last up is = is
last-up p (l ∷ lines) last up is = last-up p lines (latest p last l) (last_of p up l) (elim (cases_eq l.id p) [
  | inl mine ↦ subst (λ b. IsLastUp (cond b (Some l) last) (cond b (option_or l.up up) up)) (sym (eq-eqb l.id p mine)) (of l.up refl)
  | inr other ↦ subst (λ b. IsLastUp (cond b (Some l) last) (cond b (option_or l.up up) up)) (sym (ne_eqb l.id p other)) is
]) where
  of : (o : Option UpLine) → l.up ≡ o → IfSome l.up (λ u. option_or l.up up ≡ Some u)
  of None e = subst (λ (o : Option UpLine). IfSome o (λ u. option_or o up ≡ Some u)) (sym e) tt
  of (Some x) e = subst (λ (o : Option UpLine). IfSome o (λ u. option_or o up ≡ Some u)) (sym e) refl

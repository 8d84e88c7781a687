-- The rows that are kept: of each creator the actions that it has made, in their order.
use Rattle.std.proofs.Common.{◌≡◌, ℕ, ◌+◌, List, [], ◌∷◌, ◌++◌, map, fold, length, refl, sym, ap, ◌∙◌, subst, inl, inr, arith, append_assoc}
use Rattle.std.specs.Prelude.{◌==◌}
use Rattle.std.proofs.lemmas.Bool.{cases_eq}
use Rattle.std.proofs.lemmas.List.{append-nil, length-append}
use Rattle.std.proofs.lemmas.List.Elements.{filter-append}
use Rattle.cg_base.specs.Lists.{row_at}
use Rattle.cg_base.specs.Cuts.{index_in}
use Rattle.cg_action.specs.declared.action.Action.{Action}
use Rattle.cg_report.specs.declared.entry.Made.{Made}
use Rattle.cg_model.specs.World.{World}
use Rattle.cg_model.specs.Run.{Step}
use Rattle.cg_model.specs.Making.{made_as, made_by, AreNextOf}
use Rattle.cg_made_rows.specs.Rows.{with_made}
use Rattle.cg_items.specs.Relaxing.{with_step}
use Rattle.cg_made_rows.specs.RowLaws.{row-same, row-other}
use Rattle.cg_model.specs.MadeRowLaws.{AreRowsOf, next-append, made_by-own, made_by-other}

-- the rows behind steps
abbrev pub rows_of : List (List Action) → List Step → List (List Action)
rows_of rows steps = fold with_step rows steps

-- ---- one action more

rows-with : (made : List Action) (rows : List (List Action)) (a : Action) → AreRowsOf made rows →
    AreRowsOf (made ++ a ∷ []) (with_made rows a.id.creator a)
rows-with made rows a are k = elim (cases_eq a.id.creator k) [
  | inl mine ↦
      ap (row_at (with_made rows a.id.creator a)) (sym mine) ∙ row-same rows a.id.creator a ∙ ap (λ n. row_at rows n ++ a ∷ []) mine
      ∙ ap (λ (list : List Action). list ++ a ∷ []) (are k) ∙ sym (made_by-own made a k mine)
  | inr other ↦ row-other rows a.id.creator a k (λ e. other (sym e)) ∙ are k ∙ sym (made_by-other made a k other)
]

-- those that a step shows as made
rows-made : (w : World) (list : List Made) (made : List Action) (rows : List (List Action)) → AreRowsOf made rows →
    AreRowsOf (made ++ map (made_as w) list) (fold (λ rows m. with_made rows m.id.creator (made_as w m)) rows list)
rows-made w [] made rows are = subst (λ (xs : List Action). AreRowsOf xs rows) (sym (append-nil made)) are
rows-made w (m ∷ list) made rows are =
    let a = made_as w m in
    subst (λ (xs : List Action). AreRowsOf xs (fold (λ rows m. with_made rows m.id.creator (made_as w m)) (with_made rows m.id.creator a) list)) (append_assoc made (a ∷ []) (map (made_as w) list))
    (rows-made w list (made ++ a ∷ []) (with_made rows m.id.creator a) (rows-with made rows a are))

pub rows-step : (made : List Action) (rows : List (List Action)) (s : Step) → AreRowsOf made rows →
    AreRowsOf (made ++ map (made_as s.world) s.entry.made) (with_step rows s)
rows-step made rows s are = rows-made s.world s.entry.made made rows are

-- ---- all that was made, numbered

-- those of each creator are numbered from 1, as many as were shown as made
pub record AreNumbered (w : World) (made : List Action) : Type 0 where
  pub count : (p : ℕ) → length (made_by p made) ≡ index_in w.made p
  pub numbered : (p : ℕ) → AreNextOf p 0 (made_by p made)

pub numbered-on : (w v : World) (made list : List Action) → AreNumbered w made →
    ((p : ℕ) → AreNextOf p (index_in w.made p) (made_by p list)) →
    ((p : ℕ) → index_in v.made p ≡ index_in w.made p + length (made_by p list)) → AreNumbered v (made ++ list)
numbered-on w v made list are next count =
    record {
      count = λ p.
          ap length (filter-append (λ (a : Action). a.id.creator == p) made list) ∙ length-append (made_by p made) (made_by p list)
          ∙ ap (λ n. n + length (made_by p list)) (are.count p) ∙ sym (count p);
      numbered = λ p. subst (AreNextOf p 0) (sym (filter-append (λ (a : Action). a.id.creator == p) made list))
          (next-append p 0 (index_in w.made p) (made_by p made) (made_by p list) (are.numbered p) (let all = are.count p in omega arith) (next p));
    }

-- no row has anything
pub no-rows : AreRowsOf [] []
no-rows p = refl
